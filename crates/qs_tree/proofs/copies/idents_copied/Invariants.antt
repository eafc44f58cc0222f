use Rattle.std.proofs.Common.{◌≡◌, ◌++◌, drop}
use Rattle.qs_tree.proofs.copies.idents_copied.Given as goal

abbrev pub invariant-loop-part : goal.invariant-loop-part
invariant-loop-part l = l.made.items ++ drop l.part-index l.parts ≡ l.fn.parts
