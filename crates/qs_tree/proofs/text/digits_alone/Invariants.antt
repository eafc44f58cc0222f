use Rattle.std.proofs.Common.{◌≡◌, ◌++◌, drop}
use Rattle.std.specs.String.{string_bytes}
use Rattle.qs_tree.specs.Texts.{digits_alone}
use Rattle.qs_tree.proofs.text.digits_alone.Given as goal

abbrev pub invariant-loop-byte : goal.invariant-loop-byte
invariant-loop-byte l = string_bytes l.digits ++ digits_alone (drop l.byte-index l.text) ≡ digits_alone l.fn.text
