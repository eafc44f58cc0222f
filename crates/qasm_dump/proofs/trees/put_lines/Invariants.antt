use Rattle.std.proofs.Common.{◌≡◌, drop}
use Rattle.qasm_dump.specs.Trees.{lines}
use Rattle.qasm_dump.proofs.trees.put_lines.Given as goal

abbrev pub invariant-loop-part : goal.invariant-loop-part
invariant-loop-part l = lines (drop l.part-index l.each) l.out.items ≡ lines l.fn.each l.fn.out.items
