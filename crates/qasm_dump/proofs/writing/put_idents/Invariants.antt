use Rattle.std.proofs.Common.{◌≡◌, drop, map}
use Rattle.qasm_dump.specs.Trees.{after_commas, ident, idents}
use Rattle.qasm_dump.proofs.writing.put_idents.Given as goal

abbrev pub invariant-loop-part : goal.invariant-loop-part
invariant-loop-part l = after_commas (map ident (drop l.part-index l.others)) l.out.items ≡ idents l.fn.each l.fn.out.items
