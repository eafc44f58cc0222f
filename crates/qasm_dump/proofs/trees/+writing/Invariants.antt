use Rattle.std.proofs.Common.{◌≡◌, ◌++◌, drop, map}
use Rattle.std.specs.Prelude.{codes}
use Rattle.qasm_dump.specs.Trees.{after_blanks, after_commas, in_braces, operands_after, parts, with_commas, write_expr, write_item, write_modifier, write_operand, write_param, write_stmt}
use Rattle.qasm_dump.proofs.trees.+writing.Given as goal

abbrev pub invariant-put_exprs-loop-part : goal.invariant-put_exprs-loop-part
invariant-put_exprs-loop-part l = after_commas (map write_expr (drop l.part-index l.others)) l.out.items ≡ with_commas (map write_expr l.fn.each) l.fn.out.items

abbrev pub invariant-put_params-loop-part : goal.invariant-put_params-loop-part
invariant-put_params-loop-part l = after_commas (map write_param (drop l.part-index l.others)) l.out.items ≡ with_commas (map write_param l.fn.each) l.fn.out.items

abbrev pub invariant-put_operands-loop-part : goal.invariant-put_operands-loop-part
invariant-put_operands-loop-part l = after_commas (map write_operand (drop l.part-index l.others)) l.out.items ≡ operands_after (map write_operand l.fn.each) l.fn.out.items

abbrev pub invariant-put_modifiers-loop-part : goal.invariant-put_modifiers-loop-part
invariant-put_modifiers-loop-part l = parts (map write_modifier (drop l.part-index l.each)) l.out.items ≡ parts (map write_modifier l.fn.each) l.fn.out.items

abbrev pub invariant-put_block-loop-part : goal.invariant-put_block-loop-part
invariant-put_block-loop-part l = (after_blanks (map write_stmt (drop l.part-index l.each)) l.out.items ++ codes " }") ≡ in_braces (map write_stmt l.fn.each) l.fn.out.items

abbrev pub invariant-put_items-loop-part : goal.invariant-put_items-loop-part
invariant-put_items-loop-part l = (after_blanks (map write_item (drop l.part-index l.each)) l.out.items ++ codes " }") ≡ in_braces (map write_item l.fn.each) l.fn.out.items
