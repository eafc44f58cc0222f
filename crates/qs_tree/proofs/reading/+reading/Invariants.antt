use Rattle.std.proofs.Common.{◌≡◌, ◌||◌, drop, map}
use Rattle.qs_tree.specs.Reading.{any_reads, expr_reads, item_reads, modifier_reads, operand_reads, param_reads, stmt_reads}
use Rattle.qs_tree.proofs.reading.+reading.Given as goal

abbrev pub invariant-exprs_read-loop-part : goal.invariant-exprs_read-loop-part
invariant-exprs_read-loop-part g l = (l.any || any_reads (map (expr_reads (g.V.Variables.test l.fn.variables)) (drop l.part-index l.parts))) ≡ any_reads (map (expr_reads (g.V.Variables.test l.fn.variables)) l.fn.parts)

abbrev pub invariant-items_read-loop-part : goal.invariant-items_read-loop-part
invariant-items_read-loop-part g l = (l.any || any_reads (map (item_reads (g.V.Variables.test l.fn.variables)) (drop l.part-index l.parts))) ≡ any_reads (map (item_reads (g.V.Variables.test l.fn.variables)) l.fn.parts)

abbrev pub invariant-modifiers_read-loop-part : goal.invariant-modifiers_read-loop-part
invariant-modifiers_read-loop-part g l = (l.any || any_reads (map (modifier_reads (g.V.Variables.test l.fn.variables)) (drop l.part-index l.parts))) ≡ any_reads (map (modifier_reads (g.V.Variables.test l.fn.variables)) l.fn.parts)

abbrev pub invariant-operands_read-loop-part : goal.invariant-operands_read-loop-part
invariant-operands_read-loop-part g l = (l.any || any_reads (map (operand_reads (g.V.Variables.test l.fn.variables)) (drop l.part-index l.parts))) ≡ any_reads (map (operand_reads (g.V.Variables.test l.fn.variables)) l.fn.parts)

abbrev pub invariant-params_read-loop-part : goal.invariant-params_read-loop-part
invariant-params_read-loop-part g l = (l.any || any_reads (map (param_reads (g.V.Variables.test l.fn.variables)) (drop l.part-index l.parts))) ≡ any_reads (map (param_reads (g.V.Variables.test l.fn.variables)) l.fn.parts)

abbrev pub invariant-stmts_read-loop-part : goal.invariant-stmts_read-loop-part
invariant-stmts_read-loop-part g l = (l.any || any_reads (map (stmt_reads (g.V.Variables.test l.fn.variables)) (drop l.part-index l.parts))) ≡ any_reads (map (stmt_reads (g.V.Variables.test l.fn.variables)) l.fn.parts)
