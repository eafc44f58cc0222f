use Rattle.std.proofs.Common.{◌≡◌, ◌++◌, drop, map}
use Rattle.qs_tree.specs.Substitution.{item_substituted, modifier_substituted, operand_substituted, param_substituted, stmt_substituted, substituted}
use Rattle.qs_tree.proofs.substitution.+substitution.Given as goal

abbrev pub invariant-exprs_substituted-loop-part : goal.invariant-exprs_substituted-loop-part
invariant-exprs_substituted-loop-part g l = l.made.items ++ map (substituted (g.R.Replacing.put_in l.fn.names)) (drop l.part-index l.parts) ≡ map (substituted (g.R.Replacing.put_in l.fn.names)) l.fn.parts

abbrev pub invariant-calibrations::items_substituted-loop-part : goal.invariant-calibrations::items_substituted-loop-part
invariant-calibrations::items_substituted-loop-part g l = l.made.items ++ map (item_substituted (g.R.Replacing.put_in l.fn.names)) (drop l.part-index l.parts) ≡ map (item_substituted (g.R.Replacing.put_in l.fn.names)) l.fn.parts

abbrev pub invariant-gates::modifiers_substituted-loop-part : goal.invariant-gates::modifiers_substituted-loop-part
invariant-gates::modifiers_substituted-loop-part g l = l.made.items ++ map (modifier_substituted (g.R.Replacing.put_in l.fn.names)) (drop l.part-index l.parts) ≡ map (modifier_substituted (g.R.Replacing.put_in l.fn.names)) l.fn.parts

abbrev pub invariant-operands::operands_substituted-loop-part : goal.invariant-operands::operands_substituted-loop-part
invariant-operands::operands_substituted-loop-part g l = l.made.items ++ map (operand_substituted (g.R.Replacing.put_in l.fn.names)) (drop l.part-index l.parts) ≡ map (operand_substituted (g.R.Replacing.put_in l.fn.names)) l.fn.parts

abbrev pub invariant-calibrations::params_substituted-loop-part : goal.invariant-calibrations::params_substituted-loop-part
invariant-calibrations::params_substituted-loop-part g l = l.made.items ++ map (param_substituted (g.R.Replacing.put_in l.fn.names)) (drop l.part-index l.parts) ≡ map (param_substituted (g.R.Replacing.put_in l.fn.names)) l.fn.parts

abbrev pub invariant-statements::stmts_substituted-loop-part : goal.invariant-statements::stmts_substituted-loop-part
invariant-statements::stmts_substituted-loop-part g l = l.made.items ++ map (stmt_substituted (g.R.Replacing.put_in l.fn.names)) (drop l.part-index l.parts) ≡ map (stmt_substituted (g.R.Replacing.put_in l.fn.names)) l.fn.parts
