-- The operators that make truth values alone (OpenQASM 3.0, expressions).
use Rattle.std.specs.Prelude.{Bool, true, false}
use Rattle.qs_tree.specs.declared.operator.UnOp.{UnOp}
use Rattle.qs_tree.specs.declared.operator.UnOp.TheVariants.{Not}
use Rattle.qs_tree.specs.declared.operator.BinOp.{BinOp}
use Rattle.qs_tree.specs.declared.operator.BinOp.TheVariants.{Less, LessEqual, Greater, GreaterEqual, Equal, NotEqual, And, Or}

-- whether an operator before an operand does
abbrev pub un_gives_truth : UnOp → Bool
un_gives_truth Not = true
un_gives_truth op = false

-- whether an operator between two operands does
abbrev pub bin_gives_truth : BinOp → Bool
bin_gives_truth Less = true
bin_gives_truth LessEqual = true
bin_gives_truth Greater = true
bin_gives_truth GreaterEqual = true
bin_gives_truth Equal = true
bin_gives_truth NotEqual = true
bin_gives_truth And = true
bin_gives_truth Or = true
bin_gives_truth op = false
