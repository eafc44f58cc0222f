use Rattle.std.proofs.Common.{◌≡◌, drop, false}
use Rattle.qs_lexer.specs.Forms.{goes_on, is_binary_digit}
use Rattle.qs_tree.proofs.text.is_of_digits.Given as goal

abbrev pub invariant-loop-byte : goal.invariant-loop-byte
invariant-loop-byte l = goes_on is_binary_digit l.behind (drop l.byte-index l.text) ≡ goes_on is_binary_digit false l.fn.text
