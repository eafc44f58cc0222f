-- What names of pi, and texts in quotes, come to.
use Rattle.std.proofs.Common.{◌≡◌, ℕ, List, Some, refl, pos}
use Rattle.qs_values.specs.declared.number.Num.{Num}
use Rattle.qs_values.specs.declared.span.Span.{Span}
use Rattle.qs_tree.specs.declared.constant.ConstVal.TheVariants.{Bits, Number}
use Rattle.qs_tree.specs.declared.constant.Digits.{Digits}
use Rattle.qs_tree.specs.Texts.{bits_of}
use Rattle.qs_const.specs.declared.judgement.Kinds.{Kinds}
use Rattle.qs_const.specs.declared.judgement.Judgement.TheVariants.{Value}
use Rattle.qs_const.specs.Judging.{NameComesTo, TextComesTo, times_pi}
use Rattle.qs_const.specs.Scopes.{Scope}
use Rattle.qs_const.proofs.SmallNumbers.{is_whole_frac}

pub comes_to_pi : (scope : Scope) (span : Span) (name : List ℕ) (n : ℕ) (x : Num) → times_pi name ≡ Some n → x.plain.num ≡ pos 0 → x.plain.den ≡ pos 1 → x.pi.num ≡ pos n → x.pi.den ≡ pos 1 → NameComesTo scope span name (Value (Number x))
comes_to_pi scope span name n x is p q r s = rw (is, NameComesTo) (x, (is_whole_frac x.plain (pos 0) p q, is_whole_frac x.pi (pos n) r s), refl)

pub comes_to_digits : (any : Kinds) (span : Span) (text : List ℕ) (digits : Digits) → bits_of text ≡ Some digits.text → TextComesTo any span text (Value (Bits digits))
comes_to_digits any span text digits is = rw (is, TextComesTo) (digits, refl, refl)
