use Rattle.std.proofs.Common.{rules, ◌≡◌, subst, sym, true, length, ◌≤◌, false, IsTrue}
use Rattle.qs_lexer.specs.Forms.{goes_on, is_binary_digit}
use Rattle.qs_tree.specs.Texts.{digits_alone, is_bits}
use Rattle.qs_tree.proofs.DigitLemmas.{bits_made}
use Rattle.qs_tree.proofs.text.bits_of.Goals as goal

pub invariant_of-result : goal.invariant_of-result
invariant_of-result c =
    let inner = c.inner_text-inner.result.now in
    let same : c.from_string-text.result ≡ digits_alone inner = search rules in
    let few : length (digits_alone inner) ≤ 64 = search rules in
    let formed : goes_on is_binary_digit false inner ≡ true = search rules in
    record { binary = subst (λ text. IsTrue (is_bits text)) (sym same) (bits_made inner formed few) }
