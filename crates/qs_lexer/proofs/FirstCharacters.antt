-- The first character of a word is none of the others that a piece begins with.
use Rattle.std.proofs.Common.{◌≡◌, ℕ, ◌<◌, Bool, true, false, ◌&&◌, ◌||◌, nat_eq, refl, arith, sym, ◌∙◌, true≢false}
use Rattle.std.proofs.lemmas.Bool.{agree_below_at, false_from_ne_true, and_from, or_parts}
use Rattle.std.proofs.lemmas.Bool.Decides.{nat_tests}
use Rattle.std.specs.Char.{is_ascii_alphabetic, is_ascii_digit}
use Rattle.qs_values.specs.Names.{begins_word}
use Rattle.qs_values.proofs.AsciiWords.{begins_word-ascii}
use Rattle.qs_lexer.specs.declared.state.State.TheVariants.{Word}
use Rattle.qs_lexer.specs.Forms.{is_blank}
use Rattle.qs_lexer.specs.steps.Scan.{at_start, is_one_sign}

-- the characters that begin a piece other than a word
abbrev begins_other : ℕ → Bool
begins_other c = is_blank c || (nat_eq c 47 || (nat_eq c 64 || (nat_eq c 35 || (nat_eq c 36 || (nat_eq c 34 || (nat_eq c 48 || (nat_eq c 46 || (is_ascii_digit c || is_one_sign c))))))))

-- of ASCII, the characters that begin a word
abbrev begins_letter : ℕ → Bool
begins_letter c = nat_eq c 95 || is_ascii_alphabetic c

below_of_other : (c : ℕ) → begins_other c ≡ true → c < 128
below_of_other c h = grind (arith, nat_tests)

word_or_other : (c : ℕ) → begins_word c ≡ true → begins_other c ≡ false
word_or_other c word = false_from_ne_true (begins_other c) (λ other.
    let below = below_of_other c other in
    let letter : begins_letter c ≡ true = sym (begins_word-ascii c below) ∙ word in
    true≢false (sym (and_from (begins_letter c) (begins_other c) letter other) ∙ agree_below_at (λ d. begins_letter d && begins_other d) (λ d. false) 128 c refl below))

-- a word's first character, unless it begins a pragma
pub word_starts : (first : Bool) (c : ℕ) → begins_word c ≡ true → (nat_eq c 112 && first) ≡ false → at_start first c ≡ Word
word_starts first c word no_pragma =
    let blank = or_parts (is_blank c) _ (word_or_other c word) in
    let slash = or_parts (nat_eq c 47) _ blank.1 in
    let at = or_parts (nat_eq c 64) _ slash.1 in
    let hash = or_parts (nat_eq c 35) _ at.1 in
    let dollar = or_parts (nat_eq c 36) _ hash.1 in
    let quote = or_parts (nat_eq c 34) _ dollar.1 in
    let zero = or_parts (nat_eq c 48) _ quote.1 in
    let point = or_parts (nat_eq c 46) _ zero.1 in
    let digit = or_parts (is_ascii_digit c) _ point.1 in
    rw (digit.1, word, blank.0, slash.0, at.0, hash.0, no_pragma, dollar.0, quote.0, zero.0, point.0, digit.0) refl
