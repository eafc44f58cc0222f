use Rattle.std.proofs.Common.{◌≡◌, ◌∙◌, ◌+◌, ◌*◌, ◌/◌, ◌^◌, ◌≤◌, length, drop, ap, sym, true, false, arith}
use Rattle.std.specs.Prelude.{min, nat_eq, if◌then◌else◌}
use Rattle.qs_lexer.specs.Forms.{begins}
use Rattle.std.specs.Str.{chars}
use Rattle.qs_lexer.specs.Values.{exponent, has_minus, mantissa, places, value_of}
use Rattle.qs_lexer.proofs.LeadingDigits.{digits_of, value_below}
use Rattle.qs_lexer.proofs.Mantissas.{few_digits, few_places}
use Rattle.qs_lexer.proofs.Shifts.{cut_minus, cut_plus}
use Rattle.qs_lexer.proofs.value.scaled.Goals as goal

pub returns-then-has_minus : goal.returns-then-has_minus
returns-then-has_minus c =
    let text = chars c.args.text.now in
    let m = value_of 10 (mantissa text) in
    let p = places (mantissa text) in
    let front = c.requires.mantissa in
    let minus : true ≡ has_minus text = sym c.if-has_minus.true ∙ c.has_minus.ensures ∙ ap (λ t. begins (nat_eq 45) (drop 1 t)) front.behind in
    let size : c.exponent-exponent.result ≡ min (exponent text) 2_000_000 = c.exponent-exponent.ensures ∙ ap (λ t. min (value_of 10 t) 2_000_000) front.behind in
    let down : c.args.places + c.exponent-exponent.result ≡ p + min (exponent text) 2_000_000 = omega (arith, front.places, size) in
    let far : length (digits_of (mantissa text)) + 17 ≤ 2_000_000 = omega (arith, few_digits text, c.requires.short) in
    c.shifted.ensures
    ∙ ap (λ k. min (m * 10 ^ 17 / 10 ^ k) (10 ^ 36)) down
    ∙ ap (λ n. min n (10 ^ 36)) (cut_minus m p (exponent text) 2_000_000 (length (digits_of (mantissa text))) (value_below (mantissa text)) far ∙ ap (λ b. if b then (m * 10 ^ 17) / (10 ^ (p + exponent text)) else (m * 10 ^ (17 + exponent text)) / (10 ^ p)) minus)

pub returns-else-has_minus : goal.returns-else-has_minus
returns-else-has_minus c =
    let text = chars c.args.text.now in
    let m = value_of 10 (mantissa text) in
    let p = places (mantissa text) in
    let front = c.requires.mantissa in
    let minus : false ≡ has_minus text = sym c.if-has_minus.false ∙ c.has_minus.ensures ∙ ap (λ t. begins (nat_eq 45) (drop 1 t)) front.behind in
    let size : c.exponent-exponent.result ≡ min (exponent text) 2_000_000 = c.exponent-exponent.ensures ∙ ap (λ t. min (value_of 10 t) 2_000_000) front.behind in
    let far : p + 36 ≤ 2_000_000 = omega (arith, few_places text, c.requires.short) in
    c.shifted-else-has_minus.ensures
    ∙ ap (λ k. min (m * 10 ^ (17 + k) / 10 ^ c.args.places) (10 ^ 36)) size
    ∙ ap (λ k. min (m * 10 ^ (17 + min (exponent text) 2_000_000) / 10 ^ k) (10 ^ 36)) front.places
    ∙ cut_plus m p (exponent text) 2_000_000 far
    ∙ ap (λ b. min (if b then (m * 10 ^ 17) / (10 ^ (p + exponent text)) else (m * 10 ^ (17 + exponent text)) / (10 ^ p)) (10 ^ 36)) minus
