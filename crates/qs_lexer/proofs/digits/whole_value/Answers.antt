use Rattle.std.proofs.Common.{◌≡◌, [], ◌∷◌, ◌∙◌, ◌^◌, ap, sym, subst}
use Rattle.std.specs.Prelude.{min}
use Rattle.std.specs.Str.{IsUtf8, chars}
use Rattle.std.proofs.lemmas.Str.{chars_past_char, IsUtf8-past_char}
use Rattle.qs_lexer.specs.Values.{based_value, value_of, whole_value}
use Rattle.qs_lexer.proofs.TextLemmas.{chars_at_end}
use Rattle.qs_lexer.proofs.digits.whole_value.Goals as goal

pub returns-in_default-next : goal.returns-in_default-next
returns-in_default-next c =
    let start = c.chars-ahead.ensures.rest in
    let one = chars_past_char _ _ _ (subst IsUtf8 (sym start) c.utf8.text) c.in-Some.ensures.steps.0 in
    let whole : chars c.args.text.now ≡ c.in-Some.field-0 ∷ [] =
    ap chars (sym start) ∙ one ∙ ap (λ t. c.in-Some.field-0 ∷ t) (chars_at_end _ c.in_default-next.ensures.steps.0.0) in
    c.decimal_value.ensures ∙ ap (λ n. min n (2 ^ 64)) (ap (value_of 10) whole ∙ sym (ap whole_value whole))

pub returns : goal.returns
returns c =
    let start = c.chars-ahead.ensures.rest in
    let utf8 = subst IsUtf8 (sym start) c.utf8.text in
    let one = chars_past_char _ _ _ utf8 c.in-Some.ensures.steps.0 in
    let two = chars_past_char _ _ _ (IsUtf8-past_char _ _ _ utf8 c.in-Some.ensures.steps.0) c.in-Some-next.ensures.steps.0 in
    let letter = c.in-Some-next.letter in
    let digits = chars c.as_str.result.now in
    let whole : chars c.args.text.now ≡ c.in-Some.field-0 ∷ letter ∷ digits =
    ap chars (sym start) ∙ one ∙ ap (λ t. c.in-Some.field-0 ∷ t) (two ∙ ap (λ t. letter ∷ chars t) (sym c.as_str.ensures)) in
    c.based_value.ensures ∙ ap (λ n. min n (2 ^ 64)) (ap (λ t. based_value t letter digits) whole ∙ sym (ap whole_value whole))
