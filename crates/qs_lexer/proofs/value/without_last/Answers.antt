use Rattle.std.proofs.Common.{rules, tests, ◌≡◌, ◌∙◌, ◌^◌, ◌-◌, length, take, ap, sym, arith}
use Rattle.std.specs.Prelude.{min}
use Rattle.std.specs.List.{fold}
use Rattle.std.specs.Str.{chars}
use Rattle.std.proofs.lemmas.Iterator.{YieldsList-from_chars, YieldsList-from_take}
use Rattle.std.proofs.lemmas.Iterator.Consumers.{YieldsList-at, YieldsList-from_filter, fold_from_yields_List}
use Rattle.std.proofs.lemmas.Iterator.Search.{YieldsList-from_take_while}
use Rattle.std.proofs.lemmas.List.Sums.{length-filter}
use Rattle.qs_lexer.specs.Values.{is_mantissa, mantissa, value_of, with_digit}
use Rattle.qs_lexer.proofs.CutFolds.{cut_digits}
use Rattle.qs_lexer.proofs.LeadingDigits.{digits_of, is_decimal, leading_digits}
use Rattle.qs_lexer.proofs.value.without_last.Goals as goal

pub returns : goal.returns
returns c =
    let number = mantissa (chars c.args.text.now) in
    let left = c.saturating_sub-left.result in
    let count : left ≡ length (digits_of number) - c.args.last = c.saturating_sub-left.ensures ∙ ap (λ n. n - c.args.last) (c.digits.ensures ∙ sym (length-filter is_decimal number)) in
    let folded : c.fold.result ≡ fold (λ n d. min (with_digit 10 n d) (10 ^ 36)) 0 (take left (digits_of number)) = fold_from_yields_List _ (λ n d. min (with_digit 10 n d) (10 ^ 36)) 0 c.fold.result c.fold.ensures.ran (YieldsList-from_take left (YieldsList-at c.take.ensures.source (YieldsList-from_filter _ is_decimal (YieldsList-at c.filter.ensures.source (YieldsList-from_take_while _ is_mantissa (YieldsList-at c.take_while.ensures.source (YieldsList-from_chars c.args.text.now c.utf8.text cc)) c.take_while.ensures.closure c.take_while.ensures.done (λ x b q k. search (rules, tests)))) c.filter.ensures.closure (λ x b q k. search (rules, tests)))) c.take.ensures.count) (λ a x r q k. search (rules, tests)) in
    folded ∙ cut_digits 10 (10 ^ 36) (omega arith) (take left (digits_of number)) ∙ ap (λ n. min n (10 ^ 36)) (ap (λ k. value_of 10 (take k (digits_of number))) count ∙ leading_digits c.args.last number)
