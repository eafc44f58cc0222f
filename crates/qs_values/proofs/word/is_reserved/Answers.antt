use Rattle.std.proofs.Common.{rules, tests, ◌≡◌, ◌∙◌, ap}
use Rattle.std.specs.List.{list_any}
use Rattle.std.specs.Str.{bytes_eq}
use Rattle.std.proofs.lemmas.Iterator.{YieldsList-from_slice}
use Rattle.std.proofs.lemmas.Iterator.Search.{any_from_yields_List}
use Rattle.qs_values.proofs.WordLemmas.{any-map, reserved_by_first}
use Rattle.qs_values.proofs.word.is_reserved.Goals as goal

pub returns-in-Some : goal.returns-in-Some
returns-in-Some c =
    let text = c.args.text.now in
    let words = c.reserved_with.result.now in
    let found : c.any.result ≡ list_any (λ word. bytes_eq text word.now) words = any_from_yields_List (λ word. bytes_eq text word.now) _ _ c.any.result c.any.ensures.ran (YieldsList-from_slice _ c.iter.ensures.rest) (λ x b q k. search (rules, tests)) in
    found ∙ any-map (bytes_eq text) (λ word. word.now) words ∙ ap (list_any (bytes_eq text)) c.reserved_with.ensures
    ∙ reserved_by_first text c.in-Some.first.now (rw c.as_bytes.ensures.value at c.in-Some.ensures.value)
