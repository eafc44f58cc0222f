use Rattle.std.proofs.Common.{rules, tests, ◌≡◌, ◌++◌, ◌∙◌, sym, true}
use Rattle.std.proofs.lemmas.Str.{chars_past_char, IsUtf8-past_char}
use Rattle.std.specs.Str.{chars}
use Rattle.std.proofs.lemmas.Iterator.{YieldsList-from_chars}
use Rattle.std.proofs.lemmas.Iterator.Search.{all_from_yields_List}
use Rattle.std.specs.List.{list_all}
use Rattle.qs_values.specs.Names.{begins_word, continues_word}
use Rattle.qs_values.proofs.word.is_word.Goals as goal

pub returns-then-begins_word : goal.returns-then-begins_word
returns-then-begins_word c =
    let text = c.args.text.now in
    let rest = c.next.new.self.rest.now in
    let cut : text ≡ _ ++ rest = sym c.chars-characters.ensures.rest ∙ c.in-Some.ensures.steps.0 in
    let utf8 = IsUtf8-past_char text rest c.in-Some.first c.utf8.text cut in
    let all : c.all.result ≡ list_all continues_word (chars rest) = all_from_yields_List continues_word _ _ c.all.result c.all.ensures.ran (YieldsList-from_chars rest utf8 cc) (λ x b q k. search (rules, tests)) in
    let begins : begins_word c.in-Some.first ≡ true = sym c.begins_word.ensures ∙ c.if-begins_word.true in
    rw (chars_past_char text rest c.in-Some.first c.utf8.text cut, begins) all
