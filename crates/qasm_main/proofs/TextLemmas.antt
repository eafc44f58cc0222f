-- Texts that are put one after another.
use Rattle.std.proofs.Common.{◌≡◌, ℕ, List, ◌++◌, ap, sym, ◌∙◌, subst}
use Rattle.std.specs.Prelude.{Result, Ok, Err}
use Rattle.outside.specs.declared.sink.PutFailed.{PutFailed}
use Rattle.outside.specs.Sink.{PutsText, SinkState, StopsIn, with_text}
use Rattle.outside.proofs.Texts.{stops-behind, stops-more, with_text-append}

-- a text that is put after one that was put whole
pub puts-after : (start mid new : SinkState) (front text : List ℕ) (result : Result (Unit {0}) PutFailed) → mid ≡ with_text start front → PutsText mid new text result
    → PutsText start new (front ++ text) result
puts-after start mid new front text (Ok done) whole put = put ∙ ap (λ s. with_text s text) whole ∙ with_text-append start front text
puts-after start mid new front text (Err failed) whole stops = stops-behind start mid new front text whole stops

-- a text in which a fault came, before more that isn't put
pub stops-before : (start new : SinkState) (front text : List ℕ) (failed : PutFailed) (result : Result (Unit {0}) PutFailed) → result ≡ Err failed → StopsIn start new front
    → PutsText start new (front ++ text) result
stops-before start new front text failed result is stops = subst (PutsText start new (front ++ text)) (sym is) (stops-more start new front text stops)
