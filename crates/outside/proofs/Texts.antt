-- Texts that are put piece by piece.
use Rattle.std.proofs.Common.{◌≡◌, ℕ, ◌+◌, List, [], ◌++◌, length, take, drop, refl, ap, sym, ◌∙◌, subst, arith, append_assoc, length-append, Bool, true, false}
use Rattle.std.specs.Prelude.{Option, Some, None}
use Rattle.std.proofs.lemmas.List.{append-nil, take-append-drop, take-append-le}
use Rattle.std.proofs.Math.Seq.{take-append_seam, take-append-add}
use Rattle.outside.specs.Faults.{Rose}
use Rattle.outside.specs.Sink.{SinkState, appended, with_text, StopsIn}
use Rattle.outside.specs.Text.{Waiting, HasPut, IsAt, IsAtBy, PutsUnless, GoesOn}

pub appended-append : (bytes : Option (List ℕ)) (xs ys : List ℕ) → appended (appended bytes xs) ys ≡ appended bytes (xs ++ ys)
appended-append None xs ys = refl
appended-append (Some bytes) xs ys = ap Some (append_assoc bytes xs ys)

pub appended-nil : (bytes : Option (List ℕ)) → appended bytes [] ≡ bytes
appended-nil None = refl
appended-nil (Some bytes) = ap Some (append-nil bytes)

pub with_text-nil : (s : SinkState) → with_text s [] ≡ s
with_text-nil s = ap (λ b. let n : SinkState = record { bytes = b; faults = s.faults } in n) (appended-nil s.bytes)

pub with_text-append : (s : SinkState) (xs ys : List ℕ) → with_text (with_text s xs) ys ≡ with_text s (xs ++ ys)
with_text-append s xs ys = ap (λ b. let n : SinkState = record { bytes = b; faults = s.faults } in n) (appended-append s.bytes xs ys)

-- nothing was put yet
pub put-none : (s : SinkState) (text : List ℕ) → HasPut s s text text
put-none s text = record { front = []; cut = refl; state = sym (with_text-nil s) }

-- a front of what waits was put
pub put-more : (start mid new : SinkState) (waiting text : List ℕ) (n : ℕ) → HasPut start mid waiting text → new ≡ with_text mid (take n waiting) → HasPut start new (drop n waiting) text
put-more start mid new waiting text n h e = record {
  front = h.front ++ take n waiting;
  cut = h.cut ∙ ap (λ xs. h.front ++ xs) (sym (take-append-drop n waiting)) ∙ sym (append_assoc h.front (take n waiting) (drop n waiting));
  state = e ∙ ap (λ m. with_text m (take n waiting)) h.state ∙ with_text-append start h.front (take n waiting);
}

-- a fault came when the rest waited
pub put-stops : (start mid new : SinkState) (waiting text : List ℕ) → HasPut start mid waiting text → Rose mid.faults new.faults → new.bytes ≡ mid.bytes → StopsIn start new text
put-stops start mid new waiting text h rose same = record {
  rose = subst (λ m. Rose m.faults new.faults) h.state rose;
  count = length h.front;
  within = omega (arith, ap length h.cut, length-append h.front waiting);
  bytes = same ∙ ap (λ m. m.bytes) h.state ∙ ap (λ xs. appended start.bytes xs) (sym (take-append_seam h.front waiting) ∙ ap (λ xs. take (length h.front) xs) (sym h.cut));
}

-- a text that stopped stops in a longer one too
pub stops-more : (start now : SinkState) (text more : List ℕ) → StopsIn start now text → StopsIn start now (text ++ more)
stops-more start now text more s = record {
  rose = s.rose;
  count = s.count;
  within = omega (arith, s.within, length-append text more);
  bytes = s.bytes ∙ ap (λ xs. appended start.bytes xs) (let within = s.within in sym (take-append-le s.count text more within));
}

-- a text after another that was put whole
pub stops-behind : (start mid new : SinkState) (front text : List ℕ) → mid ≡ with_text start front → StopsIn mid new text → StopsIn start new (front ++ text)
stops-behind start mid new front text e s = record {
  rose = subst (λ m. Rose m.faults new.faults) e s.rose;
  count = length front + s.count;
  within = omega (arith, s.within, length-append front text);
  bytes = s.bytes ∙ ap (λ m. appended m.bytes (take s.count text)) e ∙ appended-append start.bytes front (take s.count text) ∙ ap (λ xs. appended start.bytes xs) (sym (take-append-add front text s.count));
}

-- the text that was put whole, where nothing waits
pub nothing-waits : (start now : SinkState) (text : List ℕ) → HasPut start now [] text → now ≡ with_text start text
nothing-waits start now text h = h.state ∙ ap (with_text start) (sym (append-nil h.front) ∙ sym h.cut)

pub puts-all : (start mid new : SinkState) (before text : List ℕ) → HasPut start mid [] before → new ≡ with_text mid text → HasPut start new [] (before ++ text)
puts-all start mid new before text h e = record {
  front = before ++ text;
  cut = sym (append-nil (before ++ text));
  state = e ∙ ap (λ m. with_text m text) (nothing-waits start mid before h) ∙ with_text-append start before text;
}

-- what waits is put
pub waits-put : (start old new : SinkState) (waiting text : List ℕ) (failed after : Bool) → IsAtBy start old waiting text failed → PutsUnless failed old new waiting after → IsAtBy start new [] text after
waits-put start old new waiting text true after h p = subst (IsAtBy start new [] text) (sym p.1) (subst (λ s. StopsIn start s text) (sym p.0) h)
waits-put start old new waiting text false false h p = subst (HasPut start new []) (sym h.cut) (puts-all start old new h.front waiting (record { front = h.front; cut = sym (append-nil h.front); state = h.state }) p)
waits-put start old new waiting text false true h p = subst (StopsIn start new) (sym h.cut) (stops-behind start old new h.front waiting h.state p)

-- a text is put behind one of which nothing waits
pub text-put : (start old new : SinkState) (before text : List ℕ) (failed after : Bool) → IsAtBy start old [] before failed → PutsUnless failed old new text after → IsAtBy start new [] (before ++ text) after
text-put start old new before text true after h p = subst (IsAtBy start new [] (before ++ text)) (sym p.1) (stops-more start new before text (subst (λ s. StopsIn start s before) (sym p.0) h))
text-put start old new before text false false h p = puts-all start old new before text h p
text-put start old new before text false true h p = stops-behind start old new before text (nothing-waits start old before h) p

-- more waits
pub text-waits : (start now : SinkState) (waiting before text : List ℕ) (failed : Bool) → IsAtBy start now waiting before failed → IsAtBy start now (waiting ++ text) (before ++ text) failed
text-waits start now waiting before text true h = stops-more start now before text h
text-waits start now waiting before text false h = record { front = h.front; cut = ap (λ xs. xs ++ text) h.cut ∙ append_assoc h.front waiting text; state = h.state }

-- the end of a text of which nothing waits
pub text-ends : (start now : SinkState) (text : List ℕ) → IsAtBy start now [] text false → now ≡ with_text start text
text-ends start now text h = nothing-waits start now text h

-- nothing more
pub goes-nowhere : {s : SinkState} {w : Waiting} → GoesOn s w s w []
goes-nowhere {s} {w} = record { on = λ start before h. subst (IsAt start s w) (sym (append-nil before)) h }

-- a text and then another
pub goes-then : {a b d : SinkState} {p q r : Waiting} {xs ys : List ℕ} → GoesOn a p b q xs → GoesOn b q d r ys → GoesOn a p d r (xs ++ ys)
goes-then {a} {b} {d} {p} {q} {r} {xs} {ys} first second = record { on = λ start before h. subst (IsAt start d r) (append_assoc before xs ys) (second.on start (before ++ xs) (first.on start before h)) }

-- the same text, spelled otherwise
pub goes-as : {a b : SinkState} {p q : Waiting} {xs ys : List ℕ} → GoesOn a p b q xs → xs ≡ ys → GoesOn a p b q ys
goes-as {a} {b} {p} {q} first e = subst (GoesOn a p b q) e first

-- a text that goes on from an empty page is all that was put since then
pub at-end : (start now : SinkState) (page w : Waiting) (text : List ℕ) → page ≡ record { bytes = []; failed = false } → GoesOn start page now w text → IsAt start now w text
at-end start now page w text empty goes = goes.on start [] (subst (λ p. IsAt start start p []) (sym empty) (put-none start []))
