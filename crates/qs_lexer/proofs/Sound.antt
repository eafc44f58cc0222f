-- What the reader tells of a text is its form.
use Rattle.std.proofs.Common.{◌≡◌, inl, inr, ℕ, List, [], ◌∷◌, ◌++◌, Bool, true, false, ◌&&◌, if◌then◌else◌, nat_eq, codes, slice_get, append-nil, append_assoc, Some, None, IsTrue, refl, ap, sym, ◌∙◌, subst, true≢false}
use Rattle.std.specs.Char.{is_ascii_digit}
use Rattle.std.specs.List.{list_all}
use Rattle.std.proofs.lemmas.Bool.{and_parts, and_from, eqb-true, eq-eqb, cond_both}
use Rattle.std.proofs.lemmas.Option.{none-some}
use Rattle.qs_values.specs.Names.{begins_word, continues_word}
use Rattle.qs_lexer.specs.declared.shape.Shape.{Shape}
use Rattle.qs_lexer.specs.declared.shape.Shape.TheVariants as shape
use Rattle.qs_lexer.specs.declared.state.State.{State}
use Rattle.qs_lexer.specs.declared.state.State.TheVariants.{Start, Nothing, Blank, Line, Slash, Comment, Pragma, Word, Dollar, Physical, Quote, One, Two, Three, Zero, Digits, Point}
use Rattle.qs_lexer.specs.Forms.{EndsLine, Form, is_blank, is_in_line}
use Rattle.qs_lexer.specs.steps.Scan.{at_slash, at_start, ends_line, is_one_sign, is_two_signs, is_three_signs, run, shape_before, step}
use Rattle.qs_lexer.proofs.Runs.{from_nothing, last_through, line_stays, physical_stays, stays_through, where_so_parts, word_stays}
use Rattle.qs_lexer.proofs.Signs.{one_is_sign, three_are_sign, two_are_sign}
use Rattle.qs_lexer.proofs.Comments.{GoesOn, from_comment}
use Rattle.qs_lexer.proofs.Texts.{TextGoesOn, ends_from_next, from_quote}
use Rattle.qs_lexer.proofs.Pragmas.{PragmaGoesOn, from_pragma, left_behind_hash, left_behind_p}
use Rattle.qs_lexer.proofs.NumberStates.{ReachedNumber}
use Rattle.qs_lexer.proofs.NumberSound.{digit-start, form_told, number-form, number-step, point-start, zero-start}

-- Behind a state, where `t` was read before it, what comes to a shape is a text of that form.
abbrev SoundFrom : Bool → List ℕ → List ℕ → List ℕ → State → Type 0
SoundFrom first t cs after s = (told : Shape) → shape_before (run s cs) (slice_get after 0) ≡ Some told → Form first told (t ++ cs) after

sound_nothing : (first : Bool) (t cs after : List ℕ) → SoundFrom first t cs after Nothing
sound_nothing first t cs after told h = absurd (from_nothing cs (slice_get after 0) told h)

-- a line of a gap: its characters and that it ends
line_parts : (cs after : List ℕ) (told : Shape) → shape_before (run Line cs) (slice_get after 0) ≡ Some told → IsTrue (list_all is_in_line cs) × EndsLine after × (Some shape.Gap ≡ Some told)
line_parts cs after told h =
    let through = stays_through Line is_in_line line_stays cs (slice_get after 0) told h in
    let ended = where_so_parts (ends_line (slice_get after 0)) shape.Gap told through.1 in
    (through.0, ends_from_next after ended.0, ap Some ended.1)

-- ---- signs

sound_two : (first : Bool) (a b : ℕ) (cs after : List ℕ) → is_two_signs a b ≡ true → SoundFrom first (a ∷ b ∷ []) cs after (Two a b)
sound_two first a b [] after is told h = form_told first (a ∷ b ∷ []) after shape.Sign told h (two_are_sign a b is, λ p. absurd (let e = p.1 in cc))
sound_two first a b (c ∷ cs) after is told h =
    cond_both (is_three_signs a b c) Three Nothing (λ s. shape_before (run s cs) (slice_get after 0) ≡ Some told → Form first told (a ∷ b ∷ c ∷ cs) after)
    (λ three so.
    let last = last_through Three (λ d. refl) cs (slice_get after 0) told so in
    form_told first (a ∷ b ∷ c ∷ cs) after shape.Sign told last.1 (rw last.0 (three_are_sign a b c three), λ p. absurd (let e = p.1 in cc)))
    (λ no so. absurd (from_nothing cs (slice_get after 0) told so)) h

sound_one : (first : Bool) (a : ℕ) (cs after : List ℕ) → is_one_sign a ≡ true → (nat_eq a 64 && first) ≡ false → SoundFrom first (a ∷ []) cs after (One a)
sound_one first a [] after is other told h =
    form_told first (a ∷ []) after shape.Sign told h
    (one_is_sign a is, λ p. absurd (let e : a ∷ [] ≡ 64 ∷ [] = p.1 in let same : a ≡ 64 = cc in true≢false (sym (and_from (nat_eq a 64) first (eq-eqb a 64 same) p.0) ∙ other)))
sound_one first a (c ∷ cs) after is other told h =
    cond_both (is_two_signs a c) (Two a c) Nothing (λ s. shape_before (run s cs) (slice_get after 0) ≡ Some told → Form first told (a ∷ c ∷ cs) after)
    (λ two so. sound_two first a c cs after two told so) (λ no so. absurd (from_nothing cs (slice_get after 0) told so)) h

-- ---- gaps

sound_blank : (first : Bool) (c : ℕ) (cs after : List ℕ) → is_blank c ≡ true → SoundFrom first (c ∷ []) cs after Blank
sound_blank first c cs after is told h =
    let last = last_through Blank (λ d. refl) cs (slice_get after 0) told h in
    form_told first (c ∷ cs) after shape.Gap told last.1 (inl (c, ap (λ t. c ∷ t) last.0, is))

nothing_next : (after : List ℕ) → slice_get after 0 ≡ None → after ≡ []
nothing_next [] h = refl
nothing_next (d ∷ ds) h = absurd (none-some d (sym h))

sound_comment : (first : Bool) (cs after : List ℕ) → SoundFrom first (codes "/*") cs after (Comment false)
sound_comment first cs after told h = by told (from_comment false cs (slice_get after 0) told h)
  where
    by : (told : Shape) → GoesOn false cs (slice_get after 0) told → Form first told (codes "/*" ++ cs) after
    by shape.Gap goes = inr (inr (inl (goes.0, ap (λ t. codes "/*" ++ t) goes.1, goes.2)))
    by shape.OpenComment goes = (cs, refl, goes.0, nothing_next after goes.1)
    by _ goes = absurd goes

line_comment : (first : Bool) (cs after : List ℕ) → SoundFrom first (codes "//") cs after Line
line_comment first cs after told h =
    let line = line_parts cs after told h in
    form_told first (codes "//" ++ cs) after shape.Gap told line.2 (inr (inl (cs, refl, line.0, line.1)))

-- `@` as the first lexeme of its line
annotation : (cs after : List ℕ) → SoundFrom true (codes "@") cs after Line
annotation cs after told h =
    let line = line_parts cs after told h in
    form_told true (codes "@" ++ cs) after shape.Gap told line.2 (inr (inr (inr (inl (refl, cs, refl, line.0, line.1)))))

slash_alone : (first : Bool) (after : List ℕ) → Form first shape.Sign (codes "/") after
slash_alone first after = (one_is_sign 47 refl, λ p. absurd (let e : codes "/" ≡ codes "@" = p.1 in cc))

behind_slash : (first : Bool) (c : ℕ) (cs after : List ℕ) → SoundFrom first (47 ∷ c ∷ []) cs after (at_slash c)
behind_slash first c cs after =
    let P : State → Type 0 = SoundFrom first (47 ∷ c ∷ []) cs after in
    cond_both (nat_eq c 47) Line _ P (λ is. rw (eqb-true c 47 is) (line_comment first cs after))
    (λ _. cond_both (nat_eq c 42) (Comment false) _ P (λ is. rw (eqb-true c 42 is) (sound_comment first cs after))
    (λ _. cond_both (nat_eq c 61) (Two 47 61) Nothing P (λ is. rw (eqb-true c 61 is) (sound_two first 47 61 cs after refl)) (λ _. sound_nothing first (47 ∷ c ∷ []) cs after)))

sound_slash : (first : Bool) (cs after : List ℕ) → SoundFrom first (codes "/") cs after Slash
sound_slash first [] after told h = form_told first (codes "/") after shape.Sign told h (slash_alone first after)
sound_slash first (c ∷ cs) after told h = behind_slash first c cs after told h

-- `#pragma`
sound_hash : (cs after : List ℕ) → SoundFrom true (codes "#") cs after (Pragma true 0)
sound_hash cs after told h = by told (from_pragma true left_behind_hash cs (slice_get after 0) told h)
  where
    by : (told : Shape) → PragmaGoesOn true (codes "pragma") cs (slice_get after 0) told → Form true told (codes "#" ++ cs) after
    by shape.Gap goes = inr (inr (inr (inr (refl, codes "#pragma", goes.0, ap (λ t. codes "#" ++ t) goes.1, inr refl, goes.2, goes.3, ends_from_next after goes.4))))
    by shape.Word goes = absurd (true≢false goes.0)
    by _ goes = absurd goes

-- ---- words, numbers of qubits and texts

-- `pragma`, or another word that begins with `p`
sound_p : (cs after : List ℕ) → SoundFrom true (codes "p") cs after (Pragma false 1)
sound_p cs after told h = by told (from_pragma false left_behind_p cs (slice_get after 0) told h)
  where
    by : (told : Shape) → PragmaGoesOn false (codes "ragma") cs (slice_get after 0) told → Form true told (codes "p" ++ cs) after
    by shape.Gap goes = inr (inr (inr (inr (refl, codes "pragma", goes.0, ap (λ t. codes "p" ++ t) goes.1, inl refl, goes.2, goes.3, ends_from_next after goes.4))))
    by shape.Word goes = (goes.1, λ p. goes.2 (let e : codes "p" ++ cs ≡ codes "pragma" = p.1 in cc))
    by _ goes = absurd goes

sound_word : (first : Bool) (c : ℕ) (cs after : List ℕ) → begins_word c ≡ true → (nat_eq c 112 && first) ≡ false → SoundFrom first (c ∷ []) cs after Word
sound_word first c cs after word other told h =
    let through = stays_through Word continues_word word_stays cs (slice_get after 0) told h in
    form_told first (c ∷ cs) after shape.Word told through.1
    (and_from (begins_word c) (list_all continues_word cs) word through.0, λ p. (let e : c ∷ cs ≡ codes "pragma" = p.1 in let same : c ≡ 112 = cc in true≢false (sym (and_from (nat_eq c 112) first (eq-eqb c 112 same) p.0) ∙ other)))

sound_dollar : (first : Bool) (cs after : List ℕ) → SoundFrom first (codes "$") cs after Dollar
sound_dollar first [] after told h = absurd (none-some told h)
sound_dollar first (c ∷ cs) after told h =
    cond_both (is_ascii_digit c) Physical Nothing (λ s. shape_before (run s cs) (slice_get after 0) ≡ Some told → Form first told (codes "$" ++ (c ∷ cs)) after)
    (λ digit so.
    let through = stays_through Physical is_ascii_digit physical_stays cs (slice_get after 0) told so in
    form_told first (codes "$" ++ (c ∷ cs)) after shape.Physical told through.1 (c ∷ cs, refl, and_from (is_ascii_digit c) (list_all is_ascii_digit cs) digit through.0, λ e. absurd cc))
    (λ no so. absurd (from_nothing cs (slice_get after 0) told so)) h

sound_quote : (first : Bool) (cs after : List ℕ) → SoundFrom first (codes "\"") cs after Quote
sound_quote first cs after told h = by told (from_quote cs (slice_get after 0) told h)
  where
    by : (told : Shape) → TextGoesOn cs (slice_get after 0) told → Form first told (codes "\"" ++ cs) after
    by shape.Text goes = (goes.0, ap (λ t. codes "\"" ++ t) goes.1, goes.2)
    by shape.OpenText goes = (cs, refl, goes.0, ends_from_next after goes.1)
    by _ goes = absurd goes

-- ---- all of them

sound_number : (first : Bool) (t cs after : List ℕ) (s : State) → ReachedNumber s t → SoundFrom first t cs after s
sound_number first t [] after s reached told h = subst (λ u. Form first told u after) (sym (append-nil t)) (number-form s t (slice_get after 0) told reached h first after)
sound_number first t (c ∷ cs) after s reached told h =
    subst (λ u. Form first told u after) (append_assoc t (c ∷ []) cs) (sound_number first (t ++ c ∷ []) cs after (step s c) (number-step s t c reached) told h)

-- behind a character that begins a number, a sign or a word
behind_plain : (first : Bool) (c : ℕ) (cs after : List ℕ) → (nat_eq c 64 && first) ≡ false → (nat_eq c 112 && first) ≡ false
    → SoundFrom first (c ∷ []) cs after
    (if nat_eq c 48 then Zero else (if nat_eq c 46 then Point else (if is_ascii_digit c then Digits true else (if is_one_sign c then One c else (if begins_word c then Word else Nothing)))))
behind_plain first c cs after no_annotation no_pragma =
    let P : State → Type 0 = SoundFrom first (c ∷ []) cs after in
    cond_both (nat_eq c 48) Zero _ P (λ is. sound_number first (c ∷ []) cs after Zero (zero-start c (eqb-true c 48 is)))
    (λ _. cond_both (nat_eq c 46) Point _ P (λ is. sound_number first (c ∷ []) cs after Point (point-start c (eqb-true c 46 is)))
    (λ _. cond_both (is_ascii_digit c) (Digits true) _ P (λ is. sound_number first (c ∷ []) cs after (Digits true) (digit-start c is))
    (λ _. cond_both (is_one_sign c) (One c) _ P (λ is. sound_one first c cs after is no_annotation)
    (λ _. cond_both (begins_word c) Word Nothing P (λ is. sound_word first c cs after is no_pragma) (λ _. sound_nothing first (c ∷ []) cs after)))))

behind_first : (first : Bool) (c : ℕ) (cs after : List ℕ) → SoundFrom first (c ∷ []) cs after (at_start first c)
behind_first first c cs after =
    let P : State → Type 0 = SoundFrom first (c ∷ []) cs after in
    cond_both (is_blank c) Blank _ P (sound_blank first c cs after)
    (λ _. cond_both (nat_eq c 47) Slash _ P (λ is. rw (eqb-true c 47 is) (sound_slash first cs after))
    (λ _. cond_both (nat_eq c 64 && first) Line _ P (λ is. let parts = and_parts (nat_eq c 64) first is in rw (eqb-true c 64 parts.0, parts.1) (annotation cs after))
    (λ no_annotation. cond_both (nat_eq c 35 && first) (Pragma true 0) _ P (λ is. let parts = and_parts (nat_eq c 35) first is in rw (eqb-true c 35 parts.0, parts.1) (sound_hash cs after))
    (λ _. cond_both (nat_eq c 112 && first) (Pragma false 1) _ P (λ is. let parts = and_parts (nat_eq c 112) first is in rw (eqb-true c 112 parts.0, parts.1) (sound_p cs after))
    (λ no_pragma. cond_both (nat_eq c 36) Dollar _ P (λ is. rw (eqb-true c 36 is) (sound_dollar first cs after))
    (λ _. cond_both (nat_eq c 34) Quote _ P (λ is. rw (eqb-true c 34 is) (sound_quote first cs after)) (λ _. behind_plain first c cs after no_annotation no_pragma)))))))

pub sound : (first : Bool) (t after : List ℕ) (shape : Shape) → shape_before (run (Start first) t) (slice_get after 0) ≡ Some shape → Form first shape t after
sound first [] after told h = absurd (none-some told h)
sound first (c ∷ cs) after told h = behind_first first c cs after told h
