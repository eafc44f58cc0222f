-- Texts and the ends of lines, as the reader follows them.
use Rattle.std.proofs.Common.{◌≡◌, ℕ, List, [], ◌∷◌, ◌++◌, true, not, if◌then◌else◌, nat_eq, codes, slice_get, Option, Some, IsTrue, refl, ap, ◌∙◌, subst}
use Rattle.std.specs.List.{list_all}
use Rattle.std.proofs.lemmas.Bool.{and_parts, and_from, eqb-true, not-true, not-false, cond_both}
use Rattle.std.proofs.lemmas.Option.{same_Some}
use Rattle.qs_lexer.specs.declared.shape.Shape.{Shape}
use Rattle.qs_lexer.specs.declared.shape.Shape.TheVariants as shape
use Rattle.qs_lexer.specs.declared.state.State.{State}
use Rattle.qs_lexer.specs.declared.state.State.TheVariants.{Nothing, Quote, Text}
use Rattle.qs_lexer.specs.Forms.{EndsLine, is_in_line, is_in_text}
use Rattle.qs_lexer.specs.steps.Scan.{ends_line, run, shape_before}
use Rattle.qs_lexer.proofs.Runs.{from_nothing, last_through, run-append, where_so_parts}

-- ---- the end of a line

pub ends_from_next : (after : List ℕ) → ends_line (slice_get after 0) ≡ true → EndsLine after
ends_from_next [] h = refl
ends_from_next (c ∷ cs) h = ap not h

pub next_from_ends : (after : List ℕ) → EndsLine after → ends_line (slice_get after 0) ≡ true
next_from_ends [] h = refl
next_from_ends (c ∷ cs) h = not-false (nat_eq c 10) h

-- ---- texts

-- how a text goes on: to its end, or to the end of its line
abbrev pub TextGoesOn : List ℕ → Option ℕ → Shape → Type 0
TextGoesOn cs next shape.Text = (inner : List ℕ) × (cs ≡ inner ++ codes "\"") × IsTrue (list_all is_in_text inner)
TextGoesOn cs next shape.OpenText = IsTrue (list_all is_in_text cs) × (ends_line next ≡ true)
TextGoesOn cs next _ = ⊥

with_character : (c : ℕ) (cs : List ℕ) (next : Option ℕ) (told : Shape) → is_in_text c ≡ true → TextGoesOn cs next told → TextGoesOn (c ∷ cs) next told
with_character c cs next shape.Text inside goes = (c ∷ goes.0, ap (λ t. c ∷ t) goes.1, and_from (is_in_text c) (list_all is_in_text goes.0) inside goes.2)
with_character c cs next shape.OpenText inside goes = (and_from (is_in_text c) (list_all is_in_text cs) inside goes.0, goes.1)
with_character c cs next _ inside goes = goes

pub from_quote : (cs : List ℕ) (next : Option ℕ) (told : Shape) → shape_before (run Quote cs) next ≡ Some told → TextGoesOn cs next told
from_quote [] next told h =
    let parts = where_so_parts (ends_line next) shape.OpenText told h in
    subst (λ s. TextGoesOn [] next s) parts.1 (refl, parts.0)
from_quote (c ∷ cs) next told h =
    let P : State → Type 0 = λ s. shape_before (run s cs) next ≡ Some told → TextGoesOn (c ∷ cs) next told in
    cond_both (nat_eq c 34) Text (if nat_eq c 10 then Nothing else Quote) P
    (λ e so.
    let text = last_through Text (λ d. refl) cs next told so in
    rw (eqb-true c 34 e, text.0, ← same_Some shape.Text told text.1) ([], refl, refl))
    (λ no. cond_both (nat_eq c 10) Nothing Quote P
    (λ e so. absurd (from_nothing cs next told so))
    (λ inside so. with_character c cs next told (rw (no, inside) refl) (from_quote cs next told so))) h

-- a text that isn't ended stays one
pub stays_quote : (cs : List ℕ) → list_all is_in_text cs ≡ true → run Quote cs ≡ Quote
stays_quote [] h = refl
stays_quote (c ∷ cs) h =
    let parts = and_parts (is_in_text c) (list_all is_in_text cs) h in
    let inside = and_parts (not (nat_eq c 34)) (is_in_line c) parts.0 in
    rw (not-true (nat_eq c 34) inside.0, not-true (nat_eq c 10) inside.1) (stays_quote cs parts.1)

pub text_ends : (inner : List ℕ) → list_all is_in_text inner ≡ true → run Quote (inner ++ codes "\"") ≡ Text
text_ends inner h = run-append Quote inner (codes "\"") ∙ rw (stays_quote inner h) refl
