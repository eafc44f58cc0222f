-- Comments, as the reader follows them.
use Rattle.std.proofs.Common.{◌≡◌, ℕ, List, [], ◌∷◌, ◌++◌, Bool, true, false, ◌&&◌, ◌||◌, not, nat_eq, codes, is_some, Option, Some, None, refl, ap, sym, ◌∙◌, subst, true≢false, arith}
use Rattle.std.proofs.lemmas.Bool.{and_parts, or_parts, or_from, eqb-true, cond_both}
use Rattle.std.proofs.lemmas.Bool.Decides.{nat_tests}
use Rattle.std.proofs.lemmas.Option.{same_Some}
use Rattle.qs_lexer.specs.declared.shape.Shape.{Shape}
use Rattle.qs_lexer.specs.declared.shape.Shape.TheVariants as shape
use Rattle.qs_lexer.specs.declared.state.State.TheVariants.{Blank, Comment}
use Rattle.qs_lexer.specs.Forms.{begins, has_end}
use Rattle.qs_lexer.specs.steps.Scan.{run, shape_before}
use Rattle.qs_lexer.proofs.Runs.{last_through, run-append, where_so_parts}

-- what follows in a comment, behind its last star where that may end it
abbrev pub behind_star : Bool → List ℕ → List ℕ
behind_star true cs = 42 ∷ cs
behind_star false cs = cs

unequal_either_way : (a b : ℕ) → nat_eq a b ≡ false → nat_eq b a ≡ false
unequal_either_way a b h = grind (arith, nat_tests)

without_character : (c : ℕ) (cs : List ℕ) → has_end (c ∷ cs) ≡ false → has_end (behind_star (nat_eq c 42) cs) ≡ false
without_character c cs h = by (nat_eq c 42) h
  where
    by : (b : Bool) → ((b && begins (nat_eq 47) cs) || has_end cs) ≡ false → has_end (behind_star b cs) ≡ false
    by true h = h
    by false h = h

-- where no `*/` stands, none stands in what follows, nor behind a star that is its first character
left_open : (star : Bool) (c : ℕ) (cs : List ℕ) → has_end (behind_star star (c ∷ cs)) ≡ false → ((star && nat_eq c 47) ≡ false) × (has_end (behind_star (nat_eq c 42) cs) ≡ false)
left_open true c cs h =
    let parts = or_parts (nat_eq 47 c) (has_end (c ∷ cs)) h in
    (unequal_either_way 47 c parts.0, without_character c cs parts.1)
left_open false c cs h = (refl, without_character c cs h)

-- ---- what comes to a shape is a comment

-- how a comment goes on: to its end, or to the end of the text
abbrev pub GoesOn : Bool → List ℕ → Option ℕ → Shape → Type 0
GoesOn star cs next shape.Gap = (inner : List ℕ) × (behind_star star cs ≡ inner ++ codes "*/") × (has_end inner ≡ false)
GoesOn star cs next shape.OpenComment = (has_end (behind_star star cs) ≡ false) × (next ≡ None)
GoesOn star cs next _ = ⊥

-- a character before what goes on
with_character : (c : ℕ) (cs : List ℕ) (next : Option ℕ) (told : Shape) → GoesOn (nat_eq c 42) cs next told → GoesOn false (c ∷ cs) next told
with_character c cs next told goes = by (nat_eq c 42) refl told goes
  where
    by : (b : Bool) → nat_eq c 42 ≡ b → (told : Shape) → GoesOn b cs next told → GoesOn false (c ∷ cs) next told
    by true e told goes = rw (eqb-true c 42 e) goes
    by false e shape.Gap goes = (c ∷ goes.0, ap (λ t. c ∷ t) goes.1, rw e goes.2)
    by false e shape.OpenComment goes = (rw e goes.0, goes.1)
    by false e _ goes = goes

begins_alike : (c : ℕ) (cs inner end : List ℕ) → nat_eq 47 c ≡ false → c ∷ cs ≡ inner ++ end → begins (nat_eq 47) inner ≡ false
begins_alike c cs [] end h e = refl
begins_alike c cs (x ∷ inner) end h e = let same : c ≡ x = cc in subst (λ y. nat_eq 47 y ≡ false) same h

-- and a star before that
with_star : (star : Bool) (c : ℕ) (cs : List ℕ) (next : Option ℕ) (told : Shape) → (star && nat_eq c 47) ≡ false → GoesOn false (c ∷ cs) next told → GoesOn star (c ∷ cs) next told
with_star false c cs next told on goes = goes
with_star true c cs next shape.Gap on goes = (42 ∷ goes.0, ap (λ t. 42 ∷ t) goes.1, or_from (begins (nat_eq 47) goes.0) (has_end goes.0) (begins_alike c cs goes.0 (codes "*/") (unequal_either_way c 47 on) goes.1) goes.2)
with_star true c cs next shape.OpenComment on goes = (or_from (nat_eq 47 c) (has_end (c ∷ cs)) (unequal_either_way c 47 on) goes.0, goes.1)
with_star true c cs next _ on goes = goes

at_end : (star : Bool) (next : Option ℕ) → not (is_some next) ≡ true → GoesOn star [] next shape.OpenComment
at_end star None h = (by star, refl)
  where
    by : (star : Bool) → has_end (behind_star star []) ≡ false
    by true = refl
    by false = refl
at_end star (Some c) h = absurd (true≢false (sym h))

pub from_comment : (star : Bool) (cs : List ℕ) (next : Option ℕ) (told : Shape) → shape_before (run (Comment star) cs) next ≡ Some told → GoesOn star cs next told
from_comment star [] next told h =
    let parts = where_so_parts (not (is_some next)) shape.OpenComment told h in
    subst (λ s. GoesOn star [] next s) parts.1 (at_end star next parts.0)
from_comment star (c ∷ cs) next told h =
    cond_both (star && nat_eq c 47) Blank (Comment (nat_eq c 42)) (λ s. shape_before (run s cs) next ≡ Some told → GoesOn star (c ∷ cs) next told)
    (λ ends so.
    let parts = and_parts star (nat_eq c 47) ends in
    let blank = last_through Blank (λ d. refl) cs next told so in
    rw (parts.0, eqb-true c 47 parts.1, blank.0, ← same_Some shape.Gap told blank.1) ([], refl, refl))
    (λ on so. with_star star c cs next told on (with_character c cs next told (from_comment (nat_eq c 42) cs next told so))) h

-- ---- a comment is read

-- where no `*/` stands, the comment goes on
pub stays_open : (star : Bool) (cs : List ℕ) → has_end (behind_star star cs) ≡ false → (last : Bool) × (run (Comment star) cs ≡ Comment last)
stays_open star [] h = (star, refl)
stays_open star (c ∷ cs) h =
    let open_left = left_open star c cs h in
    let later = stays_open (nat_eq c 42) cs open_left.1 in
    (later.0, rw open_left.0 later.1)

ends : (star : Bool) → run (Comment star) (codes "*/") ≡ Blank
ends true = refl
ends false = refl

-- and `*/` ends it
pub comment_ends : (inner : List ℕ) → has_end inner ≡ false → run (Comment false) (inner ++ codes "*/") ≡ Blank
comment_ends inner h =
    let inside = stays_open false inner h in
    run-append (Comment false) inner (codes "*/") ∙ rw inside.1 (ends inside.0)
