-- The place behind several characters.
use Rattle.std.proofs.Common.{◌≡◌, ℕ, ◌+◌, ◌≤◌, List, [], ◌∷◌, ◌++◌, Bool, true, false, ◌&&◌, not, if◌then◌else◌, nat_eq, nat_lt, length, refl, sym, ap, ◌∙◌, arith}
use Rattle.std.specs.Str.{IsAscii, chars}
use Rattle.std.proofs.lemmas.Str.{chars-IsAscii}
use Rattle.std.specs.List.{list_all}
use Rattle.std.proofs.lemmas.Bool.Decides.{nat_tests}
use Rattle.qs_values.specs.declared.span.Span.{Span}
use Rattle.qs_lexer.specs.Forms.{is_in_line}
use Rattle.qs_lexer.specs.Cut.{place_behind, place_behind_all}

-- a character moves a place on by at most one
pub line_near : (s : Span) (c : ℕ) → (place_behind s c).line ≤ s.line + 1
line_near s c = grind (arith, nat_tests)

pub col_near : (s : Span) (c : ℕ) → (place_behind s c).col ≤ s.col + 1
col_near s c = grind (arith, nat_tests)

-- several characters move a place on by at most as many
pub line_near_all : (s : Span) (t : List ℕ) → (place_behind_all s t).line ≤ s.line + length t
line_near_all s [] = omega arith
line_near_all s (c ∷ cs) = omega (arith, line_near s c, line_near_all (place_behind s c) cs)

pub col_near_all : (s : Span) (t : List ℕ) → (place_behind_all s t).col ≤ s.col + length t
col_near_all s [] = omega arith
col_near_all s (c ∷ cs) = omega (arith, col_near s c, col_near_all (place_behind s c) cs)

pub place_behind_append : (s : Span) (t u : List ℕ) → place_behind_all s (t ++ u) ≡ place_behind_all (place_behind_all s t) u
place_behind_append s [] u = refl
place_behind_append s (c ∷ cs) u = place_behind_append (place_behind s c) cs u

-- lines never go back
line_kept : (s : Span) (t : List ℕ) → s.line ≤ (place_behind_all s t).line
line_kept s [] = omega arith
line_kept s (c ∷ cs) =
    let h : s.line ≤ (place_behind s c).line = grind (arith, nat_tests) in omega (arith, h, line_kept (place_behind s c) cs)

-- the line grows exactly where a line feed is among the characters
pub line_grows : (s : Span) (t : List ℕ) → nat_lt s.line (place_behind_all s t).line ≡ not (list_all is_in_line t)
line_grows s [] = grind (arith, nat_tests)
line_grows s (c ∷ cs) =
    let h = line_kept (place_behind s c) cs in
    let r = line_grows (place_behind s c) cs in
    grind (arith, nat_tests)

-- ---- characters of one line

same_column : (s : Span) (n : ℕ) → n ≡ s.col → s ≡ record { line = s.line; col = n }
same_column s n e = λ i. record { line = s.line; col = sym e i }

one_column : (s : Span) (c : ℕ) → is_in_line c ≡ true → place_behind s c ≡ record { line = s.line; col = s.col + 1 }
one_column s c inside = by (nat_eq c 10) inside
  where
    by : (b : Bool) → not b ≡ true → ◌≡◌ {A = Span} (if b then record { line = s.line + 1; col = 1 } else record { line = s.line; col = s.col + 1 }) (record { line = s.line; col = s.col + 1 })
    by true h = absurd (cc)
    by false h = refl

-- characters of one line, each of which takes a column
pub in_line_place : (s : Span) (t : List ℕ) → list_all is_in_line t ≡ true → place_behind_all s t ≡ record { line = s.line; col = s.col + length t }
in_line_place s [] inside = same_column s (s.col + 0) (omega arith)
in_line_place s (c ∷ cs) inside =
    let parts = and_parts (is_in_line c) (list_all is_in_line cs) inside in
    let moved : Span = record { line = s.line; col = s.col + 1 } in
    ap (λ n. place_behind_all n cs) (one_column s c parts.0) ∙ in_line_place moved cs parts.1 ∙ ap (λ (n : ℕ). let e : Span = record { line = s.line; col = n } in e) (let e : s.col + 1 + length cs ≡ s.col + length (c ∷ cs) = omega arith in e)
  where
    and_parts : (a b : Bool) → (a && b) ≡ true → (a ≡ true) × (b ≡ true)
    and_parts true b e = (refl, e)
    and_parts false b e = absurd (cc)

-- a text of ASCII on one line is as many columns long as it has bytes
pub ascii_place : (s : Span) (text : List ℕ) → IsAscii text → list_all is_in_line text ≡ true → record { line = s.line; col = s.col + length text } ≡ place_behind_all s (chars text)
ascii_place s text ascii inside = sym (ap (place_behind_all s) (chars-IsAscii text ascii) ∙ in_line_place s text inside)
