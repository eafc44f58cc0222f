-- Statements in braces are read where they are spelled.
use Rattle.std.proofs.Common.{◌≡◌, ℕ, zero, suc, ◌≤◌, true, false, codes, List, [], ◌∷◌, ◌++◌, length, map, Option, Some, refl, sym, ap, subst, ◌∙◌, length-append, arith}
use Rattle.std.proofs.lemmas.Bool.{and_parts}
use Rattle.qs_lexer.specs.declared.token.Token.{Token}
use Rattle.qs_tree.specs.declared.statement.Stmt.{Stmt}
use Rattle.qs_tree.specs.Spelling.{Piece, Sign, Spells, in_braces, joined, sign, spell_stmt}
use Rattle.qs_tree.specs.WellFormed.{Features, all, block as block_of, nested as nested_of, of_stmt}
use Rattle.qs_parser.specs.steps.Tokens.{Readers, Reads, begins_sign, up_to_brace}
use Rattle.qs_parser.specs.steps.Statements.{block_at}
use Rattle.qs_parser.proofs.TokenPieces.{after_sign_at, begins_word_at, no_sign_after, spells_split}
use Rattle.qs_parser.proofs.SoundNested.{map_nested}
use Rattle.qs_parser.proofs.Complete.{ClosesStmt, Fits, IsComplete, IsCompleteBelow}
use Rattle.qs_parser.proofs.CompleteExprParts.{after_last, fits_both, fits_nothing, inside}
use Rattle.qs_parser.proofs.CompleteStmtParts.{next, regroup}
use Rattle.qs_parser.proofs.CompleteBegins.{stmt_no_else, stmt_no_sign, stmt_some}

-- ---- up to a closing brace

-- What is to be known of a reader of the parts in braces: it reads each where what may stand after it does, as a brace and any other part may; no part begins with a closing brace, and each has some token.
pub record IsCompletePart {A : Type 0} (spelled : A → List Piece) (features : A → Features) (d renew : ℕ) (item : (left : ℕ) → List Token → Reads A) (Ends : A → List Token → Type 0) : Type 0 where
  pub reads : (x : A) (left after : ℕ) (front rest : List Token) → Fits (features x) d renew left after → Spells (spelled x) front → Ends x rest → item left (front ++ rest) ≡ Some (x, after, rest)
  pub ends_brace : (x : A) (front rest : List Token) → Spells (sign (codes "}")) front → Ends x (front ++ rest)
  pub ends_part : (x y : A) (ps : List Piece) (front rest : List Token) → (features y).follows ≡ true → Spells (spelled y ++ ps) front → Ends x (front ++ rest)
  pub no_brace : (x : A) (ps : List Piece) (front rest : List Token) → Spells (spelled x ++ ps) front → begins_sign (codes "}") (front ++ rest) ≡ false
  pub some : (x : A) → Spells (spelled x) [] → ⊥

-- as many tokens as parts, at least, and the brace
parts_length : {A : Type 0} (spelled : A → List Piece) → ((x : A) → Spells (spelled x) [] → ⊥) → (xs : List A) (front : List Token) → Spells (joined (map spelled xs) ++ sign (codes "}")) front → suc (length xs) ≤ length front
parts_length spelled h [] [] s = absurd s
parts_length spelled h [] (t ∷ ts) s = omega arith
parts_length spelled h (x ∷ xs) front s =
    let two = spells_split (spelled x) (joined (map spelled xs) ++ sign (codes "}")) front (regroup (spelled x) (joined (map spelled xs)) (sign (codes "}")) front s) in
    omega (arith, parts_length spelled h xs two.after two.spells_after, some_length two.front two.spells_front, ap length two.is, length-append two.front two.after)
  where
    some_length : (us : List Token) → Spells (spelled x) us → 1 ≤ length us
    some_length [] g = absurd (h x g)
    some_length (u ∷ us) g = omega arith

-- what stands after a part: the next one, or the brace
part_ends : {A : Type 0} (spelled : A → List Piece) (features : A → Features) (d renew : ℕ) (item : (left : ℕ) → List Token → Reads A) (Ends : A → List Token → Type 0) → IsCompletePart spelled features d renew item Ends → (x : A) (xs : List A) (left after : ℕ) (front rest : List Token) → Fits (all (map features xs)) d renew left after → Spells (joined (map spelled xs) ++ sign (codes "}")) front → Ends x (front ++ rest)
part_ends spelled features d renew item Ends h x [] left after front rest f s = h.ends_brace x front rest s
part_ends spelled features d renew item Ends h x (y ∷ ys) left after front rest f s = h.ends_part x y (joined (map spelled ys) ++ sign (codes "}")) front rest (and_parts (features y).follows (all (map features ys)).follows f.follows).0 (regroup (spelled y) (joined (map spelled ys)) (sign (codes "}")) front s)

pub complete-up_to_brace : {A : Type 0} (spelled : A → List Piece) (features : A → Features) (d renew : ℕ) (item : (left : ℕ) → List Token → Reads A) (Ends : A → List Token → Type 0) → IsCompletePart spelled features d renew item Ends → (xs : List A) (n left after : ℕ) (front rest : List Token) → suc (length xs) ≤ n → Fits (all (map features xs)) d renew left after → Spells (joined (map spelled xs) ++ sign (codes "}")) front → up_to_brace n item left (front ++ rest) ≡ Some (xs, after, rest)
unfolding up_to_brace
complete-up_to_brace spelled features d renew item Ends h xs zero left after front rest l f s = absurd (omega (arith, l))
complete-up_to_brace spelled features d renew item Ends h [] (suc n) left after front rest l f s = rw (up_to_brace, after_last (codes "}") front rest s, fits_nothing f) refl
complete-up_to_brace spelled features d renew item Ends h (x ∷ xs) (suc n) left after front rest l f s =
    let g = regroup (spelled x) (joined (map spelled xs)) (sign (codes "}")) front s in
    let other = no_sign_after (codes "}") (front ++ rest) (h.no_brace x (joined (map spelled xs) ++ sign (codes "}")) front rest g) in
    let fs = fits_both (features x) (all (map features xs)) d renew left after f in
    let two = next (spelled x) (joined (map spelled xs) ++ sign (codes "}")) front rest g in
    let first : item left (front ++ rest) ≡ Some (x, fs.between, two.last ++ rest) = ap (item left) two.is ∙ h.reads x left fs.between two.first (two.last ++ rest) fs.first two.spells_first (part_ends spelled features d renew item Ends h x xs fs.between after two.last rest fs.second two.spells_last) in
    let more : up_to_brace n item fs.between (two.last ++ rest) ≡ Some (xs, after, rest) = complete-up_to_brace spelled features d renew item Ends h xs n fs.between after two.last rest (omega (arith, l)) fs.second two.spells_last in
    rw (up_to_brace, other, first, more) refl

-- with as many turns as tokens
pub complete-to_brace : {A : Type 0} (spelled : A → List Piece) (features : A → Features) (d renew : ℕ) (item : (left : ℕ) → List Token → Reads A) (Ends : A → List Token → Type 0) → IsCompletePart spelled features d renew item Ends → (xs : List A) (left after : ℕ) (front rest : List Token) → Fits (all (map features xs)) d renew left after → Spells (joined (map spelled xs) ++ sign (codes "}")) front → up_to_brace (length (front ++ rest)) item left (front ++ rest) ≡ Some (xs, after, rest)
complete-to_brace spelled features d renew item Ends h xs left after front rest f s = complete-up_to_brace spelled features d renew item Ends h xs (length (front ++ rest)) left after front rest (omega (arith, parts_length spelled h.some xs front s, length-append front rest)) f s

-- ---- statements

-- statements that stand one construct deeper are parts in braces
nested_part : (d renew : ℕ) (b : Readers) → IsComplete d b → IsCompletePart spell_stmt (λ s. nested_of (of_stmt s)) d renew (b.nested renew) (λ s rest. ClosesStmt (of_stmt s) rest)
nested_part d renew b h = record {
  reads = λ x left after front rest f s c. h.nested x renew left after front rest f s c;
  ends_brace = λ x front rest s l. begins_word_at (codes "else") (record { shows = Sign (codes "}"); places = [] }) [] front rest s;
  ends_part = λ x y ps front rest f s l. stmt_no_else y ps front rest (and_parts _ (of_stmt y).follows f).1 s;
  no_brace = λ x ps front rest s. stmt_no_sign x (codes "}") ps front rest s;
  some = λ x s. stmt_some x s;
}

pub complete-block_at : (ss : List Stmt) (below : Option Readers) (d renew left after : ℕ) (front rest : List Token) → IsCompleteBelow d below → Fits (block_of (map of_stmt ss)) d renew left after → Spells (in_braces (map spell_stmt ss)) front → block_at below renew left (front ++ rest) ≡ Some (ss, after, rest)
unfolding block_at
complete-block_at ss below d renew left after front rest h f s =
    let i = inside (all (map nested_of (map of_stmt ss))) d below renew left after h f in
    let one = after_sign_at (codes "{") (joined (map spell_stmt ss) ++ sign (codes "}")) front rest s in
    let fits = subst (λ (fs : List Features). Fits (all fs) i.deeper renew left after) (sym (map_nested ss)) i.fits in
    let read = complete-to_brace spell_stmt (λ s. nested_of (of_stmt s)) i.deeper renew (i.readers.nested renew) (λ s rest. ClosesStmt (of_stmt s) rest) (nested_part i.deeper renew i.readers i.complete) ss left after one.front rest fits one.spells in
    rw (block_at, one.is, i.is, read) refl
