-- How tokens begin where a statement that follows the grammar is spelled at the front.
use Rattle.std.proofs.Common.{◌≡◌, ℕ, Bool, true, false, ◌||◌, cond, codes, List, [], ◌∷◌, ◌++◌, Some, None, refl, ap, ◌∙◌, inl, inr}
use Rattle.std.specs.Prelude.{◌⊎◌}
use Rattle.std.specs.Str.{bytes_eq}
use Rattle.std.proofs.lemmas.Bool.{and_right, or_from, or_parts, cond-false}
use Rattle.qs_lexer.specs.declared.token.Token.{Token}
use Rattle.qs_lexer.specs.declared.token.TokenKind.TheVariants as kind
use Rattle.qs_tree.specs.declared.expr.TypeExpr.{TypeExpr}
use Rattle.qs_tree.specs.declared.statement.Stmt.{Stmt}
use Rattle.qs_tree.specs.Spelling.{Piece, Word, Spells, spell_stmt, spell_type}
use Rattle.qs_tree.specs.WellFormed.{may_nest, of_stmt}
use Rattle.qs_parser.specs.steps.Tokens.{begins_word, has_word, is_word}
use Rattle.qs_parser.specs.steps.Sources.{is_left_out_word, unsupported}
use Rattle.qs_parser.proofs.CompleteExprCases.{spells_as}
use Rattle.qs_parser.proofs.CompleteBegins.{BeginsType, BeginsWord, before_type, never_first, stmt_begins, top_first, type_begins}

-- ---- the first word

-- a word that may begin a statement
pub record FirstWord (ts : List Token) : Type 0 where
  pub t : Token
  pub us : List Token
  pub is : ts ≡ t ∷ us
  pub is_word : t.kind ≡ kind.Word
  pub first : never_first t.text ≡ false

-- tokens begin as a statement does, or where a rule holds as one does that may stand in another one
pub record Starts (rule : Bool) (ts : List Token) : Type 0 where
  pub word : FirstWord ts
  pub second : (before_type word.t.text ≡ false) ⊎ FirstWord word.us
  pub nests : rule ≡ true → top_first word.t.text ≡ false

begins_first : {rule nests : Bool} {ps : List Piece} (b : BeginsWord rule nests ps) (qs : List Piece) (front rest : List Token) → rule ≡ true → Spells (ps ++ qs) front → FirstWord (front ++ rest)
begins_first b qs front rest r s = from front (spells_as front (ap (λ (x : List Piece). x ++ qs) b.is) s)
  where
    from : (us : List Token) → Spells (record { shows = Word b.text; places = b.places } ∷ (b.more ++ qs)) us → FirstWord (us ++ rest)
    from [] g = absurd g
    from (t ∷ ts) g = record { t = t; us = ts ++ rest; is = refl; is_word = g.0.0.0; first = ap never_first g.0.0.1 ∙ b.first r }

-- a type at the front
pub type_first_word : (type : TypeExpr) (ps : List Piece) (front rest : List Token) → Spells (spell_type type ++ ps) front → FirstWord (front ++ rest)
type_first_word type ps front rest s = begins_first {rule = true} {nests = true} (type_begins type) ps front rest refl s

starts_of : {rule nests : Bool} {ps : List Piece} (b : BeginsWord rule nests ps) (front rest : List Token) → rule ≡ true → Spells (record { shows = Word b.text; places = b.places } ∷ b.more) front → Starts nests (front ++ rest)
starts_of b [] rest r g = absurd g
starts_of b (t ∷ ts) rest r g = record {
  word = record { t = t; us = ts ++ rest; is = refl; is_word = g.0.0.0; first = ap never_first g.0.0.1 ∙ b.first r };
  second = from (b.second r);
  nests = λ n. ap top_first g.0.0.1 ∙ b.top r n;
}
  where
    from : (before_type b.text ≡ false) ⊎ BeginsType b.more → (before_type t.text ≡ false) ⊎ FirstWord (ts ++ rest)
    from (inl e) = inl (ap before_type g.0.0.1 ∙ e)
    from (inr y) = inr (type_first_word y.type y.more ts rest (spells_as ts y.is g.1))

-- a whole statement at the front
pub stmt_starts : (s : Stmt) (front rest : List Token) → (of_stmt s).follows ≡ true → Spells (spell_stmt s) front → Starts (may_nest (of_stmt s).standing) (front ++ rest)
stmt_starts s front rest f h = let b = stmt_begins s in starts_of b front rest f (spells_as front b.is h)

-- ---- what the first word tells

first_no_word : {rule : Bool} (text : List ℕ) (ts : List Token) → Starts rule ts → ((w : List ℕ) → never_first w ≡ false → bytes_eq w text ≡ false) → begins_word text ts ≡ false
first_no_word text ts s n = ap (begins_word text) s.word.is ∙ rw (s.word.is_word, n s.word.t.text s.word.first) refl

-- no statement begins with an `else`
pub starts_no_else : {rule : Bool} (ts : List Token) → Starts rule ts → begins_word (codes "else") ts ≡ false
starts_no_else ts s = first_no_word (codes "else") ts s (λ w n. (or_parts _ _ n).0)

-- nor with the word of a version line
pub starts_no_version : {rule : Bool} (ts : List Token) → Starts rule ts → begins_word (codes "OPENQASM") ts ≡ false
starts_no_version ts s = first_no_word (codes "OPENQASM") ts s (λ w n. (or_parts _ _ (or_parts _ _ n).1).0)

-- nor with a word that is left out, nor with one after which such a word stands
not_left_out : (ts : List Token) (w : FirstWord ts) → is_left_out_word w.t ≡ false
not_left_out ts w = and_right (has_word w.t.kind) _ (or_parts _ _ (or_parts _ _ w.first).1).1

unsupported_alone : (t : Token) (us : List Token) → is_left_out_word t ≡ false → before_type t.text ≡ false → unsupported (t ∷ us) ≡ None
unsupported_alone t us n b =
    let p = or_parts (bytes_eq t.text (codes "const") || bytes_eq t.text (codes "input")) (bytes_eq t.text (codes "output")) b in
    let q = or_parts (bytes_eq t.text (codes "const")) (bytes_eq t.text (codes "input")) p.0 in
    let no : (is_word (codes "const") t || is_word (codes "input") t || is_word (codes "output") t) ≡ false = or_from _ _ (or_from _ _ (and_right (has_word t.kind) _ q.0) (and_right (has_word t.kind) _ q.1)) (and_right (has_word t.kind) _ p.1) in
    cond-false (is_left_out_word t) _ _ n ∙ cond-false (is_word (codes "const") t || is_word (codes "input") t || is_word (codes "output") t) _ _ no

either_none : (b c : Bool) (x : List ℕ) → c ≡ false → cond b (cond c (Some x) None) None ≡ None
either_none true c x e = cond-false c _ _ e
either_none false c x e = refl

unsupported_before : (t u : Token) (us : List Token) → is_left_out_word t ≡ false → is_left_out_word u ≡ false → unsupported (t ∷ u ∷ us) ≡ None
unsupported_before t u us n m = cond-false (is_left_out_word t) _ _ n ∙ either_none (is_word (codes "const") t || is_word (codes "input") t || is_word (codes "output") t) (is_left_out_word u) u.text m

unsupported_of : (t : Token) (us : List Token) → is_left_out_word t ≡ false → (before_type t.text ≡ false) ⊎ FirstWord us → unsupported (t ∷ us) ≡ None
unsupported_of t us n (inl b) = unsupported_alone t us n b
unsupported_of t us n (inr w) = ap (λ (vs : List Token). unsupported (t ∷ vs)) w.is ∙ unsupported_before t w.t w.us n (not_left_out us w)

pub starts_supported : {rule : Bool} (ts : List Token) → Starts rule ts → unsupported ts ≡ None
starts_supported ts s = ap unsupported s.word.is ∙ unsupported_of s.word.t s.word.us (not_left_out ts s.word) s.second
