-- Tokens that are read one by one, and the pieces that spell them.
use Rattle.std.proofs.Common.{◌≡◌, ℕ, Bool, true, false, ◌&&◌, cond, List, [], ◌∷◌, ◌++◌, length, Option, Some, None, refl, sym, ap, subst, ◌∙◌, append_assoc, arith, inl, inr}
use Rattle.std.specs.Prelude.{◌⊎◌}
use Rattle.std.specs.Str.{bytes_eq}
use Rattle.std.proofs.lemmas.Bool.{and_parts, and_left}
use Rattle.std.proofs.lemmas.Option.{cond_some}
use Rattle.std.proofs.lemmas.Slice.Eq.{bytes_eq-Decides}
use Rattle.qs_values.specs.Names.{is_name}
use Rattle.qs_lexer.specs.declared.token.Token.{Token}
use Rattle.qs_lexer.specs.declared.token.TokenKind.{TokenKind}
use Rattle.qs_lexer.specs.declared.token.TokenKind.TheVariants as kind
use Rattle.qs_tree.specs.declared.name.Ident.{Ident}
use Rattle.qs_tree.specs.Spelling.{Shown, Shows, IsNumber, Word, Sign, Quoted, Qubit, Integer, Fraction, Period, Version, Inserted, Piece, IsTokenOf, Spells, at_place, name, sign, word}
use Rattle.qs_parser.specs.steps.Tokens.{◌>>=◌, after_sign, after_word, begins_sign, begins_word, has_sign, has_word, is_sign, is_word, name_at}

-- ---- steps

-- what a step that read something went through
pub bind_some : {A B : Type 0} (r : Option A) (f : A → Option B) (y : B) → (r >>= f) ≡ Some y → (x : A) × (r ≡ Some x) × (f x ≡ Some y)
bind_some None f y e = absurd cc
bind_some (Some x) f y e = (x, refl, e)

-- a step after one that reads something
pub bind_at : {A B : Type 0} (r : Option A) (f : A → Option B) (x : A) → r ≡ Some x → (r >>= f) ≡ f x
bind_at None f x e = absurd cc
bind_at (Some y) f x e = ap f cc

-- which way a test went
pub chosen : {A : Type 0} (b : Bool) (x y z : A) → cond b x y ≡ z → ((b ≡ true) × (x ≡ z)) ⊎ ((b ≡ false) × (y ≡ z))
chosen true x y z e = inl (refl, e)
chosen false x y z e = inr (refl, e)

-- ---- texts

pub same_text : (a b : List ℕ) → bytes_eq a b ≡ true → a ≡ b
same_text a b e = (bytes_eq-Decides a b).0 e

pub text_same : (a b : List ℕ) → a ≡ b → bytes_eq a b ≡ true
text_same a b e = (bytes_eq-Decides a b).1 e

pub text_itself : (a : List ℕ) → bytes_eq a a ≡ true
text_itself a = text_same a a refl

-- ---- kinds

pub word_kind : (k : TokenKind) → has_word k ≡ true → k ≡ kind.Word
word_kind kind.Word e = refl
word_kind (kind.Physical number) e = absurd cc
word_kind (kind.Whole value) e = absurd cc
word_kind (kind.Decimal value) e = absurd cc
word_kind (kind.Time value unit) e = absurd cc
word_kind kind.Text e = absurd cc
word_kind kind.Sign e = absurd cc

pub sign_kind : (k : TokenKind) → has_sign k ≡ true → k ≡ kind.Sign
sign_kind kind.Sign e = refl
sign_kind (kind.Physical number) e = absurd cc
sign_kind (kind.Whole value) e = absurd cc
sign_kind (kind.Decimal value) e = absurd cc
sign_kind (kind.Time value unit) e = absurd cc
sign_kind kind.Text e = absurd cc
sign_kind kind.Word e = absurd cc

-- ---- lists that are spelled

pub spells_append : (ps qs : List Piece) (ts us : List Token) → Spells ps ts → Spells qs us → Spells (ps ++ qs) (ts ++ us)
spells_append [] qs [] us a b = b
spells_append [] qs (t ∷ ts) us a b = absurd a
spells_append (p ∷ ps) qs [] us a b = absurd a
spells_append (p ∷ ps) qs (t ∷ ts) us a b = (a.0, spells_append ps qs ts us a.1 b)

pub nothing_spelled : (ts : List Token) → Spells [] ts → ts ≡ []
nothing_spelled [] h = refl
nothing_spelled (t ∷ ts) h = absurd h

-- tokens that two lists of pieces spell
pub record Split (ps qs : List Piece) (ts : List Token) : Type 0 where
  pub front : List Token
  pub after : List Token
  pub is : ts ≡ front ++ after
  pub spells_front : Spells ps front
  pub spells_after : Spells qs after

pub spells_split : (ps qs : List Piece) (ts : List Token) → Spells (ps ++ qs) ts → Split ps qs ts
spells_split [] qs ts h = record { front = []; after = ts; is = refl; spells_front = tt; spells_after = h }
spells_split (p ∷ ps) qs [] h = absurd h
spells_split (p ∷ ps) qs (t ∷ ts) h =
    let s = spells_split ps qs ts h.1 in
    record { front = t ∷ s.front; after = s.after; is = ap (λ (us : List Token). t ∷ us) s.is; spells_front = (h.0, s.spells_front); spells_after = s.spells_after }

pub spells_length : (ps : List Piece) (ts : List Token) → Spells ps ts → length ps ≡ length ts
spells_length [] [] h = refl
spells_length [] (t ∷ ts) h = absurd h
spells_length (p ∷ ps) [] h = absurd h
spells_length (p ∷ ps) (t ∷ ts) h = omega (arith, spells_length ps ts h.1)

-- ---- which word or sign a piece is

-- whether a piece is this word, or this sign
abbrev pub shows_word : List ℕ → Shown → Bool
shows_word text (Word other) = bytes_eq other text
shows_word text (Sign other) = false
shows_word text (Quoted other) = false
shows_word text (Qubit number) = false
shows_word text (Integer value) = false
shows_word text (Fraction value) = false
shows_word text (Period value unit) = false
shows_word text (Version other) = false
shows_word text (Inserted value) = false

abbrev pub shows_sign : List ℕ → Shown → Bool
shows_sign text (Word other) = false
shows_sign text (Sign other) = bytes_eq other text
shows_sign text (Quoted other) = false
shows_sign text (Qubit number) = false
shows_sign text (Integer value) = false
shows_sign text (Fraction value) = false
shows_sign text (Period value unit) = false
shows_sign text (Version other) = false
shows_sign text (Inserted value) = false

number_no_word : (k : TokenKind) → IsNumber k → has_word k ≡ false
number_no_word (kind.Whole value) h = refl
number_no_word (kind.Decimal value) h = refl
number_no_word kind.Word h = absurd h
number_no_word (kind.Physical number) h = absurd h
number_no_word (kind.Time value unit) h = absurd h
number_no_word kind.Text h = absurd h
number_no_word kind.Sign h = absurd h

number_no_sign : (k : TokenKind) → IsNumber k → has_sign k ≡ false
number_no_sign (kind.Whole value) h = refl
number_no_sign (kind.Decimal value) h = refl
number_no_sign kind.Word h = absurd h
number_no_sign (kind.Physical number) h = absurd h
number_no_sign (kind.Time value unit) h = absurd h
number_no_sign kind.Text h = absurd h
number_no_sign kind.Sign h = absurd h

-- whether the token of a piece is a word or a sign
pub word_of_piece : (text : List ℕ) (shows : Shown) (t : Token) → Shows t shows → is_word text t ≡ shows_word text shows
word_of_piece text (Word other) t h = rw (h.0, h.1) refl
word_of_piece text (Sign other) t h = rw (h.0) refl
word_of_piece text (Quoted other) t h = rw (h.0) refl
word_of_piece text (Qubit number) t h = rw h refl
word_of_piece text (Integer value) t h = rw h refl
word_of_piece text (Fraction value) t h = rw h refl
word_of_piece text (Period value unit) t h = rw h refl
word_of_piece text (Version other) t h = and_left _ _ (number_no_word t.kind h.0)
word_of_piece text (Inserted value) t h = absurd h

pub sign_of_piece : (text : List ℕ) (shows : Shown) (t : Token) → Shows t shows → is_sign text t ≡ shows_sign text shows
sign_of_piece text (Word other) t h = rw (h.0) refl
sign_of_piece text (Sign other) t h = rw (h.0, h.1) refl
sign_of_piece text (Quoted other) t h = rw (h.0) refl
sign_of_piece text (Qubit number) t h = rw h refl
sign_of_piece text (Integer value) t h = rw h refl
sign_of_piece text (Fraction value) t h = rw h refl
sign_of_piece text (Period value unit) t h = rw h refl
sign_of_piece text (Version other) t h = and_left _ _ (number_no_sign t.kind h.0)
sign_of_piece text (Inserted value) t h = absurd h

-- ---- reading a piece that stands at the front

-- the token of a word or of a sign, by its piece
pub word_shown : (text : List ℕ) (t : Token) → is_word text t ≡ true → Shows t (Word text)
word_shown text t e = let p = and_parts _ _ e in (word_kind t.kind p.0, same_text t.text text p.1)

pub sign_shown : (text : List ℕ) (t : Token) → is_sign text t ≡ true → Shows t (Sign text)
sign_shown text t e = let p = and_parts _ _ e in (sign_kind t.kind p.0, same_text t.text text p.1)

-- a word or a sign that is spelled at the front is read, and leaves what spells the rest
pub record Left (ps : List Piece) (read : Option (List Token)) (rest : List Token) : Type 0 where
  pub front : List Token
  pub is : read ≡ Some (front ++ rest)
  pub spells : Spells ps front

pub after_word_at : (text : List ℕ) (ps : List Piece) (front rest : List Token) → Spells (word text ++ ps) front → Left ps (after_word text (front ++ rest)) rest
after_word_at text ps [] rest h = absurd h
after_word_at text ps (t ∷ ts) rest h =
    let e : is_word text t ≡ true = word_of_piece text (Word text) t h.0.0 ∙ text_itself text in
    record { front = ts; is = rw e refl; spells = h.1 }

pub after_sign_at : (text : List ℕ) (ps : List Piece) (front rest : List Token) → Spells (sign text ++ ps) front → Left ps (after_sign text (front ++ rest)) rest
after_sign_at text ps [] rest h = absurd h
after_sign_at text ps (t ∷ ts) rest h =
    let e : is_sign text t ≡ true = sign_of_piece text (Sign text) t h.0.0 ∙ text_itself text in
    record { front = ts; is = rw e refl; spells = h.1 }

-- where another piece is spelled at the front, this word or this sign is not read
pub begins_word_at : (text : List ℕ) (p : Piece) (ps : List Piece) (front rest : List Token) → Spells (p ∷ ps) front → begins_word text (front ++ rest) ≡ shows_word text p.shows
begins_word_at text p ps [] rest h = absurd h
begins_word_at text p ps (t ∷ ts) rest h = word_of_piece text p.shows t h.0.0

pub begins_sign_at : (text : List ℕ) (p : Piece) (ps : List Piece) (front rest : List Token) → Spells (p ∷ ps) front → begins_sign text (front ++ rest) ≡ shows_sign text p.shows
begins_sign_at text p ps [] rest h = absurd h
begins_sign_at text p ps (t ∷ ts) rest h = sign_of_piece text p.shows t h.0.0

pub no_word_after : (text : List ℕ) (ts : List Token) → begins_word text ts ≡ false → after_word text ts ≡ None
no_word_after text [] e = refl
no_word_after text (t ∷ ts) e = rw e refl

pub no_sign_after : (text : List ℕ) (ts : List Token) → begins_sign text ts ≡ false → after_sign text ts ≡ None
no_sign_after text [] e = refl
no_sign_after text (t ∷ ts) e = rw e refl

-- a name that is spelled at the front is read
pub record NameLeft (n : Ident) (ps : List Piece) (read : Option (Ident × List Token)) (rest : List Token) : Type 0 where
  pub front : List Token
  pub is : read ≡ Some (n, front ++ rest)
  pub spells : Spells ps front

pub name_at_name : (n : Ident) (ps : List Piece) (front rest : List Token) → is_name n.name ≡ true → Spells (name n ++ ps) front → NameLeft n ps (name_at (front ++ rest)) rest
name_at_name n ps [] rest valid h = absurd h
name_at_name n ps (t ∷ ts) rest valid h =
    let k : t.kind ≡ kind.Word = h.0.0.0 in
    let e : t.text ≡ n.name = h.0.0.1 in
    let s : t.span ≡ n.span = h.0.1.0 in
    record { front = ts; is = rw (k, e, s, valid) refl; spells = h.1 }

-- ---- what is taken from the front

-- what spells these pieces is taken from the tokens, and the rest is left
pub record Took (ps : List Piece) (ts rest : List Token) : Type 0 where
  pub front : List Token
  pub is : ts ≡ front ++ rest
  pub spells : Spells ps front

pub took_nothing : (ts : List Token) → Took [] ts ts
took_nothing ts = record { front = []; is = refl; spells = tt }

-- one part after another
pub took_then : {ps qs : List Piece} {ts us vs : List Token} → Took ps ts us → Took qs us vs → Took (ps ++ qs) ts vs
took_then {ps = ps} {qs = qs} {ts = ts} {us = us} {vs = vs} a b = record {
  front = a.front ++ b.front;
  is = a.is ∙ ap (λ (x : List Token). a.front ++ x) b.is ∙ sym (append_assoc a.front b.front vs);
  spells = spells_append ps qs a.front b.front a.spells b.spells;
}

-- one token
pub took_one : (p : Piece) (t : Token) (ts : List Token) → IsTokenOf p t → Took (p ∷ []) (t ∷ ts) ts
took_one p t ts h = record { front = t ∷ []; is = refl; spells = (h, tt) }

cons_head : (t u : Token) (ts us : List Token) → t ∷ ts ≡ u ∷ us → t ≡ u
cons_head t u ts us e = cc

-- what begins at the first token
pub took_placed : (ps : List Piece) (t : Token) (ts rest : List Token) → Took ps (t ∷ ts) rest → Took (at_place t.span ps) (t ∷ ts) rest
took_placed [] t ts rest a = a
took_placed (p ∷ ps) t ts rest a = placed a.front a.is a.spells
  where
    placed : (front : List Token) → t ∷ ts ≡ front ++ rest → Spells (p ∷ ps) front → Took (at_place t.span (p ∷ ps)) (t ∷ ts) rest
    placed [] e h = absurd h
    placed (u ∷ us) e h =
        let same : t.span ≡ u.span = ap (λ (x : Token). x.span) (cons_head t u ts (us ++ rest) e) in
        record { front = u ∷ us; is = e; spells = ((h.0.0, (sym same, h.0.1)), h.1) }

pub took_word : (text : List ℕ) (ts rest : List Token) → after_word text ts ≡ Some rest → Took (word text) ts rest
took_word text [] rest e = absurd cc
took_word text (t ∷ ts) rest e =
    let c = cond_some (is_word text t) ts rest e in
    subst (λ (us : List Token). Took (word text) (t ∷ ts) us) c.1 (took_one _ t ts (word_shown text t c.0, tt))

pub took_sign : (text : List ℕ) (ts rest : List Token) → after_sign text ts ≡ Some rest → Took (sign text) ts rest
took_sign text [] rest e = absurd cc
took_sign text (t ∷ ts) rest e =
    let c = cond_some (is_sign text t) ts rest e in
    subst (λ (us : List Token). Took (sign text) (t ∷ ts) us) c.1 (took_one _ t ts (sign_shown text t c.0, tt))

-- a name that was read
pub record TookName (n : Ident) (ts rest : List Token) : Type 0 where
  pub took : Took (name n) ts rest
  pub valid : is_name n.name ≡ true

pub took_name : (ts : List Token) (n : Ident) (rest : List Token) → name_at ts ≡ Some (n, rest) → TookName n ts rest
took_name [] n rest e = absurd cc
took_name (t ∷ ts) n rest e =
    let c = cond_some (has_word t.kind && is_name t.text) (record { span = t.span; name = t.text }, ts) (n, rest) e in
    let k = and_parts (has_word t.kind) (is_name t.text) c.0 in
    subst (λ (x : Ident × List Token). TookName x.0 (t ∷ ts) x.1) c.1 (record { took = took_one _ t ts ((word_kind t.kind k.0, refl), (refl, tt)); valid = k.1 })
