-- What binds most tightly is read as it is spelled.
use Rattle.std.proofs.Common.{◌≡◌, ℕ, true, false, ◌&&◌, cond, List, [], ◌∷◌, codes, Option, Some, None, refl, ◌∙◌, arith}
use Rattle.std.specs.Str.{bytes_eq}
use Rattle.std.proofs.lemmas.Bool.{and_parts}
use Rattle.qs_values.specs.Names.{is_name}
use Rattle.qs_values.specs.declared.span.Span.{Span}
use Rattle.qs_lexer.specs.declared.token.Token.{Token}
use Rattle.qs_lexer.specs.declared.token.TokenKind.{TokenKind}
use Rattle.qs_lexer.specs.declared.token.TokenKind.TheVariants as kind
use Rattle.qs_tree.specs.declared.expr.Expr.{Expr}
use Rattle.qs_tree.specs.declared.expr.ExprKind.TheVariants.{Whole, Decimal, Time, Text, Truth, Name, Index, Physical, Call, Cast, DurationOf, Group}
use Rattle.qs_tree.specs.declared.expr.TypeExpr.{roll-TypeExpr}
use Rattle.qs_tree.specs.declared.expr.TypeWord.{TypeWord}
use Rattle.qs_tree.specs.declared.expr.TypeWord.TheVariants.{Bit, Int, Uint, Angle, Bool as BoolWord, Duration}
use Rattle.qs_tree.specs.Spelling.{spell_type, word, word_of_type}
use Rattle.qs_tree.specs.WellFormed.{Features, may_have_width, of_expr, of_type, primary_level}
use Rattle.qs_tree.proofs.Spelled.{spell-Whole, spell-Decimal, spell-Time, spell-Text, spell-Truth, spell-Name, spell-Index, spell-Physical, spell-Call, spell-Cast, spell-DurationOf, spell-Group, spell-TypeExpr}
use Rattle.qs_parser.specs.steps.Tokens.{Readers, begins_sign, is_sign}
use Rattle.qs_parser.specs.steps.Expressions.{cast_at, duration_at, group_at, has_width, kind_at, named_at, placed, primary, type_of, type_word, word_at}
use Rattle.qs_parser.proofs.Featured.{features-Whole, features-Decimal, features-Time, features-Text, features-Truth, features-Name, features-Index, features-Physical, features-Call, features-Cast, features-DurationOf, features-Group, features-TypeExpr}
use Rattle.qs_parser.proofs.TokenPieces.{Took, same_text, sign_shown, took_nothing, took_one, took_placed, took_then}
use Rattle.qs_parser.proofs.SoundParts.{Holds, Read, counted_both, counted_brackets, counted_nothing, counted_where, holds_at, holds_bind, holds_if, holds_sign, holds_some}
use Rattle.qs_parser.proofs.SoundReaders.{IsSoundBelow, ReadExpr}
use Rattle.qs_parser.proofs.SoundExprParts.{ReadKind, kind_as, level_placed, read_as, read_placed, sound-args_at, sound-closed, sound-enclosed}

-- ---- types

-- a word is the one of its type
pub word_is_type : (text : List ℕ) → Holds (type_word text) (λ w. text ≡ word_of_type w)
word_is_type text =
    holds_if (bytes_eq text (codes "bit")) (λ e. holds_some Bit (same_text _ _ e)) (λ n1.
    holds_if (bytes_eq text (codes "int")) (λ e. holds_some Int (same_text _ _ e)) (λ n2.
    holds_if (bytes_eq text (codes "uint")) (λ e. holds_some Uint (same_text _ _ e)) (λ n3.
    holds_if (bytes_eq text (codes "angle")) (λ e. holds_some Angle (same_text _ _ e)) (λ n4.
    holds_if (bytes_eq text (codes "bool")) (λ e. holds_some BoolWord (same_text _ _ e)) (λ n5.
    holds_if (bytes_eq text (codes "duration")) (λ e. holds_some Duration (same_text _ _ e)) (λ n6.
    record { is = tt }))))))

may_be_wide : (w : TypeWord) (f : Features) → has_width w ≡ true → may_have_width w (Some f) ≡ true
may_be_wide Bit f e = refl
may_be_wide Int f e = refl
may_be_wide Uint f e = refl
may_be_wide Angle f e = refl
may_be_wide BoolWord f e = e
may_be_wide Duration f e = e

may_be_bare : (w : TypeWord) → may_have_width w None ≡ true
may_be_bare Bit = refl
may_be_bare Int = refl
may_be_bare Uint = refl
may_be_bare Angle = refl
may_be_bare BoolWord = refl
may_be_bare Duration = refl

pub sound-type_of : (below : Option Readers) (d renew : ℕ) → IsSoundBelow d below → (left : ℕ) (t : Token) (w : TypeWord) (ts : List Token) → Took (word (word_of_type w)) (t ∷ ts) ts → Holds (type_of below renew left t.span w ts) (λ y. Read (spell_type y.0) (of_type y.0) d renew left (t ∷ ts) y.1 y.2)
unfolding type_of
sound-type_of below d renew h left t w ts first =
    holds_if (has_width w && begins_sign (codes "[") ts) (λ e.
    holds_bind (sound-enclosed (codes "[") (codes "]") below d renew h left ts) (λ width r.
    holds_some (roll-TypeExpr (record { span = t.span; word = w; width = Some width.0 }), width.1, width.2)
    (read_as (spell-TypeExpr t.span w (Some width.0)) (features-TypeExpr t.span w (Some width.0)) (took_placed _ t ts width.2 (took_then first r.took)) (counted_where (may_be_wide w _ (and_parts _ _ e).0) r.counted))))
    (λ e. holds_some (roll-TypeExpr (record { span = t.span; word = w; width = None }), left, ts)
    (read_as (spell-TypeExpr t.span w None) (features-TypeExpr t.span w None) (took_placed _ t ts ts (took_then first (took_nothing ts))) (counted_where (may_be_bare w) counted_nothing)))

-- ---- what begins with a word

sound-duration_at : (below : Option Readers) (d : ℕ) → IsSoundBelow d below → (left : ℕ) (all ts : List Token) → Took (word (codes "durationof")) all ts → Holds (duration_at below left ts) (ReadKind d left all)
unfolding duration_at
sound-duration_at below d h left all ts first =
    holds_bind (holds_sign (codes "(") ts) (λ rest s.
    holds_bind h (λ b one.
    holds_bind (one.sound.block 0 left rest) (λ body r.
    holds_bind (holds_sign (codes ")") body.2) (λ after t.
    holds_some (DurationOf body.0, body.1, after)
    (kind_as (spell-DurationOf body.0) (features-DurationOf body.0) (took_then first (took_then s (took_then r.took t))) (counted_brackets one.room r.counted) refl)))))

sound-cast_at : (below : Option Readers) (d : ℕ) → IsSoundBelow d below → (left : ℕ) (t : Token) (w : TypeWord) (ts : List Token) → Took (word (word_of_type w)) (t ∷ ts) ts → Holds (cast_at below left t.span w ts) (ReadKind d left (t ∷ ts))
unfolding cast_at
sound-cast_at below d h left t w ts first =
    holds_bind (sound-type_of below d 0 h left t w ts first) (λ type a.
    holds_bind (sound-enclosed (codes "(") (codes ")") below d 0 h type.1 type.2) (λ e b.
    holds_some (Cast type.0 e.0, e.1, e.2)
    (kind_as (spell-Cast type.0 e.0) (features-Cast type.0 e.0) (took_then a.took b.took) (counted_both a.counted b.counted) refl)))

sound-named_at : (below : Option Readers) (d : ℕ) → IsSoundBelow d below → (left : ℕ) (name : List ℕ) (all ts : List Token) → is_name name ≡ true → Took (word name) all ts → Holds (named_at below left name ts) (ReadKind d left all)
unfolding named_at
sound-named_at below d h left name all ts valid first =
    holds_if (begins_sign (codes "[") ts) (λ y.
    holds_bind (sound-enclosed (codes "[") (codes "]") below d 0 h left ts) (λ e r.
    holds_some (Index name e.0, e.1, e.2)
    (kind_as (spell-Index name e.0) (features-Index name e.0) (took_then first r.took) (counted_where valid r.counted) refl)))
    (λ n. holds_if (begins_sign (codes "(") ts) (λ y.
    holds_bind (sound-args_at below d 0 h left ts) (λ es r.
    holds_some (Call name es.0, es.1, es.2)
    (kind_as (spell-Call name es.0) (features-Call name es.0) (took_then first r.took) (counted_where valid r.counted) refl)))
    (λ m. holds_some (Name name, left, ts) (kind_as (spell-Name name) (features-Name name) first (counted_where valid counted_nothing) refl)))

-- a token that is a word of this text
pub took_text : (t : Token) (ts : List Token) (text : List ℕ) → t.kind ≡ kind.Word → bytes_eq t.text text ≡ true → Took (word text) (t ∷ ts) ts
took_text t ts text k e = took_one _ t ts ((k, same_text t.text text e), tt)

-- a token that is the word of a type
pub took_type : (t : Token) (ts : List Token) (w : TypeWord) → t.kind ≡ kind.Word → type_word t.text ≡ Some w → Took (word (word_of_type w)) (t ∷ ts) ts
took_type t ts w k e = took_one _ t ts ((k, holds_at (type_word t.text) w (word_is_type t.text) e), tt)

sound-word_at : (below : Option Readers) (d : ℕ) → IsSoundBelow d below → (left : ℕ) (t : Token) (ts : List Token) → t.kind ≡ kind.Word → Holds (word_at below left t.span t.text ts) (ReadKind d left (t ∷ ts))
unfolding word_at
sound-word_at below d h left t ts k =
    holds_if (bytes_eq t.text (codes "true")) (λ e. holds_some (Truth true, left, ts) (kind_as (spell-Truth true) (features-Truth true) (took_text t ts (codes "true") k e) counted_nothing refl)) (λ n1.
    holds_if (bytes_eq t.text (codes "false")) (λ e. holds_some (Truth false, left, ts) (kind_as (spell-Truth false) (features-Truth false) (took_text t ts (codes "false") k e) counted_nothing refl)) (λ n2.
    holds_if (bytes_eq t.text (codes "durationof")) (λ e. sound-duration_at below d h left (t ∷ ts) ts (took_text t ts (codes "durationof") k e)) (λ n3.
    elim_type (type_word t.text) refl)))
  where
    elim_type : (r : Option TypeWord) → type_word t.text ≡ r → Holds (elim r [ Some w ↦ cast_at below left t.span w ts | None ↦ cond (is_name t.text) (named_at below left t.text ts) None ]) (ReadKind d left (t ∷ ts))
    elim_type (Some w) e = sound-cast_at below d h left t w ts (took_type t ts w k e)
    elim_type None e = holds_if (is_name t.text) (λ valid. sound-named_at below d h left t.text (t ∷ ts) ts valid (took_one _ t ts ((k, refl), tt))) (λ n. record { is = tt })

-- ---- one token, and what binds most tightly

sound-group_at : (below : Option Readers) (d : ℕ) → IsSoundBelow d below → (left : ℕ) (t : Token) (ts : List Token) → Holds (group_at below left t ts) (ReadKind d left (t ∷ ts))
unfolding group_at
sound-group_at below d h left t ts =
    holds_if (is_sign (codes "(") t) (λ y.
    holds_bind (sound-closed (codes ")") below d 0 h left ts) (λ e r.
    holds_some (Group e.0, e.1, e.2)
    (kind_as (spell-Group e.0) (features-Group e.0) (took_then (took_one _ t ts (sign_shown (codes "(") t y, tt)) r.took) r.counted refl)))
    (λ n. record { is = tt })

sound-kind_of : (below : Option Readers) (d : ℕ) → IsSoundBelow d below → (left : ℕ) (k : TokenKind) (span : Span) (text : List ℕ) (ts : List Token) → Holds (kind_at below left (record { span = span; text = text; kind = k }) ts) (ReadKind d left (record { span = span; text = text; kind = k } ∷ ts))
unfolding kind_at
sound-kind_of below d h left kind.Word span text ts = sound-word_at below d h left (record { span = span; text = text; kind = kind.Word }) ts refl
sound-kind_of below d h left (kind.Physical number) span text ts = holds_some (Physical number, left, ts) (kind_as (spell-Physical number) (features-Physical number) (took_one _ (record { span = span; text = text; kind = kind.Physical number }) ts (refl, tt)) counted_nothing refl)
sound-kind_of below d h left (kind.Whole value) span text ts = holds_some (Whole value, left, ts) (kind_as (spell-Whole value) (features-Whole value) (took_one _ (record { span = span; text = text; kind = kind.Whole value }) ts (refl, tt)) counted_nothing refl)
sound-kind_of below d h left (kind.Decimal value) span text ts = holds_some (Decimal value, left, ts) (kind_as (spell-Decimal value) (features-Decimal value) (took_one _ (record { span = span; text = text; kind = kind.Decimal value }) ts (refl, tt)) counted_nothing refl)
sound-kind_of below d h left (kind.Time value unit) span text ts = holds_some (Time value unit, left, ts) (kind_as (spell-Time value unit) (features-Time value unit) (took_one _ (record { span = span; text = text; kind = kind.Time value unit }) ts (refl, tt)) counted_nothing refl)
sound-kind_of below d h left kind.Text span text ts = holds_some (Text text, left, ts) (kind_as (spell-Text text) (features-Text text) (took_one _ (record { span = span; text = text; kind = kind.Text }) ts ((refl, refl), tt)) counted_nothing refl)
sound-kind_of below d h left kind.Sign span text ts = sound-group_at below d h left (record { span = span; text = text; kind = kind.Sign }) ts

-- what binds most tightly
pub record ReadPrimary (d left : ℕ) (ts : List Token) (y : Expr × ℕ × List Token) : Type 0 where
  pub is : ReadExpr 0 d left ts y
  pub level : (of_expr y.0).level ≡ primary_level

pub sound-primary : (below : Option Readers) (d : ℕ) → IsSoundBelow d below → (left : ℕ) (ts : List Token) → Holds (primary below left ts) (ReadPrimary d left ts)
unfolding primary
sound-primary below d h left [] = record { is = tt }
sound-primary below d h left (t ∷ ts) =
    holds_bind (sound-kind_of below d h left t.kind t.span t.text ts) (λ e r.
    let level : (of_expr (placed t.span e.0)).level ≡ primary_level = level_placed t.span e.0 ∙ r.level in
    holds_some (placed t.span e.0, e.1, e.2) (record {
      is = record { read = read_placed t.span e.0 d left e.1 (t ∷ ts) e.2 refl r.read; binds = omega (arith, level); begins = refl };
      level = level;
    }))
