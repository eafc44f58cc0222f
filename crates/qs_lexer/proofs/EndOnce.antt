-- What stands behind a front that is cut is one thing: the end, or one fault.
use Rattle.std.proofs.Common.{◌≡◌, ◌⊎◌, inl, inr, ℕ, ◌+◌, ◌≤◌, List, [], ◌∷◌, Bool, Option, Some, None, length, refl, sym, ap, ◌∙◌, subst, arith}
use Rattle.qs_values.specs.declared.span.Span.{Span}
use Rattle.qs_lexer.specs.declared.refusal.LexRefusal.{LexRefusal}
use Rattle.qs_lexer.specs.declared.refusal.LexRefusal.TheVariants.{NotUtf8, BadChar, OpenComment as OpenCommentFault, OpenText as OpenTextFault, NumberTooWide, TooManyTokens, Memory}
use Rattle.qs_lexer.specs.declared.shape.Shape.{Shape}
use Rattle.qs_lexer.specs.declared.shape.Shape.TheVariants.{Gap, OpenComment, OpenText}
use Rattle.qs_lexer.specs.declared.state.State.TheVariants.{Start}
use Rattle.qs_lexer.specs.declared.token.Token.{Token}
use Rattle.qs_lexer.specs.Cut.{BeginsNothing, Gives, IsLongest, IsToken, place_behind_all}
use Rattle.qs_lexer.specs.Lexed.{IsClear, IsFaultAt, IsPieceFault, Stands, most_tokens}
use Rattle.qs_lexer.specs.steps.Scan.{longest_from}
use Rattle.qs_lexer.specs.Values.{IsLexeme, IsTooWide}
use Rattle.qs_lexer.proofs.FaultLemmas.{kind_excludes_wide}
use Rattle.qs_lexer.proofs.LongestLemmas.{found_or_none, longest_is, none_begins}
use Rattle.qs_lexer.proofs.PieceOnce.{longest_once, some_piece}

-- A source ends here without a fault, or this fault stands here.
abbrev pub IsEnd : Bool → List ℕ → List ℕ → ℕ → Span → Option LexRefusal → Type 0
IsEnd first text tail n place None = (text ≡ []) × (tail ≡ [])
IsEnd first text tail n place (Some refusal) = IsFaultAt first text tail n place refusal

-- the ways in which a source ends
pub data Way (first : Bool) (text tail : List ℕ) (n : ℕ) (place : Span) (end : Option LexRefusal) : Type 0 where
  all_read : text ≡ [] → tail ≡ [] → end ≡ None → Way first text tail n place end
  cut_off : text ≡ [] → ¬ (tail ≡ []) → end ≡ Some (NotUtf8 place) → Way first text tail n place end
  runs_out : ¬ (tail ≡ []) → (form : Shape) (t : List ℕ) → IsLongest first text form t [] → end ≡ Some (NotUtf8 (place_behind_all place t)) → Way first text tail n place end
  nothing : ¬ (text ≡ []) → BeginsNothing first text → end ≡ Some (BadChar place) → Way first text tail n place end
  faulty : (form : Shape) (t : List ℕ) → Stands first text tail form t → (refusal : LexRefusal) → IsPieceFault n place form t refusal → end ≡ Some refusal → Way first text tail n place end

pub way : (first : Bool) (text tail : List ℕ) (n : ℕ) (place : Span) (end : Option LexRefusal) → IsEnd first text tail n place end → Way first text tail n place end
way first text tail n place None is = all_read is.0 is.1 refl
way first text tail n place (Some (NotUtf8 span)) is =
    elim is.1 as (λ _. Way first text tail n place (Some (NotUtf8 span))) [
      | inl here ↦ cut_off here.0 is.0 (ap (λ s. Some (NotUtf8 s)) here.1)
      | inr piece ↦ runs_out is.0 piece.0 piece.1 piece.2 (ap (λ s. Some (NotUtf8 s)) piece.3)
    ]
way first text tail n place (Some (BadChar span)) is = nothing is.0 is.1 (ap (λ s. Some (BadChar s)) is.2)
way first text tail n place (Some Memory) is = absurd is
way first text tail n place (Some refusal) is = faulty is.0 is.1 is.2 refusal is.3 refl

-- at the end of the text
pub at_end : {first : Bool} {tail : List ℕ} {n : ℕ} {place : Span} {end : Option LexRefusal} → Way first [] tail n place end → ((tail ≡ []) × (end ≡ None)) ⊎ (¬ (tail ≡ []) × (end ≡ Some (NotUtf8 place)))
at_end (all_read none no_tail is) = inl (no_tail, is)
at_end (cut_off none tail is) = inr (tail, is)
at_end (runs_out tail form t longest is) = absurd (some_piece longest)
at_end (nothing some begins is) = absurd (some refl)
at_end (faulty form t stands refusal fault is) = absurd (some_piece stands.1)

-- where nothing begins
at_nothing : {first : Bool} {text tail : List ℕ} {n : ℕ} {place : Span} {end : Option LexRefusal} → ¬ (text ≡ []) → BeginsNothing first text → Way first text tail n place end → end ≡ Some (BadChar place)
at_nothing some begins (all_read none no_tail is) = absurd (some none)
at_nothing some begins (cut_off none tail is) = absurd (some none)
at_nothing some begins (runs_out tail form t longest is) = absurd (begins form t [] longest.whole longest.form)
at_nothing some begins (nothing also no_more is) = is
at_nothing some begins (faulty form t stands refusal fault is) = absurd (begins form t stands.0 stands.1.whole stands.1.form)

-- where a piece begins: it runs up to a byte that belongs to no character, or is at fault
abbrev AtPiece : List ℕ → ℕ → Span → Shape → List ℕ → List ℕ → Option LexRefusal → Type 0
AtPiece tail n place form t after end =
    (¬ (tail ≡ []) × (after ≡ []) × (end ≡ Some (NotUtf8 (place_behind_all place t))))
    ⊎ (IsClear after tail × (refusal : LexRefusal) × IsPieceFault n place form t refusal × (end ≡ Some refusal))

at_piece : {first : Bool} {text tail : List ℕ} {n : ℕ} {place : Span} {end : Option LexRefusal} {form : Shape} {t after : List ℕ} → IsLongest first text form t after → Way first text tail n place end → AtPiece tail n place form t after end
at_piece {first} {tail} {form} {t} {after} longest (all_read none no_tail is) = absurd (some_piece (subst (λ x. IsLongest first x form t after) none longest))
at_piece {first} {tail} {form} {t} {after} longest (cut_off none also is) = absurd (some_piece (subst (λ x. IsLongest first x form t after) none longest))
at_piece {place} {t} longest (runs_out also form' t' longest' is) =
    let same = longest_once longest longest' in
    inl (also, same.2, is ∙ ap (λ p. Some (NotUtf8 (place_behind_all place p))) (sym same.1))
at_piece {form} {t} {after} longest (nothing some begins is) = absurd (begins form t after longest.whole longest.form)
at_piece {tail} {n} {place} {form} {t} longest (faulty form' t' stands refusal fault is) =
    let same = longest_once longest stands.1 in
    let here = subst (λ f. IsPieceFault n place f t refusal) (sym same.0) (subst (λ p. IsPieceFault n place form' p refusal) (sym same.1) fault) in
    inr (subst (λ a. IsClear a tail) (sym same.2) stands.2, refusal, here, is)

-- a piece has one fault
fault_once : (n : ℕ) (place : Span) (form : Shape) (t : List ℕ) (refusal other : LexRefusal) → IsPieceFault n place form t refusal → IsPieceFault n place form t other → refusal ≡ other
fault_once n place form t (NotUtf8 span) other is so = absurd is
fault_once n place form t (BadChar span) other is so = absurd is
fault_once n place form t Memory other is so = absurd is
fault_once n place form t refusal (NotUtf8 span) is so = absurd so
fault_once n place form t refusal (BadChar span) is so = absurd so
fault_once n place form t refusal Memory is so = absurd so
fault_once n place form t (OpenCommentFault span) (OpenCommentFault span') is so = ap OpenCommentFault (is.1 ∙ sym so.1)
fault_once n place form t (OpenTextFault span) (OpenTextFault span') is so = ap OpenTextFault (is.1 ∙ sym so.1)
fault_once n place form t (NumberTooWide span) (NumberTooWide span') is so = ap NumberTooWide (is.1 ∙ sym so.1)
fault_once n place form t (TooManyTokens span) (TooManyTokens span') is so = ap TooManyTokens (is.3 ∙ sym so.3)
fault_once n place form t (OpenCommentFault span) (OpenTextFault span') is so = let e : OpenComment ≡ OpenText = sym is.0 ∙ so.0 in absurd (cc)
fault_once n place form t (OpenCommentFault span) (NumberTooWide span') is so = absurd (subst (λ f. IsTooWide f t) is.0 so.0)
fault_once n place form t (OpenCommentFault span) (TooManyTokens span') is so = absurd (subst IsLexeme is.0 so.1)
fault_once n place form t (OpenTextFault span) (OpenCommentFault span') is so = let e : OpenText ≡ OpenComment = sym is.0 ∙ so.0 in absurd (cc)
fault_once n place form t (OpenTextFault span) (NumberTooWide span') is so = absurd (subst (λ f. IsTooWide f t) is.0 so.0)
fault_once n place form t (OpenTextFault span) (TooManyTokens span') is so = absurd (subst IsLexeme is.0 so.1)
fault_once n place form t (NumberTooWide span) (OpenCommentFault span') is so = absurd (subst (λ f. IsTooWide f t) so.0 is.0)
fault_once n place form t (NumberTooWide span) (OpenTextFault span') is so = absurd (subst (λ f. IsTooWide f t) so.0 is.0)
fault_once n place form t (NumberTooWide span) (TooManyTokens span') is so = absurd (so.2 is.0)
fault_once n place form t (TooManyTokens span) (OpenCommentFault span') is so = absurd (subst IsLexeme so.0 is.1)
fault_once n place form t (TooManyTokens span) (OpenTextFault span') is so = absurd (subst IsLexeme so.0 is.1)
fault_once n place form t (TooManyTokens span) (NumberTooWide span') is so = absurd (is.2 so.0)

not_clear : {after tail : List ℕ} → IsClear after tail → after ≡ [] → ¬ (tail ≡ []) → ⊥
not_clear (inl some) none tail = some none
not_clear (inr no_tail) none tail = tail no_tail

ends_once : (tail : List ℕ) (n : ℕ) (place : Span) (form : Shape) (t after : List ℕ) (e f : Option LexRefusal) → AtPiece tail n place form t after e → AtPiece tail n place form t after f → e ≡ f
ends_once tail n place form t after e f (inl out) (inl also) = out.2 ∙ sym also.2
ends_once tail n place form t after e f (inl out) (inr also) = absurd (not_clear also.0 out.1 out.0)
ends_once tail n place form t after e f (inr out) (inl also) = absurd (not_clear out.0 also.1 also.0)
ends_once tail n place form t after e f (inr out) (inr also) = out.3 ∙ ap Some (fault_once n place form t out.1 also.1 out.2 also.2) ∙ sym also.3

-- the end is one
pub end_once : (first : Bool) (text tail : List ℕ) (n : ℕ) (place : Span) (e f : Option LexRefusal) → Way first text tail n place e → Way first text tail n place f → e ≡ f
end_once first [] tail n place e f one other =
    elim (at_end one) as (λ _. e ≡ f) [
      | inl read ↦ elim (at_end other) as (λ _. e ≡ f) [ inl also ↦ read.1 ∙ sym also.1 | inr also ↦ absurd (also.0 read.0) ]
      | inr off ↦ elim (at_end other) as (λ _. e ≡ f) [ inl also ↦ absurd (off.0 also.0) | inr also ↦ off.1 ∙ sym also.1 ]
    ]
end_once first (c ∷ cs) tail n place e f one other =
    let some = λ (none : c ∷ cs ≡ []). absurd (cc) in
    elim (found_or_none (longest_from (Start first) (c ∷ cs))) as (λ _. e ≡ f) [
      | inl none ↦ let begins = none_begins first (c ∷ cs) none in at_nothing some begins one ∙ sym (at_nothing some begins other)
      | inr found ↦ let piece = longest_is first (c ∷ cs) found.0.0 found.0.1 found.1 in
          ends_once tail n place found.0.0 piece.0 found.0.1 e f (at_piece piece.1 one) (at_piece piece.1 other)
    ]

-- what the tokens of a piece and others say of the piece
pub gives_way : (place : Span) (form : Shape) (t : List ℕ) (tokens : List Token) (More : List Token → Type 0) → Gives place form t tokens More → ((form ≡ Gap) × More tokens) ⊎ ((token : Token) × (others : List Token) × (tokens ≡ token ∷ others) × IsToken place form t token × More others)
gives_way place Gap t tokens More gives = inl (refl, gives)
gives_way place form t tokens More gives = inr gives

-- a piece that gives its token has no fault
no_fault : (n : ℕ) (place : Span) (form : Shape) (t : List ℕ) (tokens : List Token) (More : List Token → Type 0) (refusal : LexRefusal) → IsPieceFault n place form t refusal → Gives place form t tokens More → n + length tokens ≤ most_tokens → ⊥
no_fault n place form t tokens More (NotUtf8 span) fault gives few = fault
no_fault n place form t tokens More (BadChar span) fault gives few = fault
no_fault n place form t tokens More (OpenCommentFault span) fault gives few = (subst (λ f. Gives place f t tokens More) fault.0 gives).3.kind
no_fault n place form t tokens More (OpenTextFault span) fault gives few = (subst (λ f. Gives place f t tokens More) fault.0 gives).3.kind
no_fault n place form t tokens More (NumberTooWide span) fault gives few =
    elim (gives_way place form t tokens More gives) as (λ _. ⊥) [
      | inl gap ↦ subst (λ f. IsTooWide f t) gap.0 fault.0
      | inr is ↦ kind_excludes_wide form t is.0.kind is.3.kind fault.0
    ]
no_fault n place form t tokens More (TooManyTokens span) fault gives few =
    elim (gives_way place form t tokens More gives) as (λ _. ⊥) [
      | inl gap ↦ subst IsLexeme gap.0 fault.1
      | inr is ↦ omega (arith, few, fault.0, ap length is.2)
    ]
no_fault n place form t tokens More Memory fault gives few = fault

-- Where a piece gives its token a source can only end if it runs up to a byte that belongs to no character.
pub end_at_piece : (first : Bool) (text tail : List ℕ) (n : ℕ) (place : Span) (end : Option LexRefusal) (form : Shape) (t after : List ℕ) (tokens : List Token) (More : List Token → Type 0) → Way first text tail n place end → IsLongest first text form t after → Gives place form t tokens More → n + length tokens ≤ most_tokens → ¬ (tail ≡ []) × (after ≡ []) × (end ≡ Some (NotUtf8 (place_behind_all place t)))
end_at_piece first text tail n place end form t after tokens More ends longest gives few =
    elim (at_piece longest ends) as (λ _. ¬ (tail ≡ []) × (after ≡ []) × (end ≡ Some (NotUtf8 (place_behind_all place t)))) [
      | inl out ↦ out
      | inr fault ↦ absurd (no_fault n place form t tokens More fault.1 fault.2 gives few)
    ]
