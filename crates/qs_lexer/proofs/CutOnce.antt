-- A source has one cut, one list of tokens and one end.
use Rattle.std.proofs.Common.{◌≡◌, ◌⊎◌, inl, inr, ℕ, ◌+◌, ◌≤◌, List, [], ◌∷◌, Bool, true, Option, Some, None, length, refl, sym, ap, ◌∙◌, subst, arith}
use Rattle.std.specs.Str.{chars, encode_utf8_all}
use Rattle.std.proofs.lemmas.Str.{encodes-chars}
use Rattle.qs_values.specs.declared.span.Span.{Span}
use Rattle.qs_lexer.specs.declared.refusal.LexRefusal.{LexRefusal}
use Rattle.qs_lexer.specs.declared.refusal.LexRefusal.TheVariants.{NotUtf8}
use Rattle.qs_lexer.specs.declared.shape.Shape.{Shape}
use Rattle.qs_lexer.specs.declared.shape.Shape.TheVariants.{Gap}
use Rattle.qs_lexer.specs.declared.token.Token.{Token}
use Rattle.qs_lexer.specs.Cut.{AreTokens, IsCut, IsToken, Piece, first_behind, first_behind_all, place_behind_all, start}
use Rattle.qs_lexer.specs.Lexed.{HasFault, IsReadable, Lexes, most_tokens, text_of}
use Rattle.qs_lexer.specs.Once.{FaultOnce, NoFaultBesideTokens, TokensOnce}
use Rattle.qs_lexer.specs.Values.{KindIs}
use Rattle.qs_lexer.proofs.EndOnce.{IsEnd, Way, at_end, end_at_piece, end_once, gives_way, way}
use Rattle.qs_lexer.proofs.FaultLemmas.{all_is_readable}
use Rattle.qs_lexer.proofs.PieceOnce.{kind_once, longest_once, some_piece}
use Rattle.qs_lexer.proofs.PlaceLemmas.{place_behind_append}
use Rattle.qs_lexer.proofs.ReadableOnce.{readable_once}

-- From here on a source is cut into pieces with these tokens, and then ends so. `n` tokens are before, and `total` in all.
pub record Goes (first : Bool) (text tail : List ℕ) (place : Span) (n total : ℕ) (end : Option LexRefusal) (pieces : List Piece) (tokens : List Token) : Type 0 where
  pub rest : List ℕ
  pub cut : IsCut first text pieces rest
  pub are : AreTokens place pieces tokens
  pub all : n + length tokens ≡ total
  pub few : total ≤ most_tokens
  pub ends : IsEnd (first_behind_all first pieces) rest tail total (place_behind_all place (text_of pieces)) end

-- it ends here
way_here : {first : Bool} {text tail : List ℕ} {place : Span} {n total : ℕ} {end : Option LexRefusal} {tokens : List Token} → Goes first text tail place n total end [] tokens → Way first text tail n place end
way_here {first} {text} {tail} {place} {n} {total} {end} {tokens} goes =
    let none = ap length goes.are in
    let count : total ≡ n = omega (arith, none, goes.all) in
    way first text tail n place end (subst (λ m. IsEnd first text tail m place end) count (subst (λ t. IsEnd first t tail total place end) (sym goes.cut) goes.ends))

-- it goes on with a piece
abbrev GoesOn : Bool → List ℕ → Span → ℕ → ℕ → Option LexRefusal → Shape → List ℕ → List ℕ → List Piece → List Token → Type 0
GoesOn first tail place n total end form t after pieces tokens =
    ((form ≡ Gap) × Goes (first_behind first form t) after tail (place_behind_all place t) n total end pieces tokens)
    ⊎ ((token : Token) × (others : List Token) × (tokens ≡ token ∷ others) × IsToken place form t token × Goes (first_behind first form t) after tail (place_behind_all place t) (n + 1) total end pieces others)

goes_on : (first : Bool) (text tail : List ℕ) (place : Span) (n total : ℕ) (end : Option LexRefusal) (p : Piece) (pieces : List Piece) (tokens : List Token) (goes : Goes first text tail place n total end (p ∷ pieces) tokens) → GoesOn first tail place n total end p.0 p.1 goes.cut.0 pieces tokens
goes_on first text tail place n total end p pieces tokens goes =
    let there = first_behind_all (first_behind first p.0 p.1) pieces in
    let ends = subst (λ s. IsEnd there goes.rest tail total s end) (place_behind_append place p.1 (text_of pieces)) goes.ends in
    elim (gives_way place p.0 p.1 tokens (AreTokens (place_behind_all place p.1) pieces) goes.are) as (λ _. GoesOn first tail place n total end p.0 p.1 goes.cut.0 pieces tokens) [
      | inl gap ↦ inl (gap.0, record { rest = goes.rest; cut = goes.cut.2; are = gap.1; all = goes.all; few = goes.few; ends = ends })
      | inr is ↦ inr (is.0, is.1, is.2, is.3, record { rest = goes.rest; cut = goes.cut.2; are = is.4; all = omega (arith, goes.all, ap length is.2); few = goes.few; ends = ends })
    ]

-- behind the last character there is only a byte that belongs to none
ends_cut_off : (first : Bool) (tail : List ℕ) (place : Span) (n total : ℕ) (end : Option LexRefusal) (pieces : List Piece) (tokens : List Token) → Goes first [] tail place n total end pieces tokens → ¬ (tail ≡ []) → end ≡ Some (NotUtf8 place)
ends_cut_off first tail place n total end [] tokens goes off =
    elim (at_end (way_here goes)) as (λ _. end ≡ Some (NotUtf8 place)) [ inl read ↦ absurd (off read.0) | inr is ↦ is.1 ]
ends_cut_off first tail place n total end (p ∷ ps) tokens goes off = absurd (some_piece goes.cut.1)

goes_cut_off : (first : Bool) (text tail : List ℕ) (place : Span) (n total : ℕ) (end : Option LexRefusal) (q : Piece) (qs : List Piece) (us : List Token) (goes : Goes first text tail place n total end (q ∷ qs) us) → goes.cut.0 ≡ [] → ¬ (tail ≡ []) → end ≡ Some (NotUtf8 (place_behind_all place q.1))
goes_cut_off first text tail place n total end q qs us goes none off =
    let there = place_behind_all place q.1 in
    let next = first_behind first q.0 q.1 in
    elim (goes_on first text tail place n total end q qs us goes) as (λ _. end ≡ Some (NotUtf8 there)) [
      | inl on ↦ ends_cut_off next tail there n total end qs us (subst (λ a. Goes next a tail there n total end qs us) none on.1) off
      | inr on ↦ ends_cut_off next tail there (n + 1) total end qs on.1 (subst (λ a. Goes next a tail there (n + 1) total end qs on.1) none on.4) off
    ]

-- what ends here and goes on ends at such a byte
ends_and_goes : (first : Bool) (text tail : List ℕ) (place : Span) (n total : ℕ) (e f : Option LexRefusal) (q : Piece) (qs : List Piece) (us : List Token) → Way first text tail n place e → Goes first text tail place n total f (q ∷ qs) us → (e ≡ f) × ¬ (e ≡ None)
ends_and_goes first text tail place n total e f q qs us ends goes =
    let there = place_behind_all place q.1 in
    let out = end_at_piece first text tail n place e q.0 q.1 goes.cut.0 us (AreTokens there qs) ends goes.cut.1 goes.are (omega (arith, goes.all, goes.few)) in
    let also = goes_cut_off first text tail place n total f q qs us goes out.1 out.0 in
    (out.2 ∙ sym also, λ none. let no : None ≡ Some (NotUtf8 there) = sym none ∙ out.2 in absurd (cc))

token_of_gap : (place : Span) (form : Shape) (t : List ℕ) (token : Token) → form ≡ Gap → IsToken place form t token → ⊥
token_of_gap place form t token gap is = subst (λ f. KindIs f t token.kind) gap is.kind

token_once : (place : Span) (form : Shape) (t : List ℕ) (token other : Token) → IsToken place form t token → IsToken place form t other → token ≡ other
token_once place form t token other is so =
    let span = is.span ∙ sym so.span in
    let text = sym (encodes-chars token.text is.utf8) ∙ ap encode_utf8_all (is.text ∙ sym so.text) ∙ encodes-chars other.text so.utf8 in
    let kind = kind_once form t token.kind other.kind is.kind so.kind in
    λ i. record { span = span i; text = text i; kind = kind i }

goes_once : (ps qs : List Piece) (first : Bool) (text tail : List ℕ) (place : Span) (n total most : ℕ) (e f : Option LexRefusal) (ts us : List Token) → Goes first text tail place n total e ps ts → Goes first text tail place n most f qs us → (e ≡ f) × (e ≡ None → ts ≡ us)
goes_once [] [] first text tail place n total most e f ts us one other =
    (end_once first text tail n place e f (way_here one) (way_here other), λ _. one.are ∙ sym other.are)
goes_once [] (q ∷ qs) first text tail place n total most e f ts us one other =
    let both = ends_and_goes first text tail place n most e f q qs us (way_here one) other in
    (both.0, λ none. absurd (both.1 none))
goes_once (p ∷ ps) [] first text tail place n total most e f ts us one other =
    let both = ends_and_goes first text tail place n total f e p ps ts (way_here other) one in
    (sym both.0, λ none. absurd (both.1 (both.0 ∙ none)))
goes_once (p ∷ ps) (q ∷ qs) first text tail place n total most e f ts us one other =
    let same = longest_once one.cut.1 other.cut.1 in
    let after = one.cut.0 in
    let here : GoesOn first tail place n most f p.0 p.1 after qs us = rw (same.0, same.1, same.2) (goes_on first text tail place n most f q qs us other) in
    elim (goes_on first text tail place n total e p ps ts one) as (λ _. (e ≡ f) × (e ≡ None → ts ≡ us)) [
      | inl on ↦ elim here as (λ _. (e ≡ f) × (e ≡ None → ts ≡ us)) [
        | inl also ↦ goes_once ps qs (first_behind first p.0 p.1) after tail (place_behind_all place p.1) n total most e f ts us on.1 also.1
        | inr also ↦ absurd (token_of_gap place p.0 p.1 also.0 on.0 also.3)
      ]
      | inr on ↦ elim here as (λ _. (e ≡ f) × (e ≡ None → ts ≡ us)) [
        | inl also ↦ absurd (token_of_gap place p.0 p.1 on.0 also.0 on.3)
        | inr also ↦
            let more = goes_once ps qs (first_behind first p.0 p.1) after tail (place_behind_all place p.1) (n + 1) total most e f on.1 also.1 on.4 also.4 in
            let token = token_once place p.0 p.1 on.0 also.0 on.3 also.3 in
            (more.0, λ none. on.2 ∙ (λ i. token i ∷ more.1 none i) ∙ sym also.2)
      ]
    ]

tokens_go : {bytes : List ℕ} {tokens : List Token} (lexes : Lexes bytes tokens) → Goes true (chars bytes) [] start 0 (length tokens) None lexes.pieces tokens
tokens_go lexes = record { rest = []; cut = lexes.cut; are = lexes.are; all = omega arith; few = lexes.few; ends = (refl, refl) }

fault_goes : {bytes : List ℕ} {refusal : LexRefusal} (fault : HasFault bytes refusal) → Goes true (chars fault.front) fault.tail start 0 (length fault.tokens) (Some refusal) fault.pieces fault.tokens
fault_goes fault = record { rest = fault.rest; cut = fault.cut; are = fault.are; all = omega arith; few = fault.few; ends = fault.fault }

-- the same from another readable front
fault_goes_from : {bytes : List ℕ} {refusal : LexRefusal} (fault : HasFault bytes refusal) (front tail : List ℕ) → IsReadable bytes front tail → Goes true (chars front) tail start 0 (length fault.tokens) (Some refusal) fault.pieces fault.tokens
fault_goes_from fault front tail readable =
    let same = readable_once fault.readable readable in
    rw (← same.0, ← same.1) (fault_goes fault)

pub tokens_once : TokensOnce
tokens_once bytes tokens others lexes also =
    (goes_once lexes.pieces also.pieces true (chars bytes) [] start 0 (length tokens) (length others) None None tokens others (tokens_go lexes) (tokens_go also)).1 refl

pub no_fault_beside_tokens : NoFaultBesideTokens
no_fault_beside_tokens bytes tokens refusal lexes fault =
    let same = (goes_once lexes.pieces fault.pieces true (chars bytes) [] start 0 (length tokens) (length fault.tokens) None (Some refusal) tokens fault.tokens (tokens_go lexes) (fault_goes_from fault bytes [] (all_is_readable bytes lexes.utf8))).0 in
    absurd (cc)

pub fault_once : FaultOnce
fault_once bytes refusal other fault also =
    let same = (goes_once fault.pieces also.pieces true (chars fault.front) fault.tail start 0 (length fault.tokens) (length also.tokens) (Some refusal) (Some other) fault.tokens also.tokens (fault_goes fault) (fault_goes_from also fault.front fault.tail fault.readable)).0 in
    cc
