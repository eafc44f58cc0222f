-- A cut with more pieces, and its tokens.
use Rattle.std.proofs.Common.{◌≡◌, ℕ, List, [], ◌∷◌, ◌++◌, Bool, not, refl, sym, ap, ◌∙◌, subst}
use Rattle.std.specs.List.{list_all}
use Rattle.qs_values.specs.declared.span.Span.{Span}
use Rattle.qs_lexer.specs.declared.shape.Shape.{Shape}
use Rattle.qs_lexer.specs.declared.shape.Shape.TheVariants.{Gap}
use Rattle.qs_lexer.specs.declared.token.Token.{Token}
use Rattle.qs_lexer.specs.Forms.{is_in_line}
use Rattle.qs_lexer.specs.Cut.{AreTokens, Gives, IsCut, Piece, first_behind, first_behind_all, place_behind_all}
use Rattle.qs_lexer.specs.Lexed.{text_of}
use Rattle.qs_lexer.specs.steps.Scan.{first_of}
use Rattle.qs_lexer.proofs.PlaceLemmas.{place_behind_append}

pub cut_more : (ps qs : List Piece) (first : Bool) (text middle rest : List ℕ) → IsCut first text ps middle → IsCut (first_behind_all first ps) middle qs rest → IsCut first text (ps ++ qs) rest
cut_more [] qs first text middle rest front more = subst (λ t. IsCut first t qs rest) (sym front) more
cut_more (p ∷ ps) qs first text middle rest front more = (front.0, front.1, cut_more ps qs (first_behind first p.0 p.1) front.0 middle rest front.2 more)

gives_more : (place : Span) (form : Shape) (t : List ℕ) (ts us : List Token) (More Others : List Token → Type 0) → Gives place form t ts More → ((vs : List Token) → More vs → Others (vs ++ us)) → Gives place form t (ts ++ us) Others
gives_more place Gap t ts us More Others gives others = others ts gives
gives_more place form t ts us More Others gives others = (gives.0, gives.1 ++ us, ap (λ (l : List Token). l ++ us) gives.2, gives.3, others gives.1 gives.4)

pub tokens_more : (ps qs : List Piece) (place : Span) (ts us : List Token) → AreTokens place ps ts → AreTokens (place_behind_all place (text_of ps)) qs us → AreTokens place (ps ++ qs) (ts ++ us)
tokens_more [] qs place ts us front more = subst (λ (l : List Token). AreTokens place qs (l ++ us)) (sym front) more
tokens_more (p ∷ ps) qs place ts us front more =
    let there = subst (λ s. AreTokens s qs us) (place_behind_append place p.1 (text_of ps)) more in
    gives_more place p.0 p.1 ts us (AreTokens (place_behind_all place p.1) ps) (AreTokens (place_behind_all place p.1) (ps ++ qs)) front
    (λ vs are. tokens_more ps qs (place_behind_all place p.1) vs us are there)

pub place_more : (ps : List Piece) (q : Piece) (s : Span) → place_behind_all s (text_of (ps ++ q ∷ [])) ≡ place_behind_all (place_behind_all s (text_of ps)) q.1
place_more [] q s = place_behind_append s q.1 []
place_more (p ∷ ps) q s =
    place_behind_append s p.1 (text_of (ps ++ q ∷ [])) ∙ place_more ps q (place_behind_all s p.1)
    ∙ sym (ap (λ r. place_behind_all r q.1) (place_behind_append s p.1 (text_of ps)))

pub first_behind_more : (ps : List Piece) (q : Piece) (first : Bool) → first_behind_all first (ps ++ q ∷ []) ≡ first_behind (first_behind_all first ps) q.0 q.1
first_behind_more [] q first = refl
first_behind_more (p ∷ ps) q first = first_behind_more ps q (first_behind first p.0 p.1)

pub first_of_is : (first : Bool) (form : Shape) (t : List ℕ) → first_of first form (not (list_all is_in_line t)) ≡ first_behind first form t
first_of_is first Gap t = refl
first_of_is first form t = refl
