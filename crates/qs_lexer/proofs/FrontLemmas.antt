-- The front of a source that is cut already.
use Rattle.std.proofs.Common.{◌≡◌, ℕ, ◌+◌, ◌≤◌, List, [], ◌∷◌, ◌++◌, Bool, true, nat_lt, length, refl, sym, ap, ◌∙◌, subst, arith, length-append}
use Rattle.std.specs.Str.{IsUtf8, chars}
use Rattle.std.proofs.lemmas.Str.{encodes-chars, length-le-encodes}
use Rattle.qs_values.specs.declared.span.Span.{Span}
use Rattle.qs_lexer.specs.declared.shape.Shape.{Shape}
use Rattle.qs_lexer.specs.declared.token.Token.{Token}
use Rattle.qs_lexer.specs.Cut.{AreTokens, IsCut, IsLongest, Piece, first_behind, first_behind_all, place_behind_all, start}
use Rattle.qs_lexer.specs.Lexed.{longest_source, most_tokens, text_of}
use Rattle.qs_lexer.specs.steps.Scan.{Adds, Begins, first_of}
use Rattle.qs_lexer.proofs.CutLemmas.{cut_more, first_behind_more, first_of_is, place_more, tokens_more}
use Rattle.qs_lexer.proofs.PlaceLemmas.{col_near_all, line_grows, line_near_all}

-- The front of a text up to `rest` is cut into pieces with these tokens; `place` is where `rest` begins.
pub record IsFront (text rest : List ℕ) (place : Span) (first : Bool) (tokens : List Token) : Type 0 where
  pub pieces : List Piece
  pub cut : IsCut true (chars text) pieces (chars rest)
  pub are : AreTokens start pieces tokens
  pub few : length tokens ≤ most_tokens
  pub at : place ≡ place_behind_all start (text_of pieces)
  pub begins : first ≡ first_behind_all true pieces
  pub lines : place.line + length (chars rest) ≤ longest_source + 1
  pub columns : place.col + length (chars rest) ≤ longest_source + 1
  pub short : length (chars rest) ≤ longest_source
  pub utf8 : IsUtf8 rest

-- a text has at most as many characters as bytes
pub length-chars : (bs : List ℕ) → IsUtf8 bs → length (chars bs) ≤ length bs
length-chars bs utf8 = omega (arith, length-le-encodes (chars bs), ap length (encodes-chars bs utf8))

-- before the first piece
pub no_front : (text : List ℕ) → IsUtf8 text → length text ≤ longest_source → IsFront text text start true []
no_front text utf8 short = record {
  pieces = [];
  cut = refl;
  are = refl;
  few = omega arith;
  at = refl;
  begins = refl;
  lines = omega (arith, length-chars text utf8);
  columns = omega (arith, length-chars text utf8);
  short = omega (arith, length-chars text utf8);
  utf8 = utf8;
}

-- the characters of a piece and of what stands behind it
pub length_of_rest : {first : Bool} {rest : List ℕ} {form : Shape} {piece after : List ℕ} → Begins first rest form piece after → length (chars rest) ≡ length (chars piece) + length (chars after)
length_of_rest {piece} {after} piece_is = ap length piece_is.longest.whole ∙ length-append (chars piece) (chars after)

-- one more piece
pub front_more : (text rest : List ℕ) (place end : Span) (first : Bool) (tokens more : List Token) (form : Shape) (piece after : List ℕ) → IsFront text rest place first tokens → Begins first rest form piece after → end ≡ place_behind_all place (chars piece) → Adds place form (chars piece) tokens more → IsFront text after end (first_of first form (nat_lt place.line end.line)) more
front_more text rest place end first tokens more form piece after front begins ends adds =
    let p : Piece = (form, chars piece) in
    let longest = subst (λ f. IsLongest f (chars rest) form (chars piece) (chars after)) front.begins begins.longest in
    let here = subst (λ s. AreTokens s (p ∷ []) adds.tokens) front.at adds.are in
    let grows = ap (λ (s : Span). nat_lt place.line s.line) ends ∙ line_grows place (chars piece) in
    let total = length_of_rest begins in
    record {
      pieces = front.pieces ++ p ∷ [];
      cut = cut_more front.pieces (p ∷ []) true (chars text) (chars rest) (chars after) front.cut (chars after, longest, refl);
      are = subst (AreTokens start (front.pieces ++ p ∷ [])) (sym adds.added) (tokens_more front.pieces (p ∷ []) start tokens adds.tokens front.are here);
      few = adds.few;
      at = ends ∙ ap (λ s. place_behind_all s (chars piece)) front.at ∙ sym (place_more front.pieces p start);
      begins = ap (first_of first form) grows ∙ first_of_is first form (chars piece) ∙ ap (λ f. first_behind f form (chars piece)) front.begins ∙ sym (first_behind_more front.pieces p true);
      lines = omega (arith, total, front.lines, ap (λ (s : Span). s.line) ends, line_near_all place (chars piece));
      columns = omega (arith, total, front.columns, ap (λ (s : Span). s.col) ends, col_near_all place (chars piece));
      short = omega (arith, total, front.short);
      utf8 = begins.after_utf8;
    }
