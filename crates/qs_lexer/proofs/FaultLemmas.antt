-- A source's first fault, behind a front that is cut, and its tokens where there is none.
use Rattle.std.proofs.Common.{◌≡◌, ◌⊎◌, inl, inr, ℕ, pos, ◌<◌, ◌^◌, List, [], ◌++◌, Bool, true, false, not, ◌==◌, Ok, Err, length, take, drop, refl, sym, ap, ◌∙◌, subst, arith, append_assoc, append-nil, length-append, length-take-le, take-append-drop}
use lib.Utf8.{encode}
use Rattle.std.proofs.Math.Seq.{take-append_seam}
use Rattle.std.proofs.lemmas.Int.{ints}
use Rattle.std.proofs.lemmas.Str.{IsUtf8-append, IsUtf8-encode, chars-nil, len_utf8_bounds, length-encode}
use Rattle.std.specs.Bool.{MatchBool}
use Rattle.std.specs.Str.{IsUtf8, IsValidUpTo, chars}
use Rattle.qs_values.specs.declared.span.Span.{Span}
use Rattle.qs_lexer.specs.declared.refusal.LexRefusal.{LexRefusal}
use Rattle.qs_lexer.specs.declared.refusal.LexRefusal.TheVariants.{NotUtf8, BadChar, Memory}
use Rattle.qs_lexer.specs.declared.shape.Shape.{Shape}
use Rattle.qs_lexer.specs.declared.shape.Shape.TheVariants.{Gap, OpenComment, OpenText, Word, Physical, Whole, Decimal, Time, Text, Sign}
use Rattle.qs_lexer.specs.declared.token.Token.{Token}
use Rattle.qs_lexer.specs.declared.token.TokenKind.{TokenKind}
use Rattle.qs_lexer.specs.Values.{IsTooWide, KindIs, scaled}
use Rattle.qs_values.proofs.OneQuotient.{answer_excludes_wide}
use Rattle.qs_lexer.specs.Cut.{place_behind_all, start}
use Rattle.qs_lexer.specs.Lexed.{HasFault, IsClear, IsFaultAt, IsPieceFault, IsReadable, LexIs, Stands, text_of}
use Rattle.qs_lexer.specs.steps.Scan.{FailsNext}
use Rattle.qs_lexer.proofs.FrontLemmas.{IsFront}
use Rattle.qs_lexer.proofs.TextLemmas.{empty_from_chars, empty_if, some_if}

-- a fault, as the answer of `lex`
is_answer : (bytes : List ℕ) (refusal : LexRefusal) → HasFault bytes refusal → LexIs bytes (Err refusal)
is_answer bytes Memory fault = tt
is_answer bytes refusal fault = fault

module _ {bytes text tail rest : List ℕ} {place : Span} {first : Bool} {tokens : List Token} (readable : IsReadable bytes text tail) (front : IsFront text rest place first tokens) where
  pub fails : (refusal : LexRefusal) → IsFaultAt first (chars rest) tail (length tokens) place refusal → LexIs bytes (Err refusal)
  fails refusal fault = is_answer bytes refusal (record {
    front = text;
    tail = tail;
    readable = readable;
    pieces = front.pieces;
    rest = chars rest;
    tokens = tokens;
    cut = front.cut;
    are = front.are;
    few = front.few;
    fault = subst (λ f. IsFaultAt f (chars rest) tail (length tokens) (place_behind_all start (text_of front.pieces)) refusal) front.begins
        (subst (λ s. IsFaultAt first (chars rest) tail (length tokens) s refusal) front.at fault);
  })

  -- a fault of what begins the rest
  pub next_fails : (refusal : LexRefusal) → FailsNext first place rest tail (length tokens) refusal → LexIs bytes (Err refusal)
  next_fails refusal (inl memory) = subst (λ r. LexIs bytes (Err r)) (sym memory) tt
  next_fails refusal (inr fault) = fails refusal fault

  -- all is cut
  pub all_cut : rest ≡ [] → tail ≡ [] → LexIs bytes (Ok tokens)
  all_cut none no_tail =
      let whole : bytes ≡ text = readable.whole ∙ ap (λ t. text ++ t) no_tail ∙ append-nil text in
      let ended : chars rest ≡ [] = ap chars none ∙ chars-nil in
      record {
        utf8 = subst IsUtf8 (sym whole) readable.utf8;
        pieces = front.pieces;
        cut = rw (whole, ← ended) front.cut;
        are = front.are;
        few = front.few;
      }

-- a fault of a piece that stands
pub piece_fails : (first : Bool) (text tail : List ℕ) (count : ℕ) (place : Span) (refusal : LexRefusal) (form : Shape) (t : List ℕ) → Stands first (chars text) tail form t → (refusal ≡ Memory) ⊎ IsPieceFault count place form t refusal → FailsNext first place text tail count refusal
piece_fails first text tail count place refusal form t stands (inl memory) = inl memory
piece_fails first text tail count place (NotUtf8 span) form t stands (inr fault) = absurd fault
piece_fails first text tail count place (BadChar span) form t stands (inr fault) = absurd fault
piece_fails first text tail count place Memory form t stands (inr fault) = absurd fault
piece_fails first text tail count place refusal form t stands (inr fault) = inr (form, t, stands, fault)

-- what has a kind isn't past its limit
pub kind_excludes_wide : (form : Shape) (t : List ℕ) (kind : TokenKind) → KindIs form t kind → ¬ (IsTooWide form t)
kind_excludes_wide Gap t kind is wide = wide
kind_excludes_wide OpenComment t kind is wide = wide
kind_excludes_wide OpenText t kind is wide = wide
kind_excludes_wide Word t kind is wide = wide
kind_excludes_wide Physical t kind is wide = omega (arith, is.0, wide)
kind_excludes_wide Whole t kind is wide = omega (arith, is.0, wide)
kind_excludes_wide Decimal t kind is wide = answer_excludes_wide (pos (scaled t)) (pos (10 ^ 17)) is.0 (λ e. omega (arith, ints, e)) is.1 wide
kind_excludes_wide (Time unit) t kind is wide = answer_excludes_wide (pos (scaled t)) (pos (10 ^ 17)) is.0 (λ e. omega (arith, ints, e)) is.1 wide
kind_excludes_wide Text t kind is wide = wide
kind_excludes_wide Sign t kind is wide = wide

-- a front that is UTF-8 and is the longest
pub valid_is_readable : (bytes : List ℕ) (n : ℕ) → IsValidUpTo bytes n → IsReadable bytes (take n bytes) (drop n bytes)
valid_is_readable bytes n valid = record {
  whole = sym (take-append-drop n bytes);
  utf8 = valid.front;
  ends = inr (λ c rest scalar begins.
      let more : List ℕ = take n bytes ++ encode c in
      let whole : bytes ≡ more ++ rest = sym (take-append-drop n bytes) ∙ ap (λ t. take n bytes ++ t) begins ∙ sym (append_assoc (take n bytes) (encode c) rest) in
      let same : take (length more) bytes ≡ more = ap (take (length more)) whole ∙ take-append_seam more rest in
      let longer : n < length more = omega (arith, length-append (take n bytes) (encode c), length-take-le n bytes (omega (arith, valid.short)), length-encode c, (len_utf8_bounds c).0) in
      valid.longest (length more) longer (subst IsUtf8 (sym same) (IsUtf8-append (take n bytes) (encode c) valid.front (IsUtf8-encode c scalar))));
}

pub all_is_readable : (bytes : List ℕ) → IsUtf8 bytes → IsReadable bytes bytes []
all_is_readable bytes utf8 = record { whole = sym (append-nil bytes); utf8 = utf8; ends = inl refl }

-- whether a piece runs up to a byte that belongs to no character
abbrev RunsOut : Bool → List ℕ → List ℕ → Type 0
RunsOut out after tail = MatchBool out ((chars after ≡ []) × ¬ (tail ≡ [])) (IsClear (chars after) tail)

pub runs_out_by_tail : (after tail : List ℕ) (is_whole : Bool) → true ≡ (length after == 0) → is_whole ≡ (length tail == 0) → RunsOut (not is_whole) after tail
runs_out_by_tail after tail true ended is = inr (empty_if tail is)
runs_out_by_tail after tail false ended is = (ap chars (empty_if after ended) ∙ chars-nil, some_if tail is)

pub runs_not_out : (after tail : List ℕ) → IsUtf8 after → false ≡ (length after == 0) → IsClear (chars after) tail
runs_not_out after tail utf8 goes_on = inl (λ none. some_if after goes_on (empty_from_chars after utf8 none))
