-- What the reader by states finds: what is left, put over what was found, is the whole.
use Rattle.std.proofs.Common.{◌≡◌, ℕ, ◌<◌, List, [], ◌∷◌, ◌++◌, Option, Some, None, length, sym, refl, ap, ◌∙◌, arith, append_assoc, subst}
use Rattle.std.specs.List.{slice_get}
use Rattle.std.specs.Str.{IsUtf8, chars}
use lib.Utf8.{encode}
use Rattle.std.specs.Str.Iter.{chars_rest, chars_steps}
use Rattle.std.proofs.lemmas.Str.{IsUtf8-append, IsUtf8-past_char, chars_past_char}
use Rattle.qs_lexer.specs.declared.shape.Shape.{Shape}
use Rattle.qs_lexer.specs.declared.state.State.{State}
use Rattle.qs_lexer.specs.declared.state.State.TheVariants.{Nothing}
use Rattle.qs_lexer.specs.steps.Scan.{Found, IsBehind, found_at, later, longest_from, shape_before, step}
use Rattle.qs_lexer.proofs.TextLemmas.{chars_at_end, front_utf8}

-- nothing is found where no piece begins
pub found_from_nothing : (t : List ℕ) → longest_from Nothing t ≡ None
found_from_nothing [] = refl
found_from_nothing (c ∷ cs) = ap (λ (f : Option Found). later f None) (found_from_nothing cs)

pub nothing_before : (f : Option Found) → later f None ≡ f
nothing_before None = refl
nothing_before (Some f) = refl

later_of_later : (f g h : Option Found) → later (later f g) h ≡ later f (later g h)
later_of_later None g h = refl
later_of_later (Some f) g h = refl

-- the characters ahead, of which the next is read already
abbrev pub ahead_of : Option ℕ → List ℕ → List ℕ
ahead_of None cs = []
ahead_of (Some c) cs = c ∷ cs

pub next_of_ahead : (next : Option ℕ) (cs : List ℕ) → slice_get (ahead_of next cs) 0 ≡ next
next_of_ahead None cs = refl
next_of_ahead (Some c) cs = refl

pub length_of_ahead : (next : Option ℕ) (c : ℕ) (t u : List ℕ) → next ≡ Some c → t ≡ u → length u < length (ahead_of next t)
length_of_ahead next c t u is same = rw is (omega (arith, ap length same))

-- a call of `next`
pub read_next : (s t : _) (next : Option ℕ) → IsUtf8 (chars_rest s) → chars_steps s next t → chars (chars_rest s) ≡ ahead_of next (chars (chars_rest t))
read_next s t None utf8 steps = chars_at_end _ steps.0.0
read_next s t (Some c) utf8 steps = chars_past_char _ _ _ utf8 steps.0

-- one more character
pub read_more : (state after : State) (next : Option ℕ) (c : ℕ) (t u : List ℕ) (shape : Option Shape) (found whole : Option Found) → next ≡ Some c → later (longest_from state (ahead_of next t)) found ≡ whole → after ≡ step state c → t ≡ u → shape ≡ shape_before after (slice_get u 0) → later (longest_from after u) (later (found_at shape u) found) ≡ whole
read_more state after next c t u shape found whole is value stepped same here =
    let before = rw (is, same) at value in
    let there = here ∙ ap (λ s. shape_before s (slice_get u 0)) stepped in
    rw (stepped, there) (sym (later_of_later (longest_from (step state c) u) (found_at (shape_before (step state c) (slice_get u 0)) u) found) ∙ before)

-- no piece goes on
pub read_no_more : (state after : State) (next : Option ℕ) (c : ℕ) (t : List ℕ) (found whole : Option Found) → next ≡ Some c → later (longest_from state (ahead_of next t)) found ≡ whole → after ≡ step state c → after ≡ Nothing → found ≡ whole
read_no_more state after next c t found whole is value stepped ended =
    rw (is, sym stepped ∙ ended, found_from_nothing t) at value

-- what is left is a front's end
pub still_behind : (text : List ℕ) (s t : _) (next : Option ℕ) → IsBehind text (chars_rest s) → chars_steps s next t → IsBehind text (chars_rest t)
still_behind text s t None behind steps = subst (IsBehind text) (ap chars_rest (sym steps.0.1)) behind
still_behind text s t (Some c) behind steps = (
  behind.0 ++ encode c,
  IsUtf8-append _ _ behind.1 (front_utf8 _ _ _ behind.2 steps.0 (IsUtf8-past_char _ _ _ behind.2 steps.0)),
  IsUtf8-past_char _ _ _ behind.2 steps.0,
  behind.3 ∙ ap (λ r. behind.0 ++ r) steps.0 ∙ sym (append_assoc behind.0 (encode c) (chars_rest t)),
)
