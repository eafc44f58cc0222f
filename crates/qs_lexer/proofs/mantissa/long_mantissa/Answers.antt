use Rattle.std.proofs.Common.{◌≡◌, ◌∷◌, length, ap, sym, ◌∙◌, arith, subst}
use Rattle.std.specs.Str.{IsUtf8, chars}
use Rattle.std.specs.Str.Iter.{chars_rest}
use Rattle.std.proofs.lemmas.Str.{chars_past_char}
use Rattle.qs_lexer.specs.Values.{behind_mantissa, is_mantissa, mantissa}
use Rattle.qs_lexer.specs.steps.Mantissas.{IsReadTo}
use Rattle.qs_lexer.proofs.FrontLemmas.{length-chars}
use Rattle.qs_lexer.proofs.TextLemmas.{chars_at_end}
use Rattle.qs_lexer.proofs.MantissaReads.{behind_ends, mantissa_ends, places_near, read_begins, read_one_more, read_ends}
use Rattle.qs_lexer.proofs.mantissa.long_mantissa.Goals as goal

pub loop-c-init : goal.loop-c-init
loop-c-init c = record {
  same = sym c.chars-ahead.ensures.rest;
  utf8 = c.utf8.text;
  read = read_begins (chars c.args.text.now);
  room = omega (arith, length-chars c.args.text.now c.utf8.text);
}

pub loop-c-smaller : goal.loop-c-smaller
loop-c-smaller c =
    let at = c.loop-c in
    let utf8 = subst IsUtf8 at.invariant.same at.invariant.utf8 in
    let more = ap chars at.invariant.same ∙ chars_past_char _ _ _ utf8 c.in-Some.ensures.steps.0 ∙ ap (λ t. c.in-Some.c ∷ chars t) (sym c.as_str-rest.ensures) in
    omega (arith, ap length more)

pub loop-c-preserved : goal.loop-c-preserved
loop-c-preserved c =
    let at = c.loop-c in
    let utf8 = subst IsUtf8 at.invariant.same at.invariant.utf8 in
    let more = ap chars at.invariant.same ∙ chars_past_char _ _ _ utf8 c.in-Some.ensures.steps.0 ∙ ap (λ t. c.in-Some.c ∷ chars t) (sym c.as_str-rest.ensures) in
    let inside : is_mantissa c.in-Some.c ≡ _ = sym c.is_mantissa.ensures ∙ c.if-not-is_mantissa.false in
    let all = chars c.args.text.now in
    let read = subst (λ t. IsReadTo all t at.value at.places at.pointed) more at.invariant.read in
    record {
      same = c.as_str-rest.ensures;
      utf8 = c.as_str-rest.utf8;
      read = rw (c.with_digit-value.ensures, c.places_with-places.ensures) (read_one_more all at.value at.places c.in-Some.c at.pointed (chars c.as_str-rest.result.now) inside read);
      room = omega (arith, ap length more, at.invariant.room, c.places_with-places.ensures, places_near at.pointed at.places c.in-Some.c);
    }

pub returns-then-not-is_mantissa : goal.returns-then-not-is_mantissa
returns-then-not-is_mantissa c =
    let at = c.loop-c in
    let utf8 = subst IsUtf8 at.invariant.same at.invariant.utf8 in
    let cs = chars (chars_rest c.next.new.self) in
    let more : chars at.rest.now ≡ c.in-Some.c ∷ cs = ap chars at.invariant.same ∙ chars_past_char _ _ _ utf8 c.in-Some.ensures.steps.0 in
    let outside : is_mantissa c.in-Some.c ≡ _ = sym c.is_mantissa.ensures ∙ c.if-not-is_mantissa.true in
    let ends = read_ends (chars c.args.text.now) (chars at.rest.now) at.value at.places at.pointed (ap mantissa more ∙ mantissa_ends c.in-Some.c cs outside) (ap behind_mantissa more ∙ behind_ends c.in-Some.c cs outside ∙ sym more) at.invariant.read in
    record { value = ends.0; places = ends.1; behind = ends.2 }

pub returns : goal.returns
returns c =
    let at = c.loop-c in
    let none = ap chars at.invariant.same ∙ chars_at_end _ c.in_default.ensures.steps.0.0 in
    let ends = read_ends (chars c.args.text.now) (chars at.rest.now) at.value at.places at.pointed (ap mantissa none) (ap behind_mantissa none ∙ sym none) at.invariant.read in
    record { value = ends.0; places = ends.1; behind = ends.2 }
