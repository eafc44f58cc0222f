use Rattle.std.proofs.Common.{ap, length, sym, ◌∙◌, arith}
use Rattle.std.specs.Str.{chars}
use Rattle.std.specs.Str.Iter.{chars_rest}
use Rattle.std.proofs.lemmas.Str.{chars_past_char, IsUtf8-past_char}
use Rattle.qs_values.specs.declared.span.Span.{Span}
use Rattle.qs_lexer.specs.Cut.{place_behind_all}
use Rattle.qs_lexer.proofs.PlaceLemmas.{line_near, col_near}
use Rattle.qs_lexer.proofs.TextLemmas.{chars_at_end}
use Rattle.qs_lexer.proofs.place.place_behind_all.Goals as goal

pub loop-c-preserved : goal.loop-c-preserved
loop-c-preserved c =
    let so_far = c.loop-c.invariant in
    let more = chars_past_char _ _ _ so_far.utf8 c.in-Some.ensures.steps.0 in
    let one = ap length more in
    let moved = c.place_behind-behind.ensures in
    record {
      next = tt;
      finite = tt;
      utf8 = IsUtf8-past_char _ _ _ so_far.utf8 c.in-Some.ensures.steps.0;
      same = ap (λ s. place_behind_all s (chars (chars_rest c.next.new.self))) moved ∙ sym (ap (place_behind_all c.loop-c.behind) more) ∙ so_far.same;
      lines = omega (arith, one, ap (λ (s : Span). s.line) moved, line_near c.loop-c.behind c.in-Some.c);
      columns = omega (arith, one, ap (λ (s : Span). s.col) moved, col_near c.loop-c.behind c.in-Some.c);
    }

pub place_behind-behind-requires : goal.place_behind-behind-requires
place_behind-behind-requires c =
    let one = ap length (chars_past_char _ _ _ c.loop-c.invariant.utf8 c.in-Some.ensures.steps.0) in
    record { line = omega (arith, one); col = omega (arith, one) }

pub returns : goal.returns
returns c = sym (ap (place_behind_all c.loop-c.behind) (chars_at_end _ c.in-None.ensures.steps.0.0)) ∙ c.loop-c.invariant.same
