use Rattle.std.proofs.Common.{◌≡◌, ◌+◌, ◌≤◌, length}
use Rattle.std.specs.Str.{IsUtf8, chars}
use Rattle.std.specs.Str.Iter.{chars_rest}
use Rattle.qs_lexer.specs.Cut.{place_behind_all}
use Rattle.qs_lexer.proofs.place.place_behind_all.Given as goal

abbrev pub invariant-loop-c : goal.invariant-loop-c
invariant-loop-c l = record {
  next : (goal.iterator-loop-c).can_next l.c-iterator;
  finite : (goal.iterator-loop-c).is_finite l.c-iterator;
  utf8 : IsUtf8 (chars_rest l.c-iterator);
  same : place_behind_all l.behind (chars (chars_rest l.c-iterator)) ≡ place_behind_all l.fn.place (chars l.text);
  lines : l.behind.line + length (chars (chars_rest l.c-iterator)) ≤ l.fn.place.line + length (chars l.text);
  columns : l.behind.col + length (chars (chars_rest l.c-iterator)) ≤ l.fn.place.col + length (chars l.text);
}
