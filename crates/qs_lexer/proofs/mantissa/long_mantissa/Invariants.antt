use Rattle.std.proofs.Common.{◌≡◌, ◌+◌, ◌≤◌, length}
use Rattle.std.specs.Str.{IsUtf8, chars}
use Rattle.std.specs.Str.Iter.{chars_rest}
use Rattle.qs_lexer.specs.steps.Mantissas.{IsReadTo}
use Rattle.qs_lexer.proofs.mantissa.long_mantissa.Given as goal

abbrev pub invariant-loop-c : goal.invariant-loop-c
invariant-loop-c l = record {
  same : l.rest ≡ chars_rest l.ahead;
  utf8 : IsUtf8 l.rest;
  read : IsReadTo (chars l.fn.text) (chars l.rest) l.value l.places l.pointed;
  room : l.places + length (chars l.rest) ≤ length l.fn.text;
}

abbrev pub decreases-loop-c : goal.decreases-loop-c
decreases-loop-c l = length (chars l.rest)
