use Rattle.std.proofs.Common.{◌≡◌, IfSome, option_map, length}
use Rattle.std.specs.Str.{chars}
use Rattle.std.specs.Str.Iter.{chars_rest}
use Rattle.qs_lexer.specs.declared.state.State.TheVariants.{Start}
use Rattle.qs_lexer.specs.steps.Scan.{IsBehind, longest_from, later}
use Rattle.qs_lexer.proofs.ReaderLemmas.{ahead_of}
use Rattle.qs_lexer.proofs.scan.longest.Given as goal

abbrev pub invariant-loop-next : goal.invariant-loop-next
invariant-loop-next l = record {
  value : later (longest_from l.state (ahead_of l.next (chars (chars_rest l.ahead)))) (option_map (λ f. (f.0, chars f.1.now)) l.found) ≡ longest_from (Start l.first) (chars l.text);
  behind : IfSome l.found (λ f. IsBehind l.text f.1.now);
  ahead : IsBehind l.text (chars_rest l.ahead);
}

abbrev pub decreases-loop-next : goal.decreases-loop-next
decreases-loop-next l = length (ahead_of l.next (chars (chars_rest l.ahead)))
