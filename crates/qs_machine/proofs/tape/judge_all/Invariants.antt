use Rattle.std.proofs.Common.{◌≡◌, map}
use Rattle.qs_machine.specs.Steps.{judged}
use Rattle.qs_machine.specs.Tapes.{judge}
use Rattle.qs_machine.proofs.EntryLemmas.{seen}
use Rattle.qs_machine.proofs.tape.judge_all.Given as goal

abbrev pub invariant-loop-key : goal.invariant-loop-key
invariant-loop-key l = judged (judge l.keys) (map seen l.initial.key-iterator) ≡ judged (judge l.keys) (map seen l.key-iterator)
