use Rattle.std.proofs.Common.{inr, refl, subst, ◌≢◌}
use Rattle.std.specs.Prelude.{map, string_bytes}
use Rattle.qasm_main.specs.Words.{Usage}
use Rattle.qasm_main.proofs.FaultLemmas.{read-fault}
use Rattle.qasm_main.proofs.top.plain_top.Goals as goal

pub returns-in-Err-clause-answers : goal.returns-in-Err-clause-answers
returns-in-Err-clause-answers g c = inr (record {
  asked = subst (λ command. command ≢ Usage) c.command_of.ensures c.in-Err.ensures.asked;
  shelf_same = c.in-Err.ensures.shelf;
  sink_same = refl;
  status = refl;
  core = refl;
})

pub returns-in-Err-clause-read_fault : goal.returns-in-Err-clause-read_fault
returns-in-Err-clause-read_fault g c =
    read-fault (map string_bytes c.args.words.now) (g.H.Shelf.state c.args.shelf.now) (g.H.Shelf.state c.outcome_of.new.shelf) (g.K.Sink.state c.args.sink.now) (g.K.Sink.state c.args.sink.now)
    (record { status = 7; core = _ }) (returns-in-Err-clause-answers g c)
