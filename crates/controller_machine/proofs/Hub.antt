-- A controller alone walks its plan, and the hub is at last in the run's last state.
use Rattle.std.proofs.Common.{ℕ, [], ap, sym, ◌∙◌}
use Rattle.qs_values.specs.declared.tape.Tape.{Tape}
use Rattle.plan_tree.specs.declared.plan.Plan.{Plan}
use Rattle.controller_machine.specs.Alone.{Walker, alone_of, last_in}
use Rattle.controller_machine.specs.Last.{IsLast, ending_as}
use Rattle.controller_machine.specs.Laws.{ControllersWalk}
use Rattle.controller_machine.proofs.Entries.{run-ending, run-store, run-tick}
use Rattle.controller_machine.proofs.Parts.{ticks-after}
use Rattle.controller_machine.proofs.Sizes.{log-room}
use Rattle.controller_machine.proofs.Walks.{alone-acts, alone-last}

last-is : (plan : Plan) (tape : Tape) (k : ℕ) → IsLast plan tape (last_in (alone_of plan tape k)).shown
last-is plan tape k =
    record {
      tick = ap (λ (w : Walker). w.shown.tick) (alone-last plan tape k) ∙ ticks-after plan k [] 0 0 plan.body ∙ sym (run-tick plan tape);
      store = ap (λ (w : Walker). w.shown.store) (alone-last plan tape k) ∙ sym (run-store plan tape);
      ending = ap (λ (w : Walker). w.shown.ending) (alone-last plan tape k) ∙ sym (ap ending_as (run-ending plan tape));
    }

pub controllers-walk : ControllersWalk
controllers-walk plan tape k = record {
  acts = alone-acts plan tape k;
  log = ap (λ (w : Walker). w.shown.log) (alone-last plan tape k);
  room = log-room plan tape k;
  hub = λ is_hub. last-is plan tape k;
}
