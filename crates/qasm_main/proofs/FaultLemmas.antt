-- What the answer of a call says of faults.
use Rattle.std.proofs.Common.{◌≡◌, ◌≢◌, ℕ, ◌<◌, List, [], ◌∷◌, ap, sym, ◌∙◌, refl, subst, arith, inl, inr}
use Rattle.std.specs.Prelude.{IsSome}
use Rattle.outside.specs.declared.shelf.Taken.{Taken}
use Rattle.outside.specs.declared.shelf.Taken.TheVariants.{Whole, Longer}
use Rattle.outside.specs.Faults.{Rose, most_faults}
use Rattle.outside.specs.Shelf.{ShelfState}
use Rattle.outside.specs.Sink.{SinkState}
use Rattle.plan_tree.specs.Run.{Ending, Done}
use Rattle.qs_machine.specs.declared.machine.Machine.{Machine}
use Rattle.timeline_board.specs.Refused.{name_of, names}
use Rattle.qasm_main.specs.declared.top.Plain.{Plain}
use Rattle.qasm_main.specs.Answer.{Answers, Finishes, Replies, Reply, StepsSource, StepsTaken, status_by}
use Rattle.qasm_main.specs.Faults.{IsReadFault, IsWriteFault}
use Rattle.qasm_main.specs.Texts.{file_too_long}
use Rattle.qasm_main.specs.Words.{Command, Step, Usage, command_of, files_of}

-- the code of a file that is too long has a name
pub long-named : IsSome (name_of file_too_long)
unfolding names
long-named = refl

rose-below : (before now : ℕ) → Rose before now → before < most_faults → before < now
rose-below before now rose below = omega (arith, rose.more, below)

-- a status of a call in which no read and no write failed
abbrev IsOther : ℕ → Type 0
IsOther status = (status ≢ 4) × (status ≢ 5)

ending-other : (ending : Ending) → IsOther (status_by ending)
ending-other Done = ((λ e. absurd (omega (arith, e))), (λ e. absurd (omega (arith, e))))

low-other : (n : ℕ) (reply : Reply) → n < 4 → reply.status ≡ n → IsOther reply.status
low-other n reply low is = ((λ e. absurd (omega (arith, low, is, e))), (λ e. absurd (omega (arith, low, is, e))))

source-other : (machine : Machine) (source : List ℕ) (reply : Reply) → StepsSource machine source reply → IsOther reply.status
source-other machine source reply (inl (plan, compiled, steps)) = subst IsOther (sym steps.status) (ending-other _)
source-other machine source reply (inr (refusal, refused, is)) = low-other 1 reply (omega arith) (ap (λ r. r.status) is)

taken-other : (machine : Machine) (name : List ℕ) (taken : Taken) (reply : Reply) → StepsTaken machine name taken reply → IsOther reply.status
taken-other machine name (Whole source) reply steps = source-other machine source reply steps
taken-other machine name Longer reply is = low-other 3 reply (omega arith) (ap (λ r. r.status) is)

-- no reply has the status of a failed write
no-five : (command : Command) (shelf shelf' : ShelfState) (reply : Reply) → Replies command shelf shelf' reply → reply.status ≢ 5
no-five Usage shelf shelf' reply replies = (low-other 2 reply (omega arith) (ap (λ r. r.status) replies.1)).1
no-five (Step name) shelf shelf' reply (inl fails) = λ five. absurd (omega (arith, five, ap (λ (r : Reply). r.status) fails.told))
no-five (Step name) shelf shelf' reply (inr (same, file)) = (taken-other _ name file.taken reply file.steps).1

told-write : (old new : SinkState) (reply : Reply) (status : ℕ) → Finishes old new reply status → reply.status ≢ 5 → IsWriteFault old new status
told-write old new reply status (inl whole) other = λ below. ((λ five. absurd (other (sym whole.0 ∙ five))), (λ rose. absurd (omega (arith, rose, ap (λ s. s.faults) whole.1))))
told-write old new reply status (inr stopped) other = λ below. ((λ five. rose-below old.faults new.faults stopped.1.rose below), (λ rose. stopped.0))

told-other : (old new : SinkState) (reply : Reply) (status : ℕ) → Finishes old new reply status → reply.status ≢ 4 → status ≢ 4
told-other old new reply status (inl whole) other = λ four. other (sym whole.0 ∙ four)
told-other old new reply status (inr stopped) other = λ four. absurd (omega (arith, four, stopped.0))

told-as : (old new : SinkState) (reply : Reply) (status : ℕ) → Finishes old new reply status → status ≢ 5 → status ≡ reply.status
told-as old new reply status (inl whole) other = whole.0
told-as old new reply status (inr stopped) other = absurd (other stopped.0)

-- The sink's faults.
pub write-fault : (words : List (List ℕ)) (shelf shelf' : ShelfState) (old new : SinkState) (plain : Plain) → Answers words shelf shelf' old new plain → IsWriteFault old new plain.status
write-fault words shelf shelf' old new plain (inl tells) = told-write old new tells.reply plain.status tells.finishes (no-five (command_of words) shelf shelf' tells.reply tells.replies)
write-fault words shelf shelf' old new plain (inr memory) = λ below. (
  (λ five. absurd (omega (arith, five, memory.status))),
  (λ rose. absurd (omega (arith, rose, ap (λ s. s.faults) memory.sink_same))),
)

-- a shelf without a fault
no-read : (files : List (List ℕ)) (shelf shelf' : ShelfState) (status : ℕ) → shelf' ≡ shelf → status ≢ 4 → IsReadFault files shelf shelf' status
no-read files shelf shelf' status same other = record {
  exact = λ below write. ((λ four. absurd (other four)), (λ rose. absurd (omega (arith, rose, ap (λ s. s.faults) same))));
  named = λ below rose. absurd (omega (arith, rose, ap (λ s. s.faults) same));
  same = ap (λ s. s.files) same;
}

reply-read : (command : Command) (shelf shelf' : ShelfState) (old new : SinkState) (reply : Reply) (status : ℕ) → Replies command shelf shelf' reply
    → Finishes old new reply status → IsReadFault (files_of command) shelf shelf' status
reply-read Usage shelf shelf' old new reply status replies finishes =
    no-read [] shelf shelf' status replies.0 (told-other old new reply status finishes (low-other 2 reply (omega arith) (ap (λ r. r.status) replies.1)).0)
reply-read (Step name) shelf shelf' old new reply status (inl fails) finishes = record {
  exact = λ below write. ((λ four. rose-below shelf.faults shelf'.faults fails.rose below), (λ rose. told-as old new reply status finishes write ∙ ap (λ (r : Reply). r.status) fails.told));
  named = λ below rose. (0, omega arith, sym fails.failed);
  same = fails.files_same;
}
reply-read (Step name) shelf shelf' old new reply status (inr (same, file)) finishes =
    no-read (name ∷ []) shelf shelf' status same (told-other old new reply status finishes (taken-other _ name file.taken reply file.steps).0)

-- The shelf's faults.
pub read-fault : (words : List (List ℕ)) (shelf shelf' : ShelfState) (old new : SinkState) (plain : Plain) → Answers words shelf shelf' old new plain
    → IsReadFault (files_of (command_of words)) shelf shelf' plain.status
read-fault words shelf shelf' old new plain (inl tells) = reply-read (command_of words) shelf shelf' old new tells.reply plain.status tells.replies tells.finishes
read-fault words shelf shelf' old new plain (inr memory) = no-read (files_of (command_of words)) shelf shelf' plain.status memory.shelf_same (λ four. absurd (omega (arith, four, memory.status)))
