-- What a call of the program answers and writes, by its words and files; the whole answer stands last. This project's own.
use Rattle.std.specs.Prelude.{◌≡◌, ◌≢◌, ◌⊎◌, ℕ, List, [], ◌++◌, Option, Some, None}
use Rattle.qs_values.specs.declared.refusal.Refusal.{Refusal}
use Rattle.outside.specs.declared.shelf.Taken.{Taken}
use Rattle.outside.specs.declared.shelf.Taken.TheVariants.{Whole, Longer}
use Rattle.outside.specs.Faults.{Rose}
use Rattle.outside.specs.Shelf.{File, ShelfState, Takes}
use Rattle.outside.specs.Sink.{SinkState, StopsIn, with_text}
use Rattle.plan_tree.specs.declared.plan.Plan.{Plan}
use Rattle.plan_tree.specs.Run.{Ending, Done, run_of}
use Rattle.qs_machine.specs.declared.machine.Machine.{Machine}
use Rattle.qs_machine.specs.BuiltIn.{built_in}
use Rattle.controller_core.specs.Core.{CoreState, Runs, start_core}
use Rattle.controller_core.specs.Reached.{IsOver}
use Rattle.timeline_board.specs.Report.{report_of}
use Rattle.qasm_main.specs.declared.top.Plain.{Plain}
use Rattle.qasm_main.specs.front.Compile.{IsCompiled, IsRefused}
use Rattle.qasm_main.specs.Ran.{no_tape}
use Rattle.qasm_main.specs.Texts.{counts_line, longest_file_bytes, read_failed, refusal_text, too_long, usage}
use Rattle.qasm_main.specs.Words.{Command, Step, Usage, command_of}

-- what a call comes to: its status, the whole text that goes with it, and the core that it ran, where it ran one
pub record Reply : Type 0 where
  pub status : ℕ
  pub text : List ℕ
  pub core : Option CoreState

-- a reply of a call that ran nothing
abbrev pub without_core : ℕ → List ℕ → Reply
without_core status text = record { status = status; text = text; core = None }

-- the status of a run, by its ending
abbrev pub status_by : Ending → ℕ
status_by Done = 0

-- A plan is run by sweeps of a core, until each controller has made all of its planned acts. The reply is the report of the undivided run, then the counts of the core's picks; the core is handed back.
pub record StepsPlan (machine : Machine) (plan : Plan) (reply : Reply) : Type 0 where
  pub core : CoreState
  pub stepped : ℕ
  pub waited : ℕ
  pub runs : Runs [] (start_core plan no_tape machine.mail) core stepped waited
  pub over : IsOver plan no_tape machine.mail core
  pub status : reply.status ≡ status_by (run_of plan no_tape).ending
  pub text : reply.text ≡ report_of plan machine (run_of plan no_tape) ++ counts_line stepped waited
  pub handed : reply.core ≡ Some core

-- A source is compiled and its plan is run; or its first refusal is told.
abbrev pub StepsSource : Machine → List ℕ → Reply → Type 0
StepsSource machine source reply =
    ((plan : Plan) × IsCompiled source machine plan × StepsPlan machine plan reply)
    ⊎ ((refusal : Refusal) × IsRefused source machine refusal × (reply ≡ without_core 1 (refusal_text refusal)))

-- A file that was taken is stepped as a source, unless it is too long.
abbrev pub StepsTaken : Machine → List ℕ → Taken → Reply → Type 0
StepsTaken machine name (Whole source) reply = StepsSource machine source reply
StepsTaken machine name Longer reply = reply ≡ without_core 3 (refusal_text (too_long name))

-- The shelf has a file that is stepped.
pub record StepsFile (machine : Machine) (name : List ℕ) (files : Option (List File)) (reply : Reply) : Type 0 where
  pub taken : Taken
  pub takes : Takes files name longest_file_bytes taken
  pub steps : StepsTaken machine name taken reply

-- A file can't be read: the shelf counts a fault, keeps the name, and has its files as they were.
pub record FailsToRead (name : List ℕ) (shelf shelf' : ShelfState) (reply : Reply) : Type 0 where
  pub rose : Rose shelf.faults shelf'.faults
  pub failed : shelf'.failed ≡ name
  pub files_same : shelf'.files ≡ shelf.files
  pub told : reply ≡ without_core 4 (read_failed name)

-- what a command comes to
abbrev pub Replies : Command → ShelfState → ShelfState → Reply → Type 0
Replies (Step name) shelf shelf' reply =
    FailsToRead name shelf shelf' reply ⊎ ((shelf' ≡ shelf) × StepsFile built_in name shelf.files reply)
Replies Usage shelf shelf' reply = (shelf' ≡ shelf) × (reply ≡ without_core 2 usage)

-- A text is put whole, with its status; or a fault of the sink comes in it, and 5 stands in place of the status.
abbrev pub Finishes : SinkState → SinkState → Reply → ℕ → Type 0
Finishes old new reply status =
    ((status ≡ reply.status) × (new ≡ with_text old reply.text))
    ⊎ ((status ≡ 5) × StopsIn old new reply.text)

-- A command comes to a reply, which is told; the core is handed back.
pub record Tells (command : Command) (shelf shelf' : ShelfState) (old new : SinkState) (plain : Plain) : Type 0 where
  pub reply : Reply
  pub replies : Replies command shelf shelf' reply
  pub finishes : Finishes old new reply plain.status
  pub core : plain.core ≡ reply.core

-- A command is out of memory: nothing is written, and the files are as they were.
pub record IsOutOfMemory (command : Command) (shelf shelf' : ShelfState) (old new : SinkState) (plain : Plain) : Type 0 where
  pub asked : command ≢ Usage
  pub shelf_same : shelf' ≡ shelf
  pub sink_same : new ≡ old
  pub status : plain.status ≡ 7
  pub core : plain.core ≡ None

-- the answer of the program
abbrev pub Answers : List (List ℕ) → ShelfState → ShelfState → SinkState → SinkState → Plain → Type 0
Answers words shelf shelf' old new plain =
    Tells (command_of words) shelf shelf' old new plain ⊎ IsOutOfMemory (command_of words) shelf shelf' old new plain
