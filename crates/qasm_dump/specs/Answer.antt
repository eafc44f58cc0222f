-- What a call of the program writes and with which status, by its words and its file; the whole answer stands last. This project's own.
use Rattle.std.specs.Prelude.{◌≡◌, ◌⊎◌, ℕ, List, ◌++◌, codes, Option, Some, None}
use Rattle.qs_values.specs.declared.refusal.Refusal.{Refusal}
use Rattle.outside.specs.declared.shelf.Taken.{Taken}
use Rattle.outside.specs.declared.shelf.Taken.TheVariants.{Whole, Longer}
use Rattle.outside.specs.Faults.{Rose}
use Rattle.outside.specs.Shelf.{ShelfState, Takes}
use Rattle.outside.specs.Sink.{SinkState, StopsIn, with_text}
use Rattle.qasm_dump.specs.declared.output.Output.{Output}
use Rattle.qasm_dump.specs.declared.output.Pass.{Pass}
use Rattle.qasm_dump.specs.Output.{Makes, Refuses, output_text}
use Rattle.qasm_dump.specs.Refusals.{refusal_text, too_long}
use Rattle.qasm_dump.specs.Words.{Call, call_of, usage}

-- a status, and the whole text that goes with it
pub record Told : Type 0 where
  pub status : ℕ
  pub text : List ℕ

abbrev pub told : ℕ → List ℕ → Told
told status text = record { status = status; text = text }

-- The text was written whole, with its status; or a fault of the sink came after a front of it, and the status is 5.
abbrev pub Finishes : SinkState → SinkState → Told → ℕ → Type 0
Finishes old new told status =
    ((status ≡ told.status) × (new ≡ with_text old told.text))
    ⊎ ((status ≡ 5) × StopsIn old new told.text)

-- Memory ran out, and nothing was written.
abbrev pub WantsMemory : SinkState → SinkState → ℕ → Type 0
WantsMemory old new status = (status ≡ 7) × (new ≡ old)

-- what a source is answered: the text of what the pass makes of it, or the line of the refusal
abbrev pub AnswersSource : Pass → List ℕ → SinkState → SinkState → ℕ → Type 0
AnswersSource pass bytes old new status =
    ((output : Output) × Makes pass bytes output × Finishes old new (told 0 (output_text output)) status)
    ⊎ ((refusal : Refusal) × Refuses pass bytes refusal × Finishes old new (told 1 (refusal_text refusal)) status)

-- what a file is answered that could be read: as its source, where it isn't too long
abbrev pub AnswersTaken : Pass → List ℕ → Taken → SinkState → SinkState → ℕ → Type 0
AnswersTaken pass name (Whole bytes) old new status = AnswersSource pass bytes old new status
AnswersTaken pass name Longer old new status = Finishes old new (told 3 (refusal_text (too_long name))) status

-- the line of a file that couldn't be read
abbrev pub read_failed : List ℕ → List ℕ
read_failed name = codes "read failed " ++ name ++ codes "\n"

-- The file couldn't be read: the shelf counted a fault, and keeps its name.
pub record ReadFails (name : List ℕ) (shelf shelf' : ShelfState) (old new : SinkState) (status : ℕ) : Type 0 where
  pub rose : Rose shelf.faults shelf'.faults
  pub failed : shelf'.failed ≡ name
  pub told : Finishes old new (told 4 (read_failed name)) status

-- The file was read, where it has at most so many bytes.
pub record Reads (longest : ℕ) (pass : Pass) (name : List ℕ) (shelf : ShelfState) (old new : SinkState) (status : ℕ) : Type 0 where
  pub taken : Taken
  pub takes : Takes shelf.files name longest taken
  pub answers : AnswersTaken pass name taken old new status

-- what a file is answered: it couldn't be read; or the shelf is as it was, and memory ran out or the file was read
abbrev pub AnswersFile : ℕ → Pass → List ℕ → ShelfState → ShelfState → SinkState → SinkState → ℕ → Type 0
AnswersFile longest pass name shelf shelf' old new status =
    ReadFails name shelf shelf' old new status
    ⊎ ((shelf' ≡ shelf) × (WantsMemory old new status ⊎ Reads longest pass name shelf old new status))

-- what a call is answered, and other words, which are told the usage
abbrev pub AnswersCall : ℕ → Option Call → ShelfState → ShelfState → SinkState → SinkState → ℕ → Type 0
AnswersCall longest (Some call) shelf shelf' old new status = AnswersFile longest call.pass call.file shelf shelf' old new status
AnswersCall longest None shelf shelf' old new status = (shelf' ≡ shelf) × Finishes old new (told 2 usage) status

-- the answer of the program, where files have at most so many bytes
abbrev pub Answers : ℕ → List (List ℕ) → ShelfState → ShelfState → SinkState → SinkState → ℕ → Type 0
Answers longest words shelf shelf' old new status = AnswersCall longest (call_of words) shelf shelf' old new status
