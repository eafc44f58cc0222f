-- What the words of a call ask for, as far as it is built. This project's own.
use Rattle.std.specs.Prelude.{List, ℕ, [], ◌∷◌, ◌&&◌, not, codes, if◌then◌else◌}
use Rattle.std.specs.Str.{bytes_eq}
use Rattle.qasm_main.specs.declared.words.Command.{Command as Words}
use Rattle.qasm_main.specs.declared.words.Command.TheVariants.{Step as StepWords, Usage as OtherWords}

-- what a call is to do: to compile a file, run it by picks and report; or to tell how it is used
pub data Command : Type 0 where
  Step : (file : List ℕ) → Command
  Usage : Command

-- what words ask for: `step F`, where F is a name other than `-` and the empty word
abbrev pub command_of : List (List ℕ) → Command
command_of [] = Usage
command_of (word ∷ []) = Usage
command_of (word ∷ file ∷ []) =
    if bytes_eq word (codes "step") && not (bytes_eq file (codes "-")) && not (bytes_eq file []) then Step file else Usage
command_of (word ∷ file ∷ more ∷ rest) = Usage

-- the command that the program's own type shows
abbrev pub shown : Words → Command
shown (StepWords file) = Step file.now
shown OtherWords = Usage

-- the files that a command reads, in this order
abbrev pub files_of : Command → List (List ℕ)
files_of (Step file) = file ∷ []
files_of Usage = []
