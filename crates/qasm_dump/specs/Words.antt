-- The words of a call: a pass, and a file. This project's own.
use Rattle.std.specs.Prelude.{List, ℕ, [], ◌∷◌, Bool, ◌&&◌, not, codes, Option, Some, None, option_map, if◌then◌else◌}
use Rattle.std.specs.Str.{bytes_eq}
use Rattle.qasm_dump.specs.declared.output.Pass.{Pass}
use Rattle.qasm_dump.specs.declared.output.Pass.TheVariants.{Tokens, Tree}

-- the pass that a word asks for
abbrev pub pass_of : List ℕ → Option Pass
pass_of word = if bytes_eq word (codes "tokens") then Some Tokens else (if bytes_eq word (codes "tree") then Some Tree else None)

-- whether a word names a file: it is neither `-` nor empty
abbrev pub is_file : List ℕ → Bool
is_file word = not (bytes_eq word (codes "-")) && not (bytes_eq word [])

-- a pass, and the name of the file whose source it is given
pub record Call : Type 0 where
  pub pass : Pass
  pub file : List ℕ

-- what the words ask for
abbrev pub call_of : List (List ℕ) → Option Call
call_of [] = None
call_of (word ∷ []) = None
call_of (word ∷ file ∷ []) = if is_file file then option_map (λ pass. record { pass = pass; file = file }) (pass_of word) else None
call_of (word ∷ file ∷ more ∷ rest) = None

-- the line that all other words are answered
abbrev pub usage : List ℕ
usage = codes "usage: tokens F | tree F\n"
