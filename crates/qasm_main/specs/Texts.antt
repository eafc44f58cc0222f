-- The lines that the program writes beside reports. This project's own.
use Rattle.std.specs.Prelude.{ℕ, List, [], ◌∷◌, ◌++◌, codes, decimal, None, unwrap_or}
use Rattle.qs_values.specs.declared.refusal.Refusal.{Refusal}
use Rattle.timeline_board.specs.Refused.{name_of, refusal_line}

-- the line that words are answered which are no command
unfoldable pub usage : List ℕ
usage = codes "usage: check F [M] | code F [M] | step F [M [T [O]]] | run F [M [T]] | make N [text]\n"

-- the line of a file that can't be read
abbrev pub read_failed : List ℕ → List ℕ
read_failed name = codes "read failed " ++ name ++ codes "\n"

-- the line of how many picks of a run stepped, and how many waited
abbrev pub counts_line : ℕ → ℕ → List ℕ
counts_line stepped waited = codes "steps " ++ decimal stepped ++ codes " waits " ++ decimal waited ++ codes "\n"

-- how many bytes a file has at most
abbrev pub longest_file_bytes : ℕ
longest_file_bytes = 1048576

-- the code of a file that has more
abbrev pub file_too_long : ℕ
file_too_long = 10

-- the refusal of such a file
abbrev pub too_long : List ℕ → Refusal
too_long name = record { code = file_too_long; span = None; words = name ∷ [] }

-- the line of a refusal, with the name of its code
abbrev pub refusal_text : Refusal → List ℕ
refusal_text refusal = refusal_line (unwrap_or (name_of refusal.code) []) refusal
