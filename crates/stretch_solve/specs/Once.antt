-- A group comes to one answer, whatever denominator its fractions have. This project's own.
use Rattle.std.specs.Prelude.{◌≡◌, take, Result, Ok, Err}
use Rattle.qs_values.specs.declared.stretch.Group.{Group}
use Rattle.stretch_solve.specs.declared.solution.Solution.{Solution}
use Rattle.stretch_solve.specs.declared.refusal.StretchRefusal.{StretchRefusal}
use Rattle.stretch_solve.specs.Solutions.{AnswerIs, AreSame}

-- Two answers are the same refusal, or have the same fractions.
abbrev pub Agree : Result Solution StretchRefusal → Result Solution StretchRefusal → Type 0
Agree (Err refusal) other = other ≡ Err refusal
Agree (Ok a) (Err refusal) = ⊥
Agree (Ok a) (Ok b) = AreSame (take a.count a.nums) a.den (take b.count b.nums) b.den

-- a group has no two answers that differ
abbrev pub SolvedOnce : Type 0
SolvedOnce = (group : Group) (r s : Result Solution StretchRefusal) → AnswerIs group r → AnswerIs group s → Agree r s
