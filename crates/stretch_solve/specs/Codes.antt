-- The numbers of refusals. This project's own.
use Rattle.std.specs.Prelude.{ℕ}
use Rattle.stretch_solve.specs.declared.refusal.StretchRefusal.{StretchRefusal}
use Rattle.stretch_solve.specs.declared.refusal.StretchRefusal.TheVariants.{StretchNone, StretchMany, StretchNegative, GroupTooLarge}

-- the number of a refusal
abbrev pub code_of : StretchRefusal → ℕ
code_of StretchNone = 191
code_of StretchMany = 192
code_of StretchNegative = 193
code_of GroupTooLarge = 194
