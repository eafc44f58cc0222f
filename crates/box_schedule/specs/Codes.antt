-- The numbers of refusals. This project's own.
use Rattle.std.specs.Prelude.{ℕ}
use Rattle.box_schedule.specs.declared.refusal.BoxRefusal.{BoxRefusal}
use Rattle.box_schedule.specs.declared.refusal.BoxRefusal.TheVariants.{TickOut, DelayNegative, Memory}

-- the number of a refusal, 0 for out of memory
abbrev pub code_of : BoxRefusal → ℕ
code_of (TickOut span) = 203
code_of (DelayNegative span) = 204
code_of Memory = 0
