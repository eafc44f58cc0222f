-- What holds of each statement that is built. This project's own.
use Rattle.std.specs.Prelude.{ℕ, ◌<◌, ◌≤◌, ◌≢◌, List, All, length}
use Rattle.qasm_main.specs.declared.front.statement.Statement.{Statement}
use Rattle.qasm_main.specs.declared.front.statement.Statement.TheVariants.{X, Cx, Delay, Barrier}
use Rattle.qasm_main.specs.declared.front.statement.LocatedStatement.{LocatedStatement}

-- the greatest number of ticks of a delay
abbrev pub longest_delay_ticks : ℕ
longest_delay_ticks = 4294967296

-- its qubits are the three, `cx` has two different ones, a delay is no longer than it may be, and a barrier has a qubit
abbrev pub IsWellFormed : Statement → Type 0
IsWellFormed (X q) = q < 3
IsWellFormed (Cx a b) = (a < 3) × (b < 3) × (a ≢ b)
IsWellFormed (Delay ticks q) = (ticks ≤ longest_delay_ticks) × (q < 3)
IsWellFormed (Barrier qs) = (0 < length qs) × All (λ q. q < 3) qs

-- a statement at its place is well formed
abbrev pub IsWellFormedAt : LocatedStatement → Type 0
IsWellFormedAt located = IsWellFormed located.statement

-- each statement of a list is well formed
abbrev pub AreWellFormed : List LocatedStatement → Type 0
AreWellFormed statements = All IsWellFormedAt statements
