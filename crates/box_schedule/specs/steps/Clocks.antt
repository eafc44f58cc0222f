-- The clocks of qubits. This project's own.
use Rattle.std.specs.Prelude.{ℕ, max, List, [], ◌∷◌}

-- the greatest of 0 and what these qubits have
abbrev pub greatest : (ℕ → ℕ) → List ℕ → ℕ
greatest at [] = 0
greatest at (q ∷ qs) = max (at q) (greatest at qs)
