-- Variables and the values that they begin with (OpenQASM 3.0, types and input variables, in this project's profile).
use Rattle.std.specs.Prelude.{ℕ, ◌+◌, ◌/◌, ◌%◌, List, [], ◌∷◌, length, slice_set, replicate, zero, suc}
use Rattle.qs_values.specs.declared.kind.Kind.{Kind}
use Rattle.qs_values.specs.declared.kind.Kind.TheVariants.{Bit, Bool, Bits, Int, Uint, Angle}
use Rattle.qs_values.specs.declared.kind.Ty.{Ty}
use Rattle.qs_values.specs.declared.kind.Input.{Input}

-- how many variables a value of a type has: a register has one for each bit
abbrev pub size_of : Kind → ℕ → ℕ
size_of Bit width = 1
size_of Bool width = 1
size_of Bits width = width
size_of Int width = 1
size_of Uint width = 1
size_of Angle width = 1

-- so many bits of a number, the lowest first
abbrev pub bits_of : ℕ → ℕ → List ℕ
bits_of zero value = []
bits_of (suc n) value = value % 2 ∷ bits_of n (value / 2)

-- a value, variable by variable
abbrev pub cells_of : Kind → ℕ → ℕ → List ℕ
cells_of Bit width value = value ∷ []
cells_of Bool width value = value ∷ []
cells_of Bits width value = bits_of width value
cells_of Int width value = value ∷ []
cells_of Uint width value = value ∷ []
cells_of Angle width value = value ∷ []

-- the store with values from this variable on
abbrev pub put_cells : List ℕ → ℕ → List ℕ → List ℕ
put_cells store first [] = store
put_cells store first (value ∷ values) = put_cells (slice_set store first value) (first + 1) values

-- the store with a value for each input
abbrev pub put_inputs : List Input → List ℕ → List ℕ → List ℕ
put_inputs [] values store = store
put_inputs (input ∷ inputs) [] store = store
put_inputs (input ∷ inputs) (value ∷ values) store =
    put_inputs inputs values (put_cells store input.first (cells_of input.ty.kind input.ty.width value))

-- the store in which a run begins: the inputs have their values, and every other variable is 0
abbrev pub start_store : List Ty → List Input → List ℕ → List ℕ
start_store vars inputs values = put_inputs inputs values (replicate (length vars) 0)
