-- Cells of a store, one after another.
use Rattle.std.proofs.Common.{◌≡◌, ℕ, ◌+◌, ◌-◌, ◌<◌, ◌≤◌, ◌%◌, ◌/◌, List, [], ◌∷◌, length, refl, ap, arith, add-one, subst, ◌∙◌, suc}
use Rattle.std.specs.Prelude.{All, slice_get, slice_set, IsTrue, IsSomeAnd, Option, Some, None}
use Rattle.std.proofs.lemmas.Bool.Decides.{nat_tests}
use Rattle.std.proofs.lemmas.List.{length-set}
use Rattle.std.proofs.lemmas.Option.{slice_get_within}
use Rattle.qs_values.specs.declared.kind.Kind.{Kind}
use Rattle.qs_values.specs.declared.kind.Kind.TheVariants.{Bit, Bool as Truth, Bits, Int, Uint, Angle}
use Rattle.qs_values.specs.declared.kind.Ty.{Ty}
use Rattle.qs_values.specs.declared.kind.Input.{Input}
use Rattle.qs_values.specs.Kind.{has_width}
use Rattle.plan_tree.specs.Sound.{HasVars}
use Rattle.plan_tree.specs.Store.{bits_of, cells_of, put_cells, put_inputs, size_of}

-- The lowest bit, and then those of half the value.
pub put_bits-next : (store : List ℕ) (at next n m value : ℕ) → next ≡ at + 1 → n ≡ m + 1 →
    put_cells (slice_set store at (value % 2)) next (bits_of m (value / 2)) ≡ put_cells store at (bits_of n value)
put_bits-next store at next n m value here more = rw (more, here, add-one m) refl

some-within : {X : Type 0} (xs : List X) (k : ℕ) (o : Option X) (P : X → Type 0) → slice_get xs k ≡ o → IsSomeAnd o P → k < length xs
some-within xs k None P e h = absurd h
some-within xs k (Some x) P e h = slice_get_within xs k x e

-- Variables that are those of a value are within the store.
pub vars-within : (vars : List Ty) (first : ℕ) (kind : Kind) (width : ℕ) → IsTrue (has_width kind width) → HasVars vars first kind width → first + size_of kind width ≤ length vars
vars-within vars first Bit width wide h = let w = some-within vars first _ _ refl h in omega arith
vars-within vars first Truth width wide h = let w = some-within vars first _ _ refl h in omega arith
vars-within vars first Bits width wide h =
    let some : 1 ≤ width = grind (arith, nat_tests) in
    let w = some-within vars (first + (width - 1)) _ _ refl (h (width - 1) (omega arith)) in
    omega arith
vars-within vars first Int width wide h = let w = some-within vars first _ _ refl h in omega arith
vars-within vars first Uint width wide h = let w = some-within vars first _ _ refl h in omega arith
vars-within vars first Angle width wide h = let w = some-within vars first _ _ refl h in omega arith

-- Where no input is left, or no value, the store is whole.
pub put-no-inputs : (inputs : List Input) (values store : List ℕ) → length inputs ≡ 0 → put_inputs inputs values store ≡ store
put-no-inputs [] values store h = refl
put-no-inputs (input ∷ inputs) values store h = absurd (omega arith)

pub put-no-values : (inputs : List Input) (values store : List ℕ) → length values ≡ 0 → put_inputs inputs values store ≡ store
put-no-values [] values store h = refl
put-no-values (input ∷ inputs) [] store h = refl
put-no-values (input ∷ inputs) (value ∷ values) store h = absurd (omega arith)

pub length-put_cells : (store : List ℕ) (at : ℕ) (values : List ℕ) → length (put_cells store at values) ≡ length store
length-put_cells store at [] = refl
length-put_cells store at (value ∷ values) = length-put_cells (slice_set store at value) (at + 1) values ∙ length-set store at value

-- Inputs whose variables are there, one after another.
abbrev pub AreThere : List Ty → List Input → Type 0
AreThere vars inputs = All (λ i. HasVars vars i.first i.ty.kind i.ty.width) inputs

pub first-within : (vars : List Ty) (inputs : List Input) (input : Input) (rest : List Input) (store : List ℕ) → inputs ≡ input ∷ rest → AreThere vars inputs → length store ≡ length vars →
    input.first + size_of input.ty.kind input.ty.width ≤ length store
first-within vars inputs input rest store e all long =
    let here = subst (AreThere vars) e all 0 input (omega arith) in
    omega (arith, vars-within vars input.first input.ty.kind input.ty.width input.ty.wide here)

pub rest-there : (vars : List Ty) (inputs : List Input) (input : Input) (rest : List Input) → inputs ≡ input ∷ rest → AreThere vars inputs → AreThere vars rest
rest-there vars inputs input rest e all k d h = subst (AreThere vars) e all (suc k) d (omega arith)

-- Putting the first input leaves the rest to put.
pub put-first : (inputs rest : List Input) (input : Input) (values more : List ℕ) (value : ℕ) (store new whole : List ℕ) → inputs ≡ input ∷ rest → values ≡ value ∷ more →
    new ≡ put_cells store input.first (cells_of input.ty.kind input.ty.width value) → put_inputs inputs values store ≡ whole → put_inputs rest more new ≡ whole
put-first inputs rest input values more value store new whole first second put same = rw put (rw (first, second) at same)

pub put-long : (store new : List ℕ) (input : Input) (value n : ℕ) → new ≡ put_cells store input.first (cells_of input.ty.kind input.ty.width value) → length store ≡ n → length new ≡ n
put-long store new input value n put long = ap length put ∙ length-put_cells store input.first (cells_of input.ty.kind input.ty.width value) ∙ long
