-- Steps that may be refused, one after another. This project's own.
use Rattle.std.specs.Prelude.{◌≡◌, ◌⊎◌, List, [], ◌∷◌, ◌++◌, Bool, true, false, ⊤, Result, Ok, Err}

infixl 10 ◌>>=◌
-- a value goes on to the next step, and a refusal stays
abbrev pub ◌>>=◌ : {A B E : Type 0} → Result A E → (A → Result B E) → Result B E
◌>>=◌ (Ok a) next = next a
◌>>=◌ (Err e) next = Err e

-- a step without a value: refused where a fault is there
abbrev pub refuse_if : {E : Type 0} → Bool → E → Result ⊤ E
refuse_if true e = Err e
refuse_if false e = Ok tt

-- the value by a function
abbrev pub result_map : {A B E : Type 0} → (A → B) → Result A E → Result B E
result_map f (Ok a) = Ok (f a)
result_map f (Err e) = Err e

-- the entries of a list in order, each read beside the values of those before it; the first refusal stays
abbrev pub in_order : {A D E : Type 0} → (List A → D → Result A E) → List A → List D → Result (List A) E
in_order read before [] = Ok before
in_order read before (d ∷ ds) = read before d >>= (λ a. in_order read (before ++ a ∷ []) ds)

-- a list is judged in order: the first refusal stays
abbrev pub judged : {D E : Type 0} → (D → Result ⊤ E) → List D → Result ⊤ E
judged judge [] = Ok tt
judged judge (d ∷ ds) = judge d >>= (λ _. judged judge ds)

-- An answer is the one that is meant, or tells that memory is out.
abbrev pub IsUnlessMemory : {A E : Type 0} → E → Result A E → Result A E → Type 0
IsUnlessMemory memory meant (Ok a) = Ok a ≡ meant
IsUnlessMemory memory meant (Err e) = (Err e ≡ meant) ⊎ (e ≡ memory)
