-- Where a step is refused, all the steps are.
use Rattle.std.proofs.Common.{◌≡◌, inl, inr, Result, Ok, Err, ap, ◌∙◌, sym, subst}
use Rattle.std.specs.Result.{IsErrAnd}
use Rattle.std.proofs.lemmas.Result.{err_from_is_err_and}
use Rattle.qs_machine.specs.Steps.{◌>>=◌, IsUnlessMemory}

-- a refusal passes by what would have come next
pub bind_err : {A B E : Type 0} (r : Result A E) (e : E) (next : A → Result B E) → Err e ≡ r → Err e ≡ (r >>= next)
bind_err r e next is = ap (λ x. x >>= next) is

-- what leaves at a `?` is the refusal that came there
pub left : {A E : Type 0} (result : Result A E) (e : E) (meant : Result A E) → IsErrAnd result (λ y. y ≡ e) → Err e ≡ meant → result ≡ meant
left result e meant gone is = let p = err_from_is_err_and result gone in p.1 ∙ ap Err p.2 ∙ is

-- the same, where out of memory may come too
pub bind_unless : {A B E : Type 0} (memory : E) (r : Result A E) (e : E) (next : A → Result B E) → IsUnlessMemory memory r (Err e) → IsUnlessMemory {A = B} memory (r >>= next) (Err e)
bind_unless memory r e next is = elim is [ inl h ↦ inl (bind_err r e next h) | inr h ↦ inr h ]

-- a value goes on
pub bind_ok : {A B E : Type 0} (r : Result A E) (a : A) (next : A → Result B E) → Ok a ≡ r → next a ≡ (r >>= next)
bind_ok r a next is = ap (λ x. x >>= next) is

-- what leaves at a `?` is the refusal that came there, or out of memory
pub left_unless : {A E : Type 0} (memory : E) (result : Result A E) (e : E) (meant : Result A E) → IsErrAnd result (λ y. y ≡ e) → IsUnlessMemory memory meant (Err e) → IsUnlessMemory memory meant result
left_unless memory result e meant gone is =
    let p = err_from_is_err_and result gone in
    subst (IsUnlessMemory memory meant) (sym (p.1 ∙ ap Err p.2)) is

-- a value that came is the one that is meant
pub sure : {A E : Type 0} (memory : E) (meant : Result A E) (a : A) → IsUnlessMemory memory meant (Ok a) → Ok a ≡ meant
sure memory meant a is = is

-- a value goes on, and what comes of it is what comes of all
pub through : {A B E : Type 0} (memory : E) (r : Result A E) (a : A) (next : A → Result B E) (x : Result B E) → Ok a ≡ r → IsUnlessMemory memory (next a) x → IsUnlessMemory memory (r >>= next) x
through memory r a next x is h = subst (λ s. IsUnlessMemory memory (s >>= next) x) is h
