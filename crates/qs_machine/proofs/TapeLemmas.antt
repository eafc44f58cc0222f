-- The keys of qubits, and lists without a change.
use Rattle.std.proofs.Common.{◌≡◌, ℕ, zero, suc, ◌+◌, ◌<◌, ◌≤◌, ◌^◌, List, [], ◌∷◌, ◌++◌, Bool, true, false, map, refl, ap, ◌∙◌, arith}
use Rattle.std.specs.Prelude.{decimal, bytes_eq}
use Rattle.std.specs.List.{list_any, range_with_len}
use Rattle.std.proofs.lemmas.Fmt.{decimal_injective}
use Rattle.std.proofs.lemmas.Slice.Eq.{bytes_eq-Decides}
use Rattle.qs_machine.specs.Table.{is_among}
use Rattle.qs_machine.specs.Tapes.{qubit_keys}
use Rattle.qs_machine.proofs.NameLemmas.{map-append}

range_more : (a n : ℕ) → range_with_len a (suc n) ≡ range_with_len a n ++ (a + n) ∷ []
range_more a zero = ap (λ k. k ∷ []) (omega arith)
range_more a (suc n) = ap (λ ks. a ∷ ks) (range_more (a + 1) n ∙ ap (λ k. range_with_len (a + 1) n ++ k ∷ []) (omega arith))

-- one qubit more has its key at the end
pub qubit_keys_more : (n : ℕ) → qubit_keys (n + 1) ≡ qubit_keys n ++ decimal n ∷ []
qubit_keys_more n =
    let one : n + 1 ≡ suc n = omega arith in
    ap qubit_keys one ∙ ap (map decimal) (range_more 0 n) ∙ map-append decimal (range_with_len 0 n) ((0 + n) ∷ []) ∙ ap (λ k. qubit_keys n ++ decimal k ∷ []) (omega arith)

apart : (m n : ℕ) (b : Bool) → m < n → n < 2 ^ 64 → bytes_eq (decimal n) (decimal m) ≡ b → b ≡ false
apart m n false h wide e = refl
apart m n true h wide e =
    let same : n ≡ m = decimal_injective n m (omega arith) (omega arith) ((bytes_eq-Decides (decimal n) (decimal m)).0 e) in
    absurd (omega arith)

fresh_from : (a k n : ℕ) → a + k ≤ n → n < 2 ^ 64 → list_any (bytes_eq (decimal n)) (map decimal (range_with_len a k)) ≡ false
fresh_from a zero n h wide = refl
fresh_from a (suc k) n h wide = rw (apart a n (bytes_eq (decimal n) (decimal a)) (omega arith) wide refl) (fresh_from (a + 1) k n (omega arith) wide)

-- the key of a qubit isn't among those of the qubits before it
pub fresh_key : (n : ℕ) → n < 2 ^ 64 → is_among (decimal n) (qubit_keys n) ≡ false
fresh_key n wide = fresh_from 0 n n (omega arith) wide

pub map-same : {X : Type 0} (xs : List X) → map (λ x. x) xs ≡ xs
map-same [] = refl
map-same (x ∷ xs) = ap (λ ys. x ∷ ys) (map-same xs)
