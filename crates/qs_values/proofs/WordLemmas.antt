-- A word is among the reserved ones exactly where it is among those that begin with its first byte.
use Rattle.std.proofs.Common.{◌≡◌, ◌≢◌, ℕ, ◌&&◌, List, [], ◌∷◌, Bool, true, false, map, Some, ◌||◌, nat_eq, cond, refl, ap, sym, ◌∙◌, subst, arith}
use Rattle.std.specs.List.{filter, list_all, list_any, slice_get}
use Rattle.std.specs.Str.{bytes_eq}
use Rattle.std.proofs.lemmas.Bool.Decides.{nat_tests}
use Rattle.std.proofs.lemmas.Slice.Eq.{bytes_eq-Decides}
use Rattle.std.proofs.lemmas.Map.Views.{any-filter_same}
use Rattle.qs_values.specs.Names.{is_reserved, reserved}
use Rattle.qs_values.specs.steps.ReservedWords.{begins_with, reserved_with}

pub other_byte : (a b : ℕ) → a ≢ b → nat_eq a b ≡ false
other_byte a b h = grind (arith, nat_tests)

same_byte : (a b : ℕ) → a ≡ b → nat_eq a b ≡ true
same_byte a b h = grind (arith, nat_tests)

pub any-map : {X Y : Type 0} (p : Y → Bool) (f : X → Y) (xs : List X) → list_any (λ x. p (f x)) xs ≡ list_any p (map f xs)
any-map p f [] = refl
any-map p f (x ∷ xs) = ap (λ rest. p (f x) || rest) (any-map p f xs)

first_begins : (first : ℕ) (text : List ℕ) → Some first ≡ slice_get text 0 → begins_with first text ≡ true
first_begins first [] e = cc
first_begins first (b ∷ bytes) e = same_byte first b cc

pub reserved_by_first : (text : List ℕ) (first : ℕ) → Some first ≡ slice_get text 0 → list_any (bytes_eq text) (reserved_with first) ≡ is_reserved text
reserved_by_first text first e =
    any-filter_same (bytes_eq text) (begins_with first) true
    (λ word same. subst (λ t. begins_with first t ≡ true) ((bytes_eq-Decides text word).0 same) (first_begins first text e)) reserved

-- ---- a byte with which no reserved word begins

-- the first bytes of the reserved words
abbrev pub first_bytes : List ℕ
first_bytes = 79 ∷ 97 ∷ 98 ∷ 99 ∷ 100 ∷ 101 ∷ 102 ∷ 103 ∷ 105 ∷ 108 ∷ 109 ∷ 110 ∷ 111 ∷ 112 ∷ 113 ∷ 114 ∷ 115 ∷ 116 ∷ 117 ∷ 118 ∷ 119 ∷ []

apart_step : (first b l : ℕ) (x y : Bool) → (nat_eq first l || x) ≡ false → (nat_eq l b || y) ≡ true → (x ≡ false → y ≡ true → nat_eq first b ≡ false) → nat_eq first b ≡ false
apart_step first b l x y p q h = grind (arith, nat_tests)

apart : (first b : ℕ) (bytes : List ℕ) → list_any (nat_eq first) bytes ≡ false → list_any (λ l. nat_eq l b) bytes ≡ true → nat_eq first b ≡ false
apart first b [] p q = cc
apart first b (l ∷ bytes) p q = apart_step first b l (list_any (nat_eq first) bytes) (list_any (λ l. nat_eq l b) bytes) p q (apart first b bytes)

begins_apart : (first : ℕ) (bytes word : List ℕ) → list_any (nat_eq first) bytes ≡ false → list_any (λ l. begins_with l word) bytes ≡ true → begins_with first word ≡ false
begins_apart first bytes [] p q = refl
begins_apart first bytes (b ∷ word) p q = apart first b bytes p q

both : (a b : Bool) → (a && b) ≡ true → (a ≡ true) × (b ≡ true)
both true b e = (refl, e)
both false b e = cc

none_begins : (first : ℕ) (bytes : List ℕ) → list_any (nat_eq first) bytes ≡ false → (words : List (List ℕ)) → list_all (λ w. list_any (λ l. begins_with l w) bytes) words ≡ true
    → filter (begins_with first) words ≡ []
none_begins first bytes p [] q = refl
none_begins first bytes p (w ∷ words) q =
    let parts = both (list_any (λ l. begins_with l w) bytes) (list_all (λ v. list_any (λ l. begins_with l v) bytes) words) q in
    ap (λ t. cond t (w ∷ filter (begins_with first) words) (filter (begins_with first) words)) (begins_apart first bytes w p parts.0)
    ∙ none_begins first bytes p words parts.1

pub none_reserved : (first : ℕ) → list_any (nat_eq first) first_bytes ≡ false → [] ≡ reserved_with first
none_reserved first p = sym (none_begins first first_bytes p reserved refl)
