-- Names that are found by their bytes, in a set of texts.
use Rattle.std.proofs.Common.{◌≡◌, ℕ, suc, ◌+◌, List, [], ◌∷◌, ◌++◌, Bool, false, not, cond, ◌||◌, map, length, refl, ap, sym, ◌∙◌, Option, Some, None, String, Global, string_bytes}
use Rattle.std.specs.Prelude.{nat_lt, position, bytes_eq, string_eq, if◌then◌else◌}
use Rattle.std.specs.List.{list_any, position_or_len}
use Rattle.std.proofs.lemmas.List.{length_push}
use Rattle.indexmap.specs.IndexSet.{insert_key}

-- whether some element passes, over what a function makes of them
pub list_any-map : {X Y : Type 0} (p : Y → Bool) (f : X → Y) (xs : List X) → list_any p (map f xs) ≡ list_any (λ x. p (f x)) xs
list_any-map p f [] = refl
list_any-map p f (x ∷ xs) = ap (λ rest. p (f x) || rest) (list_any-map p f xs)

-- where the first passes, over what a function makes of them
pub position_or_len-map : {X Y : Type 0} (p : Y → Bool) (f : X → Y) (xs : List X) → position_or_len p (map f xs) ≡ position_or_len (λ x. p (f x)) xs
position_or_len-map p f [] = refl
position_or_len-map p f (x ∷ xs) = ap (λ rest. cond (not (p (f x))) (1 + rest) 0) (position_or_len-map p f xs)

pub length-map : {X Y : Type 0} (f : X → Y) (xs : List X) → length (map f xs) ≡ length xs
length-map f [] = refl
length-map f (x ∷ xs) = ap suc (length-map f xs)

pub map-append : {X Y : Type 0} (f : X → Y) (xs ys : List X) → map f (xs ++ ys) ≡ map f xs ++ map f ys
map-append f [] ys = refl
map-append f (x ∷ xs) ys = ap (λ rest. f x ∷ rest) (map-append f xs ys)

within : ℕ → ℕ → Option ℕ
within k n = cond (nat_lt k n) (Some k) None

pub position-map : {X Y : Type 0} (p : Y → Bool) (f : X → Y) (xs : List X) → position p (map f xs) ≡ position (λ x. p (f x)) xs
unfolding within
position-map p f xs =
    ap (λ k. within k (length (map f xs))) (position_or_len-map p f xs) ∙ ap (λ n. within (position_or_len (λ x. p (f x)) xs) n) (length-map f xs)

-- a text that isn't among these goes last
pub pushed : (ks : List (String Global)) (k : String Global) (name : List ℕ) → string_bytes k ≡ name → list_any (bytes_eq name) (map string_bytes ks) ≡ false
    → map string_bytes (insert_key string_eq ks k) ≡ map string_bytes ks ++ name ∷ []
pushed ks k name is absent =
    let new : list_any (string_eq k) ks ≡ false = sym (list_any-map (bytes_eq (string_bytes k)) string_bytes ks) ∙ ap (λ n. list_any (bytes_eq n) (map string_bytes ks)) is ∙ absent in
    ap (λ b. map string_bytes (if b then ks else ks ++ k ∷ [])) new ∙ map-append string_bytes ks (k ∷ []) ∙ ap (λ n. map string_bytes ks ++ n ∷ []) is

-- names stay those of a list, where both grow by one
pub named_next : {X : Type 0} (name : X → List ℕ) (xs after : List X) (x : X) (names new : List (List ℕ)) (s : List ℕ) → names ≡ map name xs → new ≡ names ++ s ∷ [] → s ≡ name x → after ≡ xs ++ x ∷ []
    → new ≡ map name after
named_next name xs after x names new s named grown same longer =
    grown ∙ ap (λ t. names ++ t ∷ []) same ∙ ap (λ ns. ns ++ name x ∷ []) named ∙ sym (map-append name xs (x ∷ [])) ∙ ap (map name) (sym longer)

-- a list that grows by one is one longer
pub grow_count : {X : Type 0} (xs after : List X) (x : X) (n : ℕ) → length xs ≡ n → after ≡ xs ++ x ∷ [] → length after ≡ n + 1
grow_count xs after x n counted longer = ap length longer ∙ length_push xs x ∙ ap (λ k. k + 1) counted
