-- A loop that makes one thing for each number from k up to n.
use Rattle.std.proofs.Common.{◌≡◌, ◌<◌, ◌+◌, ◌-◌, ◌++◌, ◌∷◌, [], List, ℕ, map, append_assoc}
use Rattle.std.specs.List.{range_with_len}
use Rattle.std.proofs.iter.Rest.{range_with_len_first}

pub made_more : {X : Type 0} (f : ℕ → X) (xs : List X) (x : X) (k n : ℕ) (all : List X) → k < n → x ≡ f k
    → xs ++ map f (range_with_len k (n - k)) ≡ all
    → (xs ++ x ∷ []) ++ map f (range_with_len (k + 1) (n - (k + 1))) ≡ all
made_more f xs x k n all below e done =
    let earlier = rw (range_with_len_first k n below) at done in
    rw (append_assoc, e) earlier
