-- Lines one after another, and the text of a whole page.
use Rattle.std.proofs.Common.{◌≡◌, ℕ, ◌+◌, ◌<◌, List, [], ◌∷◌, ◌++◌, length, take, get_or, ap, sym, ◌∙◌}
use Rattle.std.specs.List.{flat_map}
use Rattle.std.proofs.lemmas.Grind.{flat_map-append}
use Rattle.std.proofs.lemmas.List.{append-nil, take_more}

-- the line of a last element
pub line-last : {X : Type 0} (line : X → List ℕ) (xs : List X) (x : X) → flat_map line xs ++ line x ≡ flat_map line (xs ++ x ∷ [])
line-last line xs x = sym (flat_map-append line xs (x ∷ []) ∙ ap (λ text. flat_map line xs ++ text) (append-nil (line x)))

-- the line of one more element stands behind those of the elements before it
pub line-more : {X : Type 0} (line : X → List ℕ) (xs : List X) (i : ℕ) (d : X) → i < length xs
    → flat_map line (take i xs) ++ line (get_or xs i d) ≡ flat_map line (take (i + 1) xs)
line-more line xs i d h = line-last line (take i xs) (get_or xs i d) ∙ ap (flat_map line) (sym (take_more xs i d h))
