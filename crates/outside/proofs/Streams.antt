-- What several reads and writes come to together.
use Rattle.std.proofs.Common.{◌≡◌, ℕ, ◌<◌, ◌≤◌, List, [], ◌++◌, length, Option, Some, None, refl, sym, ap, ◌∙◌, arith, append_assoc, length-append}
use Rattle.std.proofs.lemmas.List.{append-nil}
use Rattle.std.specs.Io.KnownBytes.{Appends, Consumes, IsAtEnd, Keeps}
use Rattle.outside.specs.declared.shelf.Taken.TheVariants.{Whole, Longer}
use Rattle.outside.specs.Stream.{ReadsAll}

-- ---- writes

pub keeps-self : (a : Option (List ℕ)) → Keeps a a
keeps-self None = tt
keeps-self (Some xs) = refl

pub keeps-keeps : (a b d : Option (List ℕ)) → Keeps a b → Keeps b d → Keeps a d
keeps-keeps None b d p q = tt
keeps-keeps (Some xs) None d p q = absurd p
keeps-keeps (Some xs) (Some ys) None p q = absurd q
keeps-keeps (Some xs) (Some ys) (Some zs) p q = q ∙ p

pub keeps-appends : (a b d : Option (List ℕ)) (more : List ℕ) → Keeps a b → Appends b d more → Appends a d more
keeps-appends None b d more p q = tt
keeps-appends (Some xs) None d more p q = absurd p
keeps-appends (Some xs) (Some ys) None more p q = absurd q
keeps-appends (Some xs) (Some ys) (Some zs) more p q = q ∙ ap (λ t. t ++ more) p

pub appends-nothing : (a b : Option (List ℕ)) → Appends a b [] → Keeps a b
appends-nothing None b p = tt
appends-nothing (Some xs) None p = absurd p
appends-nothing (Some xs) (Some ys) p = p ∙ append-nil xs

-- ---- reads

pub consumes-nothing : (a : Option (List ℕ)) → Consumes a a []
consumes-nothing None = tt
consumes-nothing (Some xs) = refl

pub consumes-consumes : (a b d : Option (List ℕ)) (xs ys : List ℕ) → Consumes a b xs → Consumes b d ys → Consumes a d (xs ++ ys)
consumes-consumes None b d xs ys p q = tt
consumes-consumes (Some t) None d xs ys p q = absurd p
consumes-consumes (Some t) (Some u) None xs ys p q = absurd q
consumes-consumes (Some t) (Some u) (Some v) xs ys p q = p ∙ ap (λ w. xs ++ w) q ∙ sym (append_assoc xs ys v)

pub consumes-keeps : (a b d : Option (List ℕ)) (xs : List ℕ) → Consumes a b xs → Keeps b d → Consumes a d xs
consumes-keeps None b d xs p q = tt
consumes-keeps (Some t) None d xs p q = absurd p
consumes-keeps (Some t) (Some u) None xs p q = absurd q
consumes-keeps (Some t) (Some u) (Some v) xs p q = p ∙ ap (λ w. xs ++ w) (sym q)

-- more than the limit was read
pub longer_is : (had left : Option (List ℕ)) (got : List ℕ) (limit : ℕ) → Consumes had left got → limit < length got → ReadsAll had limit Longer
longer_is None left got limit read longer = record { bytes = got; reads = longer; known = λ all e. absurd (cc) }
longer_is (Some xs) None got limit read longer = absurd read
longer_is (Some xs) (Some ys) got limit read longer = record { bytes = xs; reads = omega (arith, ap length read, length-append got ys); known = λ all e. cc }

-- all was read
pub whole_is : (had left : Option (List ℕ)) (got : List ℕ) (limit : ℕ) → Consumes had left got → IsAtEnd left → length got ≤ limit → ReadsAll had limit (Whole got)
whole_is None left got limit read ends within = record { bytes = got; reads = (refl, within); known = λ all e. absurd (cc) }
whole_is (Some xs) None got limit read ends within = absurd read
whole_is (Some xs) (Some ys) got limit read ends within =
    let same : xs ≡ got = read ∙ ap (λ t. got ++ t) ends ∙ append-nil got in
    record { bytes = got; reads = (refl, within); known = λ all e. cc }
