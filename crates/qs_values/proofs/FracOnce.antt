-- A fraction is given by its parts.
use Rattle.std.proofs.Common.{◌≡◌, ◌≢◌, ap, subst, ℤ, pos}
use Rattle.qs_values.specs.Number.{IsFrac}
use Rattle.qs_values.specs.declared.number.Frac.{Frac}
use Rattle.qs_values.specs.contracts.number.Frac.{the_ghost, the_propositions, the_values}
use Rattle.qs_values.proofs.OneQuotient.{same_lowest}

abbrev made : (v : the_values) → the_ghost v → Frac
made v g = record { num = v.0; den = v.1.0; above = g.0; narrow = g.1.0; coprime = g.1.1.0 }

made_once : (v w : the_values) → v ≡ w → (p : the_ghost v) (q : the_ghost w) → made v p ≡ made w q
made_once v w same = subst (λ (x : the_values). (p : the_ghost v) (q : the_ghost x) → made v p ≡ made x q) same (λ p q. ap (made v) (the_propositions v p q))

-- fractions with the same parts are the same
same_parts : (f g : Frac) → f.num ≡ g.num → f.den ≡ g.den → f ≡ g
same_parts f g num den = made_once (f.num, (f.den, tt)) (g.num, (g.den, tt)) (λ i. (num i, (den i, tt))) (f.above, (f.narrow, (f.coprime, tt))) (g.above, (g.narrow, (g.coprime, tt)))

pub frac_once : (n d : ℤ) (f g : Frac) → d ≢ pos 0 → IsFrac n d f → IsFrac n d g → f ≡ g
frac_once n d f g nonzero is so =
    let same = same_lowest n d f.num f.den g.num g.den nonzero is so in
    same_parts f g same.0 same.1
