use Rattle.qs_values.proofs.NumberLemmas.{product_is}
use Rattle.qs_values.proofs.number.Frac.times.Goals as goal

pub returns : goal.returns
returns c =
    let a = c.args.self in
    let b = c.args.other in
    rw (product_is a.num b.num a.narrow.num b.narrow.num, product_is a.den b.den a.narrow.den b.narrow.den) at c.of.ensures
