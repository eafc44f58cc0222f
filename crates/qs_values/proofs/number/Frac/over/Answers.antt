use Rattle.qs_values.proofs.NumberLemmas.{product_is}
use Rattle.qs_values.proofs.number.Frac.over.Goals as goal

pub returns : goal.returns
returns c =
    let a = c.args.self in
    let b = c.args.other in
    rw (product_is a.num b.den a.narrow.num b.narrow.den, product_is a.den b.num a.narrow.den b.narrow.num) at c.of.ensures
