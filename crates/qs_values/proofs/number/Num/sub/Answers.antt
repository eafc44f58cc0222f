use Rattle.std.proofs.lemmas.Result.{err_from_is_err_and}
use Rattle.qs_values.proofs.NumberLemmas.{refused_pi, nonzero_product, nonzero_den}
use Rattle.qs_values.proofs.number.Num.sub.Goals as goal

pub returns-in_err-minus-2 : goal.returns-in_err-minus-2
returns-in_err-minus-2 c =
    let a = c.args.self.now.pi in
    let b = c.args.other.now.pi in
    let p = err_from_is_err_and c.from_residual-in_err-minus-2.result c.from_residual-in_err-minus-2.ensures.1 in
    rw (p.1, p.2) (refused_pi _ _ _ _ c.in_err-minus-2.field-0.0 (nonzero_product a.den b.den (nonzero_den a) (nonzero_den b)) c.in_err-minus-2.ensures)
