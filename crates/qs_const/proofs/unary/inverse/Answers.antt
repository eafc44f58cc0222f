use Rattle.std.proofs.Common.{inl, subst}
use Rattle.qs_const.specs.Operations.{GivesWhole}
use Rattle.qs_const.proofs.SmallNumbers.{inverted_coded}
use Rattle.qs_const.proofs.unary.inverse.Goals as goal

pub returns-in-Some : goal.returns-in-Some
returns-in-Some c =
    let k = c.in-Some.k in
    let whole = c.in-Some.ensures in
    inl (k, whole.0, subst (λ z. GivesWhole z c.whole_result.result) (inverted_coded k whole.1) c.whole_result.ensures)
