use Rattle.std.proofs.Common.{◌≡◌, ◌+◌, suc, subst, Ok, Err, arith}
use Rattle.std.proofs.lemmas.Result.{err_from_is_err_and}
use Rattle.qs_const.specs.Operations.{IsPower}
use Rattle.qs_const.proofs.PowerLemmas.{power_next, power_start, refused_from}
use Rattle.qs_const.proofs.powers.nth_power.Goals as goal

pub returns-in_err-product : goal.returns-in_err-product
returns-in_err-product c =
    let p = err_from_is_err_and c.from_residual.result c.from_residual.ensures.1 in
    let refused : IsPower c.args.x.now (suc c.loop-i.i) (Err c.in_err-product.field-0.0) = power_next c.args.x.now c.loop-i.product c.loop-i.i (Err c.in_err-product.field-0.0) c.loop-i.invariant c.in_err-product.ensures in
    rw (p.1, p.2) (refused_from c.args.x.now c.in_err-product.field-0.0 c.loop-i.i c.args.n (omega arith) refused)

pub loop-i-init : goal.loop-i-init
loop-i-init c = power_start c.args.x.now (record { plain = c.whole.result; pi = c.whole-2.result }) c.whole.ensures.num c.whole.ensures.den c.whole-2.ensures.num c.whole-2.ensures.den

pub loop-i-preserved : goal.loop-i-preserved
loop-i-preserved c =
    let same : suc c.loop-i.i ≡ c.loop-i.i + 1 = omega arith in
    subst (λ n. IsPower c.args.x.now n (Ok c.in_ok-product.product)) same (power_next c.args.x.now c.loop-i.product c.loop-i.i (Ok c.in_ok-product.product) c.loop-i.invariant c.in_ok-product.ensures)
