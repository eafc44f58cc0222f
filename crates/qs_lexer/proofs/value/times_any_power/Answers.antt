use Rattle.std.proofs.Common.{◌≡◌, ◌^◌, ◌*◌, arith, ap, ◌∙◌}
use Rattle.std.specs.Prelude.{min}
use Rattle.std.proofs.Math.Nat.{pow-le-pow_right}
use Rattle.qs_lexer.proofs.Shifts.{power_cut}
use Rattle.qs_lexer.proofs.value.times_any_power.Goals as goal

pub pow-requires : goal.pow-requires
pow-requires c = omega (arith, pow-le-pow_right {n = 10} (omega arith) {i = c.min.result} {j = 36} (omega (arith, c.min.ensures)))

pub returns : goal.returns
returns c =
    let power : c.pow.result ≡ 10 ^ min c.args.up 36 = c.pow.ensures ∙ ap (λ k. 10 ^ k) c.min.ensures in
    let product = ap (λ p. c.args.n * p) power in
    omega (arith, product, c.saturating_mul.ensures, c.min-2.ensures, power_cut c.args.n c.args.up)
