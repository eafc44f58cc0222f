use Rattle.std.proofs.Common.{◌≡◌, ◌∷◌, ℕ, true, arith, ap, ◌∙◌}
use Rattle.qs_lexer.proofs.ShortMantissas.{reads_point, small_past}
use Rattle.qs_lexer.proofs.mantissa.read_part.Goals as goal

pub read_side-requires-clause-small : goal.read_side-requires-clause-small
read_side-requires-clause-small c =
    small_past c.args.before c.args.bytes.now c.in-Some.after.now c.in-Some.byte.now c.in-Some.ensures.cases.0 (omega (arith, c.requires.few)) c.requires.small

pub returns : goal.returns
returns c =
    let point : c.in-Some.byte.now ≡ 46 = omega (arith, c.if-byte-ne46.false) in
    let read = c.read_side.result in
    let is = c.in-Some.ensures.cases.0 ∙ ap (λ (b : ℕ). b ∷ c.in-Some.after.now) point in
    (true, reads_point c.args.bytes.now c.in-Some.after.now c.args.before c.args.count read.0 read.1 read.2.now is c.requires.small c.read_side.ensures)
