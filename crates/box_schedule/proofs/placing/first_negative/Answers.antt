use Rattle.std.proofs.Common.{◌≡◌, ◌<◌, ◌≤◌, length, false, subst, rules, arith}
use Rattle.std.proofs.lemmas.Int.{ints}
use Rattle.std.proofs.lemmas.List.{take_all}
use Rattle.std.proofs.lemmas.List.Elements.{All-more}
use Rattle.box_schedule.specs.Placement.{NoneIsNegative, is_negative}
use Rattle.box_schedule.proofs.placing.first_negative.Goals as goal

pub loop-op-preserved : goal.loop-op-preserved
loop-op-preserved c =
    let within : c.loop-op.op-index < length c.args.ops.now = omega arith in
    let here : is_negative c.op-item.result ≡ false = search (rules, ints, c.if-op-lt0.false) in
    All-more (λ op. is_negative op ≡ false) c.args.ops.now c.loop-op.op-index c.op-item.result within c.loop-op.invariant (rw (← c.op-item.is) here)

pub returns : goal.returns
returns c =
    let all : length c.args.ops.now ≤ c.loop-op.op-index = omega arith in
    subst NoneIsNegative (take_all c.loop-op.op-index c.args.ops.now all) c.loop-op.invariant
