use Rattle.std.proofs.Common.{◌+◌, ◌∙◌, ap, arith, drop, length, refl, sym}
use Rattle.std.proofs.lemmas.Option.{slice_get_read}
use Rattle.controller_machine.specs.steps.Place.{stand_from}
use Rattle.controller_machine.proofs.Stands.{found-item, no-item, stand-passes, stands-here, ticks-from}
use Rattle.controller_machine.proofs.stand.Spot.stand.Goals as goal

pub returns-then-is_some : goal.returns-then-is_some
returns-then-is_some c =
    let found = found-item c.item.result (sym c.is_some.ensures ∙ c.if-is_some.true) in
    sym (stands-here c.args.body.now c.loop-stmt.spot.statement c.loop-stmt.spot.item c.loop-stmt.spot.tick found.0 (sym c.item.ensures.value ∙ found.1)) ∙ c.loop-stmt.invariant.same

pub loop-stmt-preserved : goal.loop-stmt-preserved
loop-stmt-preserved c =
    let spot = c.loop-stmt.spot in
    let here = slice_get_read c.args.body.now (length c.args.body.now) spot.statement c.in-Some.stmt.now refl c.in-Some.ensures.lookup.3.0 c.in-Some.ensures.lookup.1 in
    let none = sym c.item.ensures.value ∙ no-item c.item.result (sym c.is_some.ensures ∙ c.if-is_some.false) in
    record {
      time = omega (arith, c.loop-stmt.invariant.time, ticks-from c.args.body.now spot.statement c.in-Some.stmt.now here, c.ticks_in.ensures);
      same = ap (λ n. stand_from (drop (spot.statement + 1) c.args.body.now) (spot.statement + 1) 0 (spot.tick + n)) c.ticks_in.ensures
          ∙ sym (stand-passes c.args.body.now spot.statement spot.item spot.tick c.in-Some.stmt.now here none) ∙ c.loop-stmt.invariant.same;
    }
