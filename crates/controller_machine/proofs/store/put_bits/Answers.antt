use Rattle.std.proofs.Common.{◌+◌, ◌-◌, arith, ◌∙◌}
use Rattle.std.proofs.lemmas.List.{length-set}
use Rattle.controller_machine.proofs.StoreLemmas.{put_bits-next}
use Rattle.controller_machine.proofs.store.put_bits.Goals as goal

pub loop-i-preserved : goal.loop-i-preserved
loop-i-preserved c = record {
  same = put_bits-next c.loop-i.store.items (c.args.first + c.loop-i.i) (c.args.first + (c.loop-i.i + 1)) (c.args.width - c.loop-i.i) (c.args.width - (c.loop-i.i + 1)) c.loop-i.rest (omega arith) (omega arith)
      ∙ c.loop-i.invariant.same;
  long = length-set _ _ _ ∙ c.loop-i.invariant.long;
}
