use Rattle.std.proofs.Common.{Ok, subst}
use Rattle.serde_json.specs.View.{view}
use Rattle.qs_machine.specs.declared.refusal.MachineRefusal.TheVariants.{Memory as OutOfMemory}
use Rattle.qs_machine.specs.Steps.{IsUnlessMemory}
use Rattle.qs_machine.specs.Table.{wave_of}
use Rattle.qs_machine.proofs.Loops.{in_order_grow}
use Rattle.qs_machine.proofs.NameLemmas.{named_next}
use Rattle.qs_machine.proofs.waveforms.waveforms_of.Goals as goal

pub loop-entry-preserved : goal.loop-entry-preserved
loop-entry-preserved c =
    let wave = c.in_ok-wave.wave in
    let longer = c.in_ok-push-2.ensures.ok in
    let reads = subst (λ fs. IsUnlessMemory OutOfMemory (wave_of fs (view c.entry-item.result)) (Ok wave)) c.as_slice.ensures c.in_ok-wave.ensures.value in
    record {
      named = named_next (λ f. f.name) c.loop-entry.waveforms _ wave c.loop-entry.names _ _ c.loop-entry.invariant.named c.in_ok-push.ensures.ok c.as_str.ensures longer;
      reads = in_order_grow wave_of view OutOfMemory _ c.loop-entry.waveforms _ c.in_ok-entries.entries.now c.loop-entry.entry-index c.entry-item.result wave
          c.loop-entry.invariant.reads c.loop-entry-test.true c.entry-item.is reads longer;
    }
