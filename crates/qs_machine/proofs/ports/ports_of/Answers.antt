use Rattle.std.proofs.Common.{Ok, subst}
use Rattle.serde_json.specs.View.{view}
use Rattle.qs_machine.specs.declared.refusal.MachineRefusal.TheVariants.{Memory as OutOfMemory}
use Rattle.qs_machine.specs.Steps.{IsUnlessMemory}
use Rattle.qs_machine.specs.Table.{port_of}
use Rattle.qs_machine.proofs.Loops.{in_order_grow}
use Rattle.qs_machine.proofs.NameLemmas.{named_next, grow_count}
use Rattle.qs_machine.proofs.ports.ports_of.Goals as goal

pub loop-entry-preserved : goal.loop-entry-preserved
loop-entry-preserved c =
    let port = c.in_ok-port.port in
    let longer = c.in_ok-push-2.ensures.ok in
    let reads = subst (λ fs. IsUnlessMemory OutOfMemory (port_of c.args.qubits c.args.controllers fs (view c.entry-item.result)) (Ok port)) c.as_slice.ensures c.in_ok-port.ensures.value in
    record {
      counted = grow_count c.loop-entry.ports _ port _ c.loop-entry.invariant.counted longer;
      named = named_next (λ f. f.name) c.loop-entry.ports _ port c.loop-entry.names _ _ c.loop-entry.invariant.named c.in_ok-push.ensures.ok c.as_str.ensures longer;
      reads = in_order_grow (port_of c.args.qubits c.args.controllers) view OutOfMemory _ c.loop-entry.ports _ c.in_ok-entries.entries.now c.loop-entry.entry-index c.entry-item.result port
          c.loop-entry.invariant.reads c.loop-entry-test.true c.entry-item.is reads longer;
    }
