use Rattle.std.proofs.Common.{◌∙◌, ap, subst, map, length, Err, refl}
use Rattle.serde_json.specs.View.{view}
use Rattle.qs_machine.specs.declared.refusal.MachineRefusal.TheVariants.{Memory as OutOfMemory}
use Rattle.qs_machine.specs.Steps.{IsUnlessMemory}
use Rattle.qs_machine.specs.Table.{ports_of, frames_of, waveforms_of, families_of}
use Rattle.qs_machine.proofs.Exits.{left_unless, bind_unless, through}
use Rattle.qs_machine.proofs.PartSteps.{all_parts, from_families, from_waveforms, from_frames, at_ports, at_frames, at_waveforms, at_families}
use Rattle.qs_machine.proofs.table.parts_of.Goals as goal

pub returns-in_err-ports-clause-value : goal.returns-in_err-ports-clause-value
returns-in_err-ports-clause-value c =
    let q = c.args.qubits in
    let d = view c.args.table.now in
    let cs = c.in_ok-controllers.controllers in
    let e = c.in_err-ports.field-0.0 in
    let refused = subst (λ n. IsUnlessMemory OutOfMemory (ports_of q n d) (Err e)) c.len.ensures c.in_err-ports.ensures.value in
    left_unless OutOfMemory _ e _ c.from_residual-in_err-ports.ensures.1
    (at_ports q d cs (Err e) c.in_ok-controllers.ensures.value (bind_unless OutOfMemory (ports_of q (length cs) d) e (from_frames q d cs) refused))

pub returns-in_err-frames-clause-value : goal.returns-in_err-frames-clause-value
returns-in_err-frames-clause-value c =
    let q = c.args.qubits in
    let d = view c.args.table.now in
    let cs = c.in_ok-controllers.controllers in
    let ps = c.in_ok-ports.ports in
    let e = c.in_err-frames.field-0.0 in
    let ports = c.in_ok-ports.ensures.value ∙ ap (λ n. ports_of q n d) c.len.ensures in
    let refused = subst (λ ns. IsUnlessMemory OutOfMemory (frames_of ns d) (Err e)) c.in_ok-ports.ensures.named c.in_err-frames.ensures.value in
    left_unless OutOfMemory _ e _ c.from_residual-in_err-frames.ensures.1
    (at_frames q d cs ps (Err e) c.in_ok-controllers.ensures.value ports (bind_unless OutOfMemory (frames_of (map (λ p. p.name) ps) d) e (from_waveforms q d cs ps) refused))

pub returns-in_err-waveforms-clause-value : goal.returns-in_err-waveforms-clause-value
returns-in_err-waveforms-clause-value c =
    let q = c.args.qubits in
    let d = view c.args.table.now in
    let cs = c.in_ok-controllers.controllers in
    let ps = c.in_ok-ports.ports in
    let fs = c.in_ok-frames.frames in
    let e = c.in_err-waveforms.field-0.0 in
    let ports = c.in_ok-ports.ensures.value ∙ ap (λ n. ports_of q n d) c.len.ensures in
    let frames = c.in_ok-frames.ensures.value ∙ ap (λ ns. frames_of ns d) c.in_ok-ports.ensures.named in
    left_unless OutOfMemory _ e _ c.from_residual-in_err-waveforms.ensures.1
    (at_waveforms q d cs ps fs (Err e) c.in_ok-controllers.ensures.value ports frames (bind_unless OutOfMemory (waveforms_of d) e (from_families q d cs ps fs) c.in_err-waveforms.ensures))

pub returns-in_err-families-clause-value : goal.returns-in_err-families-clause-value
returns-in_err-families-clause-value c =
    let q = c.args.qubits in
    let d = view c.args.table.now in
    let cs = c.in_ok-controllers.controllers in
    let ps = c.in_ok-ports.ports in
    let fs = c.in_ok-frames.frames in
    let ws = c.in_ok-waveforms.waveforms in
    let e = c.in_err-families.field-0.0 in
    let ports = c.in_ok-ports.ensures.value ∙ ap (λ n. ports_of q n d) c.len.ensures in
    let frames = c.in_ok-frames.ensures.value ∙ ap (λ ns. frames_of ns d) c.in_ok-ports.ensures.named in
    let first = subst (λ l. IsUnlessMemory OutOfMemory (families_of q l c.as_slice-2.result.now d) (Err e)) c.as_slice.ensures c.in_err-families.ensures.value in
    let refused = subst (λ l. IsUnlessMemory OutOfMemory (families_of q ps l d) (Err e)) c.as_slice-2.ensures first in
    left_unless OutOfMemory _ e _ c.from_residual-in_err-families.ensures.1
    (at_families q d cs ps fs ws (Err e) c.in_ok-controllers.ensures.value ports frames c.in_ok-waveforms.ensures (bind_unless OutOfMemory (families_of q ps fs d) e (all_parts q d cs ps fs ws) refused))

pub returns-clause-value : goal.returns-clause-value
returns-clause-value c =
    let q = c.args.qubits in
    let d = view c.args.table.now in
    let cs = c.in_ok-controllers.controllers in
    let ps = c.in_ok-ports.ports in
    let fs = c.in_ok-frames.frames in
    let ws = c.in_ok-waveforms.waveforms in
    let families = c.in_ok-families.families in
    let ports = c.in_ok-ports.ensures.value ∙ ap (λ n. ports_of q n d) c.len.ensures in
    let frames = c.in_ok-frames.ensures.value ∙ ap (λ ns. frames_of ns d) c.in_ok-ports.ensures.named in
    let found = c.in_ok-families.ensures.value ∙ ap (λ l. families_of q l c.as_slice-2.result.now d) c.as_slice.ensures ∙ ap (λ l. families_of q ps l d) c.as_slice-2.ensures in
    let whole = all_parts q d cs ps fs ws families in
    at_families q d cs ps fs ws whole c.in_ok-controllers.ensures.value ports frames c.in_ok-waveforms.ensures (through OutOfMemory (families_of q ps fs d) families (all_parts q d cs ps fs ws) whole found refl)
