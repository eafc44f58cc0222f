-- The machine that a table is read as keeps all forms and limits.
use Rattle.std.proofs.Common.{◌≡◌, ℕ, ◌≤◌, List, [], map, length, Ok, sym, subst, arith}
use Rattle.std.specs.Prelude.{All, nat_le}
use Rattle.std.proofs.lemmas.Bool.{leb-true}
use Rattle.serde_json.specs.Data.{Data}
use Rattle.serde_json.specs.Find.{as_str}
use Rattle.qs_machine.specs.declared.machine.Machine.{Machine}
use Rattle.qs_machine.specs.declared.table.Parts.{Parts}
use Rattle.qs_machine.specs.declared.refusal.Field.TheVariants.{Version, Dt, Qubits, Gap, Budget, Mail, Cal}
use Rattle.qs_machine.specs.Limits.{AreNamed, IsPort, IsFrame, IsWave, IsFamily, HasHub, AreInByteOrder, IsMachine}
use Rattle.qs_machine.specs.Table.{needed, controllers_of, ports_of, frames_of, waveforms_of, families_of, parts_of, cal_in, cal_of, machine_of}
use Rattle.qs_machine.specs.Values.{whole_in}
use Rattle.qs_machine.proofs.NameLemmas.{length-map}
use Rattle.qs_machine.proofs.KeptLemmas.{ok_is, after, passed, field_kept, optional_keeps}
use Rattle.qs_machine.proofs.PartsKept.{controllers_kept, ports_kept, frames_kept, waveforms_kept, families_kept}

-- The parts of a machine of so many qubits keep their forms and limits.
record ArePartsKept (qubits : ℕ) (p : Parts) : Type 0 where
  pub hub : HasHub p.controllers
  pub controllers : length p.controllers ≤ 16
  pub ports : AreNamed 96 (IsPort qubits (length p.controllers)) (λ x. x.name) p.ports
  pub frames : AreNamed 256 (IsFrame (length p.ports)) (λ x. x.name) p.frames
  pub waveforms : AreNamed 256 IsWave (λ x. x.name) p.waveforms
  pub families : All (IsFamily qubits p.ports p.frames) p.families

parts_kept : (qubits : ℕ) (table : Data) (p : Parts) → Ok p ≡ parts_of qubits table → ArePartsKept qubits p
parts_kept qubits table p h =
    after (controllers_of table) _ p h (λ kinds is_a h_a.
    after (ports_of qubits (length kinds) table) _ p h_a (λ ports is_b h_b.
    after (frames_of (map (λ x. x.name) ports) table) _ p h_b (λ frames is_c h_c.
    after (waveforms_of table) _ p h_c (λ waves is_d h_d.
    after (families_of qubits ports frames table) _ p h_d (λ families is_e h_e.
    let same : p ≡ record { controllers = kinds; ports = ports; frames = frames; waveforms = waves; families = families } = ok_is p _ h_e in
    let hub = controllers_kept table kinds is_a in
    subst (ArePartsKept qubits) (sym same)
    (record {
      hub = hub.0;
      controllers = hub.1;
      ports = ports_kept qubits (length kinds) table ports is_b;
      frames = subst (λ n. AreNamed 256 (IsFrame n) (λ x. x.name) frames) (length-map (λ x. x.name) ports) (frames_kept (map (λ x. x.name) ports) table frames is_c);
      waveforms = waveforms_kept table waves is_d;
      families = families_kept qubits ports frames table families is_e;
    }))))))

cal_kept : (table : Data) (cal : List ℕ) → Ok cal ≡ cal_of table → length cal ≤ 1048576
cal_kept table cal h =
    optional_keeps Cal [] cal_in table cal (λ text. length text ≤ 1048576) (omega arith)
    (λ d is. leb-true (length cal) 1048576 (passed (λ text. nat_le (length text) 1048576) (as_str d) cal is).1) h

-- a machine that is read, and whose families stand in the order of their names, keeps all forms and limits
pub machine_kept : (table : Data) (m : Machine) → Ok m ≡ machine_of table → AreInByteOrder (map (λ f. f.name) m.families) → IsMachine m
machine_kept table m h ordered =
    after (needed Version (whole_in 1 1) table) _ m h (λ version is_a h_a.
    after (needed Dt (whole_in 1 1000000) table) _ m h_a (λ dt is_b h_b.
    after (needed Qubits (whole_in 1 32) table) _ m h_b (λ qubits is_c h_c.
    after (parts_of qubits table) _ m h_c (λ parts is_d h_d.
    after (needed Gap (whole_in 0 1048576) table) _ m h_d (λ gap is_e h_e.
    after (needed Budget (whole_in 1 100000) table) _ m h_e (λ budget is_f h_f.
    after (needed Mail (whole_in 1 64) table) _ m h_f (λ mail is_g h_g.
    after (cal_of table) _ m h_g (λ cal is_h h_h.
    let made : Machine = record {
      version = version;
      dt = dt;
      qubits = qubits;
      controllers = parts.controllers;
      ports = parts.ports;
      frames = parts.frames;
      waveforms = parts.waveforms;
      families = parts.families;
      gap = gap;
      budget = budget;
      mail = mail;
      cal = cal;
    } in
    let same : m ≡ made = ok_is m made h_h in
    let one = field_kept Version 1 1 table version is_a in
    let kept = parts_kept qubits table parts is_d in
    let order : AreInByteOrder (map (λ f. f.name) made.families) = subst (λ x. AreInByteOrder (map (λ f. f.name) x.families)) same ordered in
    subst IsMachine (sym same)
    (record {
      version = omega (arith, one.0, one.1);
      dt = field_kept Dt 1 1000000 table dt is_b;
      qubits = field_kept Qubits 1 32 table qubits is_c;
      hub = kept.hub;
      controllers = kept.controllers;
      ports = kept.ports;
      frames = kept.frames;
      waveforms = kept.waveforms;
      families = kept.families;
      family_names = order;
      gap = (field_kept Gap 0 1048576 table gap is_e).1;
      budget = field_kept Budget 1 100000 table budget is_f;
      mail = field_kept Mail 1 64 table mail is_g;
      cal = cal_kept table cal is_h;
    })))))))))
