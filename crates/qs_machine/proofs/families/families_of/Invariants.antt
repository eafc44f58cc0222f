use Rattle.std.proofs.Common.{◌≡◌, [], ◌++◌, map, string_bytes}
use Rattle.qs_machine.specs.Steps.{in_order}
use Rattle.qs_machine.specs.Table.{family_of}
use Rattle.qs_machine.specs.Limits.{AreInByteOrder}
use Rattle.qs_machine.proofs.EntryLemmas.{seen}
use Rattle.qs_machine.proofs.families.families_of.Given as goal

abbrev pub invariant-loop-name : goal.invariant-loop-name
invariant-loop-name l = record {
  reads : in_order (family_of l.qubits l.ports l.frames) [] (map seen l.initial.name-iterator) ≡ in_order (family_of l.qubits l.ports l.frames) l.families (map seen l.name-iterator);
  order : AreInByteOrder (map (λ f. f.name) l.families ++ map (λ e. string_bytes e.0) l.name-iterator);
}
