use Rattle.std.proofs.Common.{◌≡◌, [], map, drop}
use Rattle.qs_machine.specs.Steps.{in_order}
use Rattle.qs_machine.specs.Table.{member_of}
use Rattle.qs_machine.proofs.families.members_of.Given as goal

abbrev pub invariant-loop-text : goal.invariant-loop-text
invariant-loop-text l =
    in_order (member_of l.ports l.frames l.family) [] (map (λ s. s.now) l.texts) ≡ in_order (member_of l.ports l.frames l.family) l.members (map (λ s. s.now) (drop l.text-index l.texts))
