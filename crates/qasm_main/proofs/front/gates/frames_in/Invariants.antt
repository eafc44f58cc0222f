use Rattle.std.proofs.Common.{◌≡◌, drop}
use Rattle.qasm_main.specs.front.Gates.{frames_in}
use Rattle.qasm_main.proofs.front.gates.frames_in.Given as goal

abbrev pub invariant-loop-family : goal.invariant-loop-family
invariant-loop-family l = frames_in (drop l.family-index l.families) l.name ≡ frames_in l.families l.name
