use Rattle.std.proofs.Common.{◌≡◌, ◌++◌, drop, map}
use Rattle.qasm_main.specs.front.Gates.{drive_on}
use Rattle.qasm_main.proofs.front.gates.gates_of.Given as goal

abbrev pub invariant-loop-frame : goal.invariant-loop-frame
invariant-loop-frame l =
    l.drives ++ map (drive_on l.machine.frames) (drop l.frame-index l.frame-items) ≡ map (drive_on l.machine.frames) l.frame-items
