use Rattle.std.proofs.Common.{◌≡◌, ◌++◌, drop}
use Rattle.qasm_main.proofs.front.plans.frames_of.Given as goal

abbrev pub invariant-loop-frame : goal.invariant-loop-frame
invariant-loop-frame l = l.all.items ++ drop l.frame-index l.frames ≡ l.frames
