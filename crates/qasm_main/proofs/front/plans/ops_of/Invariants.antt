use Rattle.std.proofs.Common.{◌≡◌, ◌++◌, drop}
use Rattle.qasm_main.specs.front.Planned.{ops_of}
use Rattle.qasm_main.proofs.front.plans.ops_of.Given as goal

abbrev pub invariant-loop-located : goal.invariant-loop-located
invariant-loop-located l = l.ops.items ++ ops_of l.gates (drop l.located-index l.statements) ≡ ops_of l.gates l.statements
