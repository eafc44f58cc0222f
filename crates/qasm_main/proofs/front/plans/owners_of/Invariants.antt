use Rattle.std.proofs.Common.{◌≡◌, ◌++◌, drop}
use Rattle.qasm_main.specs.front.Planned.{owners_of}
use Rattle.qasm_main.proofs.front.plans.owners_of.Given as goal

abbrev pub invariant-loop-port : goal.invariant-loop-port
invariant-loop-port l = l.all.items ++ owners_of (drop l.port-index l.ports) ≡ owners_of l.ports
