use Rattle.std.proofs.Common.{drop}
use Rattle.qasm_main.proofs.QubitLemmas.{Gathered}
use Rattle.qasm_main.proofs.front.reader.qubits_of.Given as goal

abbrev pub invariant-loop-operand : goal.invariant-loop-operand
invariant-loop-operand l = Gathered l.fn.operands l.qubits (drop l.operand-index l.operands)
