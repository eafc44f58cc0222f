use Rattle.std.proofs.Common.{drop}
use Rattle.qasm_main.proofs.ReaderLemmas.{SoFar}
use Rattle.qasm_main.proofs.front.reader.read_statements.Given as goal

abbrev pub invariant-loop-stmt : goal.invariant-loop-stmt
invariant-loop-stmt l = SoFar l.most l.left l.fn.stmts l.statements (drop l.stmt-index l.stmts)
