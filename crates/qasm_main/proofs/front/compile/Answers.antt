use Rattle.std.proofs.Common.{subst}
use Rattle.qasm_main.specs.front.Compile.{CompilesStatements}
use Rattle.qasm_main.proofs.CompileLemmas.{read-compiles, unread-compiles, unread-named}
use Rattle.qasm_main.proofs.front.compile.Goals as goal

pub returns-in-Err-clause-compiles : goal.returns-in-Err-clause-compiles
returns-in-Err-clause-compiles c = unread-compiles c.args.source.now c.args.machine.now c.in-Err.halt c.in-Err.ensures.reads

pub returns-in-Err-clause-code : goal.returns-in-Err-clause-code
returns-in-Err-clause-code c = unread-named c.args.source.now c.in-Err.halt c.in-Err.ensures.reads

pub returns-in-Ok-clause-compiles : goal.returns-in-Ok-clause-compiles
returns-in-Ok-clause-compiles c =
    read-compiles c.args.source.now c.args.machine.now c.in-Ok.statements c.plan_of.result c.in-Ok.ensures.reads
    (subst (λ statements. CompilesStatements c.args.machine.now statements c.plan_of.result) c.as_slice.ensures c.plan_of.ensures.compiles)
