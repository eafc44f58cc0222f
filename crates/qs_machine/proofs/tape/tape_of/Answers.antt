use Rattle.std.proofs.Common.{sym, subst}
use Rattle.serde_json.specs.View.{view}
use Rattle.qs_machine.specs.Limits.{IsTape}
use Rattle.qs_machine.proofs.TapeKept.{tape_kept}
use Rattle.qs_machine.proofs.tape.tape_of.Goals as goal

pub returns-clause-kept : goal.returns-clause-kept
returns-clause-kept c =
    let inputs = c.args.inputs.now in
    let values = c.in_ok-values.values in
    subst (λ lists. IsTape inputs c.args.qubits (record { bits = lists; inputs = values })) (sym c.in_ok-lists_of.ensures) (tape_kept inputs c.args.qubits (view c.args.tape.now) values c.in_ok-values.ensures.fit)
