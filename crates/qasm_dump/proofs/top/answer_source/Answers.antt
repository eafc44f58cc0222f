use Rattle.qasm_dump.proofs.Naming.{refused-named}
use Rattle.qasm_dump.proofs.top.answer_source.Goals as goal

pub tell_refusal-requires : goal.tell_refusal-requires
tell_refusal-requires g c =
    let refuses = rw c.in-Err-Refused.field-0-is at c.in-Err-Refused.ensures in
    rw c.in-Err-Refused.refusal-is (refused-named c.args.pass c.args.source.now _ refuses)
