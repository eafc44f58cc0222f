use Rattle.std.proofs.Common.{inl, subst}
use Rattle.qasm_dump.specs.Answer.{Finishes, read_failed, told}
use Rattle.qasm_dump.proofs.top.answer_file.Goals as goal

pub returns-in-Err-Failed : goal.returns-in-Err-Failed
returns-in-Err-Failed g c =
    let fault = rw c.in-Err-Failed.field-0-is at c.in-Err-Failed.ensures in
    let old = g.K.Sink.state c.args.sink.now in
    let new = g.K.Sink.state c.tell.new.sink in
    let tells = subst (λ name. Finishes old new (told 4 (read_failed name)) c.tell.result) c.as_bytes.ensures.value c.tell.ensures in
    inl (record { rose = fault.0; failed = fault.1; told = tells })
