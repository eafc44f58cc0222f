use Rattle.std.proofs.lemmas.Result.{err_from_is_err_and}
use Rattle.qs_machine.proofs.Exits.{bind_err}
use Rattle.qs_machine.proofs.forms.needed_whole.Goals as goal

pub returns-in_err-value : goal.returns-in_err-value
returns-in_err-value c =
    let p = err_from_is_err_and c.from_residual.result c.from_residual.ensures.1 in
    let q = p.2 in
    let r = c.in_err-value.ensures in
    rw (p.1, p.2) (bind_err _ _ _ r)
