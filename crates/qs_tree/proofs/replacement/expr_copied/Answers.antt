use Rattle.std.proofs.Common.{◌≡◌, IfOk, subst}
use Rattle.qs_tree.proofs.CopyLaw.{kept}
use Rattle.qs_tree.proofs.replacement.expr_copied.Goals as goal

pub returns : goal.returns
returns c = subst (λ e. IfOk c.substituted.result (λ copy. copy ≡ e)) (kept c.args.part.now) c.substituted.ensures
