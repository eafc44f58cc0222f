use Rattle.std.proofs.Common.{◌≡◌, IfOk, subst}
use Rattle.qs_tree.proofs.CopyLaw.{kind_kept}
use Rattle.qs_tree.proofs.replacement.kind_copied.Goals as goal

pub returns : goal.returns
returns c = subst (λ k. IfOk c.kind_substituted.result (λ copy. copy ≡ k)) (kind_kept c.args.part.now) c.kind_substituted.ensures
