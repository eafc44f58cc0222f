use Rattle.std.proofs.Common.{subst, refl}
use Rattle.qs_const.specs.declared.judgement.Judgement.TheVariants.{Absent}
use Rattle.qs_const.specs.Folding.{scope_of}
use Rattle.qs_const.specs.Judging.{ComesTo}
use Rattle.qs_const.specs.Trees.{tree_of}
use Rattle.qs_const.proofs.FoldLemmas.{has_fault, has_rule, judged_by_list}
use Rattle.qs_const.proofs.folding.fold.Goals as goal

pub returns-in-Value : goal.returns-in-Value
returns-in-Value c =
    let comes = judged_by_list c.args.e.now c.in_ok-table.table c.args.consts.now.list _ c.in_ok-table.ensures c.in_ok-value.ensures in
    subst (ComesTo (scope_of c.args.consts.now.list) (tree_of c.args.e.now)) c.in-Value.is comes

pub refusal_of-requires : goal.refusal_of-requires
refusal_of-requires c =
    let comes = subst (ComesTo (scope_of c.args.consts.now.list) (tree_of c.args.e.now)) c.in-Absent.is (judged_by_list c.args.e.now c.in_ok-table.table c.args.consts.now.list _ c.in_ok-table.ensures c.in_ok-value.ensures) in
    has_rule c.args.e.now c.args.consts.now c.in-Absent.absent c.in-Some.fault c.requires comes c.in-Some.is

pub returns-in-Some : goal.returns-in-Some
returns-in-Some c =
    let comes = subst (ComesTo (scope_of c.args.consts.now.list) (tree_of c.args.e.now)) c.in-Absent.is (judged_by_list c.args.e.now c.in_ok-table.table c.args.consts.now.list _ c.in_ok-table.ensures c.in_ok-value.ensures) in
    rw c.refusal_of.ensures (Absent c.in-Absent.absent, c.in-Some.fault, comes, c.in-Some.is, refl)

pub unreachable-requires : goal.unreachable-requires
unreachable-requires c =
    let comes = subst (ComesTo (scope_of c.args.consts.now.list) (tree_of c.args.e.now)) c.in-Absent.is (judged_by_list c.args.e.now c.in_ok-table.table c.args.consts.now.list _ c.in_ok-table.ensures c.in_ok-value.ensures) in
    has_fault c.args.e.now c.args.consts.now c.in-Absent.absent c.requires comes c.in-None.is
