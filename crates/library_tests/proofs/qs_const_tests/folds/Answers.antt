use Rattle.std.proofs.Common.{rules, ◌≢◌}
use Rattle.qs_const.specs.declared.cause.Cause.TheVariants.{NoRule}
use Rattle.qs_const.proofs.FoldLemmas.{judged_by_list}
use Rattle.qs_const.proofs.OneJudgement.{foldable}
use Rattle.library_tests.proofs.qs_const_tests.folds.Goals as goal

pub fold-answer-requires : goal.fold-answer-requires
fold-answer-requires c =
    let comes = judged_by_list c.args.e.now c.in_ok-table.table c.args.consts.now.list _ c.in_ok-table.ensures c.in_ok-absent.ensures in
    foldable c.args.e.now c.args.consts.now c.in_ok-absent.field-0 comes (rw c.in-Value.is tt)

pub fold-requires : goal.fold-requires
fold-requires c =
    let comes = judged_by_list c.args.e.now c.in_ok-table.table c.args.consts.now.list _ c.in_ok-table.ensures c.in_ok-absent.ensures in
    let typed : c.in-Some.fault.cause ≢ NoRule = search rules in
    foldable c.args.e.now c.args.consts.now c.in_ok-absent.field-0 comes (rw c.in-Absent.is (c.in-Some.fault, c.in-Some.is, typed))
