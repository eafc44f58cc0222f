use Rattle.std.proofs.Common.{subst, sym, ◌∙◌}
use Rattle.timeline_board.specs.steps.Merging.{IsFirstOf}
use Rattle.timeline_board.proofs.Heads.{first-earlier, first-empty, first-kept, first-new}
use Rattle.timeline_board.proofs.head.earlier.Goals as goal

pub returns-in_default : goal.returns-in_default
returns-in_default c lefts left is at here = first-empty lefts c.args.log c.args.first left is at (sym c.in_default.is ∙ here)

pub returns-in_default-first : goal.returns-in_default-first
returns-in_default-first c lefts left is at here =
    first-new lefts c.args.log c.in-Some.entry left (subst (IsFirstOf lefts c.args.log) c.in_default-first.is is) at (sym c.in-Some.is ∙ here)

pub returns-then-comes_before : goal.returns-then-comes_before
returns-then-comes_before c lefts left is at here =
    first-earlier lefts c.args.log c.in-Some-first.head c.in-Some.entry left (subst (IsFirstOf lefts c.args.log) c.in-Some-first.is is) at (sym c.in-Some.is ∙ here)
    (sym c.comes_before.ensures ∙ c.if-comes_before.true)

pub returns-else-comes_before : goal.returns-else-comes_before
returns-else-comes_before c lefts left is at here =
    first-kept lefts c.args.log c.in-Some-first.head c.in-Some.entry left (subst (IsFirstOf lefts c.args.log) c.in-Some-first.is is) at (sym c.in-Some.is ∙ here)
    (sym c.comes_before.ensures ∙ c.if-comes_before.false)
