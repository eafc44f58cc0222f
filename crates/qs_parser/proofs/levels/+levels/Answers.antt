use Rattle.std.proofs.Common.{◌≡◌, suc, ◌+◌, ◌-◌, ◌∙◌, Some, None, drop, sym, subst, arith}
use Rattle.qs_parser.specs.steps.Expressions.{bin_op_at, binary}
use Rattle.qs_parser.specs.steps.Knot.{below}
use Rattle.qs_parser.specs.steps.Strengths.{strength_at}
use Rattle.qs_parser.proofs.Exits.{gives_stop}
use Rattle.qs_parser.proofs.OperatorSteps.{chain_ends, chain_goes, chain_spent, chain_stops, chain_unread, level_passes, levels_stop, no_level, one_level}
use Rattle.qs_parser.proofs.levels.+levels.Goals as goal
use Rattle.qs_parser.proofs.levels.+levels.Goals.{binary-then-next-level+in_ok-read, binary-else-next-level}
use Rattle.qs_parser.proofs.Strengths.{other_strength_at}

pub binary-returns-in_err-item : goal.binary-returns-in_err-item
binary-returns-in_err-item g t c =
    gives_stop _ _ _ _ _ c.from_residual.ensures.1 c.in_err-item.ensures
    (λ e. levels_stop 0 c.args.levels c.args.levels (below c.args.deeper.now.depth) c.args.left (drop c.args.at c.args.deeper.now.tokens.now) (omega arith)
    (no_level (below c.args.deeper.now.depth) c.args.left (drop c.args.at c.args.deeper.now.tokens.now) ∙ e))

pub binary-returns-in_err-read : goal.binary-returns-in_err-read
binary-returns-in_err-read g t c =
    gives_stop _ _ _ _ _ c.from_residual-in_err-read.ensures.1 c.in_err-read.ensures
    (λ e. levels_stop (suc c.loop-level.level) (c.args.levels - suc c.loop-level.level) c.args.levels (below c.args.deeper.now.depth) c.args.left (drop c.args.at c.args.deeper.now.tokens.now)
    (omega (arith, c.loop-level-test.true))
    (one_level c.loop-level.level (below c.args.deeper.now.depth) c.args.left (drop c.args.at c.args.deeper.now.tokens.now) _ _ _ c.loop-level.invariant.0 ∙ e))

pub binary-loop-level-init : goal.binary-loop-level-init
binary-loop-level-init g t c = (no_level (below c.args.deeper.now.depth) c.args.left (drop c.args.at c.args.deeper.now.tokens.now) ∙ c.in_ok-item.ensures, c.strength_at-next.ensures)

pub binary-loop-level-preserved : goal.binary-loop-level-preserved
binary-loop-level-preserved g t c =
    let below_here = below c.args.deeper.now.depth in
    let tokens = c.args.deeper.now.tokens.now in
    let level = c.loop-level.level in
    let next : suc level ≡ level + 1 = omega arith in
    let here = drop c.args.at tokens in
    subst (λ n. (binary n below_here c.args.left here ≡ Some (c.if-next-level.item, c.if-next-level.left, drop c.if-next-level.at tokens)) × (c.if-next-level.next ≡ strength_at (drop c.if-next-level.at tokens))) next
    (elim c.if-next-level.branch [
      | binary-then-next-level+in_ok-read w ↦
          (rw (w.item-is, w.left-is, w.at-is) (one_level level below_here c.args.left here _ _ _ c.loop-level.invariant.0 ∙ w.in_ok-read.ensures), rw (w.at-is, w.next-is) w.strength_at-next-then-next-level.ensures)
      | binary-else-next-level w ↦
          let none : bin_op_at level (drop c.loop-level.at tokens) ≡ None = other_strength_at level (drop c.loop-level.at tokens) (λ e. w.if-next-level.false (c.loop-level.invariant.1 ∙ e)) in
          (rw (w.item-is, w.left-is, w.at-is) (level_passes level below_here c.args.left here _ _ _ c.loop-level.invariant.0 none), rw (w.at-is, w.next-is) c.loop-level.invariant.1)
    ])

pub binary-returns : goal.binary-returns
binary-returns g t c =
    let same : c.loop-level.level ≡ c.args.levels = omega (arith, c.loop-level-test.false, c.loop-level.auto.level-end) in
    rw (sym same) c.loop-level.invariant.0

pub chained-returns-in-None : goal.chained-returns-in-None
chained-returns-in-None g t c = chain_ends _ c.args.level (binary c.args.level (below c.args.deeper.now.depth)) c.loop-turn.item c.loop-turn.left (drop c.loop-turn.at c.args.deeper.now.tokens.now) _ c.loop-turn.invariant (sym c.in-None.ensures)

pub chained-returns-in_err-fewer : goal.chained-returns-in_err-fewer
chained-returns-in_err-fewer g t c =
    gives_stop _ _ _ _ _ c.from_residual.ensures.1 c.in_err-fewer.ensures
    (λ e. chain_stops _ c.args.level (binary c.args.level (below c.args.deeper.now.depth)) c.loop-turn.item c.loop-turn.left (drop c.loop-turn.at c.args.deeper.now.tokens.now) _ _ _ c.loop-turn.invariant (omega (arith, c.loop-turn-test.true)) (sym c.in-Some.ensures) e)

pub chained-returns-in_err-right : goal.chained-returns-in_err-right
chained-returns-in_err-right g t c =
    gives_stop _ _ _ _ _ c.from_residual-in_err-right.ensures.1 c.in_err-right.ensures
    (λ e. chain_unread _ c.args.level (binary c.args.level (below c.args.deeper.now.depth)) c.loop-turn.item c.loop-turn.left _ (drop c.loop-turn.at c.args.deeper.now.tokens.now) _ _ _ c.loop-turn.invariant (omega (arith, c.loop-turn-test.true)) (sym c.in-Some.ensures) c.in_ok-fewer.ensures e)

pub chained-loop-turn-preserved : goal.chained-loop-turn-preserved
chained-loop-turn-preserved g t c =
    chain_goes _ _ c.args.level (binary c.args.level (below c.args.deeper.now.depth)) c.loop-turn.item _ _ c.loop-turn.left _ _ (drop c.loop-turn.at c.args.deeper.now.tokens.now) _ _ _ _ c.loop-turn.invariant (omega (arith, c.loop-turn-test.true)) (sym c.in-Some.ensures) c.in_ok-fewer.ensures c.in_ok-right.ensures c.in_ok-item.ensures

pub chained-returns : goal.chained-returns
chained-returns g t c = chain_spent _ c.args.level (binary c.args.level (below c.args.deeper.now.depth)) c.loop-turn.item c.loop-turn.left (drop c.loop-turn.at c.args.deeper.now.tokens.now) _ c.loop-turn.invariant (omega (arith, c.loop-turn-test.false))
