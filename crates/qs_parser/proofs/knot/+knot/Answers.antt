use Rattle.std.proofs.Common.{drop}
use Rattle.qs_parser.specs.steps.Expressions.{expr_at, unary}
use Rattle.qs_parser.specs.steps.Statements.{block_at, nested_at, stmt_at}
use Rattle.qs_parser.specs.steps.Knot.{below}
use Rattle.qs_parser.proofs.Deeper.{asked_block, asked_expr, asked_nested, asked_stmt, asked_unary, knot_answered, none_answered}
use Rattle.qs_parser.proofs.knot.+knot.Goals as goal

pub closure-returns-then-depth-eq0 : goal.closure-returns-then-depth-eq0
closure-returns-then-depth-eq0 t c = none_answered c.captures.depth c.args.ask c.captures.tokens.now c.if-depth-eq0.true

pub closure-returns : goal.closure-returns
closure-returns t c = knot_answered c.captures.depth c.captures.tokens.now c.args.ask c.read.result c.if-depth-eq0.false c.read.ensures

pub returns-in-Expression : goal.returns-in-Expression
returns-in-Expression t c =
    rw (asked_expr (below c.args.depth) c.args.ask c.args.tokens.now c.in-Expression.is)
    (c.expr_tree.ensures c.args.tokens.now (expr_at (below c.args.depth) c.args.ask.left (drop c.args.ask.at c.args.tokens.now)) c.expr_at.ensures)

pub returns-in-Unary : goal.returns-in-Unary
returns-in-Unary t c =
    rw (asked_unary (below c.args.depth) c.args.ask c.args.tokens.now c.in-Unary.is)
    (c.expr_tree-in-Unary.ensures c.args.tokens.now (unary c.args.ask.left (below c.args.depth) c.args.ask.left (drop c.args.ask.at c.args.tokens.now)) c.unary.ensures)

pub returns-in-Statement : goal.returns-in-Statement
returns-in-Statement t c =
    rw (asked_stmt (below c.args.depth) c.args.ask c.args.tokens.now c.in-Statement.is)
    (c.stmt_tree.ensures c.args.tokens.now (stmt_at (below c.args.depth) c.args.ask.renew c.args.ask.left (drop c.args.ask.at c.args.tokens.now)) c.stmt_at.ensures)

pub returns-in-Nested : goal.returns-in-Nested
returns-in-Nested t c =
    rw (asked_nested (below c.args.depth) c.args.ask c.args.tokens.now c.in-Nested.is)
    (c.stmt_tree-in-Nested.ensures c.args.tokens.now (nested_at (below c.args.depth) c.args.ask.renew c.args.ask.left (drop c.args.ask.at c.args.tokens.now)) c.nested_at.ensures)

pub returns-in-Block : goal.returns-in-Block
returns-in-Block t c =
    rw (asked_block (below c.args.depth) c.args.ask c.args.tokens.now c.in-Block.is)
    (c.stmts_tree.ensures c.args.tokens.now (block_at (below c.args.depth) c.args.ask.renew c.args.ask.left (drop c.args.ask.at c.args.tokens.now)) c.block_at.ensures)
