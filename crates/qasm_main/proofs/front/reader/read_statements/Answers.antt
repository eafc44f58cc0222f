use Rattle.std.proofs.Common.{◌+◌, ◌∷◌, arith, ap, drop, sym, ◌∙◌}
use Rattle.std.proofs.lemmas.List.{drop_all, drop_more}
use Rattle.qasm_main.proofs.ReaderLemmas.{one-more, reads-all, reads-most, reads-none}
use Rattle.qasm_main.proofs.front.reader.read_statements.Goals as goal

pub returns-then-left-eq0-clause-reads : goal.returns-then-left-eq0-clause-reads
returns-then-left-eq0-clause-reads c =
    let stmts = c.args.stmts.now in
    let i = c.loop-stmt.stmt-index in
    let stmt = c.stmt-item.result in
    let is = drop_more stmts i stmt c.loop-stmt-test.true ∙ ap (λ x. x ∷ drop (i + 1) stmts) (sym c.stmt-item.is) in
    (_, reads-most c.loop-stmt.invariant stmt _ is c.if-left-eq0.true, c.refusal_at.ensures)

pub returns-in_default-clause-reads : goal.returns-in_default-clause-reads
returns-in_default-clause-reads c =
    let stmts = c.args.stmts.now in
    let i = c.loop-stmt.stmt-index in
    let stmt = c.stmt-item.result in
    let is = drop_more stmts i stmt c.loop-stmt-test.true ∙ ap (λ x. x ∷ drop (i + 1) stmts) (sym c.stmt-item.is) in
    let none = rw c.in_default.is at c.in_ok-statement.ensures.value in
    (_, reads-none c.loop-stmt.invariant stmt _ is none, c.refusal_at-in_default.ensures)

pub loop-stmt-preserved : goal.loop-stmt-preserved
loop-stmt-preserved c =
    let stmts = c.args.stmts.now in
    let i = c.loop-stmt.stmt-index in
    let stmt = c.stmt-item.result in
    let is = drop_more stmts i stmt c.loop-stmt-test.true ∙ ap (λ x. x ∷ drop (i + 1) stmts) (sym c.stmt-item.is) in
    let some = rw c.in-Some.is at c.in_ok-statement.ensures.value in
    let formed = rw c.in-Some.is at c.in_ok-statement.ensures.formed in
    one-more c.loop-stmt.invariant stmt _ is c.in-Some.statement some formed (omega (arith, c.if-left-eq0.false)) c.push.new.self c.in_ok-push.ensures.ok

pub returns-clause-reads : goal.returns-clause-reads
returns-clause-reads c = reads-all c.loop-stmt.invariant (drop_all c.loop-stmt.stmt-index c.args.stmts.now c.loop-stmt-test.false)
