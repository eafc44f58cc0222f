use Rattle.std.proofs.Common.{inr, length, sym, refl, ◌∙◌}
use Rattle.qs_lexer.proofs.FaultLemmas.{kind_excludes_wide}
use Rattle.qs_lexer.proofs.lexing.put.Goals as goal

pub returns-in-Err : goal.returns-in-Err
returns-in-Err c = inr (c.in-Err.ensures (length c.args.tokens.now))

pub returns-then-len-eq-MOST_TOKENS : goal.returns-then-len-eq-MOST_TOKENS
returns-then-len-eq-MOST_TOKENS c =
    let gives = rw c.in-Ok-Some.field-0-is at c.in-Ok-Some.ensures in
    inr (sym c.len.ensures ∙ c.if-len-eq-MOST_TOKENS.true, gives.0, kind_excludes_wide _ _ _ gives.1, refl)
