use Rattle.std.proofs.Common.{length}
use Rattle.std.specs.Str.{chars}
use Rattle.qs_lexer.proofs.FaultLemmas.{piece_fails}
use Rattle.qs_lexer.proofs.lexing.take.Goals as goal

pub returns-in-Err : goal.returns-in-Err
returns-in-Err c =
    let piece = c.args.piece in
    piece_fails c.args.first c.args.text.now c.args.tail.now (length c.args.tokens.now) c.args.place c.in-Err.refusal piece.shape (chars piece.text.now) (chars piece.after.now, c.requires.piece.longest, c.if-runs_out.ensures) c.in-Err.ensures
