use Rattle.std.proofs.Common.{length, ap, arith}
use Rattle.std.proofs.lemmas.Str.{chars-IsAscii}
use Rattle.qs_lexer.proofs.PlaceLemmas.{ascii_place}
use Rattle.qs_lexer.proofs.place.place_behind_piece.Goals as goal

pub overflow_cast-result : goal.overflow_cast-result
overflow_cast-result c =
    let same = ap length (chars-IsAscii c.args.text.now (c.requires.in_line c.if-in_line.true).0) in omega arith

pub overflow_add-result : goal.overflow_add-result
overflow_add-result c =
    let same = ap length (chars-IsAscii c.args.text.now (c.requires.in_line c.if-in_line.true).0) in omega arith

pub returns-then-in_line : goal.returns-then-in_line
returns-then-in_line c =
    let known = c.requires.in_line c.if-in_line.true in
    ascii_place c.args.place c.args.text.now known.0 known.1
