use Rattle.std.proofs.Common.{sym}
use Rattle.qs_lexer.proofs.LongestLemmas.{none_begins}
use Rattle.qs_lexer.proofs.PieceLemmas.{cut_requires, piece_begins}
use Rattle.qs_lexer.proofs.scan.any_piece.Goals as goal

pub returns-in_err-shape-clause-piece : goal.returns-in_err-shape-clause-piece
returns-in_err-shape-clause-piece c =
    let none = rw c.in_err-shape.was at c.longest.ensures.value in
    rw c.from_residual.ensures (none_begins _ _ (sym none))

pub split_at-requires : goal.split_at-requires
split_at-requires c = cut_requires _ _ c.in_ok-shape.ensures.behind

pub returns-clause-piece : goal.returns-clause-piece
returns-clause-piece c = piece_begins _ _ _ _ _ c.in_ok-shape.ensures.behind (sym c.in_ok-shape.ensures.value) c.split_at.ensures.front
