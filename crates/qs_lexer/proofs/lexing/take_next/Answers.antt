use Rattle.std.proofs.Common.{inr, refl}
use Rattle.qs_lexer.proofs.TextLemmas.{empty_from_chars}
use Rattle.qs_lexer.proofs.lexing.take_next.Goals as goal

pub returns-in-None : goal.returns-in-None
returns-in-None c = inr (λ e. c.requires.some (empty_from_chars _ c.utf8.text e), c.in-None.ensures.piece, refl)
