use Rattle.std.proofs.Common.{take}
use Rattle.std.specs.List.{flat_map}
use Rattle.outside.specs.Text.{GoesOn}
use Rattle.timeline_board.specs.Refused.{word_text}
use Rattle.timeline_board.proofs.refusals.put_words.Given as goal

abbrev pub invariant-loop-word : goal.invariant-loop-word
invariant-loop-word g l = GoesOn (g.K.Sink.state l.initial.sink) l.initial.page (g.K.Sink.state l.sink) l.page (flat_map word_text (take l.word-index l.words))
