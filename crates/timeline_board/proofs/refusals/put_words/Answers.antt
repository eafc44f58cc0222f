use Rattle.std.proofs.Common.{◌∙◌}
use Rattle.outside.proofs.Texts.{goes-as, goes-then}
use Rattle.timeline_board.specs.Refused.{word_text}
use Rattle.timeline_board.proofs.LineLemmas.{line-more}
use Rattle.timeline_board.proofs.refusals.put_words.Goals as goal

pub loop-word-preserved : goal.loop-word-preserved
loop-word-preserved g c =
    let word = goes-as c.text-in-loop-word.ensures (c.as_bytes.ensures.value ∙ c.as_str.ensures ∙ c.word-item.is) in
    goes-as (goes-then c.loop-word.invariant (goes-then c.text.ensures word))
    (line-more word_text c.args.words.now c.loop-word.word-index c.word-item.result c.loop-word-test.true)
