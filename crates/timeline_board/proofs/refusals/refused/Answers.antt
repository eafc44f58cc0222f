use Rattle.std.proofs.Common.{ℕ, List, Bor, ap, sym, ◌∙◌}
use Rattle.std.specs.Prelude.{option_map}
use Rattle.std.specs.List.{flat_map}
use Rattle.outside.proofs.Texts.{at-end, goes-as, goes-then}
use Rattle.timeline_board.specs.Refused.{word_text}
use Rattle.timeline_board.proofs.refusals.refused.Goals as goal

pub returns : goal.returns
returns g c =
    let to_place = goes-then (goes-then c.text.ensures c.number.ensures) c.put_place.ensures in
    let to_name = goes-then (goes-then to_place c.text-2.ensures) (goes-as c.text-3.ensures c.as_bytes.ensures.value) in
    let to_words = goes-then to_name (goes-as c.put_words.ensures (ap (flat_map word_text) c.as_slice.ensures)) in
    record {
      name = c.unwrap-name.result.now;
      named = sym c.name_of_code.ensures ∙ ap (option_map (λ (name : Bor (List ℕ)). name.now)) c.unwrap-name.ensures;
      text = c.finish.ensures _ _ (at-end _ _ _ _ _ c.new-page.ensures (goes-then to_words c.text-4.ensures));
    }
