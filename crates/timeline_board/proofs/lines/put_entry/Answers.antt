use Rattle.std.proofs.Common.{◌∙◌}
use Rattle.outside.proofs.Texts.{goes-as, goes-then}
use Rattle.timeline_board.proofs.lines.put_entry.Goals as goal

pub returns : goal.returns
returns g c =
    let to_tick = goes-then (goes-as c.text.ensures c.entry_word.ensures) c.number.ensures in
    let to_port = goes-then (goes-then to_tick c.text-2.ensures) (goes-as c.text-3.ensures (c.as_bytes.ensures.value ∙ c.port_name.ensures)) in
    let to_wave = goes-then (goes-then to_port c.text-4.ensures) (goes-as c.text-5.ensures (c.as_bytes-2.ensures.value ∙ c.wave_name.ensures)) in
    let to_phase = goes-then (goes-then to_wave c.text-6.ensures) c.number-2.ensures in
    let to_hz = goes-then (goes-then to_phase c.text-7.ensures) c.number-3.ensures in
    goes-then (goes-then to_hz c.put_bit.ensures) c.text-8.ensures
