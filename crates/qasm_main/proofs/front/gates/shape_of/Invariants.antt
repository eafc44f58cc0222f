use Rattle.std.proofs.Common.{◌≡◌, ◌+◌, drop}
use Rattle.std.specs.List.{find, position_or_len}
use Rattle.std.specs.Str.{bytes_eq}
use Rattle.qs_machine.specs.declared.machine.Wave.{Wave}
use Rattle.qasm_main.proofs.front.gates.shape_of.Given as goal

abbrev pub invariant-loop-wave : goal.invariant-loop-wave
invariant-loop-wave l =
    let is : Wave → _ = λ wave. bytes_eq wave.name l.name in
    (l.number ≡ l.wave-index)
    × (l.number + position_or_len is (drop l.wave-index l.waves) ≡ position_or_len is l.waves)
    × (find is (drop l.wave-index l.waves) ≡ find is l.waves)
