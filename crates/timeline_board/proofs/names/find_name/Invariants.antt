use Rattle.std.proofs.Common.{◌≡◌, map, drop}
use Rattle.timeline_board.specs.Refused.{name_in}
use Rattle.timeline_board.proofs.names.find_name.Given as goal

abbrev pub invariant-loop-number : goal.invariant-loop-number
invariant-loop-number l = name_in (map (λ n. (n.0, n.1.now)) (drop l.number-index l.names)) l.code ≡ name_in (map (λ n. (n.0, n.1.now)) l.names) l.code
