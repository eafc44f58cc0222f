use Rattle.std.proofs.Common.{◌≡◌, ℕ, List, drop}
use Rattle.std.specs.Option.{option_or}
use Rattle.qs_tree.specs.Constants.{constant_in}
use Rattle.qs_tree.specs.Keys.{value_at}
use Rattle.qs_tree.proofs.constant.Consts.table.Given as goal

-- what the map has, and else what is left of the list, is what the list has
abbrev pub invariant-loop-known : goal.invariant-loop-known
invariant-loop-known l = (name : List ℕ) → option_or (value_at l.values name) (constant_in (drop l.known-index l.fn.self.list) name) ≡ constant_in l.fn.self.list name
