use Rattle.std.proofs.Common.{◌≡◌, ℕ, List, drop}
use Rattle.std.specs.Option.{option_or}
use Rattle.qs_tree.specs.Keys.{value_at}
use Rattle.qs_tree.specs.Replacements.{replacement_in}
use Rattle.qs_tree.proofs.replacement.ReplacementTable.of.Given as goal

-- what the map has, and else what is left of the list, is what the list has
abbrev pub invariant-loop-pair : goal.invariant-loop-pair
invariant-loop-pair l = (name : List ℕ) → option_or (value_at l.by_name name) (replacement_in (drop l.pair-index l.pairs) name) ≡ replacement_in l.fn.pairs name
