-- The constants that an expression may name (OpenQASM 3.0, constants). This project's own.
use Rattle.std.specs.Prelude.{ℕ, List, Option}
use Rattle.std.specs.List.{find}
use Rattle.std.specs.Option.{option_map}
use Rattle.std.specs.Str.{bytes_eq}
use Rattle.qs_tree.specs.declared.constant.Const.{Const}
use Rattle.qs_tree.specs.declared.constant.ConstTable.{ConstTable}
use Rattle.qs_tree.specs.declared.constant.ConstVal.{ConstVal}
use Rattle.qs_tree.specs.Keys.{value_at}

-- the constant of a name: the first counts
abbrev pub constant_in : List Const → List ℕ → Option ConstVal
constant_in consts name = option_map (λ c. c.value) (find (λ c. bytes_eq c.name name) consts)

-- the constant of a name in a table
abbrev pub constant_at : ConstTable → List ℕ → Option ConstVal
constant_at table name = value_at table.values name
