-- What a list of pairs, or a table of them, puts in for names. This project's own.
use Rattle.std.specs.Prelude.{ℕ, List, Option, None}
use Rattle.std.specs.List.{find}
use Rattle.std.specs.Option.{option_map}
use Rattle.std.specs.Str.{bytes_eq}
use Rattle.qs_tree.specs.declared.expr.Expr.{Expr}
use Rattle.qs_tree.specs.declared.replacement.Replacement.{Replacement}
use Rattle.qs_tree.specs.declared.replacement.ReplacementTable.{ReplacementTable}
use Rattle.qs_tree.specs.Keys.{value_at}
use Rattle.qs_tree.specs.Substitution.{PutIn}

-- nothing is put in: every name stays
abbrev pub put_nothing : PutIn
put_nothing name = None

-- the expression that is put in for a name: of two with one name the first counts
abbrev pub replacement_in : List Replacement → List ℕ → Option Expr
replacement_in pairs name = option_map (λ pair. pair.by.now) (find (λ pair. bytes_eq pair.name.now name) pairs)

-- what an expression is, without its place
abbrev pub put_by : (List ℕ → Option Expr) → PutIn
put_by known name = option_map (λ e. e.kind) (known name)

-- what a list of pairs puts in
abbrev pub put_in_list : List Replacement → PutIn
put_in_list pairs = put_by (replacement_in pairs)

-- what a table puts in
abbrev pub put_at : ReplacementTable → PutIn
put_at table = put_by (value_at table.by_name)
