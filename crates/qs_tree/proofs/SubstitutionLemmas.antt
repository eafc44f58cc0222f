-- Where nothing is put in, all stays.
use Rattle.std.proofs.Common.{◌≡◌, ℕ, List, ap}
use Rattle.qs_tree.specs.declared.expr.ExprKind.TheVariants.{outs-Name}
use Rattle.qs_tree.specs.Replacements.{put_nothing}
use Rattle.qs_tree.specs.Substitution.{layer_name_or, renamed}

-- a name stays before an index and at a place
pub renamed_nothing : (name : List ℕ) → renamed put_nothing name ≡ name
renamed_nothing name = ap (layer_name_or name) (outs-Name name)
