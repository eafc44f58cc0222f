use Rattle.std.proofs.Common.{rules, arith, ◌≡◌, ◌∷◌, drop, ◌+◌, ◌∙◌, ap, Some, None, if◌then◌else◌}
use Rattle.std.proofs.lemmas.Grind.{common_steps}
use Rattle.std.specs.Option.{option_or}
use Rattle.std.specs.Str.{bytes_eq}
use Rattle.qs_tree.specs.Constants.{constant_in}
use Rattle.qs_tree.specs.Keys.{value_at}
use Rattle.qs_tree.proofs.TableLemmas.{constant_in_cons, next_value}
use Rattle.qs_tree.proofs.constant.Consts.table.Goals as goal

pub loop-known-preserved : goal.loop-known-preserved
loop-known-preserved c = λ name.
    let list = c.args.self.now.list in
    let known = c.known-item.result in
    let rest = drop (c.loop-known.known-index + 1) list in
    let front : drop c.loop-known.known-index list ≡ known ∷ rest = grind (arith, common_steps, c.known-item.is) in
    let first : constant_in (drop c.loop-known.known-index list) name ≡ (if bytes_eq name known.name then Some known.value else constant_in rest name) = ap (λ cs. constant_in cs name) front ∙ constant_in_cons known rest name in
    let put : value_at c.put_first.new.values name ≡ option_or (value_at c.loop-known.values name) (if bytes_eq name known.name then Some known.value else None) = search rules in
    next_value (value_at c.loop-known.values name) (value_at c.put_first.new.values name) (bytes_eq name known.name) known.value (constant_in rest name) (constant_in list name)
    put (rw first at (c.loop-known.invariant name))
