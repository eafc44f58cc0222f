use Rattle.std.proofs.Common.{rules, ◌≡◌, None, ap, ◌∙◌}
use Rattle.std.proofs.lemmas.Map.Text.{hash_map_updates_str}
use Rattle.std.specs.HashMap.{get_by}
use Rattle.std.specs.Option.{option_copied}
use Rattle.std.specs.Str.{bytes_eq}
use Rattle.qs_tree.proofs.TableLemmas.{put_seen}
use Rattle.qs_tree.proofs.keys.put_first.Goals as goal

pub returns-in_ok-insert : goal.returns-in_ok-insert
returns-in_ok-insert g c = λ key.
    let absent : get_by (λ known. bytes_eq c.args.name.now known.now) c.args.values.now ≡ None = search rules in
    ap option_copied (hash_map_updates_str c.args.name.now c.args.values.now c.insert.new.self _ c.in_ok-insert.ensures.updates key)
    ∙ put_seen (λ name. get_by (λ known. bytes_eq name known.now) c.args.values.now) c.args.name.now key c.args.value absent
