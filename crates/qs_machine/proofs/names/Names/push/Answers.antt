use Rattle.std.proofs.Common.{rules, ◌∙◌, ap, string_bytes}
use Rattle.std.specs.List.{list_any}
use Rattle.std.specs.Str.{bytes_eq}
use Rattle.std.proofs.Common.{map}
use Rattle.qs_machine.proofs.NameLemmas.{pushed}
use Rattle.qs_machine.proofs.names.Names.push.Goals as goal

pub returns-clause-ok : goal.returns-clause-ok
returns-clause-ok c =
    let name = c.args.name.now in
    rw (← c.self.view_is) (ap (map string_bytes) c.in_ok-insert.ensures.keys ∙ pushed c.self.inside.held.keys c.in_ok-copy.copy name (search rules) (ap (λ ks. list_any (bytes_eq name) ks) c.self.view_is ∙ c.requires))
