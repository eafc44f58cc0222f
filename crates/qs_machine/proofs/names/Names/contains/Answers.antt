use Rattle.std.proofs.Common.{sym, ◌∙◌, string_bytes}
use Rattle.std.specs.Str.{bytes_eq}
use Rattle.qs_machine.proofs.NameLemmas.{list_any-map}
use Rattle.qs_machine.proofs.names.Names.contains.Goals as goal

pub returns : goal.returns
returns c = rw (← c.self.view_is) (c.contains.ensures ∙ sym (list_any-map (bytes_eq c.args.name.now) string_bytes _))
