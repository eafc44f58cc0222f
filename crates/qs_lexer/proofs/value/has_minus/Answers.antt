use Rattle.std.proofs.Common.{◌≡◌, ◌∙◌, ap, sym, Some}
use Rattle.std.specs.Prelude.{nat_eq}
use Rattle.std.specs.List.{slice_get}
use Rattle.std.specs.Option.{option_eq, option_map}
use Rattle.std.specs.Str.{chars}
use Rattle.std.proofs.lemmas.Iterator.{YieldsList-from_chars}
use Rattle.std.proofs.lemmas.Iterator.Adapters.{option_map_id}
use Rattle.std.proofs.lemmas.Iterator.Consumers.{nth_from_yields_List}
use Rattle.qs_lexer.proofs.WholeNumbers.{second_minus}
use Rattle.qs_lexer.proofs.value.has_minus.Goals as goal

pub returns : goal.returns
returns c =
    let rest = chars c.args.rest.now in
    let second : option_map (λ d. d) c.nth.result ≡ slice_get rest 1 = nth_from_yields_List c.nth.result _ 1 c.nth.ensures.ran (YieldsList-from_chars c.args.rest.now c.utf8.rest cc) in
    c.eq.ensures ∙ ap (λ o. option_eq nat_eq o (Some 45)) (sym (option_map_id c.nth.result) ∙ second) ∙ second_minus rest
