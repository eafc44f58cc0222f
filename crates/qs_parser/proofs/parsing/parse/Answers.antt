use Rattle.std.proofs.Common.{◌+◌, ◌∷◌, ◌∙◌, ap, drop, length, sym}
use Rattle.std.proofs.Math.ListN.{drop_of_length-le}
use Rattle.std.proofs.lemmas.Bool.{ltb-false}
use Rattle.std.proofs.lemmas.List.{drop_more}
use Rattle.qs_parser.proofs.SourceRead.{refusal_parsed, tree_parsed}
use Rattle.qs_parser.proofs.parsing.parse.Goals as goal

pub returns-in-None : goal.returns-in-None
returns-in-None c =
    tree_parsed c.args.tokens.now _ (drop c.in_ok-body.at c.args.tokens.now) c.in_ok-version.version c.in_ok-body.body c.in_ok-version.ensures c.in_ok-body.ensures (drop_of_length-le c.args.tokens.now (ltb-false c.in_ok-body.at (length c.args.tokens.now) (sym c.in-None.ensures.lookup.0)))

pub returns-in_ok-refusal_of-in-Some : goal.returns-in_ok-refusal_of-in-Some
returns-in_ok-refusal_of-in-Some c =
    let tokens = c.args.tokens.now in
    let at = c.in_ok-body.at in
    let token = c.in-Some.token.now in
    let rest = drop (at + 1) tokens in
    refusal_parsed tokens _ (drop at tokens) c.in_ok-version.version c.in_ok-body.body token rest c.in_ok-refusal_of-in-Some.field-0 c.in_ok-version.ensures c.in_ok-body.ensures
    (drop_more tokens at token c.in-Some.ensures.lookup.3.0 ∙ ap (λ t. t ∷ rest) (sym c.in-Some.ensures.lookup.1)) c.in_ok-refusal_of-in-Some.ensures
