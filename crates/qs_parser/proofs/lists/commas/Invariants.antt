use Rattle.std.proofs.Common.{◌≡◌, ℕ, ◌-◌, drop, List}
use Rattle.qs_lexer.specs.declared.token.Token.{Token}
use Rattle.qs_parser.specs.steps.Asking.{ReadsAs}
use Rattle.qs_parser.specs.steps.Tokens.{Reads, after_commas, commas}
use Rattle.qs_parser.proofs.ItemByItem.{prepended}
use Rattle.qs_parser.proofs.lists.commas.Given as goal

abbrev pub invariant-loop-turn : goal.invariant-loop-turn
invariant-loop-turn g l =
    (reader : ℕ → List Token → Reads _) → ReadsAs (goal.F-post g l.fn.item) l.tokens reader
    → commas reader l.fn.left (drop l.fn.at l.tokens) ≡ prepended l.items (after_commas (l._turn-end - l._turn) reader l.left (drop l.at l.tokens))
