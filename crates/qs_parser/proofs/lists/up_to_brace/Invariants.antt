use Rattle.std.proofs.Common.{◌≡◌, ℕ, ◌-◌, drop, length, List}
use Rattle.qs_lexer.specs.declared.token.Token.{Token}
use Rattle.qs_parser.specs.steps.Asking.{ReadsAs}
use Rattle.qs_parser.specs.steps.Tokens.{Reads, up_to_brace}
use Rattle.qs_parser.proofs.ItemByItem.{prepended}
use Rattle.qs_parser.proofs.lists.up_to_brace.Given as goal

abbrev pub invariant-loop-turn : goal.invariant-loop-turn
invariant-loop-turn g l =
    (reader : ℕ → List Token → Reads _) → ReadsAs (goal.F-post g l.fn.item) l.tokens reader
    → up_to_brace (length (drop l.fn.at l.tokens)) reader l.fn.left (drop l.fn.at l.tokens) ≡ prepended l.items (up_to_brace (l._turn-end - l._turn) reader l.left (drop l.at l.tokens))
