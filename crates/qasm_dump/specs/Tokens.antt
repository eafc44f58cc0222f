-- The text of tokens, a line each. This project's own.
use Rattle.std.specs.Prelude.{List, ℕ, ◌++◌, codes, decimal}
use Rattle.std.specs.Fmt.{signed_decimal}
use Rattle.std.specs.List.{flat_map}
use Rattle.qs_values.specs.declared.number.Frac.{Frac}
use Rattle.qs_values.specs.declared.span.Span.{Span}
use Rattle.qs_lexer.specs.declared.token.Unit.{Unit}
use Rattle.qs_lexer.specs.declared.token.Unit.TheVariants.{Dt, Ns, Us, Ms, S}
use Rattle.qs_lexer.specs.declared.token.TokenKind.{TokenKind}
use Rattle.qs_lexer.specs.declared.token.TokenKind.TheVariants.{Word, Physical, Whole, Decimal, Time, Text, Sign}
use Rattle.qs_lexer.specs.declared.token.Token.{Token}

-- a line and a column
abbrev pub span_text : Span → List ℕ
span_text span = decimal span.line ++ codes ":" ++ decimal span.col

-- a fraction by its two parts
abbrev pub frac_text : Frac → List ℕ
frac_text value = signed_decimal value.num ++ codes "/" ++ signed_decimal value.den

-- the letters of a unit
abbrev pub unit_text : Unit → List ℕ
unit_text Dt = codes "dt"
unit_text Ns = codes "ns"
unit_text Us = codes "us"
unit_text Ms = codes "ms"
unit_text S = codes "s"

-- the word of a kind, and its value where it has one
abbrev pub kind_text : TokenKind → List ℕ
kind_text Word = codes "word"
kind_text (Physical number) = codes "physical " ++ decimal number
kind_text (Whole number) = codes "whole " ++ decimal number
kind_text (Decimal value) = codes "decimal " ++ frac_text value
kind_text (Time value unit) = codes "time " ++ frac_text value ++ codes " " ++ unit_text unit
kind_text Text = codes "text"
kind_text Sign = codes "sign"

-- the line of a token: its place, its kind and its characters
abbrev pub token_line : Token → List ℕ
token_line token = span_text token.span ++ codes " " ++ kind_text token.kind ++ codes " " ++ token.text ++ codes "\n"

-- the lines of tokens
abbrev pub tokens_text : List Token → List ℕ
tokens_text tokens = flat_map token_line tokens
