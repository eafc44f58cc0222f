use Rattle.std.proofs.Common.{refl, subst, sym}
use Rattle.std.specs.Str.{chars}
use Rattle.qs_lexer.specs.declared.token.TokenKind.TheVariants.{Decimal, Time}
use Rattle.qs_lexer.specs.Values.{KindIs}
use Rattle.qs_lexer.proofs.value.kind_of.Goals as goal

pub returns-in_ok-cut-in-Decimal : goal.returns-in_ok-cut-in-Decimal
returns-in_ok-cut-in-Decimal c =
    let number = c.in_ok-cut-in-Decimal.field-0 in
    subst (λ shape. KindIs shape (chars c.args.text.now) (Decimal number)) (sym c.in-Decimal.is) (number, c.in_ok-cut-in-Decimal.ensures, refl)

pub returns-in_ok-cut-in-Time : goal.returns-in_ok-cut-in-Time
returns-in_ok-cut-in-Time c =
    let number = c.in_ok-cut-in-Time.field-0 in
    subst (λ shape. KindIs shape (chars c.args.text.now) (Time number c.in-Time.unit)) (sym c.in-Time.is) (number, c.in_ok-cut-in-Time.ensures, refl)
