use Rattle.std.proofs.Common.{rules, tests, ◌≡◌, ◌∙◌, arith}
use Rattle.std.specs.Prelude.{min}
use Rattle.std.specs.List.{fold}
use Rattle.std.specs.Str.{chars}
use Rattle.std.proofs.lemmas.Iterator.{YieldsList-from_chars}
use Rattle.std.proofs.lemmas.Iterator.Consumers.{fold_from_yields_List}
use Rattle.qs_lexer.specs.Values.{with_digit}
use Rattle.qs_lexer.proofs.CutFolds.{cut_digits}
use Rattle.qs_lexer.proofs.digits.word_value.Goals as goal

pub returns : goal.returns
returns c =
    let text = chars c.args.text.now in
    let folded : c.fold.result ≡ fold (λ n d. min (with_digit c.args.base n d) 18446744073709551615) 0 text = fold_from_yields_List _ (λ n d. min (with_digit c.args.base n d) 18446744073709551615) 0 c.fold.result c.fold.ensures.ran (YieldsList-from_chars c.args.text.now c.utf8.text cc) (λ a x r q k. search (rules, tests)) in
    folded ∙ cut_digits c.args.base 18446744073709551615 (omega (arith, c.requires.least)) text
