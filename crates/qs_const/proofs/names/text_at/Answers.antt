use Rattle.std.proofs.Common.{rules, ◌≡◌, Some}
use Rattle.qs_tree.specs.Texts.{bits_of}
use Rattle.qs_const.proofs.NameLemmas.{comes_to_digits}
use Rattle.qs_const.proofs.names.text_at.Goals as goal

pub returns-in-Some : goal.returns-in-Some
returns-in-Some c =
    let is : bits_of c.args.text.now ≡ Some c.in-Some.digits.text = search rules in
    comes_to_digits c.args.any c.args.span c.args.text.now c.in-Some.digits is
