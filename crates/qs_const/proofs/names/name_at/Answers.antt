use Rattle.std.proofs.Common.{rules, sym, ◌∙◌, arith, Fits, w8}
use mir.Syntax.{w32}
use Rattle.std.proofs.lemmas.Int.{to_z_pos}
use Rattle.qs_const.proofs.NameLemmas.{comes_to_pi}
use Rattle.qs_const.proofs.names.name_at.Goals as goal

pub returns-in-Some : goal.returns-in-Some
returns-in-Some g c =
    let n = c.in-Some.n in
    let small : Fits w8 n = search rules in
    comes_to_pi (g.N.Names.scope c.args.names.now) c.args.span c.args.name.now n _ (sym c.times_pi.ensures ∙ c.in-Some.is) c.whole.ensures.num c.whole.ensures.den (c.whole-in-Some.ensures.num ∙ to_z_pos w32 n (omega arith)) c.whole-in-Some.ensures.den
