-- An expression comes to one thing. This project's own.
use Rattle.std.specs.Prelude.{◌≡◌}
use Rattle.qs_const.specs.declared.judgement.Judgement.{Judgement}
use Rattle.qs_const.specs.Judging.{ComesTo}
use Rattle.qs_const.specs.Scopes.{Scope}
use Rattle.qs_const.specs.Trees.{Tree}

-- It comes to at most one value, or is without one, with one first cause or none and the same kinds.
abbrev pub ComesToOne : Type 0
ComesToOne = (scope : Scope) (tree : Tree) (one other : Judgement) → ComesTo scope tree one → ComesTo scope tree other → one ≡ other
