-- What a `for` goes through is read where it is spelled.
use Rattle.std.proofs.Common.{◌≡◌, ℕ, true, codes, List, [], ◌∷◌, ◌++◌, map, option_map, Option, Some, None, refl, sym, ap, subst, ◌∙◌}
use Rattle.qs_values.specs.declared.span.Span.{Span}
use Rattle.qs_lexer.specs.declared.token.Token.{Token}
use Rattle.qs_lexer.specs.declared.token.TokenKind.TheVariants as kind
use Rattle.qs_tree.specs.declared.expr.Expr.{Expr}
use Rattle.qs_tree.specs.declared.expr.ExprKind.{ExprKind}
use Rattle.qs_tree.specs.declared.expr.ExprKind.TheOpen as layer
use Rattle.qs_tree.specs.declared.expr.TypeExpr.{TypeExpr}
use Rattle.qs_tree.specs.declared.gate.Call.{Call as Called}
use Rattle.qs_tree.specs.declared.gate.Modifier.{Modifier}
use Rattle.qs_tree.specs.declared.operand.Place.{Place}
use Rattle.qs_tree.specs.declared.operand.Operand.{Operand}
use Rattle.qs_tree.specs.declared.operand.Value.{Value}
use Rattle.qs_tree.specs.declared.pulse.Param.{Param}
use Rattle.qs_tree.specs.declared.pulse.Item.{Item}
use Rattle.qs_tree.specs.declared.statement.Body.{Body}
use Rattle.qs_tree.specs.declared.statement.Range.{Range, out-Range, roll-Range, roll-out-Range}
use Rattle.qs_tree.specs.declared.statement.Range.TheVariants.{Interval, Set, rolls-Interval, rolls-Set}
use Rattle.qs_tree.specs.declared.statement.Stmt.{Stmt}
use Rattle.qs_tree.specs.declared.statement.StmtKind.{StmtKind}
use Rattle.qs_tree.specs.Spelling.{Piece, Spells, if_there, in_square, sign, spell, spell_range, with_commas}
use Rattle.qs_tree.specs.WellFormed.{Features, all, both, if_there as if_there_features, in_brackets, is_some, of_expr, of_range}
use Rattle.qs_tree.proofs.Spelled.{spell-Interval, spell-Set}
use Rattle.qs_parser.specs.steps.Tokens.{◌>>=◌, Readers, after_sign, commas, renewed}
use Rattle.qs_parser.specs.steps.Statements.{interval_at, interval_end, range_at, set_at}
use Rattle.qs_parser.proofs.Featured.{features-Interval, features-Set}
use Rattle.qs_parser.proofs.TokenPieces.{after_sign_at, no_sign_after}
use Rattle.qs_parser.proofs.Complete.{ClosesExpr, Fits, IsComplete, IsCompleteBelow}
use Rattle.qs_parser.proofs.CompleteExprParts.{after_last, begins_other, close_brace, close_colon, close_comma, close_square, closes_at, complete-commas, complete-renewed, fits_as, fits_both, fits_nothing, fits_where, inside}
use Rattle.qs_parser.proofs.CompleteExprCases.{placed_empty, spells_as, unplaced}
use Rattle.qs_parser.proofs.CompleteStmtParts.{next, regroup}

-- ---- intervals

-- the step of an interval, with its colon
abbrev step_of : Option Expr → List Piece
step_of step = if_there (λ s. s ++ sign (codes ":")) (option_map spell step)

-- what stands after the first colon, where the readers one construct deeper are complete
bounds_read : (b : Readers) (d : ℕ) → IsComplete d b → (span : Span) (first : Expr) (step : Option Expr) (last : Expr) (renew left after : ℕ) (front rest : List Token) → Fits (both (if_there_features (option_map of_expr step)) (of_expr last)) d renew left after → Spells (step_of step ++ (spell last ++ sign (codes "]"))) front → (renewed renew (b.expr left (front ++ rest)) >>= λ second. interval_end b span first renew second.0 second.1 second.2) ≡ Some (Interval span first step last, after, rest)
unfolding interval_end
bounds_read b d h span first None last renew left after front rest f s =
    let fs = fits_both (if_there_features None) (of_expr last) d renew left after f in
    let n = next (spell last) (sign (codes "]")) front rest s in
    let r : renewed renew (b.expr left (front ++ rest)) ≡ Some (last, after, n.last ++ rest) = ap (λ (us : List Token). renewed renew (b.expr left us)) n.is ∙ complete-renewed d b h last renew left after n.first (n.last ++ rest) (subst (λ (m : ℕ). Fits (of_expr last) d renew m after) (sym (fits_nothing fs.first)) fs.second) n.spells_first (closes_at (codes "]") close_square 10 [] n.last rest n.spells_last) in
    let other : after_sign (codes ":") (n.last ++ rest) ≡ None = no_sign_after (codes ":") (n.last ++ rest) (begins_other (codes "]") (codes ":") [] n.last rest n.spells_last) in
    rw (r, interval_end, other, after_last (codes "]") n.last rest n.spells_last) refl
bounds_read b d h span first (Some step) last renew left after front rest f s =
    let fs = fits_both (of_expr step) (of_expr last) d renew left after f in
    let n = next (spell step) (sign (codes ":") ++ (spell last ++ sign (codes "]"))) front rest (regroup (spell step) (sign (codes ":")) (spell last ++ sign (codes "]")) front s) in
    let r : renewed renew (b.expr left (front ++ rest)) ≡ Some (step, fs.between, n.last ++ rest) = ap (λ (us : List Token). renewed renew (b.expr left us)) n.is ∙ complete-renewed d b h step renew left fs.between n.first (n.last ++ rest) fs.first n.spells_first (closes_at (codes ":") close_colon 10 (spell last ++ sign (codes "]")) n.last rest n.spells_last) in
    let one = after_sign_at (codes ":") (spell last ++ sign (codes "]")) n.last rest n.spells_last in
    let n2 = next (spell last) (sign (codes "]")) one.front rest one.spells in
    let r2 : renewed renew (b.expr fs.between (one.front ++ rest)) ≡ Some (last, after, n2.last ++ rest) = ap (λ (us : List Token). renewed renew (b.expr fs.between us)) n2.is ∙ complete-renewed d b h last renew fs.between after n2.first (n2.last ++ rest) fs.second n2.spells_first (closes_at (codes "]") close_square 10 [] n2.last rest n2.spells_last) in
    rw (r, interval_end, one.is, r2, after_last (codes "]") n2.last rest n2.spells_last) refl

interval_read : (span : Span) (first : Expr) (step : Option Expr) (last : Expr) (below : Option Readers) (d renew left after : ℕ) (front rest : List Token) → IsCompleteBelow d below → Fits (in_brackets (both (of_expr first) (both (if_there_features (option_map of_expr step)) (of_expr last)))) d renew left after → Spells ((spell first ++ sign (codes ":") ++ step_of step ++ spell last) ++ sign (codes "]")) front → interval_at below span renew left (front ++ rest) ≡ Some (Interval span first step last, after, rest)
unfolding interval_at
interval_read span first step last below d renew left after front rest h f s =
    let bounds : Features = both (if_there_features (option_map of_expr step)) (of_expr last) in
    let more : List Piece = step_of step ++ (spell last ++ sign (codes "]")) in
    let i = inside (both (of_expr first) bounds) d below renew left after h f in
    let fs = fits_both (of_expr first) bounds i.deeper renew left after i.fits in
    let s2 = regroup (spell first ++ sign (codes ":")) (step_of step) (spell last ++ sign (codes "]")) front (regroup (spell first ++ sign (codes ":") ++ step_of step) (spell last) (sign (codes "]")) front s) in
    let n = next (spell first) (sign (codes ":") ++ more) front rest (regroup (spell first) (sign (codes ":")) more front s2) in
    let r : renewed renew (i.readers.expr left (front ++ rest)) ≡ Some (first, fs.between, n.last ++ rest) = ap (λ (us : List Token). renewed renew (i.readers.expr left us)) n.is ∙ complete-renewed i.deeper i.readers i.complete first renew left fs.between n.first (n.last ++ rest) fs.first n.spells_first (closes_at (codes ":") close_colon 10 more n.last rest n.spells_last) in
    let one = after_sign_at (codes ":") more n.last rest n.spells_last in
    rw (interval_at, i.is, r, one.is) (bounds_read i.readers i.deeper i.complete span first step last renew fs.between after one.front rest fs.second one.spells)

-- ---- sets

set_read : (span : Span) (members : List Expr) (below : Option Readers) (d renew left after : ℕ) (front rest : List Token) → IsCompleteBelow d below → is_some (map of_expr members) ≡ true → Fits (in_brackets (all (map of_expr members))) d renew left after → Spells (with_commas (map spell members) ++ sign (codes "}")) front → set_at below span renew left (front ++ rest) ≡ Some (Set span members, after, rest)
unfolding set_at
set_read span members below d renew left after front rest h m f s =
    let i = inside (all (map of_expr members)) d below renew left after h f in
    let n = next (with_commas (map spell members)) (sign (codes "}")) front rest s in
    let ends : ClosesExpr (n.last ++ rest) = closes_at (codes "}") close_brace 10 [] n.last rest n.spells_last in
    let read : commas (λ l us. renewed renew (i.readers.expr l us)) left (front ++ rest) ≡ Some (members, after, n.last ++ rest) = ap (commas (λ l us. renewed renew (i.readers.expr l us)) left) n.is ∙ complete-commas spell of_expr ClosesExpr i.deeper renew (λ l us. renewed renew (i.readers.expr l us)) (λ e l a fr re g t c. complete-renewed i.deeper i.readers i.complete e renew l a fr re g t c) (λ ps fr re t. closes_at (codes ",") close_comma 10 ps fr re t) members left after n.first (n.last ++ rest) m i.fits n.spells_first ends (begins_other (codes "}") (codes ",") [] n.last rest n.spells_last) in
    rw (set_at, i.is, read, after_last (codes "}") n.last rest n.spells_last) refl

-- ---- ranges

data RangeCase : Range → Type 0 where
  is_interval : (span : Span) → (first : Expr) → (step : Option Expr) → (last : Expr) → RangeCase (Interval span first step last)
  is_set : (span : Span) → (members : List Expr) → RangeCase (Set span members)

range_layer : (l : layer.Range-F ExprKind Modifier Operand Value Item Param Body Range StmtKind Expr TypeExpr Called Place Stmt) → RangeCase (roll-Range l)
range_layer (layer.Interval span first step last) = subst RangeCase (sym (rolls-Interval span first step last)) (is_interval span first step last)
range_layer (layer.Set span members) = subst RangeCase (sym (rolls-Set span members)) (is_set span members)

range_case : (r : Range) → RangeCase r
range_case r = subst RangeCase (roll-out-Range r) (range_layer (out-Range r))

range_read : (r : Range) → RangeCase r → (below : Option Readers) (d renew left after : ℕ) (front rest : List Token) → IsCompleteBelow d below → Fits (of_range r) d renew left after → Spells (spell_range r) front → range_at below renew left (front ++ rest) ≡ Some (r, after, rest)
unfolding range_at
range_read _ (is_interval span first step last) below d renew left after [] rest h f s = absurd (placed_empty span (in_square (spell first ++ sign (codes ":") ++ step_of step ++ spell last)) (spells_as [] (spell-Interval span first step last) s))
range_read _ (is_interval span first step last) below d renew left after (t ∷ ts) rest h f s =
    let p = unplaced span (in_square (spell first ++ sign (codes ":") ++ step_of step ++ spell last)) t ts (spells_as (t ∷ ts) (spell-Interval span first step last) s) in
    let k : t.kind ≡ kind.Sign = p.1.0.0.0 in
    let e : t.text ≡ codes "[" = p.1.0.0.1 in
    rw (range_at, k, e, p.0) (interval_read span first step last below d renew left after ts rest h (fits_as (features-Interval span first step last) f) p.1.1)
range_read _ (is_set span members) below d renew left after [] rest h f s = absurd (placed_empty span (sign (codes "{") ++ with_commas (map spell members) ++ sign (codes "}")) (spells_as [] (spell-Set span members) s))
range_read _ (is_set span members) below d renew left after (t ∷ ts) rest h f s =
    let p = unplaced span (sign (codes "{") ++ with_commas (map spell members) ++ sign (codes "}")) t ts (spells_as (t ∷ ts) (spell-Set span members) s) in
    let k : t.kind ≡ kind.Sign = p.1.0.0.0 in
    let e : t.text ≡ codes "{" = p.1.0.0.1 in
    let g = fits_where (is_some (map of_expr members)) (fits_as (features-Set span members) f) in
    rw (range_at, k, e, p.0) (set_read span members below d renew left after ts rest h g.0 g.1 p.1.1)

pub complete-range_at : (r : Range) (below : Option Readers) (d renew left after : ℕ) (front rest : List Token) → IsCompleteBelow d below → Fits (of_range r) d renew left after → Spells (spell_range r) front → range_at below renew left (front ++ rest) ≡ Some (r, after, rest)
complete-range_at r below d renew left after front rest h f s = range_read r (range_case r) below d renew left after front rest h f s
