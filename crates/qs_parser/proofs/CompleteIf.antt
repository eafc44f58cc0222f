-- An `if` is read where it is spelled, with its `else`, which belongs to the nearest one.
use Rattle.std.proofs.Common.{◌≡◌, ℕ, Bool, true, false, not, codes, List, [], ◌∷◌, ◌++◌, option_map, Option, Some, None, refl, ap, ◌∙◌}
use Rattle.qs_lexer.specs.declared.token.Token.{Token}
use Rattle.qs_tree.specs.declared.expr.Expr.{Expr}
use Rattle.qs_tree.specs.declared.statement.Body.{Body}
use Rattle.qs_tree.specs.declared.statement.StmtKind.{StmtKind}
use Rattle.qs_tree.specs.declared.statement.StmtKind.TheVariants.{If}
use Rattle.qs_tree.specs.Spelling.{Piece, Spells, if_there, in_round, spell, spell_body, spell_stmt_kind, word}
use Rattle.qs_tree.specs.WellFormed.{Features, both, if_there as if_there_features, in_brackets, is_nearest, of_body, of_expr, of_stmt_kind}
use Rattle.qs_tree.proofs.Spelled.{spell-If}
use Rattle.qs_parser.specs.steps.Tokens.{Readers, Reads, begins_word}
use Rattle.qs_parser.specs.steps.Expressions.{enclosed}
use Rattle.qs_parser.specs.steps.Statements.{body_at, else_at, if_at, stmt_of}
use Rattle.qs_parser.proofs.Featured.{features-If}
use Rattle.qs_parser.proofs.TokenPieces.{after_word_at, no_word_after}
use Rattle.qs_parser.proofs.Complete.{ClosesStmt, Fits, IsCompleteBelow}
use Rattle.qs_parser.proofs.CompleteExprParts.{close_round, complete-enclosed, fits_as, fits_both, fits_nothing, fits_where}
use Rattle.qs_parser.proofs.CompleteExprCases.{spells_as}
use Rattle.qs_parser.proofs.CompleteStmtParts.{next, regroup}
use Rattle.qs_parser.proofs.CompleteStmtSimple.{StmtRead, by_word}
use Rattle.qs_parser.proofs.CompleteNested.{complete-body_at}

-- ---- before an `else`

-- what stands before the body of an `if` is read, so that whatever is read as the body stands before the `else`
pub record IfRead (test : Expr) (b : Body) (other : Option Body) (below : Option Readers) (d renew after : ℕ) (rest : List Token) (read : Reads StmtKind) : Type 0 where
  pub between : ℕ
  pub later : ℕ
  pub mid : List Token
  pub last : List Token
  pub nearest : is_nearest (of_body b) (option_map of_body other) ≡ true
  pub fits : Fits (of_body b) d renew between later
  pub fits_other : Fits (if_there_features (option_map of_body other)) d renew later after
  pub spells : Spells (spell_body b) mid
  pub spells_other : Spells (if_there (λ o. word (codes "else") ++ o) (option_map spell_body other)) last
  pub gives : (y : Body × ℕ × List Token) → body_at below renew between (mid ++ (last ++ rest)) ≡ Some y → read ≡ else_at below test y.0 renew y.1 y.2

pub if_head : (test : Expr) (b : Body) (other : Option Body) (below : Option Readers) (d renew left after : ℕ) (front rest : List Token) → IsCompleteBelow d below → Fits (of_stmt_kind (If test b other)) d renew left after → Spells (in_round (spell test) ++ spell_body b ++ if_there (λ o. word (codes "else") ++ o) (option_map spell_body other)) front → IfRead test b other below d renew after rest (if_at below renew left (front ++ rest))
unfolding if_at
if_head test b other below d renew left after front rest h f t =
    let ends : List Piece = if_there (λ o. word (codes "else") ++ o) (option_map spell_body other) in
    let g = fits_where (is_nearest (of_body b) (option_map of_body other)) (fits_as (features-If test b other) f) in
    let f1 = fits_both (in_brackets (of_expr test)) (both (of_body b) (if_there_features (option_map of_body other))) d renew left after (record { follows = g.1.follows; depth = g.1.depth; spent = g.1.spent }) in
    let f2 = fits_both (of_body b) (if_there_features (option_map of_body other)) d renew f1.between after f1.second in
    let n1 = next (in_round (spell test)) (spell_body b ++ ends) front rest (regroup (in_round (spell test)) (spell_body b) ends front t) in
    let n2 = next (spell_body b) ends n1.last rest n1.spells_last in
    let r1 : enclosed (codes "(") (codes ")") below renew left (front ++ rest) ≡ Some (test, f1.between, n2.first ++ (n2.last ++ rest)) = ap (enclosed (codes "(") (codes ")") below renew left) n1.is ∙ complete-enclosed (codes "(") (codes ")") close_round test below d renew left f1.between n1.first (n1.last ++ rest) h f1.first n1.spells_first ∙ ap (λ (us : List Token). Some (test, f1.between, us)) n2.is in
    record { between = f1.between; later = f2.between; mid = n2.first; last = n2.last; nearest = g.0; fits = f2.first; fits_other = f2.second; spells = n2.spells_first; spells_other = n2.spells_last; gives = λ y e. rw (if_at, r1, e) refl }

-- ---- with the `else`

pub both_ways : (b : Bool) → b ≡ true → b ≡ false → ⊥
both_ways true e f = absurd cc
both_ways false e f = absurd cc

pub not_true : (b : Bool) → not b ≡ true → b ≡ false
not_true true e = absurd cc
not_true false e = refl

pub if_lacks_none : (test : Expr) (b : Body) → (of_stmt_kind (If test b None)).lacks_else ≡ true
if_lacks_none test b = ap (λ (f : Features). f.lacks_else) (features-If test b None)

pub if_lacks_some : (test : Expr) (b other : Body) → (of_stmt_kind (If test b (Some other))).lacks_else ≡ (of_body other).lacks_else
if_lacks_some test b other = ap (λ (f : Features). f.lacks_else) (features-If test b (Some other))

if_read : (test : Expr) (b : Body) (other : Option Body) (below : Option Readers) (d renew after : ℕ) (rest : List Token) (read : Reads StmtKind) → IsCompleteBelow d below → ClosesStmt (of_stmt_kind (If test b other)) rest → IfRead test b other below d renew after rest read → read ≡ Some (If test b other, after, rest)
unfolding else_at
if_read test b None below d renew after rest read h c r = from r.last r.spells_other r.gives
  where
    from : (last : List Token) → Spells [] last → ((y : Body × ℕ × List Token) → body_at below renew r.between (r.mid ++ (last ++ rest)) ≡ Some y → read ≡ else_at below test y.0 renew y.1 y.2) → read ≡ Some (If test b None, after, rest)
    from [] s g =
        let closes : begins_word (codes "else") rest ≡ false = c (if_lacks_none test b) in
        g (b, r.later, rest) (complete-body_at b below d renew r.between r.later r.mid rest h r.fits r.spells (λ e. closes)) ∙ rw (else_at, no_word_after (codes "else") rest closes, fits_nothing r.fits_other) refl
    from (t ∷ ts) s g = absurd s
if_read test b (Some other) below d renew after rest read h c r =
    let ends : (of_body b).lacks_else ≡ false = not_true (of_body b).lacks_else r.nearest in
    let one = after_word_at (codes "else") (spell_body other) r.last rest r.spells_other in
    let r1 = complete-body_at b below d renew r.between r.later r.mid (r.last ++ rest) h r.fits r.spells (λ e. absurd (both_ways (of_body b).lacks_else e ends)) in
    let r2 = complete-body_at other below d renew r.later after one.front rest h r.fits_other one.spells (λ e. c (if_lacks_some test b other ∙ e)) in
    r.gives (b, r.later, r.last ++ rest) r1 ∙ rw (else_at, one.is, ends, r2) refl

pub read-if : (test : Expr) (b : Body) (other : Option Body) (below : Option Readers) (d renew left after : ℕ) (front rest : List Token) → IsCompleteBelow d below → Fits (of_stmt_kind (If test b other)) d renew left after → Spells (spell_stmt_kind (If test b other)) front → ClosesStmt (of_stmt_kind (If test b other)) rest → StmtRead (If test b other) below renew left after front rest
unfolding stmt_of
read-if test b other below d renew left after front rest h f t c =
    by_word (codes "if") (in_round (spell test) ++ spell_body b ++ if_there (λ o. word (codes "else") ++ o) (option_map spell_body other)) (If test b other) below renew left after front rest (spells_as front (spell-If test b other) t) (λ last every u. if_read test b other below d renew after rest (if_at below renew left (last ++ rest)) h c (if_head test b other below d renew left after last rest h f u))
