-- Statements are read where they are spelled.
use Rattle.std.proofs.Common.{◌≡◌, ℕ, true, List, [], ◌∷◌, ◌++◌, Option, Some, refl, sym, ap, subst, ◌∙◌}
use Rattle.qs_lexer.specs.declared.token.Token.{Token}
use Rattle.qs_lexer.specs.declared.token.TokenKind.TheVariants as kind
use Rattle.qs_tree.specs.declared.statement.Stmt.{Stmt}
use Rattle.qs_tree.specs.Spelling.{Spells, at_place, spell_stmt, spell_stmt_kind}
use Rattle.qs_tree.specs.WellFormed.{Features, may_nest, of_stmt}
use Rattle.qs_tree.proofs.Spelled.{spell-Stmt}
use Rattle.qs_parser.specs.steps.Tokens.{Readers, has_word}
use Rattle.qs_parser.specs.steps.Statements.{stmt_at, stmt_of}
use Rattle.qs_parser.proofs.Featured.{features-Stmt}
use Rattle.qs_parser.proofs.Complete.{ClosesStmt, Fits, IsCompleteBelow}
use Rattle.qs_parser.proofs.CompleteExprParts.{fits_as}
use Rattle.qs_parser.proofs.CompleteExprCases.{placed_empty, spells_as, unplaced}
use Rattle.qs_parser.proofs.CompleteStmtSimple.{StmtRead}
use Rattle.qs_parser.proofs.CompleteStmtCases.{stmt_case_of}
use Rattle.qs_parser.proofs.CompleteStmtChoice.{read-stmt_kind}

pub head_same : (t u : Token) (ts us : List Token) → t ∷ ts ≡ u ∷ us → t ≡ u
head_same t u ts us e = cc

pub tail_same : (t u : Token) (ts us : List Token) → t ∷ ts ≡ u ∷ us → ts ≡ us
tail_same t u ts us e = cc

-- a statement by what it is
pub stmt_read : (s : Stmt) (below : Option Readers) (renew left after : ℕ) (t : Token) (ts rest : List Token) → t.span ≡ s.span → StmtRead s.kind below renew left after (t ∷ ts) rest → stmt_at below renew left (t ∷ (ts ++ rest)) ≡ Some (s, after, rest)
unfolding stmt_at
stmt_read s below renew left after t ts rest p r =
    let same : t ≡ r.t = head_same t r.t ts r.ts r.is in
    let more : ts ≡ r.ts = tail_same t r.t ts r.ts r.is in
    let is_word : t.kind ≡ kind.Word = ap (λ (x : Token). x.kind) same ∙ r.is_word in
    let read : stmt_of below renew left t.text (ts ++ rest) (t ∷ (ts ++ rest)) ≡ Some (s.kind, after, rest) =
    ap (λ (x : Token). stmt_of below renew left x.text (ts ++ rest) (x ∷ (ts ++ rest))) same ∙ ap (λ (us : List Token). stmt_of below renew left r.t.text (us ++ rest) (r.t ∷ (us ++ rest))) more ∙ r.read in
    let yes : has_word t.kind ≡ true = ap has_word is_word in
    rw (stmt_at, yes, read, p) refl

pub complete-stmt_at : (s : Stmt) (below : Option Readers) (d renew left after : ℕ) (front rest : List Token) → IsCompleteBelow d below → Fits (of_stmt s) d renew left after → may_nest (of_stmt s).standing ≡ true → Spells (spell_stmt s) front → ClosesStmt (of_stmt s) rest → stmt_at below renew left (front ++ rest) ≡ Some (s, after, rest)
complete-stmt_at s below d renew left after front rest h f n g c = from front (spells_as front (spell-Stmt s) g)
  where
    kind_read : (front : List Token) → Spells (spell_stmt_kind s.kind) front → StmtRead s.kind below renew left after front rest
    kind_read front k = read-stmt_kind s.kind (stmt_case_of s.kind) below d renew left after front rest h (fits_as (features-Stmt s) f) (sym (ap (λ (x : Features). may_nest x.standing) (features-Stmt s)) ∙ n) k (subst (λ (x : Features). ClosesStmt x rest) (features-Stmt s) c)

    nothing_read : StmtRead s.kind below renew left after [] rest → ⊥
    nothing_read r = let e = r.is in absurd cc

    from : (front : List Token) → Spells (at_place s.span (spell_stmt_kind s.kind)) front → stmt_at below renew left (front ++ rest) ≡ Some (s, after, rest)
    from [] k = absurd (nothing_read (kind_read [] (placed_empty s.span (spell_stmt_kind s.kind) k)))
    from (t ∷ ts) k = let p = unplaced s.span (spell_stmt_kind s.kind) t ts k in stmt_read s below renew left after t ts rest p.0 (kind_read (t ∷ ts) p.1)
