-- The statements of a source that are read one by one.
use Rattle.std.proofs.Common.{◌≡◌, ℕ, zero, suc, List, [], ◌∷◌, ◌++◌, Some, None, refl, append_assoc, append-nil, ◌∙◌, sym, arith}
use Rattle.qs_lexer.specs.declared.token.Token.{Token}
use Rattle.qs_tree.specs.declared.statement.Stmt.{Stmt}
use Rattle.qs_tree.specs.WellFormed.{limits}
use Rattle.qs_parser.specs.steps.Globals.{statement_at}
use Rattle.qs_parser.specs.steps.Sources.{statements_at}

-- statements that were read before those that are read, and the rest
abbrev pub before : List Stmt → List Stmt × List Token → List Stmt × List Token
before items x = (items ++ x.0, x.1)

pub none_before : (x : List Stmt × List Token) → x ≡ before [] x
none_before x = refl

-- where no statement begins, or no turn is left
pub statements_end : (m : ℕ) (ts : List Token) (items : List Stmt) (whole : List Stmt × List Token)
    → whole ≡ before items (statements_at m ts) → statement_at limits.depth limits.operators ts ≡ None → (items, ts) ≡ whole
unfolding statements_at
statements_end zero ts items whole w e = sym (w ∙ rw (statements_at, append-nil items) refl)
statements_end (suc m) ts items whole w e = sym (w ∙ rw (statements_at, e, append-nil items) refl)

pub statements_over : (m : ℕ) (ts : List Token) (items : List Stmt) (whole : List Stmt × List Token)
    → whole ≡ before items (statements_at m ts) → m ≡ 0 → (items, ts) ≡ whole
unfolding statements_at
statements_over m ts items whole w e = sym (w ∙ rw (e, statements_at, append-nil items) refl)

-- one more statement, after those that were read
pub statements_go : (m n : ℕ) (ts : List Token) (items more : List Stmt) (whole : List Stmt × List Token) (s : Stmt) (rest : List Token)
    → whole ≡ before items (statements_at m ts) → m ≡ suc n → statement_at limits.depth limits.operators ts ≡ Some (s, rest) → more ≡ items ++ s ∷ []
    → whole ≡ before more (statements_at n rest)
unfolding statements_at
statements_go zero n ts items more whole s rest w k e p = absurd (omega (arith, k))
statements_go (suc m) n ts items more whole s rest w k e p =
    let same : m ≡ n = omega (arith, k) in
    w ∙ rw (statements_at, e, p, same) (joined (statements_at n rest))
  where
    joined : (x : List Stmt × List Token) → before items (s ∷ x.0, x.1) ≡ before (items ++ s ∷ []) x
    joined x = simp append_assoc refl
