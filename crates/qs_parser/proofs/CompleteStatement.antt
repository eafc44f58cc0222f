-- A statement at the top of a source is read where it is spelled, within any limits.
use Rattle.std.proofs.Common.{◌≡◌, ℕ, true, false, codes, List, [], ◌∷◌, ◌++◌, Some, None, refl, sym, ap, subst, ◌∙◌, arith, inr}
use Rattle.qs_lexer.specs.declared.token.Token.{Token}
use Rattle.qs_lexer.specs.declared.token.TokenKind.TheVariants as kind
use Rattle.qs_tree.specs.declared.operand.Operand.{Operand}
use Rattle.qs_tree.specs.declared.statement.Stmt.{Stmt}
use Rattle.qs_tree.specs.declared.statement.StmtKind.{StmtKind}
use Rattle.qs_tree.specs.Spelling.{Spells, spell_stmt, spell_stmt_kind}
use Rattle.qs_tree.specs.WellFormed.{Features, IsWellFormed, may_nest, of_operand, of_stmt, of_stmt_kind}
use Rattle.qs_tree.proofs.Spelled.{spell-Stmt}
use Rattle.qs_parser.specs.steps.Tokens.{◌>>=◌, begins_word, has_word}
use Rattle.qs_parser.specs.steps.Knot.{below}
use Rattle.qs_parser.specs.steps.Globals.{statement_at, top_of}
use Rattle.qs_parser.specs.steps.Statements.{stmt_at}
use Rattle.qs_parser.proofs.Featured.{features-Assign, features-Barrier, features-Box, features-Break, features-Continue, features-Declare, features-Delay, features-End, features-For, features-GateCall, features-If, features-Init, features-Measure, features-Named, features-PhysicalQubit, features-Reset, features-Stmt, features-Stretch, features-Update, features-While}
use Rattle.qs_parser.proofs.SoundStanding.{operands_nest, place_nests, type_nests}
use Rattle.qs_parser.proofs.SoundKnot.{sound-below}
use Rattle.qs_parser.proofs.Complete.{ClosesStmt, Fits}
use Rattle.qs_parser.proofs.CompleteExprParts.{fits_as}
use Rattle.qs_parser.proofs.CompleteExprCases.{spells_as, unplaced}
use Rattle.qs_parser.proofs.CompleteStmtParts.{OperandCase, is_named, is_physical, operand_case}
use Rattle.qs_parser.proofs.CompleteStmtCases.{StmtCase, is_include, is_defcalgrammar, is_qubit, is_input, is_output, is_gate, is_cal, is_defcal, is_init, is_declare, is_stretch, is_gate_call, is_assign, is_update, is_measure, is_reset, is_barrier, is_delay, is_box, is_if, is_while, is_for, is_break, is_continue, is_end, stmt_case_of}
use Rattle.qs_parser.proofs.CompleteBegins.{stmt_some, top_first, top_words, unlisted}
use Rattle.qs_parser.proofs.CompleteStmt.{complete-stmt_at, head_same, tail_same}
use Rattle.qs_parser.proofs.CompleteWeak.{weak-stmt_at}
use Rattle.qs_parser.proofs.CompleteKnot.{complete-below}
use Rattle.qs_parser.proofs.CompleteStarts.{stmt_starts}
use Rattle.qs_parser.proofs.CompleteTop.{IsCompleteAt, ReadsStatement}
use Rattle.qs_parser.proofs.CompleteGlobals.{TopRead, read-defcalgrammar, read-include, read-input, read-output, read-qubit}
use Rattle.qs_parser.proofs.CompleteGates.{read-gate}
use Rattle.qs_parser.proofs.CompleteCalibrations.{read-cal}
use Rattle.qs_parser.proofs.CompleteDefcals.{read-defcal}

-- ---- statements that stand at the top alone, and others

-- a statement stands at the top alone, and is read there; or it may stand in another one
data Stands (k : StmtKind) (d renew left after : ℕ) (front rest : List Token) : Type 0 where
  at_top : TopRead k d renew left after front rest → Stands k d renew left after front rest
  anywhere : may_nest (of_stmt_kind k).standing ≡ true → Stands k d renew left after front rest

nests : (f g : Features) → f ≡ g → may_nest f.standing ≡ may_nest g.standing
nests f g e = ap (λ (x : Features). may_nest x.standing) e

operand_nests : (o : Operand) → OperandCase o → may_nest (of_operand o).standing ≡ true
operand_nests _ (is_named p) = nests _ _ (features-Named p) ∙ place_nests p
operand_nests _ (is_physical span number) = nests _ _ (features-PhysicalQubit span number)

stands : (k : StmtKind) → StmtCase k → (d renew left after : ℕ) (front rest : List Token) → Fits (of_stmt_kind k) d renew left after → Spells (spell_stmt_kind k) front → Stands k d renew left after front rest
stands _ (is_include text) d renew left after front rest f s = at_top (read-include text d renew left after front rest f s)
stands _ (is_defcalgrammar text) d renew left after front rest f s = at_top (read-defcalgrammar text d renew left after front rest f s)
stands _ (is_qubit size n) d renew left after front rest f s = at_top (read-qubit size n d renew left after front rest (complete-below d) f s)
stands _ (is_input type n) d renew left after front rest f s = at_top (read-input type n d renew left after front rest (complete-below d) f s)
stands _ (is_output type n) d renew left after front rest f s = at_top (read-output type n d renew left after front rest (complete-below d) f s)
stands _ (is_gate n params qubits calls) d renew left after front rest f s = at_top (read-gate n params qubits calls d renew left after front rest f s)
stands _ (is_cal items) d renew left after front rest f s = at_top (read-cal items d renew left after front rest f s)
stands _ (is_defcal n params operands gives items) d renew left after front rest f s = at_top (read-defcal n params operands gives items d renew left after front rest f s)
stands _ (is_init is_const type n value) d renew left after front rest f s = anywhere (nests _ _ (features-Init is_const type n value))
stands _ (is_declare type n) d renew left after front rest f s = anywhere (nests _ _ (features-Declare type n) ∙ type_nests type)
stands _ (is_stretch n) d renew left after front rest f s = anywhere (nests _ _ (features-Stretch n))
stands _ (is_gate_call call) d renew left after front rest f s = anywhere (nests _ _ (features-GateCall call))
stands _ (is_assign place value) d renew left after front rest f s = anywhere (nests _ _ (features-Assign place value))
stands _ (is_update place op value) d renew left after front rest f s = anywhere (nests _ _ (features-Update place op value))
stands _ (is_measure operand to) d renew left after front rest f s = anywhere (nests _ _ (features-Measure operand to))
stands _ (is_reset operand) d renew left after front rest f s = anywhere (nests _ _ (features-Reset operand) ∙ operand_nests operand (operand_case operand))
stands _ (is_barrier operands) d renew left after front rest f s = anywhere (nests _ _ (features-Barrier operands) ∙ operands_nest operands)
stands _ (is_delay time operands) d renew left after front rest f s = anywhere (nests _ _ (features-Delay time operands))
stands _ (is_box time statements) d renew left after front rest f s = anywhere (nests _ _ (features-Box time statements))
stands _ (is_if test body other) d renew left after front rest f s = anywhere (nests _ _ (features-If test body other))
stands _ (is_while test body) d renew left after front rest f s = anywhere (nests _ _ (features-While test body))
stands _ (is_for type n range body) d renew left after front rest f s = anywhere (nests _ _ (features-For type n range body))
stands _ is_break d renew left after front rest f s = anywhere (nests _ _ features-Break)
stands _ is_continue d renew left after front rest f s = anywhere (nests _ _ features-Continue)
stands _ is_end d renew left after front rest f s = anywhere (nests _ _ features-End)

-- ---- one of the first kind

top_read : (s : Stmt) (d limit after : ℕ) (t : Token) (ts rest : List Token) → t.span ≡ s.span → TopRead s.kind d limit limit after (t ∷ ts) rest → statement_at d limit (t ∷ (ts ++ rest)) ≡ Some (s, rest)
unfolding statement_at
top_read s d limit after t ts rest p r =
    let same : t ≡ r.t = head_same t r.t ts r.ts r.is in
    let more : ts ≡ r.ts = tail_same t r.t ts r.ts r.is in
    let yes : has_word t.kind ≡ true = ap has_word (ap (λ (x : Token). x.kind) same ∙ r.is_word) in
    let read : top_of d limit limit t.text (ts ++ rest) ≡ Some (Some (s.kind, after, rest)) =
    ap (λ (x : Token). top_of d limit limit x.text (ts ++ rest)) same ∙ ap (λ (us : List Token). top_of d limit limit r.t.text (us ++ rest)) more ∙ r.read in
    rw (statement_at, yes, read, p) refl

-- ---- one of the second kind

top_none : (d renew left : ℕ) (text : List ℕ) (rest : List Token) → top_first text ≡ false → top_of d renew left text rest ≡ None
unfolding top_of
top_none d renew left text rest n =
    rw (top_of, unlisted top_words text (codes "include") n refl, unlisted top_words text (codes "defcalgrammar") n refl, unlisted top_words text (codes "qubit") n refl, unlisted top_words text (codes "input") n refl, unlisted top_words text (codes "output") n refl, unlisted top_words text (codes "gate") n refl, unlisted top_words text (codes "cal") n refl, unlisted top_words text (codes "defcal") n refl) refl

other_read : (d limit : ℕ) (t : Token) (ts : List Token) → t.kind ≡ kind.Word → top_first t.text ≡ false → statement_at d limit (t ∷ ts) ≡ (stmt_at (below d) limit limit (t ∷ ts) >>= λ s. Some (s.0, s.2))
unfolding statement_at
other_read d limit t ts k n =
    let yes : has_word t.kind ≡ true = ap has_word k in
    rw (statement_at, yes, top_none d limit limit t.text ts n) refl

nested_read : (s : Stmt) (d limit : ℕ) (front rest : List Token) → (of_stmt s).follows ≡ true → may_nest (of_stmt s).standing ≡ true → Spells (spell_stmt s) front → statement_at d limit (front ++ rest) ≡ (stmt_at (below d) limit limit (front ++ rest) >>= λ x. Some (x.0, x.2))
nested_read s d limit front rest f n p =
    let a = stmt_starts s front rest f p in
    subst (λ (us : List Token). statement_at d limit us ≡ (stmt_at (below d) limit limit us >>= λ x. Some (x.0, x.2))) (sym a.word.is) (other_read d limit a.word.t a.word.us a.word.is_word (a.nests n))

-- ---- both

fits_whole : (s : Stmt) (d limit : ℕ) → IsWellFormed (record { depth = d; operators = limit }) s → Fits (of_stmt s) d limit limit limit
fits_whole s d limit w = record { follows = w.follows; depth = w.depth; spent = inr (refl, refl, w.operators) }

-- a statement is read at the top, or as one that may stand in another one
data ReadAs (s : Stmt) (d limit : ℕ) (front rest : List Token) : Type 0 where
  whole : statement_at d limit (front ++ rest) ≡ Some (s, rest) → ReadAs s d limit front rest
  nested : may_nest (of_stmt s).standing ≡ true → ReadAs s d limit front rest

read_as : (s : Stmt) (d limit : ℕ) (front rest : List Token) → IsWellFormed (record { depth = d; operators = limit }) s → Spells (spell_stmt s) front → ReadAs s d limit front rest
read_as s d limit [] rest w p = absurd (stmt_some s p)
read_as s d limit (t ∷ ts) rest w p = from (stands s.kind (stmt_case_of s.kind) d limit limit limit (t ∷ ts) rest (fits_as (features-Stmt s) (fits_whole s d limit w)) u.1)
  where
    u : (t.span ≡ s.span) × Spells (spell_stmt_kind s.kind) (t ∷ ts)
    u = unplaced s.span (spell_stmt_kind s.kind) t ts (spells_as (t ∷ ts) (spell-Stmt s) p)

    from : Stands s.kind d limit limit limit (t ∷ ts) rest → ReadAs s d limit (t ∷ ts) rest
    from (at_top r) = whole (top_read s d limit limit t ts rest u.0 r)
    from (anywhere n) = nested (ap (λ (x : Features). may_nest x.standing) (features-Stmt s) ∙ n)

read_whole : (s : Stmt) (d limit : ℕ) (front rest : List Token) → IsWellFormed (record { depth = d; operators = limit }) s → Spells (spell_stmt s) front → ClosesStmt (of_stmt s) rest → ReadAs s d limit front rest → statement_at d limit (front ++ rest) ≡ Some (s, rest)
read_whole s d limit front rest w p c (whole e) = e
read_whole s d limit front rest w p c (nested n) =
    nested_read s d limit front rest w.follows n p ∙ rw (complete-stmt_at s (below d) d limit limit limit front rest (complete-below d) (fits_whole s d limit w) n p c) refl

read_weak : (s : Stmt) (d limit : ℕ) (front rest : List Token) → IsWellFormed (record { depth = d; operators = limit }) s → Spells (spell_stmt s) front → (of_stmt s).lacks_else ≡ true → begins_word (codes "else") rest ≡ true → ReadAs s d limit front rest → ReadsStatement (statement_at d limit (front ++ rest)) rest
read_weak s d limit front rest w p l e (whole r) = record { what = s; remains = rest; is = r; within = omega arith }
read_weak s d limit front rest w p l e (nested n) =
    let r = weak-stmt_at s (below d) d d limit limit limit front rest (complete-below d) (sound-below d) (fits_whole s d limit w) p l e in
    record { what = r.what; remains = r.remains; is = nested_read s d limit front rest w.follows n p ∙ rw (r.is) refl; within = r.within }

-- within any limits
pub complete-statement_at : (d limit : ℕ) → IsCompleteAt d limit
complete-statement_at d limit = record {
  whole = λ s front rest w p c. read_whole s d limit front rest w p c (read_as s d limit front rest w p);
  weak = λ s front rest w p l e. read_weak s d limit front rest w p l e (read_as s d limit front rest w p);
}
