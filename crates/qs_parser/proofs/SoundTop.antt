-- What is read at the top of a source is spelled by the tokens it took, follows the grammar, and is within the limits.
use Rattle.std.proofs.lemmas.Bool.{and_parts}
use Rattle.std.proofs.Common.{◌≡◌, ℕ, zero, suc, Bool, true, false, ◌&&◌, cond, List, [], ◌∷◌, ◌++◌, codes, Option, Some, None, refl}
use Rattle.std.specs.List.{AllByRecursion, flat_map}
use Rattle.std.specs.Str.{bytes_eq}
use Rattle.qs_lexer.specs.declared.token.Token.{Token}
use Rattle.qs_lexer.specs.declared.token.TokenKind.{TokenKind}
use Rattle.qs_lexer.specs.declared.token.TokenKind.TheVariants as kind
use Rattle.qs_tree.specs.declared.statement.Stmt.{Stmt}
use Rattle.qs_tree.specs.declared.statement.StmtKind.{StmtKind}
use Rattle.qs_tree.specs.Spelling.{IsNumber, Version, piece, spell_stmt, spell_version, word}
use Rattle.qs_tree.specs.WellFormed.{IsVersion, IsWellFormed, is_version, limits, of_stmt}
use Rattle.qs_tree.proofs.Spelled.{spell-Stmt}
use Rattle.qs_parser.specs.Language.{Leaves}
use Rattle.qs_parser.specs.steps.Tokens.{Reads, after_sign, begins_sign, has_word, is_word}
use Rattle.qs_parser.specs.steps.Knot.{below}
use Rattle.qs_parser.specs.steps.Globals.{statement_at, top_of}
use Rattle.qs_parser.specs.steps.Sources.{is_number, statements_at, version_at}
use Rattle.qs_parser.proofs.Featured.{features-Stmt}
use Rattle.qs_parser.proofs.TokenPieces.{Took, took_nothing, took_one, took_placed, took_sign, took_then, word_kind, word_shown}
use Rattle.qs_parser.proofs.SoundParts.{Counted, Holds, Read, holds_at, holds_bind, holds_either, holds_if, holds_some}
use Rattle.qs_parser.proofs.SoundExprParts.{read_as}
use Rattle.qs_parser.proofs.SoundPrimary.{took_text}
use Rattle.qs_parser.proofs.SoundStmt.{sound-stmt_at}
use Rattle.qs_parser.proofs.SoundKnot.{sound-below}
use Rattle.qs_parser.proofs.SoundGates.{ReadTop, sound-defcalgrammar_at, sound-gate_at, sound-include_at, sound-input_at, sound-output_at, sound-qubit_at}
use Rattle.qs_parser.proofs.SoundCalibrations.{sound-cal_at, sound-defcal_at}

-- a reader that was picked by its word is sound
abbrev Picked : (d renew left : ℕ) → List Token → Reads StmtKind → Type 0
Picked d renew left ts read = Holds read (ReadTop d renew left ts)

sound-top_of : (d renew left : ℕ) (t : Token) (ts : List Token) → t.kind ≡ kind.Word → Holds (top_of d renew left t.text ts) (Picked d renew left (t ∷ ts))
unfolding top_of
sound-top_of d renew left t ts k =
    holds_if (bytes_eq t.text (codes "include")) (λ e. holds_some _ (sound-include_at d renew left (t ∷ ts) ts (took_text t ts (codes "include") k e))) (λ n1.
    holds_if (bytes_eq t.text (codes "defcalgrammar")) (λ e. holds_some _ (sound-defcalgrammar_at d renew left (t ∷ ts) ts (took_text t ts (codes "defcalgrammar") k e))) (λ n2.
    holds_if (bytes_eq t.text (codes "qubit")) (λ e. holds_some _ (sound-qubit_at (below d) d renew (sound-below d) left (t ∷ ts) ts (took_text t ts (codes "qubit") k e))) (λ n3.
    holds_if (bytes_eq t.text (codes "input")) (λ e. holds_some _ (sound-input_at (below d) d renew (sound-below d) left (t ∷ ts) ts (took_text t ts (codes "input") k e))) (λ n4.
    holds_if (bytes_eq t.text (codes "output")) (λ e. holds_some _ (sound-output_at (below d) d renew (sound-below d) left (t ∷ ts) ts (took_text t ts (codes "output") k e))) (λ n5.
    holds_if (bytes_eq t.text (codes "gate")) (λ e. holds_some _ (sound-gate_at d renew left (t ∷ ts) ts (took_text t ts (codes "gate") k e))) (λ n6.
    holds_if (bytes_eq t.text (codes "cal")) (λ e. holds_some _ (sound-cal_at d renew left (t ∷ ts) ts (took_text t ts (codes "cal") k e))) (λ n7.
    holds_if (bytes_eq t.text (codes "defcal")) (λ e. holds_some _ (sound-defcal_at d renew left (t ∷ ts) ts (took_text t ts (codes "defcal") k e))) (λ n8.
    record { is = tt }))))))))

-- a whole statement at the front
pub record TookStatement (d limit : ℕ) (ts : List Token) (y : Stmt × List Token) : Type 0 where
  pub took : Took (spell_stmt y.0) ts y.1
  pub follows : IsWellFormed (record { depth = d; operators = limit }) y.0

within : (d limit after : ℕ) (s : Stmt) → Counted (of_stmt s) d limit limit after → IsWellFormed (record { depth = d; operators = limit }) s
within d limit after s c = record { follows = c.follows; depth = c.depth; operators = (c.spent.whole refl).1 }

pub sound-statement_at : (d limit : ℕ) (ts : List Token) → Holds (statement_at d limit ts) (TookStatement d limit ts)
unfolding statement_at
sound-statement_at d limit [] = record { is = tt }
sound-statement_at d limit (t ∷ ts) =
    holds_if (has_word t.kind) (λ k.
    holds_either (top_of d limit limit t.text ts) (λ e.
    holds_bind (sound-stmt_at (below d) d limit (sound-below d) limit (t ∷ ts)) (λ s r.
    holds_some (s.0, s.2) (record { took = r.read.took; follows = within d limit s.1 s.0 r.read.counted })))
    (λ read e.
    holds_bind (holds_at (top_of d limit limit t.text ts) read (sound-top_of d limit limit t ts (word_kind t.kind k)) e) (λ s r.
    let stmt : Stmt = record { span = t.span; kind = s.0 } in
    let whole : Read (spell_stmt stmt) (of_stmt stmt) d limit limit (t ∷ ts) s.1 s.2 = read_as (spell-Stmt stmt) (features-Stmt stmt) (took_placed _ t ts s.2 r.took) r.counted in
    holds_some (stmt, s.2) (record { took = whole.took; follows = within d limit s.1 stmt whole.counted }))))
    (λ n. record { is = tt })

-- whole statements, one after another
pub record TookStatements (ts : List Token) (y : List Stmt × List Token) : Type 0 where
  pub took : Took (flat_map spell_stmt y.0) ts y.1
  pub follow : AllByRecursion (IsWellFormed limits) y.0

-- what may be there or not, of anything
by_option : {A B : Type 0} (P : B → Type 0) (r : Option A) {x : B} {f : A → B} → (r ≡ None → P x) → ((a : A) → r ≡ Some a → P (f a)) → P (elim r [ None ↦ x | Some a ↦ f a ])
by_option P None g h = g refl
by_option P (Some a) g h = h a refl

pub sound-statements_at : (n : ℕ) (ts : List Token) → TookStatements ts (statements_at n ts)
unfolding statements_at
sound-statements_at zero ts = record { took = took_nothing ts; follow = tt }
sound-statements_at (suc n) ts =
    by_option (TookStatements ts) (statement_at limits.depth limits.operators ts) (λ e. record { took = took_nothing ts; follow = tt }) (λ s e.
    let a = holds_at (statement_at limits.depth limits.operators ts) s (sound-statement_at limits.depth limits.operators ts) e in
    let b = sound-statements_at n s.1 in
    record { took = took_then a.took b.took; follow = (a.follows, b.follow) })

-- ---- the version line

-- what may be a version line at the front
pub record TookVersion (ts : List Token) (y : Option (List ℕ) × List Token) : Type 0 where
  pub took : Took (spell_version y.0) ts y.1
  pub known : IsVersion y.0

pub number_kind : (k : TokenKind) → is_number k ≡ true → IsNumber k
number_kind (kind.Whole value) e = tt
number_kind (kind.Decimal value) e = tt
number_kind kind.Word e = absurd cc
number_kind (kind.Physical number) e = absurd cc
number_kind (kind.Time value unit) e = absurd cc
number_kind kind.Text e = absurd cc
number_kind kind.Sign e = absurd cc

-- no version line
no_version : (ts : List Token) → TookVersion ts (None, ts)
no_version ts = record { took = took_nothing ts; known = tt }

by_test : {B : Type 0} (P : B → Type 0) (b : Bool) {x y : B} → (b ≡ true → P x) → (b ≡ false → P y) → P (cond b x y)
by_test P true g h = g refl
by_test P false g h = h refl

pub sound-version_at : (ts : List Token) → TookVersion ts (version_at ts)
sound-version_at [] = no_version []
sound-version_at (t ∷ []) = no_version (t ∷ [])
sound-version_at (t ∷ number ∷ ts) =
    by_test (TookVersion (t ∷ number ∷ ts)) (is_word (codes "OPENQASM") t && is_number number.kind && is_version number.text && begins_sign (codes ";") ts) (λ e.
    by_option (TookVersion (t ∷ number ∷ ts)) (after_sign (codes ";") ts) (λ z. no_version (t ∷ number ∷ ts)) (λ rest z.
    let p = and_parts _ _ e in
    let q = and_parts _ _ p.0 in
    let r = and_parts _ _ q.0 in
    let word_taken : Took (word (codes "OPENQASM")) (t ∷ number ∷ ts) (number ∷ ts) = took_one _ t (number ∷ ts) (word_shown (codes "OPENQASM") t r.0, tt) in
    let number_taken : Took (piece (Version number.text)) (number ∷ ts) ts = took_one _ number ts ((number_kind number.kind r.1, refl), tt) in
    record { took = took_then (took_then word_taken number_taken) (took_sign (codes ";") ts rest z); known = q.1 }))
    (λ e. no_version (t ∷ number ∷ ts))

-- ---- a source

-- the version line and the statements that are read leave their rest
pub sound-source : (n : ℕ) (ts : List Token) → let v = version_at ts in let s = statements_at n v.1 in Leaves ts s.1
sound-source n ts =
    let v = sound-version_at ts in
    let s = sound-statements_at n (version_at ts).1 in
    let both : Took (spell_version (version_at ts).0 ++ flat_map spell_stmt (statements_at n (version_at ts).1).0) ts (statements_at n (version_at ts).1).1 = took_then v.took s.took in
    record {
      front = both.front;
      split = both.is;
      source = record { version = (version_at ts).0; body = (statements_at n (version_at ts).1).0 };
      is = record { follows = record { version = v.known; body = s.follow }; spelled = both.spells };
    }
