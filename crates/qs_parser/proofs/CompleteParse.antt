-- A reader that takes statements until none is left, and refuses what then remains, answers what `parse` has to.
use Rattle.std.proofs.Common.{◌≡◌, ℕ, zero, suc, ◌≤◌, List, [], ◌∷◌, length, Option, Some, None, refl, sym, ap, subst, ◌∙◌, length-append, arith}
use Rattle.std.specs.Prelude.{Ok, Err}
use Rattle.qs_lexer.specs.declared.token.Token.{Token}
use Rattle.qs_tree.specs.declared.statement.Stmt.{Stmt}
use Rattle.qs_tree.specs.WellFormed.{limits}
use Rattle.qs_parser.specs.Language.{ParseIs}
use Rattle.qs_parser.specs.steps.Globals.{statement_at}
use Rattle.qs_parser.specs.steps.Sources.{refusal_of, statements_at, version_at}
use Rattle.qs_parser.proofs.SoundParts.{holds_at}
use Rattle.qs_parser.proofs.SoundTop.{sound-statement_at, sound-version_at}
use Rattle.qs_parser.proofs.CompleteTop.{reads_none, stmt_length}
use Rattle.qs_parser.proofs.CompleteRefusals.{answer_of, source_of}
use Rattle.qs_parser.proofs.CompleteOnce.{read_parses}

-- ---- turns

-- a statement that is read, and then the others
pub statements_step : (n : ℕ) (ts : List Token) (s : Stmt × List Token) → statement_at limits.depth limits.operators ts ≡ Some s → statements_at (suc n) ts ≡ (s.0 ∷ (statements_at n s.1).0, (statements_at n s.1).1)
unfolding statements_at
statements_step n ts s e = rw (statements_at, e) refl

-- no statement that is read
pub statements_stop : (n : ℕ) (ts : List Token) → statement_at limits.depth limits.operators ts ≡ None → statements_at n ts ≡ ([], ts)
unfolding statements_at
statements_stop zero ts e = refl
statements_stop (suc n) ts e = rw (statements_at, e) refl

-- what is left after a statement is shorter
pub statement_shorter : (ts : List Token) (s : Stmt × List Token) → statement_at limits.depth limits.operators ts ≡ Some s → suc (length s.1) ≤ length ts
statement_shorter ts s e =
    let a = holds_at (statement_at limits.depth limits.operators ts) s (sound-statement_at limits.depth limits.operators ts) e in
    omega (arith, stmt_length s.0 a.took.front a.follows.follows a.took.spells, ap length a.took.is, length-append a.took.front s.1)

-- more turns than tokens read no more
pub statements_turns : (n m : ℕ) (ts : List Token) → length ts ≤ n → length ts ≤ m → statements_at n ts ≡ statements_at m ts
statements_turns zero m [] l k = reads_none zero ∙ sym (reads_none m)
statements_turns zero m (t ∷ ts) l k = absurd (omega (arith, l))
statements_turns (suc n) zero [] l k = reads_none (suc n) ∙ sym (reads_none zero)
statements_turns (suc n) zero (t ∷ ts) l k = absurd (omega (arith, k))
statements_turns (suc n) (suc m) ts l k = from (statement_at limits.depth limits.operators ts) refl (λ us f g. statements_turns n m us f g)
  where
    from : (read : Option (Stmt × List Token)) → statement_at limits.depth limits.operators ts ≡ read → ((us : List Token) → length us ≤ n → length us ≤ m → statements_at n us ≡ statements_at m us) → statements_at (suc n) ts ≡ statements_at (suc m) ts
    from None e ih = statements_stop (suc n) ts e ∙ sym (statements_stop (suc m) ts e)
    from (Some s) e ih =
        let w = statement_shorter ts s e in
        let same = ih s.1 (omega (arith, l, w)) (omega (arith, k, w)) in
        statements_step n ts s e ∙ (ap (λ (x : List Stmt × List Token). (s.0 ∷ x.0, x.1)) same ∙ sym (statements_step m ts s e))

-- ---- what `parse` answers

version_within : (tokens : List Token) → length (version_at tokens).1 ≤ length tokens
version_within tokens = let t = (sound-version_at tokens).took in omega (arith, ap length t.is, length-append t.front (version_at tokens).1)

-- as many turns as tokens are enough
same_read : (tokens : List Token) (n : ℕ) → length (version_at tokens).1 ≤ n → statements_at n (version_at tokens).1 ≡ statements_at (length tokens) (version_at tokens).1
same_read tokens n l = statements_turns n (length tokens) (version_at tokens).1 l (version_within tokens)

answered : (tokens : List Token) (version : Option (List ℕ)) (read : List Stmt × List Token) → (version_at tokens).0 ≡ version → statements_at (length tokens) (version_at tokens).1 ≡ read → source_of tokens ≡ answer_of tokens version read
answered tokens version read e f = ap (λ (x : Option (List ℕ)). answer_of tokens x (statements_at (length tokens) (version_at tokens).1)) e ∙ ap (answer_of tokens version) f

-- where nothing is left, the tree is what was read
pub parses_whole : (tokens : List Token) (n : ℕ) (version : Option (List ℕ)) (body : List Stmt) → length (version_at tokens).1 ≤ n → (version_at tokens).0 ≡ version → statements_at n (version_at tokens).1 ≡ (body, []) → ParseIs tokens (Ok (record { version = version; body = body }))
parses_whole tokens n version body l v e =
    let s : statements_at (length tokens) (version_at tokens).1 ≡ (body, []) = sym (same_read tokens n l) ∙ e in
    subst (ParseIs tokens) (answered tokens version (body, []) v s) (read_parses tokens)

-- where something is left, the tokens are refused
pub parses_refused : (tokens : List Token) (n : ℕ) (body : List Stmt) (t : Token) (ts : List Token) → length (version_at tokens).1 ≤ n → statements_at n (version_at tokens).1 ≡ (body, t ∷ ts) → ParseIs tokens (Err (refusal_of tokens t (t ∷ ts)))
parses_refused tokens n body t ts l e =
    let s : statements_at (length tokens) (version_at tokens).1 ≡ (body, t ∷ ts) = sym (same_read tokens n l) ∙ e in
    subst (ParseIs tokens) (answered tokens (version_at tokens).0 (body, t ∷ ts) refl s) (read_parses tokens)
