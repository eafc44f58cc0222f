-- Reading statement by statement.
use Rattle.std.proofs.Common.{◌≡◌, ◌≢◌, ℕ, ◌+◌, ◌-◌, ◌<◌, ◌≤◌, List, [], ◌∷◌, ◌++◌, length, ap, subst, sym, ◌∙◌, refl, arith, inl, inr}
use Rattle.std.specs.Prelude.{Some, None, zero, suc, Result, Ok, Err, IsSome}
use Rattle.std.proofs.lemmas.List.{length-append}
use Rattle.std.proofs.lemmas.List.Elements.{All-push}
use Rattle.qs_values.specs.declared.span.Span.{Span}
use Rattle.qs_values.specs.declared.refusal.Refusal.{Refusal}
use Rattle.qs_values.specs.declared.refusal.Halt.{Halt}
use Rattle.qs_values.specs.declared.refusal.Halt.TheVariants.{Refused, Memory}
use Rattle.qs_lexer.specs.declared.refusal.LexRefusal.{LexRefusal}
use Rattle.qs_lexer.specs.declared.refusal.LexRefusal.TheVariants.{NotUtf8, BadChar, OpenComment, OpenText, NumberTooWide, TooManyTokens, Memory as LexMemory}
use Rattle.qs_lexer.specs.declared.token.Token.{Token}
use Rattle.qs_lexer.specs.Lexed.{HasFault, Lexes, LexIs, code_of, span_of}
use Rattle.qs_tree.specs.declared.source.Source.{Source}
use Rattle.qs_tree.specs.declared.statement.Stmt.{Stmt}
use Rattle.qs_parser.specs.declared.refusal.ParseRefusal.{ParseRefusal}
use Rattle.qs_parser.specs.declared.refusal.ParseRefusal.TheVariants.{NoStatement, TooDeep, Unsupported, VersionUnknown, Memory as ParseMemory}
use Rattle.qs_parser.specs.Language.{IsTreeOf, IsRefusedBy, ParseIs}
use Rattle.qs_parser.specs.Refusals.{code_of as parse_code}
use Rattle.timeline_board.specs.Refused.{name_of, names}
use Rattle.qasm_main.specs.declared.front.statement.Statement.{Statement}
use Rattle.qasm_main.specs.declared.front.statement.LocatedStatement.{LocatedStatement}
use Rattle.qasm_main.specs.front.Refused.{MalformedHalt, halt_of, malformed_by, not_built}
use Rattle.qasm_main.specs.front.Reads.{IsUnreadable, Reads, ReadsStatements}
use Rattle.qasm_main.specs.front.Source.{Reading, Built, NotBuilt, statement_of, with_statement, reading_of, most_statements}
use Rattle.qasm_main.specs.front.Statement.{AreWellFormed, IsWellFormed, IsWellFormedAt}

-- a reading behind these statements
abbrev pub with_statements : List LocatedStatement → Reading → Reading
with_statements [] reading = reading
with_statements (s ∷ ss) reading = with_statement s (with_statements ss reading)

with_statements-push : (ss : List LocatedStatement) (s : LocatedStatement) (reading : Reading) → with_statements (ss ++ s ∷ []) reading ≡ with_statements ss (with_statement s reading)
with_statements-push [] s reading = refl
with_statements-push (t ∷ ss) s reading = ap (with_statement t) (with_statements-push ss s reading)

with_statements-built : (ss : List LocatedStatement) → with_statements ss (Built []) ≡ Built ss
with_statements-built [] = refl
with_statements-built (t ∷ ss) = ap (with_statement t) (with_statements-built ss)

with_statements-not_built : (ss : List LocatedStatement) (place : Span) → with_statements ss (NotBuilt place) ≡ NotBuilt place
with_statements-not_built [] place = refl
with_statements-not_built (t ∷ ss) place = ap (with_statement t) (with_statements-not_built ss place)

-- these statements were read, and so many more may be read of what is left
pub record SoFar (most left : ℕ) (stmts : List Stmt) (statements : List LocatedStatement) (rest : List Stmt) : Type 0 where
  pub same : with_statements statements (reading_of left rest) ≡ reading_of most stmts
  pub formed : AreWellFormed statements
  pub few : length statements + left ≤ most

-- nothing is left
pub reads-all : {most left : ℕ} {stmts : List Stmt} {statements : List LocatedStatement} {rest : List Stmt} → SoFar most left stmts statements rest → rest ≡ [] → reading_of most stmts ≡ Built statements
reads-all {most} {left} {stmts} {statements} {rest} so_far none =
    sym so_far.same ∙ ap (λ r. with_statements statements (reading_of left r)) none ∙ nothing-left left ∙ with_statements-built statements
  where
    nothing-left : (n : ℕ) → with_statements statements (reading_of n []) ≡ with_statements statements (Built [])
    nothing-left zero = refl
    nothing-left (suc n) = refl

reading_of-none : (n : ℕ) (first : Stmt) (others : List Stmt) → None ≡ statement_of first → reading_of n (first ∷ others) ≡ NotBuilt first.span
reading_of-none zero first others h = refl
reading_of-none (suc n) first others h = rw (← h, reading_of) refl

reading_of-some : (n : ℕ) (first : Stmt) (others : List Stmt) (s : Statement) → Some s ≡ statement_of first
    → reading_of (suc n) (first ∷ others) ≡ with_statement (record { span = first.span; statement = s }) (reading_of n others)
reading_of-some n first others s h = rw (← h, reading_of) refl

-- the next statement isn't built, or no more may be read
pub reads-none : {most left : ℕ} {stmts : List Stmt} {statements : List LocatedStatement} {rest : List Stmt} → SoFar most left stmts statements rest → (first : Stmt) (others : List Stmt)
    → rest ≡ first ∷ others → None ≡ statement_of first → reading_of most stmts ≡ NotBuilt first.span
reads-none {most} {left} {stmts} {statements} {rest} so_far first others is none =
    sym so_far.same ∙ ap (λ r. with_statements statements (reading_of left r)) is
    ∙ ap (with_statements statements) (reading_of-none left first others none) ∙ with_statements-not_built statements first.span

pub reads-most : {most left : ℕ} {stmts : List Stmt} {statements : List LocatedStatement} {rest : List Stmt} → SoFar most left stmts statements rest → (first : Stmt) (others : List Stmt)
    → rest ≡ first ∷ others → left ≡ 0 → reading_of most stmts ≡ NotBuilt first.span
reads-most {most} {left} {stmts} {statements} {rest} so_far first others is none =
    sym so_far.same ∙ ap (λ r. with_statements statements (reading_of left r)) is
    ∙ ap (λ n. with_statements statements (reading_of n (first ∷ others))) none ∙ with_statements-not_built statements first.span

-- all are well formed with one more that is
all_formed : (statements : List LocatedStatement) (s : LocatedStatement) (longer : List LocatedStatement) → longer ≡ statements ++ s ∷ [] → AreWellFormed statements → IsWellFormed s.statement → AreWellFormed longer
all_formed statements s longer pushed all formed =
    subst (AreWellFormed) (sym pushed) (All-push IsWellFormedAt statements s all formed)

-- one statement more
pub one-more : {most left : ℕ} {stmts : List Stmt} {statements : List LocatedStatement} {rest : List Stmt} → SoFar most left stmts statements rest → (first : Stmt) (others : List Stmt)
    → rest ≡ first ∷ others → (s : Statement) → Some s ≡ statement_of first → IsWellFormed s → 0 < left → (longer : List LocatedStatement)
    → longer ≡ statements ++ record { span = first.span; statement = s } ∷ [] → SoFar most (left - 1) stmts longer others
one-more {most} {left} {stmts} {statements} {rest} so_far first others is s some formed more longer pushed =
    let n = left - 1 in
    let e : left ≡ suc n = omega arith in
    let sentence : LocatedStatement = record { span = first.span; statement = s } in
    record {
      same = ap (λ ss. with_statements ss (reading_of n others)) pushed
          ∙ with_statements-push statements sentence (reading_of n others)
          ∙ ap (with_statements statements) (sym (reading_of-some n first others s some) ∙ ap (λ k. reading_of k (first ∷ others)) (sym e) ∙ ap (reading_of left) (sym is))
          ∙ so_far.same;
      formed = all_formed statements sentence longer pushed so_far.formed formed;
      few = omega (arith, so_far.few, ap length pushed ∙ length-append statements (sentence ∷ []));
    }

-- a source without tokens is refused for its fault
pub reads-fault : (bytes : List ℕ) (fault : LexRefusal) → LexIs bytes (Err fault) → Reads bytes (Err (halt_of (code_of fault) (span_of fault)))
reads-fault bytes (NotUtf8 span) is = inl (record { fault = _; has = is; same = refl })
reads-fault bytes (BadChar span) is = inl (record { fault = _; has = is; same = refl })
reads-fault bytes (OpenComment span) is = inl (record { fault = _; has = is; same = refl })
reads-fault bytes (OpenText span) is = inl (record { fault = _; has = is; same = refl })
reads-fault bytes (NumberTooWide span) is = inl (record { fault = _; has = is; same = refl })
reads-fault bytes (TooManyTokens span) is = inl (record { fault = _; has = is; same = refl })
reads-fault bytes LexMemory is = tt

-- tokens without a tree
malformed : (bytes : List ℕ) (tokens : List Token) (cause : ParseRefusal) (refusal : Refusal) → Lexes bytes tokens → IsRefusedBy tokens cause → refusal ≡ malformed_by cause → Reads bytes (Err (Refused refusal))
malformed bytes tokens cause refusal lexes has same = inr (inl (record { tokens = tokens; lexes = lexes; cause = cause; has = has; same = same }))

pub reads-malformed : (bytes : List ℕ) (tokens : List Token) (cause : ParseRefusal) (halt : Halt) → Lexes bytes tokens → ParseIs tokens (Err cause) → MalformedHalt cause halt → Reads bytes (Err halt)
reads-malformed bytes tokens (NoStatement span) (Refused refusal) lexes is same = malformed bytes tokens _ refusal lexes is same
reads-malformed bytes tokens (TooDeep span) (Refused refusal) lexes is same = malformed bytes tokens _ refusal lexes is same
reads-malformed bytes tokens (Unsupported span word) (Refused refusal) lexes is same = malformed bytes tokens _ refusal lexes is same
reads-malformed bytes tokens (VersionUnknown span) (Refused refusal) lexes is same = malformed bytes tokens _ refusal lexes is same
reads-malformed bytes tokens ParseMemory (Refused refusal) lexes is same = absurd same
reads-malformed bytes tokens cause Memory lexes is same = tt

-- a source with a tree is read as its statements are
pub reads-tree : (bytes : List ℕ) (tokens : List Token) (tree : Source) (result : Result (List LocatedStatement) Halt) → Lexes bytes tokens → IsTreeOf tokens tree → ReadsStatements most_statements tree.body result → Reads bytes result
reads-tree bytes tokens tree (Ok statements) lexes is reads = record { tree = tree; parsed = record { tokens = tokens; lexes = lexes; is = is }; built = reads }
reads-tree bytes tokens tree (Err (Refused refusal)) lexes is reads =
    inr (inr (record { tree = tree; parsed = record { tokens = tokens; lexes = lexes; is = is }; place = reads.0; not_built = reads.1; same = reads.2 }))
reads-tree bytes tokens tree (Err Memory) lexes is reads = tt

fault-named : (bytes : List ℕ) (fault : LexRefusal) → HasFault bytes fault → IsSome (name_of (code_of fault))
unfolding names
fault-named bytes (NotUtf8 span) has = refl
fault-named bytes (BadChar span) has = refl
fault-named bytes (OpenComment span) has = refl
fault-named bytes (OpenText span) has = refl
fault-named bytes (NumberTooWide span) has = refl
fault-named bytes (TooManyTokens span) has = refl
fault-named bytes LexMemory has = absurd has.fault

cause-named : (cause : ParseRefusal) → cause ≢ ParseMemory → IsSome (name_of (parse_code cause))
unfolding names
cause-named (NoStatement span) some = refl
cause-named (TooDeep span) some = refl
cause-named (Unsupported span word) some = refl
cause-named (VersionUnknown span) some = refl
cause-named ParseMemory some = absurd (some refl)

caused : (tokens : List Token) (cause : ParseRefusal) → IsRefusedBy tokens cause → cause ≢ ParseMemory
caused tokens cause has memory = absurd ((subst (IsRefusedBy tokens) memory has).cause)

built-named : IsSome (name_of not_built)
unfolding names
built-named = refl

-- The code of the refusal of a source that isn't compiled has a name.
pub unreadable-named : (bytes : List ℕ) (refusal : Refusal) → IsUnreadable bytes refusal → IsSome (name_of refusal.code)
unreadable-named bytes refusal (inl faulty) = subst (λ r. IsSome (name_of r.code)) (sym faulty.same) (fault-named bytes faulty.fault faulty.has)
unreadable-named bytes refusal (inr (inl malformed)) = subst (λ r. IsSome (name_of r.code)) (sym malformed.same) (cause-named malformed.cause (caused malformed.tokens malformed.cause malformed.has))
unreadable-named bytes refusal (inr (inr other)) = subst (λ r. IsSome (name_of r.code)) (sym other.same) built-named
