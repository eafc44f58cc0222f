-- A source is read where it is spelled, and no list of whole statements is longer than the one that is read.
use Rattle.std.proofs.Common.{◌≡◌, ℕ, zero, suc, ◌≤◌, Bool, true, false, codes, List, [], ◌∷◌, ◌++◌, length, Option, Some, None, refl, sym, ap, subst, ◌∙◌, append_assoc, length-append, arith}
use Rattle.std.specs.List.{AllByRecursion, flat_map}
use Rattle.std.proofs.lemmas.List.{append-nil}
use Rattle.qs_lexer.specs.declared.token.Token.{Token}
use Rattle.qs_lexer.specs.declared.token.TokenKind.{TokenKind}
use Rattle.qs_lexer.specs.declared.token.TokenKind.TheVariants as kind
use Rattle.qs_tree.specs.declared.source.Source.{Source}
use Rattle.qs_tree.specs.declared.statement.Stmt.{Stmt}
use Rattle.qs_tree.specs.Spelling.{IsNumber, Spells, spell_stmt, spell_version}
use Rattle.qs_tree.specs.WellFormed.{IsVersion, IsWellFormed, is_version, limits, may_nest, of_stmt}
use Rattle.qs_parser.specs.Language.{IsRest, IsTreeOf, Leaves}
use Rattle.qs_parser.specs.Once.{TreeOnce}
use Rattle.qs_parser.specs.Reading.{left_after}
use Rattle.qs_parser.specs.steps.Tokens.{begins_word}
use Rattle.qs_parser.specs.steps.Globals.{statement_at}
use Rattle.qs_parser.specs.steps.Sources.{is_number, statements_at, version_at}
use Rattle.qs_parser.proofs.TokenPieces.{spells_split, nothing_spelled}
use Rattle.qs_parser.proofs.SoundTop.{sound-source, sound-statements_at}
use Rattle.qs_parser.proofs.Complete.{ClosesStmt}
use Rattle.qs_parser.proofs.CompleteStarts.{Starts, starts_no_else, starts_no_version, stmt_starts}

-- ---- what a statement at the top is read as

-- a statement is read, and leaves no more than these tokens
pub record ReadsStatement (read : Option (Stmt × List Token)) (rest : List Token) : Type 0 where
  pub what : Stmt
  pub remains : List Token
  pub is : read ≡ Some (what, remains)
  pub within : length remains ≤ length rest

-- a statement within these limits is read where it is spelled; one before an `else` that may belong to it is read with it, or with an `if` without it
pub record IsCompleteAt (d limit : ℕ) : Type 0 where
  pub whole : (s : Stmt) (front rest : List Token) → IsWellFormed (record { depth = d; operators = limit }) s → Spells (spell_stmt s) front → ClosesStmt (of_stmt s) rest → statement_at d limit (front ++ rest) ≡ Some (s, rest)
  pub weak : (s : Stmt) (front rest : List Token) → IsWellFormed (record { depth = d; operators = limit }) s → Spells (spell_stmt s) front → (of_stmt s).lacks_else ≡ true → begins_word (codes "else") rest ≡ true → ReadsStatement (statement_at d limit (front ++ rest)) rest

-- the same of any statement, whatever stands after it
pub record ReadsWhole (d limit : ℕ) (s : Stmt) (front rest : List Token) : Type 0 where
  pub read : ReadsStatement (statement_at d limit (front ++ rest)) rest
  pub same : begins_word (codes "else") rest ≡ false → statement_at d limit (front ++ rest) ≡ Some (s, rest)

pub reads_any : (d limit : ℕ) → IsCompleteAt d limit → (s : Stmt) (front rest : List Token) → IsWellFormed (record { depth = d; operators = limit }) s → Spells (spell_stmt s) front → ReadsWhole d limit s front rest
reads_any d limit h s front rest w p = record {
  read = by_end (of_stmt s).lacks_else (begins_word (codes "else") rest) refl refl;
  same = λ e. h.whole s front rest w p (λ lacks. e);
}
  where
    closed : ClosesStmt (of_stmt s) rest → ReadsStatement (statement_at d limit (front ++ rest)) rest
    closed c = record { what = s; remains = rest; is = h.whole s front rest w p c; within = omega arith }

    by_end : (lacks begins : Bool) → (of_stmt s).lacks_else ≡ lacks → begins_word (codes "else") rest ≡ begins → ReadsStatement (statement_at d limit (front ++ rest)) rest
    by_end false begins e f = closed (λ g. absurd cc)
    by_end true false e f = closed (λ g. f)
    by_end true true e f = h.weak s front rest w p e f

-- ---- tokens that are spelled

-- a statement has one token or more
none_first : (t : Token) (us : List Token) → [] ≡ t ∷ us → ⊥
none_first t us e = absurd cc

pub stmt_length : (s : Stmt) (front : List Token) → (of_stmt s).follows ≡ true → Spells (spell_stmt s) front → 1 ≤ length front
stmt_length s [] f p = absurd (let w = (stmt_starts s [] [] f p).word in none_first w.t w.us w.is)
stmt_length s (t ∷ ts) f p = omega arith

-- whole statements, at their first token
pub statements_start : (s : Stmt) (ss : List Stmt) (front rest : List Token) → (of_stmt s).follows ≡ true → Spells (flat_map spell_stmt (s ∷ ss)) front → Starts (may_nest (of_stmt s).standing) (front ++ rest)
statements_start s ss front rest f p =
    let two = spells_split (spell_stmt s) (flat_map spell_stmt ss) front p in
    let is : front ++ rest ≡ two.front ++ (two.after ++ rest) = ap (λ (us : List Token). us ++ rest) two.is ∙ append_assoc two.front two.after rest in
    subst (Starts (may_nest (of_stmt s).standing)) (sym is) (stmt_starts s two.front (two.after ++ rest) f two.spells_front)

-- ---- whole statements

pub no_statement_at : (d limit : ℕ) → statement_at d limit [] ≡ None
unfolding statement_at
no_statement_at d limit = refl

no_else_first : (ss : List Stmt) (front : List Token) → AllByRecursion (IsWellFormed limits) ss → Spells (flat_map spell_stmt ss) front → begins_word (codes "else") (front ++ []) ≡ false
no_else_first [] [] w p = refl
no_else_first [] (t ∷ ts) w p = absurd p
no_else_first (s ∷ ss) front w p = starts_no_else (front ++ []) (statements_start s ss front [] w.0.follows p)

no_version_first : (ss : List Stmt) (front : List Token) → AllByRecursion (IsWellFormed limits) ss → Spells (flat_map spell_stmt ss) front → begins_word (codes "OPENQASM") (front ++ []) ≡ false
no_version_first [] [] w p = refl
no_version_first [] (t ∷ ts) w p = absurd p
no_version_first (s ∷ ss) front w p = starts_no_version (front ++ []) (statements_start s ss front [] w.0.follows p)

-- the first of some statements, and what spells the others
record FirstOf (s : Stmt) (ss : List Stmt) (front other : List Token) : Type 0 where
  after : List Token
  shorter : suc (length (after ++ other)) ≤ length (front ++ other)
  spells : Spells (flat_map spell_stmt ss) after
  read : ReadsStatement (statement_at limits.depth limits.operators (front ++ other)) (after ++ other)
  same : begins_word (codes "else") (after ++ other) ≡ false → statement_at limits.depth limits.operators (front ++ other) ≡ Some (s, after ++ other)

read_as : {A : Type 0} (read : List Token → A) (us vs : List Token) → us ≡ vs → (P : A → Type 0) → P (read vs) → P (read us)
read_as read us vs e P h = subst (λ (x : List Token). P (read x)) (sym e) h

first_of : IsCompleteAt limits.depth limits.operators → (s : Stmt) (ss : List Stmt) (front other : List Token) → IsWellFormed limits s → Spells (flat_map spell_stmt (s ∷ ss)) front → FirstOf s ss front other
first_of h s ss front other w p =
    let two = spells_split (spell_stmt s) (flat_map spell_stmt ss) front p in
    let is : front ++ other ≡ two.front ++ (two.after ++ other) = ap (λ (us : List Token). us ++ other) two.is ∙ append_assoc two.front two.after other in
    let r = reads_any limits.depth limits.operators h s two.front (two.after ++ other) w two.spells_front in
    record {
      after = two.after;
      shorter = omega (arith, stmt_length s two.front w.follows two.spells_front, ap length is, length-append two.front (two.after ++ other));
      spells = two.spells_after;
      read = read_as (statement_at limits.depth limits.operators) (front ++ other) (two.front ++ (two.after ++ other)) is (λ x. ReadsStatement x (two.after ++ other)) r.read;
      same = λ e. ap (statement_at limits.depth limits.operators) is ∙ r.same e;
    }

-- one statement, and then more
reads_more : (n : ℕ) (ts : List Token) (s : Stmt) (us : List Token) (ss : List Stmt) (rest : List Token) → statement_at limits.depth limits.operators ts ≡ Some (s, us) → statements_at n us ≡ (ss, rest) → statements_at (suc n) ts ≡ (s ∷ ss, rest)
unfolding statements_at
reads_more n ts s us ss rest e f = rw (statements_at, e, f) refl

pub reads_none : (n : ℕ) → statements_at n [] ≡ ([], [])
unfolding statements_at
reads_none zero = refl
reads_none (suc n) = rw (statements_at, no_statement_at limits.depth limits.operators) refl

-- all of them are read
pub reads_statements : IsCompleteAt limits.depth limits.operators → (ss : List Stmt) (n : ℕ) (front : List Token) → length (front ++ []) ≤ n → AllByRecursion (IsWellFormed limits) ss → Spells (flat_map spell_stmt ss) front → statements_at n (front ++ []) ≡ (ss, [])
reads_statements h [] n [] l w p = reads_none n
reads_statements h [] n (t ∷ ts) l w p = absurd p
reads_statements h (s ∷ ss) zero front l w p = let f = first_of h s ss front [] w.0 p in absurd (omega (arith, l, f.shorter))
reads_statements h (s ∷ ss) (suc m) front l w p =
    let f = first_of h s ss front [] w.0 p in
    let more : statements_at m (f.after ++ []) ≡ (ss, []) = reads_statements h ss m f.after (omega (arith, l, f.shorter)) w.1 f.spells in
    reads_more m (front ++ []) s (f.after ++ []) ss [] (f.same (no_else_first ss f.after w.1 f.spells)) more

-- what is read leaves a rest of the tokens
pub rest_within : (n : ℕ) (ts : List Token) → length (statements_at n ts).1 ≤ length ts
rest_within n ts = let t = (sound-statements_at n ts).took in omega (arith, ap length t.is, length-append t.front (statements_at n ts).1)

-- one statement, and then more
reads_next : (n : ℕ) (ts : List Token) (s : Stmt) (us : List Token) → statement_at limits.depth limits.operators ts ≡ Some (s, us) → (statements_at (suc n) ts).1 ≡ (statements_at n us).1
unfolding statements_at
reads_next n ts s us e = rw (statements_at, e) refl

-- whole statements are spelled up to here: where an `else` is next, none of them is left
only_else : (rs : List Stmt) (us other : List Token) → AllByRecursion (IsWellFormed limits) rs → Spells (flat_map spell_stmt rs) us → begins_word (codes "else") (us ++ other) ≡ true → length (us ++ other) ≤ length other
only_else [] [] other v q f = omega arith
only_else [] (t ∷ ts) other v q f = absurd q
only_else (r ∷ rs) us other v q f = let no : begins_word (codes "else") (us ++ other) ≡ false = starts_no_else (us ++ other) (statements_start r rs us other v.0.follows q) in absurd cc

-- the other statements are read from where they begin, or an `else` that belongs to the first one is all that follows
most_next : (s : Stmt) (ss : List Stmt) (m : ℕ) (front other : List Token) → AllByRecursion (IsWellFormed limits) ss → (f : FirstOf s ss front other) → length (statements_at m (f.after ++ other)).1 ≤ length other → (b : Bool) → begins_word (codes "else") (f.after ++ other) ≡ b → length (statements_at (suc m) (front ++ other)).1 ≤ length other
most_next s ss m front other w f more false e = omega (arith, ap length (reads_next m (front ++ other) s (f.after ++ other) (f.same e)), more)
most_next s ss m front other w f more true e =
    omega (arith, ap length (reads_next m (front ++ other) f.read.what f.read.remains f.read.is), rest_within m f.read.remains, f.read.within, only_else ss f.after other w f.spells e)

-- at least as many tokens are read as any whole statements at the front have
pub reads_most : IsCompleteAt limits.depth limits.operators → (ss : List Stmt) (n : ℕ) (front other : List Token) → length (front ++ other) ≤ n → AllByRecursion (IsWellFormed limits) ss → Spells (flat_map spell_stmt ss) front → length (statements_at n (front ++ other)).1 ≤ length other
reads_most h [] n front other l w p =
    let none : front ++ other ≡ other = ap (λ (us : List Token). us ++ other) (nothing_spelled front p) in
    omega (arith, rest_within n (front ++ other), ap length none)
reads_most h (s ∷ ss) zero front other l w p = let f = first_of h s ss front other w.0 p in absurd (omega (arith, l, f.shorter))
reads_most h (s ∷ ss) (suc m) front other l w p =
    let f = first_of h s ss front other w.0 p in
    let more : length (statements_at m (f.after ++ other)).1 ≤ length other = reads_most h ss m f.after other (omega (arith, l, f.shorter)) w.1 f.spells in
    most_next s ss m front other w.1 f more (begins_word (codes "else") (f.after ++ other)) refl

-- ---- the version line

no_version_at : (ts : List Token) → begins_word (codes "OPENQASM") ts ≡ false → version_at ts ≡ (None, ts)
no_version_at [] e = refl
no_version_at (t ∷ []) e = refl
no_version_at (t ∷ number ∷ ts) e = rw e refl

pub number_is : (k : TokenKind) → IsNumber k → is_number k ≡ true
number_is (kind.Whole value) h = refl
number_is (kind.Decimal value) h = refl
number_is kind.Word h = absurd h
number_is (kind.Physical number) h = absurd h
number_is (kind.Time value unit) h = absurd h
number_is kind.Text h = absurd h
number_is kind.Sign h = absurd h

pub reads_version : (text : List ℕ) (front rest : List Token) → is_version text ≡ true → Spells (spell_version (Some text)) front → version_at (front ++ rest) ≡ (Some text, rest)
reads_version text [] rest v p = absurd p
reads_version text (t ∷ []) rest v p = absurd p.1
reads_version text (t ∷ number ∷ []) rest v p = absurd p.1.1
reads_version text (t ∷ number ∷ u ∷ (x ∷ xs)) rest v p = absurd p.1.1.1
reads_version text (t ∷ number ∷ u ∷ []) rest v p =
    let k : t.kind ≡ kind.Word = p.0.0.0 in
    let e : t.text ≡ codes "OPENQASM" = p.0.0.1 in
    let n : is_number number.kind ≡ true = number_is number.kind p.1.0.0.0 in
    let f : number.text ≡ text = p.1.0.0.1 in
    let g : u.kind ≡ kind.Sign = p.1.1.0.0.0 in
    let i : u.text ≡ codes ";" = p.1.1.0.0.1 in
    let known : is_version number.text ≡ true = ap is_version f ∙ v in
    rw (k, e, n, known, g, i) (ap (λ (x : List ℕ). (Some x, rest)) f)

-- ---- a source

all_read : IsCompleteAt limits.depth limits.operators → (ss : List Stmt) (front : List Token) (n : ℕ) → length front ≤ n → AllByRecursion (IsWellFormed limits) ss → Spells (flat_map spell_stmt ss) front → statements_at n front ≡ (ss, [])
all_read h ss front n l w p = ap (statements_at n) (sym (append-nil front)) ∙ reads_statements h ss n front (omega (arith, l, ap length (append-nil front))) w p

-- a source is read whole
pub record ReadsSource (tokens : List Token) (source : Source) : Type 0 where
  pub version : (version_at tokens).0 ≡ source.version
  pub statements : statements_at (length tokens) (version_at tokens).1 ≡ (source.body, [])

pub reads_source : IsCompleteAt limits.depth limits.operators → (tokens : List Token) (source : Source) → IsTreeOf tokens source → ReadsSource tokens source
reads_source h tokens source t = from source.version source.body t.follows.version t.follows.body t.spelled
  where
    from : (version : Option (List ℕ)) (body : List Stmt) → IsVersion version → AllByRecursion (IsWellFormed limits) body → Spells (spell_version version ++ flat_map spell_stmt body) tokens → ReadsSource tokens (record { version = version; body = body })
    from None body v w p =
        let none : version_at tokens ≡ (None, tokens) = no_version_at tokens (ap (begins_word (codes "OPENQASM")) (sym (append-nil tokens)) ∙ no_version_first body tokens w p) in
        record { version = ap (λ (x : Option (List ℕ) × List Token). x.0) none; statements = ap (λ (x : Option (List ℕ) × List Token). statements_at (length tokens) x.1) none ∙ all_read h body tokens (length tokens) (omega arith) w p }
    from (Some text) body v w p =
        let two = spells_split (spell_version (Some text)) (flat_map spell_stmt body) tokens p in
        let one : version_at tokens ≡ (Some text, two.after) = ap version_at two.is ∙ reads_version text two.front two.after v two.spells_front in
        let within : length two.after ≤ length tokens = omega (arith, ap length two.is, length-append two.front two.after) in
        record { version = ap (λ (x : Option (List ℕ) × List Token). x.0) one; statements = ap (λ (x : Option (List ℕ) × List Token). statements_at (length tokens) x.1) one ∙ all_read h body two.after (length tokens) within w two.spells_after }

same_source : (version version2 : Option (List ℕ)) (body body2 : List Stmt) → version ≡ version2 → body ≡ body2 → (let a : Source = record { version = version; body = body } in let b : Source = record { version = version2; body = body2 } in a ≡ b)
same_source version version2 body body2 e f = cc

pub tree-once : IsCompleteAt limits.depth limits.operators → TreeOnce
tree-once h tokens source other t u =
    let a = reads_source h tokens source t in
    let b = reads_source h tokens other u in
    same_source source.version other.version source.body other.body (sym a.version ∙ b.version) (ap (λ (x : List Stmt × List Token). x.0) (sym a.statements ∙ b.statements))

-- ---- the rest

-- no whole statements leave less
pub leaves_least : IsCompleteAt limits.depth limits.operators → (tokens other : List Token) → Leaves tokens other → length (left_after (length tokens) tokens) ≤ length other
leaves_least h tokens other l = from l.source.version l.source.body l.is.follows.version l.is.follows.body l.is.spelled
  where
    -- all tokens are no less than what is left of them
    all_tokens : length (left_after (length tokens) tokens) ≤ length tokens
    all_tokens = let s = sound-source (length tokens) tokens in omega (arith, ap length s.split, length-append s.front (left_after (length tokens) tokens))

    from : (version : Option (List ℕ)) (body : List Stmt) → IsVersion version → AllByRecursion (IsWellFormed limits) body → Spells (spell_version version ++ flat_map spell_stmt body) l.front → length (left_after (length tokens) tokens) ≤ length other
    from None [] v w p = omega (arith, all_tokens, ap length (l.split ∙ ap (λ (us : List Token). us ++ other) (nothing_spelled l.front p)))
    from None (s ∷ ss) v w p =
        let none : version_at tokens ≡ (None, tokens) = no_version_at tokens (ap (begins_word (codes "OPENQASM")) l.split ∙ starts_no_version (l.front ++ other) (statements_start s ss l.front other w.0.follows p)) in
        let same : left_after (length tokens) tokens ≡ (statements_at (length tokens) (l.front ++ other)).1 = ap (λ (x : Option (List ℕ) × List Token). (statements_at (length tokens) x.1).1) none ∙ ap (λ (us : List Token). (statements_at (length tokens) us).1) l.split in
        omega (arith, ap length same, reads_most h (s ∷ ss) (length tokens) l.front other (omega (arith, ap length l.split)) w p)
    from (Some text) body v w p =
        let two = spells_split (spell_version (Some text)) (flat_map spell_stmt body) l.front p in
        let is : tokens ≡ two.front ++ (two.after ++ other) = l.split ∙ (ap (λ (us : List Token). us ++ other) two.is ∙ append_assoc two.front two.after other) in
        let one : version_at tokens ≡ (Some text, two.after ++ other) = ap version_at is ∙ reads_version text two.front (two.after ++ other) v two.spells_front in
        let same : left_after (length tokens) tokens ≡ (statements_at (length tokens) (two.after ++ other)).1 = ap (λ (x : Option (List ℕ) × List Token). (statements_at (length tokens) x.1).1) one in
        let within : length (two.after ++ other) ≤ length tokens = omega (arith, ap length is, length-append two.front (two.after ++ other)) in
        omega (arith, ap length same, reads_most h body (length tokens) two.after other within w two.spells_after)

pub left-is_rest : IsCompleteAt limits.depth limits.operators → (tokens : List Token) → IsRest tokens (left_after (length tokens) tokens)
left-is_rest h tokens = record { left = sound-source (length tokens) tokens; least = λ other l. leaves_least h tokens other l }
