-- Statements with a body are read as they are spelled.
use Rattle.std.proofs.Common.{◌≡◌, ℕ, suc, ◌≤◌, true, false, List, [], ◌∷◌, ◌++◌, length, map, codes, Option, Some, None, refl, ap, subst, arith}
use Rattle.std.specs.Prelude.{◌&&◌}
use Rattle.std.specs.Str.{bytes_eq}
use Rattle.std.proofs.lemmas.Bool.{and_from, and_parts, not_from_false}
use Rattle.qs_values.specs.declared.span.Span.{Span}
use Rattle.qs_lexer.specs.declared.token.Token.{Token}
use Rattle.qs_tree.specs.declared.expr.Expr.{Expr}
use Rattle.qs_tree.specs.declared.statement.Body.{Body}
use Rattle.qs_tree.specs.declared.statement.Body.TheVariants.{One, Braces}
use Rattle.qs_tree.specs.declared.statement.Range.TheVariants.{Interval, Set}
use Rattle.qs_tree.specs.declared.statement.Stmt.{Stmt}
use Rattle.qs_tree.specs.declared.statement.StmtKind.TheVariants.{Box, If, While, For}
use Rattle.qs_tree.specs.Spelling.{in_braces, in_round, sign, spell, spell_body, spell_range, spell_stmt, word}
use Rattle.qs_tree.specs.WellFormed.{Features, all as all_of, block, both, in_brackets, may_nest, nested, nothing, of_body, of_expr, of_range, of_stmt, of_type}
use Rattle.qs_tree.proofs.Spelled.{spell-Box, spell-Braces, spell-For, spell-If, spell-Interval, spell-One, spell-Set, spell-While}
use Rattle.qs_parser.specs.steps.Tokens.{Readers, Reads, after_sign, after_word, begins_sign, has_sign, renewed}
use Rattle.qs_parser.specs.steps.Statements.{block_at, body_at, box_at, else_at, for_at, if_at, if_else, interval_at, interval_end, nested_at, range_at, set_at, while_at}
use Rattle.qs_parser.proofs.Featured.{features-Box, features-Braces, features-For, features-If, features-Interval, features-One, features-Set, features-While}
use Rattle.qs_parser.proofs.TokenPieces.{Took, same_text, sign_kind, took_nothing, took_one, took_sign, took_then, took_word}
use Rattle.qs_parser.proofs.SoundParts.{Counted, Holds, Read, counted_both, counted_brackets, counted_nothing, counted_where, holds_bind, holds_either, holds_if, holds_sign, holds_some, holds_with, holds_word}
use Rattle.qs_parser.proofs.SoundLists.{sound-commas, sound-up_to_brace}
use Rattle.qs_parser.proofs.SoundReaders.{BeginsAt, IsSoundBelow, OneDeeper, ReadStmtKind}
use Rattle.qs_parser.proofs.SoundExprParts.{read_as, sound-enclosed, sound-renewed, took_at_place}
use Rattle.qs_parser.proofs.SoundStmtParts.{holds_name, sound-bracket_at, sound-type_at}
use Rattle.qs_parser.proofs.SoundCalls.{stmt_as}

-- ---- statements in other ones

-- statements in other ones, one by one
pub map_nested : (ss : List Stmt) → map (λ s. nested (of_stmt s)) ss ≡ map nested (map of_stmt ss)
map_nested [] = refl
map_nested (s ∷ ss) = ap (λ (fs : List Features). nested (of_stmt s) ∷ fs) (map_nested ss)

pub sound-block_at : (below : Option Readers) (d renew : ℕ) → IsSoundBelow d below → (left : ℕ) (ts : List Token) → Holds (block_at below renew left ts) (λ y. Read (in_braces (map spell_stmt y.0)) (block (map of_stmt y.0)) d renew left ts y.1 y.2)
unfolding block_at
sound-block_at below d renew h left ts =
    holds_bind (holds_sign (codes "{") ts) (λ rest s.
    holds_bind h (λ b one.
    holds_with (sound-up_to_brace spell_stmt (λ s. nested (of_stmt s)) one.e renew (b.nested renew) (λ l us. one.sound.nested renew l us) (length rest) left rest) (λ y r.
    record { took = took_then s r.took; counted = counted_brackets one.room (subst (λ (fs : List Features). Counted (all_of fs) one.e renew left y.1) (map_nested y.0) r.counted) })))

counted_nested : (f : Features) (e d renew left after : ℕ) → suc e ≤ d → may_nest f.standing ≡ true → Counted f e renew left after → Counted (nested f) d renew left after
counted_nested f e d renew left after room n c = record { follows = and_from _ _ n c.follows; depth = omega (arith, room, c.depth); spent = c.spent }

pub sound-nested_at : (below : Option Readers) (d renew : ℕ) → IsSoundBelow d below → (left : ℕ) (ts : List Token) → Holds (nested_at below renew left ts) (λ y. Read (spell_stmt y.0) (nested (of_stmt y.0)) d renew left ts y.1 y.2)
unfolding nested_at
sound-nested_at below d renew h left ts =
    holds_bind h (λ b one.
    holds_with (one.sound.stmt renew left ts) (λ y r.
    record { took = r.read.took; counted = counted_nested (of_stmt y.0) one.e d renew left y.1 one.room r.nests r.read.counted }))

pub sound-body_at : (below : Option Readers) (d renew : ℕ) → IsSoundBelow d below → (left : ℕ) (ts : List Token) → Holds (body_at below renew left ts) (λ y. Read (spell_body y.0) (of_body y.0) d renew left ts y.1 y.2)
unfolding body_at
sound-body_at below d renew h left ts =
    holds_if (begins_sign (codes "{") ts) (λ y.
    holds_bind (sound-block_at below d renew h left ts) (λ ss r.
    holds_some (Braces ss.0, ss.1, ss.2) (read_as (spell-Braces ss.0) (features-Braces ss.0) r.took r.counted)))
    (λ n.
    holds_bind (sound-nested_at below d renew h left ts) (λ s r.
    holds_some (One s.0, s.1, s.2) (read_as (spell-One s.0) (features-One s.0) r.took (record { follows = r.counted.follows; depth = r.counted.depth; spent = r.counted.spent }))))

pub sound-box_at : (below : Option Readers) (d renew : ℕ) → IsSoundBelow d below → (left : ℕ) (all ts : List Token) → Took (word (codes "box")) all ts → Holds (box_at below renew left ts) (ReadStmtKind d renew left all)
unfolding box_at
sound-box_at below d renew h left all ts first =
    holds_bind (sound-bracket_at below d renew h left ts) (λ time a.
    holds_bind (sound-block_at below d renew h time.1 time.2) (λ ss b.
    holds_some (Box time.0 ss.0, ss.1, ss.2)
    (stmt_as (spell-Box time.0 ss.0) (features-Box time.0 ss.0) (took_then (took_then first a.took) b.took) (counted_both a.counted b.counted) refl)))

-- ---- conditions

-- an `if` with its body, before what an `else` reads
record ReadIf (d renew left : ℕ) (all : List Token) (test : Expr) (body : Body) (between : ℕ) (ts : List Token) : Type 0 where
  pub took : Took (word (codes "if") ++ in_round (spell test) ++ spell_body body) all ts
  pub mid : ℕ
  pub test_counted : Counted (in_brackets (of_expr test)) d renew left mid
  pub body_counted : Counted (of_body body) d renew mid between

without_else : (d renew left : ℕ) (all : List Token) (test : Expr) (body : Body) (between : ℕ) (ts : List Token) → ReadIf d renew left all test body between ts → ReadStmtKind d renew left all (If test body None, between, ts)
without_else d renew left all test body between ts i =
    let c : Counted (both (in_brackets (of_expr test)) (both (of_body body) nothing)) d renew left between = counted_both i.test_counted (counted_both i.body_counted counted_nothing) in
    stmt_as (spell-If test body None) (features-If test body None) (took_then i.took (took_nothing ts)) (record { follows = c.follows; depth = c.depth; spent = c.spent }) refl

with_else : (d renew left : ℕ) (all : List Token) (test : Expr) (body other : Body) (between after : ℕ) (ts us rest : List Token) → ReadIf d renew left all test body between ts → (of_body body).lacks_else ≡ false → Took (word (codes "else")) ts us → Read (spell_body other) (of_body other) d renew between us after rest → ReadStmtKind d renew left all (If test body (Some other), after, rest)
with_else d renew left all test body other between after ts us rest i ends w r =
    let c : Counted (both (in_brackets (of_expr test)) (both (of_body body) (of_body other))) d renew left after = counted_both i.test_counted (counted_both i.body_counted r.counted) in
    stmt_as (spell-If test body (Some other)) (features-If test body (Some other)) (took_then i.took (took_then w r.took)) (record { follows = and_from _ _ (not_from_false _ ends) c.follows; depth = c.depth; spent = c.spent }) refl

sound-if_else : (d renew left : ℕ) (all : List Token) (test : Expr) (body : Body) (between : ℕ) (ts us : List Token) (read : Reads Body) → ReadIf d renew left all test body between ts → (of_body body).lacks_else ≡ false → Took (word (codes "else")) ts us → Holds read (λ y. Read (spell_body y.0) (of_body y.0) d renew between us y.1 y.2) → Holds (if_else test body between ts read) (ReadStmtKind d renew left all)
sound-if_else d renew left all test body between ts us None i ends w h = holds_some (If test body None, between, ts) (without_else d renew left all test body between ts i)
sound-if_else d renew left all test body between ts us (Some other) i ends w h = holds_some (If test body (Some other.0), other.1, other.2) (with_else d renew left all test body other.0 between other.1 ts us other.2 i ends w h.is)

sound-else_at : (below : Option Readers) (d renew : ℕ) → IsSoundBelow d below → (test : Expr) (body : Body) (left between : ℕ) (all ts : List Token) → ReadIf d renew left all test body between ts → Holds (else_at below test body renew between ts) (ReadStmtKind d renew left all)
unfolding else_at
sound-else_at below d renew h test body left between all ts i =
    holds_either (after_word (codes "else") ts) (λ e. holds_some (If test body None, between, ts) (without_else d renew left all test body between ts i)) (λ rest e.
    holds_if (of_body body).lacks_else (λ y. holds_some (If test body None, between, ts) (without_else d renew left all test body between ts i)) (λ n.
    sound-if_else d renew left all test body between ts rest (body_at below renew between rest) i n (took_word (codes "else") ts rest e) (sound-body_at below d renew h between rest)))

pub sound-if_at : (below : Option Readers) (d renew : ℕ) → IsSoundBelow d below → (left : ℕ) (all ts : List Token) → Took (word (codes "if")) all ts → Holds (if_at below renew left ts) (ReadStmtKind d renew left all)
unfolding if_at
sound-if_at below d renew h left all ts first =
    holds_bind (sound-enclosed (codes "(") (codes ")") below d renew h left ts) (λ test a.
    holds_bind (sound-body_at below d renew h test.1 test.2) (λ body b.
    sound-else_at below d renew h test.0 body.0 left body.1 all body.2 (record { took = took_then (took_then first a.took) b.took; mid = test.1; test_counted = a.counted; body_counted = b.counted })))

-- ---- loops

pub sound-while_at : (below : Option Readers) (d renew : ℕ) → IsSoundBelow d below → (left : ℕ) (all ts : List Token) → Took (word (codes "while")) all ts → Holds (while_at below renew left ts) (ReadStmtKind d renew left all)
unfolding while_at
sound-while_at below d renew h left all ts first =
    holds_bind (sound-enclosed (codes "(") (codes ")") below d renew h left ts) (λ test a.
    holds_bind (sound-body_at below d renew h test.1 test.2) (λ body b.
    let c : Counted (both (in_brackets (of_expr test.0)) (of_body body.0)) d renew left body.1 = counted_both a.counted b.counted in
    holds_some (While test.0 body.0, body.1, body.2)
    (stmt_as (spell-While test.0 body.0) (features-While test.0 body.0) (took_then (took_then first a.took) b.took) (record { follows = c.follows; depth = c.depth; spent = c.spent }) refl)))

-- an interval, before its end
record ReadInterval (e renew left : ℕ) (all : List Token) (first : Expr) (between : ℕ) (us : List Token) : Type 0 where
  pub inner : List Token
  pub opens : Took (sign (codes "[")) all inner
  pub took : Took (spell first ++ sign (codes ":")) inner us
  pub counted : Counted (of_expr first) e renew left between

sound-interval_end : (b : Readers) (d renew : ℕ) (one : OneDeeper d b) (span : Span) (first second : Expr) (left mid between : ℕ) (all us ts : List Token) → BeginsAt span all → ReadInterval one.e renew left all first mid us → Read (spell second) (of_expr second) one.e renew mid us between ts → Holds (interval_end b span first renew second between ts) (λ y. Read (spell_range y.0) (of_range y.0) d renew left all y.1 y.2)
unfolding interval_end
sound-interval_end b d renew one span first second left mid between all us ts begins i r =
    holds_either (after_sign (codes ":") ts) (λ e.
    holds_bind (holds_sign (codes "]") ts) (λ rest t.
    holds_some (Interval span first None second, between, rest) (read_as (spell-Interval span first None second) (features-Interval span first None second)
    (took_at_place span _ all rest begins (took_then i.opens (took_then (took_then (took_then i.took (took_nothing us)) r.took) t)))
    (counted_brackets one.room (counted_both i.counted (counted_both counted_nothing r.counted))))))
    (λ after e.
    holds_bind (sound-renewed renew (b.expr between after) (one.sound.expr between after)) (λ last l.
    holds_bind (holds_sign (codes "]") last.2) (λ rest t.
    holds_some (Interval span first (Some second) last.0, last.1, rest) (read_as (spell-Interval span first (Some second) last.0) (features-Interval span first (Some second) last.0)
    (took_at_place span _ all rest begins (took_then i.opens (took_then (took_then (took_then i.took (took_then r.took (took_sign (codes ":") ts after e))) l.took) t)))
    (counted_brackets one.room (counted_both i.counted (counted_both r.counted l.counted)))))))

sound-interval_at : (below : Option Readers) (d renew : ℕ) → IsSoundBelow d below → (span : Span) (left : ℕ) (all ts : List Token) → BeginsAt span all → Took (sign (codes "[")) all ts → Holds (interval_at below span renew left ts) (λ y. Read (spell_range y.0) (of_range y.0) d renew left all y.1 y.2)
unfolding interval_at
sound-interval_at below d renew h span left all ts begins opens =
    holds_bind h (λ b one.
    holds_bind (sound-renewed renew (b.expr left ts) (one.sound.expr left ts)) (λ first f.
    holds_bind (holds_sign (codes ":") first.2) (λ rest s.
    holds_bind (sound-renewed renew (b.expr first.1 rest) (one.sound.expr first.1 rest)) (λ second r.
    sound-interval_end b d renew one span first.0 second.0 left first.1 second.1 all rest second.2 begins (record { inner = ts; opens = opens; took = took_then f.took s; counted = f.counted }) r))))

sound-set_at : (below : Option Readers) (d renew : ℕ) → IsSoundBelow d below → (span : Span) (left : ℕ) (all ts : List Token) → BeginsAt span all → Took (sign (codes "{")) all ts → Holds (set_at below span renew left ts) (λ y. Read (spell_range y.0) (of_range y.0) d renew left all y.1 y.2)
unfolding set_at
sound-set_at below d renew h span left all ts begins opens =
    holds_bind h (λ b one.
    holds_bind (sound-commas spell of_expr one.e renew (λ l us. renewed renew (b.expr l us)) (λ l us. sound-renewed renew (b.expr l us) (one.sound.expr l us)) left ts) (λ es m.
    holds_bind (holds_sign (codes "}") es.2) (λ after t.
    holds_some (Set span es.0, es.1, after) (read_as (spell-Set span es.0) (features-Set span es.0)
    (took_at_place span _ all after begins (took_then opens (took_then m.read.took t)))
    (counted_where m.some (counted_brackets one.room m.read.counted))))))

-- a sign of this text
took_mark : (t : Token) (ts : List Token) (text : List ℕ) → (has_sign t.kind && bytes_eq t.text text) ≡ true → Took (sign text) (t ∷ ts) ts
took_mark t ts text e = let p = and_parts (has_sign t.kind) (bytes_eq t.text text) e in took_one _ t ts ((sign_kind t.kind p.0, same_text t.text text p.1), tt)

sound-range_at : (below : Option Readers) (d renew : ℕ) → IsSoundBelow d below → (left : ℕ) (ts : List Token) → Holds (range_at below renew left ts) (λ y. Read (spell_range y.0) (of_range y.0) d renew left ts y.1 y.2)
unfolding range_at
sound-range_at below d renew h left [] = record { is = tt }
sound-range_at below d renew h left (t ∷ ts) =
    holds_if (has_sign t.kind && bytes_eq t.text (codes "[")) (λ e. sound-interval_at below d renew h t.span left (t ∷ ts) ts refl (took_mark t ts (codes "[") e)) (λ n1.
    holds_if (has_sign t.kind && bytes_eq t.text (codes "{")) (λ e. sound-set_at below d renew h t.span left (t ∷ ts) ts refl (took_mark t ts (codes "{") e)) (λ n2.
    record { is = tt }))

pub sound-for_at : (below : Option Readers) (d renew : ℕ) → IsSoundBelow d below → (left : ℕ) (all ts : List Token) → Took (word (codes "for")) all ts → Holds (for_at below renew left ts) (ReadStmtKind d renew left all)
unfolding for_at
sound-for_at below d renew h left all ts first =
    holds_bind (sound-type_at below d renew h left ts) (λ type a.
    holds_bind (holds_name type.2) (λ n k.
    holds_bind (holds_word (codes "in") n.1) (λ rest w.
    holds_bind (sound-range_at below d renew h type.1 rest) (λ range r.
    holds_bind (sound-body_at below d renew h range.1 range.2) (λ body b.
    let c : Counted (both (of_type type.0) (both (of_range range.0) (of_body body.0))) d renew left body.1 = counted_both a.counted (counted_both r.counted b.counted) in
    holds_some (For type.0 n.0 range.0 body.0, body.1, body.2)
    (stmt_as (spell-For type.0 n.0 range.0 body.0) (features-For type.0 n.0 range.0 body.0) (took_then (took_then (took_then (took_then (took_then first a.took) k.took) w) r.took) b.took)
    (record { follows = and_from _ _ k.valid c.follows; depth = c.depth; spent = c.spent }) refl))))))
