-- Statements in other ones, bodies, boxes and loops are read where they are spelled.
use Rattle.std.proofs.Common.{◌≡◌, ℕ, zero, suc, true, codes, List, [], ◌∷◌, ◌++◌, map, option_map, Option, Some, None, refl, sym, ap, subst, ◌∙◌, arith}
use Rattle.std.proofs.lemmas.Bool.{and_parts}
use Rattle.qs_values.specs.Names.{is_name}
use Rattle.qs_lexer.specs.declared.token.Token.{Token}
use Rattle.qs_tree.specs.declared.expr.Expr.{Expr}
use Rattle.qs_tree.specs.declared.expr.ExprKind.{ExprKind}
use Rattle.qs_tree.specs.declared.expr.ExprKind.TheOpen as layer
use Rattle.qs_tree.specs.declared.expr.TypeExpr.{TypeExpr}
use Rattle.qs_tree.specs.declared.gate.Call.{Call as Called}
use Rattle.qs_tree.specs.declared.gate.Modifier.{Modifier}
use Rattle.qs_tree.specs.declared.name.Ident.{Ident}
use Rattle.qs_tree.specs.declared.operand.Place.{Place}
use Rattle.qs_tree.specs.declared.operand.Operand.{Operand}
use Rattle.qs_tree.specs.declared.operand.Value.{Value}
use Rattle.qs_tree.specs.declared.pulse.Param.{Param}
use Rattle.qs_tree.specs.declared.pulse.Item.{Item}
use Rattle.qs_tree.specs.declared.statement.Body.{Body, out-Body, roll-Body, roll-out-Body}
use Rattle.qs_tree.specs.declared.statement.Body.TheVariants.{One, Braces, rolls-One, rolls-Braces}
use Rattle.qs_tree.specs.declared.statement.Range.{Range}
use Rattle.qs_tree.specs.declared.statement.Stmt.{Stmt}
use Rattle.qs_tree.specs.declared.statement.StmtKind.{StmtKind}
use Rattle.qs_tree.specs.declared.statement.StmtKind.TheVariants.{Box, While, For}
use Rattle.qs_tree.specs.Spelling.{Piece, Sign, Word, Spells, if_there, in_braces, in_round, in_square, joined, name, sign, spell, spell_body, spell_range, spell_stmt, spell_stmt_kind, spell_type, word}
use Rattle.qs_tree.specs.WellFormed.{Features, block as block_of, both, if_in_brackets, in_brackets, may_nest, nested as nested_of, of_body, of_expr, of_range, of_stmt, of_stmt_kind, of_type}
use Rattle.qs_tree.proofs.Spelled.{spell-Box, spell-Braces, spell-For, spell-One, spell-While}
use Rattle.qs_parser.specs.steps.Tokens.{◌>>=◌, Readers, Reads, begins_sign}
use Rattle.qs_parser.specs.steps.Expressions.{enclosed}
use Rattle.qs_parser.specs.steps.Statements.{body_at, box_at, for_at, nested_at, range_at, stmt_of, type_at, while_at}
use Rattle.qs_parser.proofs.Featured.{features-Box, features-Braces, features-For, features-One, features-While}
use Rattle.qs_parser.proofs.TokenPieces.{after_word_at, begins_sign_at, name_at_name}
use Rattle.qs_parser.proofs.Complete.{ClosesStmt, Fits, IsComplete, IsCompleteBelow}
use Rattle.qs_parser.proofs.CompleteExprParts.{close_round, complete-enclosed, fits_as, fits_both, fits_where}
use Rattle.qs_parser.proofs.CompleteExprCases.{spells_as}
use Rattle.qs_parser.proofs.CompleteStmtParts.{NoIndex, complete-bracket_at, complete-type_at, next, regroup}
use Rattle.qs_parser.proofs.CompleteStmtSimple.{StmtRead, by_word}
use Rattle.qs_parser.proofs.CompleteBegins.{stmt_no_sign_alone}
use Rattle.qs_parser.proofs.CompleteBlocks.{complete-block_at}
use Rattle.qs_parser.proofs.CompleteRanges.{complete-range_at}

-- ---- statements in other ones

-- the readers one construct deeper, where a statement stands in another one
pub record Nested (f : Features) (d : ℕ) (below : Option Readers) (renew left after : ℕ) : Type 0 where
  pub deeper : ℕ
  pub readers : Readers
  pub is : below ≡ Some readers
  pub complete : IsComplete deeper readers
  pub nests : may_nest f.standing ≡ true
  pub fits : Fits f deeper renew left after

pub nested_in : (f : Features) (d : ℕ) (below : Option Readers) (renew left after : ℕ) → IsCompleteBelow d below → Fits (nested_of f) d renew left after → Nested f d below renew left after
nested_in f zero below renew left after h g = absurd (omega (arith, g.depth))
nested_in f (suc d) None renew left after h g = absurd h
nested_in f (suc d) (Some b) renew left after h g =
    let p = and_parts (may_nest f.standing) f.follows g.follows in
    record { deeper = d; readers = b; is = refl; complete = h; nests = p.0; fits = record { follows = p.1; depth = omega (arith, g.depth); spent = g.spent } }

pub nested_by : (b : Readers) (below : Option Readers) → below ≡ Some b → (renew left : ℕ) (ts : List Token) → nested_at below renew left ts ≡ b.stmt renew left ts
unfolding nested_at
nested_by b below e renew left ts = rw (nested_at, e) refl

pub complete-nested_at : (s : Stmt) (below : Option Readers) (d renew left after : ℕ) (front rest : List Token) → IsCompleteBelow d below → Fits (nested_of (of_stmt s)) d renew left after → Spells (spell_stmt s) front → ClosesStmt (of_stmt s) rest → nested_at below renew left (front ++ rest) ≡ Some (s, after, rest)
complete-nested_at s below d renew left after front rest h f t c =
    let n = nested_in (of_stmt s) d below renew left after h f in
    nested_by n.readers below n.is renew left (front ++ rest) ∙ n.complete.stmt s renew left after front rest n.fits n.nests t c

-- ---- bodies

pub data BodyCase : Body → Type 0 where
  is_one : (s : Stmt) → BodyCase (One s)
  is_braces : (ss : List Stmt) → BodyCase (Braces ss)

body_layer : (l : layer.Body-F ExprKind Modifier Operand Value Item Param Body Range StmtKind Expr TypeExpr Called Place Stmt) → BodyCase (roll-Body l)
body_layer (layer.One s) = subst BodyCase (sym (rolls-One s)) (is_one s)
body_layer (layer.Braces ss) = subst BodyCase (sym (rolls-Braces ss)) (is_braces ss)

pub body_case : (b : Body) → BodyCase b
body_case b = subst BodyCase (roll-out-Body b) (body_layer (out-Body b))

-- a body that is one statement
pub one_fits : (s : Stmt) {d renew left after : ℕ} → Fits (of_body (One s)) d renew left after → Fits (nested_of (of_stmt s)) d renew left after
one_fits s f = let g = fits_as (features-One s) f in record { follows = g.follows; depth = g.depth; spent = g.spent }

pub one_lacks : (s : Stmt) → (of_body (One s)).lacks_else ≡ (of_stmt s).lacks_else
one_lacks s = ap (λ (f : Features). f.lacks_else) (features-One s)

-- the statement of a body that is no block is read where a statement stands in another one
pub body_of_one : (s : Stmt) (below : Option Readers) (renew left : ℕ) (front rest : List Token) → Spells (spell_body (One s)) front → body_at below renew left (front ++ rest) ≡ (nested_at below renew left (front ++ rest) >>= λ x. Some (One x.0, x.1, x.2))
unfolding body_at
body_of_one s below renew left front rest t = rw (body_at, stmt_no_sign_alone s (codes "{") front rest (spells_as front (spell-One s) t)) refl

body_read : (b : Body) → BodyCase b → (below : Option Readers) (d renew left after : ℕ) (front rest : List Token) → IsCompleteBelow d below → Fits (of_body b) d renew left after → Spells (spell_body b) front → ClosesStmt (of_body b) rest → body_at below renew left (front ++ rest) ≡ Some (b, after, rest)
unfolding body_at
body_read _ (is_one s) below d renew left after front rest h f t c =
    body_of_one s below renew left front rest t ∙ rw (complete-nested_at s below d renew left after front rest h (one_fits s f) (spells_as front (spell-One s) t) (λ e. c (one_lacks s ∙ e))) refl
body_read _ (is_braces ss) below d renew left after front rest h f t c =
    let u = spells_as front (spell-Braces ss) t in
    let begins : begins_sign (codes "{") (front ++ rest) ≡ true = begins_sign_at (codes "{") (record { shows = Sign (codes "{"); places = [] }) (joined (map spell_stmt ss) ++ sign (codes "}")) front rest u in
    rw (body_at, begins, complete-block_at ss below d renew left after front rest h (fits_as (features-Braces ss) f) u) refl

pub complete-body_at : (b : Body) (below : Option Readers) (d renew left after : ℕ) (front rest : List Token) → IsCompleteBelow d below → Fits (of_body b) d renew left after → Spells (spell_body b) front → ClosesStmt (of_body b) rest → body_at below renew left (front ++ rest) ≡ Some (b, after, rest)
complete-body_at b below d renew left after front rest h f t c = body_read b (body_case b) below d renew left after front rest h f t c

-- ---- boxes

box_read : (time : Option Expr) (ss : List Stmt) (below : Option Readers) (d renew left after : ℕ) (front rest : List Token) → IsCompleteBelow d below → Fits (both (if_in_brackets (option_map of_expr time)) (block_of (map of_stmt ss))) d renew left after → Spells (if_there in_square (option_map spell time) ++ in_braces (map spell_stmt ss)) front → box_at below renew left (front ++ rest) ≡ Some (Box time ss, after, rest)
unfolding box_at
box_read time ss below d renew left after front rest h f t =
    let fs = fits_both (if_in_brackets (option_map of_expr time)) (block_of (map of_stmt ss)) d renew left after f in
    let n = next (if_there in_square (option_map spell time)) (in_braces (map spell_stmt ss)) front rest t in
    let bare : NoIndex (n.last ++ rest) = begins_sign_at (codes "[") (record { shows = Sign (codes "{"); places = [] }) (joined (map spell_stmt ss) ++ sign (codes "}")) n.last rest n.spells_last in
    let r1 = complete-bracket_at time below d renew left fs.between n.first (n.last ++ rest) h fs.first n.spells_first bare in
    let r2 = complete-block_at ss below d renew fs.between after n.last rest h fs.second n.spells_last in
    ap (box_at below renew left) n.is ∙ rw (box_at, r1, r2) refl

pub read-box : (time : Option Expr) (ss : List Stmt) (below : Option Readers) (d renew left after : ℕ) (front rest : List Token) → IsCompleteBelow d below → Fits (of_stmt_kind (Box time ss)) d renew left after → Spells (spell_stmt_kind (Box time ss)) front → StmtRead (Box time ss) below renew left after front rest
unfolding stmt_of
read-box time ss below d renew left after front rest h f t =
    by_word (codes "box") (if_there in_square (option_map spell time) ++ in_braces (map spell_stmt ss)) (Box time ss) below renew left after front rest (spells_as front (spell-Box time ss) t) (λ last every u. box_read time ss below d renew left after last rest h (fits_as (features-Box time ss) f) u)

-- ---- loops

-- what stands before a body is read, so that whatever is read as the body makes the statement
pub record HeadRead (make : Body → StmtKind) (b : Body) (below : Option Readers) (d renew after : ℕ) (rest : List Token) (read : Reads StmtKind) : Type 0 where
  pub between : ℕ
  pub mid : List Token
  pub fits : Fits (of_body b) d renew between after
  pub spells : Spells (spell_body b) mid
  pub gives : (y : Body × ℕ × List Token) → body_at below renew between (mid ++ rest) ≡ Some y → read ≡ Some (make y.0, y.1, y.2)

head_body : (make : Body → StmtKind) (b : Body) (below : Option Readers) (d renew after : ℕ) (rest : List Token) (read : Reads StmtKind) → IsCompleteBelow d below → ClosesStmt (of_body b) rest → HeadRead make b below d renew after rest read → read ≡ Some (make b, after, rest)
head_body make b below d renew after rest read h c r = r.gives (b, after, rest) (complete-body_at b below d renew r.between after r.mid rest h r.fits r.spells c)

pub while_head : (test : Expr) (b : Body) (below : Option Readers) (d renew left after : ℕ) (front rest : List Token) → IsCompleteBelow d below → Fits (of_stmt_kind (While test b)) d renew left after → Spells (in_round (spell test) ++ spell_body b) front → HeadRead (λ x. While test x) b below d renew after rest (while_at below renew left (front ++ rest))
unfolding while_at
while_head test b below d renew left after front rest h f t =
    let g = fits_as (features-While test b) f in
    let fs = fits_both (in_brackets (of_expr test)) (of_body b) d renew left after (record { follows = g.follows; depth = g.depth; spent = g.spent }) in
    let n = next (in_round (spell test)) (spell_body b) front rest t in
    let r1 : enclosed (codes "(") (codes ")") below renew left (front ++ rest) ≡ Some (test, fs.between, n.last ++ rest) = ap (enclosed (codes "(") (codes ")") below renew left) n.is ∙ complete-enclosed (codes "(") (codes ")") close_round test below d renew left fs.between n.first (n.last ++ rest) h fs.first n.spells_first in
    record { between = fs.between; mid = n.last; fits = fs.second; spells = n.spells_last; gives = λ y e. rw (while_at, r1, e) refl }

pub while_lacks : (test : Expr) (b : Body) → (of_stmt_kind (While test b)).lacks_else ≡ (of_body b).lacks_else
while_lacks test b = ap (λ (f : Features). f.lacks_else) (features-While test b)

pub read-while : (test : Expr) (b : Body) (below : Option Readers) (d renew left after : ℕ) (front rest : List Token) → IsCompleteBelow d below → Fits (of_stmt_kind (While test b)) d renew left after → Spells (spell_stmt_kind (While test b)) front → ClosesStmt (of_stmt_kind (While test b)) rest → StmtRead (While test b) below renew left after front rest
unfolding stmt_of
read-while test b below d renew left after front rest h f t c =
    by_word (codes "while") (in_round (spell test) ++ spell_body b) (While test b) below renew left after front rest (spells_as front (spell-While test b) t) (λ last every u. head_body (λ x. While test x) b below d renew after rest (while_at below renew left (last ++ rest)) h (λ e. c (while_lacks test b ∙ e)) (while_head test b below d renew left after last rest h f u))

pub for_head : (type : TypeExpr) (n : Ident) (r : Range) (b : Body) (below : Option Readers) (d renew left after : ℕ) (front rest : List Token) → IsCompleteBelow d below → Fits (of_stmt_kind (For type n r b)) d renew left after → Spells (spell_type type ++ name n ++ word (codes "in") ++ spell_range r ++ spell_body b) front → HeadRead (λ x. For type n r x) b below d renew after rest (for_at below renew left (front ++ rest))
unfolding for_at
for_head type n r b below d renew left after front rest h f t =
    let g = fits_where (is_name n.name) (fits_as (features-For type n r b) f) in
    let f1 = fits_both (of_type type) (both (of_range r) (of_body b)) d renew left after (record { follows = g.1.follows; depth = g.1.depth; spent = g.1.spent }) in
    let f2 = fits_both (of_range r) (of_body b) d renew f1.between after f1.second in
    let last : List Piece = spell_range r ++ spell_body b in
    let t2 = regroup (spell_type type ++ name n) (word (codes "in")) last front (regroup (spell_type type ++ name n ++ word (codes "in")) (spell_range r) (spell_body b) front t) in
    let n1 = next (spell_type type) (name n ++ (word (codes "in") ++ last)) front rest (regroup (spell_type type) (name n) (word (codes "in") ++ last) front t2) in
    let bare : NoIndex (n1.last ++ rest) = begins_sign_at (codes "[") (record { shows = Word n.name; places = n.span ∷ [] }) (word (codes "in") ++ last) n1.last rest n1.spells_last in
    let r1 : type_at below renew left (front ++ rest) ≡ Some (type, f1.between, n1.last ++ rest) = ap (type_at below renew left) n1.is ∙ complete-type_at type below d renew left f1.between n1.first (n1.last ++ rest) h f1.first n1.spells_first bare in
    let one = name_at_name n (word (codes "in") ++ last) n1.last rest g.0 n1.spells_last in
    let two = after_word_at (codes "in") last one.front rest one.spells in
    let n2 = next (spell_range r) (spell_body b) two.front rest two.spells in
    let r2 : range_at below renew f1.between (two.front ++ rest) ≡ Some (r, f2.between, n2.last ++ rest) = ap (range_at below renew f1.between) n2.is ∙ complete-range_at r below d renew f1.between f2.between n2.first (n2.last ++ rest) h f2.first n2.spells_first in
    record { between = f2.between; mid = n2.last; fits = f2.second; spells = n2.spells_last; gives = λ y e. rw (for_at, r1, one.is, two.is, r2, e) refl }

pub for_lacks : (type : TypeExpr) (n : Ident) (r : Range) (b : Body) → (of_stmt_kind (For type n r b)).lacks_else ≡ (of_body b).lacks_else
for_lacks type n r b = ap (λ (f : Features). f.lacks_else) (features-For type n r b)

pub read-for : (type : TypeExpr) (n : Ident) (r : Range) (b : Body) (below : Option Readers) (d renew left after : ℕ) (front rest : List Token) → IsCompleteBelow d below → Fits (of_stmt_kind (For type n r b)) d renew left after → Spells (spell_stmt_kind (For type n r b)) front → ClosesStmt (of_stmt_kind (For type n r b)) rest → StmtRead (For type n r b) below renew left after front rest
unfolding stmt_of
read-for type n r b below d renew left after front rest h f t c =
    by_word (codes "for") (spell_type type ++ name n ++ word (codes "in") ++ spell_range r ++ spell_body b) (For type n r b) below renew left after front rest (spells_as front (spell-For type n r b) t) (λ last every u. head_body (λ x. For type n r x) b below d renew after rest (for_at below renew left (last ++ rest)) h (λ e. c (for_lacks type n r b ∙ e)) (for_head type n r b below d renew left after last rest h f u))
