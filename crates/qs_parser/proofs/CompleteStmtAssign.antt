-- Declarations, assignments and calls are read where they are spelled.
use Rattle.std.proofs.Common.{◌≡◌, ℕ, Bool, true, false, ◌||◌, cond, codes, List, [], ◌∷◌, ◌++◌, map, option_map, Option, Some, None, refl, sym, ap, ◌∙◌}
use Rattle.std.specs.Str.{bytes_eq}
use Rattle.std.proofs.lemmas.Bool.{and_parts}
use Rattle.qs_values.specs.Names.{is_name}
use Rattle.qs_lexer.specs.declared.token.Token.{Token}
use Rattle.qs_lexer.specs.declared.token.TokenKind.TheVariants as kind
use Rattle.qs_tree.specs.declared.assign.AssignOp.{AssignOp}
use Rattle.qs_tree.specs.declared.assign.AssignOp.TheVariants as assigns
use Rattle.qs_tree.specs.declared.expr.Expr.{Expr}
use Rattle.qs_tree.specs.declared.expr.ExprKind.{ExprKind}
use Rattle.qs_tree.specs.declared.expr.TypeExpr.{TypeExpr}
use Rattle.qs_tree.specs.declared.gate.Call.{Call as Called, Call-F, out-Call, roll-Call, roll-out-Call}
use Rattle.qs_tree.specs.declared.gate.Modifier.{Modifier}
use Rattle.qs_tree.specs.declared.name.Ident.{Ident}
use Rattle.qs_tree.specs.declared.operand.Place.{Place}
use Rattle.qs_tree.specs.declared.operand.Operand.{Operand}
use Rattle.qs_tree.specs.declared.operand.Value.{Value}
use Rattle.qs_tree.specs.declared.pulse.Param.{Param}
use Rattle.qs_tree.specs.declared.pulse.Item.{Item}
use Rattle.qs_tree.specs.declared.statement.Stmt.{Stmt}
use Rattle.qs_tree.specs.declared.statement.StmtKind.{StmtKind}
use Rattle.qs_tree.specs.declared.statement.StmtKind.TheVariants.{Init, Declare, GateCall, Assign, Update}
use Rattle.qs_tree.specs.declared.statement.Body.{Body}
use Rattle.qs_tree.specs.declared.statement.Range.{Range}
use Rattle.qs_tree.specs.Spelling.{Piece, Word, Qubit, Spells, if_there, in_round, in_square, joined, name, sign, sign_of_assign, spell, spell_call, spell_modifier, spell_operand, spell_place, spell_stmt_kind, spell_type, spell_value, with_commas, after_commas as spell_after_commas}
use Rattle.qs_tree.specs.WellFormed.{Features, both, of_call, of_expr, of_place, of_stmt_kind, of_type, of_value, where_true}
use Rattle.qs_tree.proofs.Spelled.{spell-Assign, spell-Called, spell-Declare, spell-GateCall, spell-Init, spell-Named, spell-PhysicalQubit, spell-Update}
use Rattle.qs_parser.specs.steps.Tokens.{Readers, after_sign, begins_sign, has_sign}
use Rattle.qs_parser.specs.steps.Statements.{assign_op_at, assigned, assignment_at, declaration_at, gate_call_at, init_at, is_assigned, place_at, stmt_of, updated, value_at}
use Rattle.qs_parser.specs.steps.Expressions.{whole_at}
use Rattle.qs_parser.proofs.Featured.{features-Assign, features-Called, features-Declare, features-GateCall, features-Init, features-Place, features-Update}
use Rattle.qs_parser.proofs.TokenPieces.{after_sign_at, begins_sign_at, name_at_name, no_sign_after}
use Rattle.qs_parser.proofs.Complete.{Fits, IsCompleteBelow}
use Rattle.qs_parser.proofs.CompleteExprParts.{begins_other, fits_as, fits_both, fits_where}
use Rattle.qs_parser.proofs.CompleteExprCases.{spells_as}
use Rattle.qs_parser.proofs.CompleteExpr.{complete-expr_at, complete-whole_at}
use Rattle.qs_parser.proofs.CompleteStmtParts.{NoIndex, OperandCase, ReadsExpr, complete-place_at, complete-stopped, complete-type_at, is_named, is_physical, next, operand_case, place_starts, regroup}
use Rattle.qs_parser.proofs.CompleteStmtCalls.{complete-call_at, complete-value_at}
use Rattle.qs_parser.proofs.CompleteStmtFirst.{by_type, is_assigned_equals, is_assigned_index, is_assigned_op, modifier_before_some, modifier_starts, name_branch, not_assigned_sign, not_assigned_unsigned, op_of_sign}
use Rattle.qs_parser.proofs.CompleteStmtSimple.{StmtRead, by_word, closes_before}

-- expressions are read where what stands deeper is read
pub reads_expr : (below : Option Readers) (d : ℕ) → IsCompleteBelow d below → ReadsExpr d below
reads_expr below d h e left after front rest f w n s c = complete-expr_at e below d left after front rest h (record { follows = f; depth = w; count = n }) s c

-- ---- declarations

init_read : (is_const : Bool) (type : TypeExpr) (n : Ident) (v : Value) (below : Option Readers) (d renew left after : ℕ) (front rest : List Token) → IsCompleteBelow d below → Fits (of_value v) d renew left after → Spells (sign (codes "=") ++ (spell_value v ++ sign (codes ";"))) front → init_at below is_const type n renew left (front ++ rest) ≡ Some (Init is_const type n v, after, rest)
unfolding init_at
init_read is_const type n v below d renew left after front rest h f s =
    let one = after_sign_at (codes "=") (spell_value v ++ sign (codes ";")) front rest s in
    let n1 = next (spell_value v) (sign (codes ";")) one.front rest one.spells in
    let r = ap (value_at below renew left) n1.is ∙ complete-value_at v below d renew left after n1.first (n1.last ++ rest) h (reads_expr below d h) f n1.spells_first (closes_before n1.last rest n1.spells_last) in
    rw (init_at, one.is, r) (complete-stopped (Init is_const type n v) after n1.last rest n1.spells_last)

-- the name of a declaration is no index of its type
name_no_index : (n : Ident) (ps : List Piece) (front rest : List Token) → Spells (name n ++ ps) front → NoIndex (front ++ rest)
name_no_index n ps front rest s = begins_sign_at (codes "[") (record { shows = Word n.name; places = n.span ∷ [] }) ps front rest s

either_true : {A : Type 0} (a b : Bool) (x y : A) → b ≡ true → cond (a || b) x y ≡ x
either_true true b x y e = refl
either_true false true x y e = refl
either_true false false x y e = absurd cc

declaration_read : (is_const : Bool) (type : TypeExpr) (n : Ident) (v : Value) (below : Option Readers) (d renew left after : ℕ) (front rest : List Token) → IsCompleteBelow d below → Fits (where_true (is_name n.name) (both (of_type type) (of_value v))) d renew left after → Spells ((((spell_type type ++ name n) ++ sign (codes "=")) ++ spell_value v) ++ sign (codes ";")) front → declaration_at below is_const renew left (front ++ rest) ≡ Some (Init is_const type n v, after, rest)
unfolding declaration_at
declaration_read is_const type n v below d renew left after front rest h f s =
    let last : List Piece = sign (codes "=") ++ (spell_value v ++ sign (codes ";")) in
    let s2 : Spells (spell_type type ++ (name n ++ last)) front = regroup (spell_type type) (name n) last front (regroup (spell_type type ++ name n) (sign (codes "=")) (spell_value v ++ sign (codes ";")) front (regroup ((spell_type type ++ name n) ++ sign (codes "=")) (spell_value v) (sign (codes ";")) front s)) in
    let g = fits_where (is_name n.name) f in
    let fs = fits_both (of_type type) (of_value v) d renew left after g.1 in
    let n1 = next (spell_type type) (name n ++ last) front rest s2 in
    let r1 = complete-type_at type below d renew left fs.between n1.first (n1.last ++ rest) h fs.first n1.spells_first (name_no_index n last n1.last rest n1.spells_last) in
    let named = name_at_name n last n1.last rest g.0 n1.spells_last in
    let begins : begins_sign (codes "=") (named.front ++ rest) ≡ true = begins_other (codes "=") (codes "=") (spell_value v ++ sign (codes ";")) named.front rest named.spells in
    let r2 = init_read is_const type n v below d renew fs.between after named.front rest h fs.second named.spells in
    ap (declaration_at below is_const renew left) n1.is ∙ rw (declaration_at, r1, named.is) (either_true is_const _ _ _ begins ∙ r2)

pub read-init : (is_const : Bool) (type : TypeExpr) (n : Ident) (v : Value) (below : Option Readers) (d renew left after : ℕ) (front rest : List Token) → IsCompleteBelow d below → Fits (of_stmt_kind (Init is_const type n v)) d renew left after → Spells (spell_stmt_kind (Init is_const type n v)) front → StmtRead (Init is_const type n v) below renew left after front rest
unfolding stmt_of
read-init true type n v below d renew left after front rest h f s =
    by_word (codes "const") ((((spell_type type ++ name n) ++ sign (codes "=")) ++ spell_value v) ++ sign (codes ";")) (Init true type n v) below renew left after front rest (spells_as front (spell-Init true type n v) s) (λ last every t. declaration_read true type n v below d renew left after last rest h (fits_as (features-Init true type n v) f) t)
read-init false type n v below d renew left after front rest h f s =
    let s2 = spells_as front (spell-Init false type n v) s in
    let last : List Piece = name n ++ (sign (codes "=") ++ (spell_value v ++ sign (codes ";"))) in
    let s3 : Spells (spell_type type ++ last) front = regroup (spell_type type) (name n) (sign (codes "=") ++ (spell_value v ++ sign (codes ";"))) front (regroup (spell_type type ++ name n) (sign (codes "=")) (spell_value v ++ sign (codes ";")) front (regroup ((spell_type type ++ name n) ++ sign (codes "=")) (spell_value v) (sign (codes ";")) front s2)) in
    by_type type last (Init false type n v) below renew left after front rest s3 (declaration_read false type n v below d renew left after front rest h (fits_as (features-Init false type n v) f) s2)

declare_read : (type : TypeExpr) (n : Ident) (below : Option Readers) (d renew left after : ℕ) (front rest : List Token) → IsCompleteBelow d below → Fits (where_true (is_name n.name) (of_type type)) d renew left after → Spells (spell_type type ++ (name n ++ sign (codes ";"))) front → declaration_at below false renew left (front ++ rest) ≡ Some (Declare type n, after, rest)
unfolding declaration_at
declare_read type n below d renew left after front rest h f s =
    let g = fits_where (is_name n.name) f in
    let n1 = next (spell_type type) (name n ++ sign (codes ";")) front rest s in
    let r1 = complete-type_at type below d renew left after n1.first (n1.last ++ rest) h g.1 n1.spells_first (name_no_index n (sign (codes ";")) n1.last rest n1.spells_last) in
    let named = name_at_name n (sign (codes ";")) n1.last rest g.0 n1.spells_last in
    let other : begins_sign (codes "=") (named.front ++ rest) ≡ false = begins_other (codes ";") (codes "=") [] named.front rest named.spells in
    ap (declaration_at below false renew left) n1.is ∙ rw (declaration_at, r1, named.is, other) (complete-stopped (Declare type n) after named.front rest named.spells)

pub read-declare : (type : TypeExpr) (n : Ident) (below : Option Readers) (d renew left after : ℕ) (front rest : List Token) → IsCompleteBelow d below → Fits (of_stmt_kind (Declare type n)) d renew left after → Spells (spell_stmt_kind (Declare type n)) front → StmtRead (Declare type n) below renew left after front rest
read-declare type n below d renew left after front rest h f s =
    let s2 : Spells (spell_type type ++ (name n ++ sign (codes ";"))) front = regroup (spell_type type) (name n) (sign (codes ";")) front (spells_as front (spell-Declare type n) s) in
    by_type type (name n ++ sign (codes ";")) (Declare type n) below renew left after front rest s2 (declare_read type n below d renew left after front rest h (fits_as (features-Declare type n) f) s2)

-- ---- assignments

-- what stands after the place says which assignment it is
place_assigns : (below : Option Readers) (renew left : ℕ) (ts : List Token) (p : Place) (fewer : ℕ) (us vs : List Token) → place_at below renew left ts ≡ Some (p, fewer, us) → after_sign (codes "=") us ≡ Some vs → assignment_at below renew left ts ≡ assigned below p renew fewer vs
unfolding assignment_at
place_assigns below renew left ts p fewer us vs e f = rw (assignment_at, e) (ap (λ (o : Option (List Token)). elim o [ Some rest ↦ assigned below p renew fewer rest | None ↦ updated below p renew fewer us ]) f)

place_updates : (below : Option Readers) (renew left : ℕ) (ts : List Token) (p : Place) (fewer : ℕ) (us : List Token) → place_at below renew left ts ≡ Some (p, fewer, us) → after_sign (codes "=") us ≡ None → assignment_at below renew left ts ≡ updated below p renew fewer us
unfolding assignment_at
place_updates below renew left ts p fewer us e f = rw (assignment_at, e) (ap (λ (o : Option (List Token)). elim o [ Some rest ↦ assigned below p renew fewer rest | None ↦ updated below p renew fewer us ]) f)

assign_read : (p : Place) (v : Value) (below : Option Readers) (d renew left after : ℕ) (front rest : List Token) → IsCompleteBelow d below → Fits (both (of_place p) (of_value v)) d renew left after → Spells (spell_place p ++ (sign (codes "=") ++ (spell_value v ++ sign (codes ";")))) front → assignment_at below renew left (front ++ rest) ≡ Some (Assign p v, after, rest)
unfolding assigned
assign_read p v below d renew left after front rest h f s =
    let last : List Piece = spell_value v ++ sign (codes ";") in
    let fs = fits_both (of_place p) (of_value v) d renew left after f in
    let n1 = next (spell_place p) (sign (codes "=") ++ last) front rest s in
    let r1 = complete-place_at p below d renew left fs.between n1.first (n1.last ++ rest) h fs.first n1.spells_first (begins_other (codes "=") (codes "[") last n1.last rest n1.spells_last) in
    let one = after_sign_at (codes "=") last n1.last rest n1.spells_last in
    let n2 = next (spell_value v) (sign (codes ";")) one.front rest one.spells in
    let r2 = ap (value_at below renew fs.between) n2.is ∙ complete-value_at v below d renew fs.between after n2.first (n2.last ++ rest) h (reads_expr below d h) fs.second n2.spells_first (closes_before n2.last rest n2.spells_last) in
    ap (assignment_at below renew left) n1.is ∙ place_assigns below renew left (n1.first ++ (n1.last ++ rest)) p fs.between (n1.last ++ rest) (one.front ++ rest) r1 one.is ∙ rw (assigned, r2) (complete-stopped (Assign p v) after n2.last rest n2.spells_last)

-- the signs of operators that assign
no_equals : (op : AssignOp) → bytes_eq (sign_of_assign op) (codes "=") ≡ false
no_equals assigns.Add = refl
no_equals assigns.Sub = refl
no_equals assigns.Mul = refl
no_equals assigns.Div = refl
no_equals assigns.Rem = refl
no_equals assigns.BitAnd = refl
no_equals assigns.BitOr = refl
no_equals assigns.BitXor = refl
no_equals assigns.ShiftLeft = refl
no_equals assigns.ShiftRight = refl

no_square : (op : AssignOp) → bytes_eq (sign_of_assign op) (codes "[") ≡ false
no_square assigns.Add = refl
no_square assigns.Sub = refl
no_square assigns.Mul = refl
no_square assigns.Div = refl
no_square assigns.Rem = refl
no_square assigns.BitAnd = refl
no_square assigns.BitOr = refl
no_square assigns.BitXor = refl
no_square assigns.ShiftLeft = refl
no_square assigns.ShiftRight = refl

-- an operator that assigns is read, and leaves what spells the rest
record OpLeft (op : AssignOp) (ps : List Piece) (ts rest : List Token) : Type 0 where
  last : List Token
  is : assign_op_at ts ≡ Some (op, last ++ rest)
  spells : Spells ps last

op_left : (op : AssignOp) (ps : List Piece) (front rest : List Token) → Spells (sign (sign_of_assign op) ++ ps) front → OpLeft op ps (front ++ rest) rest
op_left op ps [] rest s = absurd s
op_left op ps (t ∷ ts) rest s =
    let k : t.kind ≡ kind.Sign = s.0.0.0 in
    let e : t.text ≡ sign_of_assign op = s.0.0.1 in
    record { last = ts; is = rw (k, e, op_of_sign op) refl; spells = s.1 }

update_read : (p : Place) (op : AssignOp) (e : Expr) (below : Option Readers) (d renew left after : ℕ) (front rest : List Token) → IsCompleteBelow d below → Fits (both (of_place p) (of_expr e)) d renew left after → Spells (spell_place p ++ (sign (sign_of_assign op) ++ (spell e ++ sign (codes ";")))) front → assignment_at below renew left (front ++ rest) ≡ Some (Update p op e, after, rest)
unfolding updated
update_read p op e below d renew left after front rest h f s =
    let last : List Piece = spell e ++ sign (codes ";") in
    let fs = fits_both (of_place p) (of_expr e) d renew left after f in
    let n1 = next (spell_place p) (sign (sign_of_assign op) ++ last) front rest s in
    let bare : NoIndex (n1.last ++ rest) = begins_other (sign_of_assign op) (codes "[") last n1.last rest n1.spells_last ∙ no_square op in
    let r1 = complete-place_at p below d renew left fs.between n1.first (n1.last ++ rest) h fs.first n1.spells_first bare in
    let other : after_sign (codes "=") (n1.last ++ rest) ≡ None = no_sign_after (codes "=") (n1.last ++ rest) (begins_other (sign_of_assign op) (codes "=") last n1.last rest n1.spells_last ∙ no_equals op) in
    let one = op_left op last n1.last rest n1.spells_last in
    let n2 = next (spell e) (sign (codes ";")) one.last rest one.spells in
    let r2 = ap (whole_at below renew fs.between) n2.is ∙ complete-whole_at e below d renew fs.between after n2.first (n2.last ++ rest) h fs.second n2.spells_first (closes_before n2.last rest n2.spells_last) in
    ap (assignment_at below renew left) n1.is ∙ place_updates below renew left (n1.first ++ (n1.last ++ rest)) p fs.between (n1.last ++ rest) r1 other ∙ rw (updated, one.is, r2) (complete-stopped (Update p op e) after n2.last rest n2.spells_last)

-- ---- what begins with a name

-- a statement that begins with a name and is no assignment, or is one
by_name : (n : Ident) (ps : List Piece) (assigns : Bool) (k : StmtKind) (below : Option Readers) (renew left after : ℕ) (front rest : List Token) → is_name n.name ≡ true → Spells (name n ++ ps) front → ((last : List Token) → Spells ps last → is_assigned (last ++ rest) ≡ assigns) → cond assigns (assignment_at below renew left (front ++ rest)) (gate_call_at below renew left (front ++ rest)) ≡ Some (k, after, rest) → StmtRead k below renew left after front rest
by_name n ps assigns k below renew left after [] rest v s g e = absurd s
by_name n ps assigns k below renew left after (t ∷ ts) rest v s g e = record {
  t = t;
  ts = ts;
  is = refl;
  is_word = s.0.0.0;
  read = ap (λ (x : List ℕ). stmt_of below renew left x (ts ++ rest) (t ∷ (ts ++ rest))) s.0.0.1 ∙ name_branch n.name below renew left (ts ++ rest) (t ∷ (ts ++ rest)) v ∙ ap (λ (b : Bool). cond b (assignment_at below renew left (t ∷ (ts ++ rest))) (gate_call_at below renew left (t ∷ (ts ++ rest)))) (g ts s.1) ∙ e;
}

-- after the name of a place, its index or the sign that assigns makes it an assignment
place_assigned : (index : Option Expr) (text : List ℕ) (qs : List Piece) → ((ps : List Piece) (front rest : List Token) → Spells (sign text ++ ps) front → is_assigned (front ++ rest) ≡ true) → (front rest : List Token) → Spells (if_there in_square (option_map spell index) ++ (sign text ++ qs)) front → is_assigned (front ++ rest) ≡ true
place_assigned None text qs g front rest s = g qs front rest s
place_assigned (Some e) text qs g front rest s = is_assigned_index ((spell e ++ sign (codes "]")) ++ (sign text ++ qs)) front rest s

by_place : (p : Place) (text : List ℕ) (qs : List Piece) (k : StmtKind) (below : Option Readers) (d renew left between after : ℕ) (front rest : List Token) → Fits (of_place p) d renew left between → ((ps : List Piece) (front rest : List Token) → Spells (sign text ++ ps) front → is_assigned (front ++ rest) ≡ true) → Spells (spell_place p ++ (sign text ++ qs)) front → assignment_at below renew left (front ++ rest) ≡ Some (k, after, rest) → StmtRead k below renew left after front rest
by_place p text qs k below d renew left between after front rest f g s e =
    let b = place_starts p in
    let v = (fits_where (is_name b.n.name) (fits_as (b.features ∙ features-Place b.n b.index) f)).0 in
    let s2 : Spells (name b.n ++ (b.more ++ (sign text ++ qs))) front = spells_as front (ap (λ (x : List Piece). x ++ (sign text ++ qs)) b.is) s in
    by_name b.n (b.more ++ (sign text ++ qs)) true k below renew left after front rest v s2 (λ last t. place_assigned b.index text qs g last rest (spells_as last (ap (λ (x : List Piece). x ++ (sign text ++ qs)) b.more_is) t)) e

pub read-assign : (p : Place) (v : Value) (below : Option Readers) (d renew left after : ℕ) (front rest : List Token) → IsCompleteBelow d below → Fits (of_stmt_kind (Assign p v)) d renew left after → Spells (spell_stmt_kind (Assign p v)) front → StmtRead (Assign p v) below renew left after front rest
read-assign p v below d renew left after front rest h f s =
    let f2 = fits_as (features-Assign p v) f in
    let s2 : Spells (spell_place p ++ (sign (codes "=") ++ (spell_value v ++ sign (codes ";")))) front = regroup (spell_place p) (sign (codes "=")) (spell_value v ++ sign (codes ";")) front (regroup (spell_place p ++ sign (codes "=")) (spell_value v) (sign (codes ";")) front (spells_as front (spell-Assign p v) s)) in
    by_place p (codes "=") (spell_value v ++ sign (codes ";")) (Assign p v) below d renew left _ after front rest (fits_both (of_place p) (of_value v) d renew left after f2).first (λ ps fr re t. is_assigned_equals ps fr re t) s2 (assign_read p v below d renew left after front rest h f2 s2)

pub read-update : (p : Place) (op : AssignOp) (e : Expr) (below : Option Readers) (d renew left after : ℕ) (front rest : List Token) → IsCompleteBelow d below → Fits (of_stmt_kind (Update p op e)) d renew left after → Spells (spell_stmt_kind (Update p op e)) front → StmtRead (Update p op e) below renew left after front rest
read-update p op e below d renew left after front rest h f s =
    let f2 = fits_as (features-Update p op e) f in
    let s2 : Spells (spell_place p ++ (sign (sign_of_assign op) ++ (spell e ++ sign (codes ";")))) front = regroup (spell_place p) (sign (sign_of_assign op)) (spell e ++ sign (codes ";")) front (regroup (spell_place p ++ sign (sign_of_assign op)) (spell e) (sign (codes ";")) front (spells_as front (spell-Update p op e) s)) in
    by_place p (sign_of_assign op) (spell e ++ sign (codes ";")) (Update p op e) below d renew left _ after front rest (fits_both (of_place p) (of_expr e) d renew left after f2).first (λ ps fr re t. is_assigned_op op ps fr re t) s2 (update_read p op e below d renew left after front rest h f2 s2)

-- ---- calls

-- after the name of a call nothing assigns: its parameters, its operands or the semicolon stand there
operand_not_assigned : (o : Operand) → OperandCase o → (ps : List Piece) (front rest : List Token) → Spells (spell_operand o ++ ps) front → is_assigned (front ++ rest) ≡ false
operand_not_assigned _ (is_named p) ps front rest s =
    let b = place_starts p in
    word_first b.n (b.more ++ ps) front (spells_as front (ap (λ (x : List Piece). x ++ ps) (spell-Named p ∙ b.is)) s)
  where
    word_first : (n : Ident) (qs : List Piece) (front : List Token) → Spells (name n ++ qs) front → is_assigned (front ++ rest) ≡ false
    word_first n qs [] g = absurd g
    word_first n qs (t ∷ ts) g = let k : t.kind ≡ kind.Word = g.0.0.0 in not_assigned_unsigned t (ts ++ rest) (ap has_sign k)
operand_not_assigned _ (is_physical span number) ps front rest s = qubit_first front (spells_as front (ap (λ (x : List Piece). x ++ ps) (spell-PhysicalQubit span number)) s)
  where
    qubit_first : (front : List Token) → Spells (record { shows = Qubit number; places = span ∷ [] } ∷ ps) front → is_assigned (front ++ rest) ≡ false
    qubit_first [] g = absurd g
    qubit_first (t ∷ ts) g = let k : t.kind ≡ kind.Physical number = g.0.0 in not_assigned_unsigned t (ts ++ rest) (ap has_sign k)

operands_not_assigned : (os : List Operand) (front rest : List Token) → Spells (with_commas (map spell_operand os) ++ sign (codes ";")) front → is_assigned (front ++ rest) ≡ false
operands_not_assigned [] front rest s = not_assigned_sign (codes ";") [] front rest refl s
operands_not_assigned (o ∷ os) front rest s = operand_not_assigned o (operand_case o) (spell_after_commas (map spell_operand os) ++ sign (codes ";")) front rest (regroup (spell_operand o) (spell_after_commas (map spell_operand os)) (sign (codes ";")) front s)

call_not_assigned : (args : Option (List Expr)) (os : List Operand) (front rest : List Token) → Spells (if_there (λ es. in_round (with_commas es)) (option_map (map spell) args) ++ (with_commas (map spell_operand os) ++ sign (codes ";"))) front → is_assigned (front ++ rest) ≡ false
call_not_assigned None os front rest s = operands_not_assigned os front rest s
call_not_assigned (Some es) os front rest s = not_assigned_sign (codes "(") ((with_commas (map spell es) ++ sign (codes ")")) ++ (with_commas (map spell_operand os) ++ sign (codes ";"))) front rest refl s

call_layer : (ms : List Modifier) (n : Ident) (args : Option (List Expr)) (os : List Operand) (k : StmtKind) (below : Option Readers) (renew left after : ℕ) (front rest : List Token) → is_name n.name ≡ true → Spells ((joined (map spell_modifier ms) ++ name n ++ if_there (λ es. in_round (with_commas es)) (option_map (map spell) args) ++ with_commas (map spell_operand os)) ++ sign (codes ";")) front → gate_call_at below renew left (front ++ rest) ≡ Some (k, after, rest) → StmtRead k below renew left after front rest
call_layer [] n args os k below renew left after front rest v s e =
    let params : List Piece = if_there (λ es. in_round (with_commas es)) (option_map (map spell) args) in
    let last : List Piece = with_commas (map spell_operand os) ++ sign (codes ";") in
    let s2 : Spells (name n ++ (params ++ last)) front = regroup (name n) params last front (regroup (name n ++ params) (with_commas (map spell_operand os)) (sign (codes ";")) front s) in
    by_name n (params ++ last) false k below renew left after front rest v s2 (λ fr t. call_not_assigned args os fr rest t) e
call_layer (m ∷ ms) n args os k below renew left after front rest v s e =
    let params : List Piece = if_there (λ es. in_round (with_commas es)) (option_map (map spell) args) in
    let more : List Piece = joined (map spell_modifier ms) in
    let operands : List Piece = with_commas (map spell_operand os) in
    let s1 = regroup ((spell_modifier m ++ more) ++ name n ++ params) operands (sign (codes ";")) front s in
    let s2 = regroup ((spell_modifier m ++ more) ++ name n) params (operands ++ sign (codes ";")) front s1 in
    let s3 = regroup (spell_modifier m ++ more) (name n) (params ++ (operands ++ sign (codes ";"))) front s2 in
    let s4 = regroup (spell_modifier m) more (name n ++ (params ++ (operands ++ sign (codes ";")))) front s3 in
    from _ front s4 e
  where
    from : (ps : List Piece) (front : List Token) → Spells (spell_modifier m ++ ps) front → gate_call_at below renew left (front ++ rest) ≡ Some (k, after, rest) → StmtRead k below renew left after front rest
    from ps [] g r = absurd (modifier_before_some m ps g)
    from ps (t ∷ ts) g r =
        let b = modifier_starts m ps t ts g in
        record { t = t; ts = ts; is = refl; is_word = b.is_word; read = b.branch below renew left (ts ++ rest) (t ∷ (ts ++ rest)) ∙ r }

gate_call_read : (c : Called) (below : Option Readers) (d renew left after : ℕ) (front rest : List Token) → IsCompleteBelow d below → Fits (of_call c) d renew left after → Spells (spell_call c ++ sign (codes ";")) front → gate_call_at below renew left (front ++ rest) ≡ Some (GateCall c, after, rest)
unfolding gate_call_at
gate_call_read c below d renew left after front rest h f s = rw (gate_call_at, complete-call_at c below d renew left after front rest h f s) refl

call_named : (l : Call-F ExprKind Modifier Operand Value Item Param Body Range StmtKind Expr TypeExpr Called Place Stmt) → (of_call (roll-Call l)).follows ≡ true → is_name l.name.name ≡ true
call_named l v = (and_parts (is_name l.name.name) _ (sym (ap (λ (x : Features). x.follows) (features-Called l.modifiers l.name l.args l.operands)) ∙ v)).0

pub read-gate_call : (c : Called) (below : Option Readers) (d renew left after : ℕ) (front rest : List Token) → IsCompleteBelow d below → Fits (of_stmt_kind (GateCall c)) d renew left after → Spells (spell_stmt_kind (GateCall c)) front → StmtRead (GateCall c) below renew left after front rest
read-gate_call c below d renew left after front rest h f s =
    let f2 = fits_as (features-GateCall c) f in
    let f3 : Fits (of_call c) d renew left after = record { follows = f2.follows; depth = f2.depth; spent = f2.spent } in
    let s2 = spells_as front (spell-GateCall c) s in
    from (out-Call c) (ap (λ (x : Called). (of_call x).follows) same ∙ f3.follows) (spells_as front (ap (λ (x : Called). spell_call x ++ sign (codes ";")) (sym same)) s2) (gate_call_read c below d renew left after front rest h f3 s2)
  where
    same : roll-Call (out-Call c) ≡ c
    same = roll-out-Call c

    from : (l : Call-F ExprKind Modifier Operand Value Item Param Body Range StmtKind Expr TypeExpr Called Place Stmt) → (of_call (roll-Call l)).follows ≡ true → Spells (spell_call (roll-Call l) ++ sign (codes ";")) front → gate_call_at below renew left (front ++ rest) ≡ Some (GateCall c, after, rest) → StmtRead (GateCall c) below renew left after front rest
    from l v s3 e = call_layer l.modifiers l.name l.args l.operands (GateCall c) below renew left after front rest (call_named l v) (spells_as front (ap (λ (x : List Piece). x ++ sign (codes ";")) (spell-Called l.modifiers l.name l.args l.operands)) s3) e
