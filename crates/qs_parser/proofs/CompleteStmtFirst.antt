-- By its first word, which branch the reader of a statement takes.
use Rattle.std.proofs.Common.{◌≡◌, ℕ, true, false, ◌||◌, cond, codes, List, [], ◌∷◌, ◌++◌, Option, Some, None, refl, sym, ap, subst, ◌∙◌}
use Rattle.std.specs.Str.{bytes_eq}
use Rattle.qs_values.specs.Names.{is_name}
use Rattle.qs_lexer.specs.declared.token.Token.{Token}
use Rattle.qs_lexer.specs.declared.token.TokenKind.TheVariants as kind
use Rattle.qs_tree.specs.declared.assign.AssignOp.{AssignOp}
use Rattle.qs_tree.specs.declared.assign.AssignOp.TheVariants as assigns
use Rattle.qs_tree.specs.declared.expr.Expr.{Expr}
use Rattle.qs_tree.specs.declared.expr.ExprKind.{ExprKind}
use Rattle.qs_tree.specs.declared.expr.TypeExpr.{TypeExpr, TypeExpr-F, out-TypeExpr, roll-TypeExpr, roll-out-TypeExpr}
use Rattle.qs_tree.specs.declared.expr.TypeWord.{TypeWord}
use Rattle.qs_tree.specs.declared.expr.TypeWord.TheVariants.{Bit, Int, Uint, Angle, Bool as BoolWord, Duration}
use Rattle.qs_tree.specs.declared.gate.Call.{Call as Called}
use Rattle.qs_tree.specs.declared.gate.Modifier.{Modifier}
use Rattle.qs_tree.specs.declared.operand.Place.{Place}
use Rattle.qs_tree.specs.declared.operand.Operand.{Operand}
use Rattle.qs_tree.specs.declared.operand.Value.{Value}
use Rattle.qs_tree.specs.declared.pulse.Param.{Param}
use Rattle.qs_tree.specs.declared.pulse.Item.{Item}
use Rattle.qs_tree.specs.declared.statement.Stmt.{Stmt}
use Rattle.qs_tree.specs.declared.statement.StmtKind.{StmtKind}
use Rattle.qs_tree.specs.declared.statement.Body.{Body}
use Rattle.qs_tree.specs.declared.statement.Range.{Range}
use Rattle.qs_tree.specs.Spelling.{Piece, Spells, sign, sign_of_assign, spell_modifier, spell_type, word_of_type}
use Rattle.qs_tree.proofs.Spelled.{spell-Ctrl, spell-Inv, spell-NegCtrl, spell-Pow, spell-TypeExpr}
use Rattle.qs_parser.specs.steps.Tokens.{Readers, Reads, has_sign}
use Rattle.qs_parser.specs.steps.Statements.{assign_op, assignment_at, declaration_at, gate_call_at, is_assigned, named_stmt, stmt_of}
use Rattle.qs_parser.proofs.CompleteExprCases.{spells_as}
use Rattle.qs_parser.proofs.CompleteStmtNames.{name_no_modifier, name_no_type, not_reserved}
use Rattle.qs_parser.proofs.CompleteStmtCalls.{ModifierCase, is_ctrl, is_inv, is_negctrl, is_pow, modifier_case, modifier_some}
use Rattle.qs_parser.proofs.CompleteStmtSimple.{StmtRead}

-- ---- types

type_branch : (w : TypeWord) (below : Option Readers) (renew left : ℕ) (rest every : List Token) → stmt_of below renew left (word_of_type w) rest every ≡ declaration_at below false renew left every
unfolding stmt_of
type_branch Bit below renew left rest every = refl
type_branch Int below renew left rest every = refl
type_branch Uint below renew left rest every = refl
type_branch Angle below renew left rest every = refl
type_branch BoolWord below renew left rest every = refl
type_branch Duration below renew left rest every = refl

-- a statement that begins with a type
pub by_type : (type : TypeExpr) (ps : List Piece) (k : StmtKind) (below : Option Readers) (renew left after : ℕ) (front rest : List Token) → Spells (spell_type type ++ ps) front → declaration_at below false renew left (front ++ rest) ≡ Some (k, after, rest) → StmtRead k below renew left after front rest
by_type type ps k below renew left after front rest s r = from (out-TypeExpr type) front (subst (λ (x : TypeExpr). Spells (spell_type x ++ ps) front) (sym (roll-out-TypeExpr type)) s) r
  where
    from : (l : TypeExpr-F ExprKind Modifier Operand Value Item Param Body Range StmtKind Expr TypeExpr Called Place Stmt) (front : List Token) → Spells (spell_type (roll-TypeExpr l) ++ ps) front → declaration_at below false renew left (front ++ rest) ≡ Some (k, after, rest) → StmtRead k below renew left after front rest
    from l [] g e = absurd (spells_as [] (ap (λ (x : List Piece). x ++ ps) (spell-TypeExpr l.span l.word l.width)) g)
    from l (t ∷ ts) g e =
        let g2 = spells_as (t ∷ ts) (ap (λ (x : List Piece). x ++ ps) (spell-TypeExpr l.span l.word l.width)) g in
        record {
          t = t;
          ts = ts;
          is = refl;
          is_word = g2.0.0.0;
          read = ap (λ (x : List ℕ). stmt_of below renew left x (ts ++ rest) (t ∷ (ts ++ rest))) g2.0.0.1 ∙ type_branch l.word below renew left (ts ++ rest) (t ∷ (ts ++ rest)) ∙ e;
        }

-- ---- names

-- what begins with a name
abbrev pub by_assigned : Option Readers → (renew left : ℕ) → (rest every : List Token) → Reads StmtKind
by_assigned below renew left rest every = cond (is_assigned rest) (assignment_at below renew left every) (gate_call_at below renew left every)

pub name_branch : (text : List ℕ) (below : Option Readers) (renew left : ℕ) (rest every : List Token) → is_name text ≡ true → stmt_of below renew left text rest every ≡ by_assigned below renew left rest every
unfolding stmt_of named_stmt
name_branch text below renew left rest every v =
    rw (stmt_of, not_reserved text (codes "const") v refl, not_reserved text (codes "stretch") v refl, not_reserved text (codes "measure") v refl, not_reserved text (codes "reset") v refl, not_reserved text (codes "barrier") v refl, not_reserved text (codes "delay") v refl, not_reserved text (codes "box") v refl, not_reserved text (codes "if") v refl, not_reserved text (codes "while") v refl, not_reserved text (codes "for") v refl, not_reserved text (codes "break") v refl, not_reserved text (codes "continue") v refl, not_reserved text (codes "end") v refl, name_no_type text v, name_no_modifier text v, v) refl

-- the operator of its sign
pub op_of_sign : (op : AssignOp) → assign_op (sign_of_assign op) ≡ Some op
op_of_sign assigns.Add = refl
op_of_sign assigns.Sub = refl
op_of_sign assigns.Mul = refl
op_of_sign assigns.Div = refl
op_of_sign assigns.Rem = refl
op_of_sign assigns.BitAnd = refl
op_of_sign assigns.BitOr = refl
op_of_sign assigns.BitXor = refl
op_of_sign assigns.ShiftLeft = refl
op_of_sign assigns.ShiftRight = refl

-- a sign that assigns, or a bracket, makes a place that is assigned to
pub is_assigned_op : (op : AssignOp) (ps : List Piece) (front rest : List Token) → Spells (sign (sign_of_assign op) ++ ps) front → is_assigned (front ++ rest) ≡ true
is_assigned_op op ps [] rest s = absurd s
is_assigned_op op ps (t ∷ ts) rest s = of_sign t.kind t.text s.0.0.0 s.0.0.1
  where
    of_sign : (k : _) (text : List ℕ) → k ≡ kind.Sign → text ≡ sign_of_assign op → is_assigned (record { span = t.span; kind = k; text = text } ∷ (ts ++ rest)) ≡ true
    of_sign k text e f = rw (e, f, op_of_sign op) refl

pub is_assigned_equals : (ps : List Piece) (front rest : List Token) → Spells (sign (codes "=") ++ ps) front → is_assigned (front ++ rest) ≡ true
is_assigned_equals ps [] rest s = absurd s
is_assigned_equals ps (t ∷ ts) rest s = let k : t.kind ≡ _ = s.0.0.0 in let e : t.text ≡ codes "=" = s.0.0.1 in rw (k, e) refl

pub is_assigned_index : (ps : List Piece) (front rest : List Token) → Spells (sign (codes "[") ++ ps) front → is_assigned (front ++ rest) ≡ true
is_assigned_index ps [] rest s = absurd s
is_assigned_index ps (t ∷ ts) rest s = let k : t.kind ≡ _ = s.0.0.0 in let e : t.text ≡ codes "[" = s.0.0.1 in rw (k, e) refl

-- no other sign, and no other token
pub not_assigned_sign : (text : List ℕ) (ps : List Piece) (front rest : List Token) → assign_op text ≡ None → Spells (sign text ++ ps) front → is_assigned (front ++ rest) ≡ (bytes_eq text (codes "=") || bytes_eq text (codes "["))
not_assigned_sign text ps [] rest o s = absurd s
not_assigned_sign text ps (t ∷ ts) rest o s = let k : t.kind ≡ _ = s.0.0.0 in let e : t.text ≡ text = s.0.0.1 in rw (k, e, o) refl

pub not_assigned_unsigned : (t : Token) (ts : List Token) → has_sign t.kind ≡ false → is_assigned (t ∷ ts) ≡ false
not_assigned_unsigned t ts e = from (assign_op t.text) refl
  where
    from : (o : Option AssignOp) → assign_op t.text ≡ o → is_assigned (t ∷ ts) ≡ false
    from None f = rw (f, e) refl
    from (Some op) f = rw (f, e) refl

-- ---- modifiers

-- a modifier's first token, and the branch that it takes
pub record ModifierStarts (t : Token) (ts : List Token) : Type 0 where
  pub is_word : t.kind ≡ kind.Word
  pub branch : (below : Option Readers) (renew left : ℕ) (rest every : List Token) → stmt_of below renew left t.text rest every ≡ gate_call_at below renew left every

modifier_branch : (text : List ℕ) (t : Token) (ts : List Token) → t.kind ≡ kind.Word → t.text ≡ text → ((below : Option Readers) (renew left : ℕ) (rest every : List Token) → stmt_of below renew left text rest every ≡ gate_call_at below renew left every) → ModifierStarts t ts
modifier_branch text t ts k e b = record { is_word = k; branch = λ below renew left rest every. ap (λ (x : List ℕ). stmt_of below renew left x rest every) e ∙ b below renew left rest every }

starts_of : (m : Modifier) → ModifierCase m → (ps : List Piece) (t : Token) (ts : List Token) → Spells (spell_modifier m ++ ps) (t ∷ ts) → ModifierStarts t ts
unfolding stmt_of named_stmt
starts_of _ is_inv ps t ts s =
    let g = spells_as (t ∷ ts) (ap (λ (x : List Piece). x ++ ps) spell-Inv) s in
    modifier_branch (codes "inv") t ts g.0.0.0 g.0.0.1 (λ below renew left rest every. refl)
starts_of _ (is_pow e) ps t ts s =
    let g = spells_as (t ∷ ts) (ap (λ (x : List Piece). x ++ ps) (spell-Pow e)) s in
    modifier_branch (codes "pow") t ts g.0.0.0 g.0.0.1 (λ below renew left rest every. refl)
starts_of _ (is_ctrl count) ps t ts s =
    let g = spells_as (t ∷ ts) (ap (λ (x : List Piece). x ++ ps) (spell-Ctrl count)) s in
    modifier_branch (codes "ctrl") t ts g.0.0.0 g.0.0.1 (λ below renew left rest every. refl)
starts_of _ (is_negctrl count) ps t ts s =
    let g = spells_as (t ∷ ts) (ap (λ (x : List Piece). x ++ ps) (spell-NegCtrl count)) s in
    modifier_branch (codes "negctrl") t ts g.0.0.0 g.0.0.1 (λ below renew left rest every. refl)

pub modifier_starts : (m : Modifier) (ps : List Piece) (t : Token) (ts : List Token) → Spells (spell_modifier m ++ ps) (t ∷ ts) → ModifierStarts t ts
modifier_starts m ps t ts s = starts_of m (modifier_case m) ps t ts s

empty_front : (ps qs : List Piece) → Spells (ps ++ qs) [] → Spells ps []
empty_front [] qs s = tt
empty_front (p ∷ ps) qs s = s

pub modifier_before_some : (m : Modifier) (ps : List Piece) → Spells (spell_modifier m ++ ps) [] → ⊥
modifier_before_some m ps s = modifier_some m (modifier_case m) (empty_front (spell_modifier m) ps s)
