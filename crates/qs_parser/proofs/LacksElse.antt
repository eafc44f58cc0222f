-- Which statements end with an `if` that has no `else`: no other than an `if`, a `while` or a `for`.
use Rattle.std.proofs.Common.{◌≡◌, false, List, [], ◌∷◌, map, option_map, Option, Some, None, refl, sym, ap, subst, ◌∙◌}
use Rattle.qs_tree.specs.declared.expr.Expr.{Expr}
use Rattle.qs_tree.specs.declared.expr.TypeExpr.{TypeExpr, TypeExpr-F, out-TypeExpr, roll-TypeExpr, roll-out-TypeExpr}
use Rattle.qs_tree.specs.declared.expr.ExprKind.{ExprKind}
use Rattle.qs_tree.specs.declared.gate.Call.{Call as Called, Call-F, out-Call, roll-Call, roll-out-Call}
use Rattle.qs_tree.specs.declared.gate.Modifier.{Modifier}
use Rattle.qs_tree.specs.declared.name.Ident.{Ident}
use Rattle.qs_tree.specs.declared.operand.Place.{Place}
use Rattle.qs_tree.specs.declared.operand.Operand.{Operand}
use Rattle.qs_tree.specs.declared.operand.Value.{Value}
use Rattle.qs_tree.specs.declared.pulse.Param.{Param}
use Rattle.qs_tree.specs.declared.pulse.Item.{Item}
use Rattle.qs_tree.specs.declared.statement.Body.{Body}
use Rattle.qs_tree.specs.declared.statement.Body.TheVariants.{One}
use Rattle.qs_tree.specs.declared.statement.Range.{Range}
use Rattle.qs_tree.specs.declared.statement.Stmt.{Stmt}
use Rattle.qs_tree.specs.declared.statement.StmtKind.{StmtKind}
use Rattle.qs_tree.specs.declared.statement.StmtKind.TheVariants.{If, While, For}
use Rattle.qs_tree.specs.WellFormed.{Features, all as all_of, if_in_brackets, of_body, of_call, of_expr, of_operand, of_place, of_stmt_kind, of_type}
use Rattle.qs_parser.proofs.Featured.{features-Assign, features-Barrier, features-Box, features-Break, features-Cal, features-Called, features-Continue, features-Declare, features-Defcal, features-DefcalGrammar, features-Delay, features-End, features-Gate, features-GateCall, features-Include, features-Init, features-Input, features-Measure, features-Named, features-One, features-Output, features-PhysicalQubit, features-Place, features-Qubit, features-Reset, features-Stmt, features-Stretch, features-TypeExpr, features-Update}
use Rattle.qs_parser.proofs.CompleteStmtParts.{OperandCase, is_named, is_physical, operand_case, place_starts}
use Rattle.qs_parser.proofs.CompleteStmtCases.{StmtCase, is_include, is_defcalgrammar, is_qubit, is_input, is_output, is_gate, is_cal, is_defcal, is_init, is_declare, is_stretch, is_gate_call, is_assign, is_update, is_measure, is_reset, is_barrier, is_delay, is_box, is_if, is_while, is_for, is_break, is_continue, is_end, stmt_case_of}

-- ---- parts of statements end with none

lacks : (f g : Features) → f ≡ g → f.lacks_else ≡ g.lacks_else
lacks f g e = ap (λ (x : Features). x.lacks_else) e

brackets_end : (f : Option Features) → (if_in_brackets f).lacks_else ≡ false
brackets_end None = refl
brackets_end (Some f) = refl

type_ends : (type : TypeExpr) → (of_type type).lacks_else ≡ false
type_ends type = subst (λ (x : TypeExpr). (of_type x).lacks_else ≡ false) (roll-out-TypeExpr type) (from (out-TypeExpr type))
  where
    from : (l : TypeExpr-F ExprKind Modifier Operand Value Item Param Body Range StmtKind Expr TypeExpr Called Place Stmt) → (of_type (roll-TypeExpr l)).lacks_else ≡ false
    from l = lacks _ _ (features-TypeExpr l.span l.word l.width) ∙ brackets_end (option_map of_expr l.width)

call_ends : (c : Called) → (of_call c).lacks_else ≡ false
call_ends c = subst (λ (x : Called). (of_call x).lacks_else ≡ false) (roll-out-Call c) (from (out-Call c))
  where
    from : (l : Call-F ExprKind Modifier Operand Value Item Param Body Range StmtKind Expr TypeExpr Called Place Stmt) → (of_call (roll-Call l)).lacks_else ≡ false
    from l = lacks _ _ (features-Called l.modifiers l.name l.args l.operands)

place_ends : (p : Place) → (of_place p).lacks_else ≡ false
place_ends p = let b = place_starts p in lacks _ _ (b.features ∙ features-Place b.n b.index) ∙ brackets_end (option_map of_expr b.index)

operand_ends : (o : Operand) → OperandCase o → (of_operand o).lacks_else ≡ false
operand_ends _ (is_named p) = lacks _ _ (features-Named p) ∙ place_ends p
operand_ends _ (is_physical span number) = lacks _ _ (features-PhysicalQubit span number)

operands_end : (os : List Operand) → (all_of (map of_operand os)).lacks_else ≡ false
operands_end [] = refl
operands_end (o ∷ os) = refl

-- ---- a statement that is no `if`, `while` or `for` ends with none

-- it is none of these
record NoBody (k : StmtKind) : Type 0 where
  no_if : (test : Expr) (body : Body) (other : Option Body) → k ≡ If test body other → ⊥
  no_while : (test : Expr) (body : Body) → k ≡ While test body → ⊥
  no_for : (type : TypeExpr) (n : Ident) (range : Range) (body : Body) → k ≡ For type n range body → ⊥

kind_ends : (k : StmtKind) → StmtCase k → NoBody k → (of_stmt_kind k).lacks_else ≡ false
kind_ends _ (is_include text) h = lacks _ _ (features-Include text)
kind_ends _ (is_defcalgrammar text) h = lacks _ _ (features-DefcalGrammar text)
kind_ends _ (is_qubit size n) h = lacks _ _ (features-Qubit size n) ∙ brackets_end (option_map of_expr size)
kind_ends _ (is_input type n) h = lacks _ _ (features-Input type n) ∙ type_ends type
kind_ends _ (is_output type n) h = lacks _ _ (features-Output type n) ∙ type_ends type
kind_ends _ (is_gate n params qubits calls) h = lacks _ _ (features-Gate n params qubits calls)
kind_ends _ (is_cal items) h = lacks _ _ (features-Cal items)
kind_ends _ (is_defcal n params operands gives items) h = lacks _ _ (features-Defcal n params operands gives items)
kind_ends _ (is_init is_const type n value) h = lacks _ _ (features-Init is_const type n value)
kind_ends _ (is_declare type n) h = lacks _ _ (features-Declare type n) ∙ type_ends type
kind_ends _ (is_stretch n) h = lacks _ _ (features-Stretch n)
kind_ends _ (is_gate_call call) h = lacks _ _ (features-GateCall call) ∙ call_ends call
kind_ends _ (is_assign place value) h = lacks _ _ (features-Assign place value)
kind_ends _ (is_update place op value) h = lacks _ _ (features-Update place op value)
kind_ends _ (is_measure operand to) h = lacks _ _ (features-Measure operand to)
kind_ends _ (is_reset operand) h = lacks _ _ (features-Reset operand) ∙ operand_ends operand (operand_case operand)
kind_ends _ (is_barrier operands) h = lacks _ _ (features-Barrier operands) ∙ operands_end operands
kind_ends _ (is_delay time operands) h = lacks _ _ (features-Delay time operands)
kind_ends _ (is_box time statements) h = lacks _ _ (features-Box time statements)
kind_ends _ (is_if test body other) h = absurd (h.no_if test body other refl)
kind_ends _ (is_while test body) h = absurd (h.no_while test body refl)
kind_ends _ (is_for type n range body) h = absurd (h.no_for type n range body refl)
kind_ends _ is_break h = lacks _ _ features-Break
kind_ends _ is_continue h = lacks _ _ features-Continue
kind_ends _ is_end h = lacks _ _ features-End

-- a body of one such statement
pub body_ends : (body : Body) (s read : Stmt) → body ≡ One s → read ≡ s
    → ((test : Expr) (b : Body) (other : Option Body) → read.kind ≡ If test b other → ⊥)
    → ((test : Expr) (b : Body) → read.kind ≡ While test b → ⊥)
    → ((type : TypeExpr) (n : Ident) (range : Range) (b : Body) → read.kind ≡ For type n range b → ⊥)
    → false ≡ (of_body body).lacks_else
body_ends body s read e f no_if no_while no_for = sym (ap (λ (b : Body). (of_body b).lacks_else) (e ∙ ap One (sym f)) ∙ (lacks _ _ (features-One read) ∙ (lacks _ _ (features-Stmt read) ∙ kind_ends read.kind (stmt_case_of read.kind) (record { no_if = no_if; no_while = no_while; no_for = no_for }))))
