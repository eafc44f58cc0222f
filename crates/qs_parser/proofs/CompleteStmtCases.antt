-- What a statement is, case by case.
use Rattle.std.proofs.Common.{ℕ, Bool, List, Option, sym, subst}
use Rattle.qs_tree.specs.declared.assign.AssignOp.{AssignOp}
use Rattle.qs_tree.specs.declared.expr.Expr.{Expr}
use Rattle.qs_tree.specs.declared.expr.ExprKind.{ExprKind}
use Rattle.qs_tree.specs.declared.expr.ExprKind.TheOpen as layer
use Rattle.qs_tree.specs.declared.expr.TypeExpr.{TypeExpr}
use Rattle.qs_tree.specs.declared.gate.Call.{Call as Called}
use Rattle.qs_tree.specs.declared.gate.Modifier.{Modifier}
use Rattle.qs_tree.specs.declared.name.Ident.{Ident}
use Rattle.qs_tree.specs.declared.operand.Place.{Place}
use Rattle.qs_tree.specs.declared.operand.Operand.{Operand}
use Rattle.qs_tree.specs.declared.operand.Value.{Value}
use Rattle.qs_tree.specs.declared.pulse.CalName.{CalName}
use Rattle.qs_tree.specs.declared.pulse.Param.{Param}
use Rattle.qs_tree.specs.declared.pulse.Item.{Item}
use Rattle.qs_tree.specs.declared.statement.Stmt.{Stmt}
use Rattle.qs_tree.specs.declared.statement.StmtKind.{StmtKind, out-StmtKind, roll-StmtKind, roll-out-StmtKind}
use Rattle.qs_tree.specs.declared.statement.StmtKind.TheVariants.{Include, DefcalGrammar, Qubit, Input, Output, Gate, Cal, Defcal, Init, Declare, Stretch, GateCall, Assign, Update, Measure, Reset, Barrier, Delay, Box, If, While, For, Break, Continue, End, rolls-Include, rolls-DefcalGrammar, rolls-Qubit, rolls-Input, rolls-Output, rolls-Gate, rolls-Cal, rolls-Defcal, rolls-Init, rolls-Declare, rolls-Stretch, rolls-GateCall, rolls-Assign, rolls-Update, rolls-Measure, rolls-Reset, rolls-Barrier, rolls-Delay, rolls-Box, rolls-If, rolls-While, rolls-For, rolls-Break, rolls-Continue, rolls-End}
use Rattle.qs_tree.specs.declared.statement.Body.{Body}
use Rattle.qs_tree.specs.declared.statement.Range.{Range}

pub data StmtCase : StmtKind → Type 0 where
  is_include : (text : List ℕ) → StmtCase (Include text)
  is_defcalgrammar : (text : List ℕ) → StmtCase (DefcalGrammar text)
  is_qubit : (size : Option Expr) → (n : Ident) → StmtCase (Qubit size n)
  is_input : (type : TypeExpr) → (n : Ident) → StmtCase (Input type n)
  is_output : (type : TypeExpr) → (n : Ident) → StmtCase (Output type n)
  is_gate : (n : Ident) → (params : Option (List Ident)) → (qubits : List Ident) → (calls : List Stmt) → StmtCase (Gate n params qubits calls)
  is_cal : (items : List Item) → StmtCase (Cal items)
  is_defcal : (n : CalName) → (params : Option (List Param)) → (operands : List Operand) → (gives : Bool) → (items : List Item) → StmtCase (Defcal n params operands gives items)
  is_init : (is_const : Bool) → (type : TypeExpr) → (n : Ident) → (value : Value) → StmtCase (Init is_const type n value)
  is_declare : (type : TypeExpr) → (n : Ident) → StmtCase (Declare type n)
  is_stretch : (n : Ident) → StmtCase (Stretch n)
  is_gate_call : (call : Called) → StmtCase (GateCall call)
  is_assign : (place : Place) → (value : Value) → StmtCase (Assign place value)
  is_update : (place : Place) → (op : AssignOp) → (value : Expr) → StmtCase (Update place op value)
  is_measure : (operand : Operand) → (to : Option Place) → StmtCase (Measure operand to)
  is_reset : (operand : Operand) → StmtCase (Reset operand)
  is_barrier : (operands : List Operand) → StmtCase (Barrier operands)
  is_delay : (time : Expr) → (operands : List Operand) → StmtCase (Delay time operands)
  is_box : (time : Option Expr) → (statements : List Stmt) → StmtCase (Box time statements)
  is_if : (test : Expr) → (body : Body) → (other : Option Body) → StmtCase (If test body other)
  is_while : (test : Expr) → (body : Body) → StmtCase (While test body)
  is_for : (type : TypeExpr) → (n : Ident) → (range : Range) → (body : Body) → StmtCase (For type n range body)
  is_break : StmtCase Break
  is_continue : StmtCase Continue
  is_end : StmtCase End

case_of_layer : (l : layer.StmtKind-F ExprKind Modifier Operand Value Item Param Body Range StmtKind Expr TypeExpr Called Place Stmt) → StmtCase (roll-StmtKind l)
case_of_layer (layer.Include text) = subst StmtCase (sym (rolls-Include text)) (is_include text)
case_of_layer (layer.DefcalGrammar text) = subst StmtCase (sym (rolls-DefcalGrammar text)) (is_defcalgrammar text)
case_of_layer (layer.Qubit size n) = subst StmtCase (sym (rolls-Qubit size n)) (is_qubit size n)
case_of_layer (layer.Input type n) = subst StmtCase (sym (rolls-Input type n)) (is_input type n)
case_of_layer (layer.Output type n) = subst StmtCase (sym (rolls-Output type n)) (is_output type n)
case_of_layer (layer.Gate n params qubits calls) = subst StmtCase (sym (rolls-Gate n params qubits calls)) (is_gate n params qubits calls)
case_of_layer (layer.Cal items) = subst StmtCase (sym (rolls-Cal items)) (is_cal items)
case_of_layer (layer.Defcal n params operands gives items) = subst StmtCase (sym (rolls-Defcal n params operands gives items)) (is_defcal n params operands gives items)
case_of_layer (layer.Init is_const type n value) = subst StmtCase (sym (rolls-Init is_const type n value)) (is_init is_const type n value)
case_of_layer (layer.Declare type n) = subst StmtCase (sym (rolls-Declare type n)) (is_declare type n)
case_of_layer (layer.Stretch n) = subst StmtCase (sym (rolls-Stretch n)) (is_stretch n)
case_of_layer (layer.GateCall call) = subst StmtCase (sym (rolls-GateCall call)) (is_gate_call call)
case_of_layer (layer.Assign place value) = subst StmtCase (sym (rolls-Assign place value)) (is_assign place value)
case_of_layer (layer.Update place op value) = subst StmtCase (sym (rolls-Update place op value)) (is_update place op value)
case_of_layer (layer.Measure operand to) = subst StmtCase (sym (rolls-Measure operand to)) (is_measure operand to)
case_of_layer (layer.Reset operand) = subst StmtCase (sym (rolls-Reset operand)) (is_reset operand)
case_of_layer (layer.Barrier operands) = subst StmtCase (sym (rolls-Barrier operands)) (is_barrier operands)
case_of_layer (layer.Delay time operands) = subst StmtCase (sym (rolls-Delay time operands)) (is_delay time operands)
case_of_layer (layer.Box time statements) = subst StmtCase (sym (rolls-Box time statements)) (is_box time statements)
case_of_layer (layer.If test body other) = subst StmtCase (sym (rolls-If test body other)) (is_if test body other)
case_of_layer (layer.While test body) = subst StmtCase (sym (rolls-While test body)) (is_while test body)
case_of_layer (layer.For type n range body) = subst StmtCase (sym (rolls-For type n range body)) (is_for type n range body)
case_of_layer layer.Break = subst StmtCase (sym rolls-Break) is_break
case_of_layer layer.Continue = subst StmtCase (sym rolls-Continue) is_continue
case_of_layer layer.End = subst StmtCase (sym rolls-End) is_end

pub stmt_case_of : (k : StmtKind) → StmtCase k
stmt_case_of k = subst StmtCase (roll-out-StmtKind k) (case_of_layer (out-StmtKind k))
