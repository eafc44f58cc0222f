-- What an expression is, case by case, and how its spelling begins.
use Rattle.std.proofs.Common.{◌≡◌, ℕ, zero, suc, ◌≤◌, Bool, false, codes, List, [], ◌∷◌, ◌++◌, refl, sym, ap, subst, ◌∙◌, append_assoc, arith}
use Rattle.std.specs.Str.{bytes_eq}
use Rattle.qs_values.specs.declared.number.Frac.{Frac}
use Rattle.qs_values.specs.declared.number.Num.{Num}
use Rattle.qs_values.specs.declared.span.Span.{Span}
use Rattle.qs_lexer.specs.declared.token.Token.{Token}
use Rattle.qs_lexer.specs.declared.token.Unit.{Unit as TimeUnit}
use Rattle.qs_tree.specs.declared.operator.UnOp.{UnOp}
use Rattle.qs_tree.specs.declared.operator.UnOp.TheVariants.{Not, Neg, Invert}
use Rattle.qs_tree.specs.declared.operator.BinOp.{BinOp}
use Rattle.qs_tree.specs.declared.expr.Expr.{Expr}
use Rattle.qs_tree.specs.declared.expr.TypeExpr.{TypeExpr, TypeExpr-F, out-TypeExpr, roll-TypeExpr, roll-out-TypeExpr}
use Rattle.qs_tree.specs.declared.gate.Call.{Call as Called}
use Rattle.qs_tree.specs.declared.gate.Modifier.{Modifier}
use Rattle.qs_tree.specs.declared.operand.Place.{Place}
use Rattle.qs_tree.specs.declared.operand.Operand.{Operand}
use Rattle.qs_tree.specs.declared.operand.Value.{Value}
use Rattle.qs_tree.specs.declared.pulse.Param.{Param}
use Rattle.qs_tree.specs.declared.pulse.Item.{Item}
use Rattle.qs_tree.specs.declared.statement.Stmt.{Stmt}
use Rattle.qs_tree.specs.declared.statement.StmtKind.{StmtKind}
use Rattle.qs_tree.specs.declared.statement.Body.{Body}
use Rattle.qs_tree.specs.declared.statement.Range.{Range}
use Rattle.qs_tree.specs.declared.expr.ExprKind.{ExprKind, out-ExprKind, roll-ExprKind, roll-out-ExprKind}
use Rattle.qs_tree.specs.declared.expr.ExprKind.TheOpen as layer
use Rattle.qs_tree.specs.declared.expr.ExprKind.TheVariants.{Whole, Decimal, Time, Text, Truth, Name, Index, Physical, Call, Cast, DurationOf, Group, Unary, Binary, Number, rolls-Whole, rolls-Decimal, rolls-Time, rolls-Text, rolls-Truth, rolls-Name, rolls-Index, rolls-Physical, rolls-Call, rolls-Cast, rolls-DurationOf, rolls-Group, rolls-Unary, rolls-Binary, rolls-Number}
use Rattle.qs_tree.specs.Spelling.{Piece, Sign, Word, Qubit, Integer, Fraction, Period, Quoted, Spells, at_place, in_round, sign, sign_of_bin, sign_of_un, spell, spell_kind, spell_type, truth_word, word_of_type}
use Rattle.qs_tree.specs.WellFormed.{Features, of_expr, of_kind}
use Rattle.qs_tree.proofs.Spelled.{spell-Expr, spell-Whole, spell-Decimal, spell-Time, spell-Text, spell-Truth, spell-Name, spell-Index, spell-Physical, spell-Call, spell-Cast, spell-DurationOf, spell-Group, spell-Unary, spell-Binary, spell-Number, spell-TypeExpr}
use Rattle.qs_parser.specs.steps.Tokens.{begins_sign, is_sign}
use Rattle.qs_parser.proofs.Featured.{features-Expr, features-Binary}
use Rattle.qs_parser.proofs.TokenPieces.{Split, sign_of_piece, spells_split}

-- ---- cases

pub data Case : ExprKind → Type 0 where
  is_whole : (value : ℕ) → Case (Whole value)
  is_decimal : (value : Frac) → Case (Decimal value)
  is_time : (value : Frac) → (unit : TimeUnit) → Case (Time value unit)
  is_text : (text : List ℕ) → Case (Text text)
  is_truth : (value : Bool) → Case (Truth value)
  is_name_alone : (name : List ℕ) → Case (Name name)
  is_index : (name : List ℕ) → (index : Expr) → Case (Index name index)
  is_physical : (number : ℕ) → Case (Physical number)
  is_call : (name : List ℕ) → (args : List Expr) → Case (Call name args)
  is_cast : (type : TypeExpr) → (operand : Expr) → Case (Cast type operand)
  is_duration : (body : List Stmt) → Case (DurationOf body)
  is_group : (inner : Expr) → Case (Group inner)
  is_unary : (op : UnOp) → (operand : Expr) → Case (Unary op operand)
  is_binary : (left : Expr) → (op : BinOp) → (right : Expr) → Case (Binary left op right)
  is_number : (value : Num) → Case (Number value)

case_of_layer : (l : layer.ExprKind-F ExprKind Modifier Operand Value Item Param Body Range StmtKind Expr TypeExpr Called Place Stmt) → Case (roll-ExprKind l)
case_of_layer (layer.Whole value) = subst Case (sym (rolls-Whole value)) (is_whole value)
case_of_layer (layer.Decimal value) = subst Case (sym (rolls-Decimal value)) (is_decimal value)
case_of_layer (layer.Time value unit) = subst Case (sym (rolls-Time value unit)) (is_time value unit)
case_of_layer (layer.Text text) = subst Case (sym (rolls-Text text)) (is_text text)
case_of_layer (layer.Truth value) = subst Case (sym (rolls-Truth value)) (is_truth value)
case_of_layer (layer.Name name) = subst Case (sym (rolls-Name name)) (is_name_alone name)
case_of_layer (layer.Index name index) = subst Case (sym (rolls-Index name index)) (is_index name index)
case_of_layer (layer.Physical number) = subst Case (sym (rolls-Physical number)) (is_physical number)
case_of_layer (layer.Call name args) = subst Case (sym (rolls-Call name args)) (is_call name args)
case_of_layer (layer.Cast type operand) = subst Case (sym (rolls-Cast type operand)) (is_cast type operand)
case_of_layer (layer.DurationOf body) = subst Case (sym (rolls-DurationOf body)) (is_duration body)
case_of_layer (layer.Group inner) = subst Case (sym (rolls-Group inner)) (is_group inner)
case_of_layer (layer.Unary op operand) = subst Case (sym (rolls-Unary op operand)) (is_unary op operand)
case_of_layer (layer.Binary left op right) = subst Case (sym (rolls-Binary left op right)) (is_binary left op right)
case_of_layer (layer.Number value) = subst Case (sym (rolls-Number value)) (is_number value)

pub case_of : (k : ExprKind) → Case k
case_of k = subst Case (roll-out-ExprKind k) (case_of_layer (out-ExprKind k))

-- ---- the first token

pub cons_head : (t u : Token) (ts us : List Token) → t ∷ ts ≡ u ∷ us → t ≡ u
cons_head t u ts us e = cc

-- what spells pieces at a place begins there
pub unplaced : (place : Span) (ps : List Piece) (t : Token) (ts : List Token) → Spells (at_place place ps) (t ∷ ts) → (t.span ≡ place) × Spells ps (t ∷ ts)
unplaced place [] t ts h = absurd h
unplaced place (p ∷ ps) t ts h = (h.0.1.0, ((h.0.0, h.0.1.1), h.1))

pub placed_empty : (place : Span) (ps : List Piece) → Spells (at_place place ps) [] → Spells ps []
placed_empty place [] h = h
placed_empty place (p ∷ ps) h = absurd h

-- pieces with one among them spell some token
some_token : (ps : List Piece) (q : Piece) (qs : List Piece) → Spells (ps ++ (q ∷ qs)) [] → ⊥
some_token [] q qs h = h
some_token (p ∷ ps) q qs h = h

pub spells_as : {ps qs : List Piece} (ts : List Token) → ps ≡ qs → Spells ps ts → Spells qs ts
spells_as ts e h = subst (λ (x : List Piece). Spells x ts) e h

kind_some : (k : ExprKind) → Case k → Spells (spell_kind k) [] → ⊥
kind_some _ (is_whole value) h = spells_as [] (spell-Whole value) h
kind_some _ (is_decimal value) h = spells_as [] (spell-Decimal value) h
kind_some _ (is_time value unit) h = spells_as [] (spell-Time value unit) h
kind_some _ (is_text text) h = spells_as [] (spell-Text text) h
kind_some _ (is_truth value) h = spells_as [] (spell-Truth value) h
kind_some _ (is_name_alone name) h = spells_as [] (spell-Name name) h
kind_some _ (is_index name index) h = spells_as [] (spell-Index name index) h
kind_some _ (is_physical number) h = spells_as [] (spell-Physical number) h
kind_some _ (is_call name args) h = spells_as [] (spell-Call name args) h
kind_some _ (is_cast type operand) h = some_token (spell_type type) _ _ (spells_as [] (spell-Cast type operand) h)
kind_some _ (is_duration body) h = spells_as [] (spell-DurationOf body) h
kind_some _ (is_group inner) h = spells_as [] (spell-Group inner) h
kind_some _ (is_unary op operand) h = spells_as [] (spell-Unary op operand) h
kind_some _ (is_binary left op right) h = some_token (spell left) _ (spell right) (spells_as [] (spell-Binary left op right ∙ append_assoc (spell left) (sign (sign_of_bin op)) (spell right)) h)
kind_some _ (is_number value) h = spells_as [] (spell-Number value) h

-- the token at which an expression begins
pub record FirstToken (e : Expr) (front : List Token) : Type 0 where
  pub t : Token
  pub ts : List Token
  pub is : front ≡ t ∷ ts
  pub span : t.span ≡ e.span
  pub spells : Spells (spell e) (t ∷ ts)
  pub spells_kind : Spells (spell_kind e.kind) (t ∷ ts)

pub first_token : (e : Expr) (front : List Token) → Spells (spell e) front → FirstToken e front
first_token e [] h = absurd (kind_some e.kind (case_of e.kind) (placed_empty e.span (spell_kind e.kind) (spells_as [] (spell-Expr e) h)))
first_token e (t ∷ ts) h = let p = unplaced e.span (spell_kind e.kind) t ts (spells_as (t ∷ ts) (spell-Expr e) h) in record { t = t; ts = ts; is = refl; span = p.0; spells = h; spells_kind = p.1 }

-- the first token of a type is its word
type_starts : (type : TypeExpr) (ps : List Piece) (t : Token) (ts : List Token) → Spells (spell_type type ++ ps) (t ∷ ts) → is_sign (codes ")") t ≡ false
type_starts type ps t ts h = from (out-TypeExpr type) (subst (λ (x : TypeExpr). Spells (spell_type x ++ ps) (t ∷ ts)) (sym (roll-out-TypeExpr type)) h)
  where
    from : (l : TypeExpr-F ExprKind Modifier Operand Value Item Param Body Range StmtKind Expr TypeExpr Called Place Stmt) → Spells (spell_type (roll-TypeExpr l) ++ ps) (t ∷ ts) → is_sign (codes ")") t ≡ false
    from l g = let s = spells_as (t ∷ ts) (ap (λ (x : List Piece). x ++ ps) (spell-TypeExpr l.span l.word l.width)) g in sign_of_piece (codes ")") (Word (word_of_type l.word)) t s.0.0

un_no_bracket : (op : UnOp) → bytes_eq (sign_of_un op) (codes ")") ≡ false
un_no_bracket Not = refl
un_no_bracket Neg = refl
un_no_bracket Invert = refl

-- no expression begins with a closing bracket
kind_starts : (m : ℕ) → ((e : Expr) (t : Token) (ts : List Token) → suc (of_expr e).operators ≤ m → Spells (spell e) (t ∷ ts) → is_sign (codes ")") t ≡ false) → (k : ExprKind) → Case k → (t : Token) (ts : List Token) → suc (of_kind k).operators ≤ suc m → Spells (spell_kind k) (t ∷ ts) → is_sign (codes ")") t ≡ false
kind_starts m ih _ (is_whole value) t ts l h = sign_of_piece (codes ")") (Integer value) t (spells_as (t ∷ ts) (spell-Whole value) h).0.0
kind_starts m ih _ (is_decimal value) t ts l h = sign_of_piece (codes ")") (Fraction value) t (spells_as (t ∷ ts) (spell-Decimal value) h).0.0
kind_starts m ih _ (is_time value unit) t ts l h = sign_of_piece (codes ")") (Period value unit) t (spells_as (t ∷ ts) (spell-Time value unit) h).0.0
kind_starts m ih _ (is_text text) t ts l h = sign_of_piece (codes ")") (Quoted text) t (spells_as (t ∷ ts) (spell-Text text) h).0.0
kind_starts m ih _ (is_truth value) t ts l h = sign_of_piece (codes ")") (Word (truth_word value)) t (spells_as (t ∷ ts) (spell-Truth value) h).0.0
kind_starts m ih _ (is_name_alone name) t ts l h = sign_of_piece (codes ")") (Word name) t (spells_as (t ∷ ts) (spell-Name name) h).0.0
kind_starts m ih _ (is_index name index) t ts l h = sign_of_piece (codes ")") (Word name) t (spells_as (t ∷ ts) (spell-Index name index) h).0.0
kind_starts m ih _ (is_physical number) t ts l h = sign_of_piece (codes ")") (Qubit number) t (spells_as (t ∷ ts) (spell-Physical number) h).0.0
kind_starts m ih _ (is_call name args) t ts l h = sign_of_piece (codes ")") (Word name) t (spells_as (t ∷ ts) (spell-Call name args) h).0.0
kind_starts m ih _ (is_cast type operand) t ts l h = type_starts type (in_round (spell operand)) t ts (spells_as (t ∷ ts) (spell-Cast type operand) h)
kind_starts m ih _ (is_duration body) t ts l h = sign_of_piece (codes ")") (Word (codes "durationof")) t (spells_as (t ∷ ts) (spell-DurationOf body) h).0.0
kind_starts m ih _ (is_group inner) t ts l h = sign_of_piece (codes ")") (Sign (codes "(")) t (spells_as (t ∷ ts) (spell-Group inner) h).0.0
kind_starts m ih _ (is_unary op operand) t ts l h = sign_of_piece (codes ")") (Sign (sign_of_un op)) t (spells_as (t ∷ ts) (spell-Unary op operand) h).0.0 ∙ un_no_bracket op
kind_starts m ih _ (is_binary left op right) t ts l h = from (spells_split (spell left) (sign (sign_of_bin op) ++ spell right) (t ∷ ts) (spells_as (t ∷ ts) (spell-Binary left op right ∙ append_assoc (spell left) (sign (sign_of_bin op)) (spell right)) h))
  where
    from : Split (spell left) (sign (sign_of_bin op) ++ spell right) (t ∷ ts) → is_sign (codes ")") t ≡ false
    from s =
        let f = first_token left s.front s.spells_front in
        let same : t ≡ f.t = cons_head t f.t ts (f.ts ++ s.after) (s.is ∙ ap (λ (us : List Token). us ++ s.after) f.is) in
        let fewer : suc (of_expr left).operators ≤ m = omega (arith, l, ap (λ (x : Features). x.operators) (features-Binary left op right)) in
        ap (is_sign (codes ")")) same ∙ ih left f.t f.ts fewer f.spells
kind_starts m ih _ (is_number value) t ts l h = absurd (spells_as (t ∷ ts) (spell-Number value) h).0.0

starts : (m : ℕ) (e : Expr) (t : Token) (ts : List Token) → suc (of_expr e).operators ≤ m → Spells (spell e) (t ∷ ts) → is_sign (codes ")") t ≡ false
starts zero e t ts l h = absurd (omega (arith, l))
starts (suc m) e t ts l h = kind_starts m (λ e2 t2 ts2 l2 h2. starts m e2 t2 ts2 l2 h2) e.kind (case_of e.kind) t ts (omega (arith, l, ap (λ (x : Features). x.operators) (features-Expr e))) (unplaced e.span (spell_kind e.kind) t ts (spells_as (t ∷ ts) (spell-Expr e) h)).1

pub no_bracket_first : (e : Expr) (front rest : List Token) → Spells (spell e) front → begins_sign (codes ")") (front ++ rest) ≡ false
no_bracket_first e front rest h =
    let f = first_token e front h in
    ap (λ (us : List Token). begins_sign (codes ")") (us ++ rest)) f.is ∙ starts (suc (of_expr e).operators) e f.t f.ts (omega arith) f.spells
