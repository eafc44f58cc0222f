-- Definitions of calibrations are read where they are spelled.
use Rattle.std.proofs.Common.{◌≡◌, ℕ, zero, suc, ◌-◌, ◌≤◌, Bool, true, false, ◌&&◌, codes, List, [], ◌∷◌, ◌++◌, map, option_map, Option, Some, None, refl, sym, ap, subst, ◌∙◌, append_assoc, arith, inl, inr}
use Rattle.std.specs.Prelude.{◌⊎◌}
use Rattle.std.specs.Str.{bytes_eq}
use Rattle.std.proofs.lemmas.Bool.{and_parts}
use Rattle.qs_values.specs.Names.{is_name}
use Rattle.qs_lexer.specs.declared.token.Token.{Token}
use Rattle.qs_lexer.specs.declared.token.TokenKind.TheVariants as kind
use Rattle.qs_tree.specs.declared.expr.Expr.{Expr}
use Rattle.qs_tree.specs.declared.expr.ExprKind.{ExprKind}
use Rattle.qs_tree.specs.declared.expr.ExprKind.TheOpen as layer
use Rattle.qs_tree.specs.declared.expr.TypeExpr.{TypeExpr, TypeExpr-F, out-TypeExpr, roll-TypeExpr, roll-out-TypeExpr}
use Rattle.qs_tree.specs.declared.gate.Call.{Call as Called}
use Rattle.qs_tree.specs.declared.gate.Modifier.{Modifier}
use Rattle.qs_tree.specs.declared.name.Ident.{Ident}
use Rattle.qs_tree.specs.declared.operand.Place.{Place}
use Rattle.qs_tree.specs.declared.operand.Operand.{Operand}
use Rattle.qs_tree.specs.declared.operand.Value.{Value}
use Rattle.qs_tree.specs.declared.pulse.CalName.{CalName}
use Rattle.qs_tree.specs.declared.pulse.CalName.TheVariants as calibrates
use Rattle.qs_tree.specs.declared.pulse.Param.{Param, out-Param, roll-Param, roll-out-Param}
use Rattle.qs_tree.specs.declared.pulse.Param.TheVariants.{Free, Fixed, rolls-Free, rolls-Fixed}
use Rattle.qs_tree.specs.declared.pulse.Item.{Item}
use Rattle.qs_tree.specs.declared.statement.Body.{Body}
use Rattle.qs_tree.specs.declared.statement.Range.{Range}
use Rattle.qs_tree.specs.declared.statement.Stmt.{Stmt}
use Rattle.qs_tree.specs.declared.statement.StmtKind.{StmtKind}
use Rattle.qs_tree.specs.declared.statement.StmtKind.TheVariants.{Defcal}
use Rattle.qs_tree.specs.Spelling.{Piece, Sign, Word, Spells, calibrated, given_bit, if_there, in_braces, in_round, joined, name, sign, sign_of_bin, spell, spell_item, spell_kind, spell_operand, spell_param, spell_stmt_kind, spell_type, truth_word, with_commas, word, after_commas as spell_after_commas}
use Rattle.qs_tree.specs.WellFormed.{Features, all as all_of, binds, block, both, if_in_brackets, is_calibrated, is_some, of_expr, of_item, of_kind, of_operand, of_param, of_stmt_kind, of_type}
use Rattle.qs_tree.proofs.Spelled.{spell-Binary, spell-Call, spell-Cast, spell-Decimal, spell-Defcal, spell-DurationOf, spell-Fixed, spell-Free, spell-Group, spell-Index, spell-Name, spell-Number, spell-Physical, spell-Text, spell-Time, spell-Truth, spell-Unary, spell-Whole}
use Rattle.qs_parser.specs.steps.Tokens.{Readers, Reads, after_sign, after_word, begins_sign, commas, has_word, name_at}
use Rattle.qs_parser.specs.steps.Expressions.{type_word}
use Rattle.qs_parser.specs.steps.Knot.{below}
use Rattle.qs_parser.specs.steps.Globals.{cal_name_at, cal_params_at, defcal_at, fixed_at, free_at, gives_at, items_at, param_at, params_to, top_of}
use Rattle.qs_parser.specs.steps.Statements.{operands_at, type_at}
use Rattle.qs_parser.proofs.Featured.{features-Binary, features-Call, features-Cast, features-Defcal, features-Expr, features-Fixed, features-Free, features-Index, features-Name, features-TypeExpr}
use Rattle.qs_parser.proofs.TokenPieces.{after_sign_at, after_word_at, begins_sign_at, begins_word_at, name_at_name, no_sign_after, no_word_after, nothing_spelled}
use Rattle.qs_parser.proofs.Spent.{Spent}
use Rattle.qs_parser.proofs.Complete.{ClosesExpr, Fits, IsCompleteBelow}
use Rattle.qs_parser.proofs.CompleteExprParts.{after_last, close_comma, close_round, closes_at, complete-commas, fits_as, fits_both, fits_nothing, fits_where, most_is}
use Rattle.qs_parser.proofs.CompleteExprCases.{Case, case_of, first_token, is_binary, is_call, is_cast, is_decimal, is_duration, is_group, is_index, is_name_alone, is_number, is_physical, is_text, is_time, is_truth, is_unary, is_whole, no_bracket_first, spells_as}
use Rattle.qs_parser.proofs.CompleteExpr.{complete-whole_at}
use Rattle.qs_parser.proofs.CompleteStmtParts.{NoCount, NoIndex, complete-operands_at, complete-type_at, next, operand_no_sign, regroup}
use Rattle.qs_parser.proofs.CompleteStmtNames.{name_no_type, not_reserved}
use Rattle.qs_parser.proofs.CompleteKnot.{complete-below}
use Rattle.qs_parser.proofs.CompleteStarts.{type_first_word}
use Rattle.qs_parser.proofs.CompleteGlobals.{TopRead, by_top, fits_inside, fits_top, name_alone, name_no_sign}
use Rattle.qs_parser.proofs.CompleteCalibrations.{complete-items_at}
use Rattle.qs_parser.proofs.SoundCalibrations.{params_features}

-- ---- how many operators may come

-- So many operators may come.
abbrev Affords : (renew left operators : ℕ) → Type 0
Affords renew left operators = ((renew ≡ 0) × (operators ≤ left)) ⊎ ((left ≡ renew) × (operators ≤ renew))

fewer : (renew left operators less : ℕ) → less ≤ operators → Affords renew left operators → Affords renew left less
fewer renew left operators less l (inl a) = inl (a.0, omega (arith, a.1, l))
fewer renew left operators less l (inr a) = inr (a.0, omega (arith, a.1, l))

-- a part fits, and leaves some operators
record FitsSome (f : Features) (d renew left : ℕ) : Type 0 where
  after : ℕ
  fits : Fits f d renew left after

fits_some : (f : Features) (d renew left : ℕ) → f.follows ≡ true → f.depth ≤ d → f.most_operators ≡ f.operators → Affords renew left f.operators → FitsSome f d renew left
fits_some f d renew left e l m (inl a) = record { after = left - f.operators; fits = record { follows = e; depth = l; spent = inl (a.0, omega (arith, a.1)) } }
fits_some f d renew left e l m (inr a) = record { after = renew; fits = record { follows = e; depth = l; spent = inr (a.0, refl, omega (arith, a.1, m)) } }

affords : (e : Expr) (d renew left after : ℕ) → Fits (of_expr e) d renew left after → Affords renew left (of_expr e).operators
affords e d renew left after f = from f.spent
  where
    from : Spent renew left after (of_expr e).operators (of_expr e).most_operators → Affords renew left (of_expr e).operators
    from (inl a) = inl (a.0, omega (arith, a.1))
    from (inr a) = inr (a.0, omega (arith, a.2, most_is e))

width_most : (width : Option Expr) → (if_in_brackets (option_map of_expr width)).most_operators ≡ (if_in_brackets (option_map of_expr width)).operators
width_most None = refl
width_most (Some e) = most_is e

type_most : (type : TypeExpr) → (of_type type).most_operators ≡ (of_type type).operators
type_most type = subst (λ (x : TypeExpr). (of_type x).most_operators ≡ (of_type x).operators) (roll-out-TypeExpr type) (from (out-TypeExpr type))
  where
    from : (l : TypeExpr-F ExprKind Modifier Operand Value Item Param Body Range StmtKind Expr TypeExpr Called Place Stmt) → (of_type (roll-TypeExpr l)).most_operators ≡ (of_type (roll-TypeExpr l)).operators
    from l =
        let is = features-TypeExpr l.span l.word l.width in
        ap (λ (x : Features). x.most_operators) is ∙ (width_most l.width ∙ sym (ap (λ (x : Features). x.operators) is))

-- ---- no expression begins as a type with a name does

no_type_free : (b : Option Readers) (renew left : ℕ) (t : Token) (ts : List Token) → type_word t.text ≡ None → free_at b renew left (t ∷ ts) ≡ None
unfolding free_at type_at
no_type_free b renew left t ts e = from (has_word t.kind) refl
  where
    from : (w : Bool) → has_word t.kind ≡ w → free_at b renew left (t ∷ ts) ≡ None
    from true h = rw (free_at, type_at, h, e) refl
    from false h = rw (free_at, type_at, h) refl

no_word_free : (b : Option Readers) (renew left : ℕ) (t : Token) (ts : List Token) → has_word t.kind ≡ false → free_at b renew left (t ∷ ts) ≡ None
unfolding free_at type_at
no_word_free b renew left t ts h = rw (free_at, type_at, h) refl

truth_no_type : (value : Bool) → type_word (truth_word value) ≡ None
truth_no_type true = refl
truth_no_type false = refl

no_name_at_sign : (text : List ℕ) (ps : List Piece) (front rest : List Token) → Spells (sign text ++ ps) front → name_at (front ++ rest) ≡ None
no_name_at_sign text ps [] rest s = absurd s
no_name_at_sign text ps (t ∷ ts) rest s = let k : t.kind ≡ kind.Sign = s.0.0.0 in rw k refl

cast_free : (type : TypeExpr) (operand : Expr) (b : Option Readers) (d renew left : ℕ) (front rest : List Token) → IsCompleteBelow d b → FitsSome (of_type type) d renew left → Spells (spell_type type ++ in_round (spell operand)) front → free_at b renew left (front ++ rest) ≡ None
unfolding free_at
cast_free type operand b d renew left front rest h f s =
    let n = next (spell_type type) (in_round (spell operand)) front rest s in
    let square : NoIndex (n.last ++ rest) = begins_sign_at (codes "[") (record { shows = Sign (codes "("); places = [] }) (spell operand ++ sign (codes ")")) n.last rest n.spells_last in
    let read = complete-type_at type b d renew left f.after n.first (n.last ++ rest) h f.fits n.spells_first square in
    ap (free_at b renew left) n.is ∙ rw (free_at, read, no_name_at_sign (codes "(") (spell operand ++ sign (codes ")")) n.last rest n.spells_last) refl

-- what is to be shown of expressions
abbrev NoFree : Option Readers → (d renew left m : ℕ) → Type 0
NoFree b d renew left m = (e : Expr) (front rest : List Token) → suc (of_expr e).operators ≤ m → (of_expr e).follows ≡ true → (of_expr e).depth ≤ d → Affords renew left (of_expr e).operators → Spells (spell e) front → free_at b renew left (front ++ rest) ≡ None

binary_free : (x : Expr) (b : Option Readers) (d renew left m : ℕ) → NoFree b d renew left m → (op : List ℕ) (y : Expr) (front rest : List Token) → suc (of_expr x).operators ≤ m → (of_expr x).follows ≡ true → (of_expr x).depth ≤ d → Affords renew left (of_expr x).operators → Spells (spell x ++ (sign op ++ spell y)) front → free_at b renew left (front ++ rest) ≡ None
binary_free x b d renew left m ih op y front rest l f e a s =
    let n = next (spell x) (sign op ++ spell y) front rest s in
    ap (free_at b renew left) n.is ∙ ih x n.first (n.last ++ rest) l f e a n.spells_first

kind_no_free : (b : Option Readers) (d renew left m : ℕ) → IsCompleteBelow d b → NoFree b d renew left m → (k : ExprKind) → Case k → (t : Token) (ts rest : List Token) → suc (of_kind k).operators ≤ suc m → (of_kind k).follows ≡ true → (of_kind k).depth ≤ d → Affords renew left (of_kind k).operators → Spells (spell_kind k) (t ∷ ts) → free_at b renew left (t ∷ (ts ++ rest)) ≡ None
kind_no_free b d renew left m h ih _ (is_whole value) t ts rest l f e a s = no_word_free b renew left t (ts ++ rest) (ap has_word (spells_as (t ∷ ts) (spell-Whole value) s).0.0)
kind_no_free b d renew left m h ih _ (is_decimal value) t ts rest l f e a s = no_word_free b renew left t (ts ++ rest) (ap has_word (spells_as (t ∷ ts) (spell-Decimal value) s).0.0)
kind_no_free b d renew left m h ih _ (is_time value unit) t ts rest l f e a s = no_word_free b renew left t (ts ++ rest) (ap has_word (spells_as (t ∷ ts) (spell-Time value unit) s).0.0)
kind_no_free b d renew left m h ih _ (is_text text) t ts rest l f e a s = no_word_free b renew left t (ts ++ rest) (ap has_word (spells_as (t ∷ ts) (spell-Text text) s).0.0.0)
kind_no_free b d renew left m h ih _ (is_truth value) t ts rest l f e a s = no_type_free b renew left t (ts ++ rest) (ap type_word (spells_as (t ∷ ts) (spell-Truth value) s).0.0.1 ∙ truth_no_type value)
kind_no_free b d renew left m h ih _ (is_name_alone n) t ts rest l f e a s =
    let v = and_parts (is_name n) _ (sym (ap (λ (x : Features). x.follows) (features-Name n)) ∙ f) in
    no_type_free b renew left t (ts ++ rest) (ap type_word (spells_as (t ∷ ts) (spell-Name n) s).0.0.1 ∙ name_no_type n v.0)
kind_no_free b d renew left m h ih _ (is_index n index) t ts rest l f e a s =
    let v = and_parts (is_name n) _ (sym (ap (λ (x : Features). x.follows) (features-Index n index)) ∙ f) in
    no_type_free b renew left t (ts ++ rest) (ap type_word (spells_as (t ∷ ts) (spell-Index n index) s).0.0.1 ∙ name_no_type n v.0)
kind_no_free b d renew left m h ih _ (is_physical number) t ts rest l f e a s = no_word_free b renew left t (ts ++ rest) (ap has_word (spells_as (t ∷ ts) (spell-Physical number) s).0.0)
kind_no_free b d renew left m h ih _ (is_call n args) t ts rest l f e a s =
    let v = and_parts (is_name n) _ (sym (ap (λ (x : Features). x.follows) (features-Call n args)) ∙ f) in
    no_type_free b renew left t (ts ++ rest) (ap type_word (spells_as (t ∷ ts) (spell-Call n args) s).0.0.1 ∙ name_no_type n v.0)
kind_no_free b d renew left m h ih _ (is_cast type operand) t ts rest l f e a s =
    let is = features-Cast type operand in
    let v = and_parts (of_type type).follows (of_expr operand).follows (sym (ap (λ (x : Features). x.follows) is) ∙ f) in
    let deep : (of_type type).depth ≤ d = omega (arith, e, ap (λ (x : Features). x.depth) is) in
    let less : (of_type type).operators ≤ (of_kind _).operators = omega (arith, ap (λ (x : Features). x.operators) is) in
    cast_free type operand b d renew left (t ∷ ts) rest h (fits_some (of_type type) d renew left v.0 deep (type_most type) (fewer renew left _ (of_type type).operators less a)) (spells_as (t ∷ ts) (spell-Cast type operand) s)
kind_no_free b d renew left m h ih _ (is_duration body) t ts rest l f e a s = no_type_free b renew left t (ts ++ rest) (ap type_word (spells_as (t ∷ ts) (spell-DurationOf body) s).0.0.1)
kind_no_free b d renew left m h ih _ (is_group inner) t ts rest l f e a s = no_word_free b renew left t (ts ++ rest) (ap has_word (spells_as (t ∷ ts) (spell-Group inner) s).0.0.0)
kind_no_free b d renew left m h ih _ (is_unary op operand) t ts rest l f e a s = no_word_free b renew left t (ts ++ rest) (ap has_word (spells_as (t ∷ ts) (spell-Unary op operand) s).0.0.0)
kind_no_free b d renew left m h ih _ (is_binary x op y) t ts rest l f e a s =
    let is = features-Binary x op y in
    let v = and_parts (binds (of_expr x).level op (of_expr y).level) ((of_expr x).follows && (of_expr y).follows) (sym (ap (λ (g : Features). g.follows) is) ∙ f) in
    let w = and_parts (of_expr x).follows (of_expr y).follows v.1 in
    let count = ap (λ (g : Features). g.operators) is in
    let deep : (of_expr x).depth ≤ d = omega (arith, e, ap (λ (g : Features). g.depth) is) in
    let bound : suc (of_expr x).operators ≤ m = omega (arith, l, count) in
    let less : (of_expr x).operators ≤ (of_kind _).operators = omega (arith, count) in
    binary_free x b d renew left m ih (sign_of_bin op) y (t ∷ ts) rest bound w.0 deep (fewer renew left _ (of_expr x).operators less a) (spells_as (t ∷ ts) (spell-Binary x op y ∙ append_assoc (spell x) (sign (sign_of_bin op)) (spell y)) s)
kind_no_free b d renew left m h ih _ (is_number value) t ts rest l f e a s = absurd (spells_as (t ∷ ts) (spell-Number value) s).0.0

no_free : (b : Option Readers) (d renew left m : ℕ) → IsCompleteBelow d b → NoFree b d renew left m
no_free b d renew left zero h e front rest l f dd a s = absurd (omega (arith, l))
no_free b d renew left (suc m) h e front rest l f dd a s =
    let is = features-Expr e in
    let first = first_token e front s in
    let count = ap (λ (x : Features). x.operators) is in
    ap (λ (us : List Token). free_at b renew left (us ++ rest)) first.is ∙ kind_no_free b d renew left m h (λ e2 f2 r2 l2 v2 d2 a2 s2. no_free b d renew left m h e2 f2 r2 l2 v2 d2 a2 s2) e.kind (case_of e.kind) first.t first.ts rest (omega (arith, l, count)) (sym (ap (λ (x : Features). x.follows) is) ∙ f) (omega (arith, dd, ap (λ (x : Features). x.depth) is)) (fewer renew left (of_expr e).operators (of_kind e.kind).operators (omega (arith, count)) a) first.spells_kind

-- ---- parameters

data ParamCase : Param → Type 0 where
  is_free : (type : TypeExpr) → (n : Ident) → ParamCase (Free type n)
  is_fixed : (e : Expr) → ParamCase (Fixed e)

param_layer : (l : layer.Param-F ExprKind Modifier Operand Value Item Param Body Range StmtKind Expr TypeExpr Called Place Stmt) → ParamCase (roll-Param l)
param_layer (layer.Free type n) = subst ParamCase (sym (rolls-Free type n)) (is_free type n)
param_layer (layer.Fixed e) = subst ParamCase (sym (rolls-Fixed e)) (is_fixed e)

param_case : (p : Param) → ParamCase p
param_case p = subst ParamCase (roll-out-Param p) (param_layer (out-Param p))

free_read : (type : TypeExpr) (n : Ident) (b : Option Readers) (d renew left after : ℕ) (front rest : List Token) → IsCompleteBelow d b → is_name n.name ≡ true → Fits (of_type type) d renew left after → Spells (spell_type type ++ name n) front → free_at b renew left (front ++ rest) ≡ Some (Free type n, after, rest)
unfolding free_at
free_read type n b d renew left after front rest h v f s =
    let two = next (spell_type type) (name n) front rest s in
    let read = complete-type_at type b d renew left after two.first (two.last ++ rest) h f two.spells_first (name_no_sign (codes "[") n [] two.last rest two.spells_last) in
    ap (free_at b renew left) two.is ∙ rw (free_at, read, name_alone n two.last rest v two.spells_last) refl

fixed_read : (e : Expr) (b : Option Readers) (d renew left after : ℕ) (front rest : List Token) → IsCompleteBelow d b → Fits (of_expr e) d renew left after → Spells (spell e) front → ClosesExpr rest → fixed_at b renew left (front ++ rest) ≡ Some (Fixed e, after, rest)
unfolding fixed_at
fixed_read e b d renew left after front rest h f s c = rw (fixed_at, complete-whole_at e b d renew left after front rest h f s c) refl

param_read : (p : Param) → ParamCase p → (b : Option Readers) (d renew left after : ℕ) (front rest : List Token) → IsCompleteBelow d b → Fits (of_param p) d renew left after → Spells (spell_param p) front → ClosesExpr rest → param_at b renew left (front ++ rest) ≡ Some (p, after, rest)
unfolding param_at
param_read _ (is_free type n) b d renew left after front rest h f s c =
    let g = fits_where (is_name n.name) (fits_as (features-Free type n) f) in
    rw (param_at, free_read type n b d renew left after front rest h g.0 g.1 (spells_as front (spell-Free type n) s)) refl
param_read _ (is_fixed e) b d renew left after front rest h f s c =
    let g = fits_as (features-Fixed e) f in
    let p = spells_as front (spell-Fixed e) s in
    rw (param_at, no_free b d renew left (suc (of_expr e).operators) h e front rest (omega arith) g.follows g.depth (affords e d renew left after g) p, fixed_read e b d renew left after front rest h g p c) refl

-- no parameter begins with a closing bracket
param_no_bracket : (p : Param) → ParamCase p → (front rest : List Token) → Spells (spell_param p) front → begins_sign (codes ")") (front ++ rest) ≡ false
param_no_bracket _ (is_free type n) front rest s =
    let w = type_first_word type (name n) front rest (spells_as front (spell-Free type n) s) in
    ap (begins_sign (codes ")")) w.is ∙ rw (w.is_word) refl
param_no_bracket _ (is_fixed e) front rest s = no_bracket_first e front rest (spells_as front (spell-Fixed e) s)

params_to_read : (ps : List Param) (b : Option Readers) (d renew left after : ℕ) (front rest : List Token) → IsCompleteBelow d b → Fits (all_of (map of_param ps)) d renew left after → Spells (with_commas (map spell_param ps) ++ sign (codes ")")) front → params_to (after_sign (codes ")") (front ++ rest)) b renew left (front ++ rest) ≡ Some (Some ps, after, rest)
unfolding params_to
params_to_read [] b d renew left after front rest h f s = rw (after_last (codes ")") front rest s, fits_nothing f) refl
params_to_read (p ∷ ps) b d renew left after front rest h f s =
    let first = next (spell_param p) (spell_after_commas (map spell_param ps) ++ sign (codes ")")) front rest (regroup (spell_param p) (spell_after_commas (map spell_param ps)) (sign (codes ")")) front s) in
    let other : after_sign (codes ")") (front ++ rest) ≡ None = no_sign_after (codes ")") (front ++ rest) (ap (begins_sign (codes ")")) first.is ∙ param_no_bracket p (param_case p) first.first (first.last ++ rest) first.spells_first) in
    let two = next (with_commas (map spell_param (p ∷ ps))) (sign (codes ")")) front rest s in
    let read : commas (param_at b renew) left (front ++ rest) ≡ Some (p ∷ ps, after, two.last ++ rest) =
    ap (commas (param_at b renew) left) two.is ∙ complete-commas spell_param of_param ClosesExpr d renew (param_at b renew) (λ x l a fr re g t c. param_read x (param_case x) b d renew l a fr re h g t c) (λ qs fr re t. closes_at (codes ",") close_comma 10 qs fr re t) (p ∷ ps) left after two.first (two.last ++ rest) refl f two.spells_first (closes_at (codes ")") close_round 10 [] two.last rest two.spells_last) (begins_sign_at (codes ",") (record { shows = Sign (codes ")"); places = [] }) [] two.last rest two.spells_last) in
    rw (other, params_to, read, after_last (codes ")") two.last rest two.spells_last) refl

cal_params_some : (ps : List Param) (i renew left after : ℕ) (front rest : List Token) → Fits (all_of (map of_param ps)) i renew left after → Spells (in_round (with_commas (map spell_param ps))) front → cal_params_at (suc i) renew left (front ++ rest) ≡ Some (Some ps, after, rest)
unfolding cal_params_at
cal_params_some ps i renew left after front rest f s =
    let begins : begins_sign (codes "(") (front ++ rest) ≡ true = begins_sign_at (codes "(") (record { shows = Sign (codes "("); places = [] }) (with_commas (map spell_param ps) ++ sign (codes ")")) front rest s in
    let one = after_sign_at (codes "(") (with_commas (map spell_param ps) ++ sign (codes ")")) front rest s in
    rw (cal_params_at, begins, one.is) (params_to_read ps (below i) i renew left after one.front rest (complete-below i) f one.spells)

complete-cal_params_at : (params : Option (List Param)) (d renew left after : ℕ) (front rest : List Token) → Fits (params_features (option_map (map of_param) params)) d renew left after → Spells (if_there (λ ps. in_round (with_commas ps)) (option_map (map spell_param) params)) front → NoCount rest → cal_params_at d renew left (front ++ rest) ≡ Some (params, after, rest)
unfolding cal_params_at
complete-cal_params_at None d renew left after [] rest f s c = rw (cal_params_at, c, fits_nothing f) refl
complete-cal_params_at None d renew left after (t ∷ ts) rest f s c = absurd s
complete-cal_params_at (Some ps) zero renew left after front rest f s c = absurd (omega (arith, f.depth))
complete-cal_params_at (Some ps) (suc i) renew left after front rest f s c = cal_params_some ps i renew left after front rest (fits_inside (all_of (map of_param ps)) i renew left after f) s

-- ---- what a calibration is given for, and what it gives

record CalNameLeft (n : CalName) (ps : List Piece) (read : Option (CalName × List Token)) (rest : List Token) : Type 0 where
  front : List Token
  is : read ≡ Some (n, front ++ rest)
  spells : Spells ps front

cal_name_left : (n : CalName) (ps : List Piece) (front rest : List Token) → is_calibrated n ≡ true → Spells (calibrated n ++ ps) front → CalNameLeft n ps (cal_name_at (front ++ rest)) rest
unfolding cal_name_at
cal_name_left (calibrates.Gate n) ps front rest v s =
    let named = name_at_name n ps front rest v s in
    let m : after_word (codes "measure") (front ++ rest) ≡ None = no_word_after (codes "measure") (front ++ rest) (begins_word_at (codes "measure") (record { shows = Word n.name; places = n.span ∷ [] }) ps front rest s ∙ not_reserved n.name (codes "measure") v refl) in
    let r : after_word (codes "reset") (front ++ rest) ≡ None = no_word_after (codes "reset") (front ++ rest) (begins_word_at (codes "reset") (record { shows = Word n.name; places = n.span ∷ [] }) ps front rest s ∙ not_reserved n.name (codes "reset") v refl) in
    record { front = named.front; is = rw (cal_name_at, m, r, named.is) refl; spells = named.spells }
cal_name_left calibrates.Measure ps front rest v s =
    let one = after_word_at (codes "measure") ps front rest s in
    record { front = one.front; is = rw (cal_name_at, one.is) refl; spells = one.spells }
cal_name_left calibrates.Reset ps front rest v s =
    let one = after_word_at (codes "reset") ps front rest s in
    let m : after_word (codes "measure") (front ++ rest) ≡ None = no_word_after (codes "measure") (front ++ rest) (begins_word_at (codes "measure") (record { shows = Word (codes "reset"); places = [] }) ps front rest s) in
    record { front = one.front; is = rw (cal_name_at, m, one.is) refl; spells = one.spells }

last_word : (text : List ℕ) (front rest : List Token) → Spells (word text) front → after_word text (front ++ rest) ≡ Some rest
last_word text front rest s =
    let one = after_word_at text [] front rest s in
    one.is ∙ ap (λ (us : List Token). Some (us ++ rest)) (nothing_spelled one.front one.spells)

-- a bit that is given, or none, before items
gives_read : (gives : Bool) (items : List Piece) (left : ℕ) (front last rest : List Token) → Spells (given_bit gives) front → Spells (sign (codes "{") ++ items) last → gives_at left (front ++ (last ++ rest)) ≡ Some (gives, left, last ++ rest)
unfolding gives_at
gives_read true items left front last rest s b =
    let one = after_sign_at (codes "->") (word (codes "bit")) front (last ++ rest) s in
    rw (gives_at, one.is, last_word (codes "bit") one.front (last ++ rest) one.spells) refl
gives_read false items left [] last rest s b = rw (gives_at, no_sign_after (codes "->") (last ++ rest) (begins_sign_at (codes "->") (record { shows = Sign (codes "{"); places = [] }) items last rest b)) refl
gives_read false items left (t ∷ ts) last rest s b = absurd s

-- what stands after the operands of a calibration
gives_no_sign : (gives : Bool) (text : List ℕ) (items : List Piece) (front rest : List Token) → bytes_eq (codes "->") text ≡ false → bytes_eq (codes "{") text ≡ false → Spells (given_bit gives ++ (sign (codes "{") ++ items)) front → begins_sign text (front ++ rest) ≡ false
gives_no_sign true text items front rest a b s = begins_sign_at text (record { shows = Sign (codes "->"); places = [] }) (word (codes "bit") ++ (sign (codes "{") ++ items)) front rest s ∙ a
gives_no_sign false text items front rest a b s = begins_sign_at text (record { shows = Sign (codes "{"); places = [] }) items front rest s ∙ b

operands_no_sign : (os : List Operand) (text : List ℕ) (ps : List Piece) (front rest : List Token) → is_some (map of_operand os) ≡ true → Spells (with_commas (map spell_operand os) ++ ps) front → begins_sign text (front ++ rest) ≡ false
operands_no_sign [] text ps front rest i s = absurd cc
operands_no_sign (o ∷ os) text ps front rest i s = operand_no_sign o text (spell_after_commas (map spell_operand os) ++ ps) front rest (regroup (spell_operand o) (spell_after_commas (map spell_operand os)) ps front s)

-- ---- a definition of a calibration

five : (os ps qs rs us : List Piece) → os ++ ps ++ qs ++ rs ++ us ≡ os ++ (ps ++ (qs ++ (rs ++ us)))
five os ps qs rs us = simp append_assoc refl

defcal_read : (n : CalName) (params : Option (List Param)) (operands : List Operand) (gives : Bool) (items : List Item) (d renew left after : ℕ) (front rest : List Token) → is_calibrated n ≡ true → is_some (map of_operand operands) ≡ true → Fits (both (params_features (option_map (map of_param) params)) (both (all_of (map of_operand operands)) (block (map of_item items)))) d renew left after → Spells (calibrated n ++ if_there (λ ps. in_round (with_commas ps)) (option_map (map spell_param) params) ++ with_commas (map spell_operand operands) ++ given_bit gives ++ in_braces (map spell_item items)) front → defcal_at d renew left (front ++ rest) ≡ Some (Defcal n params operands gives items, after, rest)
unfolding defcal_at
defcal_read n params operands gives items d renew left after front rest v i f s =
    let ps : List Piece = if_there (λ xs. in_round (with_commas xs)) (option_map (map spell_param) params) in
    let os : List Piece = with_commas (map spell_operand operands) in
    let cs : List Piece = in_braces (map spell_item items) in
    let inner : List Piece = joined (map spell_item items) ++ sign (codes "}") in
    let f1 = fits_both (params_features (option_map (map of_param) params)) (both (all_of (map of_operand operands)) (block (map of_item items))) d renew left after f in
    let f2 = fits_both (all_of (map of_operand operands)) (block (map of_item items)) d renew f1.between after f1.second in
    let named = cal_name_left n (ps ++ (os ++ (given_bit gives ++ cs))) front rest v (spells_as front (five (calibrated n) ps os (given_bit gives) cs) s) in
    let n2 = next ps (os ++ (given_bit gives ++ cs)) named.front rest named.spells in
    let n3 = next os (given_bit gives ++ cs) n2.last rest n2.spells_last in
    let n4 = next (given_bit gives) cs n3.last rest n3.spells_last in
    let r1 : cal_params_at d renew left (named.front ++ rest) ≡ Some (params, f1.between, n2.last ++ rest) = ap (cal_params_at d renew left) n2.is ∙ complete-cal_params_at params d renew left f1.between n2.first (n2.last ++ rest) f1.first n2.spells_first (operands_no_sign operands (codes "(") (given_bit gives ++ cs) n2.last rest i n2.spells_last) in
    let square : NoIndex (n3.last ++ rest) = gives_no_sign gives (codes "[") inner n3.last rest refl refl n3.spells_last in
    let comma : begins_sign (codes ",") (n3.last ++ rest) ≡ false = gives_no_sign gives (codes ",") inner n3.last rest refl refl n3.spells_last in
    let r2 : operands_at (below d) renew f1.between (n2.last ++ rest) ≡ Some (operands, f2.between, n3.last ++ rest) = ap (operands_at (below d) renew f1.between) n3.is ∙ complete-operands_at operands (below d) d renew f1.between f2.between n3.first (n3.last ++ rest) (complete-below d) i f2.first n3.spells_first square comma in
    let r3 : gives_at f2.between (n3.last ++ rest) ≡ Some (gives, f2.between, n4.last ++ rest) = ap (gives_at f2.between) n4.is ∙ gives_read gives inner f2.between n4.first n4.last rest n4.spells_first n4.spells_last in
    let r4 : items_at d renew f2.between (n4.last ++ rest) ≡ Some (items, after, rest) = complete-items_at items d renew f2.between after n4.last rest f2.second n4.spells_last in
    rw (defcal_at, named.is, r1, r2, r3, r4) refl

pub read-defcal : (n : CalName) (params : Option (List Param)) (operands : List Operand) (gives : Bool) (items : List Item) (d renew left after : ℕ) (front rest : List Token) → Fits (of_stmt_kind (Defcal n params operands gives items)) d renew left after → Spells (spell_stmt_kind (Defcal n params operands gives items)) front → TopRead (Defcal n params operands gives items) d renew left after front rest
unfolding top_of
read-defcal n params operands gives items d renew left after front rest f s =
    let g = fits_where (is_calibrated n && is_some (map of_operand operands)) (fits_top (fits_as (features-Defcal n params operands gives items) f)) in
    let v = and_parts (is_calibrated n) (is_some (map of_operand operands)) g.0 in
    by_top (codes "defcal") (calibrated n ++ if_there (λ ps. in_round (with_commas ps)) (option_map (map spell_param) params) ++ with_commas (map spell_operand operands) ++ given_bit gives ++ in_braces (map spell_item items)) (Defcal n params operands gives items) d renew left after front rest (spells_as front (spell-Defcal n params operands gives items) s) (λ last t. ap (λ (r : Reads StmtKind). Some r) (defcal_read n params operands gives items d renew left after last rest v.0 v.1 g.1 t))
