-- Values and calls are read where they are spelled.
use Rattle.std.proofs.Common.{◌≡◌, ℕ, zero, suc, ◌≤◌, true, codes, List, [], ◌∷◌, ◌++◌, length, map, option_map, Option, Some, None, refl, sym, ap, subst, ◌∙◌, length-append, arith}
use Rattle.qs_values.specs.Names.{is_name}
use Rattle.qs_lexer.specs.declared.token.Token.{Token}
use Rattle.qs_tree.specs.declared.expr.Expr.{Expr}
use Rattle.qs_tree.specs.declared.expr.ExprKind.{ExprKind}
use Rattle.qs_tree.specs.declared.expr.ExprKind.TheOpen as layer
use Rattle.qs_tree.specs.declared.expr.TypeExpr.{TypeExpr}
use Rattle.qs_tree.specs.declared.gate.Call.{Call as Called, Call-F, out-Call, roll-Call, roll-out-Call}
use Rattle.qs_tree.specs.declared.gate.Modifier.{Modifier, out-Modifier, roll-Modifier, roll-out-Modifier}
use Rattle.qs_tree.specs.declared.gate.Modifier.TheVariants.{Inv, Pow, Ctrl, NegCtrl, rolls-Inv, rolls-Pow, rolls-Ctrl, rolls-NegCtrl}
use Rattle.qs_tree.specs.declared.name.Ident.{Ident}
use Rattle.qs_tree.specs.declared.operand.Place.{Place}
use Rattle.qs_tree.specs.declared.operand.Operand.{Operand}
use Rattle.qs_tree.specs.declared.operand.Value.{Value, out-Value, roll-Value, roll-out-Value}
use Rattle.qs_tree.specs.declared.operand.Value.TheVariants.{Expression, Measurement, rolls-Expression, rolls-Measurement}
use Rattle.qs_tree.specs.declared.pulse.Param.{Param}
use Rattle.qs_tree.specs.declared.pulse.Item.{Item}
use Rattle.qs_tree.specs.declared.statement.Stmt.{Stmt}
use Rattle.qs_tree.specs.declared.statement.StmtKind.{StmtKind}
use Rattle.qs_tree.specs.declared.statement.Body.{Body}
use Rattle.qs_tree.specs.declared.statement.Range.{Range}
use Rattle.qs_tree.specs.Spelling.{Piece, Sign, Spells, if_there, in_round, joined, name, sign, spell, spell_call, spell_modifier, spell_operand, spell_value, with_commas, word, after_commas as spell_after_commas}
use Rattle.qs_tree.specs.WellFormed.{Features, all, both, in_brackets, nothing, of_call, of_expr, of_modifier, of_operand, of_value, where_true}
use Rattle.qs_tree.proofs.Spelled.{spell-Called, spell-Ctrl, spell-Expression, spell-Inv, spell-Measurement, spell-NegCtrl, spell-Pow}
use Rattle.qs_parser.specs.steps.Tokens.{Readers, after_word, begins_sign}
use Rattle.qs_parser.specs.steps.Statements.{acted_at, call_at, ctrl_at, is_modifier, modifier_of, modifier_word, modifiers_at, negctrl_at, params_at, pow_at, signed_off, value_at}
use Rattle.qs_parser.proofs.Featured.{features-Called, features-Ctrl, features-Expression, features-Inv, features-Measurement, features-NegCtrl, features-Pow}
use Rattle.qs_parser.proofs.TokenPieces.{after_word_at, begins_sign_at, name_at_name, no_word_after, spells_split}
use Rattle.qs_parser.proofs.Complete.{ClosesExpr, Fits, IsCompleteBelow}
use Rattle.qs_parser.proofs.CompleteExprParts.{after_last, close_round, complete-enclosed, fits_as, fits_both, fits_nothing, fits_where}
use Rattle.qs_parser.proofs.CompleteExprCases.{spells_as}
use Rattle.qs_parser.proofs.CompleteExprPrimary.{complete-args_at}
use Rattle.qs_parser.proofs.CompleteStmtParts.{NoCount, ReadsExpr, complete-acted_at, complete-count_at, complete-operand_at, complete-stopped, complete-whole_at, next, operand_no_sign, regroup}
use Rattle.qs_parser.proofs.CompleteStmtNames.{expr_no_measure, name_no_modifier}

-- ---- values

data ValueCase : Value → Type 0 where
  is_expression : (e : Expr) → ValueCase (Expression e)
  is_measurement : (o : Operand) → ValueCase (Measurement o)

value_layer : (l : layer.Value-F ExprKind Modifier Operand Value Item Param Body Range StmtKind Expr TypeExpr Called Place Stmt) → ValueCase (roll-Value l)
value_layer (layer.Expression e) = subst ValueCase (sym (rolls-Expression e)) (is_expression e)
value_layer (layer.Measurement o) = subst ValueCase (sym (rolls-Measurement o)) (is_measurement o)

value_read : (v : Value) → ValueCase v → (below : Option Readers) (d renew left after : ℕ) (front rest : List Token) → IsCompleteBelow d below → ReadsExpr d below → Fits (of_value v) d renew left after → Spells (spell_value v) front → ClosesExpr rest → value_at below renew left (front ++ rest) ≡ Some (v, after, rest)
unfolding value_at
value_read _ (is_expression e) below d renew left after front rest h k f s c =
    let f2 = fits_as (features-Expression e) f in
    let s2 = spells_as front (spell-Expression e) s in
    let other : after_word (codes "measure") (front ++ rest) ≡ None = no_word_after (codes "measure") (front ++ rest) (expr_no_measure e front rest f2.follows s2) in
    rw (value_at, other, complete-whole_at below d k e renew left after front rest f2 s2 c) refl
value_read _ (is_measurement o) below d renew left after front rest h k f s c =
    let one = after_word_at (codes "measure") (spell_operand o) front rest (spells_as front (spell-Measurement o) s) in
    rw (value_at, one.is, complete-operand_at o below d renew left after one.front rest h (fits_as (features-Measurement o) f) one.spells c.square) refl

pub complete-value_at : (v : Value) (below : Option Readers) (d renew left after : ℕ) (front rest : List Token) → IsCompleteBelow d below → ReadsExpr d below → Fits (of_value v) d renew left after → Spells (spell_value v) front → ClosesExpr rest → value_at below renew left (front ++ rest) ≡ Some (v, after, rest)
complete-value_at v below d renew left after front rest h k f s c = value_read v (subst ValueCase (roll-out-Value v) (value_layer (out-Value v))) below d renew left after front rest h k f s c

-- ---- modifiers

pub data ModifierCase : Modifier → Type 0 where
  is_inv : ModifierCase Inv
  is_pow : (exponent : Expr) → ModifierCase (Pow exponent)
  is_ctrl : (count : Option Expr) → ModifierCase (Ctrl count)
  is_negctrl : (count : Option Expr) → ModifierCase (NegCtrl count)

modifier_layer : (l : layer.Modifier-F ExprKind Modifier Operand Value Item Param Body Range StmtKind Expr TypeExpr Called Place Stmt) → ModifierCase (roll-Modifier l)
modifier_layer layer.Inv = subst ModifierCase (sym rolls-Inv) is_inv
modifier_layer (layer.Pow exponent) = subst ModifierCase (sym (rolls-Pow exponent)) (is_pow exponent)
modifier_layer (layer.Ctrl count) = subst ModifierCase (sym (rolls-Ctrl count)) (is_ctrl count)
modifier_layer (layer.NegCtrl count) = subst ModifierCase (sym (rolls-NegCtrl count)) (is_negctrl count)

pub modifier_case : (m : Modifier) → ModifierCase m
modifier_case m = subst ModifierCase (roll-out-Modifier m) (modifier_layer (out-Modifier m))

-- the word of a modifier is read, and leaves what spells the rest
record WordLeft (text : List ℕ) (ps : List Piece) (ts rest : List Token) : Type 0 where
  last : List Token
  is : modifier_word ts ≡ Some (text, last ++ rest)
  spells : Spells ps last

word_left : (text : List ℕ) (ps : List Piece) (front rest : List Token) → is_modifier text ≡ true → Spells (word text ++ ps) front → WordLeft text ps (front ++ rest) rest
word_left text ps [] rest v s = absurd s
word_left text ps (t ∷ ts) rest v s =
    let k : t.kind ≡ _ = s.0.0.0 in
    let e : t.text ≡ text = s.0.0.1 in
    record { last = ts; is = rw (k, e, v) refl; spells = s.1 }

signed_off_read : (m : Modifier) (left : ℕ) (front rest : List Token) → Spells (sign (codes "@")) front → signed_off m left (front ++ rest) ≡ Some (m, left, rest)
unfolding signed_off
signed_off_read m left front rest s = rw (signed_off, after_last (codes "@") front rest s) refl

-- no count stands before the sign of a modifier
sign_no_count : (front rest : List Token) → Spells (sign (codes "@")) front → NoCount (front ++ rest)
sign_no_count front rest s = begins_sign_at (codes "(") (record { shows = Sign (codes "@"); places = [] }) [] front rest s

-- a modifier, by its word and what is read after the word
record ModifierRead (m : Modifier) (below : Option Readers) (renew left after : ℕ) (ts rest : List Token) : Type 0 where
  text : List ℕ
  last : List Token
  is : modifier_word ts ≡ Some (text, last)
  read : modifier_of below renew left text last ≡ Some (m, after, rest)

modifier_read : (m : Modifier) → ModifierCase m → (below : Option Readers) (d renew left after : ℕ) (front rest : List Token) → IsCompleteBelow d below → Fits (of_modifier m) d renew left after → Spells (spell_modifier m) front → ModifierRead m below renew left after (front ++ rest) rest
unfolding modifier_of pow_at ctrl_at negctrl_at
modifier_read _ is_inv below d renew left after front rest h f s =
    let one = word_left (codes "inv") (sign (codes "@")) front rest refl (spells_as front spell-Inv s) in
    let same = fits_nothing (fits_as features-Inv f) in
    record { text = codes "inv"; last = one.last ++ rest; is = one.is; read = signed_off_read Inv left one.last rest one.spells ∙ ap (λ (x : ℕ). Some (Inv, x, rest)) same }
modifier_read _ (is_pow e) below d renew left after front rest h f s =
    let one = word_left (codes "pow") (in_round (spell e) ++ sign (codes "@")) front rest refl (spells_as front (spell-Pow e) s) in
    let n = next (in_round (spell e)) (sign (codes "@")) one.last rest one.spells in
    let first = complete-enclosed (codes "(") (codes ")") close_round e below d renew left after n.first (n.last ++ rest) h (fits_as (features-Pow e) f) n.spells_first in
    record { text = codes "pow"; last = one.last ++ rest; is = one.is; read = ap (pow_at below renew left) n.is ∙ rw (pow_at, first) (signed_off_read (Pow e) after n.last rest n.spells_last) }
modifier_read _ (is_ctrl count) below d renew left after front rest h f s =
    let one = word_left (codes "ctrl") (if_there in_round (option_map spell count) ++ sign (codes "@")) front rest refl (spells_as front (spell-Ctrl count) s) in
    let n = next (if_there in_round (option_map spell count)) (sign (codes "@")) one.last rest one.spells in
    let first = complete-count_at count below d renew left after n.first (n.last ++ rest) h (fits_as (features-Ctrl count) f) n.spells_first (sign_no_count n.last rest n.spells_last) in
    record { text = codes "ctrl"; last = one.last ++ rest; is = one.is; read = ap (ctrl_at below renew left) n.is ∙ rw (ctrl_at, first) (signed_off_read (Ctrl count) after n.last rest n.spells_last) }
modifier_read _ (is_negctrl count) below d renew left after front rest h f s =
    let one = word_left (codes "negctrl") (if_there in_round (option_map spell count) ++ sign (codes "@")) front rest refl (spells_as front (spell-NegCtrl count) s) in
    let n = next (if_there in_round (option_map spell count)) (sign (codes "@")) one.last rest one.spells in
    let first = complete-count_at count below d renew left after n.first (n.last ++ rest) h (fits_as (features-NegCtrl count) f) n.spells_first (sign_no_count n.last rest n.spells_last) in
    record { text = codes "negctrl"; last = one.last ++ rest; is = one.is; read = ap (negctrl_at below renew left) n.is ∙ rw (negctrl_at, first) (signed_off_read (NegCtrl count) after n.last rest n.spells_last) }

modifiers_read : (ms : List Modifier) (n : ℕ) (below : Option Readers) (d renew left after : ℕ) (front rest : List Token) → length ms ≤ n → IsCompleteBelow d below → Fits (all (map of_modifier ms)) d renew left after → Spells (joined (map spell_modifier ms)) front → modifier_word rest ≡ None → modifiers_at n below renew left (front ++ rest) ≡ Some (ms, after, rest)
unfolding modifiers_at
modifiers_read [] zero below d renew left after [] rest l h f s e = rw (fits_nothing f) refl
modifiers_read [] (suc n) below d renew left after [] rest l h f s e = rw (modifiers_at, e, fits_nothing f) refl
modifiers_read [] n below d renew left after (t ∷ ts) rest l h f s e = absurd s
modifiers_read (m ∷ ms) zero below d renew left after front rest l h f s e = absurd (omega (arith, l))
modifiers_read (m ∷ ms) (suc k) below d renew left after front rest l h f s e =
    let fs = fits_both (of_modifier m) (all (map of_modifier ms)) d renew left after f in
    let n = next (spell_modifier m) (joined (map spell_modifier ms)) front rest s in
    let one = modifier_read m (modifier_case m) below d renew left fs.between n.first (n.last ++ rest) h fs.first n.spells_first in
    let more : modifiers_at k below renew fs.between (n.last ++ rest) ≡ Some (ms, after, rest) = modifiers_read ms k below d renew fs.between after n.last rest (omega (arith, l)) h fs.second n.spells_last e in
    ap (modifiers_at (suc k) below renew left) n.is ∙ rw (modifiers_at, one.is, one.read, more) refl

pub modifier_some : (m : Modifier) → ModifierCase m → Spells (spell_modifier m) [] → ⊥
modifier_some _ is_inv s = spells_as [] spell-Inv s
modifier_some _ (is_pow e) s = spells_as [] (spell-Pow e) s
modifier_some _ (is_ctrl count) s = spells_as [] (spell-Ctrl count) s
modifier_some _ (is_negctrl count) s = spells_as [] (spell-NegCtrl count) s

modifier_length : (m : Modifier) (front : List Token) → Spells (spell_modifier m) front → 1 ≤ length front
modifier_length m [] s = absurd (modifier_some m (modifier_case m) s)
modifier_length m (t ∷ ts) s = omega arith

-- as many tokens as modifiers, at least
modifiers_length : (ms : List Modifier) (front : List Token) → Spells (joined (map spell_modifier ms)) front → length ms ≤ length front
modifiers_length [] front s = omega arith
modifiers_length (m ∷ ms) front s =
    let two = spells_split (spell_modifier m) (joined (map spell_modifier ms)) front s in
    omega (arith, modifier_length m two.front two.spells_front, modifiers_length ms two.after two.spells_after, ap length two.is, length-append two.front two.after)

-- ---- calls

-- the features of a call's parameters
abbrev args_features : Option (List Features) → Features
args_features None = nothing
args_features (Some args) = in_brackets (all args)

params_read : (args : Option (List Expr)) (below : Option Readers) (d renew left after : ℕ) (front rest : List Token) → IsCompleteBelow d below → Fits (args_features (option_map (map of_expr) args)) d renew left after → Spells (if_there (λ es. in_round (with_commas es)) (option_map (map spell) args)) front → NoCount rest → params_at below renew left (front ++ rest) ≡ Some (args, after, rest)
unfolding params_at
params_read None below d renew left after [] rest h f s c = rw (params_at, c, fits_nothing f) refl
params_read None below d renew left after (t ∷ ts) rest h f s c = absurd s
params_read (Some es) below d renew left after front rest h f s c =
    let begins : begins_sign (codes "(") (front ++ rest) ≡ true = begins_sign_at (codes "(") (record { shows = Sign (codes "("); places = [] }) (with_commas (map spell es) ++ sign (codes ")")) front rest s in
    rw (params_at, begins, complete-args_at es below d renew left after front rest h f s) refl

-- operands before a semicolon begin with no bracket
acted_no_count : (os : List Operand) (front last rest : List Token) → Spells (with_commas (map spell_operand os)) front → Spells (sign (codes ";")) last → NoCount (front ++ (last ++ rest))
acted_no_count [] [] last rest s e = begins_sign_at (codes "(") (record { shows = Sign (codes ";"); places = [] }) [] last rest e
acted_no_count [] (t ∷ ts) last rest s e = absurd s
acted_no_count (o ∷ os) front last rest s e = operand_no_sign o (codes "(") (spell_after_commas (map spell_operand os)) front (last ++ rest) s

name_ends : (n : Ident) (ps : List Piece) (front rest : List Token) → is_name n.name ≡ true → Spells (name n ++ ps) front → modifier_word (front ++ rest) ≡ None
name_ends n ps [] rest v s = absurd s
name_ends n ps (t ∷ ts) rest v s =
    let k : t.kind ≡ _ = s.0.0.0 in
    let e : t.text ≡ n.name = s.0.0.1 in
    rw (k, e, name_no_modifier n.name v) refl

call_layer_read : (ms : List Modifier) (n : Ident) (args : Option (List Expr)) (os : List Operand) (below : Option Readers) (d renew left after : ℕ) (front rest : List Token) → IsCompleteBelow d below → Fits (where_true (is_name n.name) (both (all (map of_modifier ms)) (both (args_features (option_map (map of_expr) args)) (all (map of_operand os))))) d renew left after → Spells ((joined (map spell_modifier ms) ++ name n ++ if_there (λ es. in_round (with_commas es)) (option_map (map spell) args) ++ with_commas (map spell_operand os)) ++ sign (codes ";")) front → call_at below renew left (front ++ rest) ≡ Some (roll-Call (record { modifiers = ms; name = n; args = args; operands = os }), after, rest)
unfolding call_at
call_layer_read ms n args os below d renew left after front rest h f s =
    let params : List Piece = if_there (λ es. in_round (with_commas es)) (option_map (map spell) args) in
    let acted : List Piece = with_commas (map spell_operand os) in
    let g = fits_where (is_name n.name) f in
    let f1 = fits_both (all (map of_modifier ms)) (both (args_features (option_map (map of_expr) args)) (all (map of_operand os))) d renew left after g.1 in
    let f2 = fits_both (args_features (option_map (map of_expr) args)) (all (map of_operand os)) d renew f1.between after f1.second in
    let last : List Piece = acted ++ sign (codes ";") in
    let s2 = regroup (joined (map spell_modifier ms)) (name n) (params ++ last) front (regroup (joined (map spell_modifier ms) ++ name n) params last front (regroup (joined (map spell_modifier ms) ++ name n ++ params) acted (sign (codes ";")) front s)) in
    let n1 = next (joined (map spell_modifier ms)) (name n ++ (params ++ last)) front rest s2 in
    let named = name_at_name n (params ++ last) n1.last rest g.0 n1.spells_last in
    let n2 = next params last named.front rest named.spells in
    let n3 = next acted (sign (codes ";")) n2.last rest n2.spells_last in
    let enough : length ms ≤ length (n1.first ++ (n1.last ++ rest)) = omega (arith, modifiers_length ms n1.first n1.spells_first, length-append n1.first (n1.last ++ rest)) in
    let r1 = modifiers_read ms (length (n1.first ++ (n1.last ++ rest))) below d renew left f1.between n1.first (n1.last ++ rest) enough h f1.first n1.spells_first (name_ends n (params ++ last) n1.last rest g.0 n1.spells_last) in
    let bare : NoCount (n2.last ++ rest) = ap (begins_sign (codes "(")) n3.is ∙ acted_no_count os n3.first n3.last rest n3.spells_first n3.spells_last in
    let r2 : params_at below renew f1.between (named.front ++ rest) ≡ Some (args, f2.between, n2.last ++ rest) = ap (params_at below renew f1.between) n2.is ∙ params_read args below d renew f1.between f2.between n2.first (n2.last ++ rest) h f2.first n2.spells_first bare in
    let r3 = ap (acted_at below renew f2.between) n3.is ∙ complete-acted_at os below d renew f2.between after n3.first n3.last rest h f2.second n3.spells_first n3.spells_last in
    ap (call_at below renew left) n1.is ∙ rw (call_at, r1, named.is, r2, r3) (complete-stopped _ after n3.last rest n3.spells_last)

pub complete-call_at : (c : Called) (below : Option Readers) (d renew left after : ℕ) (front rest : List Token) → IsCompleteBelow d below → Fits (of_call c) d renew left after → Spells (spell_call c ++ sign (codes ";")) front → call_at below renew left (front ++ rest) ≡ Some (c, after, rest)
complete-call_at c below d renew left after front rest h f s = subst (λ (x : Called). call_at below renew left (front ++ rest) ≡ Some (x, after, rest)) same (from (out-Call c) (fits_as (ap of_call (sym same)) f) (spells_as front (ap (λ (x : Called). spell_call x ++ sign (codes ";")) (sym same)) s))
  where
    same : roll-Call (out-Call c) ≡ c
    same = roll-out-Call c

    from : (l : Call-F ExprKind Modifier Operand Value Item Param Body Range StmtKind Expr TypeExpr Called Place Stmt) → Fits (of_call (roll-Call l)) d renew left after → Spells (spell_call (roll-Call l) ++ sign (codes ";")) front → call_at below renew left (front ++ rest) ≡ Some (roll-Call l, after, rest)
    from l f2 s2 = call_layer_read l.modifiers l.name l.args l.operands below d renew left after front rest h (fits_as (features-Called l.modifiers l.name l.args l.operands) f2) (spells_as front (ap (λ (x : List Piece). x ++ sign (codes ";")) (spell-Called l.modifiers l.name l.args l.operands)) s2)
