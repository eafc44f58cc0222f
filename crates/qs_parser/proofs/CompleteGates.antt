-- Gates are read where they are spelled.
use Rattle.std.proofs.Common.{◌≡◌, ℕ, zero, suc, Bool, true, false, ◌&&◌, codes, List, [], ◌∷◌, ◌++◌, map, option_map, Option, Some, None, refl, sym, ap, subst, ◌∙◌, append_assoc, arith}
use Rattle.std.specs.List.{list_all}
use Rattle.std.proofs.lemmas.Bool.{and_parts}
use Rattle.std.proofs.lemmas.List.Folds.{list_all-map}
use Rattle.qs_values.specs.Names.{is_name}
use Rattle.qs_values.specs.declared.span.Span.{Span}
use Rattle.qs_lexer.specs.declared.token.Token.{Token}
use Rattle.qs_tree.specs.declared.expr.Expr.{Expr}
use Rattle.qs_tree.specs.declared.expr.TypeExpr.{TypeExpr, TypeExpr-F, out-TypeExpr, roll-TypeExpr, roll-out-TypeExpr}
use Rattle.qs_tree.specs.declared.expr.ExprKind.{ExprKind}
use Rattle.qs_tree.specs.declared.gate.Call.{Call as Called}
use Rattle.qs_tree.specs.declared.gate.Modifier.{Modifier}
use Rattle.qs_tree.specs.declared.name.Ident.{Ident}
use Rattle.qs_tree.specs.declared.operand.Place.{Place}
use Rattle.qs_tree.specs.declared.operand.Operand.{Operand}
use Rattle.qs_tree.specs.declared.operand.Value.{Value}
use Rattle.qs_tree.specs.declared.pulse.Param.{Param}
use Rattle.qs_tree.specs.declared.pulse.Item.{Item}
use Rattle.qs_tree.specs.declared.statement.Body.{Body}
use Rattle.qs_tree.specs.declared.statement.Range.{Range}
use Rattle.qs_tree.specs.declared.statement.Stmt.{Stmt}
use Rattle.qs_tree.specs.declared.statement.StmtKind.{StmtKind}
use Rattle.qs_tree.specs.declared.statement.StmtKind.TheVariants.{Include, DefcalGrammar, Qubit, Input, Output, Gate, Cal, Defcal, Init, Declare, Stretch, GateCall, Assign, Update, Measure, Reset, Barrier, Delay, Box, If, While, For, Break, Continue, End}
use Rattle.qs_tree.specs.Spelling.{Piece, Sign, Word, Spells, if_there, in_braces, in_round, joined, name, names, sign, spell_stmt, spell_stmt_kind}
use Rattle.qs_tree.specs.WellFormed.{AsCall, Features, all as all_of, are_names, are_params, block, both, brackets_of, if_in_brackets, is_call, is_some, nested, of_call, of_expr, of_operand, of_place, of_stmt, of_stmt_kind, of_type, where_true}
use Rattle.qs_tree.proofs.Spelled.{spell-Gate, spell-GateCall, spell-Stmt}
use Rattle.qs_parser.specs.steps.Tokens.{Reads, begins_sign}
use Rattle.qs_parser.specs.steps.Knot.{below}
use Rattle.qs_parser.specs.steps.Globals.{call_in, calls_at, gate_at, gate_params_at, names_at, top_of}
use Rattle.qs_parser.proofs.Featured.{features-Cal, features-Assign, features-Barrier, features-Box, features-Break, features-Continue, features-Declare, features-Defcal, features-DefcalGrammar, features-Delay, features-End, features-For, features-Gate, features-GateCall, features-If, features-Include, features-Init, features-Input, features-Measure, features-Named, features-Output, features-PhysicalQubit, features-Place, features-Qubit, features-Reset, features-Stmt, features-Stretch, features-TypeExpr, features-Update, features-While}
use Rattle.qs_parser.proofs.TokenPieces.{after_sign_at, begins_sign_at, name_at_name}
use Rattle.qs_parser.proofs.SoundNested.{map_nested}
use Rattle.qs_parser.proofs.Complete.{Fits}
use Rattle.qs_parser.proofs.CompleteExprParts.{fits_as, fits_both, fits_where}
use Rattle.qs_parser.proofs.CompleteExprCases.{spells_as, unplaced}
use Rattle.qs_parser.proofs.CompleteStmtParts.{OperandCase, is_named, is_physical, next, operand_case, place_starts}
use Rattle.qs_parser.proofs.CompleteStmtCalls.{complete-call_at}
use Rattle.qs_parser.proofs.CompleteStmtCases.{StmtCase, is_include, is_defcalgrammar, is_qubit, is_input, is_output, is_gate, is_cal, is_defcal, is_init, is_declare, is_stretch, is_gate_call, is_assign, is_update, is_measure, is_reset, is_barrier, is_delay, is_box, is_if, is_while, is_for, is_break, is_continue, is_end, stmt_case_of}
use Rattle.qs_parser.proofs.CompleteBegins.{stmt_no_sign, stmt_some}
use Rattle.qs_parser.proofs.CompleteBlocks.{IsCompletePart, complete-to_brace}
use Rattle.qs_parser.proofs.CompleteKnot.{complete-below}
use Rattle.qs_parser.proofs.CompleteGlobals.{TopRead, by_top, complete-gate_params_at, complete-names_at, fits_inside, fits_top}

-- ---- which statements are calls

-- a statement that is a call
record IsGateCall (k : StmtKind) : Type 0 where
  call : Called
  is : k ≡ GateCall call

brackets_no_call : (f : Option Features) → is_call (if_in_brackets f).standing ≡ false
brackets_no_call None = refl
brackets_no_call (Some f) = refl

type_no_call : (type : TypeExpr) → is_call (of_type type).standing ≡ false
type_no_call type = subst (λ (x : TypeExpr). is_call (of_type x).standing ≡ false) (roll-out-TypeExpr type) (from (out-TypeExpr type))
  where
    from : (l : TypeExpr-F ExprKind Modifier Operand Value Item Param Body Range StmtKind Expr TypeExpr Called Place Stmt) → is_call (of_type (roll-TypeExpr l)).standing ≡ false
    from l = ap (λ (x : Features). is_call x.standing) (features-TypeExpr l.span l.word l.width) ∙ brackets_no_call (option_map of_expr l.width)

place_no_call : (p : Place) → is_call (of_place p).standing ≡ false
place_no_call p = let b = place_starts p in ap (λ (x : Features). is_call x.standing) (b.features ∙ features-Place b.n b.index) ∙ brackets_no_call (option_map of_expr b.index)

operand_no_call : (o : Operand) → OperandCase o → is_call (of_operand o).standing ≡ false
operand_no_call _ (is_named p) = ap (λ (x : Features). is_call x.standing) (features-Named p) ∙ place_no_call p
operand_no_call _ (is_physical span number) = ap (λ (x : Features). is_call x.standing) (features-PhysicalQubit span number)

operands_no_call : (os : List Operand) → is_call (all_of (map of_operand os)).standing ≡ false
operands_no_call [] = refl
operands_no_call (o ∷ os) = refl

no_call : {k : StmtKind} (b : Bool) → b ≡ false → b ≡ true → IsGateCall k
no_call true e h = absurd cc
no_call false e h = absurd cc

-- a statement's kind stands as a call
abbrev stands_call : StmtKind → Bool
stands_call k = is_call (of_stmt_kind k).standing

called : (f g : Features) → f ≡ g → is_call f.standing ≡ is_call g.standing
called f g e = ap (λ (x : Features). is_call x.standing) e

gate_call : (k : StmtKind) → StmtCase k → stands_call k ≡ true → IsGateCall k
gate_call _ (is_include text) h = no_call (stands_call (Include text)) (called _ _ (features-Include text)) h
gate_call _ (is_defcalgrammar text) h = no_call (stands_call (DefcalGrammar text)) (called _ _ (features-DefcalGrammar text)) h
gate_call _ (is_qubit size n) h = no_call (stands_call (Qubit size n)) (called _ _ (features-Qubit size n)) h
gate_call _ (is_input type n) h = no_call (stands_call (Input type n)) (called _ _ (features-Input type n)) h
gate_call _ (is_output type n) h = no_call (stands_call (Output type n)) (called _ _ (features-Output type n)) h
gate_call _ (is_gate n params qubits calls) h = no_call (stands_call (Gate n params qubits calls)) (called _ _ (features-Gate n params qubits calls)) h
gate_call _ (is_cal items) h = no_call (stands_call (Cal items)) (called _ _ (features-Cal items)) h
gate_call _ (is_defcal n params operands gives items) h = no_call (stands_call (Defcal n params operands gives items)) (called _ _ (features-Defcal n params operands gives items)) h
gate_call _ (is_init is_const type n value) h = no_call (stands_call (Init is_const type n value)) (called _ _ (features-Init is_const type n value)) h
gate_call _ (is_declare type n) h = no_call (stands_call (Declare type n)) (called _ _ (features-Declare type n) ∙ type_no_call type) h
gate_call _ (is_stretch n) h = no_call (stands_call (Stretch n)) (called _ _ (features-Stretch n)) h
gate_call _ (is_gate_call call) h = record { call = call; is = refl }
gate_call _ (is_assign place value) h = no_call (stands_call (Assign place value)) (called _ _ (features-Assign place value)) h
gate_call _ (is_update place op value) h = no_call (stands_call (Update place op value)) (called _ _ (features-Update place op value)) h
gate_call _ (is_measure operand to) h = no_call (stands_call (Measure operand to)) (called _ _ (features-Measure operand to)) h
gate_call _ (is_reset operand) h = no_call (stands_call (Reset operand)) (called _ _ (features-Reset operand) ∙ operand_no_call operand (operand_case operand)) h
gate_call _ (is_barrier operands) h = no_call (stands_call (Barrier operands)) (called _ _ (features-Barrier operands) ∙ operands_no_call operands) h
gate_call _ (is_delay time operands) h = no_call (stands_call (Delay time operands)) (called _ _ (features-Delay time operands)) h
gate_call _ (is_box time statements) h = no_call (stands_call (Box time statements)) (called _ _ (features-Box time statements)) h
gate_call _ (is_if test body other) h = no_call (stands_call (If test body other)) (called _ _ (features-If test body other)) h
gate_call _ (is_while test body) h = no_call (stands_call (While test body)) (called _ _ (features-While test body)) h
gate_call _ (is_for type n range body) h = no_call (stands_call (For type n range body)) (called _ _ (features-For type n range body)) h
gate_call _ is_break h = no_call (stands_call Break) (called _ _ features-Break) h
gate_call _ is_continue h = no_call (stands_call Continue) (called _ _ features-Continue) h
gate_call _ is_end h = no_call (stands_call End) (called _ _ features-End) h

-- ---- a call in the body of a gate

-- the features of one, with the rule that it is a call
abbrev call_features_of : Stmt → Features
call_features_of s = where_true (is_call (of_stmt s).standing) (nested (of_stmt s))

abbrev CallRead : (d renew left after : ℕ) → (front rest : List Token) → Stmt → Type 0
CallRead d renew left after front rest s = Fits (call_features_of s) d renew left after → Spells (spell_stmt s) front → call_in d renew left (front ++ rest) ≡ Some (s, after, rest)

call_of : (span : Span) (c : Called) (d renew left after : ℕ) (front rest : List Token) → CallRead d renew left after front rest (record { span = span; kind = GateCall c })
unfolding call_in
call_of span c d renew left after [] rest f s = absurd (stmt_some (record { span = span; kind = GateCall c }) s)
call_of span c zero renew left after (t ∷ ts) rest f s = absurd (omega (arith, f.depth))
call_of span c (suc i) renew left after (t ∷ ts) rest f s =
    let stmt : Stmt = record { span = span; kind = GateCall c } in
    let is : of_stmt stmt ≡ record (of_call c) { standing = AsCall } = features-Stmt stmt ∙ features-GateCall c in
    let g = fits_as (ap (λ (x : Features). where_true (is_call x.standing) (nested x)) is) f in
    let fits : Fits (of_call c) i renew left after = record { follows = g.follows; depth = omega (arith, g.depth); spent = g.spent } in
    let u = unplaced span (spell_stmt_kind (GateCall c)) t ts (spells_as (t ∷ ts) (spell-Stmt stmt) s) in
    let r = complete-call_at c (below i) i renew left after (t ∷ ts) rest (complete-below i) fits (spells_as (t ∷ ts) (spell-GateCall c) u.1) in
    rw (call_in, r, u.0) refl

call_read : (s : Stmt) (d renew left after : ℕ) (front rest : List Token) → CallRead d renew left after front rest s
call_read s d renew left after front rest f p =
    let rule : is_call (of_stmt s).standing ≡ true = (fits_where (is_call (of_stmt s).standing) f).0 in
    let c = gate_call s.kind (stmt_case_of s.kind) (ap (λ (x : Features). is_call x.standing) (sym (features-Stmt s)) ∙ rule) in
    subst (λ (k : StmtKind). CallRead d renew left after front rest (record { span = s.span; kind = k })) (sym c.is) (call_of s.span c.call d renew left after front rest) f p

call_part : (d renew : ℕ) → IsCompletePart spell_stmt call_features_of d renew (call_in d renew) (λ s rest. Unit {0})
call_part d renew = record {
  reads = λ x left after front rest f s e. call_read x d renew left after front rest f s;
  ends_brace = λ x front rest s. tt;
  ends_part = λ x y ps front rest f s. tt;
  no_brace = λ x ps front rest s. stmt_no_sign x (codes "}") ps front rest s;
  some = λ x s. stmt_some x s;
}

-- ---- rules that each of a list follows

where_as : (rule : Bool) (f : Features) → rule ≡ true → where_true rule f ≡ f
where_as true f e = refl
where_as false f e = absurd cc

each_as : {A : Type 0} (rule : A → Bool) (f : A → Features) (xs : List A) → list_all rule xs ≡ true → map (λ x. where_true (rule x) (f x)) xs ≡ map f xs
each_as rule f [] e = refl
each_as rule f (x ∷ xs) e =
    let p = and_parts (rule x) (list_all rule xs) e in
    ap (λ (y : Features). y ∷ map (λ z. where_true (rule z) (f z)) xs) (where_as (rule x) (f x) p.0) ∙ ap (λ (ys : List Features). f x ∷ ys) (each_as rule f xs p.1)

calls_fit : (calls : List Stmt) (d renew left after : ℕ) → list_all (λ f. is_call f.standing) (map of_stmt calls) ≡ true → Fits (all_of (map nested (map of_stmt calls))) d renew left after → Fits (all_of (map call_features_of calls)) d renew left after
calls_fit calls d renew left after e f =
    fits_as (ap all_of (sym (each_as (λ s. is_call (of_stmt s).standing) (λ s. nested (of_stmt s)) calls (sym (list_all-map (λ f. is_call f.standing) of_stmt calls) ∙ e) ∙ map_nested calls))) f

complete-calls_at : (calls : List Stmt) (d renew left after : ℕ) (front rest : List Token) → list_all (λ f. is_call f.standing) (map of_stmt calls) ≡ true → Fits (block (map of_stmt calls)) d renew left after → Spells (in_braces (map spell_stmt calls)) front → calls_at d renew left (front ++ rest) ≡ Some (calls, after, rest)
unfolding calls_at
complete-calls_at calls zero renew left after front rest e f s = absurd (omega (arith, f.depth))
complete-calls_at calls (suc i) renew left after front rest e f s =
    let inner : Fits (all_of (map nested (map of_stmt calls))) i renew left after = fits_inside (all_of (map nested (map of_stmt calls))) i renew left after f in
    let one = after_sign_at (codes "{") (joined (map spell_stmt calls) ++ sign (codes "}")) front rest s in
    let read = complete-to_brace spell_stmt call_features_of i renew (call_in i renew) (λ x us. Unit {0}) (call_part i renew) calls left after one.front rest (calls_fit calls i renew left after e inner) one.spells in
    rw (calls_at, one.is, read) refl

-- ---- a gate

names_no_sign : (text : List ℕ) (ns : List Ident) (ps : List Piece) (front rest : List Token) → is_some ns ≡ true → Spells (names ns ++ ps) front → begins_sign text (front ++ rest) ≡ false
names_no_sign text [] ps front rest i s = absurd cc
names_no_sign text (n ∷ ns) ps front rest i s = begins_sign_at text (record { shows = Word n.name; places = n.span ∷ [] }) _ front rest s

four : (os ps qs rs : List Piece) → os ++ ps ++ qs ++ rs ≡ os ++ (ps ++ (qs ++ rs))
four os ps qs rs = simp append_assoc refl

-- the rule of a gate
record GateRule (n : Ident) (params : Option (List Ident)) (qubits : List Ident) (calls : List Stmt) : Type 0 where
  name : is_name n.name ≡ true
  params_named : are_params params ≡ true
  qubits_named : are_names qubits ≡ true
  some : is_some qubits ≡ true
  are_calls : list_all (λ f. is_call f.standing) (map of_stmt calls) ≡ true

gate_rule : (n : Ident) (params : Option (List Ident)) (qubits : List Ident) (calls : List Stmt) → (is_name n.name && are_params params && are_names qubits && is_some qubits && list_all (λ f. is_call f.standing) (map of_stmt calls)) ≡ true → GateRule n params qubits calls
gate_rule n params qubits calls e =
    let a = and_parts (is_name n.name && are_params params && are_names qubits && is_some qubits) (list_all (λ f. is_call f.standing) (map of_stmt calls)) e in
    let b = and_parts (is_name n.name && are_params params && are_names qubits) (is_some qubits) a.0 in
    let c = and_parts (is_name n.name && are_params params) (are_names qubits) b.0 in
    let d = and_parts (is_name n.name) (are_params params) c.0 in
    record { name = d.0; params_named = d.1; qubits_named = c.1; some = b.1; are_calls = a.1 }

gate_read : (n : Ident) (params : Option (List Ident)) (qubits : List Ident) (calls : List Stmt) (d renew left after : ℕ) (front rest : List Token) → GateRule n params qubits calls → Fits (both (brackets_of params) (block (map of_stmt calls))) d renew left after → Spells (name n ++ if_there (λ ps. in_round (names ps)) params ++ names qubits ++ in_braces (map spell_stmt calls)) front → gate_at d renew left (front ++ rest) ≡ Some (Gate n params qubits calls, after, rest)
unfolding gate_at
gate_read n params qubits calls d renew left after front rest r f s =
    let ps : List Piece = if_there (λ xs. in_round (names xs)) params in
    let cs : List Piece = in_braces (map spell_stmt calls) in
    let fs = fits_both (brackets_of params) (block (map of_stmt calls)) d renew left after f in
    let named = name_at_name n (ps ++ (names qubits ++ cs)) front rest r.name (spells_as front (four (name n) ps (names qubits) cs) s) in
    let n2 = next ps (names qubits ++ cs) named.front rest named.spells in
    let n3 = next (names qubits) cs n2.last rest n2.spells_last in
    let r1 : gate_params_at d left (named.front ++ rest) ≡ Some (params, fs.between, n2.last ++ rest) = ap (gate_params_at d left) n2.is ∙ complete-gate_params_at params d renew left fs.between n2.first (n2.last ++ rest) r.params_named fs.first n2.spells_first (names_no_sign (codes "(") qubits cs n2.last rest r.some n2.spells_last) in
    let comma : begins_sign (codes ",") (n3.last ++ rest) ≡ false = begins_sign_at (codes ",") (record { shows = Sign (codes "{"); places = [] }) (joined (map spell_stmt calls) ++ sign (codes "}")) n3.last rest n3.spells_last in
    let r2 : names_at fs.between (n2.last ++ rest) ≡ Some (qubits, fs.between, n3.last ++ rest) = ap (names_at fs.between) n3.is ∙ complete-names_at qubits fs.between n3.first (n3.last ++ rest) r.qubits_named r.some n3.spells_first comma in
    let r3 : calls_at d renew fs.between (n3.last ++ rest) ≡ Some (calls, after, rest) = complete-calls_at calls d renew fs.between after n3.last rest r.are_calls fs.second n3.spells_last in
    rw (gate_at, named.is, r1, r2, r3) refl

pub read-gate : (n : Ident) (params : Option (List Ident)) (qubits : List Ident) (calls : List Stmt) (d renew left after : ℕ) (front rest : List Token) → Fits (of_stmt_kind (Gate n params qubits calls)) d renew left after → Spells (spell_stmt_kind (Gate n params qubits calls)) front → TopRead (Gate n params qubits calls) d renew left after front rest
unfolding top_of
read-gate n params qubits calls d renew left after front rest f s =
    let g = fits_where (is_name n.name && are_params params && are_names qubits && is_some qubits && list_all (λ f. is_call f.standing) (map of_stmt calls)) (fits_top (fits_as (features-Gate n params qubits calls) f)) in
    by_top (codes "gate") (name n ++ if_there (λ ps. in_round (names ps)) params ++ names qubits ++ in_braces (map spell_stmt calls)) (Gate n params qubits calls) d renew left after front rest (spells_as front (spell-Gate n params qubits calls) s) (λ last t. ap (λ (r : Reads StmtKind). Some r) (gate_read n params qubits calls d renew left after last rest (gate_rule n params qubits calls g.0) g.1 t))
