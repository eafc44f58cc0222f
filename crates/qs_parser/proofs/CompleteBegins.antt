-- Which words begin a statement that follows the grammar, and which never do.
use Rattle.std.proofs.Common.{◌≡◌, ℕ, Bool, true, false, ◌&&◌, codes, List, [], ◌∷◌, ◌++◌, map, option_map, Option, refl, sym, ap, subst, ◌∙◌, append_assoc, ◌||◌, inl, inr}
use Rattle.std.specs.Prelude.{◌⊎◌}
use Rattle.std.specs.List.{list_all, list_any}
use Rattle.std.specs.Str.{bytes_eq}
use Rattle.std.proofs.lemmas.Bool.{and_parts, false_from_ne_true}
use Rattle.qs_values.specs.Names.{is_name, is_reserved}
use Rattle.qs_values.specs.declared.span.Span.{Span}
use Rattle.qs_lexer.specs.declared.token.Token.{Token}
use Rattle.qs_tree.specs.declared.expr.Expr.{Expr}
use Rattle.qs_tree.specs.declared.expr.ExprKind.{ExprKind}
use Rattle.qs_tree.specs.declared.expr.ExprKind.TheOpen as layer
use Rattle.qs_tree.specs.declared.expr.TypeExpr.{TypeExpr, TypeExpr-F, out-TypeExpr, roll-TypeExpr, roll-out-TypeExpr}
use Rattle.qs_tree.specs.declared.expr.TypeWord.{TypeWord}
use Rattle.qs_tree.specs.declared.expr.TypeWord.TheVariants.{Bit, Int, Uint, Angle, Bool as BoolWord, Duration}
use Rattle.qs_tree.specs.declared.gate.Call.{Call as Called, Call-F, out-Call, roll-Call, roll-out-Call}
use Rattle.qs_tree.specs.declared.gate.Modifier.{Modifier, out-Modifier, roll-Modifier, roll-out-Modifier}
use Rattle.qs_tree.specs.declared.gate.Modifier.TheVariants.{rolls-Inv, rolls-Pow, rolls-Ctrl, rolls-NegCtrl}
use Rattle.qs_tree.specs.declared.name.Ident.{Ident}
use Rattle.qs_tree.specs.declared.operand.Place.{Place}
use Rattle.qs_tree.specs.declared.operand.Operand.{Operand}
use Rattle.qs_tree.specs.declared.operand.Value.{Value}
use Rattle.qs_tree.specs.declared.pulse.Param.{Param}
use Rattle.qs_tree.specs.declared.pulse.Item.{Item}
use Rattle.qs_tree.specs.declared.statement.Body.{Body}
use Rattle.qs_tree.specs.declared.statement.Range.{Range}
use Rattle.qs_tree.specs.declared.statement.Stmt.{Stmt}
use Rattle.qs_tree.specs.declared.statement.StmtKind.{StmtKind, out-StmtKind, roll-StmtKind, roll-out-StmtKind}
use Rattle.qs_tree.specs.declared.statement.StmtKind.TheVariants.{Init, rolls-Include, rolls-DefcalGrammar, rolls-Qubit, rolls-Input, rolls-Output, rolls-Gate, rolls-Cal, rolls-Defcal, rolls-Init, rolls-Declare, rolls-Stretch, rolls-GateCall, rolls-Assign, rolls-Update, rolls-Measure, rolls-Reset, rolls-Barrier, rolls-Delay, rolls-Box, rolls-If, rolls-While, rolls-For, rolls-Break, rolls-Continue, rolls-End, Include, DefcalGrammar, Qubit, Input, Output, Gate, Cal, Defcal}
use Rattle.qs_tree.specs.Spelling.{Piece, Word, Spells, at_place, if_there, in_round, in_square, joined, name, sign, sign_of_assign, spell, spell_call, spell_modifier, spell_operand, spell_place, spell_stmt, spell_stmt_kind, spell_type, spell_value, with_commas, word, word_of_type}
use Rattle.qs_tree.specs.WellFormed.{Features, of_call, of_place, of_stmt, of_stmt_kind, AtTop, may_nest}
use Rattle.qs_tree.proofs.Spelled.{spell-Assign, spell-Barrier, spell-Box, spell-Break, spell-Cal, spell-Called, spell-Continue, spell-Ctrl, spell-Declare, spell-Defcal, spell-DefcalGrammar, spell-Delay, spell-End, spell-For, spell-Gate, spell-GateCall, spell-If, spell-Include, spell-Init, spell-Input, spell-Inv, spell-Measure, spell-NegCtrl, spell-Output, spell-Pow, spell-Qubit, spell-Reset, spell-Stmt, spell-Stretch, spell-TypeExpr, spell-Update, spell-While}
use Rattle.qs_parser.specs.Language.{left_out}
use Rattle.qs_parser.specs.steps.Tokens.{begins_sign, begins_word}
use Rattle.qs_parser.proofs.Featured.{features-Assign, features-Called, features-GateCall, features-Place, features-Stmt, features-Update, features-Cal, features-Defcal, features-DefcalGrammar, features-Gate, features-Include, features-Input, features-Output, features-Qubit}
use Rattle.qs_parser.proofs.TokenPieces.{begins_sign_at, begins_word_at, same_text}
use Rattle.qs_parser.proofs.CompleteExprCases.{spells_as}
use Rattle.qs_parser.proofs.CompleteStmtParts.{place_starts}
use Rattle.qs_parser.proofs.CompleteStmtNames.{not_reserved}

-- ---- words

-- the words with which no statement begins, and those that begin one that stands at the top alone
abbrev pub never_words : List (List ℕ)
never_words = codes "else" ∷ codes "OPENQASM" ∷ left_out

abbrev pub top_words : List (List ℕ)
top_words = codes "include" ∷ codes "defcalgrammar" ∷ codes "qubit" ∷ codes "input" ∷ codes "output" ∷ codes "gate" ∷ codes "cal" ∷ codes "defcal" ∷ []

-- whether no statement begins with a word
abbrev pub never_first : List ℕ → Bool
never_first text = list_any (bytes_eq text) never_words

-- whether a word begins a statement that stands at the top alone
abbrev pub top_first : List ℕ → Bool
top_first text = list_any (bytes_eq text) top_words

-- whether after a word a type stands
abbrev pub before_type : List ℕ → Bool
before_type text = bytes_eq text (codes "const") || bytes_eq text (codes "input") || bytes_eq text (codes "output")

-- a text that isn't listed is none of those that are
pub unlisted : (listed : List (List ℕ)) (text other : List ℕ) → list_any (bytes_eq text) listed ≡ false → list_any (bytes_eq other) listed ≡ true → bytes_eq text other ≡ false
unlisted listed text other n y =
    false_from_ne_true (bytes_eq text other) (λ e. let f : list_any (bytes_eq text) listed ≡ true = ap (λ (x : List ℕ). list_any (bytes_eq x) listed) (same_text text other e) ∙ y in absurd cc)

-- a name is none of some reserved words
none_of_reserved : (name : List ℕ) (texts : List (List ℕ)) → is_name name ≡ true → list_all is_reserved texts ≡ true → list_any (bytes_eq name) texts ≡ false
none_of_reserved name [] v r = refl
none_of_reserved name (text ∷ texts) v r =
    let p = and_parts (is_reserved text) (list_all is_reserved texts) r in
    rw (not_reserved name text v p.0) (none_of_reserved name texts v p.1)

name_first : (name : List ℕ) → is_name name ≡ true → never_first name ≡ false
name_first name v = none_of_reserved name never_words v refl

name_top : (name : List ℕ) → is_name name ≡ true → top_first name ≡ false
name_top name v = none_of_reserved name top_words v refl

name_before_type : (name : List ℕ) → is_name name ≡ true → before_type name ≡ false
name_before_type name v = rw (not_reserved name (codes "const") v refl, not_reserved name (codes "input") v refl, not_reserved name (codes "output") v refl) refl

type_first : (w : TypeWord) → never_first (word_of_type w) ≡ false
type_first Bit = refl
type_first Int = refl
type_first Uint = refl
type_first Angle = refl
type_first BoolWord = refl
type_first Duration = refl

type_top : (w : TypeWord) → top_first (word_of_type w) ≡ false
type_top Bit = refl
type_top Int = refl
type_top Uint = refl
type_top Angle = refl
type_top BoolWord = refl
type_top Duration = refl

type_before_type : (w : TypeWord) → before_type (word_of_type w) ≡ false
type_before_type Bit = refl
type_before_type Int = refl
type_before_type Uint = refl
type_before_type Angle = refl
type_before_type BoolWord = refl
type_before_type Duration = refl

-- ---- words at the front

-- pieces begin with a type
pub record BeginsType (ps : List Piece) : Type 0 where
  pub type : TypeExpr
  pub more : List Piece
  pub is : ps ≡ spell_type type ++ more

-- Pieces begin with a word. Where a rule holds, a statement may begin with it, and if it may stand in another one then it does so as such; it stands before a type, or is none of the words that do.
pub record BeginsWord (rule nests : Bool) (ps : List Piece) : Type 0 where
  pub text : List ℕ
  pub places : List Span
  pub more : List Piece
  pub is : ps ≡ record { shows = Word text; places = places } ∷ more
  pub first : rule ≡ true → never_first text ≡ false
  pub top : rule ≡ true → nests ≡ true → top_first text ≡ false
  pub second : rule ≡ true → (before_type text ≡ false) ⊎ BeginsType more

type_more : {A : Type 0} (ps qs : List Piece) → A ⊎ BeginsType ps → A ⊎ BeginsType (ps ++ qs)
type_more ps qs (inl a) = inl a
type_more ps qs (inr t) = inr (record { type = t.type; more = t.more ++ qs; is = ap (λ (x : List Piece). x ++ qs) t.is ∙ append_assoc (spell_type t.type) t.more qs })

-- the same of pieces that go on
begins_more : {rule nests : Bool} {ps : List Piece} (qs : List Piece) → BeginsWord rule nests ps → BeginsWord rule nests (ps ++ qs)
begins_more qs b = record { text = b.text; places = b.places; more = b.more ++ qs; is = ap (λ (x : List Piece). x ++ qs) b.is; first = b.first; top = b.top; second = λ r. type_more b.more qs (b.second r) }

begins_as : {rule nests : Bool} {ps qs : List Piece} → qs ≡ ps → BeginsWord rule nests ps → BeginsWord rule nests qs
begins_as e b = record { text = b.text; places = b.places; more = b.more; is = e ∙ b.is; first = b.first; top = b.top; second = b.second }

-- the same under a stronger rule
begins_where : {weak strong nests : Bool} {ps : List Piece} → (strong ≡ true → weak ≡ true) → BeginsWord weak nests ps → BeginsWord strong nests ps
begins_where f b = record { text = b.text; places = b.places; more = b.more; is = b.is; first = λ e. b.first (f e); top = λ e n. b.top (f e) n; second = λ e. b.second (f e) }

begins_text : {rule nests : Bool} (text : List ℕ) (ps : List Piece) → never_first text ≡ false → before_type text ≡ false → (nests ≡ true → top_first text ≡ false) → BeginsWord rule nests (word text ++ ps)
begins_text text ps e b t = record { text = text; places = []; more = ps; is = refl; first = λ r. e; top = λ r n. t n; second = λ r. inl b }

-- a word before a type
begins_typed : {rule nests : Bool} (text : List ℕ) (type : TypeExpr) (ps qs : List Piece) → never_first text ≡ false → (nests ≡ true → top_first text ≡ false) → ps ≡ spell_type type ++ qs → BeginsWord rule nests (word text ++ ps)
begins_typed text type ps qs e t is = record { text = text; places = []; more = ps; is = refl; first = λ r. e; top = λ r n. t n; second = λ r. inr (record { type = type; more = qs; is = is }) }

begins_name : {nests : Bool} (n : Ident) (ps : List Piece) → BeginsWord (is_name n.name) nests (name n ++ ps)
begins_name n ps = record { text = n.name; places = n.span ∷ []; more = ps; is = refl; first = λ v. name_first n.name v; top = λ v e. name_top n.name v; second = λ v. inl (name_before_type n.name v) }

pub type_begins : {rule nests : Bool} (type : TypeExpr) → BeginsWord rule nests (spell_type type)
type_begins {rule = rule} {nests = nests} type = subst (λ (x : TypeExpr). BeginsWord rule nests (spell_type x)) (roll-out-TypeExpr type) (from (out-TypeExpr type))
  where
    from : (l : TypeExpr-F ExprKind Modifier Operand Value Item Param Body Range StmtKind Expr TypeExpr Called Place Stmt) → BeginsWord rule nests (spell_type (roll-TypeExpr l))
    from l = record { text = word_of_type l.word; places = l.span ∷ []; more = if_there in_square (option_map spell l.width); is = spell-TypeExpr l.span l.word l.width; first = λ r. type_first l.word; top = λ r n. type_top l.word; second = λ r. inl (type_before_type l.word) }

place_begins : {nests : Bool} (p : Place) → BeginsWord (of_place p).follows nests (spell_place p)
place_begins p =
    let b = place_starts p in
    let f : (of_place p).follows ≡ is_name b.n.name && _ = ap (λ (x : Features). x.follows) (b.features ∙ features-Place b.n b.index) in
    begins_as b.is (begins_where (λ e. (and_parts (is_name b.n.name) _ (sym f ∙ e)).0) (begins_name b.n b.more))

-- ---- calls

modifier_layer : {rule nests : Bool} (l : layer.Modifier-F ExprKind Modifier Operand Value Item Param Body Range StmtKind Expr TypeExpr Called Place Stmt) → BeginsWord rule nests (spell_modifier (roll-Modifier l))
modifier_layer {rule = rule} {nests = nests} layer.Inv = subst (λ (x : Modifier). BeginsWord rule nests (spell_modifier x)) (sym rolls-Inv) (begins_as spell-Inv (begins_text (codes "inv") _ refl refl (λ e. refl)))
modifier_layer {rule = rule} {nests = nests} (layer.Pow e) = subst (λ (x : Modifier). BeginsWord rule nests (spell_modifier x)) (sym (rolls-Pow e)) (begins_as (spell-Pow e) (begins_text (codes "pow") _ refl refl (λ e. refl)))
modifier_layer {rule = rule} {nests = nests} (layer.Ctrl count) = subst (λ (x : Modifier). BeginsWord rule nests (spell_modifier x)) (sym (rolls-Ctrl count)) (begins_as (spell-Ctrl count) (begins_text (codes "ctrl") _ refl refl (λ e. refl)))
modifier_layer {rule = rule} {nests = nests} (layer.NegCtrl count) = subst (λ (x : Modifier). BeginsWord rule nests (spell_modifier x)) (sym (rolls-NegCtrl count)) (begins_as (spell-NegCtrl count) (begins_text (codes "negctrl") _ refl refl (λ e. refl)))

modifier_begins : {rule nests : Bool} (m : Modifier) → BeginsWord rule nests (spell_modifier m)
modifier_begins {rule = rule} {nests = nests} m = subst (λ (x : Modifier). BeginsWord rule nests (spell_modifier x)) (roll-out-Modifier m) (modifier_layer (out-Modifier m))

called_begins : {nests : Bool} (ms : List Modifier) (n : Ident) (ps : List Piece) → BeginsWord (is_name n.name) nests (joined (map spell_modifier ms) ++ (name n ++ ps))
called_begins [] n ps = begins_name n ps
called_begins (m ∷ ms) n ps = begins_more (name n ++ ps) (begins_more (joined (map spell_modifier ms)) (modifier_begins m))

call_layer : {nests : Bool} (ms : List Modifier) (n : Ident) (args : Option (List Expr)) (os : List Operand) → BeginsWord (of_call (roll-Call (record { modifiers = ms; name = n; args = args; operands = os }))).follows nests (spell_call (roll-Call (record { modifiers = ms; name = n; args = args; operands = os })))
call_layer ms n args os =
    let params : List Piece = if_there (λ es. in_round (with_commas es)) (option_map (map spell) args) in
    let acted : List Piece = with_commas (map spell_operand os) in
    let f = ap (λ (x : Features). x.follows) (features-Called ms n args os) in
    begins_as (spell-Called ms n args os ∙ ap (λ (x : List Piece). x ++ acted) (append_assoc (joined (map spell_modifier ms)) (name n) params)) (begins_more acted (begins_where (λ e. (and_parts (is_name n.name) _ (sym f ∙ e)).0) (called_begins ms n params)))

call_begins : {nests : Bool} (c : Called) → BeginsWord (of_call c).follows nests (spell_call c)
call_begins {nests = nests} c = subst (λ (x : Called). BeginsWord (of_call x).follows nests (spell_call x)) (roll-out-Call c) (from (out-Call c))
  where
    from : (l : Call-F ExprKind Modifier Operand Value Item Param Body Range StmtKind Expr TypeExpr Called Place Stmt) → BeginsWord (of_call (roll-Call l)).follows nests (spell_call (roll-Call l))
    from l = call_layer l.modifiers l.name l.args l.operands

-- ---- what a statement is

five : (ps qs rs us vs : List Piece) → ps ++ qs ++ rs ++ us ++ vs ≡ ps ++ (qs ++ (rs ++ (us ++ vs)))
five ps qs rs us vs = simp append_assoc refl

init_begins : {rule nests : Bool} (is_const : Bool) (type : TypeExpr) (n : Ident) (v : Value) → BeginsWord rule nests (spell_stmt_kind (Init is_const type n v))
init_begins true type n v = begins_as (spell-Init true type n v) (begins_typed (codes "const") type _ _ refl (λ e. refl) (five (spell_type type) (name n) (sign (codes "=")) (spell_value v) (sign (codes ";"))))
init_begins false type n v = begins_as (spell-Init false type n v) (begins_more (sign (codes ";")) (begins_more (spell_value v) (begins_more (sign (codes "=")) (begins_more (name n) (type_begins type)))))

-- a statement begins with a word
abbrev Begins : StmtKind → Type 0
Begins k = BeginsWord (of_stmt_kind k).follows (may_nest (of_stmt_kind k).standing) (spell_stmt_kind k)

none_at_top : may_nest AtTop ≡ true → ⊥
none_at_top e = absurd cc

-- a statement that stands at the top alone isn't one that may stand in another one
at_top_no : (k : StmtKind) {word : Bool} → (of_stmt_kind k).standing ≡ AtTop → may_nest (of_stmt_kind k).standing ≡ true → word ≡ false
at_top_no k e h = absurd (none_at_top (sym (ap may_nest e) ∙ h))

kind_layer : (l : layer.StmtKind-F ExprKind Modifier Operand Value Item Param Body Range StmtKind Expr TypeExpr Called Place Stmt) → Begins (roll-StmtKind l)
kind_layer (layer.Include text) = subst Begins (sym (rolls-Include text)) (begins_as (spell-Include text) (begins_text (codes "include") _ refl refl (at_top_no (Include text) (ap (λ (x : Features). x.standing) (features-Include text)))))
kind_layer (layer.DefcalGrammar text) = subst Begins (sym (rolls-DefcalGrammar text)) (begins_as (spell-DefcalGrammar text) (begins_text (codes "defcalgrammar") _ refl refl (at_top_no (DefcalGrammar text) (ap (λ (x : Features). x.standing) (features-DefcalGrammar text)))))
kind_layer (layer.Qubit size n) = subst Begins (sym (rolls-Qubit size n)) (begins_as (spell-Qubit size n) (begins_text (codes "qubit") _ refl refl (at_top_no (Qubit size n) (ap (λ (x : Features). x.standing) (features-Qubit size n)))))
kind_layer (layer.Input type n) = subst Begins (sym (rolls-Input type n)) (begins_as (spell-Input type n) (begins_typed (codes "input") type _ _ refl (at_top_no (Input type n) (ap (λ (x : Features). x.standing) (features-Input type n))) (append_assoc (spell_type type) (name n) (sign (codes ";")))))
kind_layer (layer.Output type n) = subst Begins (sym (rolls-Output type n)) (begins_as (spell-Output type n) (begins_typed (codes "output") type _ _ refl (at_top_no (Output type n) (ap (λ (x : Features). x.standing) (features-Output type n))) (append_assoc (spell_type type) (name n) (sign (codes ";")))))
kind_layer (layer.Gate n params qubits calls) = subst Begins (sym (rolls-Gate n params qubits calls)) (begins_as (spell-Gate n params qubits calls) (begins_text (codes "gate") _ refl refl (at_top_no (Gate n params qubits calls) (ap (λ (x : Features). x.standing) (features-Gate n params qubits calls)))))
kind_layer (layer.Cal items) = subst Begins (sym (rolls-Cal items)) (begins_as (spell-Cal items) (begins_text (codes "cal") _ refl refl (at_top_no (Cal items) (ap (λ (x : Features). x.standing) (features-Cal items)))))
kind_layer (layer.Defcal n params operands gives items) = subst Begins (sym (rolls-Defcal n params operands gives items)) (begins_as (spell-Defcal n params operands gives items) (begins_text (codes "defcal") _ refl refl (at_top_no (Defcal n params operands gives items) (ap (λ (x : Features). x.standing) (features-Defcal n params operands gives items)))))
kind_layer (layer.Init is_const type n v) = subst Begins (sym (rolls-Init is_const type n v)) (init_begins is_const type n v)
kind_layer (layer.Declare type n) = subst Begins (sym (rolls-Declare type n)) (begins_as (spell-Declare type n) (begins_more (sign (codes ";")) (begins_more (name n) (type_begins type))))
kind_layer (layer.Stretch n) = subst Begins (sym (rolls-Stretch n)) (begins_as (spell-Stretch n) (begins_text (codes "stretch") _ refl refl (λ e. refl)))
kind_layer (layer.GateCall c) = subst Begins (sym (rolls-GateCall c)) (begins_as (spell-GateCall c) (begins_more (sign (codes ";")) (begins_where (λ e. sym (ap (λ (x : Features). x.follows) (features-GateCall c)) ∙ e) (call_begins c))))
kind_layer (layer.Assign p v) =
    let f = ap (λ (x : Features). x.follows) (features-Assign p v) in
    subst Begins (sym (rolls-Assign p v)) (begins_as (spell-Assign p v) (begins_more (sign (codes ";")) (begins_more (spell_value v) (begins_more (sign (codes "=")) (begins_where (λ e. (and_parts (of_place p).follows _ (sym f ∙ e)).0) (place_begins p))))))
kind_layer (layer.Update p op x) =
    let f = ap (λ (y : Features). y.follows) (features-Update p op x) in
    subst Begins (sym (rolls-Update p op x)) (begins_as (spell-Update p op x) (begins_more (sign (codes ";")) (begins_more (spell x) (begins_more (sign (sign_of_assign op)) (begins_where (λ e. (and_parts (of_place p).follows _ (sym f ∙ e)).0) (place_begins p))))))
kind_layer (layer.Measure o to) = subst Begins (sym (rolls-Measure o to)) (begins_as (spell-Measure o to) (begins_text (codes "measure") _ refl refl (λ e. refl)))
kind_layer (layer.Reset o) = subst Begins (sym (rolls-Reset o)) (begins_as (spell-Reset o) (begins_text (codes "reset") _ refl refl (λ e. refl)))
kind_layer (layer.Barrier os) = subst Begins (sym (rolls-Barrier os)) (begins_as (spell-Barrier os) (begins_text (codes "barrier") _ refl refl (λ e. refl)))
kind_layer (layer.Delay time os) = subst Begins (sym (rolls-Delay time os)) (begins_as (spell-Delay time os) (begins_text (codes "delay") _ refl refl (λ e. refl)))
kind_layer (layer.Box time ss) = subst Begins (sym (rolls-Box time ss)) (begins_as (spell-Box time ss) (begins_text (codes "box") _ refl refl (λ e. refl)))
kind_layer (layer.If test body other) = subst Begins (sym (rolls-If test body other)) (begins_as (spell-If test body other) (begins_text (codes "if") _ refl refl (λ e. refl)))
kind_layer (layer.While test body) = subst Begins (sym (rolls-While test body)) (begins_as (spell-While test body) (begins_text (codes "while") _ refl refl (λ e. refl)))
kind_layer (layer.For type n range body) = subst Begins (sym (rolls-For type n range body)) (begins_as (spell-For type n range body) (begins_text (codes "for") _ refl refl (λ e. refl)))
kind_layer layer.Break = subst Begins (sym rolls-Break) (begins_as spell-Break (begins_text (codes "break") _ refl refl (λ e. refl)))
kind_layer layer.Continue = subst Begins (sym rolls-Continue) (begins_as spell-Continue (begins_text (codes "continue") _ refl refl (λ e. refl)))
kind_layer layer.End = subst Begins (sym rolls-End) (begins_as spell-End (begins_text (codes "end") _ refl refl (λ e. refl)))

-- ---- a statement

pub stmt_begins : (s : Stmt) → BeginsWord (of_stmt s).follows (may_nest (of_stmt s).standing) (spell_stmt s)
stmt_begins s =
    let b : Begins s.kind = subst Begins (roll-out-StmtKind s.kind) (kind_layer (out-StmtKind s.kind)) in
    let placed : BeginsWord (of_stmt_kind s.kind).follows (may_nest (of_stmt_kind s.kind).standing) (spell_stmt s) = record { text = b.text; places = s.span ∷ b.places; more = b.more; is = spell-Stmt s ∙ ap (at_place s.span) b.is; first = b.first; top = b.top; second = b.second } in
    subst (λ (x : Features). BeginsWord x.follows (may_nest x.standing) (spell_stmt s)) (sym (features-Stmt s)) placed

-- no statement begins with a sign
pub stmt_no_sign : (s : Stmt) (text : List ℕ) (ps : List Piece) (front rest : List Token) → Spells (spell_stmt s ++ ps) front → begins_sign text (front ++ rest) ≡ false
stmt_no_sign s text ps front rest h =
    let b = stmt_begins s in
    begins_sign_at text (record { shows = Word b.text; places = b.places }) (b.more ++ ps) front rest (spells_as front (ap (λ (x : List Piece). x ++ ps) b.is) h)

pub no_else : (text : List ℕ) → never_first text ≡ false → bytes_eq text (codes "else") ≡ false
no_else text n = unlisted never_words text (codes "else") n refl

-- nor with `else`
pub stmt_no_else : (s : Stmt) (ps : List Piece) (front rest : List Token) → (of_stmt s).follows ≡ true → Spells (spell_stmt s ++ ps) front → begins_word (codes "else") (front ++ rest) ≡ false
stmt_no_else s ps front rest f h =
    let b = stmt_begins s in
    begins_word_at (codes "else") (record { shows = Word b.text; places = b.places }) (b.more ++ ps) front rest (spells_as front (ap (λ (x : List Piece). x ++ ps) b.is) h) ∙ no_else b.text (b.first f)

-- the same where nothing else is spelled
pub stmt_no_sign_alone : (s : Stmt) (text : List ℕ) (front rest : List Token) → Spells (spell_stmt s) front → begins_sign text (front ++ rest) ≡ false
stmt_no_sign_alone s text front rest h =
    let b = stmt_begins s in
    begins_sign_at text (record { shows = Word b.text; places = b.places }) b.more front rest (spells_as front b.is h)

-- a statement is some token
pub stmt_some : (s : Stmt) → Spells (spell_stmt s) [] → ⊥
stmt_some s h = spells_as [] (stmt_begins s).is h
