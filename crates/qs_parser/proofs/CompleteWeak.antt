-- Before an `else`, a statement that lacks one is read with no fewer tokens than it has.
use Rattle.std.proofs.Common.{◌≡◌, ℕ, ◌≤◌, Bool, true, false, codes, List, [], ◌∷◌, ◌++◌, length, map, option_map, Option, Some, None, refl, sym, ap, subst, ◌∙◌, length-append, arith}
use Rattle.qs_lexer.specs.declared.token.Token.{Token}
use Rattle.qs_lexer.specs.declared.token.TokenKind.TheVariants as kind
use Rattle.qs_tree.specs.declared.expr.Expr.{Expr}
use Rattle.qs_tree.specs.declared.expr.ExprKind.{ExprKind}
use Rattle.qs_tree.specs.declared.expr.ExprKind.TheOpen as layer
use Rattle.qs_tree.specs.declared.expr.TypeExpr.{TypeExpr, TypeExpr-F, out-TypeExpr, roll-TypeExpr, roll-out-TypeExpr}
use Rattle.qs_tree.specs.declared.gate.Call.{Call as Called, Call-F, out-Call, roll-Call, roll-out-Call}
use Rattle.qs_tree.specs.declared.gate.Modifier.{Modifier}
use Rattle.qs_tree.specs.declared.name.Ident.{Ident}
use Rattle.qs_tree.specs.declared.operand.Place.{Place}
use Rattle.qs_tree.specs.declared.operand.Operand.{Operand}
use Rattle.qs_tree.specs.declared.operand.Value.{Value}
use Rattle.qs_tree.specs.declared.pulse.Param.{Param}
use Rattle.qs_tree.specs.declared.pulse.Item.{Item}
use Rattle.qs_tree.specs.declared.statement.Body.{Body}
use Rattle.qs_tree.specs.declared.statement.Body.TheVariants.{One, Braces}
use Rattle.qs_tree.specs.declared.statement.Range.{Range}
use Rattle.qs_tree.specs.declared.statement.Stmt.{Stmt}
use Rattle.qs_tree.specs.declared.statement.StmtKind.{StmtKind, out-StmtKind, roll-StmtKind, roll-out-StmtKind}
use Rattle.qs_tree.specs.declared.statement.StmtKind.TheVariants.{If, While, For, rolls-Include, rolls-DefcalGrammar, rolls-Qubit, rolls-Input, rolls-Output, rolls-Gate, rolls-Cal, rolls-Defcal, rolls-Init, rolls-Declare, rolls-Stretch, rolls-GateCall, rolls-Assign, rolls-Update, rolls-Measure, rolls-Reset, rolls-Barrier, rolls-Delay, rolls-Box, rolls-If, rolls-While, rolls-For, rolls-Break, rolls-Continue, rolls-End}
use Rattle.qs_tree.specs.Spelling.{Piece, Spells, if_there, in_round, name, spell, spell_body, spell_range, spell_stmt, spell_stmt_kind, spell_type, word}
use Rattle.qs_tree.specs.WellFormed.{Features, all, if_in_brackets, nested as nested_of, of_body, of_call, of_expr, of_operand, of_place, of_stmt, of_stmt_kind, of_type}
use Rattle.qs_tree.proofs.Spelled.{spell-For, spell-If, spell-One, spell-Stmt, spell-While}
use Rattle.qs_parser.specs.steps.Tokens.{Readers, Reads, after_word, begins_word, has_word}
use Rattle.qs_parser.specs.steps.Statements.{body_at, else_at, for_at, if_at, if_else, nested_at, stmt_at, stmt_of, while_at}
use Rattle.qs_parser.proofs.Featured.{features-Barrier, features-Box, features-Braces, features-Break, features-Cal, features-Called, features-Continue, features-Declare, features-Defcal, features-DefcalGrammar, features-Delay, features-End, features-Gate, features-GateCall, features-Include, features-Init, features-Input, features-Measure, features-Named, features-Output, features-PhysicalQubit, features-Place, features-Qubit, features-Reset, features-Stmt, features-Stretch, features-TypeExpr, features-Update, features-Assign}
use Rattle.qs_parser.proofs.TokenPieces.{Took, after_word_at, took_word}
use Rattle.qs_parser.proofs.SoundParts.{Holds, holds_at}
use Rattle.qs_parser.proofs.SoundReaders.{IsSoundBelow}
use Rattle.qs_parser.proofs.SoundNested.{sound-body_at}
use Rattle.qs_parser.proofs.Complete.{Fits, IsCompleteBelow, ReadsUpTo}
use Rattle.qs_parser.proofs.CompleteExprParts.{fits_as}
use Rattle.qs_parser.proofs.CompleteExprCases.{spells_as, unplaced}
use Rattle.qs_parser.proofs.CompleteStmtParts.{OperandCase, is_named, is_physical, operand_case, place_starts}
use Rattle.qs_parser.proofs.CompleteBegins.{stmt_some}
use Rattle.qs_parser.proofs.CompleteNested.{BodyCase, HeadRead, body_case, body_of_one, complete-body_at, for_head, for_lacks, is_braces, is_one, nested_by, nested_in, one_fits, one_lacks, while_head, while_lacks}
use Rattle.qs_parser.proofs.CompleteIf.{IfRead, both_ways, if_head, if_lacks_some, not_true}

-- ---- what is read up to some tokens

-- a reading by what it is
up_to_as : {A : Type 0} {read other : Reads A} {rest : List Token} → read ≡ other → ReadsUpTo other rest → ReadsUpTo read rest
up_to_as e r = record { what = r.what; after = r.after; remains = r.remains; is = e ∙ r.is; within = r.within }

-- what was taken from tokens leaves no more of them
took_within : {ps : List Piece} {ts rest : List Token} → Took ps ts rest → length rest ≤ length ts
took_within {ts = ts} {rest = rest} t = omega (arith, ap length t.is, length-append t.front rest)

-- ---- statements in other ones

pub weak-nested_at : (s : Stmt) (below : Option Readers) (d renew left after : ℕ) (front rest : List Token) → IsCompleteBelow d below → Fits (nested_of (of_stmt s)) d renew left after → Spells (spell_stmt s) front → (of_stmt s).lacks_else ≡ true → begins_word (codes "else") rest ≡ true → ReadsUpTo (nested_at below renew left (front ++ rest)) rest
weak-nested_at s below d renew left after front rest h f t l b =
    let n = nested_in (of_stmt s) d below renew left after h f in
    up_to_as (nested_by n.readers below n.is renew left (front ++ rest)) (n.complete.stmt_weak s renew left after front rest n.fits n.nests t l b)

-- a block lacks no `else`
braces_lack : (ss : List Stmt) → (of_body (Braces ss)).lacks_else ≡ false
braces_lack ss = ap (λ (f : Features). f.lacks_else) (features-Braces ss)

weak_body : (b : Body) → BodyCase b → (below : Option Readers) (d renew left after : ℕ) (front rest : List Token) → IsCompleteBelow d below → Fits (of_body b) d renew left after → Spells (spell_body b) front → (of_body b).lacks_else ≡ true → begins_word (codes "else") rest ≡ true → ReadsUpTo (body_at below renew left (front ++ rest)) rest
weak_body _ (is_one s) below d renew left after front rest h f t l w =
    let r = weak-nested_at s below d renew left after front rest h (one_fits s f) (spells_as front (spell-One s) t) (sym (one_lacks s) ∙ l) w in
    record { what = One r.what; after = r.after; remains = r.remains; is = body_of_one s below renew left front rest t ∙ rw (r.is) refl; within = r.within }
weak_body _ (is_braces ss) below d renew left after front rest h f t l w = absurd (both_ways (of_body (Braces ss)).lacks_else l (braces_lack ss))

weak-body_at : (b : Body) (below : Option Readers) (d renew left after : ℕ) (front rest : List Token) → IsCompleteBelow d below → Fits (of_body b) d renew left after → Spells (spell_body b) front → (of_body b).lacks_else ≡ true → begins_word (codes "else") rest ≡ true → ReadsUpTo (body_at below renew left (front ++ rest)) rest
weak-body_at b below d renew left after front rest h f t l w = weak_body b (body_case b) below d renew left after front rest h f t l w

-- ---- an `else` after a body

-- whatever an `if` has as its body, something is read where an `else` may stand
else_more : (test : Expr) (body : Body) (left : ℕ) (ts : List Token) (read : Reads Body) → Holds read (λ y. length y.2 ≤ length ts) → ReadsUpTo (if_else test body left ts read) ts
else_more test body left ts None h = record { what = If test body None; after = left; remains = ts; is = refl; within = omega arith }
else_more test body left ts (Some other) h = record { what = If test body (Some other.0); after = other.1; remains = other.2; is = refl; within = h.is }

body_within : (below : Option Readers) (e renew left : ℕ) (ts : List Token) → IsSoundBelow e below → (more : List Token) → length ts ≤ length more → Holds (body_at below renew left ts) (λ y. length y.2 ≤ length more)
body_within below e renew left ts h more w = from (body_at below renew left ts) (λ y z. took_within (holds_at (body_at below renew left ts) y (sound-body_at below e renew h left ts) z).took)
  where
    from : (read : Reads Body) → ((y : Body × ℕ × List Token) → read ≡ Some y → length y.2 ≤ length ts) → Holds read (λ y. length y.2 ≤ length more)
    from None g = record { is = tt }
    from (Some y) g = record { is = omega (arith, g y refl, w) }

else_up_to : (below : Option Readers) (e : ℕ) → IsSoundBelow e below → (test : Expr) (body : Body) (renew left : ℕ) (ts : List Token) → ReadsUpTo (else_at below test body renew left ts) ts
unfolding else_at
else_up_to below e h test body renew left ts = from (after_word (codes "else") ts) refl (of_body body).lacks_else refl
  where
    from : (read : Option (List Token)) → after_word (codes "else") ts ≡ read → (lacks : Bool) → (of_body body).lacks_else ≡ lacks → ReadsUpTo (else_at below test body renew left ts) ts
    from None p lacks q = record { what = If test body None; after = left; remains = ts; is = rw (else_at, p) refl; within = omega arith }
    from (Some rest) p true q = record { what = If test body None; after = left; remains = ts; is = rw (else_at, p, q) refl; within = omega arith }
    from (Some rest) p false q =
        let w : length rest ≤ length ts = took_within (took_word (codes "else") ts rest p) in
        up_to_as (rw (else_at, p, q) refl) (else_more test body left ts (body_at below renew left rest) (body_within below e renew left rest h ts w))

-- ---- statements with a body

-- a statement that is read by its first word
pub record WeakRead (below : Option Readers) (renew left : ℕ) (front rest : List Token) : Type 0 where
  pub t : Token
  pub ts : List Token
  pub is : front ≡ t ∷ ts
  pub is_word : t.kind ≡ kind.Word
  pub read : ReadsUpTo (stmt_of below renew left t.text (ts ++ rest) (t ∷ (ts ++ rest))) rest

weak_by_word : (text : List ℕ) (ps : List Piece) (below : Option Readers) (renew left : ℕ) (front rest : List Token) → Spells (word text ++ ps) front → ((last every : List Token) → Spells ps last → ReadsUpTo (stmt_of below renew left text (last ++ rest) every) rest) → WeakRead below renew left front rest
weak_by_word text ps below renew left [] rest s g = absurd s
weak_by_word text ps below renew left (t ∷ ts) rest s g = record {
  t = t;
  ts = ts;
  is = refl;
  is_word = s.0.0.0;
  read = up_to_as (ap (λ (x : List ℕ). stmt_of below renew left x (ts ++ rest) (t ∷ (ts ++ rest))) s.0.0.1) (g ts (t ∷ (ts ++ rest)) s.1);
}

head_up_to : (make : Body → StmtKind) (b : Body) (below : Option Readers) (d renew after : ℕ) (rest : List Token) (read : Reads StmtKind) → IsCompleteBelow d below → (of_body b).lacks_else ≡ true → begins_word (codes "else") rest ≡ true → HeadRead make b below d renew after rest read → ReadsUpTo read rest
head_up_to make b below d renew after rest read h l w r =
    let y = weak-body_at b below d renew r.between after r.mid rest h r.fits r.spells l w in
    record { what = make y.what; after = y.after; remains = y.remains; is = r.gives (y.what, y.after, y.remains) y.is; within = y.within }

weak-while : (test : Expr) (b : Body) (below : Option Readers) (d renew left after : ℕ) (front rest : List Token) → IsCompleteBelow d below → Fits (of_stmt_kind (While test b)) d renew left after → Spells (spell_stmt_kind (While test b)) front → (of_stmt_kind (While test b)).lacks_else ≡ true → begins_word (codes "else") rest ≡ true → WeakRead below renew left front rest
unfolding stmt_of
weak-while test b below d renew left after front rest h f t l w =
    weak_by_word (codes "while") (in_round (spell test) ++ spell_body b) below renew left front rest (spells_as front (spell-While test b) t) (λ last every u. head_up_to (λ x. While test x) b below d renew after rest (while_at below renew left (last ++ rest)) h (sym (while_lacks test b) ∙ l) w (while_head test b below d renew left after last rest h f u))

weak-for : (type : TypeExpr) (n : Ident) (r : Range) (b : Body) (below : Option Readers) (d renew left after : ℕ) (front rest : List Token) → IsCompleteBelow d below → Fits (of_stmt_kind (For type n r b)) d renew left after → Spells (spell_stmt_kind (For type n r b)) front → (of_stmt_kind (For type n r b)).lacks_else ≡ true → begins_word (codes "else") rest ≡ true → WeakRead below renew left front rest
unfolding stmt_of
weak-for type n r b below d renew left after front rest h f t l w =
    weak_by_word (codes "for") (spell_type type ++ name n ++ word (codes "in") ++ spell_range r ++ spell_body b) below renew left front rest (spells_as front (spell-For type n r b) t) (λ last every u. head_up_to (λ x. For type n r x) b below d renew after rest (for_at below renew left (last ++ rest)) h (sym (for_lacks type n r b) ∙ l) w (for_head type n r b below d renew left after last rest h f u))

-- the body of an `if`, and what may stand after it
then_else : (test : Expr) (below : Option Readers) (e renew : ℕ) (rest : List Token) (read : Reads StmtKind) → IsSoundBelow e below → (y : Body × ℕ × List Token) → length y.2 ≤ length rest → read ≡ else_at below test y.0 renew y.1 y.2 → ReadsUpTo read rest
then_else test below e renew rest read h y w p =
    let r = else_up_to below e h test y.0 renew y.1 y.2 in
    record { what = r.what; after = r.after; remains = r.remains; is = p ∙ r.is; within = omega (arith, r.within, w) }

if_up_to : (test : Expr) (b : Body) (other : Option Body) (below : Option Readers) (d e renew after : ℕ) (rest : List Token) (read : Reads StmtKind) → IsCompleteBelow d below → IsSoundBelow e below → (of_stmt_kind (If test b other)).lacks_else ≡ true → begins_word (codes "else") rest ≡ true → IfRead test b other below d renew after rest read → ReadsUpTo read rest
unfolding else_at
if_up_to test b None below d e renew after rest read h i l w r = from r.last r.spells_other r.gives (of_body b).lacks_else refl
  where
    from : (last : List Token) → Spells [] last → ((y : Body × ℕ × List Token) → body_at below renew r.between (r.mid ++ (last ++ rest)) ≡ Some y → read ≡ else_at below test y.0 renew y.1 y.2) → (lacks : Bool) → (of_body b).lacks_else ≡ lacks → ReadsUpTo read rest
    from [] s g true q =
        let y = weak-body_at b below d renew r.between r.later r.mid rest h r.fits r.spells q w in
        then_else test below e renew rest read i (y.what, y.after, y.remains) y.within (g (y.what, y.after, y.remains) y.is)
    from [] s g false q =
        let y = complete-body_at b below d renew r.between r.later r.mid rest h r.fits r.spells (λ z. absurd (both_ways (of_body b).lacks_else z q)) in
        then_else test below e renew rest read i (b, r.later, rest) (omega arith) (g (b, r.later, rest) y)
    from (t ∷ ts) s g lacks q = absurd s
if_up_to test b (Some other) below d e renew after rest read h i l w r =
    let ends : (of_body b).lacks_else ≡ false = not_true (of_body b).lacks_else r.nearest in
    let one = after_word_at (codes "else") (spell_body other) r.last rest r.spells_other in
    let r1 = complete-body_at b below d renew r.between r.later r.mid (r.last ++ rest) h r.fits r.spells (λ z. absurd (both_ways (of_body b).lacks_else z ends)) in
    let y = weak-body_at other below d renew r.later after one.front rest h r.fits_other one.spells (sym (if_lacks_some test b other) ∙ l) w in
    record { what = If test b (Some y.what); after = y.after; remains = y.remains; is = r.gives (b, r.later, r.last ++ rest) r1 ∙ rw (else_at, one.is, ends, y.is) refl; within = y.within }

weak-if : (test : Expr) (b : Body) (other : Option Body) (below : Option Readers) (d e renew left after : ℕ) (front rest : List Token) → IsCompleteBelow d below → IsSoundBelow e below → Fits (of_stmt_kind (If test b other)) d renew left after → Spells (spell_stmt_kind (If test b other)) front → (of_stmt_kind (If test b other)).lacks_else ≡ true → begins_word (codes "else") rest ≡ true → WeakRead below renew left front rest
unfolding stmt_of
weak-if test b other below d e renew left after front rest h i f t l w =
    weak_by_word (codes "if") (in_round (spell test) ++ spell_body b ++ if_there (λ o. word (codes "else") ++ o) (option_map spell_body other)) below renew left front rest (spells_as front (spell-If test b other) t) (λ last every u. if_up_to test b other below d e renew after rest (if_at below renew left (last ++ rest)) h i l w (if_head test b other below d renew left after last rest h f u))

-- ---- which statements may lack an `else`

bracketed_lacks : (f : Option Features) → (if_in_brackets f).lacks_else ≡ false
bracketed_lacks None = refl
bracketed_lacks (Some f) = refl

type_lacks : (type : TypeExpr) → (of_type type).lacks_else ≡ false
type_lacks type = subst (λ (x : TypeExpr). (of_type x).lacks_else ≡ false) (roll-out-TypeExpr type) (from (out-TypeExpr type))
  where
    from : (l : TypeExpr-F ExprKind Modifier Operand Value Item Param Body Range StmtKind Expr TypeExpr Called Place Stmt) → (of_type (roll-TypeExpr l)).lacks_else ≡ false
    from l = ap (λ (f : Features). f.lacks_else) (features-TypeExpr l.span l.word l.width) ∙ bracketed_lacks (option_map of_expr l.width)

place_lacks : (p : Place) → (of_place p).lacks_else ≡ false
place_lacks p =
    let b = place_starts p in
    ap (λ (f : Features). f.lacks_else) (b.features ∙ features-Place b.n b.index) ∙ bracketed_lacks (option_map of_expr b.index)

operand_lacks : (o : Operand) → OperandCase o → (of_operand o).lacks_else ≡ false
operand_lacks _ (is_named p) = ap (λ (f : Features). f.lacks_else) (features-Named p) ∙ place_lacks p
operand_lacks _ (is_physical span number) = ap (λ (f : Features). f.lacks_else) (features-PhysicalQubit span number)

operands_lack : (os : List Operand) → (all (map of_operand os)).lacks_else ≡ false
operands_lack [] = refl
operands_lack (o ∷ os) = refl

call_lacks : (c : Called) → (of_call c).lacks_else ≡ false
call_lacks c = subst (λ (x : Called). (of_call x).lacks_else ≡ false) (roll-out-Call c) (from (out-Call c))
  where
    from : (l : Call-F ExprKind Modifier Operand Value Item Param Body Range StmtKind Expr TypeExpr Called Place Stmt) → (of_call (roll-Call l)).lacks_else ≡ false
    from l = ap (λ (f : Features). f.lacks_else) (features-Called l.modifiers l.name l.args l.operands)

-- a statement that may lack an `else`, or one that doesn't
data MayLack : StmtKind → Type 0 where
  is_if : (test : Expr) → (b : Body) → (other : Option Body) → MayLack (If test b other)
  is_while : (test : Expr) → (b : Body) → MayLack (While test b)
  is_for : (type : TypeExpr) → (n : Ident) → (r : Range) → (b : Body) → MayLack (For type n r b)
  has_none : {k : StmtKind} → (of_stmt_kind k).lacks_else ≡ false → MayLack k

-- one that doesn't, by its features
lacks_by : {k : StmtKind} {f : Features} → of_stmt_kind k ≡ f → f.lacks_else ≡ false → MayLack k
lacks_by e l = has_none (ap (λ (x : Features). x.lacks_else) e ∙ l)

lack_layer : (l : layer.StmtKind-F ExprKind Modifier Operand Value Item Param Body Range StmtKind Expr TypeExpr Called Place Stmt) → MayLack (roll-StmtKind l)
lack_layer (layer.Include text) = subst MayLack (sym (rolls-Include text)) (lacks_by (features-Include text) refl)
lack_layer (layer.DefcalGrammar text) = subst MayLack (sym (rolls-DefcalGrammar text)) (lacks_by (features-DefcalGrammar text) refl)
lack_layer (layer.Qubit size n) = subst MayLack (sym (rolls-Qubit size n)) (lacks_by (features-Qubit size n) (bracketed_lacks (option_map of_expr size)))
lack_layer (layer.Input type n) = subst MayLack (sym (rolls-Input type n)) (lacks_by (features-Input type n) (type_lacks type))
lack_layer (layer.Output type n) = subst MayLack (sym (rolls-Output type n)) (lacks_by (features-Output type n) (type_lacks type))
lack_layer (layer.Gate n params qubits calls) = subst MayLack (sym (rolls-Gate n params qubits calls)) (lacks_by (features-Gate n params qubits calls) refl)
lack_layer (layer.Cal items) = subst MayLack (sym (rolls-Cal items)) (lacks_by (features-Cal items) refl)
lack_layer (layer.Defcal n params operands gives items) = subst MayLack (sym (rolls-Defcal n params operands gives items)) (lacks_by (features-Defcal n params operands gives items) refl)
lack_layer (layer.Init is_const type n v) = subst MayLack (sym (rolls-Init is_const type n v)) (lacks_by (features-Init is_const type n v) refl)
lack_layer (layer.Declare type n) = subst MayLack (sym (rolls-Declare type n)) (lacks_by (features-Declare type n) (type_lacks type))
lack_layer (layer.Stretch n) = subst MayLack (sym (rolls-Stretch n)) (lacks_by (features-Stretch n) refl)
lack_layer (layer.GateCall c) = subst MayLack (sym (rolls-GateCall c)) (lacks_by (features-GateCall c) (call_lacks c))
lack_layer (layer.Assign p v) = subst MayLack (sym (rolls-Assign p v)) (lacks_by (features-Assign p v) refl)
lack_layer (layer.Update p op x) = subst MayLack (sym (rolls-Update p op x)) (lacks_by (features-Update p op x) refl)
lack_layer (layer.Measure o to) = subst MayLack (sym (rolls-Measure o to)) (lacks_by (features-Measure o to) refl)
lack_layer (layer.Reset o) = subst MayLack (sym (rolls-Reset o)) (lacks_by (features-Reset o) (operand_lacks o (operand_case o)))
lack_layer (layer.Barrier os) = subst MayLack (sym (rolls-Barrier os)) (lacks_by (features-Barrier os) (operands_lack os))
lack_layer (layer.Delay time os) = subst MayLack (sym (rolls-Delay time os)) (lacks_by (features-Delay time os) refl)
lack_layer (layer.Box time ss) = subst MayLack (sym (rolls-Box time ss)) (lacks_by (features-Box time ss) refl)
lack_layer (layer.If test b other) = subst MayLack (sym (rolls-If test b other)) (is_if test b other)
lack_layer (layer.While test b) = subst MayLack (sym (rolls-While test b)) (is_while test b)
lack_layer (layer.For type n r b) = subst MayLack (sym (rolls-For type n r b)) (is_for type n r b)
lack_layer layer.Break = subst MayLack (sym rolls-Break) (lacks_by features-Break refl)
lack_layer layer.Continue = subst MayLack (sym rolls-Continue) (lacks_by features-Continue refl)
lack_layer layer.End = subst MayLack (sym rolls-End) (lacks_by features-End refl)

may_lack : (k : StmtKind) → MayLack k
may_lack k = subst MayLack (roll-out-StmtKind k) (lack_layer (out-StmtKind k))

-- ---- a statement

weak_kind : (k : StmtKind) → MayLack k → (below : Option Readers) (d e renew left after : ℕ) (front rest : List Token) → IsCompleteBelow d below → IsSoundBelow e below → Fits (of_stmt_kind k) d renew left after → Spells (spell_stmt_kind k) front → (of_stmt_kind k).lacks_else ≡ true → begins_word (codes "else") rest ≡ true → WeakRead below renew left front rest
weak_kind _ (is_if test b other) below d e renew left after front rest h i f t l w = weak-if test b other below d e renew left after front rest h i f t l w
weak_kind _ (is_while test b) below d e renew left after front rest h i f t l w = weak-while test b below d renew left after front rest h f t l w
weak_kind _ (is_for type n r b) below d e renew left after front rest h i f t l w = weak-for type n r b below d renew left after front rest h f t l w
weak_kind k (has_none p) below d e renew left after front rest h i f t l w = absurd (both_ways (of_stmt_kind k).lacks_else l p)

-- the same of a statement, where the readers one construct deeper are complete and sound
pub weak-stmt_at : (s : Stmt) (below : Option Readers) (d e renew left after : ℕ) (front rest : List Token) → IsCompleteBelow d below → IsSoundBelow e below → Fits (of_stmt s) d renew left after → Spells (spell_stmt s) front → (of_stmt s).lacks_else ≡ true → begins_word (codes "else") rest ≡ true → ReadsUpTo (stmt_at below renew left (front ++ rest)) rest
unfolding stmt_at
weak-stmt_at s below d e renew left after [] rest h i f t l w = absurd (stmt_some s t)
weak-stmt_at s below d e renew left after (t0 ∷ ts0) rest h i f t l w =
    let u = unplaced s.span (spell_stmt_kind s.kind) t0 ts0 (spells_as (t0 ∷ ts0) (spell-Stmt s) t) in
    from (weak_kind s.kind (may_lack s.kind) below d e renew left after (t0 ∷ ts0) rest h i (fits_as (features-Stmt s) f) u.1 (sym (ap (λ (x : Features). x.lacks_else) (features-Stmt s)) ∙ l) w)
  where
    read_of : (t : Token) (ts : List Token) → t.kind ≡ kind.Word → ReadsUpTo (stmt_of below renew left t.text (ts ++ rest) (t ∷ (ts ++ rest))) rest → ReadsUpTo (stmt_at below renew left ((t ∷ ts) ++ rest)) rest
    read_of t ts k r =
        let w : has_word t.kind ≡ true = ap has_word k in
        record { what = record { span = t.span; kind = r.what }; after = r.after; remains = r.remains; is = rw (stmt_at, w, r.is) refl; within = r.within }

    from : WeakRead below renew left (t0 ∷ ts0) rest → ReadsUpTo (stmt_at below renew left ((t0 ∷ ts0) ++ rest)) rest
    from r = subst (λ (us : List Token). ReadsUpTo (stmt_at below renew left (us ++ rest)) rest) (sym r.is) (read_of r.t r.ts r.is_word r.read)
