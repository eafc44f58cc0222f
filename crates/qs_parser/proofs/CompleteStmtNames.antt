-- Which words begin a statement, and what a word that is no reserved one begins.
use Rattle.std.proofs.Common.{◌≡◌, ℕ, zero, suc, ◌≤◌, Bool, true, false, ◌&&◌, not, codes, List, [], ◌∷◌, ◌++◌, map, None, refl, sym, ap, subst, ◌∙◌, append_assoc, arith}
use Rattle.std.specs.Str.{bytes_eq, chars}
use Rattle.std.proofs.lemmas.Bool.{and_parts}
use Rattle.qs_values.specs.Names.{is_name, is_reserved, is_word as begins_name}
use Rattle.qs_lexer.specs.declared.token.Token.{Token}
use Rattle.qs_tree.specs.declared.expr.Expr.{Expr}
use Rattle.qs_tree.specs.declared.expr.ExprKind.{ExprKind}
use Rattle.qs_tree.specs.declared.expr.TypeExpr.{TypeExpr, TypeExpr-F, out-TypeExpr, roll-TypeExpr, roll-out-TypeExpr}
use Rattle.qs_tree.specs.declared.expr.TypeWord.{TypeWord}
use Rattle.qs_tree.specs.declared.expr.TypeWord.TheVariants.{Bit, Int, Uint, Angle, Bool as BoolWord, Duration}
use Rattle.qs_tree.specs.declared.gate.Call.{Call as Called}
use Rattle.qs_tree.specs.declared.gate.Modifier.{Modifier}
use Rattle.qs_tree.specs.declared.operand.Place.{Place}
use Rattle.qs_tree.specs.declared.operand.Operand.{Operand}
use Rattle.qs_tree.specs.declared.operand.Value.{Value}
use Rattle.qs_tree.specs.declared.pulse.Param.{Param}
use Rattle.qs_tree.specs.declared.pulse.Item.{Item}
use Rattle.qs_tree.specs.declared.statement.Stmt.{Stmt}
use Rattle.qs_tree.specs.declared.statement.StmtKind.{StmtKind}
use Rattle.qs_tree.specs.declared.statement.Body.{Body}
use Rattle.qs_tree.specs.declared.statement.Range.{Range}
use Rattle.qs_tree.specs.Spelling.{Piece, Sign, Word, Qubit, Integer, Fraction, Period, Quoted, Spells, in_round, in_square, sign, sign_of_bin, sign_of_un, spell, spell_kind, spell_type, truth_word, with_commas, word, word_of_type}
use Rattle.qs_tree.specs.WellFormed.{Features, binds, of_expr, of_kind}
use Rattle.qs_tree.proofs.Spelled.{spell-Expr, spell-Whole, spell-Decimal, spell-Time, spell-Text, spell-Truth, spell-Name, spell-Index, spell-Physical, spell-Call, spell-Cast, spell-DurationOf, spell-Group, spell-Unary, spell-Binary, spell-Number, spell-TypeExpr}
use Rattle.qs_parser.specs.steps.Tokens.{begins_word, is_word}
use Rattle.qs_parser.specs.steps.Expressions.{type_word}
use Rattle.qs_parser.specs.steps.Statements.{is_modifier}
use Rattle.qs_parser.proofs.Featured.{features-Expr, features-Name, features-Index, features-Call, features-Binary}
use Rattle.qs_parser.proofs.TokenPieces.{Split, same_text, spells_split, word_of_piece}
use Rattle.qs_parser.proofs.CompleteExprCases.{Case, case_of, cons_head, first_token, is_binary, is_call, is_cast, is_decimal, is_duration, is_group, is_index, is_name_alone, is_number, is_physical, is_text, is_time, is_truth, is_unary, is_whole, spells_as, unplaced}

-- ---- names

clash : (b : Bool) → not b ≡ true → b ≡ true → ⊥
clash true e h = absurd cc
clash false e h = absurd cc

-- a name is none of the reserved words
pub not_reserved : (name text : List ℕ) → is_name name ≡ true → is_reserved text ≡ true → bytes_eq name text ≡ false
not_reserved name text valid kept = from (bytes_eq name text) refl
  where
    from : (b : Bool) → bytes_eq name text ≡ b → bytes_eq name text ≡ false
    from false e = e
    from true e =
        let same : is_name text ≡ true = subst (λ (x : List ℕ). is_name x ≡ true) (same_text name text e) valid in
        let p : (begins_name (chars text) ≡ true) × (not (is_reserved text) ≡ true) = and_parts (begins_name (chars text)) (not (is_reserved text)) same in
        absurd (clash (is_reserved text) p.1 kept)

pub name_no_type : (name : List ℕ) → is_name name ≡ true → type_word name ≡ None
name_no_type name v = rw (not_reserved name (codes "bit") v refl, not_reserved name (codes "int") v refl, not_reserved name (codes "uint") v refl, not_reserved name (codes "angle") v refl, not_reserved name (codes "bool") v refl, not_reserved name (codes "duration") v refl) refl

pub name_no_modifier : (name : List ℕ) → is_name name ≡ true → is_modifier name ≡ false
name_no_modifier name v = rw (not_reserved name (codes "inv") v refl, not_reserved name (codes "pow") v refl, not_reserved name (codes "ctrl") v refl, not_reserved name (codes "negctrl") v refl) refl

-- ---- no expression begins with the word of a measurement

type_no_measure : (type : TypeExpr) (ps : List Piece) (t : Token) (ts : List Token) → Spells (spell_type type ++ ps) (t ∷ ts) → is_word (codes "measure") t ≡ false
type_no_measure type ps t ts h = from (out-TypeExpr type) (subst (λ (x : TypeExpr). Spells (spell_type x ++ ps) (t ∷ ts)) (sym (roll-out-TypeExpr type)) h)
  where
    other : (w : TypeWord) → bytes_eq (word_of_type w) (codes "measure") ≡ false
    other Bit = refl
    other Int = refl
    other Uint = refl
    other Angle = refl
    other BoolWord = refl
    other Duration = refl

    from : (l : TypeExpr-F ExprKind Modifier Operand Value Item Param Body Range StmtKind Expr TypeExpr Called Place Stmt) → Spells (spell_type (roll-TypeExpr l) ++ ps) (t ∷ ts) → is_word (codes "measure") t ≡ false
    from l g = let s = spells_as (t ∷ ts) (ap (λ (x : List Piece). x ++ ps) (spell-TypeExpr l.span l.word l.width)) g in word_of_piece (codes "measure") (Word (word_of_type l.word)) t s.0.0 ∙ other l.word

truth_no_measure : (value : Bool) → bytes_eq (truth_word value) (codes "measure") ≡ false
truth_no_measure true = refl
truth_no_measure false = refl

named_no_measure : (name : List ℕ) (t : Token) (ps : List Piece) (ts : List Token) → is_name name ≡ true → Spells (word name ++ ps) (t ∷ ts) → is_word (codes "measure") t ≡ false
named_no_measure name t ps ts v h = word_of_piece (codes "measure") (Word name) t h.0.0 ∙ not_reserved name (codes "measure") v refl

kind_no_measure : (m : ℕ) → ((e : Expr) (t : Token) (ts : List Token) → suc (of_expr e).operators ≤ m → (of_expr e).follows ≡ true → Spells (spell e) (t ∷ ts) → is_word (codes "measure") t ≡ false) → (k : ExprKind) → Case k → (t : Token) (ts : List Token) → suc (of_kind k).operators ≤ suc m → (of_kind k).follows ≡ true → Spells (spell_kind k) (t ∷ ts) → is_word (codes "measure") t ≡ false
kind_no_measure m ih _ (is_whole value) t ts l f h = word_of_piece (codes "measure") (Integer value) t (spells_as (t ∷ ts) (spell-Whole value) h).0.0
kind_no_measure m ih _ (is_decimal value) t ts l f h = word_of_piece (codes "measure") (Fraction value) t (spells_as (t ∷ ts) (spell-Decimal value) h).0.0
kind_no_measure m ih _ (is_time value unit) t ts l f h = word_of_piece (codes "measure") (Period value unit) t (spells_as (t ∷ ts) (spell-Time value unit) h).0.0
kind_no_measure m ih _ (is_text text) t ts l f h = word_of_piece (codes "measure") (Quoted text) t (spells_as (t ∷ ts) (spell-Text text) h).0.0
kind_no_measure m ih _ (is_truth value) t ts l f h = word_of_piece (codes "measure") (Word (truth_word value)) t (spells_as (t ∷ ts) (spell-Truth value) h).0.0 ∙ truth_no_measure value
kind_no_measure m ih _ (is_name_alone name) t ts l f h = named_no_measure name t [] ts (and_parts (is_name name) _ (sym (ap (λ (x : Features). x.follows) (features-Name name)) ∙ f)).0 (spells_as (t ∷ ts) (spell-Name name) h)
kind_no_measure m ih _ (is_index name index) t ts l f h = named_no_measure name t (in_square (spell index)) ts (and_parts (is_name name) _ (sym (ap (λ (x : Features). x.follows) (features-Index name index)) ∙ f)).0 (spells_as (t ∷ ts) (spell-Index name index) h)
kind_no_measure m ih _ (is_physical number) t ts l f h = word_of_piece (codes "measure") (Qubit number) t (spells_as (t ∷ ts) (spell-Physical number) h).0.0
kind_no_measure m ih _ (is_call name args) t ts l f h = named_no_measure name t (in_round (with_commas (map spell args))) ts (and_parts (is_name name) _ (sym (ap (λ (x : Features). x.follows) (features-Call name args)) ∙ f)).0 (spells_as (t ∷ ts) (spell-Call name args) h)
kind_no_measure m ih _ (is_cast type operand) t ts l f h = type_no_measure type (in_round (spell operand)) t ts (spells_as (t ∷ ts) (spell-Cast type operand) h)
kind_no_measure m ih _ (is_duration body) t ts l f h = word_of_piece (codes "measure") (Word (codes "durationof")) t (spells_as (t ∷ ts) (spell-DurationOf body) h).0.0
kind_no_measure m ih _ (is_group inner) t ts l f h = word_of_piece (codes "measure") (Sign (codes "(")) t (spells_as (t ∷ ts) (spell-Group inner) h).0.0
kind_no_measure m ih _ (is_unary op operand) t ts l f h = word_of_piece (codes "measure") (Sign (sign_of_un op)) t (spells_as (t ∷ ts) (spell-Unary op operand) h).0.0
kind_no_measure m ih _ (is_binary left op right) t ts l f h = from (spells_split (spell left) (sign (sign_of_bin op) ++ spell right) (t ∷ ts) (spells_as (t ∷ ts) (spell-Binary left op right ∙ append_assoc (spell left) (sign (sign_of_bin op)) (spell right)) h))
  where
    from : Split (spell left) (sign (sign_of_bin op) ++ spell right) (t ∷ ts) → is_word (codes "measure") t ≡ false
    from s =
        let first = first_token left s.front s.spells_front in
        let same : t ≡ first.t = cons_head t first.t ts (first.ts ++ s.after) (s.is ∙ ap (λ (us : List Token). us ++ s.after) first.is) in
        let fewer : suc (of_expr left).operators ≤ m = omega (arith, l, ap (λ (x : Features). x.operators) (features-Binary left op right)) in
        let both = and_parts (binds (of_expr left).level op (of_expr right).level) ((of_expr left).follows && (of_expr right).follows) (sym (ap (λ (x : Features). x.follows) (features-Binary left op right)) ∙ f) in
        let p = and_parts (of_expr left).follows (of_expr right).follows both.1 in
        ap (is_word (codes "measure")) same ∙ ih left first.t first.ts fewer p.0 first.spells
kind_no_measure m ih _ (is_number value) t ts l f h = absurd (spells_as (t ∷ ts) (spell-Number value) h).0.0

no_measure : (m : ℕ) (e : Expr) (t : Token) (ts : List Token) → suc (of_expr e).operators ≤ m → (of_expr e).follows ≡ true → Spells (spell e) (t ∷ ts) → is_word (codes "measure") t ≡ false
no_measure zero e t ts l f h = absurd (omega (arith, l))
no_measure (suc m) e t ts l f h = kind_no_measure m (λ e2 t2 ts2 l2 f2 h2. no_measure m e2 t2 ts2 l2 f2 h2) e.kind (case_of e.kind) t ts (omega (arith, l, ap (λ (x : Features). x.operators) (features-Expr e))) (sym (ap (λ (x : Features). x.follows) (features-Expr e)) ∙ f) (unplaced e.span (spell_kind e.kind) t ts (spells_as (t ∷ ts) (spell-Expr e) h)).1

pub expr_no_measure : (e : Expr) (front rest : List Token) → (of_expr e).follows ≡ true → Spells (spell e) front → begins_word (codes "measure") (front ++ rest) ≡ false
expr_no_measure e front rest f h =
    let first = first_token e front h in
    ap (λ (us : List Token). begins_word (codes "measure") (us ++ rest)) first.is ∙ no_measure (suc (of_expr e).operators) e first.t first.ts (omega arith) f first.spells
