-- What binds most tightly is read where it is spelled.
use Rattle.std.proofs.Common.{◌≡◌, ℕ, ◌+◌, ◌≤◌, Bool, true, false, not, cond, codes, List, [], ◌∷◌, ◌++◌, map, Option, Some, None, refl, sym, ap, subst, ◌∙◌, append_assoc, arith, inl}
use Rattle.std.specs.Str.{bytes_eq}
use Rattle.std.proofs.lemmas.Bool.{and_parts, and_right}
use Rattle.qs_values.specs.Names.{is_name, is_reserved}
use Rattle.qs_values.specs.declared.span.Span.{Span}
use Rattle.qs_lexer.specs.declared.token.Token.{Token}
use Rattle.qs_lexer.specs.declared.token.TokenKind.{TokenKind}
use Rattle.qs_lexer.specs.declared.token.TokenKind.TheVariants as kind
use Rattle.qs_tree.specs.declared.expr.Expr.{Expr}
use Rattle.qs_tree.specs.declared.expr.ExprKind.{ExprKind}
use Rattle.qs_tree.specs.declared.expr.ExprKind.TheVariants.{Whole, Decimal, Time, Text, Truth, Name, Index, Physical, Call, Cast, DurationOf, Group, Unary, Binary}
use Rattle.qs_tree.specs.declared.expr.TypeExpr.{TypeExpr, TypeExpr-F, out-TypeExpr, roll-TypeExpr, roll-out-TypeExpr}
use Rattle.qs_tree.specs.declared.expr.TypeWord.{TypeWord}
use Rattle.qs_tree.specs.declared.expr.TypeWord.TheVariants.{Bit, Int, Uint, Angle, Bool as BoolWord, Duration}
use Rattle.qs_tree.specs.declared.gate.Call.{Call as Called}
use Rattle.qs_tree.specs.declared.gate.Modifier.{Modifier}
use Rattle.qs_tree.specs.declared.operand.Place.{Place}
use Rattle.qs_tree.specs.declared.operand.Operand.{Operand}
use Rattle.qs_tree.specs.declared.operand.Value.{Value}
use Rattle.qs_tree.specs.declared.operator.UnOp.{UnOp}
use Rattle.qs_tree.specs.declared.operator.BinOp.{BinOp}
use Rattle.qs_tree.specs.declared.operator.BinOp.TheVariants.{Power, Mul, Div, Rem, Add, Sub, ShiftLeft, ShiftRight, Less, LessEqual, Greater, GreaterEqual, Equal, NotEqual, BitAnd, BitXor, BitOr, And, Or}
use Rattle.qs_tree.specs.declared.pulse.Param.{Param}
use Rattle.qs_tree.specs.declared.pulse.Item.{Item}
use Rattle.qs_tree.specs.declared.statement.Stmt.{Stmt}
use Rattle.qs_tree.specs.declared.statement.StmtKind.{StmtKind}
use Rattle.qs_tree.specs.declared.statement.Body.{Body}
use Rattle.qs_tree.specs.declared.statement.Range.{Range}
use Rattle.qs_tree.specs.Spelling.{Shown, Sign, Word, Qubit, Integer, Fraction, Period, Quoted, Spells, piece, in_braces, in_round, in_square, sign, spell, spell_kind, spell_stmt, spell_type, truth_word, with_commas, word, word_of_type, after_commas as spell_after_commas}
use Rattle.qs_tree.specs.WellFormed.{Features, all, block, both, in_brackets, level_of, nothing, may_have_width, of_expr, of_kind, of_stmt, of_type, primary_level, unary_level}
use Rattle.qs_tree.proofs.Spelled.{spell-Whole, spell-Decimal, spell-Time, spell-Text, spell-Truth, spell-Name, spell-Index, spell-Physical, spell-Call, spell-Cast, spell-DurationOf, spell-Group, spell-Number, spell-TypeExpr}
use Rattle.qs_parser.specs.steps.Tokens.{Readers, Reads, after_sign, begins_sign, is_sign, renewed}
use Rattle.qs_parser.specs.steps.Expressions.{args_at, args_to, cast_at, duration_at, group_at, has_width, kind_at, named_at, primary, type_of, type_word, un_op, un_op_at, word_at}
use Rattle.qs_parser.proofs.Featured.{features-Expr, features-Whole, features-Decimal, features-Time, features-Text, features-Truth, features-Name, features-Index, features-Physical, features-Call, features-Cast, features-DurationOf, features-Group, features-Unary, features-Binary, features-TypeExpr}
use Rattle.qs_parser.proofs.TokenPieces.{Left, Split, after_sign_at, no_sign_after, same_text, sign_of_piece, spells_split}
use Rattle.qs_parser.proofs.Complete.{ClosesExpr, Fits, IsComplete, IsCompleteBelow}
use Rattle.qs_parser.proofs.CompleteExprParts.{after_last, begins_other, close_comma, close_round, close_square, closes_at, complete-closed, complete-commas, complete-enclosed, complete-renewed, fits_as, fits_both, fits_nothing, fits_where, inside}
use Rattle.qs_parser.proofs.CompleteExprCases.{Case, case_of, first_token, is_binary, is_call, is_cast, is_decimal, is_duration, is_group, is_index, is_name_alone, is_number, is_physical, is_text, is_time, is_truth, is_unary, is_whole, no_bracket_first, spells_as, unplaced}

-- ---- arguments

complete-args_to : (d : ℕ) (b : Readers) → IsComplete d b → (xs : List Expr) (renew left after : ℕ) (front rest : List Token) → Fits (all (map of_expr xs)) d renew left after → Spells (with_commas (map spell xs) ++ sign (codes ")")) front → args_to (after_sign (codes ")") (front ++ rest)) b renew left (front ++ rest) ≡ Some (xs, after, rest)
unfolding args_to
complete-args_to d b h [] renew left after front rest f s = rw (after_last (codes ")") front rest s, fits_nothing f) refl
complete-args_to d b h (x ∷ xs) renew left after front rest f s =
    let two : Split (with_commas (map spell (x ∷ xs))) (sign (codes ")")) front = spells_split _ _ front s in
    let three : Split (spell x) (spell_after_commas (map spell xs)) two.front = spells_split _ _ two.front two.spells_front in
    let is : front ++ rest ≡ two.front ++ (two.after ++ rest) = ap (λ (us : List Token). us ++ rest) two.is ∙ append_assoc two.front two.after rest in
    let begins : front ++ rest ≡ three.front ++ (three.after ++ (two.after ++ rest)) = is ∙ ap (λ (us : List Token). us ++ (two.after ++ rest)) three.is ∙ append_assoc three.front three.after (two.after ++ rest) in
    let others : after_sign (codes ")") (front ++ rest) ≡ None = no_sign_after (codes ")") (front ++ rest) (ap (begins_sign (codes ")")) begins ∙ no_bracket_first x three.front (three.after ++ (two.after ++ rest)) three.spells_front) in
    let many = complete-commas spell of_expr ClosesExpr d renew (λ l us. renewed renew (b.expr l us)) (λ e l a fr re. complete-renewed d b h e renew l a fr re) (λ ps fr re s2. closes_at (codes ",") close_comma 10 ps fr re s2) (x ∷ xs) left after two.front (two.after ++ rest) refl f two.spells_front (closes_at (codes ")") close_round 10 [] two.after rest two.spells_after) (begins_other (codes ")") (codes ",") [] two.after rest two.spells_after) in
    rw (others, args_to, is, many, after_last (codes ")") two.after rest two.spells_after) refl

pub complete-args_at : (xs : List Expr) (below : Option Readers) (d renew left after : ℕ) (front rest : List Token) → IsCompleteBelow d below → Fits (in_brackets (all (map of_expr xs))) d renew left after → Spells (in_round (with_commas (map spell xs))) front → args_at below renew left (front ++ rest) ≡ Some (xs, after, rest)
unfolding args_at
complete-args_at xs below d renew left after front rest h f s =
    let i = inside (all (map of_expr xs)) d below renew left after h f in
    let one : Left (with_commas (map spell xs) ++ sign (codes ")")) (after_sign (codes "(") (front ++ rest)) rest = after_sign_at (codes "(") _ front rest s in
    rw (args_at, one.is, i.is, complete-args_to i.deeper i.readers i.complete xs renew left after one.front rest i.fits one.spells) refl

-- ---- types

word_of_its_type : (w : TypeWord) → type_word (word_of_type w) ≡ Some w
word_of_its_type Bit = refl
word_of_its_type Int = refl
word_of_its_type Uint = refl
word_of_its_type Angle = refl
word_of_its_type BoolWord = refl
word_of_its_type Duration = refl

wide : (w : TypeWord) (f : Features) → may_have_width w (Some f) ≡ true → has_width w ≡ true
wide Bit f e = refl
wide Int f e = refl
wide Uint f e = refl
wide Angle f e = refl
wide BoolWord f e = e
wide Duration f e = e

-- a type that is spelled: its word, and what is read after the word
pub record TypeRead (type : TypeExpr) (below : Option Readers) (renew left after : ℕ) (t : Token) (ts rest : List Token) : Type 0 where
  pub word : TypeWord
  pub is_word : t.kind ≡ kind.Word
  pub text : t.text ≡ word_of_type word
  pub read : type_of below renew left t.span word (ts ++ rest) ≡ Some (type, after, rest)

type_layer_read : (span : Span) (w : TypeWord) (width : Option Expr) (below : Option Readers) (d renew left after : ℕ) (t : Token) (ts rest : List Token) → IsCompleteBelow d below → Fits (of_type (roll-TypeExpr (record { span = span; word = w; width = width }))) d renew left after → Spells (spell_type (roll-TypeExpr (record { span = span; word = w; width = width }))) (t ∷ ts) → begins_sign (codes "[") rest ≡ false → TypeRead (roll-TypeExpr (record { span = span; word = w; width = width })) below renew left after t ts rest
unfolding type_of
type_layer_read span w None below d renew left after t [] rest h f s c =
    let p : (t.span ≡ span) × Spells (word (word_of_type w)) (t ∷ []) = unplaced span (word (word_of_type w)) t [] (spells_as (t ∷ []) (spell-TypeExpr span w None) s) in
    let g = fits_where (may_have_width w None) (fits_as (features-TypeExpr span w None) f) in
    record { word = w; is_word = p.1.0.0.0; text = p.1.0.0.1; read = rw (type_of, and_right (has_width w) _ c, p.0, fits_nothing g.1) refl }
type_layer_read span w None below d renew left after t (u ∷ us) rest h f s c = absurd (unplaced span (word (word_of_type w)) t (u ∷ us) (spells_as (t ∷ u ∷ us) (spell-TypeExpr span w None) s)).1.1
type_layer_read span w (Some e) below d renew left after t ts rest h f s c =
    let p = unplaced span (word (word_of_type w) ++ in_square (spell e)) t ts (spells_as (t ∷ ts) (spell-TypeExpr span w (Some e)) s) in
    let g = fits_where (may_have_width w (Some (of_expr e))) (fits_as (features-TypeExpr span w (Some e)) f) in
    let opens : begins_sign (codes "[") (ts ++ rest) ≡ true = begins_other (codes "[") (codes "[") (spell e ++ sign (codes "]")) ts rest p.1.1 in
    let width = complete-enclosed (codes "[") (codes "]") close_square e below d renew left after ts rest h g.1 p.1.1 in
    record { word = w; is_word = p.1.0.0.0; text = p.1.0.0.1; read = rw (type_of, wide w _ g.0, opens, width, p.0) refl }

pub complete-type_of : (type : TypeExpr) (below : Option Readers) (d renew left after : ℕ) (t : Token) (ts rest : List Token) → IsCompleteBelow d below → Fits (of_type type) d renew left after → Spells (spell_type type) (t ∷ ts) → begins_sign (codes "[") rest ≡ false → TypeRead type below renew left after t ts rest
complete-type_of type below d renew left after t ts rest h f s c = subst (λ (x : TypeExpr). TypeRead x below renew left after t ts rest) same (from (out-TypeExpr type) (fits_as (ap of_type (sym same)) f) (spells_as (t ∷ ts) (ap spell_type (sym same)) s))
  where
    same : roll-TypeExpr (out-TypeExpr type) ≡ type
    same = roll-out-TypeExpr type

    from : (l : TypeExpr-F ExprKind Modifier Operand Value Item Param Body Range StmtKind Expr TypeExpr Called Place Stmt) → Fits (of_type (roll-TypeExpr l)) d renew left after → Spells (spell_type (roll-TypeExpr l)) (t ∷ ts) → TypeRead (roll-TypeExpr l) below renew left after t ts rest
    from l f2 s2 = type_layer_read l.span l.word l.width below d renew left after t ts rest h f2 s2 c

-- ---- what begins with a word

not_both : (b : Bool) → b ≡ true → b ≡ false → ⊥
not_both true e f = absurd cc
not_both false e f = absurd cc

-- a name is no reserved word
name_is_no : (name text : List ℕ) → is_name name ≡ true → is_reserved text ≡ true → bytes_eq name text ≡ false
name_is_no name text valid kept = from (bytes_eq name text) refl
  where
    from : (b : Bool) → bytes_eq name text ≡ b → bytes_eq name text ≡ false
    from false e = e
    from true e =
        let named : is_name text ≡ true = ap is_name (sym (same_text name text e)) ∙ valid in
        absurd (not_both (not (is_reserved text)) (and_parts _ _ named).1 (ap not kept))

type_of_name : (name : List ℕ) → is_name name ≡ true → type_word name ≡ None
type_of_name name v = rw (name_is_no name (codes "bit") v refl, name_is_no name (codes "int") v refl, name_is_no name (codes "uint") v refl, name_is_no name (codes "angle") v refl, name_is_no name (codes "bool") v refl, name_is_no name (codes "duration") v refl) refl

-- what is read at a token that is a word
at_word : (below : Option Readers) (left : ℕ) (t : Token) (ts : List Token) (text : List ℕ) → t.kind ≡ kind.Word → t.text ≡ text → kind_at below left t ts ≡ word_at below left t.span text ts
unfolding kind_at
at_word below left t ts text k e = rw (kind_at, k, e) refl

at_name : (below : Option Readers) (left : ℕ) (t : Token) (ts : List Token) (name : List ℕ) → is_name name ≡ true → t.kind ≡ kind.Word → t.text ≡ name → kind_at below left t ts ≡ named_at below left name ts
unfolding word_at
at_name below left t ts name v k e = at_word below left t ts name k e ∙ rw (word_at, name_is_no name (codes "true") v refl, name_is_no name (codes "false") v refl, name_is_no name (codes "durationof") v refl, type_of_name name v, v) refl

by_type : (below : Option Readers) (left : ℕ) (span : Span) (ts : List Token) (w : TypeWord) → word_at below left span (word_of_type w) ts ≡ cast_at below left span w ts
unfolding word_at
by_type below left span ts Bit = refl
by_type below left span ts Int = refl
by_type below left span ts Uint = refl
by_type below left span ts Angle = refl
by_type below left span ts BoolWord = refl
by_type below left span ts Duration = refl

at_type : (below : Option Readers) (left : ℕ) (t : Token) (ts : List Token) (w : TypeWord) → t.kind ≡ kind.Word → t.text ≡ word_of_type w → kind_at below left t ts ≡ cast_at below left t.span w ts
at_type below left t ts w k e = at_word below left t ts (word_of_type w) k e ∙ by_type below left t.span ts w

at_truth : (below : Option Readers) (left : ℕ) (span : Span) (value : Bool) (ts : List Token) → word_at below left span (truth_word value) ts ≡ Some (Truth value, left, ts)
unfolding word_at
at_truth below left span true ts = refl
at_truth below left span false ts = refl

-- tokens that go on with no name by a bracket
pub record Bare (rest : List Token) : Type 0 where
  pub square : begins_sign (codes "[") rest ≡ false
  pub round : begins_sign (codes "(") rest ≡ false

-- ---- one case after the other

-- what is read at the first token of a spelling
abbrev KindRead : Option Readers → (d : ℕ) → ExprKind → Type 0
KindRead below d k = (left after : ℕ) (t : Token) (ts rest : List Token) → (of_kind k).level ≡ primary_level → Fits (of_kind k) d 0 left after → Spells (spell_kind k) (t ∷ ts) → Bare rest → kind_at below left t (ts ++ rest) ≡ Some (k, after, rest)

no_more : {d left after : ℕ} (k : ExprKind) → of_kind k ≡ nothing → Fits (of_kind k) d 0 left after → left ≡ after
no_more k e f = fits_nothing (fits_as e f)

read_duration : (body : List Stmt) (below : Option Readers) (d left after : ℕ) (front rest : List Token) → IsCompleteBelow d below → Fits (in_brackets (block (map of_stmt body))) d 0 left after → Spells (in_round (in_braces (map spell_stmt body))) front → duration_at below left (front ++ rest) ≡ Some (DurationOf body, after, rest)
unfolding duration_at
read_duration body below d left after front rest h f s =
    let i = inside (block (map of_stmt body)) d below 0 left after h f in
    let one : Left (in_braces (map spell_stmt body) ++ sign (codes ")")) (after_sign (codes "(") (front ++ rest)) rest = after_sign_at (codes "(") _ front rest s in
    let two : Split (in_braces (map spell_stmt body)) (sign (codes ")")) one.front = spells_split _ _ one.front one.spells in
    let is : one.front ++ rest ≡ two.front ++ (two.after ++ rest) = ap (λ (us : List Token). us ++ rest) two.is ∙ append_assoc two.front two.after rest in
    let read = i.complete.block body 0 left after two.front (two.after ++ rest) i.fits two.spells_front in
    rw (duration_at, one.is, i.is, is, read, after_last (codes ")") two.after rest two.spells_after) refl

-- a type begins with some token
type_some : (type : TypeExpr) → Spells (spell_type type) [] → ⊥
type_some type h = from (out-TypeExpr type) (spells_as [] (ap spell_type (sym (roll-out-TypeExpr type))) h)
  where
    from : (l : TypeExpr-F ExprKind Modifier Operand Value Item Param Body Range StmtKind Expr TypeExpr Called Place Stmt) → Spells (spell_type (roll-TypeExpr l)) [] → ⊥
    from l g = spells_as [] (spell-TypeExpr l.span l.word l.width) g

cast_parts : (type : TypeExpr) (operand : Expr) (below : Option Readers) (d left after : ℕ) (t : Token) (ts us rest : List Token) → IsCompleteBelow d below → Fits (both (of_type type) (in_brackets (of_expr operand))) d 0 left after → Spells (spell_type type) (t ∷ ts) → Spells (in_round (spell operand)) us → kind_at below left t ((ts ++ us) ++ rest) ≡ Some (Cast type operand, after, rest)
unfolding cast_at
cast_parts type operand below d left after t ts us rest h f s u =
    let fs = fits_both (of_type type) (in_brackets (of_expr operand)) d 0 left after f in
    let r = complete-type_of type below d 0 left fs.between t ts (us ++ rest) h fs.first s (begins_other (codes "(") (codes "[") (spell operand ++ sign (codes ")")) us rest u) in
    let e = complete-enclosed (codes "(") (codes ")") close_round operand below d 0 fs.between after us rest h fs.second u in
    ap (kind_at below left t) (append_assoc ts us rest) ∙ at_type below left t (ts ++ (us ++ rest)) r.word r.is_word r.text ∙ rw (cast_at, r.read, e) refl

read_cast : (type : TypeExpr) (operand : Expr) (below : Option Readers) (d left after : ℕ) (t : Token) (ts rest : List Token) → IsCompleteBelow d below → Fits (both (of_type type) (in_brackets (of_expr operand))) d 0 left after → Spells (spell_type type ++ in_round (spell operand)) (t ∷ ts) → kind_at below left t (ts ++ rest) ≡ Some (Cast type operand, after, rest)
read_cast type operand below d left after t ts rest h f s = let two = spells_split (spell_type type) (in_round (spell operand)) (t ∷ ts) s in from two.front two.after two.is two.spells_front two.spells_after
  where
    first_of : List Token → Reads ExprKind
    first_of [] = None
    first_of (u ∷ us) = kind_at below left u (us ++ rest)

    from : (front us : List Token) → t ∷ ts ≡ front ++ us → Spells (spell_type type) front → Spells (in_round (spell operand)) us → kind_at below left t (ts ++ rest) ≡ Some (Cast type operand, after, rest)
    from [] us e a b = absurd (type_some type a)
    from (v ∷ vs) us e a b = ap first_of e ∙ cast_parts type operand below d left after v vs us rest h f a b

-- a name and what goes on with it
read_index : (name : List ℕ) (index : Expr) (below : Option Readers) (d left after : ℕ) (front rest : List Token) → IsCompleteBelow d below → Fits (in_brackets (of_expr index)) d 0 left after → Spells (in_square (spell index)) front → named_at below left name (front ++ rest) ≡ Some (Index name index, after, rest)
unfolding named_at
read_index name index below d left after front rest h f s =
    rw (named_at, begins_other (codes "[") (codes "[") (spell index ++ sign (codes "]")) front rest s, complete-enclosed (codes "[") (codes "]") close_square index below d 0 left after front rest h f s) refl

read_call : (name : List ℕ) (args : List Expr) (below : Option Readers) (d left after : ℕ) (front rest : List Token) → IsCompleteBelow d below → Fits (in_brackets (all (map of_expr args))) d 0 left after → Spells (in_round (with_commas (map spell args))) front → named_at below left name (front ++ rest) ≡ Some (Call name args, after, rest)
unfolding named_at
read_call name args below d left after front rest h f s =
    rw (named_at, begins_other (codes "(") (codes "[") (with_commas (map spell args) ++ sign (codes ")")) front rest s, begins_other (codes "(") (codes "(") (with_commas (map spell args) ++ sign (codes ")")) front rest s, complete-args_at args below d 0 left after front rest h f s) refl

read_name : (name : List ℕ) (below : Option Readers) (left : ℕ) (rest : List Token) → Bare rest → named_at below left name rest ≡ Some (Name name, left, rest)
unfolding named_at
read_name name below left rest b = rw (named_at, b.square, b.round) refl

-- brackets
read_group : (inner : Expr) (below : Option Readers) (d left after : ℕ) (t : Token) (ts rest : List Token) → IsCompleteBelow d below → Fits (in_brackets (of_expr inner)) d 0 left after → Spells (in_round (spell inner)) (t ∷ ts) → kind_at below left t (ts ++ rest) ≡ Some (Group inner, after, rest)
unfolding kind_at group_at
read_group inner below d left after t ts rest h f s =
    let opens : is_sign (codes "(") t ≡ true = sign_of_piece (codes "(") (Sign (codes "(")) t s.0.0 in
    rw (kind_at, s.0.0.0, group_at, opens, complete-closed (codes ")") close_round inner below d 0 left after ts rest h f s.1) refl

-- nothing more of it after a token alone
alone : (shows : Shown) (t : Token) (ts rest : List Token) → Spells (piece shows) (t ∷ ts) → ts ++ rest ≡ rest
alone shows t [] rest h = refl
alone shows t (u ∷ us) rest h = absurd h.1

level_unary : (op : UnOp) (e : Expr) → (of_kind (Unary op e)).level ≡ unary_level
level_unary op e = ap (λ (f : Features). f.level) (features-Unary op e)

level_binary : (l : Expr) (op : BinOp) (r : Expr) → (of_kind (Binary l op r)).level ≡ level_of op
level_binary l op r = ap (λ (f : Features). f.level) (features-Binary l op r)

no_operator : (op : BinOp) → level_of op ≤ 11
no_operator Power = omega arith
no_operator Mul = omega arith
no_operator Div = omega arith
no_operator Rem = omega arith
no_operator Add = omega arith
no_operator Sub = omega arith
no_operator ShiftLeft = omega arith
no_operator ShiftRight = omega arith
no_operator Less = omega arith
no_operator LessEqual = omega arith
no_operator Greater = omega arith
no_operator GreaterEqual = omega arith
no_operator Equal = omega arith
no_operator NotEqual = omega arith
no_operator BitAnd = omega arith
no_operator BitXor = omega arith
no_operator BitOr = omega arith
no_operator And = omega arith
no_operator Or = omega arith

read_kind : (below : Option Readers) (d : ℕ) → IsCompleteBelow d below → (k : ExprKind) → Case k → KindRead below d k
unfolding kind_at word_at
read_kind below d h _ (is_whole value) left after t ts rest l f s b =
    let p = spells_as (t ∷ ts) (spell-Whole value) s in
    rw (kind_at, p.0.0, alone (Integer value) t ts rest p, no_more (Whole value) (features-Whole value) f) refl
read_kind below d h _ (is_decimal value) left after t ts rest l f s b =
    let p = spells_as (t ∷ ts) (spell-Decimal value) s in
    rw (kind_at, p.0.0, alone (Fraction value) t ts rest p, no_more (Decimal value) (features-Decimal value) f) refl
read_kind below d h _ (is_time value unit) left after t ts rest l f s b =
    let p = spells_as (t ∷ ts) (spell-Time value unit) s in
    rw (kind_at, p.0.0, alone (Period value unit) t ts rest p, no_more (Time value unit) (features-Time value unit) f) refl
read_kind below d h _ (is_text text) left after t ts rest l f s b =
    let p = spells_as (t ∷ ts) (spell-Text text) s in
    rw (kind_at, p.0.0.0, p.0.0.1, alone (Quoted text) t ts rest p, no_more (Text text) (features-Text text) f) refl
read_kind below d h _ (is_truth value) left after t ts rest l f s b =
    let p = spells_as (t ∷ ts) (spell-Truth value) s in
    at_word below left t (ts ++ rest) (truth_word value) p.0.0.0 p.0.0.1 ∙ at_truth below left t.span value (ts ++ rest) ∙ rw (alone (Word (truth_word value)) t ts rest p, no_more (Truth value) (features-Truth value) f) refl
read_kind below d h _ (is_name_alone name) left after t ts rest l f s b =
    let g = fits_where (is_name name) (fits_as (features-Name name) f) in
    let p = spells_as (t ∷ ts) (spell-Name name) s in
    at_name below left t (ts ++ rest) name g.0 p.0.0.0 p.0.0.1 ∙ ap (named_at below left name) (alone (Word name) t ts rest p) ∙ read_name name below left rest b ∙ rw (fits_nothing g.1) refl
read_kind below d h _ (is_index name index) left after t ts rest l f s b =
    let g = fits_where (is_name name) (fits_as (features-Index name index) f) in
    let p = spells_as (t ∷ ts) (spell-Index name index) s in
    at_name below left t (ts ++ rest) name g.0 p.0.0.0 p.0.0.1 ∙ read_index name index below d left after ts rest h g.1 p.1
read_kind below d h _ (is_physical number) left after t ts rest l f s b =
    let p = spells_as (t ∷ ts) (spell-Physical number) s in
    rw (kind_at, p.0.0, alone (Qubit number) t ts rest p, no_more (Physical number) (features-Physical number) f) refl
read_kind below d h _ (is_call name args) left after t ts rest l f s b =
    let g = fits_where (is_name name) (fits_as (features-Call name args) f) in
    let p = spells_as (t ∷ ts) (spell-Call name args) s in
    at_name below left t (ts ++ rest) name g.0 p.0.0.0 p.0.0.1 ∙ read_call name args below d left after ts rest h g.1 p.1
read_kind below d h _ (is_cast type operand) left after t ts rest l f s b = read_cast type operand below d left after t ts rest h (fits_as (features-Cast type operand) f) (spells_as (t ∷ ts) (spell-Cast type operand) s)
read_kind below d h _ (is_duration body) left after t ts rest l f s b =
    let p = spells_as (t ∷ ts) (spell-DurationOf body) s in
    at_word below left t (ts ++ rest) (codes "durationof") p.0.0.0 p.0.0.1 ∙ read_duration body below d left after ts rest h (fits_as (features-DurationOf body) f) p.1
read_kind below d h _ (is_group inner) left after t ts rest l f s b = read_group inner below d left after t ts rest h (fits_as (features-Group inner) f) (spells_as (t ∷ ts) (spell-Group inner) s)
read_kind below d h _ (is_unary op operand) left after t ts rest l f s b = absurd (omega (arith, l, level_unary op operand))
read_kind below d h _ (is_binary a op c) left after t ts rest l f s b = absurd (omega (arith, l, level_binary a op c, no_operator op))
read_kind below d h _ (is_number value) left after t ts rest l f s b = absurd (spells_as (t ∷ ts) (spell-Number value) s).0.0

-- ---- what binds most tightly

-- an expression that follows the grammar, no deeper than may be, with as many operators as are taken off
pub record Within (e : Expr) (d left after : ℕ) : Type 0 where
  pub follows : (of_expr e).follows ≡ true
  pub depth : (of_expr e).depth ≤ d
  pub count : left ≡ after + (of_expr e).operators

pub kind_fits : (e : Expr) (d left after : ℕ) → Within e d left after → Fits (of_kind e.kind) d 0 left after
kind_fits e d left after w =
    let q = features-Expr e in
    record {
      follows = sym (ap (λ (f : Features). f.follows) q) ∙ w.follows;
      depth = omega (arith, w.depth, ap (λ (f : Features). f.depth) q);
      spent = inl (refl, omega (arith, w.count, ap (λ (f : Features). f.operators) q));
    }

pub kind_level : (e : Expr) → (of_expr e).level ≡ (of_kind e.kind).level
kind_level e = ap (λ (f : Features). f.level) (features-Expr e)

-- what is read at its first token, which is no operator before an operand
pub record PrimaryRead (e : Expr) (below : Option Readers) (left after : ℕ) (front rest : List Token) : Type 0 where
  pub is : primary below left (front ++ rest) ≡ Some (e, after, rest)
  pub no_un : un_op_at (front ++ rest) ≡ None

where_some : {A : Type 0} (b : Bool) (x : Option A) (y : A) → cond b x None ≡ Some y → b ≡ true
where_some true x y e = refl
where_some false x y e = absurd cc

no_un_first : (below : Option Readers) (left : ℕ) (k : TokenKind) (span : Span) (text : List ℕ) (ts : List Token) (y : ExprKind × ℕ × List Token) → kind_at below left (record { span = span; text = text; kind = k }) ts ≡ Some y → un_op_at (record { span = span; text = text; kind = k } ∷ ts) ≡ None
unfolding kind_at group_at
no_un_first below left kind.Word span text ts y e = refl
no_un_first below left (kind.Physical number) span text ts y e = refl
no_un_first below left (kind.Whole value) span text ts y e = refl
no_un_first below left (kind.Decimal value) span text ts y e = refl
no_un_first below left (kind.Time value unit) span text ts y e = refl
no_un_first below left kind.Text span text ts y e = refl
no_un_first below left kind.Sign span text ts y e =
    let opens : bytes_eq text (codes "(") ≡ true = where_some (bytes_eq text (codes "(")) _ y e in
    ap un_op (same_text text (codes "(") opens)

pub complete-primary : (e : Expr) (below : Option Readers) (d left after : ℕ) (front rest : List Token) → IsCompleteBelow d below → (of_expr e).level ≡ primary_level → Within e d left after → Spells (spell e) front → Bare rest → PrimaryRead e below left after front rest
unfolding primary
complete-primary e below d left after front rest h l w s b =
    let f = first_token e front s in
    let read = read_kind below d h e.kind (case_of e.kind) left after f.t f.ts rest (sym (kind_level e) ∙ l) (kind_fits e d left after w) f.spells_kind b in
    let here : primary below left (f.t ∷ (f.ts ++ rest)) ≡ Some (e, after, rest) = rw (primary, read, f.span) refl in
    let none : un_op_at (f.t ∷ (f.ts ++ rest)) ≡ None = no_un_first below left f.t.kind f.t.span f.t.text (f.ts ++ rest) (e.kind, after, rest) read in
    record {
      is = ap (λ (us : List Token). primary below left (us ++ rest)) f.is ∙ here;
      no_un = ap (λ (us : List Token). un_op_at (us ++ rest)) f.is ∙ none;
    }
