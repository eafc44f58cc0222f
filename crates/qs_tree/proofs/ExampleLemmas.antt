-- The pieces of the worked examples, and small rows of the words and signs.
use Rattle.std.proofs.Common.{◌≡◌, [], ◌∷◌, true, false, map, codes, Some, None, refl}
use Rattle.qs_values.specs.declared.number.Frac.{Frac}
use Rattle.qs_tree.specs.declared.operator.UnOp.TheVariants.{Not, Neg, Invert}
use Rattle.qs_tree.specs.declared.operator.BinOp.TheVariants.{Power, Mul, Div, Rem, Add, Sub, ShiftLeft, ShiftRight, Less, LessEqual, Greater, GreaterEqual, Equal, NotEqual, BitAnd, BitXor, BitOr, And, Or}
use Rattle.qs_tree.specs.declared.expr.TypeWord.TheVariants.{Bit, Int, Uint, Angle, Bool as BoolWord, Duration}
use Rattle.qs_tree.specs.declared.expr.ExprKind.TheVariants.{Whole, Decimal, Text, Truth, Index, Physical, Call, Cast, Group, Unary, Binary}
use Rattle.qs_tree.specs.declared.gate.Call.{roll-Call}
use Rattle.qs_tree.specs.declared.operand.Place.{roll-Place}
use Rattle.qs_tree.specs.declared.operand.Operand.TheVariants.{Named, PhysicalQubit}
use Rattle.qs_tree.specs.declared.statement.StmtKind.TheVariants.{GateCall, Reset}
use Rattle.qs_tree.specs.declared.statement.Body.TheVariants.{One, Braces}
use Rattle.qs_tree.specs.Spelling.{spell, spell_stmt, sign_of_bin, sign_of_un, truth_word, word_of_type}
use Rattle.qs_tree.specs.examples.Spellings.{a, calls, calls_pieces, casts, casts_pieces, choice, choice_pieces, column, ident, placed, power, power_pieces, stated, typed}
use Rattle.qs_tree.proofs.Spelled.{spell-Expr, spell-Stmt, spell-Place, spell-TypeExpr, spell-Called, spell-Whole, spell-Decimal, spell-Text, spell-Truth, spell-Name, spell-Index, spell-Physical, spell-Call, spell-Cast, spell-Group, spell-Unary, spell-Binary, spell-Named, spell-PhysicalQubit, spell-GateCall, spell-Reset, spell-If, spell-One, spell-Braces}

-- ---- the worked examples

power-fits : spell power ≡ power_pieces
power-fits =
    let one = placed 7 (Whole 1) in
    let two = placed 13 (Whole 2) in
    let difference = placed 3 (Binary (placed 3 a) Sub one) in
    let base = placed 2 (Group difference) in
    let square = placed 2 (Binary base Power two) in
    rw (
      spell-Expr power,
      spell-Unary Neg square,
      spell-Expr square,
      spell-Binary base Power two,
      spell-Expr base,
      spell-Group difference,
      spell-Expr difference,
      spell-Binary (placed 3 a) Sub one,
      spell-Expr (placed 3 a),
      spell-Name (codes "a"),
      spell-Expr one,
      spell-Whole 1,
      spell-Expr two,
      spell-Whole 2,
    )
    refl

calls-fit : spell calls ≡ calls_pieces
calls-fit =
    let three = placed 5 (Whole 3) in
    let indexed = placed 3 (Index (codes "a") three) in
    let args = indexed ∷ placed 9 (Truth true) ∷ placed 15 (Physical 7) ∷ [] in
    let f = placed 1 (Call (codes "f") args) in
    let g = placed 21 (Call (codes "g") []) in
    rw (
      spell-Expr calls,
      spell-Binary f Div g,
      spell-Expr f,
      spell-Call (codes "f") args,
      spell-Expr g,
      spell-Call (codes "g") [],
      spell-Expr indexed,
      spell-Index (codes "a") three,
      spell-Expr three,
      spell-Whole 3,
      spell-Expr (placed 9 (Truth true)),
      spell-Truth true,
      spell-Expr (placed 15 (Physical 7)),
      spell-Physical 7,
    )
    refl

casts-fit : (f : Frac) → spell (casts f) ≡ casts_pieces f
casts-fit f =
    let four = placed 6 (Whole 4) in
    let text = placed 9 (Text (codes "\"01\"")) in
    let decimal = placed 22 (Decimal f) in
    let whole = placed 2 (Cast (typed 2 Int (Some four)) text) in
    let negated = placed 1 (Unary Not whole) in
    let test = placed 17 (Cast (typed 17 BoolWord None) decimal) in
    rw (
      spell-Expr (casts f),
      spell-Binary negated Less test,
      spell-Expr negated,
      spell-Unary Not whole,
      spell-Expr whole,
      spell-Cast (typed 2 Int (Some four)) text,
      spell-TypeExpr (column 2) Int (Some four),
      spell-Expr test,
      spell-Cast (typed 17 BoolWord None) decimal,
      spell-TypeExpr (column 17) BoolWord None,
      spell-Expr four,
      spell-Whole 4,
      spell-Expr text,
      spell-Text (codes "\"01\""),
      spell-Expr decimal,
      spell-Decimal f,
    )
    refl

choice-fits : spell_stmt choice ≡ choice_pieces
choice-fits =
    let qubit = PhysicalQubit (column 10) 0 in
    let one = placed 29 (Whole 1) in
    let element = roll-Place (record { name = ident 27 (codes "q"); index = Some one }) in
    let called = roll-Call (record { modifiers = []; name = ident 8 (codes "x"); args = None; operands = qubit ∷ [] }) in
    let first = stated 8 (GateCall called) in
    let second = stated 21 (Reset (Named element)) in
    rw (
      spell-Stmt choice,
      spell-If (placed 5 a) (One first) (Some (Braces (second ∷ []))),
      spell-Expr (placed 5 a),
      spell-Name (codes "a"),
      spell-One first,
      spell-Stmt first,
      spell-GateCall called,
      spell-Called [] (ident 8 (codes "x")) None (qubit ∷ []),
      spell-PhysicalQubit (column 10) 0,
      spell-Braces (second ∷ []),
      spell-Stmt second,
      spell-Reset (Named element),
      spell-Named element,
      spell-Place (ident 27 (codes "q")) (Some one),
      spell-Expr one,
      spell-Whole 1,
    )
    refl

-- ---- the signs and the words

-- the signs from the tightest to the loosest, one by one
binary-signs :
    map sign_of_bin (Power ∷ Mul ∷ Div ∷ Rem ∷ Add ∷ Sub ∷ ShiftLeft ∷ ShiftRight ∷ Less ∷ LessEqual ∷ Greater ∷ GreaterEqual ∷ Equal ∷ NotEqual ∷ BitAnd ∷ BitXor ∷ BitOr ∷ And ∷ Or ∷ [])
    ≡ (42 ∷ 42 ∷ []) ∷ (42 ∷ []) ∷ (47 ∷ []) ∷ (37 ∷ []) ∷ (43 ∷ []) ∷ (45 ∷ []) ∷ (60 ∷ 60 ∷ []) ∷ (62 ∷ 62 ∷ []) ∷ (60 ∷ []) ∷ (60 ∷ 61 ∷ [])
    ∷ (62 ∷ []) ∷ (62 ∷ 61 ∷ []) ∷ (61 ∷ 61 ∷ []) ∷ (33 ∷ 61 ∷ []) ∷ (38 ∷ []) ∷ (94 ∷ []) ∷ (124 ∷ []) ∷ (38 ∷ 38 ∷ []) ∷ (124 ∷ 124 ∷ []) ∷ []
binary-signs = refl

unary-signs : map sign_of_un (Not ∷ Neg ∷ Invert ∷ []) ≡ (33 ∷ []) ∷ (45 ∷ []) ∷ (126 ∷ []) ∷ []
unary-signs = refl

truth-words : map truth_word (true ∷ false ∷ []) ≡ codes "true" ∷ codes "false" ∷ []
truth-words = refl

type-words :
    map word_of_type (Bit ∷ Int ∷ Uint ∷ Angle ∷ BoolWord ∷ Duration ∷ [])
    ≡ codes "bit" ∷ codes "int" ∷ codes "uint" ∷ codes "angle" ∷ codes "bool" ∷ codes "duration" ∷ []
type-words = refl
