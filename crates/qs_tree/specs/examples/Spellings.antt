-- Worked examples: a few trees, and the pieces of each. This project's own.
use Rattle.std.specs.Prelude.{ℕ, List, [], ◌∷◌, true, codes, Option, Some, None}
use Rattle.qs_values.specs.declared.number.Frac.{Frac}
use Rattle.qs_values.specs.declared.span.Span.{Span}
use Rattle.qs_tree.specs.declared.operator.UnOp.TheVariants.{Neg, Not}
use Rattle.qs_tree.specs.declared.operator.BinOp.TheVariants.{Power, Sub, Div, Less}
use Rattle.qs_tree.specs.declared.expr.TypeWord.{TypeWord}
use Rattle.qs_tree.specs.declared.expr.TypeWord.TheVariants.{Int, Bool as BoolWord}
use Rattle.qs_tree.specs.declared.expr.Expr.{Expr}
use Rattle.qs_tree.specs.declared.expr.TypeExpr.{TypeExpr, roll-TypeExpr}
use Rattle.qs_tree.specs.declared.expr.ExprKind.{ExprKind}
use Rattle.qs_tree.specs.declared.expr.ExprKind.TheVariants.{Whole, Decimal, Text, Truth, Name, Index, Physical, Call, Cast, Group, Unary, Binary}
use Rattle.qs_tree.specs.declared.name.Ident.{Ident}
use Rattle.qs_tree.specs.declared.operand.Place.{roll-Place}
use Rattle.qs_tree.specs.declared.operand.Operand.TheVariants.{Named, PhysicalQubit}
use Rattle.qs_tree.specs.declared.gate.Call.{roll-Call}
use Rattle.qs_tree.specs.declared.statement.Stmt.{Stmt}
use Rattle.qs_tree.specs.declared.statement.StmtKind.{StmtKind}
use Rattle.qs_tree.specs.declared.statement.StmtKind.TheVariants.{GateCall, Reset, If}
use Rattle.qs_tree.specs.declared.statement.Body.TheVariants.{One, Braces}
use Rattle.qs_tree.specs.Spelling.{Shown, Piece, Word, Sign, Quoted, Qubit, Integer, Fraction}

-- a place in the first line
abbrev pub column : ℕ → Span
column n = record { line = 1; col = n }

-- an expression at such a place, a type, a name and a statement
abbrev pub placed : ℕ → ExprKind → Expr
placed n kind = record { span = column n; kind = kind }

abbrev pub typed : ℕ → TypeWord → Option Expr → TypeExpr
typed n word width = roll-TypeExpr (record { span = column n; word = word; width = width })

abbrev pub ident : ℕ → List ℕ → Ident
ident n text = record { span = column n; name = text }

abbrev pub stated : ℕ → StmtKind → Stmt
stated n kind = record { span = column n; kind = kind }

-- a piece with which nothing begins, and one with which something does at a place, or at many
abbrev pub inside : Shown → Piece
inside shows = record { shows = shows; places = [] }

abbrev pub begins : ℕ → Shown → Piece
begins n shows = record { shows = shows; places = column n ∷ [] }

abbrev pub begins_twice : ℕ → Shown → Piece
begins_twice n shows = record { shows = shows; places = column n ∷ column n ∷ [] }

-- the name `a`
abbrev pub a : ExprKind
a = Name (codes "a")

-- `-(a - 1) ** 2`, whose minus is the loosest
abbrev pub power : Expr
power = placed 1 (Unary Neg (placed 2 (Binary (placed 2 (Group (placed 3 (Binary (placed 3 a) Sub (placed 7 (Whole 1)))))) Power (placed 13 (Whole 2)))))

-- its pieces
abbrev pub power_pieces : List Piece
power_pieces =
    begins 1 (Sign (codes "-")) ∷ begins_twice 2 (Sign (codes "(")) ∷ begins_twice 3 (Word (codes "a")) ∷ inside (Sign (codes "-")) ∷ begins 7 (Integer 1)
    ∷ inside (Sign (codes ")")) ∷ inside (Sign (codes "**")) ∷ begins 13 (Integer 2) ∷ []

-- `f(a[3], true, $7) / g()`
abbrev pub calls : Expr
calls = placed 1 (Binary
    (placed 1 (Call (codes "f") (placed 3 (Index (codes "a") (placed 5 (Whole 3))) ∷ placed 9 (Truth true) ∷ placed 15 (Physical 7) ∷ [])))
    Div (placed 21 (Call (codes "g") [])))

-- its pieces
abbrev pub calls_pieces : List Piece
calls_pieces =
    begins_twice 1 (Word (codes "f")) ∷ inside (Sign (codes "(")) ∷ begins 3 (Word (codes "a")) ∷ inside (Sign (codes "[")) ∷ begins 5 (Integer 3)
    ∷ inside (Sign (codes "]")) ∷ inside (Sign (codes ",")) ∷ begins 9 (Word (codes "true")) ∷ inside (Sign (codes ",")) ∷ begins 15 (Qubit 7)
    ∷ inside (Sign (codes ")")) ∷ inside (Sign (codes "/")) ∷ begins 21 (Word (codes "g")) ∷ inside (Sign (codes "(")) ∷ inside (Sign (codes ")")) ∷ []

-- `!int[4]("01") < bool(f)` with a fraction f
abbrev pub casts : Frac → Expr
casts f = placed 1 (Binary
    (placed 1 (Unary Not (placed 2 (Cast (typed 2 Int (Some (placed 6 (Whole 4)))) (placed 9 (Text (codes "\"01\"")))))))
    Less (placed 17 (Cast (typed 17 BoolWord None) (placed 22 (Decimal f)))))

-- its pieces
abbrev pub casts_pieces : Frac → List Piece
casts_pieces f =
    begins_twice 1 (Sign (codes "!")) ∷ begins_twice 2 (Word (codes "int")) ∷ inside (Sign (codes "[")) ∷ begins 6 (Integer 4) ∷ inside (Sign (codes "]"))
    ∷ inside (Sign (codes "(")) ∷ begins 9 (Quoted (codes "\"01\"")) ∷ inside (Sign (codes ")")) ∷ inside (Sign (codes "<")) ∷ begins_twice 17 (Word (codes "bool"))
    ∷ inside (Sign (codes "(")) ∷ begins 22 (Fraction f) ∷ inside (Sign (codes ")")) ∷ []

-- `if (a) x $0; else { reset q[1]; }`
abbrev pub choice : Stmt
choice = stated 1 (If (placed 5 a)
    (One (stated 8 (GateCall (roll-Call (record { modifiers = []; name = ident 8 (codes "x"); args = None; operands = PhysicalQubit (column 10) 0 ∷ [] })))))
    (Some (Braces (stated 21 (Reset (Named (roll-Place (record { name = ident 27 (codes "q"); index = Some (placed 29 (Whole 1)) })))) ∷ []))))

-- its pieces
abbrev pub choice_pieces : List Piece
choice_pieces =
    begins 1 (Word (codes "if")) ∷ inside (Sign (codes "(")) ∷ begins 5 (Word (codes "a")) ∷ inside (Sign (codes ")")) ∷ begins_twice 8 (Word (codes "x"))
    ∷ begins 10 (Qubit 0) ∷ inside (Sign (codes ";")) ∷ inside (Word (codes "else")) ∷ inside (Sign (codes "{")) ∷ begins 21 (Word (codes "reset"))
    ∷ begins 27 (Word (codes "q")) ∷ inside (Sign (codes "[")) ∷ begins 29 (Integer 1) ∷ inside (Sign (codes "]")) ∷ inside (Sign (codes ";")) ∷ inside (Sign (codes "}")) ∷ []
