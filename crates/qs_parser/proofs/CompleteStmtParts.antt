-- The parts of statements are read where they are spelled.
use Rattle.std.proofs.Common.{◌≡◌, ℕ, ◌+◌, ◌-◌, ◌≤◌, max, true, false, codes, List, [], ◌∷◌, ◌++◌, map, option_map, Option, Some, None, refl, sym, ap, subst, ◌∙◌, append_assoc, arith, inl, inr}
use Rattle.qs_values.specs.Names.{is_name}
use Rattle.qs_values.specs.declared.span.Span.{Span}
use Rattle.qs_lexer.specs.declared.token.Token.{Token}
use Rattle.qs_lexer.specs.declared.token.TokenKind.{TokenKind}
use Rattle.qs_lexer.specs.declared.token.TokenKind.TheVariants as kind
use Rattle.qs_tree.specs.declared.expr.Expr.{Expr}
use Rattle.qs_tree.specs.declared.expr.ExprKind.{ExprKind}
use Rattle.qs_tree.specs.declared.expr.ExprKind.TheOpen as layer
use Rattle.qs_tree.specs.declared.expr.TypeExpr.{TypeExpr, TypeExpr-F, out-TypeExpr, roll-TypeExpr, roll-out-TypeExpr}
use Rattle.qs_tree.specs.declared.expr.TypeWord.{TypeWord}
use Rattle.qs_tree.specs.declared.expr.TypeWord.TheVariants.{Bit, Int, Uint, Angle, Bool as BoolWord, Duration}
use Rattle.qs_tree.specs.declared.gate.Call.{Call as Called}
use Rattle.qs_tree.specs.declared.gate.Modifier.{Modifier}
use Rattle.qs_tree.specs.declared.name.Ident.{Ident}
use Rattle.qs_tree.specs.declared.operand.Place.{Place, Place-F, out-Place, roll-Place, roll-out-Place}
use Rattle.qs_tree.specs.declared.operand.Operand.{Operand, out-Operand, roll-Operand, roll-out-Operand}
use Rattle.qs_tree.specs.declared.operand.Operand.TheVariants.{Named, PhysicalQubit, rolls-Named, rolls-PhysicalQubit}
use Rattle.qs_tree.specs.declared.operand.Value.{Value}
use Rattle.qs_tree.specs.declared.pulse.Param.{Param}
use Rattle.qs_tree.specs.declared.pulse.Item.{Item}
use Rattle.qs_tree.specs.declared.statement.Stmt.{Stmt}
use Rattle.qs_tree.specs.declared.statement.StmtKind.{StmtKind}
use Rattle.qs_tree.specs.declared.statement.Body.{Body}
use Rattle.qs_tree.specs.declared.statement.Range.{Range}
use Rattle.qs_tree.specs.Spelling.{Piece, Sign, Word, Qubit, Spells, at_place, if_there, in_round, in_square, name, piece, sign, spell, spell_operand, spell_place, spell_type, with_commas, word_of_type, after_commas as spell_after_commas}
use Rattle.qs_tree.specs.WellFormed.{all, if_in_brackets, is_some, of_expr, of_operand, of_place, of_type}
use Rattle.qs_tree.proofs.Spelled.{spell-Named, spell-PhysicalQubit, spell-Place, spell-TypeExpr}
use Rattle.qs_parser.specs.steps.Tokens.{◌>>=◌, Readers, begins_sign, renewed}
use Rattle.qs_parser.specs.steps.Expressions.{expr_at, type_word, whole_at}
use Rattle.qs_parser.specs.steps.Statements.{acted_at, bracket_at, count_at, operand_at, operands_at, place_at, stopped, type_at}
use Rattle.qs_parser.proofs.Featured.{features-Named, features-PhysicalQubit, features-Place}
use Rattle.qs_parser.proofs.TokenPieces.{begins_sign_at, name_at_name, spells_split}
use Rattle.qs_parser.proofs.Spent.{Spent}
use Rattle.qs_parser.proofs.Complete.{ClosesExpr, Fits, IsCompleteBelow}
use Rattle.qs_parser.proofs.CompleteExprParts.{after_last, close_round, close_square, complete-commas, complete-enclosed, fits_as, fits_nothing, fits_where, most_is}
use Rattle.qs_parser.proofs.CompleteExprCases.{spells_as}
use Rattle.qs_parser.proofs.CompleteExprPrimary.{complete-type_of}

-- ---- one part after the other

-- tokens that two parts spell, before others
pub record Next (ps qs : List Piece) (front rest : List Token) : Type 0 where
  pub first : List Token
  pub last : List Token
  pub is : front ++ rest ≡ first ++ (last ++ rest)
  pub spells_first : Spells ps first
  pub spells_last : Spells qs last

pub next : (ps qs : List Piece) (front rest : List Token) → Spells (ps ++ qs) front → Next ps qs front rest
next ps qs front rest s =
    let two = spells_split ps qs front s in
    record { first = two.front; last = two.after; is = ap (λ (us : List Token). us ++ rest) two.is ∙ append_assoc two.front two.after rest; spells_first = two.spells_front; spells_last = two.spells_after }

-- three parts, grouped the other way
pub regroup : (ps qs rs : List Piece) (front : List Token) → Spells ((ps ++ qs) ++ rs) front → Spells (ps ++ (qs ++ rs)) front
regroup ps qs rs front s = spells_as front (append_assoc ps qs rs) s

pub complete-stopped : {A : Type 0} (x : A) (left : ℕ) (front rest : List Token) → Spells (sign (codes ";")) front → stopped x left (front ++ rest) ≡ Some (x, left, rest)
unfolding stopped
complete-stopped x left front rest s = rw (stopped, after_last (codes ";") front rest s) refl

-- ---- expressions

-- an expression at a depth
abbrev pub ReadsExpr : ℕ → Option Readers → Type 0
ReadsExpr d below = (e : Expr) (left after : ℕ) (front rest : List Token) → (of_expr e).follows ≡ true → (of_expr e).depth ≤ d → left ≡ after + (of_expr e).operators → Spells (spell e) front → ClosesExpr rest → expr_at below left (front ++ rest) ≡ Some (e, after, rest)

pub complete-whole_at : (below : Option Readers) (d : ℕ) → ReadsExpr d below → (e : Expr) (renew left after : ℕ) (front rest : List Token) → Fits (of_expr e) d renew left after → Spells (spell e) front → ClosesExpr rest → whole_at below renew left (front ++ rest) ≡ Some (e, after, rest)
unfolding whole_at
complete-whole_at below d h e renew left after front rest f s c = from f.spent
  where
    with_most : (fewer : ℕ) → left ≡ fewer + (of_expr e).operators → max fewer renew ≡ after → renewed renew (expr_at below left (front ++ rest)) ≡ Some (e, after, rest)
    with_most fewer p q = rw (h e left fewer front rest f.follows f.depth p s c, q) refl

    from : Spent renew left after (of_expr e).operators (of_expr e).most_operators → renewed renew (expr_at below left (front ++ rest)) ≡ Some (e, after, rest)
    from (inl p) = with_most after p.1 (omega (arith, p.0))
    from (inr p) =
        let m : (of_expr e).operators ≤ renew = omega (arith, most_is e, p.2) in
        with_most (renew - (of_expr e).operators) (omega (arith, p.0, m)) (omega (arith, p.1))

-- ---- brackets that may be left out

-- no index stands at the front, and no count
abbrev pub NoIndex : List Token → Type 0
NoIndex rest = begins_sign (codes "[") rest ≡ false

abbrev pub NoCount : List Token → Type 0
NoCount rest = begins_sign (codes "(") rest ≡ false

pub complete-bracket_at : (index : Option Expr) (below : Option Readers) (d renew left after : ℕ) (front rest : List Token) → IsCompleteBelow d below → Fits (if_in_brackets (option_map of_expr index)) d renew left after → Spells (if_there in_square (option_map spell index)) front → NoIndex rest → bracket_at below renew left (front ++ rest) ≡ Some (index, after, rest)
unfolding bracket_at
complete-bracket_at None below d renew left after [] rest h f s c = rw (bracket_at, c, fits_nothing f) refl
complete-bracket_at None below d renew left after (t ∷ ts) rest h f s c = absurd s
complete-bracket_at (Some e) below d renew left after front rest h f s c =
    let begins : begins_sign (codes "[") (front ++ rest) ≡ true = begins_sign_at (codes "[") (record { shows = Sign (codes "["); places = [] }) (spell e ++ sign (codes "]")) front rest s in
    rw (bracket_at, begins, complete-enclosed (codes "[") (codes "]") close_square e below d renew left after front rest h f s) refl

pub complete-count_at : (count : Option Expr) (below : Option Readers) (d renew left after : ℕ) (front rest : List Token) → IsCompleteBelow d below → Fits (if_in_brackets (option_map of_expr count)) d renew left after → Spells (if_there in_round (option_map spell count)) front → NoCount rest → count_at below renew left (front ++ rest) ≡ Some (count, after, rest)
unfolding count_at
complete-count_at None below d renew left after [] rest h f s c = rw (count_at, c, fits_nothing f) refl
complete-count_at None below d renew left after (t ∷ ts) rest h f s c = absurd s
complete-count_at (Some e) below d renew left after front rest h f s c =
    let begins : begins_sign (codes "(") (front ++ rest) ≡ true = begins_sign_at (codes "(") (record { shows = Sign (codes "("); places = [] }) (spell e ++ sign (codes ")")) front rest s in
    rw (count_at, begins, complete-enclosed (codes "(") (codes ")") close_round e below d renew left after front rest h f s) refl

-- ---- types

word_of_its_type : (w : TypeWord) → type_word (word_of_type w) ≡ Some w
word_of_its_type Bit = refl
word_of_its_type Int = refl
word_of_its_type Uint = refl
word_of_its_type Angle = refl
word_of_its_type BoolWord = refl
word_of_its_type Duration = refl

type_not_nothing : (type : TypeExpr) → Spells (spell_type type) [] → ⊥
type_not_nothing type h = from (out-TypeExpr type) (spells_as [] (ap spell_type (sym (roll-out-TypeExpr type))) h)
  where
    from : (l : TypeExpr-F ExprKind Modifier Operand Value Item Param Body Range StmtKind Expr TypeExpr Called Place Stmt) → Spells (spell_type (roll-TypeExpr l)) [] → ⊥
    from l g = spells_as [] (spell-TypeExpr l.span l.word l.width) g

pub complete-type_at : (type : TypeExpr) (below : Option Readers) (d renew left after : ℕ) (front rest : List Token) → IsCompleteBelow d below → Fits (of_type type) d renew left after → Spells (spell_type type) front → NoIndex rest → type_at below renew left (front ++ rest) ≡ Some (type, after, rest)
unfolding type_at
complete-type_at type below d renew left after [] rest h f s c = absurd (type_not_nothing type s)
complete-type_at type below d renew left after (t ∷ ts) rest h f s c =
    let r = complete-type_of type below d renew left after t ts rest h f s c in
    rw (type_at, r.is_word, r.text, word_of_its_type r.word, r.read) refl

-- ---- places

place_layer_read : (n : Ident) (index : Option Expr) (below : Option Readers) (d renew left after : ℕ) (front rest : List Token) → IsCompleteBelow d below → Fits (of_place (roll-Place (record { name = n; index = index }))) d renew left after → Spells (spell_place (roll-Place (record { name = n; index = index }))) front → NoIndex rest → place_at below renew left (front ++ rest) ≡ Some (roll-Place (record { name = n; index = index }), after, rest)
unfolding place_at
place_layer_read n index below d renew left after front rest h f s c =
    let g = fits_where (is_name n.name) (fits_as (features-Place n index) f) in
    let one = name_at_name n (if_there in_square (option_map spell index)) front rest g.0 (spells_as front (spell-Place n index) s) in
    rw (place_at, one.is, complete-bracket_at index below d renew left after one.front rest h g.1 one.spells c) refl

pub complete-place_at : (p : Place) (below : Option Readers) (d renew left after : ℕ) (front rest : List Token) → IsCompleteBelow d below → Fits (of_place p) d renew left after → Spells (spell_place p) front → NoIndex rest → place_at below renew left (front ++ rest) ≡ Some (p, after, rest)
complete-place_at p below d renew left after front rest h f s c = subst (λ (x : Place). place_at below renew left (front ++ rest) ≡ Some (x, after, rest)) same (from (out-Place p) (fits_as (ap of_place (sym same)) f) (spells_as front (ap spell_place (sym same)) s))
  where
    same : roll-Place (out-Place p) ≡ p
    same = roll-out-Place p

    from : (l : Place-F ExprKind Modifier Operand Value Item Param Body Range StmtKind Expr TypeExpr Called Place Stmt) → Fits (of_place (roll-Place l)) d renew left after → Spells (spell_place (roll-Place l)) front → place_at below renew left (front ++ rest) ≡ Some (roll-Place l, after, rest)
    from l f2 s2 = place_layer_read l.name l.index below d renew left after front rest h f2 s2 c

-- the name at which a place begins
pub record PlaceStarts (p : Place) : Type 0 where
  pub n : Ident
  pub more : List Piece
  pub is : spell_place p ≡ name n ++ more
  pub index : Option Expr
  pub features : of_place p ≡ of_place (roll-Place (record { name = n; index = index }))
  pub more_is : more ≡ if_there in_square (option_map spell index)

pub place_starts : (p : Place) → PlaceStarts p
place_starts p = subst PlaceStarts (roll-out-Place p) (from (out-Place p))
  where
    from : (l : Place-F ExprKind Modifier Operand Value Item Param Body Range StmtKind Expr TypeExpr Called Place Stmt) → PlaceStarts (roll-Place l)
    from l = record { n = l.name; more = if_there in_square (option_map spell l.index); is = spell-Place l.name l.index; index = l.index; features = refl; more_is = refl }

-- ---- operands

pub data OperandCase : Operand → Type 0 where
  is_named : (p : Place) → OperandCase (Named p)
  is_physical : (span : Span) → (number : ℕ) → OperandCase (PhysicalQubit span number)

operand_layer : (l : layer.Operand-F ExprKind Modifier Operand Value Item Param Body Range StmtKind Expr TypeExpr Called Place Stmt) → OperandCase (roll-Operand l)
operand_layer (layer.Named p) = subst OperandCase (sym (rolls-Named p)) (is_named p)
operand_layer (layer.PhysicalQubit span number) = subst OperandCase (sym (rolls-PhysicalQubit span number)) (is_physical span number)

pub operand_case : (o : Operand) → OperandCase o
operand_case o = subst OperandCase (roll-out-Operand o) (operand_layer (out-Operand o))

operand_of_word : (below : Option Readers) (renew left : ℕ) (t : Token) (ts : List Token) → t.kind ≡ kind.Word → operand_at below renew left (t ∷ ts) ≡ (place_at below renew left (t ∷ ts) >>= λ p. Some (Named p.0, p.1, p.2))
unfolding operand_at
operand_of_word below renew left t ts k = of_kind t.kind k
  where
    of_kind : (k : TokenKind) → k ≡ kind.Word → operand_at below renew left (record { span = t.span; text = t.text; kind = k } ∷ ts) ≡ (place_at below renew left (record { span = t.span; text = t.text; kind = k } ∷ ts) >>= λ p. Some (Named p.0, p.1, p.2))
    of_kind (kind.Physical number) e = absurd cc
    of_kind kind.Word e = refl
    of_kind (kind.Whole value) e = refl
    of_kind (kind.Decimal value) e = refl
    of_kind (kind.Time value unit) e = refl
    of_kind kind.Text e = refl
    of_kind kind.Sign e = refl

word_first : (n : Ident) (ps : List Piece) (below : Option Readers) (renew left : ℕ) (front rest : List Token) → Spells (name n ++ ps) front → operand_at below renew left (front ++ rest) ≡ (place_at below renew left (front ++ rest) >>= λ p. Some (Named p.0, p.1, p.2))
word_first n ps below renew left [] rest s = absurd s
word_first n ps below renew left (t ∷ ts) rest s = operand_of_word below renew left t (ts ++ rest) s.0.0.0

physical_read : (span : Span) (number : ℕ) (below : Option Readers) (renew left : ℕ) (front rest : List Token) → Spells (at_place span (piece (Qubit number))) front → operand_at below renew left (front ++ rest) ≡ Some (PhysicalQubit span number, left, rest)
unfolding operand_at
physical_read span number below renew left [] rest s = absurd s
physical_read span number below renew left (t ∷ []) rest s = let k : t.kind ≡ kind.Physical number = s.0.0 in let p : t.span ≡ span = s.0.1.0 in rw (operand_at, k, p) refl
physical_read span number below renew left (t ∷ u ∷ us) rest s = absurd s.1

operand_read : (o : Operand) → OperandCase o → (below : Option Readers) (d renew left after : ℕ) (front rest : List Token) → IsCompleteBelow d below → Fits (of_operand o) d renew left after → Spells (spell_operand o) front → NoIndex rest → operand_at below renew left (front ++ rest) ≡ Some (o, after, rest)
operand_read _ (is_named p) below d renew left after front rest h f s c =
    let b = place_starts p in
    let s2 = spells_as front (spell-Named p) s in
    word_first b.n b.more below renew left front rest (spells_as front b.is s2) ∙ rw (complete-place_at p below d renew left after front rest h (fits_as (features-Named p) f) s2 c) refl
operand_read _ (is_physical span number) below d renew left after front rest h f s c =
    physical_read span number below renew left front rest (spells_as front (spell-PhysicalQubit span number) s) ∙ ap (λ (x : ℕ). Some (PhysicalQubit span number, x, rest)) (fits_nothing (fits_as (features-PhysicalQubit span number) f))

pub complete-operand_at : (o : Operand) (below : Option Readers) (d renew left after : ℕ) (front rest : List Token) → IsCompleteBelow d below → Fits (of_operand o) d renew left after → Spells (spell_operand o) front → NoIndex rest → operand_at below renew left (front ++ rest) ≡ Some (o, after, rest)
complete-operand_at o below d renew left after front rest h f s c = operand_read o (operand_case o) below d renew left after front rest h f s c

-- no operand begins with a sign
no_sign_of : (o : Operand) → OperandCase o → (text : List ℕ) (ps : List Piece) (front rest : List Token) → Spells (spell_operand o ++ ps) front → begins_sign text (front ++ rest) ≡ false
no_sign_of _ (is_named p) text ps front rest s =
    let b = place_starts p in
    begins_sign_at text (record { shows = Word b.n.name; places = b.n.span ∷ [] }) (b.more ++ ps) front rest (spells_as front (ap (λ (x : List Piece). x ++ ps) (spell-Named p ∙ b.is)) s)
no_sign_of _ (is_physical span number) text ps front rest s =
    begins_sign_at text (record { shows = Qubit number; places = span ∷ [] }) ps front rest (spells_as front (ap (λ (x : List Piece). x ++ ps) (spell-PhysicalQubit span number)) s)

pub operand_no_sign : (o : Operand) (text : List ℕ) (ps : List Piece) (front rest : List Token) → Spells (spell_operand o ++ ps) front → begins_sign text (front ++ rest) ≡ false
operand_no_sign o text ps front rest s = no_sign_of o (operand_case o) text ps front rest s

pub complete-operands_at : (os : List Operand) (below : Option Readers) (d renew left after : ℕ) (front rest : List Token) → IsCompleteBelow d below → is_some (map of_operand os) ≡ true → Fits (all (map of_operand os)) d renew left after → Spells (with_commas (map spell_operand os)) front → NoIndex rest → begins_sign (codes ",") rest ≡ false → operands_at below renew left (front ++ rest) ≡ Some (os, after, rest)
unfolding operands_at
complete-operands_at os below d renew left after front rest h i f s c k =
    complete-commas spell_operand of_operand NoIndex d renew (operand_at below renew) (λ o l a fr re g t e. complete-operand_at o below d renew l a fr re h g t e) (λ ps fr re t. begins_sign_at (codes "[") (record { shows = Sign (codes ","); places = [] }) ps fr re t) os left after front rest i f s c k

-- before a semicolon
pub complete-acted_at : (os : List Operand) (below : Option Readers) (d renew left after : ℕ) (front last rest : List Token) → IsCompleteBelow d below → Fits (all (map of_operand os)) d renew left after → Spells (with_commas (map spell_operand os)) front → Spells (sign (codes ";")) last → acted_at below renew left (front ++ (last ++ rest)) ≡ Some (os, after, last ++ rest)
unfolding acted_at
complete-acted_at [] below d renew left after [] last rest h f s e =
    let begins : begins_sign (codes ";") (last ++ rest) ≡ true = begins_sign_at (codes ";") (record { shows = Sign (codes ";"); places = [] }) [] last rest e in
    rw (acted_at, begins, fits_nothing f) refl
complete-acted_at [] below d renew left after (t ∷ ts) last rest h f s e = absurd s
complete-acted_at (o ∷ os) below d renew left after front last rest h f s e =
    let other : begins_sign (codes ";") (front ++ (last ++ rest)) ≡ false = operand_no_sign o (codes ";") (spell_after_commas (map spell_operand os)) front (last ++ rest) s in
    let semicolon : Piece = record { shows = Sign (codes ";"); places = [] } in
    rw (acted_at, other) (complete-operands_at (o ∷ os) below d renew left after front (last ++ rest) h refl f s (begins_sign_at (codes "[") semicolon [] last rest e) (begins_sign_at (codes ",") semicolon [] last rest e))
