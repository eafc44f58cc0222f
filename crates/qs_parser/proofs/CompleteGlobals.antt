-- Includes, qubits, inputs and outputs are read where they are spelled, and a gate's names.
use Rattle.std.proofs.Common.{◌≡◌, ℕ, zero, suc, true, false, codes, List, [], ◌∷◌, ◌++◌, map, option_map, Option, Some, None, refl, ap, ◌∙◌, arith, inl, inr}
use Rattle.std.proofs.lemmas.Bool.{and_from, and_parts}
use Rattle.qs_values.specs.Names.{is_name}
use Rattle.qs_lexer.specs.declared.token.Token.{Token}
use Rattle.qs_lexer.specs.declared.token.TokenKind.TheVariants as kind
use Rattle.qs_tree.specs.declared.expr.Expr.{Expr}
use Rattle.qs_tree.specs.declared.expr.TypeExpr.{TypeExpr}
use Rattle.qs_tree.specs.declared.name.Ident.{Ident}
use Rattle.qs_tree.specs.declared.statement.StmtKind.{StmtKind}
use Rattle.qs_tree.specs.declared.statement.StmtKind.TheVariants.{Include, DefcalGrammar, Qubit, Input, Output}
use Rattle.qs_tree.specs.Spelling.{Piece, Quoted, Sign, Word, Spells, if_there, in_round, in_square, name, names, piece, sign, spell, spell_stmt_kind, spell_type, word}
use Rattle.qs_tree.specs.WellFormed.{Features, all as all_of, are_names, are_params, at_top, brackets_of, if_in_brackets, in_brackets, is_some, nothing, of_expr, of_stmt_kind, of_type, where_true}
use Rattle.qs_tree.proofs.Spelled.{spell-DefcalGrammar, spell-Include, spell-Input, spell-Output, spell-Qubit}
use Rattle.qs_parser.specs.steps.Tokens.{Readers, Reads, after_sign, begins_sign, name_at}
use Rattle.qs_parser.specs.steps.Knot.{below}
use Rattle.qs_parser.specs.steps.Globals.{defcalgrammar_at, gate_params_at, ident_at, include_at, input_at, names_at, names_to, output_at, qubit_at, top_of}
use Rattle.qs_parser.proofs.Featured.{features-DefcalGrammar, features-Include, features-Input, features-Output, features-Qubit}
use Rattle.qs_parser.proofs.TokenPieces.{after_sign_at, begins_sign_at, name_at_name, no_sign_after, nothing_spelled}
use Rattle.qs_parser.proofs.Spent.{Spent}
use Rattle.qs_parser.proofs.Complete.{Fits, IsCompleteBelow}
use Rattle.qs_parser.proofs.CompleteExprParts.{after_last, complete-commas, fits_as, fits_nothing, fits_where}
use Rattle.qs_parser.proofs.CompleteExprCases.{spells_as}
use Rattle.qs_parser.proofs.CompleteStmtParts.{NoCount, complete-bracket_at, complete-stopped, complete-type_at, next, regroup}

-- ---- what a statement at the top is, by its first token

pub record TopRead (k : StmtKind) (d renew left after : ℕ) (front rest : List Token) : Type 0 where
  pub t : Token
  pub ts : List Token
  pub is : front ≡ t ∷ ts
  pub is_word : t.kind ≡ kind.Word
  pub read : top_of d renew left t.text (ts ++ rest) ≡ Some (Some (k, after, rest))

-- a statement with a word of its own
pub by_top : (text : List ℕ) (ps : List Piece) (k : StmtKind) (d renew left after : ℕ) (front rest : List Token) → Spells (word text ++ ps) front → ((last : List Token) → Spells ps last → top_of d renew left text (last ++ rest) ≡ Some (Some (k, after, rest))) → TopRead k d renew left after front rest
by_top text ps k d renew left after [] rest s g = absurd s
by_top text ps k d renew left after (t ∷ ts) rest s g = record {
  t = t;
  ts = ts;
  is = refl;
  is_word = s.0.0.0;
  read = ap (λ (x : List ℕ). top_of d renew left x (ts ++ rest)) s.0.0.1 ∙ g ts s.1;
}

-- what stands at the top alone fits as it does elsewhere
pub fits_top : {f : Features} {d renew left after : ℕ} → Fits (at_top f) d renew left after → Fits f d renew left after
fits_top h = record { follows = h.follows; depth = h.depth; spent = h.spent }

-- a part without operators
pub fits_zero : {f : Features} {d renew left after : ℕ} → Fits f d renew left after → f.operators ≡ 0 → left ≡ after
fits_zero {f = f} {left = left} {after = after} h z = from h.spent
  where
    from : {renew : ℕ} → Spent renew left after f.operators f.most_operators → left ≡ after
    from (inl e) = omega (arith, e.1, z)
    from (inr e) = omega (arith, e.0, e.1)

-- what is read, where no operators are taken off
pub read_left : {A : Type 0} (x : A) (left after : ℕ) (rest : List Token) (read : Reads A) → read ≡ Some (x, left, rest) → left ≡ after → Some read ≡ Some (Some (x, after, rest))
read_left x left after rest read e l = ap (λ (r : Reads _). Some r) (e ∙ ap (λ (n : ℕ). Some (x, n, rest)) l)

-- ---- includes

include_read : (text : List ℕ) (left : ℕ) (front rest : List Token) → Spells (piece (Quoted text) ++ sign (codes ";")) front → include_at left (front ++ rest) ≡ Some (Include text, left, rest)
unfolding include_at
include_read text left [] rest s = absurd s
include_read text left (t ∷ ts) rest s =
    let k : t.kind ≡ kind.Text = s.0.0.0 in
    let e : t.text ≡ text = s.0.0.1 in
    rw (include_at, k, e) (complete-stopped (Include text) left ts rest s.1)

pub read-include : (text : List ℕ) (d renew left after : ℕ) (front rest : List Token) → Fits (of_stmt_kind (Include text)) d renew left after → Spells (spell_stmt_kind (Include text)) front → TopRead (Include text) d renew left after front rest
unfolding top_of
read-include text d renew left after front rest f s =
    by_top (codes "include") (piece (Quoted text) ++ sign (codes ";")) (Include text) d renew left after front rest (spells_as front (spell-Include text) s) (λ last t. read_left (Include text) left after rest (include_at left (last ++ rest)) (include_read text left last rest t) (fits_nothing (fits_top (fits_as (features-Include text) f))))

defcalgrammar_read : (text : List ℕ) (left : ℕ) (front rest : List Token) → Spells (piece (Quoted text) ++ sign (codes ";")) front → defcalgrammar_at left (front ++ rest) ≡ Some (DefcalGrammar text, left, rest)
unfolding defcalgrammar_at
defcalgrammar_read text left [] rest s = absurd s
defcalgrammar_read text left (t ∷ ts) rest s =
    let k : t.kind ≡ kind.Text = s.0.0.0 in
    let e : t.text ≡ text = s.0.0.1 in
    rw (defcalgrammar_at, k, e) (complete-stopped (DefcalGrammar text) left ts rest s.1)

pub read-defcalgrammar : (text : List ℕ) (d renew left after : ℕ) (front rest : List Token) → Fits (of_stmt_kind (DefcalGrammar text)) d renew left after → Spells (spell_stmt_kind (DefcalGrammar text)) front → TopRead (DefcalGrammar text) d renew left after front rest
unfolding top_of
read-defcalgrammar text d renew left after front rest f s =
    by_top (codes "defcalgrammar") (piece (Quoted text) ++ sign (codes ";")) (DefcalGrammar text) d renew left after front rest (spells_as front (spell-DefcalGrammar text) s) (λ last t. read_left (DefcalGrammar text) left after rest (defcalgrammar_at left (last ++ rest)) (defcalgrammar_read text left last rest t) (fits_nothing (fits_top (fits_as (features-DefcalGrammar text) f))))

-- ---- qubits, inputs and outputs

-- a name begins with no sign
pub name_no_sign : (text : List ℕ) (n : Ident) (ps : List Piece) (front rest : List Token) → Spells (name n ++ ps) front → begins_sign text (front ++ rest) ≡ false
name_no_sign text n ps front rest s = begins_sign_at text (record { shows = Word n.name; places = n.span ∷ [] }) ps front rest s

qubit_read : (size : Option Expr) (n : Ident) (b : Option Readers) (d renew left after : ℕ) (front rest : List Token) → IsCompleteBelow d b → Fits (where_true (is_name n.name) (if_in_brackets (option_map of_expr size))) d renew left after → Spells (if_there in_square (option_map spell size) ++ name n ++ sign (codes ";")) front → qubit_at b renew left (front ++ rest) ≡ Some (Qubit size n, after, rest)
unfolding qubit_at
qubit_read size n b d renew left after front rest h f s =
    let g = fits_where (is_name n.name) f in
    let sized : List Piece = if_there in_square (option_map spell size) in
    let n1 = next sized (name n ++ sign (codes ";")) front rest (regroup sized (name n) (sign (codes ";")) front s) in
    let r1 = complete-bracket_at size b d renew left after n1.first (n1.last ++ rest) h g.1 n1.spells_first (name_no_sign (codes "[") n (sign (codes ";")) n1.last rest n1.spells_last) in
    let named = name_at_name n (sign (codes ";")) n1.last rest g.0 n1.spells_last in
    ap (qubit_at b renew left) n1.is ∙ rw (qubit_at, r1, named.is) (complete-stopped (Qubit size n) after named.front rest named.spells)

pub read-qubit : (size : Option Expr) (n : Ident) (d renew left after : ℕ) (front rest : List Token) → IsCompleteBelow d (below d) → Fits (of_stmt_kind (Qubit size n)) d renew left after → Spells (spell_stmt_kind (Qubit size n)) front → TopRead (Qubit size n) d renew left after front rest
unfolding top_of
read-qubit size n d renew left after front rest h f s =
    by_top (codes "qubit") (if_there in_square (option_map spell size) ++ name n ++ sign (codes ";")) (Qubit size n) d renew left after front rest (spells_as front (spell-Qubit size n) s) (λ last t. ap (λ (r : Reads StmtKind). Some r) (qubit_read size n (below d) d renew left after last rest h (fits_top (fits_as (features-Qubit size n) f)) t))

input_read : (type : TypeExpr) (n : Ident) (b : Option Readers) (d renew left after : ℕ) (front rest : List Token) → IsCompleteBelow d b → Fits (where_true (is_name n.name) (of_type type)) d renew left after → Spells (spell_type type ++ name n ++ sign (codes ";")) front → input_at b renew left (front ++ rest) ≡ Some (Input type n, after, rest)
unfolding input_at
input_read type n b d renew left after front rest h f s =
    let g = fits_where (is_name n.name) f in
    let n1 = next (spell_type type) (name n ++ sign (codes ";")) front rest (regroup (spell_type type) (name n) (sign (codes ";")) front s) in
    let r1 = complete-type_at type b d renew left after n1.first (n1.last ++ rest) h g.1 n1.spells_first (name_no_sign (codes "[") n (sign (codes ";")) n1.last rest n1.spells_last) in
    let named = name_at_name n (sign (codes ";")) n1.last rest g.0 n1.spells_last in
    ap (input_at b renew left) n1.is ∙ rw (input_at, r1, named.is) (complete-stopped (Input type n) after named.front rest named.spells)

pub read-input : (type : TypeExpr) (n : Ident) (d renew left after : ℕ) (front rest : List Token) → IsCompleteBelow d (below d) → Fits (of_stmt_kind (Input type n)) d renew left after → Spells (spell_stmt_kind (Input type n)) front → TopRead (Input type n) d renew left after front rest
unfolding top_of
read-input type n d renew left after front rest h f s =
    by_top (codes "input") (spell_type type ++ name n ++ sign (codes ";")) (Input type n) d renew left after front rest (spells_as front (spell-Input type n) s) (λ last t. ap (λ (r : Reads StmtKind). Some r) (input_read type n (below d) d renew left after last rest h (fits_top (fits_as (features-Input type n) f)) t))

output_read : (type : TypeExpr) (n : Ident) (b : Option Readers) (d renew left after : ℕ) (front rest : List Token) → IsCompleteBelow d b → Fits (where_true (is_name n.name) (of_type type)) d renew left after → Spells (spell_type type ++ name n ++ sign (codes ";")) front → output_at b renew left (front ++ rest) ≡ Some (Output type n, after, rest)
unfolding output_at
output_read type n b d renew left after front rest h f s =
    let g = fits_where (is_name n.name) f in
    let n1 = next (spell_type type) (name n ++ sign (codes ";")) front rest (regroup (spell_type type) (name n) (sign (codes ";")) front s) in
    let r1 = complete-type_at type b d renew left after n1.first (n1.last ++ rest) h g.1 n1.spells_first (name_no_sign (codes "[") n (sign (codes ";")) n1.last rest n1.spells_last) in
    let named = name_at_name n (sign (codes ";")) n1.last rest g.0 n1.spells_last in
    ap (output_at b renew left) n1.is ∙ rw (output_at, r1, named.is) (complete-stopped (Output type n) after named.front rest named.spells)

pub read-output : (type : TypeExpr) (n : Ident) (d renew left after : ℕ) (front rest : List Token) → IsCompleteBelow d (below d) → Fits (of_stmt_kind (Output type n)) d renew left after → Spells (spell_stmt_kind (Output type n)) front → TopRead (Output type n) d renew left after front rest
unfolding top_of
read-output type n d renew left after front rest h f s =
    by_top (codes "output") (spell_type type ++ name n ++ sign (codes ";")) (Output type n) d renew left after front rest (spells_as front (spell-Output type n) s) (λ last t. ap (λ (r : Reads StmtKind). Some r) (output_read type n (below d) d renew left after last rest h (fits_top (fits_as (features-Output type n) f)) t))

-- ---- names

-- a name alone
pub name_alone : (n : Ident) (front rest : List Token) → is_name n.name ≡ true → Spells (name n) front → name_at (front ++ rest) ≡ Some (n, rest)
name_alone n front rest v s =
    let named = name_at_name n [] front rest v s in
    named.is ∙ ap (λ (us : List Token). Some (n, us ++ rest)) (nothing_spelled named.front named.spells)

abbrev named_features : Ident → Features
named_features n = where_true (is_name n.name) nothing

names_operators : (ns : List Ident) → (all_of (map named_features ns)).operators ≡ 0
names_operators [] = refl
names_operators (n ∷ ns) = omega (arith, names_operators ns)

names_depth : (ns : List Ident) → (all_of (map named_features ns)).depth ≡ 0
names_depth [] = refl
names_depth (n ∷ ns) = omega (arith, names_depth ns)

names_follow : (ns : List Ident) → are_names ns ≡ true → (all_of (map named_features ns)).follows ≡ true
names_follow [] v = refl
names_follow (n ∷ ns) v =
    let p = and_parts (is_name n.name) (are_names ns) v in
    and_from _ _ (and_from _ _ p.0 refl) (names_follow ns p.1)

names_fit : (ns : List Ident) (left : ℕ) → are_names ns ≡ true → Fits (all_of (map named_features ns)) 0 0 left left
names_fit ns left v = record { follows = names_follow ns v; depth = omega (arith, names_depth ns); spent = inl (refl, omega (arith, names_operators ns)) }

some_names : (ns : List Ident) → is_some ns ≡ true → is_some (map named_features ns) ≡ true
some_names [] e = e
some_names (n ∷ ns) e = refl

ident_read : (n : Ident) (left after : ℕ) (front rest : List Token) → Fits (named_features n) 0 0 left after → Spells (name n) front → ident_at left (front ++ rest) ≡ Some (n, after, rest)
ident_read n left after front rest f s =
    let g = fits_where (is_name n.name) f in
    rw (name_alone n front rest g.0 s) (ap (λ (x : ℕ). Some (n, x, rest)) (fits_nothing g.1))

pub complete-names_at : (ns : List Ident) (left : ℕ) (front rest : List Token) → are_names ns ≡ true → is_some ns ≡ true → Spells (names ns) front → begins_sign (codes ",") rest ≡ false → names_at left (front ++ rest) ≡ Some (ns, left, rest)
unfolding names_at
complete-names_at ns left front rest v i s c =
    complete-commas name named_features (λ us. Unit {0}) 0 0 ident_at (λ n l a fr re g t e. ident_read n l a fr re g t) (λ ps fr re t. tt) ns left left front rest (some_names ns i) (names_fit ns left v) s tt c

-- ---- the parameters of a gate

-- what stands in brackets fits one construct deeper
pub fits_inside : (f : Features) (i renew left after : ℕ) → Fits (in_brackets f) (suc i) renew left after → Fits f i renew left after
fits_inside f i renew left after h = record { follows = h.follows; depth = omega (arith, h.depth); spent = h.spent }

names_to_read : (ns : List Ident) (left : ℕ) (front rest : List Token) → are_names ns ≡ true → Spells (names ns ++ sign (codes ")")) front → names_to (after_sign (codes ")") (front ++ rest)) left (front ++ rest) ≡ Some (Some ns, left, rest)
unfolding names_to
names_to_read [] left front rest v s = rw (after_last (codes ")") front rest s) refl
names_to_read (n ∷ ns) left front rest v s =
    let other : after_sign (codes ")") (front ++ rest) ≡ None = no_sign_after (codes ")") (front ++ rest) (begins_sign_at (codes ")") (record { shows = Word n.name; places = n.span ∷ [] }) _ front rest s) in
    let two = next (names (n ∷ ns)) (sign (codes ")")) front rest s in
    let read : names_at left (front ++ rest) ≡ Some (n ∷ ns, left, two.last ++ rest) = ap (names_at left) two.is ∙ complete-names_at (n ∷ ns) left two.first (two.last ++ rest) v refl two.spells_first (begins_sign_at (codes ",") (record { shows = Sign (codes ")"); places = [] }) [] two.last rest two.spells_last) in
    rw (other, names_to, read, after_last (codes ")") two.last rest two.spells_last) refl

gate_params_some : (ns : List Ident) (i left : ℕ) (front rest : List Token) → are_names ns ≡ true → Spells (in_round (names ns)) front → gate_params_at (suc i) left (front ++ rest) ≡ Some (Some ns, left, rest)
unfolding gate_params_at
gate_params_some ns i left front rest v s =
    let begins : begins_sign (codes "(") (front ++ rest) ≡ true = begins_sign_at (codes "(") (record { shows = Sign (codes "("); places = [] }) (names ns ++ sign (codes ")")) front rest s in
    let one = after_sign_at (codes "(") (names ns ++ sign (codes ")")) front rest s in
    rw (gate_params_at, begins, one.is) (names_to_read ns left one.front rest v one.spells)

pub complete-gate_params_at : (params : Option (List Ident)) (d renew left after : ℕ) (front rest : List Token) → are_params params ≡ true → Fits (brackets_of params) d renew left after → Spells (if_there (λ ps. in_round (names ps)) params) front → NoCount rest → gate_params_at d left (front ++ rest) ≡ Some (params, after, rest)
unfolding gate_params_at
complete-gate_params_at None d renew left after [] rest v f s c = rw (gate_params_at, c, fits_nothing f) refl
complete-gate_params_at None d renew left after (t ∷ ts) rest v f s c = absurd s
complete-gate_params_at (Some ns) zero renew left after front rest v f s c = absurd (omega (arith, f.depth))
complete-gate_params_at (Some ns) (suc i) renew left after front rest v f s c = gate_params_some ns i left front rest v s ∙ ap (λ (x : ℕ). Some (Some ns, x, rest)) (fits_zero f refl)
