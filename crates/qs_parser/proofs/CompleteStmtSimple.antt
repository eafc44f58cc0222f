-- Statements without a body are read where they are spelled: those that begin with a word of their own.
use Rattle.std.proofs.Common.{◌≡◌, ℕ, true, false, codes, List, [], ◌∷◌, ◌++◌, map, option_map, Option, Some, None, refl, ap, ◌∙◌}
use Rattle.qs_values.specs.Names.{is_name}
use Rattle.qs_lexer.specs.declared.token.Token.{Token}
use Rattle.qs_lexer.specs.declared.token.TokenKind.TheVariants as kind
use Rattle.qs_tree.specs.declared.expr.Expr.{Expr}
use Rattle.qs_tree.specs.declared.name.Ident.{Ident}
use Rattle.qs_tree.specs.declared.operand.Place.{Place}
use Rattle.qs_tree.specs.declared.operand.Operand.{Operand}
use Rattle.qs_tree.specs.declared.statement.StmtKind.{StmtKind}
use Rattle.qs_tree.specs.declared.statement.StmtKind.TheVariants.{Stretch, Measure, Reset, Barrier, Delay, Break, Continue, End}
use Rattle.qs_tree.specs.Spelling.{Piece, Sign, Spells, if_there, in_square, name, sign, spell, spell_operand, spell_place, spell_stmt_kind, with_commas, word}
use Rattle.qs_tree.specs.WellFormed.{all, both, if_there as if_there_features, in_brackets, is_some, of_expr, of_operand, of_place, of_stmt_kind}
use Rattle.qs_tree.proofs.Spelled.{spell-Barrier, spell-Break, spell-Continue, spell-Delay, spell-End, spell-Measure, spell-Reset, spell-Stretch}
use Rattle.qs_parser.specs.steps.Tokens.{Readers, after_sign, begins_sign}
use Rattle.qs_parser.specs.steps.Statements.{barrier_at, delay_at, measure_at, operands_at, reset_at, stmt_of, stretch_at, to_at}
use Rattle.qs_parser.proofs.Featured.{features-Barrier, features-Break, features-Continue, features-Delay, features-End, features-Measure, features-Reset, features-Stretch}
use Rattle.qs_parser.proofs.TokenPieces.{after_sign_at, begins_sign_at, name_at_name, no_sign_after}
use Rattle.qs_parser.proofs.Complete.{ClosesExpr, Fits, IsCompleteBelow}
use Rattle.qs_parser.proofs.CompleteExprParts.{close_semicolon, close_square, closes_at, complete-enclosed, fits_as, fits_both, fits_nothing, fits_where}
use Rattle.qs_parser.proofs.CompleteExprCases.{spells_as}
use Rattle.qs_parser.proofs.CompleteStmtParts.{NoIndex, complete-acted_at, complete-operand_at, complete-operands_at, complete-place_at, complete-stopped, next, regroup}

-- ---- what a statement is, by its first token

pub record StmtRead (k : StmtKind) (below : Option Readers) (renew left after : ℕ) (front rest : List Token) : Type 0 where
  pub t : Token
  pub ts : List Token
  pub is : front ≡ t ∷ ts
  pub is_word : t.kind ≡ kind.Word
  pub read : stmt_of below renew left t.text (ts ++ rest) (t ∷ (ts ++ rest)) ≡ Some (k, after, rest)

-- a statement with a word of its own
pub by_word : (text : List ℕ) (ps : List Piece) (k : StmtKind) (below : Option Readers) (renew left after : ℕ) (front rest : List Token) → Spells (word text ++ ps) front → ((last all : List Token) → Spells ps last → stmt_of below renew left text (last ++ rest) all ≡ Some (k, after, rest)) → StmtRead k below renew left after front rest
by_word text ps k below renew left after [] rest s g = absurd s
by_word text ps k below renew left after (t ∷ ts) rest s g = record {
  t = t;
  ts = ts;
  is = refl;
  is_word = s.0.0.0;
  read = ap (λ (x : List ℕ). stmt_of below renew left x (ts ++ rest) (t ∷ (ts ++ rest))) s.0.0.1 ∙ g ts (t ∷ (ts ++ rest)) s.1;
}

-- what a semicolon closes

pub no_index_before : (front rest : List Token) → Spells (sign (codes ";")) front → NoIndex (front ++ rest)
no_index_before front rest s = begins_sign_at (codes "[") (record { shows = Sign (codes ";"); places = [] }) [] front rest s

pub closes_before : (front rest : List Token) → Spells (sign (codes ";")) front → ClosesExpr (front ++ rest)
closes_before front rest s = closes_at (codes ";") close_semicolon 10 [] front rest s

-- ---- words alone

pub read-break : (below : Option Readers) (d renew left after : ℕ) (front rest : List Token) → Fits (of_stmt_kind Break) d renew left after → Spells (spell_stmt_kind Break) front → StmtRead Break below renew left after front rest
unfolding stmt_of
read-break below d renew left after front rest f s =
    by_word (codes "break") (sign (codes ";")) Break below renew left after front rest (spells_as front spell-Break s) (λ last every t. complete-stopped Break left last rest t ∙ ap (λ (x : ℕ). Some (Break, x, rest)) (fits_nothing (fits_as features-Break f)))

pub read-continue : (below : Option Readers) (d renew left after : ℕ) (front rest : List Token) → Fits (of_stmt_kind Continue) d renew left after → Spells (spell_stmt_kind Continue) front → StmtRead Continue below renew left after front rest
unfolding stmt_of
read-continue below d renew left after front rest f s =
    by_word (codes "continue") (sign (codes ";")) Continue below renew left after front rest (spells_as front spell-Continue s) (λ last every t. complete-stopped Continue left last rest t ∙ ap (λ (x : ℕ). Some (Continue, x, rest)) (fits_nothing (fits_as features-Continue f)))

pub read-end : (below : Option Readers) (d renew left after : ℕ) (front rest : List Token) → Fits (of_stmt_kind End) d renew left after → Spells (spell_stmt_kind End) front → StmtRead End below renew left after front rest
unfolding stmt_of
read-end below d renew left after front rest f s =
    by_word (codes "end") (sign (codes ";")) End below renew left after front rest (spells_as front spell-End s) (λ last every t. complete-stopped End left last rest t ∙ ap (λ (x : ℕ). Some (End, x, rest)) (fits_nothing (fits_as features-End f)))

-- ---- stretches, resets, barriers, delays and measurements

stretch_read : (n : Ident) (left : ℕ) (front rest : List Token) → is_name n.name ≡ true → Spells (name n ++ sign (codes ";")) front → stretch_at left (front ++ rest) ≡ Some (Stretch n, left, rest)
unfolding stretch_at
stretch_read n left front rest v s =
    let one = name_at_name n (sign (codes ";")) front rest v s in
    rw (stretch_at, one.is) (complete-stopped (Stretch n) left one.front rest one.spells)

pub read-stretch : (n : Ident) (below : Option Readers) (d renew left after : ℕ) (front rest : List Token) → Fits (of_stmt_kind (Stretch n)) d renew left after → Spells (spell_stmt_kind (Stretch n)) front → StmtRead (Stretch n) below renew left after front rest
unfolding stmt_of
read-stretch n below d renew left after front rest f s =
    let g = fits_where (is_name n.name) (fits_as (features-Stretch n) f) in
    by_word (codes "stretch") (name n ++ sign (codes ";")) (Stretch n) below renew left after front rest (spells_as front (spell-Stretch n) s) (λ last every t. stretch_read n left last rest g.0 t ∙ ap (λ (x : ℕ). Some (Stretch n, x, rest)) (fits_nothing g.1))

reset_read : (o : Operand) (below : Option Readers) (d renew left after : ℕ) (front rest : List Token) → IsCompleteBelow d below → Fits (of_operand o) d renew left after → Spells (spell_operand o ++ sign (codes ";")) front → reset_at below renew left (front ++ rest) ≡ Some (Reset o, after, rest)
unfolding reset_at
reset_read o below d renew left after front rest h f s =
    let n = next (spell_operand o) (sign (codes ";")) front rest s in
    let r = complete-operand_at o below d renew left after n.first (n.last ++ rest) h f n.spells_first (no_index_before n.last rest n.spells_last) in
    ap (reset_at below renew left) n.is ∙ rw (reset_at, r) (complete-stopped (Reset o) after n.last rest n.spells_last)

pub read-reset : (o : Operand) (below : Option Readers) (d renew left after : ℕ) (front rest : List Token) → IsCompleteBelow d below → Fits (of_stmt_kind (Reset o)) d renew left after → Spells (spell_stmt_kind (Reset o)) front → StmtRead (Reset o) below renew left after front rest
unfolding stmt_of
read-reset o below d renew left after front rest h f s =
    by_word (codes "reset") (spell_operand o ++ sign (codes ";")) (Reset o) below renew left after front rest (spells_as front (spell-Reset o) s) (λ last every t. reset_read o below d renew left after last rest h (fits_as (features-Reset o) f) t)

barrier_read : (os : List Operand) (below : Option Readers) (d renew left after : ℕ) (front rest : List Token) → IsCompleteBelow d below → Fits (all (map of_operand os)) d renew left after → Spells (with_commas (map spell_operand os) ++ sign (codes ";")) front → barrier_at below renew left (front ++ rest) ≡ Some (Barrier os, after, rest)
unfolding barrier_at
barrier_read os below d renew left after front rest h f s =
    let n = next (with_commas (map spell_operand os)) (sign (codes ";")) front rest s in
    let r = complete-acted_at os below d renew left after n.first n.last rest h f n.spells_first n.spells_last in
    ap (barrier_at below renew left) n.is ∙ rw (barrier_at, r) (complete-stopped (Barrier os) after n.last rest n.spells_last)

pub read-barrier : (os : List Operand) (below : Option Readers) (d renew left after : ℕ) (front rest : List Token) → IsCompleteBelow d below → Fits (of_stmt_kind (Barrier os)) d renew left after → Spells (spell_stmt_kind (Barrier os)) front → StmtRead (Barrier os) below renew left after front rest
unfolding stmt_of
read-barrier os below d renew left after front rest h f s =
    by_word (codes "barrier") (with_commas (map spell_operand os) ++ sign (codes ";")) (Barrier os) below renew left after front rest (spells_as front (spell-Barrier os) s) (λ last every t. barrier_read os below d renew left after last rest h (fits_as (features-Barrier os) f) t)

delay_read : (time : Expr) (os : List Operand) (below : Option Readers) (d renew left after : ℕ) (front rest : List Token) → IsCompleteBelow d below → is_some (map of_operand os) ≡ true → Fits (both (in_brackets (of_expr time)) (all (map of_operand os))) d renew left after → Spells (in_square (spell time) ++ with_commas (map spell_operand os) ++ sign (codes ";")) front → delay_at below renew left (front ++ rest) ≡ Some (Delay time os, after, rest)
unfolding delay_at
delay_read time os below d renew left after front rest h i f s =
    let fs = fits_both (in_brackets (of_expr time)) (all (map of_operand os)) d renew left after f in
    let n1 = next (in_square (spell time)) (with_commas (map spell_operand os) ++ sign (codes ";")) front rest (regroup (in_square (spell time)) (with_commas (map spell_operand os)) (sign (codes ";")) front s) in
    let n2 = next (with_commas (map spell_operand os)) (sign (codes ";")) n1.last rest n1.spells_last in
    let r1 = complete-enclosed (codes "[") (codes "]") close_square time below d renew left fs.between n1.first (n1.last ++ rest) h fs.first n1.spells_first in
    let comma : begins_sign (codes ",") (n2.last ++ rest) ≡ false = begins_sign_at (codes ",") (record { shows = Sign (codes ";"); places = [] }) [] n2.last rest n2.spells_last in
    let r2 = ap (operands_at below renew fs.between) n2.is ∙ complete-operands_at os below d renew fs.between after n2.first (n2.last ++ rest) h i fs.second n2.spells_first (no_index_before n2.last rest n2.spells_last) comma in
    ap (delay_at below renew left) n1.is ∙ rw (delay_at, r1, r2) (complete-stopped (Delay time os) after n2.last rest n2.spells_last)

pub read-delay : (time : Expr) (os : List Operand) (below : Option Readers) (d renew left after : ℕ) (front rest : List Token) → IsCompleteBelow d below → Fits (of_stmt_kind (Delay time os)) d renew left after → Spells (spell_stmt_kind (Delay time os)) front → StmtRead (Delay time os) below renew left after front rest
unfolding stmt_of
read-delay time os below d renew left after front rest h f s =
    let g = fits_where (is_some (map of_operand os)) (fits_as (features-Delay time os) f) in
    by_word (codes "delay") (in_square (spell time) ++ with_commas (map spell_operand os) ++ sign (codes ";")) (Delay time os) below renew left after front rest (spells_as front (spell-Delay time os) s) (λ last every t. delay_read time os below d renew left after last rest h g.0 g.1 t)

-- where the outcome of a measurement goes, before a semicolon
to_read : (to : Option Place) (below : Option Readers) (d renew left after : ℕ) (front last rest : List Token) → IsCompleteBelow d below → Fits (if_there_features (option_map of_place to)) d renew left after → Spells (if_there (λ p. sign (codes "->") ++ p) (option_map spell_place to)) front → Spells (sign (codes ";")) last → to_at below renew left (front ++ (last ++ rest)) ≡ Some (to, after, last ++ rest)
unfolding to_at
to_read None below d renew left after [] last rest h f s e =
    let other : after_sign (codes "->") (last ++ rest) ≡ None = no_sign_after (codes "->") (last ++ rest) (begins_sign_at (codes "->") (record { shows = Sign (codes ";"); places = [] }) [] last rest e) in
    rw (to_at, other, fits_nothing f) refl
to_read None below d renew left after (t ∷ ts) last rest h f s e = absurd s
to_read (Some p) below d renew left after front last rest h f s e =
    let one = after_sign_at (codes "->") (spell_place p) front (last ++ rest) s in
    rw (to_at, one.is, complete-place_at p below d renew left after one.front (last ++ rest) h f one.spells (no_index_before last rest e)) refl

-- what follows the operand of a measurement is no index
to_no_index : (to : Option Place) (front last rest : List Token) → Spells (if_there (λ p. sign (codes "->") ++ p) (option_map spell_place to)) front → Spells (sign (codes ";")) last → NoIndex (front ++ (last ++ rest))
to_no_index None [] last rest s e = no_index_before last rest e
to_no_index None (t ∷ ts) last rest s e = absurd s
to_no_index (Some p) front last rest s e = begins_sign_at (codes "[") (record { shows = Sign (codes "->"); places = [] }) (spell_place p) front (last ++ rest) s

measure_read : (o : Operand) (to : Option Place) (below : Option Readers) (d renew left after : ℕ) (front rest : List Token) → IsCompleteBelow d below → Fits (both (of_operand o) (if_there_features (option_map of_place to))) d renew left after → Spells (spell_operand o ++ if_there (λ p. sign (codes "->") ++ p) (option_map spell_place to) ++ sign (codes ";")) front → measure_at below renew left (front ++ rest) ≡ Some (Measure o to, after, rest)
unfolding measure_at
measure_read o to below d renew left after front rest h f s =
    let goes : List Piece = if_there (λ p. sign (codes "->") ++ p) (option_map spell_place to) in
    let fs = fits_both (of_operand o) (if_there_features (option_map of_place to)) d renew left after f in
    let n1 = next (spell_operand o) (goes ++ sign (codes ";")) front rest (regroup (spell_operand o) goes (sign (codes ";")) front s) in
    let n2 = next goes (sign (codes ";")) n1.last rest n1.spells_last in
    let bare : NoIndex (n1.last ++ rest) = ap (begins_sign (codes "[")) n2.is ∙ to_no_index to n2.first n2.last rest n2.spells_first n2.spells_last in
    let r1 = complete-operand_at o below d renew left fs.between n1.first (n1.last ++ rest) h fs.first n1.spells_first bare in
    let r2 = ap (to_at below renew fs.between) n2.is ∙ to_read to below d renew fs.between after n2.first n2.last rest h fs.second n2.spells_first n2.spells_last in
    ap (measure_at below renew left) n1.is ∙ rw (measure_at, r1, r2) (complete-stopped (Measure o to) after n2.last rest n2.spells_last)

pub read-measure : (o : Operand) (to : Option Place) (below : Option Readers) (d renew left after : ℕ) (front rest : List Token) → IsCompleteBelow d below → Fits (of_stmt_kind (Measure o to)) d renew left after → Spells (spell_stmt_kind (Measure o to)) front → StmtRead (Measure o to) below renew left after front rest
unfolding stmt_of
read-measure o to below d renew left after front rest h f s =
    by_word (codes "measure") (spell_operand o ++ if_there (λ p. sign (codes "->") ++ p) (option_map spell_place to) ++ sign (codes ";")) (Measure o to) below renew left after front rest (spells_as front (spell-Measure o to) s) (λ last every t. measure_read o to below d renew left after last rest h (fits_as (features-Measure o to) f) t)
