-- What a statement is is read where it is spelled, whatever it is, but for what stands at the top alone.
use Rattle.std.proofs.Common.{◌≡◌, ℕ, Bool, true, false, List, Option, refl, ap, ◌∙◌}
use Rattle.qs_lexer.specs.declared.token.Token.{Token}
use Rattle.qs_tree.specs.declared.statement.StmtKind.{StmtKind}
use Rattle.qs_tree.specs.Spelling.{Spells, spell_stmt_kind}
use Rattle.qs_tree.specs.WellFormed.{Features, may_nest, of_stmt_kind}
use Rattle.qs_parser.specs.steps.Tokens.{Readers}
use Rattle.qs_parser.proofs.Featured.{features-Cal, features-Defcal, features-DefcalGrammar, features-Gate, features-Include, features-Input, features-Output, features-Qubit}
use Rattle.qs_parser.proofs.Complete.{ClosesStmt, Fits, IsCompleteBelow}
use Rattle.qs_parser.proofs.CompleteStmtAssign.{read-assign, read-declare, read-gate_call, read-init, read-update}
use Rattle.qs_parser.proofs.CompleteStmtCases.{StmtCase, is_assign, is_barrier, is_box, is_break, is_cal, is_continue, is_declare, is_defcal, is_defcalgrammar, is_delay, is_end, is_for, is_gate, is_gate_call, is_if, is_include, is_init, is_input, is_measure, is_output, is_qubit, is_reset, is_stretch, is_update, is_while}
use Rattle.qs_parser.proofs.CompleteStmtSimple.{StmtRead, read-barrier, read-break, read-continue, read-delay, read-end, read-measure, read-reset, read-stretch}
use Rattle.qs_parser.proofs.CompleteNested.{read-box, read-while, read-for}
use Rattle.qs_parser.proofs.CompleteIf.{read-if}

-- what stands at the top alone may not nest
at_top_alone : (f g : Features) → f ≡ g → may_nest g.standing ≡ false → may_nest f.standing ≡ true → ⊥
at_top_alone f g e top nests = clash (may_nest f.standing) (ap (λ (x : Features). may_nest x.standing) e ∙ top) nests
  where
    clash : (b : Bool) → b ≡ false → b ≡ true → ⊥
    clash true p q = absurd cc
    clash false p q = absurd cc

pub read-stmt_kind : (k : StmtKind) → StmtCase k → (below : Option Readers) (d renew left after : ℕ) (front rest : List Token) → IsCompleteBelow d below → Fits (of_stmt_kind k) d renew left after → may_nest (of_stmt_kind k).standing ≡ true → Spells (spell_stmt_kind k) front → ClosesStmt (of_stmt_kind k) rest → StmtRead k below renew left after front rest
read-stmt_kind _ (is_include text) below d renew left after front rest h f n s c = absurd (at_top_alone _ _ (features-Include text) refl n)
read-stmt_kind _ (is_defcalgrammar text) below d renew left after front rest h f n s c = absurd (at_top_alone _ _ (features-DefcalGrammar text) refl n)
read-stmt_kind _ (is_qubit size name) below d renew left after front rest h f n s c = absurd (at_top_alone _ _ (features-Qubit size name) refl n)
read-stmt_kind _ (is_input type name) below d renew left after front rest h f n s c = absurd (at_top_alone _ _ (features-Input type name) refl n)
read-stmt_kind _ (is_output type name) below d renew left after front rest h f n s c = absurd (at_top_alone _ _ (features-Output type name) refl n)
read-stmt_kind _ (is_gate name params qubits calls) below d renew left after front rest h f n s c = absurd (at_top_alone _ _ (features-Gate name params qubits calls) refl n)
read-stmt_kind _ (is_cal items) below d renew left after front rest h f n s c = absurd (at_top_alone _ _ (features-Cal items) refl n)
read-stmt_kind _ (is_defcal name params operands gives items) below d renew left after front rest h f n s c = absurd (at_top_alone _ _ (features-Defcal name params operands gives items) refl n)
read-stmt_kind _ (is_init is_const type name value) below d renew left after front rest h f n s c = read-init is_const type name value below d renew left after front rest h f s
read-stmt_kind _ (is_declare type name) below d renew left after front rest h f n s c = read-declare type name below d renew left after front rest h f s
read-stmt_kind _ (is_stretch name) below d renew left after front rest h f n s c = read-stretch name below d renew left after front rest f s
read-stmt_kind _ (is_gate_call call) below d renew left after front rest h f n s c = read-gate_call call below d renew left after front rest h f s
read-stmt_kind _ (is_assign place value) below d renew left after front rest h f n s c = read-assign place value below d renew left after front rest h f s
read-stmt_kind _ (is_update place op value) below d renew left after front rest h f n s c = read-update place op value below d renew left after front rest h f s
read-stmt_kind _ (is_measure operand to) below d renew left after front rest h f n s c = read-measure operand to below d renew left after front rest h f s
read-stmt_kind _ (is_reset operand) below d renew left after front rest h f n s c = read-reset operand below d renew left after front rest h f s
read-stmt_kind _ (is_barrier operands) below d renew left after front rest h f n s c = read-barrier operands below d renew left after front rest h f s
read-stmt_kind _ (is_delay time operands) below d renew left after front rest h f n s c = read-delay time operands below d renew left after front rest h f s
read-stmt_kind _ (is_box time statements) below d renew left after front rest h f n s c = read-box time statements below d renew left after front rest h f s
read-stmt_kind _ (is_if test body other) below d renew left after front rest h f n s c = read-if test body other below d renew left after front rest h f s c
read-stmt_kind _ (is_while test body) below d renew left after front rest h f n s c = read-while test body below d renew left after front rest h f s c
read-stmt_kind _ (is_for type name range body) below d renew left after front rest h f n s c = read-for type name range body below d renew left after front rest h f s c
read-stmt_kind _ is_break below d renew left after front rest h f n s c = read-break below d renew left after front rest f s
read-stmt_kind _ is_continue below d renew left after front rest h f n s c = read-continue below d renew left after front rest f s
read-stmt_kind _ is_end below d renew left after front rest h f n s c = read-end below d renew left after front rest f s
