-- Statements without a body are read as they are spelled.
use Rattle.std.proofs.Common.{◌≡◌, ℕ, Bool, true, ◌||◌, List, [], ◌∷◌, ◌++◌, codes, option_map, Option, Some, None, refl, subst}
use Rattle.std.specs.Str.{bytes_eq}
use Rattle.std.proofs.lemmas.Bool.{or_parts}
use Rattle.qs_values.specs.Names.{is_name}
use Rattle.qs_lexer.specs.declared.token.Token.{Token}
use Rattle.qs_tree.specs.declared.assign.AssignOp.TheVariants as assigns
use Rattle.qs_tree.specs.declared.expr.TypeExpr.{TypeExpr}
use Rattle.qs_tree.specs.declared.name.Ident.{Ident}
use Rattle.qs_tree.specs.declared.operand.Place.{Place}
use Rattle.qs_tree.specs.declared.statement.StmtKind.TheVariants.{Init, Declare, Stretch, Assign, Update, Measure, Reset, Barrier, Delay, Break, Continue, End}
use Rattle.qs_tree.specs.Spelling.{if_there, name, sign, sign_of_assign, spell_place, spell_type, word, word_if}
use Rattle.qs_tree.specs.WellFormed.{all, if_there as if_there_features, of_place, of_type}
use Rattle.qs_tree.proofs.Spelled.{spell-Assign, spell-Barrier, spell-Break, spell-Continue, spell-Declare, spell-Delay, spell-End, spell-Init, spell-Measure, spell-Reset, spell-Stretch, spell-Update}
use Rattle.qs_parser.specs.steps.Tokens.{Readers, after_sign, begins_sign, has_sign}
use Rattle.qs_parser.specs.steps.Statements.{assign_op, assign_op_at, assigned, assignment_at, barrier_at, declaration_at, delay_at, init_at, measure_at, reset_at, stopped, stretch_at, to_at, updated}
use Rattle.qs_parser.proofs.Featured.{features-Assign, features-Barrier, features-Break, features-Continue, features-Declare, features-Delay, features-End, features-Init, features-Measure, features-Reset, features-Stretch, features-Update}
use Rattle.qs_parser.proofs.TokenPieces.{Took, same_text, sign_kind, took_nothing, took_one, took_sign, took_then}
use Rattle.qs_parser.proofs.SoundParts.{Counted, Holds, Read, counted_both, counted_nothing, counted_where, holds_bind, holds_both, holds_either, holds_if, holds_sign, holds_some, holds_stopped}
use Rattle.qs_parser.proofs.SoundReaders.{IsSoundBelow, ReadStmtKind}
use Rattle.qs_parser.proofs.SoundExprParts.{sound-enclosed}
use Rattle.qs_parser.proofs.SoundExpr.{sound-whole_at}
use Rattle.qs_parser.proofs.SoundStmtParts.{holds_name, sound-acted_at, sound-operand_at, sound-operands_at, sound-place_at, sound-type_at, sound-value_at}
use Rattle.qs_parser.proofs.SoundCalls.{stmt_as}
use Rattle.qs_parser.proofs.SoundStanding.{operand_nests, operands_nest, type_nests}

-- ---- declarations

sound-init_at : (below : Option Readers) (d renew : ℕ) → IsSoundBelow d below → (is_const : Bool) (type : TypeExpr) (n : Ident) (left between : ℕ) (all ts : List Token) → is_name n.name ≡ true → Took (word_if is_const (codes "const") ++ spell_type type ++ name n) all ts → Counted (of_type type) d renew left between → Holds (init_at below is_const type n renew between ts) (ReadStmtKind d renew left all)
unfolding init_at
sound-init_at below d renew h is_const type n left between all ts valid before c =
    holds_bind (holds_sign (codes "=") ts) (λ rest s.
    holds_bind (sound-value_at below d renew h between rest) (λ v r.
    holds_stopped (Init is_const type n v.0) v.1 v.2 (λ last t.
    stmt_as (spell-Init is_const type n v.0) (features-Init is_const type n v.0) (took_then (took_then (took_then before s) r.took) t) (counted_where valid (counted_both c r.counted)) refl)))

pub sound-declaration_at : (below : Option Readers) (d renew : ℕ) → IsSoundBelow d below → (is_const : Bool) (left : ℕ) (all ts : List Token) → Took (word_if is_const (codes "const")) all ts → Holds (declaration_at below is_const renew left ts) (ReadStmtKind d renew left all)
unfolding declaration_at
sound-declaration_at below d renew h is_const left all ts first =
    holds_bind (sound-type_at below d renew h left ts) (λ type r.
    holds_bind (holds_name type.2) (λ n k.
    holds_if (is_const || begins_sign (codes "=") n.1)
    (λ y. sound-init_at below d renew h is_const type.0 n.0 left type.1 all n.1 k.valid (took_then (took_then first r.took) k.took) r.counted)
    (λ e.
    let bare : Took [] all ts = subst (λ (b : Bool). Took (word_if b (codes "const")) all ts) (or_parts is_const (begins_sign (codes "=") n.1) e).0 first in
    holds_stopped (Declare type.0 n.0) type.1 n.1 (λ last t.
    stmt_as (spell-Declare type.0 n.0) (features-Declare type.0 n.0) (took_then (took_then (took_then bare r.took) k.took) t) (counted_where k.valid r.counted) (type_nests type.0)))))

pub sound-stretch_at : (d renew left : ℕ) (all ts : List Token) → Took (word (codes "stretch")) all ts → Holds (stretch_at left ts) (ReadStmtKind d renew left all)
unfolding stretch_at
sound-stretch_at d renew left all ts first =
    holds_bind (holds_name ts) (λ n k.
    holds_stopped (Stretch n.0) left n.1 (λ last t.
    stmt_as (spell-Stretch n.0) (features-Stretch n.0) (took_then (took_then first k.took) t) (counted_where k.valid counted_nothing) refl))

-- ---- measurements, resets, barriers and delays

sound-to_at : (below : Option Readers) (d renew : ℕ) → IsSoundBelow d below → (left : ℕ) (ts : List Token) → Holds (to_at below renew left ts) (λ y. Read (if_there (λ p. sign (codes "->") ++ p) (option_map spell_place y.0)) (if_there_features (option_map of_place y.0)) d renew left ts y.1 y.2)
unfolding to_at
sound-to_at below d renew h left ts =
    holds_either (after_sign (codes "->") ts) (λ e. holds_some (None, left, ts) (record { took = took_nothing ts; counted = counted_nothing })) (λ rest e.
    holds_bind (sound-place_at below d renew h left rest) (λ p r.
    holds_some (Some p.0, p.1, p.2) (record { took = took_then (took_sign (codes "->") ts rest e) r.took; counted = r.counted })))

pub sound-measure_at : (below : Option Readers) (d renew : ℕ) → IsSoundBelow d below → (left : ℕ) (all ts : List Token) → Took (word (codes "measure")) all ts → Holds (measure_at below renew left ts) (ReadStmtKind d renew left all)
unfolding measure_at
sound-measure_at below d renew h left all ts first =
    holds_bind (sound-operand_at below d renew h left ts) (λ o a.
    holds_bind (sound-to_at below d renew h o.1 o.2) (λ to b.
    holds_stopped (Measure o.0 to.0) to.1 to.2 (λ last t.
    stmt_as (spell-Measure o.0 to.0) (features-Measure o.0 to.0) (took_then (took_then (took_then first a.took) b.took) t) (counted_both a.counted b.counted) refl)))

pub sound-reset_at : (below : Option Readers) (d renew : ℕ) → IsSoundBelow d below → (left : ℕ) (all ts : List Token) → Took (word (codes "reset")) all ts → Holds (reset_at below renew left ts) (ReadStmtKind d renew left all)
unfolding reset_at
sound-reset_at below d renew h left all ts first =
    holds_bind (holds_both (sound-operand_at below d renew h left ts) (operand_nests below renew left ts)) (λ o a.
    holds_stopped (Reset o.0) o.1 o.2 (λ last t.
    stmt_as (spell-Reset o.0) (features-Reset o.0) (took_then (took_then first a.0.took) t) a.0.counted a.1))

pub sound-barrier_at : (below : Option Readers) (d renew : ℕ) → IsSoundBelow d below → (left : ℕ) (all ts : List Token) → Took (word (codes "barrier")) all ts → Holds (barrier_at below renew left ts) (ReadStmtKind d renew left all)
unfolding barrier_at
sound-barrier_at below d renew h left all ts first =
    holds_bind (sound-acted_at below d renew h left ts) (λ os r.
    holds_stopped (Barrier os.0) os.1 os.2 (λ last t.
    stmt_as (spell-Barrier os.0) (features-Barrier os.0) (took_then (took_then first r.took) t) r.counted (operands_nest os.0)))

pub sound-delay_at : (below : Option Readers) (d renew : ℕ) → IsSoundBelow d below → (left : ℕ) (all ts : List Token) → Took (word (codes "delay")) all ts → Holds (delay_at below renew left ts) (ReadStmtKind d renew left all)
unfolding delay_at
sound-delay_at below d renew h left all ts first =
    holds_bind (sound-enclosed (codes "[") (codes "]") below d renew h left ts) (λ time a.
    holds_bind (sound-operands_at below d renew h time.1 time.2) (λ os b.
    holds_stopped (Delay time.0 os.0) os.1 os.2 (λ last t.
    stmt_as (spell-Delay time.0 os.0) (features-Delay time.0 os.0) (took_then (took_then (took_then first a.took) b.read.took) t) (counted_where b.some (counted_both a.counted b.read.counted)) refl)))

-- ---- assignments

assign_op_is : (text : List ℕ) → Holds (assign_op text) (λ op. text ≡ sign_of_assign op)
assign_op_is text =
    holds_if (bytes_eq text (codes "+=")) (λ e. holds_some assigns.Add (same_text _ _ e)) (λ n1.
    holds_if (bytes_eq text (codes "-=")) (λ e. holds_some assigns.Sub (same_text _ _ e)) (λ n2.
    holds_if (bytes_eq text (codes "*=")) (λ e. holds_some assigns.Mul (same_text _ _ e)) (λ n3.
    holds_if (bytes_eq text (codes "/=")) (λ e. holds_some assigns.Div (same_text _ _ e)) (λ n4.
    holds_if (bytes_eq text (codes "%=")) (λ e. holds_some assigns.Rem (same_text _ _ e)) (λ n5.
    holds_if (bytes_eq text (codes "&=")) (λ e. holds_some assigns.BitAnd (same_text _ _ e)) (λ n6.
    holds_if (bytes_eq text (codes "|=")) (λ e. holds_some assigns.BitOr (same_text _ _ e)) (λ n7.
    holds_if (bytes_eq text (codes "^=")) (λ e. holds_some assigns.BitXor (same_text _ _ e)) (λ n8.
    holds_if (bytes_eq text (codes "<<=")) (λ e. holds_some assigns.ShiftLeft (same_text _ _ e)) (λ n9.
    holds_if (bytes_eq text (codes ">>=")) (λ e. holds_some assigns.ShiftRight (same_text _ _ e)) (λ n10.
    record { is = tt }))))))))))

assign_op_taken : (ts : List Token) → Holds (assign_op_at ts) (λ y. Took (sign (sign_of_assign y.0)) ts y.1)
assign_op_taken [] = record { is = tt }
assign_op_taken (t ∷ ts) =
    holds_if (has_sign t.kind) (λ y.
    holds_bind (assign_op_is t.text) (λ op e.
    holds_some (op, ts) (took_one _ t ts ((sign_kind t.kind y, e), tt))))
    (λ n. record { is = tt })

sound-assigned : (below : Option Readers) (d renew : ℕ) → IsSoundBelow d below → (p : Place) (left between : ℕ) (all us ts : List Token) → Read (spell_place p) (of_place p) d renew left all between us → Took (sign (codes "=")) us ts → Holds (assigned below p renew between ts) (ReadStmtKind d renew left all)
unfolding assigned
sound-assigned below d renew h p left between all us ts a s =
    holds_bind (sound-value_at below d renew h between ts) (λ v b.
    holds_stopped (Assign p v.0) v.1 v.2 (λ last t.
    stmt_as (spell-Assign p v.0) (features-Assign p v.0) (took_then (took_then (took_then a.took s) b.took) t) (counted_both a.counted b.counted) refl))

sound-updated : (below : Option Readers) (d renew : ℕ) → IsSoundBelow d below → (p : Place) (left between : ℕ) (all ts : List Token) → Read (spell_place p) (of_place p) d renew left all between ts → Holds (updated below p renew between ts) (ReadStmtKind d renew left all)
unfolding updated
sound-updated below d renew h p left between all ts a =
    holds_bind (assign_op_taken ts) (λ op s.
    holds_bind (sound-whole_at below d renew h between op.1) (λ e b.
    holds_stopped (Update p op.0 e.0) e.1 e.2 (λ last t.
    stmt_as (spell-Update p op.0 e.0) (features-Update p op.0 e.0) (took_then (took_then (took_then a.took s) b.took) t) (counted_both a.counted b.counted) refl)))

pub sound-assignment_at : (below : Option Readers) (d renew : ℕ) → IsSoundBelow d below → (left : ℕ) (ts : List Token) → Holds (assignment_at below renew left ts) (ReadStmtKind d renew left ts)
unfolding assignment_at
sound-assignment_at below d renew h left ts =
    holds_bind (sound-place_at below d renew h left ts) (λ p a.
    holds_either (after_sign (codes "=") p.2) (λ e. sound-updated below d renew h p.0 left p.1 ts p.2 a) (λ rest e.
    sound-assigned below d renew h p.0 left p.1 ts p.2 rest a (took_sign (codes "=") p.2 rest e)))

-- ---- words alone

pub sound-break : (d renew left : ℕ) (all ts : List Token) → Took (word (codes "break")) all ts → Holds (stopped Break left ts) (ReadStmtKind d renew left all)
sound-break d renew left all ts first = holds_stopped Break left ts (λ last t. stmt_as spell-Break features-Break (took_then first t) counted_nothing refl)

pub sound-continue : (d renew left : ℕ) (all ts : List Token) → Took (word (codes "continue")) all ts → Holds (stopped Continue left ts) (ReadStmtKind d renew left all)
sound-continue d renew left all ts first = holds_stopped Continue left ts (λ last t. stmt_as spell-Continue features-Continue (took_then first t) counted_nothing refl)

pub sound-end : (d renew left : ℕ) (all ts : List Token) → Took (word (codes "end")) all ts → Holds (stopped End left ts) (ReadStmtKind d renew left all)
sound-end d renew left all ts first = holds_stopped End left ts (λ last t. stmt_as spell-End features-End (took_then first t) counted_nothing refl)
