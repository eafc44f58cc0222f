-- What those parts of a tree are written by whose texts the searches don't find by themselves.
use Rattle.std.proofs.Common.{◌≡◌, ℕ, List, map, sym, ap, ◌∙◌}
use Rattle.qs_values.specs.declared.span.Span.{Span}
use Rattle.qs_tree.specs.declared.name.Ident.{Ident}
use Rattle.qs_tree.specs.declared.statement.Stmt.{Stmt}
use Rattle.qs_tree.specs.declared.expr.ExprKind.TheOpen as layer
use Rattle.qs_tree.specs.declared.expr.ExprKind.TheVariants.{DurationOf, rolls-DurationOf}
use Rattle.qs_tree.specs.declared.pulse.Item.TheVariants.{ExternFrame, ExternWaveform, rolls-ExternFrame, rolls-ExternWaveform}
use Rattle.qs_tree.specs.declared.expr.ExprKind.TheFolds.{fold-roll-ExprKind, fold-roll-Item}
use Rattle.qasm_dump.specs.Trees.{Writer, body_step, call_step, expr_step, item_step, kind_step, modifier_step, operand_step, param_step, place_step, range_step, stmt_kind_step, stmt_step, type_step, value_step, write_item, write_kind, write_stmt}

pub written-DurationOf : (body : List Stmt) (before : List ℕ) → write_kind (DurationOf body) before ≡ kind_step (layer.DurationOf (map write_stmt body)) before
written-DurationOf body before =
    ap (λ (w : Writer). w before) (ap write_kind (sym (rolls-DurationOf body)) ∙ fold-roll-ExprKind Writer Writer Writer Writer Writer Writer Writer Writer Writer Writer Writer Writer Writer Writer kind_step modifier_step operand_step value_step item_step param_step body_step range_step stmt_kind_step expr_step type_step call_step place_step stmt_step (layer.DurationOf body))

pub written-ExternFrame : (span : Span) (n : Ident) (before : List ℕ) → write_item (ExternFrame span n) before ≡ item_step (layer.ExternFrame span n) before
written-ExternFrame span n before =
    ap (λ (w : Writer). w before) (ap write_item (sym (rolls-ExternFrame span n)) ∙ fold-roll-Item Writer Writer Writer Writer Writer Writer Writer Writer Writer Writer Writer Writer Writer Writer kind_step modifier_step operand_step value_step item_step param_step body_step range_step stmt_kind_step expr_step type_step call_step place_step stmt_step (layer.ExternFrame span n))

pub written-ExternWaveform : (span : Span) (n : Ident) (before : List ℕ) → write_item (ExternWaveform span n) before ≡ item_step (layer.ExternWaveform span n) before
written-ExternWaveform span n before =
    ap (λ (w : Writer). w before) (ap write_item (sym (rolls-ExternWaveform span n)) ∙ fold-roll-Item Writer Writer Writer Writer Writer Writer Writer Writer Writer Writer Writer Writer Writer Writer kind_step modifier_step operand_step value_step item_step param_step body_step range_step stmt_kind_step expr_step type_step call_step place_step stmt_step (layer.ExternWaveform span n))
