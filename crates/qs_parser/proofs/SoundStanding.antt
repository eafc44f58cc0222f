-- Parts of statements have no standing of their own.
use Rattle.std.proofs.Common.{◌≡◌, ℕ, true, List, [], ◌∷◌, map, Option, Some, None, refl, sym, ap, subst, ◌∙◌}
use Rattle.qs_values.specs.declared.span.Span.{Span}
use Rattle.qs_lexer.specs.declared.token.Token.{Token}
use Rattle.qs_lexer.specs.declared.token.TokenKind.{TokenKind}
use Rattle.qs_lexer.specs.declared.token.TokenKind.TheVariants as kind
use Rattle.qs_tree.specs.declared.expr.TypeExpr.{TypeExpr}
use Rattle.qs_tree.specs.declared.operand.Place.{Place}
use Rattle.qs_tree.specs.declared.operand.Operand.{Operand}
use Rattle.qs_tree.specs.declared.operand.Operand.TheVariants.{Named}
use Rattle.qs_tree.specs.declared.expr.ExprKind.TheFolds.{fold_out-Place, fold_out-TypeExpr}
use Rattle.qs_tree.specs.WellFormed.{Features, all, body_features, call_features, expr_features, if_in_brackets, item_features, kind_features, may_nest, modifier_features, of_operand, of_place, of_type, operand_features, param_features, place_features, range_features, stmt_features, stmt_kind_features, type_features, value_features}
use Rattle.qs_parser.specs.steps.Tokens.{◌>>=◌, Readers, Reads}
use Rattle.qs_parser.specs.steps.Statements.{operand_at, place_at}
use Rattle.qs_parser.proofs.Featured.{features-Named, features-PhysicalQubit}
use Rattle.qs_parser.proofs.SoundParts.{Holds}

brackets_nest : (f : Option Features) → may_nest (if_in_brackets f).standing ≡ true
brackets_nest None = refl
brackets_nest (Some f) = refl

pub type_nests : (t : TypeExpr) → may_nest (of_type t).standing ≡ true
type_nests t = subst (λ (f : Features). may_nest f.standing ≡ true) (sym (fold_out-TypeExpr Features Features Features Features Features Features Features Features Features Features Features Features Features Features kind_features modifier_features operand_features value_features item_features param_features body_features range_features stmt_kind_features expr_features type_features call_features place_features stmt_features t)) (brackets_nest _)

pub place_nests : (p : Place) → may_nest (of_place p).standing ≡ true
place_nests p = subst (λ (f : Features). may_nest f.standing ≡ true) (sym (fold_out-Place Features Features Features Features Features Features Features Features Features Features Features Features Features Features kind_features modifier_features operand_features value_features item_features param_features body_features range_features stmt_kind_features expr_features type_features call_features place_features stmt_features p)) (brackets_nest _)

named_nests : (r : Reads Place) → Holds {A = Operand × ℕ × List Token} (r >>= λ p. Some (Named p.0, p.1, p.2)) (λ y. may_nest (of_operand y.0).standing ≡ true)
named_nests None = record { is = tt }
named_nests (Some p) = record { is = ap (λ (f : Features). may_nest f.standing) (features-Named p.0) ∙ place_nests p.0 }

operand_of_nests : (below : Option Readers) (renew left : ℕ) (k : TokenKind) (span : Span) (text : List ℕ) (ts : List Token) → Holds (operand_at below renew left (record { span = span; text = text; kind = k } ∷ ts)) (λ y. may_nest (of_operand y.0).standing ≡ true)
unfolding operand_at
operand_of_nests below renew left (kind.Physical number) span text ts = record { is = ap (λ (f : Features). may_nest f.standing) (features-PhysicalQubit span number) }
operand_of_nests below renew left kind.Word span text ts = named_nests (place_at below renew left (record { span = span; text = text; kind = kind.Word } ∷ ts))
operand_of_nests below renew left (kind.Whole value) span text ts = named_nests (place_at below renew left (record { span = span; text = text; kind = kind.Whole value } ∷ ts))
operand_of_nests below renew left (kind.Decimal value) span text ts = named_nests (place_at below renew left (record { span = span; text = text; kind = kind.Decimal value } ∷ ts))
operand_of_nests below renew left (kind.Time value unit) span text ts = named_nests (place_at below renew left (record { span = span; text = text; kind = kind.Time value unit } ∷ ts))
operand_of_nests below renew left kind.Text span text ts = named_nests (place_at below renew left (record { span = span; text = text; kind = kind.Text } ∷ ts))
operand_of_nests below renew left kind.Sign span text ts = named_nests (place_at below renew left (record { span = span; text = text; kind = kind.Sign } ∷ ts))

pub operand_nests : (below : Option Readers) (renew left : ℕ) (ts : List Token) → Holds (operand_at below renew left ts) (λ y. may_nest (of_operand y.0).standing ≡ true)
unfolding operand_at
operand_nests below renew left [] = record { is = tt }
operand_nests below renew left (t ∷ ts) = operand_of_nests below renew left t.kind t.span t.text ts

pub operands_nest : (os : List Operand) → may_nest (all (map of_operand os)).standing ≡ true
operands_nest [] = refl
operands_nest (o ∷ os) = refl
