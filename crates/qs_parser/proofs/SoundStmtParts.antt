-- The parts of statements are read as they are spelled.
use Rattle.std.proofs.Common.{◌≡◌, ℕ, List, [], ◌∷◌, map, codes, option_map, Option, Some, None, refl}
use Rattle.qs_values.specs.declared.span.Span.{Span}
use Rattle.qs_lexer.specs.declared.token.Token.{Token}
use Rattle.qs_lexer.specs.declared.token.TokenKind.{TokenKind}
use Rattle.qs_lexer.specs.declared.token.TokenKind.TheVariants as kind
use Rattle.qs_tree.specs.declared.name.Ident.{Ident}
use Rattle.qs_tree.specs.declared.operand.Place.{roll-Place}
use Rattle.qs_tree.specs.declared.operand.Operand.{Operand}
use Rattle.qs_tree.specs.declared.operand.Operand.TheVariants.{Named, PhysicalQubit}
use Rattle.qs_tree.specs.declared.operand.Value.TheVariants.{Expression, Measurement}
use Rattle.qs_tree.specs.Spelling.{if_there, in_round, in_square, spell, spell_operand, spell_place, spell_type, spell_value, with_commas}
use Rattle.qs_tree.specs.WellFormed.{all, if_in_brackets, of_expr, of_operand, of_place, of_type, of_value}
use Rattle.qs_tree.proofs.Spelled.{spell-Expression, spell-Measurement, spell-Named, spell-PhysicalQubit, spell-Place}
use Rattle.qs_parser.specs.steps.Tokens.{◌>>=◌, Readers, after_word, begins_sign, has_word, name_at}
use Rattle.qs_parser.specs.steps.Statements.{acted_at, bracket_at, count_at, operand_at, operands_at, place_at, type_at, value_at}
use Rattle.qs_parser.proofs.Featured.{features-Expression, features-Measurement, features-Named, features-PhysicalQubit, features-Place}
use Rattle.qs_parser.proofs.TokenPieces.{TookName, took_name, took_nothing, took_one, took_placed, took_then, took_word, word_kind}
use Rattle.qs_parser.proofs.SoundParts.{Holds, Read, counted_nothing, counted_where, holds_bind, holds_either, holds_if, holds_some, holds_with}
use Rattle.qs_parser.proofs.SoundLists.{ReadMany, sound-commas}
use Rattle.qs_parser.proofs.SoundReaders.{IsSoundBelow}
use Rattle.qs_parser.proofs.SoundExprParts.{read_as, sound-enclosed}
use Rattle.qs_parser.proofs.SoundPrimary.{sound-type_of, word_is_type}
use Rattle.qs_parser.proofs.SoundExpr.{sound-whole_at}

pub holds_name : (ts : List Token) → Holds (name_at ts) (λ y. TookName y.0 ts y.1)
holds_name ts = seen (name_at ts) (λ n rest e. took_name ts n rest e)
  where
    seen : (r : Option (Ident × List Token)) → ((n : Ident) (rest : List Token) → r ≡ Some (n, rest) → TookName n ts rest) → Holds r (λ y. TookName y.0 ts y.1)
    seen None h = record { is = tt }
    seen (Some y) h = record { is = h y.0 y.1 refl }

pub sound-type_at : (below : Option Readers) (d renew : ℕ) → IsSoundBelow d below → (left : ℕ) (ts : List Token) → Holds (type_at below renew left ts) (λ y. Read (spell_type y.0) (of_type y.0) d renew left ts y.1 y.2)
unfolding type_at
sound-type_at below d renew h left [] = record { is = tt }
sound-type_at below d renew h left (t ∷ ts) =
    holds_if (has_word t.kind) (λ k.
    holds_bind (word_is_type t.text) (λ w e.
    sound-type_of below d renew h left t w ts (took_one _ t ts ((word_kind t.kind k, e), tt))))
    (λ n. record { is = tt })

-- an expression in square brackets, or in round ones, or none
pub sound-bracket_at : (below : Option Readers) (d renew : ℕ) → IsSoundBelow d below → (left : ℕ) (ts : List Token) → Holds (bracket_at below renew left ts) (λ y. Read (if_there in_square (option_map spell y.0)) (if_in_brackets (option_map of_expr y.0)) d renew left ts y.1 y.2)
unfolding bracket_at
sound-bracket_at below d renew h left ts =
    holds_if (begins_sign (codes "[") ts) (λ y.
    holds_bind (sound-enclosed (codes "[") (codes "]") below d renew h left ts) (λ e r.
    holds_some (Some e.0, e.1, e.2) (record { took = r.took; counted = r.counted })))
    (λ n. holds_some (None, left, ts) (record { took = took_nothing ts; counted = counted_nothing }))

pub sound-count_at : (below : Option Readers) (d renew : ℕ) → IsSoundBelow d below → (left : ℕ) (ts : List Token) → Holds (count_at below renew left ts) (λ y. Read (if_there in_round (option_map spell y.0)) (if_in_brackets (option_map of_expr y.0)) d renew left ts y.1 y.2)
unfolding count_at
sound-count_at below d renew h left ts =
    holds_if (begins_sign (codes "(") ts) (λ y.
    holds_bind (sound-enclosed (codes "(") (codes ")") below d renew h left ts) (λ e r.
    holds_some (Some e.0, e.1, e.2) (record { took = r.took; counted = r.counted })))
    (λ n. holds_some (None, left, ts) (record { took = took_nothing ts; counted = counted_nothing }))

pub sound-place_at : (below : Option Readers) (d renew : ℕ) → IsSoundBelow d below → (left : ℕ) (ts : List Token) → Holds (place_at below renew left ts) (λ y. Read (spell_place y.0) (of_place y.0) d renew left ts y.1 y.2)
unfolding place_at
sound-place_at below d renew h left ts =
    holds_bind (holds_name ts) (λ n t.
    holds_bind (sound-bracket_at below d renew h left n.1) (λ index r.
    holds_some (roll-Place (record { name = n.0; index = index.0 }), index.1, index.2)
    (read_as (spell-Place n.0 index.0) (features-Place n.0 index.0) (took_then t.took r.took) (counted_where t.valid r.counted))))

-- what is acted on
named_operand : (below : Option Readers) (d renew : ℕ) → IsSoundBelow d below → (left : ℕ) (ts : List Token) → Holds {A = Operand × ℕ × List Token} (place_at below renew left ts >>= λ p. Some (Named p.0, p.1, p.2)) (λ y. Read (spell_operand y.0) (of_operand y.0) d renew left ts y.1 y.2)
named_operand below d renew h left ts =
    holds_bind (sound-place_at below d renew h left ts) (λ p r.
    holds_some (Named p.0, p.1, p.2) (read_as (spell-Named p.0) (features-Named p.0) r.took r.counted))

operand_of : (below : Option Readers) (d renew : ℕ) → IsSoundBelow d below → (left : ℕ) (k : TokenKind) (span : Span) (text : List ℕ) (ts : List Token) → Holds (operand_at below renew left (record { span = span; text = text; kind = k } ∷ ts)) (λ y. Read (spell_operand y.0) (of_operand y.0) d renew left (record { span = span; text = text; kind = k } ∷ ts) y.1 y.2)
unfolding operand_at
operand_of below d renew h left (kind.Physical number) span text ts =
    let t : Token = record { span = span; text = text; kind = kind.Physical number } in
    holds_some (PhysicalQubit span number, left, ts) (read_as (spell-PhysicalQubit span number) (features-PhysicalQubit span number) (took_placed _ t ts ts (took_one _ t ts (refl, tt))) counted_nothing)
operand_of below d renew h left kind.Word span text ts = named_operand below d renew h left (record { span = span; text = text; kind = kind.Word } ∷ ts)
operand_of below d renew h left (kind.Whole value) span text ts = named_operand below d renew h left (record { span = span; text = text; kind = kind.Whole value } ∷ ts)
operand_of below d renew h left (kind.Decimal value) span text ts = named_operand below d renew h left (record { span = span; text = text; kind = kind.Decimal value } ∷ ts)
operand_of below d renew h left (kind.Time value unit) span text ts = named_operand below d renew h left (record { span = span; text = text; kind = kind.Time value unit } ∷ ts)
operand_of below d renew h left kind.Text span text ts = named_operand below d renew h left (record { span = span; text = text; kind = kind.Text } ∷ ts)
operand_of below d renew h left kind.Sign span text ts = named_operand below d renew h left (record { span = span; text = text; kind = kind.Sign } ∷ ts)

pub sound-operand_at : (below : Option Readers) (d renew : ℕ) → IsSoundBelow d below → (left : ℕ) (ts : List Token) → Holds (operand_at below renew left ts) (λ y. Read (spell_operand y.0) (of_operand y.0) d renew left ts y.1 y.2)
unfolding operand_at
sound-operand_at below d renew h left [] = record { is = tt }
sound-operand_at below d renew h left (t ∷ ts) = operand_of below d renew h left t.kind t.span t.text ts

pub sound-operands_at : (below : Option Readers) (d renew : ℕ) → IsSoundBelow d below → (left : ℕ) (ts : List Token) → Holds (operands_at below renew left ts) (ReadMany spell_operand of_operand d renew left ts)
unfolding operands_at
sound-operands_at below d renew h left ts = sound-commas spell_operand of_operand d renew (operand_at below renew) (λ l us. sound-operand_at below d renew h l us) left ts

pub sound-acted_at : (below : Option Readers) (d renew : ℕ) → IsSoundBelow d below → (left : ℕ) (ts : List Token) → Holds (acted_at below renew left ts) (λ y. Read (with_commas (map spell_operand y.0)) (all (map of_operand y.0)) d renew left ts y.1 y.2)
unfolding acted_at
sound-acted_at below d renew h left ts =
    holds_if (begins_sign (codes ";") ts) (λ y. holds_some ([], left, ts) (record { took = took_nothing ts; counted = counted_nothing }))
    (λ n. holds_with (sound-operands_at below d renew h left ts) (λ y r. r.read))

pub sound-value_at : (below : Option Readers) (d renew : ℕ) → IsSoundBelow d below → (left : ℕ) (ts : List Token) → Holds (value_at below renew left ts) (λ y. Read (spell_value y.0) (of_value y.0) d renew left ts y.1 y.2)
unfolding value_at
sound-value_at below d renew h left ts =
    holds_either (after_word (codes "measure") ts) (λ n.
    holds_bind (sound-whole_at below d renew h left ts) (λ e r.
    holds_some (Expression e.0, e.1, e.2) (read_as (spell-Expression e.0) (features-Expression e.0) r.took r.counted)))
    (λ rest e.
    holds_bind (sound-operand_at below d renew h left rest) (λ o r.
    holds_some (Measurement o.0, o.1, o.2) (read_as (spell-Measurement o.0) (features-Measurement o.0) (took_then (took_word (codes "measure") ts rest e) r.took) r.counted)))
