-- Calls are read as they are spelled.
use Rattle.std.proofs.Common.{◌≡◌, ℕ, zero, suc, Bool, true, false, ◌&&◌, ◌||◌, List, [], ◌∷◌, ◌++◌, length, map, codes, option_map, Option, Some, None, refl, ap, subst, ◌∙◌}
use Rattle.std.specs.Str.{bytes_eq}
use Rattle.std.proofs.lemmas.Bool.{and_parts}
use Rattle.qs_lexer.specs.declared.token.Token.{Token}
use Rattle.qs_tree.specs.declared.gate.Call.{roll-Call}
use Rattle.qs_tree.specs.declared.gate.Modifier.{Modifier}
use Rattle.qs_tree.specs.declared.gate.Modifier.TheVariants.{Inv, Pow, Ctrl, NegCtrl}
use Rattle.qs_tree.specs.declared.statement.StmtKind.{StmtKind}
use Rattle.qs_tree.specs.declared.statement.StmtKind.TheVariants.{GateCall}
use Rattle.qs_tree.specs.Spelling.{Piece, if_there, in_round, joined, sign, spell, spell_call, spell_modifier, spell_stmt_kind, with_commas, word}
use Rattle.qs_tree.specs.WellFormed.{Features, all, in_brackets, may_nest, nothing, of_call, of_expr, of_modifier, of_stmt_kind}
use Rattle.qs_tree.proofs.Spelled.{spell-Called, spell-Ctrl, spell-GateCall, spell-Inv, spell-NegCtrl, spell-Pow}
use Rattle.qs_parser.specs.steps.Tokens.{Readers, begins_sign, has_word}
use Rattle.qs_parser.specs.steps.Statements.{call_at, ctrl_at, gate_call_at, is_modifier, modifier_of, modifier_word, modifiers_at, negctrl_at, params_at, pow_at, signed_off}
use Rattle.qs_parser.proofs.Featured.{features-Called, features-Ctrl, features-GateCall, features-Inv, features-NegCtrl, features-Pow}
use Rattle.qs_parser.proofs.TokenPieces.{Took, same_text, took_nothing, took_one, took_then, word_kind}
use Rattle.qs_parser.proofs.SoundParts.{Counted, Holds, Read, counted_both, counted_nothing, counted_where, holds_at, holds_bind, holds_either, holds_if, holds_sign, holds_some, holds_stopped}
use Rattle.qs_parser.proofs.SoundReaders.{IsSoundBelow, ReadStmtKind}
use Rattle.qs_parser.proofs.SoundExprParts.{read_as, sound-args_at, sound-enclosed}
use Rattle.qs_parser.proofs.SoundStmtParts.{holds_name, sound-acted_at, sound-count_at}

-- ---- modifiers

abbrev ReadModifier : (d renew left : ℕ) → List Token → Modifier × ℕ × List Token → Type 0
ReadModifier d renew left ts y = Read (spell_modifier y.0) (of_modifier y.0) d renew left ts y.1 y.2

holds_signed_off : {P : Modifier × ℕ × List Token → Type 0} (m : Modifier) (left : ℕ) (ts : List Token) → ((rest : List Token) → Took (sign (codes "@")) ts rest → P (m, left, rest)) → Holds (signed_off m left ts) P
unfolding signed_off
holds_signed_off m left ts h = holds_bind (holds_sign (codes "@") ts) (λ rest t. holds_some (m, left, rest) (h rest t))

sound-pow_at : (below : Option Readers) (d renew : ℕ) → IsSoundBelow d below → (left : ℕ) (all ts : List Token) → Took (word (codes "pow")) all ts → Holds (pow_at below renew left ts) (ReadModifier d renew left all)
unfolding pow_at
sound-pow_at below d renew h left all ts first =
    holds_bind (sound-enclosed (codes "(") (codes ")") below d renew h left ts) (λ e r.
    holds_signed_off (Pow e.0) e.1 e.2 (λ rest t. read_as (spell-Pow e.0) (features-Pow e.0) (took_then (took_then first r.took) t) r.counted))

sound-ctrl_at : (below : Option Readers) (d renew : ℕ) → IsSoundBelow d below → (left : ℕ) (all ts : List Token) → Took (word (codes "ctrl")) all ts → Holds (ctrl_at below renew left ts) (ReadModifier d renew left all)
unfolding ctrl_at
sound-ctrl_at below d renew h left all ts first =
    holds_bind (sound-count_at below d renew h left ts) (λ count r.
    holds_signed_off (Ctrl count.0) count.1 count.2 (λ rest t. read_as (spell-Ctrl count.0) (features-Ctrl count.0) (took_then (took_then first r.took) t) r.counted))

sound-negctrl_at : (below : Option Readers) (d renew : ℕ) → IsSoundBelow d below → (left : ℕ) (all ts : List Token) → Took (word (codes "negctrl")) all ts → Holds (negctrl_at below renew left ts) (ReadModifier d renew left all)
unfolding negctrl_at
sound-negctrl_at below d renew h left all ts first =
    holds_bind (sound-count_at below d renew h left ts) (λ count r.
    holds_signed_off (NegCtrl count.0) count.1 count.2 (λ rest t. read_as (spell-NegCtrl count.0) (features-NegCtrl count.0) (took_then (took_then first r.took) t) r.counted))

-- what no other modifier is
last_of_four : (a b c d : Bool) → (a || b || c || d) ≡ true → a ≡ false → b ≡ false → c ≡ false → d ≡ true
last_of_four true b c d e p q r = absurd cc
last_of_four false true c d e p q r = absurd cc
last_of_four false false true d e p q r = absurd cc
last_of_four false false false d e p q r = e

-- the word of a modifier at the front
record TookModifier (ts : List Token) (y : List ℕ × List Token) : Type 0 where
  pub took : Took (word y.0) ts y.1
  pub is : is_modifier y.0 ≡ true

modifier_word_taken : (ts : List Token) → Holds (modifier_word ts) (TookModifier ts)
modifier_word_taken [] = record { is = tt }
modifier_word_taken (t ∷ ts) =
    holds_if (has_word t.kind && is_modifier t.text) (λ e.
    let p = and_parts (has_word t.kind) (is_modifier t.text) e in
    holds_some (t.text, ts) (record { took = took_one _ t ts ((word_kind t.kind p.0, refl), tt); is = p.1 }))
    (λ n. record { is = tt })

-- a word that is this text
took_same : (text other : List ℕ) (all ts : List Token) → bytes_eq text other ≡ true → Took (word text) all ts → Took (word other) all ts
took_same text other all ts e t = subst (λ (x : List ℕ). Took (word x) all ts) (same_text text other e) t

sound-modifier_of : (below : Option Readers) (d renew : ℕ) → IsSoundBelow d below → (left : ℕ) (text : List ℕ) (all ts : List Token) → is_modifier text ≡ true → Took (word text) all ts → Holds (modifier_of below renew left text ts) (ReadModifier d renew left all)
unfolding modifier_of
sound-modifier_of below d renew h left text all ts is first =
    holds_if (bytes_eq text (codes "inv")) (λ e. holds_signed_off Inv left ts (λ rest t. read_as spell-Inv features-Inv (took_then (took_same text (codes "inv") all ts e first) t) counted_nothing)) (λ n1.
    holds_if (bytes_eq text (codes "pow")) (λ e. sound-pow_at below d renew h left all ts (took_same text (codes "pow") all ts e first)) (λ n2.
    holds_if (bytes_eq text (codes "ctrl")) (λ e. sound-ctrl_at below d renew h left all ts (took_same text (codes "ctrl") all ts e first)) (λ n3.
    sound-negctrl_at below d renew h left all ts (took_same text (codes "negctrl") all ts (last_of_four (bytes_eq text (codes "inv")) (bytes_eq text (codes "pow")) (bytes_eq text (codes "ctrl")) (bytes_eq text (codes "negctrl")) is n1 n2 n3) first))))

sound-modifiers_at : (n : ℕ) (below : Option Readers) (d renew : ℕ) → IsSoundBelow d below → (left : ℕ) (ts : List Token) → Holds (modifiers_at n below renew left ts) (λ y. Read (joined (map spell_modifier y.0)) (all (map of_modifier y.0)) d renew left ts y.1 y.2)
unfolding modifiers_at
sound-modifiers_at zero below d renew h left ts = holds_some ([], left, ts) (record { took = took_nothing ts; counted = counted_nothing })
sound-modifiers_at (suc n) below d renew h left ts =
    holds_either (modifier_word ts) (λ e. holds_some ([], left, ts) (record { took = took_nothing ts; counted = counted_nothing })) (λ w e.
    let m = holds_at (modifier_word ts) w (modifier_word_taken ts) e in
    holds_bind (sound-modifier_of below d renew h left w.0 ts w.1 m.is m.took) (λ x a.
    holds_bind (sound-modifiers_at n below d renew h x.1 x.2) (λ xs b.
    holds_some (x.0 ∷ xs.0, xs.1, xs.2) (record { took = took_then a.took b.took; counted = counted_both a.counted b.counted }))))

-- ---- calls

-- the features of a call's parameters
abbrev args_features : Option (List Features) → Features
args_features None = nothing
args_features (Some args) = in_brackets (all args)

sound-params_at : (below : Option Readers) (d renew : ℕ) → IsSoundBelow d below → (left : ℕ) (ts : List Token) → Holds (params_at below renew left ts) (λ y. Read (if_there (λ es. in_round (with_commas es)) (option_map (map spell) y.0)) (args_features (option_map (map of_expr) y.0)) d renew left ts y.1 y.2)
unfolding params_at
sound-params_at below d renew h left ts =
    holds_if (begins_sign (codes "(") ts) (λ y.
    holds_bind (sound-args_at below d renew h left ts) (λ es r.
    holds_some (Some es.0, es.1, es.2) (record { took = r.took; counted = r.counted })))
    (λ n. holds_some (None, left, ts) (record { took = took_nothing ts; counted = counted_nothing }))

-- a call, with its end
pub sound-call_at : (below : Option Readers) (d renew : ℕ) → IsSoundBelow d below → (left : ℕ) (ts : List Token) → Holds (call_at below renew left ts) (λ y. Read (spell_call y.0 ++ sign (codes ";")) (of_call y.0) d renew left ts y.1 y.2)
unfolding call_at
sound-call_at below d renew h left ts =
    holds_bind (sound-modifiers_at (length ts) below d renew h left ts) (λ ms m.
    holds_bind (holds_name ms.2) (λ n k.
    holds_bind (sound-params_at below d renew h ms.1 n.1) (λ args a.
    holds_bind (sound-acted_at below d renew h args.1 args.2) (λ os o.
    holds_stopped (roll-Call (record { modifiers = ms.0; name = n.0; args = args.0; operands = os.0 })) os.1 os.2 (λ rest t.
    read_as (ap (λ (x : List Piece). x ++ sign (codes ";")) (spell-Called ms.0 n.0 args.0 os.0)) (features-Called ms.0 n.0 args.0 os.0)
    (took_then (took_then (took_then (took_then m.took k.took) a.took) o.took) t)
    (counted_where k.valid (counted_both m.counted (counted_both a.counted o.counted))))))))

-- ---- what a statement is

pub stmt_as : {k : StmtKind} {ps : List Piece} {f : Features} {d renew left after : ℕ} {ts rest : List Token} → spell_stmt_kind k ≡ ps → of_stmt_kind k ≡ f → Took ps ts rest → Counted f d renew left after → may_nest f.standing ≡ true → ReadStmtKind d renew left ts (k, after, rest)
stmt_as p q t c e = record { read = read_as p q t c; nests = ap (λ (f : Features). may_nest f.standing) q ∙ e }

pub sound-gate_call_at : (below : Option Readers) (d renew : ℕ) → IsSoundBelow d below → (left : ℕ) (ts : List Token) → Holds (gate_call_at below renew left ts) (ReadStmtKind d renew left ts)
unfolding gate_call_at
sound-gate_call_at below d renew h left ts =
    holds_bind (sound-call_at below d renew h left ts) (λ c r.
    holds_some (GateCall c.0, c.1, c.2) (stmt_as (spell-GateCall c.0) (features-GateCall c.0) r.took (record { follows = r.counted.follows; depth = r.counted.depth; spent = r.counted.spent }) refl))
