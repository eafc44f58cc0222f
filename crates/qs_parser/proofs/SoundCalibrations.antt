-- Calibrations are read as they are spelled.
use Rattle.std.proofs.Common.{◌≡◌, ℕ, suc, Bool, true, false, List, [], ◌∷◌, ◌++◌, length, map, codes, option_map, Option, Some, None, refl, ap, subst, ◌∙◌, arith}
use Rattle.std.specs.Str.{bytes_eq}
use Rattle.std.proofs.lemmas.Bool.{and_from}
use Rattle.qs_values.specs.declared.span.Span.{Span}
use Rattle.qs_lexer.specs.declared.token.Token.{Token}
use Rattle.qs_lexer.specs.declared.token.TokenKind.TheVariants as kind
use Rattle.qs_tree.specs.declared.pulse.CalName.{CalName}
use Rattle.qs_tree.specs.declared.pulse.CalName.TheVariants as calibrates
use Rattle.qs_tree.specs.declared.pulse.Item.{Item}
use Rattle.qs_tree.specs.declared.pulse.Item.TheVariants.{Port, ExternFrame, ExternWaveform, Frame, Return, Statement}
use Rattle.qs_tree.specs.declared.pulse.Param.{Param}
use Rattle.qs_tree.specs.declared.pulse.Param.TheVariants.{Free, Fixed}
use Rattle.qs_tree.specs.declared.statement.StmtKind.TheVariants.{Cal, Defcal}
use Rattle.qs_tree.specs.Spelling.{Piece, calibrated, given_bit, if_there, in_braces, in_round, sign, spell_item, spell_param, with_commas, word, word_if}
use Rattle.qs_tree.specs.WellFormed.{Features, all as all_of, block, both, in_brackets, is_calibrated, may_nest, nested, nothing, of_item, of_operand, of_param}
use Rattle.qs_tree.proofs.Spelled.{spell-Cal, spell-Defcal, spell-ExternFrame, spell-ExternWaveform, spell-Fixed, spell-Frame, spell-Free, spell-Port, spell-Return, spell-Statement}
use Rattle.qs_parser.specs.steps.Tokens.{Readers, after_sign, after_word, begins_sign, has_word}
use Rattle.qs_parser.specs.steps.Knot.{below}
use Rattle.qs_parser.specs.steps.Globals.{cal_at, cal_name_at, cal_params_at, defcal_at, extern_at, extern_frame_at, extern_waveform_at, fixed_at, frame_at, free_at, gives_at, item_in, item_of, items_at, param_at, params_to, port_at, return_at, statement_item}
use Rattle.qs_parser.proofs.Featured.{features-Cal, features-Defcal, features-ExternFrame, features-ExternWaveform, features-Fixed, features-Frame, features-Free, features-Port, features-Return, features-Statement}
use Rattle.qs_parser.proofs.TokenPieces.{Took, took_nothing, took_sign, took_then, took_word, word_kind}
use Rattle.qs_parser.proofs.SoundParts.{Counted, Holds, Read, counted_both, counted_brackets, counted_nothing, counted_where, holds_at, holds_bind, holds_either, holds_if, holds_sign, holds_some, holds_stopped, holds_with, holds_word}
use Rattle.qs_parser.proofs.SoundLists.{sound-commas, sound-up_to_brace}
use Rattle.qs_parser.proofs.SoundReaders.{BeginsAt, IsSoundBelow}
use Rattle.qs_parser.proofs.SoundExprParts.{read_as, took_at_place}
use Rattle.qs_parser.proofs.SoundPrimary.{took_text}
use Rattle.qs_parser.proofs.SoundExpr.{one_less_is, sound-whole_at}
use Rattle.qs_parser.proofs.SoundStmtParts.{holds_name, sound-operands_at, sound-type_at}
use Rattle.qs_parser.proofs.SoundStmt.{sound-stmt_at}
use Rattle.qs_parser.proofs.SoundKnot.{sound-below}
use Rattle.qs_parser.proofs.SoundGates.{ReadTop, counted_after_nothing}

-- ---- items

record ReadItem (d renew left : ℕ) (ts : List Token) (y : Item × ℕ × List Token) : Type 0 where
  pub read : Read (spell_item y.0) (of_item y.0) d renew left ts y.1 y.2
  pub nests : may_nest (of_item y.0).standing ≡ true

item_as : {k : Item} {ps : List Piece} {f : Features} {d renew left after : ℕ} {ts rest : List Token} → spell_item k ≡ ps → of_item k ≡ f → Took ps ts rest → Counted f d renew left after → may_nest f.standing ≡ true → ReadItem d renew left ts (k, after, rest)
item_as p q t c e = record { read = read_as p q t c; nests = ap (λ (f : Features). may_nest f.standing) q ∙ e }

sound-port_at : (d renew : ℕ) (span : Span) (extern : Bool) (left : ℕ) (all ts : List Token) → BeginsAt span all → Took (word_if extern (codes "extern") ++ word (codes "port")) all ts → Holds (port_at span extern left ts) (ReadItem d renew left all)
unfolding port_at
sound-port_at d renew span extern left all ts begins before =
    holds_bind (holds_name ts) (λ n k.
    holds_stopped (Port span extern n.0) left n.1 (λ last t.
    item_as (spell-Port span extern n.0) (features-Port span extern n.0) (took_at_place span _ all last begins (took_then (took_then before k.took) t)) (counted_where k.valid counted_nothing) refl))

sound-extern_frame_at : (d renew : ℕ) (span : Span) (left : ℕ) (all ts : List Token) → BeginsAt span all → Took (word (codes "extern") ++ word (codes "frame")) all ts → Holds (extern_frame_at span left ts) (ReadItem d renew left all)
unfolding extern_frame_at
sound-extern_frame_at d renew span left all ts begins before =
    holds_bind (holds_name ts) (λ n k.
    holds_stopped (ExternFrame span n.0) left n.1 (λ last t.
    item_as (spell-ExternFrame span n.0) (features-ExternFrame span n.0) (took_at_place span _ all last begins (took_then (took_then before k.took) t)) (counted_where k.valid counted_nothing) refl))

sound-extern_waveform_at : (d renew : ℕ) (span : Span) (left : ℕ) (all ts : List Token) → BeginsAt span all → Took (word (codes "extern")) all ts → Holds (extern_waveform_at span left ts) (ReadItem d renew left all)
unfolding extern_waveform_at
sound-extern_waveform_at d renew span left all ts begins first =
    holds_bind (holds_word (codes "waveform") ts) (λ rest w.
    holds_bind (holds_name rest) (λ n k.
    holds_stopped (ExternWaveform span n.0) left n.1 (λ last t.
    item_as (spell-ExternWaveform span n.0) (features-ExternWaveform span n.0) (took_at_place span _ all last begins (took_then (took_then (took_then first w) k.took) t)) (counted_where k.valid counted_nothing) refl)))

sound-extern_at : (d renew : ℕ) (span : Span) (left : ℕ) (all ts : List Token) → BeginsAt span all → Took (word (codes "extern")) all ts → Holds (extern_at span left ts) (ReadItem d renew left all)
unfolding extern_at
sound-extern_at d renew span left all ts begins first =
    holds_either (after_word (codes "port") ts) (λ n1.
    holds_either (after_word (codes "frame") ts) (λ n2. sound-extern_waveform_at d renew span left all ts begins first) (λ rest e.
    sound-extern_frame_at d renew span left all rest begins (took_then first (took_word (codes "frame") ts rest e))))
    (λ rest e. sound-port_at d renew span true left all rest begins (took_then first (took_word (codes "port") ts rest e)))

sound-frame_at : (b : Option Readers) (d renew : ℕ) → IsSoundBelow d b → (span : Span) (left : ℕ) (all ts : List Token) → BeginsAt span all → Took (word (codes "frame")) all ts → Holds (frame_at span b renew left ts) (ReadItem d renew left all)
unfolding frame_at
sound-frame_at b d renew h span left all ts begins first =
    holds_bind (holds_name ts) (λ n k.
    holds_bind (holds_sign (codes "=") n.1) (λ rest s.
    holds_bind (sound-whole_at b d renew h left rest) (λ e r.
    holds_stopped (Frame span n.0 e.0) e.1 e.2 (λ last t.
    item_as (spell-Frame span n.0 e.0) (features-Frame span n.0 e.0) (took_at_place span _ all last begins (took_then (took_then (took_then (took_then first k.took) s) r.took) t))
    (record { follows = and_from _ _ k.valid r.counted.follows; depth = r.counted.depth; spent = r.counted.spent }) refl))))

sound-return_at : (b : Option Readers) (d renew : ℕ) → IsSoundBelow d b → (span : Span) (left : ℕ) (all ts : List Token) → BeginsAt span all → Took (word (codes "return")) all ts → Holds (return_at span b renew left ts) (ReadItem d renew left all)
unfolding return_at
sound-return_at b d renew h span left all ts begins first =
    holds_bind (sound-whole_at b d renew h left ts) (λ e r.
    holds_stopped (Return span e.0) e.1 e.2 (λ last t.
    item_as (spell-Return span e.0) (features-Return span e.0) (took_at_place span _ all last begins (took_then (took_then first r.took) t))
    (record { follows = r.counted.follows; depth = r.counted.depth; spent = r.counted.spent }) refl))

sound-statement_item : (b : Option Readers) (d renew : ℕ) → IsSoundBelow d b → (left : ℕ) (ts : List Token) → Holds (statement_item b renew left ts) (ReadItem d renew left ts)
unfolding statement_item
sound-statement_item b d renew h left ts =
    holds_bind (sound-stmt_at b d renew h left ts) (λ s r.
    holds_some (Statement s.0, s.1, s.2) (item_as (spell-Statement s.0) (features-Statement s.0) r.read.took r.read.counted r.nests))

sound-item_of : (b : Option Readers) (d renew : ℕ) → IsSoundBelow d b → (left : ℕ) (t : Token) (ts : List Token) → t.kind ≡ kind.Word → Holds (item_of b renew left t.span t.text ts (t ∷ ts)) (ReadItem d renew left (t ∷ ts))
unfolding item_of
sound-item_of b d renew h left t ts k =
    holds_if (bytes_eq t.text (codes "extern")) (λ e. sound-extern_at d renew t.span left (t ∷ ts) ts refl (took_text t ts (codes "extern") k e)) (λ n1.
    holds_if (bytes_eq t.text (codes "port")) (λ e. sound-port_at d renew t.span false left (t ∷ ts) ts refl (took_text t ts (codes "port") k e)) (λ n2.
    holds_if (bytes_eq t.text (codes "frame")) (λ e. sound-frame_at b d renew h t.span left (t ∷ ts) ts refl (took_text t ts (codes "frame") k e)) (λ n3.
    holds_if (bytes_eq t.text (codes "return")) (λ e. sound-return_at b d renew h t.span left (t ∷ ts) ts refl (took_text t ts (codes "return") k e)) (λ n4.
    sound-statement_item b d renew h left (t ∷ ts)))))

sound-item_in : (d renew left : ℕ) (ts : List Token) → Holds (item_in d renew left ts) (λ y. Read (spell_item y.0) (nested (of_item y.0)) d renew left ts y.1 y.2)
unfolding item_in
sound-item_in d renew left [] = record { is = tt }
sound-item_in d renew left (t ∷ ts) =
    holds_if (has_word t.kind) (λ k.
    holds_bind (one_less_is d) (λ i room.
    holds_with (sound-item_of (below i) i renew (sound-below i) left t ts (word_kind t.kind k)) (λ y r.
    record { took = r.read.took; counted = record { follows = and_from _ _ r.nests r.read.counted.follows; depth = omega (arith, room, r.read.counted.depth); spent = r.read.counted.spent } })))
    (λ n. record { is = tt })

nested_items : (is : List Item) → map (λ i. nested (of_item i)) is ≡ map nested (map of_item is)
nested_items [] = refl
nested_items (i ∷ is) = ap (λ (fs : List Features). nested (of_item i) ∷ fs) (nested_items is)

sound-items_at : (d renew left : ℕ) (ts : List Token) → Holds (items_at d renew left ts) (λ y. Read (in_braces (map spell_item y.0)) (block (map of_item y.0)) d renew left ts y.1 y.2)
unfolding items_at
sound-items_at d renew left ts =
    holds_bind (holds_sign (codes "{") ts) (λ rest s.
    holds_bind (one_less_is d) (λ i room.
    holds_with (sound-up_to_brace spell_item (λ x. nested (of_item x)) i renew (item_in i renew) (λ l us. sound-item_in i renew l us) (length rest) left rest) (λ y r.
    record { took = took_then s r.took; counted = counted_brackets {e = i} (omega arith) (subst (λ (fs : List Features). Counted (all_of fs) i renew left y.1) (nested_items y.0) r.counted) })))

-- ---- calibrations

pub sound-cal_at : (d renew left : ℕ) (all ts : List Token) → Took (word (codes "cal")) all ts → Holds (cal_at d renew left ts) (ReadTop d renew left all)
unfolding cal_at
sound-cal_at d renew left all ts first =
    holds_bind (sound-items_at d renew left ts) (λ items r.
    holds_some (Cal items.0, items.1, items.2) (read_as (spell-Cal items.0) (features-Cal items.0) (took_then first r.took) (record { follows = r.counted.follows; depth = r.counted.depth; spent = r.counted.spent })))

-- what a calibration is given for
record TookCalName (ts : List Token) (y : CalName × List Token) : Type 0 where
  pub took : Took (calibrated y.0) ts y.1
  pub valid : is_calibrated y.0 ≡ true

cal_name_taken : (ts : List Token) → Holds (cal_name_at ts) (TookCalName ts)
unfolding cal_name_at
cal_name_taken ts =
    holds_either (after_word (codes "measure") ts) (λ n1.
    holds_either (after_word (codes "reset") ts) (λ n2.
    holds_bind (holds_name ts) (λ n k.
    holds_some (calibrates.Gate n.0, n.1) (record { took = k.took; valid = k.valid })))
    (λ rest e. holds_some (calibrates.Reset, rest) (record { took = took_word (codes "reset") ts rest e; valid = refl })))
    (λ rest e. holds_some (calibrates.Measure, rest) (record { took = took_word (codes "measure") ts rest e; valid = refl }))

-- a parameter of a calibration
abbrev ReadParam : (d renew left : ℕ) → List Token → Param × ℕ × List Token → Type 0
ReadParam d renew left ts y = Read (spell_param y.0) (of_param y.0) d renew left ts y.1 y.2

sound-free_at : (b : Option Readers) (d renew : ℕ) → IsSoundBelow d b → (left : ℕ) (ts : List Token) → Holds (free_at b renew left ts) (ReadParam d renew left ts)
unfolding free_at
sound-free_at b d renew h left ts =
    holds_bind (sound-type_at b d renew h left ts) (λ type r.
    holds_bind (holds_name type.2) (λ n k.
    holds_some (Free type.0 n.0, type.1, n.1) (read_as (spell-Free type.0 n.0) (features-Free type.0 n.0) (took_then r.took k.took) (counted_where k.valid r.counted))))

sound-fixed_at : (b : Option Readers) (d renew : ℕ) → IsSoundBelow d b → (left : ℕ) (ts : List Token) → Holds (fixed_at b renew left ts) (ReadParam d renew left ts)
unfolding fixed_at
sound-fixed_at b d renew h left ts =
    holds_bind (sound-whole_at b d renew h left ts) (λ e r.
    holds_some (Fixed e.0, e.1, e.2) (read_as (spell-Fixed e.0) (features-Fixed e.0) r.took r.counted))

sound-param_at : (b : Option Readers) (d renew : ℕ) → IsSoundBelow d b → (left : ℕ) (ts : List Token) → Holds (param_at b renew left ts) (ReadParam d renew left ts)
unfolding param_at
sound-param_at b d renew h left ts =
    holds_either (free_at b renew left ts) (λ e. sound-fixed_at b d renew h left ts) (λ p e. holds_some p (holds_at (free_at b renew left ts) p (sound-free_at b d renew h left ts) e))

-- the features of the parameters of a calibration
abbrev pub params_features : Option (List Features) → Features
params_features None = nothing
params_features (Some ps) = in_brackets (all_of ps)

abbrev ReadCalParams : (d renew left : ℕ) → List Token → Option (List Param) × ℕ × List Token → Type 0
ReadCalParams d renew left ts y = Read (if_there (λ ps. in_round (with_commas ps)) (option_map (map spell_param) y.0)) (params_features (option_map (map of_param) y.0)) d renew left ts y.1 y.2

sound-params_to : (r : Option (List Token)) (i d renew left : ℕ) (all ts : List Token) → d ≡ suc i → Took (sign (codes "(")) all ts → Holds r (λ rest. Took (sign (codes ")")) ts rest) → Holds (params_to r (below i) renew left ts) (ReadCalParams d renew left all)
unfolding params_to
sound-params_to (Some after) i d renew left all ts room first h = holds_some (Some [], left, after) (record { took = took_then first h.is; counted = counted_brackets {e = i} (omega arith) counted_nothing })
sound-params_to None i d renew left all ts room first h =
    holds_bind (sound-commas spell_param of_param i renew (param_at (below i) renew) (λ l us. sound-param_at (below i) i renew (sound-below i) l us) left ts) (λ ps m.
    holds_bind (holds_sign (codes ")") ps.2) (λ after t.
    holds_some (Some ps.0, ps.1, after) (record { took = took_then first (took_then m.read.took t); counted = counted_brackets {e = i} (omega arith) m.read.counted })))

sound-cal_params_at : (d renew left : ℕ) (ts : List Token) → Holds (cal_params_at d renew left ts) (ReadCalParams d renew left ts)
unfolding cal_params_at
sound-cal_params_at d renew left ts =
    holds_if (begins_sign (codes "(") ts) (λ y.
    holds_bind (holds_sign (codes "(") ts) (λ rest s.
    holds_bind (one_less_is d) (λ i room.
    sound-params_to (after_sign (codes ")") rest) i d renew left ts rest room s (holds_sign (codes ")") rest))))
    (λ n. holds_some (None, left, ts) (record { took = took_nothing ts; counted = counted_nothing }))

sound-gives_at : (d renew left : ℕ) (ts : List Token) → Holds (gives_at left ts) (λ y. Read (given_bit y.0) nothing d renew left ts y.1 y.2)
unfolding gives_at
sound-gives_at d renew left ts =
    holds_either (after_sign (codes "->") ts) (λ e. holds_some (false, left, ts) (record { took = took_nothing ts; counted = counted_nothing })) (λ rest e.
    holds_bind (holds_word (codes "bit") rest) (λ after w.
    holds_some (true, left, after) (record { took = took_then (took_sign (codes "->") ts rest e) w; counted = counted_nothing })))

pub sound-defcal_at : (d renew left : ℕ) (all ts : List Token) → Took (word (codes "defcal")) all ts → Holds (defcal_at d renew left ts) (ReadTop d renew left all)
unfolding defcal_at
sound-defcal_at d renew left all ts first =
    holds_bind (cal_name_taken ts) (λ n k.
    holds_bind (sound-cal_params_at d renew left n.1) (λ params p.
    holds_bind (sound-operands_at (below d) d renew (sound-below d) params.1 params.2) (λ operands o.
    holds_bind (sound-gives_at d renew operands.1 operands.2) (λ gives g.
    holds_bind (sound-items_at d renew gives.1 gives.2) (λ items i.
    let inner : Counted (both (all_of (map of_operand operands.0)) (block (map of_item items.0))) d renew params.1 items.1 = counted_after_nothing _ _ d renew params.1 operands.1 gives.1 items.1 o.read.counted g.counted i.counted in
    let c : Counted (both (params_features (option_map (map of_param) params.0)) (both (all_of (map of_operand operands.0)) (block (map of_item items.0)))) d renew left items.1 = counted_both p.counted inner in
    holds_some (Defcal n.0 params.0 operands.0 gives.0 items.0, items.1, items.2)
    (read_as (spell-Defcal n.0 params.0 operands.0 gives.0 items.0) (features-Defcal n.0 params.0 operands.0 gives.0 items.0)
    (took_then (took_then (took_then (took_then (took_then first k.took) p.took) o.read.took) g.took) i.took)
    (record { follows = and_from _ _ (and_from _ _ k.valid o.some) c.follows; depth = c.depth; spent = c.spent })))))))
