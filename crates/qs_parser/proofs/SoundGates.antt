-- Includes, qubits, inputs, outputs and gates are read as they are spelled.
use Rattle.std.proofs.Common.{◌≡◌, ℕ, suc, ◌+◌, ◌≤◌, max, Bool, true, ◌&&◌, List, [], ◌∷◌, length, map, codes, Option, Some, None, refl, sym, ap, subst, ◌∙◌, arith}
use Rattle.std.specs.List.{list_all}
use Rattle.std.proofs.lemmas.Bool.{and_from, and_parts}
use Rattle.std.proofs.lemmas.List.Folds.{list_all-map}
use Rattle.qs_values.specs.Names.{is_name}
use Rattle.qs_values.specs.declared.span.Span.{Span}
use Rattle.qs_lexer.specs.declared.token.Token.{Token}
use Rattle.qs_lexer.specs.declared.token.TokenKind.{TokenKind}
use Rattle.qs_lexer.specs.declared.token.TokenKind.TheVariants as kind
use Rattle.qs_tree.specs.declared.gate.Call.{Call}
use Rattle.qs_tree.specs.declared.name.Ident.{Ident}
use Rattle.qs_tree.specs.declared.statement.Stmt.{Stmt}
use Rattle.qs_tree.specs.declared.statement.StmtKind.{StmtKind}
use Rattle.qs_tree.specs.declared.statement.StmtKind.TheVariants.{Include, DefcalGrammar, Qubit, Input, Output, Gate, GateCall}
use Rattle.qs_tree.specs.Spelling.{Piece, Quoted, at_place, if_there, in_braces, in_round, name, names, piece, sign, spell_stmt, spell_stmt_kind, word}
use Rattle.qs_tree.specs.WellFormed.{Features, all as all_of, are_names, are_params, block, both, brackets_of, is_call, is_some, nested, nothing, of_stmt, of_stmt_kind, where_true}
use Rattle.qs_tree.proofs.Spelled.{spell-DefcalGrammar, spell-Gate, spell-GateCall, spell-Include, spell-Input, spell-Output, spell-Qubit, spell-Stmt}
use Rattle.qs_parser.specs.steps.Tokens.{Readers, after_sign, begins_sign}
use Rattle.qs_parser.specs.steps.Knot.{below}
use Rattle.qs_parser.specs.steps.Globals.{call_in, calls_at, defcalgrammar_at, gate_at, gate_params_at, ident_at, include_at, input_at, names_at, names_to, output_at, qubit_at, quoted_at}
use Rattle.qs_parser.proofs.Featured.{features-DefcalGrammar, features-Gate, features-GateCall, features-Include, features-Input, features-Output, features-Qubit, features-Stmt}
use Rattle.qs_parser.proofs.TokenPieces.{Took, took_nothing, took_one, took_placed, took_then}
use Rattle.qs_parser.proofs.SoundParts.{Costs, Counted, Holds, Read, counted_brackets, counted_nothing, counted_where, holds_bind, holds_if, holds_sign, holds_some, holds_stopped, holds_with}
use Rattle.qs_parser.proofs.SoundLists.{sound-commas, sound-up_to_brace}
use Rattle.qs_parser.proofs.SoundReaders.{IsSoundBelow}
use Rattle.qs_parser.proofs.SoundExprParts.{read_as}
use Rattle.qs_parser.proofs.SoundExpr.{one_less_is}
use Rattle.qs_parser.proofs.SoundStmtParts.{holds_name, sound-bracket_at, sound-type_at}
use Rattle.qs_parser.proofs.SoundCalls.{sound-call_at}
use Rattle.qs_parser.proofs.SoundNested.{map_nested}
use Rattle.qs_parser.proofs.SoundKnot.{sound-below}

-- what a statement at the top is
abbrev pub ReadTop : (d renew left : ℕ) → List Token → StmtKind × ℕ × List Token → Type 0
ReadTop d renew left ts y = Read (spell_stmt_kind y.0) (of_stmt_kind y.0) d renew left ts y.1 y.2

-- ---- includes, qubits, inputs and outputs

quoted_of : (k : TokenKind) (span : Span) (text : List ℕ) (ts : List Token) → Holds (quoted_at (record { span = span; text = text; kind = k } ∷ ts)) (λ y. Took (piece (Quoted y.0)) (record { span = span; text = text; kind = k } ∷ ts) y.1)
quoted_of kind.Text span text ts = holds_some (text, ts) (took_one _ (record { span = span; text = text; kind = kind.Text }) ts ((refl, refl), tt))
quoted_of kind.Word span text ts = record { is = tt }
quoted_of (kind.Physical number) span text ts = record { is = tt }
quoted_of (kind.Whole value) span text ts = record { is = tt }
quoted_of (kind.Decimal value) span text ts = record { is = tt }
quoted_of (kind.Time value unit) span text ts = record { is = tt }
quoted_of kind.Sign span text ts = record { is = tt }

quoted_taken : (ts : List Token) → Holds (quoted_at ts) (λ y. Took (piece (Quoted y.0)) ts y.1)
quoted_taken [] = record { is = tt }
quoted_taken (t ∷ ts) = quoted_of t.kind t.span t.text ts

pub sound-include_at : (d renew left : ℕ) (all ts : List Token) → Took (word (codes "include")) all ts → Holds (include_at left ts) (ReadTop d renew left all)
unfolding include_at
sound-include_at d renew left all ts first =
    holds_bind (quoted_taken ts) (λ text q.
    holds_stopped (Include text.0) left text.1 (λ last t.
    read_as (spell-Include text.0) (features-Include text.0) (took_then (took_then first q) t) (record { follows = refl; depth = omega arith; spent = record { inside = λ e. omega arith; whole = λ e. (e, omega arith) } })))

pub sound-defcalgrammar_at : (d renew left : ℕ) (all ts : List Token) → Took (word (codes "defcalgrammar")) all ts → Holds (defcalgrammar_at left ts) (ReadTop d renew left all)
unfolding defcalgrammar_at
sound-defcalgrammar_at d renew left all ts first =
    holds_bind (quoted_taken ts) (λ text q.
    holds_stopped (DefcalGrammar text.0) left text.1 (λ last t.
    read_as (spell-DefcalGrammar text.0) (features-DefcalGrammar text.0) (took_then (took_then first q) t) (record { follows = refl; depth = omega arith; spent = record { inside = λ e. omega arith; whole = λ e. (e, omega arith) } })))

pub sound-qubit_at : (b : Option Readers) (d renew : ℕ) → IsSoundBelow d b → (left : ℕ) (all ts : List Token) → Took (word (codes "qubit")) all ts → Holds (qubit_at b renew left ts) (ReadTop d renew left all)
unfolding qubit_at
sound-qubit_at b d renew h left all ts first =
    holds_bind (sound-bracket_at b d renew h left ts) (λ size r.
    holds_bind (holds_name size.2) (λ n k.
    holds_stopped (Qubit size.0 n.0) size.1 n.1 (λ last t.
    read_as (spell-Qubit size.0 n.0) (features-Qubit size.0 n.0) (took_then (took_then (took_then first r.took) k.took) t) (record { follows = and_from _ _ k.valid r.counted.follows; depth = r.counted.depth; spent = r.counted.spent }))))

pub sound-input_at : (b : Option Readers) (d renew : ℕ) → IsSoundBelow d b → (left : ℕ) (all ts : List Token) → Took (word (codes "input")) all ts → Holds (input_at b renew left ts) (ReadTop d renew left all)
unfolding input_at
sound-input_at b d renew h left all ts first =
    holds_bind (sound-type_at b d renew h left ts) (λ type r.
    holds_bind (holds_name type.2) (λ n k.
    holds_stopped (Input type.0 n.0) type.1 n.1 (λ last t.
    read_as (spell-Input type.0 n.0) (features-Input type.0 n.0) (took_then (took_then (took_then first r.took) k.took) t) (record { follows = and_from _ _ k.valid r.counted.follows; depth = r.counted.depth; spent = r.counted.spent }))))

pub sound-output_at : (b : Option Readers) (d renew : ℕ) → IsSoundBelow d b → (left : ℕ) (all ts : List Token) → Took (word (codes "output")) all ts → Holds (output_at b renew left ts) (ReadTop d renew left all)
unfolding output_at
sound-output_at b d renew h left all ts first =
    holds_bind (sound-type_at b d renew h left ts) (λ type r.
    holds_bind (holds_name type.2) (λ n k.
    holds_stopped (Output type.0 n.0) type.1 n.1 (λ last t.
    read_as (spell-Output type.0 n.0) (features-Output type.0 n.0) (took_then (took_then (took_then first r.took) k.took) t) (record { follows = and_from _ _ k.valid r.counted.follows; depth = r.counted.depth; spent = r.counted.spent }))))

-- ---- rules that each of a list follows

-- each of a list follows a rule, beside its own
abbrev each : {A : Type 0} → (A → Bool) → (A → Features) → A → Features
each rule f x = where_true (rule x) (f x)

all_follow : {A : Type 0} (rule : A → Bool) (f : A → Features) (xs : List A) → (all_of (map (each rule f) xs)).follows ≡ true → (list_all rule xs ≡ true) × ((all_of (map f xs)).follows ≡ true)
all_follow rule f [] e = (refl, refl)
all_follow rule f (x ∷ xs) e =
    let p = and_parts (rule x && (f x).follows) ((all_of (map (each rule f) xs)).follows) e in
    let q = and_parts (rule x) (f x).follows p.0 in
    let i = all_follow rule f xs p.1 in
    (and_from _ _ q.0 i.0, and_from _ _ q.1 i.1)

same_depth : {A : Type 0} (rule : A → Bool) (f : A → Features) (xs : List A) → (all_of (map (each rule f) xs)).depth ≡ (all_of (map f xs)).depth
same_depth rule f [] = refl
same_depth rule f (x ∷ xs) = ap (λ (n : ℕ). max (f x).depth n) (same_depth rule f xs)

same_operators : {A : Type 0} (rule : A → Bool) (f : A → Features) (xs : List A) → (all_of (map (each rule f) xs)).operators ≡ (all_of (map f xs)).operators
same_operators rule f [] = refl
same_operators rule f (x ∷ xs) = ap (λ (n : ℕ). (f x).operators + n) (same_operators rule f xs)

same_most : {A : Type 0} (rule : A → Bool) (f : A → Features) (xs : List A) → (all_of (map (each rule f) xs)).most_operators ≡ (all_of (map f xs)).most_operators
same_most rule f [] = refl
same_most rule f (x ∷ xs) = ap (λ (n : ℕ). max (f x).most_operators n) (same_most rule f xs)

-- what is counted with a rule for each is counted without
counted_each : {A : Type 0} (rule : A → Bool) (f : A → Features) (xs : List A) (d renew left after : ℕ) → Counted (all_of (map (each rule f) xs)) d renew left after → Counted (all_of (map f xs)) d renew left after
counted_each rule f xs d renew left after c = record {
  follows = (all_follow rule f xs c.follows).1;
  depth = subst (λ (n : ℕ). n ≤ d) (same_depth rule f xs) c.depth;
  spent = subst (λ (n : ℕ). Costs renew left after n (all_of (map f xs)).most_operators) (same_operators rule f xs) (subst (λ (n : ℕ). Costs renew left after (all_of (map (each rule f) xs)).operators n) (same_most rule f xs) c.spent);
}

-- ---- names

-- a name has no features but its rule
abbrev valid_name : Ident → Bool
valid_name n = is_name n.name

abbrev bare : Ident → Features
bare n = nothing

bare_operators : (ns : List Ident) → (all_of (map bare ns)).operators ≡ 0
bare_operators [] = refl
bare_operators (n ∷ ns) = omega (arith, bare_operators ns)

counted_bare : (ns : List Ident) (d renew left after : ℕ) → Counted (all_of (map bare ns)) d renew left after → Counted nothing d renew left after
counted_bare ns d renew left after c =
    let z : (all_of (map bare ns)).operators ≡ 0 = bare_operators ns in
    record { follows = refl; depth = omega arith; spent = record { inside = λ e. omega (arith, c.spent.inside e); whole = λ e. ((c.spent.whole e).0, omega arith) } }

-- names with commas between
record ReadNames (d renew left : ℕ) (ts : List Token) (y : List Ident × ℕ × List Token) : Type 0 where
  pub took : Took (names y.0) ts y.2
  pub counted : Counted nothing d renew left y.1
  pub valid : are_names y.0 ≡ true
  pub some : is_some y.0 ≡ true

some_names : (f : Ident → Features) (ns : List Ident) → is_some (map f ns) ≡ true → is_some ns ≡ true
some_names f [] e = e
some_names f (n ∷ ns) e = refl

sound-ident_at : (d renew left : ℕ) (ts : List Token) → Holds (ident_at left ts) (λ y. Read (name y.0) (each valid_name bare y.0) d renew left ts y.1 y.2)
sound-ident_at d renew left ts = holds_bind (holds_name ts) (λ n k. holds_some (n.0, left, n.1) (record { took = k.took; counted = counted_where k.valid counted_nothing }))

sound-names_at : (d renew left : ℕ) (ts : List Token) → Holds (names_at left ts) (ReadNames d renew left ts)
unfolding names_at
sound-names_at d renew left ts =
    holds_with (sound-commas name (each valid_name bare) d renew ident_at (λ l us. sound-ident_at d renew l us) left ts) (λ y r.
    record {
      took = r.read.took;
      counted = counted_bare y.0 d renew left y.1 (counted_each valid_name bare y.0 d renew left y.1 r.read.counted);
      valid = (all_follow valid_name bare y.0 r.read.counted.follows).0;
      some = some_names (each valid_name bare) y.0 r.some;
    })

-- ---- gates

-- the parameters of a gate, where brackets stand there
record ReadParams (d renew left : ℕ) (ts : List Token) (y : Option (List Ident) × ℕ × List Token) : Type 0 where
  pub took : Took (if_there (λ ps. in_round (names ps)) y.0) ts y.2
  pub counted : Counted (brackets_of y.0) d renew left y.1
  pub valid : are_params y.0 ≡ true

sound-names_to : (r : Option (List Token)) (i d renew left : ℕ) (all ts : List Token) → d ≡ suc i → Took (sign (codes "(")) all ts → Holds r (λ rest. Took (sign (codes ")")) ts rest) → Holds (names_to r left ts) (ReadParams d renew left all)
unfolding names_to
sound-names_to (Some after) i d renew left all ts room first h = holds_some (Some [], left, after) (record { took = took_then first h.is; counted = counted_brackets {e = i} (omega arith) counted_nothing; valid = refl })
sound-names_to None i d renew left all ts room first h =
    holds_bind (sound-names_at i renew left ts) (λ ns r.
    holds_bind (holds_sign (codes ")") ns.2) (λ after t.
    holds_some (Some ns.0, ns.1, after) (record { took = took_then first (took_then r.took t); counted = counted_brackets {e = i} (omega arith) r.counted; valid = r.valid })))

sound-gate_params_at : (d renew left : ℕ) (ts : List Token) → Holds (gate_params_at d left ts) (ReadParams d renew left ts)
unfolding gate_params_at
sound-gate_params_at d renew left ts =
    holds_if (begins_sign (codes "(") ts) (λ y.
    holds_bind (holds_sign (codes "(") ts) (λ rest s.
    holds_bind (one_less_is d) (λ i room.
    sound-names_to (after_sign (codes ")") rest) i d renew left ts rest room s (holds_sign (codes ")") rest))))
    (λ n. holds_some (None, left, ts) (record { took = took_nothing ts; counted = counted_nothing; valid = refl }))

-- a call as a statement
abbrev standing_call : Stmt → Bool
standing_call s = is_call (of_stmt s).standing

abbrev nested_stmt : Stmt → Features
nested_stmt s = nested (of_stmt s)

call_as_stmt : (span : Span) (c : Call) → of_stmt (record { span = span; kind = GateCall c }) ≡ of_stmt_kind (GateCall c)
call_as_stmt span c = features-Stmt (record { span = span; kind = GateCall c })

sound-call_in : (d renew left : ℕ) (ts : List Token) → Holds (call_in d renew left ts) (λ y. Read (spell_stmt y.0) (each standing_call nested_stmt y.0) d renew left ts y.1 y.2)
unfolding call_in
sound-call_in d renew left [] = record { is = tt }
sound-call_in d renew left (t ∷ ts) =
    holds_bind (one_less_is d) (λ i room.
    holds_bind (sound-call_at (below i) i renew (sound-below i) left (t ∷ ts)) (λ c r.
    let s : Stmt = record { span = t.span; kind = GateCall c.0 } in
    let f = features-Stmt s ∙ features-GateCall c.0 in
    holds_some (s, c.1, c.2) (read_as {f = each standing_call nested_stmt s} (spell-Stmt s ∙ ap (λ (ps : List Piece). at_place t.span ps) (spell-GateCall c.0)) refl (took_placed _ t ts c.2 r.took)
    (subst (λ (x : Features). Counted (where_true (is_call x.standing) (nested x)) d renew left c.1) (sym f)
    (record { follows = r.counted.follows; depth = omega (arith, room, r.counted.depth); spent = r.counted.spent })))))

record ReadCalls (d renew left : ℕ) (ts : List Token) (y : List Stmt × ℕ × List Token) : Type 0 where
  pub took : Took (in_braces (map spell_stmt y.0)) ts y.2
  pub counted : Counted (block (map of_stmt y.0)) d renew left y.1
  pub are_calls : list_all (λ f. is_call f.standing) (map of_stmt y.0) ≡ true

sound-calls_at : (d renew left : ℕ) (ts : List Token) → Holds (calls_at d renew left ts) (ReadCalls d renew left ts)
unfolding calls_at
sound-calls_at d renew left ts =
    holds_bind (holds_sign (codes "{") ts) (λ rest s.
    holds_bind (one_less_is d) (λ i room.
    holds_with (sound-up_to_brace spell_stmt (each standing_call nested_stmt) i renew (call_in i renew) (λ l us. sound-call_in i renew l us) (length rest) left rest) (λ y r.
    let c : Counted (all_of (map nested_stmt y.0)) i renew left y.1 = counted_each standing_call nested_stmt y.0 i renew left y.1 r.counted in
    record {
      took = took_then s r.took;
      counted = counted_brackets {e = i} (omega arith) (subst (λ (fs : List Features). Counted (all_of fs) i renew left y.1) (map_nested y.0) c);
      are_calls = list_all-map (λ f. is_call f.standing) of_stmt y.0 ∙ (all_follow standing_call nested_stmt y.0 r.counted.follows).0;
    })))

-- what is counted with nothing between
pub counted_after_nothing : (f g : Features) (d renew l a b c : ℕ) → Counted f d renew l a → Counted nothing d renew a b → Counted g d renew b c → Counted (both f g) d renew l c
counted_after_nothing f g d renew l a b c x n y = record {
  follows = and_from _ _ x.follows y.follows;
  depth = omega (arith, x.depth, y.depth);
  spent = record {
    inside = λ e. omega (arith, x.spent.inside e, n.spent.inside e, y.spent.inside e);
    whole = λ e. let p = x.spent.whole e in let q = n.spent.whole p.0 in let r = y.spent.whole q.0 in (r.0, omega (arith, p.1, r.1));
  };
}

pub sound-gate_at : (d renew left : ℕ) (all ts : List Token) → Took (word (codes "gate")) all ts → Holds (gate_at d renew left ts) (ReadTop d renew left all)
unfolding gate_at
sound-gate_at d renew left all ts first =
    holds_bind (holds_name ts) (λ n k.
    holds_bind (sound-gate_params_at d renew left n.1) (λ params p.
    holds_bind (sound-names_at d renew params.1 params.2) (λ qubits q.
    holds_bind (sound-calls_at d renew qubits.1 qubits.2) (λ calls c.
    let rule : (is_name n.0.name && are_params params.0 && are_names qubits.0 && is_some qubits.0 && list_all (λ f. is_call f.standing) (map of_stmt calls.0)) ≡ true = and_from _ _ (and_from _ _ (and_from _ _ (and_from _ _ k.valid p.valid) q.valid) q.some) c.are_calls in
    let counts : Counted (both (brackets_of params.0) (block (map of_stmt calls.0))) d renew left calls.1 = counted_after_nothing (brackets_of params.0) (block (map of_stmt calls.0)) d renew left params.1 qubits.1 calls.1 p.counted q.counted c.counted in
    holds_some (Gate n.0 params.0 qubits.0 calls.0, calls.1, calls.2)
    (read_as (spell-Gate n.0 params.0 qubits.0 calls.0) (features-Gate n.0 params.0 qubits.0 calls.0) (took_then (took_then (took_then (took_then first k.took) p.took) q.took) c.took)
    (record { follows = and_from _ _ rule counts.follows; depth = counts.depth; spent = counts.spent }))))))
