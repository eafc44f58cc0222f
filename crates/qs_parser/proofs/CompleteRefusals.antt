-- Why tokens have no tree: each refusal has its cause, and no tokens have two.
use Rattle.std.proofs.Common.{◌≡◌, ℕ, ◌≤◌, Bool, true, false, ◌&&◌, ◌||◌, not, cond, codes, List, [], ◌∷◌, ◌++◌, length, Option, Some, None, refl, sym, ap, subst, ◌∙◌, append_assoc, length-append, inl, inr, arith}
use Rattle.std.specs.Prelude.{◌⊎◌, Result, Ok, Err}
use Rattle.std.specs.List.{AllByRecursion, flat_map, list_any}
use Rattle.std.specs.Str.{bytes_eq}
use Rattle.std.proofs.lemmas.Bool.{and_from, and_parts, cond-false, cond-true, false_from_ne_true}
use Rattle.std.proofs.lemmas.List.{append-nil}
use Rattle.std.proofs.lemmas.Option.{cond_some}
use Rattle.qs_values.specs.declared.span.Span.{Span}
use Rattle.qs_lexer.specs.declared.token.Token.{Token}
use Rattle.qs_tree.specs.declared.source.Source.{Source}
use Rattle.qs_tree.specs.declared.statement.Stmt.{Stmt}
use Rattle.qs_tree.specs.Spelling.{Spells, spell_stmt, spell_version}
use Rattle.qs_tree.specs.WellFormed.{IsVersion, IsWellFormed, is_version, limits, may_nest, of_stmt, twice_limits}
use Rattle.qs_parser.specs.declared.refusal.ParseRefusal.{ParseRefusal}
use Rattle.qs_parser.specs.declared.refusal.ParseRefusal.TheVariants.{NoStatement, TooDeep, Unsupported, VersionUnknown, Memory}
use Rattle.qs_parser.specs.Language.{BeginsLeftOut, IsBeforeType, IsCause, IsRefusedBy, IsRest, IsTooDeep, IsTreeOf, IsUnsupported, IsVersionUnknown, IsWord, Leaves, ParseIs, first_place, is_left_out, left_out}
use Rattle.qs_parser.specs.Once.{NoRefusalBesideTree, RefusalOnce}
use Rattle.qs_parser.specs.Reading.{left_after}
use Rattle.qs_parser.specs.Refusals.{span_of}
use Rattle.qs_parser.specs.steps.Tokens.{begins_word, has_word, is_word}
use Rattle.qs_parser.specs.steps.Globals.{statement_at}
use Rattle.qs_parser.specs.steps.Sources.{is_left_out_word, is_number, refusal_of, statements_at, unknown_version, unsupported, version_at}
use Rattle.qs_parser.proofs.TokenPieces.{Took, chosen, spells_split, took_then, word_kind, word_shown, nothing_spelled}
use Rattle.qs_parser.proofs.SoundParts.{holds_at}
use Rattle.qs_parser.proofs.SoundTop.{sound-statement_at, sound-statements_at, sound-version_at, number_kind}
use Rattle.qs_parser.proofs.CompleteStarts.{Starts, starts_no_version, starts_supported, stmt_starts}
use Rattle.qs_parser.proofs.CompleteTop.{IsCompleteAt, left-is_rest, reads_any, statements_start, tree-once, number_is}
use Rattle.qs_parser.proofs.CompleteIf.{both_ways, not_true}

-- ---- a tree leaves nothing

tree_leaves : (tokens : List Token) (source : Source) → IsTreeOf tokens source → Leaves tokens []
tree_leaves tokens source t = record { front = tokens; split = sym (append-nil tokens); source = source; is = t }

-- a rest of no tokens has no place, and every refusal has one
no_place : (tokens : List Token) (refusal : ParseRefusal) → IsCause tokens [] refusal → None ≡ span_of refusal → ⊥
no_place tokens (NoStatement span) c e = absurd cc
no_place tokens (TooDeep span) c e = absurd cc
no_place tokens (Unsupported span word) c e = absurd cc
no_place tokens (VersionUnknown span) c e = absurd cc
no_place tokens Memory c e = c

pub no-refusal-beside-tree : NoRefusalBesideTree
no-refusal-beside-tree tokens source refusal t r = from r.rest r.is.least r.cause r.place
  where
    from : (rest : List Token) → ((other : List Token) → Leaves tokens other → length rest ≤ length other) → IsCause tokens rest refusal → first_place rest ≡ span_of refusal → ⊥
    from [] least c p = no_place tokens refusal c p
    from (u ∷ us) least c p = absurd (omega (arith, least [] (tree_leaves tokens source t)))

-- ---- tokens have one rest

-- two ends of one list that are as long as each other are the same
same_end : (xs ys us vs : List Token) → xs ++ us ≡ ys ++ vs → length us ≡ length vs → us ≡ vs
same_end [] [] us vs e l = e
same_end [] (y ∷ ys) us vs e l = absurd (omega (arith, ap length e, l, length-append ys vs))
same_end (x ∷ xs) [] us vs e l = absurd (omega (arith, ap length e, l, length-append xs us))
same_end (x ∷ xs) (y ∷ ys) us vs e l = same_end xs ys us vs (tails x y (xs ++ us) (ys ++ vs) e) l
  where
    tails : (a b : Token) (us vs : List Token) → a ∷ us ≡ b ∷ vs → us ≡ vs
    tails a b us vs f = cc

pub rest-once : (tokens rest other : List Token) → IsRest tokens rest → IsRest tokens other → rest ≡ other
rest-once tokens rest other a b =
    same_end a.left.front b.left.front rest other (sym a.left.split ∙ b.left.split) (omega (arith, a.least other b.left, b.least rest a.left))

-- ---- the cause of a word

left_out_word : (word : List ℕ) (t : Token) → IsWord word t → is_left_out word → is_left_out_word t ≡ true
left_out_word word t w l = and_from (has_word t.kind) (list_any (bytes_eq t.text) left_out) (ap has_word w.kind) (ap (λ (x : List ℕ). list_any (bytes_eq x) left_out) w.text ∙ l)

unsupported_first : (t : Token) (ts : List Token) → is_left_out_word t ≡ true → unsupported (t ∷ ts) ≡ Some t.text
unsupported_first t ts e = cond-true (is_left_out_word t) _ _ e

-- whether a token is one of the words before a type
abbrev before_type : Token → Bool
before_type t = is_word (codes "const") t || is_word (codes "input") t || is_word (codes "output") t

unsupported_second : (t u : Token) (us : List Token) → is_left_out_word t ≡ false → before_type t ≡ true → is_left_out_word u ≡ true → unsupported (t ∷ u ∷ us) ≡ Some u.text
unsupported_second t u us n b e = cond-false (is_left_out_word t) _ _ n ∙ (cond-true (before_type t) _ _ b ∙ cond-true (is_left_out_word u) _ _ e)

-- a word before a type is not left out
record BeforeType (t : Token) : Type 0 where
  left : is_left_out_word t ≡ false
  is : before_type t ≡ true

before_type_is : (t : Token) → IsBeforeType t → BeforeType t
before_type_is t (inl w) = record { left = rw (w.kind, w.text) refl; is = rw (w.kind, w.text) refl }
before_type_is t (inr (inl w)) = record { left = rw (w.kind, w.text) refl; is = rw (w.kind, w.text) refl }
before_type_is t (inr (inr w)) = record { left = rw (w.kind, w.text) refl; is = rw (w.kind, w.text) refl }

-- the word is the one that is found
pub unsupported_found : (word : List ℕ) (ts : List Token) → IsUnsupported word ts → unsupported ts ≡ Some word
unsupported_found word [] u = absurd u
unsupported_found word (t ∷ ts) (inl b) = unsupported_first t ts (left_out_word word t b.0 b.1) ∙ ap (λ (x : List ℕ). Some x) b.0.text
unsupported_found word (t ∷ []) (inr b) = absurd b.1
unsupported_found word (t ∷ u ∷ us) (inr b) =
    let w = before_type_is t b.0 in
    unsupported_second t u us w.left w.is (left_out_word word u b.1.0 b.1.1) ∙ ap (λ (x : List ℕ). Some x) b.1.0.text

word_is : (text : List ℕ) (t : Token) → is_word text t ≡ true → IsWord text t
word_is text t e = let w = word_shown text t e in record { kind = w.0; text = w.1 }

is_before_type : (t : Token) → before_type t ≡ true → IsBeforeType t
is_before_type t e = by_words (is_word (codes "const") t) (is_word (codes "input") t) (is_word (codes "output") t) refl refl refl e
  where
    by_words : (a b c : Bool) → is_word (codes "const") t ≡ a → is_word (codes "input") t ≡ b → is_word (codes "output") t ≡ c → (a || b || c) ≡ true → IsBeforeType t
    by_words true b c f g h i = inl (word_is (codes "const") t f)
    by_words false true c f g h i = inr (inl (word_is (codes "input") t g))
    by_words false false true f g h i = inr (inr (word_is (codes "output") t h))
    by_words false false false f g h i = absurd cc

begins_left_out : (word : List ℕ) (t : Token) (ts : List Token) → is_left_out_word t ≡ true → t.text ≡ word → BeginsLeftOut word (t ∷ ts)
begins_left_out word t ts e f =
    let p = and_parts (has_word t.kind) (list_any (bytes_eq t.text) left_out) e in
    (record { kind = word_kind t.kind p.0; text = f }, subst (λ (x : List ℕ). is_left_out x) f p.1)

some_is : (a b : List ℕ) → Some a ≡ Some b → a ≡ b
some_is a b e = cc

no_word_none : (word : List ℕ) (b : Bool) → cond {A = Option (List ℕ)} b None None ≡ Some word → ⊥
no_word_none word true e = absurd cc
no_word_none word false e = absurd cc

-- the word that is found is the one
pub unsupported_is : (word : List ℕ) (ts : List Token) → unsupported ts ≡ Some word → IsUnsupported word ts
unsupported_is word [] e = absurd cc
unsupported_is word (t ∷ []) e = from (chosen (is_left_out_word t) (Some t.text) (cond (before_type t) None None) (Some word) e)
  where
    from : ((is_left_out_word t ≡ true) × (Some t.text ≡ Some word)) ⊎ ((is_left_out_word t ≡ false) × (cond {A = Option (List ℕ)} (before_type t) None None ≡ Some word)) → IsUnsupported word (t ∷ [])
    from (inl h) = inl (begins_left_out word t [] h.0 (some_is t.text word h.1))
    from (inr h) = absurd (no_word_none word (before_type t) h.1)
unsupported_is word (t ∷ u ∷ us) e = from (chosen (is_left_out_word t) (Some t.text) (cond (before_type t) (cond (is_left_out_word u) (Some u.text) None) None) (Some word) e)
  where
    second : ((before_type t ≡ true) × (cond (is_left_out_word u) (Some u.text) None ≡ Some word)) ⊎ ((before_type t ≡ false) × (None ≡ Some word)) → IsUnsupported word (t ∷ u ∷ us)
    second (inl h) = let c = cond_some (is_left_out_word u) u.text word h.1 in inr (is_before_type t h.0, begins_left_out word u us c.0 c.1)
    second (inr h) = absurd (no_word_none word true h.1)

    from : ((is_left_out_word t ≡ true) × (Some t.text ≡ Some word)) ⊎ ((is_left_out_word t ≡ false) × (cond (before_type t) (cond (is_left_out_word u) (Some u.text) None) None ≡ Some word)) → IsUnsupported word (t ∷ u ∷ us)
    from (inl h) = inl (begins_left_out word t (u ∷ us) h.0 (some_is t.text word h.1))
    from (inr h) = second (chosen (before_type t) (cond (is_left_out_word u) (Some u.text) None) None (Some word) h.1)

-- ---- the cause of a version

pub version_found : (tokens : List Token) → IsVersionUnknown tokens → unknown_version tokens ≡ true
version_found [] v = absurd v
version_found (t ∷ []) v = absurd v
version_found (t ∷ number ∷ ts) v = rw (v.0.kind, v.0.text, number_is number.kind v.1, v.2) refl

pub version_is : (tokens : List Token) → unknown_version tokens ≡ true → IsVersionUnknown tokens
version_is [] e = absurd cc
version_is (t ∷ []) e = absurd cc
version_is (t ∷ number ∷ ts) e =
    let p = and_parts (is_word (codes "OPENQASM") t && is_number number.kind) (not (is_version number.text)) e in
    let q = and_parts (is_word (codes "OPENQASM") t) (is_number number.kind) p.0 in
    (word_is (codes "OPENQASM") t q.0, number_kind number.kind q.1, not_true (is_version number.text) p.1)

begins_version : (tokens : List Token) → IsVersionUnknown tokens → begins_word (codes "OPENQASM") tokens ≡ true
begins_version [] v = absurd v
begins_version (t ∷ []) v = absurd v
begins_version (t ∷ number ∷ ts) v = rw (v.0.kind, v.0.text) refl

-- a version line of a known version is none of an unknown one
known_version : (text : List ℕ) (front rest : List Token) → is_version text ≡ true → Spells (spell_version (Some text)) front → IsVersionUnknown (front ++ rest) → ⊥
known_version text [] rest k p v = p
known_version text (t ∷ []) rest k p v = p.1
known_version text (t ∷ number ∷ ts) rest k p v = both_ways (is_version text) k (ap is_version (sym p.1.0.0.1) ∙ v.2)

-- where such a line begins the tokens, nothing is read of them
all_left : (tokens rest : List Token) → IsVersionUnknown tokens → Leaves tokens rest → rest ≡ tokens
all_left tokens rest v l = from l.source.version l.source.body l.is.follows.version l.is.follows.body l.is.spelled
  where
    from : (version : Option (List ℕ)) (body : List Stmt) → IsVersion version → AllByRecursion (IsWellFormed limits) body → Spells (spell_version version ++ flat_map spell_stmt body) l.front → rest ≡ tokens
    from None [] w b p = sym (l.split ∙ ap (λ (us : List Token). us ++ rest) (nothing_spelled l.front p))
    from None (s ∷ ss) w b p =
        absurd (both_ways (begins_word (codes "OPENQASM") tokens) (begins_version tokens v) (ap (begins_word (codes "OPENQASM")) l.split ∙ starts_no_version (l.front ++ rest) (statements_start s ss l.front rest b.0.follows p)))
    from (Some text) body w b p =
        let two = spells_split (spell_version (Some text)) (flat_map spell_stmt body) l.front p in
        let is : tokens ≡ two.front ++ (two.after ++ rest) = l.split ∙ (ap (λ (us : List Token). us ++ rest) two.is ∙ append_assoc two.front two.after rest) in
        absurd (known_version text two.front (two.after ++ rest) w two.spells_front (subst IsVersionUnknown is v))

-- ---- the cause of a depth

-- a statement at the front begins no other cause
deep_starts : (rest : List Token) → (d : IsTooDeep rest) → Starts (may_nest (of_stmt d.stmt).standing) rest
deep_starts rest d = subst (Starts (may_nest (of_stmt d.stmt).standing)) (sym d.split) (stmt_starts d.stmt d.front d.after d.follows.follows d.spelled)

-- it is read within twice the limits
pub record ReadDeep (rest : List Token) : Type 0 where
  pub s : Stmt × List Token
  pub is : statement_at twice_limits.depth twice_limits.operators rest ≡ Some s

deep_read : IsCompleteAt twice_limits.depth twice_limits.operators → (rest : List Token) → IsTooDeep rest → ReadDeep rest
deep_read h rest d =
    let r = (reads_any twice_limits.depth twice_limits.operators h d.stmt d.front d.after d.follows d.spelled).read in
    record { s = (r.what, r.remains); is = ap (statement_at twice_limits.depth twice_limits.operators) d.split ∙ r.is }

deep_is : (rest : List Token) (s : Stmt × List Token) → statement_at twice_limits.depth twice_limits.operators rest ≡ Some s → IsTooDeep rest
deep_is rest s e =
    let a = holds_at (statement_at twice_limits.depth twice_limits.operators rest) s (sound-statement_at twice_limits.depth twice_limits.operators rest) e in
    record { front = a.took.front; after = s.1; split = a.took.is; stmt = s.0; follows = a.follows; spelled = a.took.spells }

-- ---- which refusal

-- the refusal, by the tests
abbrev refusal_by : Span → Bool → Option (List ℕ) → Option (Stmt × List Token) → ParseRefusal
refusal_by span true word deep = VersionUnknown span
refusal_by span false (Some word) deep = Unsupported span word
refusal_by span false None (Some s) = TooDeep span
refusal_by span false None None = NoStatement span

by_tests : (tokens : List Token) (t : Token) (rest : List Token) → refusal_of tokens t rest ≡ refusal_by t.span (unknown_version tokens) (unsupported rest) (statement_at twice_limits.depth twice_limits.operators rest)
unfolding refusal_of
by_tests tokens t rest = split (unknown_version tokens) (unsupported rest) (statement_at twice_limits.depth twice_limits.operators rest)
  where
    split : (b : Bool) (w : Option (List ℕ)) (s : Option (Stmt × List Token)) → cond b (VersionUnknown t.span) (elim w [ Some word ↦ Unsupported t.span word | None ↦ elim s [ Some x ↦ TooDeep t.span | None ↦ NoStatement t.span ] ]) ≡ refusal_by t.span b w s
    split true w s = refl
    split false (Some word) s = refl
    split false None (Some s) = refl
    split false None None = refl

-- what the tests say is the cause
record Cause (tokens rest : List Token) (span : Span) (refusal : ParseRefusal) : Type 0 where
  is : IsCause tokens rest refusal
  place : Some span ≡ span_of refusal

cause_by : IsCompleteAt twice_limits.depth twice_limits.operators → (tokens rest : List Token) (span : Span) (b : Bool) (w : Option (List ℕ)) (s : Option (Stmt × List Token)) → unknown_version tokens ≡ b → unsupported rest ≡ w → statement_at twice_limits.depth twice_limits.operators rest ≡ s → Cause tokens rest span (refusal_by span b w s)
cause_by h tokens rest span true w s e f g = record { is = version_is tokens e; place = refl }
cause_by h tokens rest span false (Some word) s e f g = record { is = unsupported_is word rest f; place = refl }
cause_by h tokens rest span false None (Some s) e f g = record { is = deep_is rest s g; place = refl }
cause_by h tokens rest span false None None e f g = record {
  is = ((λ d. let r = deep_read h rest d in absurd cc), (λ word u. let r = unsupported_found word rest u in absurd cc), (λ v. both_ways (unknown_version tokens) (version_found tokens v) e));
  place = refl;
}

pub refused : IsCompleteAt twice_limits.depth twice_limits.operators → (tokens : List Token) (t : Token) (ts : List Token) → IsRest tokens (t ∷ ts) → IsRefusedBy tokens (refusal_of tokens t (t ∷ ts))
refused h tokens t ts r =
    let c = cause_by h tokens (t ∷ ts) t.span (unknown_version tokens) (unsupported (t ∷ ts)) (statement_at twice_limits.depth twice_limits.operators (t ∷ ts)) refl refl refl in
    subst (IsRefusedBy tokens) (sym (by_tests tokens t (t ∷ ts))) (record { rest = t ∷ ts; is = r; cause = c.is; place = c.place })

-- ---- no tokens have two refusals

none_from : {A : Type 0} (o : Option A) → ((x : A) → o ≡ Some x → ⊥) → o ≡ None
none_from None h = refl
none_from (Some x) h = absurd (h x refl)

by_version : (span : Span) (b : Bool) (w : Option (List ℕ)) (s : Option (Stmt × List Token)) → b ≡ true → refusal_by span b w s ≡ VersionUnknown span
by_version span true w s e = refl
by_version span false w s e = absurd cc

by_word : (span : Span) (b : Bool) (w : Option (List ℕ)) (s : Option (Stmt × List Token)) (word : List ℕ) → b ≡ false → w ≡ Some word → refusal_by span b w s ≡ Unsupported span word
by_word span true w s word e f = absurd cc
by_word span false None s word e f = absurd cc
by_word span false (Some other) s word e f = ap (Unsupported span) (some_is other word f)

by_depth : (span : Span) (b : Bool) (w : Option (List ℕ)) (s : Option (Stmt × List Token)) (x : Stmt × List Token) → b ≡ false → w ≡ None → s ≡ Some x → refusal_by span b w s ≡ TooDeep span
by_depth span true w s x e f g = absurd cc
by_depth span false (Some word) s x e f g = absurd cc
by_depth span false None None x e f g = absurd cc
by_depth span false None (Some y) x e f g = refl

by_none : (span : Span) (b : Bool) (w : Option (List ℕ)) (s : Option (Stmt × List Token)) → b ≡ false → w ≡ None → s ≡ None → refusal_by span b w s ≡ NoStatement span
by_none span true w s e f g = absurd cc
by_none span false (Some word) s e f g = absurd cc
by_none span false None (Some y) e f g = absurd cc
by_none span false None None e f g = refl

-- no version line of an unknown version begins tokens whose rest begins otherwise
no_version_before : (tokens rest : List Token) → Leaves tokens rest → begins_word (codes "OPENQASM") rest ≡ false → unknown_version tokens ≡ false
no_version_before tokens rest l n = false_from_ne_true (unknown_version tokens) (λ e.
    let v = version_is tokens e in
    both_ways (begins_word (codes "OPENQASM") tokens) (begins_version tokens v) (ap (begins_word (codes "OPENQASM")) (sym (all_left tokens rest v l)) ∙ n))

left_out_begins : (word : List ℕ) (ts : List Token) → IsUnsupported word ts → begins_word (codes "OPENQASM") ts ≡ false
left_out_begins word [] u = refl
left_out_begins word (t ∷ ts) (inl b) = false_from_ne_true (is_word (codes "OPENQASM") t) (λ e. let w = word_shown (codes "OPENQASM") t e in clash word (sym b.0.text ∙ w.1) b.1)
  where
    clash : (x : List ℕ) → x ≡ codes "OPENQASM" → is_left_out x → ⊥
    clash x e l = both_ways (list_any (bytes_eq x) left_out) l (ap (λ (y : List ℕ). list_any (bytes_eq y) left_out) e)
left_out_begins word (t ∷ ts) (inr b) = begins_other t b.0
  where
    begins_other : (u : Token) → IsBeforeType u → is_word (codes "OPENQASM") u ≡ false
    begins_other u (inl w) = rw (w.kind, w.text) refl
    begins_other u (inr (inl w)) = rw (w.kind, w.text) refl
    begins_other u (inr (inr w)) = rw (w.kind, w.text) refl

span_is : {span place : Span} → Some span ≡ Some place → place ≡ span
span_is e = cc

-- a refusal with its cause is the one of the tests
refusal_is : IsCompleteAt twice_limits.depth twice_limits.operators → (tokens rest : List Token) (span : Span) (refusal : ParseRefusal) → IsRest tokens rest → IsCause tokens rest refusal → Some span ≡ span_of refusal → refusal ≡ refusal_by span (unknown_version tokens) (unsupported rest) (statement_at twice_limits.depth twice_limits.operators rest)
refusal_is h tokens rest span (VersionUnknown place) r c e = ap VersionUnknown (span_is e) ∙ sym (by_version span (unknown_version tokens) (unsupported rest) (statement_at twice_limits.depth twice_limits.operators rest) (version_found tokens c))
refusal_is h tokens rest span (Unsupported place word) r c e =
    ap (λ (p : Span). Unsupported p word) (span_is e) ∙ sym (by_word span (unknown_version tokens) (unsupported rest) (statement_at twice_limits.depth twice_limits.operators rest) word (no_version_before tokens rest r.left (left_out_begins word rest c)) (unsupported_found word rest c))
refusal_is h tokens rest span (TooDeep place) r c e =
    let s = deep_starts rest c in
    let d = deep_read h rest c in
    ap TooDeep (span_is e) ∙ sym (by_depth span (unknown_version tokens) (unsupported rest) (statement_at twice_limits.depth twice_limits.operators rest) d.s (no_version_before tokens rest r.left (starts_no_version rest s)) (starts_supported rest s) d.is)
refusal_is h tokens rest span (NoStatement place) r c e =
    ap NoStatement (span_is e) ∙ sym (by_none span (unknown_version tokens) (unsupported rest) (statement_at twice_limits.depth twice_limits.operators rest) (false_from_ne_true (unknown_version tokens) (λ f. c.2 (version_is tokens f))) (none_from (unsupported rest) (λ w f. c.1 w (unsupported_is w rest f))) (none_from (statement_at twice_limits.depth twice_limits.operators rest) (λ s f. c.0 (deep_is rest s f))))
refusal_is h tokens rest span Memory r c e = absurd c

refusal_at : IsCompleteAt twice_limits.depth twice_limits.operators → (tokens rest : List Token) (refusal other : ParseRefusal) → IsRest tokens rest → IsCause tokens rest refusal → first_place rest ≡ span_of refusal → IsCause tokens rest other → first_place rest ≡ span_of other → refusal ≡ other
refusal_at h tokens [] refusal other r c e d f = absurd (no_place tokens refusal c e)
refusal_at h tokens (t ∷ ts) refusal other r c e d f = refusal_is h tokens (t ∷ ts) t.span refusal r c e ∙ sym (refusal_is h tokens (t ∷ ts) t.span other r d f)

pub refusal-once : IsCompleteAt twice_limits.depth twice_limits.operators → RefusalOnce
refusal-once h tokens refusal other a b =
    let same : b.rest ≡ a.rest = rest-once tokens b.rest a.rest b.is a.is in
    refusal_at h tokens a.rest refusal other a.is a.cause a.place (subst (λ (us : List Token). IsCause tokens us other) same b.cause) (ap first_place (sym same) ∙ b.place)

-- ---- the account of the whole

-- what is answered by what was read: the tree, or why there is none
abbrev pub answer_of : List Token → Option (List ℕ) → List Stmt × List Token → Result Source ParseRefusal
answer_of tokens version (body, []) = Ok (record { version = version; body = body })
answer_of tokens version (body, t ∷ ts) = Err (refusal_of tokens t (t ∷ ts))

-- what is read of a source
abbrev pub source_of : List Token → Result Source ParseRefusal
source_of tokens = answer_of tokens (version_at tokens).0 (statements_at (length tokens) (version_at tokens).1)

-- a refusal with its cause is what `parse` answers
answers_refusal : (tokens : List Token) (refusal : ParseRefusal) → IsRefusedBy tokens refusal → ParseIs tokens (Err refusal)
answers_refusal tokens (NoStatement span) r = r
answers_refusal tokens (TooDeep span) r = r
answers_refusal tokens (Unsupported span word) r = r
answers_refusal tokens (VersionUnknown span) r = r
answers_refusal tokens Memory r = tt

-- what is read whole is a tree of the tokens
whole_tree : (tokens : List Token) → left_after (length tokens) tokens ≡ [] → IsTreeOf tokens (record { version = (version_at tokens).0; body = (statements_at (length tokens) (version_at tokens).1).0 })
whole_tree tokens e =
    let v = sound-version_at tokens in
    let s = sound-statements_at (length tokens) (version_at tokens).1 in
    let both : Took (spell_version (version_at tokens).0 ++ flat_map spell_stmt (statements_at (length tokens) (version_at tokens).1).0) tokens (left_after (length tokens) tokens) = took_then v.took s.took in
    let same : both.front ≡ tokens = sym (both.is ∙ (ap (λ (us : List Token). both.front ++ us) e ∙ append-nil both.front)) in
    record { follows = record { version = v.known; body = s.follow }; spelled = subst (Spells (spell_version (version_at tokens).0 ++ flat_map spell_stmt (statements_at (length tokens) (version_at tokens).1).0)) same both.spells }

pub source_of-parses : IsCompleteAt limits.depth limits.operators → IsCompleteAt twice_limits.depth twice_limits.operators → (tokens : List Token) → ParseIs tokens (source_of tokens)
source_of-parses h k tokens = from (statements_at (length tokens) (version_at tokens).1) refl
  where
    from : (read : List Stmt × List Token) → statements_at (length tokens) (version_at tokens).1 ≡ read → ParseIs tokens (answer_of tokens (version_at tokens).0 read)
    from (body, []) e =
        let same : (statements_at (length tokens) (version_at tokens).1).0 ≡ body = ap (λ (x : List Stmt × List Token). x.0) e in
        let t = subst (λ (ss : List Stmt). IsTreeOf tokens (record { version = (version_at tokens).0; body = ss })) same (whole_tree tokens (ap (λ (x : List Stmt × List Token). x.1) e)) in
        (t, λ other u. tree-once h tokens other _ u t)
    from (body, t ∷ ts) e = answers_refusal tokens (refusal_of tokens t (t ∷ ts)) (refused k tokens t ts (subst (IsRest tokens) (ap (λ (x : List Stmt × List Token). x.1) e) (left-is_rest h tokens)))
