-- Lists that are read item by item.
use Rattle.std.proofs.Common.{◌≡◌, ℕ, zero, suc, ◌+◌, ◌<◌, true, false, codes, drop, List, [], ◌∷◌, ◌++◌, Some, None, refl, append_assoc, append-nil, ◌∙◌, arith}
use Rattle.qs_lexer.specs.declared.token.Token.{Token}
use Rattle.qs_parser.specs.steps.Tokens.{◌>>=◌, Reads, after_commas, after_sign, begins_sign, up_to_brace}

-- what was read before what is read
abbrev pub prepended : {A : Type 0} → List A → Reads (List A) → Reads (List A)
prepended items None = None
prepended items (Some x) = Some (items ++ x.0, x.1, x.2)

pub nothing_before : {A : Type 0} (r : Reads (List A)) → r ≡ prepended [] r
nothing_before None = refl
nothing_before (Some x) = refl

pub sign_here : (text : List ℕ) (ts : List Token) → begins_sign text ts ≡ true → after_sign text ts ≡ Some (drop 1 ts)
sign_here text [] e = absurd cc
sign_here text (t ∷ ts) e = rw e refl

pub no_sign_here : (text : List ℕ) (ts : List Token) → begins_sign text ts ≡ false → after_sign text ts ≡ None
no_sign_here text [] e = refl
no_sign_here text (t ∷ ts) e = rw e refl

one_more : {A : Type 0} (n : ℕ) (us : List A) → drop 1 (drop n us) ≡ drop (suc n) us
one_more zero us = refl
one_more (suc n) [] = refl
one_more (suc n) (u ∷ us) = one_more n us

pub drop_next : {A : Type 0} (at : ℕ) (ts : List A) → drop 1 (drop at ts) ≡ drop (at + 1) ts
drop_next at ts = let e : at + 1 ≡ suc at = omega arith in rw e (one_more at ts)

-- the end of a list in braces
pub brace_ends : {A : Type 0} (m : ℕ) (item : ℕ → List Token → Reads A) (left at : ℕ) (tokens : List Token) (items : List A) (whole : Reads (List A))
    → whole ≡ prepended items (up_to_brace m item left (drop at tokens)) → 0 < m → begins_sign (codes "}") (drop at tokens) ≡ true
    → whole ≡ Some (items, left, drop (at + 1) tokens)
unfolding up_to_brace
brace_ends zero item left at tokens items whole w n e = absurd (omega (arith, n))
brace_ends (suc m) item left at tokens items whole w n e = w ∙ rw (up_to_brace, sign_here (codes "}") (drop at tokens) e, drop_next at tokens, append-nil items) refl

-- one more item of it, after those that were read
pub brace_goes : {A : Type 0} (m n : ℕ) (item : ℕ → List Token → Reads A) (left : ℕ) (ts : List Token) (items more : List A) (whole : Reads (List A)) (x : A) (l : ℕ) (rest : List Token)
    → whole ≡ prepended items (up_to_brace m item left ts) → m ≡ suc n → begins_sign (codes "}") ts ≡ false → item left ts ≡ Some (x, l, rest) → more ≡ items ++ x ∷ []
    → whole ≡ prepended more (up_to_brace n item l rest)
unfolding up_to_brace
brace_goes zero n item left ts items more whole x l rest w k e r p = absurd (omega (arith, k))
brace_goes (suc m) n item left ts items more whole x l rest w k e r p =
    let same : m ≡ n = omega (arith, k) in
    w ∙ rw (up_to_brace, no_sign_here (codes "}") ts e, r, p, same) (joined (up_to_brace n item l rest))
  where
    joined : (r : Reads (List _)) → prepended items (r >>= λ xs. Some (x ∷ xs.0, xs.1, xs.2)) ≡ prepended (items ++ x ∷ []) r
    joined None = refl
    joined (Some xs) = simp append_assoc refl

-- where an item isn't read, or no turn is left
pub brace_stops : {A : Type 0} (m : ℕ) (item : ℕ → List Token → Reads A) (left : ℕ) (ts : List Token) (items : List A) (whole : Reads (List A))
    → whole ≡ prepended items (up_to_brace m item left ts) → begins_sign (codes "}") ts ≡ false → item left ts ≡ None → whole ≡ None
unfolding up_to_brace
brace_stops zero item left ts items whole w e r = w
brace_stops (suc m) item left ts items whole w e r = w ∙ rw (up_to_brace, no_sign_here (codes "}") ts e, r) refl

pub brace_missing : {A : Type 0} (m : ℕ) (item : ℕ → List Token → Reads A) (left : ℕ) (ts : List Token) (items : List A) (whole : Reads (List A))
    → whole ≡ prepended items (up_to_brace m item left ts) → m ≡ 0 → whole ≡ None
unfolding up_to_brace
brace_missing m item left ts items whole w e = w ∙ rw (e, up_to_brace) refl

-- the end of a list with commas between, before what is no comma
pub commas_end : {A : Type 0} (m : ℕ) (item : ℕ → List Token → Reads A) (left : ℕ) (ts : List Token) (items : List A) (whole : Reads (List A))
    → whole ≡ prepended items (after_commas m item left ts) → begins_sign (codes ",") ts ≡ false → whole ≡ Some (items, left, ts)
unfolding after_commas
commas_end zero item left ts items whole w e = w ∙ rw (after_commas, append-nil items) refl
commas_end (suc m) item left ts items whole w e = w ∙ rw (after_commas, no_sign_here (codes ",") ts e, append-nil items) refl

-- the same, where no turn is left
pub commas_spent : {A : Type 0} (m : ℕ) (item : ℕ → List Token → Reads A) (left : ℕ) (ts : List Token) (items : List A) (whole : Reads (List A))
    → whole ≡ prepended items (after_commas m item left ts) → m ≡ 0 → whole ≡ Some (items, left, ts)
unfolding after_commas
commas_spent m item left ts items whole w k = w ∙ rw (k, after_commas, append-nil items) refl

-- one more item after a comma
pub commas_go : {A : Type 0} (m n : ℕ) (item : ℕ → List Token → Reads A) (left at : ℕ) (tokens : List Token) (items more : List A) (whole : Reads (List A)) (x : A) (l : ℕ) (rest : List Token)
    → whole ≡ prepended items (after_commas m item left (drop at tokens)) → m ≡ suc n → begins_sign (codes ",") (drop at tokens) ≡ true
    → item left (drop (at + 1) tokens) ≡ Some (x, l, rest) → more ≡ items ++ x ∷ []
    → whole ≡ prepended more (after_commas n item l rest)
unfolding after_commas
commas_go zero n item left at tokens items more whole x l rest w k e r p = absurd (omega (arith, k))
commas_go (suc m) n item left at tokens items more whole x l rest w k e r p =
    let same : m ≡ n = omega (arith, k) in
    w ∙ rw (after_commas, sign_here (codes ",") (drop at tokens) e, drop_next at tokens, r, p, same) (joined (after_commas n item l rest))
  where
    joined : (r : Reads (List _)) → prepended items (r >>= λ xs. Some (x ∷ xs.0, xs.1, xs.2)) ≡ prepended (items ++ x ∷ []) r
    joined None = refl
    joined (Some xs) = simp append_assoc refl

-- where the item after a comma isn't read
pub commas_stop : {A : Type 0} (m : ℕ) (item : ℕ → List Token → Reads A) (left at : ℕ) (tokens : List Token) (items : List A) (whole : Reads (List A))
    → whole ≡ prepended items (after_commas m item left (drop at tokens)) → 0 < m → begins_sign (codes ",") (drop at tokens) ≡ true
    → item left (drop (at + 1) tokens) ≡ None → whole ≡ None
unfolding after_commas
commas_stop zero item left at tokens items whole w k e r = absurd (omega (arith, k))
commas_stop (suc m) item left at tokens items whole w k e r = w ∙ rw (after_commas, sign_here (codes ",") (drop at tokens) e, drop_next at tokens, r) refl
