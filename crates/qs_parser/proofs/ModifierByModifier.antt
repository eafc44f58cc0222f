-- Modifiers that are read one by one.
use Rattle.std.proofs.Common.{◌≡◌, ℕ, zero, suc, ◌<◌, List, [], ◌∷◌, ◌++◌, Option, Some, None, refl, append_assoc, append-nil, ◌∙◌, arith}
use Rattle.qs_lexer.specs.declared.token.Token.{Token}
use Rattle.qs_tree.specs.declared.gate.Modifier.{Modifier}
use Rattle.qs_parser.specs.steps.Tokens.{◌>>=◌, Readers, Reads}
use Rattle.qs_parser.specs.steps.Statements.{modifier_of, modifier_word, modifiers_at}
use Rattle.qs_parser.proofs.ItemByItem.{prepended}

-- where no modifier is left, or no turn
pub modifiers_end : (m : ℕ) (b : Option Readers) (renew left : ℕ) (ts : List Token) (items : List Modifier) (whole : Reads (List Modifier))
    → whole ≡ prepended items (modifiers_at m b renew left ts) → modifier_word ts ≡ None → whole ≡ Some (items, left, ts)
unfolding modifiers_at
modifiers_end zero b renew left ts items whole w e = w ∙ rw (modifiers_at, append-nil items) refl
modifiers_end (suc m) b renew left ts items whole w e = w ∙ rw (modifiers_at, e, append-nil items) refl

pub modifiers_over : (m : ℕ) (b : Option Readers) (renew left : ℕ) (ts : List Token) (items : List Modifier) (whole : Reads (List Modifier))
    → whole ≡ prepended items (modifiers_at m b renew left ts) → m ≡ 0 → whole ≡ Some (items, left, ts)
unfolding modifiers_at
modifiers_over m b renew left ts items whole w e = w ∙ rw (e, modifiers_at, append-nil items) refl

-- one more modifier, after those that were read
pub modifiers_go : (m n : ℕ) (b : Option Readers) (renew left : ℕ) (ts : List Token) (items more : List Modifier) (whole : Reads (List Modifier)) (text : List ℕ) (rest : List Token) (x : Modifier) (l : ℕ) (us : List Token)
    → whole ≡ prepended items (modifiers_at m b renew left ts) → m ≡ suc n → modifier_word ts ≡ Some (text, rest) → modifier_of b renew left text rest ≡ Some (x, l, us) → more ≡ items ++ x ∷ []
    → whole ≡ prepended more (modifiers_at n b renew l us)
unfolding modifiers_at
modifiers_go zero n b renew left ts items more whole text rest x l us w k e r p = absurd (omega (arith, k))
modifiers_go (suc m) n b renew left ts items more whole text rest x l us w k e r p =
    let same : m ≡ n = omega (arith, k) in
    w ∙ rw (modifiers_at, e, r, p, same) (joined (modifiers_at n b renew l us))
  where
    joined : (r : Reads (List Modifier)) → prepended items (r >>= λ xs. Some (x ∷ xs.0, xs.1, xs.2)) ≡ prepended (items ++ x ∷ []) r
    joined None = refl
    joined (Some xs) = simp append_assoc refl

-- where a modifier isn't read after its word
pub modifiers_stop : (m : ℕ) (b : Option Readers) (renew left : ℕ) (ts : List Token) (items : List Modifier) (whole : Reads (List Modifier)) (text : List ℕ) (rest : List Token)
    → whole ≡ prepended items (modifiers_at m b renew left ts) → 0 < m → modifier_word ts ≡ Some (text, rest) → modifier_of b renew left text rest ≡ None → whole ≡ None
unfolding modifiers_at
modifiers_stop zero b renew left ts items whole text rest w n e r = absurd (omega (arith, n))
modifiers_stop (suc m) b renew left ts items whole text rest w n e r = w ∙ rw (modifiers_at, e, r) refl
