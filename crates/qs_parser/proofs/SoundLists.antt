-- What is read with commas between, and up to a brace, is as what is read once.
use Rattle.std.proofs.Common.{◌≡◌, ℕ, zero, suc, true, List, [], ◌∷◌, ◌++◌, length, map, codes, refl, append_assoc}
use Rattle.qs_lexer.specs.declared.token.Token.{Token}
use Rattle.qs_tree.specs.Spelling.{Piece, joined, sign, with_commas, after_commas as spell_after_commas}
use Rattle.qs_tree.specs.WellFormed.{Features, all, is_some}
use Rattle.qs_parser.specs.steps.Tokens.{Reads, after_commas, after_sign, commas, up_to_brace}
use Rattle.qs_parser.proofs.TokenPieces.{Took, took_nothing, took_sign, took_then}
use Rattle.qs_parser.proofs.SoundParts.{Holds, Read, counted_both, counted_nothing, holds_bind, holds_either, holds_some}

-- a reader of one of them
abbrev pub IsItem : {A : Type 0} → (A → List Piece) → (A → Features) → (d renew : ℕ) → ((left : ℕ) → List Token → Reads A) → Type 0
IsItem spelled features d renew item = (left : ℕ) (ts : List Token) → Holds (item left ts) (λ y. Read (spelled y.0) (features y.0) d renew left ts y.1 y.2)

pub sound-after_commas : {A : Type 0} (spelled : A → List Piece) (features : A → Features) (d renew : ℕ) (item : (left : ℕ) → List Token → Reads A) → IsItem spelled features d renew item → (n left : ℕ) (ts : List Token) → Holds (after_commas n item left ts) (λ y. Read (spell_after_commas (map spelled y.0)) (all (map features y.0)) d renew left ts y.1 y.2)
unfolding after_commas
sound-after_commas spelled features d renew item h zero left ts = holds_some ([], left, ts) (record { took = took_nothing ts; counted = counted_nothing })
sound-after_commas spelled features d renew item h (suc n) left ts =
    holds_either (after_sign (codes ",") ts) (λ e. holds_some ([], left, ts) (record { took = took_nothing ts; counted = counted_nothing })) (λ rest e.
    holds_bind (h left rest) (λ x a.
    holds_bind (sound-after_commas spelled features d renew item h n x.1 x.2) (λ xs b.
    holds_some (x.0 ∷ xs.0, xs.1, xs.2) (record { took = took_then (took_sign (codes ",") ts rest e) (took_then a.took b.took); counted = counted_both a.counted b.counted }))))

-- one or more, with commas between
pub record ReadMany {A : Type 0} (spelled : A → List Piece) (features : A → Features) (d renew left : ℕ) (ts : List Token) (y : List A × ℕ × List Token) : Type 0 where
  pub read : Read (with_commas (map spelled y.0)) (all (map features y.0)) d renew left ts y.1 y.2
  pub some : is_some (map features y.0) ≡ true

pub sound-commas : {A : Type 0} (spelled : A → List Piece) (features : A → Features) (d renew : ℕ) (item : (left : ℕ) → List Token → Reads A) → IsItem spelled features d renew item → (left : ℕ) (ts : List Token) → Holds (commas item left ts) (ReadMany spelled features d renew left ts)
sound-commas spelled features d renew item h left ts =
    holds_bind (h left ts) (λ x a.
    holds_bind (sound-after_commas spelled features d renew item h (length x.2) x.1 x.2) (λ xs b.
    holds_some (x.0 ∷ xs.0, xs.1, xs.2) (record { read = record { took = took_then a.took b.took; counted = counted_both a.counted b.counted }; some = refl })))

-- any number, and the brace after them
pub sound-up_to_brace : {A : Type 0} (spelled : A → List Piece) (features : A → Features) (d renew : ℕ) (item : (left : ℕ) → List Token → Reads A) → IsItem spelled features d renew item → (n left : ℕ) (ts : List Token) → Holds (up_to_brace n item left ts) (λ y. Read (joined (map spelled y.0) ++ sign (codes "}")) (all (map features y.0)) d renew left ts y.1 y.2)
unfolding up_to_brace
sound-up_to_brace spelled features d renew item h zero left ts = record { is = tt }
sound-up_to_brace spelled features d renew item h (suc n) left ts =
    holds_either (after_sign (codes "}") ts) (λ e.
    holds_bind (h left ts) (λ x a.
    holds_bind (sound-up_to_brace spelled features d renew item h n x.1 x.2) (λ xs b.
    let both : Took (spelled x.0 ++ (joined (map spelled xs.0) ++ sign (codes "}"))) ts xs.2 = took_then a.took b.took in
    holds_some (x.0 ∷ xs.0, xs.1, xs.2) (record { took = rw append_assoc both; counted = counted_both a.counted b.counted }))))
    (λ rest e. holds_some ([], left, rest) (record { took = took_sign (codes "}") ts rest e; counted = counted_nothing }))
