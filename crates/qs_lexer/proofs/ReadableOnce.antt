-- The readable front of a source is one.
use Rattle.std.proofs.Common.{◌≡◌, ◌⊎◌, inl, inr, ℕ, List, [], ◌∷◌, ◌++◌, true, length, refl, sym, ap, ◌∙◌, append_assoc, arith, length-append}
use lib.Utf8.{encode, encodes, scalars}
use Rattle.std.proofs.lemmas.Bool.{and_parts}
use Rattle.std.proofs.lemmas.Str.{encode_same, len_utf8_bounds, length-encode}
use Rattle.std.specs.Char.{IsScalar}
use Rattle.std.specs.Str.{StartsWithNoChar}
use Rattle.qs_lexer.specs.Lexed.{IsReadable}

-- no character begins what is left
abbrev Ends : List ℕ → Type 0
Ends t = (t ≡ []) ⊎ StartsWithNoChar t

ended : (c : ℕ) (t u : List ℕ) → IsScalar c → Ends t → t ≡ encode c ++ u → ⊥
ended c t u scalar (inl none) begins = omega (arith, ap length none, ap length begins, length-append (encode c) u, length-encode c, (len_utf8_bounds c).0)
ended c t u scalar (inr no_char) begins = no_char c u scalar begins

same_texts : (cs ds t u : List ℕ) → scalars cs ≡ true → scalars ds ≡ true → Ends t → Ends u → encodes cs ++ t ≡ encodes ds ++ u → (cs ≡ ds) × (t ≡ u)
same_texts [] [] t u left right t_ends u_ends same = (refl, same)
same_texts [] (d ∷ ds) t u left right t_ends u_ends same =
    absurd (ended d t (encodes ds ++ u) (and_parts _ _ right).0 t_ends (same ∙ append_assoc (encode d) (encodes ds) u))
same_texts (c ∷ cs) [] t u left right t_ends u_ends same =
    absurd (ended c u (encodes cs ++ t) (and_parts _ _ left).0 u_ends (sym same ∙ append_assoc (encode c) (encodes cs) t))
same_texts (c ∷ cs) (d ∷ ds) t u left right t_ends u_ends same =
    let one = encode_same c d (encodes cs ++ t) (encodes ds ++ u) (sym (append_assoc (encode c) (encodes cs) t) ∙ same ∙ append_assoc (encode d) (encodes ds) u) in
    let others : (cs ≡ ds) × (t ≡ u) = same_texts cs ds t u (and_parts _ _ left).1 (and_parts _ _ right).1 t_ends u_ends one.1 in
    (λ i. one.0 i ∷ others.0 i, others.1)

pub readable_once : {bytes f t g u : List ℕ} → IsReadable bytes f t → IsReadable bytes g u → (f ≡ g) × (t ≡ u)
readable_once {bytes} {f} {t} {g} {u} one other =
    let whole = ap (λ x. x ++ t) one.utf8.1.1 ∙ sym one.whole ∙ other.whole ∙ sym (ap (λ x. x ++ u) other.utf8.1.1) in
    let same = same_texts one.utf8.0 other.utf8.0 t u one.utf8.1.0 other.utf8.1.0 one.ends other.ends whole in
    (sym one.utf8.1.1 ∙ ap encodes same.0 ∙ other.utf8.1.1, same.1)
