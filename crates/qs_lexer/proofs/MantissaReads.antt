-- A mantissa, read character by character.
use Rattle.std.proofs.Common.{◌≡◌, ℕ, ◌+◌, ◌≤◌, ◌^◌, List, [], ◌∷◌, Bool, true, false, ◌||◌, if◌then◌else◌, nat_eq, cond, not, take, drop, suc, refl, ap, sym, ◌∙◌, arith}
use Rattle.std.specs.Prelude.{min}
use Rattle.std.specs.Char.{is_ascii_digit}
use Rattle.std.specs.List.{count_by, fold, prefix_len}
use Rattle.std.proofs.lemmas.Bool.{eqb-true}
use Rattle.std.proofs.lemmas.List.Sums.{sum_by-cons}
use Rattle.qs_lexer.specs.Values.{behind_mantissa, is_mantissa, is_no_point, mantissa, places, value_of}
use Rattle.qs_lexer.proofs.CutFolds.{cut_digits}
use Rattle.qs_lexer.specs.steps.Mantissas.{IsReadTo, cut_digit_of, places_ahead, places_with}

take_one : (k c : ℕ) (cs : List ℕ) → take (1 + k) (c ∷ cs) ≡ c ∷ take k cs
take_one k c cs = ap (λ n. take n (c ∷ cs)) (let e : 1 + k ≡ suc k = omega arith in e)

drop_one : (k c : ℕ) (cs : List ℕ) → drop (1 + k) (c ∷ cs) ≡ drop k cs
drop_one k c cs = ap (λ n. drop n (c ∷ cs)) (let e : 1 + k ≡ suc k = omega arith in e)

pub mantissa_more : (c : ℕ) (cs : List ℕ) → is_mantissa c ≡ true → mantissa (c ∷ cs) ≡ c ∷ mantissa cs
mantissa_more c cs inside = ap (λ b. take (cond b (1 + prefix_len is_mantissa cs) 0) (c ∷ cs)) inside ∙ take_one (prefix_len is_mantissa cs) c cs

pub behind_more : (c : ℕ) (cs : List ℕ) → is_mantissa c ≡ true → behind_mantissa (c ∷ cs) ≡ behind_mantissa cs
behind_more c cs inside = ap (λ b. drop (cond b (1 + prefix_len is_mantissa cs) 0) (c ∷ cs)) inside ∙ drop_one (prefix_len is_mantissa cs) c cs

pub mantissa_ends : (c : ℕ) (cs : List ℕ) → is_mantissa c ≡ false → mantissa (c ∷ cs) ≡ []
mantissa_ends c cs outside = ap (λ b. take (cond b (1 + prefix_len is_mantissa cs) 0) (c ∷ cs)) outside

pub behind_ends : (c : ℕ) (cs : List ℕ) → is_mantissa c ≡ false → behind_mantissa (c ∷ cs) ≡ c ∷ cs
behind_ends c cs outside = ap (λ b. drop (cond b (1 + prefix_len is_mantissa cs) 0) (c ∷ cs)) outside

-- places by one more character of a mantissa
places_more : (c : ℕ) (m : List ℕ) → places (c ∷ m) ≡ (if nat_eq c 46 then count_by is_ascii_digit (c ∷ m) else places m)
places_more c m = by (nat_eq c 46)
  where
    by : (b : Bool) → count_by is_ascii_digit (drop (cond (not b) (1 + prefix_len is_no_point m) 0) (c ∷ m)) ≡ (if b then count_by is_ascii_digit (c ∷ m) else places m)
    by true = refl
    by false = ap (count_by is_ascii_digit) (drop_one (prefix_len is_no_point m) c m)

count_more : (c : ℕ) (m : List ℕ) → count_by is_ascii_digit (c ∷ m) ≡ cond (is_ascii_digit c) 1 0 + count_by is_ascii_digit m
count_more c m = sum_by-cons (λ d. cond (is_ascii_digit d) 1 0) c m

-- the point is no digit
point_counts : (c : ℕ) (m : List ℕ) → c ≡ 46 → count_by is_ascii_digit (c ∷ m) ≡ count_by is_ascii_digit m
point_counts c m e = ap (λ d. count_by is_ascii_digit (d ∷ m)) e ∙ count_more 46 m ∙ omega arith

pub places_near : (pointed : Bool) (n c : ℕ) → places_with pointed n c ≤ n + 1
places_near true n c = by (is_ascii_digit c)
  where
    by : (b : Bool) → (if b then n + 1 else n) ≤ n + 1
    by true = omega arith
    by false = omega arith
places_near false n c = omega arith

pub places_step : (pointed : Bool) (n c : ℕ) (m : List ℕ) → places_with pointed n c + places_ahead (pointed || nat_eq c 46) m ≡ n + places_ahead pointed (c ∷ m)
places_step true n c m = by (is_ascii_digit c) ∙ ap (λ k. n + k) (sym (count_more c m))
  where
    by : (b : Bool) → (if b then n + 1 else n) + count_by is_ascii_digit m ≡ n + (cond b 1 0 + count_by is_ascii_digit m)
    by true = omega arith
    by false = omega arith
places_step false n c m = by (nat_eq c 46) refl
  where
    by : (b : Bool) → nat_eq c 46 ≡ b → n + places_ahead b m ≡ n + places (c ∷ m)
    by true e = ap (λ k. n + k) (sym (places_more c m ∙ ap (λ b. if b then count_by is_ascii_digit (c ∷ m) else places m) e ∙ point_counts c m (eqb-true c 46 e)))
    by false e = ap (λ k. n + k) (sym (places_more c m ∙ ap (λ b. if b then count_by is_ascii_digit (c ∷ m) else places m) e))

pub read_begins : (all : List ℕ) → IsReadTo all all 0 0 false
read_begins all = record { same = refl; places = omega arith; behind = refl }

pub read_one_more : (all : List ℕ) (value n c : ℕ) (pointed : Bool) (cs : List ℕ) → is_mantissa c ≡ true → IsReadTo all (c ∷ cs) value n pointed → IsReadTo all cs (cut_digit_of value c) (places_with pointed n c) (pointed || nat_eq c 46)
read_one_more all value n c pointed cs inside read = record {
  same = ap (fold cut_digit_of value) (sym (mantissa_more c cs inside)) ∙ read.same;
  places = places_step pointed n c (mantissa cs) ∙ ap (λ m. n + places_ahead pointed m) (sym (mantissa_more c cs inside)) ∙ read.places;
  behind = sym (behind_more c cs inside) ∙ read.behind;
}

nothing_ahead : (pointed : Bool) → places_ahead pointed [] ≡ 0
nothing_ahead true = refl
nothing_ahead false = refl

-- where the mantissa ends
pub read_ends : (all text : List ℕ) (value n : ℕ) (pointed : Bool) → mantissa text ≡ [] → behind_mantissa text ≡ text → IsReadTo all text value n pointed
    → (value ≡ min (value_of 10 (mantissa all)) (10 ^ 36)) × (n ≡ places (mantissa all)) × (text ≡ behind_mantissa all)
read_ends all text value n pointed none rest read = (
  sym (ap (fold cut_digit_of value) none) ∙ read.same ∙ cut_digits 10 (10 ^ 36) (omega arith) (mantissa all),
  omega (arith, read.places, ap (places_ahead pointed) none, nothing_ahead pointed),
  sym rest ∙ read.behind,
)
