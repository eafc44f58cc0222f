-- Hexadecimal digits of few bytes, read byte by byte.
use Rattle.std.proofs.Common.{◌≡◌, ℕ, ◌+◌, ◌-◌, ◌*◌, ◌<◌, ◌≤◌, ◌^◌, List, ◌∷◌, Bool, true, false, cond, length, suc, refl, sym, ap, ◌∙◌, subst, arith}
use Rattle.std.specs.Char.{digit_value, is_digit}
use Rattle.std.specs.List.{fold}
use Rattle.std.specs.Str.{chars}
use Rattle.std.proofs.Math.Nat.{one-le-pow, pow-le-pow_right}
use Rattle.std.proofs.lemmas.Bool.Decides.{nat_tests}
use Rattle.std.proofs.lemmas.Grind.{pow_more}
use Rattle.qs_lexer.specs.Values.{value_of, with_digit}
use Rattle.qs_lexer.proofs.AsciiRuns.{first_char_is}
use Rattle.qs_lexer.proofs.TextLemmas.{chars_at_end}

-- ---- one digit

adds : (n c d : ℕ) → is_digit c 16 ≡ true → digit_value c ≡ d → n * 16 + d ≡ with_digit 16 n c
adds n c d is value = sym (ap (λ b. cond b (n * 16 + digit_value c) n) is ∙ ap (λ v. n * 16 + v) value)

decimal_value : (c : ℕ) → 48 ≤ c → c ≤ 57 → digit_value c ≡ c - 48
decimal_value c low high = grind (arith, nat_tests)

decimal_is : (c : ℕ) → 48 ≤ c → c ≤ 57 → is_digit c 16 ≡ true
decimal_is c low high = grind (arith, nat_tests)

small_value : (c : ℕ) → 97 ≤ c → c ≤ 102 → digit_value c ≡ c - 87
small_value c low high = grind (arith, nat_tests)

small_is : (c : ℕ) → 97 ≤ c → c ≤ 102 → is_digit c 16 ≡ true
small_is c low high = grind (arith, nat_tests)

capital_value : (c : ℕ) → 65 ≤ c → c ≤ 70 → digit_value c ≡ c - 55
capital_value c low high = grind (arith, nat_tests)

capital_is : (c : ℕ) → 65 ≤ c → c ≤ 70 → is_digit c 16 ≡ true
capital_is c low high = grind (arith, nat_tests)

pub decimal_adds : (n c : ℕ) → 48 ≤ c → c ≤ 57 → n * 16 + (c - 48) ≡ with_digit 16 n c
decimal_adds n c low high = adds n c (c - 48) (decimal_is c low high) (decimal_value c low high)

pub small_adds : (n c : ℕ) → 97 ≤ c → c ≤ 102 → n * 16 + (c - 87) ≡ with_digit 16 n c
small_adds n c low high = adds n c (c - 87) (small_is c low high) (small_value c low high)

pub capital_adds : (n c : ℕ) → 65 ≤ c → c ≤ 70 → n * 16 + (c - 55) ≡ with_digit 16 n c
capital_adds n c low high = adds n c (c - 55) (capital_is c low high) (capital_value c low high)

pub line_adds : (n c : ℕ) → c ≡ 95 → n ≡ with_digit 16 n c
line_adds n c e = sym (ap (with_digit 16 n) e)

-- ---- several digits

-- So much is read of hexadecimal digits, where `rest` is left of `bytes`.
pub record IsReadTo (bytes : List ℕ) (value : ℕ) (rest : List ℕ) : Type 0 where
  pub few : length rest ≤ 15
  pub small : value < 16 ^ (15 - length rest)
  pub same : fold (with_digit 16) value (chars rest) ≡ value_of 16 (chars bytes)

pub read_none : (bytes : List ℕ) → length bytes ≤ 15 → IsReadTo bytes 0 bytes
read_none bytes few = record { few = few; small = omega (arith, one-le-pow (15 - length bytes) 16 (omega arith)); same = refl }

pub small_before : (bytes rest : List ℕ) (value : ℕ) → IsReadTo bytes value rest → value < 16 ^ 15
small_before bytes rest value read = omega (arith, read.small, pow-le-pow_right {n = 16} (omega arith) {i = 15 - length rest} {j = 15} (omega arith))

digit_below : (c : ℕ) → is_digit c 16 ≡ true → digit_value c < 16
digit_below c h = grind (arith, nat_tests)

digit_adds : (n c k : ℕ) → n < 16 ^ k → with_digit 16 n c < 16 ^ (k + 1)
digit_adds n c k small = by (is_digit c 16) refl
  where
    by : (b : Bool) → is_digit c 16 ≡ b → cond b (n * 16 + digit_value c) n < 16 ^ (k + 1)
    by true h = omega (arith, small, pow_more 16 k, digit_below c h)
    by false h = omega (arith, small, pow_more 16 k)

small_after : (value c left : ℕ) → suc left ≤ 15 → value < 16 ^ (15 - suc left) → with_digit 16 value c < 16 ^ (15 - left)
small_after value c left few small =
    subst (λ k. with_digit 16 value c < 16 ^ k) (let e : 15 - suc left + 1 ≡ 15 - left = omega arith in e) (digit_adds value c (15 - suc left) small)

pub read_more : (bytes rest after : List ℕ) (value more b : ℕ) → IsReadTo bytes value rest → rest ≡ b ∷ after → (b < 128) × (more ≡ with_digit 16 value b) → IsReadTo bytes more after
read_more bytes rest after value more b read is adds =
    let size : length rest ≡ suc (length after) = ap length is in
    let small = subst (λ n. value < 16 ^ (15 - n)) size read.small in
    subst (λ v. IsReadTo bytes v after) (sym adds.1) (record {
      few = omega (arith, read.few, size);
      small = small_after value b (length after) (omega (arith, read.few, size)) small;
      same = sym (ap (fold (with_digit 16) value) (first_char_is b rest after is adds.0)) ∙ read.same;
    })

pub read_all : (bytes rest : List ℕ) (value : ℕ) → IsReadTo bytes value rest → length rest ≡ 0 → (value < 16 ^ 15) × (value ≡ value_of 16 (chars bytes))
read_all bytes rest value read none = (small_before bytes rest value read, sym (ap (fold (with_digit 16) value) (chars_at_end rest none)) ∙ read.same)
