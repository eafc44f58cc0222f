-- A mantissa of few bytes, read byte by byte.
use Rattle.std.proofs.Common.{◌≡◌, ℕ, ◌+◌, ◌-◌, ◌*◌, ◌<◌, ◌≤◌, ◌^◌, List, [], ◌∷◌, ◌++◌, Bool, true, false, ◌||◌, cond, nat_eq, if◌then◌else◌, length, drop, suc, refl, sym, ap, ◌∙◌, subst, arith, append_assoc, length-append}
use Rattle.std.specs.Prelude.{not}
use Rattle.std.specs.Bool.{OnTrue}
use Rattle.std.specs.Char.{digit_value, is_ascii_digit}
use Rattle.std.specs.Str.{IsUtf8, chars}
use Rattle.std.proofs.Math.Nat.{min-eq_left, pow-le-pow_right}
use Rattle.std.proofs.Math.Seq.{drop-append_seam}
use Rattle.std.proofs.lemmas.Bool.Decides.{nat_tests}
use Rattle.std.proofs.lemmas.Grind.{pow_more}
use Rattle.std.proofs.lemmas.Str.{IsCharBoundary-after_ascii, IsUtf8-append, IsUtf8-drop, IsUtf8-from_ascii, IsUtf8-nil}
use Rattle.qs_lexer.specs.Values.{behind_mantissa, is_mantissa, mantissa, with_digit}
use Rattle.qs_lexer.specs.steps.Mantissas.{EndsMantissa, GoesOn, IsMantissa, IsReadTo, ReadsUpTo, cut_digit_of, places_with}
use Rattle.qs_lexer.specs.steps.Scan.{IsBehind}
use Rattle.qs_lexer.proofs.AsciiRuns.{first_char_is, one_ascii}
use Rattle.qs_lexer.proofs.LeadingDigits.{digit_below, is_decimal}
use Rattle.qs_lexer.proofs.MantissaReads.{behind_ends, mantissa_ends, places_near, read_begins, read_ends, read_one_more}
use Rattle.qs_lexer.proofs.PieceLemmas.{front_length}
use Rattle.qs_lexer.proofs.TextLemmas.{chars_at_end}

-- ---- what stands after a byte of ASCII

utf8_after : (b : ℕ) (t : List ℕ) → b < 128 → IsUtf8 (b ∷ t) → IsUtf8 t
utf8_after b t small utf8 = IsUtf8-drop (b ∷ t) 1 utf8 (IsCharBoundary-after_ascii (b ∷ t) 0 utf8 (omega arith) small)

pub behind_one : (all rest after : List ℕ) (b : ℕ) → rest ≡ b ∷ after → b < 128 → IsBehind all rest → IsBehind all after
behind_one all rest after b is small at = (
  at.0 ++ b ∷ [],
  IsUtf8-append at.0 (b ∷ []) at.1 (IsUtf8-from_ascii (b ∷ []) (one_ascii b small)),
  utf8_after b after small (subst IsUtf8 is at.2),
  at.3 ∙ ap (λ t. at.0 ++ t) is ∙ sym (append_assoc at.0 (b ∷ []) after),
)

pub behind_all : (text : List ℕ) → IsUtf8 text → IsBehind text text
behind_all text utf8 = ([], IsUtf8-nil, utf8, refl)

-- what is cut off before it
pub left_is : (text rest left : List ℕ) → IsBehind text rest → left ≡ drop (length text - length rest) text → left ≡ rest
left_is text rest left at cut =
    cut ∙ ap (λ n. drop n text) (front_length text at.0 rest at.3) ∙ ap (drop (length at.0)) at.3 ∙ drop-append_seam at.0 rest

-- ---- one more digit

pub digit_adds : (n c k : ℕ) → n < 10 ^ k → with_digit 10 n c < 10 ^ (k + 1)
digit_adds n c k small = by (is_decimal c) refl
  where
    by : (b : Bool) → is_decimal c ≡ b → cond b (n * 10 + digit_value c) n < 10 ^ (k + 1)
    by true h = omega (arith, small, pow_more 10 k, digit_below c h)
    by false h = omega (arith, small, pow_more 10 k)

pub power_within : (k : ℕ) → k ≤ 18 → 10 ^ k ≤ 10 ^ 18
power_within k h = pow-le-pow_right {n = 10} (omega arith) h

pub small_before : (value left : ℕ) → value < 10 ^ (18 - left) → value < 10 ^ 18
small_before value left small = omega (arith, small, power_within (18 - left) (omega arith))

pub small_after : (value c left : ℕ) → suc left ≤ 18 → value < 10 ^ (18 - suc left) → with_digit 10 value c < 10 ^ (18 - left)
small_after value c left few small =
    subst (λ k. with_digit 10 value c < 10 ^ k) (let e : 18 - suc left + 1 ≡ 18 - left = omega arith in e) (digit_adds value c (18 - suc left) small)

uncut : (value c : ℕ) → value < 10 ^ 18 → cut_digit_of value c ≡ with_digit 10 value c
uncut value c small = min-eq_left (omega (arith, digit_adds value c 18 small))

pub reads_none : (pointed : Bool) (bytes : List ℕ) (value count : ℕ) → count + length bytes ≤ 18 → value < 10 ^ (18 - length bytes) → ReadsUpTo pointed pointed bytes value count value count bytes
reads_none pointed bytes value count few small = record { few = few; small = small; behind = λ all at. at; read = λ all read. read }

read_step : (all rest after : List ℕ) (b value count : ℕ) (pointed : Bool) → rest ≡ b ∷ after → b < 128 → is_mantissa b ≡ true → value < 10 ^ 18 → IsReadTo all (chars rest) value count pointed
    → IsReadTo all (chars after) (with_digit 10 value b) (places_with pointed count b) (pointed || nat_eq b 46)
read_step all rest after b value count pointed is small inside below read =
    let here = subst (λ t. IsReadTo all t value count pointed) (first_char_is b rest after is small) read in
    subst (λ v. IsReadTo all (chars after) v (places_with pointed count b) (pointed || nat_eq b 46)) (uncut value b below) (read_one_more all value count b pointed (chars after) inside here)

pub reads_more : (pointed : Bool) (bytes : List ℕ) (before count value places_read : ℕ) (rest after : List ℕ) (b : ℕ) → ReadsUpTo pointed pointed bytes before count value places_read rest → rest ≡ b ∷ after → GoesOn pointed b
    → ReadsUpTo pointed pointed bytes before count (with_digit 10 value b) (places_with pointed places_read b) after
reads_more pointed bytes before count value places_read rest after b reads is on =
    let size : length rest ≡ suc (length after) = ap length is in
    let small = subst (λ n. value < 10 ^ (18 - n)) size reads.small in
    record {
      few = omega (arith, reads.few, size, places_near pointed places_read b);
      small = small_after value b (length after) (omega (arith, reads.few, size)) small;
      behind = λ all at. behind_one all rest after b is on.ascii (reads.behind all at);
      read = λ all read. subst (IsReadTo all (chars after) (with_digit 10 value b) (places_with pointed places_read b)) on.same (read_step all rest after b value places_read pointed is on.ascii on.inside (small_before value (length rest) reads.small) (reads.read all read));
    }

digit_ascii : (b : ℕ) → is_ascii_digit b ≡ true → b < 128
digit_ascii b h = grind (arith, nat_tests)

digit_no_point : (b : ℕ) → is_ascii_digit b ≡ true → nat_eq b 46 ≡ false
digit_no_point b h = grind (arith, nat_tests)

or_false : (a : Bool) → (a || false) ≡ a
or_false true = refl
or_false false = refl

pub digit_goes_on : (pointed : Bool) (b : ℕ) → is_ascii_digit b ≡ true → GoesOn pointed b
digit_goes_on pointed b h = record {
  ascii = digit_ascii b h;
  inside = ap (λ d. d || nat_eq b 95 || nat_eq b 46) h;
  same = ap (λ d. pointed || d) (digit_no_point b h) ∙ or_false pointed;
}

no_decimal : (b : ℕ) → is_ascii_digit b ≡ false → is_decimal b ≡ false
no_decimal b h = grind (arith, nat_tests)

places_kept : (pointed : Bool) (n b : ℕ) → is_ascii_digit b ≡ false → places_with pointed n b ≡ n
places_kept true n b h = ap (λ d. if d then n + 1 else n) h
places_kept false n b h = refl

-- a byte that is no digit
pub reads_kept : (pointed : Bool) (bytes : List ℕ) (before count value places_read : ℕ) (rest after : List ℕ) (b : ℕ) → ReadsUpTo pointed pointed bytes before count value places_read rest → rest ≡ b ∷ after → GoesOn pointed b → is_ascii_digit b ≡ false
    → ReadsUpTo pointed pointed bytes before count value places_read after
reads_kept pointed bytes before count value places_read rest after b reads is on h =
    let more = reads_more pointed bytes before count value places_read rest after b reads is on in
    let kept : with_digit 10 value b ≡ value = ap (λ d. cond d (value * 10 + digit_value b) value) (no_decimal b h) in
    subst (λ v. ReadsUpTo pointed pointed bytes before count v places_read after) kept
    (subst (λ p. ReadsUpTo pointed pointed bytes before count (with_digit 10 value b) p after) (places_kept pointed places_read b h) more)

-- ---- the point

pub reads_point : (bytes after : List ℕ) (before count value places_read : ℕ) (rest : List ℕ) → bytes ≡ 46 ∷ after → before < 10 ^ (18 - length bytes) → ReadsUpTo true true after before count value places_read rest → ReadsUpTo true false bytes before count value places_read rest
reads_point bytes after before count value places_read rest is small reads = record {
  few = reads.few;
  small = reads.small;
  behind = λ all at. reads.behind all (behind_one all bytes after 46 is (omega arith) at);
  read = λ all read. reads.read all (read_step all bytes after 46 before count false is (omega arith) refl (small_before before (length bytes) small) read);
}

pub small_past : (before : ℕ) (bytes after : List ℕ) (b : ℕ) → bytes ≡ b ∷ after → length bytes ≤ 18 → before < 10 ^ (18 - length bytes) → before < 10 ^ (18 - length after)
small_past before bytes after b is few small =
    omega (arith, small, pow-le-pow_right {n = 10} (omega arith) {i = 18 - length bytes} {j = 18 - length after} (omega (arith, ap length is)))

-- ---- the end

pub nothing_ends : (rest : List ℕ) → length rest ≡ 0 → EndsMantissa rest
nothing_ends rest none =
    let end = chars_at_end rest none in
    record { none = ap mantissa end; behind = ap behind_mantissa end ∙ sym end }

other_ends : (rest after : List ℕ) (b : ℕ) → rest ≡ b ∷ after → b < 128 → is_mantissa b ≡ false → EndsMantissa rest
other_ends rest after b is small outside =
    let first = first_char_is b rest after is small in
    record {
      none = ap mantissa first ∙ mantissa_ends b (chars after) outside;
      behind = ap behind_mantissa first ∙ behind_ends b (chars after) outside ∙ sym first;
    }

pub ends_if : (rest after : List ℕ) (b : ℕ) → rest ≡ b ∷ after → b < 128 → (inside : Bool) → inside ≡ is_mantissa b → OnTrue (not inside) (EndsMantissa rest)
ends_if rest after b is small true e = tt
ends_if rest after b is small false e = other_ends rest after b is small (sym e)

pub read_behind : (text point rest : List ℕ) (whole count value places_read : ℕ) (onto : Bool) → IsUtf8 text → ReadsUpTo false false text 0 0 whole count point → ReadsUpTo onto false point whole count value places_read rest → IsBehind text rest
read_behind text point rest whole count value places_read onto utf8 front part = part.behind text (front.behind text (behind_all text utf8))

pub behind_length : (text rest : List ℕ) → IsBehind text rest → length rest ≤ length text
behind_length text rest at = omega (arith, ap length at.3, length-append at.0 rest)

pub mantissa_read : (text point rest left : List ℕ) (whole count value places_read : ℕ) (onto : Bool) → IsUtf8 text → ReadsUpTo false false text 0 0 whole count point → ReadsUpTo onto false point whole count value places_read rest
    → EndsMantissa rest → left ≡ drop (length text - length rest) text → IsMantissa text value places_read left
mantissa_read text point rest left whole count value places_read onto utf8 front part ends cut =
    let all = chars text in
    let at = read_behind text point rest whole count value places_read onto utf8 front part in
    let read = part.read all (front.read all (read_begins all)) in
    let are = read_ends all (chars rest) value places_read onto ends.none ends.behind read in
    record { value = are.0; places = are.1; behind = ap chars (left_is text rest left at cut) ∙ are.2 }
