-- How many digits and places a mantissa has.
use Rattle.std.proofs.Common.{ℕ, ◌≤◌, List, length, drop, arith}
use Rattle.std.specs.Char.{is_ascii_digit}
use Rattle.std.specs.List.{prefix_len}
use Rattle.std.proofs.lemmas.List.{length-take, length-drop}
use Rattle.std.proofs.lemmas.List.Sums.{count_by-le-length, length-filter}
use Rattle.qs_lexer.specs.Values.{is_mantissa, is_no_point, mantissa, places}
use Rattle.qs_lexer.proofs.LeadingDigits.{digits_of, is_decimal}

few_characters : (t : List ℕ) → length (mantissa t) ≤ length t
few_characters t = omega (arith, length-take (prefix_len is_mantissa t) t)

-- at most one digit for each character
pub few_digits : (t : List ℕ) → length (digits_of (mantissa t)) ≤ length t
few_digits t = omega (arith, length-filter is_decimal (mantissa t), count_by-le-length is_decimal (mantissa t), few_characters t)

pub few_places : (t : List ℕ) → places (mantissa t) ≤ length t
few_places t =
    let part = drop (prefix_len is_no_point (mantissa t)) (mantissa t) in
    omega (arith, count_by-le-length is_ascii_digit part, length-drop (prefix_len is_no_point (mantissa t)) (mantissa t), few_characters t)
