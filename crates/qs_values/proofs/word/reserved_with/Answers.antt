-- Each arm's words are those of the reserved words that begin with its byte.
use Rattle.std.proofs.Common.{◌≡◌, ◌≢◌, ℕ, nat_eq, false, arith, refl}
use Rattle.std.specs.List.{list_any}
use Rattle.qs_values.proofs.WordLemmas.{first_bytes, none_reserved, other_byte}
use Rattle.qs_values.proofs.word.reserved_with.Goals as goal

pub returns-in-79 : goal.returns-in-79
returns-in-79 c = rw c.in-79.is refl

pub returns-in-97 : goal.returns-in-97
returns-in-97 c = rw c.in-97.is refl

pub returns-in-98 : goal.returns-in-98
returns-in-98 c = rw c.in-98.is refl

pub returns-in-99 : goal.returns-in-99
returns-in-99 c = rw c.in-99.is refl

pub returns-in-100 : goal.returns-in-100
returns-in-100 c = rw c.in-100.is refl

pub returns-in-101 : goal.returns-in-101
returns-in-101 c = rw c.in-101.is refl

pub returns-in-102 : goal.returns-in-102
returns-in-102 c = rw c.in-102.is refl

pub returns-in-103 : goal.returns-in-103
returns-in-103 c = rw c.in-103.is refl

pub returns-in-105 : goal.returns-in-105
returns-in-105 c = rw c.in-105.is refl

pub returns-in-108 : goal.returns-in-108
returns-in-108 c = rw c.in-108.is refl

pub returns-in-109 : goal.returns-in-109
returns-in-109 c = rw c.in-109.is refl

pub returns-in-110 : goal.returns-in-110
returns-in-110 c = rw c.in-110.is refl

pub returns-in-111 : goal.returns-in-111
returns-in-111 c = rw c.in-111.is refl

pub returns-in-112 : goal.returns-in-112
returns-in-112 c = rw c.in-112.is refl

pub returns-in-113 : goal.returns-in-113
returns-in-113 c = rw c.in-113.is refl

pub returns-in-114 : goal.returns-in-114
returns-in-114 c = rw c.in-114.is refl

pub returns-in-115 : goal.returns-in-115
returns-in-115 c = rw c.in-115.is refl

pub returns-in-116 : goal.returns-in-116
returns-in-116 c = rw c.in-116.is refl

pub returns-in-117 : goal.returns-in-117
returns-in-117 c = rw c.in-117.is refl

pub returns-in-118 : goal.returns-in-118
returns-in-118 c = rw c.in-118.is refl

pub returns-in-119 : goal.returns-in-119
returns-in-119 c = rw c.in-119.is refl

pub returns-in_default : goal.returns-in_default
returns-in_default c =
    let first = c.args.first in
    let not : (n : ℕ) → first ≢ n → nat_eq first n ≡ false = other_byte first in
    let none : list_any (nat_eq first) first_bytes ≡ false = rw (not 79 (omega arith), not 97 (omega arith), not 98 (omega arith), not 99 (omega arith), not 100 (omega arith), not 101 (omega arith), not 102 (omega arith), not 103 (omega arith), not 105 (omega arith), not 108 (omega arith), not 109 (omega arith), not 110 (omega arith), not 111 (omega arith), not 112 (omega arith), not 113 (omega arith), not 114 (omega arith), not 115 (omega arith), not 116 (omega arith), not 117 (omega arith), not 118 (omega arith), not 119 (omega arith)) refl in
    none_reserved first none
