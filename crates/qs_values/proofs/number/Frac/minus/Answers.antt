use Rattle.std.proofs.Common.{arith}
use Rattle.qs_values.proofs.NumberLemmas.{fits_below, difference_below, difference_is, term_is}
use Rattle.qs_values.proofs.number.Frac.minus.Goals as goal

pub overflow_sub-first : goal.overflow_sub-first
overflow_sub-first c =
    let s = c.over_one_denominator-first in
    rw (term_is s.result.0 s.ensures.first_below, term_is s.result.1 s.ensures.second_below)
    (fits_below _ (difference_below s.result.0 s.result.1 s.ensures.first_below s.ensures.second_below))

pub of-requires-clause-num : goal.of-requires-clause-num
of-requires-clause-num c =
    let s = c.over_one_denominator-first in
    rw (difference_is s.result.0 s.result.1 s.ensures.first_below s.ensures.second_below)
    (difference_below s.result.0 s.result.1 s.ensures.first_below s.ensures.second_below)

pub of-requires-clause-den : goal.of-requires-clause-den
of-requires-clause-den c =
    let s = c.over_one_denominator-first in
    let small = s.ensures.denominator_below in
    rw (term_is s.result.2 s.ensures.denominator_below) (omega arith)

pub returns : goal.returns
returns c =
    let s = c.over_one_denominator-first in
    rw (difference_is s.result.0 s.result.1 s.ensures.first_below s.ensures.second_below, term_is s.result.2 s.ensures.denominator_below, s.ensures.first, s.ensures.second, s.ensures.denominator) at c.of.ensures
