use Rattle.qs_values.proofs.OneNumber.{difference_once, product_once, quotient_once, ratio_once, sum_once}
use Rattle.qs_values.proofs.laws.computed_once.Goals as goal

pub returns-clause-quotient : goal.returns-clause-quotient
returns-clause-quotient c = quotient_once

pub returns-clause-sum : goal.returns-clause-sum
returns-clause-sum c = sum_once

pub returns-clause-difference : goal.returns-clause-difference
returns-clause-difference c = difference_once

pub returns-clause-product : goal.returns-clause-product
returns-clause-product c = product_once

pub returns-clause-ratio : goal.returns-clause-ratio
returns-clause-ratio c = ratio_once
