use Rattle.std.proofs.Common.{ap, sym}
use Rattle.outside.proofs.Texts.{goes-as, goes-then}
use Rattle.qasm_dump.specs.Tokens.{kind_text}
use Rattle.qasm_dump.proofs.tokens.put_kind.Goals as goal

pub returns-in-Physical : goal.returns-in-Physical
returns-in-Physical g c = goes-as (goes-then c.text-in-Physical.ensures c.number.ensures) (ap kind_text (sym c.in-Physical.is))

pub returns-in-Whole : goal.returns-in-Whole
returns-in-Whole g c = goes-as (goes-then c.text-in-Whole.ensures c.number-in-Whole.ensures) (ap kind_text (sym c.in-Whole.is))

pub returns-in-Decimal : goal.returns-in-Decimal
returns-in-Decimal g c = goes-as (goes-then c.text-in-Decimal.ensures c.put_frac.ensures) (ap kind_text (sym c.in-Decimal.is))

pub returns-in-Time : goal.returns-in-Time
returns-in-Time g c =
    let to_unit = goes-then (goes-then c.text-in-Time.ensures c.put_frac-in-Time.ensures) c.text-in-Time-2.ensures in
    goes-as (goes-then to_unit (goes-as c.text-in-Time-3.ensures c.unit_text.ensures)) (ap kind_text (sym c.in-Time.is))
