use Rattle.outside.proofs.Texts.{goes-as, goes-then}
use Rattle.qasm_dump.proofs.Numbers.{signed-as}
use Rattle.qasm_dump.proofs.tokens.put_frac.Goals as goal

pub returns : goal.returns
returns g c =
    let num = goes-as c.put_int.ensures (signed-as _ _ c.num.ensures c.args.value.narrow.num) in
    let den = goes-as c.put_int-2.ensures (signed-as _ _ c.den.ensures c.args.value.narrow.den) in
    goes-then (goes-then num c.text.ensures) den
