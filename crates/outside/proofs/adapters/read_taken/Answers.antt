use Rattle.std.proofs.Common.{arith}
use Rattle.outside.proofs.Streams.{longer_is}
use Rattle.outside.proofs.adapters.read_taken.Goals as goal

pub returns-then-len-limit : goal.returns-then-len-limit
returns-then-len-limit g c =
    longer_is (g.R.Read.remaining c.args.reader) (g.R.Read.remaining c.loop.reader) c.loop.bytes.items c.args.limit c.loop.invariant (omega arith)
