use Rattle.std.proofs.Common.{take}
use Rattle.std.specs.List.{flat_map}
use Rattle.outside.specs.Text.{IsAt}
use Rattle.qasm_dump.specs.Tokens.{token_line}
use Rattle.qasm_dump.proofs.tokens.put_tokens.Given as goal

abbrev pub invariant-loop-token : goal.invariant-loop-token
invariant-loop-token g l = IsAt (g.K.Sink.state l.initial.sink) (g.K.Sink.state l.sink) l.page (flat_map token_line (take l.token-index l.tokens))
