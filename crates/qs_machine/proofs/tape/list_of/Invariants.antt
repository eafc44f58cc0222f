use Rattle.std.proofs.Common.{◌≡◌, map, take}
use Rattle.qs_machine.specs.Values.{bit_of}
use Rattle.qs_machine.proofs.tape.list_of.Given as goal

abbrev pub invariant-loop-c : goal.invariant-loop-c
invariant-loop-c l = l.bits ≡ map bit_of (take l.c-index l.text)
