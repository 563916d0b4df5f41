-- Invariants of `messages::put_digits`.
use Rattle.std.proofs.Common.{length}
use Rattle.std.specs.Prelude.{Result}
use Rattle.hex.specs.Hex.{encode_lower}
use Rattle.outside.specs.declared.sink.SinkFault.{SinkFault}
use Rattle.program.specs.Puts.{IsPut}
use Rattle.program.proofs.messages.put_digits.Given as goal

-- to put what is left is to put all
abbrev pub invariant-loop-rest : goal.invariant-loop-rest
invariant-loop-rest g l = (new : g.row.E.Denot) (result : Result (Unit {0}) SinkFault)
    → IsPut g.E.Sink.written g.E.Sink.faults g.E.Sink.wants_memory l.err new result (encode_lower l.rest)
    → IsPut g.E.Sink.written g.E.Sink.faults g.E.Sink.wants_memory l.fn.err new result (encode_lower l.octets)

abbrev pub decreases-loop-rest : goal.decreases-loop-rest
decreases-loop-rest g l = length l.rest
