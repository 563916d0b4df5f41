-- Proof of `ends::a_forged_packet_ends_the_control_part`.
use Rattle.std.proofs.Common.{ap}
use Rattle.journal_ends.specs.link_model.Facts.{Facts, keyed_of}
use Rattle.journal_ends.proofs.link_model.Forging.{forged_facts, forged_notes}
use Rattle.journal_controls.proofs.ends.a_forged_packet_ends_the_control_part.Goals as goal

pub returns : goal.returns
returns c = record {
  moves = λ setup facts slot octets room forged. ap (λ (f : Facts). keyed_of f) (forged_facts setup facts slot octets room forged);
  says_none = λ setup facts slot octets room forged. forged_notes setup facts slot octets room forged;
}
