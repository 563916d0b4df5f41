-- Proof of `ends::an_end_that_takes_a_packet_says_what_is_due`.
use Rattle.std.proofs.Common.{refl}
use Rattle.journal_controls.specs.LineSteps.{turn_now}
use Rattle.journal_controls.specs.link_model.End.{facts_of}
use Rattle.journal_due.proofs.DueReceptions.{receiving_told}
use Rattle.journal_due.proofs.ends.an_end_that_takes_a_packet_says_what_is_due.Goals as goal

pub returns : goal.returns
returns c = record {
  each = λ words side number setup past octets pdu room journal good is on.
      (receiving_told words side number journal setup (facts_of setup past) octets pdu room (turn_now journal) refl good is on).each;
  left = λ words side number setup past octets pdu room journal good is on.
      (receiving_told words side number journal setup (facts_of setup past) octets pdu room (turn_now journal) refl good is on).left;
}
