-- Proof of `lines::the_payload_by_lines_stays_until_an_acknowledgement`.
use Rattle.journal_sealing.proofs.SealedLines.{one_payload, packet_again, same_payload}
use Rattle.journal_sealing.proofs.lines.the_payload_by_lines_stays_until_an_acknowledgement.Goals as goal

pub returns : goal.returns
returns c = record {
  lines = λ words number front more side. same_payload words number side front more;
  packets = packet_again;
  again = one_payload;
}
