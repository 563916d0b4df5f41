-- Proof of `lines::a_payload_by_lines_is_of_the_pdu_that_is_carried`.
use Rattle.journal_sealing.proofs.SealedLines.{carries_payload, forgets}
use Rattle.journal_sealing.proofs.lines.a_payload_by_lines_is_of_the_pdu_that_is_carried.Goals as goal

pub returns : goal.returns
returns c = record {
  lines = λ words number journal side. forgets words number side journal;
  payload = λ words number journal side. carries_payload words number side journal;
}
