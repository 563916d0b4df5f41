-- Proof of `runs::a_new_pdu_is_sealed_with_the_keys_of_the_lines`.
use Rattle.journal_sealing.proofs.NewPdus.{made_by_lines}
use Rattle.journal_sealing.proofs.runs.a_new_pdu_is_sealed_with_the_keys_of_the_lines.Goals as goal

pub returns : goal.returns
returns c = λ words given before rest station channel octets hearings stations six gives contains at off.
    made_by_lines words given before station channel octets
    (λ handle link is_open.
    c.the_keys_by_lines_are_those_that_the_end_holds.ensures.before_a_packet words given before rest station channel octets hearings station handle link stations six gives contains at is_open)
    (c.links_of_two_stations_keep_to_the_journal.ensures.payloads given before rest station channel octets hearings stations six at off)
