-- Proof of `rules::each_journal_keeps_the_rules_in_words`.
use Rattle.journal_rules.proofs.rules.each_journal_keeps_the_rules_in_words.Goals as goal

pub returns : goal.returns
returns c = λ words a b script six six_too gives tells next goes rests. record {
  md = c.md_tells_what_waits_after_the_pdu_of_its_packet.ensures words _ tells next goes rests;
  skips = c.a_peripheral_skips_events_up_to_the_latency_in_force.ensures words _ (c.each_end_has_the_latency_of_the_indications.ensures words a b script six six_too gives);
  sealed = c.a_side_seals_from_the_start_that_it_took_last.ensures words _;
}
