-- Proof of `laws::a_journal_says_what_happened`.
use Rattle.run_model.proofs.Journals.{pair_fed, pair_packets, pair_turns}
use Rattle.run_model.proofs.laws.a_journal_says_what_happened.Goals as goal

pub returns-clause-octets : goal.returns-clause-octets
returns-clause-octets c = pair_fed

pub returns-clause-packets : goal.returns-clause-packets
returns-clause-packets c = pair_packets

pub returns-clause-turns : goal.returns-clause-turns
returns-clause-turns c = pair_turns
