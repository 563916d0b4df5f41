-- Proof of `sealing::a_side_seals_from_the_start_that_it_took_last`.
use Rattle.journal_rules.proofs.LinesSeal.{all_sealed}
use Rattle.journal_rules.proofs.sealing.a_side_seals_from_the_start_that_it_took_last.Goals as goal

pub returns : goal.returns
returns c = λ words journal. all_sealed words journal
