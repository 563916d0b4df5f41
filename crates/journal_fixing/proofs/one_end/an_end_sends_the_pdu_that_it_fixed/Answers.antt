-- Proof of `one_end::an_end_sends_the_pdu_that_it_fixed`.
use Rattle.journal_controls.specs.link_model.End.{facts_of}
use Rattle.journal_fixing.proofs.FixedPdus.{more_new, more_old, new_sent}
use Rattle.journal_fixing.proofs.one_end.an_end_sends_the_pdu_that_it_fixed.Goals as goal

pub returns : goal.returns
returns c = record {
  pdu = λ fixing outgoing setup past is. new_sent fixing outgoing (facts_of setup past) is;
  more_new = λ fixing outgoing setup past is. more_new fixing outgoing (facts_of setup past) is;
  more_old = λ fixing outgoing setup past is. more_old fixing outgoing (facts_of setup past) is;
}
