-- Proof of `ends::an_end_that_enters_an_event_says_what_is_due`.
use Rattle.journal_controls.specs.link_model.End.{facts_of}
use Rattle.journal_due.proofs.DueEntries.{entering_told}
use Rattle.journal_due.proofs.ends.an_end_that_enters_an_event_says_what_is_due.Goals as goal

pub returns : goal.returns
returns c = record {
  each = λ words side number setup past journal is rests.
      (entering_told words side number setup (facts_of setup past) journal is rests).each;
  left = λ words side number setup past journal is rests.
      (entering_told words side number setup (facts_of setup past) journal is rests).left;
}
