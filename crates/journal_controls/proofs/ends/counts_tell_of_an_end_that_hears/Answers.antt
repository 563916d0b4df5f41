-- Proof of `ends::counts_tell_of_an_end_that_hears`.
use Rattle.journal_controls.proofs.Counted.{told_by}
use Rattle.journal_controls.proofs.ends.counts_tell_of_an_end_that_hears.Goals as goal

pub returns : goal.returns
returns c = λ setup past slot octets pdu room before after line. told_by setup past slot octets pdu room before after line
