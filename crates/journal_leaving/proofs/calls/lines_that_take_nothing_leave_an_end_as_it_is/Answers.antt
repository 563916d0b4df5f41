-- Proof of `calls::lines_that_take_nothing_leave_an_end_as_it_is`.
use Rattle.journal_leaving.proofs.EndLeaving.{entry_noted, sent_noted}
use Rattle.journal_leaving.proofs.calls.lines_that_take_nothing_leave_an_end_as_it_is.Goals as goal

pub returns : goal.returns
returns c = record {
  entered = λ side number slot withheld response setup facts k leaving. entry_noted side number withheld response slot setup facts leaving k;
  sent = λ side number slot withheld response setup facts k leaving. sent_noted side number withheld response slot setup facts leaving k;
}
