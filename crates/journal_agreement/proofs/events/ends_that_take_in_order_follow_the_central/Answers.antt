-- Proof of `events::ends_that_take_in_order_follow_the_central`.
use Rattle.journal_agreement.proofs.InOrder.{follow_in_order}
use Rattle.journal_agreement.proofs.events.ends_that_take_in_order_follow_the_central.Goals as goal

pub returns : goal.returns
returns c = λ mixed journal stays arrives as_sent in_time. follow_in_order mixed journal stays arrives as_sent in_time
