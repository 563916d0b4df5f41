-- Proof of `events::ends_that_follow_the_central_enter_alike`.
use Rattle.journal_agreement.proofs.BothEnds.{entered_alike}
use Rattle.journal_agreement.proofs.events.ends_that_follow_the_central_enter_alike.Goals as goal

pub returns : goal.returns
returns c = λ mixed journal entered follows. entered_alike mixed journal entered follows
