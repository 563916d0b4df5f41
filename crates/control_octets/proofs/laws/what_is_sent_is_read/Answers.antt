-- The proof of the law `what_is_sent_is_read`.
use Rattle.control_octets.proofs.Steps.{sent_is_read, sent_now_is_read}
use Rattle.control_octets.proofs.laws.what_is_sent_is_read.Goals as goal

pub returns-clause-sends : goal.returns-clause-sends
returns-clause-sends c = sent_now_is_read

pub returns-clause-at_any_time : goal.returns-clause-at_any_time
returns-clause-at_any_time c = sent_is_read
