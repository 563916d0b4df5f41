-- The proof of the law `what_is_sent_is_taken`.
use Rattle.exchange_steps.proofs.Calls.{sent_taken}
use Rattle.exchange_steps.proofs.laws.what_is_sent_is_taken.Goals as goal

pub returns : goal.returns
returns c = sent_taken
