-- Proof of `exchanges::each_end_exchanges_in_its_events`.
use Rattle.link_calls.proofs.Exchanging.{in_exchange}
use Rattle.link_calls.proofs.exchanges.each_end_exchanges_in_its_events.Goals as goal

pub returns : goal.returns
returns c = in_exchange
