-- Proof of `flow::data_goes_up_as_its_turn_ends`.
use Rattle.journal_hosts.proofs.DataLast.{data_comes_last}
use Rattle.journal_hosts.proofs.flow.data_goes_up_as_its_turn_ends.Goals as goal

pub returns : goal.returns
returns c = λ given stations. data_comes_last given stations
