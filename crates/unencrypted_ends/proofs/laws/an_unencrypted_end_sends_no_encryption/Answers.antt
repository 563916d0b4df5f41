-- The proof of the law `an_unencrypted_end_sends_no_encryption`.
use Rattle.unencrypted_ends.proofs.Sending.{next_goes, none_sent}
use Rattle.unencrypted_ends.proofs.laws.an_unencrypted_end_sends_no_encryption.Goals as goal

pub returns-clause-ctrl : goal.returns-clause-ctrl
returns-clause-ctrl c control event latency quiet ctrl none is = none_sent control.table event latency quiet ctrl none.waits is

pub returns-clause-outgoing : goal.returns-clause-outgoing
returns-clause-outgoing c control event quiet none = (next_goes control.table event quiet none.waits).plain
