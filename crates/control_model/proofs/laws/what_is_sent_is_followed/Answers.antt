-- The proof of the law `what_is_sent_is_followed`.
use Rattle.control_model.proofs.Moving.{central_takes, enters_track, peripheral_sends, sends_all, sends_track, table_alone, takes_ends, takes_nothing, takes_track}
use Rattle.control_model.proofs.laws.what_is_sent_is_followed.Goals as goal

pub returns-clause-enters : goal.returns-clause-enters
returns-clause-enters c = enters_track

pub returns-clause-central_sends : goal.returns-clause-central_sends
returns-clause-central_sends c = sends_track

pub returns-clause-all_sent : goal.returns-clause-all_sent
returns-clause-all_sent c = sends_all

pub returns-clause-central_takes : goal.returns-clause-central_takes
returns-clause-central_takes c = central_takes

pub returns-clause-peripheral_takes : goal.returns-clause-peripheral_takes
returns-clause-peripheral_takes c = takes_track

pub returns-clause-passed_ends : goal.returns-clause-passed_ends
returns-clause-passed_ends c = takes_ends

pub returns-clause-none_handed : goal.returns-clause-none_handed
returns-clause-none_handed c = takes_nothing

pub returns-clause-peripheral_sends : goal.returns-clause-peripheral_sends
returns-clause-peripheral_sends c = peripheral_sends

pub returns-clause-others : goal.returns-clause-others
returns-clause-others c = table_alone
