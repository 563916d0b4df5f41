-- Proof of `lines::a_counter_is_used_once_in_a_session`.
use Rattle.journal_sealing.proofs.Sessions.{later_in_session}
use Rattle.journal_sealing.proofs.lines.a_counter_is_used_once_in_a_session.Goals as goal

pub returns : goal.returns
returns c = λ words number side front more count llid body one later.
    later_in_session words side number front more count llid body one later
