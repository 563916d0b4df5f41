-- Proof of `laws::a_kept_pdu_is_known_as_it_is_answered`.
use Rattle.link_model.proofs.KeptPdus.{kept_known, nothing_known, peer_stays, seen_known}
use Rattle.link_model.proofs.laws.a_kept_pdu_is_known_as_it_is_answered.Goals as goal

pub returns-clause-kept : goal.returns-clause-kept
returns-clause-kept c = peer_stays

pub returns-clause-answered : goal.returns-clause-answered
returns-clause-answered c = kept_known

pub returns-clause-seen : goal.returns-clause-seen
returns-clause-seen c = seen_known

pub returns-clause-ended : goal.returns-clause-ended
returns-clause-ended c = nothing_known
