-- Proof of `laws::an_end_without_encryption_stays_clear`.
use Rattle.link_model.proofs.ClearEnds.{past_payload, past_session, past_unforged}
use Rattle.link_model.proofs.laws.an_end_without_encryption_stays_clear.Goals as goal

pub returns-clause-session : goal.returns-clause-session
returns-clause-session c = past_session

pub returns-clause-forged : goal.returns-clause-forged
returns-clause-forged c = past_unforged

pub returns-clause-body : goal.returns-clause-body
returns-clause-body c = past_payload
