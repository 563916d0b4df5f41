-- Proof of `laws::what_is_sent_is_a_pdu`.
use Rattle.controller_model.proofs.Sent.{is_sent}
use Rattle.controller_model.proofs.laws.what_is_sent_is_a_pdu.Goals as goal

pub returns : goal.returns
returns c = is_sent
