-- Proof of `laws::a_pdu_is_understood`.
use Rattle.controller_model.proofs.Understood.{understood_good, understood_says}
use Rattle.controller_model.proofs.laws.a_pdu_is_understood.Goals as goal

pub returns-clause-good : goal.returns-clause-good
returns-clause-good c = understood_good c.packet_tells_its_pdu.ensures.heard c.pdu_form_is_a_count.ensures

pub returns-clause-says : goal.returns-clause-says
returns-clause-says c = understood_says c.packet_tells_its_pdu.ensures.heard c.pdu_form_is_a_count.ensures
