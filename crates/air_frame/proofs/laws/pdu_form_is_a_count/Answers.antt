-- The proof of `pdu_form_is_a_count`.
use Rattle.air_frame.proofs.Forms.{form_is_a_count}
use Rattle.air_frame.proofs.laws.pdu_form_is_a_count.Goals as goal

pub returns : goal.returns
returns c = form_is_a_count
