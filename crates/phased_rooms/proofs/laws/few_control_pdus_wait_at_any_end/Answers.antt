-- The proof of the law `few_control_pdus_wait_at_any_end`.
use Rattle.phased_rooms.proofs.Few.{few_now}
use Rattle.phased_rooms.proofs.laws.few_control_pdus_wait_at_any_end.Goals as goal

pub returns : goal.returns
returns c = record { few = few_now }
