-- The proof of `no_steps_lead_to_twenty_one`.
use Rattle.phased_rooms.proofs.Few.{no_twenty_one}
use Rattle.phased_rooms.proofs.rows.no_steps_lead_to_twenty_one.Goals as goal

pub returns : goal.returns
returns c = no_twenty_one
