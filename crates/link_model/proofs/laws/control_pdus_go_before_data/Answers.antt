-- Proof of `laws::control_pdus_go_before_data`.
use Rattle.std.proofs.Common.{true, false}
use Rattle.link_model.proofs.Fixing.{fixed_control, fixed_data, fixed_nothing, left_goes, more_again, more_data, more_nothing, nothing_else, piece_fits, stays}
use Rattle.link_model.proofs.laws.control_pdus_go_before_data.Goals as goal

pub returns-clause-stays : goal.returns-clause-stays
returns-clause-stays c = stays

pub returns-clause-left : goal.returns-clause-left
returns-clause-left c = left_goes

pub returns-clause-control : goal.returns-clause-control
returns-clause-control c = fixed_control

pub returns-clause-after_control : goal.returns-clause-after_control
returns-clause-after_control c = nothing_else

pub returns-clause-data : goal.returns-clause-data
returns-clause-data c = fixed_data

pub returns-clause-after_data : goal.returns-clause-after_data
returns-clause-after_data c = more_data

pub returns-clause-short : goal.returns-clause-short
returns-clause-short c = piece_fits

pub returns-clause-nothing : goal.returns-clause-nothing
returns-clause-nothing c = fixed_nothing

pub returns-clause-after_nothing : goal.returns-clause-after_nothing
returns-clause-after_nothing c = more_nothing

pub returns-clause-again : goal.returns-clause-again
returns-clause-again c setup facts = more_again setup facts false

pub returns-clause-again_at_end : goal.returns-clause-again_at_end
returns-clause-again_at_end c setup facts = more_again setup facts true
