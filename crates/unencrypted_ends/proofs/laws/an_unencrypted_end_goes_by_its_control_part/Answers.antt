-- The proof of the law `an_unencrypted_end_goes_by_its_control_part`.
use Rattle.unencrypted_ends.proofs.Going.{acknowledged_goes, answers_goes, asks_goes, data_left, disconnects_goes, enters_goes, key_given_left, key_lacking_left, sends_goes}
use Rattle.unencrypted_ends.proofs.Taking.{takes_control_goes, takes_goes}
use Rattle.unencrypted_ends.proofs.laws.an_unencrypted_end_goes_by_its_control_part.Goals as goal

pub returns-clause-enters : goal.returns-clause-enters
returns-clause-enters c = enters_goes

pub returns-clause-asks : goal.returns-clause-asks
returns-clause-asks c = asks_goes

pub returns-clause-answers : goal.returns-clause-answers
returns-clause-answers c = answers_goes

pub returns-clause-disconnects : goal.returns-clause-disconnects
returns-clause-disconnects c = disconnects_goes

pub returns-clause-sends : goal.returns-clause-sends
returns-clause-sends c = sends_goes

pub returns-clause-acknowledged : goal.returns-clause-acknowledged
returns-clause-acknowledged c = acknowledged_goes

pub returns-clause-takes : goal.returns-clause-takes
returns-clause-takes c control knows read slot response = takes_goes control knows read slot response

pub returns-clause-takes_control : goal.returns-clause-takes_control
returns-clause-takes_control c control knows read slot response = takes_control_goes control knows read slot response

pub returns-clause-takes_data : goal.returns-clause-takes_data
returns-clause-takes_data c = data_left

pub returns-clause-gives_key : goal.returns-clause-gives_key
returns-clause-gives_key c = key_given_left

pub returns-clause-lacks_key : goal.returns-clause-lacks_key
returns-clause-lacks_key c = key_lacking_left
