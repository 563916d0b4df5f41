-- The proof of the law `accepted_parameters_are_in_range`.
use Rattle.host_view.proofs.TakenCommands.{advertising_interval, advertising_type, scan_interval, connection_parameters, takes_buffers, takes_map}
use Rattle.host_view.proofs.laws.accepted_parameters_are_in_range.Goals as goal

pub returns-clause-advertising_interval : goal.returns-clause-advertising_interval
returns-clause-advertising_interval c = advertising_interval

pub returns-clause-advertising_type : goal.returns-clause-advertising_type
returns-clause-advertising_type c = advertising_type

pub returns-clause-scanning : goal.returns-clause-scanning
returns-clause-scanning c = scan_interval

pub returns-clause-connecting : goal.returns-clause-connecting
returns-clause-connecting c = connection_parameters

pub returns-clause-channels : goal.returns-clause-channels
returns-clause-channels c = takes_map

pub returns-clause-buffers : goal.returns-clause-buffers
returns-clause-buffers c = takes_buffers
