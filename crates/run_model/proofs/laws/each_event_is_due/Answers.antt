-- Proof of `laws::each_event_is_due`.
use Rattle.run_model.specs.Run.{run_of, history_of}
use Rattle.run_model.specs.Due.{IsDue}
use Rattle.run_model.proofs.Places.{each_at}
use Rattle.run_model.proofs.Dues.{run_due}
use Rattle.run_model.proofs.OfStations.{OfStations, run_of_stations}
use Rattle.run_model.proofs.laws.each_event_is_due.Goals as goal

pub returns-clause-each : goal.returns-clause-each
returns-clause-each c = λ given. (run_due given).each

pub returns-clause-place : goal.returns-clause-place
returns-clause-place c = λ given before rest event is. each_at (IsDue given) (history_of (run_of given)) before rest event (run_due given).each is

pub returns-clause-station : goal.returns-clause-station
returns-clause-station c = λ given before rest event is. each_at (OfStations given) (history_of (run_of given)) before rest event (run_of_stations given) is
