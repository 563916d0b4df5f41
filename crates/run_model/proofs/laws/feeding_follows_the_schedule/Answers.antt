-- Proof of `laws::feeding_follows_the_schedule`.
use Rattle.std.proofs.Common.{◌≡◌, subst}
use Rattle.run_model.specs.Run.{run_of, history_of}
use Rattle.run_model.specs.History.{fed_to}
use Rattle.run_model.specs.Feeding.{feeds_at}
use Rattle.run_model.proofs.Places.{each_at}
use Rattle.run_model.proofs.Stations.{contains_in}
use Rattle.run_model.proofs.Dues.{TakenBefore, run_due}
use Rattle.run_model.proofs.Feeds.{FedBefore, run_fed, whole_fed}
use Rattle.run_model.proofs.Openings.{whole_turns}
use Rattle.run_model.proofs.laws.feeding_follows_the_schedule.Goals as goal

pub returns-clause-takes_all : goal.returns-clause-takes_all
returns-clause-takes_all c = λ given. (run_due given).taken

pub returns-clause-takes_all_before : goal.returns-clause-takes_all_before
returns-clause-takes_all_before c = λ given before rest event station is feeds.
    each_at TakenBefore (history_of (run_of given)) before rest event (run_due given).before is feeds station

pub returns-clause-feeds_all : goal.returns-clause-feeds_all
returns-clause-feeds_all c = λ given station distinct among.
    (run_fed given distinct).fed station (contains_in given.stations station among)

pub returns-clause-feeds_all_before : goal.returns-clause-feeds_all_before
returns-clause-feeds_all_before c = λ given before rest event station distinct among is feeds.
    each_at (FedBefore given) (history_of (run_of given)) before rest event (run_fed given distinct).each is feeds station (contains_in given.stations station among)

pub returns-clause-whole : goal.returns-clause-whole
returns-clause-whole c = λ given history station distinct among is.
    whole_fed given station history
    (subst (λ run. fed_to station (history_of run) ≡ feeds_at given station (history_of run)) is
    ((run_fed given distinct).fed station (contains_in given.stations station among)))
    (whole_turns given history is)
