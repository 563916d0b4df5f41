-- The proof of the law `each_end_enters_its_events`.
use Rattle.link_calls.proofs.run_model.Stations.{contains_in}
use Rattle.run_pairs.proofs.OnTime.{ends_on_track}
use Rattle.run_pairs.proofs.entries.each_end_enters_its_events.Goals as goal

pub returns : goal.returns
returns c = λ given before rest station handle link distinct is at is_open.
    ends_on_track c.connections_are_taken.ensures.taken given before rest station handle link distinct (contains_in given.stations station is) at is_open
