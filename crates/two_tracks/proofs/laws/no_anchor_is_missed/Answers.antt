-- The proof of the law `no_anchor_is_missed`.
use Rattle.two_tracks.proofs.Read.{central_on_time, peripheral_on_time}
use Rattle.two_tracks.proofs.laws.no_anchor_is_missed.Goals as goal

pub returns-clause-central : goal.returns-clause-central
returns-clause-central c = central_on_time

pub returns-clause-peripheral : goal.returns-clause-peripheral
returns-clause-peripheral c = peripheral_on_time
