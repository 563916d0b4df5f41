-- The proof of the law `instants_are_ahead`.
use Rattle.two_tracks.proofs.Read.{gap_of_instant}
use Rattle.two_tracks.proofs.laws.instants_are_ahead.Goals as goal

pub returns : goal.returns
returns c = gap_of_instant
