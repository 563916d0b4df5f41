-- The proof of the law `two_ends_go_on`.
use Rattle.two_tracks.proofs.Reaching.{reached_first, reached_next}
use Rattle.two_tracks.proofs.laws.two_ends_go_on.Goals as goal

pub returns-clause-begins : goal.returns-clause-begins
returns-clause-begins c = reached_first

pub returns-clause-goes_on : goal.returns-clause-goes_on
returns-clause-goes_on c = reached_next
