-- The proof of the law `ends_enter_the_same_events`.
use Rattle.two_tracks.proofs.Read.{all_taken, before_the_instant, without_offsets}
use Rattle.two_tracks.proofs.laws.ends_enter_the_same_events.Goals as goal

pub returns-clause-all_taken : goal.returns-clause-all_taken
returns-clause-all_taken c = all_taken

pub returns-clause-before_the_instant : goal.returns-clause-before_the_instant
returns-clause-before_the_instant c = before_the_instant

pub returns-clause-without_offsets : goal.returns-clause-without_offsets
returns-clause-without_offsets c = without_offsets
