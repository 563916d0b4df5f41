-- The proof of the law `each_event_has_its_parameters`.
use Rattle.two_tracks.proofs.Read.{both_events, central_event, peripheral_event}
use Rattle.two_tracks.proofs.laws.each_event_has_its_parameters.Goals as goal

pub returns-clause-central : goal.returns-clause-central
returns-clause-central c = central_event

pub returns-clause-peripheral : goal.returns-clause-peripheral
returns-clause-peripheral c = peripheral_event

pub returns-clause-both : goal.returns-clause-both
returns-clause-both c = both_events
