-- The worked runs compute.
use Rattle.std.proofs.Common.{refl}
use Rattle.two_tracks.proofs.WorkedRuns.{comes, late_comes}
use Rattle.two_tracks.proofs.rows.worked_runs.Goals as goal

pub returns-clause-comes : goal.returns-clause-comes
returns-clause-comes c = comes

pub returns-clause-late_comes : goal.returns-clause-late_comes
returns-clause-late_comes c = late_comes

pub returns-clause-central_is_free : goal.returns-clause-central_is_free
returns-clause-central_is_free c map = refl

pub returns-clause-peripheral_waits : goal.returns-clause-peripheral_waits
returns-clause-peripheral_waits c map = refl

pub returns-clause-both_go_on : goal.returns-clause-both_go_on
returns-clause-both_go_on c map = refl

pub returns-clause-central_events : goal.returns-clause-central_events
returns-clause-central_events c map = refl

pub returns-clause-peripheral_events : goal.returns-clause-peripheral_events
returns-clause-peripheral_events c map = refl

pub returns-clause-one_slot : goal.returns-clause-one_slot
returns-clause-one_slot c map = refl

pub returns-clause-passed : goal.returns-clause-passed
returns-clause-passed c map = refl

pub returns-clause-moved : goal.returns-clause-moved
returns-clause-moved c map = refl

pub returns-clause-unmoved : goal.returns-clause-unmoved
returns-clause-unmoved c map = refl
