-- Proof of `controls::take_data`.
use Rattle.std.proofs.Common.{refl}
use Rattle.keyed_control.specs.KeyedSteps.{TakesData}
use Rattle.link_end.proofs.Reaching.{stays_less}
use Rattle.link_end.proofs.controls.take_data.Goals as goal

pub returns-clause-sent : goal.returns-clause-sent
returns-clause-sent c = (stays_less TakesData c.args.control.now _ refl c.take_data.ensures.step).sent

pub returns-clause-opened : goal.returns-clause-opened
returns-clause-opened c = (stays_less TakesData c.args.control.now _ refl c.take_data.ensures.step).opened
