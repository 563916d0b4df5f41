-- Proof of `controls::disconnect`.
use Rattle.std.proofs.Common.{refl}
use Rattle.keyed_control.specs.KeyedSteps.{Disconnects}
use Rattle.link_end.proofs.Reaching.{stays_less}
use Rattle.link_end.proofs.controls.disconnect.Goals as goal

pub returns-clause-sent : goal.returns-clause-sent
returns-clause-sent c = (stays_less (Disconnects c.args.reason) c.args.control.now _ refl c.disconnect.ensures.step).sent

pub returns-clause-opened : goal.returns-clause-opened
returns-clause-opened c = (stays_less (Disconnects c.args.reason) c.args.control.now _ refl c.disconnect.ensures.step).opened
