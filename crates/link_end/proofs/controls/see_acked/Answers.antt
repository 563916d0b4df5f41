-- Proof of `controls::see_acked`.
use Rattle.std.proofs.Common.{refl}
use Rattle.keyed_control.specs.KeyedSteps.{SeesAcknowledged}
use Rattle.link_end.proofs.Reaching.{stays_less}
use Rattle.link_end.proofs.controls.see_acked.Goals as goal

pub returns-clause-sent : goal.returns-clause-sent
returns-clause-sent c = (stays_less SeesAcknowledged c.args.control.now _ refl c.acked.ensures.step).sent

pub returns-clause-opened : goal.returns-clause-opened
returns-clause-opened c = (stays_less SeesAcknowledged c.args.control.now _ refl c.acked.ensures.step).opened
