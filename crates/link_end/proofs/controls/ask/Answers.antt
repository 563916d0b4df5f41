-- Proof of `controls::ask`.
use Rattle.std.proofs.Common.{refl}
use Rattle.keyed_control.specs.KeyedSteps.{Asks}
use Rattle.link_end.proofs.Reaching.{stays_less}
use Rattle.link_end.proofs.controls.ask.Goals as goal

pub returns-clause-sent : goal.returns-clause-sent
returns-clause-sent c = (stays_less (Asks c.args.ask) c.args.control.now _ refl c.ask.ensures.step).sent

pub returns-clause-opened : goal.returns-clause-opened
returns-clause-opened c = (stays_less (Asks c.args.ask) c.args.control.now _ refl c.ask.ensures.step).opened
