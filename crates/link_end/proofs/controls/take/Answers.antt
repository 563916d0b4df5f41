-- Proof of `controls::take`.
use Rattle.std.proofs.Common.{refl}
use Rattle.keyed_control.specs.KeyedSteps.{Takes}
use Rattle.link_model.specs.phased_end.Taking.{drawn}
use Rattle.link_end.proofs.Reaching.{stays_less}
use Rattle.link_end.proofs.Refusing.{given_single}
use Rattle.link_end.proofs.controls.take.Goals as goal

pub returns-clause-sent : goal.returns-clause-sent
returns-clause-sent c = (stays_less (Takes c.args.read.now c.args.slot (drawn c.args.response)) c.args.control.now _ refl c.take.ensures.step).sent

pub returns-clause-opened : goal.returns-clause-opened
returns-clause-opened c = (stays_less (Takes c.args.read.now c.args.slot (drawn c.args.response)) c.args.control.now _ refl c.take.ensures.step).opened

pub returns-clause-single : goal.returns-clause-single
returns-clause-single c = given_single c.args.slot c.args.response c.args.read.now c.args.control.now _ c.take.ensures.taken
