-- Proof of `controllers::Controller::connect`.
use Rattle.std.proofs.Common.{refl, sym, subst, append-nil}
use Rattle.std.specs.Prelude.{Option}
use Rattle.link_model.specs.declared.setup.LinkSetup.{LinkSetup}
use Rattle.controller_model.specs.declared.doing.Doing.TheVariants.{Connects}
use Rattle.controller_model.specs.Heard.{connects}
use Rattle.controller.specs.Knowing.{Passes}
use Rattle.controller.proofs.Connecting.{connecting_is}
use Rattle.controller.proofs.controllers.Controller.connect.Goals as goal

pub returns-in-Some-clause-passes : goal.returns-in-Some-clause-passes
returns-in-Some-clause-passes g c = λ has facts noted k.
    subst (λ (link : Option LinkSetup). Passes has c.take_access.new.self noted noted
    (Connects c.args.channel c.in-Some.link) (connects link has c.args.channel facts)) (sym c.in-Some.is)
    (record { at = connecting_is has _ _ facts c.take_access.ensures k; notes = sym (append-nil noted); doing = refl })
