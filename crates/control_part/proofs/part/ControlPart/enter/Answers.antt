-- The proof of `ControlPart::enter`: the PDU that was sent last stays.
use Rattle.std.proofs.Common.{refl, rules}
use Rattle.control_end.specs.control_model.Control.{Enters}
use Rattle.control_part.proofs.Outs.{pauses_on}
use Rattle.control_part.proofs.part.ControlPart.enter.Goals as goal

pub invariant_of-self : goal.invariant_of-self
invariant_of-self c =
    let on = pauses_on (Enters c.args.slot.0 c.args.quiet) c.self.inside.control c.self.inside.pauses refl c.self.invariant in
    search (rules, on)
