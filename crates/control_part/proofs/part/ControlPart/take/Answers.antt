-- The proof of `ControlPart::take`: the PDU that was sent last stays.
use Rattle.std.proofs.Common.{refl, rules}
use Rattle.control_end.specs.control_model.Control.{Takes}
use Rattle.control_part.proofs.Outs.{pauses_on}
use Rattle.control_part.proofs.part.ControlPart.take.Goals as goal

pub invariant_of-self : goal.invariant_of-self
invariant_of-self c =
    let on = pauses_on (Takes c.args.read.now c.args.slot.0 c.args.quiet) c.self.inside.control c.self.inside.pauses refl c.self.invariant in
    search (rules, on)
