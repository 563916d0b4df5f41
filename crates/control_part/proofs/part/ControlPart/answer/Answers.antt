-- The proof of `ControlPart::answer`: the PDU that was sent last stays.
use Rattle.std.proofs.Common.{refl, rules}
use Rattle.control_end.specs.control_model.Control.{Answers}
use Rattle.control_part.proofs.Outs.{pauses_on}
use Rattle.control_part.proofs.part.ControlPart.answer.Goals as goal

pub invariant_of-self : goal.invariant_of-self
invariant_of-self c =
    let on = pauses_on (Answers c.args.answer) c.self.inside.control c.self.inside.pauses refl c.self.invariant in
    search (rules, on)
