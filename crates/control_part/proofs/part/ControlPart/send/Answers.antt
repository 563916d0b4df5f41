-- The proof of `ControlPart::send`: the PDU that goes is the one that was sent last.
use Rattle.std.proofs.Common.{sym, ap, ◌∙◌}
use Rattle.control_end.specs.Answers.{next_ctrl}
use Rattle.control_end.specs.Held.{Held}
use Rattle.phased_control.specs.Phased.{is_pause_rsp}
use Rattle.control_part.proofs.Outs.{pauses_sent}
use Rattle.control_part.proofs.part.ControlPart.send.Goals as goal

pub invariant_of-self : goal.invariant_of-self
invariant_of-self c =
    ap (λ (h : Held). is_pause_rsp h.table.out) c.send.ensures
    ∙ pauses_sent c.args.slot.0 c.args.quiet c.self.inside.ended c.self.inside.control c.in-Some.ctrl
    (ap (next_ctrl c.args.quiet) c.self.view_is ∙ sym c.next.ensures.value ∙ c.in-Some.is)
    ∙ sym c.is_pause_rsp-self-inside.ensures
