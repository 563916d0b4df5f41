-- Proof of `ends::LinkEnd::receive`.
use Rattle.link_end.proofs.Receptions.{hearing_notes}
use Rattle.std.proofs.Common.{ap, ◌∙◌}
use Rattle.link_end.specs.Pdus.{pdu_in}
use Rattle.link_end.specs.Receiving.{held_taken_if}
use Rattle.link_end.proofs.ends.LinkEnd.receive.Goals as goal

pub returns-clause-held : goal.returns-clause-held
returns-clause-held g c =
    c.take_pdu-given.ensures.held
    ∙ ap (λ h. held_taken_if c.args.got.accepted (pdu_in c.args.got) c.args.slot h) c.receive_header-acked.ensures.held

pub returns-clause-notes : goal.returns-clause-notes
returns-clause-notes g c =
    hearing_notes c.args.slot c.args.got c.args.self.now _ c.receive_header-acked.ensures.held
    _ _ _ c.receive_header-acked.ensures.notes c.take_pdu-given.ensures.notes
