-- Proof of `hearing::tell_step`.
use Rattle.std.proofs.Common.{Bool, ap, ◌∙◌}
use Rattle.procedure_events.specs.Calls.{events_of_kept, events_of_reception}
use Rattle.host_notes.proofs.Received.{both_told}
use Rattle.host_notes.proofs.hearing.tell_step.Goals as goal

pub returns-clause-notes : goal.returns-clause-notes
returns-clause-notes c =
    let args = c.args in
    let step = c.args.step.now in
    both_told args.view.now args.out.now.items _ _ _ _ _ _
    (c.events_of_reception-events.ensures
    ∙ ap (λ (before : Bool). events_of_reception args.handle before args.params.now args.peer.now step.acked step.effect step.refused step.done)
    c.was_encrypted-before.ensures)
    (c.events_of_kept-kept.ensures
    ∙ ap (λ (before : Bool). events_of_kept args.handle before args.peer.now step.kept_effect step.kept_done) c.was_encrypted-before.ensures)
    c.tell_events.ensures.notes c.tell_kept.ensures.notes
