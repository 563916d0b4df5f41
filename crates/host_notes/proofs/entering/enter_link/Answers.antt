-- Proof of `entering::enter_link`.
use Rattle.std.proofs.Common.{refl}
use Rattle.host_notes.proofs.Entered.{entering_noted}
use Rattle.host_notes.proofs.entering.enter_link.Goals as goal

pub returns-clause-notes : goal.returns-clause-notes
returns-clause-notes g c = λ known received knows.
    let entered = c.enter-entry.ensures.knows known received knows in
    entering_noted c.args.view.now c.args.slot.0 c.args.handle known _ _ _ _ _ (c.enter-entry.ensures.entry known received knows)
    refl (c.enter-entry.ensures.notes known received knows) (c.tell_entry.ensures.notes _ received entered)
