-- Proof of `entering::enter_from`.
use Rattle.std.proofs.Common.{◌++◌, sym, ◌∙◌}
use Rattle.host_notes.proofs.Entered.{enters_more}
use Rattle.host_notes.proofs.entering.+enter_from.Goals as goal

pub returns-clause-enters : goal.returns-clause-enters
returns-clause-enters g n c = λ done rest received count known.
    enters_more c.args.view.now c.args.slot.0 c.args.handle _ _ _ _ _ _ _ _ _ c.enter_link.ensures.knows c.enter_link.ensures.notes
    c.enter_link.ensures.wants c.enter_from.ensures.enters done rest received count
    (λ is. c.if-handle-places.false (is ∙ sym (c.places.ensures.known (done ++ rest) received known))) known
