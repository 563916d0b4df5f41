-- Proof of `hearing::hear_on_link`.
use Rattle.std.proofs.Common.{nat_lt, length, None, refl, sym, ◌∙◌}
use Rattle.host_notes.proofs.Received.{heard_draws, heard_in_event, heard_notes}
use Rattle.host_notes.proofs.hearing.hear_on_link.Goals as goal

pub returns-in_default-clause-knows : goal.returns-in_default-clause-knows
returns-in_default-clause-knows g c = λ known received knows has.
    heard_in_event c.args.slot.0 c.args.handle (nat_lt (length received) g.row.R) c.args.octets.now c.args.view.now _ _ known received _ None has
    (sym c.in_default.is ∙ c.heard-step.ensures.step known received knows) (c.heard-step.ensures.knows known received knows) refl
    (λ links pieces k. k)

pub returns-clause-knows : goal.returns-clause-knows
returns-clause-knows g c = λ known received knows has.
    heard_in_event c.args.slot.0 c.args.handle (nat_lt (length received) g.row.R) c.args.octets.now c.args.view.now _ _ known received _ _ has
    (sym c.in-Some.is ∙ c.heard-step.ensures.step known received knows) (c.heard-step.ensures.knows known received knows)
    (c.refusal_told.ensures c.args.slot.0) c.refuse_if.ensures.knows

pub returns-clause-notes : goal.returns-clause-notes
returns-clause-notes g c = λ known received knows has.
    heard_notes c.args.slot.0 c.args.handle (nat_lt (length received) g.row.R) c.args.octets.now c.args.view.now known has _ _ _ _ _ _
    (c.params-params.ensures known received knows) (c.peer.ensures _ _ (c.heard-step.ensures.knows known received knows))
    (c.heard-step.ensures.step known received knows) (c.heard-step.ensures.notes known received knows) c.tell_received.ensures.notes

pub returns-in_default-clause-draws : goal.returns-in_default-clause-draws
returns-in_default-clause-draws g c = λ known received knows has.
    heard_draws c.args.slot.0 c.args.handle (nat_lt (length received) g.row.R) c.args.octets.now known has _
    (sym c.in_default.is ∙ c.heard-step.ensures.step known received knows)

pub returns-clause-draws : goal.returns-clause-draws
returns-clause-draws g c = λ known received knows has.
    heard_draws c.args.slot.0 c.args.handle (nat_lt (length received) g.row.R) c.args.octets.now known has _
    (sym c.in-Some.is ∙ c.heard-step.ensures.step known received knows)
