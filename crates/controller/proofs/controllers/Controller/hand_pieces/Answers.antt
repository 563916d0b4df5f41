-- Proof of `controllers::Controller::hand_pieces`.
use Rattle.std.proofs.Common.{ℕ, ◌≤◌, length, refl, ap, sym, subst}
use Rattle.controller_model.specs.Facts.{Setup}
use Rattle.controller.specs.Held.{Held}
use Rattle.controller.specs.Knowing.{IsAt}
use Rattle.controller.proofs.Handing.{pieces_at, pieces_noted}
use Rattle.controller.proofs.controllers.Controller.hand_pieces.Goals as goal

pub returns-clause-at : goal.returns-clause-at
returns-clause-at g c = λ has facts k few.
    let k = subst (λ (held : Held). IsAt has held facts) (sym c.self.view_is) k in
    let fits = subst (λ (n : ℕ). length facts.received ≤ n) (sym (ap (λ (setup : Setup). setup.air_buffers) k.setup)) few in
    pieces_at has _ _ facts _ _ _ _ refl fits c.most_handed-most.ensures.value c.requires.room
    (c.hand_up.ensures.notes facts.links facts.received k.links) c.follow_from.ensures
    (c.hand_up.ensures.knows facts.links facts.received k.links) k

pub returns-clause-notes : goal.returns-clause-notes
returns-clause-notes g c = λ has facts k few.
    let k = subst (λ (held : Held). IsAt has held facts) (sym c.self.view_is) k in
    let fits = subst (λ (n : ℕ). length facts.received ≤ n) (sym (ap (λ (setup : Setup). setup.air_buffers) k.setup)) few in
    pieces_noted facts _ _ _ _ _ k.view fits c.most_handed-most.ensures.value c.requires.room
    (c.hand_up.ensures.notes facts.links facts.received k.links)
