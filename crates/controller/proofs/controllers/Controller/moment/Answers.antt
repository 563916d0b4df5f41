-- Proof of `controllers::Controller::moment`.
use Rattle.std.proofs.Common.{ℕ, ◌+◌, ◌%◌, ap, subst, sym, ◌∙◌}
use Rattle.controller.specs.Held.{Held}
use Rattle.controller.specs.Knowing.{IsAt}
use Rattle.controller.proofs.Asking.{moment_is}
use Rattle.controller.proofs.controllers.Controller.moment.Goals as goal

pub returns-clause-value : goal.returns-clause-value
returns-clause-value g c = λ has facts k.
    moment_is has _ facts (subst (λ (held : Held). IsAt has held facts) (sym c.self.view_is) k) _ _ _ (c.random_word.ensures.value has facts k) c.random_word.ensures.bound
    c.deref.ensures.0 (c.next_place-second.ensures.value ∙ ap (λ (count : ℕ). (c.self.inside.next_word + 1) % count) c.len.ensures.value)
