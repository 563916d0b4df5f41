-- Proof of `controllers::Controller::hear_on_link`.
use Rattle.std.proofs.Common.{ℕ, refl, sym, subst, ap, ◌∙◌}
use Rattle.controller.specs.Held.{Held}
use Rattle.controller.specs.Knowing.{IsAt}
use Rattle.controller.specs.Steps.{place_drawn}
use Rattle.controller.proofs.Hearing.{hears_is}
use Rattle.controller.proofs.controllers.Controller.hear_on_link.Goals as goal

pub returns-clause-passes : goal.returns-clause-passes
returns-clause-passes g c = λ has facts k in_event.
    let k = subst (λ (held : Held). IsAt has held facts) (sym c.self.view_is) k in
    hears_is has _ _ facts c.args.handle c.args.octets.now _ _ _ _ _ _ _ refl
    (c.place_drawn-self-inside.ensures.value
    ∙ ap (λ (count : ℕ). place_drawn c.hear_on_link-heard.result.draws count c.self.inside.next_word) c.len.ensures.value)
    (c.hear_on_link-heard.ensures.knows facts.links facts.received k.links in_event)
    (c.hear_on_link-heard.ensures.notes facts.links facts.received k.links in_event) c.len-before.ensures.value c.follow_from.ensures
    (c.hear_on_link-heard.ensures.reply facts.links facts.received k.links in_event)
    (c.hear_on_link-heard.ensures.draws facts.links facts.received k.links in_event) c.reply_if.ensures.value k
