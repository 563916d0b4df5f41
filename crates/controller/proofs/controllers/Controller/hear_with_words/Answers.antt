-- Proof of `controllers::Controller::hear_with_words`.
use Rattle.std.proofs.Common.{refl, subst, sym}
use Rattle.link_model.specs.Step.{WordsGiven}
use Rattle.controller_model.specs.Heard.{facts_with_words}
use Rattle.controller_model.proofs.Exchanges.{step_stays}
use Rattle.controller.specs.Held.{Held}
use Rattle.controller.specs.Knowing.{IsAt}
use Rattle.controller.proofs.Hearing.{words_at}
use Rattle.controller.proofs.controllers.Controller.hear_with_words.Goals as goal

pub returns-clause-passes : goal.returns-clause-passes
returns-clause-passes g c = λ has facts k entered.
    let held = subst (λ (held : Held). IsAt has held facts) (sym c.self.view_is) k in
    c.hear_on_link.ensures.passes has (facts_with_words has c.args.handle facts)
    (words_at has _ _ facts c.args.handle _ refl (c.moment-moment.ensures.value has facts k)
    (c.enc_words.ensures.knows facts.links facts.received held.links) held)
    (step_stays (WordsGiven _ _) c.args.handle facts.links c.args.handle entered)
