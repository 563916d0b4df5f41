-- Proof of `controllers::Controller::take_asking`.
use Rattle.std.proofs.Common.{◌≡◌, true, ◌++◌, refl, ap, sym, subst, ◌∙◌}
use Rattle.host_view.specs.OnLinks.{asks_links}
use Rattle.host_view.specs.View.{View}
use Rattle.open_links.specs.Knowing.{Knows as KnowsLinks}
use Rattle.controller_model.specs.Commands.{facts_accepted}
use Rattle.controller_model.specs.Events.{notes_of_events}
use Rattle.controller_model.specs.link_commands.declared.moments.Moment.{Moment}
use Rattle.controller_model.specs.link_commands.LinksCommanded.{events_commanded_on, links_commanded}
use Rattle.controller.specs.Held.{Held}
use Rattle.controller.specs.Knowing.{IsAt}
use Rattle.controller.proofs.Asking.{asks_is, still_knows, told_is}
use Rattle.controller.proofs.controllers.Controller.take_asking.Goals as goal

pub returns-clause-at : goal.returns-clause-at
returns-clause-at g c = λ has facts k.
    let command = c.args.command.now in
    let asks = subst (λ (view : View). asks_links view command ≡ true) k.view c.requires.asks in
    let mid = subst (λ (held : Held). IsAt has held (facts_accepted has facts command)) (sym c.self.view_is) (c.take_accepted.ensures.at has facts k) in
    let knows = still_knows has _ facts command asks mid in
    asks_is has _ _ facts command _ asks mid (c.note_at_once.ensures facts.links facts.received knows)
    (subst (λ (moment : Moment). KnowsLinks c.ask_links.new.links (links_commanded command moment facts.links) facts.received)
    (c.moment-moment.ensures.value has facts k) (c.ask_links.ensures.knows facts.links facts.received knows)) refl

pub returns-clause-notes : goal.returns-clause-notes
returns-clause-notes g c = λ has facts k.
    let command = c.args.command.now in
    let asks = subst (λ (view : View). asks_links view command ≡ true) k.view c.requires.asks in
    let mid = subst (λ (held : Held). IsAt has held (facts_accepted has facts command)) (sym c.self.view_is) (c.take_accepted.ensures.at has facts k) in
    let told = ap (λ (view : View). notes_of_events view (events_commanded_on command facts.links)) mid.view ∙ told_is facts.view command facts.links in
    c.tell_at_once.ensures facts.links facts.received (still_knows has _ facts command asks mid)
    ∙ (λ i. c.take_accepted.ensures.notes has facts k i ++ told i)
