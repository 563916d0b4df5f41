-- Proof of `asking::ask_update`.
use Rattle.std.proofs.Common.{sym, subst, ◌∙◌}
use Rattle.open_links.specs.Hosts.{links_asked}
use Rattle.open_links.specs.Knowing.{Knows as KnowsLinks}
use Rattle.host_notes.proofs.AskedLinks.{update_asked_of, update_of_none}
use Rattle.host_notes.proofs.asking.ask_update.Goals as goal

pub returns-in-Some-clause-knows : goal.returns-in-Some-clause-knows
returns-in-Some-clause-knows g c = λ known received lengths moment k.
    subst (λ links. KnowsLinks c.ask.new.self links received)
    (sym (update_asked_of c.args.handle moment c.args.min c.args.max c.args.latency c.args.timeout lengths known _ (sym (c.setup.ensures known received k) ∙ c.in-Some.is)))
    (subst (λ ask. KnowsLinks c.ask.new.self (links_asked c.args.handle ask known) received) c.update_by.ensures (c.ask.ensures.knows known received k))

pub returns-in_default-clause-knows : goal.returns-in_default-clause-knows
returns-in_default-clause-knows g c = λ known received lengths moment k.
    subst (λ links. KnowsLinks c.args.links.now links received)
    (sym (update_of_none c.args.handle moment c.args.min c.args.max c.args.latency c.args.timeout lengths known (sym (c.setup.ensures known received k) ∙ c.in_default.is)))
    k
