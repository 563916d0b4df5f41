-- Proof of `exchanges::ready`.
use Rattle.std.proofs.Common.{subst}
use Rattle.link_model.specs.Step.{PduFixed}
use Rattle.open_links.specs.Knowing.{Knows as KnowsLinks}
use Rattle.open_links.specs.OpenLinks.{Links}
use Rattle.host_notes.proofs.InEvent.{change_in_event}
use Rattle.controller.proofs.exchanges.ready.Goals as goal

pub returns-clause-knows : goal.returns-clause-knows
returns-clause-knows g c = λ known received knows has.
    subst (λ (links : Links). KnowsLinks c.ready.new.self links received) (change_in_event PduFixed c.args.handle known has)
    (c.ready.ensures.knows known received knows)
