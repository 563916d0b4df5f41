-- Proof of `exchanges::send`.
use Rattle.std.proofs.Common.{subst}
use Rattle.link_model.specs.Step.{PacketSent}
use Rattle.open_links.specs.Knowing.{Knows as KnowsLinks}
use Rattle.open_links.specs.OpenLinks.{Links}
use Rattle.host_notes.proofs.InEvent.{change_in_event}
use Rattle.controller.proofs.exchanges.send.Goals as goal

pub returns-clause-knows : goal.returns-clause-knows
returns-clause-knows g c = λ known received knows has.
    subst (λ (links : Links). KnowsLinks c.to_send.new.self links received) (change_in_event (PacketSent c.args.slot.0) c.args.handle known has)
    (c.to_send.ensures.knows known received knows)
