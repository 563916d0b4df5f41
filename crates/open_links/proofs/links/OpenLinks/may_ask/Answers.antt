-- The answer of `OpenLinks::may_ask`.
use Rattle.std.proofs.Common.{subst, sym}
use Rattle.open_links.specs.OpenLinks.{link_at}
use Rattle.open_links.specs.Hosts.{may_ask_in}
use Rattle.open_links.specs.Knowing.{HeldLink, KnowsLink}
use Rattle.open_links.proofs.UnderHandles.{read_at}
use Rattle.open_links.proofs.links.OpenLinks.may_ask.Goals as goal

pub returns : goal.returns
returns g c = λ links received known.
    read_at (may_ask_in c.args.kind) c.may_ask.result _ (link_at c.args.handle links) (c.in_ok-link.ensures links received known)
    (λ link knows. c.may_ask.ensures link.setup link.past (subst (λ (held : HeldLink). KnowsLink held link) (sym c.branch.view_is) knows).end)
