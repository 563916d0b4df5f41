-- Proof of `views::an_opened_link_is_known`.
use Rattle.host_asks.proofs.LinksViewed.{opened_known}
use Rattle.host_asks.proofs.views.an_opened_link_is_known.Goals as goal

pub returns : goal.returns
returns c = opened_known
