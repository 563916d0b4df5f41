-- Proof of `links_going::links_that_go_on_stay_known`.
use Rattle.host_asks.proofs.OpenLinksGoing.{links_none, links_packet, links_refused, links_request, links_step}
use Rattle.host_asks.proofs.links_going.links_that_go_on_stay_known.Goals as goal

pub returns-clause-step : goal.returns-clause-step
returns-clause-step c = links_step

pub returns-clause-packet : goal.returns-clause-packet
returns-clause-packet c = links_packet

pub returns-clause-request : goal.returns-clause-request
returns-clause-request c = links_request

pub returns-clause-none : goal.returns-clause-none
returns-clause-none c = links_none

pub returns-clause-refused : goal.returns-clause-refused
returns-clause-refused c = links_refused
