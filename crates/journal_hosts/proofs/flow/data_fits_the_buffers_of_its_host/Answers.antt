-- Proof of `flow::data_fits_the_buffers_of_its_host`.
use Rattle.journal_hosts.proofs.FlowInRuns.{flow_of_pair}
use Rattle.journal_hosts.proofs.flow.data_fits_the_buffers_of_its_host.Goals as goal

pub returns : goal.returns
returns c =
    flow_of_pair c.packet_tells_its_pdu.ensures.heard c.a_pdu_is_understood.ensures.says c.connections_are_taken.ensures.taken
    c.searches_give_each_valid_address.ensures.valid c.searches_give_each_valid_address.ensures.distinct
