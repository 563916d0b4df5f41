-- The proof of the law `hosts_leave_ends_parting`.
use Rattle.link_model.specs.End.{facts_after}
use Rattle.link_pairs.proofs.NothingNew.{host_still, sender_still, taker_still}
use Rattle.link_pairs.proofs.PartingEndings.{disconnects_none}
use Rattle.link_pairs.proofs.parting.hosts_leave_ends_parting.Goals as goal

pub returns-clause-taker : goal.returns-clause-taker
returns-clause-taker g =
    λ taker sender t s step parting may. taker_still taker sender t s parting (facts_after taker t step) (host_still taker t step may)

pub returns-clause-sender : goal.returns-clause-sender
returns-clause-sender g =
    λ taker sender t s step parting may. sender_still taker sender t s parting (facts_after sender s step) (host_still sender s step may)

pub returns-clause-taker_ends_no_more : goal.returns-clause-taker_ends_no_more
returns-clause-taker_ends_no_more g = λ taker sender t s reason slot parting. disconnects_none reason t.control parting.took.closing

pub returns-clause-sender_ends_no_more : goal.returns-clause-sender_ends_no_more
returns-clause-sender_ends_no_more g =
    λ taker sender t s reason slot parting.
    disconnects_none reason s.control parting.sent.shut
