-- The proof of the law `packets_pass_within_an_event`.
use Rattle.two_tracks.proofs.Read.{anchors, packets, replies}
use Rattle.two_tracks.proofs.laws.packets_pass_within_an_event.Goals as goal

pub returns-clause-packets : goal.returns-clause-packets
returns-clause-packets c = packets

pub returns-clause-anchors : goal.returns-clause-anchors
returns-clause-anchors c = anchors

pub returns-clause-replies : goal.returns-clause-replies
returns-clause-replies c = replies
