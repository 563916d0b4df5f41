-- Proof of `stations::Station::feed`.

use Rattle.pair_world.proofs.Feeding.{feeds, some_there}
use Rattle.pair_world.proofs.Outcomes.{on_ok_more}
use Rattle.pair_world.proofs.stations.Station.feed.Goals as goal

pub returns-clause-at : goal.returns-clause-at
returns-clause-at c =
    let some = some_there c.is_empty.result c.next_octets-octets.result.now c.is_empty.ensures c.if-is_empty.false in
    on_ok_more c.take_octets.result _ _ (λ go given history at.
    feeds given c.args.side c.args.count history c.args.self.now c.next_octets-octets.new.self c.take_octets.new.self
    c.args.log.now c.write.new.self c.take_octets.new.log c.next_octets-octets.result.now at c.next_octets-octets.ensures.octets some
    c.next_octets-octets.ensures.unfed (rw c.in_ok-copy.ensures at c.in_ok-write.ensures.ok) go)
    c.take_octets.ensures.at
