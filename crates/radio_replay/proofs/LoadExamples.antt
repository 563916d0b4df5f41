-- Small parts of loads, by computing the definitions.
use Rattle.std.proofs.Common.{◌≡◌, [], ◌∷◌, refl, codes}
use Rattle.std.specs.Fmt.{digits}
use Rattle.radio_replay.specs.LoadSchedule.{block_lines}
use Rattle.radio_replay.specs.LoadStreams.{packets_before, sizes_before}
use Rattle.radio_replay.specs.RandomOctets.{octets_from, state_after}

-- the first three packets of A in the load of 7, of one, two and three octets
pub first_packets : packets_before 7 3
    ≡ 2 ∷ 0 ∷ 0 ∷ 1 ∷ 0 ∷ 61 ∷ 2 ∷ 0 ∷ 0 ∷ 2 ∷ 0 ∷ 233 ∷ 156 ∷ 2 ∷ 0 ∷ 0 ∷ 3 ∷ 0 ∷ 237 ∷ 12 ∷ 219 ∷ []
unfolding packets_before sizes_before octets_from state_after
first_packets = refl

-- a block in which hosts are fed a packet, and the packet of the event is lost; and one in which neither is so
pub first_block : block_lines 6 0 ≡ codes "t ++ a6 b6" ∷ codes "t ++ x" ∷ codes "run 22" ∷ []
unfolding digits
first_block = refl

pub last_block : block_lines 6 218 ≡ codes "t ++" ∷ codes "t ++" ∷ codes "run 22" ∷ []
unfolding digits
last_block = refl
