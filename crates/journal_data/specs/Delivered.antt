-- What one side of a link takes, hands up and is credited, against what the other side sent and its host submitted (Core
-- 5.2, volume 4 part E, section 4.1; volume 6 part B, section 4.5.9).
use Rattle.std.specs.Prelude.{◌≡◌, ◌++◌, ℕ, ◌+◌, ◌≤◌, false, List, length, take}
use Rattle.ble_base.specs.Side.{other_side}
use Rattle.ble_base.specs.declared.roles.Side.{Side}
use Rattle.acl_banks.specs.History.{octets_of, whole_packets}
use Rattle.journal.specs.declared.entries.Entry.{Entry}
use Rattle.journal_acks.specs.run_model.Pair.{pair_buffers}
use Rattle.journal_data.specs.Followed.{Mixed}
use Rattle.journal_data.specs.Lines.{Lines, accepted_on, credited_on, data_on, empties_on, lines_of, pdus_on, received_on}

-- on this link, what one side takes is what the other sends, in order, with its numbers, all but at most the last PDU
pub record IsReliable (link : ℕ) (from to : Lines) : Type 0 where
  pub in_order : pdus_on link to.taken ≡ take (length (pdus_on link to.taken)) (pdus_on link from.sent)
  pub at_most_one_ahead : length (pdus_on link from.sent) ≤ length (pdus_on link to.taken) + 1

-- what the host of a side receives of this link is the first octets of what its end accepted, and that is the first
-- octets of what the other host submitted; and no more packets are credited to that host than it submitted with no
-- octet, or were accepted whole
pub record IsDelivered (link : ℕ) (from to : Lines) : Type 0 where
  pub received : received_on link to ≡ take (length (received_on link to)) (accepted_on link to)
  pub accepted : accepted_on link to
      ≡ take (length (accepted_on link to)) (octets_of (data_on link from))
  pub credited : credited_on link from
      ≤ empties_on link from + whole_packets (data_on link from) (length (accepted_on link to))

-- both, of one link from one side to the other
pub record ArrivesInOrder (link : ℕ) (from to : Lines) : Type 0 where
  pub reliable : IsReliable link from to
  pub delivered : IsDelivered link from to

-- each controller of a pair has this number of buffers for packets of its host (our choice)
abbrev pub host_buffers : ℕ
host_buffers = pair_buffers

-- after each line of a journal, on each link, from each side to the other, as long as no packet of the link is mixed
abbrev pub AllDataArrives : Mixed → List Entry → Type 0
AllDataArrives mixed journal = (front rest : List Entry) → journal ≡ front ++ rest → (side : Side) (link : ℕ)
    → mixed link front ≡ false → ArrivesInOrder link (lines_of host_buffers side front) (lines_of host_buffers (other_side side) front)
