-- Flow control towards a host, by the lines of its side: how many packets of data it holds, how many it can still take,
-- and what waits for it (Core 5.2, volume 4 part E, sections 4.2 and 7.3.38 to 7.3.40).
use Rattle.std.specs.Prelude.{◌≡◌, ◌<◌, ◌≤◌, ℕ, ◌+◌, ◌-◌, ◌==◌, ◌&&◌, nat_le, nat_lt, min, Bool, true, List, [], ◌∷◌, ◌++◌, drop, filter, fold, length, is_some, if◌then◌else◌}
use Rattle.std.specs.List.{list_all, sum_by}
use Rattle.ble_base.specs.declared.roles.Side.{Side}
use Rattle.h4_frames.specs.declared.packet.HostPacket.{HostPacket}
use Rattle.h4_frames.specs.declared.packet.HostPacket.TheVariants.{Command}
use Rattle.hci_cmd.specs.Command.{command_of}
use Rattle.hci_cmd.specs.declared.command.CmdRead.{CmdRead}
use Rattle.hci_cmd.specs.declared.command.CmdRead.TheVariants.{Known}
use Rattle.hci_cmd.specs.declared.command.Command.TheVariants.{HostCompleted}
use Rattle.hci_cmd.specs.declared.command.HandleCount.{HandleCount}
use Rattle.host_answers.specs.Flows.{flow_on}
use Rattle.host_view.specs.Noted.{acl_handle, is_acl_data}
use Rattle.host_view.specs.Status.{count_for}
use Rattle.journal.specs.declared.entries.Entry.{Entry}
use Rattle.journal.specs.declared.entries.Entry.TheVariants.{Fed as Feeds, Up, Opened}
use Rattle.journal_data.specs.Held.{links_open}
use Rattle.journal_data.specs.HostLines.{OpenUnder, link_under, packets_framed}
use Rattle.journal_data.specs.Lines.{Lines, PduLine, Received, is_of_side, lines_of, pdus_on}
use Rattle.journal_data.specs.Delivered.{host_buffers}
use Rattle.run_model.specs.Pair.{pair_buffers}
use Rattle.journal_data.specs.link_model.Data.{is_data}

-- ---- what a host holds

-- a command of Host Number Of Completed Packets is accepted where each of its handles is of an open link, of which the
-- host holds what the command says of it in all
abbrev pub may_take : List OpenUnder → (ℕ → ℕ) → List HandleCount → HandleCount → Bool
may_take links counts pairs pair =
    is_some (link_under pair.handle links) && nat_le (count_for pair.handle pairs) (counts pair.handle)

abbrev pub counts_completed : List OpenUnder → (ℕ → ℕ) → List HandleCount → ℕ → ℕ
counts_completed links counts pairs handle =
    if list_all (may_take links counts pairs) pairs then counts handle - count_for handle pairs else counts handle

abbrev pub counts_read : List OpenUnder → (ℕ → ℕ) → CmdRead → ℕ → ℕ
counts_read links counts (Known (HostCompleted pairs)) = counts_completed links counts pairs.items
counts_read links counts other = counts

abbrev pub counts_sent : List OpenUnder → (ℕ → ℕ) → HostPacket → ℕ → ℕ
counts_sent links counts (Command opcode parameters) = counts_read links counts (command_of opcode parameters.items)
counts_sent links counts other = counts

-- a packet of data is one more; a count has 16 bits
abbrev pub one_more : ℕ → (ℕ → ℕ) → ℕ → ℕ
one_more handle counts other = if other == handle then min (counts other + 1) 65535 else counts other

abbrev pub none_yet : ℕ → (ℕ → ℕ) → ℕ → ℕ
none_yet handle counts other = if other == handle then 0 else counts other

-- ---- line by line

-- after a line of its own, which comes after these. Flow control is on as the line comes, or is off: it is turned on
-- and off only while no link is open, so what the octets of one line say of it changes nothing of what is counted there
abbrev pub counts_by : Side → List Entry → (ℕ → ℕ) → Entry → ℕ → ℕ
counts_by side front counts (Feeds other octets) =
    if (flow_on side front).on
    then fold (counts_sent (links_open side front)) counts
    (packets_framed (lines_of host_buffers side front).fed octets)
    else counts
counts_by side front counts (Up other octets) =
    if (flow_on side front).on && is_acl_data octets then one_more (acl_handle octets) counts else counts
counts_by side front counts (Opened other link handle role) = none_yet handle counts
counts_by side front counts other = counts

abbrev pub counts_after : Side → List Entry → (ℕ → ℕ) → Entry → ℕ → ℕ
counts_after side front counts line = if is_of_side side line then counts_by side front counts line else counts

abbrev pub counts_from : Side → List Entry → (ℕ → ℕ) → List Entry → ℕ → ℕ
counts_from side front counts [] = counts
counts_from side front counts (line ∷ lines) =
    counts_from side (front ++ line ∷ []) (counts_after side front counts line) lines

-- how many packets of data the host of a side received under each handle since its link was opened, and has not taken
unfoldable pub held_on : Side → List Entry → ℕ → ℕ
held_on side front = counts_from side [] (λ handle. 0) front

-- and on all its open links
abbrev pub outstanding_on : Side → List Entry → ℕ
outstanding_on side front = sum_by (λ (one : OpenUnder). held_on side front one.handle) (links_open side front)

-- it can take no more; no more are counted than 16 bits tell
abbrev pub is_host_full : Side → List Entry → Bool
is_host_full side front =
    (flow_on side front).on && nat_le (min (flow_on side front).acl_count 65535) (outstanding_on side front)

-- ---- what waits for it

-- the pieces of data that a side took on a link and that its host has not received
abbrev pub waiting_of : Lines → ℕ → ℕ
waiting_of lines link =
    length (filter (λ (one : PduLine). is_data one.pdu) (pdus_on link lines.taken))
    - length (filter (λ (one : Received). one.link == link) lines.received)

-- and on all links that it has open
abbrev pub waiting_on : Side → List Entry → ℕ
waiting_on side front =
    sum_by (λ (one : OpenUnder). waiting_of (lines_of host_buffers side front) one.link) (links_open side front)

-- a controller takes no further piece while all its buffers for pieces of data from the air are taken, of which each
-- of a pair has this number (volume 6 part B, section 4.5.9; the number is our choice)
abbrev pub has_room_on : Side → List Entry → Bool
has_room_on side front = nat_lt (waiting_on side front) pair_buffers

-- ---- each packet of data to a host

-- while flow control is on the host can take one more
abbrev pub AllCanBeTaken : List Entry → Type 0
AllCanBeTaken journal = (front rest : List Entry) (side : Side) (octets : List ℕ)
    → journal ≡ front ++ Up side octets ∷ rest → is_acl_data octets ≡ true → (flow_on side front).on ≡ true
    → outstanding_on side front < (flow_on side front).acl_count

-- and it has no more octets than the host takes, after the indicator, the handle and the length
abbrev pub AllFitHostBuffers : List Entry → Type 0
AllFitHostBuffers journal = (front rest : List Entry) (side : Side) (octets : List ℕ)
    → journal ≡ front ++ Up side octets ∷ rest → is_acl_data octets ≡ true
    → length (drop 5 octets) ≤ (flow_on side front).acl_length

pub record KeepsHostFlow (journal : List Entry) : Type 0 where
  pub can_be_taken : AllCanBeTaken journal
  pub fit : AllFitHostBuffers journal
