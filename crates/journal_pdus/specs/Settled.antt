-- What a host has received of a link, and what is reported to it, between the turns of a run (Core 5.2, volume 4
-- part E, section 7.7.19; when it is done is our choice).
use Rattle.std.specs.Prelude.{◌≡◌, ◌⊎◌, ℕ, ◌+◌, ◌-◌, ◌==◌, ◌&&◌, ◌||◌, not, Bool, true, false, List, [], ◌∷◌, ◌++◌, length, take, Option, Some, None, if◌then◌else◌}
use Rattle.ble_base.specs.declared.roles.Side.{Side}
use Rattle.acl_banks.specs.History.{whole_packets}
use Rattle.acl_banks.specs.Packets.{Marked}
use Rattle.journal.specs.declared.entries.Entry.{Entry}
use Rattle.journal.specs.declared.entries.Entry.TheVariants.{Air, Fed, Shut, Turn}
use Rattle.journal_moves.specs.journal_wants.journal_sending.journal_acks.Carried.{SentLine, sent_line_of}
use Rattle.journal_moves.specs.journal_wants.journal_sending.journal_acks.Exchange.{exchange_of}
use Rattle.journal_moves.specs.journal_wants.journal_sending.journal_data.Delivered.{host_buffers}
use Rattle.journal_moves.specs.journal_wants.journal_sending.journal_data.HostLines.{OpenUnder}
use Rattle.journal_moves.specs.journal_wants.journal_sending.journal_data.Lines.{accepted_on, credited_on, data_on, empties_on, lines_of, pdus_on, received_on}
use Rattle.journal_moves.specs.journal_wants.journal_sending.journal_hosts.HostFlow.{is_host_full}
use Rattle.journal_moves.specs.journal_wants.journal_sending.journal_packets.Belonging.{is_side}
use Rattle.journal_moves.specs.journal_wants.journal_sending.run_model.Readers.{turn_packets}
use Rattle.journal_moves.specs.journal_wants.journal_sending.Outgoing.{data_of_lines}

-- ---- what is handed up

-- after these lines a turn begins, a packet is on the air, the host of a side gives octets, or a link of it is shut
-- before the packets of a turn, which makes room in that turn
abbrev pub goes_on : Side → List Entry → Entry → Bool
goes_on side front (Turn slot a_on b_on) = true
goes_on side front (Air sender channel octets fate verdict) = true
goes_on side front (Fed other octets) = is_side other side
goes_on side front (Shut other link reason) = is_side other side && (turn_packets front == 0)
goes_on side front line = false

-- these lines come after `front`
abbrev pub full_from : Side → List Entry → Bool → List Entry → Bool
full_from side front full [] = full
full_from side front full (line ∷ lines) =
    full_from side (front ++ line ∷ [])
    ((full && not (goes_on side front line)) || is_host_full side (front ++ line ∷ [])) lines

-- the host of a side could take no more at one of the lines since such a line, or at that: so as the turn ended. The
-- packets of a link that is shut as a turn ends count as taken only from then on
unfoldable pub was_full : Side → List Entry → Bool
was_full side journal = full_from side [] false journal

-- the host has received all data of a link that its side took, or could take no more
abbrev pub IsHandedUp : ℕ → Side → List Entry → Type 0
IsHandedUp link side front =
    (received_on link (lines_of host_buffers side front) ≡ accepted_on link (lines_of host_buffers side front))
    ⊎ (was_full side front ≡ true)

-- ---- what is credited

-- 1 where the PDU of the last `sent` line is not acknowledged: no PDU of its side was, since that line
abbrev pub count_out : Option SentLine → ℕ → ℕ
count_out None acked = 0
count_out (Some line) acked = if line.acked == acked then 1 else 0

-- the data of the PDUs that are acknowledged to a side: of all that it sent but the one that is not
abbrev pub acked_on : ℕ → Side → List Entry → List Marked
acked_on link side front =
    let lines = pdus_on link (lines_of host_buffers side front).sent in
    data_of_lines
    (take (length lines - count_out (sent_line_of link front side) (exchange_of link front side).acked) lines)

-- of the packets of its host those are reported that had no octet, and those whose last octet is acknowledged
abbrev pub IsCredited : ℕ → Side → List Entry → Type 0
IsCredited link side front =
    credited_on link (lines_of host_buffers side front)
    ≡ empties_on link (lines_of host_buffers side front)
    + whole_packets (data_on link (lines_of host_buffers side front)) (length (acked_on link side front))

-- on each link that a side has open
abbrev pub AreCredited : List Entry → Type 0
AreCredited front = (side : Side) (before after : List OpenUnder) (one : OpenUnder)
    → (lines_of host_buffers side front).links ≡ before ++ one ∷ after → IsCredited one.link side front

-- ---- both

pub record IsSettled (link : ℕ) (side : Side) (front : List Entry) : Type 0 where
  pub received : IsHandedUp link side front
  pub credited : IsCredited link side front

-- so it is on each link that a side has open
abbrev pub AreSettled : List Entry → Type 0
AreSettled front = (side : Side) (before after : List OpenUnder) (one : OpenUnder)
    → (lines_of host_buffers side front).links ≡ before ++ one ∷ after → IsSettled one.link side front
