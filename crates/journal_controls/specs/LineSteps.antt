-- The procedures, the parameters, the phase and the keys of an end of a link, from the lines of a journal alone (Core 5.2,
-- volume 6 part B, sections 4.5.9, 5.1 and 5.5).
use Rattle.std.specs.Prelude.{ℕ, ◌+◌, ◌-◌, ◌==◌, ◌&&◌, nat_lt, not, Bool, false, List, [], ◌∷◌, ◌++◌, length, Option, Some, None, if◌then◌else◌}
use Rattle.std.specs.List.{flat_map}
use Rattle.std.specs.Option.{option_map}
use Rattle.ble_base.specs.declared.channel_map.ChannelMap.{ChannelMap}
use Rattle.ble_base.specs.declared.roles.Role.{Role}
use Rattle.ble_base.specs.declared.roles.Role.TheVariants.{Central, Peripheral}
use Rattle.ble_base.specs.declared.roles.Side.{Side}
use Rattle.journal_ends.specs.host_answers.Flows.{most_received_on}
use Rattle.host_masks.specs.Masks.{masks_of}
use Rattle.journal.specs.declared.entries.Entry.{Entry}
use Rattle.journal.specs.declared.entries.Entry.TheVariants.{Enter, Opened, Sent, Shut, Took}
use Rattle.journal_ends.specs.Answering.{answers_in_line}
use Rattle.journal_ends.specs.Asked.{Words}
use Rattle.journal_ends.specs.Seen.{Asks as IsAsked, Hears, HearsForged, Says, Seen, seen_in_line}
use Rattle.journal_ends.specs.journal_acks.Carried.{carried_of}
use Rattle.journal_ends.specs.journal_acks.Exchange.{Exchanged, exchange_of}
use Rattle.journal_ends.specs.journal_links.Begun.{LinkBegun, link_numbered}
use Rattle.journal_ends.specs.journal_links.Changes.{role_on}
use Rattle.journal_ends.specs.journal_packets.Belonging.{is_side}
use Rattle.journal_ends.specs.link_model.Acknowledgement.{Pdu}
use Rattle.journal_ends.specs.link_model.Data.{is_control}
use Rattle.journal_ends.specs.link_model.Hosts.{map_queued, map_waiting, map_wanted, or_else}
use Rattle.journal_ends.specs.link_model.Setup.{first_params}
use Rattle.journal_ends.specs.link_model.Step.{Step, Disconnected, ProcedureAsked}
use Rattle.journal_ends.specs.link_model.control_model.Control.{Control}
use Rattle.journal_ends.specs.link_model.keyed_control.Keyed.{Keyed, first_keyed}
use Rattle.journal_ends.specs.link_model.keyed_control.KeyedSteps.{Asks, Disconnects, Enters, SeesAcknowledged, Sends}
use Rattle.journal_ends.specs.link_model.keyed_control.declared.material.Response.{Response}
use Rattle.journal_ends.specs.link_model.phased_control.Taken.{role_now}
use Rattle.journal_ends.specs.link_model.procedure_values.declared.asks.Ask.{Ask}
use Rattle.journal_ends.specs.link_model.procedure_values.declared.asks.Ask.TheVariants.{Map}
use Rattle.journal_ends.specs.run_model.Readers.{fed_to_side, turns_of}
use Rattle.journal_controls.specs.KeyedLines.{Does, Forges, LineStep, answering, does_if, has_next, keyed_by_all, steps_refusing, steps_sending, steps_taking}
use Rattle.journal_controls.specs.Withheld.{Withheld, withheld_by}

-- ---- its host

-- the map that an end is to have: the one that is wanted, or else the one that is on its way, or else that of now
abbrev pub map_coming : Control → ChannelMap
map_coming control =
    or_else (map_wanted control.table.wanted)
    (or_else (map_queued control.table.queue.drafts)
    (or_else (map_waiting control.track.waits) control.track.params.map))

-- a map that it is to have already changes nothing
abbrev pub is_coming : Ask → Control → Bool
is_coming (Map map) control = map == map_coming control
is_coming ask control = false

-- the steps of what a host asks of an end, or answers
abbrev pub steps_asking : Keyed → Step → List LineStep
steps_asking k (ProcedureAsked ask) = does_if (not (is_coming ask k.phased.control)) (Asks ask)
steps_asking k (Disconnected reason slot) = Does (Disconnects reason) ∷ []
steps_asking k step = answering step

-- the requests of its peer that the masks of the host of a side withhold from it, by these entries
abbrev pub withholds : Side → List Entry → Withheld
withholds side front = withheld_by (masks_of (fed_to_side side front))

-- ---- it says a line

-- the steps of a line of an end with this role, in this turn, where this would be drawn
abbrev pub steps_saying : Role → Response → ℕ → Entry → List LineStep
steps_saying role response slot (Enter side link event channel) = Does (Enters slot) ∷ []
steps_saying role response slot (Sent side link count llid body) =
    steps_sending role slot (record { llid = llid; body = body })
steps_saying role response slot (Took side link count llid body) =
    steps_taking response slot (record { llid = llid; body = body })
steps_saying role response slot line = []

-- the steps of a line of an end that is like this before it
abbrev pub steps_said : Withheld → Response → ℕ → Keyed → Entry → List LineStep
steps_said withheld response slot k (Took side link count llid body) =
    let pdu : Pdu = record { llid = llid; body = body } in
    steps_taking response slot pdu ++ steps_refusing withheld response slot k pdu
steps_said withheld response slot k line = steps_saying (role_now k.phased) response slot line

-- ---- it hears a good packet of the other end

-- it has more PDUs acknowledged than before
abbrev pub is_more_acked : Exchanged → Exchanged → Bool
is_more_acked before after = nat_lt before.acked after.acked

-- a peripheral answers with the control PDU that waits, where all that it sent before are acknowledged
abbrev pub answers_with : Role → Bool → Exchanged → Bool
answers_with Central waits after = false
answers_with Peripheral waits after = (after.acked == after.sent) && waits

-- its last PDU, which is this one, may be acknowledged, and then it may answer
abbrev pub steps_heard : Role → ℕ → Exchanged → Exchanged → Pdu → Bool → List LineStep
steps_heard role slot before after last waits =
    does_if (is_more_acked before after && is_control last) SeesAcknowledged
    ++ does_if (answers_with role waits after) (Sends slot)

-- ---- all that is seen of it

-- the turn that is under way after these entries
abbrev pub turn_now : List Entry → ℕ
turn_now front = length (turns_of front) - 1

-- the steps of what it says, hears or is asked in a line that comes after these
abbrev pub steps_seen : Words → Side → ℕ → List Entry → Entry → Keyed → Seen → List LineStep
steps_seen words side number front line k (Says own) =
    steps_said (withholds side front) (words side front) (turn_now front) k own
steps_seen words side number front line k (Hears slot octets) =
    steps_heard (role_now k.phased) slot (exchange_of number front side)
    (exchange_of number (front ++ line ∷ []) side) (carried_of number front side) (has_next k)
steps_seen words side number front line k HearsForged = Forges ∷ []
steps_seen words side number front line k (IsAsked step) = steps_asking k step

-- and of what its host answers in that line
abbrev pub steps_in_line : Words → Side → ℕ → List Entry → Entry → Keyed → List LineStep
steps_in_line words side number front line k =
    flat_map answering (answers_in_line words side number front line)
    ++ flat_map (steps_seen words side number front line k) (seen_in_line words side number front line)

-- ---- line by line

-- the anchor of event 0 of a link (section 4.5.3)
abbrev pub anchor_begun : LinkBegun → ℕ
anchor_begun link = link.slot + 2 + link.fields.win_offset

-- as the link begins, where the end receives at most this number of octets
abbrev pub keyed_begun : (most : ℕ) → Side → Option LinkBegun → Option Keyed
keyed_begun most side None = None
keyed_begun most side (Some link) =
    Some (first_keyed (role_on link side) most (first_params link.fields) (anchor_begun link))

abbrev pub moved_in_line : Words → Side → ℕ → List Entry → Entry → Keyed → Keyed
moved_in_line words side number front line k = keyed_by_all (steps_in_line words side number front line k) k

abbrev pub keyed_in_line : Words → Side → ℕ → List Entry → Option Keyed → Entry → Option Keyed
keyed_in_line words side number front before (Opened other link handle role) =
    if is_side other side && link == number then keyed_begun (most_received_on side front) side (link_numbered number front) else before
keyed_in_line words side number front before (Shut other link reason) =
    if is_side other side && link == number then None else before
keyed_in_line words side number front before line = option_map (moved_in_line words side number front line) before

abbrev pub keyed_from : Words → Side → ℕ → List Entry → Option Keyed → List Entry → Option Keyed
keyed_from words side number front before [] = before
keyed_from words side number front before (line ∷ lines) =
    keyed_from words side number (front ++ line ∷ []) (keyed_in_line words side number front before line) lines

-- the end of a side on the link with this number, while the link is open at that side
unfoldable pub keyed_on : Words → Side → ℕ → List Entry → Option Keyed
keyed_on words side number journal = keyed_from words side number [] None journal

-- its procedures and its parameters
unfoldable pub control_on : Words → Side → ℕ → List Entry → Option Control
control_on words side number journal = option_map (λ (k : Keyed). k.phased.control) (keyed_on words side number journal)
