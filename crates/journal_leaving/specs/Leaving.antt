-- How the end of a link is to leave it, from the lines of a journal alone (Core 5.2, volume 6 part B, section 5.1.6):
-- whether its host ended it, or lacked a key after a pause, whether LL_TERMINATE_IND of this end is acknowledged, the code
-- of the peer's, and whether a packet was sent since that was taken.
use Rattle.std.specs.Prelude.{ℕ, ◌==◌, ◌&&◌, Bool, false, List, [], ◌∷◌, ◌++◌, fold, Option, Some, None, if◌then◌else◌}
use Rattle.std.specs.Option.{option_map}
use Rattle.ble_base.specs.declared.roles.Side.{Side}
use Rattle.journal.specs.declared.entries.Entry.{Entry}
use Rattle.journal.specs.declared.entries.Entry.TheVariants.{Air, Opened, Shut, Took}
use Rattle.journal_controls.specs.KeyedLines.{answer_by, given_by, keyed_by_all, steps_taking}
use Rattle.journal_controls.specs.LineSteps.{is_more_acked, keyed_on, turn_now, withholds}
use Rattle.journal_controls.specs.Withheld.{Withheld}
use Rattle.journal_controls.specs.journal_acks.Carried.{carried_of}
use Rattle.journal_controls.specs.journal_acks.Exchange.{exchange_of}
use Rattle.journal_controls.specs.journal_acks.Shut.{is_of_link}
use Rattle.journal_controls.specs.journal_ends.Answering.{answers_in_line}
use Rattle.journal_controls.specs.journal_ends.Asked.{Words}
use Rattle.journal_controls.specs.journal_ends.Seen.{Asks, Hears, HearsForged, Says, Seen, seen_in_line}
use Rattle.journal_controls.specs.journal_packets.Belonging.{is_side}
use Rattle.journal_controls.specs.link_model.Acknowledgement.{Pdu}
use Rattle.journal_controls.specs.link_model.Controls.{is_procedure_pdu, is_terminate}
use Rattle.journal_controls.specs.link_model.Facts.{stays}
use Rattle.journal_controls.specs.link_model.Hosts.{first_slot}
use Rattle.journal_controls.specs.link_model.Receiving.{code_of, leaving_acked_if, leaving_by}
use Rattle.journal_controls.specs.link_model.Sending.{leaving_sent}
use Rattle.journal_controls.specs.link_model.Step.{Step, Disconnected}
use Rattle.journal_controls.specs.link_model.declared.state.Leaving.{Leaving}
use Rattle.journal_controls.specs.link_model.keyed_control.Keyed.{Keyed}
use Rattle.journal_controls.specs.link_model.keyed_control.declared.material.Response.{Response}
use Rattle.journal_leaving.specs.Lacking.{leaving_answered, leaving_refusing}

-- ---- it sends a packet

-- the packet in a line that comes after these is one of this side on the link with this number
abbrev pub is_own_packet : Side → ℕ → List Entry → Entry → Bool
is_own_packet side number front (Air sender channel octets fate verdict) =
    is_of_link number front sender channel octets && is_side sender side
is_own_packet side number front line = false

abbrev pub leaving_sent_if : Bool → Leaving → Leaving
leaving_sent_if sends leaving = if sends then leaving_sent leaving else leaving

-- ---- it says a line

-- a control PDU that is taken by an end that is like this then, where this would be drawn: LL_TERMINATE_IND of the peer
-- ends the link
abbrev pub leaving_given : Response → ℕ → Pdu → Keyed → Leaving → Leaving
leaving_given response slot pdu k leaving =
    if is_procedure_pdu pdu then leaving_by (code_of (given_by response slot k pdu).taken.effect) leaving else leaving

-- and where a request for a key is withheld from its host, it is answered at once, by the end as it took the PDU
abbrev pub leaving_taking : Withheld → Response → ℕ → Pdu → Option Keyed → Leaving → Leaving
leaving_taking withheld response slot pdu None leaving = leaving
leaving_taking withheld response slot pdu (Some k) leaving =
    leaving_refusing slot (keyed_by_all (steps_taking response slot pdu) k) (answer_by withheld response slot k pdu)
    (leaving_given response slot pdu k leaving)

abbrev pub leaving_saying : Withheld → Response → ℕ → Option Keyed → Leaving → Entry → Leaving
leaving_saying withheld response slot k leaving (Took side link count llid body) =
    leaving_taking withheld response slot (record { llid = llid; body = body }) k leaving
leaving_saying withheld response slot k leaving line = leaving

-- ---- it hears a good packet of the other end

-- that packet acknowledges the last PDU, and this is LL_TERMINATE_IND
abbrev pub acks_terminate : Bool → Pdu → Bool
acks_terminate acks last = acks && is_terminate last

-- ---- its host asks something of it

-- the host ends the link in the turn of this slot, if it was not to end before
abbrev pub leaving_asking : Step → Leaving → Leaving
leaving_asking (Disconnected reason slot) leaving =
    record leaving { disconnected = Some (first_slot leaving.disconnected slot) }
leaving_asking step leaving = leaving

-- ---- all that is seen of it in a line that comes after these

abbrev pub leaving_seen : Words → Side → ℕ → List Entry → Entry → Leaving → Seen → Leaving
leaving_seen words side number front line leaving (Says own) =
    leaving_saying (withholds side front) (words side front) (turn_now front) (keyed_on words side number front) leaving own
leaving_seen words side number front line leaving (Hears slot octets) =
    leaving_acked_if
    (acks_terminate (is_more_acked (exchange_of number front side) (exchange_of number (front ++ line ∷ []) side))
    (carried_of number front side))
    leaving
leaving_seen words side number front line leaving HearsForged = leaving
leaving_seen words side number front line leaving (Asks step) = leaving_asking step leaving

-- ---- line by line

-- a packet is of one sender: what the end sends in a line, and what it hears in it, are not both something. What its host
-- answers in the line comes first (our choice)
abbrev pub leaving_moved : Words → Side → ℕ → List Entry → Entry → Leaving → Leaving
leaving_moved words side number front line leaving =
    fold (leaving_seen words side number front line)
    (leaving_answered (keyed_on words side number front) (answers_in_line words side number front line)
    (leaving_sent_if (is_own_packet side number front line) leaving))
    (seen_in_line words side number front line)

abbrev pub leaving_after : Words → Side → ℕ → List Entry → Option Leaving → Entry → Option Leaving
leaving_after words side number front before (Opened other link handle role) =
    if is_side other side && link == number then Some stays else before
leaving_after words side number front before (Shut other link reason) =
    if is_side other side && link == number then None else before
leaving_after words side number front before line = option_map (leaving_moved words side number front line) before

abbrev pub leaving_from : Words → Side → ℕ → List Entry → Option Leaving → List Entry → Option Leaving
leaving_from words side number front before [] = before
leaving_from words side number front before (line ∷ lines) =
    leaving_from words side number (front ++ line ∷ []) (leaving_after words side number front before line) lines

-- how the end of a side on the link with this number is to leave it, while the link is open at that side
unfoldable pub leaving_on : Words → Side → ℕ → List Entry → Option Leaving
leaving_on words side number journal = leaving_from words side number [] None journal
