-- Journals in which a side does not send what it is to send, or sends something else.
use Rattle.std.specs.Prelude.{List, [], ◌∷◌, ◌++◌}
use Rattle.ble_base.specs.declared.roles.Side.TheVariants.{A, B}
use Rattle.ble_base.specs.declared.verdicts.Verdict.TheVariants.{Broken, Good, Missed}
use Rattle.journal.specs.declared.entries.Entry.{Entry}
use Rattle.journal.specs.declared.entries.Entry.TheVariants.{Air, Fed, Up}
use Rattle.journal.specs.declared.entries.Mark.TheVariants.{Damage, Lost, Pass}
use Rattle.journal_pdus.specs.controller_model.Rows.{advertisement_ending}
use Rattle.journal_pdus.specs.journal_moves.Rows.{advertised, anchor_begins, central_sent}
use Rattle.journal_pdus.specs.journal_moves.journal_wants.Rows.{asked_once_more}
use Rattle.run_model.specs.Rows.{advertisement_opening, answer, connectable_packet, enabling_octets, first_packet, first_reply, turn_entry}

-- ---- a packet that is to be on the air is not

-- A is to advertise, and does not
abbrev pub advertiser_asked : List Entry
advertiser_asked = turn_entry 0 ∷ Fed A enabling_octets ∷ Up A (answer 0x0A 0x20) ∷ []

abbrev pub advertiser_silent : List Entry
advertiser_silent = advertiser_asked ++ turn_entry 1 ∷ []

-- the link of the central wins the slot of its anchor, and the central does not send
abbrev pub central_silent : List Entry
central_silent = anchor_begins ++ turn_entry 3 ∷ []

-- the peripheral does not answer what it heard
abbrev pub peripheral_silent : List Entry
peripheral_silent = central_sent ++ turn_entry 3 ∷ []

-- ---- a packet is on the air that its side is not to send there

-- the peripheral did not hear the central, and answers it
abbrev pub central_lost : List Entry
central_lost = anchor_begins ++ Air B 25 first_packet Lost Missed ∷ []

abbrev pub answers_unheard : List Entry
answers_unheard = central_lost ++ Air A 25 first_reply Pass Good ∷ []

-- the link of A yields to its advertiser
abbrev pub link_yields : List Entry
link_yields = asked_once_more ++ Air A 37 connectable_packet Pass Missed ∷ []

-- the advertiser sends twice in one phase
abbrev pub advertises_twice : List Entry
advertises_twice = advertised ++ Air A 37 connectable_packet Pass Good ∷ []

-- ---- a packet is heard for which nobody listens

abbrev pub heard_by_none : List Entry
heard_by_none = advertiser_asked ++ Air A 37 connectable_packet Pass Good ∷ []

-- ---- a packet passes, and is missed by a side that listens for it

-- B scans on the channel of the advertisement
abbrev pub scanner_asked : List Entry
scanner_asked = advertisement_opening []

abbrev pub missed_by_scanner : List Entry
missed_by_scanner = scanner_asked ++ Air A 37 (advertisement_ending 0xDA) Pass Missed ∷ []

-- ---- a packet is judged otherwise than the side that listens judges it

abbrev pub broken_at_scanner : List Entry
broken_at_scanner = scanner_asked ++ Air A 37 (advertisement_ending 0xDA) Pass Broken ∷ []

-- a bit of its PDU was changed, and not one of its access address
abbrev pub changed_and_missed : List Entry
changed_and_missed = scanner_asked ++ Air A 37 (advertisement_ending 0xDA) (Damage 8 (1 ∷ [])) Missed ∷ []

-- the packet of a central passes
abbrev pub broken_at_peripheral : List Entry
broken_at_peripheral = anchor_begins ++ Air B 25 first_packet Pass Broken ∷ []
