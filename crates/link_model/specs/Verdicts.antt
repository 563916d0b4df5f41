-- What is made of octets that an end hears on its channel: the PDU in them, and the verdict (Core 5.2, volume 6 part B,
-- sections 2.1, 2.4 and 4.5.10).
use Rattle.std.specs.Prelude.{ℕ, ◌+◌, ◌&&◌, not, nat_le, Bool, List, length, drop, Option, Some, None, if◌then◌else◌}
use Rattle.ble_base.specs.declared.verdicts.Verdict.{Verdict}
use Rattle.ble_base.specs.declared.verdicts.Verdict.TheVariants.{Missed, Broken, Forged, Good}
use Rattle.air_frame.specs.declared.Heard.{Heard}
use Rattle.air_frame.specs.declared.Heard.TheVariants.{NotOurs, Broken as Faulty, Whole}
use Rattle.data_pdu.specs.Header.{header_in}
use Rattle.link_model.specs.Acknowledgement.{Pdu}
use Rattle.link_model.specs.Data.{is_empty}

-- the PDU in these octets
abbrev pub pdu_of : List ℕ → Pdu
pdu_of octets = record { llid = (header_in octets).llid; body = drop 2 octets }

-- the octets of an integrity code, which a PDU that is not empty may have in addition where this end opens what is sealed
abbrev pub code_octets : Bool → Pdu → ℕ
code_octets opens pdu = if opens && not (is_empty pdu) then 4 else 0

-- the payload of a PDU is not longer than what is received
abbrev pub has_room_for : ℕ → Bool → List ℕ → Bool
has_room_for max_rx opens pdu = nat_le (length pdu) (2 + (max_rx + code_octets opens (pdu_of pdu)))

abbrev pub pdu_by : Bool → List ℕ → Option (List ℕ)
pdu_by fits pdu = if fits then Some pdu else None

-- the octets of the PDU of a whole packet with a payload that is not too long
abbrev pub whole_in : ℕ → Bool → Heard → Option (List ℕ)
whole_in max_rx opens NotOurs = None
whole_in max_rx opens Faulty = None
whole_in max_rx opens (Whole pdu) = pdu_by (has_room_for max_rx opens pdu.items) pdu.items

-- the verdict (our choice): missed where they do not begin with the access address; broken where they are the packet of
-- no PDU, or where the payload is longer than what this end receives; forged where the integrity code is wrong; else good
abbrev pub verdict_by : ℕ → Bool → (List ℕ → Bool) → Heard → Verdict
verdict_by max_rx opens is_forged NotOurs = Missed
verdict_by max_rx opens is_forged Faulty = Broken
verdict_by max_rx opens is_forged (Whole pdu) =
    if has_room_for max_rx opens pdu.items then (if is_forged pdu.items then Forged else Good) else Broken
