-- The body of a data channel PDU, and the payload that it has on the air (Core 5.2, volume 6 part B, section 2.4, and part
-- E, section 2).
use Rattle.std.specs.Prelude.{◌≡◌, ℕ, Bool, true, List, [], ◌∷◌, ◌++◌, take, drop, Option, Some, None, if◌then◌else◌}
use Rattle.phased_end.specs.enc_phase.Phases.{opens, seals}
use Rattle.phased_end.specs.enc_phase.Sealing.{AreMatched, EncEnd, after_opening, after_sending, is_right, opened_body, sent_payload}
use Rattle.link_model.specs.Acknowledgement.{Pdu}
use Rattle.link_model.specs.Data.{is_empty}

-- ---- a PDU that goes out

-- the payload of a new PDU: that of an empty one is its body, that of any other is sealed as the phase says. Of the first
-- header octet only the LLID counts here
abbrev pub payload_made : EncEnd → Pdu → List ℕ
payload_made end pdu = if is_empty pdu then pdu.body else sent_payload end pdu.llid pdu.body

-- a PDU that is not empty takes a counter, where it is sealed
abbrev pub end_sending : Bool → EncEnd → EncEnd
end_sending counts end = if counts then after_sending end else end

-- ---- a PDU that is received

-- this end opens what is sealed
abbrev pub opens_now : EncEnd → Bool
opens_now end = opens end.role end.phase

abbrev pub first_octet : List ℕ → ℕ
first_octet [] = 0
first_octet (octet ∷ octets) = octet

-- the octets of a PDU with its payload opened, if its integrity code is right
abbrev pub opened_if : Bool → EncEnd → List ℕ → Option (List ℕ)
opened_if right end pdu = if right then Some (take 2 pdu ++ opened_body end (drop 2 pdu)) else None

abbrev pub opened_pdu : EncEnd → List ℕ → Option (List ℕ)
opened_pdu end pdu = opened_if (is_right end (first_octet pdu) (drop 2 pdu)) end pdu

-- only a PDU that counts is opened: a new one that is not empty
abbrev pub read_pdu : Bool → EncEnd → List ℕ → Option (List ℕ)
read_pdu counts end pdu = if counts then opened_pdu end pdu else Some pdu

-- a PDU that is not empty takes a counter as it is accepted, where it is sealed
abbrev pub end_accepting : Bool → EncEnd → EncEnd
end_accepting counts end = if counts then after_opening end else end

-- ---- both ends

-- a listener opens what a sender made as this end: both are clear in that direction, or both have one session and one
-- counter
pub record CanOpen (made listener : EncEnd) : Type 0 where
  pub sealing : seals made.role made.phase ≡ opens_now listener
  pub session : seals made.role made.phase ≡ true → AreMatched made listener
