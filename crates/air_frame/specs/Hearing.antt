-- What a listener makes of the octets of a packet (Core 5.2, volume 6 part B, sections 2.1 and 3).
use Rattle.std.specs.Prelude.{◌≡◌, ℕ, List, take, if◌then◌else◌}
use Rattle.std.specs.Str.{bytes_eq}
use Rattle.air_frame.specs.declared.Heard.{Heard}
use Rattle.air_frame.specs.declared.Heard.TheVariants.{NotOurs, Broken, Whole}
use Rattle.air_frame.specs.Packet.{access_octets, is_packet, pdu_in}

-- a fact for each answer
abbrev pub MatchHeard : Heard → Type 0 → Type 0 → (List ℕ → Type 0) → Type 0
MatchHeard NotOurs not_ours broken whole = not_ours
MatchHeard Broken not_ours broken whole = broken
MatchHeard (Whole pdu) not_ours broken whole = whole pdu.items

-- the answer is a whole PDU, with these octets
abbrev pub IsWhole : Heard → List ℕ → Type 0
IsWhole heard pdu = MatchHeard heard ⊥ ⊥ (λ octets. octets ≡ pdu)

-- what a listener on a channel index, for an access address and with an initial CRC, makes of octets (the three answers
-- are our choice). The packet is not for it where the octets do not begin with the access address (section 2.1.2); else
-- it hears the PDU whose packet the octets are (sections 3.1.1 and 3.2), and where they are no packet they are broken
unfoldable pub heard_in : ℕ → ℕ → ℕ → List ℕ → Heard
heard_in channel access init octets =
    if bytes_eq (take 4 octets) (access_octets access)
    then (if is_packet channel access init octets then Whole (record { items = pdu_in channel octets }) else Broken)
    else NotOurs
