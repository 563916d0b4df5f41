-- Which PDUs of a link are accepted and acknowledged, from the packets of a journal, their verdicts and the PDUs that
-- are noted as taken: neither SN nor NESN is read (Core 5.2, volume 6 part B, section 4.5.9).
use Rattle.std.specs.Prelude.{ℕ, ◌+◌, ◌==◌, ◌&&◌, not, Bool, false, List, [], ◌∷◌, ◌++◌, Option, Some, None, if◌then◌else◌}
use Rattle.ble_base.specs.Side.{other_side}
use Rattle.ble_base.specs.declared.roles.Side.{Side}
use Rattle.air_frame.specs.declared.Heard.{Heard}
use Rattle.air_frame.specs.declared.Heard.TheVariants.{NotOurs, Broken, Whole}
use Rattle.air_frame.specs.Hearing.{heard_in}
use Rattle.data_pdu.specs.Header.{counts_as_empty, header_in}
use Rattle.journal.specs.declared.entries.Entry.{Entry}
use Rattle.journal.specs.declared.entries.Entry.TheVariants.{Air, Took}
use Rattle.link_calls.specs.run_model.History.{is_good}
use Rattle.link_calls.specs.run_model.Links.{is_advertising}
use Rattle.journal_packets.specs.journal_links.Begun.{LinkBegun, link_numbered}
use Rattle.journal_packets.specs.Belonging.{is_side, link_of_packet}

-- what one end of a link has sent and accepted
pub record Exchanged : Type 0 where
  -- how many PDUs it sent, each once; the first is the empty PDU that counts as sent when the link begins (our choice)
  pub sent : ℕ
  -- how many PDUs of the other end it accepted
  pub accepted : ℕ
  -- how many of its own are acknowledged
  pub acked : ℕ

abbrev pub first_exchanged : Exchanged
first_exchanged = record { sent = 1; accepted = 0; acked = 0 }

-- a packet carries the last PDU again until that is acknowledged, and then the next one
abbrev pub with_sent : Exchanged → Exchanged
with_sent one = record one { sent = (if one.acked == one.sent then one.sent + 1 else one.sent) }

-- a good packet of the other end: its PDU is accepted where it is empty, and what that end accepted is acknowledged
abbrev pub with_heard : Bool → Exchanged → Exchanged → Exchanged
with_heard empty from one =
    record one { accepted = (if empty then from.sent else one.accepted); acked = from.accepted }

-- it took the PDU that the other end sent last
abbrev pub with_taken : Exchanged → Exchanged → Exchanged
with_taken from one = record one { accepted = from.sent }

abbrev pub is_empty_in : Heard → Bool
is_empty_in NotOurs = false
is_empty_in Broken = false
is_empty_in (Whole pdu) = counts_as_empty (header_in pdu.items)

-- a packet on this channel carries an empty PDU of this link
abbrev pub carries_empty : Option LinkBegun → ℕ → List ℕ → Bool
carries_empty None channel octets = false
carries_empty (Some link) channel octets =
    is_empty_in (heard_in channel link.fields.access link.fields.crc_init octets)

abbrev pub is_number : Option ℕ → ℕ → Bool
is_number None number = false
is_number (Some one) number = one == number

-- a side sends a packet of the link
abbrev pub after_packet : Side → Bool → Bool → (Side → Exchanged) → Side → Exchanged
after_packet sender good empty ends side =
    if is_side side sender
    then with_sent (ends sender)
    else (if good then with_heard empty (with_sent (ends sender)) (ends side) else ends side)

-- a side takes a PDU
abbrev pub after_taking : Side → (Side → Exchanged) → Side → Exchanged
after_taking taker ends side =
    if is_side side taker then with_taken (ends (other_side taker)) (ends taker) else ends side

-- both ends of the link with this number, after an entry that comes after these
abbrev pub exchange_after : ℕ → List Entry → (Side → Exchanged) → Entry → Side → Exchanged
exchange_after number front ends (Air sender channel octets fate verdict) =
    if not (is_advertising channel) && is_number (link_of_packet front sender octets) number
    then after_packet sender (is_good verdict) (carries_empty (link_numbered number front) channel octets) ends
    else ends
exchange_after number front ends (Took taker link count llid body) =
    if link == number then after_taking taker ends else ends
exchange_after number front ends _ = ends

abbrev pub exchange_from : ℕ → List Entry → (Side → Exchanged) → List Entry → Side → Exchanged
exchange_from number front ends [] = ends
exchange_from number front ends (entry ∷ entries) =
    exchange_from number (front ++ entry ∷ []) (exchange_after number front ends entry) entries

unfoldable pub exchange_of : ℕ → List Entry → Side → Exchanged
exchange_of number journal = exchange_from number [] (λ side. first_exchanged) journal
