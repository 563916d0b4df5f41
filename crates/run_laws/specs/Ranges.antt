-- What the host of an open end asked and answered is in range, and so are the payloads that the end sends and receives
-- (Core 5.2, volume 6 part B, sections 4.5.10 and 5.1).
use Rattle.std.specs.Prelude.{◌≡◌, ◌⊎◌, ◌≤◌, ◌<◌, ◌+◌, ℕ, List, length}
use Rattle.ble_base.specs.Limits.{first_payload_octets, payload_octets}
use Rattle.run_model.specs.link_model.Acknowledgement.{Pdu}
use Rattle.run_model.specs.link_model.AskRanges.{AreAsksInRange}
use Rattle.run_model.specs.link_model.Data.{is_empty}
use Rattle.run_model.specs.link_model.Facts.{Facts}
use Rattle.run_model.specs.link_model.Packets.{payload_sent, pdu_sent}
use Rattle.run_model.specs.open_links.OpenLinks.{OpenLink}

pub record HasRanges (link : OpenLink) : Type 0 where
  -- it receives payloads of the least length at least, and of no length that there is not
  pub max_rx_from : first_payload_octets ≤ link.setup.link.max_rx
  pub max_rx_to : link.setup.link.max_rx ≤ payload_octets
  pub asks : AreAsksInRange link.past

-- what the payload of a PDU is on the air, whatever the keys are: it is the body of the PDU, or has an integrity code of
-- four octets more, and only that of an empty PDU is empty (section 2.4, and part E, section 2)
pub record IsPayload (pdu : Pdu) (payload : List ℕ) : Type 0 where
  pub empty : is_empty (record { llid = pdu.llid; body = payload }) ≡ is_empty pdu
  pub octets : (payload ≡ pdu.body) ⊎ (length payload ≡ length pdu.body + 4)

-- the packet that an end sends is in form, in all phases of encryption
pub record IsReadable (facts : Facts) : Type 0 where
  pub llid : (pdu_sent facts).llid < 4
  pub short : length (pdu_sent facts).body ≤ payload_octets
  pub payload : IsPayload (pdu_sent facts) (payload_sent facts)
