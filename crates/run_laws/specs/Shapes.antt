-- What two ends agree on in all phases of encryption, and where an end reads a packet as it was sent (Core 5.2, volume 6
-- part B, sections 4.5.9 and 5.1.3).
use Rattle.std.specs.Prelude.{◌≡◌, ℕ, Bool, true, List, ◌∷◌, ◌++◌, map, drop, Some}
use Rattle.ack_bit.specs.AckLink.{End}
use Rattle.ack_bit.specs.InStep.{AreInStep}
use Rattle.data_pdu.specs.Header.{header_in}
use Rattle.run_model.specs.link_model.Acknowledgement.{Acknowledgement, Pdu, bits_of}
use Rattle.run_model.specs.link_model.Data.{is_empty}
use Rattle.run_model.specs.link_model.Facts.{Facts}
use Rattle.run_model.specs.link_model.Packets.{good_pdu, has_new_pdu, pdu_sent}
use Rattle.run_model.specs.link_model.Setup.{Setup}
use Rattle.run_model.specs.open_links.OpenLinks.{OpenLink, facts_in}
use Rattle.run_model.specs.controller_model.Step.{PacketHeard}
use Rattle.run_model.specs.History.{Event, Called}
use Rattle.run_model.specs.Run.{Given, facts_at}
use Rattle.run_laws.specs.Ends.{HasSent, HaveOneConnectInd, OpenEnd, ReceivesGood}

-- ---- the numbers of both ends

-- a PDU without its octets: its LLID, and whether it is empty
pub record Shape : Type 0 where
  pub llid : ℕ
  pub empty : Bool

abbrev pub shape_of : Pdu → Shape
shape_of pdu = record { llid = pdu.llid; empty = is_empty pdu }

abbrev pub shapes_of : Acknowledgement → End Shape
shapes_of ack =
    record {
      bits = bits_of ack;
      sent = map shape_of ack.sent;
      last = shape_of ack.last;
      acked = ack.acked;
      accepted = map shape_of ack.accepted;
    }

-- the numbers of the two ends agree, and each accepts PDUs of the shapes that the other sent, in order. So it is too
-- where a PDU is opened with another key than that with which it was sealed
abbrev pub AgreeInShape : Acknowledgement → Acknowledgement → Type 0
AgreeInShape one other = AreInStep (shapes_of one) (shapes_of other)

-- ---- what is read

-- a listener reads a packet of a sender as it was sent: where it is good, a new PDU has the body with which it was sent
abbrev pub IsReadAsSent : Setup → Facts → Facts → List ℕ → Type 0
IsReadAsSent to listener sender octets =
    (pdu : List ℕ) → good_pdu to listener octets ≡ Some pdu → has_new_pdu listener (header_in pdu) ≡ true
    → drop 2 pdu ≡ (pdu_sent sender).body

-- an end reads so each packet of the far end
abbrev pub ReadsAsSent : Given → List Event → OpenEnd → OpenEnd → Type 0
ReadsAsSent given history end far =
    (before after : List Event) (octets : List ℕ) (link : OpenLink)
    → history ≡ before ++ Called end.station (PacketHeard octets) ∷ after
    → ReceivesGood (facts_at given end.station before) octets link → HaveOneConnectInd link.setup end.link.setup
    → (sent : HasSent given before far (facts_in link).event.channel octets)
    → IsReadAsSent link.setup (facts_in link) (facts_in sent.link) octets

-- and so do both
pub record ReadEachOtherAsSent (given : Given) (history : List Event) (one other : OpenEnd) : Type 0 where
  pub one_reads : ReadsAsSent given history one other
  pub other_reads : ReadsAsSent given history other one
