-- What is proved of a good packet and of a forged one holds of any octets that an end receives.
use Rattle.std.proofs.Common.{◌≡◌, ℕ, Bool, true, false, List, [], Option, Some, None, refl, sym, subst}
use Rattle.ble_base.specs.declared.notes.Note.{Note}
use Rattle.data_pdu.specs.Header.{header_in}
use Rattle.data_pdu.specs.declared.header.DataHeader.{DataHeader}
use Rattle.link_model.specs.Acknowledgement.{Pdu}
use Rattle.link_model.specs.End.{facts_after, notes_after}
use Rattle.link_model.specs.Facts.{Facts}
use Rattle.link_model.specs.Packets.{good_pdu, is_forged}
use Rattle.link_model.specs.Receiving.{ended_by_forgery, facts_forged_if, facts_hearing, facts_received, notes_hearing, received_notes}
use Rattle.link_model.specs.Setup.{Setup}
use Rattle.link_model.specs.Step.{PacketReceived}
use Rattle.link_model.specs.Verdicts.{pdu_of}
use Rattle.link_model.proofs.KeyedSteps.{forged_none}

module _ (setup : Setup) (slot : ℕ) (facts : Facts) (P : List Note → Facts → Type 0) where
  -- nothing is made of octets, or a forged packet ends the link, or they have a PDU with this header
  pub each_packet : (octets : List ℕ) (room : Bool) → P [] facts → P [] (record facts { control = ended_by_forgery facts.control })
      → ((header : DataHeader) (pdu : Pdu) → P (notes_hearing setup slot room header pdu facts) (facts_hearing setup.link.role slot room header pdu facts))
      → P (notes_after setup facts (PacketReceived slot octets room)) (facts_after setup facts (PacketReceived slot octets room))
  each_packet octets room none forged heard = by (is_forged setup facts octets) refl
    where
      good : (octets : Option (List ℕ)) → P (received_notes setup slot room octets facts) (facts_received setup.link.role slot room octets facts)
      good None = none
      good (Some pdu) = heard (header_in pdu) (pdu_of pdu)

      by : (is : Bool) → is_forged setup facts octets ≡ is
          → P (received_notes setup slot room (good_pdu setup facts octets) facts)
          (facts_forged_if is (facts_received setup.link.role slot room (good_pdu setup facts octets) facts))
      by true is =
          subst
          (λ (read : Option (List ℕ)). P (received_notes setup slot room read facts) (facts_forged_if true (facts_received setup.link.role slot room read facts)))
          (sym (forged_none setup facts octets is)) forged
      by false is = good (good_pdu setup facts octets)
