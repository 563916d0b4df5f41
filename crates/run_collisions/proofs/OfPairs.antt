-- In a run of two stations each packet from which an end takes a PDU is what the far end sent in that turn.
use Rattle.std.proofs.Common.{◌≡◌, ◌⊎◌, inl, inr, ℕ, ◌==◌, Bool, true, false, List, [], ◌∷◌, ◌++◌, append_assoc, Option, Some, None, is_none, refl, sym, ap, ◌∙◌, if◌then◌else◌}
use Rattle.ble_base.specs.declared.notes.Note.{Note}
use Rattle.ble_base.specs.declared.verdicts.Verdict.TheVariants.{Good, Forged, Broken as BrokenPacket}
use Rattle.air_frame.specs.declared.Heard.{Heard}
use Rattle.air_frame.specs.declared.Heard.TheVariants.{Broken, NotOurs, Whole}
use Rattle.controller_model.specs.Step.{PacketHeard}
use Rattle.run_pairs.specs.link_calls.link_model.End.{notes_after}
use Rattle.run_pairs.specs.link_calls.link_model.Facts.{Facts as EndFacts}
use Rattle.run_pairs.specs.link_calls.link_model.Packets.{good_pdu, heard_of, is_forged_pdu, pdu_read, pdu_read_in, verdict_of, whole_pdu}
use Rattle.run_pairs.specs.link_calls.link_model.Payload.{opens_now}
use Rattle.run_pairs.specs.link_calls.link_model.Receiving.{received_notes}
use Rattle.run_pairs.specs.link_calls.link_model.Setup.{Setup as EndSetup}
use Rattle.run_pairs.specs.link_calls.link_model.Step.{PacketReceived}
use Rattle.run_pairs.specs.link_calls.link_model.Verdicts.{has_room_for, pdu_by, verdict_by, whole_in}
use Rattle.run_pairs.specs.link_calls.open_links.OpenLinks.{facts_in}
use Rattle.run_pairs.specs.link_calls.run_model.Feeding.{AreDistinct}
use Rattle.run_pairs.specs.link_calls.run_model.History.{Called, Event}
use Rattle.run_pairs.specs.link_calls.run_model.LinkEnds.{HaveAddresses}
use Rattle.run_pairs.specs.link_calls.run_model.Run.{Given, facts_at, history_of, run_of}
use Rattle.run_pairs.specs.link_calls.run_laws.Ends.{AreEnds, HaveOneConnectInd, IsOpen, OpenEnd, link_listened}
use Rattle.run_pairs.proofs.link_calls.run_model.LinkEnds.{AreTaken, IsUnderstood}
use Rattle.run_pairs.proofs.link_calls.run_model.Stations.{is_in}
use Rattle.run_pairs.proofs.link_calls.run_laws.DistinctAccess.{AreApart}
use Rattle.run_pairs.proofs.link_calls.run_laws.SameEvent.{apart_ends, one_connect_ind}
use Rattle.run_pairs.proofs.link_calls.run_laws.TwoStations.{AreTwo, differs_back}
use Rattle.run_pairs.specs.InTurns.{HasSentNow, HearEachInTurn}
use Rattle.run_pairs.proofs.FarEnds.{hear_in_turn, hears_in_turn}

-- ---- a packet from which an end takes a PDU is good

module _ (setup : EndSetup) (facts : EndFacts) (octets : List ℕ) where
  abbrev opens : Bool
  opens = opens_now facts.encryption.end

  as_read : (read : Option (List ℕ)) → ((if is_none read then Forged else Good) ≡ Good) ⊎ (read ≡ None)
  as_read None = inr refl
  as_read (Some pdu) = inl refl

  at : (fits : Bool) (pdu : List ℕ) → ((if fits then (if is_forged_pdu facts pdu then Forged else Good) else BrokenPacket) ≡ Good)
      ⊎ (pdu_read_in facts (pdu_by fits pdu) ≡ None)
  at true pdu = as_read (pdu_read facts pdu)
  at false pdu = inr refl

  of : (heard : Heard) → (verdict_by setup.link.max_rx opens (is_forged_pdu facts) heard ≡ Good)
      ⊎ (pdu_read_in facts (whole_in setup.link.max_rx opens heard) ≡ None)
  of NotOurs = inr refl
  of Broken = inr refl
  of (Whole pdu) = at (has_room_for setup.link.max_rx opens pdu.items) pdu.items

  good_or_none : (verdict_of setup facts octets ≡ Good) ⊎ (good_pdu setup facts octets ≡ None)
  unfolding good_pdu verdict_of whole_pdu
  good_or_none = of (heard_of setup facts octets)

  not_empty : (earlier later : List Note) (note : Note) → [] ≡ earlier ++ note ∷ later → ⊥
  not_empty [] later note is = absurd (cc)
  not_empty (first ∷ earlier) later note is = absurd (cc)

  pub good_taken : (slot : ℕ) (room : Bool) (earlier later : List Note) (note : Note)
      → notes_after setup facts (PacketReceived slot octets room) ≡ earlier ++ note ∷ later → verdict_of setup facts octets ≡ Good
  good_taken slot room earlier later note notes = by good_or_none
    where
      by : (verdict_of setup facts octets ≡ Good) ⊎ (good_pdu setup facts octets ≡ None) → verdict_of setup facts octets ≡ Good
      by (inl good) = good
      by (inr none) =
          absurd (not_empty earlier later note (ap (λ (pdu : Option (List ℕ)). received_notes setup slot room pdu facts) (sym none) ∙ notes))

-- ---- so the far end sent it in this turn

module _ (understood : IsUnderstood) (taken : AreTaken) (apart : AreApart) (given : Given) (six : HaveAddresses given) (distinct : AreDistinct given.stations)
    (two : AreTwo given) (before rest : List Event) (octets : List ℕ) (central peripheral : OpenEnd)
    (in_it : is_in central.station given.stations ≡ true) (in_too : is_in peripheral.station given.stations ≡ true)
    (of_one : AreEnds before central peripheral) where
  pub hear_before : history_of (run_of given) ≡ before ++ rest → HearEachInTurn given before central peripheral
  hear_before place =
      hear_in_turn understood taken apart given six distinct two before rest place central peripheral in_it in_too (apart_ends before central peripheral of_one)
      (one_connect_ind before central peripheral of_one)

  sent_at : (end far : OpenEnd) → is_in far.station given.stations ≡ true → (end.station == far.station) ≡ false
      → HaveOneConnectInd end.link.setup far.link.setup
      → history_of (run_of given) ≡ before ++ Called end.station (PacketHeard octets) ∷ rest → IsOpen given before end
      → link_listened (facts_at given end.station before).turn.doing ≡ Some end.handle → verdict_of end.link.setup (facts_in end.link) octets ≡ Good
      → HasSentNow given before end far (facts_in end.link).event.channel octets
  sent_at end far is differs same place is_open listens good =
      let call = Called end.station (PacketHeard octets) in
      hears_in_turn understood taken apart given six distinct two (before ++ call ∷ []) rest
      (place ∙ sym (append_assoc before (call ∷ []) rest)) end far is differs same
      before [] octets end.link refl (record { handle = end.handle; listens = listens; is_open = is_open; is_good = good })
      (record { fields = refl; opened = refl })

  pub sent_to_central : history_of (run_of given) ≡ before ++ Called central.station (PacketHeard octets) ∷ rest → IsOpen given before central
      → link_listened (facts_at given central.station before).turn.doing ≡ Some central.handle
      → verdict_of central.link.setup (facts_in central.link) octets ≡ Good
      → HasSentNow given before central peripheral (facts_in central.link).event.channel octets
  sent_to_central =
      sent_at central peripheral in_too (apart_ends before central peripheral of_one) (one_connect_ind before central peripheral of_one)

  pub sent_to_peripheral : history_of (run_of given) ≡ before ++ Called peripheral.station (PacketHeard octets) ∷ rest → IsOpen given before peripheral
      → link_listened (facts_at given peripheral.station before).turn.doing ≡ Some peripheral.handle
      → verdict_of peripheral.link.setup (facts_in peripheral.link) octets ≡ Good
      → HasSentNow given before peripheral central (facts_in peripheral.link).event.channel octets
  sent_to_peripheral =
      let same = one_connect_ind before central peripheral of_one in
      sent_at peripheral central in_it (differs_back central.station peripheral.station (apart_ends before central peripheral of_one))
      (record { fields = sym same.fields; opened = sym same.opened })
