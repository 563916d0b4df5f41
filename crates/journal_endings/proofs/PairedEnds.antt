-- Where a station of two takes a good packet on a link that is followed, a new PDU in it has such a reason if it ends the link,
-- and a procedure of the end ends the link only for an Instant that has passed, if the end does not for a failed integrity.
use Rattle.std.proofs.Common.{◌≡◌, ◌⊎◌, inl, inr, ℕ, ◌+◌, true, List, [], ◌∷◌, ◌++◌, append_assoc, Option, Some, None, refl, sym, ap, subst, ◌∙◌}
use Rattle.std.specs.Prelude.{IfSome}
use Rattle.std.specs.List.{Contains}
use Rattle.ble_base.specs.declared.error_codes.ErrCode.{ErrCode}
use Rattle.ble_base.specs.declared.roles.Role.{Role}
use Rattle.ble_base.specs.declared.roles.Role.TheVariants.{Central, Peripheral}
use Rattle.ble_base.specs.declared.verdicts.Verdict.TheVariants.{Good}
use Rattle.controller_model.specs.Facts.{Facts}
use Rattle.controller_model.specs.Side.{facts_after}
use Rattle.controller_model.specs.Step.{PacketHeard}
use Rattle.data_pdu.specs.Header.{header_in}
use Rattle.link_calls.specs.Uses.{listens_under}
use Rattle.link_calls.specs.link_model.Acknowledgement.{Pdu}
use Rattle.link_calls.specs.link_model.Facts.{Facts as EndFacts}
use Rattle.link_calls.specs.link_model.Packets.{good_pdu, has_new_pdu, pdu_sent, verdict_of}
use Rattle.link_calls.specs.link_model.Setup.{Setup as EndSetup}
use Rattle.link_calls.specs.link_model.Step.{PacketSent}
use Rattle.link_calls.specs.link_model.Verdicts.{pdu_of}
use Rattle.link_calls.specs.open_links.OpenLinks.{OpenLink, facts_in, link_after, link_at}
use Rattle.link_calls.specs.run_laws.Ends.{AreEnds, HaveOneConnectInd, IsOpen, OpenEnd, ReceivesGood}
use Rattle.link_calls.specs.run_laws.Ranges.{HasRanges, IsReadable}
use Rattle.link_calls.specs.run_laws.Shapes.{IsReadAsSent, ReadEachOtherAsSent, ReadsAsSent}
use Rattle.link_calls.specs.run_model.Feeding.{AreDistinct}
use Rattle.link_calls.specs.run_model.History.{Called, Event, Transmitted}
use Rattle.link_calls.specs.run_model.LinkEnds.{HasConnectInd, HaveAddresses, IsAtEnd}
use Rattle.link_calls.specs.run_model.Run.{Given, facts_at, history_of, run_of, setup_at}
use Rattle.link_calls.proofs.link_model.Hearing.{IsHeardWhole}
use Rattle.link_calls.proofs.run_laws.Agreed.{step_facts}
use Rattle.link_calls.proofs.run_laws.DistinctAccess.{AreApart}
use Rattle.link_calls.proofs.run_laws.EachCall.{facts_called, facts_others}
use Rattle.link_calls.proofs.run_laws.InRange.{ranges_before, ranges_in}
use Rattle.link_calls.proofs.run_laws.OpenedOnce.{opened_once}
use Rattle.link_calls.proofs.run_laws.Pieces.{sent_readable}
use Rattle.link_calls.proofs.run_laws.ReadPackets.{IsGood, pdu_with_header, read_good, with_header}
use Rattle.link_calls.proofs.run_laws.SameEvent.{apart_ends, one_connect_ind}
use Rattle.link_calls.proofs.run_laws.TwoStations.{AreTwo, are_two as two_are, differs_back}
use Rattle.link_calls.proofs.run_model.LinkEnds.{AreTaken, IsUnderstood}
use Rattle.link_calls.proofs.run_model.Numbers.{numbered_at}
use Rattle.link_calls.proofs.run_model.Stations.{is_in}
use Rattle.link_runs.proofs.link_pairs.HasSent.{has_sent}
use Rattle.link_runs.specs.Open.{GoOnUnlessLate, HasHeardForged}
use Rattle.link_runs.specs.link_pairs.Sound.{EndsForInstant}
use Rattle.journal_indications.proofs.journal_data.Followed.{AreEndsOf, IsFollowed, is_of_two}
use Rattle.journal_indications.proofs.journal_data.KeptData.{other_in}
use Rattle.journal_indications.proofs.journal_data.Mine.{HasFarEnd}
use Rattle.journal_indications.proofs.journal_data.NumberedEnds.{front_of_two}
use Rattle.journal_indications.proofs.journal_data.OneCall.{other_not}
use Rattle.journal_indications.proofs.journal_data.PairedEnds.{far_central, far_end, own_central, own_end}
use Rattle.journal_indications.proofs.journal_data.journal_acks.Exchanging.{number_at}
use Rattle.journal_indications.proofs.journal_data.journal_acks.TwoStations.{IsOfTwo, other_of}
use Rattle.journal_indications.proofs.journal_data.journal_links.OfTwo.{are_distinct}
use Rattle.journal_indications.specs.journal_data.run_pairs.InTurns.{HasSentNow, HearEachInTurn, HearNoMixed}
use Rattle.journal_indications.proofs.journal_data.run_pairs.FarEnds.{hear_in_turn, hears_in_turn}
use Rattle.journal_indications.proofs.journal_data.run_pairs.FarPackets.{listens_is as listened}
use Rattle.journal_endings.proofs.CallsKeep.{EndsByRules, IsKept, IsSound}
use Rattle.journal_endings.proofs.EndReasons.{CarriesReason, NewCarries}

-- ---- both ends of the link with a number, of which the own one is either

data AreBoth (history : List Event) (number : ℕ) (own far : OpenEnd) : Type 0 where
  OwnCentral : AreEndsOf history number own far → AreBoth history number own far
  OwnPeripheral : AreEndsOf history number far own → AreBoth history number own far

later : (history : List Event) (event : Event) (station : ℕ) (end now : EndSetup) → now ≡ end → HasConnectInd history station end
    → HasConnectInd (history ++ event ∷ []) station now
later history event station end now same has = record {
  sent = has.sent;
  before = has.before;
  after = has.after ++ event ∷ [];
  is_at = ap (λ events. events ++ event ∷ []) has.is_at
      ∙ append_assoc has.before (Transmitted has.sent.sender has.sent.channel has.sent.octets has.sent.hearings ∷ has.after) (event ∷ []);
  in_turn = has.in_turn ∙ ap (λ (s : EndSetup). s.opened + 1) (sym same);
  on_channel = has.on_channel;
  says = has.says;
  fields_are = has.fields_are ∙ ap (λ (s : EndSetup). s.link.fields) (sym same);
  is_at_end = subst (λ (s : EndSetup). IsAtEnd s.link.role station s has.sent) (sym same) has.is_at_end;
}

both_later : (history : List Event) (event : Event) (number station handle : ℕ) (link now : OpenLink) (far : OpenEnd) → now.setup ≡ link.setup
    → AreBoth history number (own_end station handle link) far → AreBoth (history ++ event ∷ []) number (own_end station handle now) far
unfolding later
both_later history event number station handle link now far same (OwnCentral two) =
    OwnCentral (record {
      ends = record {
        of_central = later history event station link.setup now.setup same two.ends.of_central;
        of_peripheral = later history event far.station far.link.setup far.link.setup refl two.ends.of_peripheral;
        same = two.ends.same;
        is_central = ap (λ (s : EndSetup). s.link.role) same ∙ two.ends.is_central;
        is_peripheral = two.ends.is_peripheral;
      };
      number_is = two.number_is;
    })
both_later history event number station handle link now far same (OwnPeripheral two) =
    OwnPeripheral (record {
      ends = record {
        of_central = later history event far.station far.link.setup far.link.setup refl two.ends.of_central;
        of_peripheral = later history event station link.setup now.setup same two.ends.of_peripheral;
        same = two.ends.same;
        is_central = two.ends.is_central;
        is_peripheral = ap (λ (s : EndSetup). s.link.role) same ∙ two.ends.is_peripheral;
      };
      number_is = two.number_is;
    })

both_one : (history : List Event) (number : ℕ) (own far : OpenEnd) → AreBoth history number own far → HaveOneConnectInd own.link.setup far.link.setup
both_one history number own far (OwnCentral two) = one_connect_ind history own far two.ends
both_one history number own far (OwnPeripheral two) =
    let one = one_connect_ind history far own two.ends in record { fields = sym one.fields; opened = sym one.opened }

-- ---- what is known of two ends in a run

-- no procedure of a central ends the link, and one of a peripheral only for an Instant that has passed; each end does so for
-- a failed integrity
abbrev pub LateAlone : Given → Type 0
LateAlone given =
    (before rest : List Event) (central peripheral : OpenEnd) → AreDistinct given.stations → HaveAddresses given
    → Contains given.stations central.station → Contains given.stations peripheral.station → history_of (run_of given) ≡ before ++ rest
    → AreEnds before central peripheral → HearEachInTurn given before central peripheral → HearNoMixed given before central peripheral
    → IsOpen given before central → IsOpen given before peripheral
    → GoOnUnlessLate (record { central = Some (facts_in central.link); peripheral = Some (facts_in peripheral.link) })

-- and each reads the packets of the other as they were sent
abbrev pub ReadUnmixed : Given → Type 0
ReadUnmixed given =
    (before rest : List Event) (central peripheral : OpenEnd) → AreDistinct given.stations → HaveAddresses given
    → Contains given.stations central.station → Contains given.stations peripheral.station → history_of (run_of given) ≡ before ++ rest
    → AreEnds before central peripheral → HearEachInTurn given before central peripheral → HearNoMixed given before central peripheral
    → IsOpen given before central → IsOpen given before peripheral → ReadEachOtherAsSent given before central peripheral

pub one_link : (one other : OpenLink) → Some one ≡ Some other → one ≡ other
one_link one other same = cc

abbrev with_body : ℕ → List ℕ → Pdu
with_body llid body = record { llid = llid; body = body }

goes_on_so : (ends : Option ErrCode) → ends ≡ None → EndsByRules ends
goes_on_so ends is = subst EndsByRules (sym is) tt

forged_so : (facts : EndFacts) → HasHeardForged facts → EndsByRules facts.control.ends
forged_so facts is = subst EndsByRules (sym is) (inr refl)

unless_forged : (facts : EndFacts) → (facts.control.ends ≡ None) ⊎ HasHeardForged facts → EndsByRules facts.control.ends
unless_forged facts (inl none) = goes_on_so facts.control.ends none
unless_forged facts (inr forged) = forged_so facts forged

unless_late : (c p : EndFacts) → (p.control.ends ≡ None) ⊎ (EndsForInstant c p p.control.ends ⊎ HasHeardForged p) → EndsByRules p.control.ends
unless_late c p (inl none) = goes_on_so p.control.ends none
unless_late c p (inr (inl late)) = subst EndsByRules (sym late.0) (inl refl)
unless_late c p (inr (inr forged)) = forged_so p forged

module _ (heard_whole : IsHeardWhole) (understood : IsUnderstood) (taken : AreTaken) (apart : AreApart) (given : Given) (are_two : IsOfTwo given)
    (six : HaveAddresses given) (late : LateAlone given) (read : ReadUnmixed given) (before rest : List Event) (station : ℕ) (octets : List ℕ)
    (at : history_of (run_of given) ≡ before ++ Called station (PacketHeard octets) ∷ rest) (on : is_in station given.stations ≡ true) where
  abbrev other : ℕ
  other = other_of station

  abbrev call : Event
  call = Called station (PacketHeard octets)

  abbrev facts : Facts
  facts = facts_at given station before

  abbrev then_on : List Event
  then_on = before ++ call ∷ []

  distinct : AreDistinct given.stations
  distinct = are_distinct given are_two

  two : AreTwo given
  two = two_are given 0 1 are_two

  in_far : is_in other given.stations ≡ true
  in_far = other_in given are_two station on

  place : history_of (run_of given) ≡ then_on ++ rest
  place = at ∙ sym (append_assoc before (call ∷ []) rest)

  -- a link that listens and is followed, and the other end of it
  module _ (handle : ℕ) (link : OpenLink) (is_open : link_at handle facts.links ≡ Some link) (listens : listens_under handle facts.turn.doing ≡ true)
      (good : verdict_of link.setup (facts_in link) octets ≡ Good) (far : HasFarEnd given station before handle)
      (followed : IsFollowed given then_on (number_at station handle before)) (now : OpenLink) (setups : now.setup ≡ link.setup)
      (is_now : link_at handle (facts_after (setup_at given station) facts (PacketHeard octets)).links ≡ Some now) where
    abbrev number : ℕ
    number = number_at station handle before

    abbrev own : OpenEnd
    own = own_end station handle link

    abbrev own_now : OpenEnd
    own_now = own_end station handle now

    abbrev there : OpenEnd
    there = far_end given station before handle far

    both_by : (role : Role) → link.setup.link.role ≡ role → AreBoth before number own there
    both_by Central is =
        OwnCentral (own_central given are_two before (numbered_at understood taken given before rest call distinct six at refl)
        (front_of_two understood taken given are_two six before (call ∷ rest) at) station on handle link is_open far is)
    both_by Peripheral is =
        OwnPeripheral (far_central given are_two before (numbered_at understood taken given before rest call distinct six at refl)
        (front_of_two understood taken given are_two six before (call ∷ rest) at) station on handle link is_open far is)

    both_now : AreBoth then_on number own_now there
    both_now = both_later before call number station handle link now there setups (both_by link.setup.link.role refl)

    one : HaveOneConnectInd own_now.link.setup there.link.setup
    one = both_one then_on number own_now there both_now

    own_open : IsOpen given then_on own_now
    own_open = ap (λ (f : Facts). link_at handle f.links) (facts_called given station (PacketHeard octets) before on).own ∙ is_now

    far_open : IsOpen given then_on there
    far_open = ap (λ (f : Facts). link_at far.far_handle f.links) (facts_others given station (PacketHeard octets) before other (other_not station)) ∙ far.is_open

    hear : (central peripheral : OpenEnd) → is_in central.station given.stations ≡ true → is_in peripheral.station given.stations ≡ true
        → AreEnds then_on central peripheral → HearEachInTurn given then_on central peripheral
    hear central peripheral in_it in_too ends =
        hear_in_turn understood taken apart given six distinct two then_on rest place central peripheral in_it in_too (apart_ends then_on central peripheral ends)
        (one_connect_ind then_on central peripheral ends)

    -- ---- the end after it

    ends_by : AreBoth then_on number own_now there → EndsByRules (facts_in now).control.ends
    ends_by (OwnCentral are) =
        unless_forged (facts_in now)
        (late then_on rest own_now there distinct six (is_of_two given are_two station on) (is_of_two given are_two other in_far) place are.ends
        (hear own_now there on in_far are.ends) (followed own_now there on in_far are) own_open far_open).central
    ends_by (OwnPeripheral are) =
        unless_late (facts_in far.far) (facts_in now)
        (late then_on rest there own_now distinct six (is_of_two given are_two other in_far) (is_of_two given are_two station on) place are.ends
        (hear there own_now in_far on are.ends) (followed there own_now in_far on are) far_open own_open).peripheral

    -- ---- the PDU that it takes

    reads_by : AreBoth then_on number own_now there → ReadsAsSent given then_on own_now there
    reads_by (OwnCentral are) =
        (read then_on rest own_now there distinct six (is_of_two given are_two station on) (is_of_two given are_two other in_far) place are.ends
        (hear own_now there on in_far are.ends) (followed own_now there on in_far are) own_open far_open).one_reads
    reads_by (OwnPeripheral are) =
        (read then_on rest there own_now distinct six (is_of_two given are_two other in_far) (is_of_two given are_two station on) place are.ends
        (hear there own_now in_far on are.ends) (followed there own_now in_far on are) far_open own_open).other_reads

    receives : ReceivesGood facts octets link
    receives = record { handle = handle; listens = listened handle facts.turn.doing listens; is_open = is_open; is_good = good }

    own_one : HaveOneConnectInd link.setup own_now.link.setup
    own_one = record {
      fields = ap (λ (s : EndSetup). s.link.fields) (sym setups);
      opened = ap (λ (s : EndSetup). s.opened) (sym setups);
    }

    sent_now : HasSentNow given before own_now there (facts_in link).event.channel octets
    sent_now =
        hears_in_turn understood taken apart given six distinct two then_on rest place own_now there
        in_far (differs_back other station (other_not station)) one before [] octets link refl receives own_one

    abbrev sender : OpenLink
    sender = sent_now.sent.link

    abbrev slot : ℕ
    slot = sent_now.sent.slot

    abbrev sent_link : OpenLink
    sent_link = link_after (PacketSent slot) sender

    as_sent : IsReadAsSent link.setup (facts_in link) (facts_in sender) octets
    as_sent = reads_by both_now before [] octets link refl receives own_one sent_now.sent

    from_ranges : HasRanges sender
    from_ranges =
        ranges_before (PacketSent slot) sender
        (ranges_in given before (call ∷ rest) other sent_now.sent.handle sent_link distinct in_far at sent_now.sent.is_open)

    readable : IsReadable (facts_in sender)
    readable = sent_readable sender from_ranges

    fields : sender.setup.link.fields ≡ link.setup.link.fields
    fields = sent_now.sent.is_end.fields ∙ sym one.fields ∙ sym own_one.fields

    brings : IsGood heard_whole sender.setup link.setup (facts_in sender) (facts_in link) readable fields (sym sent_now.sent.channel_is)
    brings =
        read_good heard_whole sender.setup link.setup (facts_in sender) (facts_in link) readable fields (sym sent_now.sent.channel_is)
        (ap (verdict_of link.setup (facts_in link)) (sym sent_now.sent.packet) ∙ good)

    abbrev pdu : List ℕ
    pdu = with_header (facts_in sender) (facts_in link) brings.body

    is_pdu : good_pdu link.setup (facts_in link) octets ≡ Some pdu
    is_pdu = ap (good_pdu link.setup (facts_in link)) sent_now.sent.packet ∙ brings.is.good

    -- a new PDU is the last that the far end sent
    last_is : has_new_pdu (facts_in link) (header_in pdu) ≡ true → pdu_of pdu ≡ (facts_in sent_link).acknowledgement.last
    last_is new =
        pdu_with_header (facts_in sender) (facts_in link) readable brings.body
        ∙ ap (with_body (pdu_sent (facts_in sender)).llid) (as_sent pdu is_pdu new)
        ∙ sym (has_sent slot (facts_in sender)).last
        ∙ ap (λ (f : EndFacts). f.acknowledgement.last) (sym (step_facts sender (PacketSent slot)))

    -- that is the far end
    sent_under : sent_now.sent.handle ≡ far.far_handle
    sent_under =
        opened_once given before (call ∷ rest) other sent_now.sent.handle far.far_handle sent_link far.far distinct in_far at sent_now.sent.is_open far.is_open
        sent_now.sent.is_end.opened

    sent_far : sent_link ≡ far.far
    sent_far =
        one_link sent_link far.far
        (sym sent_now.sent.is_open ∙ ap (λ n. link_at n (facts_at given other before).links) sent_under ∙ far.is_open)

    -- ---- both

    pub sound_now : IsKept far.far → IsSound facts octets link now
    sound_now kept = record {
      carries = subst (λ (may : Option (List ℕ)). IfSome may (NewCarries (facts_in link))) (sym is_pdu)
          (λ new. subst CarriesReason (sym (last_is new)) (subst IsKept (sym sent_far) kept).reasons.pdus.0);
      ends = ends_by both_now;
    }
