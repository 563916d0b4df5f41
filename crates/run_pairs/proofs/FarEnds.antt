-- What a station of two hears on a link was sent by the other one in the same turn, at the far end of that link.
use Rattle.std.proofs.Common.{◌≡◌, ℕ, zero, suc, ◌+◌, ◌^◌, ◌<◌, ◌==◌, inl, inr, true, false, Some, List, ◌∷◌, ◌++◌, length, take, refl, sym, ap, subst, ◌∙◌, append_assoc, arith}
use Rattle.ble_base.specs.declared.roles.Role.TheVariants.{Central, Peripheral}
use Rattle.ble_base.specs.declared.verdicts.Verdict.TheVariants.{Forged}
use Rattle.adv_pdu.specs.declared.pdu.ConnectFields.{ConnectFields}
use Rattle.air_frame.specs.Packet.{access_octets}
use Rattle.link_calls.specs.link_model.Packets.{verdict_of}
use Rattle.link_calls.specs.link_model.Setup.{Setup as EndSetup}
use Rattle.link_calls.specs.link_model.Step.{PacketSent}
use Rattle.link_calls.specs.open_links.OpenLinks.{OpenLink, facts_in, link_after, link_at}
use Rattle.link_calls.specs.controller_model.Facts.{Facts}
use Rattle.link_calls.specs.controller_model.Step.{PacketHeard}
use Rattle.link_calls.proofs.controller_model.DataChannels.{link_channel}
use Rattle.link_calls.specs.run_model.Feeding.{AreDistinct}
use Rattle.link_calls.specs.run_model.History.{Event, Called, Transmitted, turns_begun}
use Rattle.link_calls.specs.run_model.LinkEnds.{HasConnectInd, HaveAddresses}
use Rattle.link_calls.specs.run_model.Run.{Given, facts_at, history_of, run_of, setup_at}
use Rattle.link_calls.proofs.run_model.Handing.{IsUnforged}
use Rattle.link_calls.proofs.run_model.LinkEnds.{AreTaken, IsUnderstood, has_connect_ind}
use Rattle.link_calls.proofs.run_model.OfStations.{OfStations, run_of_stations}
use Rattle.link_calls.proofs.run_model.Places.{each_at}
use Rattle.link_calls.proofs.run_model.Stations.{is_in}
use Rattle.link_calls.specs.run_laws.Access.{IsConnectSent, connects_sent}
use Rattle.link_calls.specs.run_laws.Ends.{HasSent, HaveOneConnectInd, IsOpen, OpenEnd, link_listened}
use Rattle.link_calls.proofs.run_laws.ChSel.{one_channel}
use Rattle.link_calls.proofs.run_laws.DistinctAccess.{AreApart, sent_distinct, sent_in_order}
use Rattle.link_calls.proofs.run_laws.EachCall.{IsPhase, call_at}
use Rattle.link_calls.proofs.run_laws.OwnLinks.{ListensAs, access_below, at_central, at_peripheral, good_unforged, is_addressed, listens_as, listens_for, neither_less, not_same, same_access, same_front, sent_begins, unforged_there}
use Rattle.link_calls.proofs.run_laws.LinkPhases.{SendsAs}
use Rattle.link_calls.proofs.run_laws.SameEvent.{one_event}
use Rattle.link_calls.proofs.run_laws.TwoStations.{AreTwo, differs_back}
use Rattle.run_pairs.specs.InTurns.{HasSentNow, HearEachInTurn, HearsInTurn}
use Rattle.run_pairs.proofs.OnAirNow.{IsLinkOnAirNow, IsOnAirNow, WasSentNow, sent_now}

-- ---- at a time of a run

module _ (understood : IsUnderstood) (taken : AreTaken) (apart : AreApart) (given : Given) (six : HaveAddresses given) (distinct : AreDistinct given.stations)
    (before rest : List Event) (at : history_of (run_of given) ≡ before ++ rest) where
  connect_sent : (station : ℕ) (end : EndSetup) (has : HasConnectInd before station end)
      → IsConnectSent (history_of (run_of given)) has.before has.sent.sender has.sent.fields
  connect_sent station end has =
      let connect = has.sent in record {
        channel = connect.channel;
        octets = connect.octets;
        hearings = connect.hearings;
        after = has.after ++ rest;
        is_at = at ∙ ap (λ history. history ++ rest) has.is_at
            ∙ append_assoc has.before (Transmitted connect.sender connect.channel connect.octets connect.hearings ∷ has.after) rest;
        on_channel = has.on_channel;
        from = connect.from;
        to = connect.to;
        ch_sel = connect.ch_sel;
        says = has.says;
      }

  sender_in : (station : ℕ) (end : EndSetup) (has : HasConnectInd before station end) → is_in has.sent.sender given.stations ≡ true
  unfolding connect_sent
  sender_in station end has =
      let sent = connect_sent station end has in
      each_at (OfStations given) (history_of (run_of given)) has.before sent.after
      (Transmitted has.sent.sender has.sent.channel has.sent.octets has.sent.hearings) (run_of_stations given) sent.is_at

  end_below : (station : ℕ) (end : EndSetup) → HasConnectInd before station end → end.link.fields.access < 2 ^ 32
  end_below station end has =
      subst (λ (f : ConnectFields). f.access < 2 ^ 32) has.fields_are
      (access_below (setup_at given has.sent.sender).cursor (connects_sent has.sent.sender has.before) has.sent.fields.access
      (sent_in_order understood given has.before has.sent.sender has.sent.fields distinct six (connect_sent station end has)))

  -- two CONNECT_INDs of one station with one access address are one
  module _ (one other : ℕ) (end far : EndSetup) (has : HasConnectInd before one end) (too : HasConnectInd before other far) (sender : has.sent.sender ≡ too.sent.sender)
      (access : end.link.fields.access ≡ far.link.fields.access) where
    one_address : has.sent.fields.access ≡ too.sent.fields.access
    one_address = ap (λ (f : ConnectFields). f.access) has.fields_are ∙ access ∙ sym (ap (λ (f : ConnectFields). f.access) too.fields_are)

    sent_too : IsConnectSent (history_of (run_of given)) too.before has.sent.sender too.sent.fields
    sent_too = subst (λ n. IsConnectSent (history_of (run_of given)) too.before n too.sent.fields) (sym sender) (connect_sent other far too)

    as_long : length has.before ≡ length too.before
    as_long =
        let sent = connect_sent one end has in
        neither_less (length has.before) (length too.before)
        (λ less. absurd (sent_distinct understood apart given has.before too.before has.sent.sender has.sent.fields too.sent.fields distinct six sent sent_too less one_address))
        (λ less. absurd (sent_distinct understood apart given too.before has.before has.sent.sender too.sent.fields has.sent.fields distinct six sent_too sent less (sym one_address)))

    one_before : has.before ≡ too.before
    one_before = same_front has.before too.before _ _ has.after too.after (sym has.is_at ∙ too.is_at) as_long

    one_link : HaveOneConnectInd end far
    one_link =
        let event = one_event before one other end far has too one_before in record {
          fields = sym has.fields_are ∙ event.fields ∙ too.fields_are;
          opened = one_turn end.opened far.opened (sym has.in_turn ∙ ap turns_begun one_before ∙ too.in_turn);
        }
      where
        one_turn : (m n : ℕ) → m + 1 ≡ n + 1 → m ≡ n
        one_turn m n same = omega (arith, same)

  -- a central and a peripheral at two stations, with one access address, have one CONNECT_IND
  module _ (two : AreTwo given) (one other : ℕ) (in_it : is_in one given.stations ≡ true) (in_too : is_in other given.stations ≡ true) (differs : (one == other) ≡ false)
      (end far : EndSetup) (has : HasConnectInd before one end) (too : HasConnectInd before other far) where
    central_sent : end.link.role ≡ Central → far.link.role ≡ Peripheral → has.sent.sender ≡ too.sent.sender
    central_sent central peripheral =
        let own = at_central end.link.role one end has.sent central has.is_at_end in
        let off = at_peripheral far.link.role other far too.sent peripheral too.is_at_end in
        own ∙ sym (two.only other one too.sent.sender in_too in_it (sender_in other far too) (differs_back one other differs) (not_same too.sent.sender other off))

    peripheral_heard : end.link.role ≡ Peripheral → far.link.role ≡ Central → has.sent.sender ≡ too.sent.sender
    peripheral_heard peripheral central =
        let off = at_peripheral end.link.role one end has.sent peripheral has.is_at_end in
        let own = at_central far.link.role other far too.sent central too.is_at_end in
        two.only one other has.sent.sender in_it in_too (sender_in one end has) differs (not_same has.sent.sender one off) ∙ sym own

    one_sender : (phases : ℕ) → ListensAs phases end.link.role → SendsAs phases far.link.role → has.sent.sender ≡ too.sent.sender
    one_sender zero listens sends = peripheral_heard listens sends
    one_sender (suc phases) listens sends = central_sent listens sends

-- ---- a packet that an end takes

module _ (understood : IsUnderstood) (taken : AreTaken) (apart : AreApart) (given : Given) (six : HaveAddresses given) (distinct : AreDistinct given.stations)
    (two : AreTwo given) (before rest : List Event) (station : ℕ) (octets : List ℕ) (at : history_of (run_of given) ≡ before ++ Called station (PacketHeard octets) ∷ rest)
    (link : OpenLink) (handle : ℕ) (listening : link_listened (facts_at given station before).turn.doing ≡ Some handle)
    (is_open : link_at handle (facts_at given station before).links ≡ Some link) (begins : take 4 octets ≡ access_octets link.setup.link.fields.access)
    (unforged : IsUnforged (facts_at given station before) octets) where
  call : IsPhase given before station (Some octets)
  call = call_at given before rest station (PacketHeard octets) six distinct at

  sent : WasSentNow given before station octets
  sent = sent_now given six distinct before rest station octets at

  abbrev facts : Facts
  facts = facts_at given station before

  -- another station sent it on the other end of the link
  record IsOfFarEnd : Type 0 where
    is_other : (station == sent.sender) ≡ false
    air : IsLinkOnAirNow sent.phases (facts_at given sent.sender before) sent.channel octets
    one : HaveOneConnectInd air.link.setup link.setup

  channel_is : sent.channel ≡ (facts_in link).event.channel
  channel_is = one_channel sent.channel (facts_in link).event.channel
      (sym sent.listens ∙ listens_for facts handle facts.turn.doing link call.in_turn.listens listening is_open)

  one_of : (air : IsLinkOnAirNow sent.phases (facts_at given sent.sender before) sent.channel octets) → HaveOneConnectInd air.link.setup link.setup
  one_of air =
      let after = link_after (PacketSent (facts_at given sent.sender before).turn.slot) air.link in
      let whole = Called station (PacketHeard octets) ∷ rest in
      let has = has_connect_ind understood taken given before whole station handle link distinct six at is_open in
      let too = has_connect_ind understood taken given before whole sent.sender air.handle after distinct six at air.is_open in
      let listens = listens_as sent.phases handle facts.links facts.turn.doing link sent.phase listening is_open in
      let sender = one_sender understood taken apart given six distinct before whole at two station sent.sender call.is_one sent.is_one sent.differs
      link.setup air.link.setup has too sent.phases listens air.role in
      let address = same_access link.setup.link.fields.access air.link.setup.link.fields.access
      (end_below understood taken apart given six distinct before whole at station link.setup has)
      (end_below understood taken apart given six distinct before whole at sent.sender air.link.setup too)
      (sym begins ∙ ap (take 4) air.packet ∙ sent_begins air.link.setup (facts_in air.link)) in
      let one = one_link understood taken apart given six distinct before whole at station sent.sender link.setup air.link.setup has too sender address in
      record { fields = sym one.fields; opened = sym one.opened }

  of_far_end : IsOfFarEnd
  of_far_end = by (sent.sent unforged)
    where
      by : IsOnAirNow sent.phases (facts_at given sent.sender before) sent.channel octets → IsOfFarEnd
      by (inl air) =
          let below : sent.channel < 37 = subst (λ (n : ℕ). n < 37) (sym channel_is) (link_channel link) in
          let from = air.on_channel.0 in absurd (omega (arith, below, from))
      by (inr air) = record {
        is_other = sent.differs;
        air = air;
        one = one_of air;
      }

  same_turn : (one other turns : ℕ) → one + 1 ≡ turns → other + 1 ≡ turns → one ≡ other
  same_turn one other turns is is_too = omega (arith, is, is_too)

  -- and the other station is that of the far end
  just_sent : (end far : OpenEnd) → end.station ≡ station → is_in far.station given.stations ≡ true → (station == far.station) ≡ false → HaveOneConnectInd link.setup far.link.setup
      → HasSentNow given before end far (facts_in link).event.channel octets
  just_sent end far here in_it differs same =
      let from = of_far_end in
      let air = from.air in
      let slot = (facts_at given sent.sender before).turn.slot in
      let sender = two.only station far.station sent.sender call.is_one in_it sent.is_one differs from.is_other in record {
        sent = record {
          handle = air.handle;
          slot = slot;
          link = air.link;
          is_open = subst (λ n. link_at air.handle (facts_at given n before).links ≡ Some (link_after (PacketSent slot) air.link)) sender air.is_open;
          is_end = record { fields = from.one.fields ∙ same.fields; opened = from.one.opened ∙ same.opened };
          packet = air.packet;
          channel_is = sym channel_is ∙ air.channel_is;
        };
        now = same_turn slot (facts_at given end.station before).turn.slot call.turns (call.slots sent.sender sent.is_one)
            (call.slots end.station (ap (λ n. is_in n given.stations) here ∙ call.is_one));
      }

-- ---- both ends of one link

pub hears_in_turn : IsUnderstood → AreTaken → AreApart → (given : Given) → HaveAddresses given → AreDistinct given.stations → AreTwo given → (history rest : List Event)
    → history_of (run_of given) ≡ history ++ rest → (end far : OpenEnd) → is_in far.station given.stations ≡ true → (end.station == far.station) ≡ false
    → HaveOneConnectInd end.link.setup far.link.setup → HearsInTurn given history end far
hears_in_turn understood taken apart given six distinct two history rest at end far in_it differs same = λ before after octets link is takes own.
    let event = Called end.station (PacketHeard octets) in
    let place : history_of (run_of given) ≡ before ++ event ∷ (after ++ rest) = at ∙ ap (λ events. events ++ rest) is ∙ append_assoc before (event ∷ after) rest in
    just_sent understood taken apart given six distinct two before (after ++ rest) end.station octets place link takes.handle takes.listens takes.is_open
    (is_addressed link.setup (facts_in link) octets takes.is_good)
    (good_unforged (facts_at given end.station before) takes.handle link octets takes.listens takes.is_open takes.is_good)
    end far refl in_it differs
    (record { fields = own.fields ∙ same.fields; opened = own.opened ∙ same.opened })

pub hear_in_turn : IsUnderstood → AreTaken → AreApart → (given : Given) → HaveAddresses given → AreDistinct given.stations → AreTwo given → (history rest : List Event)
    → history_of (run_of given) ≡ history ++ rest → (one other : OpenEnd) → is_in one.station given.stations ≡ true → is_in other.station given.stations ≡ true
    → (one.station == other.station) ≡ false → HaveOneConnectInd one.link.setup other.link.setup → HearEachInTurn given history one other
hear_in_turn understood taken apart given six distinct two history rest at one other in_it in_too differs same = record {
  one_hears = hears_in_turn understood taken apart given six distinct two history rest at one other in_too differs same;
  other_hears = hears_in_turn understood taken apart given six distinct two history rest at other one in_it (differs_back one.station other.station differs)
      (record { fields = sym same.fields; opened = sym same.opened });
}

-- a packet that the far end sent last, and that reaches the end, was sent in this turn
pub sent_in_turn : IsUnderstood → AreTaken → AreApart → (given : Given) → HaveAddresses given → AreDistinct given.stations → AreTwo given → (before rest : List Event)
    (octets : List ℕ) (end far : OpenEnd) → history_of (run_of given) ≡ before ++ Called end.station (PacketHeard octets) ∷ rest → is_in far.station given.stations ≡ true
    → (end.station == far.station) ≡ false → HaveOneConnectInd end.link.setup far.link.setup → IsOpen given before end
    → link_listened (facts_at given end.station before).turn.doing ≡ Some end.handle → (verdict_of end.link.setup (facts_in end.link) octets ≡ Forged → ⊥)
    → HasSent given before far (facts_in end.link).event.channel octets → HasSentNow given before end far (facts_in end.link).event.channel octets
sent_in_turn understood taken apart given six distinct two before rest octets end far at in_it differs same opened listening unforged sent =
    let begins = ap (take 4) sent.packet ∙ sent_begins sent.link.setup (facts_in sent.link)
    ∙ ap (λ (f : ConnectFields). access_octets f.access) (sent.is_end.fields ∙ sym same.fields) in
    just_sent understood taken apart given six distinct two before rest end.station octets at end.link end.handle listening opened begins
    (unforged_there (facts_at given end.station before) end.handle end.link octets listening opened unforged) end far refl in_it differs same
