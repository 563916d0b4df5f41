-- What a station of two hears on a link was sent by the other one, at the far end of that link.
use Rattle.std.proofs.Common.{◌≡◌, ◌≢◌, ℕ, zero, suc, ◌+◌, ◌-◌, ◌^◌, ◌<◌, ◌==◌, inl, inr, Bool, true, false, Some, List, [], ◌∷◌, ◌++◌, length, take, refl, sym, ap, subst, ◌∙◌, append_assoc, arith}
use Rattle.std.specs.Prelude.{IfSome, Option, if◌then◌else◌}
use Rattle.std.specs.Int.{from_le_bytes, w32}
use Rattle.std.specs.Str.{bytes_eq}
use Rattle.std.proofs.lemmas.Bool.{eqb-true, false_from_ne_true}
use Rattle.std.proofs.lemmas.Nat.{from_le_bytes-to_le_bytes_4}
use Rattle.std.proofs.lemmas.Slice.Eq.{bytes_eq-Decides}
use Rattle.ble_base.specs.declared.roles.Role.{Role}
use Rattle.ble_base.specs.declared.roles.Role.TheVariants.{Central, Peripheral}
use Rattle.ble_base.specs.declared.verdicts.Verdict.{Verdict}
use Rattle.ble_base.specs.declared.verdicts.Verdict.TheVariants.{Forged, Good}
use Rattle.adv_pdu.specs.declared.pdu.ConnectFields.{ConnectFields}
use Rattle.air_frame.specs.declared.Heard.TheVariants.{NotOurs, Broken, Whole}
use Rattle.air_frame.specs.Hearing.{heard_in}
use Rattle.air_frame.specs.Packet.{access_octets, is_packet, pdu_in}
use Rattle.run_model.specs.link_model.Facts.{Facts as EndFacts}
use Rattle.run_model.specs.link_model.Packets.{is_forged_pdu, packet_sent, verdict_of}
use Rattle.run_model.specs.link_model.Payload.{opens_now}
use Rattle.run_model.specs.link_model.Verdicts.{verdict_by}
use Rattle.run_model.specs.link_model.Setup.{Setup as EndSetup}
use Rattle.run_model.specs.link_model.Step.{PacketSent}
use Rattle.run_model.specs.open_links.OpenLinks.{Links, OpenLink, facts_in, link_after, link_at}
use Rattle.scan_init.specs.Access.{IsNthAccess, access_at, nth_access}
use Rattle.scan_init.proofs.Numbers.{each_valid}
use Rattle.run_model.specs.controller_model.declared.doing.Doing.{Doing}
use Rattle.run_model.specs.controller_model.declared.doing.Doing.TheVariants.{Advertises, CentralListens, PeripheralListens}
use Rattle.run_model.specs.controller_model.Facts.{Facts, Listens}
use Rattle.run_model.specs.controller_model.Heard.{access_found}
use Rattle.run_model.specs.controller_model.Packets.{listens_on, verdict_doing, verdict_of as verdict_of_side, verdict_of_link}
use Rattle.run_model.specs.controller_model.Step.{PacketHeard}
use Rattle.run_model.proofs.controller_model.DataChannels.{link_channel}
use Rattle.run_model.specs.Feeding.{AreDistinct}
use Rattle.run_model.specs.History.{Event, Called, Transmitted, turns_begun}
use Rattle.run_model.specs.LinkEnds.{ConnectInd, HasConnectInd, HaveAddresses, IsAtEnd}
use Rattle.run_model.specs.Run.{Given, facts_at, history_of, run_of, setup_at}
use Rattle.run_model.proofs.Handing.{IsUnforged}
use Rattle.run_model.proofs.LinkEnds.{AreTaken, IsUnderstood, has_connect_ind}
use Rattle.run_model.proofs.OfStations.{OfStations, run_of_stations}
use Rattle.run_model.proofs.Places.{each_at}
use Rattle.run_model.proofs.Stations.{is_in}
use Rattle.run_laws.specs.Access.{IsConnectSent, connects_sent}
use Rattle.run_laws.specs.Ends.{HasSent, HaveOneConnectInd, HearEachOther, HearsItsLink, OpenEnd, ReceivesGood, link_listened}
use Rattle.run_laws.proofs.ByCalls.{WasSent, all_facts}
use Rattle.run_laws.proofs.ChSel.{one_channel}
use Rattle.run_laws.proofs.DistinctAccess.{AreApart, found_at, sent_distinct, sent_in_order}
use Rattle.run_laws.proofs.EachCall.{IsPhase, call_at}
use Rattle.run_laws.proofs.Hearings.{IsLinkOnAir, IsOnAir}
use Rattle.run_laws.proofs.LinkPhases.{HasRole, IsInPhase, SendsAs}
use Rattle.run_laws.proofs.SameEvent.{one_event}
use Rattle.run_laws.proofs.TurnSteps.{IsListening}
use Rattle.run_laws.proofs.TwoStations.{AreTwo, differs_back}

-- ---- the access address of a packet

pub sent_begins : (setup : EndSetup) (facts : EndFacts) → take 4 (packet_sent setup facts) ≡ access_octets setup.link.fields.access
unfolding packet_sent
sent_begins setup facts = refl

pub good_begins : (max_rx : ℕ) (opens : Bool) (is_forged : List ℕ → Bool) (channel access init : ℕ) (octets : List ℕ)
    → verdict_by max_rx opens is_forged (heard_in channel access init octets) ≡ Good → take 4 octets ≡ access_octets access
unfolding heard_in
good_begins max_rx opens is_forged channel access init octets good = by (bytes_eq (take 4 octets) (access_octets access)) refl good
  where
    by : (same : Bool) → bytes_eq (take 4 octets) (access_octets access) ≡ same
        → verdict_by max_rx opens is_forged (if same then (if is_packet channel access init octets then Whole (record { items = pdu_in channel octets }) else Broken) else NotOurs) ≡ Good
        → take 4 octets ≡ access_octets access
    by true same is = (bytes_eq-Decides (take 4 octets) (access_octets access)).0 same
    by false same is = absurd cc

pub is_addressed : (setup : EndSetup) (facts : EndFacts) (octets : List ℕ) → verdict_of setup facts octets ≡ Good → take 4 octets ≡ access_octets setup.link.fields.access
unfolding verdict_of
is_addressed setup facts octets good =
    good_begins setup.link.max_rx (opens_now facts.encryption.end) (is_forged_pdu facts) facts.event.channel setup.link.fields.access setup.link.fields.crc_init octets good

-- a good packet is not forged
not_forged : (verdict : Verdict) → verdict ≡ Good → verdict ≡ Forged → ⊥
not_forged verdict good forged = let h : Good ≡ Forged = sym good ∙ forged in absurd cc

verdict_listening : (facts : Facts) (handle : ℕ) (doing : Doing) (link : OpenLink) (octets : List ℕ) → facts.turn.doing ≡ doing → link_listened doing ≡ Some handle
    → link_at handle facts.links ≡ Some link → verdict_of_side facts octets ≡ verdict_of link.setup (facts_in link) octets
unfolding verdict_of_side
verdict_listening facts handle (CentralListens other) link octets does listens at =
    let same : other ≡ handle = cc in
    ap (λ (d : Doing). verdict_doing facts.links d octets) does ∙ ap (λ n. verdict_of_link (link_at n facts.links) octets) same
    ∙ ap (λ (place : Option OpenLink). verdict_of_link place octets) at
verdict_listening facts handle (PeripheralListens other) link octets does listens at =
    let same : other ≡ handle = cc in
    ap (λ (d : Doing). verdict_doing facts.links d octets) does ∙ ap (λ n. verdict_of_link (link_at n facts.links) octets) same
    ∙ ap (λ (place : Option OpenLink). verdict_of_link place octets) at
verdict_listening facts handle (Advertises channel) link octets does listens at = absurd cc
verdict_listening facts handle other link octets does listens at = absurd cc

pub unforged_there : (facts : Facts) (handle : ℕ) (link : OpenLink) (octets : List ℕ) → link_listened facts.turn.doing ≡ Some handle
    → link_at handle facts.links ≡ Some link → (verdict_of link.setup (facts_in link) octets ≡ Forged → ⊥) → IsUnforged facts octets
unforged_there facts handle link octets listens at unforged = λ forged.
    unforged (sym (verdict_listening facts handle facts.turn.doing link octets refl listens at) ∙ forged)

pub good_unforged : (facts : Facts) (handle : ℕ) (link : OpenLink) (octets : List ℕ) → link_listened facts.turn.doing ≡ Some handle
    → link_at handle facts.links ≡ Some link → verdict_of link.setup (facts_in link) octets ≡ Good → IsUnforged facts octets
good_unforged facts handle link octets listens at good =
    unforged_there facts handle link octets listens at (not_forged (verdict_of link.setup (facts_in link) octets) good)

-- each address that a station takes has 32 bits
in_32_bits : (cursor travel : ℕ) → access_at cursor travel < 2 ^ 32
in_32_bits cursor travel = omega arith

pub access_below : (cursor number access : ℕ) → access_found (nth_access cursor number) ≡ Some access → access < 2 ^ 32
access_below cursor number access is =
    let found = found_at (nth_access cursor number) access is in
    let fact = subst (λ may. IfSome may (λ pair. IsNthAccess cursor number pair.0 pair.1)) found.is (each_valid cursor number) in
    subst (λ n. n < 2 ^ 32) (sym fact.address) (in_32_bits cursor (found.after - 1))

pub same_access : (one other : ℕ) → one < 2 ^ 32 → other < 2 ^ 32 → access_octets one ≡ access_octets other → one ≡ other
same_access one other below below_too same =
    sym (from_le_bytes-to_le_bytes_4 one below) ∙ ap (from_le_bytes w32) same ∙ from_le_bytes-to_le_bytes_4 other below_too

-- ---- the sender of a CONNECT_IND

pub at_central : (role : Role) (station : ℕ) (end : EndSetup) (sent : ConnectInd) → role ≡ Central → IsAtEnd role station end sent → sent.sender ≡ station
at_central Central station end sent is at = at.0
at_central Peripheral station end sent is at = absurd cc

pub at_peripheral : (role : Role) (station : ℕ) (end : EndSetup) (sent : ConnectInd) → role ≡ Peripheral → IsAtEnd role station end sent → sent.sender ≢ station
at_peripheral Central station end sent is at = absurd cc
at_peripheral Peripheral station end sent is at = at.0

pub not_same : (one other : ℕ) → one ≢ other → (other == one) ≡ false
not_same one other differs = false_from_ne_true (other == one) (λ same. differs (sym (eqb-true other one same)))

pub neither_less : (m n : ℕ) → (m < n → n < n) → (n < m → m < m) → m ≡ n
neither_less m n less more = grind (arith, less, more)

-- of two parts of a history, those that are as long are one
pub same_front : (before other : List Event) (event next : Event) (after rest : List Event) → before ++ event ∷ after ≡ other ++ next ∷ rest → length before ≡ length other → before ≡ other
same_front [] [] event next after rest same long = refl
same_front [] (second ∷ other) event next after rest same long = absurd (omega (arith, long))
same_front (first ∷ before) [] event next after rest same long = absurd (omega (arith, long))
same_front (first ∷ before) (second ∷ other) event next after rest same long =
    let one : first ≡ second = cc in
    let more : before ++ event ∷ after ≡ other ++ next ∷ rest = cc in
    ap (λ (e : Event). e ∷ before) one ∙ ap (λ (xs : List Event). second ∷ xs) (same_front before other event next after rest more (omega (arith, long)))

-- ---- which end sends, and which one listens

-- the end that listens in a phase, which comes after this number of phases
abbrev pub ListensAs : ℕ → Role → Type 0
ListensAs zero role = role ≡ Peripheral
ListensAs (suc phases) role = role ≡ Central

pub listens_as : (phases handle : ℕ) (links : Links) (doing : Doing) (link : OpenLink) → IsInPhase phases links doing → link_listened doing ≡ Some handle
    → link_at handle links ≡ Some link → ListensAs phases link.setup.link.role
listens_as phases handle links (CentralListens other) link is listens at =
    let same : other ≡ handle = cc in
    subst (λ n. ListensAs n link.setup.link.role) (sym is.0) (subst (HasRole Central) at (subst (λ n. HasRole Central (link_at n links)) same is.1))
listens_as phases handle links (PeripheralListens other) link is listens at =
    let same : other ≡ handle = cc in
    subst (λ n. ListensAs n link.setup.link.role) (sym is.0) (subst (HasRole Peripheral) at (subst (λ n. HasRole Peripheral (link_at n links)) same is.1))
listens_as phases handle links (Advertises channel) link is listens at = absurd cc
listens_as phases handle links other link is listens at = absurd cc

pub listens_for : (facts : Facts) (handle : ℕ) (doing : Doing) (link : OpenLink) → IsListening facts doing → link_listened doing ≡ Some handle
    → link_at handle facts.links ≡ Some link → facts.wanted ≡ Listens (facts_in link).event.channel
listens_for facts handle (CentralListens other) link is listens at =
    let same : other ≡ handle = cc in is ∙ ap (λ n. listens_on (link_at n facts.links)) same ∙ ap listens_on at
listens_for facts handle (PeripheralListens other) link is listens at =
    let same : other ≡ handle = cc in is ∙ ap (λ n. listens_on (link_at n facts.links)) same ∙ ap listens_on at
listens_for facts handle (Advertises channel) link is listens at = absurd cc
listens_for facts handle other link is listens at = absurd cc

-- ---- at a time of a run

module _ (understood : IsUnderstood) (taken : AreTaken) (apart : AreApart) (given : Given) (six : HaveAddresses given) (distinct : AreDistinct given.stations)
    (before rest : List Event) (at : history_of (run_of given) ≡ before ++ rest) where
  connect_sent : (station : ℕ) (end : EndSetup) (has : HasConnectInd before station end)
      → IsConnectSent (history_of (run_of given)) has.before has.sent.sender has.sent.fields
  connect_sent station end has =
      let connect = has.sent in record {
        channel = connect.channel;
        octets = connect.octets;
        hearings = connect.hearings;
        after = has.after ++ rest;
        is_at = at ∙ ap (λ history. history ++ rest) has.is_at
            ∙ append_assoc has.before (Transmitted connect.sender connect.channel connect.octets connect.hearings ∷ has.after) rest;
        on_channel = has.on_channel;
        from = connect.from;
        to = connect.to;
        ch_sel = connect.ch_sel;
        says = has.says;
      }

  pub sender_in : (station : ℕ) (end : EndSetup) (has : HasConnectInd before station end) → is_in has.sent.sender given.stations ≡ true
  unfolding connect_sent
  sender_in station end has =
      let sent = connect_sent station end has in
      each_at (OfStations given) (history_of (run_of given)) has.before sent.after
      (Transmitted has.sent.sender has.sent.channel has.sent.octets has.sent.hearings) (run_of_stations given) sent.is_at

  end_below : (station : ℕ) (end : EndSetup) → HasConnectInd before station end → end.link.fields.access < 2 ^ 32
  end_below station end has =
      subst (λ (f : ConnectFields). f.access < 2 ^ 32) has.fields_are
      (access_below (setup_at given has.sent.sender).cursor (connects_sent has.sent.sender has.before) has.sent.fields.access
      (sent_in_order understood given has.before has.sent.sender has.sent.fields distinct six (connect_sent station end has)))

  -- two CONNECT_INDs of one station with one access address are one
  module _ (one other : ℕ) (end far : EndSetup) (has : HasConnectInd before one end) (too : HasConnectInd before other far) (sender : has.sent.sender ≡ too.sent.sender)
      (access : end.link.fields.access ≡ far.link.fields.access) where
    one_address : has.sent.fields.access ≡ too.sent.fields.access
    one_address = ap (λ (f : ConnectFields). f.access) has.fields_are ∙ access ∙ sym (ap (λ (f : ConnectFields). f.access) too.fields_are)

    sent_too : IsConnectSent (history_of (run_of given)) too.before has.sent.sender too.sent.fields
    sent_too = subst (λ n. IsConnectSent (history_of (run_of given)) too.before n too.sent.fields) (sym sender) (connect_sent other far too)

    as_long : length has.before ≡ length too.before
    as_long =
        let sent = connect_sent one end has in
        neither_less (length has.before) (length too.before)
        (λ less. absurd (sent_distinct understood apart given has.before too.before has.sent.sender has.sent.fields too.sent.fields distinct six sent sent_too less one_address))
        (λ less. absurd (sent_distinct understood apart given too.before has.before has.sent.sender too.sent.fields has.sent.fields distinct six sent_too sent less (sym one_address)))

    pub one_before : has.before ≡ too.before
    one_before = same_front has.before too.before _ _ has.after too.after (sym has.is_at ∙ too.is_at) as_long

    one_link : HaveOneConnectInd end far
    one_link =
        let event = one_event before one other end far has too one_before in record {
          fields = sym has.fields_are ∙ event.fields ∙ too.fields_are;
          opened = one_turn end.opened far.opened (sym has.in_turn ∙ ap turns_begun one_before ∙ too.in_turn);
        }
      where
        one_turn : (m n : ℕ) → m + 1 ≡ n + 1 → m ≡ n
        one_turn m n same = omega (arith, same)

  -- a central and a peripheral at two stations, with one access address, have one CONNECT_IND
  module _ (two : AreTwo given) (one other : ℕ) (in_it : is_in one given.stations ≡ true) (in_too : is_in other given.stations ≡ true) (differs : (one == other) ≡ false)
      (end far : EndSetup) (has : HasConnectInd before one end) (too : HasConnectInd before other far) where
    central_sent : end.link.role ≡ Central → far.link.role ≡ Peripheral → has.sent.sender ≡ too.sent.sender
    central_sent central peripheral =
        let own = at_central end.link.role one end has.sent central has.is_at_end in
        let off = at_peripheral far.link.role other far too.sent peripheral too.is_at_end in
        own ∙ sym (two.only other one too.sent.sender in_too in_it (sender_in other far too) (differs_back one other differs) (not_same too.sent.sender other off))

    peripheral_heard : end.link.role ≡ Peripheral → far.link.role ≡ Central → has.sent.sender ≡ too.sent.sender
    peripheral_heard peripheral central =
        let off = at_peripheral end.link.role one end has.sent peripheral has.is_at_end in
        let own = at_central far.link.role other far too.sent central too.is_at_end in
        two.only one other has.sent.sender in_it in_too (sender_in one end has) differs (not_same has.sent.sender one off) ∙ sym own

    one_sender : (phases : ℕ) → ListensAs phases end.link.role → SendsAs phases far.link.role → has.sent.sender ≡ too.sent.sender
    one_sender zero listens sends = peripheral_heard listens sends
    one_sender (suc phases) listens sends = central_sent listens sends

-- ---- a packet that an end takes

module _ (understood : IsUnderstood) (taken : AreTaken) (apart : AreApart) (given : Given) (six : HaveAddresses given) (distinct : AreDistinct given.stations)
    (two : AreTwo given) (before rest : List Event) (station : ℕ) (octets : List ℕ) (at : history_of (run_of given) ≡ before ++ Called station (PacketHeard octets) ∷ rest)
    (link : OpenLink) (takes : ReceivesGood (facts_at given station before) octets link) where
  call : IsPhase given before station (Some octets)
  call = call_at given before rest station (PacketHeard octets) six distinct at

  sent : WasSent given call.phases (all_facts given before) station octets
  sent = call.sent octets refl

  abbrev facts : Facts
  facts = facts_at given station before

  -- another station sent it on the other end of the link
  record IsOfFarEnd : Type 0 where
    is_other : (station == sent.sender) ≡ false
    air : IsLinkOnAir call.phases (facts_at given sent.sender before) sent.channel octets
    one : HaveOneConnectInd air.link.setup link.setup

  channel_is : sent.channel ≡ (facts_in link).event.channel
  channel_is = one_channel sent.channel (facts_in link).event.channel
      (sym sent.listens ∙ listens_for facts takes.handle facts.turn.doing link call.in_turn.listens takes.listens takes.is_open)

  one_of : (air : IsLinkOnAir call.phases (facts_at given sent.sender before) sent.channel octets) → HaveOneConnectInd air.link.setup link.setup
  one_of air =
      let after = link_after (PacketSent air.slot) air.link in
      let whole = Called station (PacketHeard octets) ∷ rest in
      let has = has_connect_ind understood taken given before whole station takes.handle link distinct six at takes.is_open in
      let too = has_connect_ind understood taken given before whole sent.sender air.handle after distinct six at air.is_open in
      let listens = listens_as call.phases takes.handle facts.links facts.turn.doing link call.in_phase takes.listens takes.is_open in
      let sender = one_sender understood taken apart given six distinct before whole at two station sent.sender call.is_one sent.is_one sent.differs
      link.setup air.link.setup has too call.phases listens air.role in
      let address = same_access link.setup.link.fields.access air.link.setup.link.fields.access
      (end_below understood taken apart given six distinct before whole at station link.setup has)
      (end_below understood taken apart given six distinct before whole at sent.sender air.link.setup too)
      (sym (is_addressed link.setup (facts_in link) octets takes.is_good) ∙ ap (take 4) air.packet ∙ sent_begins air.link.setup (facts_in air.link)) in
      let one = one_link understood taken apart given six distinct before whole at station sent.sender link.setup air.link.setup has too sender address in
      record { fields = sym one.fields; opened = sym one.opened }

  of_far_end : IsOfFarEnd
  of_far_end = by (sent.sent (good_unforged facts takes.handle link octets takes.listens takes.is_open takes.is_good))
    where
      by : IsOnAir call.phases (facts_at given sent.sender before) sent.channel octets → IsOfFarEnd
      by (inl air) =
          let below : sent.channel < 37 = subst (λ (n : ℕ). n < 37) (sym channel_is) (link_channel link) in
          let from = air.on_channel.0 in absurd (omega (arith, below, from))
      by (inr air) = record {
        is_other = sent.differs;
        air = air;
        one = one_of air;
      }

  -- and the other station is that of the far end
  just_sent : (far : OpenEnd) → is_in far.station given.stations ≡ true → (station == far.station) ≡ false → HaveOneConnectInd link.setup far.link.setup
      → HasSent given before far (facts_in link).event.channel octets
  just_sent far in_it differs same =
      let from = of_far_end in
      let air = from.air in
      let sender = two.only station far.station sent.sender call.is_one in_it sent.is_one differs from.is_other in record {
        handle = air.handle;
        slot = air.slot;
        link = air.link;
        is_open = subst (λ n. link_at air.handle (facts_at given n before).links ≡ Some (link_after (PacketSent air.slot) air.link)) sender air.is_open;
        is_end = record { fields = from.one.fields ∙ same.fields; opened = from.one.opened ∙ same.opened };
        packet = air.packet;
        channel_is = sym channel_is ∙ air.channel_is;
      }

-- ---- both ends of one link

pub hears_its_link : IsUnderstood → AreTaken → AreApart → (given : Given) → HaveAddresses given → AreDistinct given.stations → AreTwo given → (history rest : List Event)
    → history_of (run_of given) ≡ history ++ rest → (end far : OpenEnd) → is_in far.station given.stations ≡ true → (end.station == far.station) ≡ false
    → HaveOneConnectInd end.link.setup far.link.setup → HearsItsLink given history end far
hears_its_link understood taken apart given six distinct two history rest at end far in_it differs same = λ before after octets link is takes own.
    let event = Called end.station (PacketHeard octets) in
    let place : history_of (run_of given) ≡ before ++ event ∷ (after ++ rest) = at ∙ ap (λ events. events ++ rest) is ∙ append_assoc before (event ∷ after) rest in
    just_sent understood taken apart given six distinct two before (after ++ rest) end.station octets place link takes far in_it differs
    (record { fields = own.fields ∙ same.fields; opened = own.opened ∙ same.opened })

pub hear_each_other : IsUnderstood → AreTaken → AreApart → (given : Given) → HaveAddresses given → AreDistinct given.stations → AreTwo given → (history rest : List Event)
    → history_of (run_of given) ≡ history ++ rest → (one other : OpenEnd) → is_in one.station given.stations ≡ true → is_in other.station given.stations ≡ true
    → (one.station == other.station) ≡ false → HaveOneConnectInd one.link.setup other.link.setup → HearEachOther given history one other
hear_each_other understood taken apart given six distinct two history rest at one other in_it in_too differs same = record {
  one_hears = hears_its_link understood taken apart given six distinct two history rest at one other in_too differs same;
  other_hears = hears_its_link understood taken apart given six distinct two history rest at other one in_it (differs_back one.station other.station differs)
      (record { fields = sym same.fields; opened = sym same.opened });
}
