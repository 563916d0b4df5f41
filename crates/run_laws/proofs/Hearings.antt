-- What each station of a run hears in a phase: a packet that another one wants to send in it.
use Rattle.std.proofs.Common.{◌≡◌, ℕ, suc, ◌==◌, ◌⊎◌, inl, inr, Bool, true, false, Option, Some, None, List, [], ◌∷◌, ◌++◌, refl, sym, ap, subst, ◌∙◌}
use Rattle.std.specs.Prelude.{map, take, if◌then◌else◌}
use Rattle.std.proofs.lemmas.Bool.{eqb-true}
use Rattle.adv_pdu.specs.declared.pdu.AdvPdu.{AdvPdu}
use Rattle.adv_pdu.specs.Pdu.{IsPdu}
use Rattle.run_model.specs.link_model.Packets.{packet_sent}
use Rattle.run_model.specs.link_model.Step.{PacketSent}
use Rattle.run_model.specs.open_links.OpenLinks.{OpenLink, facts_in, link_after, link_at}
use Rattle.run_model.specs.controller_model.declared.doing.Doing.{Doing}
use Rattle.run_model.specs.controller_model.declared.doing.Doing.TheVariants.{Advertises, CentralSends, PeripheralSends}
use Rattle.run_model.specs.controller_model.Step.{Step, HostOctet, TurnBegins, NothingHeard, TurnEnds}
use Rattle.run_model.specs.controller_model.Facts.{Setup, Facts, Sends, Listens}
use Rattle.run_model.specs.controller_model.Heard.{unheard}
use Rattle.run_model.specs.controller_model.Outcome.{facts_passed}
use Rattle.run_model.specs.controller_model.Packets.{advertising_packet, use_of, verdict_of}
use Rattle.run_model.specs.controller_model.Sent.{SendsOn}
use Rattle.run_model.specs.controller_model.Side.{facts_after, facts_of, notes_after}
use Rattle.run_model.proofs.controller_model.Always.{IsAdvertisingChannel}
use Rattle.run_model.proofs.controller_model.Pasts.{facts_more}
use Rattle.radio_replay.specs.declared.fates.Fate.{Fate}
use Rattle.run_model.specs.Feeding.{AreDistinct}
use Rattle.run_model.specs.History.{Event, TurnBegan, HostFed, Transmitted, Hearing, handed_or, has_received, past_of, packet_received, turns_begun}
use Rattle.run_model.specs.LinkEnds.{HaveAddresses}
use Rattle.run_model.specs.Run.{Given, setup_at, facts_at, use_at, octets_left, after_call, after_octets, after_feed, hearings_of, step_of, unseen_in}
use Rattle.run_model.proofs.Calls.{past_other, past_own}
use Rattle.run_model.proofs.Handing.{IsHanded, IsUnforged, WasForged, WasNot, WasReceived, handing}
use Rattle.run_model.proofs.LinkEnds.{is_listener, received_by, received_event, wanted_is}
use Rattle.run_model.proofs.Stations.{is_in, among, in_more_other, in_more_same, not_before}
use Rattle.run_model.proofs.Walk.{Place, AtPackets, AtListening, IsKept}
use Rattle.run_laws.proofs.LinkPhases.{IsInPhase, SendsAs, in_phase, sends_as}
use Rattle.run_laws.proofs.SentPackets.{HasChSel, IsLinkSent, IsUseSent, use_is_sent}
use Rattle.run_laws.proofs.TurnPlaces.{AllStand, Within, at_stage, event_past, stands_at, stands_kept}

-- ---- what is on the air

pub record IsPduOnAir (channel : ℕ) (octets : List ℕ) : Type 0 where
  pub pdu : AdvPdu
  pub is_pdu : IsPdu pdu
  pub packet : octets ≡ advertising_packet channel pdu
  pub on_channel : IsAdvertisingChannel channel
  pub ch_sel : HasChSel pdu

-- the packet of a link that is open at its sender, to which nothing happened after that, in the phase after this number
-- of phases of the turn
pub record IsLinkOnAir (phases : ℕ) (facts : Facts) (channel : ℕ) (octets : List ℕ) : Type 0 where
  pub handle : ℕ
  pub slot : ℕ
  pub link : OpenLink
  pub is_open : link_at handle facts.links ≡ Some (link_after (PacketSent slot) link)
  pub packet : octets ≡ packet_sent link.setup (facts_in link)
  pub channel_is : channel ≡ (facts_in link).event.channel
  pub role : SendsAs phases link.setup.link.role

abbrev pub IsOnAir : ℕ → Facts → ℕ → List ℕ → Type 0
IsOnAir phases facts channel octets = IsPduOnAir channel octets ⊎ IsLinkOnAir phases facts channel octets

-- what it wants to send, and what it does in which phase
pub record IsUseInPhase (phases : ℕ) (facts : Facts) (channel : ℕ) (octets : List ℕ) : Type 0 where
  pub wants : IsUseSent facts (Sends channel octets)
  pub phase : IsInPhase phases facts.links facts.turn.doing

link_role : (phases : ℕ) (facts : Facts) (channel : ℕ) (octets : List ℕ) (sent : IsLinkSent facts channel octets) → IsInPhase phases facts.links facts.turn.doing
    → SendsAs phases sent.link.setup.link.role
link_role phases facts channel octets sent phase =
    sends_as phases sent.handle facts.links facts.turn.doing (link_after (PacketSent facts.turn.slot) sent.link) phase sent.sends sent.is_open

pub on_air : (phases : ℕ) (facts : Facts) (channel : ℕ) (octets : List ℕ) → IsUseInPhase phases facts channel octets → IsOnAir phases facts channel octets
on_air phases facts channel octets uses = by uses.wants
  where
    by : IsUseSent facts (Sends channel octets) → IsOnAir phases facts channel octets
    by (inl sent) = inl (record { pdu = sent.pdu; is_pdu = sent.is_pdu; packet = sent.packet; on_channel = sent.on_channel; ch_sel = sent.ch_sel })
    by (inr sent) = inr (record {
      handle = sent.handle;
      slot = facts.turn.slot;
      link = sent.link;
      is_open = sent.is_open;
      packet = sent.packet;
      channel_is = sent.channel_is;
      role = link_role phases facts channel octets sent uses.phase;
    })

-- as the sender takes that it heard nothing, its links stay as they are
pub sender_links : (facts : Facts) (handle : ℕ) (doing : Doing) → SendsOn handle doing → (facts_passed (unheard doing facts)).links ≡ facts.links
sender_links facts handle (CentralSends other) sends = refl
sender_links facts handle (PeripheralSends other) sends = refl
sender_links facts handle (Advertises channel) sends = absurd sends
sender_links facts handle other sends = absurd sends

still_on_air : (setup : Setup) (phases : ℕ) (facts : Facts) (channel : ℕ) (octets : List ℕ) → IsUseInPhase phases facts channel octets
    → IsOnAir phases (facts_after setup facts NothingHeard) channel octets
still_on_air setup phases facts channel octets uses = by uses.wants
  where
    by : IsUseSent facts (Sends channel octets) → IsOnAir phases (facts_after setup facts NothingHeard) channel octets
    by (inl sent) = inl (record { pdu = sent.pdu; is_pdu = sent.is_pdu; packet = sent.packet; on_channel = sent.on_channel; ch_sel = sent.ch_sel })
    by (inr sent) = inr (record {
      handle = sent.handle;
      slot = facts.turn.slot;
      link = sent.link;
      is_open = ap (link_at sent.handle) (sender_links facts sent.handle facts.turn.doing sent.sends) ∙ sent.is_open;
      packet = sent.packet;
      channel_is = sent.channel_is;
      role = link_role phases facts channel octets sent uses.phase;
    })

-- ---- what is heard

-- before the sender takes what it heard in the phase, it wants to send the packet
abbrev pub OnAirIf : Bool → ℕ → Given → List Event → ℕ → ℕ → List ℕ → Type 0
OnAirIf true phases given history sender channel octets = IsOnAir phases (facts_at given sender history) channel octets
OnAirIf false phases given history sender channel octets = use_at given sender history ≡ Sends channel octets

pub record IsHeard (given : Given) (phases : ℕ) (called : List ℕ) (history : List Event) (station : ℕ) (octets : List ℕ) : Type 0 where
  pub sender : ℕ
  pub channel : ℕ
  pub is_one : is_in sender given.stations ≡ true
  pub differs : (station == sender) ≡ false
  pub listens : use_at given station history ≡ Listens channel
  -- one that is forged to the station may be damaged
  pub sent : IsUnforged (facts_at given station history) octets → OnAirIf (is_in sender called) phases given history sender channel octets

abbrev pub Hears : Given → ℕ → List ℕ → List Event → ℕ → Type 0
Hears given phases called history station =
    (octets : List ℕ) → packet_received station history ≡ Some octets → IsHeard given phases called history station octets

abbrev HearsIf : Bool → Given → ℕ → List ℕ → List Event → ℕ → Type 0
HearsIf true given phases called history station = packet_received station history ≡ None
HearsIf false given phases called history station = Hears given phases called history station

abbrev pub HearsAt : Given → Place → List Event → ℕ → Type 0
HearsAt given (AtPackets phases done left) history station = Hears given phases [] history station
HearsAt given (AtListening phases done left) history station = HearsIf (is_in station done) given phases done history station
HearsAt given place history station = packet_received station history ≡ None

pub record AreHearing (given : Given) (place : Place) (history : List Event) : Type 0 where
  pub stand : AllStand given place history
  pub hears : (station : ℕ) → is_in station given.stations ≡ true → HearsAt given place history station

-- ---- steps

pub none_by : (given : Given) (station : ℕ) (step : Step) (history : List Event) (other : ℕ) (same : Bool) → (other == station) ≡ same
    → packet_received other history ≡ None → packet_received other (after_call given station step history) ≡ None
none_by given station step history other true is none = received_by given other station step history true is
none_by given station step history other false is none = received_by given other station step history false is ∙ none

pub none_called : (given : Given) (station : ℕ) (step : Step) (history : List Event) (other : ℕ) → packet_received other history ≡ None
    → packet_received other (after_call given station step history) ≡ None
none_called given station step history other none = none_by given station step history other (other == station) refl none

pub octets_none : (given : Given) (station : ℕ) (octets : List ℕ) (history : List Event) (other : ℕ) → packet_received other history ≡ None
    → packet_received other (after_octets given station octets history) ≡ None
octets_none given station [] history other none = none
octets_none given station (octet ∷ octets) history other none =
    octets_none given station octets (after_call given station (HostOctet octet) history) other (none_called given station (HostOctet octet) history other none)

pub feed_none : (given : Given) (station : ℕ) (octets : List ℕ) (history : List Event) (other : ℕ) → packet_received other history ≡ None
    → packet_received other (after_feed given station octets history) ≡ None
feed_none given station [] history other none = none
feed_none given station (octet ∷ octets) history other none =
    octets_none given station (octet ∷ octets) (history ++ HostFed station (octet ∷ octets) ∷ []) other
    (received_event other history (HostFed station (octet ∷ octets)) ∙ none)

hears_nothing : (given : Given) (phases : ℕ) (called : List ℕ) (history : List Event) (station : ℕ) → packet_received station history ≡ None
    → Hears given phases called history station
hears_nothing given phases called history station none = λ octets is. absurd (let h : None ≡ Some octets = sym none ∙ is in absurd cc)

pub use_same : (given : Given) (station : ℕ) (history after : List Event) → past_of station after ≡ past_of station history → use_at given station after ≡ use_at given station history
use_same given station history after same = ap (λ past. use_of (facts_of (setup_at given station) past)) same

pub facts_same : (given : Given) (station : ℕ) (history after : List Event) → past_of station after ≡ past_of station history → facts_at given station after ≡ facts_at given station history
facts_same given station history after same = ap (facts_of (setup_at given station)) same

pub unforged_same : (given : Given) (station : ℕ) (history after : List Event) (octets : List ℕ) → past_of station after ≡ past_of station history
    → IsUnforged (facts_at given station after) octets → IsUnforged (facts_at given station history) octets
unforged_same given station history after octets same unforged =
    subst (λ (facts : Facts). IsUnforged facts octets) (facts_same given station history after same) unforged

on_air_same : (called : Bool) (phases : ℕ) (given : Given) (history after : List Event) (sender channel : ℕ) (octets : List ℕ)
    → past_of sender after ≡ past_of sender history → OnAirIf called phases given history sender channel octets → OnAirIf called phases given after sender channel octets
on_air_same true phases given history after sender channel octets same sent =
    subst (λ (facts : Facts). IsOnAir phases facts channel octets) (sym (facts_same given sender history after same)) sent
on_air_same false phases given history after sender channel octets same sent = use_same given sender history after same ∙ sent

-- a packet on the air
packet_heard : (given : Given) (phases : ℕ) (fates : List Fate) (station channel : ℕ) (octets : List ℕ) (history : List Event) (other : ℕ) → is_in station given.stations ≡ true
    → use_at given station history ≡ Sends channel octets → unseen_in octets (hearings_of given fates station channel octets history) ≡ None
    → Hears given phases [] history other → Hears given phases [] (history ++ Transmitted station channel octets (hearings_of given fates station channel octets history) ∷ []) other
packet_heard given phases fates station channel octets history other is_one wanted seen hears =
    by (handing given fates station channel octets history other (packet_received other history) seen)
  where
    hearings : List Hearing
    hearings = hearings_of given fates station channel octets history

    event : Event
    event = Transmitted station channel octets hearings

    after : List Event
    after = history ++ event ∷ []

    handed : Option (List ℕ)
    handed = handed_or (packet_received other history) other octets hearings

    past : (one : ℕ) → past_of one after ≡ past_of one history
    past one = event_past one history event refl

    by : IsHanded (has_received other hearings) octets (packet_received other history) handed (facts_at given other history) (use_at given other history) channel (other == station)
        → Hears given phases [] after other
    by (WasReceived is as_sent) = λ sent same.
        let listener = is_listener given fates channel octets history station other is in
        let told : Some octets ≡ Some sent = sym (received_event other history event ∙ as_sent) ∙ same in
        let equal : octets ≡ sent = cc in record {
          sender = station;
          channel = channel;
          is_one = is_one;
          differs = listener.differs;
          listens = use_same given other history after (past other) ∙ listener.listens;
          sent = λ unforged. use_same given station history after (past station) ∙ wanted ∙ ap (Sends channel) equal;
        }
    by (WasForged left as_left forged listens differs) = λ sent same.
        let told : Some left ≡ Some sent = sym (received_event other history event ∙ as_left) ∙ same in
        let equal : left ≡ sent = cc in record {
          sender = station;
          channel = channel;
          is_one = is_one;
          differs = differs;
          listens = use_same given other history after (past other) ∙ listens;
          sent = λ unforged. absurd (unforged_same given other history after sent (past other) unforged
              (ap (verdict_of (facts_at given other history)) (sym equal) ∙ forged));
        }
    by (WasNot is as_before) = λ sent same.
        let heard = hears sent (sym (received_event other history event ∙ as_before) ∙ same) in record {
          sender = heard.sender;
          channel = heard.channel;
          is_one = heard.is_one;
          differs = heard.differs;
          listens = use_same given other history after (past other) ∙ heard.listens;
          sent = λ unforged. use_same given heard.sender history after (past heard.sender) ∙ heard.sent (unforged_same given other history after sent (past other) unforged);
        }

-- a station that sends hears nothing
pub sends_deaf : {phases : ℕ} → (given : Given) (called : List ℕ) (history : List Event) (station channel : ℕ) (octets : List ℕ)
    → Hears given phases called history station → use_at given station history ≡ Sends channel octets → (received : Option (List ℕ)) → packet_received station history ≡ received → received ≡ None
sends_deaf given called history station channel octets hears wanted None is = refl
sends_deaf given called history station channel octets hears wanted (Some heard) is =
    let h : Sends channel octets ≡ Listens (hears heard is).channel = sym wanted ∙ (hears heard is).listens in absurd cc

pub use_sent_at : (given : Given) → HaveAddresses given → (place : Place) (history : List Event) → AllStand given place history → (station : ℕ) → is_in station given.stations ≡ true
    → (channel : ℕ) (octets : List ℕ) → use_at given station history ≡ Sends channel octets → IsUseSent (facts_at given station history) (Sends channel octets)
use_sent_at given six place history stand station is channel octets wanted =
    subst (IsUseSent (facts_at given station history)) (wanted_is given station history ∙ wanted)
    (use_is_sent (setup_at given station) (past_of station history) (stands_at place station (turns_begun history)) (six station) (stand station is))

-- what a station wants to send that did not take yet what it heard in the phase
pub use_in_phase : (given : Given) → HaveAddresses given → (phases : ℕ) (done left : List ℕ) (history : List Event) → AllStand given (AtListening phases done left) history
    → (station : ℕ) → is_in station given.stations ≡ true → is_in station done ≡ false
    → (channel : ℕ) (octets : List ℕ) → use_at given station history ≡ Sends channel octets → IsUseInPhase phases (facts_at given station history) channel octets
use_in_phase given six phases done left history stand station is out channel octets wanted =
    let turns = turns_begun history in record {
      wants = use_sent_at given six (AtListening phases done left) history stand station is channel octets wanted;
      phase = in_phase (setup_at given station) (past_of station history) phases turns
          (stand station is ∙ ap (λ b. Some (if b then at_stage (Within (suc phases)) turns else at_stage (Within phases) turns)) out);
    }

pub own_facts : (given : Given) (station : ℕ) (step : Step) (history : List Event)
    → facts_at given station (after_call given station step history) ≡ facts_after (setup_at given station) (facts_at given station history) step
own_facts given station step history =
    let setup = setup_at given station in
    ap (facts_of setup) (past_own station step (notes_after setup (facts_at given station history) step) history) ∙ facts_more setup (past_of station history) step

pub other_facts : (given : Given) (station : ℕ) (step : Step) (history : List Event) (other : ℕ) → (other == station) ≡ false
    → facts_at given other (after_call given station step history) ≡ facts_at given other history
other_facts given station step history other differs =
    ap (facts_of (setup_at given other)) (past_other other station step (notes_after (setup_at given station) (facts_at given station history) step) history differs)

-- the sender takes what it heard, or another station does
sender_by : (given : Given) (phases : ℕ) (done : List ℕ) (station : ℕ) (history : List Event) (sender channel : ℕ) (octets : List ℕ) → is_in station done ≡ false
    → (use_at given station history ≡ Sends channel octets → IsUseInPhase phases (facts_at given station history) channel octets) → Hears given phases done history station
    → (same : Bool) → (sender == station) ≡ same → OnAirIf (is_in sender done) phases given history sender channel octets
    → OnAirIf (is_in sender (done ++ station ∷ [])) phases given (after_call given station (step_of (packet_received station history)) history) sender channel octets
sender_by given phases done station history sender channel octets out uses hears true is sent =
    let one = eqb-true sender station is in
    let received = packet_received station history in
    let after = after_call given station (step_of received) history in
    let wanted : use_at given station history ≡ Sends channel octets =
    subst (λ b. OnAirIf b phases given history station channel octets) out (subst (λ n. OnAirIf (is_in n done) phases given history n channel octets) one sent) in
    let deaf = sends_deaf given done history station channel octets hears wanted received refl in
    let own : facts_at given station after ≡ facts_after (setup_at given station) (facts_at given station history) NothingHeard =
    own_facts given station (step_of received) history ∙ ap (λ may. facts_after (setup_at given station) (facts_at given station history) (step_of may)) deaf in
    subst (λ b. OnAirIf b phases given after sender channel octets) (sym (in_more_same sender station done is))
    (subst (λ n. IsOnAir phases (facts_at given n after) channel octets) (sym one)
    (subst (λ (facts : Facts). IsOnAir phases facts channel octets) (sym own)
    (still_on_air (setup_at given station) phases (facts_at given station history) channel octets (uses wanted))))
sender_by given phases done station history sender channel octets out uses hears false is sent =
    let step = step_of (packet_received station history) in
    subst (λ b. OnAirIf b phases given (after_call given station step history) sender channel octets) (sym (in_more_other sender station done is))
    (on_air_same (is_in sender done) phases given history (after_call given station step history) sender channel octets
    (past_other sender station step (notes_after (setup_at given station) (facts_at given station history) step) history is) sent)

listener_if : (given : Given) (phases : ℕ) (done : List ℕ) (station : ℕ) (history : List Event) (other : ℕ) → is_in station done ≡ false
    → ((channel : ℕ) (octets : List ℕ) → use_at given station history ≡ Sends channel octets → IsUseInPhase phases (facts_at given station history) channel octets)
    → Hears given phases done history station → (other == station) ≡ false → (listened : Bool) → HearsIf listened given phases done history other
    → HearsIf listened given phases (done ++ station ∷ []) (after_call given station (step_of (packet_received station history)) history) other
listener_if given phases done station history other out uses hears differs true none =
    none_called given station (step_of (packet_received station history)) history other none
listener_if given phases done station history other out uses hears differs false has = λ octets is.
    let step = step_of (packet_received station history) in
    let after = after_call given station step history in
    let heard = has octets (sym (received_by given other station step history false differs) ∙ is) in record {
      sender = heard.sender;
      channel = heard.channel;
      is_one = heard.is_one;
      differs = heard.differs;
      listens = use_same given other history after (past_other other station step (notes_after (setup_at given station) (facts_at given station history) step) history differs) ∙ heard.listens;
      sent = λ unforged. sender_by given phases done station history heard.sender heard.channel octets out (uses heard.channel octets) hears (heard.sender == station) refl
          (heard.sent (unforged_same given other history after octets
          (past_other other station step (notes_after (setup_at given station) (facts_at given station history) step) history differs) unforged));
    }

listener_by : (given : Given) (phases : ℕ) (done : List ℕ) (station : ℕ) (history : List Event) (other : ℕ) → is_in station done ≡ false
    → ((channel : ℕ) (octets : List ℕ) → use_at given station history ≡ Sends channel octets → IsUseInPhase phases (facts_at given station history) channel octets)
    → Hears given phases done history station → (same : Bool) → (other == station) ≡ same → HearsIf (is_in other done) given phases done history other
    → HearsIf (is_in other (done ++ station ∷ [])) given phases (done ++ station ∷ []) (after_call given station (step_of (packet_received station history)) history) other
listener_by given phases done station history other out uses hears true is has =
    let step = step_of (packet_received station history) in
    subst (λ b. HearsIf b given phases (done ++ station ∷ []) (after_call given station step history) other) (sym (in_more_same other station done is))
    (received_by given other station step history true is)
listener_by given phases done station history other out uses hears false is has =
    subst (λ b. HearsIf b given phases (done ++ station ∷ []) (after_call given station (step_of (packet_received station history)) history) other)
    (sym (in_more_other other station done is))
    (listener_if given phases done station history other out uses hears is (is_in other done) has)

-- what a station hears whose turn it is to take it
pub own_hears : (given : Given) (phases : ℕ) (done left : List ℕ) (station : ℕ) (history : List Event) → AreDistinct given.stations → given.stations ≡ done ++ station ∷ left
    → AreHearing given (AtListening phases done (station ∷ left)) history → Hears given phases done history station
own_hears given phases done left station history distinct are hearing =
    subst (λ b. HearsIf b given phases done history station) (not_before given.stations done left station distinct are)
    (hearing.hears station (among given.stations done left station are))

pub hearing_kept : (given : Given) → HaveAddresses given → AreDistinct given.stations → IsKept given (AreHearing given)
hearing_kept given six distinct = let kept = stands_kept given distinct in record {
  on_turn = λ slot plan history begun at hearing. record {
    stand = kept.on_turn slot plan history begun at hearing.stand;
    hears = λ station is. received_event station history (TurnBegan slot (map plan.radio_of given.stations)) ∙ hearing.hears station is;
  };
  on_feed = λ plan done left station history are some now hearing. record {
    stand = kept.on_feed plan done left station history are some now hearing.stand;
    hears = λ other is. feed_none given station (take (plan.feed_of station) (octets_left given station history)) history other (hearing.hears other is);
  };
  on_fed = λ history hearing. record { stand = kept.on_fed history hearing.stand; hears = hearing.hears };
  on_begin = λ slot plan done left station history are due hearing. record {
    stand = kept.on_begin slot plan done left station history are due hearing.stand;
    hears = λ other is. none_called given station (TurnBegins slot (plan.radio_of station)) history other (hearing.hears other is);
  };
  on_begun = λ history hearing. record { stand = kept.on_begun history hearing.stand; hears = hearing.hears };
  on_phase = λ phases history few hearing. record {
    stand = kept.on_phase phases history few hearing.stand;
    hears = λ station is. hears_nothing given phases [] history station (hearing.hears station is);
  };
  on_silence = λ phases done left station history are none hearing.
      record { stand = kept.on_silence phases done left station history are none hearing.stand; hears = hearing.hears };
  on_packet = λ phases plan done left station channel octets history are some due hearing. record {
    stand = kept.on_packet phases plan done left station channel octets history are some due hearing.stand;
    hears = λ other is. packet_heard given phases plan.fates station channel octets history other (among given.stations done left station are) due.is_wanted due.is_seen
        (hearing.hears other is);
  };
  on_air = λ phases history hearing. record { stand = kept.on_air phases history hearing.stand; hears = hearing.hears };
  on_hearing = λ phases done left station history are some hearing. record {
    stand = kept.on_hearing phases done left station history are some hearing.stand;
    hears = λ other is. listener_by given phases done station history other (not_before given.stations done left station distinct are)
        (use_in_phase given six phases done (station ∷ left) history hearing.stand station (among given.stations done left station are)
        (not_before given.stations done left station distinct are))
        (own_hears given phases done left station history distinct are hearing) (other == station) refl (hearing.hears other is);
  };
  on_heard = λ phases history hearing. record {
    stand = kept.on_heard phases history hearing.stand;
    hears = λ station is. subst (λ b. HearsIf b given phases given.stations history station) is (hearing.hears station is);
  };
  on_phases = λ history hearing. record { stand = kept.on_phases history hearing.stand; hears = hearing.hears };
  on_end = λ done left station history are some hearing. record {
    stand = kept.on_end done left station history are some hearing.stand;
    hears = λ other is. none_called given station TurnEnds history other (hearing.hears other is);
  };
  on_ended = λ history hearing. record { stand = kept.on_ended history hearing.stand; hears = hearing.hears };
}
