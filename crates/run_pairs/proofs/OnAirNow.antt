-- What a station of a run hears in a phase was sent by another one in the same turn.
use Rattle.std.proofs.Common.{◌≡◌, ℕ, suc, ◌==◌, ◌⊎◌, inl, inr, Bool, true, false, Option, Some, None, List, [], ◌∷◌, ◌++◌, refl, sym, ap, subst, ◌∙◌}
use Rattle.std.specs.Prelude.{map, take, if◌then◌else◌}
use Rattle.std.proofs.lemmas.Bool.{eqb-true}
use Rattle.link_calls.specs.link_model.Packets.{packet_sent}
use Rattle.link_calls.specs.link_model.Step.{PacketSent}
use Rattle.link_calls.specs.open_links.OpenLinks.{OpenLink, facts_in, link_after, link_at}
use Rattle.link_calls.specs.controller_model.Facts.{Setup, Facts, Sends, Listens}
use Rattle.link_calls.specs.controller_model.Side.{facts_after, notes_after}
use Rattle.link_calls.specs.controller_model.Step.{Step, HostOctet, TurnBegins, PacketHeard, NothingHeard, TurnEnds}
use Rattle.link_calls.specs.run_model.Due.{Each}
use Rattle.link_calls.specs.run_model.Feeding.{AreDistinct}
use Rattle.link_calls.specs.run_model.History.{Event, TurnBegan, HostFed, Called, Transmitted, packet_received, past_of, turns_begun}
use Rattle.link_calls.specs.run_model.LinkEnds.{HaveAddresses}
use Rattle.link_calls.specs.run_model.Run.{Given, after_call, after_feed, after_octets, facts_at, hearings_of, history_of, octets_left, run_of, setup_at, step_of, use_at}
use Rattle.link_calls.proofs.run_model.Calls.{past_other}
use Rattle.link_calls.proofs.run_model.Handing.{IsUnforged}
use Rattle.link_calls.proofs.run_model.LinkEnds.{received_by, wanted_is}
use Rattle.link_calls.proofs.run_model.Places.{each_at, each_called, each_event}
use Rattle.link_calls.proofs.run_model.Stations.{among, in_more_other, in_more_same, is_in, not_before}
use Rattle.link_calls.proofs.run_model.Walk.{AtListening, IsKept, IsStopped, IsWhole, Place, ends_with, run_kept}
use Rattle.link_calls.proofs.run_laws.ByCalls.{first_hears}
use Rattle.link_calls.proofs.run_laws.Hearings.{AreHearing, Hears, IsPduOnAir, IsUseInPhase, facts_same, hearing_kept, own_facts, own_hears, sender_links, sends_deaf, unforged_same, use_in_phase, use_same}
use Rattle.link_calls.proofs.run_laws.LinkPhases.{IsInPhase, SendsAs, in_phase, sends_as}
use Rattle.link_calls.proofs.run_laws.SentPackets.{IsLinkSent, IsUseSent}
use Rattle.link_calls.proofs.run_laws.TurnPlaces.{Within, at_stage, stands_first}
use Rattle.link_calls.proofs.run_laws.TurnSteps.{phase_turn}

-- the packet of a link that is open at its sender, which sent it in this turn
pub record IsLinkOnAirNow (phases : ℕ) (facts : Facts) (channel : ℕ) (octets : List ℕ) : Type 0 where
  pub handle : ℕ
  pub link : OpenLink
  pub is_open : link_at handle facts.links ≡ Some (link_after (PacketSent facts.turn.slot) link)
  pub packet : octets ≡ packet_sent link.setup (facts_in link)
  pub channel_is : channel ≡ (facts_in link).event.channel
  pub role : SendsAs phases link.setup.link.role

abbrev pub IsOnAirNow : ℕ → Facts → ℕ → List ℕ → Type 0
IsOnAirNow phases facts channel octets = IsPduOnAir channel octets ⊎ IsLinkOnAirNow phases facts channel octets

link_now : (phases : ℕ) (facts : Facts) (channel : ℕ) (octets : List ℕ) → IsUseInPhase phases facts channel octets → IsLinkSent facts channel octets
    → IsLinkOnAirNow phases facts channel octets
link_now phases facts channel octets uses sent = record {
  handle = sent.handle;
  link = sent.link;
  is_open = sent.is_open;
  packet = sent.packet;
  channel_is = sent.channel_is;
  role = sends_as phases sent.handle facts.links facts.turn.doing (link_after (PacketSent facts.turn.slot) sent.link) uses.phase sent.sends sent.is_open;
}

on_air_now : (phases : ℕ) (facts : Facts) (channel : ℕ) (octets : List ℕ) → IsUseInPhase phases facts channel octets → IsOnAirNow phases facts channel octets
on_air_now phases facts channel octets uses = by uses.wants
  where
    by : IsUseSent facts (Sends channel octets) → IsOnAirNow phases facts channel octets
    by (inl sent) = inl (record { pdu = sent.pdu; is_pdu = sent.is_pdu; packet = sent.packet; on_channel = sent.on_channel; ch_sel = sent.ch_sel })
    by (inr sent) = inr (link_now phases facts channel octets uses sent)

-- as the sender takes that it heard nothing, its links stay as they are
still_now : (setup : Setup) (phases : ℕ) (facts : Facts) (channel : ℕ) (octets : List ℕ) → IsUseInPhase phases facts channel octets
    → IsOnAirNow phases (facts_after setup facts NothingHeard) channel octets
still_now setup phases facts channel octets uses = by uses.wants
  where
    by : IsUseSent facts (Sends channel octets) → IsOnAirNow phases (facts_after setup facts NothingHeard) channel octets
    by (inl sent) = inl (record { pdu = sent.pdu; is_pdu = sent.is_pdu; packet = sent.packet; on_channel = sent.on_channel; ch_sel = sent.ch_sel })
    by (inr sent) =
        let now = link_now phases facts channel octets uses sent in inr (record {
          handle = now.handle;
          link = now.link;
          is_open = ap (link_at now.handle) (sender_links facts sent.handle facts.turn.doing sent.sends) ∙ now.is_open
              ∙ ap (λ n. Some (link_after (PacketSent n) now.link)) (sym (phase_turn setup facts None).slot);
          packet = now.packet;
          channel_is = now.channel_is;
          role = now.role;
        })

-- ---- what is heard

abbrev AirIf : Bool → ℕ → Given → List Event → ℕ → ℕ → List ℕ → Type 0
AirIf true phases given history sender channel octets = IsOnAirNow phases (facts_at given sender history) channel octets
AirIf false phases given history sender channel octets = use_at given sender history ≡ Sends channel octets

record IsHeardSo (given : Given) (phases : ℕ) (called : List ℕ) (history : List Event) (station : ℕ) (octets : List ℕ) : Type 0 where
  sender : ℕ
  channel : ℕ
  is_one : is_in sender given.stations ≡ true
  differs : (station == sender) ≡ false
  listens : use_at given station history ≡ Listens channel
  -- one that is forged to the station may be damaged
  sent : IsUnforged (facts_at given station history) octets → AirIf (is_in sender called) phases given history sender channel octets

abbrev HearsSo : Given → ℕ → List ℕ → List Event → ℕ → Type 0
HearsSo given phases called history station =
    (octets : List ℕ) → packet_received station history ≡ Some octets → IsHeardSo given phases called history station octets

abbrev NowAt : Given → Place → List Event → Type 0
NowAt given (AtListening phases done left) history =
    (station : ℕ) → is_in station given.stations ≡ true → is_in station done ≡ false → HearsSo given phases done history station
NowAt given place history = Unit {0}

-- what a station hears in a call was sent in this turn
pub record WasSentNow (given : Given) (before : List Event) (station : ℕ) (octets : List ℕ) : Type 0 where
  pub phases : ℕ
  pub sender : ℕ
  pub channel : ℕ
  pub is_one : is_in sender given.stations ≡ true
  pub differs : (station == sender) ≡ false
  pub listens : (facts_at given station before).wanted ≡ Listens channel
  pub phase : IsInPhase phases (facts_at given station before).links (facts_at given station before).turn.doing
  -- one that is forged to the station may be damaged
  pub sent : IsUnforged (facts_at given station before) octets → IsOnAirNow phases (facts_at given sender before) channel octets

abbrev SentIs : Given → List Event → Event → Type 0
SentIs given before (Called station (PacketHeard octets)) = WasSentNow given before station octets
SentIs given before (Called station step) = Unit {0}
SentIs given before event = Unit {0}

record AreSentNow (given : Given) (place : Place) (history : List Event) : Type 0 where
  hearing : AreHearing given place history
  now : NowAt given place history
  each : Each (SentIs given) [] history

-- ---- steps

air_same : (called : Bool) (phases : ℕ) (given : Given) (history after : List Event) (sender channel : ℕ) (octets : List ℕ)
    → past_of sender after ≡ past_of sender history → AirIf called phases given history sender channel octets → AirIf called phases given after sender channel octets
air_same true phases given history after sender channel octets same sent =
    subst (λ (facts : Facts). IsOnAirNow phases facts channel octets) (sym (facts_same given sender history after same)) sent
air_same false phases given history after sender channel octets same sent = use_same given sender history after same ∙ sent

sender_by : (given : Given) (phases : ℕ) (done : List ℕ) (station : ℕ) (history : List Event) (sender channel : ℕ) (octets : List ℕ) → is_in station done ≡ false
    → (use_at given station history ≡ Sends channel octets → IsUseInPhase phases (facts_at given station history) channel octets) → Hears given phases done history station
    → (same : Bool) → (sender == station) ≡ same → AirIf (is_in sender done) phases given history sender channel octets
    → AirIf (is_in sender (done ++ station ∷ [])) phases given (after_call given station (step_of (packet_received station history)) history) sender channel octets
sender_by given phases done station history sender channel octets out uses hears true is sent =
    let one = eqb-true sender station is in
    let received = packet_received station history in
    let after = after_call given station (step_of received) history in
    let wanted : use_at given station history ≡ Sends channel octets =
    subst (λ b. AirIf b phases given history station channel octets) out (subst (λ n. AirIf (is_in n done) phases given history n channel octets) one sent) in
    let deaf = sends_deaf given done history station channel octets hears wanted received refl in
    let own : facts_at given station after ≡ facts_after (setup_at given station) (facts_at given station history) NothingHeard =
    own_facts given station (step_of received) history ∙ ap (λ may. facts_after (setup_at given station) (facts_at given station history) (step_of may)) deaf in
    subst (λ b. AirIf b phases given after sender channel octets) (sym (in_more_same sender station done is))
    (subst (λ n. IsOnAirNow phases (facts_at given n after) channel octets) (sym one)
    (subst (λ (facts : Facts). IsOnAirNow phases facts channel octets) (sym own)
    (still_now (setup_at given station) phases (facts_at given station history) channel octets (uses wanted))))
sender_by given phases done station history sender channel octets out uses hears false is sent =
    let step = step_of (packet_received station history) in
    subst (λ b. AirIf b phases given (after_call given station step history) sender channel octets) (sym (in_more_other sender station done is))
    (air_same (is_in sender done) phases given history (after_call given station step history) sender channel octets
    (past_other sender station step (notes_after (setup_at given station) (facts_at given station history) step) history is) sent)

listener_so : (given : Given) (phases : ℕ) (done : List ℕ) (station : ℕ) (history : List Event) (other : ℕ) → is_in station done ≡ false
    → ((channel : ℕ) (octets : List ℕ) → use_at given station history ≡ Sends channel octets → IsUseInPhase phases (facts_at given station history) channel octets)
    → Hears given phases done history station → (other == station) ≡ false → HearsSo given phases done history other
    → HearsSo given phases (done ++ station ∷ []) (after_call given station (step_of (packet_received station history)) history) other
listener_so given phases done station history other out uses hears differs has = λ octets is.
    let step = step_of (packet_received station history) in
    let after = after_call given station step history in
    let heard = has octets (sym (received_by given other station step history false differs) ∙ is) in record {
      sender = heard.sender;
      channel = heard.channel;
      is_one = heard.is_one;
      differs = heard.differs;
      listens = use_same given other history after (past_other other station step (notes_after (setup_at given station) (facts_at given station history) step) history differs) ∙ heard.listens;
      sent = λ unforged. sender_by given phases done station history heard.sender heard.channel octets out (uses heard.channel octets) hears (heard.sender == station) refl
          (heard.sent (unforged_same given other history after octets
          (past_other other station step (notes_after (setup_at given station) (facts_at given station history) step) history differs) unforged));
    }

-- one that is not among those that were called and this one
not_called : (given : Given) (done : List ℕ) (station other : ℕ) → is_in other (done ++ station ∷ []) ≡ false → (same : Bool) → (other == station) ≡ same → same ≡ false
not_called given done station other out true is = absurd (let h : true ≡ false = sym (in_more_same other station done is) ∙ out in absurd cc)
not_called given done station other out false is = refl

call_sent : (given : Given) (station : ℕ) (step : Step) (history : List Event) → SentIs given history (Called station step) → Each (SentIs given) [] history
    → Each (SentIs given) [] (after_call given station step history)
call_sent given station step history is each =
    each_called (SentIs given) station step (notes_after (setup_at given station) (facts_at given station history) step) history each is (λ before note. tt)

octets_each : (given : Given) (station : ℕ) (octets : List ℕ) (history : List Event) → Each (SentIs given) [] history → Each (SentIs given) [] (after_octets given station octets history)
octets_each given station [] history each = each
octets_each given station (octet ∷ octets) history each =
    octets_each given station octets (after_call given station (HostOctet octet) history) (call_sent given station (HostOctet octet) history tt each)

feed_each : (given : Given) (station : ℕ) (octets : List ℕ) (history : List Event) → Each (SentIs given) [] history → Each (SentIs given) [] (after_feed given station octets history)
feed_each given station [] history each = each
feed_each given station (octet ∷ octets) history each =
    octets_each given station (octet ∷ octets) (history ++ HostFed station (octet ∷ octets) ∷ []) (each_event (SentIs given) history (HostFed station (octet ∷ octets)) each tt)

-- the call of a station that hears
heard_now : (given : Given) → HaveAddresses given → (phases : ℕ) (done left : List ℕ) (station : ℕ) (history : List Event)
    → AreHearing given (AtListening phases done left) history → HearsSo given phases done history station → is_in station given.stations ≡ true → is_in station done ≡ false
    → (received : Option (List ℕ)) → packet_received station history ≡ received → SentIs given history (Called station (step_of received))
heard_now given six phases done left station history hearing hears is_one out None is = tt
heard_now given six phases done left station history hearing hears is_one out (Some octets) is =
    let heard = hears octets is in record {
      phases = phases;
      sender = heard.sender;
      channel = heard.channel;
      is_one = heard.is_one;
      differs = heard.differs;
      listens = wanted_is given station history ∙ heard.listens;
      phase = in_phase (setup_at given station) (past_of station history) phases (turns_begun history)
          (hearing.stand station is_one
          ∙ ap (λ b. Some (if b then at_stage (Within (suc phases)) (turns_begun history) else at_stage (Within phases) (turns_begun history))) out);
      sent = λ unforged. by (is_in heard.sender done) heard.sender heard.channel heard.is_one refl (heard.sent unforged);
    }
  where
    by : (called : Bool) (sender channel : ℕ) → is_in sender given.stations ≡ true → is_in sender done ≡ called → AirIf called phases given history sender channel octets
        → IsOnAirNow phases (facts_at given sender history) channel octets
    by true sender channel is_one was sent = sent
    by false sender channel is_one was sent =
        on_air_now phases (facts_at given sender history) channel octets
        (use_in_phase given six phases done left history hearing.stand sender is_one was channel octets sent)

sent_kept : (given : Given) → HaveAddresses given → AreDistinct given.stations → IsKept given (AreSentNow given)
sent_kept given six distinct = let kept = hearing_kept given six distinct in record {
  on_turn = λ slot plan history begun at has. record {
    hearing = kept.on_turn slot plan history begun at has.hearing;
    now = tt;
    each = each_event (SentIs given) history (TurnBegan slot (map plan.radio_of given.stations)) has.each tt;
  };
  on_feed = λ plan done left station history are some now has. record {
    hearing = kept.on_feed plan done left station history are some now has.hearing;
    now = tt;
    each = feed_each given station (take (plan.feed_of station) (octets_left given station history)) history has.each;
  };
  on_fed = λ history has. record { hearing = kept.on_fed history has.hearing; now = tt; each = has.each };
  on_begin = λ slot plan done left station history are due has. record {
    hearing = kept.on_begin slot plan done left station history are due has.hearing;
    now = tt;
    each = call_sent given station (TurnBegins slot (plan.radio_of station)) history tt has.each;
  };
  on_begun = λ history has. record { hearing = kept.on_begun history has.hearing; now = tt; each = has.each };
  on_phase = λ phases history few has. record { hearing = kept.on_phase phases history few has.hearing; now = tt; each = has.each };
  on_silence = λ phases done left station history are none has.
      record { hearing = kept.on_silence phases done left station history are none has.hearing; now = tt; each = has.each };
  on_packet = λ phases plan done left station channel octets history are some due has. record {
    hearing = kept.on_packet phases plan done left station channel octets history are some due has.hearing;
    now = tt;
    each = each_event (SentIs given) history (Transmitted station channel octets (hearings_of given plan.fates station channel octets history)) has.each tt;
  };
  on_air = λ phases history has.
      let hearing = kept.on_air phases history has.hearing in record {
        hearing = hearing;
        now = λ station is out octets got.
            let heard = hearing.hears station is octets got in record {
              sender = heard.sender;
              channel = heard.channel;
              is_one = heard.is_one;
              differs = heard.differs;
              listens = heard.listens;
              sent = heard.sent;
            };
        each = has.each;
      };
  on_hearing = λ phases done left station history are some has.
      let out = not_before given.stations done left station distinct are in
      let is = among given.stations done left station are in record {
        hearing = kept.on_hearing phases done left station history are some has.hearing;
        now = λ other in_it not_yet.
            let differs = not_called given done station other not_yet (other == station) refl in
            listener_so given phases done station history other out
            (use_in_phase given six phases done (station ∷ left) history has.hearing.stand station is out)
            (own_hears given phases done left station history distinct are has.hearing) differs
            (has.now other in_it (sym (in_more_other other station done differs) ∙ not_yet));
        each = call_sent given station (step_of (packet_received station history)) history
            (heard_now given six phases done (station ∷ left) station history has.hearing (has.now station is out) is out (packet_received station history) refl) has.each;
      };
  on_heard = λ phases history has. record { hearing = kept.on_heard phases history has.hearing; now = tt; each = has.each };
  on_phases = λ history has. record { hearing = kept.on_phases history has.hearing; now = tt; each = has.each };
  on_end = λ done left station history are some has. record {
    hearing = kept.on_end done left station history are some has.hearing;
    now = tt;
    each = call_sent given station TurnEnds history tt has.each;
  };
  on_ended = λ history has. record { hearing = kept.on_ended history has.hearing; now = tt; each = has.each };
}

pub sent_now : (given : Given) → HaveAddresses given → AreDistinct given.stations → (before rest : List Event) (station : ℕ) (octets : List ℕ)
    → history_of (run_of given) ≡ before ++ Called station (PacketHeard octets) ∷ rest → WasSentNow given before station octets
sent_now given six distinct before rest station octets at =
    each_at (SentIs given) (history_of (run_of given)) before rest (Called station (PacketHeard octets))
    (ends_with (run_of given) (IsWhole given (AreSentNow given)) (IsStopped given (AreSentNow given)) (Each (SentIs given) [])
    (run_kept given (AreSentNow given) (sent_kept given six distinct)
    (record { hearing = record { stand = stands_first given; hears = λ one is. first_hears given one }; now = tt; each = tt }))
    (λ history whole. whole.is.each) (λ history stop stopped. stopped.kept.each)) at
