-- The packet on the air with which a station is called: nothing happened to the station since, and nothing to the links of
-- its sender where it is a packet of a link.
use Rattle.std.proofs.Common.{◌≡◌, ℕ, ◌==◌, ◌&&◌, ◌⊎◌, inl, inr, Bool, true, false, Option, Some, None, List, [], ◌∷◌, ◌++◌, refl, sym, ap, ◌∙◌, append_assoc}
use Rattle.std.specs.Prelude.{map, take, if◌then◌else◌}
use Rattle.std.proofs.lemmas.Bool.{eqb-true}
use Rattle.ble_base.specs.declared.notes.Note.{Note}
use Rattle.journal_controls.specs.controller_model.Facts.{Facts, Sends, Setup}
use Rattle.journal_controls.specs.controller_model.Side.{facts_after, notes_after}
use Rattle.journal_controls.specs.controller_model.Step.{Step, HostOctet, NothingHeard, PacketHeard, TurnBegins, TurnEnds}
use Rattle.journal_controls.specs.run_model.Due.{Each, IsPacketDue}
use Rattle.journal_controls.specs.run_model.Feeding.{AreDistinct}
use Rattle.journal_controls.specs.run_model.History.{Called, Event, Hearing, HostFed, Noted, Transmitted, TurnBegan, handed_or, is_handed, packet_received, past_of}
use Rattle.journal_controls.specs.run_model.LinkEnds.{HaveAddresses}
use Rattle.journal_controls.specs.run_model.Links.{is_advertising}
use Rattle.journal_controls.specs.run_model.Run.{Given, after_call, after_feed, after_octets, facts_at, hearings_of, history_of, octets_left, run_of, setup_at, step_of, use_at}
use Rattle.journal_acks.proofs.run_laws.ByCalls.{first_hears}
use Rattle.journal_acks.proofs.run_laws.Hearings.{AreHearing, Hears, IsUseInPhase, facts_same, hearing_kept, own_facts, own_hears, sender_links, sends_deaf, use_in_phase, use_same}
use Rattle.journal_acks.proofs.run_laws.SentPackets.{IsUseSent}
use Rattle.journal_acks.proofs.run_laws.TurnPlaces.{event_past, stands_first}
use Rattle.journal_controls.proofs.journal_acks.AirCounts.{advertises}
use Rattle.radio_replay.specs.Damage.{damaged_packet}
use Rattle.journal_controls.proofs.run_model.Calls.{past_other}
use Rattle.journal_controls.proofs.run_model.LinkEnds.{received_by, received_event}
use Rattle.journal_controls.proofs.run_model.Places.{each_at, each_called, each_event}
use Rattle.journal_controls.proofs.run_model.Stations.{among, in_more_other, in_more_same, is_in, not_before}
use Rattle.journal_controls.proofs.run_model.Walk.{AtListening, AtPackets, IsKept, IsStopped, IsWhole, Place, ends_with, run_kept}

-- ---- what is kept

-- a station was handed this of a packet
pub record IsFromAir (given : Given) (history : List Event) (station : ℕ) (octets : List ℕ) : Type 0 where
  pub before : List Event
  pub after : List Event
  pub sender : ℕ
  pub channel : ℕ
  pub sent : List ℕ
  pub hearings : List Hearing
  pub is_at : history ≡ before ++ Transmitted sender channel sent hearings ∷ after
  pub is_one : is_in sender given.stations ≡ true
  pub is_due : IsPacketDue given before sender channel sent hearings
  pub handed : handed_or None station sent hearings ≡ Some octets
  pub own : facts_at given station history ≡ facts_at given station before
  pub far : is_advertising channel ≡ false → (facts_at given sender history).links ≡ (facts_at given sender before).links

-- its sender, if it is not among those that were called since, still wants to send it
record IsFrom (given : Given) (called : List ℕ) (history : List Event) (station : ℕ) (octets : List ℕ) : Type 0 where
  air : IsFromAir given history station octets
  wanted : is_in air.sender called ≡ false → use_at given air.sender history ≡ Sends air.channel air.sent

abbrev ComesFrom : Given → List ℕ → List Event → ℕ → Type 0
ComesFrom given called history station = (octets : List ℕ) → packet_received station history ≡ Some octets → IsFrom given called history station octets

abbrev ComesAt : Given → Place → List Event → Type 0
ComesAt given (AtPackets phases done left) history = (station : ℕ) → is_in station given.stations ≡ true → ComesFrom given [] history station
ComesAt given (AtListening phases done left) history =
    (station : ℕ) → is_in station given.stations ≡ true → is_in station done ≡ false → ComesFrom given done history station
ComesAt given place history = Unit {0}

abbrev FromIs : Given → List Event → Event → Type 0
FromIs given before (Called station (PacketHeard octets)) = IsFromAir given before station octets
FromIs given before (Called station step) = Unit {0}
FromIs given before event = Unit {0}

record AreFromAir (given : Given) (place : Place) (history : List Event) : Type 0 where
  hearing : AreHearing given place history
  comes : ComesAt given place history
  each : Each (FromIs given) [] history

-- ---- a packet on the air

-- what a station has then was of this packet, or it had it before
handed_if : (takes : Bool) (left got : List ℕ) (rest rest_none before : Option (List ℕ)) → (rest ≡ Some got → (rest_none ≡ Some got) ⊎ (before ≡ Some got))
    → (if takes then Some left else rest) ≡ Some got → ((if takes then Some left else rest_none) ≡ Some got) ⊎ (before ≡ Some got)
handed_if true left got rest rest_none before later is = inl is
handed_if false left got rest rest_none before later is = later is

handed_before : (before : Option (List ℕ)) (station : ℕ) (octets : List ℕ) (hearings : List Hearing) (got : List ℕ) → handed_or before station octets hearings ≡ Some got
    → (handed_or None station octets hearings ≡ Some got) ⊎ (before ≡ Some got)
handed_before before station octets [] got is = inr is
handed_before before station octets (hearing ∷ hearings) got is =
    handed_if ((station == hearing.listener) && is_handed hearing.verdict) (damaged_packet hearing.fate octets) got
    (handed_or before station octets hearings) (handed_or None station octets hearings) before (handed_before before station octets hearings got) is

-- more events, in which neither the station is called nor the links of the sender change
later : (given : Given) (history more : List Event) (station : ℕ) (octets : List ℕ) (air : IsFromAir given history station octets)
    → facts_at given station (history ++ more) ≡ facts_at given station history
    → (is_advertising air.channel ≡ false → (facts_at given air.sender (history ++ more)).links ≡ (facts_at given air.sender history).links)
    → IsFromAir given (history ++ more) station octets
later given history more station octets air own far = record {
  before = air.before;
  after = air.after ++ more;
  sender = air.sender;
  channel = air.channel;
  sent = air.sent;
  hearings = air.hearings;
  is_at = ap (λ events. events ++ more) air.is_at ∙ append_assoc air.before (Transmitted air.sender air.channel air.sent air.hearings ∷ air.after) more;
  is_one = air.is_one;
  is_due = air.is_due;
  handed = air.handed;
  own = own ∙ air.own;
  far = λ off. far off ∙ air.far off;
}

module _ (given : Given) (station channel : ℕ) (octets : List ℕ) (hearings : List Hearing) (history : List Event) (is : is_in station given.stations ≡ true)
    (due : IsPacketDue given history station channel octets hearings) where
  abbrev event : Event
  event = Transmitted station channel octets hearings

  abbrev next : List Event
  next = history ++ event ∷ []

  past : (one : ℕ) → past_of one next ≡ past_of one history
  past one = event_past one history event refl

  packet_comes : (other : ℕ) → ComesFrom given [] history other → ComesFrom given [] next other
  unfolding later
  packet_comes other comes = λ got received.
      by got (handed_before (packet_received other history) other octets hearings got (sym (received_event other history event) ∙ received))
    where
      by : (got : List ℕ) → (handed_or None other octets hearings ≡ Some got) ⊎ (packet_received other history ≡ Some got) → IsFrom given [] next other got
      by got (inl now) = record {
        air = record {
          before = history;
          after = [];
          sender = station;
          channel = channel;
          sent = octets;
          hearings = hearings;
          is_at = refl;
          is_one = is;
          is_due = due;
          handed = now;
          own = facts_same given other history next (past other);
          far = λ off. ap (λ (f : Facts). f.links) (facts_same given station history next (past station));
        };
        wanted = λ not_called. use_same given station history next (past station) ∙ due.is_wanted;
      }
      by got (inr earlier) =
          let from = comes got earlier in record {
            air = later given history (event ∷ []) other got from.air (facts_same given other history next (past other))
                (λ off. ap (λ (f : Facts). f.links) (facts_same given from.air.sender history next (past from.air.sender)));
            wanted = λ not_called. use_same given from.air.sender history next (past from.air.sender) ∙ from.wanted not_called;
          }

-- ---- a station takes what it heard

-- the links of a sender stay as it takes that it heard nothing
sender_keeps : (setup : Setup) (phases : ℕ) (facts : Facts) (channel : ℕ) (octets : List ℕ) → IsUseInPhase phases facts channel octets → is_advertising channel ≡ false
    → (facts_after setup facts NothingHeard).links ≡ facts.links
sender_keeps setup phases facts channel octets uses off = by uses.wants
  where
    by : IsUseSent facts (Sends channel octets) → (facts_after setup facts NothingHeard).links ≡ facts.links
    by (inl sent) = absurd (advertises channel sent.on_channel off)
    by (inr sent) = sender_links facts sent.handle facts.turn.doing sent.sends

module _ (given : Given) (phases : ℕ) (done : List ℕ) (station : ℕ) (history : List Event) (out : is_in station done ≡ false)
    (uses : (channel : ℕ) (octets : List ℕ) → use_at given station history ≡ Sends channel octets → IsUseInPhase phases (facts_at given station history) channel octets)
    (hears : Hears given phases done history station) where
  abbrev received : Option (List ℕ)
  received = packet_received station history

  abbrev called : List Event
  called = after_call given station (step_of received) history

  abbrev notes : List Note
  notes = notes_after (setup_at given station) (facts_at given station history) (step_of received)

  abbrev call : List Event
  call = Called station (step_of received) ∷ map (Noted station) notes

  other_same : (other : ℕ) → (other == station) ≡ false → facts_at given other called ≡ facts_at given other history
  other_same other differs = facts_same given other history called (past_other other station (step_of received) notes history differs)

  -- that of the station itself, if it is the sender
  sender_stays : (sender channel : ℕ) (octets : List ℕ) (same : Bool) → (sender == station) ≡ same
      → (is_in sender done ≡ false → use_at given sender history ≡ Sends channel octets) → is_advertising channel ≡ false
      → (facts_at given sender called).links ≡ (facts_at given sender history).links
  sender_stays sender channel octets true is wanted off =
      let one = eqb-true sender station is in
      let sends : use_at given station history ≡ Sends channel octets =
      ap (λ n. use_at given n history) (sym one) ∙ wanted (ap (λ n. is_in n done) one ∙ out) in
      let deaf = sends_deaf given done history station channel octets hears sends received refl in
      let own = own_facts given station (step_of received) history
      ∙ ap (λ may. facts_after (setup_at given station) (facts_at given station history) (step_of may)) deaf in
      ap (λ n. (facts_at given n called).links) one
      ∙ ap (λ (f : Facts). f.links) own
      ∙ sender_keeps (setup_at given station) phases (facts_at given station history) channel octets (uses channel octets sends) off
      ∙ ap (λ n. (facts_at given n history).links) (sym one)
  sender_stays sender channel octets false differs wanted off = ap (λ (f : Facts). f.links) (other_same sender differs)

  still_wants : (sender channel : ℕ) (octets : List ℕ) (same : Bool) → (sender == station) ≡ same
      → (is_in sender done ≡ false → use_at given sender history ≡ Sends channel octets) → is_in sender (done ++ station ∷ []) ≡ false
      → use_at given sender called ≡ Sends channel octets
  still_wants sender channel octets true is wanted none = absurd (let h : true ≡ false = sym (in_more_same sender station done is) ∙ none in absurd cc)
  still_wants sender channel octets false differs wanted none =
      use_same given sender history called (past_other sender station (step_of received) notes history differs)
      ∙ wanted (sym (in_more_other sender station done differs) ∙ none)

  listener_comes : (other : ℕ) → (other == station) ≡ false → ComesFrom given done history other → ComesFrom given (done ++ station ∷ []) called other
  unfolding later
  listener_comes other differs comes = λ got is.
      let from = comes got (sym (received_by given other station (step_of received) history false differs) ∙ is) in
      let air = from.air in record {
        air = later given history call other got air (other_same other differs) (sender_stays air.sender air.channel air.sent (air.sender == station) refl from.wanted);
        wanted = still_wants air.sender air.channel air.sent (air.sender == station) refl from.wanted;
      }

-- one that is not among those that were called and this one
not_called : (done : List ℕ) (station other : ℕ) → is_in other (done ++ station ∷ []) ≡ false → (same : Bool) → (other == station) ≡ same → same ≡ false
not_called done station other out true is = absurd (let h : true ≡ false = sym (in_more_same other station done is) ∙ out in absurd cc)
not_called done station other out false is = refl

-- the call of a station
call_from : (given : Given) (done : List ℕ) (station : ℕ) (history : List Event) → ComesFrom given done history station → (received : Option (List ℕ))
    → packet_received station history ≡ received → FromIs given history (Called station (step_of received))
call_from given done station history comes None is = tt
call_from given done station history comes (Some octets) is = (comes octets is).air

-- ---- each step

any_called : (given : Given) (station : ℕ) (step : Step) (history : List Event) → FromIs given history (Called station step) → Each (FromIs given) [] history
    → Each (FromIs given) [] (after_call given station step history)
any_called given station step history is each =
    each_called (FromIs given) station step (notes_after (setup_at given station) (facts_at given station history) step) history each is (λ before note. tt)

octets_each : (given : Given) (station : ℕ) (octets : List ℕ) (history : List Event) → Each (FromIs given) [] history → Each (FromIs given) [] (after_octets given station octets history)
octets_each given station [] history each = each
octets_each given station (octet ∷ octets) history each =
    octets_each given station octets (after_call given station (HostOctet octet) history) (any_called given station (HostOctet octet) history tt each)

feed_each : (given : Given) (station : ℕ) (octets : List ℕ) (history : List Event) → Each (FromIs given) [] history → Each (FromIs given) [] (after_feed given station octets history)
feed_each given station [] history each = each
feed_each given station (octet ∷ octets) history each =
    octets_each given station (octet ∷ octets) (history ++ HostFed station (octet ∷ octets) ∷ []) (each_event (FromIs given) history (HostFed station (octet ∷ octets)) each tt)

nothing_comes : (given : Given) (called : List ℕ) (history : List Event) (station : ℕ) → packet_received station history ≡ None → ComesFrom given called history station
nothing_comes given called history station none = λ octets is. absurd (let h : None ≡ Some octets = sym none ∙ is in absurd cc)

air_kept : (given : Given) → HaveAddresses given → AreDistinct given.stations → IsKept given (AreFromAir given)
air_kept given six distinct = let kept = hearing_kept given six distinct in record {
  on_turn = λ slot plan history begun at has. record {
    hearing = kept.on_turn slot plan history begun at has.hearing;
    comes = tt;
    each = each_event (FromIs given) history (TurnBegan slot (map plan.radio_of given.stations)) has.each tt;
  };
  on_feed = λ plan done left station history are some now has. record {
    hearing = kept.on_feed plan done left station history are some now has.hearing;
    comes = tt;
    each = feed_each given station (take (plan.feed_of station) (octets_left given station history)) history has.each;
  };
  on_fed = λ history has. record { hearing = kept.on_fed history has.hearing; comes = tt; each = has.each };
  on_begin = λ slot plan done left station history are due has. record {
    hearing = kept.on_begin slot plan done left station history are due has.hearing;
    comes = tt;
    each = any_called given station (TurnBegins slot (plan.radio_of station)) history tt has.each;
  };
  on_begun = λ history has. record { hearing = kept.on_begun history has.hearing; comes = tt; each = has.each };
  on_phase = λ phases history few has. record {
    hearing = kept.on_phase phases history few has.hearing;
    comes = λ station is. nothing_comes given [] history station (has.hearing.hears station is);
    each = has.each;
  };
  on_silence = λ phases done left station history are none has.
      record { hearing = kept.on_silence phases done left station history are none has.hearing; comes = has.comes; each = has.each };
  on_packet = λ phases plan done left station channel octets history are some due has.
      let hearings = hearings_of given plan.fates station channel octets history in record {
        hearing = kept.on_packet phases plan done left station channel octets history are some due has.hearing;
        comes = λ other in_it. packet_comes given station channel octets hearings history (among given.stations done left station are) due other (has.comes other in_it);
        each = each_event (FromIs given) history (Transmitted station channel octets hearings) has.each tt;
      };
  on_air = λ phases history has. record {
    hearing = kept.on_air phases history has.hearing;
    comes = λ station in_it out. has.comes station in_it;
    each = has.each;
  };
  on_hearing = λ phases done left station history are some has.
      let out = not_before given.stations done left station distinct are in
      let is = among given.stations done left station are in record {
        hearing = kept.on_hearing phases done left station history are some has.hearing;
        comes = λ other in_it not_yet.
            let differs = not_called done station other not_yet (other == station) refl in
            listener_comes given phases done station history out (use_in_phase given six phases done (station ∷ left) history has.hearing.stand station is out)
            (own_hears given phases done left station history distinct are has.hearing) other differs
            (has.comes other in_it (sym (in_more_other other station done differs) ∙ not_yet));
        each = any_called given station (step_of (packet_received station history)) history
            (call_from given done station history (has.comes station is out) (packet_received station history) refl) has.each;
      };
  on_heard = λ phases history has. record { hearing = kept.on_heard phases history has.hearing; comes = tt; each = has.each };
  on_phases = λ history has. record { hearing = kept.on_phases history has.hearing; comes = tt; each = has.each };
  on_end = λ done left station history are some has. record {
    hearing = kept.on_end done left station history are some has.hearing;
    comes = tt;
    each = any_called given station TurnEnds history tt has.each;
  };
  on_ended = λ history has. record { hearing = kept.on_ended history has.hearing; comes = tt; each = has.each };
}

pub from_air : (given : Given) → HaveAddresses given → AreDistinct given.stations → (before rest : List Event) (station : ℕ) (octets : List ℕ)
    → history_of (run_of given) ≡ before ++ Called station (PacketHeard octets) ∷ rest → IsFromAir given before station octets
from_air given six distinct before rest station octets at =
    each_at (FromIs given) (history_of (run_of given)) before rest (Called station (PacketHeard octets))
    (ends_with (run_of given) (IsWhole given (AreFromAir given)) (IsStopped given (AreFromAir given)) (Each (FromIs given) [])
    (run_kept given (AreFromAir given) (air_kept given six distinct)
    (record { hearing = record { stand = stands_first given; hears = λ one is. first_hears given one }; comes = tt; each = tt }))
    (λ history whole. whole.is.each) (λ history stop stopped. stopped.kept.each)) at
