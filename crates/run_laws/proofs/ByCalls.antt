-- What each call on a controller of a run keeps of all its stations holds at any time of the run.
use Rattle.std.proofs.Common.{◌≡◌, ℕ, suc, ◌+◌, ◌-◌, ◌==◌, Bool, true, false, Option, Some, None, List, [], ◌∷◌, ◌++◌, refl, sym, ap, subst, ◌∙◌, append-nil, append_assoc, arith}
use Rattle.std.specs.Prelude.{map, take, if◌then◌else◌}
use mathlib.Core.Path.{fun_ext}
use Rattle.ble_base.specs.declared.notes.Note.{Note}
use Rattle.run_model.specs.controller_model.Step.{Step, HostOctet, TurnBegins, TurnEnds}
use Rattle.run_model.specs.controller_model.Facts.{Facts, Listens, first_facts}
use Rattle.run_model.specs.controller_model.Side.{facts_after, facts_of, notes_after}
use Rattle.run_model.specs.Due.{Each}
use Rattle.run_model.specs.Feeding.{AreDistinct}
use Rattle.run_model.specs.History.{Event, TurnBegan, HostFed, Called, Noted, Transmitted, past_of, packet_received, steps_in, turns_begun}
use Rattle.run_model.specs.LinkEnds.{HaveAddresses}
use Rattle.run_model.specs.Run.{Given, setup_at, facts_at, octets_left, after_call, after_octets, after_feed, hearings_of, step_of, run_of, history_of}
use Rattle.run_model.proofs.Handing.{IsUnforged}
use Rattle.run_model.proofs.LinkEnds.{wanted_is}
use Rattle.run_model.proofs.Places.{each_at, each_event}
use Rattle.run_model.proofs.Stations.{is_in, among, not_before}
use Rattle.run_model.proofs.Walk.{Place, AtBegins, AtListening, IsKept, IsWhole, IsStopped, ends_with, run_kept}
use Rattle.run_laws.proofs.Entering.{IsInTurn, turn_first, turn_kept}
use Rattle.run_laws.proofs.Hearings.{AreHearing, IsOnAir, OnAirIf, hearing_kept, on_air, other_facts, own_facts, own_hears, use_in_phase}
use Rattle.run_laws.proofs.TurnPlaces.{AllStand, Between, Standing, Within, at_stage, event_past, stands_at, stands_first, turned}

-- ---- a call, as it changes what the stations hold

pub record IsCalled (given : Given) (station : ℕ) (step : Step) (before after : ℕ → Facts) : Type 0 where
  pub is_one : is_in station given.stations ≡ true
  pub own : after station ≡ facts_after (setup_at given station) (before station) step
  pub others : (other : ℕ) → (other == station) ≡ false → after other ≡ before other

-- what it received was on the air: a packet of another station, on the channel on which it listens
pub record WasSent (given : Given) (phases : ℕ) (before : ℕ → Facts) (station : ℕ) (octets : List ℕ) : Type 0 where
  pub sender : ℕ
  pub channel : ℕ
  pub is_one : is_in sender given.stations ≡ true
  pub differs : (station == sender) ≡ false
  pub listens : (before station).wanted ≡ Listens channel
  -- one that is forged to the station may be damaged
  pub sent : IsUnforged (before station) octets → IsOnAir phases (before sender) channel octets

pub record IsKeptByCalls (given : Given) (M : (ℕ → Facts) → Type 0) : Type 0 where
  pub feeds : (station octet : ℕ) (before after : ℕ → Facts) → IsCalled given station (HostOctet octet) before after → M before → M after
  pub begins : (station slot : ℕ) (on : Bool) (before after : ℕ → Facts) → IsCalled given station (TurnBegins slot on) before after
      → IsInTurn (setup_at given station) Between slot (before station) → M before → M after
  pub passes : (station phases turns : ℕ) (received : Option (List ℕ)) (before after : ℕ → Facts) → IsCalled given station (step_of received) before after
      → IsInTurn (setup_at given station) (Within phases) turns (before station)
      → ((other : ℕ) → is_in other given.stations ≡ true → (before other).turn.slot + 1 ≡ turns)
      → ((octets : List ℕ) → received ≡ Some octets → WasSent given phases before station octets) → M before → M after
  pub ends : (station : ℕ) (before after : ℕ → Facts) → IsCalled given station TurnEnds before after → M before → M after

abbrev pub all_facts : Given → List Event → ℕ → Facts
all_facts given history station = facts_at given station history

called_facts : (given : Given) (station : ℕ) (step : Step) (history : List Event) → is_in station given.stations ≡ true
    → IsCalled given station step (all_facts given history) (all_facts given (after_call given station step history))
called_facts given station step history is = record {
  is_one = is;
  own = own_facts given station step history;
  others = λ other differs. other_facts given station step history other differs;
}

-- ---- at each place

abbrev pub HeldBefore : Given → ((ℕ → Facts) → Type 0) → List Event → Event → Type 0
HeldBefore given M before event = M (all_facts given before)

pub record HoldsSoFar (given : Given) (M : (ℕ → Facts) → Type 0) (history : List Event) : Type 0 where
  pub each : Each (HeldBefore given M) [] history
  pub last : M (all_facts given history)

pub record Holds (given : Given) (M : (ℕ → Facts) → Type 0) (place : Place) (history : List Event) : Type 0 where
  pub hearing : AreHearing given place history
  pub so_far : HoldsSoFar given M history

pub same_facts : (given : Given) (history : List Event) (event : Event) → ((station : ℕ) → steps_in station event ≡ []) → all_facts given (history ++ event ∷ []) ≡ all_facts given history
same_facts given history event none = fun_ext (λ station. ap (facts_of (setup_at given station)) (event_past station history event (none station)))

module _ (given : Given) (M : (ℕ → Facts) → Type 0) where
  event_holds : (history : List Event) (event : Event) → ((station : ℕ) → steps_in station event ≡ []) → HoldsSoFar given M history → HoldsSoFar given M (history ++ event ∷ [])
  event_holds history event none so_far = record {
    each = each_event (HeldBefore given M) history event so_far.each so_far.last;
    last = subst M (sym (same_facts given history event none)) so_far.last;
  }

  notes_hold : (station : ℕ) (notes : List Note) (history : List Event) → HoldsSoFar given M history → HoldsSoFar given M (history ++ map (Noted station) notes)
  notes_hold station [] history so_far = subst (HoldsSoFar given M) (sym (append-nil history)) so_far
  notes_hold station (note ∷ notes) history so_far =
      subst (HoldsSoFar given M) (append_assoc history (Noted station note ∷ []) (map (Noted station) notes))
      (notes_hold station notes (history ++ Noted station note ∷ []) (event_holds history (Noted station note) (λ other. refl) so_far))

  notes_same : (station : ℕ) (notes : List Note) (history : List Event) → all_facts given (history ++ map (Noted station) notes) ≡ all_facts given history
  notes_same station [] history = ap (all_facts given) (append-nil history)
  notes_same station (note ∷ notes) history =
      ap (all_facts given) (sym (append_assoc history (Noted station note ∷ []) (map (Noted station) notes)))
      ∙ notes_same station notes (history ++ Noted station note ∷ []) ∙ same_facts given history (Noted station note) (λ other. refl)

  call_holds : (station : ℕ) (step : Step) (history : List Event) → M (all_facts given (after_call given station step history)) → HoldsSoFar given M history
      → HoldsSoFar given M (after_call given station step history)
  call_holds station step history next so_far =
      let notes = notes_after (setup_at given station) (facts_at given station history) step in
      let one = history ++ Called station step ∷ [] in
      let split : one ++ map (Noted station) notes ≡ after_call given station step history = append_assoc history (Called station step ∷ []) (map (Noted station) notes) in
      subst (HoldsSoFar given M) split (notes_hold station notes one (record {
        each = each_event (HeldBefore given M) history (Called station step) so_far.each so_far.last;
        last = subst M (ap (all_facts given) (sym split) ∙ notes_same station notes one) next;
      }))

  module _ (kept : IsKeptByCalls given M) where
    octets_hold : (station : ℕ) (octets : List ℕ) (history : List Event) → is_in station given.stations ≡ true → HoldsSoFar given M history
        → HoldsSoFar given M (after_octets given station octets history)
    octets_hold station [] history is so_far = so_far
    octets_hold station (octet ∷ octets) history is so_far =
        octets_hold station octets (after_call given station (HostOctet octet) history) is
        (call_holds station (HostOctet octet) history (kept.feeds station octet _ _ (called_facts given station (HostOctet octet) history is) so_far.last) so_far)

    feed_holds : (station : ℕ) (octets : List ℕ) (history : List Event) → is_in station given.stations ≡ true → HoldsSoFar given M history
        → HoldsSoFar given M (after_feed given station octets history)
    feed_holds station [] history is so_far = so_far
    feed_holds station (octet ∷ octets) history is so_far =
        octets_hold station (octet ∷ octets) (history ++ HostFed station (octet ∷ octets) ∷ []) is
        (event_holds history (HostFed station (octet ∷ octets)) (λ other. refl) so_far)

abbrev pub StandsBy : Given → List Event → ℕ → Standing → Type 0
StandsBy given history station at = IsInTurn (setup_at given station) at.stage at.begun (facts_at given station history)

pub at_turn : (given : Given) (place : Place) (history : List Event) → AllStand given place history → (station : ℕ) → is_in station given.stations ≡ true
    → StandsBy given history station (stands_at place station (turns_begun history))
at_turn given place history stand station is =
    let setup = setup_at given station in
    turned setup (IsInTurn setup) (turn_kept setup) (past_of station history) (stands_at place station (turns_begun history)) (turn_first setup) (stand station is)

pub one_slot : (given : Given) (history : List Event) (station phases turns : ℕ) (listened : Bool)
    → StandsBy given history station (if listened then at_stage (Within (suc phases)) turns else at_stage (Within phases) turns)
    → (facts_at given station history).turn.slot + 1 ≡ turns
one_slot given history station phases turns true stands = stands.slot_is
one_slot given history station phases turns false stands = stands.slot_is

pub last_turn : (turns slot : ℕ) → turns ≡ slot + 1 → turns - 1 ≡ slot
last_turn turns slot is = omega (arith, is)

pub was_sent : (given : Given) → HaveAddresses given → (phases : ℕ) (done left : List ℕ) (station : ℕ) (history : List Event) → AreDistinct given.stations
    → given.stations ≡ done ++ station ∷ left → AreHearing given (AtListening phases done (station ∷ left)) history
    → (octets : List ℕ) → packet_received station history ≡ Some octets → WasSent given phases (all_facts given history) station octets
was_sent given six phases done left station history distinct are hearing octets is =
    let heard = own_hears given phases done left station history distinct are hearing octets is in record {
      sender = heard.sender;
      channel = heard.channel;
      is_one = heard.is_one;
      differs = heard.differs;
      listens = wanted_is given station history ∙ heard.listens;
      sent = λ unforged. by (is_in heard.sender done) heard.sender heard.channel heard.is_one refl (heard.sent unforged);
    }
  where
    by : (called : Bool) (sender channel : ℕ) → is_in sender given.stations ≡ true → is_in sender done ≡ called → OnAirIf called phases given history sender channel octets
        → IsOnAir phases (facts_at given sender history) channel octets
    by true sender channel is_one was sent = sent
    by false sender channel is_one was sent =
        on_air phases (facts_at given sender history) channel octets
        (use_in_phase given six phases done (station ∷ left) history hearing.stand sender is_one was channel octets sent)

pub holds_kept : (given : Given) (M : (ℕ → Facts) → Type 0) → IsKeptByCalls given M → HaveAddresses given → AreDistinct given.stations → IsKept given (Holds given M)
holds_kept given M calls six distinct = let kept = hearing_kept given six distinct in record {
  on_turn = λ slot plan history begun at holds. record {
    hearing = kept.on_turn slot plan history begun at holds.hearing;
    so_far = event_holds given M history (TurnBegan slot (map plan.radio_of given.stations)) (λ station. refl) holds.so_far;
  };
  on_feed = λ plan done left station history are some now holds. record {
    hearing = kept.on_feed plan done left station history are some now holds.hearing;
    so_far = feed_holds given M calls station (take (plan.feed_of station) (octets_left given station history)) history (among given.stations done left station are) holds.so_far;
  };
  on_fed = λ history holds. record { hearing = kept.on_fed history holds.hearing; so_far = holds.so_far };
  on_begin = λ slot plan done left station history are due holds.
      let on = plan.radio_of station in
      let is = among given.stations done left station are in
      let turn = subst (λ b. StandsBy given history station (if b then at_stage (Within 0) (turns_begun history) else at_stage Between (turns_begun history - 1)))
      (not_before given.stations done left station distinct are) (at_turn given (AtBegins done (station ∷ left)) history holds.hearing.stand station is) in record {
        hearing = kept.on_begin slot plan done left station history are due holds.hearing;
        so_far = call_holds given M station (TurnBegins slot on) history (calls.begins station slot on _ _ (called_facts given station (TurnBegins slot on) history is)
            (subst (λ n. StandsBy given history station (at_stage Between n)) (last_turn (turns_begun history) slot due.slot_is) turn) holds.so_far.last) holds.so_far;
      };
  on_begun = λ history holds. record { hearing = kept.on_begun history holds.hearing; so_far = holds.so_far };
  on_phase = λ phases history few holds. record { hearing = kept.on_phase phases history few holds.hearing; so_far = holds.so_far };
  on_silence = λ phases done left station history are none holds.
      record { hearing = kept.on_silence phases done left station history are none holds.hearing; so_far = holds.so_far };
  on_packet = λ phases plan done left station channel octets history are some due holds. record {
    hearing = kept.on_packet phases plan done left station channel octets history are some due holds.hearing;
    so_far = event_holds given M history (Transmitted station channel octets (hearings_of given plan.fates station channel octets history)) (λ other. refl) holds.so_far;
  };
  on_air = λ phases history holds. record { hearing = kept.on_air phases history holds.hearing; so_far = holds.so_far };
  on_hearing = λ phases done left station history are some holds.
      let received = packet_received station history in
      let is = among given.stations done left station are in
      let turn = subst (λ b. StandsBy given history station (if b then at_stage (Within (suc phases)) (turns_begun history) else at_stage (Within phases) (turns_begun history)))
      (not_before given.stations done left station distinct are) (at_turn given (AtListening phases done (station ∷ left)) history holds.hearing.stand station is) in record {
        hearing = kept.on_hearing phases done left station history are some holds.hearing;
        so_far = call_holds given M station (step_of received) history (calls.passes station phases (turns_begun history) received _ _
            (called_facts given station (step_of received) history is) turn
            (λ other in_it. one_slot given history other phases (turns_begun history) (is_in other done)
            (at_turn given (AtListening phases done (station ∷ left)) history holds.hearing.stand other in_it))
            (was_sent given six phases done left station history distinct are holds.hearing) holds.so_far.last) holds.so_far;
      };
  on_heard = λ phases history holds. record { hearing = kept.on_heard phases history holds.hearing; so_far = holds.so_far };
  on_phases = λ history holds. record { hearing = kept.on_phases history holds.hearing; so_far = holds.so_far };
  on_end = λ done left station history are some holds. record {
    hearing = kept.on_end done left station history are some holds.hearing;
    so_far = call_holds given M station TurnEnds history
        (calls.ends station _ _ (called_facts given station TurnEnds history (among given.stations done left station are)) holds.so_far.last) holds.so_far;
  };
  on_ended = λ history holds. record { hearing = kept.on_ended history holds.hearing; so_far = holds.so_far };
}

pub first_hears : (given : Given) (station : ℕ) → packet_received station [] ≡ None
unfolding packet_received
first_hears given station = refl

run_holds : (given : Given) (M : (ℕ → Facts) → Type 0) → IsKeptByCalls given M → HaveAddresses given → AreDistinct given.stations → M (all_facts given [])
    → HoldsSoFar given M (history_of (run_of given))
run_holds given M calls six distinct first =
    ends_with (run_of given) (IsWhole given (Holds given M)) (IsStopped given (Holds given M)) (HoldsSoFar given M)
    (run_kept given (Holds given M) (holds_kept given M calls six distinct) (record {
      hearing = record { stand = stands_first given; hears = λ station is. first_hears given station };
      so_far = record { each = tt; last = first };
    }))
    (λ history whole. whole.is.so_far) (λ history stop stopped. stopped.kept.so_far)

holds_before : (given : Given) (M : (ℕ → Facts) → Type 0) (history before rest : List Event) → history ≡ before ++ rest → HoldsSoFar given M history → M (all_facts given before)
holds_before given M history before [] is so_far = subst (λ xs. M (all_facts given xs)) (is ∙ append-nil before) so_far.last
holds_before given M history before (event ∷ rest) is so_far = each_at (HeldBefore given M) history before rest event so_far.each is

pub always_by_calls : (given : Given) (M : (ℕ → Facts) → Type 0) → IsKeptByCalls given M → HaveAddresses given → AreDistinct given.stations
    → M (λ station. first_facts (setup_at given station)) → (before rest : List Event) → history_of (run_of given) ≡ before ++ rest → M (all_facts given before)
unfolding facts_of
always_by_calls given M calls six distinct first before rest is =
    holds_before given M (history_of (run_of given)) before rest is (run_holds given M calls six distinct first)
