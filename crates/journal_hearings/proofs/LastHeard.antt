-- What a station heard since its last call was on the air in this turn, while it listened for it, and nothing happened to the
-- station since.
use Rattle.std.proofs.Common.{◌≡◌, ℕ, ◌+◌, ◌==◌, ◌||◌, Bool, true, false, Option, Some, None, List, [], ◌∷◌, ◌++◌, refl, sym, ap, subst, ◌∙◌, append-nil, append_assoc}
use Rattle.std.specs.Prelude.{⊤, if◌then◌else◌}
use Rattle.std.proofs.lemmas.Bool.{eqb-true, or_right}
use Rattle.ble_base.specs.declared.notes.Note.{Note}
use Rattle.ble_base.specs.declared.notes.Note.TheVariants.{Opened}
use Rattle.journal_data.specs.controller_model.Facts.{Sends, Listens}
use Rattle.journal_data.specs.controller_model.Packets.{use_of}
use Rattle.journal_data.specs.controller_model.Side.{facts_of}
use Rattle.journal_data.specs.run_model.Due.{IsDue}
use Rattle.journal_data.specs.run_model.Feeding.{AreDistinct}
use Rattle.journal_data.specs.run_model.History.{Event, TurnBegan, HostFed, Called, Noted, Transmitted, Hearing, has_received, one_if, packet_received, past_of, received_after, steps_in, turns_begun, turns_in}
use Rattle.journal_data.specs.run_model.LinkEnds.{HaveAddresses}
use Rattle.journal_data.specs.run_model.Links.{Links, begins_link, links_after, links_noted, links_of, with_link}
use Rattle.journal_data.specs.run_model.Run.{Given, facts_at, history_of, run_of, setup_at, unseen_in, use_at}
use Rattle.journal_data.proofs.run_model.Calls.{flat_nothing, turns_same}
use Rattle.journal_data.proofs.run_model.Dues.{run_due}
use Rattle.journal_data.proofs.run_model.Handing.{IsHanded, IsUnforged, WasForged, WasNot, WasReceived}
use Rattle.journal_data.proofs.run_model.LinkEnds.{is_listener, packet_handed, received_event}
use Rattle.journal_data.proofs.run_model.LinksKnown.{links_event}
use Rattle.journal_data.proofs.run_model.Places.{each_at}
use Rattle.journal_data.proofs.run_model.Stations.{is_in}
use Rattle.journal_data.proofs.run_laws.ByCalls.{first_hears}
use Rattle.journal_data.proofs.run_laws.Hearings.{AreHearing, hearing_kept, unforged_same}
use Rattle.journal_data.proofs.run_laws.TurnPlaces.{stands_first}
use Rattle.journal_data.proofs.journal_acks.Seen.{IsSeen, seen_turn}

pub record IsHeardLast (given : Given) (history : List Event) (station : ℕ) (octets : List ℕ) : Type 0 where
  pub sender : ℕ
  pub channel : ℕ
  pub hearings : List Hearing
  pub before : List Event
  pub after : List Event
  pub is_at : history ≡ before ++ Transmitted sender channel octets hearings ∷ after
  pub received : has_received station hearings ≡ true
  pub differs : (station == sender) ≡ false
  pub listens : use_at given station before ≡ Listens channel
  pub same : past_of station history ≡ past_of station before
  pub in_turn : turns_begun history ≡ turns_begun before
  -- a link that it begins is the one that the station knows last
  pub number : begins_link channel octets ≡ true → (links_of history).last_of station ≡ (links_of before).begun + 1

abbrev pub HeardIf : Given → List Event → ℕ → Option (List ℕ) → Type 0
HeardIf given history station None = ⊤
HeardIf given history station (Some octets) = IsUnforged (facts_at given station history) octets → IsHeardLast given history station octets

-- a note changes no number that a station knows last
noted_same : (station other : ℕ) (note : Note) (links : Links) → (links_noted other note links).last_of station ≡ links.last_of station
noted_same station other (Opened handle role own peer) links = refl
noted_same station other note links = refl

sent_same : (begins same received : Bool) (last begun : ℕ) → same ≡ false → received ≡ false → (if begins then (if same || received then begun else last) else last) ≡ last
sent_same true same received last begun differs none = rw (differs, none) refl
sent_same false same received last begun differs none = refl

last_if : (begins : Bool) (station : ℕ) (links more : Links) → (if begins then more else links).last_of station ≡ (if begins then more.last_of station else links.last_of station)
last_if true station links more = refl
last_if false station links more = refl

module _ (given : Given) (six : HaveAddresses given) (distinct : AreDistinct given.stations) (station : ℕ) (in_it : is_in station given.stations ≡ true) where
  abbrev HeardNone : List Event → Type 0
  HeardNone history = packet_received station history ≡ None

  hears_none : IsSeen given (AreHearing given) HeardNone (λ history station channel octets. ⊤)
  hears_none = record { turn = λ history hearing. hearing.hears station in_it; packet = λ phases done left station channel octets history are wanted is. tt }

  module _ (history rest : List Event) (event : Event) (at : history_of (run_of given) ≡ history ++ event ∷ rest) where
    abbrev next : List Event
    next = history ++ event ∷ []

    abbrev IsHeardNext : Type 0
    IsHeardNext = HeardIf given next station (packet_received station next)

    due : IsDue given history event
    due = each_at (IsDue given) (history_of (run_of given)) history rest event (run_due given).each at

    -- where the station hears nothing
    next_by : (received : Option (List ℕ)) → received_after station (packet_received station history) event ≡ received → HeardIf given next station received → IsHeardNext
    next_by received is heard = subst (HeardIf given next station) (sym (received_event station history event ∙ is)) heard

    one_same : (octets : List ℕ) → IsHeardLast given history station octets → steps_in station event ≡ [] → turns_in event ≡ 0
        → (links_after (links_of history) event).last_of station ≡ (links_of history).last_of station → IsHeardLast given next station octets
    one_same octets heard steps turns last = record {
      sender = heard.sender;
      channel = heard.channel;
      hearings = heard.hearings;
      before = heard.before;
      after = heard.after ++ event ∷ [];
      is_at = ap (λ xs. xs ++ event ∷ []) heard.is_at ∙ append_assoc heard.before (Transmitted heard.sender heard.channel octets heard.hearings ∷ heard.after) (event ∷ []);
      received = heard.received;
      differs = heard.differs;
      listens = heard.listens;
      same = flat_nothing (steps_in station) history event steps ∙ heard.same;
      in_turn = turns_same history event turns ∙ heard.in_turn;
      number = λ begins. ap (λ (links : Links). links.last_of station) (links_event history event) ∙ last ∙ heard.number begins;
    }

    same_by : (received : Option (List ℕ)) → HeardIf given history station received → steps_in station event ≡ [] → turns_in event ≡ 0
        → (IsHeardLastOf : (octets : List ℕ) → IsHeardLast given history station octets → (links_after (links_of history) event).last_of station ≡ (links_of history).last_of station)
        → HeardIf given next station received
    same_by None heard steps turns last = tt
    same_by (Some octets) heard steps turns last = λ unforged.
        let before = heard (unforged_same given station history next octets (flat_nothing (steps_in station) history event steps) unforged) in
        one_same octets before steps turns (last octets before)

  -- ---- each event

  -- a packet that it hears
  new_heard : (history rest : List Event) (sender channel : ℕ) (octets : List ℕ) (hearings : List Hearing)
      → history_of (run_of given) ≡ history ++ Transmitted sender channel octets hearings ∷ rest → has_received station hearings ≡ true
      → IsHeardLast given (history ++ Transmitted sender channel octets hearings ∷ []) station octets
  new_heard history rest sender channel octets hearings at received =
      let event = Transmitted sender channel octets hearings in
      let packet = due history rest event at in
      let listener = is_listener given packet.plan.fates channel octets history sender station (ap (has_received station) (sym packet.hearings_are) ∙ received) in record {
        sender = sender;
        channel = channel;
        hearings = hearings;
        before = history;
        after = [];
        is_at = refl;
        received = received;
        differs = listener.differs;
        listens = listener.listens;
        same = flat_nothing (steps_in station) history event refl;
        in_turn = turns_same history event refl;
        number = λ begins.
            ap (λ (links : Links). links.last_of station) (links_event history event)
            ∙ ap (λ b. (if b then with_link sender hearings (links_of history) else links_of history).last_of station) begins
            ∙ ap (λ b. if b then (links_of history).begun + 1 else (links_of history).last_of station)
            (or_right (station == sender) (has_received station hearings) received);
      }

  -- one that it does not hear, and does not send either
  other_heard : (history rest : List Event) (sender channel : ℕ) (octets : List ℕ) (hearings : List Hearing)
      → history_of (run_of given) ≡ history ++ Transmitted sender channel octets hearings ∷ rest → has_received station hearings ≡ false
      → (one : List ℕ) → IsHeardLast given history station one
      → (links_after (links_of history) (Transmitted sender channel octets hearings)).last_of station ≡ (links_of history).last_of station
  other_heard history rest sender channel octets hearings at none one heard = by (station == sender) refl
    where
      packet : IsDue given history (Transmitted sender channel octets hearings)
      packet = due history rest (Transmitted sender channel octets hearings) at

      by : (same : Bool) → (station == sender) ≡ same
          → (links_after (links_of history) (Transmitted sender channel octets hearings)).last_of station ≡ (links_of history).last_of station
      by true is =
          let listens : use_at given station history ≡ Listens heard.channel = ap (λ past. use_of (facts_of (setup_at given station) past)) heard.same ∙ heard.listens in
          absurd (let h : Sends channel octets ≡ Listens heard.channel = sym packet.is_wanted ∙ ap (λ n. use_at given n history) (sym (eqb-true station sender is)) ∙ listens in cc)
      by false is =
          last_if (begins_link channel octets) station (links_of history) (with_link sender hearings (links_of history))
          ∙ sent_same (begins_link channel octets) (station == sender) (has_received station hearings) ((links_of history).last_of station) ((links_of history).begun + 1) is none

  event_heard : (history rest : List Event) (event : Event) → history_of (run_of given) ≡ history ++ event ∷ rest → HeardIf given history station (packet_received station history)
      → HeardIf given (history ++ event ∷ []) station (packet_received station (history ++ event ∷ []))
  event_heard history rest (TurnBegan slot radios) at heard =
      next_by history rest (TurnBegan slot radios) at None
      (seen_turn given (AreHearing given) (hearing_kept given six distinct) HeardNone (λ history station channel octets. ⊤) hears_none
      (record { stand = stands_first given; hears = λ one is. first_hears given one }) history rest slot radios at) tt
  event_heard history rest (HostFed other octets) at heard =
      let event = HostFed other octets in
      next_by history rest event at (packet_received station history) refl
      (same_by history rest event at (packet_received station history) heard refl refl (λ one is. refl))
  event_heard history rest (Noted other note) at heard =
      let event = Noted other note in
      next_by history rest event at (packet_received station history) refl
      (same_by history rest event at (packet_received station history) heard refl refl (λ one is. noted_same station other note (links_of history)))
  event_heard history rest (Called other step) at heard = by (station == other) refl
    where
      event : Event
      event = Called other step

      by : (same : Bool) → (station == other) ≡ same → HeardIf given (history ++ Called other step ∷ []) station (packet_received station (history ++ Called other step ∷ []))
      by true is = next_by history rest (Called other step) at None (ap (λ b. if b then None else packet_received station history) is) tt
      by false is =
          next_by history rest (Called other step) at (packet_received station history) (ap (λ b. if b then None else packet_received station history) is)
          (same_by history rest (Called other step) at (packet_received station history) heard (ap (λ b. one_if b step) is) refl (λ one at. refl))
  event_heard history rest (Transmitted sender channel octets hearings) at heard = by handed
    where
      packet : IsDue given history (Transmitted sender channel octets hearings)
      packet = due history rest (Transmitted sender channel octets hearings) at

      event : Event
      event = Transmitted sender channel octets hearings

      after : List Event
      after = history ++ event ∷ []

      Handed : List Hearing → Type 0
      Handed found =
          IsHanded (has_received station found) octets (packet_received station history) (packet_received station (history ++ Transmitted sender channel octets found ∷ []))
          (facts_at given station history) (use_at given station history) channel (station == sender)

      handed : Handed hearings
      handed =
          subst Handed (sym packet.hearings_are)
          (packet_handed given packet.plan.fates sender channel octets history station (ap (unseen_in octets) (sym packet.hearings_are) ∙ packet.is_seen))

      by : Handed hearings → HeardIf given after station (packet_received station after)
      by (WasReceived is as_sent) = subst (HeardIf given after station) (sym as_sent) (λ unforged. new_heard history rest sender channel octets hearings at is)
      by (WasForged left as_left forged listens differs) =
          subst (HeardIf given after station) (sym as_left)
          (λ unforged. absurd (unforged_same given station history after left (flat_nothing (steps_in station) history event refl) unforged forged))
      by (WasNot is as_before) =
          subst (HeardIf given after station) (sym as_before)
          (same_by history rest event at (packet_received station history) heard refl refl (other_heard history rest sender channel octets hearings at is))

  -- ---- along the run

  along : (before events rest : List Event) → history_of (run_of given) ≡ before ++ (events ++ rest) → HeardIf given before station (packet_received station before)
      → HeardIf given (before ++ events) station (packet_received station (before ++ events))
  along before [] rest at heard = subst (λ history. HeardIf given history station (packet_received station history)) (sym (append-nil before)) heard
  along before (event ∷ events) rest at heard =
      subst (λ history. HeardIf given history station (packet_received station history)) (append_assoc before (event ∷ []) events)
      (along (before ++ event ∷ []) events rest (at ∙ sym (append_assoc before (event ∷ []) (events ++ rest))) (event_heard before (events ++ rest) event at heard))

  pub heard_last : (history rest : List Event) (octets : List ℕ) → history_of (run_of given) ≡ history ++ rest → packet_received station history ≡ Some octets
      → IsUnforged (facts_at given station history) octets → IsHeardLast given history station octets
  heard_last history rest octets at received = subst (HeardIf given history station) received (along [] history rest at (none_first))
    where
      none_first : HeardIf given [] station (packet_received station [])
      none_first = subst (HeardIf given [] station) (sym (first_hears given station)) tt
