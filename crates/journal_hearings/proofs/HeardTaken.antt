-- In every run of two stations, a station that heard a CONNECT_IND which it takes notes that the link is open, before the phase
-- is over.
use Rattle.std.proofs.Common.{◌≡◌, ℕ, ◌+◌, ◌==◌, ◌⊎◌, inl, inr, ◌&&◌, Bool, true, false, Option, Some, None, List, [], ◌∷◌, ◌++◌, refl, sym, ap, subst, ◌∙◌, append-nil}
use Rattle.std.specs.Prelude.{⊤, map, take, if◌then◌else◌}
use Rattle.std.proofs.lemmas.Bool.{eqb-true, or_left, or_right}
use Rattle.std.proofs.lemmas.List.Folds.{list_any-append}
use Rattle.ble_base.specs.declared.notes.Note.TheVariants.{Opened}
use Rattle.ble_base.specs.declared.roles.Role.TheVariants.{Peripheral}
use Rattle.journal.specs.declared.entries.Entry.TheVariants.{Opened as OpenedEntry}
use Rattle.radio_replay.specs.declared.fates.Fate.{Fate}
use Rattle.journal_data.specs.controller_model.Facts.{Facts, Sends}
use Rattle.journal_data.specs.controller_model.Side.{facts_of, notes_after}
use Rattle.journal_data.specs.controller_model.Step.{Step, TurnBegins, TurnEnds}
use Rattle.journal_data.specs.run_model.Due.{Each}
use Rattle.journal_data.specs.run_model.Feeding.{AreDistinct}
use Rattle.journal_data.specs.run_model.History.{Event, TurnBegan, HostFed, Called, Noted, Transmitted, Hearing, has_received, packet_received}
use Rattle.journal_data.specs.run_model.Journal.{journal_from, journal_of, side_of}
use Rattle.journal_data.specs.run_model.LinkEnds.{HaveAddresses}
use Rattle.journal_data.specs.run_model.Links.{Links, begins_link, links_after, links_of, with_link}
use Rattle.journal_data.specs.run_model.Run.{Given, after_call, after_feed, facts_at, hearings_of, octets_left, setup_at, step_of, unseen_in, use_at}
use Rattle.journal_data.proofs.run_model.Fronts.{More, feed_more}
use Rattle.journal_data.proofs.run_model.Handing.{IsHanded, WasForged, WasNot, WasReceived}
use Rattle.journal_data.proofs.run_model.LinkEnds.{is_listener, packet_handed, received_by, received_good}
use Rattle.journal_data.proofs.run_model.LinksKnown.{last_by_call, links_event}
use Rattle.journal_data.proofs.run_model.Parts.{journal_more}
use Rattle.journal_data.proofs.run_model.Places.{each_event}
use Rattle.journal_data.proofs.run_model.Stations.{is_in, among, in_more_other, in_more_same, not_before}
use Rattle.journal_data.proofs.run_model.Walk.{Place, NoTurn, AtPackets, IsKept}
use Rattle.journal_data.proofs.run_laws.ByCalls.{first_hears}
use Rattle.journal_data.proofs.run_laws.Hearings.{AreHearing, hearing_kept, other_facts, sends_deaf}
use Rattle.journal_data.proofs.run_laws.InAgreement.{differs_back}
use Rattle.journal_data.proofs.run_laws.TurnPlaces.{event_past, stands_first}
use Rattle.journal_data.proofs.journal_links.OfTwo.{are_distinct}
use Rattle.journal_data.proofs.journal_packets.EachEvent.{each_call, each_feed}
use Rattle.journal_data.proofs.journal_acks.TwoStations.{IsOfTwo, other_is, other_of, same_number, side_same}
use Rattle.journal_hearings.specs.Openings.{is_taken_by, takes}
use Rattle.journal_hearings.proofs.ConnectsTaken.{TakesLink}

-- ---- a fact of each event

pub each_map : (F G : List Event → Event → Type 0) → ((before : List Event) (event : Event) → F before event → G before event) → (before events : List Event)
    → Each F before events → Each G before events
each_map F G to before [] each = tt
each_map F G to before (event ∷ events) each = (to before event each.0, each_map F G to (before ++ event ∷ []) events each.1)

-- ---- a history that grows

-- ---- a link that is taken

abbrev pub IsTaken : ℕ → ℕ → List Event → Type 0
IsTaken station number history = is_taken_by (side_of station) number (journal_of history) ≡ true

taken_more : (station number : ℕ) (history more : List Event) → IsTaken station number history → IsTaken station number (history ++ more)
taken_more station number history more is =
    let side = side_of station in
    let front = journal_of history in
    let rest = journal_from (links_of history) more in
    ap (is_taken_by side number) (journal_more history more) ∙ list_any-append (takes side number) front rest
    ∙ or_left (is_taken_by side number front) (is_taken_by side number rest) is

taken_later : (station number : ℕ) (history after : List Event) → More history after → IsTaken station number history → IsTaken station number after
taken_later station number history after more is = subst (IsTaken station number) (sym more.is) (taken_more station number history more.rest is)

-- the other station of a packet with a CONNECT_IND heard it, and is to take it
pub record WillTake (given : Given) (before : List Event) (sender channel : ℕ) (octets : List ℕ) (hearings : List Hearing) : Type 0 where
  pub is_one : is_in (other_of sender) given.stations ≡ true
  pub received : has_received (other_of sender) hearings ≡ true
  pub begins : begins_link channel octets ≡ true
  pub takes : TakesLink (setup_at given (other_of sender)) (facts_at given (other_of sender) before) octets

-- it did not take it yet
pub record IsPending (given : Given) (history before : List Event) (station : ℕ) (octets : List ℕ) : Type 0 where
  pub heard : packet_received station history ≡ Some octets
  pub same : facts_at given station history ≡ facts_at given station before
  pub number : (links_of history).last_of station ≡ (links_of before).begun + 1

abbrev pub Opens : Given → List Event → List Event → Event → Type 0
Opens given history before (Transmitted sender channel octets hearings) =
    WillTake given before sender channel octets hearings
    → IsTaken (other_of sender) ((links_of before).begun + 1) history ⊎ IsPending given history before (other_of sender) octets
Opens given history before (TurnBegan slot radios) = Unit {0}
Opens given history before (HostFed station octets) = Unit {0}
Opens given history before (Called station step) = Unit {0}
Opens given history before (Noted station note) = Unit {0}

abbrev pub HasOpened : Given → List Event → List Event → Event → Type 0
HasOpened given history before (Transmitted sender channel octets hearings) =
    WillTake given before sender channel octets hearings → IsTaken (other_of sender) ((links_of before).begun + 1) history
HasOpened given history before (TurnBegan slot radios) = Unit {0}
HasOpened given history before (HostFed station octets) = Unit {0}
HasOpened given history before (Called station step) = Unit {0}
HasOpened given history before (Noted station note) = Unit {0}

-- what a station heard in the phase was sent by the other one
abbrev pub SentBy : Given → Place → List Event → Type 0
SentBy given (AtPackets phases done left) history =
    (station : ℕ) (octets : List ℕ) → is_in station given.stations ≡ true → packet_received station history ≡ Some octets → is_in (other_of station) done ≡ true
SentBy given place history = ⊤

pub record AreOpening (given : Given) (place : Place) (history : List Event) : Type 0 where
  pub hearing : AreHearing given place history
  pub sent : SentBy given place history
  pub each : Each (Opens given history) [] history

-- ---- where nothing was heard

abbrev pub HeardNone : Given → List Event → Type 0
HeardNone given history = (station : ℕ) → is_in station given.stations ≡ true → packet_received station history ≡ None

module _ (given : Given) where
  settled_one : (history after : List Event) → More history after → HeardNone given history → (before : List Event) (event : Event)
      → Opens given history before event → HasOpened given after before event
  settled_one history after more none before (Transmitted sender channel octets hearings) opens = λ will. elim (opens will) [
    | inl taken ↦ taken_later (other_of sender) ((links_of before).begun + 1) history after more taken
    | inr pending ↦ absurd (let h : None ≡ Some octets = sym (none (other_of sender) will.is_one) ∙ pending.heard in absurd cc)
  ]
  settled_one history after more none before (TurnBegan slot radios) opens = tt
  settled_one history after more none before (HostFed station octets) opens = tt
  settled_one history after more none before (Called station step) opens = tt
  settled_one history after more none before (Noted station note) opens = tt

  still_one : (after before : List Event) (event : Event) → HasOpened given after before event → Opens given after before event
  still_one after before (Transmitted sender channel octets hearings) opened = λ will. inl (opened will)
  still_one after before (TurnBegan slot radios) opened = tt
  still_one after before (HostFed station octets) opened = tt
  still_one after before (Called station step) opened = tt
  still_one after before (Noted station note) opened = tt

  settled : (history after : List Event) → More history after → HeardNone given history → Each (Opens given history) [] history → Each (Opens given after) [] history
  settled history after more none each =
      each_map (Opens given history) (Opens given after)
      (λ before event opens. still_one after before event (settled_one history after more none before event opens)) [] history each

  pub opened_now : (history : List Event) → HeardNone given history → Each (Opens given history) [] history → Each (HasOpened given history) [] history
  opened_now history none each =
      each_map (Opens given history) (HasOpened given history) (settled_one history history (record { rest = []; is = sym (append-nil history) }) none) [] history each

  event_opens : (history : List Event) (event : Event) → HeardNone given history → Opens given (history ++ event ∷ []) history event → Each (Opens given history) [] history
      → Each (Opens given (history ++ event ∷ [])) [] (history ++ event ∷ [])
  event_opens history event none new each =
      let after = history ++ event ∷ [] in
      each_event (Opens given after) history event (settled history after (record { rest = event ∷ []; is = refl }) none each) new

  call_opens : (station : ℕ) (step : Step) (history : List Event) → HeardNone given history → Each (Opens given history) [] history
      → Each (Opens given (after_call given station step history)) [] (after_call given station step history)
  call_opens station step history none each =
      let after = after_call given station step history in
      each_call given (Opens given after) (λ before one at. tt) (λ one before note. tt) (λ before one octets. tt) station step history
      (settled history after (record { rest = Called station step ∷ map (Noted station) (notes_after (setup_at given station) (facts_at given station history) step); is = refl }) none each)

  feed_opens : (station : ℕ) (octets : List ℕ) (history : List Event) → HeardNone given history → Each (Opens given history) [] history
      → Each (Opens given (after_feed given station octets history)) [] (after_feed given station octets history)
  feed_opens station octets history none each =
      let after = after_feed given station octets history in
      each_feed given (Opens given after) (λ before one at. tt) (λ one before note. tt) (λ before one fed. tt) station octets history
      (settled history after (feed_more given station octets history) none each)

-- ---- a packet

in_more : (station other : ℕ) (done : List ℕ) → is_in station done ≡ true → is_in station (done ++ other ∷ []) ≡ true
in_more station other done is = by (station == other) refl
  where
    by : (same : Bool) → (station == other) ≡ same → is_in station (done ++ other ∷ []) ≡ true
    by true equal = in_more_same station other done equal
    by false differs = in_more_other station other done differs ∙ is

module _ (given : Given) (pair : IsOfTwo given) where
  module _ (fates : List Fate) (phases : ℕ) (done left : List ℕ) (sender channel : ℕ) (octets : List ℕ) (history : List Event) (are : given.stations ≡ done ++ sender ∷ left)
      (out : is_in sender done ≡ false) (wanted : use_at given sender history ≡ Sends channel octets)
      (seen : unseen_in octets (hearings_of given fates sender channel octets history) ≡ None) (opening : AreOpening given (AtPackets phases done (sender ∷ left)) history) where
    abbrev hearings : List Hearing
    hearings = hearings_of given fates sender channel octets history

    abbrev event : Event
    event = Transmitted sender channel octets hearings

    abbrev after : List Event
    after = history ++ event ∷ []

    sender_in : is_in sender given.stations ≡ true
    sender_in = among given.stations done left sender are

    -- no station heard anything in the phase yet
    heard_none : (station : ℕ) → is_in station given.stations ≡ true → packet_received station history ≡ None
    heard_none station in_it = by (packet_received station history) refl (station == sender) refl
      where
        by : (received : Option (List ℕ)) → packet_received station history ≡ received → (same : Bool) → (station == sender) ≡ same → received ≡ None
        by None is same equal = refl
        by (Some heard) is true equal =
            let deaf = sends_deaf given [] history sender channel octets (opening.hearing.hears sender sender_in) wanted (packet_received sender history) refl in
            absurd (let h : Some heard ≡ None = sym is ∙ ap (λ n. packet_received n history) (eqb-true station sender equal) ∙ deaf in absurd cc)
        by (Some heard) is false equal =
            let other = other_is given pair station sender in_it sender_in (differs_back station sender equal) in
            absurd (let h : false ≡ true = sym out ∙ ap (λ n. is_in n done) other ∙ opening.sent station heard in_it is in absurd cc)

    new_opens : Opens given after history event
    new_opens = λ will. inr (record {
      heard = received_good given fates sender channel octets history (other_of sender) (are_distinct given pair) seen will.received;
      same = ap (facts_of (setup_at given (other_of sender))) (event_past (other_of sender) history event refl);
      number = ap (λ (links : Links). links.last_of (other_of sender))
          (links_event history event ∙ ap (λ b. if b then with_link sender hearings (links_of history) else links_of history) will.begins)
          ∙ ap (λ b. if b then (links_of history).begun + 1 else (links_of history).last_of (other_of sender))
          (or_right (other_of sender == sender) (has_received (other_of sender) hearings) will.received);
    })

    packet_sent_by : SentBy given (AtPackets phases (done ++ sender ∷ []) left) after
    packet_sent_by = λ station heard in_it is. by station heard in_it is (packet_handed given fates sender channel octets history station seen)
      where
        heard_other : (station : ℕ) → is_in station given.stations ≡ true → (station == sender) ≡ false → is_in (other_of station) (done ++ sender ∷ []) ≡ true
        heard_other station in_it differs =
            let other = other_is given pair station sender in_it sender_in (differs_back station sender differs) in
            in_more_same (other_of station) sender done (ap (λ n. n == sender) (sym other) ∙ same_number sender)

        by : (station : ℕ) (heard : List ℕ) → is_in station given.stations ≡ true → packet_received station after ≡ Some heard
            → IsHanded (has_received station hearings) octets (packet_received station history) (packet_received station after) (facts_at given station history)
            (use_at given station history) channel (station == sender) → is_in (other_of station) (done ++ sender ∷ []) ≡ true
        by station heard in_it is (WasReceived received as_sent) = heard_other station in_it (is_listener given fates channel octets history sender station received).differs
        by station heard in_it is (WasForged left as_left forged listens differs) = heard_other station in_it differs
        by station heard in_it is (WasNot received as_before) = in_more (other_of station) sender done (opening.sent station heard in_it (sym as_before ∙ is))

    packet_opens : Each (Opens given after) [] after
    packet_opens = event_opens given history event heard_none new_opens opening.each

  -- ---- a call after the phase

  module _ (caller : ℕ) (history : List Event) where
    abbrev received : Option (List ℕ)
    received = packet_received caller history

    abbrev called : List Event
    called = after_call given caller (step_of received) history

    call_more : More history called
    call_more = record { rest = Called caller (step_of received) ∷ map (Noted caller) (notes_after (setup_at given caller) (facts_at given caller history) (step_of received)); is = refl }

    -- it takes what it heard
    takes_now : (number : ℕ) (octets : List ℕ) → received ≡ Some octets → (links_of history).last_of caller ≡ number
        → TakesLink (setup_at given caller) (facts_at given caller history) octets → IsTaken caller number called
    takes_now number octets heard last link =
        let setup = setup_at given caller in
        let facts = facts_at given caller history in
        let note = Opened link.handle Peripheral link.own link.peer in
        let notes : notes_after setup facts (step_of received) ≡ note ∷ link.later = ap (λ may. notes_after setup facts (step_of may)) heard ∙ link.notes_are in
        let side = side_of caller in
        let front = journal_of history in
        let line = OpenedEntry side ((links_of history).last_of caller) link.handle Peripheral in
        let more = Called caller (step_of received) ∷ Noted caller note ∷ map (Noted caller) link.later in
        let rest = journal_from (links_after (links_of history) (Noted caller note)) (map (Noted caller) link.later) in
        let one : takes side number line ≡ true = (λ i. side_same caller i && (last i == number)) ∙ same_number number in
        ap (λ ns. is_taken_by side number (journal_of (history ++ Called caller (step_of received) ∷ map (Noted caller) ns))) notes
        ∙ ap (is_taken_by side number) (journal_more history more)
        ∙ list_any-append (takes side number) front (line ∷ rest)
        ∙ or_right (is_taken_by side number front) (is_taken_by side number (line ∷ rest)) (or_left (takes side number line) (is_taken_by side number rest) one)

    -- another station still waits
    pending_now : (before : List Event) (station : ℕ) (octets : List ℕ) → (station == caller) ≡ false → IsPending given history before station octets
        → IsPending given called before station octets
    pending_now before station octets differs pending = record {
      heard = received_by given station caller (step_of received) history false differs ∙ pending.heard;
      same = other_facts given caller (step_of received) history station differs ∙ pending.same;
      number = last_by_call caller (step_of received) (notes_after (setup_at given caller) (facts_at given caller history) (step_of received)) history station ∙ pending.number;
    }

    waiting_opens : (before : List Event) (station : ℕ) (octets : List ℕ) → TakesLink (setup_at given station) (facts_at given station before) octets
        → IsPending given history before station octets → (same : Bool) → (station == caller) ≡ same
        → IsTaken station ((links_of before).begun + 1) called ⊎ IsPending given called before station octets
    waiting_opens before station octets link pending true is =
        let equal = eqb-true station caller is in
        let number = (links_of before).begun + 1 in
        inl (subst (λ n. IsTaken n number called) (sym equal)
        (takes_now number octets (ap (λ n. packet_received n history) (sym equal) ∙ pending.heard) (ap (λ n. (links_of history).last_of n) (sym equal) ∙ pending.number)
        (subst (λ n. TakesLink (setup_at given n) (facts_at given n history) octets) equal
        (subst (λ (f : Facts). TakesLink (setup_at given station) f octets) (sym pending.same) link))))
    waiting_opens before station octets link pending false is = inr (pending_now before station octets is pending)

    one_opens : (before : List Event) (event : Event) → Opens given history before event → Opens given called before event
    one_opens before (Transmitted sender channel octets others) opens = λ will. elim (opens will) [
      | inl taken ↦ inl (taken_later (other_of sender) ((links_of before).begun + 1) history called call_more taken)
      | inr pending ↦ waiting_opens before (other_of sender) octets will.takes pending (other_of sender == caller) refl
    ]
    one_opens before (TurnBegan slot radios) opens = tt
    one_opens before (HostFed station octets) opens = tt
    one_opens before (Called station step) opens = tt
    one_opens before (Noted station note) opens = tt

    hearing_opens : Each (Opens given history) [] history → Each (Opens given called) [] called
    hearing_opens each =
        each_call given (Opens given called) (λ before one at. tt) (λ one before note. tt) (λ before one octets. tt) caller (step_of received) history
        (each_map (Opens given history) (Opens given called) one_opens [] history each)

  -- ---- along a run

  silent_sent : (phases : ℕ) (done left rest : List ℕ) (silent : ℕ) (history : List Event) → SentBy given (AtPackets phases done left) history
      → SentBy given (AtPackets phases (done ++ silent ∷ []) rest) history
  silent_sent phases done left rest silent history sent = λ station octets in_it is. in_more (other_of station) silent done (sent station octets in_it is)

  none_sent : (phases : ℕ) (history : List Event) → HeardNone given history → SentBy given (AtPackets phases [] given.stations) history
  none_sent phases history none = λ station octets in_it is. absurd (let h : None ≡ Some octets = sym (none station in_it) ∙ is in absurd cc)

  pub opening_kept : HaveAddresses given → AreDistinct given.stations → IsKept given (AreOpening given)
  opening_kept six distinct = let kept = hearing_kept given six distinct in record {
    on_turn = λ slot plan history begun at is. record {
      hearing = kept.on_turn slot plan history begun at is.hearing;
      sent = tt;
      each = event_opens given history (TurnBegan slot (map plan.radio_of given.stations)) is.hearing.hears tt is.each;
    };
    on_feed = λ plan done left station history are some now is. record {
      hearing = kept.on_feed plan done left station history are some now is.hearing;
      sent = tt;
      each = feed_opens given station (take (plan.feed_of station) (octets_left given station history)) history is.hearing.hears is.each;
    };
    on_fed = λ history is. record { hearing = kept.on_fed history is.hearing; sent = tt; each = is.each };
    on_begin = λ slot plan done left station history are due is. record {
      hearing = kept.on_begin slot plan done left station history are due is.hearing;
      sent = tt;
      each = call_opens given station (TurnBegins slot (plan.radio_of station)) history is.hearing.hears is.each;
    };
    on_begun = λ history is. record { hearing = kept.on_begun history is.hearing; sent = tt; each = is.each };
    on_phase = λ phases history few is. record {
      hearing = kept.on_phase phases history few is.hearing;
      sent = none_sent phases history is.hearing.hears;
      each = is.each;
    };
    on_silence = λ phases done left station history are none is. record {
      hearing = kept.on_silence phases done left station history are none is.hearing;
      sent = silent_sent phases done (station ∷ left) left station history is.sent;
      each = is.each;
    };
    on_packet = λ phases plan done left station channel octets history are some due is.
        let out = not_before given.stations done left station distinct are in record {
          hearing = kept.on_packet phases plan done left station channel octets history are some due is.hearing;
          sent = packet_sent_by plan.fates phases done left station channel octets history are out due.is_wanted due.is_seen is;
          each = packet_opens plan.fates phases done left station channel octets history are out due.is_wanted due.is_seen is;
        };
    on_air = λ phases history is. record { hearing = kept.on_air phases history is.hearing; sent = tt; each = is.each };
    on_hearing = λ phases done left station history are some is. record {
      hearing = kept.on_hearing phases done left station history are some is.hearing;
      sent = tt;
      each = hearing_opens station history is.each;
    };
    on_heard = λ phases history is. record { hearing = kept.on_heard phases history is.hearing; sent = tt; each = is.each };
    on_phases = λ history is. record { hearing = kept.on_phases history is.hearing; sent = tt; each = is.each };
    on_end = λ done left station history are some is. record {
      hearing = kept.on_end done left station history are some is.hearing;
      sent = tt;
      each = call_opens given station TurnEnds history is.hearing.hears is.each;
    };
    on_ended = λ history is. record { hearing = kept.on_ended history is.hearing; sent = tt; each = is.each };
  }

  pub opening_first : AreOpening given NoTurn []
  opening_first = record { hearing = record { stand = stands_first given; hears = λ station is. first_hears given station }; sent = tt; each = tt }
