-- Whoever ends a phase has transmitted just what it wanted to in it.
use Rattle.std.proofs.Common.{◌≡◌, ℕ, ◌==◌, Bool, true, false, List, [], ◌∷◌, ◌++◌, refl, sym, ap, subst, ◌∙◌, append-nil}
use Rattle.std.specs.Prelude.{map, take, if◌then◌else◌}
use Rattle.std.proofs.lemmas.Bool.{eqb-true}
use Rattle.ble_base.specs.declared.notes.Note.{Note}
use Rattle.controller_model.specs.Step.{Step, HostOctet, TurnBegins, TurnEnds}
use Rattle.controller_model.specs.Packets.{use_of}
use Rattle.controller_model.specs.Side.{facts_of, notes_after}
use Rattle.run_model.specs.History.{Event, TurnBegan, HostFed, Called, Noted, Transmitted, Hearing as Heard, one_if, past_of, steps_in, packet_received}
use Rattle.run_model.specs.Run.{Given, Stop, Stops, setup_at, facts_at, use_at, octets_left, after_call, after_octets, after_feed, hearings_of, step_of, run_of, history_of}
use Rattle.run_model.specs.Due.{Each, packet_in}
use Rattle.run_model.specs.Feeding.{AreDistinct}
use Rattle.run_model.specs.OnAir.{IsNextOnAir, ends_phase, transmitted_after, transmitted_since}
use Rattle.run_model.proofs.Calls.{with_notes, flat_nothing, fold_called, fold_event, past_other}
use Rattle.run_model.proofs.Places.{each_event, each_called}
use Rattle.run_model.proofs.Stations.{is_in, in_more_same, in_more_other, not_before, among, all_in, all_with, left_out}
use Rattle.run_model.proofs.Walk.{Place, NoTurn, AtFeeds, AtBegins, AfterPhases, AtPackets, AtListening, AtEnds, IsKept, IsWhole, IsStopped, ends_with, ends_stopped, run_kept}

-- ---- what was transmitted

transmitted_called : (other station : ℕ) (step : Step) (notes : List Note) (history : List Event)
    → transmitted_since other (with_notes station step notes history) ≡ (if other == station then [] else transmitted_since other history)
unfolding transmitted_since
transmitted_called other station step notes history = fold_called (transmitted_after other) [] station step notes history (λ before note. refl)

transmitted_by : (other station : ℕ) (step : Step) (notes : List Note) (history : List Event) (same : Bool) → (other == station) ≡ same
    → transmitted_since other (with_notes station step notes history) ≡ (if same then [] else transmitted_since other history)
transmitted_by other station step notes history same is =
    transmitted_called other station step notes history ∙ ap (λ b. if b then [] else transmitted_since other history) is

transmitted_event : (other : ℕ) (history : List Event) (event : Event) → transmitted_since other (history ++ event ∷ []) ≡ transmitted_after other (transmitted_since other history) event
unfolding transmitted_since
transmitted_event other history event = fold_event (transmitted_after other) [] history event

transmitted_more : (other station channel : ℕ) (octets : List ℕ) (hearings : List Heard) (history : List Event) (same : Bool) → (other == station) ≡ same
    → transmitted_since other (history ++ Transmitted station channel octets hearings ∷ []) ≡ transmitted_since other history ++ one_if same (channel, octets)
transmitted_more other station channel octets hearings history same is =
    transmitted_event other history (Transmitted station channel octets hearings) ∙ ap (λ b. transmitted_since other history ++ one_if b (channel, octets)) is

pub use_same : (given : Given) (station : ℕ) (history after : List Event) → past_of station after ≡ past_of station history → use_at given station after ≡ use_at given station history
use_same given station history after is = ap (λ past. use_of (facts_of (setup_at given station) past)) is

-- ---- what each step keeps

abbrev packets_wanted : Given → ℕ → List Event → List (ℕ × List ℕ)
packets_wanted given station history = packet_in (use_at given station history)

abbrev sends_at : Given → Place → ℕ → List Event → List (ℕ × List ℕ)
sends_at given NoTurn station history = []
sends_at given (AtFeeds done left) station history = []
sends_at given (AtBegins done left) station history = []
sends_at given (AfterPhases phases) station history = []
sends_at given (AtEnds done left) station history = []
sends_at given (AtPackets phases done left) station history = if is_in station done then packets_wanted given station history else []
sends_at given (AtListening phases done left) station history =
    if is_in station done then [] else (if is_in station given.stations then packets_wanted given station history else [])

abbrev pub SentBefore : Given → List Event → Event → Type 0
SentBefore given before (Called station step) = ends_phase step ≡ true → transmitted_since station before ≡ packet_in (use_at given station before)
SentBefore given before (Transmitted station channel octets hearings) = IsNextOnAir given before station
SentBefore given before (TurnBegan slot radios) = Unit {0}
SentBefore given before (HostFed station octets) = Unit {0}
SentBefore given before (Noted station note) = Unit {0}

pub record IsSentSoFar (given : Given) (sends : ℕ → List Event → List (ℕ × List ℕ)) (history : List Event) : Type 0 where
  pub each : Each (SentBefore given) [] history
  pub sent : (station : ℕ) → transmitted_since station history ≡ sends station history

abbrev nothing : ℕ → List Event → List (ℕ × List ℕ)
nothing station history = []

-- ---- where nothing is on the air

quiet_by : (same : Bool) (before : List (ℕ × List ℕ)) → before ≡ [] → (if same then [] else before) ≡ []
quiet_by true before is = refl
quiet_by false before is = is

no_end : (given : Given) (station : ℕ) (step : Step) (history : List Event) → ends_phase step ≡ false → SentBefore given history (Called station step)
no_end given station step history is ends = absurd (let h : true ≡ false = sym ends ∙ is in absurd cc)

quiet_call : (given : Given) (station : ℕ) (step : Step) (history : List Event) → ends_phase step ≡ false → IsSentSoFar given nothing history
    → IsSentSoFar given nothing (after_call given station step history)
quiet_call given station step history is so_far =
    let notes = notes_after (setup_at given station) (facts_at given station history) step in record {
      each = each_called (SentBefore given) station step notes history so_far.each (no_end given station step history is) (λ before note. tt);
      sent = λ other. transmitted_called other station step notes history ∙ quiet_by (other == station) (transmitted_since other history) (so_far.sent other);
    }

quiet_octets : (given : Given) (station : ℕ) (octets : List ℕ) (history : List Event) → IsSentSoFar given nothing history
    → IsSentSoFar given nothing (after_octets given station octets history)
quiet_octets given station [] history so_far = so_far
quiet_octets given station (octet ∷ octets) history so_far =
    quiet_octets given station octets (after_call given station (HostOctet octet) history) (quiet_call given station (HostOctet octet) history refl so_far)

quiet_feed : (given : Given) (station : ℕ) (octets : List ℕ) (history : List Event) → IsSentSoFar given nothing history
    → IsSentSoFar given nothing (after_feed given station octets history)
quiet_feed given station [] history so_far = so_far
quiet_feed given station (octet ∷ octets) history so_far =
    quiet_octets given station (octet ∷ octets) (history ++ HostFed station (octet ∷ octets) ∷ []) (record {
      each = each_event (SentBefore given) history (HostFed station (octet ∷ octets)) so_far.each tt;
      sent = λ other. transmitted_event other history (HostFed station (octet ∷ octets)) ∙ so_far.sent other;
    })

-- ---- a packet

-- those of which it is done have transmitted what they want to, and those that are left nothing
is_next : (given : Given) (done left : List ℕ) (station : ℕ) (history : List Event) → AreDistinct given.stations → given.stations ≡ done ++ station ∷ left
    → ((other : ℕ) → transmitted_since other history ≡ sends_at given (AtPackets 0 done (station ∷ left)) other history) → IsNextOnAir given history station
is_next given done left station history distinct are sent = record {
  earlier = done;
  later = left;
  stations_are = are;
  are_done = all_in (λ other. transmitted_since other history ≡ packet_in (use_at given other history)) done
      (λ other is. sent other ∙ ap (λ b. if b then packets_wanted given other history else []) is);
  are_left = all_with (λ other. is_in other done ≡ false) (λ other. transmitted_since other history ≡ []) (station ∷ left)
      (λ other is. sent other ∙ ap (λ b. if b then packets_wanted given other history else []) is)
      (left_out done (station ∷ left) (subst AreDistinct are distinct));
}

packet_by : (given : Given) (done : List ℕ) (station channel : ℕ) (octets : List ℕ) (hearings : List Heard) (history : List Event)
    → is_in station done ≡ false → packets_wanted given station history ≡ (channel, octets) ∷ []
    → (other : ℕ) → transmitted_since other history ≡ (if is_in other done then packets_wanted given other history else [])
    → (same : Bool) → (other == station) ≡ same
    → transmitted_since other (history ++ Transmitted station channel octets hearings ∷ [])
    ≡ (if is_in other (done ++ station ∷ []) then packets_wanted given other (history ++ Transmitted station channel octets hearings ∷ []) else [])
packet_by given done station channel octets hearings history first wants other before true is =
    let same = eqb-true other station is in
    let event = Transmitted station channel octets hearings in
    let unsent : transmitted_since other history ≡ [] =
    before ∙ ap (λ b. if b then packets_wanted given other history else []) (ap (λ s. is_in s done) same ∙ first) in
    transmitted_more other station channel octets hearings history true is
    ∙ ap (λ xs. xs ++ (channel, octets) ∷ []) unsent
    ∙ sym wants ∙ ap (λ s. packets_wanted given s history) (sym same)
    ∙ ap packet_in (sym (use_same given other history (history ++ event ∷ []) (flat_nothing (steps_in other) history event refl)))
    ∙ ap (λ b. if b then packets_wanted given other (history ++ event ∷ []) else []) (sym (in_more_same other station done is))
packet_by given done station channel octets hearings history first wants other before false is =
    let event = Transmitted station channel octets hearings in
    transmitted_more other station channel octets hearings history false is
    ∙ append-nil (transmitted_since other history) ∙ before
    ∙ ap (λ packets. if is_in other done then packets else [])
    (ap packet_in (sym (use_same given other history (history ++ event ∷ []) (flat_nothing (steps_in other) history event refl))))
    ∙ ap (λ b. if b then packets_wanted given other (history ++ event ∷ []) else []) (sym (in_more_other other station done is))

-- a station that wants to transmit nothing
silence_by : (given : Given) (done : List ℕ) (station : ℕ) (history : List Event) → is_in station done ≡ false → packets_wanted given station history ≡ []
    → (other : ℕ) → transmitted_since other history ≡ (if is_in other done then packets_wanted given other history else [])
    → (same : Bool) → (other == station) ≡ same
    → transmitted_since other history ≡ (if is_in other (done ++ station ∷ []) then packets_wanted given other history else [])
silence_by given done station history first wants other before true is =
    let same = eqb-true other station is in
    before ∙ ap (λ b. if b then packets_wanted given other history else []) (ap (λ s. is_in s done) same ∙ first)
    ∙ sym wants ∙ ap (λ s. packets_wanted given s history) (sym same)
    ∙ ap (λ b. if b then packets_wanted given other history else []) (sym (in_more_same other station done is))
silence_by given done station history first wants other before false is =
    before ∙ ap (λ b. if b then packets_wanted given other history else []) (sym (in_more_other other station done is))

-- ---- the end of a phase

heard_by : (given : Given) (done : List ℕ) (station : ℕ) (step : Step) (history : List Event)
    → (other : ℕ) → transmitted_since other history ≡ sends_at given (AtListening 0 done []) other history
    → (same : Bool) → (other == station) ≡ same
    → transmitted_since other (after_call given station step history) ≡ sends_at given (AtListening 0 (done ++ station ∷ []) []) other (after_call given station step history)
heard_by given done station step history other before true is =
    let after = after_call given station step history in
    transmitted_by other station step (notes_after (setup_at given station) (facts_at given station history) step) history true is
    ∙ ap (λ b. if b then [] else (if is_in other given.stations then packets_wanted given other after else [])) (sym (in_more_same other station done is))
heard_by given done station step history other before false is =
    let notes = notes_after (setup_at given station) (facts_at given station history) step in
    let after = after_call given station step history in
    transmitted_by other station step notes history false is ∙ before
    ∙ ap (λ packets. if is_in other done then [] else (if is_in other given.stations then packets else []))
    (ap packet_in (sym (use_same given other history after (past_other other station step notes history is))))
    ∙ ap (λ b. if b then [] else (if is_in other given.stations then packets_wanted given other after else [])) (sym (in_more_other other station done is))

all_heard : (in_stations : Bool) (packets : List (ℕ × List ℕ)) → (if in_stations then [] else (if in_stations then packets else [])) ≡ []
all_heard true packets = refl
all_heard false packets = refl

ends_it : (given : Given) (done left : List ℕ) (station : ℕ) (history : List Event) → AreDistinct given.stations → given.stations ≡ done ++ station ∷ left
    → transmitted_since station history ≡ sends_at given (AtListening 0 done (station ∷ left)) station history
    → transmitted_since station history ≡ packet_in (use_at given station history)
ends_it given done left station history distinct are sent =
    sent
    ∙ ap (λ b. if b then [] else (if is_in station given.stations then packets_wanted given station history else [])) (not_before given.stations done left station distinct are)
    ∙ ap (λ b. if b then packets_wanted given station history else []) (among given.stations done left station are)

-- ---- the run

sent_kept : (given : Given) → AreDistinct given.stations → IsKept given (λ place history. IsSentSoFar given (sends_at given place) history)
sent_kept given distinct = record {
  on_turn = λ slot plan history begun at so_far. record {
    each = each_event (SentBefore given) history (TurnBegan slot (map plan.radio_of given.stations)) so_far.each tt;
    sent = λ station. transmitted_event station history (TurnBegan slot (map plan.radio_of given.stations)) ∙ so_far.sent station;
  };
  on_feed = λ plan done left station history are some now so_far.
      let quiet = quiet_feed given station (take (plan.feed_of station) (octets_left given station history)) history (record { each = so_far.each; sent = so_far.sent }) in
      record { each = quiet.each; sent = quiet.sent };
  on_fed = λ history so_far. record { each = so_far.each; sent = so_far.sent };
  on_begin = λ slot plan done left station history are due so_far. quiet_call given station (TurnBegins slot (plan.radio_of station)) history refl so_far;
  on_begun = λ history so_far. record { each = so_far.each; sent = so_far.sent };
  on_phase = λ phases history few so_far. record { each = so_far.each; sent = so_far.sent };
  on_silence = λ phases done left station history are none so_far. record {
    each = so_far.each;
    sent = λ other. silence_by given done station history (not_before given.stations done left station distinct are) none other (so_far.sent other) (other == station) refl;
  };
  on_packet = λ phases plan done left station channel octets history are some due so_far.
      let hearings = hearings_of given plan.fates station channel octets history in record {
        each = each_event (SentBefore given) history (Transmitted station channel octets hearings) so_far.each
            (is_next given done left station history distinct are so_far.sent);
        sent = λ other. packet_by given done station channel octets hearings history (not_before given.stations done left station distinct are)
            (ap packet_in due.is_wanted) other (so_far.sent other) (other == station) refl;
      };
  on_air = λ phases history so_far. record { each = so_far.each; sent = so_far.sent };
  on_hearing = λ phases done left station history are some so_far.
      let step = step_of (packet_received station history) in record {
        each = each_called (SentBefore given) station step (notes_after (setup_at given station) (facts_at given station history) step) history so_far.each
            (λ ends. ends_it given done left station history distinct are (so_far.sent station)) (λ before note. tt);
        sent = λ other. heard_by given done station step history other (so_far.sent other) (other == station) refl;
      };
  on_heard = λ phases history so_far. record {
    each = so_far.each;
    sent = λ station. so_far.sent station ∙ all_heard (is_in station given.stations) (packets_wanted given station history);
  };
  on_phases = λ history so_far. record { each = so_far.each; sent = so_far.sent };
  on_end = λ done left station history are some so_far. quiet_call given station TurnEnds history refl so_far;
  on_ended = λ history so_far. record { each = so_far.each; sent = so_far.sent };
}

first_sent : (station : ℕ) → transmitted_since station [] ≡ []
unfolding transmitted_since
first_sent station = refl

abbrev Sent : Given → Place → List Event → Type 0
Sent given place history = IsSentSoFar given (sends_at given place) history

pub run_sent : (given : Given) → AreDistinct given.stations → Each (SentBefore given) [] (history_of (run_of given))
run_sent given distinct =
    ends_with (run_of given) (IsWhole given (Sent given)) (IsStopped given (Sent given)) (Each (SentBefore given) [])
    (run_kept given (Sent given) (sent_kept given distinct) (record { each = tt; sent = first_sent }))
    (λ history whole. whole.is.each) (λ history stop stopped. stopped.kept.each)

pub stop_next : (given : Given) → AreDistinct given.stations → (history : List Event) (stop : Stop) → run_of given ≡ Stops history stop
    → IsNextOnAir given history stop.sender
stop_next given distinct history stop is =
    let stopped = ends_stopped (run_of given) (IsWhole given (Sent given)) (IsStopped given (Sent given)) history stop
    (run_kept given (Sent given) (sent_kept given distinct) (record { each = tt; sent = first_sent })) is in
    is_next given stopped.done stopped.left stop.sender history distinct stopped.stations_are stopped.kept.sent
