-- Each event of a run is due, and a controller takes all octets that its host sends.
use Rattle.std.proofs.Common.{◌≡◌, ℕ, ◌==◌, Bool, true, false, List, [], ◌∷◌, ◌++◌, length, refl, sym, ap, subst, ◌∙◌, append-nil, append_assoc, arith}
use Rattle.std.specs.Prelude.{map, take, Option, Some, None, slice_get, if◌then◌else◌}
use Rattle.std.specs.List.{flat_map}
use Rattle.std.proofs.lemmas.Bool.{eqb-true}
use Rattle.std.proofs.lemmas.Grind.{flat_map-append}
use Rattle.ble_base.specs.declared.notes.Note.{Note}
use Rattle.controller_model.specs.Step.{Step, HostOctet, TurnBegins, TurnEnds}
use Rattle.controller_model.specs.Side.{notes_after}
use Rattle.run_model.specs.History.{Event, TurnBegan, HostFed, Called, Noted, Transmitted, one_if, past_of, fed_to, octets_in, packet_received}
use Rattle.run_model.specs.Run.{Given, Plan, setup_at, facts_at, octets_left, after_call, after_octets, after_feed, hearings_of, step_of, run_of, history_of}
use Rattle.run_model.specs.Due.{Each, plan_at, octet_in, octets_called, IsDue, IsCallDue}
use Rattle.run_model.specs.Feeding.{is_of_feeding}
use Rattle.run_model.proofs.Calls.{with_notes, same_station, flat_unread, flat_nothing, flat_event, past_by}
use Rattle.run_model.proofs.Places.{each_event, each_called}
use Rattle.run_model.proofs.Walk.{IsKept, IsWhole, IsStopped, ends_with, run_kept}

-- ---- octets

pub fed_called : (other station : ℕ) (step : Step) (notes : List Note) (history : List Event) → fed_to other (with_notes station step notes history) ≡ fed_to other history
fed_called other station step notes history = flat_unread (octets_in other) station step notes history refl (λ note. refl)

octets_if : (same : Bool) (step : Step) → flat_map octet_in (one_if same step) ≡ (if same then octet_in step else [])
octets_if true step = append-nil (octet_in step)
octets_if false step = refl

octets_by : (other station : ℕ) (step : Step) (notes : List Note) (history : List Event) (same : Bool) → (other == station) ≡ same
    → octets_called other (with_notes station step notes history) ≡ octets_called other history ++ (if same then octet_in step else [])
octets_by other station step notes history same is =
    ap (flat_map octet_in) (past_by other station step notes history same is)
    ∙ flat_map-append octet_in (past_of other history) (one_if same step)
    ∙ ap (λ xs. octets_called other history ++ xs) (octets_if same step)

none_by : (same : Bool) (step : Step) → octet_in step ≡ [] → (if same then octet_in step else []) ≡ []
none_by true step none = none
none_by false step none = refl

-- a call of no octet
octets_same : (other station : ℕ) (step : Step) (notes : List Note) (history : List Event) → octet_in step ≡ []
    → octets_called other (with_notes station step notes history) ≡ octets_called other history
octets_same other station step notes history none =
    octets_by other station step notes history (other == station) refl
    ∙ ap (λ xs. octets_called other history ++ xs) (none_by (other == station) step none)
    ∙ append-nil (octets_called other history)

-- ---- what each step keeps

-- where a turn does not feed its stations, their controllers have taken all that their hosts sent
abbrev pub TakenBefore : List Event → Event → Type 0
TakenBefore before event = is_of_feeding event ≡ false → (station : ℕ) → octets_called station before ≡ fed_to station before

note_taken : (before : List Event) (station : ℕ) (note : Note) → TakenBefore before (Noted station note)
note_taken before station note is = absurd cc

octet_taken : (before : List Event) (station octet : ℕ) → TakenBefore before (Called station (HostOctet octet))
octet_taken before station octet is = absurd cc

pub record IsDueSoFar (given : Given) (history : List Event) : Type 0 where
  pub each : Each (IsDue given) [] history
  pub before : Each TakenBefore [] history
  pub taken : (station : ℕ) → octets_called station history ≡ fed_to station history

-- an event that feeds nothing and is no call
due_event : (given : Given) (history : List Event) (event : Event) → IsDueSoFar given history → IsDue given history event
    → ((station : ℕ) → octets_called station (history ++ event ∷ []) ≡ octets_called station history)
    → ((station : ℕ) → octets_in station event ≡ []) → IsDueSoFar given (history ++ event ∷ [])
due_event given history event so_far due uncalled unfed = record {
  each = each_event (IsDue given) history event so_far.each due;
  before = each_event TakenBefore history event so_far.before (λ outside. so_far.taken);
  taken = λ station. uncalled station ∙ so_far.taken station ∙ sym (flat_nothing (octets_in station) history event (unfed station));
}

due_call : (given : Given) (station : ℕ) (step : Step) (history : List Event) → octet_in step ≡ [] → IsCallDue given history station step → IsDueSoFar given history
    → IsDueSoFar given (after_call given station step history)
due_call given station step history none due so_far =
    let notes = notes_after (setup_at given station) (facts_at given station history) step in record {
      each = each_called (IsDue given) station step notes history so_far.each due (λ before note. tt);
      before = each_called TakenBefore station step notes history so_far.before (λ outside. so_far.taken) (λ before note. note_taken before station note);
      taken = λ other. octets_same other station step notes history none ∙ so_far.taken other ∙ sym (fed_called other station step notes history);
    }

-- ---- a host feeds octets

next_octet : (called fed octets : List ℕ) (octet : ℕ) → fed ≡ called ++ octet ∷ octets → slice_get fed (length called) ≡ Some octet
next_octet called fed octets octet is = ap (λ xs. slice_get xs (length called)) is ∙ found called
  where
    found : (before : List ℕ) → slice_get (before ++ octet ∷ octets) (length before) ≡ Some octet
    found [] = refl
    found (first ∷ before) = found before

-- these octets are still to be taken by the station
record IsDueWhile (given : Given) (station : ℕ) (octets : List ℕ) (history : List Event) : Type 0 where
  pub each : Each (IsDue given) [] history
  pub before : Each TakenBefore [] history
  pub taking : fed_to station history ≡ octets_called station history ++ octets
  pub taken : (other : ℕ) → (other == station) ≡ false → octets_called other history ≡ fed_to other history

taken_by : (given : Given) (station : ℕ) (history : List Event) → IsDueWhile given station [] history → (other : ℕ) (same : Bool) → (other == station) ≡ same
    → octets_called other history ≡ fed_to other history
taken_by given station history while other true is =
    let same = eqb-true other station is in
    subst (λ s. octets_called s history ≡ fed_to s history) (sym same) (sym (while.taking ∙ append-nil (octets_called station history)))
taken_by given station history while other false is = while.taken other is

octets_due : (given : Given) (station : ℕ) (octets : List ℕ) (history : List Event) → IsDueWhile given station octets history
    → IsDueSoFar given (after_octets given station octets history)
octets_due given station [] history while = record { each = while.each; before = while.before; taken = λ other. taken_by given station history while other (other == station) refl }
octets_due given station (octet ∷ octets) history while =
    let notes = notes_after (setup_at given station) (facts_at given station history) (HostOctet octet) in
    octets_due given station octets (after_call given station (HostOctet octet) history) (record {
      each = each_called (IsDue given) station (HostOctet octet) notes history while.each
          (next_octet (octets_called station history) (fed_to station history) octets octet while.taking) (λ before note. tt);
      before = each_called TakenBefore station (HostOctet octet) notes history while.before (octet_taken history station octet) (λ before note. note_taken before station note);
      taking = fed_called station station (HostOctet octet) notes history ∙ while.taking ∙ sym (append_assoc (octets_called station history) (octet ∷ []) octets)
          ∙ ap (λ xs. xs ++ octets) (sym (octets_by station station (HostOctet octet) notes history true (same_station station)));
      taken = λ other differs. octets_by other station (HostOctet octet) notes history false differs ∙ append-nil (octets_called other history)
          ∙ while.taken other differs ∙ sym (fed_called other station (HostOctet octet) notes history);
    })

pub fed_own : (other station : ℕ) (octets : List ℕ) (history : List Event) (same : Bool) → (other == station) ≡ same
    → fed_to other (history ++ HostFed station octets ∷ []) ≡ fed_to other history ++ (if same then octets else [])
fed_own other station octets history same is =
    flat_event (octets_in other) history (HostFed station octets) ∙ ap (λ b. fed_to other history ++ (if b then octets else [])) is

uncalled : (other : ℕ) (history : List Event) (event : Event) → past_of other (history ++ event ∷ []) ≡ past_of other history
    → octets_called other (history ++ event ∷ []) ≡ octets_called other history
uncalled other history event is = ap (flat_map octet_in) is

past_fed : (other station : ℕ) (octets : List ℕ) (history : List Event) → past_of other (history ++ HostFed station octets ∷ []) ≡ past_of other history
past_fed other station octets history = flat_nothing _ history (HostFed station octets) refl

host_taken : (before : List Event) (station : ℕ) (octets : List ℕ) → TakenBefore before (HostFed station octets)
host_taken before station octets is = absurd cc

feed_due : (given : Given) (plan : Plan) (station : ℕ) (octets : List ℕ) (history : List Event) → plan_at given history ≡ Some plan
    → octets ≡ take (plan.feed_of station) (octets_left given station history) → IsDueSoFar given history → IsDueSoFar given (after_feed given station octets history)
feed_due given plan station [] history now are so_far = so_far
feed_due given plan station (octet ∷ octets) history now are so_far =
    octets_due given station (octet ∷ octets) (history ++ HostFed station (octet ∷ octets) ∷ []) (record {
      each = each_event (IsDue given) history (HostFed station (octet ∷ octets)) so_far.each
          (record { plan = plan; is_now = now; octets_are = are; is_some = omega arith });
      before = each_event TakenBefore history (HostFed station (octet ∷ octets)) so_far.before (host_taken history station (octet ∷ octets));
      taking = fed_own station station (octet ∷ octets) history true (same_station station)
          ∙ ap (λ xs. xs ++ octet ∷ octets) (sym (so_far.taken station) ∙ sym (uncalled station history _ (past_fed station station (octet ∷ octets) history)));
      taken = λ other differs. uncalled other history _ (past_fed other station (octet ∷ octets) history) ∙ so_far.taken other
          ∙ sym (fed_own other station (octet ∷ octets) history false differs ∙ append-nil (fed_to other history));
    })

-- ---- the run

received_due : (given : Given) (station : ℕ) (history : List Event) (received : Option (List ℕ)) → packet_received station history ≡ received
    → IsCallDue given history station (step_of received)
received_due given station history None is = is
received_due given station history (Some octets) is = is

no_octet : (received : Option (List ℕ)) → octet_in (step_of received) ≡ []
no_octet None = refl
no_octet (Some octets) = refl

due_kept : (given : Given) → IsKept given (λ place history. IsDueSoFar given history)
due_kept given = record {
  on_turn = λ slot plan history begun at so_far. due_event given history (TurnBegan slot (map plan.radio_of given.stations)) so_far
      (record { slot_is = sym begun; plan = plan; is_next = at; radios_are = refl })
      (λ station. uncalled station history _ (flat_nothing _ history _ refl)) (λ station. refl);
  on_feed = λ plan done left station history are some now so_far. feed_due given plan station _ history now refl so_far;
  on_fed = λ history so_far. so_far;
  on_begin = λ slot plan done left station history are due so_far. due_call given station (TurnBegins slot (plan.radio_of station)) history refl due so_far;
  on_begun = λ history so_far. so_far;
  on_phase = λ phases history few so_far. so_far;
  on_silence = λ phases done left station history are none so_far. so_far;
  on_packet = λ phases plan done left station channel octets history are some due so_far.
      due_event given history (Transmitted station channel octets (hearings_of given plan.fates station channel octets history)) so_far due
      (λ other. uncalled other history _ (flat_nothing _ history _ refl)) (λ other. refl);
  on_air = λ phases history so_far. so_far;
  on_hearing = λ phases done left station history are some so_far. due_call given station (step_of (packet_received station history)) history
      (no_octet (packet_received station history)) (received_due given station history (packet_received station history) refl) so_far;
  on_heard = λ phases history so_far. so_far;
  on_phases = λ history so_far. so_far;
  on_end = λ done left station history are some so_far. due_call given station TurnEnds history refl tt so_far;
  on_ended = λ history so_far. so_far;
}

pub run_due : (given : Given) → IsDueSoFar given (history_of (run_of given))
run_due given =
    ends_with (run_of given) (IsWhole given (λ place history. IsDueSoFar given history)) (IsStopped given (λ place history. IsDueSoFar given history)) (IsDueSoFar given)
    (run_kept given (λ place history. IsDueSoFar given history) (due_kept given) (record { each = tt; before = tt; taken = λ station. refl }))
    (λ history whole. whole.is) (λ history stop stopped. stopped.kept)
