-- A controller that began its turn with the radio off does nothing in it.
use Rattle.std.proofs.Common.{◌≡◌, ℕ, ◌-◌, ◌==◌, Bool, true, false, not, List, [], ◌∷◌, ◌++◌, refl, sym, ap, subst, ◌∙◌}
use Rattle.std.specs.Prelude.{fold, map, take, Option, Some, None, slice_get}
use Rattle.std.proofs.lemmas.Bool.{eqb-true}
use Rattle.std.proofs.lemmas.List.Sums.{fold-append}
use Rattle.run_model.specs.controller_model.declared.doing.Doing.{Doing}
use Rattle.run_model.specs.controller_model.declared.doing.Doing.TheVariants.{Rests}
use Rattle.run_model.specs.controller_model.Facts.{Setup, Facts, Idle, first_facts}
use Rattle.run_model.specs.controller_model.Heard.{heard, unheard}
use Rattle.run_model.specs.controller_model.Outcome.{Outcome, facts_passed}
use Rattle.run_model.specs.controller_model.Packets.{use_for}
use Rattle.run_model.specs.controller_model.Side.{facts_after, facts_of, notes_after}
use Rattle.run_model.specs.controller_model.Step.{Step, HostOctet, TurnBegins, PacketHeard, NothingHeard, TurnEnds}
use Rattle.run_model.specs.Due.{Each, plan_at}
use Rattle.run_model.specs.History.{Event, TurnBegan, HostFed, Called, Noted, Transmitted, packet_received, past_of, steps_in, turns_begun}
use Rattle.run_model.specs.Run.{Given, Plan, Stop, Stops, after_call, after_feed, after_octets, facts_at, hearings_of, history_of, octets_left, run_of, setup_at, step_of}
use Rattle.run_model.proofs.Calls.{flat_nothing, past_other, past_own, turns_same}
use Rattle.run_model.proofs.Places.{each_called, each_event}
use Rattle.run_model.proofs.Stations.{among, in_more_other, is_in}
use Rattle.run_model.proofs.Walk.{AfterPhases, AtBegins, AtEnds, AtFeeds, AtListening, AtPackets, IsKept, IsStopped, IsWhole, NoTurn, Place, called_turns, ends_stopped, ends_with, run_kept}

-- ---- by the calls on one controller

-- it began a turn with its radio off, and that turn has not ended
abbrev quiet_after : Bool → Step → Bool
quiet_after quiet (HostOctet octet) = false
quiet_after quiet (TurnBegins slot on) = not on
quiet_after quiet (PacketHeard octets) = quiet
quiet_after quiet NothingHeard = quiet
quiet_after quiet TurnEnds = false

abbrev pub is_quiet : List Step → Bool
is_quiet past = fold quiet_after false past

-- it does nothing, and wants nothing of the radio
pub record DoesNothing (facts : Facts) : Type 0 where
  pub rests : facts.turn.doing ≡ Rests
  pub idle : facts.wanted ≡ Idle

passes_on : (outcome : Outcome) → outcome.next ≡ Rests → DoesNothing (facts_passed outcome)
passes_on outcome is = record { rests = is; idle = ap (use_for outcome.facts) is }

nothing_heard : (setup : Setup) (octets : List ℕ) (facts : Facts) → DoesNothing facts → DoesNothing (facts_after setup facts (PacketHeard octets))
nothing_heard setup octets facts nothing =
    passes_on (heard setup facts.turn.doing octets facts) (ap (λ (doing : Doing). (heard setup doing octets facts).next) nothing.rests)

nothing_unheard : (setup : Setup) (facts : Facts) → DoesNothing facts → DoesNothing (facts_after setup facts NothingHeard)
nothing_unheard setup facts nothing =
    passes_on (unheard facts.turn.doing facts) (ap (λ (doing : Doing). (unheard doing facts).next) nothing.rests)

one_quiet : (setup : Setup) (step : Step) (quiet : Bool) (facts : Facts) → (quiet ≡ true → DoesNothing facts)
    → quiet_after quiet step ≡ true → DoesNothing (facts_after setup facts step)
one_quiet setup (HostOctet octet) quiet facts nothing is = absurd cc
one_quiet setup (TurnBegins slot false) quiet facts nothing is = record { rests = refl; idle = refl }
one_quiet setup (TurnBegins slot true) quiet facts nothing is = absurd cc
one_quiet setup (PacketHeard octets) quiet facts nothing is = nothing_heard setup octets facts (nothing is)
one_quiet setup NothingHeard quiet facts nothing is = nothing_unheard setup facts (nothing is)
one_quiet setup TurnEnds quiet facts nothing is = absurd cc

all_quiet : (setup : Setup) (past : List Step) (quiet : Bool) (facts : Facts) → (quiet ≡ true → DoesNothing facts)
    → fold quiet_after quiet past ≡ true → DoesNothing (fold (facts_after setup) facts past)
all_quiet setup [] quiet facts nothing is = nothing is
all_quiet setup (step ∷ past) quiet facts nothing is =
    all_quiet setup past (quiet_after quiet step) (facts_after setup facts step) (one_quiet setup step quiet facts nothing) is

pub does_nothing : (setup : Setup) (past : List Step) → is_quiet past ≡ true → DoesNothing (facts_of setup past)
unfolding facts_of
does_nothing setup past is = all_quiet setup past false (first_facts setup) (λ never. absurd cc) is

quiet_more : (past : List Step) (step : Step) → is_quiet (past ++ step ∷ []) ≡ quiet_after (is_quiet past) step
quiet_more past step = fold-append quiet_after false past (step ∷ [])

-- ---- in a run

-- where the turn that began last leaves its radio off, it does nothing
abbrev pub IsSilent : Given → List Event → ℕ → Type 0
IsSilent given history station =
    (plan : Plan) → plan_at given history ≡ Some plan → plan.radio_of station ≡ false → is_quiet (past_of station history) ≡ true

abbrev pub SilentBefore : Given → List Event → Event → Type 0
SilentBefore given before (Transmitted station channel octets hearings) = (other : ℕ) → is_in other given.stations ≡ true → IsSilent given before other
SilentBefore given before (TurnBegan slot radios) = Unit {0}
SilentBefore given before (HostFed station octets) = Unit {0}
SilentBefore given before (Called station step) = Unit {0}
SilentBefore given before (Noted station note) = Unit {0}

-- the controllers that began the turn
abbrev AreSilent : Given → Place → List Event → Type 0
AreSilent given NoTurn history = Unit {0}
AreSilent given (AtFeeds done left) history = Unit {0}
AreSilent given (AtBegins done left) history = (other : ℕ) → is_in other done ≡ true → IsSilent given history other
AreSilent given (AfterPhases phases) history = (other : ℕ) → is_in other given.stations ≡ true → IsSilent given history other
AreSilent given (AtPackets phases done left) history = (other : ℕ) → is_in other given.stations ≡ true → IsSilent given history other
AreSilent given (AtListening phases done left) history = (other : ℕ) → is_in other given.stations ≡ true → IsSilent given history other
AreSilent given (AtEnds done left) history = Unit {0}

record IsSilentSoFar (given : Given) (place : Place) (history : List Event) : Type 0 where
  each : Each (SilentBefore given) [] history
  now : AreSilent given place history

same_plan : (one other : Plan) → Some one ≡ Some other → one ≡ other
same_plan one other is = cc

plan_called : (given : Given) (station : ℕ) (step : Step) (history : List Event) → plan_at given (after_call given station step history) ≡ plan_at given history
plan_called given station step history =
    ap (λ n. slice_get given.plans (n - 1)) (called_turns given (turns_begun history) station step history refl)

-- a call that ends a phase
call_silent : (given : Given) (station : ℕ) (step : Step) (history : List Event) (other : ℕ) (same : Bool) → (other == station) ≡ same
    → ((quiet : Bool) → quiet_after quiet step ≡ quiet) → IsSilent given history other → IsSilent given (after_call given station step history) other
call_silent given station step history other true is stays silent = λ plan at off.
    let own : other ≡ station = eqb-true other station is in
    let notes = notes_after (setup_at given station) (facts_at given station history) step in
    ap (λ n. is_quiet (past_of n (after_call given station step history))) own
    ∙ ap is_quiet (past_own station step notes history)
    ∙ quiet_more (past_of station history) step ∙ stays (is_quiet (past_of station history))
    ∙ ap (λ n. is_quiet (past_of n history)) (sym own)
    ∙ silent plan (sym (plan_called given station step history) ∙ at) off
call_silent given station step history other false is stays silent = λ plan at off.
    ap is_quiet (past_other other station step (notes_after (setup_at given station) (facts_at given station history) step) history is)
    ∙ silent plan (sym (plan_called given station step history) ∙ at) off

heard_stays : (received : Option (List ℕ)) (quiet : Bool) → quiet_after quiet (step_of received) ≡ quiet
heard_stays None quiet = refl
heard_stays (Some octets) quiet = refl

-- a controller begins the turn
begin_silent : (given : Given) (station slot : ℕ) (now : Plan) (history : List Event) (done : List ℕ) → plan_at given history ≡ Some now
    → ((other : ℕ) → is_in other done ≡ true → IsSilent given history other)
    → (other : ℕ) (same : Bool) → (other == station) ≡ same → is_in other (done ++ station ∷ []) ≡ true
    → IsSilent given (after_call given station (TurnBegins slot (now.radio_of station)) history) other
begin_silent given station slot now history done is_now silent other true is begun = λ plan at off.
    let step = TurnBegins slot (now.radio_of station) in
    let own : other ≡ station = eqb-true other station is in
    let one : plan ≡ now = same_plan plan now (sym at ∙ plan_called given station step history ∙ is_now) in
    let notes = notes_after (setup_at given station) (facts_at given station history) step in
    ap (λ n. is_quiet (past_of n (after_call given station step history))) own
    ∙ ap is_quiet (past_own station step notes history)
    ∙ quiet_more (past_of station history) step
    ∙ ap not (ap (λ (p : Plan). p.radio_of station) (sym one) ∙ ap plan.radio_of (sym own) ∙ off)
begin_silent given station slot now history done is_now silent other false is begun = λ plan at off.
    let step = TurnBegins slot (now.radio_of station) in
    ap is_quiet (past_other other station step (notes_after (setup_at given station) (facts_at given station history) step) history is)
    ∙ silent other (sym (in_more_other other station done is) ∙ begun) plan (sym (plan_called given station step history) ∙ at) off

-- a packet is on the air
packet_silent : (given : Given) (station channel : ℕ) (octets : List ℕ) (history : List Event) (event : Event) → ((other : ℕ) → steps_in other event ≡ [])
    → turns_begun (history ++ event ∷ []) ≡ turns_begun history → (other : ℕ) → IsSilent given history other → IsSilent given (history ++ event ∷ []) other
packet_silent given station channel octets history event none turns other silent = λ plan at off.
    ap is_quiet (flat_nothing (steps_in other) history event (none other))
    ∙ silent plan (ap (λ n. slice_get given.plans (n - 1)) (sym turns) ∙ at) off

call_each : (given : Given) (station : ℕ) (step : Step) (history : List Event) → Each (SilentBefore given) [] history
    → Each (SilentBefore given) [] (after_call given station step history)
call_each given station step history each =
    each_called (SilentBefore given) station step (notes_after (setup_at given station) (facts_at given station history) step) history each tt (λ before note. tt)

octets_each : (given : Given) (station : ℕ) (octets : List ℕ) (history : List Event) → Each (SilentBefore given) [] history
    → Each (SilentBefore given) [] (after_octets given station octets history)
octets_each given station [] history each = each
octets_each given station (octet ∷ octets) history each =
    octets_each given station octets (after_call given station (HostOctet octet) history) (call_each given station (HostOctet octet) history each)

feed_each : (given : Given) (station : ℕ) (octets : List ℕ) (history : List Event) → Each (SilentBefore given) [] history
    → Each (SilentBefore given) [] (after_feed given station octets history)
feed_each given station [] history each = each
feed_each given station (octet ∷ octets) history each =
    octets_each given station (octet ∷ octets) (history ++ HostFed station (octet ∷ octets) ∷ [])
    (each_event (SilentBefore given) history (HostFed station (octet ∷ octets)) each tt)

none_begun : (other : ℕ) (X : Type 0) → is_in other [] ≡ true → X
none_begun other X is = absurd cc

silent_kept : (given : Given) → IsKept given (IsSilentSoFar given)
silent_kept given = record {
  on_turn = λ slot plan history begun at so_far. record {
    each = each_event (SilentBefore given) history (TurnBegan slot (map plan.radio_of given.stations)) so_far.each tt;
    now = tt;
  };
  on_feed = λ plan done left station history are some now so_far. record {
    each = feed_each given station (take (plan.feed_of station) (octets_left given station history)) history so_far.each;
    now = tt;
  };
  on_fed = λ history so_far. record { each = so_far.each; now = λ other is. none_begun other (IsSilent given history other) is };
  on_begin = λ slot plan done left station history are due so_far. record {
    each = call_each given station (TurnBegins slot (plan.radio_of station)) history so_far.each;
    now = λ other begun. subst (λ on. IsSilent given (after_call given station (TurnBegins slot on) history) other) (sym due.radio_is)
        (begin_silent given station slot due.plan history done due.is_now so_far.now other (other == station) refl begun);
  };
  on_begun = λ history so_far. record { each = so_far.each; now = so_far.now };
  on_phase = λ phases history few so_far. record { each = so_far.each; now = so_far.now };
  on_silence = λ phases done left station history are none so_far. record { each = so_far.each; now = so_far.now };
  on_packet = λ phases plan done left station channel octets history are some due so_far.
      let event = Transmitted station channel octets (hearings_of given plan.fates station channel octets history) in record {
        each = each_event (SilentBefore given) history event so_far.each so_far.now;
        now = λ other is. packet_silent given station channel octets history event (λ any. refl) (turns_same history event refl) other (so_far.now other is);
      };
  on_air = λ phases history so_far. record { each = so_far.each; now = so_far.now };
  on_hearing = λ phases done left station history are some so_far.
      let received = packet_received station history in record {
        each = call_each given station (step_of received) history so_far.each;
        now = λ other is. call_silent given station (step_of received) history other (other == station) refl (heard_stays received) (so_far.now other is);
      };
  on_heard = λ phases history so_far. record { each = so_far.each; now = so_far.now };
  on_phases = λ history so_far. record { each = so_far.each; now = tt };
  on_end = λ done left station history are some so_far. record { each = call_each given station TurnEnds history so_far.each; now = tt };
  on_ended = λ history so_far. record { each = so_far.each; now = tt };
}

pub run_silent : (given : Given) → Each (SilentBefore given) [] (history_of (run_of given))
run_silent given =
    ends_with (run_of given) (IsWhole given (IsSilentSoFar given)) (IsStopped given (IsSilentSoFar given)) (Each (SilentBefore given) [])
    (run_kept given (IsSilentSoFar given) (silent_kept given) (record { each = tt; now = tt }))
    (λ history whole. whole.is.each) (λ history stop stopped. stopped.kept.each)

-- and where a run stops
pub record IsSilentAtStop (given : Given) (history : List Event) (sender : ℕ) : Type 0 where
  pub sender_in : is_in sender given.stations ≡ true
  pub silent : (other : ℕ) → is_in other given.stations ≡ true → IsSilent given history other

pub stop_silent : (given : Given) (history : List Event) (stop : Stop) → run_of given ≡ Stops history stop → IsSilentAtStop given history stop.sender
stop_silent given history stop is =
    let stopped = ends_stopped (run_of given) (IsWhole given (IsSilentSoFar given)) (IsStopped given (IsSilentSoFar given)) history stop
    (run_kept given (IsSilentSoFar given) (silent_kept given) (record { each = tt; now = tt })) is in
    record { sender_in = among given.stations stopped.done stopped.left stop.sender stopped.stations_are; silent = stopped.kept.now }
