-- A station is fed what the turns feed it.
use Rattle.std.proofs.Common.{◌≡◌, ℕ, zero, suc, ◌+◌, ◌-◌, ◌<◌, ◌==◌, Bool, true, false, List, [], ◌∷◌, ◌++◌, length, take, drop, refl, sym, ap, subst, ◌∙◌, append-nil, arith}
use Rattle.std.specs.Prelude.{map, Some, slice_get, if◌then◌else◌}
use Rattle.std.proofs.lemmas.Bool.{eqb-true}
use Rattle.std.proofs.lemmas.List.{take_all}
use Rattle.std.proofs.lemmas.List.Sums.{sum_by-append}
use Rattle.ble_base.specs.declared.notes.Note.{Note}
use Rattle.controller_model.specs.Step.{Step, HostOctet, TurnBegins, TurnEnds}
use Rattle.controller_model.specs.Side.{notes_after}
use Rattle.run_model.specs.History.{Event, TurnBegan, HostFed, Called, Noted, Transmitted, fed_to, octets_in, turns_begun, packet_received}
use Rattle.run_model.specs.Run.{Given, Plan, setup_at, facts_at, octets_left, after_call, after_octets, after_feed, hearings_of, step_of, run_of, history_of}
use Rattle.run_model.specs.Due.{Each, plan_at}
use Rattle.run_model.specs.Feeding.{AreDistinct, feed_total, feeds_at, is_of_feeding}
use Rattle.run_model.proofs.Calls.{flat_nothing, turns_more, turns_same}
use Rattle.run_model.proofs.Places.{each_event, each_called}
use Rattle.run_model.proofs.Stations.{is_in, in_more_same, in_more_other, not_before}
use Rattle.run_model.proofs.Walk.{Place, NoTurn, AtFeeds, AtBegins, AfterPhases, AtPackets, AtListening, AtEnds, IsKept, IsWhole, IsStopped, called_turns, feed_turns, ends_with, run_kept}
use Rattle.run_model.proofs.Dues.{fed_called, fed_own}

-- ---- what is fed in some turns

abbrev fed_in : Given → ℕ → ℕ → List ℕ
fed_in given station turns = take (feed_total station (take turns given.plans)) (given.station_of station).stream

take_on : {X : Type 0} (first second : ℕ) (xs : List X) → take (first + second) xs ≡ take first xs ++ take second (drop (length (take first xs)) xs)
take_on zero second xs = ap (λ n. take n xs) (none second)
  where
    none : (n : ℕ) → 0 + n ≡ n
    none n = omega arith
take_on (suc first) second [] = ap (λ n. take n []) (one_on first second) ∙ sym (nothing second)
  where
    one_on : (n m : ℕ) → suc n + m ≡ suc (n + m)
    one_on n m = omega arith

    nothing : {X : Type 0} (n : ℕ) → take {A = X} n [] ≡ []
    nothing zero = refl
    nothing (suc n) = refl
take_on (suc first) second (x ∷ xs) = ap (λ n. take n (x ∷ xs)) (one_on first second) ∙ ap (λ ys. x ∷ ys) (take_on first second xs)
  where
    one_on : (n m : ℕ) → suc n + m ≡ suc (n + m)
    one_on n m = omega arith

pub take_plan : (turns : ℕ) (plans : List Plan) (plan : Plan) → slice_get plans turns ≡ Some plan → take (suc turns) plans ≡ take turns plans ++ plan ∷ []
take_plan turns [] plan at = absurd cc
take_plan zero (first ∷ plans) plan at = let same : first ≡ plan = cc in ap (λ p. p ∷ []) same
take_plan (suc turns) (first ∷ plans) plan at = ap (λ xs. first ∷ xs) (take_plan turns plans plan at)

sum_one : (station : ℕ) (plan : Plan) → feed_total station (plan ∷ []) ≡ plan.feed_of station
sum_one station plan = omega arith

-- one turn more
fed_more : (given : Given) (station turns : ℕ) (plan : Plan) → slice_get given.plans turns ≡ Some plan
    → fed_in given station (suc turns)
    ≡ fed_in given station turns ++ take (plan.feed_of station) (drop (length (fed_in given station turns)) (given.station_of station).stream)
fed_more given station turns plan at =
    ap (λ plans. take (feed_total station plans) (given.station_of station).stream) (take_plan turns given.plans plan at)
    ∙ ap (λ n. take n (given.station_of station).stream)
    (sum_by-append (λ p. p.feed_of station) (take turns given.plans) (plan ∷ []) ∙ ap (λ n. feed_total station (take turns given.plans) + n) (sum_one station plan))
    ∙ take_on (feed_total station (take turns given.plans)) (plan.feed_of station) (given.station_of station).stream

-- ---- what each step keeps

-- in how many of the turns that began a station was fed: in a turn that feeds the stations, those of which it is done
abbrev turns_done : Bool → ℕ → ℕ
turns_done true begun = begun
turns_done false begun = begun - 1

abbrev turns_fed : Place → ℕ → ℕ → ℕ
turns_fed NoTurn station begun = begun
turns_fed (AtFeeds done left) station begun = turns_done (is_in station done) begun
turns_fed (AtBegins done left) station begun = begun
turns_fed (AfterPhases phases) station begun = begun
turns_fed (AtPackets phases done left) station begun = begun
turns_fed (AtListening phases done left) station begun = begun
turns_fed (AtEnds done left) station begun = begun

abbrev AreFed : Given → List Event → Type 0
AreFed given history = (station : ℕ) → is_in station given.stations ≡ true → fed_to station history ≡ feeds_at given station history

abbrev pub FedBefore : Given → List Event → Event → Type 0
FedBefore given before event = is_of_feeding event ≡ false → AreFed given before

pub record IsFedSoFar (given : Given) (turns : ℕ → ℕ → ℕ) (history : List Event) : Type 0 where
  pub each : Each (FedBefore given) [] history
  pub fed : (station : ℕ) → is_in station given.stations ≡ true → fed_to station history ≡ fed_in given station (turns station (turns_begun history))

abbrev all_turns : ℕ → ℕ → ℕ
all_turns station begun = begun

note_any : (given : Given) (before : List Event) (station : ℕ) (note : Note) → FedBefore given before (Noted station note)
note_any given before station note is = absurd cc

call_fed : (given : Given) (station : ℕ) (step : Step) (history : List Event) → IsFedSoFar given all_turns history → IsFedSoFar given all_turns (after_call given station step history)
call_fed given station step history so_far =
    let notes = notes_after (setup_at given station) (facts_at given station history) step in record {
      each = each_called (FedBefore given) station step notes history so_far.each (λ call. so_far.fed) (λ before note. note_any given before station note);
      fed = λ other is. fed_called other station step notes history ∙ so_far.fed other is
          ∙ ap (fed_in given other) (sym (called_turns given (turns_begun history) station step history refl));
    }

-- ---- a turn feeds a station

fed_octets : (given : Given) (other station : ℕ) (octets : List ℕ) (history : List Event) → fed_to other (after_octets given station octets history) ≡ fed_to other history
fed_octets given other station [] history = refl
fed_octets given other station (octet ∷ octets) history =
    fed_octets given other station octets (after_call given station (HostOctet octet) history)
    ∙ fed_called other station (HostOctet octet) (notes_after (setup_at given station) (facts_at given station history) (HostOctet octet)) history

fed_feed : (given : Given) (other station : ℕ) (octets : List ℕ) (history : List Event) (same : Bool) → (other == station) ≡ same
    → fed_to other (after_feed given station octets history) ≡ fed_to other history ++ (if same then octets else [])
fed_feed given other station [] history true is = sym (append-nil (fed_to other history))
fed_feed given other station [] history false is = sym (append-nil (fed_to other history))
fed_feed given other station (octet ∷ octets) history same is =
    fed_octets given other station (octet ∷ octets) (history ++ HostFed station (octet ∷ octets) ∷ []) ∙ fed_own other station (octet ∷ octets) history same is

octet_any : (given : Given) (before : List Event) (station octet : ℕ) → FedBefore given before (Called station (HostOctet octet))
octet_any given before station octet is = absurd cc

host_any : (given : Given) (before : List Event) (station : ℕ) (octets : List ℕ) → FedBefore given before (HostFed station octets)
host_any given before station octets is = absurd cc

octets_each : (given : Given) (station : ℕ) (octets : List ℕ) (history : List Event) → Each (FedBefore given) [] history
    → Each (FedBefore given) [] (after_octets given station octets history)
octets_each given station [] history each = each
octets_each given station (octet ∷ octets) history each =
    octets_each given station octets (after_call given station (HostOctet octet) history)
    (each_called (FedBefore given) station (HostOctet octet) (notes_after (setup_at given station) (facts_at given station history) (HostOctet octet)) history each
    (octet_any given history station octet) (λ before note. note_any given before station note))

feed_each : (given : Given) (station : ℕ) (octets : List ℕ) (history : List Event) → Each (FedBefore given) [] history
    → Each (FedBefore given) [] (after_feed given station octets history)
feed_each given station [] history each = each
feed_each given station (octet ∷ octets) history each =
    octets_each given station (octet ∷ octets) _
    (each_event (FedBefore given) history (HostFed station (octet ∷ octets)) each (host_any given history station (octet ∷ octets)))

one_less : (begun : ℕ) → 0 < begun → suc (begun - 1) ≡ begun
one_less begun some = omega arith

-- this station: it was not fed yet in the turn, and now it is
own_fed : (given : Given) (plan : Plan) (done : List ℕ) (station : ℕ) (fed : List ℕ) (begun : ℕ) → 0 < begun → slice_get given.plans (begun - 1) ≡ Some plan
    → is_in station done ≡ false → fed ≡ fed_in given station (turns_done (is_in station done) begun)
    → fed ++ take (plan.feed_of station) (drop (length fed) (given.station_of station).stream) ≡ fed_in given station begun
own_fed given plan done station fed begun some at first is =
    let before : fed ≡ fed_in given station (begun - 1) = is ∙ ap (λ b. fed_in given station (turns_done b begun)) first in
    ap (λ xs. xs ++ take (plan.feed_of station) (drop (length xs) (given.station_of station).stream)) before
    ∙ sym (fed_more given station (begun - 1) plan at)
    ∙ ap (fed_in given station) (one_less begun some)

-- any station, by whether it is this one
feed_by : (given : Given) (plan : Plan) (done : List ℕ) (station : ℕ) (history : List Event) → 0 < turns_begun history → plan_at given history ≡ Some plan
    → is_in station done ≡ false
    → (other : ℕ) → fed_to other history ≡ fed_in given other (turns_done (is_in other done) (turns_begun history))
    → (same : Bool) → (other == station) ≡ same
    → fed_to other (after_feed given station (take (plan.feed_of station) (octets_left given station history)) history)
    ≡ fed_in given other (turns_done (is_in other (done ++ station ∷ [])) (turns_begun history))
feed_by given plan done station history some at first other before true is =
    let same = eqb-true other station is in
    let octets = take (plan.feed_of station) (octets_left given station history) in
    fed_feed given other station octets history true is
    ∙ subst (λ s. fed_to s history ++ octets ≡ fed_in given s (turns_begun history)) (sym same)
    (own_fed given plan done station (fed_to station history) (turns_begun history) some at first
    (subst (λ s. fed_to s history ≡ fed_in given s (turns_done (is_in s done) (turns_begun history))) same before))
    ∙ ap (λ b. fed_in given other (turns_done b (turns_begun history))) (sym (in_more_same other station done is))
feed_by given plan done station history some at first other before false is =
    fed_feed given other station (take (plan.feed_of station) (octets_left given station history)) history false is
    ∙ append-nil (fed_to other history) ∙ before
    ∙ ap (λ b. fed_in given other (turns_done b (turns_begun history))) (sym (in_more_other other station done is))

-- ---- the run

less_one : (begun : ℕ) → begun ≡ begun + 1 - 1
less_one begun = omega arith

turn_fed : (given : Given) (history : List Event) (slot : ℕ) (radios : List Bool) → IsFedSoFar given all_turns history
    → IsFedSoFar given (turns_fed (AtFeeds [] given.stations)) (history ++ TurnBegan slot radios ∷ [])
turn_fed given history slot radios so_far = record {
  each = each_event (FedBefore given) history (TurnBegan slot radios) so_far.each (λ turn. so_far.fed);
  fed = λ station is. flat_nothing (octets_in station) history (TurnBegan slot radios) refl ∙ so_far.fed station is
      ∙ ap (fed_in given station) (less_one (turns_begun history) ∙ ap (λ n. n - 1) (sym (turns_more history (TurnBegan slot radios))));
}

packet_fed : (given : Given) (history : List Event) (station channel : ℕ) (octets : List ℕ) (plan : Plan) → IsFedSoFar given all_turns history
    → IsFedSoFar given all_turns (history ++ Transmitted station channel octets (hearings_of given plan.fates station channel octets history) ∷ [])
packet_fed given history station channel octets plan so_far =
    let event = Transmitted station channel octets (hearings_of given plan.fates station channel octets history) in record {
      each = each_event (FedBefore given) history event so_far.each (λ packet. so_far.fed);
      fed = λ other is. flat_nothing (octets_in other) history event refl ∙ so_far.fed other is ∙ ap (fed_in given other) (sym (turns_same history event refl));
    }

fed_kept : (given : Given) → AreDistinct given.stations → IsKept given (λ place history. IsFedSoFar given (turns_fed place) history)
fed_kept given distinct = record {
  on_turn = λ slot plan history begun at so_far. turn_fed given history slot (map plan.radio_of given.stations) so_far;
  on_feed = λ plan done left station history are some now so_far.
      let octets = take (plan.feed_of station) (octets_left given station history) in record {
        each = feed_each given station octets history so_far.each;
        fed = λ other is. feed_by given plan done station history some now (not_before given.stations done left station distinct are) other (so_far.fed other is) (other == station) refl
            ∙ ap (λ n. fed_in given other (turns_done (is_in other (done ++ station ∷ [])) n)) (sym (feed_turns given (turns_begun history) station octets history refl));
      };
  on_fed = λ history so_far. record {
    each = so_far.each;
    fed = λ station is. so_far.fed station is ∙ ap (λ b. fed_in given station (turns_done b (turns_begun history))) is;
  };
  on_begin = λ slot plan done left station history are due so_far. call_fed given station (TurnBegins slot (plan.radio_of station)) history so_far;
  on_begun = λ history so_far. so_far;
  on_phase = λ phases history few so_far. so_far;
  on_silence = λ phases done left station history are none so_far. so_far;
  on_packet = λ phases plan done left station channel octets history are some due so_far. packet_fed given history station channel octets plan so_far;
  on_air = λ phases history so_far. so_far;
  on_hearing = λ phases done left station history are some so_far. call_fed given station (step_of (packet_received station history)) history so_far;
  on_heard = λ phases history so_far. so_far;
  on_phases = λ history so_far. so_far;
  on_end = λ done left station history are some so_far. call_fed given station TurnEnds history so_far;
  on_ended = λ history so_far. so_far;
}

first_fed : (given : Given) (station : ℕ) → [] ≡ fed_in given station (turns_begun [])
unfolding turns_begun
first_fed given station = refl

pub run_fed : (given : Given) → AreDistinct given.stations → IsFedSoFar given all_turns (history_of (run_of given))
run_fed given distinct =
    let P : Place → List Event → Type 0 = λ place history. IsFedSoFar given (turns_fed place) history in
    ends_with (run_of given) (IsWhole given P) (IsStopped given P) (IsFedSoFar given all_turns)
    (run_kept given P (fed_kept given distinct) (record { each = tt; fed = λ station is. first_fed given station }))
    (λ history whole. whole.is) (λ history stop stopped. stopped.kept)

pub whole_fed : (given : Given) (station : ℕ) (history : List Event) → fed_to station history ≡ feeds_at given station history
    → turns_begun history ≡ length given.plans → fed_to station history ≡ take (feed_total station given.plans) (given.station_of station).stream
whole_fed given station history fed begun =
    fed ∙ ap (fed_in given station) begun
    ∙ ap (λ plans. take (feed_total station plans) (given.station_of station).stream) (take_all (length given.plans) given.plans (omega arith))
