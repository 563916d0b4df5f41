-- The packets of a turn have its fates in order, and come after its feeding.
use Rattle.std.proofs.Common.{◌≡◌, ℕ, zero, suc, ◌+◌, ◌-◌, true, List, [], ◌∷◌, ◌++◌, length, inl, inr, refl, sym, ap, subst, ◌∙◌, arith}
use Rattle.std.specs.Prelude.{fold, map, take, Some, slice_get}
use Rattle.std.specs.List.{flat_map}
use Rattle.ble_base.specs.declared.roles.Side.{Side}
use Rattle.ble_base.specs.declared.notes.Note.{Note}
use Rattle.ble_base.specs.declared.notes.Note.TheVariants.{Up as UpNote}
use Rattle.ble_base.specs.declared.verdicts.Verdict.{Verdict}
use Rattle.journal.specs.declared.entries.Entry.{Entry}
use Rattle.journal.specs.declared.entries.Entry.TheVariants.{Fed, Air}
use Rattle.journal.specs.declared.entries.Mark.{Mark}
use Rattle.radio_replay.specs.declared.fates.Fate.{Fate}
use Rattle.radio_replay.specs.Script.{Script, Turn as ScriptTurn}
use Rattle.controller_model.specs.Step.{Step, HostOctet, TurnBegins, TurnEnds}
use Rattle.controller_model.specs.Side.{notes_after}
use Rattle.run_model.specs.History.{Event, TurnBegan, HostFed, Called, Noted, Transmitted, Hearing as Heard, turns_begun, turns_in, packets_on_air, packets_after, fates_used, fates_after, packet_received}
use Rattle.run_model.specs.Links.{Links, first_links, links_after, links_of}
use Rattle.run_model.specs.Journal.{side_of, entry_of, entries_of, journal_from, journal_of, mark_of}
use Rattle.run_model.specs.Run.{Given, Plan, Stop, Stops, setup_at, facts_at, octets_left, after_call, after_octets, after_feed, hearings_from, hearings_of, others_than, fate_at, step_of, run_of, history_of}
use Rattle.run_model.specs.Pair.{given_of, plan_of}
use Rattle.run_model.specs.Due.{Each}
use Rattle.run_model.specs.Readers.{HasNextFate, turn_packets, turn_packets_after, pair_openings_in, turns_of}
use Rattle.run_model.proofs.Calls.{with_notes, fold_called, fold_event}
use Rattle.run_model.proofs.Places.{each_at, each_event, each_called}
use Rattle.run_model.proofs.Stations.{is_in, among}
use Rattle.run_model.proofs.Walk.{Place, NoTurn, AtFeeds, AtBegins, AfterPhases, AtPackets, AtListening, AtEnds, IsKept, IsWhole, IsStopped, ends_stopped, ends_with, run_kept}
use Rattle.run_model.proofs.Journals.{each_front, two, note_turns}
use Rattle.run_model.proofs.EntryEvents.{is_aired, is_of_event}

-- ---- counts

packets_called : (station : ℕ) (step : Step) (notes : List Note) (history : List Event) → packets_on_air (with_notes station step notes history) ≡ packets_on_air history
unfolding packets_on_air
packets_called station step notes history = fold_called packets_after 0 station step notes history (λ before note. refl)

packets_event : (history : List Event) (event : Event) → packets_on_air (history ++ event ∷ []) ≡ packets_after (packets_on_air history) event
unfolding packets_on_air
packets_event history event = fold_event packets_after 0 history event

fates_called : (station : ℕ) (step : Step) (notes : List Note) (history : List Event) → fates_used (with_notes station step notes history) ≡ fates_used history
unfolding fates_used
fates_called station step notes history = fold_called fates_after 0 station step notes history (λ before note. refl)

fates_event : (history : List Event) (event : Event) → fates_used (history ++ event ∷ []) ≡ fates_after (fates_used history) event
unfolding fates_used
fates_event history event = fold_event fates_after 0 history event

many_hearings : (given : Given) (fates : List Fate) (number channel : ℕ) (octets : List ℕ) (history : List Event) (listeners : List ℕ)
    → length (hearings_from given fates number channel octets history listeners) ≡ length listeners
many_hearings given fates number channel octets history [] = refl
many_hearings given fates number channel octets history (listener ∷ listeners) = ap suc (many_hearings given fates (number + 1) channel octets history listeners)

-- ---- what each step keeps

-- each station has one other
abbrev pub HasOneOther : Given → Type 0
HasOneOther given = (station : ℕ) → is_in station given.stations ≡ true → length (others_than station given.stations) ≡ 1

abbrev pub FatesBefore : Given → List Event → Event → Type 0
FatesBefore given before (HostFed station octets) = packets_on_air before ≡ 0
FatesBefore given before (Transmitted station channel octets hearings) = HasOneOther given → (fates_used before ≡ packets_on_air before) × (length hearings ≡ 1)
FatesBefore given before (TurnBegan slot radios) = Unit {0}
FatesBefore given before (Called station step) = Unit {0}
FatesBefore given before (Noted station note) = Unit {0}

abbrev IsWithin : Place → List Event → Type 0
IsWithin NoTurn history = Unit {0}
IsWithin (AtFeeds done left) history = packets_on_air history ≡ 0
IsWithin (AtBegins done left) history = Unit {0}
IsWithin (AfterPhases phases) history = Unit {0}
IsWithin (AtPackets phases done left) history = Unit {0}
IsWithin (AtListening phases done left) history = Unit {0}
IsWithin (AtEnds done left) history = Unit {0}

pub record IsFatedSoFar (given : Given) (place : Place) (history : List Event) : Type 0 where
  pub each : Each (FatesBefore given) [] history
  pub within : IsWithin place history
  pub fates : HasOneOther given → fates_used history ≡ packets_on_air history

record IsCounted (given : Given) (history : List Event) : Type 0 where
  pub each : Each (FatesBefore given) [] history
  pub fates : HasOneOther given → fates_used history ≡ packets_on_air history

call_counted : (given : Given) (station : ℕ) (step : Step) (history : List Event) → Each (FatesBefore given) [] history
    → (HasOneOther given → fates_used history ≡ packets_on_air history) → IsCounted given (after_call given station step history)
call_counted given station step history each fates =
    let notes = notes_after (setup_at given station) (facts_at given station history) step in record {
      each = each_called (FatesBefore given) station step notes history each tt (λ before note. tt);
      fates = λ one. fates_called station step notes history ∙ fates one ∙ sym (packets_called station step notes history);
    }

octets_counted : (given : Given) (station : ℕ) (octets : List ℕ) (history : List Event) → IsCounted given history → IsCounted given (after_octets given station octets history)
octets_counted given station [] history counted = counted
octets_counted given station (octet ∷ octets) history counted =
    octets_counted given station octets (after_call given station (HostOctet octet) history) (call_counted given station (HostOctet octet) history counted.each counted.fates)

octets_packets : (given : Given) (station : ℕ) (octets : List ℕ) (history : List Event) → packets_on_air (after_octets given station octets history) ≡ packets_on_air history
octets_packets given station [] history = refl
octets_packets given station (octet ∷ octets) history =
    octets_packets given station octets (after_call given station (HostOctet octet) history)
    ∙ packets_called station (HostOctet octet) (notes_after (setup_at given station) (facts_at given station history) (HostOctet octet)) history

feed_packets : (given : Given) (station : ℕ) (octets : List ℕ) (history : List Event) → packets_on_air (after_feed given station octets history) ≡ packets_on_air history
feed_packets given station [] history = refl
feed_packets given station (octet ∷ octets) history =
    octets_packets given station (octet ∷ octets) (history ++ HostFed station (octet ∷ octets) ∷ []) ∙ packets_event history (HostFed station (octet ∷ octets))

feed_counted : (given : Given) (station : ℕ) (octets : List ℕ) (history : List Event) → packets_on_air history ≡ 0 → IsCounted given history
    → IsCounted given (after_feed given station octets history)
feed_counted given station [] history none counted = counted
feed_counted given station (octet ∷ octets) history none counted =
    let event = HostFed station (octet ∷ octets) in
    octets_counted given station (octet ∷ octets) (history ++ event ∷ []) (record {
      each = each_event (FatesBefore given) history event counted.each none;
      fates = λ one. fates_event history event ∙ counted.fates one ∙ sym (packets_event history event);
    })

fated_kept : (given : Given) → IsKept given (IsFatedSoFar given)
fated_kept given = record {
  on_turn = λ slot plan history begun at so_far.
      let event = TurnBegan slot (map plan.radio_of given.stations) in record {
        each = each_event (FatesBefore given) history event so_far.each tt;
        within = packets_event history event;
        fates = λ one. fates_event history event ∙ sym (packets_event history event);
      };
  on_feed = λ plan done left station history are some now so_far.
      let octets = take (plan.feed_of station) (octets_left given station history) in
      let counted = feed_counted given station octets history so_far.within (record { each = so_far.each; fates = so_far.fates }) in record {
        each = counted.each;
        within = feed_packets given station octets history ∙ so_far.within;
        fates = counted.fates;
      };
  on_fed = λ history so_far. record { each = so_far.each; within = tt; fates = so_far.fates };
  on_begin = λ slot plan done left station history are due so_far.
      let counted = call_counted given station (TurnBegins slot (plan.radio_of station)) history so_far.each so_far.fates in
      record { each = counted.each; within = tt; fates = counted.fates };
  on_begun = λ history so_far. record { each = so_far.each; within = tt; fates = so_far.fates };
  on_phase = λ phases history few so_far. record { each = so_far.each; within = tt; fates = so_far.fates };
  on_silence = λ phases done left station history are none so_far. record { each = so_far.each; within = tt; fates = so_far.fates };
  on_packet = λ phases plan done left station channel octets history are some due so_far.
      let hearings = hearings_of given plan.fates station channel octets history in
      let event = Transmitted station channel octets hearings in
      let one_hearing : HasOneOther given → length hearings ≡ 1 = λ one.
      many_hearings given plan.fates (fates_used history) channel octets history (others_than station given.stations)
      ∙ one station (among given.stations done left station are) in record {
        each = each_event (FatesBefore given) history event so_far.each (λ one. (so_far.fates one, one_hearing one));
        within = tt;
        fates = λ one. fates_event history event ∙ ap (λ n. fates_used history + n) (one_hearing one) ∙ ap (λ n. n + 1) (so_far.fates one) ∙ sym (packets_event history event);
      };
  on_air = λ phases history so_far. record { each = so_far.each; within = tt; fates = so_far.fates };
  on_hearing = λ phases done left station history are some so_far.
      let counted = call_counted given station (step_of (packet_received station history)) history so_far.each so_far.fates in
      record { each = counted.each; within = tt; fates = counted.fates };
  on_heard = λ phases history so_far. record { each = so_far.each; within = tt; fates = so_far.fates };
  on_phases = λ history so_far. record { each = so_far.each; within = tt; fates = so_far.fates };
  on_end = λ done left station history are some so_far.
      let counted = call_counted given station TurnEnds history so_far.each so_far.fates in
      record { each = counted.each; within = tt; fates = counted.fates };
  on_ended = λ history so_far. record { each = so_far.each; within = tt; fates = so_far.fates };
}

first_fates : fates_used [] ≡ packets_on_air []
unfolding fates_used packets_on_air
first_fates = refl

pub run_fated : (given : Given) → Each (FatesBefore given) [] (history_of (run_of given))
run_fated given =
    ends_with (run_of given) (IsWhole given (IsFatedSoFar given)) (IsStopped given (IsFatedSoFar given)) (Each (FatesBefore given) [])
    (run_kept given (IsFatedSoFar given) (fated_kept given) (record { each = tt; within = tt; fates = λ one. first_fates }))
    (λ history whole. whole.is.each) (λ history stop stopped. stopped.kept.each)

-- ---- a journal

note_aired : (count : ℕ) (side : Side) (link : ℕ → ℕ) (last : ℕ) (note : Note) → turn_packets_after count (entry_of side link last note) ≡ count
note_aired count side link last (UpNote packet) = refl
note_aired count side link last note = refl

aired_from : (given : Given) → HasOneOther given → (links : Links) (history before : List Event) (count : ℕ) → Each (FatesBefore given) before history
    → fold turn_packets_after count (journal_from links history) ≡ fold packets_after count history
aired_from given one links [] before count each = refl
aired_from given one links (TurnBegan slot radios ∷ history) before count each = aired_from given one links history _ 0 each.1
aired_from given one links (HostFed station octets ∷ history) before count each = aired_from given one links history _ count each.1
aired_from given one links (Called station step ∷ history) before count each = aired_from given one links history _ count each.1
aired_from given one links (Noted station note ∷ history) before count each =
    ap (λ n. fold turn_packets_after n (journal_from (links_after links (Noted station note)) history))
    (note_aired count (side_of station) (links.link_of station) (links.last_of station) note)
    ∙ aired_from given one (links_after links (Noted station note)) history _ count each.1
aired_from given one links (Transmitted station channel octets [] ∷ history) before count each =
    absurd (let h : 0 ≡ 1 = (each.0 one).1 in omega (arith, h))
aired_from given one links (Transmitted station channel octets (hearing ∷ hearings) ∷ history) before count each =
    aired_from given one (links_after links (Transmitted station channel octets (hearing ∷ hearings))) history _ (count + 1) each.1

aired_is : (given : Given) → HasOneOther given → (history : List Event) → Each (FatesBefore given) [] history → turn_packets (journal_of history) ≡ packets_on_air history
unfolding journal_of packets_on_air
aired_is given one history each = aired_from given one first_links history [] 0 each

-- where a run stops, each packet of its turn that was on the air has used one fate
pub record IsPlaced (history : List Event) (stop : Stop) : Type 0 where
  pub fates : fates_used history ≡ turn_packets (journal_of history)
  pub place : stop.place ≡ turn_packets (journal_of history) + 1

pub stop_placed : (given : Given) → HasOneOther given → (history : List Event) (stop : Stop) → run_of given ≡ Stops history stop → IsPlaced history stop
stop_placed given one history stop is =
    let stopped = ends_stopped (run_of given) (IsWhole given (IsFatedSoFar given)) (IsStopped given (IsFatedSoFar given)) history stop
    (run_kept given (IsFatedSoFar given) (fated_kept given) (record { each = tt; within = tt; fates = λ other. first_fates })) is in
    let packets = aired_is given one history stopped.kept.each in record {
      fates = stopped.kept.fates one ∙ sym packets;
      place = stopped.place_is ∙ ap (λ n. n + 1) (sym packets);
    }

add_none : (start count : ℕ) → start + count ≡ start + 0 + count
add_none start count = omega arith

add_one : (start count : ℕ) → start + suc count ≡ start + 1 + count
add_one start count = omega arith

turns_from : (links : Links) (history : List Event) (start : ℕ)
    → start + length (flat_map pair_openings_in (journal_from links history)) ≡ fold (λ count event. count + turns_in event) start history
turns_from links [] start = omega arith
turns_from links (TurnBegan slot radios ∷ history) start = add_one start _ ∙ turns_from links history (start + 1)
turns_from links (HostFed station octets ∷ history) start = add_none start _ ∙ turns_from links history (start + 0)
turns_from links (Called station step ∷ history) start = add_none start _ ∙ turns_from links history (start + 0)
turns_from links (Noted station note ∷ history) start =
    ap (λ xs. start + length (xs ++ flat_map pair_openings_in (journal_from (links_after links (Noted station note)) history)))
    (note_turns (side_of station) (links.link_of station) (links.last_of station) note)
    ∙ add_none start _ ∙ turns_from (links_after links (Noted station note)) history (start + 0)
turns_from links (Transmitted station channel octets [] ∷ history) start =
    add_none start _ ∙ turns_from (links_after links (Transmitted station channel octets [])) history (start + 0)
turns_from links (Transmitted station channel octets (hearing ∷ hearings) ∷ history) start =
    add_none start _ ∙ turns_from (links_after links (Transmitted station channel octets (hearing ∷ hearings))) history (start + 0)

from_none : (count : ℕ) → count ≡ 0 + count
from_none count = omega arith

pub turns_are : (history : List Event) → length (turns_of (journal_of history)) ≡ turns_begun history
unfolding journal_of turns_begun
turns_are history = from_none _ ∙ turns_from first_links history 0

-- ---- a pair

pub pair_other : (a b : List ℕ) (script : Script) → HasOneOther (given_of a b script)
pair_other a b script station is = elim (two station is) [
  | inl zeroth ↦ subst (λ s. length (others_than s (0 ∷ 1 ∷ [])) ≡ 1) (sym zeroth) refl
  | inr first ↦ subst (λ s. length (others_than s (0 ∷ 1 ∷ [])) ≡ 1) (sym first) refl
]

first_fate : (given : Given) (fates : List Fate) (number channel : ℕ) (octets : List ℕ) (history : List Event) (listeners : List ℕ) (hearing : Heard) (others : List Heard)
    → hearing ∷ others ≡ hearings_from given fates number channel octets history listeners → hearing.fate ≡ fate_at fates number
first_fate given fates number channel octets history [] hearing others is = absurd cc
first_fate given fates number channel octets history (listener ∷ listeners) hearing others is =
    ap (λ heard. first_of_all heard (fate_at fates number)) is
  where
    first_of_all : List Heard → Fate → Fate
    first_of_all [] fate = fate
    first_of_all (heard ∷ rest) fate = heard.fate

turn_at : (turns : List ScriptTurn) (place : ℕ) (plan : Plan) → slice_get (map plan_of turns) place ≡ Some plan
    → (turn : ScriptTurn) × (slice_get turns place ≡ Some turn) × (plan.fates ≡ turn.fates)
turn_at [] place plan is = absurd cc
turn_at (turn ∷ turns) zero plan is = let same : plan_of turn ≡ plan = cc in (turn, refl, ap (λ p. p.fates) (sym same))
turn_at (turn ∷ turns) (suc place) plan is = turn_at turns place plan is

pub pair_fate : (a b : List ℕ) (script : Script) (front rest : List Entry) (side : Side) (channel : ℕ) (octets : List ℕ) (fate : Mark) (verdict : Verdict)
    → journal_of (history_of (run_of (given_of a b script))) ≡ front ++ Air side channel octets fate verdict ∷ rest → HasNextFate script front fate
pair_fate a b script front rest side channel octets fate verdict is =
    let given = given_of a b script in
    let history = history_of (run_of given) in
    let air = is_aired given front rest side channel octets fate verdict is in
    let event = Transmitted air.station channel octets (air.hearing ∷ air.others) in
    let counts = each_at (FatesBefore given) history air.before air.after event (run_fated given) air.is_at (pair_other a b script) in
    let before = each_front (FatesBefore given) [] air.before (event ∷ air.after) (subst (Each (FatesBefore given) []) air.is_at (run_fated given)) in
    let turn = turn_at script.turns (turns_begun air.before - 1) air.is_due.plan air.is_due.is_now in record {
      turn = turn.0;
      is_now = ap (λ entries. slice_get script.turns (length (turns_of entries) - 1)) air.front_is
          ∙ ap (λ n. slice_get script.turns (n - 1)) (turns_are air.before) ∙ turn.1;
      fate_is = air.fate_is
          ∙ ap mark_of (first_fate given air.is_due.plan.fates (fates_used air.before) channel octets air.before (others_than air.station given.stations) air.hearing air.others
          air.is_due.hearings_are
          ∙ ap (λ fates. fate_at fates (fates_used air.before)) turn.2
          ∙ ap (fate_at turn.0.fates) (counts.0 ∙ sym (aired_is given (pair_other a b script) air.before before) ∙ ap turn_packets (sym air.front_is)));
    }

-- an entry of feeding is of its event
fed_by : (given : Given) → HasOneOther given → (links : Links) (before : List Event) (event : Event) (front : List Entry) (side : Side) (octets : List ℕ)
    → front ≡ journal_of before → Each (FatesBefore given) [] before → FatesBefore given before event → entries_of links event ≡ Fed side octets ∷ [] → turn_packets front ≡ 0
fed_by given one links before (TurnBegan slot radios) front side octets are each fates is = absurd cc
fed_by given one links before (HostFed station sent) front side octets are each fates is = ap turn_packets are ∙ aired_is given one before each ∙ fates
fed_by given one links before (Called station step) front side octets are each fates is = absurd cc
fed_by given one links before (Noted station note) front side octets are each fates is =
    not_note (side_of station) (links.link_of station) (links.last_of station) note side octets _ is
  where
    not_note : (own : Side) (link : ℕ → ℕ) (last : ℕ) (told : Note) (other : Side) (xs : List ℕ) (X : Type 0) → entry_of own link last told ∷ [] ≡ Fed other xs ∷ [] → X
    not_note own link last (UpNote packet) other xs X same = absurd cc
    not_note own link last told other xs X same = absurd cc
fed_by given one links before (Transmitted station channel sent []) front side octets are each fates is = absurd cc
fed_by given one links before (Transmitted station channel sent (hearing ∷ hearings)) front side octets are each fates is = absurd cc

pub pair_fed_first : (a b : List ℕ) (script : Script) (front rest : List Entry) (side : Side) (octets : List ℕ)
    → journal_of (history_of (run_of (given_of a b script))) ≡ front ++ Fed side octets ∷ rest → turn_packets front ≡ 0
pair_fed_first a b script front rest side octets is =
    let given = given_of a b script in
    let history = history_of (run_of given) in
    let one = is_of_event history front rest (Fed side octets) is in
    fed_by given (pair_other a b script) (links_of one.before) one.before one.event front side octets one.front_is
    (each_front (FatesBefore given) [] one.before (one.event ∷ one.after) (subst (Each (FatesBefore given) []) one.is_at (run_fated given)))
    (each_at (FatesBefore given) history one.before one.after one.event (run_fated given) one.is_at)
    one.entry_is
