-- At each place of a run of two stations the lines of a side say of its radio what its controller holds, and what it does
-- first in the turn that is under way.
use Rattle.std.proofs.Common.{◌≡◌, ℕ, ◌+◌, ◌-◌, ◌==◌, ◌⊎◌, inl, inr, Bool, true, false, Option, Some, None, List, [], ◌∷◌, ◌++◌, length, map, refl, sym, ap, subst, ◌∙◌, append-nil, append_assoc, arith}
use Rattle.std.specs.Prelude.{fold, not, slice_get}
use Rattle.std.specs.Option.{option_map}
use Rattle.std.proofs.lemmas.Bool.{eqb-false}
use Rattle.std.proofs.lemmas.List.Concat.{flat_map-append}
use Rattle.ble_base.specs.declared.notes.Note.{Note}
use Rattle.ble_base.specs.declared.notes.Note.TheVariants.{Enter as EnterNote}
use Rattle.host_answers.specs.Calls.{answered_after}
use Rattle.journal.specs.declared.entries.Entry.{Entry}
use Rattle.journal.specs.declared.entries.Entry.TheVariants.{Air, Turn}
use Rattle.slot_plan.specs.declared.Activity.{Activity}
use Rattle.slot_plan.specs.Holding.{is_held_in, winner_of}
use Rattle.journal_events.specs.journal_sending.controller_model.declared.doing.Doing.{Doing}
use Rattle.journal_events.specs.journal_sending.controller_model.declared.doing.Doing.TheVariants.{Rests}
use Rattle.journal_events.specs.journal_sending.controller_model.Data.{facts_handed}
use Rattle.journal_events.specs.journal_sending.controller_model.Entering.{all_entered, wants_from}
use Rattle.journal_events.specs.journal_sending.controller_model.Facts.{Facts, Setup, first_facts}
use Rattle.journal_events.specs.journal_sending.controller_model.Links.{ends_for, facts_ending}
use Rattle.journal_events.specs.journal_sending.controller_model.Radio.{plan_in, turn_begins}
use Rattle.journal_events.specs.journal_sending.controller_model.Side.{facts_after, facts_of, notes_after}
use Rattle.journal_events.specs.journal_sending.controller_model.Step.{Step, HostOctet, NothingHeard, TurnBegins, TurnEnds}
use Rattle.journal_events.specs.journal_sending.journal_controls.LineSteps.{turn_now}
use Rattle.journal_events.specs.journal_sending.journal_controls.journal_ends.Asked.{Words}
use Rattle.journal_events.specs.journal_sending.journal_data.open_links.OpenLinks.{OpenLink, link_at}
use Rattle.journal_events.specs.journal_sending.journal_data.open_links.Turns.{ending_in, wants_entering}
use Rattle.journal_events.specs.journal_sending.journal_packets.Belonging.{is_side}
use Rattle.journal_events.specs.journal_sending.run_model.Due.{plan_at}
use Rattle.journal_events.specs.journal_sending.run_model.History.{Event, TurnBegan, Called, Hearing, Noted, Transmitted, packet_received, past_of, turns_begun}
use Rattle.journal_events.specs.journal_sending.run_model.Journal.{journal_of, radio_in, side_of}
use Rattle.journal_events.specs.journal_sending.run_model.Readers.{PairOpening, pair_openings_in, turns_of}
use Rattle.journal_events.specs.journal_sending.run_model.Run.{Given, Plan, after_call, facts_at, history_of, run_of, setup_at, step_of}
use Rattle.journal_events.proofs.journal_sending.journal_acks.Exchanging.{number_at, number_quiet, number_sent}
use Rattle.journal_events.proofs.journal_sending.journal_acks.TwoStations.{IsOfTwo}
use Rattle.journal_events.proofs.journal_sending.journal_acks.Counting.{HaveOwnNumbers, facts_event}
use Rattle.journal_events.proofs.journal_sending.journal_data.StationLines.{IsStationBooked}
use Rattle.journal_events.proofs.journal_sending.journal_leaving.OtherLines.{call_reads, is_other}
use Rattle.journal_events.proofs.journal_sending.journal_leaving.journal_ends.run_laws.Hearings.{other_facts, own_facts}
use Rattle.journal_events.proofs.journal_sending.journal_leaving.journal_ends.run_laws.TurnPlaces.{event_past}
use Rattle.journal_events.proofs.journal_sending.run_model.Calls.{past_other, past_own, same_station, turns_more}
use Rattle.journal_events.proofs.journal_sending.run_model.Journals.{two}
use Rattle.journal_events.proofs.journal_sending.run_model.LinkEnds.{received_by}
use Rattle.journal_events.proofs.journal_sending.run_model.Notes.{NotedBefore, run_noted}
use Rattle.journal_events.proofs.journal_sending.run_model.Parts.{journal_event}
use Rattle.journal_events.proofs.journal_sending.run_model.Places.{each_at}
use Rattle.journal_events.proofs.journal_sending.run_model.Stations.{is_in}
use Rattle.journal_events.proofs.journal_sending.run_model.Walk.{called_turns}
use Rattle.journal_wants.specs.Setups.{setups_of}
use Rattle.journal_events.specs.Skips.{is_skipped}
use Rattle.journal_wants.specs.Station.{Setups, Station, commanded_by, is_on, linked_under, station_deciding, station_on}
use Rattle.journal_wants.proofs.BeginStation.{begun_lines}
use Rattle.journal_wants.proofs.BegunServed.{begun_serves}
use Rattle.journal_wants.proofs.CallLines.{IsResolved}
use Rattle.journal_wants.proofs.DecidedStation.{begun_decides, deciding, deciding_begun, is_connecting, station_aired, station_turned, stays_decided, stays_open, unheard_silent}
use Rattle.journal_wants.proofs.EndStation.{ended_lines, quiet_lines, quiet_set}
use Rattle.journal_wants.proofs.HostSet.{IsSetAs, host_set, octet_set}
use Rattle.journal_wants.proofs.LastServed.{AreLast, HaveBegun, HaveOpenedBefore, begin_last, call_last, event_last, far_last, phase_last, staying_last}
use Rattle.journal_wants.proofs.NewLinks.{setups_are}
use Rattle.journal_wants.proofs.NotedStation.{at}
use Rattle.journal_wants.proofs.OctetStation.{octet_commands}
use Rattle.journal_wants.proofs.PassStation.{passed_lines}
use Rattle.journal_wants.proofs.ServedLinks.{end_served, octet_served}
use Rattle.journal_wants.proofs.SlotGiven.{HasLinked}
use Rattle.journal_wants.proofs.StationLines.{commanded_leaves, station_far}

-- ---- what a controller does first in the turn that it began last

abbrev doing_if : Step → Doing → Doing → Doing
doing_if (TurnBegins slot on) now before = now
doing_if step now before = before

abbrev doing_from : Setup → Facts → Doing → List Step → Doing
doing_from setup facts doing [] = doing
doing_from setup facts doing (step ∷ past) =
    doing_from setup (facts_after setup facts step) (doing_if step (facts_after setup facts step).turn.doing doing) past

unfoldable pub doing_begun : Setup → List Step → Doing
doing_begun setup past = doing_from setup (first_facts setup) Rests past

from_more : (setup : Setup) (facts : Facts) (doing : Doing) (past : List Step) (step : Step)
    → doing_from setup facts doing (past ++ step ∷ [])
    ≡ doing_if step (facts_after setup (fold (facts_after setup) facts past) step).turn.doing (doing_from setup facts doing past)
from_more setup facts doing [] step = refl
from_more setup facts doing (first ∷ past) step =
    from_more setup (facts_after setup facts first) (doing_if first (facts_after setup facts first).turn.doing doing) past step

pub doing_more : (setup : Setup) (past : List Step) (step : Step)
    → doing_begun setup (past ++ step ∷ []) ≡ doing_if step (facts_after setup (facts_of setup past) step).turn.doing (doing_begun setup past)
unfolding facts_of doing_begun
doing_more setup past step = from_more setup (first_facts setup) Rests past step

-- ---- the turn that is under way

none_begins : (line : Entry) → is_other line ≡ true → pair_openings_in line ≡ []
none_begins (Turn slot a_on b_on) other = absurd cc
none_begins (Air sender channel octets fate verdict) other = absurd cc
none_begins line other = refl

pub still_turn : (front : List Entry) (line : Entry) → is_other line ≡ true → turn_now (front ++ line ∷ []) ≡ turn_now front
still_turn front line other =
    ap (λ (turns : List PairOpening). length turns - 1)
    (flat_map-append pair_openings_in front (line ∷ []) ∙ (λ i. turns_of front ++ (none_begins line other i ++ [])) ∙ append-nil (turns_of front))

pub turn_called : (given : Given) (station : ℕ) (step : Step) (history : List Event)
    → turn_now (journal_of (after_call given station step history)) ≡ turn_now (journal_of history)
turn_called given station step history = call_reads ℕ turn_now still_turn given station step history

one_less : (n : ℕ) → n + 1 - 1 ≡ n
one_less n = omega arith

-- ---- what is said before a station begins its turn, and after that

module _ (words : Words) (given : Given) where
  abbrev setups : Setups
  setups = setups_of given

  abbrev pub on_lines : ℕ → List Event → Station
  on_lines station history = at words setups station history

  -- before it: the lines say what its controller holds
  pub record IsWaiting (history : List Event) (station : ℕ) : Type 0 where
    pub set : IsSetAs (on_lines station history) (facts_at given station history)
    pub wants : (on_lines station history).wants ≡ []
    pub doing : (on_lines station history).doing ≡ None
    pub on : option_map (λ (plan : Plan). plan.radio_of station) (plan_at given history) ≡ Some (on_lines station history).on
    pub last : AreLast given station history (on_lines station history).served

  -- after it: that is decided, or no packet was on the air in the turn yet
  pub data IsMade (history : List Event) (station : ℕ) : Type 0 where
    Decided : (doing : Doing) → (on_lines station history).doing ≡ Some doing → IsMade history station
    Open : (on_lines station history).doing ≡ None → is_connecting (facts_at given station history).turn.doing ≡ false
        → packet_received station history ≡ None → IsMade history station

  pub decided_now : (history : List Event) (station : ℕ) (doing : Doing) → (on_lines station history).doing ≡ Some doing → IsMade history station
  decided_now history station doing is = Decided doing is

  pub record HasDecided (history : List Event) (station : ℕ) : Type 0 where
    pub set : IsSetAs (deciding words setups station history) (facts_at given station history)
    pub doing : (deciding words setups station history).doing ≡ Some (doing_begun (setup_at given station) (past_of station history))
    pub made : IsMade history station
    pub last : AreLast given station history (deciding words setups station history).served

  -- ---- what is told of the calls of a run

  -- of the begin of a turn: of the links that stay, and of the link that wins the slot or holds it
  pub record IsToldAtBegin (base : List Event) (station slot : ℕ) (on : Bool) : Type 0 where
    pub own : (handle : ℕ) (link : OpenLink) → link_at handle (facts_ending slot (facts_at given station base)).links ≡ Some link → link.setup.link.handle ≡ handle
    pub skips : (earlier later : List Note) (handle event channel : ℕ) (link : OpenLink)
        → notes_after (setup_at given station) (facts_at given station base) (TurnBegins slot on) ≡ earlier ++ EnterNote handle (record { 0 = event }) channel ∷ later
        → link_at handle (facts_ending slot (facts_at given station base)).links ≡ Some link
        → is_skipped words (side_of station) (number_at station handle base)
        (journal_of (base ++ Called station (TurnBegins slot on) ∷ map (Noted station) (earlier ++ EnterNote handle (record { 0 = event }) channel ∷ [])))
        ≡ not (wants_entering slot link)
    pub winner : (activity : Activity) → winner_of (plan_in slot (turn_begins slot (facts_ending slot (facts_at given station base)))) slot ≡ Some activity
        → HasLinked (linked_under words (side_of station) (journal_of (after_call given station (TurnBegins slot on) base)))
        (all_entered slot (facts_ending slot (facts_at given station base)).links) activity
    pub holder : is_held_in (facts_ending slot (facts_at given station base)).radio.hold slot ≡ true
        → HasLinked (linked_under words (side_of station) (journal_of (after_call given station (TurnBegins slot on) base)))
        (all_entered slot (facts_ending slot (facts_at given station base)).links) (facts_ending slot (facts_at given station base)).radio.holder

  abbrev AreLinkedSame : ℕ → (history after : List Event) → Type 0
  AreLinkedSame station history after = (handle : ℕ)
      → linked_under words (side_of station) (journal_of after) handle ≡ linked_under words (side_of station) (journal_of history) handle

  pub record AreTold : Type 0 where
    pub resolved : (station : ℕ) (before more : List Event) (note : Note) → history_of (run_of given) ≡ before ++ Noted station note ∷ more → IsResolved station before note
    pub begins : (station slot : ℕ) (on : Bool) (base rest : List Event) → is_in station given.stations ≡ true
        → history_of (run_of given) ≡ base ++ Called station (TurnBegins slot on) ∷ rest → IsToldAtBegin base station slot on
    -- a call of the other station leaves what the lines of this one say of its links
    pub far : (station caller : ℕ) (step : Step) (history rest : List Event) → is_in station given.stations ≡ true → is_in caller given.stations ≡ true
        → history_of (run_of given) ≡ history ++ Called caller step ∷ rest
        → (station == caller) ≡ false → AreLinkedSame station history (after_call given caller step history)
    -- and so does the end of a turn without a packet, in which no link ends
    pub quiet : (station : ℕ) (history rest : List Event) → is_in station given.stations ≡ true → history_of (run_of given) ≡ history ++ Called station TurnEnds ∷ rest
        → (on_lines station history).doing ≡ None
        → (ends_for ending_in (facts_handed (facts_at given station history)) ≡ []) × AreLinkedSame station history (after_call given station TurnEnds history)

  -- ---- a call of the other station

  module _ (are_two : IsOfTwo given) (told : AreTold) where
    apart : (station caller : ℕ) → is_in station given.stations ≡ true → is_in caller given.stations ≡ true → (station == caller) ≡ false
        → is_side (side_of caller) (side_of station) ≡ false
    apart station caller in_it in_too differs = by (two station (subst (λ xs. is_in station xs ≡ true) are_two in_it)) (two caller (subst (λ xs. is_in caller xs ≡ true) are_two in_too))
      where
        by : (station ≡ 0) ⊎ (station ≡ 1) → (caller ≡ 0) ⊎ (caller ≡ 1) → is_side (side_of caller) (side_of station) ≡ false
        by (inl a) (inl b) = absurd (eqb-false station caller differs (a ∙ sym b))
        by (inl a) (inr b) = λ i. is_side (side_of (b i)) (side_of (a i))
        by (inr a) (inl b) = λ i. is_side (side_of (b i)) (side_of (a i))
        by (inr a) (inr b) = absurd (eqb-false station caller differs (a ∙ sym b))

    module _ (station caller : ℕ) (step : Step) (history rest : List Event) (in_it : is_in station given.stations ≡ true) (in_too : is_in caller given.stations ≡ true)
        (in_run : history_of (run_of given) ≡ history ++ Called caller step ∷ rest) (differs : (station == caller) ≡ false) where
      abbrev after : List Event
      after = after_call given caller step history

      lines_same : on_lines station after ≡ on_lines station history
      lines_same = station_far words setups (side_of station) given caller step history (apart station caller in_it in_too differs)

      facts_same : facts_at given station after ≡ facts_at given station history
      facts_same = other_facts given caller step history station differs

      plan_same : plan_at given after ≡ plan_at given history
      plan_same = ap (λ turns. slice_get given.plans (turns - 1)) (called_turns given (turns_begun history) caller step history refl)

      pub far_waiting : IsWaiting history station → IsWaiting after station
      far_waiting has = record {
        set = subst (λ s. IsSetAs s (facts_at given station after)) (sym lines_same) (subst (IsSetAs (on_lines station history)) (sym facts_same) has.set);
        wants = ap (λ (s : Station). s.wants) lines_same ∙ has.wants;
        doing = ap (λ (s : Station). s.doing) lines_same ∙ has.doing;
        on = ap (option_map (λ (plan : Plan). plan.radio_of station)) plan_same ∙ has.on ∙ ap (λ (s : Station). Some s.on) (sym lines_same);
        last = subst (AreLast given station after) (ap (λ (s : Station). s.served) (sym lines_same))
            (far_last given station caller step history (on_lines station history).served differs has.last);
      }

      pub far_decided : HasDecided history station → HasDecided after station
      far_decided has = by has.made
        where
          all : deciding words setups station after ≡ deciding words setups station history → IsMade after station → HasDecided after station
          all same made = record {
            set = subst (λ s. IsSetAs s (facts_at given station after)) (sym same) (subst (IsSetAs (deciding words setups station history)) (sym facts_same) has.set);
            doing = ap (λ (s : Station). s.doing) same ∙ has.doing
                ∙ ap (λ past. Some (doing_begun (setup_at given station) past))
                (sym (past_other station caller step (notes_after (setup_at given caller) (facts_at given caller history) step) history differs));
            made = made;
            last = subst (AreLast given station after) (ap (λ (s : Station). s.served) (sym same))
                (far_last given station caller step history (deciding words setups station history).served differs has.last);
          }

          by : IsMade history station → HasDecided after station
          by (Decided doing is) =
              let now = ap (λ (s : Station). s.doing) lines_same ∙ is in
              all (stays_decided words setups station after doing now ∙ lines_same ∙ sym (stays_decided words setups station history doing is)) (Decided doing now)
          by (Open none connects received) =
              all (stays_open words setups station history after lines_same (turn_called given caller step history) (told.far station caller step history rest in_it in_too in_run differs))
              (Open (ap (λ (s : Station). s.doing) lines_same ∙ none) (ap (λ (f : Facts). is_connecting f.turn.doing) facts_same ∙ connects)
              (received_by given station caller step history false differs ∙ received))

    -- ---- its own calls

    pub octet_waiting : (station octet : ℕ) (history rest : List Event) → is_in station given.stations ≡ true
        → history_of (run_of given) ≡ history ++ Called station (HostOctet octet) ∷ rest
        → (facts_at given station history).turn.begun ≡ turn_now (journal_of history) → IsWaiting history station
        → IsWaiting (after_call given station (HostOctet octet) history) station
    octet_waiting station octet history rest in_it in_run begun has =
        let step = HostOctet octet in
        let setup = setup_at given station in
        let facts = facts_at given station history in
        let after = after_call given station step history in
        let slot = turn_now (journal_of history) in
        let commands = answered_after facts step in
        let before = on_lines station history in
        let noted = each_at (NotedBefore given) (history_of (run_of given)) history rest (Called station step) (run_noted given).each in_run refl station in
        let lines : on_lines station after ≡ commanded_by setup slot commands before =
        octet_commands words setups given are_two station in_it octet history rest in_run noted
        ∙ ap (λ s. commanded_by s slot commands before) (setups_are given are_two station in_it) in
        let set : IsSetAs (commanded_by setup slot commands before) (facts_after setup facts step) =
        subst (λ n. IsSetAs (commanded_by setup n commands before) (facts_after setup facts step)) begun (octet_set setup before facts octet has.set) in
        let plan_same : plan_at given after ≡ plan_at given history =
        ap (λ turns. slice_get given.plans (turns - 1)) (called_turns given (turns_begun history) station step history refl) in record {
          set = subst (λ s. IsSetAs s (facts_at given station after)) (sym lines)
              (subst (IsSetAs (commanded_by setup slot commands before)) (sym (own_facts given station step history)) set);
          wants = ap (λ (s : Station). s.wants) lines ∙ commanded_leaves (λ s. s.wants) setup slot (λ s command. refl) commands before ∙ has.wants;
          doing = ap (λ (s : Station). s.doing) lines ∙ commanded_leaves (λ s. s.doing) setup slot (λ s command. refl) commands before ∙ has.doing;
          on = ap (option_map (λ (plan : Plan). plan.radio_of station)) plan_same ∙ has.on
              ∙ ap Some (sym (ap (λ (s : Station). s.on) lines ∙ commanded_leaves (λ s. s.on) setup slot (λ s command. refl) commands before));
          last = subst (AreLast given station after)
              (sym (ap (λ (s : Station). s.served) lines ∙ commanded_leaves (λ s. s.served) setup slot (λ s command. refl) commands before))
              (call_last given station step history before.served has.last (octet_served setup facts octet));
        }

    pub own_begun : (station slot : ℕ) (on : Bool) (history rest : List Event) → is_in station given.stations ≡ true
        → history_of (run_of given) ≡ after_call given station (TurnBegins slot on) history ++ rest → turn_now (journal_of history) ≡ slot
        → option_map (λ (plan : Plan). plan.radio_of station) (plan_at given history) ≡ Some on → packet_received station (after_call given station (TurnBegins slot on) history) ≡ None
        → is_connecting (facts_at given station (after_call given station (TurnBegins slot on) history)).turn.doing ≡ false → HaveOwnNumbers given station history
        → HaveOpenedBefore given station history slot
        → IsStationBooked given station (after_call given station (TurnBegins slot on) history)
        → IsWaiting history station → HasDecided (after_call given station (TurnBegins slot on) history) station
    own_begun station slot on history rest in_it in_run turn radio received connects own older booked has =
        let step = TurnBegins slot on in
        let setup = setup_at given station in
        let facts = facts_at given station history in
        let notes = map (Noted station) (notes_after setup facts step) in
        let after = after_call given station step history in
        let called = in_run ∙ append_assoc history (Called station step ∷ notes) rest in
        let is = told.begins station slot on history (notes ++ rest) in_it called in
        let lines = begun_lines words setups given station history rest slot on in_run (told.resolved station) is.own is.skips
        (staying_last given station slot history (on_lines station history).served has.last) has.set has.wants in
        let on_is : (on_lines station history).on ≡ on = let both = sym has.on ∙ radio in cc in
        let none = lines.same.doing ∙ has.doing in
        let wants = lines.wants_are ∙ ap (λ xs. xs ++ wants_from slot 0 (facts_ending slot facts).links) has.wants in
        let turn_is = turn_called given station step history ∙ turn in
        let made = begun_decides words setups station setup facts slot on after lines.set wants (lines.same.on ∙ on_is) none turn_is is.winner is.holder in
        let served = begun_serves words setups given station slot on history (deciding words setups station after).served lines.set wants booked
        (ap (λ (s : Station). s.served) (deciding_begun words setups station slot on after (lines.same.on ∙ on_is) none turn_is)) lines.same.served in
        let same = own_facts given station step history in record {
          set = subst (IsSetAs (deciding words setups station after)) (sym same) made.set;
          doing = made.doing
              ∙ ap Some (sym (ap (doing_begun setup) (past_own station step (notes_after setup facts step) history) ∙ doing_more setup (past_of station history) step));
          made = Open none connects received;
          last = subst (AreLast given station after) (sym served) (begin_last given station slot on history (on_lines station history).served has.last turn own older);
        }

    module _ (station : ℕ) (received : Option (List ℕ)) (history rest : List Event) (in_it : is_in station given.stations ≡ true)
        (in_run : history_of (run_of given) ≡ history ++ Called station (step_of received) ∷ rest) (is_received : packet_received station history ≡ received)
        (turn : (facts_at given station history).turn.slot ≡ turn_now (journal_of history))
        (begun : HaveBegun given station (after_call given station (step_of received) history)) where
      abbrev passing : Step
      passing = step_of received

      abbrev passed_on : List Event
      passed_on = after_call given station (step_of received) history

      first_same : (heard : Option (List ℕ)) (now before : Doing) → doing_if (step_of heard) now before ≡ before
      first_same None now before = refl
      first_same (Some octets) now before = refl

      past_passed : doing_begun (setup_at given station) (past_of station passed_on) ≡ doing_begun (setup_at given station) (past_of station history)
      past_passed =
          ap (doing_begun (setup_at given station)) (past_own station passing (notes_after (setup_at given station) (facts_at given station history) passing) history)
          ∙ doing_more (setup_at given station) (past_of station history) passing
          ∙ first_same received _ _

      last_passed : (later : Station) → later.served ≡ (deciding words setups station history).served → HasDecided history station → AreLast given station passed_on later.served
      last_passed later same has =
          subst (AreLast given station passed_on) (sym same) (phase_last given station received history (deciding words setups station history).served turn begun has.last)

      silent : received ≡ None → HasDecided history station → (on_lines station history).doing ≡ None → is_connecting (facts_at given station history).turn.doing ≡ false
          → HasDecided passed_on station
      silent deaf has none connects =
          let setup = setup_at given station in
          let facts = facts_at given station history in
          let is = unheard_silent setup facts connects in
          let step_is : passing ≡ NothingHeard = ap step_of deaf in
          let notes : notes_after setup facts passing ≡ [] = ap (notes_after setup facts) step_is ∙ is.none in
          let journal : journal_of passed_on ≡ journal_of history =
          ap (λ xs. journal_of (history ++ Called station passing ∷ map (Noted station) xs)) notes ∙ journal_event history (Called station passing) ∙ append-nil (journal_of history) in
          let same : deciding words setups station passed_on ≡ deciding words setups station history = ap (λ front. station_deciding words setups (side_of station) front) journal in
          let held : facts_at given station passed_on ≡ facts_after setup facts NothingHeard = own_facts given station passing history ∙ ap (facts_after setup facts) step_is in record {
            set = subst (λ s. IsSetAs s (facts_at given station passed_on)) (sym same)
                (subst (IsSetAs (deciding words setups station history)) (sym held) (is.set (deciding words setups station history) has.set));
            doing = ap (λ (s : Station). s.doing) same ∙ has.doing ∙ ap Some (sym past_passed);
            made = Open (ap (λ front. (station_on words setups (side_of station) front).doing) journal ∙ none) (ap (λ (f : Facts). is_connecting f.turn.doing) held ∙ is.later)
                (received_by given station station passing history true (same_station station));
            last = last_passed (deciding words setups station passed_on) (ap (λ (s : Station). s.served) same) has;
          }

      passed_by : HasDecided history station → IsMade history station → HasDecided passed_on station
      passed_by has (Decided doing is) =
          let facts = facts_at given station history in
          let before = stays_decided words setups station history doing is in
          let passed = passed_lines words setups given station history received (subst (λ s. IsSetAs s facts) before has.set) in
          let now = passed.same.doing ∙ is in
          let then_on = stays_decided words setups station passed_on doing now in record {
            set = subst (λ s. IsSetAs s (facts_at given station passed_on)) (sym then_on)
                (subst (IsSetAs (on_lines station passed_on)) (sym (own_facts given station passing history)) passed.set);
            doing = ap (λ (s : Station). s.doing) then_on ∙ passed.same.doing ∙ ap (λ (s : Station). s.doing) (sym before) ∙ has.doing ∙ ap Some (sym past_passed);
            made = Decided doing now;
            last = last_passed (deciding words setups station passed_on)
                (ap (λ (s : Station). s.served) then_on ∙ passed.same.served ∙ ap (λ (s : Station). s.served) (sym before)) has;
          }
      passed_by has (Open none connects unheard) = silent (sym is_received ∙ unheard) has none connects

      pub own_passed : HasDecided history station → HasDecided passed_on station
      own_passed has = passed_by has has.made

    module _ (station : ℕ) (history rest : List Event) (in_it : is_in station given.stations ≡ true)
        (in_run : history_of (run_of given) ≡ after_call given station TurnEnds history ++ rest) where
      abbrev ended_on : List Event
      ended_on = after_call given station TurnEnds history

      past_ended : doing_begun (setup_at given station) (past_of station ended_on) ≡ doing_begun (setup_at given station) (past_of station history)
      past_ended =
          ap (doing_begun (setup_at given station)) (past_own station TurnEnds (notes_after (setup_at given station) (facts_at given station history) TurnEnds) history)
          ∙ doing_more (setup_at given station) (past_of station history) TurnEnds

      last_ended : (later : Station) → later.served ≡ (deciding words setups station history).served → HasDecided history station → AreLast given station ended_on later.served
      last_ended later same has =
          subst (AreLast given station ended_on) (sym same) (call_last given station TurnEnds history (deciding words setups station history).served has.last
          (end_served (setup_at given station) (facts_at given station history)))

      ended_by : HasDecided history station → IsMade history station → HasDecided ended_on station
      ended_by has (Decided doing is) =
          let facts = facts_at given station history in
          let before = stays_decided words setups station history doing is in
          let ended = ended_lines words setups given station history rest in_run (told.resolved station) (subst (λ s. IsSetAs s facts) before has.set) in
          let now = ended.same.doing ∙ is in
          let then_on = stays_decided words setups station ended_on doing now in record {
            set = subst (λ s. IsSetAs s (facts_at given station ended_on)) (sym then_on)
                (subst (IsSetAs (on_lines station ended_on)) (sym (own_facts given station TurnEnds history)) ended.set);
            doing = ap (λ (s : Station). s.doing) then_on ∙ ended.same.doing ∙ ap (λ (s : Station). s.doing) (sym before) ∙ has.doing ∙ ap Some (sym past_ended);
            made = Decided doing now;
            last = last_ended (deciding words setups station ended_on)
                (ap (λ (s : Station). s.served) then_on ∙ ended.same.served ∙ ap (λ (s : Station). s.served) (sym before)) has;
          }
      ended_by has (Open none connects unheard) =
          let setup = setup_at given station in
          let facts = facts_at given station history in
          let notes = map (Noted station) (notes_after setup facts TurnEnds) in
          let quiet = told.quiet station history (notes ++ rest) in_it (in_run ∙ append_assoc history (Called station TurnEnds ∷ notes) rest) none in
          let lines = quiet_lines words setups given station history rest in_run (told.resolved station) quiet.0 in
          let same = stays_open words setups station history ended_on lines (turn_called given station TurnEnds history) quiet.1 in
          let held = quiet_set setup (deciding words setups station history) facts quiet.0 has.set in record {
            set = subst (λ s. IsSetAs s (facts_at given station ended_on)) (sym same)
                (subst (IsSetAs (deciding words setups station history)) (sym (own_facts given station TurnEnds history)) held);
            doing = ap (λ (s : Station). s.doing) same ∙ has.doing ∙ ap Some (sym past_ended);
            made = Open (ap (λ (s : Station). s.doing) lines ∙ none) (ap (λ (f : Facts). is_connecting f.turn.doing) (own_facts given station TurnEnds history))
                (received_by given station station TurnEnds history true (same_station station));
            last = last_ended (deciding words setups station ended_on) (ap (λ (s : Station). s.served) same) has;
          }

      pub own_ended : HasDecided history station → HasDecided ended_on station
      own_ended has = ended_by has has.made

    -- ---- packets and turns

    pub aired : (station sender channel : ℕ) (octets : List ℕ) (hearing : Hearing) (hearings : List Hearing) (history : List Event)
        → HasDecided history station → HasDecided (history ++ Transmitted sender channel octets (hearing ∷ hearings) ∷ []) station
    aired station sender channel octets hearing hearings history has =
        let event = Transmitted sender channel octets (hearing ∷ hearings) in
        let after = history ++ event ∷ [] in
        let lines = station_aired words setups station history sender channel octets hearing hearings in
        let now = ap (λ (s : Station). s.doing) lines ∙ has.doing in
        let first = doing_begun (setup_at given station) (past_of station history) in
        let same = stays_decided words setups station after first now ∙ lines in record {
          set = subst (λ s. IsSetAs s (facts_at given station after)) (sym same)
              (subst (IsSetAs (deciding words setups station history)) (sym (facts_event given station history event refl)) has.set);
          doing = ap (λ (s : Station). s.doing) same ∙ has.doing
              ∙ ap (λ past. Some (doing_begun (setup_at given station) past)) (sym (event_past station history event refl));
          made = Decided first now;
          last = subst (AreLast given station after) (ap (λ (s : Station). s.served) (sym same))
              (event_last given station history event (deciding words setups station history).served refl
              (λ handle. number_sent station handle history sender channel octets (hearing ∷ hearings)) has.last);
        }

    radios_are : (station : ℕ) (plan : Plan) → is_in station given.stations ≡ true
        → is_on (side_of station) (radio_in 0 (map plan.radio_of given.stations)) (Some (radio_in 1 (map plan.radio_of given.stations))) ≡ plan.radio_of station
    radios_are station plan in_it = by (two station (subst (λ xs. is_in station xs ≡ true) are_two in_it))
      where
        by : (station ≡ 0) ⊎ (station ≡ 1)
            → is_on (side_of station) (radio_in 0 (map plan.radio_of given.stations)) (Some (radio_in 1 (map plan.radio_of given.stations))) ≡ plan.radio_of station
        by (inl is) = (λ i. is_on (side_of (is i)) (radio_in 0 (map plan.radio_of (are_two i))) (Some (radio_in 1 (map plan.radio_of (are_two i))))) ∙ ap plan.radio_of (sym is)
        by (inr is) = (λ i. is_on (side_of (is i)) (radio_in 0 (map plan.radio_of (are_two i))) (Some (radio_in 1 (map plan.radio_of (are_two i))))) ∙ ap plan.radio_of (sym is)

    pub turned : (station slot : ℕ) (plan : Plan) (history : List Event) → is_in station given.stations ≡ true → turns_begun history ≡ slot → slice_get given.plans slot ≡ Some plan
        → HasDecided history station → IsWaiting (history ++ TurnBegan slot (map plan.radio_of given.stations) ∷ []) station
    turned station slot plan history in_it turns plan_is has =
        let event = TurnBegan slot (map plan.radio_of given.stations) in
        let after = history ++ event ∷ [] in
        let lines = station_turned words setups station history slot (map plan.radio_of given.stations) in
        let set : IsSetAs (on_lines station after) (facts_at given station history) = record {
          set = ap (λ (s : Station). host_set s.view) lines ∙ has.set.set;
          advertising = ap (λ (s : Station). s.advertising) lines ∙ has.set.advertising;
          scanning = ap (λ (s : Station). s.scanning) lines ∙ has.set.scanning;
          initiator = ap (λ (s : Station). s.initiator) lines ∙ has.set.initiator;
          radio = ap (λ (s : Station). s.radio) lines ∙ has.set.radio;
        } in
        let now : turns_begun after - 1 ≡ slot = ap (λ n. n - 1) (turns_more history event) ∙ one_less (turns_begun history) ∙ turns in record {
          set = subst (IsSetAs (on_lines station after)) (sym (facts_event given station history event refl)) set;
          wants = ap (λ (s : Station). s.wants) lines;
          doing = ap (λ (s : Station). s.doing) lines;
          on = ap (λ n. option_map (λ (one : Plan). one.radio_of station) (slice_get given.plans n)) now
              ∙ ap (option_map (λ (one : Plan). one.radio_of station)) plan_is
              ∙ ap Some (sym (ap (λ (s : Station). s.on) lines ∙ radios_are station plan in_it));
          last = subst (AreLast given station after) (ap (λ (s : Station). s.served) (sym lines))
              (event_last given station history event (deciding words setups station history).served refl (λ handle. number_quiet station handle history event (λ links. refl)) has.last);
        }
