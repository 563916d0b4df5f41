-- As a controller begins its turn, what its lines say of it is what it holds, with the links that want the radio: those that
-- are due end, and the others enter their events.
use Rattle.std.proofs.Common.{◌≡◌, ℕ, ◌+◌, Bool, true, false, not, Option, Some, None, List, [], ◌∷◌, ◌++◌, map, refl, sym, ap, subst, ◌∙◌, append-nil, append_assoc, if◌then◌else◌}
use Rattle.std.specs.List.{AllByRecursion}
use Rattle.std.proofs.lemmas.Bool.{and_parts}
use Rattle.std.proofs.lemmas.List.Elements.{All-from_recursion, recursion_from_All}
use Rattle.ble_base.specs.declared.notes.Note.{Note}
use Rattle.ble_base.specs.declared.notes.Note.TheVariants.{Enter as EnterNote}
use Rattle.ble_base.specs.declared.procedure_kinds.Kind.{Kind}
use Rattle.ble_base.specs.declared.roles.Side.{Side}
use Rattle.host_view.specs.View.{View}
use Rattle.journal.specs.declared.entries.Entry.TheVariants.{Enter}
use Rattle.journal_events.specs.journal_sending.controller_model.declared.doing.Doing.{Doing}
use Rattle.journal_events.specs.journal_sending.controller_model.declared.doing.Doing.TheVariants.{CentralSends, PeripheralSends}
use Rattle.journal_events.specs.journal_sending.controller_model.Entering.{events_entering, notes_all_entering, wants_from}
use Rattle.journal_events.specs.journal_sending.controller_model.Events.{notes_of_events}
use Rattle.journal_events.specs.journal_sending.controller_model.Facts.{Facts}
use Rattle.journal_events.specs.journal_sending.controller_model.Links.{ends_for, facts_ending, notes_ending}
use Rattle.journal_events.specs.journal_sending.controller_model.Packets.{notes_doing, notes_sent}
use Rattle.journal_events.specs.journal_sending.controller_model.Radio.{outcome_begun}
use Rattle.journal_events.specs.journal_sending.controller_model.Side.{notes_after}
use Rattle.journal_events.specs.journal_sending.controller_model.Step.{Step, TurnBegins}
use Rattle.journal_events.proofs.journal_sending.controller_model.LinkNotes.{AreIn, all_in, first_in, rest_in}
use Rattle.journal_events.proofs.journal_sending.controller_model.EndNotes.{sent_each}
use Rattle.journal_events.proofs.journal_sending.journal_acks.link_calls.CallNotes.{OpensNone, begin_noted, opening_none}
use Rattle.journal_events.specs.journal_sending.journal_controls.journal_ends.Asked.{Words}
use Rattle.journal_events.specs.journal_sending.journal_data.Held.{links_open}
use Rattle.journal_events.specs.journal_sending.journal_data.link_model.Controls.{goes_on}
use Rattle.journal_events.specs.journal_sending.journal_data.link_model.Entering.{began_notes, done_notes, event_notes, facts_entered}
use Rattle.journal_events.specs.journal_sending.journal_data.link_model.Events.{applied_notes}
use Rattle.journal_events.specs.journal_sending.journal_data.open_links.OpenLinks.{Links, OpenLink, facts_in, link_at}
use Rattle.journal_events.specs.journal_sending.journal_data.open_links.Turns.{due_in, enters_in, entry_in, is_anchor, links_without, notes_entering, notes_if, want_entering, wants_entering, wants_if}
use Rattle.journal_events.specs.journal_sending.journal_data.open_links.Wants.{want_if}
use Rattle.journal_events.specs.journal_sending.journal_links.Begun.{LinkBegun, link_numbered, links_begun, with_number}
use Rattle.journal_events.specs.journal_sending.run_model.History.{Event, Called, Noted}
use Rattle.journal_events.specs.journal_sending.run_model.Journal.{journal_of, side_of}
use Rattle.journal_events.specs.journal_sending.run_model.Run.{Given, after_call, facts_at, history_of, run_of, setup_at}
use Rattle.journal_events.proofs.journal_sending.journal_acks.Exchanging.{number_at, number_notes}
use Rattle.journal_events.proofs.journal_sending.journal_acks.TwoStations.{side_same}
use Rattle.journal_events.proofs.journal_sending.journal_leaving.DueBegun.{still_links}
use Rattle.journal_events.proofs.journal_sending.journal_leaving.OtherLines.{in_call_reads}
use Rattle.journal_events.proofs.journal_sending.run_model.Parts.{journal_event}
use Rattle.journal_events.specs.Skips.{is_skipped}
use Rattle.journal_wants.specs.Station.{Setups, Station, handle_of, line_if, own_line, served_last, want_of, wants_unless}
use Rattle.journal_wants.proofs.CallLines.{HasEntered, IsResolved, ends_set as call_ends, front_all, now_more as call_more, place_is as call_place, plain_still as call_still}
use Rattle.journal_wants.proofs.HostSet.{IsSetAs, host_set}
use Rattle.journal_wants.proofs.NotedStation.{ArePlain, at, both_plain, is_plain}
use Rattle.journal_wants.proofs.OctetStation.{events_plain}
use Rattle.journal_wants.proofs.StationLines.{station_called, station_noted}

-- ---- the notes

-- of an event that a link enters: one says that, and no other opens or shuts a link
pub record EntersOne (handle : ℕ) (notes : List Note) : Type 0 where
  pub front : List Note
  pub event : ℕ
  pub channel : ℕ
  pub back : List Note
  pub are : notes ≡ front ++ EnterNote handle (record { 0 = event }) channel ∷ back
  pub before : ArePlain front
  pub after : ArePlain back

applied_plain : (handle event : ℕ) (applied : Option ℕ) → ArePlain (applied_notes handle event applied)
applied_plain handle event None = tt
applied_plain handle event (Some number) = (refl, tt)

done_plain : (handle : ℕ) (kind : Option Kind) → ArePlain (done_notes handle kind)
done_plain handle None = tt
done_plain handle (Some kind) = (refl, tt)

began_plain : (handle : ℕ) (kind : Option Kind) → ArePlain (began_notes handle kind)
began_plain handle None = tt
began_plain handle (Some kind) = (refl, tt)

sent_plain : (slot : ℕ) (found : Option OpenLink) → ArePlain (notes_sent slot found)
sent_plain slot None = tt
sent_plain slot (Some link) = sent_each (λ note. is_plain note ≡ true) link.setup (facts_in link) (λ number llid octets. refl)

pub doing_plain : (doing : Doing) (facts : Facts) → ArePlain (notes_doing doing facts)
doing_plain (CentralSends handle) facts = sent_plain facts.turn.slot (link_at handle facts.links)
doing_plain (PeripheralSends handle) facts = sent_plain facts.turn.slot (link_at handle facts.links)
doing_plain doing facts = tt

-- where a link enters no event it wants nothing
data EnteringNotes (slot handle : ℕ) (link : OpenLink) (notes : List Note) : Type 0 where
  Passes : notes ≡ [] → want_entering slot handle (Some link) ≡ [] → EnteringNotes slot handle link notes
  Enters : EntersOne handle notes → EnteringNotes slot handle link notes

entering_one : (slot handle : ℕ) (link : OpenLink) → link.setup.link.handle ≡ handle → EnteringNotes slot handle link (notes_entering slot (Some link))
entering_one slot handle link own = by (enters_in slot link) refl
  where
    by : (enters : Bool) → enters_in slot link ≡ enters → EnteringNotes slot handle link (notes_entering slot (Some link))
    by false is =
        Passes (ap (λ enters. notes_if enters slot link) is) (ap (λ enters. want_if (wants_if enters slot link) handle link.last_served) is)
    by true is =
        let facts = facts_in link in
        let event = (facts_entered link.setup slot facts).event in
        let entry = entry_in slot link in
        let number = link.setup.link.handle in
        let applied = applied_notes number event.number entry.applied in
        let done = done_notes number entry.done in
        let began = began_notes number entry.began in
        let goes : goes_on facts ≡ true = (and_parts (goes_on facts) (is_anchor slot link) is).0 in
        let enter = EnterNote number (record { 0 = event.number }) event.channel in
        let notes : notes_entering slot (Some link) ≡ applied ++ enter ∷ (done ++ began) =
        ap (λ enters. notes_if enters slot link) is
        ∙ ap (λ on. if on then event_notes number event entry else []) goes
        ∙ append_assoc (applied ++ enter ∷ []) done began
        ∙ append_assoc applied (enter ∷ []) (done ++ began) in
        Enters (subst (λ n. EntersOne n (notes_entering slot (Some link))) own (record {
          front = applied;
          event = event.number;
          channel = event.channel;
          back = done ++ began;
          are = notes;
          before = applied_plain number event.number entry.applied;
          after = both_plain done began (done_plain number entry.done) (began_plain number entry.began);
        }))

-- ---- in a run

wants_by : (wants : Bool) (handle last : ℕ) → wants_unless (not wants) (want_of (Some handle) last) ≡ want_if wants handle last
wants_by true handle last = refl
wants_by false handle last = refl

module _ (words : Words) (setups : Setups) (given : Given) (station : ℕ) (base rest : List Event) (slot : ℕ) (on : Bool)
    (in_run : history_of (run_of given) ≡ after_call given station (TurnBegins slot on) base ++ rest)
    (resolved : (before more : List Event) (note : Note) → history_of (run_of given) ≡ before ++ Noted station note ∷ more → IsResolved station before note) where
  abbrev side : Side
  side = side_of station

  abbrev step : Step
  step = TurnBegins slot on

  abbrev facts : Facts
  facts = facts_at given station base

  abbrev notes : List Note
  notes = notes_after (setup_at given station) facts step

  abbrev now : List Note → List Event
  now earlier = base ++ Called station step ∷ map (Noted station) earlier

  abbrev on_lines : List Event → Station
  on_lines history = at words setups station history

  now_more : (earlier more : List Note) → now (earlier ++ more) ≡ now earlier ++ map (Noted station) more
  now_more = call_more words setups given station base rest step tt in_run resolved

  place_is : (earlier later : List Note) (note : Note) → notes ≡ earlier ++ note ∷ later
      → history_of (run_of given) ≡ now earlier ++ Noted station note ∷ (map (Noted station) later ++ rest)
  place_is = call_place words setups given station base rest step tt in_run resolved

  plain_still : (earlier more later : List Note) → notes ≡ earlier ++ (more ++ later) → ArePlain more → on_lines (now (earlier ++ more)) ≡ on_lines (now earlier)
  plain_still = call_still words setups given station base rest step tt in_run resolved

  -- ---- the others enter their events

  number_is : (earlier later : List Note) (handle : ℕ) → notes ≡ earlier ++ later → number_at station handle (now earlier) ≡ number_at station handle base
  number_is earlier later handle are =
      ap (number_at station handle) (sym (append_assoc base (Called station step ∷ []) (map (Noted station) earlier)))
      ∙ number_notes station handle step base earlier
      (All-from_recursion (OpensNone handle) earlier
      (front_all (OpensNone handle) earlier later (subst (AllByRecursion (OpensNone handle)) are
      (recursion_from_All (OpensNone handle) notes (begin_noted (OpensNone handle) (opening_none handle) (setup_at given station) slot on facts)))))

  -- the links that stay
  abbrev staying : Links
  staying = (facts_ending slot facts).links

  module _ (own : (handle : ℕ) (link : OpenLink) → link_at handle staying ≡ Some link → link.setup.link.handle ≡ handle)
      (skips : (earlier later : List Note) (handle event channel : ℕ) (link : OpenLink) → notes ≡ earlier ++ EnterNote handle (record { 0 = event }) channel ∷ later
      → link_at handle staying ≡ Some link
      → is_skipped words side (number_at station handle base) (journal_of (now (earlier ++ EnterNote handle (record { 0 = event }) channel ∷ []))) ≡ not (wants_entering slot link))
      (last : (handle : ℕ) (link : OpenLink) → link_at handle staying ≡ Some link
      → served_last ((on_lines base).served (number_at station handle base)) (link_numbered (number_at station handle base) (journal_of base)) ≡ link.last_served) where
    abbrev IsServed : List Note → Type 0
    IsServed earlier = (on_lines (now earlier)).served ≡ (on_lines base).served

    enter_set : (earlier later : List Note) (handle event channel : ℕ) (link : OpenLink) → notes ≡ earlier ++ EnterNote handle (record { 0 = event }) channel ∷ later
        → link_at handle staying ≡ Some link → IsServed earlier
        → on_lines (now (earlier ++ EnterNote handle (record { 0 = event }) channel ∷ []))
        ≡ record (on_lines (now earlier)) { wants = (on_lines (now earlier)).wants ++ want_entering slot handle (Some link) }
    enter_set earlier later handle event channel link are is_open served =
        let note = EnterNote handle (record { 0 = event }) channel in
        let before = on_lines (now earlier) in
        let number = number_at station handle (now earlier) in
        let first = number_at station handle base in
        let line = Enter side number event channel in
        let numbers : number ≡ first = number_is earlier (note ∷ later) handle are in
        let fronts : journal_of (now earlier) ++ line ∷ [] ≡ journal_of (now (earlier ++ note ∷ [])) =
        sym (ap journal_of (now_more earlier (note ∷ [])) ∙ journal_event (now earlier) (Noted station note)) in
        let skipped : is_skipped words side number (journal_of (now earlier) ++ line ∷ []) ≡ not (wants_entering slot link) =
        (λ i. is_skipped words side (numbers i) (fronts i)) ∙ skips earlier later handle event channel link are is_open in
        let under : handle_of number (links_open side (journal_of (now earlier) ++ line ∷ [])) ≡ Some handle =
        ap (λ front. handle_of number (links_open side front)) (sym (journal_event (now earlier) (Noted station note)))
        ∙ resolved (now earlier) (map (Noted station) later ++ rest) note (place_is earlier later note are) in
        let begun : links_begun (journal_of (now earlier) ++ line ∷ []) ≡ links_begun (journal_of base) =
        ap links_begun fronts ∙ in_call_reads (List LinkBegun) links_begun still_links station step base (earlier ++ note ∷ []) in
        let had : served_last (before.served number) (link_numbered number (journal_of (now earlier) ++ line ∷ [])) ≡ link.last_served =
        (λ i. served_last (served i (numbers i)) (with_number (numbers i) (begun i))) ∙ last handle link is_open in
        ap on_lines (now_more earlier (note ∷ []))
        ∙ station_noted words setups side (now earlier) station note
        ∙ ap (λ is_own. line_if is_own (own_line words side number (journal_of (now earlier)) line) before) (side_same station)
        ∙ ap (λ more. record before { wants = before.wants ++ more })
        ((λ i. wants_unless (skipped i) (want_of (under i) (had i))) ∙ wants_by (wants_entering slot link) handle link.last_served)

    none_wanted : (earlier : List Note) → on_lines (now (earlier ++ [])) ≡ record (on_lines (now earlier)) { wants = (on_lines (now earlier)).wants ++ [] }
    none_wanted earlier =
        ap (λ all. on_lines (now all)) (append-nil earlier)
        ∙ (λ i. record (on_lines (now earlier)) { wants = sym (append-nil (on_lines (now earlier)).wants) i })

    place_set : (earlier : List Note) (handle : ℕ) (place : Option OpenLink) (later : List Note) → ((link : OpenLink) → place ≡ Some link → link_at handle staying ≡ Some link)
        → notes ≡ earlier ++ (notes_entering slot place ++ later) → IsServed earlier
        → on_lines (now (earlier ++ notes_entering slot place))
        ≡ record (on_lines (now earlier)) { wants = (on_lines (now earlier)).wants ++ want_entering slot handle place }
    place_set earlier handle None later opened are served = none_wanted earlier
    place_set earlier handle (Some link) later opened are served = by (entering_one slot handle link (own handle link (opened link refl)))
      where
        by : EnteringNotes slot handle link (notes_entering slot (Some link))
            → on_lines (now (earlier ++ notes_entering slot (Some link)))
            ≡ record (on_lines (now earlier)) { wants = (on_lines (now earlier)).wants ++ want_entering slot handle (Some link) }
        by (Passes none wants) =
            ap (λ all. on_lines (now (earlier ++ all))) none ∙ none_wanted earlier
            ∙ (λ i. record (on_lines (now earlier)) { wants = (on_lines (now earlier)).wants ++ sym wants i })
        by (Enters one) =
            let note = EnterNote handle (record { 0 = one.event }) one.channel in
            let first = earlier ++ one.front in
            let second = first ++ note ∷ [] in
            let all : notes ≡ earlier ++ (one.front ++ (note ∷ (one.back ++ later))) =
            are ∙ ap (λ xs. earlier ++ (xs ++ later)) one.are ∙ ap (λ xs. earlier ++ xs) (append_assoc one.front (note ∷ one.back) later) in
            let then_all : notes ≡ first ++ note ∷ (one.back ++ later) = all ∙ sym (append_assoc earlier one.front (note ∷ (one.back ++ later))) in
            let last_all : notes ≡ second ++ (one.back ++ later) = then_all ∙ sym (append_assoc first (note ∷ []) (one.back ++ later)) in
            let before = plain_still earlier one.front (note ∷ (one.back ++ later)) all one.before in
            let enters = enter_set first (one.back ++ later) handle one.event one.channel link then_all (opened link refl) (ap (λ (s : Station). s.served) before ∙ served) in
            ap (λ xs. on_lines (now (earlier ++ xs))) one.are
            ∙ ap (λ xs. on_lines (now xs)) (sym (append_assoc first (note ∷ []) one.back ∙ append_assoc earlier one.front (note ∷ one.back)))
            ∙ plain_still second one.back later last_all one.after
            ∙ enters
            ∙ ap (λ (s : Station). record s { wants = s.wants ++ want_entering slot handle (Some link) }) before

    enters_set : (view : View) (earlier : List Note) (handle : ℕ) (places : Links) (later : List Note) → AreIn staying handle places
        → notes ≡ earlier ++ (notes_all_entering view slot handle places ++ later) → IsServed earlier
        → on_lines (now (earlier ++ notes_all_entering view slot handle places))
        ≡ record (on_lines (now earlier)) { wants = (on_lines (now earlier)).wants ++ wants_from slot handle places }
    enters_set view earlier handle [] later inside are served = none_wanted earlier
    enters_set view earlier handle (place ∷ places) later inside are served =
        let entered = notes_entering slot place in
        let told = notes_of_events view (events_entering slot handle place) in
        let others = notes_all_entering view slot (handle + 1) places in
        let before = on_lines (now earlier) in
        let first = earlier ++ entered in
        let second = first ++ told in
        let all : notes ≡ earlier ++ (entered ++ (told ++ (others ++ later))) =
        are ∙ ap (λ xs. earlier ++ xs) (append_assoc (entered ++ told) others later ∙ append_assoc entered told (others ++ later)) in
        let then_all : notes ≡ first ++ (told ++ (others ++ later)) = all ∙ sym (append_assoc earlier entered (told ++ (others ++ later))) in
        let last_all : notes ≡ second ++ (others ++ later) = then_all ∙ sym (append_assoc first told (others ++ later)) in
        let one = place_set earlier handle place (told ++ (others ++ later)) (place_in handle place places inside) all served in
        let both = plain_still first told (others ++ later) then_all (events_plain view (events_entering slot handle place)) ∙ one in
        let next = enters_set view second (handle + 1) places later (rest_in staying handle place places inside) last_all (ap (λ (s : Station). s.served) both ∙ served) in
        ap (λ xs. on_lines (now xs)) (sym (append_assoc first told others ∙ append_assoc earlier entered (told ++ others) ∙ ap (λ xs. earlier ++ xs) (sym (append_assoc entered told others))))
        ∙ next
        ∙ ap (λ (s : Station). record s { wants = s.wants ++ wants_from slot (handle + 1) places }) both
        ∙ (λ i. record before { wants = append_assoc before.wants (want_entering slot handle place) (wants_from slot (handle + 1) places) i })
      where
        place_in : (first : ℕ) (one : Option OpenLink) (more : Links) → AreIn staying first (one ∷ more) → (link : OpenLink) → one ≡ Some link → link_at first staying ≡ Some link
        place_in first None more are link is = absurd cc
        place_in first (Some other) more are link is = first_in staying first other more are ∙ is

    -- ---- all of that

    pub begun_lines : IsSetAs (on_lines base) facts → (on_lines base).wants ≡ []
        → HasEntered (on_lines base) (on_lines (after_call given station step base)) (facts_ending slot facts) (wants_from slot 0 staying)
    begun_lines set none =
        let view = (facts_ending slot facts).view in
        let ends = notes_ending slot facts in
        let enters = notes_all_entering view slot 0 staying in
        let outcome = outcome_begun slot on facts in
        let does = notes_doing outcome.next outcome.facts in
        let called : on_lines (now []) ≡ on_lines base = station_called words setups side base station step in
        let all : notes ≡ ends ++ (enters ++ does) = append_assoc ends enters does in
        let ended = call_ends words setups given station base rest step tt in_run resolved facts.view [] (ends_for (due_in slot) facts) (enters ++ does) (record facts { links = links_without (due_in slot) facts.links }) all
        (record {
          set = ap (λ (s : Station). host_set s.view) called ∙ set.set;
          advertising = ap (λ (s : Station). s.advertising) called ∙ set.advertising;
          scanning = ap (λ (s : Station). s.scanning) called ∙ set.scanning;
          initiator = ap (λ (s : Station). s.initiator) called ∙ set.initiator;
          radio = ap (λ (s : Station). s.radio) called ∙ set.radio;
        }) in
        let entered = enters_set view ends 0 staying does (all_in staying) all (ended.same.served ∙ ap (λ (s : Station). s.served) called) in
        let whole : on_lines (after_call given station step base) ≡ on_lines (now (ends ++ enters)) =
        plain_still (ends ++ enters) does [] (ap (λ xs. (ends ++ enters) ++ xs) (sym (append-nil does))) (doing_plain outcome.next outcome.facts) in
        let both = whole ∙ entered in record {
          set = record {
            set = ap (λ (s : Station). host_set s.view) both ∙ ended.set.set;
            advertising = ap (λ (s : Station). s.advertising) both ∙ ended.set.advertising;
            scanning = ap (λ (s : Station). s.scanning) both ∙ ended.set.scanning;
            initiator = ap (λ (s : Station). s.initiator) both ∙ ended.set.initiator;
            radio = ap (λ (s : Station). s.radio) both ∙ ended.set.radio;
          };
          wants_are = ap (λ (s : Station). s.wants) both
              ∙ ap (λ xs. xs ++ wants_from slot 0 staying) (ended.wants_are ∙ append-nil (on_lines (now [])).wants ∙ ap (λ (s : Station). s.wants) called);
          same = record {
            served = ap (λ (s : Station). s.served) both ∙ ended.same.served ∙ ap (λ (s : Station). s.served) called;
            on = ap (λ (s : Station). s.on) both ∙ ended.same.on ∙ ap (λ (s : Station). s.on) called;
            doing = ap (λ (s : Station). s.doing) both ∙ ended.same.doing ∙ ap (λ (s : Station). s.doing) called;
          };
        }
