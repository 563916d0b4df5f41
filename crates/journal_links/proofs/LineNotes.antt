-- The lines of a link are the notes of it.
use Rattle.std.proofs.Common.{◌≡◌, ℕ, ◌≤◌, ◌==◌, ◌&&◌, ◌||◌, Bool, true, false, Some, List, [], ◌∷◌, ◌++◌, refl, sym, ap, subst, ◌∙◌, append-nil, append_assoc, arith}
use Rattle.std.specs.Prelude.{map, if◌then◌else◌}
use Rattle.std.proofs.lemmas.Bool.{eq-eqb, eqb-false, eqb-true, false_from_ne_true}
use Rattle.std.proofs.lemmas.List.{map-append}
use Rattle.ble_base.specs.declared.addresses.Address.{Address}
use Rattle.ble_base.specs.declared.notes.Note.{Note}
use Rattle.ble_base.specs.declared.notes.Note.TheVariants.{Up, Opened, Shut, Sent, Took, Enter, Applied, Began, Refused, Done}
use Rattle.ble_base.specs.declared.roles.Role.{Role}
use Rattle.ble_base.specs.declared.roles.Side.{Side}
use Rattle.journal.specs.declared.entries.Entry.{Entry}
use Rattle.journal.specs.declared.entries.Entry.TheVariants.{Opened as OpenedLine}
use Rattle.run_laws.specs.open_links.OpenLinks.{OpenLink, link_at}
use Rattle.run_laws.specs.controller_model.Since.{is_under, note_under, notes_opened_on, notes_under, opens_under, was_opened}
use Rattle.run_laws.proofs.controller_model.UnderNotes.{open_noted, opened_more, or_none, some_under, under_more}
use Rattle.run_laws.specs.run_model.Feeding.{AreDistinct, HasNoted}
use Rattle.run_laws.specs.run_model.History.{Event, TurnBegan, HostFed, Called, Noted, Transmitted, noted_by, notes_in, one_if, past_of}
use Rattle.run_laws.specs.run_model.Journal.{entries_of, entry_of, journal_of, side_of}
use Rattle.run_laws.specs.run_model.LinkEnds.{HaveAddresses}
use Rattle.run_laws.specs.run_model.Links.{Links, begins_link, links_after, links_noted, links_of, with_link}
use Rattle.run_laws.specs.run_model.Numbers.{AreNumbered}
use Rattle.run_laws.specs.run_model.Run.{Given, facts_at, history_of, run_of, setup_at}
use Rattle.run_laws.proofs.run_model.Calls.{flat_event, same_station}
use Rattle.run_laws.proofs.run_model.LinkEnds.{AreTaken, IsUnderstood}
use Rattle.run_laws.proofs.run_model.LinksKnown.{links_event}
use Rattle.run_laws.proofs.run_model.Numbers.{opening_at}
use Rattle.run_laws.proofs.run_model.OfStations.{OfStations, run_of_stations}
use Rattle.run_laws.proofs.run_model.Parts.{journal_event}
use Rattle.run_laws.proofs.run_model.Places.{each_at}
use Rattle.run_laws.proofs.InAgreement.{differs_back}
use Rattle.journal_links.specs.LinkLines.{AreLinesOf, IsOfItsNotes, line_of, lines_of, where_named}
use Rattle.journal_links.proofs.LinkLines.{IsApart, across, fresh, line_more, lines_append, named_elsewhere, named_here}

-- ---- notes

-- a note of the link that is open under a handle
record IsOfLink (under : ℕ) (note : Note) : Type 0 where
  opens : (handle : ℕ) → opens_under handle note ≡ false
  is : (handle : ℕ) → is_under handle note ≡ (under == handle)
  named : (side : Side) (link_of : ℕ → ℕ) (last number : ℕ)
      → lines_of side number (entry_of side link_of last note ∷ []) ≡ where_named side number (Some (side, link_of under)) (entry_of side link_of last note) ++ []
  line : (side : Side) (link_of : ℕ → ℕ) (last number : ℕ) → link_of under ≡ number → entry_of side link_of last note ≡ line_of side number note
  links : (station : ℕ) (links : Links) → links_noted station note links ≡ links

-- ---- one station

abbrev number_at : ℕ → ℕ → List Event → ℕ
number_at station handle history = (links_of history).link_of station handle

record AreSorted (station : ℕ) (history : List Event) : Type 0 where
  lines : (handle : ℕ) → was_opened handle (noted_by station history) ≡ true → IsOfItsNotes history station handle
  numbered : (handle : ℕ) → was_opened handle (noted_by station history) ≡ true → 1 ≤ number_at station handle history
  unnumbered : (handle : ℕ) → was_opened handle (noted_by station history) ≡ false → number_at station handle history ≡ 0
  apart : (one other : ℕ) → was_opened one (noted_by station history) ≡ true → was_opened other (noted_by station history) ≡ true → (one == other) ≡ false
      → (number_at station one history == number_at station other history) ≡ false

-- the notes of a station change nothing of a handle
record IsStill (station handle : ℕ) (history after : List Event) : Type 0 where
  notes : notes_under handle (noted_by station after) ≡ notes_under handle (noted_by station history)
  opened : was_opened handle (noted_by station after) ≡ was_opened handle (noted_by station history)
  number : number_at station handle after ≡ number_at station handle history

line_still : (station handle : ℕ) (history after : List Event) → IsStill station handle history after
    → lines_of (side_of station) (number_at station handle history) (journal_of after) ≡ lines_of (side_of station) (number_at station handle history) (journal_of history)
    → IsOfItsNotes history station handle → IsOfItsNotes after station handle
line_still station handle history after still same is =
    let side = side_of station in
    ap (λ n. lines_of side n (journal_of after)) still.number ∙ same ∙ is
    ∙ (λ i. map (line_of side (sym still.number i)) (sym still.notes i))

still_sorted : (station : ℕ) (history after : List Event) → ((handle : ℕ) → IsStill station handle history after)
    → ((number : ℕ) → lines_of (side_of station) number (journal_of after) ≡ lines_of (side_of station) number (journal_of history))
    → AreSorted station history → AreSorted station after
still_sorted station history after still same are = record {
  lines = λ handle was. line_still station handle history after (still handle) (same (number_at station handle history)) (are.lines handle (sym (still handle).opened ∙ was));
  numbered = λ handle was. subst (λ n. 1 ≤ n) (sym (still handle).number) (are.numbered handle (sym (still handle).opened ∙ was));
  unnumbered = λ handle was. (still handle).number ∙ are.unnumbered handle (sym (still handle).opened ∙ was);
  apart = λ one other was was_too differs.
      (λ i. (still one).number i == (still other).number i) ∙ are.apart one other (sym (still one).opened ∙ was) (sym (still other).opened ∙ was_too) differs;
}

-- ---- an event that is no note of the station

notes_still : (station : ℕ) (history : List Event) (event : Event) → notes_in station event ≡ [] → noted_by station (history ++ event ∷ []) ≡ noted_by station history
notes_still station history event none = flat_event (notes_in station) history event ∙ ap (λ xs. noted_by station history ++ xs) none ∙ append-nil (noted_by station history)

event_sorted : (station : ℕ) (history : List Event) (event : Event) → notes_in station event ≡ []
    → ((number : ℕ) → lines_of (side_of station) number (entries_of (links_of history) event) ≡ [])
    → ((handle : ℕ) → (links_after (links_of history) event).link_of station handle ≡ (links_of history).link_of station handle)
    → AreSorted station history → AreSorted station (history ++ event ∷ [])
event_sorted station history event none lines numbers =
    let after = history ++ event ∷ [] in
    let side = side_of station in
    still_sorted station history after (λ handle. record {
      notes = ap (notes_under handle) (notes_still station history event none);
      opened = ap (was_opened handle) (notes_still station history event none);
      number = ap (λ (links : Links). links.link_of station handle) (links_event history event) ∙ numbers handle;
    })
    (λ number. ap (lines_of side number) (journal_event history event)
    ∙ lines_append side number (journal_of history) (entries_of (links_of history) event)
    ∙ ap (λ xs. lines_of side number (journal_of history) ++ xs) (lines number) ∙ append-nil (lines_of side number (journal_of history)))

begins_same : (begins : Bool) (links more : Links) (station handle : ℕ) → more.link_of station handle ≡ links.link_of station handle
    → (if begins then more else links).link_of station handle ≡ links.link_of station handle
begins_same true links more station handle same = same
begins_same false links more station handle same = refl

other_number : (links : Links) (other station handle : ℕ) (note : Note) → (station == other) ≡ false
    → (links_noted other note links).link_of station handle ≡ links.link_of station handle
other_number links other station handle (Opened under role own peer) differs =
    ap (λ b. if b && (handle == under) then links.last_of other else links.link_of station handle) differs
other_number links other station handle note differs = refl

-- ---- a note of the station

pub note_added : (station : ℕ) (history : List Event) (note : Note) → noted_by station (history ++ Noted station note ∷ []) ≡ noted_by station history ++ note ∷ []
note_added station history note =
    flat_event (notes_in station) history (Noted station note) ∙ ap (λ b. noted_by station history ++ one_if b note) (same_station station)

journal_noted : (station : ℕ) (history : List Event) (note : Note) (number : ℕ) (lines : List Entry)
    → let links = links_of history in
    lines_of (side_of station) number (entry_of (side_of station) (links.link_of station) (links.last_of station) note ∷ []) ≡ lines
    → lines_of (side_of station) number (journal_of (history ++ Noted station note ∷ [])) ≡ lines_of (side_of station) number (journal_of history) ++ lines
journal_noted station history note number lines is =
    ap (lines_of (side_of station) number) (journal_event history (Noted station note))
    ∙ line_more (side_of station) number (journal_of history) _ lines is

more_than_none : (n : ℕ) → 1 ≤ n → (0 == n) ≡ false
more_than_none n more = false_from_ne_true (0 == n) (λ same. let is = eqb-true 0 n same in absurd (omega (arith, more, is)))

module _ (station : ℕ) (history : List Event) (are : AreSorted station history) where
  abbrev links : Links
  links = links_of history

  abbrev side : Side
  side = side_of station

  abbrev notes : List Note
  notes = noted_by station history

  abbrev number : ℕ → ℕ
  number handle = number_at station handle history

  abbrev known : List Entry
  known = journal_of history

  -- a packet to the host
  packet_sorted : (note : Note) → ((handle : ℕ) → note_under handle (notes_under handle notes) note ≡ notes_under handle notes) → ((handle : ℕ) → opens_under handle note ≡ false)
      → ((n : ℕ) → lines_of side n (entry_of side (links.link_of station) (links.last_of station) note ∷ []) ≡ []) → links_noted station note links ≡ links
      → AreSorted station (history ++ Noted station note ∷ [])
  packet_sorted note under opens none same =
      let after = history ++ Noted station note ∷ [] in
      still_sorted station history after (λ handle. record {
        notes = ap (notes_under handle) (note_added station history note) ∙ under_more handle notes note ∙ under handle;
        opened = ap (was_opened handle) (note_added station history note) ∙ opened_more handle notes note
            ∙ ap (λ b. was_opened handle notes || b) (opens handle) ∙ or_none (was_opened handle notes);
        number = ap (λ (l : Links). l.link_of station handle) (links_event history (Noted station note) ∙ same);
      })
      (λ n. journal_noted station history note n [] (none n) ∙ append-nil (lines_of side n known)) are

  -- a note of a link under a handle
  module _ (under : ℕ) (note : Note) (of : IsOfLink under note) where
    abbrev after : List Event
    after = history ++ Noted station note ∷ []

    abbrev line : Entry
    line = entry_of side (links.link_of station) (links.last_of station) note

    same_opened : (handle : ℕ) → was_opened handle (noted_by station after) ≡ was_opened handle notes
    same_opened handle =
        ap (was_opened handle) (note_added station history note) ∙ opened_more handle notes note
        ∙ ap (λ b. was_opened handle notes || b) (of.opens handle) ∙ or_none (was_opened handle notes)

    same_number : (handle : ℕ) → number_at station handle after ≡ number handle
    same_number handle = ap (λ (l : Links). l.link_of station handle) (links_event history (Noted station note) ∙ of.links station links)

    notes_then : (handle : ℕ) (here : Bool) → (under == handle) ≡ here
        → notes_under handle (noted_by station after) ≡ (if here then notes_under handle notes ++ note ∷ [] else notes_under handle notes)
    notes_then handle here is =
        ap (notes_under handle) (note_added station history note) ∙ under_more handle notes note
        ∙ ap (λ b. if b then note ∷ [] else if is_under handle note then notes_under handle notes ++ note ∷ [] else notes_under handle notes) (of.opens handle)
        ∙ ap (λ b. if b then notes_under handle notes ++ note ∷ [] else notes_under handle notes) (of.is handle ∙ is)

    -- the link under another handle has another number
    differs_from : (handle : ℕ) → was_opened handle notes ≡ true → (under == handle) ≡ false → (number under == number handle) ≡ false
    differs_from handle was differs = by (was_opened under notes) refl
      where
        by : (opened : Bool) → was_opened under notes ≡ opened → (number under == number handle) ≡ false
        by true is = are.apart under handle is was differs
        by false is = ap (λ n. n == number handle) (are.unnumbered under is) ∙ more_than_none (number handle) (are.numbered handle was)

    line_then : (handle : ℕ) → was_opened handle notes ≡ true → (here : Bool) → (under == handle) ≡ here → IsOfItsNotes after station handle
    line_then handle was true is =
        let same = eqb-true under handle is in
        let n = number handle in
        ap (λ m. lines_of side m (journal_of after)) (same_number handle)
        ∙ journal_noted station history note n (line ∷ [])
        (of.named side (links.link_of station) (links.last_of station) n ∙ named_here side (number under) n line (eq-eqb (number under) n (ap number same)))
        ∙ (λ i. are.lines handle was i ++ of.line side (links.link_of station) (links.last_of station) n (ap number same) i ∷ [])
        ∙ sym (map-append (line_of side n) (notes_under handle notes) (note ∷ []))
        ∙ (λ i. map (line_of side (sym (same_number handle) i)) (sym (notes_then handle true is) i))
    line_then handle was false is =
        let n = number handle in
        ap (λ m. lines_of side m (journal_of after)) (same_number handle)
        ∙ journal_noted station history note n []
        (of.named side (links.link_of station) (links.last_of station) n ∙ named_elsewhere side side (number under) n line (differs_from handle was is))
        ∙ append-nil (lines_of side n known) ∙ are.lines handle was
        ∙ (λ i. map (line_of side (sym (same_number handle) i)) (sym (notes_then handle false is) i))

    link_sorted : AreSorted station after
    link_sorted = record {
      lines = λ handle was. line_then handle (sym (same_opened handle) ∙ was) (under == handle) refl;
      numbered = λ handle was. subst (λ n. 1 ≤ n) (sym (same_number handle)) (are.numbered handle (sym (same_opened handle) ∙ was));
      unnumbered = λ handle was. same_number handle ∙ are.unnumbered handle (sym (same_opened handle) ∙ was);
      apart = λ one other was was_too differs.
          (λ i. same_number one i == same_number other i) ∙ are.apart one other (sym (same_opened one) ∙ was) (sym (same_opened other) ∙ was_too) differs;
    }

  -- a link is opened, which has no line yet
  module _ (under : ℕ) (role : Role) (own peer : Address) (least : 1 ≤ links.last_of station) (new : lines_of side (links.last_of station) known ≡ []) where
    abbrev opening : Note
    opening = Opened under role own peer

    abbrev opened_then : List Event
    opened_then = history ++ Noted station opening ∷ []

    abbrev last : ℕ
    last = links.last_of station

    opened_by : (handle : ℕ) (here : Bool) → (under == handle) ≡ here → was_opened handle (noted_by station opened_then) ≡ (was_opened handle notes || here)
    opened_by handle here is =
        ap (was_opened handle) (note_added station history opening) ∙ opened_more handle notes opening ∙ ap (λ b. was_opened handle notes || b) is

    number_then : (handle : ℕ) (here : Bool) → (under == handle) ≡ here → number_at station handle opened_then ≡ (if here then last else number handle)
    number_then handle here is =
        ap (λ (l : Links). l.link_of station handle) (links_event history (Noted station opening))
        ∙ (λ i. if same_station station i && flipped handle here is i then last else number handle)
      where
        flipped : (handle : ℕ) (here : Bool) → (under == handle) ≡ here → (handle == under) ≡ here
        flipped handle true is = eq-eqb handle under (sym (eqb-true under handle is))
        flipped handle false is = differs_back under handle is

    notes_by : (handle : ℕ) (here : Bool) → (under == handle) ≡ here → notes_under handle (noted_by station opened_then) ≡ (if here then opening ∷ [] else notes_under handle notes)
    notes_by handle here is = ap (notes_under handle) (note_added station history opening) ∙ under_more handle notes opening ∙ by here is
      where
        either : (same : Bool) → (if same then opening ∷ [] else if same then notes_under handle notes ++ opening ∷ [] else notes_under handle notes)
            ≡ (if same then opening ∷ [] else notes_under handle notes)
        either true = refl
        either false = refl

        by : (same : Bool) → (under == handle) ≡ same
            → (if under == handle then opening ∷ [] else if under == handle then notes_under handle notes ++ opening ∷ [] else notes_under handle notes)
            ≡ (if same then opening ∷ [] else notes_under handle notes)
        by same e = ap (λ b. if b then opening ∷ [] else if b then notes_under handle notes ++ opening ∷ [] else notes_under handle notes) e ∙ either same

    -- each other link has a line, and so another number
    other_than : (handle : ℕ) → was_opened handle notes ≡ true → (last == number handle) ≡ false
    other_than handle was = false_from_ne_true (last == number handle) (λ same.
        let none : notes_under handle notes ≡ [] = map_none (line_of side (number handle)) (notes_under handle notes)
        (sym (are.lines handle was) ∙ ap (λ n. lines_of side n known) (sym (eqb-true last (number handle) same)) ∙ new) in
        some_under handle notes _ was none)
      where
        map_none : {X Y : Type 0} (f : X → Y) (xs : List X) → map f xs ≡ [] → xs ≡ []
        map_none f [] is = refl
        map_none f (x ∷ xs) is = absurd cc

    line_by : (handle : ℕ) (here : Bool) → (under == handle) ≡ here → (was_opened handle notes || here) ≡ true → IsOfItsNotes opened_then station handle
    line_by handle true is was =
        ap (λ m. lines_of side m (journal_of opened_then)) (number_then handle true is)
        ∙ journal_noted station history opening last (OpenedLine side last under role ∷ []) (named_here side last last (OpenedLine side last under role) (eq-eqb last last refl))
        ∙ ap (λ xs. xs ++ OpenedLine side last under role ∷ []) new
        ∙ (λ i. map (line_of side (sym (number_then handle true is) i)) (sym (notes_by handle true is) i))
    line_by handle false is was =
        let was_open = sym (or_none (was_opened handle notes)) ∙ was in
        let n = number handle in
        ap (λ m. lines_of side m (journal_of opened_then)) (number_then handle false is)
        ∙ journal_noted station history opening n [] (named_elsewhere side side last n (OpenedLine side last under role) (other_than handle was_open))
        ∙ append-nil (lines_of side n known) ∙ are.lines handle was_open
        ∙ (λ i. map (line_of side (sym (number_then handle false is) i)) (sym (notes_by handle false is) i))

    opening_sorted : AreSorted station opened_then
    opening_sorted = record {
      lines = λ handle was. line_by handle (under == handle) refl (sym (opened_by handle (under == handle) refl) ∙ was);
      numbered = λ handle was. at_least handle (under == handle) refl (sym (opened_by handle (under == handle) refl) ∙ was);
      unnumbered = λ handle was. zero_yet handle (under == handle) refl (sym (opened_by handle (under == handle) refl) ∙ was);
      apart = λ one other was was_too differs.
          apart_by one other (under == one) (under == other) refl refl (sym (opened_by one (under == one) refl) ∙ was) (sym (opened_by other (under == other) refl) ∙ was_too) differs;
    }
      where
        at_least : (handle : ℕ) (here : Bool) → (under == handle) ≡ here → (was_opened handle notes || here) ≡ true → 1 ≤ number_at station handle opened_then
        at_least handle true is was = subst (λ n. 1 ≤ n) (sym (number_then handle true is)) least
        at_least handle false is was = subst (λ n. 1 ≤ n) (sym (number_then handle false is)) (are.numbered handle (sym (or_none (was_opened handle notes)) ∙ was))

        or_true : (b : Bool) (X : Type 0) → (b || true) ≡ false → X
        or_true true X is = absurd cc
        or_true false X is = absurd cc

        zero_yet : (handle : ℕ) (here : Bool) → (under == handle) ≡ here → (was_opened handle notes || here) ≡ false → number_at station handle opened_then ≡ 0
        zero_yet handle true is was = or_true (was_opened handle notes) _ was
        zero_yet handle false is was = number_then handle false is ∙ are.unnumbered handle (sym (or_none (was_opened handle notes)) ∙ was)

        apart_by : (one other : ℕ) (here there : Bool) → (under == one) ≡ here → (under == other) ≡ there → (was_opened one notes || here) ≡ true
            → (was_opened other notes || there) ≡ true → (one == other) ≡ false → (number_at station one opened_then == number_at station other opened_then) ≡ false
        apart_by one other true true is is_too was was_too differs =
            absurd (eqb-false one other differs (sym (eqb-true under one is) ∙ eqb-true under other is_too))
        apart_by one other true false is is_too was was_too differs =
            (λ i. number_then one true is i == number_then other false is_too i) ∙ other_than other (sym (or_none (was_opened other notes)) ∙ was_too)
        apart_by one other false true is is_too was was_too differs =
            (λ i. number_then one false is i == number_then other true is_too i)
            ∙ differs_back last (number one) (other_than one (sym (or_none (was_opened one notes)) ∙ was))
        apart_by one other false false is is_too was was_too differs =
            (λ i. number_then one false is i == number_then other false is_too i)
            ∙ are.apart one other (sym (or_none (was_opened one notes)) ∙ was) (sym (or_none (was_opened other notes)) ∙ was_too) differs

-- ---- a run

module _ (understood : IsUnderstood) (taken : AreTaken) (given : Given) (distinct : AreDistinct given.stations) (six : HaveAddresses given) (station : ℕ) (apart : IsApart given station) where
  own_note : (history rest : List Event) (note : Note) → history_of (run_of given) ≡ history ++ Noted station note ∷ rest → AreSorted station history
      → AreSorted station (history ++ Noted station note ∷ [])
  own_note history rest (Up packet) is are = packet_sorted station history are (Up packet) (λ handle. refl) (λ handle. refl) (λ n. refl) refl
  own_note history rest (Opened handle role own peer) is are =
      let opening = opening_at understood taken given history rest station handle role own peer distinct six is in
      let number = (links_of history).last_of station in
      opening_sorted station history are handle role own peer (let next = opening.number_is in omega (arith, next))
      (fresh given station apart history opening.known opening.since (Noted station (Opened handle role own peer) ∷ rest) number is opening.is_at opening.number_is opening.unnoted)
  own_note history rest (Shut handle reason) is are = link_sorted station history are handle (Shut handle reason)
      (record { opens = λ n. refl; is = λ n. refl; named = λ side link_of last n. refl; line = λ side link_of last n same. (λ i. line_of side (same i) (Shut handle reason)); links = λ one links. refl })
  own_note history rest (Sent handle count llid body) is are = link_sorted station history are handle (Sent handle count llid body)
      (record { opens = λ n. refl; is = λ n. refl; named = λ side link_of last n. refl; line = λ side link_of last n same. (λ i. line_of side (same i) (Sent handle count llid body)); links = λ one links. refl })
  own_note history rest (Took handle count llid body) is are = link_sorted station history are handle (Took handle count llid body)
      (record { opens = λ n. refl; is = λ n. refl; named = λ side link_of last n. refl; line = λ side link_of last n same. (λ i. line_of side (same i) (Took handle count llid body)); links = λ one links. refl })
  own_note history rest (Enter handle event channel) is are = link_sorted station history are handle (Enter handle event channel)
      (record { opens = λ n. refl; is = λ n. refl; named = λ side link_of last n. refl; line = λ side link_of last n same. (λ i. line_of side (same i) (Enter handle event channel)); links = λ one links. refl })
  own_note history rest (Applied handle count event) is are = link_sorted station history are handle (Applied handle count event)
      (record { opens = λ n. refl; is = λ n. refl; named = λ side link_of last n. refl; line = λ side link_of last n same. (λ i. line_of side (same i) (Applied handle count event)); links = λ one links. refl })
  own_note history rest (Began handle kind) is are = link_sorted station history are handle (Began handle kind)
      (record { opens = λ n. refl; is = λ n. refl; named = λ side link_of last n. refl; line = λ side link_of last n same. (λ i. line_of side (same i) (Began handle kind)); links = λ one links. refl })
  own_note history rest (Refused handle kind code) is are = link_sorted station history are handle (Refused handle kind code)
      (record { opens = λ n. refl; is = λ n. refl; named = λ side link_of last n. refl; line = λ side link_of last n same. (λ i. line_of side (same i) (Refused handle kind code)); links = λ one links. refl })
  own_note history rest (Done handle kind) is are = link_sorted station history are handle (Done handle kind)
      (record { opens = λ n. refl; is = λ n. refl; named = λ side link_of last n. refl; line = λ side link_of last n same. (λ i. line_of side (same i) (Done handle kind)); links = λ one links. refl })

  any_note : (history rest : List Event) (other : ℕ) (note : Note) (same : Bool) → (station == other) ≡ same → history_of (run_of given) ≡ history ++ Noted other note ∷ rest
      → AreSorted station history → AreSorted station (history ++ Noted other note ∷ [])
  any_note history rest other note true same is are =
      let one = eqb-true station other same in
      subst (λ n. AreSorted station (history ++ Noted n note ∷ [])) one
      (own_note history rest note (subst (λ n. history_of (run_of given) ≡ history ++ Noted n note ∷ rest) (sym one) is) are)
  any_note history rest other note false differs is are =
      let links = links_of history in
      let in_it = each_at (OfStations given) (history_of (run_of given)) history rest (Noted other note) (run_of_stations given) is in
      event_sorted station history (Noted other note) (ap (λ b. one_if b note) differs)
      (λ number. across (side_of station) (side_of other) number (links.link_of other) (links.last_of other) note (apart other in_it differs))
      (λ handle. other_number links other station handle note differs) are

  any_event : (history rest : List Event) (event : Event) → history_of (run_of given) ≡ history ++ event ∷ rest → AreSorted station history → AreSorted station (history ++ event ∷ [])
  any_event history rest (Noted other note) is are = any_note history rest other note (station == other) refl is are
  any_event history rest (TurnBegan slot radios) is are = event_sorted station history (TurnBegan slot radios) refl (λ number. refl) (λ handle. refl) are
  any_event history rest (HostFed other octets) is are = event_sorted station history (HostFed other octets) refl (λ number. refl) (λ handle. refl) are
  any_event history rest (Called other step) is are = event_sorted station history (Called other step) refl (λ number. refl) (λ handle. refl) are
  any_event history rest (Transmitted sender channel octets []) is are =
      event_sorted station history (Transmitted sender channel octets []) refl (λ number. refl)
      (λ handle. begins_same (begins_link channel octets) (links_of history) (with_link sender [] (links_of history)) station handle refl) are
  any_event history rest (Transmitted sender channel octets (hearing ∷ hearings)) is are =
      event_sorted station history (Transmitted sender channel octets (hearing ∷ hearings)) refl (λ number. refl)
      (λ handle. begins_same (begins_link channel octets) (links_of history) (with_link sender (hearing ∷ hearings) (links_of history)) station handle refl) are

  sorted_from : (history events rest : List Event) → history_of (run_of given) ≡ history ++ (events ++ rest) → AreSorted station history → AreSorted station (history ++ events)
  sorted_from history [] rest is are = subst (AreSorted station) (sym (append-nil history)) are
  sorted_from history (event ∷ events) rest is are =
      subst (AreSorted station) (append_assoc history (event ∷ []) events)
      (sorted_from (history ++ event ∷ []) events rest (is ∙ sym (append_assoc history (event ∷ []) (events ++ rest)))
      (any_event history (events ++ rest) event is are))

  none_sorted : AreSorted station []
  unfolding links_of
  none_sorted = record {
    lines = λ handle was. absurd cc;
    numbered = λ handle was. absurd cc;
    unnumbered = λ handle was. refl;
    apart = λ one other was was_too differs. absurd cc;
  }

  -- at any place of the run
  pub lines_are_notes : (before rest : List Event) (handle : ℕ) → history_of (run_of given) ≡ before ++ rest → was_opened handle (noted_by station before) ≡ true
      → IsOfItsNotes before station handle
  lines_are_notes before rest handle is was = (sorted_from [] before rest is none_sorted).lines handle was

  -- a link was opened under the handle of each link that is open
  pub open_was_opened : (before rest : List Event) (handle : ℕ) (link : OpenLink) → history_of (run_of given) ≡ before ++ rest → AreNumbered given before
      → link_at handle (facts_at given station before).links ≡ Some link → was_opened handle (noted_by station before) ≡ true
  open_was_opened before rest handle link is numbers at = by (was_opened handle (noted_by station before)) refl
    where
      by : (was : Bool) → was_opened handle (noted_by station before) ≡ was → was ≡ true
      by true was = refl
      by false was =
          let number = (numbers station handle link at).number_is in
          let none = (sorted_from [] before rest is none_sorted).unnumbered handle was in
          absurd (omega (arith, number, none))

  -- where a link is open, its lines are what its end noted
  pub lines_of_end : (before rest : List Event) (handle : ℕ) (link : OpenLink) → history_of (run_of given) ≡ before ++ rest → AreNumbered given before → HasNoted given station before
      → link_at handle (facts_at given station before).links ≡ Some link
      → AreLinesOf (journal_of before) station (number_at station handle before) (notes_opened_on link.setup link.past)
  lines_of_end before rest handle link is numbers noted at =
      lines_are_notes before rest handle is (open_was_opened before rest handle link is numbers at)
      ∙ ap (map (line_of (side_of station) (number_at station handle before)))
      (ap (notes_under handle) noted ∙ open_noted handle (setup_at given station) (past_of station before) link at)
