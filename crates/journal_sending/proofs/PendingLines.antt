-- What an entry, an event or a call adds to what is pending for a side, and which lines take just that.
use Rattle.std.proofs.Common.{◌≡◌, ℕ, ◌==◌, ◌&&◌, not, Bool, true, false, Option, Some, None, List, [], ◌∷◌, ◌++◌, refl, sym, ap, subst, ◌∙◌, append-nil, append_assoc}
use Rattle.std.specs.Prelude.{All, ⊤, map, if◌then◌else◌}
use Rattle.std.proofs.lemmas.List.Elements.{All-head, All-tail}
use Rattle.ble_base.specs.declared.roles.Side.{Side}
use Rattle.ble_base.specs.declared.notes.Note.{Note}
use Rattle.ble_base.specs.declared.notes.Note.TheVariants.{Done, Took, Up}
use Rattle.ble_base.specs.declared.procedure_kinds.Kind.{Kind}
use Rattle.journal.specs.declared.entries.Entry.{Entry}
use Rattle.journal.specs.declared.entries.Entry.TheVariants.{Air, Done as DoneLine, Fed}
use Rattle.journal_leaving.specs.controller_model.Step.{Step}
use Rattle.journal_leaving.specs.controller_model.Side.{notes_after}
use Rattle.journal_leaving.specs.run_model.Due.{Each}
use Rattle.journal_leaving.specs.run_model.History.{Event, TurnBegan, HostFed, Called, Noted, Transmitted, Hearing}
use Rattle.journal_leaving.specs.run_model.Journal.{air_entries, entry_of, journal_of, mark_of, side_of}
use Rattle.journal_leaving.specs.run_model.Links.{Links, links_of}
use Rattle.journal_leaving.specs.run_model.Run.{Given, after_call, facts_at, setup_at}
use Rattle.journal_leaving.proofs.run_model.LinksKnown.{links_event}
use Rattle.journal_leaving.proofs.run_model.Parts.{journal_event}
use Rattle.journal_leaving.proofs.run_model.Places.{each_append}
use Rattle.journal_leaving.specs.journal_packets.Belonging.{is_side}
use Rattle.journal_leaving.proofs.journal_acks.link_calls.CallNotes.{TakesNone}
use Rattle.journal_leaving.proofs.journal_acks.Exchanging.{any_note, call_keeps}
use Rattle.journal_leaving.proofs.journal_acks.TwoStations.{side_same}
use Rattle.journal_leaving.specs.journal_data.Lines.{PduLine}
use Rattle.journal_sending.specs.Pending.{is_done_on, pending_pdu, pending_pdu_after, pending_pdu_from, taken_pdu}
use Rattle.journal_fixing.specs.journal_controls.journal_ends.Asked.{Words}

-- what is pending for a station, as the journal of a history has it
abbrev pub pending_at : Words → ℕ → List Event → Option PduLine
pending_at words station history = pending_pdu words (side_of station) (journal_of history)

-- ---- an entry more

from_more : (words : Words) (side : Side) (front : List Entry) (before : Option PduLine) (entries : List Entry) (entry : Entry)
    → pending_pdu_from words side front before (entries ++ entry ∷ []) ≡ pending_pdu_after words side (front ++ entries) (pending_pdu_from words side front before entries) entry
from_more words side front before [] entry = ap (λ xs. pending_pdu_after words side xs before entry) (sym (append-nil front))
from_more words side front before (first ∷ entries) entry =
    let next = pending_pdu_after words side front before first in
    from_more words side (front ++ first ∷ []) next entries entry
    ∙ ap (λ xs. pending_pdu_after words side xs (pending_pdu_from words side (front ++ first ∷ []) next entries) entry) (append_assoc front (first ∷ []) entries)

pending_more : (words : Words) (side : Side) (journal : List Entry) (entry : Entry)
    → pending_pdu words side (journal ++ entry ∷ []) ≡ pending_pdu_after words side journal (pending_pdu words side journal) entry
unfolding pending_pdu
pending_more words side journal entry = from_more words side [] None journal entry

-- ---- an event more

pub turn_pending : (words : Words) (station : ℕ) (history : List Event) (slot : ℕ) (radios : List Bool)
    → pending_at words station (history ++ TurnBegan slot radios ∷ []) ≡ pending_at words station history
turn_pending words station history slot radios =
    ap (pending_pdu words (side_of station)) (journal_event history (TurnBegan slot radios)) ∙ pending_more words (side_of station) (journal_of history) _

called_pending : (words : Words) (station : ℕ) (history : List Event) (other : ℕ) (step : Step)
    → pending_at words station (history ++ Called other step ∷ []) ≡ pending_at words station history
called_pending words station history other step =
    ap (pending_pdu words (side_of station)) (journal_event history (Called other step) ∙ append-nil (journal_of history))

-- a line of the side leaves nothing, and one of the other side what there was
other_same : (own done : Bool) (before : Option PduLine) → own ≡ false → (if own && not done then None else before) ≡ before
other_same false done before is = refl
other_same true done before is = absurd cc

abbrev nothing : Option PduLine
nothing = None

both_none : (own : Bool) → (if own && true then nothing else nothing) ≡ nothing
both_none true = refl
both_none false = refl

own_left : (own done : Bool) (before : Option PduLine) → own ≡ true → done ≡ false → (if own && not done then None else before) ≡ None
own_left own done before is other = ap (λ b. if b && not done then None else before) is ∙ ap (λ b. if not b then None else before) other

-- a line that says of no procedure that it is done
fed_done : (side : Side) (octets : List ℕ) (before : Option PduLine) → is_done_on before (Fed side octets) ≡ false
fed_done side octets None = refl
fed_done side octets (Some line) = refl

pub fed_own : (words : Words) (station : ℕ) (history : List Event) (octets : List ℕ) → pending_at words station (history ++ HostFed station octets ∷ []) ≡ None
fed_own words station history octets =
    ap (pending_pdu words (side_of station)) (journal_event history (HostFed station octets)) ∙ pending_more words (side_of station) (journal_of history) _
    ∙ own_left (is_side (side_of station) (side_of station)) (is_done_on (pending_at words station history) (Fed (side_of station) octets)) (pending_at words station history) (side_same station)
    (fed_done (side_of station) octets (pending_at words station history))

pub fed_other : (words : Words) (station other : ℕ) (history : List Event) (octets : List ℕ) → is_side (side_of other) (side_of station) ≡ false
    → pending_at words station (history ++ HostFed other octets ∷ []) ≡ pending_at words station history
fed_other words station other history octets differs =
    ap (pending_pdu words (side_of station)) (journal_event history (HostFed other octets)) ∙ pending_more words (side_of station) (journal_of history) _
    ∙ other_same (is_side (side_of other) (side_of station)) (is_done_on (pending_at words station history) (Fed (side_of other) octets)) (pending_at words station history) differs

noted_other : (words : Words) (side other : Side) (front : List Entry) (before : Option PduLine) (link_of : ℕ → ℕ) (last : ℕ) (note : Note) → is_side other side ≡ false
    → pending_pdu_after words side front before (entry_of other link_of last note) ≡ before
noted_other words side other front before link_of last (Up packet) differs = other_same (is_side other side) _ before differs
noted_other words side other front before link_of last note differs = other_same (is_side other side) _ before differs

-- the line of a note
abbrev pub line_at : ℕ → List Event → Note → Entry
line_at station history note = entry_of (side_of station) ((links_of history).link_of station) ((links_of history).last_of station) note

note_after : (words : Words) (station : ℕ) (history : List Event) (note : Note) → pending_at words station (history ++ Noted station note ∷ [])
    ≡ pending_pdu_after words (side_of station) (journal_of history) (pending_at words station history) (line_at station history note)
note_after words station history note =
    ap (pending_pdu words (side_of station)) (journal_event history (Noted station note))
    ∙ pending_more words (side_of station) (journal_of history) (line_at station history note)

noted_own : (words : Words) (side : Side) (front : List Entry) (before : Option PduLine) (link_of : ℕ → ℕ) (last : ℕ) (note : Note) → is_side side side ≡ true
    → is_done_on before (entry_of side link_of last note) ≡ false → pending_pdu_after words side front before (entry_of side link_of last note) ≡ None
noted_own words side front before link_of last (Up packet) own other = own_left (is_side side side) _ before own other
noted_own words side front before link_of last note own other = own_left (is_side side side) _ before own other

pub note_own : (words : Words) (station : ℕ) (history : List Event) (note : Note) → is_done_on (pending_at words station history) (line_at station history note) ≡ false
    → pending_at words station (history ++ Noted station note ∷ []) ≡ None
note_own words station history note other =
    let links = links_of history in
    note_after words station history note
    ∙ noted_own words (side_of station) (journal_of history) (pending_at words station history) (links.link_of station) (links.last_of station) note (side_same station) other

-- what is pending is of this link
abbrev pub IsOnLink : ℕ → Option PduLine → Type 0
IsOnLink number None = ⊤
IsOnLink number (Some line) = (number == line.link) ≡ true

-- so a line that a procedure is done on the link leaves it
done_stays : (side : Side) (kind : Kind) (own : Bool) (number : ℕ) (before : Option PduLine) → IsOnLink number before
    → (if own && not (is_done_on before (DoneLine side number kind)) then None else before) ≡ before
done_stays side kind true number None on = refl
done_stays side kind false number None on = refl
done_stays side kind true number (Some line) on = ap (λ b. if not b then None else Some line) on
done_stays side kind false number (Some line) on = refl

note_other : (words : Words) (station other : ℕ) (history : List Event) (note : Note) → is_side (side_of other) (side_of station) ≡ false
    → pending_at words station (history ++ Noted other note ∷ []) ≡ pending_at words station history
note_other words station other history note differs =
    let links = links_of history in
    ap (pending_pdu words (side_of station)) (journal_event history (Noted other note))
    ∙ pending_more words (side_of station) (journal_of history) (entry_of (side_of other) (links.link_of other) (links.last_of other) note)
    ∙ noted_other words (side_of station) (side_of other) (journal_of history) (pending_at words station history) (links.link_of other) (links.last_of other) note differs

pub air_pending : (words : Words) (station other channel : ℕ) (octets : List ℕ) (history : List Event) (hearings : List Hearing) (hearing : Hearing) → hearings ≡ hearing ∷ []
    → pending_at words station (history ++ Transmitted other channel octets hearings ∷ [])
    ≡ pending_pdu_after words (side_of station) (journal_of history) (pending_at words station history) (Air (side_of other) channel octets (mark_of hearing.fate) hearing.verdict)
air_pending words station other channel octets history hearings hearing are =
    ap (pending_pdu words (side_of station)) (journal_event history (Transmitted other channel octets hearings)
    ∙ ap (λ xs. journal_of history ++ air_entries (side_of other) channel octets xs) are)
    ∙ pending_more words (side_of station) (journal_of history) (Air (side_of other) channel octets (mark_of hearing.fate) hearing.verdict)

-- ---- a call

pub call_other : (words : Words) (given : Given) (station other : ℕ) (step : Step) (history : List Event) → is_side (side_of other) (side_of station) ≡ false
    → pending_at words station (after_call given other step history) ≡ pending_at words station history
call_other words given station other step history differs =
    call_keeps (Option PduLine) (pending_at words station) (λ note. true ≡ true) other (λ before note any. note_other words station other before note differs)
    given step history (called_pending words station history other step) (any_note _)

-- the PDU that a note takes, with these numbers of links
abbrev pub taken_note : (ℕ → ℕ) → Note → Option PduLine
taken_note link_of (Took handle count llid body) =
    Some (record { link = link_of handle; number = count; pdu = record { llid = llid; body = body.items } })
taken_note link_of other = None

-- the PDU that the first of these notes takes, after those that a procedure is done
abbrev pub first_taken : (ℕ → ℕ) → List Note → Option PduLine
first_taken link_of [] = None
first_taken link_of (Done handle kind ∷ notes) = first_taken link_of notes
first_taken link_of (note ∷ notes) = taken_note link_of note

abbrev is_done_note : Note → Bool
is_done_note (Done handle kind) = true
is_done_note note = false

-- those are of its link, and no note after it takes a PDU
abbrev pub TakesFirst : (ℕ → ℕ) → List Note → Type 0
TakesFirst link_of [] = ⊤
TakesFirst link_of (Done handle kind ∷ notes) = IsOnLink (link_of handle) (first_taken link_of notes) × TakesFirst link_of notes
TakesFirst link_of (note ∷ notes) = All TakesNone notes

pub takes_none : (link_of : ℕ → ℕ) (note : Note) → TakesNone note → taken_note link_of note ≡ None
takes_none link_of (Took handle count llid body) none = absurd cc
takes_none link_of (Up packet) none = refl
takes_none link_of note none = refl

pub first_none : (link_of : ℕ → ℕ) (notes : List Note) → All TakesNone notes → first_taken link_of notes ≡ None
first_none link_of [] none = refl
first_none link_of (Done handle kind ∷ notes) none = first_none link_of notes (All-tail TakesNone (Done handle kind) notes none)
first_none link_of (Up packet ∷ notes) none = refl
first_none link_of (note ∷ notes) none = takes_none link_of note (All-head TakesNone note notes none)

pub first_fits : (link_of : ℕ → ℕ) (notes : List Note) → All TakesNone notes → TakesFirst link_of notes
first_fits link_of [] none = tt
first_fits link_of (Done handle kind ∷ notes) none =
    let rest = All-tail TakesNone (Done handle kind) notes none in (
      subst (IsOnLink (link_of handle)) (sym (first_none link_of notes rest)) tt,
      first_fits link_of notes rest,
    )
first_fits link_of (Up packet ∷ notes) none = All-tail TakesNone (Up packet) notes none
first_fits link_of (note ∷ notes) none = All-tail TakesNone note notes none

-- the same with the same numbers
pub same_taken : (one other : ℕ → ℕ) (notes : List Note) → ((handle : ℕ) → one handle ≡ other handle) → first_taken one notes ≡ first_taken other notes
same_taken one other [] same = refl
same_taken one other (Took handle count llid body ∷ notes) same =
    ap (λ n. Some (record { link = n; number = count; pdu = record { llid = llid; body = body.items } })) (same handle)
same_taken one other (Done handle kind ∷ notes) same = same_taken one other notes same
same_taken one other (Up packet ∷ notes) same = refl
same_taken one other (note ∷ notes) same = refl

-- the line of a note takes what the note takes
line_taken : (side : Side) (link_of : ℕ → ℕ) (last : ℕ) (note : Note) → taken_pdu (entry_of side link_of last note) ≡ taken_note link_of note
line_taken side link_of last (Took handle count llid body) = refl
line_taken side link_of last (Up packet) = refl
line_taken side link_of last note = refl

-- ---- what is taken is just what is pending

-- the line of an event takes what is pending for its side
abbrev pub IsTakenEvent : Words → List Event → Event → Type 0
IsTakenEvent words history (HostFed station octets) = pending_at words station history ≡ None
IsTakenEvent words history (Noted station note) =
    is_done_on (pending_at words station history) (line_at station history note) ≡ false → taken_pdu (line_at station history note) ≡ pending_at words station history
IsTakenEvent words history (Transmitted station channel octets hearings) = pending_at words station history ≡ None
IsTakenEvent words history (TurnBegan slot radios) = ⊤
IsTakenEvent words history (Called station step) = ⊤

-- a line that a procedure is done
done_event : (number : ℕ) (side : Side) (kind : Kind) (before : Option PduLine) → IsOnLink number before → is_done_on before (DoneLine side number kind) ≡ false
    → None ≡ before
done_event number side kind None on other = refl
done_event number side kind (Some line) on other = absurd (let h : true ≡ false = sym on ∙ other in absurd cc)

-- one of another kind
not_done : (side : Side) (link_of : ℕ → ℕ) (last : ℕ) (before : Option PduLine) (note : Note) → is_done_note note ≡ false
    → is_done_on before (entry_of side link_of last note) ≡ false
not_done side link_of last None note other = refl
not_done side link_of last (Some line) (Done handle kind) other = absurd cc
not_done side link_of last (Some line) (Up packet) other = refl
not_done side link_of last (Some line) note other = refl

record AreSpent (words : Words) (station : ℕ) (history : List Event) (notes : List Note) : Type 0 where
  each : Each (IsTakenEvent words) history (map (Noted station) notes)
  none : pending_at words station (history ++ map (Noted station) notes) ≡ None

one_more : (words : Words) (station : ℕ) (history : List Event) (note : Note) (notes : List Note)
    → (is_done_on (pending_at words station history) (line_at station history note) ≡ false → taken_pdu (line_at station history note) ≡ pending_at words station history)
    → AreSpent words station (history ++ Noted station note ∷ []) notes → AreSpent words station history (note ∷ notes)
one_more words station history note notes is rest = record {
  each = (is, rest.each);
  none = ap (pending_at words station) (sym (append_assoc history (Noted station note ∷ []) (map (Noted station) notes))) ∙ rest.none;
}

-- notes that take nothing, where nothing is pending
none_after : (words : Words) (side : Side) (front : List Entry) (link_of : ℕ → ℕ) (last : ℕ) (before : Option PduLine) (note : Note) → before ≡ None
    → pending_pdu_after words side front before (entry_of side link_of last note) ≡ None
none_after words side front link_of last (Some line) note none = absurd cc
none_after words side front link_of last None (Up packet) none = both_none (is_side side side)
none_after words side front link_of last None note none = both_none (is_side side side)

rest_left : (words : Words) (station : ℕ) (notes : List Note) (history : List Event) → pending_at words station history ≡ None → All TakesNone notes → AreSpent words station history notes
rest_left words station [] history is none = record { each = tt; none = ap (pending_at words station) (append-nil history) ∙ is }
rest_left words station (note ∷ notes) history is none =
    let links = links_of history in
    one_more words station history note notes
    (λ other. line_taken (side_of station) (links.link_of station) (links.last_of station) note
    ∙ takes_none (links.link_of station) note (All-head TakesNone note notes none) ∙ sym is)
    (rest_left words station notes (history ++ Noted station note ∷ [])
    (note_after words station history note ∙ none_after words (side_of station) (journal_of history) (links.link_of station) (links.last_of station) (pending_at words station history) note is)
    (All-tail TakesNone note notes none))

other_taken : (words : Words) (station : ℕ) (note : Note) (notes : List Note) (history : List Event) (link_of : ℕ → ℕ) → (links_of history).link_of station ≡ link_of
    → pending_at words station history ≡ taken_note link_of note → All TakesNone notes → is_done_note note ≡ false → AreSpent words station history (note ∷ notes)
other_taken words station note notes history link_of numbers is none other =
    let links = links_of history in
    one_more words station history note notes
    (λ left. line_taken (side_of station) (links.link_of station) (links.last_of station) note ∙ ap (λ f. taken_note f note) numbers ∙ sym is)
    (rest_left words station notes (history ++ Noted station note ∷ [])
    (note_own words station history note (not_done (side_of station) (links.link_of station) (links.last_of station) (pending_at words station history) note other)) none)

-- notes of which the first takes what is pending
notes_taken : (words : Words) (station : ℕ) (notes : List Note) (history : List Event) (link_of : ℕ → ℕ) → (links_of history).link_of station ≡ link_of
    → pending_at words station history ≡ first_taken link_of notes → TakesFirst link_of notes → AreSpent words station history notes
notes_taken words station [] history link_of numbers is fits = record { each = tt; none = ap (pending_at words station) (append-nil history) ∙ is }
notes_taken words station (Done handle kind ∷ notes) history link_of numbers is fits =
    let side = side_of station in
    let number = (links_of history).link_of station handle in
    let next = history ++ Noted station (Done handle kind) ∷ [] in
    let on : IsOnLink number (pending_at words station history) = subst (IsOnLink number) (sym is) (subst (λ f. IsOnLink (f handle) (first_taken link_of notes)) (sym numbers) fits.0) in
    one_more words station history (Done handle kind) notes (done_event number side kind (pending_at words station history) on)
    (notes_taken words station notes next link_of
    (ap (λ (links : Links). links.link_of station) (links_event history (Noted station (Done handle kind))) ∙ numbers)
    (note_after words station history (Done handle kind) ∙ done_stays side kind (is_side side side) number (pending_at words station history) on ∙ is) fits.1)
notes_taken words station (Up packet ∷ notes) history link_of numbers is fits = other_taken words station (Up packet) notes history link_of numbers is fits refl
notes_taken words station (note ∷ notes) history link_of numbers is fits = other_taken words station note notes history link_of numbers is fits refl

-- a call of which the first note takes what is pending, and no other note takes anything
pub record IsSpent (words : Words) (given : Given) (history : List Event) (station : ℕ) (step : Step) : Type 0 where
  pub first : pending_at words station history
      ≡ first_taken ((links_of history).link_of station) (notes_after (setup_at given station) (facts_at given station history) step)
  pub fits : TakesFirst ((links_of history).link_of station) (notes_after (setup_at given station) (facts_at given station history) step)

-- a call that takes nothing, where nothing is pending
pub spends_none : (words : Words) (given : Given) (history : List Event) (station : ℕ) (step : Step) → pending_at words station history ≡ None
    → All TakesNone (notes_after (setup_at given station) (facts_at given station history) step) → IsSpent words given history station step
spends_none words given history station step none all =
    let notes = notes_after (setup_at given station) (facts_at given station history) step in record {
      first = none ∙ sym (first_none ((links_of history).link_of station) notes all);
      fits = first_fits ((links_of history).link_of station) notes all;
    }

module _ (words : Words) (given : Given) (station : ℕ) (step : Step) (history : List Event) (spent : IsSpent words given history station step) where
  abbrev notes : List Note
  notes = notes_after (setup_at given station) (facts_at given station history) step

  abbrev called : List Event
  called = history ++ Called station step ∷ []

  spends : AreSpent words station called notes
  spends =
      let links = links_event history (Called station step) in
      notes_taken words station notes called ((links_of history).link_of station) (ap (λ (now : Links). now.link_of station) links)
      (called_pending words station history station step ∙ spent.first) spent.fits

  pub call_own : pending_at words station (after_call given station step history) ≡ None
  call_own = ap (pending_at words station) (sym (append_assoc history (Called station step ∷ []) (map (Noted station) notes))) ∙ spends.none

  pub call_taken : Each (IsTakenEvent words) [] history → Each (IsTakenEvent words) [] (after_call given station step history)
  call_taken each = each_append (IsTakenEvent words) [] history (Called station step ∷ map (Noted station) notes) each (tt, spends.each)
