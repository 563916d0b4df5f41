-- What an entry, an event or a call adds to the counts of a journal, and to the numbers of links.
use Rattle.std.proofs.Common.{◌≡◌, ℕ, ◌==◌, ◌&&◌, Bool, true, false, List, [], ◌∷◌, ◌++◌, refl, sym, ap, subst, ◌∙◌, append-nil, append_assoc}
use Rattle.std.specs.Prelude.{All, map, if◌then◌else◌}
use Rattle.std.proofs.lemmas.List.Elements.{All-cons, All-head, All-nil, All-tail}
use Rattle.ble_base.specs.Side.{other_side}
use Rattle.ble_base.specs.declared.roles.Side.{Side}
use Rattle.ble_base.specs.declared.roles.Side.TheVariants.{A, B}
use Rattle.ble_base.specs.declared.notes.Note.{Note}
use Rattle.ble_base.specs.declared.notes.Note.TheVariants.{Up, Opened, Took}
use Rattle.journal.specs.declared.entries.Entry.{Entry}
use Rattle.journal_packets.specs.controller_model.Step.{Step}
use Rattle.journal_packets.specs.controller_model.Side.{notes_after}
use Rattle.link_calls.specs.run_model.History.{Event, TurnBegan, HostFed, Called, Noted, Transmitted, Hearing}
use Rattle.link_calls.specs.run_model.Journal.{entries_of, entry_of, journal_of, side_of}
use Rattle.link_calls.specs.run_model.Links.{Links, begins_link, links_after, links_noted, links_of, with_link}
use Rattle.link_calls.specs.run_model.Run.{Given, after_call, facts_at, setup_at}
use Rattle.link_calls.proofs.run_model.LinksKnown.{links_event}
use Rattle.link_calls.proofs.run_model.Parts.{journal_event}
use Rattle.journal_packets.specs.Belonging.{is_side}
use Rattle.journal_acks.specs.Exchange.{Exchanged, after_taking, exchange_after, exchange_from, exchange_of, first_exchanged, with_taken}
use Rattle.link_calls.proofs.CallNotes.{OpensNone, TakesNone, is_taking}

-- ---- an entry more

from_more : (number : ℕ) (front : List Entry) (ends : Side → Exchanged) (entries : List Entry) (entry : Entry)
    → exchange_from number front ends (entries ++ entry ∷ []) ≡ exchange_after number (front ++ entries) (exchange_from number front ends entries) entry
from_more number front ends [] entry = ap (λ xs. exchange_after number xs ends entry) (sym (append-nil front))
from_more number front ends (first ∷ entries) entry =
    let next = exchange_after number front ends first in
    from_more number (front ++ first ∷ []) next entries entry
    ∙ ap (λ xs. exchange_after number xs (exchange_from number (front ++ first ∷ []) next entries) entry) (append_assoc front (first ∷ []) entries)

pub exchange_more : (number : ℕ) (journal : List Entry) (entry : Entry)
    → exchange_of number (journal ++ entry ∷ []) ≡ exchange_after number journal (exchange_of number journal) entry
unfolding exchange_of
exchange_more number journal entry = from_more number [] (λ side. first_exchanged) journal entry

-- ---- an event more

-- both ends of the link with a number, as the journal of a history has them
abbrev pub exchange_at : ℕ → List Event → Side → Exchanged
exchange_at number history = exchange_of number (journal_of history)

-- an event whose one entry changes nothing
entry_quiet : (number : ℕ) (history : List Event) (event : Event) (entry : Entry) → entries_of (links_of history) event ≡ entry ∷ []
    → exchange_after number (journal_of history) (exchange_at number history) entry ≡ exchange_at number history
    → exchange_at number (history ++ event ∷ []) ≡ exchange_at number history
entry_quiet number history event entry is same =
    ap (exchange_of number) (journal_event history event ∙ ap (λ xs. journal_of history ++ xs) is) ∙ exchange_more number (journal_of history) entry ∙ same

pub turn_quiet : (number : ℕ) (history : List Event) (slot : ℕ) (radios : List Bool)
    → exchange_at number (history ++ TurnBegan slot radios ∷ []) ≡ exchange_at number history
turn_quiet number history slot radios = entry_quiet number history (TurnBegan slot radios) _ refl refl

pub feed_quiet : (number : ℕ) (history : List Event) (station : ℕ) (octets : List ℕ)
    → exchange_at number (history ++ HostFed station octets ∷ []) ≡ exchange_at number history
feed_quiet number history station octets = entry_quiet number history (HostFed station octets) _ refl refl

pub call_quiet : (number : ℕ) (history : List Event) (station : ℕ) (step : Step)
    → exchange_at number (history ++ Called station step ∷ []) ≡ exchange_at number history
call_quiet number history station step = ap (exchange_of number) (journal_event history (Called station step) ∙ append-nil (journal_of history))

pub note_exchange : (number : ℕ) (history : List Event) (station : ℕ) (note : Note)
    → let links = links_of history in
    exchange_at number (history ++ Noted station note ∷ [])
    ≡ exchange_after number (journal_of history) (exchange_at number history)
    (entry_of (side_of station) (links.link_of station) (links.last_of station) note)
note_exchange number history station note =
    let links = links_of history in
    let entry = entry_of (side_of station) (links.link_of station) (links.last_of station) note in
    ap (exchange_of number) (journal_event history (Noted station note)) ∙ exchange_more number (journal_of history) entry

note_same : (number : ℕ) (front : List Entry) (ends : Side → Exchanged) (side : Side) (link_of : ℕ → ℕ) (last : ℕ) (note : Note) → is_taking note ≡ false
    → exchange_after number front ends (entry_of side link_of last note) ≡ ends
note_same number front ends side link_of last (Took handle count llid body) quiet = absurd cc
note_same number front ends side link_of last (Up packet) quiet = refl
note_same number front ends side link_of last other quiet = refl

pub note_quiet : (number : ℕ) (history : List Event) (station : ℕ) (note : Note) → is_taking note ≡ false
    → exchange_at number (history ++ Noted station note ∷ []) ≡ exchange_at number history
note_quiet number history station note quiet =
    let links = links_of history in
    note_exchange number history station note
    ∙ note_same number (journal_of history) (exchange_at number history) (side_of station) (links.link_of station) (links.last_of station) note quiet

-- a PDU that is taken changes what its taker accepted, and nothing else
taken_other : (ours : Bool) (taker side : Side) (ends : Side → Exchanged) → is_side side taker ≡ false
    → (if ours then after_taking taker ends else ends) side ≡ ends side
taken_other true taker side ends differs = ap (λ b. if b then with_taken (ends (other_side taker)) (ends taker) else ends side) differs
taken_other false taker side ends differs = refl

-- all but what is accepted
pub record HaveSame (one other : Exchanged) : Type 0 where
  pub sent : one.sent ≡ other.sent
  pub acked : one.acked ≡ other.acked

all_same : (end : Exchanged) → HaveSame end end
all_same end = record { sent = refl; acked = refl }

taken_same : (ours : Bool) (taker side : Side) (ends : Side → Exchanged) → HaveSame ((if ours then after_taking taker ends else ends) side) (ends side)
taken_same false taker side ends = all_same (ends side)
taken_same true A A ends = record { sent = refl; acked = refl }
taken_same true A B ends = all_same (ends B)
taken_same true B A ends = all_same (ends A)
taken_same true B B ends = record { sent = refl; acked = refl }

note_other : (number : ℕ) (front : List Entry) (ends : Side → Exchanged) (taker side : Side) (link_of : ℕ → ℕ) (last : ℕ) (note : Note) → is_side side taker ≡ false
    → exchange_after number front ends (entry_of taker link_of last note) side ≡ ends side
note_other number front ends taker side link_of last (Took handle count llid body) differs = taken_other (link_of handle == number) taker side ends differs
note_other number front ends taker side link_of last (Up packet) differs = refl
note_other number front ends taker side link_of last other differs = refl

note_counts : (number : ℕ) (front : List Entry) (ends : Side → Exchanged) (taker side : Side) (link_of : ℕ → ℕ) (last : ℕ) (note : Note)
    → HaveSame (exchange_after number front ends (entry_of taker link_of last note) side) (ends side)
note_counts number front ends taker side link_of last (Took handle count llid body) = taken_same (link_of handle == number) taker side ends
note_counts number front ends taker side link_of last (Up packet) = all_same (ends side)
note_counts number front ends taker side link_of last other = all_same (ends side)

-- ---- a call, with its notes

pub map_both : (station : ℕ) (xs ys : List Note) → map (Noted station) (xs ++ ys) ≡ map (Noted station) xs ++ map (Noted station) ys
map_both station [] ys = refl
map_both station (note ∷ xs) ys = ap (λ zs. Noted station note ∷ zs) (map_both station xs ys)

-- what an event keeps whose notes have a fact, a call with its notes keeps
module _ (X : Type 0) (read : List Event → X) (P : Note → Type 0) (station : ℕ)
    (one : (history : List Event) (note : Note) → P note → read (history ++ Noted station note ∷ []) ≡ read history) where
  pub notes_keep : (notes : List Note) (history : List Event) → All P notes → read (history ++ map (Noted station) notes) ≡ read history
  notes_keep [] history all = ap read (append-nil history)
  notes_keep (note ∷ notes) history all =
      ap read (sym (append_assoc history (Noted station note ∷ []) (map (Noted station) notes)))
      ∙ notes_keep notes (history ++ Noted station note ∷ []) (All-tail P note notes all)
      ∙ one history note (All-head P note notes all)

  pub call_keeps : (given : Given) (step : Step) (history : List Event) → read (history ++ Called station step ∷ []) ≡ read history
      → All P (notes_after (setup_at given station) (facts_at given station history) step)
      → read (after_call given station step history) ≡ read history
  call_keeps given step history called all =
      let notes = notes_after (setup_at given station) (facts_at given station history) step in
      ap read (sym (append_assoc history (Called station step ∷ []) (map (Noted station) notes)))
      ∙ notes_keep notes (history ++ Called station step ∷ []) all ∙ called

pub any_note : (notes : List Note) → All (λ note. true ≡ true) notes
any_note [] = All-nil (λ note. true ≡ true)
any_note (note ∷ notes) = All-cons (λ one. true ≡ true) note notes refl (any_note notes)

-- a call in which no PDU is taken leaves the counts of a journal
pub exchange_called : (given : Given) (number station : ℕ) (step : Step) (history : List Event)
    → All TakesNone (notes_after (setup_at given station) (facts_at given station history) step)
    → exchange_at number (after_call given station step history) ≡ exchange_at number history
exchange_called given number station step history none =
    call_keeps (Side → Exchanged) (exchange_at number) TakesNone station (λ before note quiet. note_quiet number before station note quiet)
    given step history (call_quiet number history station step) none

-- any call leaves those of the other side, and how many PDUs were sent and acknowledged
pub exchange_other : (given : Given) (number station : ℕ) (step : Step) (history : List Event) (side : Side) → is_side side (side_of station) ≡ false
    → exchange_at number (after_call given station step history) side ≡ exchange_at number history side
exchange_other given number station step history side differs =
    call_keeps Exchanged (λ before. exchange_at number before side) (λ note. true ≡ true) station
    (λ before note any.
    let links = links_of before in
    ap (λ (ends : Side → Exchanged). ends side) (note_exchange number before station note)
    ∙ note_other number (journal_of before) (exchange_at number before) (side_of station) side (links.link_of station) (links.last_of station) note differs)
    given step history (ap (λ (ends : Side → Exchanged). ends side) (call_quiet number history station step)) (any_note _)

note_keeps : (number : ℕ) (side : Side) (before : List Event) (station : ℕ) (note : Note)
    → HaveSame (exchange_after number (journal_of before) (exchange_at number before) (entry_of (side_of station) ((links_of before).link_of station) ((links_of before).last_of station) note) side)
    (exchange_at number before side)
note_keeps number side before station note =
    note_counts number (journal_of before) (exchange_at number before) (side_of station) side ((links_of before).link_of station) ((links_of before).last_of station) note

-- after some of its notes
pub notes_counts : (number station : ℕ) (step : Step) (history : List Event) (side : Side) (notes : List Note)
    → HaveSame (exchange_at number ((history ++ Called station step ∷ []) ++ map (Noted station) notes) side) (exchange_at number history side)
notes_counts number station step history side notes = record {
  sent = notes_keep ℕ (λ before. (exchange_at number before side).sent) (λ note. true ≡ true) station
      (λ before note any. ap (λ (ends : Side → Exchanged). (ends side).sent) (note_exchange number before station note) ∙ (note_keeps number side before station note).sent)
      notes (history ++ Called station step ∷ []) (any_note notes) ∙ ap (λ (ends : Side → Exchanged). (ends side).sent) (call_quiet number history station step);
  acked = notes_keep ℕ (λ before. (exchange_at number before side).acked) (λ note. true ≡ true) station
      (λ before note any. ap (λ (ends : Side → Exchanged). (ends side).acked) (note_exchange number before station note) ∙ (note_keeps number side before station note).acked)
      notes (history ++ Called station step ∷ []) (any_note notes) ∙ ap (λ (ends : Side → Exchanged). (ends side).acked) (call_quiet number history station step);
}

pub exchange_same : (given : Given) (number station : ℕ) (step : Step) (history : List Event) (side : Side)
    → HaveSame (exchange_at number (after_call given station step history) side) (exchange_at number history side)
exchange_same given number station step history side =
    let notes = notes_after (setup_at given station) (facts_at given station history) step in
    subst (λ xs. HaveSame (exchange_at number xs side) (exchange_at number history side)) (append_assoc history (Called station step ∷ []) (map (Noted station) notes))
    (notes_counts number station step history side notes)

-- ---- the numbers of links under their handles

-- the number under a handle of a station
abbrev pub number_at : ℕ → ℕ → List Event → ℕ
number_at station handle history = (links_of history).link_of station handle

none_if : (same opens : Bool) (number last : ℕ) → opens ≡ false → (if same && opens then last else number) ≡ number
none_if true opens number last is = rw is refl
none_if false opens number last is = refl

pub opens_none : (station other handle : ℕ) (note : Note) (links : Links) → OpensNone handle note
    → (links_noted station note links).link_of other handle ≡ links.link_of other handle
opens_none station other handle (Opened new role own peer) links quiet =
    none_if (other == station) (handle == new) (links.link_of other handle) (links.last_of station) quiet
opens_none station other handle (Up packet) links quiet = refl
opens_none station other handle note links quiet = refl

differs_if : (same : Bool) (number other last handle : ℕ) → same ≡ false → (if same && (other == handle) then last else number) ≡ number
differs_if same number other last handle is = rw is refl

of_others : (station other handle : ℕ) (note : Note) (links : Links) → (other == station) ≡ false
    → (links_noted station note links).link_of other handle ≡ links.link_of other handle
of_others station other handle (Opened new role own peer) links differs =
    differs_if (other == station) (links.link_of other handle) handle (links.last_of station) new differs
of_others station other handle (Up packet) links differs = refl
of_others station other handle note links differs = refl

pub event_number : (station handle : ℕ) (history : List Event) (event : Event)
    → (links_after (links_of history) event).link_of station handle ≡ number_at station handle history
    → number_at station handle (history ++ event ∷ []) ≡ number_at station handle history
event_number station handle history event same = ap (λ (links : Links). links.link_of station handle) (links_event history event) ∙ same

-- an event that is no note
pub number_quiet : (station handle : ℕ) (history : List Event) (event : Event) → ((links : Links) → (links_after links event).link_of station handle ≡ links.link_of station handle)
    → number_at station handle (history ++ event ∷ []) ≡ number_at station handle history
number_quiet station handle history event same = event_number station handle history event (same (links_of history))

with_link_same : (begins : Bool) (one other : Links) (station handle : ℕ) → one.link_of station handle ≡ other.link_of station handle
    → (if begins then one else other).link_of station handle ≡ other.link_of station handle
with_link_same true one other station handle same = same
with_link_same false one other station handle same = refl

pub number_sent : (station handle : ℕ) (history : List Event) (sender channel : ℕ) (octets : List ℕ) (hearings : List Hearing)
    → number_at station handle (history ++ Transmitted sender channel octets hearings ∷ []) ≡ number_at station handle history
number_sent station handle history sender channel octets hearings =
    number_quiet station handle history (Transmitted sender channel octets hearings)
    (λ links. with_link_same (begins_link channel octets) (with_link sender hearings links) links station handle refl)

-- after notes that open no link under the handle
pub number_notes : (station handle : ℕ) (step : Step) (history : List Event) (notes : List Note) → All (OpensNone handle) notes
    → number_at station handle ((history ++ Called station step ∷ []) ++ map (Noted station) notes) ≡ number_at station handle history
number_notes station handle step history notes none =
    notes_keep ℕ (number_at station handle) (OpensNone handle) station
    (λ before note quiet. event_number station handle before (Noted station note) (opens_none station station handle note (links_of before) quiet))
    notes (history ++ Called station step ∷ []) none
    ∙ number_quiet station handle history (Called station step) (λ links. refl)

-- a call that opens no link under the handle
pub number_called : (given : Given) (station : ℕ) (step : Step) (history : List Event) (handle : ℕ)
    → All (OpensNone handle) (notes_after (setup_at given station) (facts_at given station history) step)
    → number_at station handle (after_call given station step history) ≡ number_at station handle history
number_called given station step history handle none =
    call_keeps ℕ (number_at station handle) (OpensNone handle) station
    (λ before note quiet. event_number station handle before (Noted station note) (opens_none station station handle note (links_of before) quiet))
    given step history (number_quiet station handle history (Called station step) (λ links. refl)) none

-- a call on another station
pub number_other : (given : Given) (station : ℕ) (step : Step) (history : List Event) (other handle : ℕ) → (other == station) ≡ false
    → number_at other handle (after_call given station step history) ≡ number_at other handle history
number_other given station step history other handle differs =
    call_keeps ℕ (number_at other handle) (λ note. true ≡ true) station
    (λ before note any. event_number other handle before (Noted station note) (of_others station other handle note (links_of before) differs))
    given step history (number_quiet other handle history (Called station step) (λ links. refl)) (any_note _)

-- ---- a call in which one PDU is taken

pub exchange_took : (given : Given) (number station : ℕ) (step : Step) (history : List Event) (handle count llid : ℕ) (body : List ℕ) (earlier rest : List Note)
    → notes_after (setup_at given station) (facts_at given station history) step ≡ earlier ++ Took handle count llid (record { items = body }) ∷ rest
    → All TakesNone earlier → All (OpensNone handle) earlier → All TakesNone rest
    → exchange_at number (after_call given station step history)
    ≡ (if number_at station handle history == number then after_taking (side_of station) (exchange_at number history) else exchange_at number history)
exchange_took given number station step history handle count llid body earlier rest are first opens none =
    let took = Took handle count llid (record { items = body }) in
    let called = history ++ Called station step ∷ [] in
    let base = called ++ map (Noted station) earlier in
    let quiet : (notes : List Note) (before : List Event) → All TakesNone notes → exchange_at number (before ++ map (Noted station) notes) ≡ exchange_at number before =
    (λ notes before all. notes_keep (Side → Exchanged) (exchange_at number) TakesNone station (λ one note takes. note_quiet number one station note takes) notes before all) in
    ap (λ notes. exchange_at number (history ++ Called station step ∷ map (Noted station) notes)) are
    ∙ ap (exchange_at number)
    (sym (append_assoc history (Called station step ∷ []) (map (Noted station) (earlier ++ took ∷ rest)))
    ∙ ap (λ events. called ++ events) (map_both station earlier (took ∷ rest))
    ∙ sym (append_assoc called (map (Noted station) earlier) (map (Noted station) (took ∷ rest)))
    ∙ sym (append_assoc base (Noted station took ∷ []) (map (Noted station) rest)))
    ∙ quiet rest (base ++ Noted station took ∷ []) none
    ∙ note_exchange number base station took
    ∙ (λ i. if number_notes station handle step history earlier opens i == number
    then after_taking (side_of station) ((quiet earlier called first ∙ call_quiet number history station step) i)
    else (quiet earlier called first ∙ call_quiet number history station step) i)
