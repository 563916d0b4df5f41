-- What an event or a call adds to what a journal says was heard last on a link.
use Rattle.std.proofs.Common.{◌≡◌, ℕ, zero, suc, ◌+◌, ◌-◌, ◌<◌, Bool, true, false, Option, Some, None, List, [], ◌∷◌, ◌++◌, refl, sym, ap, ◌∙◌, append-nil, append_assoc}
use Rattle.std.specs.Prelude.{map}
use Rattle.ble_base.specs.Side.{other_side}
use Rattle.ble_base.specs.declared.roles.Side.{Side}
use Rattle.ble_base.specs.declared.notes.Note.{Note}
use Rattle.ble_base.specs.declared.notes.Note.TheVariants.{Up}
use Rattle.journal.specs.declared.entries.Entry.{Entry}
use Rattle.journal_packets.specs.controller_model.Step.{Step}
use Rattle.link_calls.specs.run_model.History.{Event, TurnBegan, Called, Noted, turns_begun}
use Rattle.link_calls.specs.run_model.Journal.{entry_of, journal_of, side_of}
use Rattle.link_calls.specs.run_model.Links.{links_of}
use Rattle.link_calls.proofs.run_model.Parts.{journal_event}
use Rattle.journal_packets.specs.journal_links.Begun.{LinkBegun, link_numbered}
use Rattle.journal_packets.specs.Belonging.{is_side}
use Rattle.journal_acks.specs.Shut.{heard_after, heard_from, last_heard}
use Rattle.journal_acks.proofs.Exchanging.{any_note, notes_keep}
use Rattle.journal_acks.proofs.TwoStations.{other_of}

abbrev pub heard_at : ℕ → Side → List Event → Option ℕ
heard_at number side history = last_heard number side (journal_of history)

-- ---- an entry more

from_more : (number : ℕ) (side : Side) (front : List Entry) (before : Option ℕ) (entries : List Entry) (entry : Entry)
    → heard_from number side front before (entries ++ entry ∷ []) ≡ heard_after number side (front ++ entries) (heard_from number side front before entries) entry
from_more number side front before [] entry = ap (λ xs. heard_after number side xs before entry) (sym (append-nil front))
from_more number side front before (first ∷ entries) entry =
    let next = heard_after number side front before first in
    from_more number side (front ++ first ∷ []) next entries entry
    ∙ ap (λ xs. heard_after number side xs (heard_from number side (front ++ first ∷ []) next entries) entry) (append_assoc front (first ∷ []) entries)

heard_more : (number : ℕ) (side : Side) (journal : List Entry) (entry : Entry)
    → last_heard number side (journal ++ entry ∷ []) ≡ heard_after number side journal (last_heard number side journal) entry
unfolding last_heard
heard_more number side journal entry = from_more number side [] None journal entry

-- ---- an event more

pub turn_heard : (number : ℕ) (side : Side) (history : List Event) (slot : ℕ) (radios : List Bool)
    → heard_at number side (history ++ TurnBegan slot radios ∷ []) ≡ heard_at number side history
turn_heard number side history slot radios =
    ap (last_heard number side) (journal_event history (TurnBegan slot radios)) ∙ heard_more number side (journal_of history) _

call_heard : (number : ℕ) (side : Side) (history : List Event) (station : ℕ) (step : Step)
    → heard_at number side (history ++ Called station step ∷ []) ≡ heard_at number side history
call_heard number side history station step =
    ap (last_heard number side) (journal_event history (Called station step) ∙ append-nil (journal_of history))

note_same : (number : ℕ) (side : Side) (front : List Entry) (before : Option ℕ) (other : Side) (link_of : ℕ → ℕ) (last : ℕ) (note : Note)
    → heard_after number side front before (entry_of other link_of last note) ≡ before
note_same number side front before other link_of last (Up packet) = refl
note_same number side front before other link_of last note = refl

note_heard : (number : ℕ) (side : Side) (history : List Event) (station : ℕ) (note : Note)
    → heard_at number side (history ++ Noted station note ∷ []) ≡ heard_at number side history
note_heard number side history station note =
    let links = links_of history in
    ap (last_heard number side) (journal_event history (Noted station note)) ∙ heard_more number side (journal_of history) _
    ∙ note_same number side (journal_of history) (heard_at number side history) (side_of station) (links.link_of station) (links.last_of station) note

-- nor in the middle of one
pub heard_in_call : (number : ℕ) (side : Side) (station : ℕ) (step : Step) (history : List Event) (notes : List Note)
    → heard_at number side (history ++ Called station step ∷ map (Noted station) notes) ≡ heard_at number side history
heard_in_call number side station step history notes =
    ap (heard_at number side) (sym (append_assoc history (Called station step ∷ []) (map (Noted station) notes)))
    ∙ notes_keep (Option ℕ) (heard_at number side) (λ note. true ≡ true) station (λ before note any. note_heard number side before station note) notes
    (history ++ Called station step ∷ []) (any_note notes)
    ∙ call_heard number side history station step

-- ---- a packet on the air

-- a side does not hear itself, and hears the other one
pub own_side : (station : ℕ) → is_side (side_of station) (other_side (side_of station)) ≡ false
own_side zero = refl
own_side (suc station) = refl

pub far_side : (station : ℕ) → is_side (side_of station) (other_side (side_of (other_of station))) ≡ true
far_side zero = refl
far_side (suc station) = refl

-- ---- until a turn after that of its CONNECT_IND nothing is heard on a link

pub data IsUnheard (number : ℕ) (history : List Event) : Type 0 where
  -- the link began before this turn
  IsOld : (link : LinkBegun) → link_numbered number (journal_of history) ≡ Some link → link.slot + 1 < turns_begun history → IsUnheard number history
  NoneHeard : ((side : Side) → heard_at number side history ≡ None) → IsUnheard number history
