-- What an entry, an event or a call adds to the lines of new PDUs.
use Rattle.std.proofs.Common.{◌≡◌, ℕ, ◌==◌, ◌&&◌, Bool, true, false, Option, Some, None, List, [], ◌∷◌, ◌++◌, refl, sym, ap, ◌∙◌, append-nil, append_assoc}
use Rattle.std.specs.Prelude.{All, map, if◌then◌else◌}
use Rattle.ble_base.specs.declared.roles.Side.{Side}
use Rattle.ble_base.specs.declared.notes.Note.{Note}
use Rattle.ble_base.specs.declared.notes.Note.TheVariants.{Up, Sent}
use Rattle.journal.specs.declared.entries.Entry.{Entry}
use Rattle.journal_packets.specs.controller_model.Step.{Step}
use Rattle.journal_packets.specs.controller_model.Side.{notes_after}
use Rattle.link_calls.specs.run_model.History.{Event, TurnBegan, HostFed, Called, Noted, Transmitted, Hearing}
use Rattle.link_calls.specs.run_model.Journal.{air_entries, entry_of, journal_of, side_of}
use Rattle.link_calls.specs.run_model.Links.{links_of}
use Rattle.link_calls.specs.run_model.Run.{Given, after_call, facts_at, setup_at}
use Rattle.link_calls.proofs.run_model.Parts.{journal_event}
use Rattle.journal_packets.specs.Belonging.{is_side}
use Rattle.journal_acks.specs.Carried.{SentLine, sent_line_after, sent_line_from, sent_line_of}
use Rattle.journal_acks.specs.Exchange.{exchange_of}
use Rattle.link_calls.proofs.CallNotes.{SendsNone}
use Rattle.link_calls.proofs.CallNotes.{OpensNone}
use Rattle.journal_acks.proofs.Exchanging.{any_note, call_keeps, exchange_at, map_both, notes_counts, notes_keep, number_at, number_notes}
use Rattle.journal_acks.proofs.TwoStations.{side_same}

-- the last line of a new PDU of a side on a link, as the journal of a history has it
abbrev pub sent_line_at : ℕ → List Event → Side → Option SentLine
sent_line_at number history side = sent_line_of number (journal_of history) side

-- ---- an entry more

from_more : (number : ℕ) (front : List Entry) (side : Side) (before : Option SentLine) (entries : List Entry) (entry : Entry)
    → sent_line_from number front side before (entries ++ entry ∷ []) ≡ sent_line_after number (front ++ entries) side (sent_line_from number front side before entries) entry
from_more number front side before [] entry = ap (λ xs. sent_line_after number xs side before entry) (sym (append-nil front))
from_more number front side before (first ∷ entries) entry =
    let next = sent_line_after number front side before first in
    from_more number (front ++ first ∷ []) side next entries entry
    ∙ ap (λ xs. sent_line_after number xs side (sent_line_from number (front ++ first ∷ []) side next entries) entry) (append_assoc front (first ∷ []) entries)

line_more : (number : ℕ) (journal : List Entry) (side : Side) (entry : Entry)
    → sent_line_of number (journal ++ entry ∷ []) side ≡ sent_line_after number journal side (sent_line_of number journal side) entry
unfolding sent_line_of
line_more number journal side entry = from_more number [] side None journal entry

-- ---- an event more

pub turn_line : (number : ℕ) (history : List Event) (slot : ℕ) (radios : List Bool) (side : Side)
    → sent_line_at number (history ++ TurnBegan slot radios ∷ []) side ≡ sent_line_at number history side
turn_line number history slot radios side =
    ap (λ xs. sent_line_of number xs side) (journal_event history (TurnBegan slot radios)) ∙ line_more number (journal_of history) side _

pub feed_line : (number : ℕ) (history : List Event) (station : ℕ) (octets : List ℕ) (side : Side)
    → sent_line_at number (history ++ HostFed station octets ∷ []) side ≡ sent_line_at number history side
feed_line number history station octets side =
    ap (λ xs. sent_line_of number xs side) (journal_event history (HostFed station octets)) ∙ line_more number (journal_of history) side _

air_entries_line : (number : ℕ) (journal : List Entry) (side sender : Side) (channel : ℕ) (octets : List ℕ) (hearings : List Hearing)
    → sent_line_of number (journal ++ air_entries sender channel octets hearings) side ≡ sent_line_of number journal side
air_entries_line number journal side sender channel octets [] = ap (λ xs. sent_line_of number xs side) (append-nil journal)
air_entries_line number journal side sender channel octets (hearing ∷ hearings) = line_more number journal side _

pub air_line : (number : ℕ) (history : List Event) (sender channel : ℕ) (octets : List ℕ) (hearings : List Hearing) (side : Side)
    → sent_line_at number (history ++ Transmitted sender channel octets hearings ∷ []) side ≡ sent_line_at number history side
air_line number history sender channel octets hearings side =
    ap (λ xs. sent_line_of number xs side) (journal_event history (Transmitted sender channel octets hearings))
    ∙ air_entries_line number (journal_of history) side (side_of sender) channel octets hearings

pub call_line : (number : ℕ) (history : List Event) (station : ℕ) (step : Step) (side : Side)
    → sent_line_at number (history ++ Called station step ∷ []) side ≡ sent_line_at number history side
call_line number history station step side =
    ap (λ xs. sent_line_of number xs side) (journal_event history (Called station step) ∙ append-nil (journal_of history))

pub note_line : (number : ℕ) (history : List Event) (station : ℕ) (note : Note) (side : Side)
    → let links = links_of history in
    sent_line_at number (history ++ Noted station note ∷ []) side
    ≡ sent_line_after number (journal_of history) side (sent_line_at number history side)
    (entry_of (side_of station) (links.link_of station) (links.last_of station) note)
note_line number history station note side =
    let links = links_of history in
    let entry = entry_of (side_of station) (links.link_of station) (links.last_of station) note in
    ap (λ xs. sent_line_of number xs side) (journal_event history (Noted station note)) ∙ line_more number (journal_of history) side entry

note_same : (number : ℕ) (front : List Entry) (side other : Side) (before : Option SentLine) (link_of : ℕ → ℕ) (last : ℕ) (note : Note) → SendsNone note
    → sent_line_after number front side before (entry_of other link_of last note) ≡ before
note_same number front side other before link_of last (Sent handle count llid body) none = absurd cc
note_same number front side other before link_of last (Up packet) none = refl
note_same number front side other before link_of last note none = refl

note_other : (number : ℕ) (front : List Entry) (side other : Side) (before : Option SentLine) (link_of : ℕ → ℕ) (last : ℕ) (note : Note) → is_side other side ≡ false
    → sent_line_after number front side before (entry_of other link_of last note) ≡ before
note_other number front side other before link_of last (Sent handle count llid body) differs =
    ap (λ b. if b && link_of handle == number
    then Some (record { pdu = record { llid = llid; body = body.items }; acked = (exchange_of number front side).acked })
    else before) differs
note_other number front side other before link_of last (Up packet) differs = refl
note_other number front side other before link_of last note differs = refl

pub quiet_note : (number station : ℕ) (side : Side) (history : List Event) (note : Note) → SendsNone note
    → sent_line_at number (history ++ Noted station note ∷ []) side ≡ sent_line_at number history side
quiet_note number station side history note none =
    note_line number history station note side
    ∙ note_same number (journal_of history) side (side_of station) (sent_line_at number history side) ((links_of history).link_of station) ((links_of history).last_of station) note none

-- ---- a call

-- in which no new PDU is sent
pub line_called : (given : Given) (number station : ℕ) (step : Step) (history : List Event) (side : Side)
    → All SendsNone (notes_after (setup_at given station) (facts_at given station history) step)
    → sent_line_at number (after_call given station step history) side ≡ sent_line_at number history side
line_called given number station step history side none =
    call_keeps (Option SentLine) (λ before. sent_line_at number before side) SendsNone station (λ before note quiet. quiet_note number station side before note quiet)
    given step history (call_line number history station step side) none

-- after some of its notes
pub line_in_call : (number station : ℕ) (step : Step) (history : List Event) (side : Side) (notes : List Note) → All SendsNone notes
    → sent_line_at number (history ++ Called station step ∷ map (Noted station) notes) side ≡ sent_line_at number history side
line_in_call number station step history side notes none =
    ap (λ before. sent_line_at number before side) (sym (append_assoc history (Called station step ∷ []) (map (Noted station) notes)))
    ∙ notes_keep (Option SentLine) (λ before. sent_line_at number before side) SendsNone station (λ before note quiet. quiet_note number station side before note quiet) notes
    (history ++ Called station step ∷ []) none
    ∙ call_line number history station step side

-- on the other side
pub line_other : (given : Given) (number station : ℕ) (step : Step) (history : List Event) (side : Side) → is_side (side_of station) side ≡ false
    → sent_line_at number (after_call given station step history) side ≡ sent_line_at number history side
line_other given number station step history side differs =
    call_keeps (Option SentLine) (λ before. sent_line_at number before side) (λ note. true ≡ true) station
    (λ before note any. note_line number before station note side
    ∙ note_other number (journal_of before) side (side_of station) (sent_line_at number before side) ((links_of before).link_of station) ((links_of before).last_of station) note differs)
    given step history (call_line number history station step side) (any_note _)

-- in which the last note is that of a new PDU, under a handle that no link is opened under
pub line_sent : (given : Given) (number station : ℕ) (step : Step) (history : List Event) (handle count llid : ℕ) (body : List ℕ) (earlier : List Note)
    → notes_after (setup_at given station) (facts_at given station history) step ≡ earlier ++ Sent handle count llid (record { items = body }) ∷ []
    → All SendsNone earlier → All (OpensNone handle) earlier
    → sent_line_at number (after_call given station step history) (side_of station)
    ≡ (if number_at station handle history == number
    then Some (record { pdu = record { llid = llid; body = body }; acked = (exchange_at number history (side_of station)).acked })
    else sent_line_at number history (side_of station))
line_sent given number station step history handle count llid body earlier are none opens =
    let side = side_of station in
    let sent = Sent handle count llid (record { items = body }) in
    let called = history ++ Called station step ∷ [] in
    let before = called ++ map (Noted station) earlier in
    ap (λ notes. sent_line_at number (history ++ Called station step ∷ map (Noted station) notes) side) are
    ∙ ap (λ xs. sent_line_at number xs side)
    (ap (λ xs. history ++ Called station step ∷ xs) (map_both station earlier (sent ∷ []))
    ∙ sym (append_assoc history (Called station step ∷ []) (map (Noted station) earlier ++ Noted station sent ∷ []))
    ∙ sym (append_assoc called (map (Noted station) earlier) (Noted station sent ∷ [])))
    ∙ note_line number before station sent side
    ∙ ap (λ b. if b && number_at station handle before == number
    then Some (record { pdu = record { llid = llid; body = body }; acked = (exchange_at number before side).acked })
    else sent_line_at number before side) (side_same station)
    ∙ (λ i. if number_notes station handle step history earlier opens i == number
    then Some (record { pdu = record { llid = llid; body = body }; acked = (notes_counts number station step history side earlier).acked i })
    else earlier_line side i)
  where
    earlier_line : (side : Side) → sent_line_at number ((history ++ Called station step ∷ []) ++ map (Noted station) earlier) side ≡ sent_line_at number history side
    earlier_line side =
        notes_keep (Option SentLine) (λ before. sent_line_at number before side) SendsNone station (λ before note quiet. quiet_note number station side before note quiet) earlier
        (history ++ Called station step ∷ []) none
        ∙ call_line number history station step side
