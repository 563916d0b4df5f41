-- What an event or a call adds to what the last line of a side tells of a new PDU.
use Rattle.std.proofs.Common.{◌≡◌, ℕ, Bool, true, false, Option, Some, None, List, [], ◌∷◌, ◌++◌, refl, sym, ap, ◌∙◌, append-nil, append_assoc}
use Rattle.std.specs.Prelude.{All, fold, map, if◌then◌else◌}
use Rattle.std.proofs.lemmas.List.Elements.{All-head, All-tail}
use Rattle.std.proofs.lemmas.List.Sums.{fold-append}
use Rattle.ble_base.specs.declared.roles.Side.{Side}
use Rattle.ble_base.specs.declared.notes.Note.{Note}
use Rattle.ble_base.specs.declared.notes.Note.TheVariants.{Up, Sent}
use Rattle.journal_leaving.specs.controller_model.Step.{Step}
use Rattle.journal_leaving.specs.controller_model.Side.{notes_after}
use Rattle.journal_leaving.specs.run_model.History.{Event, TurnBegan, HostFed, Called, Noted, Transmitted, Hearing}
use Rattle.journal_leaving.specs.run_model.Journal.{air_entries, entries_of, entry_of, journal_of, side_of}
use Rattle.journal_leaving.specs.run_model.Links.{links_of}
use Rattle.journal_leaving.specs.run_model.Run.{Given, after_call, facts_at, setup_at}
use Rattle.journal_leaving.proofs.run_model.Parts.{journal_event}
use Rattle.journal_leaving.specs.journal_packets.Belonging.{is_side}
use Rattle.journal_leaving.proofs.journal_acks.link_calls.CallNotes.{SendsNone}
use Rattle.journal_leaving.proofs.journal_acks.link_calls.CallNotes.{OpensNone}
use Rattle.journal_leaving.proofs.journal_acks.Exchanging.{any_note, call_keeps, map_both, number_at, number_notes}
use Rattle.journal_leaving.proofs.journal_acks.TwoStations.{side_same}
use Rattle.journal_leaving.specs.journal_data.Lines.{PduLine}
use Rattle.journal_sending.specs.Announced.{announced_pdu, announced_pdu_after, announcement_in}

-- what the last line of a station tells, as the journal of a history has it
abbrev pub told_at : ℕ → List Event → Option PduLine
told_at station history = announced_pdu (side_of station) (journal_of history)

event_told : (station : ℕ) (history : List Event) (event : Event)
    → told_at station (history ++ event ∷ []) ≡ fold (announced_pdu_after (side_of station)) (told_at station history) (entries_of (links_of history) event)
unfolding announced_pdu
event_told station history event =
    ap (announced_pdu (side_of station)) (journal_event history event)
    ∙ fold-append (announced_pdu_after (side_of station)) None (journal_of history) (entries_of (links_of history) event)

-- ---- events with no line of a side

pub turn_told : (station : ℕ) (history : List Event) (slot : ℕ) (radios : List Bool) → told_at station (history ++ TurnBegan slot radios ∷ []) ≡ told_at station history
turn_told station history slot radios = event_told station history (TurnBegan slot radios)

pub call_told : (station : ℕ) (history : List Event) (other : ℕ) (step : Step) → told_at station (history ++ Called other step ∷ []) ≡ told_at station history
call_told station history other step = event_told station history (Called other step)

-- ---- events of the station

if_own : (own : Bool) (one other : Option PduLine) → own ≡ true → (if own then one else other) ≡ one
if_own true one other is = refl
if_own false one other is = absurd cc

pub fed_told : (station : ℕ) (history : List Event) (octets : List ℕ) → told_at station (history ++ HostFed station octets ∷ []) ≡ None
fed_told station history octets =
    event_told station history (HostFed station octets) ∙ if_own (is_side (side_of station) (side_of station)) None (told_at station history) (side_same station)

pub air_told : (station : ℕ) (history : List Event) (channel : ℕ) (octets : List ℕ) (hearing : Hearing) (hearings : List Hearing)
    → told_at station (history ++ Transmitted station channel octets (hearing ∷ hearings) ∷ []) ≡ None
air_told station history channel octets hearing hearings =
    event_told station history (Transmitted station channel octets (hearing ∷ hearings))
    ∙ if_own (is_side (side_of station) (side_of station)) None (told_at station history) (side_same station)

noted_own : (side : Side) (before : Option PduLine) (link_of : ℕ → ℕ) (last : ℕ) (note : Note) → is_side side side ≡ true
    → announced_pdu_after side before (entry_of side link_of last note) ≡ announcement_in (entry_of side link_of last note)
noted_own side before link_of last (Up packet) own = if_own (is_side side side) _ before own
noted_own side before link_of last note own = if_own (is_side side side) _ before own

note_told : (station : ℕ) (history : List Event) (note : Note)
    → told_at station (history ++ Noted station note ∷ [])
    ≡ announcement_in (entry_of (side_of station) ((links_of history).link_of station) ((links_of history).last_of station) note)
note_told station history note =
    event_told station history (Noted station note)
    ∙ noted_own (side_of station) (told_at station history) ((links_of history).link_of station) ((links_of history).last_of station) note (side_same station)

tells_none : (side : Side) (link_of : ℕ → ℕ) (last : ℕ) (note : Note) → SendsNone note → announcement_in (entry_of side link_of last note) ≡ None
tells_none side link_of last (Sent handle count llid body) none = absurd cc
tells_none side link_of last (Up packet) none = refl
tells_none side link_of last note none = refl

quiet_told : (station : ℕ) (history : List Event) (note : Note) → SendsNone note → told_at station (history ++ Noted station note ∷ []) ≡ None
quiet_told station history note none =
    note_told station history note ∙ tells_none (side_of station) ((links_of history).link_of station) ((links_of history).last_of station) note none

-- ---- events of the other station

if_other : (own : Bool) (one other : Option PduLine) → own ≡ false → (if own then one else other) ≡ other
if_other true one other is = absurd cc
if_other false one other is = refl

pub fed_other_told : (station other : ℕ) (history : List Event) (octets : List ℕ) → is_side (side_of other) (side_of station) ≡ false
    → told_at station (history ++ HostFed other octets ∷ []) ≡ told_at station history
fed_other_told station other history octets differs =
    event_told station history (HostFed other octets) ∙ if_other (is_side (side_of other) (side_of station)) None (told_at station history) differs

air_other : (side : Side) (before : Option PduLine) (sender : Side) (channel : ℕ) (octets : List ℕ) (hearings : List Hearing) → is_side sender side ≡ false
    → fold (announced_pdu_after side) before (air_entries sender channel octets hearings) ≡ before
air_other side before sender channel octets [] differs = refl
air_other side before sender channel octets (hearing ∷ hearings) differs = if_other (is_side sender side) None before differs

pub air_other_told : (station other : ℕ) (history : List Event) (channel : ℕ) (octets : List ℕ) (hearings : List Hearing) → is_side (side_of other) (side_of station) ≡ false
    → told_at station (history ++ Transmitted other channel octets hearings ∷ []) ≡ told_at station history
air_other_told station other history channel octets hearings differs =
    event_told station history (Transmitted other channel octets hearings)
    ∙ air_other (side_of station) (told_at station history) (side_of other) channel octets hearings differs

noted_other : (side other : Side) (before : Option PduLine) (link_of : ℕ → ℕ) (last : ℕ) (note : Note) → is_side other side ≡ false
    → announced_pdu_after side before (entry_of other link_of last note) ≡ before
noted_other side other before link_of last (Up packet) differs = if_other (is_side other side) _ before differs
noted_other side other before link_of last note differs = if_other (is_side other side) _ before differs

note_other_told : (station other : ℕ) (history : List Event) (note : Note) → is_side (side_of other) (side_of station) ≡ false
    → told_at station (history ++ Noted other note ∷ []) ≡ told_at station history
note_other_told station other history note differs =
    event_told station history (Noted other note)
    ∙ noted_other (side_of station) (side_of other) (told_at station history) ((links_of history).link_of other) ((links_of history).last_of other) note differs

-- ---- a call

-- notes of no new PDU
pub noted_none : (station : ℕ) (notes : List Note) (history : List Event) → told_at station history ≡ None → All SendsNone notes
    → told_at station (history ++ map (Noted station) notes) ≡ None
noted_none station [] history before none = ap (told_at station) (append-nil history) ∙ before
noted_none station (note ∷ notes) history before none =
    ap (told_at station) (sym (append_assoc history (Noted station note ∷ []) (map (Noted station) notes)))
    ∙ noted_none station notes (history ++ Noted station note ∷ []) (quiet_told station history note (All-head SendsNone note notes none)) (All-tail SendsNone note notes none)

-- a call in which no new PDU is sent
pub called_none : (given : Given) (station : ℕ) (step : Step) (history : List Event) → told_at station history ≡ None
    → All SendsNone (notes_after (setup_at given station) (facts_at given station history) step) → told_at station (after_call given station step history) ≡ None
called_none given station step history before none =
    let notes = notes_after (setup_at given station) (facts_at given station history) step in
    ap (told_at station) (sym (append_assoc history (Called station step ∷ []) (map (Noted station) notes)))
    ∙ noted_none station notes (history ++ Called station step ∷ []) (call_told station history station step ∙ before) none

-- on the other station
pub called_other : (given : Given) (station other : ℕ) (step : Step) (history : List Event) → is_side (side_of other) (side_of station) ≡ false
    → told_at station (after_call given other step history) ≡ told_at station history
called_other given station other step history differs =
    call_keeps (Option PduLine) (told_at station) (λ note. true ≡ true) other (λ before note any. note_other_told station other before note differs)
    given step history (call_told station history other step) (any_note _)

-- in which the last note is that of a new PDU, under a handle that no link is opened under
pub called_sent : (given : Given) (station : ℕ) (step : Step) (history : List Event) (handle count llid : ℕ) (body : List ℕ) (earlier : List Note)
    → notes_after (setup_at given station) (facts_at given station history) step ≡ earlier ++ Sent handle count llid (record { items = body }) ∷ []
    → All (OpensNone handle) earlier
    → told_at station (after_call given station step history)
    ≡ Some (record { link = number_at station handle history; number = count; pdu = record { llid = llid; body = body } })
called_sent given station step history handle count llid body earlier are opens =
    let sent = Sent handle count llid (record { items = body }) in
    let called = history ++ Called station step ∷ [] in
    let before = called ++ map (Noted station) earlier in
    ap (λ notes. told_at station (history ++ Called station step ∷ map (Noted station) notes)) are
    ∙ ap (told_at station)
    (ap (λ xs. history ++ Called station step ∷ xs) (map_both station earlier (sent ∷ []))
    ∙ sym (append_assoc history (Called station step ∷ []) (map (Noted station) earlier ++ Noted station sent ∷ []))
    ∙ sym (append_assoc called (map (Noted station) earlier) (Noted station sent ∷ [])))
    ∙ note_told station before sent
    ∙ ap (λ n. Some (record { link = n; number = count; pdu = record { llid = llid; body = body } })) (number_notes station handle step history earlier opens)
