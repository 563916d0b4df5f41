-- The indications of one end of a link by its notes: those that it sent as the central or took as the peripheral, and
-- how many of them are in force (Core 5.2, volume 6 part B, sections 5.1.1, 5.1.2 and 5.5).
use Rattle.std.specs.Prelude.{ℕ, ◌==◌, Bool, true, false, List, [], ◌∷◌, ◌++◌, length, map, take, fold, Option, Some, None, if◌then◌else◌}
use Rattle.std.specs.List.{filter}
use Rattle.ble_base.specs.declared.notes.Note.{Note}
use Rattle.ble_base.specs.declared.notes.Note.TheVariants.{Applied, Enter, Sent, Took}
use Rattle.ble_base.specs.declared.roles.Role.{Role}
use Rattle.ble_base.specs.declared.roles.Role.TheVariants.{Central, Peripheral}
use Rattle.data_pdu.specs.Reading.{ctrl_of}
use Rattle.data_pdu.specs.declared.ctrl.Ctrl.TheVariants.{ConnectionUpdateInd, ChannelMapInd}
use Rattle.data_pdu.specs.declared.ctrl.CtrlRead.{CtrlRead}
use Rattle.data_pdu.specs.declared.ctrl.CtrlRead.TheVariants.{Known}
use Rattle.instants.specs.Arrivals.{Taking, taking_of}
use Rattle.instants.specs.declared.indications.Indication.{Indication}
use Rattle.instants.specs.declared.indications.Indication.TheVariants.{Update, Map}
use Rattle.instants.specs.declared.track.Change.{Change}

-- ---- one note

-- the indication that a control PDU is, if it is one (sections 2.4.2.1 and 2.4.2.2)
abbrev pub indication_read : CtrlRead → Option Indication
indication_read (Known (ConnectionUpdateInd win_size win_offset interval latency timeout instant)) =
    Some (Update win_offset interval latency timeout instant)
indication_read (Known (ChannelMapInd map instant)) = Some (Map map instant)
indication_read other = None

-- the indication that a PDU is, by its LLID and its payload: a control PDU has LLID 3 (section 2.4.1)
abbrev pub indication_in : ℕ → List ℕ → Option Indication
indication_in llid body = if llid == 3 then indication_read (ctrl_of body) else None

-- the indication in a note: a central follows those that it sends, and a peripheral those that it takes (section 5.5)
abbrev pub indication_noted : Role → Note → Option Indication
indication_noted Central (Sent handle number llid body) = indication_in llid body.items
indication_noted Peripheral (Took handle number llid body) = indication_in llid body.items
indication_noted role other = None

-- the event that an end is in after a note
abbrev pub event_after : ℕ → Note → ℕ
event_after event (Enter handle number channel) = number.0
event_after event other = event

abbrev pub is_applied_note : Note → Bool
is_applied_note (Applied handle number event) = true
is_applied_note other = false

-- ---- all notes so far

-- the event that the end entered last; 0 before its first one (our choice)
abbrev pub event_noted : List Note → ℕ
event_noted notes = fold event_after 0 notes

abbrev pub taking_if : ℕ → Option Indication → List Taking
taking_if event None = []
taking_if event (Some indication) = taking_of event indication ∷ []

-- the indications in these notes, each with the event in which it is noted; the first note is in this event
abbrev pub takings_from : Role → ℕ → List Note → List Taking
takings_from role event [] = []
takings_from role event (note ∷ notes) =
    taking_if event (indication_noted role note) ++ takings_from role (event_after event note) notes

abbrev pub takings_noted : Role → List Note → List Taking
takings_noted role notes = takings_from role 0 notes

-- the indications of an end, oldest first, each with the event that its Instant names (section 5.5.1)
abbrev pub indications_noted : Role → List Note → List Change
indications_noted role notes = map (λ taking. taking.change) (takings_noted role notes)

-- how many of them came into force
abbrev pub applied_noted : List Note → ℕ
applied_noted notes = length (filter is_applied_note notes)

-- those in force: each end notes one more as it enters the event from which on that holds
abbrev pub changes_noted : Role → List Note → List Change
changes_noted role notes = take (applied_noted notes) (indications_noted role notes)
