-- What an event or a call adds to the lines of new PDUs with their payloads.
use Rattle.std.proofs.Common.{◌≡◌, ℕ, ◌+◌, ◌==◌, ◌&&◌, not, Bool, true, false, Option, Some, List, [], ◌∷◌, ◌++◌, refl, sym, ap, subst, ◌∙◌, append-nil, append_assoc}
use Rattle.std.specs.Prelude.{All, map, if◌then◌else◌}
use Rattle.ble_base.specs.declared.roles.Side.{Side}
use Rattle.ble_base.specs.declared.notes.Note.{Note}
use Rattle.ble_base.specs.declared.notes.Note.TheVariants.{Up, Sent}
use Rattle.journal.specs.declared.entries.Entry.{Entry}
use Rattle.journal.specs.declared.entries.Entry.TheVariants.{Sent as SentLine}
use Rattle.journal_controls.specs.controller_model.Facts.{Facts}
use Rattle.journal_controls.specs.controller_model.Packets.{notes_doing}
use Rattle.journal_controls.specs.controller_model.Side.{notes_after}
use Rattle.journal_controls.specs.controller_model.Step.{Step}
use Rattle.journal_controls.specs.controller_model.declared.doing.Doing.{Doing}
use Rattle.journal_controls.specs.journal_ends.Asked.{Words}
use Rattle.journal_controls.specs.journal_packets.Belonging.{is_side}
use Rattle.journal_controls.specs.link_model.Acknowledgement.{Pdu, is_acked}
use Rattle.journal_controls.specs.link_model.Controls.{pdu_fixed}
use Rattle.journal_controls.specs.link_model.Data.{is_empty, numbered}
use Rattle.journal_controls.specs.link_model.Sending.{sent_notes_if}
use Rattle.journal_controls.specs.open_links.OpenLinks.{facts_in}
use Rattle.journal_controls.specs.run_model.History.{Event, TurnBegan, HostFed, Called, Noted, Transmitted, Hearing}
use Rattle.journal_controls.specs.run_model.Journal.{air_entries, entries_of, entry_of, journal_from, journal_of, side_of}
use Rattle.journal_controls.specs.run_model.Links.{links_of}
use Rattle.journal_controls.specs.run_model.Run.{Given, after_call, facts_at, setup_at}
use Rattle.journal_acks.proofs.link_calls.CallNotes.{OpensNone, SendsNone}
use Rattle.journal_controls.proofs.journal_acks.Exchanging.{any_note, call_keeps, map_both, notes_keep, number_at, number_notes}
use Rattle.journal_controls.proofs.journal_acks.PhaseNotes.{SendsFrom, SendsNothing, SendsOne, sends_from}
use Rattle.journal_controls.proofs.journal_acks.TwoStations.{side_same}
use Rattle.journal_controls.proofs.run_model.Parts.{journal_event, journal_more}
use Rattle.journal_sealing.specs.SealedLines.{NoneSent, SealedLine, says_sent, sealed_line, sealed_line_of}
use Rattle.journal_sealing.proofs.SealedLines.{line_more, same_line}

-- the last line of a new PDU of a side on a link, with its payload, as the journal of a history has it
abbrev pub sealed_line_at : Words → ℕ → List Event → Side → Option SealedLine
sealed_line_at words number history side = sealed_line_of words number (journal_of history) side

-- ---- an event more

-- in the entries of which no new PDU is sent
entries_same : (words : Words) (number : ℕ) (history after : List Event) (side : Side) (more : List Entry) → journal_of after ≡ journal_of history ++ more → NoneSent number side more
    → sealed_line_at words number after side ≡ sealed_line_at words number history side
entries_same words number history after side more is none =
    ap (λ xs. sealed_line_of words number xs side) is ∙ same_line words number side (journal_of history) more none

event_same : (words : Words) (number : ℕ) (history : List Event) (event : Event) (side : Side) → NoneSent number side (entries_of (links_of history) event)
    → sealed_line_at words number (history ++ event ∷ []) side ≡ sealed_line_at words number history side
event_same words number history event side none =
    entries_same words number history (history ++ event ∷ []) side (entries_of (links_of history) event) (journal_event history event) none

pub turn_sealed : (words : Words) (number : ℕ) (history : List Event) (slot : ℕ) (radios : List Bool) (side : Side)
    → sealed_line_at words number (history ++ TurnBegan slot radios ∷ []) side ≡ sealed_line_at words number history side
turn_sealed words number history slot radios side = event_same words number history (TurnBegan slot radios) side (refl, tt)

pub feed_sealed : (words : Words) (number : ℕ) (history : List Event) (station : ℕ) (octets : List ℕ) (side : Side)
    → sealed_line_at words number (history ++ HostFed station octets ∷ []) side ≡ sealed_line_at words number history side
feed_sealed words number history station octets side = event_same words number history (HostFed station octets) side (refl, tt)

air_none : (number : ℕ) (side sender : Side) (channel : ℕ) (octets : List ℕ) (hearings : List Hearing) → NoneSent number side (air_entries sender channel octets hearings)
air_none number side sender channel octets [] = tt
air_none number side sender channel octets (hearing ∷ hearings) = (refl, tt)

pub air_sealed : (words : Words) (number : ℕ) (history : List Event) (sender channel : ℕ) (octets : List ℕ) (hearings : List Hearing) (side : Side)
    → sealed_line_at words number (history ++ Transmitted sender channel octets hearings ∷ []) side ≡ sealed_line_at words number history side
air_sealed words number history sender channel octets hearings side =
    event_same words number history (Transmitted sender channel octets hearings) side (air_none number side (side_of sender) channel octets hearings)

call_sealed : (words : Words) (number : ℕ) (history : List Event) (station : ℕ) (step : Step) (side : Side)
    → sealed_line_at words number (history ++ Called station step ∷ []) side ≡ sealed_line_at words number history side
call_sealed words number history station step side = event_same words number history (Called station step) side tt

-- ---- a note

quiet_entry : (number : ℕ) (side other : Side) (link_of : ℕ → ℕ) (last : ℕ) (note : Note) → SendsNone note → says_sent number side (entry_of other link_of last note) ≡ false
quiet_entry number side other link_of last (Sent handle count llid body) none = absurd cc
quiet_entry number side other link_of last (Up packet) none = refl
quiet_entry number side other link_of last note none = refl

other_entry : (number : ℕ) (side other : Side) (link_of : ℕ → ℕ) (last : ℕ) (note : Note) → is_side other side ≡ false → says_sent number side (entry_of other link_of last note) ≡ false
other_entry number side other link_of last (Sent handle count llid body) differs = ap (λ b. b && link_of handle == number) differs
other_entry number side other link_of last (Up packet) differs = refl
other_entry number side other link_of last note differs = refl

quiet_note : (words : Words) (number station : ℕ) (side : Side) (history : List Event) (note : Note) → SendsNone note
    → sealed_line_at words number (history ++ Noted station note ∷ []) side ≡ sealed_line_at words number history side
quiet_note words number station side history note none =
    event_same words number history (Noted station note) side
    (quiet_entry number side (side_of station) ((links_of history).link_of station) ((links_of history).last_of station) note none, tt)

other_note : (words : Words) (number station : ℕ) (side : Side) (history : List Event) (note : Note) → is_side (side_of station) side ≡ false
    → sealed_line_at words number (history ++ Noted station note ∷ []) side ≡ sealed_line_at words number history side
other_note words number station side history note differs =
    event_same words number history (Noted station note) side
    (other_entry number side (side_of station) ((links_of history).link_of station) ((links_of history).last_of station) note differs, tt)

-- ---- a call

-- in which no new PDU is sent
pub sealed_called : (words : Words) (given : Given) (number station : ℕ) (step : Step) (history : List Event) (side : Side)
    → All SendsNone (notes_after (setup_at given station) (facts_at given station history) step)
    → sealed_line_at words number (after_call given station step history) side ≡ sealed_line_at words number history side
sealed_called words given number station step history side none =
    call_keeps (Option SealedLine) (λ before. sealed_line_at words number before side) SendsNone station (λ before note quiet. quiet_note words number station side before note quiet)
    given step history (call_sealed words number history station step side) none

-- on the other side
pub sealed_other : (words : Words) (given : Given) (number station : ℕ) (step : Step) (history : List Event) (side : Side) → is_side (side_of station) side ≡ false
    → sealed_line_at words number (after_call given station step history) side ≡ sealed_line_at words number history side
sealed_other words given number station step history side differs =
    call_keeps (Option SealedLine) (λ before. sealed_line_at words number before side) (λ note. true ≡ true) station
    (λ before note any. other_note words number station side before note differs) given step history (call_sealed words number history station step side) (any_note _)

-- a call notes no new PDU, or one, and that last
pub data IsSendingLast (notes : List Note) : Type 0 where
  NoneSends : All SendsNone notes → IsSendingLast notes
  LastSends : (earlier : List Note) (handle count llid : ℕ) (body : List ℕ) → notes ≡ earlier ++ Sent handle count llid (record { items = body }) ∷ []
      → All SendsNone earlier → All (OpensNone handle) earlier → IsSendingLast notes

sending_if : (noted : Bool) (handle number : ℕ) (pdu : Pdu) (notes earlier : List Note) → notes ≡ earlier ++ sent_notes_if noted handle number pdu → All SendsNone earlier
    → All (OpensNone handle) earlier → IsSendingLast notes
sending_if true handle number pdu notes earlier are none opens = LastSends earlier handle (number + 1) pdu.llid pdu.body are none opens
sending_if false handle number pdu notes earlier are none opens =
    NoneSends (subst (All SendsNone) (sym (are ∙ append-nil earlier)) none)

-- by what it notes before a link is to send
pub sending_last : (doing : Doing) (facts : Facts) (notes earlier : List Note) → notes ≡ earlier ++ notes_doing doing facts → All SendsNone earlier
    → ((handle : ℕ) → All (OpensNone handle) earlier) → IsSendingLast notes
sending_last doing facts notes earlier are none opens = by (sends_from doing facts)
  where
    by : SendsFrom doing facts → IsSendingLast notes
    by (SendsNothing nothing) = NoneSends (subst (All SendsNone) (sym (are ∙ ap (λ xs. earlier ++ xs) nothing ∙ append-nil earlier)) none)
    by (SendsOne other link at on noted) =
        let ack = (facts_in link).acknowledgement in
        let pdu = pdu_fixed (facts_in link) in
        sending_if (is_acked ack && not (is_empty pdu)) link.setup.link.handle (numbered ack.sent) pdu notes earlier (are ∙ ap (λ xs. earlier ++ xs) noted) none
        (opens link.setup.link.handle)

-- one that sends such a PDU
module _ (words : Words) (given : Given) (station : ℕ) (step : Step) (history : List Event) (earlier : List Note) (handle count llid : ℕ) (body : List ℕ)
    (are : notes_after (setup_at given station) (facts_at given station history) step ≡ earlier ++ Sent handle count llid (record { items = body }) ∷ [])
    (none : All SendsNone earlier) (opens : All (OpensNone handle) earlier) where
  abbrev called : List Event
  called = history ++ Called station step ∷ []

  -- before its line
  abbrev pub before_sent : List Event
  before_sent = called ++ map (Noted station) earlier

  abbrev note : Note
  note = Sent handle count llid (record { items = body })

  after_is : after_call given station step history ≡ before_sent ++ Noted station note ∷ []
  after_is =
      ap (λ notes. history ++ Called station step ∷ map (Noted station) notes) are
      ∙ ap (λ xs. history ++ Called station step ∷ xs) (map_both station earlier (note ∷ []))
      ∙ sym (append_assoc history (Called station step ∷ []) (map (Noted station) earlier ++ Noted station note ∷ []))
      ∙ sym (append_assoc called (map (Noted station) earlier) (Noted station note ∷ []))

  pub journal_last : journal_of (after_call given station step history)
      ≡ journal_of before_sent ++ SentLine (side_of station) (number_at station handle history) count llid body ∷ []
  journal_last =
      ap journal_of after_is ∙ journal_event before_sent (Noted station note)
      ∙ ap (λ n. journal_of before_sent ++ SentLine (side_of station) n count llid body ∷ []) (number_notes station handle step history earlier opens)

  pub journal_before : journal_of before_sent ≡ journal_of history ++ journal_from (links_of history) (Called station step ∷ map (Noted station) earlier)
  journal_before =
      ap journal_of (append_assoc history (Called station step ∷ []) (map (Noted station) earlier))
      ∙ journal_more history (Called station step ∷ map (Noted station) earlier)

  -- what the lines say then
  module _ (number : ℕ) where
    abbrev side : Side
    side = side_of station

    earlier_same : sealed_line_at words number before_sent side ≡ sealed_line_at words number history side
    earlier_same =
        notes_keep (Option SealedLine) (λ xs. sealed_line_at words number xs side) SendsNone station (λ xs one quiet. quiet_note words number station side xs one quiet) earlier called none
        ∙ call_sealed words number history station step side

    pub sealed_last : sealed_line_at words number (after_call given station step history) side
        ≡ (if number_at station handle history == number
        then Some (sealed_line words number (journal_of before_sent) side (record { llid = llid; body = body }))
        else sealed_line_at words number history side)
    sealed_last =
        let one = Some (sealed_line words number (journal_of before_sent) side (record { llid = llid; body = body })) in
        let own = number_at station handle history == number in
        ap (λ xs. sealed_line_of words number xs side) journal_last
        ∙ line_more words number side (journal_of before_sent) (SentLine side (number_at station handle history) count llid body)
        ∙ ap (λ b. if b && own then one else sealed_line_at words number before_sent side) (side_same station)
        ∙ ap (λ line. if own then one else line) earlier_same
