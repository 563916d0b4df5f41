-- What the end of a link notes, note by note.
use Rattle.std.proofs.Common.{ℕ, Bool, true, false, Option, Some, None, List, [], ◌∷◌, ◌++◌, cond}
use Rattle.std.specs.Prelude.{◌&&◌, not}
use Rattle.std.specs.List.{AllByRecursion}
use Rattle.ble_base.specs.declared.error_codes.ErrCode.{ErrCode}
use Rattle.ble_base.specs.declared.notes.Note.{Note}
use Rattle.ble_base.specs.declared.notes.Note.TheVariants.{Applied, Began, Done, Enter, Refused, Sent, Took}
use Rattle.ble_base.specs.declared.procedure_kinds.Kind.{Kind}
use Rattle.data_pdu.specs.declared.header.DataHeader.{DataHeader}
use Rattle.data_pdu.specs.Header.{header_in}
use Rattle.link_commands.specs.open_links.link_model.control_end.declared.answers.Entry.{Entry}
use Rattle.link_commands.specs.open_links.link_model.control_end.declared.answers.Taken.{Taken}
use Rattle.link_commands.specs.open_links.link_model.control_end.Answers.{entry_of}
use Rattle.link_commands.specs.open_links.link_model.control_end.Held.{held_of}
use Rattle.link_commands.specs.open_links.link_model.declared.events.ConnectionEvent.{ConnectionEvent}
use Rattle.link_commands.specs.open_links.link_model.Acknowledgement.{Pdu, is_acked}
use Rattle.link_commands.specs.open_links.link_model.Data.{is_empty, numbered}
use Rattle.link_commands.specs.open_links.link_model.Events.{applied_notes}
use Rattle.link_commands.specs.open_links.link_model.Verdicts.{pdu_of}
use Rattle.link_commands.specs.open_links.link_model.Setup.{Setup}
use Rattle.link_commands.specs.open_links.link_model.Facts.{Facts}
use Rattle.link_commands.specs.open_links.link_model.Controls.{goes_on, is_procedure_pdu, is_quiet_now, pdu_fixed}
use Rattle.link_commands.specs.open_links.link_model.Entering.{began_notes, done_notes, entry_notes, event_notes, facts_entered}
use Rattle.link_commands.specs.open_links.link_model.Receiving.{accepts, acked_kind, acks_control, facts_before_taking, given_if, given_notes, has_acknowledged, kept_given_if, notes_hearing, received_notes, refused_notes, took_notes_if}
use Rattle.link_commands.specs.open_links.link_model.Sending.{sent_notes, sent_notes_if}

-- a fact of each note of a packet that is received on the link under this handle
pub record EachReceived (handle : ℕ) (P : Note → Type 0) : Type 0 where
  pub took : (number llid : ℕ) (octets : List ℕ) → P (Took handle number llid (record { items = octets }))
  pub refused : (kind : Kind) (code : ErrCode) → P (Refused handle kind code)
  pub done : (kind : Kind) → P (Done handle kind)

-- and of each note of this event, as it is entered
pub record EachEntered (handle : ℕ) (event : ConnectionEvent) (P : Note → Type 0) : Type 0 where
  pub applied : (number : ℕ) → P (Applied handle number (record { 0 = event.number }))
  pub enter : P (Enter handle (record { 0 = event.number }) event.channel)
  pub done : (kind : Kind) → P (Done handle kind)
  pub began : (kind : Kind) → P (Began handle kind)

module _ (P : Note → Type 0) where
  pub both_each : (xs ys : List Note) → AllByRecursion P xs → AllByRecursion P ys → AllByRecursion P (xs ++ ys)
  both_each [] ys are also = also
  both_each (x ∷ xs) ys are also = (are.0, both_each xs ys are.1 also)

  -- ---- a packet is sent

  sent_if : (noted : Bool) (handle number : ℕ) (pdu : Pdu)
      → ((number llid : ℕ) (octets : List ℕ) → P (Sent handle number llid (record { items = octets })))
      → AllByRecursion P (sent_notes_if noted handle number pdu)
  sent_if true handle number pdu each = (each _ _ _, tt)
  sent_if false handle number pdu each = tt

  pub sent_each : (setup : Setup) (facts : Facts)
      → ((number llid : ℕ) (octets : List ℕ) → P (Sent setup.link.handle number llid (record { items = octets })))
      → AllByRecursion P (sent_notes setup facts)
  sent_each setup facts each =
      sent_if (is_acked facts.acknowledgement && not (is_empty (pdu_fixed facts))) setup.link.handle (numbered facts.acknowledgement.sent)
      (pdu_fixed facts) each

  -- ---- a packet is received

  done_each : (handle : ℕ) (kind : Option Kind) → ((kind : Kind) → P (Done handle kind)) → AllByRecursion P (done_notes handle kind)
  done_each handle None each = tt
  done_each handle (Some kind) each = (each kind, tt)

  refused_each : (handle : ℕ) (refused : Option (Kind × ErrCode)) → ((kind : Kind) (code : ErrCode) → P (Refused handle kind code))
      → AllByRecursion P (refused_notes handle refused)
  refused_each handle None each = tt
  refused_each handle (Some (kind, code)) each = (each kind code, tt)

  took_if : (noted : Bool) (handle : ℕ) (pdu : Pdu) (facts : Facts)
      → ((number llid : ℕ) (octets : List ℕ) → P (Took handle number llid (record { items = octets })))
      → AllByRecursion P (took_notes_if noted handle pdu facts)
  took_if true handle pdu facts each = (each _ _ _, tt)
  took_if false handle pdu facts each = tt

  given_each : (handle : ℕ) (given : Taken) → EachReceived handle P → AllByRecursion P (given_notes handle given)
  given_each handle given each =
      both_each (refused_notes handle given.refused) (done_notes handle given.done) (refused_each handle given.refused each.refused)
      (done_each handle given.done each.done)

  heard_each : (setup : Setup) (slot : ℕ) (room : Bool) (header : DataHeader) (pdu : Pdu) (facts : Facts) → EachReceived setup.link.handle P
      → AllByRecursion P (notes_hearing setup slot room header pdu facts)
  heard_each setup slot room header pdu facts each =
      let handle = setup.link.handle in
      let now = facts_before_taking setup.link.role slot header facts in
      let accepted = accepts room header pdu now in
      let acked = acked_kind (acks_control (has_acknowledged facts header) facts) facts in
      let noted = accepted && not (is_empty pdu) in
      let given = given_if (accepted && is_procedure_pdu pdu) pdu slot now in
      let kept = kept_given_if (accepted && is_procedure_pdu pdu) pdu slot now in
      let of_given = given_notes handle given ++ given_notes handle kept in
      both_each (done_notes handle acked) (took_notes_if noted handle pdu now ++ of_given) (done_each handle acked each.done)
      (both_each (took_notes_if noted handle pdu now) of_given (took_if noted handle pdu now each.took)
      (both_each (given_notes handle given) (given_notes handle kept) (given_each handle given each) (given_each handle kept each)))

  pub received_each : (setup : Setup) (slot : ℕ) (room : Bool) (found : Option (List ℕ)) (facts : Facts) → EachReceived setup.link.handle P
      → AllByRecursion P (received_notes setup slot room found facts)
  received_each setup slot room None facts each = tt
  received_each setup slot room (Some octets) facts each = heard_each setup slot room (header_in octets) (pdu_of octets) facts each

  -- ---- an event is entered

  applied_each : (handle event : ℕ) (number : Option ℕ) → ((number : ℕ) → P (Applied handle number (record { 0 = event })))
      → AllByRecursion P (applied_notes handle event number)
  applied_each handle event None each = tt
  applied_each handle event (Some number) each = (each number, tt)

  began_each : (handle : ℕ) (kind : Option Kind) → ((kind : Kind) → P (Began handle kind)) → AllByRecursion P (began_notes handle kind)
  began_each handle None each = tt
  began_each handle (Some kind) each = (each kind, tt)

  event_each : (handle : ℕ) (event : ConnectionEvent) (entry : Entry) → EachEntered handle event P
      → AllByRecursion P (event_notes handle event entry)
  event_each handle event entry each =
      both_each _ _
      (both_each _ _
      (both_each _ _ (applied_each handle event.number entry.applied each.applied) (each.enter, tt))
      (done_each handle entry.done each.done))
      (began_each handle entry.began each.began)

  if_each : (goes : Bool) (notes : List Note) → AllByRecursion P notes → AllByRecursion P (cond goes notes [])
  if_each true notes are = are
  if_each false notes are = tt

  pub entered_each : (setup : Setup) (slot : ℕ) (facts : Facts) → EachEntered setup.link.handle (facts_entered setup slot facts).event P
      → AllByRecursion P (entry_notes setup slot facts)
  entered_each setup slot facts each =
      let event = (facts_entered setup slot facts).event in
      let entry = entry_of slot (is_quiet_now facts) (held_of facts.control) in
      if_each (goes_on facts) (event_notes setup.link.handle event entry) (event_each setup.link.handle event entry each)
