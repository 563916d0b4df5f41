-- A controller answers a Reset as done only where it has shut all its links, in the notes before.
use Rattle.std.proofs.Common.{◌≡◌, ℕ, zero, suc, ◌+◌, ◌*◌, ◌/◌, ◌%◌, ◌==◌, ◌||◌, Bool, true, false, Option, Some, None, List, [], ◌∷◌, ◌++◌, map, cond, refl, sym, ap, ◌∙◌, subst, append-nil, arith, rules}
use Rattle.std.specs.Prelude.{◌&&◌, ⊤, filter, slice_index}
use Rattle.std.specs.List.{AllByRecursion}
use Rattle.std.proofs.lemmas.Bool.{eqb-true}
use Rattle.std.proofs.lemmas.List.Elements.{recursion_from_All}
use Rattle.arrayvec.specs.ArrayVec.{ArrayVec}
use Rattle.wire_fields.specs.Field.{little_endian}
use Rattle.wire_fields.specs.Layout.{Layout, value_of}
use Rattle.wire_fields.specs.Table.{value_in}
use Rattle.ble_base.specs.Bits.{has_bit}
use Rattle.ble_base.specs.declared.notes.Note.{Note}
use Rattle.ble_base.specs.declared.notes.Note.TheVariants.{Up}
use Rattle.h4_frames.specs.declared.packet.HostPacket.TheVariants.{Command as HostCommand, Acl}
use Rattle.h4_frames.specs.declared.packet.Fed.{Fed}
use Rattle.h4_frames.specs.declared.packet.Fed.TheVariants.{More, Packet, LostSync}
use Rattle.hci_cmd.specs.declared.command.Command.{Command}
use Rattle.hci_cmd.specs.declared.command.Command.TheVariants.{HostCompleted, LeCreateCancel, Reset}
use Rattle.hci_cmd.specs.declared.command.HandleCount.{HandleCount}
use Rattle.hci_cmd.specs.declared.command.CmdRead.{CmdRead}
use Rattle.hci_cmd.specs.declared.command.CmdRead.TheVariants.{Known, UnknownOpcode, BadLength}
use Rattle.hci_cmd.specs.Command.{are_parameters, command_of, counts_layout, layout_of, layouts, read_with}
use Rattle.hci_evt.specs.Event.{mask_bit_of, written}
use Rattle.hci_evt.specs.declared.event.Event.{Event}
use Rattle.hci_evt.specs.declared.event.Event.TheVariants.{CommandComplete, DisconnectionComplete, HardwareError, CompletedPackets, BufferOverflow, ConnectionComplete, AdvertisingReport, EnhancedConnection, ChannelSelection, EncryptionChange, KeyRefresh, KeyRequest, RemoteVersion, UpdateComplete, RemoteFeatures, ParamRequest, LengthChange, PhyComplete}
use Rattle.host_view.specs.Noted.{two_octets}
use Rattle.host_view.specs.OnLinks.{asks_links}
use Rattle.host_view.specs.View.{View}
use Rattle.host_view.specs.Status.{status_of}
use Rattle.journal_moves.specs.journal_wants.journal_sending.journal_data.open_links.OpenLinks.{Links, handles_from, without_links}
use Rattle.journal_moves.specs.journal_wants.journal_sending.journal_data.open_links.declared.offers.Offer.{Offer}
use Rattle.journal_moves.specs.journal_wants.journal_sending.journal_data.open_links.declared.offers.Offer.TheVariants.{NoLink, Empty, Overflow, Kept}
use Rattle.journal_moves.specs.journal_wants.journal_sending.controller_model.Step.{Step, HostOctet}
use Rattle.journal_moves.specs.journal_wants.journal_sending.controller_model.Facts.{Setup, Facts}
use Rattle.journal_moves.specs.journal_wants.journal_sending.controller_model.Answers.{accepted_answer, answer_to, complete_answer, has_status_answer, refused_fields, returned}
use Rattle.journal_moves.specs.journal_wants.journal_sending.controller_model.Answers.{status_answer}
use Rattle.journal_moves.specs.journal_wants.journal_sending.controller_model.Commands.{events_caused, facts_commanded, facts_known, notes_before, notes_commanded, notes_known}
use Rattle.journal_moves.specs.journal_wants.journal_sending.controller_model.Data.{notes_offered, offer_of}
use Rattle.journal_moves.specs.journal_wants.journal_sending.controller_model.Events.{notes_of_events, passes}
use Rattle.journal_moves.specs.journal_wants.journal_sending.controller_model.Links.{connection_failed, note_shut, notes_reset, wants_enhanced}
use Rattle.journal_moves.specs.journal_wants.journal_sending.controller_model.Notes.{is_event}
use Rattle.journal_moves.specs.journal_wants.journal_sending.controller_model.Side.{facts_after, facts_fed, notes_after, notes_fed, result_of}
use Rattle.journal_moves.proofs.journal_wants.journal_sending.controller_model.Always.{IsInTurn}
use Rattle.journal_moves.proofs.journal_wants.journal_sending.controller_model.Handles.{HaveOwnHandles}
use Rattle.journal_moves.proofs.journal_wants.journal_sending.controller_model.OpenPlaces.{is_reset}
use Rattle.journal_moves.proofs.journal_wants.journal_sending.controller_model.ProcedureEvents.{AreOfProcedures, IsOfProcedure}
use Rattle.journal_moves.specs.journal_wants.journal_sending.controller_model.link_commands.LinksCommanded.{events_commanded_on}
use Rattle.journal_moves.proofs.journal_wants.journal_sending.controller_model.Asked.{asking_links, both_asking, events_at_once_are, notes_at_once}
use Rattle.journal_moves.proofs.journal_wants.journal_sending.controller_model.TurnNotes.{EachNote, IsOfTurn, event_noted, turn_noted}
use Rattle.journal_moves.proofs.journal_wants.journal_sending.journal_data.Openness.{all_append}
use Rattle.journal_pdus.specs.Resetting.{answers_reset}

-- ---- what is no such answer

abbrev pub IsQuiet : Note → Type 0
IsQuiet (Up packet) = answers_reset packet.items ≡ false
IsQuiet other = ⊤

turn_quiet : (event : Event) → IsOfTurn event → answers_reset (written event) ≡ false
unfolding little_endian
turn_quiet (DisconnectionComplete status handle reason) is = refl
turn_quiet (CompletedPackets handle count) is = refl
turn_quiet (ConnectionComplete status handle role peer_kind peer interval latency timeout accuracy) is = refl
turn_quiet (AdvertisingReport kind address_kind address report rssi) is = refl
turn_quiet (EnhancedConnection status handle role peer_kind peer local other interval latency timeout accuracy) is = refl
turn_quiet (ChannelSelection handle algorithm) is = refl
turn_quiet (EncryptionChange status handle enabled) is = refl
turn_quiet (KeyRefresh status handle) is = refl
turn_quiet (KeyRequest handle rand ediv) is = refl
turn_quiet (RemoteVersion status handle version company sub) is = refl
turn_quiet (UpdateComplete status handle interval latency timeout) is = refl
turn_quiet (RemoteFeatures status handle features) is = refl
turn_quiet (ParamRequest handle min max latency timeout) is = refl
turn_quiet (LengthChange handle tx_octets tx_time rx_octets rx_time) is = refl
turn_quiet (PhyComplete status handle tx rx) is = refl
turn_quiet other is = absurd is

each_quiet : (most : ℕ) → EachNote most IsQuiet
each_quiet most = record {
  up = turn_quiet;
  received = λ piece. refl;
  opened = λ link below. tt;
  shut = λ handle reason below. tt;
  entered = λ handle event channel below. tt;
  applied = λ handle number event below. tt;
  began = λ handle kind below. tt;
  refused = λ handle kind code below. tt;
  done = λ handle kind below. tt;
  sent = λ handle number llid octets below. tt;
  took = λ handle number llid octets below. tt;
}

-- in a turn there is none
pub turn_calls_quiet : (setup : Setup) (facts : Facts) (step : Step) → HaveOwnHandles setup facts → IsInTurn step → AllByRecursion IsQuiet (notes_after setup facts step)
turn_calls_quiet setup facts step own turn =
    recursion_from_All IsQuiet (notes_after setup facts step) (turn_noted setup.links IsQuiet (each_quiet setup.links) setup facts step refl own turn)

-- ---- one answer

other_status : (event same zeros : Bool) → zeros ≡ false → (event && (same && zeros)) ≡ false
other_status true true zeros is = is
other_status true false zeros is = refl
other_status false same zeros is = refl

other_opcode : (event same zeros : Bool) → same ≡ false → (event && (same && zeros)) ≡ false
other_opcode true true zeros is = absurd cc
other_opcode true false zeros is = refl
other_opcode false same zeros is = refl

two_octets_hold : (opcode : ℕ) → opcode % 256 + 256 * (opcode / 256 % 256) ≡ opcode % 65536
two_octets_hold opcode = omega arith

refused_quiet : (status opcode : ℕ) (fields : List ℕ) → (status == 0x00) ≡ false → answers_reset (written (complete_answer status opcode fields)) ≡ false
unfolding little_endian
refused_quiet status opcode fields is =
    let octets = written (complete_answer status opcode fields) in
    other_status (is_event 0x0E octets) (two_octets 4 octets == 0x0C03) (slice_index octets 6 == 0x00) is

other_quiet : (status opcode : ℕ) (fields : List ℕ) → (opcode % 65536 == 0x0C03) ≡ false → answers_reset (written (complete_answer status opcode fields)) ≡ false
unfolding little_endian
other_quiet status opcode fields is =
    let octets = written (complete_answer status opcode fields) in
    other_opcode (is_event 0x0E octets) (two_octets 4 octets == 0x0C03) (slice_index octets 6 == 0x00)
    (ap (λ (n : ℕ). n == 0x0C03) (two_octets_hold opcode) ∙ is)

status_quiet : (status opcode : ℕ) → answers_reset (written (status_answer status opcode)) ≡ false
unfolding little_endian
status_quiet status opcode = refl

-- ---- which command has the opcode

abbrev IsOnlyReset : ℕ → Layout Command → Type 0
IsOnlyReset opcode layout = (octets : List ℕ) → is_reset (value_of layout octets) ≡ (opcode % 65536 == 0x0C03)

abbrev FoundOnly : ℕ → Option (Layout Command) → Type 0
FoundOnly opcode None = ⊤
FoundOnly opcode (Some layout) = IsOnlyReset opcode layout

counts_none : (handles : ℕ) (taken : List HandleCount) (octets : List ℕ) → is_reset (value_of (counts_layout handles taken) octets) ≡ false
counts_none zero taken octets = refl
counts_none (suc handles) taken octets = counts_none handles _ _

rows_only : AllByRecursion (λ (row : ℕ × Layout Command). IsOnlyReset row.0 row.1) layouts
unfolding layouts
rows_only = search (rules, counts_none)

only_by : (is_row : Bool) (opcode key : ℕ) (layout : Layout Command) (found : Option (Layout Command)) → (opcode == key) ≡ is_row
    → IsOnlyReset key layout → FoundOnly opcode found → FoundOnly opcode (cond is_row (Some layout) found)
only_by true opcode key layout found same here later =
    subst (λ (n : ℕ). IsOnlyReset n layout) (sym (eqb-true opcode key same)) here
only_by false opcode key layout found same here later = later

only_in : (rows : List (ℕ × Layout Command)) (opcode : ℕ) → AllByRecursion (λ (row : ℕ × Layout Command). IsOnlyReset row.0 row.1) rows
    → FoundOnly opcode (value_in rows opcode)
only_in [] opcode are = tt
only_in (row ∷ rows) opcode are =
    only_by (opcode == row.0) opcode row.0 row.1 (value_in rows opcode) refl are.0 (only_in rows opcode are.1)

only_if : (whole : Bool) (same : Bool) (found command : Command) → is_reset found ≡ same
    → cond whole (Known found) BadLength ≡ Known command → is_reset command ≡ same
only_if true same found command only is = let one : found ≡ command = cc in sym (ap is_reset one) ∙ only
only_if false same found command only is = absurd cc

only_with : (found : Option (Layout Command)) (opcode : ℕ) (octets : List ℕ) (command : Command) → FoundOnly opcode found
    → read_with found octets ≡ Known command → is_reset command ≡ (opcode % 65536 == 0x0C03)
only_with None opcode octets command only is = absurd cc
only_with (Some layout) opcode octets command only is =
    only_if (are_parameters layout octets) (opcode % 65536 == 0x0C03) (value_of layout octets) command (only octets) is

known_only : (opcode : ℕ) (octets : List ℕ) (command : Command) → command_of opcode octets ≡ Known command → is_reset command ≡ (opcode % 65536 == 0x0C03)
unfolding command_of layout_of
known_only opcode octets command is = only_with (value_in layouts opcode) opcode octets command (only_in layouts opcode rows_only) is

-- ---- what comes of an octet of the host

-- there is none; or it comes last, after all links are shut
pub data IsAnsweredSo (facts : Facts) (notes : List Note) (links : Links) : Type 0 where
  Quiet : AllByRecursion IsQuiet notes → IsAnsweredSo facts notes links
  Resets : (packet : ArrayVec ℕ) → notes ≡ notes_reset facts ++ Up packet ∷ [] → links ≡ without_links facts.links → IsAnsweredSo facts notes links

-- by whether it has a Command Status, and whether it is accepted
abbrev answer_if : Bool → Bool → Setup → Facts → ℕ → ℕ → Command → List Event
answer_if starts accepted setup facts opcode status command =
    cond starts (status_answer status opcode ∷ [])
    (cond accepted (accepted_answer setup facts opcode command) (complete_answer status opcode (refused_fields command) ∷ []))

accepted_quiet : (setup : Setup) (facts : Facts) (view : View) (opcode : ℕ) (command : Command) → (opcode % 65536 == 0x0C03) ≡ false
    → AllByRecursion IsQuiet (notes_of_events view (accepted_answer setup facts opcode command))
accepted_quiet setup facts view opcode (HostCompleted counts) is = tt
accepted_quiet setup facts view opcode other is = (other_quiet 0x00 opcode (returned setup facts other) is, tt)

answer_quiet : (starts accepted : Bool) (setup : Setup) (facts : Facts) (view : View) (opcode status : ℕ) (command : Command) → (accepted ≡ false → (status == 0x00) ≡ false)
    → (accepted ≡ true → (opcode % 65536 == 0x0C03) ≡ false) → AllByRecursion IsQuiet (notes_of_events view (answer_if starts accepted setup facts opcode status command))
answer_quiet true accepted setup facts view opcode status command refused other = (status_quiet status opcode, tt)
answer_quiet false true setup facts view opcode status command refused other = accepted_quiet setup facts view opcode command (other refl)
answer_quiet false false setup facts view opcode status command refused other =
    (refused_quiet status opcode (refused_fields command) (refused refl), tt)

shuts_quiet : (handles : List ℕ) → AllByRecursion IsQuiet (map (λ handle. note_shut handle 0) handles)
shuts_quiet [] = tt
shuts_quiet (handle ∷ handles) = (tt, shuts_quiet handles)

failed_is : (enhanced : Bool) (status : ℕ) → IsOfTurn (connection_failed enhanced status)
failed_is true status = tt
failed_is false status = tt

caused_quiet : (view : View) → AllByRecursion IsQuiet (notes_of_events view (connection_failed (wants_enhanced view) 0x02 ∷ []))
caused_quiet view =
    let event = connection_failed (wants_enhanced view) 0x02 in
    recursion_from_All IsQuiet (notes_of_events view (event ∷ [])) (event_noted 0 IsQuiet (each_quiet 0) view event (failed_is (wants_enhanced view) 0x02))

-- the events that answer a command at once are none either
procedure_quiet : (event : Event) → IsOfProcedure event → answers_reset (written event) ≡ false
unfolding little_endian
procedure_quiet (CommandComplete number opcode fields) is = absurd is
procedure_quiet event is = refl

procedures_quiet : (view : View) (events : List Event) → AreOfProcedures events → AllByRecursion IsQuiet (notes_of_events view events)
procedures_quiet view [] are = tt
procedures_quiet view (event ∷ events) are = by (passes view (mask_bit_of event)) (procedures_quiet view events are.1)
  where
    later : List Event
    later = filter (λ one. passes view (mask_bit_of one)) events

    by : (passed : Bool) → AllByRecursion IsQuiet (notes_of_events view events)
        → AllByRecursion IsQuiet (map (λ one. Up (record { items = written one })) (cond passed (event ∷ later) later))
    by true rest = (procedure_quiet event are.0, rest)
    by false rest = rest

asks_no_reset : (view : View) (command : Command) → asks_links view command ≡ true → is_reset command ≡ false
asks_no_reset view Reset asks = absurd (let h : false ≡ true = asks in absurd cc)
asks_no_reset view other asks = refl

-- the notes on a command, by its answer
abbrev noted_if : Bool → Facts → Command → List Note → List Note
noted_if false facts command answer = answer
noted_if true facts command answer = notes_before facts command ++ answer ++ notes_of_events facts.view (events_caused facts command)

noted_is : (accepted : Bool) (setup : Setup) (facts : Facts) (opcode : ℕ) (command : Command)
    → noted_if accepted facts command (notes_of_events facts.view (answer_to setup facts opcode (Known command))) ≡ notes_known accepted setup facts opcode command
noted_is true setup facts opcode command = refl
noted_is false setup facts opcode command = refl

-- a Reset that is accepted
reset_so : (starts accepted : Bool) (setup : Setup) (facts : Facts) (opcode status : ℕ) (links : Links) → accepted ≡ true → links ≡ without_links facts.links
    → IsAnsweredSo facts ((notes_reset facts ++ notes_of_events facts.view (answer_if starts accepted setup facts opcode status Reset)) ++ []) links
reset_so true accepted setup facts opcode status links is none =
    Quiet (all_append IsQuiet (notes_reset facts ++ notes_of_events facts.view (status_answer status opcode ∷ [])) []
    (all_append IsQuiet (notes_reset facts) (notes_of_events facts.view (status_answer status opcode ∷ [])) (shuts_quiet (handles_from 0 facts.links))
    (status_quiet status opcode, tt)) tt)
reset_so false true setup facts opcode status links is none =
    Resets (record { items = written (complete_answer 0x00 opcode []) }) (append-nil _) none
reset_so false false setup facts opcode status links is none = absurd cc

-- any other that is accepted
known_quiet : (inner starts : Bool) (setup : Setup) (facts : Facts) (opcode status : ℕ) (command : Command) → is_reset command ≡ false → (status == 0x00) ≡ inner
    → is_reset command ≡ (opcode % 65536 == 0x0C03)
    → AllByRecursion IsQuiet (noted_if true facts command (notes_of_events facts.view (answer_if starts inner setup facts opcode status command)))
known_quiet inner starts setup facts opcode status Reset other is_zero only = absurd (let h : true ≡ false = other in absurd cc)
known_quiet inner starts setup facts opcode status LeCreateCancel other is_zero only =
    all_append IsQuiet (notes_of_events facts.view (answer_if starts inner setup facts opcode status LeCreateCancel)) _
    (answer_quiet starts inner setup facts facts.view opcode status LeCreateCancel (λ refused. is_zero ∙ refused) (λ yes. sym only)) (caused_quiet facts.view)
known_quiet inner starts setup facts opcode status command other is_zero only =
    all_append IsQuiet (notes_of_events facts.view (answer_if starts inner setup facts opcode status command)) []
    (answer_quiet starts inner setup facts facts.view opcode status command (λ refused. is_zero ∙ refused) (λ yes. sym only)) tt

known_so : (accepted inner starts : Bool) (setup : Setup) (facts : Facts) (opcode status : ℕ) (command : Command) → inner ≡ accepted → (status == 0x00) ≡ inner
    → is_reset command ≡ (opcode % 65536 == 0x0C03)
    → IsAnsweredSo facts (noted_if accepted facts command (notes_of_events facts.view (answer_if starts inner setup facts opcode status command)))
    (facts_known accepted setup facts command).links
known_so false inner starts setup facts opcode status command same is_zero only =
    Quiet (answer_quiet starts inner setup facts facts.view opcode status command (λ refused. is_zero ∙ refused)
    (λ yes. absurd (let h : true ≡ false = sym yes ∙ same in absurd cc)))
known_so true inner starts setup facts opcode status Reset same is_zero only = reset_so starts inner setup facts opcode status _ same refl
known_so true inner starts setup facts opcode status other same is_zero only =
    Quiet (known_quiet inner starts setup facts opcode status other refl is_zero only)

short_quiet : (starts : Bool) (view : View) (opcode : ℕ)
    → AllByRecursion IsQuiet (notes_of_events view ((cond starts (status_answer 0x12 opcode) (complete_answer 0x12 opcode [])) ∷ []))
short_quiet true view opcode = (status_quiet 0x12 opcode, tt)
short_quiet false view opcode = (refused_quiet 0x12 opcode [] refl, tt)

command_so : (setup : Setup) (facts : Facts) (opcode : ℕ) (octets : List ℕ) (read : CmdRead) → command_of opcode octets ≡ read
    → IsAnsweredSo facts (notes_commanded setup facts opcode read) (facts_commanded setup facts read).links
command_so setup facts opcode octets UnknownOpcode is = Quiet (status_quiet 0x01 opcode, tt)
command_so setup facts opcode octets BadLength is = Quiet (short_quiet (has_status_answer opcode) facts.view opcode)
command_so setup facts opcode octets (Known command) is =
    let status = status_of facts.view command in
    let accepted = status == 0x00 in
    let starts = (status == 0x01) || has_status_answer opcode in
    let only = known_only opcode octets command is in
    both_asking setup facts command opcode (λ (after : Facts) (notes : List Note). IsAnsweredSo facts notes after.links)
    (subst (λ notes. IsAnsweredSo facts notes (facts_known accepted setup facts command).links) (noted_is accepted setup facts opcode command)
    (known_so accepted accepted starts setup facts opcode status command refl refl only))
    (λ asks. Quiet (all_append IsQuiet (notes_known true setup facts opcode command) (notes_at_once facts command)
    (subst (AllByRecursion IsQuiet) (noted_is true setup facts opcode command)
    (known_quiet accepted starts setup facts opcode status command (asks_no_reset facts.view command (asking_links facts.view command asks)) refl only))
    (procedures_quiet facts.view (events_commanded_on command facts.links) (events_at_once_are command facts.links))))

overflow_quiet : (passed : Bool) → AllByRecursion IsQuiet (map (λ event. Up (record { items = written event })) (cond passed (BufferOverflow 1 ∷ []) []))
unfolding little_endian
overflow_quiet true = (refl, tt)
overflow_quiet false = tt

loss_quiet : (passed : Bool) → AllByRecursion IsQuiet (map (λ event. Up (record { items = written event })) (cond passed (HardwareError 0x01 ∷ []) []))
unfolding little_endian
loss_quiet true = (refl, tt)
loss_quiet false = tt

offered_quiet : (view : View) (offer : Offer) (handle : ℕ) → AllByRecursion IsQuiet (notes_offered view offer handle)
unfolding little_endian
offered_quiet view NoLink handle = tt
offered_quiet view Empty handle = (refl, tt)
offered_quiet view Overflow handle = overflow_quiet (has_bit view.mask 25)
offered_quiet view Kept handle = tt

fed_so : (setup : Setup) (facts : Facts) (fed : Fed) → IsAnsweredSo facts (notes_fed setup facts fed) (facts_fed setup facts fed).links
fed_so setup facts (Packet (HostCommand opcode body)) = command_so setup facts opcode body.items (command_of opcode body.items) refl
fed_so setup facts (Packet (Acl handle start count body)) = Quiet (offered_quiet facts.view (offer_of setup facts handle count) handle)
fed_so setup facts LostSync = Quiet (loss_quiet (has_bit facts.view.mask 15))
fed_so setup facts More = Quiet tt

pub octet_so : (setup : Setup) (facts : Facts) (octet : ℕ)
    → IsAnsweredSo facts (notes_after setup facts (HostOctet octet)) (facts_after setup facts (HostOctet octet)).links
octet_so setup facts octet = fed_so setup facts (result_of facts.octets octet)
