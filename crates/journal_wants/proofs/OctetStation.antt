-- As a host sends an octet, what the lines of its side say that it has set stays what its controller holds.
use Rattle.std.proofs.Common.{◌≡◌, ℕ, ◌==◌, Bool, true, false, List, [], ◌∷◌, ◌++◌, map, refl, sym, ap, ◌∙◌, append-nil, append_assoc, if◌then◌else◌}
use Rattle.std.specs.Prelude.{filter}
use Rattle.std.proofs.lemmas.List.{map-append}
use Rattle.ble_base.specs.declared.notes.Note.{Note}
use Rattle.ble_base.specs.declared.notes.Note.TheVariants.{Up as UpNote}
use Rattle.ble_base.specs.declared.roles.Side.{Side}
use Rattle.h4_frames.specs.declared.packet.HostPacket.TheVariants.{Command as HostCommand, Acl}
use Rattle.h4_frames.specs.declared.packet.Fed.{Fed}
use Rattle.h4_frames.specs.declared.packet.Fed.TheVariants.{More, Packet, LostSync}
use Rattle.hci_cmd.specs.declared.command.Command.{Command}
use Rattle.hci_cmd.specs.declared.command.Command.TheVariants.{Reset}
use Rattle.hci_cmd.specs.declared.command.CmdRead.{CmdRead}
use Rattle.hci_cmd.specs.declared.command.CmdRead.TheVariants.{Known, UnknownOpcode, BadLength}
use Rattle.hci_cmd.specs.Command.{command_of}
use Rattle.hci_evt.specs.declared.event.Event.{Event as HciEvent}
use Rattle.hci_evt.specs.declared.event.Event.TheVariants.{BufferOverflow, CompletedPackets, HardwareError}
use Rattle.hci_evt.specs.Event.{mask_bit_of, written}
use Rattle.host_answers.specs.Answered.{accepted_from}
use Rattle.host_answers.specs.Calls.{answered_after, answered_commands}
use Rattle.host_answers.proofs.LineAnswers.{call_accepts}
use Rattle.host_view.specs.View.{View}
use Rattle.host_view.specs.Status.{status_of}
use Rattle.journal_events.specs.journal_sending.controller_model.Answers.{answer_to}
use Rattle.journal_events.specs.journal_sending.controller_model.Commands.{events_caused, is_asking, notes_asking, notes_commanded, notes_known}
use Rattle.journal_events.specs.journal_sending.controller_model.Data.{notes_offered, offer_of}
use Rattle.journal_events.specs.journal_sending.controller_model.Events.{notes_of_events, passes}
use Rattle.journal_events.specs.journal_sending.controller_model.Facts.{Facts, Setup}
use Rattle.journal_events.specs.journal_sending.controller_model.Host.{commands_accepted_by, commands_accepted_in}
use Rattle.journal_events.specs.journal_sending.controller_model.Links.{notes_reset}
use Rattle.journal_events.specs.journal_sending.controller_model.Side.{notes_after, notes_fed, result_of}
use Rattle.journal_events.specs.journal_sending.controller_model.Step.{HostOctet}
use Rattle.journal_events.specs.journal_sending.controller_model.link_commands.LinksCommanded.{events_commanded_on}
use Rattle.journal_events.specs.journal_sending.journal_controls.LineSteps.{turn_now}
use Rattle.journal_events.specs.journal_sending.journal_controls.journal_ends.Asked.{Words}
use Rattle.journal_events.specs.journal_sending.journal_data.open_links.declared.offers.Offer.{Offer}
use Rattle.journal_events.specs.journal_sending.journal_data.open_links.declared.offers.Offer.TheVariants.{NoLink, Empty, Overflow, Kept}
use Rattle.journal_events.specs.journal_sending.journal_data.open_links.OpenLinks.{handles_from}
use Rattle.journal_events.specs.journal_sending.run_model.Feeding.{HasNoted}
use Rattle.journal_events.specs.journal_sending.run_model.History.{Event, Called, Noted}
use Rattle.journal_events.specs.journal_sending.run_model.Journal.{journal_from, journal_of, side_of}
use Rattle.journal_events.specs.journal_sending.run_model.Links.{links_of}
use Rattle.journal_events.specs.journal_sending.run_model.Run.{Given, after_call, facts_at, history_of, run_of, setup_at}
use Rattle.journal_events.proofs.journal_sending.run_model.LinksKnown.{links_event}
use Rattle.journal_events.proofs.journal_sending.run_model.Parts.{journal_event}
use Rattle.journal_events.proofs.journal_sending.run_model.Stations.{is_in}
use Rattle.journal_wants.specs.Station.{Setups, commanded_by}
use Rattle.journal_wants.proofs.StationLines.{station_at, station_called}
use Rattle.journal_wants.proofs.NotedStation.{ArePlain, accepts, accepts_append, all_shut, at, both_plain, plain_notes}

-- ---- what a host is told

packets_plain : (events : List HciEvent) → ArePlain (map (λ event. UpNote (record { items = written event })) events)
packets_plain [] = tt
packets_plain (event ∷ events) = (refl, packets_plain events)

pub events_plain : (view : View) (events : List HciEvent) → ArePlain (notes_of_events view events)
events_plain view events = packets_plain (filter (λ event. passes view (mask_bit_of event)) events)

-- an accepted Reset shuts links
abbrev resets : Bool → Command → Bool
resets true Reset = true
resets took command = false

known_plain : (took : Bool) (setup : Setup) (facts : Facts) (opcode : ℕ) (command : Command) → resets took command ≡ false
    → ArePlain (notes_known took setup facts opcode command)
known_plain false setup facts opcode command none = events_plain facts.view (answer_to setup facts opcode (Known command))
known_plain true setup facts opcode Reset none = absurd cc
known_plain true setup facts opcode command none =
    both_plain (notes_of_events facts.view (answer_to setup facts opcode (Known command))) (notes_of_events facts.view (events_caused facts command))
    (events_plain facts.view (answer_to setup facts opcode (Known command))) (events_plain facts.view (events_caused facts command))

asking_plain : (asks : Bool) (facts : Facts) (command : Command) (notes : List Note) → ArePlain notes → ArePlain (notes_asking asks facts command notes)
asking_plain false facts command notes plain = plain
asking_plain true facts command notes plain =
    both_plain notes (notes_of_events facts.view (events_commanded_on command facts.links)) plain
    (events_plain facts.view (events_commanded_on command facts.links))

offered_plain : (view : View) (offer : Offer) (handle : ℕ) → ArePlain (notes_offered view offer handle)
offered_plain view NoLink handle = tt
offered_plain view Empty handle = events_plain view (CompletedPackets handle 1 ∷ [])
offered_plain view Overflow handle = events_plain view (BufferOverflow 1 ∷ [])
offered_plain view Kept handle = tt

-- the notes of an accepted Reset
record HasReset (facts : Facts) (notes : List Note) : Type 0 where
  more : List Note
  plain : ArePlain more
  are : notes ≡ notes_reset facts ++ more

reset_known : (setup : Setup) (facts : Facts) (opcode : ℕ) → HasReset facts (notes_known true setup facts opcode Reset)
reset_known setup facts opcode =
    let answer = notes_of_events facts.view (answer_to setup facts opcode (Known Reset)) in
    let caused = notes_of_events facts.view (events_caused facts Reset) in record {
      more = answer ++ caused;
      plain = both_plain answer caused (events_plain facts.view (answer_to setup facts opcode (Known Reset))) (events_plain facts.view (events_caused facts Reset));
      are = append_assoc (notes_reset facts) answer caused;
    }

reset_notes : (asks : Bool) (setup : Setup) (facts : Facts) (opcode : ℕ) → HasReset facts (notes_asking asks facts Reset (notes_known true setup facts opcode Reset))
reset_notes false setup facts opcode = reset_known setup facts opcode
reset_notes true setup facts opcode =
    let first = reset_known setup facts opcode in
    let known = notes_of_events facts.view (events_commanded_on Reset facts.links) in record {
      more = first.more ++ known;
      plain = both_plain first.more known first.plain (events_plain facts.view (events_commanded_on Reset facts.links));
      are = ap (λ notes. notes ++ known) first.are ∙ append_assoc (notes_reset facts) first.more known;
    }

-- ---- what the lines of an octet make of a side

module _ (words : Words) (setups : Setups) (station : ℕ) (history : List Event) (setup : Setup) (facts : Facts) where
  abbrev side : Side
  side = side_of station

  abbrev slot : ℕ
  slot = turn_now (journal_of history)

  -- these notes set what these commands set
  abbrev Set : List Note → List Command → Type 0
  Set notes commands = accepts words setups station history notes ≡ commands
      → at words setups station (history ++ map (Noted station) notes) ≡ commanded_by (setups side) slot commands (at words setups station history)

  plain_set : (notes : List Note) (commands : List Command) → ArePlain notes → Set notes commands
  plain_set notes commands plain are =
      plain_notes words setups station history notes plain
      ∙ ap (λ xs. commanded_by (setups side) slot xs (at words setups station history)) are

  reset_set : (notes : List Note) → HasReset facts notes → Set notes (Reset ∷ [])
  reset_set notes has are =
      let handles = handles_from 0 facts.links in
      let shut = all_shut words setups station history handles in
      let next = history ++ map (Noted station) (notes_reset facts) in
      let taken : accepts words setups station next has.more ≡ Reset ∷ [] =
      ap (λ xs. xs ++ accepts words setups station next has.more) (sym shut.none)
      ∙ sym (accepts_append words setups station history (notes_reset facts) has.more)
      ∙ ap (accepts words setups station history) (sym has.are) ∙ are in
      let split : history ++ map (Noted station) notes ≡ next ++ map (Noted station) has.more =
      ap (λ xs. history ++ map (Noted station) xs) has.are
      ∙ ap (λ xs. history ++ xs) (map-append (Noted station) (notes_reset facts) has.more)
      ∙ sym (append_assoc history (map (Noted station) (notes_reset facts)) (map (Noted station) has.more)) in
      ap (at words setups station) split
      ∙ plain_notes words setups station next has.more has.plain
      ∙ (λ i. commanded_by (setups side) (shut.turn_is i) (taken i) (shut.is i))

  known_set : (took asks : Bool) (opcode : ℕ) (command : Command)
      → Set (notes_asking asks facts command (notes_known took setup facts opcode command)) (answered_commands (if took then command ∷ [] else []))
  known_set true asks opcode Reset =
      reset_set (notes_asking asks facts Reset (notes_known true setup facts opcode Reset)) (reset_notes asks setup facts opcode)
  known_set took asks opcode command =
      plain_set (notes_asking asks facts command (notes_known took setup facts opcode command)) (answered_commands (if took then command ∷ [] else []))
      (asking_plain asks facts command (notes_known took setup facts opcode command) (known_plain took setup facts opcode command refl))

  read_set : (opcode : ℕ) (read : CmdRead) → Set (notes_commanded setup facts opcode read) (answered_commands (commands_accepted_by facts read))
  read_set opcode (Known command) = known_set (status_of facts.view command == 0) (is_asking facts.view command) opcode command
  read_set opcode UnknownOpcode = plain_set (notes_commanded setup facts opcode UnknownOpcode) [] (events_plain facts.view (answer_to setup facts opcode UnknownOpcode))
  read_set opcode BadLength = plain_set (notes_commanded setup facts opcode BadLength) [] (events_plain facts.view (answer_to setup facts opcode BadLength))

  pub fed_set : (fed : Fed) → Set (notes_fed setup facts fed) (answered_commands (commands_accepted_in facts fed))
  fed_set (Packet (HostCommand opcode body)) = read_set opcode (command_of opcode body.items)
  fed_set (Packet (Acl handle start count body)) =
      plain_set (notes_offered facts.view (offer_of setup facts handle count) handle) [] (offered_plain facts.view (offer_of setup facts handle count) handle)
  fed_set LostSync = plain_set (notes_of_events facts.view (HardwareError 0x01 ∷ [])) [] (events_plain facts.view (HardwareError 0x01 ∷ []))
  fed_set More = plain_set [] [] tt

-- ---- in a run of two stations

pub octet_commands : (words : Words) (setups : Setups) (given : Given) → given.stations ≡ 0 ∷ 1 ∷ [] → (station : ℕ) → is_in station given.stations ≡ true → (octet : ℕ)
    → (before rest : List Event) → history_of (run_of given) ≡ before ++ Called station (HostOctet octet) ∷ rest → HasNoted given station before
    → station_at words setups (side_of station) (after_call given station (HostOctet octet) before)
    ≡ commanded_by (setups (side_of station)) (turn_now (journal_of before)) (answered_after (facts_at given station before) (HostOctet octet))
    (station_at words setups (side_of station) before)
octet_commands words setups given are_two station in_it octet before rest at_run noted =
    let setup = setup_at given station in
    let facts = facts_at given station before in
    let notes = notes_after setup facts (HostOctet octet) in
    let called = before ++ Called station (HostOctet octet) ∷ [] in
    let journal : journal_of called ≡ journal_of before = journal_event before (Called station (HostOctet octet)) ∙ append-nil (journal_of before) in
    let links : links_of called ≡ links_of before = links_event before (Called station (HostOctet octet)) in
    let accepted : accepts words setups station called notes ≡ answered_after facts (HostOctet octet) =
    (λ i. accepted_from (side_of station) (journal i) (journal_from (links i) (map (Noted station) notes)))
    ∙ call_accepts given are_two station in_it (HostOctet octet) before rest at_run noted in
    ap (station_at words setups (side_of station)) (sym (append_assoc before (Called station (HostOctet octet) ∷ []) (map (Noted station) notes)))
    ∙ fed_set words setups station called setup facts (result_of facts.octets octet) accepted
    ∙ (λ i. commanded_by (setups (side_of station)) (turn_now (journal i)) (answered_after facts (HostOctet octet))
    (station_called words setups (side_of station) before station (HostOctet octet) i))
