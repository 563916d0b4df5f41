-- Which links a step notes as opened: those that it opens, each under a handle that was free.
use Rattle.std.proofs.Common.{◌≡◌, ℕ, ◌+◌, ◌==◌, ◌||◌, Bool, true, false, Option, Some, None, List, [], ◌∷◌, ◌++◌, map, refl, sym, ap, subst, ◌∙◌}
use Rattle.std.specs.Prelude.{◌&&◌, not, filter, flat_map, if◌then◌else◌}
use Rattle.std.specs.List.{list_any}
use Rattle.std.proofs.lemmas.Bool.{eqb-true}
use Rattle.std.proofs.lemmas.List.Folds.{list_any-append}
use Rattle.acl_banks.specs.declared.pieces.Piece.{Piece}
use Rattle.ble_base.specs.declared.notes.Note.{Note}
use Rattle.ble_base.specs.declared.notes.Note.TheVariants.{Up, Opened, Enter}
use Rattle.ble_base.specs.declared.error_codes.ErrCode.{ErrCode}
use Rattle.ble_base.specs.declared.procedure_kinds.Kind.{Kind}
use Rattle.adv_pdu.specs.declared.pdu.AdvPdu.{AdvPdu}
use Rattle.adv_pdu.specs.declared.pdu.ConnectFields.{ConnectFields}
use Rattle.adv_pdu.specs.Pdu.{sender_of}
use Rattle.advertise.specs.declared.answers.AdvAnswer.{AdvAnswer}
use Rattle.advertise.specs.declared.answers.AdvAnswer.TheVariants.{Connect as Takes}
use Rattle.advertise.specs.Advertising.{AdvertiserFacts}
use Rattle.advertise.specs.Answers.{advertiser_answer}
use Rattle.h4_frames.specs.declared.packet.HostPacket.TheVariants.{Command as HostCommand, Acl}
use Rattle.h4_frames.specs.declared.packet.Fed.{Fed}
use Rattle.h4_frames.specs.declared.packet.Fed.TheVariants.{More, Packet, LostSync}
use Rattle.hci_cmd.specs.declared.command.Command.{Command}
use Rattle.hci_cmd.specs.declared.command.Command.TheVariants.{Reset}
use Rattle.hci_cmd.specs.declared.command.CmdRead.{CmdRead}
use Rattle.hci_cmd.specs.declared.command.CmdRead.TheVariants.{Known, UnknownOpcode, BadLength}
use Rattle.hci_cmd.specs.Command.{command_of}
use Rattle.hci_evt.specs.declared.event.Event.{Event}
use Rattle.hci_evt.specs.declared.event.Event.TheVariants.{DisconnectionComplete, HardwareError, CompletedPackets, BufferOverflow}
use Rattle.hci_evt.specs.Event.{mask_bit_of, written}
use Rattle.host_view.specs.Links.{was_encrypted}
use Rattle.host_view.specs.View.{View}
use Rattle.host_view.specs.Status.{status_of}
use Rattle.data_pdu.specs.Header.{header_in}
use Rattle.controller_model.specs.link_model.declared.setup.LinkSetup.{LinkSetup}
use Rattle.controller_model.specs.control_end.declared.answers.Entry.{Entry}
use Rattle.controller_model.specs.control_end.declared.answers.Taken.{Taken}
use Rattle.controller_model.specs.link_model.Acknowledgement.{Pdu, is_acked}
use Rattle.controller_model.specs.link_model.Setup.{Setup as EndSetup}
use Rattle.controller_model.specs.link_model.Data.{is_empty, numbered}
use Rattle.controller_model.specs.link_model.declared.events.ConnectionEvent.{ConnectionEvent}
use Rattle.controller_model.specs.link_model.Facts.{Facts as EndFacts}
use Rattle.controller_model.specs.link_model.Packets.{good_pdu}
use Rattle.controller_model.specs.link_model.Verdicts.{pdu_of}
use Rattle.controller_model.specs.link_model.Events.{applied_notes}
use Rattle.controller_model.specs.link_model.Controls.{goes_on, is_procedure_pdu, pdu_fixed}
use Rattle.controller_model.specs.link_model.Entering.{began_notes, done_notes, event_notes, facts_entered}
use Rattle.controller_model.specs.link_model.Receiving.{accepts, acked_kind, acks_control, facts_before_taking, given_if, given_notes, has_acknowledged, kept_given_if, received_notes, refused_notes, taken_notes, took_notes_if}
use Rattle.controller_model.specs.link_model.Sending.{sent_notes_if}
use Rattle.scan_init.specs.Reports.{scan_answer}
use Rattle.controller_model.specs.open_links.declared.ended.LinkEnded.{LinkEnded}
use Rattle.controller_model.specs.open_links.Data.{completed_from}
use Rattle.controller_model.specs.open_links.OpenLinks.{Links, OpenLink, facts_in, free_from, handles_from, link_at}
use Rattle.controller_model.specs.open_links.Turns.{due_in, ending_in, enters_in, entry_in, notes_entering, notes_if}
use Rattle.controller_model.specs.declared.doing.Doing.{Doing}
use Rattle.controller_model.specs.declared.doing.Doing.TheVariants.{Advertises, AwaitsRequest, Connects, CentralSends, PeripheralSends}
use Rattle.controller_model.specs.Step.{Step, HostOctet, TurnBegins, PacketHeard, NothingHeard, TurnEnds}
use Rattle.controller_model.specs.Facts.{Setup, Facts}
use Rattle.controller_model.specs.Answers.{answer_to}
use Rattle.controller_model.specs.Commands.{events_caused, notes_before, notes_commanded, notes_known}
use Rattle.controller_model.specs.link_commands.LinksCommanded.{events_commanded_on}
use Rattle.controller_model.specs.open_links.declared.offers.Offer.{Offer}
use Rattle.controller_model.specs.open_links.declared.offers.Offer.TheVariants.{NoLink, Empty, Overflow, Kept}
use Rattle.controller_model.specs.Data.{event_completed, facts_handed, note_received, notes_ended_turn, notes_handed, notes_offered, offer_of, notes_pieces, pieces_handed}
use Rattle.controller_model.specs.Entering.{events_entering, notes_all_entering}
use Rattle.controller_model.specs.Events.{notes_of_events, passes}
use Rattle.controller_model.specs.Heard.{advertiser_answers, advertiser_heard, events_received, events_reported, has_room, heard, if_pdu, is_new_between, link_heard, link_hearing, link_taken, notes_taken, opens, scanner_heard, taken_if, taken_under, unheard, facts_with_words}
use Rattle.controller_model.specs.Links.{ends_for, events_opened, facts_ending, note_shut, notes_ended, notes_ending, notes_leaving, notes_opened}
use Rattle.controller_model.specs.Outcome.{Outcome, notes_passed}
use Rattle.controller_model.specs.Packets.{notes_doing, notes_sent, pdu_heard}
use Rattle.controller_model.specs.Radio.{outcome_begun}
use Rattle.controller_model.specs.Side.{notes_after, notes_fed, result_of}
use Rattle.controller_model.proofs.Asked.{noted_asking, notes_at_once}
use Rattle.controller_model.proofs.Handles.{HaveOwnHandles, IsNew, free_is_new}
use Rattle.controller_model.proofs.Phases.{EachOutcome, heard_is, unheard_is}
use Rattle.run_model.specs.OnAir.{ends_phase}
use Rattle.run_model.proofs.Calls.{same_station}

-- a note that a link is opened under this handle
abbrev pub opens_under : ℕ → Note → Bool
opens_under handle (Opened other role own peer) = handle == other
opens_under handle other = false

-- and whether there is one among these
abbrev pub is_opened : ℕ → List Note → Bool
is_opened handle notes = list_any (opens_under handle) notes

or_false : (one other : Bool) → other ≡ false → (one || other) ≡ true → one ≡ true
or_false true other none is = refl
or_false false other none is = absurd (let h : true ≡ false = sym is ∙ none in absurd cc)

module _ (handle : ℕ) where
  pub neither : (xs ys : List Note) → is_opened handle xs ≡ false → is_opened handle ys ≡ false → is_opened handle (xs ++ ys) ≡ false
  neither xs ys one other = list_any-append (opens_under handle) xs ys ∙ ap (λ b. b || is_opened handle ys) one ∙ other

  packets_open : (events : List Event) → is_opened handle (map (λ event. Up (record { items = written event })) events) ≡ false
  packets_open [] = refl
  packets_open (event ∷ events) = packets_open events

  pub events_open : (view : View) (events : List Event) → is_opened handle (notes_of_events view events) ≡ false
  events_open view events = packets_open (filter (λ event. passes view (mask_bit_of event)) events)

  -- ---- an octet of the host

  shut_open : (handles : List ℕ) → is_opened handle (map (λ one. note_shut one 0) handles) ≡ false
  shut_open [] = refl
  shut_open (one ∷ handles) = shut_open handles

  before_open : (facts : Facts) (command : Command) → is_opened handle (notes_before facts command) ≡ false
  before_open facts Reset = shut_open (handles_from 0 facts.links)
  before_open facts other = refl

  known_open : (accepted : Bool) (setup : Setup) (facts : Facts) (opcode : ℕ) (command : Command)
      → is_opened handle (notes_known accepted setup facts opcode command) ≡ false
  known_open false setup facts opcode command = events_open facts.view (answer_to setup facts opcode (Known command))
  known_open true setup facts opcode command =
      let answer = notes_of_events facts.view (answer_to setup facts opcode (Known command)) in
      neither (notes_before facts command ++ answer) (notes_of_events facts.view (events_caused facts command))
      (neither (notes_before facts command) answer (before_open facts command) (events_open facts.view (answer_to setup facts opcode (Known command))))
      (events_open facts.view (events_caused facts command))

  read_open : (setup : Setup) (facts : Facts) (opcode : ℕ) (read : CmdRead) → is_opened handle (notes_commanded setup facts opcode read) ≡ false
  read_open setup facts opcode (Known command) =
      noted_asking setup facts command opcode (λ (notes : List Note). is_opened handle notes ≡ false)
      (known_open (status_of facts.view command == 0) setup facts opcode command)
      (λ notes asks none. neither notes (notes_at_once facts command) none (events_open facts.view (events_commanded_on command facts.links)))
  read_open setup facts opcode UnknownOpcode = events_open facts.view (answer_to setup facts opcode UnknownOpcode)
  read_open setup facts opcode BadLength = events_open facts.view (answer_to setup facts opcode BadLength)

  offered_open : (view : View) (offer : Offer) (other : ℕ) → is_opened handle (notes_offered view offer other) ≡ false
  offered_open view NoLink other = refl
  offered_open view Empty other = events_open view (CompletedPackets other 1 ∷ [])
  offered_open view Overflow other = events_open view (BufferOverflow 1 ∷ [])
  offered_open view Kept other = refl

  fed_open : (setup : Setup) (facts : Facts) (fed : Fed) → is_opened handle (notes_fed setup facts fed) ≡ false
  fed_open setup facts (Packet (HostCommand opcode body)) = read_open setup facts opcode (command_of opcode body.items)
  fed_open setup facts (Packet (Acl number start count body)) = offered_open facts.view (offer_of setup facts number count) number
  fed_open setup facts LostSync = events_open facts.view (HardwareError 0x01 ∷ [])
  fed_open setup facts More = refl

  -- ---- data

  sent_if_open : (noted : Bool) (other number : ℕ) (pdu : Pdu) → is_opened handle (sent_notes_if noted other number pdu) ≡ false
  sent_if_open true other number pdu = refl
  sent_if_open false other number pdu = refl

  sent_open : (slot : ℕ) (found : Option OpenLink) → is_opened handle (notes_sent slot found) ≡ false
  sent_open slot None = refl
  sent_open slot (Some link) =
      let facts = facts_in link in
      sent_if_open (is_acked facts.acknowledgement && not (is_empty (pdu_fixed facts))) link.setup.link.handle
      (numbered facts.acknowledgement.sent) (pdu_fixed facts)

  pub doing_open : (doing : Doing) (facts : Facts) → is_opened handle (notes_doing doing facts) ≡ false
  doing_open (CentralSends other) facts = sent_open facts.turn.slot (link_at other facts.links)
  doing_open (PeripheralSends other) facts = sent_open facts.turn.slot (link_at other facts.links)
  doing_open (Advertises channel) facts = refl
  doing_open other facts = refl

  took_if_open : (noted : Bool) (other : ℕ) (pdu : Pdu) (facts : EndFacts) → is_opened handle (took_notes_if noted other pdu facts) ≡ false
  took_if_open true other pdu facts = refl
  took_if_open false other pdu facts = refl

  done_open : (other : ℕ) (kind : Option Kind) → is_opened handle (done_notes other kind) ≡ false
  done_open other None = refl
  done_open other (Some kind) = refl

  refused_open : (other : ℕ) (refused : Option (Kind × ErrCode)) → is_opened handle (refused_notes other refused) ≡ false
  refused_open other None = refl
  refused_open other (Some (kind, code)) = refl

  given_open : (other : ℕ) (given : Taken) → is_opened handle (given_notes other given) ≡ false
  given_open other given =
      neither (refused_notes other given.refused) (done_notes other given.done) (refused_open other given.refused) (done_open other given.done)

  pdu_open : (other slot : ℕ) (accepted : Bool) (pdu : Pdu) (facts : EndFacts) → is_opened handle (taken_notes other accepted pdu slot facts) ≡ false
  pdu_open other slot accepted pdu facts =
      let given = given_if (accepted && is_procedure_pdu pdu) pdu slot facts in
      let kept = kept_given_if (accepted && is_procedure_pdu pdu) pdu slot facts in
      neither (took_notes_if (accepted && not (is_empty pdu)) other pdu facts) (given_notes other given ++ given_notes other kept)
      (took_if_open (accepted && not (is_empty pdu)) other pdu facts)
      (neither (given_notes other given) (given_notes other kept) (given_open other given) (given_open other kept))

  received_open : (setup : EndSetup) (slot : ℕ) (room : Bool) (found : Option (List ℕ)) (facts : EndFacts)
      → is_opened handle (received_notes setup slot room found facts) ≡ false
  received_open setup slot room None facts = refl
  received_open setup slot room (Some pdu) facts =
      let header = header_in pdu in
      let now = facts_before_taking setup.link.role slot header facts in
      let accepted = accepts room header (pdu_of pdu) now in
      let done = acked_kind (acks_control (has_acknowledged facts header) facts) facts in
      neither (done_notes setup.link.handle done) (taken_notes setup.link.handle accepted (pdu_of pdu) slot now)
      (done_open setup.link.handle done) (pdu_open setup.link.handle slot accepted (pdu_of pdu) now)

  taken_open : (slot : ℕ) (room : Bool) (found : Option OpenLink) (octets : List ℕ) → is_opened handle (notes_taken slot room found octets) ≡ false
  taken_open slot room None octets = refl
  taken_open slot room (Some link) octets =
      received_open link.setup slot room (good_pdu link.setup (facts_in link) octets) (facts_in link)

  -- a link that receives, with the events for its host
  pub hearing_open : (room : Bool) (other : ℕ) (octets : List ℕ) (facts : Facts) → is_opened handle (link_hearing other room octets facts).notes ≡ false
  hearing_open room other octets facts =
      let slot = facts.turn.slot in
      let found = link_at other facts.links in
      let events = events_received (was_encrypted other facts.view.links) other slot room found octets in
      neither (notes_taken slot room found octets) (notes_of_events facts.view events) (taken_open slot room found octets) (events_open facts.view events)

  pieces_open : (pieces : List (ℕ × Piece)) → is_opened handle (map note_received pieces) ≡ false
  pieces_open [] = refl
  pieces_open (piece ∷ pieces) = pieces_open pieces

  -- ---- links that end

  ended_open : (view : View) (ended : List LinkEnded) → is_opened handle (flat_map (notes_ended view) ended) ≡ false
  ended_open view [] = refl
  ended_open view (one ∷ ended) =
      neither (notes_ended view one) (flat_map (notes_ended view) ended)
      (events_open view (DisconnectionComplete 0 one.handle one.reason.0 ∷ [])) (ended_open view ended)

  ended_turn_open : (facts : Facts) → is_opened handle (notes_ended_turn facts) ≡ false
  ended_turn_open facts =
      let events = map event_completed (completed_from 0 facts.links) in
      neither (notes_handed facts) (notes_leaving (facts_handed facts))
      (neither (notes_pieces facts) (notes_of_events facts.view events) (pieces_open (pieces_handed facts)) (events_open facts.view events))
      (ended_open (facts_handed facts).view (ends_for ending_in (facts_handed facts)))

  -- ---- a turn begins

  applied_open : (other event : ℕ) (number : Option ℕ) → is_opened handle (applied_notes other event number) ≡ false
  applied_open other event None = refl
  applied_open other event (Some number) = refl

  began_open : (other : ℕ) (kind : Option Kind) → is_opened handle (began_notes other kind) ≡ false
  began_open other None = refl
  began_open other (Some kind) = refl

  event_open : (other : ℕ) (event : ConnectionEvent) (entry : Entry) → is_opened handle (event_notes other event entry) ≡ false
  event_open other event entry =
      let applied = applied_notes other event.number entry.applied in
      let entered = Enter other (record { 0 = event.number }) event.channel ∷ [] in
      let done = done_notes other entry.done in
      neither (applied ++ entered ++ done) (began_notes other entry.began)
      (neither (applied ++ entered) done (neither applied entered (applied_open other event.number entry.applied) refl) (done_open other entry.done))
      (began_open other entry.began)

  going_open : (goes : Bool) (other : ℕ) (event : ConnectionEvent) (entry : Entry)
      → is_opened handle (if goes then event_notes other event entry else []) ≡ false
  going_open true other event entry = event_open other event entry
  going_open false other event entry = refl

  entry_open : (enters : Bool) (slot : ℕ) (link : OpenLink) → is_opened handle (notes_if enters slot link) ≡ false
  entry_open false slot link = refl
  entry_open true slot link =
      going_open (goes_on (facts_in link)) link.setup.link.handle (facts_entered link.setup slot (facts_in link)).event (entry_in slot link)

  entering_open : (slot : ℕ) (place : Option OpenLink) → is_opened handle (notes_entering slot place) ≡ false
  entering_open slot None = refl
  entering_open slot (Some link) = entry_open (enters_in slot link) slot link

  all_open : (view : View) (slot first : ℕ) (links : Links) → is_opened handle (notes_all_entering view slot first links) ≡ false
  all_open view slot first [] = refl
  all_open view slot first (place ∷ links) =
      let events = events_entering slot first place in
      neither (notes_entering slot place ++ notes_of_events view events) (notes_all_entering view slot (first + 1) links)
      (neither (notes_entering slot place) (notes_of_events view events) (entering_open slot place) (events_open view events))
      (all_open view slot (first + 1) links)

  begun_open : (slot : ℕ) (on : Bool) (setup : Setup) (facts : Facts) → is_opened handle (notes_after setup facts (TurnBegins slot on)) ≡ false
  begun_open slot on setup facts =
      let outcome = outcome_begun slot on facts in
      let ended = facts_ending slot facts in
      let entering = notes_all_entering ended.view slot 0 ended.links in
      neither (notes_ending slot facts ++ entering) (notes_doing outcome.next outcome.facts)
      (neither (notes_ending slot facts) entering (ended_open facts.view (ends_for (due_in slot) facts)) (all_open ended.view slot 0 ended.links))
      (doing_open outcome.next outcome.facts)

  -- a step that ends no phase opens none
  pub outside_open : (setup : Setup) (facts : Facts) (step : Step) → ends_phase step ≡ false → is_opened handle (notes_after setup facts step) ≡ false
  outside_open setup facts (HostOctet octet) none = fed_open setup facts (result_of facts.octets octet)
  outside_open setup facts (TurnBegins slot on) none = begun_open slot on setup facts
  outside_open setup facts (PacketHeard octets) none = absurd cc
  outside_open setup facts NothingHeard none = absurd cc
  outside_open setup facts TurnEnds none = ended_turn_open facts

  -- ---- a phase

  abbrev WasFree : Facts → Outcome → Type 0
  WasFree facts outcome = is_opened handle (notes_passed outcome) ≡ true → link_at handle facts.links ≡ None

  not_noted : (facts : Facts) (notes : List Note) → is_opened handle notes ≡ false → is_opened handle notes ≡ true → link_at handle facts.links ≡ None
  not_noted facts notes none is = absurd (let h : true ≡ false = sym is ∙ none in absurd cc)

  passed_free : (facts : Facts) (outcome : Outcome) → is_opened handle outcome.notes ≡ false → WasFree facts outcome
  passed_free facts outcome none =
      not_noted facts (notes_passed outcome)
      (neither outcome.notes (notes_doing outcome.next outcome.facts) none (doing_open outcome.next outcome.facts))

  opened_free : (facts : Facts) (link : LinkSetup) → link_at link.handle facts.links ≡ None → WasFree facts (opens link facts)
  opened_free facts link free = λ is.
      let noted = notes_of_events facts.view (events_opened facts.view link) in
      let same = or_false (handle == link.handle) (is_opened handle (noted ++ []))
      (neither noted [] (events_open facts.view (events_opened facts.view link)) refl) is in
      subst (λ n. link_at n facts.links ≡ None) (sym (eqb-true handle link.handle same)) free

  phase_free : (setup : Setup) (facts : Facts) → HaveOwnHandles setup facts → EachOutcome setup facts (WasFree facts)
  phase_free setup facts own = let nothing = not_noted facts [] refl in record {
    rests = nothing;
    awaits_request = λ channel doing. nothing;
    awaits_response = λ channel advertiser doing. nothing;
    central_listens = λ other doing. nothing;
    sent = λ channel link doing. let new = subst (IsNew facts.links) doing own.new in opened_free facts link new.1;
    responds = λ channel on doing is_on. nothing;
    taken = λ channel octets pdu on fields other is_on hears takes free.
        opened_free facts (link_taken facts.view on.params.own pdu fields other) (free_is_new facts.links other free).1;
    scanned = λ channel octets pdu on doing is_on hears.
        passed_free facts (scanner_heard (Some on) true channel pdu facts)
        (events_open facts.view (events_reported (scan_answer on.params facts.view.accepted on.recent pdu) pdu));
    answered = λ channel octets pdu on doing is_on hears.
        passed_free facts (scanner_heard (Some on) false channel pdu facts)
        (events_open facts.view (events_reported (scan_answer on.params facts.view.accepted on.recent pdu) pdu));
    connects = λ channel octets pdu on access other doing is_on hears answers next free in_range. nothing;
    received = λ other octets.
        passed_free facts (link_heard setup other octets facts) (hearing_open (has_room setup facts) other octets facts);
  }

  pub opened_was_free : (setup : Setup) (facts : Facts) (step : Step) → HaveOwnHandles setup facts → is_opened handle (notes_after setup facts step) ≡ true
      → link_at handle facts.links ≡ None
  opened_was_free setup facts (HostOctet octet) own is =
      not_noted facts (notes_after setup facts (HostOctet octet)) (outside_open setup facts (HostOctet octet) refl) is
  opened_was_free setup facts (TurnBegins slot on) own is =
      not_noted facts (notes_after setup facts (TurnBegins slot on)) (outside_open setup facts (TurnBegins slot on) refl) is
  opened_was_free setup facts (PacketHeard octets) own is =
      heard_is setup facts (WasFree facts) (phase_free setup facts own) facts.turn.doing octets refl
      (λ other. let worded = facts_with_words setup other facts in
      passed_free facts (link_heard setup other octets worded) (hearing_open (has_room setup facts) other octets worded))
      is
  opened_was_free setup facts NothingHeard own is = unheard_is setup facts (WasFree facts) (phase_free setup facts own) facts.turn.doing refl is
  opened_was_free setup facts TurnEnds own is =
      not_noted facts (notes_after setup facts TurnEnds) (outside_open setup facts TurnEnds refl) is

-- ---- a link that is opened is noted

opened_is : (view : View) (link : LinkSetup) → is_opened link.handle (notes_opened view link ++ []) ≡ true
opened_is view link = ap (λ b. b || is_opened link.handle (notes_of_events view (events_opened view link) ++ [])) (same_station link.handle)

pub made_is_noted : (setup : Setup) (facts : Facts) (step : Step) (channel : ℕ) (link : LinkSetup) → ends_phase step ≡ true
    → facts.turn.doing ≡ Connects channel link → is_opened link.handle (notes_after setup facts step) ≡ true
made_is_noted setup facts (PacketHeard octets) channel link ends doing =
    ap (λ (d : Doing). is_opened link.handle (notes_passed (heard setup d octets facts))) doing ∙ opened_is facts.view link
made_is_noted setup facts NothingHeard channel link ends doing =
    ap (λ (d : Doing). is_opened link.handle (notes_passed (unheard d facts))) doing ∙ opened_is facts.view link
made_is_noted setup facts (HostOctet octet) channel link ends doing = absurd cc
made_is_noted setup facts (TurnBegins slot on) channel link ends doing = absurd cc
made_is_noted setup facts TurnEnds channel link ends doing = absurd cc

pub taken_is_noted : (setup : Setup) (facts : Facts) (channel : ℕ) (octets : List ℕ) (on : AdvertiserFacts) (pdu : AdvPdu) (fields : ConnectFields) (handle : ℕ)
    → facts.turn.doing ≡ AwaitsRequest channel → pdu_heard channel octets ≡ Some pdu → facts.advertising.on ≡ Some on
    → advertiser_answer on.params facts.view.accepted pdu ≡ Takes fields → is_new_between on.params.own (sender_of pdu) facts.links ≡ true
    → free_from 0 facts.links ≡ Some handle → is_opened handle (notes_after setup facts (PacketHeard octets)) ≡ true
taken_is_noted setup facts channel octets on pdu fields handle doing found is_on takes new free =
    let own = on.params.own in
    let noted = λ (outcome : Outcome). is_opened handle (notes_passed outcome) in
    ap (λ (d : Doing). noted (heard setup d octets facts)) doing
    ∙ ap (λ (one : Option AdvPdu). noted (if_pdu one facts (λ heard_pdu. advertiser_heard facts.advertising.on channel heard_pdu facts))) found
    ∙ ap (λ (one : Option AdvertiserFacts). noted (advertiser_heard one channel pdu facts)) is_on
    ∙ ap (λ (answer : AdvAnswer). noted (advertiser_answers answer channel own pdu facts)) takes
    ∙ ap (λ b. noted (taken_if b own pdu fields facts)) new
    ∙ ap (λ (one : Option ℕ). noted (taken_under one own pdu fields facts)) free
    ∙ opened_is facts.view (link_taken facts.view own pdu fields handle)
