-- The events that links enter are noted as a turn begins, and at no other time.
use Rattle.std.proofs.Common.{◌≡◌, ℕ, ◌+◌, ◌==◌, Bool, true, false, Option, Some, None, List, [], ◌∷◌, ◌++◌, map, refl, sym, ap, ◌∙◌, subst, arith}
use Rattle.std.specs.Prelude.{◌↔◌, ◌&&◌, All, ⊤, if◌then◌else◌, is_none}
use Rattle.std.specs.List.{AllByRecursion, Contains}
use Rattle.std.proofs.lemmas.Bool.{eq-eqb, eqb-true}
use Rattle.std.proofs.lemmas.List.Elements.{All-append, All-cons, All-contains, All-nil, Contains-append_left, Contains-append_right, Contains-push}
use Rattle.ble_base.specs.declared.error_codes.ErrCode.{ErrCode}
use Rattle.ble_base.specs.declared.notes.Note.{Note}
use Rattle.ble_base.specs.declared.notes.Note.TheVariants.{Enter}
use Rattle.h4_frames.specs.declared.packet.HostPacket.TheVariants.{Command as HostCommand, Acl}
use Rattle.h4_frames.specs.declared.packet.Fed.{Fed}
use Rattle.h4_frames.specs.declared.packet.Fed.TheVariants.{More, Packet, LostSync}
use Rattle.hci_cmd.specs.declared.command.Command.{Command}
use Rattle.hci_cmd.specs.declared.command.Command.TheVariants.{Reset}
use Rattle.hci_cmd.specs.declared.command.CmdRead.{CmdRead}
use Rattle.hci_cmd.specs.declared.command.CmdRead.TheVariants.{Known, UnknownOpcode, BadLength}
use Rattle.hci_cmd.specs.Command.{command_of}
use Rattle.hci_evt.specs.declared.event.Event.TheVariants.{HardwareError}
use Rattle.host_view.specs.Status.{status_of}
use Rattle.host_view.specs.View.{View}
use Rattle.link_commands.specs.open_links.link_model.Step.{EventEntered}
use Rattle.link_commands.specs.open_links.link_model.Facts.{Facts as EndFacts}
use Rattle.link_commands.specs.open_links.link_model.control_end.Answers.{entry_of as entry_of_end}
use Rattle.link_commands.specs.open_links.link_model.control_end.Held.{held_of}
use Rattle.link_commands.specs.open_links.link_model.control_model.Control.{Control, Owes}
use Rattle.link_commands.proofs.open_links.link_model.control_model.Moving.{enters_track, table_alone}
use Rattle.link_commands.proofs.open_links.link_model.Views.{Owing, Owed, Same, entered_view}
use Rattle.instants.specs.Track.{TrackFacts, event_of, track_after_enter}
use Rattle.link_commands.specs.open_links.link_model.Events.{applied_notes}
use Rattle.link_commands.proofs.open_links.link_model.Pasts.{grows}
use Rattle.link_commands.specs.open_links.link_model.Controls.{goes_on, is_quiet_now}
use Rattle.link_commands.specs.open_links.link_model.End.{notes_after as end_notes}
use Rattle.link_commands.specs.open_links.link_model.Entering.{began_notes, control_entered, done_notes, event_notes, facts_entered, facts_entered_if}
use Rattle.link_commands.specs.open_links.declared.ended.LinkEnded.{LinkEnded}
use Rattle.link_commands.specs.open_links.OpenLinks.{Links, OpenLink, HasHandle, HaveHandles, facts_in, handles_from, link_at, link_from}
use Rattle.link_commands.specs.open_links.Turns.{due_in, ending_in, entered_if, enters_in, is_anchor, link_entered, links_without, notes_entering, notes_if, place_without, staying_by}
use Rattle.link_commands.proofs.open_links.Anchors.{one_more_entered}
use Rattle.link_commands.proofs.open_links.Ends.{stays_where_not_due}
use Rattle.link_commands.proofs.open_links.Handles.{has_its_handle}
use Rattle.controller_model.specs.Heard.{facts_with_words}
use Rattle.controller_model.specs.Step.{Step, HostOctet, TurnBegins, PacketHeard, NothingHeard, TurnEnds}
use Rattle.controller_model.specs.Facts.{Setup, Facts}
use Rattle.controller_model.specs.Answers.{answer_to}
use Rattle.link_commands.specs.LinksCommanded.{events_commanded_on}
use Rattle.controller_model.specs.Commands.{events_caused, notes_before, notes_commanded, notes_known}
use Rattle.controller_model.specs.Entering.{IsEntered, begins_turn, events_entering, notes_all_entering}
use Rattle.controller_model.specs.Data.{facts_handed, notes_ended_turn, offer_of}
use Rattle.controller_model.specs.Events.{notes_of_events}
use Rattle.controller_model.specs.Links.{ends_for, facts_ending, note_shut, notes_ending}
use Rattle.controller_model.specs.Outcome.{notes_passed}
use Rattle.controller_model.specs.Radio.{outcome_begun}
use Rattle.controller_model.specs.Side.{facts_of, notes_after, notes_fed, result_of}
use Rattle.controller_model.proofs.Always.{ending_is, facts_ended}
use Rattle.controller_model.proofs.EndNotes.{entered_each}
use Rattle.controller_model.proofs.Handles.{own_handles}
use Rattle.controller_model.proofs.LinkNotes.{IsOfOthers, all_in, doing_too, ended_turn_too, ends_too, entering_too, events_too, offered_too, phase_too}
use Rattle.controller_model.proofs.Phases.{heard_is, unheard_is}
use Rattle.controller_model.proofs.Asked.{noted_asking, notes_at_once}

-- ---- a link that enters an event

-- what it holds then
abbrev next_in : ℕ → OpenLink → EndFacts
next_in slot link = facts_entered link.setup slot (facts_in link)

pub none_of : (ends : Option ErrCode) → is_none ends ≡ true → ends ≡ None
none_of None is = refl
none_of (Some code) is = absurd cc

-- a PDU of the encryption may be queued
pub owing_track : (c d : Control) → Owing c d → d.track ≡ c.track
owing_track c d (Same is) = ap (λ (x : Control). x.track) is
owing_track c d (Owed ctrl may is) = ap (λ (x : Control). x.track) is ∙ table_alone c (Owes ctrl) refl

-- the event that an end enters is the next one on its track
pub entered_track : (slot : ℕ) (facts : EndFacts) → goes_on facts ≡ true → (control_entered slot facts).track ≡ track_after_enter facts.control.track
entered_track slot facts goes =
    owing_track _ _ (entered_view slot facts) ∙ enters_track facts.control slot (is_quiet_now facts) (none_of facts.control.ends goes)

number_is : (slot : ℕ) (link : OpenLink) → goes_on (facts_in link) ≡ true
    → (next_in slot link).event.number ≡ (facts_in link).control.track.entered
number_is slot link goes =
    let facts = facts_in link in
    let more = one_more_entered facts.control.track in
    ap (λ (t : TrackFacts). event_of t) (entered_track slot facts goes) ∙ omega (arith, more)

-- the tests of a link that enters
both_are : (goes anchor : Bool) → (goes && anchor) ≡ true → (goes ≡ true) × (anchor ≡ true)
both_are true true is = (refl, refl)
both_are true false is = absurd cc
both_are false anchor is = absurd cc

channel_is : (slot : ℕ) (link : OpenLink) → enters_in slot link ≡ true
    → (next_in slot link).event.channel ≡ (facts_in (link_entered slot link)).event.channel
channel_is slot link enters =
    let goes = (both_are (goes_on (facts_in link)) (is_anchor slot link) enters).0 in
    sym (ap (λ (test : Bool). (facts_in (entered_if test slot link)).event.channel) enters
    ∙ ap (λ (facts : EndFacts). facts.event.channel) (grows link.setup link.past (EventEntered slot))
    ∙ ap (λ (test : Bool). (facts_entered_if test link.setup slot (facts_in link)).event.channel) goes)

-- ---- each note of an event is of such a link

abbrev IsEntry : ℕ → Links → Note → Type 0
IsEntry slot links (Enter handle event channel) = IsEntered slot links handle event.0 channel
IsEntry slot links other = ⊤

entry_is : (slot : ℕ) (whole : Links) (handle : ℕ) (link : OpenLink) → link.setup.link.handle ≡ handle → link_at handle whole ≡ Some link
    → due_in slot link ≡ None → enters_in slot link ≡ true → AllByRecursion (IsEntry slot whole) (end_notes link.setup (facts_in link) (EventEntered slot))
entry_is slot whole handle link has is_open stays enters =
    let tests = both_are (goes_on (facts_in link)) (is_anchor slot link) enters in
    entered_each (IsEntry slot whole) link.setup slot (facts_in link) (record {
      applied = λ number. tt;
      enter = record {
        link = link;
        is_open = subst (λ (n : ℕ). link_at n whole ≡ Some link) (sym has) is_open;
        stays = stays;
        is_on = tests.0;
        at_anchor = eqb-true _ _ tests.1;
        is_next = number_is slot link tests.0;
        on_its_channel = channel_is slot link enters;
      };
      done = λ kind. tt;
      began = λ kind. tt;
    })

-- ---- a fact that says nothing of packets, links that are opened and links that are shut

module _ (P : Note → Type 0) (of : IsOfOthers P) (shut : (handle reason : ℕ) → P (note_shut handle reason)) where
  ended_too : (ended : List LinkEnded) → AllByRecursion (λ one. P (note_shut one.handle one.reason.0)) ended
  ended_too [] = tt
  ended_too (one ∷ ended) = (shut one.handle one.reason.0, ended_too ended)

  handles_too : (handles : List ℕ) → All P (map (λ handle. note_shut handle 0) handles)
  handles_too [] = All-nil P
  handles_too (handle ∷ handles) = All-cons P _ _ (shut handle 0) (handles_too handles)

  before_too : (facts : Facts) (command : Command) → All P (notes_before facts command)
  before_too facts Reset = handles_too (handles_from 0 facts.links)
  before_too facts other = All-nil P

  known_too : (accepted : Bool) (setup : Setup) (facts : Facts) (opcode : ℕ) (command : Command)
      → All P (notes_known accepted setup facts opcode command)
  known_too false setup facts opcode command = events_too P of facts.view (answer_to setup facts opcode (Known command))
  known_too true setup facts opcode command =
      let answer = notes_of_events facts.view (answer_to setup facts opcode (Known command)) in
      All-append P (notes_before facts command ++ answer) _
      (All-append P (notes_before facts command) answer (before_too facts command)
      (events_too P of facts.view (answer_to setup facts opcode (Known command))))
      (events_too P of facts.view (events_caused facts command))

  read_too : (setup : Setup) (facts : Facts) (opcode : ℕ) (read : CmdRead) → All P (notes_commanded setup facts opcode read)
  read_too setup facts opcode (Known command) =
      noted_asking setup facts command opcode (All P) (known_too (status_of facts.view command == 0) setup facts opcode command)
      (λ notes asks are. All-append P notes (notes_at_once facts command) are (events_too P of facts.view (events_commanded_on command facts.links)))
  read_too setup facts opcode UnknownOpcode = events_too P of facts.view (answer_to setup facts opcode UnknownOpcode)
  read_too setup facts opcode BadLength = events_too P of facts.view (answer_to setup facts opcode BadLength)

  pub fed_too : (setup : Setup) (facts : Facts) (fed : Fed) → All P (notes_fed setup facts fed)
  fed_too setup facts (Packet (HostCommand opcode body)) = read_too setup facts opcode (command_of opcode body.items)
  fed_too setup facts (Packet (Acl handle start count body)) = offered_too P of facts.view (offer_of setup facts handle count) handle
  fed_too setup facts LostSync = events_too P of facts.view (HardwareError 0x01 ∷ [])
  fed_too setup facts More = All-nil P

  pub turn_ended_too : (facts : Facts) → All P (notes_ended_turn facts)
  turn_ended_too facts = ended_turn_too P of facts (ended_too (ends_for ending_in (facts_handed facts)))

  pub ending_too : (slot : ℕ) (facts : Facts) → All P (notes_ending slot facts)
  ending_too slot facts = ends_too P of facts.view (ends_for (due_in slot) facts) (ended_too (ends_for (due_in slot) facts))

-- ---- all steps

-- the first part of what is noted as a turn begins, and the second
others_pass : (slot : ℕ) (links : Links) → IsOfOthers (IsEntry slot links)
others_pass slot links = record { up = λ octets. tt; opened = λ link. tt; sent = λ handle number llid octets. tt; took = λ handle number llid octets. tt }

begun_is : (slot : ℕ) (on : Bool) (setup : Setup) (facts : Facts) → HaveHandles 0 facts.links
    → All (IsEntry slot facts.links) (notes_after setup facts (TurnBegins slot on))
begun_is slot on setup facts have =
    let P = IsEntry slot facts.links in
    let ends = notes_ending slot facts in
    let enters = notes_all_entering (facts_ending slot facts).view slot 0 (facts_ending slot facts).links in
    All-append P (ends ++ enters) _
    (All-append P ends enters
    (ending_too P (others_pass slot facts.links) (λ handle reason. tt) slot facts)
    (subst (λ (next : Facts). All P (notes_all_entering next.view slot 0 next.links)) (sym (ending_is slot facts))
    (entering_too P (λ event is. tt) slot facts.links (entry_is slot facts.links) (facts_ended (due_in slot) facts).view 0 facts.links have
    (all_in facts.links))))
    (doing_too P (others_pass slot facts.links) (outcome_begun slot on facts).next (outcome_begun slot on facts).facts)

-- a note of an event is noted only as a turn begins
abbrev IsNoEntryUnless : Bool → Note → Type 0
IsNoEntryUnless begins (Enter handle event channel) = begins ≡ true
IsNoEntryUnless begins other = ⊤

others_let : (begins : Bool) → IsOfOthers (IsNoEntryUnless begins)
others_let begins = record { up = λ octets. tt; opened = λ link. tt; sent = λ handle number llid octets. tt; took = λ handle number llid octets. tt }

begun_let : (notes : List Note) → All (IsNoEntryUnless true) notes
begun_let [] = All-nil (IsNoEntryUnless true)
begun_let (note ∷ notes) = All-cons (IsNoEntryUnless true) note notes (let_one note) (begun_let notes)
  where
    let_one : (note : Note) → IsNoEntryUnless true note
    let_one (Enter handle event channel) = refl
    let_one other = tt

only_begun : (setup : Setup) (facts : Facts) (step : Step) → All (IsNoEntryUnless (begins_turn step)) (notes_after setup facts step)
only_begun setup facts (HostOctet octet) =
    fed_too (IsNoEntryUnless false) (others_let false) (λ handle reason. tt) setup facts (result_of facts.octets octet)
only_begun setup facts (TurnBegins slot on) = begun_let (notes_after setup facts (TurnBegins slot on))
only_begun setup facts (PacketHeard octets) =
    let P = IsNoEntryUnless false in
    heard_is setup facts (λ outcome. ⊤ → All P (notes_passed outcome))
    (phase_too P (others_let false) (λ handle kind code. tt) (λ handle kind. tt) setup facts) facts.turn.doing octets refl
    (λ handle. (phase_too P (others_let false) (λ handle kind code. tt) (λ handle kind. tt) setup (facts_with_words setup handle facts)).received handle octets) tt
only_begun setup facts NothingHeard =
    let P = IsNoEntryUnless false in
    unheard_is setup facts (λ outcome. ⊤ → All P (notes_passed outcome))
    (phase_too P (others_let false) (λ handle kind code. tt) (λ handle kind. tt) setup facts) facts.turn.doing refl tt
only_begun setup facts TurnEnds = turn_ended_too (IsNoEntryUnless false) (others_let false) (λ handle reason. tt) facts

pub enters_as_turns_begin : (setup : Setup) (past : List Step) (step : Step) (handle event channel : ℕ)
    → Contains (notes_after setup (facts_of setup past) step) (Enter handle (record { 0 = event }) channel) → begins_turn step ≡ true
enters_as_turns_begin setup past step handle event channel noted =
    let facts = facts_of setup past in
    All-contains (IsNoEntryUnless (begins_turn step)) (notes_after setup facts step) _ (only_begun setup facts step) noted

-- ---- each such link is noted

note_of_entry : (slot : ℕ) (link : OpenLink) → enters_in slot link ≡ true
    → Contains (notes_if (enters_in slot link) slot link)
    (Enter link.setup.link.handle (record { 0 = (facts_in link).control.track.entered }) (facts_in (link_entered slot link)).event.channel)
note_of_entry slot link enters =
    let facts = facts_in link in
    let handle = link.setup.link.handle in
    let goes = (both_are (goes_on facts) (is_anchor slot link) enters).0 in
    let event = (next_in slot link).event in
    let entry = entry_of_end slot (is_quiet_now facts) (held_of facts.control) in
    let first = applied_notes handle event.number entry.applied ++ Enter handle (record { 0 = event.number }) event.channel ∷ [] in
    let noted : Contains (event_notes handle event entry) (Enter handle (record { 0 = event.number }) event.channel) =
    Contains-append_left (first ++ done_notes handle entry.done) (began_notes handle entry.began) _
    (Contains-append_left first (done_notes handle entry.done) _ (Contains-push (applied_notes handle event.number entry.applied) _)) in
    let channel = (facts_in (link_entered slot link)).event.channel in
    let numbered = subst (λ (number : ℕ). Contains (event_notes handle event entry) (Enter handle (record { 0 = number }) channel)) (number_is slot link goes)
    (subst (λ (channel : ℕ). Contains (event_notes handle event entry) (Enter handle (record { 0 = event.number }) channel)) (channel_is slot link enters) noted) in
    subst (λ (test : Bool). Contains (notes_if test slot link) (Enter handle (record { 0 = facts.control.track.entered }) channel)) (sym enters)
    (subst (λ (notes : List Note). Contains notes (Enter handle (record { 0 = facts.control.track.entered }) channel))
    (ap (λ (test : Bool). if test then event_notes handle event entry else []) (sym goes)) numbered)

entry_of : (view : View) (slot first handle : ℕ) (links : Links) (link : OpenLink) (note : Note) → link_from first handle links ≡ Some link
    → Contains (notes_if (enters_in slot link) slot link) note → Contains (notes_all_entering view slot first links) note
entry_of view slot first handle [] link note is contains = absurd cc
entry_of view slot first handle (place ∷ links) link note is contains =
    at (first == handle) is (entry_of view slot (first + 1) handle links link note)
  where
    mine : List Note
    mine = notes_entering slot place ++ notes_of_events view (events_entering slot first place)

    at : (test : Bool) → (if test then place else link_from (first + 1) handle links) ≡ Some link
        → (link_from (first + 1) handle links ≡ Some link → Contains (notes_if (enters_in slot link) slot link) note
        → Contains (notes_all_entering view slot (first + 1) links) note)
        → Contains (notes_all_entering view slot first (place ∷ links)) note
    at true same rest =
        Contains-append_left mine (notes_all_entering view slot (first + 1) links) note
        (Contains-append_left (notes_entering slot place) (notes_of_events view (events_entering slot first place)) note
        (subst (λ (place : Option OpenLink). Contains (notes_entering slot place) note) (sym same) contains))
    at false same rest =
        Contains-append_right mine (notes_all_entering view slot (first + 1) links) note (rest same contains)

staying_at : (slot handle : ℕ) (links : Links) (link : OpenLink) → link_at handle links ≡ Some link → due_in slot link ≡ None
    → link_at handle (links_without (due_in slot) links) ≡ Some link
staying_at slot handle links link is_open stays =
    stays_where_not_due (due_in slot) 0 handle links ∙ ap (place_without (due_in slot)) is_open ∙ ap (λ (reason : Option ℕ). staying_by reason link) stays

handle_at : (handle : ℕ) (links : Links) (link : OpenLink) → HaveHandles 0 links → link_at handle links ≡ Some link
    → link.setup.link.handle ≡ handle
handle_at handle links link have is_open = subst (HasHandle handle) is_open (has_its_handle 0 handle links have)

noted_entering : (view : View) (slot handle event channel : ℕ) (links : Links) → HaveHandles 0 links → IsEntered slot links handle event channel
    → Contains (notes_all_entering view slot 0 (links_without (due_in slot) links)) (Enter handle (record { 0 = event }) channel)
noted_entering view slot handle event channel links have entered =
    let link = entered.link in
    let notes = notes_all_entering view slot 0 (links_without (due_in slot) links) in
    let enters : enters_in slot link ≡ true = rw entered.is_on (eq-eqb _ _ entered.at_anchor) in
    let noted = entry_of view slot 0 handle (links_without (due_in slot) links) link _ (staying_at slot handle links link entered.is_open entered.stays)
    (note_of_entry slot link enters) in
    let under = subst (λ (n : ℕ). Contains notes (Enter n (record { 0 = (facts_in link).control.track.entered }) (facts_in (link_entered slot link)).event.channel))
    (handle_at handle links link have entered.is_open) noted in
    let numbered = subst (λ (n : ℕ). Contains notes (Enter handle (record { 0 = n }) (facts_in (link_entered slot link)).event.channel))
    (sym entered.is_next) under in
    subst (λ (n : ℕ). Contains notes (Enter handle (record { 0 = event }) n)) (sym entered.on_its_channel) numbered

pub enters_at_anchors : (setup : Setup) (past : List Step) (slot : ℕ) (on : Bool) (handle event channel : ℕ)
    → Contains (notes_after setup (facts_of setup past) (TurnBegins slot on)) (Enter handle (record { 0 = event }) channel)
    ↔ IsEntered slot (facts_of setup past).links handle event channel
enters_at_anchors setup past slot on handle event channel =
    let facts = facts_of setup past in
    let have = (own_handles setup past).handles in (
      λ noted. All-contains (IsEntry slot facts.links) (notes_after setup facts (TurnBegins slot on)) _ (begun_is slot on setup facts have) noted,
      λ entered.
          let enters = notes_all_entering (facts_ending slot facts).view slot 0 (facts_ending slot facts).links in
          Contains-append_left (notes_ending slot facts ++ enters) _ _
          (Contains-append_right (notes_ending slot facts) enters _
          (subst (λ (next : Facts). Contains (notes_all_entering next.view slot 0 next.links) (Enter handle (record { 0 = event }) channel))
          (sym (ending_is slot facts))
          (noted_entering (facts_ended (due_in slot) facts).view slot handle event channel facts.links have entered))),
    )
