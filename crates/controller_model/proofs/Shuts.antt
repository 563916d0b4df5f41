-- The links that are shut are noted where they are overdue, and at a Reset.
use Rattle.std.proofs.Common.{◌≡◌, ℕ, zero, suc, ◌+◌, ◌==◌, Bool, true, false, Option, Some, None, List, [], ◌∷◌, ◌++◌, cond, map, refl, sym, ap, ◌∙◌, subst, arith}
use Rattle.std.specs.Prelude.{◌↔◌, All, ⊤, flat_map, if◌then◌else◌}
use Rattle.std.specs.List.{AllByRecursion, Contains}
use Rattle.std.proofs.lemmas.Bool.{eqb-true, leb-true, le-leb}
use Rattle.std.proofs.lemmas.List.Elements.{All-append, All-cons, All-contains, All-nil, Contains-append_left, Contains-append_right}
use Rattle.std.specs.Option.{option_map}
use Rattle.ble_base.specs.ErrorCodes.{connection_timeout, connection_not_established, terminated_by_local_host}
use Rattle.ble_base.specs.declared.error_codes.ErrCode.{ErrCode}
use Rattle.ble_base.specs.declared.notes.Note.{Note}
use Rattle.ble_base.specs.declared.notes.Note.TheVariants.{Shut}
use Rattle.h4_frames.specs.declared.packet.HostPacket.TheVariants.{Command as HostCommand, Acl}
use Rattle.h4_frames.specs.declared.packet.Fed.{Fed}
use Rattle.h4_frames.specs.declared.packet.Fed.TheVariants.{More, Packet, LostSync}
use Rattle.hci_cmd.specs.declared.command.Command.{Command}
use Rattle.hci_cmd.specs.declared.command.Command.TheVariants.{Reset}
use Rattle.hci_cmd.specs.declared.command.CmdRead.{CmdRead}
use Rattle.hci_cmd.specs.declared.command.CmdRead.TheVariants.{Known, UnknownOpcode, BadLength}
use Rattle.hci_cmd.specs.Command.{command_of}
use Rattle.hci_evt.specs.declared.event.Event.TheVariants.{HardwareError}
use Rattle.host_view.specs.Status.{status_of}
use Rattle.host_view.specs.View.{View}
use Rattle.link_commands.specs.open_links.link_model.control_end.Answers.{timeout_of}
use Rattle.link_commands.specs.open_links.link_model.control_end.Held.{held_of}
use Rattle.link_commands.specs.open_links.link_model.declared.events.Reception.{Reception}
use Rattle.link_commands.specs.open_links.link_model.Lost.{has_failed, has_timed_out, reason_due}
use Rattle.link_commands.specs.open_links.link_model.declared.state.Leaving.{Leaving}
use Rattle.link_commands.specs.open_links.link_model.Facts.{Facts as EndFacts, params_of}
use Rattle.link_commands.specs.open_links.link_model.Times.{ended_by_procedures, first_of, termination_due}
use Rattle.link_commands.specs.open_links.declared.ended.LinkEnded.{LinkEnded}
use Rattle.link_commands.specs.open_links.OpenLinks.{Links, OpenLink, HaveHandles, facts_in, handles_from, link_at, link_from}
use Rattle.link_commands.specs.open_links.Ended.{IsAmong, end_by}
use Rattle.link_commands.specs.open_links.Turns.{due_in, ending_in, ends_by, reason_at}
use Rattle.link_commands.proofs.open_links.Ends.{due_is_among}
use Rattle.controller_model.specs.Heard.{facts_with_words}
use Rattle.controller_model.specs.Step.{Step, HostOctet, TurnBegins, PacketHeard, NothingHeard, TurnEnds}
use Rattle.controller_model.specs.Facts.{Setup, Facts}
use Rattle.controller_model.specs.Answers.{answer_to}
use Rattle.link_commands.specs.LinksCommanded.{events_commanded_on}
use Rattle.controller_model.specs.Commands.{events_caused, notes_before, notes_commanded, notes_known}
use Rattle.controller_model.specs.Data.{facts_handed, notes_handed, offer_of}
use Rattle.controller_model.specs.Entering.{notes_all_entering}
use Rattle.controller_model.specs.Events.{notes_of_events}
use Rattle.controller_model.specs.Host.{commands_accepted_after, commands_accepted_by, commands_accepted_in}
use Rattle.controller_model.specs.Links.{ends_for, facts_ending, note_shut, notes_ended, notes_ending, notes_leaving, notes_reset}
use Rattle.controller_model.specs.Shutting.{IsHeardInTime, IsOverdue, not_established, timed_out, unanswered, not_acknowledged, IsLeaving, acknowledged, failed, ended_by_peer, IsShut, overdue, leaving, reset}
use Rattle.controller_model.specs.Outcome.{notes_passed}
use Rattle.controller_model.specs.Radio.{outcome_begun}
use Rattle.controller_model.specs.Side.{facts_of, notes_after, notes_fed, result_of}
use Rattle.controller_model.proofs.Always.{ending_is, facts_ended}
use Rattle.controller_model.proofs.EndNotes.{entered_each}
use Rattle.controller_model.proofs.Handles.{own_handles}
use Rattle.controller_model.proofs.LinkNotes.{AreIn, IsOfOthers, all_in, doing_too, ended_turn_too, ends_too, entering_too, events_too, first_in, offered_too, phase_too, rest_in}
use Rattle.controller_model.proofs.Phases.{heard_is, unheard_is}
use Rattle.controller_model.proofs.Asked.{noted_asking, notes_at_once}

-- ---- the reason for which a link ends as a turn begins

module _ (slot : ℕ) (link : OpenLink) (reason : ℕ) where
  abbrev held : EndFacts
  held = facts_in link

  abbrev timeout : Option ErrCode
  timeout = timeout_of slot (held_of held.control)

  failed_by : (has : Bool) → held.last_good ≡ None
      → has_failed link.setup.opened (params_of held).interval slot ≡ has
      → (if has then Some connection_not_established else None) ≡ Some reason → IsOverdue slot link reason
  failed_by true nothing has is =
      let code : connection_not_established ≡ reason = cc in
      not_established nothing (leb-true _ _ has) (sym code)
  failed_by false nothing has is = absurd cc

  timed_by : (timed : Bool) (good : Reception) → held.last_good ≡ Some good
      → has_timed_out good.slot (params_of held).timeout slot ≡ timed
      → (if timed then Some connection_timeout else None) ≡ Some reason → IsOverdue slot link reason
  timed_by true good last timed is =
      let code : connection_timeout ≡ reason = cc in
      timed_out good last (leb-true _ _ timed) (sym code)
  timed_by false good last timed is = absurd cc

  unheard_by : (good : Option Reception) → held.last_good ≡ good
      → reason_due link.setup.opened (params_of held) good slot ≡ Some reason → IsOverdue slot link reason
  unheard_by None nothing is = failed_by (has_failed link.setup.opened (params_of held).interval slot) nothing refl is
  unheard_by (Some good) last is = timed_by (has_timed_out good.slot (params_of held).timeout slot) good last refl is

  ended_by_host : (timed : Bool) (since : ℕ) → IsHeardInTime slot link → timeout ≡ None → held.leaving.disconnected ≡ Some since
      → has_timed_out since (params_of held).timeout slot ≡ timed
      → (if timed then Some terminated_by_local_host else None) ≡ Some reason → IsOverdue slot link reason
  ended_by_host true since heard answered ended timed is =
      let code : terminated_by_local_host ≡ reason = cc in
      not_acknowledged since heard answered ended (leb-true _ _ timed) (sym code)
  ended_by_host false since heard answered ended timed is = absurd cc

  left_by : (since : Option ℕ) → IsHeardInTime slot link → timeout ≡ None → held.leaving.disconnected ≡ since
      → termination_due since (params_of held) slot ≡ Some reason → IsOverdue slot link reason
  left_by None heard answered ended is = absurd cc
  left_by (Some since) heard answered ended is =
      ended_by_host (has_timed_out since (params_of held).timeout slot) since heard answered ended refl is

  answered_by : (code : Option ErrCode) → IsHeardInTime slot link → timeout ≡ code
      → first_of (option_map (λ (code : ErrCode). code.0) code) (termination_due held.leaving.disconnected (params_of held) slot) ≡ Some reason
      → IsOverdue slot link reason
  answered_by None heard answered is = left_by held.leaving.disconnected heard answered refl is
  answered_by (Some code) heard answered is =
      let same : code.0 ≡ reason = cc in
      unanswered code heard answered (sym same)

  heard_by : (first : Option ℕ) → reason_due link.setup.opened (params_of held) held.last_good slot ≡ first
      → first_of first (first_of (option_map (λ (code : ErrCode). code.0) timeout) (termination_due held.leaving.disconnected (params_of held) slot)) ≡ Some reason
      → IsOverdue slot link reason
  heard_by None heard is = answered_by timeout heard refl is
  heard_by (Some code) heard is = unheard_by held.last_good refl (heard ∙ is)

  overdue_is : due_in slot link ≡ Some reason → IsOverdue slot link reason
  overdue_is is = heard_by (reason_due link.setup.opened (params_of held) held.last_good slot) refl is

  -- of three reasons the first counts
  abbrev due_by : Option ℕ → Option ErrCode → Option ℕ → Option ℕ
  due_by first answered since =
      first_of first (first_of (option_map (λ (code : ErrCode). code.0) answered) (termination_due since (params_of held) slot))

  first_is : reason_due link.setup.opened (params_of held) held.last_good slot ≡ Some reason → due_in slot link ≡ Some reason
  first_is is = ap (λ (first : Option ℕ). due_by first timeout held.leaving.disconnected) is

  reason_is : IsOverdue slot link reason → due_in slot link ≡ Some reason
  reason_is (not_established nothing passed code) =
      first_is
      (ap (λ (good : Option Reception). reason_due link.setup.opened (params_of held) good slot) nothing
      ∙ ap (λ (test : Bool). if test then Some connection_not_established else None) (le-leb _ _ passed) ∙ ap Some (sym code))
  reason_is (timed_out good last passed code) =
      first_is
      (ap (λ (good : Option Reception). reason_due link.setup.opened (params_of held) good slot) last
      ∙ ap (λ (test : Bool). if test then Some connection_timeout else None) (le-leb _ _ passed) ∙ ap Some (sym code))
  reason_is (unanswered one heard answered code) =
      (λ i. due_by (heard i) (answered i) held.leaving.disconnected) ∙ ap Some (sym code)
  reason_is (not_acknowledged since heard answered ended passed code) =
      (λ i. due_by (heard i) (answered i) (ended i))
      ∙ ap (λ (test : Bool). if test then Some terminated_by_local_host else None) (le-leb _ _ passed) ∙ ap Some (sym code)

-- ---- the reason for which a link ends as a turn ends

abbrev number_of : Option ErrCode → Option ℕ
number_of code = option_map (λ (code : ErrCode). code.0) code

module _ (link : OpenLink) (reason : ℕ) where
  abbrev left : Leaving
  left = (facts_in link).leaving

  peer_by : (answered : Bool) (code : Option ErrCode) → left.acknowledged ≡ false → (facts_in link).control.ends ≡ None
      → left.answered ≡ answered → left.ended_by_peer ≡ code
      → number_of (if answered then code else None) ≡ Some reason → IsLeaving link reason
  peer_by true None unacknowledged goes answered ended is = absurd cc
  peer_by true (Some code) unacknowledged goes answered ended is =
      let same : code.0 ≡ reason = cc in
      ended_by_peer code unacknowledged goes answered ended (sym same)
  peer_by false code unacknowledged goes answered ended is = absurd cc

  procedures_by : (ends : Option ErrCode) → left.acknowledged ≡ false → (facts_in link).control.ends ≡ ends
      → number_of (ended_by_procedures ends left) ≡ Some reason → IsLeaving link reason
  procedures_by None unacknowledged goes is = peer_by left.answered left.ended_by_peer unacknowledged goes refl refl is
  procedures_by (Some code) unacknowledged ends is =
      let same : code.0 ≡ reason = cc in
      failed code unacknowledged ends (sym same)

  leaving_by : (is_acked : Bool) → left.acknowledged ≡ is_acked
      → number_of (if is_acked then Some (record { 0 = terminated_by_local_host }) else ended_by_procedures (facts_in link).control.ends left) ≡ Some reason
      → IsLeaving link reason
  leaving_by true is_acked is =
      let same : terminated_by_local_host ≡ reason = cc in
      acknowledged is_acked (sym same)
  leaving_by false unacknowledged is = procedures_by (facts_in link).control.ends unacknowledged refl is

  leaves_is : ending_in link ≡ Some reason → IsLeaving link reason
  leaves_is is = leaving_by left.acknowledged refl is

  -- by what is acknowledged, what the procedures did, whether a packet was sent since, and what the peer did
  abbrev end_by_parts : Bool → Option ErrCode → Bool → Option ErrCode → Option ℕ
  end_by_parts is_acked ends answered code =
      number_of (if is_acked then Some (record { 0 = terminated_by_local_host })
      else ended_by_procedures ends (record left { answered = answered; ended_by_peer = code }))

  left_is : IsLeaving link reason → ending_in link ≡ Some reason
  left_is (acknowledged is_acked code) =
      ap (λ (test : Bool). end_by_parts test (facts_in link).control.ends left.answered left.ended_by_peer) is_acked ∙ ap Some (sym code)
  left_is (failed one unacknowledged ends code) =
      (λ i. end_by_parts (unacknowledged i) (ends i) left.answered left.ended_by_peer) ∙ ap Some (sym code)
  left_is (ended_by_peer one unacknowledged goes answered ended code) =
      (λ i. end_by_parts (unacknowledged i) (goes i) (answered i) (ended i)) ∙ ap Some (sym code)

-- ---- each note of a link that is shut then is of one that has a reason

module _ (reason : OpenLink → Option ℕ) (R : OpenLink → ℕ → Type 0) (is_one : (link : OpenLink) (code : ℕ) → reason link ≡ Some code → R link code) where
  -- the link under this handle has it
  record HasOne (links : Links) (handle code : ℕ) : Type 0 where
    pub link : OpenLink
    pub is_open : link_at handle links ≡ Some link
    pub has_reason : R link code

  abbrev IsOfOne : Links → Note → Type 0
  IsOfOne links (Shut handle code) = HasOne links handle code.0
  IsOfOne links other = ⊤

  abbrev EachOne : Links → List LinkEnded → Type 0
  EachOne links ended = AllByRecursion (λ one. HasOne links one.handle one.reason.0) ended

  end_one : (code : Option ℕ) (whole : Links) (first : ℕ) (link : OpenLink) (ended : List LinkEnded)
      → reason link ≡ code → link_at first whole ≡ Some link → EachOne whole ended → EachOne whole (end_by first code ++ ended)
  end_one None whole first link ended is is_open rest = rest
  end_one (Some code) whole first link ended is is_open rest =
      (record { link = link; is_open = is_open; has_reason = is_one link code is }, rest)

  each_one : (whole : Links) (first : ℕ) (links : Links) → AreIn whole first links → EachOne whole (ends_by reason first links)
  each_one whole first [] are = tt
  each_one whole first (None ∷ links) are = each_one whole (first + 1) links (rest_in whole first None links are)
  each_one whole first (Some link ∷ links) are =
      end_one (reason link) whole first link (ends_by reason (first + 1) links) refl (first_in whole first link links are)
      (each_one whole (first + 1) links (rest_in whole first (Some link) links are))

  others_one : (links : Links) → IsOfOthers (IsOfOne links)
  others_one links = record { up = λ octets. tt; opened = λ link. tt; sent = λ handle number llid octets. tt; took = λ handle number llid octets. tt }

-- as a turn begins
abbrev IsOfOverdue : ℕ → Links → Note → Type 0
IsOfOverdue slot = IsOfOne (due_in slot) (IsOverdue slot) (overdue_is slot)

overdue_noted : (slot : ℕ) (on : Bool) (setup : Setup) (facts : Facts) → HaveHandles 0 facts.links
    → All (IsOfOverdue slot facts.links) (notes_after setup facts (TurnBegins slot on))
overdue_noted slot on setup facts have =
    let P = IsOfOverdue slot facts.links in
    let of = others_one (due_in slot) (IsOverdue slot) (overdue_is slot) facts.links in
    let ends = notes_ending slot facts in
    let enters = notes_all_entering (facts_ending slot facts).view slot 0 (facts_ending slot facts).links in
    All-append P (ends ++ enters) _
    (All-append P ends enters
    (ends_too P of facts.view (ends_for (due_in slot) facts)
    (each_one (due_in slot) (IsOverdue slot) (overdue_is slot) facts.links 0 facts.links (all_in facts.links)))
    (subst (λ (next : Facts). All P (notes_all_entering next.view slot 0 next.links)) (sym (ending_is slot facts))
    (entering_too P (λ event is. tt) slot facts.links
    (λ handle link has is_open stays enters.
    entered_each P link.setup slot (facts_in link) (record { applied = λ number. tt; enter = tt; done = λ kind. tt; began = λ kind. tt }))
    (facts_ended (due_in slot) facts).view 0 facts.links have (all_in facts.links))))
    (doing_too P of (outcome_begun slot on facts).next (outcome_begun slot on facts).facts)

-- as a turn ends
abbrev IsOfLeaving : Links → Note → Type 0
IsOfLeaving = IsOfOne ending_in IsLeaving leaves_is

leaving_noted : (setup : Setup) (facts : Facts) → All (IsOfLeaving (facts_handed facts).links) (notes_after setup facts TurnEnds)
leaving_noted setup facts =
    let links = (facts_handed facts).links in
    ended_turn_too (IsOfLeaving links) (others_one ending_in IsLeaving leaves_is links) facts
    (each_one ending_in IsLeaving leaves_is links 0 links (all_in links))

-- ---- in any other step: each such note is of a link that is open as a Reset is completed

record IsReset (commands : List Command) (links : Links) (handle reason : ℕ) : Type 0 where
  pub link : OpenLink
  pub is_open : link_at handle links ≡ Some link
  pub completed : commands ≡ Reset ∷ []
  pub code : reason ≡ 0

abbrev IsOfReset : List Command → Links → Note → Type 0
IsOfReset commands links (Shut handle reason) = IsReset commands links handle reason.0
IsOfReset commands links other = ⊤

others_too : (commands : List Command) (links : Links) → IsOfOthers (IsOfReset commands links)
others_too commands links = record { up = λ octets. tt; opened = λ link. tt; sent = λ handle number llid octets. tt; took = λ handle number llid octets. tt }

open_noted : (whole : Links) (first : ℕ) (links : Links) → AreIn whole first links
    → All (IsOfReset (Reset ∷ []) whole) (map (λ handle. note_shut handle 0) (handles_from first links))
open_noted whole first [] are = All-nil (IsOfReset (Reset ∷ []) whole)
open_noted whole first (None ∷ links) are = open_noted whole (first + 1) links (rest_in whole first None links are)
open_noted whole first (Some link ∷ links) are =
    All-cons (IsOfReset (Reset ∷ []) whole) _ _ (record { link = link; is_open = first_in whole first link links are; completed = refl; code = refl })
    (open_noted whole (first + 1) links (rest_in whole first (Some link) links are))

before_too : (facts : Facts) (command : Command) → All (IsOfReset (command ∷ []) facts.links) (notes_before facts command)
before_too facts Reset = open_noted facts.links 0 facts.links (all_in facts.links)
before_too facts other = All-nil (IsOfReset (other ∷ []) facts.links)

known_too : (accepted : Bool) (setup : Setup) (facts : Facts) (opcode : ℕ) (command : Command)
    → All (IsOfReset (cond accepted (command ∷ []) []) facts.links) (notes_known accepted setup facts opcode command)
known_too false setup facts opcode command =
    events_too (IsOfReset [] facts.links) (others_too [] facts.links) facts.view (answer_to setup facts opcode (Known command))
known_too true setup facts opcode command =
    let P = IsOfReset (command ∷ []) facts.links in
    let of = others_too (command ∷ []) facts.links in
    let answer = notes_of_events facts.view (answer_to setup facts opcode (Known command)) in
    All-append P (notes_before facts command ++ answer) _
    (All-append P (notes_before facts command) answer (before_too facts command)
    (events_too P of facts.view (answer_to setup facts opcode (Known command))))
    (events_too P of facts.view (events_caused facts command))

read_too : (setup : Setup) (facts : Facts) (opcode : ℕ) (read : CmdRead)
    → All (IsOfReset (commands_accepted_by facts read) facts.links) (notes_commanded setup facts opcode read)
read_too setup facts opcode (Known command) =
    let commands = commands_accepted_by facts (Known command) in
    let P = IsOfReset commands facts.links in
    noted_asking setup facts command opcode (All P) (known_too (status_of facts.view command == 0) setup facts opcode command)
    (λ notes asks are. All-append P notes (notes_at_once facts command) are
    (events_too P (others_too commands facts.links) facts.view (events_commanded_on command facts.links)))
read_too setup facts opcode UnknownOpcode =
    events_too (IsOfReset [] facts.links) (others_too [] facts.links) facts.view (answer_to setup facts opcode UnknownOpcode)
read_too setup facts opcode BadLength =
    events_too (IsOfReset [] facts.links) (others_too [] facts.links) facts.view (answer_to setup facts opcode BadLength)

fed_too : (setup : Setup) (facts : Facts) (fed : Fed) → All (IsOfReset (commands_accepted_in facts fed) facts.links) (notes_fed setup facts fed)
fed_too setup facts (Packet (HostCommand opcode body)) = read_too setup facts opcode (command_of opcode body.items)
fed_too setup facts (Packet (Acl handle start count body)) =
    offered_too (IsOfReset [] facts.links) (others_too [] facts.links) facts.view (offer_of setup facts handle count) handle
fed_too setup facts LostSync = events_too (IsOfReset [] facts.links) (others_too [] facts.links) facts.view (HardwareError 0x01 ∷ [])
fed_too setup facts More = All-nil (IsOfReset [] facts.links)

-- ---- all steps

reset_shuts : (facts : Facts) (step : Step) (handle reason : ℕ) (notes : List Note)
    → All (IsOfReset (commands_accepted_after facts step) facts.links) notes
    → Contains notes (Shut handle (record { 0 = reason })) → IsShut facts step handle reason
reset_shuts facts step handle reason notes are noted =
    let is = All-contains (IsOfReset (commands_accepted_after facts step) facts.links) notes _ are noted in
    reset is.link is.completed is.is_open is.code

step_shuts : (setup : Setup) (facts : Facts) (step : Step) (handle reason : ℕ) → HaveHandles 0 facts.links
    → Contains (notes_after setup facts step) (Shut handle (record { 0 = reason })) → IsShut facts step handle reason
step_shuts setup facts (HostOctet octet) handle reason have noted =
    reset_shuts facts (HostOctet octet) handle reason _ (fed_too setup facts (result_of facts.octets octet)) noted
step_shuts setup facts (TurnBegins slot on) handle reason have noted =
    let is = All-contains (IsOfOverdue slot facts.links) (notes_after setup facts (TurnBegins slot on)) _ (overdue_noted slot on setup facts have) noted in
    overdue slot on is.link refl is.is_open is.has_reason
step_shuts setup facts (PacketHeard octets) handle reason have noted =
    let P = IsOfReset [] facts.links in
    reset_shuts facts (PacketHeard octets) handle reason _
    (heard_is setup facts (λ outcome. ⊤ → All P (notes_passed outcome))
    (phase_too P (others_too [] facts.links) (λ handle kind code. tt) (λ handle kind. tt) setup facts) facts.turn.doing octets refl
    (λ handle. (phase_too P (others_too [] facts.links) (λ handle kind code. tt) (λ handle kind. tt) setup (facts_with_words setup handle facts)).received handle octets)
    tt)
    noted
step_shuts setup facts NothingHeard handle reason have noted =
    let P = IsOfReset [] facts.links in
    reset_shuts facts NothingHeard handle reason _
    (unheard_is setup facts (λ outcome. ⊤ → All P (notes_passed outcome))
    (phase_too P (others_too [] facts.links) (λ handle kind code. tt) (λ handle kind. tt) setup facts) facts.turn.doing refl tt)
    noted
step_shuts setup facts TurnEnds handle reason have noted =
    let is = All-contains (IsOfLeaving (facts_handed facts).links) (notes_after setup facts TurnEnds) _ (leaving_noted setup facts) noted in
    leaving is.link refl is.is_open is.has_reason

-- ---- each such link is noted

-- as a turn begins
in_flat_map : {X Y : Type 0} (f : X → List Y) (xs : List X) (x : X) (y : Y) → Contains xs x → Contains (f x) y → Contains (flat_map f xs) y
in_flat_map f [] x y contains there = absurd (omega (arith, contains.1))
in_flat_map f (first ∷ xs) x y (zero, inside, same) there =
    Contains-append_left (f first) (flat_map f xs) y (subst (λ x. Contains (f x) y) (sym same) there)
in_flat_map f (first ∷ xs) x y (suc n, inside, same) there =
    Contains-append_right (f first) (flat_map f xs) y (in_flat_map f xs x y (n, omega (arith, inside), same) there)

ended_noted : (reason : OpenLink → Option ℕ) (view : View) (links : Links) (handle code : ℕ) (link : OpenLink)
    → link_at handle links ≡ Some link → reason link ≡ Some code
    → Contains (flat_map (notes_ended view) (ends_by reason 0 links)) (Shut handle (record { 0 = code }))
ended_noted reason view links handle code link is_open has =
    let one : LinkEnded = record { handle = handle; reason = record { 0 = code } } in
    let among : Contains (ends_by reason 0 links) one =
    subst (λ (code : Option ℕ). IsAmong handle code (ends_by reason 0 links)) (ap (reason_at reason) is_open ∙ has) (due_is_among reason 0 handle links) in
    in_flat_map (notes_ended view) (ends_by reason 0 links) one (Shut handle (record { 0 = code })) among (zero, omega arith, refl)

due_noted : (slot : ℕ) (on : Bool) (setup : Setup) (facts : Facts) (handle reason : ℕ) (link : OpenLink)
    → link_at handle facts.links ≡ Some link → IsOverdue slot link reason
    → Contains (notes_after setup facts (TurnBegins slot on)) (Shut handle (record { 0 = reason }))
due_noted slot on setup facts handle reason link is_open due =
    let enters = notes_all_entering (facts_ending slot facts).view slot 0 (facts_ending slot facts).links in
    Contains-append_left (notes_ending slot facts ++ enters) _ _
    (Contains-append_left (notes_ending slot facts) enters _
    (ended_noted (due_in slot) facts.view facts.links handle reason link is_open (reason_is slot link reason due)))

-- as a turn ends
left_noted : (setup : Setup) (facts : Facts) (handle reason : ℕ) (link : OpenLink)
    → link_at handle (facts_handed facts).links ≡ Some link → IsLeaving link reason
    → Contains (notes_after setup facts TurnEnds) (Shut handle (record { 0 = reason }))
left_noted setup facts handle reason link is_open leaves =
    Contains-append_right (notes_handed facts) (notes_leaving (facts_handed facts)) _
    (ended_noted ending_in (facts_handed facts).view (facts_handed facts).links handle reason link is_open (left_is link reason leaves))

-- at a Reset
later_noted : (place : Option OpenLink) (first : ℕ) (links : Links) (note : Note)
    → Contains (map (λ handle. note_shut handle 0) (handles_from (first + 1) links)) note
    → Contains (map (λ handle. note_shut handle 0) (handles_from first (place ∷ links))) note
later_noted None first links note contains = contains
later_noted (Some link) first links note contains = Contains-append_right (note_shut first 0 ∷ []) _ note contains

shut_noted : (first handle : ℕ) (links : Links) (link : OpenLink) → link_from first handle links ≡ Some link
    → Contains (map (λ handle. note_shut handle 0) (handles_from first links)) (note_shut handle 0)
shut_noted first handle [] link is = absurd cc
shut_noted first handle (place ∷ links) link is = at (first == handle) refl place is (shut_noted (first + 1) handle links link)
  where
    at : (test : Bool) → (first == handle) ≡ test → (place : Option OpenLink)
        → (if test then place else link_from (first + 1) handle links) ≡ Some link
        → (link_from (first + 1) handle links ≡ Some link
        → Contains (map (λ handle. note_shut handle 0) (handles_from (first + 1) links)) (note_shut handle 0))
        → Contains (map (λ handle. note_shut handle 0) (handles_from first (place ∷ links))) (note_shut handle 0)
    at true same None is rest = absurd cc
    at true same (Some other) is rest = (zero, omega arith, ap (λ n. note_shut n 0) (eqb-true first handle same))
    at false same place is rest = later_noted place first links (note_shut handle 0) (rest is)

-- where these are the commands that are accepted, the notes have this one
abbrev NotesIfReset : List Command → List Note → ℕ → Type 0
NotesIfReset commands notes handle = commands ≡ Reset ∷ [] → Contains notes (note_shut handle 0)

module _ (setup : Setup) (facts : Facts) (handle : ℕ) (link : OpenLink) (is_open : link_at handle facts.links ≡ Some link) where
  known_noted : (accepted : Bool) (opcode : ℕ) (command : Command)
      → NotesIfReset (cond accepted (command ∷ []) []) (notes_known accepted setup facts opcode command) handle
  known_noted false opcode command is = absurd cc
  known_noted true opcode command is =
      let same : command ≡ Reset = cc in
      let answer = notes_of_events facts.view (answer_to setup facts opcode (Known Reset)) in
      subst (λ (command : Command). Contains (notes_known true setup facts opcode command) (note_shut handle 0)) (sym same)
      (Contains-append_left (notes_reset facts ++ answer) (notes_of_events facts.view (events_caused facts Reset)) _
      (Contains-append_left (notes_reset facts) answer _ (shut_noted 0 handle facts.links link is_open)))

  read_noted : (opcode : ℕ) (read : CmdRead)
      → NotesIfReset (commands_accepted_by facts read) (notes_commanded setup facts opcode read) handle
  read_noted opcode (Known command) is =
      noted_asking setup facts command opcode (λ (notes : List Note). Contains notes (note_shut handle 0))
      (known_noted (status_of facts.view command == 0) opcode command is)
      (λ notes asks noted. Contains-append_left notes (notes_at_once facts command) (note_shut handle 0) noted)
  read_noted opcode UnknownOpcode is = absurd cc
  read_noted opcode BadLength is = absurd cc

  fed_noted : (fed : Fed) → NotesIfReset (commands_accepted_in facts fed) (notes_fed setup facts fed) handle
  fed_noted (Packet (HostCommand opcode body)) is = read_noted opcode (command_of opcode body.items) is
  fed_noted (Packet (Acl other start count body)) is = absurd cc
  fed_noted LostSync is = absurd cc
  fed_noted More is = absurd cc

  reset_noted : (step : Step) → NotesIfReset (commands_accepted_after facts step) (notes_after setup facts step) handle
  reset_noted (HostOctet octet) is = fed_noted (result_of facts.octets octet) is
  reset_noted (TurnBegins slot on) is = absurd cc
  reset_noted (PacketHeard octets) is = absurd cc
  reset_noted NothingHeard is = absurd cc
  reset_noted TurnEnds is = absurd cc

shut_is_noted : (setup : Setup) (facts : Facts) (step : Step) (handle reason : ℕ) → IsShut facts step handle reason
    → Contains (notes_after setup facts step) (Shut handle (record { 0 = reason }))
shut_is_noted setup facts step handle reason (overdue slot on link begins is_open due) =
    subst (λ (step : Step). Contains (notes_after setup facts step) (Shut handle (record { 0 = reason }))) (sym begins)
    (due_noted slot on setup facts handle reason link is_open due)
shut_is_noted setup facts step handle reason (leaving link ends is_open leaves) =
    subst (λ (step : Step). Contains (notes_after setup facts step) (Shut handle (record { 0 = reason }))) (sym ends)
    (left_noted setup facts handle reason link is_open leaves)
shut_is_noted setup facts step handle reason (reset link completed is_open code) =
    subst (λ (n : ℕ). Contains (notes_after setup facts step) (Shut handle (record { 0 = n }))) (sym code)
    (reset_noted setup facts handle link is_open step completed)

pub shuts_with_reason : (setup : Setup) (past : List Step) (step : Step) (handle reason : ℕ)
    → Contains (notes_after setup (facts_of setup past) step) (Shut handle (record { 0 = reason }))
    ↔ IsShut (facts_of setup past) step handle reason
shuts_with_reason setup past step handle reason =
    let facts = facts_of setup past in
    (step_shuts setup facts step handle reason (own_handles setup past).handles, shut_is_noted setup facts step handle reason)
