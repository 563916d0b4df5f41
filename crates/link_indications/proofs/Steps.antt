-- An end and its notes, step by step.
use Rattle.std.proofs.Common.{◌≡◌, ℕ, ◌+◌, ◌≤◌, ◌&&◌, not, Bool, true, false, List, [], ◌∷◌, ◌++◌, Option, Some, None, is_none, is_some, refl, sym, ap, subst, ◌∙◌, if◌then◌else◌}
use Rattle.std.specs.List.{All, AllByRecursion}
use Rattle.std.proofs.lemmas.List.{append-nil, append_assoc}
use Rattle.ble_base.specs.ErrorCodes.{mic_failure}
use Rattle.ble_base.specs.declared.notes.Note.{Note}
use Rattle.ble_base.specs.declared.notes.Note.TheVariants.{Sent}
use Rattle.ble_base.specs.declared.roles.Role.{Role}
use Rattle.ble_base.specs.declared.roles.Role.TheVariants.{Central, Peripheral}
use Rattle.data_pdu.specs.Header.{header_in}
use Rattle.data_pdu.specs.Layouts.{written}
use Rattle.data_pdu.specs.declared.ctrl.Ctrl.{Ctrl}
use Rattle.instants.specs.Track.{event_of}
use Rattle.link_model.specs.procedure_values.declared.asks.Ask.{Ask}
use Rattle.link_model.specs.procedures.Queue.{next_of}
use Rattle.link_model.specs.procedures.Sending.{next_ctrl_of}
use Rattle.link_model.specs.control_model.Control.{Control, Answers, Asks, Disconnects, Enters, Sends, after, ended, went}
use Rattle.link_model.specs.keyed_control.KeyedSteps.{Enters as KeyedEnters, GivesKey, LacksKey, keyed_after, keyed_moved}
use Rattle.link_model.specs.control_end.Answers.{entry_of}
use Rattle.link_model.specs.control_end.Held.{held_of}
use Rattle.link_model.specs.Acknowledgement.{Pdu, is_acked}
use Rattle.link_model.specs.AskRanges.{IsAskInRange}
use Rattle.link_model.specs.Controls.{goes_on, is_quiet_now, next_control, pdu_fixed, pdu_of_control}
use Rattle.link_model.specs.Data.{is_control, is_empty, numbered}
use Rattle.link_model.specs.End.{facts_after, facts_of, notes_after, notes_of}
use Rattle.link_model.specs.Entering.{event_notes, facts_entered, facts_entered_if}
use Rattle.link_model.specs.Facts.{Facts, first_facts, keyed_of}
use Rattle.link_model.specs.Fixing.{fixed_anew}
use Rattle.link_model.specs.Hosts.{asked_unless, is_to_come, key_step}
use Rattle.link_model.specs.Packets.{good_pdu, is_forged}
use Rattle.link_model.specs.Receiving.{ended_by_forgery, facts_received, received_notes}
use Rattle.link_model.specs.Sending.{control_gone_if, facts_sent, sent_notes, sent_notes_if, takes_leave}
use Rattle.link_model.specs.Setup.{Setup, first_anchor, first_params}
use Rattle.link_model.specs.Step.{Step, DataGiven, DataReported, Disconnected, EventEntered, KeyAnswered, PacketReceived, PacketSent, PduFixed, ProcedureAsked, RequestAnswered, WordsGiven}
use Rattle.link_model.specs.Verdicts.{pdu_of}
use Rattle.link_model.proofs.Choices.{either_forged}
use Rattle.link_model.proofs.Pasts.{grows, notes_grow}
use Rattle.link_changes.specs.InForce.{AsksMap, HasRanges}
use Rattle.link_changes.specs.Noted.{indication_noted, indications_noted, taking_if, takings_noted}
use Rattle.link_changes.proofs.Readable.{next_goes}
use Rattle.link_changes.proofs.Reached.{reached_reads}
use Rattle.link_changes.proofs.Phases.{entered_by, given_by, lacking_by}
use Rattle.link_changes.proofs.Requests.{Orderly, past_orderly}
use Rattle.link_changes.proofs.Reading.{sent_read}
use Rattle.link_changes.proofs.Steps.{IsGoodStep, IsKnown, filled, none_of, past_known, step_known}
use Rattle.link_indications.specs.InTime.{IsTakenInTime}
use Rattle.link_indications.proofs.Controls.{goes_before, sent_in_time, sent_more}
use Rattle.link_indications.proofs.Holding.{Holds, Kept, holds_first, holds_more, holds_silent, kept_over, kept_owes, kept_same, kept_step}
use Rattle.link_indications.proofs.Receiving.{holds_heard, kept_gone, no_control, whether}
use Rattle.link_indications.proofs.Silent.{AreSilent, silent_event}

-- ---- an event is entered

entered_kept : (b : Bool) (setup : Setup) (slot : ℕ) (facts : Facts) → Kept setup.link.role facts.control (facts_entered_if b setup slot facts).control
entered_kept true setup slot facts =
    let role = setup.link.role in
    let k = keyed_of facts in
    let c = facts.control in
    whether (Kept role c) (is_none c.ends) (keyed_moved (KeyedEnters slot) k) k
    (λ lasts. entered_by (Kept role c) (kept_owes role c) slot k.phased (kept_step role (Enters slot (is_quiet_now facts)) c refl)) (λ ends. kept_same role c)
entered_kept false setup slot facts = kept_same setup.link.role facts.control

entered_silent : (b : Bool) (setup : Setup) (slot : ℕ) (facts : Facts)
    → AreSilent setup.link.role
    (if b then event_notes setup.link.handle (facts_entered setup slot facts).event (entry_of slot (is_quiet_now facts) (held_of facts.control)) else [])
entered_silent true setup slot facts =
    let event = (facts_entered setup slot facts).event in
    let entry = entry_of slot (is_quiet_now facts) (held_of facts.control) in
    silent_event setup.link.role setup.link.handle event.number event.channel entry.applied entry.done entry.began
entered_silent false setup slot facts = tt

-- ---- the host has a key, or none

key_kept : (role : Role) (key : Option (List ℕ)) (facts : Facts) → Kept role facts.control (keyed_after (key_step key) (keyed_of facts)).phased.control
key_kept role None facts =
    let k = keyed_of facts in
    let c = facts.control in
    whether (Kept role c) (is_none c.ends) (keyed_moved LacksKey k) k (λ lasts. lacking_by (Kept role c) (kept_owes role c) k.phased (kept_same role c)) (λ ends. kept_same role c)
key_kept role (Some ltk) facts =
    let k = keyed_of facts in
    let c = facts.control in
    whether (Kept role c) (is_none c.ends) (keyed_moved (GivesKey ltk) k) k (λ lasts. given_by (Kept role c) (kept_owes role c) k.phased (kept_same role c)) (λ ends. kept_same role c)

-- ---- a packet is sent

goes_if : (b : Bool) (next : Option Ctrl) (ctrl : Ctrl) → (if b then next else None) ≡ Some ctrl → (b ≡ true) × (next ≡ Some ctrl)
goes_if true next ctrl is = (refl, is)
goes_if false next ctrl is = absurd (cc)

stays_if : (b : Bool) (next : Option Ctrl) (c d : Control) → (if b then next else None) ≡ None → (if b then (if is_some next then d else c) else c) ≡ c
stays_if false next c d is = refl
stays_if true None c d is = refl
stays_if true (Some ctrl) c d is = absurd (cc)

silent_sent : (b : Bool) (role : Role) (handle number : ℕ) (pdu : Pdu)
    → indication_noted role (Sent handle (number + 1) pdu.llid (record { items = pdu.body })) ≡ None
    → AreSilent role (sent_notes_if b handle number pdu)
silent_sent true role handle number pdu none = (none, tt)
silent_sent false role handle number pdu none = tt

module _ (setup : Setup) (latency : setup.link.role ≡ Central → setup.link.fields.latency ≤ 499) where
  abbrev role : Role
  role = setup.link.role

  abbrev HoldsIt : List Note → Control → Type 0
  HoldsIt notes c = Holds setup.link.role notes c

  same : (notes : List Note) (c d : Control) → HoldsIt notes c → Kept role c d → HoldsIt (notes ++ []) d
  same notes c d h kept = holds_silent role notes [] c d h tt kept

  -- a central sends a control PDU, which is an indication or is not
  control_sent : (notes : List Note) (slot number : ℕ) (facts : Facts) (next : Option Ctrl) → next_control facts ≡ next → role ≡ Central
      → IsKnown setup notes facts → HoldsIt notes facts.control
      → HoldsIt (notes ++ sent_notes_if (not (is_empty (pdu_of_control next))) setup.link.handle number (pdu_of_control next))
      (after (Sends slot (is_quiet_now facts)) facts.control)
  control_sent notes slot number facts None none is k h =
      let quiet = is_quiet_now facts in
      subst (λ (c : Control). HoldsIt (notes ++ []) c)
      (sym (stays_if (is_none facts.control.ends)
      (next_ctrl_of facts.control.table (event_of facts.control.track) facts.control.track.params.latency quiet) facts.control _ none))
      (same notes facts.control facts.control h (kept_same role facts.control))
  control_sent notes slot number facts (Some ctrl) goes is k h =
      let quiet = is_quiet_now facts in
      let c = facts.control in
      let d = after (Sends slot quiet) c in
      let reached = k.part.reached in
      let first = first_params setup.link.fields in
      let anchor = first_anchor setup in
      let note = Sent setup.link.handle (number + 1) 3 (record { items = written ctrl }) in
      let parts = goes_if (is_none c.ends) (next_ctrl_of c.table (event_of c.track) c.track.params.latency quiet) ctrl goes in
      let reads = reached_reads role setup.link.max_rx first anchor c reached parts.0 is in
      let noted : indication_noted role note ≡ (went slot quiet c).1 =
      ap (λ (r : Role). indication_noted r note) is
      ∙ sent_read (next_of c.table (event_of c.track) quiet) (event_of c.track) c.track.params.latency ctrl
      (next_goes c.table (event_of c.track) quiet reads.drafts).draft parts.1 in
      subst (λ (b : Bool). HoldsIt (notes ++ sent_notes_if (not b) setup.link.handle number (pdu_of_control (Some ctrl))) d) (sym (filled ctrl))
      (holds_more role notes (note ∷ []) c d (event_of c.track) (went slot quiet c).1 h
      ((λ i. taking_if (k.part.knows.event i) (noted i) ++ []) ∙ append-nil (taking_if (event_of c.track) (went slot quiet c).1))
      (λ central. sent_more c slot quiet (reached.is_role ∙ is) (none_of c.ends parts.0))
      (goes_before (Sends slot quiet) c)
      (λ lasts. sent_in_time role setup.link.max_rx first anchor c reached is parts.0 (latency is) slot quiet))

  sent_at_central : (notes : List Note) (slot number : ℕ) (facts : Facts) (acked fixes : Bool) → role ≡ Central → IsKnown setup notes facts
      → HoldsIt notes facts.control
      → let pdu = (if fixes then pdu_of_control (next_control facts) else facts.outgoing.fixed) in
      HoldsIt (notes ++ sent_notes_if (acked && not (is_empty pdu)) setup.link.handle number pdu) (control_gone_if (acked && fixes) slot facts).control
  sent_at_central notes slot number facts false fixes is k h = same notes facts.control facts.control h (kept_same role facts.control)
  sent_at_central notes slot number facts true false is k h =
      let pdu = facts.outgoing.fixed in
      holds_silent role notes _ facts.control facts.control h
      (silent_sent (not (is_empty pdu)) role setup.link.handle number pdu
      (ap (λ (r : Role). indication_noted r (Sent setup.link.handle (number + 1) pdu.llid (record { items = pdu.body }))) is ∙ no_control pdu (k.fixed is)))
      (kept_same role facts.control)
  sent_at_central notes slot number facts true true is k h = control_sent notes slot number facts (next_control facts) refl is k h

  holds_sent : (notes : List Note) (slot : ℕ) (facts : Facts) (r : Role) → role ≡ r → IsKnown setup notes facts → HoldsIt notes facts.control
      → HoldsIt (notes ++ sent_notes setup facts) (facts_sent slot facts).control
  holds_sent notes slot facts Central is k h =
      sent_at_central notes slot (numbered facts.acknowledgement.sent) facts (is_acked facts.acknowledgement) facts.fixes_control is k h
  holds_sent notes slot facts Peripheral is k h =
      let pdu = pdu_fixed facts in
      let number = numbered facts.acknowledgement.sent in
      holds_silent role notes (sent_notes setup facts) facts.control (facts_sent slot facts).control h
      (silent_sent (is_acked facts.acknowledgement && not (is_empty pdu)) role setup.link.handle number pdu
      (ap (λ (r : Role). indication_noted r (Sent setup.link.handle (number + 1) pdu.llid (record { items = pdu.body }))) is))
      (kept_gone role (takes_leave facts) slot facts is)

  -- ---- each step

  asked_kept : (comes : Bool) (ask : Ask) (facts : Facts) → Kept role facts.control (asked_unless comes ask facts).control
  asked_kept true ask facts = kept_same role facts.control
  asked_kept false ask facts = kept_step role (Asks ask) facts.control refl

  -- octets are received

  hearing_holds : (notes : List Note) (slot : ℕ) (room : Bool) (good : Option (List ℕ)) (facts : Facts) → Orderly setup.link.role facts → IsKnown setup notes facts
      → HoldsIt notes facts.control → HoldsIt (notes ++ received_notes setup slot room good facts) (facts_received role slot room good facts).control
  hearing_holds notes slot room None facts orderly k h = same notes facts.control facts.control h (kept_same role facts.control)
  hearing_holds notes slot room (Some octets) facts orderly k h =
      holds_heard setup notes slot room (header_in octets) (pdu_of octets) facts orderly k.part.reached.is_role k.part.knows.event h

  forged_kept : (c : Control) → Kept role c (ended_by_forgery c)
  forged_kept c = by (is_none c.ends)
    where
      by : (b : Bool) → Kept role c (if b then ended (record { 0 = mic_failure }) c else c)
      by true = kept_over role (record { 0 = mic_failure }) c
      by false = kept_same role c

  packet_holds : (notes : List Note) (slot : ℕ) (octets : List ℕ) (room : Bool) (facts : Facts) → Orderly setup.link.role facts → IsKnown setup notes facts
      → HoldsIt notes facts.control
      → HoldsIt (notes ++ notes_after setup facts (PacketReceived slot octets room)) (facts_after setup facts (PacketReceived slot octets room)).control
  packet_holds notes slot octets room facts orderly k h =
      let good = good_pdu setup facts octets in
      let all = notes ++ received_notes setup slot room good facts in
      let next = facts_received role slot room good facts in
      let holds = hearing_holds notes slot room good facts orderly k h in
      either_forged (λ (later : Facts). HoldsIt all later.control) (is_forged setup facts octets) next
      (subst (λ (notes : List Note). HoldsIt notes (ended_by_forgery next.control)) (append-nil all) (same all next.control (ended_by_forgery next.control) holds (forged_kept next.control)))
      holds

  step_holds : (notes : List Note) (facts : Facts) (step : Step) → Orderly setup.link.role facts → IsKnown setup notes facts → HoldsIt notes facts.control
      → HoldsIt (notes ++ notes_after setup facts step) (facts_after setup facts step).control
  step_holds notes facts (DataGiven start body) orderly k h = same notes facts.control facts.control h (kept_same role facts.control)
  step_holds notes facts (ProcedureAsked ask) orderly k h = same notes facts.control _ h (asked_kept (is_to_come ask facts) ask facts)
  step_holds notes facts (RequestAnswered answer) orderly k h = same notes facts.control _ h (kept_step role (Answers answer) facts.control refl)
  step_holds notes facts (Disconnected reason slot) orderly k h = same notes facts.control _ h (kept_step role (Disconnects reason) facts.control refl)
  step_holds notes facts (KeyAnswered key slot) orderly k h = same notes facts.control _ h (key_kept role key facts)
  step_holds notes facts (EventEntered slot) orderly k h =
      holds_silent role notes (notes_after setup facts (EventEntered slot)) facts.control _ h (entered_silent (goes_on facts) setup slot facts)
      (entered_kept (goes_on facts) setup slot facts)
  step_holds notes facts PduFixed orderly k h =
      same notes facts.control _ h
      (subst (λ (c : Control). Kept role facts.control c) (sym (kept (is_control facts.outgoing.fixed))) (kept_same role facts.control))
    where
      kept : (b : Bool) → (if b then facts else fixed_anew facts).control ≡ facts.control
      kept true = refl
      kept false = refl
  step_holds notes facts (PacketSent slot) orderly k h = holds_sent notes slot facts role refl k h
  step_holds notes facts (WordsGiven skd_s iv_s) orderly k h = same notes facts.control facts.control h (kept_same role facts.control)
  step_holds notes facts (PacketReceived slot octets room) orderly k h = packet_holds notes slot octets room facts orderly k h
  step_holds notes facts DataReported orderly k h = same notes facts.control facts.control h (kept_same role facts.control)

  -- ---- all steps

  abbrev AreGood : List Step → Type 0
  AreGood past = role ≡ Central → AllByRecursion IsGoodStep past

  -- what is known after these steps, and holds
  record IsHeld (past : List Step) : Type 0 where
    known : IsKnown setup (notes_of setup past) (facts_of setup past)
    holds : HoldsIt (notes_of setup past) (facts_of setup past).control

  held_then : (past : List Step) (step : Step) → (role ≡ Central → IsGoodStep step) → IsHeld past → IsHeld (past ++ step ∷ [])
  held_then past step good held =
      let facts = facts_of setup past in
      let notes = notes_of setup past in
      let more = notes_after setup facts step in
      let later = facts_of setup (past ++ step ∷ []) in
      let orderly = past_orderly setup past in record {
        known = subst (λ (all : List Note). IsKnown setup all later) (sym (notes_grow setup past step))
            (subst (λ (later : Facts). IsKnown setup (notes ++ more) later) (sym (grows setup past step))
            (step_known setup latency notes facts step good orderly held.known));
        holds = subst (λ (all : List Note). HoldsIt all later.control) (sym (notes_grow setup past step))
            (subst (λ (later : Facts). HoldsIt (notes ++ more) later.control) (sym (grows setup past step))
            (step_holds notes facts step orderly held.known held.holds));
      }

  -- after these steps, and then the others
  steps_hold : (past steps : List Step) → AreGood steps → IsHeld past → IsHeld (past ++ steps)
  steps_hold past [] good held = subst (λ (all : List Step). IsHeld all) (sym (append-nil past)) held
  steps_hold past (step ∷ steps) good held =
      subst (λ (all : List Step). IsHeld all) (append_assoc past (step ∷ []) steps)
      (steps_hold (past ++ step ∷ []) steps (λ central. (good central).1) (held_then past step (λ central. (good central).0) held))

  first_held : IsHeld []
  unfolding facts_of notes_of
  first_held = record {
    known = past_known setup [] (λ central. record { latency = latency central; asks = tt; maps = tt });
    holds = holds_first role (first_facts setup).control refl;
  }

  all_hold : (past : List Step) → AreGood past → HoldsIt (notes_of setup past) (facts_of setup past).control
  all_hold past good = (steps_hold [] past good first_held).holds

are_good : (past : List Step) → AllByRecursion IsAskInRange past → AllByRecursion AsksMap past → AllByRecursion IsGoodStep past
are_good [] asks maps = tt
are_good (step ∷ past) asks maps = ((asks.0, maps.0), are_good past asks.1 maps.1)

past_holds : (setup : Setup) (past : List Step) → (setup.link.role ≡ Central → HasRanges setup past)
    → Holds setup.link.role (notes_of setup past) (facts_of setup past).control
past_holds setup past ranges =
    all_hold setup (λ central. (ranges central).latency) past (λ central. are_good past (ranges central).asks (ranges central).maps)

-- ---- the laws

pub central_sent : (setup : Setup) (past : List Step) → setup.link.role ≡ Central → HasRanges setup past
    → indications_noted Central (notes_of setup past) ≡ (facts_of setup past).control.sent
central_sent setup past is ranges =
    ap (λ (r : Role). indications_noted r (notes_of setup past)) (sym is) ∙ (past_holds setup past (λ central. ranges)).sent is

pub came_in_time : (setup : Setup) (past : List Step) → (setup.link.role ≡ Central → HasRanges setup past) → (facts_of setup past).control.ends ≡ None
    → All IsTakenInTime (takings_noted setup.link.role (notes_of setup past))
came_in_time setup past ranges goes = (past_holds setup past ranges).in_time goes
