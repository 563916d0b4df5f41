-- An end receives a packet: a peripheral that takes an indication in it goes on only where it is in time.
use Rattle.std.proofs.Common.{◌≡◌, ℕ, ◌&&◌, not, Bool, true, false, List, [], ◌++◌, Option, None, is_none, refl, sym, ap, subst, ◌∙◌, if◌then◌else◌}
use Rattle.std.proofs.lemmas.List.{append-nil}
use Rattle.std.proofs.lemmas.List.Elements.{All-nil}
use Rattle.ble_base.specs.declared.notes.Note.{Note}
use Rattle.ble_base.specs.declared.roles.Role.{Role}
use Rattle.ble_base.specs.declared.roles.Role.TheVariants.{Central, Peripheral}
use Rattle.ble_base.specs.declared.error_codes.ErrCode.{ErrCode}
use Rattle.data_pdu.specs.Reading.{ctrl_of}
use Rattle.data_pdu.specs.declared.ctrl.CtrlRead.TheVariants.{Known}
use Rattle.data_pdu.specs.declared.header.DataHeader.{DataHeader}
use Rattle.instants.specs.Track.{TrackFacts, event_of}
use Rattle.instants.specs.declared.indications.Indication.{Indication}
use Rattle.link_model.specs.procedure_stages.Kinds.{role_of}
use Rattle.link_model.specs.control_model.Control.{Control, Step, Owes, SeesAcknowledged, Sends, Takes, after}
use Rattle.link_model.proofs.control_model.Moving.{peripheral_sends, same_role, table_alone}
use Rattle.link_model.specs.Acknowledgement.{Pdu}
use Rattle.link_model.specs.Controls.{is_procedure_pdu, is_quiet_now, read_of}
use Rattle.link_model.specs.Data.{is_control, is_data, is_empty}
use Rattle.link_model.specs.Entering.{done_notes}
use Rattle.link_model.specs.Facts.{Facts, keyed_of}
use Rattle.link_model.specs.Receiving.{accepted_if, accepts, acked_kind, acknowledged_if, acks_control, answers_with_control, control_taken, data_taken_if, facts_before_taking, facts_hearing, given_if, given_notes, has_acknowledged, heard_in_slot, kept_given_if, keyed_acked_if, notes_hearing, procedures_take_if, took_notes_if}
use Rattle.link_model.specs.Sending.{control_gone_if}
use Rattle.link_model.specs.Setup.{Setup}
use Rattle.link_model.specs.keyed_control.Keyed.{Keyed}
use Rattle.link_model.specs.keyed_control.KeyedSteps.{SeesAcknowledged as KeyedSees, Takes as KeyedTakes, TakesData as KeyedTakesData, keyed_moved}
use Rattle.link_model.specs.phased_control.Taken.{seen_as}
use Rattle.link_model.specs.phased_end.Taking.{drawn}
use Rattle.link_changes.proofs.Phases.{acknowledged_by, data_by, seen_says, takes_by}
use Rattle.link_changes.proofs.Requests.{Orderly}
use Rattle.link_changes.proofs.Taking.{read_says}
use Rattle.link_changes.specs.Noted.{event_noted, indication_in, indication_read, taking_if, takings_from}
use Rattle.link_indications.proofs.Controls.{AreInTime, goes_before, is_sending, taken_in_time}
use Rattle.link_indications.proofs.Holding.{Holds, Kept, holds_more, kept_at_peripheral, kept_over, kept_owes, kept_same, kept_step, kept_then}
use Rattle.link_indications.proofs.Silent.{done_same_event, silent_both, silent_done, silent_given, takings_after, takings_before}

-- a step of procedures, phase and keys, which is none once the link ended
pub whether : (P : Control → Type 0) (b : Bool) (j k : Keyed) → (b ≡ true → P j.phased.control) → (b ≡ false → P k.phased.control)
    → P (if b then j else k).phased.control
whether P true j k moves stays = moves refl
whether P false j k moves stays = stays refl

-- ---- the control part

module _ (role : Role) where
  kept_acked : (b : Bool) (facts : Facts) → Orderly role facts → Kept role facts.control (keyed_acked_if b (keyed_of facts)).phased.control
  kept_acked true facts orderly =
      let k = keyed_of facts in
      let c = facts.control in
      whether (Kept role c) (is_none c.ends) (keyed_moved KeyedSees k) k
      (λ lasts. acknowledged_by (Kept role c) (kept_owes role c) k.phased (orderly lasts).request (kept_step role SeesAcknowledged c refl)) (λ ends. kept_same role c)
  kept_acked false facts orderly = kept_same role facts.control

  pub kept_gone : (b : Bool) (slot : ℕ) (facts : Facts) → role ≡ Peripheral → Kept role facts.control (control_gone_if b slot facts).control
  kept_gone true slot facts is = kept_at_peripheral role (Sends slot (is_quiet_now facts)) facts.control is
  kept_gone false slot facts is = kept_same role facts.control

  kept_answering : (r : Role) (slot : ℕ) (facts : Facts) → role ≡ r
      → Kept role facts.control (control_gone_if (answers_with_control r facts) slot facts).control
  kept_answering Central slot facts is = kept_same role facts.control
  kept_answering Peripheral slot facts is = kept_gone (answers_with_control Peripheral facts) slot facts is

  kept_seeing : (c : Control) (step : Step) (d : Control) → is_sending step ≡ false → Kept role c d → Kept role c (after step d)
  kept_seeing c step d is kept = kept_then role c d (after step d) kept (kept_step role step d is)

  kept_taking : (b : Bool) (pdu : Pdu) (slot : ℕ) (facts : Facts) → Kept role facts.control (procedures_take_if b pdu slot facts).control
  kept_taking true pdu slot facts =
      let k = keyed_of facts in
      let c = facts.control in
      let response = drawn facts.encryption.response in
      whether (Kept role c) (is_none c.ends) (keyed_moved (KeyedTakes (read_of pdu) slot response) k) k
      (λ lasts. takes_by (Kept role c) (kept_owes role c) slot response (read_of pdu) k.phased (λ code. kept_over role code c) (λ central. kept_same role c)
      (kept_step role (Takes (seen_as (read_of pdu) k.phased) slot (is_quiet_now facts)) c refl)
      (λ ctrl. λ d. λ is. λ kept. kept_seeing c (Takes (Known ctrl) slot true) d refl kept))
      (λ ends. kept_same role c)
  kept_taking false pdu slot facts = kept_same role facts.control

  kept_data : (b : Bool) (facts : Facts) → Kept role facts.control (data_taken_if b facts).control
  kept_data true facts =
      let k = keyed_of facts in
      let c = facts.control in
      whether (Kept role c) (is_none c.ends) (keyed_moved KeyedTakesData k) k
      (λ lasts. data_by (Kept role c) k.phased (λ code. kept_over role code c) (kept_same role c)) (λ ends. kept_same role c)
  kept_data false facts = kept_same role facts.control

  kept_heard : (slot : ℕ) (room : Bool) (header : DataHeader) (pdu : Pdu) (facts : Facts) → Orderly role facts
      → Kept role facts.control (facts_hearing role slot room header pdu facts).control
  kept_heard slot room header pdu facts orderly =
      let acks = has_acknowledged facts header in
      let own = acknowledged_if acks (heard_in_slot slot header.md facts) in
      let now = facts_before_taking role slot header facts in
      let accepted = accepts room header pdu now in
      let seen = procedures_take_if (accepted && is_procedure_pdu pdu) pdu slot (accepted_if accepted pdu now) in
      let last = (facts_hearing role slot room header pdu facts).control in
      kept_then role facts.control own.control last (kept_acked (acks_control acks facts) facts orderly)
      (kept_then role own.control now.control last (kept_answering role slot own refl)
      (kept_then role now.control seen.control last (kept_taking (accepted && is_procedure_pdu pdu) pdu slot (accepted_if accepted pdu now))
      (kept_data (accepted && is_data pdu) seen)))

-- ---- a peripheral before it takes a PDU

-- it has this track, and its role
record IsAt (t : TrackFacts) (d : Control) : Type 0 where
  track : d.track ≡ t
  role : role_of d.table.progress ≡ Peripheral

at_step : (t : TrackFacts) (step : Step) (d : Control) → (after step d).track ≡ d.track → IsAt t d → IsAt t (after step d)
at_step t step d same at = record { track = same ∙ at.track; role = same_role Peripheral step d at.role }

at_acked : (b : Bool) (facts : Facts) → Orderly Peripheral facts → role_of facts.control.table.progress ≡ Peripheral
    → IsAt facts.control.track (keyed_acked_if b (keyed_of facts)).phased.control
at_acked true facts orderly is =
    let k = keyed_of facts in
    let c = facts.control in
    let here : IsAt c.track c = record { track = refl; role = is } in
    whether (IsAt c.track) (is_none c.ends) (keyed_moved KeyedSees k) k
    (λ lasts. acknowledged_by (IsAt c.track) (λ ctrl. λ d. λ may. λ at. at_step c.track (Owes ctrl) d (table_alone d (Owes ctrl) refl) at) k.phased (orderly lasts).request
    (at_step c.track SeesAcknowledged c (table_alone c SeesAcknowledged refl) here))
    (λ ends. here)
at_acked false facts orderly is = record { track = refl; role = is }

at_gone : (t : TrackFacts) (b : Bool) (slot : ℕ) (facts : Facts) → IsAt t facts.control → IsAt t (control_gone_if b slot facts).control
at_gone t true slot facts at =
    at_step t (Sends slot (is_quiet_now facts)) facts.control (peripheral_sends facts.control slot (is_quiet_now facts) at.role) at
at_gone t false slot facts at = at

-- ---- the indication that is taken

pub no_control : (pdu : Pdu) → is_control pdu ≡ false → indication_in pdu.llid pdu.body ≡ None
no_control pdu is = ap (λ (b : Bool). if b then indication_read (ctrl_of pdu.body) else None) is

a_control : (pdu : Pdu) → is_control pdu ≡ true → indication_in pdu.llid pdu.body ≡ indication_read (ctrl_of pdu.body)
a_control pdu is = ap (λ (b : Bool). if b then indication_read (ctrl_of pdu.body) else None) is

abbrev indication_taken : Bool → Pdu → Option Indication
indication_taken b pdu = if b then indication_in pdu.llid pdu.body else None

took_takings : (b : Bool) (handle event : ℕ) (pdu : Pdu) (facts : Facts)
    → takings_from Peripheral event (took_notes_if b handle pdu facts) ≡ taking_if event (indication_taken b pdu)
took_takings true handle event pdu facts = append-nil (taking_if event (indication_in pdu.llid pdu.body))
took_takings false handle event pdu facts = refl

-- what is in time where the end goes on
abbrev InTimeIf : Control → Option Indication → Control → Type 0
InTimeIf c some d = d.ends ≡ None → AreInTime (event_of c.track) some

ends_none : (ends : Option ErrCode) → is_none ends ≡ false → ends ≡ None → ⊥
ends_none ends over goes = let no : ◌≡◌ {A = Bool} true false = ap (λ (e : Option ErrCode). is_none e) (sym goes) ∙ over in absurd (cc)

taken_by_procedures : (pdu : Pdu) (slot : ℕ) (facts : Facts) → role_of facts.control.table.progress ≡ Peripheral → (control_taken pdu slot facts).ends ≡ None
    → AreInTime (event_of facts.control.track) (indication_read (ctrl_of pdu.body))
taken_by_procedures pdu slot facts role =
    let k = keyed_of facts in
    let s = k.phased in
    let c = facts.control in
    let response = drawn facts.encryption.response in
    let read = read_of pdu in
    let some = indication_read (ctrl_of pdu.body) in
    let seen = seen_as read s in
    let quiet = is_quiet_now facts in
    whether (InTimeIf c some) (is_none c.ends) (keyed_moved (KeyedTakes read slot response) k) k
    (λ lasts. takes_by (InTimeIf c some) (λ ctrl. λ d. λ may. λ h. λ goes. h (goes_before (Owes ctrl) d goes)) slot response read s
    (λ code. λ goes. absurd (cc)) (λ central. two_roles (sym central ∙ role))
    (λ goes. subst (λ (other : Option Indication). AreInTime (event_of c.track) other) (seen_says read s ∙ read_says pdu) (taken_in_time c seen slot quiet role goes))
    (λ ctrl. λ d. λ is. λ h. λ goes. h (goes_before (Takes (Known ctrl) slot true) d goes)))
    (λ ends. λ goes. absurd (ends_none c.ends ends goes))
  where
    two_roles : {X : Type 0} → ◌≡◌ {A = Role} Central Peripheral → X
    two_roles is = absurd (cc)

took_in_time : (pdu : Pdu) (slot : ℕ) (facts : Facts) (accepted empty control : Bool) → is_control pdu ≡ control
    → role_of facts.control.table.progress ≡ Peripheral
    → (procedures_take_if (accepted && (control && not empty)) pdu slot facts).control.ends ≡ None
    → AreInTime (event_of facts.control.track) (indication_taken (accepted && not empty) pdu)
took_in_time pdu slot facts false empty control is role goes = All-nil _
took_in_time pdu slot facts true true true is role goes = All-nil _
took_in_time pdu slot facts true true false is role goes = All-nil _
took_in_time pdu slot facts true false true is role goes =
    subst (λ (some : Option Indication). AreInTime (event_of facts.control.track) some) (sym (a_control pdu is))
    (taken_by_procedures pdu slot facts role goes)
took_in_time pdu slot facts true false false is role goes =
    subst (λ (some : Option Indication). AreInTime (event_of facts.control.track) some) (sym (no_control pdu is)) (All-nil _)

-- ---- a packet is received

module _ (setup : Setup) (notes : List Note) where
  took_silent : (b : Bool) (pdu : Pdu) (facts : Facts) (event : ℕ) → takings_from Central event (took_notes_if b setup.link.handle pdu facts) ≡ []
  took_silent true pdu facts event = refl
  took_silent false pdu facts event = refl

  heard_takings : (role : Role) (slot : ℕ) (room : Bool) (header : DataHeader) (pdu : Pdu) (facts : Facts) (event : ℕ)
      → let now = facts_before_taking setup.link.role slot header facts in
      takings_from role event (notes_hearing setup slot room header pdu facts)
      ≡ takings_from role event (took_notes_if (accepts room header pdu now && not (is_empty pdu)) setup.link.handle pdu now)
  heard_takings role slot room header pdu facts event =
      let now = facts_before_taking setup.link.role slot header facts in
      let accepted = accepts room header pdu now in
      let kind = acked_kind (acks_control (has_acknowledged facts header) facts) facts in
      let took = took_notes_if (accepted && not (is_empty pdu)) setup.link.handle pdu now in
      let handle = setup.link.handle in
      let seen = given_if (accepted && is_procedure_pdu pdu) pdu slot now in
      let kept = kept_given_if (accepted && is_procedure_pdu pdu) pdu slot now in
      let given = given_notes handle seen ++ given_notes handle kept in
      takings_after role (done_notes handle kind) (took ++ given) event (silent_done role handle kind) (done_same_event handle event kind)
      ∙ takings_before role took given event (silent_both role (given_notes handle seen) (given_notes handle kept) (silent_given role handle seen) (silent_given role handle kept))

  heard_in_time : (slot : ℕ) (room : Bool) (header : DataHeader) (pdu : Pdu) (facts : Facts) → Orderly Peripheral facts
      → role_of facts.control.table.progress ≡ Peripheral → (facts_hearing Peripheral slot room header pdu facts).control.ends ≡ None
      → let now = facts_before_taking Peripheral slot header facts in
      AreInTime (event_of facts.control.track) (indication_taken (accepts room header pdu now && not (is_empty pdu)) pdu)
  heard_in_time slot room header pdu facts orderly role goes =
      let acks = has_acknowledged facts header in
      let own = acknowledged_if acks (heard_in_slot slot header.md facts) in
      let now = facts_before_taking Peripheral slot header facts in
      let accepted = accepts room header pdu now in
      let takes = accepted && is_procedure_pdu pdu in
      let seen = procedures_take_if takes pdu slot (accepted_if accepted pdu now) in
      let at = at_gone facts.control.track (answers_with_control Peripheral own) slot own (at_acked (acks_control acks facts) facts orderly role) in
      subst (λ (t : TrackFacts). AreInTime (event_of t) (indication_taken (accepted && not (is_empty pdu)) pdu)) at.track
      (took_in_time pdu slot (accepted_if accepted pdu now) accepted (is_empty pdu) (is_control pdu) refl at.role
      ((kept_data Peripheral (accepted && is_data pdu) seen).goes goes))

  heard_by : (role : Role) (slot : ℕ) (room : Bool) (header : DataHeader) (pdu : Pdu) (facts : Facts) → Orderly role facts → setup.link.role ≡ role
      → role_of facts.control.table.progress ≡ role → event_noted notes ≡ event_of facts.control.track → Holds role notes facts.control
      → Holds role (notes ++ notes_hearing setup slot room header pdu facts) (facts_hearing role slot room header pdu facts).control
  heard_by Central slot room header pdu facts orderly is role event h =
      let kept = kept_heard Central slot room header pdu facts orderly in
      let now = facts_before_taking setup.link.role slot header facts in
      holds_more Central notes (notes_hearing setup slot room header pdu facts) facts.control (facts_hearing Central slot room header pdu facts).control
      0 None h
      (heard_takings Central slot room header pdu facts (event_noted notes)
      ∙ took_silent (accepts room header pdu now && not (is_empty pdu)) pdu now (event_noted notes))
      (λ central. kept.sent central ∙ sym (append-nil facts.control.sent)) kept.goes (λ goes. All-nil _)
  heard_by Peripheral slot room header pdu facts orderly is role event h =
      let kept = kept_heard Peripheral slot room header pdu facts orderly in
      let now = facts_before_taking Peripheral slot header facts in
      let noted = accepts room header pdu now && not (is_empty pdu) in
      let takings = subst (λ (r : Role). let now = facts_before_taking r slot header facts in
      takings_from Peripheral (event_noted notes) (notes_hearing setup slot room header pdu facts)
      ≡ takings_from Peripheral (event_noted notes) (took_notes_if (accepts room header pdu now && not (is_empty pdu)) setup.link.handle pdu now)) is
      (heard_takings Peripheral slot room header pdu facts (event_noted notes)) in
      holds_more Peripheral notes (notes_hearing setup slot room header pdu facts) facts.control (facts_hearing Peripheral slot room header pdu facts).control
      (event_of facts.control.track) (indication_taken noted pdu) h
      (takings ∙ took_takings noted setup.link.handle (event_noted notes) pdu now
      ∙ ap (λ (n : ℕ). taking_if n (indication_taken noted pdu)) event)
      (λ central. absurd (cc)) kept.goes (heard_in_time slot room header pdu facts orderly role)

  pub holds_heard : (slot : ℕ) (room : Bool) (header : DataHeader) (pdu : Pdu) (facts : Facts) → Orderly setup.link.role facts
      → role_of facts.control.table.progress ≡ setup.link.role
      → event_noted notes ≡ event_of facts.control.track → Holds setup.link.role notes facts.control
      → Holds setup.link.role (notes ++ notes_hearing setup slot room header pdu facts) (facts_hearing setup.link.role slot room header pdu facts).control
  holds_heard slot room header pdu facts orderly role event h = heard_by setup.link.role slot room header pdu facts orderly refl role event h
