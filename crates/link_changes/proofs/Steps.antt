-- An end and its notes, step by step.
use Rattle.std.proofs.Common.{◌≡◌, ℕ, ◌+◌, ◌≤◌, ◌==◌, ◌&&◌, not, Bool, true, false, List, [], ◌∷◌, ◌++◌, length, Option, Some, None, is_none, is_some, Result, Ok, Err, refl, sym, ap, subst, ◌∙◌, if◌then◌else◌}
use Rattle.std.specs.List.{AllByRecursion}
use Rattle.std.proofs.lemmas.List.{append-nil, append_assoc}
use Rattle.ble_base.specs.ErrorCodes.{mic_failure}
use Rattle.ble_base.specs.declared.error_codes.ErrCode.{ErrCode}
use Rattle.ble_base.specs.declared.notes.Note.{Note}
use Rattle.ble_base.specs.declared.notes.Note.TheVariants.{Began, Done, Enter, Refused, Sent, Took}
use Rattle.ble_base.specs.declared.procedure_kinds.Kind.{Kind}
use Rattle.ble_base.specs.declared.roles.Role.{Role}
use Rattle.ble_base.specs.declared.roles.Role.TheVariants.{Central, Peripheral}
use Rattle.data_pdu.specs.Layouts.{written}
use Rattle.data_pdu.specs.Reading.{ctrl_of}
use Rattle.data_pdu.specs.declared.ctrl.Ctrl.{Ctrl}
use Rattle.data_pdu.specs.declared.ctrl.Ctrl.TheVariants.{StartEncReq}
use Rattle.data_pdu.specs.declared.ctrl.CtrlRead.{CtrlRead}
use Rattle.data_pdu.specs.declared.ctrl.CtrlRead.TheVariants.{Known}
use Rattle.data_pdu.specs.Header.{header_in}
use Rattle.data_pdu.specs.declared.header.DataHeader.{DataHeader}
use Rattle.wire_fields.specs.Field.{little_endian}
use Rattle.instants.specs.Track.{TrackFacts, event_of, next_number, track_after_enter}
use Rattle.link_model.specs.procedure_values.declared.asks.Ask.{Ask}
use Rattle.link_model.specs.procedure_values.declared.asks.Ask.TheVariants.{Map as ask_map, Update as ask_update}
use Rattle.link_model.specs.procedure_stages.Queue.{waiting_in}
use Rattle.link_model.specs.procedure_stages.Kinds.{role_of}
use Rattle.link_model.specs.procedures.Beginning.{begin_step}
use Rattle.link_model.specs.procedures.Sending.{next_ctrl_of}
use Rattle.link_model.specs.control_model.Control.{Control, Step as ControlStep, Answers, Asks, Disconnects, Enters, Owes, SeesAcknowledged, Sends, Takes, after, ended}
use Rattle.link_model.specs.control_model.Waits.{is_of_table_alone}
use Rattle.link_model.proofs.control_model.Moving.{central_takes, enters_track, peripheral_sends, table_alone}
use Rattle.link_model.proofs.control_model.Calls.{any_step}
use Rattle.link_model.specs.keyed_control.Keyed.{Keyed}
use Rattle.link_model.specs.keyed_control.KeyedSteps.{Enters as KeyedEnters, GivesKey, LacksKey, SeesAcknowledged as KeyedSees, Takes as KeyedTakes, TakesData as KeyedTakesData, keyed_after, keyed_moved}
use Rattle.link_model.specs.phased_control.Taken.{seen_as}
use Rattle.link_model.specs.phased_end.Taking.{drawn}
use Rattle.link_model.specs.control_end.Answers.{entry_step, is_update_waiting, no_entry}
use Rattle.link_model.specs.control_end.Held.{held_of}
use Rattle.link_model.specs.control_end.declared.answers.Entry.{Entry}
use Rattle.link_model.specs.control_end.declared.answers.Taken.{Taken}
use Rattle.link_model.specs.Acknowledgement.{Pdu, is_acked}
use Rattle.link_model.specs.Controls.{goes_on, is_procedure_pdu, is_quiet_now, next_control, pdu_fixed, pdu_of_control, read_of}
use Rattle.link_model.specs.AskRanges.{IsAskInRange}
use Rattle.link_model.specs.Data.{Data, data_acked_if, data_given, is_control, is_data, is_empty, next_piece, numbered, pdu_with}
use Rattle.link_model.specs.End.{facts_after, facts_of, notes_after, notes_of}
use Rattle.link_model.specs.Entering.{began_notes, control_entered, done_notes, event_notes, facts_entered_if}
use Rattle.link_model.specs.Events.{applied_notes, event_entered}
use Rattle.link_model.specs.Facts.{Facts, keyed_of}
use Rattle.link_model.specs.Fixing.{data_cut, data_fixed_by, data_goes, fixed_anew}
use Rattle.link_model.specs.Hosts.{asked_unless, is_to_come, key_step}
use Rattle.link_model.specs.Payload.{payload_made}
use Rattle.link_model.specs.Packets.{good_pdu, is_forged}
use Rattle.link_model.specs.Receiving.{accepted_if, accepts, acked_kind, acknowledged_if, acks_control, answers_with_control, control_taken, data_taken_if, ended_by_forgery, facts_before_taking, facts_hearing, facts_received, given_if, given_notes, has_acknowledged, heard_in_slot, kept_given_if, keyed_acked_if, notes_hearing, procedures_take_if, received_notes, refused_notes, took_notes_if}
use Rattle.link_model.specs.Sending.{control_gone_if, data_sent_as, facts_sent, sent_notes, sent_notes_if, takes_leave}
use Rattle.link_model.specs.Setup.{Setup, first_anchor, first_params}
use Rattle.link_model.specs.Step.{Step, DataGiven, DataReported, Disconnected, EventEntered, KeyAnswered, PacketReceived, PacketSent, PduFixed, ProcedureAsked, RequestAnswered, WordsGiven}
use Rattle.link_model.specs.Verdicts.{pdu_of}
use Rattle.link_model.proofs.Choices.{either_forged}
use Rattle.link_model.proofs.Pasts.{grows, notes_grow}
use Rattle.link_changes.specs.InForce.{AsksMap, HasRanges}
use Rattle.link_changes.specs.Noted.{indication_in, indication_noted, indication_read}
use Rattle.link_changes.proofs.Knowing.{Knows, knows_entered, knows_first}
use Rattle.link_changes.proofs.Notes.{IsSilent, IsStill, silent_both, silent_none, still_none}
use Rattle.link_changes.proofs.Parts.{Part, part_alone, part_ended, part_more, part_over, part_owes, part_same, part_sends, part_takes, silent_one}
use Rattle.link_changes.proofs.Phases.{acknowledged_by, data_by, entered_by, given_by, lacking_by, seen_says, takes_by}
use Rattle.link_changes.proofs.Readable.{IsGood, IsOwed}
use Rattle.link_changes.proofs.Reached.{reached_first, reached_then}
use Rattle.link_changes.proofs.Requests.{Orderly, orderly_heard, past_orderly}
use Rattle.link_changes.proofs.Taking.{read_says}

pub none_of : (ends : Option ErrCode) → is_none ends ≡ true → ends ≡ None
none_of None is = refl
none_of (Some code) is = absurd (cc)

no_more : {X : Type 0} (b : Bool) → b ≡ true → b ≡ false → X
no_more true on off = absurd (cc)
no_more false on off = absurd (cc)

-- ---- notes of procedures say nothing

done_silent : (role : Role) (handle : ℕ) (kind : Option Kind) → IsSilent role (done_notes handle kind)
done_silent role handle None = silent_none role
done_silent role handle (Some kind) = silent_one role (Done handle kind) (by role) (record { event = λ event. refl; none = refl })
  where
    by : (role : Role) → indication_noted role (Done handle kind) ≡ None
    by Central = refl
    by Peripheral = refl

began_silent : (role : Role) (handle : ℕ) (kind : Option Kind) → IsSilent role (began_notes handle kind)
began_silent role handle None = silent_none role
began_silent role handle (Some kind) = silent_one role (Began handle kind) (by role) (record { event = λ event. refl; none = refl })
  where
    by : (role : Role) → indication_noted role (Began handle kind) ≡ None
    by Central = refl
    by Peripheral = refl

refused_silent : (role : Role) (handle : ℕ) (refused : Option (Kind × ErrCode)) → IsSilent role (refused_notes handle refused)
refused_silent role handle None = silent_none role
refused_silent role handle (Some (kind, code)) = silent_one role (Refused handle kind code) (by role) (record { event = λ event. refl; none = refl })
  where
    by : (role : Role) → indication_noted role (Refused handle kind code) ≡ None
    by Central = refl
    by Peripheral = refl

given_silent : (role : Role) (handle : ℕ) (given : Taken) → IsSilent role (given_notes handle given)
given_silent role handle given =
    silent_both role (refused_notes handle given.refused) (done_notes handle given.done) (refused_silent role handle given.refused) (done_silent role handle given.done)

-- ---- a PDU that is no control PDU is no indication

no_control : (pdu : Pdu) → is_control pdu ≡ false → indication_in pdu.llid pdu.body ≡ None
no_control pdu is = ap (λ (b : Bool). if b then indication_read (ctrl_of pdu.body) else None) is

a_control : (pdu : Pdu) → is_control pdu ≡ true → indication_in pdu.llid pdu.body ≡ indication_read (ctrl_of pdu.body)
a_control pdu is = ap (λ (b : Bool). if b then indication_read (ctrl_of pdu.body) else None) is

pub filled : (ctrl : Ctrl) → (length (written ctrl) == 0) ≡ false
unfolding little_endian
filled StartEncReq = refl
filled other = refl

-- ---- the notes of an event that is entered

abbrev pub entry_when : ℕ → Bool → Control → Bool → Entry
entry_when slot quiet c b =
    if b
    then record {
      applied = next_number c.track;
      updated = is_some (next_number c.track) && is_update_waiting c.track.waits;
      done = (entry_step (held_of c)).1;
      began = (begin_step (entry_step (held_of c)).0 slot quiet).1;
    }
    else no_entry

abbrev pub notes_when : Setup → ℕ → Bool → Control → TrackFacts → Bool → List Note
notes_when setup slot quiet c t b =
    if b then event_notes setup.link.handle (event_entered setup slot t) (entry_when slot quiet c b) else []

-- a PDU of an encryption that is queued then leaves the track
entered_track : (slot : ℕ) (facts : Facts) → is_none facts.control.ends ≡ true → (control_entered slot facts).track ≡ track_after_enter facts.control.track
entered_track slot facts lasts =
    let k = keyed_of facts in
    let quiet = is_quiet_now facts in
    let P = λ (c : Control). c.track ≡ track_after_enter facts.control.track in
    subst (λ (b : Bool). (if b then keyed_moved (KeyedEnters slot) k else k).phased.control.track ≡ track_after_enter facts.control.track) (sym lasts)
    (entered_by P (λ ctrl. λ c. λ is. λ h. table_alone c (Owes ctrl) refl ∙ h) slot k.phased
    (enters_track facts.control slot quiet (none_of facts.control.ends lasts)))

pub entry_notes_are : (setup : Setup) (slot : ℕ) (facts : Facts)
    → notes_after setup facts (EventEntered slot)
    ≡ notes_when setup slot (is_quiet_now facts) facts.control (track_after_enter facts.control.track) (is_none facts.control.ends)
entry_notes_are setup slot facts = by (is_none facts.control.ends) refl
  where
    notes : TrackFacts → Bool → List Note
    notes t b = notes_when setup slot (is_quiet_now facts) facts.control t b

    by : (b : Bool) → is_none facts.control.ends ≡ b → notes (control_entered slot facts).track b ≡ notes (track_after_enter facts.control.track) b
    by true lasts = ap (λ (t : TrackFacts). notes t true) (entered_track slot facts lasts)
    by false over = refl

-- ---- what is known of an end

pub record IsKnown (setup : Setup) (notes : List Note) (facts : Facts) : Type 0 where
  pub part : Part setup.link.role setup.link.max_rx (first_params setup.link.fields) (first_anchor setup) notes facts.control
  -- a central fixes no control PDU before it sends it
  pub fixed : setup.link.role ≡ Central → is_control facts.outgoing.fixed ≡ false

-- what is taken for granted of one step
abbrev pub IsGoodStep : Step → Type 0
IsGoodStep step = IsAskInRange step × AsksMap step

module _ (setup : Setup) (latency : setup.link.role ≡ Central → setup.link.fields.latency ≤ 499) where
  abbrev role : Role
  role = setup.link.role

  abbrev PartOf : List Note → Control → Type 0
  PartOf notes c = Part setup.link.role setup.link.max_rx (first_params setup.link.fields) (first_anchor setup) notes c

  abbrev more : (notes some : List Note) (c : Control) → PartOf notes c → IsSilent role some → PartOf (notes ++ some) c
  more = part_more setup.link.role setup.link.max_rx (first_params setup.link.fields) (first_anchor setup)

  abbrev same : (notes some : List Note) (c : Control) (step : ControlStep) → PartOf notes c → (role ≡ Central → IsGood step) → (after step c).track ≡ c.track
      → IsSilent role some → PartOf (notes ++ some) (after step c)
  same = part_same setup.link.role setup.link.max_rx (first_params setup.link.fields) (first_anchor setup)

  abbrev alone : (notes : List Note) (c : Control) (step : ControlStep) → PartOf notes c → (role ≡ Central → IsGood step) → is_of_table_alone step ≡ true
      → PartOf notes (after step c)
  alone = part_alone setup.link.role setup.link.max_rx (first_params setup.link.fields) (first_anchor setup)

  role_now : (notes : List Note) (c : Control) → PartOf notes c → role_of c.table.progress ≡ role
  role_now notes c p = p.reached.is_role

  over : (notes some : List Note) (c : Control) (code : ErrCode) → PartOf notes c → IsStill some → PartOf (notes ++ some) (ended code c)
  over = part_over setup.link.role setup.link.max_rx (first_params setup.link.fields) (first_anchor setup)

  owes : (notes : List Note) (ctrl : Ctrl) (c : Control) → IsOwed ctrl → PartOf notes c → PartOf notes (after (Owes ctrl) c)
  owes = part_owes setup.link.role setup.link.max_rx (first_params setup.link.fields) (first_anchor setup)

  -- no note more
  bare : (notes : List Note) (c : Control) → PartOf (notes ++ []) c → PartOf notes c
  bare notes c p = subst (λ (all : List Note). PartOf all c) (append-nil notes) p

  -- a step of procedures, phase and keys, which is none once the link ended
  whether : (notes : List Note) (b : Bool) (j k : Keyed) → (b ≡ true → PartOf notes j.phased.control) → (b ≡ false → PartOf notes k.phased.control)
      → PartOf notes (if b then j else k).phased.control
  whether notes true j k moves stays = moves refl
  whether notes false j k moves stays = stays refl

  -- ---- an event is entered

  entered_part : (notes : List Note) (slot : ℕ) (quiet : Bool) (c : Control) → is_none c.ends ≡ true → PartOf notes c
      → PartOf (notes ++ notes_when setup slot quiet c (track_after_enter c.track) true) (after (Enters slot quiet) c)
  entered_part notes slot quiet c lasts p =
      let d = after (Enters slot quiet) c in
      let u = track_after_enter c.track in
      let channel = (event_entered setup slot u).channel in
      let entry = entry_when slot quiet c true in
      let first = applied_notes setup.link.handle (event_of u) entry.applied ++ Enter setup.link.handle (record { 0 = event_of u }) channel ∷ [] in
      let done = done_notes setup.link.handle entry.done in
      let began = began_notes setup.link.handle entry.began in
      let track : d.track ≡ u = enters_track c slot quiet (none_of c.ends lasts) in
      let ends : d.ends ≡ c.ends = any_step (λ (e : Control). e.ends ≡ c.ends) (Enters slot quiet) c refl refl in
      let goes : is_none d.ends ≡ true = ap (λ (e : Option ErrCode). is_none e) ends ∙ lasts in
      let known = knows_entered role (first_params setup.link.fields) (first_anchor setup) notes c.track setup.link.handle channel
      (subst (λ (b : Bool). Knows role (first_params setup.link.fields) (first_anchor setup) notes b c.track) lasts p.knows) in
      let there : PartOf (notes ++ first) d = record {
        reached = reached_then role setup.link.max_rx (first_params setup.link.fields) (first_anchor setup) c (Enters slot quiet) p.reached (λ central. (tt, tt));
        knows = subst (λ (b : Bool). Knows role (first_params setup.link.fields) (first_anchor setup) (notes ++ first) b d.track) (sym goes)
            (subst (λ (t : TrackFacts). Knows role (first_params setup.link.fields) (first_anchor setup) (notes ++ first) true t) (sym track) known);
      } in
      subst (λ (all : List Note). PartOf all d) (append_assoc (notes ++ first) done began ∙ append_assoc notes first (done ++ began) ∙ ap (λ (some : List Note). notes ++ some) (sym (append_assoc first done began)))
      (more ((notes ++ first) ++ done) began d (more (notes ++ first) done d there (done_silent role setup.link.handle entry.done)) (began_silent role setup.link.handle entry.began))

  event_part : (notes : List Note) (slot : ℕ) (facts : Facts) (b : Bool) → is_none facts.control.ends ≡ b → PartOf notes facts.control
      → PartOf (notes ++ notes_when setup slot (is_quiet_now facts) facts.control (track_after_enter facts.control.track) b)
      (facts_entered_if b setup slot facts).control
  event_part notes slot facts false is p = more notes [] facts.control p (silent_none role)
  event_part notes slot facts true is p =
      let k = keyed_of facts in
      let quiet = is_quiet_now facts in
      let all = notes ++ notes_when setup slot quiet facts.control (track_after_enter facts.control.track) true in
      whether all (is_none facts.control.ends) (keyed_moved (KeyedEnters slot) k) k
      (λ lasts. entered_by (λ (c : Control). PartOf all c) (owes all) slot k.phased (entered_part notes slot quiet facts.control is p))
      (λ ends. no_more (is_none facts.control.ends) is ends)

  -- ---- the host has a key, or none

  key_part : (notes : List Note) (key : Option (List ℕ)) (facts : Facts) → PartOf notes facts.control → PartOf notes (keyed_after (key_step key) (keyed_of facts)).phased.control
  key_part notes None facts p =
      let k = keyed_of facts in
      whether notes (is_none facts.control.ends) (keyed_moved LacksKey k) k (λ lasts. lacking_by (λ (c : Control). PartOf notes c) (owes notes) k.phased p) (λ ends. p)
  key_part notes (Some ltk) facts p =
      let k = keyed_of facts in
      whether notes (is_none facts.control.ends) (keyed_moved (GivesKey ltk) k) k (λ lasts. given_by (λ (c : Control). PartOf notes c) (owes notes) k.phased p) (λ ends. p)

  -- ---- a packet is sent

  sent_silent : (b : Bool) (number : ℕ) (pdu : Pdu) → indication_noted role (Sent setup.link.handle (number + 1) pdu.llid (record { items = pdu.body })) ≡ None
      → IsSilent role (sent_notes_if b setup.link.handle number pdu)
  sent_silent true number pdu none = silent_one role _ none (record { event = λ event. refl; none = refl })
  sent_silent false number pdu none = silent_none role

  gone_at_peripheral : (notes : List Note) (slot : ℕ) (facts : Facts) (b : Bool) → role ≡ Peripheral → PartOf notes facts.control
      → PartOf notes (control_gone_if b slot facts).control
  gone_at_peripheral notes slot facts true is p =
      let quiet = is_quiet_now facts in
      subst (λ (all : List Note). PartOf all (after (Sends slot quiet) facts.control)) (append-nil notes)
      (same notes [] facts.control (Sends slot quiet) p (λ central. (tt, tt)) (peripheral_sends facts.control slot quiet (role_now notes facts.control p ∙ is)) (silent_none role))
  gone_at_peripheral notes slot facts false is p = p

  goes_if : (b : Bool) (next : Option Ctrl) (ctrl : Ctrl) → (if b then next else None) ≡ Some ctrl → (b ≡ true) × (next ≡ Some ctrl)
  goes_if true next ctrl is = (refl, is)
  goes_if false next ctrl is = absurd (cc)

  stays_if : (b : Bool) (next : Option Ctrl) (c d : Control) → (if b then next else None) ≡ None → (if b then (if is_some next then d else c) else c).track ≡ c.track
  stays_if false next c d is = refl
  stays_if true None c d is = refl
  stays_if true (Some ctrl) c d is = absurd (cc)

  control_sent : (notes : List Note) (slot number : ℕ) (facts : Facts) (next : Option Ctrl) → next_control facts ≡ next → role ≡ Central → PartOf notes facts.control
      → PartOf (notes ++ sent_notes_if (not (is_empty (pdu_of_control next))) setup.link.handle number (pdu_of_control next)) (after (Sends slot (is_quiet_now facts)) facts.control)
  control_sent notes slot number facts None none is p =
      let quiet = is_quiet_now facts in
      same notes [] facts.control (Sends slot quiet) p (λ central. (tt, tt))
      (stays_if (is_none facts.control.ends) (next_ctrl_of facts.control.table (event_of facts.control.track) facts.control.track.params.latency quiet) facts.control _ none)
      (silent_none role)
  control_sent notes slot number facts (Some ctrl) goes is p =
      let quiet = is_quiet_now facts in
      let parts = goes_if (is_none facts.control.ends) (next_ctrl_of facts.control.table (event_of facts.control.track) facts.control.track.params.latency quiet) ctrl goes in
      let note = Sent setup.link.handle (number + 1) 3 (record { items = written ctrl }) in
      subst (λ (b : Bool). PartOf (notes ++ sent_notes_if (not b) setup.link.handle number (pdu_of_control (Some ctrl))) (after (Sends slot quiet) facts.control)) (sym (filled ctrl))
      (part_sends setup.link.role setup.link.max_rx (first_params setup.link.fields) (first_anchor setup) notes note facts.control
      (record { event = λ event. refl; none = refl }) ctrl slot quiet parts.1 is (latency is) (none_of facts.control.ends parts.0) p
      (ap (λ (r : Role). indication_noted r note) is))

  sent_at_central : (notes : List Note) (slot number : ℕ) (facts : Facts) (acked fixes : Bool) → role ≡ Central → is_control facts.outgoing.fixed ≡ false → PartOf notes facts.control
      → let pdu = (if fixes then pdu_of_control (next_control facts) else facts.outgoing.fixed) in
      PartOf (notes ++ sent_notes_if (acked && not (is_empty pdu)) setup.link.handle number pdu) (control_gone_if (acked && fixes) slot facts).control
  sent_at_central notes slot number facts false fixes is fixed p = more notes [] facts.control p (silent_none role)
  sent_at_central notes slot number facts true false is fixed p =
      more notes _ facts.control p
      (sent_silent (not (is_empty facts.outgoing.fixed)) number facts.outgoing.fixed
      (ap (λ (r : Role). indication_noted r (Sent setup.link.handle (number + 1) facts.outgoing.fixed.llid (record { items = facts.outgoing.fixed.body }))) is
      ∙ no_control facts.outgoing.fixed fixed))
  sent_at_central notes slot number facts true true is fixed p = control_sent notes slot number facts (next_control facts) refl is p

  sent_part : (notes : List Note) (slot : ℕ) (facts : Facts) (r : Role) → role ≡ r → IsKnown setup notes facts
      → PartOf (notes ++ sent_notes setup facts) (facts_sent slot facts).control
  sent_part notes slot facts Central is k =
      sent_at_central notes slot (numbered facts.acknowledgement.sent) facts (is_acked facts.acknowledgement) facts.fixes_control is (k.fixed is) k.part
  sent_part notes slot facts Peripheral is k =
      more notes (sent_notes setup facts) (facts_sent slot facts).control
      (gone_at_peripheral notes slot facts (takes_leave facts) is k.part)
      (sent_silent (is_acked facts.acknowledgement && not (is_empty (pdu_fixed facts))) (numbered facts.acknowledgement.sent) (pdu_fixed facts)
      (ap (λ (r : Role). indication_noted r (Sent setup.link.handle (numbered facts.acknowledgement.sent + 1) (pdu_fixed facts).llid (record { items = (pdu_fixed facts).body }))) is))

  sent_fixed : (payload : List ℕ) (acked : Bool) (outgoing : Data) → (acked ≡ false → is_control outgoing.fixed ≡ false)
      → is_control (data_sent_as payload acked outgoing).fixed ≡ false
  sent_fixed payload true outgoing h = refl
  sent_fixed payload false outgoing h = h refl

  unsent_fixed : (slot : ℕ) (facts : Facts) (leaves : Bool) → takes_leave facts ≡ leaves → is_control facts.outgoing.fixed ≡ false
      → is_acked (control_gone_if leaves slot facts).acknowledgement ≡ false → is_control (control_gone_if leaves slot facts).outgoing.fixed ≡ false
  unsent_fixed slot facts true is fixed out =
      let no : ◌≡◌ {A = Bool} false true = ap (λ (b : Bool). b && facts.fixes_control) (sym out) ∙ is in absurd (cc)
  unsent_fixed slot facts false is fixed out = fixed

  -- ---- a packet is received

  acked_part : (notes some : List Note) (facts : Facts) (b : Bool) → Orderly setup.link.role facts → PartOf notes facts.control → IsSilent role some
      → PartOf (notes ++ some) (keyed_acked_if b (keyed_of facts)).phased.control
  acked_part notes some facts false orderly p silent = more notes some facts.control p silent
  acked_part notes some facts true orderly p silent =
      let k = keyed_of facts in
      whether (notes ++ some) (is_none facts.control.ends) (keyed_moved KeyedSees k) k
      (λ lasts. acknowledged_by (λ (c : Control). PartOf (notes ++ some) c) (owes (notes ++ some)) k.phased (orderly lasts).request
      (same notes some facts.control SeesAcknowledged p (λ central. (tt, tt)) (table_alone facts.control SeesAcknowledged refl) silent))
      (λ ends. more notes some facts.control p silent)

  gone_part : (notes : List Note) (slot : ℕ) (facts : Facts) (r : Role) → role ≡ r → PartOf notes facts.control
      → PartOf notes (control_gone_if (answers_with_control role facts) slot facts).control
  gone_part notes slot facts Central is p =
      subst (λ (r : Role). PartOf notes (control_gone_if (answers_with_control r facts) slot facts).control) (sym is) p
  gone_part notes slot facts Peripheral is p = gone_at_peripheral notes slot facts (answers_with_control role facts) is p

  abbrev a_note : ℕ → Pdu → Note
  a_note number pdu = Took setup.link.handle number pdu.llid (record { items = pdu.body })

  a_note_still : (number : ℕ) (pdu : Pdu) → IsStill (a_note number pdu ∷ [])
  a_note_still number pdu = record { event = λ event. refl; none = refl }

  -- a central takes no indication
  note_silent : (number : ℕ) (pdu : Pdu) → role ≡ Central → IsSilent role (a_note number pdu ∷ [])
  note_silent number pdu is = silent_one role (a_note number pdu) (ap (λ (r : Role). indication_noted r (a_note number pdu)) is) (a_note_still number pdu)

  -- the procedures see it
  seen_part : (notes : List Note) (number slot : ℕ) (pdu : Pdu) (seen : CtrlRead) (quiet : Bool) (c : Control) (r : Role) → role ≡ r → is_control pdu ≡ true
      → indication_read seen ≡ indication_read (ctrl_of pdu.body) → PartOf notes c → PartOf (notes ++ a_note number pdu ∷ []) (after (Takes seen slot quiet) c)
  seen_part notes number slot pdu seen quiet c Central is control says p =
      same notes (a_note number pdu ∷ []) c (Takes seen slot quiet) p (λ central. (tt, tt)) (central_takes c seen slot quiet (role_now notes c p ∙ is)) (note_silent number pdu is)
  seen_part notes number slot pdu seen quiet c Peripheral is control says p =
      part_takes setup.link.role setup.link.max_rx (first_params setup.link.fields) (first_anchor setup) notes (a_note number pdu) c (a_note_still number pdu) seen slot quiet is p
      (ap (λ (r : Role). indication_noted r (a_note number pdu)) is ∙ a_control pdu control ∙ sym says)

  -- then a central sees the one that it kept
  kept_part : (all : List Note) (slot : ℕ) (ctrl : Ctrl) (c : Control) (kept : Option Ctrl) (r : Role) → role ≡ r → (role ≡ Peripheral → kept ≡ None) → kept ≡ Some ctrl
      → PartOf all c → PartOf all (after (Takes (Known ctrl) slot true) c)
  kept_part all slot ctrl c kept Central is none some p =
      bare all (after (Takes (Known ctrl) slot true) c)
      (same all [] c (Takes (Known ctrl) slot true) p (λ central. (tt, tt)) (central_takes c (Known ctrl) slot true (role_now all c p ∙ is)) (silent_none role))
  kept_part all slot ctrl c kept Peripheral is none some p = let no : None ≡ Some ctrl = sym (none is) ∙ some in absurd (cc)

  control_taken_part : (notes : List Note) (number slot : ℕ) (pdu : Pdu) (facts : Facts) → is_control pdu ≡ true → Orderly setup.link.role facts → PartOf notes facts.control
      → PartOf (notes ++ a_note number pdu ∷ []) (control_taken pdu slot facts)
  control_taken_part notes number slot pdu facts control orderly p =
      let k = keyed_of facts in
      let s = k.phased in
      let c = facts.control in
      let read = read_of pdu in
      let all = notes ++ a_note number pdu ∷ [] in
      let still = a_note_still number pdu in
      let response = drawn facts.encryption.response in
      whether all (is_none c.ends) (keyed_moved (KeyedTakes read slot response) k) k
      (λ lasts. takes_by (λ (d : Control). PartOf all d) (owes all) slot response read s (λ code. over notes (a_note number pdu ∷ []) c code p still)
      (λ central. more notes (a_note number pdu ∷ []) c p (note_silent number pdu (sym (role_now notes c p) ∙ central)))
      (seen_part notes number slot pdu (seen_as read s) (is_quiet_now facts) c role refl control (seen_says read s ∙ read_says pdu) p)
      (λ ctrl. λ d. λ is. λ h. kept_part all slot ctrl d facts.encryption.kept role refl (orderly lasts).kept is h))
      (λ ends. part_ended setup.link.role setup.link.max_rx (first_params setup.link.fields) (first_anchor setup) notes (a_note number pdu ∷ []) c ends p still)

  other_taken : (number : ℕ) (pdu : Pdu) (r : Role) → role ≡ r → is_control pdu ≡ false → indication_noted role (a_note number pdu) ≡ None
  other_taken number pdu Central is other = ap (λ (r : Role). indication_noted r (a_note number pdu)) is
  other_taken number pdu Peripheral is other = ap (λ (r : Role). indication_noted r (a_note number pdu)) is ∙ no_control pdu other

  taken_part : (notes : List Note) (slot : ℕ) (pdu : Pdu) (now facts : Facts) (accepted empty control : Bool) → is_control pdu ≡ control → Orderly setup.link.role facts
      → PartOf notes facts.control
      → PartOf (notes ++ took_notes_if (accepted && not empty) setup.link.handle pdu now) (procedures_take_if (accepted && (control && not empty)) pdu slot facts).control
  taken_part notes slot pdu now facts false empty control is orderly p = more notes [] facts.control p (silent_none role)
  taken_part notes slot pdu now facts true true true is orderly p = more notes [] facts.control p (silent_none role)
  taken_part notes slot pdu now facts true true false is orderly p = more notes [] facts.control p (silent_none role)
  taken_part notes slot pdu now facts true false true is orderly p =
      control_taken_part notes (numbered now.acknowledgement.accepted + 1) slot pdu facts is orderly p
  taken_part notes slot pdu now facts true false false is orderly p =
      let number = numbered now.acknowledgement.accepted + 1 in
      more notes (a_note number pdu ∷ []) facts.control p (silent_one role (a_note number pdu) (other_taken number pdu role refl is) (a_note_still number pdu))

  -- data that the phase forbids ends the link
  data_part : (notes : List Note) (b : Bool) (facts : Facts) → PartOf notes facts.control → PartOf notes (data_taken_if b facts).control
  data_part notes false facts p = p
  data_part notes true facts p =
      let k = keyed_of facts in
      whether notes (is_none facts.control.ends) (keyed_moved KeyedTakesData k) k
      (λ lasts. data_by (λ (c : Control). PartOf notes c) k.phased (λ code. bare notes (ended code facts.control) (over notes [] facts.control code p still_none)) p) (λ ends. p)

  heard_part : (notes : List Note) (slot : ℕ) (room : Bool) (header : DataHeader) (pdu : Pdu) (facts : Facts) → Orderly setup.link.role facts → PartOf notes facts.control
      → PartOf (notes ++ notes_hearing setup slot room header pdu facts) (facts_hearing role slot room header pdu facts).control
  heard_part notes slot room header pdu facts orderly p =
      let acks = has_acknowledged facts header in
      let own = acknowledged_if acks (heard_in_slot slot header.md facts) in
      let now = facts_before_taking role slot header facts in
      let accepted = accepts room header pdu now in
      let done = done_notes setup.link.handle (acked_kind (acks_control acks facts) facts) in
      let took = took_notes_if (accepted && not (is_empty pdu)) setup.link.handle pdu now in
      let seen = given_notes setup.link.handle (given_if (accepted && is_procedure_pdu pdu) pdu slot now) in
      let kept = given_notes setup.link.handle (kept_given_if (accepted && is_procedure_pdu pdu) pdu slot now) in
      let last = (facts_hearing role slot room header pdu facts).control in
      let one = acked_part notes done facts (acks_control acks facts) orderly p (done_silent role setup.link.handle (acked_kind (acks_control acks facts) facts)) in
      let two = gone_part (notes ++ done) slot own role refl one in
      let opened = accepted_if accepted pdu now in
      let three : PartOf ((notes ++ done) ++ took) last =
      data_part ((notes ++ done) ++ took) (accepted && is_data pdu) (procedures_take_if (accepted && is_procedure_pdu pdu) pdu slot opened)
      (taken_part (notes ++ done) slot pdu now opened accepted (is_empty pdu) (is_control pdu) refl (orderly_heard role role slot header accepted pdu facts orderly) two) in
      subst (λ (all : List Note). PartOf all last)
      (append_assoc (notes ++ done) took (seen ++ kept) ∙ append_assoc notes done (took ++ (seen ++ kept)))
      (more ((notes ++ done) ++ took) (seen ++ kept) last three
      (silent_both role seen kept (given_silent role setup.link.handle (given_if (accepted && is_procedure_pdu pdu) pdu slot now))
      (given_silent role setup.link.handle (kept_given_if (accepted && is_procedure_pdu pdu) pdu slot now))))

  -- ---- the PDU that is fixed at a central

  acked_fixed : (b : Bool) (outgoing : Data) → (data_acked_if b outgoing).fixed ≡ outgoing.fixed
  acked_fixed true outgoing = refl
  acked_fixed false outgoing = refl

  given_fixed : (handle : ℕ) (start : Bool) (body : List ℕ) (outgoing : Data) → (data_given handle start body outgoing).fixed ≡ outgoing.fixed
  given_fixed handle start [] outgoing = refl
  given_fixed handle start (octet ∷ octets) outgoing = refl

  taking_fixed : (b : Bool) (pdu : Pdu) (slot : ℕ) (facts : Facts) → (procedures_take_if b pdu slot facts).outgoing ≡ facts.outgoing
  taking_fixed true pdu slot facts = refl
  taking_fixed false pdu slot facts = refl

  data_same : (b : Bool) (facts : Facts) → (data_taken_if b facts).outgoing ≡ facts.outgoing
  data_same true facts = refl
  data_same false facts = refl

  heard_fixed : (slot : ℕ) (room : Bool) (header : DataHeader) (pdu : Pdu) (facts : Facts)
      → (facts_hearing Central slot room header pdu facts).outgoing.fixed ≡ facts.outgoing.fixed
  heard_fixed slot room header pdu facts =
      let acks = has_acknowledged facts header in
      let now = facts_before_taking Central slot header facts in
      let accepted = accepts room header pdu now in
      let opened = accepted_if accepted pdu now in
      let takes = accepted && is_procedure_pdu pdu in
      ap (λ (outgoing : Data). outgoing.fixed) (data_same (accepted && is_data pdu) (procedures_take_if takes pdu slot opened) ∙ taking_fixed takes pdu slot opened)
      ∙ acked_fixed (acks && is_data facts.acknowledgement.last) facts.outgoing

  piece_is_data : (piece : Option _) → is_control (pdu_with piece) ≡ false
  piece_is_data None = refl
  piece_is_data (Some piece) = by piece.start
    where
      by : (start : Bool) → ((if start then 2 else 1) == 3) ≡ false
      by true = refl
      by false = refl

  data_one : (control : Bool) (waiting : ℕ) (quiet goes : Bool) (outgoing : Data) → is_control (data_fixed_by control waiting quiet goes outgoing).fixed ≡ false
  data_one true waiting quiet goes outgoing = refl
  data_one false waiting quiet true outgoing = piece_is_data (next_piece outgoing)
  data_one false waiting quiet false outgoing = refl

  fixed_fixed : (b : Bool) (facts : Facts) → is_control facts.outgoing.fixed ≡ false → is_control (if b then facts else fixed_anew facts).outgoing.fixed ≡ false
  fixed_fixed true facts is = is
  fixed_fixed false facts is =
      data_one (is_some (next_control facts)) (waiting_in facts.control.table.queue) (is_quiet_now facts) (data_goes facts) (data_cut facts)

  -- ---- each step

  good_ask : (ask : Ask) → IsGoodStep (ProcedureAsked ask) → IsGood (Asks ask)
  good_ask (ask_map map) is = is
  good_ask (ask_update interval latency timeout) is = (is.0, tt)
  good_ask other is = (is.0, tt)

  good_answer : (answer : Result Ask ErrCode) → IsGoodStep (RequestAnswered answer) → IsGood (Answers answer)
  good_answer (Ok ask) is = (is.0, tt)
  good_answer (Err code) is = (tt, tt)

  asked_known : (notes : List Note) (ask : Ask) (comes : Bool) (facts : Facts) → (role ≡ Central → IsGoodStep (ProcedureAsked ask)) → IsKnown setup notes facts
      → IsKnown setup notes (asked_unless comes ask facts)
  asked_known notes ask true facts good k = k
  asked_known notes ask false facts good k =
      record { part = alone notes facts.control (Asks ask) k.part (λ central. good_ask ask (good central)) refl; fixed = k.fixed }

  quiet_known : (notes : List Note) (facts : Facts) → IsKnown setup notes facts → IsKnown setup (notes ++ []) facts
  quiet_known notes facts k = subst (λ (all : List Note). IsKnown setup all facts) (sym (append-nil notes)) k

  entered_if : (b : Bool) (slot : ℕ) (facts : Facts) → (facts_entered_if b setup slot facts).outgoing ≡ facts.outgoing
  entered_if true slot facts = refl
  entered_if false slot facts = refl

  event_known : (notes : List Note) (slot : ℕ) (facts : Facts) → IsKnown setup notes facts
      → IsKnown setup (notes ++ notes_after setup facts (EventEntered slot)) (facts_after setup facts (EventEntered slot))
  event_known notes slot facts k =
      subst (λ (some : List Note). IsKnown setup (notes ++ some) (facts_entered_if (goes_on facts) setup slot facts)) (sym (entry_notes_are setup slot facts))
      (record {
        part = event_part notes slot facts (is_none facts.control.ends) refl k.part;
        fixed = λ central. ap (λ (outgoing : Data). is_control outgoing.fixed) (entered_if (goes_on facts) slot facts) ∙ k.fixed central;
      })

  -- ---- octets are received

  hearing_known : (notes : List Note) (slot : ℕ) (room : Bool) (good : Option (List ℕ)) (facts : Facts) → Orderly setup.link.role facts → IsKnown setup notes facts
      → IsKnown setup (notes ++ received_notes setup slot room good facts) (facts_received role slot room good facts)
  hearing_known notes slot room None facts orderly k = quiet_known notes facts k
  hearing_known notes slot room (Some octets) facts orderly k =
      let header = header_in octets in
      let pdu = pdu_of octets in record {
        part = heard_part notes slot room header pdu facts orderly k.part;
        fixed = λ central.
            ap (λ (r : Role). is_control (facts_hearing r slot room header pdu facts).outgoing.fixed) central
            ∙ ap is_control (heard_fixed slot room header pdu facts) ∙ k.fixed central;
      }

  forged_part : (notes : List Note) (c : Control) → PartOf notes c → PartOf notes (ended_by_forgery c)
  forged_part notes c p = by (is_none c.ends)
    where
      by : (b : Bool) → PartOf notes (if b then ended (record { 0 = mic_failure }) c else c)
      by true = bare notes (ended (record { 0 = mic_failure }) c) (over notes [] c (record { 0 = mic_failure }) p still_none)
      by false = p

  packet_known : (notes : List Note) (slot : ℕ) (octets : List ℕ) (room : Bool) (facts : Facts) → Orderly setup.link.role facts → IsKnown setup notes facts
      → IsKnown setup (notes ++ notes_after setup facts (PacketReceived slot octets room)) (facts_after setup facts (PacketReceived slot octets room))
  packet_known notes slot octets room facts orderly k =
      let good = good_pdu setup facts octets in
      let all = notes ++ received_notes setup slot room good facts in
      let next = facts_received role slot room good facts in
      let known = hearing_known notes slot room good facts orderly k in
      either_forged (λ (later : Facts). IsKnown setup all later) (is_forged setup facts octets) next
      (record { part = forged_part all next.control known.part; fixed = known.fixed }) known

  pub step_known : (notes : List Note) (facts : Facts) (step : Step) → (role ≡ Central → IsGoodStep step) → Orderly setup.link.role facts → IsKnown setup notes facts
      → IsKnown setup (notes ++ notes_after setup facts step) (facts_after setup facts step)
  step_known notes facts (DataGiven start body) good orderly k =
      quiet_known notes _ (record {
        part = k.part;
        fixed = λ central. ap is_control (given_fixed setup.link.handle start body facts.outgoing) ∙ k.fixed central;
      })
  step_known notes facts (ProcedureAsked ask) good orderly k = quiet_known notes _ (asked_known notes ask (is_to_come ask facts) facts good k)
  step_known notes facts (RequestAnswered answer) good orderly k =
      quiet_known notes _ (record { part = alone notes facts.control (Answers answer) k.part (λ central. good_answer answer (good central)) refl; fixed = k.fixed })
  step_known notes facts (Disconnected reason slot) good orderly k =
      quiet_known notes _ (record { part = alone notes facts.control (Disconnects reason) k.part (λ central. (tt, tt)) refl; fixed = k.fixed })
  step_known notes facts (KeyAnswered key slot) good orderly k =
      quiet_known notes _ (record { part = key_part notes key facts k.part; fixed = k.fixed })
  step_known notes facts (EventEntered slot) good orderly k = event_known notes slot facts k
  step_known notes facts PduFixed good orderly k =
      quiet_known notes _ (record {
        part = subst (λ (c : Control). PartOf notes c) (sym (kept (is_control facts.outgoing.fixed))) k.part;
        fixed = λ central. fixed_fixed (is_control facts.outgoing.fixed) facts (k.fixed central);
      })
    where
      kept : (b : Bool) → (if b then facts else fixed_anew facts).control ≡ facts.control
      kept true = refl
      kept false = refl
  step_known notes facts (PacketSent slot) good orderly k = record {
    part = sent_part notes slot facts role refl k;
    fixed = λ central.
        let now = control_gone_if (takes_leave facts) slot facts in
        sent_fixed (payload_made now.encryption.end now.outgoing.fixed) (is_acked now.acknowledgement) now.outgoing
        (unsent_fixed slot facts (takes_leave facts) refl (k.fixed central));
  }
  step_known notes facts (WordsGiven skd_s iv_s) good orderly k = quiet_known notes _ (record { part = k.part; fixed = k.fixed })
  step_known notes facts (PacketReceived slot octets room) good orderly k = packet_known notes slot octets room facts orderly k
  step_known notes facts DataReported good orderly k = quiet_known notes _ (record { part = k.part; fixed = k.fixed })

  -- ---- all steps

  abbrev AreGood : List Step → Type 0
  AreGood past = role ≡ Central → AllByRecursion IsAskInRange past × AllByRecursion AsksMap past

  -- after these steps, and then the others
  steps_known : (past steps : List Step) → AreGood steps → IsKnown setup (notes_of setup past) (facts_of setup past)
      → IsKnown setup (notes_of setup (past ++ steps)) (facts_of setup (past ++ steps))
  steps_known past [] good k = subst (λ (all : List Step). IsKnown setup (notes_of setup all) (facts_of setup all)) (sym (append-nil past)) k
  steps_known past (step ∷ steps) good k =
      let facts = facts_of setup past in
      let notes = notes_of setup past in
      let next = step_known notes facts step (λ central. ((good central).0.0, (good central).1.0)) (past_orderly setup past) k in
      subst (λ (all : List Step). IsKnown setup (notes_of setup all) (facts_of setup all)) (append_assoc past (step ∷ []) steps)
      (steps_known (past ++ step ∷ []) steps (λ central. ((good central).0.1, (good central).1.1))
      (subst (λ (all : List Note). IsKnown setup all (facts_of setup (past ++ step ∷ []))) (sym (notes_grow setup past step))
      (subst (λ (later : Facts). IsKnown setup (notes ++ notes_after setup facts step) later) (sym (grows setup past step)) next)))

  first_known : IsKnown setup (notes_of setup []) (facts_of setup [])
  unfolding facts_of notes_of
  first_known = record {
    part = record {
      reached = reached_first setup.link.role setup.link.max_rx (first_params setup.link.fields) (first_anchor setup);
      knows = knows_first setup.link.role (first_params setup.link.fields) (first_anchor setup);
    };
    fixed = λ central. refl;
  }

  all_known : (past : List Step) → AreGood past → IsKnown setup (notes_of setup past) (facts_of setup past)
  all_known past good = steps_known [] past good first_known

-- what a past knows, where a central has its values in range
pub past_known : (setup : Setup) (past : List Step) → (setup.link.role ≡ Central → HasRanges setup past) → IsKnown setup (notes_of setup past) (facts_of setup past)
past_known setup past ranges = all_known setup (λ central. (ranges central).latency) past (λ central. ((ranges central).asks, (ranges central).maps))
