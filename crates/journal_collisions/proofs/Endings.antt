-- A central whose host ended the link sends LL_TERMINATE_IND next, or nothing more.
use Rattle.std.proofs.Common.{◌≡◌, ℕ, ◌+◌, ◌<◌, ◌%◌, ◌&&◌, not, Bool, true, false, List, [], ◌∷◌, ◌++◌, Option, None, Some, is_some, is_none, refl, ap, sym, ◌∙◌, subst, arith, if◌then◌else◌}
use Rattle.std.specs.Prelude.{⊤, Result, Ok, Err}
use Rattle.ble_base.specs.declared.error_codes.ErrCode.{ErrCode}
use Rattle.ble_base.specs.declared.roles.Role.TheVariants.{Central}
use Rattle.instants.specs.declared.indications.Indication.{Indication}
use Rattle.instants.specs.Track.{event_of, next_number}
use Rattle.journal_endings.specs.link_runs.link_pairs.control_model.Control.{Answers, Asks, Control, Disconnects, Enters, Owes, SeesAcknowledged, Sends, Step as ControlStep, Takes, after, following, goes_out, indicated_by, is_to_come, table_if, taken, went}
use Rattle.journal_endings.specs.link_runs.link_pairs.procedure_stages.Closing.{is_disconnecting, is_open}
use Rattle.journal_endings.specs.link_runs.link_pairs.procedure_stages.Queue.{QueueFacts, waiting_in, next_after_rejections, next_by, next_disconnect}
use Rattle.journal_endings.specs.link_runs.link_pairs.procedure_stages.InProgress.{is_host_asked}
use Rattle.journal_endings.specs.link_runs.link_pairs.procedure_stages.declared.closing.Closing.{Closing}
use Rattle.journal_endings.specs.link_runs.link_pairs.procedure_stages.declared.closing.Closing.TheVariants.{Closed, Disconnecting, Open}
use Rattle.journal_endings.specs.link_runs.link_pairs.procedure_values.declared.asks.Ask.{Ask}
use Rattle.journal_endings.specs.link_runs.link_pairs.procedure_values.declared.asks.Ask.TheVariants.{Length, Update}
use Rattle.journal_endings.specs.link_runs.link_pairs.procedure_values.declared.drafts.Draft.{Draft}
use Rattle.journal_endings.specs.link_runs.link_pairs.procedure_values.declared.drafts.Draft.TheVariants.{Cipher}
use Rattle.journal_endings.specs.link_runs.link_pairs.procedure_values.declared.drafts.Outgoing.{Outgoing}
use Rattle.journal_endings.specs.link_runs.link_pairs.procedure_values.declared.drafts.Rejection.{Rejection as TheRejection}
use Rattle.journal_endings.specs.link_runs.link_pairs.procedures.Beginning.{ask_at, ask_step, begin_at, begin_step, first_draft, place_to_begin, with_first_draft}
use Rattle.journal_endings.specs.link_runs.link_pairs.procedures.Going.{closing_given, entered_step, host_answer_step, is_answer, owe_step, terminate_step}
use Rattle.journal_endings.specs.link_runs.link_pairs.procedures.Sending.{acked_step}
use Rattle.journal_endings.specs.link_runs.link_pairs.procedures.Table.{TableFacts}
use Rattle.journal_endings.specs.link_runs.link_pairs.procedures.Taking.{facts_with, outcome_of}
use Rattle.procedure_values.specs.Drafts.{ctrl_of_outgoing, is_out}
use Rattle.std.specs.List.{list_any}
use Rattle.std.proofs.lemmas.Bool.{and_parts, or_parts}
use Rattle.std.proofs.lemmas.List.Folds.{list_any-append}
use Rattle.ble_base.specs.declared.notes.Note.TheVariants.{Sent}
use Rattle.data_pdu.specs.Layouts.{IsCtrl, written}
use Rattle.data_pdu.specs.declared.ctrl.Ctrl.{Ctrl}
use Rattle.data_pdu.specs.declared.ctrl.Ctrl.TheVariants.{TerminateInd}
use Rattle.wire_fields.specs.Field.{little_endian}
use Rattle.journal_endings.proofs.link_calls.CallNotes.{is_sending}
use Rattle.journal_endings.specs.journal_indications.journal_data.link_model.Acknowledgement.{empty_pdu, is_acked}
use Rattle.journal_endings.specs.journal_indications.journal_data.link_model.Controls.{goes_on, is_quiet_now, next_control, pdu_fixed, pdu_of_control}
use Rattle.journal_endings.specs.journal_indications.journal_data.link_model.phased_control.Phased.{is_encrypt}
use Rattle.journal_endings.specs.journal_indications.journal_data.link_model.phased_control.table_laws.Encrypting.{has_encryption}
use Rattle.journal_endings.specs.journal_indications.journal_data.link_model.Fixing.{data_cut, data_fixed_by, data_goes, facts_fixed, fixed_anew}
use Rattle.arrayvec.specs.ArrayVec.{ArrayVec}
use Rattle.data_pdu.specs.Reading.{ctrl_of}
use Rattle.data_pdu.specs.declared.ctrl.CtrlRead.TheVariants.{Known}
use Rattle.data_pdu.proofs.Rows.{written_is_known}
use Rattle.journal_endings.specs.link_runs.link_pairs.procedure_stages.Kinds.{role_of}
use Rattle.journal_endings.specs.journal_indications.journal_data.link_model.Data.{is_control, is_empty, numbered}
use Rattle.journal_endings.specs.journal_indications.journal_data.link_model.End.{facts_after, notes_after, notes_from}
use Rattle.journal_endings.specs.journal_indications.journal_data.link_model.Facts.{Facts}
use Rattle.journal_endings.specs.journal_indications.journal_data.link_model.Sending.{control_gone_if, sent_notes, sent_notes_if, takes_leave}
use Rattle.journal_endings.specs.journal_indications.journal_data.link_model.Setup.{Setup}
use Rattle.journal_endings.specs.journal_indications.journal_data.link_model.Step.{DataGiven, DataReported, Disconnected, EventEntered, KeyAnswered, PacketReceived, PacketSent, PduFixed, ProcedureAsked, RequestAnswered, Step, WordsGiven}
use Rattle.journal_endings.proofs.journal_indications.journal_data.link_model.KnownEnds.{IsPast, step_past}
use Rattle.journal_endings.proofs.journal_indications.journal_data.link_model.Views.{stays_ended}
use Rattle.journal_endings.proofs.journal_indications.journal_data.link_model.phased_end.keyed_control.phased_control.Requests.{fewer, is_entering}
use Rattle.journal_endings.proofs.journal_indications.journal_data.link_model.phased_end.keyed_control.phased_control.Tables.{begins_encryption, leaves_entering}
use Rattle.journal_endings.proofs.link_calls.control_model.Moving.{same_role}
use Rattle.journal_endings.proofs.link_runs.link_pairs.LastControl.{ends_after, reply_left}
use Rattle.journal_endings.proofs.link_runs.link_pairs.joint_controls.EachEnd.{Keeps}
use Rattle.run_collisions.specs.Prevailing.{next_outgoing}
use Rattle.run_collisions.specs.Waiting.{facts_from, sends_control}
use Rattle.journal_collisions.proofs.EachStep.{step_kept}
use Rattle.journal_collisions.proofs.QuietCentrals.{quiet_there}
use Rattle.journal_collisions.proofs.Waits.{ends_go}
use Rattle.journal_endings.proofs.link_runs.link_pairs.TakingNothing.{draft_left, rejection_left}
use Rattle.journal_endings.proofs.link_calls.control_model.Calls.{any_step, either_way, took_by}

-- ---- a table with this Disconnect of the host

pub record EndsWith (d : Option ErrCode) (f : TableFacts) : Type 0 where
  pub closing : is_disconnecting f.closing ≡ true
  pub rejections : f.queue.rejections ≡ []
  pub disconnect : f.queue.disconnect ≡ d

shut_by : (closing : Closing) → is_disconnecting closing ≡ true → is_open closing ≡ false
shut_by Open is = absurd cc
shut_by Closed is = refl
shut_by Disconnecting is = refl

given_after : (ctrl : Ctrl) (closing : Closing) → is_disconnecting closing ≡ true → is_disconnecting (closing_given ctrl closing) ≡ true
given_after (TerminateInd code) Open is = absurd (cc)
given_after (TerminateInd code) Closed is = absurd (cc)
given_after (TerminateInd code) Disconnecting is = refl
given_after ctrl closing is = is

module _ (d : Option ErrCode) where
  abbrev IsEnding : Control → Type 0
  IsEnding c = EndsWith d c.table

  same_queue : (f g : TableFacts) → is_disconnecting g.closing ≡ true → g.queue ≡ f.queue → EndsWith d f → EndsWith d g
  same_queue f g closing queue ends = record {
    closing = closing;
    rejections = ap (λ (q : QueueFacts). q.rejections) queue ∙ ends.rejections;
    disconnect = ap (λ (q : QueueFacts). q.disconnect) queue ∙ ends.disconnect;
  }

  entered_ends : (f : TableFacts) (holds : Bool) → EndsWith d f → EndsWith d (entered_step f holds).0
  entered_ends f true ends = same_queue f (entered_step f true).0 ends.closing refl ends
  entered_ends f false ends = ends

  first_left : (closing : Closing) → is_open closing ≡ false → (draft : Option Draft) (q : QueueFacts) → with_first_draft closing draft q ≡ q
  first_left closing shut None q = refl
  first_left closing shut (Some draft) q = draft_left closing shut q draft

  begun_ends : (f : TableFacts) (slot : ℕ) (place : Option ℕ) (ask : Option Ask) → EndsWith d f → EndsWith d (begin_at f slot place ask).0
  begun_ends f slot None ask ends = ends
  begun_ends f slot (Some place) None ends = ends
  begun_ends f slot (Some place) (Some ask) ends =
      same_queue f (begin_at f slot (Some place) (Some ask)).0 ends.closing
      (first_left f.closing (shut_by f.closing ends.closing) (first_draft f ask) f.queue) ends

  answered_ends : (f : TableFacts) (answer : Result Ask ErrCode) → EndsWith d f → EndsWith d (host_answer_step f answer)
  answered_ends f (Ok (Update interval latency timeout)) ends =
      same_queue f (host_answer_step f (Ok (Update interval latency timeout))) ends.closing
      (draft_left f.closing (shut_by f.closing ends.closing) f.queue _) ends
  answered_ends f (Ok (Length tx)) ends = ends
  answered_ends f (Ok ask) ends = ends
  answered_ends f (Err code) ends =
      same_queue f (host_answer_step f (Err code)) ends.closing (rejection_left f.closing (shut_by f.closing ends.closing) f.queue _) ends

  table_ends : (may : Bool) (g : TableFacts) (c : Control) → EndsWith d g → IsEnding c → IsEnding (table_if may g c)
  table_ends true g c now before = now
  table_ends false g c now before = before

  shut_ends : (open_now : Bool) (reason : ErrCode) (c : Control) → open_now ≡ false → IsEnding c
      → IsEnding (table_if open_now (terminate_step c.table reason) c)
  shut_ends true reason c is ends = absurd cc
  shut_ends false reason c is ends = ends

  taken_ends : (g : TableFacts) (indication : Option Indication) (c : Control) → EndsWith d g → IsEnding c → IsEnding (taken g None indication c)
  taken_ends g None c now before = now
  taken_ends g (Some indication) c now before = either_way IsEnding (is_to_come c.track indication) _ _ now before

  -- steps in which it sends no control PDU
  abbrev IsUnsent : ControlStep → Type 0
  IsUnsent (Enters slot quiet) = ⊤
  IsUnsent (Asks ask) = ⊤
  IsUnsent (Answers answer) = ⊤
  IsUnsent (Disconnects reason) = ⊤
  IsUnsent SeesAcknowledged = ⊤
  IsUnsent (Takes read slot quiet) = ⊤
  IsUnsent (Owes ctrl) = ⊤
  IsUnsent (Sends slot quiet) = ⊥

  step_ends : (step : ControlStep) (c : Control) → IsUnsent step → IsEnding c → IsEnding (after step c)
  step_ends (Enters slot quiet) c unsent ends =
      let f = (entered_step c.table (is_some (next_number c.track))).0 in
      any_step IsEnding (Enters slot quiet) c
      (begun_ends f slot (place_to_begin f quiet) (ask_at (place_to_begin f quiet) f.wanted) (entered_ends c.table (is_some (next_number c.track)) ends)) ends
  step_ends (Asks ask) c unsent ends = any_step IsEnding (Asks ask) c (same_queue c.table (ask_step c.table ask) ends.closing refl ends) ends
  step_ends (Answers answer) c unsent ends =
      any_step IsEnding (Answers answer) c
      (table_ends (is_host_asked c.table.progress && is_answer answer) (host_answer_step c.table answer) c (answered_ends c.table answer ends) ends) ends
  step_ends (Disconnects reason) c unsent ends =
      any_step IsEnding (Disconnects reason) c (shut_ends (is_open c.table.closing) reason c (shut_by c.table.closing ends.closing) ends) ends
  step_ends SeesAcknowledged c unsent ends =
      any_step IsEnding SeesAcknowledged c
      (table_ends (is_out c.table.out) (acked_step c.table).0 c (same_queue c.table (acked_step c.table).0 ends.closing refl ends) ends) ends
  step_ends (Takes read slot quiet) c unsent ends =
      let outcome = outcome_of c.table quiet read in
      any_step IsEnding (Takes read slot quiet) c
      (took_by IsEnding c (λ code. ends) read slot quiet
      (taken_ends (facts_with c.table slot outcome) (indicated_by outcome.step.effect) c
      (same_queue c.table (facts_with c.table slot outcome) (ends_after outcome.step.effect c.table.closing ends.closing)
      (reply_left c.table.closing (shut_by c.table.closing ends.closing) outcome.reply c.table.queue) ends) ends)) ends
  step_ends (Owes ctrl) c unsent ends =
      any_step IsEnding (Owes ctrl) c
      (same_queue c.table (owe_step c.table ctrl) (given_after ctrl c.table.closing ends.closing)
      (draft_left c.table.closing (shut_by c.table.closing ends.closing) c.table.queue (Cipher ctrl)) ends) ends
  step_ends (Sends slot quiet) c unsent ends = absurd unsent

-- ---- a central with this Disconnect runs no encryption, and begins none any more

pub record Ending (d : Option ErrCode) (c : Control) : Type 0 where
  pub table : EndsWith d c.table
  pub role : role_of c.table.progress ≡ Central
  pub alone : has_encryption c.table.progress ≡ false

module _ (d : Option ErrCode) where
  still_alone : (step : ControlStep) (c : Control) → is_entering step ≡ false → Ending d c → has_encryption (after step c).table.progress ≡ false
  still_alone step c other ending = by (has_encryption (after step c).table.progress) refl
    where
      by : (b : Bool) → has_encryption (after step c).table.progress ≡ b → b ≡ false
      by false is = refl
      by true is = sym (fewer step c other ending.role is) ∙ ending.alone

  still_ending : (step : ControlStep) (c : Control) → is_entering step ≡ false → IsUnsent d step → Ending d c → Ending d (after step c)
  still_ending step c other unsent ending = record {
    table = step_ends d step c unsent ending.table;
    role = same_role Central step c ending.role;
    alone = still_alone step c other ending;
  }

  entered_alone : (slot : ℕ) (quiet : Bool) (c : Control) → Ending d c → has_encryption (after (Enters slot quiet) c).table.progress ≡ false
  entered_alone slot quiet c ending =
      leaves_entering slot quiet c (by (is_encrypt (begin_step (entered_step c.table (is_some (next_number c.track))).0 slot quiet).1) refl) ∙ ending.alone
    where
      shut : is_open (entered_step c.table (is_some (next_number c.track))).0.closing ≡ false
      shut = shut_by _ (entered_ends d c.table (is_some (next_number c.track)) ending.table).closing

      by : (b : Bool) → is_encrypt (begin_step (entered_step c.table (is_some (next_number c.track))).0 slot quiet).1 ≡ b → b ≡ false
      by false is = refl
      by true is = sym (begins_encryption (entered_step c.table (is_some (next_number c.track))).0 slot quiet is).lasts ∙ shut

  ending_keeps : Keeps (Ending d)
  ending_keeps = record {
    enters = λ slot quiet c h. record {
      table = step_ends d (Enters slot quiet) c tt h.table;
      role = same_role Central (Enters slot quiet) c h.role;
      alone = entered_alone slot quiet c h;
    };
    asks = λ ask c h. still_ending (Asks ask) c refl tt h;
    answers = λ answer c h. still_ending (Answers answer) c refl tt h;
    disconnects = λ reason c h. still_ending (Disconnects reason) c refl tt h;
    acks = λ c h. still_ending SeesAcknowledged c refl tt h;
    owes = λ ctrl c h. still_ending (Owes ctrl) c refl tt h;
    takes = λ read slot quiet c h. still_ending (Takes read slot quiet) c refl tt h;
    ends = λ code c h. record { table = h.table; role = h.role; alone = h.alone };
  }

  pub end_step : (setup : Setup) → setup.link.role ≡ Central → (step : Step) (facts : Facts) → sends_control facts step ≡ false → Ending d facts.control
      → Ending d (facts_after setup facts step).control
  end_step setup is_central step facts none ending = step_kept (Ending d) ending_keeps setup is_central step facts none ending

-- ---- what it sends next

-- what goes next
abbrev outgoing_by : Bool → Control → Outgoing
outgoing_by quiet c =
    next_by c.table.queue.rejections (next_after_rejections (is_disconnecting c.table.closing && quiet) c.table.progress (event_of c.track) c.table.queue)

next_at : (d : Option ErrCode) (c : Control) → EndsWith d c.table → outgoing_by true c ≡ next_disconnect d
next_at d c ends =
    (λ i. next_by (ends.rejections i) (next_after_rejections (ends.closing i && true) c.table.progress (event_of c.track) c.table.queue))
    ∙ ap next_disconnect ends.disconnect

next_by_end : (d : Option ErrCode) (facts : Facts) → is_quiet_now facts ≡ true → EndsWith d facts.control.table → next_outgoing facts ≡ next_disconnect d
next_by_end d facts quiet ends = ap (λ b. outgoing_by b facts.control) quiet ∙ next_at d facts.control ends

-- LL_TERMINATE_IND waits until it is sent
module _ (code : ErrCode) (setup : Setup) (is_central : setup.link.role ≡ Central) where
  control_next : (facts : Facts) → is_quiet_now facts ≡ true → EndsWith (Some code) facts.control.table → goes_on facts ≡ true → next_control facts ≡ Some (TerminateInd code.0)
  control_next facts quiet ends goes =
      (λ i. if goes i then ctrl_of_outgoing (next_by_end (Some code) facts quiet ends i) (event_of facts.control.track) facts.control.track.params.latency else None)

  full : not (is_empty (pdu_of_control (Some (TerminateInd code.0)))) ≡ true
  unfolding little_endian
  full = refl

  goes_out_so : (facts : Facts) → is_quiet_now facts ≡ true → EndsWith (Some code) facts.control.table → goes_on facts ≡ true → takes_leave facts ≡ true
      → sent_notes setup facts
      ≡ Sent setup.link.handle (numbered facts.acknowledgement.sent + 1) 3 (record { items = written (TerminateInd code.0) }) ∷ []
  goes_out_so facts quiet ends goes leaves =
      let both = and_parts (is_acked facts.acknowledgement) facts.fixes_control leaves in
      let fixed : pdu_fixed facts ≡ pdu_of_control (Some (TerminateInd code.0)) =
      (λ i. if both.1 i then pdu_of_control (control_next facts quiet ends goes i) else facts.outgoing.fixed) in
      (λ i. sent_notes_if (both.0 i && not (is_empty (fixed i))) setup.link.handle (numbered facts.acknowledgement.sent) (fixed i))
      ∙ ap (λ (b : Bool). sent_notes_if b setup.link.handle (numbered facts.acknowledgement.sent) (pdu_of_control (Some (TerminateInd code.0)))) full

  unsent_one : (step : Step) (facts : Facts) → is_quiet_now facts ≡ true → EndsWith (Some code) facts.control.table → facts.control.ends ≡ None
      → list_any is_sending (notes_after setup facts step) ≡ false → sends_control facts step ≡ false
  unsent_one (PacketSent slot) facts quiet ends goes none = by (takes_leave facts) refl
    where
      by : (leaves : Bool) → takes_leave facts ≡ leaves → leaves ≡ false
      by false leaves = refl
      by true leaves =
          absurd (let h : true ≡ false = ap (list_any is_sending) (sym (goes_out_so facts quiet ends (ap (λ (e : Option ErrCode). is_none e) goes) leaves))
          ∙ none in absurd cc)
  unsent_one (DataGiven start body) facts quiet ends goes none = refl
  unsent_one (ProcedureAsked ask) facts quiet ends goes none = refl
  unsent_one (RequestAnswered answer) facts quiet ends goes none = refl
  unsent_one (KeyAnswered key slot) facts quiet ends goes none = refl
  unsent_one (Disconnected reason slot) facts quiet ends goes none = refl
  unsent_one (EventEntered slot) facts quiet ends goes none = refl
  unsent_one PduFixed facts quiet ends goes none = refl
  unsent_one (WordsGiven skd_s iv_s) facts quiet ends goes none = refl
  unsent_one (PacketReceived slot octets room) facts quiet ends goes none = refl
  unsent_one DataReported facts quiet ends goes none = refl

  pub ending_still : (steps : List Step) (facts : Facts) → IsPast setup facts → Ending (Some code) facts.control → (facts_from setup facts steps).control.ends ≡ None
      → list_any is_sending (notes_from setup facts steps) ≡ false → Ending (Some code) (facts_from setup facts steps).control
  ending_still [] facts p ending goes none = ending
  ending_still (step ∷ steps) facts p ending goes none =
      let after_step = facts_after setup facts step in
      let parts = or_parts (list_any is_sending (notes_after setup facts step)) (list_any is_sending (notes_from setup after_step steps))
      (sym (list_any-append is_sending (notes_after setup facts step) (notes_from setup after_step steps)) ∙ none) in
      let goes_now = ends_go setup facts (step ∷ steps) p goes in
      let unsent = unsent_one step facts (quiet_there setup facts p goes_now ending.alone) ending.table goes_now parts.0 in
      ending_still steps after_step (step_past setup facts step p) (end_step (Some code) setup is_central step facts unsent ending) goes parts.1

  same_pdu : (handle count other counted llid : ℕ) (body items : List ℕ)
      → Sent handle count 3 (record { items = items }) ∷ [] ≡ Sent other counted llid (record { items = body }) ∷ [] → (llid ≡ 3) × (body ≡ items)
  same_pdu handle count other counted llid body items is =
      let one : Sent handle count 3 (record { items = items }) ≡ Sent other counted llid (record { items = body }) = cc in
      let llids : 3 ≡ llid = cc in
      let bodies : ◌≡◌ {A = ArrayVec ℕ} (record { items = items }) (record { items = body }) = cc in
      (sym llids, ap (λ (v : ArrayVec ℕ). v.items) (sym bodies))

  -- the next PDU that it sends is LL_TERMINATE_IND
  pub sent_ending : (facts : Facts) → is_quiet_now facts ≡ true → is_control facts.outgoing.fixed ≡ false → EndsWith (Some code) facts.control.table → facts.control.ends ≡ None
      → (handle count llid : ℕ) (body : List ℕ) → sent_notes setup (facts_fixed facts) ≡ Sent handle count llid (record { items = body }) ∷ []
      → (llid ≡ 3) × (body ≡ written (TerminateInd code.0))
  sent_ending facts quiet none ends lasts handle count llid body sent = by (is_acked facts.acknowledgement) refl
    where
      notes : sent_notes setup (fixed_anew facts) ≡ Sent handle count llid (record { items = body }) ∷ []
      notes = ap (sent_notes setup) (sym (ap (λ (b : Bool). if b then facts else fixed_anew facts) none)) ∙ sent

      goes : goes_on facts ≡ true
      goes = ap (λ (e : Option ErrCode). is_none e) lasts

      by : (acked : Bool) → is_acked facts.acknowledgement ≡ acked → (llid ≡ 3) × (body ≡ written (TerminateInd code.0))
      by true acked =
          let fixes = ap (λ (c : Option Ctrl). is_some c) (control_next facts quiet ends goes) in
          let out = goes_out_so (fixed_anew facts) quiet ends goes (λ i. acked i && fixes i) in
          same_pdu setup.link.handle (numbered facts.acknowledgement.sent + 1) handle count llid body (written (TerminateInd code.0)) (sym out ∙ notes)
      by false acked =
          absurd (let h : [] ≡ Sent handle count llid (record { items = body }) ∷ [] =
          ap (λ (b : Bool). sent_notes_if (b && not (is_empty (pdu_fixed (fixed_anew facts)))) setup.link.handle (numbered facts.acknowledgement.sent)
          (pdu_fixed (fixed_anew facts))) (sym acked) ∙ notes in absurd cc)

-- ---- after LL_TERMINATE_IND nothing goes

module _ (setup : Setup) (is_central : setup.link.role ≡ Central) where
  sends_none : (slot : ℕ) (quiet : Bool) (c : Control) → goes_out quiet c ≡ false → Ending None c → Ending None (after (Sends slot quiet) c)
  sends_none slot quiet c none ending =
      any_step (Ending None) (Sends slot quiet) c
      (subst (λ (b : Bool). Ending None
      (if b then following (role_of c.table.progress) (went slot quiet c).1 (record c { table = (went slot quiet c).0 }) else c)) (sym none) ending) ending

  none_next : (facts : Facts) → is_quiet_now facts ≡ true → EndsWith None facts.control.table → goes_out (is_quiet_now facts) facts.control ≡ false
  none_next facts quiet ends =
      ap (λ (o : Outgoing). is_some (ctrl_of_outgoing o (event_of facts.control.track) facts.control.track.params.latency)) (next_by_end None facts quiet ends)

  gone_none : (slot : ℕ) (facts : Facts) → IsPast setup facts → Ending None facts.control → Ending None (after (Sends slot (is_quiet_now facts)) facts.control)
  gone_none slot facts p ending = by facts.control.ends refl
    where
      by : (ends : Option ErrCode) → facts.control.ends ≡ ends → Ending None (after (Sends slot (is_quiet_now facts)) facts.control)
      by None is =
          sends_none slot (is_quiet_now facts) facts.control (none_next facts (quiet_there setup facts p is ending.alone) ending.table) ending
      by (Some code) is =
          subst (Ending None) (sym (stays_ended (Sends slot (is_quiet_now facts)) facts.control (ap (λ (e : Option ErrCode). is_none e) is))) ending

  end_any : (step : Step) (facts : Facts) → IsPast setup facts → Ending None facts.control → Ending None (facts_after setup facts step).control
  end_any (PacketSent slot) facts p ending = by (takes_leave facts)
    where
      by : (leaves : Bool) → Ending None (control_gone_if leaves slot facts).control
      by true = gone_none slot facts p ending
      by false = ending
  end_any (DataGiven start body) facts p ending = end_step None setup is_central (DataGiven start body) facts refl ending
  end_any (ProcedureAsked ask) facts p ending = end_step None setup is_central (ProcedureAsked ask) facts refl ending
  end_any (RequestAnswered answer) facts p ending = end_step None setup is_central (RequestAnswered answer) facts refl ending
  end_any (KeyAnswered key slot) facts p ending = end_step None setup is_central (KeyAnswered key slot) facts refl ending
  end_any (Disconnected reason slot) facts p ending = end_step None setup is_central (Disconnected reason slot) facts refl ending
  end_any (EventEntered slot) facts p ending = end_step None setup is_central (EventEntered slot) facts refl ending
  end_any PduFixed facts p ending = end_step None setup is_central PduFixed facts refl ending
  end_any (WordsGiven skd_s iv_s) facts p ending = end_step None setup is_central (WordsGiven skd_s iv_s) facts refl ending
  end_any (PacketReceived slot octets room) facts p ending = end_step None setup is_central (PacketReceived slot octets room) facts refl ending
  end_any DataReported facts p ending = end_step None setup is_central DataReported facts refl ending

  pub nothing_still : (steps : List Step) (facts : Facts) → IsPast setup facts → Ending None facts.control → Ending None (facts_from setup facts steps).control
  nothing_still [] facts p ending = ending
  nothing_still (step ∷ steps) facts p ending =
      nothing_still steps (facts_after setup facts step) (step_past setup facts step p) (end_any step facts p ending)

  if_none : (b : Bool) → ◌≡◌ {A = Option Ctrl} (if b then None else None) None
  if_none true = refl
  if_none false = refl

  none_noted : (acked : Bool) (handle number : ℕ) → sent_notes_if (acked && false) handle number empty_pdu ≡ []
  none_noted true handle number = refl
  none_noted false handle number = refl

  pub sent_nothing : (X : Type 0) (facts : Facts) → is_quiet_now facts ≡ true → is_control facts.outgoing.fixed ≡ false → EndsWith None facts.control.table
      → (handle count llid : ℕ) (body : List ℕ) → sent_notes setup (facts_fixed facts) ≡ Sent handle count llid (record { items = body }) ∷ [] → X
  sent_nothing X facts quiet none ends handle count llid body sent =
      let next : next_control facts ≡ None =
      ap (λ (o : Outgoing). if goes_on facts then ctrl_of_outgoing o (event_of facts.control.track) facts.control.track.params.latency else None)
      (next_by_end None facts quiet ends) ∙ if_none (goes_on facts) in
      let stays : data_goes facts ≡ false = (λ i. quiet i && not (ends.closing i)) in
      let fixed : pdu_fixed (fixed_anew facts) ≡ empty_pdu =
      (λ i. if is_some (next i) then pdu_of_control (next_control facts)
      else (data_fixed_by (is_some (next i)) (waiting_in facts.control.table.queue) (is_quiet_now facts) (stays i) (data_cut facts)).fixed) in
      absurd (let h : [] ≡ Sent handle count llid (record { items = body }) ∷ [] =
      sym (none_noted (is_acked facts.acknowledgement) setup.link.handle (numbered facts.acknowledgement.sent))
      ∙ sym (λ i. sent_notes_if (is_acked facts.acknowledgement && not (is_empty (fixed i))) setup.link.handle (numbered facts.acknowledgement.sent) (fixed i))
      ∙ ap (sent_notes setup) (sym (ap (λ (b : Bool). if b then facts else fixed_anew facts) none)) ∙ sent in absurd cc)

-- ---- LL_TERMINATE_IND is read as it was written, with the low octet of its error

reduced : (n : ℕ) → n % 256 ≡ (n % 256) % 256
reduced n = omega arith

octet_reduced : (n : ℕ) → little_endian 1 n ≡ little_endian 1 (n % 256)
unfolding little_endian
octet_reduced n = ap (λ k. k ∷ []) (reduced n)

less_than : (n : ℕ) → n % 256 < 256
less_than n = omega arith

terminate_written : (n : ℕ) → written (TerminateInd n) ≡ written (TerminateInd (n % 256))
terminate_written n = ap (λ xs. little_endian 1 2 ++ (xs ++ [])) (octet_reduced n)

pub terminate_read : (n : ℕ) → ctrl_of (written (TerminateInd n)) ≡ Known (TerminateInd (n % 256))
terminate_read n =
    let less = less_than n in
    let fits : IsCtrl (TerminateInd (n % 256)) = record { fits = (omega arith, (omega (arith, less), tt)); six_offsets = tt; range = tt } in
    ap ctrl_of (terminate_written n) ∙ written_is_known (TerminateInd (n % 256)) fits

-- ---- as it takes a PDU

abbrev EndsSo : Control → Type 0
EndsSo c = is_disconnecting c.table.closing ≡ true

entered_so : (f : TableFacts) (holds : Bool) → (entered_step f holds).0.closing ≡ f.closing
entered_so f true = refl
entered_so f false = refl

begun_so : (f : TableFacts) (slot : ℕ) (place : Option ℕ) (ask : Option Ask) → (begin_at f slot place ask).0.closing ≡ f.closing
begun_so f slot None ask = refl
begun_so f slot (Some place) None = refl
begun_so f slot (Some place) (Some ask) = refl

answered_so : (f : TableFacts) (answer : Result Ask ErrCode) → (host_answer_step f answer).closing ≡ f.closing
answered_so f (Ok (Update interval latency timeout)) = refl
answered_so f (Ok (Length tx)) = refl
answered_so f (Ok ask) = refl
answered_so f (Err code) = refl

taken_so : (g : TableFacts) (indication : Option Indication) (c : Control) → is_disconnecting g.closing ≡ true → EndsSo c → EndsSo (taken g None indication c)
taken_so g None c now before = now
taken_so g (Some indication) c now before = either_way EndsSo (is_to_come c.track indication) _ _ now before

table_so : (may : Bool) (g : TableFacts) (c : Control) → is_disconnecting g.closing ≡ true → EndsSo c → EndsSo (table_if may g c)
table_so true g c now before = now
table_so false g c now before = before

disconnecting_keeps : Keeps EndsSo
disconnecting_keeps = record {
  enters = λ slot quiet c is.
      let f = (entered_step c.table (is_some (next_number c.track))).0 in
      any_step EndsSo (Enters slot quiet) c
      (ap is_disconnecting (begun_so f slot (place_to_begin f quiet) (ask_at (place_to_begin f quiet) f.wanted) ∙ entered_so c.table (is_some (next_number c.track))) ∙ is) is;
  asks = λ ask c is. any_step EndsSo (Asks ask) c is is;
  answers = λ answer c is.
      any_step EndsSo (Answers answer) c
      (table_so (is_host_asked c.table.progress && is_answer answer) (host_answer_step c.table answer) c (ap is_disconnecting (answered_so c.table answer) ∙ is) is) is;
  disconnects = λ reason c is. any_step EndsSo (Disconnects reason) c (table_so (is_open c.table.closing) (terminate_step c.table reason) c refl is) is;
  acks = λ c is. any_step EndsSo SeesAcknowledged c (table_so (is_out c.table.out) (acked_step c.table).0 c is is) is;
  owes = λ ctrl c is. any_step EndsSo (Owes ctrl) c (given_after ctrl c.table.closing is) is;
  takes = λ read slot quiet c is.
      let outcome = outcome_of c.table quiet read in
      any_step EndsSo (Takes read slot quiet) c
      (took_by EndsSo c (λ code. is) read slot quiet (taken_so (facts_with c.table slot outcome) (indicated_by outcome.step.effect) c
      (ends_after outcome.step.effect c.table.closing is) is)) is;
  ends = λ code c is. is;
}

no_rejection : (rejections : List TheRejection) (other : Outgoing) (d : Option ErrCode) → next_by rejections other ≡ next_disconnect d → rejections ≡ []
no_rejection [] other d is = refl
no_rejection (rejection ∷ rejections) other None is = absurd (cc)
no_rejection (rejection ∷ rejections) other (Some code) is = absurd (cc)

-- a central whose host ended the link, and that sends only LL_TERMINATE_IND next or nothing
pub ends_now : (setup : Setup) → setup.link.role ≡ Central → (slot : ℕ) (octets : List ℕ) (room : Bool) (facts : Facts) → (d : Option ErrCode)
    → is_disconnecting facts.control.table.closing ≡ true
    → (facts_after setup facts (PacketReceived slot octets room)).control.table.queue.disconnect ≡ d
    → next_outgoing (facts_after setup facts (PacketReceived slot octets room))
    ≡ next_disconnect (facts_after setup facts (PacketReceived slot octets room)).control.table.queue.disconnect
    → EndsWith d (facts_after setup facts (PacketReceived slot octets room)).control.table
ends_now setup is_central slot octets room facts d is disconnect next =
    let now = facts_after setup facts (PacketReceived slot octets room) in
    record {
      closing = step_kept EndsSo disconnecting_keeps setup is_central (PacketReceived slot octets room) facts refl is;
      rejections = no_rejection now.control.table.queue.rejections
          (next_after_rejections (is_disconnecting now.control.table.closing && is_quiet_now now) now.control.table.progress (event_of now.control.track)
          now.control.table.queue)
          now.control.table.queue.disconnect next;
      disconnect = disconnect;
    }
