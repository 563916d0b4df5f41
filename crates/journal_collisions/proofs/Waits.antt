-- A rejection that waits at a central is the next PDU that it sends, by the notes of the end.
use Rattle.std.proofs.Common.{◌≡◌, ℕ, ◌+◌, ◌&&◌, not, Bool, true, false, List, [], ◌∷◌, ◌++◌, fold, Option, Some, None, is_some, is_none, refl, ap, sym, ◌∙◌, subst, if◌then◌else◌}
use Rattle.std.specs.List.{list_any}
use Rattle.std.proofs.lemmas.Bool.{and_from, or_parts}
use Rattle.std.proofs.lemmas.List.Folds.{list_any-append}
use Rattle.std.proofs.lemmas.List.Sums.{fold-append}
use Rattle.ble_base.specs.declared.notes.Note.TheVariants.{Sent}
use Rattle.ble_base.specs.declared.error_codes.ErrCode.{ErrCode}
use Rattle.ble_base.specs.declared.roles.Role.{Role}
use Rattle.ble_base.specs.declared.roles.Role.TheVariants.{Central}
use Rattle.arrayvec.specs.ArrayVec.{ArrayVec}
use Rattle.acl_banks.specs.declared.pieces.Piece.{Piece}
use Rattle.data_pdu.specs.declared.ctrl.Ctrl.{Ctrl}
use Rattle.data_pdu.specs.declared.ctrl.Ctrl.TheVariants.{RejectExtInd}
use Rattle.data_pdu.specs.declared.header.DataHeader.{DataHeader}
use Rattle.data_pdu.specs.Header.{header_in}
use Rattle.data_pdu.specs.Layouts.{written}
use Rattle.instants.specs.Track.{event_of}
use Rattle.journal_endings.proofs.link_calls.CallNotes.{is_sending}
use Rattle.journal_endings.specs.link_runs.link_pairs.procedure_stages.Queue.{waiting_in}
use Rattle.journal_endings.specs.link_runs.link_pairs.procedure_values.Drafts.{ctrl_of_outgoing}
use Rattle.journal_endings.specs.link_runs.link_pairs.procedure_values.declared.asks.Ask.{Ask}
use Rattle.journal_endings.specs.link_runs.link_pairs.procedure_values.declared.drafts.Outgoing.TheVariants.{Rejection}
use Rattle.journal_endings.specs.link_runs.link_pairs.procedure_values.declared.drafts.Rejection.{Rejection as TheRejection}
use Rattle.journal_endings.specs.journal_indications.journal_data.link_model.Acknowledgement.{Pdu, is_acked}
use Rattle.journal_endings.specs.journal_indications.journal_data.link_model.Controls.{goes_on, is_procedure_pdu, is_quiet_now, next_control, pdu_fixed}
use Rattle.journal_endings.specs.journal_indications.journal_data.link_model.Data.{Data, is_control, is_data, is_empty, numbered, pdu_with, llid_of}
use Rattle.journal_endings.specs.journal_indications.journal_data.link_model.End.{facts_after, facts_of, notes_after, notes_from}
use Rattle.journal_endings.specs.journal_indications.journal_data.link_model.Entering.{facts_entered_if}
use Rattle.journal_endings.specs.journal_indications.journal_data.link_model.Facts.{Facts, first_facts}
use Rattle.journal_endings.specs.journal_indications.journal_data.link_model.Fixing.{data_cut, data_fixed_by, data_goes, facts_fixed, fixed_anew}
use Rattle.journal_endings.specs.journal_indications.journal_data.link_model.Hosts.{asked_unless, is_to_come}
use Rattle.journal_endings.specs.journal_indications.journal_data.link_model.Packets.{good_pdu, is_forged}
use Rattle.journal_endings.specs.journal_indications.journal_data.link_model.Payload.{payload_made}
use Rattle.journal_endings.specs.journal_indications.journal_data.link_model.Receiving.{accepted_if, accepts, data_taken_if, facts_before_taking, facts_forged_if, facts_hearing, facts_received, has_acknowledged, procedures_take_if}
use Rattle.journal_endings.specs.journal_indications.journal_data.link_model.Sending.{control_gone_if, data_sent_as, sent_notes, sent_notes_if, takes_leave}
use Rattle.journal_endings.specs.journal_indications.journal_data.link_model.Setup.{Setup}
use Rattle.journal_endings.specs.journal_indications.journal_data.link_model.Step.{Step, DataGiven, DataReported, Disconnected, EventEntered, KeyAnswered, PacketReceived, PacketSent, PduFixed, ProcedureAsked, RequestAnswered, WordsGiven}
use Rattle.journal_endings.specs.journal_indications.journal_data.link_model.Verdicts.{pdu_of}
use Rattle.journal_endings.proofs.journal_indications.journal_data.link_model.Fixing.{acked_control as acked_fixed, given_control as given_fixed}
use Rattle.journal_endings.proofs.journal_indications.journal_data.link_model.KnownEnds.{IsPast, stays_over, step_past}
use Rattle.run_collisions.specs.Prevailing.{next_outgoing}
use Rattle.run_collisions.specs.Waiting.{facts_from, sends_control, sends_no_control}
use Rattle.run_collisions.proofs.Waiting.{goes_out, waits}

-- ---- an end whose procedures did not end the link went on before

end_goes : (setup : Setup) (facts : Facts) (step : Step) → IsPast setup facts → (facts_after setup facts step).control.ends ≡ None
    → facts.control.ends ≡ None
end_goes setup facts step p is = by facts.control.ends refl
  where
    by : (ends : Option ErrCode) → facts.control.ends ≡ ends → facts.control.ends ≡ None
    by None same = same
    by (Some code) same =
        absurd (let h : true ≡ false = sym (ap (λ (e : Option ErrCode). is_none e) is)
        ∙ stays_over setup facts step p (ap (λ (e : Option ErrCode). is_none e) same) in cc)

pub ends_go : (setup : Setup) (facts : Facts) (steps : List Step) → IsPast setup facts → (facts_from setup facts steps).control.ends ≡ None
    → facts.control.ends ≡ None
ends_go setup facts [] p is = is
ends_go setup facts (step ∷ steps) p is =
    end_goes setup facts step p (ends_go setup (facts_after setup facts step) steps (step_past setup facts step p) is)

still_goes : (ends : Option ErrCode) → ends ≡ None → is_none ends ≡ true
still_goes ends is = ap (λ (e : Option ErrCode). is_none e) is

-- what an end holds after more steps
pub facts_more : (setup : Setup) (past steps : List Step) → facts_of setup (past ++ steps) ≡ facts_from setup (facts_of setup past) steps
unfolding facts_of
facts_more setup past steps = fold-append (facts_after setup) (first_facts setup) past steps ∙ folded (fold (facts_after setup) (first_facts setup) past) steps
  where
    folded : (facts : Facts) (steps : List Step) → fold (facts_after setup) facts steps ≡ facts_from setup facts steps
    folded facts [] = refl
    folded facts (step ∷ steps) = folded (facts_after setup facts step) steps

-- ---- a rejection waits as long as no PDU is noted as sent

module _ (x : TheRejection) (setup : Setup) (is_central : setup.link.role ≡ Central) where
  one_unsent : (step : Step) (facts : Facts) → next_outgoing facts ≡ Rejection x → facts.control.ends ≡ None
      → list_any is_sending (notes_after setup facts step) ≡ false → not (sends_control facts step) ≡ true
  one_unsent (PacketSent slot) facts is goes none = by (takes_leave facts) refl
    where
      by : (leaves : Bool) → takes_leave facts ≡ leaves → not leaves ≡ true
      by false leaves = refl
      by true leaves =
          absurd (let h : true ≡ false = ap (list_any is_sending) (sym (goes_out x setup facts is (still_goes facts.control.ends goes) leaves))
          ∙ none in absurd cc)
  one_unsent (DataGiven start body) facts is goes none = refl
  one_unsent (ProcedureAsked ask) facts is goes none = refl
  one_unsent (RequestAnswered answer) facts is goes none = refl
  one_unsent (KeyAnswered key slot) facts is goes none = refl
  one_unsent (Disconnected reason slot) facts is goes none = refl
  one_unsent (EventEntered slot) facts is goes none = refl
  one_unsent PduFixed facts is goes none = refl
  one_unsent (WordsGiven skd_s iv_s) facts is goes none = refl
  one_unsent (PacketReceived slot octets room) facts is goes none = refl
  one_unsent DataReported facts is goes none = refl

  all_unsent : (steps : List Step) (facts : Facts) → IsPast setup facts → next_outgoing facts ≡ Rejection x → (facts_from setup facts steps).control.ends ≡ None
      → list_any is_sending (notes_from setup facts steps) ≡ false → sends_no_control setup facts steps ≡ true
  all_unsent [] facts p is goes none = refl
  all_unsent (step ∷ steps) facts p is goes none =
      let next = facts_after setup facts step in
      let parts = or_parts (list_any is_sending (notes_after setup facts step)) (list_any is_sending (notes_from setup next steps))
      (sym (list_any-append is_sending (notes_after setup facts step) (notes_from setup next steps)) ∙ none) in
      let first = one_unsent step facts is (ends_go setup facts (step ∷ steps) p goes) parts.0 in
      let then_on = waits x setup is_central facts (step ∷ []) is (and_from (not (sends_control facts step)) true first refl) in
      and_from (not (sends_control facts step)) (sends_no_control setup next steps) first
      (all_unsent steps next (step_past setup facts step p) then_on goes parts.1)

  pub waits_still : (steps : List Step) (facts : Facts) → IsPast setup facts → next_outgoing facts ≡ Rejection x → (facts_from setup facts steps).control.ends ≡ None
      → list_any is_sending (notes_from setup facts steps) ≡ false → next_outgoing (facts_from setup facts steps) ≡ Rejection x
  waits_still steps facts p is goes none = waits x setup is_central facts steps is (all_unsent steps facts p is goes none)

  -- ---- then it fixes its PDU and sends

  abbrev rejected : Ctrl
  rejected = RejectExtInd x.opcode x.code.0

  next_is : (facts : Facts) → next_outgoing facts ≡ Rejection x → goes_on facts ≡ true → next_control facts ≡ Some rejected
  next_is facts is goes =
      (λ i. if goes i then ctrl_of_outgoing (is i) (event_of facts.control.track) facts.control.track.params.latency else None)

  pub record IsSentNow (llid : ℕ) (body : List ℕ) : Type 0 where
    pub llid_is : llid ≡ 3
    pub body_is : body ≡ written rejected

  same_pdu : (handle count other counted llid : ℕ) (body items : List ℕ)
      → Sent handle count 3 (record { items = items }) ∷ [] ≡ Sent other counted llid (record { items = body }) ∷ [] → (llid ≡ 3) × (body ≡ items)
  same_pdu handle count other counted llid body items is =
      let one : Sent handle count 3 (record { items = items }) ≡ Sent other counted llid (record { items = body }) = cc in
      let llids : 3 ≡ llid = cc in
      let bodies : ◌≡◌ {A = ArrayVec ℕ} (record { items = items }) (record { items = body }) = cc in
      (sym llids, ap (λ (v : ArrayVec ℕ). v.items) (sym bodies))

  fixed_is : (facts : Facts) → is_control facts.outgoing.fixed ≡ false → facts_fixed facts ≡ fixed_anew facts
  fixed_is facts none = ap (λ (b : Bool). if b then facts else fixed_anew facts) none

  pub sent_next : (facts : Facts) → is_control facts.outgoing.fixed ≡ false → next_outgoing facts ≡ Rejection x → facts.control.ends ≡ None
      → (handle count llid : ℕ) (body : List ℕ)
      → sent_notes setup (facts_fixed facts) ≡ Sent handle count llid (record { items = body }) ∷ [] → IsSentNow llid body
  sent_next facts none is ends handle count llid body sent = by (is_acked facts.acknowledgement) refl
    where
      fixed : Facts
      fixed = fixed_anew facts

      notes : sent_notes setup (fixed_anew facts) ≡ Sent handle count llid (record { items = body }) ∷ []
      notes = ap (sent_notes setup) (sym (fixed_is facts none)) ∙ sent

      goes : goes_on (fixed_anew facts) ≡ true
      goes = still_goes facts.control.ends ends

      fixes : is_some (next_control facts) ≡ true
      fixes = ap (λ (c : Option Ctrl). is_some c) (next_is facts is (still_goes facts.control.ends ends))

      by : (acked : Bool) → is_acked facts.acknowledgement ≡ acked → IsSentNow llid body
      by true acked =
          let out = goes_out x setup (fixed_anew facts) is goes (and_from (is_acked facts.acknowledgement) (is_some (next_control facts)) acked fixes) in
          let same = same_pdu setup.link.handle (numbered facts.acknowledgement.sent + 1) handle count llid body (written rejected) (sym out ∙ notes) in
          record { llid_is = same.0; body_is = same.1 }
      by false acked =
          absurd (let h : [] ≡ Sent handle count llid (record { items = body }) ∷ [] =
          ap (λ (b : Bool). sent_notes_if (b && not (is_empty (pdu_fixed (fixed_anew facts)))) setup.link.handle (numbered facts.acknowledgement.sent)
          (pdu_fixed (fixed_anew facts))) (sym acked) ∙ notes in absurd cc)

-- ---- a central has no control PDU fixed between two calls

abbrev HasNone : Facts → Type 0
HasNone facts = is_control facts.outgoing.fixed ≡ false

piece_none : (piece : Option Piece) → is_control (pdu_with piece) ≡ false
piece_none None = refl
piece_none (Some piece) = by piece.start
  where
    use_llid : Bool → Bool
    use_llid start = is_control (record { llid = llid_of start; body = [] })

    by : (start : Bool) → use_llid start ≡ false
    by true = refl
    by false = refl

anew_none : (control : Bool) (waiting : ℕ) (quiet goes : Bool) (outgoing : Data) → is_control (data_fixed_by control waiting quiet goes outgoing).fixed ≡ false
anew_none true waiting quiet goes outgoing = refl
anew_none false waiting quiet true outgoing = piece_none _
anew_none false waiting quiet false outgoing = refl

fixed_none : (same : Bool) (facts : Facts) → HasNone facts → HasNone (if same then facts else fixed_anew facts)
fixed_none true facts none = none
fixed_none false facts none = anew_none (is_some (next_control facts)) (waiting_in facts.control.table.queue) (is_quiet_now facts) (data_goes facts) (data_cut facts)

asked_none : (comes : Bool) (ask : Ask) (facts : Facts) → HasNone facts → HasNone (asked_unless comes ask facts)
asked_none true ask facts none = none
asked_none false ask facts none = none

entered_none : (goes : Bool) (setup : Setup) (slot : ℕ) (facts : Facts) → HasNone facts → HasNone (facts_entered_if goes setup slot facts)
entered_none true setup slot facts none = none
entered_none false setup slot facts none = none

sent_none : (payload : List ℕ) (acked fixes : Bool) (slot : ℕ) (facts : Facts) → HasNone facts
    → is_control (data_sent_as payload acked (control_gone_if (acked && fixes) slot facts).outgoing).fixed ≡ false
sent_none payload true fixes slot facts none = refl
sent_none payload false fixes slot facts none = none

gone_acked : (leaves : Bool) (slot : ℕ) (facts : Facts) → is_acked (control_gone_if leaves slot facts).acknowledgement ≡ is_acked facts.acknowledgement
gone_acked true slot facts = refl
gone_acked false slot facts = refl

taken_none : (takes : Bool) (pdu : Pdu) (slot : ℕ) (facts : Facts) → HasNone facts → HasNone (procedures_take_if takes pdu slot facts)
taken_none true pdu slot facts none = none
taken_none false pdu slot facts none = none

data_none : (takes : Bool) (facts : Facts) → HasNone facts → HasNone (data_taken_if takes facts)
data_none true facts none = none
data_none false facts none = none

forged_none : (forged : Bool) (facts : Facts) → HasNone facts → HasNone (facts_forged_if forged facts)
forged_none true facts none = none
forged_none false facts none = none

heard_none : (slot : ℕ) (room : Bool) (header : DataHeader) (pdu : Pdu) (facts : Facts) → HasNone facts
    → HasNone (facts_hearing Central slot room header pdu facts)
heard_none slot room header pdu facts none =
    let acks = has_acknowledged facts header in
    let now = facts_before_taking Central slot header facts in
    let accepted = accepts room header pdu now in
    let takes = accepted && is_procedure_pdu pdu in
    data_none (accepted && is_data pdu) (procedures_take_if takes pdu slot (accepted_if accepted pdu now))
    (taken_none takes pdu slot (accepted_if accepted pdu now)
    (ap is_control (acked_fixed (acks && is_data facts.acknowledgement.last) facts.outgoing) ∙ none))

received_none : (slot : ℕ) (room : Bool) (pdu : Option (List ℕ)) (facts : Facts) → HasNone facts → HasNone (facts_received Central slot room pdu facts)
received_none slot room None facts none = none
received_none slot room (Some octets) facts none = heard_none slot room (header_in octets) (pdu_of octets) facts none

module _ (setup : Setup) (is_central : setup.link.role ≡ Central) where
  step_none : (step : Step) (facts : Facts) → HasNone facts → HasNone (facts_after setup facts step)
  step_none (DataGiven start body) facts none = ap is_control (given_fixed setup.link.handle start body facts.outgoing) ∙ none
  step_none (ProcedureAsked ask) facts none = asked_none (is_to_come ask facts) ask facts none
  step_none (RequestAnswered answer) facts none = none
  step_none (KeyAnswered key slot) facts none = none
  step_none (Disconnected reason slot) facts none = none
  step_none (EventEntered slot) facts none = entered_none (goes_on facts) setup slot facts none
  step_none PduFixed facts none = fixed_none (is_control facts.outgoing.fixed) facts none
  step_none (PacketSent slot) facts none =
      let gone = control_gone_if (takes_leave facts) slot facts in
      let payload = payload_made gone.encryption.end gone.outgoing.fixed in
      ap (λ (b : Bool). is_control (data_sent_as payload b gone.outgoing).fixed) (gone_acked (takes_leave facts) slot facts)
      ∙ sent_none payload (is_acked facts.acknowledgement) facts.fixes_control slot facts none
  step_none (WordsGiven skd_s iv_s) facts none = none
  step_none (PacketReceived slot octets room) facts none =
      let pdu = good_pdu setup facts octets in
      forged_none (is_forged setup facts octets) (facts_received setup.link.role slot room pdu facts)
      (subst (λ (role : Role). HasNone (facts_received role slot room pdu facts)) (sym is_central) (received_none slot room pdu facts none))
  step_none DataReported facts none = none

  steps_none : (steps : List Step) (facts : Facts) → HasNone facts → HasNone (facts_from setup facts steps)
  steps_none [] facts none = none
  steps_none (step ∷ steps) facts none = steps_none steps (facts_after setup facts step) (step_none step facts none)

  pub none_fixed : (past : List Step) → is_control (facts_of setup past).outgoing.fixed ≡ false
  unfolding facts_of
  none_fixed past = ap (λ (f : Facts). is_control f.outgoing.fixed) (facts_more setup [] past) ∙ steps_none past (facts_of setup []) refl
