-- An end that is given words notes the same of a packet: that it may answer LL_ENC_REQ with them is not noted, and what it
-- kept is not answered then.
use Rattle.std.proofs.Common.{◌≡◌, ℕ, ◌&&◌, not, Bool, true, false, List, Option, Some, None, ◌++◌, refl, ap, sym, ◌∙◌, if◌then◌else◌}
use Rattle.ble_base.specs.declared.roles.Role.{Role}
use Rattle.ble_base.specs.declared.roles.Role.TheVariants.{Central, Peripheral}
use Rattle.ble_base.specs.declared.notes.Note.{Note}
use Rattle.data_pdu.specs.Header.{header_in}
use Rattle.data_pdu.specs.declared.ctrl.Ctrl.{Ctrl}
use Rattle.data_pdu.specs.declared.ctrl.Ctrl.TheVariants.{EncReq, EncRsp}
use Rattle.data_pdu.specs.declared.ctrl.CtrlRead.{CtrlRead}
use Rattle.data_pdu.specs.declared.ctrl.CtrlRead.TheVariants.{Known}
use Rattle.data_pdu.specs.declared.header.DataHeader.{DataHeader}
use Rattle.link_calls.specs.link_model.Acknowledgement.{Pdu}
use Rattle.link_calls.specs.link_model.Controls.{is_procedure_pdu, read_of}
use Rattle.link_calls.specs.link_model.Data.{is_empty}
use Rattle.link_calls.specs.link_model.End.{notes_after}
use Rattle.link_calls.specs.link_model.Entering.{done_notes}
use Rattle.link_calls.specs.link_model.Facts.{Facts, keyed_of}
use Rattle.link_calls.specs.link_model.Hosts.{facts_with_words}
use Rattle.link_calls.specs.link_model.Packets.{good_pdu}
use Rattle.link_calls.specs.link_model.Receiving.{accepts, acked_kind, acknowledged_if, acks_control, facts_before_taking, fixed_goes, given_notes, has_acknowledged, heard_in_slot, notes_hearing, received_notes, taken_notes, took_notes_if}
use Rattle.link_calls.specs.link_model.Sending.{control_gone_if, takes_leave}
use Rattle.link_calls.specs.link_model.Setup.{Setup}
use Rattle.link_calls.specs.link_model.Step.{PacketReceived, WordsGiven}
use Rattle.link_calls.specs.link_model.Verdicts.{pdu_of}
use Rattle.link_calls.specs.link_model.enc_phase.declared.facts.PhaseFacts.{PhaseFacts}
use Rattle.link_calls.specs.link_model.enc_phase.declared.facts.PhaseFacts.TheVariants.{Asked, Clear, HalfClear, HalfKeyed, Pausing, Secure}
use Rattle.link_calls.specs.link_model.enc_phase.Sealing.{after_transition}
use Rattle.link_calls.specs.link_model.keyed_control.declared.material.Response.{Response}
use Rattle.link_calls.specs.link_model.phased_end.declared.taking.TakenKeyed.{TakenKeyed}
use Rattle.link_calls.specs.link_model.phased_end.Held.{HeldKeyed, held_of}
use Rattle.link_calls.specs.link_model.procedure_stages.Closing.{is_open}
use Rattle.link_calls.specs.link_model.enc_phase.declared.facts.Transition.TheVariants.{Ask}
use Rattle.link_calls.specs.link_model.enc_phase.Phases.{is_quiet, may_follow, phase_after}
use Rattle.link_calls.specs.link_model.phased_end.Taking.{answered, answering_at, asking, handed_taken, handing, is_handed, is_refused, kept_taken, kept_taken_if_quiet, nothing_keyed, taken_keyed}
use Rattle.link_calls.specs.link_model.phased_end.Moves.{lasts, moving, owing}
use Rattle.link_calls.specs.link_model.control_end.declared.answers.Taken.{Taken}
use Rattle.link_calls.specs.link_model.control_end.Answers.{nothing_taken}
use Rattle.link_calls.specs.open_links.OpenLinks.{OpenLink, facts_in}
use Rattle.link_calls.specs.controller_model.declared.doing.Doing.{Doing}
use Rattle.link_calls.specs.controller_model.Facts.{Facts as Held, Setup as ControllerSetup}
use Rattle.link_calls.specs.Phases.{link_worded}
use Rattle.link_calls.proofs.run_laws.Agreed.{step_facts}
use Rattle.link_calls.proofs.Worded.{each_worded}
use Rattle.run_pairs.proofs.Worded.{good_same}

-- ---- what the procedures give does not depend on the words

if_not : {A : Type 0} (b : Bool) (one other : A) → b ≡ false → (if b then one else other) ≡ other
if_not b one other is = ap (λ (b : Bool). if b then one else other) is

-- an end that is asked for a key is neither in Clear nor in Secure
asked_loud : (phase : PhaseFacts) → may_follow Ask phase ≡ true → is_quiet (phase_after Ask phase) ≡ false
asked_loud Clear is = refl
asked_loud (HalfClear kept) is = refl
asked_loud (Asked after_pause enc_rsp kept) is = absurd (cc)
asked_loud HalfKeyed is = absurd (cc)
asked_loud Secure is = absurd (cc)
asked_loud (Pausing kept) is = absurd (cc)

-- as it answers with these words
abbrev asked_with : ℕ → ℕ → HeldKeyed → Response → HeldKeyed
asked_with skd_m iv_m h response =
    owing (EncRsp response.skd_s response.iv_s) (record (moving Ask h) {
      asks_key = is_open h.control.table.closing;
      material = record h.material { skd_m = skd_m; iv_m = iv_m; skd_s = response.skd_s; iv_s = response.iv_s };
    })

module _ (one other : Response) (slot : ℕ) where
  asking_alike : (skd_m iv_m : ℕ) (h : HeldKeyed) → kept_taken_if_quiet slot (asking skd_m iv_m one h) ≡ kept_taken_if_quiet slot (asking skd_m iv_m other h)
  asking_alike skd_m iv_m h = by (may_follow Ask h.end.phase) refl
    where
      by : (may : Bool) → may_follow Ask h.end.phase ≡ may
          → kept_taken_if_quiet slot (if may then asked_with skd_m iv_m h one else h) ≡ kept_taken_if_quiet slot (if may then asked_with skd_m iv_m h other else h)
      by true is =
          let loud : is_quiet (moving Ask h).end.phase ≡ false =
          ap (λ (b : Bool). is_quiet (if b then after_transition Ask h.end else h.end).phase) is ∙ asked_loud h.end.phase is in
          if_not (is_quiet (moving Ask h).end.phase) (kept_taken slot h.kept (asked_with skd_m iv_m h one)) nothing_taken loud
          ∙ sym (if_not (is_quiet (moving Ask h).end.phase) (kept_taken slot h.kept (asked_with skd_m iv_m h other)) nothing_taken loud)
      by false is = refl

  answered_alike : (refused : Bool) (read : CtrlRead) (h : HeldKeyed) → kept_taken_if_quiet slot (answered refused one read h) ≡ kept_taken_if_quiet slot (answered refused other read h)
  answered_alike refused (Known ctrl) h = by h.end.role ctrl
    where
      by : (role : Role) (ctrl : Ctrl) → kept_taken_if_quiet slot (answering_at role refused one ctrl h) ≡ kept_taken_if_quiet slot (answering_at role refused other ctrl h)
      by Central ctrl = refl
      by Peripheral (EncReq rand ediv skd_m iv_m) = asking_alike skd_m iv_m h
      by Peripheral ctrl = refl
  answered_alike refused read h = refl

  taken_alike : (read : CtrlRead) (h : HeldKeyed) → taken_keyed slot one read h ≡ taken_keyed slot other read h
  taken_alike read h =
      ap (λ (kept : Taken). if is_handed read h
      then record { taken = handed_taken slot read h; kept = if lasts (handing slot read h) then kept else nothing_taken }
      else nothing_keyed)
      (answered_alike (is_refused (handed_taken slot read h).refused) read (handing slot read h))

-- ---- so an end notes the same with them

module _ (skd_s iv_s : ℕ) where
  abbrev worded : Facts → Facts
  worded facts = facts_with_words skd_s iv_s facts

  gone_worded : (goes : Bool) (slot : ℕ) (facts : Facts) → control_gone_if goes slot (worded facts) ≡ worded (control_gone_if goes slot facts)
  gone_worded true slot facts = refl
  gone_worded false slot facts = refl

  fixed_worded : (role : Role) (slot : ℕ) (facts : Facts) → fixed_goes role slot (worded facts) ≡ worded (fixed_goes role slot facts)
  fixed_worded Central slot facts = refl
  fixed_worded Peripheral slot facts = gone_worded (takes_leave facts) slot facts

  before_worded : (role : Role) (slot : ℕ) (header : DataHeader) (facts : Facts)
      → facts_before_taking role slot header (worded facts) ≡ worded (facts_before_taking role slot header facts)
  before_worded role slot header facts = fixed_worded role slot (acknowledged_if (has_acknowledged facts header) (heard_in_slot slot header.md facts))

  noted_worded : (handle : ℕ) (accepted : Bool) (pdu : Pdu) (slot : ℕ) (facts : Facts) → taken_notes handle accepted pdu slot (worded facts) ≡ taken_notes handle accepted pdu slot facts
  noted_worded handle accepted pdu slot facts =
      ap (λ (given : TakenKeyed). took_notes_if (accepted && not (is_empty pdu)) handle pdu facts
      ++ (given_notes handle (if accepted && is_procedure_pdu pdu then given.taken else nothing_taken)
      ++ given_notes handle (if accepted && is_procedure_pdu pdu then given.kept else nothing_taken)))
      (taken_alike (worded facts).encryption.response facts.encryption.response slot (read_of pdu) (held_of (keyed_of facts)))

  hearing_worded : (setup : Setup) (slot : ℕ) (room : Bool) (header : DataHeader) (pdu : Pdu) (facts : Facts)
      → notes_hearing setup slot room header pdu (worded facts) ≡ notes_hearing setup slot room header pdu facts
  hearing_worded setup slot room header pdu facts =
      let now = facts_before_taking setup.link.role slot header facts in
      let done = done_notes setup.link.handle (acked_kind (acks_control (has_acknowledged facts header) facts) facts) in
      ap (λ (f : Facts). done ++ taken_notes setup.link.handle (accepts room header pdu f) pdu slot f) (before_worded setup.link.role slot header facts)
      ∙ ap (λ (notes : List Note). done ++ notes) (noted_worded setup.link.handle (accepts room header pdu now) pdu slot now)

  received_worded : (setup : Setup) (slot : ℕ) (room : Bool) (pdu : Option (List ℕ)) (facts : Facts) → received_notes setup slot room pdu (worded facts) ≡ received_notes setup slot room pdu facts
  received_worded setup slot room None facts = refl
  received_worded setup slot room (Some pdu) facts = hearing_worded setup slot room (header_in pdu) (pdu_of pdu) facts

pub worded_notes : (setup : ControllerSetup) (held : Held) (doing : Doing) (link : OpenLink) (slot : ℕ) (octets : List ℕ) (room : Bool)
    → notes_after link.setup (facts_in (link_worded setup held doing link)) (PacketReceived slot octets room)
    ≡ notes_after link.setup (facts_in link) (PacketReceived slot octets room)
worded_notes setup held doing link slot octets room =
    each_worded (λ base. notes_after link.setup (facts_in base) (PacketReceived slot octets room) ≡ notes_after link.setup (facts_in link) (PacketReceived slot octets room))
    setup held doing link refl
    (λ skd_s iv_s.
    ap (λ (f : Facts). notes_after link.setup f (PacketReceived slot octets room)) (step_facts link (WordsGiven skd_s iv_s))
    ∙ ap (λ pdu. received_notes link.setup slot room pdu (worded skd_s iv_s (facts_in link))) (good_same link.setup skd_s iv_s octets (facts_in link))
    ∙ received_worded skd_s iv_s link.setup slot room (good_pdu link.setup (facts_in link) octets) (facts_in link))
