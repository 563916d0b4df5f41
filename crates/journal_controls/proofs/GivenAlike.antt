-- What a PDU gives, and one that was kept until it came, does not depend on what a peripheral would draw.
use Rattle.std.proofs.Common.{◌≡◌, ℕ, Bool, true, false, refl, sym, ap, ◌∙◌, if◌then◌else◌}
use Rattle.ble_base.specs.declared.roles.Role.{Role}
use Rattle.ble_base.specs.declared.roles.Role.TheVariants.{Central, Peripheral}
use Rattle.data_pdu.specs.declared.ctrl.Ctrl.{Ctrl}
use Rattle.data_pdu.specs.declared.ctrl.Ctrl.TheVariants.{EncReq, EncRsp}
use Rattle.data_pdu.specs.declared.ctrl.CtrlRead.{CtrlRead}
use Rattle.data_pdu.specs.declared.ctrl.CtrlRead.TheVariants.{Known}
use Rattle.journal_ends.specs.link_model.control_end.Answers.{nothing_taken}
use Rattle.journal_ends.specs.link_model.enc_phase.declared.facts.PhaseFacts.{PhaseFacts}
use Rattle.journal_ends.specs.link_model.enc_phase.declared.facts.PhaseFacts.TheVariants.{Clear, HalfClear}
use Rattle.journal_ends.specs.link_model.enc_phase.declared.facts.Transition.TheVariants.{Ask}
use Rattle.journal_ends.specs.link_model.enc_phase.Phases.{is_quiet, may_follow, phase_after}
use Rattle.journal_ends.specs.link_model.enc_phase.Sealing.{after_transition}
use Rattle.journal_ends.specs.link_model.keyed_control.declared.material.Response.{Response}
use Rattle.journal_ends.specs.link_model.phased_end.Held.{HeldKeyed}
use Rattle.journal_ends.specs.link_model.phased_end.Moves.{lasts, moving, owing}
use Rattle.journal_ends.specs.link_model.phased_end.Taking.{answered, answering_at, asking, handed_keyed, handed_taken, handing, is_handed, is_refused, kept_taken, kept_taken_if_quiet, nothing_keyed, taken_keyed}
use Rattle.journal_ends.specs.link_model.phased_end.declared.taking.TakenKeyed.{TakenKeyed}
use Rattle.journal_ends.specs.link_model.procedure_stages.Closing.{is_open}

-- a peripheral that answers LL_ENC_REQ is in no phase in which it would answer what was kept
loud_asked : (phase : PhaseFacts) → may_follow Ask phase ≡ true → is_quiet (phase_after Ask phase) ≡ false
loud_asked Clear is = refl
loud_asked (HalfClear kept) is = refl
loud_asked phase is = absurd cc

module _ (slot skd_m iv_m : ℕ) (g : HeldKeyed) where
  abbrev asked_by : Response → HeldKeyed
  asked_by response =
      owing (EncRsp response.skd_s response.iv_s) (record (moving Ask g) {
        asks_key = is_open g.control.table.closing;
        material = record g.material { skd_m = skd_m; iv_m = iv_m; skd_s = response.skd_s; iv_s = response.iv_s };
      })

  asked_none : (response : Response) → may_follow Ask g.end.phase ≡ true → kept_taken_if_quiet slot (asked_by response) ≡ nothing_taken
  asked_none response is =
      let asked = asked_by response in
      let loud : is_quiet asked.end.phase ≡ false = ap (λ b. is_quiet (if b then after_transition Ask g.end else g.end).phase) is ∙ loud_asked g.end.phase is in
      ap (λ quiet. if quiet then kept_taken slot asked.kept asked else nothing_taken) loud

  asking_alike : (one other : Response) → kept_taken_if_quiet slot (asking skd_m iv_m one g) ≡ kept_taken_if_quiet slot (asking skd_m iv_m other g)
  asking_alike one other = by (may_follow Ask g.end.phase) refl
    where
      by : (may : Bool) → may_follow Ask g.end.phase ≡ may
          → kept_taken_if_quiet slot (if may then asked_by one else g) ≡ kept_taken_if_quiet slot (if may then asked_by other else g)
      by true is = asked_none one is ∙ sym (asked_none other is)
      by false is = refl

module _ (slot : ℕ) (one other : Response) where
  at_alike : (role : Role) (refused : Bool) (ctrl : Ctrl) (g : HeldKeyed)
      → kept_taken_if_quiet slot (answering_at role refused one ctrl g) ≡ kept_taken_if_quiet slot (answering_at role refused other ctrl g)
  at_alike Central refused ctrl g = refl
  at_alike Peripheral refused (EncReq rand ediv skd_m iv_m) g = asking_alike slot skd_m iv_m g one other
  at_alike Peripheral refused ctrl g = refl

  answers_alike : (refused : Bool) (read : CtrlRead) (g : HeldKeyed)
      → kept_taken_if_quiet slot (answered refused one read g) ≡ kept_taken_if_quiet slot (answered refused other read g)
  answers_alike refused (Known ctrl) g = at_alike g.end.role refused ctrl g
  answers_alike refused read g = refl

  pub gives_alike : (read : CtrlRead) (h : HeldKeyed) → taken_keyed slot one read h ≡ taken_keyed slot other read h
  gives_alike read h =
      let g = handing slot read h in
      let kept = answers_alike (is_refused (handed_taken slot read h).refused) read g in
      let handed : handed_keyed slot one read h ≡ handed_keyed slot other read h =
      λ i. record { taken = handed_taken slot read h; kept = (if lasts g then kept i else nothing_taken) } in
      ap (λ (given : TakenKeyed). if is_handed read h then given else nothing_keyed) handed
