-- A peripheral of a joint run sends no refusal of a procedure of the central that excludes others.
use Rattle.std.proofs.Common.{◌≡◌, ℕ, Bool, true, false, not, Some, refl, sym, ap, ◌∙◌}
use Rattle.std.specs.Prelude.{◌==◌, Option}
use Rattle.data_pdu.specs.declared.ctrl.Ctrl.{Ctrl}
use Rattle.data_pdu.specs.declared.ctrl.Ctrl.TheVariants.{RejectExtInd, RejectInd, TerminateInd, UnknownRsp as unknown_ctrl}
use Rattle.joint_collisions.specs.Facts.{fits_up, is_cipher_up, is_first_down}
use Rattle.link_pairs.specs.procedure_stages.Opcodes.{enc_req_opcode}
use Rattle.link_pairs.specs.procedure_values.Drafts.{ctrl_of_draft, ctrl_of_outgoing}
use Rattle.link_pairs.specs.procedure_values.declared.drafts.Draft.{Draft}
use Rattle.link_pairs.specs.procedure_values.declared.drafts.Draft.TheVariants.{Cipher, FeatureReq, FeatureRsp, Grant, LengthReq, LengthRsp, Map, PeripheralFeatureReq, PhyInd, PhyReq, PhyRsp, Request, UnknownRsp, Update, VersionInd}
use Rattle.link_pairs.specs.procedure_values.declared.drafts.Outgoing.{Outgoing}
use Rattle.link_pairs.specs.procedure_values.declared.drafts.Outgoing.TheVariants.{Disconnect, Nothing, Other, Rejection}
use Rattle.run_collisions.specs.Refused.{is_refusing}

not_so : (b : Bool) → not b ≡ true → b ≡ false
not_so true is = absurd cc
not_so false is = refl

not_false : (b : Bool) → b ≡ true → not b ≡ false
not_false true is = refl
not_false false is = absurd cc

no_cipher : (ctrl : Ctrl) → is_cipher_up ctrl ≡ true → is_refusing ctrl ≡ false
no_cipher (unknown_ctrl opcode) is = absurd cc
no_cipher (RejectInd code) is = absurd cc
no_cipher (RejectExtInd opcode code) is = not_false (enc_req_opcode == opcode) is
no_cipher ctrl is = refl

module _ (event latency : ℕ) where
  by_draft : (draft : Draft) → fits_up (Other draft) ≡ true → is_refusing (ctrl_of_draft draft event latency) ≡ false
  by_draft (UnknownRsp opcode) fits = not_so (is_first_down opcode) fits
  by_draft (Cipher ctrl) fits = no_cipher ctrl fits
  by_draft (Update params) fits = refl
  by_draft (Grant params) fits = refl
  by_draft (Map map) fits = refl
  by_draft (Request min max latency_asked timeout) fits = refl
  by_draft (LengthReq rx tx) fits = refl
  by_draft (LengthRsp rx tx) fits = refl
  by_draft PhyReq fits = refl
  by_draft PhyRsp fits = refl
  by_draft PhyInd fits = refl
  by_draft FeatureReq fits = refl
  by_draft FeatureRsp fits = refl
  by_draft PeripheralFeatureReq fits = refl
  by_draft VersionInd fits = refl

  same : (one other : Ctrl) → ◌≡◌ {A = Option Ctrl} (Some one) (Some other) → one ≡ other
  same one other is = cc

  pub none_refused : (outgoing : Outgoing) (ctrl : Ctrl) → ctrl_of_outgoing outgoing event latency ≡ Some ctrl → fits_up outgoing ≡ true
      → is_refusing ctrl ≡ false
  none_refused Nothing ctrl sent fits = absurd (cc)
  none_refused (Rejection rejection) ctrl sent fits = absurd (cc)
  none_refused (Disconnect code) ctrl sent fits = ap is_refusing (sym (same (TerminateInd code.0) ctrl sent))
  none_refused (Other draft) ctrl sent fits = ap is_refusing (sym (same (ctrl_of_draft draft event latency) ctrl sent)) ∙ by_draft draft fits
