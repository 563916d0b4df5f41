-- The first PDU of a procedure of a peripheral, as that queued it.
use Rattle.std.proofs.Common.{◌≡◌, ℕ, true, false, Option, Some, None, refl, ap, ◌∙◌}
use Rattle.data_pdu.specs.declared.ctrl.Ctrl.{Ctrl}
use Rattle.data_pdu.specs.declared.ctrl.Ctrl.TheVariants.{ConnectionParamReq as param_ctrl, PhyReq as phy_ctrl, TerminateInd}
use Rattle.exclusive_stages.specs.declared.pdus.Exclusive.{Exclusive}
use Rattle.exclusive_stages.specs.declared.pdus.Pdu.{Pdu}
use Rattle.exclusive_stages.specs.declared.pdus.Pdu.TheVariants.{ParamReq, PhyReq as phy_pdu}
use Rattle.exclusive_stages.specs.Pdus.{first_kind}
use Rattle.joint_collisions.specs.Facts.{fits_up, is_cipher_up}
use Rattle.link_pairs.specs.procedure_stages.Exclusive.{pdu_of_outgoing}
use Rattle.link_pairs.specs.procedure_values.declared.drafts.Draft.{Draft}
use Rattle.link_pairs.specs.procedure_values.declared.drafts.Draft.TheVariants.{Cipher, FeatureReq, FeatureRsp, Grant, LengthReq, LengthRsp, Map, PeripheralFeatureReq, PhyInd, PhyReq, PhyRsp, Request, UnknownRsp, Update, VersionInd}
use Rattle.link_pairs.specs.procedure_values.declared.drafts.Outgoing.{Outgoing}
use Rattle.link_pairs.specs.procedure_values.declared.drafts.Outgoing.TheVariants.{Disconnect, Nothing, Other, Rejection}
use Rattle.link_pairs.specs.procedure_values.Drafts.{ctrl_of_draft, ctrl_of_outgoing}
use Rattle.link_pairs.specs.joint_controls.Joint.{is_terminate}
use Rattle.run_collisions.specs.Prevailing.{first_of}

module _ (q : Exclusive) where
  -- it does not end the link
  pub terminates_none : (ctrl : Ctrl) → first_of ctrl ≡ Some q → is_terminate ctrl ≡ false
  terminates_none (TerminateInd code) is = absurd (cc)
  terminates_none ctrl is = refl

  -- it is no PDU of an encryption
  no_cipher : (ctrl : Ctrl) → is_cipher_up ctrl ≡ true → first_of ctrl ≡ Some q → ⊥
  no_cipher (param_ctrl min max latency timeout periodicity reference offsets) cipher is = absurd (cc)
  no_cipher (phy_ctrl tx rx) cipher is = absurd (cc)
  no_cipher ctrl cipher is = absurd (cc)

  -- what waited is the first PDU of that procedure
  pub record IsFirst (outgoing : Outgoing) : Type 0 where
    pub pdu : Pdu
    pub part : pdu_of_outgoing outgoing ≡ Some pdu
    pub first : first_kind pdu ≡ Some q

  none : (outgoing : Outgoing) → ◌≡◌ {A = Option Exclusive} None (Some q) → IsFirst outgoing
  none outgoing is = absurd (cc)

  module _ (event latency : ℕ) where
    by_draft : (draft : Draft) → fits_up (Other draft) ≡ true → first_of (ctrl_of_draft draft event latency) ≡ Some q → IsFirst (Other draft)
    by_draft (Request min max latency timeout) fits is = record { pdu = ParamReq; part = refl; first = is }
    by_draft PhyReq fits is = record { pdu = phy_pdu; part = refl; first = is }
    by_draft (Cipher ctrl) fits is = absurd (no_cipher ctrl fits is)
    by_draft (Update params) fits is = none (Other (Update params)) is
    by_draft (Grant params) fits is = none (Other (Grant params)) is
    by_draft (Map map) fits is = none (Other (Map map)) is
    by_draft (LengthReq rx tx) fits is = none (Other (LengthReq rx tx)) is
    by_draft (LengthRsp rx tx) fits is = none (Other (LengthRsp rx tx)) is
    by_draft (UnknownRsp opcode) fits is = none (Other (UnknownRsp opcode)) is
    by_draft PhyRsp fits is = none (Other PhyRsp) is
    by_draft PhyInd fits is = none (Other PhyInd) is
    by_draft FeatureReq fits is = none (Other FeatureReq) is
    by_draft FeatureRsp fits is = none (Other FeatureRsp) is
    by_draft PeripheralFeatureReq fits is = none (Other PeripheralFeatureReq) is
    by_draft VersionInd fits is = none (Other VersionInd) is

    same : (one other : Ctrl) → ◌≡◌ {A = Option Ctrl} (Some one) (Some other) → one ≡ other
    same one other is = cc

    pub is_first : (outgoing : Outgoing) (ctrl : Ctrl) → ctrl_of_outgoing outgoing event latency ≡ Some ctrl → fits_up outgoing ≡ true
        → first_of ctrl ≡ Some q → IsFirst outgoing
    is_first Nothing ctrl sent fits is = absurd (cc)
    is_first (Rejection rejection) ctrl sent fits is = absurd (cc)
    is_first (Disconnect code) ctrl sent fits is = none (Disconnect code) (ap first_of (same (TerminateInd code.0) ctrl sent) ∙ is)
    is_first (Other draft) ctrl sent fits is = by_draft draft fits (ap first_of (same (ctrl_of_draft draft event latency) ctrl sent) ∙ is)
