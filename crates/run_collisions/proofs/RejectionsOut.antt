-- LL_REJECT_EXT_IND of a central was queued as the rejection of a procedure of the peripheral.
use Rattle.std.proofs.Common.{◌≡◌, ℕ, ◌==◌, true, false, Option, Some, None, is_some, refl, sym, ap, ◌∙◌, if◌then◌else◌}
use Rattle.data_pdu.specs.declared.ctrl.Ctrl.{Ctrl}
use Rattle.data_pdu.specs.declared.ctrl.Ctrl.TheVariants.{RejectExtInd}
use Rattle.exclusive_stages.specs.declared.pdus.Exclusive.{Exclusive}
use Rattle.exclusive_stages.specs.declared.pdus.Exclusive.TheVariants.{Map as map_kind, Phy, Request as request_kind, Update as update_kind}
use Rattle.exclusive_stages.specs.declared.pdus.Pdu.{Pdu}
use Rattle.exclusive_stages.specs.declared.pdus.Pdu.TheVariants.{RejectParam, RejectPhy}
use Rattle.collision_steps.specs.Parts.{param_request_opcode, phy_request_opcode, reason_part, rejection_part}
use Rattle.joint_collisions.specs.Facts.{fits_down, is_cipher_down}
use Rattle.link_pairs.specs.procedure_stages.Opcodes.{opcode_of_kind}
use Rattle.link_pairs.specs.procedure_values.declared.drafts.Draft.{Draft}
use Rattle.link_pairs.specs.procedure_values.declared.drafts.Draft.TheVariants.{Cipher, FeatureReq, FeatureRsp, Grant, LengthReq, LengthRsp, Map, PeripheralFeatureReq, PhyInd, PhyReq, PhyRsp, Request, UnknownRsp, Update, VersionInd}
use Rattle.link_pairs.specs.procedure_values.declared.drafts.Outgoing.{Outgoing}
use Rattle.link_pairs.specs.procedure_values.declared.drafts.Outgoing.TheVariants.{Disconnect, Nothing, Other, Rejection}
use Rattle.link_pairs.specs.procedure_values.declared.drafts.Rejection.{Rejection as TheRejection}
use Rattle.link_pairs.specs.procedure_values.Drafts.{ctrl_of_draft, ctrl_of_outgoing}

-- what is out is this rejection, by its opcode
pub record IsRejection (outgoing : Outgoing) (opcode : ℕ) : Type 0 where
  pub rejection : TheRejection
  pub is : outgoing ≡ Rejection rejection
  pub opcode_is : rejection.opcode ≡ opcode

module _ (opcode code event latency : ℕ) where
  cipher_is : (ctrl : Ctrl) → ◌≡◌ {A = Option Ctrl} (Some ctrl) (Some (RejectExtInd opcode code)) → ctrl ≡ RejectExtInd opcode code
  cipher_is ctrl is = cc

  no_draft : (draft : Draft) → ◌≡◌ {A = Option Ctrl} (Some (ctrl_of_draft draft event latency)) (Some (RejectExtInd opcode code)) → fits_down
      (Other draft) ≡ true → ⊥
  no_draft (Cipher ctrl) is fits = let no : false ≡ true = sym (ap is_cipher_down (cipher_is ctrl is)) ∙ fits in cc
  no_draft (Update params) is fits = absurd (cc)
  no_draft (Grant params) is fits = absurd (cc)
  no_draft (Map map) is fits = absurd (cc)
  no_draft (Request min max latency_asked timeout) is fits = absurd (cc)
  no_draft (LengthReq rx tx) is fits = absurd (cc)
  no_draft (LengthRsp rx tx) is fits = absurd (cc)
  no_draft (UnknownRsp named) is fits = absurd (cc)
  no_draft PhyReq is fits = absurd (cc)
  no_draft PhyRsp is fits = absurd (cc)
  no_draft PhyInd is fits = absurd (cc)
  no_draft FeatureReq is fits = absurd (cc)
  no_draft FeatureRsp is fits = absurd (cc)
  no_draft PeripheralFeatureReq is fits = absurd (cc)
  no_draft VersionInd is fits = absurd (cc)

  same_opcode : (rejection : TheRejection) → ◌≡◌ {A = Option Ctrl} (Some (RejectExtInd rejection.opcode rejection.code.0)) (Some (RejectExtInd opcode code))
      → rejection.opcode ≡ opcode
  same_opcode rejection is = cc

  pub is_rejection : (outgoing : Outgoing) → ctrl_of_outgoing outgoing event latency ≡ Some (RejectExtInd opcode code) → fits_down outgoing ≡ true
      → IsRejection outgoing opcode
  is_rejection Nothing sent fits = absurd (cc)
  is_rejection (Rejection rejection) sent fits = record { rejection = rejection; is = refl; opcode_is = same_opcode rejection sent }
  is_rejection (Disconnect reason) sent fits = absurd (cc)
  is_rejection (Other draft) sent fits = absurd (no_draft draft sent fits)

-- ---- by the procedure that it rejects

abbrev part_if : TheRejection → ℕ → Option Pdu
part_if rejection opcode =
    (if opcode == param_request_opcode then Some (RejectParam (reason_part rejection.code))
    else (if opcode == phy_request_opcode then Some (RejectPhy (reason_part rejection.code)) else None))

-- what the peripheral finds where it takes a rejection of one of its two procedures, of which it has the one or the other
module _ (rejection : TheRejection) (Found : Exclusive → Type 0)
    (request : rejection_part rejection ≡ Some (RejectParam (reason_part rejection.code)) → Found request_kind)
    (phy : rejection_part rejection ≡ Some (RejectPhy (reason_part rejection.code)) → Found Phy) where
  part_is : (n : ℕ) → rejection.opcode ≡ n → rejection_part rejection ≡ part_if rejection n
  part_is n is = ap (λ (m : ℕ). part_if rejection m) is

  none_part : part_if rejection (opcode_of_kind update_kind) ≡ None
  none_part = refl

  none_part_too : part_if rejection (opcode_of_kind map_kind) ≡ None
  none_part_too = refl

  never : rejection_part rejection ≡ None → is_some (rejection_part rejection) ≡ true → ⊥
  never none some = let no : false ≡ true = sym (ap (λ (o : Option Pdu). is_some o) none) ∙ some in cc

  pub found : (q : Exclusive) → rejection.opcode ≡ opcode_of_kind q → is_some (rejection_part rejection) ≡ true → Found q
  found update_kind is some = absurd (never (part_is (opcode_of_kind update_kind) is ∙ none_part) some)
  found map_kind is some = absurd (never (part_is (opcode_of_kind map_kind) is ∙ none_part_too) some)
  found request_kind is some = request (part_is (opcode_of_kind request_kind) is)
  found Phy is some = phy (part_is (opcode_of_kind Phy) is)
