-- Which PDUs of a peripheral are the first of a procedure of its own.
use Rattle.std.proofs.Common.{◌≡◌, ℕ, ◌==◌, if◌then◌else◌, Bool, true, false, ◌||◌, List, [], ◌∷◌, Option, Some, None, is_none, refl, ap, sym, ◌∙◌, arith}
use Rattle.std.specs.List.{AllByRecursion}
use Rattle.ble_base.specs.declared.roles.Role.TheVariants.{Peripheral}
use Rattle.data_pdu.specs.declared.ctrl.Ctrl.{Ctrl}
use Rattle.data_pdu.specs.declared.ctrl.Ctrl.TheVariants.{ConnectionParamReq, EncRsp, LengthReq as length_pdu, PauseEncRsp, PeripheralFeatureReq as feature_pdu, PhyReq as phy_pdu, RejectExtInd, StartEncReq, StartEncRsp, TerminateInd, VersionInd as version_pdu}
use Rattle.joint_parameters.specs.enc_phase.declared.classes.PduClass.TheVariants.{Other as other_class, Refusal, Request as request_class}
use Rattle.exclusive_stages.specs.declared.pdus.Pdu.{Pdu}
use Rattle.joint_parameters.specs.procedure_values.declared.drafts.Draft.{Draft}
use Rattle.joint_parameters.specs.procedure_values.declared.drafts.Draft.TheVariants.{Update, Cipher, LengthReq, PeripheralFeatureReq, PhyReq, Request, VersionInd}
use Rattle.joint_parameters.specs.procedure_values.declared.drafts.Outgoing.{Outgoing}
use Rattle.joint_parameters.specs.procedure_values.declared.drafts.Outgoing.TheVariants.{Disconnect, Nothing, Other, Rejection}
use Rattle.joint_parameters.specs.procedure_values.Drafts.{ctrl_of_draft, ctrl_of_outgoing}
use Rattle.joint_parameters.specs.procedure_stages.Exclusive.{pdu_of_draft, pdu_of_outgoing}
use Rattle.joint_parameters.specs.table_laws.Waiting.{count_if, number_of}
use Rattle.collisions.specs.Agreement
use Rattle.collisions.specs.declared.joint.Way.{Way as the_way}
use Rattle.collisions.specs.declared.joint.Way.TheVariants.{Fixed as the_fixed, OnAir as the_on_air}
use Rattle.collisions.specs.JointRun.{is_pdu}
use Rattle.joint_collisions.specs.collision_steps.Parts.{drafts_part, with_part}
use Rattle.joint_phases.specs.phase_pairs.JointRun.{is_request}
use Rattle.joint_collisions.specs.Views.{item_part, kept_part, way_if, way_part}
use Rattle.joint_parameters.specs.joint_controls.Joint.{Clear, Control, Data, Fixed, Item, OnAir, Taken, Way, is_item}
use Rattle.joint_exchanges.specs.Agreement.{Features, Lengths, is_control, is_draft, is_first_of, is_question_of, is_version_ctrl, is_version_ind, passes, untaken}
use Rattle.joint_exchanges.specs.SentByRole.{IsItemOf, IsWayOf, is_cipher_of, is_draft_of, is_outgoing_of}
use Rattle.joint_phases.specs.Classes.{class_up, draft_up, has_request}
use Rattle.joint_phases.specs.Facts.{is_first_up, item_untaken}
use Rattle.joint_parameters.specs.phased_control.Ends.{IsFirst}
use Rattle.joint_laws.specs.Firsts.{has, is_first}
use Rattle.joint_laws.proofs.VersionPdus.{count_none}
use Rattle.joint_laws.proofs.Common.{some_ctrl}

-- ---- one draft

-- it is the first of no procedure
record IsNoFirst (knows : Bool) (draft : Draft) : Type 0 where
  features : is_question_of Features draft ≡ false
  lengths : is_question_of Lengths draft ≡ false
  version : knows ≡ false → is_version_ind draft ≡ false
  exclusive : is_pdu is_first (pdu_of_draft draft) ≡ false

cipher_up : (knows : Bool) (ctrl : Ctrl) → is_cipher_of Peripheral ctrl ≡ true → is_request (class_up knows ctrl) ≡ false
cipher_up knows (EncRsp skd_s iv_s) is = refl
cipher_up knows StartEncReq is = refl
cipher_up knows StartEncRsp is = refl
cipher_up knows PauseEncRsp is = refl
cipher_up knows (RejectExtInd opcode code) is = rejects (opcode == 3)
  where
    rejects : (b : Bool) → is_request (if b then Refusal else other_class) ≡ false
    rejects true = refl
    rejects false = refl
cipher_up knows (TerminateInd code) is = refl
cipher_up knows ctrl is = absurd (cc)

draft_none : (knows : Bool) (draft : Draft) → is_draft_of true Peripheral draft ≡ true → IsNoFirst knows draft → is_request (draft_up knows draft) ≡ false
draft_none knows PeripheralFeatureReq is none = let f = none.features in absurd (cc)
draft_none knows (LengthReq rx tx) is none = let l = none.lengths in absurd (cc)
draft_none knows (Request min max latency timeout) is none = let e = none.exclusive in absurd (cc)
draft_none knows PhyReq is none = let e = none.exclusive in absurd (cc)
draft_none true VersionInd is none = refl
draft_none false VersionInd is none = let v = none.version refl in absurd (cc)
draft_none knows (Cipher ctrl) is none = cipher_up knows ctrl is
draft_none knows draft is none = refl

class_same : (knows : Bool) (draft : Draft) (event latency : ℕ) → class_up knows (ctrl_of_draft draft event latency) ≡ draft_up knows draft
class_same knows (Update params) event latency = refl
class_same knows draft event latency = refl

-- ---- what waits

pub record AreNoFirsts (knows : Bool) (drafts : List Draft) : Type 0 where
  pub features : number_of (is_question_of Features) drafts ≡ 0
  pub lengths : number_of (is_question_of Lengths) drafts ≡ 0
  pub version : knows ≡ false → number_of is_version_ind drafts ≡ 0
  pub exclusive : has is_first (drafts_part drafts) ≡ false

or_none : (a b : Bool) → (a || b) ≡ false → (a ≡ false) × (b ≡ false)
or_none true b is = absurd (cc)
or_none false b is = (refl, is)

part_none : (part : Option Pdu) (pdus : List Pdu) → has is_first (with_part part pdus) ≡ false → (is_pdu is_first part ≡ false) × (has is_first pdus ≡ false)
part_none None pdus is = (refl, is)
part_none (Some pdu) pdus is = or_none (is_first pdu) (has is_first pdus) is

first_is_none : (knows : Bool) (draft : Draft) (drafts : List Draft) → AreNoFirsts knows (draft ∷ drafts) → IsNoFirst knows draft
first_is_none knows draft drafts none =
    let f = none.features in
    let l = none.lengths in
    record {
      features = count_none (is_question_of Features draft) (omega (arith, f));
      lengths = count_none (is_question_of Lengths draft) (omega (arith, l));
      version = λ unknown. let v = none.version unknown in count_none (is_version_ind draft) (omega (arith, v));
      exclusive = (part_none (pdu_of_draft draft) (drafts_part drafts) none.exclusive).0;
    }

later_are_none : (knows : Bool) (draft : Draft) (drafts : List Draft) → AreNoFirsts knows (draft ∷ drafts) → AreNoFirsts knows drafts
later_are_none knows draft drafts none =
    let f = none.features in
    let l = none.lengths in
    record {
      features = omega (arith, f);
      lengths = omega (arith, l);
      version = λ unknown. let v = none.version unknown in omega (arith, v);
      exclusive = (part_none (pdu_of_draft draft) (drafts_part drafts) none.exclusive).1;
    }

pub queue_none : (knows : Bool) (drafts : List Draft) → AllByRecursion (λ draft. is_draft_of true Peripheral draft ≡ true) drafts → AreNoFirsts knows drafts
    → has_request (draft_up knows) drafts ≡ false
queue_none knows [] all none = refl
queue_none knows (draft ∷ drafts) all none =
    ap (λ b. b || has_request (draft_up knows) drafts) (draft_none knows draft all.0 (first_is_none knows draft drafts none))
    ∙ queue_none knows drafts all.1 (later_are_none knows draft drafts none)

-- ---- what is on its way

pub record IsNoFirstOn (knows : Bool) (way : Way) : Type 0 where
  pub features : untaken (is_question_of Features) way ≡ 0
  pub lengths : untaken (is_question_of Lengths) way ≡ 0
  pub version : knows ≡ false → untaken is_version_ind way ≡ 0
  pub exclusive : is_pdu is_first (Agreement.untaken (way_part pdu_of_outgoing way)) ≡ false

outgoing_none : (knows : Bool) (outgoing : Outgoing) (ctrl : Ctrl) (event latency : ℕ) → is_outgoing_of true Peripheral outgoing ≡ true
    → ctrl_of_outgoing outgoing event latency ≡ Some ctrl
    → is_draft (is_question_of Features) outgoing ≡ false → is_draft (is_question_of Lengths) outgoing ≡ false
    → (knows ≡ false → is_draft is_version_ind outgoing ≡ false) → is_pdu is_first (pdu_of_outgoing outgoing) ≡ false
    → is_request (class_up knows ctrl) ≡ false
outgoing_none knows Nothing ctrl event latency right is f l v e = absurd (cc)
outgoing_none knows (Rejection rejection) ctrl event latency right is f l v e = absurd (cc)
outgoing_none knows (Disconnect code) ctrl event latency right is f l v e = ap (λ c. is_request (class_up knows c)) (sym (some_ctrl is))
outgoing_none knows (Other draft) ctrl event latency right is f l v e =
    ap (λ c. is_request (class_up knows c)) (sym (some_ctrl is))
    ∙ ap (λ c. is_request c) (class_same knows draft event latency)
    ∙ draft_none knows draft right (record { features = f; lengths = l; version = v; exclusive = e })

untaken_way : (place : (Pdu → the_way)) (part : Option Pdu) → ((pdu : Pdu) → Agreement.untaken (place pdu) ≡ Some pdu) → Agreement.untaken (way_if place part) ≡ part
untaken_way place None same = refl
untaken_way place (Some pdu) same = same pdu

item_none : (knows : Bool) (item : Item) → IsItemOf true Peripheral item → count_if (is_control (is_question_of Features) item) ≡ 0 → count_if (is_control (is_question_of Lengths) item) ≡ 0
    → (knows ≡ false → count_if (is_control is_version_ind item) ≡ 0) → is_pdu is_first (item_part pdu_of_outgoing item) ≡ false → is_first_up knows item ≡ false
item_none knows Data sent f l v e = refl
item_none knows (Control outgoing ctrl) sent f l v e =
    outgoing_none knows outgoing ctrl sent.event sent.latency sent.right sent.is
    (count_none (is_draft (is_question_of Features) outgoing) f) (count_none (is_draft (is_question_of Lengths) outgoing) l)
    (λ unknown. count_none (is_draft is_version_ind outgoing) (v unknown)) e

pub way_none : (knows : Bool) (way : Way) → IsWayOf true Peripheral way → IsNoFirstOn knows way → is_item (is_first_up knows) (item_untaken way) ≡ false
way_none knows Clear sent none = refl
way_none knows (Fixed item sealed) sent none =
    item_none knows item sent none.features none.lengths none.version
    (ap (is_pdu is_first) (sym (untaken_way (λ pdu. the_fixed pdu) (item_part pdu_of_outgoing item) (λ pdu. refl))) ∙ none.exclusive)
way_none knows (OnAir item sealed) sent none =
    item_none knows item sent none.features none.lengths none.version
    (ap (is_pdu is_first) (sym (untaken_way (λ pdu. the_on_air pdu) (item_part pdu_of_outgoing item) (λ pdu. refl))) ∙ none.exclusive)
way_none knows (Taken item) sent none = refl

-- ---- what is kept

pub record IsNoneKept (kept : Option Ctrl) : Type 0 where
  pub first : IsFirst kept
  pub features : passes (is_first_of Features) kept ≡ false
  pub lengths : passes (is_first_of Lengths) kept ≡ false
  pub version : passes is_version_ctrl kept ≡ false
  pub exclusive : is_none (kept_part kept) ≡ true

rejection_apart : (opcode : ℕ) → (b : Bool) → (if b then Refusal else other_class) ≡ request_class → ⊥
rejection_apart opcode true is = absurd (cc)
rejection_apart opcode false is = absurd (cc)

pub kept_none : (kept : Option Ctrl) → IsNoneKept kept → kept ≡ None
kept_none None none = refl
kept_none (Some (version_pdu version company sub)) none = let v = none.version in absurd (cc)
kept_none (Some (feature_pdu features)) none = let f = none.features in absurd (cc)
kept_none (Some (length_pdu rx rx_time tx tx_time)) none = let l = none.lengths in absurd (cc)
kept_none (Some (ConnectionParamReq min max latency timeout periodicity reference offsets)) none = let e = none.exclusive in absurd (cc)
kept_none (Some (phy_pdu tx rx)) none = let e = none.exclusive in absurd (cc)
kept_none (Some (RejectExtInd opcode code)) none = absurd (rejection_apart opcode (opcode == 3) none.first)
kept_none (Some ctrl) none = let f = none.first in absurd (cc)
