-- Of the PDUs that wait at a central the peripheral answers only the first one of the procedure in progress.
use Rattle.std.proofs.Common.{◌≡◌, ◌≤◌, ℕ, Bool, true, false, not, ◌||◌, List, [], ◌∷◌, Option, Some, None, refl, arith}
use Rattle.std.specs.List.{AllByRecursion}
use Rattle.std.proofs.lemmas.Bool.{and_from}
use Rattle.ble_base.specs.declared.roles.Role.TheVariants.{Central}
use Rattle.data_pdu.specs.declared.ctrl.Ctrl.{Ctrl}
use Rattle.data_pdu.specs.declared.ctrl.Ctrl.TheVariants.{EncReq, PauseEncReq, PauseEncRsp, StartEncRsp}
use Rattle.exclusive_stages.specs.declared.pdus.Pdu.{Pdu}
use Rattle.joint_parameters.specs.procedure_values.declared.drafts.Draft.{Draft}
use Rattle.joint_parameters.specs.procedure_values.declared.drafts.Draft.TheVariants.{Cipher, FeatureReq, LengthReq, PeripheralFeatureReq, PhyReq, PhyRsp, Request, VersionInd}
use Rattle.joint_parameters.specs.procedure_stages.declared.stages.Progress.{Progress}
use Rattle.joint_parameters.specs.procedure_stages.Exclusive.{pdu_of_draft}
use Rattle.joint_parameters.specs.table_laws.Waiting.{number_of}
use Rattle.collisions.specs.Agreement.{is_phy_request}
use Rattle.joint_collisions.specs.collision_steps.Parts.{drafts_part, with_part}
use Rattle.joint_phases.specs.phase_pairs.JointRun.{is_request}
use Rattle.joint_exchanges.specs.Agreement.{Features, Lengths, is_question_of, is_version_ind}
use Rattle.joint_exchanges.specs.SentByRole.{is_cipher_of, is_draft_of}
use Rattle.joint_phases.specs.Classes.{class_down, draft_down}
use Rattle.joint_phases.specs.Facts.{are_of_own, is_first_of}
use Rattle.joint_laws.specs.Firsts.{has}

-- what waits of each procedure is of the one in progress
pub record AreFirsts (knows : Bool) (p : Progress) (drafts : List Draft) : Type 0 where
  pub features : 1 ≤ number_of (is_question_of Features) drafts → is_first_of FeatureReq p ≡ true
  pub lengths : 1 ≤ number_of (is_question_of Lengths) drafts → (rx tx : ℕ) → is_first_of (LengthReq rx tx) p ≡ true
  pub phy : has is_phy_request (drafts_part drafts) ≡ true → is_first_of PhyReq p ≡ true
  pub version : knows ≡ false → 1 ≤ number_of is_version_ind drafts → is_first_of VersionInd p ≡ true

has_more : (part : Option Pdu) (pdus : List Pdu) → has is_phy_request pdus ≡ true → has is_phy_request (with_part part pdus) ≡ true
has_more None pdus some = some
has_more (Some pdu) pdus some = by (is_phy_request pdu)
  where
    by : (b : Bool) → (b || has is_phy_request pdus) ≡ true
    by true = refl
    by false = some

later : (knows : Bool) (p : Progress) (draft : Draft) (drafts : List Draft) → AreFirsts knows p (draft ∷ drafts) → AreFirsts knows p drafts
later knows p draft drafts firsts =
    record {
      features = λ some. firsts.features (omega (arith, some));
      lengths = λ some. firsts.lengths (omega (arith, some));
      phy = λ some. firsts.phy (has_more (pdu_of_draft draft) (drafts_part drafts) some);
      version = λ unknown. λ some. firsts.version unknown (omega (arith, some));
    }

cipher_down : (knows : Bool) (ctrl : Ctrl) → is_cipher_of Central ctrl ≡ true → is_request (class_down knows ctrl) ≡ false
cipher_down knows (EncReq rand ediv skd_m iv_m) is = refl
cipher_down knows PauseEncReq is = refl
cipher_down knows PauseEncRsp is = refl
cipher_down knows StartEncRsp is = refl
cipher_down knows ctrl is = absurd (cc)

none_or : (a b : Bool) → a ≡ false → (not a || b) ≡ true
none_or true b is = absurd (cc)
none_or false b is = refl

one_of : (knows : Bool) (p : Progress) (draft : Draft) (drafts : List Draft) → is_draft_of true Central draft ≡ true → AreFirsts knows p (draft ∷ drafts)
    → (not (is_request (draft_down knows draft)) || is_first_of draft p) ≡ true
one_of knows p FeatureReq drafts is firsts = firsts.features (omega arith)
one_of knows p (LengthReq rx tx) drafts is firsts = firsts.lengths (omega arith) rx tx
one_of knows p PhyReq drafts is firsts = firsts.phy refl
one_of true p VersionInd drafts is firsts = refl
one_of false p VersionInd drafts is firsts = firsts.version refl (omega arith)
one_of knows p (Cipher ctrl) drafts is firsts = none_or (is_request (class_down knows ctrl)) (is_first_of (Cipher ctrl) p) (cipher_down knows ctrl is)
one_of knows p (Request min max latency timeout) drafts is firsts = absurd (cc)
one_of knows p PeripheralFeatureReq drafts is firsts = absurd (cc)
one_of knows p PhyRsp drafts is firsts = absurd (cc)
one_of knows p draft drafts is firsts = refl

pub all_of_own : (knows : Bool) (p : Progress) (drafts : List Draft) → AllByRecursion (λ draft. is_draft_of true Central draft ≡ true) drafts
    → AreFirsts knows p drafts → are_of_own (draft_down knows) drafts p ≡ true
all_of_own knows p [] all firsts = refl
all_of_own knows p (draft ∷ drafts) all firsts =
    and_from _ _ (one_of knows p draft drafts all.0 firsts) (all_of_own knows p drafts all.1 (later knows p draft drafts firsts))
