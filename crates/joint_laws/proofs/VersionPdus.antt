-- The LL_VERSION_IND of a joint run by what is read are those by what waits, one for one.
use Rattle.std.proofs.Common.{◌≡◌, ◌≤◌, ℕ, Bool, true, false, ◌||◌, List, [], ◌∷◌, Option, Some, None, refl, ap, sym, ◌∙◌, arith}
use Rattle.std.specs.List.{AllByRecursion}
use Rattle.ble_base.specs.declared.roles.Role.{Role}
use Rattle.ble_base.specs.declared.roles.Role.TheVariants.{Central, Peripheral}
use Rattle.data_pdu.specs.declared.ctrl.Ctrl.{Ctrl}
use Rattle.data_pdu.specs.declared.ctrl.Ctrl.TheVariants.{VersionInd as version_pdu}
use Rattle.joint_parameters.specs.procedure_values.declared.drafts.Draft.{Draft}
use Rattle.joint_parameters.specs.procedure_values.declared.drafts.Draft.TheVariants.{Cipher}
use Rattle.joint_parameters.specs.procedure_values.declared.drafts.Outgoing.{Outgoing}
use Rattle.joint_parameters.specs.procedure_values.declared.drafts.Outgoing.TheVariants.{Disconnect, Nothing, Other, Rejection}
use Rattle.joint_parameters.specs.procedure_values.Drafts.{ctrl_of_draft, ctrl_of_outgoing}
use Rattle.joint_parameters.specs.table_laws.Waiting.{count_if, number_of}
use Rattle.joint_parameters.specs.joint_controls.Joint.{Clear, Control, Data, Fixed, Item, OnAir, Taken, Way}
use Rattle.joint_exchanges.specs.Agreement
use Rattle.joint_exchanges.specs.Agreement.{is_draft, is_version_ind, passes, untaken}
use Rattle.joint_exchanges.specs.SentByRole.{IsItemOf, IsWayOf, is_cipher_of, is_draft_of, is_outgoing_of}
use Rattle.joint_phases.specs.Classes.{has_version, is_version, is_version_ctrl}
use Rattle.joint_phases.specs.Facts.{is_version_coming, is_version_kept}
use Rattle.joint_laws.proofs.Common.{some_ctrl}

-- ---- a PDU

cipher_apart : (role : Role) (ctrl : Ctrl) → is_cipher_of role ctrl ≡ true → is_version_ctrl ctrl ≡ false
cipher_apart Central (version_pdu version company sub) is = absurd (cc)
cipher_apart Peripheral (version_pdu version company sub) is = absurd (cc)
cipher_apart role ctrl is = refl

draft_same : (role : Role) (draft : Draft) (event latency : ℕ) → is_draft_of true role draft ≡ true
    → is_version_ctrl (ctrl_of_draft draft event latency) ≡ is_version_ind draft
draft_same Central (Cipher ctrl) event latency is = cipher_apart Central ctrl is
draft_same Peripheral (Cipher ctrl) event latency is = cipher_apart Peripheral ctrl is
draft_same role draft event latency is = refl

-- ---- what waits

none_by : (role : Role) (draft : Draft) (drafts : List Draft) (b : Bool) → is_version_ind draft ≡ b → is_draft_of true role draft ≡ true
    → number_of is_version_ind (draft ∷ drafts) ≡ 0 → (number_of is_version_ind drafts ≡ 0 → has_version drafts ≡ false) → has_version (draft ∷ drafts) ≡ false
none_by role draft drafts true is right none rest = let n : count_if (is_version_ind draft) ≡ 1 = ap count_if is in absurd (omega (arith, none, n))
none_by role draft drafts false is right none rest =
    let n : count_if (is_version_ind draft) ≡ 0 = ap count_if is in
    ap (λ x. x || has_version drafts) (draft_same role draft 0 0 right ∙ is) ∙ rest (omega (arith, none, n))

pub queue_none : (role : Role) (drafts : List Draft) → AllByRecursion (λ draft. is_draft_of true role draft ≡ true) drafts
    → number_of is_version_ind drafts ≡ 0 → has_version drafts ≡ false
queue_none role [] all none = refl
queue_none role (draft ∷ drafts) all none = none_by role draft drafts (is_version_ind draft) refl all.0 none (queue_none role drafts all.1)

some_by : (role : Role) (draft : Draft) (drafts : List Draft) (b : Bool) → is_version_ind draft ≡ b → is_draft_of true role draft ≡ true
    → 1 ≤ number_of is_version_ind (draft ∷ drafts) → (1 ≤ number_of is_version_ind drafts → has_version drafts ≡ true) → has_version (draft ∷ drafts) ≡ true
some_by role draft drafts true is right some rest = ap (λ x. x || has_version drafts) (draft_same role draft 0 0 right ∙ is)
some_by role draft drafts false is right some rest =
    let n : count_if (is_version_ind draft) ≡ 0 = ap count_if is in
    ap (λ x. x || has_version drafts) (draft_same role draft 0 0 right ∙ is) ∙ rest (omega (arith, some, n))

pub queue_some : (role : Role) (drafts : List Draft) → AllByRecursion (λ draft. is_draft_of true role draft ≡ true) drafts
    → 1 ≤ number_of is_version_ind drafts → has_version drafts ≡ true
queue_some role [] all some = absurd (omega (arith, some))
queue_some role (draft ∷ drafts) all some = some_by role draft drafts (is_version_ind draft) refl all.0 some (queue_some role drafts all.1)

-- ---- what is on its way

outgoing_same : (role : Role) (outgoing : Outgoing) (ctrl : Ctrl) (event latency : ℕ) → is_outgoing_of true role outgoing ≡ true
    → ctrl_of_outgoing outgoing event latency ≡ Some ctrl → is_version_ctrl ctrl ≡ is_draft is_version_ind outgoing
outgoing_same role Nothing ctrl event latency right is = absurd (cc)
outgoing_same role (Rejection rejection) ctrl event latency right is = ap is_version_ctrl (sym (some_ctrl is))
outgoing_same role (Disconnect code) ctrl event latency right is = ap is_version_ctrl (sym (some_ctrl is))
outgoing_same role (Other draft) ctrl event latency right is =
    ap is_version_ctrl (sym (some_ctrl is)) ∙ draft_same role draft event latency right

item_same : (role : Role) (item : Item) → IsItemOf true role item → is_version item ≡ Agreement.is_control is_version_ind item
item_same role Data sent = refl
item_same role (Control outgoing ctrl) sent = outgoing_same role outgoing ctrl sent.event sent.latency sent.right sent.is

pub way_same : (role : Role) (way : Way) → IsWayOf true role way → count_if (is_version_coming way) ≡ untaken is_version_ind way
way_same role Clear sent = refl
way_same role (Fixed item sealed) sent = ap count_if (item_same role item sent)
way_same role (OnAir item sealed) sent = ap count_if (item_same role item sent)
way_same role (Taken item) sent = refl

-- ---- what is kept

ctrl_same : (ctrl : Ctrl) → is_version_ctrl ctrl ≡ Agreement.is_version_ctrl ctrl
ctrl_same (version_pdu version company sub) = refl
ctrl_same ctrl = refl

pub kept_same : (kept : Option Ctrl) → is_version_kept kept ≡ passes Agreement.is_version_ctrl kept
kept_same None = refl
kept_same (Some ctrl) = ctrl_same ctrl

pub count_none : (b : Bool) → count_if b ≡ 0 → b ≡ false
count_none true is = absurd (cc)
count_none false is = refl

pub count_some : (b : Bool) → 1 ≤ count_if b → b ≡ true
count_some true is = refl
count_some false is = absurd (omega (arith, is))
