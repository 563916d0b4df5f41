-- The stage of the own procedure of a central, as a joint run of phases sees it, after each call but a PDU that is taken.
use Rattle.std.proofs.Common.{◌≡◌, ℕ, true, false, Option, Some, None, option_map, unwrap_or, refl}
use Rattle.data_pdu.specs.declared.ctrl.Ctrl.{Ctrl}
use Rattle.joint_controls.specs.procedure_values.declared.drafts.Draft.{Draft}
use Rattle.joint_controls.specs.procedure_values.declared.drafts.Draft.TheVariants.{Cipher, FeatureReq, LengthReq, PeripheralFeatureReq, VersionInd}
use Rattle.joint_controls.specs.procedure_values.declared.drafts.Outgoing.{Outgoing}
use Rattle.joint_controls.specs.procedure_values.declared.drafts.Outgoing.TheVariants.{Other}
use Rattle.exclusive_stages.specs.declared.pdus.Pdu.{Pdu}
use Rattle.exclusive_stages.specs.declared.pdus.Pdu.TheVariants.{MapInd, PhyInd as phy_ind, PhyReq as phy_req, UpdateInd}
use Rattle.exclusive_stages.specs.declared.stages.CentralStage.{CentralStage}
use Rattle.exclusive_stages.specs.declared.stages.CentralStage.TheVariants.{Idle, MapSent, PhyIndicated, PhySent, UpdateSent}
use Rattle.exclusive_stages.specs.Acked.{own_acked_at_central}
use Rattle.exclusive_stages.specs.Held.{own_held_at_central}
use Rattle.joint_controls.specs.procedure_stages.declared.stages.Central.{Central}
use Rattle.joint_controls.specs.procedure_stages.declared.stages.Exchange.{Exchange}
use Rattle.joint_controls.specs.procedure_stages.declared.stages.Exchange.TheVariants.{FeaturesSent, FeaturesUnsent, LengthSent, LengthUnsent, VersionSent, VersionUnsent}
use Rattle.joint_controls.specs.procedure_stages.declared.stages.OwnCentral.{OwnCentral}
use Rattle.joint_controls.specs.procedure_stages.declared.stages.OwnCentral.TheVariants.{EncryptSent, EncryptUnsent, Exchange as exchange, Exclusive as exclusive}
use Rattle.joint_controls.specs.procedure_stages.declared.stages.Progress.{Progress}
use Rattle.joint_controls.specs.procedure_stages.declared.stages.Progress.TheVariants.{Central as central, Peripheral as peripheral}
use Rattle.joint_controls.specs.procedure_stages.Acked.{central_acked, progress_acked}
use Rattle.joint_controls.specs.procedure_stages.Awaited.{is_own_encryption}
use Rattle.joint_controls.specs.procedure_stages.Exclusive.{on_central_stage, pdu_of_draft, pdu_of_outgoing}
use Rattle.joint_controls.specs.procedure_stages.Held.{progress_held}
use Rattle.joint_controls.specs.procedure_stages.Kinds.{kind_at_central, own_kind, role_of}
use Rattle.joint_controls.specs.procedure_stages.Sent.{exchange_sent, exclusive_sent_by_central, own_draft_sent_by_central, progress_after_sending}
use Rattle.joint_controls.specs.table_laws.Encrypting.{has_encryption}
use Rattle.joint_phases.specs.Parts.{is_awaiting, is_awaiting_at, is_encryption_unsent, is_encryption_unsent_at}

-- the same stage, in what matters
pub record SameStage (p q : Progress) : Type 0 where
  pub role : role_of q ≡ role_of p
  pub awaits : is_awaiting q ≡ is_awaiting p
  pub encrypts : has_encryption q ≡ has_encryption p
  pub unsent : is_encryption_unsent q ≡ is_encryption_unsent p

pub same_stage : (p : Progress) → SameStage p p
same_stage p = record { role = refl; awaits = refl; encrypts = refl; unsent = refl }

-- ---- an indication holds

held_awaits : (stage : CentralStage) → is_awaiting_at (exclusive (own_held_at_central stage)) ≡ is_awaiting_at (exclusive stage)
held_awaits UpdateSent = refl
held_awaits MapSent = refl
held_awaits stage = refl

held_own : (own : OwnCentral) → (is_awaiting_at (on_central_stage own_held_at_central own) ≡ is_awaiting_at own)
    × (is_own_encryption (on_central_stage own_held_at_central own) ≡ is_own_encryption own)
    × (is_encryption_unsent_at (on_central_stage own_held_at_central own) ≡ is_encryption_unsent_at own)
held_own (exclusive stage) = (held_awaits stage, refl, refl)
held_own own = (refl, refl, refl)

pub held_same : (p : Progress) → SameStage p (progress_held p)
held_same (central c) = let h = held_own c.own in record { role = refl; awaits = h.0; encrypts = h.1; unsent = h.2 }
held_same (peripheral p) = record { role = refl; awaits = refl; encrypts = refl; unsent = refl }

-- ---- a PDU is acknowledged

acked_awaits : (pdu : Pdu) (stage : CentralStage) → is_awaiting_at (exclusive (own_acked_at_central pdu stage)) ≡ is_awaiting_at (exclusive stage)
acked_awaits phy_ind PhyIndicated = refl
acked_awaits phy_ind stage = refl
acked_awaits pdu stage = refl

acked_own : (pdu : Pdu) (own : OwnCentral) → (is_awaiting_at (on_central_stage (own_acked_at_central pdu) own) ≡ is_awaiting_at own)
    × (is_own_encryption (on_central_stage (own_acked_at_central pdu) own) ≡ is_own_encryption own)
    × (is_encryption_unsent_at (on_central_stage (own_acked_at_central pdu) own) ≡ is_encryption_unsent_at own)
acked_own pdu (exclusive stage) = (acked_awaits pdu stage, refl, refl)
acked_own pdu own = (refl, refl, refl)

acked_by : (pdu : Option Pdu) (c : Central) → SameStage (central c) (central (central_acked pdu c))
acked_by None c = same_stage (central c)
acked_by (Some pdu) c = let h = acked_own pdu c.own in record { role = refl; awaits = h.0; encrypts = h.1; unsent = h.2 }

pub acked_same : (out : Outgoing) (c : Central) → SameStage (central c) (progress_acked out (central c))
acked_same out c = acked_by (pdu_of_outgoing out) c

-- ---- a PDU is sent

-- what is awaited goes on to be, an encryption goes on, and is begun by a PDU of it
pub record SentStage (p q : Progress) : Type 0 where
  pub role : role_of q ≡ role_of p
  pub awaits : is_awaiting p ≡ true → is_awaiting q ≡ true
  pub encrypts : has_encryption q ≡ has_encryption p
  pub unsent : is_encryption_unsent q ≡ true → is_encryption_unsent p ≡ true

none_sent : (pdu : Option Pdu) → exclusive_sent_by_central pdu PhySent ≡ None
none_sent None = refl
none_sent (Some UpdateInd) = refl
none_sent (Some MapInd) = refl
none_sent (Some phy_req) = refl
none_sent (Some phy_ind) = refl
none_sent (Some pdu) = refl

exclusive_kept : (stage next : CentralStage) (own : Option CentralStage)
    → (is_own_encryption (unwrap_or (option_map (λ (s : CentralStage). exclusive s) own) (exclusive stage)) ≡ false)
    × (is_encryption_unsent_at (unwrap_or (option_map (λ (s : CentralStage). exclusive s) own) (exclusive stage)) ≡ false)
exclusive_kept stage next None = (refl, refl)
exclusive_kept stage next (Some s) = (refl, refl)

exchange_kept : (stage : Exchange) (own : Option Exchange)
    → (is_own_encryption (unwrap_or (option_map (λ (s : Exchange). exchange s) own) (exchange stage)) ≡ false)
    × (is_encryption_unsent_at (unwrap_or (option_map (λ (s : Exchange). exchange s) own) (exchange stage)) ≡ false)
exchange_kept stage None = (refl, refl)
exchange_kept stage (Some s) = (refl, refl)

exchange_awaits : (draft : Draft) (stage : Exchange) → is_awaiting_at (exchange stage) ≡ true
    → is_awaiting_at (unwrap_or (option_map (λ (s : Exchange). exchange s) (exchange_sent draft stage)) (exchange stage)) ≡ true
exchange_awaits FeatureReq FeaturesSent is = refl
exchange_awaits FeatureReq VersionSent is = refl
exchange_awaits FeatureReq LengthSent is = refl
exchange_awaits PeripheralFeatureReq FeaturesSent is = refl
exchange_awaits PeripheralFeatureReq VersionSent is = refl
exchange_awaits PeripheralFeatureReq LengthSent is = refl
exchange_awaits VersionInd FeaturesSent is = refl
exchange_awaits VersionInd VersionSent is = refl
exchange_awaits VersionInd LengthSent is = refl
exchange_awaits (LengthReq rx tx) FeaturesSent is = refl
exchange_awaits (LengthReq rx tx) VersionSent is = refl
exchange_awaits (LengthReq rx tx) LengthSent is = refl
exchange_awaits draft FeaturesUnsent is = absurd (cc)
exchange_awaits draft VersionUnsent is = absurd (cc)
exchange_awaits draft LengthUnsent is = absurd (cc)
exchange_awaits draft stage is = is

exclusive_awaits : (draft : Draft) (stage : CentralStage) → is_awaiting_at (exclusive stage) ≡ true
    → is_awaiting_at (unwrap_or (option_map (λ (s : CentralStage). exclusive s) (exclusive_sent_by_central (pdu_of_draft draft) stage)) (exclusive stage)) ≡ true
exclusive_awaits draft PhySent is = rw (none_sent (pdu_of_draft draft)) refl
exclusive_awaits draft stage is = absurd (cc)

sent_own : (draft : Draft) (own : OwnCentral)
    → (is_awaiting_at own ≡ true → is_awaiting_at (unwrap_or (own_draft_sent_by_central draft own) own) ≡ true)
    × (is_own_encryption (unwrap_or (own_draft_sent_by_central draft own) own) ≡ is_own_encryption own)
    × (is_encryption_unsent_at (unwrap_or (own_draft_sent_by_central draft own) own) ≡ true → is_encryption_unsent_at own ≡ true)
sent_own draft (exclusive stage) =
    let h = exclusive_kept stage stage (exclusive_sent_by_central (pdu_of_draft draft) stage) in
    (exclusive_awaits draft stage, h.0, λ is. absurd (let is_not = h.1 in cc))
sent_own draft (exchange stage) =
    let h = exchange_kept stage (exchange_sent draft stage) in
    (exchange_awaits draft stage, h.0, λ is. absurd (let is_not = h.1 in cc))
sent_own (Cipher ctrl) EncryptUnsent = (λ is. absurd (cc), refl, λ is. refl)
sent_own (Cipher ctrl) EncryptSent = (λ is. absurd (cc), refl, λ is. absurd (cc))
sent_own draft EncryptUnsent = (λ is. absurd (cc), refl, λ is. refl)
sent_own draft EncryptSent = (λ is. absurd (cc), refl, λ is. absurd (cc))

pub sent_stage : (outgoing : Outgoing) (event skips : ℕ) (c : Central) → SentStage (central c) (progress_after_sending outgoing event skips (central c))
sent_stage (Other draft) event skips c =
    let h = sent_own draft c.own in record { role = refl; awaits = h.0; encrypts = h.1; unsent = h.2 }
sent_stage outgoing event skips c = record { role = refl; awaits = λ is. is; encrypts = refl; unsent = λ is. is }

-- once a PDU of it is sent an encryption is no longer unsent
cipher_own : (ctrl : Ctrl) (own : OwnCentral) → is_encryption_unsent_at (unwrap_or (own_draft_sent_by_central (Cipher ctrl) own) own) ≡ false
cipher_own ctrl (exclusive stage) = (exclusive_kept stage stage None).1
cipher_own ctrl (exchange stage) = (exchange_kept stage None).1
cipher_own ctrl EncryptUnsent = refl
cipher_own ctrl EncryptSent = refl

pub cipher_sent : (ctrl : Ctrl) (event skips : ℕ) (p : Progress) → is_encryption_unsent (progress_after_sending (Other (Cipher ctrl)) event skips p) ≡ false
cipher_sent ctrl event skips (central c) = cipher_own ctrl c.own
cipher_sent ctrl event skips (peripheral p) = refl

-- ---- an encryption that is unsent is one

pub unsent_is_one : (p : Progress) → is_encryption_unsent p ≡ true → has_encryption p ≡ true
unsent_is_one (central c) is = by c.own is
  where
    by : (own : OwnCentral) → is_encryption_unsent_at own ≡ true → is_own_encryption own ≡ true
    by EncryptUnsent is = refl
    by own is = absurd (cc)
unsent_is_one (peripheral p) is = absurd (cc)

-- and no answer is awaited where no procedure runs
pub none_awaits : (p : Progress) → own_kind p ≡ None → is_awaiting p ≡ false
none_awaits (central c) none = by c.own none
  where
    by : (own : OwnCentral) → kind_at_central own ≡ None → is_awaiting_at own ≡ false
    by (exclusive Idle) none = refl
    by (exclusive PhySent) none = absurd (cc)
    by (exclusive stage) none = absurd (cc)
    by (exchange stage) none = absurd (cc)
    by own none = refl
none_awaits (peripheral p) none = refl
