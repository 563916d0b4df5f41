-- A PDU that an end sent is read at the other end as it was sent: as the step of an exchange that takes it, or as none.
use Rattle.std.proofs.Common.{◌≡◌, ◌⊎◌, inl, inr, ℕ, ◌==◌, Bool, true, false, ◌||◌, List, Option, Some, None, if◌then◌else◌, refl, ap, sym, ◌∙◌, subst, eqb-true}
use Rattle.std.specs.Bool.{⊤}
use Rattle.std.proofs.lemmas.Bool.{and_parts}
use Rattle.ble_base.specs.declared.roles.Role.{Role}
use Rattle.ble_base.specs.declared.roles.Role.TheVariants.{Central as central_role, Peripheral as peripheral_role}
use Rattle.data_pdu.specs.declared.ctrl.Ctrl.{Ctrl}
use Rattle.data_pdu.specs.declared.ctrl.Ctrl.TheVariants.{EncReq, EncRsp, PauseEncReq, PauseEncRsp, RejectExtInd, StartEncReq, StartEncRsp, TerminateInd}
use Rattle.data_pdu.specs.declared.ctrl.CtrlRead.TheVariants.{Known}
use Rattle.joint_controls.specs.enc_phase.declared.classes.PduClass.{PduClass}
use Rattle.joint_controls.specs.enc_phase.declared.classes.PduClass.TheVariants.{Other as other_class, Request as request_class}
use Rattle.joint_controls.specs.enc_phase.declared.facts.PhaseFacts.{PhaseFacts}
use Rattle.joint_controls.specs.enc_phase.declared.facts.PhaseFacts.TheVariants.{Clear, Asked, HalfKeyed, Secure, Pausing, HalfClear}
use Rattle.joint_controls.specs.enc_phase.Taking.{ctrl_class, is_unknown}
use Rattle.exchange_steps.specs.procedure_values.declared.asks.Ask.{Ask}
use Rattle.exchange_steps.specs.procedure_values.declared.drafts.Draft.{Draft}
use Rattle.exchange_steps.specs.procedure_values.declared.drafts.Draft.TheVariants.{Cipher, FeatureReq, FeatureRsp, Grant, LengthReq, LengthRsp, Map, PeripheralFeatureReq, PhyInd, PhyReq, PhyRsp, Request, UnknownRsp, Update, VersionInd}
use Rattle.exchange_steps.specs.procedure_values.declared.drafts.Outgoing.{Outgoing}
use Rattle.exchange_steps.specs.procedure_values.declared.drafts.Outgoing.TheVariants.{Disconnect, Nothing, Other, Rejection}
use Rattle.exchange_steps.specs.procedure_values.declared.drafts.Rejection.{Rejection as TheRejection}
use Rattle.exchange_steps.specs.procedure_values.declared.lengths.Lengths.{Lengths}
use Rattle.exchange_steps.specs.procedure_values.Drafts.{ctrl_of_draft, ctrl_of_outgoing}
use Rattle.exchange_steps.specs.procedure_stages.declared.stages.Central.{Central}
use Rattle.exchange_steps.specs.procedure_stages.declared.stages.Exchange.{Exchange}
use Rattle.exchange_steps.specs.procedure_stages.declared.stages.Exchange.TheVariants.{FeaturesUnsent, FeaturesSent, VersionUnsent, VersionSent, LengthUnsent, LengthSent}
use Rattle.exchange_steps.specs.procedure_stages.declared.stages.OwnCentral.{OwnCentral}
use Rattle.exchange_steps.specs.procedure_stages.declared.stages.OwnCentral.TheVariants.{Exchange as exchange}
use Rattle.exchange_steps.specs.procedure_stages.declared.stages.OwnPeripheral.{OwnPeripheral}
use Rattle.exchange_steps.specs.procedure_stages.declared.stages.OwnPeripheral.TheVariants.{Exchange as exchange_p}
use Rattle.exchange_steps.specs.procedure_stages.declared.stages.Peripheral.{Peripheral}
use Rattle.exchange_steps.specs.procedure_stages.declared.stages.Progress.{Progress}
use Rattle.exchange_steps.specs.procedure_stages.declared.stages.Progress.TheVariants.{Central as central, Peripheral as peripheral}
use Rattle.exchange_steps.specs.procedure_stages.Closing.{is_open}
use Rattle.exchange_steps.specs.procedure_stages.Kinds.{own_exchange, role_of}
use Rattle.exchange_steps.specs.procedure_stages.Opcodes.{connection_param_req_opcode, enc_req_opcode, enc_rsp_opcode, feature_req_opcode, first_opcode, is_opcode, later_opcode, length_req_opcode, pause_enc_req_opcode, peripheral_feature_req_opcode, phy_req_opcode, start_enc_req_opcode, version_ind_opcode}
use Rattle.exchange_steps.specs.procedures.Table.{TableFacts}
use Rattle.exchange_steps.specs.exchange_pairs.ExchangeRun.{other_role}
use Rattle.exchange_steps.specs.Ends.{ExchangeEnds, ends_by, ends_of}
use Rattle.exchange_steps.specs.Steps.{after_step, after_steps, is_refused, refusal_if, step_of_ctrl}
use Rattle.joint_controls.specs.phased_control.Taken.{is_version as is_version_read}
use Rattle.joint_exchanges.specs.Moves.{is_some_version, taking}
use Rattle.joint_exchanges.specs.Parts.{AnyPdu, pdu_of_first, pdu_of_outgoing}
use Rattle.joint_exchanges.specs.SentByRole.{IsSentBy, is_cipher_opcode, is_outgoing_of}

-- the step by which a PDU is taken
abbrev pub after_taking : Option AnyPdu → ExchangeEnds → ExchangeEnds
after_taking None e = e
after_taking (Some pdu) e = after_step (taking pdu) e

-- ---- a refusal of another procedure leaves the exchanges

-- no exchange begins with a PDU of this opcode
record IsApart (opcode : ℕ) : Type 0 where
  features : (feature_req_opcode == opcode) ≡ false
  features_up : (peripheral_feature_req_opcode == opcode) ≡ false
  version : (version_ind_opcode == opcode) ≡ false
  length : (length_req_opcode == opcode) ≡ false

apart_as : (known opcode : ℕ) → (opcode == known) ≡ true → IsApart known → IsApart opcode
apart_as known opcode is apart = subst (λ (n : ℕ). IsApart n) (sym (eqb-true opcode known is)) apart

either : (a b : Bool) → (a || b) ≡ true → (a ≡ true) ⊎ (b ≡ true)
either true b is = inl refl
either false b is = inr is

cipher_apart : (opcode : ℕ) → is_cipher_opcode opcode ≡ true → IsApart opcode
cipher_apart opcode is = by (either _ _ is)
  where
    four : IsApart enc_req_opcode
    four = record { features = refl; features_up = refl; version = refl; length = refl }

    first_two : ((opcode == enc_req_opcode) ≡ true) ⊎ ((opcode == enc_rsp_opcode) ≡ true) → IsApart opcode
    first_two (inl one) = apart_as enc_req_opcode opcode one four
    first_two (inr two) = apart_as enc_rsp_opcode opcode two (record { features = refl; features_up = refl; version = refl; length = refl })

    first_three : ((opcode == enc_req_opcode || opcode == enc_rsp_opcode) ≡ true) ⊎ ((opcode == start_enc_req_opcode) ≡ true) → IsApart opcode
    first_three (inl two) = first_two (either _ _ two)
    first_three (inr three) = apart_as start_enc_req_opcode opcode three (record { features = refl; features_up = refl; version = refl; length = refl })

    by : ((opcode == enc_req_opcode || opcode == enc_rsp_opcode || opcode == start_enc_req_opcode) ≡ true) ⊎ ((opcode == pause_enc_req_opcode) ≡ true) → IsApart opcode
    by (inl three) = first_three (either _ _ three)
    by (inr last) = apart_as pause_enc_req_opcode opcode last (record { features = refl; features_up = refl; version = refl; length = refl })

rejection_apart : (opcode : ℕ) → (opcode == connection_param_req_opcode || opcode == phy_req_opcode) ≡ true → IsApart opcode
rejection_apart opcode is = by (either _ _ is)
  where
    by : ((opcode == connection_param_req_opcode) ≡ true) ⊎ ((opcode == phy_req_opcode) ≡ true) → IsApart opcode
    by (inl one) = apart_as connection_param_req_opcode opcode one (record { features = refl; features_up = refl; version = refl; length = refl })
    by (inr two) = apart_as phy_req_opcode opcode two (record { features = refl; features_up = refl; version = refl; length = refl })

start_apart : (opcode : ℕ) → (opcode == enc_req_opcode) ≡ true → IsApart opcode
start_apart opcode is = apart_as enc_req_opcode opcode is (record { features = refl; features_up = refl; version = refl; length = refl })

abbrev IsNotSent : Option Exchange → Type 0
IsNotSent (Some FeaturesSent) = ⊥
IsNotSent (Some VersionSent) = ⊥
IsNotSent (Some LengthSent) = ⊥
IsNotSent own = ⊤

refused_same : (own : Option Exchange) (wanted : List Ask) (used : Bool) (lengths : Lengths) (opens : Bool) (drafts : List Draft) → IsNotSent own
    → after_step is_refused (ends_by own wanted used lengths opens drafts) ≡ ends_by own wanted used lengths opens drafts
refused_same (Some FeaturesSent) wanted used lengths opens drafts is = absurd is
refused_same (Some VersionSent) wanted used lengths opens drafts is = absurd is
refused_same (Some LengthSent) wanted used lengths opens drafts is = absurd is
refused_same (Some FeaturesUnsent) wanted used lengths opens drafts is = refl
refused_same (Some VersionUnsent) wanted used lengths opens drafts is = refl
refused_same (Some LengthUnsent) wanted used lengths opens drafts is = refl
refused_same None wanted used lengths opens drafts is = refl

-- an exchange was sent, or what is refused is not the own procedure
abbrev Unsent : Progress → ℕ → Type 0
Unsent p opcode = IsNotSent (own_exchange p) ⊎ ((is_opcode (first_opcode p) opcode || is_opcode (later_opcode p) opcode) ≡ false)

or_false : (b : Bool) → b ≡ false → (b || false) ≡ false
or_false b is = ap (λ x. x || false) is

unsent_c : (own : OwnCentral) (c : Central) (opcode : ℕ) → IsApart opcode → Unsent (central (record c { own = own })) opcode
unsent_c (exchange FeaturesSent) c opcode apart = inr (or_false _ apart.features)
unsent_c (exchange VersionSent) c opcode apart = inr (or_false _ apart.version)
unsent_c (exchange LengthSent) c opcode apart = inr (or_false _ apart.length)
unsent_c (exchange FeaturesUnsent) c opcode apart = inl tt
unsent_c (exchange VersionUnsent) c opcode apart = inl tt
unsent_c (exchange LengthUnsent) c opcode apart = inl tt
unsent_c own c opcode apart = inl tt

unsent_p : (own : OwnPeripheral) (p : Peripheral) (opcode : ℕ) → IsApart opcode → Unsent (peripheral (record p { own = own })) opcode
unsent_p (exchange_p FeaturesSent) p opcode apart = inr (or_false _ apart.features_up)
unsent_p (exchange_p VersionSent) p opcode apart = inr (or_false _ apart.version)
unsent_p (exchange_p LengthSent) p opcode apart = inr (or_false _ apart.length)
unsent_p (exchange_p FeaturesUnsent) p opcode apart = inl tt
unsent_p (exchange_p VersionUnsent) p opcode apart = inl tt
unsent_p (exchange_p LengthUnsent) p opcode apart = inl tt
unsent_p own p opcode apart = inl tt

unsent : (p : Progress) (opcode : ℕ) → IsApart opcode → Unsent p opcode
unsent (central c) opcode apart = unsent_c c.own c opcode apart
unsent (peripheral p) opcode apart = unsent_p p.own p opcode apart

-- a refusal by a test, which holds only where the named opcode is the own one
refuses_none : (f : TableFacts) (b : Bool) → IsNotSent (own_exchange f.progress) ⊎ (b ≡ false) → after_steps (refusal_if b) (ends_of f) ≡ ends_of f
refuses_none f false is = refl
refuses_none f true (inl none) = refused_same (own_exchange f.progress) f.wanted f.version_used f.lengths (is_open f.closing) f.queue.drafts none
refuses_none f true (inr is) = absurd (cc)

first_false : (a b : Bool) → (a || b) ≡ false → a ≡ false
first_false true b is = absurd (cc)
first_false false b is = refl

-- LL_REJECT_EXT_IND, and LL_UNKNOWN_RSP
rejects_none : (f : TableFacts) (opcode : ℕ) → IsApart opcode
    → after_steps (refusal_if (is_opcode (first_opcode f.progress) opcode || is_opcode (later_opcode f.progress) opcode)) (ends_of f) ≡ ends_of f
rejects_none f opcode apart = refuses_none f _ (unsent f.progress opcode apart)

unknown_none : (f : TableFacts) (opcode : ℕ) → IsApart opcode → after_steps (refusal_if (is_opcode (first_opcode f.progress) opcode)) (ends_of f) ≡ ends_of f
unknown_none f opcode apart = refuses_none f _ (by (unsent f.progress opcode apart))
  where
    by : Unsent f.progress opcode → IsNotSent (own_exchange f.progress) ⊎ (is_opcode (first_opcode f.progress) opcode ≡ false)
    by (inl none) = inl none
    by (inr is) = inr (first_false _ _ is)

-- ---- each PDU

abbrev pub IsTerminate : Ctrl → Type 0
IsTerminate (TerminateInd code) = ⊤
IsTerminate ctrl = ⊥

-- what a PDU that was sent is where it is read
pub record IsRead (f : TableFacts) (outgoing : Outgoing) (ctrl : Ctrl) : Type 0 where
  pub steps : after_steps (step_of_ctrl f.progress ctrl) (ends_of f) ≡ after_taking (pdu_of_outgoing outgoing) (ends_of f)
  pub version : is_version_read (Known ctrl) ≡ is_some_version (pdu_of_outgoing outgoing)
  -- where it is kept
  pub first : ctrl_class ctrl ≡ request_class → pdu_of_first ctrl ≡ pdu_of_outgoing outgoing
  -- where it has no meaning
  pub unknown : (phase : PhaseFacts) (role : Role) → is_unknown phase role (ctrl_class ctrl) ≡ true → pdu_of_outgoing outgoing ≡ None

not_unknown : (phase : PhaseFacts) (role : Role) → is_unknown phase role other_class ≡ true → ⊥
not_unknown Clear central_role is = absurd (cc)
not_unknown Clear peripheral_role is = absurd (cc)
not_unknown Secure central_role is = absurd (cc)
not_unknown Secure peripheral_role is = absurd (cc)
not_unknown (Asked a b c) role is = absurd (cc)
not_unknown HalfKeyed role is = absurd (cc)
not_unknown (Pausing kept) role is = absurd (cc)
not_unknown (HalfClear kept) role is = absurd (cc)

not_unknown_first : (phase : PhaseFacts) (role : Role) → is_unknown phase role request_class ≡ true → ⊥
not_unknown_first Clear central_role is = absurd (cc)
not_unknown_first Clear peripheral_role is = absurd (cc)
not_unknown_first Secure central_role is = absurd (cc)
not_unknown_first Secure peripheral_role is = absurd (cc)
not_unknown_first (Asked a b c) role is = absurd (cc)
not_unknown_first HalfKeyed role is = absurd (cc)
not_unknown_first (Pausing kept) role is = absurd (cc)
not_unknown_first (HalfClear kept) role is = absurd (cc)

module _ (unknowns : Bool) (f : TableFacts) where
  abbrev at : Progress → TableFacts
  at p = record f { progress = p }

  -- a PDU of a class that keeps its meaning
  of_other : (p : Progress) (outgoing : Outgoing) (ctrl : Ctrl) → ctrl_class ctrl ≡ other_class
      → after_steps (step_of_ctrl p ctrl) (ends_of (at p)) ≡ after_taking (pdu_of_outgoing outgoing) (ends_of (at p))
      → is_version_read (Known ctrl) ≡ is_some_version (pdu_of_outgoing outgoing) → IsRead (at p) outgoing ctrl
  of_other p outgoing ctrl class steps version =
      record {
        steps = steps;
        version = version;
        first = λ is. absurd (cc);
        unknown = λ phase role is. absurd (not_unknown phase role (subst (λ (c : PduClass). is_unknown phase role c ≡ true) class is));
      }

  of_first : (p : Progress) (outgoing : Outgoing) (ctrl : Ctrl) → ctrl_class ctrl ≡ request_class
      → after_steps (step_of_ctrl p ctrl) (ends_of (at p)) ≡ after_taking (pdu_of_outgoing outgoing) (ends_of (at p))
      → is_version_read (Known ctrl) ≡ is_some_version (pdu_of_outgoing outgoing) → pdu_of_first ctrl ≡ pdu_of_outgoing outgoing
      → IsRead (at p) outgoing ctrl
  of_first p outgoing ctrl class steps version first =
      record {
        steps = steps;
        version = version;
        first = λ is. first;
        unknown = λ phase role is. absurd (not_unknown_first phase role (subst (λ (c : PduClass). is_unknown phase role c ≡ true) class is));
      }

  -- a PDU of another procedure that is no first one
  of_none : (p : Progress) (draft : Draft) (ctrl : Ctrl) → (ctrl_class ctrl ≡ request_class → ⊥)
      → after_steps (step_of_ctrl p ctrl) (ends_of (at p)) ≡ ends_of (at p)
      → is_version_read (Known ctrl) ≡ false → pdu_of_outgoing (Other draft) ≡ None → IsRead (at p) (Other draft) ctrl
  of_none p draft ctrl class steps version none =
      record {
        steps = steps ∙ ap (λ x. after_taking x (ends_of (at p))) (sym none);
        version = version ∙ ap is_some_version (sym none);
        first = λ is. absurd (class is);
        unknown = λ phase role is. none;
      }

  no_class : (x : PduClass) → x ≡ other_class → x ≡ request_class → ⊥
  no_class x a b = cc

  cipher_at_central : (c : Central) (ctrl : Ctrl) → is_outgoing_of unknowns peripheral_role (Other (Cipher ctrl)) ≡ true → (IsTerminate ctrl → ⊥)
      → IsRead (at (central c)) (Other (Cipher ctrl)) ctrl
  cipher_at_central c (EncRsp skd_s iv_s) right lasts = of_none (central c) (Cipher (EncRsp skd_s iv_s)) (EncRsp skd_s iv_s) (λ is. cc) refl refl refl
  cipher_at_central c StartEncReq right lasts = of_none (central c) (Cipher StartEncReq) StartEncReq (λ is. cc) refl refl refl
  cipher_at_central c StartEncRsp right lasts = of_none (central c) (Cipher StartEncRsp) StartEncRsp (λ is. cc) refl refl refl
  cipher_at_central c PauseEncRsp right lasts = of_none (central c) (Cipher PauseEncRsp) PauseEncRsp (λ is. cc) refl refl refl
  cipher_at_central c (RejectExtInd opcode code) right lasts =
      of_none (central c) (Cipher (RejectExtInd opcode code)) (RejectExtInd opcode code) (by (opcode == 3)) (rejects_none (at (central c)) opcode (start_apart opcode right)) refl refl
    where
      by : (b : Bool) → (if b then PduClass.Refusal else PduClass.Other) ≡ request_class → ⊥
      by true is = cc
      by false is = cc
  cipher_at_central c (TerminateInd code) right lasts = absurd (lasts tt)
  cipher_at_central c ctrl right lasts = absurd (cc)

  cipher_at_peripheral : (p : Peripheral) (ctrl : Ctrl) → is_outgoing_of unknowns central_role (Other (Cipher ctrl)) ≡ true
      → IsRead (at (peripheral p)) (Other (Cipher ctrl)) ctrl
  cipher_at_peripheral p (EncReq rand ediv skd_m iv_m) right = of_none (peripheral p) (Cipher (EncReq rand ediv skd_m iv_m)) (EncReq rand ediv skd_m iv_m) (λ is. cc) refl refl refl
  cipher_at_peripheral p StartEncRsp right = of_none (peripheral p) (Cipher StartEncRsp) StartEncRsp (λ is. cc) refl refl refl
  cipher_at_peripheral p PauseEncReq right = of_none (peripheral p) (Cipher PauseEncReq) PauseEncReq (λ is. cc) refl refl refl
  cipher_at_peripheral p PauseEncRsp right = of_none (peripheral p) (Cipher PauseEncRsp) PauseEncRsp (λ is. cc) refl refl refl
  cipher_at_peripheral p ctrl right = absurd (cc)

  draft_at_central : (c : Central) (draft : Draft) (event latency : ℕ) → is_outgoing_of unknowns peripheral_role (Other draft) ≡ true
      → (IsTerminate (ctrl_of_draft draft event latency) → ⊥) → IsRead (at (central c)) (Other draft) (ctrl_of_draft draft event latency)
  draft_at_central c (Request min max latency timeout) event skips right lasts = of_first (central c) _ _ refl refl refl refl
  draft_at_central c PhyReq event skips right lasts = of_first (central c) _ _ refl refl refl refl
  draft_at_central c PhyRsp event skips right lasts = of_other (central c) _ _ refl refl refl
  draft_at_central c PeripheralFeatureReq event skips right lasts = of_first (central c) _ _ refl refl refl refl
  draft_at_central c FeatureRsp event skips right lasts = of_other (central c) _ _ refl refl refl
  draft_at_central c VersionInd event skips right lasts = of_first (central c) _ _ refl refl refl refl
  draft_at_central c (LengthReq rx tx) event skips right lasts = of_first (central c) _ _ refl refl refl refl
  draft_at_central c (LengthRsp rx tx) event skips right lasts = of_other (central c) _ _ refl refl refl
  draft_at_central c (UnknownRsp opcode) event skips right lasts =
      of_other (central c) _ _ refl (unknown_none (at (central c)) opcode (cipher_apart opcode (and_parts unknowns (is_cipher_opcode opcode) right).1)) refl
  draft_at_central c (Cipher ctrl) event skips right lasts = cipher_at_central c ctrl right lasts
  draft_at_central c draft event skips right lasts = absurd (cc)

  draft_at_peripheral : (p : Peripheral) (draft : Draft) (event latency : ℕ) → is_outgoing_of unknowns central_role (Other draft) ≡ true
      → IsRead (at (peripheral p)) (Other draft) (ctrl_of_draft draft event latency)
  draft_at_peripheral p (Update params) event skips right = of_other (peripheral p) _ _ refl refl refl
  draft_at_peripheral p (Grant params) event skips right = of_other (peripheral p) _ _ refl refl refl
  draft_at_peripheral p (Map map) event skips right = of_other (peripheral p) _ _ refl refl refl
  draft_at_peripheral p PhyReq event skips right = of_first (peripheral p) _ _ refl refl refl refl
  draft_at_peripheral p PhyInd event skips right = of_other (peripheral p) _ _ refl refl refl
  draft_at_peripheral p FeatureReq event skips right = of_other (peripheral p) _ _ refl refl refl
  draft_at_peripheral p FeatureRsp event skips right = of_other (peripheral p) _ _ refl refl refl
  draft_at_peripheral p VersionInd event skips right = of_first (peripheral p) _ _ refl refl refl refl
  draft_at_peripheral p (LengthReq rx tx) event skips right = of_first (peripheral p) _ _ refl refl refl refl
  draft_at_peripheral p (LengthRsp rx tx) event skips right = of_other (peripheral p) _ _ refl refl refl
  draft_at_peripheral p (UnknownRsp opcode) event skips right =
      of_other (peripheral p) _ _ refl (unknown_none (at (peripheral p)) opcode (cipher_apart opcode (and_parts unknowns (is_cipher_opcode opcode) right).1)) refl
  draft_at_peripheral p (Cipher ctrl) event skips right = cipher_at_peripheral p ctrl right
  draft_at_peripheral p draft event skips right = absurd (cc)

  -- ---- whatever is sent

  rejection_at_peripheral : (p : Peripheral) (rejection : TheRejection) → is_outgoing_of unknowns central_role (Rejection rejection) ≡ true
      → IsRead (at (peripheral p)) (Rejection rejection) (RejectExtInd rejection.opcode rejection.code.0)
  rejection_at_peripheral p rejection right =
      record {
        steps = rejects_none (at (peripheral p)) rejection.opcode (rejection_apart rejection.opcode right);
        version = refl;
        first = λ is. absurd (by (rejection.opcode == 3) is);
        unknown = λ phase role is. refl;
      }
    where
      by : (b : Bool) → (if b then PduClass.Refusal else PduClass.Other) ≡ request_class → ⊥
      by true is = cc
      by false is = cc

  some_is : (x y : Ctrl) → ◌≡◌ {A = Option Ctrl} (Some x) (Some y) → x ≡ y
  some_is x y is = cc

  read_by : (p : Progress) (role : Role) (outgoing : Outgoing) (ctrl : Ctrl) (event latency : ℕ) → role_of p ≡ other_role role
      → is_outgoing_of unknowns role outgoing ≡ true → ctrl_of_outgoing outgoing event latency ≡ Some ctrl → (IsTerminate ctrl → ⊥) → IsRead (at p) outgoing ctrl
  read_by p role Nothing ctrl event latency r right is lasts = absurd (cc)
  read_by p role (Disconnect code) ctrl event latency r right is lasts = absurd (lasts (subst IsTerminate (some_is _ ctrl is) tt))
  read_by (central c) peripheral_role (Other draft) ctrl event latency r right is lasts =
      let same = some_is _ ctrl is in
      subst (λ (x : Ctrl). IsRead (at (central c)) (Other draft) x) same
      (draft_at_central c draft event latency right (λ t. lasts (subst IsTerminate same t)))
  read_by (peripheral p) central_role (Other draft) ctrl event latency r right is lasts =
      subst (λ (x : Ctrl). IsRead (at (peripheral p)) (Other draft) x) (some_is _ ctrl is) (draft_at_peripheral p draft event latency right)
  read_by (peripheral p) central_role (Rejection rejection) ctrl event latency r right is lasts =
      subst (λ (x : Ctrl). IsRead (at (peripheral p)) (Rejection rejection) x) (some_is _ ctrl is) (rejection_at_peripheral p rejection right)
  read_by (central c) central_role outgoing ctrl event latency r right is lasts = absurd (cc)
  read_by (peripheral p) peripheral_role outgoing ctrl event latency r right is lasts = absurd (cc)
  read_by (central c) peripheral_role (Rejection rejection) ctrl event latency r right is lasts = absurd (cc)

pub read_as_sent : (unknowns : Bool) (f : TableFacts) (role : Role) (outgoing : Outgoing) (ctrl : Ctrl) → role_of f.progress ≡ other_role role
    → IsSentBy unknowns role outgoing ctrl → (IsTerminate ctrl → ⊥) → IsRead f outgoing ctrl
read_as_sent unknowns f role outgoing ctrl r sent lasts = read_by unknowns f f.progress role outgoing ctrl sent.event sent.latency r sent.right sent.is lasts
