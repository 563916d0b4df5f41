-- What waits at a central, and what it sent last, in each state of a joint run in which that goes on.
use Rattle.std.proofs.Common.{◌≡◌, ◌≤◌, ℕ, Bool, true, false, not, List, Option, Some, refl, ap, sym, ◌∙◌, arith}
use Rattle.ble_base.specs.declared.roles.Role.TheVariants.{Central}
use Rattle.data_pdu.specs.declared.ctrl.Ctrl.{Ctrl}
use Rattle.data_pdu.specs.declared.ctrl.Ctrl.TheVariants.{PauseEncRsp, RejectExtInd, VersionInd as version_pdu}
use Rattle.exclusive_stages.specs.declared.stages.CentralStage.TheVariants.{PhyUnsent}
use Rattle.exclusive_stages.specs.declared.stages.PeerAtCentral.{PeerAtCentral}
use Rattle.ble_base.specs.declared.counters.EventNo.{EventNo}
use Rattle.instants.specs.declared.indications.Params.{Params}
use Rattle.joint_parameters.specs.procedure_values.declared.drafts.Draft.{Draft}
use Rattle.joint_parameters.specs.procedure_values.declared.drafts.Draft.TheVariants.{Cipher, FeatureReq, LengthReq, PhyReq, VersionInd}
use Rattle.joint_parameters.specs.procedure_values.declared.drafts.Rejection.{Rejection as TheRejection}
use Rattle.joint_parameters.specs.procedure_values.declared.drafts.Outgoing.{Outgoing}
use Rattle.joint_parameters.specs.procedure_values.declared.drafts.Outgoing.TheVariants.{Disconnect, Nothing, Other, Rejection}
use Rattle.joint_parameters.specs.procedure_values.Drafts.{ctrl_of_draft, ctrl_of_outgoing}
use Rattle.joint_parameters.specs.procedure_stages.declared.stages.Exchange.TheVariants.{FeaturesUnsent, LengthUnsent, VersionUnsent}
use Rattle.joint_parameters.specs.procedure_stages.declared.stages.OwnCentral.{OwnCentral}
use Rattle.joint_parameters.specs.procedure_stages.declared.stages.OwnCentral.TheVariants.{Exchange as exchange, Exclusive as exclusive}
use Rattle.joint_parameters.specs.procedure_stages.declared.stages.Progress.{Progress}
use Rattle.joint_parameters.specs.procedure_stages.declared.stages.Progress.TheVariants.{Central as central, Peripheral as peripheral}
use Rattle.joint_parameters.specs.procedure_stages.Exclusive.{central_stage}
use Rattle.joint_parameters.specs.procedure_stages.Kinds.{own_exchange, role_of}
use Rattle.collisions.specs.Agreement.{is_phy_request}
use Rattle.joint_collisions.specs.collision_steps.CentralPart.{view}
use Rattle.joint_collisions.specs.collision_steps.Parts.{drafts_part}
use Rattle.joint_exchanges.specs.exchange_pairs.Exchange.{ExchangeStage, Idle, Sent, Unsent, is_idle}
use Rattle.joint_exchanges.specs.exchange_steps.Ends.{features_stage, lengths_stage, version_stage}
use Rattle.joint_phases.specs.phase_pairs.JointRun.{is_pause_rsp as is_pause_class, is_pause_rsp_taken}
use Rattle.joint_parameters.specs.phased_control.Phased.{is_pause_rsp}
use Rattle.joint_parameters.specs.joint_controls.Ends.{IsSentOn, outgoing_on}
use Rattle.joint_parameters.specs.joint_controls.Joint.{Joint, JointStep, Way, Control, Data, Taken, after_all, beginning, is_taken}
use Rattle.joint_parameters.proofs.joint_controls.LastPdus.{first_tied, tied}
use Rattle.joint_collisions.specs.Views.{IsReached, view_of}
use Rattle.joint_exchanges.specs.Agreement.{Asked, Features, Lengths, is_version_ind, questions_waiting, stage_at, version_stage_at, waiting}
use Rattle.joint_exchanges.specs.Runs.{GoesOn}
use Rattle.joint_exchanges.specs.SentByRole.{AreOfRoles}
use Rattle.joint_exchanges.proofs.Few.{all_roles}
use Rattle.joint_exchanges.proofs.States.{asked_idle, asked_sent, version_once, version_sent}
use Rattle.joint_phases.specs.Classes.{class_down, draft_down}
use Rattle.joint_phases.specs.Facts.{are_of_own, drafts_of, is_first_of, is_unsent_first}
use Rattle.joint_phases.specs.Parts.{way_down}
use Rattle.joint_laws.specs.Firsts.{has, is_phy_unsent}
use Rattle.joint_laws.proofs.CentralFirsts.{all_of_own}
use Rattle.joint_laws.proofs.ExclusiveFirsts.{phy_unsent}
use Rattle.joint_laws.proofs.VersionFacts.{used_if_running}
use Rattle.joint_laws.proofs.VersionPdus.{count_some}
use Rattle.joint_laws.proofs.Common.{some_ctrl}

-- ---- the stages of a central

features_own : (own : OwnCentral) (peer : PeerAtCentral) (last : Option EventNo) → features_stage (own_exchange (central (record { own = own; peer = peer; last_instant = last }))) ≡ Unsent
    → is_unsent_first FeatureReq own ≡ true
features_own (exchange FeaturesUnsent) peer last is = refl
features_own (exchange stage) peer last is = absurd (cc)
features_own own peer last is = absurd (cc)

features_first : (p : Progress) → role_of p ≡ Central → features_stage (own_exchange p) ≡ Unsent → is_first_of FeatureReq p ≡ true
features_first (central c) role is = features_own c.own c.peer c.last_instant is
features_first (peripheral p) role is = absurd (cc)

lengths_own : (own : OwnCentral) (peer : PeerAtCentral) (last : Option EventNo) (rx tx : ℕ) → lengths_stage (own_exchange (central (record { own = own; peer = peer; last_instant = last }))) ≡ Unsent
    → is_unsent_first (LengthReq rx tx) own ≡ true
lengths_own (exchange LengthUnsent) peer last rx tx is = refl
lengths_own (exchange stage) peer last rx tx is = absurd (cc)
lengths_own own peer last rx tx is = absurd (cc)

lengths_first : (p : Progress) (rx tx : ℕ) → role_of p ≡ Central → lengths_stage (own_exchange p) ≡ Unsent → is_first_of (LengthReq rx tx) p ≡ true
lengths_first (central c) rx tx role is = lengths_own c.own c.peer c.last_instant rx tx is
lengths_first (peripheral p) rx tx role is = absurd (cc)

version_own : (own : OwnCentral) (peer : PeerAtCentral) (last : Option EventNo) → version_stage (own_exchange (central (record { own = own; peer = peer; last_instant = last }))) ≡ Unsent
    → is_unsent_first VersionInd own ≡ true
version_own (exchange VersionUnsent) peer last is = refl
version_own (exchange stage) peer last is = absurd (cc)
version_own own peer last is = absurd (cc)

version_first : (p : Progress) → role_of p ≡ Central → version_stage (own_exchange p) ≡ Unsent → is_first_of VersionInd p ≡ true
version_first (central c) role is = version_own c.own c.peer c.last_instant is
version_first (peripheral p) role is = absurd (cc)

phy_own : (own : OwnCentral) → is_phy_unsent (central_stage own) ≡ true → is_unsent_first PhyReq own ≡ true
phy_own (exclusive PhyUnsent) is = refl
phy_own (exclusive stage) is = absurd (cc)
phy_own own is = absurd (cc)

phy_first : (p : Progress) (is_open : Bool) (rejections : List TheRejection) (drafts : List Draft) → role_of p ≡ Central
    → (has is_phy_request (view p is_open rejections drafts).queue.items ≡ true → is_phy_unsent (view p is_open rejections drafts).own ≡ true)
    → has is_phy_request (drafts_part drafts) ≡ true → is_first_of PhyReq p ≡ true
phy_first (central c) is_open rejections drafts role unsent waits = phy_own c.own (unsent waits)
phy_first (peripheral p) is_open rejections drafts role unsent waits = absurd (cc)

-- ---- what a central sent last

cipher_out : (knows : Bool) (ctrl : Ctrl) → is_pause_rsp (Other (Cipher ctrl)) ≡ is_pause_class (class_down knows ctrl)
cipher_out true (version_pdu version company sub) = refl
cipher_out false (version_pdu version company sub) = refl
cipher_out knows (RejectExtInd opcode code) = refl
cipher_out knows PauseEncRsp = refl
cipher_out knows ctrl = refl

draft_out : (knows : Bool) (draft : Draft) (event latency : ℕ) → is_pause_rsp (Other draft) ≡ is_pause_class (class_down knows (ctrl_of_draft draft event latency))
draft_out knows (Cipher ctrl) event latency = cipher_out knows ctrl
draft_out true VersionInd event latency = refl
draft_out false VersionInd event latency = refl
draft_out knows draft event latency = refl

pub outgoing_out : (knows : Bool) (outgoing : Outgoing) (ctrl : Ctrl) (event latency : ℕ) → ctrl_of_outgoing outgoing event latency ≡ Some ctrl
    → is_pause_rsp outgoing ≡ is_pause_class (class_down knows ctrl)
outgoing_out knows Nothing ctrl event latency is = absurd (cc)
outgoing_out knows (Rejection rejection) ctrl event latency is = ap (λ c. is_pause_class (class_down knows c)) (some_ctrl is)
outgoing_out knows (Disconnect code) ctrl event latency is = ap (λ c. is_pause_class (class_down knows c)) (some_ctrl is)
outgoing_out knows (Other draft) ctrl event latency is = draft_out knows draft event latency ∙ ap (λ c. is_pause_class (class_down knows c)) (some_ctrl is)

way_out : (knows : Bool) (way : Way) → IsSentOn way → is_taken way ≡ true → is_pause_rsp (outgoing_on way) ≡ is_pause_rsp_taken (way_down knows way)
way_out knows (Taken Data) sent taken = refl
way_out knows (Taken (Control outgoing ctrl)) sent taken = outgoing_out knows outgoing ctrl sent.event sent.latency sent.is
way_out knows way sent taken = absurd (cc)

-- ---- in a joint run

module _ (central_rx peripheral_rx : ℕ) (first : Params) (slot : ℕ) (steps : List JointStep) where
  abbrev s : Joint
  s = after_all steps (beginning central_rx peripheral_rx first slot)

  pub taken_is_out : is_taken s.down ≡ true → is_pause_rsp s.central.control.table.out ≡ is_pause_rsp_taken (way_down s.central.knows_version s.down)
  taken_is_out taken =
      let all = tied steps (beginning central_rx peripheral_rx first slot) (first_tied central_rx peripheral_rx first slot) in
      ap (λ outgoing. is_pause_rsp outgoing) all.central ∙ way_out s.central.knows_version s.down all.sent_down taken

  module _ (run_on : GoesOn steps (beginning central_rx peripheral_rx first slot)) (reached : IsReached (view_of s)) where
    roles : AreOfRoles true s
    roles = all_roles central_rx peripheral_rx first slot steps run_on

    role_is : role_of s.central.control.table.progress ≡ Central
    role_is = roles.central.table.same_role

    asked_unsent_if : (asked : Asked) → 1 ≤ questions_waiting asked Central s → stage_at asked s.central ≡ Unsent
    asked_unsent_if asked some = by (stage_at asked s.central) refl
      where
        by : (stage : ExchangeStage) → stage_at asked s.central ≡ stage → stage ≡ Unsent
        by Idle is = let none = (asked_idle central_rx peripheral_rx first slot steps run_on asked Central is).0 in absurd (omega (arith, some, none))
        by Unsent is = refl
        by Sent is = let none = (asked_sent central_rx peripheral_rx first slot steps run_on asked Central is).0 in absurd (omega (arith, some, none))

    version_unsent_if : s.central.knows_version ≡ false → 1 ≤ waiting is_version_ind s.central → version_stage_at s.central ≡ Unsent
    version_unsent_if unknown some = by (version_stage_at s.central) refl
      where
        used : s.central.control.table.version_used ≡ true
        used = let all = version_once central_rx peripheral_rx first slot steps run_on Central in count_some s.central.control.table.version_used (omega (arith, all, some))

        running : not (is_idle (version_stage_at s.central)) ≡ true
        running = sym (used_if_running central_rx peripheral_rx first slot steps run_on Central unknown) ∙ used

        by : (stage : ExchangeStage) → version_stage_at s.central ≡ stage → stage ≡ Unsent
        by Idle is = let runs : not (is_idle Idle) ≡ true = ap (λ x. not (is_idle x)) (sym is) ∙ running in absurd (cc)
        by Unsent is = refl
        by Sent is = let none = (version_sent central_rx peripheral_rx first slot steps run_on Central is).0 in absurd (omega (arith, some, none))

    pub own_first : are_of_own (draft_down s.central.knows_version) (drafts_of s.central) s.central.control.table.progress ≡ true
    own_first =
        all_of_own s.central.knows_version s.central.control.table.progress (drafts_of s.central) roles.central.table.drafts
        (record {
          features = λ some. features_first s.central.control.table.progress role_is (asked_unsent_if Features some);
          lengths = λ some. λ rx. λ tx. lengths_first s.central.control.table.progress rx tx role_is (asked_unsent_if Lengths some);
          phy = λ some. phy_first s.central.control.table.progress _ s.central.control.table.queue.rejections (drafts_of s.central) role_is (phy_unsent (view_of s) reached) some;
          version = λ unknown. λ some. version_first s.central.control.table.progress role_is (version_unsent_if unknown some);
        })
