-- A request that was granted awaits its update: what each call on a table leaves of that, and which PDUs hand an
-- indication on.
use Rattle.std.proofs.Common.{◌≡◌, ℕ, Bool, true, false, ◌||◌, if◌then◌else◌, Option, Some, None, option_map, is_some, unwrap_or, refl}
use Rattle.ble_base.specs.declared.error_codes.ErrCode.{ErrCode}
use Rattle.ble_base.specs.declared.procedure_kinds.Kind.{Kind}
use Rattle.ble_base.specs.declared.procedure_kinds.Kind.TheVariants.{Map as map_kind, Phy}
use Rattle.ble_base.specs.declared.roles.Role.TheVariants.{Central as central_role, Peripheral as peripheral_role}
use Rattle.data_pdu.specs.declared.ctrl.Ctrl.{Ctrl}
use Rattle.data_pdu.specs.declared.ctrl.Ctrl.TheVariants.{UnknownRsp, FeatureRsp, VersionInd, RejectInd, RejectExtInd, LengthRsp, ConnectionUpdateInd, ChannelMapInd, EncReq, StartEncRsp, FeatureReq, PauseEncReq, PauseEncRsp, PhyReq, PhyUpdateInd}
use Rattle.data_pdu.specs.declared.ctrl.CtrlRead.{CtrlRead}
use Rattle.data_pdu.specs.declared.ctrl.CtrlRead.TheVariants.{Known, Unknown, Bare}
use Rattle.instants.specs.declared.indications.Indication.{Indication}
use Rattle.control_model.specs.procedures.procedure_values.declared.asks.Ask.{Ask}
use Rattle.control_model.specs.procedures.procedure_values.declared.asks.Ask.TheVariants.{Update as ask_update, Map as ask_map, Encrypt as ask_encrypt}
use Rattle.control_model.specs.procedures.procedure_values.declared.drafts.Draft.{Draft}
use Rattle.control_model.specs.procedures.procedure_values.declared.drafts.Outgoing.{Outgoing}
use Rattle.control_model.specs.procedures.procedure_values.declared.drafts.Outgoing.TheVariants.{Other}
use Rattle.exclusive_stages.specs.declared.pdus.Pdu.{Pdu}
use Rattle.exclusive_stages.specs.declared.pdus.Pdu.TheVariants.{PhyReq as phy_req, ParamReq as param_req}
use Rattle.exclusive_stages.specs.declared.stages.PeripheralStage.{PeripheralStage}
use Rattle.exclusive_stages.specs.declared.stages.PeripheralStage.TheVariants.{RequestUnsent, PhyUnsent, RequestGranted}
use Rattle.exclusive_stages.specs.Awaited.{awaits_phy_ind, central_answered, has_phy_of_central, reads_as_answer}
use Rattle.exclusive_stages.specs.Held.{own_held_at_peripheral}
use Rattle.exclusive_stages.specs.Sent.{own_sent_by_peripheral}
use Rattle.control_model.specs.procedures.procedure_stages.declared.stages.Ahead.{Ahead}
use Rattle.control_model.specs.procedures.procedure_stages.declared.stages.Ahead.TheVariants.{Nothing, Update as update_ahead, Map as map_ahead}
use Rattle.control_model.specs.procedures.procedure_stages.declared.stages.Central.{Central}
use Rattle.control_model.specs.procedures.procedure_stages.declared.stages.Exchange.{Exchange}
use Rattle.control_model.specs.procedures.procedure_stages.declared.stages.OwnPeripheral.{OwnPeripheral}
use Rattle.control_model.specs.procedures.procedure_stages.declared.stages.OwnPeripheral.TheVariants.{Exclusive as exclusive, Exchange as exchange}
use Rattle.control_model.specs.procedures.procedure_stages.declared.stages.Peripheral.{Peripheral}
use Rattle.control_model.specs.procedures.procedure_stages.declared.stages.Progress.{Progress}
use Rattle.control_model.specs.procedures.procedure_stages.declared.stages.Progress.TheVariants.{Central as central, Peripheral as peripheral}
use Rattle.control_model.specs.procedures.procedure_stages.Awaited.{awaits_features, awaits_lengths, is_version}
use Rattle.control_model.specs.procedures.procedure_stages.Begun.{progress_begun}
use Rattle.control_model.specs.procedures.procedure_stages.Collisions.{collision}
use Rattle.control_model.specs.procedures.procedure_stages.Exclusive.{on_peripheral_stage, pdu_of_draft, peripheral_stage}
use Rattle.control_model.specs.procedures.procedure_stages.Foreign.{is_foreign}
use Rattle.control_model.specs.procedures.procedure_stages.Held.{progress_held}
use Rattle.control_model.specs.procedures.procedure_stages.Kinds.{kind_at_peripheral, own_exchange, role_of, without_own}
use Rattle.control_model.specs.procedures.procedure_stages.Opcodes.{first_opcode, is_opcode, later_opcode}
use Rattle.control_model.specs.procedures.procedure_stages.Sent.{exchange_sent, exclusive_sent_by_peripheral, own_draft_sent_by_peripheral, progress_after_sending}
use Rattle.control_model.specs.procedures.declared.outcome.Outcome.{Outcome}
use Rattle.control_model.specs.procedures.Beginning.{ask_at, begin_at, begin_step, place_to_begin}
use Rattle.control_model.specs.procedures.Encryption.{is_rejection, progress_given}
use Rattle.control_model.specs.procedures.Phy.{phy_ind_taken}
use Rattle.control_model.specs.procedures.Refusals.{refused_if}
use Rattle.control_model.specs.procedures.Request.{after_grant, outlived}
use Rattle.control_model.specs.procedures.Table.{TableFacts}
use Rattle.control_model.specs.procedures.Taking.{outcome_of, taken_by_either, taken_by_peripheral}
use Rattle.control_model.specs.procedures.Map.{map_taken}
use Rattle.control_model.specs.procedures.Update.{follow, granted, update_begun, update_taken}
use Rattle.control_model.specs.procedures.Version.{version_taken}
use Rattle.control_model.specs.Control.{indicated_by}
use Rattle.control_end.specs.Following.{AwaitsGrant, AwaitsIf, indication_read}
use Rattle.control_model.proofs.Outcomes.{Hands, fits}

-- ---- the calls but for a PDU that is taken

begun : (ask : Ask) (used : Bool) (p : Progress) → AwaitsGrant p → AwaitsGrant (progress_begun ask used p)
begun ask used (central c) g = tt
begun (ask_update interval latency timeout) used (peripheral p) g = g
begun (ask_map map) used (peripheral p) g = g
begun (ask_encrypt rand ediv ltk skd_m iv_m) used (peripheral p) g = g
begun other used (peripheral p) g = tt

begun_at : (f : TableFacts) (slot : ℕ) (place : Option ℕ) (ask : Option Ask) → AwaitsGrant f.progress → AwaitsGrant (begin_at f slot place ask).0.progress
begun_at f slot None ask g = g
begun_at f slot (Some place) None g = g
begun_at f slot (Some place) (Some ask) g = begun ask f.version_used f.progress g

pub begun_grants : (f : TableFacts) (slot : ℕ) (quiet : Bool) → AwaitsGrant f.progress → AwaitsGrant (begin_step f slot quiet).0.progress
begun_grants f slot quiet g = begun_at f slot (place_to_begin f quiet) (ask_at (place_to_begin f quiet) f.wanted) g

held_stage : (stage : PeripheralStage) → AwaitsIf (central_answered (own_held_at_peripheral stage)) Nothing
held_stage RequestGranted = tt
held_stage other = tt

held_own : (own : OwnPeripheral) → AwaitsIf (central_answered (peripheral_stage (on_peripheral_stage own_held_at_peripheral own))) Nothing
held_own (exclusive stage) = held_stage stage
held_own (exchange stage) = tt

pub held_grants : (p : Progress) → AwaitsGrant (progress_held p)
held_grants (central c) = tt
held_grants (peripheral p) = held_own p.own

pub given_grants : (p : Progress) (ctrl : Ctrl) → AwaitsGrant p → AwaitsGrant (progress_given p ctrl)
given_grants (central c) ctrl g = tt
given_grants (peripheral p) ctrl g = by (is_rejection ctrl)
  where
    by : (b : Bool) → AwaitsGrant (if b then peripheral (record p { encrypting = false }) else peripheral p)
    by true = g
    by false = g

-- ---- a PDU is sent

abbrev Stays : Ahead → PeripheralStage → Option PeripheralStage → Type 0
Stays ahead stage next =
    AwaitsIf (central_answered stage) ahead
    → AwaitsIf (central_answered (peripheral_stage (unwrap_or (option_map (λ next. exclusive next) next) (exclusive stage)))) ahead

sent_stage : (ahead : Ahead) (pdu : Pdu) (stage : PeripheralStage) → Stays ahead stage (own_sent_by_peripheral pdu stage)
sent_stage ahead param_req RequestUnsent g = tt
sent_stage ahead phy_req PhyUnsent g = tt
sent_stage ahead pdu stage g = g

sent_pdu : (ahead : Ahead) (pdu : Option Pdu) (stage : PeripheralStage) → Stays ahead stage (exclusive_sent_by_peripheral pdu stage)
sent_pdu ahead None stage g = g
sent_pdu ahead (Some pdu) stage g = sent_stage ahead pdu stage g

sent_exchange : (ahead : Ahead) (stage : Exchange) (next : Option Exchange)
    → AwaitsIf (central_answered (peripheral_stage (unwrap_or (option_map (λ next. exchange next) next) (exchange stage)))) ahead
sent_exchange ahead stage None = tt
sent_exchange ahead stage (Some next) = tt

sent_own : (ahead : Ahead) (draft : Draft) (own : OwnPeripheral) → AwaitsIf (central_answered (peripheral_stage own)) ahead
    → AwaitsIf (central_answered (peripheral_stage (unwrap_or (own_draft_sent_by_peripheral draft own) own))) ahead
sent_own ahead draft (exclusive stage) g = sent_pdu ahead (pdu_of_draft draft) stage g
sent_own ahead draft (exchange stage) g = sent_exchange ahead stage (exchange_sent draft stage)

pub sent_grants : (outgoing : Outgoing) (event skips : ℕ) (p : Progress) → AwaitsGrant p
    → AwaitsGrant (progress_after_sending outgoing event skips p)
sent_grants (Other draft) event skips (central c) g = tt
sent_grants (Other draft) event skips (peripheral p) g = sent_own p.ahead draft p.own g
sent_grants other event skips p g = g

-- ---- a PDU is taken

-- what a PDU leaves, of a peripheral: only one that is an indication hands one on
record Leaves (read : Option Indication) (o : Outcome) : Type 0 where
  grant : AwaitsGrant o.progress
  none : read ≡ None → indicated_by o.step.effect ≡ None

choice : (read : Option Indication) (b : Bool) (x y : Outcome) → Leaves read x → Leaves read y → Leaves read (if b then x else y)
choice read true x y hx hy = hx
choice read false x y hx hy = hy

abbrev at : TableFacts → Peripheral → TableFacts
at f p = record f { progress = peripheral p }

module _ (f : TableFacts) (p : Peripheral) (g : AwaitsGrant (peripheral p)) where
  same : (read : Option Indication) (o : Outcome) → o.progress ≡ peripheral p → indicated_by o.step.effect ≡ None → Leaves read o
  same read o is none = record { grant = rw is g; none = λ _. none }

  -- the own procedure is over
  over : (o : Outcome) → o.progress ≡ without_own (peripheral p) → indicated_by o.step.effect ≡ None → Leaves None o
  over o is none = record { grant = rw is tt; none = λ _. none }

  refusal : (b : Bool) (code : ErrCode) → Leaves None (refused_if b (at f p) code)
  refusal true code = over _ refl refl
  refusal false code = same None _ refl refl

  version : (number company sub : ℕ) → Leaves None (version_taken (at f p) number company sub)
  version number company sub = record { grant = by (is_version (own_exchange (peripheral p))); none = λ _. refl }
    where
      by : (b : Bool) → AwaitsGrant (if b then without_own (peripheral p) else peripheral p)
      by true = tt
      by false = g

  either : (ctrl : Ctrl) → Leaves None (taken_by_either (at f p) ctrl)
  either (UnknownRsp opcode) = refusal (is_opcode (first_opcode (peripheral p)) opcode) _
  either (FeatureRsp value) = choice None (awaits_features (own_exchange (peripheral p))) _ _ (over _ refl refl) (same None _ refl refl)
  either (VersionInd number company sub) = version number company sub
  either (RejectInd code) = refusal (is_some (first_opcode (peripheral p))) _
  either (RejectExtInd opcode code) =
      refusal (is_opcode (first_opcode (peripheral p)) opcode || is_opcode (later_opcode (peripheral p)) opcode) _
  either (LengthRsp rx rx_time tx tx_time) =
      choice None (awaits_lengths (own_exchange (peripheral p))) _ _ (over _ refl refl) (same None _ refl refl)
  either other = same None _ refl refl

  follows : (indication : Indication) (new : Ahead) (o : Outcome) → AwaitsGrant o.progress
      → (ahead : Ahead) → Leaves (Some indication) (follow (at f p) ahead new o)
  follows indication new o h Nothing = record { grant = h; none = λ is. absurd (cc) }
  follows indication new o h update_ahead = same (Some indication) _ refl refl
  follows indication new o h map_ahead = same (Some indication) _ refl refl

  granting : (read : Option Indication) (kind : Kind) (o : Outcome) → Leaves read o → Leaves read (after_grant (at f p) p kind o)
  granting read kind o h = choice read (central_answered (peripheral_stage p.own)) _ _ (by (collision (kind_at_peripheral p.own) kind)) h
    where
      by : (code : Option ErrCode) → Leaves read (outlived (at f p) code o)
      by None = h
      by (Some code) = same read _ refl refl

  awaiting : (b : Bool) → AwaitsIf b update_ahead
  awaiting true = tt
  awaiting false = tt

  mapping : (b : Bool) → AwaitsIf b map_ahead
  mapping true = tt
  mapping false = tt

  update : (indication : Indication) → Leaves (Some indication) (update_taken (at f p) p indication)
  update indication = follows indication update_ahead _ (by (reads_as_answer (peripheral_stage p.own))) p.ahead
    where
      by : (b : Bool)
          → AwaitsGrant (if b then granted (at f p) p indication else update_begun (at f p) p indication).progress
      by true = tt
      by false = awaiting (central_answered (peripheral_stage p.own))

  map_fits : (indication : Indication) → Leaves (Some indication) (map_taken (at f p) p indication)
  map_fits indication =
      granting (Some indication) map_kind _
      (follows indication map_ahead _ (mapping (central_answered (peripheral_stage p.own))) p.ahead)

  phy_ind : Leaves None (phy_ind_taken (at f p) p)
  phy_ind =
      choice None (has_phy_of_central p.peer) _ _ (record { grant = g; none = λ _. refl })
      (choice None (awaits_phy_ind (peripheral_stage p.own)) _ _ (over _ refl refl) (same None _ refl refl))

  by_ctrl : (quiet : Bool) (ctrl : Ctrl) → Leaves (indication_read (Known ctrl)) (taken_by_peripheral (at f p) p quiet ctrl)
  by_ctrl quiet (ConnectionUpdateInd win_size win_offset interval latency timeout instant) = update _
  by_ctrl quiet (ChannelMapInd map instant) = map_fits _
  by_ctrl quiet (EncReq rand ediv skd_m iv_m) = record { grant = g; none = λ _. refl }
  by_ctrl quiet PauseEncReq = record { grant = g; none = λ _. refl }
  by_ctrl quiet PauseEncRsp = choice None quiet _ _ (same None _ refl refl) (same None _ refl refl)
  by_ctrl quiet StartEncRsp = choice None quiet _ _ (same None _ refl refl) (record { grant = g; none = λ _. refl })
  by_ctrl quiet (FeatureReq value) = same None _ refl refl
  by_ctrl quiet (PhyReq tx rx) = granting None Phy _ (record { grant = g; none = λ _. refl })
  by_ctrl quiet (PhyUpdateInd to_peripheral to_central instant) = phy_ind
  by_ctrl quiet other = either other

  by_read : (quiet : Bool) (read : CtrlRead) → Leaves (indication_read read) (outcome_of (at f p) quiet read)
  by_read quiet (Known ctrl) =
      choice (indication_read (Known ctrl)) (is_foreign peripheral_role ctrl) _ _ (same (indication_read (Known ctrl)) _ refl refl) (by_ctrl quiet ctrl)
  by_read quiet (Unknown opcode) = same None _ refl refl
  by_read quiet Bare = same None _ refl refl

-- a central stays one, whatever it takes
of_central : (q : Progress) → role_of q ≡ central_role → AwaitsGrant q
of_central (central c) is = tt
of_central (peripheral p) is = absurd (cc)

central_leaves : (c : Central) (handed : Option Indication) (q : Progress) → Hands handed (central c) q → AwaitsGrant q
central_leaves c None q h = of_central q h.role
central_leaves c (Some indication) q h = absurd (no h.here)
  where
    no : role_of (central c) ≡ peripheral_role → ⊥
    no is = cc

abbrev with_progress : Progress → TableFacts → TableFacts
with_progress p f = record f { progress = p }

taken_at : (f : TableFacts) (p : Progress) (quiet : Bool) (read : CtrlRead) → AwaitsGrant p
    → AwaitsGrant (outcome_of (with_progress p f) quiet read).progress
taken_at f (central c) quiet read g = central_leaves c _ _ (fits (with_progress (central c) f) quiet read).hands
taken_at f (peripheral p) quiet read g = (by_read f p g quiet read).grant

pub taken_grants : (f : TableFacts) (quiet : Bool) (read : CtrlRead) → AwaitsGrant f.progress
    → AwaitsGrant (outcome_of f quiet read).progress
taken_grants f quiet read g = taken_at f f.progress quiet read g

-- a PDU that is no indication hands none on
pub none_handed : (f : TableFacts) (p : Peripheral) (quiet : Bool) (read : CtrlRead) → AwaitsGrant (peripheral p)
    → indication_read read ≡ None → indicated_by (outcome_of (at f p) quiet read).step.effect ≡ None
none_handed f p quiet read g is = (by_read f p g quiet read).none is
