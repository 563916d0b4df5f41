-- Where the PDUs of the exchanges are in a joint run, and what the two ends know of each other (Core 5.2, volume 6 part
-- B, sections 5.1.4, 5.1.5 and 5.1.9).
use Rattle.std.specs.Prelude.{ℕ, ◌+◌, Bool, true, false, Option, Some, None}
use Rattle.ble_base.specs.declared.roles.Role.{Role}
use Rattle.ble_base.specs.declared.roles.Role.TheVariants.{Central, Peripheral}
use Rattle.data_pdu.specs.declared.ctrl.Ctrl.{Ctrl}
use Rattle.data_pdu.specs.declared.ctrl.Ctrl.TheVariants.{LengthReq as ctrl_length_req, PeripheralFeatureReq as ctrl_feature_req, VersionInd as ctrl_version_ind}
use Rattle.exchange_steps.specs.procedure_values.declared.drafts.Draft.{Draft}
use Rattle.exchange_steps.specs.procedure_values.declared.drafts.Draft.TheVariants.{FeatureReq, FeatureRsp, LengthReq, LengthRsp, PeripheralFeatureReq, VersionInd}
use Rattle.exchange_steps.specs.procedure_values.declared.drafts.Outgoing.{Outgoing}
use Rattle.exchange_steps.specs.procedure_values.declared.drafts.Outgoing.TheVariants.{Other}
use Rattle.exchange_steps.specs.procedure_stages.Kinds.{own_exchange}
use Rattle.joint_controls.specs.table_laws.Waiting.{count_if, number_of}
use Rattle.exchange_steps.specs.exchange_pairs.Exchange.{ExchangeStage}
use Rattle.exchange_steps.specs.exchange_pairs.ExchangeRun.{other_role}
use Rattle.exchange_steps.specs.Ends.{features_stage, lengths_stage, version_stage}
use Rattle.joint_controls.specs.phased_control.Phased.{Phased}
use Rattle.joint_controls.specs.Joint.{Clear, Control, Data, Fixed, Item, Joint, OnAir, Taken, Way}

-- ---- the ends, by role

abbrev pub end_at : Role → Joint → Phased
end_at Central s = s.central
end_at Peripheral s = s.peripheral

-- what it sends, and what comes to it
abbrev pub sent_from : Role → Joint → Way
sent_from Central s = s.down
sent_from Peripheral s = s.up

abbrev pub coming_to : Role → Joint → Way
coming_to Central s = s.up
coming_to Peripheral s = s.down

-- ---- PDUs that pass a test: that wait, that were fixed or sent and not taken, that the central keeps

abbrev pub waiting : (Draft → Bool) → Phased → ℕ
waiting test s = number_of test s.control.table.queue.drafts

abbrev pub is_draft : (Draft → Bool) → Outgoing → Bool
is_draft test (Other draft) = test draft
is_draft test outgoing = false

abbrev pub is_control : (Draft → Bool) → Item → Bool
is_control test (Control outgoing ctrl) = is_draft test outgoing
is_control test Data = false

abbrev pub untaken : (Draft → Bool) → Way → ℕ
untaken test Clear = 0
untaken test (Fixed item sealed) = count_if (is_control test item)
untaken test (OnAir item sealed) = count_if (is_control test item)
untaken test (Taken item) = 0

abbrev pub passes : (Ctrl → Bool) → Option Ctrl → Bool
passes test None = false
passes test (Some ctrl) = test ctrl

-- those of the peripheral alone
abbrev pub kept_of : (Ctrl → Bool) → Role → Joint → ℕ
kept_of test Central s = 0
kept_of test Peripheral s = count_if (passes test s.central.kept)

-- ---- an exchange of a question and an answer

pub data Asked : Type 0 where
  Features : Asked
  Lengths : Asked

abbrev pub is_question_of : Asked → Draft → Bool
is_question_of Features FeatureReq = true
is_question_of Features PeripheralFeatureReq = true
is_question_of Lengths (LengthReq rx tx) = true
is_question_of asked draft = false

abbrev pub is_answer_of : Asked → Draft → Bool
is_answer_of Features FeatureRsp = true
is_answer_of Lengths (LengthRsp rx tx) = true
is_answer_of asked draft = false

abbrev pub is_first_of : Asked → Ctrl → Bool
is_first_of Features (ctrl_feature_req features) = true
is_first_of Lengths (ctrl_length_req rx rx_time tx tx_time) = true
is_first_of asked ctrl = false

-- how far the own exchange is
abbrev pub stage_at : Asked → Phased → ExchangeStage
stage_at Features s = features_stage (own_exchange s.control.table.progress)
stage_at Lengths s = lengths_stage (own_exchange s.control.table.progress)

-- the questions of an end that wait to be sent
abbrev pub questions_waiting : Asked → Role → Joint → ℕ
questions_waiting asked role s = waiting (is_question_of asked) (end_at role s)

-- where its question is after that, or the answer to it: how many of these there are
abbrev pub places_of : Asked → Role → Joint → ℕ
places_of asked role s =
    untaken (is_question_of asked) (sent_from role s) + kept_of (is_first_of asked) role s
    + waiting (is_answer_of asked) (end_at (other_role role) s) + untaken (is_answer_of asked) (coming_to role s)

-- ---- the exchange of versions

abbrev pub is_version_ind : Draft → Bool
is_version_ind VersionInd = true
is_version_ind draft = false

abbrev pub is_version_ctrl : Ctrl → Bool
is_version_ctrl (ctrl_version_ind version company sub) = true
is_version_ctrl ctrl = false

abbrev pub version_stage_at : Phased → ExchangeStage
version_stage_at s = version_stage (own_exchange s.control.table.progress)

-- LL_VERSION_IND of an end waits, is on its way, is kept or was taken: how many of these there are
abbrev pub version_places : Role → Joint → ℕ
version_places role s =
    waiting is_version_ind (end_at role s) + untaken is_version_ind (sent_from role s)
    + kept_of is_version_ctrl role s + count_if (end_at (other_role role) s).knows_version

-- what may still complete the exchange of an end: its own LL_VERSION_IND is on its way or kept, or that of the other
-- end waits or is on its way
abbrev pub version_coming : Role → Joint → ℕ
version_coming role s =
    untaken is_version_ind (sent_from role s) + kept_of is_version_ctrl role s
    + waiting is_version_ind (end_at (other_role role) s) + untaken is_version_ind (coming_to role s)

-- ---- the exchange of lengths: what each end receives as the link begins

abbrev pub first_rx_at : Role → ℕ → ℕ → ℕ
first_rx_at Central central_rx peripheral_rx = central_rx
first_rx_at Peripheral central_rx peripheral_rx = peripheral_rx
