-- The control PDUs that wait at an end, by what they are for, and what its host is asked (Core 5.2, volume 6 part B,
-- section 5).
use Rattle.std.specs.Prelude.{ℕ, ◌+◌, Bool, true, false, ◌&&◌, List, [], ◌∷◌, if◌then◌else◌}
use Rattle.data_pdu.specs.declared.ctrl.Ctrl.{Ctrl}
use Rattle.data_pdu.specs.declared.ctrl.Ctrl.TheVariants.{TerminateInd, EncReq, PauseEncReq}
use Rattle.procedures.specs.procedure_values.declared.drafts.Draft.{Draft}
use Rattle.procedures.specs.procedure_values.declared.drafts.Draft.TheVariants.{Update, Map, Request, PhyReq, FeatureReq, PeripheralFeatureReq, VersionInd, LengthReq, Cipher}
use Rattle.procedures.specs.procedure_stages.declared.stages.Progress.{Progress}
use Rattle.procedures.specs.procedure_stages.declared.stages.Progress.TheVariants.{Central, Peripheral}
use Rattle.procedures.specs.Table.{TableFacts}
use Rattle.procedures.specs.procedure_stages.Closing.{is_open}
use Rattle.exclusive_stages.specs.Kinds.{is_host_asked_at_central}
use Rattle.procedures.specs.procedure_stages.Queue.{count_of_disconnect}

abbrev pub count_if : Bool → ℕ
count_if holds = (if holds then 1 else 0)

-- how many drafts pass a test
abbrev pub number_of : (Draft → Bool) → List Draft → ℕ
number_of test [] = 0
number_of test (draft ∷ drafts) = count_if (test draft) + number_of test drafts

-- ---- by what they are for

-- the own encryption is begun by LL_ENC_REQ or LL_PAUSE_ENC_REQ, and after a pause LL_ENC_REQ follows (section 5.1.3)
abbrev pub is_encryption_request : Ctrl → Bool
is_encryption_request (EncReq rand ediv skd_m iv_m) = true
is_encryption_request PauseEncReq = true
is_encryption_request other = false

-- the first PDU of an own procedure other than an exchange of versions, or LL_ENC_REQ after a pause
abbrev pub is_own_request : Draft → Bool
is_own_request (Update params) = true
is_own_request (Map map) = true
is_own_request (Request min max latency timeout) = true
is_own_request PhyReq = true
is_own_request FeatureReq = true
is_own_request PeripheralFeatureReq = true
is_own_request (LengthReq rx tx) = true
is_own_request (Cipher ctrl) = is_encryption_request ctrl
is_own_request other = false

abbrev pub own_waiting : TableFacts → ℕ
own_waiting f = number_of is_own_request f.queue.drafts

-- LL_VERSION_IND
abbrev pub is_version_ind : Draft → Bool
is_version_ind VersionInd = true
is_version_ind other = false

abbrev pub version_waiting : TableFacts → ℕ
version_waiting f = number_of is_version_ind f.queue.drafts

-- LL_TERMINATE_IND, of a Disconnect that was accepted or for want of a key
abbrev pub is_terminate_ind : Ctrl → Bool
is_terminate_ind (TerminateInd code) = true
is_terminate_ind other = false

abbrev pub is_terminate : Draft → Bool
is_terminate (Cipher ctrl) = is_terminate_ind ctrl
is_terminate other = false

abbrev pub end_waiting : TableFacts → ℕ
end_waiting f = count_of_disconnect f.queue.disconnect + number_of is_terminate f.queue.drafts

-- ---- what the host is asked

-- a central asks its host about a request, a peripheral asks it for a key
abbrev pub is_asked : Progress → Bool → Bool
is_asked (Central c) key = is_host_asked_at_central c.peer
is_asked (Peripheral p) key = key

-- it counts while an answer would be queued
abbrev pub asked : TableFacts → Bool → ℕ
asked f key = count_if (is_open f.closing && is_asked f.progress key)
