-- What a step that a host asks of an end does to how the end is to leave its link, and to whether it ends as its turn ends.
use Rattle.std.proofs.Common.{◌≡◌, ℕ, Bool, true, false, Option, Some, None, List, refl, ap, ◌∙◌, if◌then◌else◌}
use Rattle.ble_base.specs.ErrorCodes.{terminated_by_local_host}
use Rattle.ble_base.specs.declared.error_codes.ErrCode.{ErrCode}
use Rattle.journal_controls.specs.link_model.End.{facts_after}
use Rattle.journal_controls.specs.link_model.Facts.{Facts, keyed_of}
use Rattle.journal_controls.specs.link_model.Hosts.{asked_unless, ends_without_key, is_to_come, leaving_from_if}
use Rattle.journal_controls.specs.link_model.Setup.{Setup}
use Rattle.journal_controls.specs.link_model.Step.{Step, Disconnected, KeyAnswered, ProcedureAsked, RequestAnswered}
use Rattle.journal_controls.specs.link_model.Times.{ended_by_procedures, ending_of}
use Rattle.journal_controls.specs.link_model.declared.state.Leaving.{Leaving}
use Rattle.journal_controls.proofs.controller_model.Asked.{IsAskedStep}
use Rattle.journal_controls.proofs.journal_ends.HostedLinks.{host_ends}
use Rattle.journal_leaving.specs.Lacking.{leaving_answering}
use Rattle.journal_leaving.specs.Leaving.{leaving_asking}

-- a step that a host asks of a link is one of a host
pub host_step : (step : Step) → IsAskedStep step → IsAskedStep step
host_step (ProcedureAsked ask) is = tt
host_step (RequestAnswered answer) is = tt
host_step (KeyAnswered key slot) is = tt
host_step (Disconnected reason slot) is = tt
host_step other is = absurd is

-- ---- how it is to leave

pub key_leaves : (setup : Setup) (facts : Facts) (key : Option (List ℕ)) (slot : ℕ)
    → (facts_after setup facts (KeyAnswered key slot)).leaving ≡ leaving_answering (keyed_of facts) facts.leaving (KeyAnswered key slot)
key_leaves setup facts None slot = refl
key_leaves setup facts (Some ltk) slot = refl

pub step_leaves : (setup : Setup) (facts : Facts) (step : Step) → IsAskedStep step
    → (facts_after setup facts step).leaving ≡ leaving_asking step (leaving_answering (keyed_of facts) facts.leaving step)
step_leaves setup facts (ProcedureAsked ask) by_host = by (is_to_come ask facts)
  where
    by : (comes : Bool) → (asked_unless comes ask facts).leaving ≡ facts.leaving
    by true = refl
    by false = refl
step_leaves setup facts (RequestAnswered answer) by_host = refl
step_leaves setup facts (KeyAnswered key slot) by_host = key_leaves setup facts key slot
step_leaves setup facts (Disconnected reason slot) by_host = refl
step_leaves setup facts other by_host = absurd by_host

-- ---- whether it ends

abbrev ending_by : Option ErrCode → Leaving → Option ErrCode
ending_by ends leaving = if leaving.acknowledged then Some (record { 0 = terminated_by_local_host }) else ended_by_procedures ends leaving

same_ending : (ends : Option ErrCode) (leaving more : Leaving) → more.acknowledged ≡ leaving.acknowledged → more.answered ≡ leaving.answered
    → more.ended_by_peer ≡ leaving.ended_by_peer → ending_by ends more ≡ ending_by ends leaving
same_ending None leaving more acked answered peer = λ i. if acked i then Some (record { 0 = terminated_by_local_host }) else (if answered i then peer i else None)
same_ending (Some code) leaving more acked answered peer = λ i. if acked i then Some (record { 0 = terminated_by_local_host }) else Some code

leaves_ending : (setup : Setup) (facts : Facts) (ends : Option ErrCode) (step : Step) → IsAskedStep step
    → ending_by ends (facts_after setup facts step).leaving ≡ ending_by ends facts.leaving
leaves_ending setup facts ends (ProcedureAsked ask) by_host = ap (ending_by ends) (step_leaves setup facts (ProcedureAsked ask) by_host)
leaves_ending setup facts ends (RequestAnswered answer) by_host = refl
leaves_ending setup facts ends (KeyAnswered key slot) by_host = by (ends_without_key key facts)
  where
    by : (leaves : Bool) → ending_by ends (leaving_from_if leaves slot facts.leaving) ≡ ending_by ends facts.leaving
    by true = same_ending ends facts.leaving (leaving_from_if true slot facts.leaving) refl refl refl
    by false = refl
leaves_ending setup facts ends (Disconnected reason slot) by_host =
    same_ending ends facts.leaving (facts_after setup facts (Disconnected reason slot)).leaving refl refl refl
leaves_ending setup facts ends other by_host = absurd by_host

pub step_ending : (setup : Setup) (facts : Facts) (step : Step) → IsAskedStep step → ending_of (facts_after setup facts step) ≡ ending_of facts
step_ending setup facts step by_host =
    ap (λ ends. ending_by ends (facts_after setup facts step).leaving) (host_ends setup facts step by_host)
    ∙ leaves_ending setup facts facts.control.ends step by_host
