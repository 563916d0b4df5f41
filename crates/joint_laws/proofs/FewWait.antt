-- At most ten control PDUs wait at an end of a joint run.
use Rattle.std.proofs.Common.{◌≡◌, ◌≤◌, ℕ, ◌+◌, Bool, true, false, List, [], ◌∷◌, if◌then◌else◌, length, Option, Some, None, is_some, refl, ap, sym, subst, ◌∙◌, arith}
use Rattle.std.specs.List.{AllByRecursion}
use Rattle.ble_base.specs.declared.roles.Role.{Role}
use Rattle.ble_base.specs.declared.roles.Role.TheVariants.{Central, Peripheral}
use Rattle.exclusive_stages.specs.declared.pdus.Pdu.{Pdu}
use Rattle.instants.specs.declared.indications.Params.{Params}
use Rattle.machines.specs.Machine.{run}
use Rattle.joint_parameters.specs.procedure_values.declared.drafts.Draft.{Draft}
use Rattle.joint_parameters.specs.procedure_values.declared.drafts.Draft.TheVariants.{Update}
use Rattle.joint_parameters.specs.procedure_values.declared.drafts.Rejection.{Rejection as TheRejection}
use Rattle.joint_parameters.specs.procedure_stages.declared.stages.Progress.{Progress}
use Rattle.joint_parameters.specs.procedure_stages.declared.stages.Progress.TheVariants.{Central as central, Peripheral as peripheral}
use Rattle.joint_parameters.specs.procedure_stages.Exclusive.{pdu_of_draft}
use Rattle.joint_parameters.specs.procedure_stages.Kinds.{role_of}
use Rattle.joint_parameters.specs.procedure_stages.Queue.{count_of_disconnect, waiting_in}
use Rattle.joint_parameters.specs.procedure_stages.Closing.{is_open}
use Rattle.ble_base.specs.declared.error_codes.ErrCode.{ErrCode}
use Rattle.joint_parameters.specs.table_laws.Waiting.{count_if, number_of}
use Rattle.collisions.specs.declared.joint.Link.{Link}
use Rattle.collisions.specs.JointRun.{collisions}
use Rattle.collisions.proofs.Collisions.{few_wait}
use Rattle.collisions.proofs.Gaps.{is_run}
use Rattle.joint_collisions.specs.collision_steps.CentralPart
use Rattle.joint_collisions.specs.collision_steps.Parts.{drafts_part, rejection_part, rejections_part, with_part}
use Rattle.joint_collisions.specs.collision_steps.PeripheralPart
use Rattle.joint_phases.specs.phase_pairs.declared.joint.PhaseEvent.{PhaseEvent}
use Rattle.joint_phases.specs.phase_pairs.Agreement.{is_encryption, waiting_pdu}
use Rattle.joint_phases.specs.phase_pairs.JointRun.{encryption}
use Rattle.joint_parameters.specs.enc_phase.declared.classes.PduClass.{PduClass}
use Rattle.joint_parameters.specs.phased_control.Phased.{Phased}
use Rattle.joint_parameters.specs.joint_controls.Joint.{Joint, JointStep, after_all, beginning}
use Rattle.joint_collisions.specs.Views.{IsReached, View, numbered_of, view_of}
use Rattle.joint_exchanges.specs.Agreement.{Features, Lengths, end_at, waiting}
use Rattle.joint_exchanges.specs.Runs.{AllBefore, GoesOn}
use Rattle.joint_exchanges.specs.SentByRole.{AreOfRoles, HaveMeaning, is_rejection_of}
use Rattle.joint_exchanges.specs.Waiting.{disconnects_waiting, is_cipher, is_exclusive, rejections_waiting}
use Rattle.joint_exchanges.proofs.Few.{exchange_few, meant_roles, none_rejects, unknown_none, version_few, waiting_sum}
use Rattle.joint_phases.specs.Classes.{draft_down}
use Rattle.joint_phases.specs.Facts.{drafts_of}
use Rattle.joint_phases.specs.Parts.{IsShown}
use Rattle.joint_phases.specs.Pairs.{encryption_waiting}
use Rattle.joint_laws.proofs.CiphersWait.{ciphers_down, ciphers_up, some_least}
use Rattle.joint_laws.proofs.ExclusiveFactsHold.{rejection_some}
use Rattle.joint_laws.proofs.WaitsDown.{waits_down}

-- ---- of the procedures that exclude each other

exclusive_is : (draft : Draft) → is_exclusive draft ≡ is_some (pdu_of_draft draft)
exclusive_is (Update params) = refl
exclusive_is draft = refl

part_length : (part : Option Pdu) (pdus : List Pdu) → length (with_part part pdus) ≡ count_if (is_some part) + length pdus
part_length None pdus = omega arith
part_length (Some pdu) pdus = omega arith

exclusive_waiting : (drafts : List Draft) → number_of is_exclusive drafts ≡ length (drafts_part drafts)
exclusive_waiting [] = refl
exclusive_waiting (draft ∷ drafts) =
    let more = exclusive_waiting drafts in
    let one : count_if (is_exclusive draft) ≡ count_if (is_some (pdu_of_draft draft)) = ap count_if (exclusive_is draft) in
    let all = part_length (pdu_of_draft draft) (drafts_part drafts) in omega (arith, more, one, all)

rejections_length : (rejections : List TheRejection) → AllByRecursion (λ rejection. is_rejection_of Central rejection ≡ true) rejections
    → length rejections ≡ length (rejections_part rejections)
rejections_length [] all = refl
rejections_length (rejection ∷ rejections) all =
    let more = rejections_length rejections all.1 in
    let one : count_if (is_some (rejection_part rejection)) ≡ 1 = ap count_if (rejection_some rejection all.0) in
    let both = part_length (rejection_part rejection) (rejections_part rejections) in omega (arith, more, one, both)

record FewExclusive (v : View) : Type 0 where
  rejections : length v.central.rejections.items ≤ 1
  central : length v.central.queue.items ≤ 1
  peripheral : length v.peripheral.queue.items ≤ 2

few_exclusive : (v : View) → IsReached v → FewExclusive v
few_exclusive v reached =
    let events = is_run reached.moves in
    let few = few_wait events.0 in
    let link : (numbered_of v reached.central_at reached.peripheral_at reached.earlier).link ≡ run collisions events.0 = sym (λ i. (reached.is i).link) ∙ events.1 in
    record {
      rejections = subst (λ (s : Link). length s.central.rejections.items ≤ 1) (sym link) few.0;
      central = subst (λ (s : Link). length s.central.queue.items ≤ 1) (sym link) few.1;
      peripheral = subst (λ (s : Link). length s.peripheral.queue.items ≤ 2) (sym link) few.2;
    }

central_items : (p : Progress) (is_open : Bool) (rejections : List TheRejection) (drafts : List Draft) → role_of p ≡ Central
    → (length (CentralPart.view p is_open rejections drafts).rejections.items ≡ length (rejections_part rejections))
    × (length (CentralPart.view p is_open rejections drafts).queue.items ≡ length (drafts_part drafts))
central_items (central c) is_open rejections drafts role = (refl, refl)
central_items (peripheral p) is_open rejections drafts role = absurd (cc)

peripheral_items : (p : Progress) (is_open : Bool) (drafts : List Draft) → role_of p ≡ Peripheral
    → length (PeripheralPart.view p is_open drafts).queue.items ≡ length (drafts_part drafts)
peripheral_items (central c) is_open drafts role = absurd (cc)
peripheral_items (peripheral p) is_open drafts role = refl

-- ---- of the encryption

one_queued : (queued : Option PduClass) → length (waiting_pdu queued) ≤ 1
one_queued None = omega arith
one_queued (Some pdu) = by (is_encryption pdu)
  where
    by : (b : Bool) → length (if b then pdu ∷ [] else []) ≤ 1
    by true = omega arith
    by false = omega arith

disconnect_few : (t : Phased) → disconnects_waiting t ≤ 1
disconnect_few t = by t.control.table.queue.disconnect
  where
    by : (disconnect : Option ErrCode) → count_of_disconnect disconnect ≤ 1
    by None = omega arith
    by (Some code) = omega arith

-- ---- in a joint run

module _ (central_rx peripheral_rx : ℕ) (first : Params) (slot : ℕ) (steps : List JointStep) where
  abbrev start : Joint
  start = beginning central_rx peripheral_rx first slot

  abbrev s : Joint
  s = after_all steps start

  module _ (run_on : GoesOn steps start) (meant : AllBefore HaveMeaning steps start) (reached : IsReached (view_of s)) (events : List PhaseEvent)
      (shown : IsShown s (run encryption events)) where
    roles : AreOfRoles false s
    roles = meant_roles central_rx peripheral_rx first slot steps run_on meant

    few : FewExclusive (view_of s)
    few = few_exclusive (view_of s) reached

    central_parts : (length (view_of s).central.rejections.items ≡ length (rejections_part s.central.control.table.queue.rejections))
        × (length (view_of s).central.queue.items ≡ length (drafts_part (drafts_of s.central)))
    central_parts = central_items s.central.control.table.progress _ s.central.control.table.queue.rejections (drafts_of s.central) roles.central.table.same_role

    few_rejected : rejections_waiting s.central ≤ 1
    few_rejected =
        let all = rejections_length s.central.control.table.queue.rejections roles.central.table.rejections in
        let part = central_parts.0 in
        let less = few.rejections in omega (arith, all, part, less)

    exclusive_central : waiting is_exclusive s.central ≤ 1
    exclusive_central =
        let all = exclusive_waiting (drafts_of s.central) in
        let part = central_parts.1 in
        let less = few.central in omega (arith, all, part, less)

    exclusive_peripheral : waiting is_exclusive s.peripheral ≤ 2
    exclusive_peripheral =
        let all = exclusive_waiting (drafts_of s.peripheral) in
        let part = peripheral_items s.peripheral.control.table.progress (is_open s.peripheral.control.table.closing) (drafts_of s.peripheral) roles.peripheral.table.same_role in
        let less = few.peripheral in omega (arith, all, part, less)

    cipher_central : waiting is_cipher s.central ≤ 1
    cipher_central =
        let all = ciphers_down s.central.knows_version (drafts_of s.central) roles.central.table.drafts in
        let same : length (encryption_waiting (draft_down s.central.knows_version) (drafts_of s.central)) ≡ length (waiting_pdu (run encryption events).central.queued) =
        ap (λ pdus. length pdus) (waits_down (draft_down s.central.knows_version) (run encryption events).central.phase (drafts_of s.central) (run encryption events).central.queued shown.central.waits) in
        let most = one_queued (run encryption events).central.queued in omega (arith, all, same, most)

    cipher_peripheral : waiting is_cipher s.peripheral ≤ 2
    cipher_peripheral =
        let all = ciphers_up s.peripheral.knows_version (drafts_of s.peripheral) (run encryption events).peripheral roles.peripheral.table.drafts shown.peripheral.waits in
        let one = some_least (run encryption events).peripheral.first in
        let two = some_least (run encryption events).peripheral.second in omega (arith, all, one, two)

    pub few_control_pdus : (role : Role) → waiting_in (end_at role s).control.table.queue ≤ 10
    few_control_pdus Central =
        let sum = waiting_sum s.central in
        let f = exchange_few central_rx peripheral_rx first slot steps run_on Features Central in
        let l = exchange_few central_rx peripheral_rx first slot steps run_on Lengths Central in
        let v = version_few central_rx peripheral_rx first slot steps run_on Central in
        let d = disconnect_few s.central in
        let u = unknown_none central_rx peripheral_rx first slot steps run_on meant Central in
        let r = few_rejected in
        let e = exclusive_central in
        let c = cipher_central in
        omega (arith, sum, f, l, v, d, u, r, e, c)
    few_control_pdus Peripheral =
        let sum = waiting_sum s.peripheral in
        let f = exchange_few central_rx peripheral_rx first slot steps run_on Features Peripheral in
        let l = exchange_few central_rx peripheral_rx first slot steps run_on Lengths Peripheral in
        let v = version_few central_rx peripheral_rx first slot steps run_on Peripheral in
        let d = disconnect_few s.peripheral in
        let u = unknown_none central_rx peripheral_rx first slot steps run_on meant Peripheral in
        let r = none_rejects central_rx peripheral_rx first slot steps run_on in
        let e = exclusive_peripheral in
        let c = cipher_peripheral in
        omega (arith, sum, f, l, v, d, u, r, e, c)
