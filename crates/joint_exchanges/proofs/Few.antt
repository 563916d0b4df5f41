-- The control PDUs that wait are those of the kinds of procedures, and few of the exchanges wait.
use Rattle.std.proofs.Common.{◌≡◌, ap, ◌≤◌, ◌<◌, ℕ, ◌+◌, Bool, true, false, Option, Some, None, List, [], ◌∷◌, length, refl, arith}
use Rattle.ble_base.specs.declared.error_codes.ErrCode.{ErrCode}
use Rattle.ble_base.specs.declared.roles.Role.{Role}
use Rattle.ble_base.specs.declared.roles.Role.TheVariants.{Central, Peripheral}
use Rattle.instants.specs.declared.indications.Params.{Params}
use Rattle.exchange_steps.specs.procedure_values.declared.drafts.Draft.{Draft}
use Rattle.exchange_steps.specs.procedure_values.declared.drafts.Draft.TheVariants.{Cipher, FeatureReq, FeatureRsp, Grant, LengthReq, LengthRsp, Map, PeripheralFeatureReq, PhyInd, PhyReq, PhyRsp, Request, UnknownRsp, Update, VersionInd}
use Rattle.exchange_steps.specs.procedure_values.declared.drafts.Rejection.{Rejection as TheRejection}
use Rattle.exchange_steps.specs.procedure_stages.Queue.{count_of_disconnect, waiting_in}
use Rattle.joint_controls.specs.table_laws.Waiting.{number_of}
use Rattle.joint_controls.specs.table_laws.Waiting
use Rattle.joint_controls.specs.phased_control.Phased.{Phased}
use Rattle.exchange_steps.specs.exchange_pairs.Exchange.{ExchangeStage, Idle, Sent, Unsent}
use Rattle.joint_controls.specs.Joint.{Joint, JointStep, after, after_all, beginning}
use Rattle.joint_exchanges.specs.Agreement.{Asked, Features, Lengths, end_at, is_answer_of, is_question_of, is_version_ind, questions_waiting, stage_at, waiting}
use Rattle.joint_exchanges.specs.Runs.{AllBefore, GoesOn}
use Rattle.joint_exchanges.specs.SentByRole.{AreOfRoles, HaveMeaning, is_draft_of}
use Rattle.joint_exchanges.specs.Waiting.{disconnects_waiting, exchange_waiting, is_cipher, is_exclusive, is_unknown_rsp, kinds_waiting, rejections_waiting}
use Rattle.joint_exchanges.proofs.JointRuns.{first_roles, run_roles}
use Rattle.joint_exchanges.proofs.TableRoles.{AreDrafts, AreRejections}
use Rattle.joint_exchanges.proofs.States.{asked_idle, asked_sent, asked_unsent, one_place, version_once}

-- ---- the sum

abbrev sum : List Draft → ℕ
sum drafts =
    number_of is_exclusive drafts + (number_of (is_question_of Features) drafts + number_of (is_answer_of Features) drafts)
    + (number_of (is_question_of Lengths) drafts + number_of (is_answer_of Lengths) drafts) + number_of is_version_ind drafts
    + number_of is_unknown_rsp drafts + number_of is_cipher drafts

drafts_sum : (drafts : List Draft) → length drafts ≡ sum drafts
drafts_sum [] = refl
drafts_sum (draft ∷ rest) = by draft (drafts_sum rest)
  where
    by : (draft : Draft) → length rest ≡ sum rest → length (draft ∷ rest) ≡ sum (draft ∷ rest)
    by (Update params) h = omega (arith, h)
    by (Grant params) h = omega (arith, h)
    by (Map map) h = omega (arith, h)
    by (Request min max latency timeout) h = omega (arith, h)
    by PhyReq h = omega (arith, h)
    by PhyRsp h = omega (arith, h)
    by PhyInd h = omega (arith, h)
    by FeatureReq h = omega (arith, h)
    by PeripheralFeatureReq h = omega (arith, h)
    by FeatureRsp h = omega (arith, h)
    by VersionInd h = omega (arith, h)
    by (LengthReq rx tx) h = omega (arith, h)
    by (LengthRsp rx tx) h = omega (arith, h)
    by (UnknownRsp opcode) h = omega (arith, h)
    by (Cipher ctrl) h = omega (arith, h)

pub waiting_sum : (s : Phased) → waiting_in s.control.table.queue ≡ kinds_waiting s
waiting_sum s = let h = drafts_sum s.control.table.queue.drafts in omega (arith, h)

-- where no LL_UNKNOWN_RSP may be among what waits, none is
unknown_by : (role : Role) (draft : Draft) → is_draft_of false role draft ≡ true → is_unknown_rsp draft ≡ false
unknown_by Central (UnknownRsp opcode) is = absurd (cc)
unknown_by Peripheral (UnknownRsp opcode) is = absurd (cc)
unknown_by role draft is = refl

none_unknown : (role : Role) (drafts : List Draft) → AreDrafts false role drafts → number_of is_unknown_rsp drafts ≡ 0
none_unknown role [] all = refl
none_unknown role (draft ∷ rest) all =
    let h = none_unknown role rest all.1 in
    let none : Waiting.count_if (is_unknown_rsp draft) ≡ 0 = ap (λ b. Waiting.count_if b) (unknown_by role draft all.0) in omega (arith, h, none)

-- a peripheral rejects nothing
none_rejected : (rejections : List TheRejection) → AreRejections Peripheral rejections → length rejections ≡ 0
none_rejected [] all = refl
none_rejected (rejection ∷ rest) all = absurd (let h = all.0 in cc)

-- ---- few wait

module _ (central_rx peripheral_rx : ℕ) (first : Params) (slot : ℕ) (steps : List JointStep)
    (run_on : GoesOn steps (beginning central_rx peripheral_rx first slot)) where
  abbrev s : Joint
  s = after_all steps (beginning central_rx peripheral_rx first slot)

  question_few : (asked : Asked) (role : Role) → questions_waiting asked role s ≤ 1
  question_few asked role = by (stage_at asked (end_at role s)) refl
    where
      by : (stage : ExchangeStage) → stage_at asked (end_at role s) ≡ stage → questions_waiting asked role s ≤ 1
      by Idle is = let h = (asked_idle central_rx peripheral_rx first slot steps run_on asked role is).0 in omega (arith, h)
      by Unsent is = let h = (asked_unsent central_rx peripheral_rx first slot steps run_on asked role is).0 in omega (arith, h)
      by Sent is = let h = (asked_sent central_rx peripheral_rx first slot steps run_on asked role is).0 in omega (arith, h)

  pub exchange_few : (asked : Asked) (role : Role) → exchange_waiting asked (end_at role s) ≤ 2
  exchange_few asked Central =
      let q = question_few asked Central in
      let a = (one_place central_rx peripheral_rx first slot steps run_on asked Peripheral).one in
      omega (arith, q, a)
  exchange_few asked Peripheral =
      let q = question_few asked Peripheral in
      let a = (one_place central_rx peripheral_rx first slot steps run_on asked Central).one in
      omega (arith, q, a)

  one_count : (b : Bool) → Waiting.count_if b ≤ 1
  one_count true = omega arith
  one_count false = omega arith

  pub version_few : (role : Role) → waiting is_version_ind (end_at role s) ≤ 1
  version_few role =
      let sum = version_once central_rx peripheral_rx first slot steps run_on role in
      let most = one_count (end_at role s).control.table.version_used in
      omega (arith, sum, most)

  disconnect_few : (t : Phased) → disconnects_waiting t ≤ 1
  disconnect_few t = by t.control.table.queue.disconnect
    where
      by : (disconnect : Option ErrCode) → count_of_disconnect disconnect ≤ 1
      by None = omega arith
      by (Some code) = omega arith

  always_means : (steps : List JointStep) (t : Joint) → AllBefore HaveMeaning steps t → AllBefore (λ x. false ≡ false → HaveMeaning x) steps t
  always_means [] t all = tt
  always_means (step ∷ more) t all = (λ goes same. all.0 goes, always_means more (after step t) all.1)

  never_asked : (steps : List JointStep) (t : Joint) → AllBefore (λ x. true ≡ false → HaveMeaning x) steps t
  never_asked [] t = tt
  never_asked (step ∷ more) t = (λ goes is. absurd (cc), never_asked more (after step t))

  pub all_roles : AreOfRoles true s
  all_roles =
      run_roles true steps (beginning central_rx peripheral_rx first slot) (first_roles true central_rx peripheral_rx first slot)
      (never_asked steps (beginning central_rx peripheral_rx first slot)) run_on

  pub meant_roles : AllBefore HaveMeaning steps (beginning central_rx peripheral_rx first slot) → AreOfRoles false s
  meant_roles means =
      run_roles false steps (beginning central_rx peripheral_rx first slot) (first_roles false central_rx peripheral_rx first slot)
      (always_means steps (beginning central_rx peripheral_rx first slot) means) run_on

  -- no LL_UNKNOWN_RSP, where all that came had a meaning
  pub unknown_none : AllBefore HaveMeaning steps (beginning central_rx peripheral_rx first slot) → (role : Role) → waiting is_unknown_rsp (end_at role s) ≡ 0
  unknown_none means Central = none_unknown Central s.central.control.table.queue.drafts (meant_roles means).central.table.drafts
  unknown_none means Peripheral = none_unknown Peripheral s.peripheral.control.table.queue.drafts (meant_roles means).peripheral.table.drafts

  pub all_few : (role : Role) → AllBefore HaveMeaning steps (beginning central_rx peripheral_rx first slot) → rejections_waiting (end_at role s) ≤ 1
      → waiting is_exclusive (end_at role s) ≤ 2 → waiting is_cipher (end_at role s) ≤ 3 → waiting_in (end_at role s).control.table.queue < 16
  all_few role means rejections exclusive cipher =
      let h = waiting_sum (end_at role s) in
      let f = exchange_few Features role in
      let l = exchange_few Lengths role in
      let v = version_few role in
      let d = disconnect_few (end_at role s) in
      let u = unknown_none means role in
      omega (arith, rejections, exclusive, u, cipher, h, f, l, v, d)

  pub none_rejects : rejections_waiting s.peripheral ≡ 0
  none_rejects = none_rejected s.peripheral.control.table.queue.rejections all_roles.peripheral.table.rejections
