-- The laws of exchanges, of each state of a joint run in which that goes on.
use Rattle.std.proofs.Common.{◌≡◌, ◌≤◌, ◌⊎◌, inl, inr, ℕ, zero, suc, ◌+◌, ◌==◌, Bool, true, false, not, ◌&&◌, ◌||◌, List, Option, Some, None, refl, ap, sym, ◌∙◌, subst, arith, eqb-true}
use Rattle.std.proofs.lemmas.Bool.{and_parts}
use Rattle.ble_base.specs.Limits.{first_payload_octets}
use Rattle.ble_base.specs.declared.procedure_kinds.Kind.TheVariants.{Version}
use Rattle.ble_base.specs.declared.roles.Role.{Role}
use Rattle.ble_base.specs.declared.roles.Role.TheVariants.{Central, Peripheral}
use Rattle.data_pdu.specs.declared.ctrl.Ctrl.{Ctrl}
use Rattle.instants.specs.declared.indications.Params.{Params}
use Rattle.exchange_steps.specs.procedure_values.Limits.{tx_of}
use Rattle.exchange_steps.specs.procedure_values.Wants.{count_of}
use Rattle.machines.specs.Machine.{run}
use Rattle.joint_controls.specs.table_laws.Waiting
use Rattle.exchange_steps.specs.exchange_pairs.Exchange.{ExchangeStage, Idle, Sent, Unsent, count_if, is_idle}
use Rattle.exchange_steps.specs.exchange_pairs.ExchangeLaws
use Rattle.exchange_steps.specs.exchange_pairs.ExchangeRun
use Rattle.exchange_steps.specs.exchange_pairs.ExchangeRun.{ExchangeEvent, ExchangeLink, exchanges, other_role}
use Rattle.exchange_steps.specs.exchange_pairs.LengthPart.{exchange_link}
use Rattle.exchange_steps.specs.exchange_pairs.LengthRun.{LengthLink, length_exchanges}
use Rattle.exchange_steps.specs.exchange_pairs.VersionLaws
use Rattle.exchange_steps.specs.exchange_pairs.VersionRun
use Rattle.exchange_steps.specs.exchange_pairs.VersionRun.{VersionEvent, VersionLink, versions}
use Rattle.exchange_steps.proofs.exchange_pairs.Exchanges.{idle, sent, unsent}
use Rattle.exchange_steps.proofs.exchange_pairs.LengthParts.{parts}
use Rattle.exchange_steps.proofs.exchange_pairs.LengthsFixed.{known_fixed, stays}
use Rattle.exchange_steps.proofs.exchange_pairs.LengthsKept.{transmits_within}
use Rattle.exchange_steps.proofs.exchange_pairs.Versions
use Rattle.exchange_steps.proofs.exchange_pairs.Versions.{known_then_idle, once, sent_is_coming, still_answering, unsent_waits, used_unknown}
use Rattle.joint_controls.specs.phased_control.Phased.{is_open_now, is_quiet_now}
use Rattle.joint_controls.specs.Joint.{Joint, JointStep, after_all, beginning}
use Rattle.joint_exchanges.specs.Agreement.{Asked, Features, Lengths, coming_to, end_at, first_rx_at, is_answer_of, is_first_of, is_question_of, is_version_ctrl, is_version_ind, kept_of, passes, places_of, questions_waiting, sent_from, stage_at, untaken, version_coming, version_places, version_stage_at, waiting}
use Rattle.joint_exchanges.specs.Machines.{events_of, features_event, lengths_event, lengths_link, maxima_after_all, none_sent, versions_event, versions_link}
use Rattle.joint_exchanges.specs.Moves.{Move}
use Rattle.joint_exchanges.specs.Parts.{ExchangeParts, parts_of}
use Rattle.joint_exchanges.specs.Runs.{GoesOn, moves_in}
use Rattle.joint_exchanges.proofs.CentralKeeps.{central_keeps}
use Rattle.joint_exchanges.proofs.Counting.{asked_link, asked_places, asked_waiting, version_drafts, version_kept, version_way}
use Rattle.joint_exchanges.proofs.MayDo.{idle_encrypting}
use Rattle.joint_exchanges.proofs.MachineRuns.{features_now, lengths_now, moved, none_ever, versions_now}
use Rattle.joint_exchanges.proofs.UsedVersions.{AreUsed, Await, moves_await, moves_used}

module _ (central_rx peripheral_rx : ℕ) (first : Params) (slot : ℕ) (steps : List JointStep) where
  abbrev s : Joint
  s = after_all steps (beginning central_rx peripheral_rx first slot)

  abbrev moves : List Move
  moves = moves_in steps (beginning central_rx peripheral_rx first slot)

  module _ (run_on : GoesOn steps (beginning central_rx peripheral_rx first slot)) where
    -- ---- an exchange of a question and an answer

    asked_run : (asked : Asked) → (events : List ExchangeEvent) × (asked_link asked s ≡ run exchanges events)
    asked_run Features = (events_of features_event moves, features_now central_rx peripheral_rx first slot steps run_on)
    asked_run Lengths =
        let part = parts central_rx peripheral_rx (events_of lengths_event moves) in
        (part.0, ap exchange_link (lengths_now central_rx peripheral_rx first slot steps run_on) ∙ part.1)

    stage_is : (asked : Asked) (role : Role) → (ExchangeRun.end_of role (asked_link asked s)).own ≡ stage_at asked (end_at role s)
    stage_is Features Central = refl
    stage_is Features Peripheral = refl
    stage_is Lengths Central = refl
    stage_is Lengths Peripheral = refl

    closed_is : (asked : Asked) (role : Role) → (ExchangeRun.end_of role (asked_link asked s)).closed ≡ not (is_open_now (end_at role s))
    closed_is Features Central = refl
    closed_is Features Peripheral = refl
    closed_is Lengths Central = refl
    closed_is Lengths Peripheral = refl

    not_true : (b : Bool) → not b ≡ true → b ≡ false
    not_true true is = absurd (cc)
    not_true false is = refl

    pub asked_idle : (asked : Asked) (role : Role) → stage_at asked (end_at role s) ≡ Idle → (questions_waiting asked role s ≡ 0) × (places_of asked role s ≡ 0)
    asked_idle asked role is =
        let reached = asked_run asked in
        let both = subst (λ l. (ExchangeRun.end_of role l).own ≡ Idle → (ExchangeLaws.questions_waiting role l ≡ 0) × (ExchangeLaws.places role l ≡ 0))
        (sym reached.1) (idle reached.0 role) (stage_is asked role ∙ is) in
        (sym (asked_waiting asked role s) ∙ both.0, sym (asked_places asked role s) ∙ both.1)

    pub asked_unsent : (asked : Asked) (role : Role) → stage_at asked (end_at role s) ≡ Unsent → (questions_waiting asked role s ≡ 1) × (places_of asked role s ≡ 0)
    asked_unsent asked role is =
        let reached = asked_run asked in
        let both = subst (λ l. (ExchangeRun.end_of role l).own ≡ Unsent → (ExchangeLaws.questions_waiting role l ≡ 1) × (ExchangeLaws.places role l ≡ 0))
        (sym reached.1) (unsent reached.0 role) (stage_is asked role ∙ is) in
        (sym (asked_waiting asked role s) ∙ both.0, sym (asked_places asked role s) ∙ both.1)

    pub asked_sent : (asked : Asked) (role : Role) → stage_at asked (end_at role s) ≡ Sent
        → (questions_waiting asked role s ≡ 0) × ((places_of asked role s ≡ 1) ⊎ ((places_of asked role s ≡ 0) × (is_open_now (end_at (other_role role) s) ≡ false)))
    asked_sent asked role is =
        let reached = asked_run asked in
        let both = subst (λ l. (ExchangeRun.end_of role l).own ≡ Sent → (ExchangeLaws.questions_waiting role l ≡ 0)
        × ((ExchangeLaws.places role l ≡ 1) ⊎ ((ExchangeLaws.places role l ≡ 0) × ((ExchangeRun.end_of (other_role role) l).closed ≡ true))))
        (sym reached.1) (sent reached.0 role) (stage_is asked role ∙ is) in
        (sym (asked_waiting asked role s) ∙ both.0, by both.1)
      where
        by : ((ExchangeLaws.places role (asked_link asked s) ≡ 1)
            ⊎ ((ExchangeLaws.places role (asked_link asked s) ≡ 0) × ((ExchangeRun.end_of (other_role role) (asked_link asked s)).closed ≡ true)))
            → (places_of asked role s ≡ 1) ⊎ ((places_of asked role s ≡ 0) × (is_open_now (end_at (other_role role) s) ≡ false))
        by (inl one) = inl (sym (asked_places asked role s) ∙ one)
        by (inr none) = inr (sym (asked_places asked role s) ∙ none.0, not_true _ (sym (closed_is asked (other_role role)) ∙ none.1))

    -- at most one place, and none unless the question was sent
    pub record OnePlace (asked : Asked) (role : Role) : Type 0 where
      pub one : places_of asked role s ≤ 1
      pub none : (stage_at asked (end_at role s) ≡ Sent) ⊎ (places_of asked role s ≡ 0)

    pub one_place : (asked : Asked) (role : Role) → OnePlace asked role
    one_place asked role = by (stage_at asked (end_at role s)) refl
      where
        sent_by : (stage_at asked (end_at role s) ≡ Sent) → (places_of asked role s ≡ 1) ⊎ ((places_of asked role s ≡ 0) × (is_open_now (end_at (other_role role) s) ≡ false))
            → OnePlace asked role
        sent_by is (inl one) = record { one = omega (arith, one); none = inl is }
        sent_by is (inr none) = let n = none.0 in record { one = omega (arith, n); none = inl is }

        by : (stage : ExchangeStage) → stage_at asked (end_at role s) ≡ stage → OnePlace asked role
        by Idle is = let n = (asked_idle asked role is).1 in record { one = omega (arith, n); none = inr n }
        by Unsent is = let n = (asked_unsent asked role is).1 in record { one = omega (arith, n); none = inr n }
        by Sent is = sent_by is (asked_sent asked role is).1

    same_stage : (asked : Asked) (role : Role) → 1 ≤ places_of asked role s → stage_at asked (end_at role s) ≡ Sent
    same_stage asked role some = by (one_place asked role).none
      where
        by : (stage_at asked (end_at role s) ≡ Sent) ⊎ (places_of asked role s ≡ 0) → stage_at asked (end_at role s) ≡ Sent
        by (inl is) = is
        by (inr none) = absurd (omega (arith, none, some))

    -- an answer that comes finds its question
    pub answer_meant : (asked : Asked) (role : Role) → untaken (is_answer_of asked) (coming_to role s) ≡ 1 → stage_at asked (end_at role s) ≡ Sent
    answer_meant asked role is = same_stage asked role (by role is)
      where
        by : (role : Role) → untaken (is_answer_of asked) (coming_to role s) ≡ 1 → 1 ≤ places_of asked role s
        by Central is = omega (arith, is)
        by Peripheral is = omega (arith, is)

    -- a question that comes or is kept finds no answer to an earlier one
    pub question_meant : (asked : Asked) (role : Role) → untaken (is_question_of asked) (coming_to role s) + kept_of (is_first_of asked) (other_role role) s ≡ 1
        → (waiting (is_answer_of asked) (end_at role s) ≡ 0) × (untaken (is_answer_of asked) (sent_from role s) ≡ 0)
    question_meant asked Central is = let one = (one_place asked Peripheral).one in (omega (arith, is, one), omega (arith, is, one))
    question_meant asked Peripheral is = let one = (one_place asked Central).one in (omega (arith, is, one), omega (arith, is, one))

    -- ---- the exchange of versions

    version_events : List VersionEvent
    version_events = events_of versions_event moves

    version_path : versions_link (parts_of s) ≡ run versions (events_of versions_event moves)
    version_path = versions_now central_rx peripheral_rx first slot steps run_on

    count_same : (b : Bool) → count_if b ≡ Waiting.count_if b
    count_same true = refl
    count_same false = refl

    sum_of : (a b c d e a' b' c' d' e' : ℕ) → a ≡ a' → b ≡ b' → c ≡ c' → d ≡ d' → e ≡ e' → a + b + c + d ≡ e → a' + b' + c' + d' ≡ e'
    sum_of a b c d e a' b' c' d' e' h1 h2 h3 h4 h5 is = omega (arith, h1, h2, h3, h4, h5, is)

    pub version_once : (role : Role) → version_places role s ≡ Waiting.count_if (end_at role s).control.table.version_used
    version_once Central =
        sum_of _ _ _ _ _ _ _ _ _ _
        (version_drafts s.central.control.table.queue.drafts) (version_way s.down) refl (count_same s.peripheral.knows_version) (count_same s.central.control.table.version_used)
        (subst (λ l. VersionLaws.places Central l ≡ count_if (VersionRun.end_of Central l).used) (sym version_path) (once (events_of versions_event moves) Central))
    version_once Peripheral =
        sum_of _ _ _ _ _ _ _ _ _ _
        (version_drafts s.peripheral.control.table.queue.drafts) (version_way s.up) (version_kept s.central.kept) (count_same s.central.knows_version) (count_same s.peripheral.control.table.version_used)
        (subst (λ l. VersionLaws.places Peripheral l ≡ count_if (VersionRun.end_of Peripheral l).used) (sym version_path) (once (events_of versions_event moves) Peripheral))

    pub version_known : (role : Role) → (end_at role s).knows_version ≡ true
        → (version_stage_at (end_at role s) ≡ Idle) × (count_of Version (end_at role s).control.table.wanted ≡ 0)
    version_known Central is =
        subst (λ l. VersionRun.knows Central l ≡ true → ((VersionRun.end_of Central l).own ≡ Idle) × ((VersionRun.end_of Central l).wanted ≡ 0)) (sym version_path)
        (known_then_idle (events_of versions_event moves) Central) is
    version_known Peripheral is =
        subst (λ l. VersionRun.knows Peripheral l ≡ true → ((VersionRun.end_of Peripheral l).own ≡ Idle) × ((VersionRun.end_of Peripheral l).wanted ≡ 0)) (sym version_path)
        (known_then_idle (events_of versions_event moves) Peripheral) is

    pub version_unsent : (role : Role) → version_stage_at (end_at role s) ≡ Unsent → waiting is_version_ind (end_at role s) ≡ 1
    version_unsent Central is =
        sym (version_drafts s.central.control.table.queue.drafts)
        ∙ subst (λ l. (VersionRun.end_of Central l).own ≡ Unsent → (VersionRun.end_of Central l).waiting ≡ 1) (sym version_path) (unsent_waits (events_of versions_event moves) Central) is
    version_unsent Peripheral is =
        sym (version_drafts s.peripheral.control.table.queue.drafts)
        ∙ subst (λ l. (VersionRun.end_of Peripheral l).own ≡ Unsent → (VersionRun.end_of Peripheral l).waiting ≡ 1) (sym version_path) (unsent_waits (events_of versions_event moves) Peripheral) is

    coming_by : (a b d e : Bool) (w : ℕ) → (a || b || (not (w == 0) || d || e)) ≡ true → (1 ≤ count_if a + count_if b + w + count_if d) ⊎ (e ≡ true)
    coming_by true b d e w is = inl (omega arith)
    coming_by false true d e w is = inl (omega arith)
    coming_by false false true e w is = inl (omega arith)
    coming_by false false false e zero is = inr is
    coming_by false false false e (suc w) is = inl (omega arith)

    coming_is : (role : Role) → (VersionLaws.is_coming role (versions_link (parts_of s)) ≡ true)
        → (1 ≤ version_coming role s) ⊎ (is_open_now (end_at (other_role role) s) ≡ false)
    coming_is Central is = by (coming_by _ _ _ _ _ is)
      where
        by : (1 ≤ count_if (VersionRun.is_sent_by Central (versions_link (parts_of s))) + 0 + (versions_link (parts_of s)).peripheral.waiting + count_if (VersionRun.comes_to Central (versions_link (parts_of s))))
            ⊎ (not (is_open_now s.peripheral) ≡ true) → (1 ≤ version_coming Central s) ⊎ (is_open_now s.peripheral ≡ false)
        by (inl some) = let a = version_way s.down in let w = version_drafts s.peripheral.control.table.queue.drafts in let d = version_way s.up in inl (omega (arith, some, a, w, d))
        by (inr is) = inr (not_true _ is)
    coming_is Peripheral is = by (coming_by _ _ _ _ _ is)
      where
        by : (1 ≤ count_if (VersionRun.is_sent_by Peripheral (versions_link (parts_of s))) + count_if (versions_link (parts_of s)).kept + (versions_link (parts_of s)).central.waiting + count_if (VersionRun.comes_to Peripheral (versions_link (parts_of s))))
            ⊎ (not (is_open_now s.central) ≡ true) → (1 ≤ version_coming Peripheral s) ⊎ (is_open_now s.central ≡ false)
        by (inl some) = let a = version_way s.up in let b = version_kept s.central.kept in let w = version_drafts s.central.control.table.queue.drafts in let d = version_way s.down in inl (omega (arith, some, a, b, w, d))
        by (inr is) = inr (not_true _ is)

    version_sent_parts : (role : Role) → (VersionRun.end_of role (versions_link (parts_of s))).own ≡ Sent
        → ((VersionRun.end_of role (versions_link (parts_of s))).waiting ≡ 0) × (VersionLaws.is_coming role (versions_link (parts_of s)) ≡ true)
    version_sent_parts role is =
        subst (λ l. (VersionRun.end_of role l).own ≡ Sent → ((VersionRun.end_of role l).waiting ≡ 0) × (VersionLaws.is_coming role l ≡ true)) (sym version_path)
        (sent_is_coming (events_of versions_event moves) role) is

    pub version_sent : (role : Role) → version_stage_at (end_at role s) ≡ Sent
        → (waiting is_version_ind (end_at role s) ≡ 0) × ((1 ≤ version_coming role s) ⊎ (is_open_now (end_at (other_role role) s) ≡ false))
    version_sent Central is =
        let both = version_sent_parts Central is in (sym (version_drafts s.central.control.table.queue.drafts) ∙ both.0, coming_is Central both.1)
    version_sent Peripheral is =
        let both = version_sent_parts Peripheral is in (sym (version_drafts s.peripheral.control.table.queue.drafts) ∙ both.0, coming_is Peripheral both.1)

    -- an own LL_VERSION_IND that waits or is on its way, as the machine says it
    comes_by : (w : ℕ) (b : Bool) → 1 ≤ w + count_if b → (not (w == 0) || b) ≡ true
    comes_by w b some = by (w == 0) b refl some
      where
        by : (none b : Bool) → (w == 0) ≡ none → 1 ≤ w + count_if b → (not none || b) ≡ true
        by false b is some = refl
        by true true is some = refl
        by true false is some = let h = eqb-true w 0 is in absurd (omega (arith, h, some))

    answering_by : (role : Role) → VersionRun.knows role (versions_link (parts_of s)) ≡ true
        → (not ((VersionRun.end_of role (versions_link (parts_of s))).waiting == 0) || VersionRun.is_sent_by role (versions_link (parts_of s))) ≡ true
        → ((VersionRun.end_of (other_role role) (versions_link (parts_of s))).own ≡ Sent) ⊎ ((VersionRun.end_of (other_role role) (versions_link (parts_of s))).closed ≡ true)
    answering_by role =
        subst (λ l. VersionRun.knows role l ≡ true → (not ((VersionRun.end_of role l).waiting == 0) || VersionRun.is_sent_by role l) ≡ true
        → ((VersionRun.end_of (other_role role) l).own ≡ Sent) ⊎ ((VersionRun.end_of (other_role role) l).closed ≡ true))
        (sym version_path) (still_answering (events_of versions_event moves) role)

    pub version_answers : (role : Role) → (end_at role s).knows_version ≡ true → 1 ≤ waiting is_version_ind (end_at role s) + untaken is_version_ind (sent_from role s)
        → (version_stage_at (end_at (other_role role) s) ≡ Sent) ⊎ (is_open_now (end_at (other_role role) s) ≡ false)
    version_answers Central knows some =
        by (answering_by Central knows (comes_by (versions_link (parts_of s)).central.waiting (versions_link (parts_of s)).down (let w = version_drafts s.central.control.table.queue.drafts in let a = version_way s.down in omega (arith, some, w, a))))
      where
        by : (version_stage_at s.peripheral ≡ Sent) ⊎ (not (is_open_now s.peripheral) ≡ true) → (version_stage_at s.peripheral ≡ Sent) ⊎ (is_open_now s.peripheral ≡ false)
        by (inl is) = inl is
        by (inr is) = inr (not_true _ is)
    version_answers Peripheral knows some =
        by (answering_by Peripheral knows (comes_by (versions_link (parts_of s)).peripheral.waiting (versions_link (parts_of s)).up (let w = version_drafts s.peripheral.control.table.queue.drafts in let a = version_way s.up in omega (arith, some, w, a))))
      where
        by : (version_stage_at s.central ≡ Sent) ⊎ (not (is_open_now s.central) ≡ true) → (version_stage_at s.central ≡ Sent) ⊎ (is_open_now s.central ≡ false)
        by (inl is) = inl is
        by (inr is) = inr (not_true _ is)

    await_now : Await (parts_of s)
    await_now =
        let m = moved central_rx peripheral_rx first slot steps run_on in
        subst (λ (p : ExchangeParts). Await p) (sym m.goes)
        (moves_await moves (parts_of (beginning central_rx peripheral_rx first slot)) m.may
        (record { central = λ is unknown. absurd (cc); peripheral = λ is unknown. absurd (cc) }))

    pub version_used_for : (role : Role) → (end_at role s).control.table.version_used ≡ true → (end_at role s).knows_version ≡ false
        → is_idle (version_stage_at (end_at role s)) ≡ false
    version_used_for Central used unknown = await_now.central used unknown
    version_used_for Peripheral used unknown = await_now.peripheral used unknown

    -- while an own exchange runs, and once the other's version is known, the own PDU was queued
    used_now : AreUsed (parts_of s)
    used_now =
        let m = moved central_rx peripheral_rx first slot steps run_on in
        subst (λ (p : ExchangeParts). AreUsed p) (sym m.goes)
        (moves_used moves (parts_of (beginning central_rx peripheral_rx first slot)) m.may (record { central = λ is. absurd (cc); peripheral = λ is. absurd (cc) }))

    pub version_running : (role : Role) → is_idle (version_stage_at (end_at role s)) ≡ false → (end_at role s).control.table.version_used ≡ true
    version_running Central is = used_now.central is
    version_running Peripheral is = used_now.peripheral is

    known_by : (role : Role) → VersionLaws.is_used_right role (versions_link (parts_of s)) ≡ true
    known_by role = subst (λ l. VersionLaws.is_used_right role l ≡ true) (sym version_path) (Versions.parts (events_of versions_event moves) role).used

    used_if : (knows used opens : Bool) → VersionLaws.implies knows (used || not opens) ≡ true → knows ≡ true → opens ≡ true → used ≡ true
    used_if true true opens is k o = refl
    used_if true false true is k o = absurd (cc)
    used_if true false false is k o = absurd (cc)
    used_if false used opens is k o = absurd (cc)

    pub version_known_used : (role : Role) → (end_at role s).knows_version ≡ true → is_open_now (end_at role s) ≡ true → (end_at role s).control.table.version_used ≡ true
    version_known_used Central knows opens =
        used_if _ _ (is_open_now s.central) (and_parts (VersionLaws.implies (s.central.control.table.version_used && not s.central.knows_version) _) _ (known_by Central)).1 knows opens
    version_known_used Peripheral knows opens =
        used_if _ _ (is_open_now s.peripheral) (and_parts (VersionLaws.implies (s.peripheral.control.table.version_used && not s.peripheral.knows_version) _) _ (known_by Peripheral)).1 knows opens

    one_count : (b : Bool) → Waiting.count_if b ≤ 1
    one_count true = omega arith
    one_count false = omega arith

    zero_count : (b : Bool) → Waiting.count_if b ≡ 0 → b ≡ false
    zero_count true is = absurd (cc)
    zero_count false is = refl

    -- where one comes to an end, or is kept, that has taken none
    pub version_taken : (role : Role) → untaken is_version_ind (coming_to role s) + kept_of is_version_ctrl (other_role role) s ≡ 1 → (end_at role s).knows_version ≡ false
    version_taken Central is =
        let sum = version_once Peripheral in let most = one_count s.peripheral.control.table.version_used in zero_count s.central.knows_version (omega (arith, is, sum, most))
    version_taken Peripheral is =
        let sum = version_once Central in let most = one_count s.central.control.table.version_used in zero_count s.peripheral.knows_version (omega (arith, is, sum, most))

    -- a central that keeps LL_VERSION_IND has not queued its own
    some_kept : (kept : Option Ctrl) → Waiting.count_if (passes is_version_ctrl kept) ≡ 1 → kept ≡ None → ⊥
    some_kept None is none = absurd (cc)
    some_kept (Some ctrl) is none = cc

    not_quiet : (b : Bool) → (b ≡ true → ⊥) → b ≡ false
    not_quiet true is = absurd (is refl)
    not_quiet false is = refl

    pub version_kept_unused : kept_of is_version_ctrl Peripheral s ≡ 1 → s.central.control.table.version_used ≡ false
    version_kept_unused kept =
        let keeps = central_keeps central_rx peripheral_rx first slot steps in
        let idle : is_idle (version_stage_at s.central) ≡ true =
        idle_encrypting s.central (keeps.encrypts (not_quiet (is_quiet_now s.central) (λ quiet. some_kept s.central.kept kept (keeps.quiet quiet)))) in
        let sum = version_once Peripheral in
        let most = one_count s.peripheral.control.table.version_used in
        let unknown : s.central.knows_version ≡ false = zero_count s.central.knows_version (omega (arith, kept, sum, most)) in
        by s.central.control.table.version_used (λ used. version_used_for Central used unknown) idle
      where
        by : (used : Bool) → (used ≡ true → is_idle (version_stage_at s.central) ≡ false) → is_idle (version_stage_at s.central) ≡ true → used ≡ false
        by true is idle = absurd (let h = is refl in cc)
        by false is idle = refl

    -- and the peripheral runs an exchange of versions
    pub version_kept_runs : kept_of is_version_ctrl Peripheral s ≡ 1 → is_idle (version_stage_at s.peripheral) ≡ false
    version_kept_runs kept =
        version_used_for Peripheral (one_used s.peripheral.control.table.version_used (let sum = version_once Peripheral in omega (arith, sum, kept)))
        (zero_count s.peripheral.knows_version (let sum = version_once Central in let none = ap (λ b. Waiting.count_if b) (version_kept_unused kept) in omega (arith, sum, none)))
      where
        one_used : (b : Bool) → 1 ≤ Waiting.count_if b → b ≡ true
        one_used true is = refl
        one_used false is = absurd (omega (arith, is))

    -- ---- the exchange of lengths

    length_path : lengths_link (maxima_after_all moves none_sent) (parts_of s) ≡ run (length_exchanges central_rx peripheral_rx) (events_of lengths_event moves)
    length_path = lengths_now central_rx peripheral_rx first slot steps run_on

    pub length_stays : (role : Role) → (end_at role s).control.table.lengths.own_rx ≡ first_rx_at role central_rx peripheral_rx
    length_stays Central = ap (λ (l : LengthLink). l.central.lengths.own_rx) length_path ∙ stays central_rx peripheral_rx (events_of lengths_event moves) Central (none_ever moves)
    length_stays Peripheral = ap (λ (l : LengthLink). l.peripheral.lengths.own_rx) length_path ∙ stays central_rx peripheral_rx (events_of lengths_event moves) Peripheral (none_ever moves)

    module _ (central_least : first_payload_octets ≤ central_rx) (peripheral_least : first_payload_octets ≤ peripheral_rx) where
      pub length_known : (role : Role) → ((end_at (other_role role) s).control.table.lengths.peer_rx ≡ first_payload_octets)
          ⊎ ((end_at (other_role role) s).control.table.lengths.peer_rx ≡ first_rx_at role central_rx peripheral_rx)
      length_known Central =
          subst (λ (l : LengthLink). (l.peripheral.lengths.peer_rx ≡ first_payload_octets) ⊎ (l.peripheral.lengths.peer_rx ≡ central_rx)) (sym length_path)
          (known_fixed central_rx peripheral_rx (events_of lengths_event moves) Central (none_ever moves) central_least peripheral_least)
      length_known Peripheral =
          subst (λ (l : LengthLink). (l.central.lengths.peer_rx ≡ first_payload_octets) ⊎ (l.central.lengths.peer_rx ≡ peripheral_rx)) (sym length_path)
          (known_fixed central_rx peripheral_rx (events_of lengths_event moves) Peripheral (none_ever moves) central_least peripheral_least)

      pub length_transmits : (role : Role) → tx_of (end_at (other_role role) s).control.table.lengths ≤ first_rx_at role central_rx peripheral_rx
      length_transmits Central =
          let within = subst (λ (l : LengthLink). tx_of l.peripheral.lengths ≤ l.central.lengths.own_rx) (sym length_path)
          (transmits_within central_rx peripheral_rx (events_of lengths_event moves) Central central_least peripheral_least) in
          let same = length_stays Central in omega (arith, within, same)
      length_transmits Peripheral =
          let within = subst (λ (l : LengthLink). tx_of l.central.lengths ≤ l.peripheral.lengths.own_rx) (sym length_path)
          (transmits_within central_rx peripheral_rx (events_of lengths_event moves) Peripheral central_least peripheral_least) in
          let same = length_stays Peripheral in omega (arith, within, same)
