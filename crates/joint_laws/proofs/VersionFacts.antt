-- What the machine of phases asks of the exchange of versions, in each state of a joint run in which that goes on.
use Rattle.std.proofs.Common.{◌≡◌, ◌≤◌, ℕ, ◌+◌, Bool, true, false, not, ◌||◌, List, Option, Some, refl, ap, sym, ◌∙◌, arith}
use Rattle.ble_base.specs.declared.roles.Role.{Role}
use Rattle.ble_base.specs.declared.roles.Role.TheVariants.{Central, Peripheral}
use Rattle.instants.specs.declared.indications.Params.{Params}
use Rattle.joint_parameters.specs.procedure_stages.declared.stages.Exchange.{Exchange}
use Rattle.joint_parameters.specs.procedure_stages.declared.stages.Exchange.TheVariants.{VersionSent}
use Rattle.joint_parameters.specs.procedure_stages.Kinds.{own_exchange}
use Rattle.joint_parameters.specs.table_laws.Waiting.{count_if}
use Rattle.joint_exchanges.specs.exchange_pairs.Exchange.{Sent, is_idle}
use Rattle.joint_exchanges.specs.exchange_steps.Ends.{version_stage}
use Rattle.joint_parameters.specs.joint_controls.Joint.{Joint, JointStep, Way, Clear, Fixed, OnAir, Taken, after_all, beginning, is_fixed, is_item, item_on_air}
use Rattle.joint_parameters.proofs.joint_controls.LastPdus.{first_tied, tied}
use Rattle.joint_exchanges.specs.Agreement.{coming_to, end_at, is_version_ind, kept_of, passes, sent_from, untaken, version_stage_at, waiting}
use Rattle.joint_exchanges.specs.Agreement
use Rattle.joint_exchanges.specs.Runs.{GoesOn}
use Rattle.joint_exchanges.specs.SentByRole.{AreOfRoles}
use Rattle.joint_exchanges.proofs.Few.{all_roles}
use Rattle.joint_exchanges.proofs.States.{version_kept_unused, version_known_used, version_once, version_running, version_sent, version_used_for}
use Rattle.joint_phases.specs.Classes.{has_version, is_version}
use Rattle.joint_phases.specs.Facts.{drafts_of, is_version_coming, is_version_kept, is_version_sent}
use Rattle.joint_parameters.specs.phased_control.Phased.{is_open_now}
use Rattle.joint_laws.proofs.VersionPdus.{count_none, count_some, kept_same, queue_none, queue_some, way_same}

-- what was sent and not taken is fixed or on the air
air_none : (way : Way) → is_version_coming way ≡ false → is_item is_version (item_on_air way) ≡ false
air_none Clear none = refl
air_none (Fixed item sealed) none = refl
air_none (OnAir item sealed) none = none
air_none (Taken item) none = refl

air_some : (way : Way) → is_fixed way ≡ false → is_version_coming way ≡ true → is_item is_version (item_on_air way) ≡ true
air_some Clear not_fixed some = absurd (cc)
air_some (Fixed item sealed) not_fixed some = absurd (cc)
air_some (OnAir item sealed) not_fixed some = some
air_some (Taken item) not_fixed some = absurd (cc)

stage_sent : (own : Option Exchange) → is_version_sent own ≡ true → version_stage own ≡ Sent
stage_sent (Some VersionSent) is = refl
stage_sent other is = absurd (cc)

count_at : (b c : Bool) → b ≡ c → count_if b ≡ count_if c
count_at b c is = ap count_if is

most_one : (b : Bool) → count_if b ≤ 1
most_one true = omega arith
most_one false = omega arith

or_first : (a b c : Bool) → a ≡ true → (a || (b || c)) ≡ true
or_first a b c is = rw is refl

or_second : (a b c : Bool) → b ≡ true → (a || (b || c)) ≡ true
or_second true b c is = refl
or_second false b c is = rw is refl

or_third : (a b c : Bool) → c ≡ true → (a || (b || c)) ≡ true
or_third true b c is = refl
or_third false true c is = refl
or_third false false c is = is

module _ (central_rx peripheral_rx : ℕ) (first : Params) (slot : ℕ) (steps : List JointStep) where
  abbrev s : Joint
  s = after_all steps (beginning central_rx peripheral_rx first slot)

  module _ (run_on : GoesOn steps (beginning central_rx peripheral_rx first slot)) where
    roles : AreOfRoles true s
    roles = all_roles central_rx peripheral_rx first slot steps run_on

    -- the places of the central's LL_VERSION_IND, and those of the peripheral's
    down_places : waiting is_version_ind s.central + untaken is_version_ind s.down + 0 + count_if s.peripheral.knows_version ≡ count_if s.central.control.table.version_used
    down_places = version_once central_rx peripheral_rx first slot steps run_on Central

    up_places : waiting is_version_ind s.peripheral + untaken is_version_ind s.up + count_if (passes Agreement.is_version_ctrl s.central.kept) + count_if s.central.knows_version
        ≡ count_if s.peripheral.control.table.version_used
    up_places = version_once central_rx peripheral_rx first slot steps run_on Peripheral

    pub known_down : s.peripheral.knows_version ≡ true → is_item is_version (item_on_air s.down) ≡ false
    known_down knows =
        let all = down_places in
        let most = most_one s.central.control.table.version_used in
        let one : count_if s.peripheral.knows_version ≡ 1 = ap count_if knows in
        let same = way_same Central s.down roles.down in
        air_none s.down (count_none (is_version_coming s.down) (omega (arith, all, most, one, same)))

    pub known_up : s.central.knows_version ≡ true → s.peripheral.control.table.version_used ≡ true
    known_up knows =
        let all = up_places in
        let one : count_if s.central.knows_version ≡ 1 = ap count_if knows in
        count_some s.peripheral.control.table.version_used (omega (arith, all, one))

    pub known_queue : s.central.knows_version ≡ true → has_version (drafts_of s.peripheral) ≡ false
    known_queue knows =
        let all = up_places in
        let most = most_one s.peripheral.control.table.version_used in
        let one : count_if s.central.knows_version ≡ 1 = ap count_if knows in
        queue_none Peripheral (drafts_of s.peripheral) roles.peripheral.table.drafts (omega (arith, all, most, one))

    pub known_way : s.central.knows_version ≡ true → is_version_coming s.up ≡ false
    known_way knows =
        let all = up_places in
        let most = most_one s.peripheral.control.table.version_used in
        let one : count_if s.central.knows_version ≡ 1 = ap count_if knows in
        let same = way_same Peripheral s.up roles.up in
        count_none (is_version_coming s.up) (omega (arith, all, most, one, same))

    pub unused_queue : s.peripheral.control.table.version_used ≡ false → has_version (drafts_of s.peripheral) ≡ false
    unused_queue unused =
        let all = up_places in
        let none : count_if s.peripheral.control.table.version_used ≡ 0 = ap count_if unused in
        queue_none Peripheral (drafts_of s.peripheral) roles.peripheral.table.drafts (omega (arith, all, none))

    pub unused_way : s.peripheral.control.table.version_used ≡ false → is_version_coming s.up ≡ false
    unused_way unused =
        let all = up_places in
        let none : count_if s.peripheral.control.table.version_used ≡ 0 = ap count_if unused in
        let same = way_same Peripheral s.up roles.up in
        count_none (is_version_coming s.up) (omega (arith, all, none, same))

    pub used_comes : s.peripheral.control.table.version_used ≡ true → s.central.knows_version ≡ false
        → (has_version (drafts_of s.peripheral) || (is_version_coming s.up || is_version_kept s.central.kept)) ≡ true
    used_comes used unknown = by (is_version_coming s.up) (is_version_kept s.central.kept) refl refl
      where
        by : (way kept : Bool) → is_version_coming s.up ≡ way → is_version_kept s.central.kept ≡ kept
            → (has_version (drafts_of s.peripheral) || (is_version_coming s.up || is_version_kept s.central.kept)) ≡ true
        by true kept w k = or_second (has_version (drafts_of s.peripheral)) (is_version_coming s.up) (is_version_kept s.central.kept) w
        by false true w k = or_third (has_version (drafts_of s.peripheral)) (is_version_coming s.up) (is_version_kept s.central.kept) k
        by false false w k =
            let all = up_places in
            let one : count_if s.peripheral.control.table.version_used ≡ 1 = ap count_if used in
            let none : count_if s.central.knows_version ≡ 0 = ap count_if unknown in
            let same = way_same Peripheral s.up roles.up in
            let no_way : count_if (is_version_coming s.up) ≡ 0 = ap count_if w in
            let no_kept : count_if (passes Agreement.is_version_ctrl s.central.kept) ≡ 0 = ap count_if (sym (kept_same s.central.kept) ∙ k) in
            or_first (has_version (drafts_of s.peripheral)) (is_version_coming s.up) (is_version_kept s.central.kept)
            (queue_some Peripheral (drafts_of s.peripheral) roles.peripheral.table.drafts (omega (arith, all, one, none, same, no_way, no_kept)))

    -- until an end knows the version of the other, its own was queued exactly where its exchange runs
    pub used_if_running : (role : Role) → (end_at role s).knows_version ≡ false
        → (end_at role s).control.table.version_used ≡ not (is_idle (version_stage_at (end_at role s)))
    used_if_running role unknown = by (end_at role s).control.table.version_used (is_idle (version_stage_at (end_at role s))) refl refl
      where
        by : (used idle : Bool) → (end_at role s).control.table.version_used ≡ used → is_idle (version_stage_at (end_at role s)) ≡ idle → used ≡ not idle
        by true true is at = let running = version_used_for central_rx peripheral_rx first slot steps run_on role is unknown in absurd (cc)
        by true false is at = refl
        by false true is at = refl
        by false false is at = let used = version_running central_rx peripheral_rx first slot steps run_on role at in absurd (cc)

    pub sent_comes : is_version_sent (own_exchange s.central.control.table.progress) ≡ true → s.central.knows_version ≡ false
        → s.peripheral.knows_version ≡ false → is_item is_version (item_on_air s.down) ≡ true
    sent_comes sent unknown unknown_there =
        let stage = stage_sent (own_exchange s.central.control.table.progress) sent in
        let used : count_if s.central.control.table.version_used ≡ 1 = ap count_if (used_if_running Central unknown ∙ ap (λ x. not (is_idle x)) stage) in
        let none = (version_sent central_rx peripheral_rx first slot steps run_on Central stage).0 in
        let all = down_places in
        let not_taken : count_if s.peripheral.knows_version ≡ 0 = ap count_if unknown_there in
        let same = way_same Central s.down roles.down in
        air_some s.down (tied steps (beginning central_rx peripheral_rx first slot) (first_tied central_rx peripheral_rx first slot)).down
        (count_some (is_version_coming s.down) (omega (arith, used, none, all, not_taken, same)))

    pub known_used : s.peripheral.knows_version ≡ true → is_open_now s.peripheral ≡ true → s.peripheral.control.table.version_used ≡ true
    known_used = version_known_used central_rx peripheral_rx first slot steps run_on Peripheral

    -- a peripheral that runs no exchange of versions has its LL_VERSION_IND nowhere on the way to its first meaning
    pub record NoVersion : Type 0 where
      pub waits : s.peripheral.knows_version ≡ false → waiting is_version_ind s.peripheral ≡ 0
      pub way : s.peripheral.knows_version ≡ false → untaken is_version_ind s.up ≡ 0
      pub kept : passes Agreement.is_version_ctrl s.central.kept ≡ false

    unused_none : s.peripheral.control.table.version_used ≡ false → NoVersion
    unused_none unused =
        let all = up_places in
        let none : count_if s.peripheral.control.table.version_used ≡ 0 = ap count_if unused in
        record {
          waits = λ unknown. omega (arith, all, none);
          way = λ unknown. omega (arith, all, none);
          kept = count_none (passes Agreement.is_version_ctrl s.central.kept) (omega (arith, all, none));
        }

    -- while the central keeps it the peripheral does not know the version of the central
    kept_unknown : passes Agreement.is_version_ctrl s.central.kept ≡ true → s.peripheral.knows_version ≡ false
    kept_unknown kept =
        let unused : count_if s.central.control.table.version_used ≡ 0 = ap count_if (version_kept_unused central_rx peripheral_rx first slot steps run_on (ap count_if kept)) in
        let there = down_places in
        count_none s.peripheral.knows_version (omega (arith, there, unused))

    pub idle_no_version : is_idle (version_stage_at s.peripheral) ≡ true → NoVersion
    idle_no_version idle = by s.peripheral.knows_version refl
      where
        none_kept : s.peripheral.knows_version ≡ true → (b : Bool) → passes Agreement.is_version_ctrl s.central.kept ≡ b → b ≡ false
        none_kept knows true is = let unknown = kept_unknown is in absurd (cc)
        none_kept knows false is = refl

        by : (knows : Bool) → s.peripheral.knows_version ≡ knows → NoVersion
        by false unknown = unused_none (used_if_running Peripheral unknown ∙ ap not idle)
        by true knows =
            record {
              waits = λ unknown. absurd (cc);
              way = λ unknown. absurd (cc);
              kept = none_kept knows (passes Agreement.is_version_ctrl s.central.kept) refl;
            }
