-- A state of a joint run is sound: the tables, the phases and the parameters of both ends agree, and few control PDUs
-- wait (Core 5.2, volume 6 part B, section 5).
use Rattle.std.specs.Prelude.{◌≡◌, ◌≤◌, ◌⊎◌, ⊤, true, false, not}
use Rattle.ble_base.specs.declared.procedure_kinds.Kind.TheVariants.{Version}
use Rattle.ble_base.specs.declared.roles.Role.{Role}
use Rattle.joint_parameters.specs.procedure_values.Wants.{count_of}
use Rattle.joint_parameters.specs.procedure_stages.Queue.{waiting_in}
use Rattle.joint_parameters.specs.table_laws.Encrypting.{has_encryption}
use Rattle.joint_parameters.specs.table_laws.Waiting.{count_if}
use Rattle.joint_exchanges.specs.exchange_pairs.Exchange.{ExchangeStage, Idle, Sent, Unsent}
use Rattle.joint_exchanges.specs.exchange_pairs.ExchangeRun.{other_role}
use Rattle.joint_parameters.specs.phased_control.Phased.{is_open_now, is_quiet_now}
use Rattle.joint_parameters.specs.joint_controls.Joint.{Joint, is_same_event}
use Rattle.joint_collisions.specs.Views.{TablesAgree}
use Rattle.joint_exchanges.specs.Agreement.{Asked, end_at, is_version_ind, places_of, questions_waiting, stage_at, version_coming, version_places, version_stage_at, waiting}
use Rattle.joint_parameters.specs.Views.{HaveEqual}
use Rattle.joint_phases.specs.Agreement.{is_sealing_agreed}
use Rattle.joint_phases.specs.Pairs.{are_phases_paired}

-- ---- an exchange of features or of lengths of an end with this role

-- none: no PDU of it is anywhere. Unsent: its question waits. Sent: that, or its answer, is in one place, or the other
-- end is to end the link
abbrev pub AreInPlace : ExchangeStage → Asked → Role → Joint → Type 0
AreInPlace Idle asked role s = (questions_waiting asked role s ≡ 0) × (places_of asked role s ≡ 0)
AreInPlace Unsent asked role s = (questions_waiting asked role s ≡ 1) × (places_of asked role s ≡ 0)
AreInPlace Sent asked role s =
    (questions_waiting asked role s ≡ 0)
    × ((places_of asked role s ≡ 1)
    ⊎ ((places_of asked role s ≡ 0) × (is_open_now (end_at (other_role role) s) ≡ false)))

abbrev pub ExchangeAgrees : Asked → Role → Joint → Type 0
ExchangeAgrees asked role s = AreInPlace (stage_at asked (end_at role s)) asked role s

-- ---- the exchange of versions

-- none: nothing is said. Unsent: the own LL_VERSION_IND waits. Sent: that or the other's is to come, or the other end
-- is to end the link
abbrev pub VersionIsInPlace : ExchangeStage → Role → Joint → Type 0
VersionIsInPlace Idle role s = ⊤
VersionIsInPlace Unsent role s = waiting is_version_ind (end_at role s) ≡ 1
VersionIsInPlace Sent role s =
    (waiting is_version_ind (end_at role s) ≡ 0)
    × ((1 ≤ version_coming role s) ⊎ (is_open_now (end_at (other_role role) s) ≡ false))

pub record VersionAgrees (role : Role) (s : Joint) : Type 0 where
  -- the own LL_VERSION_IND is in one place once it was queued
  pub once : version_places role s ≡ count_if (end_at role s).control.table.version_used
  -- none runs or is wanted once the other's version is known
  pub known :
      (end_at role s).knows_version ≡ true
      → (version_stage_at (end_at role s) ≡ Idle) × (count_of Version (end_at role s).control.table.wanted ≡ 0)
  pub in_place : VersionIsInPlace (version_stage_at (end_at role s)) role s

-- ---- the whole

pub record IsSound (s : Joint) : Type 0 where
  -- of the procedures that exclude each other
  pub exclusive : TablesAgree s
  pub exchanges : (asked : Asked) (role : Role) → ExchangeAgrees asked role s
  pub versions : (role : Role) → VersionAgrees role s
  -- an encryption is in progress at an end exactly outside Clear and Secure
  pub encryption :
      (role : Role) → is_quiet_now (end_at role s) ≡ not (has_encryption (end_at role s).control.table.progress)
  pub phases : are_phases_paired s ≡ true
  pub sealing : is_sealing_agreed s ≡ true
  -- in events of one number in which the same number of indications hold
  pub parameters :
      is_same_event s ≡ true → s.central.control.track.applied ≡ s.peripheral.control.track.applied
      → HaveEqual s.central.control.track s.peripheral.control.track
  pub few : (role : Role) → waiting_in (end_at role s).control.table.queue ≤ 10
