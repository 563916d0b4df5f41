-- What the machine of phases asks of the other procedures of a link: facts of a state of a joint run (Core 5.2,
-- volume 6 part B, sections 5.1.3 to 5.1.10).
use Rattle.std.specs.Prelude.{◌≡◌, ⊤, Bool, true, false, not, ◌&&◌, ◌||◌, List, [], ◌∷◌, Option, Some, None}
use Rattle.data_pdu.specs.declared.ctrl.Ctrl.{Ctrl}
use Rattle.phase_pairs.specs.enc_phase.declared.classes.PduClass.{PduClass}
use Rattle.joint_controls.specs.procedure_values.declared.drafts.Draft.{Draft}
use Rattle.joint_controls.specs.procedure_values.declared.drafts.Draft.TheVariants.{FeatureReq, LengthReq, PhyReq, VersionInd}
use Rattle.exclusive_stages.specs.declared.stages.CentralStage.TheVariants.{PhyUnsent}
use Rattle.joint_controls.specs.procedure_stages.declared.stages.Exchange.{Exchange}
use Rattle.joint_controls.specs.procedure_stages.declared.stages.Exchange.TheVariants.{FeaturesUnsent, LengthUnsent, VersionSent, VersionUnsent}
use Rattle.joint_controls.specs.procedure_stages.declared.stages.OwnCentral.{OwnCentral}
use Rattle.joint_controls.specs.procedure_stages.declared.stages.OwnCentral.TheVariants.{Exchange as exchange, Exclusive as exclusive}
use Rattle.joint_controls.specs.procedure_stages.declared.stages.Progress.{Progress}
use Rattle.joint_controls.specs.procedure_stages.declared.stages.Progress.TheVariants.{Central as central, Peripheral as peripheral}
use Rattle.joint_controls.specs.procedure_stages.InProgress.{is_host_asked}
use Rattle.joint_controls.specs.procedure_stages.Kinds.{own_exchange}
use Rattle.phase_pairs.specs.JointRun.{is_pause_rsp_taken, is_request, keeps_request}
use Rattle.joint_controls.specs.phased_control.Phased.{Phased, is_open_now, is_pause_rsp, is_quiet_now}
use Rattle.joint_controls.specs.Joint.{Item, Joint, JointStep, Way, Fixed, OnAir, after, is_item, is_running, is_taken, item_on_air}
use Rattle.joint_phases.specs.Classes.{class_up, draft_down, draft_up, has_request, has_version, is_version, is_version_ctrl, item_class}
use Rattle.joint_phases.specs.Events.{does_begin}
use Rattle.joint_phases.specs.Parts.{way_down}

-- ---- what waits, and what is on its way

abbrev pub drafts_of : Phased → List Draft
drafts_of s = s.control.table.queue.drafts

-- the PDU that was fixed or sent, and not taken
abbrev pub item_untaken : Way → Option Item
item_untaken (Fixed item sealed) = Some item
item_untaken (OnAir item sealed) = Some item
item_untaken way = None

abbrev pub is_version_coming : Way → Bool
is_version_coming way = is_item is_version (item_untaken way)

-- the first PDU of a procedure of the peripheral
abbrev pub is_first_up : Bool → Item → Bool
is_first_up knows item = is_request (item_class (class_up knows) item)

abbrev pub is_version_kept : Option Ctrl → Bool
is_version_kept None = false
is_version_kept (Some ctrl) = is_version_ctrl ctrl

-- ---- the procedures of the central

-- the first PDU of a procedure that was begun and of which nothing was sent
abbrev pub is_unsent_first : Draft → OwnCentral → Bool
is_unsent_first PhyReq (exclusive PhyUnsent) = true
is_unsent_first FeatureReq (exchange FeaturesUnsent) = true
is_unsent_first VersionInd (exchange VersionUnsent) = true
is_unsent_first (LengthReq rx tx) (exchange LengthUnsent) = true
is_unsent_first draft own = false

abbrev pub is_first_of : Draft → Progress → Bool
is_first_of draft (central c) = is_unsent_first draft c.own
is_first_of draft (peripheral p) = false

-- each PDU of these that the peripheral answers is that of the procedure in progress
abbrev pub are_of_own : (Draft → PduClass) → List Draft → Progress → Bool
are_of_own class_of [] progress = true
are_of_own class_of (draft ∷ drafts) progress =
    (not (is_request (class_of draft)) || is_first_of draft progress) && are_of_own class_of drafts progress

abbrev pub is_version_sent : Option Exchange → Bool
is_version_sent (Some VersionSent) = true
is_version_sent own = false

-- ---- the procedures of the peripheral

-- no first PDU of it waits, is untaken or is kept
abbrev pub has_no_first : Joint → Bool
has_no_first s =
    not (has_request (draft_up s.peripheral.knows_version) (drafts_of s.peripheral))
    && (not (is_item (is_first_up s.peripheral.knows_version) (item_untaken s.up))
    && not (keeps_request s.central.phase))

-- ---- the facts

pub record Facts (s : Joint) : Type 0 where
  -- of the PDUs that wait at the central the peripheral answers only the first one of the procedure in progress
  pub own_first :
      are_of_own (draft_down s.central.knows_version) (drafts_of s.central) s.central.control.table.progress ≡ true
  -- the central's host is asked about a request only in Clear and Secure
  pub asked_in_quiet : is_host_asked s.central.control.table.progress ≡ true → is_quiet_now s.central ≡ true
  -- what the central's table has sent is what was taken
  pub taken_is_out :
      is_taken s.down ≡ true
      → is_pause_rsp s.central.control.table.out ≡ is_pause_rsp_taken (way_down s.central.knows_version s.down)
  -- a procedure of the peripheral begins only where no first PDU of it waits, is untaken or is kept
  pub begins_alone : does_begin s.peripheral ≡ true → has_no_first s ≡ true
  -- the LL_VERSION_IND of the central is taken once; so is that of the peripheral, if it was queued
  pub known_down : s.peripheral.knows_version ≡ true → is_item is_version (item_on_air s.down) ≡ false
  pub known_up : s.central.knows_version ≡ true → s.peripheral.control.table.version_used ≡ true
  pub known_queue : s.central.knows_version ≡ true → has_version (drafts_of s.peripheral) ≡ false
  pub known_way : s.central.knows_version ≡ true → is_version_coming s.up ≡ false
  pub unused_queue : s.peripheral.control.table.version_used ≡ false → has_version (drafts_of s.peripheral) ≡ false
  pub unused_way : s.peripheral.control.table.version_used ≡ false → is_version_coming s.up ≡ false
  -- until then it waits, is untaken or is kept
  pub used_comes :
      s.peripheral.control.table.version_used ≡ true → s.central.knows_version ≡ false
      → has_version (drafts_of s.peripheral) || (is_version_coming s.up || is_version_kept s.central.kept) ≡ true
  -- the central's own exchange of versions is sent: its LL_VERSION_IND is on the air, or was taken
  pub sent_comes :
      is_version_sent (own_exchange s.central.control.table.progress) ≡ true → s.central.knows_version ≡ false
      → s.peripheral.knows_version ≡ false → is_item is_version (item_on_air s.down) ≡ true
  -- a peripheral that knows the version of the central has used its own, unless the link is to end
  pub known_used :
      s.peripheral.knows_version ≡ true → is_open_now s.peripheral ≡ true
      → s.peripheral.control.table.version_used ≡ true

-- they hold in each state of a run that goes on, before each of these steps
abbrev pub FactsHold : Joint → List JointStep → Type 0
FactsHold s [] = ⊤
FactsHold s (step ∷ steps) = (is_running s ≡ true → Facts s) × FactsHold (after step s) steps
