-- Outside the phases Clear and Secure a central has none of the procedures that exclude each other in progress, and of their PDUs
-- only rejections wait there.
use Rattle.std.proofs.Common.{◌≡◌, Bool, true, false, List, [], ◌∷◌, drop, Option, Some, None, is_none, unwrap_or, refl, sym, ap, ◌∙◌}
use Rattle.ble_base.specs.declared.roles.Role.TheVariants.{Central as central_role}
use Rattle.data_pdu.specs.declared.ctrl.Ctrl.{Ctrl}
use Rattle.data_pdu.specs.declared.ctrl.Ctrl.TheVariants.{TerminateInd}
use Rattle.joint_controls.specs.enc_phase.declared.facts.PhaseFacts.{PhaseFacts}
use Rattle.joint_controls.specs.enc_phase.declared.facts.PhaseFacts.TheVariants.{Asked, Clear, HalfClear, HalfKeyed, Pausing, Secure}
use Rattle.joint_controls.specs.enc_phase.declared.facts.Transition.TheVariants.{Refuse}
use Rattle.joint_controls.specs.enc_phase.Phases.{is_quiet, phase_after, phase_starting}
use Rattle.exclusive_stages.specs.declared.pdus.Pdu.{Pdu}
use Rattle.exclusive_stages.specs.declared.pdus.Pdu.TheVariants.{GrantInd, MapInd, PhyInd, PhyReq, Refusal, UpdateInd}
use Rattle.exclusive_stages.specs.declared.stages.CentralStage.TheVariants.{Idle, MapSent, MapUnsent, PhyAnswered, PhyIndicated, PhySent, PhyUnsent, UpdateSent, UpdateUnsent}
use Rattle.exclusive_stages.specs.declared.stages.PeerAtCentral.TheVariants.{Absent}
use Rattle.exclusive_stages.specs.Acked.{own_acked_at_central, peer_acked_at_central}
use Rattle.exclusive_stages.specs.Sent.{own_sent_by_central, peer_sent_by_central}
use Rattle.collision_steps.specs.procedure_stages.declared.stages.Central.{Central}
use Rattle.collision_steps.specs.procedure_stages.declared.stages.OwnCentral.{OwnCentral}
use Rattle.collision_steps.specs.procedure_stages.declared.stages.OwnCentral.TheVariants.{EncryptSent, EncryptUnsent, Exchange as exchange, Exclusive as exclusive}
use Rattle.collision_steps.specs.procedure_stages.declared.stages.Progress.TheVariants.{Central as central}
use Rattle.collision_steps.specs.procedure_stages.Exclusive.{central_stage}
use Rattle.collision_steps.specs.procedure_stages.Kinds.{kind_at_central}
use Rattle.collision_steps.specs.procedures.Table.{TableFacts}
use Rattle.collisions.specs.declared.central.Central.{Central as CentralPdus}
use Rattle.collisions.specs.CentralTable
use Rattle.collision_steps.specs.CentralPart.{ack_of, after_steps, central_of, sending_of, step_of_given}
use Rattle.joint_controls.specs.enc_phase.declared.classes.PduClass.TheVariants.{Request as request_class}
use Rattle.joint_controls.specs.enc_phase.Taking.{allows, ctrl_class}
use Rattle.collision_steps.specs.procedure_stages.Closing.{is_disconnecting}
use Rattle.collision_steps.specs.Parts.{drafts_part}
use Rattle.collision_steps.proofs.CentralTaking.{over}
use Rattle.joint_collisions.specs.Facts.{CentralFacts}
use Rattle.joint_controls.specs.phased_control.Phased.{Phased, is_open_now, is_quiet_now}

pub record IsAlone (t : CentralPdus) : Type 0 where
  pub own : t.own ≡ Idle
  pub peer : t.peer ≡ Absent
  pub queue : t.queue.items ≡ []

abbrev pub AloneIf : Phased → Type 0
AloneIf s = is_quiet_now s ≡ false → IsAlone (central_of s.control.table)

-- ---- what is known of a central

pub record CentralKnown (s : Phased) : Type 0 where
  pub kept : (ctrl : Ctrl) → s.kept ≡ Some ctrl → allows s.phase central_role request_class ≡ false
  pub first : (ctrl : Ctrl) → s.kept ≡ Some ctrl → ctrl_class ctrl ≡ request_class
  pub own : is_quiet_now s ≡ false → (central_of s.control.table).own ≡ Idle
  pub drafts : is_quiet_now s ≡ false → drafts_part s.control.table.queue.drafts ≡ []
  pub closing : is_open_now s ≡ false → is_disconnecting s.control.table.closing ≡ true

pub known_of : (s : Phased) (x : Central) → s.control.table.progress ≡ central x → CentralFacts s → AloneIf s → CentralKnown s
known_of s x is facts alone =
    record {
      kept = facts.kept;
      first = facts.first;
      own = λ loud. (alone loud).own;
      drafts =
          λ loud. sym (over (λ (g : TableFacts). (central_of g).queue.items ≡ drafts_part g.queue.drafts) s.control.table x is refl)
          ∙ (alone loud).queue;
      closing = facts.closing;
    }

-- ---- what each step of the table leaves

idle_sent : (pdu : Pdu) → own_sent_by_central pdu Idle ≡ None
idle_sent UpdateInd = refl
idle_sent MapInd = refl
idle_sent PhyReq = refl
idle_sent PhyInd = refl
idle_sent pdu = refl

absent_sent : (pdu : Pdu) → peer_sent_by_central pdu Absent ≡ Absent
absent_sent GrantInd = refl
absent_sent PhyInd = refl
absent_sent pdu = refl

idle_acked : (pdu : Pdu) → own_acked_at_central pdu Idle ≡ Idle
idle_acked PhyInd = refl
idle_acked pdu = refl

absent_acked : (pdu : Pdu) → peer_acked_at_central pdu Absent ≡ Absent
absent_acked PhyInd = refl
absent_acked pdu = refl

pub alone_entered : (t : CentralPdus) (due : Bool) → IsAlone t → IsAlone (CentralTable.entered due t)
alone_entered t true a = record { own = rw a.own refl; peer = rw a.peer refl; queue = a.queue }
alone_entered t false a = a

pub alone_given : (ctrl : Ctrl) (t : CentralPdus) → IsAlone t → IsAlone (after_steps (step_of_given ctrl) t)
alone_given (TerminateInd code) t a = record { own = a.own; peer = a.peer; queue = a.queue }
alone_given ctrl t a = a

pub alone_terminated : (t : CentralPdus) → IsAlone t → IsAlone (CentralTable.terminated t)
alone_terminated t a = record { own = a.own; peer = a.peer; queue = a.queue }

pub alone_acked : (pdu : Option Pdu) (t : CentralPdus) → IsAlone t → IsAlone (after_steps (ack_of pdu) t)
alone_acked None t a = a
alone_acked (Some pdu) t a =
    record {
      own = ap (own_acked_at_central pdu) a.own ∙ idle_acked pdu;
      peer = ap (peer_acked_at_central pdu) a.peer ∙ absent_acked pdu;
      queue = a.queue;
    }

drop_none : (xs : List Pdu) → xs ≡ [] → drop 1 xs ≡ []
drop_none xs is = rw is refl

pub alone_sent : (pdu : Option Pdu) (t : CentralPdus) → IsAlone t → IsAlone (after_steps (sending_of pdu) t)
alone_sent None t a = a
alone_sent (Some pdu) t a = by t.rejections.items refl
  where
    own_is : unwrap_or (own_sent_by_central pdu t.own) t.own ≡ Idle
    own_is = rw (a.own, idle_sent pdu) refl

    peer_is : peer_sent_by_central pdu t.peer ≡ Absent
    peer_is = ap (peer_sent_by_central pdu) a.peer ∙ absent_sent pdu

    by : (rejections : List Pdu) → t.rejections.items ≡ rejections → IsAlone (CentralTable.sent pdu t)
    by [] is = record { own = rw is own_is; peer = rw is peer_is; queue = rw is (drop_none t.queue.items a.queue) }
    by (one ∷ more) is = record { own = rw is own_is; peer = rw is peer_is; queue = rw is a.queue }

pub alone_refused : (t : CentralPdus) → IsAlone t → IsAlone (CentralTable.taken false Refusal t).0
alone_refused t a = record { own = ap CentralTable.own_after_refusal a.own; peer = a.peer; queue = a.queue }

-- ---- a central that runs nothing

pub no_kind : (own : OwnCentral) → is_none (kind_at_central own) ≡ true → central_stage own ≡ Idle
no_kind (exclusive Idle) h = refl
no_kind (exclusive UpdateUnsent) h = absurd (cc)
no_kind (exclusive UpdateSent) h = absurd (cc)
no_kind (exclusive MapUnsent) h = absurd (cc)
no_kind (exclusive MapSent) h = absurd (cc)
no_kind (exclusive PhyUnsent) h = absurd (cc)
no_kind (exclusive PhySent) h = absurd (cc)
no_kind (exclusive PhyAnswered) h = absurd (cc)
no_kind (exclusive PhyIndicated) h = absurd (cc)
no_kind (exchange stage) h = absurd (cc)
no_kind EncryptUnsent h = absurd (cc)
no_kind EncryptSent h = absurd (cc)

-- ---- phases

pub starting_loud : (phase : PhaseFacts) → is_quiet (phase_starting phase) ≡ false → is_quiet phase ≡ false
starting_loud (Asked after_pause enc_rsp kept) h = refl
starting_loud Clear h = h
starting_loud HalfKeyed h = h
starting_loud Secure h = h
starting_loud (Pausing kept) h = h
starting_loud (HalfClear kept) h = h

pub refused_loud : (phase : PhaseFacts) → is_quiet (phase_after Refuse phase) ≡ false → is_quiet phase ≡ false
refused_loud (Asked after_pause enc_rsp kept) h = refl
refused_loud Clear h = h
refused_loud HalfKeyed h = h
refused_loud Secure h = h
refused_loud (Pausing kept) h = h
refused_loud (HalfClear kept) h = h
