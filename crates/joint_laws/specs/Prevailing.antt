-- What becomes of two procedures that collide in a joint run (Core 5.2, volume 6 part B, section 5.3).
use Rattle.std.specs.Prelude.{◌≡◌, true, false, List}
use Rattle.data_pdu.specs.declared.ctrl.Ctrl.{Ctrl}
use Rattle.exclusive_stages.specs.declared.pdus.Exclusive.{Exclusive}
use Rattle.exclusive_stages.specs.declared.stages.PeerAtCentral.TheVariants.{Absent}
use Rattle.joint_parameters.specs.procedure_values.declared.drafts.Outgoing.{Outgoing}
use Rattle.joint_parameters.specs.procedure_stages.Queue.{next_disconnect}
use Rattle.joint_collisions.specs.collision_steps.CentralPart.{central_of}
use Rattle.joint_parameters.specs.phased_control.Phased.{is_open_now}
use Rattle.joint_parameters.specs.joint_controls.Joint.{Joint, JointStep, after_all, next_out}
use Rattle.joint_collisions.specs.Arrivals.{Collides, RejectsNext, collided, is_silent}

-- the central has procedure p in progress, and has taken the first PDU of the peripheral's q
pub record CentralPrevails (s : Joint) (p q : Exclusive) (outgoing : Outgoing) (ctrl : Ctrl)
    (c : Collides s p q outgoing ctrl) : Type 0 where
  -- its own goes on as it was
  pub own :
      (central_of (collided s p q outgoing ctrl c).central.control.table).own
      ≡ (central_of s.central.control.table).own
  -- nothing of the peripheral's is left there
  pub peer : (central_of (collided s p q outgoing ctrl c).central.control.table).peer ≡ Absent
  -- the next control PDU that it sends is the rejection, whatever comes between
  pub rejected :
      (later : List JointStep) → is_open_now s.central ≡ true → is_silent later ≡ true
      → RejectsNext (after_all later (collided s p q outgoing ctrl c)) p q
  -- one that is to end the link rejects nothing any more: LL_TERMINATE_IND comes next, or nothing
  pub closing :
      is_open_now s.central ≡ false
      → next_out (collided s p q outgoing ctrl c).central
      ≡ next_disconnect (collided s p q outgoing ctrl c).central.control.table.queue.disconnect
