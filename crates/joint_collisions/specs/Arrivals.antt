-- What a PDU finds that an end of a joint run takes (Core 5.2, volume 6 part B, sections 5.1 and 5.3).
use Rattle.std.specs.Prelude.{◌≡◌, ℕ, Bool, true, false, not, ◌&&◌, List, [], ◌∷◌, Some}
use Rattle.data_pdu.specs.declared.ctrl.Ctrl.{Ctrl}
use Rattle.exclusive_stages.specs.declared.pdus.Exclusive.{Exclusive}
use Rattle.exclusive_stages.specs.declared.pdus.Pdu.{Pdu}
use Rattle.exclusive_stages.specs.Kinds.{central_kind, kind_of}
use Rattle.exclusive_stages.specs.Pdus.{first_kind}
use Rattle.collision_steps.specs.procedure_values.declared.drafts.Outgoing.{Outgoing}
use Rattle.collision_steps.specs.procedure_values.declared.drafts.Outgoing.TheVariants.{Rejection}
use Rattle.collision_steps.specs.procedure_values.declared.drafts.Rejection.{Rejection as TheRejection}
use Rattle.collision_steps.specs.procedure_stages.Collisions.{collision_code}
use Rattle.collision_steps.specs.procedure_stages.Exclusive.{pdu_of_outgoing}
use Rattle.collision_steps.specs.procedure_stages.Opcodes.{opcode_of_kind}
use Rattle.collision_steps.specs.CentralPart.{central_of}
use Rattle.joint_controls.specs.phased_control.Taken.{Response}
use Rattle.joint_controls.specs.Joint.{CentralSends, CentralTakes, Control, Joint, JointStep, OnAir, PeripheralTakes, act, may, next_out}

-- the peripheral may take this PDU, which the central sent as `outgoing`
pub record PeripheralMayTake (s : Joint) (outgoing : Outgoing) (ctrl : Ctrl) : Type 0 where
  pub slot : ℕ
  pub response : Response
  pub sealed : Bool
  pub comes : may (PeripheralTakes slot response) s ≡ true
  pub on_air : s.down ≡ OnAir (Control outgoing ctrl) sealed

-- the central may take this PDU, which the peripheral sent as `outgoing`
pub record CentralMayTake (s : Joint) (outgoing : Outgoing) (ctrl : Ctrl) : Type 0 where
  pub slot : ℕ
  pub sealed : Bool
  pub comes : may (CentralTakes slot) s ≡ true
  pub on_air : s.up ≡ OnAir (Control outgoing ctrl) sealed

-- the first PDU of the peripheral's procedure q comes while the central's own procedure p is in progress
pub record Collides (s : Joint) (p q : Exclusive) (outgoing : Outgoing) (ctrl : Ctrl) : Type 0 where
  pub takes : CentralMayTake s outgoing ctrl
  pub pdu : Pdu
  pub part : pdu_of_outgoing outgoing ≡ Some pdu
  pub first : first_kind pdu ≡ Some q
  pub runs : central_kind (central_of s.central.control.table).own ≡ Some p

-- the state in which the central has taken it
abbrev pub collided : (s : Joint) (p q : Exclusive) (outgoing : Outgoing) (ctrl : Ctrl) → Collides s p q outgoing ctrl
    → Joint
collided s p q outgoing ctrl c = act (CentralTakes c.takes.slot) s

-- the central sends nothing in these steps
abbrev pub is_sending : JointStep → Bool
is_sending (CentralSends slot) = true
is_sending step = false

abbrev pub is_silent : List JointStep → Bool
is_silent [] = true
is_silent (step ∷ steps) = not (is_sending step) && is_silent steps

-- what the central sends next is the rejection of q, with 0x23 where p is of the same kind, and 0x2A where it is not
pub record RejectsNext (s : Joint) (p q : Exclusive) : Type 0 where
  pub rejection : TheRejection
  pub next : next_out s.central ≡ Rejection rejection
  pub opcode : rejection.opcode ≡ opcode_of_kind q
  pub code : rejection.code ≡ collision_code (kind_of p) (kind_of q)
