-- Two procedures that collide at the central end of a link, and what becomes of them (Core 5.2, volume 6 part B,
-- section 5.3).
use Rattle.std.specs.Prelude.{◌≡◌, ℕ, Bool, true, false, List, ◌∷◌, ◌++◌, Option, Some, None}
use Rattle.ble_base.specs.declared.notes.Note.{Note}
use Rattle.ble_base.specs.declared.notes.Note.TheVariants.{Took}
use Rattle.data_pdu.specs.declared.ctrl.Ctrl.{Ctrl}
use Rattle.data_pdu.specs.declared.ctrl.Ctrl.TheVariants.{ConnectionParamReq, PhyReq}
use Rattle.data_pdu.specs.declared.ctrl.CtrlRead.TheVariants.{Known}
use Rattle.data_pdu.specs.Header.{header_in}
use Rattle.data_pdu.specs.Reading.{ctrl_of}
use Rattle.exclusive_stages.specs.declared.pdus.Exclusive.{Exclusive}
use Rattle.exclusive_stages.specs.declared.pdus.Exclusive.TheVariants.{Phy, Request}
use Rattle.exclusive_stages.specs.declared.stages.PeerAtCentral.TheVariants.{Absent}
use Rattle.exclusive_stages.specs.Kinds.{central_kind, kind_of}
use Rattle.instants.specs.Track.{event_of}
use Rattle.link_pairs.specs.procedures.Queue.{next_of}
use Rattle.link_pairs.specs.procedure_stages.Closing.{is_disconnecting, is_open}
use Rattle.link_pairs.specs.procedure_stages.Collisions.{collision_code}
use Rattle.link_pairs.specs.procedure_stages.Opcodes.{opcode_of_kind}
use Rattle.link_pairs.specs.procedure_stages.Queue.{next_disconnect}
use Rattle.link_pairs.specs.procedure_values.declared.drafts.Outgoing.{Outgoing}
use Rattle.link_pairs.specs.procedure_values.declared.drafts.Outgoing.TheVariants.{Rejection}
use Rattle.link_pairs.specs.procedure_values.declared.drafts.Rejection.{Rejection as TheRejection}
use Rattle.collision_steps.specs.CentralPart.{central_of}
use Rattle.link_answers.specs.Owing.{Owes}
use Rattle.link_pairs.specs.link_model.Controls.{is_quiet_now}
use Rattle.link_pairs.specs.link_model.End.{notes_after}
use Rattle.link_pairs.specs.link_model.Facts.{Facts}
use Rattle.link_pairs.specs.link_model.Packets.{good_pdu}
use Rattle.link_pairs.specs.link_model.Receiving.{facts_before_taking}
use Rattle.link_pairs.specs.link_model.Setup.{Setup}
use Rattle.link_pairs.specs.link_model.Step.{PacketReceived}

-- ---- what an end holds as it looks at the PDU of a packet: it has seen its own last PDU acknowledged, or has not

abbrev pub seen_by : Setup → ℕ → Option (List ℕ) → Facts → Facts
seen_by setup slot None facts = facts
seen_by setup slot (Some pdu) facts = facts_before_taking setup.link.role slot (header_in pdu) facts

abbrev pub seen : Setup → ℕ → List ℕ → Facts → Facts
seen setup slot octets facts = seen_by setup slot (good_pdu setup facts octets) facts

-- ---- the collision

-- the procedure of a peripheral that a control PDU begins (section 2.4.2)
abbrev pub first_of : Ctrl → Option Exclusive
first_of (ConnectionParamReq min max latency timeout periodicity reference offsets) = Some Request
first_of (PhyReq tx rx) = Some Phy
first_of ctrl = None

-- the central takes the first PDU of the peripheral's procedure q from these octets, while its own procedure p is in
-- progress
pub record TakesColliding (setup : Setup) (facts : Facts) (slot : ℕ) (octets : List ℕ) (room : Bool) (p q : Exclusive)
    : Type 0 where
  -- the end notes that it takes this PDU
  pub earlier : List Note
  pub number : ℕ
  pub body : List ℕ
  pub later : List Note
  pub notes :
      notes_after setup facts (PacketReceived slot octets room)
      ≡ earlier ++ Took setup.link.handle number 3 (record { items = body }) ∷ later
  -- which is this one
  pub ctrl : Ctrl
  pub is : ctrl_of body ≡ Known ctrl
  pub first : first_of ctrl ≡ Some q
  pub runs : central_kind (central_of (seen setup slot octets facts).control.table).own ≡ Some p

-- ---- what becomes of it

-- the control PDU that an end sends next
abbrev pub next_outgoing : Facts → Outgoing
next_outgoing facts = next_of facts.control.table (event_of facts.control.track) (is_quiet_now facts)

-- that is the rejection of q, with 0x23 where p is of the same kind, and 0x2A where it is not
pub record RejectsNext (facts : Facts) (p q : Exclusive) : Type 0 where
  pub rejection : TheRejection
  pub next : next_outgoing facts ≡ Rejection rejection
  pub opcode : rejection.opcode ≡ opcode_of_kind q
  pub code : rejection.code ≡ collision_code (kind_of p) (kind_of q)

-- the central's p prevails over the peripheral's q, by what the central holds before it takes that PDU and after
pub record Prevails (before now : Facts) (p q : Exclusive) : Type 0 where
  -- its own procedure goes on as it was
  pub own : (central_of now.control.table).own ≡ (central_of before.control.table).own
  -- nothing of the peripheral's is left there
  pub peer : (central_of now.control.table).peer ≡ Absent
  -- and no indication waits that answers the peripheral
  pub owes : (kind : Exclusive) → Owes kind (central_of now.control.table)
  pub rejected : is_open before.control.table.closing ≡ true → RejectsNext now p q
  -- a central that is to end the link rejects nothing any more: LL_TERMINATE_IND comes next, or nothing (section 5.1.6)
  pub closing :
      is_open before.control.table.closing ≡ false
      → next_outgoing now ≡ next_disconnect now.control.table.queue.disconnect
  -- its host ended the link then
  pub ending : is_open before.control.table.closing ≡ false → is_disconnecting before.control.table.closing ≡ true
