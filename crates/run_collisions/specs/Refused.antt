-- A peripheral that takes the rejection of its procedure (Core 5.2, volume 6 part B, sections 2.4.2.18 and 5.3).
use Rattle.std.specs.Prelude.{◌≡◌, ◌==◌, ℕ, Bool, true, false, not, List, [], ◌∷◌, ◌++◌, Some}
use Rattle.ble_base.specs.declared.error_codes.ErrCode.{ErrCode}
use Rattle.ble_base.specs.declared.notes.Note.{Note}
use Rattle.ble_base.specs.declared.notes.Note.TheVariants.{Refused, Took}
use Rattle.data_pdu.specs.declared.ctrl.Ctrl.{Ctrl}
use Rattle.data_pdu.specs.declared.ctrl.Ctrl.TheVariants.{RejectExtInd, RejectInd, UnknownRsp}
use Rattle.data_pdu.specs.declared.ctrl.CtrlRead.TheVariants.{Known}
use Rattle.data_pdu.specs.Reading.{ctrl_of}
use Rattle.exclusive_stages.specs.declared.pdus.Exclusive.{Exclusive}
use Rattle.exclusive_stages.specs.declared.stages.PeripheralStage.TheVariants.{Idle}
use Rattle.exclusive_stages.specs.Kinds.{kind_of, peripheral_kind}
use Rattle.link_pairs.specs.procedure_stages.Opcodes.{enc_req_opcode, opcode_of_kind}
use Rattle.joint_collisions.specs.Facts.{is_first_down}
use Rattle.collision_steps.specs.PeripheralPart.{peripheral_of}
use Rattle.link_pairs.specs.link_model.End.{notes_after}
use Rattle.link_pairs.specs.link_model.Facts.{Facts}
use Rattle.link_pairs.specs.link_model.Setup.{Setup}
use Rattle.link_pairs.specs.link_model.Step.{PacketReceived}

-- the end takes LL_REJECT_EXT_IND with the opcode of the first PDU of q, and this error, from these octets
pub record TakesRejection (setup : Setup) (facts : Facts) (slot : ℕ) (octets : List ℕ) (room : Bool) (q : Exclusive)
    (code : ErrCode) : Type 0 where
  -- the end notes that it takes a control PDU
  pub earlier : List Note
  pub number : ℕ
  pub body : List ℕ
  pub later : List Note
  pub notes :
      notes_after setup facts (PacketReceived slot octets room)
      ≡ earlier ++ Took setup.link.handle number 3 (record { items = body }) ∷ later
  -- which is this one
  pub is : ctrl_of body ≡ Known (RejectExtInd (opcode_of_kind q) code.0)

-- what becomes of q, by what the peripheral holds before it takes the rejection and after, and by what it notes after
-- the note that it takes it
pub record IsRefused (setup : Setup) (before now : Facts) (later : List Note) (q : Exclusive) (code : ErrCode) : Type 0
  where
    -- its own procedure in progress is q
    pub runs : peripheral_kind (peripheral_of before.control.table).own ≡ Some q
    -- it notes that q is refused with this error, and nothing else: so q is not done
    pub refused : later ≡ Refused setup.link.handle (kind_of q) code ∷ []
    -- none of its own procedures that exclude others is in progress
    pub over : (peripheral_of now.control.table).own ≡ Idle

-- a control PDU that refuses a procedure of a central that excludes others; a rejection of a start of encryption does
-- not (sections 2.4.2.8, 2.4.2.14 and 2.4.2.18)
abbrev pub is_refusing : Ctrl → Bool
is_refusing (UnknownRsp opcode) = is_first_down opcode
is_refusing (RejectInd code) = true
is_refusing (RejectExtInd opcode code) = not (enc_req_opcode == opcode)
is_refusing ctrl = false
