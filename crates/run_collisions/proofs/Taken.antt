-- The first PDU of a procedure of the peripheral, and the rejection of one, as control PDUs that are taken.
use Rattle.std.proofs.Common.{ℕ, Bool, List}
use Rattle.ble_base.specs.declared.error_codes.ErrCode.{ErrCode}
use Rattle.data_pdu.specs.declared.ctrl.Ctrl.TheVariants.{RejectExtInd}
use Rattle.exclusive_stages.specs.declared.pdus.Exclusive.{Exclusive}
use Rattle.link_pairs.specs.link_model.Facts.{Facts}
use Rattle.link_pairs.specs.link_model.Setup.{Setup}
use Rattle.link_pairs.specs.procedure_stages.Opcodes.{opcode_of_kind}
use Rattle.run_collisions.specs.Prevailing.{TakesColliding}
use Rattle.run_collisions.specs.Refused.{TakesRejection}
use Rattle.run_collisions.specs.Taking.{TakesControl}

abbrev pub taken_first : (setup : Setup) (facts : Facts) (slot : ℕ) (octets : List ℕ) (room : Bool) (own other : Exclusive)
    → TakesColliding setup facts slot octets room own other → TakesControl setup facts slot octets room
taken_first setup facts slot octets room own other colliding =
    record {
      earlier = colliding.earlier;
      number = colliding.number;
      body = colliding.body;
      later = colliding.later;
      notes = colliding.notes;
      ctrl = colliding.ctrl;
      is = colliding.is;
    }

abbrev pub taken_rejection : (setup : Setup) (facts : Facts) (slot : ℕ) (octets : List ℕ) (room : Bool) (q : Exclusive) (code : ErrCode)
    → TakesRejection setup facts slot octets room q code → TakesControl setup facts slot octets room
taken_rejection setup facts slot octets room q code taking =
    record {
      earlier = taking.earlier;
      number = taking.number;
      body = taking.body;
      later = taking.later;
      notes = taking.notes;
      ctrl = RejectExtInd (opcode_of_kind q) code.0;
      is = taking.is;
    }
