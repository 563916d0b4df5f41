-- Proof of `rows::worked_controls`: the definitions compute.
use Rattle.std.proofs.Common.{refl}
use Rattle.data_pdu.specs.Layouts.{makers}
use Rattle.data_pdu.specs.Reading.{ctrl_of, length_of}
use Rattle.data_pdu.specs.declared.ctrl.Ctrl.TheVariants.{RejectExtInd}
use Rattle.journal_collisions.specs.journal_data.Lines.{lines_of}
use Rattle.journal_crossing.proofs.rows.worked_controls.Goals as goal

pub returns : goal.returns
unfolding lines_of ctrl_of makers length_of
returns c = record {
  request_sent = refl;
  request_taken = refl;
  rejection_sent = refl;
  rejection_taken = refl;
  known = record { ctrl = RejectExtInd 0x0F 0x2A; is = refl };
}
