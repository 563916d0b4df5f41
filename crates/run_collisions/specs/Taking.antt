-- An end takes a control PDU (Core 5.2, volume 6 part B, section 2.4.2).
use Rattle.std.specs.Prelude.{◌≡◌, ℕ, Bool, List, ◌∷◌, ◌++◌}
use Rattle.ble_base.specs.declared.notes.Note.{Note}
use Rattle.ble_base.specs.declared.notes.Note.TheVariants.{Took}
use Rattle.data_pdu.specs.Reading.{ctrl_of}
use Rattle.data_pdu.specs.declared.ctrl.Ctrl.{Ctrl}
use Rattle.data_pdu.specs.declared.ctrl.CtrlRead.TheVariants.{Known}
use Rattle.link_pairs.specs.link_model.End.{notes_after}
use Rattle.link_pairs.specs.link_model.Facts.{Facts}
use Rattle.link_pairs.specs.link_model.Setup.{Setup}
use Rattle.link_pairs.specs.link_model.Step.{PacketReceived}

-- an end takes this control PDU from these octets
pub record TakesControl (setup : Setup) (facts : Facts) (slot : ℕ) (octets : List ℕ) (room : Bool) : Type 0 where
  pub earlier : List Note
  pub number : ℕ
  pub body : List ℕ
  pub later : List Note
  pub notes :
      notes_after setup facts (PacketReceived slot octets room)
      ≡ earlier ++ Took setup.link.handle number 3 (record { items = body }) ∷ later
  pub ctrl : Ctrl
  pub is : ctrl_of body ≡ Known ctrl
