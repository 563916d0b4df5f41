-- The last PDU of an end as joint runs have it, by what both ends hold of acknowledgement (Core 5.2, volume 6 part B,
-- section 4.5.9).
use Rattle.std.specs.Prelude.{◌≡◌, ◌+◌, ◌||◌, Bool, true, false, Some, length}
use Rattle.data_pdu.specs.declared.ctrl.Ctrl.{Ctrl}
use Rattle.data_pdu.specs.declared.ctrl.CtrlRead.TheVariants.{Known}
use Rattle.data_pdu.specs.Layouts.{IsCtrl}
use Rattle.joint_laws.specs.joint_controls.Joint.{Clear, Control, Data, Fixed, Item, OnAir, Taken, Way, is_last}
use Rattle.two_tracks.specs.TwoEnds.{LastPdu, Untaken, Acknowledged}
use Rattle.two_tracks.specs.TwoEnds as two_ends
use Rattle.link_model.specs.Acknowledgement.{Acknowledgement, Pdu, is_acked}
use Rattle.link_model.specs.Data.{is_data, is_empty}
use Rattle.link_model.specs.Controls.{pdu_of_control, read_of}

-- a control PDU, as its sender writes it and the other end reads it
pub record IsControlPdu (ctrl : Ctrl) (pdu : Pdu) : Type 0 where
  pub written_as : pdu ≡ pdu_of_control (Some ctrl)
  pub is_ctrl : IsCtrl ctrl
  pub read_as : read_of pdu ≡ Known ctrl

-- what joint runs have of a PDU that is not empty
abbrev pub IsItem : Item → Pdu → Type 0
IsItem Data pdu = is_data pdu ≡ true
IsItem (Control outgoing ctrl) pdu = IsControlPdu ctrl pdu

-- the other end has not accepted the last PDU
abbrev pub IsUntaken : Acknowledgement → Acknowledgement → Type 0
IsUntaken from to = length to.accepted + 1 ≡ length from.sent

-- it has, and its sender has not seen that acknowledged
pub record IsUnseen (from to : Acknowledgement) : Type 0 where
  pub taken : length to.accepted ≡ length from.sent
  pub unseen : from.acked + 1 ≡ length from.sent

-- a direction of the link by the counts of its sender and its receiver. A PDU that is taken is not the last one of a link
-- that goes on, and none is fixed between two calls
abbrev pub ShowsWay : Way → Acknowledgement → Acknowledgement → Type 0
ShowsWay Clear from to = (is_empty from.last || is_acked from) ≡ true
ShowsWay (Fixed item sealed) from to = ⊥
ShowsWay (OnAir item sealed) from to = IsItem item from.last × IsUntaken from to
ShowsWay (Taken item) from to = IsItem item from.last × IsUnseen from to × (is_last item ≡ false)

-- the last PDU of the central as the laws of both tracks have it, also an empty one
abbrev pub is_untaken : LastPdu → Bool
is_untaken (Untaken change) = true
is_untaken last = false

pub record ShowsLast (last : LastPdu) (from to : Acknowledgement) : Type 0 where
  pub acknowledged : is_acked from ≡ true → last ≡ Acknowledged
  pub taken : IsUnseen from to → last ≡ two_ends.Taken
  pub untaken : IsUntaken from to → is_untaken last ≡ true
