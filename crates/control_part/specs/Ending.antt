-- The control part of one end, which its phase may end with a code of its own (Core 5.2, volume 6 part B, section 5.1.3;
-- the codes are our choice).
use Rattle.std.specs.Prelude.{Bool, true, false, Option, Some, None, is_none, if◌then◌else◌}
use Rattle.ble_base.specs.declared.error_codes.ErrCode.{ErrCode}
use Rattle.data_pdu.specs.declared.ctrl.Ctrl.{Ctrl}
use Rattle.data_pdu.specs.declared.ctrl.Ctrl.TheVariants.{PauseEncRsp}
use Rattle.control_end.specs.Held.{Held}

-- the code of the phase, or else that of the procedures
abbrev pub first_end : Option ErrCode → Option ErrCode → Option ErrCode
first_end None ends = ends
first_end (Some code) ends = Some code

abbrev pub with_end : Option ErrCode → Held → Held
with_end ended h = record h { ends = first_end ended h.ends }

-- the phase ends the link, unless it ended
abbrev pub ended_with : ErrCode → Held → Held
ended_with code h = (if is_none h.ends then record h { ends = Some code } else h)

-- whether a PDU is LL_PAUSE_ENC_RSP
abbrev pub is_pause_ctrl : Ctrl → Bool
is_pause_ctrl PauseEncRsp = true
is_pause_ctrl ctrl = false
