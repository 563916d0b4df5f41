-- Which control PDUs a link that is not encrypted supports (our choice: links do not encrypt yet).
use Rattle.std.specs.Prelude.{Bool, true, false, if◌then◌else◌}
use Rattle.data_pdu.specs.declared.ctrl.Ctrl.{Ctrl}
use Rattle.data_pdu.specs.declared.ctrl.Ctrl.TheVariants.{EncReq, PauseEncReq}
use Rattle.data_pdu.specs.declared.ctrl.CtrlRead.{CtrlRead}
use Rattle.data_pdu.specs.declared.ctrl.CtrlRead.TheVariants.{Known, Unknown}
use Rattle.data_pdu.specs.Reading.{opcode_of}

-- the PDUs that begin or pause an encryption (Core 5.2, volume 6 part B, sections 5.1.3.1 and 5.1.3.2)
abbrev pub begins_encryption : Ctrl → Bool
begins_encryption (EncReq rand ediv skd_m iv_m) = true
begins_encryption PauseEncReq = true
begins_encryption other = false

-- one of them counts as a PDU that is not supported
abbrev pub read_supported : CtrlRead → CtrlRead
read_supported (Known ctrl) = if begins_encryption ctrl then Unknown (opcode_of ctrl) else Known ctrl
read_supported other = other
