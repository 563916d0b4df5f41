-- The request of a central, as the code keeps it (Core 5.2, volume 6 part B, section 2.4.2.4).
use Rattle.std.specs.Prelude.{Option, Some, None}
use Rattle.data_pdu.specs.declared.ctrl.Ctrl.{Ctrl}
use Rattle.data_pdu.specs.declared.ctrl.Ctrl.TheVariants.{EncReq}
use Rattle.phased_end.specs.declared.material.EncRequest.{EncRequest}

abbrev pub request_ctrl : EncRequest → Ctrl
request_ctrl r = EncReq r.rand r.ediv r.skd_m r.iv_m

abbrev pub request_in : Option EncRequest → Option Ctrl
request_in None = None
request_in (Some r) = Some (request_ctrl r)
