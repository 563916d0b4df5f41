-- The stages of procedures after a PDU was acknowledged (Core 5.2, volume 6 part B, sections 5.1.7 and 5.1.10).
use Rattle.std.specs.Prelude.{Option, Some, None, option_map}
use Rattle.ble_base.specs.declared.procedure_kinds.Kind.{Kind}
use Rattle.procedure_values.specs.declared.drafts.Outgoing.{Outgoing}
use Rattle.exclusive_stages.specs.declared.pdus.Pdu.{Pdu}
use Rattle.exclusive_stages.specs.Acked.{done_by_ack_at_central, own_acked_at_central, own_acked_at_peripheral, peer_acked_at_central}
use Rattle.exclusive_stages.specs.Kinds.{kind_of}
use Rattle.procedure_stages.specs.declared.stages.Central.{Central}
use Rattle.procedure_stages.specs.declared.stages.Peripheral.{Peripheral}
use Rattle.procedure_stages.specs.declared.stages.Progress.{Progress}
use Rattle.procedure_stages.specs.declared.stages.Progress.TheVariants.{Central as central, Peripheral as peripheral}
use Rattle.procedure_stages.specs.Exclusive.{central_stage, on_central_stage, on_peripheral_stage, pdu_of_outgoing}

-- by the PDU, if it is of procedures that exclude each other

abbrev pub central_acked : Option Pdu → Central → Central
central_acked None c = c
central_acked (Some pdu) c =
    record c { own = on_central_stage (own_acked_at_central pdu) c.own; peer = peer_acked_at_central pdu c.peer }

abbrev pub peripheral_acked : Option Pdu → Peripheral → Peripheral
peripheral_acked None p = p
peripheral_acked (Some pdu) p = record p { own = on_peripheral_stage (own_acked_at_peripheral pdu) p.own }

abbrev pub progress_acked : Outgoing → Progress → Progress
progress_acked out (central c) = central (central_acked (pdu_of_outgoing out) c)
progress_acked out (peripheral p) = peripheral (peripheral_acked (pdu_of_outgoing out) p)

abbrev pub done_at_central_by_ack : Option Pdu → Central → Option Kind
done_at_central_by_ack None c = None
done_at_central_by_ack (Some pdu) c = option_map kind_of (done_by_ack_at_central pdu (central_stage c.own))

abbrev pub done_by_ack : Outgoing → Progress → Option Kind
done_by_ack out (central c) = done_at_central_by_ack (pdu_of_outgoing out) c
done_by_ack out (peripheral p) = None
