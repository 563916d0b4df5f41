-- The proof of the law `a_rejected_procedure_is_refused`.
use Rattle.std.proofs.Common.{refl}
use Rattle.run_collisions.proofs.PeripheralTakes.{is_refused}
use Rattle.run_collisions.proofs.Taken.{taken_rejection}
use Rattle.run_collisions.proofs.links.a_rejected_procedure_is_refused.Goals as goal

pub returns : goal.returns
returns g central peripheral slot c p channel octets room q code ends begun c_lasts p_lasts packet same supervised taking unmixed =
    is_refused g.packet_tells_its_pdu.ensures.heard central peripheral slot c p channel octets room ends begun c_lasts p_lasts packet same supervised
    (taken_rejection peripheral p slot octets room q code taking) g.a_sealed_packet_is_opened.ensures.opened unmixed q code refl
