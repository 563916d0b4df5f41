-- Proof of `recorder::put_own`.
use Rattle.std.proofs.Common.{◌∙◌}
use Rattle.capture.proofs.Known.{on_ok_map, own_air}
use Rattle.capture.proofs.recorder.put_own.Goals as goal

pub returns-in_ok-packet-in-Air : goal.returns-in_ok-packet-in-Air
returns-in_ok-packet-in-Air c = λ past knows.
    on_ok_map c.put_packet.result
    (own_air past c.args.entry.now c.args.before c.args.now c.in-Air.side c.in-Air.channel c.in-Air.octets
    c.as_slice-octets.result.now c.in-Air.fate c.in-Air.verdict c.direction_of-direction.result c.deref.result.now
    c.args.out.now.items c.put_packet.new.out.items c.in-Air.is (c.direction_of-direction.ensures past knows)
    (c.deref.ensures.value ∙ c.in_ok-packet-in-Air.ensures) c.as_slice-octets.ensures)
    c.put_packet.ensures
