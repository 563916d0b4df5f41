-- The proof of `ControlEnd::send_next`: the two parts fit together after it.
use Rattle.std.proofs.Common.{rules}
use Rattle.control_end.proofs.Kept.{sent_fits}
use Rattle.control_end.proofs.end.ControlEnd.send_next.Goals as goal

pub invariant_of-self-in_default : goal.invariant_of-self-in_default
invariant_of-self-in_default c =
    let fits = sent_fits (record { table = c.self.inside.table; track = c.self.inside.track; ends = c.self.inside.ends })
    c.event-event.result.0 c.params-latency.result.latency c.args.quiet c.args.slot.0 c.self.invariant in
    search (rules, fits)
