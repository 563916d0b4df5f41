-- The proof of `ControlEnd::enter`: the two parts fit together after it.
use Rattle.std.proofs.Common.{rules}
use Rattle.control_end.proofs.Kept.{entered_fits}
use Rattle.control_end.proofs.end.ControlEnd.enter.Goals as goal

pub invariant_of-self : goal.invariant_of-self
invariant_of-self c =
    let fits = entered_fits (record { table = c.self.inside.table; track = c.self.inside.track; ends = c.self.inside.ends })
    c.args.slot.0 c.args.quiet c.self.invariant in
    search (rules, fits)
