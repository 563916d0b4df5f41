-- Indications that an end takes in time (Core 5.2, volume 6 part B, section 5.5.1).
use Rattle.std.specs.Prelude.{◌+◌, ◌<◌}
use Rattle.instants.specs.Arrivals.{Taking}

-- the Instant is less than 32,767 events ahead of the event in which the indication is taken
abbrev pub IsTakenInTime : Taking → Type 0
IsTakenInTime taking = taking.change.at.0 < taking.taken_in + 32767
