-- What is true of the parameters of each accepted command (Core 5.2, volume 4 part E, sections 7.8.5 and 7.8.12).
use Rattle.std.specs.Prelude.{ℕ, ◌+◌, ◌*◌, ◌<◌, ◌≤◌, ◌==◌, ◌||◌, Bool}

-- the types of advertising that are supported: all but 1, with high duty cycle (section 7.8.5)
abbrev pub is_supported : ℕ → Bool
is_supported kind = (kind == 0) || (kind == 2) || (kind == 3) || (kind == 4)

-- the scan interval of an initiator, and the parameters of the link that it asks for, of which the interval is the
-- greatest that the host allows: a link outlives two intervals with the latency between them (section 7.8.12)
pub record IsLinkRequest (scan interval latency timeout : ℕ) : Type 0 where
  pub scan_from : 1 ≤ scan
  pub interval_from : 6 ≤ interval
  pub interval_to : interval ≤ 3200
  pub latency_to : latency ≤ 499
  pub timeout_from : 10 ≤ timeout
  pub timeout_to : timeout ≤ 3200
  pub timeout_outlasts : (1 + latency) * interval < timeout * 4
