-- Whether an end is in a phase in which it sends data and begins procedures (Core 5.2, volume 6 part B, section 5.1.3).
use Rattle.std.specs.Prelude.{Bool}
use Rattle.enc_phase.specs.Phases.{is_quiet}
use Rattle.phased_end.specs.Held.{HeldKeyed}

-- phase Clear or Secure
abbrev pub quiet_now : HeldKeyed → Bool
quiet_now h = is_quiet h.end.phase
