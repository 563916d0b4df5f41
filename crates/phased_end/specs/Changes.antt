-- A transition of an end, where it can be made (Core 5.2, volume 6 part B, section 5.1.3).
use Rattle.std.specs.Prelude.{if◌then◌else◌}
use Rattle.enc_phase.specs.declared.facts.Transition.{Transition}
use Rattle.enc_phase.specs.Phases.{may_follow}
use Rattle.enc_phase.specs.Sealing.{EncEnd, after_transition}

-- an end stays as it is where the transition cannot be made
abbrev pub end_moved : Transition → EncEnd → EncEnd
end_moved transition e = (if may_follow transition e.phase then after_transition transition e else e)
