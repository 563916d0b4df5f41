-- LL_PAUSE_ENC_RSP of a central in a joint run of phases (Core 5.2, volume 6 part B, section 5.1.3.2).
use Rattle.std.specs.Prelude.{Bool, not, ◌||◌}
use Rattle.joint_parameters.specs.enc_phase.Phases.{is_quiet}
use Rattle.joint_phases.specs.phase_pairs.declared.joint.PhaseLink.{PhaseLink}
use Rattle.joint_phases.specs.phase_pairs.JointRun.{is_coming, is_pause_rsp, is_pause_rsp_taken}

-- it is fixed, sent or taken, and its sender has not seen it acknowledged
abbrev pub is_pausing_down : PhaseLink → Bool
is_pausing_down s = is_coming is_pause_rsp s.down || is_pause_rsp_taken s.down

-- the central is outside Clear and Secure then
abbrev pub pauses_right : PhaseLink → Bool
pauses_right s = not (is_pausing_down s) || not (is_quiet s.central.phase)
