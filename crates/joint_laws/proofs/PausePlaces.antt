-- In each state of a joint run of phases the central is outside Clear and Secure while its LL_PAUSE_ENC_RSP is not
-- acknowledged.
use Rattle.std.proofs.Common.{◌≡◌, ℕ, Bool, true, List, refl, subst}
use Rattle.machines.specs.Machine.{run}
use Rattle.machines.proofs.Closing.{run_is_known}
use Rattle.machines.proofs.Trees.{all_tree, find, find_is}
use Rattle.machines.proofs.Digits.{digits_of, nth, number_of}
use Rattle.joint_phases.specs.phase_pairs.declared.joint.PhaseEvent.{PhaseEvent}
use Rattle.joint_phases.specs.phase_pairs.declared.joint.PhaseLink.{PhaseLink}
use Rattle.joint_phases.specs.phase_pairs.JointRun.{encryption, phases_start}
use Rattle.joint_phases.proofs.phase_pairs.Closed.{all_closed, start_known}
use Rattle.joint_phases.proofs.phase_pairs.Events.{coded, is_coded}
use Rattle.joint_phases.proofs.phase_pairs.StateCodes.{back, bool_num, bool_of, class_num, class_of, closing_num, closing_of, code, decode, fields_of, link_of, phase_num, phase_of, queued_num, queued_of, request_num, request_of, stage_num, way_mark, way_of, way_pdu}
use Rattle.joint_phases.proofs.phase_pairs.States.{part0, part1, part2, part3, part4, part5, part6, part7, states}
use Rattle.joint_laws.specs.Pauses.{pauses_right}

abbrev right : ℕ → Bool
right n = pauses_right (decode n)

all_right : all_tree right states ≡ true
unfolding states part0 part1 part2 part3 part4 part5 part6 part7 number_of digits_of nth find phase_num phase_of class_num class_of queued_num queued_of bool_num bool_of request_num request_of closing_num closing_of stage_num way_pdu way_mark way_of fields_of link_of code decode
all_right = refl

found : (s : PhaseLink) → find (code s) states ≡ true → pauses_right s ≡ true
found s known = subst (λ (t : PhaseLink). pauses_right t ≡ true) (back s) (find_is right (code s) states all_right known)

pub pausing : (events : List PhaseEvent) → pauses_right (run encryption events) ≡ true
pausing events = found (run encryption events) (run_is_known coded is_coded states all_closed phases_start events start_known)
