-- In each state of a joint run of phases, an end whose PDU is on the air seals exactly where that is sealed, and so does
-- a peripheral whose data is fixed; and a peripheral whose host has no key after a pause is outside Clear and Secure.
use Rattle.std.proofs.Common.{◌≡◌, ℕ, Bool, true, not, ◌&&◌, ◌||◌, List, refl, subst}
use Rattle.std.proofs.lemmas.Bool.{and_parts}
use Rattle.ble_base.specs.declared.roles.Role.{Role}
use Rattle.ble_base.specs.declared.roles.Role.TheVariants.{Central, Peripheral}
use Rattle.machines.specs.Machine.{run}
use Rattle.machines.proofs.Closing.{run_is_known}
use Rattle.machines.proofs.Trees.{all_tree, find, find_is}
use Rattle.machines.proofs.Digits.{digits_of, nth, number_of}
use Rattle.enc_phase.specs.declared.facts.PhaseFacts.{PhaseFacts}
use Rattle.enc_phase.specs.Phases.{is_quiet, seals}
use Rattle.phase_pairs.specs.declared.joint.PhaseEvent.{PhaseEvent}
use Rattle.phase_pairs.specs.declared.joint.PhaseLink.{PhaseLink}
use Rattle.phase_pairs.specs.declared.joint.PhaseWay.{PhaseWay}
use Rattle.phase_pairs.specs.declared.joint.PhaseWay.TheVariants.{Fixed, OnAir}
use Rattle.phase_pairs.specs.Agreement.{is_equal}
use Rattle.phase_pairs.specs.JointRun.{encryption, is_data, phases_start}
use Rattle.phase_pairs.specs.Peripheral.{is_disconnecting, is_open}
use Rattle.phase_pairs.proofs.Closed.{all_closed, start_known}
use Rattle.phase_pairs.proofs.Events.{coded, is_coded}
use Rattle.phase_pairs.proofs.StateCodes.{back, bool_num, bool_of, class_num, class_of, closing_num, closing_of, code, decode, fields_of, link_of, phase_num, phase_of, queued_num, queued_of, request_num, request_of, stage_num, way_mark, way_of, way_pdu}
use Rattle.phase_pairs.proofs.States.{part0, part1, part2, part3, part4, part5, part6, part7, states}

-- the end that sends seals as its PDU is sealed; what a peripheral fixes and is no data is sealed as it is sent
abbrev pub is_way_right : Role → PhaseFacts → PhaseWay → Bool
is_way_right role phase (OnAir pdu sealed) = is_equal sealed (seals role phase)
is_way_right role phase (Fixed pdu sealed) = not (is_data pdu) || is_equal sealed (seals role phase)
is_way_right role phase way = true

abbrev pub are_ways_right : PhaseLink → Bool
are_ways_right s = is_way_right Central s.central.phase s.down && is_way_right Peripheral s.peripheral.phase s.up

-- a peripheral that is to end the link for want of a key is loud
abbrev pub is_closing_right : PhaseLink → Bool
is_closing_right s = is_open s.peripheral || (is_disconnecting s.peripheral.closing || not (is_quiet s.peripheral.phase))

abbrev are_right : PhaseLink → Bool
are_right s = are_ways_right s && is_closing_right s

abbrev right : ℕ → Bool
right n = are_right (decode n)

all_right : all_tree right states ≡ true
unfolding states part0 part1 part2 part3 part4 part5 part6 part7 number_of digits_of nth find phase_num phase_of class_num class_of queued_num queued_of bool_num bool_of request_num request_of closing_num closing_of stage_num way_pdu way_mark way_of fields_of link_of code decode
all_right = refl

found : (s : PhaseLink) → find (code s) states ≡ true → are_right s ≡ true
found s known = subst (λ (t : PhaseLink). are_right t ≡ true) (back s) (find_is right (code s) states all_right known)

both_right : (events : List PhaseEvent) → (are_ways_right (run encryption events) ≡ true) × (is_closing_right (run encryption events) ≡ true)
both_right events =
    and_parts (are_ways_right (run encryption events)) (is_closing_right (run encryption events))
    (found (run encryption events) (run_is_known coded is_coded states all_closed phases_start events start_known))

pub ways_right : (events : List PhaseEvent) → are_ways_right (run encryption events) ≡ true
ways_right events = (both_right events).0

pub closing_right : (events : List PhaseEvent) → is_closing_right (run encryption events) ≡ true
closing_right events = (both_right events).1
