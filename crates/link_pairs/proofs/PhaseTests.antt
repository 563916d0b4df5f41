-- In each state of a joint run of phases: where nothing of an end is on its way, the other end opens what it would seal next, or
-- the end is outside Clear and Secure and has nothing left; an end that sent LL_TERMINATE_IND is to end the link; and a
-- peripheral that does so for want of a key stays asked for encryption.
use Rattle.std.proofs.Common.{◌≡◌, ℕ, Bool, true, false, not, ◌&&◌, ◌||◌, List, is_none, refl, subst}
use Rattle.std.proofs.lemmas.Bool.{and_parts}
use Rattle.ble_base.specs.declared.roles.Role.TheVariants.{Central, Peripheral}
use Rattle.machines.specs.Machine.{run}
use Rattle.machines.proofs.Closing.{run_is_known}
use Rattle.machines.proofs.Trees.{all_tree, find, find_is}
use Rattle.machines.proofs.Digits.{digits_of, nth, number_of}
use Rattle.phase_pairs.specs.enc_phase.declared.classes.PduClass.TheVariants.{Terminate}
use Rattle.phase_pairs.specs.enc_phase.Phases.{is_asked, is_quiet, opens, seals}
use Rattle.phase_pairs.specs.declared.joint.PhaseEvent.{PhaseEvent}
use Rattle.phase_pairs.specs.declared.joint.PhaseLink.{PhaseLink}
use Rattle.phase_pairs.specs.declared.joint.PhaseWay.{PhaseWay}
use Rattle.phase_pairs.specs.Agreement.{is_equal}
use Rattle.phase_pairs.specs.Central.{is_queued}
use Rattle.phase_pairs.specs.JointRun.{encryption, is_coming, is_way_clear, is_way_taken, phases_start}
use Rattle.phase_pairs.specs.Peripheral.{is_open, is_terminate}
use Rattle.phase_pairs.proofs.Closed.{all_closed, start_known}
use Rattle.phase_pairs.proofs.Events.{coded, is_coded}
use Rattle.phase_pairs.proofs.StateCodes.{back, bool_num, bool_of, class_num, class_of, closing_num, closing_of, code, decode, fields_of, link_of, phase_num, phase_of, queued_num, queued_of, request_num, request_of, stage_num, way_mark, way_of, way_pdu}
use Rattle.phase_pairs.proofs.States.{part0, part1, part2, part3, part4, part5, part6, part7, states}
use Rattle.joint_phases.specs.Parts.{is_emptied}
use Rattle.joint_phases.proofs.MachineFacts.{is_keyless}

abbrev pub if_so : Bool → Bool → Bool
if_so a b = not a || b

abbrev pub is_settled_way : PhaseWay → Bool
is_settled_way way = is_way_clear way || is_way_taken way

abbrev pub is_next_down : PhaseLink → Bool
is_next_down s =
    is_equal (seals Central s.central.phase) (opens Peripheral s.peripheral.phase)
    || (not (is_quiet s.central.phase) && is_none s.central.queued)

abbrev pub is_next_up : PhaseLink → Bool
is_next_up s =
    is_equal (seals Peripheral s.peripheral.phase) (opens Central s.central.phase)
    || (not (is_quiet s.peripheral.phase) && is_emptied s.peripheral)

abbrev pub is_lacking : PhaseLink → Bool
is_lacking s = is_asked s.peripheral.phase && not s.peripheral.asks_key

-- ---- one test for each fact

abbrev all_hold : PhaseLink → Bool
all_hold s =
    if_so (is_settled_way s.down) (is_next_down s)
    && (if_so (is_settled_way s.up) (is_next_up s)
    && (if_so (is_queued Terminate s.peripheral.first) (is_keyless s.peripheral.closing)
    && (if_so (is_keyless s.peripheral.closing) (is_lacking s)
    && if_so (is_coming is_terminate s.up) (not (is_open s.peripheral)))))

abbrev right : ℕ → Bool
right n = all_hold (decode n)

all_right : all_tree right states ≡ true
unfolding states part0 part1 part2 part3 part4 part5 part6 part7 number_of digits_of nth find phase_num phase_of class_num class_of queued_num queued_of bool_num bool_of request_num request_of closing_num closing_of stage_num way_pdu way_mark way_of fields_of link_of code decode
all_right = refl

found : (s : PhaseLink) → find (code s) states ≡ true → all_hold s ≡ true
found s known = subst (λ (t : PhaseLink). all_hold t ≡ true) (back s) (find_is right (code s) states all_right known)

-- ---- the facts

pub record Tested (s : PhaseLink) : Type 0 where
  pub down : is_settled_way s.down ≡ true → is_next_down s ≡ true
  pub up : is_settled_way s.up ≡ true → is_next_up s ≡ true
  pub waits : is_queued Terminate s.peripheral.first ≡ true → is_keyless s.peripheral.closing ≡ true
  pub keyless : is_keyless s.peripheral.closing ≡ true → is_lacking s ≡ true
  pub shut : is_coming is_terminate s.up ≡ true → not (is_open s.peripheral) ≡ true

implied : (a b : Bool) → if_so a b ≡ true → a ≡ true → b ≡ true
implied true b holds is = holds
implied false b holds is = absurd (cc)

pub tested : (events : List PhaseEvent) → Tested (run encryption events)
tested events =
    let s = run encryption events in
    let one = and_parts (if_so (is_settled_way s.down) (is_next_down s)) _ (found s (run_is_known coded is_coded states all_closed phases_start events start_known)) in
    let two = and_parts (if_so (is_settled_way s.up) (is_next_up s)) _ one.1 in
    let three = and_parts (if_so (is_queued Terminate s.peripheral.first) (is_keyless s.peripheral.closing)) _ two.1 in
    let four = and_parts (if_so (is_keyless s.peripheral.closing) (is_lacking s)) _ three.1 in
    record {
      down = implied (is_settled_way s.down) (is_next_down s) one.0;
      up = implied (is_settled_way s.up) (is_next_up s) two.0;
      waits = implied (is_queued Terminate s.peripheral.first) (is_keyless s.peripheral.closing) three.0;
      keyless = implied (is_keyless s.peripheral.closing) (is_lacking s) four.0;
      shut = implied (is_coming is_terminate s.up) (not (is_open s.peripheral)) four.1;
    }
