-- What holds in each state of the machine of phases, in the form in which a joint run uses it: more than its laws say,
-- and computed over the same list of states.
use Rattle.std.proofs.Common.{◌≡◌, ℕ, Bool, true, false, not, ◌&&◌, ◌||◌, List, is_none, refl}
use Rattle.std.proofs.lemmas.Bool.{and_parts}
use Rattle.phase_pairs.specs.enc_phase.declared.classes.PduClass.TheVariants.{Terminate}
use Rattle.phase_pairs.specs.enc_phase.declared.facts.PhaseFacts.{PhaseFacts}
use Rattle.phase_pairs.specs.enc_phase.declared.facts.PhaseFacts.TheVariants.{HalfClear}
use Rattle.phase_pairs.specs.enc_phase.Phases.{is_quiet}
use Rattle.phase_pairs.specs.declared.joint.PhaseEvent.{PhaseEvent}
use Rattle.phase_pairs.specs.declared.joint.PhaseLink.{PhaseLink}
use Rattle.phase_pairs.specs.declared.joint.PhaseWay.{PhaseWay}
use Rattle.phase_pairs.specs.declared.peripheral.PhaseClosing.{PhaseClosing}
use Rattle.phase_pairs.specs.declared.peripheral.PhaseClosing.TheVariants.{HasNoKey}
use Rattle.phase_pairs.specs.declared.peripheral.UnsentRequest.{UnsentRequest}
use Rattle.phase_pairs.specs.declared.peripheral.UnsentRequest.TheVariants.{Last}
use Rattle.phase_pairs.specs.Agreement.{is_encryption}
use Rattle.phase_pairs.specs.Central.{is_queued}
use Rattle.phase_pairs.specs.JointRun.{encryption, is_coming, is_on_air, is_pause_rsp, is_pause_rsp_taken, is_request, is_way_fixed, phases_start}
use Rattle.phase_pairs.specs.Peripheral.{has_unsent}
use Rattle.phase_pairs.proofs.Closed.{all_closed, start_known}
use Rattle.phase_pairs.proofs.Events.{coded, is_coded}
use Rattle.phase_pairs.proofs.StateCodes.{back, bool_num, bool_of, class_num, class_of, closing_num, closing_of, code, decode, fields_of, link_of, phase_num, phase_of, queued_num, queued_of, request_num, request_of, stage_num, way_mark, way_of, way_pdu}
use Rattle.phase_pairs.proofs.States.{part0, part1, part2, part3, part4, part5, part6, part7, states}
use Rattle.machines.specs.Machine.{run}
use Rattle.machines.proofs.Closing.{is_known, run_is_known}
use Rattle.machines.proofs.Digits.{digits_of, nth, number_of}
use Rattle.machines.proofs.Trees.{all_tree, find, find_is}

-- ---- one test for each fact

abbrev if_so : Bool → Bool → Bool
if_so a b = not a || b

abbrev pub is_half_clear : PhaseFacts → Bool
is_half_clear (HalfClear kept) = true
is_half_clear phase = false

abbrev pub is_keyless : PhaseClosing → Bool
is_keyless HasNoKey = true
is_keyless closing = false

abbrev pub is_after : UnsentRequest → Bool
is_after Last = true
is_after request = false

-- an LL_PAUSE_ENC_RSP of the central is on the air, or was taken and is not acknowledged
abbrev pub has_pause_rsp : PhaseWay → Bool
has_pause_rsp way = is_pause_rsp_taken way || is_on_air is_pause_rsp way

abbrev all_hold : PhaseLink → Bool
all_hold s =
    if_so (is_on_air is_request s.down) s.central.awaits
    && (if_so (is_on_air is_request s.down) (is_none s.peripheral.first)
    && (if_so (is_on_air is_request s.down) (not s.peripheral.owes)
    && (if_so (has_pause_rsp s.down) (is_half_clear s.central.phase)
    && (if_so (has_pause_rsp s.down) (is_none s.central.queued)
    && (if_so s.central.awaits (is_quiet s.central.phase)
    && (if_so (is_on_air is_encryption s.down) (is_none s.peripheral.first)
    && (if_so s.peripheral.asks_key (is_none s.peripheral.second)
    && (if_so s.peripheral.asks_key (not (is_after s.peripheral.request))
    && (if_so (has_unsent s.peripheral) (not (is_coming is_request s.up))
    && (if_so (is_queued Terminate s.peripheral.first) (is_keyless s.peripheral.closing)
    && (if_so (is_quiet s.central.phase) (is_none s.central.queued)
    && (if_so (is_on_air is_encryption s.up) (is_none s.central.queued)
    && (if_so (is_none s.peripheral.first) (is_none s.peripheral.second)
    && not (is_way_fixed s.down))))))))))))))

abbrev holds_in : ℕ → Bool
holds_in n = all_hold (decode n)

all_states : all_tree holds_in states ≡ true
unfolding states part0 part1 part2 part3 part4 part5 part6 part7 number_of digits_of nth find phase_num phase_of class_num class_of queued_num queued_of bool_num bool_of request_num request_of closing_num closing_of stage_num way_pdu way_mark way_of fields_of link_of code decode
all_states = refl

-- ---- the facts, one by one

pub record Settled (s : PhaseLink) : Type 0 where
  -- a PDU to be answered that is on its way down is awaited, and the peripheral owes nothing then
  pub request_awaited : is_on_air is_request s.down ≡ true → s.central.awaits ≡ true
  pub request_alone : is_on_air is_request s.down ≡ true → is_none s.peripheral.first ≡ true
  pub request_first : is_on_air is_request s.down ≡ true → not s.peripheral.owes ≡ true
  -- while an LL_PAUSE_ENC_RSP of the central is on the air, or taken and not acknowledged
  pub pause_phase : has_pause_rsp s.down ≡ true → is_half_clear s.central.phase ≡ true
  pub pause_queued : has_pause_rsp s.down ≡ true → is_none s.central.queued ≡ true
  pub awaits_in_quiet : s.central.awaits ≡ true → is_quiet s.central.phase ≡ true
  -- a PDU of the encryption is queued where none waits, or after the first
  pub down_alone : is_on_air is_encryption s.down ≡ true → is_none s.peripheral.first ≡ true
  pub key_second : s.peripheral.asks_key ≡ true → is_none s.peripheral.second ≡ true
  pub key_request : s.peripheral.asks_key ≡ true → not (is_after s.peripheral.request) ≡ true
  -- one first PDU of the peripheral at most
  pub one_unsent : has_unsent s.peripheral ≡ true → not (is_coming is_request s.up) ≡ true
  pub first_keyless : is_queued Terminate s.peripheral.first ≡ true → is_keyless s.peripheral.closing ≡ true
  pub quiet_queued : is_quiet s.central.phase ≡ true → is_none s.central.queued ≡ true
  pub up_queued : is_on_air is_encryption s.up ≡ true → is_none s.central.queued ≡ true
  pub second_after : is_none s.peripheral.first ≡ true → is_none s.peripheral.second ≡ true
  -- a central fixes and sends in one step
  pub never_fixed : not (is_way_fixed s.down) ≡ true

so_then : (a b : Bool) → if_so a b ≡ true → a ≡ true → b ≡ true
so_then true b both is = both
so_then false b both is = absurd (cc)

-- the first of a row of tests, and the others
head : (a b : Bool) → a && b ≡ true → a ≡ true
head a b both = (and_parts a b both).0

tail : (a b : Bool) → a && b ≡ true → b ≡ true
tail a b both = (and_parts a b both).1

settled_by : (s : PhaseLink) → all_hold s ≡ true → Settled s
settled_by s a0 =
    let a1 = tail _ _ a0 in
    let a2 = tail _ _ a1 in
    let a3 = tail _ _ a2 in
    let a4 = tail _ _ a3 in
    let a5 = tail _ _ a4 in
    let a6 = tail _ _ a5 in
    let a7 = tail _ _ a6 in
    let a8 = tail _ _ a7 in
    let a9 = tail _ _ a8 in
    let a10 = tail _ _ a9 in
    let a11 = tail _ _ a10 in
    let a12 = tail _ _ a11 in
    let a13 = tail _ _ a12 in
    let a14 = tail _ _ a13 in
    record {
      request_awaited = so_then _ _ (head _ _ a0);
      request_alone = so_then _ _ (head _ _ a1);
      request_first = so_then _ _ (head _ _ a2);
      pause_phase = so_then _ _ (head _ _ a3);
      pause_queued = so_then _ _ (head _ _ a4);
      awaits_in_quiet = so_then _ _ (head _ _ a5);
      down_alone = so_then _ _ (head _ _ a6);
      key_second = so_then _ _ (head _ _ a7);
      key_request = so_then _ _ (head _ _ a8);
      one_unsent = so_then _ _ (head _ _ a9);
      first_keyless = so_then _ _ (head _ _ a10);
      quiet_queued = so_then _ _ (head _ _ a11);
      up_queued = so_then _ _ (head _ _ a12);
      second_after = so_then _ _ (head _ _ a13);
      never_fixed = a14;
    }

known : (events : List PhaseEvent) → is_known coded states (run encryption events) ≡ true
known events = run_is_known coded is_coded states all_closed phases_start events start_known

-- a state that is known passes
pub settled : (events : List PhaseEvent) → Settled (run encryption events)
settled events =
    let s : PhaseLink = run encryption events in
    settled_by s (rw (← back s) (find_is holds_in (code s) states all_states (known events)))
