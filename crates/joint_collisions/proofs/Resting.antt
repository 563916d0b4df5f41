-- A peripheral at which no indication waits has no procedure that one would end: the law of each state of a joint run, by
-- the list of those states.
use Rattle.std.proofs.Common.{◌≡◌, ℕ, Bool, true, false, not, ◌&&◌, ◌||◌, Option, Some, None, is_some, refl, subst}
use Rattle.exclusive_stages.specs.declared.stages.PeripheralStage.{PeripheralStage}
use Rattle.exclusive_stages.specs.declared.stages.PeripheralStage.TheVariants.{Idle, RequestGranted}
use Rattle.exclusive_stages.specs.declared.stages.PeerAtPeripheral.{PeerAtPeripheral}
use Rattle.exclusive_stages.specs.declared.stages.PeerAtPeripheral.TheVariants.{Absent, MapTaken, UpdateTaken}
use Rattle.collisions.specs.declared.joint.Link.{Link}
use Rattle.collisions.specs.CentralTable.{has_no_peer}
use Rattle.exclusive_stages.specs.Kinds.{is_idle_at_central}
use Rattle.collisions.specs.JointRun.{is_empty, is_open}
use Rattle.joint_collisions.specs.FirstPdus.{has_own_first}
use Rattle.collisions.specs.PeripheralTable.{applied, is_waiting}
use Rattle.collisions.specs.declared.peripheral.Peripheral.{Peripheral}
use Rattle.exclusive_stages.specs.declared.pdus.Exclusive.{Exclusive}
use Rattle.exclusive_stages.specs.Held.{own_held_at_peripheral, peer_held_at_peripheral}
use Rattle.machines.proofs.Trees.{all_tree, find, find_is}
use Rattle.machines.proofs.Digits.{digits_of, nth, number_of}
use Rattle.machines.proofs.Closing.{is_known}
use Rattle.collisions.proofs.CollisionEvents.{coded, is_coded}
use Rattle.collisions.proofs.CollisionCodes.{ahead_num, ahead_of, bool_num, bool_of, central_own_num, central_own_of, central_peer_num, central_peer_of, code, decode, end_num, end_of, fields_of, link_of, one_of, pdu_num, pdu_of, peripheral_own_num, peripheral_own_of, peripheral_peer_num, peripheral_peer_of, place_num, place_of, place_pdu, stage_num, two_of, way_by, way_of, way_pdu}
use Rattle.collisions.proofs.CollisionStates.{key0, key1, key2, key3, key4, key5, key6, key7, key8, key9, key10, key11, key12, key13, key14, key15, part0, part1, part2, part3, part4, part5, part6, part7, part8, part9, part10, part11, part12, part13, part14, part15, states}

abbrev ends_by_instant : PeripheralStage → PeerAtPeripheral → Bool
ends_by_instant RequestGranted peer = true
ends_by_instant own UpdateTaken = true
ends_by_instant own MapTaken = true
ends_by_instant own peer = false

abbrev is_resting : Link → Bool
is_resting s = is_waiting s.peripheral || not (ends_by_instant s.peripheral.own s.peripheral.peer)

abbrev rests_in : ℕ → Bool
rests_in n = is_resting (decode n)

all_rest : all_tree rests_in states ≡ true
unfolding states key0 key1 key2 key3 key4 key5 key6 key7 key8 key9 key10 key11 key12 key13 key14 key15 part0 part1 part2 part3 part4 part5 part6 part7 part8 part9 part10 part11 part12 part13 part14 part15 number_of digits_of nth central_own_num central_own_of central_peer_num central_peer_of peripheral_own_num peripheral_own_of peripheral_peer_num peripheral_peer_of place_num place_of ahead_num ahead_of bool_num bool_of end_num end_of pdu_num pdu_of stage_num way_pdu way_by way_of place_pdu one_of two_of fields_of link_of code decode
all_rest = refl

-- the first PDUs of the peripheral, where the link has not ended
abbrev is_first_right : Link → Bool
is_first_right s = not (is_open s.end) || has_own_first s

abbrev firsts_in : ℕ → Bool
firsts_in n = is_first_right (decode n)

all_firsts : all_tree firsts_in states ≡ true
unfolding states key0 key1 key2 key3 key4 key5 key6 key7 key8 key9 key10 key11 key12 key13 key14 key15 part0 part1 part2 part3 part4 part5 part6 part7 part8 part9 part10 part11 part12 part13 part14 part15 number_of digits_of nth central_own_num central_own_of central_peer_num central_peer_of peripheral_own_num peripheral_own_of peripheral_peer_num peripheral_peer_of place_num place_of ahead_num ahead_of bool_num bool_of end_num end_of pdu_num pdu_of stage_num way_pdu way_by way_of place_pdu one_of two_of fields_of link_of code decode
all_firsts = refl

-- at a central with no procedure in progress of either end no PDU but rejections waits
abbrev is_quiet_right : Link → Bool
is_quiet_right s = not (is_idle_at_central s.central.own && has_no_peer s.central.peer) || is_empty s.central.queue.items

abbrev quiet_in : ℕ → Bool
quiet_in n = is_quiet_right (decode n)

all_quiet : all_tree quiet_in states ≡ true
unfolding states key0 key1 key2 key3 key4 key5 key6 key7 key8 key9 key10 key11 key12 key13 key14 key15 part0 part1 part2 part3 part4 part5 part6 part7 part8 part9 part10 part11 part12 part13 part14 part15 number_of digits_of nth central_own_num central_own_of central_peer_num central_peer_of peripheral_own_num peripheral_own_of peripheral_peer_num peripheral_peer_of place_num place_of ahead_num ahead_of bool_num bool_of end_num end_of pdu_num pdu_of stage_num way_pdu way_by way_of place_pdu one_of two_of fields_of link_of code decode
all_quiet = refl

module _ (test : Link → Bool) (all : all_tree (λ n. test (decode n)) states ≡ true) where
  tested_by : (s : Link) (b : Bool) → coded.fits s ≡ b → (elim b as (λ c. Bool) [ true ↦ find (coded.code s) states | false ↦ false ]) ≡ true
      → test s ≡ true
  tested_by s true fits found =
      subst (λ (t : Link). test t ≡ true) (is_coded.back s fits) (find_is (λ n. test (decode n)) (coded.code s) states all found)
  tested_by s false fits found = absurd (cc)

  tested : (s : Link) → is_known coded states s ≡ true → test s ≡ true
  tested s found = tested_by s (coded.fits s) refl found

rests_by : (s : Link) → is_known coded states s ≡ true → is_resting s ≡ true
rests_by s found = tested is_resting all_rest s found

-- where the link is open
pub firsts_right : (s : Link) → is_known coded states s ≡ true → is_open s.end ≡ true → has_own_first s ≡ true
firsts_right s found opened = by (is_open s.end) (has_own_first s) opened (tested is_first_right all_firsts s found)
  where
    by : (a b : Bool) → a ≡ true → (not a || b) ≡ true → b ≡ true
    by true b is h = h
    by false b is h = absurd (cc)

pub none_queued : (s : Link) → is_known coded states s ≡ true → is_idle_at_central s.central.own ≡ true → has_no_peer s.central.peer ≡ true
    → is_empty s.central.queue.items ≡ true
none_queued s found own peer = by (is_idle_at_central s.central.own) (has_no_peer s.central.peer) (is_empty s.central.queue.items) own peer (tested is_quiet_right all_quiet s found)
  where
    by : (a b c : Bool) → a ≡ true → b ≡ true → (not (a && b) || c) ≡ true → c ≡ true
    by true true c ha hb h = h
    by true false c ha hb h = absurd (cc)
    by false b c ha hb h = absurd (cc)

module _ (p : Peripheral) where
  own_rests : (own : PeripheralStage) (peer : PeerAtPeripheral) → not (ends_by_instant own peer) ≡ true
      → (own_held_at_peripheral own ≡ own) × (peer_held_at_peripheral peer ≡ peer)
  own_rests RequestGranted peer h = absurd (cc)
  own_rests own UpdateTaken h = absurd (cc)
  own_rests own MapTaken h = absurd (cc)
  own_rests Idle Absent h = (refl, refl)
  own_rests own peer h = (refl, refl)

  held_is : (ahead : Option Exclusive) → ahead ≡ None → (is_some ahead || not (ends_by_instant p.own p.peer)) ≡ true
      → applied (record p { ahead = ahead }) ≡ record p { ahead = ahead }
  held_is (Some kind) is h = absurd (cc)
  held_is None is h = let both = own_rests p.own p.peer h in rw (both.0, both.1) refl

-- so nothing changes there as the event of an instant is entered
pub rests : (s : Link) → is_known coded states s ≡ true → s.peripheral.ahead ≡ None → applied s.peripheral ≡ s.peripheral
rests s found free = held_is s.peripheral s.peripheral.ahead free (rests_by s found)
