-- In each state of a joint run of the procedures that exclude each other, the indications that wait at the central are owed.
use Rattle.std.proofs.Common.{◌≡◌, ℕ, Bool, true, false, List, refl, subst}
use Rattle.machines.specs.Machine.{run}
use Rattle.machines.proofs.Trees.{all_node, all_tree, find, find_is, node, none}
use Rattle.machines.proofs.Digits.{digits_of, nth, number_of}
use Rattle.collisions.proofs.CollisionCodes.{ahead_num, ahead_of, bool_num, bool_of, central_own_num, central_own_of, central_peer_num, central_peer_of, code, decode, end_num, end_of, fields_of, link_of, one_of, pdu_num, pdu_of, peripheral_own_num, peripheral_own_of, peripheral_peer_num, peripheral_peer_of, place_num, place_of, place_pdu, stage_num, two_of, way_by, way_of, way_pdu}
use Rattle.collisions.proofs.CollisionStates.{key0, key1, key2, key3, key4, key5, key6, key7, key8, key9, key10, key11, key12, key13, key14, key15, part0, part1, part2, part3, part4, part5, part6, part7, part8, part9, part10, part11, part12, part13, part14, part15, states}
use Rattle.collisions.specs.declared.events.Event.{Event}
use Rattle.collisions.specs.declared.joint.Link.{Link}
use Rattle.collisions.specs.Agreement.{is_few}
use Rattle.collisions.specs.JointRun.{collisions}
use Rattle.collisions.proofs.CollisionCodes.{back}
use Rattle.collisions.proofs.Collisions.{known}
use Rattle.run_collisions.specs.Owed.{are_indications_owed}

abbrev right : ℕ → Bool
right n = are_indications_owed (decode n)

right0 : all_tree right part0 ≡ true
unfolding states key0 key1 key2 key3 key4 key5 key6 key7 key8 key9 key10 key11 key12 key13 key14 key15 part0 part1 part2 part3 part4 part5 part6 part7 part8 part9 part10 part11 part12 part13 part14 part15 number_of digits_of nth find central_own_num central_own_of central_peer_num central_peer_of peripheral_own_num peripheral_own_of peripheral_peer_num peripheral_peer_of place_num place_of ahead_num ahead_of bool_num bool_of end_num end_of pdu_num pdu_of stage_num way_pdu way_by way_of place_pdu one_of two_of fields_of link_of code decode
right0 = refl

here0 : right key0 ≡ true
unfolding states key0 key1 key2 key3 key4 key5 key6 key7 key8 key9 key10 key11 key12 key13 key14 key15 part0 part1 part2 part3 part4 part5 part6 part7 part8 part9 part10 part11 part12 part13 part14 part15 number_of digits_of nth find central_own_num central_own_of central_peer_num central_peer_of peripheral_own_num peripheral_own_of peripheral_peer_num peripheral_peer_of place_num place_of ahead_num ahead_of bool_num bool_of end_num end_of pdu_num pdu_of stage_num way_pdu way_by way_of place_pdu one_of two_of fields_of link_of code decode
here0 = refl

right1 : all_tree right part1 ≡ true
unfolding states key0 key1 key2 key3 key4 key5 key6 key7 key8 key9 key10 key11 key12 key13 key14 key15 part0 part1 part2 part3 part4 part5 part6 part7 part8 part9 part10 part11 part12 part13 part14 part15 number_of digits_of nth find central_own_num central_own_of central_peer_num central_peer_of peripheral_own_num peripheral_own_of peripheral_peer_num peripheral_peer_of place_num place_of ahead_num ahead_of bool_num bool_of end_num end_of pdu_num pdu_of stage_num way_pdu way_by way_of place_pdu one_of two_of fields_of link_of code decode
right1 = refl

here1 : right key1 ≡ true
unfolding states key0 key1 key2 key3 key4 key5 key6 key7 key8 key9 key10 key11 key12 key13 key14 key15 part0 part1 part2 part3 part4 part5 part6 part7 part8 part9 part10 part11 part12 part13 part14 part15 number_of digits_of nth find central_own_num central_own_of central_peer_num central_peer_of peripheral_own_num peripheral_own_of peripheral_peer_num peripheral_peer_of place_num place_of ahead_num ahead_of bool_num bool_of end_num end_of pdu_num pdu_of stage_num way_pdu way_by way_of place_pdu one_of two_of fields_of link_of code decode
here1 = refl

right2 : all_tree right part2 ≡ true
unfolding states key0 key1 key2 key3 key4 key5 key6 key7 key8 key9 key10 key11 key12 key13 key14 key15 part0 part1 part2 part3 part4 part5 part6 part7 part8 part9 part10 part11 part12 part13 part14 part15 number_of digits_of nth find central_own_num central_own_of central_peer_num central_peer_of peripheral_own_num peripheral_own_of peripheral_peer_num peripheral_peer_of place_num place_of ahead_num ahead_of bool_num bool_of end_num end_of pdu_num pdu_of stage_num way_pdu way_by way_of place_pdu one_of two_of fields_of link_of code decode
right2 = refl

here2 : right key2 ≡ true
unfolding states key0 key1 key2 key3 key4 key5 key6 key7 key8 key9 key10 key11 key12 key13 key14 key15 part0 part1 part2 part3 part4 part5 part6 part7 part8 part9 part10 part11 part12 part13 part14 part15 number_of digits_of nth find central_own_num central_own_of central_peer_num central_peer_of peripheral_own_num peripheral_own_of peripheral_peer_num peripheral_peer_of place_num place_of ahead_num ahead_of bool_num bool_of end_num end_of pdu_num pdu_of stage_num way_pdu way_by way_of place_pdu one_of two_of fields_of link_of code decode
here2 = refl

right3 : all_tree right part3 ≡ true
unfolding states key0 key1 key2 key3 key4 key5 key6 key7 key8 key9 key10 key11 key12 key13 key14 key15 part0 part1 part2 part3 part4 part5 part6 part7 part8 part9 part10 part11 part12 part13 part14 part15 number_of digits_of nth find central_own_num central_own_of central_peer_num central_peer_of peripheral_own_num peripheral_own_of peripheral_peer_num peripheral_peer_of place_num place_of ahead_num ahead_of bool_num bool_of end_num end_of pdu_num pdu_of stage_num way_pdu way_by way_of place_pdu one_of two_of fields_of link_of code decode
right3 = refl

here3 : right key3 ≡ true
unfolding states key0 key1 key2 key3 key4 key5 key6 key7 key8 key9 key10 key11 key12 key13 key14 key15 part0 part1 part2 part3 part4 part5 part6 part7 part8 part9 part10 part11 part12 part13 part14 part15 number_of digits_of nth find central_own_num central_own_of central_peer_num central_peer_of peripheral_own_num peripheral_own_of peripheral_peer_num peripheral_peer_of place_num place_of ahead_num ahead_of bool_num bool_of end_num end_of pdu_num pdu_of stage_num way_pdu way_by way_of place_pdu one_of two_of fields_of link_of code decode
here3 = refl

right4 : all_tree right part4 ≡ true
unfolding states key0 key1 key2 key3 key4 key5 key6 key7 key8 key9 key10 key11 key12 key13 key14 key15 part0 part1 part2 part3 part4 part5 part6 part7 part8 part9 part10 part11 part12 part13 part14 part15 number_of digits_of nth find central_own_num central_own_of central_peer_num central_peer_of peripheral_own_num peripheral_own_of peripheral_peer_num peripheral_peer_of place_num place_of ahead_num ahead_of bool_num bool_of end_num end_of pdu_num pdu_of stage_num way_pdu way_by way_of place_pdu one_of two_of fields_of link_of code decode
right4 = refl

here4 : right key4 ≡ true
unfolding states key0 key1 key2 key3 key4 key5 key6 key7 key8 key9 key10 key11 key12 key13 key14 key15 part0 part1 part2 part3 part4 part5 part6 part7 part8 part9 part10 part11 part12 part13 part14 part15 number_of digits_of nth find central_own_num central_own_of central_peer_num central_peer_of peripheral_own_num peripheral_own_of peripheral_peer_num peripheral_peer_of place_num place_of ahead_num ahead_of bool_num bool_of end_num end_of pdu_num pdu_of stage_num way_pdu way_by way_of place_pdu one_of two_of fields_of link_of code decode
here4 = refl

right5 : all_tree right part5 ≡ true
unfolding states key0 key1 key2 key3 key4 key5 key6 key7 key8 key9 key10 key11 key12 key13 key14 key15 part0 part1 part2 part3 part4 part5 part6 part7 part8 part9 part10 part11 part12 part13 part14 part15 number_of digits_of nth find central_own_num central_own_of central_peer_num central_peer_of peripheral_own_num peripheral_own_of peripheral_peer_num peripheral_peer_of place_num place_of ahead_num ahead_of bool_num bool_of end_num end_of pdu_num pdu_of stage_num way_pdu way_by way_of place_pdu one_of two_of fields_of link_of code decode
right5 = refl

here5 : right key5 ≡ true
unfolding states key0 key1 key2 key3 key4 key5 key6 key7 key8 key9 key10 key11 key12 key13 key14 key15 part0 part1 part2 part3 part4 part5 part6 part7 part8 part9 part10 part11 part12 part13 part14 part15 number_of digits_of nth find central_own_num central_own_of central_peer_num central_peer_of peripheral_own_num peripheral_own_of peripheral_peer_num peripheral_peer_of place_num place_of ahead_num ahead_of bool_num bool_of end_num end_of pdu_num pdu_of stage_num way_pdu way_by way_of place_pdu one_of two_of fields_of link_of code decode
here5 = refl

right6 : all_tree right part6 ≡ true
unfolding states key0 key1 key2 key3 key4 key5 key6 key7 key8 key9 key10 key11 key12 key13 key14 key15 part0 part1 part2 part3 part4 part5 part6 part7 part8 part9 part10 part11 part12 part13 part14 part15 number_of digits_of nth find central_own_num central_own_of central_peer_num central_peer_of peripheral_own_num peripheral_own_of peripheral_peer_num peripheral_peer_of place_num place_of ahead_num ahead_of bool_num bool_of end_num end_of pdu_num pdu_of stage_num way_pdu way_by way_of place_pdu one_of two_of fields_of link_of code decode
right6 = refl

here6 : right key6 ≡ true
unfolding states key0 key1 key2 key3 key4 key5 key6 key7 key8 key9 key10 key11 key12 key13 key14 key15 part0 part1 part2 part3 part4 part5 part6 part7 part8 part9 part10 part11 part12 part13 part14 part15 number_of digits_of nth find central_own_num central_own_of central_peer_num central_peer_of peripheral_own_num peripheral_own_of peripheral_peer_num peripheral_peer_of place_num place_of ahead_num ahead_of bool_num bool_of end_num end_of pdu_num pdu_of stage_num way_pdu way_by way_of place_pdu one_of two_of fields_of link_of code decode
here6 = refl

right7 : all_tree right part7 ≡ true
unfolding states key0 key1 key2 key3 key4 key5 key6 key7 key8 key9 key10 key11 key12 key13 key14 key15 part0 part1 part2 part3 part4 part5 part6 part7 part8 part9 part10 part11 part12 part13 part14 part15 number_of digits_of nth find central_own_num central_own_of central_peer_num central_peer_of peripheral_own_num peripheral_own_of peripheral_peer_num peripheral_peer_of place_num place_of ahead_num ahead_of bool_num bool_of end_num end_of pdu_num pdu_of stage_num way_pdu way_by way_of place_pdu one_of two_of fields_of link_of code decode
right7 = refl

here7 : right key7 ≡ true
unfolding states key0 key1 key2 key3 key4 key5 key6 key7 key8 key9 key10 key11 key12 key13 key14 key15 part0 part1 part2 part3 part4 part5 part6 part7 part8 part9 part10 part11 part12 part13 part14 part15 number_of digits_of nth find central_own_num central_own_of central_peer_num central_peer_of peripheral_own_num peripheral_own_of peripheral_peer_num peripheral_peer_of place_num place_of ahead_num ahead_of bool_num bool_of end_num end_of pdu_num pdu_of stage_num way_pdu way_by way_of place_pdu one_of two_of fields_of link_of code decode
here7 = refl

right8 : all_tree right part8 ≡ true
unfolding states key0 key1 key2 key3 key4 key5 key6 key7 key8 key9 key10 key11 key12 key13 key14 key15 part0 part1 part2 part3 part4 part5 part6 part7 part8 part9 part10 part11 part12 part13 part14 part15 number_of digits_of nth find central_own_num central_own_of central_peer_num central_peer_of peripheral_own_num peripheral_own_of peripheral_peer_num peripheral_peer_of place_num place_of ahead_num ahead_of bool_num bool_of end_num end_of pdu_num pdu_of stage_num way_pdu way_by way_of place_pdu one_of two_of fields_of link_of code decode
right8 = refl

here8 : right key8 ≡ true
unfolding states key0 key1 key2 key3 key4 key5 key6 key7 key8 key9 key10 key11 key12 key13 key14 key15 part0 part1 part2 part3 part4 part5 part6 part7 part8 part9 part10 part11 part12 part13 part14 part15 number_of digits_of nth find central_own_num central_own_of central_peer_num central_peer_of peripheral_own_num peripheral_own_of peripheral_peer_num peripheral_peer_of place_num place_of ahead_num ahead_of bool_num bool_of end_num end_of pdu_num pdu_of stage_num way_pdu way_by way_of place_pdu one_of two_of fields_of link_of code decode
here8 = refl

right9 : all_tree right part9 ≡ true
unfolding states key0 key1 key2 key3 key4 key5 key6 key7 key8 key9 key10 key11 key12 key13 key14 key15 part0 part1 part2 part3 part4 part5 part6 part7 part8 part9 part10 part11 part12 part13 part14 part15 number_of digits_of nth find central_own_num central_own_of central_peer_num central_peer_of peripheral_own_num peripheral_own_of peripheral_peer_num peripheral_peer_of place_num place_of ahead_num ahead_of bool_num bool_of end_num end_of pdu_num pdu_of stage_num way_pdu way_by way_of place_pdu one_of two_of fields_of link_of code decode
right9 = refl

here9 : right key9 ≡ true
unfolding states key0 key1 key2 key3 key4 key5 key6 key7 key8 key9 key10 key11 key12 key13 key14 key15 part0 part1 part2 part3 part4 part5 part6 part7 part8 part9 part10 part11 part12 part13 part14 part15 number_of digits_of nth find central_own_num central_own_of central_peer_num central_peer_of peripheral_own_num peripheral_own_of peripheral_peer_num peripheral_peer_of place_num place_of ahead_num ahead_of bool_num bool_of end_num end_of pdu_num pdu_of stage_num way_pdu way_by way_of place_pdu one_of two_of fields_of link_of code decode
here9 = refl

right10 : all_tree right part10 ≡ true
unfolding states key0 key1 key2 key3 key4 key5 key6 key7 key8 key9 key10 key11 key12 key13 key14 key15 part0 part1 part2 part3 part4 part5 part6 part7 part8 part9 part10 part11 part12 part13 part14 part15 number_of digits_of nth find central_own_num central_own_of central_peer_num central_peer_of peripheral_own_num peripheral_own_of peripheral_peer_num peripheral_peer_of place_num place_of ahead_num ahead_of bool_num bool_of end_num end_of pdu_num pdu_of stage_num way_pdu way_by way_of place_pdu one_of two_of fields_of link_of code decode
right10 = refl

here10 : right key10 ≡ true
unfolding states key0 key1 key2 key3 key4 key5 key6 key7 key8 key9 key10 key11 key12 key13 key14 key15 part0 part1 part2 part3 part4 part5 part6 part7 part8 part9 part10 part11 part12 part13 part14 part15 number_of digits_of nth find central_own_num central_own_of central_peer_num central_peer_of peripheral_own_num peripheral_own_of peripheral_peer_num peripheral_peer_of place_num place_of ahead_num ahead_of bool_num bool_of end_num end_of pdu_num pdu_of stage_num way_pdu way_by way_of place_pdu one_of two_of fields_of link_of code decode
here10 = refl

right11 : all_tree right part11 ≡ true
unfolding states key0 key1 key2 key3 key4 key5 key6 key7 key8 key9 key10 key11 key12 key13 key14 key15 part0 part1 part2 part3 part4 part5 part6 part7 part8 part9 part10 part11 part12 part13 part14 part15 number_of digits_of nth find central_own_num central_own_of central_peer_num central_peer_of peripheral_own_num peripheral_own_of peripheral_peer_num peripheral_peer_of place_num place_of ahead_num ahead_of bool_num bool_of end_num end_of pdu_num pdu_of stage_num way_pdu way_by way_of place_pdu one_of two_of fields_of link_of code decode
right11 = refl

here11 : right key11 ≡ true
unfolding states key0 key1 key2 key3 key4 key5 key6 key7 key8 key9 key10 key11 key12 key13 key14 key15 part0 part1 part2 part3 part4 part5 part6 part7 part8 part9 part10 part11 part12 part13 part14 part15 number_of digits_of nth find central_own_num central_own_of central_peer_num central_peer_of peripheral_own_num peripheral_own_of peripheral_peer_num peripheral_peer_of place_num place_of ahead_num ahead_of bool_num bool_of end_num end_of pdu_num pdu_of stage_num way_pdu way_by way_of place_pdu one_of two_of fields_of link_of code decode
here11 = refl

right12 : all_tree right part12 ≡ true
unfolding states key0 key1 key2 key3 key4 key5 key6 key7 key8 key9 key10 key11 key12 key13 key14 key15 part0 part1 part2 part3 part4 part5 part6 part7 part8 part9 part10 part11 part12 part13 part14 part15 number_of digits_of nth find central_own_num central_own_of central_peer_num central_peer_of peripheral_own_num peripheral_own_of peripheral_peer_num peripheral_peer_of place_num place_of ahead_num ahead_of bool_num bool_of end_num end_of pdu_num pdu_of stage_num way_pdu way_by way_of place_pdu one_of two_of fields_of link_of code decode
right12 = refl

here12 : right key12 ≡ true
unfolding states key0 key1 key2 key3 key4 key5 key6 key7 key8 key9 key10 key11 key12 key13 key14 key15 part0 part1 part2 part3 part4 part5 part6 part7 part8 part9 part10 part11 part12 part13 part14 part15 number_of digits_of nth find central_own_num central_own_of central_peer_num central_peer_of peripheral_own_num peripheral_own_of peripheral_peer_num peripheral_peer_of place_num place_of ahead_num ahead_of bool_num bool_of end_num end_of pdu_num pdu_of stage_num way_pdu way_by way_of place_pdu one_of two_of fields_of link_of code decode
here12 = refl

right13 : all_tree right part13 ≡ true
unfolding states key0 key1 key2 key3 key4 key5 key6 key7 key8 key9 key10 key11 key12 key13 key14 key15 part0 part1 part2 part3 part4 part5 part6 part7 part8 part9 part10 part11 part12 part13 part14 part15 number_of digits_of nth find central_own_num central_own_of central_peer_num central_peer_of peripheral_own_num peripheral_own_of peripheral_peer_num peripheral_peer_of place_num place_of ahead_num ahead_of bool_num bool_of end_num end_of pdu_num pdu_of stage_num way_pdu way_by way_of place_pdu one_of two_of fields_of link_of code decode
right13 = refl

here13 : right key13 ≡ true
unfolding states key0 key1 key2 key3 key4 key5 key6 key7 key8 key9 key10 key11 key12 key13 key14 key15 part0 part1 part2 part3 part4 part5 part6 part7 part8 part9 part10 part11 part12 part13 part14 part15 number_of digits_of nth find central_own_num central_own_of central_peer_num central_peer_of peripheral_own_num peripheral_own_of peripheral_peer_num peripheral_peer_of place_num place_of ahead_num ahead_of bool_num bool_of end_num end_of pdu_num pdu_of stage_num way_pdu way_by way_of place_pdu one_of two_of fields_of link_of code decode
here13 = refl

right14 : all_tree right part14 ≡ true
unfolding states key0 key1 key2 key3 key4 key5 key6 key7 key8 key9 key10 key11 key12 key13 key14 key15 part0 part1 part2 part3 part4 part5 part6 part7 part8 part9 part10 part11 part12 part13 part14 part15 number_of digits_of nth find central_own_num central_own_of central_peer_num central_peer_of peripheral_own_num peripheral_own_of peripheral_peer_num peripheral_peer_of place_num place_of ahead_num ahead_of bool_num bool_of end_num end_of pdu_num pdu_of stage_num way_pdu way_by way_of place_pdu one_of two_of fields_of link_of code decode
right14 = refl

here14 : right key14 ≡ true
unfolding states key0 key1 key2 key3 key4 key5 key6 key7 key8 key9 key10 key11 key12 key13 key14 key15 part0 part1 part2 part3 part4 part5 part6 part7 part8 part9 part10 part11 part12 part13 part14 part15 number_of digits_of nth find central_own_num central_own_of central_peer_num central_peer_of peripheral_own_num peripheral_own_of peripheral_peer_num peripheral_peer_of place_num place_of ahead_num ahead_of bool_num bool_of end_num end_of pdu_num pdu_of stage_num way_pdu way_by way_of place_pdu one_of two_of fields_of link_of code decode
here14 = refl

right15 : all_tree right part15 ≡ true
unfolding states key0 key1 key2 key3 key4 key5 key6 key7 key8 key9 key10 key11 key12 key13 key14 key15 part0 part1 part2 part3 part4 part5 part6 part7 part8 part9 part10 part11 part12 part13 part14 part15 number_of digits_of nth find central_own_num central_own_of central_peer_num central_peer_of peripheral_own_num peripheral_own_of peripheral_peer_num peripheral_peer_of place_num place_of ahead_num ahead_of bool_num bool_of end_num end_of pdu_num pdu_of stage_num way_pdu way_by way_of place_pdu one_of two_of fields_of link_of code decode
right15 = refl

here15 : right key15 ≡ true
unfolding states key0 key1 key2 key3 key4 key5 key6 key7 key8 key9 key10 key11 key12 key13 key14 key15 part0 part1 part2 part3 part4 part5 part6 part7 part8 part9 part10 part11 part12 part13 part14 part15 number_of digits_of nth find central_own_num central_own_of central_peer_num central_peer_of peripheral_own_num peripheral_own_of peripheral_peer_num peripheral_peer_of place_num place_of ahead_num ahead_of bool_num bool_of end_num end_of pdu_num pdu_of stage_num way_pdu way_by way_of place_pdu one_of two_of fields_of link_of code decode
here15 = refl

all_right : all_tree right states ≡ true
unfolding states
all_right =
    all_node right part0 key0 (node part1 key1 (node part2 key2 (node part3 key3 (node part4 key4 (node part5 key5 (node part6 key6 (node part7 key7 (node part8 key8 (node part9 key9 (node part10 key10 (node part11 key11 (node part12 key12 (node part13 key13 (node part14 key14 (node part15 key15 none))))))))))))))) here0 right0 (all_node right part1 key1 (node part2 key2 (node part3 key3 (node part4 key4 (node part5 key5 (node part6 key6 (node part7 key7 (node part8 key8 (node part9 key9 (node part10 key10 (node part11 key11 (node part12 key12 (node part13 key13 (node part14 key14 (node part15 key15 none)))))))))))))) here1 right1 (all_node right part2 key2 (node part3 key3 (node part4 key4 (node part5 key5 (node part6 key6 (node part7 key7 (node part8 key8 (node part9 key9 (node part10 key10 (node part11 key11 (node part12 key12 (node part13 key13 (node part14 key14 (node part15 key15 none))))))))))))) here2 right2 (all_node right part3 key3 (node part4 key4 (node part5 key5 (node part6 key6 (node part7 key7 (node part8 key8 (node part9 key9 (node part10 key10 (node part11 key11 (node part12 key12 (node part13 key13 (node part14 key14 (node part15 key15 none)))))))))))) here3 right3 (all_node right part4 key4 (node part5 key5 (node part6 key6 (node part7 key7 (node part8 key8 (node part9 key9 (node part10 key10 (node part11 key11 (node part12 key12 (node part13 key13 (node part14 key14 (node part15 key15 none))))))))))) here4 right4 (all_node right part5 key5 (node part6 key6 (node part7 key7 (node part8 key8 (node part9 key9 (node part10 key10 (node part11 key11 (node part12 key12 (node part13 key13 (node part14 key14 (node part15 key15 none)))))))))) here5 right5 (all_node right part6 key6 (node part7 key7 (node part8 key8 (node part9 key9 (node part10 key10 (node part11 key11 (node part12 key12 (node part13 key13 (node part14 key14 (node part15 key15 none))))))))) here6 right6 (all_node right part7 key7 (node part8 key8 (node part9 key9 (node part10 key10 (node part11 key11 (node part12 key12 (node part13 key13 (node part14 key14 (node part15 key15 none)))))))) here7 right7 (all_node right part8 key8 (node part9 key9 (node part10 key10 (node part11 key11 (node part12 key12 (node part13 key13 (node part14 key14 (node part15 key15 none))))))) here8 right8 (all_node right part9 key9 (node part10 key10 (node part11 key11 (node part12 key12 (node part13 key13 (node part14 key14 (node part15 key15 none)))))) here9 right9 (all_node right part10 key10 (node part11 key11 (node part12 key12 (node part13 key13 (node part14 key14 (node part15 key15 none))))) here10 right10 (all_node right part11 key11 (node part12 key12 (node part13 key13 (node part14 key14 (node part15 key15 none)))) here11 right11 (all_node right part12 key12 (node part13 key13 (node part14 key14 (node part15 key15 none))) here12 right12 (all_node right part13 key13 (node part14 key14 (node part15 key15 none)) here13 right13 (all_node right part14 key14 (node part15 key15 none) here14 right14 (all_node right part15 key15 none here15 right15 refl)))))))))))))))

found : (s : Link) (b : Bool) → is_few s ≡ b → (elim b as (λ c. Bool) [ true ↦ find (code s) states | false ↦ false ]) ≡ true → are_indications_owed s ≡ true
found s true fits known = subst (λ (t : Link). are_indications_owed t ≡ true) (back s fits) (find_is right (code s) states all_right known)
found s false fits known = absurd (cc)

pub indications_owed : (events : List Event) → are_indications_owed (run collisions events) ≡ true
indications_owed events = found (run collisions events) (is_few (run collisions events)) refl (known events)
