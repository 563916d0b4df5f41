-- Addresses of six octets: those of commands that are read, and those of PDUs that are heard.
use Rattle.std.proofs.Common.{◌≡◌, ℕ, zero, suc, ◌+◌, ◌%◌, ◌≤◌, ◌==◌, ◌||◌, Bool, true, false, Option, Some, None, List, [], ◌∷◌, cond, length, take, drop, slice_index, refl, subst, arith, rules}
use Rattle.std.specs.Prelude.{nat_le, ◌&&◌, ⊤}
use Rattle.std.specs.List.{AllByRecursion}
use Rattle.std.specs.Option.{option_and_then}
use Rattle.std.proofs.lemmas.Bool.{and_parts, eqb-true}
use Rattle.std.proofs.lemmas.Bool.Decides.{nat_tests}
use Rattle.std.proofs.lemmas.List.{length-drop, length-take-le}
use Rattle.wire_fields.specs.Layout.{Layout, is_whole, value_of}
use Rattle.wire_fields.specs.Table.{value_in}
use Rattle.hci_cmd.specs.declared.command.HandleCount.{HandleCount}
use Rattle.hci_cmd.specs.declared.command.Command.{Command}
use Rattle.hci_cmd.specs.declared.command.Command.TheVariants.{LeSetRandomAddress, LeSetAdvParams}
use Rattle.hci_cmd.specs.declared.command.CmdRead.{CmdRead}
use Rattle.hci_cmd.specs.declared.command.CmdRead.TheVariants.{Known, BadLength}
use Rattle.hci_cmd.specs.Command.{command_of, counts_layout, layout_of, layouts, read_with}
use Rattle.adv_pdu.specs.declared.pdu.AdvPdu.{AdvPdu}
use Rattle.adv_pdu.specs.declared.pdu.AdvPdu.TheVariants.{Ind, Direct, Nonconn, ScanReq, ScanRsp, Connect, ScanInd}
use Rattle.adv_pdu.specs.Pdu.{sender_of}
use Rattle.adv_pdu.specs.Reading.{flag_at, is_adv_pdu, is_payload_length, link_in, pdu_of_type, read_of, sender_in, target_in}
use Rattle.controller_model.specs.Packets.{heard_on_channel, pdu_by, pdu_heard}

six_taken : (start : ℕ) (octets : List ℕ) → start + 6 ≤ length octets → length (take 6 (drop start octets)) ≡ 6
six_taken start octets room = length-take-le 6 (drop start octets) (omega (arith, length-drop start octets))

-- ---- in commands: a random address, and the target of directed advertising

abbrev pub SixOf : Command → Type 0
SixOf (LeSetRandomAddress address) = length address ≡ 6
SixOf (LeSetAdvParams min max kind own peer_kind peer channels policy) = length peer ≡ 6
SixOf other = ⊤

abbrev SixRow : Layout Command → Type 0
SixRow layout = (octets : List ℕ) → is_whole layout octets ≡ true → SixOf (value_of layout octets)

abbrev SixLayout : Option (Layout Command) → Type 0
SixLayout None = ⊤
SixLayout (Some layout) = SixRow layout

abbrev pub SixRead : CmdRead → Type 0
SixRead (Known command) = SixOf command
SixRead other = ⊤

is_six : (count : ℕ) → (count == 6) ≡ true → count ≡ 6
is_six count is = grind (arith, nat_tests)

six_octets : (octets : List ℕ) → (length octets == 6) ≡ true → length (take 6 octets) ≡ 6
six_octets octets whole = let six = is_six (length octets) whole in length-take-le 6 octets (omega arith)

six_later : (octets : List ℕ) → (length octets == 15) ≡ true → length (take 6 (drop 1 (drop 1 (drop 1 (drop 2 (drop 2 octets)))))) ≡ 6
six_later octets whole =
    let many = eqb-true (length octets) 15 whole in
    let a = drop 2 octets in
    let b = drop 2 a in
    let c = drop 1 b in
    let d = drop 1 c in
    six_taken 1 d (omega (arith, many, length-drop 2 octets, length-drop 2 a, length-drop 1 b, length-drop 1 c))

counts_six : (handles : ℕ) (taken : List HandleCount) (octets : List ℕ) → SixOf (value_of (counts_layout handles taken) octets)
counts_six zero taken octets = tt
counts_six (suc handles) taken octets = counts_six handles _ _

rows_six : AllByRecursion (λ (row : ℕ × Layout Command). SixRow row.1) layouts
unfolding layouts
rows_six = search (rules, six_octets, six_later, counts_six)

six_by : (is_row : Bool) (layout : Layout Command) (found : Option (Layout Command)) → SixRow layout → SixLayout found
    → SixLayout (cond is_row (Some layout) found)
six_by true layout found here later = here
six_by false layout found here later = later

six_in : (rows : List (ℕ × Layout Command)) (opcode : ℕ) → AllByRecursion (λ (row : ℕ × Layout Command). SixRow row.1) rows → SixLayout (value_in rows opcode)
six_in [] opcode are = tt
six_in (row ∷ rows) opcode are = six_by (opcode == row.0) row.1 (value_in rows opcode) are.0 (six_in rows opcode are.1)

six_if : (short whole : Bool) (command : Command) → (whole ≡ true → SixOf command) → SixRead (cond (short && whole) (Known command) BadLength)
six_if true true command is = is refl
six_if true false command is = tt
six_if false whole command is = tt

six_with : (found : Option (Layout Command)) (octets : List ℕ) → SixLayout found → SixRead (read_with found octets)
six_with None octets is = tt
six_with (Some layout) octets is = six_if _ (is_whole layout octets) (value_of layout octets) (is octets)

six_read : (opcode : ℕ) (octets : List ℕ) → SixRead (command_of opcode octets)
unfolding command_of layout_of
six_read opcode octets = six_with (value_in layouts opcode) octets (six_in layouts opcode rows_six)

pub six_known : (opcode : ℕ) (octets : List ℕ) (command : Command) → command_of opcode octets ≡ Known command → SixOf command
six_known opcode octets command is = subst SixRead is (six_read opcode octets)

-- ---- in PDUs: the address of the sender

abbrev SentFrom : List ℕ → Option AdvPdu → Type 0
SentFrom octets None = ⊤
SentFrom octets (Some pdu) = sender_of pdu ≡ sender_in octets

from_by : (a b c d e f g : Bool) (octets : List ℕ)
    → SentFrom octets (cond a (Some (Ind (sender_in octets) (flag_at 5 octets) (record { items = drop 8 octets })))
    (cond b (Some (Direct (sender_in octets) (target_in octets) (flag_at 5 octets)))
    (cond c (Some (Nonconn (sender_in octets) (record { items = drop 8 octets })))
    (cond d (Some (ScanReq (sender_in octets) (target_in octets)))
    (cond e (Some (ScanRsp (sender_in octets) (record { items = drop 8 octets })))
    (cond f (Some (Connect (sender_in octets) (target_in octets) (flag_at 5 octets) (link_in octets)))
    (cond g (Some (ScanInd (sender_in octets) (record { items = drop 8 octets }))) None)))))))
from_by true b c d e f g octets = refl
from_by false true c d e f g octets = refl
from_by false false true d e f g octets = refl
from_by false false false true e f g octets = refl
from_by false false false false true f g octets = refl
from_by false false false false false true g octets = refl
from_by false false false false false false true octets = refl
from_by false false false false false false false octets = tt

from_sender : (kind : ℕ) (octets : List ℕ) → SentFrom octets (pdu_of_type kind octets)
from_sender kind octets = from_by (kind == 0) (kind == 1) (kind == 2) (kind == 3) (kind == 4) (kind == 5) (kind == 6) octets

least_by : (connects directed : Bool) (kind count : ℕ)
    → cond connects (count == 34) (cond directed (count == 12) (nat_le kind 6 && nat_le 6 count && nat_le count 37)) ≡ true → 6 ≤ count
least_by true directed kind count is = grind (arith, nat_tests)
least_by false true kind count is = grind (arith, nat_tests)
least_by false false kind count is = grind (arith, nat_tests)

six_sender : (octets : List ℕ) → is_adv_pdu octets ≡ true → length (sender_in octets).octets ≡ 6
six_sender octets is =
    let parts = and_parts _ (is_payload_length (slice_index octets 0 % 16) (slice_index octets 1)) is in
    let sized = and_parts (nat_le 2 (length octets)) (length octets == 2 + slice_index octets 1) parts.0 in
    let kind = slice_index octets 0 % 16 in
    let least = least_by (kind == 5) ((kind == 1) || (kind == 3)) kind (slice_index octets 1) parts.1 in
    six_taken 2 octets (omega (arith, eqb-true (length octets) (2 + slice_index octets 1) sized.1, least))

abbrev HasSixFrom : Option AdvPdu → Type 0
HasSixFrom None = ⊤
HasSixFrom (Some pdu) = length (sender_of pdu).octets ≡ 6

six_found : (octets : List ℕ) (found : Option AdvPdu) → SentFrom octets found → length (sender_in octets).octets ≡ 6 → HasSixFrom found
six_found octets None from six = tt
six_found octets (Some pdu) from six = rw from six

six_if_pdu : (test : Bool) (octets : List ℕ) → is_adv_pdu octets ≡ test
    → HasSixFrom (cond test (pdu_of_type (slice_index octets 0 % 16) octets) None)
six_if_pdu true octets is =
    six_found octets (pdu_of_type (slice_index octets 0 % 16) octets) (from_sender (slice_index octets 0 % 16) octets) (six_sender octets is)
six_if_pdu false octets is = tt

six_of_read : (octets : List ℕ) → HasSixFrom (read_of octets)
unfolding read_of
six_of_read octets = six_if_pdu (is_adv_pdu octets) octets refl

six_of_octets : (found : Option (List ℕ)) → HasSixFrom (option_and_then read_of found)
six_of_octets None = tt
six_of_octets (Some octets) = six_of_read octets

six_of_heard : (channel : ℕ) (octets : List ℕ) → HasSixFrom (pdu_heard channel octets)
unfolding pdu_heard
six_of_heard channel octets = six_of_octets (pdu_by (heard_on_channel channel octets))

pub six_heard : (channel : ℕ) (octets : List ℕ) (pdu : AdvPdu) → pdu_heard channel octets ≡ Some pdu → length (sender_of pdu).octets ≡ 6
six_heard channel octets pdu is = subst HasSixFrom is (six_of_heard channel octets)
