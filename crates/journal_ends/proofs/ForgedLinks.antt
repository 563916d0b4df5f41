-- The link on which a packet is heard that was changed on its way.
use Rattle.std.proofs.Common.{◌≡◌, ℕ, ◌+◌, ◌≤◌, Bool, true, false, Some, List, [], ◌∷◌, refl, arith}
use Rattle.std.specs.Prelude.{if◌then◌else◌}
use Rattle.ble_base.specs.declared.roles.Side.{Side}
use Rattle.ble_base.specs.declared.roles.Side.TheVariants.{A, B}
use Rattle.journal.specs.declared.entries.Entry.{Entry}
use Rattle.journal_acks.specs.journal_links.Begun.{LinkBegun, links_begun}
use Rattle.journal_acks.specs.journal_packets.Belonging.{central_of, first_number, fits, is_side, link_of_packet}
use Rattle.journal_acks.specs.run_model.Journal.{mark_of}
use Rattle.journal_acks.proofs.link_calls.RadioUses.{first_of_both}
use Rattle.radio_replay.specs.Damage.{damaged_packet}
use Rattle.radio_replay.specs.declared.fates.Fate.{Fate}
use Rattle.radio_replay.specs.declared.fates.Fate.TheVariants.{Pass, Lost, Damage}
use Rattle.journal_ends.specs.Left.{left_of}

-- what the radio leaves of a packet is the same by the mark in its line
pub left_is : (fate : Fate) (octets : List ℕ) → left_of (mark_of fate) octets ≡ damaged_packet fate octets
left_is Pass octets = refl
left_is Lost octets = refl
left_is (Damage at pattern) octets = refl

-- ---- one packet is of a link of one central

same_side : (a b c : Side) → is_side a b ≡ true → is_side a c ≡ true → b ≡ c
same_side A A A is is_too = refl
same_side B B B is is_too = refl
same_side A B c is is_too = absurd cc
same_side B A c is is_too = absurd cc
same_side A A B is is_too = absurd cc
same_side B B A is is_too = absurd cc

later_number : (central : Side) (octets : List ℕ) (number found : ℕ) (links : List LinkBegun) → first_number central octets number links ≡ Some found → number ≤ found
later_number central octets number found [] is = absurd cc
later_number central octets number found (link ∷ links) is =
    by (fits central octets link) (later_number central octets (number + 1) found links) is
  where
    by : (one : Bool) → (first_number central octets (number + 1) links ≡ Some found → number + 1 ≤ found)
        → (if one then Some number else first_number central octets (number + 1) links) ≡ Some found → number ≤ found
    by true later is = (let same : number ≡ found = cc in omega (arith, same))
    by false later is = (let more = later is in omega (arith, more))

pub one_central : (one other : Side) (octets : List ℕ) (number found : ℕ) (links : List LinkBegun)
    → first_number one octets number links ≡ Some found → first_number other octets number links ≡ Some found → one ≡ other
one_central one other octets number found [] is is_too = absurd cc
one_central one other octets number found (link ∷ links) is is_too =
    by (fits one octets link) (fits other octets link) refl refl (one_central one other octets (number + 1) found links) is is_too
  where
    late : (central : Side) → number ≡ found → first_number central octets (number + 1) links ≡ Some found → one ≡ other
    late central same is = absurd (let more = later_number central octets (number + 1) found links is in omega (arith, same, more))

    by : (here there : Bool) → fits one octets link ≡ here → fits other octets link ≡ there
        → (first_number one octets (number + 1) links ≡ Some found → first_number other octets (number + 1) links ≡ Some found → one ≡ other)
        → (if here then Some number else first_number one octets (number + 1) links) ≡ Some found
        → (if there then Some number else first_number other octets (number + 1) links) ≡ Some found → one ≡ other
    by true true here there rest is is_too = same_side link.central one other (first_of_both _ _ here) (first_of_both _ _ there)
    by true false here there rest is is_too = (let same : number ≡ found = cc in late other same is_too)
    by false true here there rest is is_too = (let same : number ≡ found = cc in late one same is)
    by false false here there rest is is_too = rest is is_too

pub packet_central : (front : List Entry) (side : Side) (octets : List ℕ) (number : ℕ) (central : Side) → link_of_packet front side octets ≡ Some number
    → first_number central octets 1 (links_begun front) ≡ Some number → central_of front side octets ≡ central
unfolding link_of_packet
packet_central front side octets number central is is_too = one_central (central_of front side octets) central octets 1 number (links_begun front) is is_too
