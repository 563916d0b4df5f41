-- What the counts of any journal keep: what is acknowledged was accepted, and what was accepted was sent.
use Rattle.std.proofs.Common.{◌≡◌, ℕ, ◌+◌, ◌≤◌, ◌==◌, ◌&&◌, Bool, true, false, not, List, [], ◌∷◌, ◌++◌, refl, arith}
use Rattle.std.specs.Prelude.{if◌then◌else◌}
use Rattle.std.proofs.lemmas.Bool.{eqb-true}
use Rattle.ble_base.specs.Side.{other_side}
use Rattle.ble_base.specs.declared.roles.Side.{Side}
use Rattle.ble_base.specs.declared.roles.Side.TheVariants.{A, B}
use Rattle.journal.specs.declared.entries.Entry.{Entry}
use Rattle.journal.specs.declared.entries.Entry.TheVariants.{Turn, Air, Took}
use Rattle.link_calls.specs.run_model.History.{is_good}
use Rattle.link_calls.specs.run_model.Links.{is_advertising}
use Rattle.journal_packets.specs.journal_links.Begun.{link_numbered}
use Rattle.journal_packets.specs.Belonging.{link_of_packet}
use Rattle.journal_acks.specs.Exchange.{Exchanged, after_packet, after_taking, carries_empty, exchange_after, exchange_from, exchange_of, is_number, first_exchanged, with_heard, with_sent, with_taken}

-- the PDUs of one end, as the other accepts them
pub record IsBounded (one other : Exchanged) : Type 0 where
  pub acknowledged : one.acked ≤ other.accepted
  pub accepted : other.accepted ≤ one.sent
  pub sent : one.sent ≤ one.acked + 1

abbrev AreBounded : (Side → Exchanged) → Type 0
AreBounded ends = (side : Side) → IsBounded (ends side) (ends (other_side side))

-- ---- each step

-- the number of what was sent, by whether all of it is acknowledged
sent_by : (all : Bool) (acked sent accepted : ℕ) → (acked == sent) ≡ all → acked ≤ accepted → accepted ≤ sent → sent ≤ acked + 1
    → (accepted ≤ (if all then sent + 1 else sent)) × ((if all then sent + 1 else sent) ≤ acked + 1)
sent_by true acked sent accepted is low high next = let same = eqb-true acked sent is in (omega (arith, high), omega (arith, same))
sent_by false acked sent accepted is low high next = (high, next)

sends : (one other : Exchanged) → IsBounded one other → IsBounded (with_sent one) other
sends one other is =
    let sent = sent_by (one.acked == one.sent) one.acked one.sent other.accepted refl is.acknowledged is.accepted is.sent in
    record { acknowledged = is.acknowledged; accepted = sent.0; sent = sent.1 }

sent_back : (one other : Exchanged) → IsBounded other one → IsBounded other (with_sent one)
sent_back one other is = record { acknowledged = is.acknowledged; accepted = is.accepted; sent = is.sent }

hears : (empty : Bool) (from one : Exchanged) → IsBounded from one → IsBounded from (with_heard empty from one)
hears true from one is =
    let a = is.acknowledged in let b = is.accepted in
    record { acknowledged = omega (arith, a, b); accepted = omega arith; sent = is.sent }
hears false from one is = record { acknowledged = is.acknowledged; accepted = is.accepted; sent = is.sent }

heard_back : (empty : Bool) (from one : Exchanged) → IsBounded one from → IsBounded (with_heard empty from one) from
heard_back empty from one is =
    let a = is.acknowledged in let b = is.accepted in let c = is.sent in
    record { acknowledged = omega arith; accepted = b; sent = omega (arith, a, c) }

takes : (from one : Exchanged) → IsBounded from one → IsBounded from (with_taken from one)
takes from one is =
    let a = is.acknowledged in let b = is.accepted in
    record { acknowledged = omega (arith, a, b); accepted = omega arith; sent = is.sent }

taken_back : (from one : Exchanged) → IsBounded one from → IsBounded (with_taken from one) from
taken_back from one is = record { acknowledged = is.acknowledged; accepted = is.accepted; sent = is.sent }

-- ---- both ends

listened : (good empty : Bool) (from one : Exchanged) → IsBounded from one
    → IsBounded from (if good then with_heard empty from one else one)
listened true empty from one is = hears empty from one is
listened false empty from one is = is

listened_back : (good empty : Bool) (from one : Exchanged) → IsBounded one from
    → IsBounded (if good then with_heard empty from one else one) from
listened_back true empty from one is = heard_back empty from one is
listened_back false empty from one is = is

packet_bounded : (sender : Side) (good empty : Bool) (ends : Side → Exchanged) → AreBounded ends → AreBounded (after_packet sender good empty ends)
packet_bounded A good empty ends are A = listened good empty (with_sent (ends A)) (ends B) (sends (ends A) (ends B) (are A))
packet_bounded A good empty ends are B = listened_back good empty (with_sent (ends A)) (ends B) (sent_back (ends A) (ends B) (are B))
packet_bounded B good empty ends are A = listened_back good empty (with_sent (ends B)) (ends A) (sent_back (ends B) (ends A) (are A))
packet_bounded B good empty ends are B = listened good empty (with_sent (ends B)) (ends A) (sends (ends B) (ends A) (are B))

taking_bounded : (taker : Side) (ends : Side → Exchanged) → AreBounded ends → AreBounded (after_taking taker ends)
taking_bounded A ends are A = taken_back (ends B) (ends A) (are A)
taking_bounded A ends are B = takes (ends B) (ends A) (are B)
taking_bounded B ends are A = takes (ends A) (ends B) (are A)
taking_bounded B ends are B = taken_back (ends A) (ends B) (are B)

bounded_if : (test : Bool) (some none : Side → Exchanged) → AreBounded some → AreBounded none → AreBounded (if test then some else none)
bounded_if true some none are others = are
bounded_if false some none are others = others

entry_bounded : (number : ℕ) (front : List Entry) (ends : Side → Exchanged) (entry : Entry) → AreBounded ends
    → AreBounded (exchange_after number front ends entry)
entry_bounded number front ends (Air sender channel octets fate verdict) are =
    let good = is_good verdict in
    let empty = carries_empty (link_numbered number front) channel octets in
    bounded_if (not (is_advertising channel) && is_number (link_of_packet front sender octets) number)
    (after_packet sender good empty ends) ends (packet_bounded sender good empty ends are) are
entry_bounded number front ends (Took taker link count llid body) are =
    bounded_if (link == number) (after_taking taker ends) ends (taking_bounded taker ends are) are
entry_bounded number front ends (Turn slot a b) are = are
entry_bounded number front ends other are = are

from_bounded : (number : ℕ) (front : List Entry) (ends : Side → Exchanged) (entries : List Entry) → AreBounded ends
    → AreBounded (exchange_from number front ends entries)
from_bounded number front ends [] are = are
from_bounded number front ends (entry ∷ entries) are =
    from_bounded number (front ++ entry ∷ []) (exchange_after number front ends entry) entries (entry_bounded number front ends entry are)

pub journal_bounded : (number : ℕ) (journal : List Entry) (side : Side)
    → IsBounded (exchange_of number journal side) (exchange_of number journal (other_side side))
unfolding exchange_of
journal_bounded number journal =
    from_bounded number [] (λ side. first_exchanged) journal
    (λ side. record { acknowledged = omega arith; accepted = omega arith; sent = omega arith })
