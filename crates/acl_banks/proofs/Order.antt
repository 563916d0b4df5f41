-- The packets of one link, in order: what each call finds and leaves of them.
use Rattle.std.proofs.Common.{◌≡◌, ℕ, ◌<◌, Bool, true, false, cond, List, [], ◌∷◌, ◌++◌, length, Some, None, refl, sym, ap, subst, ◌∙◌, arith, nat_lt}
use Rattle.std.proofs.lemmas.Bool.Decides.{nat_tests}
use Rattle.std.proofs.lemmas.Option.{none-some, same_Some}
use Rattle.std.specs.List.{find}
use Rattle.acl_banks.specs.Packets.{DataPacket, sent_length, packet_after_went, packet_after_acked, is_all_sent, IsFresh, AreFresh, IsInWork, AreInOrder, with_first, without_first}

abbrev pub is_left : DataPacket → Bool
is_left packet = nat_lt (sent_length packet) (length packet.body)

abbrev pub is_out : DataPacket → Bool
is_out packet = nat_lt 0 packet.out

in_work-fresh : (packet : DataPacket) → IsFresh packet → IsInWork packet
in_work-fresh packet fresh =
    record {
      unfinished = omega (arith, fresh.some, fresh.none_acknowledged);
      within = omega (arith, fresh.some, fresh.none_acknowledged, fresh.none_out);
    }

pub in_order-fresh : (packets : List DataPacket) → AreFresh packets → AreInOrder packets
in_order-fresh [] are = tt
in_order-fresh (p ∷ ps) are = (in_work-fresh p are.0, are.1)

fresh-append : (packets : List DataPacket) (packet : DataPacket) → AreFresh packets → IsFresh packet → AreFresh (packets ++ packet ∷ [])
fresh-append [] packet are fresh = (fresh, tt)
fresh-append (p ∷ ps) packet are fresh = (are.0, fresh-append ps packet are.1 fresh)

pub in_order-append : (packets : List DataPacket) (packet : DataPacket) → AreInOrder packets → IsFresh packet → AreInOrder (packets ++ packet ∷ [])
in_order-append [] packet order fresh = (in_work-fresh packet fresh, tt)
in_order-append (p ∷ ps) packet order fresh = (order.0, fresh-append ps packet order.1 fresh)

none_out-fresh : (packets : List DataPacket) → AreFresh packets → find is_out packets ≡ None
none_out-fresh [] are = refl
none_out-fresh (p ∷ ps) are =
    let none : is_out p ≡ false = ap (λ n. nat_lt 0 n) are.0.none_out in
    simp none (none_out-fresh ps are.1)

-- this packet is the first of these
pub record IsHead (packets : List DataPacket) (packet : DataPacket) : Type 0 where
  pub rest : List DataPacket
  pub packets_are : packets ≡ packet ∷ rest
  pub in_work : IsInWork packet
  pub fresh : AreFresh rest

-- a piece that is out is of the first packet
pub head_out : (packets : List DataPacket) (packet : DataPacket) → AreInOrder packets → find is_out packets ≡ Some packet → IsHead packets packet
head_out [] packet order found = absurd (none-some packet found)
head_out (p ∷ ps) packet order found = by_test (is_out p) refl found
  where
    by_test : (b : Bool) → is_out p ≡ b → cond b (Some p) (find is_out ps) ≡ Some packet → IsHead (p ∷ ps) packet
    by_test true e found =
        subst (IsHead (p ∷ ps)) (same_Some p packet found) (record { rest = ps; packets_are = refl; in_work = order.0; fresh = order.1 })
    by_test false e found = absurd (none-some packet (sym (none_out-fresh ps order.1) ∙ found))

-- where none is out, the first packet has the next piece
pub head_left : (packets : List DataPacket) (packet : DataPacket) → AreInOrder packets → find is_out packets ≡ None → find is_left packets ≡ Some packet → IsHead packets packet
head_left [] packet order none found = absurd (none-some packet found)
head_left (p ∷ ps) packet order none found = by_test (is_out p) refl none
  where
    by_test : (b : Bool) → is_out p ≡ b → cond b (Some p) (find is_out ps) ≡ None → IsHead (p ∷ ps) packet
    by_test true e none = absurd (none-some p (sym none))
    by_test false e none =
        let nothing : p.out ≡ 0 = grind (arith, nat_tests) in
        let work = order.0 in
        let less : p.acknowledged < length p.body = work.unfinished in
        let left : is_left p ≡ true = grind (arith, nat_tests) in
        let same : Some p ≡ Some packet = sym (rw left refl) ∙ found in
        subst (IsHead (p ∷ ps)) (same_Some p packet same) (record { rest = ps; packets_are = refl; in_work = order.0; fresh = order.1 })

pub is_out-head : (packets : List DataPacket) (packet : DataPacket) → find is_out packets ≡ Some packet → is_out packet ≡ true
is_out-head [] packet found = absurd (none-some packet found)
is_out-head (p ∷ ps) packet found = by_test (is_out p) refl found (is_out-head ps packet)
  where
    by_test : (b : Bool) → is_out p ≡ b → cond b (Some p) (find is_out ps) ≡ Some packet → (find is_out ps ≡ Some packet → is_out packet ≡ true) → is_out packet ≡ true
    by_test true e found rest = ap is_out (sym (same_Some p packet found)) ∙ e
    by_test false e found rest = rest found

pub is_left-head : (packets : List DataPacket) (packet : DataPacket) → find is_left packets ≡ Some packet → is_left packet ≡ true
is_left-head [] packet found = absurd (none-some packet found)
is_left-head (p ∷ ps) packet found = by_test (is_left p) refl found (is_left-head ps packet)
  where
    by_test : (b : Bool) → is_left p ≡ b → cond b (Some p) (find is_left ps) ≡ Some packet → (find is_left ps ≡ Some packet → is_left packet ≡ true) → is_left packet ≡ true
    by_test true e found rest = ap is_left (sym (same_Some p packet found)) ∙ e
    by_test false e found rest = rest found

-- what each step leaves of a link whose first packet it is
pub link-went : (packets : List DataPacket) (packet : DataPacket) (limit : ℕ) (head : IsHead packets packet) → is_left packet ≡ true → with_first is_left (packet_after_went limit) packets ≡ packet_after_went limit packet ∷ head.rest
link-went packets packet limit head left = rw head.packets_are (simp left refl)

pub link-acked : (packets : List DataPacket) (packet : DataPacket) (head : IsHead packets packet) → is_out packet ≡ true → with_first is_out packet_after_acked packets ≡ packet_after_acked packet ∷ head.rest
link-acked packets packet head out = rw head.packets_are (simp out refl)

pub link-completed : (packets : List DataPacket) (packet : DataPacket) (head : IsHead packets packet) → is_out packet ≡ true → without_first is_out packets ≡ head.rest
link-completed packets packet head out = rw head.packets_are (simp out refl)

pub in_order-went : (packet : DataPacket) (rest : List DataPacket) (limit : ℕ) → IsInWork packet → AreFresh rest → AreInOrder (packet_after_went limit packet ∷ rest)
in_order-went packet rest limit work fresh =
    (record { unfinished = work.unfinished; within = omega (arith, work.unfinished) }, fresh)

pub in_order-acked : (packet : DataPacket) (rest : List DataPacket) → IsInWork packet → AreFresh rest → is_all_sent packet ≡ false → AreInOrder (packet_after_acked packet ∷ rest)
in_order-acked packet rest work fresh part =
    let within = work.within in
    let less : sent_length packet < length packet.body = grind (arith, nat_tests) in
    (record { unfinished = less; within = omega (arith, less) }, fresh)

pub none_out-acked : (packet : DataPacket) (rest : List DataPacket) → AreFresh rest → find is_out (packet_after_acked packet ∷ rest) ≡ None
none_out-acked packet rest fresh = none_out-fresh rest fresh

pub none_out-rest : (rest : List DataPacket) → AreFresh rest → find is_out rest ≡ None
none_out-rest rest fresh = none_out-fresh rest fresh
