-- The packets of one link beside its past, and how each call keeps them together.
use Rattle.std.proofs.Common.{◌≡◌, ℕ, zero, suc, ◌+◌, ◌-◌, ◌<◌, min, true, false, List, [], ◌∷◌, ◌++◌, length, map, take, drop, refl, sym, ap, ◌∙◌, arith, nat_lt, length-append}
use Rattle.std.proofs.lemmas.Bool.Decides.{nat_tests}
use Rattle.std.proofs.lemmas.List.{append-nil, append_assoc, take_min, take_all, take-append-drop, length-drop, length-take-le}
use Rattle.std.specs.List.{flat_map}
use Rattle.acl_banks.specs.Packets.{Marked, marked_octets, DataPacket, sent_length, piece_of, packet_after_went, packet_after_acked, is_all_sent, unsent_octets, octets_out, IsFresh, AreFresh, AreInOrder}
use Rattle.acl_banks.specs.History.{HostData, Past, no_past, octets_of, whole_packets}
use Rattle.acl_banks.proofs.Octets.{length-marked_octets, piece_of-octets}
use Rattle.acl_banks.proofs.Order.{in_order-append, in_order-fresh, in_order-went, in_order-acked}

abbrev given : DataPacket → HostData
given packet = record { start = packet.start; body = packet.body }

abbrev octets : DataPacket → List Marked
octets packet = marked_octets packet.start packet.body

-- the octets that are out, and those that were not sent
abbrev pub outs : List DataPacket → List Marked
outs packets = flat_map octets_out packets

abbrev pub lefts : List DataPacket → List Marked
lefts packets = flat_map unsent_octets packets

-- the octets of the first packet that were acknowledged
abbrev begun : List DataPacket → List Marked
begun [] = []
begun (packet ∷ packets) = take packet.acknowledged (octets packet)

-- the packets that are complete are before those that are not; what was acknowledged ends in the first of these
pub record IsKept (packets : List DataPacket) (count : ℕ) (past : Past) : Type 0 where
  pub in_order : AreInOrder packets
  pub complete : List HostData
  pub taken : past.packets ≡ complete ++ map given packets
  pub acknowledged : past.acknowledged ≡ octets_of complete ++ begun packets
  pub sent : past.sent ≡ past.acknowledged ++ outs packets
  pub counted : past.reported + count ≡ length complete

pub kept-empty : (count : ℕ) → count ≡ 0 → IsKept [] count no_past
kept-empty count none =
    record { in_order = tt; complete = []; taken = refl; acknowledged = refl; sent = refl; counted = omega arith }

-- a fresh packet has nothing out, and all left
outs-fresh : (packets : List DataPacket) → AreFresh packets → outs packets ≡ []
outs-fresh [] are = refl
outs-fresh (p ∷ ps) are = rw are.0.none_out (outs-fresh ps are.1)

lefts-fresh : (packets : List DataPacket) → AreFresh packets → lefts packets ≡ octets_of (map given packets)
lefts-fresh [] are = refl
lefts-fresh (p ∷ ps) are =
    let nothing : sent_length p ≡ 0 = omega (arith, are.0.none_out, are.0.none_acknowledged) in
    rw nothing (ap (λ rest. octets p ++ rest) (lefts-fresh ps are.1))

begun-fresh : (packets : List DataPacket) → AreFresh packets → begun packets ≡ []
begun-fresh [] are = refl
begun-fresh (p ∷ ps) are = rw are.0.none_acknowledged refl

outs-append : (packets : List DataPacket) (packet : DataPacket) → packet.out ≡ 0 → outs (packets ++ packet ∷ []) ≡ outs packets
outs-append [] packet none = rw none refl
outs-append (p ∷ ps) packet none = ap (λ rest. octets_out p ++ rest) (outs-append ps packet none)

begun-append : (packets : List DataPacket) (packet : DataPacket) → packet.acknowledged ≡ 0 → begun (packets ++ packet ∷ []) ≡ begun packets
begun-append [] packet none = rw none refl
begun-append (p ∷ ps) packet none = refl

given-append : (packets : List DataPacket) (packet : DataPacket) → map given (packets ++ packet ∷ []) ≡ map given packets ++ given packet ∷ []
given-append [] packet = refl
given-append (p ∷ ps) packet = ap (λ rest. given p ∷ rest) (given-append ps packet)

octets_of-append : (xs ys : List HostData) → octets_of (xs ++ ys) ≡ octets_of xs ++ octets_of ys
octets_of-append [] ys = refl
octets_of-append (x ∷ xs) ys =
    ap (λ rest. marked_octets x.start x.body ++ rest) (octets_of-append xs ys)
    ∙ sym (append_assoc (marked_octets x.start x.body) (octets_of xs) (octets_of ys))

take-nil : {A : Type 0} (n : ℕ) → take {A = A} n [] ≡ []
take-nil zero = refl
take-nil (suc n) = refl

take-add : {A : Type 0} (a b : ℕ) (xs : List A) → take (a + b) xs ≡ take a xs ++ take b (drop a xs)
take-add zero b xs = let e : 0 + b ≡ b = omega arith in rw e refl
take-add {A = A} (suc a) b [] = take-nil {A = A} (suc a + b) ∙ sym (take-nil {A = A} b)
take-add (suc a) b (x ∷ xs) =
    let e : suc a + b ≡ suc (a + b) = omega arith in
    rw e (ap (λ rest. x ∷ rest) (take-add a b xs))

-- the host gives a packet
pub kept-offer : (packets : List DataPacket) (count : ℕ) (past : Past) (packet : DataPacket) → IsFresh packet → IsKept packets count past → IsKept (packets ++ packet ∷ []) count (record past { packets = past.packets ++ given packet ∷ [] })
kept-offer packets count past packet fresh kept =
    record {
      in_order = in_order-append packets packet kept.in_order fresh;
      complete = kept.complete;
      taken = ap (λ ps. ps ++ given packet ∷ []) kept.taken ∙ append_assoc kept.complete (map given packets) (given packet ∷ [])
          ∙ ap (λ ps. kept.complete ++ ps) (sym (given-append packets packet));
      acknowledged = kept.acknowledged ∙ ap (λ b. octets_of kept.complete ++ b) (sym (begun-append packets packet fresh.none_acknowledged));
      sent = kept.sent ∙ ap (λ o. past.acknowledged ++ o) (sym (outs-append packets packet fresh.none_out));
      counted = kept.counted;
    }

-- the next piece of the first packet goes out
pub kept-went : (packet : DataPacket) (rest : List DataPacket) (count limit : ℕ) (past : Past) → IsKept (packet ∷ rest) count past → packet.out ≡ 0 → IsKept (packet_after_went limit packet ∷ rest) count (record past { sent = past.sent ++ marked_octets (piece_of limit packet).start (piece_of limit packet).body.items })
kept-went packet rest count limit past kept none =
    let order = kept.in_order in
    let nothing : outs (packet ∷ rest) ≡ [] = rw none (outs-fresh rest order.1) in
    let before : past.sent ≡ past.acknowledged = kept.sent ∙ ap (λ o. past.acknowledged ++ o) nothing ∙ append-nil past.acknowledged in
    let sent_is : sent_length packet ≡ packet.acknowledged = omega arith in
    let long : length (drop packet.acknowledged (octets packet)) ≡ length packet.body - sent_length packet =
    rw sent_is (length-drop packet.acknowledged (octets packet) ∙ ap (λ n. n - packet.acknowledged) (length-marked_octets packet.start packet.body)) in
    let piece : marked_octets (piece_of limit packet).start (piece_of limit packet).body.items ≡ take (min limit (length packet.body - sent_length packet)) (drop packet.acknowledged (octets packet)) =
    piece_of-octets limit packet ∙ ap (λ n. take limit (drop n (octets packet))) sent_is
    ∙ sym (take_min limit (drop packet.acknowledged (octets packet)))
    ∙ ap (λ n. take (min limit n) (drop packet.acknowledged (octets packet))) long in
    let out : outs (packet_after_went limit packet ∷ rest) ≡ take (min limit (length packet.body - sent_length packet)) (drop packet.acknowledged (octets packet)) =
    ap (λ o. take (min limit (length packet.body - sent_length packet)) (drop packet.acknowledged (octets packet)) ++ o) (outs-fresh rest order.1) ∙ append-nil _ in
    record {
      in_order = in_order-went packet rest limit order.0 order.1;
      complete = kept.complete;
      taken = kept.taken;
      acknowledged = kept.acknowledged;
      sent = ap (λ s. s ++ marked_octets (piece_of limit packet).start (piece_of limit packet).body.items) before
          ∙ ap (λ o. past.acknowledged ++ o) (piece ∙ sym out);
      counted = kept.counted;
    }

-- the octets acknowledged with a piece of the first packet
acknowledged_more : (packet : DataPacket) (rest : List DataPacket) (count : ℕ) (past : Past) (kept : IsKept (packet ∷ rest) count past) → past.acknowledged ++ outs (packet ∷ rest) ≡ octets_of kept.complete ++ take (sent_length packet) (octets packet)
acknowledged_more packet rest count past kept =
    let fresh = kept.in_order.1 in
    let out : outs (packet ∷ rest) ≡ octets_out packet = ap (λ o. octets_out packet ++ o) (outs-fresh rest fresh) ∙ append-nil (octets_out packet) in
    ap (λ o. past.acknowledged ++ o) out ∙ ap (λ a. a ++ octets_out packet) kept.acknowledged
    ∙ append_assoc (octets_of kept.complete) (take packet.acknowledged (octets packet)) (octets_out packet)
    ∙ ap (λ t. octets_of kept.complete ++ t) (sym (take-add packet.acknowledged packet.out (octets packet)))

-- a piece is acknowledged, and its packet is not complete
pub kept-acked : (packet : DataPacket) (rest : List DataPacket) (count : ℕ) (past : Past) → IsKept (packet ∷ rest) count past → is_all_sent packet ≡ false → IsKept (packet_after_acked packet ∷ rest) count (record past { acknowledged = past.acknowledged ++ outs (packet ∷ rest) })
kept-acked packet rest count past kept part =
    let order = kept.in_order in
    let none : outs (packet_after_acked packet ∷ rest) ≡ [] = outs-fresh rest order.1 in
    record {
      in_order = in_order-acked packet rest order.0 order.1 part;
      complete = kept.complete;
      taken = kept.taken;
      acknowledged = acknowledged_more packet rest count past kept;
      sent = kept.sent ∙ sym (append-nil (past.acknowledged ++ outs (packet ∷ rest))) ∙ ap (λ o. (past.acknowledged ++ outs (packet ∷ rest)) ++ o) (sym none);
      counted = kept.counted;
    }

-- a piece is acknowledged, and its packet is complete
pub kept-completed : (packet : DataPacket) (rest : List DataPacket) (count : ℕ) (past : Past) → IsKept (packet ∷ rest) count past → is_all_sent packet ≡ true → IsKept rest (count + 1) (record past { acknowledged = past.acknowledged ++ outs (packet ∷ rest) })
kept-completed packet rest count past kept all =
    let order = kept.in_order in
    let whole : sent_length packet ≡ length packet.body = grind (arith, nat_tests) in
    let every : take (sent_length packet) (octets packet) ≡ octets packet = take_all (sent_length packet) (octets packet) (omega (arith, length-marked_octets packet.start packet.body)) in
    record {
      in_order = in_order-fresh rest order.1;
      complete = kept.complete ++ given packet ∷ [];
      taken = kept.taken ∙ sym (append_assoc kept.complete (given packet ∷ []) (map given rest));
      acknowledged = acknowledged_more packet rest count past kept ∙ ap (λ t. octets_of kept.complete ++ t) (every ∙ sym (append-nil (octets packet)))
          ∙ sym (octets_of-append kept.complete (given packet ∷ []))
          ∙ sym (append-nil (octets_of (kept.complete ++ given packet ∷ [])))
          ∙ ap (λ b. octets_of (kept.complete ++ given packet ∷ []) ++ b) (sym (begun-fresh rest order.1));
      sent = kept.sent ∙ sym (append-nil (past.acknowledged ++ outs (packet ∷ rest))) ∙ ap (λ o. (past.acknowledged ++ outs (packet ∷ rest)) ++ o) (sym (outs-fresh rest order.1));
      counted = omega (arith, kept.counted, length-append kept.complete (given packet ∷ []));
    }

-- the count is reported
pub kept-credited : (packets : List DataPacket) (count : ℕ) (past : Past) → IsKept packets count past → IsKept packets 0 (record past { reported = past.reported + count })
kept-credited packets count past kept =
    record {
      in_order = kept.in_order;
      complete = kept.complete;
      taken = kept.taken;
      acknowledged = kept.acknowledged;
      sent = kept.sent;
      counted = omega (arith, kept.counted);
    }

-- what it comes to: all octets taken were sent or are left
pub all_octets : (packets : List DataPacket) (count : ℕ) (past : Past) → IsKept packets count past → past.sent ++ lefts packets ≡ octets_of past.packets
all_octets [] count past kept =
    append-nil past.sent ∙ kept.sent ∙ append-nil past.acknowledged ∙ kept.acknowledged ∙ append-nil (octets_of kept.complete)
    ∙ ap octets_of (sym (kept.taken ∙ append-nil kept.complete))
all_octets (packet ∷ rest) count past kept =
    let fresh = kept.in_order.1 in
    let m = octets packet in
    ap (λ s. s ++ lefts (packet ∷ rest)) (kept.sent ∙ acknowledged_more packet rest count past kept)
    ∙ append_assoc (octets_of kept.complete) (take (sent_length packet) m) (lefts (packet ∷ rest))
    ∙ ap (λ t. octets_of kept.complete ++ t)
    (sym (append_assoc (take (sent_length packet) m) (drop (sent_length packet) m) (lefts rest))
    ∙ ap (λ t. t ++ lefts rest) (take-append-drop (sent_length packet) m)
    ∙ ap (λ t. m ++ t) (lefts-fresh rest fresh))
    ∙ sym (octets_of-append kept.complete (map given (packet ∷ rest)))
    ∙ ap octets_of (sym kept.taken)

-- the packets that are complete are those whose last octet was acknowledged
whole-append : (complete others : List HostData) (k : ℕ) → whole_packets (complete ++ others) (length (octets_of complete) + k) ≡ length complete + whole_packets others k
whole-append [] others k =
    let e : 0 + k ≡ k = omega arith in
    rw e (omega arith)
whole-append (x ∷ xs) others k =
    let size = length x.body in
    let long : length (octets_of (x ∷ xs)) ≡ size + length (octets_of xs) =
    length-append (marked_octets x.start x.body) (octets_of xs) ∙ ap (λ n. n + length (octets_of xs)) (length-marked_octets x.start x.body) in
    let reached : nat_lt (length (octets_of (x ∷ xs)) + k) size ≡ false = grind (arith, nat_tests) in
    let later : length (octets_of (x ∷ xs)) + k - size ≡ length (octets_of xs) + k = omega arith in
    let rest : whole_packets (xs ++ others) (length (octets_of (x ∷ xs)) + k - size) ≡ length xs + whole_packets others k = ap (whole_packets (xs ++ others)) later ∙ whole-append xs others k in
    rw reached (ap (λ n. 1 + n) rest ∙ omega arith)

whole_none : (packet : DataPacket) (rest : List HostData) (k : ℕ) → k < length packet.body → whole_packets (given packet ∷ rest) k ≡ 0
whole_none packet rest k less =
    let below : nat_lt k (length packet.body) ≡ true = grind (arith, nat_tests) in
    rw below refl

pub all_counted : (packets : List DataPacket) (count : ℕ) (past : Past) → IsKept packets count past → past.reported + count ≡ whole_packets past.packets (length past.acknowledged)
all_counted [] count past kept =
    let long : length past.acknowledged ≡ length (octets_of kept.complete) + 0 = ap length (kept.acknowledged ∙ append-nil (octets_of kept.complete)) ∙ omega arith in
    let whole : whole_packets (kept.complete ++ []) (length (octets_of kept.complete) + 0) ≡ length kept.complete + 0 = whole-append kept.complete [] 0 in
    rw (kept.taken, long) (omega (arith, kept.counted, whole))
all_counted (packet ∷ rest) count past kept =
    let work = kept.in_order.0 in
    let long : length past.acknowledged ≡ length (octets_of kept.complete) + packet.acknowledged =
    ap length kept.acknowledged ∙ length-append (octets_of kept.complete) (take packet.acknowledged (octets packet))
    ∙ ap (λ n. length (octets_of kept.complete) + n) (length-take-le packet.acknowledged (octets packet) (omega (arith, work.unfinished, length-marked_octets packet.start packet.body))) in
    let whole = whole-append kept.complete (map given (packet ∷ rest)) packet.acknowledged in
    let none = whole_none packet (map given rest) packet.acknowledged work.unfinished in
    rw (kept.taken, long) (omega (arith, kept.counted, whole, none))
