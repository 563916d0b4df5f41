-- The marked octets of packets and pieces, and what a link has of them.
use Rattle.std.proofs.Common.{◌≡◌, ℕ, zero, suc, ◌+◌, ◌-◌, ◌<◌, ◌≤◌, ◌==◌, min, Bool, true, false, cond, ◌&&◌, List, [], ◌∷◌, ◌++◌, length, map, get_or, take, drop, Some, None, refl, sym, ap, subst, ◌∙◌, arith, nat_lt, length-append, true≢false}
use Rattle.std.proofs.lemmas.Bool.Decides.{nat_tests}
use Rattle.std.proofs.lemmas.List.{drop_all, take-map, take_min, take_more, append-nil, append_assoc, length-take, length-drop, length-map}
use Rattle.std.proofs.lemmas.Option.{none-some, same_Some}
use Rattle.std.specs.List.{filter, find, flat_map}
use Rattle.acl_banks.specs.Packets.{Marked, marked_octets, DataPacket, is_of, packet_after_went, sent_length, has_unsent, piece_of, unsent_octets}

abbrev plain : ℕ → Marked
plain octet = (false, octet)

marked_octets-continued : (octets : List ℕ) → marked_octets false octets ≡ map plain octets
marked_octets-continued [] = refl
marked_octets-continued (octet ∷ octets) = refl

pub length-marked_octets : (start : Bool) (octets : List ℕ) → length (marked_octets start octets) ≡ length octets
length-marked_octets start [] = refl
length-marked_octets start (octet ∷ octets) = ap suc (length-map octets plain)

drop-continued : (n : ℕ) (octets : List ℕ) → drop n (map plain octets) ≡ map plain (drop n octets)
drop-continued zero octets = refl
drop-continued (suc n) [] = refl
drop-continued (suc n) (octet ∷ octets) = drop-continued n octets

first_only : (start : Bool) → (start && true) ≡ start
first_only true = refl
first_only false = refl

none_after : (start : Bool) → (start && false) ≡ false
none_after true = refl
none_after false = refl

-- the octets after the first ones: the first of them is marked only where none was before
pub drop-marked_octets : (start : Bool) (octets : List ℕ) (n : ℕ) → drop n (marked_octets start octets) ≡ marked_octets (start && (n == 0)) (drop n octets)
drop-marked_octets start octets zero = ap (λ b. marked_octets b octets) (sym (first_only start))
drop-marked_octets start [] (suc n) = refl
drop-marked_octets start (octet ∷ octets) (suc n) =
    let later : (suc n == 0) ≡ false = grind (arith, nat_tests) in
    drop-continued n octets ∙ sym (marked_octets-continued (drop n octets))
    ∙ ap (λ b. marked_octets b (drop n octets)) (sym (ap (λ b. start && b) later ∙ none_after start))

pub take-marked_octets : (start : Bool) (octets : List ℕ) (n : ℕ) → take n (marked_octets start octets) ≡ marked_octets start (take n octets)
take-marked_octets start octets zero = refl
take-marked_octets start [] (suc n) = refl
take-marked_octets start (octet ∷ octets) (suc n) = ap (λ rest. (start, octet) ∷ rest) (take-map plain n octets)

pub length-unsent_octets : (packet : DataPacket) → length (unsent_octets packet) ≡ length packet.body - sent_length packet
length-unsent_octets packet =
    length-drop (sent_length packet) (marked_octets packet.start packet.body)
    ∙ ap (λ n. n - sent_length packet) (length-marked_octets packet.start packet.body)

-- the octets of the next piece are the next ones of its packet
pub piece_of-octets : (limit : ℕ) (packet : DataPacket) → marked_octets (piece_of limit packet).start (piece_of limit packet).body.items ≡ take limit (unsent_octets packet)
piece_of-octets limit packet =
    sym (take-marked_octets (packet.start && (sent_length packet == 0)) (drop (sent_length packet) packet.body) limit)
    ∙ ap (take limit) (sym (drop-marked_octets packet.start packet.body (sent_length packet)))

pub length-piece_of : (limit : ℕ) (packet : DataPacket) → length (piece_of limit packet).body.items ≡ min limit (length (unsent_octets packet))
length-piece_of limit packet =
    length-take limit (drop (sent_length packet) packet.body)
    ∙ ap (min limit) (length-drop (sent_length packet) packet.body ∙ sym (length-unsent_octets packet))

-- a piece that is cut at its own length is that piece, and so many octets go out with it
pub piece-again : (limit : ℕ) (packet : DataPacket) → piece_of (length (piece_of limit packet).body.items) packet ≡ piece_of limit packet
piece-again limit packet =
    let left = drop (sent_length packet) packet.body in
    ap (λ octets. record { start = packet.start && (sent_length packet == 0); body = record { items = octets } })
    (ap (λ n. take n left) (length-take limit left) ∙ take_min limit left)

pub went-piece : (limit : ℕ) (packet : DataPacket) → packet_after_went (length (piece_of limit packet).body.items) packet ≡ packet_after_went limit packet
went-piece limit packet =
    let left : length (unsent_octets packet) ≡ length packet.body - sent_length packet = length-unsent_octets packet in
    ap (λ n. record packet { out = n }) (omega (arith, left, length-piece_of limit packet))

module _ (handle : ℕ) where
  -- what a link has not sent, of some packets
  pub unsent_in : List DataPacket → List Marked
  unsent_in packets = flat_map unsent_octets (filter (is_of handle) packets)

  pub unsent_in-is : (packets : List DataPacket) → unsent_in packets ≡ flat_map unsent_octets (filter (is_of handle) packets)
  unfolding unsent_in
  unsent_in-is packets = refl

  -- what one packet adds
  pub unsent_by : DataPacket → List Marked
  unsent_by packet = cond (is_of handle packet) (unsent_octets packet) []

  unsent_in-cons : (packet : DataPacket) (packets : List DataPacket) → unsent_in (packet ∷ packets) ≡ unsent_by packet ++ unsent_in packets
  unfolding unsent_in unsent_by
  unsent_in-cons packet packets = by_handle (is_of handle packet) refl
    where
      by_handle : (b : Bool) → is_of handle packet ≡ b → flat_map unsent_octets (cond b (packet ∷ filter (is_of handle) packets) (filter (is_of handle) packets)) ≡ cond b (unsent_octets packet) [] ++ flat_map unsent_octets (filter (is_of handle) packets)
      by_handle true e = refl
      by_handle false e = refl

  unsent_in-nil : unsent_in [] ≡ []
  unfolding unsent_in
  unsent_in-nil = refl

  pub unsent_in-append : (xs ys : List DataPacket) → unsent_in (xs ++ ys) ≡ unsent_in xs ++ unsent_in ys
  unsent_in-append [] ys = ap (λ e. e ++ unsent_in ys) (sym unsent_in-nil)
  unsent_in-append (x ∷ xs) ys =
      unsent_in-cons x (xs ++ ys) ∙ ap (λ r. unsent_by x ++ r) (unsent_in-append xs ys)
      ∙ sym (append_assoc (unsent_by x) (unsent_in xs) (unsent_in ys)) ∙ ap (λ f. f ++ unsent_in ys) (sym (unsent_in-cons x xs))

  -- one packet more, as a loop counts
  pub length-unsent_more : (packets : List DataPacket) (place : ℕ) (packet : DataPacket) → place < length packets → packet ≡ get_or packets place packet → length (unsent_in (take (place + 1) packets)) ≡ length (unsent_in (take place packets)) + cond (is_of handle packet) (length (unsent_octets packet)) 0
  unfolding unsent_by
  length-unsent_more packets place packet within read =
      let more : take (place + 1) packets ≡ take place packets ++ packet ∷ [] = take_more packets place packet within ∙ ap (λ p. take place packets ++ p ∷ []) (sym read) in
      ap (λ ps. length (unsent_in ps)) more ∙ ap length (unsent_in-append (take place packets) (packet ∷ []) ∙ ap (λ r. unsent_in (take place packets) ++ r) (unsent_in-cons packet [] ∙ ap (λ e. unsent_by packet ++ e) unsent_in-nil ∙ append-nil (unsent_by packet)))
      ∙ length-append (unsent_in (take place packets)) (unsent_by packet) ∙ ap (λ n. length (unsent_in (take place packets)) + n) (by_handle (is_of handle packet))
    where
      by_handle : (b : Bool) → length (cond b (unsent_octets packet) []) ≡ cond b (length (unsent_octets packet)) 0
      by_handle true = refl
      by_handle false = refl

  pub length-unsent_none : (packets : List DataPacket) → length (unsent_in (take 0 packets)) ≡ 0
  length-unsent_none packets = ap length unsent_in-nil

  -- a packet with nothing left adds nothing
  none_left : (packet : DataPacket) → has_unsent handle packet ≡ false → unsent_by packet ≡ []
  unfolding unsent_by
  none_left packet none = by_handle (is_of handle packet) refl
    where
      by_handle : (b : Bool) → is_of handle packet ≡ b → cond b (unsent_octets packet) [] ≡ []
      by_handle false e = refl
      by_handle true e =
          let all : nat_lt (sent_length packet) (length packet.body) ≡ false = rw e at none in
          let past : length packet.body ≤ sent_length packet = grind (arith, nat_tests) in
          drop_all (sent_length packet) (marked_octets packet.start packet.body) (omega (arith, length-marked_octets packet.start packet.body))

  -- a packet with octets left adds these
  of_link : (packet : DataPacket) (b : Bool) → is_of handle packet ≡ b → has_unsent handle packet ≡ true → unsent_by packet ≡ unsent_octets packet
  unfolding unsent_by
  of_link packet true e has = rw e refl
  of_link packet false e has = absurd (true≢false (sym (rw e at has)))

  some_left : (packet : DataPacket) (b : Bool) → is_of handle packet ≡ b → has_unsent handle packet ≡ true → 0 < length (unsent_octets packet)
  some_left packet false e has = absurd (true≢false (sym (rw e at has)))
  some_left packet true e has =
      let less : nat_lt (sent_length packet) (length packet.body) ≡ true = rw e at has in
      let below : sent_length packet < length packet.body = grind (arith, nat_tests) in
      omega (arith, length-unsent_octets packet)

  pub unsent_in-none : (packets : List DataPacket) → find (has_unsent handle) packets ≡ None → unsent_in packets ≡ []
  unsent_in-none [] none = unsent_in-nil
  unsent_in-none (p ∷ ps) none = by_test (has_unsent handle p) refl none (unsent_in-none ps)
    where
      by_test : (b : Bool) → has_unsent handle p ≡ b → cond b (Some p) (find (has_unsent handle) ps) ≡ None → (find (has_unsent handle) ps ≡ None → unsent_in ps ≡ []) → unsent_in (p ∷ ps) ≡ []
      by_test true e found rest = absurd (none-some p (sym found))
      by_test false e none rest = unsent_in-cons p ps ∙ ap (λ f. f ++ unsent_in ps) (none_left p e) ∙ rest none

  -- the first packet with octets left has the first octets that are left
  pub record IsFront (packet : DataPacket) (octets : List Marked) : Type 0 where
    pub rest : List Marked
    pub octets_are : octets ≡ unsent_octets packet ++ rest
    pub some : 0 < length (unsent_octets packet)

  pub unsent_in-first : (packets : List DataPacket) (packet : DataPacket) → find (has_unsent handle) packets ≡ Some packet → IsFront packet (unsent_in packets)
  unsent_in-first [] packet found = absurd (none-some packet found)
  unsent_in-first (p ∷ ps) packet found = by_test (has_unsent handle p) refl found (unsent_in-first ps packet)
    where
      by_test : (b : Bool) → has_unsent handle p ≡ b → cond b (Some p) (find (has_unsent handle) ps) ≡ Some packet → (find (has_unsent handle) ps ≡ Some packet → IsFront packet (unsent_in ps)) → IsFront packet (unsent_in (p ∷ ps))
      by_test true e found rest =
          let is : p ≡ packet = same_Some p packet found in
          subst (λ q. IsFront q (unsent_in (p ∷ ps))) is (record {
            rest = unsent_in ps;
            octets_are = unsent_in-cons p ps ∙ ap (λ f. f ++ unsent_in ps) (of_link p (is_of handle p) refl e);
            some = some_left p (is_of handle p) refl e;
          })
      by_test false e found rest =
          let later = rest found in record {
            rest = later.rest;
            octets_are = unsent_in-cons p ps ∙ ap (λ f. f ++ unsent_in ps) (none_left p e) ∙ later.octets_are;
            some = later.some;
          }
