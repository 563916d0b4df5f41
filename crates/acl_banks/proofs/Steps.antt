-- What each call leaves of a bank, from the place that it works at.
use Rattle.std.proofs.Common.{◌≡◌, ◌↔◌, if◌then◌else◌, ℕ, ◌+◌, ◌-◌, ◌<◌, ◌≤◌, min, Bool, true, false, IsTrue, List, [], length, get_or, set, take, Some, None, IsSome, refl, sym, ap, subst, ◌∙◌, arith, nat_lt, length-append}
use Rattle.std.proofs.lemmas.Bool.Decides.{nat_tests}
use Rattle.std.proofs.lemmas.Grind.{get_or-set_at}
use Rattle.std.proofs.lemmas.List.{take-append-le, take_min, get_or_read}
use Rattle.std.specs.Option.{option_map}
use Rattle.std.specs.List.{position, find, remove}
use Rattle.acl_banks.specs.Packets.{marked_octets, DataPacket, has_unsent, has_piece_out, piece_of, packet_after_went, packet_after_acked, is_all_sent, sent_length, unsent_octets, IsInOrder, with_first, without_first}
use Rattle.acl_banks.specs.Banks.{Bank, credits_of, unsent_of, next_piece, next_length, piece_length, packet_out, is_completed, bank_after_went, bank_after_acked}
use Rattle.acl_banks.proofs.Places.{IsFirst, first_from_position, find-first, find_none, with_first-set, without_first-remove}
use Rattle.acl_banks.proofs.Octets.{unsent_in-is, IsFront, unsent_in-none, unsent_in-first, length-unsent_octets, piece_of-octets, length-piece_of}
use Rattle.acl_banks.proofs.Order.{is_out}
use Rattle.acl_banks.proofs.AllLinks.{own-out, own-after_went, IsInOrder-went, IsInOrder-acked, IsInOrder-completed, none_out-after_acked, none_out-after_completed}

some_out : (left limit : ℕ) → 0 < left → 1 ≤ limit → nat_lt 0 (min limit left) ≡ true
some_out left limit more some = grind (arith, nat_tests)

module _ (bank : Bank) (handle : ℕ) where
  -- the link has sent all
  module _ (none : position (has_unsent handle) bank.packets ≡ None) where
    pub next_piece-none : (limit : ℕ) → next_piece bank handle limit ≡ None
    next_piece-none limit = ap (option_map (piece_of limit)) (find_none (has_unsent handle) bank.packets none)

    pub next_piece-absurd : (limit : ℕ) → IsSome (next_piece bank handle limit) → ⊥
    next_piece-absurd limit some =
        let nothing = next_piece-none limit in
        cc

    pub unsent_of-none : unsent_of bank handle ≡ []
    unsent_of-none = sym (unsent_in-is handle bank.packets) ∙ unsent_in-none handle bank.packets (find_none (has_unsent handle) bank.packets none)

    pub waits-none : (limit : ℕ) → next_length bank handle limit < length (unsent_of bank handle) → IsTrue false
    waits-none limit less = absurd (omega (arith, ap length unsent_of-none))

  -- the link has a packet with octets left
  module _ (place : ℕ) (packet : DataPacket) (at : position (has_unsent handle) bank.packets ≡ Some place) (read : packet ≡ get_or bank.packets place packet) where
    found : find (has_unsent handle) bank.packets ≡ Some packet
    found = find-first (has_unsent handle) bank.packets place packet (first_from_position (has_unsent handle) bank.packets place packet at) ∙ ap (λ p. Some p) (sym read)

    front : IsFront handle packet (unsent_of bank handle)
    front = subst (IsFront handle packet) (unsent_in-is handle bank.packets) (unsent_in-first handle bank.packets packet found)

    pub next_piece-first : (limit : ℕ) → next_piece bank handle limit ≡ Some (piece_of limit packet)
    next_piece-first limit = ap (option_map (piece_of limit)) found

    pub unsent_of-some : unsent_of bank handle ≡ [] → true ≡ false
    unsent_of-some nothing =
        absurd (omega (arith, ap length nothing, ap length front.octets_are, length-append (unsent_octets packet) front.rest, front.some))

    -- the octets of the piece are the first ones that are left
    pub piece-octets : (limit : ℕ) → marked_octets (piece_of limit packet).start (piece_of limit packet).body.items ≡ take (length (piece_of limit packet).body.items) (unsent_of bank handle)
    piece-octets limit =
        let whole = unsent_octets packet in
        let short : min limit (length whole) ≤ length whole = omega arith in
        piece_of-octets limit packet ∙ sym (take_min limit whole)
        ∙ sym (take-append-le (min limit (length whole)) whole front.rest short)
        ∙ ap (λ octets. take (min limit (length whole)) octets) (sym front.octets_are)
        ∙ ap (λ n. take n (unsent_of bank handle)) (sym (length-piece_of limit packet))

    pub next_length-is : (limit : ℕ) → next_length bank handle limit ≡ min limit (length (unsent_octets packet))
    next_length-is limit = ap piece_length (next_piece-first limit) ∙ length-piece_of limit packet

    pub waits-is : (limit next all : ℕ) → next ≡ min (length (unsent_octets packet)) limit → all ≡ length (unsent_of bank handle) → IsTrue (nat_lt next all) ↔ (next_length bank handle limit < length (unsent_of bank handle))
    waits-is limit next all next_is all_is =
        let same : next_length bank handle limit ≡ next = omega (arith, next_length-is limit) in
        rw (same, ← all_is) (grind (arith, nat_tests))

    pub went-is : (limit : ℕ) → record { packets = set bank.packets place (packet_after_went limit packet); counts = bank.counts } ≡ bank_after_went bank handle limit
    went-is limit =
        let first = first_from_position (has_unsent handle) bank.packets place packet at in
        let changed : with_first (has_unsent handle) (packet_after_went limit) bank.packets ≡ set bank.packets place (packet_after_went limit packet) =
        with_first-set (has_unsent handle) (packet_after_went limit) bank.packets place packet first
        ∙ ap (λ p. set bank.packets place (packet_after_went limit p)) (sym read) in
        ap (λ packets. record { packets = packets; counts = bank.counts }) (sym changed)

    module _ (order : IsInOrder bank.packets) (none : packet_out bank handle ≡ None) where
      pub went-in_order : (limit : ℕ) → IsInOrder (set bank.packets place (packet_after_went limit packet))
      went-in_order limit =
          subst (λ (b : Bank). IsInOrder b.packets) (sym (went-is limit)) (IsInOrder-went bank.packets handle order packet limit none found)

      pub went-out : (limit : ℕ) → 1 ≤ limit → IsSome (packet_out (bank_after_went bank handle limit) handle)
      went-out limit some =
          let more : 0 < length (unsent_octets packet) = front.some in
          let out : is_out (packet_after_went limit packet) ≡ true = some_out (length packet.body - sent_length packet) limit (omega (arith, length-unsent_octets packet)) some in
          let at_head = own-out (with_first (has_unsent handle) (packet_after_went limit) bank.packets) handle ∙ ap (find is_out) (own-after_went bank.packets handle order packet limit none found) in
          subst IsSome (sym at_head) (rw out refl)

  pub none_out : position (has_piece_out handle) bank.packets ≡ None → packet_out bank handle ≡ None
  none_out none = find_none (has_piece_out handle) bank.packets none

  pub none_out-absurd : position (has_piece_out handle) bank.packets ≡ None → IsSome (packet_out bank handle) → ⊥
  none_out-absurd none some =
      let nothing = none_out none in
      cc

  -- the link has a piece out
  module _ (place : ℕ) (packet : DataPacket) (at : position (has_piece_out handle) bank.packets ≡ Some place) (read : packet ≡ get_or bank.packets place packet) where
    first : IsFirst (has_piece_out handle) bank.packets place packet
    first = first_from_position (has_piece_out handle) bank.packets place packet at

    out_is : packet_out bank handle ≡ Some packet
    out_is = find-first (has_piece_out handle) bank.packets place packet first ∙ ap (λ p. Some p) (sym read)

    pub acked-whole : (count : ℕ) → is_all_sent packet ≡ true → count ≡ credits_of bank handle → record { packets = remove bank.packets place; counts = set bank.counts handle (count + 1) } ≡ bank_after_acked bank handle
    acked-whole count all counted =
        let done : is_completed (packet_out bank handle) ≡ true = ap is_completed out_is ∙ all in
        let removed : without_first (has_piece_out handle) bank.packets ≡ remove bank.packets place =
        without_first-remove (has_piece_out handle) bank.packets place packet first in
        rw (done, removed, counted) refl

    pub acked-part : (again : DataPacket) → again ≡ get_or bank.packets place again → is_all_sent packet ≡ false → record { packets = set bank.packets place (packet_after_acked again); counts = bank.counts } ≡ bank_after_acked bank handle
    acked-part again read_again part =
        let same : again ≡ packet = get_or_read bank.packets place again first.within read_again packet ∙ sym read in
        let open_still : is_completed (packet_out bank handle) ≡ false = ap is_completed out_is ∙ part in
        let changed : with_first (has_piece_out handle) packet_after_acked bank.packets ≡ set bank.packets place (packet_after_acked packet) =
        with_first-set (has_piece_out handle) packet_after_acked bank.packets place packet first
        ∙ ap (λ p. set bank.packets place (packet_after_acked p)) (sym read) in
        rw (open_still, changed, same) refl

    module _ (order : IsInOrder bank.packets) where
      pub acked-whole-in_order : IsInOrder (remove bank.packets place)
      acked-whole-in_order =
          subst IsInOrder (without_first-remove (has_piece_out handle) bank.packets place packet first) (IsInOrder-completed bank.packets handle order packet out_is)

      pub acked-part-in_order : (again : DataPacket) → again ≡ get_or bank.packets place again → is_all_sent packet ≡ false → IsInOrder (set bank.packets place (packet_after_acked again))
      acked-part-in_order again read_again part =
          let same : again ≡ packet = get_or_read bank.packets place again first.within read_again packet ∙ sym read in
          let changed : with_first (has_piece_out handle) packet_after_acked bank.packets ≡ set bank.packets place (packet_after_acked again) =
          with_first-set (has_piece_out handle) packet_after_acked bank.packets place packet first
          ∙ ap (λ p. set bank.packets place (packet_after_acked p)) (sym read ∙ sym same) in
          subst IsInOrder changed (IsInOrder-acked bank.packets handle order packet out_is part)

      pub acked-none_out : packet_out (bank_after_acked bank handle) handle ≡ None
      acked-none_out = by_length (is_all_sent packet) refl
        where
          by_length : (b : Bool) → is_all_sent packet ≡ b → packet_out (bank_after_acked bank handle) handle ≡ None
          by_length true e =
              let done : is_completed (packet_out bank handle) ≡ true = ap is_completed out_is ∙ e in
              rw done (none_out-after_completed bank.packets handle order packet out_is)
          by_length false e =
              let part : is_completed (packet_out bank handle) ≡ false = ap is_completed out_is ∙ e in
              rw part (none_out-after_acked bank.packets handle order packet out_is)

-- the count of a handle, as it is read
pub count_read : (counts : List ℕ) (i handle n : ℕ) → i ≡ handle → n ≡ get_or counts i n → handle < 65536 → length counts ≡ 65536 → n ≡ get_or counts handle 0
count_read counts i handle n at read below all = get_or_read counts i n (omega arith) read 0 ∙ ap (λ k. get_or counts k 0) at

-- the count of a link after a piece of it was acknowledged
pub acked-counted : (bank : Bank) (handle : ℕ) → handle < length bank.counts
    → credits_of (bank_after_acked bank handle) handle
    ≡ (if is_completed (packet_out bank handle) then credits_of bank handle + 1 else credits_of bank handle)
acked-counted bank handle below = by_test (is_completed (packet_out bank handle))
  where
    by_test : (b : Bool) → credits_of (if b
        then record { packets = without_first (has_piece_out handle) bank.packets; counts = set bank.counts handle (credits_of bank handle + 1) }
        else record bank { packets = with_first (has_piece_out handle) packet_after_acked bank.packets }) handle
        ≡ (if b then credits_of bank handle + 1 else credits_of bank handle)
    by_test true = get_or-set_at bank.counts handle handle (credits_of bank handle + 1) 0 refl below
    by_test false = refl
