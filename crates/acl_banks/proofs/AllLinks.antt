-- The packets of one link after each call, for the link that the call is for and for all others.
use Rattle.std.proofs.Common.{◌≡◌, ◌≢◌, inl, inr, ℕ, ◌<◌, ◌==◌, Bool, true, false, cond, not, ◌&&◌, List, [], ◌∷◌, ◌++◌, length, Option, Some, None, refl, sym, ap, subst, ◌∙◌, arith, true≢false}
use Rattle.std.proofs.lemmas.Bool.{cases_eq}
use Rattle.std.proofs.lemmas.Bool.Decides.{nat_tests}
use Rattle.std.proofs.lemmas.List.{append-nil}
use Rattle.std.proofs.lemmas.List.Elements.{filter-append}
use Rattle.std.proofs.lemmas.List.Folds.{find-append}
use Rattle.std.specs.Option.{option_or}
use Rattle.std.specs.List.{filter, find}
use Rattle.acl_banks.specs.Packets.{DataPacket, new_packet, is_of, has_unsent, has_piece_out, packet_after_went, packet_after_acked, is_all_sent, IsFresh, AreInOrder, IsInOrder, with_first, without_first}
use Rattle.acl_banks.proofs.Links.{find-filter, filter-without_first, filter-with_first, others-without_first, others-with_first, others-filter, none-filter}
use Rattle.acl_banks.proofs.Order.{is_left, is_out, IsHead, in_order-append, in_order-fresh, head_out, head_left, is_out-head, is_left-head, link-went, link-acked, link-completed, in_order-went, in_order-acked, none_out-acked, none_out-rest}

-- the packets of a link
abbrev pub own : ℕ → List DataPacket → List DataPacket
own handle packets = filter (is_of handle) packets

of_another : (handle other : ℕ) (test : DataPacket → Bool) → other ≢ handle → (packet : DataPacket) → (is_of handle packet && test packet) ≡ true → is_of other packet ≡ false
of_another handle other test differs packet passed = by_handle (packet.handle == handle) refl passed
  where
    by_handle : (b : Bool) → (packet.handle == handle) ≡ b → (b && test packet) ≡ true → is_of other packet ≡ false
    by_handle true e passed = grind (arith, nat_tests)
    by_handle false e passed = absurd (true≢false (sym passed))

is_of-another : (handle other : ℕ) → other ≢ handle → (packet : DataPacket) → is_of handle packet ≡ true → is_of other packet ≡ false
is_of-another handle other differs packet passed = grind (arith, nat_tests)

module _ (packets : List DataPacket) (handle : ℕ) where
  -- a packet that is offered
  pub own-offer : (start : Bool) (body : List ℕ) → own handle (packets ++ new_packet handle start body ∷ []) ≡ own handle packets ++ new_packet handle start body ∷ []
  own-offer start body =
      let here : (handle == handle) ≡ true = grind (arith, nat_tests) in
      filter-append (is_of handle) packets (new_packet handle start body ∷ []) ∙ simp here refl

  pub own-offer-other : (other : ℕ) (start : Bool) (body : List ℕ) → other ≢ handle → own other (packets ++ new_packet handle start body ∷ []) ≡ own other packets
  own-offer-other other start body differs =
      let apart : (handle == other) ≡ false = grind (arith, nat_tests) in
      filter-append (is_of other) packets (new_packet handle start body ∷ []) ∙ simp apart (append-nil (own other packets))

  pub own-went : (limit : ℕ) → own handle (with_first (has_unsent handle) (packet_after_went limit) packets) ≡ with_first is_left (packet_after_went limit) (own handle packets)
  own-went limit = filter-with_first (is_of handle) is_left (packet_after_went limit) (λ packet. refl) packets

  pub own-acked : own handle (with_first (has_piece_out handle) packet_after_acked packets) ≡ with_first is_out packet_after_acked (own handle packets)
  own-acked = filter-with_first (is_of handle) is_out packet_after_acked (λ packet. refl) packets

  pub own-completed : own handle (without_first (has_piece_out handle) packets) ≡ without_first is_out (own handle packets)
  own-completed = filter-without_first (is_of handle) is_out packets

  pub own-drop : own handle (filter (λ packet. not (is_of handle packet)) packets) ≡ []
  own-drop = none-filter (is_of handle) packets

  pub own-out : find (has_piece_out handle) packets ≡ find is_out (own handle packets)
  own-out = find-filter (is_of handle) is_out packets

  pub own-left : find (has_unsent handle) packets ≡ find is_left (own handle packets)
  own-left = find-filter (is_of handle) is_left packets

  module _ (other : ℕ) (differs : other ≢ handle) where
    pub other-went : (limit : ℕ) → own other (with_first (has_unsent handle) (packet_after_went limit) packets) ≡ own other packets
    other-went limit = others-with_first (has_unsent handle) (is_of other) (of_another handle other is_left differs) (packet_after_went limit) (λ packet. refl) packets

    pub other-acked : own other (with_first (has_piece_out handle) packet_after_acked packets) ≡ own other packets
    other-acked = others-with_first (has_piece_out handle) (is_of other) (of_another handle other is_out differs) packet_after_acked (λ packet. refl) packets

    pub other-completed : own other (without_first (has_piece_out handle) packets) ≡ own other packets
    other-completed = others-without_first (has_piece_out handle) (is_of other) (of_another handle other is_out differs) packets

    pub other-drop : own other (filter (λ packet. not (is_of handle packet)) packets) ≡ own other packets
    other-drop = others-filter (is_of handle) (is_of other) (is_of-another handle other differs) packets

-- a link is in order after a step that leaves all others as they are
stays_in_order : (old new : List DataPacket) (handle : ℕ) → IsInOrder old → AreInOrder (own handle new) → ((other : ℕ) → other ≢ handle → own other new ≡ own other old) → IsInOrder new
stays_in_order old new handle order here others =
    record {
      of = λ other. elim (cases_eq other handle) [
        | inl same ↦ subst (λ h. AreInOrder (own h new)) (sym same) here
        | inr differs ↦ subst AreInOrder (sym (others other differs)) (order.of other)
      ];
    }

pub IsInOrder-empty : IsInOrder []
IsInOrder-empty = record { of = λ handle. tt }

module _ (packets : List DataPacket) (handle : ℕ) (order : IsInOrder packets) where
  pub IsInOrder-offer : (start : Bool) (body : List ℕ) → 0 < length body → IsInOrder (packets ++ new_packet handle start body ∷ [])
  IsInOrder-offer start body some =
      let fresh : IsFresh (new_packet handle start body) = record { some = some; none_acknowledged = refl; none_out = refl } in
      stays_in_order packets _ handle order
      (subst AreInOrder (sym (own-offer packets handle start body)) (in_order-append (own handle packets) _ (order.of handle) fresh))
      (λ other differs. own-offer-other packets handle other start body differs)

  -- the first packet of the link has the next piece
  pub head-left : (packet : DataPacket) → find (has_piece_out handle) packets ≡ None → find (has_unsent handle) packets ≡ Some packet → IsHead (own handle packets) packet
  head-left packet none found =
      head_left (own handle packets) packet (order.of handle) (sym (own-out packets handle) ∙ none) (sym (own-left packets handle) ∙ found)

  pub head-out : (packet : DataPacket) → find (has_piece_out handle) packets ≡ Some packet → IsHead (own handle packets) packet
  head-out packet found = head_out (own handle packets) packet (order.of handle) (sym (own-out packets handle) ∙ found)

  pub own-after_went : (packet : DataPacket) (limit : ℕ) (none : find (has_piece_out handle) packets ≡ None) (found : find (has_unsent handle) packets ≡ Some packet) → own handle (with_first (has_unsent handle) (packet_after_went limit) packets) ≡ packet_after_went limit packet ∷ (head-left packet none found).rest
  own-after_went packet limit none found =
      own-went packets handle limit
      ∙ link-went (own handle packets) packet limit (head-left packet none found) (is_left-head (own handle packets) packet (sym (own-left packets handle) ∙ found))

  pub own-after_acked : (packet : DataPacket) (found : find (has_piece_out handle) packets ≡ Some packet) → own handle (with_first (has_piece_out handle) packet_after_acked packets) ≡ packet_after_acked packet ∷ (head-out packet found).rest
  own-after_acked packet found =
      own-acked packets handle
      ∙ link-acked (own handle packets) packet (head-out packet found) (is_out-head (own handle packets) packet (sym (own-out packets handle) ∙ found))

  pub own-after_completed : (packet : DataPacket) (found : find (has_piece_out handle) packets ≡ Some packet) → own handle (without_first (has_piece_out handle) packets) ≡ (head-out packet found).rest
  own-after_completed packet found =
      own-completed packets handle
      ∙ link-completed (own handle packets) packet (head-out packet found) (is_out-head (own handle packets) packet (sym (own-out packets handle) ∙ found))

  pub IsInOrder-went : (packet : DataPacket) (limit : ℕ) → find (has_piece_out handle) packets ≡ None → find (has_unsent handle) packets ≡ Some packet → IsInOrder (with_first (has_unsent handle) (packet_after_went limit) packets)
  IsInOrder-went packet limit none found =
      let head = head-left packet none found in
      stays_in_order packets _ handle order
      (subst AreInOrder (sym (own-after_went packet limit none found)) (in_order-went packet head.rest limit head.in_work head.fresh))
      (λ other differs. other-went packets handle other differs limit)

  pub IsInOrder-acked : (packet : DataPacket) → find (has_piece_out handle) packets ≡ Some packet → is_all_sent packet ≡ false → IsInOrder (with_first (has_piece_out handle) packet_after_acked packets)
  IsInOrder-acked packet found part =
      let head = head-out packet found in
      stays_in_order packets _ handle order
      (subst AreInOrder (sym (own-after_acked packet found)) (in_order-acked packet head.rest head.in_work head.fresh part))
      (λ other differs. other-acked packets handle other differs)

  pub IsInOrder-completed : (packet : DataPacket) → find (has_piece_out handle) packets ≡ Some packet → IsInOrder (without_first (has_piece_out handle) packets)
  IsInOrder-completed packet found =
      let head = head-out packet found in
      stays_in_order packets _ handle order
      (subst AreInOrder (sym (own-after_completed packet found)) (in_order-fresh head.rest head.fresh))
      (λ other differs. other-completed packets handle other differs)

  pub IsInOrder-drop : IsInOrder (filter (λ packet. not (is_of handle packet)) packets)
  IsInOrder-drop =
      stays_in_order packets _ handle order (subst AreInOrder (sym (own-drop packets handle)) tt) (λ other differs. other-drop packets handle other differs)

  -- no piece is out once the one that was is acknowledged
  pub none_out-after_acked : (packet : DataPacket) → find (has_piece_out handle) packets ≡ Some packet → find (has_piece_out handle) (with_first (has_piece_out handle) packet_after_acked packets) ≡ None
  none_out-after_acked packet found =
      own-out _ handle ∙ ap (find is_out) (own-after_acked packet found) ∙ none_out-acked packet _ (head-out packet found).fresh

  pub none_out-after_completed : (packet : DataPacket) → find (has_piece_out handle) packets ≡ Some packet → find (has_piece_out handle) (without_first (has_piece_out handle) packets) ≡ None
  none_out-after_completed packet found =
      own-out _ handle ∙ ap (find is_out) (own-after_completed packet found) ∙ none_out-rest _ (head-out packet found).fresh

-- a packet that was just given has no piece out
pub out-offer : (packets : List DataPacket) (handle : ℕ) (start : Bool) (body : List ℕ) (link : ℕ) → find (has_piece_out link) (packets ++ new_packet handle start body ∷ []) ≡ find (has_piece_out link) packets
out-offer packets handle start body link =
    find-append (has_piece_out link) packets (new_packet handle start body ∷ [])
    ∙ ap (option_or (find (has_piece_out link) packets)) (by_test (handle == link)) ∙ keeps (find (has_piece_out link) packets)
  where
    by_test : (b : Bool) → cond (b && false) (Some (new_packet handle start body)) None ≡ None
    by_test true = refl
    by_test false = refl

    keeps : (o : Option DataPacket) → option_or o None ≡ o
    keeps None = refl
    keeps (Some packet) = refl

pub out-drop : (packets : List DataPacket) (handle : ℕ) → find (has_piece_out handle) (filter (λ packet. not (is_of handle packet)) packets) ≡ None
out-drop packets handle = own-out (filter (λ packet. not (is_of handle packet)) packets) handle ∙ ap (find is_out) (own-drop packets handle)
