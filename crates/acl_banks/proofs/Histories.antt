-- Over every list of calls, the bank and the past of a link stay together.
use Rattle.std.proofs.Common.{◌≡◌, inl, inr, ℕ, ◌+◌, ◌<◌, ◌≤◌, ◌==◌, Bool, true, false, cond, not, ◌&&◌, if◌then◌else◌, List, [], ◌∷◌, ◌++◌, length, set, get_or, Option, Some, None, IsSome, refl, sym, ap, subst, ◌∙◌, arith, true≢false, length-set}
use Rattle.std.proofs.lemmas.Bool.{cases_eq}
use Rattle.std.proofs.lemmas.Bool.Decides.{nat_tests}
use Rattle.std.proofs.lemmas.List.{get_or-set_same, get_or-set_other}
use Rattle.std.proofs.lemmas.Option.{none-some}
use Rattle.std.specs.Option.{option_map}
use Rattle.std.specs.List.{find}
use Rattle.acl_banks.specs.Packets.{marked_octets, DataPacket, new_packet, has_unsent, has_piece_out, piece_of, packet_after_went, packet_after_acked, is_all_sent, IsFresh, IsInOrder, with_first, without_first}
use Rattle.acl_banks.specs.Banks.{Bank, credits_of, piece_out, next_piece, packet_out, is_completed, bank_after_offer, bank_after_went, bank_after_acked, bank_after_credited, bank_after_drop}
use Rattle.acl_banks.specs.History.{Call, offer, went, acked, credited, drop_link, IsAllowed, is_refused, bank_after, Past, no_past, octets_of_piece, past_after, run_of, AreAllowed, IsEmptyBank, IsFaithful}
use Rattle.acl_banks.proofs.Order.{is_out}
use Rattle.acl_banks.proofs.AllLinks.{own, own-offer, own-offer-other, other-went, other-acked, other-completed, other-drop, own-drop, head-left, head-out, own-out, own-after_went, own-after_acked, own-after_completed, IsInOrder-offer, IsInOrder-went, IsInOrder-acked, IsInOrder-completed, IsInOrder-drop, IsInOrder-empty}
use Rattle.acl_banks.proofs.OneLink.{IsKept, outs, kept-empty, kept-offer, kept-went, kept-acked, kept-completed, kept-credited, all_octets, all_counted}

-- a bank in order, and one link in it with its past
pub record Holds (bank : Bank) (past : Past) (link : ℕ) : Type 0 where
  pub order : IsInOrder bank.packets
  pub wide : link < length bank.counts
  pub kept : IsKept (own link bank.packets) (credits_of bank link) past

pub faithful : (bank : Bank) (past : Past) (link : ℕ) → Holds bank past link → IsFaithful (record { bank = bank; past = past }) link
faithful bank past link holds =
    record {
      sent = all_octets _ _ past holds.kept;
      acknowledged = sym holds.kept.sent;
      counted = all_counted _ _ past holds.kept;
    }

-- a call for another link
other_link : (old new : Bank) (past : Past) (link : ℕ) → Holds old past link → IsInOrder new.packets → length new.counts ≡ length old.counts → own link new.packets ≡ own link old.packets → credits_of new link ≡ credits_of old link → Holds new past link
other_link old new past link holds order wide same count =
    record {
      order = order;
      wide = omega (arith, holds.wide);
      kept = subst (λ packets. IsKept packets (credits_of new link) past) (sym same) (subst (λ n. IsKept (own link old.packets) n past) (sym count) holds.kept);
    }

first_some : {A B : Type 0} (f : A → B) (o : Option A) → IsSome (option_map f o) → (x : A) × (o ≡ Some x)
first_some f None some = absurd (true≢false (sym some))
first_some f (Some x) some = (x, refl)

some_of : {A : Type 0} (o : Option A) → IsSome o → (x : A) × (o ≡ Some x)
some_of None some = absurd (true≢false (sym some))
some_of (Some x) some = (x, refl)

nothing_out : (packet : DataPacket) (rest : List DataPacket) → find is_out (packet ∷ rest) ≡ None → packet.out ≡ 0
nothing_out packet rest none = by_test (is_out packet) refl none
  where
    by_test : (b : Bool) → is_out packet ≡ b → cond b (Some packet) (find is_out rest) ≡ None → packet.out ≡ 0
    by_test true e none = absurd (none-some packet (sym none))
    by_test false e none = grind (arith, nat_tests)

module _ (link : ℕ) (bank : Bank) (past : Past) (holds : Holds bank past link) where
  same_handle : (handle : ℕ) → handle ≡ link → (handle == link) ≡ true
  same_handle handle same = grind (arith, nat_tests)

  other_handle : (handle : ℕ) → (handle ≡ link → ⊥) → (handle == link) ≡ false
  other_handle handle differs = grind (arith, nat_tests)

  -- the host gives a packet of this link
  holds-offer : (start : Bool) (body : List ℕ) → 1 ≤ length body → Holds (bank_after_offer bank (new_packet link start body)) (record past { packets = past.packets ++ record { start = start; body = body } ∷ [] }) link
  holds-offer start body some =
      let fresh : IsFresh (new_packet link start body) = record { some = some; none_acknowledged = refl; none_out = refl } in
      record {
        order = IsInOrder-offer bank.packets link holds.order start body some;
        wide = holds.wide;
        kept = subst (λ packets. IsKept packets (credits_of bank link) (record past { packets = past.packets ++ record { start = start; body = body } ∷ [] })) (sym (own-offer bank.packets link start body))
            (kept-offer (own link bank.packets) (credits_of bank link) past (new_packet link start body) fresh holds.kept);
      }

  holds-offer-other : (handle : ℕ) (start : Bool) (body : List ℕ) → (handle ≡ link → ⊥) → 1 ≤ length body → Holds (bank_after_offer bank (new_packet handle start body)) past link
  holds-offer-other handle start body differs some =
      other_link bank (bank_after_offer bank (new_packet handle start body)) past link holds (IsInOrder-offer bank.packets handle holds.order start body some) refl
      (own-offer-other bank.packets handle link start body (λ e. differs (sym e))) refl

  -- the next piece of this link goes out
  holds-went : (limit : ℕ) → IsSome (next_piece bank link limit) → packet_out bank link ≡ None → Holds (bank_after_went bank link limit) (record past { sent = past.sent ++ octets_of_piece (next_piece bank link limit) }) link
  holds-went limit some none =
      let next = first_some (piece_of limit) (find (has_unsent link) bank.packets) some in
      let packet = next.0 in
      let found : find (has_unsent link) bank.packets ≡ Some packet = next.1 in
      let head = head-left bank.packets link holds.order packet none found in
      let count = credits_of bank link in
      let before : IsKept (packet ∷ head.rest) count past = subst (λ packets. IsKept packets count past) head.packets_are holds.kept in
      let idle : packet.out ≡ 0 = nothing_out packet head.rest (ap (find is_out) (sym head.packets_are) ∙ sym (own-out bank.packets link) ∙ none) in
      let after = kept-went packet head.rest count limit past before idle in
      let piece : octets_of_piece (next_piece bank link limit) ≡ marked_octets (piece_of limit packet).start (piece_of limit packet).body.items = ap (λ o. octets_of_piece (option_map (piece_of limit) o)) found in
      record {
        order = IsInOrder-went bank.packets link holds.order packet limit none found;
        wide = holds.wide;
        kept = subst (λ packets. IsKept packets count (record past { sent = past.sent ++ octets_of_piece (next_piece bank link limit) })) (sym (own-after_went bank.packets link holds.order packet limit none found))
            (subst (λ octets. IsKept (packet_after_went limit packet ∷ head.rest) count (record past { sent = past.sent ++ octets })) (sym piece) after);
      }

  holds-went-other : (handle limit : ℕ) → (handle ≡ link → ⊥) → IsSome (next_piece bank handle limit) → packet_out bank handle ≡ None → Holds (bank_after_went bank handle limit) past link
  holds-went-other handle limit differs some none =
      let next = first_some (piece_of limit) (find (has_unsent handle) bank.packets) some in
      other_link bank (bank_after_went bank handle limit) past link holds (IsInOrder-went bank.packets handle holds.order next.0 limit none next.1) refl
      (other-went bank.packets handle link (λ e. differs (sym e)) limit) refl

  -- the piece of this link that is out is acknowledged
  holds-acked : IsSome (packet_out bank link) → Holds (bank_after_acked bank link) (record past { acknowledged = past.acknowledged ++ piece_out bank link }) link
  holds-acked some =
      let out = some_of (packet_out bank link) some in
      by_length out.0 out.1 (is_all_sent out.0) refl
    where
      by_length : (packet : DataPacket) → packet_out bank link ≡ Some packet → (b : Bool) → is_all_sent packet ≡ b → Holds (bank_after_acked bank link) (record past { acknowledged = past.acknowledged ++ piece_out bank link }) link
      by_length packet found true e =
          let head = head-out bank.packets link holds.order packet found in
          let count = credits_of bank link in
          let before : IsKept (packet ∷ head.rest) count past = subst (λ packets. IsKept packets count past) head.packets_are holds.kept in
          let after = kept-completed packet head.rest count past before e in
          let octets : piece_out bank link ≡ outs (packet ∷ head.rest) = ap outs head.packets_are in
          let done : is_completed (packet_out bank link) ≡ true = ap is_completed found ∙ e in
          let counted : get_or (set bank.counts link (count + 1)) link 0 ≡ count + 1 = get_or-set_same bank.counts link (count + 1) 0 holds.wide in
          let shown : Holds (record { packets = without_first (has_piece_out link) bank.packets; counts = set bank.counts link (count + 1) }) (record past { acknowledged = past.acknowledged ++ piece_out bank link }) link =
          record {
            order = IsInOrder-completed bank.packets link holds.order packet found;
            wide = omega (arith, holds.wide, length-set bank.counts link (count + 1));
            kept = subst (λ packets. IsKept packets (get_or (set bank.counts link (count + 1)) link 0) (record past { acknowledged = past.acknowledged ++ piece_out bank link })) (sym (own-after_completed bank.packets link holds.order packet found))
                (subst (λ n. IsKept head.rest n (record past { acknowledged = past.acknowledged ++ piece_out bank link })) (sym counted)
                (subst (λ o. IsKept head.rest (count + 1) (record past { acknowledged = past.acknowledged ++ o })) (sym octets) after));
          } in
          rw done shown
      by_length packet found false e =
          let head = head-out bank.packets link holds.order packet found in
          let count = credits_of bank link in
          let before : IsKept (packet ∷ head.rest) count past = subst (λ packets. IsKept packets count past) head.packets_are holds.kept in
          let after = kept-acked packet head.rest count past before e in
          let octets : piece_out bank link ≡ outs (packet ∷ head.rest) = ap outs head.packets_are in
          let part : is_completed (packet_out bank link) ≡ false = ap is_completed found ∙ e in
          let shown : Holds (record bank { packets = with_first (has_piece_out link) packet_after_acked bank.packets }) (record past { acknowledged = past.acknowledged ++ piece_out bank link }) link =
          record {
            order = IsInOrder-acked bank.packets link holds.order packet found e;
            wide = holds.wide;
            kept = subst (λ packets. IsKept packets count (record past { acknowledged = past.acknowledged ++ piece_out bank link })) (sym (own-after_acked bank.packets link holds.order packet found))
                (subst (λ o. IsKept (packet_after_acked packet ∷ head.rest) count (record past { acknowledged = past.acknowledged ++ o })) (sym octets) after);
          } in
          rw part shown

  holds-acked-other : (handle : ℕ) → (handle ≡ link → ⊥) → IsSome (packet_out bank handle) → Holds (bank_after_acked bank handle) past link
  holds-acked-other handle differs some =
      let out = some_of (packet_out bank handle) some in
      by_length out.0 out.1 (is_all_sent out.0) refl
    where
      by_length : (packet : DataPacket) → packet_out bank handle ≡ Some packet → (b : Bool) → is_all_sent packet ≡ b → Holds (bank_after_acked bank handle) past link
      by_length packet found true e =
          let done : is_completed (packet_out bank handle) ≡ true = ap is_completed found ∙ e in
          let shown : Holds (record { packets = without_first (has_piece_out handle) bank.packets; counts = set bank.counts handle (credits_of bank handle + 1) }) past link =
          other_link bank _ past link holds (IsInOrder-completed bank.packets handle holds.order packet found)
          (length-set bank.counts handle (credits_of bank handle + 1))
          (other-completed bank.packets handle link (λ same. differs (sym same)))
          (get_or-set_other bank.counts handle link (credits_of bank handle + 1) 0 (λ same. differs (sym same))) in
          rw done shown
      by_length packet found false e =
          let part : is_completed (packet_out bank handle) ≡ false = ap is_completed found ∙ e in
          let shown : Holds (record bank { packets = with_first (has_piece_out handle) packet_after_acked bank.packets }) past link =
          other_link bank _ past link holds (IsInOrder-acked bank.packets handle holds.order packet found e) refl
          (other-acked bank.packets handle link (λ same. differs (sym same))) refl in
          rw part shown

  holds-credited : Holds (bank_after_credited bank link) (record past { reported = past.reported + credits_of bank link }) link
  holds-credited =
      let none : get_or (set bank.counts link 0) link 0 ≡ 0 = get_or-set_same bank.counts link 0 0 holds.wide in
      record {
        order = holds.order;
        wide = omega (arith, holds.wide, length-set bank.counts link 0);
        kept = subst (λ n. IsKept (own link bank.packets) n (record past { reported = past.reported + credits_of bank link })) (sym none) (kept-credited (own link bank.packets) (credits_of bank link) past holds.kept);
      }

  holds-credited-other : (handle : ℕ) → (handle ≡ link → ⊥) → Holds (bank_after_credited bank handle) past link
  holds-credited-other handle differs =
      other_link bank (bank_after_credited bank handle) past link holds holds.order (length-set bank.counts handle 0) refl
      (get_or-set_other bank.counts handle link 0 0 (λ same. differs (sym same)))

  holds-drop : Holds (bank_after_drop bank link) no_past link
  holds-drop =
      let none : get_or (set bank.counts link 0) link 0 ≡ 0 = get_or-set_same bank.counts link 0 0 holds.wide in
      record {
        order = IsInOrder-drop bank.packets link holds.order;
        wide = omega (arith, holds.wide, length-set bank.counts link 0);
        kept = subst (λ packets. IsKept packets (get_or (set bank.counts link 0) link 0) no_past) (sym (own-drop bank.packets link)) (kept-empty (get_or (set bank.counts link 0) link 0) none);
      }

  holds-drop-other : (handle : ℕ) → (handle ≡ link → ⊥) → Holds (bank_after_drop bank handle) past link
  holds-drop-other handle differs =
      other_link bank (bank_after_drop bank handle) past link holds (IsInOrder-drop bank.packets handle holds.order) (length-set bank.counts handle 0)
      (other-drop bank.packets handle link (λ same. differs (sym same)))
      (get_or-set_other bank.counts handle link 0 0 (λ same. differs (sym same)))

same_number : (n : ℕ) → (n == n) ≡ true
same_number n = grind (arith, nat_tests)

other_number : (m n : ℕ) → (m ≡ n → ⊥) → (m == n) ≡ false
other_number m n differs = grind (arith, nat_tests)

module _ (buffers link : ℕ) where
  -- a call is for this link or for another
  by_link : (handle : ℕ) (State : ℕ → Type 0) → State link → ((handle ≡ link → ⊥) → State handle) → State handle
  by_link handle State here other = elim (cases_eq handle link) [
    | inl same ↦ subst State (sym same) here
    | inr differs ↦ other differs
  ]

  pub holds-after : (bank : Bank) (past : Past) (call : Call) → Holds bank past link → IsAllowed bank call → Holds (bank_after buffers bank call) (past_after buffers link bank past call) link
  holds-after bank past (offer handle start body) holds some =
      by_refusal (is_refused buffers bank body) refl
    where
      by_refusal : (b : Bool) → is_refused buffers bank body ≡ b → Holds (bank_after buffers bank (offer handle start body)) (past_after buffers link bank past (offer handle start body)) link
      by_refusal true e = rw e (by_test (handle == link))
        where
          by_test : (b : Bool) → Holds bank (if b && not true then record past { packets = past.packets ++ record { start = start; body = body } ∷ [] } else past) link
          by_test true = holds
          by_test false = holds
      by_refusal false e =
          let first : Holds (bank_after_offer bank (new_packet handle start body)) (if handle == link && not false then record past { packets = past.packets ++ record { start = start; body = body } ∷ [] } else past) link =
          by_link handle (λ h. Holds (bank_after_offer bank (new_packet h start body)) (if h == link && not false then record past { packets = past.packets ++ record { start = start; body = body } ∷ [] } else past) link)
          (rw (same_number link) (holds-offer link bank past holds start body some))
          (λ differs. rw (other_number handle link differs) (holds-offer-other link bank past holds handle start body differs some)) in
          rw e first
  holds-after bank past (went handle limit) holds allowed =
      elim (cases_eq handle link) [
        | inl same ↦ subst (λ h. Holds (bank_after_went bank h limit) (if h == link then record past { sent = past.sent ++ octets_of_piece (next_piece bank h limit) } else past) link) (sym same)
            (rw (same_number link) (holds-went link bank past holds limit (subst (λ h. IsSome (next_piece bank h limit)) same allowed.1) (subst (λ h. packet_out bank h ≡ None) same allowed.2)))
        | inr differs ↦ rw (other_number handle link differs) (holds-went-other link bank past holds handle limit differs allowed.1 allowed.2)
      ]
  holds-after bank past (acked handle) holds allowed =
      elim (cases_eq handle link) [
        | inl same ↦ subst (λ h. Holds (bank_after_acked bank h) (if h == link then record past { acknowledged = past.acknowledged ++ piece_out bank h } else past) link) (sym same)
            (rw (same_number link) (holds-acked link bank past holds (subst (λ h. IsSome (packet_out bank h)) same allowed)))
        | inr differs ↦ rw (other_number handle link differs) (holds-acked-other link bank past holds handle differs allowed)
      ]
  holds-after bank past (credited handle) holds allowed =
      by_link handle (λ h. Holds (bank_after_credited bank h) (if h == link then record past { reported = past.reported + credits_of bank h } else past) link)
      (rw (same_number link) (holds-credited link bank past holds))
      (λ differs. rw (other_number handle link differs) (holds-credited-other link bank past holds handle differs))
  holds-after bank past (drop_link handle) holds allowed =
      by_link handle (λ h. Holds (bank_after_drop bank h) (if h == link then no_past else past) link)
      (rw (same_number link) (holds-drop link bank past holds))
      (λ differs. rw (other_number handle link differs) (holds-drop-other link bank past holds handle differs))

  holds-run : (calls : List Call) (bank : Bank) (past : Past) → Holds bank past link → AreAllowed buffers bank calls → IsFaithful (run_of buffers link (record { bank = bank; past = past }) calls) link
  holds-run [] bank past holds allowed = faithful bank past link holds
  holds-run (call ∷ calls) bank past holds allowed =
      holds-run calls (bank_after buffers bank call) (past_after buffers link bank past call) (holds-after bank past call holds allowed.0) allowed.1

  pub faithful-run : (bank : Bank) (calls : List Call) → IsEmptyBank bank → link < 65536 → AreAllowed buffers bank calls → IsFaithful (run_of buffers link (record { bank = bank; past = no_past }) calls) link
  faithful-run bank calls empty small allowed =
      let holds : Holds bank no_past link = record {
        order = subst IsInOrder (sym empty.packets) IsInOrder-empty;
        wide = omega (arith, empty.handles);
        kept = subst (λ packets. IsKept (own link packets) (credits_of bank link) no_past) (sym empty.packets) (kept-empty (credits_of bank link) (empty.credits link));
      } in
      holds-run calls bank no_past holds allowed
