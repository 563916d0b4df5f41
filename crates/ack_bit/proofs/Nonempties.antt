-- The nonempty PDUs of a list, and of its first part.
use Rattle.std.proofs.Common.{◌≡◌, ℕ, zero, suc, ◌+◌, ◌-◌, ◌≤◌, Bool, true, false, not, cond, List, [], ◌∷◌, ◌++◌, length, take, drop, Some, refl, ap, subst, ◌∙◌, sym, arith, length-append, slice_get}
use Rattle.std.proofs.lemmas.List.{take-append-drop, take_at, length-drop}
use Rattle.std.proofs.lemmas.List.Elements.{filter-append}
use Rattle.ack_bit.specs.AckLink.{End, Packet, after_receiving, header_from}
use Rattle.ack_bit.specs.AckBits.{is_new}
use Rattle.ack_bit.specs.InStep.{IsInStep, IsOut}
use Rattle.ack_bit.specs.Nonempty.{nonempty, IsReliableNonempty}
use Rattle.ack_bit.proofs.Directions.{last_again, last-push, new_one}
use Rattle.ack_bit.proofs.Links.{acked_pdus}

module _ {C : Type 0} where
  at_front : (xs ys : List C) (n : ℕ) (x : C) → slice_get xs n ≡ Some x → slice_get (xs ++ ys) n ≡ Some x
  at_front [] ys n x e = absurd (cc)
  at_front (y ∷ xs) ys zero x e = e
  at_front (y ∷ xs) ys (suc n) x e = at_front xs ys n x e

module _ {C : Type 0} (is_empty : C → Bool) where
  shorter_by : (b : Bool) (pdu : C) (kept : List C) (n : ℕ) → length kept ≤ n → length (cond b (pdu ∷ kept) kept) ≤ suc n
  shorter_by true pdu kept n le = omega arith
  shorter_by false pdu kept n le = omega arith

  shorter : (pdus : List C) → length (nonempty is_empty pdus) ≤ length pdus
  shorter [] = omega arith
  shorter (pdu ∷ pdus) =
      shorter_by (not (is_empty pdu)) pdu (nonempty is_empty pdus) (length pdus) (shorter pdus)

  parts : (n : ℕ) (pdus : List C) → nonempty is_empty pdus ≡ nonempty is_empty (take n pdus) ++ nonempty is_empty (drop n pdus)
  parts n pdus =
      ap (nonempty is_empty) (sym (take-append-drop n pdus))
      ∙ filter-append (λ pdu. not (is_empty pdu)) (take n pdus) (drop n pdus)

  counts : (n : ℕ) (pdus : List C)
      → length (nonempty is_empty pdus) ≡ length (nonempty is_empty (take n pdus)) + length (nonempty is_empty (drop n pdus))
  counts n pdus =
      ap length (parts n pdus) ∙ length-append (nonempty is_empty (take n pdus)) (nonempty is_empty (drop n pdus))

  -- at most as many nonempty ones are missing as there are PDUs missing
  missing : (n m : ℕ) (pdus : List C) → length pdus ≤ n + m
      → length (nonempty is_empty pdus) ≤ length (nonempty is_empty (take n pdus)) + m
  missing n m pdus le =
      let rest = shorter (drop n pdus) in
      let few = length-drop n pdus in
      let count = counts n pdus in
      omega (arith, rest, few, count)

  last_kept : (pdus : List C) (last : C) → slice_get pdus (length pdus - 1) ≡ Some last → is_empty last ≡ false
      → nonempty is_empty pdus ≡ nonempty is_empty (take (length pdus - 1) pdus) ++ last ∷ []
  last_kept pdus last is some =
      ap (nonempty is_empty) (last_again pdus last is)
      ∙ filter-append (λ pdu. not (is_empty pdu)) (take (length pdus - 1) pdus) (last ∷ [])
      ∙ ap (λ b. nonempty is_empty (take (length pdus - 1) pdus) ++ cond (not b) (last ∷ []) []) some

  last_number : (pdus : List C) (last : C) → slice_get pdus (length pdus - 1) ≡ Some last → is_empty last ≡ false
      → slice_get (nonempty is_empty pdus) (length (nonempty is_empty pdus) - 1) ≡ Some last
  last_number pdus last is some =
      let kept = last_kept pdus last is some in
      ap (λ xs. slice_get xs (length xs - 1)) kept ∙ last-push (nonempty is_empty (take (length pdus - 1) pdus)) last

  pub reliable_nonempty : (s r : End C) → IsInStep s r → IsReliableNonempty is_empty s r
  reliable_nonempty s r g =
      let h = g.reliable in
      let n = length r.accepted in
      let front : nonempty is_empty r.accepted ≡ nonempty is_empty (take n s.sent) = ap (nonempty is_empty) h.in_order in
      let whole = parts n s.sent in
      let count = counts n s.sent in
      let same = ap length front in
      let acked : nonempty is_empty (take s.acked r.accepted) ≡ nonempty is_empty (take s.acked s.sent) = ap (nonempty is_empty) (take_front s.acked n r.accepted s.sent h.in_order h.acked_is_accepted) in
      record {
        in_order =
            front ∙ sym (take_at (nonempty is_empty (take n s.sent)) (nonempty is_empty (drop n s.sent)) (length (nonempty is_empty r.accepted)) (sym same))
            ∙ ap (take (length (nonempty is_empty r.accepted))) (sym whole);
        sent_only = omega (arith, count, same);
        at_most_one_ahead =
            subst (λ (k : ℕ). length (nonempty is_empty s.sent) ≤ k + 1) (sym same) (missing n 1 s.sent h.at_most_one_ahead);
        acked_is_accepted =
            let all = counts s.acked r.accepted in let equal = ap length acked in omega (arith, all, equal);
        one_at_a_time = missing s.acked 1 s.sent h.one_at_a_time;
        numbers = λ k pdu e.
            ap (λ xs. slice_get xs k) whole ∙ at_front (nonempty is_empty (take n s.sent)) (nonempty is_empty (drop n s.sent)) k pdu
            (ap (λ xs. slice_get xs k) (sym front) ∙ e);
        last = last_number s.sent s.last g.last;
      }
    where
      take_less : (k n : ℕ) (xs : List C) → k ≤ n → take k (take n xs) ≡ take k xs
      take_less zero n xs le = refl
      take_less (suc k) zero xs le = absurd (omega arith)
      take_less (suc k) (suc n) [] le = refl
      take_less (suc k) (suc n) (x ∷ xs) le = ap (λ rest. x ∷ rest) (take_less k n xs (omega arith))

      take_front : (k n : ℕ) (accepted sent : List C) → accepted ≡ take n sent → k ≤ n → take k accepted ≡ take k sent
      take_front k n accepted sent e le = ap (take k) e ∙ take_less k n sent le

  pub new_number : (s r : End C) (p : Packet C) → IsInStep s r → IsOut s → is_new r.bits (header_from s p) ≡ true → is_empty s.last ≡ false
      → length (nonempty is_empty s.sent) ≡ length (nonempty is_empty r.accepted) + 1
  new_number s r p g out new some =
      let count = new_one s r g out new in
      let place : length r.accepted ≡ length s.sent - 1 = omega arith in
      let front : nonempty is_empty r.accepted ≡ nonempty is_empty (take (length s.sent - 1) s.sent) =
      ap (nonempty is_empty) (g.reliable.in_order ∙ ap (λ n. take n s.sent) place) in
      ap length (last_kept s.sent s.last g.last some ∙ ap (λ xs. xs ++ s.last ∷ []) (sym front))
      ∙ length-append (nonempty is_empty r.accepted) (s.last ∷ [])

  pub acked_nonempty : (s r : End C) (p : Packet C) (pdu : C) → IsInStep r s
      → nonempty is_empty (take (after_receiving r (header_from s p) pdu p.room).acked r.sent) ≡ nonempty is_empty s.accepted
  acked_nonempty s r p pdu g = ap (nonempty is_empty) (acked_pdus s r p pdu g)
