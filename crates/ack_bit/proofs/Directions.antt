-- One direction of a link: what a packet does to the end that sends it, and to the end that receives it.
use Rattle.std.proofs.Common.{◌≡◌, ℕ, ◌+◌, ◌-◌, ◌<◌, ◌≤◌, Bool, true, false, not, cond, eqb, ◌&&◌, List, [], ◌∷◌, ◌++◌, length, take, get_or, Some, inl, inr, ◌⊎◌, refl, ap, subst, ◌∙◌, sym, arith, length-append, slice_get}
use Rattle.std.specs.Bool.{beq}
use Rattle.std.proofs.lemmas.Bool.{eqb-true, eqb-false, true≢false}
use Rattle.std.proofs.lemmas.List.{take_all, take-append-le, take_more}
use Rattle.std.proofs.Math.Seq.{get_or-append_seam}
use Rattle.std.proofs.lemmas.Option.{get_or_from_slice_get, slice_get_within, slice_get-get_or}
use Rattle.ack_bit.specs.AckBits.{acknowledges, is_new, is_odd}
use Rattle.ack_bit.specs.AckLink.{End, Packet, after_sending, after_receiving, header_from, is_acked}
use Rattle.ack_bit.specs.InStep.{IsInStep, IsOut}
use Rattle.ack_bit.proofs.Counting.{odd-one_more}

-- ---- bits of two counts, of which the second is the first or one more

not_itself : (b : Bool) → b ≡ not b → ⊥
not_itself true e = true≢false e
not_itself false e = true≢false (sym e)

pub odd-next : (n : ℕ) → is_odd (n + 1) ≡ not (is_odd n)
odd-next n = let turned : n + 1 ≡ 1 + n = omega arith in ap is_odd turned ∙ odd-one_more n

pub one_of_two : (n m : ℕ) → n ≤ m → m ≤ n + 1 → (m ≡ n) ⊎ (m ≡ n + 1)
one_of_two n m low high = by (eqb m n) refl
  where
    by : (b : Bool) → eqb m n ≡ b → (m ≡ n) ⊎ (m ≡ n + 1)
    by true e = inl (eqb-true m n e)
    by false e = let other = eqb-false m n e in inr (omega (arith, other))

pub same_count : (n m : ℕ) → n ≤ m → m ≤ n + 1 → is_odd n ≡ is_odd m → m ≡ n
same_count n m low high same =
    elim (one_of_two n m low high) [
      | inl e ↦ e
      | inr e ↦ absurd (not_itself (is_odd n) (same ∙ ap is_odd e ∙ odd-next n))
    ]

pub beq-true : (x y : Bool) → beq x y ≡ true → x ≡ y
beq-true true true e = refl
beq-true false false e = refl
beq-true true false e = absurd (cc)
beq-true false true e = absurd (cc)

pub beq-false : (x y : Bool) → beq x y ≡ false → x ≡ y → ⊥
beq-false true true e same = absurd (cc)
beq-false false false e same = absurd (cc)
beq-false true false e same = absurd (cc)
beq-false false true e same = absurd (cc)

pub not-true : (x : Bool) → not x ≡ true → x ≡ false
not-true false e = refl
not-true true e = absurd (cc)

pub not-false : (x : Bool) → not x ≡ false → x ≡ true
not-false true e = refl
not-false false e = absurd (cc)

pub both-left : (x y : Bool) → x && y ≡ true → x ≡ true
both-left true y e = refl
both-left false y e = absurd (cc)

odd_by : (b : Bool) (n : ℕ) (bit : Bool) → bit ≡ is_odd n → cond b (not bit) bit ≡ is_odd (cond b (n + 1) n)
odd_by true n bit is = ap not is ∙ sym (odd-next n)
odd_by false n bit is = is

at_least : (b : Bool) (n : ℕ) → n ≤ cond b (n + 1) n
at_least true n = omega arith
at_least false n = omega arith

module _ {C : Type 0} where
  -- ---- the PDU that is sent last

  pub last_again : (sent : List C) (last : C) → slice_get sent (length sent - 1) ≡ Some last
      → sent ≡ take (length sent - 1) sent ++ last ∷ []
  last_again sent last is =
      let within = slice_get_within sent (length sent - 1) last is in
      let count : length sent - 1 + 1 ≡ length sent = omega arith in
      sym (take_all (length sent) sent (omega arith)) ∙ ap (λ n. take n sent) (sym count)
      ∙ take_more sent (length sent - 1) last within
      ∙ ap (λ x. take (length sent - 1) sent ++ x ∷ []) (get_or_from_slice_get sent (length sent - 1) last last is)

  pub last-push : (sent : List C) (next : C) → slice_get (sent ++ next ∷ []) (length (sent ++ next ∷ []) - 1) ≡ Some next
  last-push sent next =
      let one_more = length-append sent (next ∷ []) in
      let place : length (sent ++ next ∷ []) - 1 ≡ length sent = omega arith in
      slice_get-get_or (sent ++ next ∷ []) (length (sent ++ next ∷ []) - 1) next (omega arith)
      ∙ ap (λ n. Some (get_or (sent ++ next ∷ []) n next)) place ∙ ap Some (get_or-append_seam sent next [] next)

  -- ---- an end sends

  sends_by : (b : Bool) (s r : End C) (next : C) → is_acked s ≡ b → IsInStep s r
      → IsInStep (record { bits = s.bits; sent = cond b (s.sent ++ next ∷ []) s.sent; last = cond b next s.last; acked = s.acked; accepted = s.accepted }) r
  sends_by true s r next e g =
      let all : s.acked ≡ length s.sent = eqb-true _ _ e in
      let one_more = length-append s.sent (next ∷ []) in
      let h = g.reliable in
      let before = h.sent_only in let acked = h.acked_is_accepted in
      record {
        reliable = record {
          in_order = h.in_order ∙ sym (take-append-le (length r.accepted) s.sent (next ∷ []) h.sent_only);
          sent_only = omega arith;
          at_most_one_ahead = omega arith;
          acked_is_accepted = acked;
          one_at_a_time = omega arith;
        };
        last = last-push s.sent next;
        sn = g.sn;
        nesn = g.nesn;
      }
  sends_by false s r next e g = record {
    reliable = record {
      in_order = g.reliable.in_order;
      sent_only = g.reliable.sent_only;
      at_most_one_ahead = g.reliable.at_most_one_ahead;
      acked_is_accepted = g.reliable.acked_is_accepted;
      one_at_a_time = g.reliable.one_at_a_time;
    };
    last = g.last;
    sn = g.sn;
    nesn = g.nesn;
  }

  pub sends : (s r : End C) (next : C) → IsInStep s r → IsInStep (after_sending s next) r
  sends s r next = sends_by (is_acked s) s r next refl

  pub sends_back : (s r : End C) (next : C) → IsInStep r s → IsInStep r (after_sending s next)
  sends_back s r next g = record {
    reliable = record {
      in_order = g.reliable.in_order;
      sent_only = g.reliable.sent_only;
      at_most_one_ahead = g.reliable.at_most_one_ahead;
      acked_is_accepted = g.reliable.acked_is_accepted;
      one_at_a_time = g.reliable.one_at_a_time;
    };
    last = g.last;
    sn = g.sn;
    nesn = g.nesn;
  }

  out_by : (b : Bool) (acked : ℕ) (sent : List C) (next : C) → eqb acked (length sent) ≡ b → acked ≤ length sent
      → acked < length (cond b (sent ++ next ∷ []) sent)
  out_by true acked sent next e le =
      let all = eqb-true acked (length sent) e in let one_more = length-append sent (next ∷ []) in omega arith
  out_by false acked sent next e le = let other = eqb-false acked (length sent) e in omega (arith, other)

  pub is_out : (s r : End C) (next : C) → IsInStep s r → IsOut (after_sending s next)
  is_out s r next g =
      let acked = g.reliable.acked_is_accepted in let sent = g.reliable.sent_only in
      out_by (is_acked s) s.acked s.sent next refl (omega arith)

  -- ---- an end receives: what it accepts

  pub new_one : (s r : End C) → IsInStep s r → IsOut s → beq s.bits.sn r.bits.nesn ≡ true → length s.sent ≡ length r.accepted + 1
  new_one s r g out new =
      let h = g.reliable in
      let bits : is_odd s.acked ≡ is_odd (length r.accepted) = sym g.sn ∙ beq-true _ _ new ∙ g.nesn in
      let low = h.acked_is_accepted in let high = h.sent_only in let one = h.one_at_a_time in
      let same = same_count s.acked (length r.accepted) low (omega arith) bits in
      omega arith

  accepts_by : (b : Bool) (s r : End C) → (b ≡ true → beq s.bits.sn r.bits.nesn ≡ true) → IsInStep s r → IsOut s
      → (after : End C) → after.accepted ≡ cond b (r.accepted ++ s.last ∷ []) r.accepted → after.bits.nesn ≡ cond b (not r.bits.nesn) r.bits.nesn
      → IsInStep s after
  accepts_by true s r new g out after accepted nesn =
      let count = new_one s r g out (new refl) in
      let one_more : length after.accepted ≡ length r.accepted + 1 = ap length accepted ∙ length-append r.accepted (s.last ∷ []) in
      let whole : after.accepted ≡ s.sent =
      accepted ∙ ap (λ xs. xs ++ s.last ∷ []) g.reliable.in_order
      ∙ (let place : length r.accepted ≡ length s.sent - 1 = omega arith in ap (λ n. take n s.sent ++ s.last ∷ []) place)
      ∙ sym (last_again s.sent s.last g.last) in
      let acked = g.reliable.acked_is_accepted in
      record {
        reliable = record {
          in_order = whole ∙ sym (take_all (length after.accepted) s.sent (omega arith));
          sent_only = omega arith;
          at_most_one_ahead = omega arith;
          acked_is_accepted = omega arith;
          one_at_a_time = g.reliable.one_at_a_time;
        };
        last = g.last;
        sn = g.sn;
        nesn = nesn ∙ ap not g.nesn ∙ sym (odd-next (length r.accepted)) ∙ ap is_odd (sym one_more);
      }
  accepts_by false s r new g out after accepted nesn =
      record {
        reliable = record {
          in_order = accepted ∙ g.reliable.in_order ∙ ap (λ xs. take (length xs) s.sent) (sym accepted);
          sent_only = subst (λ (xs : List C). length xs ≤ length s.sent) (sym accepted) g.reliable.sent_only;
          at_most_one_ahead = subst (λ (xs : List C). length s.sent ≤ length xs + 1) (sym accepted) g.reliable.at_most_one_ahead;
          acked_is_accepted = subst (λ (xs : List C). s.acked ≤ length xs) (sym accepted) g.reliable.acked_is_accepted;
          one_at_a_time = g.reliable.one_at_a_time;
        };
        last = g.last;
        sn = g.sn;
        nesn = nesn ∙ g.nesn ∙ ap (λ xs. is_odd (length xs)) (sym accepted);
      }

  pub accepts : (s r : End C) (p : Packet C) → IsInStep s r → IsOut s → IsInStep s (after_receiving r (header_from s p) s.last p.room)
  accepts s r p g out =
      accepts_by (is_new r.bits (header_from s p) && p.room) s r (both-left _ p.room) g out
      (after_receiving r (header_from s p) s.last p.room) refl refl

  -- ---- an end receives: what is acknowledged to it

  pub acked_by : (b : Bool) (s r : End C) → not (beq s.bits.nesn r.bits.sn) ≡ b → IsInStep r s
      → cond b (r.acked + 1) r.acked ≡ length s.accepted
  acked_by true s r e g =
      let h = g.reliable in
      let low = h.acked_is_accepted in let high = h.sent_only in let one = h.one_at_a_time in
      elim (one_of_two r.acked (length s.accepted) low (omega arith)) [
        | inl same ↦ absurd (beq-false _ _ (not-true _ e) (g.nesn ∙ ap is_odd same ∙ sym g.sn))
        | inr more ↦ sym more
      ]
  acked_by false s r e g =
      let h = g.reliable in
      let low = h.acked_is_accepted in let high = h.sent_only in let one = h.one_at_a_time in
      let bits : is_odd r.acked ≡ is_odd (length s.accepted) = sym g.sn ∙ sym (beq-true _ _ (not-false _ e)) ∙ g.nesn in
      sym (same_count r.acked (length s.accepted) low (omega arith) bits)

  pub acknowledged : (s r : End C) (p : Packet C) (pdu : C) → IsInStep r s → IsInStep (after_receiving r (header_from s p) pdu p.room) s
  acknowledged s r p pdu g =
      let b = acknowledges r.bits (header_from s p) in
      let count : cond b (r.acked + 1) r.acked ≡ length s.accepted = acked_by b s r refl g in
      let more = at_least b r.acked in
      let one = g.reliable.one_at_a_time in
      record {
        reliable = record {
          in_order = g.reliable.in_order;
          sent_only = g.reliable.sent_only;
          at_most_one_ahead = g.reliable.at_most_one_ahead;
          acked_is_accepted = omega (arith, count);
          one_at_a_time = omega (arith, more, one);
        };
        last = g.last;
        sn = odd_by b r.acked r.bits.sn g.sn;
        nesn = g.nesn;
      }
