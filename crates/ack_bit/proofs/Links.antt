-- Both directions of a link, step by step.
use Rattle.std.proofs.Common.{◌≡◌, ◌+◌, Bool, true, false, not, cond, eqb, List, [], ◌∷◌, length, take, refl, ap, ◌∙◌, sym, arith}
use Rattle.std.specs.Bool.{beq}
use Rattle.std.proofs.lemmas.Bool.{eq-eqb, ne_eqb}
use Rattle.ack_bit.specs.AckBits.{acknowledges, is_new, is_odd}
use Rattle.ack_bit.specs.AckLink.{End, Packet, Step, a_sends, b_sends, Link, first_end, after_sending, after_receiving, after_packet, header_from, step_of, run, link_after, SaysWhatIsAccepted}
use Rattle.ack_bit.specs.InStep.{AreInStep, IsInStep, IsOut}
use Rattle.ack_bit.proofs.Directions.{accepts, acked_by, acknowledged, beq-false, is_out, new_one, sends, sends_back}

module _ {C : Type 0} where
  first_in_step : (x y : C) → IsInStep (first_end x) (first_end y)
  first_in_step x y = record {
    reliable = record { in_order = refl; sent_only = omega arith; at_most_one_ahead = omega arith; acked_is_accepted = omega arith; one_at_a_time = omega arith };
    last = refl;
    sn = refl;
    nesn = refl;
  }

  pub begins : (x y : C) → AreInStep (first_end x) (first_end y)
  begins x y = record { from_a = first_in_step x y; from_b = first_in_step y x }

  pub exchanged : (a b : End C) → AreInStep a b → AreInStep b a
  exchanged a b g = record { from_a = g.from_b; from_b = g.from_a }

  pub sent : (a b : End C) (next : C) → AreInStep a b → AreInStep (after_sending a next) b
  sent a b next g = record { from_a = sends a b next g.from_a; from_b = sends_back a b next g.from_b }

  pub out : (a b : End C) (next : C) → AreInStep a b → IsOut (after_sending a next)
  out a b next g = is_out a b next g.from_a

  pub received : (a b : End C) (p : Packet C) → AreInStep a b → IsOut a → AreInStep a (after_receiving b (header_from a p) a.last p.room)
  received a b p g is_out = record { from_a = accepts a b p g.from_a is_out; from_b = acknowledged a b p a.last g.from_b }

  arrived : (arrives : Bool) (s r : End C) (p : Packet C) → AreInStep s r → IsOut s
      → AreInStep s (cond arrives (after_receiving r (header_from s p) s.last p.room) r)
  arrived true s r p g is_out = received s r p g is_out
  arrived false s r p g is_out = g

  passed : (s r : End C) (p : Packet C) → AreInStep s r → AreInStep (after_sending s p.next) (after_packet (after_sending s p.next) r p)
  passed s r p g = arrived p.arrives (after_sending s p.next) r p (sent s r p.next g) (out s r p.next g)

  pub step_keeps : (link : Link C) (step : Step C) → AreInStep link.a link.b → AreInStep (step_of link step).a (step_of link step).b
  step_keeps link (a_sends p) g = passed link.a link.b p g
  step_keeps link (b_sends p) g = exchanged _ _ (passed link.b link.a p (exchanged _ _ g))

  pub run_keeps : (link : Link C) (steps : List (Step C)) → AreInStep link.a link.b → AreInStep (run link steps).a (run link steps).b
  run_keeps link [] g = g
  run_keeps link (step ∷ steps) g = run_keeps (step_of link step) steps (step_keeps link step g)

  pub in_step : (x y : C) (steps : List (Step C)) → AreInStep (link_after x y steps).a (link_after x y steps).b
  in_step x y steps = run_keeps _ steps (begins x y)

  -- ---- what the bits of a packet say

  new_by : (b : Bool) (s r : End C) → beq s.bits.sn r.bits.nesn ≡ b → IsInStep s r → IsOut s → b ≡ eqb (length s.sent) (length r.accepted + 1)
  new_by true s r e g is_out = sym (eq-eqb _ _ (new_one s r g is_out e))
  new_by false s r e g is_out =
      let h = g.reliable in
      let one = h.one_at_a_time in let low = h.acked_is_accepted in
      sym (ne_eqb _ _ (λ more.
      let same : s.acked ≡ length r.accepted = omega (arith, more) in
      beq-false _ _ e (g.sn ∙ ap is_odd same ∙ sym g.nesn)))

  acks_by : (b : Bool) (s r : End C) → not (beq s.bits.nesn r.bits.sn) ≡ b → IsInStep r s → b ≡ eqb (length s.accepted) (r.acked + 1)
  acks_by true s r e g = sym (eq-eqb _ _ (sym (acked_by true s r e g)))
  acks_by false s r e g = let same = acked_by false s r e g in sym (ne_eqb _ _ (λ more. omega (arith, same, more)))

  pub says : (s r : End C) (p : Packet C) → AreInStep s r → SaysWhatIsAccepted s r p
  says s r p g = record {
    fresh = new_by (is_new r.bits (header_from s p)) (after_sending s p.next) r refl (sends s r p.next g.from_a) (out s r p.next g);
    acked = acks_by (acknowledges r.bits (header_from s p)) s r refl g.from_b;
  }

  -- ---- after an arrival

  pub acked_count : (s r : End C) (p : Packet C) (pdu : C) → IsInStep r s → (after_receiving r (header_from s p) pdu p.room).acked ≡ length s.accepted
  acked_count s r p pdu g = acked_by (acknowledges r.bits (header_from s p)) s r refl g

  pub acked_pdus : (s r : End C) (p : Packet C) (pdu : C) → IsInStep r s
      → take (after_receiving r (header_from s p) pdu p.room).acked r.sent ≡ s.accepted
  acked_pdus s r p pdu g = ap (λ n. take n r.sent) (acked_count s r p pdu g) ∙ sym g.reliable.in_order
