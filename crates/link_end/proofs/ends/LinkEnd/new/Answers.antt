-- Proof of `ends::LinkEnd::new`.
use Rattle.std.proofs.Common.{◌≡◌, ◌≤◌, ◌^◌, IfSome, false, None, refl, arith, ◌∙◌, subst, sym, ap}
use Rattle.keyed_control.specs.Keyed.{first_keyed}
use Rattle.link_model.specs.phased_end.Held.{HeldKeyed, held_of as keyed_held}
use Rattle.link_model.specs.declared.events.ConnectionEvent.{ConnectionEvent}
use Rattle.link_model.specs.Acknowledgement.{Pdu}
use Rattle.link_model.specs.declared.state.Leaving.{Leaving}
use Rattle.link_model.specs.End.{facts_of}
use Rattle.link_end.specs.Knowing.{Knows}
use Rattle.link_end.proofs.Tying.{new_tied}
use Rattle.link_end.proofs.ends.LinkEnd.new.Goals as goal

pub invariant_of-result : goal.invariant_of-result
invariant_of-result c =
    let channel : c.no_event.result.channel ≡ 0 = ap (λ (e : ConnectionEvent). e.channel) c.no_event.ensures in
    let number : c.no_event.result.number ≡ 0 = ap (λ (e : ConnectionEvent). e.number) c.no_event.ensures in
    let last : c.empty.result.llid ≡ 1 = ap (λ (p : Pdu). p.llid) c.empty.ensures in
    let fixed : c.empty-2.result.llid ≡ 1 = ap (λ (p : Pdu). p.llid) c.empty-2.ensures in
    let sent : c.new.result.end.sent ≡ 0 = ap (λ (h : HeldKeyed). h.end.sent) c.new.ensures.new in
    let opened : c.new.result.end.opened ≡ 0 = ap (λ (h : HeldKeyed). h.end.opened) c.new.ensures.new in (
      c.requires.slot,
      c.requires.crc_init,
      c.requires.max_rx.1,
      omega (arith, channel),
      omega (arith, number),
      c.selector.ensures,
      tt,
      omega (arith, last),
      omega (arith, fixed),
      omega arith,
      omega arith,
      subst (λ (l : Leaving). IfSome l.disconnected (λ since. since ≤ 2 ^ 32)) (sym c.stays.ensures) tt,
      c.new.ensures.reached,
      omega (arith, sent),
      omega (arith, opened),
    )

pub returns-clause-knows : goal.returns-clause-knows
unfolding Knows facts_of
returns-clause-knows c =
    let first = c.first_params.ensures.value in
    let control =
    c.new.ensures.new
    ∙ (λ i. keyed_held (first_keyed c.args.setup.role c.args.setup.max_rx (first i) (c.first_anchor.ensures.value i))) in
    λ i. record {
      setup = record { link = c.args.setup; opened = c.args.slot.0 };
      control = control i;
      response = c.no_response.ensures i;
      peer = c.no_peer.ensures i;
      event = c.no_event.ensures i;
      lengths = c.no_lengths.ensures i;
      bits = c.new-2.ensures i;
      is_acked = false;
      last = c.empty.ensures i;
      payload = c.new-3.ensures i;
      fixed = c.empty-2.ensures i;
      fixes_control = false;
      more = false;
      more_again = false;
      sent = 0;
      taken = 0;
      last_good = None;
      leaving = c.stays.ensures i;
    }

pub returns-clause-tied : goal.returns-clause-tied
returns-clause-tied c = λ bank none. new_tied c.args.setup _ bank refl c.empty.ensures c.empty-2.ensures none
