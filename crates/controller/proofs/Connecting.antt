-- An initiator that connects.
use Rattle.std.proofs.Common.{◌≡◌, ℕ, suc, ◌+◌, ◌%◌, List, length, ap, sym, subst, ◌∙◌, arith}
use Rattle.std.specs.Prelude.{Option, Some, is_some}
use Rattle.std.proofs.Math.Nat.{mod-add-mod}
use Rattle.adv_pdu.specs.declared.pdu.AdvPdu.{AdvPdu}
use Rattle.ble_base.specs.declared.notes.Note.{Note}
use Rattle.link_model.specs.declared.setup.LinkSetup.{LinkSetup}
use Rattle.scan_init.specs.Access.{nth_access}
use Rattle.scan_init.specs.Initiating.{InitiatorFacts}
use Rattle.controller_model.specs.declared.doing.Doing.{Doing}
use Rattle.controller_model.specs.Facts.{Setup, Facts}
use Rattle.controller_model.specs.Heard.{connects, facts_connecting, if_pdu, initiator_heard, link_to}
use Rattle.controller.specs.Held.{Held}
use Rattle.controller.specs.Knowing.{IsAt, Passes}
use Rattle.controller.specs.Steps.{access_after, held_connecting}

next_is : (cursor count : ℕ) (access : Option (ℕ × ℕ)) → access ≡ nth_access cursor count → access_after cursor access ≡ nth_access cursor (count + 1)
next_is cursor count access is =
    let e : count + 1 ≡ suc count = omega arith in
    ap (access_after cursor) is ∙ sym (ap (nth_access cursor) e)

pub connecting_is : (has : Setup) (held new : Held) (facts : Facts) → new ≡ held_connecting held
    → IsAt has held facts → IsAt has new (facts_connecting has facts)
connecting_is has held new facts is k =
    let access : access_after held.setup.cursor held.access ≡ nth_access has.cursor (facts.connections + 1) =
    (λ i. access_after (k.setup i).cursor held.access) ∙ next_is has.cursor facts.connections held.access k.access in
    record {
      setup = ap (λ (h : Held). h.setup) is ∙ k.setup;
      view = ap (λ (h : Held). h.view) is ∙ (λ i. record (k.view i) { has_address = is_some (access i) });
      place = ap (λ (h : Held). h.place) is ∙ (λ i. (k.place i + 1) % length (k.setup i).words)
          ∙ mod-add-mod facts.drawn (length has.words) 1;
      access = ap (λ (h : Held). h.access) is ∙ access;
      turn = ap (λ (h : Held). h.turn) is ∙ k.turn;
      activities = ap (λ (h : Held). h.activities) is ∙ k.activities;
      links = rw (ap (λ (h : Held). h.links) is) k.links;
    }

pub initiates_is : (has : Setup) (new : Held) (facts : Facts) (noted : List Note) (next : Doing) (channel : ℕ) (heard : Option AdvPdu) (pdu : AdvPdu) (on : InitiatorFacts)
    (link : Option LinkSetup) → heard ≡ Some pdu → facts.initiator ≡ Some on → link ≡ link_to has on pdu facts
    → Passes has new noted noted next (connects link has channel facts)
    → Passes has new noted noted next (if_pdu heard facts (λ pdu. initiator_heard facts.initiator has channel pdu facts))
initiates_is has new facts noted next channel heard pdu on link heard_is on_is link_is passes =
    subst (λ (heard : Option AdvPdu). Passes has new noted noted next (if_pdu heard facts (λ pdu. initiator_heard facts.initiator has channel pdu facts))) (sym heard_is)
    (subst (λ (initiator : Option InitiatorFacts). Passes has new noted noted next (initiator_heard initiator has channel pdu facts)) (sym on_is)
    (subst (λ (link : Option LinkSetup). Passes has new noted noted next (connects link has channel facts)) link_is passes))
