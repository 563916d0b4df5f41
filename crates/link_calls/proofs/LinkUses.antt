-- On which link a controller sends or listens, in which phase, and as which end of it.
use Rattle.std.proofs.Common.{◌≡◌, ℕ, true, false, Option, Some, None, List, refl, sym, ap, subst, ◌∙◌}
use Rattle.std.specs.Prelude.{⊤}
use Rattle.std.specs.Option.{option_map}
use Rattle.std.proofs.lemmas.Bool.{eqb-true}
use Rattle.run_laws.specs.link_model.Packets.{packet_sent}
use Rattle.run_laws.specs.link_model.Step.{PacketSent}
use Rattle.run_laws.specs.open_links.OpenLinks.{Links, OpenLink, facts_in, link_after, link_at, with_change}
use Rattle.run_laws.proofs.open_links.Handles.{changed_is}
use Rattle.run_laws.specs.controller_model.declared.doing.Doing.{Doing}
use Rattle.run_laws.specs.controller_model.declared.doing.Doing.TheVariants.{Advertises, Scans, AwaitsResponse, CentralSends, PeripheralSends, Rests}
use Rattle.run_laws.specs.controller_model.Step.{HostOctet, TurnEnds}
use Rattle.run_laws.specs.controller_model.Facts.{Setup, Facts, Use, Sends, Listens, first_facts}
use Rattle.run_laws.specs.controller_model.Packets.{facts_doing, sends_on, use_for}
use Rattle.run_laws.specs.controller_model.Radio.{outcome_begun}
use Rattle.run_laws.specs.controller_model.Side.{facts_after, outcome_heard, outcome_unheard}
use Rattle.run_laws.specs.run_model.Run.{step_of}
use Rattle.link_calls.specs.Uses.{sends_under}
use Rattle.run_laws.proofs.TurnPlaces.{Between, IsTurned, Stage}
use Rattle.run_laws.proofs.Entering.{IsInTurn, turn_first, turn_kept}

-- what a link that it sends on was before that, and what it wants of the radio
pub record IsSending (facts : Facts) (after : OpenLink) : Type 0 where
  pub link : OpenLink
  pub after_is : after ≡ link_after (PacketSent facts.turn.slot) link
  pub wanted : facts.wanted ≡ Sends (facts_in link).event.channel (packet_sent link.setup (facts_in link))

abbrev pub IsSendingOpen : Facts → Type 0
IsSendingOpen facts = (handle : ℕ) (after : OpenLink) → sends_under handle facts.turn.doing ≡ true → link_at handle facts.links ≡ Some after → IsSending facts after

-- a scanner listens on an advertising channel, and nothing else is listened for there
abbrev pub IsScanning : Facts → Doing → Type 0
IsScanning facts (Scans channel) = facts.wanted ≡ Listens channel
IsScanning facts (AwaitsResponse channel) = facts.wanted ≡ Listens channel
IsScanning facts other = ⊤

-- ---- it sends

sent_on : (slot handle : ℕ) (links : Links) (wanted : Use) (found : Option OpenLink) (after : OpenLink) → link_at handle links ≡ found
    → link_at handle (with_change handle (link_after (PacketSent slot)) links) ≡ Some after → wanted ≡ sends_on found
    → (link : OpenLink) × (after ≡ link_after (PacketSent slot) link) × (wanted ≡ Sends (facts_in link).event.channel (packet_sent link.setup (facts_in link)))
sent_on slot handle links wanted None after at is same =
    let none : None ≡ Some after = ap (option_map (link_after (PacketSent slot))) (sym at) ∙ sym (changed_is (option_map (link_after (PacketSent slot))) 0 handle links refl) ∙ is in absurd cc
sent_on slot handle links wanted (Some link) after at is same =
    let some : Some (link_after (PacketSent slot) link) ≡ Some after =
    ap (option_map (link_after (PacketSent slot))) (sym at) ∙ sym (changed_is (option_map (link_after (PacketSent slot))) 0 handle links refl) ∙ is in
    let equal : after ≡ link_after (PacketSent slot) link = cc in (link, equal, same)

doing_sends : (doing : Doing) (facts : Facts) → IsSendingOpen (facts_doing doing facts)
doing_sends (CentralSends handle) facts other after same is =
    let one = eqb-true handle other same in
    let found = sent_on facts.turn.slot handle facts.links (use_for facts (CentralSends handle)) (link_at handle facts.links) after refl
    (subst (λ (n : ℕ). link_at n (facts_doing (CentralSends handle) facts).links ≡ Some after) (sym one) is) refl in
    record { link = found.0; after_is = found.1; wanted = found.2 }
doing_sends (PeripheralSends handle) facts other after same is =
    let one = eqb-true handle other same in
    let found = sent_on facts.turn.slot handle facts.links (use_for facts (PeripheralSends handle)) (link_at handle facts.links) after refl
    (subst (λ (n : ℕ). link_at n (facts_doing (PeripheralSends handle) facts).links ≡ Some after) (sym one) is) refl in
    record { link = found.0; after_is = found.1; wanted = found.2 }
doing_sends (Advertises channel) facts other after same is = absurd cc
doing_sends doing facts other after same is = absurd cc

doing_scans : (doing : Doing) (facts : Facts) → IsScanning (facts_doing doing facts) doing
doing_scans (Scans channel) facts = refl
doing_scans (AwaitsResponse channel) facts = refl
doing_scans (Advertises channel) facts = tt
doing_scans other facts = tt

pub record IsUsing (setup : Setup) (stage : Stage) (begun : ℕ) (facts : Facts) : Type 0 where
  pub in_turn : IsInTurn setup stage begun facts
  pub sends : IsSendingOpen facts
  pub scans : IsScanning facts facts.turn.doing

rests_send : (facts : Facts) → facts.turn.doing ≡ Rests → IsSendingOpen facts
rests_send facts is = λ handle after same at. absurd (let h : false ≡ true = sym (ap (sends_under handle) is) ∙ same in absurd cc)

phase_uses : (setup : Setup) (facts : Facts) (received : Option (List ℕ))
    → IsSendingOpen (facts_after setup facts (step_of received)) × IsScanning (facts_after setup facts (step_of received)) (facts_after setup facts (step_of received)).turn.doing
phase_uses setup facts None =
    let outcome = outcome_unheard facts in (doing_sends outcome.next outcome.facts, doing_scans outcome.next outcome.facts)
phase_uses setup facts (Some octets) =
    let outcome = outcome_heard setup octets facts in (doing_sends outcome.next outcome.facts, doing_scans outcome.next outcome.facts)

pub using_kept : (setup : Setup) → IsTurned setup (IsUsing setup)
using_kept setup = record {
  feeds = λ begun octet facts is.
      let in_turn = (turn_kept setup).feeds begun octet facts is.in_turn in record {
        in_turn = in_turn;
        sends = rests_send (facts_after setup facts (HostOctet octet)) in_turn.does;
        scans = subst (IsScanning (facts_after setup facts (HostOctet octet))) (sym in_turn.does) tt;
      };
  begins = λ begun on facts is. record {
    in_turn = (turn_kept setup).begins begun on facts is.in_turn;
    sends = doing_sends (outcome_begun begun on facts).next (outcome_begun begun on facts).facts;
    scans = doing_scans (outcome_begun begun on facts).next (outcome_begun begun on facts).facts;
  };
  passes = λ phases begun received facts is.
      let uses = phase_uses setup facts received in
      record { in_turn = (turn_kept setup).passes phases begun received facts is.in_turn; sends = uses.0; scans = uses.1 };
  ends = λ begun facts is. record {
    in_turn = (turn_kept setup).ends begun facts is.in_turn;
    sends = rests_send (facts_after setup facts TurnEnds) refl;
    scans = tt;
  };
}

pub using_first : (setup : Setup) → IsUsing setup Between 0 (first_facts setup)
using_first setup = record { in_turn = turn_first setup; sends = rests_send (first_facts setup) refl; scans = tt }
