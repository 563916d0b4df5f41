-- A packet of the far end, as an end is called with it.
use Rattle.std.proofs.Common.{◌≡◌, ℕ, true, false, Some, List, [], ◌∷◌, ◌++◌, refl, sym, ap, ◌∙◌}
use Rattle.std.proofs.lemmas.Bool.{eqb-true}
use Rattle.link_calls.specs.link_model.End.{facts_after as end_after}
use Rattle.link_calls.specs.link_model.Facts.{Facts as EndFacts}
use Rattle.link_calls.specs.link_model.Packets.{packet_sent, pdu_sent}
use Rattle.link_calls.specs.link_model.Setup.{Setup as EndSetup}
use Rattle.link_calls.specs.link_model.Step.{PacketSent}
use Rattle.link_calls.specs.open_links.OpenLinks.{OpenLink, facts_in, link_after, link_at}
use Rattle.link_calls.specs.controller_model.declared.doing.Doing.{Doing}
use Rattle.link_calls.specs.controller_model.declared.doing.Doing.TheVariants.{Advertises, CentralListens, PeripheralListens}
use Rattle.link_calls.specs.controller_model.Step.{Step, PacketHeard}
use Rattle.link_calls.specs.run_model.Feeding.{AreDistinct}
use Rattle.link_calls.specs.run_model.History.{Event}
use Rattle.link_calls.specs.run_model.Run.{Given, facts_at, history_of, run_of}
use Rattle.link_calls.specs.run_laws.Ends.{HasSent, HaveOneConnectInd, OpenEnd, ReceivesGood, link_listened}
use Rattle.link_calls.specs.Uses.{listens_under}
use Rattle.link_calls.proofs.run_model.Stations.{is_in}
use Rattle.link_calls.proofs.run_laws.Agreed.{step_facts}
use Rattle.link_calls.proofs.run_laws.OpenedOnce.{opened_once}
use Rattle.link_runs.specs.link_pairs.Hearing.{is_mixed_packet}
use Rattle.link_runs.proofs.link_pairs.HasSent.{has_sent}
use Rattle.run_pairs.specs.InTurns.{HasSentNow}
use Rattle.run_pairs.proofs.PairSteps.{IsPacketNow}

pub listens_is : (handle : ℕ) (doing : Doing) → listens_under handle doing ≡ true → link_listened doing ≡ Some handle
listens_is handle (CentralListens other) is = ap Some (eqb-true other handle is)
listens_is handle (PeripheralListens other) is = ap Some (eqb-true other handle is)
listens_is handle (Advertises channel) is = absurd cc
listens_is handle other is = absurd cc

-- what an end takes in a call comes from the far end, in this turn
abbrev pub HearsNow : Given → List Event → OpenEnd → OpenEnd → Step → Type 0
HearsNow given before end far step =
    (octets : List ℕ) (link : OpenLink) → step ≡ PacketHeard octets → ReceivesGood (facts_at given end.station before) octets link
    → HaveOneConnectInd link.setup end.link.setup → HasSentNow given before end far (facts_in link).event.channel octets

-- and it is not mixed, by what both ends have then
abbrev pub HearsPure : Given → List Event → OpenEnd → OpenEnd → Step → Type 0
HearsPure given before end far step =
    (octets : List ℕ) (link there : OpenLink) → step ≡ PacketHeard octets → ReceivesGood (facts_at given end.station before) octets link
    → link.setup ≡ end.link.setup → link_at far.handle (facts_at given far.station before).links ≡ Some there
    → there.setup ≡ far.link.setup → is_mixed_packet link.setup (facts_in link) (facts_in there) octets ≡ false

pub record HearsAll (given : Given) (before : List Event) (end far : OpenEnd) (step : Step) : Type 0 where
  pub now : HearsNow given before end far step
  pub pure : HearsPure given before end far step

-- the link of the far end is the one on which it was sent
module _ (given : Given) (before rest : List Event) (far : OpenEnd) (channel : ℕ) (octets : List ℕ) (p : OpenLink) (distinct : AreDistinct given.stations)
    (in_too : is_in far.station given.stations ≡ true) (at : history_of (run_of given) ≡ before ++ rest)
    (is_open : link_at far.handle (facts_at given far.station before).links ≡ Some p) (setup : p.setup ≡ far.link.setup)
    (sent : HasSent given before far channel octets) where
  after_sending : link_after (PacketSent sent.slot) sent.link ≡ p
  after_sending =
      let after = link_after (PacketSent sent.slot) sent.link in
      let links = (facts_at given far.station before).links in
      let opened = sent.is_end.opened ∙ sym (ap (λ (s : EndSetup). s.opened) setup) in
      let under = opened_once given before rest far.station sent.handle far.handle after p distinct in_too at sent.is_open is_open opened in
      let some : Some after ≡ Some p = sym sent.is_open ∙ ap (λ n. link_at n links) under ∙ is_open in
      cc

  -- with the PDU that it sent last
  pub last_sent : (facts_in p).acknowledgement.last ≡ pdu_sent (facts_in sent.link)
  last_sent =
      ap (λ (l : OpenLink). (facts_in l).acknowledgement.last) (sym after_sending)
      ∙ ap (λ (f : EndFacts). f.acknowledgement.last) (step_facts sent.link (PacketSent sent.slot))
      ∙ (has_sent sent.slot (facts_in sent.link)).last

pub packet_now : (given : Given) (before rest : List Event) (end far : OpenEnd) (listener : EndFacts) (octets : List ℕ) (p : OpenLink) → AreDistinct given.stations
    → is_in far.station given.stations ≡ true → history_of (run_of given) ≡ before ++ rest
    → link_at far.handle (facts_at given far.station before).links ≡ Some p → p.setup ≡ far.link.setup
    → HasSentNow given before end far listener.event.channel octets
    → IsPacketNow far.link.setup (facts_at given end.station before).turn.slot listener p octets
packet_now given before rest end far listener octets p distinct in_too at is_open setup heard =
    let sent = heard.sent in
    let equal = after_sending given before rest far listener.event.channel octets p distinct in_too at is_open setup sent in
    let setups : sent.link.setup ≡ far.link.setup = ap (λ (l : OpenLink). l.setup) equal ∙ setup in record {
      front = sent.link.past;
      last = sym (ap (λ (l : OpenLink). l.past) equal) ∙ ap (λ n. sent.link.past ++ PacketSent n ∷ []) heard.now;
      channel = listener.event.channel;
      packet = record {
        before = facts_in sent.link;
        sent = sym (ap facts_in equal) ∙ step_facts sent.link (PacketSent sent.slot) ∙ ap (λ n. end_after far.link.setup (facts_in sent.link) (PacketSent n)) heard.now;
        packet = sent.packet ∙ ap (λ (s : EndSetup). packet_sent s (facts_in sent.link)) setups;
        on_channel = sent.channel_is;
      };
      same = refl;
    }
