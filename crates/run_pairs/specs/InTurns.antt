-- What the two ends of a link hear of each other, turn by turn (Core 5.2, volume 6 part B, section 4.5.1).
use Rattle.std.specs.Prelude.{◌≡◌, ℕ, false, Some, List, ◌∷◌, ◌++◌}
use Rattle.link_calls.specs.open_links.OpenLinks.{OpenLink, facts_in, link_at}
use Rattle.link_calls.specs.controller_model.Step.{PacketHeard}
use Rattle.link_calls.specs.run_model.History.{Event, Called}
use Rattle.link_calls.specs.run_model.Run.{Given, facts_at}
use Rattle.link_runs.specs.link_pairs.Hearing.{is_mixed_packet}
use Rattle.link_calls.specs.run_laws.Ends.{HasSent, HaveOneConnectInd, OpenEnd, ReceivesGood}

-- the far end has sent this packet on this channel, in the turn in which the end is called
pub record HasSentNow (given : Given) (before : List Event) (end far : OpenEnd) (channel : ℕ) (octets : List ℕ)
    : Type 0 where
  pub sent : HasSent given before far channel octets
  pub now : sent.slot ≡ (facts_at given end.station before).turn.slot

-- each good packet that an end receives is what the far end sent in that turn
abbrev pub HearsInTurn : Given → List Event → OpenEnd → OpenEnd → Type 0
HearsInTurn given history end far =
    (before after : List Event) (octets : List ℕ) (link : OpenLink)
    → history ≡ before ++ Called end.station (PacketHeard octets) ∷ after
    → ReceivesGood (facts_at given end.station before) octets link → HaveOneConnectInd link.setup end.link.setup
    → HasSentNow given before end far (facts_in link).event.channel octets

-- both ends do so; laws of any number of stations have this premise (our choice)
pub record HearEachInTurn (given : Given) (history : List Event) (one other : OpenEnd) : Type 0 where
  pub one_hears : HearsInTurn given history one other
  pub other_hears : HearsInTurn given history other one

-- no good packet that an end receives is mixed, by what both ends have as it comes (part E, section 2)
abbrev pub HearsNoMixed : Given → List Event → OpenEnd → OpenEnd → Type 0
HearsNoMixed given history end far =
    (before after : List Event) (octets : List ℕ) (link there : OpenLink)
    → history ≡ before ++ Called end.station (PacketHeard octets) ∷ after
    → ReceivesGood (facts_at given end.station before) octets link → link.setup ≡ end.link.setup
    → link_at far.handle (facts_at given far.station before).links ≡ Some there → there.setup ≡ far.link.setup
    → is_mixed_packet link.setup (facts_in link) (facts_in there) octets ≡ false

-- neither end does: two ends are followed up to the first packet that is mixed (our choice)
pub record HearNoMixed (given : Given) (history : List Event) (one other : OpenEnd) : Type 0 where
  pub one_hears : HearsNoMixed given history one other
  pub other_hears : HearsNoMixed given history other one
