-- In every run, what the host of each open end asked and answered is in range, and each end receives payloads of 27
-- octets at least and of 251 at most.
use Rattle.std.proofs.Common.{◌≡◌, ℕ, Bool, true, false, Some, List, [], ◌∷◌, ◌++◌}
use Rattle.std.specs.Prelude.{if◌then◌else◌}
use Rattle.std.specs.List.{Contains}
use Rattle.run_model.specs.link_model.AskRanges.{AreAsksInRange, IsAskInRange}
use Rattle.run_model.specs.link_model.Step.{Step as EndStep, DataGiven, DataReported, EventEntered, PacketReceived, PacketSent, PduFixed, WordsGiven}
use Rattle.run_model.specs.open_links.OpenLinks.{OpenLink, link_after, link_at}
use Rattle.run_model.specs.open_links.Turns.{entered_if, enters_in, link_entered}
use Rattle.run_model.specs.controller_model.Facts.{Facts, Setup, first_facts}
use Rattle.run_model.specs.controller_model.Side.{facts_of}
use Rattle.run_model.proofs.controller_model.HostBuffers.{most_in_range}
use Rattle.run_model.specs.Feeding.{AreDistinct}
use Rattle.run_model.specs.History.{Event, past_of}
use Rattle.run_model.specs.Run.{Given, facts_at, history_of, run_of, setup_at}
use Rattle.run_model.proofs.Stations.{contains_in, is_in}
use Rattle.run_laws.specs.Ranges.{HasRanges}
use Rattle.run_laws.proofs.Entering.{IsInTurn, made_range, turn_first, turn_kept}
use Rattle.run_laws.proofs.OpenSteps.{EachOpen, IsKeptByHosts, IsKeptOpen, IsKeptServed, KeepsAsked, MayOpen, begin_open, end_open, none_open, octet_open, open_has, phase_open}
use Rattle.run_laws.proofs.TurnPlaces.{Between, IsTurned, Stage, Within, stands_in_run, turned}

-- ---- a step of a link

one_more : (past : List EndStep) (step : EndStep) → AreAsksInRange past → IsAskInRange step → AreAsksInRange (past ++ step ∷ [])
one_more [] step are is = (is, tt)
one_more (first ∷ past) step are is = (are.0, one_more past step are.1 is)

front_asks : (past more : List EndStep) → AreAsksInRange (past ++ more) → AreAsksInRange past
front_asks [] more are = tt
front_asks (step ∷ past) more are = (are.0, front_asks past more are.1)

pub ranges_after : (step : EndStep) (link : OpenLink) → IsAskInRange step → HasRanges link → HasRanges (link_after step link)
ranges_after step link is has = record { max_rx_from = has.max_rx_from; max_rx_to = has.max_rx_to; asks = one_more link.past step has.asks is }

-- so it was before the step
pub ranges_before : (step : EndStep) (link : OpenLink) → HasRanges (link_after step link) → HasRanges link
ranges_before step link has = record { max_rx_from = has.max_rx_from; max_rx_to = has.max_rx_to; asks = front_asks link.past (step ∷ []) has.asks }

-- and before it sent, if it did
pub sent_ranges : (sends : Bool) (slot : ℕ) (link : OpenLink) → HasRanges (if sends then link_after (PacketSent slot) link else link) → HasRanges link
sent_ranges true slot link has = ranges_before (PacketSent slot) link has
sent_ranges false slot link has = has

entered_ranges : (slot : ℕ) (link : OpenLink) → HasRanges link → HasRanges (link_entered slot link)
entered_ranges slot link has = by (enters_in slot link)
  where
    by : (enters : Bool) → HasRanges (entered_if enters slot link)
    by true = ranges_after (EventEntered slot) link tt has
    by false = has

ranges_hosts : IsKeptByHosts HasRanges
ranges_hosts = record {
  given = λ start body link has. ranges_after (DataGiven start body) link tt has;
  reported = λ link has. ranges_after DataReported link tt has;
}

-- what a command asks for is in range
ranges_asked : KeepsAsked HasRanges
ranges_asked step link well has = ranges_after step link well.in_range has

ranges_served : IsKeptServed HasRanges
ranges_served = record {
  hosts = ranges_hosts;
  served = λ slot link has. record { max_rx_from = has.max_rx_from; max_rx_to = has.max_rx_to; asks = has.asks };
  fixed = λ link has. ranges_after PduFixed link tt has;
  sent = λ slot link has. ranges_after (PacketSent slot) link tt has;
}

ranges_open : IsKeptOpen HasRanges
ranges_open = record {
  serving = ranges_served;
  received = λ slot octets room link has. ranges_after (PacketReceived slot octets room) link tt has;
  worded = λ skd_s iv_s link has. ranges_after (WordsGiven skd_s iv_s) link tt has;
  answered = ranges_asked;
}

-- ---- at any time of a controller

pub record AreRanged (setup : Setup) (stage : Stage) (begun : ℕ) (facts : Facts) : Type 0 where
  pub in_turn : IsInTurn setup stage begun facts
  pub each : EachOpen HasRanges facts.links

may_open : (setup : Setup) (stage : Stage) (begun : ℕ) (facts : Facts) → IsInTurn setup stage begun facts → MayOpen HasRanges ranges_open facts
may_open setup stage begun facts in_turn = record {
  made = λ channel link doing.
      let range = made_range setup stage begun facts in_turn channel link doing in record { max_rx_from = range.0; max_rx_to = range.1; asks = tt };
  taken = λ pdu on fields handle takes.
      let range = most_in_range facts.view in_turn.least in record { max_rx_from = range.0; max_rx_to = range.1; asks = tt };
}

pub ranged_kept : (setup : Setup) → IsTurned setup (AreRanged setup)
ranged_kept setup = record {
  feeds = λ begun octet facts is. record {
    in_turn = (turn_kept setup).feeds begun octet facts is.in_turn;
    each = octet_open HasRanges ranges_hosts ranges_asked setup facts octet is.each;
  };
  begins = λ begun on facts is. record {
    in_turn = (turn_kept setup).begins begun on facts is.in_turn;
    each = begin_open HasRanges HasRanges ranges_served setup begun on facts (entered_ranges begun) is.each;
  };
  passes = λ phases begun received facts is. record {
    in_turn = (turn_kept setup).passes phases begun received facts is.in_turn;
    each = phase_open HasRanges ranges_open setup facts received (may_open setup (Within phases) begun facts is.in_turn) is.each;
  };
  ends = λ begun facts is. record {
    in_turn = (turn_kept setup).ends begun facts is.in_turn;
    each = end_open HasRanges ranges_hosts setup facts is.each;
  };
}

pub ranged_first : (setup : Setup) → AreRanged setup Between 0 (first_facts setup)
ranged_first setup = record { in_turn = turn_first setup; each = none_open HasRanges setup.links }

-- ---- in a run

pub ranges_in : (given : Given) (before rest : List Event) (station handle : ℕ) (link : OpenLink) → AreDistinct given.stations → is_in station given.stations ≡ true
    → history_of (run_of given) ≡ before ++ rest → link_at handle (facts_at given station before).links ≡ Some link → HasRanges link
ranges_in given before rest station handle link distinct in_it at is =
    let setup = setup_at given station in
    let past = past_of station before in
    let stands = stands_in_run given before rest station distinct in_it at in
    let are = turned setup (AreRanged setup) (ranged_kept setup) past stands.at (ranged_first setup) stands.is in
    open_has HasRanges 0 handle (facts_of setup past).links link are.each is

pub run_ranges : (given : Given) (before rest : List Event) (station handle : ℕ) (link : OpenLink) → AreDistinct given.stations → Contains given.stations station
    → history_of (run_of given) ≡ before ++ rest → link_at handle (facts_at given station before).links ≡ Some link → HasRanges link
run_ranges given before rest station handle link distinct contains at is =
    ranges_in given before rest station handle link distinct (contains_in given.stations station contains) at is
