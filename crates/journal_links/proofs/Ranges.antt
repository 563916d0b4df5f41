-- The values of each link of a run are in their ranges: those of its CONNECT_IND, and what its host asks and answers.
use Rattle.std.proofs.Common.{◌≡◌, ℕ, Bool, true, false, List, [], ◌∷◌, ◌++◌, Some, subst}
use Rattle.std.specs.List.{AllByRecursion}
use Rattle.adv_pdu.specs.Ranges.{IsInRange}
use Rattle.run_laws.specs.link_model.Step.{Step as EndStep, DataGiven, DataReported, EventEntered, PacketReceived, PacketSent, PduFixed, ProcedureAsked, WordsGiven}
use Rattle.run_laws.specs.link_model.procedure_values.declared.asks.Ask.TheVariants.{Map}
use Rattle.run_laws.specs.open_links.OpenLinks.{OpenLink, link_after, link_at}
use Rattle.run_laws.specs.open_links.Turns.{entered_if, enters_in, link_entered}
use Rattle.run_laws.specs.controller_model.Facts.{Setup, Facts}
use Rattle.run_laws.specs.controller_model.Side.{facts_of}
use Rattle.run_laws.proofs.controller_model.LinkFields.{range_of_test}
use Rattle.run_laws.specs.run_model.Feeding.{AreDistinct}
use Rattle.run_laws.specs.run_model.History.{Event, past_of}
use Rattle.run_laws.specs.run_model.Run.{Given, facts_at, history_of, run_of, setup_at}
use Rattle.run_laws.proofs.run_model.LinkEnds.{AreTaken}
use Rattle.run_laws.proofs.run_model.Stations.{is_in}
use Rattle.run_laws.proofs.Entering.{IsInTurn, taken_in_range, turn_first, turn_kept}
use Rattle.run_laws.proofs.InRange.{ranges_in}
use Rattle.run_laws.proofs.OpenSteps.{AsksForMap, EachOpen, IsKeptByHosts, IsKeptOpen, IsKeptServed, KeepsAsked, MayOpen, begin_open, end_open, none_open, octet_open, open_has, phase_open}
use Rattle.run_laws.proofs.TurnPlaces.{IsTurned, Stage, Within, stands_in_run, turned}
use Rattle.run_laws.proofs.TurnSteps.{MakesWell}
use Rattle.link_changes.specs.InForce.{AsksMap, HasRanges}

-- ---- the fields of its CONNECT_IND, and the maps that its host asks for

record HasValues (link : OpenLink) : Type 0 where
  fields : IsInRange link.setup.link.fields
  maps : AllByRecursion AsksMap link.past

one_more : (past : List EndStep) (step : EndStep) → AllByRecursion AsksMap past → AsksMap step → AllByRecursion AsksMap (past ++ step ∷ [])
one_more [] step are is = (is, tt)
one_more (first ∷ past) step are is = (are.0, one_more past step are.1 is)

values_after : (step : EndStep) (link : OpenLink) → AsksMap step → HasValues link → HasValues (link_after step link)
values_after step link is has = record { fields = has.fields; maps = one_more link.past step has.maps is }

entered_values : (slot : ℕ) (link : OpenLink) → HasValues link → HasValues (link_entered slot link)
entered_values slot link has = by (enters_in slot link)
  where
    by : (enters : Bool) → HasValues (entered_if enters slot link)
    by true = values_after (EventEntered slot) link tt has
    by false = has

values_hosts : IsKeptByHosts HasValues
values_hosts = record {
  given = λ start body link has. values_after (DataGiven start body) link tt has;
  reported = λ link has. values_after DataReported link tt has;
}

asks_map : (step : EndStep) → AsksForMap step → AsksMap step
asks_map (ProcedureAsked (Map map)) is = is
asks_map (ProcedureAsked ask) is = tt
asks_map other is = tt

values_asked : KeepsAsked HasValues
values_asked step link well has = values_after step link (asks_map step well.map) has

values_served : IsKeptServed HasValues
values_served = record {
  hosts = values_hosts;
  served = λ slot link has. record { fields = has.fields; maps = has.maps };
  fixed = λ link has. values_after PduFixed link tt has;
  sent = λ slot link has. values_after (PacketSent slot) link tt has;
}

values_open : IsKeptOpen HasValues
values_open = record {
  serving = values_served;
  received = λ slot octets room link has. values_after (PacketReceived slot octets room) link tt has;
  worded = λ skd_s iv_s link has. values_after (WordsGiven skd_s iv_s) link tt has;
  answered = values_asked;
}

record HaveValues (setup : Setup) (stage : Stage) (begun : ℕ) (facts : Facts) : Type 0 where
  in_turn : IsInTurn setup stage begun facts
  each : EachOpen HasValues facts.links

may_open : AreTaken → (setup : Setup) (phases begun : ℕ) (facts : Facts) → IsInTurn setup (Within phases) begun facts → MayOpen HasValues values_open facts
may_open taken setup phases begun facts in_turn = record {
  made = λ channel link doing.
      let made = subst (MakesWell setup facts.view facts.connections) doing in_turn.makes in record { fields = range_of_test link.fields made.in_range; maps = tt };
  taken = λ pdu on fields handle takes. record { fields = taken_in_range taken on.params facts.view.accepted pdu fields takes; maps = tt };
}

values_kept : AreTaken → (setup : Setup) → IsTurned setup (HaveValues setup)
values_kept taken setup = record {
  feeds = λ begun octet facts are. record {
    in_turn = (turn_kept setup).feeds begun octet facts are.in_turn;
    each = octet_open HasValues values_hosts values_asked setup facts octet are.each;
  };
  begins = λ begun on facts are. record {
    in_turn = (turn_kept setup).begins begun on facts are.in_turn;
    each = begin_open HasValues HasValues values_served setup begun on facts (entered_values begun) are.each;
  };
  passes = λ phases begun received facts are. record {
    in_turn = (turn_kept setup).passes phases begun received facts are.in_turn;
    each = phase_open HasValues values_open setup facts received (may_open taken setup phases begun facts are.in_turn) are.each;
  };
  ends = λ begun facts are. record {
    in_turn = (turn_kept setup).ends begun facts are.in_turn;
    each = end_open HasValues values_hosts setup facts are.each;
  };
}

-- ---- at any time of a run

pub values_in_range : AreTaken → (given : Given) (before rest : List Event) (station handle : ℕ) (link : OpenLink) → AreDistinct given.stations
    → is_in station given.stations ≡ true → history_of (run_of given) ≡ before ++ rest
    → link_at handle (facts_at given station before).links ≡ Some link → HasRanges link.setup link.past
values_in_range taken given before rest station handle link distinct is at is_open =
    let setup = setup_at given station in
    let past = past_of station before in
    let stands = stands_in_run given before rest station distinct is at in
    let are = turned setup (HaveValues setup) (values_kept taken setup) past stands.at
    (record { in_turn = turn_first setup; each = none_open HasValues setup.links }) stands.is in
    let has = open_has HasValues 0 handle (facts_of setup past).links link are.each is_open in
    record {
      latency = has.fields.parameters.latency_to;
      asks = (ranges_in given before rest station handle link distinct is at is_open).asks;
      maps = has.maps;
    }
