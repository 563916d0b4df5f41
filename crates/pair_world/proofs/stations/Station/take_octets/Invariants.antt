-- Invariants of `stations::Station::take_octets`.
use Rattle.std.proofs.Common.{◌≡◌, ℕ, List, [], take}
use Rattle.controller.specs.Order.{MayBegin}
use Rattle.run_model.specs.History.{Event}
use Rattle.run_model.specs.Run.{Given, after_octets}
use Rattle.pair_world.specs.Stations.{StationIsUpTo, number_of}
use Rattle.pair_world.proofs.stations.Station.take_octets.Given as goal

abbrev pub invariant-loop-octet : goal.invariant-loop-octet
invariant-loop-octet l = record {
  empty : l.out.items ≡ [];
  links : l.log.links ≡ l.fn.log.links;
  at : (given : Given) (history : List Event) → StationIsUpTo given (number_of l.fn.side) history l.fn.self l.fn.log
      → StationIsUpTo given (number_of l.fn.side) (after_octets given (number_of l.fn.side) (take l.octet-index l.octets) history) l.self l.log;
  order : (slot : ℕ) → MayBegin slot l.fn.self.held → MayBegin slot l.self.held;
}
