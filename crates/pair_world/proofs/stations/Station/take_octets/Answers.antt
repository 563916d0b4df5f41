-- Proof of `stations::Station::take_octets`.
use Rattle.std.proofs.Common.{take, get_or, List, ℕ, subst, sym, ap, ◌∙◌, arith}
use Rattle.std.proofs.lemmas.List.{take_more}
use Rattle.run_model.specs.History.{Event}
use Rattle.run_model.specs.Run.{after_octets}
use Rattle.pair_world.specs.Stations.{StationIsUpTo, number_of}
use Rattle.pair_world.proofs.Feeding.{octets_one_more, take_whole}
use Rattle.pair_world.proofs.stations.Station.take_octets.Goals as goal

pub loop-octet-preserved : goal.loop-octet-preserved
loop-octet-preserved c =
    let place = c.loop-octet.octet-index in
    let octets = c.args.octets.now in
    let station = number_of c.args.side in
    let at = c.loop-octet.invariant in record {
      empty = c.in_ok-take_octet.ensures.empty;
      links = c.in_ok-take_octet.ensures.links ∙ at.links;
      at = λ given history before.
          subst (λ (after : List Event). StationIsUpTo given station after c.take_octet.new.self c.take_octet.new.log)
          (sym (ap (λ (octets : List ℕ). after_octets given station octets history) (take_more octets place 0 c.loop-octet-test.true)
          ∙ octets_one_more given station (take place octets) (get_or octets place 0) history))
          (c.in_ok-take_octet.ensures.at given (after_octets given station (take place octets) history) (at.at given history before));
      order = λ slot may. c.in_ok-take_octet.ensures.order slot (at.order slot may);
    }

pub returns-clause-at : goal.returns-clause-at
returns-clause-at c = λ given history before.
    let station = number_of c.args.side in
    subst (λ (octets : List ℕ). StationIsUpTo given station (after_octets given station octets history) c.loop-octet.self c.loop-octet.log)
    (take_whole c.loop-octet.octet-index c.args.octets.now (omega (arith, c.loop-octet-test.false)))
    (c.loop-octet.invariant.at given history before)
