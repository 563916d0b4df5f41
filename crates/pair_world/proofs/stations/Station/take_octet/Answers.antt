-- Proof of `stations::Station::take_octet`.
use Rattle.controller_model.specs.Step.{HostOctet}
use Rattle.run_model.specs.Run.{setup_at}
use Rattle.run_model.specs.History.{past_of}
use Rattle.pair_world.specs.Stations.{number_of}
use Rattle.pair_world.proofs.Keeping.{called}
use Rattle.pair_world.proofs.Outcomes.{on_ok_two}
use Rattle.pair_world.proofs.stations.Station.take_octet.Goals as goal

pub returns-clause-at : goal.returns-clause-at
returns-clause-at c =
    let side = c.args.side in
    on_ok_two c.write_notes.result _ _ _ (λ log_is written_is given history at.
    called c.notes_name_links_of_the_controller.ensures.step given side (HostOctet c.args.octet) history c.args.self.now c.host_octet.new.self
    c.write_notes.new.self c.args.log.now c.write_notes.new.log c.host_octet.new.out.items at
    (c.host_octet.ensures.took (setup_at given (number_of side)) (past_of (number_of side) history) at.keeps.knows) log_is written_is)
    c.write_notes.ensures.log c.write_notes.ensures.links
