-- What the sides of a run are set up with.
use Rattle.ble_base.specs.declared.roles.Side.TheVariants.{A, B}
use Rattle.radio_replay.specs.Script.{Script}
use Rattle.journal_events.specs.journal_sending.controller_model.Facts.{setup_of}
use Rattle.journal_events.specs.journal_sending.run_model.Pair.{pair_buffers, pair_links}
use Rattle.journal_events.specs.journal_sending.run_model.Readers.{station_of}
use Rattle.journal_events.specs.journal_sending.run_model.Run.{Given, setup_at}
use Rattle.journal_wants.specs.Station.{Setups}

abbrev pub setups_of : Given → Setups
setups_of given side = setup_at given (station_of side)

-- in a pair, by its script
abbrev pub setups_by : Script → Setups
setups_by script A = setup_of script.a pair_links pair_buffers pair_buffers
setups_by script B = setup_of script.b pair_links pair_buffers pair_buffers
