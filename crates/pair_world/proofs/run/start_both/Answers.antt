-- Proof of `run::start_both`.
use Rattle.std.proofs.Common.{subst, ap, ◌∙◌}
use Rattle.ble_base.specs.declared.Config.{Config}
use Rattle.radio_replay.specs.Script.{Script}
use Rattle.controller_model.specs.Facts.{Setup, setup_of}
use Rattle.pair_world.specs.Stations.{IsFirst}
use Rattle.pair_world.proofs.WholeRuns.{both_first}
use Rattle.pair_world.specs.declared.links.TheConstants.{LINKS}
use Rattle.pair_world.specs.declared.stations.TheConstants.{BUFFERS}
use Rattle.pair_world.proofs.run.start_both.Goals as goal

pub returns-clause-up : goal.returns-clause-up
returns-clause-up c =
    let setup_a = ap (λ (config : Config). setup_of config LINKS BUFFERS BUFFERS) c.copy.ensures
    ∙ ap (λ (script : Script). setup_of script.a LINKS BUFFERS BUFFERS) c.schedule.view_is in
    let setup_b = ap (λ (config : Config). setup_of config LINKS BUFFERS BUFFERS) c.copy-2.ensures
    ∙ ap (λ (script : Script). setup_of script.b LINKS BUFFERS BUFFERS) c.schedule.view_is in
    both_first c.args.a.now c.args.b.now c.args.schedule.now c.in_ok-start.field-0 c.in_ok-start-2.field-0
    (subst (λ (setup : Setup). IsFirst setup c.args.a.now c.in_ok-start.field-0) setup_a c.in_ok-start.ensures.first)
    (subst (λ (setup : Setup). IsFirst setup c.args.b.now c.in_ok-start-2.field-0) setup_b c.in_ok-start-2.ensures.first)
