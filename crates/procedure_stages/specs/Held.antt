-- The stages of procedures after an event was entered from which an indication holds (Core 5.2, volume 6 part B,
-- sections 5.1.1, 5.1.2 and 5.1.7).
use Rattle.std.specs.Prelude.{Option, option_map}
use Rattle.ble_base.specs.declared.procedure_kinds.Kind.{Kind}
use Rattle.exclusive_stages.specs.Held.{done_at_central, done_at_peripheral, own_held_at_central, own_held_at_peripheral, peer_held_at_central, peer_held_at_peripheral}
use Rattle.exclusive_stages.specs.Kinds.{kind_of}
use Rattle.procedure_stages.specs.declared.stages.Ahead.TheVariants.{Nothing}
use Rattle.procedure_stages.specs.declared.stages.Progress.{Progress}
use Rattle.procedure_stages.specs.declared.stages.Progress.TheVariants.{Central as central, Peripheral as peripheral}
use Rattle.procedure_stages.specs.Exclusive.{central_stage, on_central_stage, on_peripheral_stage, peripheral_stage}

abbrev pub progress_held : Progress → Progress
progress_held (central c) =
    central (record c { own = on_central_stage own_held_at_central c.own; peer = peer_held_at_central c.peer })
progress_held (peripheral p) =
    peripheral (record p {
      own = on_peripheral_stage own_held_at_peripheral p.own;
      peer = peer_held_at_peripheral p.peer;
      ahead = Nothing;
    })

abbrev pub done_held : Progress → Option Kind
done_held (central c) = option_map kind_of (done_at_central (central_stage c.own))
done_held (peripheral p) = option_map kind_of (done_at_peripheral (peripheral_stage p.own))
