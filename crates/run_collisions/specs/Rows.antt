-- Two procedures that collide on a small link, as worked examples run them.
use Rattle.std.specs.Prelude.{true, [], ◌∷◌}
use Rattle.link_pairs.specs.Rows.{Both, after_event_0, central_host, events_from, peripheral_host}
use Rattle.link_pairs.specs.link_model.Step.{ProcedureAsked}
use Rattle.link_pairs.specs.procedure_values.declared.asks.Ask.{Ask}
use Rattle.link_pairs.specs.procedure_values.declared.asks.Ask.TheVariants.{Phy}

-- the host of the central asks for this after event 0, that of the peripheral for a PHY update, and two events follow
abbrev pub both_asked : Ask → Both
both_asked ask =
    events_from 1 (true ∷ true ∷ [])
    (peripheral_host (ProcedureAsked Phy) (central_host (ProcedureAsked ask) after_event_0))
