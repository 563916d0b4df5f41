-- Events of ends, as worked examples have them.
use Rattle.std.specs.Prelude.{ℕ, true, [], ◌∷◌, Some}
use Rattle.ble_base.specs.declared.roles.Role.TheVariants.{Peripheral}
use Rattle.data_pdu.specs.declared.ctrl.Ctrl.TheVariants.{ConnectionUpdateInd}
use Rattle.data_pdu.specs.declared.ctrl.CtrlRead.TheVariants.{Known}
use Rattle.journal_sending.specs.journal_leaving.journal_controls.Rows.{begun_on}
use Rattle.journal_sending.specs.journal_leaving.journal_controls.link_model.Facts.{no_response}
use Rattle.journal_sending.specs.journal_leaving.journal_controls.link_model.keyed_control.Keyed.{Keyed}
use Rattle.journal_sending.specs.journal_leaving.journal_controls.link_model.keyed_control.KeyedSteps.{Enters, Takes, keyed_after, keyed_after_all}
use Rattle.journal_sending.specs.journal_leaving.journal_controls.link_model.phased_end.Taking.{drawn}
use Rattle.journal_events.specs.EventLines.{EventLines, event_entering, no_event_lines}

-- an end in event 4, with a latency of one event, which heard a good packet last in this event
abbrev pub heard_in : ℕ → EventLines
heard_in event = record no_event_lines { number = 4; latency = 1; last_heard = Some event }

-- an end that heard a good packet in its event, and that more waits
abbrev pub to_continue : EventLines
to_continue = record no_event_lines { heard = true; more = true }

-- a peripheral with no latency takes an update in event 0: from event 1 on it may skip one event (Core 5.2, volume 6 part
-- B, section 5.1.1)
abbrev pub update_taken : Keyed
update_taken =
    keyed_after_all (Enters 2 ∷ Takes (Known (ConnectionUpdateInd 1 0 24 1 72 1)) 2 (drawn no_response) ∷ [])
    (begun_on Peripheral)

-- it enters event 1
abbrev pub update_entered : EventLines
update_entered =
    event_entering 26 1 (Some update_taken) (Some (keyed_after (Enters 26) update_taken))
    (record no_event_lines { last_heard = Some 0 })
