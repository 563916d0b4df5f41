-- When an end ends the link, and when it is idle, by what it holds (Core 5.2, volume 6 part B, sections 4.5.1, 4.5.2,
-- 5.1.6 and 5.2).
use Rattle.std.specs.Prelude.{ℕ, ◌==◌, ◌&&◌, ◌||◌, Bool, not, Option, Some, if◌then◌else◌}
use Rattle.std.specs.Option.{option_map}
use Rattle.ble_base.specs.ErrorCodes.{terminated_by_local_host}
use Rattle.ble_base.specs.declared.error_codes.ErrCode.{ErrCode}
use Rattle.instants.specs.Track.{is_free}
use Rattle.procedures.specs.procedure_stages.InProgress.{is_busy}
use Rattle.procedures.specs.procedure_stages.Queue.{waiting_in}
use Rattle.control_end.specs.Answers.{timeout_of}
use Rattle.link_model.specs.Data.{is_empty}
use Rattle.link_model.specs.Lost.{reason_due}
use Rattle.link_model.specs.Times.{ended_by_procedures, first_of, termination_due}
use Rattle.link_end.specs.Held.{Held}

-- at the start of a turn: the first of these reasons (the order is our choice)
abbrev pub due_by : Held → ℕ → Option ℕ
due_by held slot =
    first_of (reason_due held.setup.opened held.control.control.track.params held.last_good slot)
    (first_of (option_map (λ (code : ErrCode). code.0) (timeout_of slot held.control.control))
    (termination_due held.leaving.disconnected held.control.control.track.params slot))

-- at the end of a turn (section 5.1.6; the order is our choice)
abbrev pub ending_by : Held → Option ErrCode
ending_by held =
    if held.leaving.acknowledged then Some (record { 0 = terminated_by_local_host })
    else ended_by_procedures held.control.control.ends held.leaving

-- it has nothing to send where no octet of data waits; no procedure is in progress and no indication waits
abbrev pub is_idle_with : Bool → Held → Bool
is_idle_with no_data held =
    ((held.is_acked || is_empty held.last) && (waiting_in held.control.control.table.queue == 0) && no_data)
    && (not (is_busy held.control.control.table.progress) && is_free held.control.control.track)
