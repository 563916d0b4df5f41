-- What an end holds and notes as it enters an event (Core 5.2, volume 6 part B, sections 4.5.1 and 5.5).
use Rattle.std.specs.Prelude.{ℕ, Bool, false, List, [], if◌then◌else◌}
use Rattle.ble_base.specs.declared.notes.Note.{Note}
use Rattle.control_end.specs.Answers.{entry_of}
use Rattle.link_model.specs.phased_end.Answers.{quiet_now}
use Rattle.link_model.specs.phased_end.Held.{HeldKeyed, held_after}
use Rattle.link_model.specs.phased_end.Moves.{lasts}
use Rattle.link_model.specs.phased_end.keyed_control.KeyedSteps.{Enters}
use Rattle.link_model.specs.Events.{event_entered}
use Rattle.link_model.specs.Controls.{is_long}
use Rattle.link_model.specs.Entering.{event_notes}
use Rattle.link_end.specs.Held.{Held}

-- the indication that waits holds from its Instant on, and then a procedure may begin (section 5.5); with an encryption
-- the phase changes
abbrev pub control_entered : ℕ → Held → HeldKeyed
control_entered slot held = held_after (Enters slot) held.control

-- the latency is that of the parameters which are in force from the event on; the lengths that count as long are those of
-- before (our choice)
abbrev pub held_entered : ℕ → Held → Held
held_entered slot held =
    record held {
      control = control_entered slot held;
      event = event_entered held.setup slot (control_entered slot held).control.track;
      lengths = record held.lengths { long = is_long held.control.control.table.lengths; changed = false };
    }

-- an end whose procedures ended the link enters no event (our choice)
abbrev pub held_entered_if : Bool → ℕ → Held → Held
held_entered_if goes_on slot held = if goes_on then held_entered slot held else held

-- and notes nothing
abbrev pub entry_notes : ℕ → Held → List Note
entry_notes slot held =
    if lasts held.control
    then event_notes held.setup.link.handle (held_entered slot held).event
    (entry_of slot (quiet_now held.control) held.control.control)
    else []
