-- An end enters a connection event (Core 5.2, volume 6 part B, sections 4.5.1 and 5.5).
use Rattle.std.specs.Prelude.{ℕ, Bool, false, List, [], ◌∷◌, ◌++◌, Option, Some, None, if◌then◌else◌}
use Rattle.ble_base.specs.declared.notes.Note.{Note}
use Rattle.ble_base.specs.declared.notes.Note.TheVariants.{Began, Done, Enter}
use Rattle.ble_base.specs.declared.procedure_kinds.Kind.{Kind}
use Rattle.phased_end.specs.control_end.control_model.Control.{Control}
use Rattle.phased_end.specs.keyed_control.Keyed.{Keyed}
use Rattle.phased_end.specs.keyed_control.KeyedSteps.{Enters, keyed_after}
use Rattle.phased_end.specs.control_end.declared.answers.Entry.{Entry}
use Rattle.phased_end.specs.control_end.Answers.{entry_of}
use Rattle.phased_end.specs.control_end.Held.{held_of}
use Rattle.link_model.specs.Setup.{Setup}
use Rattle.link_model.specs.declared.events.ConnectionEvent.{ConnectionEvent}
use Rattle.link_model.specs.Events.{applied_notes, event_entered}
use Rattle.link_model.specs.Facts.{Facts, keyed_of, with_keyed}
use Rattle.link_model.specs.Controls.{goes_on, is_long, is_quiet_now}

-- the indication that waits holds from its Instant on, and then a procedure may begin; with an encryption its phase changes
abbrev pub keyed_entered : ℕ → Facts → Keyed
keyed_entered slot facts = keyed_after (Enters slot) (keyed_of facts)

abbrev pub control_entered : ℕ → Facts → Control
control_entered slot facts = (keyed_entered slot facts).phased.control

abbrev pub facts_entered : Setup → ℕ → Facts → Facts
facts_entered setup slot facts =
    record (with_keyed (keyed_entered slot facts) facts) {
      event = event_entered setup slot (control_entered slot facts).track;
      lengths = record facts.lengths { long = is_long facts.control.table.lengths; changed = false };
    }

-- an end whose procedures ended the link enters no event
abbrev pub facts_entered_if : Bool → Setup → ℕ → Facts → Facts
facts_entered_if goes_on setup slot facts = if goes_on then facts_entered setup slot facts else facts

-- ---- what it notes, in this order

abbrev pub done_notes : ℕ → Option Kind → List Note
done_notes handle None = []
done_notes handle (Some kind) = Done handle kind ∷ []

abbrev pub began_notes : ℕ → Option Kind → List Note
began_notes handle None = []
began_notes handle (Some kind) = Began handle kind ∷ []

abbrev pub event_notes : ℕ → ConnectionEvent → Entry → List Note
event_notes handle event entry =
    applied_notes handle event.number entry.applied ++ Enter handle (record { 0 = event.number }) event.channel ∷ []
    ++ done_notes handle entry.done ++ began_notes handle entry.began

abbrev pub entry_notes : Setup → ℕ → Facts → List Note
entry_notes setup slot facts =
    if goes_on facts
    then event_notes setup.link.handle (facts_entered setup slot facts).event
    (entry_of slot (is_quiet_now facts) (held_of facts.control))
    else []
