-- In which event each indication of an end comes into force, and where and on which channel the end enters its events
-- (Core 5.2, volume 6 part B, sections 4.5.1, 4.5.8, 5.1.1, 5.1.2 and 5.5).
use Rattle.std.specs.Prelude.{◌≡◌, ◌⊎◌, ◌≤◌, ℕ, ◌+◌, Bool, true, false, List, ◌∷◌, Some, slice_get, ⊤}
use Rattle.std.specs.List.{AllByRecursion}
use Rattle.ble_base.specs.ChannelMap.{IsMap}
use Rattle.ble_base.specs.declared.counters.EventNo.{EventNo}
use Rattle.ble_base.specs.declared.notes.Note.{Note}
use Rattle.ble_base.specs.declared.notes.Note.TheVariants.{Applied, Enter}
use Rattle.ble_base.specs.declared.roles.Role.{Role}
use Rattle.chan_select.specs.Channel.{channel_of}
use Rattle.instants.specs.Arrivals.{Taking}
use Rattle.instants.specs.Parameters.{anchor_in, params_in}
use Rattle.instants.specs.Track.{next_anchor_of}
use Rattle.link_model.specs.AskRanges.{AreAsksInRange}
use Rattle.link_model.specs.End.{facts_of}
use Rattle.link_model.specs.Setup.{Setup, algorithm_of, first_anchor, first_params}
use Rattle.link_model.specs.Step.{Step, EventEntered, ProcedureAsked}
use Rattle.link_changes.specs.Noted.{applied_noted, changes_noted, takings_noted}
use Rattle.link_model.specs.procedure_values.declared.asks.Ask.TheVariants.{Map}

-- ---- what is taken for granted of a central

-- a channel map that the host asks for is one (section 4.5.8.1)
abbrev pub AsksMap : Step → Type 0
AsksMap (ProcedureAsked (Map map)) = IsMap map
AsksMap other = ⊤

-- the latency of the CONNECT_IND is in its range, and so is what the host asks and answers (sections 2.3.3.1 and 4.5.1)
pub record HasRanges (setup : Setup) (past : List Step) : Type 0 where
  pub latency : setup.link.fields.latency ≤ 499
  pub asks : AreAsksInRange past
  pub maps : AllByRecursion AsksMap past

-- ---- an event is entered

-- an end with this past, and with these notes before its note of an event: the event is the next one; its anchor and
-- its channel follow from the CONNECT_IND and the indications in force by those notes
pub record IsEnteredBy (setup : Setup) (past : List Step) (notes : List Note) (event channel : ℕ) : Type 0 where
  pub number : event ≡ (facts_of setup past).control.track.entered
  pub anchor :
      next_anchor_of (facts_of setup past).control.track
      ≡ anchor_in (first_anchor setup) (first_params setup.link.fields) (changes_noted setup.link.role notes) event
  pub on_channel :
      channel
      ≡ channel_of (algorithm_of setup.link) event
      (params_in (first_params setup.link.fields) (changes_noted setup.link.role notes) event).map

-- ---- an indication comes into force

-- it does so in the event that its Instant names, or in the next one where it was taken in that event (our choice)
abbrev pub ComesIntoForce : ℕ → Taking → Type 0
ComesIntoForce event taking =
    (event ≡ taking.change.at.0)
    ⊎ ((event ≡ taking.change.at.0 + 1) × (taking.taken_in ≡ taking.change.at.0))

-- after these notes the end notes that an indication comes into force: it is the next one of those noted so far, with
-- the next number, and the note of its event comes next
pub record IsAppliedInTime (role : Role) (notes : List Note) (handle number : ℕ) (event : EventNo) (later : List Note) :
    Type 0 where
  pub next : number ≡ applied_noted notes + 1
  pub taking : Taking
  pub is_next : slice_get (takings_noted role notes) (applied_noted notes) ≡ Some taking
  pub in_time : ComesIntoForce event.0 taking
  pub channel : ℕ
  pub rest : List Note
  pub then_enters : later ≡ Enter handle event channel ∷ rest

-- ---- no other step notes an event or an indication that comes into force

abbrev pub enters_event : Step → Bool
enters_event (EventEntered slot) = true
enters_event other = false

abbrev pub NamesNoEvent : Note → Type 0
NamesNoEvent (Enter handle event channel) = ⊥
NamesNoEvent (Applied handle number event) = ⊥
NamesNoEvent other = ⊤
