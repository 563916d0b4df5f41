-- Each call leaves the two parts of an end fit together.
use Rattle.std.proofs.Common.{◌≡◌, ℕ, Bool, true, false, Option, Some, None, is_some, refl, ◌∙◌}
use Rattle.ble_base.specs.declared.error_codes.ErrCode.{ErrCode}
use Rattle.data_pdu.specs.declared.ctrl.Ctrl.{Ctrl}
use Rattle.instants.specs.declared.track.Change.{Change}
use Rattle.instants.specs.Track.{TrackFacts, is_due, next_number, track_after_enter}
use Rattle.control_model.specs.procedures.procedure_stages.declared.stages.Progress.{Progress}
use Rattle.control_model.specs.procedures.procedure_stages.declared.stages.Progress.TheVariants.{Central as central, Peripheral as peripheral}
use Rattle.control_model.specs.procedures.procedure_stages.Held.{progress_held}
use Rattle.control_model.specs.procedures.procedure_stages.Kinds.{role_of}
use Rattle.control_model.specs.procedures.Beginning.{begin_step}
use Rattle.control_model.specs.procedures.Going.{entered_step, owe_step}
use Rattle.control_model.specs.procedures.Queue.{next_of}
use Rattle.control_model.specs.procedures.Sending.{went_step}
use Rattle.control_model.specs.procedures.Table.{TableFacts}
use Rattle.control_model.specs.Waits.{kind_awaited}
use Rattle.control_model.proofs.Calls.{begun_same, given_same, held_over, sent_from}
use Rattle.control_end.specs.Following.{AwaitsWaiting, IsEnd}
use Rattle.control_end.specs.Held.{Held}
use Rattle.control_end.proofs.Grants.{begun_grants, given_grants, held_grants, sent_grants}

-- a peripheral stays one, and what it awaits is what it awaited
pub waits_on : (p q : Progress) (waits : Option Change) → role_of q ≡ role_of p → kind_awaited q ≡ kind_awaited p
    → AwaitsWaiting p waits → AwaitsWaiting q waits
waits_on p (central c) waits role same a = tt
waits_on (central d) (peripheral q) waits role same a = absurd (cc)
waits_on (peripheral p) (peripheral q) waits role same a = same ∙ a

-- nothing is awaited any more
waits_over : (q : Progress) → kind_awaited q ≡ None → AwaitsWaiting q None
waits_over (central c) is = tt
waits_over (peripheral p) is = is

-- ---- an event is entered

begins : (g : TableFacts) (t : TrackFacts) (ends : Option ErrCode) (slot : ℕ) (quiet : Bool)
    → IsEnd (record { table = g; track = t; ends = ends })
    → IsEnd (record { table = (begin_step g slot quiet).0; track = t; ends = ends })
begins g t ends slot quiet i =
    let s = begun_same g slot quiet in
    record {
      waits = waits_on g.progress _ t.waits s.role s.awaited i.waits;
      grant = begun_grants g slot quiet i.grant;
    }

abbrev with_waits : Option Change → TrackFacts → TrackFacts
with_waits waits t = record t { waits = waits }

abbrev Enters : TableFacts → TrackFacts → Option ErrCode → Type 0
Enters f t ends =
    IsEnd (record { table = (entered_step f (is_some (next_number t))).0; track = track_after_enter t; ends = ends })

enters_by : (f : TableFacts) (t : TrackFacts) (ends : Option ErrCode) (waits : Option Change)
    → IsEnd (record { table = f; track = with_waits waits t; ends = ends })
    → Enters f (with_waits waits t) ends
enters_by f t ends None i = record { waits = i.waits; grant = i.grant }
enters_by f t ends (Some change) i = by (is_due change t.entered) refl
  where
    by : (due : Bool) → is_due change t.entered ≡ due → Enters f (with_waits (Some change) t) ends
    by true is =
        let o = held_over f.progress in
        rw is (record {
          waits = waits_over (progress_held f.progress) o.awaited;
          grant = held_grants f.progress;
        })
    by false is = rw is (record { waits = i.waits; grant = i.grant })

pub entered_fits : (h : Held) (slot : ℕ) (quiet : Bool) → IsEnd h
    → IsEnd (record {
      table = (begin_step (entered_step h.table (is_some (next_number h.track))).0 slot quiet).0;
      track = track_after_enter h.track;
      ends = h.ends;
    })
entered_fits h slot quiet i =
    begins _ _ h.ends slot quiet (enters_by h.table h.track h.ends h.track.waits i)

-- ---- the layer above queues a PDU

pub owed_fits : (h : Held) (ctrl : Ctrl) → IsEnd h
    → IsEnd (record h { table = owe_step h.table ctrl })
owed_fits h ctrl i =
    let s = given_same h.table.progress ctrl in
    record {
      waits = waits_on h.table.progress _ h.track.waits s.role s.awaited i.waits;
      grant = given_grants h.table.progress ctrl i.grant;
    }

-- ---- a PDU is sent

pub sent_fits : (h : Held) (event skips : ℕ) (quiet : Bool) (slot : ℕ) → IsEnd h
    → IsEnd (record h { table = (went_step h.table event skips quiet slot).0 })
sent_fits h event skips quiet slot i =
    let outgoing = next_of h.table event quiet in
    let s = sent_from outgoing event skips h.table.progress in
    record {
      waits = waits_on h.table.progress _ h.track.waits s.role s.awaited i.waits;
      grant = sent_grants outgoing event skips h.table.progress i.grant;
    }
