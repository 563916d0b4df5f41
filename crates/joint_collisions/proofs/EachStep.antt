-- Each step of a joint run is a step of a joint run of the procedures that exclude each other, or some, or none; and no step ends
-- the link by a collision.
use Rattle.std.proofs.Common.{◌≡◌, ℕ, ◌-◌, ◌%◌, ◌^◌, Bool, true, false, not, List, Option, Some, None, is_none, refl, ap, subst, ◌∙◌}
use Rattle.std.specs.Prelude.{⊤}
use Rattle.exclusive_stages.specs.declared.pdus.Pdu.{Pdu}
use Rattle.exclusive_stages.specs.Pdus.{is_timed}
use Rattle.instants.specs.declared.indications.Indication.{Indication}
use Rattle.instants.specs.declared.track.Change.{Change}
use Rattle.instants.specs.Parameters.{instant_of}
use Rattle.collision_steps.specs.procedure_values.declared.drafts.Outgoing.{Outgoing}
use Rattle.collision_steps.specs.procedure_stages.Exclusive.{pdu_of_outgoing}
use Rattle.collisions.specs.declared.joint.Way.TheVariants.{Fixed as pdu_fixed, OnAir as on_air_pdu, Taken as pdu_taken}
use Rattle.collisions.specs.JointRun.{is_pdu, is_taken as is_pdu_taken, pdu_on_air}
use Rattle.collision_steps.specs.CentralPart.{passed_from, passed_from_of}
use Rattle.collision_steps.specs.Parts.{outgoing_part}
use Rattle.joint_controls.specs.control_model.Waits.{EndsByCollision, last_event_of}
use Rattle.joint_controls.proofs.control_model.Indicating.{Indicates}
use Rattle.joint_controls.proofs.control_model.Waiting.{Awaits}
use Rattle.joint_controls.specs.phased_control.Phased.{Phased}
use Rattle.joint_controls.specs.Joint.{Clear, Control as control_item, Data, Fixed, Item, Joint, OnAir, Taken, Way, is_free, is_running, is_taken}
use Rattle.joint_controls.specs.Ends.{outgoing_in}
use Rattle.joint_controls.proofs.LastPdus.{Tied}
use Rattle.joint_controls.proofs.Running.{GoesOn, goes_on}
use Rattle.joint_collisions.specs.Facts.{Facts}
use Rattle.joint_collisions.proofs.Alone.{AloneIf, CentralKnown, known_of}
use Rattle.joint_collisions.specs.Views.{item_part, kept_part, view_of, way_if, way_part}
use Rattle.joint_collisions.proofs.CentralSteps as center
use Rattle.joint_collisions.proofs.CentralTakes as center_takes
use Rattle.joint_collisions.proofs.PeripheralSteps as side
use Rattle.joint_collisions.proofs.PeripheralPhase as side_phase
use Rattle.joint_collisions.proofs.Reaching.{Seen}
use Rattle.joint_collisions.proofs.Readings.{indication_in}

-- ---- what is known of a running joint run

-- an indication on its way names the last Instant
abbrev pub InstantOn : Way → ℕ → Type 0
InstantOn (OnAir (control_item outgoing ctrl) sealed) over =
    is_pdu is_timed (outgoing_part outgoing) ≡ true → (indication : Indication) → indication_in ctrl ≡ Some indication
    → instant_of indication ≡ (over - 1) % 2 ^ 16
InstantOn (OnAir Data sealed) over = ⊤
InstantOn Clear over = ⊤
InstantOn (Fixed item sealed) over = ⊤
InstantOn (Taken item) over = ⊤

pub record Holds (s : Joint) : Type 0 where
  pub seen : Seen (view_of s)
  pub instant : InstantOn s.down (passed_from s.central.control.table.progress)
  pub alone : AloneIf s.central

pub record Before (s : Joint) : Type 0 where
  pub goes : GoesOn s
  pub tied : Tied s
  pub indicates : Indicates s.central.control
  pub awaits : Awaits s.peripheral.control
  pub facts : Facts s
  pub holds : Holds s

pub record After (t : Joint) : Type 0 where
  pub goes : is_running t ≡ true → Holds t
  pub central_never : EndsByCollision t.central.control.ends → ⊥
  pub peripheral_never : EndsByCollision t.peripheral.control.ends → ⊥

-- ---- a way, as it is seen

pub free_way : (part : Outgoing → Option Pdu) (way : Way) → is_free way ≡ true → is_none (pdu_on_air (way_part part way)) ≡ true
free_way part Clear free = refl
free_way part (OnAir Data sealed) free = refl
free_way part (OnAir (control_item outgoing ctrl) sealed) free = absurd (cc)
free_way part (Fixed item sealed) free = by (item_part part item)
  where
    by : (o : Option Pdu) → is_none (pdu_on_air (way_if (λ q. pdu_fixed q) o)) ≡ true
    by None = refl
    by (Some pdu) = refl
free_way part (Taken item) free = by (item_part part item)
  where
    by : (o : Option Pdu) → is_none (pdu_on_air (way_if (λ q. pdu_taken q) o)) ≡ true
    by None = refl
    by (Some pdu) = refl

pub untaken_way : (part : Outgoing → Option Pdu) (way : Way) → is_taken way ≡ false → is_pdu_taken (way_part part way) ≡ false
untaken_way part Clear free = refl
untaken_way part (Taken item) free = absurd (cc)
untaken_way part (OnAir item sealed) free = by (item_part part item)
  where
    by : (o : Option Pdu) → is_pdu_taken (way_if (λ q. on_air_pdu q) o) ≡ false
    by None = refl
    by (Some pdu) = refl
untaken_way part (Fixed item sealed) free = by (item_part part item)
  where
    by : (o : Option Pdu) → is_pdu_taken (way_if (λ q. pdu_fixed q) o) ≡ false
    by None = refl
    by (Some pdu) = refl

pub item_down : (item : Item) → item_part outgoing_part item ≡ outgoing_part (outgoing_in item)
item_down Data = refl
item_down (control_item outgoing ctrl) = refl

pub item_up : (item : Item) → item_part pdu_of_outgoing item ≡ pdu_of_outgoing (outgoing_in item)
item_up Data = refl
item_up (control_item outgoing ctrl) = refl

pub not_false : (b : Bool) → not b ≡ true → b ≡ false
not_false true is = absurd (cc)
not_false false is = refl

-- ---- the state after a step of one end

module _ (s : Joint) (b : Before s) where
  abbrev pub central_seen : center.SeenAt s.peripheral.control (way_part outgoing_part s.down) (way_part pdu_of_outgoing s.up) (kept_part s.central.kept) s.central.control
  central_seen = record { role = b.indicates.role; seen = b.holds.seen }

  abbrev pub peripheral_seen : side.SeenAt s.central.control (way_part outgoing_part s.down) (way_part pdu_of_outgoing s.up) (kept_part s.central.kept) s.peripheral.control
  peripheral_seen = record { role = b.awaits.role; seen = b.holds.seen }

  pub known : CentralKnown s.central
  known =
      let x = center.is_central s.central.control.table.progress b.indicates.role in
      known_of s.central x.0 x.1 b.facts.central b.holds.alone

  pub after_central : (c : Phased) (down up : Way) (stopped : Bool)
      → center_takes.GoesAs s.peripheral.control (way_part outgoing_part down) (way_part pdu_of_outgoing up) c
      → InstantOn down (passed_from c.control.table.progress) → (c.control.ends ≡ None → AloneIf c) → After (record s { central = c; down = down; up = up; stopped = stopped })
  after_central c down up stopped g instant alone =
      record {
        goes = λ runs. record { seen = (g.goes (goes_on (record s { central = c; down = down; up = up; stopped = stopped }) runs).central).seen; instant = instant; alone = alone (goes_on (record s { central = c; down = down; up = up; stopped = stopped }) runs).central };
        central_never = g.never;
        peripheral_never = λ met. subst EndsByCollision b.goes.peripheral met;
      }

  pub after_peripheral : (p : Phased) (down up : Way) (stopped : Bool)
      → side_phase.GoesAs s.central.control (way_part outgoing_part down) (way_part pdu_of_outgoing up) (kept_part s.central.kept) p
      → InstantOn down (passed_from s.central.control.table.progress) → After (record s { peripheral = p; down = down; up = up; stopped = stopped })
  after_peripheral p down up stopped g instant =
      record {
        goes = λ runs. record { seen = (g.goes (goes_on (record s { peripheral = p; down = down; up = up; stopped = stopped }) runs).peripheral).seen; instant = instant; alone = b.holds.alone };
        central_never = λ met. subst EndsByCollision b.goes.central met;
        peripheral_never = g.never;
      }

  -- no end moves
  pub after_none : (down up : Way) (stopped : Bool) → (is_running (record s { down = down; up = up; stopped = stopped }) ≡ true → Holds (record s { down = down; up = up; stopped = stopped }))
      → After (record s { down = down; up = up; stopped = stopped })
  after_none down up stopped holds =
      record {
        goes = holds;
        central_never = λ met. subst EndsByCollision b.goes.central met;
        peripheral_never = λ met. subst EndsByCollision b.goes.peripheral met;
      }

  -- the central has passed the Instant of its last indication from the event after it on
  pub passed_is_last : (changes : List Change) → s.central.control.sent ≡ changes → passed_from s.central.control.table.progress ≡ passed_from_of (last_event_of changes)
  passed_is_last changes is =
      center.passed_by_last s.central.control.table.progress ∙ ap passed_from_of (b.indicates.so_far.last_is ∙ ap last_event_of is)
