-- What joint runs of the procedures that exclude each other see of a joint run of both ends (our choice; Core 5.2,
-- volume 6 part B, section 5.3): their parts of both tables, their PDUs on the two ways, the PDU that the central keeps,
-- and the numbers of the events.
use Rattle.std.specs.Prelude.{◌≡◌, ℕ, true, List, Option, Some, None}
use Rattle.data_pdu.specs.declared.ctrl.Ctrl.{Ctrl}
use Rattle.data_pdu.specs.declared.ctrl.Ctrl.TheVariants.{ConnectionParamReq, PhyReq as phy_req}
use Rattle.exclusive_stages.specs.declared.pdus.Pdu.{Pdu}
use Rattle.exclusive_stages.specs.declared.pdus.Pdu.TheVariants.{ParamReq, PhyReq}
use Rattle.instants.specs.declared.track.Change.{Change}
use Rattle.instants.specs.Track.{event_of}
use Rattle.collision_steps.specs.procedure_values.declared.drafts.Outgoing.{Outgoing}
use Rattle.collision_steps.specs.procedure_stages.Exclusive.{pdu_of_outgoing}
use Rattle.collisions.specs.declared.central.Central.{Central}
use Rattle.collisions.specs.declared.peripheral.Peripheral.{Peripheral}
use Rattle.collisions.specs.declared.events.Place.{Place}
use Rattle.collisions.specs.declared.events.Place.TheVariants.{After}
use Rattle.collisions.specs.declared.joint.End.TheVariants.{Open}
use Rattle.collisions.specs.declared.joint.Link.{Link}
use Rattle.collisions.specs.Agreement.{agree}
use Rattle.collisions.specs.declared.joint.Way.{Way as pdu_way}
use Rattle.collisions.specs.declared.joint.Way.TheVariants.{Clear as no_pdu, Fixed as pdu_fixed, OnAir as pdu_on_air, Taken as pdu_taken}
use Rattle.collisions.specs.Numbers.{Move, Numbered, numbered_collisions}
use Rattle.machines.specs.Machine.{run}
use Rattle.collision_steps.specs.CentralPart.{central_of, passed_from}
use Rattle.collision_steps.specs.Parts.{outgoing_part}
use Rattle.collision_steps.specs.PeripheralPart.{peripheral_of}
use Rattle.joint_controls.specs.control_model.Control.{Control}
use Rattle.joint_controls.specs.Joint.{Clear, Control as control_item, Data, Fixed, Item, Joint, OnAir, Taken, Way}

-- ---- what is on its way

-- a PDU of another procedure counts as none, and so does data
abbrev pub item_part : (Outgoing → Option Pdu) → Item → Option Pdu
item_part part Data = None
item_part part (control_item outgoing ctrl) = part outgoing

abbrev pub way_if : (Pdu → pdu_way) → Option Pdu → pdu_way
way_if place None = no_pdu
way_if place (Some pdu) = place pdu

abbrev pub way_part : (Outgoing → Option Pdu) → Way → pdu_way
way_part part Clear = no_pdu
way_part part (Fixed item sealed) = way_if (λ pdu. pdu_fixed pdu) (item_part part item)
way_part part (OnAir item sealed) = way_if (λ pdu. pdu_on_air pdu) (item_part part item)
way_part part (Taken item) = way_if (λ pdu. pdu_taken pdu) (item_part part item)

-- the first PDU of one of these procedures, as it is read
abbrev pub first_part : Ctrl → Option Pdu
first_part (ConnectionParamReq min max latency timeout periodicity reference offsets) = Some ParamReq
first_part (phy_req tx rx) = Some PhyReq
first_part ctrl = None

abbrev pub kept_part : Option Ctrl → Option Pdu
kept_part None = None
kept_part (Some ctrl) = first_part ctrl

-- the event from which what waits at an end holds
abbrev pub waits_part : Option Change → Option ℕ
waits_part None = None
waits_part (Some change) = Some change.at.0

-- ---- the whole

pub record View : Type 0 where
  pub central : Central
  pub peripheral : Peripheral
  pub down : pdu_way
  pub up : pdu_way
  pub kept : Option Pdu
  -- the events that the ends entered last, counted from 0
  pub central_event : ℕ
  pub peripheral_event : ℕ
  -- the event after the Instant of the last indication that was sent; 0 where there is none
  pub passed_from : ℕ
  -- the event from which the indication that waits at an end holds
  pub central_waits : Option ℕ
  pub peripheral_waits : Option ℕ

-- by the control parts of both ends, the ways and what the central keeps
abbrev pub view_by : Control → Control → pdu_way → pdu_way → Option Pdu → View
view_by c p down up kept =
    record {
      central = central_of c.table;
      peripheral = peripheral_of p.table;
      down = down;
      up = up;
      kept = kept;
      central_event = event_of c.track;
      peripheral_event = event_of p.track;
      passed_from = passed_from c.table.progress;
      central_waits = waits_part c.track.waits;
      peripheral_waits = waits_part p.track.waits;
    }

abbrev pub view_of : Joint → View
view_of s =
    view_by s.central.control s.peripheral.control (way_part outgoing_part s.down) (way_part pdu_of_outgoing s.up)
    (kept_part s.central.kept)

-- ---- a joint run of these procedures comes to it

-- the link of such a run, with the places of the two events
abbrev pub link_at : View → Place → Place → Link
link_at v central_at peripheral_at =
    record {
      central = v.central;
      peripheral = v.peripheral;
      down = v.down;
      up = v.up;
      kept = v.kept;
      central_at = central_at;
      peripheral_at = peripheral_at;
      end = Open;
    }

-- its state, with the event after the Instant before the last one
abbrev pub numbered_of : View → Place → Place → ℕ → Numbered
numbered_of v central_at peripheral_at earlier =
    record {
      link = link_at v central_at peripheral_at;
      central_event = v.central_event;
      peripheral_event = v.peripheral_event;
      passed_from = v.passed_from;
      earlier_passed_from = earlier;
    }

pub record IsReached (v : View) : Type 0 where
  pub moves : List Move
  pub central_at : Place
  pub peripheral_at : Place
  pub earlier : ℕ
  pub is : run numbered_collisions moves ≡ numbered_of v central_at peripheral_at earlier

-- the tables of both ends agree on these procedures, but for the PDUs that are on their way
pub record TablesAgree (s : Joint) : Type 0 where
  pub central_at : Place
  pub peripheral_at : Place
  pub is : agree (link_at (view_of s) central_at peripheral_at) ≡ true

-- the link, where the places of the events do not matter
abbrev pub link_of : Joint → Link
link_of s = link_at (view_of s) After After
