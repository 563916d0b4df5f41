-- Which indications the control part of one end follows, and how its two parts fit together (Core 5.2, volume 6 part B,
-- sections 5.1.1, 5.1.2, 5.3 and 5.5).
use Rattle.std.specs.Prelude.{◌≡◌, Bool, true, false, ◌&&◌, Option, Some, None, ⊤, if◌then◌else◌}
use Rattle.ble_base.specs.declared.roles.Role.{Role}
use Rattle.ble_base.specs.declared.roles.Role.TheVariants.{Central, Peripheral}
use Rattle.data_pdu.specs.declared.ctrl.Ctrl.TheVariants.{ConnectionUpdateInd, ChannelMapInd}
use Rattle.data_pdu.specs.declared.ctrl.CtrlRead.{CtrlRead}
use Rattle.data_pdu.specs.declared.ctrl.CtrlRead.TheVariants.{Known}
use Rattle.instants.specs.declared.indications.Indication.{Indication}
use Rattle.instants.specs.declared.indications.Indication.TheVariants.{Update, Map}
use Rattle.instants.specs.declared.track.Change.{Change}
use Rattle.instants.specs.Track.{TrackFacts, is_free, track_after_take}
use Rattle.exclusive_stages.specs.Awaited.{central_answered}
use Rattle.control_model.specs.procedures.procedure_stages.declared.stages.Ahead.{Ahead}
use Rattle.control_model.specs.procedures.procedure_stages.declared.stages.Ahead.TheVariants.{Nothing}
use Rattle.control_model.specs.procedures.procedure_stages.declared.stages.Progress.{Progress}
use Rattle.control_model.specs.procedures.procedure_stages.declared.stages.Progress.TheVariants.{Central as central, Peripheral as peripheral}
use Rattle.control_model.specs.procedures.procedure_stages.Exclusive.{peripheral_stage}
use Rattle.control_model.specs.procedures.procedure_stages.Kinds.{role_of}
use Rattle.control_model.specs.Control.{is_to_come}
use Rattle.control_model.specs.Waits.{kind_awaited, kind_waiting}
use Rattle.control_end.specs.Held.{Held}

-- ---- an indication

-- a track can follow an indication: none waits, and its Instant is to come
pub record CanFollow (t : TrackFacts) (indication : Indication) : Type 0 where
  pub free : is_free t ≡ true
  pub ahead : is_to_come t indication ≡ true

-- the indication that a PDU of the peer is
abbrev pub indication_read : CtrlRead → Option Indication
indication_read (Known (ConnectionUpdateInd win_size win_offset interval latency timeout instant)) =
    Some (Update win_offset interval latency timeout instant)
indication_read (Known (ChannelMapInd map instant)) = Some (Map map instant)
indication_read other = None

-- whether it is the role that follows indications of the peer
abbrev pub is_peripheral : Role → Bool
is_peripheral Central = false
is_peripheral Peripheral = true

-- the indication that an end follows: a peripheral follows one while none waits
abbrev pub indication_followed : CtrlRead → Held → Option Indication
indication_followed read h =
    (if is_peripheral (role_of h.table.progress) && is_free h.track then indication_read read else None)

-- the track of an end that follows an indication, if its Instant is to come
abbrev pub track_following : Option Indication → TrackFacts → Option TrackFacts
track_following None t = Some t
track_following (Some indication) t =
    (if is_to_come t indication then Some (track_after_take t indication) else None)

-- ---- the two parts

-- a request that was granted awaits its update
abbrev pub AwaitsIf : Bool → Ahead → Type 0
AwaitsIf false ahead = ⊤
AwaitsIf true Nothing = ⊥
AwaitsIf true ahead = ⊤

abbrev pub AwaitsGrant : Progress → Type 0
AwaitsGrant (central c) = ⊤
AwaitsGrant (peripheral p) = AwaitsIf (central_answered (peripheral_stage p.own)) p.ahead

-- a peripheral awaits by its table the indication that its track has waiting
abbrev pub AwaitsWaiting : Progress → Option Change → Type 0
AwaitsWaiting (central c) waits = ⊤
AwaitsWaiting (peripheral p) waits = kind_awaited (peripheral p) ≡ kind_waiting waits

-- the two parts of an end fit together
pub record IsEnd (h : Held) : Type 0 where
  pub waits : AwaitsWaiting h.table.progress h.track.waits
  pub grant : AwaitsGrant h.table.progress
