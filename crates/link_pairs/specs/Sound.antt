-- What two linked ends hold while the link lasts at both, and how one of them may end it (Core 5.2, volume 6 part B,
-- sections 4.5 and 5).
use Rattle.std.specs.Prelude.{◌≡◌, ℕ, ◌+◌, ◌≤◌, Bool, true, List, Option, Some, length, take}
use Rattle.ble_base.specs.ErrorCodes.{instant_passed, mic_failure}
use Rattle.ble_base.specs.declared.error_codes.ErrCode.{ErrCode}
use Rattle.instants.specs.declared.track.Change.{Change}
use Rattle.instants.specs.Follows.{Follows}
use Rattle.instants.specs.Track.{TrackFacts, event_of}
use Rattle.control_octets.specs.procedure_stages.Queue.{waiting_in}
use Rattle.joint_laws.specs.joint_controls.Joint.{Joint, JointStep, after_all, beginning, has_passed, is_running, last_change}
use Rattle.joint_laws.specs.Runs.{IsRun}
use Rattle.joint_laws.specs.Sound.{IsSound}
use Rattle.joint_laws.specs.joint_parameters.Views.{HaveEqual}
use Rattle.link_model.specs.OneLink.{AreInAgreement}
use Rattle.link_model.specs.Setup.{Setup, first_anchor, first_params}
use Rattle.link_model.specs.Facts.{Facts}
use Rattle.link_model.specs.Packets.{is_forged}
use Rattle.link_pairs.specs.Ends.{phased_of}

-- ---- by what both ends hold

-- an end has the parameters and the anchor that follow from the first indications that the central sent (section 5.5)
abbrev pub FollowsSent : Setup → List Change → TrackFacts → Type 0
FollowsSent central sent t =
    1 ≤ t.entered → Follows (first_params central.link.fields) (first_anchor central) (take t.applied sent) t

pub record AreSoundEnds (central peripheral : Setup) (c p : Facts) : Type 0 where
  -- their counts of acknowledgement agree (section 4.5.9)
  pub agreement : AreInAgreement c.acknowledgement p.acknowledgement
  -- in events of one number in which the same number of indications hold they have one set of parameters and one anchor
  pub parameters :
      event_of c.control.track ≡ event_of p.control.track → c.control.track.applied ≡ p.control.track.applied
      → HaveEqual c.control.track p.control.track
  -- at the central the same number of indications hold as at the peripheral, or one more
  pub not_fewer : p.control.track.applied ≤ c.control.track.applied
  pub one_more : c.control.track.applied ≤ p.control.track.applied + 1
  pub central_follows : FollowsSent central c.control.sent c.control.track
  pub peripheral_follows : FollowsSent central c.control.sent p.control.track
  -- few control PDUs wait at each, and there is room for sixteen (our choice)
  pub central_few : waiting_in c.control.table.queue ≤ 10
  pub peripheral_few : waiting_in p.control.table.queue ≤ 10
  -- the last PDU of each is not longer than the other receives (section 4.5.10)
  pub central_fits : length c.acknowledgement.last.body ≤ peripheral.link.max_rx
  pub peripheral_fits : length p.acknowledgement.last.body ≤ central.link.max_rx

-- ---- by the joint run that they are

-- the joint run of two ends as their link begins (section 4.5)
abbrev pub first_joint : Setup → Setup → Joint
first_joint central peripheral =
    beginning central.link.max_rx peripheral.link.max_rx (first_params central.link.fields) (first_anchor central)

-- a joint run of both ends comes to this state, which is sound and has their control parts, and goes on from it (our
-- choice; the rules of such a run are those of `joint_controls`)
pub record IsJointState (central peripheral : Setup) (c p : Facts) (s : Joint) : Type 0 where
  pub steps : List JointStep
  pub run : IsRun (first_params central.link.fields) steps
  pub reaches : after_all steps (first_joint central peripheral) ≡ s
  pub goes_on : is_running s ≡ true
  pub sound : IsSound s
  pub central_part : s.central ≡ phased_of c
  pub peripheral_part : s.peripheral ≡ phased_of p

-- ---- as they hear each other

-- both are in the event of one number, with one anchor (section 4.5.1)
pub record ShareEvent (c p : Facts) : Type 0 where
  pub number : event_of c.control.track ≡ event_of p.control.track
  pub anchor : c.control.track.anchor ≡ p.control.track.anchor
  -- the number that each holds of its event
  pub noted : c.event.number ≡ p.event.number

-- the peripheral has passed the Instant of the last indication that the central sent (section 5.5.1)
abbrev pub is_instant_passed : Facts → Facts → Bool
is_instant_passed c p = has_passed (last_change c.control.sent) (event_of p.control.track)

-- for that it ends the link, with 0x28 (section 5.5.1)
abbrev pub EndsForInstant : Facts → Facts → Option ErrCode → Type 0
EndsForInstant c p ends = (ends ≡ Some (record { 0 = instant_passed })) × (is_instant_passed c p ≡ true)

-- a packet is forged for an end, which ends the link with 0x3D (section 5.1.3.1)
abbrev pub EndsForged : Setup → Facts → List ℕ → Option ErrCode → Type 0
EndsForged setup facts octets ends = (is_forged setup facts octets ≡ true) × (ends ≡ Some (record { 0 = mic_failure }))

-- ---- where nothing is received

-- from the one to the other, neither the procedures of an end nor its peer ended the link (our choice of words)
pub record EndsNothing (before now : Facts) : Type 0 where
  pub procedures : now.control.ends ≡ before.control.ends
  pub peer : now.leaving.ended_by_peer ≡ before.leaving.ended_by_peer
