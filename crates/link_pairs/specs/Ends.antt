-- Two ends of one link, and what each of them alone has while the link goes on (Core 5.2, volume 6 part B, sections 4.5.1
-- and 4.5.9).
use Rattle.std.specs.Prelude.{◌≡◌, ◌⊎◌, ℕ, ◌+◌, ◌≤◌, ◌<◌, Bool, true, false, Option, Some, None, IfSome, is_none, length, ◌&&◌}
use Rattle.adv_pdu.specs.Ranges.{IsInRange}
use Rattle.ble_base.specs.declared.roles.Role.TheVariants.{Central, Peripheral}
use Rattle.data_pdu.specs.Layouts.{IsCtrl}
use Rattle.data_pdu.specs.declared.ctrl.Ctrl.{Ctrl}
use Rattle.instants.specs.Track.{event_of}
use Rattle.control_octets.specs.Fitting.{FitsOctets}
use Rattle.joint_laws.specs.joint_controls.Joint.{is_terminate}
use Rattle.joint_laws.specs.joint_controls.phased_control.Phased.{Phased}
use Rattle.joint_laws.specs.joint_controls.phased_control.Taken.{response_ctrl}
use Rattle.control_octets.specs.procedure_stages.Kinds.{role_of}
use Rattle.control_octets.specs.procedure_values.Values.{IsPayloadMax}
use Rattle.link_model.specs.phased_end.Taking.{drawn}
use Rattle.link_model.specs.declared.events.Reception.{Reception}
use Rattle.link_model.specs.Data.{is_control}
use Rattle.link_model.specs.OneLink.{AreOneLink}
use Rattle.link_model.specs.Setup.{Setup}
use Rattle.link_model.specs.Controls.{goes_on}
use Rattle.link_model.specs.Facts.{Encryption, Facts, keyed_of}

-- two ends that one CONNECT_IND opened (section 2.3.3.1)
pub record AreEnds (central peripheral : Setup) : Type 0 where
  pub one_link : AreOneLink central peripheral
  pub is_central : central.link.role ≡ Central
  pub is_peripheral : peripheral.link.role ≡ Peripheral
  pub in_range : IsInRange central.link.fields
  pub central_max : IsPayloadMax central.link.max_rx
  pub peripheral_max : IsPayloadMax peripheral.link.max_rx

-- the control part of an end with its phase, as joint runs have it
abbrev pub phased_of : Facts → Phased
phased_of facts = (keyed_of facts).phased

-- how many turns had begun when it last received a good packet, or when the link began; each turn is a slot
abbrev pub turns_at : ℕ → Option Reception → ℕ
turns_at opened None = opened + 1
turns_at opened (Some good) = good.slot + 1

abbrev pub heard_turns : Setup → Facts → ℕ
heard_turns setup facts = turns_at setup.opened facts.last_good

-- the link lasts at this end: none of its procedures ended it, and it took no LL_TERMINATE_IND (sections 5.1.6 and 5.5.1)
abbrev pub is_lasting : Facts → Bool
is_lasting facts = goes_on facts && is_none facts.leaving.ended_by_peer

-- a PDU that an end may send or take later: it fits its octets, and is no LL_TERMINATE_IND (section 2.4.2)
abbrev pub IsLaterPdu : Ctrl → Type 0
IsLaterPdu ctrl = IsCtrl ctrl × (is_terminate ctrl ≡ false)

-- the PDUs that its encryption holds: LL_ENC_REQ of the one that runs, the PDU that is kept, and LL_ENC_RSP as it would be
-- drawn (section 5.1.3.1)
pub record HoldsPdus (e : Encryption) : Type 0 where
  pub request : IfSome e.request IsLaterPdu
  pub kept : IfSome e.kept IsLaterPdu
  pub response : IsCtrl (response_ctrl (drawn e.response))

-- what one end has between two calls, after this number of turns began
pub record IsAtRest (setup : Setup) (turns : ℕ) (facts : Facts) : Type 0 where
  pub fits : FitsOctets facts.control
  pub holds : HoldsPdus facts.encryption
  pub role : role_of facts.control.table.progress ≡ setup.link.role
  -- no control PDU has left its queue that was not sent
  pub none_gone : is_control facts.outgoing.fixed ≡ false
  -- the last PDU fits any end of a link
  pub fits_any : length facts.acknowledgement.last.body ≤ 251
  pub two_bits : facts.acknowledgement.last.llid < 4
  -- the event that it entered last
  pub slot : 1 ≤ facts.control.track.entered → facts.event.slot ≡ facts.control.track.anchor
  pub number : facts.event.number ≡ event_of facts.control.track
  -- a good packet in the first exchange of that
  pub heard :
      facts.event.heard ≡ true
      → (1 ≤ facts.control.track.entered) × (facts.event.slot + 1 ≤ heard_turns setup facts)
  pub past : heard_turns setup facts ≤ turns
  -- its own LL_TERMINATE_IND is not acknowledged
  pub stays : facts.leaving.acknowledged ≡ false

-- it has an exchange in this slot: the first of its event, at the anchor, or the second, in the slot after that, where it
-- received a good packet in the first (section 4.5.6; when there is a second one is our choice)
abbrev pub HasExchange : ℕ → Facts → Type 0
HasExchange slot facts =
    (1 ≤ facts.control.track.entered)
    × ((slot ≡ facts.event.slot) ⊎ ((slot ≡ facts.event.slot + 1) × (facts.event.heard ≡ true)))
