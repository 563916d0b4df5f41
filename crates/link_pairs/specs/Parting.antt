-- Two ends of a link after one of them took LL_TERMINATE_IND of the other, until the other sees that acknowledged (Core
-- 5.2, volume 6 part B, section 5.1.6).
use Rattle.std.specs.Prelude.{◌≡◌, ◌⊎◌, ◌≤◌, ◌<◌, ℕ, Bool, true, false, List, [], None, Some, is_some, length}
use Rattle.std.specs.List.{filter}
use Rattle.ble_base.specs.ErrorCodes.{mic_failure, terminated_by_local_host}
use Rattle.ble_base.specs.declared.roles.Role.TheVariants.{Peripheral}
use Rattle.ble_base.specs.declared.verdicts.Verdict.TheVariants.{Forged, Good}
use Rattle.control_octets.specs.procedure_stages.Closing.{is_disconnecting, is_open}
use Rattle.control_octets.specs.procedures.Table.{TableFacts}
use Rattle.joint_keys.specs.Opening.{CanOpen}
use Rattle.link_model.specs.Acknowledgement.{Acknowledgement, is_acked}
use Rattle.link_model.specs.Data.{is_control, is_empty}
use Rattle.link_model.specs.Numbers.{is_took_note}
use Rattle.link_model.specs.OneLink.{AreInAgreement}
use Rattle.link_model.specs.Setup.{Setup}
use Rattle.joint_laws.specs.joint_controls.phased_control.Phased.{Phased, is_quiet_now}
use Rattle.joint_laws.specs.joint_controls.phased_control.Taken.{role_now}
use Rattle.link_model.specs.Controls.{is_terminate}
use Rattle.link_model.specs.End.{notes_after}
use Rattle.link_model.specs.Facts.{Facts}
use Rattle.link_model.specs.Packets.{verdict_of}
use Rattle.link_model.specs.Payload.{payload_made}
use Rattle.link_model.specs.Receiving.{replies_of}
use Rattle.link_model.specs.Step.{PacketReceived}
use Rattle.link_model.specs.Times.{ending_of}
use Rattle.link_model.specs.enc_phase.Phases.{is_asked, seals}
use Rattle.link_model.specs.enc_phase.Sealing.{EncEnd}
use Rattle.link_pairs.specs.Ends.{phased_of}
use Rattle.link_pairs.specs.Hearing.{answered, received}
use Rattle.link_pairs.specs.Ways.{IsUnseen}

-- ---- each end

-- the last PDU of an end was made with this session, and fits the other end (section 4.5.10)
pub record HasFittingPdu (other : Setup) (made : EncEnd) (facts : Facts) : Type 0 where
  pub payload : facts.outgoing.payload ≡ payload_made made facts.acknowledgement.last
  pub two_bits : facts.acknowledgement.last.llid < 4
  pub short : length facts.acknowledgement.last.body ≤ other.link.max_rx

-- an end in another phase than Clear and Secure that has no control PDU left
pub record HasNothing (x : Phased) : Type 0 where
  pub loud : is_quiet_now x ≡ false
  pub rejections : x.control.table.queue.rejections ≡ []
  pub drafts : x.control.table.queue.drafts ≡ []

-- where the last PDU of an end, made so, is out and not empty, this listener opens it, if both have one session key; and it
-- was made with the session key that the end has (section 5.1.3.1)
pub record IsOpenedOut (listener made : EncEnd) (facts : Facts) : Type 0 where
  pub can : is_acked facts.acknowledgement ≡ false → is_empty facts.acknowledgement.last ≡ false → CanOpen made listener
  pub key :
      is_acked facts.acknowledgement ≡ false → is_empty facts.acknowledgement.last ≡ false
      → seals made.role made.phase ≡ true → made.key ≡ facts.encryption.end.key

-- and it opens the next one too, or none comes that is not empty
pub record IsOpenedBy (listener made : EncEnd) (facts : Facts) : Type 0 where
  pub last : IsOpenedOut listener made facts
  pub next :
      is_acked facts.acknowledgement ≡ true → CanOpen facts.encryption.end listener ⊎ HasNothing (phased_of facts)

-- its host ended the link, and no control PDU is left that may still be sent (section 5.1.6; that none is sent after
-- LL_TERMINATE_IND is our choice)
pub record SendsNoControl (f : TableFacts) : Type 0 where
  pub closing : is_disconnecting f.closing ≡ true
  pub rejections : f.queue.rejections ≡ []
  pub disconnect : f.queue.disconnect ≡ None

-- a peripheral whose host has no key after a pause ends the link itself; it never comes to Clear or Secure again (section
-- 5.1.3.1)
pub record LacksKey (x : Phased) : Type 0 where
  pub role : role_now x ≡ Peripheral
  pub asked : is_asked x.phase ≡ true
  pub none : x.asks_key ≡ false

-- the end that sent LL_TERMINATE_IND: that is not acknowledged, it took none, and no procedure ended the link. It queues
-- no further control PDU, and has none left that may still be sent, unless it lacks its key (section 5.1.6)
pub record HasSentTerminate (other : Setup) (facts : Facts) : Type 0 where
  pub goes_on : facts.control.ends ≡ None
  pub took_none : facts.leaving.ended_by_peer ≡ None
  pub stays : facts.leaving.acknowledged ≡ false
  pub terminates : is_terminate facts.acknowledgement.last ≡ true
  pub two_octets : length facts.acknowledgement.last.body ≤ 2
  pub shut : is_open facts.control.table.closing ≡ false
  pub sends_no_control : SendsNoControl facts.control.table ⊎ LacksKey (phased_of facts)
  pub made : EncEnd
  pub fits : HasFittingPdu other made facts

-- the end that took it: no procedure ended the link, it queues no further control PDU, and the PDUs that it sends fit
-- the other end (sections 4.5.10 and 5.1.6)
pub record HasTakenTerminate (other : Setup) (facts : Facts) : Type 0 where
  pub goes_on : facts.control.ends ≡ None
  pub took : is_some facts.leaving.ended_by_peer ≡ true
  pub stays : facts.leaving.acknowledged ≡ false
  pub closing : is_open facts.control.table.closing ≡ false
  -- no control PDU has left its queue that was not sent
  pub none_gone : is_control facts.outgoing.fixed ≡ false
  -- what it knows of the longest payload that the other end receives
  pub peer_receives : facts.control.table.lengths.peer_rx ≤ other.link.max_rx
  pub made : EncEnd
  pub fits : HasFittingPdu other made facts

-- it has sent a packet since, and its last PDU is not acknowledged (section 4.5.9)
pub record HasAnswered (facts : Facts) : Type 0 where
  pub answered : facts.leaving.answered ≡ true
  pub out : is_acked facts.acknowledgement ≡ false

-- ---- both ends

-- one end, the taker, took LL_TERMINATE_IND of the other, which has not seen that acknowledged (section 5.1.6)
pub record ArePartingFrom (taker sender : Setup) (t s : Facts) : Type 0 where
  pub took : HasTakenTerminate sender t
  pub sent : HasSentTerminate taker s
  pub opens : IsOpenedBy s.encryption.end took.made t
  pub agreement : AreInAgreement t.acknowledgement s.acknowledgement
  -- the taker accepted all that the sender sent
  pub unseen : IsUnseen s.acknowledgement t.acknowledgement
  -- the taker has seen all acknowledged that the sender accepted
  pub seen : t.acknowledgement.acked ≡ length s.acknowledgement.accepted
  -- a peripheral answers the packet in which it took it
  pub answers : taker.link.role ≡ Peripheral → HasAnswered t

-- ---- what each of them hears of the other, on its channel

-- the taker hears LL_TERMINATE_IND again: its procedures and its counts stay as they are, and it notes nothing (section
-- 4.5.9)
pub record HearsNothingNew (setup : Setup) (facts : Facts) (slot : ℕ) (octets : List ℕ) (room : Bool) : Type 0 where
  pub judged : verdict_of setup facts octets ≡ Good
  pub control : (received setup slot octets room facts).control ≡ facts.control
  pub counts : (received setup slot octets room facts).acknowledgement ≡ facts.acknowledgement
  pub notes : notes_after setup facts (PacketReceived slot octets room) ≡ []

-- the sender has seen LL_TERMINATE_IND acknowledged: it ends the link at the end of the turn, no procedure ended it,
-- and the counts still agree (section 5.1.6)
pub record HasSeenTerminate (other : Acknowledgement) (facts : Facts) : Type 0 where
  pub acknowledged : facts.leaving.acknowledged ≡ true
  pub ending : ending_of facts ≡ Some (record { 0 = terminated_by_local_host })
  pub goes_on : facts.control.ends ≡ None
  pub took_none : facts.leaving.ended_by_peer ≡ None
  pub agreement : AreInAgreement other facts.acknowledgement

-- it hears a forged packet: it ends the link, and does not answer (section 5.1.3.1)
pub record EndsForged (setup : Setup) (facts : Facts) (slot : ℕ) (octets : List ℕ) (room : Bool) : Type 0 where
  pub judged : verdict_of setup facts octets ≡ Forged
  pub ends : (received setup slot octets room facts).control.ends ≡ Some (record { 0 = mic_failure })
  pub answers_none : answered setup slot octets room facts ≡ received setup slot octets room facts
  pub replies : replies_of setup facts slot octets room ≡ false

-- with the packet that acknowledges it, it takes no PDU, and it does not answer (section 5.1.6)
pub record HearsTheEnd (setup : Setup) (facts : Facts) (slot : ℕ) (octets : List ℕ) (room : Bool) : Type 0 where
  pub judged : verdict_of setup facts octets ≡ Good
  pub takes_none : filter is_took_note (notes_after setup facts (PacketReceived slot octets room)) ≡ []
  pub answers_none : answered setup slot octets room facts ≡ received setup slot octets room facts
  pub replies : replies_of setup facts slot octets room ≡ false
