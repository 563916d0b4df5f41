-- What an end holds after it heard a packet, by whether that acknowledges its last PDU and whether the PDU is accepted.
use Rattle.std.proofs.Common.{◌≡◌, ◌&&◌, ◌||◌, not, ℕ, Bool, true, false, refl, sym, ap, ◌∙◌, subst}
use Rattle.std.proofs.lemmas.Bool.{and_parts}
use Rattle.ble_base.specs.declared.roles.Role.{Role}
use Rattle.ack_bit.specs.AckBits.{is_new}
use Rattle.data_pdu.specs.declared.header.DataHeader.{DataHeader}
use Rattle.link_model.specs.Acknowledgement.{Acknowledgement, Pdu, bits_of, is_acked, received_by, with_accepted}
use Rattle.link_model.specs.Data.{is_data, is_empty}
use Rattle.link_model.specs.OneLink.{AreInAgreement}
use Rattle.link_model.specs.declared.state.Leaving.{Leaving}
use Rattle.link_model.specs.Controls.{is_terminate}
use Rattle.link_model.specs.Facts.{Facts, keyed_of}
use Rattle.link_model.specs.keyed_control.Keyed.{Keyed}
use Rattle.joint_laws.specs.joint_controls.phased_control.Phased.{Phased}
use Rattle.link_model.specs.Controls.{is_procedure_pdu, is_quiet_now}
use Rattle.link_model.specs.Receiving.{accepted_if, accepts, acknowledged_if, acks_control, answers_with_control, facts_before_taking, facts_hearing, heard_in_slot, keyed_acked_if}
use Rattle.link_model.specs.Sending.{control_gone_if}
use Rattle.link_model.proofs.BodyPayloads.{acked_same as acked_payload}
use Rattle.link_pairs.proofs.Answering.{IsGoneFrom, gone_same}
use Rattle.link_pairs.proofs.Counts.{HasBitsOf, acknowledged_by, heard_agreed, is_fresh}
use Rattle.link_pairs.proofs.PhasedEnds.{acked_phased}
use Rattle.link_pairs.proofs.TakingNothing.{TakesNothing, seen_nothing, sends_nothing, takes_none, takes_then}
use Rattle.link_pairs.proofs.TakingPdus.{taken_same}

acked_nothing : (acked : Bool) (k : Keyed) → TakesNothing k.phased.control (keyed_acked_if acked k).phased.control
acked_nothing true k =
    subst (λ (x : Phased). TakesNothing k.phased.control x.control) (sym (acked_phased true k)) (seen_nothing k.phased)
acked_nothing false k = takes_none k.phased.control

pub gone_nothing : (goes : Bool) (slot : ℕ) (facts : Facts) → TakesNothing facts.control (control_gone_if goes slot facts).control
gone_nothing true slot facts = sends_nothing slot (is_quiet_now facts) facts.control
gone_nothing false slot facts = takes_none facts.control

and_rest : (a b c : Bool) → ((a && b) && c) ≡ (a && (b && c))
and_rest true b c = refl
and_rest false b c = refl

module _ (role : Role) (slot : ℕ) (room : Bool) (header : DataHeader) (pdu : Pdu) (facts : Facts) where
  abbrev acks : Bool
  acks = acknowledged_by facts.acknowledgement header

  abbrev fresh : Bool
  fresh = is_fresh facts.acknowledgement header

  abbrev acked : Facts
  acked = acknowledged_if acks (heard_in_slot slot header.md facts)

  -- as the new PDU is looked at
  abbrev pub before : Facts
  before = facts_before_taking role slot header facts

  gone : IsGoneFrom acked before
  gone = gone_same (answers_with_control role acked) slot acked

  pub before_nothing : TakesNothing facts.control before.control
  before_nothing =
      takes_then facts.control acked.control before.control (acked_nothing (acks_control acks facts) (keyed_of facts))
      (gone_nothing (answers_with_control role acked) slot acked)

  pub before_by_peer : before.leaving.ended_by_peer ≡ facts.leaving.ended_by_peer
  before_by_peer = ap (λ (l : Leaving). l.ended_by_peer) gone.leaving

  pub before_stays : before.leaving.acknowledged ≡ (facts.leaving.acknowledged || (acks && is_terminate facts.acknowledgement.last))
  before_stays = ap (λ (l : Leaving). l.acknowledged) gone.leaving

  pub before_payload : before.outgoing.payload ≡ facts.outgoing.payload
  before_payload = gone.payload ∙ acked_payload (acks && is_data facts.acknowledgement.last) facts.outgoing

  -- ---- whether the PDU is accepted

  abbrev pub takes : Bool
  takes = accepts room header pdu before

  -- there is room for it, and the link was not ended
  abbrev has_room : Bool
  has_room = (room || not (is_data pdu)) && (is_empty pdu || not before.leaving.acknowledged)

  -- whether it is new does not depend on what is acknowledged
  pub fresh_then : is_new (bits_of before.acknowledgement) header ≡ fresh
  fresh_then = ap (λ (a : Acknowledgement). is_new (bits_of a) header) gone.acknowledgement

  takes_is : takes ≡ (fresh && has_room)
  takes_is =
      ap (λ (b : Bool). (b && (room || not (is_data pdu))) && (is_empty pdu || not before.leaving.acknowledged)) fresh_then
      ∙ and_rest fresh (room || not (is_data pdu)) (is_empty pdu || not before.leaving.acknowledged)

  pub takes_fresh : takes ≡ true → fresh ≡ true
  takes_fresh is = (and_parts fresh has_room (sym takes_is ∙ is)).0

  pub heard_ack : (facts_hearing role slot room header pdu facts).acknowledgement ≡ received_by acks takes pdu facts.acknowledgement
  heard_ack =
      (taken_same (takes && is_procedure_pdu pdu) (takes && is_data pdu) pdu slot (accepted_if takes pdu before)).acknowledgement
      ∙ ap (with_accepted takes pdu) gone.acknowledgement

-- the counts agree with those of the end that sent the packet
pub hearing_agreed : (role : Role) (slot : ℕ) (room : Bool) (header : DataHeader) (facts : Facts) (from : Acknowledgement)
    → AreInAgreement facts.acknowledgement from → HasBitsOf from header → is_acked from ≡ false
    → AreInAgreement (facts_hearing role slot room header from.last facts).acknowledgement from
hearing_agreed role slot room header facts from agreed bits out =
    subst (λ (a : Acknowledgement). AreInAgreement a from)
    (sym (heard_ack role slot room header from.last facts
    ∙ ap (λ (b : Bool). received_by (acknowledged_by facts.acknowledgement header) b from.last facts.acknowledgement)
    (takes_is role slot room header from.last facts)))
    (heard_agreed facts.acknowledgement from agreed header bits (has_room role slot room header from.last facts) out)
