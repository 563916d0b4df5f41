-- How each of two ends that part ends its link, and what it still sends.
use Rattle.std.proofs.Common.{◌≡◌, ◌⊎◌, inl, inr, sym, ◌&&◌, not, Bool, true, false, Some, None, is_none, refl, ap, ◌∙◌, if◌then◌else◌}
use Rattle.ble_base.specs.ErrorCodes.{terminated_by_local_host}
use Rattle.ble_base.specs.declared.error_codes.ErrCode.{ErrCode}
use Rattle.instants.specs.Track.{event_of}
use Rattle.control_octets.specs.procedure_values.Drafts.{ctrl_of_outgoing}
use Rattle.control_octets.specs.procedure_stages.Closing.{is_disconnecting, is_open}
use Rattle.control_octets.specs.procedure_stages.Queue.{next_by, next_disconnect, next_draft}
use Rattle.control_octets.specs.procedures.Going.{terminate_step}
use Rattle.control_octets.specs.control_model.Control.{Control, Disconnects, after, table_if}
use Rattle.link_model.specs.Setup.{Setup}
use Rattle.link_model.specs.Controls.{is_quiet_now, next_control, pdu_fixed}
use Rattle.link_model.specs.Facts.{Facts}
use Rattle.link_model.specs.Fixing.{data_goes}
use Rattle.link_model.specs.Packets.{pdu_sent}
use Rattle.link_model.specs.Times.{ended_by_peer, ended_by_procedures, ending_of}
use Rattle.joint_keys.proofs.Keyless.{keyless_loud}
use Rattle.link_pairs.specs.Ends.{phased_of}
use Rattle.link_pairs.specs.Parting.{ArePartingFrom, LacksKey, SendsNoControl}
use Rattle.link_pairs.proofs.Counts.{unseen_is_out}
use Rattle.link_pairs.proofs.Items.{never}

-- ---- how it ends

-- neither its procedures nor an acknowledgement of its own LL_TERMINATE_IND ends the link
by_peer_alone : (facts : Facts) → facts.leaving.acknowledged ≡ false → facts.control.ends ≡ None → ending_of facts ≡ ended_by_peer facts.leaving
by_peer_alone facts stays goes_on =
    λ i. if stays i then Some (record { 0 = terminated_by_local_host }) else ended_by_procedures (goes_on i) facts.leaving

-- ---- a quiet end does not lack its key

quiet_over : (facts : Facts) → SendsNoControl facts.control.table ⊎ LacksKey (phased_of facts) → is_quiet_now facts ≡ true
    → SendsNoControl facts.control.table
quiet_over facts (inl over) quiet = over
quiet_over facts (inr lacks) quiet =
    absurd (let loud = keyless_loud (phased_of facts) (record { role = lacks.role; asked = lacks.asked; none = lacks.none }) in
    let never = sym loud ∙ quiet in cc)

module _ (taker sender : Setup) (t s : Facts) (parting : ArePartingFrom taker sender t s) where
  taker_by : (answered : Bool) → t.leaving.answered ≡ answered → ending_of t ≡ (if answered then t.leaving.ended_by_peer else None)
  taker_by answered is =
      by_peer_alone t parting.took.stays parting.took.goes_on ∙ ap (λ (b : Bool). if b then t.leaving.ended_by_peer else None) is

  pub taker_ends : t.leaving.answered ≡ true → ending_of t ≡ t.leaving.ended_by_peer
  taker_ends is = taker_by true is

  pub taker_waits : t.leaving.answered ≡ false → ending_of t ≡ None
  taker_waits is = taker_by false is

  none_by : (answered : Bool) → (if answered then s.leaving.ended_by_peer else None) ≡ None
  none_by true = parting.sent.took_none
  none_by false = refl

  pub sender_waits : ending_of s ≡ None
  sender_waits = by_peer_alone s parting.sent.stays parting.sent.goes_on ∙ none_by s.leaving.answered

  -- ---- what the sender sends

  pub sends_again : pdu_sent s ≡ s.acknowledgement.last
  sends_again =
      ap (λ (all : Bool). if all then pdu_fixed s else s.acknowledgement.last) (unseen_is_out s.acknowledgement t.acknowledgement parting.unseen)

  pub sends_no_control : is_quiet_now s ≡ true → next_control s ≡ None
  sends_no_control quiet =
      let c = s.control in
      let f = s.control.table in
      let over = quiet_over s parting.sent.sends_no_control quiet in
      (λ i. if is_none (parting.sent.goes_on i)
      then ctrl_of_outgoing
      (next_by (over.rejections i) (if over.closing i && quiet i then next_disconnect (over.disconnect i) else next_draft f.progress (event_of c.track) f.queue.drafts))
      (event_of c.track) c.track.params.latency
      else None)

  pub sends_no_data : data_goes s ≡ false
  sends_no_data = by (is_quiet_now s) refl
    where
      by : (quiet : Bool) → is_quiet_now s ≡ quiet → data_goes s ≡ false
      by true quiet = ap (λ (b : Bool). is_quiet_now s && not b) (quiet_over s parting.sent.sends_no_control quiet).closing ∙ never (is_quiet_now s)
      by false loud = ap (λ (b : Bool). b && not (is_disconnecting s.control.table.closing)) loud

-- ---- a further Disconnect queues nothing

same_if : (may : Bool) (c : Control) → (if may then c else c) ≡ c
same_if true c = refl
same_if false c = refl

pub disconnects_none : (reason : ErrCode) (c : Control) → is_open c.table.closing ≡ false → after (Disconnects reason) c ≡ c
disconnects_none reason c shut =
    ap (λ (b : Bool). if is_none c.ends then table_if b (terminate_step c.table reason) c else c) shut ∙ same_if (is_none c.ends) c
