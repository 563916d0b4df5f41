-- The keys of a joint run stay those of an end in each of its steps, and its last PDU stays one that was made with them.
use Rattle.std.proofs.Common.{◌≡◌, ℕ, ◌&&◌, not, Bool, true, false, List, is_none, is_some, refl, sym, ap, ◌∙◌, subst, if◌then◌else◌}
use Rattle.ble_base.specs.declared.roles.Role.TheVariants.{Central, Peripheral}
use Rattle.data_pdu.specs.declared.ctrl.Ctrl.{Ctrl}
use Rattle.data_pdu.specs.declared.ctrl.Ctrl.TheVariants.{EncRsp}
use Rattle.data_pdu.specs.declared.ctrl.CtrlRead.{CtrlRead}
use Rattle.data_pdu.specs.declared.ctrl.CtrlRead.TheVariants.{Known}
use Rattle.control_octets.specs.procedure_values.declared.drafts.Outgoing.TheVariants.{Nothing}
use Rattle.joint_laws.specs.joint_controls.phased_control.enc_phase.declared.classes.PduClass.TheVariants.{EncRsp as enc_rsp}
use Rattle.joint_laws.specs.joint_controls.phased_control.enc_phase.declared.facts.PhaseFacts.{PhaseFacts}
use Rattle.joint_laws.specs.joint_controls.phased_control.enc_phase.declared.facts.PhaseFacts.TheVariants.{Asked}
use Rattle.joint_laws.specs.joint_controls.phased_control.enc_phase.declared.facts.Transition.TheVariants.{Ask as AskTransition}
use Rattle.joint_laws.specs.joint_controls.phased_control.enc_phase.Phases.{may_follow}
use Rattle.joint_laws.specs.joint_controls.phased_control.enc_phase.Sealing.{EncEnd, after_opening, sent_payload}
use Rattle.joint_laws.specs.joint_controls.phased_control.enc_phase.Sealing.{after_sending as seals_one}
use Rattle.joint_laws.specs.joint_controls.phased_control.PhaseChanges.{Change, Moves, Stays, Took, taken_change}
use Rattle.joint_laws.specs.joint_controls.phased_control.Phased.{Phased, is_open_now, is_pause_rsp}
use Rattle.joint_laws.specs.joint_controls.phased_control.Taken.{Response, role_now}
use Rattle.joint_laws.specs.joint_controls.Joint.{Joint, JointStep, may_all}
use Rattle.joint_keys.specs.KeyedJoint.{KeyedJoint, Keys, keyed_joint_after_all, keyed_with, keys_after, keys_opening, keys_sending}
use Rattle.joint_keys.specs.KeyedLinks.{with_ltk}
use Rattle.link_model.specs.keyed_control.declared.material.KeyMaterial.{KeyMaterial}
use Rattle.link_model.specs.keyed_control.Keyed.{Keyed}
use Rattle.link_model.specs.keyed_control.KeyedSteps.{KeyedStep, SeesAcknowledged, Takes, TakesData, end_changed, keyed_after, keyed_moved, with_read}
use Rattle.link_model.specs.phased_end.Taking.{drawn}
use Rattle.link_model.specs.Acknowledgement.{Pdu, is_acked, next_sent}
use Rattle.link_model.specs.Controls.{read_of}
use Rattle.link_model.specs.Data.{Data as DataFacts, data_acked_if, is_control, is_data, is_empty}
use Rattle.link_model.specs.Events.{event_sent}
use Rattle.link_model.specs.Facts.{Facts, keyed_of}
use Rattle.link_model.specs.Packets.{more_sent}
use Rattle.link_model.specs.Payload.{end_accepting, end_sending, payload_made}
use Rattle.link_model.specs.Receiving.{accepted_if, acknowledged_if, counts_accepted, data_taken, heard_in_slot, keyed_acked_if, procedures_take}
use Rattle.link_model.specs.Sending.{data_sent_as, fixed_sent, leaving_sent, seals_new}
use Rattle.link_pairs.specs.Ends.{phased_of}
use Rattle.link_pairs.specs.Shown.{HasKeys, HaveKeys}
use Rattle.link_pairs.proofs.KeyedRuns.{keys_acked_if, keys_all, keys_go}

-- ---- what does not change them

-- an end with the same keys and the same last PDU
pub record KeepsKeys (facts now : Facts) : Type 0 where
  pub material : now.encryption.material ≡ facts.encryption.material
  pub session : now.encryption.end ≡ facts.encryption.end
  pub payload : now.outgoing.payload ≡ facts.outgoing.payload
  pub last : now.acknowledgement.last ≡ facts.acknowledgement.last

pub has_still : (keys : Keys) (facts now : Facts) → KeepsKeys facts now → HasKeys keys facts → HasKeys keys now
has_still keys facts now kept has =
    record {
      material = has.material ∙ sym kept.material;
      session = has.session ∙ sym kept.session;
      made = kept.payload ∙ has.made ∙ ap (payload_made keys.made) (sym kept.last);
    }

-- ---- a step of its procedures and its phase

same_keyed : (x : Phased) (keys : Keys) (facts : Facts) → x ≡ phased_of facts → HasKeys keys facts → keyed_with x keys ≡ keyed_of facts
same_keyed x keys facts is has = λ i. record { phased = is i; material = has.material i; end = has.session i }

-- with the same last PDU
pub has_moved : (step : KeyedStep) (x : Phased) (keys : Keys) (facts now : Facts) → x ≡ phased_of facts
    → now.encryption.material ≡ (keyed_after step (keyed_of facts)).material → now.encryption.end ≡ (keyed_after step (keyed_of facts)).end
    → now.outgoing.payload ≡ facts.outgoing.payload → now.acknowledgement.last ≡ facts.acknowledgement.last
    → HasKeys keys facts → HasKeys (keys_after step x keys) now
has_moved step x keys facts now is material session payload last has =
    let same = same_keyed x keys facts is has in
    record {
      material = ap (λ (k : Keyed). (keyed_after step k).material) same ∙ sym material;
      session = ap (λ (k : Keyed). (keyed_after step k).end) same ∙ sym session;
      made = payload ∙ has.made ∙ ap (payload_made keys.made) (sym last);
    }

-- ---- its last PDU is acknowledged

-- where none is out nothing changes
none_acked : (x : Phased) (keys : Keys) → x.control.table.out ≡ Nothing → keys_after SeesAcknowledged x keys ≡ keys
none_acked x keys none = by (is_none x.control.ends)
  where
    by : (b : Bool)
        → record keys { material = (if b then keyed_moved SeesAcknowledged (keyed_with x keys) else keyed_with x keys).material; end = (if b then keyed_moved SeesAcknowledged (keyed_with x keys) else keyed_with x keys).end } ≡ keys
    by true =
        λ i. record keys {
          end = end_changed (if is_pause_rsp (none i) && (may_follow AskTransition x.phase && (is_open_now x && is_some x.request)) then Moves AskTransition else Stays) keys.material keys.end;
        }
    by false = refl

-- by whether that is a control PDU, or whether it was taken
pub acked_or_none : (acks : Bool) (x : Phased) (keys : Keys) → x.control.table.out ≡ Nothing → keys_acked_if acks x keys ≡ keys
acked_or_none true x keys none = none_acked x keys none
acked_or_none false x keys none = refl

module _ (slot : ℕ) (more acks : Bool) (x : Phased) (keys : Keys) (facts : Facts) (is : x ≡ phased_of facts) (has : HasKeys keys facts) where
  abbrev seen : Facts
  seen = acknowledged_if acks (heard_in_slot slot more facts)

  kept_payload : (acked : Bool) (outgoing : DataFacts) → (data_acked_if acked outgoing).payload ≡ outgoing.payload
  kept_payload true outgoing = refl
  kept_payload false outgoing = refl

  acked_by : (b : Bool) → (acks && is_control facts.acknowledgement.last) ≡ b → HasKeys (keys_acked_if b x keys) seen
  acked_by true same =
      has_moved SeesAcknowledged x keys facts seen is (ap (λ (b : Bool). (keyed_acked_if b (keyed_of facts)).material) same)
      (ap (λ (b : Bool). (keyed_acked_if b (keyed_of facts)).end) same) (kept_payload (acks && is_data facts.acknowledgement.last) facts.outgoing) refl has
  acked_by false same =
      has_still keys facts seen
      (record {
        material = ap (λ (b : Bool). (keyed_acked_if b (keyed_of facts)).material) same;
        session = ap (λ (b : Bool). (keyed_acked_if b (keyed_of facts)).end) same;
        payload = kept_payload (acks && is_data facts.acknowledgement.last) facts.outgoing;
        last = refl;
      }) has

  pub acked_has : HasKeys (keys_acked_if (acks && is_control facts.acknowledgement.last) x keys) seen
  acked_has = acked_by (acks && is_control facts.acknowledgement.last) refl

-- ---- it takes a PDU

accepted_has : (accepted : Bool) (pdu : Pdu) (keys : Keys) (facts : Facts) → counts_accepted accepted pdu ≡ true → HasKeys keys facts
    → HasKeys (keys_opening keys) (accepted_if accepted pdu facts)
accepted_has accepted pdu keys facts counts has =
    record {
      material = has.material;
      session = ap after_opening has.session ∙ ap (λ (b : Bool). end_accepting b facts.encryption.end) (sym counts);
      made = has.made;
    }

-- one that counts for nothing
pub nothing_has : (accepted : Bool) (pdu : Pdu) (keys : Keys) (facts : Facts) → counts_accepted accepted pdu ≡ false → HasKeys keys facts
    → HasKeys keys (accepted_if accepted pdu facts)
nothing_has accepted pdu keys facts counts has =
    record {
      material = has.material;
      session = has.session ∙ ap (λ (b : Bool). end_accepting b facts.encryption.end) (sym counts);
      made = has.made;
    }

module _ (accepted : Bool) (pdu : Pdu) (slot : ℕ) (x : Phased) (keys : Keys) (facts : Facts) (is : x ≡ phased_of facts)
    (counts : counts_accepted accepted pdu ≡ true) (has : HasKeys keys facts) where
  abbrev given : Facts
  given = accepted_if accepted pdu facts

  pub data_has : HasKeys (keys_after TakesData x (keys_opening keys)) (data_taken given)
  data_has =
      has_moved TakesData x (keys_opening keys) given (data_taken given) is refl refl refl refl (accepted_has accepted pdu keys facts counts has)

  pub control_has : (ctrl : Ctrl) → read_of pdu ≡ Known ctrl
      → HasKeys (keys_after (Takes (Known ctrl) slot (drawn facts.encryption.response)) x (keys_opening keys)) (procedures_take pdu slot given)
  control_has ctrl read =
      subst (λ (r : CtrlRead). HasKeys (keys_after (Takes r slot (drawn facts.encryption.response)) x (keys_opening keys)) (procedures_take pdu slot given)) read
      (has_moved (Takes (read_of pdu) slot (drawn facts.encryption.response)) x (keys_opening keys) given (procedures_take pdu slot given) is refl refl refl refl
      (accepted_has accepted pdu keys facts counts has))

-- a central takes a PDU whatever it would draw
module _ (slot : ℕ) (one other : Response) (x : Phased) (keys : Keys) (central : role_now x ≡ Central) where
  same_read : (read : CtrlRead) (change : Change) (phase : PhaseFacts) (m : KeyMaterial)
      → with_read Central read one change phase m ≡ with_read Central read other change phase m
  same_read (Known (EncRsp skd_s iv_s)) (Took enc_rsp) (Asked after_pause false kept) m = refl
  same_read read change phase m = refl

  same_material : (read : CtrlRead) (change : Change)
      → with_read (role_now x) read one change x.phase keys.material ≡ with_read (role_now x) read other change x.phase keys.material
  same_material read change =
      (λ i. with_read (central i) read one change x.phase keys.material) ∙ same_read read change x.phase keys.material
      ∙ λ i. with_read (sym central i) read other change x.phase keys.material

  pub taken_alike : (read : CtrlRead) → keys_after (Takes read slot one) x keys ≡ keys_after (Takes read slot other) x keys
  taken_alike read = by (is_none x.control.ends)
    where
      by : (b : Bool)
          → record keys {
            material = (if b then keyed_moved (Takes read slot one) (keyed_with x keys) else keyed_with x keys).material;
            end = (if b then keyed_moved (Takes read slot one) (keyed_with x keys) else keyed_with x keys).end;
          }
          ≡ record keys {
            material = (if b then keyed_moved (Takes read slot other) (keyed_with x keys) else keyed_with x keys).material;
            end = (if b then keyed_moved (Takes read slot other) (keyed_with x keys) else keyed_with x keys).end;
          }
      by true =
          ap (λ (m : KeyMaterial). record keys { material = m; end = end_changed (taken_change read slot x) m keys.end })
          (same_material read (taken_change read slot x))
      by false = refl

-- ---- what an end holds after it sent, by whether its last PDU was acknowledged

abbrev pub sent_as : Bool → ℕ → Facts → Facts
sent_as acked slot facts =
    record facts {
      event = event_sent slot (more_sent facts) facts.event;
      acknowledgement = next_sent acked facts.outgoing.fixed facts.acknowledgement;
      outgoing = data_sent_as (payload_made facts.encryption.end facts.outgoing.fixed) acked facts.outgoing;
      encryption =
          record facts.encryption { end = end_sending (seals_new acked facts.outgoing.fixed) facts.encryption.end };
      leaving = leaving_sent facts.leaving;
    }

pub sent_is_as : (acked : Bool) (slot : ℕ) (facts : Facts) → is_acked facts.acknowledgement ≡ acked → fixed_sent slot facts ≡ sent_as acked slot facts
sent_is_as acked slot facts is =
    λ i. record facts {
      event = event_sent slot (more_sent facts) facts.event;
      acknowledgement = next_sent (is i) facts.outgoing.fixed facts.acknowledgement;
      outgoing = data_sent_as (payload_made facts.encryption.end facts.outgoing.fixed) (is i) facts.outgoing;
      encryption =
          record facts.encryption { end = end_sending (seals_new (is i) facts.outgoing.fixed) facts.encryption.end };
      leaving = leaving_sent facts.leaving;
    }

module _ (slot : ℕ) (keys : Keys) (facts : Facts) (has : HasKeys keys facts) where
  abbrev next : Pdu
  next = facts.outgoing.fixed

  -- the last one again
  pub again_has : HasKeys keys (sent_as false slot facts)
  again_has = record { material = has.material; session = has.session; made = has.made }

  abbrev payload_by : EncEnd → Bool → List ℕ
  payload_by end empty = if empty then next.body else sent_payload end next.llid next.body

  -- an empty PDU, whose payload is its body
  pub empty_has : is_empty next ≡ true → HasKeys keys (sent_as true slot facts)
  empty_has empty =
      record {
        material = has.material;
        session = has.session ∙ ap (λ (b : Bool). end_sending (not b) facts.encryption.end) (sym empty);
        made = ap (payload_by facts.encryption.end) empty ∙ ap (payload_by keys.made) (sym empty);
      }

  -- a PDU that is not empty
  pub new_has : is_empty next ≡ false → HasKeys (keys_sending keys) (sent_as true slot facts)
  new_has some =
      record {
        material = has.material;
        session = ap seals_one has.session ∙ ap (λ (b : Bool). end_sending (not b) facts.encryption.end) (sym some);
        made = ap (λ (e : EncEnd). payload_made e next) (sym has.session);
      }

-- ---- both ends after the steps of a joint run that may come

pub have_after : (ltk : List ℕ) (steps : List JointStep) (k : KeyedJoint) (s : Joint) (c p : Facts) → k.joint ≡ s → may_all steps s ≡ true
    → HasKeys (keys_all Central steps ltk s k.central) c → HasKeys (keys_all Peripheral steps ltk s k.peripheral) p
    → HaveKeys (keyed_joint_after_all (with_ltk ltk steps) k) c p
have_after ltk steps k s c p same comes one other =
    record {
      central_keys = subst (λ (keys : Keys). HasKeys keys c) (sym (keys_go Central ltk steps k s same comes)) one;
      peripheral_keys = subst (λ (keys : Keys). HasKeys keys p) (sym (keys_go Peripheral ltk steps k s same comes)) other;
    }
