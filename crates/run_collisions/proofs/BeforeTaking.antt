-- A peripheral, before it takes a PDU, has kept none, and its session is in its phase.
use Rattle.std.proofs.Common.{◌≡◌, ◌&&◌, ℕ, Bool, true, false, None, is_none, refl, sym, ap, ◌∙◌, if◌then◌else◌}
use Rattle.ble_base.specs.declared.roles.Role.TheVariants.{Peripheral}
use Rattle.data_pdu.specs.declared.header.DataHeader.{DataHeader}
use Rattle.joint_laws.specs.joint_controls.Joint.{is_running}
use Rattle.joint_laws.specs.joint_parameters.Turns.{Link}
use Rattle.link_pairs.specs.control_model.Control.{Sends as control_sends}
use Rattle.link_pairs.specs.link_model.Data.{is_control}
use Rattle.link_pairs.specs.link_model.Facts.{Encryption, Facts, keyed_of}
use Rattle.link_pairs.specs.link_model.Receiving.{acknowledged_if, answers_with_control, facts_before_taking, heard_in_slot}
use Rattle.link_pairs.specs.link_model.Setup.{Setup}
use Rattle.link_pairs.specs.link_model.enc_phase.declared.facts.Transition.TheVariants.{Ask as AskTransition}
use Rattle.link_pairs.specs.link_model.enc_phase.Sealing.{EncEnd}
use Rattle.link_pairs.specs.link_model.keyed_control.KeyedSteps.{SeesAcknowledged, end_changed, keyed_moved}
use Rattle.link_pairs.specs.link_model.phased_control.PhaseChanges.{Moves, Stays}
use Rattle.link_pairs.specs.link_model.phased_control.Phased.{Phased, is_quiet_now, with_step}
use Rattle.link_pairs.specs.Ends.{AreEnds, phased_of}
use Rattle.link_pairs.specs.Shown.{HaveKeys, Shows}
use Rattle.link_pairs.proofs.Answering.{gone_same}
use Rattle.link_pairs.proofs.Counts.{acknowledged_by}
use Rattle.link_pairs.proofs.KeyedRuns.{keys_acked_if}
use Rattle.link_pairs.proofs.KeysHeld.{acked_has}
use Rattle.link_pairs.proofs.LinkStates.{peripheral_in_phase, peripheral_keeps_none}
use Rattle.link_pairs.proofs.PhasedEnds.{acked_alone, acked_if, acked_phased, asks_none, gone_if, gone_phased}
use Rattle.link_pairs.proofs.ReachedRuns.{requests_none}
use Rattle.link_pairs.proofs.Reaching.{IsReached, keys_at}
use Rattle.joint_keys.specs.KeyedJoint.{Keys, keyed_with}

module _ (central peripheral : Setup) (ends : AreEnds central peripheral) (turns : ℕ) (answers : Bool) (l : Link) (reached : IsReached central peripheral l)
    (running : is_running l.joint ≡ true) (c p : Facts) (s : Shows central peripheral turns answers l c p)
    (keys : HaveKeys (keys_at central peripheral l reached) c p) (slot : ℕ) (header : DataHeader) where
  abbrev acks : Bool
  acks = acknowledged_by p.acknowledgement header

  abbrev seen : Facts
  seen = acknowledged_if acks (heard_in_slot slot header.md p)

  abbrev acks_it : Bool
  acks_it = acks && is_control p.acknowledgement.last

  abbrev goes : Bool
  goes = answers_with_control Peripheral seen

  abbrev pub earlier : Facts
  earlier = facts_before_taking Peripheral slot header p

  none_requested : (phased_of p).request ≡ None
  none_requested = ap (λ (x : Phased). x.request) (sym s.peripheral_part) ∙ requests_none central peripheral ends l reached

  -- what it keeps, and its phase, are those of before
  record IsAlike (x y : Phased) : Type 0 where
    kept : y.kept ≡ x.kept
    phase : y.phase ≡ x.phase

  acked_alike : (b : Bool) → IsAlike (phased_of p) (acked_if b (phased_of p))
  acked_alike true = record {
    kept = ap (λ (x : Phased). x.kept) (acked_alone (phased_of p) none_requested);
    phase = ap (λ (x : Phased). x.phase) (acked_alone (phased_of p) none_requested);
  }
  acked_alike false = record { kept = refl; phase = refl }

  gone_alike : (b : Bool) (x : Phased) → IsAlike x (gone_if b slot x)
  gone_alike true x = by (is_none x.control.ends)
    where
      by : (b : Bool) → IsAlike x (if b then with_step (control_sends slot (is_quiet_now x)) x else x)
      by true = record { kept = refl; phase = refl }
      by false = record { kept = refl; phase = refl }
  gone_alike false x = record { kept = refl; phase = refl }

  pub keeps_none : earlier.encryption.kept ≡ None
  keeps_none =
      ap (λ (x : Phased). x.kept) (gone_phased goes slot seen) ∙ (gone_alike goes (phased_of seen)).kept
      ∙ ap (λ (x : Phased). x.kept) (acked_phased acks_it (keyed_of p)) ∙ (acked_alike acks_it).kept
      ∙ ap (λ (x : Phased). x.kept) (sym s.peripheral_part) ∙ peripheral_keeps_none central peripheral ends l reached running

  same_phase : earlier.encryption.phase ≡ p.encryption.phase
  same_phase =
      ap (λ (x : Phased). x.phase) (gone_phased goes slot seen) ∙ (gone_alike goes (phased_of seen)).phase
      ∙ ap (λ (x : Phased). x.phase) (acked_phased acks_it (keyed_of p)) ∙ (acked_alike acks_it).phase

  -- its session is that of before
  abbrev own : Keys
  own = (keys_at central peripheral l reached).peripheral

  alone_end : (b : Bool) → (keys_acked_if b (phased_of p) own).end ≡ own.end
  alone_end false = refl
  alone_end true = by (is_none (phased_of p).control.ends)
    where
      by : (b : Bool) → (if b then keyed_moved SeesAcknowledged (keyed_with (phased_of p) own) else keyed_with (phased_of p) own).end ≡ own.end
      by true = ap (λ (asks : Bool). end_changed (if asks then Moves AskTransition else Stays) own.material own.end) (asks_none (phased_of p) none_requested)
      by false = refl

  earlier_end : earlier.encryption.end ≡ own.end
  earlier_end =
      ap (λ (e : Encryption). e.end) (gone_same goes slot seen).encryption
      ∙ sym (acked_has slot header.md acks (phased_of p) own p refl keys.peripheral_keys).session ∙ alone_end acks_it

  pub in_phase : earlier.encryption.end.phase ≡ earlier.encryption.phase
  in_phase =
      ap (λ (e : EncEnd). e.phase) earlier_end ∙ peripheral_in_phase central peripheral ends l reached running
      ∙ ap (λ (x : Phased). x.phase) s.peripheral_part ∙ sym same_phase
