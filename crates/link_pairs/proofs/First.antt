-- A link that begins shows what both ends hold as it begins.
use Rattle.std.proofs.Common.{◌≡◌, ◌+◌, ℕ, false, [], refl, sym, ap, subst, arith}
use Rattle.adv_pdu.specs.declared.pdu.ConnectFields.{ConnectFields}
use Rattle.adv_pdu.specs.Ranges.{IsInRange}
use Rattle.ack_bit.proofs.Links.{begins}
use Rattle.ble_base.specs.declared.roles.Role.{Role}
use Rattle.control_octets.proofs.control_model.Moving.{role_after}
use Rattle.control_octets.specs.Fitting.{ParamsFit}
use Rattle.control_octets.proofs.Steps.{begins_fitting}
use Rattle.link_model.specs.Acknowledgement.{empty_pdu}
use Rattle.link_model.specs.Setup.{Setup, first_anchor, first_params}
use Rattle.joint_laws.specs.joint_controls.phased_control.enc_phase.Sealing.{clear_end}
use Rattle.joint_laws.specs.joint_controls.phased_control.enc_phase.declared.facts.PhaseFacts.TheVariants.{Clear}
use Rattle.joint_laws.specs.joint_controls.phased_control.Phased.{first_phased}
use Rattle.control_octets.specs.procedure_values.Values.{IsPayloadMax}
use Rattle.link_model.specs.Facts.{first_facts}
use Rattle.link_pairs.specs.Ends.{AreEnds, IsAtRest, phased_of}
use Rattle.link_pairs.specs.Shown.{AreLinked, HaveKeys, Shows, new_link}
use Rattle.link_pairs.proofs.Reaching.{keys_at, linked, reached_first, shown}

-- ---- one end

params_fit : (fields : ConnectFields) → IsInRange fields → ParamsFit (first_params fields)
params_fit fields r =
    record {
      times = record { interval_to = r.parameters.interval_to; latency_to = r.parameters.latency_to; timeout_to = r.parameters.timeout_to };
      channels = r.map;
    }

rests_first : (setup : Setup) → IsPayloadMax setup.link.max_rx → IsInRange setup.link.fields → IsAtRest setup (setup.opened + 1) (first_facts setup)
rests_first setup rx range =
    record {
      fits = begins_fitting setup.link.role setup.link.max_rx (first_params setup.link.fields) (first_anchor setup) rx (params_fit setup.link.fields range);
      holds = record { request = tt; kept = tt; response = record { fits = grind arith; six_offsets = tt; range = tt } };
      role = role_after setup.link.role setup.link.max_rx (first_params setup.link.fields) (first_anchor setup) [];
      none_gone = refl;
      fits_any = omega arith;
      two_bits = omega arith;
      slot = λ entered. absurd (omega arith);
      number = refl;
      heard = λ heard. absurd (cc);
      past = omega arith;
      stays = refl;
    }

-- ---- both ends

module _ (central peripheral : Setup) (ends : AreEnds central peripheral) where
  central_first : (new_link central peripheral).joint.central ≡ phased_of (first_facts central)
  central_first =
      ap (λ (role : Role). first_phased role central.link.max_rx (first_params central.link.fields) (first_anchor central)) (sym ends.is_central)

  anchors : first_anchor central ≡ first_anchor peripheral
  anchors = rw (ends.one_link.fields, ends.one_link.opened) refl

  peripheral_first : (new_link central peripheral).joint.peripheral ≡ phased_of (first_facts peripheral)
  peripheral_first =
      λ i. first_phased (sym ends.is_peripheral i) peripheral.link.max_rx (first_params (ends.one_link.fields i)) (anchors i)

  shows_first : Shows central peripheral (central.opened + 1) false (new_link central peripheral) (first_facts central) (first_facts peripheral)
  shows_first =
      record {
        central_part = central_first;
        peripheral_part = peripheral_first;
        down = refl;
        up = refl;
        agreement = begins empty_pdu empty_pdu;
        begun = refl;
        replies = λ is. absurd (cc);
        last = record { acknowledged = λ is. absurd (cc); taken = λ is. absurd (let none = is.taken in omega (arith, none)); untaken = λ is. refl };
        central_heard = refl;
        peripheral_heard = ap (λ (opened : ℕ). opened + 1) ends.one_link.opened;
        free = λ is. refl;
        central_rests = rests_first central ends.central_max ends.in_range;
        peripheral_rests = peripheral_rests;
        central_fits = omega arith;
        peripheral_fits = omega arith;
      }
    where
      peripheral_rests : IsAtRest peripheral (central.opened + 1) (first_facts peripheral)
      peripheral_rests =
          subst (λ (opened : ℕ). IsAtRest peripheral (opened + 1) (first_facts peripheral)) (sym ends.one_link.opened)
          (rests_first peripheral ends.peripheral_max (subst IsInRange ends.one_link.fields ends.in_range))

  keys_first : HaveKeys (keys_at central peripheral (new_link central peripheral) (reached_first central peripheral)) (first_facts central) (first_facts peripheral)
  keys_first =
      record {
        central_keys = record { material = refl; session = ap (λ (role : Role). clear_end role Clear) (sym ends.is_central); made = refl };
        peripheral_keys = record { material = refl; session = ap (λ (role : Role). clear_end role Clear) (sym ends.is_peripheral); made = refl };
      }

  pub first_linked : AreLinked central peripheral (central.opened + 1) false (first_facts central) (first_facts peripheral)
  first_linked =
      linked central peripheral (central.opened + 1) false (first_facts central) (first_facts peripheral)
      (shown central peripheral (central.opened + 1) false (new_link central peripheral) (first_facts central) (first_facts peripheral)
      (reached_first central peripheral) shows_first keys_first refl)
