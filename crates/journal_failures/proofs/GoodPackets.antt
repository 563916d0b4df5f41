-- A good packet that is not mixed does not end a link for a failed integrity.
use Rattle.std.proofs.Common.{◌≡◌, ◌⊎◌, inl, inr, ℕ, ◌==◌, Bool, true, false, List, Option, Some, None, refl, sym, ap, ◌∙◌}
use Rattle.ble_base.specs.ErrorCodes.{mic_failure}
use Rattle.ble_base.specs.declared.error_codes.ErrCode.{ErrCode}
use Rattle.journal_outcomes.specs.link_calls.link_model.Facts.{Facts}
use Rattle.journal_outcomes.specs.link_calls.link_model.Packets.{is_forged}
use Rattle.journal_outcomes.specs.link_calls.link_model.Setup.{Setup}
use Rattle.journal_outcomes.proofs.link_calls.link_model.Hearing.{IsHeardWhole}
use Rattle.journal_outcomes.specs.link_runs.link_pairs.Ends.{AreEnds}
use Rattle.journal_outcomes.specs.link_runs.link_pairs.Hearing.{IsPacketOf, answered, is_mixed_packet, received}
use Rattle.journal_outcomes.specs.link_runs.link_pairs.Sound.{EndsForInstant, EndsForged}
use Rattle.journal_outcomes.proofs.link_runs.link_pairs.Ending.{answered_ends, central_lasts as central_goes, peripheral_lasts as peripheral_goes}
use Rattle.journal_outcomes.proofs.link_runs.link_pairs.SenderHears.{has_seen}
use Rattle.journal_outcomes.proofs.link_runs.link_pairs.Understanding.{IsOpenedThere}
use Rattle.journal_outcomes.specs.journal_collisions.journal_endings.run_pairs.Stages.{AreAnsweredEnds, AreBegunEnds, CentralTook, IsForged, IsLate, IsOver, Lasts, PeripheralTook}
use Rattle.journal_outcomes.proofs.journal_crossing.journal_collisions.journal_endings.run_pairs.Stages.{central_reads, peripheral_reads}

-- the end ended the link for a failed integrity
abbrev pub is_failed : Option ErrCode → Bool
is_failed None = false
is_failed (Some code) = code.0 == mic_failure

goes_on : (setup : Setup) (facts : Facts) (octets : List ℕ) (ends : Option ErrCode) → is_forged setup facts octets ≡ false
    → (ends ≡ None) ⊎ EndsForged setup facts octets ends → is_failed ends ≡ false
goes_on setup facts octets ends genuine (inl none) = ap is_failed none
goes_on setup facts octets ends genuine (inr forged) = absurd (let no = sym forged.0 ∙ genuine in cc)

goes_late : (c p : Facts) (setup : Setup) (octets : List ℕ) (ends : Option ErrCode) → is_forged setup p octets ≡ false
    → (ends ≡ None) ⊎ (EndsForInstant c p ends ⊎ EndsForged setup p octets ends) → is_failed ends ≡ false
goes_late c p setup octets ends genuine (inl none) = ap is_failed none
goes_late c p setup octets ends genuine (inr (inl late)) = ap is_failed late.0
goes_late c p setup octets ends genuine (inr (inr forged)) = absurd (let no = sym forged.0 ∙ genuine in cc)

module _ (whole : IsHeardWhole) (opened : IsOpenedThere) (central peripheral : Setup) (ends : AreEnds central peripheral) (slot : ℕ) (c p : Facts) (channel : ℕ)
    (octets : List ℕ) (room : Bool) where
  pub peripheral_stays : IsPacketOf central slot c channel octets → channel ≡ p.event.channel → is_mixed_packet peripheral p c octets ≡ false
      → is_forged peripheral p octets ≡ false → AreBegunEnds central peripheral slot true true c p
      → is_failed (received peripheral slot octets room p).control.ends ≡ false
  peripheral_stays packet same unmixed genuine (inl link) =
      ap is_failed (sym (answered_ends peripheral slot octets room p))
      ∙ goes_late c p peripheral octets (answered peripheral slot octets room p).control.ends genuine
      (peripheral_goes whole central peripheral slot c p channel octets room ends link.begun link.central_lasts link.peripheral_lasts packet same link.supervised
      (peripheral_reads whole opened central peripheral ends slot c p channel octets room packet same unmixed (inl link)))
  peripheral_stays packet same unmixed genuine (inr parting) =
      let pure = peripheral_reads whole opened central peripheral ends slot c p channel octets room packet same unmixed (inr parting) in
      let seen = has_seen whole central peripheral ends.one_link.fields ends.peripheral_max.to c p parting slot channel octets packet same room pure genuine in
      ap is_failed seen.goes_on

  pub central_stays : IsPacketOf peripheral slot p channel octets → channel ≡ c.event.channel → is_mixed_packet central c p octets ≡ false
      → is_forged central c octets ≡ false → AreAnsweredEnds central peripheral slot true c p
      → is_failed (received central slot octets room c).control.ends ≡ false
  central_stays packet same unmixed genuine (Lasts link) =
      goes_on central c octets (received central slot octets room c).control.ends genuine
      (central_goes whole central peripheral slot c p channel octets room ends link.linked link.central_lasts link.peripheral_lasts link.central_past
      (link.entered refl) packet same
      (central_reads whole opened central peripheral ends slot c p channel octets room packet same unmixed (Lasts link)))
  central_stays packet same unmixed genuine (PeripheralTook parting) =
      let pure = central_reads whole opened central peripheral ends slot c p channel octets room packet same unmixed (PeripheralTook parting) in
      let seen = has_seen whole peripheral central (sym ends.one_link.fields) ends.central_max.to p c parting slot channel octets packet same room pure genuine in
      ap is_failed seen.goes_on
  central_stays packet same unmixed genuine (CentralTook parting none) = absurd (cc)
  central_stays packet same unmixed genuine (IsLate link none) = absurd (cc)
  central_stays packet same unmixed genuine (IsOver link none) = absurd (cc)
  central_stays packet same unmixed genuine (IsForged link none) = absurd (cc)
