-- Whether a packet that an end hears mixes two session keys, by what both ends hold and by the lines.
use Rattle.std.proofs.Common.{◌≡◌, ℕ, ◌&&◌, Bool, true, false, Some, List, refl, ap, ◌∙◌, is_some}
use Rattle.std.proofs.Math.Bool.{and-false}
use Rattle.air_frame.specs.declared.Heard.{Heard}
use Rattle.air_frame.specs.declared.Heard.TheVariants.{NotOurs, Broken, Whole}
use Rattle.journal_controls.specs.journal_acks.Counted.{IsCounted}
use Rattle.journal_controls.specs.journal_acks.Exchange.{Exchanged}
use Rattle.journal_controls.specs.link_model.Facts.{Facts, keyed_of}
use Rattle.journal_controls.specs.link_model.Packets.{counts_here, good_pdu, heard_of, whole_pdu}
use Rattle.journal_controls.specs.link_model.Payload.{opens_now}
use Rattle.journal_controls.specs.link_model.Setup.{Setup}
use Rattle.journal_controls.specs.link_model.Verdicts.{has_room_for, pdu_by, whole_in}
use Rattle.link_runs.specs.link_pairs.Hearing.{brings_sealed, has_other_keys, is_mixed_packet}
use Rattle.journal_sealing.specs.Forged.{counts_by}
use Rattle.journal_sealing.specs.Mixed.{counts_in, mixes}
use Rattle.journal_sealing.proofs.Judged.{counts_as}

-- a test of three, whose second one may fail for want of room
any_room : (counts opens differs : Bool) → (counts && (opens && differs)) ≡ false → ((opens && counts) && differs) ≡ false
any_room true true differs is = is
any_room true false differs is = refl
any_room false true differs is = refl
any_room false false differs is = refl

module _ (facts : Facts) (end : Exchanged) (counted : IsCounted end facts.acknowledgement) (differs : Bool) where
  in_room : (has_room : Bool) (pdu : List ℕ) → (counts_by end pdu && (opens_now facts.encryption.end && differs)) ≡ false
      → (brings_sealed facts (pdu_by has_room pdu) && differs) ≡ false
  in_room true pdu is =
      any_room (counts_here facts pdu) (opens_now facts.encryption.end) differs
      (ap (λ b. b && (opens_now facts.encryption.end && differs)) (counts_as end facts pdu counted) ∙ is)
  in_room false pdu is = refl

  brings : (max_rx : ℕ) (heard : Heard) → (counts_in end heard && (opens_now facts.encryption.end && differs)) ≡ false
      → (brings_sealed facts (whole_in max_rx (opens_now facts.encryption.end) heard) && differs) ≡ false
  brings max_rx NotOurs is = refl
  brings max_rx Broken is = refl
  brings max_rx (Whole pdu) is = in_room (has_room_for max_rx (opens_now facts.encryption.end) pdu.items) pdu.items is

-- where it does not by the lines, it does not by what both ends hold
pub unmixed_by : (setup : Setup) (facts sender : Facts) (end : Exchanged) (octets : List ℕ) → IsCounted end facts.acknowledgement
    → mixes (counts_in end (heard_of setup facts octets)) (Some (keyed_of sender)) (Some (keyed_of facts)) ≡ false
    → is_mixed_packet setup facts sender octets ≡ false
unfolding is_mixed_packet whole_pdu
unmixed_by setup facts sender end octets counted is =
    ap (λ b. is_some (good_pdu setup facts octets) && b) (brings facts end counted (has_other_keys sender facts) setup.link.max_rx (heard_of setup facts octets) is)
    ∙ and-false (is_some (good_pdu setup facts octets))
