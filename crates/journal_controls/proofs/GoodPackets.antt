-- What an end makes of the octets of a packet: one that is good has a PDU, and one that is forged ends the link.
use Rattle.std.proofs.Common.{◌≡◌, ℕ, Bool, true, false, Option, Some, None, is_none, List, if◌then◌else◌, refl, ap, ◌∙◌}
use Rattle.air_frame.specs.declared.Heard.{Heard}
use Rattle.air_frame.specs.declared.Heard.TheVariants.{NotOurs, Broken as Faulty, Whole}
use Rattle.ble_base.specs.declared.verdicts.Verdict.{Verdict}
use Rattle.ble_base.specs.declared.verdicts.Verdict.TheVariants.{Broken, Forged, Good, Missed}
use Rattle.journal_ends.specs.link_model.Facts.{Facts as EndFacts, keyed_of}
use Rattle.journal_ends.specs.link_model.Packets.{good_pdu, heard_of, is_forged_pdu, pdu_read, pdu_read_in, verdict_of, whole_pdu}
use Rattle.journal_ends.specs.link_model.Payload.{opens_now}
use Rattle.journal_ends.specs.link_model.Setup.{Setup}
use Rattle.journal_ends.specs.link_model.Verdicts.{has_room_for, pdu_by, verdict_by, whole_in}
use Rattle.journal_ends.specs.open_links.OpenLinks.{OpenLink, facts_in}
use Rattle.journal_ends.specs.run_model.History.{is_good}
use Rattle.journal_ends.proofs.link_model.KeyedSteps.{forged_none}
use Rattle.journal_ends.proofs.journal_acks.HandedOn.{forged_is}
use Rattle.journal_controls.specs.Hearing.{keyed_forged_if, keyed_hearing, keyed_if}
use Rattle.journal_controls.specs.KeyedLines.{keyed_forged}
use Rattle.journal_controls.proofs.EndSteps.{unforged}

pub record HasPdu (setup : Setup) (facts : EndFacts) (octets : List ℕ) : Type 0 where
  pub pdu : List ℕ
  pub is : good_pdu setup facts octets ≡ Some pdu

pub good_has : (setup : Setup) (facts : EndFacts) (octets : List ℕ) → is_good (verdict_of setup facts octets) ≡ true → HasPdu setup facts octets
unfolding good_pdu verdict_of whole_pdu
good_has setup facts octets good = by (heard_of setup facts octets) refl good
  where
    opens : Bool
    opens = opens_now facts.encryption.end

    by : (heard : Heard) → heard_of setup facts octets ≡ heard → is_good (verdict_by setup.link.max_rx opens (is_forged_pdu facts) heard) ≡ true → HasPdu setup facts octets
    by NotOurs is good = absurd cc
    by Faulty is good = absurd cc
    by (Whole pdu) is good = fits (has_room_for setup.link.max_rx opens pdu.items) refl good
      where
        readable : (found : Option (List ℕ)) → pdu_read facts pdu.items ≡ found → has_room_for setup.link.max_rx opens pdu.items ≡ true
            → is_good (if is_none found then Forged else Good) ≡ true → HasPdu setup facts octets
        readable (Some other) found room good = record {
          pdu = other;
          is = ap (λ heard. pdu_read_in facts (whole_in setup.link.max_rx opens heard)) is ∙ ap (λ b. pdu_read_in facts (pdu_by b pdu.items)) room ∙ found;
        }
        readable None found room good = absurd cc

        fits : (room : Bool) → has_room_for setup.link.max_rx opens pdu.items ≡ room
            → is_good (if room then (if is_forged_pdu facts pdu.items then Forged else Good) else Broken) ≡ true → HasPdu setup facts octets
        fits true room good = readable (pdu_read facts pdu.items) refl room good
        fits false room good = absurd cc

pub good_verdict : (verdict : Verdict) → is_good verdict ≡ true → verdict ≡ Good
good_verdict Good good = refl
good_verdict Forged good = absurd cc
good_verdict Broken good = absurd cc
good_verdict Missed good = absurd cc

-- ---- the end as the packet reaches it

pub good_keyed : (slot : ℕ) (octets pdu : List ℕ) (link : OpenLink) → good_pdu link.setup (facts_in link) octets ≡ Some pdu
    → keyed_if true slot octets link ≡ keyed_hearing link.setup.link.role slot (Some pdu) (facts_in link)
good_keyed slot octets pdu link is =
    λ i. keyed_forged_if (unforged link.setup (facts_in link) octets pdu is i) (keyed_hearing link.setup.link.role slot (is i) (facts_in link))

pub forged_keyed : (slot : ℕ) (octets : List ℕ) (link : OpenLink) → verdict_of link.setup (facts_in link) octets ≡ Forged
    → keyed_if true slot octets link ≡ keyed_forged (keyed_of (facts_in link))
forged_keyed slot octets link is =
    let forged = forged_is link.setup (facts_in link) octets is in
    λ i. keyed_forged_if (forged i) (keyed_hearing link.setup.link.role slot (forged_none link.setup (facts_in link) octets forged i) (facts_in link))
