-- What a controller listens for that judges octets to be good: packets of an advertising channel, or of a link.
use Rattle.std.proofs.Common.{◌≡◌, ℕ, Option, Some, None, List, refl, sym, ap, subst, ◌∙◌}
use Rattle.ble_base.specs.declared.verdicts.Verdict.TheVariants.{Good}
use Rattle.air_frame.specs.Advertising.{advertising_access, advertising_crc_init}
use Rattle.link_calls.specs.link_model.Facts.{Facts as EndFacts}
use Rattle.link_calls.specs.link_model.Packets.{is_forged_pdu, verdict_of as verdict_of_end}
use Rattle.link_calls.specs.link_model.Payload.{opens_now}
use Rattle.link_calls.specs.link_model.Setup.{Setup as EndSetup}
use Rattle.link_calls.specs.link_model.Verdicts.{verdict_by as judged_by}
use Rattle.link_calls.specs.open_links.OpenLinks.{OpenLink, facts_in, link_at}
use Rattle.link_calls.specs.controller_model.declared.doing.Doing.{Doing}
use Rattle.link_calls.specs.controller_model.declared.doing.Doing.TheVariants.{Advertises, AwaitsRequest, AwaitsResponse, CentralListens, Initiates, PeripheralListens, Scans}
use Rattle.link_calls.specs.controller_model.Facts.{Facts, Listens}
use Rattle.link_calls.specs.controller_model.Packets.{listens_on, verdict_advertising, verdict_by, verdict_doing, verdict_of, verdict_of_link}
use Rattle.link_calls.proofs.controller_model.Always.{IsAdvertisingChannel}
use Rattle.link_calls.proofs.controller_model.Sent.{DoingFits}
use Rattle.link_calls.specs.run_laws.Ends.{link_listened}
use Rattle.link_calls.proofs.run_laws.TurnSteps.{IsListening}
use Rattle.link_calls.proofs.LinkUses.{IsScanning}
use Rattle.short_damage.proofs.NeverWhole.{IsHeardWhole, heard_whole}

pub good_advertising : (channel : ℕ) (octets : List ℕ) → verdict_advertising channel octets ≡ Good
    → IsHeardWhole channel advertising_access advertising_crc_init octets
good_advertising channel octets good =
    heard_whole verdict_by Good (λ no. absurd cc)
    (λ no. absurd cc) channel advertising_access advertising_crc_init octets good

pub good_on_link : (setup : EndSetup) (facts : EndFacts) (octets : List ℕ) → verdict_of_end setup facts octets ≡ Good
    → IsHeardWhole facts.event.channel setup.link.fields.access setup.link.fields.crc_init octets
unfolding verdict_of_end
good_on_link setup facts octets good =
    heard_whole (judged_by setup.link.max_rx (opens_now facts.encryption.end) (is_forged_pdu facts)) Good
    (λ no. absurd cc) (λ no. absurd cc)
    facts.event.channel setup.link.fields.access setup.link.fields.crc_init octets good

pub data IsHearing (facts : Facts) (channel : ℕ) (octets : List ℕ) : Type 0 where
  OnAdvertising : IsAdvertisingChannel channel → IsHeardWhole channel advertising_access advertising_crc_init octets
      → IsHearing facts channel octets
  OnLink : (handle : ℕ) (link : OpenLink) → link_listened facts.turn.doing ≡ Some handle
      → link_at handle facts.links ≡ Some link
      → (facts_in link).event.channel ≡ channel
      → IsHeardWhole (facts_in link).event.channel link.setup.link.fields.access link.setup.link.fields.crc_init
      octets → IsHearing facts channel octets

module _ (facts : Facts) (channel : ℕ) (octets : List ℕ) (wanted : facts.wanted ≡ Listens channel) where
  on_advertising : (own : ℕ) → IsAdvertisingChannel own → facts.wanted ≡ Listens own
      → verdict_advertising own octets ≡ Good → IsHearing facts channel octets
  on_advertising own fits listens good =
      let one : Listens own ≡ Listens channel = sym listens ∙ wanted in
      let same : own ≡ channel = cc in
      OnAdvertising (subst IsAdvertisingChannel same fits)
      (subst (λ n. IsHeardWhole n advertising_access advertising_crc_init octets) same
      (good_advertising own octets good))

  on_link : (handle : ℕ) (found : Option OpenLink) → link_listened facts.turn.doing ≡ Some handle
      → link_at handle facts.links ≡ found
      → facts.wanted ≡ listens_on found → verdict_of_link found octets ≡ Good → IsHearing facts channel octets
  on_link handle None listened at listens good = absurd cc
  on_link handle (Some link) listened at listens good =
      let one : Listens (facts_in link).event.channel ≡ Listens channel = sym listens ∙ wanted in
      let same : (facts_in link).event.channel ≡ channel = cc in
      OnLink handle link listened at same (good_on_link link.setup (facts_in link) octets good)

  by_doing : (doing : Doing) → facts.turn.doing ≡ doing → DoingFits doing → IsListening facts doing
      → IsScanning facts doing
      → verdict_doing facts.links doing octets ≡ Good → IsHearing facts channel octets
  by_doing (AwaitsRequest own) is fits listening scanning good = on_advertising own fits listening good
  by_doing (Scans own) is fits listening scanning good = on_advertising own fits scanning good
  by_doing (AwaitsResponse own) is fits listening scanning good = on_advertising own fits scanning good
  by_doing (Initiates own) is fits listening scanning good = on_advertising own fits listening good
  by_doing (CentralListens handle) is fits listening scanning good =
      on_link handle (link_at handle facts.links) (ap link_listened is) refl listening good
  by_doing (PeripheralListens handle) is fits listening scanning good =
      on_link handle (link_at handle facts.links) (ap link_listened is) refl listening good
  by_doing (Advertises own) is fits listening scanning good = absurd cc
  by_doing other is fits listening scanning good = absurd cc

  pub hears : DoingFits facts.turn.doing → IsListening facts facts.turn.doing → IsScanning facts facts.turn.doing
      → verdict_of facts octets ≡ Good
      → IsHearing facts channel octets
  unfolding verdict_of
  hears fits listening scanning good = by_doing facts.turn.doing refl fits listening scanning good
