-- What a side that listens makes of the octets that reach it is what the lines say of it.
use Rattle.std.proofs.Common.{◌≡◌, ℕ, Option, Some, None, List, refl, sym, ap, ◌∙◌}
use Rattle.air_frame.specs.Hearing.{heard_in}
use Rattle.ble_base.specs.declared.roles.Side.{Side}
use Rattle.journal.specs.declared.entries.Entry.{Entry}
use Rattle.journal_sealing.specs.Forged.{is_wrong}
use Rattle.journal_sealing.proofs.Judged.{forged_as}
use Rattle.journal_wants.specs.controller_model.declared.doing.Doing.{Doing}
use Rattle.journal_wants.specs.controller_model.declared.doing.Doing.TheVariants.{AwaitsRequest, AwaitsResponse, CentralListens, Initiates, PeripheralListens, Scans}
use Rattle.journal_wants.specs.controller_model.Packets.{verdict_advertising, verdict_doing, verdict_of_link}
use Rattle.journal_wants.specs.controller_model.link_model.Facts.{keyed_of}
use Rattle.journal_wants.specs.controller_model.link_model.Packets.{heard_of, verdict_of as end_verdict}
use Rattle.journal_wants.specs.controller_model.link_model.Payload.{opens_now}
use Rattle.journal_wants.specs.controller_model.link_model.Verdicts.{verdict_by}
use Rattle.journal_wants.specs.controller_model.open_links.OpenLinks.{Links, OpenLink, facts_in, link_at}
use Rattle.journal_wants.specs.journal_acks.Counted.{IsCounted}
use Rattle.journal_wants.specs.journal_acks.Exchange.{exchange_of}
use Rattle.journal_wants.specs.journal_controls.LineSteps.{keyed_on}
use Rattle.journal_wants.specs.journal_controls.host_answers.Flows.{most_received_on}
use Rattle.journal_wants.specs.journal_controls.journal_ends.Asked.{Words}
use Rattle.journal_wants.specs.journal_data.Held.{links_open}
use Rattle.journal_wants.specs.journal_data.HostLines.{link_under}
use Rattle.journal_wants.specs.journal_links.Begun.{LinkBegun, link_numbered}
use Rattle.journal_moves.specs.Moves.{channel_listening, channel_under}
use Rattle.journal_moves.specs.Verdicts.{opens_with, verdict_at_end, verdict_listening, verdict_on}

-- ---- an end

-- the lines have of an open end what it judges by
pub record IsOfLines (words : Words) (side : Side) (front : List Entry) (channel number : ℕ) (link : OpenLink)
    : Type 0 where
  pub begun : LinkBegun
  pub is_link : link_numbered number front ≡ Some begun
  pub fields : begun.fields ≡ link.setup.link.fields
  pub keyed : keyed_on words side number front ≡ Some (keyed_of (facts_in link))
  pub counted : IsCounted (exchange_of number front side) (facts_in link).acknowledgement
  pub most : most_received_on side front ≡ link.setup.link.max_rx
  pub channel_is : (facts_in link).event.channel ≡ channel

end_judges : (words : Words) (side : Side) (front : List Entry) (channel number : ℕ) (link : OpenLink)
    (octets : List ℕ) → IsOfLines words side front channel number link
    → end_verdict link.setup (facts_in link) octets ≡ verdict_on words side front channel octets (Some number)
unfolding end_verdict
end_judges words side front channel number link octets is =
    let end = exchange_of number front side in
    let facts = facts_in link in
    let keyed = Some (keyed_of facts) in
    (λ i. verdict_by link.setup.link.max_rx (opens_now facts.encryption.end)
    (λ pdu. forged_as end facts pdu is.counted i) (heard_of link.setup facts octets))
    ∙ (λ i. verdict_by link.setup.link.max_rx (opens_with keyed) (is_wrong keyed end)
    (heard_in (is.channel_is i) (sym is.fields i).access (sym is.fields i).crc_init octets))
    ∙ sym (λ i. verdict_at_end (is.most i) (is.is_link i) (is.keyed i) end channel octets)

-- ---- a side

module _ (words : Words) (side : Side) (front : List Entry) (channel : ℕ) (links : Links) (number_of : ℕ → ℕ)
    (none : (handle : ℕ) (X : Type 0) → link_at handle links ≡ None
    → channel_under side front handle ≡ Some channel → X)
    (under : (handle : ℕ) (link : OpenLink) → link_at handle links ≡ Some link
    → link_under handle (links_open side front) ≡ Some (number_of handle))
    (ends : (handle : ℕ) (link : OpenLink) → link_at handle links ≡ Some link
    → channel_under side front handle ≡ Some channel → IsOfLines words side front channel (number_of handle) link)
    (octets : List ℕ) where
  open_judges : (due : ℕ) → Some due ≡ Some channel
      → verdict_advertising due octets ≡ verdict_advertising channel octets
  open_judges due on = let same : due ≡ channel = cc in ap (λ n. verdict_advertising n octets) same

  link_judges : (handle : ℕ) (found : Option OpenLink) → link_at handle links ≡ found
      → channel_under side front handle ≡ Some channel
      → verdict_of_link found octets
      ≡ verdict_on words side front channel octets (link_under handle (links_open side front))
  link_judges handle None at on = none handle _ at on
  link_judges handle (Some link) at on =
      end_judges words side front channel (number_of handle) link octets (ends handle link at on)
      ∙ ap (verdict_on words side front channel octets) (sym (under handle link at))

  pub listener_judges : (doing : Doing) → channel_listening side front doing ≡ Some channel
      → verdict_doing links doing octets ≡ verdict_listening words side front channel octets doing
  listener_judges (Scans due) on = open_judges due on
  listener_judges (Initiates due) on = open_judges due on
  listener_judges (AwaitsRequest due) on = open_judges due on
  listener_judges (AwaitsResponse due) on = open_judges due on
  listener_judges (PeripheralListens handle) on = link_judges handle (link_at handle links) refl on
  listener_judges (CentralListens handle) on = link_judges handle (link_at handle links) refl on
  listener_judges other on = absurd (let h : None ≡ Some channel = on in absurd cc)
