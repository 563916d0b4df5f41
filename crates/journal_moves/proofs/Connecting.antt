-- An initiator that hears an advertisement connects by its lines where its controller does, with the same link.
use Rattle.std.proofs.Common.{◌≡◌, ℕ, ◌&&◌, Bool, true, false, not, Option, Some, None, refl, ap, ◌∙◌, if◌then◌else◌}
use Rattle.std.specs.Prelude.{min}
use Rattle.adv_pdu.specs.declared.pdu.AdvPdu.{AdvPdu}
use Rattle.adv_pdu.specs.declared.pdu.ConnectFields.{ConnectFields}
use Rattle.adv_pdu.specs.Pdu.{ch_sel_of, sender_of}
use Rattle.adv_pdu.specs.Ranges.{is_in_range}
use Rattle.ble_base.specs.Limits.{payload_octets}
use Rattle.ble_base.specs.declared.roles.Role.TheVariants.{Central}
use Rattle.ble_base.specs.declared.roles.Side.{Side}
use Rattle.journal.specs.declared.entries.Entry.{Entry}
use Rattle.scan_init.specs.Initiating.{InitiatorFacts, connect_fields, is_accepted}
use Rattle.std.specs.Prelude.{List}
use Rattle.journal_wants.specs.journal_hearings.Openings.{is_linked}
use Rattle.journal_wants.specs.controller_model.declared.doing.Doing.TheVariants.{Rests}
use Rattle.journal_wants.specs.controller_model.Answers.{next_word}
use Rattle.journal_wants.specs.controller_model.Facts.{Facts, Setup}
use Rattle.journal_wants.specs.controller_model.Heard.{connects, fields_sent, initiator_heard, link_if, link_under, link_wanted, link_with, next_access_of}
use Rattle.journal_wants.specs.controller_model.link_model.declared.setup.LinkSetup.{LinkSetup}
use Rattle.journal_wants.specs.controller_model.open_links.OpenLinks.{free_from, has_link_between}
use Rattle.journal_wants.specs.journal_controls.journal_ends.Asked.{Words}
use Rattle.journal_wants.specs.journal_data.Held.{links_open}
use Rattle.journal_wants.specs.Station.{Setups, Station}
use Rattle.journal_wants.proofs.HostSet.{HostSet, IsSetAs}
use Rattle.journal_moves.specs.Doing.{access_next, connects_by, fields_by, free_under, initiator_hears, link_by}

connects_same : (link : Option LinkSetup) (setup : Setup) (channel : ℕ) (facts : Facts)
    → connects_by link channel ≡ (connects link setup channel facts).next
connects_same None setup channel facts = refl
connects_same (Some link) setup channel facts = refl

module _ (words : Words) (setups : Setups) (side : Side) (front : List Entry) (said : Station) (setup : Setup)
    (facts : Facts) (set : IsSetAs said facts)
    -- its host takes packets of the same length
    (acl_length : said.view.flow.acl_length ≡ facts.view.flow.acl_length)
    -- by the lines it has the same links, the same next access address, and the same free handle
    (linked : (on : InitiatorFacts) (pdu : AdvPdu)
    → is_linked side on.params.own (sender_of pdu) front ≡ has_link_between on.params.own (sender_of pdu) facts.links)
    (access : access_next (setups side) side front ≡ next_access_of setup facts)
    (handle : free_under (setups side).links 0 (links_open side front) ≡ free_from 0 facts.links)
    -- and it draws the same random word
    (word : (on : InitiatorFacts) (one map : ℕ)
    → connect_fields on.params.link one (words side front).skd_s map
    ≡ connect_fields on.params.link one (next_word setup facts.drawn) map) where
  fields_same : (on : InitiatorFacts) (one : ℕ)
      → fields_by on one (words side front).skd_s said.view.map ≡ fields_sent setup on one facts
  fields_same on one =
      ap (λ (fields : ConnectFields). record fields { sca = 0 })
      (word on one said.view.map
      ∙ ap (λ (host : HostSet). connect_fields on.params.link one (next_word setup facts.drawn) host.map) set.set)

  made : (on : InitiatorFacts) (pdu : AdvPdu) (one under : ℕ)
      → link_by (Some one) (Some under) on (words side front).skd_s said.view pdu
      ≡ link_under (Some under) setup on pdu one facts
  made on pdu one under =
      let fields = fields_same on one in
      λ i. link_if (is_in_range (fields i)) (record {
        role = Central;
        handle = under;
        own = on.params.own;
        peer = sender_of pdu;
        fields = fields i;
        two = ch_sel_of pdu;
        max_rx = min payload_octets (acl_length i);
      })

  by_handle : (on : InitiatorFacts) (pdu : AdvPdu) (one : ℕ) (found : Option ℕ)
      → link_by (Some one) found on (words side front).skd_s said.view pdu ≡ link_under found setup on pdu one facts
  by_handle on pdu one None = refl
  by_handle on pdu one (Some under) = made on pdu one under

  by_access : (on : InitiatorFacts) (pdu : AdvPdu) (found : Option ℕ)
      → link_by found (free_from 0 facts.links) on (words side front).skd_s said.view pdu
      ≡ link_with found setup on pdu facts
  by_access on pdu None = refl
  by_access on pdu (Some one) = by_handle on pdu one (free_from 0 facts.links)

  link_same : (on : InitiatorFacts) (pdu : AdvPdu)
      → link_by (access_next (setups side) side front) (free_under (setups side).links 0 (links_open side front)) on
      (words side front).skd_s said.view pdu
      ≡ link_with (next_access_of setup facts) setup on pdu facts
  link_same on pdu = (λ i. link_by (access i) (handle i) on (words side front).skd_s said.view pdu)
      ∙ by_access on pdu (next_access_of setup facts)

  wanted_same : (wanted : Bool) (on : InitiatorFacts) (channel : ℕ) (pdu : AdvPdu)
      → (if wanted
      then connects_by (link_by (access_next (setups side) side front)
      (free_under (setups side).links 0 (links_open side front)) on
      (words side front).skd_s said.view pdu) channel
      else Rests)
      ≡ (connects (link_wanted wanted setup on pdu facts) setup channel facts).next
  wanted_same true on channel pdu =
      ap (λ link. connects_by link channel) (link_same on pdu)
      ∙ connects_same (link_with (next_access_of setup facts) setup on pdu facts) setup channel facts
  wanted_same false on channel pdu = refl

  sought_by : (found : Option InitiatorFacts) (channel : ℕ) (pdu : AdvPdu)
      → initiator_hears words setups side front said found channel pdu
      ≡ (initiator_heard found setup channel pdu facts).next
  sought_by None channel pdu = refl
  sought_by (Some on) channel pdu =
      (λ i. if is_accepted on.params (set.set i).accepted pdu && not (linked on pdu i)
      then connects_by (link_by (access_next (setups side) side front)
      (free_under (setups side).links 0 (links_open side front)) on
      (words side front).skd_s said.view pdu) channel
      else Rests)
      ∙ wanted_same (is_accepted on.params facts.view.accepted pdu && not
      (has_link_between on.params.own (sender_of pdu) facts.links)) on channel pdu

  pub connects_as : (channel : ℕ) (pdu : AdvPdu)
      → initiator_hears words setups side front said said.initiator channel pdu
      ≡ (initiator_heard facts.initiator setup channel pdu facts).next
  connects_as channel pdu =
      ap (λ found. initiator_hears words setups side front said found channel pdu) set.initiator
      ∙ sought_by facts.initiator channel pdu
