-- A packet that a controller judges forged leads it nowhere.
use Rattle.std.proofs.Common.{◌≡◌, ℕ, ◌%◌, ◌^◌, ◌+◌, Bool, true, false, Option, Some, None, List, refl, sym, ap, ◌∙◌}
use Rattle.std.specs.Option.{option_map}
use Rattle.air_frame.specs.declared.Heard.{Heard}
use Rattle.air_frame.specs.declared.Heard.TheVariants.{NotOurs, Broken as Faulty, Whole}
use Rattle.ble_base.specs.declared.roles.Role.{Role}
use Rattle.ble_base.specs.declared.roles.Role.TheVariants.{Central, Peripheral}
use Rattle.ble_base.specs.declared.verdicts.Verdict.{Verdict}
use Rattle.ble_base.specs.declared.verdicts.Verdict.TheVariants.{Broken, Forged, Good, Missed}
use Rattle.journal_wants.specs.controller_model.Answers.{next_word}
use Rattle.journal_wants.specs.controller_model.declared.doing.Doing.{Doing}
use Rattle.journal_wants.specs.controller_model.declared.doing.Doing.TheVariants.{Advertises, AwaitsRequest, AwaitsResponse, CentralListens, CentralSends, Connects, Initiates, PeripheralListens, PeripheralSends, Requests, Responds, Rests, Scans}
use Rattle.journal_wants.specs.controller_model.Facts.{Facts, Setup}
use Rattle.journal_wants.specs.controller_model.Heard.{facts_with_words, has_room, heard, replies_in, reply_if}
use Rattle.journal_wants.specs.controller_model.Packets.{heard_on_channel, verdict_by, verdict_doing, verdict_of_link}
use Rattle.journal_wants.specs.controller_model.link_model.Facts.{Facts as EndFacts}
use Rattle.journal_wants.specs.controller_model.link_model.Hosts.{facts_with_words as end_with_words}
use Rattle.journal_wants.specs.controller_model.link_model.Packets.{good_pdu, whole_pdu}
use Rattle.journal_wants.specs.controller_model.link_model.Receiving.{facts_received, has_ended, replies_by, replies_of}
use Rattle.journal_wants.specs.controller_model.link_model.Setup.{Setup as EndSetup}
use Rattle.journal_wants.specs.controller_model.link_model.Step.{WordsGiven}
use Rattle.journal_wants.specs.controller_model.open_links.OpenLinks.{OpenLink, facts_in, link_after, link_at}
use Rattle.journal_wants.specs.run_model.History.{is_good, is_handed}
use Rattle.journal_wants.proofs.journal_acks.HandedOn.{forged_unread}
use Rattle.journal_wants.proofs.journal_acks.open_links.Handles.{changed_is}
use Rattle.journal_wants.proofs.journal_acks.run_laws.Agreed.{step_facts}

pub forged_is : (verdict : Verdict) → is_good verdict ≡ false → is_handed verdict ≡ true → verdict ≡ Forged
forged_is Good bad handed = absurd (let h : true ≡ false = bad in absurd cc)
forged_is Missed bad handed = absurd (let h : false ≡ true = handed in absurd cc)
forged_is Broken bad handed = absurd (let h : false ≡ true = handed in absurd cc)
forged_is Forged bad handed = refl

-- none is forged on an advertising channel
not_forged : (heard : Heard) (X : Type 0) → verdict_by heard ≡ Forged → X
not_forged NotOurs X is = absurd cc
not_forged Faulty X is = absurd cc
not_forged (Whole pdu) X is = absurd cc

unread_by : (role : Role) (ended : Bool) → replies_by role ended None ≡ false
unread_by Central ended = refl
unread_by Peripheral ended = refl

unread_link : (slot : ℕ) (room : Bool) (octets : List ℕ) (link : OpenLink)
    → good_pdu link.setup (facts_in link) octets ≡ None
    → replies_in slot room (Some link) octets ≡ false
unfolding replies_of
unread_link slot room octets link unread =
    let role = link.setup.link.role in
    ap (λ (pdu : Option (List ℕ)). replies_by role
    (has_ended (facts_received role slot room pdu (facts_in link))) pdu) unread
    ∙ unread_by role (has_ended (facts_received role slot room None (facts_in link)))

unread : (slot : ℕ) (room : Bool) (octets : List ℕ) (place : Option OpenLink)
    → ((link : OpenLink) → place ≡ Some link → good_pdu link.setup (facts_in link) octets ≡ None)
    → replies_in slot room place octets ≡ false
unread slot room octets None is = refl
unread slot room octets (Some link) is = unread_link slot room octets link (is link refl)

-- also with the words that a peripheral is given before it hears a packet
words_same : (setup : EndSetup) (facts : EndFacts) (skd_s iv_s : ℕ) (octets : List ℕ)
    → good_pdu setup (end_with_words skd_s iv_s facts) octets ≡ good_pdu setup facts octets
unfolding good_pdu whole_pdu
words_same setup facts skd_s iv_s octets = refl

unread_worded : (slot : ℕ) (room : Bool) (octets : List ℕ) (skd_s iv_s : ℕ) (place : Option OpenLink)
    → ((link : OpenLink) → place ≡ Some link → good_pdu link.setup (facts_in link) octets ≡ None)
    → replies_in slot room (option_map (link_after (WordsGiven skd_s iv_s)) place) octets ≡ false
unread_worded slot room octets skd_s iv_s None is = refl
unread_worded slot room octets skd_s iv_s (Some link) is =
    let worded = link_after (WordsGiven skd_s iv_s) link in
    unread_link slot room octets worded
    (ap (λ facts. good_pdu link.setup facts octets) (step_facts link (WordsGiven skd_s iv_s))
    ∙ words_same link.setup (facts_in link) skd_s iv_s octets ∙ is link refl)

module _ (setup : Setup) (facts : Facts) (octets : List ℕ) where
  of_link : (handle : ℕ) → verdict_of_link (link_at handle facts.links) octets ≡ Forged → (link : OpenLink)
      → link_at handle facts.links ≡ Some link
      → good_pdu link.setup (facts_in link) octets ≡ None
  of_link handle is link at =
      forged_unread link.setup (facts_in link) octets
      (ap (λ (place : Option OpenLink). verdict_of_link place octets) (sym at) ∙ is)

  pub forged_rests : (doing : Doing) → verdict_doing facts.links doing octets ≡ Forged
      → (heard setup doing octets facts).next ≡ Rests
  forged_rests (AwaitsRequest channel) is = not_forged (heard_on_channel channel octets) _ is
  forged_rests (Scans channel) is = not_forged (heard_on_channel channel octets) _ is
  forged_rests (AwaitsResponse channel) is = not_forged (heard_on_channel channel octets) _ is
  forged_rests (Initiates channel) is = not_forged (heard_on_channel channel octets) _ is
  forged_rests (CentralListens handle) is =
      ap (λ replies. reply_if replies handle)
      (unread facts.turn.slot (has_room setup facts) octets (link_at handle facts.links) (of_link handle is))
  forged_rests (PeripheralListens handle) is =
      let now = facts_with_words setup handle facts in
      let skd_s = next_word setup facts.drawn % 2 ^ 64 in
      let iv_s = next_word setup (facts.drawn + 1) % 2 ^ 32 in
      ap (λ replies. reply_if replies handle)
      (ap (λ place. replies_in now.turn.slot (has_room setup now) place octets)
      (changed_is (option_map (link_after (WordsGiven skd_s iv_s))) 0 handle facts.links refl)
      ∙ unread_worded now.turn.slot (has_room setup now) octets skd_s iv_s (link_at handle facts.links)
      (of_link handle is))
  forged_rests (Advertises channel) is = absurd (let h : Missed ≡ Forged = is in absurd cc)
  forged_rests (Requests channel advertiser) is = absurd (let h : Missed ≡ Forged = is in absurd cc)
  forged_rests (CentralSends handle) is = absurd (let h : Missed ≡ Forged = is in absurd cc)
  forged_rests (Connects channel link) is = absurd (let h : Missed ≡ Forged = is in absurd cc)
  forged_rests (PeripheralSends handle) is = absurd (let h : Missed ≡ Forged = is in absurd cc)
  forged_rests (Responds channel) is = absurd (let h : Missed ≡ Forged = is in absurd cc)
  forged_rests Rests is = absurd (let h : Missed ≡ Forged = is in absurd cc)
