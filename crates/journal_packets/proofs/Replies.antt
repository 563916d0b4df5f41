-- What a controller sends on its links: a central sends first in a turn, and a peripheral answers what it received.
use Rattle.std.proofs.Common.{◌≡◌, ℕ, zero, suc, ◌&&◌, Bool, true, false, Option, Some, None, List, take, refl, sym, ap, subst, ◌∙◌, arith}
use Rattle.std.specs.Prelude.{⊤, is_none, is_some, if◌then◌else◌}
use Rattle.std.specs.Option.{option_map}
use Rattle.std.specs.Str.{bytes_eq}
use Rattle.std.proofs.lemmas.Bool.{and_parts}
use Rattle.std.proofs.lemmas.Slice.Eq.{bytes_eq-Decides}
use Rattle.ble_base.specs.declared.addresses.Address.{Address}
use Rattle.ble_base.specs.declared.roles.Role.{Role}
use Rattle.ble_base.specs.declared.roles.Role.TheVariants.{Central, Peripheral}
use Rattle.adv_pdu.specs.declared.pdu.AdvPdu.{AdvPdu}
use Rattle.adv_pdu.specs.declared.pdu.ConnectFields.{ConnectFields}
use Rattle.advertise.specs.declared.answers.AdvAnswer.{AdvAnswer}
use Rattle.advertise.specs.declared.answers.AdvAnswer.TheVariants.{Ignore, Respond, Connect as Takes}
use Rattle.advertise.specs.Advertising.{AdvertiserFacts}
use Rattle.advertise.specs.Answers.{advertiser_answer}
use Rattle.ble_base.specs.declared.verdicts.Verdict.TheVariants.{Broken as IsBroken, Forged, Good}
use Rattle.air_frame.specs.declared.Heard.{Heard}
use Rattle.air_frame.specs.declared.Heard.TheVariants.{NotOurs, Broken, Whole}
use Rattle.air_frame.specs.Hearing.{heard_in}
use Rattle.air_frame.specs.Packet.{access_octets, is_packet, pdu_in}
use Rattle.journal_links.specs.link_model.Receiving.{replies_by, replies_of}
use Rattle.journal_links.specs.link_model.Facts.{Facts as EndFacts}
use Rattle.journal_links.specs.link_model.Verdicts.{has_room_for, pdu_by, verdict_by, whole_in}
use Rattle.journal_links.specs.link_model.Packets.{good_pdu, heard_of, is_forged_pdu, packet_sent, pdu_read, pdu_read_in, verdict_of, whole_pdu}
use Rattle.journal_links.specs.link_model.Payload.{opens_now}
use Rattle.journal_links.specs.link_model.Setup.{Setup as EndSetup}
use Rattle.journal_links.specs.link_model.Step.{Step as EndStep, PacketSent, PacketReceived, WordsGiven}
use Rattle.journal_links.specs.link_model.declared.setup.LinkSetup.{LinkSetup}
use Rattle.scan_init.specs.Initiating.{InitiatorFacts}
use Rattle.scan_init.specs.Reports.{ScannerFacts, does_ask, scan_answer}
use Rattle.journal_links.specs.open_links.Keys.{links_with_words}
use Rattle.journal_links.specs.open_links.OpenLinks.{Links, OpenLink, facts_in, free_from, link_after, link_at, with_change}
use Rattle.journal_links.proofs.open_links.Handles.{changed_is}
use Rattle.journal_links.specs.controller_model.declared.doing.Doing.{Doing}
use Rattle.journal_links.specs.controller_model.declared.doing.Doing.TheVariants.{Advertises, AwaitsRequest, Scans, Requests, AwaitsResponse, Initiates}
use Rattle.journal_links.specs.controller_model.declared.doing.Doing.TheVariants.{Connects, CentralSends, CentralListens, PeripheralListens, PeripheralSends}
use Rattle.journal_links.specs.controller_model.Facts.{Setup, Facts, Sends, Listens}
use Rattle.journal_links.specs.controller_model.Heard.{advertiser_answers, advertiser_heard, asks_if, connects, facts_with_words, has_room, heard, if_pdu, initiator_heard}
use Rattle.journal_links.specs.controller_model.Heard.{link_heard, link_received, link_to, replies_in, reply_if, scanner_heard, taken_if, taken_under, unheard}
use Rattle.journal_links.specs.controller_model.Outcome.{Outcome, facts_passed}
use Rattle.journal_links.specs.controller_model.Packets.{facts_doing, listens_on, pdu_heard, sends_on, verdict_doing, verdict_of as verdict_of_side, verdict_of_link}
use Rattle.journal_links.specs.controller_model.Sent.{SendsOn}
use Rattle.journal_links.specs.controller_model.Side.{facts_after}
use Rattle.journal_links.proofs.controller_model.Places.{link_receiving, receiving_is, refusal_at, refused_if}
use Rattle.journal_links.specs.run_model.History.{Event, past_of, turns_begun}
use Rattle.journal_links.specs.run_model.Run.{Given, facts_at, setup_at, step_of}
use Rattle.journal_links.proofs.run_model.Handing.{IsUnforged}
use Rattle.journal_links.proofs.run_model.Stations.{is_in}
use Rattle.journal_links.proofs.run_model.Walk.{Place}
use Rattle.journal_links.proofs.run_laws.Agreed.{step_facts}
use Rattle.journal_links.proofs.run_laws.Entering.{IsInTurn}
use Rattle.journal_links.proofs.run_laws.LinkPhases.{HasRole, IsAtStage, IsInPhase, phased_at}
use Rattle.journal_links.specs.run_laws.Ends.{link_listened}
use Rattle.journal_links.proofs.run_laws.OwnLinks.{sent_begins, unforged_there}
use Rattle.journal_links.proofs.run_laws.TwoEnds.{verdict_worded}
use Rattle.journal_links.proofs.run_laws.TurnPlaces.{AllStand, Between, Stage, Within, stands_at}
use Rattle.journal_links.proofs.run_laws.TurnSteps.{IsListening}

-- ---- the access address of a packet

whole_begins : (max_rx : ℕ) (opens : Bool) (channel access init : ℕ) (octets : List ℕ) → is_some (whole_in max_rx opens (heard_in channel access init octets)) ≡ true → take 4 octets ≡ access_octets access
unfolding heard_in
whole_begins max_rx opens channel access init octets good = by (bytes_eq (take 4 octets) (access_octets access)) refl good
  where
    by : (same : Bool) → bytes_eq (take 4 octets) (access_octets access) ≡ same
        → is_some (whole_in max_rx opens (if same then (if is_packet channel access init octets then Whole (record { items = pdu_in channel octets }) else Broken) else NotOurs)) ≡ true
        → take 4 octets ≡ access_octets access
    by true same some = (bytes_eq-Decides (take 4 octets) (access_octets access)).0 same
    by false same some = absurd cc

-- a good packet is a whole one
good_is_whole : (facts : EndFacts) (found : Option (List ℕ)) → is_some (pdu_read_in facts found) ≡ true → is_some found ≡ true
good_is_whole facts None is = absurd (let h : false ≡ true = is in absurd cc)
good_is_whole facts (Some pdu) is = refl

-- a peripheral answers packets that begin with the access address of its link
replied_by : (role : Role) (ended : Bool) (setup : EndSetup) (facts : EndFacts) (octets : List ℕ) → setup.link.role ≡ role
    → replies_by role ended (good_pdu setup facts octets) ≡ true → (setup.link.role ≡ Peripheral) × (take 4 octets ≡ access_octets setup.link.fields.access)
unfolding good_pdu whole_pdu
replied_by Central ended setup facts octets is replies = absurd cc
replied_by Peripheral ended setup facts octets is replies =
    let opens = opens_now facts.encryption.end in (
      is,
      whole_begins setup.link.max_rx opens facts.event.channel setup.link.fields.access setup.link.fields.crc_init octets
          (good_is_whole facts (whole_in setup.link.max_rx opens (heard_of setup facts octets)) (and_parts _ _ replies).0),
    )

-- and they are not forged
good_is_genuine : (setup : EndSetup) (facts : EndFacts) (octets : List ℕ) → is_some (good_pdu setup facts octets) ≡ true → verdict_of setup facts octets ≡ Forged → ⊥
unfolding good_pdu whole_pdu verdict_of
good_is_genuine setup facts octets = by (heard_of setup facts octets)
  where
    does_open : Bool
    does_open = opens_now facts.encryption.end

    of : (read : Option (List ℕ)) → is_some read ≡ true → (if is_none read then Forged else Good) ≡ Forged → ⊥
    of None some forged = absurd cc
    of (Some pdu) some forged = absurd cc

    at : (fits : Bool) (pdu : List ℕ) → is_some (pdu_read_in facts (pdu_by fits pdu)) ≡ true
        → (if fits then (if is_forged_pdu facts pdu then Forged else Good) else IsBroken) ≡ Forged → ⊥
    at true pdu some forged = of (pdu_read facts pdu) some forged
    at false pdu some forged = absurd cc

    by : (heard : Heard) → is_some (pdu_read_in facts (whole_in setup.link.max_rx does_open heard)) ≡ true
        → verdict_by setup.link.max_rx does_open (is_forged_pdu facts) heard ≡ Forged → ⊥
    by NotOurs some forged = absurd cc
    by Broken some forged = absurd cc
    by (Whole pdu) some forged = at (has_room_for setup.link.max_rx does_open pdu.items) pdu.items some forged

genuine_by : (role : Role) (ended : Bool) (setup : EndSetup) (facts : EndFacts) (octets : List ℕ) → replies_by role ended (good_pdu setup facts octets) ≡ true
    → verdict_of setup facts octets ≡ Forged → ⊥
genuine_by Central ended setup facts octets replies = absurd cc
genuine_by Peripheral ended setup facts octets replies = good_is_genuine setup facts octets (and_parts _ _ replies).0

replied_genuine : (setup : EndSetup) (facts : EndFacts) (slot : ℕ) (octets : List ℕ) (room : Bool) → replies_of setup facts slot octets room ≡ true
    → verdict_of setup facts octets ≡ Forged → ⊥
unfolding replies_of
replied_genuine setup facts slot octets room replies = genuine_by setup.link.role _ setup facts octets replies

replied : (setup : EndSetup) (facts : EndFacts) (slot : ℕ) (octets : List ℕ) (room : Bool) → replies_of setup facts slot octets room ≡ true
    → (setup.link.role ≡ Peripheral) × (take 4 octets ≡ access_octets setup.link.fields.access)
unfolding replies_of
replied setup facts slot octets room replies = replied_by setup.link.role _ setup facts octets refl replies

-- ---- what comes of a phase

-- it is to send on a link
abbrev pub is_to_send : Doing → Bool
is_to_send (CentralSends handle) = true
is_to_send (PeripheralSends handle) = true
is_to_send other = false

-- it is to answer on a link what it received
pub record IsReply (facts : Facts) (received : Option (List ℕ)) (after : Facts) : Type 0 where
  pub handle : ℕ
  pub doing : after.turn.doing ≡ PeripheralSends handle
  pub link : OpenLink
  pub octets : List ℕ
  pub was : received ≡ Some octets
  pub unforged : IsUnforged facts octets
  pub listened : facts.wanted ≡ Listens (facts_in link).event.channel
  pub begins : take 4 octets ≡ access_octets link.setup.link.fields.access
  pub answers : (channel : ℕ) (sent : List ℕ) → after.wanted ≡ Sends channel sent → take 4 sent ≡ access_octets link.setup.link.fields.access
  pub role : (one : OpenLink) → link_at handle after.links ≡ Some one → one.setup.link.role ≡ Peripheral

pub data IsLeft (facts : Facts) (received : Option (List ℕ)) (after : Facts) : Type 0 where
  Silent : is_to_send after.turn.doing ≡ false → IsLeft facts received after
  Replies : IsReply facts received after → IsLeft facts received after

change_at : (handle : ℕ) (change : OpenLink → OpenLink) (links : Links) (link : OpenLink) → link_at handle links ≡ Some link
    → link_at handle (with_change handle change links) ≡ Some (change link)
change_at handle change links link at = changed_is (option_map change) 0 handle links refl ∙ ap (option_map change) at

pub receiving_setup : (handle : ℕ) (room : Bool) (octets : List ℕ) (facts : Facts) (link : OpenLink) → (link_receiving handle room octets facts link).setup ≡ link.setup
receiving_setup handle room octets facts link = by (refusal_at handle room octets facts)
  where
    by : (refusal : Option EndStep) → (refused_if refusal (link_after (PacketReceived facts.turn.slot octets room) link)).setup ≡ link.setup
    by None = refl
    by (Some step) = refl

module _ (setup : Setup) (facts : Facts) (handle : ℕ) (octets : List ℕ) (listens : facts.wanted ≡ listens_on (link_at handle facts.links))
    (on : link_listened facts.turn.doing ≡ Some handle) where
  abbrev room : Bool
  room = has_room setup facts

  reply_is : (found : Option OpenLink) → link_at handle facts.links ≡ found → replies_in facts.turn.slot room found octets ≡ true
      → IsReply facts (Some octets) (facts_doing (PeripheralSends handle) (link_received handle room octets facts))
  reply_is None at replies = absurd cc
  reply_is (Some link) at replies =
      let took = link_receiving handle room octets facts link in
      let same_setup = receiving_setup handle room octets facts link in
      let told = replied link.setup (facts_in link) facts.turn.slot octets room replies in
      let now = ap (link_at handle) (receiving_is handle room octets facts) ∙ change_at handle (link_receiving handle room octets facts) facts.links link at in
      let after = change_at handle (link_after (PacketSent facts.turn.slot)) (link_received handle room octets facts).links took now in record {
        handle = handle;
        doing = refl;
        link = link;
        octets = octets;
        was = refl;
        unforged = unforged_there facts handle link octets on at (replied_genuine link.setup (facts_in link) facts.turn.slot octets room replies);
        listened = listens ∙ ap listens_on at;
        begins = told.1;
        answers = λ channel sent is.
            let one : Sends (facts_in took).event.channel (packet_sent took.setup (facts_in took)) ≡ Sends channel sent = sym (ap sends_on now) ∙ is in
            let same : packet_sent took.setup (facts_in took) ≡ sent = cc in
            ap (take 4) (sym same) ∙ sent_begins took.setup (facts_in took) ∙ ap (λ (end : EndSetup). access_octets end.link.fields.access) same_setup;
        role = λ one is.
            let two : Some (link_after (PacketSent facts.turn.slot) took) ≡ Some one = sym after ∙ is in
            let same : link_after (PacketSent facts.turn.slot) took ≡ one = cc in
            subst (λ (l : OpenLink). l.setup.link.role ≡ Peripheral) same (ap (λ (end : EndSetup). end.link.role) same_setup ∙ told.0);
      }

  reply_by : (replies : Bool) → replies_in facts.turn.slot room (link_at handle facts.links) octets ≡ replies
      → IsLeft facts (Some octets) (facts_doing (reply_if replies handle) (link_received handle room octets facts))
  reply_by false is = Silent refl
  reply_by true is = Replies (reply_is (link_at handle facts.links) refl is)

  link_left : IsLeft facts (Some octets) (facts_passed (link_heard setup handle octets facts))
  link_left = reply_by (replies_in facts.turn.slot room (link_at handle facts.links) octets) refl

-- a peripheral is given words before it hears the packet, which change neither its channel nor its access address
same_left : (facts other after : Facts) (received : Option (List ℕ)) → other.wanted ≡ facts.wanted
    → ((octets : List ℕ) → IsUnforged other octets → IsUnforged facts octets) → IsLeft other received after → IsLeft facts received after
same_left facts other after received same unforged (Silent none) = Silent none
same_left facts other after received same unforged (Replies is) = Replies (record {
  handle = is.handle;
  doing = is.doing;
  link = is.link;
  octets = is.octets;
  was = is.was;
  unforged = unforged is.octets is.unforged;
  listened = sym same ∙ is.listened;
  begins = is.begins;
  answers = is.answers;
  role = is.role;
})

words_listen : (skd_s iv_s handle : ℕ) (links : Links) → listens_on (link_at handle (links_with_words handle skd_s iv_s links)) ≡ listens_on (link_at handle links)
words_listen skd_s iv_s handle links = ap listens_on (changed_is (option_map (link_after (WordsGiven skd_s iv_s))) 0 handle links refl) ∙ by (link_at handle links)
  where
    by : (found : Option OpenLink) → listens_on (option_map (link_after (WordsGiven skd_s iv_s)) found) ≡ listens_on found
    by None = refl
    by (Some link) = ap (λ (f : EndFacts). Listens f.event.channel) (step_facts link (WordsGiven skd_s iv_s))

-- nor what it judges
words_judge : (skd_s iv_s handle : ℕ) (links : Links) (octets : List ℕ)
    → verdict_of_link (link_at handle (links_with_words handle skd_s iv_s links)) octets ≡ verdict_of_link (link_at handle links) octets
words_judge skd_s iv_s handle links octets =
    ap (λ (found : Option OpenLink). verdict_of_link found octets) (changed_is (option_map (link_after (WordsGiven skd_s iv_s))) 0 handle links refl)
    ∙ by (link_at handle links)
  where
    by : (found : Option OpenLink) → verdict_of_link (option_map (link_after (WordsGiven skd_s iv_s)) found) octets ≡ verdict_of_link found octets
    by None = refl
    by (Some link) =
        ap (λ (f : EndFacts). verdict_of link.setup f octets) (step_facts link (WordsGiven skd_s iv_s))
        ∙ verdict_worded link.setup (facts_in link) skd_s iv_s octets

worded_unforged : (setup : Setup) (facts : Facts) (handle : ℕ) (octets : List ℕ) → facts.turn.doing ≡ PeripheralListens handle
    → IsUnforged (facts_with_words setup handle facts) octets → IsUnforged facts octets
unfolding verdict_of_side
worded_unforged setup facts handle octets doing unforged = λ forged.
    let heard = facts_with_words setup handle facts in
    unforged (ap (λ (d : Doing). verdict_doing heard.links d octets) doing ∙ words_judge _ _ handle facts.links octets
    ∙ sym (ap (λ (d : Doing). verdict_doing facts.links d octets) doing) ∙ forged)

worded_left : (setup : Setup) (facts : Facts) (handle : ℕ) (octets : List ℕ) → facts.wanted ≡ listens_on (link_at handle facts.links)
    → facts.turn.doing ≡ PeripheralListens handle
    → IsLeft facts (Some octets) (facts_passed (link_heard setup handle octets (facts_with_words setup handle facts)))
worded_left setup facts handle octets listens doing =
    let heard = facts_with_words setup handle facts in
    same_left facts heard _ (Some octets) refl (λ xs. worded_unforged setup facts handle xs doing)
    (link_left setup heard handle octets (listens ∙ sym (words_listen _ _ handle facts.links)) (ap link_listened doing))

-- ---- nothing else sends on a link next

abbrev IsSilent : Outcome → Type 0
IsSilent outcome = is_to_send outcome.next ≡ false

unheard_silent : (doing : Doing) (facts : Facts) → IsSilent (unheard doing facts)
unheard_silent (Advertises channel) facts = refl
unheard_silent (Requests channel advertiser) facts = refl
unheard_silent (Connects channel link) facts = refl
unheard_silent (CentralSends handle) facts = refl
unheard_silent other facts = refl

under_silent : (free : Option ℕ) (own : Address) (pdu : AdvPdu) (fields : ConnectFields) (facts : Facts) → IsSilent (taken_under free own pdu fields facts)
under_silent None own pdu fields facts = refl
under_silent (Some handle) own pdu fields facts = refl

if_silent : (new : Bool) (own : Address) (pdu : AdvPdu) (fields : ConnectFields) (facts : Facts) → IsSilent (taken_if new own pdu fields facts)
if_silent false own pdu fields facts = refl
if_silent true own pdu fields facts = under_silent (free_from 0 facts.links) own pdu fields facts

answers_silent : (answer : AdvAnswer) (channel : ℕ) (own : Address) (pdu : AdvPdu) (facts : Facts) → IsSilent (advertiser_answers answer channel own pdu facts)
answers_silent Ignore channel own pdu facts = refl
answers_silent Respond channel own pdu facts = refl
answers_silent (Takes fields) channel own pdu facts = if_silent _ own pdu fields facts

advertiser_silent : (on : Option AdvertiserFacts) (channel : ℕ) (pdu : AdvPdu) (facts : Facts) → IsSilent (advertiser_heard on channel pdu facts)
advertiser_silent None channel pdu facts = refl
advertiser_silent (Some on) channel pdu facts = answers_silent (advertiser_answer on.params facts.view.accepted pdu) channel on.params.own pdu facts

asks_silent : (asks : Bool) (channel : ℕ) (pdu : AdvPdu) → is_to_send (asks_if asks channel pdu) ≡ false
asks_silent true channel pdu = refl
asks_silent false channel pdu = refl

scanner_silent : (on : Option ScannerFacts) (may_ask : Bool) (channel : ℕ) (pdu : AdvPdu) (facts : Facts) → IsSilent (scanner_heard on may_ask channel pdu facts)
scanner_silent None may_ask channel pdu facts = refl
scanner_silent (Some on) may_ask channel pdu facts = asks_silent (may_ask && does_ask (scan_answer on.params facts.view.accepted on.recent pdu)) channel pdu

connects_silent : (link : Option LinkSetup) (setup : Setup) (channel : ℕ) (facts : Facts) → IsSilent (connects link setup channel facts)
connects_silent None setup channel facts = refl
connects_silent (Some link) setup channel facts = refl

initiator_silent : (on : Option InitiatorFacts) (setup : Setup) (channel : ℕ) (pdu : AdvPdu) (facts : Facts) → IsSilent (initiator_heard on setup channel pdu facts)
initiator_silent None setup channel pdu facts = refl
initiator_silent (Some on) setup channel pdu facts = connects_silent (link_to setup on pdu facts) setup channel facts

pdu_silent : (found : Option AdvPdu) (facts : Facts) (outcome : AdvPdu → Outcome) → ((pdu : AdvPdu) → IsSilent (outcome pdu)) → IsSilent (if_pdu found facts outcome)
pdu_silent None facts outcome some = refl
pdu_silent (Some pdu) facts outcome some = some pdu

heard_left : (setup : Setup) (facts : Facts) (octets : List ℕ) (doing : Doing) → facts.turn.doing ≡ doing → IsListening facts doing → IsLeft facts (Some octets) (facts_passed (heard setup doing octets facts))
heard_left setup facts octets (AwaitsRequest channel) does listens =
    Silent (pdu_silent (pdu_heard channel octets) facts _ (λ pdu. advertiser_silent facts.advertising.on channel pdu facts))
heard_left setup facts octets (Scans channel) does listens =
    Silent (pdu_silent (pdu_heard channel octets) facts _ (λ pdu. scanner_silent facts.scanning.on true channel pdu facts))
heard_left setup facts octets (AwaitsResponse channel) does listens =
    Silent (pdu_silent (pdu_heard channel octets) facts _ (λ pdu. scanner_silent facts.scanning.on false channel pdu facts))
heard_left setup facts octets (Initiates channel) does listens =
    Silent (pdu_silent (pdu_heard channel octets) facts _ (λ pdu. initiator_silent facts.initiator setup channel pdu facts))
heard_left setup facts octets (CentralListens handle) does listens = link_left setup facts handle octets listens (ap link_listened does)
heard_left setup facts octets (PeripheralListens handle) does listens = worded_left setup facts handle octets listens does
heard_left setup facts octets (Advertises channel) does listens = Silent (unheard_silent (Advertises channel) facts)
heard_left setup facts octets doing does listens = Silent (unheard_silent doing facts)

pub phase_left : (setup : Setup) (facts : Facts) (received : Option (List ℕ)) → IsListening facts facts.turn.doing
    → IsLeft facts received (facts_after setup facts (step_of received))
phase_left setup facts None listens = Silent (unheard_silent facts.turn.doing facts)
phase_left setup facts (Some octets) listens = heard_left setup facts octets facts.turn.doing refl listens

-- ---- at any time in a turn

abbrev NotCentral : Doing → Type 0
NotCentral (CentralSends handle) = ⊥
NotCentral other = ⊤

-- a central sends in the first phase
abbrev pub IsFirst : Stage → Doing → Type 0
IsFirst (Within (suc phases)) doing = NotCentral doing
IsFirst stage doing = ⊤

pub record IsSending (setup : Setup) (stage : Stage) (begun : ℕ) (facts : Facts) : Type 0 where
  pub in_turn : IsInTurn setup stage begun facts
  phase : IsAtStage stage facts.links facts.turn.doing
  pub first : IsFirst stage facts.turn.doing

later_first : (phases : ℕ) (links : Links) (doing : Doing) → IsInPhase (suc phases) links doing → NotCentral doing
later_first phases links (CentralSends handle) is = let none = is.0 in omega (arith, none)
later_first phases links (Advertises channel) is = tt
later_first phases links other is = tt

is_first : (stage : Stage) (links : Links) (doing : Doing) → IsAtStage stage links doing → IsFirst stage doing
is_first Between links doing is = tt
is_first (Within zero) links doing is = tt
is_first (Within (suc phases)) links doing is = later_first phases links doing is

pub sending_at : (given : Given) (place : Place) (history : List Event) → AllStand given place history → (station : ℕ) → is_in station given.stations ≡ true
    → IsSending (setup_at given station) (stands_at place station (turns_begun history)).stage (stands_at place station (turns_begun history)).begun (facts_at given station history)
sending_at given place history stand station is =
    let at = stands_at place station (turns_begun history) in
    let facts = facts_at given station history in
    let phased = phased_at (setup_at given station) (past_of station history) at (stand station is) in
    record { in_turn = phased.in_turn; phase = phased.phase; first = is_first at.stage facts.links facts.turn.doing phased.phase }

-- ---- who sends on a link

pub data IsSender (facts : Facts) (handle : ℕ) (link : OpenLink) : Type 0 where
  AsCentral : facts.turn.doing ≡ CentralSends handle → link.setup.link.role ≡ Central → IsSender facts handle link
  AsPeripheral : facts.turn.doing ≡ PeripheralSends handle → link.setup.link.role ≡ Peripheral → IsSender facts handle link

role_of : (role : Role) (handle other : ℕ) (links : Links) (link : OpenLink) → other ≡ handle → HasRole role (link_at other links) → link_at handle links ≡ Some link
    → link.setup.link.role ≡ role
role_of role handle other links link same has at = subst (HasRole role) at (subst (λ n. HasRole role (link_at n links)) same has)

pub sender_is : (setup : Setup) (stage : Stage) (begun : ℕ) (facts : Facts) (handle : ℕ) (link : OpenLink) → IsSending setup stage begun facts
    → SendsOn handle facts.turn.doing → link_at handle facts.links ≡ Some link → IsSender facts handle link
sender_is setup stage begun facts handle link sending sends at = by stage facts.turn.doing refl sending.phase sends
  where
    by : (at_stage : Stage) (doing : Doing) → facts.turn.doing ≡ doing → IsAtStage at_stage facts.links doing → SendsOn handle doing → IsSender facts handle link
    by Between doing is rests same = absurd (subst (SendsOn handle) rests same)
    by (Within phases) (CentralSends other) is phase same = AsCentral (is ∙ ap CentralSends same) (role_of Central handle other facts.links link same phase.1 at)
    by (Within phases) (PeripheralSends other) is phase same = AsPeripheral (is ∙ ap PeripheralSends same) (role_of Peripheral handle other facts.links link same phase.1 at)
    by (Within phases) (Advertises channel) is phase same = absurd same
    by (Within phases) other is phase same = absurd same
