-- A peripheral is given words before it hears a packet: with them it would answer LL_ENC_REQ. What it hears, and what it
-- sent and accepted, is the same with them.
use Rattle.std.proofs.Common.{◌≡◌, ℕ, ◌&&◌, ◌||◌, not, Bool, Some, None, Option, List, refl, sym, ap, ◌∙◌}
use Rattle.ack_bit.specs.AckBits.{is_new}
use Rattle.ble_base.specs.declared.roles.Role.{Role}
use Rattle.data_pdu.specs.Header.{header_in}
use Rattle.data_pdu.specs.declared.header.DataHeader.{DataHeader}
use Rattle.run_laws.specs.link_model.Acknowledgement.{Pdu, bits_of, received_by}
use Rattle.run_laws.specs.link_model.Data.{is_accepted, is_empty}
use Rattle.run_laws.specs.link_model.Facts.{Facts as EndFacts}
use Rattle.run_laws.specs.link_model.Hosts.{facts_with_words}
use Rattle.run_laws.specs.link_model.Packets.{good_pdu, is_forged, whole_pdu}
use Rattle.run_laws.specs.link_model.Receiving.{accepts, acknowledged_if, answers_with_control, facts_before_taking, facts_received, has_acknowledged, heard_in_slot}
use Rattle.run_laws.specs.link_model.Setup.{Setup as EndSetup}
use Rattle.run_laws.specs.link_model.Step.{PacketReceived, WordsGiven}
use Rattle.run_laws.specs.link_model.Verdicts.{pdu_of}
use Rattle.run_laws.proofs.link_model.Acknowledging.{ack_before_taking, ack_heard, forged_leaves}
use Rattle.run_laws.proofs.link_model.Ending.{gone_stays}
use Rattle.run_laws.specs.open_links.OpenLinks.{OpenLink, facts_in, link_after}
use Rattle.run_laws.specs.controller_model.declared.doing.Doing.{Doing}
use Rattle.run_laws.specs.controller_model.declared.doing.Doing.TheVariants.{Advertises, PeripheralListens}
use Rattle.run_laws.specs.controller_model.Facts.{Setup, Facts}
use Rattle.run_laws.proofs.Agreed.{ack_of, step_facts}
use Rattle.link_calls.specs.Phases.{link_worded}
use Rattle.link_calls.proofs.HeardSteps.{HasHeardSame, forged_event, forged_good, received_same}

-- ---- a link that receives

pub received_ack : (slot : ℕ) (octets : List ℕ) (room : Bool) (link : OpenLink) (found : Option (List ℕ)) → good_pdu link.setup (facts_in link) octets ≡ found
    → ack_of (link_after (PacketReceived slot octets room) link) ≡ (facts_received link.setup.link.role slot room found (facts_in link)).acknowledgement
received_ack slot octets room link found is =
    ap (λ (f : EndFacts). f.acknowledgement) (step_facts link (PacketReceived slot octets room))
    ∙ forged_leaves (is_forged link.setup (facts_in link) octets) (facts_received link.setup.link.role slot room (good_pdu link.setup (facts_in link) octets) (facts_in link))
    ∙ ap (λ may. (facts_received link.setup.link.role slot room may (facts_in link)).acknowledgement) is

received_heard : (slot : ℕ) (octets : List ℕ) (room : Bool) (link : OpenLink) (found : Option (List ℕ)) → good_pdu link.setup (facts_in link) octets ≡ found
    → HasHeardSame (facts_in (link_after (PacketReceived slot octets room) link)) (facts_received link.setup.link.role slot room found (facts_in link))
received_heard slot octets room link found is =
    let received = facts_received link.setup.link.role slot room (good_pdu link.setup (facts_in link) octets) (facts_in link) in
    let forged = is_forged link.setup (facts_in link) octets in
    let same = step_facts link (PacketReceived slot octets room) in
    let then_found = ap (λ may. facts_received link.setup.link.role slot room may (facts_in link)) is in
    record {
      event = ap (λ (f : EndFacts). f.event) same ∙ forged_event forged received ∙ ap (λ (f : EndFacts). f.event) then_found;
      good = ap (λ (f : EndFacts). f.last_good) same ∙ forged_good forged received ∙ ap (λ (f : EndFacts). f.last_good) then_found;
    }

leaving_before : (role : Role) (slot : ℕ) (header : DataHeader) (facts : EndFacts)
    → (facts_before_taking role slot header facts).leaving ≡ (acknowledged_if (has_acknowledged facts header) (heard_in_slot slot header.md facts)).leaving
leaving_before role slot header facts =
    let own = acknowledged_if (has_acknowledged facts header) (heard_in_slot slot header.md facts) in
    gone_stays (answers_with_control role own) slot own

-- ---- with words

module _ (skd_s iv_s : ℕ) where
  good_worded : (setup : EndSetup) (facts : EndFacts) (octets : List ℕ) → good_pdu setup (facts_with_words skd_s iv_s facts) octets ≡ good_pdu setup facts octets
  unfolding good_pdu whole_pdu
  good_worded setup facts octets = refl

  accepts_worded : (role : Role) (slot : ℕ) (room : Bool) (header : DataHeader) (pdu : Pdu) (facts : EndFacts)
      → accepts room header pdu (facts_before_taking role slot header (facts_with_words skd_s iv_s facts)) ≡ accepts room header pdu (facts_before_taking role slot header facts)
  accepts_worded role slot room header pdu facts =
      let given = facts_with_words skd_s iv_s facts in
      let ack = ack_before_taking role slot header given ∙ sym (ack_before_taking role slot header facts) in
      let leaving = leaving_before role slot header given ∙ sym (leaving_before role slot header facts) in
      (λ i. is_accepted room (is_new (bits_of (ack i)) header) pdu && (is_empty pdu || not (leaving i).acknowledged))

  received_worded : (role : Role) (slot : ℕ) (room : Bool) (found : Option (List ℕ)) (facts : EndFacts)
      → (facts_received role slot room found (facts_with_words skd_s iv_s facts)).acknowledgement ≡ (facts_received role slot room found facts).acknowledgement
  received_worded role slot room None facts = refl
  received_worded role slot room (Some pdu) facts =
      let header = header_in pdu in
      ack_heard role slot room header (pdu_of pdu) (facts_with_words skd_s iv_s facts)
      ∙ ap (λ b. received_by (has_acknowledged facts header) b (pdu_of pdu) facts.acknowledgement) (accepts_worded role slot room header (pdu_of pdu) facts)
      ∙ sym (ack_heard role slot room header (pdu_of pdu) facts)

  heard_worded : (role : Role) (slot : ℕ) (room : Bool) (found : Option (List ℕ)) (facts : EndFacts)
      → HasHeardSame (facts_received role slot room found (facts_with_words skd_s iv_s facts)) (facts_received role slot room found facts)
  heard_worded role slot room None facts = record { event = refl; good = refl }
  heard_worded role slot room (Some pdu) facts =
      let with_words = received_same role slot room pdu (facts_with_words skd_s iv_s facts) in
      let without = received_same role slot room pdu facts in
      record { event = with_words.event ∙ sym without.event; good = with_words.good ∙ sym without.good }

  module _ (link : OpenLink) where
    abbrev given_link : OpenLink
    given_link = link_after (WordsGiven skd_s iv_s) link

    pub given_good : (octets : List ℕ) → good_pdu link.setup (facts_in given_link) octets ≡ good_pdu link.setup (facts_in link) octets
    given_good octets = ap (λ f. good_pdu link.setup f octets) (step_facts link (WordsGiven skd_s iv_s)) ∙ good_worded link.setup (facts_in link) octets

    pub given_ack : ack_of given_link ≡ ack_of link
    given_ack = ap (λ (f : EndFacts). f.acknowledgement) (step_facts link (WordsGiven skd_s iv_s))

    pub given_heard : (slot : ℕ) (octets : List ℕ) (room : Bool) → ack_of (link_after (PacketReceived slot octets room) given_link) ≡ ack_of (link_after (PacketReceived slot octets room) link)
    given_heard slot octets room =
        let role = link.setup.link.role in
        let found = good_pdu link.setup (facts_in link) octets in
        received_ack slot octets room given_link found (given_good octets)
        ∙ ap (λ f. (facts_received role slot room found f).acknowledgement) (step_facts link (WordsGiven skd_s iv_s))
        ∙ received_worded role slot room found (facts_in link) ∙ sym (received_ack slot octets room link found refl)

    given_same : (slot : ℕ) (octets : List ℕ) (room : Bool)
        → HasHeardSame (facts_in (link_after (PacketReceived slot octets room) given_link)) (facts_in (link_after (PacketReceived slot octets room) link))
    given_same slot octets room =
        let role = link.setup.link.role in
        let found = good_pdu link.setup (facts_in link) octets in
        let given = received_heard slot octets room given_link found (given_good octets) in
        let facts_are = ap (λ f. facts_received role slot room found f) (step_facts link (WordsGiven skd_s iv_s)) in
        let worded = heard_worded role slot room found (facts_in link) in
        let was = received_heard slot octets room link found refl in
        record {
          event = given.event ∙ ap (λ (f : EndFacts). f.event) facts_are ∙ worded.event ∙ sym was.event;
          good = given.good ∙ ap (λ (f : EndFacts). f.last_good) facts_are ∙ worded.good ∙ sym was.good;
        }

-- ---- as a controller gives them

-- a fact of a link that is given words, or none
pub each_worded : (P : OpenLink → Type 0) (setup : Setup) (facts : Facts) (doing : Doing) (link : OpenLink) → P link
    → ((skd_s iv_s : ℕ) → P (link_after (WordsGiven skd_s iv_s) link)) → P (link_worded setup facts doing link)
each_worded P setup facts (PeripheralListens other) link same words = words _ _
each_worded P setup facts (Advertises channel) link same words = same
each_worded P setup facts other link same words = same

module _ (setup : Setup) (facts : Facts) (doing : Doing) (link : OpenLink) where
  pub worded_setup : (link_worded setup facts doing link).setup ≡ link.setup
  worded_setup = each_worded (λ base. base.setup ≡ link.setup) setup facts doing link refl (λ skd_s iv_s. refl)

  pub worded_heard : (slot : ℕ) (octets : List ℕ) (room : Bool)
      → ack_of (link_after (PacketReceived slot octets room) (link_worded setup facts doing link)) ≡ ack_of (link_after (PacketReceived slot octets room) link)
  worded_heard slot octets room =
      each_worded (λ base. ack_of (link_after (PacketReceived slot octets room) base) ≡ ack_of (link_after (PacketReceived slot octets room) link)) setup facts doing link refl
      (λ skd_s iv_s. given_heard skd_s iv_s link slot octets room)

  pub worded_same : (slot : ℕ) (octets : List ℕ) (room : Bool)
      → HasHeardSame (facts_in (link_after (PacketReceived slot octets room) (link_worded setup facts doing link))) (facts_in (link_after (PacketReceived slot octets room) link))
  worded_same slot octets room =
      each_worded (λ base. HasHeardSame (facts_in (link_after (PacketReceived slot octets room) base)) (facts_in (link_after (PacketReceived slot octets room) link))) setup facts doing link
      (record { event = refl; good = refl }) (λ skd_s iv_s. given_same skd_s iv_s link slot octets room)
