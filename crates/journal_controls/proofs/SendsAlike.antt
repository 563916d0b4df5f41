-- What an end sends after a packet is the same with other words, and after its answer to a request that is withheld from its
-- host.
use Rattle.std.proofs.Common.{◌≡◌, ℕ, ◌&&◌, Bool, true, false, Option, Some, None, List, refl, sym, ap, ◌∙◌}
use Rattle.std.specs.Prelude.{IfSome, if◌then◌else◌}
use Rattle.ble_base.specs.declared.roles.Role.{Role}
use Rattle.ble_base.specs.declared.roles.Role.TheVariants.{Central, Peripheral}
use Rattle.data_pdu.specs.Header.{header_in}
use Rattle.data_pdu.specs.declared.header.DataHeader.{DataHeader}
use Rattle.journal_ends.specs.controller_model.Facts.{Setup as StationSetup, Facts as StationFacts}
use Rattle.journal_ends.specs.journal_acks.link_calls.Phases.{link_receiving, link_worded, refusal_at, refused_if}
use Rattle.journal_ends.specs.link_model.Acknowledgement.{Pdu, is_acked}
use Rattle.journal_ends.specs.link_model.Controls.{is_procedure_pdu, next_control, pdu_fixed, pdu_of_control}
use Rattle.journal_ends.specs.link_model.Data.{Data, is_data}
use Rattle.journal_ends.specs.link_model.End.{facts_after}
use Rattle.journal_ends.specs.link_model.Facts.{Facts}
use Rattle.journal_ends.specs.link_model.Packets.{good_pdu, is_forged, whole_pdu}
use Rattle.journal_ends.specs.link_model.Receiving.{accepted_if, accepts, acknowledged_if, data_taken_if, facts_before_taking, facts_forged_if, facts_hearing, facts_received, has_acknowledged, heard_in_slot, procedures_take_if, taken_if}
use Rattle.journal_ends.specs.link_model.Sending.{control_gone_if, takes_leave}
use Rattle.journal_ends.specs.link_model.Setup.{Setup}
use Rattle.journal_ends.specs.link_model.Step.{Step, KeyAnswered, PacketReceived, RequestAnswered}
use Rattle.journal_ends.specs.link_model.Verdicts.{pdu_of}
use Rattle.journal_ends.specs.link_model.keyed_control.declared.material.Response.{Response}
use Rattle.journal_ends.specs.open_links.OpenLinks.{OpenLink, facts_in, link_after}
use Rattle.journal_ends.proofs.GrownLinks.{IsRefusal, refusal_is}
use Rattle.journal_ends.proofs.WordedLinks.{IsWordedAs, with_response, worded_as}
use Rattle.journal_ends.proofs.run_laws.Agreed.{step_facts}
use Rattle.journal_controls.proofs.Refusing.{refused, refused_facts, refused_if_setup}

pub record SendsAlike (one other : Facts) : Type 0 where
  pub acknowledgement : one.acknowledgement ≡ other.acknowledgement
  pub outgoing : one.outgoing ≡ other.outgoing
  pub fixes : one.fixes_control ≡ other.fixes_control
  pub event : one.event ≡ other.event

pub alike_then : (one next other : Facts) → SendsAlike one next → SendsAlike next other → SendsAlike one other
alike_then one next other first second = record {
  acknowledgement = first.acknowledgement ∙ second.acknowledgement;
  outgoing = first.outgoing ∙ second.outgoing;
  fixes = first.fixes ∙ second.fixes;
  event = first.event ∙ second.event;
}

same_alike : (one other : Facts) → one ≡ other → SendsAlike one other
same_alike one other is = record {
  acknowledgement = ap (λ (f : Facts). f.acknowledgement) is;
  outgoing = ap (λ (f : Facts). f.outgoing) is;
  fixes = ap (λ (f : Facts). f.fixes_control) is;
  event = ap (λ (f : Facts). f.event) is;
}

alike_back : (one other : Facts) → SendsAlike one other → SendsAlike other one
alike_back one other is = record {
  acknowledgement = sym is.acknowledgement;
  outgoing = sym is.outgoing;
  fixes = sym is.fixes;
  event = sym is.event;
}

-- ---- a PDU is taken: neither its procedures nor data change that

procedures_alike : (takes : Bool) (pdu : Pdu) (slot : ℕ) (facts : Facts) → SendsAlike (procedures_take_if takes pdu slot facts) facts
procedures_alike true pdu slot facts = record { acknowledgement = refl; outgoing = refl; fixes = refl; event = refl }
procedures_alike false pdu slot facts = record { acknowledgement = refl; outgoing = refl; fixes = refl; event = refl }

data_alike : (takes : Bool) (facts : Facts) → SendsAlike (data_taken_if takes facts) facts
data_alike true facts = record { acknowledgement = refl; outgoing = refl; fixes = refl; event = refl }
data_alike false facts = record { acknowledgement = refl; outgoing = refl; fixes = refl; event = refl }

taken_as : (accepted : Bool) (pdu : Pdu) (slot : ℕ) (facts : Facts) → SendsAlike (taken_if accepted pdu slot facts) (accepted_if accepted pdu facts)
taken_as accepted pdu slot facts =
    let opened = accepted_if accepted pdu facts in
    let seen = procedures_take_if (accepted && is_procedure_pdu pdu) pdu slot opened in
    alike_then (data_taken_if (accepted && is_data pdu) seen) seen opened (data_alike (accepted && is_data pdu) seen)
    (procedures_alike (accepted && is_procedure_pdu pdu) pdu slot opened)

-- an end that is like another one but for what it would draw
same_taking : (accepted : Bool) (pdu : Pdu) (slot : ℕ) (response : Response) (facts : Facts)
    → SendsAlike (taken_if accepted pdu slot (with_response response facts)) (taken_if accepted pdu slot facts)
same_taking accepted pdu slot response facts =
    let worded = with_response response facts in
    alike_then (taken_if accepted pdu slot worded) (accepted_if accepted pdu worded) (taken_if accepted pdu slot facts) (taken_as accepted pdu slot worded)
    (alike_then (accepted_if accepted pdu worded) (accepted_if accepted pdu facts) (taken_if accepted pdu slot facts)
    (record { acknowledgement = refl; outgoing = refl; fixes = refl; event = refl })
    (alike_back (taken_if accepted pdu slot facts) (accepted_if accepted pdu facts) (taken_as accepted pdu slot facts)))

-- a control PDU that leaves the queue is the same
gone_worded : (goes : Bool) (slot : ℕ) (response : Response) (facts : Facts) → control_gone_if goes slot (with_response response facts) ≡ with_response response (control_gone_if goes slot facts)
gone_worded true slot response facts = refl
gone_worded false slot response facts = refl

pub before_worded : (role : Role) (slot : ℕ) (header : DataHeader) (response : Response) (facts : Facts)
    → facts_before_taking role slot header (with_response response facts) ≡ with_response response (facts_before_taking role slot header facts)
before_worded Central slot header response facts = refl
before_worded Peripheral slot header response facts =
    let own = acknowledged_if (has_acknowledged facts header) (heard_in_slot slot header.md facts) in
    gone_worded (takes_leave own) slot response own

hearing_worded : (role : Role) (slot : ℕ) (room : Bool) (header : DataHeader) (pdu : Pdu) (response : Response) (facts : Facts)
    → SendsAlike (facts_hearing role slot room header pdu (with_response response facts)) (facts_hearing role slot room header pdu facts)
hearing_worded role slot room header pdu response facts =
    let now = facts_before_taking role slot header facts in
    let accepted = accepts room header pdu now in
    let worded = λ (f : Facts). taken_if (accepts room header pdu f) pdu slot f in
    alike_then _ (worded (with_response response now)) _ (same_alike _ _ (ap worded (before_worded role slot header response facts)))
    (same_taking accepted pdu slot response now)

received_worded : (role : Role) (slot : ℕ) (room : Bool) (found : Option (List ℕ)) (response : Response) (facts : Facts)
    → SendsAlike (facts_received role slot room found (with_response response facts)) (facts_received role slot room found facts)
received_worded role slot room None response facts = record { acknowledgement = refl; outgoing = refl; fixes = refl; event = refl }
received_worded role slot room (Some pdu) response facts = hearing_worded role slot room (header_in pdu) (pdu_of pdu) response facts

forged_alike : (forged : Bool) (facts : Facts) → SendsAlike (facts_forged_if forged facts) facts
forged_alike true facts = record { acknowledgement = refl; outgoing = refl; fixes = refl; event = refl }
forged_alike false facts = record { acknowledgement = refl; outgoing = refl; fixes = refl; event = refl }

pub packet_worded : (setup : Setup) (slot : ℕ) (octets : List ℕ) (room : Bool) (response : Response) (facts : Facts)
    → SendsAlike (facts_after setup (with_response response facts) (PacketReceived slot octets room)) (facts_after setup facts (PacketReceived slot octets room))
unfolding good_pdu is_forged whole_pdu
packet_worded setup slot octets room response facts =
    let role = setup.link.role in
    let found = good_pdu setup facts octets in
    let forged = is_forged setup facts octets in
    let one = facts_received role slot room found (with_response response facts) in
    let other = facts_received role slot room found facts in
    alike_then (facts_forged_if forged one) one (facts_forged_if forged other) (forged_alike forged one)
    (alike_then one other (facts_forged_if forged other) (received_worded role slot room found response facts)
    (alike_back (facts_forged_if forged other) other (forged_alike forged other)))

refused_alike : (setup : Setup) (facts : Facts) (refusal : Option Step) → IfSome refusal IsRefusal → SendsAlike (refused setup facts refusal) facts
refused_alike setup facts None is = record { acknowledgement = refl; outgoing = refl; fixes = refl; event = refl }
refused_alike setup facts (Some (RequestAnswered answer)) is = record { acknowledgement = refl; outgoing = refl; fixes = refl; event = refl }
refused_alike setup facts (Some (KeyAnswered key slot)) is = record { acknowledgement = refl; outgoing = refl; fixes = refl; event = refl }
refused_alike setup facts (Some step) is = absurd is

-- so it sends the same new PDU
pub alike_fixed : (one other : Facts) → SendsAlike one other → takes_leave other ≡ false → is_acked other.acknowledgement ≡ true → pdu_fixed one ≡ pdu_fixed other
alike_fixed one other alike leaves acked =
    let unfixed : other.fixes_control ≡ false = sym (ap (λ b. b && other.fixes_control) acked) ∙ leaves in
    ap (λ b. if b then pdu_of_control (next_control one) else one.outgoing.fixed) (alike.fixes ∙ unfixed)
    ∙ ap (λ (o : Data). o.fixed) alike.outgoing
    ∙ sym (ap (λ b. if b then pdu_of_control (next_control other) else other.outgoing.fixed) unfixed)

-- ---- a link that receives

-- with words
pub given_alike : (link base : OpenLink) → IsWordedAs link base → (slot : ℕ) (octets : List ℕ) (room : Bool)
    → SendsAlike (facts_in (link_after (PacketReceived slot octets room) base)) (facts_after link.setup (facts_in link) (PacketReceived slot octets room))
given_alike link base words slot octets room =
    let step = PacketReceived slot octets room in
    let taken = facts_in (link_after step base) in
    let given = facts_after link.setup (with_response words.response (facts_in link)) step in
    alike_then taken given (facts_after link.setup (facts_in link) step)
    (same_alike taken given (step_facts base step ∙ (λ i. facts_after (words.setup_is i) (words.facts_is i) step)))
    (packet_worded link.setup slot octets room words.response (facts_in link))

-- and with an answer at once
pub answered_alike : (refusal : Option Step) → IfSome refusal IsRefusal → (link : OpenLink) → SendsAlike (facts_in (refused_if refusal link)) (facts_in link)
answered_alike refusal is link =
    let now = facts_in (refused_if refusal link) in
    let refuses = refused link.setup (facts_in link) refusal in
    alike_then now refuses (facts_in link) (same_alike now refuses (refused_facts refusal link)) (refused_alike link.setup (facts_in link) refusal is)

module _ (setup : StationSetup) (handle : ℕ) (room : Bool) (octets : List ℕ) (facts : StationFacts) (base : OpenLink) where
  abbrev worded : OpenLink
  worded = link_worded setup facts facts.turn.doing base

  abbrev words : IsWordedAs base worded
  words = worded_as setup facts facts.turn.doing base

  abbrev taken : OpenLink
  taken = link_after (PacketReceived facts.turn.slot octets room) worded

  abbrev refusal : Option Step
  refusal = refusal_at handle room octets facts worded

  pub receiving_same : (link_receiving setup handle room octets facts base).setup ≡ base.setup
  receiving_same = refused_if_setup refusal taken ∙ words.setup_is

  pub receiving_alike : SendsAlike (facts_in (link_receiving setup handle room octets facts base)) (facts_after base.setup (facts_in base) (PacketReceived facts.turn.slot octets room))
  receiving_alike =
      alike_then (facts_in (refused_if refusal taken)) (facts_in taken) (facts_after base.setup (facts_in base) (PacketReceived facts.turn.slot octets room))
      (answered_alike refusal (refusal_is handle room octets facts worded) taken) (given_alike base worded words facts.turn.slot octets room)
