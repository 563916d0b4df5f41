-- What a phase does to the links of a controller that neither sends nor listens on one of them.
use Rattle.std.proofs.Common.{◌≡◌, ℕ, Bool, true, false, Option, Some, None, List, refl, sym, ap, subst}
use Rattle.ble_base.specs.declared.addresses.Address.{Address}
use Rattle.adv_pdu.specs.declared.pdu.AdvPdu.{AdvPdu}
use Rattle.adv_pdu.specs.declared.pdu.ConnectFields.{ConnectFields}
use Rattle.run_laws.specs.advertise.declared.answers.AdvAnswer.{AdvAnswer}
use Rattle.run_laws.specs.advertise.declared.answers.AdvAnswer.TheVariants.{Ignore, Respond, Connect as Takes}
use Rattle.run_laws.specs.advertise.Advertising.{AdvertiserFacts}
use Rattle.run_laws.specs.advertise.Answers.{advertiser_answer}
use Rattle.run_laws.specs.link_model.declared.setup.LinkSetup.{LinkSetup}
use Rattle.run_laws.specs.open_links.OpenLinks.{free_from}
use Rattle.run_laws.specs.scan_init.Initiating.{InitiatorFacts}
use Rattle.run_laws.specs.controller_model.declared.doing.Doing.{Doing}
use Rattle.run_laws.specs.controller_model.declared.doing.Doing.TheVariants.{Advertises, AwaitsRequest, CentralListens, Initiates, PeripheralListens}
use Rattle.run_laws.specs.controller_model.Facts.{Setup, Facts}
use Rattle.run_laws.specs.controller_model.Heard.{advertiser_answers, advertiser_heard, connects, heard, if_pdu, initiator_heard, link_taken, link_to, opens, taken_if, taken_under, unheard}
use Rattle.run_laws.specs.controller_model.Outcome.{Outcome, facts_passed}
use Rattle.run_laws.specs.controller_model.Packets.{pdu_heard}
use Rattle.run_laws.specs.controller_model.Side.{facts_after}
use Rattle.run_laws.proofs.controller_model.Always.{opening_is}
use Rattle.run_laws.specs.run_model.Run.{step_of}
use Rattle.run_laws.proofs.LinkPasses.{IsPassingOn, LeavesAll, OpensOne, phase_passes_on}
use Rattle.run_laws.proofs.TurnSteps.{IsListening}
use Rattle.link_calls.specs.Uses.{is_on_link}

module _ (facts : Facts) (octets : List ℕ) where
  abbrev Passing : Outcome → Type 0
  Passing outcome = IsPassingOn facts (Some octets) (facts_passed outcome)

  no_link : (X : Type 0) → false ≡ true → X
  no_link X is = absurd cc

  opens_one : (link : LinkSetup) → Passing (opens link facts)
  opens_one link = OpensOne link (ap (λ (f : Facts). f.links) (opening_is link facts)) refl

  taken_free : (free : Option ℕ) (own : Address) (pdu : AdvPdu) (fields : ConnectFields) → Passing (taken_under free own pdu fields facts)
  taken_free None own pdu fields = LeavesAll refl (no_link _)
  taken_free (Some handle) own pdu fields = opens_one (link_taken facts.view own pdu fields handle)

  taken_new : (new : Bool) (own : Address) (pdu : AdvPdu) (fields : ConnectFields) → Passing (taken_if new own pdu fields facts)
  taken_new false own pdu fields = LeavesAll refl (no_link _)
  taken_new true own pdu fields = taken_free (free_from 0 facts.links) own pdu fields

  answered : (answer : AdvAnswer) (channel : ℕ) (own : Address) (pdu : AdvPdu) → Passing (advertiser_answers answer channel own pdu facts)
  answered Ignore channel own pdu = LeavesAll refl (no_link _)
  answered Respond channel own pdu = LeavesAll refl (no_link _)
  answered (Takes fields) channel own pdu = taken_new _ own pdu fields

  advertised : (on : Option AdvertiserFacts) (channel : ℕ) (pdu : AdvPdu) → Passing (advertiser_heard on channel pdu facts)
  advertised None channel pdu = LeavesAll refl (no_link _)
  advertised (Some on) channel pdu = answered (advertiser_answer on.params facts.view.accepted pdu) channel on.params.own pdu

  connected : (link : Option LinkSetup) (setup : Setup) (channel : ℕ) → Passing (connects link setup channel facts)
  connected None setup channel = LeavesAll refl (no_link _)
  connected (Some link) setup channel = LeavesAll refl (no_link _)

  initiated : (on : Option InitiatorFacts) (setup : Setup) (channel : ℕ) (pdu : AdvPdu) → Passing (initiator_heard on setup channel pdu facts)
  initiated None setup channel pdu = LeavesAll refl (no_link _)
  initiated (Some on) setup channel pdu = connected (link_to setup on pdu facts) setup channel

  for_pdu : (found : Option AdvPdu) (outcome : AdvPdu → Outcome) → ((pdu : AdvPdu) → Passing (outcome pdu)) → Passing (if_pdu found facts outcome)
  for_pdu None outcome some = LeavesAll refl (no_link _)
  for_pdu (Some pdu) outcome some = some pdu

-- nothing is heard, or nothing that matters where it awaits no request and no advertisement to connect to
pub off_phase : (setup : Setup) (facts : Facts) (received : Option (List ℕ)) (doing : Doing) → facts.turn.doing ≡ doing → is_on_link doing ≡ false
    → IsPassingOn facts received (facts_after setup facts (step_of received))
off_phase setup facts (Some octets) (AwaitsRequest channel) is off =
    subst (λ (d : Doing). IsPassingOn facts (Some octets) (facts_passed (heard setup d octets facts))) (sym is)
    (for_pdu facts octets (pdu_heard channel octets) _ (λ pdu. advertised facts octets facts.advertising.on channel pdu))
off_phase setup facts (Some octets) (Initiates channel) is off =
    subst (λ (d : Doing). IsPassingOn facts (Some octets) (facts_passed (heard setup d octets facts))) (sym is)
    (for_pdu facts octets (pdu_heard channel octets) _ (λ pdu. initiated facts octets facts.initiator setup channel pdu))
off_phase setup facts None (AwaitsRequest channel) is off =
    subst (λ (d : Doing). IsPassingOn facts None (facts_passed (unheard d facts))) (sym is) (LeavesAll refl (λ on. absurd (let h : false ≡ true = on in absurd cc)))
off_phase setup facts None (Initiates channel) is off =
    subst (λ (d : Doing). IsPassingOn facts None (facts_passed (unheard d facts))) (sym is) (LeavesAll refl (λ on. absurd (let h : false ≡ true = on in absurd cc)))
off_phase setup facts received (CentralListens handle) is off = absurd cc
off_phase setup facts received (PeripheralListens handle) is off = absurd cc
off_phase setup facts received (Advertises channel) is off = phase_passes_on setup facts received (subst (IsListening facts) (sym is) tt)
off_phase setup facts received doing is off = phase_passes_on setup facts received (subst (IsListening facts) (sym is) tt)
