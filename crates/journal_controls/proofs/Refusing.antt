-- What an end makes of its answer to a request that is withheld from its host.
use Rattle.std.proofs.Common.{◌≡◌, ℕ, not, Bool, true, false, Option, Some, None, List, ◌∷◌, fold, is_none, refl, sym, ap, ◌∙◌}
use Rattle.std.specs.Prelude.{IfSome, ◌||◌}
use Rattle.journal_ends.specs.link_model.Acknowledgement.{is_acked}
use Rattle.journal_ends.specs.link_model.Data.{Data, is_control}
use Rattle.journal_ends.specs.link_model.End.{facts_after, notes_from}
use Rattle.journal_ends.specs.link_model.Facts.{Facts}
use Rattle.journal_ends.specs.link_model.Hosts.{ends_without_key}
use Rattle.journal_ends.specs.link_model.Payload.{payload_made}
use Rattle.journal_ends.specs.link_model.Receiving.{has_ended}
use Rattle.journal_ends.specs.link_model.Sending.{data_sent_as, takes_leave}
use Rattle.journal_ends.specs.link_model.Setup.{Setup}
use Rattle.journal_ends.specs.link_model.Step.{Step, KeyAnswered, PacketSent, RequestAnswered}
use Rattle.journal_ends.specs.journal_acks.link_calls.Phases.{refused_if}
use Rattle.journal_ends.specs.open_links.OpenLinks.{OpenLink, facts_in}
use Rattle.journal_ends.proofs.GrownLinks.{IsRefusal}
use Rattle.journal_ends.proofs.run_laws.Agreed.{step_facts}
use Rattle.journal_ends.proofs.HostedLinks.{host_ends}
use Rattle.journal_ends.proofs.link_model.Ending.{key_stays}
use Rattle.journal_controls.proofs.PeripheralFixed.{sent_outgoing}

-- an end after that, if it answers
abbrev pub refused : Setup → Facts → Option Step → Facts
refused setup facts None = facts
refused setup facts (Some step) = facts_after setup facts step

-- a step, if there is one, and then others
abbrev pub first_some : Option Step → List Step → List Step
first_some None steps = steps
first_some (Some step) steps = step ∷ steps

-- the link of that end
pub refused_if_setup : (refusal : Option Step) (link : OpenLink) → (refused_if refusal link).setup ≡ link.setup
refused_if_setup None link = refl
refused_if_setup (Some step) link = refl

pub refused_facts : (refusal : Option Step) (link : OpenLink) → facts_in (refused_if refusal link) ≡ refused link.setup (facts_in link) refusal
refused_facts None link = refl
refused_facts (Some step) link = step_facts link step

apart_payload : (one other : List ℕ) (is_new : Bool) (outgoing : Data) → (data_sent_as one is_new outgoing).fixed ≡ (data_sent_as other is_new outgoing).fixed
apart_payload one other true outgoing = refl
apart_payload one other false outgoing = refl

module _ (setup : Setup) (facts : Facts) where
  -- what it sends stays
  pub refused_leave : (refusal : Option Step) → IfSome refusal IsRefusal → takes_leave (refused setup facts refusal) ≡ takes_leave facts
  refused_leave None is = refl
  refused_leave (Some (RequestAnswered answer)) is = refl
  refused_leave (Some (KeyAnswered key slot)) is = refl
  refused_leave (Some step) is = absurd is

  pub refused_outgoing : (refusal : Option Step) → IfSome refusal IsRefusal → (refused setup facts refusal).outgoing ≡ facts.outgoing
  refused_outgoing None is = refl
  refused_outgoing (Some (RequestAnswered answer)) is = refl
  refused_outgoing (Some (KeyAnswered key slot)) is = refl
  refused_outgoing (Some step) is = absurd is

  refused_acked : (refusal : Option Step) → IfSome refusal IsRefusal → is_acked (refused setup facts refusal).acknowledgement ≡ is_acked facts.acknowledgement
  refused_acked None is = refl
  refused_acked (Some (RequestAnswered answer)) is = refl
  refused_acked (Some (KeyAnswered key slot)) is = refl
  refused_acked (Some step) is = absurd is

  -- and it goes on where it did
  pub refused_ended : (refusal : Option Step) → IfSome refusal IsRefusal → has_ended (refused setup facts refusal) ≡ has_ended facts
  refused_ended None is = refl
  refused_ended (Some (RequestAnswered answer)) is = ap (λ ends. not (is_none ends) || facts.leaving.acknowledged) (host_ends setup facts (RequestAnswered answer) tt)
  refused_ended (Some (KeyAnswered key slot)) is =
      λ i. not (is_none (host_ends setup facts (KeyAnswered key slot) tt i)) || key_stays (ends_without_key key facts) slot facts.leaving i
  refused_ended (Some step) is = absurd is

  -- whether it then sends a control PDU that left the queue before
  pub refused_sends : (refusal : Option Step) (slot : ℕ) → IfSome refusal IsRefusal → takes_leave facts ≡ false
      → is_control (facts_after setup (refused setup facts refusal) (PacketSent slot)).outgoing.fixed ≡ is_control (facts_after setup facts (PacketSent slot)).outgoing.fixed
  refused_sends refusal slot is leaves =
      let now = refused setup facts refusal in
      let payload = payload_made now.encryption.end now.outgoing.fixed in
      let before = payload_made facts.encryption.end facts.outgoing.fixed in
      ap (λ (o : Data). is_control o.fixed) (sent_outgoing slot now (takes_leave now) refl (refused_leave refusal is ∙ leaves))
      ∙ (λ i. is_control (data_sent_as payload (refused_acked refusal is i) (refused_outgoing refusal is i)).fixed)
      ∙ ap is_control (apart_payload payload before (is_acked facts.acknowledgement) facts.outgoing)
      ∙ sym (ap (λ (o : Data). is_control o.fixed) (sent_outgoing slot facts (takes_leave facts) refl leaves))

  -- it says nothing with it
  pub refused_notes : (refusal : Option Step) (more : List Step) → IfSome refusal IsRefusal
      → notes_from setup facts (first_some refusal more) ≡ notes_from setup (refused setup facts refusal) more
  refused_notes None more is = refl
  refused_notes (Some (RequestAnswered answer)) more is = refl
  refused_notes (Some (KeyAnswered key slot)) more is = refl
  refused_notes (Some step) more is = absurd is

  pub refused_fold : (refusal : Option Step) (more : List Step) → fold (facts_after setup) facts (first_some refusal more) ≡ fold (facts_after setup) (refused setup facts refusal) more
  refused_fold None more = refl
  refused_fold (Some step) more = refl
