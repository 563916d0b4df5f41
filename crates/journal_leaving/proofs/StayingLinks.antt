-- Between two turns no open end is to leave its link.
use Rattle.std.proofs.Common.{◌≡◌, ℕ, Option, Some, None, refl, sym, ap, ◌∙◌, replicate}
use Rattle.std.specs.Option.{option_map}
use Rattle.ble_base.specs.declared.error_codes.ErrCode.{ErrCode}
use Rattle.journal_controls.specs.controller_model.Data.{facts_handed}
use Rattle.journal_controls.specs.controller_model.Facts.{Setup, Facts, first_facts}
use Rattle.journal_controls.proofs.controller_model.Always.{leaving_is}
use Rattle.journal_controls.proofs.controller_model.Asked.{IsAskedStep}
use Rattle.journal_controls.specs.journal_acks.link_calls.Hosts.{HasHeardHost, GetsData, IsAsked, Unchanged}
use Rattle.journal_controls.specs.link_model.Facts.{Facts as EndFacts}
use Rattle.journal_controls.specs.link_model.Step.{Step as EndStep, DataGiven}
use Rattle.journal_controls.specs.link_model.Times.{ending_of}
use Rattle.journal_controls.specs.open_links.Data.{links_reported}
use Rattle.journal_controls.specs.open_links.OpenLinks.{OpenLink, facts_in, link_after, link_at}
use Rattle.journal_controls.specs.open_links.Turns.{ending_in, links_without}
use Rattle.journal_controls.proofs.journal_acks.link_calls.HostSteps.{asked_is_well}
use Rattle.journal_controls.proofs.journal_acks.link_calls.UnderHandles.{host_under, staying_under}
use Rattle.journal_controls.proofs.journal_ends.run_laws.Agreed.{step_facts}
use Rattle.journal_controls.proofs.journal_ends.run_laws.OpenSteps.{none_open, open_has}
use Rattle.journal_controls.proofs.journal_ends.run_laws.TurnPlaces.{Between, IsTurned, Stage, Within}
use Rattle.journal_leaving.proofs.AskedSteps.{host_step, step_ending}

abbrev pub AreStaying : Stage → ℕ → Facts → Type 0
AreStaying Between begun facts = (handle : ℕ) (link : OpenLink) → link_at handle facts.links ≡ Some link → ending_in link ≡ None
AreStaying (Within phases) begun facts = Unit {0}

host_stays : (link : OpenLink) (step : EndStep) → IsAskedStep step → ending_in link ≡ None → ending_in (link_after step link) ≡ None
host_stays link step by_host stays =
    ap (λ (f : EndFacts). option_map (λ (code : ErrCode). code.0) (ending_of f)) (step_facts link step)
    ∙ ap (option_map (λ (code : ErrCode). code.0)) (step_ending link.setup (facts_in link) step (host_step step by_host)) ∙ stays

given_stays : (setup : Setup) (facts : Facts) (octet handle : ℕ) (after : OpenLink) → HasHeardHost setup facts octet handle after
    → ((link : OpenLink) → link_at handle facts.links ≡ Some link → ending_in link ≡ None) → ending_in after ≡ None
given_stays setup facts octet handle after (Unchanged same) stays = stays after same
given_stays setup facts octet handle after (GetsData link start body was is) stays =
    ap ending_in is ∙ ap (λ (f : EndFacts). option_map (λ (code : ErrCode). code.0) (ending_of f)) (step_facts link (DataGiven start body)) ∙ stays link was
given_stays setup facts octet handle after (IsAsked link command step was accepted asks is) stays =
    ap ending_in is
    ∙ host_stays link step (asked_is_well setup facts octet handle command link.setup.link.role (facts_in link).peer step accepted asks).by_host (stays link was)

pub staying_kept : (setup : Setup) → IsTurned setup AreStaying
staying_kept setup = record {
  feeds = λ begun octet facts are. λ handle link at. given_stays setup facts octet handle link (host_under setup facts octet handle link at) (are handle);
  begins = λ begun on facts are. tt;
  passes = λ phases begun received facts are. tt;
  ends = λ begun facts are. λ handle link at.
      let now : link_at handle (links_without ending_in (links_reported facts.links)) ≡ Some link =
      ap (λ (left : Facts). link_at handle left.links) (sym (leaving_is (facts_handed facts))) ∙ at in
      (staying_under ending_in handle (links_reported facts.links) link now).stays;
}

pub staying_first : (setup : Setup) → AreStaying Between 0 (first_facts setup)
staying_first setup = λ handle link at.
    absurd (open_has (λ one. ⊥) 0 handle (replicate setup.links None) link (none_open (λ one. ⊥) setup.links) at)

-- nor has it a code with which it is to end
pub none_ends : (code : Option ErrCode) → option_map (λ (one : ErrCode). one.0) code ≡ None → code ≡ None
none_ends None none = refl
none_ends (Some code) none = absurd cc
