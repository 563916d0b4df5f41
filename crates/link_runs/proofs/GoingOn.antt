-- Where an end receives nothing, the link goes on there; and where it goes on, it went on before.
use Rattle.std.proofs.Common.{◌≡◌, ◌&&◌, Bool, true, false, List, [], ◌∷◌, Option, Some, None, is_none, is_some, refl, ◌∙◌, if◌then◌else◌}
use Rattle.std.proofs.lemmas.Bool.{and_parts}
use Rattle.link_pairs.proofs.joint_controls.Running.{none_of}
use Rattle.ble_base.specs.ErrorCodes.{terminated_by_local_host}
use Rattle.ble_base.specs.declared.error_codes.ErrCode.{ErrCode}
use Rattle.link_pairs.specs.link_model.Setup.{Setup}
use Rattle.link_pairs.specs.link_model.declared.state.Leaving.{Leaving}
use Rattle.link_pairs.specs.link_model.Facts.{Facts}
use Rattle.link_pairs.specs.link_model.End.{facts_after}
use Rattle.link_pairs.specs.link_model.Step.{Step}
use Rattle.link_pairs.specs.link_model.Times.{ended_by_procedures, ending_of}
use Rattle.link_pairs.specs.Ends.{is_lasting}
use Rattle.link_pairs.specs.Sound.{EndsNothing}
use Rattle.link_pairs.proofs.EndingNothing.{host_ends_nothing}
use Rattle.link_runs.specs.Turn.{facts_hosted}
use Rattle.link_runs.specs.Runs.{MayHostAll}

pub still_lasts : (before now : Facts) → EndsNothing before now → is_lasting before ≡ true → is_lasting now ≡ true
still_lasts before now nothing is = (λ i. is_none (nothing.procedures i) && is_none (nothing.peer i)) ∙ is

-- where the link lasts at an end, no procedure ended it there, and the end took no LL_TERMINATE_IND
pub lasting_goes : (facts : Facts) → is_lasting facts ≡ true → facts.control.ends ≡ None
lasting_goes facts is = none_of facts.control.ends (and_parts (is_none facts.control.ends) (is_none facts.leaving.ended_by_peer) is).0

pub lasting_took_none : (facts : Facts) → is_lasting facts ≡ true → facts.leaving.ended_by_peer ≡ None
lasting_took_none facts is = none_of facts.leaving.ended_by_peer (and_parts (is_none facts.control.ends) (is_none facts.leaving.ended_by_peer) is).1

pub lasting_by : (facts : Facts) → facts.control.ends ≡ None → is_some facts.leaving.ended_by_peer ≡ false → is_lasting facts ≡ true
lasting_by facts goes took = (λ i. is_none (goes i) && is_none facts.leaving.ended_by_peer) ∙ by facts.leaving.ended_by_peer took
  where
    by : (o : Option ErrCode) → is_some o ≡ false → is_none o ≡ true
    by None none = refl
    by (Some code) none = absurd (cc)

pub hosted_ends_nothing : (setup : Setup) (steps : List Step) (facts : Facts) → MayHostAll setup steps facts
    → EndsNothing facts (facts_hosted setup steps facts)
hosted_ends_nothing setup [] facts may = record { procedures = refl; peer = refl }
hosted_ends_nothing setup (step ∷ steps) facts may =
    let first = host_ends_nothing setup facts step may.0 in
    let later = hosted_ends_nothing setup steps (facts_after setup facts step) may.1 in
    record { procedures = later.procedures ∙ first.procedures; peer = later.peer ∙ first.peer }

-- ---- an end that is shut at the end of a turn, or is not

pub shut_by : (o : Option ErrCode) → is_some o ≡ true → is_none o ≡ true → ⊥
shut_by None some none = absurd (cc)
shut_by (Some code) some none = absurd (cc)

ends_by : (acknowledged : Bool) (ends : Option ErrCode) (leaving : Leaving)
    → is_none (if acknowledged then Some (record { 0 = terminated_by_local_host }) else ended_by_procedures ends leaving) ≡ true → ends ≡ None
ends_by true ends leaving is = absurd (cc)
ends_by false None leaving is = refl
ends_by false (Some code) leaving is = absurd (cc)

pub open_goes_on : (facts : Facts) → is_none (ending_of facts) ≡ true → facts.control.ends ≡ None
open_goes_on facts is = ends_by facts.leaving.acknowledged facts.control.ends facts.leaving is
