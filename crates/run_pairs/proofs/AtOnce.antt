-- What a controller answers at once in place of a host, since the mask withholds the event: a request for parameters, or
-- one for a key (Core 5.2, volume 6 part B, sections 5.1.3.1 and 5.1.7).
use Rattle.std.proofs.Common.{Bool, true, false, Option, Some, None, is_none, List, ℕ, arith, if◌then◌else◌}
use Rattle.data_pdu.specs.declared.ctrl.Ctrl.{Ctrl}
use Rattle.link_runs.specs.control_model.Control.{Control, Owes, after}
use Rattle.link_calls.specs.link_model.Facts.{Facts as EndFacts, keyed_of}
use Rattle.link_calls.specs.link_model.Hosts.{key_step}
use Rattle.link_calls.specs.link_model.enc_phase.declared.facts.Transition.TheVariants.{Refuse}
use Rattle.link_calls.specs.link_model.enc_phase.Phases.{may_follow}
use Rattle.link_calls.specs.link_model.phased_control.Phased.{Phased, key_given, key_lacking, refused_if as refused_by}
use Rattle.link_calls.specs.link_model.keyed_control.KeyedSteps.{GivesKey, LacksKey, keyed_after, keyed_moved}
use Rattle.link_calls.specs.link_model.Step.{RequestAnswered}
use Rattle.link_calls.specs.Phases.{refusal}
use Rattle.link_runs.specs.link_pairs.Hosts.{MayHost}

pub may_refuse : (facts : EndFacts) → MayHost (RequestAnswered refusal) facts
may_refuse facts = omega arith

-- ---- what an answer to a request for a key leaves of the procedures: at most a PDU is queued

abbrev pub control_keyed : Option (List ℕ) → EndFacts → Control
control_keyed key facts = (keyed_after (key_step key) (keyed_of facts)).phased.control

module _ (facts : EndFacts) (P : Control → Type 0) (here : P facts.control) (owes : (ctrl : Ctrl) (c : Control) → P c → P (after (Owes ctrl) c)) where
  refused : (may : Bool) → P (refused_by may (keyed_of facts).phased).control
  refused true = owes _ facts.control here
  refused false = owes _ facts.control here

  if_asked : (asked : Bool) (then_after : Phased) → P then_after.control → P (if asked then then_after else (keyed_of facts).phased).control
  if_asked true then_after is = is
  if_asked false then_after is = here

  pub key_control : (key : Option (List ℕ)) → P (control_keyed key facts)
  key_control None = by (is_none facts.control.ends)
    where
      by : (b : Bool) → P (if b then keyed_moved LacksKey (keyed_of facts) else keyed_of facts).phased.control
      by true = if_asked _ (key_lacking (keyed_of facts).phased) (refused (may_follow Refuse facts.encryption.phase))
      by false = here
  key_control (Some ltk) = by (is_none facts.control.ends)
    where
      by : (b : Bool) → P (if b then keyed_moved (GivesKey ltk) (keyed_of facts) else keyed_of facts).phased.control
      by true = if_asked _ (key_given (keyed_of facts).phased) (owes _ facts.control here)
      by false = here
