-- The steps of an end in which no data moves and nothing is received, and changes of a link that are a step or nothing.
use Rattle.std.proofs.Common.{◌≡◌, ℕ, ◌≤◌, ◌<◌, Bool, true, false, Option, IfSome, Result, refl, ap, sym, ◌∙◌, subst, if◌then◌else◌}
use Rattle.ble_base.specs.declared.channel_map.ChannelMap.{ChannelMap}
use Rattle.ble_base.specs.declared.error_codes.ErrCode.{ErrCode}
use Rattle.ble_base.specs.declared.roles.Role.{Role}
use Rattle.ble_base.specs.declared.roles.Role.TheVariants.{Central, Peripheral}
use Rattle.acl_banks.specs.Banks.{Bank}
use Rattle.procedures.specs.procedure_values.declared.asks.Ask.{Ask}
use Rattle.link_end.specs.link_model.Data.{Data}
use Rattle.link_end.specs.link_model.Setup.{Setup}
use Rattle.link_end.specs.link_model.declared.events.Reception.{Reception}
use Rattle.link_end.specs.link_model.Controls.{goes_on}
use Rattle.link_end.specs.link_model.Entering.{facts_entered_if}
use Rattle.link_end.specs.link_model.Facts.{Facts}
use Rattle.link_end.specs.link_model.Hosts.{asked_unless, is_to_come}
use Rattle.link_end.specs.link_model.Step.{Step, Disconnected, EventEntered, ProcedureAsked, RequestAnswered}
use Rattle.link_end.specs.link_model.End.{facts_after}
use Rattle.link_end.proofs.link_model.Pasts.{grows}
use Rattle.link_end.specs.Tied.{HoldsData}
use Rattle.open_links.proofs.Dropping.{LeavesAt}
use Rattle.open_links.specs.OpenLinks.{OpenLink, facts_in, has_entered, link_after, link_after_in_event}
use Rattle.open_links.specs.Hosts.{asked_map_by, link_asked_map}
use Rattle.open_links.specs.Turns.{enters_in, link_entered}
use Rattle.open_links.specs.Knowing.{BankStep}
use Rattle.open_links.specs.Sound.{IsWithin}

-- ---- such a step leaves the data and the last good packet

pub record LeavesData (step : Step) : Type 0 where
  pub outgoing : (setup : Setup) (facts : Facts) → (facts_after setup facts step).outgoing ≡ facts.outgoing
  pub last_good : (setup : Setup) (facts : Facts) → (facts_after setup facts step).last_good ≡ facts.last_good

pub asked_leaves : (ask : Ask) → LeavesData (ProcedureAsked ask)
asked_leaves ask =
    record {
      outgoing = λ setup facts. same (is_to_come ask facts) facts;
      last_good = λ setup facts. good (is_to_come ask facts) facts;
    }
  where
    same : (comes : Bool) (facts : Facts) → (asked_unless comes ask facts).outgoing ≡ facts.outgoing
    same true facts = refl
    same false facts = refl

    good : (comes : Bool) (facts : Facts) → (asked_unless comes ask facts).last_good ≡ facts.last_good
    good true facts = refl
    good false facts = refl

pub answered_leaves : (answer : Result Ask ErrCode) → LeavesData (RequestAnswered answer)
answered_leaves answer = record { outgoing = λ setup facts. refl; last_good = λ setup facts. refl }

pub disconnected_leaves : (reason : ErrCode) (slot : ℕ) → LeavesData (Disconnected reason slot)
disconnected_leaves reason slot = record { outgoing = λ setup facts. refl; last_good = λ setup facts. refl }

pub entered_leaves : (slot : ℕ) → LeavesData (EventEntered slot)
entered_leaves slot =
    record {
      outgoing = λ setup facts. same (goes_on facts) setup facts;
      last_good = λ setup facts. good (goes_on facts) setup facts;
    }
  where
    same : (goes : Bool) (setup : Setup) (facts : Facts) → (facts_entered_if goes setup slot facts).outgoing ≡ facts.outgoing
    same true setup facts = refl
    same false setup facts = refl

    good : (goes : Bool) (setup : Setup) (facts : Facts) → (facts_entered_if goes setup slot facts).last_good ≡ facts.last_good
    good true setup facts = refl
    good false setup facts = refl

-- ---- what such a step does to a link

outgoing_left : (step : Step) → LeavesData step → (link : OpenLink) → (facts_in (link_after step link)).outgoing ≡ (facts_in link).outgoing
outgoing_left step leaves link =
    ap (λ (facts : Facts). facts.outgoing) (grows link.setup link.past step) ∙ leaves.outgoing link.setup (facts_in link)

good_left : (step : Step) → LeavesData step → (link : OpenLink) → (facts_in (link_after step link)).last_good ≡ (facts_in link).last_good
good_left step leaves link =
    ap (λ (facts : Facts). facts.last_good) (grows link.setup link.past step) ∙ leaves.last_good link.setup (facts_in link)

pub left_bank : (step : Step) → LeavesData step → (link : OpenLink) (bank : Bank) → BankStep (link_after step) link bank bank
left_bank step leaves link bank =
    record {
      leaves = λ other differs. (refl, refl);
      holds = λ holds. subst (HoldsData link.setup.link.handle bank) (sym (outgoing_left step leaves link)) holds;
    }

pub left_within : (step : Step) → LeavesData step → (slot count : ℕ) (link : OpenLink) → IsWithin slot count link
    → IsWithin slot count (link_after step link)
left_within step leaves slot count link within =
    record {
      heard = subst (λ (last : Option Reception). IfSome last (λ good. good.slot < slot)) (sym (good_left step leaves link)) within.heard;
      complete = subst (λ (outgoing : Data). outgoing.complete ≤ count) (sym (outgoing_left step leaves link)) within.complete;
    }

-- ---- a change that is a step, or nothing

pub step_bank_if : (test : Bool) (change : OpenLink → OpenLink) (step : Step) (link : OpenLink) (before after : Bank)
    → change link ≡ (if test then link_after step link else link)
    → (test ≡ true → BankStep (link_after step) link before after) → (test ≡ false → after ≡ before)
    → BankStep change link before after
step_bank_if true change step link before after is goes stays =
    record {
      leaves = (goes refl).leaves;
      holds = λ holds. subst (λ (new : OpenLink). HoldsData link.setup.link.handle after (facts_in new).outgoing) (sym is)
          ((goes refl).holds holds);
    }
step_bank_if false change step link before after is goes stays =
    record {
      leaves = λ other differs. subst (λ (bank : Bank). LeavesAt other before bank) (sym (stays refl)) (refl, refl);
      holds = λ holds. subst (λ (new : OpenLink). HoldsData link.setup.link.handle after (facts_in new).outgoing) (sym is)
          (subst (λ (bank : Bank). HoldsData link.setup.link.handle bank (facts_in link).outgoing) (sym (stays refl)) holds);
    }

-- an end that entered an event takes the step
pub entered_bank : (step : Step) (link : OpenLink) (before after : Bank) → has_entered link ≡ true
    → BankStep (link_after step) link before after → BankStep (link_after_in_event step) link before after
entered_bank step link before after is goes =
    step_bank_if true (link_after_in_event step) step link before after (ap (λ (test : Bool). if test then link_after step link else link) is)
    (λ e. goes) (λ e. absurd cc)

pub step_within_if : (test : Bool) (new : OpenLink) (step : Step) (link : OpenLink) (slot count : ℕ)
    → new ≡ (if test then link_after step link else link)
    → IsWithin slot count (link_after step link) → IsWithin slot count link → IsWithin slot count new
step_within_if true new step link slot count is goes stays = subst (IsWithin slot count) (sym is) goes
step_within_if false new step link slot count is goes stays = subst (IsWithin slot count) (sym is) stays

step_setup_if : (test : Bool) (step : Step) (link : OpenLink) → (if test then link_after step link else link).setup ≡ link.setup
step_setup_if true step link = refl
step_setup_if false step link = refl

pub in_event_setup : (step : Step) (link : OpenLink) → (link_after_in_event step link).setup ≡ link.setup
in_event_setup step link = step_setup_if (has_entered link) step link

pub entered_setup : (slot : ℕ) (link : OpenLink) → (link_entered slot link).setup ≡ link.setup
entered_setup slot link = step_setup_if (enters_in slot link) (EventEntered slot) link

pub asked_map_setup : (map : ChannelMap) (link : OpenLink) → (link_asked_map map link).setup ≡ link.setup
asked_map_setup map link = by_role link.setup.link.role
  where
    by_role : (role : Role) → (asked_map_by role map link).setup ≡ link.setup
    by_role Central = refl
    by_role Peripheral = refl
