-- The steps of a command on all links may come; and what is answered at once is no step.
use Rattle.std.proofs.Common.{◌≡◌, ℕ, zero, suc, ◌+◌, Bool, true, false, List, [], ◌∷◌, Option, Some, None, refl, subst, arith}
use Rattle.std.specs.List.{AllByRecursion}
use Rattle.ble_base.specs.declared.procedure_kinds.Kind.TheVariants.{Features, Version}
use Rattle.hci_cmd.specs.declared.command.Command.{Command}
use Rattle.link_commands.specs.open_links.link_model.Facts.{Facts}
use Rattle.link_commands.specs.open_links.link_model.Step.{Step}
use Rattle.link_pairs.specs.Hosts.{MayHost}
use Rattle.host_view.specs.declared.links.Link.{Link}
use Rattle.host_view.specs.View.{View}
use Rattle.host_view.specs.Changes.{asking}
use Rattle.host_view.specs.Links.{is_asked, link_in}
use Rattle.host_view.specs.Refusals.{count_if}
use Rattle.host_view.specs.Status.{status_of}
use Rattle.link_commands.specs.declared.moments.Moment.{Moment}
use Rattle.link_commands.specs.Commands.{host_step_of, host_steps, host_steps_from, is_about, step_if_about, with_host_step}
use Rattle.host_asks.specs.Commands.{MayComeIf, WordsFit}
use Rattle.host_asks.specs.Knowing.{KnowsAsks}
use Rattle.host_asks.proofs.Accepting.{command_may_come}

module _ (view : View) (command : Command) (moment : Moment) (facts_at : ℕ → Facts) (ok : status_of view command ≡ 0) (words : WordsFit moment) where
  abbrev All : List (ℕ × Step) → Type 0
  All steps = AllByRecursion (λ (step : ℕ × Step). MayHost step.1 (facts_at step.0)) steps

  -- the links from a handle on are those of the view, and their ends are known
  abbrev AreKnown : ℕ → List (Option Link) → Type 0
  AreKnown first links =
      (place : ℕ) (link : Link) → link_in links place ≡ Some link
      → KnowsAsks link (facts_at (first + place)) × (link_in view.links (first + place) ≡ Some link)

  one_more : (handle : ℕ) (step : Option Step) (steps : List (ℕ × Step)) → MayComeIf step (facts_at handle) → All steps → All (with_host_step handle step steps)
  one_more handle None steps may are = are
  one_more handle (Some step) steps may are = (may, are)

  if_about : (handle : ℕ) (about : Bool) (link : Link) → is_about handle command ≡ about → KnowsAsks link (facts_at handle) → link_in view.links handle ≡ Some link
      → MayComeIf (step_if_about about (host_step_of command moment link.role (facts_at handle).peer)) (facts_at handle)
  if_about handle true link about knows is = command_may_come view command handle moment link (facts_at handle) ok about is knows words
  if_about handle false link about knows is = tt

  each : (first : ℕ) (links : List (Option Link)) → AreKnown first links → All (host_steps_from first command moment links (λ handle. (facts_at handle).peer))
  each first [] known = tt
  each first (None ∷ links) known = each (first + 1) links (later first None links known)
    where
      later : (first : ℕ) (link : Option Link) (links : List (Option Link)) → AreKnown first (link ∷ links) → AreKnown (first + 1) links
      later first link links known place found is =
          subst (λ (handle : ℕ). KnowsAsks found (facts_at handle) × (link_in view.links handle ≡ Some found)) (omega arith) (known (suc place) found is)
  each first (Some link ∷ links) known =
      one_more first (step_if_about (is_about first command) (host_step_of command moment link.role (facts_at first).peer)) _
      (if_about first (is_about first command) link refl here.0 here.1) (each (first + 1) links later)
    where
      here : KnowsAsks link (facts_at first) × (link_in view.links first ≡ Some link)
      here = subst (λ (handle : ℕ). KnowsAsks link (facts_at handle) × (link_in view.links handle ≡ Some link)) (omega arith) (known zero link refl)

      later : AreKnown (first + 1) links
      later place found is =
          subst (λ (handle : ℕ). KnowsAsks found (facts_at handle) × (link_in view.links handle ≡ Some found)) (omega arith) (known (suc place) found is)

  pub all_may_come : ((handle : ℕ) (link : Link) → link_in view.links handle ≡ Some link → KnowsAsks link (facts_at handle))
      → All (host_steps command moment view.links (λ handle. (facts_at handle).peer))
  all_may_come known =
      each 0 view.links
      (λ place link is. (
        subst (λ (handle : ℕ). KnowsAsks link (facts_at handle)) (omega arith) (known place link is),
        subst (λ (handle : ℕ). link_in view.links handle ≡ Some link) (omega arith) is,
      ))

-- ---- what is answered at once

none_is_one : (n : ℕ) (before : Bool) → n ≡ count_if before → before ≡ false → n ≡ 1 → ⊥
none_is_one n true is none one = absurd (cc)
none_is_one n false is none one = omega (arith, is, one)

pub version_differs : (link : Link) (facts : Facts) → KnowsAsks link facts → is_asked Version link.asked ≡ false → KnowsAsks (asking Version link) facts → ⊥
version_differs link facts knows none asks = none_is_one _ (is_asked Version link.asked) (knows.table.asked Version refl) none (asks.table.asked Version refl)

pub features_differ : (link : Link) (facts : Facts) → KnowsAsks link facts → is_asked Features link.asked ≡ false → KnowsAsks (asking Features link) facts → ⊥
features_differ link facts knows none asks = none_is_one _ (is_asked Features link.asked) (knows.table.asked Features refl) none (asks.table.asked Features refl)
