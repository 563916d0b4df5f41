-- A link that entered an event.
use Rattle.std.proofs.Common.{◌≡◌, ℕ, ◌+◌, ◌==◌, Bool, true, false, [], ◌∷◌, Option, Some, None, if◌then◌else◌, refl, ap}
use Rattle.std.specs.Option.{option_map}
use Rattle.link_model.specs.Step.{Step}
use Rattle.open_links.specs.OpenLinks.{Links, OpenLink, in_event, link_after, link_after_in_event, link_at, link_from, with_change, with_change_from}
use Rattle.controller_model.specs.Entering.{HasEntered}

-- it is looked at
pub in_event_is : (place : Option OpenLink) → HasEntered place → in_event place ≡ place
in_event_is None has = refl
in_event_is (Some link) has = ap (λ test. if test then Some link else None) has

-- a step that its end takes only once it entered one is the step
pub after_is : (step : Step) (place : Option OpenLink) → HasEntered place
    → option_map (link_after_in_event step) place ≡ option_map (link_after step) place
after_is step None has = refl
after_is step (Some link) has = ap (λ test. Some (if test then link_after step link else link)) has

change_from : (step : Step) (first handle : ℕ) (links : Links) → HasEntered (link_from first handle links)
    → with_change_from first handle (option_map (link_after_in_event step)) links ≡ with_change_from first handle (option_map (link_after step)) links
change_from step first handle [] has = refl
change_from step first handle (place ∷ links) has = at (first == handle) has (change_from step (first + 1) handle links)
  where
    at : (test : Bool) → HasEntered (if test then place else link_from (first + 1) handle links)
        → (HasEntered (link_from (first + 1) handle links) → with_change_from (first + 1) handle (option_map (link_after_in_event step)) links
        ≡ with_change_from (first + 1) handle (option_map (link_after step)) links)
        → (if test then option_map (link_after_in_event step) place ∷ links
        else place ∷ with_change_from (first + 1) handle (option_map (link_after_in_event step)) links)
        ≡ (if test then option_map (link_after step) place ∷ links else place ∷ with_change_from (first + 1) handle (option_map (link_after step)) links)
    at true has rest = ap (λ (changed : Option OpenLink). changed ∷ links) (after_is step place has)
    at false has rest = ap (λ (changed : Links). place ∷ changed) (rest has)

-- the same under a handle
pub change_in_event : (step : Step) (handle : ℕ) (links : Links) → HasEntered (link_at handle links)
    → with_change handle (link_after_in_event step) links ≡ with_change handle (link_after step) links
change_in_event step handle links has = change_from step 0 handle links has
