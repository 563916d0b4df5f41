-- The ends of the open links of a controller that the view of its host knows (our choice).
use Rattle.std.specs.Prelude.{◌≡◌, ℕ, Some, None}
use Rattle.procedure_events.specs.procedure_stages.declared.steps.Effect.{Effect}
use Rattle.link_commands.specs.open_links.OpenLinks.{HaveHandles, Links, OpenLink, facts_in, link_at}
use Rattle.host_view.specs.View.{View}
use Rattle.host_asks.specs.Views.{KnowsAt, KnowsOnceReported}

-- each link is under the handle of its setup, and the view knows each end until a procedure ends the link
pub record KnowsOpenEnds (view : View) (links : Links) : Type 0 where
  pub handles : HaveHandles 0 links
  pub each :
      (handle : ℕ) (link : OpenLink) → link_at handle links ≡ Some link → (facts_in link).control.ends ≡ None
      → KnowsAt view handle (facts_in link)

-- the same, once its host has received what is left of a step of the link with this handle
pub record KnowsOpenEndsOnceReported (handle : ℕ) (effect : Effect) (view : View) (links : Links) : Type 0 where
  pub handles : HaveHandles 0 links
  pub own :
      (link : OpenLink) → link_at handle links ≡ Some link → (facts_in link).control.ends ≡ None
      → KnowsOnceReported effect view handle (facts_in link)
  pub others :
      (other : ℕ) (link : OpenLink) → (other ≡ handle → ⊥) → link_at other links ≡ Some link
      → (facts_in link).control.ends ≡ None → KnowsAt view other (facts_in link)
