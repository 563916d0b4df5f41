-- What holds of open links at any time: they know some pasts, with no more heard and complete than was counted.
use Rattle.std.specs.Prelude.{ℕ, ◌<◌, ◌≤◌, IfSome, Option, Some, None, ⊤}
use Rattle.open_links.specs.OpenLinks.{Links, OpenLink, facts_in, link_at}
use Rattle.open_links.specs.Data.{complete_in}
use Rattle.open_links.specs.Knowing.{HeldLinks, Knows}

-- the last good packet was received before this slot, and no more packets than these are complete
pub record IsWithin (slot count : ℕ) (link : OpenLink) : Type 0 where
  pub heard : IfSome (facts_in link).last_good (λ good. good.slot < slot)
  pub complete : complete_in link ≤ count

-- the link that may be under a handle is within a slot and a count
abbrev pub IsWithinAt : ℕ → ℕ → Option OpenLink → Type 0
IsWithinAt slot count None = ⊤
IsWithinAt slot count (Some link) = IsWithin slot count link

-- the links that are held know some pasts
pub record AreSound (held : HeldLinks) : Type 0 where
  pub links : Links
  pub know : Knows held links held.received
  pub within : (handle : ℕ) → IsWithinAt held.heard_to held.unreported (link_at handle links)
