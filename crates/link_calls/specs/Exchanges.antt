-- In which slots an end sends and listens (Core 5.2, volume 6 part B, sections 4.5.1 and 4.5.6).
use Rattle.std.specs.Prelude.{◌≡◌, ◌⊎◌, ℕ, ◌+◌, ◌≤◌, true}
use Rattle.run_laws.specs.open_links.OpenLinks.{OpenLink, facts_in}

-- it has entered an event, and has an exchange in this slot: the first one of its event, at the anchor, or the second,
-- in the slot after that, where it received a good packet in the first (when there is a second one is our choice)
pub record HasExchange (slot : ℕ) (link : OpenLink) : Type 0 where
  pub entered : 1 ≤ (facts_in link).control.track.entered
  pub in_event :
      (slot ≡ (facts_in link).event.slot)
      ⊎ ((slot ≡ (facts_in link).event.slot + 1) × ((facts_in link).event.heard ≡ true))
