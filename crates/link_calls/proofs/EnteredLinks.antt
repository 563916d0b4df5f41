-- What is open under a handle once the links have entered their events, and what an event with a second exchange was.
use Rattle.std.proofs.Common.{◌≡◌, ℕ, Bool, true, false, Option, Some, None, refl, sym, ap, ◌∙◌}
use Rattle.std.specs.Prelude.{◌&&◌, not, if◌then◌else◌}
use Rattle.std.specs.Option.{option_map}
use Rattle.run_laws.specs.link_model.Facts.{Facts as EndFacts}
use Rattle.run_laws.specs.link_model.Times.{has_second_exchange}
use Rattle.run_laws.specs.open_links.OpenLinks.{OpenLink, has_entered, in_event, link_at}
use Rattle.run_laws.specs.open_links.Turns.{link_entered}
use Rattle.run_laws.specs.controller_model.Facts.{Facts}
use Rattle.run_laws.specs.controller_model.Radio.{facts_entering}
use Rattle.link_calls.proofs.RadioUses.{first_of_both}
use Rattle.link_calls.proofs.UnderHandles.{map_under}
use Rattle.run_laws.specs.controller_model.Entering.{all_entered}

-- a link that has entered an event is open
pub open_in_event : (place : Option OpenLink) (one : OpenLink) → in_event place ≡ Some one → place ≡ Some one
open_in_event None one is = absurd cc
open_in_event (Some link) one is = by (has_entered link) is
  where
    by : (entered : Bool) → (if entered then Some link else None) ≡ Some one → Some link ≡ Some one
    by true same = same
    by false none = absurd cc

-- an event with a second exchange was heard in the first
pub continued : (facts : EndFacts) → has_second_exchange facts ≡ true → facts.event.heard ≡ true
continued facts is =
    let both = first_of_both (facts.event.heard && facts.event.more) (not facts.lengths.long && not facts.lengths.changed) is in
    first_of_both facts.event.heard facts.event.more both

-- the links before they enter their events, and one of them
module _ (slot handle : ℕ) (begun : Facts) (link : OpenLink) (at : link_at handle begun.links ≡ Some link) where
  -- what it is then
  pub entered_is : (found : Option OpenLink) (other : ℕ) → other ≡ handle → link_at other (facts_entering slot begun).links ≡ found → found ≡ Some (link_entered slot link)
  entered_is found other same is =
      sym is ∙ ap (λ n. link_at n (all_entered slot begun.links)) same ∙ map_under (option_map (link_entered slot)) refl 0 handle begun.links ∙ ap (option_map (link_entered slot)) at
