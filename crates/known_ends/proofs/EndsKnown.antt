-- The view of a controller knows the end of each open link for which it has a place, at any time.
use Rattle.std.proofs.Common.{◌≡◌, ℕ, ◌+◌, ◌<◌, ◌≤◌, Some, None, List, [], length, refl, sym, subst, ◌∙◌, arith}
use Rattle.std.specs.Prelude.{IfSome}
use Rattle.controller_model.specs.open_links.OpenLinks.{HasHandle, OpenLink, facts_in, link_at}
use Rattle.controller_model.proofs.open_links.Empty.{none_at}
use Rattle.controller_model.proofs.open_links.Handles.{has_its_handle}
use Rattle.host_asks.specs.OpenEnds.{KnowsOpenEnds}
use Rattle.host_asks.specs.Views.{KnowsAt}
use Rattle.host_asks.proofs.OpenLinksKnown.{IsKnownAt}
use Rattle.controller_model.specs.Facts.{Setup, Facts, first_facts}
use Rattle.controller_model.specs.Side.{facts_after, facts_of}
use Rattle.controller_model.specs.Step.{Step, HostOctet, TurnBegins, PacketHeard, NothingHeard, TurnEnds}
use Rattle.controller_model.proofs.Always.{IsInTurn, holds_step, kept_always}
use Rattle.controller_model.proofs.Handles.{HaveOwnHandles, below_at, handles_kept, own_handles}
use Rattle.known_ends.proofs.CommandsKnown.{octet_known}
use Rattle.known_ends.proofs.TurnsKnown.{known_at, known_under, turn_known}
use Rattle.known_ends.proofs.ViewPlaces.{HasSixPlaces, six_after}

record IsKnown (setup : Setup) (facts : Facts) : Type 0 where
  own : HaveOwnHandles setup facts
  six : HasSixPlaces facts
  known : (handle : ℕ) → handle < 6 → IsKnownAt facts.view facts.links handle

module _ (setup : Setup) where
  turn_keeps : (handle : ℕ) → handle < 6 → (facts : Facts) (step : Step) → IsInTurn step → IsKnown setup facts
      → IsKnownAt (facts_after setup facts step).view (facts_after setup facts step).links handle
  turn_keeps handle low facts step turn is =
      known_at handle (facts_after setup facts step)
      (turn_known handle setup low facts step turn is.own is.six (known_under handle facts is.own.handles (is.known handle low)))

  ends_after : (handle : ℕ) → handle < 6 → (facts : Facts) (step : Step) → IsKnown setup facts
      → IsKnownAt (facts_after setup facts step).view (facts_after setup facts step).links handle
  ends_after handle low facts (HostOctet octet) is = octet_known setup handle facts octet is.own.handles (is.known handle low)
  ends_after handle low facts (TurnBegins slot on) is = turn_keeps handle low facts (TurnBegins slot on) tt is
  ends_after handle low facts (PacketHeard octets) is = turn_keeps handle low facts (PacketHeard octets) tt is
  ends_after handle low facts NothingHeard is = turn_keeps handle low facts NothingHeard tt is
  ends_after handle low facts TurnEnds is = turn_keeps handle low facts TurnEnds tt is

  known_after : (facts : Facts) (step : Step) → IsKnown setup facts → IsKnown setup (facts_after setup facts step)
  known_after facts step is = record {
    own = holds_step setup (HaveOwnHandles setup) (HaveOwnHandles setup) (handles_kept setup) facts step is.own;
    six = six_after setup facts step is.six;
    known = λ handle low. ends_after handle low facts step is;
  }

  first_known : IsKnown setup (first_facts setup)
  unfolding facts_of
  first_known = record {
    own = own_handles setup [];
    six = refl;
    known = λ handle low link is lasts. absurd (let h : None ≡ Some link = sym (none_at 0 handle setup.links) ∙ is in cc);
  }

  always_known : (past : List Step) → IsKnown setup (facts_of setup past)
  always_known past = kept_always setup (IsKnown setup) known_after first_known past

  pub end_known : (past : List Step) (handle : ℕ) (link : OpenLink) → handle < 6 → link_at handle (facts_of setup past).links ≡ Some link
      → (facts_in link).control.ends ≡ None → KnowsAt (facts_of setup past).view handle (facts_in link)
  end_known past handle link low = (always_known past).known handle low link

  pub six_places : (past : List Step) → length (facts_of setup past).view.links ≡ 6
  six_places past = (always_known past).six

  -- where it has a place for each
  pub ends_known : (past : List Step) → setup.links ≤ 6 → KnowsOpenEnds (facts_of setup past).view (facts_of setup past).links
  ends_known past few =
      let facts = facts_of setup past in
      let own = own_handles setup past in
      record {
        handles = own.handles;
        each = λ handle link is.
            let has = subst (HasHandle handle) is (has_its_handle 0 handle facts.links own.handles) in
            let below = subst (λ place. IfSome place (λ link. link.setup.link.handle < 0 + length facts.links)) is (below_at handle facts.links own.handles) in
            end_known past handle link (omega (arith, has, below, own.many, few)) is;
      }
