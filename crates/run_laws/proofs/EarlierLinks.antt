-- A link that is open at a place of a run, and was opened before the slot of an earlier place, was open there with the same setup.
use Rattle.std.proofs.Common.{◌≡◌, ◌⊎◌, inl, inr, ℕ, ◌+◌, ◌<◌, ◌≤◌, true, Some, List, ◌++◌, append_assoc, refl, sym, ap, subst, ◌∙◌, arith}
use Rattle.std.proofs.lemmas.Grind.{flat_map-append}
use Rattle.run_model.specs.link_model.Setup.{Setup as EndSetup}
use Rattle.run_model.specs.open_links.OpenLinks.{Links, OpenLink, link_at}
use Rattle.run_model.proofs.open_links.Handles.{handle_is}
use Rattle.run_model.specs.controller_model.Step.{HostOctet, TurnBegins, TurnEnds}
use Rattle.run_model.specs.controller_model.Facts.{Setup, Facts}
use Rattle.run_model.specs.controller_model.Side.{facts_of}
use Rattle.run_model.proofs.controller_model.Handles.{own_handles}
use Rattle.run_model.proofs.controller_model.LinkNotes.{all_in}
use Rattle.run_model.specs.Feeding.{AreDistinct}
use Rattle.run_model.specs.History.{Event, past_of, steps_in}
use Rattle.run_model.specs.Run.{Given, facts_at, history_of, run_of, setup_at, step_of}
use Rattle.run_model.proofs.LinkSteps.{EachLink, each_in, link_has, step_linked}
use Rattle.run_model.proofs.Stations.{is_in}
use Rattle.run_laws.proofs.Entering.{IsInTurn, turn_first, turn_kept}
use Rattle.run_laws.proofs.OpenedOnce.{opened_once, quiet}
use Rattle.run_laws.proofs.TurnPlaces.{IsTurned, Stage, Within, at_stage, stands_in_run, standing, turned, turned_on}

-- it was open at the earlier place
record WasThere (links : Links) (end : EndSetup) : Type 0 where
  link : OpenLink
  was : link_at end.link.handle links ≡ Some link
  setup : link.setup ≡ end

-- or it was opened in the slot of that place, or later
abbrev IsThereOrNew : ℕ → Links → EndSetup → Type 0
IsThereOrNew slot links end = (slot ≤ end.opened) ⊎ WasThere links end

-- so it is of each link of a later place
record IsLater (setup : Setup) (slot : ℕ) (links : Links) (stage : Stage) (begun : ℕ) (facts : Facts) : Type 0 where
  in_turn : IsInTurn setup stage begun facts
  after : slot < begun
  each : EachLink (IsThereOrNew slot links) facts.links

up_to : (slot now begun : ℕ) → slot < begun → now + 1 ≡ begun → slot ≤ now
up_to slot now begun after is = omega (arith, after, is)

later_kept : (setup : Setup) (slot : ℕ) (links : Links) → IsTurned setup (IsLater setup slot links)
later_kept setup slot links = let kept = turn_kept setup in record {
  feeds = λ begun octet facts is. record {
    in_turn = kept.feeds begun octet facts is.in_turn;
    after = is.after;
    each = quiet (IsThereOrNew slot links) setup facts (HostOctet octet) refl is.each;
  };
  begins = λ begun on facts is. record {
    in_turn = kept.begins begun on facts is.in_turn;
    after = let before = is.after in omega (arith, before);
    each = quiet (IsThereOrNew slot links) setup facts (TurnBegins begun on) refl is.each;
  };
  passes = λ phases begun received facts is.
      let now = up_to slot facts.turn.slot begun is.after is.in_turn.slot_is in record {
        in_turn = kept.passes phases begun received facts is.in_turn;
        after = is.after;
        each = step_linked (IsThereOrNew slot links) setup facts (step_of received) (record {
          made = λ channel link ends doing. inl now;
          taken = λ channel octets on pdu fields handle was doing found takes. inl now;
        }) is.each;
      };
  ends = λ begun facts is. record {
    in_turn = kept.ends begun facts is.in_turn;
    after = is.after;
    each = quiet (IsThereOrNew slot links) setup facts TurnEnds refl is.each;
  };
}

-- two links of one slot, the one at a place in the middle of a turn, the other later
pub record IsSameLink (one other : ℕ) (before now : OpenLink) : Type 0 where
  pub handle : one ≡ other
  pub setup : before.setup ≡ now.setup

module _ (given : Given) (before between rest : List Event) (station phases turns one other : ℕ) (link now : OpenLink) (distinct : AreDistinct given.stations)
    (in_it : is_in station given.stations ≡ true) (at : history_of (run_of given) ≡ (before ++ between) ++ rest)
    (stands : standing (past_of station before) ≡ Some (at_stage (Within phases) turns)) (was : link_at one (facts_at given station before).links ≡ Some link)
    (is : link_at other (facts_at given station (before ++ between)).links ≡ Some now) (same : link.setup.opened ≡ now.setup.opened)
    (earlier : link.setup.opened < (facts_at given station before).turn.slot) where
  abbrev setup : Setup
  setup = setup_at given station

  abbrev facts : Facts
  facts = facts_at given station before

  abbrev IsOfLater : Stage → ℕ → Facts → Type 0
  IsOfLater = IsLater setup facts.turn.slot facts.links

  past_is : past_of station (before ++ between) ≡ past_of station before ++ past_of station between
  past_is = flat_map-append (steps_in station) before between

  in_turn : IsInTurn setup (Within phases) turns facts
  in_turn = turned setup (IsInTurn setup) (turn_kept setup) (past_of station before) (at_stage (Within phases) turns) (turn_first setup) stands

  each_there : (handle : ℕ) (end : OpenLink) → link_at handle facts.links ≡ Some end → IsThereOrNew facts.turn.slot facts.links end.setup
  each_there handle end found = inr (record {
    link = end;
    was = ap (λ n. link_at n facts.links) (handle_is 0 handle facts.links end (own_handles setup (past_of station before)).handles found) ∙ found;
    setup = refl;
  })

  at_first : IsOfLater (Within phases) turns facts
  at_first = record {
    in_turn = in_turn;
    after = let count = in_turn.slot_is in omega (arith, count);
    each = each_in (IsThereOrNew facts.turn.slot facts.links) facts.links facts.links 0 (all_in facts.links) each_there;
  }

  later : EachLink (IsThereOrNew facts.turn.slot facts.links) (facts_at given station (before ++ between)).links
  later =
      let stands_later = stands_in_run given (before ++ between) rest station distinct in_it at in
      let holds = turned_on setup IsOfLater (later_kept setup facts.turn.slot facts.links) (past_of station before) (past_of station between)
      (at_stage (Within phases) turns) stands_later.at stands (ap standing (sym past_is) ∙ stands_later.is) at_first in
      subst (λ past. EachLink (IsThereOrNew facts.turn.slot facts.links) (facts_of setup past).links) (sym past_is) holds.each

  by_setup : IsThereOrNew facts.turn.slot facts.links now.setup → IsSameLink one other link now
  by_setup (inl late) = absurd (omega (arith, late, earlier, same))
  by_setup (inr there) =
      let under = opened_once given before (between ++ rest) station one now.setup.link.handle link there.link distinct in_it (at ∙ append_assoc before between rest) was
      there.was (same ∙ ap (λ (s : EndSetup). s.opened) (sym there.setup)) in
      let some : Some link ≡ Some there.link = sym was ∙ ap (λ n. link_at n facts.links) under ∙ there.was in
      let equal : link ≡ there.link = cc in record {
        handle = under
            ∙ handle_is 0 other (facts_at given station (before ++ between)).links now (own_handles setup (past_of station (before ++ between))).handles is;
        setup = ap (λ (l : OpenLink). l.setup) equal ∙ there.setup;
      }

  pub same_link : IsSameLink one other link now
  same_link = by_setup (link_has (IsThereOrNew facts.turn.slot facts.links) 0 other (facts_at given station (before ++ between)).links now later is)
