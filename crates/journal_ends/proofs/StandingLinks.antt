-- Before the calls of a turn, each open link is one of an earlier turn, and no procedure ended it.
use Rattle.std.proofs.Common.{◌≡◌, ℕ, ◌+◌, ◌<◌, Bool, true, false, Option, Some, None, List, replicate, if◌then◌else◌, refl, sym, ap, subst, ◌∙◌, arith}
use Rattle.std.specs.Option.{option_map}
use Rattle.ble_base.specs.declared.error_codes.ErrCode.{ErrCode}
use Rattle.journal_acks.specs.controller_model.Facts.{Setup, Facts, first_facts}
use Rattle.journal_acks.specs.controller_model.Heard.{has_room}
use Rattle.journal_acks.specs.controller_model.Side.{facts_after, facts_of}
use Rattle.journal_acks.specs.controller_model.Step.{Step as Call}
use Rattle.journal_acks.specs.link_calls.Phases.{HasPassed, IsNew, Stays, Takes, link_worded}
use Rattle.journal_acks.specs.link_calls.Uses.{sends_under}
use Rattle.journal_acks.specs.link_model.Times.{ended_by_procedures}
use Rattle.journal_acks.specs.link_model.control_model.Control.{Control}
use Rattle.journal_acks.specs.link_model.declared.state.Leaving.{Leaving}
use Rattle.journal_acks.specs.open_links.OpenLinks.{OpenLink, facts_in, link_at}
use Rattle.journal_acks.specs.open_links.Turns.{ending_in}
use Rattle.journal_acks.specs.run_model.Run.{step_of}
use Rattle.journal_acks.proofs.link_calls.LinkCalls.{phase_under}
use Rattle.journal_acks.proofs.link_calls.UnderHandles.{ended_under}
use Rattle.journal_acks.proofs.run_laws.OpenSteps.{none_open, open_has}
use Rattle.journal_acks.proofs.run_laws.Entering.{IsInTurn, turn_first, turn_kept}
use Rattle.journal_acks.proofs.run_laws.TurnPlaces.{Between, IsTurned, Stage, Within, at_stage, standing, turned}
use Rattle.journal_ends.proofs.GrownLinks.{begun_grown, ended_grown, taken_grown}
use Rattle.journal_ends.proofs.WordedLinks.{worded_as}
use Rattle.journal_ends.proofs.HostedLinks.{asked_goes_on, octet_asked}

-- no procedure of an open link ended it
abbrev AllGoOn : Facts → Type 0
AllGoOn facts = (handle : ℕ) (link : OpenLink) → link_at handle facts.links ≡ Some link → (facts_in link).control.ends ≡ None

abbrev GoOn : Stage → Facts → Type 0
GoOn Between facts = AllGoOn facts
GoOn (Within phases) facts = Unit {0}

pub record AreOlder (setup : Setup) (stage : Stage) (begun : ℕ) (facts : Facts) : Type 0 where
  pub in_turn : IsInTurn setup stage begun facts
  pub older : (handle : ℕ) (link : OpenLink) → link_at handle facts.links ≡ Some link → link.setup.opened < begun
  pub goes_on : GoOn stage facts

same_opened : (begun : ℕ) (base after : OpenLink) → after.setup ≡ base.setup → base.setup.opened < begun → after.setup.opened < begun
same_opened begun base after same less = subst (λ n. n < begun) (ap (λ s. s.opened) (sym same)) less

none_ends : (acknowledged : Bool) (ends : Option ErrCode) (leaving : Leaving) (code : ErrCode)
    → option_map (λ (one : ErrCode). one.0) (if acknowledged then Some code else ended_by_procedures ends leaving) ≡ None → ends ≡ None
none_ends true ends leaving code is = absurd cc
none_ends false None leaving code is = refl
none_ends false (Some ends) leaving code is = absurd cc

stays_on : (link : OpenLink) → ending_in link ≡ None → (facts_in link).control.ends ≡ None
stays_on link is = none_ends (facts_in link).leaving.acknowledged (facts_in link).control.ends (facts_in link).leaving _ is

passed_older : (setup : Setup) (facts : Facts) (phases begun : ℕ) (received : Option (List ℕ)) (handle : ℕ) (after : OpenLink) → AreOlder setup (Within phases) begun facts
    → HasPassed setup facts (has_room setup facts) received handle (facts_after setup facts (step_of received)).turn.doing after → after.setup.opened < begun
passed_older setup facts phases begun received handle after are (IsNew end made opened off) =
    let slot = are.in_turn.slot_is in
    let at : after.setup.opened ≡ facts.turn.slot = ap (λ (l : OpenLink). l.setup.opened) made ∙ opened in
    omega (arith, slot, at)
passed_older setup facts phases begun received handle after are (Stays was none nothing listened) = are.older handle after was
passed_older setup facts phases begun received handle after are (Takes link octets was some on same) =
    let base = link_worded setup facts facts.turn.doing link in
    let taken = taken_grown (sends_under handle (facts_after setup facts (step_of received)).turn.doing) handle (has_room setup facts) octets facts base after same in
    same_opened begun link after (taken.setup_is ∙ (worded_as setup facts facts.turn.doing link).setup_is) (are.older handle link was)

one_later : (n m : ℕ) → n < m → n < m + 1
one_later n m less = omega (arith, less)

older_kept : (setup : Setup) → IsTurned setup (AreOlder setup)
older_kept setup = let kept = turn_kept setup in record {
  feeds = λ begun octet facts are. record {
    in_turn = kept.feeds begun octet facts are.in_turn;
    older = λ handle link at.
        let asked = octet_asked setup facts handle link octet at in
        same_opened begun asked.base link asked.is.setup_is (are.older handle asked.base asked.was);
    goes_on = λ handle link at.
        let asked = octet_asked setup facts handle link octet at in
        ap (λ (c : Control). c.ends) asked.is.control_is ∙ asked_goes_on asked.base asked.is.asked asked.is.by_host ∙ are.goes_on handle asked.base asked.was;
  };
  begins = λ begun on facts are. record {
    in_turn = kept.begins begun on facts are.in_turn;
    older = λ handle link at.
        let grown = begun_grown setup facts begun on handle link at in
        one_later link.setup.opened begun (same_opened begun grown.base link grown.is.setup_is (are.older handle grown.base grown.was));
    goes_on = tt;
  };
  passes = λ phases begun received facts are. record {
    in_turn = kept.passes phases begun received facts are.in_turn;
    older = λ handle link at. passed_older setup facts phases begun received handle link are (phase_under setup facts received handle link at);
    goes_on = tt;
  };
  ends = λ begun facts are. record {
    in_turn = kept.ends begun facts are.in_turn;
    older = λ handle link at.
        let grown = ended_grown setup facts handle link at in
        same_opened begun grown.base link grown.is.setup_is (are.older handle grown.base grown.was);
    goes_on = λ handle link at. stays_on link (ended_under setup facts handle link at).stays;
  };
}

older_first : (setup : Setup) → AreOlder setup Between 0 (first_facts setup)
older_first setup = record {
  in_turn = turn_first setup;
  older = λ handle link at. absurd (open_has (λ one. ⊥) 0 handle (replicate setup.links None) link (none_open (λ one. ⊥) setup.links) at);
  goes_on = λ handle link at. absurd (open_has (λ one. ⊥) 0 handle (replicate setup.links None) link (none_open (λ one. ⊥) setup.links) at);
}

-- before a turn, after any calls that stand so
pub older_at : (setup : Setup) (past : List Call) (begun : ℕ) → standing past ≡ Some (at_stage Between begun) → AreOlder setup Between begun (facts_of setup past)
older_at setup past begun stands = turned setup (AreOlder setup) (older_kept setup) past (at_stage Between begun) (older_first setup) stands
