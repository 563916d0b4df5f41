-- A link that is open at a controller goes on under its handle, call by call, until it is shut.
use Rattle.std.proofs.Common.{◌≡◌, ℕ, suc, ◌+◌, ◌<◌, ◌≤◌, ◌==◌, Bool, true, false, Option, Some, None, List, [], ◌∷◌, ◌++◌, refl, sym, ap, subst, ◌∙◌, append-nil, append_assoc, arith, if◌then◌else◌}
use Rattle.std.proofs.lemmas.List.Sums.{fold-append}
use Rattle.journal_endings.specs.controller_model.declared.doing.Doing.{Doing}
use Rattle.journal_endings.specs.controller_model.Facts.{Facts, Setup}
use Rattle.journal_endings.specs.controller_model.Heard.{has_room}
use Rattle.journal_endings.specs.controller_model.Side.{facts_after, facts_of}
use Rattle.journal_endings.specs.controller_model.Step.{Step, HostOctet, TurnBegins, PacketHeard, NothingHeard, TurnEnds}
use Rattle.journal_endings.specs.link_calls.Phases.{HasPassed, IsNew, Stays, Takes, link_worded}
use Rattle.journal_endings.specs.link_calls.Uses.{listens_under, sends_under}
use Rattle.journal_endings.proofs.link_calls.LinkCalls.{phase_under}
use Rattle.journal_endings.proofs.link_calls.Worded.{each_worded, worded_setup}
use Rattle.journal_endings.proofs.link_calls.UnderHandles.{WasAlike, end_under, octet_under}
use Rattle.journal_endings.specs.journal_indications.journal_data.link_model.Step.{Step as EndStep, PacketReceived, WordsGiven}
use Rattle.journal_endings.specs.journal_indications.journal_data.open_links.OpenLinks.{Links, OpenLink, link_at}
use Rattle.journal_endings.specs.journal_indications.journal_data.run_model.Run.{step_of}
use Rattle.journal_endings.proofs.journal_indications.journal_data.run_laws.Entering.{IsInTurn, turn_first, turn_kept}
use Rattle.journal_endings.proofs.journal_indications.journal_data.run_laws.TurnPlaces.{Between, Stage, Standing, Within, at_stage, before_stands, standing, turned}
use Rattle.journal_endings.proofs.run_pairs.CallPlaces.{more_of}
use Rattle.journal_ends.proofs.GrownLinks.{begun_grown, taken_grown}

-- the link under a handle was open there before, and more happened to its end since
pub record Continues (links : Links) (handle : ℕ) (link : OpenLink) : Type 0 where
  pub was : OpenLink
  pub was_open : link_at handle links ≡ Some was
  pub setup_is : link.setup ≡ was.setup
  pub steps : List EndStep
  pub past_is : link.past ≡ was.past ++ steps

then_on : (links : Links) (handle : ℕ) (link after : OpenLink) (more : List EndStep) → after.setup ≡ link.setup → after.past ≡ link.past ++ more
    → Continues links handle link → Continues links handle after
then_on links handle link after more setup past one = record {
  was = one.was;
  was_open = one.was_open;
  setup_is = setup ∙ one.setup_is;
  steps = one.steps ++ more;
  past_is = past ∙ ap (λ (xs : List EndStep). xs ++ more) one.past_is ∙ append_assoc one.was.past one.steps more;
}

-- ---- how many turns a controller began

grown_if : (same : Bool) (one : Standing) (begun : ℕ) (at : Standing) → begun ≤ one.begun → (if same then Some one else None) ≡ Some at → begun ≤ at.begun
grown_if true one begun at less is = let equal : one ≡ at = cc in subst (λ (s : Standing). begun ≤ s.begun) equal less
grown_if false one begun at less is = absurd cc

grown_one : (one at : Standing) (begun : ℕ) → begun ≤ one.begun → Some one ≡ Some at → begun ≤ at.begun
grown_one one at begun less is = grown_if true one begun at less is

later_turns : (n : ℕ) → n ≤ n + 1
later_turns n = omega arith

same_turns : (n : ℕ) → n ≤ n
same_turns n = omega arith

none_grown : (at : Standing) (X : Type 0) → None ≡ Some at → X
none_grown at X is = absurd cc

stage_grows : (stage : Stage) (begun : ℕ) (past : List Step) (step : Step) (at : Standing) → standing past ≡ Some (at_stage stage begun)
    → standing (past ++ step ∷ []) ≡ Some at → begun ≤ at.begun
stage_grows Between begun past (HostOctet octet) at is after =
    let one : standing (past ++ HostOctet octet ∷ []) ≡ Some (at_stage Between begun) = more_of _ _ past (HostOctet octet) _ is in
    grown_one (at_stage Between begun) at begun (same_turns begun) (sym one ∙ after)
stage_grows Between begun past (TurnBegins slot on) at is after =
    let one : standing (past ++ TurnBegins slot on ∷ []) ≡ (if slot == begun then Some (at_stage (Within 0) (begun + 1)) else None) =
    more_of _ _ past (TurnBegins slot on) _ is in
    grown_if (slot == begun) (at_stage (Within 0) (begun + 1)) begun at (later_turns begun) (sym one ∙ after)
stage_grows Between begun past (PacketHeard octets) at is after =
    let one : standing (past ++ PacketHeard octets ∷ []) ≡ None = more_of _ _ past (PacketHeard octets) _ is in none_grown at _ (sym one ∙ after)
stage_grows Between begun past NothingHeard at is after =
    let one : standing (past ++ NothingHeard ∷ []) ≡ None = more_of _ _ past NothingHeard _ is in none_grown at _ (sym one ∙ after)
stage_grows Between begun past TurnEnds at is after =
    let one : standing (past ++ TurnEnds ∷ []) ≡ None = more_of _ _ past TurnEnds _ is in none_grown at _ (sym one ∙ after)
stage_grows (Within phases) begun past (HostOctet octet) at is after =
    let one : standing (past ++ HostOctet octet ∷ []) ≡ None = more_of _ _ past (HostOctet octet) _ is in none_grown at _ (sym one ∙ after)
stage_grows (Within phases) begun past (TurnBegins slot on) at is after =
    let one : standing (past ++ TurnBegins slot on ∷ []) ≡ None = more_of _ _ past (TurnBegins slot on) _ is in none_grown at _ (sym one ∙ after)
stage_grows (Within phases) begun past (PacketHeard octets) at is after =
    let one : standing (past ++ PacketHeard octets ∷ []) ≡ Some (at_stage (Within (suc phases)) begun) = more_of _ _ past (PacketHeard octets) _ is in
    grown_one (at_stage (Within (suc phases)) begun) at begun (same_turns begun) (sym one ∙ after)
stage_grows (Within phases) begun past NothingHeard at is after =
    let one : standing (past ++ NothingHeard ∷ []) ≡ Some (at_stage (Within (suc phases)) begun) = more_of _ _ past NothingHeard _ is in
    grown_one (at_stage (Within (suc phases)) begun) at begun (same_turns begun) (sym one ∙ after)
stage_grows (Within phases) begun past TurnEnds at is after =
    let one : standing (past ++ TurnEnds ∷ []) ≡ (if phases == 3 then Some (at_stage Between begun) else None) = more_of _ _ past TurnEnds _ is in
    grown_if (phases == 3) (at_stage Between begun) begun at (same_turns begun) (sym one ∙ after)

-- ---- one call

too_late : (X : Type 0) (opened slot begun bound : ℕ) → opened < bound → bound + 1 ≤ begun → slot + 1 ≡ begun → opened ≡ slot → X
too_late X opened slot begun bound small more is new = absurd (omega (arith, small, more, is, new))

module _ (setup : Setup) where
  facts_grow : (past : List Step) (step : Step) → facts_of setup (past ++ step ∷ []) ≡ facts_after setup (facts_of setup past) step
  unfolding facts_of
  facts_grow past step = fold-append (facts_after setup) _ past (step ∷ [])

  in_turn : (past : List Step) (stage : Stage) (begun : ℕ) → standing past ≡ Some (at_stage stage begun) → IsInTurn setup stage begun (facts_of setup past)
  in_turn past stage begun is = turned setup (IsInTurn setup) (turn_kept setup) past (at_stage stage begun) (turn_first setup) is

  was_alike : (facts : Facts) (handle : ℕ) (link : OpenLink) → WasAlike (link_at handle facts.links) link → Continues facts.links handle link
  was_alike facts handle link alike =
      record { was = alike.link; was_open = alike.was; setup_is = alike.setup; steps = alike.more; past_is = alike.past }

  -- it may be given words
  record HasWords (link base : OpenLink) : Type 0 where
    setup_is : base.setup ≡ link.setup
    steps : List EndStep
    past_is : base.past ≡ link.past ++ steps

  worded_on : (facts : Facts) (doing : Doing) (link : OpenLink) → HasWords link (link_worded setup facts doing link)
  worded_on facts doing link =
      each_worded (HasWords link) setup facts doing link (record { setup_is = refl; steps = []; past_is = sym (append-nil link.past) })
      (λ skd_s iv_s. record { setup_is = refl; steps = WordsGiven skd_s iv_s ∷ []; past_is = refl })

  passed_on : (past : List Step) (phases begun bound : ℕ) (received : Option (List ℕ)) (handle : ℕ) (link : OpenLink)
      → standing past ≡ Some (at_stage (Within phases) begun) → bound + 1 ≤ begun → link.setup.opened < bound
      → HasPassed setup (facts_of setup past) (has_room setup (facts_of setup past)) received handle
      (facts_after setup (facts_of setup past) (step_of received)).turn.doing link
      → Continues (facts_of setup past).links handle link
  passed_on past phases begun bound received handle link stands more small (IsNew end made opened off) =
      too_late _ link.setup.opened (facts_of setup past).turn.slot begun bound small more (in_turn past (Within phases) begun stands).slot_is
      (ap (λ (l : OpenLink). l.setup.opened) made ∙ opened)
  passed_on past phases begun bound received handle link stands more small (Stays was none nothing listened) =
      record { was = link; was_open = was; setup_is = refl; steps = []; past_is = sym (append-nil link.past) }
  passed_on past phases begun bound received handle link stands more small (Takes base octets was some on same) =
      let facts = facts_of setup past in
      let held = link_worded setup facts facts.turn.doing base in
      let words = worded_on facts facts.turn.doing base in
      let taken = taken_grown (sends_under handle (facts_after setup facts (step_of received)).turn.doing) handle
      (has_room setup facts) octets facts held link same in
      let heard = PacketReceived facts.turn.slot octets (has_room setup facts) ∷ taken.steps in
      record {
        was = base;
        was_open = was;
        setup_is = taken.setup_is ∙ words.setup_is;
        steps = words.steps ++ heard;
        past_is = taken.past_is ∙ ap (λ (xs : List EndStep). xs ++ heard) words.past_is ∙ append_assoc base.past words.steps heard;
      }

  phased_on : (past : List Step) (stage : Stage) (begun bound : ℕ) (received : Option (List ℕ)) (at : Standing) (handle : ℕ) (link : OpenLink)
      → standing past ≡ Some (at_stage stage begun) → standing (past ++ step_of received ∷ []) ≡ Some at → bound + 1 ≤ begun → link.setup.opened < bound
      → link_at handle (facts_after setup (facts_of setup past) (step_of received)).links ≡ Some link → Continues (facts_of setup past).links handle link
  phased_on past (Within phases) begun bound received at handle link stands after more small is =
      passed_on past phases begun bound received handle link stands more small (phase_under setup (facts_of setup past) received handle link is)
  phased_on past Between begun bound None at handle link stands after more small is =
      let one : standing (past ++ NothingHeard ∷ []) ≡ None = more_of _ _ past NothingHeard _ stands in none_grown at _ (sym one ∙ after)
  phased_on past Between begun bound (Some octets) at handle link stands after more small is =
      let one : standing (past ++ PacketHeard octets ∷ []) ≡ None = more_of _ _ past (PacketHeard octets) _ stands in none_grown at _ (sym one ∙ after)

  call_on : (past : List Step) (stage : Stage) (begun bound : ℕ) (step : Step) (at : Standing) (handle : ℕ) (link : OpenLink)
      → standing past ≡ Some (at_stage stage begun) → standing (past ++ step ∷ []) ≡ Some at → bound + 1 ≤ begun → link.setup.opened < bound
      → link_at handle (facts_after setup (facts_of setup past) step).links ≡ Some link → Continues (facts_of setup past).links handle link
  call_on past stage begun bound (HostOctet octet) at handle link stands after more small is =
      was_alike (facts_of setup past) handle link (octet_under setup (facts_of setup past) octet handle link is)
  call_on past stage begun bound (TurnBegins slot on) at handle link stands after more small is =
      let grown = begun_grown setup (facts_of setup past) slot on handle link is in
      record { was = grown.base; was_open = grown.was; setup_is = grown.is.setup_is; steps = grown.is.steps; past_is = grown.is.past_is }
  call_on past stage begun bound (PacketHeard octets) at handle link stands after more small is =
      phased_on past stage begun bound (Some octets) at handle link stands after more small is
  call_on past stage begun bound NothingHeard at handle link stands after more small is =
      phased_on past stage begun bound None at handle link stands after more small is
  call_on past stage begun bound TurnEnds at handle link stands after more small is =
      was_alike (facts_of setup past) handle link (end_under setup (facts_of setup past) handle link is)

  -- ---- more calls

  still : (bound begun later : ℕ) → bound + 1 ≤ begun → begun ≤ later → bound + 1 ≤ later
  still bound begun later one other = omega (arith, one, other)

  pub continues : (more past : List Step) (stage : Stage) (begun bound : ℕ) (at : Standing) (handle : ℕ) (link : OpenLink)
      → standing past ≡ Some (at_stage stage begun) → standing (past ++ more) ≡ Some at → bound + 1 ≤ begun → link.setup.opened < bound
      → link_at handle (facts_of setup (past ++ more)).links ≡ Some link → Continues (facts_of setup past).links handle link
  continues [] past stage begun bound at handle link stands after less small is =
      record {
        was = link;
        was_open = ap (λ (xs : List Step). link_at handle (facts_of setup xs).links) (sym (append-nil past)) ∙ is;
        setup_is = refl;
        steps = [];
        past_is = sym (append-nil link.past);
      }
  continues (step ∷ more) past stage begun bound at handle link stands after less small is =
      let next = past ++ step ∷ [] in
      let split : next ++ more ≡ past ++ step ∷ more = append_assoc past (step ∷ []) more in
      let here = before_stands next more at (ap standing split ∙ after) in
      let turns = stage_grows stage begun past step here.at stands here.is in
      let later = continues more next here.at.stage here.at.begun bound at handle link here.is (ap standing split ∙ after)
      (still bound begun here.at.begun less turns) small (ap (λ (xs : List Step). link_at handle (facts_of setup xs).links) split ∙ is) in
      let first = call_on past stage begun bound step here.at handle later.was stands here.is less
      (subst (λ n. n < bound) (ap (λ s. s.opened) later.setup_is) small)
      (ap (λ (f : Facts). link_at handle f.links) (sym (facts_grow past step)) ∙ later.was_open) in
      then_on (facts_of setup past).links handle later.was link later.steps later.setup_is later.past_is first

  -- ---- a link that receives octets, and what happens to it since

  pub record IsSince (facts : Facts) (octets : List ℕ) (handle other : ℕ) (one link : OpenLink) : Type 0 where
    pub handle_is : handle ≡ other
    pub setup_is : link.setup ≡ one.setup
    pub steps : List EndStep
    pub past_is : link.past ≡ one.past ++ PacketReceived facts.turn.slot octets (has_room setup facts) ∷ steps

  module _ (past : List Step) (phases begun : ℕ) (octets : List ℕ) (handle : ℕ) (one : OpenLink)
      (stands : standing past ≡ Some (at_stage (Within phases) begun)) (is_open : link_at handle (facts_of setup past).links ≡ Some one)
      (listens : listens_under handle (facts_of setup past).turn.doing ≡ true) (old : one.setup.opened < (facts_of setup past).turn.slot)
      (single : (other : ℕ) (found : OpenLink) → link_at other (facts_of setup past).links ≡ Some found → found.setup.opened ≡ one.setup.opened → handle ≡ other)
      (unworded : link_worded setup (facts_of setup past) (facts_of setup past).turn.doing one ≡ one) where
    abbrev facts : Facts
    facts = facts_of setup past

    slot_is : facts.turn.slot + 1 ≡ begun
    slot_is = (in_turn past (Within phases) begun stands).slot_is

    at_most : (n m : ℕ) → n ≡ m → n ≤ m
    at_most n m is = omega (arith, is)

    not_heard : (X : Type 0) → Some octets ≡ None → X
    not_heard X is = absurd cc

    received_first : (other : ℕ) (link : OpenLink) → link.setup.opened ≡ one.setup.opened
        → HasPassed setup facts (has_room setup facts) (Some octets) other (facts_after setup facts (PacketHeard octets)).turn.doing link
        → IsSince facts octets handle other one link
    received_first other link same (IsNew end made opened off) =
        too_late _ link.setup.opened facts.turn.slot begun facts.turn.slot (subst (λ n. n < facts.turn.slot) (sym same) old)
        (at_most (facts.turn.slot + 1) begun slot_is) slot_is (ap (λ (l : OpenLink). l.setup.opened) made ∙ opened)
    received_first other link same (Stays was none nothing listened) =
        not_heard _ (nothing (subst (λ n. listens_under n facts.turn.doing ≡ true) (single other link was same) listens))
    received_first other link same (Takes base heard was some on is) =
        let held = link_worded setup facts facts.turn.doing base in
        let taken = taken_grown (sends_under other (facts_after setup facts (PacketHeard octets)).turn.doing) other
        (has_room setup facts) heard facts held link is in
        let here = single other base was (ap (λ s. s.opened) (sym (taken.setup_is ∙ worded_setup setup facts facts.turn.doing base)) ∙ same) in
        let found : Some base ≡ Some one = sym was ∙ ap (λ n. link_at n facts.links) (sym here) ∙ is_open in
        let base_is : base ≡ one = cc in
        let held_is : held ≡ one = ap (link_worded setup facts facts.turn.doing) base_is ∙ unworded in
        let octets_are : octets ≡ heard = cc in
        record {
          handle_is = here;
          setup_is = taken.setup_is ∙ ap (λ (l : OpenLink). l.setup) held_is;
          steps = taken.steps;
          past_is = taken.past_is
              ∙ (λ i. (held_is i).past ++ PacketReceived facts.turn.slot (sym octets_are i) (has_room setup facts) ∷ taken.steps);
        }

    since_on : (other : ℕ) (base link : OpenLink) (more : List EndStep) → link.setup ≡ base.setup → link.past ≡ base.past ++ more
        → IsSince facts octets handle other one base → IsSince facts octets handle other one link
    since_on other base link more setup_is past_is since = record {
      handle_is = since.handle_is;
      setup_is = setup_is ∙ since.setup_is;
      steps = since.steps ++ more;
      past_is = past_is ∙ ap (λ (xs : List EndStep). xs ++ more) since.past_is
          ∙ append_assoc one.past (PacketReceived facts.turn.slot octets (has_room setup facts) ∷ since.steps) more;
    }

    pub since_received : (more : List Step) (at : Standing) (other : ℕ) (link : OpenLink)
        → standing (past ++ PacketHeard octets ∷ more) ≡ Some at → link.setup.opened ≡ one.setup.opened
        → link_at other (facts_of setup (past ++ PacketHeard octets ∷ more)).links ≡ Some link → IsSince facts octets handle other one link
    since_received more at other link after same is =
        let next = past ++ PacketHeard octets ∷ [] in
        let split : next ++ more ≡ past ++ PacketHeard octets ∷ more = append_assoc past (PacketHeard octets ∷ []) more in
        let stood : standing next ≡ Some (at_stage (Within (suc phases)) begun) = more_of _ _ past (PacketHeard octets) _ stands in
        let later = continues more next (Within (suc phases)) begun facts.turn.slot at other link stood (ap standing split ∙ after)
        (at_most (facts.turn.slot + 1) begun slot_is) (subst (λ n. n < facts.turn.slot) (sym same) old)
        (ap (λ (xs : List Step). link_at other (facts_of setup xs).links) split ∙ is) in
        since_on other later.was link later.steps later.setup_is later.past_is
        (received_first other later.was (ap (λ s. s.opened) (sym later.setup_is) ∙ same)
        (phase_under setup facts (Some octets) other later.was
        (ap (λ (f : Facts). link_at other f.links) (sym (facts_grow past (PacketHeard octets))) ∙ later.was_open)))
