-- In a run the host of each station sends only between the turns of its controller.
use Rattle.std.proofs.Common.{◌≡◌, ℕ, suc, ◌+◌, ◌==◌, Bool, true, false, Option, Some, None, List, [], ◌∷◌, cond, refl, ap, sym, subst, ◌∙◌}
use Rattle.std.specs.Prelude.{fold}
use Rattle.journal_acks.specs.controller_model.Between.{between_after, is_between_turns}
use Rattle.journal_acks.specs.controller_model.Step.{Step, HostOctet, TurnBegins, PacketHeard, NothingHeard, TurnEnds}
use Rattle.journal_acks.proofs.run_laws.TurnPlaces.{Between, Stage, Standing, Within, at_stage, standing}
use Rattle.journal_data.proofs.FewComplete.{FedFrom, MayFeed}

abbrev pub is_between : Stage → Bool
is_between Between = true
is_between (Within phases) = false

-- its host sent only between turns, and whether it is between turns
pub record IsFedTo (between : Bool) (past : List Step) (last : Standing) : Type 0 where
  pub fed : FedFrom between past
  pub stands : fold between_after between past ≡ is_between last.stage

-- where the calls lead
record IsCourse (after : Option Standing → Step → Option Standing) : Type 0 where
  pub none : (step : Step) → after None step ≡ None
  pub fed : (begun octet : ℕ) → after (Some (at_stage Between begun)) (HostOctet octet) ≡ Some (at_stage Between begun)
  pub begins : (begun slot : ℕ) (on : Bool)
      → after (Some (at_stage Between begun)) (TurnBegins slot on) ≡ cond (slot == begun) (Some (at_stage (Within 0) (begun + 1))) None
  pub not_heard : (begun : ℕ) (octets : List ℕ) → after (Some (at_stage Between begun)) (PacketHeard octets) ≡ None
  pub not_unheard : (begun : ℕ) → after (Some (at_stage Between begun)) NothingHeard ≡ None
  pub not_ends : (begun : ℕ) → after (Some (at_stage Between begun)) TurnEnds ≡ None
  pub not_fed : (phases begun octet : ℕ) → after (Some (at_stage (Within phases) begun)) (HostOctet octet) ≡ None
  pub not_begins : (phases begun slot : ℕ) (on : Bool) → after (Some (at_stage (Within phases) begun)) (TurnBegins slot on) ≡ None
  pub heard : (phases begun : ℕ) (octets : List ℕ)
      → after (Some (at_stage (Within phases) begun)) (PacketHeard octets) ≡ Some (at_stage (Within (suc phases)) begun)
  pub unheard : (phases begun : ℕ) → after (Some (at_stage (Within phases) begun)) NothingHeard ≡ Some (at_stage (Within (suc phases)) begun)
  pub ends : (phases begun : ℕ)
      → after (Some (at_stage (Within phases) begun)) TurnEnds ≡ cond (phases == 3) (Some (at_stage Between begun)) None

module _ (after : Option Standing → Step → Option Standing) (is : IsCourse after) where
  stands_nowhere : (past : List Step) → fold after None past ≡ None
  stands_nowhere [] = refl
  stands_nowhere (step ∷ past) = subst (λ (may : Option Standing). fold after may past ≡ None) (sym (is.none step)) (stands_nowhere past)

  abbrev IsFedIf : Option Standing → List Step → Standing → Type 0
  IsFedIf None past last = Unit {0}
  IsFedIf (Some at) past last = IsFedTo (is_between at.stage) past last

  module _ (past : List Step) (last : Standing) (then_on : (next : Standing) → fold after (Some next) past ≡ Some last → IsFedTo (is_between next.stage) past last) where
    never : (may : Option Standing) (X : Type 0) → may ≡ None → fold after may past ≡ Some last → X
    never may X none stands =
        absurd (let h : None ≡ Some last = sym (subst (λ (m : Option Standing). fold after m past ≡ None) (sym none) (stands_nowhere past)) ∙ stands in absurd cc)

    onward : (may : Option Standing) (next : Standing) → may ≡ Some next → fold after may past ≡ Some last → IsFedTo (is_between next.stage) past last
    onward may next same stands = then_on next (subst (λ (m : Option Standing). fold after m past ≡ Some last) same stands)

    onward_if : (may : Option Standing) (test : Bool) (next : Standing) → may ≡ cond test (Some next) None → fold after may past ≡ Some last
        → IsFedTo (is_between next.stage) past last
    onward_if may true next same stands = onward may next same stands
    onward_if may false next same stands = never may (IsFedTo (is_between next.stage) past last) same stands

    first_step : (between : Bool) (step : Step) → MayFeed between step → IsFedTo (between_after between step) past last
        → IsFedTo between (step ∷ past) last
    first_step between step may rest = record { fed = (may, rest.fed); stands = rest.stands }

    by_stage : (stage : Stage) (begun : ℕ) (step : Step) → fold after (after (Some (at_stage stage begun)) step) past ≡ Some last
        → IsFedTo (is_between stage) (step ∷ past) last
    by_stage Between begun (HostOctet octet) stands =
        first_step true (HostOctet octet) refl (onward _ (at_stage Between begun) (is.fed begun octet) stands)
    by_stage Between begun (TurnBegins slot on) stands =
        first_step true (TurnBegins slot on) tt (onward_if _ (slot == begun) (at_stage (Within 0) (begun + 1)) (is.begins begun slot on) stands)
    by_stage Between begun (PacketHeard octets) stands = never _ _ (is.not_heard begun octets) stands
    by_stage Between begun NothingHeard stands = never _ _ (is.not_unheard begun) stands
    by_stage Between begun TurnEnds stands = never _ _ (is.not_ends begun) stands
    by_stage (Within phases) begun (HostOctet octet) stands = never _ _ (is.not_fed phases begun octet) stands
    by_stage (Within phases) begun (TurnBegins slot on) stands = never _ _ (is.not_begins phases begun slot on) stands
    by_stage (Within phases) begun (PacketHeard octets) stands =
        first_step false (PacketHeard octets) tt (onward _ (at_stage (Within (suc phases)) begun) (is.heard phases begun octets) stands)
    by_stage (Within phases) begun NothingHeard stands =
        first_step false NothingHeard tt (onward _ (at_stage (Within (suc phases)) begun) (is.unheard phases begun) stands)
    by_stage (Within phases) begun TurnEnds stands =
        first_step false TurnEnds tt (onward_if _ (phases == 3) (at_stage Between begun) (is.ends phases begun) stands)

  same_stage : (at last : Standing) → Some at ≡ Some last → is_between at.stage ≡ is_between last.stage
  same_stage at last same = let one : at ≡ last = cc in ap (λ (standing : Standing). is_between standing.stage) one

  fed_on : (past : List Step) (may : Option Standing) (last : Standing) → fold after may past ≡ Some last → IsFedIf may past last
  fed_on past None last stands = tt
  fed_on [] (Some at) last stands = record { fed = tt; stands = same_stage at last stands }
  fed_on (step ∷ past) (Some at) last stands =
      by_stage past last (λ next onward. fed_on past (Some next) last onward) at.stage at.begun step stands

pub fed_standing : (past : List Step) (at : Standing) → standing past ≡ Some at → IsFedTo true past at
fed_standing past at stands =
    fed_on _ (record {
      none = λ step. refl;
      fed = λ begun octet. refl;
      begins = λ begun slot on. refl;
      not_heard = λ begun octets. refl;
      not_unheard = λ begun. refl;
      not_ends = λ begun. refl;
      not_fed = λ phases begun octet. refl;
      not_begins = λ phases begun slot on. refl;
      heard = λ phases begun octets. refl;
      unheard = λ phases begun. refl;
      ends = λ phases begun. refl;
    }) past (Some (at_stage Between 0)) at stands

-- whether it is between turns
pub between_standing : (past : List Step) (at : Standing) → standing past ≡ Some at → is_between_turns past ≡ is_between at.stage
between_standing past at stands = (fed_standing past at stands).stands
