-- A controller that knows its past, after a step.
use Rattle.std.proofs.Common.{◌≡◌, ℕ, ◌+◌, List, [], ◌∷◌, ◌++◌, length, drop, refl, ap, sym, ◌∙◌, subst, append-nil}
use Rattle.std.proofs.lemmas.List.{drop_at}
use Rattle.ble_base.specs.declared.notes.Note.{Note}
use Rattle.h4_frames.specs.declared.packet.Fed.{Fed}
use Rattle.h4_frames.specs.declared.packet.Fed.TheVariants.{More}
use Rattle.h4_frames.specs.declared.stage.Stage.{Stage}
use Rattle.h4_frames.specs.Frames.{frames, frame_entry}
use Rattle.h4_frames.specs.Machine.{framer_after}
use Rattle.controller_model.specs.declared.doing.Doing.{Doing}
use Rattle.controller_model.specs.declared.doing.Doing.TheVariants.{Advertises, Rests}
use Rattle.controller_model.specs.declared.doing.Turn.{Turn}
use Rattle.controller_model.specs.Data.{facts_ended_turn, notes_ended_turn}
use Rattle.controller_model.specs.Entering.{IsInEvent}
use Rattle.controller_model.specs.Step.{Step, HostOctet, NothingHeard, TurnEnds}
use Rattle.controller_model.specs.Facts.{Setup, Facts, Use, Idle}
use Rattle.controller_model.specs.Heard.{unheard}
use Rattle.controller_model.specs.Outcome.{Outcome, facts_passed, notes_passed}
use Rattle.controller_model.specs.Packets.{facts_doing, notes_doing, use_for, use_of}
use Rattle.controller_model.specs.Side.{facts_after, facts_fed, facts_of, first_result, notes_after, notes_fed, outcome_unheard, result_of, with_octet}
use Rattle.controller_model.proofs.Feds.{fed_octets, first_entry, turn_octets}
use Rattle.controller_model.proofs.Pasts.{facts_more}
use Rattle.controller_model.proofs.Always.{IsInTurn}
use Rattle.controller_model.proofs.Exchanges.{OutcomeInEvent}
use Rattle.controller.specs.Framed.{IsFramed}
use Rattle.controller.specs.Held.{Held}
use Rattle.controller.specs.Knowing.{Goes, IsAt, IsWholeAt, Knows}
use Rattle.controller.proofs.FrameOctets.{is_framed}

-- ---- what an octet completes

completes : (octets : List ℕ) (octet : ℕ) (fed : Fed) → frames (octets ++ octet ∷ []) ≡ frames octets ++ frame_entry (length octets + 1) fed
    → fed ≡ result_of octets octet
unfolding result_of
completes octets octet fed grown =
    sym (ap (λ entries. first_result (drop (length (frames octets)) entries)) grown
    ∙ ap first_result (drop_at (frames octets) (frame_entry (length octets + 1) fed) (length (frames octets)) refl)
    ∙ first_entry (length octets + 1) fed)

-- ---- steps

goes_to : (setup : Setup) (past : List Step) (step : Step) (new : Held) (noted : List Note)
    → IsWholeAt setup new (facts_after setup (facts_of setup past) step) → noted ≡ notes_after setup (facts_of setup past) step
    → Goes setup new past step noted
unfolding Knows
goes_to setup past step new noted at told = record {
  knows = subst (λ (facts : Facts). IsWholeAt setup new facts) (sym (facts_more setup past step)) at;
  notes = told;
}

from_empty : (before noted due : List Note) → before ≡ [] → noted ≡ before ++ due → noted ≡ due
from_empty before noted due empty told = told ∙ ap (λ (notes : List Note). notes ++ due) empty

pub at_facts : (setup : Setup) (held : Held) (past : List Step) → Knows setup held past → IsAt setup held (facts_of setup past)
unfolding Knows
at_facts setup held past knows = knows.at

-- the octets of the host are not held
with_octet_is : (has : Setup) (held : Held) (facts : Facts) (octet : ℕ) → IsAt has held facts → IsAt has held (with_octet octet facts)
with_octet_is has held facts octet k = record {
  setup = k.setup;
  view = k.view;
  place = k.place;
  access = k.access;
  turn = k.turn;
  activities = k.activities;
  links = k.links;
}

with_framer_is : (has : Setup) (held other : Held) (facts : Facts) (framer : Stage) → other ≡ record held { framer = framer } → IsAt has held facts → IsAt has other facts
with_framer_is has held other facts framer is k = rw is (record {
  setup = k.setup;
  view = k.view;
  place = k.place;
  access = k.access;
  turn = k.turn;
  activities = k.activities;
  links = k.links;
})

pub octet_goes : (setup : Setup) (past : List Step) (octet : ℕ) (was old new : Held) (framer : Stage) (fed : Fed) (before noted : List Note)
    → old ≡ record was { framer = framer } → before ≡ []
    → ((octets : List ℕ) → was.framer ≡ framer_after octets → frames (octets ++ octet ∷ []) ≡ frames octets ++ frame_entry (length octets + 1) fed)
    → ((octets : List ℕ) → was.framer ≡ framer_after octets → framer ≡ framer_after (octets ++ octet ∷ []))
    → ((has : Setup) (facts : Facts) → IsAt has old facts → IsFramed fed → IsAt has new (facts_fed has facts fed))
    → ((has : Setup) (facts : Facts) → IsAt has old facts → IsFramed fed → noted ≡ before ++ notes_fed has facts fed)
    → new.framer ≡ old.framer
    → Knows setup was past → Goes setup new past (HostOctet octet) noted
unfolding Knows
octet_goes setup past octet was old new framer fed before noted fed_is empty feeds frames_on at told same knows =
    let facts = facts_of setup past in
    let fed_result = completes facts.octets octet fed (feeds facts.octets knows.framed) in
    let framed = subst IsFramed (sym fed_result) (is_framed facts.octets octet) in
    let k = with_framer_is setup was old facts framer fed_is knows.at in
    goes_to setup past (HostOctet octet) new noted
    (record {
      at = with_octet_is setup new (facts_fed setup facts (result_of facts.octets octet)) octet
          (subst (λ (fed : Fed). IsAt setup new (facts_fed setup facts fed)) fed_result (at setup facts k framed));
      framed = same ∙ ap (λ (h : Held). h.framer) fed_is ∙ frames_on facts.octets knows.framed
          ∙ ap (λ (octets : List ℕ). framer_after (octets ++ octet ∷ [])) (sym (fed_octets setup facts (result_of facts.octets octet)));
    })
    (from_empty before noted _ empty (told setup facts k framed) ∙ ap (notes_fed setup facts) fed_result)

-- an octet that completes nothing
pub more_goes : (setup : Setup) (past : List Step) (octet : ℕ) (was new : Held) (framer : Stage) (noted : List Note)
    → new ≡ record was { framer = framer } → noted ≡ []
    → ((octets : List ℕ) → was.framer ≡ framer_after octets → frames (octets ++ octet ∷ []) ≡ frames octets ++ frame_entry (length octets + 1) More)
    → ((octets : List ℕ) → was.framer ≡ framer_after octets → framer ≡ framer_after (octets ++ octet ∷ []))
    → Knows setup was past → Goes setup new past (HostOctet octet) noted
more_goes setup past octet was new framer noted framed empty feeds frames_on knows =
    octet_goes setup past octet was new new framer More noted noted framed empty feeds frames_on
    (λ has facts k is. k) (λ has facts k is. sym (append-nil noted)) refl knows

-- ---- a step of a turn

-- what it does in the next phase is known, and is done: it wants this of the radio for that
pub record Prepares (has : Setup) (new : Held) (heard noted : List Note) (next : Doing) (wanted : Use) (facts : Facts) : Type 0 where
  pub at : IsAt has new (facts_doing next facts)
  pub notes : noted ≡ heard ++ notes_doing next facts
  pub wants : wanted ≡ use_for facts next

use_resting : (facts : Facts) (doing : Doing) → use_for (facts_doing Rests facts) doing ≡ use_for facts doing
use_resting facts (Advertises channel) = refl
use_resting facts other = refl

notes_resting : (facts : Facts) (doing : Doing) → notes_doing doing (facts_doing Rests facts) ≡ notes_doing doing facts
notes_resting facts (Advertises channel) = refl
notes_resting facts other = refl

-- also where it did nothing before
pub prepares_again : (has : Setup) (new : Held) (heard noted : List Note) (next : Doing) (wanted : Use) (facts : Facts)
    → Prepares has new heard noted next wanted (facts_doing Rests facts) → Prepares has new heard noted next wanted facts
prepares_again has new heard noted next wanted facts p =
    let k = p.at in record {
      at = record {
        setup = k.setup;
        view = k.view;
        place = k.place;
        access = k.access;
        turn = k.turn;
        activities = k.activities;
        links = k.links;
      };
      notes = p.notes ∙ ap (λ (more : List Note). heard ++ more) (notes_resting facts next);
      wants = p.wants ∙ use_resting facts next;
    }

-- the link on which it is done has entered an event
pub next_in_event : (outcome : Outcome) (next : Doing) → next ≡ outcome.next → OutcomeInEvent outcome → IsInEvent next outcome.facts.links
next_in_event outcome next does is = subst (λ (doing : Doing). IsInEvent doing outcome.facts.links) (sym does) is

-- what comes of the step, and what is prepared then
pub turn_goes : (setup : Setup) (past : List Step) (step : Step) (was new : Held) (before heard noted : List Note) (next : Doing) (wanted : Use) (outcome : Outcome)
    → IsInTurn step → facts_after setup (facts_of setup past) step ≡ facts_passed outcome
    → notes_after setup (facts_of setup past) step ≡ notes_passed outcome
    → before ≡ [] → heard ≡ before ++ outcome.notes → next ≡ outcome.next → Prepares setup new heard noted next wanted outcome.facts
    → new.framer ≡ was.framer → Knows setup was past → Goes setup new past step noted
unfolding Knows
turn_goes setup past step was new before heard noted next wanted outcome turn facts_are notes_are empty told does prepares same knows =
    goes_to setup past step new noted
    (record {
      at = subst (λ (facts : Facts). IsAt setup new facts) (ap (λ (doing : Doing). facts_doing doing outcome.facts) does ∙ sym facts_are) prepares.at;
      framed = same ∙ knows.framed
          ∙ ap framer_after (sym (turn_octets setup (facts_of setup past) step turn));
    })
    (prepares.notes ∙ ap (λ (notes : List Note). notes ++ notes_doing next outcome.facts) (from_empty before heard outcome.notes empty told)
    ∙ ap (λ (doing : Doing). outcome.notes ++ notes_doing doing outcome.facts) does ∙ sym notes_are)

pub wants_then : (setup : Setup) (past : List Step) (step : Step) (new : Held) (heard noted : List Note) (next : Doing) (wanted : Use) (outcome : Outcome)
    → facts_after setup (facts_of setup past) step ≡ facts_passed outcome → next ≡ outcome.next → Prepares setup new heard noted next wanted outcome.facts
    → wanted ≡ use_of (facts_of setup (past ++ step ∷ []))
unfolding use_of
wants_then setup past step new heard noted next wanted outcome facts_are does prepares =
    prepares.wants ∙ ap (use_for outcome.facts) does
    ∙ sym (ap (λ (facts : Facts). facts.wanted) (facts_more setup past step ∙ facts_are))

-- ---- a phase in which it did nothing, and nothing was heard

module _ (setup : Setup) (past : List Step) (held : Held) (noted : List Note) (rests : held.turn.doing ≡ Rests) (knows : Knows setup held past) where
  abbrev facts : Facts
  facts = facts_of setup past

  rests_then : facts.turn.doing ≡ Rests
  rests_then = sym (ap (λ (turn : Turn). turn.doing) (at_facts setup held past knows).turn) ∙ rests

  rests_next : Rests ≡ (outcome_unheard facts).next
  rests_next = sym (ap (λ (doing : Doing). (unheard doing facts).next) rests_then)

  rests_on : Prepares setup held noted noted Rests Idle (outcome_unheard facts).facts
  rests_on = subst (λ (doing : Doing). Prepares setup held noted noted Rests Idle (unheard doing facts).facts) (sym rests_then)
      (let k = at_facts setup held past knows in record {
        at = record {
          setup = k.setup;
          view = k.view;
          place = k.place;
          access = k.access;
          turn = k.turn ∙ (λ i. record facts.turn { doing = rests_then i });
          activities = k.activities;
          links = k.links;
        };
        notes = sym (append-nil noted);
        wants = refl;
      })

  pub resting_goes : noted ≡ [] → Goes setup held past NothingHeard noted
  resting_goes empty =
      turn_goes setup past NothingHeard held held noted noted noted Rests Idle (outcome_unheard facts)
      tt refl refl empty
      (sym (append-nil noted) ∙ ap (λ (doing : Doing). noted ++ (unheard doing facts).notes) (sym rests_then))
      rests_next rests_on refl knows

  pub resting_wants : Idle ≡ use_of (facts_of setup (past ++ NothingHeard ∷ []))
  resting_wants =
      wants_then setup past NothingHeard held noted noted Rests Idle (outcome_unheard facts)
      refl rests_next rests_on

-- the turn ends
pub end_goes : (setup : Setup) (past : List Step) (was new : Held) (noted : List Note)
    → IsAt setup new (facts_doing Rests (facts_ended_turn (facts_of setup past))) → noted ≡ notes_ended_turn (facts_of setup past)
    → new.framer ≡ was.framer → Knows setup was past → Goes setup new past TurnEnds noted
unfolding Knows
end_goes setup past was new noted at told same knows =
    goes_to setup past TurnEnds new noted
    (record { at = at; framed = same ∙ knows.framed ∙ ap framer_after (sym (turn_octets setup (facts_of setup past) TurnEnds tt)) }) told
