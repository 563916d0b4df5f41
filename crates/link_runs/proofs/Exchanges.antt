-- An end that has the radio as it wants it has an exchange of its event.
use Rattle.std.proofs.Common.{◌≡◌, inl, inr, ℕ, ◌+◌, ◌==◌, ◌&&◌, Bool, true, false, Option, Some, None, is_none, refl, ap, sym, subst, ◌∙◌, arith, if◌then◌else◌}
use Rattle.std.proofs.lemmas.Bool.{and_parts, eqb-true}
use Rattle.instants.specs.declared.track.Change.{Change}
use Rattle.instants.specs.Track.{TrackFacts, is_due, next_anchor_of, track_changed, track_in_next, track_unchanged}
use Rattle.link_pairs.proofs.control_model.Moving.{enters_track}
use Rattle.link_pairs.proofs.joint_controls.Running.{none_of}
use Rattle.link_pairs.specs.link_model.Setup.{Setup}
use Rattle.link_pairs.specs.link_model.Controls.{goes_on, is_quiet_now}
use Rattle.link_pairs.specs.link_model.Facts.{Facts}
use Rattle.link_pairs.specs.link_model.Entering.{facts_entered}
use Rattle.link_pairs.specs.link_model.Times.{has_second_exchange, wants_of}
use Rattle.link_pairs.specs.Ends.{HasExchange, IsAtRest, is_lasting}
use Rattle.link_pairs.specs.Turns.{MayExchange, entered_in}
use Rattle.link_pairs.proofs.Beginning.{entered_is, kept}
use Rattle.link_runs.specs.Turn.{is_second, wants_slot}

-- ---- the events that it entered

entered_if_due : (due : Bool) (change : Change) (t : TrackFacts) → (if due then track_changed change t else track_unchanged t).entered ≡ t.entered + 1
entered_if_due true change t = refl
entered_if_due false change t = refl

entered_next : (waits : Option Change) (t : TrackFacts) → (track_in_next waits t).entered ≡ t.entered + 1
entered_next None t = refl
entered_next (Some change) t = entered_if_due (is_due change t.entered) change t

module _ (setup : Setup) (slot turns : ℕ) (facts : Facts) (lasts : facts.control.ends ≡ None) (rests : IsAtRest setup turns facts) where
  -- it enters its event in this slot
  first_exchange : HasExchange slot (facts_entered setup slot facts)
  first_exchange =
      let next =
      (kept setup slot facts lasts turns rests).entered
      ∙ ap (λ (t : TrackFacts). t.entered) (enters_track facts.control slot (is_quiet_now facts) lasts) in
      let count = next ∙ entered_next facts.control.track.waits facts.control.track in
      (omega (arith, count), inl refl)

  -- it received a good packet in the slot before
  second_exchange : is_second slot facts ≡ true → HasExchange slot facts
  second_exchange is =
      let parts = and_parts (has_second_exchange facts) (slot == facts.event.slot + 1) is in
      let heard = (and_parts facts.event.heard _ (and_parts (facts.event.heard && facts.event.more) _ parts.0).0).0 in
      ((rests.heard heard).0, inr (eqb-true slot (facts.event.slot + 1) parts.1, heard))

  wants_exchange : (enters : Bool) → (next_anchor_of facts.control.track == slot) ≡ enters
      → (if enters then wants_of setup (entered_in setup slot facts) else is_second slot facts) ≡ true → HasExchange slot (entered_in setup slot facts)
  wants_exchange true is wants = subst (HasExchange slot) (sym (entered_is setup slot facts lasts true is)) first_exchange
  wants_exchange false is wants = subst (HasExchange slot) (sym (entered_is setup slot facts lasts false is)) (second_exchange wants)

  served_exchange : (served : Bool) → (served && wants_slot setup slot facts) ≡ true → HasExchange slot (entered_in setup slot facts)
  served_exchange served is = wants_exchange (next_anchor_of facts.control.track == slot) refl (and_parts served (wants_slot setup slot facts) is).1

pub may_exchange : (setup : Setup) (slot turns : ℕ) (facts : Facts) → is_lasting facts ≡ true → IsAtRest setup turns facts → (served : Bool)
    → MayExchange setup slot (served && wants_slot setup slot facts) facts
may_exchange setup slot turns facts lasts rests =
    served_exchange setup slot turns facts (none_of facts.control.ends (and_parts (goes_on facts) (is_none facts.leaving.ended_by_peer) lasts).0) rests
