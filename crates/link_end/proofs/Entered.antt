-- An end that knows its past and enters an event.
use Rattle.std.proofs.Common.{◌≡◌, ℕ, Bool, true, false, List, [], ◌∷◌, ◌++◌, refl, ap, sym, ◌∙◌, if◌then◌else◌}
use Rattle.ble_base.specs.declared.notes.Note.{Note}
use Rattle.acl_banks.specs.Banks.{Bank}
use Rattle.control_end.specs.declared.answers.Entry.{Entry}
use Rattle.control_end.specs.Answers.{entry_of}
use Rattle.control_end.specs.Held.{held_of as control_held}
use Rattle.link_model.specs.phased_end.Answers.{quiet_now}
use Rattle.link_model.specs.phased_end.Moves.{lasts}
use Rattle.link_model.specs.phased_end.enc_phase.Phases.{is_quiet}
use Rattle.link_model.specs.phased_end.keyed_control.KeyedSteps.{Enters}
use Rattle.link_model.proofs.phased_end.Depending.{step_depends}
use Rattle.link_model.specs.Events.{event_entered}
use Rattle.link_model.specs.Setup.{Setup}
use Rattle.link_model.specs.Facts.{Facts, keyed_of}
use Rattle.link_model.specs.Step.{Step, EventEntered}
use Rattle.link_model.specs.Controls.{goes_on as facts_go_on, is_quiet_now}
use Rattle.link_model.specs.Entering.{event_notes, facts_entered, facts_entered_if, entry_notes as facts_entry_notes}
use Rattle.link_model.specs.End.{facts_of}
use Rattle.link_end.specs.Held.{Held, held_of}
use Rattle.link_end.specs.Entering.{entry_notes, held_entered, held_entered_if}
use Rattle.link_end.specs.Knowing.{Goes, Knows}
use Rattle.link_end.specs.Tied.{HoldsData}
use Rattle.link_end.proofs.Keeping.{held_is, holds_after, stepped}
use Rattle.link_end.proofs.Phases.{past_phase}
use Rattle.link_end.proofs.Sent.{IsInPhase}

entered_of : (setup : Setup) (slot : ℕ) (facts : Facts) → IsInPhase facts
    → held_entered slot (held_of setup facts) ≡ held_of setup (facts_entered setup slot facts)
entered_of setup slot facts same =
    let control = sym (step_depends (Enters slot) (keyed_of facts) same) in
    λ i. record (held_of setup (facts_entered setup slot facts)) {
      control = control i;
      event = event_entered setup slot ((control i).control.track);
    }

entered_if_of : (goes : Bool) (setup : Setup) (slot : ℕ) (facts : Facts) → IsInPhase facts
    → held_entered_if goes slot (held_of setup facts) ≡ held_of setup (facts_entered_if goes setup slot facts)
entered_if_of true setup slot facts same = entered_of setup slot facts same
entered_if_of false setup slot facts same = refl

entry_notes_of : (setup : Setup) (slot : ℕ) (facts : Facts) → IsInPhase facts
    → entry_notes slot (held_of setup facts) ≡ facts_entry_notes setup slot facts
entry_notes_of setup slot facts same =
    let entered = entered_of setup slot facts same in
    λ i. if facts_go_on facts
    then event_notes setup.link.handle ((entered i).event) (entry_of slot (is_quiet (same i)) (control_held facts.control))
    else []

module _ (setup : Setup) (held : Held) (past : List Step) (knows : Knows setup held past) (slot : ℕ) where
  pub entered : (new : Held) (before noted : List Note) → new ≡ held_entered_if (lasts held.control) slot held
      → noted ≡ before ++ entry_notes slot held → Goes setup new past (EventEntered slot) before noted
  entered new before noted is notes =
      let facts = facts_of setup past in
      let here = held_is setup held past knows in
      let same = past_phase setup past in
      record {
        knows = stepped setup new past (EventEntered slot)
            (is ∙ ap (λ (h : Held). held_entered_if (lasts h.control) slot h) here
            ∙ entered_if_of (facts_go_on facts) setup slot facts same);
        notes = notes
            ∙ ap (λ (h : Held). before ++ entry_notes slot h) here
            ∙ ap (λ notes. before ++ notes) (entry_notes_of setup slot facts same);
      }

  pub entry_known : (entry : Entry) → entry ≡ entry_of slot (quiet_now held.control) held.control.control
      → let facts = facts_of setup past in entry ≡ entry_of slot (is_quiet_now facts) (control_held facts.control)
  entry_known entry is =
      let same = past_phase setup past in
      is ∙ ap (λ (h : Held). entry_of slot (quiet_now h.control) h.control.control) (held_is setup held past knows)
      ∙ (λ i. entry_of slot (is_quiet (same i)) (control_held (facts_of setup past).control))

holds_entered : (goes : Bool) (setup : Setup) (slot : ℕ) (bank : Bank) (facts : Facts) → HoldsData setup.link.handle bank facts.outgoing
    → HoldsData setup.link.handle bank (facts_entered_if goes setup slot facts).outgoing
holds_entered true setup slot bank facts holds = holds
holds_entered false setup slot bank facts holds = holds

pub entered_holds : (setup : Setup) (past : List Step) (slot : ℕ) (bank : Bank)
    → HoldsData setup.link.handle bank (facts_of setup past).outgoing
    → HoldsData setup.link.handle bank (facts_of setup (past ++ EventEntered slot ∷ [])).outgoing
entered_holds setup past slot bank holds =
    let facts = facts_of setup past in
    holds_after setup past (EventEntered slot) bank (holds_entered (facts_go_on facts) setup slot bank facts holds)

module _ (held new : Held) (goes : Bool) (slot : ℕ) (is : new ≡ held_entered_if goes slot held) where
  same_setup : (goes : Bool) → (held_entered_if goes slot held).setup ≡ held.setup
  same_setup true = refl
  same_setup false = refl

  same_good : (goes : Bool) → (held_entered_if goes slot held).last_good ≡ held.last_good
  same_good true = refl
  same_good false = refl

  pub entered_setup : new.setup ≡ held.setup
  entered_setup = ap (λ (h : Held). h.setup) is ∙ same_setup goes

  pub entered_good : new.last_good ≡ held.last_good
  entered_good = ap (λ (h : Held). h.last_good) is ∙ same_good goes
