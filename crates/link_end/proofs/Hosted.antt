-- An end that knows its past, and what its host asks for, answers and ends.
use Rattle.std.proofs.Common.{◌≡◌, ℕ, ◌&&◌, not, Bool, true, false, List, [], ◌∷◌, ◌++◌, Option, Some, None, Result, refl, ap, sym, subst, ◌∙◌}
use Rattle.ble_base.specs.declared.error_codes.ErrCode.{ErrCode}
use Rattle.acl_banks.specs.Banks.{Bank}
use Rattle.procedures.specs.procedure_values.declared.asks.Ask.{Ask}
use Rattle.procedures.specs.procedure_values.declared.asks.Ask.TheVariants.{Encrypt, Map}
use Rattle.control_end.specs.Held.{held_of as control_held}
use Rattle.link_model.specs.phased_end.Moves.{awaits_key}
use Rattle.link_model.specs.phased_end.Held.{held_after, held_of as keyed_held}
use Rattle.link_model.specs.phased_end.enc_phase.declared.facts.Transition.TheVariants.{Refuse}
use Rattle.link_model.specs.phased_end.enc_phase.Phases.{may_follow}
use Rattle.link_model.specs.phased_end.keyed_control.Keyed.{Keyed}
use Rattle.link_model.specs.phased_end.keyed_control.KeyedSteps.{KeyedStep, Answers, Asks, Disconnects, keyed_after}
use Rattle.link_model.proofs.phased_end.Depending.{step_depends}
use Rattle.link_model.specs.Setup.{Setup}
use Rattle.link_model.specs.Facts.{Facts, keyed_of}
use Rattle.link_model.specs.Hosts.{asked, asked_unless, ends_without_key as facts_end_without, facts_answered, facts_disconnected, facts_key_answered, is_key_awaited, is_to_come as facts_to_come, key_step, leaving_from_if}
use Rattle.link_model.specs.Receiving.{lengths_seen}
use Rattle.link_model.specs.Step.{Step, Disconnected, KeyAnswered, ProcedureAsked, RequestAnswered, WordsGiven}
use Rattle.link_model.specs.End.{facts_of}
use Rattle.link_end.specs.Held.{Held, held_of}
use Rattle.link_end.specs.Hosts.{ends_without_key, held_answered, held_asked, held_asked_unless, held_disconnected, held_key_answered, held_with_words, is_to_come}
use Rattle.link_end.specs.Knowing.{Knows}
use Rattle.link_end.specs.Tied.{HoldsData, IsTied}
use Rattle.link_end.proofs.Keeping.{held_is, holds_after, stepped}
use Rattle.link_end.proofs.Phases.{answers_keyed, asks_keyed, disconnects_keyed, past_phase}
use Rattle.link_end.proofs.Sent.{IsInPhase}

-- ---- what is held

comes_same : (ask : Ask) (facts : Facts) → is_to_come ask (control_held facts.control) ≡ facts_to_come ask facts
comes_same (Map map) facts = refl
comes_same (Encrypt rand ediv ltk skd_m iv_m) facts = refl
comes_same other facts = refl

-- what is held after a keyed step, where the facts go by it
step_of : (step : KeyedStep) (facts after : Facts) → IsInPhase facts → keyed_of after ≡ keyed_after step (keyed_of facts)
    → held_after step (keyed_held (keyed_of facts)) ≡ keyed_held (keyed_of after)
step_of step facts after same is = sym (step_depends step (keyed_of facts) same) ∙ sym (ap (λ (k : Keyed). keyed_held k) is)

asked_of : (setup : Setup) (ask : Ask) (facts : Facts) → IsInPhase facts → held_asked ask (held_of setup facts) ≡ held_of setup (asked ask facts)
asked_of setup ask facts same =
    let control = step_of (Asks ask) facts (asked ask facts) same (asks_keyed ask facts) in
    λ i. record (held_of setup (asked ask facts)) {
      control = control i;
      lengths = lengths_seen facts.control.table.lengths (control i).control.table.lengths facts.lengths;
    }

asked_unless_of : (comes : Bool) (setup : Setup) (ask : Ask) (facts : Facts) → IsInPhase facts
    → held_asked_unless comes ask (held_of setup facts) ≡ held_of setup (asked_unless comes ask facts)
asked_unless_of true setup ask facts same = refl
asked_unless_of false setup ask facts same = asked_of setup ask facts same

answered_of : (setup : Setup) (answer : Result Ask ErrCode) (facts : Facts) → IsInPhase facts
    → held_answered answer (held_of setup facts) ≡ held_of setup (facts_answered answer facts)
answered_of setup answer facts same =
    λ i. record (held_of setup (facts_answered answer facts)) {
      control = step_of (Answers answer) facts (facts_answered answer facts) same (answers_keyed answer facts) i;
    }

disconnected_of : (setup : Setup) (reason : ErrCode) (slot : ℕ) (facts : Facts) → IsInPhase facts
    → held_disconnected reason slot (held_of setup facts) ≡ held_of setup (facts_disconnected reason slot facts)
disconnected_of setup reason slot facts same =
    λ i. record (held_of setup (facts_disconnected reason slot facts)) {
      control = step_of (Disconnects reason) facts (facts_disconnected reason slot facts) same (disconnects_keyed reason slot facts) i;
    }

without_same : (key : Option (List ℕ)) (facts : Facts) → IsInPhase facts
    → ends_without_key key (keyed_held (keyed_of facts)) ≡ facts_end_without key facts
without_same None facts same = λ i. is_key_awaited facts && not (may_follow Refuse (same i))
without_same (Some ltk) facts same = refl

key_of : (setup : Setup) (key : Option (List ℕ)) (slot : ℕ) (facts : Facts) → IsInPhase facts
    → held_key_answered key slot (held_of setup facts) ≡ held_of setup (facts_key_answered key slot facts)
key_of setup key slot facts same =
    λ i. record (held_of setup (facts_key_answered key slot facts)) {
      control = sym (step_depends (key_step key) (keyed_of facts) same) i;
      leaving = leaving_from_if (without_same key facts same i) slot facts.leaving;
    }

-- ---- the calls

module _ (setup : Setup) (held : Held) (past : List Step) (knows : Knows setup held past) where
  abbrev now : Facts
  now = facts_of setup past

  pub asked_known : (ask : Ask) (new : Held) → new ≡ held_asked_unless (is_to_come ask held.control.control) ask held
      → Knows setup new (past ++ ProcedureAsked ask ∷ [])
  asked_known ask new is =
      stepped setup new past (ProcedureAsked ask)
      (is ∙ ap (λ (h : Held). held_asked_unless (is_to_come ask h.control.control) ask h) (held_is setup held past knows)
      ∙ ap (λ comes. held_asked_unless comes ask (held_of setup now)) (comes_same ask now)
      ∙ asked_unless_of (facts_to_come ask now) setup ask now (past_phase setup past))

  pub answered_known : (answer : Result Ask ErrCode) (new : Held) → new ≡ held_answered answer held
      → Knows setup new (past ++ RequestAnswered answer ∷ [])
  answered_known answer new is =
      stepped setup new past (RequestAnswered answer)
      (is ∙ ap (held_answered answer) (held_is setup held past knows) ∙ answered_of setup answer now (past_phase setup past))

  pub disconnected_known : (reason : ErrCode) (slot : ℕ) (new : Held) → new ≡ held_disconnected reason slot held
      → Knows setup new (past ++ Disconnected reason slot ∷ [])
  disconnected_known reason slot new is =
      stepped setup new past (Disconnected reason slot)
      (is ∙ ap (held_disconnected reason slot) (held_is setup held past knows) ∙ disconnected_of setup reason slot now (past_phase setup past))

  pub key_known : (key : Option (List ℕ)) (slot : ℕ) (new : Held) → new ≡ held_key_answered key slot held
      → Knows setup new (past ++ KeyAnswered key slot ∷ [])
  key_known key slot new is =
      stepped setup new past (KeyAnswered key slot)
      (is ∙ ap (held_key_answered key slot) (held_is setup held past knows) ∙ key_of setup key slot now (past_phase setup past))

  pub words_known : (skd_s iv_s : ℕ) (new : Held) → new ≡ held_with_words skd_s iv_s held
      → Knows setup new (past ++ WordsGiven skd_s iv_s ∷ [])
  words_known skd_s iv_s new is =
      stepped setup new past (WordsGiven skd_s iv_s) (is ∙ ap (held_with_words skd_s iv_s) (held_is setup held past knows))

  pub key_awaited : (awaits : Bool) → awaits ≡ awaits_key held.control → awaits ≡ is_key_awaited now
  key_awaited awaits is = is ∙ ap (λ (h : Held). awaits_key h.control) (held_is setup held past knows)

-- ---- the bank has the data

holds_asked : (comes : Bool) (ask : Ask) (handle : ℕ) (bank : Bank) (facts : Facts) → HoldsData handle bank facts.outgoing
    → HoldsData handle bank (asked_unless comes ask facts).outgoing
holds_asked true ask handle bank facts holds = holds
holds_asked false ask handle bank facts holds = holds

module _ (setup : Setup) (past : List Step) (bank : Bank) (holds : HoldsData setup.link.handle bank (facts_of setup past).outgoing) where
  pub asked_holds : (ask : Ask) → HoldsData setup.link.handle bank (facts_of setup (past ++ ProcedureAsked ask ∷ [])).outgoing
  asked_holds ask =
      let facts = facts_of setup past in
      holds_after setup past (ProcedureAsked ask) bank (holds_asked (facts_to_come ask facts) ask setup.link.handle bank facts holds)

  pub answered_holds : (answer : Result Ask ErrCode)
      → HoldsData setup.link.handle bank (facts_of setup (past ++ RequestAnswered answer ∷ [])).outgoing
  answered_holds answer = holds_after setup past (RequestAnswered answer) bank holds

  pub disconnected_holds : (reason : ErrCode) (slot : ℕ)
      → HoldsData setup.link.handle bank (facts_of setup (past ++ Disconnected reason slot ∷ [])).outgoing
  disconnected_holds reason slot = holds_after setup past (Disconnected reason slot) bank holds

  pub key_holds : (key : Option (List ℕ)) (slot : ℕ)
      → HoldsData setup.link.handle bank (facts_of setup (past ++ KeyAnswered key slot ∷ [])).outgoing
  key_holds key slot = holds_after setup past (KeyAnswered key slot) bank holds

  pub words_holds : (skd_s iv_s : ℕ)
      → HoldsData setup.link.handle bank (facts_of setup (past ++ WordsGiven skd_s iv_s ∷ [])).outgoing
  words_holds skd_s iv_s = holds_after setup past (WordsGiven skd_s iv_s) bank holds

-- ---- what stays

module _ (ask : Ask) (held new : Held) (is : new ≡ held_asked_unless (is_to_come ask held.control.control) ask held) where
  same_setup : (comes : Bool) → (held_asked_unless comes ask held).setup ≡ held.setup
  same_setup true = refl
  same_setup false = refl

  same_good : (comes : Bool) → (held_asked_unless comes ask held).last_good ≡ held.last_good
  same_good true = refl
  same_good false = refl

  same_tied : (comes : Bool) (bank : Bank) → IsTied held bank → IsTied (held_asked_unless comes ask held) bank
  same_tied true bank tied = tied
  same_tied false bank tied = record { out = tied.out; next = tied.next }

  pub asked_setup : new.setup ≡ held.setup
  asked_setup = ap (λ (h : Held). h.setup) is ∙ same_setup (is_to_come ask held.control.control)

  pub asked_good : new.last_good ≡ held.last_good
  asked_good = ap (λ (h : Held). h.last_good) is ∙ same_good (is_to_come ask held.control.control)

  pub asked_tied : (bank : Bank) → IsTied held bank → IsTied new bank
  asked_tied bank tied = subst (λ (h : Held). IsTied h bank) (sym is) (same_tied (is_to_come ask held.control.control) bank tied)

pub answered_tied : (answer : Result Ask ErrCode) (held new : Held) → new ≡ held_answered answer held → (bank : Bank) → IsTied held bank
    → IsTied new bank
answered_tied answer held new is bank tied =
    subst (λ (h : Held). IsTied h bank) (sym is) (record { out = tied.out; next = tied.next })

pub disconnected_tied : (reason : ErrCode) (slot : ℕ) (held new : Held) → new ≡ held_disconnected reason slot held → (bank : Bank)
    → IsTied held bank → IsTied new bank
disconnected_tied reason slot held new is bank tied =
    subst (λ (h : Held). IsTied h bank) (sym is) (record { out = tied.out; next = tied.next })

pub key_tied : (key : Option (List ℕ)) (slot : ℕ) (held new : Held) → new ≡ held_key_answered key slot held → (bank : Bank)
    → IsTied held bank → IsTied new bank
key_tied key slot held new is bank tied =
    subst (λ (h : Held). IsTied h bank) (sym is) (record { out = tied.out; next = tied.next })

pub words_tied : (skd_s iv_s : ℕ) (held new : Held) → new ≡ held_with_words skd_s iv_s held → (bank : Bank)
    → IsTied held bank → IsTied new bank
words_tied skd_s iv_s held new is bank tied =
    subst (λ (h : Held). IsTied h bank) (sym is) (record { out = tied.out; next = tied.next })
