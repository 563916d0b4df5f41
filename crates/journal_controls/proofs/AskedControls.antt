-- An end after a call in which its host asks something of it, or answers the peer.
use Rattle.std.proofs.Common.{◌≡◌, ℕ, not, Option, Some, None, List, [], ◌∷◌, ◌++◌, refl, sym, ap, ◌∙◌, append-nil, append_assoc}
use Rattle.ble_base.specs.declared.roles.Side.{Side}
use Rattle.journal_ends.specs.Asked.{Words}
use Rattle.journal_ends.specs.controller_model.Step.{Step as Call}
use Rattle.journal_ends.specs.host_answers.Calls.{call_lines}
use Rattle.journal.specs.declared.entries.Entry.{Entry}
use Rattle.journal_ends.specs.Answering.{answers_from, answers_if, answers_in_line, answers_in_step}
use Rattle.journal_ends.specs.Seen.{Asks, Seen, asked_if, asked_in_step, seen_from, seen_in_line}
use Rattle.journal_ends.specs.link_model.End.{facts_after as end_after}
use Rattle.journal_ends.specs.link_model.Facts.{Facts as EndFacts, keyed_of}
use Rattle.journal_ends.specs.link_model.Hosts.{is_to_come}
use Rattle.journal_ends.specs.link_model.Step.{Step, Disconnected, KeyAnswered, ProcedureAsked, RequestAnswered}
use Rattle.journal_ends.specs.link_model.keyed_control.Keyed.{Keyed}
use Rattle.journal_ends.specs.link_model.keyed_control.KeyedSteps.{Asks as AsksFor}
use Rattle.journal_ends.specs.link_model.procedure_values.declared.asks.Ask.{Ask}
use Rattle.journal_ends.specs.link_model.procedure_values.declared.asks.Ask.TheVariants.{Map}
use Rattle.journal_ends.specs.open_links.OpenLinks.{OpenLink, facts_in}
use Rattle.journal_ends.specs.run_model.History.{Event}
use Rattle.journal_ends.specs.run_model.Journal.{journal_of}
use Rattle.journal_ends.specs.run_model.Run.{Given, after_call}
use Rattle.journal_ends.proofs.AskedCalls.{call_journal}
use Rattle.journal_ends.proofs.HostedLinks.{IfHostStep, keyed_asked}
use Rattle.journal_ends.proofs.link_model.KeyedPasts.{past_in_phase}
use Rattle.journal_ends.proofs.link_model.KeyedSteps.{one_step}
use Rattle.journal_ends.proofs.controller_model.Asked.{IsAskedStep}
use Rattle.journal_controls.specs.KeyedLines.{answering, does_if, keyed_by_all}
use Rattle.journal_controls.specs.LineSteps.{is_coming, keyed_from, keyed_in_line, keyed_on, steps_asking}
use Rattle.journal_controls.specs.SaidLines.{after_asking}
use Rattle.journal_controls.proofs.EndSteps.{does_as}
use Rattle.journal_controls.proofs.EventMoves.{keyed_at}
use Rattle.journal_controls.proofs.LineFolds.{answered_line, asked_line, quiet_line}
use Rattle.journal_controls.proofs.OpenedControls.{AreNone, none_of, quiet_lines}

-- ---- lines in which one thing is asked or answered, and nothing else is seen

module _ (words : Words) (side : Side) (number : ℕ) where
  none_seen : (front lines : List Entry) (k : Keyed) → seen_from words side number front lines ≡ [] → answers_from words side number front lines ≡ []
      → keyed_from words side number front (Some k) lines ≡ Some k
  none_seen front lines k none unanswered = quiet_lines words side number front (Some k) lines none unanswered

  one_seen : (front lines : List Entry) (k : Keyed) (step : Step) → seen_from words side number front lines ≡ Asks step ∷ [] → answers_from words side number front lines ≡ []
      → keyed_from words side number front (Some k) lines ≡ Some (keyed_by_all (steps_asking k step) k)
  one_seen front [] k step is unanswered = absurd cc
  one_seen front (line ∷ lines) k step is unanswered =
      by (seen_in_line words side number front line) refl (λ later. one_seen (front ++ line ∷ []) lines k step later answers.second)
    where
      answers : AreNone (answers_in_line words side number front line) (answers_from words side number (front ++ line ∷ []) lines)
      answers = none_of (answers_in_line words side number front line) (answers_from words side number (front ++ line ∷ []) lines) unanswered

      by : (seen : List Seen) → seen_in_line words side number front line ≡ seen
          → (seen_from words side number (front ++ line ∷ []) lines ≡ Asks step ∷ []
          → keyed_from words side number (front ++ line ∷ []) (Some k) lines ≡ Some (keyed_by_all (steps_asking k step) k))
          → keyed_from words side number front (Some k) (line ∷ lines) ≡ Some (keyed_by_all (steps_asking k step) k)
      by [] none then_on =
          ap (λ before. keyed_from words side number (front ++ line ∷ []) before lines) (quiet_line words side number front (Some k) line none answers.first)
          ∙ then_on (ap (λ xs. xs ++ seen_from words side number (front ++ line ∷ []) lines) (sym none) ∙ is)
      by (one ∷ more) seen then_on =
          let whole : one ∷ (more ++ seen_from words side number (front ++ line ∷ []) lines) ≡ Asks step ∷ [] =
          ap (λ xs. xs ++ seen_from words side number (front ++ line ∷ []) lines) (sym seen) ∙ is in
          let head : one ≡ Asks step = cc in
          let tail : more ++ seen_from words side number (front ++ line ∷ []) lines ≡ [] = cc in
          let both = none_of more (seen_from words side number (front ++ line ∷ []) lines) tail in
          ap (λ before. keyed_from words side number (front ++ line ∷ []) before lines)
          (asked_line words side number front line k step (seen ∙ (λ i. head i ∷ both.first i)) answers.first)
          ∙ quiet_lines words side number (front ++ line ∷ []) (Some (keyed_by_all (steps_asking k step) k)) lines both.second answers.second

  one_answered : (front lines : List Entry) (k : Keyed) (answer : Step) → seen_from words side number front lines ≡ []
      → answers_from words side number front lines ≡ answer ∷ [] → keyed_from words side number front (Some k) lines ≡ Some (keyed_by_all (answering answer) k)
  one_answered front [] k answer none is = absurd cc
  one_answered front (line ∷ lines) k answer none is =
      by (answers_in_line words side number front line) refl (λ later. one_answered (front ++ line ∷ []) lines k answer seen.second later)
    where
      seen : AreNone (seen_in_line words side number front line) (seen_from words side number (front ++ line ∷ []) lines)
      seen = none_of (seen_in_line words side number front line) (seen_from words side number (front ++ line ∷ []) lines) none

      by : (answers : List Step) → answers_in_line words side number front line ≡ answers
          → (answers_from words side number (front ++ line ∷ []) lines ≡ answer ∷ []
          → keyed_from words side number (front ++ line ∷ []) (Some k) lines ≡ Some (keyed_by_all (answering answer) k))
          → keyed_from words side number front (Some k) (line ∷ lines) ≡ Some (keyed_by_all (answering answer) k)
      by [] unanswered then_on =
          ap (λ before. keyed_from words side number (front ++ line ∷ []) before lines) (quiet_line words side number front (Some k) line seen.first unanswered)
          ∙ then_on (ap (λ xs. xs ++ answers_from words side number (front ++ line ∷ []) lines) (sym unanswered) ∙ is)
      by (one ∷ more) answers then_on =
          let whole : one ∷ (more ++ answers_from words side number (front ++ line ∷ []) lines) ≡ answer ∷ [] =
          ap (λ xs. xs ++ answers_from words side number (front ++ line ∷ []) lines) (sym answers) ∙ is in
          let head : one ≡ answer = cc in
          let tail : more ++ answers_from words side number (front ++ line ∷ []) lines ≡ [] = cc in
          let both = none_of more (answers_from words side number (front ++ line ∷ []) lines) tail in
          ap (λ before. keyed_from words side number (front ++ line ∷ []) before lines)
          (answered_line words side number front line k answer seen.first (answers ∙ (λ i. head i ∷ both.first i)))
          ∙ quiet_lines words side number (front ++ line ∷ []) (Some (keyed_by_all (answering answer) k)) lines seen.second both.second

  step_seen : (front lines : List Entry) (k : Keyed) (step : Step) → seen_from words side number front lines ≡ asked_in_step step
      → answers_from words side number front lines ≡ answers_in_step step
      → keyed_from words side number front (Some k) lines ≡ Some (after_asking (Some step) k)
  step_seen front lines k (ProcedureAsked ask) is answers =
      one_seen front lines k (ProcedureAsked ask) is answers ∙ ap (λ steps. Some (keyed_by_all steps k)) (sym (append-nil (steps_asking k (ProcedureAsked ask))))
  step_seen front lines k (RequestAnswered answer) is answers = one_answered front lines k (RequestAnswered answer) is answers
  step_seen front lines k (KeyAnswered key slot) is answers = one_answered front lines k (KeyAnswered key slot) is answers
  step_seen front lines k (Disconnected reason slot) is answers = one_seen front lines k (Disconnected reason slot) is answers
  step_seen front lines k other is answers = none_seen front lines k is answers

  asked_seen : (front lines : List Entry) (k : Keyed) (asked : Option Step) → seen_from words side number front lines ≡ asked_if asked
      → answers_from words side number front lines ≡ answers_if asked
      → keyed_from words side number front (Some k) lines ≡ Some (after_asking asked k)
  asked_seen front lines k None is answers = none_seen front lines k is answers
  asked_seen front lines k (Some step) is answers = step_seen front lines k step is answers

  from_both : (front first second : List Entry) (before : Option Keyed)
      → keyed_from words side number front before (first ++ second) ≡ keyed_from words side number (front ++ first) (keyed_from words side number front before first) second
  from_both front [] second before = ap (λ xs. keyed_from words side number xs before second) (sym (append-nil front))
  from_both front (line ∷ first) second before =
      let next = keyed_in_line words side number front before line in
      from_both (front ++ line ∷ []) first second next
      ∙ ap (λ xs. keyed_from words side number xs (keyed_from words side number (front ++ line ∷ []) next first) second) (append_assoc front (line ∷ []) first)

  on_both : (first second : List Entry) → keyed_on words side number (first ++ second) ≡ keyed_from words side number first (keyed_on words side number first) second
  unfolding keyed_on
  on_both first second = from_both [] first second None

-- ---- a call

pub call_asks : (words : Words) (given : Given) (side : Side) (number station : ℕ) (step : Call) (history : List Event) (asked : Option Step) (k : Keyed)
    → seen_from words side number (journal_of history) (call_lines given station step history) ≡ asked_if asked
    → answers_from words side number (journal_of history) (call_lines given station step history) ≡ answers_if asked → keyed_at words number side history ≡ Some k
    → keyed_at words number side (after_call given station step history) ≡ Some (after_asking asked k)
call_asks words given side number station step history asked k seen answers was =
    let lines = call_lines given station step history in
    ap (keyed_on words side number) (call_journal given station step history) ∙ on_both words side number (journal_of history) lines
    ∙ ap (λ before. keyed_from words side number (journal_of history) before lines) was
    ∙ asked_seen words side number (journal_of history) lines k asked seen answers

-- ---- the end

-- a map that it is to have already
same_coming : (ask : Ask) (facts : EndFacts) → is_coming ask facts.control ≡ is_to_come ask facts
same_coming (Map map) facts = refl
same_coming other facts = refl

-- its procedures, its phase and its keys are as after that
end_asked_so : (base : OpenLink) (step : Step) → IsAskedStep step → after_asking (Some step) (keyed_of (facts_in base)) ≡ keyed_of (end_after base.setup (facts_in base) step)
end_asked_so base (ProcedureAsked ask) by_host =
    let k = keyed_of (facts_in base) in
    ap (λ steps. keyed_by_all steps k) (append-nil (steps_asking k (ProcedureAsked ask)))
    ∙ ap (λ b. keyed_by_all (does_if (not b) (AsksFor ask)) k) (same_coming ask (facts_in base))
    ∙ sym (one_step base.setup (facts_in base) (ProcedureAsked ask) (past_in_phase base.setup base.past) refl ∙ does_as (not (is_to_come ask (facts_in base))) (AsksFor ask) k)
end_asked_so base (RequestAnswered answer) by_host = sym (one_step base.setup (facts_in base) (RequestAnswered answer) (past_in_phase base.setup base.past) refl)
end_asked_so base (KeyAnswered key slot) by_host = sym (one_step base.setup (facts_in base) (KeyAnswered key slot) (past_in_phase base.setup base.past) refl)
end_asked_so base (Disconnected reason slot) by_host = sym (one_step base.setup (facts_in base) (Disconnected reason slot) (past_in_phase base.setup base.past) refl)
end_asked_so base other by_host = absurd by_host

pub end_asked : (base after : OpenLink) (asked : Option Step) → IfHostStep asked → keyed_of (facts_in after) ≡ keyed_asked base asked
    → after_asking asked (keyed_of (facts_in base)) ≡ keyed_of (facts_in after)
end_asked base after None by_host is = sym is
end_asked base after (Some step) by_host is = end_asked_so base step by_host ∙ sym is
