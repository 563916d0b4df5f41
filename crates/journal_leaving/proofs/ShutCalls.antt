-- A link is shut in a call of a run for what is due by the lines before the call.
use Rattle.std.proofs.Common.{◌≡◌, ℕ, Bool, true, false, Option, Some, None, List, ◌∷◌, ◌++◌, refl, sym, ap, ◌∙◌, if◌then◌else◌}
use Rattle.std.specs.Prelude.{nat_lt}
use Rattle.std.specs.List.{Contains}
use Rattle.std.specs.Option.{option_map}
use Rattle.ble_base.specs.declared.error_codes.ErrCode.{ErrCode}
use Rattle.ble_base.specs.declared.notes.Note.TheVariants.{Shut}
use Rattle.journal_controls.specs.controller_model.Data.{facts_handed}
use Rattle.journal_controls.specs.controller_model.Facts.{Facts}
use Rattle.journal_controls.specs.controller_model.Shutting.{IsShut, leaving as shut_leaving, overdue as shut_overdue, reset as shut_reset}
use Rattle.journal_controls.specs.controller_model.Side.{notes_after}
use Rattle.journal_controls.specs.controller_model.Step.{Step as Call}
use Rattle.journal_controls.proofs.controller_model.Shuts.{shuts_with_reason}
use Rattle.journal_controls.specs.journal_ends.Asked.{Words}
use Rattle.journal_controls.specs.journal_ends.GivenWords.{GivesWords}
use Rattle.journal_controls.specs.link_model.Facts.{Facts as EndFacts}
use Rattle.journal_controls.specs.link_model.Step.{DataReported}
use Rattle.journal_controls.specs.link_model.Times.{ending_of}
use Rattle.journal_controls.specs.open_links.Data.{complete_in, link_reported}
use Rattle.journal_controls.specs.open_links.OpenLinks.{OpenLink, facts_in, link_after, link_at}
use Rattle.journal_controls.specs.run_model.History.{Event, Called, past_of}
use Rattle.journal_controls.specs.run_model.LinkEnds.{HaveAddresses}
use Rattle.journal_controls.specs.run_model.Run.{Given, facts_at, history_of, run_of, setup_at}
use Rattle.journal_controls.proofs.journal_acks.TwoStations.{IsOfTwo}
use Rattle.journal_controls.proofs.journal_acks.link_calls.UnderHandles.{WasOpen, map_under, was_open}
use Rattle.journal_controls.proofs.journal_ends.run_laws.Agreed.{step_facts}
use Rattle.journal_controls.proofs.journal_ends.run_laws.DistinctAccess.{AreApart}
use Rattle.journal_controls.proofs.journal_packets.AccessOrder.{AreNth}
use Rattle.journal_controls.proofs.link_model.Hearing.{IsHeardWhole}
use Rattle.journal_controls.proofs.run_model.LinkEnds.{AreTaken, IsUnderstood}
use Rattle.journal_controls.proofs.run_model.Stations.{is_in}
use Rattle.journal_leaving.specs.Shutting.{IsShutIn, leaving, overdue, reset}
use Rattle.journal_leaving.proofs.DueReasons.{leaving_ends, overdue_due}
use Rattle.journal_leaving.proofs.RunLeavings.{due_before_call, ending_before_call}

-- the report of complete packets leaves the code with which an end is to end
pub reported_ends : (link : OpenLink) → ending_of (facts_in (link_reported link)) ≡ ending_of (facts_in link)
reported_ends link = by (nat_lt 0 (complete_in link))
  where
    by : (reports : Bool) → ending_of (facts_in (if reports then link_after DataReported link else link)) ≡ ending_of (facts_in link)
    by true = ap (λ (f : EndFacts). ending_of f) (step_facts link DataReported)
    by false = refl

pub some_code : (code : Option ErrCode) (reason : ErrCode) → option_map (λ (one : ErrCode). one.0) code ≡ Some reason.0 → code ≡ Some reason
some_code None reason is = absurd cc
some_code (Some code) reason is = let same : code.0 ≡ reason.0 = cc in λ i. Some (record { 0 = same i })

-- a link that is open once the host has received what it is to receive was open before
pub handed : (facts : Facts) (handle : ℕ) (link : OpenLink) → link_at handle (facts_handed facts).links ≡ Some link → WasOpen link_reported (link_at handle facts.links) link
handed facts handle link at = was_open link_reported (link_at handle facts.links) link (sym (map_under (option_map link_reported) refl 0 handle facts.links) ∙ at)

module _ (words : Words) (heard_whole : IsHeardWhole) (understood : IsUnderstood) (taken : AreTaken) (nth : AreNth) (apart : AreApart) (given : Given) (are_two : IsOfTwo given)
    (six : HaveAddresses given) (gives : GivesWords given words) (before rest : List Event) (station : ℕ) (in_it : is_in station given.stations ≡ true) (handle : ℕ) (reason : ErrCode) where
  abbrev facts : Facts
  facts = facts_at given station before

  by_cause : (step : Call) → history_of (run_of given) ≡ before ++ Called station step ∷ rest → IsShut facts step handle reason.0 → IsShutIn words given before station step handle reason
  by_cause step at (shut_overdue slot on link begins is_open due) =
      let called = at ∙ ap (λ one. before ++ Called station one ∷ rest) begins in
      overdue slot on begins
      (due_before_call words heard_whole understood taken nth apart given are_two six gives before rest station slot on called in_it handle link is_open ∙ overdue_due slot reason.0 link due)
  by_cause step at (shut_leaving link ends is_open leaves) =
      let called = at ∙ ap (λ one. before ++ Called station one ∷ rest) ends in
      let was = handed facts handle link is_open in
      let same = ap (λ l. ending_of (facts_in l)) was.is ∙ reported_ends was.link in
      leaving ends
      (ending_before_call words heard_whole understood taken nth apart given are_two six gives before rest station called in_it handle was.link was.was
      ∙ sym same ∙ some_code (ending_of (facts_in link)) reason (leaving_ends reason.0 link leaves))
  by_cause step at (shut_reset link completed is_open code) = reset completed code

  pub shut_in_call : (step : Call) → history_of (run_of given) ≡ before ++ Called station step ∷ rest
      → Contains (notes_after (setup_at given station) facts step) (Shut handle reason) → IsShutIn words given before station step handle reason
  shut_in_call step at noted = by_cause step at ((shuts_with_reason (setup_at given station) (past_of station before) step handle reason.0).0 noted)
