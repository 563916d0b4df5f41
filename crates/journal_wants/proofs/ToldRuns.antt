-- In a run of two stations the lines tell of the links of each side what its ends are.
use Rattle.std.proofs.Common.{◌≡◌, ℕ, [], ◌∙◌}
use Rattle.journal_events.specs.journal_sending.controller_model.Step.{TurnBegins}
use Rattle.journal_events.specs.journal_sending.journal_controls.journal_ends.Asked.{Words}
use Rattle.journal_events.specs.journal_sending.journal_controls.journal_ends.GivenWords.{GivesWords}
use Rattle.journal_events.specs.journal_sending.run_model.Due.{Each}
use Rattle.journal_events.specs.journal_sending.run_model.History.{past_of}
use Rattle.journal_events.specs.journal_sending.run_model.Journal.{journal_of, side_of}
use Rattle.journal_events.specs.journal_sending.run_model.LinkEnds.{HaveAddresses}
use Rattle.journal_events.specs.journal_sending.run_model.Run.{Given, after_call, facts_at, history_of, run_of, setup_at}
use Rattle.journal_events.proofs.journal_sending.journal_acks.Known.{known_of}
use Rattle.journal_events.proofs.journal_sending.journal_acks.TwoStations.{IsOfTwo}
use Rattle.journal_events.proofs.journal_sending.journal_data.FewLinks.{HaveFewLinks}
use Rattle.journal_events.proofs.journal_sending.journal_data.HeldInRuns.{held_of_two, run_held}
use Rattle.journal_events.proofs.journal_sending.journal_data.HeldNotes.{IsHeld}
use Rattle.journal_events.proofs.journal_sending.journal_data.Law.{first_data}
use Rattle.journal_events.proofs.journal_sending.journal_data.open_links.OnTime.{enters_an_event}
use Rattle.journal_events.proofs.journal_sending.journal_data.run_laws.DistinctAccess.{AreApart}
use Rattle.journal_events.proofs.journal_sending.journal_leaving.link_model.Hearing.{IsHeardWhole}
use Rattle.journal_events.proofs.journal_sending.journal_links.OfTwo.{are_distinct, of_two_stations}
use Rattle.journal_events.proofs.journal_sending.journal_packets.AccessOrder.{AreNth}
use Rattle.journal_events.proofs.journal_sending.journal_packets.SoFar.{IsBelongingSoFar}
use Rattle.journal_events.proofs.journal_sending.run_model.LinkEnds.{AreTaken, IsUnderstood}
use Rattle.journal_events.proofs.SkipsInRuns.{skips_in_run}
use Rattle.journal_wants.proofs.FarLinks.{far_linked}
use Rattle.journal_wants.proofs.LinkHandles.{all_resolved}
use Rattle.journal_wants.proofs.NextLinks.{sides_are}
use Rattle.journal_wants.proofs.QuietLinks.{quiet_linked}
use Rattle.journal_wants.proofs.RunStations.{AreTold}
use Rattle.journal_wants.proofs.StillStation.{far_events, quiet_events}
use Rattle.journal_wants.proofs.StillTurns.{ends_told}
use Rattle.journal_wants.proofs.ToldBegin.{holder_told, own_staying, winner_told}
use Rattle.journal_wants.proofs.ToldLinks.{told_entered}

module _ (words : Words) (heard_whole : IsHeardWhole) (understood : IsUnderstood) (taken : AreTaken) (nth : AreNth)
    (apart : AreApart) (given : Given) (are_two : IsOfTwo given)
    (few_links : HaveFewLinks given) (six : HaveAddresses given) (gives : GivesWords given words)
    (eight : (station : ℕ) → (setup_at given station).host_buffers ≡ 8) where
  all_held : Each IsHeld [] (history_of (run_of given))
  all_held =
      run_held heard_whole given (IsBelongingSoFar given) (known_of understood taken nth apart given are_two six)
      are_two few_links six (are_distinct given are_two) eight (first_data given)

  pub are_told : AreTold words given
  are_told = record {
    resolved = λ station before more note at.
        all_resolved station (history_of (run_of given))
        (held_of_two heard_whole understood taken nth apart given are_two few_links six (are_distinct given are_two)
        eight)
        all_held before more note at;
    begins = λ station slot on base rest in_it at.
        let side = side_of station in
        let setup = setup_at given station in
        let facts = facts_at given station base in
        let past = past_of station base in
        let front = journal_of (after_call given station (TurnBegins slot on) base) in
        let entered =
        told_entered words heard_whole understood taken nth apart given are_two few_links six gives eight
        station slot on base rest in_it at in record {
          own = λ handle link is_open. own_staying setup past slot handle link is_open;
          skips = skips_in_run words heard_whole understood taken nth apart given are_two few_links six gives eight
              station slot on base rest in_it at;
          winner = winner_told words side front slot facts
              (λ handle link is_open enters. entered handle link is_open (enters_an_event slot link enters));
          holder = λ held. holder_told words side front slot setup past entered;
        };
    far = λ station caller step history rest in_it in_too at differs.
        far_linked words given (side_of station) caller step history
        (sides_are station caller (of_two_stations given are_two station in_it)
        (of_two_stations given are_two caller in_too) ∙ differs)
        (far_events words given gives.kept are_two station caller step history rest in_it in_too at differs);
    quiet = λ station history rest in_it at none.
        let ends = ends_told words given are_two station history rest at none in (
          ends,
          quiet_linked words given station history ends
              (quiet_events words given gives.kept station history rest in_it at ends),
        );
  }
