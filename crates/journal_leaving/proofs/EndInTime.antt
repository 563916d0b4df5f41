-- Links end in time by the lines of a run's journal.
use Rattle.std.proofs.Common.{◌≡◌, List, ◌∷◌, ◌++◌, sym, ap, subst, ◌∙◌}
use Rattle.journal.specs.declared.entries.Entry.TheVariants.{Turn}
use Rattle.journal_controls.specs.journal_ends.Asked.{Words}
use Rattle.journal_controls.specs.journal_ends.GivenWords.{GivesWords}
use Rattle.journal_controls.specs.run_model.History.{Event}
use Rattle.journal_controls.specs.run_model.Journal.{journal_of}
use Rattle.journal_controls.specs.run_model.LinkEnds.{HaveAddresses}
use Rattle.journal_controls.specs.run_model.Links.{links_of}
use Rattle.journal_controls.specs.run_model.Run.{Given, GoesOn, history_of, run_of}
use Rattle.journal_controls.proofs.journal_acks.Exchanging.{number_at}
use Rattle.journal_controls.proofs.journal_acks.TwoStations.{IsOfTwo}
use Rattle.journal_controls.proofs.journal_ends.run_laws.DistinctAccess.{AreApart}
use Rattle.journal_controls.proofs.journal_packets.AccessOrder.{AreNth}
use Rattle.journal_controls.proofs.link_model.Hearing.{IsHeardWhole}
use Rattle.journal_controls.proofs.run_model.EntryEvents.{is_of_event}
use Rattle.journal_controls.proofs.run_model.LinkEnds.{AreTaken, IsUnderstood}
use Rattle.journal_leaving.specs.Reasons.{AllEndInTime, AllStayOpen, StaysOpen}
use Rattle.journal_leaving.proofs.InTime.{NoneOverdue, none_overdue_at_end, none_overdue_before_turn}
use Rattle.journal_leaving.proofs.OnlyOpen.{OnlyOpen, has_end, only_open_at_end, only_open_before_turn, turn_of_line}
use Rattle.journal_leaving.proofs.RunLeavings.{NoneLeaves, none_leaves_at_end, none_leaves_before_turn}

-- each end with a control part is open, and no open end was to end
all_stay_open : (words : Words) (given : Given) (history : List Event) → OnlyOpen words given history → NoneOverdue words given history → NoneLeaves words given history → AllStayOpen words (journal_of history)
all_stay_open words given history only overdue leaves = λ side number control is.
    let has = has_end words side number history control is in
    let one = only side number has.keyed has.is in
    subst (λ n. StaysOpen words side n (journal_of history)) one.number_is
    (subst (λ s. StaysOpen words s (number_at one.station one.handle history) (journal_of history)) one.side_is (record {
      not_overdue = overdue one.station one.in_it one.handle one.link one.is_open;
      not_leaving = leaves one.station one.in_it one.handle one.link one.is_open;
    }))

module _ (words : Words) (whole : IsHeardWhole) (understood : IsUnderstood) (taken : AreTaken) (nth : AreNth) (apart : AreApart) (given : Given) (are_two : IsOfTwo given)
    (six : HaveAddresses given) (gives : GivesWords given words) where
  pub end_in_time : AllEndInTime words (journal_of (history_of (run_of given)))
  end_in_time front rest slot a_on b_on is =
      let one = is_of_event (history_of (run_of given)) front rest (Turn slot a_on b_on) is in
      let turn = turn_of_line (links_of one.before) one.event slot a_on b_on one.entry_is in
      let at = one.is_at ∙ ap (λ event. one.before ++ event ∷ one.after) turn.is in
      subst (AllStayOpen words) (sym one.front_is)
      (all_stay_open words given one.before (only_open_before_turn words given one.before one.after turn.slot turn.radios at)
      (none_overdue_before_turn words whole understood taken nth apart given are_two six gives one.before one.after turn.slot turn.radios at)
      (none_leaves_before_turn words whole understood taken nth apart given are_two six gives one.before one.after turn.slot turn.radios at))

  pub stay_open_at_end : (history : List Event) → run_of given ≡ GoesOn history → AllStayOpen words (journal_of history)
  stay_open_at_end history goes =
      all_stay_open words given history (subst (OnlyOpen words given) (ap history_of goes) (only_open_at_end words given))
      (none_overdue_at_end words whole understood taken nth apart given are_two six gives history goes)
      (none_leaves_at_end words whole understood taken nth apart given are_two six gives history goes)
