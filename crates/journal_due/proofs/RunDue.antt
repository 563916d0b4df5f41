-- In a run of two stations each line of a procedure, and of an indication, comes where it is due, and between turns nothing
-- is due.
use Rattle.std.proofs.Common.{◌≡◌, ℕ, Bool, true, false, Some, None, List, [], ◌∷◌, ◌++◌, refl, sym, ap, subst, append-nil, append_assoc, ◌∙◌}
use Rattle.ble_base.specs.declared.notes.Note.{Note}
use Rattle.ble_base.specs.declared.notes.Note.TheVariants.{Up}
use Rattle.ble_base.specs.declared.roles.Side.{Side}
use Rattle.ble_base.specs.declared.roles.Side.TheVariants.{A, B}
use Rattle.journal.specs.declared.entries.Entry.{Entry}
use Rattle.journal.specs.declared.entries.Entry.TheVariants.{Fed}
use Rattle.journal_controls.specs.LinesDue.{lines_due}
use Rattle.journal_controls.specs.journal_ends.Asked.{Words}
use Rattle.journal_controls.specs.journal_ends.GivenWords.{GivesWords}
use Rattle.journal_controls.specs.run_model.Due.{Each}
use Rattle.journal_controls.specs.run_model.History.{Event, Called, HostFed, Noted, Transmitted, TurnBegan, packet_received}
use Rattle.journal_controls.specs.run_model.Journal.{entries_of, entry_of, journal_of, side_of}
use Rattle.journal_controls.specs.run_model.LinkEnds.{HaveAddresses}
use Rattle.journal_controls.specs.run_model.Links.{Links, links_of}
use Rattle.journal_controls.specs.run_model.Run.{Given, history_of, run_of}
use Rattle.journal_controls.proofs.journal_acks.LinkPackets.{lines_first}
use Rattle.journal_controls.proofs.journal_acks.TwoStations.{IsOfTwo}
use Rattle.journal_controls.proofs.journal_acks.run_laws.DistinctAccess.{AreApart}
use Rattle.journal_controls.proofs.journal_ends.KeptSeen.{seen_first}
use Rattle.journal_controls.proofs.journal_packets.AccessOrder.{AreNth}
use Rattle.journal_controls.proofs.link_model.Hearing.{IsHeardWhole}
use Rattle.journal_controls.proofs.run_model.EntryEvents.{is_of_event}
use Rattle.journal_controls.proofs.run_model.LinkEnds.{AreTaken, IsUnderstood}
use Rattle.journal_controls.proofs.run_model.Places.{each_at}
use Rattle.journal_controls.proofs.run_model.Stations.{is_in}
use Rattle.journal_controls.proofs.run_model.Walk.{IsStopped, IsWhole, NoTurn, ends_with, run_kept}
use Rattle.journal_due.specs.EachLine.{AreDueLines, IsDueLine}
use Rattle.journal_due.specs.ProcedureLines.{AllIndicationsAreDue, AllProceduresAreDue, NoneIsDue, NoneIsLeftOut, RestsAt, is_turn_or_packet, applied_last, side_of_line}
use Rattle.journal_due.proofs.DueAhead.{ahead_rests, rests_ahead}
use Rattle.journal_due.proofs.DueSides.{AreDueBy}
use Rattle.journal_due.proofs.KeptDue.{AreDueAt, KnowsControls, NoneDueIn, RestsBefore, dues_kept, packet_rests}

-- ---- one line of many

due_at : (words : Words) (side : Side) (front lines before rest : List Entry) (line : Entry) → AreDueLines words side front lines → lines ≡ before ++ line ∷ rest → side_of_line line ≡ Some side
    → IsDueLine words side (front ++ before) line
due_at words side front lines [] rest line all is own =
    subst (λ xs. IsDueLine words side xs line) (sym (append-nil front)) ((subst (λ xs. AreDueLines words side front xs) is all).0 own)
due_at words side front lines (first ∷ before) rest line all is own =
    subst (λ xs. IsDueLine words side xs line) (append_assoc front (first ∷ []) before)
    (due_at words side (front ++ first ∷ []) (before ++ line ∷ rest) before rest line (subst (λ xs. AreDueLines words side front xs) is all).1 refl own)

-- ---- the line of a turn or of a packet

note_no_part : (side : Side) (link_of : ℕ → ℕ) (last : ℕ) (note : Note) → is_turn_or_packet (entry_of side link_of last note) ≡ false
note_no_part side link_of last (Up packet) = refl
note_no_part side link_of last note = refl

left_by : (words : Words) (given : Given) (before : List Event) (links : Links) (event : Event) (line : Entry) → entries_of links event ≡ line ∷ [] → is_turn_or_packet line ≡ true
    → RestsBefore words given before event → NoneDueIn words given before
left_by words given before links (TurnBegan slot radios) line is on rests = rests
left_by words given before links (Transmitted station channel octets hearings) line is on rests = rests
left_by words given before links (HostFed station octets) line is on rests =
    let same : Fed (side_of station) octets ≡ line = cc in absurd (let h : true ≡ false = sym on ∙ sym (ap is_turn_or_packet same) in absurd cc)
left_by words given before links (Called station step) line is on rests = absurd cc
left_by words given before links (Noted station note) line is on rests =
    let same : entry_of (side_of station) (links.link_of station) (links.last_of station) note ≡ line = cc in
    absurd (let h : true ≡ false = sym on ∙ sym (ap is_turn_or_packet same) ∙ note_no_part (side_of station) (links.link_of station) (links.last_of station) note in absurd cc)

-- ---- as a run begins

no_packet : (station : ℕ) → packet_received station [] ≡ None
unfolding packet_received
no_packet station = refl

rests_first : (words : Words) (side : Side) → RestsAt words side (journal_of [])
unfolding journal_of lines_due applied_last
rests_first words side = record { procedures = λ number. refl; indication = refl }

each_first : (words : Words) (side : Side) → AreDueBy words side []
unfolding journal_of
each_first words side = tt

dues_first : (words : Words) (given : Given) → AreDueAt words given NoTurn []
dues_first words given = record {
  seen = seen_first words given;
  lined = lines_first given;
  due = λ station in_it. record {
    each = each_first words (side_of station);
    ahead = rests_ahead words given station [] (packet_received station []) (no_packet station) (rests_first words (side_of station));
  };
  rests = tt;
}

-- ---- a run

-- of all stations, wherever a run ends
record AreDone (words : Words) (given : Given) (history : List Event) : Type 0 where
  each : (station : ℕ) → is_in station given.stations ≡ true → AreDueBy words (side_of station) history
  rests : NoneDueIn words given history
  before : Each (RestsBefore words given) [] history

module _ (words : Words) (heard_whole : IsHeardWhole) (understood : IsUnderstood) (taken : AreTaken) (nth : AreNth) (apart : AreApart) (given : Given) (are_two : IsOfTwo given)
    (six : HaveAddresses given) (gives : GivesWords given words) (knows : KnowsControls words given) where
  done : AreDone words given (history_of (run_of given))
  done =
      ends_with (run_of given) (IsWhole given (AreDueAt words given)) (IsStopped given (AreDueAt words given)) (AreDone words given)
      (run_kept given (AreDueAt words given) (dues_kept words heard_whole understood taken nth apart given are_two six gives knows) (dues_first words given))
      (λ history whole. record {
        each = λ station in_it. (whole.is.due station in_it).each;
        rests = λ station in_it. ahead_rests words given station history (packet_received station history) (whole.is.seen.holds.hearing.hears station in_it) (whole.is.due station in_it).ahead;
        before = whole.is.rests;
      })
      (λ history stop stopped. record {
        each = λ station in_it. (stopped.kept.due station in_it).each;
        rests = packet_rests words given are_two stopped.phases stopped.done stopped.left stop.sender stop.channel stop.sent history stopped.stations_are stopped.is_wanted stopped.kept;
        before = stopped.kept.rests;
      })

  -- ---- of both sides

  is_first : is_in 0 given.stations ≡ true
  is_first = ap (is_in 0) are_two

  is_second : is_in 1 given.stations ≡ true
  is_second = ap (is_in 1) are_two

  both_sides : (side : Side) → AreDueBy words side (history_of (run_of given))
  both_sides A = done.each 0 is_first
  both_sides B = done.each 1 is_second

  both_rest : (history : List Event) → NoneDueIn words given history → NoneIsDue words (journal_of history)
  both_rest history rests = λ side. by side
    where
      by : (side : Side) → RestsAt words side (journal_of history)
      by A = rests 0 is_first
      by B = rests 1 is_second

  pub procedures_due : AllProceduresAreDue words (journal_of (history_of (run_of given)))
  procedures_due front rest line side number is own = (due_at words side [] (journal_of (history_of (run_of given))) front rest line (both_sides side) is own).procedures number

  pub indications_due : AllIndicationsAreDue words (journal_of (history_of (run_of given)))
  indications_due front rest line side is own = (due_at words side [] (journal_of (history_of (run_of given))) front rest line (both_sides side) is own).indication

  pub none_before_turns : (before rest : List Event) (slot : ℕ) (radios : List Bool) → history_of (run_of given) ≡ before ++ TurnBegan slot radios ∷ rest → NoneIsDue words (journal_of before)
  none_before_turns before rest slot radios is =
      both_rest before (each_at (RestsBefore words given) (history_of (run_of given)) before rest (TurnBegan slot radios) done.before is)

  -- and before each packet
  pub none_left_out : NoneIsLeftOut words (journal_of (history_of (run_of given)))
  none_left_out front rest line is on =
      let at = is_of_event (history_of (run_of given)) front rest line is in
      subst (λ xs. NoneIsDue words xs) (sym at.front_is)
      (both_rest at.before (left_by words given at.before (links_of at.before) at.event line at.entry_is on
      (each_at (RestsBefore words given) (history_of (run_of given)) at.before at.after at.event done.before at.is_at)))

  pub none_at_end : NoneIsDue words (journal_of (history_of (run_of given)))
  none_at_end = both_rest (history_of (run_of given)) done.rests
