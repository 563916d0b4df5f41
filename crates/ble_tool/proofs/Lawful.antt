-- Where the journals of a call are those of runs, they are lawful.
use Rattle.std.proofs.Common.{◌≡◌, ℕ, List, Option, Some, None, length, inl, inr, refl, sym, ap, subst, ◌∙◌}
use Rattle.ble_base.specs.declared.Side.TheVariants.{A, B}
use Rattle.journal.specs.declared.entries.Entry.{Entry}
use Rattle.journal_pdus.specs.Lawful.{IsLawful, IsWhole}
use Rattle.journal_pdus.specs.Undelivered.{IsUndelivered}
use Rattle.journal_pdus.specs.run_model.History.{Event}
use Rattle.journal_pdus.specs.run_model.Journal.{journal_of}
use Rattle.journal_pdus.specs.run_model.Pair.{EndsUnseen, IsRun, given_of}
use Rattle.journal_pdus.specs.run_model.Run.{Given, GoesOn, Stop, Stops, history_of, run_of}
use Rattle.program.specs.Causes.{HasCause, IsEnded, IsMakeFault, IsPairFault, IsUnseenRun, IsWholeRun, IsWorkDone, IsWorkFault, OfEnded, OfJournal, OfLoad, OfRun, OfUnseen, journal_text}
use Rattle.program.specs.Claims.{HaveSixOctets, Told, counted_line, of_runs}
use Rattle.program.specs.Commands.{command_of}
use Rattle.program.specs.Counts.{octets_up}
use Rattle.program.specs.Ending.{IsEnding as IsEndingWith}
use Rattle.program.specs.LoadLine.{line_of_counts}
use Rattle.program.specs.Status.{Outcome, Done, NoCommand, Failed}
use Rattle.program.specs.World.{HasWritten, HasWrittenPart, World, Writes}
use Rattle.program.specs.declared.commands.Command.{Command}
use Rattle.program.specs.declared.commands.Command.TheVariants.{Make, Pair}
use Rattle.program.specs.declared.faults.Fault.{Fault}
use Rattle.program.specs.declared.faults.Fault.TheVariants.{BadLine, CannotRead, CannotWrite, NoMemory, TooLong, TooManyTurns, Unseen}
use Rattle.radio_replay.specs.LoadSchedule.{load_schedule}
use Rattle.radio_replay.specs.LoadStreams.{stream_a, stream_b}
use Rattle.radio_replay.specs.Script.{Script}
use Rattle.ble_tool.specs.Counts.{links_in, load_line, octets_received}
use Rattle.ble_tool.specs.Ending.{IsEnding}
use Rattle.ble_tool.specs.Lawful.{lawful}
use Rattle.ble_tool.proofs.CountedLinks.{last_is_count}
use Rattle.ble_tool.proofs.CountedOctets.{up_is_received}

-- the law of the journal of each run of a pair
pub record IsLaw : Type 0 where
  pub each : (a b : List ℕ) (script : Script) → length script.a.public ≡ 6 → length script.b.public ≡ 6
      → IsLawful a b script (journal_of (history_of (run_of (given_of a b script))))
  pub whole : (a b : List ℕ) (script : Script) (history : List Event) → length script.a.public ≡ 6 → length script.b.public ≡ 6
      → run_of (given_of a b script) ≡ GoesOn history → IsWhole script (journal_of history)
  pub stopped : (a b : List ℕ) (script : Script) (history : List Event) (stop : Stop) → length script.a.public ≡ 6
      → length script.b.public ≡ 6 → run_of (given_of a b script) ≡ Stops history stop
      → IsUndelivered script stop.slot stop.place stop.sent stop.heard (journal_of history)

module _ (law : IsLaw) where
  -- ---- the journal of a run

  whole_lawful : (a b : List ℕ) (script : Script) (journal : List Entry) → HaveSixOctets script → IsRun (given_of a b script) journal
      → IsLawful a b script journal
  whole_lawful a b script journal six is =
      subst (IsLawful a b script) (ap (λ run. journal_of (history_of run)) is.is_whole ∙ sym is.written) (law.each a b script six.a six.b)

  unseen_lawful : (a b : List ℕ) (script : Script) (turn packet : ℕ) (sent heard : List ℕ) (journal : List Entry) → HaveSixOctets script
      → EndsUnseen (given_of a b script) turn packet sent heard journal → IsLawful a b script journal
  unseen_lawful a b script turn packet sent heard journal six is =
      subst (IsLawful a b script) (ap (λ run. journal_of (history_of run)) is.stops ∙ sym is.written) (law.each a b script six.a six.b)

  is_whole : (a b : List ℕ) (script : Script) (journal : List Entry) → HaveSixOctets script → IsRun (given_of a b script) journal
      → IsWhole script journal
  is_whole a b script journal six is =
      subst (IsWhole script) (sym is.written) (law.whole a b script is.history six.a six.b is.is_whole)

  due_at_fault : (a b : List ℕ) (script : Script) (turn packet : ℕ) (sent heard : List ℕ) (journal : List Entry) → HaveSixOctets script
      → EndsUnseen (given_of a b script) turn packet sent heard journal → IsUndelivered script turn packet sent heard journal
  due_at_fault a b script turn packet sent heard journal six is =
      let stop = law.stopped a b script is.history is.stop six.a six.b is.stops in
      subst (IsUndelivered script turn packet sent heard) (sym is.written)
      (subst (λ octets. IsUndelivered script turn packet sent octets (journal_of is.history)) (sym is.heard_is)
      (subst (λ octets. IsUndelivered script turn packet octets is.stop.heard (journal_of is.history)) (sym is.sent_is)
      (subst (λ n. IsUndelivered script turn n is.stop.sent is.stop.heard (journal_of is.history)) (sym is.packet_is)
      (subst (λ n. IsUndelivered script n is.stop.place is.stop.sent is.stop.heard (journal_of is.history)) (sym is.turn_is) stop))))

  -- ---- what is written of it

  -- a fact of what is written of a journal of one kind is one of what else is written of it, as a lawful one of another kind
  of_lawful : (told told_too : Told) (kind kind_too : Script → Given → List Entry → Type 0) (fact : List ℕ → Type 0) (a b schedule : List ℕ)
      → ((script : Script) (journal : List Entry) → HaveSixOctets script → kind script (given_of a b script) journal → IsLawful a b script journal)
      → ((script : Script) (journal : List Entry) → HaveSixOctets script → kind script (given_of a b script) journal
      → kind_too script (given_of a b script) journal)
      → ((script : Script) (journal : List Entry) → IsLawful a b script journal → kind_too script (given_of a b script) journal
      → told script journal ≡ told_too script journal)
      → OfJournal of_runs told kind fact a b schedule → OfJournal lawful told_too kind_too fact a b schedule
  of_lawful told told_too kind kind_too fact a b schedule each more same is =
      let script : Script = record { a = is.config_a; b = is.config_b; turns = is.turns } in
      let claimed = each script is.journal is.claimed is.is_of_kind in
      let of_kind = more script is.journal is.claimed is.is_of_kind in
      record {
        config_a = is.config_a;
        config_b = is.config_b;
        turns = is.turns;
        journal = is.journal;
        no_fault = is.no_fault;
        is_of_kind = of_kind;
        claimed = claimed;
        holds = subst fact (same script is.journal claimed of_kind) is.holds;
      }

  whole_kind : (a b : List ℕ) (script : Script) (journal : List Entry) → HaveSixOctets script
      → IsWholeRun of_runs script (given_of a b script) journal → IsWholeRun lawful script (given_of a b script) journal
  whole_kind a b script journal six is = record { is_run = is.is_run; claimed = is_whole a b script journal six is.is_run }

  unseen_kind : (a b : List ℕ) (script : Script) (turn packet : ℕ) (sent heard : List ℕ) (journal : List Entry) → HaveSixOctets script
      → IsUnseenRun of_runs turn packet sent heard script (given_of a b script) journal
      → IsUnseenRun lawful turn packet sent heard script (given_of a b script) journal
  unseen_kind a b script turn packet sent heard journal six is =
      record { ends = is.ends; claimed = due_at_fault a b script turn packet sent heard journal six is.ends }

  ended_lawful : (a b : List ℕ) (script : Script) (journal : List Entry) → HaveSixOctets script
      → IsEnded of_runs script (given_of a b script) journal → IsLawful a b script journal
  ended_lawful a b script journal six (inl is) = whole_lawful a b script journal six is
  ended_lawful a b script journal six (inr is) = unseen_lawful a b script is.0 is.1 is.2 is.3 journal six is.4.ends

  ended_kind : (a b : List ℕ) (script : Script) (journal : List Entry) → HaveSixOctets script
      → IsEnded of_runs script (given_of a b script) journal → IsEnded lawful script (given_of a b script) journal
  ended_kind a b script journal six (inl is) = inl is
  ended_kind a b script journal six (inr is) =
      inr (is.0, is.1, is.2, is.3, unseen_kind a b script is.0 is.1 is.2 is.3 journal six is.4)

  of_run : (fact : List ℕ → Type 0) (a b schedule : List ℕ) → OfRun of_runs fact a b schedule → OfRun lawful fact a b schedule
  of_run fact a b schedule is =
      of_lawful journal_text journal_text (IsWholeRun of_runs) (IsWholeRun lawful) fact a b schedule
      (λ script journal six kind. whole_lawful a b script journal six kind.is_run) (whole_kind a b) (λ script journal claimed kind. refl) is

  of_unseen : (turn packet : ℕ) (sent heard : List ℕ) (fact : List ℕ → Type 0) (a b schedule : List ℕ)
      → OfUnseen of_runs turn packet sent heard fact a b schedule → OfUnseen lawful turn packet sent heard fact a b schedule
  of_unseen turn packet sent heard fact a b schedule is =
      of_lawful journal_text journal_text (IsUnseenRun of_runs turn packet sent heard) (IsUnseenRun lawful turn packet sent heard) fact a b schedule
      (λ script journal six kind. unseen_lawful a b script turn packet sent heard journal six kind.ends)
      (λ script journal six kind. unseen_kind a b script turn packet sent heard journal six kind) (λ script journal claimed kind. refl) is

  of_ended : (fact : List ℕ → Type 0) (a b schedule : List ℕ) → OfEnded of_runs fact a b schedule → OfEnded lawful fact a b schedule
  of_ended fact a b schedule is =
      of_lawful journal_text journal_text (IsEnded of_runs) (IsEnded lawful) fact a b schedule
      (ended_lawful a b) (ended_kind a b) (λ script journal claimed kind. refl) is

  -- the line on a whole run counts what the journal says
  line_is : (a b : List ℕ) (number : ℕ) (script : Script) (journal : List Entry) → IsLawful a b script journal → IsWhole script journal
      → counted_line number script journal ≡ load_line number script journal
  line_is a b number script journal claimed whole =
      let turns = length script.turns in
      ap (λ n. line_of_counts number turns n (octets_up A journal) (octets_up B journal)) (last_is_count a b script journal claimed whole)
      ∙ ap (λ n. line_of_counts number turns (links_in journal) n (octets_up B journal)) (up_is_received A a b script journal claimed)
      ∙ ap (λ n. line_of_counts number turns (links_in journal) (octets_received A journal) n) (up_is_received B a b script journal claimed)

  of_load : (fact : List ℕ → Type 0) (number : ℕ) → OfLoad of_runs fact number → OfLoad lawful fact number
  of_load fact number is =
      let a = stream_a number in
      let b = stream_b number in
      of_lawful (counted_line number) (load_line number) (IsWholeRun of_runs) (IsWholeRun lawful) fact a b (load_schedule number)
      (λ script journal six kind. whole_lawful a b script journal six kind.is_run) (whole_kind a b)
      (λ script journal claimed kind. line_is a b number script journal claimed kind.claimed) is

  -- ---- commands

  pair_fault : (writes : Writes) (fault : Fault) (a b schedule : List ℕ) → IsPairFault of_runs writes fault a b schedule
      → IsPairFault lawful writes fault a b schedule
  pair_fault writes (BadLine place number) a b schedule is = is
  pair_fault writes (TooManyTurns place number) a b schedule is = is
  pair_fault writes CannotWrite a b schedule is = (is.0, of_ended (HasWrittenPart writes) a b schedule is.1)
  pair_fault writes NoMemory a b schedule (inl none) = inl none
  pair_fault writes NoMemory a b schedule (inr part) = inr (of_ended (HasWrittenPart writes) a b schedule part)
  pair_fault writes (Unseen turn packet sent heard) a b schedule is =
      of_unseen turn packet sent heard (HasWritten writes) a b schedule is
  pair_fault writes (CannotRead place) a b schedule is = is
  pair_fault writes (TooLong place) a b schedule is = is

  make_fault : (writes : Writes) (number : ℕ) (fault : Fault) → IsMakeFault of_runs writes number fault → IsMakeFault lawful writes number fault
  make_fault writes number CannotWrite is = (is.0, of_load (HasWrittenPart writes) number is.1)
  make_fault writes number NoMemory (inl none) = inl none
  make_fault writes number NoMemory (inr part) = inr (of_load (HasWrittenPart writes) number part)
  make_fault writes number (BadLine place line) is = is
  make_fault writes number (TooManyTurns place line) is = is
  make_fault writes number (Unseen turn packet sent heard) is = is
  make_fault writes number (CannotRead place) is = is
  make_fault writes number (TooLong place) is = is

  work_done : (command : Command) (writes : Writes) (contents : List (List ℕ)) → IsWorkDone of_runs command writes contents
      → IsWorkDone lawful command writes contents
  work_done (Pair names) writes contents is = of_run (HasWritten writes) _ _ _ is
  work_done (Make number) writes contents is = of_load (HasWritten writes) number is

  work_fault : (command : Command) (writes : Writes) (fault : Fault) (contents : List (List ℕ)) → IsWorkFault of_runs command writes fault contents
      → IsWorkFault lawful command writes fault contents
  work_fault (Pair names) writes fault contents is = pair_fault writes fault _ _ _ is
  work_fault (Make number) writes fault contents is = make_fault writes number fault is

  cause : (command : Option Command) (world : World) (outcome : Outcome) → HasCause of_runs command world outcome
      → HasCause lawful command world outcome
  cause (Some command) world Done is = (is.0, is.1, work_done command world.writes is.0 is.2)
  cause (Some command) world NoCommand is = is
  cause (Some command) world (Failed fault) (inl none) = inl none
  cause (Some command) world (Failed fault) (inr is) = inr (is.0, is.1, work_fault command world.writes fault is.0 is.2)
  cause None world Done is = is
  cause None world NoCommand is = is
  cause None world (Failed fault) is = is

  pub lawful_ending : {words : List (List ℕ)} {world : World} {says : List ℕ → Type 0} {status : ℕ} → IsEndingWith of_runs words world says status
      → IsEnding words world says status
  lawful_ending {words = words} {world = world} ending = record {
    outcome = ending.outcome;
    is_status = ending.is_status;
    has_cause = cause (command_of words) world ending.outcome ending.has_cause;
    is_said = ending.is_said;
  }
