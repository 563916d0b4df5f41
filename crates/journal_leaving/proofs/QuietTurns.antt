-- No packet was on the air yet in a turn as an octet of a host comes, and as a controller begins the turn.
use Rattle.std.proofs.Common.{◌≡◌, ℕ, Bool, true, false, Option, Some, None, List, [], ◌∷◌, ◌++◌, refl, ap, ◌∙◌}
use Rattle.std.specs.Prelude.{⊤, map, take}
use Rattle.std.proofs.lemmas.List.Sums.{fold-append}
use Rattle.ble_base.specs.declared.notes.Note.{Note}
use Rattle.journal.specs.declared.entries.Entry.{Entry}
use Rattle.journal.specs.declared.entries.Entry.TheVariants.{Air, Turn}
use Rattle.journal_controls.specs.controller_model.Side.{notes_after}
use Rattle.journal_controls.specs.controller_model.Step.{Step, HostOctet, TurnBegins, TurnEnds}
use Rattle.journal_controls.specs.run_model.Due.{Each}
use Rattle.journal_controls.specs.run_model.History.{Event, TurnBegan, HostFed, Called, Noted, Transmitted, packet_received}
use Rattle.journal_controls.specs.run_model.Journal.{journal_of}
use Rattle.journal_controls.specs.run_model.Run.{Given, after_call, after_feed, after_octets, facts_at, hearings_of, history_of, octets_left, run_of, setup_at, step_of}
use Rattle.journal_controls.proofs.run_model.Parts.{journal_event}
use Rattle.journal_controls.proofs.run_model.Places.{each_at, each_called, each_event}
use Rattle.journal_controls.proofs.run_model.Walk.{Place, AtFeeds, AtBegins, IsKept, IsStopped, IsWhole, ends_with, run_kept}
use Rattle.journal_leaving.specs.Reasons.{packets_passed, passed_after}
use Rattle.journal_leaving.proofs.OtherLines.{call_reads, feed_reads, host_reads, in_call_reads, is_other}

abbrev pub passed_at : List Event → Bool
passed_at history = packets_passed (journal_of history)

-- ---- an event more

passed_more : (journal : List Entry) (entry : Entry) → packets_passed (journal ++ entry ∷ []) ≡ passed_after (packets_passed journal) entry
unfolding packets_passed
passed_more journal entry = fold-append passed_after false journal (entry ∷ [])

other_passed : (before : Bool) (line : Entry) → is_other line ≡ true → passed_after before line ≡ before
other_passed before (Turn slot a_on b_on) other = absurd cc
other_passed before (Air sender channel octets fate verdict) other = absurd cc
other_passed before line other = refl

still_passed : (front : List Entry) (line : Entry) → is_other line ≡ true → packets_passed (front ++ line ∷ []) ≡ packets_passed front
still_passed front line other = passed_more front line ∙ other_passed (packets_passed front) line other

turn_passed : (history : List Event) (slot : ℕ) (radios : List Bool) → passed_at (history ++ TurnBegan slot radios ∷ []) ≡ false
turn_passed history slot radios = ap packets_passed (journal_event history (TurnBegan slot radios)) ∙ passed_more (journal_of history) _

pub in_call_passed : (station : ℕ) (step : Step) (history : List Event) (notes : List Note)
    → passed_at (history ++ Called station step ∷ map (Noted station) notes) ≡ passed_at history
in_call_passed station step history notes = in_call_reads Bool packets_passed still_passed station step history notes

-- ---- the calls before the packets of a turn

-- an octet of the host, or the beginning of a turn
abbrev pub is_early : Step → Bool
is_early (HostOctet octet) = true
is_early (TurnBegins slot on) = true
is_early step = false

abbrev is_opening : Place → Bool
is_opening (AtFeeds done left) = true
is_opening (AtBegins done left) = true
is_opening place = false

-- where such a call is made, no packet passed in its turn
abbrev IsQuietCall : List Event → Event → Type 0
IsQuietCall history (Called station step) = is_early step ≡ true → passed_at history ≡ false
IsQuietCall history (TurnBegan slot radios) = ⊤
IsQuietCall history (HostFed station octets) = ⊤
IsQuietCall history (Noted station note) = ⊤
IsQuietCall history (Transmitted station channel octets hearings) = ⊤

record AreQuiet (place : Place) (history : List Event) : Type 0 where
  none : is_opening place ≡ true → passed_at history ≡ false
  each : Each IsQuietCall [] history

not_early : (received : Option (List ℕ)) (X : Type 0) → is_early (step_of received) ≡ true → X
not_early None X is = absurd cc
not_early (Some octets) X is = absurd cc

module _ (given : Given) where
  one_call : (station : ℕ) (step : Step) (history : List Event) → (is_early step ≡ true → passed_at history ≡ false) → Each IsQuietCall [] history
      → Each IsQuietCall [] (after_call given station step history)
  one_call station step history is each =
      each_called IsQuietCall station step (notes_after (setup_at given station) (facts_at given station history) step) history each is (λ before note. tt)

  each_octet : (station : ℕ) (octets : List ℕ) (history : List Event) → passed_at history ≡ false → Each IsQuietCall [] history
      → Each IsQuietCall [] (after_octets given station octets history)
  each_octet station [] history none each = each
  each_octet station (octet ∷ octets) history none each =
      each_octet station octets (after_call given station (HostOctet octet) history)
      (call_reads Bool packets_passed still_passed given station (HostOctet octet) history ∙ none) (one_call station (HostOctet octet) history (λ early. none) each)

  each_fed : (station : ℕ) (octets : List ℕ) (history : List Event) → passed_at history ≡ false → Each IsQuietCall [] history
      → Each IsQuietCall [] (after_feed given station octets history)
  each_fed station [] history none each = each
  each_fed station (octet ∷ octets) history none each =
      each_octet station (octet ∷ octets) (history ++ HostFed station (octet ∷ octets) ∷ [])
      (host_reads Bool packets_passed still_passed history station (octet ∷ octets) ∙ none)
      (each_event IsQuietCall history (HostFed station (octet ∷ octets)) each tt)

  quiet_kept : IsKept given AreQuiet
  quiet_kept = record {
    on_turn = λ slot plan history begun at has. record {
      none = λ opening. turn_passed history slot (map plan.radio_of given.stations);
      each = each_event IsQuietCall history (TurnBegan slot (map plan.radio_of given.stations)) has.each tt;
    };
    on_feed = λ plan done left station history are some now has.
        let octets = take (plan.feed_of station) (octets_left given station history) in record {
          none = λ opening. feed_reads Bool packets_passed still_passed given station octets history ∙ has.none refl;
          each = each_fed station octets history (has.none refl) has.each;
        };
    on_fed = λ history has. record { none = λ opening. has.none refl; each = has.each };
    on_begin = λ slot plan done left station history are due has. record {
      none = λ opening. call_reads Bool packets_passed still_passed given station (TurnBegins slot (plan.radio_of station)) history ∙ has.none refl;
      each = one_call station (TurnBegins slot (plan.radio_of station)) history (λ early. has.none refl) has.each;
    };
    on_begun = λ history has. record { none = λ opening. absurd cc; each = has.each };
    on_phase = λ phases history few has. record { none = λ opening. absurd cc; each = has.each };
    on_silence = λ phases done left station history are none has. record { none = λ opening. absurd cc; each = has.each };
    on_packet = λ phases plan done left station channel octets history are some due has. record {
      none = λ opening. absurd cc;
      each = each_event IsQuietCall history (Transmitted station channel octets (hearings_of given plan.fates station channel octets history)) has.each tt;
    };
    on_air = λ phases history has. record { none = λ opening. absurd cc; each = has.each };
    on_hearing = λ phases done left station history are some has. record {
      none = λ opening. absurd cc;
      each = one_call station (step_of (packet_received station history)) history (not_early (packet_received station history) (passed_at history ≡ false)) has.each;
    };
    on_heard = λ phases history has. record { none = λ opening. absurd cc; each = has.each };
    on_phases = λ history has. record { none = λ opening. absurd cc; each = has.each };
    on_end = λ done left station history are some has. record {
      none = λ opening. absurd cc;
      each = one_call station TurnEnds history (λ early. absurd cc) has.each;
    };
    on_ended = λ history has. record { none = λ opening. absurd cc; each = has.each };
  }

  run_quiet : Each IsQuietCall [] (history_of (run_of given))
  run_quiet =
      ends_with (run_of given) (IsWhole given AreQuiet) (IsStopped given AreQuiet) (Each IsQuietCall [])
      (run_kept given AreQuiet quiet_kept (record { none = λ opening. absurd cc; each = tt }))
      (λ history wholly. wholly.is.each) (λ history stop stopped. stopped.kept.each)

  pub none_passed : (before rest : List Event) (station : ℕ) (step : Step) → is_early step ≡ true
      → history_of (run_of given) ≡ before ++ Called station step ∷ rest → passed_at before ≡ false
  none_passed before rest station step early at = each_at IsQuietCall (history_of (run_of given)) before rest (Called station step) run_quiet at early
