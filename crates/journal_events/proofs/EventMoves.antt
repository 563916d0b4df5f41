-- What an event of a run or a call does to the event of an end, by a journal.
use Rattle.std.proofs.Common.{◌≡◌, ℕ, ◌-◌, Bool, true, false, Some, List, [], ◌∷◌, ◌++◌, length, map, refl, sym, ap, subst, ◌∙◌, append-nil, append_assoc}
use Rattle.std.specs.List.{AllByRecursion}
use Rattle.std.proofs.lemmas.Grind.{flat_map-append}
use Rattle.std.proofs.lemmas.List.{append_cancel_left}
use Rattle.ble_base.specs.declared.notes.Note.{Note}
use Rattle.ble_base.specs.declared.notes.Note.TheVariants.{Up}
use Rattle.ble_base.specs.declared.roles.Side.{Side}
use Rattle.journal_sending.specs.journal_leaving.journal_controls.Withheld.{Withheld, withheld_by}
use Rattle.journal_sending.specs.journal_leaving.controller_model.Facts.{Facts, Setup}
use Rattle.journal_sending.specs.journal_leaving.controller_model.Side.{notes_after}
use Rattle.journal_sending.specs.journal_leaving.controller_model.Step.{Step as Call, HostOctet}
use Rattle.journal_sending.specs.journal_leaving.journal_controls.host_masks.Masks.{masks_of}
use Rattle.journal_sending.proofs.journal_leaving.journal_controls.host_answers.LineAnswers.{IsQuiet}
use Rattle.journal.specs.declared.entries.Entry.{Entry}
use Rattle.journal.specs.declared.entries.Entry.TheVariants.{Fed, Took, Turn}
use Rattle.journal_sending.specs.journal_leaving.journal_controls.LineSteps.{keyed_in_line, keyed_on, turn_now, withholds}
use Rattle.journal_sending.specs.journal_leaving.journal_controls.SaidLines.{NoneOpens, moved_by}
use Rattle.journal_sending.specs.journal_leaving.journal_controls.host_answers.Answered.{accepted_in}
use Rattle.journal_sending.specs.journal_leaving.journal_ends.Asked.{Words}
use Rattle.journal_sending.specs.journal_leaving.journal_ends.GivenWords.{AreKept}
use Rattle.journal_sending.specs.journal_leaving.journal_ends.Seen.{Hears, HearsForged, Says, heard_in_line}
use Rattle.journal_sending.specs.journal_leaving.journal_links.LinkLines.{link_named, lines_of, where_named}
use Rattle.journal_sending.specs.journal_leaving.link_model.keyed_control.Keyed.{Keyed}
use Rattle.journal_sending.specs.journal_leaving.link_model.keyed_control.declared.material.Response.{Response}
use Rattle.journal_sending.specs.journal_leaving.run_model.History.{Event, TurnBegan, HostFed, Called, Hearing, Noted, Transmitted}
use Rattle.journal_sending.specs.journal_leaving.run_model.Journal.{entries_of, entry_of, journal_of, mark_of, radio_in, side_of}
use Rattle.journal_sending.specs.journal_leaving.run_model.Links.{links_of}
use Rattle.journal_sending.specs.journal_leaving.run_model.Readers.{PairOpening, fed_in, fed_to_side, pair_openings_in, turns_of}
use Rattle.journal_sending.specs.journal_leaving.run_model.Run.{Given, after_call, facts_at, setup_at}
use Rattle.journal_sending.proofs.journal_leaving.journal_controls.EarlyTakings.{AreGiven, IsEarly, early_given, early_none, taking_early}
use Rattle.journal_sending.proofs.journal_leaving.journal_controls.EventMoves.{AnswersNone, air_line, aired, drawn_at, first_none, is_taken, keyed_at, last_none, named_alike, note_takes, turn_at, withholds_at}
use Rattle.journal_sending.proofs.journal_leaving.journal_controls.LineFolds.{IsNamed, Others, Own, keyed_more, line_moves as line_keyed, moved_both, named_by}
use Rattle.journal_sending.proofs.journal_leaving.journal_acks.link_calls.CallNotes.{TakesNone, is_taking, none_taken, octet_noted}
use Rattle.journal_sending.proofs.journal_leaving.journal_ends.SeenEvents.{lines_at, note_hears, unaccepted_by, unanswered_in, unasked_in}
use Rattle.journal_sending.proofs.journal_leaving.journal_links.LinkLines.{line_more}
use Rattle.journal_sending.proofs.journal_leaving.run_model.Journals.{note_fed, note_turns}
use Rattle.journal_sending.proofs.journal_leaving.run_model.Parts.{journal_event}
use Rattle.journal_sending.specs.journal_leaving.Leaving.{is_own_packet}
use Rattle.journal_slots.specs.SecondSlot.{has_more}
use Rattle.journal_events.specs.EventLines.{EventLines, event_after, event_hearing, event_on, event_sending}
use Rattle.journal_events.specs.Told.{event_said}
use Rattle.journal_events.proofs.LineFolds.{event_more, forged_line, heard_line, line_moves, own_line, quiet_line, said_both}

-- the event that an end entered last, by the journal of a history
abbrev pub event_at : Words → ℕ → Side → List Event → EventLines
event_at words number side history = event_on words side number (journal_of history)

-- lines of this turn, and no packet; for each PDU that is taken this would be drawn
pub record IsMoving (words : Words) (response : Response) (number : ℕ) (side : Side) (history after : List Event) : Type 0 where
  pub more : List Entry
  pub lines : lines_at number side after ≡ lines_at number side history ++ more
  pub turns : turn_at after ≡ turn_at history
  pub withheld : withholds_at side after ≡ withholds_at side history
  pub keyed : (k : Keyed) → NoneOpens more → keyed_at words number side history ≡ Some k
      → keyed_at words number side after ≡ Some (moved_by (withholds_at side history) response (turn_at history) more k)
  pub event : (k : Keyed) → NoneOpens more → keyed_at words number side history ≡ Some k
      → event_at words number side after ≡ event_said (withholds_at side history) response (turn_at history) more k (event_at words number side history)
  -- where no line of the end comes, it is as it was
  pub still : more ≡ [] → event_at words number side after ≡ event_at words number side history

-- only the line of a PDU that is taken looks at what would be drawn
said_alike : (withheld : Withheld) (one other : Response) (slot : ℕ) (line : Entry) (k : Keyed) (e : EventLines) → (is_taken line ≡ true → one ≡ other)
    → event_said withheld one slot (line ∷ []) k e ≡ event_said withheld other slot (line ∷ []) k e
said_alike withheld one other slot (Took side link count llid body) k e same =
    ap (λ response. event_said withheld response slot (Took side link count llid body ∷ []) k e) (same refl)
said_alike withheld one other slot line k e same = refl

says_alike : (withheld : Withheld) (one other : Response) (slot : ℕ) (line : Entry) (named : List Entry) (k : Keyed) (e : EventLines) → IsNamed line named
    → (is_taken line ≡ true → one ≡ other) → event_said withheld one slot named k e ≡ event_said withheld other slot named k e
says_alike withheld one other slot line named k e (Own is) same =
    ap (λ lines. event_said withheld one slot lines k e) is ∙ said_alike withheld one other slot line k e same
    ∙ sym (ap (λ lines. event_said withheld other slot lines k e) is)
says_alike withheld one other slot line named k e (Others none) same =
    ap (λ lines. event_said withheld one slot lines k e) none ∙ sym (ap (λ lines. event_said withheld other slot lines k e) none)

record AreNone (lines more : List Entry) : Type 0 where
  first : lines ≡ []
  second : more ≡ []

none_of : (lines more : List Entry) → lines ++ more ≡ [] → AreNone lines more
none_of [] more is = record { first = refl; second = is }
none_of (line ∷ lines) more is = absurd cc

moving_then : (words : Words) (response : Response) (number : ℕ) (side : Side) (first second third : List Event) → IsMoving words response number side first second
    → IsMoving words response number side second third → IsMoving words response number side first third
moving_then words response number side first second third one next = record {
  more = one.more ++ next.more;
  lines = next.lines ∙ ap (λ xs. xs ++ next.more) one.lines ∙ append_assoc (lines_at number side first) one.more next.more;
  turns = next.turns ∙ one.turns;
  withheld = next.withheld ∙ one.withheld;
  keyed = λ k none is.
      let slot = turn_at first in
      let held = withholds_at side first in
      next.keyed (moved_by held response slot one.more k) (last_none one.more next.more none) (one.keyed k (first_none one.more next.more none) is)
      ∙ (λ i. Some (moved_by (one.withheld i) response (one.turns i) next.more (moved_by held response slot one.more k)))
      ∙ ap Some (sym (moved_both held response slot one.more next.more k));
  event = λ k none is.
      let slot = turn_at first in
      let held = withholds_at side first in
      let before = first_none one.more next.more none in
      let then_k = moved_by held response slot one.more k in
      next.event then_k (last_none one.more next.more none) (one.keyed k before is)
      ∙ (λ i. event_said (one.withheld i) response (one.turns i) next.more then_k (one.event k before is i))
      ∙ sym (said_both held response slot one.more next.more k (event_at words number side first));
  still = λ none. let both = none_of one.more next.more none in next.still both.second ∙ one.still both.first;
}

-- an event with one line that begins no turn, is no packet, and is not of a host, nor answers it
line_moving : (words : Words) (response : Response) (number : ℕ) (side : Side) (history : List Event) (event : Event) (line : Entry) → entries_of (links_of history) event ≡ line ∷ []
    → heard_in_line side number (journal_of history) line ≡ [] → accepted_in side (journal_of history) line ≡ []
    → is_own_packet side number (journal_of history) line ≡ false → pair_openings_in line ≡ [] → fed_in side line ≡ []
    → (is_taken line ≡ true → drawn_at words side history ≡ response) → IsMoving words response number side history (history ++ event ∷ [])
line_moving words response number side history event line is deaf unaccepted own begins feeds gives =
    let front = journal_of history in
    let unasked = unasked_in words side number front line unaccepted in
    let unanswered = unanswered_in words side number front line unaccepted in
    let named = where_named side number (link_named line) line in
    let name = named_by side number (link_named line) line in
    let journal = journal_event history event ∙ ap (λ xs. front ++ xs) is in record {
      more = named;
      lines = ap (λ xs. lines_of side number xs) journal ∙ line_more side number front line named (append-nil named);
      turns = ap turn_now journal
          ∙ ap (λ (turns : List PairOpening). length turns - 1) (flat_map-append pair_openings_in front (line ∷ []) ∙ (λ i. turns_of front ++ (begins i ++ [])) ∙ append-nil (turns_of front));
      withheld = ap (withholds side) journal ∙ ap (λ octets. withheld_by (masks_of octets))
          (flat_map-append (fed_in side) front (line ∷ []) ∙ (λ i. fed_to_side side front ++ (feeds i ++ [])) ∙ append-nil (fed_to_side side front));
      keyed = λ k none was.
          ap (keyed_on words side number) journal ∙ keyed_more words side number front line ∙ ap (λ before. keyed_in_line words side number front before line) was
          ∙ line_keyed words side number front line k deaf unaccepted none
          ∙ ap Some (named_alike (withholds side front) (drawn_at words side history) response (turn_now front) line named k name gives);
      event = λ k none keyed.
          ap (event_on words side number) journal ∙ event_more words side number front line
          ∙ line_moves words side number front line k (event_on words side number front) deaf unaccepted own none keyed
          ∙ says_alike (withholds side front) (drawn_at words side history) response (turn_now front) line named k (event_on words side number front) name gives;
      still = λ none.
          ap (event_on words side number) journal ∙ event_more words side number front line
          ∙ quiet_line words side number front (event_on words side number front) line (λ i. unasked i ++ (deaf i ++ map Says (none i))) unanswered deaf own;
    }

note_sends : (number : ℕ) (side other : Side) (front : List Entry) (link_of : ℕ → ℕ) (last : ℕ) (note : Note) → is_own_packet side number front (entry_of other link_of last note) ≡ false
note_sends number side other front link_of last (Up packet) = refl
note_sends number side other front link_of last note = refl

note_moving : (words : Words) (response : Response) (number : ℕ) (side : Side) (history : List Event) (station : ℕ) (note : Note) → IsQuiet side station note
    → (is_taking note ≡ true → drawn_at words side history ≡ response) → IsMoving words response number side history (history ++ Noted station note ∷ [])
note_moving words response number side history station note quiet gives =
    let links = links_of history in
    let front = journal_of history in
    line_moving words response number side history (Noted station note) _ refl
    (note_hears number side (side_of station) front (links.link_of station) (links.last_of station) note)
    (unaccepted_by side front _ (quiet (links.link_of station) (links.last_of station)))
    (note_sends number side (side_of station) front (links.link_of station) (links.last_of station) note)
    (note_turns (side_of station) (links.link_of station) (links.last_of station) note)
    (note_fed side (side_of station) (links.link_of station) (links.last_of station) note)
    (λ takes. gives (sym (note_takes (side_of station) (links.link_of station) (links.last_of station) note) ∙ takes))

none_moving : (words : Words) (response : Response) (number : ℕ) (side : Side) (history after : List Event) → journal_of after ≡ journal_of history
    → IsMoving words response number side history after
none_moving words response number side history after same = record {
  more = [];
  lines = ap (λ xs. lines_of side number xs) same ∙ sym (append-nil (lines_at number side history));
  turns = ap turn_now same;
  withheld = ap (withholds side) same;
  keyed = λ k none was. ap (keyed_on words side number) same ∙ was;
  event = λ k none keyed. ap (event_on words side number) same;
  still = λ none. ap (event_on words side number) same;
}

notes_moving : (words : Words) (response : Response) (number : ℕ) (side : Side) (station : ℕ) (notes : List Note) (history after : List Event) → AllByRecursion (IsQuiet side station) notes
    → AreGiven words side response station history notes → after ≡ history ++ map (Noted station) notes → IsMoving words response number side history after
notes_moving words response number side station [] history after quiet gives is = none_moving words response number side history after (ap journal_of (is ∙ append-nil history))
notes_moving words response number side station (note ∷ notes) history after quiet gives is =
    let next = history ++ Noted station note ∷ [] in
    moving_then words response number side history next after (note_moving words response number side history station note quiet.0 gives.0)
    (notes_moving words response number side station notes next after quiet.1 gives.1 (is ∙ sym (append_assoc history (Noted station note ∷ []) (map (Noted station) notes))))

-- what would be drawn as a PDU is taken in a call
early : (setup : Setup) (facts : Facts) (step : Call) → IsEarly (notes_after setup facts step)
early setup facts (HostOctet octet) = early_none _ (octet_noted TakesNone none_taken.starts.feeds setup facts octet)
early setup facts step = taking_early setup facts step refl

call_given : (words : Words) (given : Given) (side : Side) (station : ℕ) (step : Call) (history : List Event) → AreKept words
    → AreGiven words side (drawn_at words side history) station (history ++ Called station step ∷ []) (notes_after (setup_at given station) (facts_at given station history) step)
call_given words given side station step history kept =
    let setup = setup_at given station in
    let facts = facts_at given station history in
    early_given words side (drawn_at words side history) station kept (notes_after setup facts step) (history ++ Called station step ∷ []) (early setup facts step)
    (ap (words side) (journal_event history (Called station step) ∙ append-nil (journal_of history)))

first_given : (words : Words) (side : Side) (response : Response) (station : ℕ) (history : List Event) (notes more : List Note)
    → AreGiven words side response station history (notes ++ more) → AreGiven words side response station history notes
first_given words side response station history [] more gives = tt
first_given words side response station history (note ∷ notes) more gives =
    (gives.0, first_given words side response station (history ++ Noted station note ∷ []) notes more gives.1)

-- a call, with the notes of it so far
pub part_moving : (words : Words) (given : Given) (number : ℕ) (side : Side) (station : ℕ) (step : Call) (notes more : List Note) (history : List Event) → AreKept words
    → notes_after (setup_at given station) (facts_at given station history) step ≡ notes ++ more → AllByRecursion (IsQuiet side station) notes
    → IsMoving words (drawn_at words side history) number side history (history ++ Called station step ∷ map (Noted station) notes)
part_moving words given number side station step notes more history kept are quiet =
    let response = drawn_at words side history in
    let called = history ++ Called station step ∷ [] in
    let after = history ++ Called station step ∷ map (Noted station) notes in
    moving_then words response number side history called after
    (none_moving words response number side history called (journal_event history (Called station step) ∙ append-nil (journal_of history)))
    (notes_moving words response number side station notes called after quiet
    (first_given words side response station called notes more (subst (AreGiven words side response station called) are (call_given words given side station step history kept)))
    (sym (append_assoc history (Called station step ∷ []) (map (Noted station) notes))))

-- and with all of them
pub call_moving : (words : Words) (given : Given) (number : ℕ) (side : Side) (station : ℕ) (step : Call) (history : List Event) → AreKept words → AnswersNone given side station step history
    → IsMoving words (drawn_at words side history) number side history (after_call given station step history)
call_moving words given number side station step history kept quiet =
    let notes = notes_after (setup_at given station) (facts_at given station history) step in
    part_moving words given number side station step notes [] history kept (sym (append-nil notes)) quiet

-- by the lines that it adds
pub call_moves : (words : Words) (given : Given) (side : Side) (number station : ℕ) (step : Call) (history : List Event) (more : List Entry) (k : Keyed)
    → AreKept words → AnswersNone given side station step history → lines_at number side (after_call given station step history) ≡ lines_at number side history ++ more → NoneOpens more
    → keyed_at words number side history ≡ Some k
    → event_at words number side (after_call given station step history)
    ≡ event_said (withholds_at side history) (drawn_at words side history) (turn_at history) more k (event_at words number side history)
call_moves words given side number station step history more k kept quiet lines none keyed =
    let moving = call_moving words given number side station step history kept quiet in
    let same = append_cancel_left (lines_at number side history) moving.more more (sym moving.lines ∙ lines) in
    moving.event k (subst NoneOpens (sym same) none) keyed
    ∙ ap (λ xs. event_said (withholds_at side history) (drawn_at words side history) (turn_at history) xs k (event_at words number side history)) same

-- and by none
pub call_stays : (words : Words) (given : Given) (number : ℕ) (side : Side) (station : ℕ) (step : Call) (history : List Event) → AreKept words → AnswersNone given side station step history
    → lines_at number side (after_call given station step history) ≡ lines_at number side history ++ []
    → event_at words number side (after_call given station step history) ≡ event_at words number side history
call_stays words given number side station step history kept quiet lines =
    let moving = call_moving words given number side station step history kept quiet in
    moving.still (append_cancel_left (lines_at number side history) moving.more [] (sym moving.lines ∙ lines))

-- ---- events that are no call

-- a turn begins
pub turn_still : (words : Words) (number : ℕ) (side : Side) (history : List Event) (slot : ℕ) (radios : List Bool)
    → event_at words number side (history ++ TurnBegan slot radios ∷ []) ≡ event_at words number side history
turn_still words number side history slot radios =
    let front = journal_of history in
    let line = Turn slot (radio_in 0 radios) (Some (radio_in 1 radios)) in
    ap (event_on words side number) (journal_event history (TurnBegan slot radios)) ∙ event_more words side number front line
    ∙ quiet_line words side number front (event_on words side number front) line refl refl refl refl

-- a host sends
pub feed_still : (words : Words) (number : ℕ) (side : Side) (history : List Event) (station : ℕ) (octets : List ℕ)
    → event_at words number side (history ++ HostFed station octets ∷ []) ≡ event_at words number side history
feed_still words number side history station octets =
    let front = journal_of history in
    let line = Fed (side_of station) octets in
    ap (event_on words side number) (journal_event history (HostFed station octets)) ∙ event_more words side number front line
    ∙ quiet_line words side number front (event_on words side number front) line refl refl refl refl

-- ---- a packet is on the air

module _ (words : Words) (number : ℕ) (side : Side) (history : List Event) (station channel : ℕ) (octets : List ℕ) (hearing : Hearing) where
  abbrev after : List Event
  after = aired words number side history station channel octets hearing

  journal_aired : journal_of after ≡ journal_of history ++ air_line station channel octets hearing ∷ []
  journal_aired = journal_event history (Transmitted station channel octets (hearing ∷ []))

  after_air : event_at words number side after ≡ event_after words side number (journal_of history) (event_at words number side history) (air_line station channel octets hearing)
  after_air = ap (event_on words side number) journal_aired ∙ event_more words side number (journal_of history) (air_line station channel octets hearing)

  -- the end neither hears it nor sends it
  pub other_still : heard_in_line side number (journal_of history) (air_line station channel octets hearing) ≡ []
      → is_own_packet side number (journal_of history) (air_line station channel octets hearing) ≡ false → event_at words number side after ≡ event_at words number side history
  other_still none own =
      after_air
      ∙ quiet_line words side number (journal_of history) (event_at words number side history) (air_line station channel octets hearing) (ap (λ xs. xs ++ []) none) refl none own

  -- it sends it
  pub own_moves : is_own_packet side number (journal_of history) (air_line station channel octets hearing) ≡ true
      → event_at words number side after ≡ event_sending (turn_at history) (has_more channel octets) (event_at words number side history)
  own_moves own =
      after_air
      ∙ own_line words side number (journal_of history) (side_of station) channel octets (mark_of hearing.fate) hearing.verdict (event_at words number side history) own

  module _ (k : Keyed) (keyed : keyed_at words number side history ≡ Some k) where
    -- it hears it
    pub heard_moves : (slot : ℕ) (heard : List ℕ) → heard_in_line side number (journal_of history) (air_line station channel octets hearing) ≡ Hears slot heard ∷ []
        → event_at words number side after ≡ event_hearing slot (has_more channel octets) (event_at words number side history)
    heard_moves slot heard is =
        after_air
        ∙ heard_line words side number (journal_of history) (side_of station) channel octets (mark_of hearing.fate) hearing.verdict k keyed (event_at words number side history) slot heard is

    -- and judges it forged
    pub forged_still : heard_in_line side number (journal_of history) (air_line station channel octets hearing) ≡ HearsForged ∷ []
        → event_at words number side after ≡ event_at words number side history
    forged_still is =
        after_air
        ∙ forged_line words side number (journal_of history) (side_of station) channel octets (mark_of hearing.fate) hearing.verdict k keyed (event_at words number side history) is
