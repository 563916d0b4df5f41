-- What an event or a call does to an end by a journal.
use Rattle.std.proofs.Common.{◌≡◌, ℕ, ◌-◌, Bool, true, false, Option, Some, List, [], ◌∷◌, ◌++◌, length, map, refl, sym, ap, subst, ◌∙◌, append-nil, append_assoc}
use Rattle.std.specs.List.{AllByRecursion}
use Rattle.std.proofs.lemmas.Grind.{flat_map-append}
use Rattle.std.proofs.lemmas.List.{append_cancel_left}
use Rattle.ble_base.specs.declared.notes.Note.{Note}
use Rattle.ble_base.specs.declared.notes.Note.TheVariants.{Up}
use Rattle.ble_base.specs.declared.roles.Side.{Side}
use Rattle.ble_base.specs.declared.roles.Side.TheVariants.{A, B}
use Rattle.journal_ends.proofs.controller_model.Always.{IsInTurn}
use Rattle.journal_ends.specs.Asked.{Words}
use Rattle.journal_ends.specs.GivenWords.{AreKept}
use Rattle.journal_ends.specs.controller_model.Side.{notes_after}
use Rattle.journal_ends.specs.controller_model.Step.{Step as Call, HostOctet}
use Rattle.host_masks.specs.Masks.{masks_of}
use Rattle.journal.specs.declared.entries.Entry.{Entry}
use Rattle.journal.specs.declared.entries.Entry.TheVariants.{Air, Fed, Took as TookLine, Turn}
use Rattle.journal_ends.proofs.host_answers.LineAnswers.{IsQuiet, far_quiet, turn_quiet}
use Rattle.journal_ends.specs.host_answers.Answered.{accepted_in}
use Rattle.journal_ends.specs.Seen.{Hears, HearsForged, heard_in_line}
use Rattle.journal_ends.specs.journal_acks.Carried.{carried_of}
use Rattle.journal_ends.specs.journal_acks.Exchange.{exchange_of}
use Rattle.journal_ends.proofs.journal_acks.link_calls.CallNotes.{is_taking}
use Rattle.journal_ends.specs.journal_links.LinkLines.{lines_of, link_named, where_named}
use Rattle.journal_ends.specs.link_model.keyed_control.Keyed.{Keyed}
use Rattle.journal_ends.specs.link_model.keyed_control.declared.material.Response.{Response}
use Rattle.journal_ends.specs.link_model.phased_control.Taken.{role_now}
use Rattle.journal_ends.specs.run_model.Feeding.{is_octet}
use Rattle.journal_ends.specs.run_model.History.{Event, TurnBegan, HostFed, Called, Hearing, Noted, Transmitted}
use Rattle.journal_ends.specs.run_model.Journal.{entries_of, entry_of, journal_of, mark_of, radio_in, side_of}
use Rattle.journal_ends.specs.run_model.Links.{links_of}
use Rattle.journal_ends.specs.run_model.Readers.{PairOpening, fed_in, fed_to_side, pair_openings_in, turns_of}
use Rattle.journal_ends.specs.run_model.Run.{Given, after_call, facts_at, setup_at}
use Rattle.journal_ends.proofs.SeenEvents.{lines_at, note_hears, unaccepted_by}
use Rattle.journal_ends.proofs.journal_links.LinkLines.{line_more}
use Rattle.journal_ends.proofs.run_model.Journals.{note_fed, note_turns}
use Rattle.journal_ends.proofs.run_model.Parts.{journal_event}
use Rattle.journal_controls.specs.KeyedLines.{has_next, keyed_by_all, keyed_forged}
use Rattle.journal_controls.specs.LineSteps.{keyed_in_line, keyed_on, steps_heard, turn_now, withholds}
use Rattle.journal_controls.specs.SaidLines.{NoneOpens, moved_by}
use Rattle.journal_controls.specs.Withheld.{Withheld, withheld_by}
use Rattle.journal_controls.proofs.EarlyTakings.{AreGiven, call_early, early_given}
use Rattle.journal_controls.proofs.LineFolds.{IsNamed, Others, Own, forged_line, heard_line, keyed_more, line_moves, moved_both, named_by, quiet_line}

-- an end, by the journal of a history
abbrev pub keyed_at : Words → ℕ → Side → List Event → Option Keyed
keyed_at words number side history = keyed_on words side number (journal_of history)

abbrev pub turn_at : List Event → ℕ
turn_at history = turn_now (journal_of history)

abbrev pub withholds_at : Side → List Event → Withheld
withholds_at side history = withholds side (journal_of history)

abbrev pub drawn_at : Words → Side → List Event → Response
drawn_at words side history = words side (journal_of history)

-- lines of this turn, and nothing that is heard; for each PDU that is taken this would be drawn
pub record IsMoving (words : Words) (response : Response) (number : ℕ) (side : Side) (history after : List Event) : Type 0 where
  pub more : List Entry
  pub lines : lines_at number side after ≡ lines_at number side history ++ more
  pub turns : turn_at after ≡ turn_at history
  pub withheld : withholds_at side after ≡ withholds_at side history
  pub keyed : (k : Keyed) → NoneOpens more → keyed_at words number side history ≡ Some k
      → keyed_at words number side after ≡ Some (moved_by (withholds_at side history) response (turn_at history) more k)

-- only the line of a PDU that is taken looks at what would be drawn
abbrev pub is_taken : Entry → Bool
is_taken (TookLine side link count llid body) = true
is_taken line = false

said_alike : (withheld : Withheld) (one other : Response) (slot : ℕ) (line : Entry) (k : Keyed) → (is_taken line ≡ true → one ≡ other)
    → moved_by withheld one slot (line ∷ []) k ≡ moved_by withheld other slot (line ∷ []) k
said_alike withheld one other slot (TookLine side link count llid body) k same = ap (λ response. moved_by withheld response slot (TookLine side link count llid body ∷ []) k) (same refl)
said_alike withheld one other slot line k same = refl

pub named_alike : (withheld : Withheld) (one other : Response) (slot : ℕ) (line : Entry) (named : List Entry) (k : Keyed) → IsNamed line named → (is_taken line ≡ true → one ≡ other)
    → moved_by withheld one slot named k ≡ moved_by withheld other slot named k
named_alike withheld one other slot line named k (Own is) same =
    ap (λ lines. moved_by withheld one slot lines k) is ∙ said_alike withheld one other slot line k same ∙ sym (ap (λ lines. moved_by withheld other slot lines k) is)
named_alike withheld one other slot line named k (Others none) same =
    ap (λ lines. moved_by withheld one slot lines k) none ∙ sym (ap (λ lines. moved_by withheld other slot lines k) none)

pub first_none : (lines more : List Entry) → NoneOpens (lines ++ more) → NoneOpens lines
first_none [] more none = tt
first_none (line ∷ lines) more none = (none.0, first_none lines more none.1)

pub last_none : (lines more : List Entry) → NoneOpens (lines ++ more) → NoneOpens more
last_none [] more none = none
last_none (line ∷ lines) more none = last_none lines more none.1

moving_then : (words : Words) (response : Response) (number : ℕ) (side : Side) (first second third : List Event) → IsMoving words response number side first second
    → IsMoving words response number side second third → IsMoving words response number side first third
moving_then words response number side first second third one next = record {
  more = one.more ++ next.more;
  lines = next.lines ∙ ap (λ xs. xs ++ next.more) one.lines ∙ append_assoc (lines_at number side first) one.more next.more;
  turns = next.turns ∙ one.turns;
  withheld = next.withheld ∙ one.withheld;
  keyed = λ k none is.
      let slot = turn_at first in
      let held = withholds_at side first in
      next.keyed (moved_by held response slot one.more k) (last_none one.more next.more none) (one.keyed k (first_none one.more next.more none) is)
      ∙ (λ i. Some (moved_by (one.withheld i) response (one.turns i) next.more (moved_by held response slot one.more k)))
      ∙ ap Some (sym (moved_both held response slot one.more next.more k));
}

-- an event with one line that begins no turn and is not of a host, nor answers it
line_moving : (words : Words) (response : Response) (number : ℕ) (side : Side) (history : List Event) (event : Event) (line : Entry) → entries_of (links_of history) event ≡ line ∷ []
    → heard_in_line side number (journal_of history) line ≡ [] → accepted_in side (journal_of history) line ≡ []
    → pair_openings_in line ≡ [] → fed_in side line ≡ [] → (is_taken line ≡ true → drawn_at words side history ≡ response)
    → IsMoving words response number side history (history ++ event ∷ [])
line_moving words response number side history event line is deaf unaccepted begins feeds gives =
    let front = journal_of history in
    let named = where_named side number (link_named line) line in
    let journal = journal_event history event ∙ ap (λ xs. front ++ xs) is in record {
      more = named;
      lines = ap (λ xs. lines_of side number xs) journal ∙ line_more side number front line named (append-nil named);
      turns = ap turn_now journal
          ∙ ap (λ (turns : List PairOpening). length turns - 1) (flat_map-append pair_openings_in front (line ∷ []) ∙ (λ i. turns_of front ++ (begins i ++ [])) ∙ append-nil (turns_of front));
      withheld = ap (withholds side) journal ∙ ap (λ octets. withheld_by (masks_of octets))
          (flat_map-append (fed_in side) front (line ∷ []) ∙ (λ i. fed_to_side side front ++ (feeds i ++ [])) ∙ append-nil (fed_to_side side front));
      keyed = λ k none was.
          ap (keyed_on words side number) journal ∙ keyed_more words side number front line ∙ ap (λ before. keyed_in_line words side number front before line) was
          ∙ line_moves words side number front line k deaf unaccepted none
          ∙ ap Some (named_alike (withholds side front) (drawn_at words side history) response (turn_now front) line named k (named_by side number (link_named line) line) gives);
    }

pub note_takes : (other : Side) (link_of : ℕ → ℕ) (last : ℕ) (note : Note) → is_taken (entry_of other link_of last note) ≡ is_taking note
note_takes other link_of last (Up packet) = refl
note_takes other link_of last note = refl

note_moving : (words : Words) (response : Response) (number : ℕ) (side : Side) (history : List Event) (station : ℕ) (note : Note) → IsQuiet side station note
    → (is_taking note ≡ true → drawn_at words side history ≡ response) → IsMoving words response number side history (history ++ Noted station note ∷ [])
note_moving words response number side history station note quiet gives =
    let links = links_of history in
    line_moving words response number side history (Noted station note) _ refl
    (note_hears number side (side_of station) (journal_of history) (links.link_of station) (links.last_of station) note)
    (unaccepted_by side (journal_of history) _ (quiet (links.link_of station) (links.last_of station)))
    (note_turns (side_of station) (links.link_of station) (links.last_of station) note)
    (note_fed side (side_of station) (links.link_of station) (links.last_of station) note)
    (λ takes. gives (sym (note_takes (side_of station) (links.link_of station) (links.last_of station) note) ∙ takes))

none_moving : (words : Words) (response : Response) (number : ℕ) (side : Side) (history after : List Event) → journal_of after ≡ journal_of history
    → IsMoving words response number side history after
none_moving words response number side history after same = record {
  more = [];
  lines = ap (λ xs. lines_of side number xs) same ∙ sym (append-nil (lines_at number side history));
  turns = ap turn_now same;
  withheld = ap (withholds side) same;
  keyed = λ k none was. ap (keyed_on words side number) same ∙ was;
}

notes_moving : (words : Words) (response : Response) (number : ℕ) (side : Side) (station : ℕ) (notes : List Note) (history after : List Event) → AllByRecursion (IsQuiet side station) notes
    → AreGiven words side response station history notes → after ≡ history ++ map (Noted station) notes → IsMoving words response number side history after
notes_moving words response number side station [] history after quiet gives is = none_moving words response number side history after (ap journal_of (is ∙ append-nil history))
notes_moving words response number side station (note ∷ notes) history after quiet gives is =
    let next = history ++ Noted station note ∷ [] in
    moving_then words response number side history next after (note_moving words response number side history station note quiet.0 gives.0)
    (notes_moving words response number side station notes next after quiet.1 gives.1 (is ∙ sym (append_assoc history (Noted station note ∷ []) (map (Noted station) notes))))

-- a call answers no command of a side
abbrev pub AnswersNone : Given → Side → ℕ → Call → List Event → Type 0
AnswersNone given side station step history =
    AllByRecursion (IsQuiet side station) (notes_after (setup_at given station) (facts_at given station history) step)

-- none of a turn does
in_turn : (step : Call) → is_octet step ≡ false → IsInTurn step
in_turn (HostOctet octet) none = absurd cc
in_turn other none = tt

pub turn_answers : (given : Given) (side : Side) (station : ℕ) (step : Call) (history : List Event) → is_octet step ≡ false → AnswersNone given side station step history
turn_answers given side station step history none = by side (side_of station) refl refl
  where
    notes : List Note
    notes = notes_after (setup_at given station) (facts_at given station history) step

    own : side_of station ≡ side → AnswersNone given side station step history
    own same = subst (λ one. AllByRecursion (IsQuiet one station) notes) same (turn_quiet given station step history (in_turn step none))

    by : (one other : Side) → side ≡ one → side_of station ≡ other → AnswersNone given side station step history
    by A A is is_too = own (is_too ∙ sym is)
    by A B is is_too = far_quiet side station notes (λ same. let h : A ≡ B = sym is ∙ same ∙ is_too in absurd cc)
    by B A is is_too = far_quiet side station notes (λ same. let h : B ≡ A = sym is ∙ same ∙ is_too in absurd cc)
    by B B is is_too = own (is_too ∙ sym is)

-- a call, with all of its notes
pub call_moving : (words : Words) (given : Given) (number : ℕ) (side : Side) (station : ℕ) (step : Call) (history : List Event) → AreKept words → AnswersNone given side station step history
    → IsMoving words (drawn_at words side history) number side history (after_call given station step history)
call_moving words given number side station step history kept quiet =
    let setup = setup_at given station in
    let facts = facts_at given station history in
    let response = drawn_at words side history in
    let notes = notes_after setup facts step in
    let called = history ++ Called station step ∷ [] in
    let after = history ++ Called station step ∷ map (Noted station) notes in
    let same = journal_event history (Called station step) ∙ append-nil (journal_of history) in
    moving_then words response number side history called after (none_moving words response number side history called same)
    (notes_moving words response number side station notes called after quiet
    (early_given words side response station kept notes called (call_early setup facts step) (ap (words side) same)) (sym (append_assoc history (Called station step ∷ []) (map (Noted station) notes))))

-- a turn begins
pub turn_still : (words : Words) (number : ℕ) (side : Side) (history : List Event) (slot : ℕ) (radios : List Bool)
    → keyed_at words number side (history ++ TurnBegan slot radios ∷ []) ≡ keyed_at words number side history
turn_still words number side history slot radios =
    let front = journal_of history in
    let line = Turn slot (radio_in 0 radios) (Some (radio_in 1 radios)) in
    ap (keyed_on words side number) (journal_event history (TurnBegan slot radios)) ∙ keyed_more words side number front line
    ∙ quiet_line words side number front (keyed_on words side number front) line refl refl

-- by the lines that it adds
pub call_moves : (words : Words) (given : Given) (side : Side) (number station : ℕ) (step : Call) (history : List Event) (more : List Entry) (k : Keyed)
    → AreKept words → AnswersNone given side station step history → lines_at number side (after_call given station step history) ≡ lines_at number side history ++ more → NoneOpens more
    → keyed_at words number side history ≡ Some k
    → keyed_at words number side (after_call given station step history) ≡ Some (moved_by (withholds_at side history) (drawn_at words side history) (turn_at history) more k)
call_moves words given side number station step history more k kept quiet lines none was =
    let moving = call_moving words given number side station step history kept quiet in
    let same = append_cancel_left (lines_at number side history) moving.more more (sym moving.lines ∙ lines) in
    moving.keyed k (subst NoneOpens (sym same) none) was ∙ ap (λ xs. Some (moved_by (withholds_at side history) (drawn_at words side history) (turn_at history) xs k)) same

-- a host sends
pub feed_still : (words : Words) (number : ℕ) (side : Side) (history : List Event) (station : ℕ) (octets : List ℕ)
    → keyed_at words number side (history ++ HostFed station octets ∷ []) ≡ keyed_at words number side history
feed_still words number side history station octets =
    let front = journal_of history in
    let line = Fed (side_of station) octets in
    ap (keyed_on words side number) (journal_event history (HostFed station octets)) ∙ keyed_more words side number front line
    ∙ quiet_line words side number front (keyed_on words side number front) line refl refl

-- ---- a packet is on the air

abbrev pub air_line : ℕ → ℕ → List ℕ → Hearing → Entry
air_line station channel octets hearing = Air (side_of station) channel octets (mark_of hearing.fate) hearing.verdict

module _ (words : Words) (number : ℕ) (side : Side) (history : List Event) (station channel : ℕ) (octets : List ℕ) (hearing : Hearing) where
  abbrev pub aired : List Event
  aired = history ++ Transmitted station channel octets (hearing ∷ []) ∷ []

  journal_aired : journal_of aired ≡ journal_of history ++ air_line station channel octets hearing ∷ []
  journal_aired = journal_event history (Transmitted station channel octets (hearing ∷ []))

  -- it is not heard
  pub unheard_still : heard_in_line side number (journal_of history) (air_line station channel octets hearing) ≡ [] → keyed_at words number side aired ≡ keyed_at words number side history
  unheard_still none =
      let front = journal_of history in
      let line = air_line station channel octets hearing in
      ap (keyed_on words side number) journal_aired ∙ keyed_more words side number front line
      ∙ quiet_line words side number front (keyed_on words side number front) line (ap (λ xs. xs ++ []) none) refl

  -- it is heard
  pub heard_moves : (slot : ℕ) (heard : List ℕ) (k : Keyed) → heard_in_line side number (journal_of history) (air_line station channel octets hearing) ≡ Hears slot heard ∷ []
      → keyed_at words number side history ≡ Some k
      → keyed_at words number side aired
      ≡ Some (keyed_by_all (steps_heard (role_now k.phased) slot (exchange_of number (journal_of history) side) (exchange_of number (journal_of aired) side)
      (carried_of number (journal_of history) side) (has_next k)) k)
  heard_moves slot heard k is was =
      let front = journal_of history in
      let line = air_line station channel octets hearing in
      ap (keyed_on words side number) journal_aired ∙ keyed_more words side number front line
      ∙ ap (λ before. keyed_in_line words side number front before line) was
      ∙ heard_line words side number front line k slot heard refl (ap (λ xs. xs ++ []) is) refl
      ∙ ap (λ after. Some (keyed_by_all (steps_heard (role_now k.phased) slot (exchange_of number front side) (exchange_of number after side) (carried_of number front side) (has_next k)) k))
      (sym journal_aired)

  -- it is heard, and forged
  pub forged_moves : (k : Keyed) → heard_in_line side number (journal_of history) (air_line station channel octets hearing) ≡ HearsForged ∷ []
      → keyed_at words number side history ≡ Some k → keyed_at words number side aired ≡ Some (keyed_forged k)
  forged_moves k is was =
      let front = journal_of history in
      let line = air_line station channel octets hearing in
      ap (keyed_on words side number) journal_aired ∙ keyed_more words side number front line
      ∙ ap (λ before. keyed_in_line words side number front before line) was
      ∙ forged_line words side number front line k refl (ap (λ xs. xs ++ []) is) refl
