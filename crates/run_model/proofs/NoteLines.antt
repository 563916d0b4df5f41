-- Each line of a note comes from a call.
use Rattle.std.proofs.Common.{◌≡◌, ℕ, true, false, Some, List, [], ◌∷◌, ◌++◌, refl, sym, ap, ◌∙◌, append_assoc, ◌||◌, Bool, subst}
use Rattle.std.specs.Prelude.{map, if◌then◌else◌}
use Rattle.std.specs.List.{Contains}
use Rattle.std.proofs.lemmas.List.Elements.{Contains-append_left, Contains-append_right, Contains-push}
use Rattle.std.proofs.lemmas.List.Folds.{list_any-append}
use Rattle.ble_base.specs.declared.notes.Note.{Note}
use Rattle.ble_base.specs.declared.notes.Note.TheVariants.{Up, Opened, Shut, Sent, Took, Enter, Applied, Began, Refused, Done}
use Rattle.ble_base.specs.declared.roles.Side.{Side}
use Rattle.journal.specs.declared.entries.Entry.{Entry}
use Rattle.journal.specs.declared.entries.Entry.TheVariants.{Turn, Fed, Air}
use Rattle.controller_model.specs.Side.{notes_after}
use Rattle.run_model.specs.History.{Event, TurnBegan, HostFed, Called, Noted, Transmitted}
use Rattle.run_model.specs.Journal.{entries_of, entry_of, journal_of, side_of}
use Rattle.run_model.specs.Links.{Links, links_of}
use Rattle.run_model.specs.NoteLines.{IsLineInCall, IsNoteLine, LinkLine, is_note_line, link_line}
use Rattle.run_model.specs.OnAir.{ends_phase}
use Rattle.run_model.specs.Run.{Given, facts_at, history_of, run_of, setup_at}
use Rattle.run_model.proofs.CallNotes.{noted_in_call}
use Rattle.run_model.proofs.EntryEvents.{is_of_event}
use Rattle.run_model.proofs.LinksKnown.{link_by_own}
use Rattle.run_model.proofs.OpenedNotes.{is_opened, opens_under, outside_open}

-- ---- the note of a line

record IsLineOf (links : Links) (event : Event) (entry : Entry) : Type 0 where
  station : ℕ
  note : Note
  is : event ≡ Noted station note
  entry_is : entry_of (side_of station) (links.link_of station) (links.last_of station) note ≡ entry

no_note : (one entry : Entry) (X : Type 0) → one ∷ [] ≡ entry ∷ [] → is_note_line one ≡ false → is_note_line entry ≡ true → X
no_note one entry X is none noted = absurd (let same : one ≡ entry = cc in let h : true ≡ false = sym noted ∙ ap is_note_line (sym same) ∙ none in absurd cc)

line_of : (links : Links) (event : Event) (entry : Entry) → entries_of links event ≡ entry ∷ [] → is_note_line entry ≡ true → IsLineOf links event entry
line_of links (Noted station note) entry is noted = record { station = station; note = note; is = refl; entry_is = cc }
line_of links (TurnBegan slot radios) entry is noted = no_note _ entry _ is refl noted
line_of links (HostFed station octets) entry is noted = no_note _ entry _ is refl noted
line_of links (Called station step) entry is noted = absurd cc
line_of links (Transmitted station channel octets []) entry is noted = absurd cc
line_of links (Transmitted station channel octets (hearing ∷ hearings)) entry is noted = no_note _ entry _ is refl noted

pub note_line : (given : Given) (front rest : List Entry) (entry : Entry) → journal_of (history_of (run_of given)) ≡ front ++ entry ∷ rest → is_note_line entry ≡ true
    → IsNoteLine given front entry
note_line given front rest entry is noted =
    let one = is_of_event (history_of (run_of given)) front rest entry is in
    let line = line_of (links_of one.before) one.event entry one.entry_is noted in
    let at : history_of (run_of given) ≡ one.before ++ Noted line.station line.note ∷ one.after = one.is_at ∙ ap (λ e. one.before ++ e ∷ one.after) line.is in record {
      station = line.station;
      note = line.note;
      before = one.before;
      after = one.after;
      is_at = at;
      front_is = one.front_is;
      entry_is = line.entry_is;
      call = noted_in_call given one.before one.after line.station line.note at;
    }

-- ---- the link of a line

record IsUnder (link_of : ℕ → ℕ) (side : Side) (note : Note) (line : LinkLine) : Type 0 where
  handle : ℕ
  note_is : note ≡ line.note handle
  side_is : side ≡ line.side
  number_is : link_of handle ≡ line.number

under : (link_of : ℕ → ℕ) (side : Side) (handle : ℕ) (one line : LinkLine) → Some one ≡ Some line → side ≡ one.side → link_of handle ≡ one.number
    → IsUnder link_of side (one.note handle) line
under link_of side handle one line is side_is number_is = let same : one ≡ line = cc in record {
  handle = handle;
  note_is = ap (λ (l : LinkLine). l.note handle) same;
  side_is = side_is ∙ ap (λ (l : LinkLine). l.side) same;
  number_is = number_is ∙ ap (λ (l : LinkLine). l.number) same;
}

note_under : (link_of : ℕ → ℕ) (last : ℕ) (side : Side) (note : Note) (line : LinkLine) → link_line (entry_of side link_of last note) ≡ Some line → IsUnder link_of side note line
note_under link_of last side (Shut handle reason) line is = under link_of side handle _ line is refl refl
note_under link_of last side (Sent handle number llid body) line is = under link_of side handle _ line is refl refl
note_under link_of last side (Took handle number llid body) line is = under link_of side handle _ line is refl refl
note_under link_of last side (Enter handle event channel) line is = under link_of side handle _ line is refl refl
note_under link_of last side (Applied handle number event) line is = under link_of side handle _ line is refl refl
note_under link_of last side (Began handle kind) line is = under link_of side handle _ line is refl refl
note_under link_of last side (Refused handle kind code) line is = under link_of side handle _ line is refl refl
note_under link_of last side (Done handle kind) line is = under link_of side handle _ line is refl refl
note_under link_of last side (Opened handle role own peer) line is = absurd cc
note_under link_of last side (Up packet) line is = absurd cc

is_noted : (entry : Entry) (line : LinkLine) → link_line entry ≡ Some line → is_note_line entry ≡ true
is_noted (Turn slot a b) line is = absurd cc
is_noted (Fed side octets) line is = absurd cc
is_noted (Air side channel octets fate verdict) line is = absurd cc
is_noted entry line is = refl

pub line_in_call : (given : Given) (front rest : List Entry) (entry : Entry) (line : LinkLine) → link_line entry ≡ Some line
    → journal_of (history_of (run_of given)) ≡ front ++ entry ∷ rest → IsLineInCall given front line
line_in_call given front rest entry line names is =
    let one = note_line given front rest entry is (is_noted entry line names) in
    let links = links_of one.before in
    let under = note_under (links.link_of one.station) (links.last_of one.station) (side_of one.station) one.note line (ap link_line one.entry_is ∙ names) in
    let call = one.call in record {
      station = one.station;
      handle = under.handle;
      step = call.step;
      base = call.base;
      earlier = call.earlier;
      later = call.later;
      after = map (Noted one.station) call.earlier ++ Noted one.station one.note ∷ one.after;
      called = one.is_at ∙ ap (λ xs. xs ++ Noted one.station one.note ∷ one.after) call.before_is
          ∙ append_assoc call.base (Called one.station call.step ∷ map (Noted one.station) call.earlier) (Noted one.station one.note ∷ one.after);
      notes_are = call.notes_are ∙ ap (λ note. call.earlier ++ note ∷ call.later) under.note_is;
      before = one.before;
      rest = one.after;
      is_at = one.is_at ∙ ap (λ note. one.before ++ Noted one.station note ∷ one.after) under.note_is;
      before_is = call.before_is;
      front_is = one.front_is;
      side_is = under.side_is;
      number_is = under.number_is;
    }

-- ---- the call of a line

or_first : (one other : Bool) → (one || other) ≡ false → one ≡ false
or_first true other is = absurd cc
or_first false other is = refl

module _ (given : Given) (front : List Entry) (line : LinkLine) (call : IsLineInCall given front line) where
  -- what holds of the link under the handle, after these events, holds of that of the line
  pub to_line : (P : ℕ → List Entry → Side → Type 0) → P ((links_of call.before).link_of call.station call.handle) (journal_of call.before) (side_of call.station)
      → P line.number front line.side
  to_line P holds =
      subst (λ xs. P line.number xs line.side) (sym call.front_is)
      (subst (P line.number (journal_of call.before)) call.side_is (subst (λ n. P n (journal_of call.before) (side_of call.station)) call.number_is holds))

  pub is_contained : Contains (notes_after (setup_at given call.station) (facts_at given call.station call.base) call.step) (line.note call.handle)
  is_contained =
      let note = line.note call.handle in
      subst (λ xs. Contains xs note) (sym call.notes_are)
      (Contains-append_right call.earlier (note ∷ call.later) note (Contains-append_left (note ∷ []) call.later note (Contains-push [] note)))

  -- no link gets another number between the call and the line, where the call ends no phase
  pub number_then : ends_phase call.step ≡ false → (links_of call.base).link_of call.station call.handle ≡ line.number
  number_then outside =
      let links = links_of call.base in
      let notes = line.note call.handle ∷ call.later in
      sym (ap (λ xs. (links_of xs).link_of call.station call.handle) call.before_is
      ∙ link_by_own call.station call.step call.earlier call.base call.handle
      ∙ ap (λ b. if b then links.last_of call.station else links.link_of call.station call.handle)
      (or_first (is_opened call.handle call.earlier) (is_opened call.handle notes)
      (sym (list_any-append (opens_under call.handle) call.earlier notes) ∙ ap (is_opened call.handle) (sym call.notes_are)
      ∙ outside_open call.handle (setup_at given call.station) (facts_at given call.station call.base) call.step outside)))
      ∙ call.number_is
