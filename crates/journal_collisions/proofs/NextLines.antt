-- The line after a line of a note is that of the next note of its call.
use Rattle.std.proofs.Common.{◌≡◌, ℕ, List, [], ◌∷◌, ◌++◌, map, refl, sym, ap, ◌∙◌}
use Rattle.std.proofs.lemmas.List.{append_cancel_left}
use Rattle.ble_base.specs.declared.notes.Note.{Note}
use Rattle.journal.specs.declared.entries.Entry.{Entry}
use Rattle.journal_endings.specs.controller_model.Side.{notes_after}
use Rattle.journal_endings.specs.controller_model.Step.{Step}
use Rattle.journal_endings.specs.journal_indications.journal_data.run_model.History.{Called, Event, Noted}
use Rattle.journal_endings.specs.journal_indications.journal_data.run_model.Journal.{entry_of, journal_from, journal_of, side_of}
use Rattle.journal_endings.specs.journal_indications.journal_data.run_model.Links.{Links, links_after, links_of}
use Rattle.journal_endings.specs.journal_indications.journal_data.run_model.NoteLines.{IsLineInCall, LinkLine}
use Rattle.journal_endings.specs.journal_indications.journal_data.run_model.Run.{Given, facts_at, history_of, run_of, setup_at}
use Rattle.journal_endings.proofs.journal_indications.journal_data.run_model.Parts.{journal_more}
use Rattle.journal_hosts.proofs.WholeCalls.{IsInWhole, noted_in_whole}

-- ---- the call of a note is the last one before it

pub no_call : (station own : ℕ) (step : Step) (notes : List Note) (front rest : List Event) (X : Type 0)
    → map (Noted station) notes ≡ front ++ Called own step ∷ rest → X
no_call station own step [] [] rest X is = absurd cc
no_call station own step [] (event ∷ front) rest X is = absurd cc
no_call station own step (note ∷ notes) [] rest X is = absurd (let same : Noted station note ≡ Called own step = cc in cc)
no_call station own step (note ∷ notes) (event ∷ front) rest X is =
    let others : map (Noted station) notes ≡ front ++ Called own step ∷ rest = cc in no_call station own step notes front rest X others

same_noted : (station : ℕ) (notes others : List Note) → map (Noted station) notes ≡ map (Noted station) others → notes ≡ others
same_noted station [] [] is = refl
same_noted station [] (other ∷ others) is = absurd cc
same_noted station (note ∷ notes) [] is = absurd cc
same_noted station (note ∷ notes) (other ∷ others) is =
    let event : Noted station note ≡ Noted station other = cc in
    let first : note ≡ other = cc in
    let rest : map (Noted station) notes ≡ map (Noted station) others = cc in
    λ i. first i ∷ same_noted station notes others rest i

record AreOneCall (base other : List Event) (step step_too : Step) (notes others : List Note) : Type 0 where
  base_is : base ≡ other
  step_is : step ≡ step_too
  notes_are : notes ≡ others

one_call : (station : ℕ) (base other : List Event) (step step_too : Step) (notes others : List Note)
    → base ++ Called station step ∷ map (Noted station) notes ≡ other ++ Called station step_too ∷ map (Noted station) others
    → AreOneCall base other step step_too notes others
one_call station [] [] step step_too notes others is =
    let event : Called station step ≡ Called station step_too = cc in
    let same : step ≡ step_too = cc in
    let rest : map (Noted station) notes ≡ map (Noted station) others = cc in
    record { base_is = refl; step_is = same; notes_are = same_noted station notes others rest }
one_call station [] (event ∷ other) step step_too notes others is =
    let rest : map (Noted station) notes ≡ other ++ Called station step_too ∷ map (Noted station) others = cc in
    no_call station station step_too notes other (map (Noted station) others) _ rest
one_call station (event ∷ base) [] step step_too notes others is =
    let rest : map (Noted station) others ≡ base ++ Called station step ∷ map (Noted station) notes = cc in
    no_call station station step others base (map (Noted station) notes) _ rest
one_call station (event ∷ base) (first ∷ other) step step_too notes others is =
    let same : event ≡ first = cc in
    let rest : base ++ Called station step ∷ map (Noted station) notes ≡ other ++ Called station step_too ∷ map (Noted station) others = cc in
    let one = one_call station base other step step_too notes others rest in
    record { base_is = λ i. same i ∷ one.base_is i; step_is = one.step_is; notes_are = one.notes_are }

-- ---- the next note, and its line

module _ (given : Given) (front rest : List Entry) (entry : Entry) (line : LinkLine) (call : IsLineInCall given front line)
    (is : journal_of (history_of (run_of given)) ≡ front ++ entry ∷ rest) where
  abbrev station : ℕ
  station = call.station

  abbrev note : Note
  note = line.note call.handle

  pub whole : IsInWhole given call.before call.station note call.rest
  whole = noted_in_whole given call.before call.rest call.station note call.is_at

  one : AreOneCall call.base whole.base call.step whole.step call.earlier whole.earlier
  one = one_call call.station call.base whole.base call.step whole.step call.earlier whole.earlier (sym call.before_is ∙ whole.before_is)

  later_is : call.later ≡ whole.later
  later_is =
      let notes : call.earlier ++ note ∷ call.later ≡ call.earlier ++ note ∷ whole.later =
      sym call.notes_are
      ∙ (λ i. notes_after (setup_at given call.station) (facts_at given call.station (one.base_is i)) (one.step_is i))
      ∙ whole.notes_are ∙ ap (λ xs. xs ++ note ∷ whole.later) (sym one.notes_are) in
      let rests : note ∷ call.later ≡ note ∷ whole.later = append_cancel_left call.earlier (note ∷ call.later) (note ∷ whole.later) notes in cc

  -- the events after the note begin with the later notes of the call
  rest_is : call.rest ≡ map (Noted call.station) call.later ++ whole.more
  rest_is = whole.rest_is ∙ ap (λ xs. map (Noted call.station) xs ++ whole.more) (sym later_is)

  abbrev links : Links
  links = links_after (links_of call.before) (Noted call.station note)

  lines_are : rest ≡ journal_from links call.rest
  lines_are =
      let journal = sym is ∙ ap journal_of call.is_at ∙ journal_more call.before (Noted call.station note ∷ call.rest)
      ∙ ap (λ xs. xs ++ journal_from (links_of call.before) (Noted call.station note ∷ call.rest)) (sym call.front_is) in
      let rests : entry ∷ rest
      ≡ entry_of (side_of call.station) ((links_of call.before).link_of call.station) ((links_of call.before).last_of call.station) note
      ∷ journal_from links call.rest = append_cancel_left front (entry ∷ rest) _ journal in
      cc

  -- the line of the next note
  pub next_line : (next : Note) (later : List Note) → call.later ≡ next ∷ later
      → rest ≡ entry_of (side_of call.station) (links.link_of call.station) (links.last_of call.station) next
      ∷ journal_from (links_after links (Noted call.station next)) (map (Noted call.station) later ++ whole.more)
  next_line next later later_next =
      lines_are
      ∙ ap (journal_from links) (rest_is ∙ ap (λ xs. map (Noted call.station) xs ++ whole.more) later_next)
