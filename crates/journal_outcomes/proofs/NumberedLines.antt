-- Each PDU that a side sends on a link has the next number, by the notes of its end.
use Rattle.std.proofs.Common.{◌≡◌, ℕ, ◌+◌, ◌==◌, Bool, true, false, Option, Some, None, List, [], ◌∷◌, ◌++◌, map, refl, sym, ap, ◌∙◌, append-nil, arith, length-append}
use Rattle.std.specs.Prelude.{length, if◌then◌else◌}
use Rattle.std.specs.List.{filter}
use Rattle.std.proofs.lemmas.Bool.{eq-eqb}
use Rattle.std.proofs.lemmas.Grind.{flat_map-append}
use Rattle.std.proofs.lemmas.List.Elements.{filter-append}
use Rattle.ble_base.specs.declared.notes.Note.{Note}
use Rattle.ble_base.specs.declared.notes.Note.TheVariants.{Applied, Began, Done, Enter, Opened, Refused, Sent as SentNote, Shut, Took, Up}
use Rattle.ble_base.specs.declared.roles.Side.{Side}
use Rattle.ble_base.specs.declared.roles.Side.TheVariants.{A, B}
use Rattle.journal.specs.declared.entries.Entry.{Entry}
use Rattle.journal.specs.declared.entries.Entry.TheVariants.{Sent}
use Rattle.journal_crossing.specs.controller_model.Links.{note_opened}
use Rattle.journal_crossing.specs.journal_data.link_model.Acknowledgement.{Pdu}
use Rattle.journal_crossing.specs.journal_data.link_model.Numbers.{is_sent_note, numbered_notes, sent_note}
use Rattle.journal_crossing.specs.journal_links.LinkLines.{line_of, lines_of, link_named, where_named}
use Rattle.journal_crossing.specs.run_model.Journal.{journal_of}
use Rattle.journal_crossing.specs.run_model.LinkEnds.{HaveAddresses}
use Rattle.journal_crossing.specs.run_model.NoteLines.{sent_line}
use Rattle.journal_crossing.specs.run_model.Readers.{of_side}
use Rattle.journal_crossing.specs.run_model.Run.{Given, history_of, run_of}
use Rattle.journal_crossing.proofs.journal_data.link_model.Numbering.{are_numbered}
use Rattle.journal_crossing.proofs.run_model.LinkEnds.{AreTaken, IsUnderstood}
use Rattle.journal_outcomes.specs.Numbering.{AllAreNumbered}
use Rattle.journal_outcomes.proofs.AnsweredLines.{plain_sent}
use Rattle.journal_outcomes.proofs.NamedEnds.{end_of, some_number}
use Rattle.journal_outcomes.proofs.PduPlaces.{pdu_line, sent_in, sents, sents_are}

-- ---- the PDUs of all lines are those of the lines of the side on the link

module _ (side : Side) (number : ℕ) where
  none_where : (may : Option (Side × ℕ)) (line : Entry) → sent_in side number line ≡ [] → sents side number (where_named side number may line) ≡ []
  none_where None line none = refl
  none_where (Some (other, link)) line none = by side other (link == number)
    where
      by : (one two : Side) (same : Bool) → sents side number (of_side one two (if same then line ∷ [] else [])) ≡ []
      by A A true = ap (λ xs. xs ++ []) none
      by B B true = ap (λ xs. xs ++ []) none
      by A A false = refl
      by B B false = refl
      by A B same = refl
      by B A same = refl

  sent_where : (other : Side) (link count llid : ℕ) (body : List ℕ)
      → sents side number (where_named side number (Some (other, link)) (Sent other link count llid body)) ≡ sent_in side number (Sent other link count llid body)
  sent_where other link count llid body = by (Sent other link count llid body) side other (link == number) refl
    where
      by : (line : Entry) (one two : Side) (same : Bool)
          → sent_in side number line ≡ of_side one two (if same then pdu_line link count llid body ∷ [] else [])
          → sents side number (of_side one two (if same then line ∷ [] else [])) ≡ sent_in side number line
      by line A A true is = append-nil (sent_in side number line)
      by line B B true is = append-nil (sent_in side number line)
      by line A A false is = sym is
      by line B B false is = sym is
      by line A B same is = sym is
      by line B A same is = sym is

  line_where : (line : Entry) → sents side number (where_named side number (link_named line) line) ≡ sent_in side number line
  line_where (Sent other link count llid body) = sent_where other link count llid body
  line_where line = none_where (link_named line) line refl

  named_sents : (entries : List Entry) → sents side number (lines_of side number entries) ≡ sents side number entries
  named_sents [] = refl
  named_sents (line ∷ entries) =
      flat_map-append (sent_in side number) (where_named side number (link_named line) line) (lines_of side number entries)
      ∙ (λ i. line_where line i ++ named_sents entries i)

  -- ---- and they are as many as the notes of PDUs that are sent

  own_sent : (count llid : ℕ) (body : List ℕ) → length (sent_in side number (Sent side number count llid body)) ≡ 1
  own_sent count llid body =
      ap (λ (b : Bool). length (of_side side side (if b then pdu_line number count llid body ∷ [] else []))) (eq-eqb number number refl) ∙ by side
    where
      by : (same : Side) → length (of_side same same (pdu_line number count llid body ∷ [])) ≡ 1
      by A = refl
      by B = refl

  note_sent : (note : Note) → length (sent_in side number (line_of side number note)) ≡ length (filter is_sent_note (note ∷ []))
  note_sent (SentNote handle count llid body) = own_sent count llid body.items
  note_sent (Up packet) = refl
  note_sent (Opened handle role own peer) = refl
  note_sent (Shut handle reason) = refl
  note_sent (Took handle count llid body) = refl
  note_sent (Enter handle event channel) = refl
  note_sent (Applied handle count event) = refl
  note_sent (Began handle kind) = refl
  note_sent (Refused handle kind code) = refl
  note_sent (Done handle kind) = refl

  notes_sent : (notes : List Note) → length (sents side number (map (line_of side number) notes)) ≡ length (filter is_sent_note notes)
  notes_sent [] = refl
  notes_sent (note ∷ notes) =
      let one = note_sent note in
      let rest = notes_sent notes in
      let lines = length-append (sent_in side number (line_of side number note)) (sents side number (map (line_of side number) notes)) in
      let both = length-append (filter is_sent_note (note ∷ [])) (filter is_sent_note notes) in
      let apart = ap (λ xs. length xs) (filter-append is_sent_note (note ∷ []) notes) in
      omega (arith, one, rest, lines, both, apart)

-- ---- the number of a note

-- a note among numbered ones has the number of its place
number_is : (handle first other count llid : ℕ) (body : List ℕ) (before later : List Note) (pdus : List Pdu)
    → before ++ SentNote other count llid (record { items = body }) ∷ later ≡ numbered_notes (sent_note handle) first pdus → count ≡ first + length before
number_is handle first other count llid body [] later [] is = absurd cc
number_is handle first other count llid body [] later (pdu ∷ pdus) is =
    let head : SentNote other count llid (record { items = body }) ≡ sent_note handle first pdu = cc in
    let same : count ≡ first = cc in omega (arith, same)
number_is handle first other count llid body (note ∷ before) later [] is = absurd cc
number_is handle first other count llid body (note ∷ before) later (pdu ∷ pdus) is =
    let rest : before ++ SentNote other count llid (record { items = body }) ∷ later ≡ numbered_notes (sent_note handle) (first + 1) pdus = cc in
    let next = number_is handle (first + 1) other count llid body before later pdus rest in omega (arith, next)

-- ---- in a run

module _ (understood : IsUnderstood) (taken : AreTaken) (given : Given) (are_two : given.stations ≡ 0 ∷ 1 ∷ []) (six : HaveAddresses given) where
  pub all_numbered : AllAreNumbered (journal_of (history_of (run_of given)))
  all_numbered front rest link side number count llid body is is_link =
      let has = end_of understood taken given are_two six front rest (Sent side number count llid body) (sent_line side number count llid body) refl
      (plain_sent count llid body) (some_number number (journal_of (history_of (run_of given))) link is_link) is in
      let notes = has.end.notes in
      let note = SentNote has.end.handle count llid (record { items = body }) in
      let known = notes_sent side number (note_opened has.end.setup.link ∷ notes) in
      let said = ap (λ xs. length xs) (sents_are number side front ∙ sym (named_sents side number front) ∙ ap (sents side number) has.end.lines_are) in
      let place = number_is has.end.setup.link.handle 1 has.end.handle count llid body (filter is_sent_note notes) (filter is_sent_note has.end.later) _
      (sym (filter-append is_sent_note notes (note ∷ has.end.later)) ∙ ap (filter is_sent_note) (sym has.end.notes_are)
      ∙ (are_numbered has.end.setup has.end.past).sent) in
      omega (arith, known, said, place)
