-- The lines of an open end say the PDUs that it sent and took.
use Rattle.std.proofs.Common.{◌≡◌, ℕ, suc, ◌+◌, Bool, true, false, List, [], ◌∷◌, ◌++◌, append-nil, cond, length, map, refl, ap, subst, ◌∙◌}
use Rattle.std.specs.List.{filter}
use Rattle.std.proofs.lemmas.List.{length-map}
use Rattle.std.proofs.lemmas.List.Elements.{filter-append}
use Rattle.ack_bit.specs.Nonempty.{nonempty}
use Rattle.ble_base.specs.declared.notes.Note.{Note}
use Rattle.ble_base.specs.declared.notes.Note.TheVariants.{Applied, Began, Done, Enter, Opened, Refused, Sent as SentNote, Shut, Took as TookNote, Up}
use Rattle.ble_base.specs.declared.roles.Side.{Side}
use Rattle.journal.specs.declared.entries.Entry.{Entry}
use Rattle.journal.specs.declared.entries.Entry.TheVariants.{Sent, Took}
use Rattle.journal_collisions.specs.Collisions.{is_sent}
use Rattle.journal_collisions.specs.journal_endings.controller_model.Since.{notes_opened_on}
use Rattle.journal_collisions.specs.journal_links.LinkLines.{line_of}
use Rattle.journal_collisions.specs.journal_data.link_model.Acknowledgement.{Pdu}
use Rattle.journal_collisions.specs.journal_data.link_model.Data.{is_empty}
use Rattle.journal_collisions.specs.journal_data.link_model.End.{facts_of}
use Rattle.journal_collisions.specs.journal_data.link_model.Numbers.{is_sent_note, is_took_note, numbered_notes, sent_note, took_note}
use Rattle.journal_collisions.specs.journal_data.link_model.Setup.{Setup}
use Rattle.journal_collisions.specs.journal_data.link_model.Step.{Step}
use Rattle.journal_collisions.proofs.journal_endings.journal_indications.journal_data.link_model.Numbering.{are_numbered}
use Rattle.journal_crossing.proofs.CountedLines.{is_taken}

-- ---- a line and its note

sent_line : (side : Side) (number : ℕ) (note : Note) → is_sent (line_of side number note) ≡ is_sent_note note
sent_line side number (Up packet) = refl
sent_line side number (Opened handle role own peer) = refl
sent_line side number (Shut handle reason) = refl
sent_line side number (SentNote handle count llid body) = refl
sent_line side number (TookNote handle count llid body) = refl
sent_line side number (Enter handle event channel) = refl
sent_line side number (Applied handle count event) = refl
sent_line side number (Began handle kind) = refl
sent_line side number (Refused handle kind code) = refl
sent_line side number (Done handle kind) = refl

taken_line : (side : Side) (number : ℕ) (note : Note) → is_taken (line_of side number note) ≡ is_took_note note
taken_line side number (Up packet) = refl
taken_line side number (Opened handle role own peer) = refl
taken_line side number (Shut handle reason) = refl
taken_line side number (SentNote handle count llid body) = refl
taken_line side number (TookNote handle count llid body) = refl
taken_line side number (Enter handle event channel) = refl
taken_line side number (Applied handle count event) = refl
taken_line side number (Began handle kind) = refl
taken_line side number (Refused handle kind code) = refl
taken_line side number (Done handle kind) = refl

-- the lines of some notes
lines_for : (side : Side) (number : ℕ) (lines : Entry → Bool) (notes : Note → Bool) → ((note : Note) → lines (line_of side number note) ≡ notes note)
    → (all : List Note) → filter lines (map (line_of side number) all) ≡ map (line_of side number) (filter notes all)
lines_for side number lines notes same [] = refl
lines_for side number lines notes same (note ∷ all) =
    let rest = filter lines (map (line_of side number) all) in
    ap (λ (b : Bool). cond b (line_of side number note ∷ rest) rest) (same note) ∙ by (notes note) (lines_for side number lines notes same all)
  where
    by : (here : Bool) {rest : List Entry} → rest ≡ map (line_of side number) (filter notes all)
        → cond here (line_of side number note ∷ rest) rest ≡ map (line_of side number) (cond here (note ∷ filter notes all) (filter notes all))
    by true is = ap (λ lines. line_of side number note ∷ lines) is
    by false is = is

-- ---- the PDUs of an end

numbered_length : (note : ℕ → Pdu → Note) (number : ℕ) (pdus : List Pdu) → length (numbered_notes note number pdus) ≡ length pdus
numbered_length note number [] = refl
numbered_length note number (pdu ∷ pdus) = ap (λ n. suc n) (numbered_length note (number + 1) pdus)

module _ (side : Side) (number : ℕ) (setup : Setup) (past : List Step) where
  abbrev known : List Note
  known = notes_opened_on setup past

  pub sent_lines : (more : List Note) → filter is_sent_note more ≡ []
      → filter is_sent (map (line_of side number) (known ++ more))
      ≡ map (line_of side number) (numbered_notes (sent_note setup.link.handle) 1 (nonempty is_empty (facts_of setup past).acknowledgement.sent))
  sent_lines more none =
      lines_for side number is_sent is_sent_note (sent_line side number) (known ++ more)
      ∙ ap (map (line_of side number)) (filter-append is_sent_note known more
      ∙ ap (λ xs. filter is_sent_note known ++ xs) none ∙ append-nil (filter is_sent_note known) ∙ (are_numbered setup past).sent)

  pub taken_lines : length (filter is_taken (map (line_of side number) known)) ≡ length (nonempty is_empty (facts_of setup past).acknowledgement.accepted)
  taken_lines =
      ap length (lines_for side number is_taken is_took_note (taken_line side number) known)
      ∙ length-map (filter is_took_note known) (line_of side number)
      ∙ ap length (are_numbered setup past).took
      ∙ numbered_length (took_note setup.link.handle) 1 (nonempty is_empty (facts_of setup past).acknowledgement.accepted)

-- ---- the PDU of a line

-- the PDU that a line says as sent, among those of its end
pub record IsSentAt (pdus : List Pdu) (front : List Entry) (llid : ℕ) (body : List ℕ) : Type 0 where
  pub before : List Pdu
  pub after : List Pdu
  pub is : pdus ≡ before ++ record { llid = llid; body = body } ∷ after
  pub count : length before ≡ length front

next_sent : (pdu : Pdu) (pdus : List Pdu) (line : Entry) (front : List Entry) (llid : ℕ) (body : List ℕ) → IsSentAt pdus front llid body
    → IsSentAt (pdu ∷ pdus) (line ∷ front) llid body
next_sent pdu pdus line front llid body at =
    record { before = pdu ∷ at.before; after = at.after; is = ap (λ xs. pdu ∷ xs) at.is; count = ap (λ n. suc n) at.count }

pub sent_at : (side : Side) (number handle first : ℕ) (pdus : List Pdu) (front rest : List Entry) (count llid : ℕ) (body : List ℕ)
    → map (line_of side number) (numbered_notes (sent_note handle) first pdus) ≡ front ++ Sent side number count llid body ∷ rest
    → IsSentAt pdus front llid body
sent_at side number handle first [] [] rest count llid body is = absurd cc
sent_at side number handle first [] (line ∷ front) rest count llid body is = absurd cc
sent_at side number handle first (pdu ∷ pdus) [] rest count llid body is =
    let same_llid : pdu.llid ≡ llid = cc in
    let same_body : pdu.body ≡ body = cc in
    record { before = []; after = pdus; is = λ i. record { llid = same_llid i; body = same_body i } ∷ pdus; count = refl }
sent_at side number handle first (pdu ∷ pdus) (line ∷ front) rest count llid body is =
    let later : map (line_of side number) (numbered_notes (sent_note handle) (first + 1) pdus) ≡ front ++ Sent side number count llid body ∷ rest = cc in
    next_sent pdu pdus line front llid body (sent_at side number handle (first + 1) pdus front rest count llid body later)

-- ---- the note of a line

-- the note of a PDU that a line says as taken
pub record IsTookAt (notes : List Note) (count llid : ℕ) (body : List ℕ) : Type 0 where
  pub first : List Note
  pub handle : ℕ
  pub later : List Note
  pub is : notes ≡ first ++ TookNote handle count llid (record { items = body }) ∷ later

next_took : (note : Note) (notes : List Note) (count llid : ℕ) (body : List ℕ) → IsTookAt notes count llid body → IsTookAt (note ∷ notes) count llid body
next_took note notes count llid body at = record { first = note ∷ at.first; handle = at.handle; later = at.later; is = ap (λ xs. note ∷ xs) at.is }

pub took_at : (side : Side) (number : ℕ) (notes : List Note) (front rest : List Entry) (count llid : ℕ) (body : List ℕ)
    → map (line_of side number) notes ≡ front ++ Took side number count llid body ∷ rest → IsTookAt notes count llid body
took_at side number [] [] rest count llid body is = absurd cc
took_at side number [] (line ∷ front) rest count llid body is = absurd cc
took_at side number (TookNote handle one other octets ∷ notes) [] rest count llid body is =
    let same_count : one ≡ count = cc in
    let same_llid : other ≡ llid = cc in
    let same_body : octets.items ≡ body = cc in
    record {
      first = [];
      handle = handle;
      later = notes;
      is = λ i. TookNote handle (same_count i) (same_llid i) (record { items = same_body i }) ∷ notes;
    }
took_at side number (note ∷ notes) [] rest count llid body is = absurd cc
took_at side number (note ∷ notes) (line ∷ front) rest count llid body is =
    let later : map (line_of side number) notes ≡ front ++ Took side number count llid body ∷ rest = cc in
    next_took note notes count llid body (took_at side number notes front rest count llid body later)

-- ---- where a note is

-- a note of two lists is one of the first, or of the second
pub data IsOfEither (first second before : List Note) (note : Note) : Type 0 where
  OfFirst : (later : List Note) → first ≡ before ++ note ∷ later → IsOfEither first second before note
  OfSecond : (more later : List Note) → second ≡ more ++ note ∷ later → IsOfEither first second before note

next_of : (one note : Note) (first second before : List Note) → IsOfEither first second before note → IsOfEither (one ∷ first) second (one ∷ before) note
next_of one note first second before (OfFirst later is) = OfFirst later (ap (λ xs. one ∷ xs) is)
next_of one note first second before (OfSecond more later is) = OfSecond more later is

pub of_either : (first second before later : List Note) (note : Note) → first ++ second ≡ before ++ note ∷ later → IsOfEither first second before note
of_either [] second before later note is = OfSecond before later is
of_either (one ∷ first) second [] later note is =
    let same : one ≡ note = cc in OfFirst first (ap (λ (n : Note). n ∷ first) same)
of_either (one ∷ first) second (other ∷ before) later note is =
    let same : one ≡ other = cc in
    let rest : first ++ second ≡ before ++ note ∷ later = cc in
    subst (λ (n : Note). IsOfEither (one ∷ first) second (n ∷ before) note) same
    (next_of one note first second before (of_either first second before later note rest))
