-- The lines of a link up to a line are what its end noted before the call, and what the call noted of it since; how many of
-- them say a PDU that is sent.
use Rattle.std.proofs.Common.{◌≡◌, ℕ, ◌+◌, ◌≤◌, ◌||◌, Bool, true, false, Some, List, [], ◌∷◌, ◌++◌, fold, map, cond, refl, sym, ap, ◌∙◌, append-nil, append_assoc, arith}
use Rattle.std.specs.List.{AllByRecursion, list_any}
use Rattle.std.proofs.lemmas.Bool.{eq-eqb, or_parts}
use Rattle.std.proofs.lemmas.List.Sums.{fold-append}
use Rattle.ble_base.specs.declared.notes.Note.{Note}
use Rattle.ble_base.specs.declared.notes.Note.TheVariants.{Applied, Began, Done, Enter, Opened, Refused, Sent, Shut, Took, Up}
use Rattle.ble_base.specs.declared.roles.Side.{Side}
use Rattle.journal.specs.declared.entries.Entry.{Entry}
use Rattle.journal_endings.specs.controller_model.Since.{is_under, note_under, notes_opened_on, notes_under, opens_under as opening_under}
use Rattle.journal_endings.proofs.controller_model.UnderNotes.{AreOn, IsOn, open_noted}
use Rattle.journal_endings.proofs.link_calls.CallNotes.{is_sending}
use Rattle.journal_endings.specs.journal_indications.journal_data.journal_links.LinkLines.{line_of, lines_of}
use Rattle.journal_endings.specs.journal_indications.journal_data.open_links.OpenLinks.{OpenLink, link_at}
use Rattle.journal_endings.specs.journal_indications.journal_data.run_model.History.{past_of, noted_by}
use Rattle.journal_endings.specs.journal_indications.journal_data.run_model.Journal.{side_of}
use Rattle.journal_endings.specs.journal_indications.journal_data.run_model.LinkEnds.{HaveAddresses}
use Rattle.journal_endings.specs.journal_indications.journal_data.run_model.Links.{links_of}
use Rattle.journal_endings.specs.journal_indications.journal_data.run_model.NoteLines.{IsLineInCall, LinkLine}
use Rattle.journal_endings.specs.journal_indications.journal_data.run_model.Run.{Given, facts_at, setup_at}
use Rattle.journal_endings.proofs.journal_indications.journal_data.run_model.LinkEnds.{AreTaken, IsUnderstood}
use Rattle.journal_endings.proofs.journal_indications.journal_data.run_model.NoteLines.{to_line}
use Rattle.journal_endings.proofs.journal_indications.LineEnds.{base_noted, lines}
use Rattle.journal_collisions.specs.Collisions.{any_line, is_sent}

-- ---- the lines of an end

module _ (understood : IsUnderstood) (taken : AreTaken) (given : Given) (are_two : given.stations ≡ 0 ∷ 1 ∷ []) (six : HaveAddresses given)
    (front : List Entry) (line : LinkLine) (call : IsLineInCall given front line) (link : OpenLink)
    (is_open : link_at call.handle (facts_at given call.station call.base).links ≡ Some link) where
  pub end_lines : lines_of line.side line.number front
      ≡ map (line_of line.side line.number) (fold (note_under call.handle) (notes_opened_on link.setup link.past) call.earlier)
  end_lines =
      to_line given front line call
      (λ n entries one. lines_of one n entries ≡ map (line_of one n) (fold (note_under call.handle) (notes_opened_on link.setup link.past) call.earlier))
      (lines understood taken given are_two six front line call link is_open
      ∙ ap (map (line_of (side_of call.station) ((links_of call.before).link_of call.station call.handle)))
      (fold-append (note_under call.handle) [] (noted_by call.station call.base) call.earlier
      ∙ ap (λ xs. fold (note_under call.handle) xs call.earlier)
      (ap (notes_under call.handle) (base_noted understood taken given are_two six front line call link is_open)
      ∙ open_noted call.handle (setup_at given call.station) (past_of call.station call.base) link is_open)))

-- ---- notes of one link

-- notes of a link, after others of it
pub under_all : (handle : ℕ) (known notes : List Note) → AllByRecursion (IsOn handle) notes → fold (note_under handle) known notes ≡ known ++ notes
under_all handle known [] are = sym (append-nil known)
under_all handle known (note ∷ notes) are =
    let first : note_under handle known note ≡ known ++ note ∷ [] =
    (λ i. cond (are.0.opens handle i) (note ∷ []) (cond ((are.0.under handle ∙ eq-eqb handle handle refl) i) (known ++ note ∷ []) known)) in
    ap (λ xs. fold (note_under handle) xs notes) first ∙ under_all handle (known ++ note ∷ []) notes are.1 ∙ append_assoc known (note ∷ []) notes

pub first_on : (own : ℕ) (notes more : List Note) → AreOn own (notes ++ more) → AreOn own notes
first_on own [] more are = tt
first_on own (note ∷ notes) more are = (are.0, first_on own notes more are.1)

pub rest_on : (own : ℕ) (notes more : List Note) → AreOn own (notes ++ more) → AreOn own more
rest_on own [] more are = are
rest_on own (note ∷ notes) more are = rest_on own notes more are.1

-- ---- how many PDUs are noted as sent

abbrev pub one_of : Bool → ℕ
one_of true = 1
one_of false = 0

abbrev pub sendings : List Note → ℕ
sendings [] = 0
sendings (note ∷ notes) = one_of (is_sending note) + sendings notes

pub sendings_more : (notes more : List Note) → sendings (notes ++ more) ≡ sendings notes + sendings more
sendings_more [] more = omega arith
sendings_more (note ∷ notes) more = let rest = sendings_more notes more in omega (arith, rest)

none_by : (sends rest : Bool) (count : ℕ) → one_of sends + count ≡ 0 → (count ≡ 0 → rest ≡ false) → (sends || rest) ≡ false
none_by true rest count none then_none = absurd (omega (arith, none))
none_by false rest count none then_none = then_none (omega (arith, none))

pub none_sent : (notes : List Note) → sendings notes ≡ 0 → list_any is_sending notes ≡ false
none_sent [] none = refl
none_sent (note ∷ notes) none = none_by (is_sending note) (list_any is_sending notes) (sendings notes) none (none_sent notes)

-- further notes of a call leave those before, where it opens no link
pub sendings_grow : (handle : ℕ) (known notes : List Note) → list_any (opening_under handle) notes ≡ false
    → sendings known ≤ sendings (fold (note_under handle) known notes)
sendings_grow handle known [] none = omega arith
sendings_grow handle known (note ∷ notes) none =
    let parts = or_parts (opening_under handle note) (list_any (opening_under handle) notes) none in
    let first = grown (opening_under handle note) (is_under handle note) parts.0 in
    let rest = sendings_grow handle (note_under handle known note) notes parts.1 in omega (arith, first, rest)
  where
    grown : (opens under : Bool) → opens ≡ false → sendings known ≤ sendings (cond opens (note ∷ []) (cond under (known ++ note ∷ []) known))
    grown true under is = absurd cc
    grown false true is = let more = sendings_more known (note ∷ []) in omega (arith, more)
    grown false false is = omega arith

-- the same of lines
abbrev pub sents : List Entry → ℕ
sents [] = 0
sents (line ∷ others) = one_of (is_sent line) + sents others

pub sents_more : (front more : List Entry) → sents (front ++ more) ≡ sents front + sents more
sents_more [] more = omega arith
sents_more (line ∷ front) more = let rest = sents_more front more in omega (arith, rest)

line_sent : (side : Side) (number : ℕ) (note : Note) → is_sent (line_of side number note) ≡ is_sending note
line_sent side number (Up packet) = refl
line_sent side number (Opened handle role own peer) = refl
line_sent side number (Shut handle reason) = refl
line_sent side number (Sent handle count llid body) = refl
line_sent side number (Took handle count llid body) = refl
line_sent side number (Enter handle event channel) = refl
line_sent side number (Applied handle count event) = refl
line_sent side number (Began handle other) = refl
line_sent side number (Refused handle other code) = refl
line_sent side number (Done handle other) = refl

pub lines_sent : (side : Side) (number : ℕ) (notes : List Note) → sents (map (line_of side number) notes) ≡ sendings notes
lines_sent side number [] = refl
lines_sent side number (note ∷ notes) = λ i. one_of (line_sent side number note i) + lines_sent side number notes i

-- lines of which none says a PDU that is sent
any_first : (found : Bool) (said : List Entry) → fold (λ so_far line. so_far || is_sent line) found said ≡ false → (found ≡ false) × (sents said ≡ 0)
any_first found [] none = (none, refl)
any_first found (line ∷ said) none =
    let rest = any_first (found || is_sent line) said none in
    let parts = or_parts found (is_sent line) rest.0 in
    (parts.0, let one = ap one_of parts.1 in let more = rest.1 in omega (arith, one, more))

pub none_said : (said : List Entry) → any_line is_sent said ≡ false → sents said ≡ 0
none_said said none = (any_first false said none).1
