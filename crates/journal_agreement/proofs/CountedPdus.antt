-- The indications that an end notes are those in the PDUs that its side sent, where it is the central, or took.
use Rattle.std.proofs.Common.{◌≡◌, ℕ, ◌+◌, ◌==◌, Bool, true, false, Option, Some, None, List, [], ◌∷◌, ◌++◌, refl, sym, ap, ◌∙◌, arith, length-append}
use Rattle.std.specs.Prelude.{fold, length, if◌then◌else◌}
use Rattle.std.specs.List.{flat_map}
use Rattle.std.specs.Option.{option_to_list}
use Rattle.std.proofs.lemmas.Grind.{flat_map-append}
use Rattle.std.proofs.lemmas.List.{length-map}
use Rattle.std.proofs.lemmas.List.Elements.{filter-append}
use Rattle.ble_base.specs.declared.notes.Note.{Note}
use Rattle.ble_base.specs.declared.roles.Role.{Role}
use Rattle.ble_base.specs.declared.roles.Role.TheVariants.{Central, Peripheral}
use Rattle.ble_base.specs.declared.roles.Side.{Side}
use Rattle.ble_base.specs.declared.roles.Side.TheVariants.{A, B}
use Rattle.instants.specs.Arrivals.{Taking}
use Rattle.instants.specs.declared.indications.Indication.{Indication}
use Rattle.journal.specs.declared.entries.Entry.{Entry}
use Rattle.journal.specs.declared.entries.Entry.TheVariants.{Fed, Up, Opened, Shut, Sent, Took}
use Rattle.link_changes.specs.Noted.{event_after, indication_in, indications_noted, taking_if, takings_from, takings_noted}
use Rattle.link_changes.proofs.Notes.{takings-append}
use Rattle.journal_data.specs.journal_links.Changes.{note_said, notes_said}
use Rattle.journal_data.specs.journal_links.LinkLines.{link_named, where_named}
use Rattle.journal_data.specs.journal_packets.Belonging.{is_side}
use Rattle.journal_data.specs.Lines.{Lines, PduLine, line_after, lines_after, lines_of, no_lines, pdus_on}
use Rattle.journal_data.specs.run_model.Readers.{of_side}
use Rattle.journal_agreement.proofs.BothEnds.{said_more}

-- ---- the line of a side on a link

-- a line is of this side and this link, or it is not
pub either_named : (P : List Entry → Type 0) (side : Side) (number : ℕ) (may : Option (Side × ℕ)) (line : Entry) → P [] → P (line ∷ [])
    → P (where_named side number may line ++ [])
either_named P side number None line none one = none
either_named P side number (Some named) line none one = by side named.0 (named.1 == number)
  where
    by : (here other : Side) (same : Bool) → P (of_side here other (if same then line ∷ [] else []) ++ [])
    by A A true = one
    by B B true = one
    by A A false = none
    by B B false = none
    by A B same = none
    by B A same = none

-- ---- PDUs

abbrev pub in_pdu : PduLine → List Indication
in_pdu one = option_to_list (indication_in one.pdu.llid one.pdu.body)

-- how many indications are in these PDUs
abbrev pub count_in : List PduLine → ℕ
count_in pdus = length (flat_map in_pdu pdus)

pub count_more : (pdus more : List PduLine) → count_in (pdus ++ more) ≡ count_in pdus + count_in more
count_more pdus more =
    ap (λ (all : List Indication). length all) (flat_map-append in_pdu pdus more)
    ∙ length-append (flat_map in_pdu pdus) (flat_map in_pdu more)

-- those that an end with this role follows
abbrev pub pdus_by : Role → Lines → List PduLine
pdus_by Central lines = lines.sent
pdus_by Peripheral lines = lines.taken

-- one more PDU
pub one_more : (number : ℕ) (pdus : List PduLine) (one : PduLine)
    → pdus_on number (pdus ++ one ∷ []) ≡ pdus_on number pdus ++ (if one.link == number then one ∷ [] else [])
one_more number pdus one = filter-append (λ (pdu : PduLine). pdu.link == number) pdus (one ∷ [])

one_taking : (event : ℕ) (may : Option Indication) → length (taking_if event may ++ []) ≡ length (option_to_list may ++ [])
one_taking event None = refl
one_taking event (Some indication) = refl

nothing : (n : ℕ) → n ≡ n + 0
nothing n = omega arith

none_first : (n : ℕ) → 0 + n ≡ n
none_first n = omega arith

-- ---- one line

module _ (number event : ℕ) where
  -- what a line adds to the PDUs of a side, and to the notes of its end
  abbrev Adds : Role → Side → Lines → Entry → Type 0
  Adds role side lines line =
      count_in (pdus_on number (pdus_by role (lines_after 8 side lines line)))
      ≡ count_in (pdus_on number (pdus_by role lines)) + length (takings_from role event (notes_said side number (line ∷ [])))

  -- a line that adds to neither
  adds_none : (role : Role) (side : Side) (lines : Lines) (line : Entry) → pdus_by role (lines_after 8 side lines line) ≡ pdus_by role lines
      → takings_from role event (flat_map note_said (line ∷ [])) ≡ [] → Adds role side lines line
  adds_none role side lines line same none =
      let same_count = ap (λ pdus. count_in (pdus_on number pdus)) same in
      let no_taking = either_named (λ all. length (takings_from role event (flat_map note_said all)) ≡ 0) side number (link_named line) line refl
      (ap (λ (all : List Taking). length all) none) in
      omega (arith, same_count, no_taking)

  -- a line that adds to neither, of this side or of the other
  none_if : (role : Role) (side : Side) (own : Bool) (lines : Lines) (line : Entry)
      → lines_after 8 side lines line ≡ (if own then line_after 8 lines line else lines)
      → pdus_by role (line_after 8 lines line) ≡ pdus_by role lines → takings_from role event (flat_map note_said (line ∷ [])) ≡ [] → Adds role side lines line
  none_if role side own lines line is same none = adds_none role side lines line (ap (pdus_by role) is ∙ by own) none
    where
      by : (here : Bool) → pdus_by role (if here then line_after 8 lines line else lines) ≡ pdus_by role lines
      by true = same
      by false = refl

  -- one PDU more on this link, which its side sent or took
  adds_one : (pdus : List PduLine) (one : PduLine) (here : Bool) → (one.link == number) ≡ here
      → count_in (pdus_on number (pdus ++ one ∷ []))
      ≡ count_in (pdus_on number pdus) + (if here then length (taking_if event (indication_in one.pdu.llid one.pdu.body) ++ []) else 0)
  adds_one pdus one here is =
      let pdus_more = ap count_in (one_more number pdus one ∙ ap (λ (b : Bool). pdus_on number pdus ++ (if b then one ∷ [] else [])) is)
      ∙ count_more (pdus_on number pdus) (if here then one ∷ [] else []) in
      pdus_more ∙ ap (λ n. count_in (pdus_on number pdus) + n) (by here)
    where
      by : (same : Bool) → count_in (if same then one ∷ [] else [])
          ≡ (if same then length (taking_if event (indication_in one.pdu.llid one.pdu.body) ++ []) else 0)
      by true = sym (one_taking event (indication_in one.pdu.llid one.pdu.body))
      by false = refl

  sent_adds : (side other : Side) (lines : Lines) (link count llid : ℕ) (body : List ℕ) (here : Bool) → (link == number) ≡ here
      → Adds Central side lines (Sent other link count llid body)
  sent_adds A A lines link count llid body true is = rw is (adds_one lines.sent _ true is)
  sent_adds A A lines link count llid body false is = rw is (adds_one lines.sent _ false is)
  sent_adds B B lines link count llid body true is = rw is (adds_one lines.sent _ true is)
  sent_adds B B lines link count llid body false is = rw is (adds_one lines.sent _ false is)
  sent_adds A B lines link count llid body here is = nothing _
  sent_adds B A lines link count llid body here is = nothing _

  took_adds : (side other : Side) (lines : Lines) (link count llid : ℕ) (body : List ℕ) (here : Bool) → (link == number) ≡ here
      → Adds Peripheral side lines (Took other link count llid body)
  took_adds A A lines link count llid body true is = rw is (adds_one lines.taken _ true is)
  took_adds A A lines link count llid body false is = rw is (adds_one lines.taken _ false is)
  took_adds B B lines link count llid body true is = rw is (adds_one lines.taken _ true is)
  took_adds B B lines link count llid body false is = rw is (adds_one lines.taken _ false is)
  took_adds A B lines link count llid body here is = nothing _
  took_adds B A lines link count llid body here is = nothing _

  adds : (role : Role) (side : Side) (lines : Lines) (line : Entry) → Adds role side lines line
  adds Central side lines (Sent other link count llid body) = sent_adds side other lines link count llid body (link == number) refl
  adds Peripheral side lines (Took other link count llid body) = took_adds side other lines link count llid body (link == number) refl
  adds Peripheral side lines (Sent other link count llid body) =
      none_if Peripheral side (is_side other side) lines (Sent other link count llid body) refl refl refl
  adds Central side lines (Took other link count llid body) =
      none_if Central side (is_side other side) lines (Took other link count llid body) refl refl refl
  adds role side lines (Fed other octets) = none_if role side (is_side other side) lines (Fed other octets) refl refl refl
  adds role side lines (Up other octets) = none_if role side (is_side other side) lines (Up other octets) refl refl refl
  adds role side lines (Opened other link handle own) = none_if role side (is_side other side) lines (Opened other link handle own) refl refl refl
  adds role side lines (Shut other link reason) = none_if role side (is_side other side) lines (Shut other link reason) refl refl refl
  adds Central side lines line = adds_none Central side lines line refl refl
  adds Peripheral side lines line = adds_none Peripheral side lines line refl refl

-- ---- all lines

all_add : (role : Role) (side : Side) (number event : ℕ) (lines : Lines) (journal : List Entry)
    → count_in (pdus_on number (pdus_by role (fold (lines_after 8 side) lines journal)))
    ≡ count_in (pdus_on number (pdus_by role lines)) + length (takings_from role event (notes_said side number journal))
all_add role side number event lines [] = nothing _
all_add role side number event lines (line ∷ journal) =
    let said = notes_said side number (line ∷ []) in
    let later = notes_said side number journal in
    let here = adds number event role side lines line in
    let rest = all_add role side number (fold event_after event said) (lines_after 8 side lines line) journal in
    let both = ap (λ (all : List Note). length (takings_from role event all)) (said_more side number (line ∷ []) journal)
    ∙ ap (λ (all : List Taking). length all) (takings-append role event said later)
    ∙ length-append (takings_from role event said) (takings_from role (fold event_after event said) later) in
    omega (arith, here, rest, both)

pub indications_counted : (role : Role) (side : Side) (number : ℕ) (journal : List Entry)
    → length (indications_noted role (notes_said side number journal)) ≡ count_in (pdus_on number (pdus_by role (lines_of 8 side journal)))
unfolding lines_of
indications_counted role side number journal =
    length-map (takings_noted role (notes_said side number journal)) (λ (taking : Taking). taking.change)
    ∙ sym (all_add role side number 0 no_lines journal ∙ by role)
  where
    by : (own : Role) {n : ℕ} → count_in (pdus_on number (pdus_by own no_lines)) + n ≡ n
    by Central = none_first _
    by Peripheral = none_first _
