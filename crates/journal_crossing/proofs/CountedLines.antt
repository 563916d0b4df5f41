-- How many PDUs a side has sent or taken on a link, by its lines of that link.
use Rattle.std.proofs.Common.{◌≡◌, ℕ, ◌+◌, ◌==◌, Bool, true, false, Option, Some, None, List, [], ◌∷◌, ◌++◌, cond, fold, length, refl, ap, ◌∙◌, arith, length-append, if◌then◌else◌}
use Rattle.std.specs.List.{filter}
use Rattle.std.proofs.lemmas.List.Elements.{filter-append}
use Rattle.ble_base.specs.declared.roles.Side.{Side}
use Rattle.ble_base.specs.declared.roles.Side.TheVariants.{A, B}
use Rattle.journal.specs.declared.entries.Entry.{Entry}
use Rattle.journal.specs.declared.entries.Entry.TheVariants.{Fed, Up, Opened, Shut, Sent, Took}
use Rattle.journal_collisions.specs.Collisions.{is_sent}
use Rattle.journal_collisions.specs.journal_data.Lines.{Lines, PduLine, line_after, lines_after, lines_of as data_lines, no_lines, pdus_on}
use Rattle.journal_collisions.specs.journal_links.LinkLines.{lines_of, link_named, where_named}
use Rattle.journal_collisions.specs.journal_data.journal_packets.Belonging.{is_side}
use Rattle.journal_collisions.specs.journal_data.run_model.Readers.{of_side}
use Rattle.std.proofs.lemmas.Grind.{flat_map-append}

-- lines that say a PDU that is sent, or one that is taken
abbrev pub is_taken : Entry → Bool
is_taken (Took side number count llid body) = true
is_taken line = false

abbrev pub says : Bool → Entry → Bool
says true = is_sent
says false = is_taken

-- the PDUs that lines say as sent, or as taken
abbrev pub pdus_of : Bool → Lines → List PduLine
pdus_of true lines = lines.sent
pdus_of false lines = lines.taken

-- a line is of this side and this link, or it is not
either : (P : List Entry → Type 0) (side : Side) (number : ℕ) (may : Option (Side × ℕ)) (line : Entry) → P [] → P (line ∷ [])
    → P (where_named side number may line ++ [])
either P side number None line none one = none
either P side number (Some named) line none one = by side named.0 (named.1 == number)
  where
    by : (here other : Side) (same : Bool) → P (of_side here other (if same then line ∷ [] else []) ++ [])
    by A A true = one
    by B B true = one
    by A A false = none
    by B B false = none
    by A B same = none
    by B A same = none

nothing : (n : ℕ) → n ≡ n + 0
nothing n = omega arith

-- ---- one line

module _ (number : ℕ) where
  -- what a line adds to the PDUs of a side on this link
  abbrev Adds : Bool → Side → Lines → Entry → Type 0
  Adds sends side lines line =
      length (pdus_on number (pdus_of sends (lines_after 8 side lines line)))
      ≡ length (pdus_on number (pdus_of sends lines)) + length (filter (says sends) (lines_of side number (line ∷ [])))

  -- a line that says no such PDU
  adds_none : (sends : Bool) (side : Side) (lines : Lines) (line : Entry) → pdus_of sends (lines_after 8 side lines line) ≡ pdus_of sends lines
      → says sends line ≡ false → Adds sends side lines line
  adds_none sends side lines line same none =
      let same_count = ap (λ pdus. length (pdus_on number pdus)) same in
      let no_line = either (λ all. length (filter (says sends) all) ≡ 0) side number (link_named line) line refl
      (ap (λ (b : Bool). length (cond b (line ∷ []) [])) none) in
      omega (arith, same_count, no_line)

  -- of this side, or of the other
  none_if : (sends : Bool) (side : Side) (own : Bool) (lines : Lines) (line : Entry)
      → lines_after 8 side lines line ≡ (if own then line_after 8 lines line else lines)
      → pdus_of sends (line_after 8 lines line) ≡ pdus_of sends lines → says sends line ≡ false → Adds sends side lines line
  none_if sends side own lines line is same none = adds_none sends side lines line (ap (pdus_of sends) is ∙ by own) none
    where
      by : (here : Bool) → pdus_of sends (if here then line_after 8 lines line else lines) ≡ pdus_of sends lines
      by true = same
      by false = refl

  -- one PDU more
  adds_one : (pdus : List PduLine) (one : PduLine) (here : Bool) → (one.link == number) ≡ here
      → length (pdus_on number (pdus ++ one ∷ [])) ≡ length (pdus_on number pdus) + (if here then 1 else 0)
  adds_one pdus one here is =
      ap length (filter-append (λ (pdu : PduLine). pdu.link == number) pdus (one ∷ []) ∙ ap (λ (b : Bool). pdus_on number pdus ++ (if b then one ∷ [] else [])) is)
      ∙ length-append (pdus_on number pdus) (if here then one ∷ [] else [])
      ∙ ap (λ n. length (pdus_on number pdus) + n) (by here)
    where
      by : (same : Bool) → length (if same then one ∷ [] else []) ≡ (if same then 1 else 0)
      by true = refl
      by false = refl

  sent_adds : (side other : Side) (lines : Lines) (link count llid : ℕ) (body : List ℕ) (here : Bool) → (link == number) ≡ here
      → Adds true side lines (Sent other link count llid body)
  sent_adds A A lines link count llid body true is = rw is (adds_one lines.sent _ true is)
  sent_adds A A lines link count llid body false is = rw is (adds_one lines.sent _ false is)
  sent_adds B B lines link count llid body true is = rw is (adds_one lines.sent _ true is)
  sent_adds B B lines link count llid body false is = rw is (adds_one lines.sent _ false is)
  sent_adds A B lines link count llid body here is = nothing _
  sent_adds B A lines link count llid body here is = nothing _

  took_adds : (side other : Side) (lines : Lines) (link count llid : ℕ) (body : List ℕ) (here : Bool) → (link == number) ≡ here
      → Adds false side lines (Took other link count llid body)
  took_adds A A lines link count llid body true is = rw is (adds_one lines.taken _ true is)
  took_adds A A lines link count llid body false is = rw is (adds_one lines.taken _ false is)
  took_adds B B lines link count llid body true is = rw is (adds_one lines.taken _ true is)
  took_adds B B lines link count llid body false is = rw is (adds_one lines.taken _ false is)
  took_adds A B lines link count llid body here is = nothing _
  took_adds B A lines link count llid body here is = nothing _

  adds : (sends : Bool) (side : Side) (lines : Lines) (line : Entry) → Adds sends side lines line
  adds true side lines (Sent other link count llid body) = sent_adds side other lines link count llid body (link == number) refl
  adds false side lines (Took other link count llid body) = took_adds side other lines link count llid body (link == number) refl
  adds false side lines (Sent other link count llid body) =
      none_if false side (is_side other side) lines (Sent other link count llid body) refl refl refl
  adds true side lines (Took other link count llid body) =
      none_if true side (is_side other side) lines (Took other link count llid body) refl refl refl
  adds sends side lines (Fed other octets) = none_if sends side (is_side other side) lines (Fed other octets) refl refl refl
  adds sends side lines (Up other octets) = none_if sends side (is_side other side) lines (Up other octets) refl refl refl
  adds sends side lines (Opened other link handle own) = none_if sends side (is_side other side) lines (Opened other link handle own) refl refl refl
  adds sends side lines (Shut other link reason) = none_if sends side (is_side other side) lines (Shut other link reason) refl refl refl
  adds true side lines line = adds_none true side lines line refl refl
  adds false side lines line = adds_none false side lines line refl refl

  -- ---- all lines

  all_add : (sends : Bool) (side : Side) (lines : Lines) (journal : List Entry)
      → length (pdus_on number (pdus_of sends (fold (lines_after 8 side) lines journal)))
      ≡ length (pdus_on number (pdus_of sends lines)) + length (filter (says sends) (lines_of side number journal))
  all_add sends side lines [] = nothing _
  all_add sends side lines (line ∷ journal) =
      let first = filter (says sends) (lines_of side number (line ∷ [])) in
      let later = filter (says sends) (lines_of side number journal) in
      let here = adds sends side lines line in
      let rest = all_add sends side (lines_after 8 side lines line) journal in
      let both = ap (λ all. length (filter (says sends) all)) (flat_map-append (λ entry. where_named side number (link_named entry) entry) (line ∷ []) journal)
      ∙ ap length (filter-append (says sends) (lines_of side number (line ∷ [])) (lines_of side number journal))
      ∙ length-append first later in
      omega (arith, here, rest, both)

pub counted : (sends : Bool) (side : Side) (number : ℕ) (journal : List Entry)
    → length (pdus_on number (pdus_of sends (data_lines 8 side journal))) ≡ length (filter (says sends) (lines_of side number journal))
unfolding data_lines
counted sends side number journal = all_add number sends side no_lines journal ∙ by sends
  where
    by : (which : Bool) {n : ℕ} → length (pdus_on number (pdus_of which no_lines)) + n ≡ n
    by true = omega arith
    by false = omega arith
