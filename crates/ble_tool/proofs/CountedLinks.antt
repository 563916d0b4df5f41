-- The highest number of a link that is opened is the number of links.
use Rattle.std.proofs.Common.{◌≡◌, ℕ, zero, suc, pred, ◌+◌, ◌≤◌, Bool, true, false, ◌==◌, ◌||◌, List, [], ◌∷◌, ◌++◌, length, Some, refl, ◌∙◌, ap, arith}
use Rattle.std.specs.Prelude.{max, fold, slice_get}
use Rattle.std.specs.List.{list_any}
use Rattle.std.proofs.lemmas.Bool.{and_parts, eqb-true}
use Rattle.std.proofs.lemmas.List.{length-append}
use Rattle.ble_base.specs.declared.roles.Side.{Side}
use Rattle.journal.specs.declared.entries.Entry.{Entry}
use Rattle.journal.specs.declared.entries.Entry.TheVariants.{Opened}
use Rattle.journal_pdus.proofs.journal_leaving.journal_links.LinksBegun.{links_more}
use Rattle.journal_pdus.specs.Lawful.{AllAreOpened, IsLawful, IsWhole}
use Rattle.journal_pdus.specs.OpenedLinks.{AreOpened, opens}
use Rattle.journal_pdus.specs.journal_links.Begun.{LinkBegun, links_begun, links_from, with_number}
use Rattle.journal_pdus.specs.journal_packets.Belonging.{is_side}
use Rattle.radio_replay.specs.Script.{Script}
use Rattle.program.specs.Counts.{last_opened, opened_in}
use Rattle.ble_tool.specs.Counts.{links_in}

-- ---- the highest number

abbrev highest : ℕ → List Entry → ℕ
highest last entries = fold (λ (most : ℕ) (entry : Entry). max most (opened_in entry)) last entries

-- which is at most as high as each of them may be
at_most : (last limit : ℕ) (entries : List Entry) → last ≤ limit
    → ((front rest : List Entry) (entry : Entry) → entries ≡ front ++ entry ∷ rest → opened_in entry ≤ limit) → highest last entries ≤ limit
at_most last limit [] low each = low
at_most last limit (entry ∷ entries) low each =
    at_most (max last (opened_in entry)) limit entries (omega (arith, low, each [] entries entry refl))
    (λ front rest other is. each (entry ∷ front) rest other (ap (λ (more : List Entry). entry ∷ more) is))

at_least : (last : ℕ) (entries : List Entry) → last ≤ highest last entries
at_least last [] = omega arith
at_least last (entry ∷ entries) = omega (arith, at_least (max last (opened_in entry)) entries)

opens_number : (side : Side) (number : ℕ) (entry : Entry) → opens side number entry ≡ true → opened_in entry ≡ number
opens_number side number (Opened other link handle role) is =
    eqb-true link number (and_parts (is_side other side) (link == number) is).1
opens_number side number entry is = absurd cc

-- and at least as high as any
found_by : (last : ℕ) (side : Side) (number : ℕ) (entry : Entry) (entries : List Entry)
    → (list_any (opens side number) entries ≡ true → number ≤ highest (max last (opened_in entry)) entries)
    → (here : Bool) → opens side number entry ≡ here → (here || list_any (opens side number) entries) ≡ true
    → number ≤ highest (max last (opened_in entry)) entries
found_by last side number entry entries later true here is =
    omega (arith, opens_number side number entry here, at_least (max last (opened_in entry)) entries)
found_by last side number entry entries later false here is = later is

found : (last : ℕ) (side : Side) (number : ℕ) (entries : List Entry) → list_any (opens side number) entries ≡ true
    → number ≤ highest last entries
found last side number [] is = absurd cc
found last side number (entry ∷ entries) is =
    found_by last side number entry entries (found (max last (opened_in entry)) side number entries) (opens side number entry) refl is

-- ---- the numbers of links

is_number : (number : ℕ) (links : List LinkBegun) (link : LinkBegun) → with_number number links ≡ Some link → number ≤ length links
is_number zero links link is = omega arith
is_number (suc number) [] link is = absurd cc
is_number (suc zero) (first ∷ links) link is = omega arith
is_number (suc (suc number)) (first ∷ links) link is = omega (arith, is_number (suc number) links link is)

last_link : (number : ℕ) (links : List LinkBegun) → length links ≡ suc number → (link : LinkBegun) × (slice_get links number ≡ Some link)
last_link number [] is = absurd cc
last_link zero (link ∷ links) is = (link, refl)
last_link (suc number) (first ∷ links) is = last_link number links (ap pred is)

-- each link that is opened has begun
begun_before : (journal front rest : List Entry) (entry : Entry) → AllAreOpened journal → journal ≡ front ++ entry ∷ rest
    → opened_in entry ≤ length (links_begun journal)
begun_before journal front rest (Opened side link handle role) opened is =
    let number = is_number link (links_begun front) _ (opened front rest side link handle role is).is_link in
    let more : length (links_begun journal) ≡ length (links_begun front ++ links_from front (Opened side link handle role ∷ rest)) =
    ap (λ lines. length (links_begun lines)) is ∙ ap length (links_more front (Opened side link handle role ∷ rest)) in
    omega (arith, number, more, length-append (links_begun front) (links_from front (Opened side link handle role ∷ rest)))
begun_before journal front rest entry opened is = omega arith

-- and each that has begun is opened
opened_then : (journal : List Entry) (count : ℕ) → length (links_begun journal) ≡ count → AreOpened journal → count ≤ last_opened journal
opened_then journal zero is begun = omega arith
opened_then journal (suc number) is begun =
    let last = last_link number (links_begun journal) is in
    found 0 (last.0).central (suc number) journal (begun (suc number) last.0 last.1)

pub last_is_count : (a b : List ℕ) (script : Script) (journal : List Entry) → IsLawful a b script journal → IsWhole script journal
    → last_opened journal ≡ links_in journal
last_is_count a b script journal lawful whole =
    let most : last_opened journal ≤ links_in journal =
    at_most 0 (links_in journal) journal (omega arith) (λ front rest entry is. begun_before journal front rest entry lawful.opened is) in
    omega (arith, most, opened_then journal (links_in journal) refl whole.begun)
