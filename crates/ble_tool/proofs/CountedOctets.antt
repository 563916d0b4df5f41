-- What a host receives of data is what the lines to it say, since each of them is of an open link.
use Rattle.std.proofs.Common.{◌≡◌, ℕ, ◌+◌, ◌-◌, Bool, true, false, List, [], ◌∷◌, ◌++◌, length, drop, Option, Some, None, refl, sym, ◌∙◌, ap, arith, append-nil, append_assoc}
use Rattle.std.specs.Prelude.{IsSome, if◌then◌else◌}
use Rattle.std.specs.List.{sum_by}
use Rattle.std.proofs.lemmas.List.{length-drop}
use Rattle.std.proofs.lemmas.List.Sums.{fold-append, sum_by-append, sum_by-cons}
use Rattle.acl_banks.proofs.Octets.{length-marked_octets}
use Rattle.acl_banks.specs.Packets.{marked_octets}
use Rattle.ble_base.specs.declared.roles.Side.{Side}
use Rattle.ble_base.specs.declared.roles.Side.TheVariants.{A, B}
use Rattle.journal.specs.declared.entries.Entry.{Entry}
use Rattle.journal.specs.declared.entries.Entry.TheVariants.{Fed, Up, Opened, Shut, Sent, Took}
use Rattle.journal_pdus.specs.Lawful.{IsLawful}
use Rattle.journal_pdus.specs.controller_model.Since.{starts_message}
use Rattle.journal_pdus.specs.journal_data.Delivered.{host_buffers}
use Rattle.journal_pdus.specs.journal_data.Held.{LinesAreOfOpenLinks}
use Rattle.journal_pdus.specs.journal_data.HostLines.{OpenUnder, link_under}
use Rattle.journal_pdus.specs.journal_data.Lines.{Lines, Received, data_received, line_after, lines_after, lines_of, no_lines, received_in}
use Rattle.journal_pdus.specs.journal_packets.Belonging.{is_side}
use Rattle.journal_pdus.specs.run_laws.host_view.Noted.{acl_handle, is_acl_data}
use Rattle.radio_replay.specs.Script.{Script}
use Rattle.program.specs.Counts.{data_octets, octets_for, octets_in, octets_up}
use Rattle.ble_tool.specs.Counts.{octets_received}

abbrev size_of : Received → ℕ
size_of one = length one.octets

abbrev of_lines : Lines → ℕ
of_lines lines = sum_by size_of lines.received

-- ---- one packet to a host

data_is : (found : Option ℕ) (octets : List ℕ) → IsSome found → sum_by size_of (data_received found octets) ≡ length octets - 5
data_is None octets is = absurd cc
data_is (Some link) octets is =
    let one : length (marked_octets (starts_message octets) (drop 5 octets)) ≡ length octets - 5 =
    length-marked_octets (starts_message octets) (drop 5 octets) ∙ length-drop 5 octets in
    omega (arith, one)

of_kind : (acl : Bool) (found : Option ℕ) (octets : List ℕ) → (acl ≡ true → IsSome found)
    → sum_by size_of (if acl then data_received found octets else []) ≡ (if acl then length octets - 5 else 0)
of_kind true found octets opened = data_is found octets (opened refl)
of_kind false found octets opened = refl

packet_is : (links : List OpenUnder) (octets : List ℕ) → (is_acl_data octets ≡ true → IsSome (link_under (acl_handle octets) links))
    → sum_by size_of (received_in links octets) ≡ data_octets octets
packet_is links octets opened = of_kind (is_acl_data octets) (link_under (acl_handle octets) links) octets opened

-- ---- one line

-- data to the host of this side is of an open link
abbrev OpenFor : Side → List OpenUnder → Entry → Type 0
OpenFor side links (Up other octets) =
    is_side other side ≡ true → is_acl_data octets ≡ true → IsSome (link_under (acl_handle octets) links)
OpenFor side links _ = Unit {0}

unchanged : (test : Bool) (after lines : Lines) → after.received ≡ lines.received → of_lines (if test then after else lines) ≡ of_lines lines + 0
unchanged true after lines is = let sum : of_lines after ≡ of_lines lines = ap (sum_by size_of) is in omega (arith, sum)
unchanged false after lines is = omega arith

up_is : (test : Bool) (lines : Lines) (side : Side) (octets : List ℕ)
    → (test ≡ true → is_acl_data octets ≡ true → IsSome (link_under (acl_handle octets) lines.links))
    → of_lines (if test then line_after host_buffers lines (Up side octets) else lines) ≡ of_lines lines + (if test then data_octets octets else 0)
up_is true lines side octets opened =
    sum_by-append size_of lines.received (received_in lines.links octets)
    ∙ ap (λ count. of_lines lines + count) (packet_is lines.links octets (opened refl))
up_is false lines side octets opened = omega arith

for_side : (other side : Side) (octets : List ℕ) → octets_for side other octets ≡ (if is_side other side then data_octets octets else 0)
for_side A A octets = refl
for_side A B octets = refl
for_side B A octets = refl
for_side B B octets = refl

line_is : (side : Side) (lines : Lines) (entry : Entry) → OpenFor side lines.links entry
    → of_lines (lines_after host_buffers side lines entry) ≡ of_lines lines + octets_in side entry
line_is side lines (Up other octets) opened =
    up_is (is_side other side) lines other octets opened ∙ ap (λ count. of_lines lines + count) (sym (for_side other side octets))
line_is side lines (Fed other octets) opened = unchanged (is_side other side) (line_after host_buffers lines (Fed other octets)) lines refl
line_is side lines (Opened other link handle role) opened =
    unchanged (is_side other side) (line_after host_buffers lines (Opened other link handle role)) lines refl
line_is side lines (Shut other link reason) opened =
    unchanged (is_side other side) (line_after host_buffers lines (Shut other link reason)) lines refl
line_is side lines (Sent other link number llid body) opened =
    unchanged (is_side other side) (line_after host_buffers lines (Sent other link number llid body)) lines refl
line_is side lines (Took other link number llid body) opened =
    unchanged (is_side other side) (line_after host_buffers lines (Took other link number llid body)) lines refl
line_is side lines entry opened = omega arith

-- ---- all lines

one_side : (other side : Side) → is_side other side ≡ true → other ≡ side
one_side A A is = refl
one_side A B is = absurd cc
one_side B A is = absurd cc
one_side B B is = refl

open_for : (side : Side) (journal front rest : List Entry) (entry : Entry) → LinesAreOfOpenLinks journal → journal ≡ front ++ entry ∷ rest
    → OpenFor side (lines_of host_buffers side front).links entry
open_for side journal front rest (Up other octets) held is =
    λ same acl.
    (held.received front rest side octets (is ∙ ap (λ s. front ++ Up s octets ∷ rest) (one_side other side same)) acl).is_open
open_for side journal front rest entry held is = tt

lines_next : (side : Side) (front : List Entry) (entry : Entry)
    → lines_of host_buffers side (front ++ entry ∷ []) ≡ lines_after host_buffers side (lines_of host_buffers side front) entry
unfolding lines_of
lines_next side front entry = fold-append (lines_after host_buffers side) no_lines front (entry ∷ [])

counted : (side : Side) (journal front rest : List Entry) → LinesAreOfOpenLinks journal → journal ≡ front ++ rest
    → of_lines (lines_of host_buffers side (front ++ rest)) ≡ of_lines (lines_of host_buffers side front) + octets_up side rest
counted side journal front [] held is =
    ap (λ (all : List Entry). of_lines (lines_of host_buffers side all)) (append-nil front) ∙ omega arith
counted side journal front (entry ∷ rest) held is =
    let again : (front ++ entry ∷ []) ++ rest ≡ front ++ entry ∷ rest = append_assoc front (entry ∷ []) rest in
    let more = counted side journal (front ++ entry ∷ []) rest held (is ∙ sym again) in
    let one : of_lines (lines_of host_buffers side (front ++ entry ∷ [])) ≡ of_lines (lines_of host_buffers side front) + octets_in side entry =
    ap (λ (lines : Lines). of_lines lines) (lines_next side front entry)
    ∙ line_is side (lines_of host_buffers side front) entry (open_for side journal front rest entry held is) in
    ap (λ (all : List Entry). of_lines (lines_of host_buffers side all)) (sym again) ∙ more
    ∙ omega (arith, one, sum_by-cons (octets_in side) entry rest)

none_at_first : (side : Side) → of_lines (lines_of host_buffers side []) ≡ 0
unfolding lines_of
none_at_first side = refl

pub up_is_received : (side : Side) (a b : List ℕ) (script : Script) (journal : List Entry) → IsLawful a b script journal
    → octets_up side journal ≡ octets_received side journal
up_is_received side a b script journal lawful =
    let all : octets_received side journal ≡ of_lines (lines_of host_buffers side []) + octets_up side journal =
    counted side journal [] journal lawful.held refl in
    omega (arith, all, none_at_first side)
