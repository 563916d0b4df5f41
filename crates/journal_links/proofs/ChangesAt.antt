-- The changes in force at the line of an event are those that the notes of the end before it give.
use Rattle.std.proofs.Common.{◌≡◌, ℕ, ◌==◌, false, List, [], ◌∷◌, ◌++◌, fold, map, refl, sym, ap, subst, ◌∙◌}
use Rattle.std.specs.Prelude.{◌||◌, if◌then◌else◌}
use Rattle.std.specs.List.{flat_map}
use Rattle.std.proofs.lemmas.Bool.{eq-eqb, eqb-false, eqb-true, false_from_ne_true, or_parts}
use Rattle.std.proofs.lemmas.Grind.{flat_map-append}
use Rattle.std.proofs.lemmas.List.Sums.{fold-append}
use Rattle.ble_base.specs.declared.counters.EventNo.{EventNo}
use Rattle.ble_base.specs.declared.notes.Note.{Note}
use Rattle.ble_base.specs.declared.notes.Note.TheVariants.{Up, Opened, Enter}
use Rattle.ble_base.specs.declared.roles.Role.{Role}
use Rattle.ble_base.specs.declared.roles.Role.TheVariants.{Central, Peripheral}
use Rattle.ble_base.specs.declared.roles.Side.{Side}
use Rattle.ble_base.specs.declared.roles.Side.TheVariants.{A, B}
use Rattle.journal.specs.declared.entries.Entry.{Entry}
use Rattle.run_laws.specs.controller_model.Links.{note_opened}
use Rattle.run_laws.specs.controller_model.Since.{note_under, notes_opened_on, notes_under, opens_under, was_opened}
use Rattle.run_laws.specs.link_model.End.{notes_of as end_notes_of}
use Rattle.run_laws.specs.link_model.Setup.{Setup as EndSetup}
use Rattle.run_laws.specs.link_model.Step.{Step as EndStep}
use Rattle.run_laws.proofs.run_model.OpenedNotes.{is_opened, opens_under as opens}
use Rattle.link_changes.specs.Noted.{changes_noted}
use Rattle.link_changes.proofs.Alike.{Alike, alike_changes, alike_more, alike_silent, alike_then}
use Rattle.journal_links.specs.Begun.{LinkBegun}
use Rattle.journal_links.specs.Changes.{changes_of, note_said, notes_said, role_by}
use Rattle.journal_links.specs.LinkLines.{line_of, lines_of}
use Rattle.journal_links.specs.Opened.{central_side}
use Rattle.journal_links.proofs.SaidLines.{other_silent, said, said_alike, said_under, under_alike}

-- ---- the role of an end

pub role_is : (role : Role) (side : Side) → role_by (central_side role side) side ≡ role
role_is Central A = refl
role_is Central B = refl
role_is Peripheral A = refl
role_is Peripheral B = refl

-- ---- no link is opened

opens_too : (handle : ℕ) (note : Note) → opens handle note ≡ false → opens_under handle note ≡ false
opens_too handle (Opened other role own peer) none =
    false_from_ne_true (other == handle) (λ same. eqb-false handle other none (sym (eqb-true other handle same)))
opens_too handle (Up packet) none = refl
opens_too handle other none = refl

pub none_opened : (handle : ℕ) (notes : List Note) → is_opened handle notes ≡ false → was_opened handle notes ≡ false
none_opened handle [] none = refl
none_opened handle (note ∷ notes) none =
    let parts = or_parts (opens handle note) (is_opened handle notes) none in
    (λ i. opens_too handle note parts.0 i || none_opened handle notes parts.1 i)

-- ---- what the lines before give

-- these notes of the end come before the line: all that it noted before the call, and what the call noted of it
pub changes_before : (side : Side) (number handle : ℕ) (link : LinkBegun) (setup : EndSetup) (past : List EndStep) (journal : List Entry) (before earlier applied : List Note)
    → link.central ≡ central_side setup.link.role side
    → lines_of side number journal ≡ map (line_of side number) (notes_under handle (before ++ earlier))
    → notes_under handle before ≡ notes_opened_on setup past → was_opened handle earlier ≡ false → flat_map (said_under handle) earlier ≡ applied
    → changes_of number link side journal ≡ changes_noted setup.link.role (end_notes_of setup past ++ applied)
changes_before side number handle link setup past journal before earlier applied central lines opened none is =
    let role = setup.link.role in
    let known = notes_opened_on setup past in
    let after = fold (note_under handle) known earlier in
    let after_is : notes_under handle (before ++ earlier) ≡ after = fold-append (note_under handle) [] before earlier ∙ ap (λ xs. fold (note_under handle) xs earlier) opened in
    let own : Alike role (known ++ applied) (end_notes_of setup past ++ applied) =
    alike_more role known (end_notes_of setup past) applied
    (alike_more role (note_opened setup.link ∷ []) [] (end_notes_of setup past) (alike_silent role [] (note_opened setup.link ∷ []) (other_silent role (note_opened setup.link) refl))) in
    let alike : Alike role (said side number after) (end_notes_of setup past ++ applied) =
    alike_then role (said side number after) after (end_notes_of setup past ++ applied) (said_alike side number role after)
    (alike_then role after (known ++ applied) (end_notes_of setup past ++ applied)
    (subst (λ xs. Alike role after (known ++ xs)) is (under_alike role handle known earlier none)) own) in
    ap (λ (central : Side). changes_noted (role_by central side) (notes_said side number journal)) central
    ∙ (λ i. changes_noted (role_is role side i) (flat_map note_said (lines i)))
    ∙ ap (λ xs. changes_noted role (said side number xs)) after_is
    ∙ alike_changes role (said side number after) (end_notes_of setup past ++ applied) alike

-- ---- the notes of the call before that of the event

pub call_parts : (handle channel : ℕ) (event : EventNo) (earlier later : List Note)
    → flat_map (said_under handle) (earlier ++ Enter handle event channel ∷ later)
    ≡ flat_map (said_under handle) earlier ++ Enter handle event channel ∷ flat_map (said_under handle) later
call_parts handle channel event earlier later =
    flat_map-append (said_under handle) earlier (Enter handle event channel ∷ later)
    ∙ ap (λ b. flat_map (said_under handle) earlier ++ ((if b then Enter handle event channel ∷ [] else []) ++ flat_map (said_under handle) later)) (eq-eqb handle handle refl)
