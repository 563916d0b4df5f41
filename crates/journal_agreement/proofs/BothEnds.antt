-- Both ends of a link enter an event alike, where the indications in force at each are the first that the central sent.
use Rattle.std.proofs.Common.{◌≡◌, ℕ, ◌≤◌, List, ◌∷◌, ◌++◌, length, map, take, Some, sym, ap, subst, ◌∙◌}
use Rattle.std.specs.List.{flat_map}
use Rattle.std.proofs.Math.Nat.{min-le_right}
use Rattle.std.proofs.lemmas.Grind.{flat_map-append}
use Rattle.std.proofs.lemmas.List.{length-take, map-append, take-append-le}
use Rattle.ble_base.specs.declared.roles.Role.{Role}
use Rattle.ble_base.specs.declared.roles.Role.TheVariants.{Central}
use Rattle.ble_base.specs.declared.roles.Side.{Side}
use Rattle.instants.specs.Arrivals.{Taking}
use Rattle.instants.specs.Parameters.{params_in}
use Rattle.instants.specs.declared.track.Change.{Change}
use Rattle.journal.specs.declared.entries.Entry.{Entry}
use Rattle.journal.specs.declared.entries.Entry.TheVariants.{Enter}
use Rattle.link_changes.specs.Noted.{event_noted, indications_noted, takings_from, takings_noted}
use Rattle.link_changes.proofs.Notes.{takings_more}
use Rattle.journal_data.specs.Followed.{Mixed}
use Rattle.journal_data.specs.journal_links.Begun.{LinkBegun}
use Rattle.journal_data.specs.journal_links.Changes.{changes_of, note_said, notes_said}
use Rattle.journal_data.specs.journal_links.Entered.{AllAreEntered}
use Rattle.journal_data.specs.journal_links.LinkLines.{link_named, lines_of, where_named}
use Rattle.journal_data.specs.link_model.Setup.{first_params}
use Rattle.journal_data.proofs.journal_links.EnterLines.{in_one_turn, one_link}
use Rattle.journal_agreement.specs.Indications.{AllAreEnteredAlike, AllFollowCentral, FollowsCentral, indications_sent}

-- ---- the first indications that were sent stay the first

pub said_more : (side : Side) (number : ℕ) (front rest : List Entry)
    → notes_said side number (front ++ rest) ≡ notes_said side number front ++ notes_said side number rest
said_more side number front rest =
    ap (flat_map note_said) (flat_map-append (λ line. where_named side number (link_named line) line) front rest)
    ∙ flat_map-append note_said (lines_of side number front) (lines_of side number rest)

-- the indications of an end by more lines
pub indications_more : (role : Role) (side : Side) (number : ℕ) (front rest : List Entry)
    → indications_noted role (notes_said side number (front ++ rest))
    ≡ indications_noted role (notes_said side number front)
    ++ map (λ (taking : Taking). taking.change) (takings_from role (event_noted (notes_said side number front)) (notes_said side number rest))
indications_more role side number front rest =
    let notes = notes_said side number front in
    let more = notes_said side number rest in
    ap (indications_noted role) (said_more side number front rest) ∙ ap (map (λ (taking : Taking). taking.change)) (takings_more role notes more)
    ∙ map-append (λ (taking : Taking). taking.change) (takings_noted role notes) (takings_from role (event_noted notes) more)

pub sent_more : (number : ℕ) (link : LinkBegun) (front rest : List Entry)
    → indications_sent number link (front ++ rest)
    ≡ indications_sent number link front
    ++ map (λ (taking : Taking). taking.change) (takings_from Central (event_noted (notes_said link.central number front)) (notes_said link.central number rest))
sent_more number link front rest = indications_more Central link.central number front rest

first_sent : (number : ℕ) (link : LinkBegun) (front rest : List Entry) (count : ℕ) → count ≤ length (indications_sent number link front)
    → take count (indications_sent number link (front ++ rest)) ≡ take count (indications_sent number link front)
first_sent number link front rest count few =
    ap (take count) (sent_more number link front rest) ∙ take-append-le count (indications_sent number link front) _ few

-- an end follows no more than were sent
few_followed : (number : ℕ) (link : LinkBegun) (side : Side) (front : List Entry) → FollowsCentral number link side front
    → length (changes_of number link side front) ≤ length (indications_sent number link front)
few_followed number link side front follows =
    let changes = changes_of number link side front in
    let sent = indications_sent number link front in
    subst (λ n. n ≤ length sent) (sym (ap (λ (all : List Change). length all) follows ∙ length-take (length changes) sent)) (min-le_right (length changes) (length sent))

-- by all lines of a journal
followed : (number : ℕ) (link : LinkBegun) (side : Side) (journal front rest : List Entry) → journal ≡ front ++ rest → FollowsCentral number link side front
    → changes_of number link side front ≡ take (length (changes_of number link side front)) (indications_sent number link journal)
followed number link side journal front rest is follows =
    let count = length (changes_of number link side front) in
    follows ∙ sym (first_sent number link front rest count (few_followed number link side front follows)) ∙ ap (λ all. take count (indications_sent number link all)) (sym is)

-- ---- both ends

pub entered_alike : (mixed : Mixed) (journal : List Entry) → AllAreEntered journal → AllFollowCentral mixed journal → AllAreEnteredAlike mixed journal
entered_alike mixed journal entered follows front rest later last side other number event channel too link is is_too unmixed unmixed_too is_link count =
    let one = entered front rest side number event channel is in
    let two = entered later last other number event too is_too in
    let enters = Enter side number event channel ∷ rest in
    let enters_too = Enter other number event too ∷ last in
    let own : one.link ≡ link = let same : Some one.link ≡ Some link = sym one.is_link ∙ is_link in cc in
    let far : two.link ≡ link = sym (one_link number journal front later enters enters_too one.link two.link is is_too one.is_link two.is_link) ∙ own in
    let is_link_too = two.is_link ∙ ap Some far in
    let same : changes_of number link side front ≡ changes_of number link other later =
    followed number link side journal front enters is (follows front rest side number event channel link is unmixed is_link)
    ∙ ap (λ n. take n (indications_sent number link journal)) count
    ∙ sym (followed number link other journal later enters_too is_too (follows later last other number event too link is_too unmixed_too is_link_too)) in
    let both = in_one_turn side other number event channel too journal front later enters enters_too is is_too one two
    (λ any any_is. let equal : any ≡ link = (let same_link : Some any ≡ Some link = sym any_is ∙ is_link in cc) in
    subst (λ l. changes_of number l side front ≡ changes_of number l other later) (sym equal) same) in
    record {
      turn = both.0;
      one_channel = both.1;
      params = ap (λ changes. params_in (first_params link.fields) changes event) same;
    }
