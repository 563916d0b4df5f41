-- Lines in which a peripheral reads another change than its central sent, or takes an indication that is late.
use Rattle.std.proofs.Common.{◌≡◌, ◌≢◌, ℕ, ◌+◌, ◌<◌, ◌≤◌, false, List, [], ◌∷◌, ◌++◌, Some, refl, sym, ap, subst, ◌∙◌, arith, append_assoc, length-append}
use Rattle.std.specs.List.{sum_by}
use Rattle.std.proofs.lemmas.List.{append_cancel_left}
use Rattle.std.proofs.lemmas.List.Elements.{All-head, All-same}
use Rattle.ble_base.specs.declared.roles.Role.TheVariants.{Peripheral}
use Rattle.ble_base.specs.declared.roles.Side.TheVariants.{A}
use Rattle.instants.specs.Arrivals.{taking_of}
use Rattle.instants.specs.Track.{gap_ahead}
use Rattle.instants.specs.declared.indications.Indication.{Indication}
use Rattle.instants.specs.declared.indications.Indication.TheVariants.{Update}
use Rattle.instants.specs.declared.track.Change.{Change}
use Rattle.journal.specs.declared.entries.Entry.{Entry}
use Rattle.journal.specs.declared.entries.Entry.TheVariants.{Enter, Took}
use Rattle.link_changes.specs.Noted.{event_noted, indication_in, taking_if, takings_noted}
use Rattle.link_changes.specs.Worked.{update_at, update_octets}
use Rattle.link_changes.proofs.Notes.{takings_more}
use Rattle.journal_data.specs.Followed.{Mixed}
use Rattle.journal_data.specs.journal_links.Begun.{LinkBegun, link_numbered}
use Rattle.journal_data.specs.journal_links.Changes.{notes_said, role_on}
use Rattle.journal_data.specs.journal_links.Rows.{one_link}
use Rattle.journal_data.proofs.journal_links.LinksBegun.{number_stays}
use Rattle.journal_agreement.specs.Indications.{indications_sent}
use Rattle.link_indications.specs.InTime.{IsTakenInTime}
use Rattle.journal_agreement.specs.Taken.{AllAreReadAsSent, AllCameInTime, IsLastSent}
use Rattle.journal_agreement.proofs.BothEnds.{said_more}
use Rattle.journal_agreement.proofs.InOrder.{one_after, rest_all}

-- ---- another change

-- two lists that end with changes for different events differ
last_differs : (one other : List Change) (first last : Change) → first.at.0 ≢ last.at.0 → one ++ first ∷ [] ≡ other ++ last ∷ [] → ⊥
last_differs one other first last differ is =
    let same = append_cancel_left one (first ∷ []) (last ∷ [])
    (one_after Change one (one ++ first ∷ []) other last (record { more = first ∷ []; is = refl }) (length-append one (first ∷ [])) is) in
    let sum : 0 + first.at.0 ≡ 0 + last.at.0 = ap (sum_by (λ (change : Change). change.at.0)) same in differ (omega (arith, sum))

-- after these lines the central has sent an update for event 6, and the peripheral takes one as for another event
pub read_wrong : (mixed : Mixed) (front lines rest : List Entry) (event instant : ℕ) → mixed 1 (front ++ lines) ≡ false → event_noted (notes_said A 1 (front ++ lines)) ≡ event
    → indications_sent 1 one_link (front ++ lines) ≡ indications_sent 1 one_link front ++ update_at 6 6 ∷ []
    → indication_in 3 (update_octets instant) ≡ Some (Update 0 8 0 100 instant) → gap_ahead event (Update 0 8 0 100 instant) < 32767
    → 6 ≢ event + gap_ahead event (Update 0 8 0 100 instant) → link_numbered 1 front ≡ Some one_link
    → AllAreReadAsSent mixed (front ++ (lines ++ Took A 1 1 3 (update_octets instant) ∷ rest)) → ⊥
read_wrong mixed front lines rest event instant unmixed in_event sent reads near differs is_link all =
    let line = Took A 1 1 3 (update_octets instant) in
    let indication = Update 0 8 0 100 instant in
    let whole = number_stays 1 front (lines ++ line ∷ rest) one_link is_link in
    let last = subst (λ n. IsLastSent (taking_of n indication).change (indications_sent 1 one_link (front ++ lines))) in_event
    (all (front ++ lines) rest A 1 1 3 (update_octets instant) one_link indication (sym (append_assoc front lines (line ∷ rest))) unmixed whole refl reads
    (subst (λ n. gap_ahead n indication < 32767) (sym in_event) near)) in
    last_differs (indications_sent 1 one_link front) last.earlier (update_at 6 6) (taking_of event indication).change differs (sym sent ∙ last.is)

-- ---- an indication that is late

-- it is taken in this event, and the next event is entered
pub took_late : (front : List Entry) (event next channel other : ℕ) (body : List ℕ) (indication : Indication) (link : LinkBegun)
    → indication_in 3 body ≡ Some indication → 32767 ≤ gap_ahead event indication → link_numbered 1 front ≡ Some link → role_on link A ≡ Peripheral
    → AllCameInTime (front ++ Enter A 1 event channel ∷ Took A 1 1 3 body ∷ Enter A 1 next other ∷ []) → ⊥
took_late front event next channel other body indication link reads late is_link role all =
    let lines = Enter A 1 event channel ∷ Took A 1 1 3 body ∷ [] in
    let taking = taking_of event indication in
    let notes = notes_said A 1 front in
    let came = all (front ++ lines) [] A 1 next other link (sym (append_assoc front lines (Enter A 1 next other ∷ [])))
    (number_stays 1 front lines link is_link) role in
    let both : takings_noted Peripheral (notes_said A 1 (front ++ lines)) ≡ takings_noted Peripheral notes ++ taking ∷ [] =
    ap (takings_noted Peripheral) (said_more A 1 front lines) ∙ takings_more Peripheral notes (notes_said A 1 lines)
    ∙ ap (λ may. takings_noted Peripheral notes ++ (taking_if event may ++ [])) reads in
    let one : IsTakenInTime taking = All-head IsTakenInTime taking []
    (rest_all IsTakenInTime (takings_noted Peripheral notes) (taking ∷ []) (All-same IsTakenInTime _ _ (sym both) came)) in
    absurd (omega (arith, one, late))
