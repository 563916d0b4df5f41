-- An end that only said that its link is opened stays.
use Rattle.std.proofs.Common.{◌≡◌, ℕ, Option, Some, None, List, [], ◌∷◌, ◌++◌, refl, sym, ap, ◌∙◌}
use Rattle.ble_base.specs.declared.roles.Role.{Role}
use Rattle.ble_base.specs.declared.roles.Side.{Side}
use Rattle.journal.specs.declared.entries.Entry.{Entry}
use Rattle.journal.specs.declared.entries.Entry.TheVariants.{Opened}
use Rattle.journal_controls.specs.journal_ends.Answering.{answers_from, answers_in_line}
use Rattle.journal_controls.specs.journal_ends.Asked.{Words}
use Rattle.journal_controls.specs.journal_ends.Seen.{Says, Seen, asked_in_line, heard_in_line, seen_from, seen_in_line, seen_on}
use Rattle.journal_controls.specs.journal_links.LinkLines.{link_named, where_named}
use Rattle.journal_controls.specs.link_model.Facts.{stays}
use Rattle.journal_controls.specs.link_model.declared.state.Leaving.{Leaving}
use Rattle.journal_leaving.specs.Leaving.{leaving_after, leaving_from, leaving_on}
use Rattle.journal_controls.proofs.LineFolds.{named_by}
use Rattle.journal_controls.proofs.OpenedControls.{AreNone, heard_so, none_of, same_line}
use Rattle.journal_controls.proofs.journal_ends.SeenLists.{line_are_asks}
use Rattle.journal_leaving.proofs.LineFolds.{opened_line, stays_line}

stays_quiet : (words : Words) (side : Side) (number : ℕ) (front lines : List Entry) → seen_from words side number front lines ≡ []
    → answers_from words side number front lines ≡ [] → leaving_from words side number front (Some stays) lines ≡ Some stays
stays_quiet words side number front [] none unanswered = refl
stays_quiet words side number front (line ∷ lines) none unanswered =
    let both = none_of (seen_in_line words side number front line) (seen_from words side number (front ++ line ∷ []) lines) none in
    let answers = none_of (answers_in_line words side number front line) (answers_from words side number (front ++ line ∷ []) lines) unanswered in
    ap (λ before. leaving_from words side number (front ++ line ∷ []) before lines) (stays_line words side number front line both.first answers.first)
    ∙ stays_quiet words side number (front ++ line ∷ []) lines both.second answers.second

opened_in : (words : Words) (side : Side) (number handle : ℕ) (role : Role) (front : List Entry) (before : Option Leaving) (lines : List Entry)
    → seen_from words side number front lines ≡ Says (Opened side number handle role) ∷ []
    → answers_from words side number front lines ≡ [] → leaving_from words side number front before lines ≡ Some stays
opened_in words side number handle role front before [] said unanswered = absurd cc
opened_in words side number handle role front before (line ∷ lines) said unanswered =
    by (seen_in_line words side number front line) refl
    (λ later. opened_in words side number handle role (front ++ line ∷ []) (leaving_after words side number front before line) lines later answers.second)
  where
    answers : AreNone (answers_in_line words side number front line) (answers_from words side number (front ++ line ∷ []) lines)
    answers = none_of (answers_in_line words side number front line) (answers_from words side number (front ++ line ∷ []) lines) unanswered

    by : (seen : List Seen) → seen_in_line words side number front line ≡ seen
        → (seen_from words side number (front ++ line ∷ []) lines ≡ Says (Opened side number handle role) ∷ []
        → leaving_from words side number (front ++ line ∷ []) (leaving_after words side number front before line) lines ≡ Some stays)
        → leaving_from words side number front before (line ∷ lines) ≡ Some stays
    by [] none later = later (ap (λ xs. xs ++ seen_from words side number (front ++ line ∷ []) lines) (sym none) ∙ said)
    by (one ∷ more) is later =
        let whole : one ∷ (more ++ seen_from words side number (front ++ line ∷ []) lines) ≡ Says (Opened side number handle role) ∷ [] =
        ap (λ xs. xs ++ seen_from words side number (front ++ line ∷ []) lines) (sym is) ∙ said in
        let head : one ≡ Says (Opened side number handle role) = cc in
        let tail : more ++ seen_from words side number (front ++ line ∷ []) lines ≡ [] = cc in
        let both = none_of more (seen_from words side number (front ++ line ∷ []) lines) tail in
        let alone : seen_in_line words side number front line ≡ Says (Opened side number handle role) ∷ [] = is ∙ (λ i. head i ∷ both.first i) in
        let same = same_line (asked_in_line words side number front line) (heard_in_line side number front line) (where_named side number (link_named line) line) line (Opened side number handle role)
        (line_are_asks words side number front line) (heard_so side number front line) (named_by side number (link_named line) line) alone in
        ap (λ now. leaving_from words side number (front ++ line ∷ []) now lines) (ap (leaving_after words side number front before) same ∙ opened_line words side number handle role front before)
        ∙ stays_quiet words side number (front ++ line ∷ []) lines both.second answers.second

pub opened_stays : (words : Words) (side : Side) (number handle : ℕ) (role : Role) (journal : List Entry) → seen_on words side number journal ≡ Says (Opened side number handle role) ∷ []
    → answers_from words side number [] journal ≡ [] → leaving_on words side number journal ≡ Some stays
unfolding seen_on leaving_on
opened_stays words side number handle role journal said unanswered = opened_in words side number handle role [] None journal said unanswered
