-- Proof of `rows::wrong_completions_are_refused`: the peripheral begins no other request, and takes no indication.
use Rattle.std.proofs.Common.{◌≡◌, ℕ, List, [], ◌∷◌, ◌++◌, refl}
use Rattle.ble_base.specs.declared.procedure_kinds.Kind.TheVariants.{Map, Request}
use Rattle.ble_base.specs.declared.roles.Side.TheVariants.{A, B}
use Rattle.journal.specs.declared.entries.Entry.{Entry}
use Rattle.journal.specs.declared.entries.Entry.TheVariants.{Began, Done, Sent, Took}
use Rattle.journal_crossing.specs.journal_links.Rows.{one_link}
use Rattle.journal_crossing.specs.run_model.Rows.{one_connection_journal}
use Rattle.journal_crossing.proofs.journal_links.LinksBegun.{number_stays}
use Rattle.journal_crossing.specs.journal_collisions.Rows.{both_begun, rejection, request_octets}
use Rattle.journal_crossing.proofs.journal_collisions.Worked.{it_collides}
use Rattle.journal_outcomes.proofs.rows.wrong_completions_are_refused.Goals as goal

-- the lines before the request is sent, and as it is taken
abbrev begun : List Entry
begun = one_connection_journal ++ Began A 1 Request ∷ Began B 1 Map ∷ []

abbrev taken : Entry
taken = Took B 1 1 3 request_octets

abbrev done : Entry
done = Done A 1 Request

not_taken : (earlier later : List Entry) (count llid : ℕ) (body : List ℕ) → taken ∷ [] ≡ earlier ++ Took A 1 count llid body ∷ later → ⊥
not_taken [] later count llid body is = absurd (let same : taken ≡ Took A 1 count llid body = cc in cc)
not_taken (first ∷ []) later count llid body is = absurd cc
not_taken (first ∷ next ∷ earlier) later count llid body is = absurd cc

pub returns-clause-unanswered : goal.returns-clause-unanswered
returns-clause-unanswered c lawful =
    let answer = lawful begun (taken ∷ []) [] one_link 1 1 3 request_octets Request refl
    (number_stays 1 both_begun (taken ∷ done ∷ []) one_link it_collides.is_link) it_collides.first refl in
    not_taken answer.earlier answer.later answer.count answer.llid answer.body answer.is

pub returns-clause-untaken : goal.returns-clause-untaken
returns-clause-untaken c lawful =
    let again = lawful both_begun (done ∷ []) begun (taken ∷ []) [] one_link 1 1 3 request_octets Map Request refl refl it_collides refl refl in absurd cc

pub returns-clause-rejected : goal.returns-clause-rejected
returns-clause-rejected c lawful =
    let sent = Sent B 1 1 3 (rejection 0x0F 0x2A) in
    let refused = Took A 1 1 3 (rejection 0x0F 0x2A) in
    let again = lawful both_begun (sent ∷ refused ∷ done ∷ []) begun (taken ∷ sent ∷ refused ∷ []) [] one_link 1 1 3 request_octets Map Request refl refl it_collides refl refl in
    absurd cc
