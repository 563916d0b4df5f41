-- Proof of `rows::wrong_answers`: there is one note at most, and it is of no answer.
use Rattle.std.proofs.Common.{◌≡◌, ℕ, List, [], ◌∷◌, ◌++◌, true, false, Some, ap, ◌∙◌}
use Rattle.ble_base.specs.declared.notes.Note.{Note}
use Rattle.ble_base.specs.declared.notes.Note.TheVariants.{Took}
use Rattle.data_pdu.specs.Layouts.{makers}
use Rattle.data_pdu.specs.Reading.{ctrl_of}
use Rattle.exclusive_stages.specs.declared.pdus.Exclusive.TheVariants.{Phy, Request}
use Rattle.link_outcomes.specs.Answered.{kind_answered}
use Rattle.link_outcomes.specs.Rows.{update_octets}
use Rattle.link_outcomes.proofs.rows.wrong_answers.Goals as goal

-- the one note that there is
record IsOnly (llid : ℕ) (octets body : List ℕ) : Type 0 where
  llid_is : llid ≡ 3
  body_is : octets ≡ body

abbrev octets_in : Note → List ℕ
octets_in (Took handle count llid body) = body.items
octets_in note = []

none_here : (note : Note) (earlier later : List Note) → [] ≡ earlier ++ note ∷ later → ⊥
none_here note [] later is = absurd (cc)
none_here note (first ∷ earlier) later is = absurd (cc)

only : (number llid handle count : ℕ) (octets body : List ℕ) (earlier later : List Note)
    → Took 0 number llid (record { items = octets }) ∷ [] ≡ earlier ++ Took handle count 3 (record { items = body }) ∷ later
    → IsOnly llid octets body
only number llid handle count octets body [] later is =
    let one : Took 0 number llid (record { items = octets }) ≡ Took handle count 3 (record { items = body }) = cc in
    let llids : llid ≡ 3 = cc in record { llid_is = llids; body_is = ap octets_in one }
only number llid handle count octets body (first ∷ earlier) later is =
    let rest : [] ≡ earlier ++ Took handle count 3 (record { items = body }) ∷ later = cc in absurd (none_here _ earlier later rest)

apart : ◌≡◌ (Some Request) (Some Phy) → ⊥
apart is = absurd (cc)

pub returns-clause-other : goal.returns-clause-other
unfolding ctrl_of makers
returns-clause-other c = λ is.
    let note = only 1 3 is.handle is.count update_octets is.body is.earlier is.later is.notes_are in
    apart (ap (λ (octets : List ℕ). kind_answered (ctrl_of octets)) note.body_is ∙ is.answers)

pub returns-clause-data : goal.returns-clause-data
returns-clause-data c = λ is.
    let note = only 1 2 is.handle is.count _ is.body is.earlier is.later is.notes_are in
    let no : ◌≡◌ {A = ℕ} 2 3 = note.llid_is in absurd (cc)

pub returns-clause-nothing : goal.returns-clause-nothing
returns-clause-nothing c = λ is. none_here _ is.earlier is.later is.notes_are

pub returns-clause-refused : goal.returns-clause-refused
returns-clause-refused c = λ is. let no : true ≡ false = is.goes_on in absurd (cc)
