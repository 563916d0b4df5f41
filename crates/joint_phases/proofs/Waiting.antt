-- Other procedures of a joint run wait for Clear and Secure.
use Rattle.std.proofs.Common.{◌≡◌, Bool, true, false, not, ◌&&◌, ◌||◌, List, [], ◌∷◌, Option, is_some, refl, ap, sym, subst, ◌∙◌, if◌then◌else◌}
use Rattle.std.proofs.lemmas.Bool.{and_parts, or_from, or_parts}
use Rattle.phase_pairs.specs.enc_phase.declared.classes.PduClass.{PduClass}
use Rattle.phase_pairs.specs.enc_phase.declared.classes.PduClass.TheVariants.{Data as data_class, Other, Request}
use Rattle.phase_pairs.specs.enc_phase.Phases.{is_quiet}
use Rattle.joint_controls.specs.procedure_values.declared.drafts.Draft.{Draft}
use Rattle.phase_pairs.specs.declared.joint.PhaseLink.{PhaseLink}
use Rattle.phase_pairs.specs.declared.peripheral.PhasePeripheral.{PhasePeripheral}
use Rattle.phase_pairs.specs.declared.peripheral.UnsentRequest.{UnsentRequest}
use Rattle.phase_pairs.specs.declared.peripheral.UnsentRequest.TheVariants.{Absent, First, Last}
use Rattle.phase_pairs.specs.Agreement as machine
use Rattle.phase_pairs.specs.Agreement.{is_other}
use Rattle.phase_pairs.specs.JointRun.{is_coming, is_crossing_up, is_request, keeps_request}
use Rattle.phase_pairs.specs.Peripheral.{has_unsent, is_next, is_unsent}
use Rattle.phase_pairs.proofs.Proved.{answered, one_kept}
use Rattle.joint_controls.specs.Joint.{Joint, Way, Clear, Fixed, OnAir, Taken, is_item}
use Rattle.joint_phases.specs.Classes.{class_up, draft_up, has_request, item_class}
use Rattle.joint_phases.specs.Facts.{drafts_of, item_untaken}
use Rattle.joint_phases.specs.Pairs.{has_answer, is_answered_in_quiet, keeps_one}
use Rattle.joint_phases.specs.Parts.{goes_up, wait_up, way_up, without_up}
use Rattle.joint_phases.proofs.Steps.{Shows}

-- ---- what waits at a peripheral that owes nothing, or has no first PDU

other_apart : (k : PduClass) (p : PhasePeripheral) → goes_up k p ≡ true → p.owes ≡ false → (is_other k ≡ false) × ((without_up k p).owes ≡ false)
other_apart Other p goes none = absurd (cc)
other_apart Request p goes none = (refl, none)
other_apart data_class p goes none = absurd (cc)
other_apart k p goes none = (refl, none)

no_answer : (class_of : Draft → PduClass) (drafts : List Draft) (p : PhasePeripheral) → wait_up class_of drafts p ≡ true → p.owes ≡ false → has_answer class_of drafts ≡ false
no_answer class_of [] p waits none = refl
no_answer class_of (draft ∷ drafts) p waits none =
    let h = and_parts (goes_up (class_of draft) p) _ waits in
    let apart = other_apart (class_of draft) p h.0 none in
    or_from _ _ apart.0 (no_answer class_of drafts (without_up (class_of draft) p) h.1 apart.1)

popped_none : (second : Option PduClass) (request : UnsentRequest) → is_unsent request ≡ false → is_unsent (if is_unsent request && not (is_some second) then First else request) ≡ false
popped_none second Absent h = refl
popped_none second First h = absurd (cc)
popped_none second Last h = absurd (cc)

next_not : (request : UnsentRequest) → is_next request ≡ true → is_unsent request ≡ false → ⊥
next_not First a b = absurd (cc)
next_not request a b = absurd (cc)

request_apart : (k : PduClass) (p : PhasePeripheral) → goes_up k p ≡ true → has_unsent p ≡ false → (is_request k ≡ false) × (has_unsent (without_up k p) ≡ false)
request_apart Request p goes none = absurd (next_not p.request goes none)
request_apart Other p goes none = (refl, none)
request_apart data_class p goes none = absurd (cc)
request_apart k p goes none = (refl, popped_none p.second p.request none)

no_first : (class_of : Draft → PduClass) (drafts : List Draft) (p : PhasePeripheral) → wait_up class_of drafts p ≡ true → has_unsent p ≡ false → has_request class_of drafts ≡ false
no_first class_of [] p waits none = refl
no_first class_of (draft ∷ drafts) p waits none =
    let h = and_parts (goes_up (class_of draft) p) _ waits in
    let apart = request_apart (class_of draft) p h.0 none in
    or_from _ _ apart.0 (no_first class_of drafts (without_up (class_of draft) p) h.1 apart.1)

-- ---- what is on its way

coming_is : (test : PduClass → Bool) (knows : Bool) (w : Way) → is_coming test (way_up knows w) ≡ is_item (λ item. test (item_class (class_up knows) item)) (item_untaken w)
coming_is test knows Clear = refl
coming_is test knows (Fixed item sealed) = refl
coming_is test knows (OnAir item sealed) = refl
coming_is test knows (Taken item) = refl

-- ---- the laws

not_or : (a b : Bool) → (a || not b) ≡ true → a ≡ false → b ≡ false
not_or true b h none = absurd (cc)
not_or false true h none = absurd (cc)
not_or false false h none = refl

-- a test of a state, from the same of another
from_false : (a b : Bool) → (a ≡ false → b ≡ false) → (a || not b) ≡ true
from_false true b h = refl
from_false false b h = ap not (h refl)

unkept : (a b : Bool) → not (a && b) ≡ true → not a ≡ false → b ≡ false
unkept true true h none = absurd (cc)
unkept true false h none = refl
unkept false b h none = absurd (cc)

answered_by : (awaits owes comes : Bool) → (awaits || (owes || comes)) ≡ false → (owes ≡ false) × (comes ≡ false)
answered_by awaits owes comes h = or_parts owes comes (or_parts awaits (owes || comes) h).1

pub answered_right : (s : Joint) (m : PhaseLink) → Shows s m → is_answered_in_quiet s ≡ true
answered_right s m shows =
    let is = shows.shown in
    let right : machine.is_answered_in_quiet m ≡ true = subst (λ (x : PhaseLink). machine.is_answered_in_quiet x ≡ true) (sym shows.reached.is) (answered shows.reached.events) in
    from_false (is_quiet s.central.phase) _
    (λ unquiet.
    let none = answered_by m.central.awaits m.peripheral.owes (is_coming is_other m.up) (not_or (is_quiet m.central.phase) _ right (ap is_quiet (sym is.central.phase) ∙ unquiet)) in
    or_from _ _ (no_answer (draft_up s.peripheral.knows_version) (drafts_of s.peripheral) m.peripheral is.peripheral.waits none.0)
    (sym (coming_is is_other s.peripheral.knows_version s.up) ∙ ap (is_coming is_other) (sym is.up) ∙ none.1))

pub kept_right : (s : Joint) (m : PhaseLink) → Shows s m → keeps_one s ≡ true
kept_right s m shows =
    let is = shows.shown in
    let right : machine.keeps_one m ≡ true = subst (λ (x : PhaseLink). machine.keeps_one x ≡ true) (sym shows.reached.is) (one_kept shows.reached.events) in
    from_false (not (keeps_request s.central.phase)) _
    (λ keeps.
    let none = or_parts (has_unsent m.peripheral) (is_coming is_request m.up) (unkept (keeps_request m.central.phase) (is_crossing_up m) right (ap (λ q. not (keeps_request q)) (sym is.central.phase) ∙ keeps)) in
    or_from _ _ (no_first (draft_up s.peripheral.knows_version) (drafts_of s.peripheral) m.peripheral is.peripheral.waits none.0)
    (sym (coming_is is_request s.peripheral.knows_version s.up) ∙ ap (is_coming is_request) (sym is.up) ∙ none.1))
