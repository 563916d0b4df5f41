-- What waits at a peripheral, as a PDU is queued, and as the version of the central becomes known.
use Rattle.std.proofs.Common.{◌≡◌, Bool, true, false, not, ◌&&◌, ◌||◌, List, [], ◌∷◌, ◌++◌, Option, Some, None, is_none, is_some, refl, ap, sym, subst, ◌∙◌, if◌then◌else◌}
use Rattle.std.proofs.lemmas.Bool.{and_from, and_parts}
use Rattle.data_pdu.specs.declared.ctrl.Ctrl.{Ctrl}
use Rattle.data_pdu.specs.declared.ctrl.Ctrl.TheVariants.{VersionInd}
use Rattle.phase_pairs.specs.enc_phase.declared.classes.PduClass.{PduClass}
use Rattle.phase_pairs.specs.enc_phase.declared.classes.PduClass.TheVariants.{Data, Empty, Other, Request, Terminate}
use Rattle.joint_controls.specs.procedure_values.declared.drafts.Draft.{Draft}
use Rattle.joint_controls.specs.procedure_values.Drafts.{ctrl_of_draft}
use Rattle.phase_pairs.specs.declared.peripheral.PhasePeripheral.{PhasePeripheral}
use Rattle.phase_pairs.specs.declared.peripheral.UnsentRequest.{UnsentRequest}
use Rattle.phase_pairs.specs.declared.peripheral.UnsentRequest.TheVariants.{Absent, First, Last}
use Rattle.phase_pairs.specs.JointRun.{is_request}
use Rattle.phase_pairs.specs.Peripheral.{has_unsent, is_next, is_unsent, is_waiting}
use Rattle.phase_pairs.specs.enc_phase.declared.facts.PhaseFacts.{PhaseFacts}
use Rattle.phase_pairs.specs.declared.peripheral.PhaseClosing.{PhaseClosing}
use Rattle.joint_phases.specs.Classes.{class_up, draft_up, has_request, has_version, is_version_ctrl}
use Rattle.joint_phases.specs.Parts.{goes_up, is_emptied, wait_up, without_up}
use Rattle.joint_phases.proofs.MachineFacts.{is_after}

-- a peripheral with these waiting
abbrev pub with_waits : PhasePeripheral → Option PduClass → Option PduClass → UnsentRequest → Bool → PhasePeripheral
with_waits p first second request owes = record p { first = first; second = second; request = request; owes = owes }

-- a PDU of the encryption, or the LL_TERMINATE_IND for want of a key
abbrev pub is_queued_class : PduClass → Bool
is_queued_class Request = false
is_queued_class Other = false
is_queued_class Data = false
is_queued_class Empty = false
is_queued_class k = true

module _ (class_of : Draft → PduClass) (p : PhasePeripheral) where
  abbrev pub here : List Draft → Option PduClass → Option PduClass → UnsentRequest → Bool → Type 0
  here drafts first second request owes = wait_up class_of drafts (with_waits p first second request owes) ≡ true

  -- ---- nothing waits

  none_goes : (k : PduClass) → goes_up k (with_waits p None None Absent false) ≡ true → ⊥
  none_goes Request goes = absurd (cc)
  none_goes Other goes = absurd (cc)
  none_goes k goes = absurd (cc)

  pub nothing_waits : (drafts : List Draft) → here drafts None None Absent false → drafts ≡ []
  nothing_waits [] waits = refl
  nothing_waits (draft ∷ drafts) waits =
      absurd (none_goes (class_of draft) (and_parts (goes_up (class_of draft) (with_waits p None None Absent false)) _ waits).0)

  -- ---- a procedure begins

  abbrev begun : Option PduClass → UnsentRequest
  begun first = (if is_some first then Last else First)

  begins_over : (k : PduClass) (first second : Option PduClass) (owes : Bool) (draft : Draft) (drafts : List Draft)
      → goes_up k (with_waits p first second Absent owes) ≡ true
      → ((f s : Option PduClass) (o : Bool) → here drafts f s Absent o → here (drafts ++ draft ∷ []) f s (begun f) o)
      → wait_up class_of drafts (without_up k (with_waits p first second Absent owes)) ≡ true
      → (goes_up k (with_waits p first second (begun first) owes) ≡ true)
      × (wait_up class_of (drafts ++ draft ∷ []) (without_up k (with_waits p first second (begun first) owes)) ≡ true)
  begins_over Request first second owes draft drafts goes more waits = absurd (cc)
  begins_over Data first second owes draft drafts goes more waits = absurd (cc)
  begins_over Other first second owes draft drafts goes more waits = (goes, more first second false waits)
  begins_over k None second owes draft drafts goes more waits = absurd (cc)
  begins_over k (Some pdu) None owes draft drafts goes more waits = (goes, more None None owes waits)
  begins_over k (Some pdu) (Some next) owes draft drafts goes more waits = (goes, more (Some next) None owes waits)

  emptied_begins : (first second : Option PduClass) (owes : Bool) → is_emptied (with_waits p first second Absent owes) ≡ true
      → (is_next (begun first) ≡ true) × (is_emptied (with_waits p first second Absent owes) ≡ true)
  emptied_begins None second owes is = (refl, is)
  emptied_begins (Some pdu) second owes is = absurd (cc)

  request_goes : (k : PduClass) (first second : Option PduClass) (request : UnsentRequest) (owes : Bool) → k ≡ Request
      → (is_next request ≡ true) × (is_emptied (with_waits p first second Absent owes) ≡ true)
      → goes_up k (with_waits p first second request owes)
      && is_emptied (without_up k (with_waits p first second request owes)) ≡ true
  request_goes k first second request owes is both = rw is (and_from _ _ both.0 both.1)

  pub begins_more : (drafts : List Draft) (first second : Option PduClass) (owes : Bool) (draft : Draft) → class_of draft ≡ Request
      → here drafts first second Absent owes → here (drafts ++ draft ∷ []) first second (begun first) owes
  begins_more [] first second owes draft is waits =
      request_goes (class_of draft) first second (begun first) owes is (emptied_begins first second owes waits)
  begins_more (d ∷ drafts) first second owes draft is waits =
      let h = and_parts (goes_up (class_of d) (with_waits p first second Absent owes)) _ waits in
      let both = begins_over (class_of d) first second owes draft drafts h.0 (λ f s o. begins_more drafts f s o draft is) h.1 in
      and_from _ _ both.0 both.1

  -- ---- an answer is queued where no PDU of the encryption waits

  owes_over : (k : PduClass) (request : UnsentRequest) (draft : Draft) (drafts : List Draft) → goes_up k (with_waits p None None request false) ≡ true
      → ((r : UnsentRequest) → here drafts None None r false → here (drafts ++ draft ∷ []) None None r true)
      → wait_up class_of drafts (without_up k (with_waits p None None request false)) ≡ true
      → (goes_up k (with_waits p None None request true) ≡ true)
      × (wait_up class_of (drafts ++ draft ∷ []) (without_up k (with_waits p None None request true)) ≡ true)
  owes_over Request request draft drafts goes more waits = (goes, more Absent waits)
  owes_over Other request draft drafts goes more waits = absurd (cc)
  owes_over k request draft drafts goes more waits = absurd (cc)

  answer_goes : (k : PduClass) (request : UnsentRequest) → k ≡ Other → is_emptied (with_waits p None None request false) ≡ true
      → goes_up k (with_waits p None None request true)
      && is_emptied (without_up k (with_waits p None None request true)) ≡ true
  answer_goes k request is emptied = rw is emptied

  pub owes_more : (drafts : List Draft) (request : UnsentRequest) (draft : Draft) → class_of draft ≡ Other
      → here drafts None None request false → here (drafts ++ draft ∷ []) None None request true
  owes_more [] request draft is waits = answer_goes (class_of draft) request is waits
  owes_more (d ∷ drafts) request draft is waits =
      let h = and_parts (goes_up (class_of d) (with_waits p None None request false)) _ waits in
      let both = owes_over (class_of d) request draft drafts h.0 (λ r. owes_more drafts r draft is) h.1 in
      and_from _ _ both.0 both.1

  -- ---- a PDU of the encryption is queued where none waits

  emptied_queued : (k : PduClass) (request : UnsentRequest) (owes : Bool) → is_queued_class k ≡ true → is_emptied (with_waits p None None request owes) ≡ true
      → goes_up k (with_waits p (Some k) None request owes)
      && is_emptied (without_up k (with_waits p (Some k) None request owes)) ≡ true
  emptied_queued Terminate Absent false is emptied = refl
  emptied_queued k Absent true is emptied = absurd (cc)
  emptied_queued k First owes is emptied = absurd (cc)
  emptied_queued k Last owes is emptied = absurd (cc)
  emptied_queued Request Absent false is emptied = absurd (cc)
  emptied_queued Other Absent false is emptied = absurd (cc)
  emptied_queued Data Absent false is emptied = absurd (cc)
  emptied_queued Empty Absent false is emptied = absurd (cc)
  emptied_queued k Absent false is emptied = refl

  queues_over : (k : PduClass) (request : UnsentRequest) (owes : Bool) (pdu : PduClass) (draft : Draft) (drafts : List Draft)
      → goes_up k (with_waits p None None request owes) ≡ true
      → ((r : UnsentRequest) (o : Bool) → here drafts None None r o → here (drafts ++ draft ∷ []) (Some pdu) None r o)
      → wait_up class_of drafts (without_up k (with_waits p None None request owes)) ≡ true
      → (goes_up k (with_waits p (Some pdu) None request owes) ≡ true)
      × (wait_up class_of (drafts ++ draft ∷ []) (without_up k (with_waits p (Some pdu) None request owes)) ≡ true)
  queues_over Request request owes pdu draft drafts goes more waits = (goes, more Absent owes waits)
  queues_over Other request owes pdu draft drafts goes more waits = (goes, more request false waits)
  queues_over k request owes pdu draft drafts goes more waits = absurd (cc)

  first_goes : (k pdu : PduClass) (request : UnsentRequest) (owes : Bool) → k ≡ pdu → is_queued_class pdu ≡ true → is_emptied (with_waits p None None request owes) ≡ true
      → goes_up k (with_waits p (Some pdu) None request owes)
      && is_emptied (without_up k (with_waits p (Some pdu) None request owes)) ≡ true
  first_goes k pdu request owes is waits emptied = rw is (emptied_queued pdu request owes waits emptied)

  pub queues_first : (drafts : List Draft) (request : UnsentRequest) (owes : Bool) (pdu : PduClass) (draft : Draft) → class_of draft ≡ pdu → is_queued_class pdu ≡ true
      → here drafts None None request owes → here (drafts ++ draft ∷ []) (Some pdu) None request owes
  queues_first [] request owes pdu draft is one waits = first_goes (class_of draft) pdu request owes is one waits
  queues_first (d ∷ drafts) request owes pdu draft is one waits =
      let h = and_parts (goes_up (class_of d) (with_waits p None None request owes)) _ waits in
      let both = queues_over (class_of d) request owes pdu draft drafts h.0 (λ r o. queues_first drafts r o pdu draft is one) h.1 in
      and_from _ _ both.0 both.1

  -- ---- or after one that waits, where no first PDU is after that

  second_over : (k : PduClass) (first : PduClass) (request : UnsentRequest) (owes : Bool) (pdu : PduClass) (draft : Draft) (drafts : List Draft)
      → not (is_after request) ≡ true → class_of draft ≡ pdu → is_queued_class pdu ≡ true
      → goes_up k (with_waits p (Some first) None request owes) ≡ true
      → ((r : UnsentRequest) (o : Bool) → not (is_after r) ≡ true → here drafts (Some first) None r o → here (drafts ++ draft ∷ []) (Some first) (Some pdu) r o)
      → wait_up class_of drafts (without_up k (with_waits p (Some first) None request owes)) ≡ true
      → (goes_up k (with_waits p (Some first) (Some pdu) request owes) ≡ true)
      × (wait_up class_of (drafts ++ draft ∷ []) (without_up k (with_waits p (Some first) (Some pdu) request owes)) ≡ true)
  second_over Request first request owes pdu draft drafts apart is one goes more waits = (goes, more Absent owes refl waits)
  second_over Other first request owes pdu draft drafts apart is one goes more waits = (goes, more request false apart waits)
  second_over Data first request owes pdu draft drafts apart is one goes more waits = absurd (cc)
  second_over k first Last owes pdu draft drafts apart is one goes more waits = absurd (cc)
  second_over k first First owes pdu draft drafts apart is one goes more waits = absurd (not_next _ goes)
    where
      not_next : (a : Bool) → (a && false) ≡ true → ⊥
      not_next true h = absurd (cc)
      not_next false h = absurd (cc)
  second_over k first Absent true pdu draft drafts apart is one goes more waits = absurd (not_next _ goes)
    where
      not_next : (a : Bool) → (a && false) ≡ true → ⊥
      not_next true h = absurd (cc)
      not_next false h = absurd (cc)
  second_over k first Absent false pdu draft drafts apart is one goes more waits = (goes, queues_first drafts Absent false pdu draft is one waits)

  pub queues_second : (drafts : List Draft) (first : PduClass) (request : UnsentRequest) (owes : Bool) (pdu : PduClass) (draft : Draft)
      → class_of draft ≡ pdu → is_queued_class pdu ≡ true → not (is_after request) ≡ true
      → here drafts (Some first) None request owes → here (drafts ++ draft ∷ []) (Some first) (Some pdu) request owes
  queues_second [] first request owes pdu draft is one apart waits = absurd (cc)
  queues_second (d ∷ drafts) first request owes pdu draft is one apart waits =
      let h = and_parts (goes_up (class_of d) (with_waits p (Some first) None request owes)) _ waits in
      let both = second_over (class_of d) first request owes pdu draft drafts apart is one h.0 (λ r o a. queues_second drafts first r o pdu draft is one a) h.1 in
      and_from _ _ both.0 both.1

-- ---- what does not matter to what waits

abbrev pub with_state : PhasePeripheral → PhaseFacts → Bool → PhaseClosing → PhasePeripheral
with_state p phase asks_key closing = record p { phase = phase; asks_key = asks_key; closing = closing }

state_goes : (k : PduClass) (p : PhasePeripheral) (phase : PhaseFacts) (asks_key : Bool) (closing : PhaseClosing)
    → (goes_up k (with_state p phase asks_key closing) ≡ goes_up k p)
    × (without_up k (with_state p phase asks_key closing) ≡ with_state (without_up k p) phase asks_key closing)
state_goes Request p phase asks_key closing = (refl, refl)
state_goes Other p phase asks_key closing = (refl, refl)
state_goes Data p phase asks_key closing = (refl, refl)
state_goes k p phase asks_key closing = (refl, refl)

pub state_waits : (class_of : Draft → PduClass) (drafts : List Draft) (p : PhasePeripheral) (phase : PhaseFacts) (asks_key : Bool) (closing : PhaseClosing)
    → wait_up class_of drafts p ≡ true → wait_up class_of drafts (with_state p phase asks_key closing) ≡ true
state_waits class_of [] p phase asks_key closing waits = waits
state_waits class_of (draft ∷ drafts) p phase asks_key closing waits =
    let h = and_parts (goes_up (class_of draft) p) _ waits in
    let same = state_goes (class_of draft) p phase asks_key closing in
    and_from _ _ (same.0 ∙ h.0) (rw same.1 (state_waits class_of drafts (without_up (class_of draft) p) phase asks_key closing h.1))

-- ---- a PDU of the encryption is queued, unless the link is to end

none_is : (o : Option PduClass) → is_none o ≡ true → o ≡ None
none_is None h = refl
none_is (Some k) h = absurd (cc)

module _ (class_of : Draft → PduClass) (p : PhasePeripheral) (drafts : List Draft) (k : PduClass) (draft : Draft) (class : class_of draft ≡ k) (one : is_queued_class k ≡ true)
    (waits : wait_up class_of drafts p ≡ true) (after : is_none p.first ≡ true → is_none p.second ≡ true)
    (room : is_none p.first ≡ false → is_none p.second ≡ true) (request : is_none p.first ≡ false → not (is_after p.request) ≡ true) where
  abbrev queued_at : Option PduClass → PhasePeripheral
  queued_at first = (if is_some first then record p { second = Some k } else record p { first = Some k })

  queued_by : (first : Option PduClass) → p.first ≡ first → wait_up class_of (drafts ++ draft ∷ []) (queued_at first) ≡ true
  queued_by None at =
      let second : p.second ≡ None = none_is p.second (after (ap is_none at)) in
      let h : here class_of p drafts None None p.request p.owes =
      subst (λ (s : Option PduClass). here class_of p drafts None s p.request p.owes) second
      (subst (λ (f : Option PduClass). here class_of p drafts f p.second p.request p.owes) at waits) in
      let done = queues_first class_of p drafts p.request p.owes k draft class one h in
      subst (λ (s : Option PduClass). here class_of p (drafts ++ draft ∷ []) (Some k) s p.request p.owes) (sym second) done
  queued_by (Some first) at =
      let second : p.second ≡ None = none_is p.second (room (ap is_none at)) in
      let h : here class_of p drafts (Some first) None p.request p.owes =
      subst (λ (s : Option PduClass). here class_of p drafts (Some first) s p.request p.owes) second
      (subst (λ (f : Option PduClass). here class_of p drafts f p.second p.request p.owes) at waits) in
      let done = queues_second class_of p drafts first p.request p.owes k draft class one (request (ap is_none at)) h in
      subst (λ (f : Option PduClass). here class_of p (drafts ++ draft ∷ []) f (Some k) p.request p.owes) (sym at) done

  pub queues_more : wait_up class_of (drafts ++ draft ∷ []) (if is_waiting p then record p { second = Some k } else record p { first = Some k }) ≡ true
  queues_more = queued_by p.first refl

-- ---- no first PDU waits where none is among the drafts

popped_absent : (second : Option PduClass) (request : UnsentRequest) → (if is_unsent request && not (is_some second) then First else request) ≡ Absent → request ≡ Absent
popped_absent second Absent h = refl
popped_absent (Some k) First h = absurd (cc)
popped_absent None First h = absurd (cc)
popped_absent (Some k) Last h = absurd (cc)
popped_absent None Last h = absurd (cc)

absent_after : (k : PduClass) (p : PhasePeripheral) → is_request k ≡ false → (without_up k p).request ≡ Absent → p.request ≡ Absent
absent_after Request p apart h = absurd (cc)
absent_after Other p apart h = h
absent_after k p apart h = popped_absent p.second p.request h

not_unsent : (request : UnsentRequest) → not (is_unsent request) ≡ true → request ≡ Absent
not_unsent Absent h = refl
not_unsent First h = absurd (cc)
not_unsent Last h = absurd (cc)

or_parts_false : (a b : Bool) → (a || b) ≡ false → (a ≡ false) × (b ≡ false)
or_parts_false true b h = absurd (cc)
or_parts_false false b h = (refl, h)

pub no_first_waits : (class_of : Draft → PduClass) (drafts : List Draft) (p : PhasePeripheral) → has_request class_of drafts ≡ false
    → wait_up class_of drafts p ≡ true → p.request ≡ Absent
no_first_waits class_of [] p none waits =
    let one = (and_parts (not (is_waiting p)) _ waits).1 in
    let two = (and_parts (is_none p.second) _ one).1 in
    not_unsent p.request (and_parts (not (is_unsent p.request)) (not p.owes) two).0
no_first_waits class_of (draft ∷ drafts) p none waits =
    let n = or_parts_false (is_request (class_of draft)) (has_request class_of drafts) none in
    let h = and_parts (goes_up (class_of draft) p) _ waits in
    absent_after (class_of draft) p n.0 (no_first_waits class_of drafts (without_up (class_of draft) p) n.1 h.1)

-- ---- the version of the central is known from now on

class_same : (ctrl : Ctrl) (knows now : Bool) → is_version_ctrl ctrl ≡ false → class_up now ctrl ≡ class_up knows ctrl
class_same (VersionInd version company sub) knows now apart = absurd (cc)
class_same ctrl knows now apart = refl

-- where no LL_VERSION_IND waits
pub unversioned : (drafts : List Draft) (p : PhasePeripheral) (knows now : Bool) → has_version drafts ≡ false
    → wait_up (draft_up knows) drafts p ≡ true → wait_up (draft_up now) drafts p ≡ true
unversioned [] p knows now none waits = waits
unversioned (draft ∷ drafts) p knows now none waits =
    let n = or_parts_false (is_version_ctrl (ctrl_of_draft draft 0 0)) (has_version drafts) none in
    let same = class_same (ctrl_of_draft draft 0 0) knows now n.0 in
    let h = and_parts (goes_up (draft_up knows draft) p) _ waits in
    rw same (and_from _ _ h.0 (unversioned drafts (without_up (draft_up knows draft) p) knows now n.1 h.1))

-- the own one is the only one that waits: it is the answer from now on
crosses_by : (ctrl : Ctrl) (p : PhasePeripheral) (request : UnsentRequest) (drafts : List Draft) → goes_up (class_up false ctrl) (with_waits p None None request false) ≡ true
    → wait_up (draft_up false) drafts (without_up (class_up false ctrl) (with_waits p None None request false)) ≡ true
    → is_version_ctrl ctrl || has_version drafts ≡ true
    → (goes_up (class_up true ctrl) (with_waits p None None Absent true) && wait_up (draft_up true) drafts (without_up (class_up true ctrl) (with_waits p None None Absent true))) ≡ true
crosses_by (VersionInd version company sub) p request drafts goes waits has = rw (nothing_waits (draft_up false) p drafts waits) refl
crosses_by ctrl p request drafts goes waits has = by (class_up false ctrl) goes waits
  where
    none_version : (drafts : List Draft) → drafts ≡ [] → has_version drafts ≡ true → ⊥
    none_version [] at h = absurd (cc)
    none_version (draft ∷ drafts) at h = absurd (cc)

    by : (k : PduClass) → goes_up k (with_waits p None None request false) ≡ true → wait_up (draft_up false) drafts (without_up k (with_waits p None None request false)) ≡ true
        → (goes_up (class_up true ctrl) (with_waits p None None Absent true) && wait_up (draft_up true) drafts (without_up (class_up true ctrl) (with_waits p None None Absent true))) ≡ true
    by Request goes waits = absurd (none_version drafts (nothing_waits (draft_up false) p drafts waits) has)
    by Other goes waits = absurd (cc)
    by k goes waits = absurd (cc)

pub crosses : (drafts : List Draft) (p : PhasePeripheral) (request : UnsentRequest) → has_version drafts ≡ true
    → wait_up (draft_up false) drafts (with_waits p None None request false) ≡ true
    → wait_up (draft_up true) drafts (with_waits p None None Absent true) ≡ true
crosses [] p request has waits = absurd (cc)
crosses (draft ∷ drafts) p request has waits =
    let h = and_parts (goes_up (draft_up false draft) (with_waits p None None request false)) _ waits in
    crosses_by (ctrl_of_draft draft 0 0) p request drafts h.0 h.1 has

-- an own LL_VERSION_IND that waits, while that of the central is not known, is an unsent first PDU
unsent_popped : (second : Option PduClass) (request : UnsentRequest) → is_unsent (if is_unsent request && not (is_some second) then First else request) ≡ true → is_unsent request ≡ true
unsent_popped second First h = refl
unsent_popped second Last h = refl
unsent_popped second Absent h = absurd (cc)

unsent_before : (k : PduClass) (p : PhasePeripheral) → goes_up k p ≡ true → is_unsent (without_up k p).request ≡ true → is_unsent p.request ≡ true
unsent_before Request p goes h = absurd (cc)
unsent_before Other p goes h = h
unsent_before k p goes h = unsent_popped p.second p.request h

next_unsent : (request : UnsentRequest) → is_next request ≡ true → is_unsent request ≡ true
next_unsent First h = refl
next_unsent request h = absurd (cc)

first_unsent : (ctrl : Ctrl) (p : PhasePeripheral) → is_version_ctrl ctrl ≡ true → goes_up (class_up false ctrl) p ≡ true → is_unsent p.request ≡ true
first_unsent (VersionInd version company sub) p is goes = next_unsent p.request goes
first_unsent ctrl p is goes = absurd (cc)

pub version_unsent : (drafts : List Draft) (p : PhasePeripheral) → has_version drafts ≡ true → wait_up (draft_up false) drafts p ≡ true → has_unsent p ≡ true
version_unsent [] p has waits = absurd (cc)
version_unsent (draft ∷ drafts) p has waits = by (is_version_ctrl (ctrl_of_draft draft 0 0)) refl has (version_unsent drafts (without_up (draft_up false draft) p))
  where
    h : (goes_up (draft_up false draft) p ≡ true) × (wait_up (draft_up false) drafts (without_up (draft_up false draft) p) ≡ true)
    h = and_parts (goes_up (draft_up false draft) p) _ waits

    by : (b : Bool) → is_version_ctrl (ctrl_of_draft draft 0 0) ≡ b → (is_version_ctrl (ctrl_of_draft draft 0 0) || has_version drafts) ≡ true
        → (has_version drafts ≡ true → wait_up (draft_up false) drafts (without_up (draft_up false draft) p) ≡ true → has_unsent (without_up (draft_up false draft) p) ≡ true)
        → has_unsent p ≡ true
    by true at one rest = first_unsent (ctrl_of_draft draft 0 0) p at h.0
    by false at one rest = unsent_before (draft_up false draft) p h.0 (rest (ap (λ b. b || has_version drafts) (sym at) ∙ one) h.1)
