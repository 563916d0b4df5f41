-- What a central has in hand to ask stays in each step but the one that enters an event.
use Rattle.std.proofs.Common.{◌≡◌, ℕ, Bool, true, false, if◌then◌else◌, Option, Some, None, refl, ap, ◌∙◌}
use Rattle.data_pdu.specs.declared.ctrl.Ctrl.{Ctrl}
use Rattle.data_pdu.specs.declared.ctrl.CtrlRead.{CtrlRead}
use Rattle.enc_phase.specs.declared.facts.PhaseFacts.{PhaseFacts}
use Rattle.enc_phase.specs.declared.facts.PhaseFacts.TheVariants.{Clear}
use Rattle.enc_phase.specs.declared.facts.Transition.TheVariants.{Ask, Refuse}
use Rattle.enc_phase.specs.Phases.{may_follow, phase_after}
use Rattle.phased_control.specs.Phased.{Phased, asking_if, encrypting, key_lacking, refused_if, with_owed_if}
use Rattle.phased_control.specs.Steps.{seen_by_procedures}
use Rattle.phased_control.specs.Taken.{Response, answered_kept, ciphered, took}
use Rattle.phased_control.proofs.Answering.{answers}
use Rattle.phased_control.proofs.Taking.{handed_ways, took_ways}

pub request_owed : (request : Option Ctrl) (s : Phased) → (with_owed_if request s).request ≡ s.request
request_owed None s = refl
request_owed (Some ctrl) s = refl

pub request_encrypting : (p : PhaseFacts) (s : Phased) → (encrypting p s).request ≡ s.request
request_encrypting Clear s = request_owed s.request (record s { phase = phase_after Ask s.phase })
request_encrypting p s = refl

pub request_kept : (slot : ℕ) (kept : Option Ctrl) (s : Phased) → (answered_kept slot kept s).request ≡ s.request
request_kept slot None s = refl
request_kept slot (Some ctrl) s = refl

pub request_took : (slot : ℕ) (response : Response) (read : CtrlRead) (s : Phased) → (took slot response read s).request ≡ s.request
request_took slot response read s =
    let t = seen_by_procedures read slot s in
    let u = ciphered response read t in
    let answered : u.request ≡ s.request = ap (λ (v : Phased). v.request) (answers t response read) in
    took_ways (λ (v : Phased). v.request ≡ s.request) slot response read s (λ may. refl) (λ may. λ keeps. refl) (λ may. λ keeps. λ full. refl)
    (λ may. λ keeps. λ full. handed_ways (λ (v : Phased). v.request ≡ s.request) slot response read s (λ code. λ over. refl) (λ lasts. λ loud. answered)
    (λ lasts. λ quiet. request_kept slot u.kept u ∙ answered))

pub request_asking : (b : Bool) (s : Phased) → (asking_if b s).request ≡ s.request
request_asking true s = request_owed s.request (record s { phase = phase_after Ask s.phase })
request_asking false s = refl

pub request_if : (b : Bool) (s t : Phased) → t.request ≡ s.request → (if b then t else s).request ≡ s.request
request_if true s t is = is
request_if false s t is = refl

pub request_lacking : (s : Phased) → (key_lacking s).request ≡ s.request
request_lacking s = by (may_follow Refuse s.phase)
  where
    by : (b : Bool) → (refused_if b s).request ≡ s.request
    by true = refl
    by false = refl
