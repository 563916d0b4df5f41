-- The pairs of phases of the machine are those of a joint run.
use Rattle.std.proofs.Common.{◌≡◌, Bool, true, false, not, ◌&&◌, ◌||◌, List, [], ◌∷◌, ◌++◌, Option, Some, None, is_none, is_some, refl, ap, sym, subst, ◌∙◌}
use Rattle.std.proofs.lemmas.Bool.{and_parts}
use Rattle.phase_pairs.specs.enc_phase.declared.classes.PduClass.{PduClass}
use Rattle.phase_pairs.specs.enc_phase.declared.classes.PduClass.TheVariants.{Data, Empty, EncReq, EncRsp, Other, PauseEncReq, PauseEncRsp, Refusal, Request, StartEncReq, StartEncRsp, Terminate}
use Rattle.phase_pairs.specs.enc_phase.declared.facts.PhaseFacts.{PhaseFacts}
use Rattle.phase_pairs.specs.enc_phase.declared.facts.PhaseFacts.TheVariants.{Asked, Clear, HalfClear, HalfKeyed, Pausing, Secure}
use Rattle.joint_controls.specs.procedure_values.declared.drafts.Draft.{Draft}
use Rattle.joint_controls.specs.procedure_stages.Closing.{is_open}
use Rattle.phase_pairs.specs.declared.joint.PhaseLink.{PhaseLink}
use Rattle.phase_pairs.specs.declared.peripheral.PhaseClosing.{PhaseClosing}
use Rattle.phase_pairs.specs.declared.peripheral.PhaseClosing.TheVariants.{Disconnects, HasNoKey, Open}
use Rattle.phase_pairs.specs.declared.peripheral.PhasePeripheral.{PhasePeripheral}
use Rattle.phase_pairs.specs.Agreement.{are_those, are_to_come, encryption_pdu, from_central, from_peripheral, is_equal, is_pair, is_paired, response_then, untaken_pdu, waiting_pdu}
use Rattle.phase_pairs.specs.Central.{is_class, is_queued}
use Rattle.phase_pairs.specs.JointRun.{is_pause_rsp_taken}
use Rattle.phase_pairs.specs.Peripheral.{is_closing_open, is_open as is_peripheral_open, is_waiting}
use Rattle.phase_pairs.proofs.Proved.{paired}
use Rattle.joint_controls.specs.Joint.{Joint}
use Rattle.joint_phases.specs.Classes.{draft_down, draft_up}
use Rattle.joint_phases.specs.Facts.{drafts_of}
use Rattle.joint_phases.specs.Pairs.{are_phases_paired, closing_of, encryption_waiting, first_of, pair_of, second_of}
use Rattle.joint_phases.specs.Parts.{IsShown, closing_down, closing_up, goes_down, goes_up, queued_then, wait_down, wait_up, without_up}
use Rattle.joint_phases.proofs.Steps.{Shows}

-- ---- links that the table reads alike

record Alike (m n : PhaseLink) : Type 0 where
  down : from_central n ≡ from_central m
  up : from_peripheral n ≡ from_peripheral m
  closed : n.central.closed ≡ m.central.closed
  opens : is_peripheral_open n.peripheral ≡ is_peripheral_open m.peripheral
  paused : is_pause_rsp_taken n.down ≡ is_pause_rsp_taken m.down

module _ (m n : PhaseLink) (same : Alike m n) where
  to_come : (down up : List PduClass) → are_to_come n down up ≡ are_to_come m down up
  to_come down up = λ i. are_those (same.closed i) (same.down i) down && are_those (not (same.opens i)) (same.up i) up

  pair_same : (c p : PhaseFacts) → is_pair c p n ≡ is_pair c p m
  pair_same Clear Clear = to_come [] []
  pair_same Clear p = refl
  pair_same (Asked false rsp kept) Clear =
      λ i. (not rsp && to_come (EncReq ∷ []) [] i) || to_come [] (response_then rsp (Refusal ∷ [])) i
  pair_same (Asked true rsp kept) Clear = refl
  pair_same (Asked false rsp kept) (Asked again taken more) = λ i. is_equal false again && to_come [] (response_then rsp []) i
  pair_same (Asked true rsp kept) (Asked again taken more) = λ i. is_equal true again && to_come [] (response_then rsp []) i
  pair_same (Asked false rsp kept) HalfKeyed = to_come [] (response_then rsp (StartEncReq ∷ []))
  pair_same (Asked true rsp kept) HalfKeyed = to_come [] (response_then rsp (StartEncReq ∷ []))
  pair_same (Asked true rsp kept) (HalfClear more) = λ i. not rsp && to_come (EncReq ∷ []) [] i
  pair_same (Asked false rsp kept) (HalfClear more) = refl
  pair_same (Asked false rsp kept) p = refl
  pair_same (Asked true rsp kept) p = refl
  pair_same HalfKeyed HalfKeyed = to_come (StartEncRsp ∷ []) []
  pair_same HalfKeyed Secure = to_come [] (StartEncRsp ∷ [])
  pair_same HalfKeyed p = refl
  pair_same Secure Secure = to_come [] []
  pair_same Secure p = refl
  pair_same (Pausing kept) Secure = to_come (PauseEncReq ∷ []) []
  pair_same (Pausing kept) (Pausing more) = to_come [] (PauseEncRsp ∷ [])
  pair_same (Pausing kept) p = refl
  pair_same (HalfClear kept) (Pausing more) = to_come (PauseEncRsp ∷ []) []
  pair_same (HalfClear kept) (HalfClear more) = λ i. to_come [] [] i && (same.paused i || same.closed i)
  pair_same (HalfClear kept) p = refl

-- ---- what waits

class_is : (a b : PduClass) → is_class a b ≡ true → a ≡ b
class_is Empty Empty h = refl
class_is Data Data h = refl
class_is Terminate Terminate h = refl
class_is EncReq EncReq h = refl
class_is EncRsp EncRsp h = refl
class_is StartEncReq StartEncReq h = refl
class_is StartEncRsp StartEncRsp h = refl
class_is PauseEncReq PauseEncReq h = refl
class_is PauseEncRsp PauseEncRsp h = refl
class_is Refusal Refusal h = refl
class_is Request Request h = refl
class_is Other Other h = refl
class_is a b h = absurd (cc)

queued_is : (k : PduClass) (queued : Option PduClass) → is_queued k queued ≡ true → queued ≡ Some k
queued_is k None h = absurd (cc)
queued_is k (Some first) h = ap (λ (x : PduClass). Some x) (class_is first k h)

none_is : (queued : Option PduClass) → is_none queued ≡ true → queued ≡ None
none_is None h = refl
none_is (Some k) h = absurd (cc)

not_waiting : (queued : Option PduClass) → not (is_some queued) ≡ true → queued ≡ None
not_waiting None h = refl
not_waiting (Some k) h = absurd (cc)

-- the encryption of a class that goes at a central
first_queued : (k : PduClass) (phase : PhaseFacts) (queued : Option PduClass) (rest : List PduClass)
    → goes_down k phase queued ≡ true → waiting_pdu (first_of rest) ≡ waiting_pdu (queued_then k queued)
    → waiting_pdu (first_of (encryption_pdu k ++ rest)) ≡ waiting_pdu queued
first_queued Other phase queued rest goes more = more
first_queued Request phase queued rest goes more = more
first_queued Empty phase queued rest goes more = absurd (cc)
first_queued Data phase queued rest goes more = absurd (cc)
first_queued Terminate phase queued rest goes more = absurd (cc)
first_queued k phase queued rest goes more = ap waiting_pdu (sym (queued_is k queued goes))

central_waiting : (class_of : Draft → PduClass) (phase : PhaseFacts) (drafts : List Draft) (queued : Option PduClass) → wait_down class_of phase drafts queued ≡ true
    → waiting_pdu (first_of (encryption_waiting class_of drafts)) ≡ waiting_pdu queued
central_waiting class_of phase [] queued waits = ap waiting_pdu (sym (none_is queued waits))
central_waiting class_of phase (draft ∷ drafts) queued waits =
    let h = and_parts (goes_down (class_of draft) phase queued) _ waits in
    first_queued (class_of draft) phase queued (encryption_waiting class_of drafts) h.0
    (central_waiting class_of phase drafts (queued_then (class_of draft) queued) h.1)

append_none : (xs : List PduClass) → xs ++ [] ≡ xs
append_none [] = refl
append_none (x ∷ xs) = ap (λ (ys : List PduClass). x ∷ ys) (append_none xs)

popped : (k : PduClass) (p : PhasePeripheral) (rest : List PduClass) → is_queued k p.first ≡ true → rest ≡ waiting_pdu p.second ++ []
    → encryption_pdu k ++ rest ≡ waiting_pdu p.first ++ waiting_pdu p.second
popped k p rest queued more =
    (λ i. encryption_pdu k ++ (more ∙ append_none (waiting_pdu p.second)) i)
    ∙ ap (λ (f : Option PduClass). waiting_pdu f ++ waiting_pdu p.second) (sym (queued_is k p.first queued))

next_waiting : (k : PduClass) (p : PhasePeripheral) (rest : List PduClass) → goes_up k p ≡ true
    → rest ≡ waiting_pdu (without_up k p).first ++ waiting_pdu (without_up k p).second
    → encryption_pdu k ++ rest ≡ waiting_pdu p.first ++ waiting_pdu p.second
next_waiting Request p rest goes more = more
next_waiting Other p rest goes more = more
next_waiting Data p rest goes more = absurd (cc)
next_waiting k p rest goes more = popped k p rest (and_parts (is_queued k p.first) _ goes).0 more

peripheral_waiting : (class_of : Draft → PduClass) (drafts : List Draft) (p : PhasePeripheral) → wait_up class_of drafts p ≡ true
    → encryption_waiting class_of drafts ≡ waiting_pdu p.first ++ waiting_pdu p.second
peripheral_waiting class_of [] p waits =
    let h = and_parts (not (is_waiting p)) _ waits in
    let second = (and_parts (is_none p.second) _ h.1).0 in
    λ i. waiting_pdu (sym (not_waiting p.first h.0) i) ++ waiting_pdu (sym (none_is p.second second) i)
peripheral_waiting class_of (draft ∷ drafts) p waits =
    let h = and_parts (goes_up (class_of draft) p) _ waits in
    next_waiting (class_of draft) p (encryption_waiting class_of drafts) h.0
    (peripheral_waiting class_of drafts (without_up (class_of draft) p) h.1)

two : (a b : Option PduClass)
    → waiting_pdu (first_of (waiting_pdu a ++ waiting_pdu b)) ++ waiting_pdu (second_of (waiting_pdu a ++ waiting_pdu b)) ≡ waiting_pdu a ++ waiting_pdu b
two None None = refl
two None (Some Terminate) = refl
two None (Some b) = refl
two (Some Terminate) None = refl
two (Some a) None = refl
two (Some Terminate) (Some Terminate) = refl
two (Some Terminate) (Some b) = refl
two (Some a) (Some Terminate) = refl
two (Some a) (Some b) = refl

closed_is : (closed : Bool) → not (is_open (closing_down closed)) ≡ closed
closed_is true = refl
closed_is false = refl

closing_is : (closing : PhaseClosing) → closing_of (closing_up closing) ≡ closing
closing_is Open = refl
closing_is Disconnects = refl
closing_is HasNoKey = refl

-- ---- the law

module _ (s : Joint) (m : PhaseLink) (is : IsShown s m) where
  up_list : encryption_waiting (draft_up s.peripheral.knows_version) (drafts_of s.peripheral) ≡ waiting_pdu m.peripheral.first ++ waiting_pdu m.peripheral.second
  up_list = peripheral_waiting (draft_up s.peripheral.knows_version) (drafts_of s.peripheral) m.peripheral is.peripheral.waits

  alike : Alike m (pair_of s)
  alike =
      record {
        down =
            (λ i. untaken_pdu (sym is.down i)
            ++ central_waiting (draft_down s.central.knows_version) m.central.phase (drafts_of s.central) m.central.queued is.central.waits i);
        up =
            (λ i. untaken_pdu (sym is.up i)
            ++ (ap (λ (xs : List PduClass). waiting_pdu (first_of xs) ++ waiting_pdu (second_of xs)) up_list ∙ two m.peripheral.first m.peripheral.second) i);
        closed = ap (λ cl. not (is_open cl)) is.central.closing ∙ closed_is m.central.closed;
        opens = ap (λ cl. is_closing_open (closing_of cl)) is.peripheral.closing ∙ ap is_closing_open (closing_is m.peripheral.closing);
        paused = ap is_pause_rsp_taken (sym is.down);
      }

pub phases_paired : (s : Joint) (m : PhaseLink) → Shows s m → are_phases_paired s ≡ true
phases_paired s m shows =
    let is = shows.shown in
    let right : is_paired m ≡ true = subst (λ (x : PhaseLink). is_paired x ≡ true) (sym shows.reached.is) (paired shows.reached.events) in
    pair_same m (pair_of s) (alike s m is) s.central.phase s.peripheral.phase
    ∙ (λ i. is_pair (is.central.phase i) (is.peripheral.phase i) m) ∙ right
