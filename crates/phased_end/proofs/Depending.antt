-- A step depends on what an end holds, and neither on what it sent nor on whether it knows the version of its peer.
use Rattle.std.proofs.Common.{◌≡◌, ℕ, nat_le, Bool, true, false, ◌&&◌, ◌||◌, if◌then◌else◌, [], Option, Some, None, is_none, refl, sym, ap, ◌∙◌}
use Rattle.ble_base.specs.ErrorCodes.{memory_capacity_exceeded, mic_failure, pin_or_key_missing}
use Rattle.data_pdu.specs.declared.ctrl.Ctrl.{Ctrl}
use Rattle.data_pdu.specs.declared.ctrl.Ctrl.TheVariants.{PauseEncReq, RejectExtInd, StartEncReq, TerminateInd}
use Rattle.data_pdu.specs.declared.ctrl.CtrlRead.{CtrlRead}
use Rattle.data_pdu.specs.declared.ctrl.CtrlRead.TheVariants.{Bare, Known, Unknown}
use Rattle.enc_phase.specs.declared.classes.PduClass.TheVariants.{Data}
use Rattle.enc_phase.specs.declared.facts.PhaseFacts.{PhaseFacts}
use Rattle.enc_phase.specs.declared.facts.PhaseFacts.TheVariants.{Clear}
use Rattle.enc_phase.specs.declared.facts.Transition.TheVariants.{Ask as AskTransition, Pause, Refuse}
use Rattle.enc_phase.specs.Phases.{may_follow, phase_after, phase_starting}
use Rattle.enc_phase.specs.Taking.{allows, phase_taking}
use Rattle.procedures.specs.procedure_stages.Opcodes.{enc_req_opcode}
use Rattle.procedures.specs.procedure_stages.Queue.{waiting_in}
use Rattle.procedures.specs.Beginning.{begin_step}
use Rattle.control_part.specs.control_end.control_model.Control.{Step, Owes}
use Rattle.control_part.specs.control_end.control_model.Control.{Answers as control_answers, Asks as control_asks, Disconnects as control_disconnects, Enters as control_enters, SeesAcknowledged as control_acknowledged, Sends as control_sends, Takes as control_takes}
use Rattle.control_part.specs.control_end.Held.{Held, control_of}
use Rattle.control_part.proofs.control_end.Depending.{step_held}
use Rattle.keyed_control.specs.declared.material.KeyMaterial.{KeyMaterial}
use Rattle.keyed_control.specs.Keyed.{Keyed}
use Rattle.keyed_control.specs.KeyedSteps.{KeyedStep, Answers, Asks, Disconnects, Enters, GivesKey, LacksKey, Opens, Seals, SeesAcknowledged, Sends, Takes, TakesData, end_changed, is_of_session, keyed_after, keyed_moved, material_entered, with_key, with_read}
use Rattle.keyed_control.specs.phased_control.PhaseChanges.{Change, Stays, Took, answer_change, change_of, handed_change}
use Rattle.keyed_control.specs.phased_control.Phased.{Phased, ask_begun, asking_if, asks_again, encrypting, encrypting_if, is_encrypt, is_open_now, is_quiet_now, key_given, key_lacking, refused_if, request_of, table_entered, with_owed_if, with_step}
use Rattle.keyed_control.specs.phased_control.Steps.{read_answer, seen_by_procedures}
use Rattle.keyed_control.specs.phased_control.Taken.{PhasedStep, Response, answered_if_quiet, answered_kept, ciphered, class_of_read, does_keep, ended_with, goes_on, handed_on, is_allowed, is_answered, keeping, lacks_room_now, phased_moved, role_now, seen_as}
use Rattle.keyed_control.specs.phased_control.Taken.{Answers as phased_answers, Asks as phased_asks, Disconnects as phased_disconnects, Enters as phased_enters, GivesKey as phased_gives_key, LacksKey as phased_lacks_key, SeesAcknowledged as phased_sees_acknowledged, Sends as phased_sends, Takes as phased_takes, TakesData as phased_takes_data}
use Rattle.keyed_control.specs.phased_control.table_laws.Encrypting.{has_encryption}
use Rattle.keyed_control.proofs.phased_control.AnswerParts.{key_answering, phase_answering}
use Rattle.keyed_control.proofs.phased_control.Answering.{answers, with_answer}
use Rattle.phased_end.specs.Held.{held_after, held_of}

-- an end but for what it sent and whether it knows the version of its peer
abbrev blind : Phased → Phased
blind s = record s { control = record s.control { sent = [] }; knows_version = false }

abbrev IsBlind : (Phased → Phased) → Type 0
IsBlind f = (s : Phased) → blind (f s) ≡ blind (f (blind s))

-- a change that does not depend on these two leaves ends equal but for them, where they were so before
same_by : (f : Phased → Phased) → IsBlind f → (u v : Phased) → blind u ≡ blind v → blind (f u) ≡ blind (f v)
same_by f is u v same = is u ∙ ap (λ (s : Phased). blind (f s)) same ∙ sym (is v)

-- ---- the parts of a step

step_blind : (step : Step) → IsBlind (with_step step)
step_blind step s = ap (λ (c : Held). record s { control = control_of c; knows_version = false }) (step_held step s.control)

owed_if_blind : (r : Option Ctrl) → IsBlind (with_owed_if r)
owed_if_blind None s = refl
owed_if_blind (Some ctrl) s = step_blind (Owes ctrl) s

encrypting_blind : (p : PhaseFacts) (r : Option Ctrl) (s : Phased) → s.request ≡ r → blind (encrypting p s) ≡ blind (encrypting p (blind s))
encrypting_blind Clear r s is = owed_if_blind s.request (record s { phase = phase_after AskTransition s.phase })
encrypting_blind p r s is = step_blind (Owes PauseEncReq) (record s { phase = phase_after Pause s.phase })

encrypting_if_blind : (b : Bool) (r : Option Ctrl) → IsBlind (encrypting_if b r)
encrypting_if_blind false r s = refl
encrypting_if_blind true r s = encrypting_blind s.phase r (record s { request = r }) refl

asking_blind : (b : Bool) → IsBlind (asking_if b)
asking_blind false s = refl
asking_blind true s = owed_if_blind s.request (record s { phase = phase_after AskTransition s.phase })

either_blind : (b : Bool) (s u v : Phased) → blind u ≡ blind v → blind (if b then u else s) ≡ blind (if b then v else blind s)
either_blind true s u v same = same
either_blind false s u v same = refl

lacking_blind : (b : Bool) (s : Phased) → blind (refused_if b s) ≡ blind (refused_if b (blind s))
lacking_blind true s = step_blind (Owes (RejectExtInd enc_req_opcode pin_or_key_missing)) (record s { asks_key = false; phase = phase_after Refuse s.phase })
lacking_blind false s = step_blind (Owes (TerminateInd pin_or_key_missing)) (record s { asks_key = false })

answer_blind : (owed : Option Ctrl) (p : PhaseFacts) (key : Bool) → IsBlind (with_answer owed p key)
answer_blind None p key s = refl
answer_blind (Some ctrl) p key s =
    ap (λ (c : Held). record s { control = control_of c; phase = p; asks_key = key; knows_version = false }) (step_held (Owes ctrl) s.control)

ciphered_blind : (response : Response) (read : CtrlRead) → IsBlind (ciphered response read)
ciphered_blind response read s =
    let owed = read_answer (role_now s) response read s.phase in
    let p = phase_answering (role_now s) read (has_encryption s.control.table.progress) s.phase in
    let key = key_answering (role_now s) read s.phase (is_open_now s) s.asks_key in
    ap blind (answers s response read) ∙ answer_blind owed p key s ∙ sym (ap blind (answers (blind s) response read))

kept_blind : (slot : ℕ) (kept : Option Ctrl) → IsBlind (answered_kept slot kept)
kept_blind slot None s = refl
kept_blind slot (Some ctrl) s =
    ap (λ (c : Held). record s { control = control_of c; kept = None; knows_version = false }) (step_held (control_takes (Known ctrl) slot true) s.control)

quiet_blind : (slot : ℕ) → IsBlind (answered_if_quiet slot)
quiet_blind slot s = either_blind (is_quiet_now s) s (answered_kept slot s.kept s) (answered_kept slot s.kept (blind s)) (kept_blind slot s.kept s)

goes_on_blind : (slot : ℕ) (response : Response) (read : CtrlRead) → IsBlind (goes_on slot response read)
goes_on_blind slot response read s =
    either_blind (is_none s.control.ends) s (answered_if_quiet slot (ciphered response read s)) (answered_if_quiet slot (ciphered response read (blind s)))
    (same_by (answered_if_quiet slot) (quiet_blind slot) (ciphered response read s) (ciphered response read (blind s)) (ciphered_blind response read s))

seen_blind : (slot : ℕ) (read : CtrlRead) (s : Phased) → blind (seen_by_procedures read slot s) ≡ blind (seen_by_procedures read slot (blind s))
seen_blind slot read s =
    ap (λ (c : Held). record s { control = control_of c; phase = phase_taking (class_of_read read) s.phase; knows_version = false })
    (step_held (control_takes (seen_as read s) slot (is_quiet_now s)) s.control)

answered_blind : (read : CtrlRead) (s : Phased) → is_answered read s ≡ is_answered read (blind s)
answered_blind (Known ctrl) s = refl
answered_blind (Unknown opcode) s = refl
answered_blind Bare s = refl

room_blind : (read : CtrlRead) (s : Phased) → lacks_room_now read s ≡ lacks_room_now read (blind s)
room_blind read s =
    ap (λ (b : Bool). is_open_now s && (nat_le 16 (waiting_in s.control.table.queue) && b)) (answered_blind read s)

took_blind : (slot : ℕ) (response : Response) (read : CtrlRead) → IsBlind (phased_moved (phased_takes read slot response))
took_blind slot response read s =
    by (is_allowed read s) (does_keep read s) (lacks_room_now read s)
    ∙ ap
    (λ (full : Bool). blind (if is_allowed read s
    then (if does_keep read s then keeping read (blind s)
    else (if full then ended_with memory_capacity_exceeded (blind s) else handed_on slot response read (blind s)))
    else ended_with mic_failure (blind s)))
    (room_blind read s)
  where
    by : (a k f : Bool)
        → blind (if a then (if k then keeping read s else (if f then ended_with memory_capacity_exceeded s else handed_on slot response read s)) else ended_with mic_failure s)
        ≡ blind (if a then (if k then keeping read (blind s) else (if f then ended_with memory_capacity_exceeded (blind s) else handed_on slot response read (blind s)))
        else ended_with mic_failure (blind s))
    by false k f = refl
    by true true f = refl
    by true false true = refl
    by true false false =
        same_by (goes_on slot response read) (goes_on_blind slot response read) (seen_by_procedures read slot s) (seen_by_procedures read slot (blind s))
        (seen_blind slot read s)

data_blind : IsBlind (phased_moved phased_takes_data)
data_blind s = by (allows s.phase (role_now s) Data)
  where
    by : (b : Bool) → blind (if b then s else ended_with mic_failure s) ≡ blind (if b then blind s else ended_with mic_failure (blind s))
    by true = refl
    by false = refl

moved_blind : (step : PhasedStep) → IsBlind (phased_moved step)
moved_blind (phased_enters slot) s =
    let f = table_entered s in
    let quiet = is_quiet_now s in
    let b = is_encrypt (begin_step f slot quiet).1 in
    let r = request_of (ask_begun f quiet) in
    same_by (encrypting_if b r) (encrypting_if_blind b r) (with_step (control_enters slot quiet) s) (with_step (control_enters slot quiet) (blind s))
    (step_blind (control_enters slot quiet) s)
moved_blind (phased_asks ask) s = step_blind (control_asks ask) s
moved_blind (phased_answers answer) s = step_blind (control_answers answer) s
moved_blind phased_gives_key s =
    either_blind (s.asks_key && is_open_now s) s (key_given s) (key_given (blind s))
    (step_blind (Owes StartEncReq) (record s { asks_key = false; phase = phase_starting s.phase }))
moved_blind phased_lacks_key s =
    either_blind (s.asks_key && is_open_now s) s (key_lacking s) (key_lacking (blind s))
    (lacking_blind (may_follow Refuse s.phase) s)
moved_blind (phased_disconnects reason) s = step_blind (control_disconnects reason) s
moved_blind (phased_sends slot) s = step_blind (control_sends slot (is_quiet_now s)) s
moved_blind phased_sees_acknowledged s =
    same_by (asking_if (asks_again s)) (asking_blind (asks_again s)) (with_step control_acknowledged s) (with_step control_acknowledged (blind s))
    (step_blind control_acknowledged s)
moved_blind (phased_takes read slot response) s = took_blind slot response read s
moved_blind phased_takes_data s = data_blind s

-- ---- the change of the phase

taken_change_blind : (read : CtrlRead) (slot : ℕ) (response : Response) (s : Phased)
    → change_of (phased_takes read slot response) s ≡ change_of (phased_takes read slot response) (blind s)
taken_change_blind read slot response s =
    ap
    (λ (full : Bool). (if is_allowed read s
    then (if does_keep read s then Took (class_of_read read) else (if full then Stays else handed_change read slot s))
    else Stays))
    (room_blind read s)
    ∙ ap
    (λ (c : Held). (if is_allowed read s
    then (if does_keep read s then Took (class_of_read read)
    else (if lacks_room_now read (blind s) then Stays
    else (if is_none c.ends then answer_change (role_now s) (class_of_read read) (has_encryption c.table.progress) s.phase else Took (class_of_read read))))
    else Stays))
    (step_held (control_takes (seen_as read s) slot (is_quiet_now s)) s.control)

-- ---- every step

abbrev blinded : Keyed → Keyed
blinded k = record k { phased = blind k.phased }

-- what is held of an end does not include these two
held_blind : (step : PhasedStep) (m : KeyMaterial) (change : Change) (k : Keyed)
    → held_of (record { phased = phased_moved step k.phased; material = m; end = end_changed change m k.end })
    ≡ held_of (record { phased = phased_moved step (blind k.phased); material = m; end = end_changed change m k.end })
held_blind step m change k =
    ap (λ (s : Phased). held_of (record { phased = s; material = m; end = end_changed change m k.end }))
    (moved_blind step k.phased)

taken_blind : (read : CtrlRead) (slot : ℕ) (response : Response) (k : Keyed)
    → held_of (keyed_moved (Takes read slot response) k) ≡ held_of (keyed_moved (Takes read slot response) (blinded k))
taken_blind read slot response k =
    let s = k.phased in
    let step = phased_takes read slot response in
    let m = λ (change : Change). with_read (role_now s) read response change s.phase k.material in
    held_blind step (m (change_of step s)) (change_of step s) k
    ∙ ap
    (λ (change : Change). held_of (record { phased = phased_moved step (blind s); material = m change; end = end_changed change (m change) k.end }))
    (taken_change_blind read slot response s)

keyed_blind : (step : KeyedStep) (k : Keyed) → held_of (keyed_moved step k) ≡ held_of (keyed_moved step (blinded k))
keyed_blind (Enters slot) k =
    held_blind (phased_enters slot) (material_entered slot k.phased k.material)
    (change_of (phased_enters slot) k.phased) k
keyed_blind (Asks ask) k = held_blind (phased_asks ask) k.material Stays k
keyed_blind (Answers answer) k = held_blind (phased_answers answer) k.material Stays k
keyed_blind (GivesKey ltk) k =
    let change = change_of phased_gives_key k.phased in
    held_blind phased_gives_key (with_key change ltk k.material) change k
keyed_blind LacksKey k = held_blind phased_lacks_key k.material (change_of phased_lacks_key k.phased) k
keyed_blind (Disconnects reason) k = held_blind (phased_disconnects reason) k.material Stays k
keyed_blind (Sends slot) k = held_blind (phased_sends slot) k.material Stays k
keyed_blind SeesAcknowledged k =
    held_blind phased_sees_acknowledged k.material (change_of phased_sees_acknowledged k.phased) k
keyed_blind (Takes read slot response) k = taken_blind read slot response k
keyed_blind TakesData k = held_blind phased_takes_data k.material Stays k
keyed_blind (Seals header body) k = refl
keyed_blind (Opens header payload) k = refl

after_blind : (step : KeyedStep) (k : Keyed) → held_of (keyed_after step k) ≡ held_of (keyed_after step (blinded k))
after_blind step k = by (is_of_session step || is_none k.phased.control.ends)
  where
    by : (b : Bool) → held_of (if b then keyed_moved step k else k) ≡ held_of (if b then keyed_moved step (blinded k) else blinded k)
    by true = keyed_blind step k
    by false = refl

pub step_depends : (step : KeyedStep) (k : Keyed) → k.end.phase ≡ k.phased.phase → held_of (keyed_after step k) ≡ held_after step (held_of k)
step_depends step k same =
    after_blind step k
    ∙ sym (ap (λ (p : PhaseFacts). held_of (keyed_after step (record k { phased = record (blind k.phased) { phase = p } }))) same)
