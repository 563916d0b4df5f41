-- How the steps of an end move its track, what it sent, and the end of its link.
use Rattle.std.proofs.Common.{nat_le, ◌≡◌, inl, inr, ℕ, Bool, true, false, not, ◌&&◌, if◌then◌else◌, List, [], ◌∷◌, ◌++◌, Option, Some, None, is_none, refl, sym, ap, subst, ◌∙◌}
use Rattle.std.specs.Prelude.{⊤}
use Rattle.ble_base.specs.ErrorCodes.{memory_capacity_exceeded, mic_failure}
use Rattle.ble_base.specs.declared.error_codes.ErrCode.{ErrCode}
use Rattle.ble_base.specs.declared.roles.Role.{Role}
use Rattle.ble_base.specs.declared.roles.Role.TheVariants.{Central, Peripheral}
use Rattle.data_pdu.specs.declared.ctrl.Ctrl.{Ctrl}
use Rattle.data_pdu.specs.declared.ctrl.Ctrl.TheVariants.{ConnectionUpdateInd, ChannelMapInd}
use Rattle.data_pdu.specs.declared.ctrl.CtrlRead.{CtrlRead}
use Rattle.data_pdu.specs.declared.ctrl.CtrlRead.TheVariants.{Known}
use Rattle.joint_controls.specs.enc_phase.declared.classes.PduClass.{PduClass}
use Rattle.joint_controls.specs.enc_phase.declared.classes.PduClass.TheVariants.{Data, Other, Request}
use Rattle.joint_controls.specs.enc_phase.declared.facts.PhaseFacts.{PhaseFacts}
use Rattle.joint_controls.specs.enc_phase.declared.facts.PhaseFacts.TheVariants.{Clear, Secure}
use Rattle.joint_controls.specs.enc_phase.Taking.{allows, is_unknown}
use Rattle.instants.specs.declared.indications.Indication.{Indication}
use Rattle.instants.specs.declared.track.Change.{Change}
use Rattle.instants.specs.Track.{track_after_enter}
use Rattle.joint_controls.specs.procedure_values.Drafts.{is_out}
use Rattle.joint_controls.specs.procedure_stages.Closing.{is_open}
use Rattle.joint_controls.specs.procedure_stages.InProgress.{is_host_asked}
use Rattle.joint_controls.specs.procedure_stages.Kinds.{role_of}
use Rattle.joint_controls.specs.procedure_stages.Queue.{waiting_in}
use Rattle.joint_controls.specs.procedures.Going.{is_answer}
use Rattle.joint_controls.specs.procedures.Table.{TableFacts}
use Rattle.two_tracks.specs.TwoEnds.{TwoEnds, after_sending}
use Rattle.joint_controls.specs.control_model.Control.{Control, Step, after, after_all, following, goes_out, is_to_come, moved, table_if, taken, went}
use Rattle.joint_controls.specs.control_model.Control.{Answers as control_answers, Asks as control_asks, Disconnects as control_disconnects, Enters as control_enters, Owes, SeesAcknowledged as control_sees_acknowledged, Sends as control_sends, Takes as control_takes}
use Rattle.joint_controls.proofs.control_model.Calls.{any_step, either_way}
use Rattle.joint_controls.proofs.control_model.Moving.{central_takes, enters_track, peripheral_sends, sends_all, sends_track, table_alone, same_role}
use Rattle.joint_controls.specs.phased_control.Phased.{is_open_now, Phased, is_quiet_now}
use Rattle.joint_controls.specs.phased_control.Taken.{PhasedStep, Response, Answers, Asks, Disconnects, Enters, GivesKey, LacksKey, SeesAcknowledged, Sends, Takes, TakesData, ciphered, class_of_read, does_keep, is_allowed, is_answered_at, keeps_class, lacks_room_now, phased_after, role_now, seen_as, seen_if}
use Rattle.joint_controls.specs.phased_control.Steps.{code_if, control_steps, end_by_phase, ended_if, kept_steps, later_steps, owed_entering, read_answer, owed_steps, seen_by_procedures}
use Rattle.joint_controls.proofs.phased_control.Moving.{moves_by_steps}
use Rattle.joint_parameters.specs.Indications.{EndsLate, indication_in}
use Rattle.joint_parameters.proofs.Outcomes.{indication_by}
use Rattle.joint_parameters.proofs.Taking.{TakenAs, is_over, late_end, takes_as}

-- ---- steps that leave the track

abbrev pub is_apart : Role → Step → Bool
is_apart role (control_enters slot quiet) = false
is_apart Central (control_sends slot quiet) = false
is_apart Peripheral (control_takes read slot quiet) = false
is_apart role step = true

abbrev pub AreApart : Role → List Step → Type 0
AreApart role [] = ⊤
AreApart role (step ∷ steps) = (is_apart role step ≡ true) × AreApart role steps

leaves : (role : Role) (step : Step) (c : Control) → is_apart role step ≡ true → role_of c.table.progress ≡ role → (after step c).track ≡ c.track
leaves role (control_enters slot quiet) c is at = absurd (cc)
leaves Central (control_sends slot quiet) c is at = absurd (cc)
leaves Peripheral (control_sends slot quiet) c is at = peripheral_sends c slot quiet at
leaves Central (control_takes read slot quiet) c is at = central_takes c read slot quiet at
leaves Peripheral (control_takes read slot quiet) c is at = absurd (cc)
leaves role (control_asks ask) c is at = table_alone c (control_asks ask) refl
leaves role (control_answers answer) c is at = table_alone c (control_answers answer) refl
leaves role (control_disconnects reason) c is at = table_alone c (control_disconnects reason) refl
leaves role control_sees_acknowledged c is at = table_alone c control_sees_acknowledged refl
leaves role (Owes ctrl) c is at = table_alone c (Owes ctrl) refl

pub leaves_all : (role : Role) (steps : List Step) (c : Control) → AreApart role steps → role_of c.table.progress ≡ role → (after_all steps c).track ≡ c.track
leaves_all role [] c are at = refl
leaves_all role (step ∷ steps) c are at = leaves_all role steps (after step c) are.1 (same_role role step c at) ∙ leaves role step c are.0 at

-- ---- what was sent

abbrev HasSent : List Change → Control → Type 0
HasSent l c = c.sent ≡ l

sent_if : (b : Bool) (g : TableFacts) (c : Control) → (table_if b g c).sent ≡ c.sent
sent_if true g c = refl
sent_if false g c = refl

taken_sent : (g : TableFacts) (ends : Option ErrCode) (i : Option Indication) (c : Control) → (taken g ends i c).sent ≡ c.sent
taken_sent g (Some code) i c = refl
taken_sent g None None c = refl
taken_sent g None (Some indication) c = either_way (HasSent c.sent) (is_to_come c.track indication) _ _ refl refl

sent_moved : (role : Role) (step : Step) (c : Control) → is_apart role step ≡ true → role ≡ Central → (moved step c).sent ≡ c.sent
sent_moved role (control_enters slot quiet) c is at = absurd (cc)
sent_moved Central (control_sends slot quiet) c is at = absurd (cc)
sent_moved Peripheral (control_sends slot quiet) c is at = absurd (cc)
sent_moved role (control_takes read slot quiet) c is at = taken_sent _ _ _ c
sent_moved role (control_asks ask) c is at = refl
sent_moved role (control_answers answer) c is at = sent_if (is_host_asked c.table.progress && is_answer answer) _ c
sent_moved role (control_disconnects reason) c is at = sent_if (is_open c.table.closing) _ c
sent_moved role control_sees_acknowledged c is at = sent_if (is_out c.table.out) _ c
sent_moved role (Owes ctrl) c is at = refl

pub sent_all : (steps : List Step) (c : Control) → AreApart Central steps → (after_all steps c).sent ≡ c.sent
sent_all [] c are = refl
sent_all (step ∷ steps) c are =
    sent_all steps (after step c) are.1 ∙ any_step (HasSent c.sent) step c (sent_moved Central step c are.0 refl) refl

-- ---- the end of the link: only a PDU of the peer ends it

abbrev HasEnd : Option ErrCode → Control → Type 0
HasEnd ends c = c.ends ≡ ends

abbrev pub is_taking : Step → Bool
is_taking (control_takes read slot quiet) = true
is_taking step = false

abbrev pub TakeNone : List Step → Type 0
TakeNone [] = ⊤
TakeNone (step ∷ steps) = (is_taking step ≡ false) × TakeNone steps

ends_if : (b : Bool) (g : TableFacts) (c : Control) → (table_if b g c).ends ≡ c.ends
ends_if true g c = refl
ends_if false g c = refl

following_ends : (role : Role) (indication : Option Indication) (c : Control) → (following role indication c).ends ≡ c.ends
following_ends Central None c = refl
following_ends Central (Some indication) c = refl
following_ends Peripheral indication c = refl

ends_moved : (step : Step) (c : Control) → is_taking step ≡ false → (moved step c).ends ≡ c.ends
ends_moved (control_takes read slot quiet) c is = absurd (cc)
ends_moved (control_enters slot quiet) c is = refl
ends_moved (control_sends slot quiet) c is =
    either_way (HasEnd c.ends) (goes_out quiet c) _ c
    (following_ends (role_of c.table.progress) (went slot quiet c).1 (record c { table = (went slot quiet c).0 })) refl
ends_moved (control_asks ask) c is = refl
ends_moved (control_answers answer) c is = ends_if (is_host_asked c.table.progress && is_answer answer) _ c
ends_moved (control_disconnects reason) c is = ends_if (is_open c.table.closing) _ c
ends_moved control_sees_acknowledged c is = ends_if (is_out c.table.out) _ c
ends_moved (Owes ctrl) c is = refl

pub ends_all : (steps : List Step) (c : Control) → TakeNone steps → (after_all steps c).ends ≡ c.ends
ends_all [] c none = refl
ends_all (step ∷ steps) c none = ends_all steps (after step c) none.1 ∙ any_step (HasEnd c.ends) step c (ends_moved step c none.0) refl

-- ---- the steps of an end with its phase

both_apart : (role : Role) (xs ys : List Step) → AreApart role xs → AreApart role ys → AreApart role (xs ++ ys)
both_apart role [] ys of_x of_y = of_y
both_apart role (x ∷ xs) ys of_x of_y = (of_x.0, both_apart role xs ys of_x.1 of_y)

both_none : (xs ys : List Step) → TakeNone xs → TakeNone ys → TakeNone (xs ++ ys)
both_none [] ys of_x of_y = of_y
both_none (x ∷ xs) ys of_x of_y = (of_x.0, both_none xs ys of_x.1 of_y)

apart_if : (role : Role) (b : Bool) (xs : List Step) → AreApart role xs → AreApart role (if b then xs else [])
apart_if role true xs are = are
apart_if role false xs are = tt

owed_apart : (role : Role) (owed : Option Ctrl) → AreApart role (owed_steps owed)
owed_apart Central None = tt
owed_apart Peripheral None = tt
owed_apart Central (Some ctrl) = (refl, tt)
owed_apart Peripheral (Some ctrl) = (refl, tt)

owed_none : (owed : Option Ctrl) → TakeNone (owed_steps owed)
owed_none None = tt
owed_none (Some ctrl) = (refl, tt)

-- which steps of an end leave its track
abbrev pub stays : Role → PhasedStep → Bool
stays role (Enters slot) = false
stays Central (Sends slot) = false
stays Peripheral (Takes read slot response) = false
stays role step = true

-- nor do the steps in which it takes nothing end the link
abbrev pub takes_none : PhasedStep → Bool
takes_none (Takes read slot response) = false
takes_none TakesData = false
takes_none step = true

module _ (s : Phased) where
  kept_apart : (slot : ℕ) (kept : Option Ctrl) → AreApart Central (kept_steps slot kept)
  kept_apart slot None = tt
  kept_apart slot (Some ctrl) = (refl, tt)

  handed_apart : (slot : ℕ) (response : Response) (read : CtrlRead) (t : Phased) → AreApart Central (later_steps slot response read t)
  handed_apart slot response read t =
      both_apart Central (owed_steps (read_answer (role_now t) response read t.phase)) _ (owed_apart Central _)
      (apart_if Central (is_quiet_now (ciphered response read t)) _ (kept_apart slot t.kept))

  taken_apart : (slot : ℕ) (response : Response) (read : CtrlRead) → AreApart Central (control_steps (Takes read slot response) s)
  taken_apart slot response read =
      apart_if Central (is_allowed read s) _ (by (does_keep read s) (lacks_room_now read s))
    where
      by : (keeps full : Bool)
          → AreApart Central (if keeps then [] else (if full then [] else control_takes (seen_as read s) slot (is_quiet_now s)
          ∷ (if is_none (seen_by_procedures read slot s).control.ends then later_steps slot response read (seen_by_procedures read slot s) else [])))
      by true full = tt
      by false true = tt
      by false false = (refl, apart_if Central (is_none (seen_by_procedures read slot s).control.ends) _ (handed_apart slot response read (seen_by_procedures read slot s)))

  pub steps_apart : (role : Role) (step : PhasedStep) → stays role step ≡ true → AreApart role (control_steps step s)
  steps_apart role (Enters slot) is = absurd (cc)
  steps_apart Central (Sends slot) is = absurd (cc)
  steps_apart Peripheral (Sends slot) is = (refl, tt)
  steps_apart Central (Takes read slot response) is = taken_apart slot response read
  steps_apart Peripheral (Takes read slot response) is = absurd (cc)
  steps_apart Central (Asks ask) is = (refl, tt)
  steps_apart Peripheral (Asks ask) is = (refl, tt)
  steps_apart Central (Answers answer) is = (refl, tt)
  steps_apart Peripheral (Answers answer) is = (refl, tt)
  steps_apart role GivesKey is = owed_apart role _
  steps_apart role LacksKey is = owed_apart role _
  steps_apart Central (Disconnects reason) is = (refl, tt)
  steps_apart Peripheral (Disconnects reason) is = (refl, tt)
  steps_apart Central SeesAcknowledged is = (refl, owed_apart Central _)
  steps_apart Peripheral SeesAcknowledged is = (refl, owed_apart Peripheral _)
  steps_apart Central TakesData is = tt
  steps_apart Peripheral TakesData is = tt

  ended_track : (e : Option ErrCode) (c : Control) → (ended_if e c).track ≡ c.track
  ended_track None c = refl
  ended_track (Some code) c = refl

  ended_sent : (e : Option ErrCode) (c : Control) → (ended_if e c).sent ≡ c.sent
  ended_sent None c = refl
  ended_sent (Some code) c = refl

  pub stays_track : (role : Role) (step : PhasedStep) → s.control.ends ≡ None → role_now s ≡ role → stays role step ≡ true
      → (phased_after step s).control.track ≡ s.control.track
  stays_track role step lasts at is =
      ap (λ (c : Control). c.track) (moves_by_steps step s lasts) ∙ ended_track (end_by_phase step s) (after_all (control_steps step s) s.control)
      ∙ leaves_all role (control_steps step s) s.control (steps_apart role step is) at

  pub stays_sent : (step : PhasedStep) → s.control.ends ≡ None → stays Central step ≡ true → (phased_after step s).control.sent ≡ s.control.sent
  stays_sent step lasts is =
      ap (λ (c : Control). c.sent) (moves_by_steps step s lasts) ∙ ended_sent (end_by_phase step s) (after_all (control_steps step s) s.control)
      ∙ sent_all (control_steps step s) s.control (steps_apart Central step is)

  -- ---- only a PDU of the peer ends the link

  pub ends_still : (step : PhasedStep) → s.control.ends ≡ None → takes_none step ≡ true → (phased_after step s).control.ends ≡ s.control.ends
  ends_still step lasts none =
      ap (λ (c : Control). c.ends) (moves_by_steps step s lasts) ∙ not_ended step (after_all (control_steps step s) s.control) none
      ∙ ends_all (control_steps step s) s.control (steps_none step none)
    where
      not_ended : (step : PhasedStep) (c : Control) → takes_none step ≡ true → (ended_if (end_by_phase step s) c).ends ≡ c.ends
      not_ended (Takes read slot response) c is = absurd (cc)
      not_ended TakesData c is = absurd (cc)
      not_ended other c is = refl

      steps_none : (step : PhasedStep) → takes_none step ≡ true → TakeNone (control_steps step s)
      steps_none (Takes read slot response) is = absurd (cc)
      steps_none TakesData is = absurd (cc)
      steps_none (Enters slot) is = (refl, owed_none (owed_entering slot s))
      steps_none (Sends slot) is = (refl, tt)
      steps_none (Asks ask) is = (refl, tt)
      steps_none (Answers answer) is = (refl, tt)
      steps_none GivesKey is = owed_none _
      steps_none LacksKey is = owed_none _
      steps_none (Disconnects reason) is = (refl, tt)
      steps_none SeesAcknowledged is = (refl, owed_none _)

  -- ---- an event is entered

  pub enters_one : (role : Role) (slot : ℕ) → s.control.ends ≡ None → role_now s ≡ role
      → (phased_after (Enters slot) s).control.track ≡ track_after_enter s.control.track
  enters_one role slot lasts at =
      let c = after (control_enters slot (is_quiet_now s)) s.control in
      ap (λ (d : Control). d.track) (moves_by_steps (Enters slot) s lasts)
      ∙ leaves_all role (owed_steps (owed_entering slot s)) c (owed_apart role (owed_entering slot s)) (same_role role (control_enters slot (is_quiet_now s)) s.control at)
      ∙ enters_track s.control slot (is_quiet_now s) lasts

  pub enters_sent : (slot : ℕ) → s.control.ends ≡ None → (phased_after (Enters slot) s).control.sent ≡ s.control.sent
  enters_sent slot lasts =
      let c = after (control_enters slot (is_quiet_now s)) s.control in
      ap (λ (d : Control). d.sent) (moves_by_steps (Enters slot) s lasts) ∙ sent_all (owed_steps (owed_entering slot s)) c (owed_apart Central (owed_entering slot s))
      ∙ any_step (HasSent s.control.sent) (control_enters slot (is_quiet_now s)) s.control refl refl

  -- ---- a central sends a PDU

  abbrev pub indication_next : Option Indication
  indication_next = (went 0 (is_quiet_now s) s.control).1

  pub sends_one : (slot : ℕ) (t : TwoEnds) → s.control.ends ≡ None → role_now s ≡ Central → t.central ≡ s.control.track → t.sent ≡ s.control.sent
      → ((phased_after (Sends slot) s).control.track ≡ (after_sending indication_next t).central)
      × ((phased_after (Sends slot) s).control.sent ≡ (after_sending indication_next t).sent)
  sends_one slot t lasts at is_track is_sent = (
    ap (λ (c : Control). c.track) (moves_by_steps (Sends slot) s lasts) ∙ sends_track s.control slot (is_quiet_now s) t at lasts is_track is_sent,
    ap (λ (c : Control). c.sent) (moves_by_steps (Sends slot) s lasts) ∙ sends_all s.control slot (is_quiet_now s) t at lasts is_track is_sent,
  )

-- ---- a peripheral takes a control PDU

not_kept : (pdu : PduClass) (role : Role) (quiet : Bool) → role ≡ Peripheral → keeps_class pdu role quiet ≡ false
not_kept Request Central quiet is = absurd (cc)
not_kept Request Peripheral quiet is = refl
not_kept pdu role quiet is = refl

never_unknown : (phase : PhaseFacts) (role : Role) → is_unknown phase role Other ≡ false
never_unknown Clear Central = refl
never_unknown Clear Peripheral = refl
never_unknown Secure Central = refl
never_unknown Secure Peripheral = refl
never_unknown other role = refl

-- what a peripheral reads as an indication, the procedures see as one
seen_indication : (phase : PhaseFacts) (role : Role) (ctrl : Ctrl)
    → indication_by Peripheral (seen_if (is_unknown phase role (class_of_read (Known ctrl))) (Known ctrl)) ≡ indication_in ctrl
seen_indication phase role (ConnectionUpdateInd win_size win_offset interval latency timeout instant) = rw (never_unknown phase role) refl
seen_indication phase role (ChannelMapInd map instant) = rw (never_unknown phase role) refl
seen_indication phase role other = by (is_unknown phase role (class_of_read (Known other)))
  where
    by : (b : Bool) → indication_by Peripheral (seen_if b (Known other)) ≡ indication_in other
    by true = refl
    by false = refl

on_later : (i : Option Indication) (c d e : Control) → e.track ≡ d.track → e.ends ≡ d.ends → TakenAs i c d → TakenAs i c e
on_later i c d e track ends (inl over) = inl (record { code = over.code; is = ends ∙ over.is; track = track ∙ over.track; over = over.over })
on_later i c d e track ends (inr goes) = inr (record { lasts = ends ∙ goes.lasts; track = track ∙ goes.track; in_time = goes.in_time })

module _ (s : Phased) (lasts : s.control.ends ≡ None) (at : role_now s ≡ Peripheral) (none : s.kept ≡ None) where
  no_kept : (P : List Step → Type 0) (b : Bool) (slot : ℕ) (kept : Option Ctrl) → kept ≡ None → P [] → P (if b then kept_steps slot kept else [])
  no_kept P true slot None is h = h
  no_kept P true slot (Some ctrl) is h = absurd (cc)
  no_kept P false slot kept is h = h

  none_if : (b : Bool) (xs : List Step) → TakeNone xs → TakeNone (if b then xs else [])
  none_if true xs are = are
  none_if false xs are = tt

  module _ (slot : ℕ) (response : Response) (read : CtrlRead) where
    abbrev then_seen : Phased
    then_seen = seen_by_procedures read slot s

    abbrev owed : List Step
    owed = owed_steps (read_answer (role_now then_seen) response read then_seen.phase)

    abbrev rest : List Step
    rest = if is_none then_seen.control.ends then later_steps slot response read then_seen else []

    rest_apart : AreApart Peripheral rest
    rest_apart =
        apart_if Peripheral (is_none then_seen.control.ends) (later_steps slot response read then_seen)
        (both_apart Peripheral owed (if is_quiet_now (ciphered response read then_seen) then kept_steps slot s.kept else [])
        (owed_apart Peripheral (read_answer (role_now then_seen) response read then_seen.phase))
        (no_kept (AreApart Peripheral) (is_quiet_now (ciphered response read then_seen)) slot s.kept none tt))

    rest_none : TakeNone rest
    rest_none =
        none_if (is_none then_seen.control.ends) (later_steps slot response read then_seen)
        (both_none owed (if is_quiet_now (ciphered response read then_seen) then kept_steps slot s.kept else [])
        (owed_none (read_answer (role_now then_seen) response read then_seen.phase))
        (no_kept TakeNone (is_quiet_now (ciphered response read then_seen)) slot s.kept none tt))

    abbrev taking : Step
    taking = control_takes (seen_as read s) slot (is_quiet_now s)

    rest_track : (after_all rest (after taking s.control)).track ≡ (after taking s.control).track
    rest_track = leaves_all Peripheral rest (after taking s.control) rest_apart (same_role Peripheral taking s.control at)

    rest_ends : (after_all rest (after taking s.control)).ends ≡ (after taking s.control).ends
    rest_ends = ends_all rest (after taking s.control) rest_none

    by_phase : (i : Option Indication) → indication_by Peripheral (seen_as read s) ≡ i → (allowed keeps full : Bool) → keeps ≡ false
        → TakenAs i s.control (ended_if (if allowed then (if keeps then None else code_if full memory_capacity_exceeded) else Some (record { 0 = mic_failure }))
        (after_all (if allowed then (if keeps then [] else (if full then [] else taking ∷ rest)) else []) s.control))
    by_phase i is false keeps full not = inl (record { code = record { 0 = mic_failure }; is = refl; track = refl; over = λ h. absurd (cc) })
    by_phase i is true true full not = absurd (cc)
    by_phase i is true false true not =
        inl (record { code = record { 0 = memory_capacity_exceeded }; is = refl; track = refl; over = λ h. absurd (cc) })
    by_phase i is true false false not =
        on_later i s.control (after taking s.control) (after_all rest (after taking s.control)) rest_track rest_ends
        (subst (λ (j : Option Indication). TakenAs j s.control (after taking s.control)) is
        (subst (λ (role : Role). TakenAs (indication_by role (seen_as read s)) s.control (after taking s.control)) at
        (takes_as s.control (seen_as read s) slot (is_quiet_now s) lasts)))

  pub takes_one : (slot : ℕ) (response : Response) (ctrl : Ctrl) → TakenAs (indication_in ctrl) s.control (phased_after (Takes (Known ctrl) slot response) s).control
  takes_one slot response ctrl =
      subst (TakenAs (indication_in ctrl) s.control) (sym (moves_by_steps (Takes (Known ctrl) slot response) s lasts))
      (by_phase slot response (Known ctrl) (indication_in ctrl) (seen_indication s.phase (role_now s) ctrl) (is_allowed (Known ctrl) s) (does_keep (Known ctrl) s)
      (lacks_room_now (Known ctrl) s) (not_kept (class_of_read (Known ctrl)) (role_now s) (is_quiet_now s) at))

  pub takes_data : TakenAs None s.control (phased_after TakesData s).control
  takes_data = subst (TakenAs None s.control) (sym (moves_by_steps TakesData s lasts)) (by (allows s.phase (role_now s) Data))
    where
      by : (b : Bool) → TakenAs None s.control (ended_if (if b then None else Some (record { 0 = mic_failure })) s.control)
      by true = inr (record { lasts = lasts; track = refl; in_time = refl })
      by false = inl (record { code = record { 0 = mic_failure }; is = refl; track = refl; over = λ h. absurd (cc) })

  -- ---- an instant that has passed ends the link

  seen_itself : (ctrl : Ctrl) → is_over s.control.track (indication_in ctrl) ≡ true → seen_as (Known ctrl) s ≡ Known ctrl
  seen_itself (ConnectionUpdateInd win_size win_offset interval latency timeout instant) over = rw (never_unknown s.phase (role_now s)) refl
  seen_itself (ChannelMapInd map instant) over = rw (never_unknown s.phase (role_now s)) refl
  seen_itself other over = absurd (cc)

  -- no answer is owed for an indication
  no_answer : (ctrl : Ctrl) (role : Role) (phase : PhaseFacts) → is_over s.control.track (indication_in ctrl) ≡ true → is_answered_at role ctrl phase ≡ false
  no_answer (ConnectionUpdateInd win_size win_offset interval latency timeout instant) Central phase over = refl
  no_answer (ConnectionUpdateInd win_size win_offset interval latency timeout instant) Peripheral phase over = refl
  no_answer (ChannelMapInd map instant) Central phase over = refl
  no_answer (ChannelMapInd map instant) Peripheral phase over = refl
  no_answer other role phase over = absurd (cc)

  and_no : (a b : Bool) → (a && (b && false)) ≡ false
  and_no true true = refl
  and_no true false = refl
  and_no false b = refl

  has_room : (ctrl : Ctrl) → is_over s.control.track (indication_in ctrl) ≡ true → lacks_room_now (Known ctrl) s ≡ false
  has_room ctrl over =
      ap (λ (b : Bool). is_open_now s && (nat_le 16 (waiting_in s.control.table.queue) && b)) (no_answer ctrl (role_now s) s.phase over)
      ∙ and_no (is_open_now s) (nat_le 16 (waiting_in s.control.table.queue))

  pub late_one : (slot : ℕ) (response : Response) (ctrl : Ctrl) → is_over s.control.track (indication_in ctrl) ≡ true
      → EndsLate (phased_after (Takes (Known ctrl) slot response) s).control.ends
  late_one slot response ctrl over =
      subst (λ (c : Control). EndsLate c.ends) (sym (moves_by_steps (Takes (Known ctrl) slot response) s lasts))
      (by (is_allowed (Known ctrl) s) (does_keep (Known ctrl) s) (lacks_room_now (Known ctrl) s)
      (not_kept (class_of_read (Known ctrl)) (role_now s) (is_quiet_now s) at) (has_room ctrl over))
    where
      here : EndsLate (after (control_takes (seen_as (Known ctrl) s) slot (is_quiet_now s)) s.control).ends
      here =
          subst (λ (read : CtrlRead). EndsLate (after (control_takes read slot (is_quiet_now s)) s.control).ends) (sym (seen_itself ctrl over))
          (late_end s.control ctrl slot (is_quiet_now s) lasts at over)

      by : (allowed keeps full : Bool) → keeps ≡ false → full ≡ false
          → EndsLate (ended_if (if allowed then (if keeps then None else code_if full memory_capacity_exceeded) else Some (record { 0 = mic_failure }))
          (after_all (if allowed then (if keeps then [] else (if full then [] else control_takes (seen_as (Known ctrl) s) slot (is_quiet_now s)
          ∷ rest slot response (Known ctrl))) else []) s.control)).ends
      by false keeps full is2 is3 = inr (inl refl)
      by true true full is2 is3 = absurd (cc)
      by true false true is2 is3 = absurd (cc)
      by true false false is2 is3 = subst EndsLate (sym (rest_ends slot response (Known ctrl))) here
