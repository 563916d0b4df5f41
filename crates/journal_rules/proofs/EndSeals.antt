-- What each step of an end makes of what it seals and of its counter.
use Rattle.std.proofs.Common.{◌≡◌, ℕ, ◌+◌, ◌&&◌, ◌||◌, not, Bool, true, false, Option, Some, None, is_none, List, [], ◌∷◌, ◌++◌, refl, sym, ap, subst, ◌∙◌, if◌then◌else◌}
use Rattle.std.proofs.lemmas.Bool.{and_parts}
use Rattle.std.specs.List.{AllByRecursion}
use Rattle.ble_base.specs.ErrorCodes.{mic_failure}
use Rattle.ble_base.specs.declared.error_codes.ErrCode.{ErrCode}
use Rattle.ble_base.specs.declared.roles.Role.{Role}
use Rattle.ble_base.specs.declared.roles.Role.TheVariants.{Central, Peripheral}
use Rattle.data_pdu.specs.declared.ctrl.CtrlRead.{CtrlRead}
use Rattle.instants.specs.declared.indications.Params.{Params}
use Rattle.joint_keys.proofs.EndChanges.{IsEnd}
use Rattle.joint_keys.proofs.EndGoing.{end_kept, end_opening, end_sends}
use Rattle.joint_keys.proofs.KeysGoing.{IsAt, end_in_step, may_at}
use Rattle.enc_phase.proofs.Steps.{seals_taking}
use Rattle.journal_events.proofs.journal_leaving.journal_controls.link_model.phased_end.keyed_control.Phases.{after_one, phased_once}
use Rattle.journal_events.proofs.journal_leaving.journal_controls.link_model.phased_end.keyed_control.phased_control.Kept.{tied_now}
use Rattle.journal_events.specs.journal_leaving.journal_controls.KeyedLines.{Accepts, Does, Forges, LineStep, keyed_by, keyed_by_all, keyed_forged}
use Rattle.journal_events.specs.journal_leaving.journal_controls.link_model.Receiving.{ended_by_forgery}
use Rattle.journal_events.specs.journal_leaving.journal_controls.link_model.control_model.Control.{ended}
use Rattle.journal_events.specs.journal_leaving.journal_controls.link_model.enc_phase.Phases.{is_asked, is_central, may_follow, seals}
use Rattle.journal_events.specs.journal_leaving.journal_controls.link_model.enc_phase.Sealing.{EncEnd, after_opening, after_sending}
use Rattle.journal_events.specs.journal_leaving.journal_controls.link_model.enc_phase.declared.classes.PduClass.{PduClass}
use Rattle.journal_events.specs.journal_leaving.journal_controls.link_model.enc_phase.declared.classes.PduClass.TheVariants.{EncReq, PauseEncReq, PauseEncRsp, Refusal, StartEncReq, StartEncRsp}
use Rattle.journal_events.specs.journal_leaving.journal_controls.link_model.enc_phase.declared.facts.PhaseFacts.{PhaseFacts}
use Rattle.journal_events.specs.journal_leaving.journal_controls.link_model.enc_phase.declared.facts.PhaseFacts.TheVariants.{Asked, Clear, HalfClear, HalfKeyed, Pausing, Secure}
use Rattle.journal_events.specs.journal_leaving.journal_controls.link_model.enc_phase.declared.facts.Transition.TheVariants.{Ask, Confirm, Pause, Refuse, Unlock}
use Rattle.journal_events.specs.journal_leaving.journal_controls.link_model.keyed_control.Keyed.{Keyed, first_keyed}
use Rattle.journal_events.specs.journal_leaving.journal_controls.link_model.keyed_control.KeyedSteps.{KeyedStep, Answers, Asks, Disconnects, Enters, GivesKey, LacksKey, Opens, Seals, SeesAcknowledged, Sends, Takes, TakesData, end_changed, is_of_session, keyed_after, keyed_moved, phased_step}
use Rattle.journal_events.specs.journal_leaving.journal_controls.link_model.keyed_control.declared.material.KeyMaterial.{KeyMaterial}
use Rattle.journal_events.specs.journal_leaving.journal_controls.link_model.phased_control.PhaseChanges.{Change, Moves, Starts, Stays, Took, answer_change, change_of, first_change, may_change, taken_change}
use Rattle.journal_events.specs.journal_leaving.journal_controls.link_model.phased_control.Phased.{Phased, asks_again, first_phased, is_encrypt, is_open_now, is_quiet_now, table_entered}
use Rattle.journal_events.specs.journal_leaving.journal_controls.link_model.phased_control.Steps.{seen_by_procedures}
use Rattle.journal_events.specs.journal_leaving.journal_controls.link_model.phased_control.Taken.{PhasedStep, Response, class_of_read, does_keep, is_allowed, lacks_room_now, phased_after, phased_after_all, role_now}
use Rattle.journal_events.specs.journal_leaving.journal_controls.link_model.phased_control.Taken.{Enters as phased_enters, GivesKey as phased_gives_key, LacksKey as phased_lacks_key, SeesAcknowledged as phased_sees_acknowledged, Takes as phased_takes}
use Rattle.journal_events.specs.journal_leaving.journal_controls.link_model.phased_control.table_laws.Encrypting.{has_encryption}
use Rattle.journal_events.specs.journal_leaving.journal_controls.link_model.procedures.Beginning.{begin_step}
use Rattle.journal_rules.specs.Sealing.{is_mark, marks_with, starts_with}

-- ---- an end goes on sealing or not, with its counter

pub record SealsAlike (before after : EncEnd) : Type 0 where
  pub role : after.role ≡ before.role
  pub seals_too : seals after.role after.phase ≡ seals before.role before.phase
  pub sent : after.sent ≡ before.sent

pub alike : (e : EncEnd) → SealsAlike e e
alike e = record { role = refl; seals_too = refl; sent = refl }

pub alike_both : (one two three : EncEnd) → SealsAlike one two → SealsAlike two three → SealsAlike one three
alike_both one two three first second = record {
  role = second.role ∙ first.role;
  seals_too = second.seals_too ∙ first.seals_too;
  sent = second.sent ∙ first.sent;
}

-- it begins to seal, with the counter 0, or seals no more
pub record SealsAnew (role : Role) (on : Bool) (after : EncEnd) : Type 0 where
  pub role_is : after.role ≡ role
  pub seals_is : seals after.role after.phase ≡ on
  pub none : after.sent ≡ 0

-- ---- a change of its phase

-- with this change it seals, or it does not
abbrev pub starts_by : Change → Bool
starts_by (Moves Unlock) = false
starts_by change = true

module _ (m : KeyMaterial) (key iv : List ℕ) (sent opened : ℕ) where
  abbrev end_in : Role → PhaseFacts → EncEnd
  end_in role p = record { role = role; phase = p; key = key; iv = iv; sent = sent; opened = opened }

  abbrev Keeps : Role → Change → PhaseFacts → Type 0
  Keeps role change p = SealsAlike (end_in role p) (end_changed change m (end_in role p))

  clears : (role : Role) (change : Change) (p : PhaseFacts) → (end_changed change m (end_in role p)).role ≡ role
      → seals role p ≡ false → seals (end_changed change m (end_in role p)).role (end_changed change m (end_in role p)).phase ≡ false
      → (end_changed change m (end_in role p)).sent ≡ 0 → (seals role p ≡ false → sent ≡ 0) → Keeps role change p
  clears role change p same clear clear_too none zero = record { role = same; seals_too = clear_too ∙ sym clear; sent = none ∙ sym (zero clear) }

  keeps : (role : Role) (change : Change) (p : PhaseFacts) → may_change change p ≡ true → is_mark change role ≡ false
      → (seals role p ≡ false → sent ≡ 0) → Keeps role change p
  keeps role Stays p may plain zero = alike (end_in role p)
  keeps role (Took pdu) p may plain zero = record { role = refl; seals_too = seals_taking pdu role p; sent = refl }
  keeps Central Starts p may plain zero = absurd cc
  keeps Peripheral Starts (Asked a b c) may plain zero = clears Peripheral Starts (Asked a b c) refl refl refl refl zero
  keeps Central (Moves Ask) Clear may plain zero = clears Central (Moves Ask) Clear refl refl refl refl zero
  keeps Peripheral (Moves Ask) Clear may plain zero = clears Peripheral (Moves Ask) Clear refl refl refl refl zero
  keeps Central (Moves Ask) (HalfClear a) may plain zero = clears Central (Moves Ask) (HalfClear a) refl refl refl refl zero
  keeps Peripheral (Moves Ask) (HalfClear a) may plain zero = clears Peripheral (Moves Ask) (HalfClear a) refl refl refl refl zero
  keeps Central (Moves Refuse) (Asked a b c) may plain zero = clears Central (Moves Refuse) (Asked a b c) refl refl refl refl zero
  keeps Peripheral (Moves Refuse) (Asked a b c) may plain zero = clears Peripheral (Moves Refuse) (Asked a b c) refl refl refl refl zero
  keeps Central (Moves Confirm) HalfKeyed may plain zero = record { role = refl; seals_too = refl; sent = refl }
  keeps Peripheral (Moves Confirm) HalfKeyed may plain zero = absurd cc
  keeps Central (Moves Pause) Secure may plain zero = record { role = refl; seals_too = refl; sent = refl }
  keeps Peripheral (Moves Pause) Secure may plain zero = record { role = refl; seals_too = refl; sent = refl }
  keeps role (Moves Unlock) p may plain zero = absurd cc
  keeps role change p may plain zero = absurd cc

  marks : (role : Role) (change : Change) (p : PhaseFacts) → may_change change p ≡ true → is_mark change role ≡ true
      → (seals role p ≡ false → sent ≡ 0) → SealsAnew role (starts_by change) (end_changed change m (end_in role p))
  marks Central Starts (Asked a b c) may mark zero = record { role_is = refl; seals_is = refl; none = refl }
  marks Peripheral Starts p may mark zero = absurd cc
  marks Central (Moves Confirm) p may mark zero = absurd cc
  marks Peripheral (Moves Confirm) HalfKeyed may mark zero = record { role_is = refl; seals_is = refl; none = zero refl }
  marks Central (Moves Unlock) (Pausing a) may mark zero = record { role_is = refl; seals_is = refl; none = refl }
  marks Peripheral (Moves Unlock) (Pausing a) may mark zero = record { role_is = refl; seals_is = refl; none = refl }
  marks role change p may mark zero = absurd cc

module _ (role : Role) (change : Change) (p : PhaseFacts) (m : KeyMaterial) (e : EncEnd) (is : IsEnd role p e) (may : may_change change p ≡ true) where
  pub changed_alike : is_mark change role ≡ false → SealsAlike e (end_changed change m e)
  changed_alike plain =
      subst (λ (d : EncEnd). SealsAlike d (end_changed change m d)) (λ i. record e { role = sym is.role_too i; phase = sym is.phase_too i })
      (keeps m e.key e.iv e.sent e.opened role change p may plain is.clear_sent)

  pub changed_anew : is_mark change role ≡ true → SealsAnew role (starts_by change) (end_changed change m e)
  changed_anew mark =
      subst (λ (d : EncEnd). SealsAnew role (starts_by change) (end_changed change m d)) (λ i. record e { role = sym is.role_too i; phase = sym is.phase_too i })
      (marks m e.key e.iv e.sent e.opened role change p may mark is.clear_sent)

-- ---- an end in its phase

pub record IsSound (role : Role) (k : Keyed) : Type 0 where
  pub at : k.phased.control.ends ≡ None → IsAt role k.phased
  pub here : IsEnd role k.phased.phase k.end

pub first_sound : (role : Role) (max_rx : ℕ) (first : Params) (slot : ℕ) → IsSound role (first_keyed role max_rx first slot)
first_sound role max_rx first slot = record {
  at = λ lasts. record { max_rx = max_rx; first = first; slot = slot; steps = []; is = refl };
  here = record { role_too = refl; phase_too = refl; clear_sent = λ clear. refl; clear_opened = λ clear. refl };
}

one_more : (steps : List PhasedStep) (step : PhasedStep) (s : Phased) → phased_after_all (steps ++ step ∷ []) s ≡ phased_after step (phased_after_all steps s)
one_more [] step s = refl
one_more (first ∷ steps) step s = one_more steps step (phased_after first s)

at_once : (role : Role) (may : Option PhasedStep) (s : Phased) → IsAt role s → IsAt role (after_one may s)
at_once role None s at = at
at_once role (Some step) s at = record {
  max_rx = at.max_rx;
  first = at.first;
  slot = at.slot;
  steps = at.steps ++ step ∷ [];
  is = ap (phased_after step) at.is ∙ sym (one_more at.steps step (first_phased role at.max_rx at.first at.slot));
}

module _ (role : Role) (step : KeyedStep) (k : Keyed) (sound : IsSound role k) where
  -- at an end that goes on
  goes_sound : k.phased.control.ends ≡ None → IsSound role (keyed_after step k)
  goes_sound lasts = record {
    at = λ still. subst (IsAt role) (sym (phased_once step k)) (at_once role (phased_step step) k.phased (sound.at lasts));
    here = end_in_step role k (sound.at lasts) lasts sound.here step;
  }

  -- at one that ended the link
  over_sound : (code : ErrCode) → k.phased.control.ends ≡ Some code → is_of_session step ≡ false → IsSound role (keyed_after step k)
  over_sound code over plain =
      subst (IsSound role) (sym (ap (λ b. if b then keyed_moved step k else k)
      (ap (λ b. b || is_none k.phased.control.ends) plain ∙ ap (λ (ends : Option ErrCode). is_none ends) over))) sound

  pub step_sound : is_of_session step ≡ false → IsSound role (keyed_after step k)
  step_sound plain = by k.phased.control.ends refl
    where
      by : (ends : Option ErrCode) → k.phased.control.ends ≡ ends → IsSound role (keyed_after step k)
      by None lasts = goes_sound lasts
      by (Some code) over = over_sound code over plain

-- a PDU that goes out
pub sending_sound : (role : Role) (header : ℕ) (body : List ℕ) (k : Keyed) → IsSound role k → IsSound role (keyed_after (Seals header body) k)
sending_sound role header body k sound = record {
  at = sound.at;
  here = end_kept role true false k.phased.phase k.phased.phase k.material k.end (after_sending k.end) (end_sends role k.phased.phase k.material k.end sound.here);
}

-- ---- which change a step is

mark_if : (b : Bool) (change : Change) (role : Role) → is_mark change role ≡ false → is_mark (if b then change else Stays) role ≡ false
mark_if true change role none = none
mark_if false change role none = refl

first_plain : (p : PhaseFacts) (role : Role) → is_mark (first_change p) role ≡ false
first_plain Clear role = refl
first_plain p role = refl

-- of the class of a PDU that starts nothing and stops nothing
answer_plain : (role : Role) (pdu : PduClass) (encrypts : Bool) (p : PhaseFacts) → marks_with pdu role ≡ false → is_mark (answer_change role pdu encrypts p) role ≡ false
answer_plain Central StartEncReq encrypts p none = absurd cc
answer_plain Central StartEncRsp encrypts p none = mark_if (may_follow Confirm p) (Moves Confirm) Central refl
answer_plain Central PauseEncRsp encrypts p none = absurd cc
answer_plain Central Refusal true p none = refl
answer_plain Central Refusal false p none = mark_if (may_follow Refuse p) (Moves Refuse) Central refl
answer_plain Central pdu encrypts p none = refl
answer_plain Peripheral EncReq encrypts p none = mark_if (may_follow Ask p) (Moves Ask) Peripheral refl
answer_plain Peripheral PauseEncReq encrypts p none = mark_if (may_follow Pause p) (Moves Pause) Peripheral refl
answer_plain Peripheral StartEncRsp encrypts p none = absurd cc
answer_plain Peripheral PauseEncRsp encrypts p none = absurd cc
answer_plain Peripheral pdu encrypts p none = refl

-- and of one that starts or stops
mark_or_stays : (b : Bool) (change : Change) (role : Role) → is_mark (if b then change else Stays) role ≡ true → starts_by (if b then change else Stays) ≡ starts_by change
mark_or_stays true change role mark = refl
mark_or_stays false change role mark = absurd cc

answer_starts : (role : Role) (pdu : PduClass) (encrypts : Bool) (p : PhaseFacts) → marks_with pdu role ≡ true → is_mark (answer_change role pdu encrypts p) role ≡ true
    → starts_by (answer_change role pdu encrypts p) ≡ starts_with pdu role
answer_starts Central StartEncReq encrypts p marks mark = mark_or_stays (is_asked p) Starts Central mark
answer_starts Central PauseEncRsp encrypts p marks mark = mark_or_stays (may_follow Unlock p) (Moves Unlock) Central mark
answer_starts Peripheral StartEncRsp encrypts p marks mark = mark_or_stays (may_follow Confirm p) (Moves Confirm) Peripheral mark
answer_starts Peripheral PauseEncRsp encrypts p marks mark = mark_or_stays (may_follow Unlock p) (Moves Unlock) Peripheral mark
answer_starts role pdu encrypts p marks mark = absurd cc

abbrev taken_by : (allowed keeps lacks goes : Bool) → PduClass → Change → Change
taken_by allowed keeps lacks goes pdu answer =
    if allowed then (if keeps then Took pdu else (if lacks then Stays else (if goes then answer else Took pdu))) else Stays

taken_plain : (allowed keeps lacks goes : Bool) (pdu : PduClass) (answer : Change) (role : Role) → is_mark answer role ≡ false
    → is_mark (taken_by allowed keeps lacks goes pdu answer) role ≡ false
taken_plain false keeps lacks goes pdu answer role none = refl
taken_plain true true lacks goes pdu answer role none = refl
taken_plain true false true goes pdu answer role none = refl
taken_plain true false false true pdu answer role none = none
taken_plain true false false false pdu answer role none = refl

taken_mark : (allowed keeps lacks goes : Bool) (pdu : PduClass) (answer : Change) (role : Role)
    → is_mark (taken_by allowed keeps lacks goes pdu answer) role ≡ true → taken_by allowed keeps lacks goes pdu answer ≡ answer
taken_mark false keeps lacks goes pdu answer role mark = absurd cc
taken_mark true true lacks goes pdu answer role mark = absurd cc
taken_mark true false true goes pdu answer role mark = absurd cc
taken_mark true false false true pdu answer role mark = refl
taken_mark true false false false pdu answer role mark = absurd cc

module _ (role : Role) (read : CtrlRead) (slot : ℕ) (s : Phased) (role_is : role_now s ≡ role) where
  abbrev answer : Change
  answer = answer_change (role_now s) (class_of_read read) (has_encryption (seen_by_procedures read slot s).control.table.progress) s.phase

  pub change_plain : marks_with (class_of_read read) role ≡ false → is_mark (taken_change read slot s) role ≡ false
  change_plain none =
      taken_plain (is_allowed read s) (does_keep read s) (lacks_room_now read s) (is_none (seen_by_procedures read slot s).control.ends) (class_of_read read) answer role
      (ap (λ r. is_mark (answer_change r (class_of_read read) (has_encryption (seen_by_procedures read slot s).control.table.progress) s.phase) role) role_is
      ∙ answer_plain role (class_of_read read) (has_encryption (seen_by_procedures read slot s).control.table.progress) s.phase none)

  pub change_starts : marks_with (class_of_read read) role ≡ true → is_mark (taken_change read slot s) role ≡ true → starts_by (taken_change read slot s) ≡ starts_with (class_of_read read) role
  change_starts marks mark =
      let same = taken_mark (is_allowed read s) (does_keep read s) (lacks_room_now read s) (is_none (seen_by_procedures read slot s).control.ends) (class_of_read read) answer role mark in
      let own = ap (λ r. answer_change r (class_of_read read) (has_encryption (seen_by_procedures read slot s).control.table.progress) s.phase) role_is in
      ap starts_by (same ∙ own)
      ∙ answer_starts role (class_of_read read) (has_encryption (seen_by_procedures read slot s).control.table.progress) s.phase marks
      (ap (λ change. is_mark change role) (sym (same ∙ own)) ∙ mark)

-- ---- a step

-- a step that neither seals nor opens, and takes no PDU that starts or stops
abbrev pub is_plain : KeyedStep → Role → Bool
is_plain (Takes read slot response) role = not (marks_with (class_of_read read) role)
is_plain (Seals header body) role = false
is_plain (Opens header payload) role = false
is_plain step role = true

not_marks : (b : Bool) → not b ≡ true → b ≡ false
not_marks false is = refl
not_marks true is = absurd cc

role_at : (role : Role) (s : Phased) → IsAt role s → role_now s ≡ role
role_at role s at = ap role_now at.is ∙ (tied_now role at.max_rx at.first at.slot at.steps).is_role

key_there : (role : Role) (s : Phased) → IsAt role s → s.asks_key ≡ true → role ≡ Peripheral
key_there role s at = subst (λ (t : Phased). t.asks_key ≡ true → role ≡ Peripheral) (sym at.is) (tied_now role at.max_rx at.first at.slot at.steps).asked_at

module _ (role : Role) (k : Keyed) (sound : IsSound role k) (lasts : k.phased.control.ends ≡ None) where
  at_role : IsAt role k.phased
  at_role = sound.at lasts

  by_change : (step : PhasedStep) (m : KeyMaterial) → is_mark (change_of step k.phased) role ≡ false → SealsAlike k.end (end_changed (change_of step k.phased) m k.end)
  by_change step m none = changed_alike role (change_of step k.phased) k.phased.phase m k.end sound.here (may_at role k.phased at_role lasts step) none

  gives_plain : (b : Bool) → (k.phased.asks_key && is_open_now k.phased) ≡ b → is_mark (if b then Starts else Stays) role ≡ false
  gives_plain false is = refl
  gives_plain true is = ap is_central (key_there role k.phased at_role (and_parts k.phased.asks_key (is_open_now k.phased) is).0)

  lacks_plain : (b r : Bool) → is_mark (if b then (if r then Moves Refuse else Stays) else Stays) role ≡ false
  lacks_plain false r = refl
  lacks_plain true false = refl
  lacks_plain true true = refl

  moved_alike : (step : KeyedStep) → is_plain step role ≡ true → SealsAlike k.end (keyed_moved step k).end
  moved_alike (Enters slot) plain =
      by_change (phased_enters slot) _
      (mark_if (is_encrypt (begin_step (table_entered k.phased) slot (is_quiet_now k.phased)).1) (first_change k.phased.phase) role (first_plain k.phased.phase role))
  moved_alike (Asks ask) plain = alike k.end
  moved_alike (Answers answer) plain = alike k.end
  moved_alike (GivesKey ltk) plain = by_change phased_gives_key _ (gives_plain (k.phased.asks_key && is_open_now k.phased) refl)
  moved_alike LacksKey plain = by_change phased_lacks_key _ (lacks_plain (k.phased.asks_key && is_open_now k.phased) (may_follow Refuse k.phased.phase))
  moved_alike (Disconnects reason) plain = alike k.end
  moved_alike (Sends slot) plain = alike k.end
  moved_alike SeesAcknowledged plain = by_change phased_sees_acknowledged _ (mark_if (asks_again k.phased) (Moves Ask) role refl)
  moved_alike (Takes read slot response) plain =
      by_change (phased_takes read slot response) _ (change_plain role read slot k.phased (role_at role k.phased at_role) (not_marks (marks_with (class_of_read read) role) plain))
  moved_alike TakesData plain = alike k.end
  moved_alike (Seals header body) plain = absurd cc
  moved_alike (Opens header payload) plain = absurd cc

  -- it takes one that starts or stops
  pub takes_mark : (read : CtrlRead) (slot : ℕ) (response : Response) → marks_with (class_of_read read) role ≡ true → is_mark (taken_change read slot k.phased) role ≡ true
      → SealsAnew role (starts_with (class_of_read read) role) (keyed_after (Takes read slot response) k).end
  takes_mark read slot response marks_it mark =
      let step = phased_takes read slot response in
      subst (λ on. SealsAnew role on (keyed_after (Takes read slot response) k).end) (change_starts role read slot k.phased (role_at role k.phased at_role) marks_it mark)
      (subst (λ (b : Bool). SealsAnew role (starts_by (taken_change read slot k.phased)) (if b then keyed_moved (Takes read slot response) k else k).end)
      (sym (ap (λ (ends : Option ErrCode). is_none ends) lasts))
      (changed_anew role (change_of step k.phased) k.phased.phase _ k.end sound.here (may_at role k.phased at_role lasts step) mark))

pub plain_session : (step : KeyedStep) (role : Role) → is_plain step role ≡ true → is_of_session step ≡ false
plain_session (Seals header body) role plain = absurd cc
plain_session (Opens header payload) role plain = absurd cc
plain_session step role plain = refl

step_alike : (role : Role) (step : KeyedStep) (k : Keyed) → IsSound role k → is_plain step role ≡ true → SealsAlike k.end (keyed_after step k).end
step_alike role step k sound plain = by k.phased.control.ends refl
  where
    test : (ends : Option ErrCode) → k.phased.control.ends ≡ ends → is_none ends ≡ is_of_session step || is_none k.phased.control.ends
    test ends at =
        sym (ap (λ (b : Bool). b || is_none k.phased.control.ends) (plain_session step role plain) ∙ ap (λ (ends : Option ErrCode). is_none ends) at)

    by : (ends : Option ErrCode) → k.phased.control.ends ≡ ends → SealsAlike k.end (keyed_after step k).end
    by None lasts =
        subst (λ (b : Bool). SealsAlike k.end (if b then keyed_moved step k else k).end) (test None lasts) (moved_alike role k sound lasts step plain)
    by (Some code) over =
        subst (λ (b : Bool). SealsAlike k.end (if b then keyed_moved step k else k).end) (test (Some code) over) (alike k.end)

-- it takes one of them, and ignores it
pub ignored_alike : (role : Role) (read : CtrlRead) (slot : ℕ) (response : Response) (k : Keyed) → IsSound role k
    → (is_none k.phased.control.ends && is_mark (taken_change read slot k.phased) role) ≡ false → SealsAlike k.end (keyed_after (Takes read slot response) k).end
ignored_alike role read slot response k sound ignored = by k.phased.control.ends refl
  where
    by : (ends : Option ErrCode) → k.phased.control.ends ≡ ends → SealsAlike k.end (keyed_after (Takes read slot response) k).end
    by None lasts =
        let none : is_mark (taken_change read slot k.phased) role ≡ false =
        ap (λ (ends : Option ErrCode). is_none ends && is_mark (taken_change read slot k.phased) role) (sym lasts) ∙ ignored in
        subst (λ (b : Bool). SealsAlike k.end (if b then keyed_moved (Takes read slot response) k else k).end)
        (sym (ap (λ (ends : Option ErrCode). is_none ends) lasts)) (by_change role k sound lasts (phased_takes read slot response) _ none)
    by (Some code) over =
        subst (λ (b : Bool). SealsAlike k.end (if b then keyed_moved (Takes read slot response) k else k).end)
        (sym (ap (λ (ends : Option ErrCode). is_none ends) over)) (alike k.end)

-- ---- the steps of a line

abbrev pub is_plain_line : LineStep → Role → Bool
is_plain_line (Does step) role = is_plain step role
is_plain_line Accepts role = true
is_plain_line Forges role = true

abbrev pub ArePlain : Role → List LineStep → Type 0
ArePlain role steps = AllByRecursion (λ step. is_plain_line step role ≡ true) steps

pub record GoesOn (role : Role) (before after : Keyed) : Type 0 where
  pub sound : IsSound role after
  pub alike_then : SealsAlike before.end after.end

pub accepted_sound : (role : Role) (k : Keyed) → IsSound role k → IsSound role (record k { end = after_opening k.end })
accepted_sound role k sound = record { at = sound.at; here = end_opening role k.phased.phase k.material k.end sound.here }

forged_sound : (role : Role) (k : Keyed) → IsSound role k → IsSound role (keyed_forged k)
forged_sound role k sound = by (is_none k.phased.control.ends) refl
  where
    by : (goes : Bool) → is_none k.phased.control.ends ≡ goes → IsSound role (keyed_forged k)
    by true goes = record {
      at = λ lasts. absurd (let h : is_none (ended_by_forgery k.phased.control).ends ≡ true = ap (λ (ends : Option ErrCode). is_none ends) lasts in
          let over : is_none (ended_by_forgery k.phased.control).ends ≡ false = ap (λ (b : Bool). is_none (if b then ended (record { 0 = mic_failure }) k.phased.control else k.phased.control).ends) goes in
          let no : true ≡ false = sym h ∙ over in cc);
      here = sound.here;
    }
    by false over = record {
      at = λ lasts. absurd (let h : is_none (ended_by_forgery k.phased.control).ends ≡ true = ap (λ (ends : Option ErrCode). is_none ends) lasts in
          let still : is_none (ended_by_forgery k.phased.control).ends ≡ false = ap (λ (b : Bool). is_none (if b then ended (record { 0 = mic_failure }) k.phased.control else k.phased.control).ends) over ∙ over in
          let no : true ≡ false = sym h ∙ still in cc);
      here = sound.here;
    }

one_on : (role : Role) (step : LineStep) (k : Keyed) → IsSound role k → is_plain_line step role ≡ true → GoesOn role k (keyed_by step k)
one_on role (Does step) k sound plain = record {
  sound = step_sound role step k sound (plain_session step role plain);
  alike_then = step_alike role step k sound plain;
}
one_on role Accepts k sound plain = record { sound = accepted_sound role k sound; alike_then = record { role = refl; seals_too = refl; sent = refl } }
one_on role Forges k sound plain = record { sound = forged_sound role k sound; alike_then = alike k.end }

pub all_on : (role : Role) (steps : List LineStep) (k : Keyed) → IsSound role k → ArePlain role steps → GoesOn role k (keyed_by_all steps k)
all_on role [] k sound plain = record { sound = sound; alike_then = alike k.end }
all_on role (step ∷ steps) k sound plain =
    let first = one_on role step k sound plain.0 in
    let rest = all_on role steps (keyed_by step k) first.sound plain.1 in record {
      sound = rest.sound;
      alike_then = alike_both k.end (keyed_by step k).end (keyed_by_all steps (keyed_by step k)).end first.alike_then rest.alike_then;
    }
