-- The calls that a PDU of the peer leads to may come, and so may those of all steps.
use Rattle.std.proofs.Common.{◌≡◌, ℕ, ◌≤◌, ◌<◌, Bool, true, false, not, if◌then◌else◌, List, [], ◌∷◌, Option, Some, None, is_none, is_some, refl, sym, ap, subst, ◌∙◌, arith}
use Rattle.std.specs.List.{AllByRecursion}
use Rattle.ble_base.specs.ErrorCodes.{memory_capacity_exceeded, mic_failure}
use Rattle.ble_base.specs.declared.error_codes.ErrCode.{ErrCode}
use Rattle.ble_base.specs.declared.procedure_kinds.Kind.TheVariants.{Encrypt}
use Rattle.ble_base.specs.declared.roles.Role.{Role}
use Rattle.ble_base.specs.declared.roles.Role.TheVariants.{Central, Peripheral}
use Rattle.data_pdu.specs.declared.ctrl.Ctrl.{Ctrl}
use Rattle.data_pdu.specs.declared.ctrl.CtrlRead.{CtrlRead}
use Rattle.data_pdu.specs.declared.ctrl.CtrlRead.TheVariants.{Known}
use Rattle.enc_phase.specs.Taking.{allows, is_unknown}
use Rattle.table_laws.specs.procedure_stages.Closing.{is_open}
use Rattle.table_laws.specs.procedure_stages.Kinds.{own_kind, role_of}
use Rattle.table_laws.specs.procedure_stages.Queue.{QueueFacts, waiting_in}
use Rattle.table_laws.specs.procedures.Calls.{Call, takes}
use Rattle.table_laws.specs.procedures.Table.{TableFacts}
use Rattle.table_laws.specs.procedures.Taking.{took_step}
use Rattle.table_laws.specs.Encrypting.{has_encryption}
use Rattle.table_laws.specs.Pasts.{HasRoomToAnswer, May, key_after_calls}
use Rattle.table_laws.specs.Quiet.{first_pdus_waiting}
use Rattle.table_laws.specs.Waiting.{own_waiting}
use Rattle.control_model.specs.Control.{Control, Step, after, after_all, took as control_took}
use Rattle.control_model.specs.Control.{Takes as control_takes}
use Rattle.phased_control.specs.Calls.{all_calls, calls_now}
use Rattle.phased_control.specs.Ciphers.{IsInTurn, ciphers_waiting, is_of_encryption}
use Rattle.phased_control.specs.Phased.{Phased, is_open_now, is_quiet_now}
use Rattle.phased_control.specs.Taken.{Response, Takes, answered_if_quiet, answered_kept, ciphered, class_of_read, does_keep, ended_with, handed_on, is_allowed, is_answered, keeping, lacks_room_now, role_now, seen_as, seen_if}
use Rattle.phased_control.specs.Steps.{handed_steps, kept_steps, later_steps, read_answer, owed_steps, seen_by_procedures}
use Rattle.phased_control.proofs.AnswerParts.{key_answering}
use Rattle.phased_control.proofs.Agreeing.{Agrees, agrees_taking, lasts_answered}
use Rattle.phased_control.proofs.Answering.{answers}
use Rattle.phased_control.proofs.Calling.{keys_joined}
use Rattle.phased_control.proofs.Extending.{At, Fine, IsNoRequest, OwedMay, encrypts_kind, fine_joined, fine_none, fine_owed, fine_step, key_now, key_owed, lists_joined, may_if, no_own, none_first, opens_before_all, passes_if}
use Rattle.phased_control.proofs.Kept.{Tied, role_owed}
use Rattle.phased_control.proofs.Requests.{encrypts}
use Rattle.phased_control.proofs.Rooms.{AreAnswers, answers_of, room_left, same_queue}
use Rattle.control_model.proofs.Moving.{same_role}
use Rattle.phased_control.proofs.Tables.{takes_as}
use Rattle.table_laws.specs.procedures.declared.outcome.Outcome.{Outcome}
use Rattle.table_laws.specs.procedure_stages.declared.steps.Step.{Step as TableStep}
use Rattle.table_laws.specs.procedures.Taking.{facts_with, lacks_room, no_room, outcome_of}
use Rattle.table_laws.proofs.Outcomes.{took as took_outcome}
use Rattle.phased_control.proofs.Extending.{opens_before}
use Rattle.phased_control.proofs.Lawful.{Fits, KeyFits, answered_in, has_of_kind, key_answered, key_single, none_of_kind, runs_on}

role_took : (f : TableFacts) (read : CtrlRead) (slot : ℕ) (quiet : Bool) → role_of (took_step f read slot quiet).0.progress ≡ role_of f.progress
role_took f read slot quiet = by (lacks_room f o) (is_some o.step.ends)
  where
    o : Outcome
    o = outcome_of f quiet read

    of : Bool → Bool → TableFacts × TableStep
    of a b = (if a then (f, no_room) else (if b then (f, o.step) else (facts_with f slot o, o.step)))

    by : (a b : Bool) → role_of (of a b).0.progress ≡ role_of f.progress
    by true b = refl
    by false true = refl
    by false false = (took_outcome f quiet read).role

-- no own request waits where no PDU of the encryption does
none_waits : (f : TableFacts) → ciphers_waiting f ≡ [] → first_pdus_waiting f ≡ 0 → own_waiting f ≡ 0
none_waits f none first = no_own f (subst (λ (ctrls : List Ctrl). AllByRecursion IsNoRequest ctrls) (sym none) tt) first

two_ways : {X : Type 0} → true ≡ false → X
two_ways e = absurd (cc)

asks_key_kept : (slot : ℕ) (kept : Option Ctrl) (s : Phased) → (answered_kept slot kept s).asks_key ≡ s.asks_key
asks_key_kept slot None s = refl
asks_key_kept slot (Some ctrl) s = refl

opens_kept : (slot : ℕ) (kept : Option Ctrl) (s : Phased) → is_open_now (answered_kept slot kept s) ≡ true → is_open_now s ≡ true
opens_kept slot None s opens = opens
opens_kept slot (Some ctrl) s opens = opens_before (control_takes (Known ctrl) slot true) s.control opens

module _ (role : Role) (max_rx : ℕ) (past : List Call) (slot : ℕ) (response : Response) (read : CtrlRead) (s : Phased) (key : Bool) (at : At role max_rx past s.control.table key)
    (lasts : s.control.ends ≡ None) (tied : Tied role s) (agrees : Agrees s) (turn : role ≡ Central → IsInTurn (Takes read slot response) s) (asked : KeyFits s key) where
  abbrev f : TableFacts
  f = s.control.table

  abbrev x : Step
  x = control_takes (seen_as read s) slot (is_quiet_now s)

  abbrev t : Phased
  t = seen_by_procedures read slot s

  abbrev g : TableFacts
  g = (took_step f (seen_as read s) slot (is_quiet_now s)).0

  -- ---- the call that takes it

  may_take : is_allowed read s ≡ true → May f key (takes (seen_as read s) slot (is_quiet_now s))
  may_take allowed own waits = by role refl
    where
      at_central : role ≡ Central → own_kind g.progress ≡ Some Encrypt
      at_central is =
          let role_s : role_now s ≡ Central = tied.is_role ∙ is in
          let has = has_of_kind f.progress role_s own in
          let loud : is_quiet_now s ≡ false = agrees ∙ ap not has in
          let there : allows s.phase Central (class_of_read read) ≡ true = subst (λ (r : Role). allows s.phase r (class_of_read read) ≡ true) role_s allowed in
          let first = none_first max_rx past f key (subst (λ (r : Role). At r max_rx past f key) is at) has in
          let role_g : role_of g.progress ≡ Central = role_took f (seen_as read s) slot (is_quiet_now s) ∙ role_s in
          encrypts_kind g.progress role_g (still is role_s has loud there first (is_of_encryption (class_of_read read)) refl)
        where
          still : role ≡ Central → role_now s ≡ Central → has_encryption f.progress ≡ true → is_quiet_now s ≡ false → allows s.phase Central (class_of_read read) ≡ true → first_pdus_waiting f ≡ 0
              → (b : Bool) → is_of_encryption (class_of_read read) ≡ b → has_encryption g.progress ≡ true
          still is role_s has loud there first true of = let none = none_waits f (turn is of) first in absurd (too_few (own_waiting f) waits none)
            where
              too_few : (n : ℕ) → 1 ≤ n → n ≡ 0 → ⊥
              too_few n one none = omega (arith, one, none)
          still is role_s has loud there first false of =
              subst (λ (r : Role). has_encryption (took_step f (seen_if (is_unknown s.phase r (class_of_read read)) read) slot (is_quiet_now s)).0.progress ≡ true) (sym role_s)
              (runs_on read s.phase f slot role_s loud there of has)

      by : (r : Role) → role ≡ r → own_kind g.progress ≡ Some Encrypt
      by Central is = at_central is
      by Peripheral is = absurd (none_of_kind f.progress (tied.is_role ∙ is) own)

  -- ---- the answer

  role_t : role_now t ≡ role_now s
  role_t = same_role (role_now s) x s.control refl

  abbrev owed : Option Ctrl
  owed = read_answer (role_now t) response read t.phase

  owed_may : does_keep read s ≡ false → lacks_room_now read s ≡ false → t.control.ends ≡ None → OwedMay t.control key owed
  owed_may keeps full goes = by owed here
    where
      here : AreAnswers (role_now s) read s.phase owed
      here = subst (λ (r : Role). AreAnswers (role_now s) read s.phase (read_answer r response read t.phase)) (sym role_t) (answers_of (role_now s) response read s.phase)

      table : t.control.table ≡ g
      table = (takes_as (seen_as read s) slot (is_quiet_now s) s.control lasts).goes goes

      by : (o : Option Ctrl) → AreAnswers (role_now s) read s.phase o → OwedMay t.control key o
      by None h = tt
      by (Some ctrl) h =
          λ opens.
          let queue : t.control.table.queue ≡ f.queue = ap (λ (h : TableFacts). h.queue) table ∙ same_queue f slot (role_now s) read s.phase refl h.answered in
          let room : HasRoomToAnswer f = room_left (waiting_in f.queue) (is_open_now s) (is_answered read s) full (opens_before x s.control opens) (answered_in read s ∙ h.answered) in
          h.gives t.control.table.progress t.control.table key role_t (subst (λ (q : QueueFacts). waiting_in q < 16) (sym queue) room)

  -- ---- what was kept

  kept_fine : (b : Bool) (kept : Option Ctrl) (u : Phased) (k : Bool) → is_quiet_now u ≡ b → Agrees u → role_now u ≡ role → u.control.ends ≡ None
      → Fine u.control k (if b then kept_steps slot kept else [])
  kept_fine false kept u k is agrees_u role_u lasts_u = fine_none u.control k
  kept_fine true None u k is agrees_u role_u lasts_u = fine_none u.control k
  kept_fine true (Some ctrl) u k is agrees_u role_u lasts_u =
      fine_step (control_takes (Known ctrl) slot true) [] u.control k refl lasts_u
      (may_if (is_none (control_took (Known ctrl) slot true u.control).ends) (takes (Known ctrl) slot true) u.control.table k (λ h. λ own. λ waits. absurd (no_own_kind own)))
      (passes_if (is_none (control_took (Known ctrl) slot true u.control).ends) (takes (Known ctrl) slot true) u.control.table (λ h. sym is ∙ agrees_u))
      (fine_none (after (control_takes (Known ctrl) slot true) u.control) k)
    where
      none_runs : (b : Bool) → true ≡ not b → b ≡ true → ⊥
      none_runs true h e = absurd (cc)
      none_runs false h e = absurd (cc)

      no_own_kind : own_kind u.control.table.progress ≡ Some Encrypt → ⊥
      no_own_kind own = by role refl
        where
          by : (r : Role) → role ≡ r → ⊥
          by Central h = none_runs (encrypts u) (sym is ∙ agrees_u) (has_of_kind u.control.table.progress (role_u ∙ h) own)
          by Peripheral h = none_of_kind u.control.table.progress (role_u ∙ h) own

  kept_key : (b : Bool) (kept : Option Ctrl) (c : Control) (k : Bool) → key_after_calls k (all_calls (if b then kept_steps slot kept else []) c) ≡ k
  kept_key false kept c k = refl
  kept_key true None c k = refl
  kept_key true (Some ctrl) c k = key_single (control_takes (Known ctrl) slot true) c k refl

  -- ---- the whole

  steps_if : Bool → List Step
  steps_if goes = if goes then later_steps slot response read t else []

  state_if : Bool → Phased
  state_if goes = if goes then answered_if_quiet slot (ciphered response read t) else t

  record Goes (goes : Bool) : Type 0 where
    fine : Fine t.control key (steps_if goes)
    asked_then : is_open_now (state_if goes) ≡ true → key_after_calls key (all_calls (steps_if goes) t.control) ≡ (state_if goes).asks_key

  opens_s : is_open_now t ≡ true → is_open_now s ≡ true
  opens_s opens = opens_before x s.control opens

  goes_none : Goes false
  unfolding steps_if state_if
  goes_none = record { fine = fine_none t.control key; asked_then = λ opens. asked (opens_s opens) }

  goes_some : is_allowed read s ≡ true → does_keep read s ≡ false → lacks_room_now read s ≡ false → t.control.ends ≡ None → Goes true
  unfolding steps_if state_if
  goes_some allowed keeps full goes =
      record {
        fine =
            fine_joined (owed_steps owed) ks t.control key (fine_owed owed t.control key (owed_may keeps full goes))
            (subst (λ (c : Control). Fine c (key_after_calls key (all_calls (owed_steps owed) t.control)) ks) control_u (kept_fine q t.kept u _ refl agrees_u role_u lasts_u));
        asked_then = λ opens.
            let open_u : is_open_now u ≡ true = opens_quiet q u.kept opens in
            let open_t : is_open_now t ≡ true = opens_before_all (owed_steps owed) t.control (subst (λ (c : Control). is_open c.table.closing ≡ true) control_u open_u) in
            ap (λ (calls : List Call). key_after_calls key calls) (lists_joined (owed_steps owed) ks t.control)
            ∙ keys_joined (all_calls (owed_steps owed) t.control) (all_calls ks (after_all (owed_steps owed) t.control)) key
            ∙ kept_key q t.kept (after_all (owed_steps owed) t.control) (key_after_calls key (all_calls (owed_steps owed) t.control))
            ∙ key_owed owed t.control key goes
            ∙ key_answered (role_now t) response read t.phase key
            ∙ ap (key_answering (role_now t) read t.phase true) (asked (opens_s open_t))
            ∙ ap (λ (b : Bool). key_answering (role_now t) read t.phase b s.asks_key) (sym open_t)
            ∙ sym (ap (λ (v : Phased). v.asks_key) (answers t response read))
            ∙ sym (asks_key_quiet q u.kept);
      }
    where
      u : Phased
      u = ciphered response read t

      q : Bool
      q = is_quiet_now u

      ks : List Step
      ks = if q then kept_steps slot t.kept else []

      control_u : u.control ≡ after_all (owed_steps owed) t.control
      control_u = ap (λ (v : Phased). v.control) (answers t response read)

      agrees_u : Agrees u
      agrees_u = agrees_taking slot response read role s tied lasts allowed agrees goes

      lasts_u : u.control.ends ≡ None
      lasts_u = lasts_answered response read t goes

      role_u : role_now u ≡ role
      role_u =
          ap (λ (c : Control). role_of c.table.progress) control_u ∙ role_owed role owed t.control (role_t ∙ tied.is_role)

      opens_quiet : (b : Bool) (kept : Option Ctrl) → is_open_now (if b then answered_kept slot kept u else u) ≡ true → is_open_now u ≡ true
      opens_quiet true kept opens = opens_kept slot kept u opens
      opens_quiet false kept opens = opens

      asks_key_quiet : (b : Bool) (kept : Option Ctrl) → (if b then answered_kept slot kept u else u).asks_key ≡ u.asks_key
      asks_key_quiet true kept = asks_key_kept slot kept u
      asks_key_quiet false kept = refl

  is_none_none : (ends : Option ErrCode) → is_none ends ≡ true → ends ≡ None
  is_none_none None h = refl
  is_none_none (Some code) h = absurd (cc)

  pub fits_takes : Fits (Takes read slot response) s key
  unfolding steps_if state_if
  fits_takes = record { fine = (by (is_allowed read s) (does_keep read s) (lacks_room_now read s) refl refl refl).0; asked = (by (is_allowed read s) (does_keep read s) (lacks_room_now read s) refl refl refl).1 }
    where
      steps : Bool → Bool → Bool → List Step
      steps a k f = (if a then (if k then [] else (if f then [] else handed_steps slot response read s)) else [])

      state : Bool → Bool → Bool → Phased
      state a k f = (if a then (if k then keeping read s else (if f then ended_with memory_capacity_exceeded s else handed_on slot response read s)) else ended_with mic_failure s)

      handed : is_allowed read s ≡ true → does_keep read s ≡ false → lacks_room_now read s ≡ false
          → Fine s.control key (handed_steps slot response read s) × (is_open_now (handed_on slot response read s) ≡ true → key_after_calls key (all_calls (handed_steps slot response read s) s.control) ≡ (handed_on slot response read s).asks_key)
      handed allowed keeps full = more (is_none t.control.ends) refl
        where
          more : (b : Bool) → is_none t.control.ends ≡ b
              → Fine s.control key (x ∷ steps_if b) × (is_open_now (state_if b) ≡ true → key_after_calls key (all_calls (x ∷ steps_if b) s.control) ≡ (state_if b).asks_key)
          more b is =
              let goes = choose b is in (
                fine_step x (steps_if b) s.control key refl lasts
                    (may_if (is_none (control_took (seen_as read s) slot (is_quiet_now s) s.control).ends) (takes (seen_as read s) slot (is_quiet_now s)) f key (λ h. may_take allowed))
                    (passes_if (is_none (control_took (seen_as read s) slot (is_quiet_now s) s.control).ends) (takes (seen_as read s) slot (is_quiet_now s)) f (λ h. agrees)) goes.fine,
                λ opens.
                    keys_joined (calls_now x s.control) (all_calls (steps_if b) t.control) key ∙ ap (λ (k : Bool). key_after_calls k (all_calls (steps_if b) t.control)) (key_now x s.control key refl)
                    ∙ goes.asked_then opens,
              )
            where
              choose : (b : Bool) → is_none t.control.ends ≡ b → Goes b
              choose true is = goes_some allowed keeps full (is_none_none t.control.ends is)
              choose false is = goes_none

      by : (a k f : Bool) → is_allowed read s ≡ a → does_keep read s ≡ k → lacks_room_now read s ≡ f
          → Fine s.control key (steps a k f) × (is_open_now (state a k f) ≡ true → key_after_calls key (all_calls (steps a k f) s.control) ≡ (state a k f).asks_key)
      by false k f is1 is2 is3 = (fine_none s.control key, asked)
      by true true f is1 is2 is3 = (fine_none s.control key, asked)
      by true false true is1 is2 is3 = (fine_none s.control key, asked)
      by true false false is1 is2 is3 = handed is1 is2 is3
