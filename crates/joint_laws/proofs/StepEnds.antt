-- With which codes a step of one end with its phase may end the link, where few control PDUs wait and the phase allows what
-- is taken.
use Rattle.std.proofs.Common.{◌≡◌, ◌≤◌, ℕ, ◌+◌, nat_le, Bool, true, false, ◌&&◌, if◌then◌else◌, List, [], ◌∷◌, ◌++◌, Option, Some, None, is_some, refl, ap, sym, subst, ◌∙◌, arith, leb-true}
use Rattle.std.proofs.lemmas.List.{length-append}
use Rattle.ble_base.specs.ErrorCodes.{instant_passed, mic_failure}
use Rattle.ble_base.specs.declared.error_codes.ErrCode.{ErrCode}
use Rattle.ble_base.specs.declared.roles.Role.{Role}
use Rattle.ble_base.specs.declared.roles.Role.TheVariants.{Central, Peripheral}
use Rattle.data_pdu.specs.declared.ctrl.Ctrl.{Ctrl}
use Rattle.data_pdu.specs.declared.ctrl.CtrlRead.{CtrlRead}
use Rattle.data_pdu.specs.declared.ctrl.CtrlRead.TheVariants.{Known}
use Rattle.joint_parameters.specs.enc_phase.declared.classes.PduClass.TheVariants.{Data}
use Rattle.joint_parameters.specs.enc_phase.Taking.{allows}
use Rattle.instants.specs.declared.indications.Indication.{Indication}
use Rattle.joint_parameters.specs.procedure_values.declared.drafts.Draft.{Draft}
use Rattle.joint_parameters.specs.procedure_values.declared.drafts.Draft.TheVariants.{Cipher}
use Rattle.joint_parameters.specs.procedure_values.Drafts.{is_out}
use Rattle.joint_parameters.specs.procedure_stages.declared.closing.Closing.{Closing}
use Rattle.joint_parameters.specs.procedure_stages.declared.reply.Reply.{Reply}
use Rattle.joint_parameters.specs.procedure_stages.declared.reply.Reply.TheVariants.{Answer, Nothing as no_reply, Reject}
use Rattle.joint_parameters.specs.procedure_stages.declared.steps.Step.{Step as the_step}
use Rattle.joint_parameters.specs.procedure_stages.Closing.{is_open}
use Rattle.joint_parameters.specs.procedure_stages.InProgress.{is_host_asked}
use Rattle.joint_parameters.specs.procedure_stages.Kinds.{role_of}
use Rattle.joint_parameters.specs.procedure_stages.Queue.{QueueFacts, waiting_in, with_reply}
use Rattle.joint_parameters.specs.procedures.Going.{is_answer}
use Rattle.joint_parameters.specs.procedures.Table.{TableFacts}
use Rattle.joint_parameters.specs.procedures.Taking.{facts_with, lacks_room, no_room, outcome_of, took_step}
use Rattle.joint_parameters.specs.control_model.Control.{Control, Step, after, after_all, following, goes_out, moved, table_if, went}
use Rattle.joint_parameters.specs.control_model.Control.{Answers as control_answers, Asks as control_asks, Disconnects as control_disconnects, Enters as control_enters, Owes, SeesAcknowledged as control_sees_acknowledged, Sends as control_sends, Takes as control_takes}
use Rattle.joint_parameters.specs.control_model.Waits.{EndsByCollision}
use Rattle.joint_parameters.proofs.control_model.Calls.{any_step, either_way}
use Rattle.joint_parameters.specs.phased_control.Phased.{Phased, is_open_now, is_quiet_now}
use Rattle.joint_parameters.specs.phased_control.Taken.{PhasedStep, Response, Answers, Asks, Disconnects, Enters, GivesKey, LacksKey, SeesAcknowledged, Sends, Takes, TakesData, answered_kept, ciphered, ended_with, is_allowed, is_answered, lacks_room_now, phased_after, role_now, seen_as, took}
use Rattle.joint_parameters.specs.phased_control.Steps.{control_steps, end_by_phase, ended_if, owed_steps, read_answer, seen_by_procedures}
use Rattle.joint_parameters.proofs.phased_control.Agreeing.{lasts_answered}
use Rattle.joint_parameters.proofs.phased_control.Answering.{answers}
use Rattle.joint_parameters.proofs.phased_control.Moving.{moves_by_steps, open_phased, same_kept}
use Rattle.joint_parameters.proofs.control_model.Moving.{same_role}
use Rattle.joint_parameters.proofs.phased_control.Tables.{takes_as}
use Rattle.joint_parameters.proofs.phased_control.Taking.{handed_ways, took_ways}
use Rattle.joint_laws.proofs.PeerInQuiet.{ArePlain, IsPlain, owed_plain}
use Rattle.joint_laws.proofs.TakenEnds.{IsLate, TakenEnd, by_collision, no_end, takes_end, too_late}
use Rattle.joint_laws.proofs.Common.{settled_of}

-- ---- steps in which no PDU is taken

ends_if : (b : Bool) (g : TableFacts) (c : Control) → c.ends ≡ None → (table_if b g c).ends ≡ None
ends_if true g c lasts = lasts
ends_if false g c lasts = lasts

ends_following : (role : Role) (indication : Option Indication) (c : Control) → c.ends ≡ None → (following role indication c).ends ≡ None
ends_following Central None c lasts = lasts
ends_following Central (Some indication) c lasts = lasts
ends_following Peripheral indication c lasts = lasts

ends_moved : (step : Step) (c : Control) → IsPlain step → c.ends ≡ None → (moved step c).ends ≡ None
ends_moved (control_enters slot quiet) c plain lasts = lasts
ends_moved (control_asks ask) c plain lasts = lasts
ends_moved (control_answers answer) c plain lasts = ends_if (is_host_asked c.table.progress && is_answer answer) _ c lasts
ends_moved (control_disconnects reason) c plain lasts = ends_if (is_open c.table.closing) _ c lasts
ends_moved (control_sends slot quiet) c plain lasts =
    either_way (λ (d : Control). d.ends ≡ None) (goes_out quiet c) _ c
    (ends_following (role_of c.table.progress) (went slot quiet c).1 (record c { table = (went slot quiet c).0 }) lasts) lasts
ends_moved control_sees_acknowledged c plain lasts = ends_if (is_out c.table.out) _ c lasts
ends_moved (Owes ctrl) c plain lasts = lasts
ends_moved (control_takes read slot quiet) c plain lasts = absurd plain

ends_plain : (steps : List Step) (c : Control) → ArePlain steps → c.ends ≡ None → (after_all steps c).ends ≡ None
ends_plain [] c plain lasts = lasts
ends_plain (step ∷ steps) c plain lasts =
    ends_plain steps (after step c) plain.1 (any_step (λ (d : Control). d.ends ≡ None) step c (ends_moved step c plain.0 lasts) lasts)

plain_lasts : (step : PhasedStep) (s : Phased) → s.control.ends ≡ None → end_by_phase step s ≡ None → ArePlain (control_steps step s) → (phased_after step s).control.ends ≡ None
plain_lasts step s lasts none plain =
    ap (λ (c : Control). c.ends) (moves_by_steps step s lasts) ∙ ap (λ (code : Option ErrCode). (ended_if code (after_all (control_steps step s) s.control)).ends) none
    ∙ ends_plain (control_steps step s) s.control plain lasts

-- ---- how many control PDUs wait then

pushed_drafts : (b : Bool) (queue : QueueFacts) (draft : Draft) → waiting_in (if b then record queue { drafts = queue.drafts ++ draft ∷ [] } else queue) ≤ waiting_in queue + 1
pushed_drafts true queue draft = let more = length-append queue.drafts (draft ∷ []) in omega (arith, more)
pushed_drafts false queue draft = omega arith

reply_grows : (closing : Closing) (reply : Reply) (queue : QueueFacts) → waiting_in (with_reply closing reply queue) ≤ waiting_in queue + 1
reply_grows closing no_reply queue = omega arith
reply_grows closing (Reject rejection) queue = by (is_open closing)
  where
    by : (b : Bool) → waiting_in (if b then record queue { rejections = queue.rejections ++ rejection ∷ [] } else queue) ≤ waiting_in queue + 1
    by true = let more = length-append queue.rejections (rejection ∷ []) in omega (arith, more)
    by false = omega arith
reply_grows closing (Answer draft) queue = pushed_drafts (is_open closing) queue draft

settled_grows : (a b : Bool) (f k : TableFacts) (x y z : the_step) → waiting_in k.queue ≤ waiting_in f.queue + 1 → waiting_in (settled_of a b f k x y z).0.queue ≤ waiting_in f.queue + 1
settled_grows true b f k x y z less = omega arith
settled_grows false true f k x y z less = omega arith
settled_grows false false f k x y z less = less

table_grows : (f : TableFacts) (read : CtrlRead) (slot : ℕ) (quiet : Bool) → waiting_in (took_step f read slot quiet).0.queue ≤ waiting_in f.queue + 1
table_grows f read slot quiet =
    let o = outcome_of f quiet read in
    settled_grows (lacks_room f o) (is_some o.step.ends) f (facts_with f slot o) no_room o.step o.step (reply_grows f.closing o.reply f.queue)

abbrev waits : Control → ℕ
waits c = waiting_in c.table.queue

takes_grow : (read : CtrlRead) (slot : ℕ) (quiet : Bool) (c : Control) → c.ends ≡ None → waits (after (control_takes read slot quiet) c) ≤ waits c + 1
takes_grow read slot quiet c lasts = by (after (control_takes read slot quiet) c).ends refl
  where
    same : (f : TableFacts) → (after (control_takes read slot quiet) c).table ≡ f → waiting_in f.queue ≤ waits c + 1 → waits (after (control_takes read slot quiet) c) ≤ waits c + 1
    same f is less = subst (λ (g : TableFacts). waiting_in g.queue ≤ waits c + 1) (sym is) less

    by : (ends : Option ErrCode) → (after (control_takes read slot quiet) c).ends ≡ ends → waits (after (control_takes read slot quiet) c) ≤ waits c + 1
    by None is = same _ ((takes_as read slot quiet c lasts).goes is) (table_grows c.table read slot quiet)
    by (Some code) is = same _ ((takes_as read slot quiet c lasts).ends code is) (omega arith)

owed_grows : (owed : Option Ctrl) (c : Control) → waits (after_all (owed_steps owed) c) ≤ waits c + 1
owed_grows None c = omega arith
owed_grows (Some ctrl) c =
    any_step (λ (d : Control). waits d ≤ waits c + 1) (Owes ctrl) c (pushed_drafts (is_open c.table.closing) c.table.queue (Cipher ctrl)) (omega arith)

-- ---- a PDU is taken

pub data PhasedEnd (read : CtrlRead) (s : Phased) : Option ErrCode → Type 0 where
  still : PhasedEnd read s None
  collided : (code : ErrCode) → EndsByCollision (Some code) → PhasedEnd read s (Some code)
  -- an indication of a central that comes after its Instant
  passed : IsLate (seen_as read s) (is_quiet_now s) s.control → PhasedEnd read s (Some (record { 0 = instant_passed }))

not_full : (b c : Bool) (n : ℕ) → n ≤ 10 → (b && (nat_le 16 n && c)) ≡ false
not_full b c n less = by b (nat_le 16 n) refl
  where
    by : (x full : Bool) → nat_le 16 n ≡ full → (x && (full && c)) ≡ false
    by false full is = refl
    by true false is = refl
    by true true is = let more = leb-true 16 n is in absurd (omega (arith, more, less))

true_false : {A : Type 0} (b : Bool) → b ≡ true → b ≡ false → A
true_false true is not_is = absurd (cc)
true_false false is not_is = absurd (cc)

module _ (slot : ℕ) (response : Response) (read : CtrlRead) (s : Phased) (lasts : s.control.ends ≡ None) (few : waiting_in s.control.table.queue ≤ 10)
    (allowed : is_allowed read s ≡ true) (none_kept : role_now s ≡ Peripheral → s.kept ≡ None) where
  abbrev P : Phased → Type 0
  P u = PhasedEnd read s u.control.ends

  room_of : lacks_room_now read s ≡ false
  room_of = not_full (is_open_now s) (is_answered read s) (waiting_in s.control.table.queue) few

  seen_end : (ends : Option ErrCode) → TakenEnd (seen_as read s) (is_quiet_now s) s.control ends → PhasedEnd read s ends
  seen_end None no_end = still
  seen_end (Some code) (by_collision other met) = collided code met
  seen_end (Some code) (too_late is) = passed is

  end_seen : PhasedEnd read s (seen_by_procedures read slot s).control.ends
  end_seen = seen_end _ (takes_end (seen_as read s) slot (is_quiet_now s) s.control lasts (omega (arith, few)))

  still_of : (u : Phased) → u.control.ends ≡ None → P u
  still_of u goes = subst (PhasedEnd read s) (sym goes) still

  -- what was kept is taken
  kept_end : (kept : Option Ctrl) (u : Phased) → u.control.ends ≡ None → waits u.control ≤ 12 → (role_now u ≡ Peripheral → kept ≡ None) → P (answered_kept slot kept u)
  kept_end None u goes less none = still_of u goes
  kept_end (Some ctrl) u goes less none =
      by (after (control_takes (Known ctrl) slot true) u.control).ends (takes_end (Known ctrl) slot true u.control goes (omega (arith, less)))
    where
      by : (ends : Option ErrCode) → TakenEnd (Known ctrl) true u.control ends → PhasedEnd read s ends
      by None taken = still
      by (Some code) (by_collision other met) = collided code met
      by (Some code) (too_late is) = absurd (let kept = none is.role in cc)

  answered_room : (seen_by_procedures read slot s).control.ends ≡ None → waits (ciphered response read (seen_by_procedures read slot s)).control ≤ 12
  answered_room goes =
      let t = seen_by_procedures read slot s in
      let one = takes_grow (seen_as read s) slot (is_quiet_now s) s.control lasts in
      let two = owed_grows (read_answer (role_now t) response read t.phase) t.control in
      subst (λ (u : Phased). waits u.control ≤ 12) (sym (answers t response read)) (omega (arith, one, two, few))

  role_back : (seen_by_procedures read slot s).control.ends ≡ None → (role : Role) → role_now s ≡ role → role_now (ciphered response read (seen_by_procedures read slot s)) ≡ role
  role_back goes role is =
      let t = seen_by_procedures read slot s in
      subst (λ (u : Phased). role_now u ≡ role) (sym (answers t response read))
      (all (owed_steps (read_answer (role_now t) response read t.phase)) t.control (same_role role (control_takes (seen_as read s) slot (is_quiet_now s)) s.control is))
    where
      all : (steps : List Step) (c : Control) → role_of c.table.progress ≡ role → role_of (after_all steps c).table.progress ≡ role
      all [] c is = is
      all (step ∷ steps) c is = all steps (after step c) (same_role role step c is)

  kept_there : (seen_by_procedures read slot s).control.ends ≡ None → role_now (ciphered response read (seen_by_procedures read slot s)) ≡ Peripheral
      → (ciphered response read (seen_by_procedures read slot s)).kept ≡ None
  kept_there goes there = same_kept response read (seen_by_procedures read slot s) ∙ none_kept (by (role_now s) refl)
    where
      by : (role : Role) → role_now s ≡ role → role_now s ≡ Peripheral
      by Peripheral is = is
      by Central is = let here = role_back goes Central is in absurd (apart (sym here ∙ there))
        where
          apart : ◌≡◌ {A = Role} Central Peripheral → ⊥
          apart is = absurd (cc)

  took_end : P (took slot response read s)
  took_end =
      took_ways P slot response read s (λ no_way. true_false (is_allowed read s) allowed no_way) (λ a. λ keeps. still_of s lasts)
      (λ a. λ keeps. λ full. true_false (lacks_room_now read s) full room_of)
      (λ a. λ keeps. λ full. handed_ways P slot response read s (λ code. λ over. end_seen)
      (λ goes. λ loud. still_of (ciphered response read (seen_by_procedures read slot s)) (lasts_answered response read (seen_by_procedures read slot s) goes))
      (λ goes. λ quiet. kept_end (ciphered response read (seen_by_procedures read slot s)).kept (ciphered response read (seen_by_procedures read slot s))
      (lasts_answered response read (seen_by_procedures read slot s) goes) (answered_room goes) (kept_there goes)))

  pub takes_phased : PhasedEnd read s (phased_after (Takes read slot response) s).control.ends
  takes_phased = open_phased P (Takes read slot response) s lasts took_end

-- data that the phase allows
pub data_lasts : (s : Phased) → s.control.ends ≡ None → allows s.phase (role_now s) Data ≡ true → (phased_after TakesData s).control.ends ≡ None
data_lasts s lasts may = open_phased (λ (t : Phased). t.control.ends ≡ None) TakesData s lasts (by (allows s.phase (role_now s) Data) may)
  where
    by : (b : Bool) → b ≡ true → (if b then s else ended_with mic_failure s).control.ends ≡ None
    by true is = lasts
    by false is = absurd (cc)

-- a step in which nothing is taken
abbrev pub takes_nothing : PhasedStep → Bool
takes_nothing (Takes read slot response) = false
takes_nothing TakesData = false
takes_nothing step = true

pub others_last : (step : PhasedStep) (s : Phased) → takes_nothing step ≡ true → s.control.ends ≡ None → (phased_after step s).control.ends ≡ None
others_last (Enters slot) s is lasts = plain_lasts (Enters slot) s lasts refl (tt, owed_plain _)
others_last (Asks ask) s is lasts = plain_lasts (Asks ask) s lasts refl (tt, tt)
others_last (Answers answer) s is lasts = plain_lasts (Answers answer) s lasts refl (tt, tt)
others_last GivesKey s is lasts = plain_lasts GivesKey s lasts refl (owed_plain _)
others_last LacksKey s is lasts = plain_lasts LacksKey s lasts refl (owed_plain _)
others_last (Disconnects reason) s is lasts = plain_lasts (Disconnects reason) s lasts refl (tt, tt)
others_last (Sends slot) s is lasts = plain_lasts (Sends slot) s lasts refl (tt, tt)
others_last SeesAcknowledged s is lasts = plain_lasts SeesAcknowledged s lasts refl (tt, owed_plain _)
others_last (Takes read slot response) s is lasts = absurd (cc)
others_last TakesData s is lasts = absurd (cc)
