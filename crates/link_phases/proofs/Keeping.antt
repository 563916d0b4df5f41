-- What an end keeps, step by step: a central keeps the first PDU of a procedure of its peer that comes while its encryption
-- runs, until its phase is Clear or Secure again.
use Rattle.std.proofs.Common.{◌≡◌, ℕ, nat_le, ◌&&◌, not, Bool, true, false, List, Option, Some, None, is_none, refl, ap, sym, subst, ◌∙◌, if◌then◌else◌}
use Rattle.ble_base.specs.ErrorCodes.{mic_failure}
use Rattle.ble_base.specs.declared.error_codes.ErrCode.{ErrCode}
use Rattle.data_pdu.specs.declared.ctrl.Ctrl.{Ctrl}
use Rattle.data_pdu.specs.declared.ctrl.CtrlRead.{CtrlRead}
use Rattle.data_pdu.specs.declared.ctrl.CtrlRead.TheVariants.{Bare, Known, Unknown}
use Rattle.link_model.specs.Acknowledgement.{Pdu}
use Rattle.link_model.specs.Controls.{read_of}
use Rattle.link_model.specs.Entering.{keyed_entered}
use Rattle.link_model.specs.Facts.{Facts, keyed_of}
use Rattle.link_model.specs.Hosts.{key_step}
use Rattle.link_model.specs.Receiving.{data_taken, is_seen, keyed_acked_if, keyed_taken}
use Rattle.link_model.specs.enc_phase.declared.classes.PduClass.TheVariants.{Data}
use Rattle.link_model.specs.enc_phase.declared.facts.PhaseFacts.{PhaseFacts}
use Rattle.link_model.specs.enc_phase.declared.facts.PhaseFacts.TheVariants.{Clear}
use Rattle.link_model.specs.enc_phase.Phases.{is_quiet, may_follow}
use Rattle.link_model.specs.enc_phase.declared.facts.Transition.TheVariants.{Refuse}
use Rattle.link_model.specs.enc_phase.Taking.{allows}
use Rattle.link_model.specs.keyed_control.Keyed.{Keyed}
use Rattle.link_model.specs.keyed_control.KeyedSteps.{KeyedStep, Enters as keyed_enters, GivesKey as keyed_gives_key, LacksKey as keyed_lacks_key, SeesAcknowledged as keyed_sees_acknowledged, Takes as keyed_takes, TakesData as keyed_takes_data, keyed_after, phased_step}
use Rattle.link_model.specs.phased_control.Phased.{Phased, ask_begun, asking_if, asks_again, encrypting, encrypting_if, is_encrypt, is_open_now, is_quiet_now, key_given, key_lacking, refused_if, request_of, table_entered, with_owed_if, with_step}
use Rattle.link_model.specs.phased_control.Steps.{seen_by_procedures}
use Rattle.link_model.specs.phased_control.Taken.{PhasedStep, Response, Answers, Asks, Disconnects, Enters, GivesKey, LacksKey, SeesAcknowledged, Sends, Takes, TakesData, answered_kept, ciphered, class_of_read, ctrl_in, does_keep, ended_with, is_allowed, is_answered, keeps_class, lacks_room_now, phased_after, phased_moved, role_now, took}
use Rattle.link_model.specs.phased_end.Held.{held_of as keyed_held}
use Rattle.link_model.specs.phased_end.Taking.{Fits, drawn, is_answered_in, is_handed}
use Rattle.link_model.specs.procedure_stages.Closing.{is_open}
use Rattle.link_model.specs.procedure_stages.Queue.{waiting_in}
use Rattle.link_model.specs.procedures.Beginning.{begin_step}
use Rattle.link_model.specs.control_model.Control.{Enters as control_enters, SeesAcknowledged as control_sees_acknowledged}
use Rattle.link_model.proofs.Views.{Knows}
use Rattle.link_model.proofs.phased_end.keyed_control.Phases.{after_one, phased_once}
use Rattle.link_model.proofs.phased_end.keyed_control.phased_control.Moving.{same_kept}
use Rattle.link_model.proofs.phased_end.keyed_control.phased_control.Taking.{handed_ways, took_ways}

-- what is kept, as a PDU that was read
abbrev pub kept_read : Option Ctrl → CtrlRead
kept_read None = Bare
kept_read (Some ctrl) = Known ctrl

-- ---- steps in which no PDU of the peer is taken

abbrev IsTaken : PhasedStep → Type 0
IsTaken (Takes read slot response) = ⊥
IsTaken step = Unit {0}

either_keeps : (b : Bool) (t s : Phased) → t.kept ≡ s.kept → (if b then t else s).kept ≡ s.kept
either_keeps true t s is = is
either_keeps false t s is = refl

owed_keeps : (request : Option Ctrl) (s : Phased) → (with_owed_if request s).kept ≡ s.kept
owed_keeps None s = refl
owed_keeps (Some ctrl) s = refl

encrypting_keeps : (begins : Bool) (request : Option Ctrl) (s : Phased) → (encrypting_if begins request s).kept ≡ s.kept
encrypting_keeps false request s = refl
encrypting_keeps true request s = by s.phase (record s { request = request })
  where
    by : (phase : PhaseFacts) (t : Phased) → (encrypting phase t).kept ≡ t.kept
    by Clear t = owed_keeps t.request _
    by phase t = refl

asking_keeps : (asks : Bool) (s : Phased) → (asking_if asks s).kept ≡ s.kept
asking_keeps true s = owed_keeps s.request _
asking_keeps false s = refl

refused_keeps : (may : Bool) (s : Phased) → (refused_if may s).kept ≡ s.kept
refused_keeps true s = refl
refused_keeps false s = refl

moved_keeps : (step : PhasedStep) (s : Phased) → IsTaken step → (phased_moved step s).kept ≡ s.kept
moved_keeps (Enters slot) s other =
    encrypting_keeps (is_encrypt (begin_step (table_entered s) slot (is_quiet_now s)).1) (request_of (ask_begun (table_entered s) (is_quiet_now s)))
    (with_step (control_enters slot (is_quiet_now s)) s)
moved_keeps (Asks ask) s other = refl
moved_keeps (Answers answer) s other = refl
moved_keeps GivesKey s other = either_keeps (s.asks_key && is_open_now s) (key_given s) s refl
moved_keeps LacksKey s other = either_keeps (s.asks_key && is_open_now s) (key_lacking s) s (refused_keeps (may_follow Refuse s.phase) s)
moved_keeps (Disconnects reason) s other = refl
moved_keeps (Sends slot) s other = refl
moved_keeps SeesAcknowledged s other = asking_keeps (asks_again s) (with_step control_sees_acknowledged s)
moved_keeps TakesData s other = by (allows s.phase (role_now s) Data)
  where
    by : (allowed : Bool) → (if allowed then s else ended_with mic_failure s).kept ≡ s.kept
    by true = refl
    by false = refl
moved_keeps (Takes read slot response) s other = absurd other

phased_keeps : (step : PhasedStep) (s : Phased) → IsTaken step → (phased_after step s).kept ≡ s.kept
phased_keeps step s other = either_keeps (is_none s.control.ends) (phased_moved step s) s (moved_keeps step s other)

keyed_keeps : (step : PhasedStep) (of : KeyedStep) (k : Keyed) → phased_step of ≡ Some step → IsTaken step → (keyed_after of k).phased.kept ≡ k.phased.kept
keyed_keeps step of k is other =
    ap (λ (s : Phased). s.kept) (phased_once of k) ∙ ap (λ (one : Option PhasedStep). (after_one one k.phased).kept) is ∙ phased_keeps step k.phased other

pub entered_keeps : (slot : ℕ) (facts : Facts) → (keyed_entered slot facts).phased.kept ≡ facts.encryption.kept
entered_keeps slot facts = keyed_keeps (Enters slot) (keyed_enters slot) (keyed_of facts) refl tt

pub acked_keeps : (acked : Bool) (facts : Facts) → (keyed_acked_if acked (keyed_of facts)).phased.kept ≡ facts.encryption.kept
acked_keeps true facts = keyed_keeps SeesAcknowledged keyed_sees_acknowledged (keyed_of facts) refl tt
acked_keeps false facts = refl

pub key_keeps : (key : Option (List ℕ)) (facts : Facts) → (keyed_after (key_step key) (keyed_of facts)).phased.kept ≡ facts.encryption.kept
key_keeps None facts = keyed_keeps LacksKey keyed_lacks_key (keyed_of facts) refl tt
key_keeps (Some ltk) facts = keyed_keeps GivesKey (keyed_gives_key ltk) (keyed_of facts) refl tt

pub data_keeps : (facts : Facts) → (data_taken facts).encryption.kept ≡ facts.encryption.kept
data_keeps facts = keyed_keeps TakesData keyed_takes_data (keyed_of facts) refl tt

-- ---- a control PDU of the peer is taken by an end that goes on

-- it is kept, or the procedures see it, and then what was kept is answered in phase Clear or Secure
pub data Keeping (read : CtrlRead) (s t : Phased) (seen : Bool) : Type 0 where
  Kept : does_keep read s ≡ true → seen ≡ false → t.kept ≡ ctrl_in read → Keeping read s t seen
  Seen : does_keep read s ≡ false → seen ≡ true → t.kept ≡ (if is_quiet_now t then None else s.kept) → Keeping read s t seen

module _ (slot : ℕ) (response : Response) (read : CtrlRead) (s : Phased) where
  abbrev Goes : Phased → Type 0
  Goes t = t.control.ends ≡ None → Keeping read s t (is_allowed read s && (not (does_keep read s) && not (lacks_room_now read s)))

  abbrev seen : Phased
  seen = seen_by_procedures read slot s

  abbrev answered : Phased
  answered = ciphered response read seen

  abbrev sees : Bool → Bool → Bool → Bool
  sees allowed keeps full = allowed && (not keeps && not full)

  loudly : (t : Phased) → does_keep read s ≡ false → is_allowed read s ≡ true → lacks_room_now read s ≡ false → is_quiet_now t ≡ false → t.kept ≡ s.kept → Goes t
  loudly t keeps allowed full loud same none =
      Seen keeps (λ i. sees (allowed i) (keeps i) (full i))
      (same ∙ sym (ap (λ (quiet : Bool). if quiet then None else s.kept) loud))

  quietly : (kept : Option Ctrl) → answered.kept ≡ kept → is_quiet_now answered ≡ true → does_keep read s ≡ false → is_allowed read s ≡ true → lacks_room_now read s ≡ false
      → Goes (answered_kept slot kept answered)
  quietly None is quiet keeps allowed full none =
      Seen keeps (λ i. sees (allowed i) (keeps i) (full i)) (is ∙ sym (ap (λ (b : Bool). if b then None else s.kept) quiet))
  quietly (Some ctrl) is quiet keeps allowed full none =
      Seen keeps (λ i. sees (allowed i) (keeps i) (full i)) (sym (ap (λ (b : Bool). if b then None else s.kept) quiet))

  phased_keeping : Goes (took slot response read s)
  phased_keeping =
      took_ways Goes slot response read s (λ allowed. λ none. absurd cc)
      (λ allowed. λ keeps. λ none. Kept keeps (λ i. sees (allowed i) (keeps i) (lacks_room_now read s)) refl)
      (λ allowed. λ keeps. λ full. λ none. absurd cc)
      (λ allowed. λ keeps. λ full.
      handed_ways Goes slot response read s (λ code. λ over. λ none. absurd (let h : ◌≡◌ {A = Option ErrCode} (Some code) None = sym over ∙ none in absurd cc))
      (λ lasts. λ loud. loudly answered keeps allowed full loud (same_kept response read seen))
      (λ lasts. λ quiet. quietly answered.kept refl quiet keeps allowed full))

-- by what the end holds
seen_by : (read : CtrlRead) (facts : Facts) → Knows (keyed_of facts) → is_none facts.control.ends ≡ true
    → let s = (keyed_of facts).phased in
    is_handed read (keyed_held (keyed_of facts)) ≡ (is_allowed read s && (not (does_keep read s) && not (lacks_room_now read s)))
seen_by read facts knows goes =
    (λ i.
    goes i && (allows (knows.phase i) (sym fits.role i) (class_of_read read)
    && (not (keeps_class (class_of_read read) (sym fits.role i) (is_quiet (knows.phase i)))
    && not (opens && (waits && is_answered_in (sym fits.role i) read (knows.phase i))))))
    ∙ ap (λ (answers : Bool). is_allowed read s && (not (does_keep read s) && not (opens && (waits && answers)))) (answered_same read)
  where
    s : Phased
    s = (keyed_of facts).phased

    fits : Fits (keyed_held (keyed_of facts))
    fits = knows.fits goes

    opens : Bool
    opens = is_open facts.control.table.closing

    waits : Bool
    waits = nat_le 16 (waiting_in facts.control.table.queue)

    answered_same : (read : CtrlRead) → is_answered_in (role_now s) read s.phase ≡ is_answered read s
    answered_same (Known ctrl) = refl
    answered_same (Unknown opcode) = refl
    answered_same Bare = refl

pub keeping : (pdu : Pdu) (slot : ℕ) (facts : Facts) → Knows (keyed_of facts) → (keyed_taken pdu slot facts).phased.control.ends ≡ None
    → Keeping (read_of pdu) (keyed_of facts).phased (keyed_taken pdu slot facts).phased (is_seen pdu facts)
keeping pdu slot facts knows none = by facts.control.ends refl
  where
    read : CtrlRead
    read = read_of pdu

    s : Phased
    s = (keyed_of facts).phased

    response : Response
    response = drawn facts.encryption.response

    t : Phased
    t = (keyed_taken pdu slot facts).phased

    once : t ≡ phased_after (Takes read slot response) s
    once = phased_once (keyed_takes read slot response) (keyed_of facts)

    by : (ends : Option ErrCode) → facts.control.ends ≡ ends → Keeping read s t (is_seen pdu facts)
    by (Some code) is =
        let over : t ≡ s = once ∙ ap (λ (e : Option ErrCode). if is_none e then took slot response read s else s) is in
        let h : ◌≡◌ {A = Option ErrCode} (Some code) None = sym is ∙ sym (ap (λ (u : Phased). u.control.ends) over) ∙ none in
        absurd cc
    by None is =
        let goes : is_none facts.control.ends ≡ true = ap (λ (e : Option ErrCode). is_none e) is in
        let now : t ≡ took slot response read s = once ∙ ap (λ (e : Option ErrCode). if is_none e then took slot response read s else s) is in
        subst (Keeping read s t) (sym (seen_by read facts knows goes))
        (subst (λ (u : Phased). u.control.ends ≡ None → Keeping read s u (is_allowed read s && (not (does_keep read s) && not (lacks_room_now read s)))) (sym now)
        (phased_keeping slot response read s) none)
