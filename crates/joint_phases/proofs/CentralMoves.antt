-- A central takes a PDU outside phases Clear and Secure: the machine's step.
use Rattle.std.proofs.Common.{◌≡◌, ◌==◌, ℕ, Bool, true, false, not, ◌&&◌, ◌||◌, Option, Some, None, is_none, refl, ap, sym, subst, ◌∙◌, if◌then◌else◌}
use Rattle.std.proofs.lemmas.Bool.{and_parts}
use Rattle.ble_base.specs.ErrorCodes.{memory_capacity_exceeded, mic_failure}
use Rattle.ble_base.specs.declared.error_codes.ErrCode.{ErrCode}
use Rattle.ble_base.specs.declared.roles.Role.{Role}
use Rattle.ble_base.specs.declared.roles.Role.TheVariants.{Central as central_role}
use Rattle.data_pdu.specs.declared.ctrl.Ctrl.{Ctrl}
use Rattle.data_pdu.specs.declared.ctrl.Ctrl.TheVariants.{ConnectionParamReq, EncRsp as enc_rsp, LengthReq, PauseEncRsp as pause_enc_rsp, PeripheralFeatureReq, PhyReq, RejectExtInd, RejectInd, StartEncReq as start_enc_req, StartEncRsp as start_enc_rsp, TerminateInd, VersionInd}
use Rattle.data_pdu.specs.declared.ctrl.CtrlRead.TheVariants.{Known}
use Rattle.phase_pairs.specs.enc_phase.declared.classes.PduClass.{PduClass}
use Rattle.phase_pairs.specs.enc_phase.declared.classes.PduClass.TheVariants.{EncReq, EncRsp, Other, PauseEncReq, PauseEncRsp, Refusal, Request, StartEncReq, StartEncRsp}
use Rattle.phase_pairs.specs.enc_phase.declared.facts.PhaseFacts.{PhaseFacts}
use Rattle.phase_pairs.specs.enc_phase.declared.facts.PhaseFacts.TheVariants.{Asked, Clear, HalfClear, HalfKeyed, Pausing, Secure}
use Rattle.phase_pairs.specs.enc_phase.declared.facts.Transition.TheVariants.{Confirm, Refuse}
use Rattle.phase_pairs.specs.enc_phase.Phases.{is_quiet, phase_after}
use Rattle.phase_pairs.specs.enc_phase.Taking.{allows, ctrl_class, is_unknown, phase_taking}
use Rattle.joint_controls.specs.procedures.Encryption.{progress_given}
use Rattle.joint_controls.specs.procedure_stages.declared.stages.Progress.{Progress}
use Rattle.joint_controls.specs.procedure_stages.declared.stages.Progress.TheVariants.{Central as central, Peripheral as peripheral}
use Rattle.joint_controls.specs.table_laws.Encrypting.{has_encryption}
use Rattle.joint_controls.specs.control_model.Control.{Control, Takes as control_takes, took}
use Rattle.phase_pairs.specs.declared.central.PhaseCentral.{PhaseCentral}
use Rattle.phase_pairs.specs.Central.{central_starting, central_taken, central_unlocking}
use Rattle.joint_controls.specs.phased_control.Phased.{Phased, with_step}
use Rattle.joint_controls.specs.phased_control.Taken.{Response, Takes, answered_if_quiet, answered_kept, ciphered, ciphered_at, ciphered_at_central, ended_with, goes_on, is_version, keeping, keeps_class, knowing, lacks_room_now, phased_after, refused_by, role_now, seen_if, with_phase_taking}
use Rattle.joint_controls.specs.Joint.{is_terminate}
use Rattle.phase_pairs.specs.Agreement.{is_encryption}
use Rattle.phase_pairs.specs.JointRun.{is_request}
use Rattle.joint_phases.specs.Parts.{IsCentral, IsRequest}
use Rattle.joint_phases.proofs.CentralCipher.{owes_next, same_central, taking_central, taking_same}
use Rattle.joint_phases.proofs.CentralEnters.{none_of_two, opened}
use Rattle.joint_phases.proofs.CentralTable.{goes_on_same, is_going_on, refusal_over, secured_table}
use Rattle.joint_phases.proofs.CentralTakes.{some_none}
use Rattle.joint_phases.proofs.CentralUnquiet.{encryption_over, quiet_again, unsent_none}

given_start : (p : Progress) → progress_given p start_enc_rsp ≡ p
given_start (central x) = refl
given_start (peripheral x) = refl

given_pause : (p : Progress) → progress_given p pause_enc_rsp ≡ p
given_pause (central x) = refl
given_pause (peripheral x) = refl

-- ---- the phase goes on

abbrev pub at_phase : Phased → PhaseFacts → Phased
at_phase t phase = record t { phase = phase; control = record t.control { ends = None } }

module _ (t : Phased) (c : PhaseCentral) (slot : ℕ) where
  pub start_at : (phase : PhaseFacts) → is_quiet phase ≡ false → allows phase central_role StartEncReq ≡ true
      → IsCentral (at_phase t phase) (record c { phase = phase }) → c.queued ≡ None
      → IsCentral (answered_if_quiet slot (ciphered_at_central start_enc_req (at_phase t phase))) (central_starting (record c { phase = phase }))
  start_at (Asked after_pause rsp kept) unquiet may is none =
      owes_next (at_phase t (Asked after_pause rsp kept)) (record c { phase = Asked after_pause rsp kept }) HalfKeyed start_enc_rsp StartEncRsp is refl none refl
      (given_start t.control.table.progress) refl refl refl refl
  start_at Clear unquiet may is none = absurd (cc)
  start_at Secure unquiet may is none = absurd (cc)
  start_at HalfKeyed unquiet may is none = absurd (cc)
  start_at (Pausing kept) unquiet may is none = absurd (cc)
  start_at (HalfClear kept) unquiet may is none = absurd (cc)

  pub pause_at : (phase : PhaseFacts) → is_quiet phase ≡ false → allows phase central_role PauseEncRsp ≡ true
      → IsCentral (at_phase t phase) (record c { phase = phase }) → c.queued ≡ None
      → IsCentral (answered_if_quiet slot (ciphered_at_central pause_enc_rsp (at_phase t phase))) (central_unlocking (record c { phase = phase }))
  pause_at (Pausing kept) unquiet may is none =
      owes_next (at_phase t (Pausing kept)) (record c { phase = Pausing kept }) (HalfClear kept) pause_enc_rsp PauseEncRsp is refl none refl
      (given_pause t.control.table.progress) refl refl refl refl
  pause_at Clear unquiet may is none = absurd (cc)
  pause_at Secure unquiet may is none = absurd (cc)
  pause_at HalfKeyed unquiet may is none = absurd (cc)
  pause_at (Asked after_pause rsp kept) unquiet may is none = absurd (cc)
  pause_at (HalfClear kept) unquiet may is none = absurd (cc)

-- ---- what a PDU leaves, before the procedures have gone on

module _ (s : Phased) (c : PhaseCentral) (ctrl : Ctrl) (response : Response) (slot : ℕ) (is : IsCentral (opened s) c) (unquiet : is_quiet c.phase ≡ false)
    (allowed : allows c.phase central_role (ctrl_class ctrl) ≡ true) where
  abbrev control_after : Control
  control_after = took (Known ctrl) slot false (record s.control { ends = None })

  abbrev seen : Bool → Bool → Phased
  seen unknown q =
      with_phase_taking (Known ctrl) (with_step (control_takes (seen_if unknown (Known ctrl)) slot q) (knowing (Known ctrl) (opened s)))

  taken_as : Bool → Bool → Bool → Bool → Bool → Phased
  taken_as allows_it keeps full unknown q =
      (if allows_it then (if keeps then keeping (Known ctrl) (opened s)
      else (if full then ended_with memory_capacity_exceeded (opened s) else goes_on slot response (Known ctrl) (seen unknown q)))
      else ended_with mic_failure (opened s))

  unquiet_here : is_quiet s.phase ≡ false
  unquiet_here = ap is_quiet is.phase ∙ unquiet

  allowed_here : allows s.phase (role_now s) (ctrl_class ctrl) ≡ true
  allowed_here = (λ i. allows (is.phase i) (is.role i) (ctrl_class ctrl)) ∙ allowed

  not_unknown : (phase : PhaseFacts) (role : Role) (k : PduClass) → is_quiet phase ≡ false → is_unknown phase role k ≡ false
  not_unknown Clear role k not_quiet = absurd (cc)
  not_unknown Secure role k not_quiet = absurd (cc)
  not_unknown phase role k not_quiet = refl

  -- ---- the first PDU of a procedure is kept

  keeps_request : (k : PduClass) (role : Role) (q : Bool) → k ≡ Request → role ≡ central_role → q ≡ false → keeps_class k role q ≡ true
  keeps_request k role q class is_role is_q = (λ i. keeps_class (class i) (is_role i) (is_q i))

  pub keeps_it : (awaited : Bool) → ctrl_class ctrl ≡ Request → (awaited ≡ true → c.awaits ≡ true)
      → IsCentral (phased_after (Takes (Known ctrl) slot response) (opened s)) (record c { phase = phase_taking (ctrl_class ctrl) c.phase; awaits = awaited })
  unfolding taken_as
  keeps_it awaited class less =
      let kept : phased_after (Takes (Known ctrl) slot response) (opened s) ≡ keeping (Known ctrl) (opened s) =
      λ i. taken_as (allowed_here i) (keeps_request (ctrl_class ctrl) (role_now s) (is_quiet s.phase) class is.role unquiet_here i)
      (lacks_room_now (Known ctrl) (opened s)) (is_unknown s.phase (role_now s) (ctrl_class ctrl)) (is_quiet s.phase) in
      subst (λ (t : Phased). IsCentral t (record c { phase = phase_taking (ctrl_class ctrl) c.phase; awaits = awaited })) (sym kept)
      (taking_central (opened s) c (ctrl_class ctrl) (Some ctrl) awaited is (λ h. none_of_two _ _ unquiet h) class less)

  -- ---- another is seen by the procedures

  never_kept : (k : PduClass) (role : Role) (q : Bool) → is_request k ≡ false → keeps_class k role q ≡ false
  never_kept Request role q apart = absurd (cc)
  never_kept k role q apart = refl

  full : Bool
  full = lacks_room_now (Known ctrl) (opened s)

  abbrev after_full : Bool → Phased
  after_full b = (if b then ended_with memory_capacity_exceeded (opened s) else goes_on slot response (Known ctrl) (seen false false))

  taken_is : is_request (ctrl_class ctrl) ≡ false → phased_after (Takes (Known ctrl) slot response) (opened s) ≡ after_full full
  unfolding taken_as full
  taken_is apart =
      λ i. taken_as (allowed_here i) (never_kept (ctrl_class ctrl) (role_now s) (is_quiet s.phase) apart i) full
      (not_unknown s.phase (role_now s) (ctrl_class ctrl) unquiet_here i) (unquiet_here i)

  -- the link goes on only in this way
  abbrev goes_to : Phased
  goes_to = answered_if_quiet slot (ciphered response (Known ctrl) (seen false false))

  record Goes (t : Phased) : Type 0 where
    lasts : control_after.ends ≡ None
    there : t ≡ goes_to

  by_ends : (e : Option ErrCode) → control_after.ends ≡ e
      → (if is_none e then goes_to else seen false false).control.ends ≡ None → Goes (if is_none e then goes_to else seen false false)
  by_ends (Some e) ends lasts = some_none e _ (sym ends ∙ lasts)
  by_ends None ends lasts = record { lasts = ends; there = refl }

  by_full : (b : Bool) → (after_full b).control.ends ≡ None → Goes (after_full b)
  by_full true lasts = some_none (record { 0 = memory_capacity_exceeded }) _ lasts
  by_full false lasts = by_ends control_after.ends refl lasts

  goes : is_request (ctrl_class ctrl) ≡ false → (phased_after (Takes (Known ctrl) slot response) (opened s)).control.ends ≡ None
      → Goes (phased_after (Takes (Known ctrl) slot response) (opened s))
  goes apart lasts = subst Goes (sym (taken_is apart)) (by_full full (ap (λ (t : Phased). t.control.ends) (sym (taken_is apart)) ∙ lasts))

  or_known : (a b : Bool) → b ≡ false → (a || b) ≡ a
  or_known true b is_not = refl
  or_known false true is_not = absurd (cc)
  or_known false false is_not = refl

  -- where its table stays as it was
  still_is : is_going_on ctrl ≡ true → is_terminate ctrl ≡ false → is_version (Known ctrl) ≡ false → control_after.ends ≡ None
      → IsCentral (seen false false) (record c { phase = phase_taking (ctrl_class ctrl) c.phase })
  still_is on apart none lasts =
      taking_central (record s { control = control_after; knows_version = s.knows_version || is_version (Known ctrl) }) c (ctrl_class ctrl) s.kept c.awaits
      (same_central (opened s) c control_after (s.knows_version || is_version (Known ctrl)) is (goes_on_same s.control ctrl slot is.role apart on lasts)
      (or_known s.knows_version (is_version (Known ctrl)) none))
      (λ h. none_of_two _ _ unquiet h) is.keeps_first (λ a. a)

-- ---- at the role and the phase that it has

at_role : (P : Phased → Type 0) (response : Response) (ctrl : Ctrl) (t : Phased) → role_now t ≡ central_role → P (ciphered_at_central ctrl t) → P (ciphered response (Known ctrl) t)
at_role P response ctrl t role h = subst (λ (r : Role). P (ciphered_at r response ctrl t)) (sym role) h

at_both : (P : Phased → Type 0) (t : Phased) (phase : PhaseFacts) → t.phase ≡ phase → t.control.ends ≡ None → P (at_phase t phase) → P t
at_both P t phase at lasts h =
    subst P (λ i. record t { phase = sym at i; control = record t.control { ends = sym lasts i } }) h

stays_unquiet : (t : Phased) (slot : ℕ) → is_quiet t.phase ≡ false → answered_if_quiet slot t ≡ t
stays_unquiet t slot unquiet = ap (λ b. if b then answered_kept slot t.kept t else t) unquiet

-- ---- the encryption is over

module _ (t : Phased) (c : PhaseCentral) (slot : ℕ) (unawaited : c.awaits ≡ false) (first : IsRequest t.kept) where
  confirm_at : (phase : PhaseFacts) → is_quiet phase ≡ false → allows phase central_role StartEncRsp ≡ true
      → IsCentral (record (at_phase t Secure) { kept = None }) (record c { phase = Secure })
      → (answered_if_quiet slot (ciphered_at_central start_enc_rsp (at_phase t phase))).control.ends ≡ None
      → IsCentral (answered_if_quiet slot (ciphered_at_central start_enc_rsp (at_phase t phase))) (record c { phase = phase_after Confirm phase })
  confirm_at HalfKeyed unquiet may is lasts = quiet_again (at_phase t Secure) (record c { phase = Secure }) slot is refl unawaited first lasts
  confirm_at Clear unquiet may is lasts = absurd (cc)
  confirm_at Secure unquiet may is lasts = absurd (cc)
  confirm_at (Asked after_pause rsp kept) unquiet may is lasts = absurd (cc)
  confirm_at (Pausing kept) unquiet may is lasts = absurd (cc)
  confirm_at (HalfClear kept) unquiet may is lasts = absurd (cc)

  refused_at : (over : Bool) (phase : PhaseFacts) → over ≡ false → is_quiet phase ≡ false → allows phase central_role Refusal ≡ true
      → IsCentral (record (at_phase t Clear) { kept = None }) (record c { phase = Clear })
      → (answered_if_quiet slot (if over then at_phase t phase else record (at_phase t phase) { phase = phase_after Refuse phase })).control.ends ≡ None
      → IsCentral (answered_if_quiet slot (if over then at_phase t phase else record (at_phase t phase) { phase = phase_after Refuse phase })) (record c { phase = phase_after Refuse phase })
  refused_at false (Asked after_pause rsp kept) is_over unquiet may is lasts =
      quiet_again (at_phase t Clear) (record c { phase = Clear }) slot is refl unawaited first lasts
  refused_at true phase is_over unquiet may is lasts = absurd (cc)
  refused_at false Clear is_over unquiet may is lasts = absurd (cc)
  refused_at false Secure is_over unquiet may is lasts = absurd (cc)
  refused_at false HalfKeyed is_over unquiet may is lasts = absurd (cc)
  refused_at false (Pausing kept) is_over unquiet may is lasts = absurd (cc)
  refused_at false (HalfClear kept) is_over unquiet may is lasts = absurd (cc)

refusal_ciphers : (ctrl : Ctrl) (t : Phased) → ctrl_class ctrl ≡ Refusal → ciphered_at_central ctrl t ≡ refused_by Refusal t
refusal_ciphers (RejectInd code) t class = refl
refusal_ciphers (RejectExtInd opcode code) t class = ap (λ k. refused_by k t) class
refusal_ciphers ctrl t class = absurd (cc)

-- ---- each PDU

module _ (s : Phased) (c : PhaseCentral) (response : Response) (slot : ℕ) (is : IsCentral (opened s) c) (unquiet : is_quiet c.phase ≡ false)
    (none : c.queued ≡ None) (unawaited : c.awaits ≡ false) (crossed : Bool) where
  abbrev Result : Ctrl → Type 0
  Result ctrl =
      allows c.phase central_role (ctrl_class ctrl) ≡ true → (phased_after (Takes (Known ctrl) slot response) (opened s)).control.ends ≡ None
      → IsCentral (phased_after (Takes (Known ctrl) slot response) (opened s)) (central_taken crossed (ctrl_class ctrl) c)

  takes_rsp : (skd_s iv_s : ℕ) → Result (enc_rsp skd_s iv_s)
  takes_rsp skd_s iv_s may lasts =
      let g = goes s c (enc_rsp skd_s iv_s) response slot is unquiet may refl lasts in
      let t : Phased = seen s c (enc_rsp skd_s iv_s) response slot is unquiet may false false in
      let here = still_is s c (enc_rsp skd_s iv_s) response slot is unquiet may refl refl refl g.lasts in
      let unquiet_then : is_quiet t.phase ≡ false = ap is_quiet here.phase ∙ (taking_same EncRsp c.phase).quiet ∙ unquiet in
      subst (λ (x : Phased). IsCentral x (central_taken crossed EncRsp c)) (sym g.there)
      (at_role (λ x. IsCentral (answered_if_quiet slot x) (central_taken crossed EncRsp c)) response (enc_rsp skd_s iv_s) t here.role
      (subst (λ (x : Phased). IsCentral x (central_taken crossed EncRsp c)) (sym (stays_unquiet t slot unquiet_then)) here))

  takes_start : Result start_enc_req
  takes_start may lasts =
      let g = goes s c start_enc_req response slot is unquiet may refl lasts in
      let t : Phased = seen s c start_enc_req response slot is unquiet may false false in
      let here = still_is s c start_enc_req response slot is unquiet may refl refl refl g.lasts in
      let goal : Phased → Type 0 = λ x. IsCentral x c → IsCentral (answered_if_quiet slot (ciphered_at_central start_enc_req x)) (central_starting c) in
      subst (λ (x : Phased). IsCentral x (central_starting c)) (sym g.there)
      (at_role (λ x. IsCentral (answered_if_quiet slot x) (central_starting c)) response start_enc_req t here.role
      (at_both goal t c.phase here.phase g.lasts (λ at. start_at t c slot c.phase unquiet may at none) here))

  takes_pause : Result pause_enc_rsp
  takes_pause may lasts =
      let g = goes s c pause_enc_rsp response slot is unquiet may refl lasts in
      let t : Phased = seen s c pause_enc_rsp response slot is unquiet may false false in
      let here = still_is s c pause_enc_rsp response slot is unquiet may refl refl refl g.lasts in
      let goal : Phased → Type 0 = λ x. IsCentral x c → IsCentral (answered_if_quiet slot (ciphered_at_central pause_enc_rsp x)) (central_unlocking c) in
      subst (λ (x : Phased). IsCentral x (central_unlocking c)) (sym g.there)
      (at_role (λ x. IsCentral (answered_if_quiet slot x) (central_unlocking c)) response pause_enc_rsp t here.role
      (at_both goal t c.phase here.phase g.lasts (λ at. pause_at t c slot c.phase unquiet may at none) here))

  encrypting : has_encryption s.control.table.progress ≡ true
  encrypting = is.encrypts ∙ ap not unquiet

  takes_confirm : Result start_enc_rsp
  takes_confirm may lasts =
      let g = goes s c start_enc_rsp response slot is unquiet may refl lasts in
      let t : Phased = seen s c start_enc_rsp response slot is unquiet may false false in
      let over = secured_table s.control slot is.role encrypting g.lasts in
      let role : role_now t ≡ central_role = over.role ∙ is.role in
      let after_it = encryption_over s c is unquiet none unawaited (record t.control { ends = None }) t.knows_version Secure refl role over.closing over.queue over.over in
      let goal : Phased → Type 0 =
      λ x. (answered_if_quiet slot (ciphered_at_central start_enc_rsp x)).control.ends ≡ None
      → IsCentral (answered_if_quiet slot (ciphered_at_central start_enc_rsp x)) (record c { phase = phase_after Confirm c.phase }) in
      let there : phased_after (Takes (Known start_enc_rsp) slot response) (opened s) ≡ answered_if_quiet slot (ciphered_at_central start_enc_rsp t) =
      g.there ∙ (λ i. answered_if_quiet slot (ciphered_at (role i) response start_enc_rsp t)) in
      let here : goal t = at_both goal t c.phase is.phase g.lasts (confirm_at t c slot unawaited is.keeps_first c.phase unquiet may after_it) in
      subst (λ (x : Phased). IsCentral x (record c { phase = phase_after Confirm c.phase })) (sym there)
      (here (ap (λ (x : Phased). x.control.ends) (sym there) ∙ lasts))

  takes_refusal : (ctrl : Ctrl) → ctrl_class ctrl ≡ Refusal → is_terminate ctrl ≡ false → is_request (ctrl_class ctrl) ≡ false → Result ctrl
  takes_refusal ctrl class apart no_request may lasts =
      let g = goes s c ctrl response slot is unquiet may no_request lasts in
      let t : Phased = seen s c ctrl response slot is unquiet may false false in
      let over = refusal_over s.control ctrl slot is.role apart encrypting (unsent_none s c is unquiet none unawaited) class g.lasts in
      let role : role_now t ≡ central_role = over.role ∙ is.role in
      let after_it = encryption_over s c is unquiet none unawaited (record t.control { ends = None }) t.knows_version Clear refl role over.closing over.queue over.over in
      let goal : Phased → Type 0 =
      λ x. (answered_if_quiet slot (refused_by Refusal x)).control.ends ≡ None
      → IsCentral (answered_if_quiet slot (refused_by Refusal x)) (record c { phase = phase_after Refuse c.phase }) in
      let there : phased_after (Takes (Known ctrl) slot response) (opened s) ≡ answered_if_quiet slot (refused_by Refusal t) =
      g.there ∙ (λ i. answered_if_quiet slot (ciphered_at (role i) response ctrl t)) ∙ ap (answered_if_quiet slot) (refusal_ciphers ctrl t class) in
      let phase : t.phase ≡ c.phase = ap (λ k. phase_taking k s.phase) class ∙ is.phase in
      let may_refuse : allows c.phase central_role Refusal ≡ true = ap (λ k. allows c.phase central_role k) (sym class) ∙ may in
      let here : goal t =
      at_both goal t c.phase phase g.lasts
      (refused_at t c slot unawaited is.keeps_first (has_encryption t.control.table.progress) c.phase over.over unquiet may_refuse after_it) in
      let done : IsCentral (phased_after (Takes (Known ctrl) slot response) (opened s)) (central_taken crossed Refusal c) =
      subst (λ (x : Phased). IsCentral x (record c { phase = phase_after Refuse c.phase })) (sym there) (here (ap (λ (x : Phased). x.control.ends) (sym there) ∙ lasts)) in
      subst (λ (k : PduClass). IsCentral (phased_after (Takes (Known ctrl) slot response) (opened s)) (central_taken crossed k c)) (sym class) done

-- the first PDU of a procedure, whatever is queued
module _ (s : Phased) (c : PhaseCentral) (response : Response) (slot : ℕ) (is : IsCentral (opened s) c) (unquiet : is_quiet c.phase ≡ false) (crossed : Bool) where
  abbrev Taken : Ctrl → Type 0
  Taken ctrl =
      allows c.phase central_role (ctrl_class ctrl) ≡ true → (phased_after (Takes (Known ctrl) slot response) (opened s)).control.ends ≡ None
      → IsCentral (phased_after (Takes (Known ctrl) slot response) (opened s)) (central_taken crossed (ctrl_class ctrl) c)

  takes_request : (ctrl : Ctrl) → ctrl_class ctrl ≡ Request → Taken ctrl
  takes_request ctrl class may lasts =
      let h = keeps_it s c ctrl response slot is unquiet may (not crossed && c.awaits) class (λ a. (and_parts (not crossed) c.awaits a).1) in
      let done : IsCentral (phased_after (Takes (Known ctrl) slot response) (opened s)) (central_taken crossed Request c) =
      subst (λ (k : PduClass). IsCentral (phased_after (Takes (Known ctrl) slot response) (opened s)) (record c { phase = phase_taking k c.phase; awaits = not crossed && c.awaits })) class h in
      subst (λ (k : PduClass). IsCentral (phased_after (Takes (Known ctrl) slot response) (opened s)) (central_taken crossed k c)) (sym class) done

-- no other class is allowed
abbrev is_seldom : PduClass → Bool
is_seldom Other = true
is_seldom EncReq = true
is_seldom PauseEncReq = true
is_seldom k = false

never_other : (k : PduClass) (phase : PhaseFacts) → is_seldom k ≡ true → is_quiet phase ≡ false → allows phase central_role k ≡ true → ⊥
never_other k Clear seldom not_quiet may = absurd (cc)
never_other k Secure seldom not_quiet may = absurd (cc)
never_other Other (Asked after_pause rsp kept) seldom not_quiet may = absurd (cc)
never_other Other phase seldom not_quiet may = absurd (cc)
never_other EncReq (Asked after_pause rsp kept) seldom not_quiet may = absurd (cc)
never_other EncReq phase seldom not_quiet may = absurd (cc)
never_other PauseEncReq (Asked after_pause rsp kept) seldom not_quiet may = absurd (cc)
never_other PauseEncReq phase seldom not_quiet may = absurd (cc)
never_other k phase seldom not_quiet may = absurd (cc)

-- ---- whichever comes

module _ (s : Phased) (c : PhaseCentral) (response : Response) (slot : ℕ) (is : IsCentral (opened s) c) (unquiet : is_quiet c.phase ≡ false)
    (unawaited : c.awaits ≡ false) (crossed : Bool) where
  abbrev MayTake : Ctrl → Type 0
  MayTake ctrl = (is_encryption (ctrl_class ctrl) ≡ true → c.queued ≡ None) → Taken s c response slot is unquiet crossed ctrl

  rejects_by : (b : Bool) (ctrl : Ctrl) → ctrl_class ctrl ≡ (if b then Refusal else Other) → is_terminate ctrl ≡ false → is_request (ctrl_class ctrl) ≡ false → MayTake ctrl
  rejects_by true ctrl class apart no_request none = takes_refusal s c response slot is unquiet (none (ap is_encryption class)) unawaited crossed ctrl class apart no_request
  rejects_by false ctrl class apart no_request none =
      λ may. λ lasts. absurd (never_other Other c.phase refl unquiet (ap (λ k. allows c.phase central_role k) (sym class) ∙ may))

  no_request_by : (b : Bool) → is_request (if b then Refusal else Other) ≡ false
  no_request_by true = refl
  no_request_by false = refl

  pub takes_unquiet : (ctrl : Ctrl) → is_terminate ctrl ≡ false → MayTake ctrl
  takes_unquiet (enc_rsp skd_s iv_s) apart none = takes_rsp s c response slot is unquiet (none refl) unawaited crossed skd_s iv_s
  takes_unquiet start_enc_req apart none = takes_start s c response slot is unquiet (none refl) unawaited crossed
  takes_unquiet start_enc_rsp apart none = takes_confirm s c response slot is unquiet (none refl) unawaited crossed
  takes_unquiet pause_enc_rsp apart none = takes_pause s c response slot is unquiet (none refl) unawaited crossed
  takes_unquiet (RejectInd code) apart none = takes_refusal s c response slot is unquiet (none refl) unawaited crossed (RejectInd code) refl refl refl
  takes_unquiet (RejectExtInd opcode code) apart none = rejects_by (opcode == 3) (RejectExtInd opcode code) refl refl (no_request_by (opcode == 3)) none
  takes_unquiet (TerminateInd code) apart none = absurd (cc)
  takes_unquiet (VersionInd version company sub) apart none = takes_request s c response slot is unquiet crossed (VersionInd version company sub) refl
  takes_unquiet (PeripheralFeatureReq features) apart none = takes_request s c response slot is unquiet crossed (PeripheralFeatureReq features) refl
  takes_unquiet (ConnectionParamReq min max latency timeout periodicity reference offsets) apart none =
      takes_request s c response slot is unquiet crossed (ConnectionParamReq min max latency timeout periodicity reference offsets) refl
  takes_unquiet (LengthReq rx rx_time tx tx_time) apart none = takes_request s c response slot is unquiet crossed (LengthReq rx rx_time tx tx_time) refl
  takes_unquiet (PhyReq tx rx) apart none = takes_request s c response slot is unquiet crossed (PhyReq tx rx) refl
  takes_unquiet ctrl apart none = λ may. λ lasts. absurd (never_other (ctrl_class ctrl) c.phase refl unquiet may)
