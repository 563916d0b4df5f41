-- What waits at a central, as a PDU is queued or goes, and as the phase changes.
use Rattle.std.proofs.Common.{◌≡◌, Bool, true, false, ◌||◌, List, [], ◌∷◌, ◌++◌, remove, Option, Some, None, refl, ap₂, subst, ◌∙◌}
use Rattle.std.proofs.lemmas.Bool.{and_from, and_parts, or_left, or_right}
use Rattle.data_pdu.specs.declared.ctrl.Ctrl.{Ctrl}
use Rattle.data_pdu.specs.declared.ctrl.Ctrl.TheVariants.{VersionInd}
use Rattle.phase_pairs.specs.enc_phase.declared.classes.PduClass.{PduClass}
use Rattle.phase_pairs.specs.enc_phase.declared.classes.PduClass.TheVariants.{Other, Request}
use Rattle.phase_pairs.specs.enc_phase.declared.facts.PhaseFacts.{PhaseFacts}
use Rattle.phase_pairs.specs.enc_phase.declared.facts.PhaseFacts.TheVariants.{Asked, Pausing}
use Rattle.phase_pairs.specs.enc_phase.Phases.{is_quiet}
use Rattle.joint_controls.specs.procedure_values.declared.drafts.Draft.{Draft}
use Rattle.joint_controls.specs.procedure_values.declared.drafts.Rejection.{Rejection}
use Rattle.joint_controls.specs.procedure_values.Drafts.{ctrl_of_draft}
use Rattle.phase_pairs.specs.Central.{is_ahead}
use Rattle.phase_pairs.specs.JointRun.{is_request}
use Rattle.joint_phases.specs.Classes.{class_down, draft_down, has_request}
use Rattle.joint_phases.specs.Parts.{goes_down, may_reject, queued_then, wait_down}

-- a class of other procedures
abbrev pub is_of_others : PduClass → Bool
is_of_others Other = true
is_of_others Request = true
is_of_others pdu = false

goes_others : (k : PduClass) (phase : PhaseFacts) (queued : Option PduClass) → is_of_others k ≡ true → is_quiet phase ≡ true
    → goes_down k phase queued ≡ true
goes_others Other phase queued is quiet = or_left _ _ quiet
goes_others Request phase queued is quiet = quiet
goes_others k phase queued is quiet = absurd (cc)

stays_queued : (k : PduClass) (queued : Option PduClass) → is_of_others k ≡ true → queued_then k queued ≡ queued
stays_queued Other queued is = refl
stays_queued Request queued is = refl
stays_queued k queued is = absurd (cc)

-- ahead of nothing
pub ahead_of_none : (phase : PhaseFacts) → is_ahead phase None ≡ false
ahead_of_none (Asked after_pause enc_rsp kept) = refl
ahead_of_none (Pausing kept) = refl
ahead_of_none phase = refl

module _ (class_of : Draft → PduClass) where
  -- ---- in Clear and Secure a PDU of other procedures is queued

  pub others_more : (phase : PhaseFacts) (drafts : List Draft) (queued : Option PduClass) (draft : Draft) → is_quiet phase ≡ true
      → is_of_others (class_of draft) ≡ true → wait_down class_of phase drafts queued ≡ true
      → wait_down class_of phase (drafts ++ draft ∷ []) queued ≡ true
  others_more phase [] queued draft quiet is waits =
      and_from _ _ (goes_others (class_of draft) phase queued is quiet) (rw (stays_queued (class_of draft) queued is) waits)
  others_more phase (first ∷ drafts) queued draft quiet is waits =
      let h = and_parts (goes_down (class_of first) phase queued) _ waits in
      and_from _ _ h.0 (others_more phase drafts (queued_then (class_of first) queued) draft quiet is h.1)

  -- ---- outside Clear and Secure, with no PDU of the encryption queued, nothing waits

  none_goes : (k : PduClass) (phase : PhaseFacts) → is_quiet phase ≡ false → goes_down k phase None ≡ true → ⊥
  none_goes Other phase unquiet goes = by (is_quiet phase) (is_ahead phase None) unquiet (ahead_of_none phase) goes
    where
      by : (a b : Bool) → a ≡ false → b ≡ false → (a || b) ≡ true → ⊥
      by true b a_is b_is h = absurd (cc)
      by false true a_is b_is h = absurd (cc)
      by false false a_is b_is h = absurd (cc)
  none_goes Request phase unquiet goes = absurd (cc)
  none_goes k phase unquiet goes = absurd (cc)

  pub nothing_waits : (phase : PhaseFacts) (drafts : List Draft) (queued : Option PduClass) → is_quiet phase ≡ false → queued ≡ None
      → wait_down class_of phase drafts queued ≡ true → drafts ≡ []
  nothing_waits phase [] queued unquiet none waits = refl
  nothing_waits phase (draft ∷ drafts) queued unquiet none waits =
      let goes = (and_parts (goes_down (class_of draft) phase queued) _ waits).0 in
      absurd (none_goes (class_of draft) phase unquiet (subst (λ (q : Option PduClass). goes_down (class_of draft) phase q ≡ true) none goes))

  -- ---- an encryption begins: its first PDU goes after all that waits

  goes_ahead : (k : PduClass) (phase next : PhaseFacts) (queued : Option PduClass) → is_request k ≡ false → goes_down k phase None ≡ true
      → is_ahead next queued ≡ true → (goes_down k next queued ≡ true) × (queued_then k queued ≡ queued) × (queued_then k None ≡ None)
  goes_ahead Other phase next queued apart goes ahead = (or_right _ _ ahead, refl, refl)
  goes_ahead Request phase next queued apart goes ahead = absurd (cc)
  goes_ahead k phase next queued apart goes ahead = absurd (cc)

  or_false : (a b : Bool) → (a || b) ≡ false → (a ≡ false) × (b ≡ false)
  or_false true b h = absurd (cc)
  or_false false b h = (refl, h)

  pub begins_after : (phase next : PhaseFacts) (drafts : List Draft) (draft : Draft) (pdu : PduClass)
      → has_request class_of drafts ≡ false → wait_down class_of phase drafts None ≡ true
      → is_ahead next (Some pdu) ≡ true → goes_down (class_of draft) next (Some pdu) ≡ true → queued_then (class_of draft) (Some pdu) ≡ None
      → wait_down class_of next (drafts ++ draft ∷ []) (Some pdu) ≡ true
  begins_after phase next [] draft pdu none waits ahead goes gone = and_from _ _ goes (rw gone refl)
  begins_after phase next (first ∷ drafts) draft pdu none waits ahead goes gone =
      let n = or_false (is_request (class_of first)) (has_request class_of drafts) none in
      let h = and_parts (goes_down (class_of first) phase None) _ waits in
      let g = goes_ahead (class_of first) phase next (Some pdu) n.0 h.0 ahead in
      and_from _ _ g.0
      (rw g.1 (begins_after phase next drafts draft pdu n.1 (subst (λ (q : Option PduClass). wait_down class_of phase drafts q ≡ true) g.2 h.1) ahead goes gone))

-- ---- a phase in which the same may go

pub record LetsSame (phase next : PhaseFacts) : Type 0 where
  pub quiet : is_quiet next ≡ is_quiet phase
  pub ahead : (queued : Option PduClass) → is_ahead next queued ≡ is_ahead phase queued

same_goes : (k : PduClass) (phase next : PhaseFacts) (queued : Option PduClass) → LetsSame phase next → goes_down k next queued ≡ goes_down k phase queued
same_goes Other phase next queued same = ap₂ (λ (a b : Bool). a || b) same.quiet (same.ahead queued)
same_goes Request phase next queued same = same.quiet
same_goes k phase next queued same = refl

pub same_waits : (class_of : Draft → PduClass) (phase next : PhaseFacts) (drafts : List Draft) (queued : Option PduClass) → LetsSame phase next
    → wait_down class_of phase drafts queued ≡ true → wait_down class_of next drafts queued ≡ true
same_waits class_of phase next [] queued same waits = waits
same_waits class_of phase next (draft ∷ drafts) queued same waits =
    let h = and_parts (goes_down (class_of draft) phase queued) _ waits in
    and_from _ _ (same_goes (class_of draft) phase next queued same ∙ h.0)
    (same_waits class_of phase next drafts (queued_then (class_of draft) queued) same h.1)

pub same_rejects : (phase next : PhaseFacts) (rejections : List Rejection) (queued : Option PduClass) → LetsSame phase next
    → may_reject rejections phase queued ≡ true → may_reject rejections next queued ≡ true
same_rejects phase next [] queued same may = refl
same_rejects phase next (rejection ∷ rejections) queued same may = same_goes Other phase next queued same ∙ may

-- ---- the version of the peripheral is known from now on

known_goes : (ctrl : Ctrl) (phase : PhaseFacts) (queued : Option PduClass) → is_quiet phase ≡ true → goes_down (class_down false ctrl) phase queued ≡ true
    → goes_down (class_down true ctrl) phase queued ≡ true
known_goes (VersionInd version company sub) phase queued quiet goes = or_left _ _ quiet
known_goes ctrl phase queued quiet goes = goes

known_queued : (ctrl : Ctrl) (queued : Option PduClass) → queued_then (class_down true ctrl) queued ≡ queued_then (class_down false ctrl) queued
known_queued (VersionInd version company sub) queued = refl
known_queued ctrl queued = refl

version_known : (phase : PhaseFacts) (drafts : List Draft) (queued : Option PduClass) → is_quiet phase ≡ true
    → wait_down (draft_down false) phase drafts queued ≡ true → wait_down (draft_down true) phase drafts queued ≡ true
version_known phase [] queued quiet waits = waits
version_known phase (draft ∷ drafts) queued quiet waits =
    let h = and_parts (goes_down (draft_down false draft) phase queued) _ waits in
    and_from _ _ (known_goes (ctrl_of_draft draft 0 0) phase queued quiet h.0)
    (rw (known_queued (ctrl_of_draft draft 0 0) queued) (version_known phase drafts (queued_then (draft_down false draft) queued) quiet h.1))

pub knows_then : (knows now : Bool) (phase : PhaseFacts) (drafts : List Draft) (queued : Option PduClass) → is_quiet phase ≡ true
    → wait_down (draft_down knows) phase drafts queued ≡ true → wait_down (draft_down (knows || now)) phase drafts queued ≡ true
knows_then true now phase drafts queued quiet waits = waits
knows_then false true phase drafts queued quiet waits = version_known phase drafts queued quiet waits
knows_then false false phase drafts queued quiet waits = waits

-- ---- rejections

pub rejects_if : (rejections : List Rejection) (phase : PhaseFacts) (queued : Option PduClass) → goes_down Other phase queued ≡ true
    → may_reject rejections phase queued ≡ true
rejects_if [] phase queued goes = refl
rejects_if (rejection ∷ rejections) phase queued goes = goes

pub rejects_quiet : (rejections : List Rejection) (phase : PhaseFacts) (queued : Option PduClass) → is_quiet phase ≡ true
    → may_reject rejections phase queued ≡ true
rejects_quiet rejections phase queued quiet = rejects_if rejections phase queued (or_left _ _ quiet)

pub rejects_fewer : (rejections : List Rejection) (phase : PhaseFacts) (queued : Option PduClass) → may_reject rejections phase queued ≡ true
    → may_reject (remove rejections 0) phase queued ≡ true
rejects_fewer [] phase queued may = refl
rejects_fewer (rejection ∷ rejections) phase queued may = rejects_if rejections phase queued may

-- outside Clear and Secure none waits where no PDU of the encryption is queued
pub no_rejections : (rejections : List Rejection) (phase : PhaseFacts) (queued : Option PduClass) → is_quiet phase ≡ false → queued ≡ None
    → may_reject rejections phase queued ≡ true → rejections ≡ []
no_rejections [] phase queued unquiet none may = refl
no_rejections (rejection ∷ rejections) phase queued unquiet none may =
    absurd (none_goes (λ draft. Other) Other phase unquiet (subst (λ (q : Option PduClass). goes_down Other phase q ≡ true) none may))
