-- Of two procedures that collide in a joint run the central's goes on, and the other one is rejected next.
use Rattle.std.proofs.Common.{◌≡◌, ℕ, Bool, true, false, if◌then◌else◌, List, [], ◌∷◌, Option, Some, None, is_none, is_some, refl, sym, ap, subst, ◌∙◌}
use Rattle.std.proofs.lemmas.Bool.{and_parts}
use Rattle.ble_base.specs.ErrorCodes.{memory_capacity_exceeded, mic_failure}
use Rattle.ble_base.specs.declared.roles.Role.{Role}
use Rattle.ble_base.specs.declared.roles.Role.TheVariants.{Central as central_role, Peripheral as peripheral_role}
use Rattle.data_pdu.specs.declared.ctrl.Ctrl.{Ctrl}
use Rattle.data_pdu.specs.declared.ctrl.CtrlRead.{CtrlRead}
use Rattle.data_pdu.specs.declared.ctrl.CtrlRead.TheVariants.{Known}
use Rattle.joint_controls.specs.enc_phase.declared.classes.PduClass.{PduClass}
use Rattle.joint_controls.specs.enc_phase.declared.classes.PduClass.TheVariants.{Request as request_class}
use Rattle.joint_controls.specs.enc_phase.declared.facts.PhaseFacts.{PhaseFacts}
use Rattle.joint_controls.specs.enc_phase.declared.facts.PhaseFacts.TheVariants.{Asked, Clear, HalfClear, HalfKeyed, Pausing, Secure}
use Rattle.joint_controls.specs.enc_phase.Phases.{is_quiet}
use Rattle.joint_controls.specs.enc_phase.Taking.{ctrl_class, is_unknown, phase_taking}
use Rattle.exclusive_stages.specs.declared.pdus.Exclusive.{Exclusive}
use Rattle.exclusive_stages.specs.declared.pdus.Exclusive.TheVariants.{Phy, Request}
use Rattle.exclusive_stages.specs.declared.pdus.Pdu.{Pdu}
use Rattle.exclusive_stages.specs.declared.pdus.Pdu.TheVariants.{ParamReq, PhyReq}
use Rattle.exclusive_stages.specs.declared.stages.PeerAtCentral.{PeerAtCentral}
use Rattle.exclusive_stages.specs.declared.stages.PeerAtCentral.TheVariants.{Absent}
use Rattle.exclusive_stages.specs.Awaited.{peer_answered}
use Rattle.exclusive_stages.specs.Kinds.{central_kind}
use Rattle.exclusive_stages.specs.Pdus.{first_kind, reason_of, rejection_of}
use Rattle.collision_steps.specs.procedure_values.declared.drafts.Draft.{Draft}
use Rattle.collision_steps.specs.procedure_values.declared.drafts.Draft.TheVariants.{PhyReq as phy_draft, Request as request_draft}
use Rattle.collision_steps.specs.procedure_values.declared.drafts.Outgoing.{Outgoing}
use Rattle.collision_steps.specs.procedure_values.declared.drafts.Outgoing.TheVariants.{Other}
use Rattle.collision_steps.specs.procedure_values.Drafts.{ctrl_of_draft}
use Rattle.collision_steps.specs.procedure_stages.Exclusive.{pdu_of_draft, pdu_of_outgoing}
use Rattle.collision_steps.specs.procedure_stages.Kinds.{role_of}
use Rattle.collisions.specs.declared.central.Central.{Central as CentralPdus}
use Rattle.collisions.specs.declared.joint.End.{End}
use Rattle.collisions.specs.declared.joint.End.TheVariants.{Collided, Open}
use Rattle.collisions.specs.declared.joint.Link.{Link}
use Rattle.collisions.specs.CentralTable
use Rattle.collisions.specs.PeripheralTable
use Rattle.collisions.specs.JointRun.{is_empty}
use Rattle.collisions.specs.Meaning.{central_reads, is_ready}
use Rattle.collision_steps.specs.CentralPart.{answer_to, central_of, step_of_read}
use Rattle.joint_controls.specs.control_model.Control.{Control, Takes, after}
use Rattle.joint_controls.specs.phased_control.Phased.{Phased, is_quiet_now}
use Rattle.joint_controls.specs.phased_control.Taken.{Response, Takes as takes_end, answered_if_quiet, answered_kept, ciphered, ciphered_at, does_keep, ended_with, handed_on, is_allowed, keeping, keeps_class, knowing, lacks_room_now, phased_after, role_now, seen_if, took, took_allowed, with_phase_taking}
use Rattle.joint_controls.specs.Ends.{IsSentAs, IsSentOn}
use Rattle.joint_controls.specs.Joint.{Joint, Way, is_terminate, item_on_air, no_response}
use Rattle.joint_collisions.specs.Arrivals.{Collides}
use Rattle.joint_collisions.specs.Facts.{fits_if, fits_up}
use Rattle.joint_collisions.specs.Views.{link_of}
use Rattle.joint_collisions.proofs.Answers.{Means, ReadAs, means_one, read_as}
use Rattle.joint_collisions.proofs.CentralEnd.{going, quiet_keeps_none}
use Rattle.joint_collisions.proofs.CentralSteps.{is_central}
use Rattle.joint_collisions.proofs.CentralTakes.{not_stopping}
use Rattle.joint_collisions.proofs.EachStep.{Before, known}
use Rattle.joint_collisions.proofs.Findings.{reads_up}
use Rattle.joint_collisions.proofs.Meanings.{same_ctrl, up_means}

-- ---- a first PDU

-- the procedures alone see it
pub record IsFirst (ctrl : Ctrl) : Type 0 where
  pub plain : (role : Role) (response : Response) (t : Phased) → ciphered_at role response ctrl t ≡ t
  pub live : is_terminate ctrl ≡ false
  pub class : ctrl_class ctrl ≡ request_class

abbrev begins_one : Option Pdu → Bool
begins_one None = false
begins_one (Some pdu) = is_some (first_kind pdu)

first_draft : (draft : Draft) (event latency : ℕ) → begins_one (pdu_of_draft draft) ≡ true → IsFirst (ctrl_of_draft draft event latency)
first_draft (request_draft min max latency_asked timeout) event latency first = record { plain = by; live = refl; class = refl }
  where
    by : (role : Role) (response : Response) (t : Phased) → ciphered_at role response (ctrl_of_draft (request_draft min max latency_asked timeout) event latency) t ≡ t
    by central_role response t = refl
    by peripheral_role response t = refl
first_draft phy_draft event latency first = record { plain = by; live = refl; class = refl }
  where
    by : (role : Role) (response : Response) (t : Phased) → ciphered_at role response (ctrl_of_draft phy_draft event latency) t ≡ t
    by central_role response t = refl
    by peripheral_role response t = refl
first_draft draft event latency first = absurd (cc)

first_of : (outgoing : Outgoing) (ctrl : Ctrl) → IsSentAs outgoing ctrl → begins_one (pdu_of_outgoing outgoing) ≡ true → IsFirst ctrl
first_of (Other draft) ctrl sent first =
    subst IsFirst (same_ctrl (ctrl_of_draft draft sent.event sent.latency) ctrl sent.is) (first_draft draft sent.event sent.latency first)
first_of outgoing ctrl sent first = absurd (cc)

-- in phase Clear or Secure nothing is kept
keeps_none : (pdu : PduClass) (role : Role) (quiet : Bool) → quiet ≡ true → keeps_class pdu role quiet ≡ false
keeps_none request_class central_role true is = refl
keeps_none request_class central_role false is = absurd (cc)
keeps_none request_class peripheral_role quiet is = refl
keeps_none pdu role quiet is = refl

still_quiet : (phase : PhaseFacts) → is_quiet phase ≡ true → is_quiet (phase_taking request_class phase) ≡ true
still_quiet Clear is = refl
still_quiet Secure is = refl
still_quiet (Asked after_pause enc_rsp kept) is = absurd (cc)
still_quiet HalfKeyed is = absurd (cc)
still_quiet (Pausing kept) is = absurd (cc)
still_quiet (HalfClear kept) is = absurd (cc)

-- ---- what the central makes of it

module _ (s : Phased) (lasts : s.control.ends ≡ None) (quiet : is_quiet_now s ≡ true) (none : s.kept ≡ None) (ctrl : Ctrl) (first : IsFirst ctrl) (slot : ℕ) (response : Response) where
  abbrev read : CtrlRead
  read = Known ctrl

  abbrev unknown : Bool
  unknown = is_unknown s.phase (role_of s.control.table.progress) (ctrl_class ctrl)

  abbrev next : Control
  next = after (Takes (seen_if unknown read) slot (is_quiet_now s)) s.control

  abbrev handed : Phased
  handed = with_phase_taking read (record (knowing read s) { control = next })

  abbrev Becomes : Phased → Type 0
  Becomes t = t.control.ends ≡ None → t ≡ handed

  becomes_if : (b : Bool) (x y : Phased) → Becomes x → Becomes y → Becomes (if b then x else y)
  becomes_if true x y hx hy = hx
  becomes_if false x y hx hy = hy

  answered_none : (kept : Option Ctrl) (t : Phased) → kept ≡ None → Becomes t → Becomes (answered_kept slot kept t)
  answered_none None t is h = h
  answered_none (Some one) t is h = absurd (cc)

  settled : Becomes (answered_if_quiet slot (ciphered response read handed))
  settled =
      subst (λ (t : Phased). Becomes (answered_if_quiet slot t)) (sym (first.plain (role_now handed) response handed))
      (becomes_if (is_quiet_now handed) (answered_kept slot handed.kept handed) handed (answered_none handed.kept handed none (λ goes. refl)) (λ goes. refl))

  handed_becomes : Becomes (handed_on slot response read s)
  handed_becomes = becomes_if (is_none next.ends) (answered_if_quiet slot (ciphered response read handed)) handed settled (λ goes. refl)

  allowed_becomes : (does : Bool) → does ≡ false
      → Becomes (if does then keeping read s else (if lacks_room_now read s then ended_with memory_capacity_exceeded s else handed_on slot response read s))
  allowed_becomes true is = absurd (cc)
  allowed_becomes false is = becomes_if (lacks_room_now read s) (ended_with memory_capacity_exceeded s) (handed_on slot response read s) (λ goes. absurd (cc)) handed_becomes

  took_becomes : Becomes (took slot response read s)
  took_becomes =
      becomes_if (is_allowed read s) (took_allowed slot response read s) (ended_with mic_failure s)
      (allowed_becomes (does_keep read s) (keeps_none (ctrl_class ctrl) (role_of s.control.table.progress) (is_quiet_now s) quiet)) (λ goes. absurd (cc))

  pub takes_becomes : Becomes (phased_after (takes_end read slot response) s)
  takes_becomes = going Becomes (takes_end read slot response) s lasts took_becomes

-- ---- a collision

abbrev collision_if : Exclusive → Exclusive → CentralPdus → Bool → CentralPdus × End
collision_if p q t answered =
    (if answered then (t, Collided (reason_of p q)) else (CentralTable.rejected (rejection_of q (reason_of p q)) t, Open))

-- where the link does not end, the peripheral's is rejected
abbrev Rejected : Exclusive → Exclusive → CentralPdus → CentralPdus × End → Type 0
Rejected p q t answer = answer.1 ≡ Open → answer.0 ≡ CentralTable.rejected (rejection_of q (reason_of p q)) t

collision_by : (p q : Exclusive) (t : CentralPdus) (answered : Bool) → Rejected p q t (collision_if p q t answered)
collision_by p q t true opened = absurd (cc)
collision_by p q t false opened = refl

same_kind : (q r : Exclusive) → ◌≡◌ {A = Option Exclusive} (Some q) (Some r) → q ≡ r
same_kind q r is = cc

taken_rejected : (judged : Bool) (pdu : Pdu) (p q : Exclusive) (t : CentralPdus) → first_kind pdu ≡ Some q → central_kind t.own ≡ Some p
    → Rejected p q t (CentralTable.taken judged pdu t)
taken_rejected judged ParamReq p q t first runs =
    subst (λ (q : Exclusive). Rejected p q t (CentralTable.taken judged ParamReq t)) (same_kind Request q first)
    (rw runs (collision_by p Request t (peer_answered t.own)))
taken_rejected judged PhyReq p q t first runs =
    subst (λ (q : Exclusive). Rejected p q t (CentralTable.taken judged PhyReq t)) (same_kind Phy q first)
    (rw runs (collision_by p Phy t (peer_answered t.own)))
taken_rejected judged pdu p q t first runs = absurd (cc)

empty_is : (xs : List Pdu) → is_empty xs ≡ true → xs ≡ []
empty_is [] h = refl
empty_is (x ∷ xs) h = absurd (cc)

no_peer : (peer : PeerAtCentral) → CentralTable.has_no_peer peer ≡ true → peer ≡ Absent
no_peer Absent h = refl
no_peer peer h = absurd (cc)

ready_is : (pdu : Pdu) (q : Exclusive) (l : Link) → first_kind pdu ≡ Some q → central_reads pdu l ≡ true → is_ready l ≡ true
ready_is ParamReq q l first reads = (and_parts (PeripheralTable.is_requesting l.peripheral.own) (is_ready l) reads).1
ready_is PhyReq q l first reads = (and_parts (PeripheralTable.is_phy_sent l.peripheral.own) (is_ready l) reads).1
ready_is pdu q l first reads = absurd (cc)

module _ (s : Joint) (b : Before s) (p q : Exclusive) (outgoing : Outgoing) (ctrl : Ctrl) (c : Collides s p q outgoing ctrl) where
  abbrev t : Phased
  t = phased_after (takes_end (Known ctrl) c.takes.slot no_response) s.central

  abbrev old : CentralPdus
  old = central_of s.central.control.table

  -- the central is in phase Clear or Secure
  quiet : is_quiet_now s.central ≡ true
  quiet = by (is_quiet_now s.central) refl
    where
      by : (b_quiet : Bool) → is_quiet_now s.central ≡ b_quiet → b_quiet ≡ true
      by true is = refl
      by false is = absurd (let idle = ap central_kind ((known s b).own is) in let runs = c.runs in cc)

  sent : IsSentAs outgoing ctrl
  sent = subst IsSentOn c.takes.on_air b.tied.sent_up

  fits : fits_up outgoing ≡ true
  fits = subst (λ (w : Way). fits_if fits_up (item_on_air w) ≡ true) c.takes.on_air b.facts.up

  begins : begins_one (pdu_of_outgoing outgoing) ≡ true
  begins = ap begins_one c.part ∙ ap (λ (o : Option Exclusive). is_some o) c.first

  first : IsFirst ctrl
  first = first_of outgoing ctrl sent begins

  becomes : t.control.ends ≡ None → t ≡ handed s.central b.goes.central quiet (quiet_keeps_none s.central (known s b) quiet) ctrl first c.takes.slot no_response
  becomes = takes_becomes s.central b.goes.central quiet (quiet_keeps_none s.central (known s b) quiet) ctrl first c.takes.slot no_response

  abbrev unknown_now : Bool
  unknown_now = is_unknown s.central.phase (role_of s.central.control.table.progress) (ctrl_class ctrl)

  abbrev after_read : Control
  after_read = after (Takes (seen_if unknown_now (Known ctrl)) c.takes.slot (is_quiet_now s.central)) s.central.control

  abbrev answer : CentralPdus × End
  answer = answer_to (step_of_read s.central.control.table.progress (seen_if unknown_now (Known ctrl))) old

  read_next : ReadAs s.central.control after_read answer
  read_next =
      let x = is_central s.central.control.table.progress b.indicates.role in
      read_as s.central.control x.0 x.1 b.goes.central (seen_if unknown_now (Known ctrl)) c.takes.slot (is_quiet_now s.central) (not_stopping unknown_now ctrl first.live)

  means : Means answer old (pdu_of_outgoing outgoing)
  means =
      let x = is_central s.central.control.table.progress b.indicates.role in
      subst (λ (role : Role). Means (answer_to (step_of_read s.central.control.table.progress (seen_if (is_unknown s.central.phase role (ctrl_class ctrl)) (Known ctrl))) old) old (pdu_of_outgoing outgoing))
      (sym b.indicates.role) (up_means s.central.control.table x.0 x.1 s.central.phase outgoing ctrl sent fits first.live)

  rejects_by : (part : Option Pdu) → part ≡ Some c.pdu → Means answer old part → answer.1 ≡ Open → answer.0 ≡ CentralTable.rejected (rejection_of q (reason_of p q)) old
  rejects_by None is m opened = absurd (cc)
  rejects_by (Some pdu) is (means_one judged _ fits_judged same) opened =
      let begins_q : first_kind pdu ≡ Some q = ap (λ (o : Option Pdu). first_if o) is ∙ c.first in
      ap (λ (a : CentralPdus × End). a.0) same
      ∙ taken_rejected judged pdu p q old begins_q c.runs (sym (ap (λ (a : CentralPdus × End). a.1) same) ∙ opened)
    where
      first_if : Option Pdu → Option Exclusive
      first_if None = None
      first_if (Some pdu) = first_kind pdu

  -- what is left at the central
  pub rejects : t.control.ends ≡ None → central_of t.control.table ≡ CentralTable.rejected (rejection_of q (reason_of p q)) old
  rejects goes =
      let same = ap (λ (u : Phased). u.control) (becomes goes) in
      let next_goes : after_read.ends ≡ None = sym (ap (λ (d : Control). d.ends) same) ∙ goes in
      let r = read_next.goes next_goes in
      ap (λ (d : Control). central_of d.table) same ∙ r.1 ∙ rejects_by (pdu_of_outgoing outgoing) c.part means r.0

  ready : is_ready (link_of s) ≡ true
  ready = ready_is c.pdu q (link_of s) c.first (reads_up s b outgoing ctrl c.takes c.pdu c.part).0

  pub none_waits : old.rejections.items ≡ []
  none_waits = empty_is old.rejections.items (and_parts (CentralTable.has_no_peer old.peer) (is_empty old.rejections.items) ready).1

  pub has_no_peer : old.peer ≡ Absent
  has_no_peer = no_peer old.peer (and_parts (CentralTable.has_no_peer old.peer) (is_empty old.rejections.items) ready).0

  pub quiet_after : t.control.ends ≡ None → is_quiet_now t ≡ true
  quiet_after goes =
      ap (λ (u : Phased). is_quiet_now u) (becomes goes) ∙ ap (λ (pdu : PduClass). is_quiet (phase_taking pdu s.central.phase)) first.class
      ∙ still_quiet s.central.phase quiet

  pub role_kept : t.control.ends ≡ None → role_of t.control.table.progress ≡ central_role
  role_kept goes = ap (λ (u : Phased). role_of u.control.table.progress) (becomes goes) ∙ read_next.same.role
