-- The laws of two procedures that collide in a joint run.
use Rattle.std.proofs.Common.{◌≡◌, Bool, true, false, not, ◌&&◌, if◌then◌else◌, List, [], ◌∷◌, ◌++◌, None, refl, sym, ap, ◌∙◌}
use Rattle.std.proofs.lemmas.Bool.{and_parts}
use Rattle.data_pdu.specs.declared.ctrl.Ctrl.{Ctrl}
use Rattle.data_pdu.specs.declared.ctrl.CtrlRead.TheVariants.{Known}
use Rattle.exclusive_stages.specs.declared.pdus.Exclusive.{Exclusive}
use Rattle.exclusive_stages.specs.declared.pdus.Pdu.{Pdu}
use Rattle.exclusive_stages.specs.declared.stages.PeerAtCentral.TheVariants.{Absent}
use Rattle.exclusive_stages.specs.Pdus.{reason_of, rejection_of}
use Rattle.instants.specs.Track.{event_of}
use Rattle.collision_steps.specs.procedure_values.declared.drafts.Outgoing.{Outgoing}
use Rattle.collision_steps.specs.procedure_values.declared.drafts.Rejection.{Rejection as TheRejection}
use Rattle.collision_steps.specs.procedure_stages.Closing.{is_disconnecting}
use Rattle.collision_steps.specs.procedure_stages.Kinds.{role_of}
use Rattle.collision_steps.specs.procedure_stages.Queue.{next_after_rejections, next_by, next_disconnect}
use Rattle.collision_steps.specs.procedures.Queue.{next_other}
use Rattle.collision_steps.specs.procedures.Table.{TableFacts}
use Rattle.collision_steps.specs.procedure_stages.declared.stages.Central.{Central}
use Rattle.collision_steps.specs.procedure_stages.declared.stages.Progress.TheVariants.{Central as central}
use Rattle.collisions.specs.declared.central.Central.{Central as CentralPdus}
use Rattle.collisions.specs.CentralTable
use Rattle.collision_steps.specs.CentralPart.{central_of}
use Rattle.collision_steps.specs.Parts.{rejections_part}
use Rattle.collision_steps.proofs.CentralTaking.{over}
use Rattle.joint_controls.specs.phased_control.Phased.{Phased, is_open_now, is_quiet_now}
use Rattle.joint_controls.specs.phased_control.Taken.{Takes as takes_end, phased_after}
use Rattle.joint_controls.specs.Joint.{CentralTakes, Joint, JointStep, Way, after_all, central_takes, is_running, may_act, next_out, no_response}
use Rattle.joint_controls.proofs.Running.{goes_on}
use Rattle.joint_collisions.specs.Arrivals.{Collides, RejectsNext, collided, is_silent}
use Rattle.joint_collisions.specs.Facts.{CentralFacts, IsState}
use Rattle.joint_collisions.proofs.CentralSteps.{is_central}
use Rattle.joint_collisions.proofs.Colliding.{has_no_peer, none_waits, quiet_after, rejects, role_kept}
use Rattle.joint_collisions.proofs.EachStep.{Before}
use Rattle.joint_collisions.proofs.NextRejection.{FirstIs, first_is, none_is, rejection_is}
use Rattle.joint_collisions.proofs.RejectedNext.{goes_next, steps_kept}
use Rattle.joint_collisions.proofs.Runs.{before_of}
use Rattle.joint_collisions.proofs.Sending.{view_closed}

-- ---- what a rejection leaves

record Left (r : Pdu) (old new : CentralPdus) : Type 0 where
  own : new.own ≡ old.own
  peer : new.peer ≡ old.peer
  closed : new.closed ≡ old.closed
  open_still : old.closed ≡ false → new.rejections.items ≡ old.rejections.items ++ r ∷ []
  ends : old.closed ≡ true → new.rejections.items ≡ old.rejections.items

left_by : (r : Pdu) (old : CentralPdus) (b : Bool) → old.closed ≡ b
    → Left r old (if b then old else record old { rejections = record { items = old.rejections.items ++ r ∷ [] } })
left_by r old true is =
    record { own = refl; peer = refl; closed = refl; open_still = λ h. absurd (let no : true ≡ false = sym is ∙ h in cc); ends = λ h. refl }
left_by r old false is =
    record { own = refl; peer = refl; closed = refl; open_still = λ h. refl; ends = λ h. absurd (let no : false ≡ true = sym is ∙ h in cc) }

left : (r : Pdu) (old : CentralPdus) → Left r old (CentralTable.rejected r old)
left r old = left_by r old old.closed refl

view_rejections : (f : TableFacts) (x : Central) → f.progress ≡ central x → (central_of f).rejections.items ≡ rejections_part f.queue.rejections
view_rejections f x is = over (λ (g : TableFacts). (central_of g).rejections.items ≡ rejections_part g.queue.rejections) f x is refl

not_false : (b : Bool) → not b ≡ true → b ≡ false
not_false true is = absurd (cc)
not_false false is = refl

module _ (s : Joint) (p q : Exclusive) (outgoing : Outgoing) (ctrl : Ctrl) (c : Collides s p q outgoing ctrl) (state : IsState s) where
  b : Before s
  b = before_of s state (and_parts (is_running s) (may_act (CentralTakes c.takes.slot) s) c.takes.comes).0

  abbrev after_taking : Phased
  after_taking = phased_after (takes_end (Known ctrl) c.takes.slot no_response) s.central

  taking_is : (collided s p q outgoing ctrl c).central ≡ after_taking
  taking_is = ap (λ (w : Way). (central_takes w c.takes.slot s).central) c.takes.on_air

  abbrev old : CentralPdus
  old = central_of s.central.control.table

  abbrev r : Pdu
  r = rejection_of q (reason_of p q)

  lasts : is_running (collided s p q outgoing ctrl c) ≡ true → after_taking.control.ends ≡ None
  lasts runs = sym (ap (λ (t : Phased). t.control.ends) taking_is) ∙ (goes_on (collided s p q outgoing ctrl c) runs).central

  part : is_running (collided s p q outgoing ctrl c) ≡ true → central_of (collided s p q outgoing ctrl c).central.control.table ≡ CentralTable.rejected r old
  part runs = ap (λ (t : Phased). central_of t.control.table) taking_is ∙ rejects s b p q outgoing ctrl c (lasts runs)

  pub own_stays : is_running (collided s p q outgoing ctrl c) ≡ true → (central_of (collided s p q outgoing ctrl c).central.control.table).own ≡ old.own
  own_stays runs = ap (λ (t : CentralPdus). t.own) (part runs) ∙ (left r old).own

  pub no_peer_then : is_running (collided s p q outgoing ctrl c) ≡ true → (central_of (collided s p q outgoing ctrl c).central.control.table).peer ≡ Absent
  no_peer_then runs = ap (λ (t : CentralPdus). t.peer) (part runs) ∙ (left r old).peer ∙ has_no_peer s b p q outgoing ctrl c

  module _ (runs : is_running (collided s p q outgoing ctrl c) ≡ true) (facts : CentralFacts (collided s p q outgoing ctrl c).central) where
    abbrev t : Phased
    t = (collided s p q outgoing ctrl c).central

    -- the role stays
    role_after : (x : Central) × (t.control.table.progress ≡ central x)
    role_after = is_central t.control.table.progress (ap (λ (u : Phased). role_of u.control.table.progress) taking_is ∙ role_kept s b p q outgoing ctrl c (lasts runs))

    items : rejections_part t.control.table.queue.rejections ≡ (CentralTable.rejected r old).rejections.items
    items =
        sym (view_rejections t.control.table role_after.0 role_after.1) ∙ ap (λ (u : CentralPdus). u.rejections.items) (part runs)

    closed_is : old.closed ≡ not (is_open_now s.central)
    closed_is =
        let x = is_central s.central.control.table.progress b.indicates.role in view_closed s.central.control.table x.0 x.1

    waits_first : is_open_now s.central ≡ true → FirstIs r t.control.table.queue.rejections
    waits_first opened =
        first_is r t.control.table.queue.rejections facts.rejections
        (items ∙ (left r old).open_still (closed_is ∙ ap not opened) ∙ ap (λ (xs : List Pdu). xs ++ r ∷ []) (none_waits s b p q outgoing ctrl c))

    pub rejected_later : is_open_now s.central ≡ true → (steps : List JointStep) → is_silent steps ≡ true → RejectsNext (after_all steps (collided s p q outgoing ctrl c)) p q
    rejected_later opened steps silent =
        let first = waits_first opened in
        let is = rejection_is c.pdu p q first.rejection c.first first.part in
        record {
          rejection = first.rejection;
          next =
              goes_next first.rejection (after_all steps (collided s p q outgoing ctrl c))
              (steps_kept first.rejection steps (collided s p q outgoing ctrl c) silent (first.more, first.is));
          opcode = is.opcode;
          code = is.code;
        }

    -- once it is to end, LL_TERMINATE_IND comes next, or nothing
    pub terminates_next : is_open_now s.central ≡ false → next_out t ≡ next_disconnect t.control.table.queue.disconnect
    terminates_next closing =
        let none : t.control.table.queue.rejections ≡ [] =
        none_is t.control.table.queue.rejections facts.rejections
        (items ∙ (left r old).ends (closed_is ∙ ap not closing) ∙ none_waits s b p q outgoing ctrl c) in
        let closed : not (is_open_now t) ≡ true =
        sym (view_closed t.control.table role_after.0 role_after.1) ∙ ap (λ (u : CentralPdus). u.closed) (part runs) ∙ (left r old).closed ∙ closed_is ∙ ap not closing in
        let ends = facts.closing (not_false (is_open_now t) closed) in
        let quiet : is_quiet_now t ≡ true = ap (λ (u : Phased). is_quiet_now u) taking_is ∙ quiet_after s b p q outgoing ctrl c (lasts runs) in
        ap (λ (xs : List TheRejection). next_by xs (next_other t.control.table (event_of t.control.track) (is_quiet_now t))) none
        ∙ ap (λ (e : Bool). next_after_rejections e t.control.table.progress (event_of t.control.track) t.control.table.queue) (both ends quiet)
      where
        both : is_disconnecting t.control.table.closing ≡ true → is_quiet_now t ≡ true → (is_disconnecting t.control.table.closing && is_quiet_now t) ≡ true
        both ends quiet = rw (ends, quiet) refl
