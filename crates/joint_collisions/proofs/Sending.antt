-- What is fixed, sent and acknowledged, as joint runs of the procedures that exclude each other see it.
use Rattle.std.proofs.Common.{◌≡◌, ℕ, ◌+◌, ◌-◌, ◌%◌, ◌^◌, ◌≤◌, ◌==◌, nat_le, Bool, true, false, not, ◌&&◌, ◌||◌, if◌then◌else◌, List, [], ◌∷◌, Option, Some, None, is_none, refl, sym, ap, subst, ◌∙◌, arith, le-leb}
use Rattle.std.proofs.lemmas.Bool.{and_parts}
use Rattle.ble_base.specs.declared.roles.Role.TheVariants.{Central as central_role}
use Rattle.exclusive_stages.specs.declared.pdus.Pdu.{Pdu}
use Rattle.exclusive_stages.specs.declared.pdus.Pdu.TheVariants.{RejectParam, RejectPhy}
use Rattle.exclusive_stages.specs.Pdus.{is_held_back, is_timed}
use Rattle.instants.specs.Track.{event_of}
use Rattle.collision_steps.specs.procedure_values.declared.drafts.Draft.{Draft}
use Rattle.collision_steps.specs.procedure_values.declared.drafts.Draft.TheVariants.{Grant, Map, PhyInd, PhyReq, PhyRsp, Request, Update}
use Rattle.collision_steps.specs.procedure_values.declared.drafts.Outgoing.{Outgoing}
use Rattle.collision_steps.specs.procedure_values.declared.drafts.Outgoing.TheVariants.{Disconnect, Nothing, Other, Rejection}
use Rattle.collision_steps.specs.procedure_values.Drafts.{indication_of, is_out}
use Rattle.collision_steps.specs.procedure_stages.Closing.{is_disconnecting, is_open}
use Rattle.collision_steps.specs.procedure_stages.Kinds.{role_of}
use Rattle.collision_steps.specs.procedure_stages.declared.stages.Central.{Central}
use Rattle.collision_steps.specs.procedure_stages.declared.stages.Progress.TheVariants.{Central as central}
use Rattle.collision_steps.specs.procedures.Queue.{next_of}
use Rattle.collision_steps.specs.procedures.Sending.{acked_step}
use Rattle.collision_steps.specs.procedures.Table.{TableFacts}
use Rattle.collisions.specs.declared.joint.Way.{Way}
use Rattle.collisions.specs.declared.joint.Way.TheVariants.{Clear, OnAir, Taken}
use Rattle.collisions.specs.CentralTable
use Rattle.collisions.specs.JointRun.{is_empty, is_pdu, pdu_on_air}
use Rattle.collision_steps.specs.Answers.{first_waiting, if_it_may}
use Rattle.collision_steps.specs.CentralPart.{ack_of, after_steps, central_of, may_go, passed_from, passed_from_after, sending_of}
use Rattle.collision_steps.specs.Parts.{drafts_part, outgoing_part, param_request_opcode, phy_request_opcode, reason_part}
use Rattle.collision_steps.proofs.CentralGoing.{acked_one, first_one, goes_one, instant_one, sends_one}
use Rattle.collision_steps.proofs.CentralTaking.{over}
use Rattle.joint_controls.specs.control_model.Control.{Control, following, table_if, went}
use Rattle.joint_controls.proofs.control_model.Calls.{acked_same, sent_from}
use Rattle.joint_collisions.specs.Views.{View, waits_part, way_if}
use Rattle.joint_collisions.proofs.Reaching.{Seen, central_acks}
use Rattle.joint_collisions.proofs.Instants.{sends_central}
use Rattle.joint_collisions.proofs.CentralSteps.{SeenAt, passed_kept, view_at}

-- ---- what follows an indication that is sent

pub record Follows (outgoing : Outgoing) (c d : Control) (event latency : ℕ) : Type 0 where
  pub table : d.table ≡ c.table
  pub event_is : event_of d.track ≡ event_of c.track
  pub waits : waits_part d.track.waits ≡ (if is_pdu is_timed (outgoing_part outgoing) then Some (event + 6 + latency) else waits_part c.track.waits)

not_timed : (a b : Bool) (x y : Pdu) → is_timed x ≡ false → is_timed y ≡ false → is_pdu is_timed (if a then Some x else (if b then Some y else None)) ≡ false
not_timed true b x y hx hy = hx
not_timed false true x y hx hy = hy
not_timed false false x y hx hy = refl

none_follows : (outgoing : Outgoing) (c : Control) (event latency : ℕ) → is_pdu is_timed (outgoing_part outgoing) ≡ false → Follows outgoing c c event latency
none_follows outgoing c event latency is = record { table = refl; event_is = refl; waits = rw is refl }

at_instant : (event latency : ℕ) → latency ≤ 499 → event + (((event + 6 + latency) % 2 ^ 16 + (2 ^ 16 - event % 2 ^ 16)) % 2 ^ 16) ≡ event + 6 + latency
at_instant event latency few = omega (arith, few)

module _ (c : Control) (few : c.track.params.latency ≤ 499) where
  abbrev event : ℕ
  event = event_of c.track

  abbrev latency : ℕ
  latency = c.track.params.latency

  draft_follows : (draft : Draft) → Follows (Other draft) c (following central_role (indication_of (Other draft) event latency) c) event latency
  draft_follows (Update params) = record { table = refl; event_is = refl; waits = ap (λ (n : ℕ). Some n) (at_instant event latency few) }
  draft_follows (Grant params) = record { table = refl; event_is = refl; waits = ap (λ (n : ℕ). Some n) (at_instant event latency few) }
  draft_follows (Map map) = record { table = refl; event_is = refl; waits = ap (λ (n : ℕ). Some n) (at_instant event latency few) }
  draft_follows PhyReq = none_follows (Other PhyReq) c event latency refl
  draft_follows PhyRsp = none_follows (Other PhyRsp) c event latency refl
  draft_follows PhyInd = none_follows (Other PhyInd) c event latency refl
  draft_follows (Request min max latency_asked timeout) = none_follows (Other (Request min max latency_asked timeout)) c event latency refl
  draft_follows draft = none_follows (Other draft) c event latency refl

  follows : (outgoing : Outgoing) → Follows outgoing c (following central_role (indication_of outgoing event latency) c) event latency
  follows Nothing = none_follows Nothing c event latency refl
  follows (Rejection rejection) =
      none_follows (Rejection rejection) c event latency
      (not_timed (rejection.opcode == param_request_opcode) (rejection.opcode == phy_request_opcode) (RejectParam (reason_part rejection.code)) (RejectPhy (reason_part rejection.code)) refl refl)
  follows (Disconnect code) = none_follows (Disconnect code) c event latency refl
  follows (Other draft) = draft_follows draft

-- ---- the central sends

-- where it is to end, or outside the phases Clear and Secure
pub record MaySend (c : Control) (quiet : Bool) : Type 0 where
  pub drafts : quiet ≡ false → drafts_part c.table.queue.drafts ≡ []
  pub closing : is_open c.table.closing ≡ false → is_disconnecting c.table.closing ≡ true

pub goes_if : (test : Pdu → Bool) (first : Option Pdu) (pdu : Pdu) → if_it_may test first ≡ Some pdu → (first ≡ Some pdu) × (test pdu ≡ true)
goes_if test None pdu is = absurd (cc)
goes_if test (Some other) pdu is = by (test other) refl is
  where
    by : (b : Bool) → test other ≡ b → (if b then Some other else None) ≡ Some pdu → (◌≡◌ {A = Option Pdu} (Some other) (Some pdu)) × (test pdu ≡ true)
    by true passes same = (same, subst (λ (o : Option Pdu). is_pdu test o ≡ true) same passes)
    by false passes same = absurd (cc)

-- nothing of a central goes but rejections once it is to end
no_end : (closed empties ends quiet : Bool) → (closed ≡ true → empties ≡ true → ends ≡ true → ⊥) → (quiet ≡ false → empties ≡ true → ⊥)
    → (closed ≡ true → ends ≡ quiet) → (closed && empties) ≡ false
no_end true true ends true both out is = absurd (both refl refl (is refl))
no_end true true ends false both out is = absurd (out refl refl)
no_end true false ends quiet both out is = refl
no_end false empties ends quiet both out is = refl

nothing_waits : (rejections drafts : List Pdu) → is_empty rejections ≡ true → drafts ≡ [] → CentralTable.first_of rejections drafts ≡ None
nothing_waits [] drafts is none = rw none refl
nothing_waits (pdu ∷ more) drafts is none = absurd (cc)

pub view_closed : (f : TableFacts) (x : Central) → f.progress ≡ central x → (central_of f).closed ≡ not (is_open f.closing)
view_closed f x is = over (λ (g : TableFacts). (central_of g).closed ≡ not (is_open g.closing)) f x is refl

view_queue : (f : TableFacts) (x : Central) → f.progress ≡ central x → (central_of f).queue.items ≡ drafts_part f.queue.drafts
view_queue f x is = over (λ (g : TableFacts). (central_of g).queue.items ≡ drafts_part g.queue.drafts) f x is refl

not_not : (b : Bool) → not b ≡ true → b ≡ false
not_not true is = absurd (cc)
not_not false is = refl

module _ (p : Control) (up : Way) (kept : Option Pdu) (c : Control) (x : Central) (is : c.table.progress ≡ central x) (slot : ℕ) (quiet : Bool)
    (few : c.track.params.latency ≤ 499) (may : MaySend c quiet) (free : is_none (pdu_on_air up) ≡ true) where
  abbrev next : Outgoing
  next = next_of c.table (event_of c.track) quiet

  abbrev ends : Bool
  ends = is_disconnecting c.table.closing && quiet

  may_end : (pdu : Pdu) → outgoing_part next ≡ Some pdu → CentralTable.next_pdu (central_of c.table) ≡ Some pdu
      → may_go ends (nat_le (passed_from c.table.progress) (event_of c.track)) (central_of c.table) pdu ≡ true
      → ((central_of c.table).closed && is_empty (central_of c.table).rejections.items) ≡ false
  may_end pdu goes first lets =
      no_end (central_of c.table).closed (is_empty (central_of c.table).rejections.items) ends quiet
      (λ closed empty now. not_now (is_empty (central_of c.table).rejections.items) ends empty now
      (and_parts (not (is_empty (central_of c.table).rejections.items && ends)) (not (is_held_back pdu) || nat_le (passed_from c.table.progress) (event_of c.track)) lets).0)
      (λ loud empty. none_first (nothing_waits (central_of c.table).rejections.items (central_of c.table).queue.items empty (view_queue c.table x is ∙ may.drafts loud)))
      (λ closed. ap (λ (b : Bool). b && quiet) (may.closing (not_not (is_open c.table.closing) (sym (view_closed c.table x is) ∙ closed))))
    where
      not_now : (a b : Bool) → a ≡ true → b ≡ true → not (a && b) ≡ true → ⊥
      not_now true true ha hb h = absurd (cc)
      not_now true false ha hb h = absurd (cc)
      not_now false b ha hb h = absurd (cc)

      none_first : CentralTable.next_pdu (central_of c.table) ≡ None → ⊥
      none_first none = let both : ◌≡◌ {A = Option Pdu} (Some pdu) None = sym first ∙ none in absurd (cc)

  -- the view after it
  abbrev went_view : Option Pdu → View
  went_view pdu =
      record (view_at p Clear up kept c) {
        central = after_steps (sending_of pdu) (central_of c.table);
        down = way_if (λ q. OnAir q) pdu;
        passed_from = passed_from_after pdu (event_of c.track) c.track.params.latency (passed_from c.table.progress);
        central_waits = (if is_pdu is_timed pdu then Some (event_of c.track + 6 + c.track.params.latency) else waits_part c.track.waits);
      }

  sent_view : (pdu : Option Pdu) → outgoing_part next ≡ pdu → Seen (view_at p Clear up kept c) → Seen (went_view pdu)
  sent_view None goes s = s
  sent_view (Some pdu) goes s =
      let rule = goes_one c.table x (event_of c.track) quiet is in
      let both = goes_if (may_go ends (nat_le (passed_from c.table.progress) (event_of c.track)) (central_of c.table)) (outgoing_part (first_waiting c.table.queue)) pdu (sym rule ∙ goes) in
      let first = first_one c.table x pdu is both.0 in
      sends_central (view_at p Clear up kept c) s c.track.params.latency pdu refl free first (may_end pdu goes first both.1)
      (and_parts (not (is_empty (central_of c.table).rejections.items && ends)) (not (is_held_back pdu) || nat_le (passed_from c.table.progress) (event_of c.track)) both.1).1
      (le-leb c.track.params.latency 499 few)

  abbrev went_control : Control
  went_control = following central_role (went slot quiet c).1 (record c { table = (went slot quiet c).0 })

  pub sent_seen : SeenAt p Clear up kept c → SeenAt p (way_if (λ q. OnAir q) (outgoing_part next)) up kept went_control
  sent_seen s =
      let f = follows (record c { table = (went slot quiet c).0 }) few next in
      let part : central_of went_control.table ≡ after_steps (sending_of (outgoing_part next)) (central_of c.table) =
      ap (λ (g : TableFacts). central_of g) f.table ∙ sends_one c.table x (event_of c.track) c.track.params.latency slot quiet is in
      let passed : passed_from went_control.table.progress ≡ passed_from_after (outgoing_part next) (event_of c.track) c.track.params.latency (passed_from c.table.progress) =
      ap (λ (g : TableFacts). passed_from g.progress) f.table ∙ instant_one c.table x (event_of c.track) c.track.params.latency slot quiet is in
      record {
        role = ap (λ (g : TableFacts). role_of g.progress) f.table ∙ (sent_from next (event_of c.track) c.track.params.latency c.table.progress).role ∙ s.role;
        seen = rw (part, passed, f.event_is, f.waits) (sent_view (outgoing_part next) refl s.seen);
      }

-- ---- the central sees its PDU acknowledged

module _ (p : Control) (up : Way) (kept : Option Pdu) (c : Control) (x : Central) (is : c.table.progress ≡ central x) (same : event_of c.track ≡ event_of p.track) where
  acked_view : (pdu : Option Pdu) → Seen (view_at p (way_if (λ q. Taken q) pdu) up kept c)
      → Seen (record (view_at p Clear up kept c) { central = after_steps (ack_of pdu) (central_of c.table) })
  acked_view None s = s
  acked_view (Some pdu) s = central_acks (view_at p (Taken pdu) up kept c) s pdu refl same

  acked_now : SeenAt p (way_if (λ q. Taken q) (outgoing_part c.table.out)) up kept c → SeenAt p Clear up kept (record c { table = (acked_step c.table).0 })
  acked_now s =
      let kept_parts = acked_same c.table.out c.table.progress in
      let passed = passed_kept c.table.progress (acked_step c.table).0.progress kept_parts.last in
      record { role = kept_parts.role ∙ s.role; seen = rw (acked_one c.table x is, passed) (acked_view (outgoing_part c.table.out) s.seen) }

  pub acked_seen : SeenAt p (way_if (λ q. Taken q) (outgoing_part c.table.out)) up kept c
      → SeenAt p Clear up kept (table_if (is_out c.table.out) (acked_step c.table).0 c)
  acked_seen s = by c.table.out refl
    where
      by : (out : Outgoing) → c.table.out ≡ out → SeenAt p Clear up kept (table_if (is_out out) (acked_step c.table).0 c)
      by Nothing is_out_none =
          subst (λ (out : Outgoing). SeenAt p (way_if (λ q. Taken q) (outgoing_part out)) up kept c) is_out_none s
      by out is_out_some = acked_now s
