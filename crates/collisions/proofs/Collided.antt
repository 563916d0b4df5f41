-- What becomes of two procedures that collide.
use Rattle.std.proofs.Common.{◌≡◌, ◌≢◌, inl, inr, Bool, true, false, not, ◌&&◌, List, [], ◌∷◌, ◌++◌, Option, Some, None, is_none, if◌then◌else◌, refl, ap, sym, subst}
use Rattle.std.proofs.lemmas.Bool.{and_parts}
use Rattle.exclusive_stages.specs.declared.pdus.Exclusive.{Exclusive}
use Rattle.exclusive_stages.specs.declared.pdus.Exclusive.TheVariants.{Request, Phy}
use Rattle.exclusive_stages.specs.declared.pdus.Reason.{Reason}
use Rattle.exclusive_stages.specs.declared.pdus.Pdu.{Pdu}
use Rattle.exclusive_stages.specs.declared.pdus.Pdu.TheVariants.{UpdateInd, GrantInd, MapInd, PhyReq, PhyRsp, PhyInd, ParamReq, RejectParam, RejectPhy, Refusal}
use Rattle.exclusive_stages.specs.declared.stages.PeerAtCentral.{PeerAtCentral}
use Rattle.exclusive_stages.specs.declared.stages.PeerAtCentral.TheVariants.{Absent, HostAsked, GrantUnsent, GrantSent, PhyIndUnsent, PhyIndSent}
use Rattle.exclusive_stages.specs.declared.stages.PeripheralStage.{PeripheralStage}
use Rattle.exclusive_stages.specs.declared.stages.PeripheralStage.TheVariants.{Idle, RequestUnsent, RequestSent, RequestAcknowledged, RequestGranted, PhyUnsent, PhySent}
use Rattle.collisions.specs.declared.central.Central.{Central}
use Rattle.collisions.specs.declared.events.Event.{Event}
use Rattle.collisions.specs.declared.events.Event.TheVariants.{CentralSends, CentralTakes, PeripheralTakes}
use Rattle.collisions.specs.declared.events.Place.{Place}
use Rattle.collisions.specs.declared.joint.End.{End}
use Rattle.collisions.specs.declared.joint.End.TheVariants.{Open, Collided}
use Rattle.collisions.specs.declared.joint.Way.{Way}
use Rattle.collisions.specs.declared.joint.Way.TheVariants.{OnAir}
use Rattle.collisions.specs.declared.joint.Link.{Link}
use Rattle.machines.specs.Machine.{run, run_from}
use Rattle.exclusive_stages.specs.Pdus.{first_kind, is_kind, is_timed, reason_of, rejection_of}
use Rattle.exclusive_stages.specs.Kinds.{central_kind, kind_sent_by_peripheral}
use Rattle.exclusive_stages.specs.Awaited.{peer_answered}
use Rattle.collisions.specs.CentralTable
use Rattle.collisions.specs.PeripheralTable
use Rattle.collisions.specs.JointRun.{act, central_takes, central_sends, collisions, is_clear, is_empty, may, may_act, may_send_pdu, pdu_on_air, peripheral_takes, Timing, timing_of}
use Rattle.collisions.specs.Meaning.{central_reads, is_free, is_ready, peripheral_reads, reads_if_some}
use Rattle.collisions.specs.CollisionLaws.{IsCollision, is_silent}
use Rattle.machines.proofs.Closing.{act_is_known, is_lawful}
use Rattle.collisions.proofs.CollisionEvents.{coded, is_coded}
use Rattle.collisions.proofs.CollisionStates.{states}
use Rattle.collisions.proofs.CollisionsClosed.{all_closed}
use Rattle.collisions.proofs.Collisions.{known, meant, never_collided}
use Rattle.collisions.proofs.Rejections.{Waits, after_silence}

-- a first PDU that is taken collides with the own procedure
taken_is : (pdu : Pdu) (p q : Exclusive) (judged : Bool) (t : Central) → first_kind pdu ≡ Some q → central_kind t.own ≡ Some p
    → CentralTable.taken judged pdu t ≡ CentralTable.collision p q t
taken_is ParamReq p q judged t first runs = let e : Request ≡ q = cc in rw runs (subst (λ (k : Exclusive). CentralTable.collision p Request t ≡ CentralTable.collision p k t) e refl)
taken_is PhyReq p q judged t first runs = let e : Phy ≡ q = cc in rw runs (subst (λ (k : Exclusive). CentralTable.collision p Phy t ≡ CentralTable.collision p k t) e refl)
taken_is UpdateInd p q judged t first runs = absurd (cc)
taken_is GrantInd p q judged t first runs = absurd (cc)
taken_is Refusal p q judged t first runs = absurd (cc)
taken_is MapInd p q judged t first runs = absurd (cc)
taken_is PhyRsp p q judged t first runs = absurd (cc)
taken_is PhyInd p q judged t first runs = absurd (cc)
taken_is (RejectParam reason) p q judged t first runs = absurd (cc)
taken_is (RejectPhy reason) p q judged t first runs = absurd (cc)

-- the central has nothing of a procedure of the peripheral, and no rejection waits
no_peer : (peer : PeerAtCentral) → CentralTable.has_no_peer peer ≡ true → peer ≡ Absent
no_peer Absent h = refl
no_peer HostAsked h = absurd (cc)
no_peer GrantUnsent h = absurd (cc)
no_peer GrantSent h = absurd (cc)
no_peer PhyIndUnsent h = absurd (cc)
no_peer PhyIndSent h = absurd (cc)

empty_is : (xs : List Pdu) → is_empty xs ≡ true → xs ≡ []
empty_is [] h = refl
empty_is (x ∷ xs) h = absurd (cc)

ready_is : (pdu : Pdu) (q : Exclusive) (s : Link) → first_kind pdu ≡ Some q → central_reads pdu s ≡ true → is_ready s ≡ true
ready_is ParamReq q s first reads = (and_parts (PeripheralTable.is_requesting s.peripheral.own) (is_ready s) reads).1
ready_is PhyReq q s first reads = (and_parts (PeripheralTable.is_phy_sent s.peripheral.own) (is_ready s) reads).1
ready_is UpdateInd q s first reads = absurd (cc)
ready_is GrantInd q s first reads = absurd (cc)
ready_is Refusal q s first reads = absurd (cc)
ready_is MapInd q s first reads = absurd (cc)
ready_is PhyRsp q s first reads = absurd (cc)
ready_is PhyInd q s first reads = absurd (cc)
ready_is (RejectParam reason) q s first reads = absurd (cc)
ready_is (RejectPhy reason) q s first reads = absurd (cc)

-- what a collision leaves at the central
pub record Left (p q : Exclusive) (old new : Central) (end : End) : Type 0 where
  pub own : new.own ≡ old.own
  pub peer : new.peer ≡ Absent
  pub ended : end ≡ Open
  pub waits : Waits (rejection_of q (reason_of p q)) new

rejected_left : (p q : Exclusive) (t : Central) (b : Bool) → t.closed ≡ b → t.peer ≡ Absent → t.rejections.items ≡ []
    → Left p q t (if b then t else record t { rejections = record { items = t.rejections.items ++ rejection_of q (reason_of p q) ∷ [] } }) Open
unfolding Waits
rejected_left p q t true closed peer none = record { own = refl; peer = peer; ended = refl; waits = inr (closed, none) }
rejected_left p q t false closed peer none =
    record {
      own = refl;
      peer = peer;
      ended = refl;
      waits = inl ([], ap (λ (xs : List Pdu). xs ++ rejection_of q (reason_of p q) ∷ []) none);
    }

collision_left : (p q : Exclusive) (t : Central) (b : Bool) → peer_answered t.own ≡ b
    → ((CentralTable.collision p q t).1 ≢ Collided (reason_of p q)) → t.peer ≡ Absent → t.rejections.items ≡ []
    → Left p q t (CentralTable.collision p q t).0 (CentralTable.collision p q t).1
collision_left p q t true is still peer none = absurd (still (rw is refl))
collision_left p q t false is still peer none = rw is (rejected_left p q t t.closed refl peer none)

taken_left : (p q : Exclusive) (judged : Bool) (pdu : Pdu) (s : Link) → IsCollision p q judged pdu s
    → central_reads pdu s ≡ true → ((CentralTable.taken judged pdu s.central).1 ≢ Collided (reason_of p q))
    → Left p q s.central (CentralTable.taken judged pdu s.central).0 (CentralTable.taken judged pdu s.central).1
taken_left p q judged pdu s c reads still =
    let is = taken_is pdu p q judged s.central c.first c.runs in
    let ready = and_parts (CentralTable.has_no_peer s.central.peer) (is_empty s.central.rejections.items) (ready_is pdu q s c.first reads) in
    subst (λ (answer : Central × End). Left p q s.central answer.0 answer.1) (sym is)
    (collision_left p q s.central (peer_answered s.central.own) refl
    (subst (λ (answer : Central × End). answer.1 ≢ Collided (reason_of p q)) is still)
    (no_peer s.central.peer ready.0) (empty_is s.central.rejections.items ready.1))

-- the same of the step
taken_by : (p q : Exclusive) (judged : Bool) (pdu : Pdu) (way : Way) (s : Link) → way ≡ OnAir pdu
    → Left p q s.central (CentralTable.taken judged pdu s.central).0 (CentralTable.taken judged pdu s.central).1
    → Left p q s.central (central_takes judged way s).central (central_takes judged way s).end
taken_by p q judged pdu way s is left = rw is left

end_by : (judged : Bool) (pdu : Pdu) (way : Way) (s : Link) (reason : Reason) → way ≡ OnAir pdu
    → (central_takes judged way s).end ≢ Collided reason → (CentralTable.taken judged pdu s.central).1 ≢ Collided reason
end_by judged pdu way s reason is still = subst (λ (w : Way). (central_takes judged w s).end ≢ Collided reason) is still

reads_by : (pdu : Pdu) (way : Way) (s : Link) → way ≡ OnAir pdu → reads_if_some central_reads (pdu_on_air way) s ≡ true
    → central_reads pdu s ≡ true
reads_by pdu way s is reads = subst (λ (w : Way). reads_if_some central_reads (pdu_on_air w) s ≡ true) is reads

module _ (p q : Exclusive) (judged : Bool) (pdu : Pdu) (events : List Event) (c : IsCollision p q judged pdu (run collisions events)) where
  still : (reason : Reason) → (act (CentralTakes judged) (run collisions events)).end ≢ Collided reason
  still reason =
      let s = run collisions events in
      let sound = is_lawful coded is_coded states all_closed (act (CentralTakes judged) s)
      (act_is_known coded is_coded states all_closed s (CentralTakes judged) (known events) c.comes) in
      never_collided (act (CentralTakes judged) s).end reason (and_parts _ _ sound).0

  pub left : Left p q (run collisions events).central (act (CentralTakes judged) (run collisions events)).central
      (act (CentralTakes judged) (run collisions events)).end
  left =
      let s = run collisions events in
      let reads = reads_by pdu s.up s c.on_air (and_parts (reads_if_some central_reads (pdu_on_air s.up) s) (is_none s.kept) (meant events (CentralTakes judged) c.comes)).0 in
      taken_by p q judged pdu s.up s c.on_air
      (taken_left p q judged pdu s c reads (end_by judged pdu s.up s (reason_of p q) c.on_air (still (reason_of p q))))

-- ---- the next PDU that the central sends

-- where a rejection waits it goes first; where none does, after a termination, nothing goes
sends_by : (x : Pdu) (next : Place) (s : Link) (rejections queue : List Pdu) (closed : Bool)
    → ((more : List Pdu) × (rejections ≡ x ∷ more)) → (central_sends (CentralTable.first_of rejections queue) next s).down ≡ OnAir x
sends_by x next s rejections queue closed (more, is) = rw is refl

never_sends : (timing : Timing) (s : Link) (first : Option Pdu) → s.central.closed ≡ true → s.central.rejections.items ≡ []
    → may_send_pdu timing first s ≡ true → ⊥
never_sends timing s None closed none h = absurd (cc)
never_sends timing s (Some pdu) closed none h =
    let first = (and_parts (not (s.central.closed && is_empty s.central.rejections.items)) _ h).0 in
    let same : (s.central.closed && is_empty s.central.rejections.items) ≡ true = rw (closed, none) refl in
    absurd (cc)

may_parts : (next : Place) (s : Link) → may (CentralSends next) s ≡ true
    → may_send_pdu (timing_of (CentralSends next) s) (CentralTable.next_pdu s.central) s ≡ true
may_parts next s h =
    let one = (and_parts _ (may_act (timing_of (CentralSends next) s) (CentralSends next) s) h).1 in
    let two = (and_parts (is_clear s.down) _ one).1 in
    (and_parts (is_none (pdu_on_air s.up)) (may_send_pdu (timing_of (CentralSends next) s) (CentralTable.next_pdu s.central) s) two).1

pub sends_first : (x : Pdu) (next : Place) (s : Link) → Waits x s.central → may (CentralSends next) s ≡ true
    → (act (CentralSends next) s).down ≡ OnAir x
unfolding Waits
sends_first x next s (inl w) comes = sends_by x next s s.central.rejections.items s.central.queue.items s.central.closed w
sends_first x next s (inr w) comes = absurd (never_sends (timing_of (CentralSends next) s) s (CentralTable.next_pdu s.central) w.0 w.1 (may_parts next s comes))

pub rejected_next : (p q : Exclusive) (judged : Bool) (pdu : Pdu) (events : List Event) → IsCollision p q judged pdu (run collisions events)
    → (later : List Event) (next : Place) → is_silent later ≡ true
    → may (CentralSends next) (run_from collisions (act (CentralTakes judged) (run collisions events)) later) ≡ true
    → (act (CentralSends next) (run_from collisions (act (CentralTakes judged) (run collisions events)) later)).down ≡ OnAir (rejection_of q (reason_of p q))
rejected_next p q judged pdu events c later next silent comes =
    sends_first (rejection_of q (reason_of p q)) next (run_from collisions (act (CentralTakes judged) (run collisions events)) later)
    (after_silence (rejection_of q (reason_of p q)) later (act (CentralTakes judged) (run collisions events)) silent (left p q judged pdu events c).waits)
    comes

-- ---- the peripheral takes a rejection

reads_down : (pdu : Pdu) (way : Way) (s : Link) → way ≡ OnAir pdu → reads_if_some peripheral_reads (pdu_on_air way) s ≡ true
    → peripheral_reads pdu s ≡ true
reads_down pdu way s is reads = subst (λ (w : Way). reads_if_some peripheral_reads (pdu_on_air w) s ≡ true) is reads

pub reads_taken : (events : List Event) (pdu : Pdu) → may PeripheralTakes (run collisions events) ≡ true
    → (run collisions events).down ≡ OnAir pdu → peripheral_reads pdu (run collisions events) ≡ true
reads_taken events pdu comes is =
    let s = run collisions events in reads_down pdu s.down s is (meant events PeripheralTakes comes)

sent_request : (own : PeripheralStage) → PeripheralTable.is_requesting own ≡ true → is_kind (kind_sent_by_peripheral own) Request ≡ true
sent_request RequestSent h = refl
sent_request RequestAcknowledged h = refl
sent_request Idle h = absurd (cc)
sent_request RequestUnsent h = absurd (cc)
sent_request RequestGranted h = absurd (cc)
sent_request PhyUnsent h = absurd (cc)
sent_request PhySent h = absurd (cc)

sent_phy : (own : PeripheralStage) → PeripheralTable.is_phy_sent own ≡ true → is_kind (kind_sent_by_peripheral own) Phy ≡ true
sent_phy PhySent h = refl
sent_phy Idle h = absurd (cc)
sent_phy RequestUnsent h = absurd (cc)
sent_phy RequestSent h = absurd (cc)
sent_phy RequestAcknowledged h = absurd (cc)
sent_phy RequestGranted h = absurd (cc)
sent_phy PhyUnsent h = absurd (cc)

-- the host hears of it, and the procedure is over
learns_request : (reason : Reason) (way : Way) (s : Link) → way ≡ OnAir (RejectParam reason) → PeripheralTable.is_requesting s.peripheral.own ≡ true
    → (PeripheralTable.refusal_by (RejectParam reason) s.peripheral.own ≡ Some (Request, reason)) × ((peripheral_takes way s).peripheral.own ≡ Idle)
learns_request reason way s is runs = (let sent = sent_request s.peripheral.own runs in rw sent refl, let sent = sent_request s.peripheral.own runs in rw (is, sent) refl)

learns_phy : (reason : Reason) (way : Way) (s : Link) → way ≡ OnAir (RejectPhy reason) → PeripheralTable.is_phy_sent s.peripheral.own ≡ true
    → (PeripheralTable.refusal_by (RejectPhy reason) s.peripheral.own ≡ Some (Phy, reason)) × ((peripheral_takes way s).peripheral.own ≡ Idle)
learns_phy reason way s is runs = (let sent = sent_phy s.peripheral.own runs in rw sent refl, let sent = sent_phy s.peripheral.own runs in rw (is, sent) refl)

pub request_refused : (events : List Event) (reason : Reason) → may PeripheralTakes (run collisions events) ≡ true
    → (run collisions events).down ≡ OnAir (RejectParam reason)
    → (PeripheralTable.refusal_by (RejectParam reason) (run collisions events).peripheral.own ≡ Some (Request, reason))
    × ((act PeripheralTakes (run collisions events)).peripheral.own ≡ Idle)
request_refused events reason comes is =
    let s = run collisions events in learns_request reason s.down s is (reads_taken events (RejectParam reason) comes is)

pub phy_refused : (events : List Event) (reason : Reason) → may PeripheralTakes (run collisions events) ≡ true
    → (run collisions events).down ≡ OnAir (RejectPhy reason)
    → (PeripheralTable.refusal_by (RejectPhy reason) (run collisions events).peripheral.own ≡ Some (Phy, reason))
    × ((act PeripheralTakes (run collisions events)).peripheral.own ≡ Idle)
phy_refused events reason comes is =
    let s = run collisions events in learns_phy reason s.down s is (reads_taken events (RejectPhy reason) comes is)

-- ---- a peripheral that takes an indication has none that waits

not_true : (b : Bool) → not b ≡ true → b ≡ false
not_true true h = absurd (cc)
not_true false h = refl

free_is : (s : Link) → is_free s ≡ true → PeripheralTable.is_waiting s.peripheral ≡ false
free_is s h = not_true (PeripheralTable.is_waiting s.peripheral) (and_parts (not (PeripheralTable.is_waiting s.peripheral)) _ h).0

not_waiting : (pdu : Pdu) (s : Link) → is_timed pdu ≡ true → peripheral_reads pdu s ≡ true → PeripheralTable.is_waiting s.peripheral ≡ false
not_waiting UpdateInd s timed reads = free_is s (and_parts (is_free s) _ reads).0
not_waiting GrantInd s timed reads = free_is s (and_parts (is_free s) _ reads).0
not_waiting MapInd s timed reads = free_is s reads
not_waiting PhyReq s timed reads = absurd (cc)
not_waiting PhyRsp s timed reads = absurd (cc)
not_waiting PhyInd s timed reads = absurd (cc)
not_waiting ParamReq s timed reads = absurd (cc)
not_waiting Refusal s timed reads = absurd (cc)
not_waiting (RejectParam reason) s timed reads = absurd (cc)
not_waiting (RejectPhy reason) s timed reads = absurd (cc)

pub free : (events : List Event) (pdu : Pdu) → may PeripheralTakes (run collisions events) ≡ true
    → (run collisions events).down ≡ OnAir pdu → is_timed pdu ≡ true
    → PeripheralTable.is_waiting (run collisions events).peripheral ≡ false
free events pdu comes is timed = not_waiting pdu (run collisions events) timed (reads_taken events pdu comes is)
