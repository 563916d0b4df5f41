-- Of two procedures that collide the peripheral's is rejected: its rejection is what the central sends next.
use Rattle.std.proofs.Common.{◌≡◌, ◌⊎◌, inl, inr, Bool, true, false, not, List, [], ◌∷◌, ◌++◌, Option, Some, None, if◌then◌else◌, refl, ap}
use Rattle.std.proofs.lemmas.Bool.{and_parts}
use Rattle.exclusive_stages.specs.declared.pdus.Exclusive.{Exclusive}
use Rattle.exclusive_stages.specs.declared.pdus.Exclusive.TheVariants.{Request, Phy}
use Rattle.exclusive_stages.specs.declared.pdus.Reason.TheVariants.{Other}
use Rattle.exclusive_stages.specs.declared.pdus.Pdu.{Pdu}
use Rattle.exclusive_stages.specs.declared.pdus.Pdu.TheVariants.{GrantInd, PhyReq, PhyRsp, PhyInd, ParamReq, RejectParam, Refusal}
use Rattle.exclusive_stages.specs.declared.stages.CentralStage.TheVariants.{PhyAnswered}
use Rattle.exclusive_stages.specs.declared.stages.PeerAtCentral.TheVariants.{Absent, GrantUnsent, PhyIndUnsent}
use Rattle.collisions.specs.declared.central.Central.{Central}
use Rattle.collisions.specs.declared.events.Event.{Event}
use Rattle.collisions.specs.declared.events.Event.TheVariants.{CentralEnters, CentralBegins, HostGrants, HostRefuses, CentralCloses, CentralSends, CentralAcked, CentralTakes, CentralKeeps, CentralTakesKept}
use Rattle.collisions.specs.declared.events.Event.TheVariants.{PeripheralEnters, PeripheralBegins, PeripheralCloses, PeripheralFixes, PeripheralSends, PeripheralAcked, PeripheralTakes}
use Rattle.collisions.specs.declared.joint.Way.{Way}
use Rattle.collisions.specs.declared.joint.Way.TheVariants.{Clear, Fixed, OnAir, Taken}
use Rattle.collisions.specs.declared.joint.Link.{Link}
use Rattle.machines.specs.Machine.{run_from, step}
use Rattle.exclusive_stages.specs.Pdus.{first_pdu_of, reason_of, rejection_of}
use Rattle.exclusive_stages.specs.Kinds.{central_kind}
use Rattle.exclusive_stages.specs.Awaited.{awaits_phy_rsp, peer_answered}
use Rattle.exclusive_stages.specs.Begun.{stage_begun_at_central}
use Rattle.collisions.specs.CentralTable
use Rattle.collisions.specs.PeripheralTable
use Rattle.collisions.specs.JointRun.{act, central_acked, central_keeps, central_takes, central_takes_kept, collisions, may, peripheral_acked, peripheral_fixes, peripheral_sends, peripheral_takes}
use Rattle.collisions.specs.CollisionLaws.{is_sending, is_silent}

-- a rejection is the first of those that wait; or a termination was queued and none waits, so that none is sent
unfoldable pub Waits : Pdu → Central → Type 0
Waits x t = ((more : List Pdu) × (t.rejections.items ≡ x ∷ more)) ⊎ ((t.closed ≡ true) × (t.rejections.items ≡ []))

module _ (x : Pdu) where
  queued : (pdu : Pdu) (t : Central) (b : Bool) → t.closed ≡ b → Waits x t → Waits x (if b then t else record t { queue = record { items = t.queue.items ++ pdu ∷ [] } })
  unfolding Waits
  queued pdu t true e w = w
  queued pdu t false e w = w

  rejected : (pdu : Pdu) (t : Central) (b : Bool) → t.closed ≡ b → Waits x t
      → Waits x (if b then t else record t { rejections = record { items = t.rejections.items ++ pdu ∷ [] } })
  unfolding Waits
  rejected pdu t true e w = w
  rejected pdu t false e (inl (more, is)) = inl (more ++ pdu ∷ [], ap (λ (xs : List Pdu). xs ++ pdu ∷ []) is)
  rejected pdu t false e (inr (closed, is)) = absurd (cc)

  collision_by : (p q : Exclusive) (t : Central) (b : Bool) → peer_answered t.own ≡ b → Waits x t → Waits x (CentralTable.collision p q t).0
  collision_by p q t true e w = rw e w
  collision_by p q t false e w = rw e (rejected (rejection_of q (reason_of p q)) t t.closed refl w)

  collision : (p q : Exclusive) (t : Central) → Waits x t → Waits x (CentralTable.collision p q t).0
  collision p q t w = collision_by p q t (peer_answered t.own) refl w

  accepted : (judged : Bool) (t : Central) → Waits x t → Waits x (CentralTable.request_accepted judged t)
  unfolding Waits
  accepted true t w = rejected (RejectParam Other) (record t { peer = Absent }) t.closed refl w
  accepted false t w = w

  request : (k : Option Exclusive) (judged : Bool) (t : Central) → Waits x t → Waits x (CentralTable.request_taken k judged t).0
  request (Some p) judged t w = collision p Request t w
  request None judged t w = accepted judged t w

  phy : (k : Option Exclusive) (t : Central) → Waits x t → Waits x (CentralTable.phy_taken k t).0
  unfolding Waits
  phy (Some p) t w = collision p Phy t w
  phy None t w = queued PhyInd (record t { peer = PhyIndUnsent }) t.closed refl w

  response_by : (t : Central) (b : Bool) → awaits_phy_rsp t.own ≡ b → Waits x t → Waits x (CentralTable.response_taken t)
  unfolding Waits
  response_by t true e w = rw e (queued PhyInd (record t { own = PhyAnswered }) t.closed refl w)
  response_by t false e w = rw e w

  response : (t : Central) → Waits x t → Waits x (CentralTable.response_taken t)
  response t w = response_by t (awaits_phy_rsp t.own) refl w

  refusal : (t : Central) → Waits x t → Waits x (record t { own = CentralTable.own_after_refusal t.own })
  unfolding Waits
  refusal t w = w

  taken : (judged : Bool) (pdu : Pdu) (t : Central) → Waits x t → Waits x (CentralTable.taken judged pdu t).0
  taken judged ParamReq t w = request (central_kind t.own) judged t w
  taken judged PhyReq t w = phy (central_kind t.own) t w
  taken judged PhyRsp t w = response t w
  taken judged Refusal t w = refusal t w
  taken judged pdu t w = w

  on_kept : (judged : Bool) (k : Option Pdu) (s : Link) → Waits x s.central → Waits x (central_takes_kept judged k s).central
  on_kept judged None s w = w
  on_kept judged (Some pdu) s w = taken judged pdu s.central w

  entered : (at : Bool) (t : Central) → Waits x t → Waits x (CentralTable.entered at t)
  unfolding Waits
  entered true t w = w
  entered false t w = w

  acked : (pdu : Pdu) (t : Central) → Waits x t → Waits x (CentralTable.acked pdu t)
  unfolding Waits
  acked pdu t w = w

  terminated : (t : Central) → Waits x t → Waits x (CentralTable.terminated t)
  unfolding Waits
  terminated t (inl (more, is)) = inl (more, is)
  terminated t (inr (closed, is)) = inr (refl, is)

  on_ack : (way : Way) (s : Link) → Waits x s.central → Waits x (central_acked way s).central
  on_ack (Taken pdu) s w = acked pdu s.central w
  on_ack Clear s w = w
  on_ack (Fixed pdu) s w = w
  on_ack (OnAir pdu) s w = w

  on_take : (judged : Bool) (way : Way) (s : Link) → Waits x s.central → Waits x (central_takes judged way s).central
  on_take judged (OnAir pdu) s w = taken judged pdu s.central w
  on_take judged Clear s w = w
  on_take judged (Fixed pdu) s w = w
  on_take judged (Taken pdu) s w = w

  on_keep : (way : Way) (s : Link) → Waits x s.central → Waits x (central_keeps way s).central
  unfolding Waits
  on_keep (OnAir pdu) s w = w
  on_keep Clear s w = w
  on_keep (Fixed pdu) s w = w
  on_keep (Taken pdu) s w = w

  on_fix : (first : Option Pdu) (s : Link) → Waits x s.central → Waits x (peripheral_fixes first s).central
  on_fix None s w = w
  on_fix (Some pdu) s w = w

  on_send : (way : Way) (s : Link) → Waits x s.central → Waits x (peripheral_sends way s).central
  on_send (Fixed pdu) s w = w
  on_send Clear s w = w
  on_send (OnAir pdu) s w = w
  on_send (Taken pdu) s w = w

  on_peer_ack : (way : Way) (s : Link) → Waits x s.central → Waits x (peripheral_acked way s).central
  on_peer_ack (Taken pdu) s w = w
  on_peer_ack Clear s w = w
  on_peer_ack (Fixed pdu) s w = w
  on_peer_ack (OnAir pdu) s w = w

  on_peer_take : (way : Way) (s : Link) → Waits x s.central → Waits x (peripheral_takes way s).central
  on_peer_take (OnAir pdu) s w = w
  on_peer_take Clear s w = w
  on_peer_take (Fixed pdu) s w = w
  on_peer_take (Taken pdu) s w = w

  -- only sending takes the rejection away
  after_act : (event : Event) (s : Link) → is_sending event ≡ false → Waits x s.central → Waits x (act event s).central
  unfolding Waits
  after_act (CentralEnters at) s silent w = entered at s.central w
  after_act (CentralBegins kind) s silent w = queued (first_pdu_of kind) (record s.central { own = stage_begun_at_central kind }) s.central.closed refl w
  after_act HostGrants s silent w = queued GrantInd (record s.central { peer = GrantUnsent }) s.central.closed refl w
  after_act (HostRefuses reason) s silent w = rejected (RejectParam reason) (record s.central { peer = Absent }) s.central.closed refl w
  after_act CentralCloses s silent w = terminated s.central w
  after_act (CentralSends next) s silent w = absurd (cc)
  after_act CentralAcked s silent w = on_ack s.down s w
  after_act (CentralTakes judged) s silent w = on_take judged s.up s w
  after_act CentralKeeps s silent w = on_keep s.up s w
  after_act (CentralTakesKept judged) s silent w = on_kept judged s.kept s w
  after_act (PeripheralEnters at) s silent w = w
  after_act (PeripheralBegins kind) s silent w = w
  after_act PeripheralCloses s silent w = w
  after_act PeripheralFixes s silent w = on_fix (PeripheralTable.next_pdu s.peripheral) s w
  after_act PeripheralSends s silent w = on_send s.up s w
  after_act PeripheralAcked s silent w = on_peer_ack s.up s w
  after_act PeripheralTakes s silent w = on_peer_take s.down s w

  after_step : (event : Event) (s : Link) (b : Bool) → is_sending event ≡ false → Waits x s.central → Waits x (if b then act event s else s).central
  after_step event s true silent w = after_act event s silent w
  after_step event s false silent w = w

  not_is : (b : Bool) → not b ≡ true → b ≡ false
  not_is true h = absurd (cc)
  not_is false h = refl

  pub after_silence : (events : List Event) (s : Link) → is_silent events ≡ true → Waits x s.central → Waits x (run_from collisions s events).central
  after_silence [] s silent w = w
  after_silence (event ∷ events) s silent w =
      let both = and_parts (not (is_sending event)) (is_silent events) silent in
      after_silence events (step collisions event s) both.1 (after_step event s (may event s) (not_is (is_sending event) both.0) w)
