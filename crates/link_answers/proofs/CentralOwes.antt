-- What each step of the table of a central leaves of the indications that it owes.
use Rattle.std.proofs.Common.{◌≡◌, ◌+◌, ◌≤◌, ◌&&◌, not, Bool, true, false, List, [], ◌∷◌, ◌++◌, drop, Option, Some, None, if◌then◌else◌, refl, sym, subst, arith}
use Rattle.std.specs.Prelude.{unwrap_or}
use Rattle.std.proofs.lemmas.Bool.{and_parts}
use Rattle.collision_steps.specs.CentralPart.{after_steps, step_of_given}
use Rattle.collisions.specs.CentralTable
use Rattle.collisions.specs.declared.central.Central.{Central}
use Rattle.collisions.specs.declared.joint.End.{End}
use Rattle.collisions.specs.declared.joint.End.TheVariants.{Collided, Open}
use Rattle.data_pdu.specs.declared.ctrl.Ctrl.{Ctrl}
use Rattle.data_pdu.specs.declared.ctrl.Ctrl.TheVariants.{TerminateInd}
use Rattle.exclusive_stages.specs.Acked.{own_acked_at_central, peer_acked_at_central}
use Rattle.exclusive_stages.specs.Awaited.{awaits_phy_rsp, peer_answered}
use Rattle.exclusive_stages.specs.Begun.{begins_at_central, stage_begun_at_central}
use Rattle.exclusive_stages.specs.Held.{own_held_at_central, peer_held_at_central}
use Rattle.exclusive_stages.specs.Kinds.{central_kind, is_host_asked_at_central, is_idle_at_central}
use Rattle.exclusive_stages.specs.Pdus.{first_pdu_of, reason_of, rejection_of}
use Rattle.exclusive_stages.specs.Sent.{own_sent_by_central, peer_sent_by_central}
use Rattle.exclusive_stages.specs.declared.pdus.Exclusive.{Exclusive}
use Rattle.exclusive_stages.specs.declared.pdus.Exclusive.TheVariants.{Map, Phy, Request, Update}
use Rattle.exclusive_stages.specs.declared.pdus.Pdu.{Pdu}
use Rattle.exclusive_stages.specs.declared.pdus.Pdu.TheVariants.{GrantInd, MapInd, ParamReq, PhyInd, PhyReq, PhyRsp, Refusal, UpdateInd}
use Rattle.exclusive_stages.specs.declared.pdus.Reason.{Reason}
use Rattle.exclusive_stages.specs.declared.pdus.Reason.TheVariants.{Other}
use Rattle.exclusive_stages.specs.declared.stages.CentralStage.{CentralStage}
use Rattle.exclusive_stages.specs.declared.stages.CentralStage.TheVariants.{Idle, MapSent, MapUnsent, PhyAnswered, PhyIndicated, PhySent, PhyUnsent, UpdateSent, UpdateUnsent}
use Rattle.exclusive_stages.specs.declared.stages.PeerAtCentral.{PeerAtCentral}
use Rattle.exclusive_stages.specs.declared.stages.PeerAtCentral.TheVariants.{Absent, GrantSent, GrantUnsent, HostAsked, PhyIndSent, PhyIndUnsent}
use Rattle.link_answers.specs.Owing.{Owes, is_answering, is_indication_of, number, one_if, owing}

-- ---- numbers of PDUs

pub number_more : (test : Pdu → Bool) (pdus : List Pdu) (pdu : Pdu) → number test (pdus ++ pdu ∷ []) ≡ number test pdus + one_if (test pdu)
number_more test [] pdu = omega arith
number_more test (first ∷ pdus) pdu = let rest = number_more test pdus pdu in omega (arith, rest)

fewer : (test : Pdu → Bool) (pdus : List Pdu) → number test (drop 1 pdus) ≤ number test pdus
fewer test [] = omega arith
fewer test (pdu ∷ pdus) = omega arith

-- ---- stages that owe nothing

is_unsent : CentralStage → Bool
is_unsent UpdateUnsent = true
is_unsent MapUnsent = true
is_unsent PhyAnswered = true
is_unsent own = false

owes_none : (kind : Exclusive) (own : CentralStage) → is_unsent own ≡ false → owing kind own ≡ 0
unfolding is_unsent
owes_none Update UpdateUnsent is = absurd cc
owes_none Update MapUnsent is = refl
owes_none Update PhyAnswered is = refl
owes_none Update own is = refl
owes_none Map UpdateUnsent is = refl
owes_none Map MapUnsent is = absurd cc
owes_none Map PhyAnswered is = refl
owes_none Map own is = refl
owes_none Phy UpdateUnsent is = refl
owes_none Phy MapUnsent is = refl
owes_none Phy PhyAnswered is = absurd cc
owes_none Phy own is = refl
owes_none kind UpdateUnsent is = refl
owes_none kind own is = refl

pub answers_absent : (kind : Exclusive) → is_answering kind Absent ≡ false
answers_absent Update = refl
answers_absent Phy = refl
answers_absent kind = refl

module _ (kind : Exclusive) where
  -- ---- one PDU more waits

  queued_owes : (pdu : Pdu) (t : Central) → number (is_indication_of kind) t.queue.items + one_if (is_indication_of kind pdu) ≤ owing kind t.own
      → is_answering kind t.peer ≡ false → Owes kind (CentralTable.queued pdu t)
  queued_owes pdu t fits none = by t.closed
    where
      by : (closed : Bool) → Owes kind (if closed then t else record t { queue = record { items = t.queue.items ++ pdu ∷ [] } })
      by true = record { few = omega (arith, fits); none = none }
      by false = let more = number_more (is_indication_of kind) t.queue.items pdu in record { few = omega (arith, more, fits); none = none }

  rejected_owes : (pdu : Pdu) (t : Central) → Owes kind t → Owes kind (CentralTable.rejected pdu t)
  rejected_owes pdu t owes = by t.closed
    where
      by : (closed : Bool) → Owes kind (if closed then t else record t { rejections = record { items = t.rejections.items ++ pdu ∷ [] } })
      by true = owes
      by false = record { few = owes.few; none = owes.none }

  -- ---- a procedure begins

  idle_owes : (own : CentralStage) → is_idle_at_central own ≡ true → owing kind own ≡ 0
  unfolding is_unsent
  idle_owes Idle is = owes_none kind Idle refl
  idle_owes own is = absurd cc

begun_fits : (kind other : Exclusive) → one_if (is_indication_of kind (first_pdu_of other)) ≤ owing kind (stage_begun_at_central other)
begun_fits Update Update = omega arith
begun_fits Update Map = omega arith
begun_fits Update other = omega arith
begun_fits Map Update = omega arith
begun_fits Map Map = omega arith
begun_fits Map other = omega arith
begun_fits Phy Update = omega arith
begun_fits Phy Map = omega arith
begun_fits Phy other = omega arith
begun_fits kind Update = omega arith
begun_fits kind Map = omega arith
begun_fits kind other = omega arith

pub begun_owes : (kind other : Exclusive) (t : Central) → CentralTable.may_begin other t ≡ true → Owes kind t → Owes kind (CentralTable.begun other t)
begun_owes kind other t may owes =
    let one = and_parts (begins_at_central other) (is_idle_at_central t.own && (CentralTable.has_no_peer t.peer && not t.closed)) may in
    let two = and_parts (is_idle_at_central t.own) (CentralTable.has_no_peer t.peer && not t.closed) one.1 in
    let nothing = idle_owes kind t.own two.0 in
    let few = owes.few in
    let fits = begun_fits kind other in
    queued_owes kind (first_pdu_of other) (record t { own = stage_begun_at_central other }) (omega (arith, nothing, few, fits)) owes.none

-- ---- a PDU of the peripheral is taken

-- one that opens nothing that such an indication answers, and refuses no PHY update
abbrev pub is_harmless : Exclusive → Pdu → Bool
is_harmless Update ParamReq = false
is_harmless Phy PhyReq = false
is_harmless Phy Refusal = false
is_harmless kind pdu = true

asked_harmless : (kind : Exclusive) → is_harmless kind ParamReq ≡ true → is_answering kind HostAsked ≡ false
asked_harmless Update is = absurd cc
asked_harmless Phy is = refl
asked_harmless kind is = refl

record IsApart (kind : Exclusive) (pdu : Pdu) (peer : PeerAtCentral) : Type 0 where
  other : one_if (is_indication_of kind pdu) ≡ 0
  none : is_answering kind peer ≡ false

phy_harmless : (kind : Exclusive) → is_harmless kind PhyReq ≡ true → IsApart kind PhyInd PhyIndUnsent
phy_harmless Update is = record { other = refl; none = refl }
phy_harmless Phy is = absurd cc
phy_harmless kind is = record { other = refl; none = refl }

awaiting_owes : (kind : Exclusive) (own : CentralStage) → awaits_phy_rsp own ≡ true → owing kind own ≡ 0
unfolding is_unsent
awaiting_owes kind PhySent is = owes_none kind PhySent refl
awaiting_owes kind own is = absurd cc

answered_fits : (kind : Exclusive) → one_if (is_indication_of kind PhyInd) ≤ owing kind PhyAnswered
answered_fits Update = omega arith
answered_fits Phy = omega arith
answered_fits kind = omega arith

refused_fits : (kind : Exclusive) (own : CentralStage) → is_harmless kind Refusal ≡ true → owing kind own ≤ owing kind (CentralTable.own_after_refusal own)
refused_fits Update UpdateUnsent is = omega arith
refused_fits Update own is = omega arith
refused_fits Phy UpdateUnsent is = absurd cc
refused_fits Phy own is = absurd cc
refused_fits Map UpdateUnsent is = omega arith
refused_fits Map own is = omega arith
refused_fits kind UpdateUnsent is = omega arith
refused_fits kind own is = omega arith

module _ (kind : Exclusive) where
  collided_owes : (p q : Exclusive) (t : Central) → Owes kind t → Owes kind (CentralTable.collision p q t).0
  collided_owes p q t owes = by (peer_answered t.own)
    where
      by : (answered : Bool)
          → Owes kind (if◌then◌else◌ {A = Central × End} answered (t, Collided (reason_of p q)) (CentralTable.rejected (rejection_of q (reason_of p q)) t, Open)).0
      by true = owes
      by false = rejected_owes kind (rejection_of q (reason_of p q)) t owes

  request_owes : (p : Option Exclusive) (judged : Bool) (t : Central) → is_harmless kind ParamReq ≡ true → Owes kind t
      → Owes kind (CentralTable.request_taken p judged t).0
  request_owes (Some p) judged t is owes = collided_owes p Request t owes
  request_owes None true t is owes =
      rejected_owes kind (rejection_of Request Other) (record t { peer = Absent }) (record { few = owes.few; none = answers_absent kind })
  request_owes None false t is owes = record { few = owes.few; none = asked_harmless kind is }

  phy_owes : (p : Option Exclusive) (t : Central) → is_harmless kind PhyReq ≡ true → Owes kind t → Owes kind (CentralTable.phy_taken p t).0
  phy_owes (Some p) t is owes = collided_owes p Phy t owes
  phy_owes None t is owes =
      let apart = phy_harmless kind is in
      let few = owes.few in
      let other = apart.other in
      queued_owes kind PhyInd (record t { peer = PhyIndUnsent }) (omega (arith, few, other)) apart.none

  response_owes : (t : Central) → Owes kind t → Owes kind (CentralTable.response_taken t)
  response_owes t owes = by (awaits_phy_rsp t.own) refl
    where
      by : (awaits : Bool) → awaits_phy_rsp t.own ≡ awaits
          → Owes kind (if awaits then CentralTable.queued PhyInd (record t { own = PhyAnswered }) else t)
      by true is =
          let nothing = awaiting_owes kind t.own is in
          let few = owes.few in
          let fits = answered_fits kind in
          queued_owes kind PhyInd (record t { own = PhyAnswered }) (omega (arith, nothing, few, fits)) owes.none
      by false is = owes

  pub taken_owes : (judged : Bool) (pdu : Pdu) (t : Central) → is_harmless kind pdu ≡ true → Owes kind t → Owes kind (CentralTable.taken judged pdu t).0
  taken_owes judged ParamReq t is owes = request_owes (central_kind t.own) judged t is owes
  taken_owes judged PhyReq t is owes = phy_owes (central_kind t.own) t is owes
  taken_owes judged PhyRsp t is owes = response_owes t owes
  taken_owes judged Refusal t is owes =
      let few = owes.few in
      let fits = refused_fits kind t.own is in
      record { few = omega (arith, few, fits); none = owes.none }
  taken_owes judged pdu t is owes = owes

-- a refusal where nothing is owed
pub refusal_owes : (kind : Exclusive) (t : Central) → owing kind t.own ≡ 0 → Owes kind t → Owes kind (CentralTable.taken false Refusal t).0
refusal_owes kind t nothing owes = let few = owes.few in record { few = omega (arith, few, nothing); none = owes.none }

-- ---- the host answers a request

granted_apart : (kind : Exclusive) (peer : PeerAtCentral) → is_host_asked_at_central peer ≡ true → is_answering kind peer ≡ false
    → IsApart kind GrantInd GrantUnsent
granted_apart Update HostAsked asked none = absurd cc
granted_apart Phy HostAsked asked none = record { other = refl; none = refl }
granted_apart kind HostAsked asked none = record { other = refl; none = refl }
granted_apart kind peer asked none = absurd cc

pub granted_owes : (kind : Exclusive) (t : Central) → is_host_asked_at_central t.peer ≡ true → Owes kind t → Owes kind (CentralTable.granted t)
granted_owes kind t asked owes =
    let apart = granted_apart kind t.peer asked owes.none in
    let few = owes.few in
    let other = apart.other in
    queued_owes kind GrantInd (record t { peer = GrantUnsent }) (omega (arith, few, other)) apart.none

pub refused_owes : (kind : Exclusive) (reason : Reason) (t : Central) → Owes kind t → Owes kind (CentralTable.refused reason t)
refused_owes kind reason t owes =
    rejected_owes kind (rejection_of Request reason) (record t { peer = Absent }) (record { few = owes.few; none = answers_absent kind })

-- ---- a PDU is sent, or acknowledged; an event is entered

sent_fits : (kind : Exclusive) (pdu : Pdu) (own : CentralStage)
    → owing kind own ≤ owing kind (unwrap_or (own_sent_by_central pdu own) own) + one_if (is_indication_of kind pdu)
unfolding is_unsent
sent_fits Update UpdateInd UpdateUnsent = omega arith
sent_fits Map UpdateInd UpdateUnsent = omega arith
sent_fits Phy UpdateInd UpdateUnsent = omega arith
sent_fits kind UpdateInd UpdateUnsent = omega arith
sent_fits Update MapInd MapUnsent = omega arith
sent_fits Map MapInd MapUnsent = omega arith
sent_fits Phy MapInd MapUnsent = omega arith
sent_fits kind MapInd MapUnsent = omega arith
sent_fits kind PhyReq PhyUnsent = let nothing = owes_none kind PhyUnsent refl in omega (arith, nothing)
sent_fits Update PhyInd PhyAnswered = omega arith
sent_fits Map PhyInd PhyAnswered = omega arith
sent_fits Phy PhyInd PhyAnswered = omega arith
sent_fits kind PhyInd PhyAnswered = omega arith
sent_fits kind pdu own = omega arith

sent_answers : (kind : Exclusive) (pdu : Pdu) (peer : PeerAtCentral) → is_answering kind peer ≡ false → is_answering kind (peer_sent_by_central pdu peer) ≡ false
sent_answers Update GrantInd GrantUnsent none = absurd cc
sent_answers Phy GrantInd GrantUnsent none = refl
sent_answers kind GrantInd GrantUnsent none = refl
sent_answers Update PhyInd PhyIndUnsent none = refl
sent_answers Phy PhyInd PhyIndUnsent none = absurd cc
sent_answers kind PhyInd PhyIndUnsent none = refl
sent_answers kind pdu peer none = none

module _ (kind : Exclusive) (pdu : Pdu) (t : Central) where
  -- the first of its queue, where no rejection waits
  pub sent_owes : (more : List Pdu) → t.rejections.items ≡ [] → t.queue.items ≡ pdu ∷ more → Owes kind t → Owes kind (CentralTable.sent pdu t)
  sent_owes more none first owes =
      subst (λ xs. Owes kind (CentralTable.sent pdu (record t { rejections = record { items = xs } }))) (sym none)
      (subst (λ xs. Owes kind (CentralTable.sent pdu (record t { rejections = record { items = [] }; queue = record { items = xs } }))) (sym first)
      (let few = subst (λ xs. number (is_indication_of kind) xs ≤ owing kind t.own) first owes.few in
      let fits = sent_fits kind pdu t.own in
      record { few = omega (arith, few, fits); none = sent_answers kind pdu t.peer owes.none }))

  -- a rejection
  pub sent_other_owes : is_indication_of kind pdu ≡ false → Owes kind t → Owes kind (CentralTable.sent pdu t)
  sent_other_owes other owes = by t.rejections.items
    where
      few : (items : List Pdu) → number (is_indication_of kind) items ≤ number (is_indication_of kind) t.queue.items
          → number (is_indication_of kind) items ≤ owing kind (unwrap_or (own_sent_by_central pdu t.own) t.own)
      few items less =
          let now = owes.few in
          let fits = subst (λ (b : Bool). owing kind t.own ≤ owing kind (unwrap_or (own_sent_by_central pdu t.own) t.own) + one_if b) other (sent_fits kind pdu t.own) in
          omega (arith, less, now, fits)

      by : (rejections : List Pdu) → Owes kind (CentralTable.sent pdu (record t { rejections = record { items = rejections } }))
      by [] = record { few = few (drop 1 t.queue.items) (fewer (is_indication_of kind) t.queue.items); none = sent_answers kind pdu t.peer owes.none }
      by (rejection ∷ more) = record { few = few t.queue.items (omega arith); none = sent_answers kind pdu t.peer owes.none }

acked_fits : (kind : Exclusive) (pdu : Pdu) (own : CentralStage) → owing kind own ≤ owing kind (own_acked_at_central pdu own)
unfolding is_unsent
acked_fits kind PhyInd PhyIndicated = let nothing = owes_none kind PhyIndicated refl in omega (arith, nothing)
acked_fits kind pdu own = omega arith

acked_answers : (kind : Exclusive) (pdu : Pdu) (peer : PeerAtCentral) → is_answering kind peer ≡ false → is_answering kind (peer_acked_at_central pdu peer) ≡ false
acked_answers kind PhyInd PhyIndSent none = answers_absent kind
acked_answers kind pdu peer none = none

pub acked_owes : (kind : Exclusive) (pdu : Pdu) (t : Central) → Owes kind t → Owes kind (CentralTable.acked pdu t)
acked_owes kind pdu t owes =
    let few = owes.few in
    let fits = acked_fits kind pdu t.own in
    record { few = omega (arith, few, fits); none = acked_answers kind pdu t.peer owes.none }

held_fits : (kind : Exclusive) (own : CentralStage) → owing kind own ≤ owing kind (own_held_at_central own)
unfolding is_unsent
held_fits kind UpdateSent = let nothing = owes_none kind UpdateSent refl in omega (arith, nothing)
held_fits kind MapSent = let nothing = owes_none kind MapSent refl in omega (arith, nothing)
held_fits kind own = omega arith

held_answers : (kind : Exclusive) (peer : PeerAtCentral) → is_answering kind peer ≡ false → is_answering kind (peer_held_at_central peer) ≡ false
held_answers kind GrantSent none = answers_absent kind
held_answers kind peer none = none

pub entered_owes : (kind : Exclusive) (at : Bool) (t : Central) → Owes kind t → Owes kind (CentralTable.entered at t)
entered_owes kind true t owes =
    let few = owes.few in
    let fits = held_fits kind t.own in
    record { few = omega (arith, few, fits); none = held_answers kind t.peer owes.none }
entered_owes kind false t owes = owes

pub terminated_owes : (kind : Exclusive) (t : Central) → Owes kind t → Owes kind (CentralTable.terminated t)
terminated_owes kind t owes = record { few = owes.few; none = owes.none }

-- a PDU of an encryption waits
pub given_owes : (kind : Exclusive) (ctrl : Ctrl) (t : Central) → Owes kind t → Owes kind (after_steps (step_of_given ctrl) t)
given_owes kind (TerminateInd code) t owes = terminated_owes kind t owes
given_owes kind ctrl t owes = owes
