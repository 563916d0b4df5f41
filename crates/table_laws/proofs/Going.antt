-- A PDU is sent or acknowledged, or an event entered.
use Rattle.std.proofs.Common.{◌≡◌, ℕ, ◌+◌, ◌≤◌, Bool, true, false, not, ◌&&◌, None, unwrap_or, refl, arith, Option, Some}
use Rattle.data_pdu.specs.declared.ctrl.Ctrl.{Ctrl}
use Rattle.data_pdu.specs.declared.ctrl.Ctrl.TheVariants.{TerminateInd, EncReq, PauseEncReq}
use Rattle.procedures.specs.procedure_values.declared.drafts.Draft.{Draft}
use Rattle.procedures.specs.procedure_values.declared.drafts.Draft.TheVariants.{Update, Grant, Map, Request, PhyReq, PhyRsp, PhyInd, FeatureReq, PeripheralFeatureReq, FeatureRsp, VersionInd, LengthReq, LengthRsp, UnknownRsp, Cipher}
use Rattle.procedures.specs.procedure_values.declared.drafts.Outgoing.{Outgoing}
use Rattle.procedures.specs.procedure_values.declared.drafts.Outgoing.TheVariants.{Nothing, Rejection, Disconnect, Other}
use Rattle.procedures.specs.procedure_stages.declared.stages.Exchange.TheVariants.{FeaturesUnsent, FeaturesSent, VersionUnsent, VersionSent, LengthUnsent, LengthSent}
use Rattle.procedures.specs.procedure_stages.declared.stages.OwnCentral.{OwnCentral}
use Rattle.procedures.specs.procedure_stages.declared.stages.OwnCentral.TheVariants.{Exclusive as exclusive, Exchange as exchange, EncryptUnsent, EncryptSent}
use Rattle.exclusive_stages.specs.declared.stages.CentralStage.TheVariants.{UpdateSent, MapSent, PhyAnswered, PhyIndicated}
use Rattle.procedures.specs.procedure_stages.declared.stages.OwnPeripheral.{OwnPeripheral}
use Rattle.procedures.specs.procedure_stages.declared.stages.OwnPeripheral.TheVariants.{Exclusive as exclusive_p, Exchange as exchange_p}
use Rattle.exclusive_stages.specs.declared.stages.PeripheralStage.TheVariants.{RequestSent, RequestGranted}
use Rattle.exclusive_stages.specs.declared.stages.PeerAtCentral.{PeerAtCentral}
use Rattle.exclusive_stages.specs.declared.stages.PeerAtCentral.TheVariants.{Absent, GrantUnsent, GrantSent, PhyIndUnsent, PhyIndSent}
use Rattle.exclusive_stages.specs.declared.stages.PeerAtPeripheral.TheVariants.{Absent as absent}
use Rattle.procedures.specs.procedure_stages.declared.stages.Ahead.TheVariants.{Nothing as nothing_ahead}
use Rattle.procedures.specs.procedure_stages.declared.stages.Central.{Central}
use Rattle.procedures.specs.procedure_stages.declared.stages.Peripheral.{Peripheral}
use Rattle.procedures.specs.procedure_stages.declared.stages.Progress.{Progress}
use Rattle.procedures.specs.procedure_stages.declared.stages.Progress.TheVariants.{Central as central, Peripheral as peripheral}
use Rattle.procedures.specs.Table.{TableFacts}
use Rattle.procedures.specs.procedure_stages.Closing.{is_open}
use Rattle.exclusive_stages.specs.Kinds.{is_host_asked_at_central}
use Rattle.procedures.specs.Queue.{next_of}
use Rattle.procedures.specs.procedure_stages.Acked.{central_acked, peripheral_acked, progress_acked}
use Rattle.exclusive_stages.specs.Acked.{own_acked_at_central, own_acked_at_peripheral, peer_acked_at_central}
use Rattle.exclusive_stages.specs.declared.pdus.Pdu.{Pdu}
use Rattle.exclusive_stages.specs.declared.pdus.Pdu.TheVariants.{PhyInd as PhyIndPdu, ParamReq}
use Rattle.procedures.specs.Sending.{facts_sent}
use Rattle.procedures.specs.procedure_stages.Sent.{own_draft_sent_by_central, own_draft_sent_by_peripheral, peer_draft_sent_by_central, progress_after_sending}
use Rattle.procedures.specs.procedure_stages.Held.{progress_held}
use Rattle.exclusive_stages.specs.Held.{own_held_at_central, own_held_at_peripheral, peer_held_at_central}
use Rattle.table_laws.specs.Waiting.{asked, is_asked, is_encryption_request, is_own_request, is_terminate_ind, count_if}
use Rattle.table_laws.proofs.Numbers.{Counts, end_sent, next_goes, own_sent, same, sent, version_sent}
use Rattle.table_laws.proofs.Outcomes.{own_room, room_at_central, room_at_peripheral}
use Rattle.table_laws.proofs.Kept.{Kept, kept_by, one_room}
use Rattle.procedures.specs.procedure_stages.Exclusive.{on_central_stage, on_peripheral_stage, pdu_of_draft, pdu_of_outgoing}

-- ---- a PDU is sent

module _ (f : TableFacts) (event skips : ℕ) where
  -- the request of the own procedure leaves the queue as its stage goes on
  room_c : (draft : Draft) (own : OwnCentral) → room_at_central own ≤ room_at_central (unwrap_or (own_draft_sent_by_central draft own) own) + count_if (is_own_request draft)
  room_c (Update params) own = let h = one_room (central (record { own = own; peer = Absent; last_instant = None })) in omega (arith, h)
  room_c (Map map) own = let h = one_room (central (record { own = own; peer = Absent; last_instant = None })) in omega (arith, h)
  room_c (Request min max latency timeout) own = let h = one_room (central (record { own = own; peer = Absent; last_instant = None })) in omega (arith, h)
  room_c PhyReq own = let h = one_room (central (record { own = own; peer = Absent; last_instant = None })) in omega (arith, h)
  room_c FeatureReq own = let h = one_room (central (record { own = own; peer = Absent; last_instant = None })) in omega (arith, h)
  room_c PeripheralFeatureReq own = let h = one_room (central (record { own = own; peer = Absent; last_instant = None })) in omega (arith, h)
  room_c (LengthReq rx tx) own = let h = one_room (central (record { own = own; peer = Absent; last_instant = None })) in omega (arith, h)
  room_c PhyInd (exclusive PhyAnswered) = omega arith
  room_c PhyInd (exclusive other) = omega arith
  room_c PhyInd other = omega arith
  room_c (Cipher ctrl) EncryptUnsent = omega arith
  room_c (Cipher ctrl) EncryptSent = omega arith
  room_c (Cipher ctrl) other = omega arith
  room_c VersionInd (exchange VersionUnsent) = omega arith
  room_c VersionInd (exchange VersionSent) = omega arith
  room_c VersionInd (exchange FeaturesUnsent) = omega arith
  room_c VersionInd (exchange FeaturesSent) = omega arith
  room_c VersionInd (exchange LengthUnsent) = omega arith
  room_c VersionInd (exchange LengthSent) = omega arith
  room_c VersionInd other = omega arith
  room_c (Grant params) (exchange stage) = omega arith
  room_c (Grant params) other = omega arith
  room_c PhyRsp (exchange stage) = omega arith
  room_c PhyRsp other = omega arith
  room_c FeatureRsp (exchange stage) = omega arith
  room_c FeatureRsp other = omega arith
  room_c (LengthRsp rx tx) (exchange stage) = omega arith
  room_c (LengthRsp rx tx) other = omega arith
  room_c (UnknownRsp opcode) (exchange stage) = omega arith
  room_c (UnknownRsp opcode) other = omega arith

  room_p : (draft : Draft) (own : OwnPeripheral) → room_at_peripheral own ≤ room_at_peripheral (unwrap_or (own_draft_sent_by_peripheral draft own) own) + count_if (is_own_request draft)
  room_p draft own = by (is_own_request draft) refl
    where
      most : room_at_peripheral own ≤ 1
      most = one_room (peripheral (record { own = own; peer = absent; ahead = nothing_ahead; encrypting = false }))

      other_draft : (draft : Draft) (own : OwnPeripheral) → is_own_request draft ≡ false → room_at_peripheral own ≤ room_at_peripheral (unwrap_or (own_draft_sent_by_peripheral draft own) own)
      other_draft (Update params) own h = absurd (cc)
      other_draft (Map map) own h = absurd (cc)
      other_draft (Request min max latency timeout) own h = absurd (cc)
      other_draft PhyReq own h = absurd (cc)
      other_draft FeatureReq own h = absurd (cc)
      other_draft PeripheralFeatureReq own h = absurd (cc)
      other_draft (LengthReq rx tx) own h = absurd (cc)
      other_draft VersionInd (exchange_p VersionUnsent) h = omega arith
      other_draft VersionInd (exchange_p VersionSent) h = omega arith
      other_draft VersionInd (exchange_p FeaturesUnsent) h = omega arith
      other_draft VersionInd (exchange_p FeaturesSent) h = omega arith
      other_draft VersionInd (exchange_p LengthUnsent) h = omega arith
      other_draft VersionInd (exchange_p LengthSent) h = omega arith
      other_draft VersionInd other h = omega arith
      other_draft (Cipher ctrl) (exchange_p stage) h = omega arith
      other_draft (Cipher ctrl) other h = omega arith
      other_draft (Grant params) (exchange_p stage) h = omega arith
      other_draft (Grant params) other h = omega arith
      other_draft PhyRsp (exchange_p stage) h = omega arith
      other_draft PhyRsp other h = omega arith
      other_draft PhyInd (exchange_p stage) h = omega arith
      other_draft PhyInd other h = omega arith
      other_draft FeatureRsp (exchange_p stage) h = omega arith
      other_draft FeatureRsp other h = omega arith
      other_draft (LengthRsp rx tx) (exchange_p stage) h = omega arith
      other_draft (LengthRsp rx tx) other h = omega arith
      other_draft (UnknownRsp opcode) (exchange_p stage) h = omega arith
      other_draft (UnknownRsp opcode) other h = omega arith

      by : (b : Bool) → is_own_request draft ≡ b → room_at_peripheral own ≤ room_at_peripheral (unwrap_or (own_draft_sent_by_peripheral draft own) own) + count_if (is_own_request draft)
      by true is = let one : count_if (is_own_request draft) ≡ 1 = rw is refl in omega (arith, most, one)
      by false is = let h = other_draft draft own is in omega (arith, h)

  room_sent : (outgoing : Outgoing) (p : Progress) → own_room p ≤ own_room (progress_after_sending outgoing event skips p) + own_sent outgoing
  room_sent (Other draft) (central c) = room_c draft c.own
  room_sent (Other draft) (peripheral p) = room_p draft p.own
  room_sent Nothing p = omega arith
  room_sent (Rejection rejection) p = omega arith
  room_sent (Disconnect code) p = omega arith

  asked_sent : (outgoing : Outgoing) (p : Progress) (key : Bool) → is_asked (progress_after_sending outgoing event skips p) key ≡ is_asked p key
  asked_sent (Other draft) (central c) key = by draft c.peer
    where
      by : (draft : Draft) (peer : PeerAtCentral) → is_host_asked_at_central (peer_draft_sent_by_central (pdu_of_draft draft) peer) ≡ is_host_asked_at_central peer
      by (Grant params) GrantUnsent = refl
      by (Grant params) other = refl
      by PhyInd PhyIndUnsent = refl
      by PhyInd other = refl
      by other peer = refl
  asked_sent (Other draft) (peripheral p) key = refl
  asked_sent Nothing p key = refl
  asked_sent (Rejection rejection) p key = refl
  asked_sent (Disconnect code) p key = refl

  -- a PDU is of one sort at most
  one_sort : (outgoing : Outgoing) → own_sent outgoing + version_sent outgoing + end_sent outgoing ≤ sent outgoing
  one_sort Nothing = omega arith
  one_sort (Rejection rejection) = omega arith
  one_sort (Disconnect code) = omega arith
  one_sort (Other (Cipher ctrl)) = by ctrl
    where
      by : (ctrl : Ctrl) → count_if (is_encryption_request ctrl) + 0 + count_if (is_terminate_ind ctrl) ≤ 1
      by (EncReq rand ediv skd_m iv_m) = omega arith
      by PauseEncReq = omega arith
      by (TerminateInd code) = omega arith
      by other = omega arith
  one_sort (Other other) = omega arith

  pub sends_one : (slot : ℕ) (quiet key : Bool) → Kept f key → Kept (facts_sent f (next_of f event quiet) event skips slot) key
  sends_one slot quiet key kept =
      let out = next_of f event quiet in
      let goes = next_goes f event quiet in
      let n1 = goes.waiting in
      let n2 = goes.own in
      let n3 = goes.version in
      let n4 = goes.end in
      let sort = one_sort (next_of f event quiet) in
      let room = room_sent (next_of f event quiet) f.progress in
      let k1 = kept.bound in
      let k2 = kept.own in
      let k3 = kept.version in
      let k4 = kept.end in
      let still_asked : asked (facts_sent f (next_of f event quiet) event skips slot) key ≡ asked f key = rw (asked_sent (next_of f event quiet) f.progress key) refl in
      record {
        bound = omega (arith, n1, n2, n3, n4, sort, k1, still_asked);
        own = omega (arith, n2, room, k2);
        version = omega (arith, n3, k3);
        end = omega (arith, n4, k4);
      }

-- ---- a PDU is acknowledged, or an event entered: the procedures alone go on

pub moves : (f g : TableFacts) (key : Bool) → Kept f key → g.queue ≡ f.queue → g.version_used ≡ f.version_used → g.closing ≡ f.closing
    → own_room f.progress ≤ own_room g.progress → count_if (is_asked g.progress key) ≤ count_if (is_asked f.progress key) → Kept g key
moves f g key kept queue used closing room less = by (is_open f.closing) refl
  where
    counts : Counts f.queue g.queue 0 0 0 0
    counts = rw queue (same f.queue)

    by : (b : Bool) → is_open f.closing ≡ b → Kept g key
    by b is =
        let k2 = kept.own in
        let k3 = kept.version in
        let k4 = kept.end in
        let n1 : count_if g.version_used ≡ count_if f.version_used = rw used refl in
        let n2 : count_if (not (is_open g.closing)) ≡ count_if (not (is_open f.closing)) = rw closing refl in
        let n3 : asked g key ≤ asked f key = rw (closing, is) (asked_by b) in
        kept_by f g key key 0 0 0 0 kept counts (omega (arith, n3)) (omega (arith, k2, room)) (omega (arith, k3, n1)) (omega (arith, k4, n2))
      where
        asked_by : (b : Bool) → count_if (b && is_asked g.progress key) ≤ count_if (b && is_asked f.progress key)
        asked_by true = less
        asked_by false = omega arith

acked_room : (pdu : Option Pdu) (c : Central) → room_at_central c.own ≤ room_at_central (central_acked pdu c).own
acked_room None c = omega arith
acked_room (Some pdu) c = by pdu c.own
  where
    by : (pdu : Pdu) (own : OwnCentral) → room_at_central own ≤ room_at_central (on_central_stage (own_acked_at_central pdu) own)
    by PhyIndPdu (exclusive PhyIndicated) = omega arith
    by PhyIndPdu (exclusive other) = omega arith
    by pdu (exclusive other) = omega arith
    by pdu (exchange stage) = omega arith
    by pdu EncryptUnsent = omega arith
    by pdu EncryptSent = omega arith

acked_asked : (pdu : Option Pdu) (c : Central) → count_if (is_host_asked_at_central (central_acked pdu c).peer) ≤ count_if (is_host_asked_at_central c.peer)
acked_asked None c = omega arith
acked_asked (Some pdu) c = by pdu c.peer
  where
    by : (pdu : Pdu) (peer : PeerAtCentral) → count_if (is_host_asked_at_central (peer_acked_at_central pdu peer)) ≤ count_if (is_host_asked_at_central peer)
    by PhyIndPdu PhyIndSent = omega arith
    by PhyIndPdu other = omega arith
    by pdu other = omega arith

acked_room_p : (pdu : Option Pdu) (p : Peripheral) → room_at_peripheral p.own ≤ room_at_peripheral (peripheral_acked pdu p).own
acked_room_p None p = omega arith
acked_room_p (Some pdu) p = by pdu p.own
  where
    by : (pdu : Pdu) (own : OwnPeripheral) → room_at_peripheral own ≤ room_at_peripheral (on_peripheral_stage (own_acked_at_peripheral pdu) own)
    by ParamReq (exclusive_p RequestSent) = omega arith
    by ParamReq (exclusive_p other) = omega arith
    by pdu (exclusive_p other) = omega arith
    by pdu (exchange_p stage) = omega arith

pub acked_less : (out : Outgoing) (p : Progress) → own_room p ≤ own_room (progress_acked out p)
acked_less out (central c) = acked_room (pdu_of_outgoing out) c
acked_less out (peripheral p) = acked_room_p (pdu_of_outgoing out) p

pub acked_asks : (out : Outgoing) (p : Progress) (key : Bool) → count_if (is_asked (progress_acked out p) key) ≤ count_if (is_asked p key)
acked_asks out (central c) key = acked_asked (pdu_of_outgoing out) c
acked_asks out (peripheral p) key = omega arith

pub held_less : (p : Progress) → own_room p ≤ own_room (progress_held p)
held_less (central c) = by c.own
  where
    by : (own : OwnCentral) → room_at_central own ≤ room_at_central (on_central_stage own_held_at_central own)
    by (exclusive UpdateSent) = omega arith
    by (exclusive MapSent) = omega arith
    by (exclusive other) = omega arith
    by other = omega arith
held_less (peripheral p) = by p.own
  where
    by : (own : OwnPeripheral) → room_at_peripheral own ≤ room_at_peripheral (on_peripheral_stage own_held_at_peripheral own)
    by (exclusive_p RequestGranted) = omega arith
    by (exclusive_p other) = omega arith
    by other = omega arith

pub held_asks : (p : Progress) (key : Bool) → count_if (is_asked (progress_held p) key) ≤ count_if (is_asked p key)
held_asks (central c) key = by c.peer
  where
    by : (peer : PeerAtCentral) → count_if (is_host_asked_at_central (peer_held_at_central peer)) ≤ count_if (is_host_asked_at_central peer)
    by GrantSent = omega arith
    by other = omega arith
held_asks (peripheral p) key = omega arith
