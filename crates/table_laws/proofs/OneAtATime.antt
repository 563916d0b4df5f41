-- Over all calls an end has one at a time of the procedures that exclude each other.
use Rattle.std.proofs.Common.{◌≡◌, ℕ, ◌+◌, ◌≤◌, Bool, true, false, not, ◌&&◌, ◌||◌, if◌then◌else◌, List, [], ◌∷◌, ◌++◌, remove, Option, Some, None, Result, Ok, Err, is_some, unwrap_or, refl, arith, sym, ◌∙◌}
use Rattle.ble_base.specs.declared.error_codes.ErrCode.{ErrCode}
use Rattle.ble_base.specs.declared.roles.Role.{Role}
use Rattle.ble_base.specs.declared.roles.Role.TheVariants.{Central as central_role, Peripheral as peripheral_role}
use Rattle.ble_base.specs.declared.procedure_kinds.Kind.{Kind}
use Rattle.data_pdu.specs.declared.ctrl.Ctrl.{Ctrl}
use Rattle.data_pdu.specs.declared.ctrl.CtrlRead.{CtrlRead}
use Rattle.data_pdu.specs.declared.ctrl.CtrlRead.TheVariants.{Known, Unknown, Bare}
use Rattle.procedures.specs.procedure_values.declared.asks.Ask.{Ask}
use Rattle.procedures.specs.procedure_values.declared.asks.Ask.TheVariants.{Update as ask_update, Request as ask_request, Map as ask_map, Phy as ask_phy, Features as ask_features, Version as ask_version, Length as ask_length, Encrypt as ask_encrypt}
use Rattle.procedures.specs.procedure_values.declared.drafts.Draft.{Draft}
use Rattle.procedures.specs.procedure_values.declared.drafts.Draft.TheVariants.{Update, Grant, Map, Request as request_draft, PhyReq, PhyRsp, PhyInd, FeatureReq, PeripheralFeatureReq, FeatureRsp, VersionInd, LengthReq, LengthRsp, UnknownRsp, Cipher}
use Rattle.procedures.specs.procedure_values.declared.drafts.Rejection.{Rejection as TheRejection}
use Rattle.procedures.specs.procedure_values.declared.drafts.Outgoing.{Outgoing}
use Rattle.procedures.specs.procedure_values.declared.drafts.Outgoing.TheVariants.{Nothing, Rejection, Disconnect, Other}
use Rattle.procedures.specs.declared.outcome.Outcome.{Outcome}
use Rattle.procedures.specs.procedure_stages.declared.reply.Reply.{Reply}
use Rattle.procedures.specs.procedure_stages.declared.reply.Reply.TheVariants.{Nothing as no_reply, Reject, Answer}
use Rattle.procedures.specs.procedure_stages.declared.stages.Exchange.TheVariants.{FeaturesUnsent, FeaturesSent, VersionUnsent, VersionSent, LengthUnsent, LengthSent}
use Rattle.procedures.specs.procedure_stages.declared.stages.OwnCentral.{OwnCentral}
use Rattle.procedures.specs.procedure_stages.declared.stages.OwnCentral.TheVariants.{Exclusive as exclusive, Exchange as exchange, EncryptUnsent, EncryptSent}
use Rattle.exclusive_stages.specs.declared.stages.CentralStage.TheVariants.{Idle, UpdateUnsent, UpdateSent, MapUnsent, MapSent, PhyUnsent, PhyAnswered, PhyIndicated}
use Rattle.exclusive_stages.specs.declared.stages.PeerAtCentral.{PeerAtCentral}
use Rattle.exclusive_stages.specs.declared.stages.PeerAtCentral.TheVariants.{Absent, HostAsked, GrantUnsent, GrantSent, PhyIndUnsent, PhyIndSent}
use Rattle.exclusive_stages.specs.declared.stages.PeerAtPeripheral.{PeerAtPeripheral}
use Rattle.exclusive_stages.specs.declared.stages.PeerAtPeripheral.TheVariants.{Absent as absent, UpdateTaken, MapTaken, PhyRspUnsent, PhyRspSent}
use Rattle.procedures.specs.procedure_stages.declared.stages.Central.{Central}
use Rattle.procedures.specs.procedure_stages.declared.stages.Peripheral.{Peripheral}
use Rattle.procedures.specs.procedure_stages.declared.stages.Progress.{Progress}
use Rattle.procedures.specs.procedure_stages.declared.stages.Progress.TheVariants.{Central as central, Peripheral as peripheral}
use Rattle.procedures.specs.procedure_stages.declared.steps.Step.{Step}
use Rattle.procedures.specs.procedure_stages.declared.closing.Closing.{Closing}
use Rattle.procedures.specs.procedure_stages.Kinds.{begins, kind_at_central, own_kind, role_of}
use Rattle.procedures.specs.procedure_values.Asks.{kind_of_ask}
use Rattle.procedures.specs.procedure_stages.Collisions.{is_exclusive, is_encrypt, peer_lets}
use Rattle.procedures.specs.procedure_stages.Opcodes.{connection_param_req_opcode}
use Rattle.procedures.specs.procedure_stages.Queue.{QueueFacts, is_past_instant, next_by, next_disconnect, next_draft, with_draft, with_reply, without_next}
use Rattle.procedures.specs.Table.{TableFacts, first_facts}
use Rattle.procedures.specs.procedure_stages.Closing.{is_disconnecting, is_open}
use Rattle.procedures.specs.procedure_stages.InProgress.{has_peer, is_encrypting, is_host_asked}
use Rattle.exclusive_stages.specs.Kinds.{has_peer_at_central, has_peer_at_peripheral, is_host_asked_at_central}
use Rattle.procedures.specs.procedure_values.Drafts.{waits_for_instant}
use Rattle.procedures.specs.Queue.{next_of}
use Rattle.exclusive_stages.specs.Awaited.{has_phy_of_central}
use Rattle.procedures.specs.procedure_stages.Acked.{central_acked, peripheral_acked, progress_acked}
use Rattle.exclusive_stages.specs.Acked.{own_acked_at_central, peer_acked_at_central}
use Rattle.exclusive_stages.specs.declared.pdus.Pdu.{Pdu}
use Rattle.exclusive_stages.specs.declared.pdus.Pdu.TheVariants.{PhyInd as PhyIndPdu}
use Rattle.procedures.specs.Encryption.{is_rejection}
use Rattle.procedures.specs.Taking.{facts_with, lacks_room, outcome_of, took_step}
use Rattle.procedures.specs.Beginning.{ask_at, begin_at, facts_begun, place_to_begin}
use Rattle.procedures.specs.Sending.{facts_sent}
use Rattle.procedures.specs.procedure_stages.Sent.{own_draft_sent_by_central, peer_draft_sent_by_central, peer_draft_sent_by_peripheral, progress_after_sending}
use Rattle.procedures.specs.Going.{host_answer_step}
use Rattle.procedures.specs.procedure_stages.Held.{progress_held}
use Rattle.exclusive_stages.specs.Held.{own_held_at_central, peer_held_at_central, peer_held_at_peripheral}
use Rattle.procedures.specs.Calls.{Call, asks, begins_one, takes, sends, is_acked, enters, host_answers, disconnects, is_given, after_call, after_calls}
use Rattle.table_laws.specs.Waiting.{number_of, count_if}
use Rattle.table_laws.specs.Pasts.{May, MayAll, key_after_call}
use Rattle.table_laws.specs.Exclusive.{AllKeepRules, KeepsRules, exclusive_waiting, is_indication_ahead, is_of_exclusive}
use Rattle.table_laws.proofs.Numbers.{number-push}
use Rattle.table_laws.proofs.Begun.{begins_of}
use Rattle.table_laws.proofs.Roles.{role_after}
use Rattle.table_laws.proofs.OneProcedure.{AloneHere, Fits, IsAlone, MayTake, TookOne, excludes, is_indication, of_reply, room_of_own, room_of_peer, took_one}
use Rattle.procedures.specs.procedure_stages.Exclusive.{on_central_stage, pdu_of_draft, pdu_of_outgoing}

pub record One (f : TableFacts) : Type 0 where
  pub alone : IsAlone f.progress
  pub fits : Fits f.progress (exclusive_waiting f)

fewer : (p : Progress) (a b : ℕ) → a ≤ b → Fits p b → Fits p a
fewer (central c) a b less h = let fit : b ≤ room_of_own c.own + room_of_peer c.peer = h in omega (arith, less, fit)
fewer (peripheral p) a b less h = _

drafts_more : (b : Bool) (queue : QueueFacts) (draft : Draft)
    → number_of is_of_exclusive (if b then record queue { drafts = queue.drafts ++ draft ∷ [] } else queue).drafts ≤ number_of is_of_exclusive queue.drafts + count_if (is_of_exclusive draft)
drafts_more true queue draft = let h = number-push is_of_exclusive queue.drafts draft in omega (arith, h)
drafts_more false queue draft = omega arith

rejections_more : (b : Bool) (queue : QueueFacts) (rejection : TheRejection)
    → number_of is_of_exclusive (if b then record queue { rejections = queue.rejections ++ rejection ∷ [] } else queue).drafts ≤ number_of is_of_exclusive queue.drafts
rejections_more true queue rejection = omega arith
rejections_more false queue rejection = omega arith

end_more : (b : Bool) (queue : QueueFacts) (code : ErrCode)
    → number_of is_of_exclusive (if b then record queue { disconnect = Some code } else queue).drafts ≤ number_of is_of_exclusive queue.drafts
end_more true queue code = omega arith
end_more false queue code = omega arith

reply_more : (closing : Closing) (reply : Reply) (queue : QueueFacts)
    → number_of is_of_exclusive (with_reply closing reply queue).drafts ≤ number_of is_of_exclusive queue.drafts + of_reply reply
reply_more closing no_reply queue = omega arith
reply_more closing (Reject rejection) queue = let h = rejections_more (is_open closing) queue rejection in omega (arith, h)
reply_more closing (Answer draft) queue = drafts_more (is_open closing) queue draft

-- ---- a PDU of the peer is taken

abbrev settled_of : Bool → Bool → TableFacts → TableFacts → Step → Step → Step → TableFacts × Step
settled_of a b f g x y z = if a then (f, x) else (if b then (f, y) else (g, z))

settled_by : (a b : Bool) (f g : TableFacts) (x y z : Step) → One f → One g → One (settled_of a b f g x y z).0
settled_by true b f g x y z one next = one
settled_by false true f g x y z one next = one
settled_by false false f g x y z one next = next

may_take : (f : TableFacts) (read : CtrlRead) (slot : ℕ) (quiet : Bool) → KeepsRules f (takes read slot quiet) → MayTake f read
may_take f (Known ctrl) slot quiet may = may
may_take f (Unknown opcode) slot quiet may = _
may_take f Bare slot quiet may = _

takes_one : (f : TableFacts) (read : CtrlRead) (slot : ℕ) (quiet : Bool) → One f → KeepsRules f (takes read slot quiet) → One (took_step f read slot quiet).0
takes_one f read slot quiet one may =
    settled_by (lacks_room f o) (is_some o.step.ends) f (facts_with f slot o) _ _ _ one
    (record {
      alone = t.alone one.alone;
      fits = fewer o.progress _ _ (reply_more f.closing o.reply f.queue) (t.fits (exclusive_waiting f) one.fits);
    })
  where
    o : Outcome
    o = outcome_of f quiet read

    t : TookOne f.progress o
    t = took_one f quiet read (may_take f read slot quiet may)

-- ---- a procedure begins

none_is : (own : OwnCentral) → kind_at_central own ≡ None → own ≡ (exclusive Idle)
none_is (exclusive Idle) h = refl
none_is (exclusive other) h = absurd (cc)
none_is other h = absurd (cc)

absent_is : (peer : PeerAtCentral) → has_peer_at_central peer ≡ false → peer ≡ Absent
absent_is Absent h = refl
absent_is other h = absurd (cc)

-- what excludes others begins where the peripheral has none, and so does an encryption
lets_exclusive : (b c : Bool) → (not (true && b) && not (false && c)) ≡ true → b ≡ false
lets_exclusive true c h = absurd (cc)
lets_exclusive false c h = refl

lets_encryption : (b c : Bool) → (not (false && b) && not (true && (b || c))) ≡ true → b ≡ false
lets_encryption true c h = absurd (cc)
lets_encryption false c h = refl

module _ (f : TableFacts) (slot : ℕ) (wanted : List Ask) where
  abbrev at : Progress → Bool → TableFacts
  at progress used = record f { progress = progress; version_used = used }

  excluding : (c : Central) (used : Bool) (ask : Ask) (draft : Draft) (own : OwnCentral) (g : TableFacts) → One (at (central c) used) → c.own ≡ (exclusive Idle) → c.peer ≡ Absent
      → g.progress ≡ central (record c { own = own }) → g.queue ≡ with_draft f.closing draft f.queue → count_if (is_of_exclusive draft) ≤ room_of_own own → One g
  excluding c used ask draft own g one none gone progress queue room =
      record {
        alone = rw progress (λ excluded. gone);
        fits = rw (progress, queue)
            (let more = drafts_more (is_open f.closing) f.queue draft in
            let fit : exclusive_waiting f ≤ room_of_own c.own + room_of_peer c.peer = one.fits in
            let empty : room_of_own c.own ≡ 0 = rw none refl in
            omega (arith, more, fit, empty, room));
      }

  exchanging : (c : Central) (used : Bool) (draft : Draft) (own : OwnCentral) (g : TableFacts) → One (at (central c) used) → c.own ≡ (exclusive Idle) → excludes own ≡ false
      → g.progress ≡ central (record c { own = own }) → g.queue ≡ with_draft f.closing draft f.queue → is_of_exclusive draft ≡ false → One g
  exchanging c used draft own g one none apart progress queue is =
      record {
        alone = rw progress (λ excluded. absurd (cc));
        fits = rw (progress, queue)
            (let more = drafts_more (is_open f.closing) f.queue draft in
            let fit : exclusive_waiting f ≤ room_of_own c.own + room_of_peer c.peer = one.fits in
            let empty : room_of_own c.own ≡ 0 = rw none refl in
            let no_more : count_if (is_of_exclusive draft) ≡ 0 = rw is refl in
            omega (arith, more, fit, empty, no_more));
      }

  began_c : (c : Central) (used : Bool) (ask : Ask) → One (at (central c) used) → c.own ≡ (exclusive Idle) → begins central_role (kind_of_ask ask) ≡ true
      → peer_lets (central c) (kind_of_ask ask) ≡ true → One (facts_begun (at (central c) used) slot ask wanted)
  began_c c used (ask_update interval latency timeout) one none may lets =
      excluding c used (ask_update interval latency timeout) _ (exclusive UpdateUnsent) _ one none (absent_is c.peer (lets_exclusive (has_peer_at_central c.peer) false lets)) refl refl (omega arith)
  began_c c used (ask_map map) one none may lets =
      excluding c used (ask_map map) _ (exclusive MapUnsent) _ one none (absent_is c.peer (lets_exclusive (has_peer_at_central c.peer) false lets)) refl refl (omega arith)
  began_c c used ask_phy one none may lets =
      excluding c used ask_phy _ (exclusive PhyUnsent) _ one none (absent_is c.peer (lets_exclusive (has_peer_at_central c.peer) false lets)) refl refl (omega arith)
  began_c c used ask_features one none may lets = exchanging c used _ (exchange FeaturesUnsent) _ one none refl refl refl refl
  began_c c used (ask_length tx) one none may lets = exchanging c used _ (exchange LengthUnsent) _ one none refl refl refl refl
  began_c c false ask_version one none may lets = exchanging c false VersionInd (exchange VersionUnsent) _ one none refl refl refl refl
  began_c c true ask_version one none may lets =
      let fit : exclusive_waiting f ≤ room_of_own c.own + room_of_peer c.peer = one.fits in
      let empty : room_of_own c.own ≡ 0 = rw none refl in
      record { alone = λ excluded. absurd (cc); fits = omega (arith, fit, empty) }
  began_c c used (ask_encrypt rand ediv ltk skd_m iv_m) one none may lets =
      let fit : exclusive_waiting f ≤ room_of_own c.own + room_of_peer c.peer = one.fits in
      let empty : room_of_own c.own ≡ 0 = rw none refl in
      record {
        alone = λ excluded. absent_is c.peer (lets_encryption (has_peer_at_central c.peer) false lets);
        fits = omega (arith, fit, empty);
      }
  began_c c used (ask_request min max latency timeout) one none may lets = absurd (cc)

  began_at : (p : Progress) (used : Bool) (ask : Ask) → One (at p used) → own_kind p ≡ None → begins (role_of p) (kind_of_ask ask) ≡ true
      → peer_lets p (kind_of_ask ask) ≡ true → One (facts_begun (at p used) slot ask wanted)
  began_at (central c) used ask one none may lets = began_c c used ask one (none_is c.own none) may lets
  began_at (peripheral p) used ask one none may lets =
      record { alone = record { phy = one.alone.phy; waits = one.alone.waits }; fits = _ }

begin_by : (f : TableFacts) (slot : ℕ) (quiet : Bool) (place : Option ℕ) (ask : Option Ask) → One f
    → place_to_begin f quiet ≡ place → ask_at place f.wanted ≡ ask → One (begin_at f slot place ask).0
begin_by f slot quiet None ask one p a = one
begin_by f slot quiet (Some place) None one p a = one
begin_by f slot quiet (Some place) (Some ask) one p a =
    let may = begins_of f quiet place ask p a in
    began_at f slot (remove f.wanted place) f.progress f.version_used ask one may.none may.role may.lets

-- ---- a PDU is sent

abbrev of_outgoing : Outgoing → ℕ
of_outgoing (Other draft) = count_if (is_of_exclusive draft)
of_outgoing other = 0

module _ (queue : QueueFacts) where
  abbrev GoesOut : Outgoing → Type 0
  GoesOut outgoing = number_of is_of_exclusive queue.drafts ≡ number_of is_of_exclusive (without_next outgoing queue).drafts + of_outgoing outgoing

  draft_out : (draft : Draft) (rest : List Draft) (b : Bool) → queue.drafts ≡ draft ∷ rest → GoesOut (if b then Nothing else Other draft)
  draft_out draft rest true is = omega arith
  draft_out draft rest false is = rw is (omega arith)

  drafts_out : (progress : Progress) (event : ℕ) (drafts : List Draft) → queue.drafts ≡ drafts → GoesOut (next_draft progress event drafts)
  drafts_out progress event [] is = omega arith
  drafts_out progress event (draft ∷ rest) is = draft_out draft rest (waits_for_instant draft && not (is_past_instant progress event)) is

  end_out : (disconnect : Option ErrCode) → GoesOut (next_disconnect disconnect)
  end_out None = omega arith
  end_out (Some code) = omega arith

  other_out : (progress : Progress) (event : ℕ) (b : Bool) → GoesOut (if b then next_disconnect queue.disconnect else next_draft progress event queue.drafts)
  other_out progress event true = end_out queue.disconnect
  other_out progress event false = drafts_out progress event queue.drafts refl

  out_by : (rejections : List TheRejection) (other : Outgoing) → GoesOut other → GoesOut (next_by rejections other)
  out_by [] other h = h
  out_by (rejection ∷ rest) other h = omega arith

next_out : (f : TableFacts) (event : ℕ) (quiet : Bool) → GoesOut f.queue (next_of f event quiet)
next_out f event quiet =
    out_by f.queue f.queue.rejections _ (other_out f.queue f.progress event (is_disconnecting f.closing && quiet))

module _ (event skips : ℕ) where
  -- a stage goes on as its PDU is sent, and its kind stays
  same_kind : (draft : Draft) (own : OwnCentral) → excludes (unwrap_or (own_draft_sent_by_central draft own) own) ≡ excludes own
  same_kind draft own = by draft own
    where
      by : (draft : Draft) (own : OwnCentral) → excludes (unwrap_or (own_draft_sent_by_central draft own) own) ≡ excludes own
      by (Update params) (exclusive UpdateUnsent) = refl
      by (Update params) (exclusive other) = refl
      by (Update params) other = refl
      by (Map map) (exclusive MapUnsent) = refl
      by (Map map) (exclusive other) = refl
      by (Map map) other = refl
      by PhyReq (exclusive PhyUnsent) = refl
      by PhyReq (exclusive other) = refl
      by PhyReq other = refl
      by PhyInd (exclusive PhyAnswered) = refl
      by PhyInd (exclusive other) = refl
      by PhyInd other = refl
      by (Cipher ctrl) EncryptUnsent = refl
      by (Cipher ctrl) EncryptSent = refl
      by (Cipher ctrl) other = refl
      by FeatureReq (exchange FeaturesUnsent) = refl
      by FeatureReq (exchange other) = refl
      by FeatureReq other = refl
      by PeripheralFeatureReq (exchange FeaturesUnsent) = refl
      by PeripheralFeatureReq (exchange other) = refl
      by PeripheralFeatureReq other = refl
      by VersionInd (exchange VersionUnsent) = refl
      by VersionInd (exchange other) = refl
      by VersionInd other = refl
      by (LengthReq rx tx) (exchange LengthUnsent) = refl
      by (LengthReq rx tx) (exchange other) = refl
      by (LengthReq rx tx) other = refl
      by (Grant params) (exchange stage) = refl
      by (Grant params) other = refl
      by (request_draft min max latency timeout) (exchange stage) = refl
      by (request_draft min max latency timeout) other = refl
      by PhyRsp (exchange stage) = refl
      by PhyRsp other = refl
      by FeatureRsp (exchange stage) = refl
      by FeatureRsp other = refl
      by (LengthRsp rx tx) (exchange stage) = refl
      by (LengthRsp rx tx) other = refl
      by (UnknownRsp opcode) (exchange stage) = refl
      by (UnknownRsp opcode) other = refl

  still_absent : (draft : Draft) → peer_draft_sent_by_central (pdu_of_draft draft) Absent ≡ Absent
  still_absent (Grant params) = refl
  still_absent PhyInd = refl
  still_absent other = refl

  most_own : (own : OwnCentral) → room_of_own own ≤ 1
  most_own (exclusive UpdateUnsent) = omega arith
  most_own (exclusive MapUnsent) = omega arith
  most_own (exclusive PhyUnsent) = omega arith
  most_own (exclusive PhyAnswered) = omega arith
  most_own (exclusive other) = omega arith
  most_own other = omega arith

  most_peer : (peer : PeerAtCentral) → room_of_peer peer ≤ 1
  most_peer GrantUnsent = omega arith
  most_peer PhyIndUnsent = omega arith
  most_peer other = omega arith

  -- other PDUs leave the room as it was
  same_own : (draft : Draft) (own : OwnCentral) → is_of_exclusive draft ≡ false → room_of_own (unwrap_or (own_draft_sent_by_central draft own) own) ≡ room_of_own own
  same_own (Update params) own h = absurd (cc)
  same_own (Map map) own h = absurd (cc)
  same_own (Grant params) own h = absurd (cc)
  same_own PhyReq own h = absurd (cc)
  same_own PhyInd own h = absurd (cc)
  same_own (Cipher ctrl) EncryptUnsent h = refl
  same_own (Cipher ctrl) EncryptSent h = refl
  same_own (Cipher ctrl) other h = refl
  same_own FeatureReq (exchange FeaturesUnsent) h = refl
  same_own FeatureReq (exchange other) h = refl
  same_own FeatureReq other h = refl
  same_own PeripheralFeatureReq (exchange FeaturesUnsent) h = refl
  same_own PeripheralFeatureReq (exchange other) h = refl
  same_own PeripheralFeatureReq other h = refl
  same_own VersionInd (exchange VersionUnsent) h = refl
  same_own VersionInd (exchange other) h = refl
  same_own VersionInd other h = refl
  same_own (LengthReq rx tx) (exchange LengthUnsent) h = refl
  same_own (LengthReq rx tx) (exchange other) h = refl
  same_own (LengthReq rx tx) other h = refl
  same_own (request_draft min max latency timeout) (exchange stage) h = refl
  same_own (request_draft min max latency timeout) other h = refl
  same_own PhyRsp (exchange stage) h = refl
  same_own PhyRsp other h = refl
  same_own FeatureRsp (exchange stage) h = refl
  same_own FeatureRsp other h = refl
  same_own (LengthRsp rx tx) (exchange stage) h = refl
  same_own (LengthRsp rx tx) other h = refl
  same_own (UnknownRsp opcode) (exchange stage) h = refl
  same_own (UnknownRsp opcode) other h = refl

  same_peer : (draft : Draft) (peer : PeerAtCentral) → is_of_exclusive draft ≡ false → room_of_peer (peer_draft_sent_by_central (pdu_of_draft draft) peer) ≡ room_of_peer peer
  same_peer (Grant params) peer h = absurd (cc)
  same_peer PhyInd peer h = absurd (cc)
  same_peer other peer h = refl

  -- an end whose own procedure is none of these has no room for it
  apart_room : (own : OwnCentral) → excludes own ≡ false → room_of_own own ≡ 0
  apart_room (exclusive Idle) h = refl
  apart_room (exchange stage) h = refl
  apart_room (exclusive other) h = absurd (cc)
  apart_room other h = absurd (cc)

  -- of the two procedures one is there, so that at most one stage goes on
  least : (c : Central) → (excludes c.own ≡ true → c.peer ≡ Absent) → room_of_own c.own + room_of_peer c.peer ≤ 1
  least c alone = by (excludes c.own) refl
    where
      by : (b : Bool) → excludes c.own ≡ b → room_of_own c.own + room_of_peer c.peer ≤ 1
      by true is =
          let gone : room_of_peer c.peer ≡ 0 = rw (alone is) refl in
          let most = most_own c.own in
          omega (arith, gone, most)
      by false is =
          let none = apart_room c.own is in
          let most = most_peer c.peer in
          omega (arith, none, most)

  rooms_sent : (draft : Draft) (c : Central) → (excludes c.own ≡ true → c.peer ≡ Absent)
      → room_of_own c.own + room_of_peer c.peer
      ≤ room_of_own (unwrap_or (own_draft_sent_by_central draft c.own) c.own) + room_of_peer (peer_draft_sent_by_central (pdu_of_draft draft) c.peer) + count_if (is_of_exclusive draft)
  rooms_sent draft c alone = by (is_of_exclusive draft) refl
    where
      by : (b : Bool) → is_of_exclusive draft ≡ b
          → room_of_own c.own + room_of_peer c.peer
          ≤ room_of_own (unwrap_or (own_draft_sent_by_central draft c.own) c.own) + room_of_peer (peer_draft_sent_by_central (pdu_of_draft draft) c.peer) + count_if (is_of_exclusive draft)
      by true is =
          let less = least c alone in
          let counts : count_if (is_of_exclusive draft) ≡ 1 = rw is refl in
          omega (arith, less, counts)
      by false is =
          let own = same_own draft c.own is in
          let peer = same_peer draft c.peer is in
          omega (arith, own, peer)

  phy_stays : (draft : Draft) (peer : PeerAtPeripheral) → has_phy_of_central (peer_draft_sent_by_peripheral (pdu_of_draft draft) peer) ≡ has_phy_of_central peer
  phy_stays PhyRsp PhyRspUnsent = refl
  phy_stays PhyRsp other = refl
  phy_stays other peer = refl

  indication_stays : (draft : Draft) (peer : PeerAtPeripheral) → is_indication (peer_draft_sent_by_peripheral (pdu_of_draft draft) peer) ≡ is_indication peer
  indication_stays PhyRsp PhyRspUnsent = refl
  indication_stays PhyRsp other = refl
  indication_stays other peer = refl

  alone_sent : (outgoing : Outgoing) (p : Progress) → IsAlone p → IsAlone (progress_after_sending outgoing event skips p)
  alone_sent (Other draft) (central c) alone =
      λ excluded. rw (alone (sym (same_kind draft c.own) ∙ excluded)) (still_absent draft)
  alone_sent (Other draft) (peripheral p) alone =
      record {
        phy = λ encrypts. phy_stays draft p.peer ∙ alone.phy encrypts;
        waits = λ is. alone.waits (sym (indication_stays draft p.peer) ∙ is);
      }
  alone_sent Nothing p alone = alone
  alone_sent (Rejection rejection) p alone = alone
  alone_sent (Disconnect code) p alone = alone

  fits_sent : (outgoing : Outgoing) (p : Progress) (before after : ℕ) → before ≡ after + of_outgoing outgoing → IsAlone p → Fits p before → Fits (progress_after_sending outgoing event skips p) after
  fits_sent (Other draft) (central c) before after is alone fit =
      let less : before ≤ room_of_own c.own + room_of_peer c.peer = fit in
      let rooms = rooms_sent draft c alone in
      omega (arith, is, less, rooms)
  fits_sent (Other draft) (peripheral p) before after is alone fit = _
  fits_sent Nothing p before after is alone fit = fewer p after before (omega (arith, is)) fit
  fits_sent (Rejection rejection) p before after is alone fit = fewer p after before (omega (arith, is)) fit
  fits_sent (Disconnect code) p before after is alone fit = fewer p after before (omega (arith, is)) fit

  sends_one : (f : TableFacts) (slot : ℕ) (quiet : Bool) → One f → One (facts_sent f (next_of f event quiet) event skips slot)
  sends_one f slot quiet one =
      record {
        alone = alone_sent (next_of f event quiet) f.progress one.alone;
        fits = fits_sent (next_of f event quiet) f.progress _ _ (next_out f event quiet) one.alone one.fits;
      }

-- ---- the other calls

acked_central : (pdu : Option Pdu) (c : Central) → (excludes c.own ≡ true → c.peer ≡ Absent)
    → (excludes (central_acked pdu c).own ≡ true → (central_acked pdu c).peer ≡ Absent)
acked_central None c alone = alone
acked_central (Some pdu) c alone = λ excluded. rw (alone (own_by pdu c.own excluded)) (peer_by pdu)
  where
    own_by : (pdu : Pdu) (own : OwnCentral) → excludes (on_central_stage (own_acked_at_central pdu) own) ≡ true → excludes own ≡ true
    own_by PhyIndPdu (exclusive PhyIndicated) h = refl
    own_by pdu (exclusive PhyIndicated) h = refl
    own_by PhyIndPdu (exclusive Idle) h = absurd (cc)
    own_by pdu (exclusive Idle) h = absurd (cc)
    own_by pdu (exclusive other) h = refl
    own_by pdu (exchange stage) h = absurd (cc)
    own_by pdu EncryptUnsent h = refl
    own_by pdu EncryptSent h = refl

    peer_by : (pdu : Pdu) → peer_acked_at_central pdu Absent ≡ Absent
    peer_by PhyIndPdu = refl
    peer_by other = refl

acked_rooms : (pdu : Option Pdu) (c : Central) → room_of_own c.own + room_of_peer c.peer ≤ room_of_own (central_acked pdu c).own + room_of_peer (central_acked pdu c).peer
acked_rooms None c = omega arith
acked_rooms (Some pdu) c = let h1 = own_by pdu c.own in let h2 = peer_by pdu c.peer in omega (arith, h1, h2)
  where
    own_by : (pdu : Pdu) (own : OwnCentral) → room_of_own own ≤ room_of_own (on_central_stage (own_acked_at_central pdu) own)
    own_by PhyIndPdu (exclusive PhyIndicated) = omega arith
    own_by PhyIndPdu (exclusive other) = omega arith
    own_by pdu (exclusive other) = omega arith
    own_by pdu (exchange stage) = omega arith
    own_by pdu EncryptUnsent = omega arith
    own_by pdu EncryptSent = omega arith

    peer_by : (pdu : Pdu) (peer : PeerAtCentral) → room_of_peer peer ≤ room_of_peer (peer_acked_at_central pdu peer)
    peer_by PhyIndPdu PhyIndSent = omega arith
    peer_by PhyIndPdu other = omega arith
    peer_by pdu other = omega arith

acked_peripheral : (pdu : Option Pdu) (p : Peripheral) → AloneHere p → AloneHere (peripheral_acked pdu p)
acked_peripheral (Some pdu) p alone = record { phy = alone.phy; waits = alone.waits }
acked_peripheral None p alone = alone

acked_at : (out : Outgoing) (p : Progress) (waits : ℕ) → IsAlone p → Fits p waits → IsAlone (progress_acked out p) × Fits (progress_acked out p) waits
acked_at out (central c) waits alone fit =
    let less : waits ≤ room_of_own c.own + room_of_peer c.peer = fit in
    let rooms = acked_rooms (pdu_of_outgoing out) c in
    (acked_central (pdu_of_outgoing out) c alone, omega (arith, less, rooms))
acked_at out (peripheral p) waits alone fit = (acked_peripheral (pdu_of_outgoing out) p alone, _)

held_at : (p : Progress) (waits : ℕ) → IsAlone p → Fits p waits → IsAlone (progress_held p) × Fits (progress_held p) waits
held_at (central c) waits alone fit =
    let less : waits ≤ room_of_own c.own + room_of_peer c.peer = fit in
    let h1 = room_by c.own in
    let h2 = peer_by c.peer in
    ((λ excluded. rw (alone (own_by c.own excluded)) refl), omega (arith, less, h1, h2))
  where
    own_by : (own : OwnCentral) → excludes (on_central_stage own_held_at_central own) ≡ true → excludes own ≡ true
    own_by (exclusive UpdateSent) h = refl
    own_by (exclusive MapSent) h = refl
    own_by (exclusive Idle) h = absurd (cc)
    own_by (exchange stage) h = absurd (cc)
    own_by (exclusive other) h = refl
    own_by other h = refl

    room_by : (own : OwnCentral) → room_of_own own ≤ room_of_own (on_central_stage own_held_at_central own)
    room_by (exclusive UpdateSent) = omega arith
    room_by (exclusive MapSent) = omega arith
    room_by (exclusive other) = omega arith
    room_by other = omega arith

    peer_by : (peer : PeerAtCentral) → room_of_peer peer ≤ room_of_peer (peer_held_at_central peer)
    peer_by GrantSent = omega arith
    peer_by other = omega arith
held_at (peripheral p) waits alone fit =
    (record { phy = λ encrypts. phy_by p.peer (alone.phy encrypts); waits = λ is. waits_by p.peer is }, _)
  where
    phy_by : (peer : PeerAtPeripheral) → has_phy_of_central peer ≡ false → has_phy_of_central (peer_held_at_peripheral peer) ≡ false
    phy_by UpdateTaken h = refl
    phy_by MapTaken h = refl
    phy_by other h = h

    waits_by : (peer : PeerAtPeripheral) → is_indication (peer_held_at_peripheral peer) ≡ true → false ≡ true
    waits_by UpdateTaken h = absurd (cc)
    waits_by MapTaken h = absurd (cc)
    waits_by absent h = absurd (cc)
    waits_by PhyRspUnsent h = absurd (cc)
    waits_by PhyRspSent h = absurd (cc)

asked_apart : (peer : PeerAtCentral) → is_host_asked_at_central peer ≡ true → peer ≡ Absent → false ≡ true
asked_apart Absent asked gone = asked
asked_apart HostAsked asked gone = absurd (cc)
asked_apart other asked gone = absurd (cc)

no_room_asked : (peer : PeerAtCentral) → is_host_asked_at_central peer ≡ true → room_of_peer peer ≡ 0
no_room_asked HostAsked asked = refl
no_room_asked other asked = absurd (cc)

answers_at : (f : TableFacts) (p : Progress) (answer : Result Ask ErrCode) → One (record f { progress = p }) → is_host_asked p ≡ true
    → One (host_answer_step (record f { progress = p }) answer)
answers_at f (central c) (Ok (ask_update interval latency timeout)) one asked =
    let fit : exclusive_waiting f ≤ room_of_own c.own + room_of_peer c.peer = one.fits in
    let more = drafts_more (is_open f.closing) f.queue (Grant (record { interval = interval; latency = latency; timeout = timeout })) in
    let none = no_room_asked c.peer asked in
    record {
      alone = λ excluded. absurd (let no_peer = asked_apart c.peer asked (one.alone excluded) in cc);
      fits = omega (arith, fit, more, none);
    }
answers_at f (central c) (Err code) one asked =
    let fit : exclusive_waiting f ≤ room_of_own c.own + room_of_peer c.peer = one.fits in
    let more = rejections_more (is_open f.closing) f.queue (record { opcode = connection_param_req_opcode; code = code }) in
    let none = no_room_asked c.peer asked in
    record { alone = λ excluded. refl; fits = omega (arith, fit, more, none) }
answers_at f (central c) (Ok (ask_request min max latency timeout)) one asked = one
answers_at f (central c) (Ok (ask_map map)) one asked = one
answers_at f (central c) (Ok ask_phy) one asked = one
answers_at f (central c) (Ok ask_features) one asked = one
answers_at f (central c) (Ok ask_version) one asked = one
answers_at f (central c) (Ok (ask_length tx)) one asked = one
answers_at f (central c) (Ok (ask_encrypt rand ediv ltk skd_m iv_m)) one asked = one
answers_at f (peripheral p) answer one asked = absurd (cc)

given_at : (f : TableFacts) (p : Progress) (ctrl : Ctrl) → One (record f { progress = p }) → One (after_call (record f { progress = p }) (is_given ctrl))
given_at f (central c) ctrl one =
    let fit : exclusive_waiting f ≤ room_of_own c.own + room_of_peer c.peer = one.fits in
    let more = drafts_more (is_open f.closing) f.queue (Cipher ctrl) in
    record { alone = one.alone; fits = omega (arith, fit, more) }
given_at f (peripheral p) ctrl one = record { alone = by (is_rejection ctrl); fits = fits_by (is_rejection ctrl) _ }
  where
    by : (b : Bool) → IsAlone (if b then peripheral (record p { encrypting = false }) else peripheral p)
    by true = record { phy = λ h. absurd (cc); waits = one.alone.waits }
    by false = one.alone

    fits_by : (b : Bool) (waits : ℕ) → Fits (if b then peripheral (record p { encrypting = false }) else peripheral p) waits
    fits_by true waits = _
    fits_by false waits = _

keeps : (f : TableFacts) (key : Bool) (call : Call) → One f → May f key call → KeepsRules f call → One (after_call f call)
keeps f key (asks ask) one may rules = record { alone = one.alone; fits = one.fits }
keeps f key (begins_one slot quiet) one may rules = begin_by f slot quiet _ _ one refl refl
keeps f key (takes read slot quiet) one may rules = takes_one f read slot quiet one rules
keeps f key (sends event skips quiet slot) one may rules = sends_one event skips f slot quiet one
keeps f key is_acked one may rules = let h = acked_at f.out f.progress (exclusive_waiting f) one.alone one.fits in record { alone = h.0; fits = h.1 }
keeps f key (enters true) one may rules = let h = held_at f.progress (exclusive_waiting f) one.alone one.fits in record { alone = h.0; fits = h.1 }
keeps f key (enters false) one may rules = one
keeps f key (host_answers answer) one may rules = answers_at f f.progress answer one may
keeps f key (disconnects reason) one may rules =
    record { alone = one.alone; fits = fewer f.progress _ _ (end_more (is_open f.closing) f.queue reason) one.fits }
keeps f key (is_given ctrl) one may rules = given_at f f.progress ctrl one

keeps_all : (f : TableFacts) (key : Bool) (calls : List Call) → One f → MayAll f key calls → AllKeepRules f calls → One (after_calls f calls)
keeps_all f key [] one may rules = one
keeps_all f key (call ∷ calls) one may rules =
    keeps_all (after_call f call) (key_after_call key call) calls (keeps f key call one may.0 rules.0) may.1 rules.1

first_one : (role : Role) (max_rx : ℕ) → One (first_facts role max_rx)
first_one central_role max_rx = record { alone = λ excluded. refl; fits = omega arith }
first_one peripheral_role max_rx = record { alone = record { phy = λ h. absurd (cc); waits = λ h. absurd (cc) }; fits = _ }

pub one_after : (role : Role) (max_rx : ℕ) (calls : List Call) → MayAll (first_facts role max_rx) false calls → AllKeepRules (first_facts role max_rx) calls
    → One (after_calls (first_facts role max_rx) calls)
one_after role max_rx calls may rules = keeps_all (first_facts role max_rx) false calls (first_one role max_rx) may rules

-- ---- what follows

queued_by : (p : Progress) (waits : ℕ) → role_of p ≡ central_role → IsAlone p → Fits p waits → waits ≤ 1
queued_by (central c) waits is alone fit =
    let less : waits ≤ room_of_own c.own + room_of_peer c.peer = fit in
    let most = least 0 0 c alone in
    omega (arith, less, most)
queued_by (peripheral p) waits is alone fit = absurd (cc)

none_by : (p : Progress) (waits : ℕ) → role_of p ≡ central_role → Fits p waits → own_kind p ≡ None → has_peer p ≡ false → waits ≡ 0
none_by (central c) waits is fit none gone =
    let less : waits ≤ room_of_own c.own + room_of_peer c.peer = fit in
    let own : room_of_own c.own ≡ 0 = rw (none_is c.own none) refl in
    let peer : room_of_peer c.peer ≡ 0 = rw (absent_is c.peer gone) refl in
    omega (arith, less, own, peer)
none_by (peripheral p) waits is fit none gone = absurd (cc)

exclusive_own : (own : OwnCentral) (kind : Kind) → kind_at_central own ≡ Some kind → (is_exclusive kind || is_encrypt kind) ≡ true → excludes own ≡ true
exclusive_own (exclusive Idle) kind is h = absurd (cc)
exclusive_own (exchange FeaturesUnsent) kind is h = absurd (cc)
exclusive_own (exchange FeaturesSent) kind is h = absurd (cc)
exclusive_own (exchange VersionUnsent) kind is h = absurd (cc)
exclusive_own (exchange VersionSent) kind is h = absurd (cc)
exclusive_own (exchange LengthUnsent) kind is h = absurd (cc)
exclusive_own (exchange LengthSent) kind is h = absurd (cc)
exclusive_own (exclusive other) kind is h = refl
exclusive_own other kind is h = refl

alone_by : (p : Progress) (kind : Kind) → role_of p ≡ central_role → IsAlone p → own_kind p ≡ Some kind → (is_exclusive kind || is_encrypt kind) ≡ true → has_peer p ≡ false
alone_by (central c) kind role alone is h = rw (alone (exclusive_own c.own kind is h)) refl
alone_by (peripheral p) kind role alone is h = absurd (cc)

ahead_by : (p : Progress) → IsAlone p → is_encrypting p ≡ true → has_peer p ≡ true → is_indication_ahead p ≡ true
ahead_by (central c) alone encrypts has = absurd (cc)
ahead_by (peripheral p) alone encrypts has = alone.waits (by p.peer has (alone.phy encrypts))
  where
    by : (peer : PeerAtPeripheral) → has_peer_at_peripheral peer ≡ true → has_phy_of_central peer ≡ false → is_indication peer ≡ true
    by UpdateTaken has none = refl
    by MapTaken has none = refl
    by absent has none = absurd (cc)
    by PhyRspUnsent has none = absurd (cc)
    by PhyRspSent has none = absurd (cc)

abbrev pub after : Role → ℕ → List Call → TableFacts
after role max_rx calls = after_calls (first_facts role max_rx) calls

pub queued_after : (max_rx : ℕ) (calls : List Call) → MayAll (first_facts central_role max_rx) false calls → AllKeepRules (first_facts central_role max_rx) calls
    → exclusive_waiting (after central_role max_rx calls) ≤ 1
queued_after max_rx calls may rules =
    let one = one_after central_role max_rx calls may rules in
    queued_by (after central_role max_rx calls).progress _ (role_after central_role max_rx calls may) one.alone one.fits

pub none_after : (max_rx : ℕ) (calls : List Call) → MayAll (first_facts central_role max_rx) false calls → AllKeepRules (first_facts central_role max_rx) calls
    → own_kind (after central_role max_rx calls).progress ≡ None → has_peer (after central_role max_rx calls).progress ≡ false
    → exclusive_waiting (after central_role max_rx calls) ≡ 0
none_after max_rx calls may rules none gone =
    let one = one_after central_role max_rx calls may rules in
    none_by (after central_role max_rx calls).progress _ (role_after central_role max_rx calls may) one.fits none gone

pub alone_after : (max_rx : ℕ) (calls : List Call) (kind : Kind) → MayAll (first_facts central_role max_rx) false calls → AllKeepRules (first_facts central_role max_rx) calls
    → own_kind (after central_role max_rx calls).progress ≡ Some kind → (is_exclusive kind || is_encrypt kind) ≡ true
    → has_peer (after central_role max_rx calls).progress ≡ false
alone_after max_rx calls kind may rules is h =
    let one = one_after central_role max_rx calls may rules in
    alone_by (after central_role max_rx calls).progress kind (role_after central_role max_rx calls may) one.alone is h

pub ahead_after : (max_rx : ℕ) (calls : List Call) → MayAll (first_facts peripheral_role max_rx) false calls → AllKeepRules (first_facts peripheral_role max_rx) calls
    → is_encrypting (after peripheral_role max_rx calls).progress ≡ true → has_peer (after peripheral_role max_rx calls).progress ≡ true
    → is_indication_ahead (after peripheral_role max_rx calls).progress ≡ true
ahead_after max_rx calls may rules encrypts has =
    let one = one_after peripheral_role max_rx calls may rules in
    ahead_by (after peripheral_role max_rx calls).progress one.alone encrypts has
