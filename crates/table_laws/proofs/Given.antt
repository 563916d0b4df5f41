-- The host answers a request or disconnects, or the layer above queues a PDU.
use Rattle.std.proofs.Common.{◌≡◌, ℕ, ◌≤◌, ◌<◌, Bool, true, false, not, ◌&&◌, if◌then◌else◌, [], ◌∷◌, ◌++◌, Some, Result, Ok, Err, refl, arith}
use Rattle.ble_base.specs.declared.error_codes.ErrCode.{ErrCode}
use Rattle.ble_base.specs.declared.procedure_kinds.Kind.TheVariants.{Encrypt}
use Rattle.data_pdu.specs.declared.ctrl.Ctrl.{Ctrl}
use Rattle.data_pdu.specs.declared.ctrl.Ctrl.TheVariants.{TerminateInd, EncReq, EncRsp, StartEncReq, StartEncRsp, PauseEncReq, PauseEncRsp, RejectExtInd}
use Rattle.procedures.specs.procedure_values.declared.asks.Ask.{Ask}
use Rattle.procedures.specs.procedure_values.declared.asks.Ask.TheVariants.{Update as ask_update, Request as ask_request, Map as ask_map, Phy as ask_phy, Features as ask_features, Version as ask_version, Length as ask_length, Encrypt as ask_encrypt}
use Rattle.procedures.specs.procedure_values.declared.drafts.Draft.TheVariants.{Grant, Cipher}
use Rattle.procedures.specs.procedure_stages.declared.stages.Exchange.TheVariants.{FeaturesUnsent, FeaturesSent, VersionUnsent, VersionSent, LengthUnsent, LengthSent}
use Rattle.procedures.specs.procedure_stages.declared.stages.OwnCentral.{OwnCentral}
use Rattle.exclusive_stages.specs.declared.stages.CentralStage.TheVariants.{Idle, UpdateUnsent, UpdateSent, MapUnsent, MapSent, PhyUnsent, PhySent, PhyAnswered, PhyIndicated}
use Rattle.procedures.specs.procedure_stages.declared.stages.OwnCentral.TheVariants.{Exclusive as exclusive, Exchange as exchange, EncryptUnsent, EncryptSent}
use Rattle.exclusive_stages.specs.declared.stages.PeerAtCentral.{PeerAtCentral}
use Rattle.exclusive_stages.specs.declared.stages.PeerAtCentral.TheVariants.{HostAsked}
use Rattle.procedures.specs.procedure_stages.declared.stages.Central.{Central}
use Rattle.procedures.specs.procedure_stages.declared.stages.Peripheral.{Peripheral}
use Rattle.procedures.specs.procedure_stages.declared.stages.Progress.{Progress}
use Rattle.procedures.specs.procedure_stages.declared.stages.Progress.TheVariants.{Central as central, Peripheral as peripheral}
use Rattle.procedures.specs.procedure_stages.declared.closing.Closing.{Closing}
use Rattle.procedures.specs.procedure_stages.declared.closing.Closing.TheVariants.{Open, Closed, Disconnecting}
use Rattle.procedures.specs.procedure_stages.Kinds.{kind_at_central}
use Rattle.procedures.specs.Table.{TableFacts}
use Rattle.procedures.specs.procedure_stages.Closing.{is_open}
use Rattle.procedures.specs.procedure_stages.InProgress.{is_host_asked}
use Rattle.exclusive_stages.specs.Kinds.{is_host_asked_at_central}
use Rattle.procedures.specs.procedure_stages.Queue.{waiting_in, with_draft}
use Rattle.procedures.specs.Encryption.{is_rejection, progress_given}
use Rattle.procedures.specs.Going.{closing_given, host_answer_step, owe_step, terminate_step}
use Rattle.procedures.specs.procedure_stages.Opcodes.{connection_param_req_opcode}
use Rattle.table_laws.specs.Waiting.{asked, is_asked, is_encryption_request, is_terminate_ind, count_if, own_waiting}
use Rattle.table_laws.specs.Pasts.{MayGive, key_after_given}
use Rattle.table_laws.proofs.Numbers.{Counts, same, with_one, with_rejection_more}
use Rattle.table_laws.proofs.Outcomes.{own_room, room_at_central, room_at_peripheral}
use Rattle.table_laws.proofs.Kept.{Kept, at_most_one, kept_anew, kept_by}
use Rattle.table_laws.proofs.Begun.{at}

-- ---- the host answers a request, or disconnects

module _ (f : TableFacts) (key : Bool) where
  with_peer : (c : Central) → PeerAtCentral → Progress
  with_peer c peer = central (record c { peer = peer })

  answers_at : (c : Central) (closing : Closing) (answer : Result Ask ErrCode) → c.peer ≡ HostAsked → Kept (at f (central c) closing f.version_used) key
      → Kept (host_answer_step (at f (central c) closing f.version_used) answer) key
  answers_at c Open (Ok (ask_update interval latency timeout)) is kept =
      let one : asked (at f (central c) Open f.version_used) key ≡ 1 = rw is refl in
      let k2 = kept.own in
      let k3 = kept.version in
      let k4 = kept.end in
      kept_by (at f (central c) Open f.version_used) (host_answer_step (at f (central c) Open f.version_used) (Ok (ask_update interval latency timeout))) key key 1 0 0 0 kept
      (with_one f.queue (Grant (record { interval = interval; latency = latency; timeout = timeout })))
      (omega (arith, one)) (omega (arith, k2)) (omega (arith, k3)) (omega (arith, k4))
  answers_at c Closed (Ok (ask_update interval latency timeout)) is kept =
      record { bound = kept.bound; own = kept.own; version = kept.version; end = kept.end }
  answers_at c Disconnecting (Ok (ask_update interval latency timeout)) is kept =
      record { bound = kept.bound; own = kept.own; version = kept.version; end = kept.end }
  answers_at c Open (Err code) is kept =
      let one : asked (at f (central c) Open f.version_used) key ≡ 1 = rw is refl in
      let k2 = kept.own in
      let k3 = kept.version in
      let k4 = kept.end in
      kept_by (at f (central c) Open f.version_used) (host_answer_step (at f (central c) Open f.version_used) (Err code)) key key 1 0 0 0 kept
      (with_rejection_more f.queue (record { opcode = connection_param_req_opcode; code = code }))
      (omega (arith, one)) (omega (arith, k2)) (omega (arith, k3)) (omega (arith, k4))
  answers_at c Closed (Err code) is kept =
      record { bound = kept.bound; own = kept.own; version = kept.version; end = kept.end }
  answers_at c Disconnecting (Err code) is kept =
      record { bound = kept.bound; own = kept.own; version = kept.version; end = kept.end }
  answers_at c closing (Ok (ask_request min max latency timeout)) is kept = kept
  answers_at c closing (Ok (ask_map map)) is kept = kept
  answers_at c closing (Ok ask_phy) is kept = kept
  answers_at c closing (Ok ask_features) is kept = kept
  answers_at c closing (Ok ask_version) is kept = kept
  answers_at c closing (Ok (ask_length tx)) is kept = kept
  answers_at c closing (Ok (ask_encrypt rand ediv ltk skd_m iv_m)) is kept = kept

  host_asked : (peer : PeerAtCentral) → is_host_asked_at_central peer ≡ true → peer ≡ HostAsked
  host_asked HostAsked h = refl
  host_asked other h = absurd (cc)

  pub answers_by : (p : Progress) (closing : Closing) (answer : Result Ask ErrCode) → is_host_asked p ≡ true → Kept (at f p closing f.version_used) key
      → Kept (host_answer_step (at f p closing f.version_used) answer) key
  answers_by (central c) closing answer h kept = answers_at c closing answer (host_asked c.peer h) kept
  answers_by (peripheral p) closing answer h kept = absurd (cc)

  pub disconnects_at : (closing : Closing) (reason : ErrCode) → Kept (at f f.progress closing f.version_used) key
      → Kept (terminate_step (at f f.progress closing f.version_used) reason) key
  disconnects_at Open reason kept =
      let k1 = kept.bound in
      let k2 = kept.own in
      let k3 = kept.version in
      let k4 = kept.end in
      record {
        bound = omega (arith, k1, k4);
        own = k2;
        version = k3;
        end = omega (arith, k4);
      }
  disconnects_at Closed reason kept = record { bound = kept.bound; own = kept.own; version = kept.version; end = kept.end }
  disconnects_at Disconnecting reason kept = record { bound = kept.bound; own = kept.own; version = kept.version; end = kept.end }

  -- ---- the layer above queues a PDU

  given_answer : (p p' : Progress) (key' : Bool) (ctrl : Ctrl) → Kept (at f p Open f.version_used) key → waiting_in f.queue < 16
      → own_room p ≤ own_room p' → is_encryption_request ctrl ≡ false → is_terminate_ind ctrl ≡ false
      → Kept (record (at f p' Open f.version_used) { queue = record f.queue { drafts = f.queue.drafts ++ Cipher ctrl ∷ [] } }) key'
  given_answer p p' key' ctrl kept few room is1 is2 =
      let k2 = kept.own in
      let k3 = kept.version in
      let k4 = kept.end in
      let n1 : count_if (is_encryption_request ctrl) ≡ 0 = rw is1 refl in
      let n2 : count_if (is_terminate_ind ctrl) ≡ 0 = rw is2 refl in
      let one = at_most_one (true && is_asked p' key') in
      kept_anew (at f p Open f.version_used) (record (at f p' Open f.version_used) { queue = record f.queue { drafts = f.queue.drafts ++ Cipher ctrl ∷ [] } }) key key'
      1 _ 0 _ kept (with_one f.queue (Cipher ctrl))
      (omega (arith, few, one)) (omega (arith, k2, room, n1)) (omega (arith, k3)) (omega (arith, k4, n2))

  given_request : (c : Central) (ctrl : Ctrl) → Kept (at f (central c) Open f.version_used) key → own_waiting f ≡ 0 → room_at_central c.own ≡ 1
      → is_encryption_request ctrl ≡ true → is_terminate_ind ctrl ≡ false
      → Kept (record (at f (central c) Open f.version_used) { queue = record f.queue { drafts = f.queue.drafts ++ Cipher ctrl ∷ [] } }) key
  given_request c ctrl kept none room is1 is2 =
      let k3 = kept.version in
      let k4 = kept.end in
      let n1 : count_if (is_encryption_request ctrl) ≡ 1 = rw is1 refl in
      let n2 : count_if (is_terminate_ind ctrl) ≡ 0 = rw is2 refl in
      kept_by (at f (central c) Open f.version_used) (record (at f (central c) Open f.version_used) { queue = record f.queue { drafts = f.queue.drafts ++ Cipher ctrl ∷ [] } }) key key
      1 _ 0 _ kept (with_one f.queue (Cipher ctrl))
      (omega (arith, n1, n2)) (omega (arith, none, room, n1)) (omega (arith, k3)) (omega (arith, k4, n2))

  given_about_key : (p p' : Peripheral) (ctrl : Ctrl) → Kept (at f (peripheral p) Open f.version_used) key → key ≡ true
      → room_at_peripheral p.own ≤ room_at_peripheral p'.own → is_encryption_request ctrl ≡ false → is_terminate_ind ctrl ≡ false
      → Kept (record (at f (peripheral p') Open f.version_used) { queue = record f.queue { drafts = f.queue.drafts ++ Cipher ctrl ∷ [] } }) false
  given_about_key p p' ctrl kept is room is1 is2 =
      let k2 = kept.own in
      let k3 = kept.version in
      let k4 = kept.end in
      let one : asked (at f (peripheral p) Open f.version_used) key ≡ 1 = rw is refl in
      let n1 : count_if (is_encryption_request ctrl) ≡ 0 = rw is1 refl in
      let n2 : count_if (is_terminate_ind ctrl) ≡ 0 = rw is2 refl in
      kept_by (at f (peripheral p) Open f.version_used) (record (at f (peripheral p') Open f.version_used) { queue = record f.queue { drafts = f.queue.drafts ++ Cipher ctrl ∷ [] } }) key false
      1 _ 0 _ kept (with_one f.queue (Cipher ctrl))
      (omega (arith, one, n1, n2)) (omega (arith, k2, room, n1)) (omega (arith, k3)) (omega (arith, k4, n2))

  given_end : (p : Peripheral) (code : ℕ) → Kept (at f (peripheral p) Open f.version_used) key
      → Kept (owe_step (at f (peripheral p) Open f.version_used) (TerminateInd code)) false
  given_end p code kept =
      let k2 = kept.own in
      let k3 = kept.version in
      let k4 = kept.end in
      kept_by (at f (peripheral p) Open f.version_used) (owe_step (at f (peripheral p) Open f.version_used) (TerminateInd code)) key false
      1 0 0 1 kept (with_one f.queue (Cipher (TerminateInd code)))
      (omega (arith)) (omega (arith, k2)) (omega (arith, k3)) (omega (arith, k4))

  encryption_room : (own : OwnCentral) → kind_at_central own ≡ Some Encrypt → room_at_central own ≡ 1
  encryption_room EncryptUnsent h = refl
  encryption_room EncryptSent h = refl
  encryption_room (exchange FeaturesUnsent) h = absurd (cc)
  encryption_room (exchange FeaturesSent) h = absurd (cc)
  encryption_room (exchange VersionUnsent) h = absurd (cc)
  encryption_room (exchange VersionSent) h = absurd (cc)
  encryption_room (exchange LengthUnsent) h = absurd (cc)
  encryption_room (exchange LengthSent) h = absurd (cc)
  encryption_room (exclusive Idle) h = absurd (cc)
  encryption_room (exclusive UpdateUnsent) h = absurd (cc)
  encryption_room (exclusive UpdateSent) h = absurd (cc)
  encryption_room (exclusive MapUnsent) h = absurd (cc)
  encryption_room (exclusive MapSent) h = absurd (cc)
  encryption_room (exclusive PhyUnsent) h = absurd (cc)
  encryption_room (exclusive PhySent) h = absurd (cc)
  encryption_room (exclusive PhyAnswered) h = absurd (cc)
  encryption_room (exclusive PhyIndicated) h = absurd (cc)

  given_c : (c : Central) (ctrl : Ctrl) → MayGive (central c) (at f (central c) Open f.version_used) key ctrl → Kept (at f (central c) Open f.version_used) key
      → Kept (owe_step (at f (central c) Open f.version_used) ctrl) (key_after_given key ctrl)
  given_c c (EncReq rand ediv skd_m iv_m) may kept =
      given_request c (EncReq rand ediv skd_m iv_m) kept may.none_waits (encryption_room c.own may.encrypts) refl refl
  given_c c PauseEncReq may kept = given_request c PauseEncReq kept may.none_waits (encryption_room c.own may.encrypts) refl refl
  given_c c PauseEncRsp may kept = given_answer (central c) (central c) key PauseEncRsp kept may (omega arith) refl refl
  given_c c StartEncRsp may kept = given_answer (central c) (central c) key StartEncRsp kept may (omega arith) refl refl
  given_c c other may kept = absurd may

  given_p : (p : Peripheral) (ctrl : Ctrl) → MayGive (peripheral p) (at f (peripheral p) Open f.version_used) key ctrl → Kept (at f (peripheral p) Open f.version_used) key
      → Kept (owe_step (at f (peripheral p) Open f.version_used) ctrl) (key_after_given key ctrl)
  given_p p (EncRsp skd_s iv_s) may kept = given_answer (peripheral p) (peripheral p) true (EncRsp skd_s iv_s) kept may (omega arith) refl refl
  given_p p PauseEncRsp may kept = given_answer (peripheral p) (peripheral p) key PauseEncRsp kept may (omega arith) refl refl
  given_p p StartEncRsp may kept = given_answer (peripheral p) (peripheral p) key StartEncRsp kept may (omega arith) refl refl
  given_p p StartEncReq may kept = given_about_key p p StartEncReq kept may (omega arith) refl refl
  given_p p (RejectExtInd opcode code) may kept =
      given_about_key p (record p { encrypting = false }) (RejectExtInd opcode code) kept may.1.asked (omega arith) refl refl
  given_p p (TerminateInd code) may kept = given_end p code kept
  given_p p other may kept = absurd may

  given_shut : (p : Progress) (closing : Closing) (ctrl : Ctrl) → is_open closing ≡ false → Kept (at f p closing f.version_used) key
      → Kept (owe_step (at f p closing f.version_used) ctrl) (key_after_given key ctrl)
  given_shut p closing ctrl shut kept =
      let k1 = kept.bound in
      let k2 = kept.own in
      let k3 = kept.version in
      let k4 = kept.end in
      let queue : with_draft closing (Cipher ctrl) f.queue ≡ f.queue = rw shut refl in
      let counts : Counts f.queue (with_draft closing (Cipher ctrl) f.queue) 0 0 0 0 = rw queue (same f.queue) in
      let room = given_room p in
      let ends = given_closing ctrl closing in
      let none : count_if (is_open (closing_given ctrl closing) && is_asked (progress_given p ctrl) (key_after_given key ctrl)) ≡ 0 = rw (given_stays ctrl closing shut) refl in
      kept_by (at f p closing f.version_used) (owe_step (at f p closing f.version_used) ctrl) key (key_after_given key ctrl) 0 0 0 0 kept counts
      (omega (arith, none)) (omega (arith, k2, room)) (omega (arith, k3)) (omega (arith, k4, ends))
    where
      given_room : (p : Progress) → own_room p ≤ own_room (progress_given p ctrl)
      given_room (central c) = omega arith
      given_room (peripheral q) = by (is_rejection ctrl)
        where
          by : (b : Bool) → room_at_peripheral q.own ≤ own_room (if b then peripheral (record q { encrypting = false }) else peripheral q)
          by true = omega arith
          by false = omega arith

      given_closing : (ctrl : Ctrl) (closing : Closing) → count_if (not (is_open closing)) ≤ count_if (not (is_open (closing_given ctrl closing)))
      given_closing (TerminateInd code) Open = omega arith
      given_closing (TerminateInd code) Closed = omega arith
      given_closing (TerminateInd code) Disconnecting = omega arith
      given_closing other closing = omega arith

      given_stays : (ctrl : Ctrl) (closing : Closing) → is_open closing ≡ false → is_open (closing_given ctrl closing) ≡ false
      given_stays (TerminateInd code) Open h = absurd (cc)
      given_stays (TerminateInd code) Closed h = refl
      given_stays (TerminateInd code) Disconnecting h = refl
      given_stays other closing h = h

  pub given_by : (p : Progress) (closing : Closing) (ctrl : Ctrl) → (is_open closing ≡ true → MayGive p (at f p closing f.version_used) key ctrl) → Kept (at f p closing f.version_used) key
      → Kept (owe_step (at f p closing f.version_used) ctrl) (key_after_given key ctrl)
  given_by (central c) Open ctrl may kept = given_c c ctrl (may refl) kept
  given_by (peripheral p) Open ctrl may kept = given_p p ctrl (may refl) kept
  given_by p Closed ctrl may kept = given_shut p Closed ctrl refl kept
  given_by p Disconnecting ctrl may kept = given_shut p Disconnecting ctrl refl kept
