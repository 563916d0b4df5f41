-- Outside Clear and Secure a central runs its encryption alone, and beside a kept PDU only that waits.
use Rattle.std.proofs.Common.{◌≡◌, ℕ, ◌+◌, ◌≤◌, Bool, true, false, not, List, [], ◌∷◌, ◌++◌, length, remove, Option, Some, None, Result, Ok, Err, is_some, if◌then◌else◌, refl, ap, sym, ◌∙◌, subst, arith}
use Rattle.ble_base.specs.declared.error_codes.ErrCode.{ErrCode}
use Rattle.ble_base.specs.declared.procedure_kinds.Kind.{Kind}
use Rattle.ble_base.specs.declared.procedure_kinds.Kind.TheVariants.{Encrypt}
use Rattle.ble_base.specs.declared.roles.Role.{Role}
use Rattle.ble_base.specs.declared.roles.Role.TheVariants.{Central as central_role, Peripheral as peripheral_role}
use Rattle.data_pdu.specs.declared.ctrl.Ctrl.{Ctrl}
use Rattle.data_pdu.specs.declared.ctrl.Ctrl.TheVariants.{EncReq, EncRsp, PauseEncReq, PauseEncRsp, RejectExtInd, RejectInd, StartEncReq, StartEncRsp, TerminateInd, UnknownRsp}
use Rattle.data_pdu.specs.declared.ctrl.CtrlRead.{CtrlRead}
use Rattle.data_pdu.specs.declared.ctrl.CtrlRead.TheVariants.{Known, Unknown, Bare}
use Rattle.procedures.specs.procedure_values.declared.asks.Ask.{Ask}
use Rattle.procedures.specs.procedure_values.declared.asks.Ask.TheVariants.{Update as ask_update, Request as ask_request, Map as ask_map, Phy as ask_phy, Features as ask_features, Version as ask_version, Length as ask_length, Encrypt as ask_encrypt}
use Rattle.procedures.specs.procedure_values.declared.drafts.Draft.{Draft}
use Rattle.procedures.specs.procedure_values.declared.drafts.Draft.TheVariants.{Cipher, FeatureReq, FeatureRsp, Grant, LengthReq, LengthRsp, Map, PeripheralFeatureReq, PhyInd, PhyReq, PhyRsp, Request, UnknownRsp as unknown_rsp, Update, VersionInd}
use Rattle.procedures.specs.procedure_values.declared.drafts.Outgoing.{Outgoing}
use Rattle.procedures.specs.procedure_values.declared.drafts.Outgoing.TheVariants.{Disconnect, Nothing, Other, Rejection}
use Rattle.procedures.specs.procedure_values.declared.drafts.Rejection.{Rejection as TheRejection}
use Rattle.procedures.specs.procedure_values.declared.values.NewParams.{NewParams}
use Rattle.procedures.specs.procedure_stages.declared.closing.Closing.{Closing}
use Rattle.procedures.specs.procedure_stages.declared.reply.Reply.{Reply}
use Rattle.procedures.specs.procedure_stages.declared.reply.Reply.TheVariants.{Nothing as no_reply, Reject, Answer}
use Rattle.procedures.specs.procedure_stages.Closing.{is_open}
use Rattle.procedures.specs.procedure_stages.Kinds.{begins, kind_at_central, own_kind, role_of, without_own}
use Rattle.procedures.specs.procedure_values.Asks.{kind_of_ask}
use Rattle.procedures.specs.procedure_stages.Queue.{QueueFacts, with_reply, without_next}
use Rattle.exclusive_stages.specs.declared.stages.PeerAtCentral.{PeerAtCentral}
use Rattle.exclusive_stages.specs.declared.stages.PeerAtCentral.TheVariants.{Absent}
use Rattle.procedures.specs.procedure_stages.declared.steps.Effect.TheVariants.{Cipher as CipherEffect}
use Rattle.procedures.specs.Encryption.{cipher_at_central, start_rsp_at_central}
use Rattle.procedures.specs.Outcomes.{moved, unchanged, with_done, with_effect}
use Rattle.procedures.specs.Refusals.{refused_if}
use Rattle.procedures.specs.declared.outcome.Outcome.{Outcome}
use Rattle.procedures.specs.procedure_stages.declared.stages.Central.{Central}
use Rattle.procedures.specs.procedure_stages.declared.stages.OwnCentral.{OwnCentral}
use Rattle.procedures.specs.procedure_stages.declared.stages.OwnCentral.TheVariants.{Exclusive as exclusive, EncryptSent, EncryptUnsent, Exchange as exchange}
use Rattle.exclusive_stages.specs.declared.stages.CentralStage.TheVariants.{Idle}
use Rattle.procedures.specs.procedure_stages.declared.stages.Progress.{Progress}
use Rattle.procedures.specs.procedure_stages.declared.stages.Progress.TheVariants.{Central as central, Peripheral as peripheral}
use Rattle.procedures.specs.procedure_stages.declared.steps.Step.{Step}
use Rattle.procedures.specs.procedure_stages.Awaited.{is_own_encryption}
use Rattle.procedures.specs.procedure_stages.Begun.{feature_draft, progress_begun, version_draft}
use Rattle.procedures.specs.Beginning.{ask_at, begin_at, begin_step, facts_begun, first_draft, place_to_begin, with_first_draft}
use Rattle.procedures.specs.Calls.{Call, after_call, after_calls, asks, begins_one, disconnects, enters, host_answers, is_acked, is_given, sends, takes}
use Rattle.procedures.specs.Going.{host_answer_step, owe_step}
use Rattle.procedures.specs.Queue.{next_of}
use Rattle.procedures.specs.Table.{TableFacts, first_facts}
use Rattle.procedures.specs.procedure_stages.Acked.{central_acked, progress_acked}
use Rattle.exclusive_stages.specs.Acked.{peer_acked_at_central}
use Rattle.exclusive_stages.specs.declared.pdus.Pdu.{Pdu}
use Rattle.exclusive_stages.specs.declared.pdus.Pdu.TheVariants.{PhyInd as PhyIndPdu}
use Rattle.procedures.specs.procedure_stages.Held.{progress_held}
use Rattle.exclusive_stages.specs.Held.{peer_held_at_central}
use Rattle.procedures.specs.procedure_stages.InProgress.{has_peer, is_host_asked}
use Rattle.exclusive_stages.specs.Kinds.{has_peer_at_central, is_host_asked_at_central}
use Rattle.procedures.specs.procedure_stages.Sent.{peer_draft_sent_by_central, progress_after_sending}
use Rattle.procedures.specs.Encryption.{progress_given}
use Rattle.procedures.specs.Taking.{facts_with, lacks_room, outcome_of, taken_by, took_step}
use Rattle.table_laws.specs.Exclusive.{AllKeepRules}
use Rattle.table_laws.specs.Quiet.{AllMeanwhile, IsMeanwhile, IsTakenMeanwhile, MayKeep, PassesPhase, first_pdus_waiting, is_answer_pdu, is_encryption_pdu, is_first_pdu, is_other_pdu, is_unquiet, others_waiting}
use Rattle.table_laws.specs.Encrypting.{MayBeginBy, has_encryption}
use Rattle.table_laws.specs.Pasts.{May, MayAll, MayGive, MayGiveAtCentral, is_key_asked, key_after_call, key_after_calls}
use Rattle.table_laws.specs.Waiting.{count_if, is_own_request, number_of, own_waiting}
use Rattle.table_laws.proofs.Begun.{Begins, begins_of, no_room}
use Rattle.table_laws.proofs.Bounds.{first_kept, keeps}
use Rattle.table_laws.proofs.OneAtATime.{alone_after}
use Rattle.table_laws.proofs.Roles.{Sends, first_sends, keeps as keeps_sends}
use Rattle.table_laws.proofs.Encrypting.{begins_by}
use Rattle.table_laws.proofs.Kept.{Kept}
use Rattle.table_laws.proofs.Numbers.{number-push}
use Rattle.table_laws.proofs.Outcomes.{is_answer, is_reply, took}
use Rattle.procedures.specs.procedure_stages.Exclusive.{pdu_of_draft, pdu_of_outgoing}

-- ---- drafts that pass a test, in a queue that changes

module _ (test : Draft → Bool) where
  drafts_more : (b : Bool) (queue : QueueFacts) (draft : Draft) → test draft ≡ false
      → number_of test (if b then record queue { drafts = queue.drafts ++ draft ∷ [] } else queue).drafts ≤ number_of test queue.drafts
  drafts_more true queue draft no_one =
      let h = number-push test queue.drafts draft in
      let none : count_if (test draft) ≡ 0 = ap count_if no_one in
      omega (arith, h, none)
  drafts_more false queue draft no_one = omega arith

  rejections_more : (b : Bool) (queue : QueueFacts) (rejection : TheRejection)
      → number_of test (if b then record queue { rejections = queue.rejections ++ rejection ∷ [] } else queue).drafts ≤ number_of test queue.drafts
  rejections_more true queue rejection = omega arith
  rejections_more false queue rejection = omega arith

  end_more : (b : Bool) (queue : QueueFacts) (code : ErrCode)
      → number_of test (if b then record queue { disconnect = Some code } else queue).drafts ≤ number_of test queue.drafts
  end_more true queue code = omega arith
  end_more false queue code = omega arith

  first_gone : (drafts : List Draft) → number_of test (remove drafts 0) ≤ number_of test drafts
  first_gone [] = omega arith
  first_gone (draft ∷ drafts) = omega arith

  sent_less : (out : Outgoing) (queue : QueueFacts) → number_of test (without_next out queue).drafts ≤ number_of test queue.drafts
  sent_less Nothing queue = omega arith
  sent_less (Rejection rejection) queue = omega arith
  sent_less (Disconnect code) queue = omega arith
  sent_less (Other draft) queue = first_gone queue.drafts

-- a test that no answer passes
record NoAnswer (test : Draft → Bool) : Type 0 where
  features : test FeatureRsp ≡ false
  version : test VersionInd ≡ false
  length : (rx tx : ℕ) → test (LengthRsp rx tx) ≡ false
  unknown : (opcode : ℕ) → test (unknown_rsp opcode) ≡ false
  grant : (params : NewParams) → test (Grant params) ≡ false
  phy_ind : test PhyInd ≡ false
  phy_rsp : test PhyRsp ≡ false

module _ (test : Draft → Bool) (none : NoAnswer test) where
  no_answer : (role : Role) (used : Bool) (d : Draft) → is_answer role used d ≡ true → test d ≡ false
  no_answer role used FeatureRsp is = none.features
  no_answer role used VersionInd is = none.version
  no_answer role used (LengthRsp rx tx) is = none.length rx tx
  no_answer role used (unknown_rsp opcode) is = none.unknown opcode
  no_answer role used PhyInd is = none.phy_ind
  no_answer role used PhyRsp is = none.phy_rsp
  no_answer role used d is = absurd (cc)

  reply_less : (role : Role) (used : Bool) (closing : Closing) (reply : Reply) (queue : QueueFacts) → is_reply role used reply ≡ true
      → number_of test (with_reply closing reply queue).drafts ≤ number_of test queue.drafts
  reply_less role used closing no_reply queue is = omega arith
  reply_less role used closing (Reject rejection) queue is = rejections_more test (is_open closing) queue rejection
  reply_less role used closing (Answer draft) queue is = drafts_more test (is_open closing) queue draft (no_answer role used draft is)

  -- ---- call by call, but for those by which a procedure begins

  abbrev settled_of : Bool → Bool → TableFacts → TableFacts → Step → Step → Step → TableFacts × Step
  settled_of a b f g x y z = (if a then (f, x) else (if b then (f, y) else (g, z)))

  settled_less : (a b : Bool) (f g : TableFacts) (x y z : Step) → number_of test g.queue.drafts ≤ number_of test f.queue.drafts
      → number_of test (settled_of a b f g x y z).0.queue.drafts ≤ number_of test f.queue.drafts
  settled_less true b f g x y z less = omega arith
  settled_less false true f g x y z less = omega arith
  settled_less false false f g x y z less = less

  takes_less : (f : TableFacts) (read : CtrlRead) (slot : ℕ) (quiet : Bool)
      → number_of test (took_step f read slot quiet).0.queue.drafts ≤ number_of test f.queue.drafts
  takes_less f read slot quiet =
      let o = outcome_of f quiet read in
      settled_less (lacks_room f o) (is_some o.step.ends) f (facts_with f slot o) _ _ _
      (reply_less (role_of f.progress) f.version_used f.closing o.reply f.queue (took f quiet read).reply)

  answers_less : (f : TableFacts) (answer : Result Ask ErrCode)
      → number_of test (host_answer_step f answer).queue.drafts ≤ number_of test f.queue.drafts
  answers_less f (Ok (ask_update interval latency timeout)) =
      drafts_more test (is_open f.closing) f.queue (Grant (record { interval = interval; latency = latency; timeout = timeout }))
      (none.grant (record { interval = interval; latency = latency; timeout = timeout }))
  answers_less f (Ok (ask_request min max latency timeout)) = omega arith
  answers_less f (Ok (ask_map map)) = omega arith
  answers_less f (Ok ask_phy) = omega arith
  answers_less f (Ok ask_features) = omega arith
  answers_less f (Ok ask_version) = omega arith
  answers_less f (Ok (ask_length tx)) = omega arith
  answers_less f (Ok (ask_encrypt rand ediv ltk skd_m iv_m)) = omega arith
  answers_less f (Err code) = rejections_more test (is_open f.closing) f.queue _

  -- a PDU of the encryption is queued, only where the link is not to end
  given_less : (f : TableFacts) (ctrl : Ctrl) → (is_open f.closing ≡ true → test (Cipher ctrl) ≡ false)
      → number_of test (owe_step f ctrl).queue.drafts ≤ number_of test f.queue.drafts
  given_less f ctrl passes = by (is_open f.closing) passes
    where
      by : (b : Bool) → (b ≡ true → test (Cipher ctrl) ≡ false)
          → number_of test (if b then record f.queue { drafts = f.queue.drafts ++ Cipher ctrl ∷ [] } else f.queue).drafts ≤ number_of test f.queue.drafts
      by true h = drafts_more test true f.queue (Cipher ctrl) (h refl)
      by false h = omega arith

  -- ---- a procedure begins

  -- its first PDU does not pass the test
  begun_less : (f : TableFacts) (slot : ℕ) (ask : Ask) (wanted : List Ask) → ((d : Draft) → first_draft f ask ≡ Some d → test d ≡ false)
      → number_of test (facts_begun f slot ask wanted).queue.drafts ≤ number_of test f.queue.drafts
  begun_less f slot ask wanted passes = by (first_draft f ask) passes
    where
      by : (first : Option Draft) → ((d : Draft) → first ≡ Some d → test d ≡ false)
          → number_of test (with_first_draft f.closing first f.queue).drafts ≤ number_of test f.queue.drafts
      by None h = omega arith
      by (Some d) h = drafts_more test (is_open f.closing) f.queue d (h d refl)

-- ---- PDUs that are of no encryption of a central

abbrev is_foreign : Draft → Bool
is_foreign (Cipher ctrl) = not (is_encryption_pdu ctrl)
is_foreign other = false

no_foreign_answer : NoAnswer is_foreign
no_foreign_answer =
    record {
      features = refl;
      version = refl;
      length = λ rx tx. refl;
      unknown = λ opcode. refl;
      grant = λ params. refl;
      phy_ind = refl;
      phy_rsp = refl;
    }

no_first_answer : NoAnswer is_first_pdu
no_first_answer =
    record {
      features = refl;
      version = refl;
      length = λ rx tx. refl;
      unknown = λ opcode. refl;
      grant = λ params. refl;
      phy_ind = refl;
      phy_rsp = refl;
    }

some_draft : (a b : Draft) → ◌≡◌ {A = Option Draft} (Some a) (Some b) → (test : Draft → Bool) → test a ≡ false → test b ≡ false
some_draft a b is test no_one = subst (λ (o : Option Draft). of_option o ≡ false) is no_one
  where
    of_option : Option Draft → Bool
    of_option None = false
    of_option (Some d) = test d

first_not_foreign : (f : TableFacts) (ask : Ask) (d : Draft) → first_draft f ask ≡ Some d → is_foreign d ≡ false
first_not_foreign f (ask_update interval latency timeout) d is = some_draft _ d is is_foreign refl
first_not_foreign f (ask_request min max latency timeout) d is = some_draft _ d is is_foreign refl
first_not_foreign f (ask_map map) d is = some_draft _ d is is_foreign refl
first_not_foreign f ask_phy d is = some_draft _ d is is_foreign refl
first_not_foreign f ask_features d is = by (role_of f.progress) d is
  where
    by : (role : Role) (d : Draft) → ◌≡◌ {A = Option Draft} (Some (feature_draft role)) (Some d) → is_foreign d ≡ false
    by central_role d is = some_draft _ d is is_foreign refl
    by peripheral_role d is = some_draft _ d is is_foreign refl
first_not_foreign f ask_version d is = by f.version_used d is
  where
    by : (used : Bool) (d : Draft) → version_draft used ≡ Some d → is_foreign d ≡ false
    by true d is = absurd (cc)
    by false d is = some_draft _ d is is_foreign refl
first_not_foreign f (ask_length tx) d is = some_draft _ d is is_foreign refl
first_not_foreign f (ask_encrypt rand ediv ltk skd_m iv_m) d is = absurd (cc)

begin_foreign : (f : TableFacts) (slot : ℕ) (place : Option ℕ) (ask : Option Ask)
    → number_of is_foreign (begin_at f slot place ask).0.queue.drafts ≤ number_of is_foreign f.queue.drafts
begin_foreign f slot None ask = omega arith
begin_foreign f slot (Some place) None = omega arith
begin_foreign f slot (Some place) (Some ask) = begun_less is_foreign no_foreign_answer f slot ask (remove f.wanted place) (first_not_foreign f ask)

-- what a central may be given is of its encryption
given_right : (p : Progress) (f : TableFacts) (key : Bool) (ctrl : Ctrl) → role_of p ≡ central_role → MayGive p f key ctrl → is_foreign (Cipher ctrl) ≡ false
given_right (central c) f key ctrl role may = by ctrl may
  where
    by : (x : Ctrl) → MayGiveAtCentral f x → is_foreign (Cipher x) ≡ false
    by (EncReq rand ediv skd_m iv_m) may = refl
    by PauseEncReq may = refl
    by PauseEncRsp may = refl
    by StartEncRsp may = refl
    by other may = absurd may
given_right (peripheral p) f key ctrl role may = absurd (cc)

call_foreign : (f : TableFacts) (key : Bool) (call : Call) → role_of f.progress ≡ central_role → May f key call
    → number_of is_foreign (after_call f call).queue.drafts ≤ number_of is_foreign f.queue.drafts
call_foreign f key (asks ask) role may = omega arith
call_foreign f key (begins_one slot quiet) role may = begin_foreign f slot _ _
call_foreign f key (takes read slot quiet) role may = takes_less is_foreign no_foreign_answer f read slot quiet
call_foreign f key (sends event skips quiet slot) role may = sent_less is_foreign (next_of f event quiet) f.queue
call_foreign f key is_acked role may = omega arith
call_foreign f key (enters true) role may = omega arith
call_foreign f key (enters false) role may = omega arith
call_foreign f key (host_answers answer) role may = answers_less is_foreign no_foreign_answer f answer
call_foreign f key (disconnects reason) role may = end_more is_foreign (is_open f.closing) f.queue reason
call_foreign f key (is_given ctrl) role may = given_less is_foreign no_foreign_answer f ctrl (λ opens. given_right f.progress f key ctrl role (may opens))

-- ---- first PDUs beside an encryption

-- an encryption of a central is its own procedure
encrypts_own : (own : OwnCentral) → is_own_encryption own ≡ true → kind_at_central own ≡ Some Encrypt
encrypts_own EncryptUnsent is = refl
encrypts_own EncryptSent is = refl
encrypts_own (exchange stage) is = absurd (cc)
encrypts_own own is = absurd (cc)

encrypts_kind : (p : Progress) → role_of p ≡ central_role → has_encryption p ≡ true → own_kind p ≡ Some Encrypt
encrypts_kind (central c) role is = encrypts_own c.own is
encrypts_kind (peripheral p) role is = absurd (cc)

-- a procedure may begin by the call
abbrev IsBegin : Call → Type 0
IsBegin (begins_one slot quiet) = Unit {0}
IsBegin other = ⊥

-- none of them waits
abbrev NoFirst : TableFacts → Type 0
NoFirst f = has_encryption f.progress ≡ true → number_of is_first_pdu f.queue.drafts ≡ 0

less_none : (a b : ℕ) → a ≤ b → b ≡ 0 → a ≡ 0
less_none a b less none = omega (arith, less, none)

first_within : (drafts : List Draft) → number_of is_first_pdu drafts ≤ number_of is_own_request drafts
first_within [] = omega arith
first_within (d ∷ drafts) = let h = first_within drafts in let one = by d in omega (arith, h, one)
  where
    by : (d : Draft) → count_if (is_first_pdu d) ≤ count_if (is_own_request d)
    by (Update params) = omega arith
    by (Map map) = omega arith
    by (Request min max latency timeout) = omega arith
    by PhyReq = omega arith
    by FeatureReq = omega arith
    by PeripheralFeatureReq = omega arith
    by (LengthReq rx tx) = omega arith
    by (Cipher ctrl) = omega arith
    by FeatureRsp = omega arith
    by VersionInd = omega arith
    by (LengthRsp rx tx) = omega arith
    by (unknown_rsp opcode) = omega arith
    by (Grant params) = omega arith
    by PhyInd = omega arith
    by PhyRsp = omega arith

-- an encryption begins where no request waits, and without a PDU
begun_none : (f : TableFacts) (slot : ℕ) (ask : Ask) (wanted : List Ask) (c : Central) → begins central_role (kind_of_ask ask) ≡ true → own_waiting f ≡ 0
    → has_encryption (progress_begun ask f.version_used (central c)) ≡ true → number_of is_first_pdu (facts_begun f slot ask wanted).queue.drafts ≡ 0
begun_none f slot (ask_encrypt rand ediv ltk skd_m iv_m) wanted c role none is = less_none _ _ (first_within f.queue.drafts) none
begun_none f slot (ask_request min max latency timeout) wanted c role none is = absurd (cc)
begun_none f slot (ask_update interval latency timeout) wanted c role none is = absurd (cc)
begun_none f slot (ask_map map) wanted c role none is = absurd (cc)
begun_none f slot ask_phy wanted c role none is = absurd (cc)
begun_none f slot ask_features wanted c role none is = absurd (cc)
begun_none f slot ask_version wanted c role none is = absurd (cc)
begun_none f slot (ask_length tx) wanted c role none is = absurd (cc)

none_and_some : (kind : Option Kind) → kind ≡ None → kind ≡ Some Encrypt → ⊥
none_and_some None none some = absurd (cc)
none_and_some (Some kind) none some = absurd (cc)

begin_first : (f : TableFacts) (slot : ℕ) (quiet key : Bool) (place : Option ℕ) (ask : Option Ask) → place_to_begin f quiet ≡ place → ask_at place f.wanted ≡ ask
    → role_of f.progress ≡ central_role → Kept f key → NoFirst f → NoFirst (begin_at f slot place ask).0
begin_first f slot quiet key None ask p a role kept first = first
begin_first f slot quiet key (Some place) None p a role kept first = first
begin_first f slot quiet key (Some place) (Some ask) p a role kept first =
    let may = begins_of f quiet place ask p a in
    let room = no_room f.progress may.none in
    let own = kept.own in
    by f.progress refl may (omega (arith, room, own))
  where
    by : (q : Progress) → f.progress ≡ q → Begins f quiet ask → own_waiting f ≡ 0 → NoFirst (facts_begun f slot ask (remove f.wanted place))
    by (central c) is may none =
        λ has. begun_none f slot ask (remove f.wanted place) c (subst (λ (x : Progress). begins (role_of x) (kind_of_ask ask) ≡ true) is may.role) none
        (subst (λ (x : Progress). has_encryption (progress_begun ask f.version_used x) ≡ true) is has)
    by (peripheral x) is may none = absurd (not_both (subst (λ (y : Progress). role_of y ≡ central_role) is role))
      where
        not_both : peripheral_role ≡ central_role → ⊥
        not_both e = absurd (cc)

-- a call by which no encryption begins adds none
kept_first : (f g : TableFacts) → NoFirst f → (has_encryption g.progress ≡ true → has_encryption f.progress ≡ true)
    → number_of is_first_pdu g.queue.drafts ≤ number_of is_first_pdu f.queue.drafts → NoFirst g
kept_first f g first was less has = less_none _ _ less (first (was has))

-- it was in progress before such a call
was_in_progress : (f : TableFacts) (call : Call) → role_of f.progress ≡ central_role → (MayBeginBy f.progress call → ⊥)
    → has_encryption (after_call f call).progress ≡ true → has_encryption f.progress ≡ true
was_in_progress f call role never after = by (has_encryption f.progress) refl
  where
    by : (b : Bool) → has_encryption f.progress ≡ b → has_encryption f.progress ≡ true
    by true is = is
    by false is = absurd (never (begins_by f call is after))

-- at a central only `begins_one` begins one
never_by : (p : Progress) (call : Call) → role_of p ≡ central_role → MayBeginBy p call → IsBegin call
never_by (central c) (begins_one slot quiet) role may = tt
never_by (central c) call role may = absurd may
never_by (peripheral p) call role may = absurd (cc)

call_first : (f : TableFacts) (key : Bool) (call : Call) → role_of f.progress ≡ central_role → Kept f key → NoFirst f → NoFirst (after_call f call)
call_first f key (begins_one slot quiet) role kept first = begin_first f slot quiet key _ _ refl refl role kept first
call_first f key (asks ask) role kept first = first
call_first f key (takes read slot quiet) role kept first =
    kept_first f (after_call f (takes read slot quiet)) first (was_in_progress f (takes read slot quiet) role (never_by f.progress (takes read slot quiet) role))
    (takes_less is_first_pdu no_first_answer f read slot quiet)
call_first f key (sends event skips quiet slot) role kept first =
    kept_first f (after_call f (sends event skips quiet slot)) first (was_in_progress f (sends event skips quiet slot) role (never_by f.progress (sends event skips quiet slot) role))
    (sent_less is_first_pdu (next_of f event quiet) f.queue)
call_first f key is_acked role kept first =
    kept_first f (after_call f is_acked) first (was_in_progress f is_acked role (never_by f.progress is_acked role)) (omega arith)
call_first f key (enters true) role kept first =
    kept_first f (after_call f (enters true)) first (was_in_progress f (enters true) role (never_by f.progress (enters true) role)) (omega arith)
call_first f key (enters false) role kept first = first
call_first f key (host_answers answer) role kept first =
    kept_first f (after_call f (host_answers answer)) first (was_in_progress f (host_answers answer) role (never_by f.progress (host_answers answer) role))
    (answers_less is_first_pdu no_first_answer f answer)
call_first f key (disconnects reason) role kept first =
    kept_first f (after_call f (disconnects reason)) first (was_in_progress f (disconnects reason) role (never_by f.progress (disconnects reason) role))
    (end_more is_first_pdu (is_open f.closing) f.queue reason)
call_first f key (is_given ctrl) role kept first =
    kept_first f (after_call f (is_given ctrl)) first (was_in_progress f (is_given ctrl) role (never_by f.progress (is_given ctrl) role))
    (given_less is_first_pdu no_first_answer f ctrl (λ opens. refl))

-- ---- over all calls

record Held (f : TableFacts) (key : Bool) : Type 0 where
  sends_it : Sends central_role f
  kept : Kept f key
  first : NoFirst f
  foreign : number_of is_foreign f.queue.drafts ≡ 0

held_all : (f : TableFacts) (key : Bool) (calls : List Call) → Held f key → MayAll f key calls → Held (after_calls f calls) (key_after_calls key calls)
held_all f key [] held may = held
held_all f key (call ∷ calls) held may =
    held_all (after_call f call) (key_after_call key call) calls
    (record {
      sends_it = keeps_sends central_role f key call held.sends_it may.0;
      kept = keeps f key call held.kept may.0;
      first = call_first f key call held.sends_it.same_role held.kept held.first;
      foreign = less_none _ _ (call_foreign f key call held.sends_it.same_role may.0) held.foreign;
    }) may.1

held_after : (max_rx : ℕ) (calls : List Call) → MayAll (first_facts central_role max_rx) false calls
    → Held (after_calls (first_facts central_role max_rx) calls) (is_key_asked calls)
held_after max_rx calls may =
    held_all (first_facts central_role max_rx) false calls
    (record { sends_it = first_sends central_role max_rx; kept = first_kept central_role max_rx; first = λ has. absurd (cc); foreign = refl }) may

-- ---- outside Clear and Secure

passed : (quiet has : Bool) → quiet ≡ not has → not quiet ≡ true → has ≡ true
passed quiet true phase is = refl
passed true false phase is = absurd (cc)
passed false false phase is = absurd (cc)

-- the phase that is passed says that the encryption runs
unquiet_by : (f : TableFacts) (call : Call) → PassesPhase f call → is_unquiet call ≡ true → has_encryption f.progress ≡ true
unquiet_by f (begins_one slot quiet) phase is = passed quiet (has_encryption f.progress) phase is
unquiet_by f (takes read slot quiet) phase is = passed quiet (has_encryption f.progress) phase is
unquiet_by f (sends event skips quiet slot) phase is = passed quiet (has_encryption f.progress) phase is
unquiet_by f (asks ask) phase is = absurd (cc)
unquiet_by f is_acked phase is = absurd (cc)
unquiet_by f (enters applied) phase is = absurd (cc)
unquiet_by f (host_answers answer) phase is = absurd (cc)
unquiet_by f (disconnects reason) phase is = absurd (cc)
unquiet_by f (is_given ctrl) phase is = absurd (cc)

pub own_after : (max_rx : ℕ) (calls : List Call) (call : Call) → MayAll (first_facts central_role max_rx) false calls
    → PassesPhase (after_calls (first_facts central_role max_rx) calls) call → is_unquiet call ≡ true
    → own_kind (after_calls (first_facts central_role max_rx) calls).progress ≡ Some Encrypt
own_after max_rx calls call may phase is =
    let f = after_calls (first_facts central_role max_rx) calls in
    encrypts_kind f.progress (held_after max_rx calls may).sends_it.same_role (unquiet_by f call phase is)

pub peer_after : (max_rx : ℕ) (calls : List Call) (call : Call) → MayAll (first_facts central_role max_rx) false calls
    → AllKeepRules (first_facts central_role max_rx) calls
    → PassesPhase (after_calls (first_facts central_role max_rx) calls) call → is_unquiet call ≡ true
    → has_peer (after_calls (first_facts central_role max_rx) calls).progress ≡ false
peer_after max_rx calls call may rules phase is = alone_after max_rx calls Encrypt may rules (own_after max_rx calls call may phase is) refl

pub first_after : (max_rx : ℕ) (calls : List Call) (call : Call) → MayAll (first_facts central_role max_rx) false calls
    → PassesPhase (after_calls (first_facts central_role max_rx) calls) call → is_unquiet call ≡ true
    → first_pdus_waiting (after_calls (first_facts central_role max_rx) calls) ≡ 0
first_after max_rx calls call may phase is =
    let f = after_calls (first_facts central_role max_rx) calls in
    (held_after max_rx calls may).first (unquiet_by f call phase is)

-- nothing begins where an encryption runs
begin_none : (f : TableFacts) (slot : ℕ) (quiet : Bool) (place : Option ℕ) (ask : Option Ask) → place_to_begin f quiet ≡ place → ask_at place f.wanted ≡ ask
    → own_kind f.progress ≡ Some Encrypt → begin_at f slot place ask ≡ (f, None)
begin_none f slot quiet None ask p a own = refl
begin_none f slot quiet (Some place) None p a own = refl
begin_none f slot quiet (Some place) (Some ask) p a own = absurd (none_and_some (own_kind f.progress) (begins_of f quiet place ask p a).none own)

pub begins_none_after : (max_rx : ℕ) (calls : List Call) (call : Call) (slot : ℕ) (quiet : Bool) → MayAll (first_facts central_role max_rx) false calls
    → PassesPhase (after_calls (first_facts central_role max_rx) calls) call → is_unquiet call ≡ true
    → begin_step (after_calls (first_facts central_role max_rx) calls) slot quiet ≡ (after_calls (first_facts central_role max_rx) calls, None)
begins_none_after max_rx calls call slot quiet may phase is =
    begin_none (after_calls (first_facts central_role max_rx) calls) slot quiet _ _ refl refl (own_after max_rx calls call may phase is)

-- ---- beside a kept PDU

-- of the drafts that wait
others_within : (drafts : List Draft)
    → number_of is_other_pdu drafts ≤ number_of is_first_pdu drafts + number_of is_answer_pdu drafts + number_of is_foreign drafts
others_within [] = omega arith
others_within (d ∷ drafts) = let h = others_within drafts in let one = by d in omega (arith, h, one)
  where
    by : (d : Draft) → count_if (is_other_pdu d) ≤ count_if (is_first_pdu d) + count_if (is_answer_pdu d) + count_if (is_foreign d)
    by (Update params) = omega arith
    by (Map map) = omega arith
    by (Request min max latency timeout) = omega arith
    by PhyReq = omega arith
    by FeatureReq = omega arith
    by PeripheralFeatureReq = omega arith
    by (LengthReq rx tx) = omega arith
    by (Cipher ctrl) = omega arith
    by FeatureRsp = omega arith
    by VersionInd = omega arith
    by (LengthRsp rx tx) = omega arith
    by (unknown_rsp opcode) = omega arith
    by (Grant params) = omega arith
    by PhyInd = omega arith
    by PhyRsp = omega arith

kept_alone : (f : TableFacts) (key : Bool) → Held f key → MayKeep f → others_waiting f ≡ 0
kept_alone f key held keeps =
    let within = others_within f.queue.drafts in
    let first = held.first keeps.encrypts in
    let foreign = held.foreign in
    let owes = keeps.owes_nothing in
    omega (arith, within, first, foreign, owes)

-- ---- the calls while it is kept

-- rejections that wait
rejections_gone : (rs : List TheRejection) → length (remove rs 0) ≤ length rs
rejections_gone [] = omega arith
rejections_gone (r ∷ rs) = omega arith

others_sent : (out : Outgoing) (queue : QueueFacts)
    → length (without_next out queue).rejections + number_of is_other_pdu (without_next out queue).drafts ≤ length queue.rejections + number_of is_other_pdu queue.drafts
others_sent Nothing queue = omega arith
others_sent (Rejection rejection) queue = let h = rejections_gone queue.rejections in omega (arith, h)
others_sent (Disconnect code) queue = omega arith
others_sent (Other draft) queue = let h = first_gone is_other_pdu queue.drafts in omega (arith, h)

others_given : (b : Bool) (queue : QueueFacts) (ctrl : Ctrl) → (b ≡ true → is_other_pdu (Cipher ctrl) ≡ false)
    → number_of is_other_pdu (if b then record queue { drafts = queue.drafts ++ Cipher ctrl ∷ [] } else queue).drafts ≤ number_of is_other_pdu queue.drafts
others_given true queue ctrl h = drafts_more is_other_pdu true queue (Cipher ctrl) (h refl)
others_given false queue ctrl h = omega arith

given_rejections : (b : Bool) (queue : QueueFacts) (draft : Draft)
    → length (if b then record queue { drafts = queue.drafts ++ draft ∷ [] } else queue).rejections ≤ length queue.rejections
given_rejections true queue draft = omega arith
given_rejections false queue draft = omega arith

end_rejections : (b : Bool) (queue : QueueFacts) (code : ErrCode)
    → length (if b then record queue { disconnect = Some code } else queue).rejections ≤ length queue.rejections
end_rejections true queue code = omega arith
end_rejections false queue code = omega arith

-- a central to which nothing of the peripheral is left
abbrev HasNoPeer : Progress → Type 0
HasNoPeer (central c) = c.peer ≡ Absent
HasNoPeer (peripheral p) = ⊥

-- a PDU that is taken meanwhile is not answered
record IsUnanswered (o : Outcome) : Type 0 where
  reply : o.reply ≡ no_reply
  peer : HasNoPeer o.progress

module _ (f : TableFacts) (c : Central) (is : f.progress ≡ central c) (absent : c.peer ≡ Absent) where
  unchanged_none : IsUnanswered (unchanged f)
  unchanged_none = record { reply = refl; peer = subst (λ (p : Progress). HasNoPeer p) (sym is) absent }

  without_none : (p : Progress) → HasNoPeer p → HasNoPeer (without_own p)
  without_none (central x) none = none
  without_none (peripheral x) none = none

  refused_none : (b : Bool) (code : ErrCode) → IsUnanswered (refused_if b f code)
  refused_none true code = record { reply = refl; peer = without_none f.progress (subst (λ (p : Progress). HasNoPeer p) (sym is) absent) }
  refused_none false code = unchanged_none

  cipher_none : (quiet : Bool) (ctrl : Ctrl) → IsUnanswered (cipher_at_central f c quiet ctrl)
  cipher_none true ctrl = unchanged_none
  cipher_none false ctrl = record { reply = refl; peer = subst (λ (p : Progress). HasNoPeer p) (sym is) absent }

  secured_none : (ctrl : Ctrl) (b : Bool)
      → IsUnanswered (with_effect (CipherEffect ctrl) (if b then with_done Encrypt (moved f (central (record c { own = exclusive Idle }))) else unchanged f))
  secured_none ctrl true = record { reply = refl; peer = absent }
  secured_none ctrl false = record { reply = refl; peer = subst (λ (p : Progress). HasNoPeer p) (sym is) absent }

  start_none : (quiet : Bool) (ctrl : Ctrl) → IsUnanswered (start_rsp_at_central f c quiet ctrl)
  start_none true ctrl = unchanged_none
  start_none false ctrl = secured_none ctrl (is_own_encryption c.own)

  ctrl_none : (quiet : Bool) (ctrl : Ctrl) → IsTakenMeanwhile (Known ctrl) → IsUnanswered (taken_by (central c) f quiet ctrl)
  ctrl_none quiet (EncRsp skd_s iv_s) may = cipher_none quiet (EncRsp skd_s iv_s)
  ctrl_none quiet StartEncReq may = cipher_none quiet StartEncReq
  ctrl_none quiet StartEncRsp may = start_none quiet StartEncRsp
  ctrl_none quiet PauseEncRsp may = cipher_none quiet PauseEncRsp
  ctrl_none quiet (UnknownRsp opcode) may = refused_none _ _
  ctrl_none quiet (RejectInd code) may = refused_none _ _
  ctrl_none quiet (RejectExtInd opcode code) may = refused_none _ _
  ctrl_none quiet (TerminateInd code) may = record { reply = refl; peer = subst (λ (p : Progress). HasNoPeer p) (sym is) absent }
  ctrl_none quiet ctrl may = absurd may

read_none : (f : TableFacts) (quiet : Bool) (read : CtrlRead) → HasNoPeer f.progress → IsTakenMeanwhile read → IsUnanswered (outcome_of f quiet read)
read_none f quiet (Known ctrl) none may = by f.progress refl none
  where
    by : (p : Progress) → f.progress ≡ p → HasNoPeer p → IsUnanswered (taken_by p f quiet ctrl)
    by (central c) is absent = ctrl_none f c is absent quiet ctrl may
    by (peripheral p) is absent = absurd absent
read_none f quiet (Unknown opcode) none may = absurd may
read_none f quiet Bare none may = absurd may

-- what is kept of the table meanwhile
record Meanwhile (f g : TableFacts) : Type 0 where
  others : others_waiting g ≤ others_waiting f
  peer : HasNoPeer g.progress

abbrev table_of : Bool → Bool → TableFacts → TableFacts → Step → Step → Step → TableFacts × Step
table_of a b f g x y z = (if a then (f, x) else (if b then (f, y) else (g, z)))

settled_meanwhile : (a b : Bool) (f g h : TableFacts) (x y z : Step) → Meanwhile f g → Meanwhile f h → Meanwhile f (table_of a b g h x y z).0
settled_meanwhile true b f g h x y z one next = one
settled_meanwhile false true f g h x y z one next = one
settled_meanwhile false false f g h x y z one next = next

same_meanwhile : (f : TableFacts) → HasNoPeer f.progress → Meanwhile f f
same_meanwhile f none = record { others = omega arith; peer = none }

reply_meanwhile : (closing : Closing) (reply : Reply) (queue : QueueFacts) → reply ≡ no_reply
    → length (with_reply closing reply queue).rejections + number_of is_other_pdu (with_reply closing reply queue).drafts ≤ length queue.rejections + number_of is_other_pdu queue.drafts
reply_meanwhile closing reply queue is = rw is (omega arith)

takes_meanwhile : (f : TableFacts) (read : CtrlRead) (slot : ℕ) (quiet : Bool) → HasNoPeer f.progress → IsTakenMeanwhile read
    → Meanwhile f (took_step f read slot quiet).0
takes_meanwhile f read slot quiet none may =
    let o = outcome_of f quiet read in
    let un = read_none f quiet read none may in
    settled_meanwhile (lacks_room f o) (is_some o.step.ends) f f (facts_with f slot o) _ _ _ (same_meanwhile f none)
    (record { others = reply_meanwhile f.closing o.reply f.queue un.reply; peer = un.peer })

-- the procedures of the peripheral, where there are none
sent_peer : (d : Draft) → peer_draft_sent_by_central (pdu_of_draft d) Absent ≡ Absent
sent_peer (Grant params) = refl
sent_peer PhyInd = refl
sent_peer d = refl

sent_none : (out : Outgoing) (event skips : ℕ) (p : Progress) → HasNoPeer p → HasNoPeer (progress_after_sending out event skips p)
sent_none (Other d) event skips (central c) none = ap (peer_draft_sent_by_central (pdu_of_draft d)) none ∙ sent_peer d
sent_none (Other d) event skips (peripheral p) none = none
sent_none Nothing event skips p none = none
sent_none (Rejection rejection) event skips p none = none
sent_none (Disconnect code) event skips p none = none

acked_none : (out : Outgoing) (p : Progress) → HasNoPeer p → HasNoPeer (progress_acked out p)
acked_none out (central c) none = by (pdu_of_outgoing out)
  where
    absent_stays : (pdu : Pdu) → peer_acked_at_central pdu Absent ≡ Absent
    absent_stays PhyIndPdu = refl
    absent_stays pdu = refl

    by : (pdu : Option Pdu) → HasNoPeer (central (central_acked pdu c))
    by (Some pdu) = ap (peer_acked_at_central pdu) none ∙ absent_stays pdu
    by None = none
acked_none out (peripheral p) none = absurd none

held_none : (p : Progress) → HasNoPeer p → HasNoPeer (progress_held p)
held_none (central c) none = ap peer_held_at_central none
held_none (peripheral p) none = absurd none

given_none : (p : Progress) (ctrl : Ctrl) → HasNoPeer p → HasNoPeer (progress_given p ctrl)
given_none (central c) ctrl none = none
given_none (peripheral p) ctrl none = absurd none

not_asked : (p : Progress) → HasNoPeer p → is_host_asked p ≡ true → ⊥
not_asked (central c) none asked = absurd (no_host (subst (λ (x : PeerAtCentral). is_host_asked_at_central x ≡ true) none asked))
  where
    no_host : false ≡ true → ⊥
    no_host e = absurd (cc)
not_asked (peripheral p) none asked = none

central_of_none : (p : Progress) → HasNoPeer p → role_of p ≡ central_role
central_of_none (central c) none = refl
central_of_none (peripheral p) none = absurd none

call_meanwhile : (f : TableFacts) (key : Bool) (call : Call) → HasNoPeer f.progress → May f key call → IsMeanwhile f call → Meanwhile f (after_call f call)
call_meanwhile f key (asks ask) none may now = record { others = omega arith; peer = none }
call_meanwhile f key (begins_one slot quiet) none may now =
    let role = central_of_none f.progress none in
    subst (λ (r : TableFacts × Option Kind). Meanwhile f r.0) (sym (begin_none f slot quiet _ _ refl refl (encrypts_kind f.progress role now.encrypts))) (same_meanwhile f none)
call_meanwhile f key (takes read slot quiet) none may now = takes_meanwhile f read slot quiet none now.takes_it
call_meanwhile f key (sends event skips quiet slot) none may now =
    record { others = others_sent (next_of f event quiet) f.queue; peer = sent_none (next_of f event quiet) event skips f.progress none }
call_meanwhile f key is_acked none may now = record { others = omega arith; peer = acked_none f.out f.progress none }
call_meanwhile f key (enters true) none may now = record { others = omega arith; peer = held_none f.progress none }
call_meanwhile f key (enters false) none may now = same_meanwhile f none
call_meanwhile f key (host_answers answer) none may now = absurd (not_asked f.progress none may)
call_meanwhile f key (disconnects reason) none may now =
    let a = end_rejections (is_open f.closing) f.queue reason in
    let b = end_more is_other_pdu (is_open f.closing) f.queue reason in
    record { others = omega (arith, a, b); peer = none }
call_meanwhile f key (is_given ctrl) none may now =
    let a = given_rejections (is_open f.closing) f.queue (Cipher ctrl) in
    let b = others_given (is_open f.closing) f.queue ctrl (λ opens. given_right f.progress f key ctrl (central_of_none f.progress none) (may opens)) in
    record { others = omega (arith, a, b); peer = given_none f.progress ctrl none }

meanwhile_all : (f : TableFacts) (key : Bool) (calls : List Call) → HasNoPeer f.progress → MayAll f key calls → AllMeanwhile f calls → Meanwhile f (after_calls f calls)
meanwhile_all f key [] none may now = same_meanwhile f none
meanwhile_all f key (call ∷ calls) none may now =
    let one = call_meanwhile f key call none may.0 now.0 in
    let rest = meanwhile_all (after_call f call) (key_after_call key call) calls one.peer may.1 now.1 in
    let a = one.others in
    let b = rest.others in
    record { others = omega (arith, a, b); peer = rest.peer }

no_peer : (p : Progress) → role_of p ≡ central_role → has_peer p ≡ false → HasNoPeer p
no_peer (central c) role gone = by c.peer gone
  where
    by : (peer : PeerAtCentral) → has_peer_at_central peer ≡ false → peer ≡ Absent
    by Absent gone = refl
    by other gone = absurd (cc)
no_peer (peripheral p) role gone = absurd (cc)

pub kept_after : (max_rx : ℕ) (calls later : List Call) → MayAll (first_facts central_role max_rx) false calls
    → AllKeepRules (first_facts central_role max_rx) calls → MayKeep (after_calls (first_facts central_role max_rx) calls)
    → MayAll (after_calls (first_facts central_role max_rx) calls) (is_key_asked calls) later
    → AllMeanwhile (after_calls (first_facts central_role max_rx) calls) later
    → others_waiting (after_calls (after_calls (first_facts central_role max_rx) calls) later) ≡ 0
kept_after max_rx calls later may rules keeps_it may_later now =
    let f = after_calls (first_facts central_role max_rx) calls in
    let held = held_after max_rx calls may in
    let own = encrypts_kind f.progress held.sends_it.same_role keeps_it.encrypts in
    let none = no_peer f.progress held.sends_it.same_role (alone_after max_rx calls Encrypt may rules own refl) in
    let less = (meanwhile_all f (is_key_asked calls) later none may_later now).others in
    let alone = kept_alone f (is_key_asked calls) held keeps_it in
    omega (arith, less, alone)
