-- While a procedure of the peripheral that excludes others is in progress at a central, no encryption of the central is:
-- what each step of procedures leaves of that.
use Rattle.std.proofs.Common.{◌≡◌, ◌⊎◌, inl, inr, unwrap_or, option_map, ℕ, Bool, true, false, not, ◌&&◌, ◌||◌, if◌then◌else◌, Option, Some, None, Result, Ok, Err, is_some, refl, ap, sym, ◌∙◌, List, [], ◌∷◌, ◌++◌}
use Rattle.ble_base.specs.declared.error_codes.ErrCode.{ErrCode}
use Rattle.ble_base.specs.declared.roles.Role.TheVariants.{Central as central_role}
use Rattle.data_pdu.specs.declared.ctrl.Ctrl.{Ctrl}
use Rattle.data_pdu.specs.declared.ctrl.Ctrl.TheVariants.{ConnectionParamReq, PhyReq as phy_pdu, PhyRsp as phy_rsp, RejectExtInd, RejectInd, TerminateInd, UnknownRsp}
use Rattle.data_pdu.specs.declared.ctrl.CtrlRead.{CtrlRead}
use Rattle.data_pdu.specs.declared.ctrl.CtrlRead.TheVariants.{Bare, Known, Unknown}
use Rattle.exclusive_stages.specs.declared.pdus.Pdu.{Pdu}
use Rattle.exclusive_stages.specs.declared.pdus.Pdu.TheVariants.{GrantInd, PhyInd}
use Rattle.exclusive_stages.specs.declared.stages.CentralStage.{CentralStage}
use Rattle.exclusive_stages.specs.declared.stages.CentralStage.TheVariants.{PhyAnswered}
use Rattle.exclusive_stages.specs.Awaited.{awaits_phy_rsp}
use Rattle.joint_parameters.specs.procedure_values.declared.drafts.Rejection.{Rejection as TheRejection}
use Rattle.exclusive_stages.specs.declared.stages.PeerAtCentral.{PeerAtCentral}
use Rattle.exclusive_stages.specs.declared.stages.PeerAtCentral.TheVariants.{Absent, HostAsked, GrantSent, GrantUnsent, PhyIndSent, PhyIndUnsent}
use Rattle.exclusive_stages.specs.Acked.{own_acked_at_central, peer_acked_at_central}
use Rattle.exclusive_stages.specs.Held.{own_held_at_central, peer_held_at_central}
use Rattle.exclusive_stages.specs.Kinds.{has_peer_at_central, is_host_asked_at_central}
use Rattle.joint_parameters.specs.procedure_values.declared.asks.Ask.{Ask}
use Rattle.joint_parameters.specs.procedure_values.declared.asks.Ask.TheVariants.{Encrypt as ask_encrypt, Request as ask_request, Update as ask_update}
use Rattle.joint_parameters.specs.procedure_values.declared.drafts.Draft.{Draft}
use Rattle.joint_parameters.specs.procedure_values.declared.drafts.Draft.TheVariants.{Cipher}
use Rattle.joint_parameters.specs.procedure_stages.declared.stages.Exchange.{Exchange}
use Rattle.joint_parameters.specs.procedure_values.declared.drafts.Outgoing.{Outgoing}
use Rattle.joint_parameters.specs.procedure_values.declared.drafts.Outgoing.TheVariants.{Other}
use Rattle.joint_parameters.specs.procedure_values.Asks.{kind_of_ask}
use Rattle.joint_parameters.specs.procedure_stages.declared.stages.Central.{Central}
use Rattle.joint_parameters.specs.procedure_stages.declared.stages.OwnCentral.{OwnCentral}
use Rattle.joint_parameters.specs.procedure_stages.declared.stages.OwnCentral.TheVariants.{EncryptSent, EncryptUnsent, Exchange as exchange, Exclusive as exclusive}
use Rattle.joint_parameters.specs.procedure_stages.declared.stages.Progress.{Progress}
use Rattle.joint_parameters.specs.procedure_stages.declared.stages.Progress.TheVariants.{Central as central, Peripheral as peripheral}
use Rattle.joint_parameters.specs.procedure_stages.Acked.{central_acked, progress_acked}
use Rattle.joint_parameters.specs.procedure_stages.Awaited.{is_own_encryption}
use Rattle.joint_parameters.specs.procedure_stages.Begun.{progress_begun}
use Rattle.joint_parameters.specs.procedure_stages.Collisions.{peer_lets}
use Rattle.joint_parameters.specs.procedure_stages.Exclusive.{on_central_stage, pdu_of_draft, pdu_of_outgoing}
use Rattle.joint_parameters.specs.procedure_stages.Held.{progress_held}
use Rattle.joint_parameters.specs.procedure_stages.InProgress.{has_peer, is_host_asked, peer_becomes}
use Rattle.joint_parameters.specs.procedure_stages.Kinds.{begins, role_of}
use Rattle.joint_parameters.specs.procedure_stages.Sent.{exchange_sent, exclusive_sent_by_central, own_draft_sent_by_central, peer_draft_sent_by_central, progress_after_sending}
use Rattle.joint_parameters.specs.procedure_stages.declared.steps.Step.{Step as the_step}
use Rattle.joint_parameters.specs.procedures.declared.outcome.Outcome.{Outcome}
use Rattle.joint_parameters.specs.procedures.Beginning.{ask_at, begin_at, begin_step, place_to_begin}
use Rattle.joint_parameters.specs.procedures.Calls.{takes}
use Rattle.joint_parameters.specs.procedures.Encryption.{is_rejection, progress_given}
use Rattle.joint_parameters.specs.procedures.Going.{entered_step, granted_by, host_answer_step}
use Rattle.joint_parameters.specs.procedures.Table.{TableFacts}
use Rattle.joint_parameters.specs.procedures.Taking.{facts_with, lacks_room, no_room, outcome_of, taken_by, took_step}
use Rattle.joint_parameters.specs.table_laws.Encrypting.{MayBeginBy, has_encryption}
use Rattle.joint_parameters.proofs.table_laws.Begun.{begins_of}
use Rattle.joint_parameters.proofs.table_laws.Encrypting.{begins_by}
use Rattle.joint_parameters.proofs.table_laws.Outcomes.{took as took_outcome}
use Rattle.collisions.specs.CentralTable
use Rattle.collisions.specs.declared.central.Central.{Central as TheCentral}
use Rattle.joint_collisions.specs.collision_steps.Answers.{stops_run}
use Rattle.joint_collisions.specs.collision_steps.CentralPart.{answer_to, central_of, refusal_if, step_of_read, view}
use Rattle.joint_collisions.proofs.collision_steps.CentralTaking.{no_room_left, took as took_exactly}
use Rattle.joint_laws.proofs.Common.{settled_of}

-- both at once
abbrev pub is_both : Progress → Bool
is_both (central c) = is_own_encryption c.own && has_peer_at_central c.peer
is_both (peripheral p) = false

-- ---- an event is entered

own_held : (own : OwnCentral) → is_own_encryption (on_central_stage own_held_at_central own) ≡ is_own_encryption own
own_held (exclusive stage) = refl
own_held own = refl

peer_held : (peer : PeerAtCentral) → has_peer_at_central (peer_held_at_central peer) ≡ true → has_peer_at_central peer ≡ true
peer_held GrantSent is = refl
peer_held peer is = is

-- no more of either than before
both_less : (a b c d : Bool) → a ≡ c → (b ≡ true → d ≡ true) → (c && d) ≡ false → (a && b) ≡ false
both_less a false c d same less none = by a
  where
    by : (x : Bool) → (x && false) ≡ false
    by true = refl
    by false = refl
both_less a true c d same less none = ap (λ x. x && true) same ∙ ap (λ x. c && x) (sym (less refl)) ∙ none

held_none : (p : Progress) → is_both p ≡ false → is_both (progress_held p) ≡ false
held_none (central c) none = both_less _ _ _ _ (own_held c.own) (peer_held c.peer) none
held_none (peripheral p) none = none

entered_none : (f : TableFacts) (applied : Bool) → is_both f.progress ≡ false → is_both (entered_step f applied).0.progress ≡ false
entered_none f true none = held_none f.progress none
entered_none f false none = none

-- an encryption begins only where no procedure of the peripheral is in progress
lets_encryption : (b c : Bool) → (not (false && b) && not (true && (b || c))) ≡ true → b ≡ false
lets_encryption true c is = absurd (cc)
lets_encryption false c is = refl

begun_own : (ask : Ask) (used : Bool) (c : Central) → begins central_role (kind_of_ask ask) ≡ true → peer_lets (central c) (kind_of_ask ask) ≡ true
    → is_both (progress_begun ask used (central c)) ≡ false
begun_own (ask_encrypt rand ediv ltk skd_m iv_m) used c role lets = lets_encryption (has_peer_at_central c.peer) false lets
begun_own (ask_request min max latency timeout) used c role lets = absurd (cc)
begun_own ask used c role lets = refl

begun_none : (ask : Ask) (used : Bool) (p : Progress) → begins (role_of p) (kind_of_ask ask) ≡ true → peer_lets p (kind_of_ask ask) ≡ true
    → is_both (progress_begun ask used p) ≡ false
begun_none ask used (central c) role lets = begun_own ask used c role lets
begun_none ask used (peripheral p) role lets = refl

begin_none : (f : TableFacts) (slot : ℕ) (quiet : Bool) (place : Option ℕ) (ask : Option Ask) → place_to_begin f quiet ≡ place → ask_at place f.wanted ≡ ask
    → is_both f.progress ≡ false → is_both (begin_at f slot place ask).0.progress ≡ false
begin_none f slot quiet None ask p a none = none
begin_none f slot quiet (Some place) None p a none = none
begin_none f slot quiet (Some place) (Some ask) p a none =
    let may = begins_of f quiet place ask p a in begun_none ask f.version_used f.progress may.role may.lets

pub enters_none : (f : TableFacts) (slot : ℕ) (quiet applied : Bool) → is_both f.progress ≡ false → is_both (begin_step (entered_step f applied).0 slot quiet).0.progress ≡ false
enters_none f slot quiet applied none =
    begin_none (entered_step f applied).0 slot quiet _ _ refl refl (entered_none f applied none)

-- ---- a host answers

asked_none : (c : Central) → is_both (central c) ≡ false → is_host_asked_at_central c.peer ≡ true → is_own_encryption c.own ≡ false
asked_none c none asked = by c.peer refl asked
  where
    apart : (b : Bool) → (b && true) ≡ false → b ≡ false
    apart true is = absurd (cc)
    apart false is = refl

    by : (peer : PeerAtCentral) → c.peer ≡ peer → is_host_asked_at_central peer ≡ true → is_own_encryption c.own ≡ false
    by HostAsked is asked = apart (is_own_encryption c.own) (ap (λ (p : PeerAtCentral). is_own_encryption c.own && has_peer_at_central p) (sym is) ∙ none)
    by peer is asked = absurd (cc)

becomes_none : (peer : PeerAtCentral) (p : Progress) → is_both p ≡ false → is_host_asked p ≡ true → is_both (peer_becomes peer p) ≡ false
becomes_none peer (central c) none asked = ap (λ b. b && has_peer_at_central peer) (asked_none c none asked)
becomes_none peer (peripheral p) none asked = refl

granted_none : (f : TableFacts) (ask : Ask) → is_both f.progress ≡ false → is_host_asked f.progress ≡ true → is_both (granted_by f ask).progress ≡ false
granted_none f (ask_update interval latency timeout) none asked = becomes_none GrantUnsent f.progress none asked
granted_none f ask none asked = none

pub answers_none : (f : TableFacts) (answer : Result Ask ErrCode) → is_both f.progress ≡ false → is_host_asked f.progress ≡ true
    → is_both (host_answer_step f answer).progress ≡ false
answers_none f (Ok ask) none asked = granted_none f ask none asked
answers_none f (Err code) none asked = becomes_none Absent f.progress none asked

-- ---- a PDU is sent, or acknowledged

own_sent : (draft : Draft) (own : OwnCentral) → is_own_encryption (unwrap_or (own_draft_sent_by_central draft own) own) ≡ is_own_encryption own
own_sent draft (exclusive stage) = by (exclusive_sent_by_central (pdu_of_draft draft) stage)
  where
    by : (next : Option CentralStage) → is_own_encryption (unwrap_or (option_map (λ n. exclusive n) next) (exclusive stage)) ≡ false
    by None = refl
    by (Some next) = refl
own_sent draft (exchange stage) = by (exchange_sent draft stage)
  where
    by : (next : Option Exchange) → is_own_encryption (unwrap_or (option_map (λ n. exchange n) next) (exchange stage)) ≡ false
    by None = refl
    by (Some next) = refl
own_sent (Cipher ctrl) EncryptUnsent = refl
own_sent draft EncryptUnsent = refl
own_sent (Cipher ctrl) EncryptSent = refl
own_sent draft EncryptSent = refl

peer_sent : (pdu : Option Pdu) (peer : PeerAtCentral) → has_peer_at_central (peer_draft_sent_by_central pdu peer) ≡ true → has_peer_at_central peer ≡ true
peer_sent None peer is = is
peer_sent (Some GrantInd) GrantUnsent is = refl
peer_sent (Some GrantInd) peer is = is
peer_sent (Some PhyInd) PhyIndUnsent is = refl
peer_sent (Some PhyInd) peer is = is
peer_sent (Some pdu) peer is = is

pub sends_none : (outgoing : Outgoing) (event skips : ℕ) (p : Progress) → is_both p ≡ false → is_both (progress_after_sending outgoing event skips p) ≡ false
sends_none (Other draft) event skips (central c) none = both_less _ _ _ _ (own_sent draft c.own) (peer_sent (pdu_of_draft draft) c.peer) none
sends_none (Other draft) event skips (peripheral p) none = refl
sends_none outgoing event skips p none = none

own_acked : (pdu : Pdu) (own : OwnCentral) → is_own_encryption (on_central_stage (own_acked_at_central pdu) own) ≡ is_own_encryption own
own_acked pdu (exclusive stage) = refl
own_acked pdu own = refl

peer_acked : (pdu : Pdu) (peer : PeerAtCentral) → has_peer_at_central (peer_acked_at_central pdu peer) ≡ true → has_peer_at_central peer ≡ true
peer_acked PhyInd PhyIndSent is = refl
peer_acked PhyInd peer is = is
peer_acked pdu peer is = is

acked_central : (pdu : Option Pdu) (c : Central) → is_both (central c) ≡ false → is_both (central (central_acked pdu c)) ≡ false
acked_central None c none = none
acked_central (Some pdu) c none = both_less _ _ _ _ (own_acked pdu c.own) (peer_acked pdu c.peer) none

pub acked_none : (out : Outgoing) (p : Progress) → is_both p ≡ false → is_both (progress_acked out p) ≡ false
acked_none out (central c) none = acked_central (pdu_of_outgoing out) c none
acked_none out (peripheral p) none = refl

pub given_none : (p : Progress) (ctrl : Ctrl) → is_both p ≡ false → is_both (progress_given p ctrl) ≡ false
given_none (central c) ctrl none = none
given_none (peripheral p) ctrl none = by (is_rejection ctrl)
  where
    by : (b : Bool) → is_both (if b then peripheral (record p { encrypting = false }) else peripheral p) ≡ false
    by true = refl
    by false = refl

-- ---- a PDU is taken

-- the first PDU of a procedure of the peripheral that excludes others
abbrev pub is_exclusive_first : CtrlRead → Bool
is_exclusive_first (Known (ConnectionParamReq min max latency timeout periodicity reference offsets)) = true
is_exclusive_first (Known (phy_pdu tx rx)) = true
is_exclusive_first read = false

response_peer : (t : TheCentral) → (CentralTable.response_taken t).peer ≡ t.peer
response_peer t = by (awaits_phy_rsp t.own) t.closed
  where
    by : (a b : Bool) → (if a then (if b then record t { own = PhyAnswered } else record t { own = PhyAnswered; queue = record { items = t.queue.items ++ PhyInd ∷ [] } }) else t).peer ≡ t.peer
    by true true = refl
    by true false = refl
    by false b = refl

refusal_peer : (b : Bool) (t : TheCentral) → (answer_to (refusal_if b) t).0.peer ≡ t.peer
refusal_peer true t = refl
refusal_peer false t = refl

peer_same : (p : Progress) (read : CtrlRead) (t : TheCentral) → is_exclusive_first read ≡ false → (answer_to (step_of_read p read) t).0.peer ≡ t.peer
peer_same p (Known (ConnectionParamReq min max latency timeout periodicity reference offsets)) t is = absurd (cc)
peer_same p (Known (phy_pdu tx rx)) t is = absurd (cc)
peer_same p (Known (phy_rsp tx rx)) t is = response_peer t
peer_same p (Known (UnknownRsp opcode)) t is = refusal_peer _ t
peer_same p (Known (RejectInd code)) t is = refusal_peer _ t
peer_same p (Known (RejectExtInd opcode code)) t is = refusal_peer _ t
peer_same p (Known ctrl) t is = refl
peer_same p (Unknown opcode) t is = refl
peer_same p Bare t is = refl

both_parts : (p : Progress) → (has_encryption p ≡ false) ⊎ (has_peer p ≡ false) → role_of p ≡ central_role → is_both p ≡ false
both_parts (central c) (inl none) role = ap (λ b. b && has_peer_at_central c.peer) none
both_parts (central c) (inr none) role = ap (λ b. is_own_encryption c.own && b) none ∙ by (is_own_encryption c.own)
  where
    by : (b : Bool) → (b && false) ≡ false
    by true = refl
    by false = refl
both_parts (peripheral p) either role = refl

pub parts_of_both : (p : Progress) → is_both p ≡ false → has_peer p ≡ true → role_of p ≡ central_role → has_encryption p ≡ false
parts_of_both (central c) none has role = by (is_own_encryption c.own) refl
  where
    by : (b : Bool) → is_own_encryption c.own ≡ b → is_own_encryption c.own ≡ false
    by true is = let both : (is_own_encryption c.own && has_peer_at_central c.peer) ≡ true = ap (λ b. b && has_peer_at_central c.peer) is ∙ has in absurd (cc)
    by false is = is
parts_of_both (peripheral p) none has role = absurd (cc)

peer_of : (p : Progress) (is_open : Bool) (rejections : List TheRejection) (drafts : List Draft) → role_of p ≡ central_role → has_peer_at_central (view p is_open rejections drafts).peer ≡ has_peer p
peer_of (central c) is_open rejections drafts role = refl
peer_of (peripheral p) is_open rejections drafts role = absurd (cc)

module _ (f : TableFacts) (slot : ℕ) (quiet : Bool) where
  role_settled : (a b : Bool) (k : TableFacts) (x y z : the_step) → role_of k.progress ≡ role_of f.progress → role_of (settled_of a b f k x y z).0.progress ≡ role_of f.progress
  role_settled true b k x y z same = refl
  role_settled false true k x y z same = refl
  role_settled false false k x y z same = same

  role_taken : (read : CtrlRead) → role_of (took_step f read slot quiet).0.progress ≡ role_of f.progress
  role_taken read =
      let o = outcome_of f quiet read in
      role_settled (lacks_room f o) (is_some o.step.ends) (facts_with f slot o) no_room o.step o.step (took_outcome f quiet read).role

  progress_settled : (a b : Bool) (k : TableFacts) (x y z : the_step) → k.progress ≡ f.progress → (settled_of a b f k x y z).0.progress ≡ f.progress
  progress_settled true b k x y z same = refl
  progress_settled false true k x y z same = refl
  progress_settled false false k x y z same = same

  -- LL_TERMINATE_IND leaves them
  stopped : (code : ℕ) → (took_step f (Known (TerminateInd code)) slot quiet).0.progress ≡ f.progress
  stopped code =
      let o = outcome_of f quiet (Known (TerminateInd code)) in
      progress_settled (lacks_room f o) (is_some o.step.ends) (facts_with f slot o) no_room o.step o.step (by f.progress)
    where
      by : (p : Progress) → (taken_by p f quiet (TerminateInd code)).progress ≡ f.progress
      by (central c) = refl
      by (peripheral p) = refl

  -- a procedure of the peripheral was in progress before, or this is its first PDU
  taken_peer : (read : CtrlRead) → role_of f.progress ≡ central_role → has_peer (took_step f read slot quiet).0.progress ≡ true
      → (has_peer f.progress ≡ true) ⊎ (is_exclusive_first read ≡ true)
  taken_peer read role has = by f.progress refl role
    where
      o : Outcome
      o = outcome_of f quiet read

      g : TableFacts
      g = (took_step f read slot quiet).0

      role_g : role_of g.progress ≡ central_role
      role_g = role_taken read ∙ role

      by : (p : Progress) → f.progress ≡ p → role_of p ≡ central_role → (has_peer f.progress ≡ true) ⊎ (is_exclusive_first read ≡ true)
      by (peripheral p) at there = absurd (cc)
      by (central c) at there = goes (lacks_room f o) (stops_run read) (is_exclusive_first read) refl refl refl
        where
          goes : (lacks stops is_first : Bool) → lacks_room f o ≡ lacks → stops_run read ≡ stops → is_exclusive_first read ≡ is_first
              → (has_peer f.progress ≡ true) ⊎ (is_exclusive_first read ≡ true)
          goes lacks stops true l t is = inr is
          goes true stops false l t is = inl (ap (λ (h : TableFacts). has_peer h.progress) (sym (ap (λ (x : TableFacts × the_step). x.0) (no_room_left f read slot quiet l))) ∙ has)
          goes false true false l t is = inl (stopping read t has)
            where
              stopping : (read : CtrlRead) → stops_run read ≡ true → has_peer (took_step f read slot quiet).0.progress ≡ true → has_peer f.progress ≡ true
              stopping (Known (TerminateInd code)) is has = ap has_peer (sym (stopped code)) ∙ has
              stopping read is has = absurd (cc)
          goes false false false l t is =
              inl (sym (peer_of f.progress _ f.queue.rejections f.queue.drafts role)
              ∙ ap has_peer_at_central (sym (peer_same f.progress read (central_of f) is))
              ∙ ap (λ (x : TheCentral). has_peer_at_central x.peer) (sym (took_exactly f c read slot quiet at l t).part)
              ∙ peer_of g.progress _ g.queue.rejections g.queue.drafts role_g ∙ has)

  -- no encryption begins by a PDU at a central
  still_none : (read : CtrlRead) → role_of f.progress ≡ central_role → has_encryption f.progress ≡ false → has_encryption (took_step f read slot quiet).0.progress ≡ false
  still_none read role none = by (has_encryption (took_step f read slot quiet).0.progress) refl
    where
      never : (p : Progress) → role_of p ≡ central_role → MayBeginBy p (takes read slot quiet) → ⊥
      never (central c) role h = h
      never (peripheral p) role h = absurd (cc)

      by : (b : Bool) → has_encryption (took_step f read slot quiet).0.progress ≡ b → has_encryption (took_step f read slot quiet).0.progress ≡ false
      by true is = absurd (never f.progress role (begins_by f (takes read slot quiet) none is))
      by false is = is

  pub takes_none : (read : CtrlRead) → role_of f.progress ≡ central_role → (is_exclusive_first read ≡ true → has_encryption f.progress ≡ false)
      → is_both f.progress ≡ false → is_both (took_step f read slot quiet).0.progress ≡ false
  takes_none read role may none = by (has_peer (took_step f read slot quiet).0.progress) refl
    where
      role_g : role_of (took_step f read slot quiet).0.progress ≡ central_role
      role_g = role_taken read ∙ role

      peer_by : (has_peer f.progress ≡ true) ⊎ (is_exclusive_first read ≡ true) → has_encryption f.progress ≡ false
      peer_by (inl before) = parts_of_both f.progress none before role
      peer_by (inr is) = may is

      by : (b : Bool) → has_peer (took_step f read slot quiet).0.progress ≡ b → is_both (took_step f read slot quiet).0.progress ≡ false
      by false is = both_parts (took_step f read slot quiet).0.progress (inr is) role_g
      by true is = both_parts (took_step f read slot quiet).0.progress (inl (still_none read role (peer_by (taken_peer read role is)))) role_g
