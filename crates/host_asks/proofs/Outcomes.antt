-- What a control PDU of the peer leaves of what the view knows, by PDU.
use Rattle.std.proofs.Common.{◌≡◌, ℕ, Bool, true, false, ◌||◌, if◌then◌else◌, List, Option, Some, None, is_some, is_none, refl, sym, ◌∙◌, subst}
use Rattle.ble_base.specs.declared.error_codes.ErrCode.{ErrCode}
use Rattle.ble_base.specs.declared.procedure_kinds.Kind.{Kind}
use Rattle.ble_base.specs.declared.procedure_kinds.Kind.TheVariants.{Map as map_kind, Phy, Request, Features, Version, Length, Encrypt}
use Rattle.data_pdu.specs.declared.ctrl.Ctrl.{Ctrl}
use Rattle.data_pdu.specs.declared.ctrl.Ctrl.TheVariants.{TerminateInd, UnknownRsp, FeatureRsp, VersionInd, RejectInd, RejectExtInd, LengthReq, LengthRsp, ConnectionUpdateInd, ChannelMapInd, EncReq, EncRsp, StartEncReq, StartEncRsp, FeatureReq, PauseEncReq, PauseEncRsp, PeripheralFeatureReq, ConnectionParamReq, PhyReq, PhyRsp, PhyUpdateInd}
use Rattle.data_pdu.specs.declared.ctrl.CtrlRead.{CtrlRead}
use Rattle.data_pdu.specs.declared.ctrl.CtrlRead.TheVariants.{Known, Unknown, Bare}
use Rattle.instants.specs.declared.indications.Indication.TheVariants.{Update as update_indication}
use Rattle.exclusive_stages.specs.Awaited.{awaits_phy_ind, awaits_phy_rsp, central_answered, has_phy_of_central, peer_answered, reads_as_answer}
use Rattle.exclusive_stages.specs.declared.stages.CentralStage.TheVariants.{PhySent}
use Rattle.exclusive_stages.specs.declared.stages.PeripheralStage.TheVariants.{PhySent as phy_sent, RequestAcknowledged, RequestGranted}
use Rattle.link_commands.specs.open_links.procedure_values.declared.asks.Ask.{Ask}
use Rattle.link_commands.specs.open_links.procedure_values.Values.{are_valid}
use Rattle.link_commands.specs.open_links.procedure_values.Wants.{is_wanted, place_of, without_place}
use Rattle.procedure_events.specs.procedure_stages.declared.stages.Ahead.{Ahead}
use Rattle.procedure_events.specs.procedure_stages.declared.stages.Ahead.TheVariants.{Nothing, Update as update_ahead, Map as map_ahead}
use Rattle.procedure_events.specs.procedure_stages.declared.stages.Central.{Central}
use Rattle.procedure_events.specs.procedure_stages.declared.stages.Exchange.TheVariants.{FeaturesSent, VersionUnsent, VersionSent, LengthSent}
use Rattle.procedure_events.specs.procedure_stages.declared.stages.OwnCentral.{OwnCentral}
use Rattle.procedure_events.specs.procedure_stages.declared.stages.OwnCentral.TheVariants.{Exclusive as exclusive, EncryptSent, EncryptUnsent, Exchange as exchange}
use Rattle.procedure_events.specs.procedure_stages.declared.stages.OwnPeripheral.{OwnPeripheral}
use Rattle.procedure_events.specs.procedure_stages.declared.stages.OwnPeripheral.TheVariants.{Exclusive as exclusive_p, Exchange as exchange_p}
use Rattle.procedure_events.specs.procedure_stages.declared.stages.Peripheral.{Peripheral}
use Rattle.procedure_events.specs.procedure_stages.declared.stages.Progress.{Progress}
use Rattle.procedure_events.specs.procedure_stages.declared.stages.Progress.TheVariants.{Central as central, Peripheral as peripheral}
use Rattle.procedure_events.specs.procedure_stages.declared.steps.Effect.{Effect}
use Rattle.procedure_events.specs.procedure_stages.declared.steps.Effect.TheVariants.{AskHost}
use Rattle.procedure_events.specs.procedure_stages.Awaited.{awaits_features, awaits_lengths, is_own_encryption, is_version}
use Rattle.procedure_events.specs.procedure_stages.Collisions.{collision}
use Rattle.procedure_events.specs.procedure_stages.Exclusive.{central_stage, peripheral_stage}
use Rattle.procedure_events.specs.procedure_stages.Foreign.{is_foreign}
use Rattle.procedure_events.specs.procedure_stages.InProgress.{is_host_asked}
use Rattle.procedure_events.specs.procedure_stages.Kinds.{kind_at_central, kind_at_peripheral, own_exchange, own_kind, role_of, without_own}
use Rattle.procedure_events.specs.procedure_stages.Opcodes.{connection_param_req_opcode, first_opcode, later_opcode, is_opcode, phy_req_opcode}
use Rattle.procedure_events.specs.procedures.declared.outcome.Outcome.{Outcome}
use Rattle.procedure_events.specs.procedures.Encryption.{cipher_at_central, start_rsp_at_central}
use Rattle.procedure_events.specs.procedures.Features.{features_taken}
use Rattle.procedure_events.specs.procedures.Length.{length_taken}
use Rattle.procedure_events.specs.procedures.Outcomes.{ended, unchanged}
use Rattle.procedure_events.specs.procedures.Phy.{phy_ind_taken}
use Rattle.procedure_events.specs.procedures.Refusals.{refused_if, refused_with}
use Rattle.procedure_events.specs.procedures.Request.{after_grant, against_central, collided, outlived, request_judged}
use Rattle.procedure_events.specs.procedures.Table.{TableFacts}
use Rattle.procedure_events.specs.procedures.Taking.{outcome_of, taken_by_role, taken_by, taken_by_central, taken_by_either, taken_by_peripheral, wanted_after}
use Rattle.procedure_events.specs.procedures.Update.{follow, update_taken}
use Rattle.procedure_events.specs.procedures.Version.{version_taken}
use Rattle.host_view.specs.declared.links.Asked.{Asked}
use Rattle.host_asks.proofs.Keeping.{KnowsKinds, asked_done, asked_refused, none_placed, own_over, version_over, version_unwanted}

-- a request of the peer waits for the host, once it is reported
abbrev pub waits_after : Effect → Bool → Bool
waits_after (AskHost min max latency timeout) waits = true
waits_after other waits = waits

-- where the end waits for the host, the view says so
abbrev pub WaitsIf : Progress → Bool → Type 0
WaitsIf p waits = is_host_asked p ≡ true → waits ≡ true

pub record KeepsAsks (p : Progress) (wanted : List Ask) (o : Outcome) : Type 0 where
  pub role : role_of o.progress ≡ role_of p
  pub kinds :
      (asked : Asked) → KnowsKinds wanted (own_kind p) asked
      → KnowsKinds (wanted_after o.step.effect wanted) (own_kind o.progress) (asked_done o.step.done (asked_refused o.step.refused asked))
  pub waits : (waits : Bool) → WaitsIf p waits → WaitsIf o.progress (waits_after o.step.effect waits)

abbrev pub at : TableFacts → Progress → TableFacts
at f p = record f { progress = p }

-- ---- the own procedure is over

pub over_none : (p : Progress) → own_kind (without_own p) ≡ None
over_none (central c) = refl
over_none (peripheral p) = refl

over_role : (p : Progress) → role_of (without_own p) ≡ role_of p
over_role (central c) = refl
over_role (peripheral p) = refl

over_waits : (p : Progress) (waits : Bool) → WaitsIf p waits → WaitsIf (without_own p) waits
over_waits (central c) waits is = is
over_waits (peripheral p) waits is = is

-- an own procedure of this kind is over
over_kinds : (p : Progress) (wanted : List Ask) (k : Kind) (asked : Asked) → own_kind p ≡ Some k → KnowsKinds wanted (own_kind p) asked
    → KnowsKinds wanted (own_kind (without_own p)) (asked_done (Some k) asked)
over_kinds p wanted k asked own knows =
    subst (λ (o : Option Kind). KnowsKinds wanted o (asked_done (Some k) asked)) (sym (over_none p))
    (own_over wanted k asked (subst (λ (o : Option Kind). KnowsKinds wanted o asked) own knows))

-- one, or none, is refused
over_refused : (p : Progress) (wanted : List Ask) (code : ErrCode) (own : Option Kind) (asked : Asked) → own_kind p ≡ own
    → KnowsKinds wanted (own_kind p) asked → KnowsKinds wanted (own_kind (without_own p)) (asked_refused (refused_with own code) asked)
over_refused p wanted code None asked own knows =
    subst (λ (o : Option Kind). KnowsKinds wanted o asked) (own ∙ sym (over_none p)) knows
over_refused p wanted code (Some k) asked own knows = over_kinds p wanted k asked own knows

-- which procedure awaits what

pub features_own : (p : Progress) → awaits_features (own_exchange p) ≡ true → own_kind p ≡ Some Features
features_own (central c) is = by c.own is
  where
    by : (own : OwnCentral) → awaits_features (own_exchange (central (record c { own = own }))) ≡ true → kind_at_central own ≡ Some Features
    by (exchange FeaturesSent) is = refl
    by (exchange other) is = absurd (cc)
    by own is = absurd (cc)
features_own (peripheral p) is = by p.own is
  where
    by : (own : OwnPeripheral) → awaits_features (own_exchange (peripheral (record p { own = own }))) ≡ true → kind_at_peripheral own ≡ Some Features
    by (exchange_p FeaturesSent) is = refl
    by (exchange_p other) is = absurd (cc)
    by own is = absurd (cc)

pub lengths_own : (p : Progress) → awaits_lengths (own_exchange p) ≡ true → own_kind p ≡ Some Length
lengths_own (central c) is = by c.own is
  where
    by : (own : OwnCentral) → awaits_lengths (own_exchange (central (record c { own = own }))) ≡ true → kind_at_central own ≡ Some Length
    by (exchange LengthSent) is = refl
    by (exchange other) is = absurd (cc)
    by own is = absurd (cc)
lengths_own (peripheral p) is = by p.own is
  where
    by : (own : OwnPeripheral) → awaits_lengths (own_exchange (peripheral (record p { own = own }))) ≡ true → kind_at_peripheral own ≡ Some Length
    by (exchange_p LengthSent) is = refl
    by (exchange_p other) is = absurd (cc)
    by own is = absurd (cc)

pub version_own : (p : Progress) → is_version (own_exchange p) ≡ true → own_kind p ≡ Some Version
version_own (central c) is = by c.own is
  where
    by : (own : OwnCentral) → is_version (own_exchange (central (record c { own = own }))) ≡ true → kind_at_central own ≡ Some Version
    by (exchange VersionUnsent) is = refl
    by (exchange VersionSent) is = refl
    by (exchange other) is = absurd (cc)
    by own is = absurd (cc)
version_own (peripheral p) is = by p.own is
  where
    by : (own : OwnPeripheral) → is_version (own_exchange (peripheral (record p { own = own }))) ≡ true → kind_at_peripheral own ≡ Some Version
    by (exchange_p VersionUnsent) is = refl
    by (exchange_p VersionSent) is = refl
    by (exchange_p other) is = absurd (cc)
    by own is = absurd (cc)

pub encrypt_own : (own : OwnCentral) → is_own_encryption own ≡ true → kind_at_central own ≡ Some Encrypt
encrypt_own EncryptUnsent is = refl
encrypt_own EncryptSent is = refl
encrypt_own own is = absurd (cc)

pub phy_rsp_own : (own : OwnCentral) → awaits_phy_rsp (central_stage own) ≡ true → kind_at_central own ≡ Some Phy
phy_rsp_own (exclusive PhySent) is = refl
phy_rsp_own (exclusive other) is = absurd (cc)
phy_rsp_own own is = absurd (cc)

pub phy_ind_own : (own : OwnPeripheral) → awaits_phy_ind (peripheral_stage own) ≡ true → kind_at_peripheral own ≡ Some Phy
phy_ind_own (exclusive_p phy_sent) is = refl
phy_ind_own (exclusive_p other) is = absurd (cc)
phy_ind_own own is = absurd (cc)

pub request_own : (own : OwnPeripheral) → reads_as_answer (peripheral_stage own) ≡ true → kind_at_peripheral own ≡ Some Request
request_own (exclusive_p RequestAcknowledged) is = refl
request_own (exclusive_p RequestGranted) is = refl
request_own (exclusive_p other) is = absurd (cc)
request_own own is = absurd (cc)

-- ---- by outcome

choice : (p : Progress) (wanted : List Ask) (b : Bool) (x y : Outcome) → (b ≡ true → KeepsAsks p wanted x) → KeepsAsks p wanted y
    → KeepsAsks p wanted (if b then x else y)
choice p wanted true x y hx hy = hx refl
choice p wanted false x y hx hy = hy

module _ (f : TableFacts) (wanted : List Ask) where
  abbrev Keeps : Progress → Outcome → Type 0
  Keeps p o = KeepsAsks p wanted o

  nothing : (p : Progress) → Keeps p (unchanged (at f p))
  nothing p = record { role = refl; kinds = λ asked is. is; waits = λ waits is. is }

  end_keeps : (p : Progress) (code : ErrCode) → Keeps p (ended (at f p) code)
  end_keeps p code = record { role = refl; kinds = λ asked is. is; waits = λ waits is. is }

  -- ---- the PDUs that mean the same at either end

  refusal : (p : Progress) (b : Bool) (code : ErrCode) → Keeps p (refused_if b (at f p) code)
  refusal p true code =
      record { role = over_role p; kinds = λ asked is. over_refused p wanted code (own_kind p) asked refl is; waits = λ waits is. over_waits p waits is }
  refusal p false code = nothing p

  features : (p : Progress) (value : ℕ) → Keeps p (features_taken (at f p) value)
  features p value =
      choice p wanted (awaits_features (own_exchange p)) _ _
      (λ awaits. record {
        role = over_role p;
        kinds = λ asked is. over_kinds p wanted Features asked (features_own p awaits) is;
        waits = λ waits is. over_waits p waits is;
      })
      (nothing p)

  lengths : (p : Progress) (rx tx : ℕ) → Keeps p (length_taken (at f p) rx tx)
  lengths p rx tx =
      choice p wanted (awaits_lengths (own_exchange p)) _ _
      (λ awaits. record {
        role = over_role p;
        kinds = λ asked is. over_kinds p wanted Length asked (lengths_own p awaits) is;
        waits = λ waits is. over_waits p waits is;
      })
      (nothing p)

  version_kinds : (p : Progress) (runs wants : Bool) (asked : Asked) → is_version (own_exchange p) ≡ runs → is_wanted Version wanted ≡ wants
      → KnowsKinds wanted (own_kind p) asked
      → KnowsKinds (without_place (place_of Version wanted) wanted) (own_kind (if runs then without_own p else p))
      (asked_done (if runs || wants then Some Version else None) asked)
  version_kinds p true wants asked runs some knows =
      subst (λ (o : Option Kind). KnowsKinds (without_place (place_of Version wanted) wanted) o (asked_done (Some Version) asked)) (sym (over_none p))
      (version_over wanted asked (subst (λ (o : Option Kind). KnowsKinds wanted o asked) (version_own p runs) knows))
  version_kinds p false true asked runs some knows = version_unwanted wanted (own_kind p) asked some knows
  version_kinds p false false asked runs some knows =
      subst (λ (asks : List Ask). KnowsKinds asks (own_kind p) asked) (sym (none_placed wanted (place_of Version wanted) (none_by (place_of Version wanted) some))) knows
    where
      none_by : (place : Option ℕ) → is_some place ≡ false → is_none place ≡ true
      none_by None is = refl
      none_by (Some place) is = absurd (cc)

  version : (p : Progress) (number company sub : ℕ) → f.wanted ≡ wanted → Keeps p (version_taken (at f p) number company sub)
  version p number company sub same =
      record {
        role = by_role (is_version (own_exchange p));
        kinds = λ asked is.
            subst (λ (asks : List Ask). KnowsKinds (without_place (place_of Version wanted) wanted) (own_kind (if is_version (own_exchange p) then without_own p else p))
            (asked_done (if is_version (own_exchange p) || is_wanted Version asks then Some Version else None) asked)) (sym same)
            (version_kinds p (is_version (own_exchange p)) (is_wanted Version wanted) asked refl refl is);
        waits = λ waits is. by_waits (is_version (own_exchange p)) waits is;
      }
    where
      by_role : (b : Bool) → role_of (if b then without_own p else p) ≡ role_of p
      by_role true = over_role p
      by_role false = refl

      by_waits : (b waits : Bool) → WaitsIf p waits → WaitsIf (if b then without_own p else p) waits
      by_waits true waits is = over_waits p waits is
      by_waits false waits is = is

  either : (p : Progress) (ctrl : Ctrl) → f.wanted ≡ wanted → Keeps p (taken_by_either (at f p) ctrl)
  either p (TerminateInd code) same = record { role = refl; kinds = λ asked is. is; waits = λ waits is. is }
  either p (UnknownRsp opcode) same = refusal p (is_opcode (first_opcode p) opcode) _
  either p (FeatureRsp value) same = features p value
  either p (VersionInd number company sub) same = version p number company sub same
  either p (RejectInd code) same = refusal p (is_some (first_opcode p)) _
  either p (RejectExtInd opcode code) same = refusal p (is_opcode (first_opcode p) opcode || is_opcode (later_opcode p) opcode) _
  either p (LengthReq rx rx_time tx tx_time) same = record { role = refl; kinds = λ asked is. is; waits = λ waits is. is }
  either p (LengthRsp rx rx_time tx tx_time) same = lengths p rx tx
  either p other same = nothing p

  -- ---- at a central

  cipher : (c : Central) (quiet : Bool) (ctrl : Ctrl) → Keeps (central c) (cipher_at_central (at f (central c)) c quiet ctrl)
  cipher c quiet ctrl =
      choice (central c) wanted quiet _ _ (λ is. nothing (central c)) (record { role = refl; kinds = λ asked is. is; waits = λ waits is. is })

  start_rsp : (c : Central) (quiet : Bool) (ctrl : Ctrl) → Keeps (central c) (start_rsp_at_central (at f (central c)) c quiet ctrl)
  start_rsp c true ctrl = nothing (central c)
  start_rsp c false ctrl = by (is_own_encryption c.own) refl
    where
      by : (b : Bool) → is_own_encryption c.own ≡ b → Keeps (central c) (start_rsp_at_central (at f (central c)) c false ctrl)
      by true is =
          rw is (record {
            role = refl;
            kinds = λ asked knows. over_kinds (central c) wanted Encrypt asked (encrypt_own c.own is) knows;
            waits = λ waits are. are;
          })
      by false is = rw is (record { role = refl; kinds = λ asked are. are; waits = λ waits are. are })

  against : (c : Central) (kind : Kind) (opcode : ℕ) (other : Outcome) → Keeps (central c) other
      → Keeps (central c) (against_central (at f (central c)) c kind opcode other)
  against c kind opcode other h = by (peer_answered (central_stage c.own)) (collision (kind_at_central c.own) kind)
    where
      by : (answered : Bool) (code : Option ErrCode) → Keeps (central c) (collided (at f (central c)) answered opcode code other)
      by answered None = h
      by answered (Some code) =
          choice (central c) wanted answered _ _ (λ is. end_keeps (central c) code) (record { role = refl; kinds = λ asked is. is; waits = λ waits is. is })

  judged : (c : Central) (min max latency timeout : ℕ) → Keeps (central c) (request_judged (at f (central c)) c min max latency timeout)
  judged c min max latency timeout =
      choice (central c) wanted (are_valid min max latency timeout) _ _
      (λ is. record { role = refl; kinds = λ asked knows. knows; waits = λ waits before after. refl })
      (record { role = refl; kinds = λ asked knows. knows; waits = λ waits before after. absurd (cc) })

  at_central : (c : Central) (quiet : Bool) (ctrl : Ctrl) → f.wanted ≡ wanted → Keeps (central c) (taken_by_central (at f (central c)) c quiet ctrl)
  at_central c quiet (EncRsp skd_s iv_s) same = cipher c quiet (EncRsp skd_s iv_s)
  at_central c quiet StartEncReq same = cipher c quiet StartEncReq
  at_central c quiet PauseEncRsp same = cipher c quiet PauseEncRsp
  at_central c quiet StartEncRsp same = start_rsp c quiet StartEncRsp
  at_central c quiet (PeripheralFeatureReq value) same = record { role = refl; kinds = λ asked is. is; waits = λ waits is. is }
  at_central c quiet (ConnectionParamReq min max latency timeout periodicity reference offsets) same =
      against c Request connection_param_req_opcode _ (judged c min max latency timeout)
  at_central c quiet (PhyReq tx rx) same =
      against c Phy phy_req_opcode _ (record { role = refl; kinds = λ asked is. is; waits = λ waits before after. absurd (cc) })
  at_central c quiet (PhyRsp tx rx) same =
      choice (central c) wanted (awaits_phy_rsp (central_stage c.own)) _ _
      (λ awaits. record {
        role = refl;
        kinds = λ asked is. subst (λ (o : Option Kind). KnowsKinds wanted o asked) (phy_rsp_own c.own awaits) is;
        waits = λ waits is. is;
      })
      (nothing (central c))
  at_central c quiet other same = either (central c) other same

  -- ---- at a peripheral

  follow_keeps : (p : Peripheral) (new : Ahead) (o : Outcome) → Keeps (peripheral p) o
      → (ahead : Ahead) → Keeps (peripheral p) (follow (at f (peripheral p)) ahead new o)
  follow_keeps p new o h Nothing = h
  follow_keeps p new o h update_ahead = end_keeps (peripheral p) _
  follow_keeps p new o h map_ahead = end_keeps (peripheral p) _

  granting : (p : Peripheral) (kind : Kind) (o : Outcome) → Keeps (peripheral p) o → Keeps (peripheral p) (after_grant (at f (peripheral p)) p kind o)
  granting p kind o h =
      choice (peripheral p) wanted (central_answered (peripheral_stage p.own)) _ _ (λ is. by (collision (kind_at_peripheral p.own) kind)) h
    where
      by : (code : Option ErrCode) → Keeps (peripheral p) (outlived (at f (peripheral p)) code o)
      by None = h
      by (Some code) = end_keeps (peripheral p) code

  update : (p : Peripheral) (win_offset interval latency timeout instant : ℕ)
      → Keeps (peripheral p) (update_taken (at f (peripheral p)) p (update_indication win_offset interval latency timeout instant))
  update p win_offset interval latency timeout instant =
      follow_keeps p update_ahead _
      (choice (peripheral p) wanted (reads_as_answer (peripheral_stage p.own)) _ _
      (λ answers. record {
        role = refl;
        kinds = λ asked is. subst (λ (o : Option Kind). KnowsKinds wanted o asked) (request_own p.own answers) is;
        waits = λ waits is. is;
      })
      (record { role = refl; kinds = λ asked is. is; waits = λ waits is. is }))
      p.ahead

  phy_ind : (p : Peripheral) → Keeps (peripheral p) (phy_ind_taken (at f (peripheral p)) p)
  phy_ind p =
      choice (peripheral p) wanted (has_phy_of_central p.peer) _ _ (λ has. record { role = refl; kinds = λ asked is. is; waits = λ waits is. is })
      (choice (peripheral p) wanted (awaits_phy_ind (peripheral_stage p.own)) _ _
      (λ awaits. record {
        role = refl;
        kinds = λ asked is. over_kinds (peripheral p) wanted Phy asked (phy_ind_own p.own awaits) is;
        waits = λ waits is. is;
      })
      (nothing (peripheral p)))

  at_peripheral : (p : Peripheral) (quiet : Bool) (ctrl : Ctrl) → f.wanted ≡ wanted → Keeps (peripheral p) (taken_by_peripheral (at f (peripheral p)) p quiet ctrl)
  at_peripheral p quiet (ConnectionUpdateInd win_size win_offset interval latency timeout instant) same =
      update p win_offset interval latency timeout instant
  at_peripheral p quiet (ChannelMapInd map instant) same =
      granting p map_kind _ (follow_keeps p map_ahead _ (record { role = refl; kinds = λ asked is. is; waits = λ waits is. is }) p.ahead)
  at_peripheral p quiet (EncReq rand ediv skd_m iv_m) same = record { role = refl; kinds = λ asked is. is; waits = λ waits is. is }
  at_peripheral p quiet PauseEncReq same = record { role = refl; kinds = λ asked is. is; waits = λ waits is. is }
  at_peripheral p quiet PauseEncRsp same =
      choice (peripheral p) wanted quiet _ _ (λ is. nothing (peripheral p)) (record { role = refl; kinds = λ asked is. is; waits = λ waits is. is })
  at_peripheral p quiet StartEncRsp same =
      choice (peripheral p) wanted quiet _ _ (λ is. nothing (peripheral p)) (record { role = refl; kinds = λ asked is. is; waits = λ waits is. is })
  at_peripheral p quiet (FeatureReq value) same = record { role = refl; kinds = λ asked is. is; waits = λ waits is. is }
  at_peripheral p quiet (PhyReq tx rx) same =
      granting p Phy _ (record { role = refl; kinds = λ asked is. is; waits = λ waits is. is })
  at_peripheral p quiet (PhyUpdateInd to_peripheral to_central instant) same = phy_ind p
  at_peripheral p quiet other same = either (peripheral p) other same

  by_progress : (p : Progress) (quiet : Bool) (ctrl : Ctrl) → f.wanted ≡ wanted → Keeps p (taken_by_role p (at f p) quiet ctrl)
  by_progress (central c) quiet ctrl same = at_central c quiet ctrl same
  by_progress (peripheral p) quiet ctrl same = at_peripheral p quiet ctrl same

  known_or_foreign : (p : Progress) (quiet : Bool) (ctrl : Ctrl) → f.wanted ≡ wanted → Keeps p (taken_by p (at f p) quiet ctrl)
  known_or_foreign p quiet ctrl same =
      choice p wanted (is_foreign (role_of p) ctrl) _ _ (λ is. record { role = refl; kinds = λ asked is. is; waits = λ waits is. is })
      (by_progress p quiet ctrl same)

pub takes_pdu : (f : TableFacts) (quiet : Bool) (read : CtrlRead) → KeepsAsks f.progress f.wanted (outcome_of f quiet read)
takes_pdu f quiet (Known ctrl) = known_or_foreign f f.wanted f.progress quiet ctrl refl
takes_pdu f quiet (Unknown opcode) = record { role = refl; kinds = λ asked is. is; waits = λ waits is. is }
takes_pdu f quiet Bare = nothing f f.wanted f.progress
