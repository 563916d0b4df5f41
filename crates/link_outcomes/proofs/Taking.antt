-- What a control PDU of the central makes of a request of the peripheral, and which procedure it completes there.
use Rattle.std.proofs.Common.{◌≡◌, ◌≤◌, ℕ, ◌==◌, zero, suc, Bool, true, false, ◌||◌, if◌then◌else◌, Option, Some, None, is_some, refl, sym, ap, ◌∙◌, arith}
use Rattle.ble_base.specs.declared.error_codes.ErrCode.{ErrCode}
use Rattle.ble_base.specs.declared.procedure_kinds.Kind.{Kind}
use Rattle.ble_base.specs.declared.procedure_kinds.Kind.TheVariants.{Map as map_kind, Phy as phy_kind, Features, Version, Length}
use Rattle.ble_base.specs.declared.roles.Role.TheVariants.{Peripheral as peripheral_role}
use Rattle.data_pdu.specs.declared.ctrl.Ctrl.{Ctrl}
use Rattle.data_pdu.specs.declared.ctrl.Ctrl.TheVariants.{TerminateInd, UnknownRsp, FeatureRsp, VersionInd, RejectInd, RejectExtInd, LengthReq, LengthRsp, ConnectionUpdateInd, ChannelMapInd, EncReq, StartEncRsp, FeatureReq, PauseEncReq, PauseEncRsp, PhyReq, PhyUpdateInd}
use Rattle.data_pdu.specs.declared.ctrl.CtrlRead.{CtrlRead}
use Rattle.data_pdu.specs.declared.ctrl.CtrlRead.TheVariants.{Known, Unknown, Bare}
use Rattle.instants.specs.declared.indications.Indication.{Indication}
use Rattle.exclusive_stages.specs.Awaited.{awaits_phy_ind, central_answered, has_phy_of_central, reads_as_answer}
use Rattle.exclusive_stages.specs.Kinds.{kind_of}
use Rattle.exclusive_stages.specs.declared.pdus.Exclusive.{Exclusive}
use Rattle.exclusive_stages.specs.declared.pdus.Exclusive.TheVariants.{Map, Phy, Request, Update}
use Rattle.exclusive_stages.specs.declared.stages.PeripheralStage.{PeripheralStage}
use Rattle.exclusive_stages.specs.declared.stages.PeripheralStage.TheVariants.{Idle as idle, RequestAcknowledged, RequestGranted}
use Rattle.link_model.specs.procedure_values.Asks.{is_same_kind}
use Rattle.link_model.specs.procedure_values.Wants.{is_wanted}
use Rattle.link_model.specs.procedure_stages.Awaited.{awaits_features, awaits_lengths, is_version}
use Rattle.link_model.specs.procedure_stages.Collisions.{collision}
use Rattle.link_model.specs.procedure_stages.Exclusive.{peripheral_stage}
use Rattle.link_model.specs.procedure_stages.Foreign.{is_foreign}
use Rattle.link_model.specs.procedure_stages.Kinds.{kind_at_peripheral, own_exchange, own_kind, role_of}
use Rattle.link_model.specs.procedure_stages.Opcodes.{first_opcode, later_opcode, is_opcode}
use Rattle.link_model.specs.procedure_stages.declared.stages.Ahead.{Ahead}
use Rattle.link_model.specs.procedure_stages.declared.stages.Ahead.TheVariants.{Nothing, Update as update_ahead, Map as map_ahead}
use Rattle.link_model.specs.procedure_stages.declared.stages.OwnPeripheral.{OwnPeripheral}
use Rattle.link_model.specs.procedure_stages.declared.stages.OwnPeripheral.TheVariants.{Exclusive as exclusive}
use Rattle.link_model.specs.procedure_stages.declared.stages.Peripheral.{Peripheral}
use Rattle.link_model.specs.procedure_stages.declared.stages.Progress.{Progress}
use Rattle.link_model.specs.procedure_stages.declared.stages.Progress.TheVariants.{Central as central, Peripheral as peripheral}
use Rattle.link_model.specs.procedures.declared.outcome.Outcome.{Outcome}
use Rattle.link_model.specs.procedures.Features.{features_taken}
use Rattle.link_model.specs.procedures.Length.{length_taken}
use Rattle.link_model.specs.procedures.Outcomes.{ended, unchanged}
use Rattle.link_model.specs.procedures.Phy.{phy_ind_taken}
use Rattle.link_model.specs.procedures.Refusals.{refused_if}
use Rattle.link_model.specs.procedures.Request.{after_grant, outlived}
use Rattle.link_model.specs.procedures.Table.{TableFacts}
use Rattle.link_model.specs.procedures.Taking.{outcome_of, taken_by, taken_by_either, taken_by_peripheral}
use Rattle.link_model.specs.procedures.Update.{follow, update_taken}
use Rattle.link_model.specs.procedures.Version.{version_taken}
use Rattle.link_procedures.proofs.Stages.{phy_ind_own}
use Rattle.link_model.specs.enc_phase.declared.classes.PduClass.TheVariants.{Request as request_class}
use Rattle.link_model.specs.enc_phase.Taking.{ctrl_class}
use Rattle.link_model.proofs.Views.{SeenAs, AsRead, AsUnknown}
use Rattle.link_outcomes.proofs.Awaiting.{answers}

-- ---- how far a request of the peripheral is: acknowledged, or answered by an update

abbrev pub late : PeripheralStage → ℕ
late RequestAcknowledged = 1
late RequestGranted = 2
late other = 0

abbrev pub late_at : OwnPeripheral → ℕ
late_at own = late (peripheral_stage own)

abbrev pub late_in : Progress → ℕ
late_in (central c) = 0
late_in (peripheral p) = late_at p.own

-- a request that is acknowledged is answered by an update
abbrev pub MayTake : ℕ → CtrlRead → Type 0
MayTake n read = answers Request read ≡ true → (n == 1) ≡ false

-- ---- which procedure is completed

-- one of those that exclude others: it ran, the PDU answers it, and nothing is refused
pub record IsLast (q : Exclusive) (p : Progress) (read : CtrlRead) (refused : Option (Kind × ErrCode)) (kind : Kind) : Type 0 where
  pub own : own_kind p ≡ Some kind
  pub answered : answers q read ≡ true
  pub none : refused ≡ None

abbrev pub Ends : Progress → CtrlRead → Option (Kind × ErrCode) → Option Kind → Type 0
Ends p read refused done =
    (q : Exclusive) (kind : Kind) → done ≡ Some kind → is_same_kind (kind_of q) kind ≡ true → IsLast q p read refused kind

pub record Fits (p : Progress) (read : CtrlRead) (o : Outcome) : Type 0 where
  pub low : (n : ℕ) → MayTake n read → late_in p ≤ n → late_in o.progress ≤ n
  pub ends : Ends p read o.step.refused o.step.done

pub none_ends : (p : Progress) (read : CtrlRead) (refused : Option (Kind × ErrCode)) → Ends p read refused None
none_ends p read refused q kind is same = absurd (cc)

-- no exchange is one of them
data IsExchange : Kind → Type 0 where
  OfFeatures : IsExchange Features
  OfVersion : IsExchange Version
  OfLength : IsExchange Length

apart : (q : Exclusive) (kind : Kind) → IsExchange kind → is_same_kind (kind_of q) kind ≡ false
apart Update kind OfFeatures = refl
apart Request kind OfFeatures = refl
apart Map kind OfFeatures = refl
apart Phy kind OfFeatures = refl
apart Update kind OfVersion = refl
apart Request kind OfVersion = refl
apart Map kind OfVersion = refl
apart Phy kind OfVersion = refl
apart Update kind OfLength = refl
apart Request kind OfLength = refl
apart Map kind OfLength = refl
apart Phy kind OfLength = refl

same_some : (kind known : Kind) → Some known ≡ Some kind → known ≡ kind
same_some kind known is = cc

exchange_ends : (p : Progress) (read : CtrlRead) (refused : Option (Kind × ErrCode)) (known : Kind) → IsExchange known → Ends p read refused (Some known)
exchange_ends p read refused known exchange q kind is same =
    let no : true ≡ false = sym same ∙ ap (is_same_kind (kind_of q)) (sym (same_some kind known is)) ∙ apart q known exchange in absurd (cc)

-- ---- by outcome

choice : (p : Progress) (read : CtrlRead) (b : Bool) (x y : Outcome) → (b ≡ true → Fits p read x) → Fits p read y → Fits p read (if b then x else y)
choice p read true x y hx hy = hx refl
choice p read false x y hx hy = hy

two_at_least : (n a : ℕ) → (n == 1) ≡ false → 1 ≤ a → a ≤ n → 2 ≤ n
two_at_least zero a is one less = absurd (omega (arith, one, less))
two_at_least (suc zero) a is one less = absurd (cc)
two_at_least (suc (suc n)) a is one less = omega arith

answer_late : (own : OwnPeripheral) → reads_as_answer (peripheral_stage own) ≡ true → 1 ≤ late_at own
answer_late (exclusive RequestAcknowledged) is = omega arith
answer_late (exclusive RequestGranted) is = omega arith
answer_late (exclusive other) is = absurd (cc)
answer_late own is = absurd (cc)

phy_itself : (q : Exclusive) → is_same_kind (kind_of q) phy_kind ≡ true → answers q (Known (PhyUpdateInd 0 0 0)) ≡ true
phy_itself Phy is = refl
phy_itself Update is = absurd (cc)
phy_itself Request is = absurd (cc)
phy_itself Map is = absurd (cc)

abbrev at : TableFacts → Progress → TableFacts
at f p = record f { progress = p }

module _ (f : TableFacts) (p : Peripheral) (read : CtrlRead) where
  abbrev IsFit : Outcome → Type 0
  IsFit o = Fits (peripheral p) read o

  abbrev here : TableFacts
  here = at f (peripheral p)

  nothing : IsFit (unchanged here)
  nothing = record { low = λ n may less. less; ends = none_ends (peripheral p) read None }

  end_fits : (code : ErrCode) → IsFit (ended here code)
  end_fits code = record { low = λ n may less. less; ends = none_ends (peripheral p) read None }

  refusal : (is_one : Bool) (code : ErrCode) → IsFit (refused_if is_one here code)
  refusal true code = record { low = λ n may less. omega arith; ends = none_ends (peripheral p) read _ }
  refusal false code = nothing

  features : (value : ℕ) → IsFit (features_taken here value)
  features value =
      choice (peripheral p) read (awaits_features (own_exchange (peripheral p))) _ _
      (λ awaits. record { low = λ n may less. omega arith; ends = exchange_ends (peripheral p) read None Features OfFeatures }) nothing

  lengths : (rx tx : ℕ) → IsFit (length_taken here rx tx)
  lengths rx tx =
      choice (peripheral p) read (awaits_lengths (own_exchange (peripheral p))) _ _
      (λ awaits. record { low = λ n may less. omega arith; ends = exchange_ends (peripheral p) read None Length OfLength }) nothing

  version : (number company sub : ℕ) → IsFit (version_taken here number company sub)
  version number company sub = record {
    low = λ n may less. over n (is_version (own_exchange (peripheral p))) less;
    ends = done (is_version (own_exchange (peripheral p))) (is_wanted Version f.wanted);
  }
    where
      over : (n : ℕ) (runs : Bool) → late_at p.own ≤ n → late_in (if runs then peripheral (record p { own = exclusive idle }) else peripheral p) ≤ n
      over n true less = omega arith
      over n false less = less

      done : (runs wants : Bool) → Ends (peripheral p) read None (if runs || wants then Some Version else None)
      done true wants = exchange_ends (peripheral p) read None Version OfVersion
      done false true = exchange_ends (peripheral p) read None Version OfVersion
      done false false = none_ends (peripheral p) read None

  either : (ctrl : Ctrl) → IsFit (taken_by_either here ctrl)
  either (TerminateInd code) = record { low = λ n may less. less; ends = none_ends (peripheral p) read None }
  either (UnknownRsp opcode) = refusal (is_opcode (first_opcode (peripheral p)) opcode) _
  either (FeatureRsp value) = features value
  either (VersionInd number company sub) = version number company sub
  either (RejectInd code) = refusal (is_some (first_opcode (peripheral p))) _
  either (RejectExtInd opcode code) =
      refusal (is_opcode (first_opcode (peripheral p)) opcode || is_opcode (later_opcode (peripheral p)) opcode) _
  either (LengthReq rx rx_time tx tx_time) = record { low = λ n may less. less; ends = none_ends (peripheral p) read None }
  either (LengthRsp rx rx_time tx tx_time) = lengths rx tx
  either other = nothing

  follow_fits : (new : Ahead) (o : Outcome) → IsFit o → (ahead : Ahead) → IsFit (follow here ahead new o)
  follow_fits new o h Nothing = h
  follow_fits new o h update_ahead = end_fits _
  follow_fits new o h map_ahead = end_fits _

  granting : (kind : Kind) (o : Outcome) → IsFit o → IsFit (after_grant here p kind o)
  granting kind o h =
      choice (peripheral p) read (central_answered (peripheral_stage p.own)) _ _ (λ is. by (collision (kind_at_peripheral p.own) kind)) h
    where
      by : (code : Option ErrCode) → IsFit (outlived here code o)
      by None = h
      by (Some code) = end_fits code

  update : answers Request read ≡ true → (indication : Indication) → IsFit (update_taken here p indication)
  update is indication =
      follow_fits update_ahead _
      (choice (peripheral p) read (reads_as_answer (peripheral_stage p.own)) _ _
      (λ late. record {
        low = λ n may less. two_at_least n (late_at p.own) (may is) (answer_late p.own late) less;
        ends = none_ends (peripheral p) read None;
      })
      (record { low = λ n may less. less; ends = none_ends (peripheral p) read None }))
      p.ahead

  phy_ind : ((q : Exclusive) → is_same_kind (kind_of q) phy_kind ≡ true → answers q read ≡ true) → IsFit (phy_ind_taken here p)
  phy_ind is =
      choice (peripheral p) read (has_phy_of_central p.peer) _ _ (λ has. record { low = λ n may less. less; ends = none_ends (peripheral p) read None })
      (choice (peripheral p) read (awaits_phy_ind (peripheral_stage p.own)) _ _
      (λ awaits. record {
        low = λ n may less. omega arith;
        ends = λ q kind done same. last q kind (same_some kind phy_kind done) same awaits;
      })
      nothing)
    where
      last : (q : Exclusive) (kind : Kind) → phy_kind ≡ kind → is_same_kind (kind_of q) kind ≡ true → awaits_phy_ind (peripheral_stage p.own) ≡ true
          → IsLast q (peripheral p) read None kind
      last q kind known same awaits = record {
        own = phy_ind_own p.own awaits ∙ ap (λ (k : Kind). Some k) known;
        answered = is q (ap (is_same_kind (kind_of q)) known ∙ same);
        none = refl;
      }

module _ (f : TableFacts) (p : Peripheral) where
  at_peripheral : (quiet : Bool) (ctrl : Ctrl) → Fits (peripheral p) (Known ctrl) (taken_by_peripheral (at f (peripheral p)) p quiet ctrl)
  at_peripheral quiet (ConnectionUpdateInd win_size win_offset interval latency timeout instant) = update f p _ refl _
  at_peripheral quiet (ChannelMapInd map instant) =
      granting f p _ map_kind _ (follow_fits f p _ map_ahead _ (record { low = λ n may less. less; ends = none_ends (peripheral p) _ None }) p.ahead)
  at_peripheral quiet (EncReq rand ediv skd_m iv_m) = record { low = λ n may less. less; ends = none_ends (peripheral p) _ None }
  at_peripheral quiet PauseEncReq = record { low = λ n may less. less; ends = none_ends (peripheral p) _ None }
  at_peripheral quiet PauseEncRsp =
      choice (peripheral p) _ quiet _ _ (λ is. nothing f p _) (record { low = λ n may less. less; ends = none_ends (peripheral p) _ None })
  at_peripheral quiet StartEncRsp =
      choice (peripheral p) _ quiet _ _ (λ is. nothing f p _) (record { low = λ n may less. less; ends = none_ends (peripheral p) _ None })
  at_peripheral quiet (FeatureReq value) = record { low = λ n may less. less; ends = none_ends (peripheral p) _ None }
  at_peripheral quiet (PhyReq tx rx) = granting f p _ phy_kind _ (record { low = λ n may less. less; ends = none_ends (peripheral p) _ None })
  at_peripheral quiet (PhyUpdateInd to_peripheral to_central instant) = phy_ind f p _ phy_itself
  at_peripheral quiet other = either f p _ other

by_role : (f : TableFacts) (p : Progress) (quiet : Bool) (ctrl : Ctrl) → role_of p ≡ peripheral_role → Fits p (Known ctrl) (taken_by p (at f p) quiet ctrl)
by_role f (central c) quiet ctrl role = absurd (cc)
by_role f (peripheral p) quiet ctrl role =
    choice (peripheral p) (Known ctrl) (is_foreign peripheral_role ctrl) _ _
    (λ is. record { low = λ n may less. less; ends = none_ends (peripheral p) (Known ctrl) None }) (at_peripheral f p quiet ctrl)

pub takes_pdu : (f : TableFacts) (quiet : Bool) (read : CtrlRead) → role_of f.progress ≡ peripheral_role → Fits f.progress read (outcome_of f quiet read)
takes_pdu f quiet (Known ctrl) role = by_role f f.progress quiet ctrl role
takes_pdu f quiet (Unknown opcode) role = record { low = λ n may less. less; ends = none_ends f.progress (Unknown opcode) None }
takes_pdu f quiet Bare role = record { low = λ n may less. less; ends = none_ends f.progress Bare None }

-- ---- in any phase of encryption

-- what is seen as an answer is read as one
pub answers_seen : (q : Exclusive) (read seen : CtrlRead) → SeenAs read seen → answers q seen ≡ true → answers q read ≡ true
answers_seen q read seen (AsRead is) answered = ap (answers q) (sym is) ∙ answered
answers_seen q read seen (AsUnknown ctrl named is seen_is) answered =
    let no : ◌≡◌ {A = Bool} false true = sym (ap (answers q) seen_is) ∙ answered in absurd (cc)

-- the first PDU of a procedure of the peer is none
pub first_answers : {X : Type 0} (q : Exclusive) (ctrl : Ctrl) → ctrl_class ctrl ≡ request_class → answers q (Known ctrl) ≡ true → X
first_answers q (ConnectionUpdateInd win_size win_offset interval latency timeout instant) class answered = absurd (cc)
first_answers q (PhyUpdateInd to_peripheral to_central instant) class answered = absurd (cc)
first_answers q ctrl class answered = absurd (cc)
