-- Calls that may come on a table, one step of an end after another.
use Rattle.std.proofs.Common.{◌≡◌, ℕ, ◌≤◌, Bool, true, false, not, ◌&&◌, if◌then◌else◌, List, [], ◌∷◌, ◌++◌, Option, Some, None, Result, Ok, Err, is_none, is_some, refl, sym, ap, subst, ◌∙◌, append_assoc, append-nil, arith}
use Rattle.std.specs.List.{AllByRecursion}
use Rattle.ble_base.specs.ErrorCodes.{instant_passed}
use Rattle.ble_base.specs.declared.error_codes.ErrCode.{ErrCode}
use Rattle.ble_base.specs.declared.procedure_kinds.Kind.TheVariants.{Encrypt}
use Rattle.ble_base.specs.declared.roles.Role.{Role}
use Rattle.ble_base.specs.declared.roles.Role.TheVariants.{Central as central_role}
use Rattle.data_pdu.specs.declared.ctrl.Ctrl.{Ctrl}
use Rattle.data_pdu.specs.declared.ctrl.Ctrl.TheVariants.{EncReq, PauseEncReq, TerminateInd}
use Rattle.data_pdu.specs.declared.ctrl.CtrlRead.TheVariants.{Bare}
use Rattle.instants.specs.declared.indications.Indication.{Indication}
use Rattle.instants.specs.Track.{next_number, track_after_take}
use Rattle.table_laws.specs.procedure_values.declared.asks.Ask.{Ask}
use Rattle.table_laws.specs.procedure_values.declared.asks.Ask.TheVariants.{Update as ask_update}
use Rattle.table_laws.specs.procedure_values.declared.drafts.Draft.{Draft}
use Rattle.table_laws.specs.procedure_values.declared.drafts.Draft.TheVariants.{Cipher, FeatureReq, LengthReq, Map, PeripheralFeatureReq, PhyReq, Request, Update}
use Rattle.table_laws.specs.procedure_values.Drafts.{is_out}
use Rattle.table_laws.specs.procedure_stages.declared.closing.Closing.{Closing}
use Rattle.table_laws.specs.procedure_stages.declared.closing.Closing.TheVariants.{Closed, Disconnecting, Open}
use Rattle.table_laws.specs.procedure_stages.declared.stages.OwnCentral.{OwnCentral}
use Rattle.table_laws.specs.procedure_stages.declared.stages.OwnCentral.TheVariants.{EncryptSent, EncryptUnsent}
use Rattle.table_laws.specs.procedure_stages.declared.stages.Progress.{Progress}
use Rattle.table_laws.specs.procedure_stages.declared.stages.Progress.TheVariants.{Central as central, Peripheral as peripheral}
use Rattle.table_laws.specs.procedure_stages.declared.steps.Effect.{Effect}
use Rattle.table_laws.specs.procedure_stages.declared.steps.Effect.TheVariants.{PeerEnds}
use Rattle.table_laws.specs.procedure_stages.Awaited.{is_own_encryption}
use Rattle.table_laws.specs.procedure_stages.Closing.{is_open}
use Rattle.table_laws.specs.procedure_stages.InProgress.{is_host_asked}
use Rattle.table_laws.specs.procedure_stages.Kinds.{kind_at_central, own_kind, role_of}
use Rattle.table_laws.specs.procedure_stages.Steps.{closing_after}
use Rattle.table_laws.specs.procedures.Beginning.{ask_at, begin_at, place_to_begin}
use Rattle.table_laws.specs.procedures.Calls.{Call, after_calls, is_given, takes}
use Rattle.table_laws.specs.procedures.Going.{closing_given, entered_step, host_answer_step, is_answer, terminate_step}
use Rattle.table_laws.specs.procedures.Sending.{acked_step}
use Rattle.table_laws.specs.procedures.Table.{TableFacts, first_facts}
use Rattle.table_laws.specs.procedures.Taking.{facts_with, outcome_of}
use Rattle.table_laws.specs.Encrypting.{has_encryption}
use Rattle.table_laws.specs.Pasts.{May, MayAll, is_key_asked, key_after_call, key_after_calls, key_after_given}
use Rattle.table_laws.specs.Quiet.{PassesPhase, first_pdus_waiting, is_first_pdu}
use Rattle.table_laws.specs.Waiting.{count_if, is_encryption_request, is_own_request, number_of, own_waiting}
use Rattle.table_laws.proofs.Bounds.{none_after}
use Rattle.table_laws.proofs.Quiet.{first_after}
use Rattle.control_model.specs.Control.{Control, Step, Answers, Asks, Disconnects, Enters, Owes, SeesAcknowledged, Sends, Takes, after, after_all, ended, goes_out, indicated_by, is_to_come, moved, table_if, taken, took, went}
use Rattle.control_model.proofs.Calls.{any_step, either_way, took_by}
use Rattle.phased_control.specs.Calls.{AllPassPhase, all_calls, call_if, calls_now, calls_of}
use Rattle.phased_control.specs.Ciphers.{cipher_of, ciphers_in, ciphers_waiting}
use Rattle.phased_control.specs.Steps.{owed_steps}
use Rattle.phased_control.proofs.Calling.{calls_joined, keys_joined, makes_all, makes_calls, may_joined, passes_joined}
use Rattle.phased_control.proofs.Tables.{following_table}

-- ---- the calls that led to a table

pub record At (role : Role) (max_rx : ℕ) (past : List Call) (f : TableFacts) (key : Bool) : Type 0 where
  pub may : MayAll (first_facts role max_rx) false past
  pub passes : AllPassPhase (first_facts role max_rx) past
  pub is : after_calls (first_facts role max_rx) past ≡ f
  pub asked : is_key_asked past ≡ key

module _ (role : Role) (max_rx : ℕ) (past : List Call) (f : TableFacts) (key : Bool) (at : At role max_rx past f key) where
  pub extends : (calls : List Call) → MayAll f key calls → AllPassPhase f calls → At role max_rx (past ++ calls) (after_calls f calls) (key_after_calls key calls)
  extends calls may passes =
      record {
        may =
            may_joined past calls (first_facts role max_rx) false at.may
            (subst (λ (g : TableFacts). MayAll g (is_key_asked past) calls) (sym at.is) (subst (λ (k : Bool). MayAll f k calls) (sym at.asked) may));
        passes = passes_joined past calls (first_facts role max_rx) at.passes (subst (λ (g : TableFacts). AllPassPhase g calls) (sym at.is) passes);
        is = calls_joined past calls (first_facts role max_rx) ∙ ap (λ (g : TableFacts). after_calls g calls) at.is;
        asked = keys_joined past calls false ∙ ap (λ (k : Bool). key_after_calls k calls) at.asked;
      }

  -- no own request waits where this end runs no procedure of its own
  pub none_own : own_kind f.progress ≡ None → own_waiting f ≡ 0
  none_own none =
      subst (λ (g : TableFacts). own_waiting g ≡ 0) at.is (none_after role max_rx past at.may (subst (λ (g : TableFacts). own_kind g.progress ≡ None) (sym at.is) none))

-- no first PDU of another own procedure waits where a central runs an encryption
pub none_first : (max_rx : ℕ) (past : List Call) (f : TableFacts) (key : Bool) → At central_role max_rx past f key → has_encryption f.progress ≡ true → first_pdus_waiting f ≡ 0
none_first max_rx past f key at has =
    subst (λ (g : TableFacts). first_pdus_waiting g ≡ 0) at.is
    (first_after max_rx past (takes Bare 0 false) at.may (sym (ap not (ap (λ (g : TableFacts). has_encryption g.progress) at.is ∙ has))) refl)

-- ---- what waits of the own procedure is a first PDU, or a request of the encryption

abbrev pub IsNoRequest : Ctrl → Type 0
IsNoRequest ctrl = is_encryption_request ctrl ≡ false

own_of : (draft : Draft) → AllByRecursion IsNoRequest (cipher_of draft) → count_if (is_own_request draft) ≤ count_if (is_first_pdu draft)
own_of (Cipher (EncReq rand ediv skd_m iv_m)) none = absurd (by none.0)
  where
    by : true ≡ false → ⊥
    by e = absurd (cc)
own_of (Cipher PauseEncReq) none = absurd (by none.0)
  where
    by : true ≡ false → ⊥
    by e = absurd (cc)
own_of (Cipher ctrl) none = omega arith
own_of (Update params) none = omega arith
own_of (Map map) none = omega arith
own_of (Request min max latency timeout) none = omega arith
own_of PhyReq none = omega arith
own_of FeatureReq none = omega arith
own_of PeripheralFeatureReq none = omega arith
own_of (LengthReq rx tx) none = omega arith
own_of draft none = omega arith

all_split : (xs ys : List Ctrl) → AllByRecursion IsNoRequest (xs ++ ys) → AllByRecursion IsNoRequest xs × AllByRecursion IsNoRequest ys
all_split [] ys all = (tt, all)
all_split (x ∷ xs) ys all = let more = all_split xs ys all.1 in ((all.0, more.0), more.1)

own_in : (drafts : List Draft) → AllByRecursion IsNoRequest (ciphers_in drafts) → number_of is_own_request drafts ≤ number_of is_first_pdu drafts
own_in [] none = omega arith
own_in (draft ∷ drafts) none =
    let parts = all_split (cipher_of draft) (ciphers_in drafts) none in
    let one = own_of draft parts.0 in
    let rest = own_in drafts parts.1 in
    omega (arith, one, rest)

pub no_own : (f : TableFacts) → AllByRecursion IsNoRequest (ciphers_waiting f) → first_pdus_waiting f ≡ 0 → own_waiting f ≡ 0
no_own f none first = let less = own_in f.queue.drafts none in omega (arith, less, first)

-- ---- the own encryption of a central

pub encrypts_kind : (p : Progress) → role_of p ≡ central_role → has_encryption p ≡ true → own_kind p ≡ Some Encrypt
encrypts_kind (central c) role is = by c.own is
  where
    by : (own : OwnCentral) → is_own_encryption own ≡ true → kind_at_central own ≡ Some Encrypt
    by EncryptUnsent h = refl
    by EncryptSent h = refl
    by other h = absurd (cc)
encrypts_kind (peripheral p) role is = absurd (cc)

-- ---- once a link is to end it stays so

shut_taken : (effect : Effect) (closing : Closing) → is_open (closing_after effect closing) ≡ true → is_open closing ≡ true
shut_taken (PeerEnds code) Open opens = refl
shut_taken (PeerEnds code) Closed opens = absurd (cc)
shut_taken (PeerEnds code) Disconnecting opens = absurd (cc)
shut_taken other closing opens = opens

shut_given : (ctrl : Ctrl) (closing : Closing) → is_open (closing_given ctrl closing) ≡ true → is_open closing ≡ true
shut_given (TerminateInd code) Open opens = refl
shut_given (TerminateInd code) Closed opens = absurd (cc)
shut_given (TerminateInd code) Disconnecting opens = absurd (cc)
shut_given ctrl closing opens = opens

abbrev Opens : Control → Control → Type 0
Opens c d = is_open d.table.closing ≡ true → is_open c.table.closing ≡ true

opens_if : (b : Bool) (g : TableFacts) (c : Control) → (is_open g.closing ≡ true → is_open c.table.closing ≡ true) → Opens c (table_if b g c)
opens_if true g c h = h
opens_if false g c h = λ opens. opens

opens_taken : (g : TableFacts) (indication : Option Indication) (c : Control) → (is_open g.closing ≡ true → is_open c.table.closing ≡ true) → Opens c (taken g None indication c)
opens_taken g None c h = h
opens_taken g (Some indication) c h = by (is_to_come c.track indication)
  where
    by : (b : Bool) → Opens c (if b then record c { table = g; track = track_after_take c.track indication } else ended (record { 0 = instant_passed }) c)
    by true = h
    by false = λ opens. opens

opens_entered : (b : Bool) (f : TableFacts) → (entered_step f b).0.closing ≡ f.closing
opens_entered true f = refl
opens_entered false f = refl

opens_begun : (f : TableFacts) (slot : ℕ) (place : Option ℕ) (ask : Option Ask) → (begin_at f slot place ask).0.closing ≡ f.closing
opens_begun f slot None ask = refl
opens_begun f slot (Some place) None = refl
opens_begun f slot (Some place) (Some ask) = refl

opens_answered : (f : TableFacts) (answer : Result Ask ErrCode) → (host_answer_step f answer).closing ≡ f.closing
opens_answered f (Ok (ask_update interval latency timeout)) = refl
opens_answered f (Ok other) = refl
opens_answered f (Err code) = refl

opens_moved : (step : Step) (c : Control) → Opens c (moved step c)
opens_moved (Enters slot quiet) c =
    let f = (entered_step c.table (is_some (next_number c.track))).0 in
    subst (λ (closing : Closing). is_open closing ≡ true → is_open c.table.closing ≡ true)
    (sym (opens_begun f slot (place_to_begin f quiet) (ask_at (place_to_begin f quiet) f.wanted) ∙ opens_entered (is_some (next_number c.track)) c.table)) (λ opens. opens)
opens_moved (Asks ask) c = λ opens. opens
opens_moved (Answers answer) c =
    opens_if (is_host_asked c.table.progress && is_answer answer) _ c
    (subst (λ (closing : Closing). is_open closing ≡ true → is_open c.table.closing ≡ true) (sym (opens_answered c.table answer)) (λ opens. opens))
opens_moved (Disconnects reason) c = opens_if (is_open c.table.closing) (terminate_step c.table reason) c (λ opens. absurd (cc))
opens_moved (Sends slot quiet) c =
    either_way (Opens c) (goes_out quiet c) _ c
    (subst (λ (f : TableFacts). is_open f.closing ≡ true → is_open c.table.closing ≡ true)
    (sym (following_table (role_of c.table.progress) (went slot quiet c).1 (record c { table = (went slot quiet c).0 }))) (λ opens. opens))
    (λ opens. opens)
opens_moved SeesAcknowledged c = opens_if (is_out c.table.out) (acked_step c.table).0 c (λ opens. opens)
opens_moved (Takes read slot quiet) c =
    took_by (Opens c) c (λ code. λ opens. opens) read slot quiet
    (opens_taken (facts_with c.table slot (outcome_of c.table quiet read)) (indicated_by (outcome_of c.table quiet read).step.effect) c
    (shut_taken (outcome_of c.table quiet read).step.effect c.table.closing))
opens_moved (Owes ctrl) c = shut_given ctrl c.table.closing

pub opens_before : (step : Step) (c : Control) → is_open (after step c).table.closing ≡ true → is_open c.table.closing ≡ true
opens_before step c = any_step (Opens c) step c (opens_moved step c) (λ opens. opens)

pub opens_before_all : (steps : List Step) (c : Control) → is_open (after_all steps c).table.closing ≡ true → is_open c.table.closing ≡ true
opens_before_all [] c opens = opens
opens_before_all (step ∷ steps) c opens = opens_before step c (opens_before_all steps (after step c) opens)

-- ---- steps whose calls may come

pub record Fine (c : Control) (key : Bool) (steps : List Step) : Type 0 where
  pub may : MayAll c.table key (all_calls steps c)
  pub passes : AllPassPhase c.table (all_calls steps c)

pub fine_none : (c : Control) (key : Bool) → Fine c key []
fine_none c key = record { may = tt; passes = tt }

pub calls_are : (step : Step) (c : Control) → c.ends ≡ None → calls_now step c ≡ calls_of step c
calls_are step c lasts = subst (λ (ends : Option ErrCode). (if is_none ends then calls_of step c else []) ≡ calls_of step c) (sym lasts) refl

pub fine_more : (step : Step) (steps : List Step) (c : Control) (key : Bool) → MayAll c.table key (calls_now step c) → AllPassPhase c.table (calls_now step c)
    → Fine (after step c) (key_after_calls key (calls_now step c)) steps → Fine c key (step ∷ steps)
fine_more step steps c key may passes fine =
    record {
      may =
          may_joined (calls_now step c) (all_calls steps (after step c)) c.table key may
          (subst (λ (f : TableFacts). MayAll f (key_after_calls key (calls_now step c)) (all_calls steps (after step c))) (makes_calls step c) fine.may);
      passes =
          passes_joined (calls_now step c) (all_calls steps (after step c)) c.table passes
          (subst (λ (f : TableFacts). AllPassPhase f (all_calls steps (after step c))) (makes_calls step c) fine.passes);
    }

pub lists_joined : (xs ys : List Step) (c : Control) → all_calls (xs ++ ys) c ≡ all_calls xs c ++ all_calls ys (after_all xs c)
lists_joined [] ys c = refl
lists_joined (x ∷ xs) ys c =
    ap (λ (calls : List Call). calls_now x c ++ calls) (lists_joined xs ys (after x c)) ∙ sym (append_assoc (calls_now x c) (all_calls xs (after x c)) (all_calls ys (after_all xs (after x c))))

pub fine_joined : (xs ys : List Step) (c : Control) (key : Bool) → Fine c key xs → Fine (after_all xs c) (key_after_calls key (all_calls xs c)) ys → Fine c key (xs ++ ys)
fine_joined xs ys c key one two =
    record {
      may =
          subst (λ (calls : List Call). MayAll c.table key calls) (sym (lists_joined xs ys c))
          (may_joined (all_calls xs c) (all_calls ys (after_all xs c)) c.table key one.may
          (subst (λ (f : TableFacts). MayAll f (key_after_calls key (all_calls xs c)) (all_calls ys (after_all xs c))) (makes_all xs c) two.may));
      passes =
          subst (λ (calls : List Call). AllPassPhase c.table calls) (sym (lists_joined xs ys c))
          (passes_joined (all_calls xs c) (all_calls ys (after_all xs c)) c.table one.passes
          (subst (λ (f : TableFacts). AllPassPhase f (all_calls ys (after_all xs c))) (makes_all xs c) two.passes));
    }

-- ---- whether a key is asked for

pub key_if : (b : Bool) (call : Call) (key : Bool) → key_after_call key call ≡ key → key_after_calls key (call_if b call) ≡ key
key_if true call key is = is
key_if false call key is = refl

abbrev pub is_owes : Step → Bool
is_owes (Owes ctrl) = true
is_owes step = false

key_of : (step : Step) (c : Control) (key : Bool) → is_owes step ≡ false → key_after_calls key (calls_of step c) ≡ key
key_of (Owes ctrl) c key is = absurd (cc)
key_of (Enters slot quiet) c key is = refl
key_of (Asks ask) c key is = refl
key_of (Answers answer) c key is = key_if (is_host_asked c.table.progress && is_answer answer) _ key refl
key_of (Disconnects reason) c key is = key_if (is_open c.table.closing) _ key refl
key_of (Sends slot quiet) c key is = key_if (goes_out quiet c) _ key refl
key_of SeesAcknowledged c key is = key_if (is_out c.table.out) _ key refl
key_of (Takes read slot quiet) c key is = key_if (is_none (took read slot quiet c).ends) _ key refl

pub key_now : (step : Step) (c : Control) (key : Bool) → is_owes step ≡ false → key_after_calls key (calls_now step c) ≡ key
key_now step c key is = by (is_none c.ends)
  where
    by : (b : Bool) → key_after_calls key (if b then calls_of step c else []) ≡ key
    by true = key_of step c key is
    by false = refl

abbrev pub key_given_by : Option Ctrl → Bool → Bool
key_given_by None key = key
key_given_by (Some ctrl) key = key_after_given key ctrl

pub key_owed : (owed : Option Ctrl) (c : Control) (key : Bool) → c.ends ≡ None → key_after_calls key (all_calls (owed_steps owed) c) ≡ key_given_by owed key
key_owed None c key lasts = refl
key_owed (Some ctrl) c key lasts =
    ap (λ (calls : List Call). key_after_calls key calls) (append-nil (calls_now (Owes ctrl) c) ∙ calls_are (Owes ctrl) c lasts)

-- what is queued may be
abbrev pub OwedMay : Control → Bool → Option Ctrl → Type 0
OwedMay c key None = Unit {0}
OwedMay c key (Some ctrl) = May c.table key (is_given ctrl)

pub fine_owed : (owed : Option Ctrl) (c : Control) (key : Bool) → OwedMay c key owed → Fine c key (owed_steps owed)
fine_owed None c key may = fine_none c key
fine_owed (Some ctrl) c key may =
    fine_more (Owes ctrl) [] c key (by (is_none c.ends)) (pass (is_none c.ends)) (fine_none (after (Owes ctrl) c) (key_after_calls key (calls_now (Owes ctrl) c)))
  where
    by : (b : Bool) → MayAll c.table key (if b then is_given ctrl ∷ [] else [])
    by true = (may, tt)
    by false = tt

    pass : (b : Bool) → AllPassPhase c.table (if b then is_given ctrl ∷ [] else [])
    pass true = (tt, tt)
    pass false = tt

-- a step that is no PDU of the encryption, where the link has not ended
pub fine_step : (step : Step) (steps : List Step) (c : Control) (key : Bool) → is_owes step ≡ false → c.ends ≡ None → MayAll c.table key (calls_of step c) → AllPassPhase c.table (calls_of step c)
    → Fine (after step c) key steps → Fine c key (step ∷ steps)
fine_step step steps c key is lasts may passes fine =
    fine_more step steps c key (subst (λ (calls : List Call). MayAll c.table key calls) (sym (calls_are step c lasts)) may)
    (subst (λ (calls : List Call). AllPassPhase c.table calls) (sym (calls_are step c lasts)) passes)
    (subst (λ (k : Bool). Fine (after step c) k steps) (sym (key_now step c key is)) fine)

pub may_if : (b : Bool) (call : Call) (f : TableFacts) (key : Bool) → (b ≡ true → May f key call) → MayAll f key (call_if b call)
may_if true call f key may = (may refl, tt)
may_if false call f key may = tt

pub passes_if : (b : Bool) (call : Call) (f : TableFacts) → (b ≡ true → PassesPhase f call) → AllPassPhase f (call_if b call)
passes_if true call f passes = (passes refl, tt)
passes_if false call f passes = tt
