-- The last PDU of each end as its table has it, and as it was fixed.
use Rattle.std.proofs.Common.{◌≡◌, ℕ, Bool, true, false, if◌then◌else◌, List, Option, Some, None, is_none, is_some, Result, Ok, Err, refl, sym, ap, subst, ◌∙◌}
use Rattle.std.proofs.lemmas.Bool.{and_parts}
use Rattle.ble_base.specs.declared.error_codes.ErrCode.{ErrCode}
use Rattle.ble_base.specs.declared.roles.Role.{Role}
use Rattle.ble_base.specs.declared.roles.Role.TheVariants.{Central, Peripheral}
use Rattle.data_pdu.specs.declared.ctrl.Ctrl.{Ctrl}
use Rattle.data_pdu.specs.declared.ctrl.CtrlRead.{CtrlRead}
use Rattle.data_pdu.specs.declared.ctrl.CtrlRead.TheVariants.{Known}
use Rattle.instants.specs.declared.indications.Indication.{Indication}
use Rattle.instants.specs.declared.indications.Params.{Params}
use Rattle.instants.specs.Track.{event_of, next_number}
use Rattle.phased_control.specs.procedure_values.declared.asks.Ask.{Ask}
use Rattle.phased_control.specs.procedure_values.declared.asks.Ask.TheVariants.{Update}
use Rattle.phased_control.specs.procedure_values.declared.drafts.Outgoing.{Outgoing}
use Rattle.phased_control.specs.procedure_values.declared.drafts.Outgoing.TheVariants.{Nothing}
use Rattle.phased_control.specs.procedure_values.Drafts.{ctrl_of_outgoing, is_out}
use Rattle.phased_control.specs.procedure_stages.Kinds.{role_of}
use Rattle.phased_control.specs.procedures.Beginning.{ask_at, begin_at, begin_step, place_to_begin}
use Rattle.phased_control.specs.procedures.Going.{entered_step, host_answer_step}
use Rattle.phased_control.specs.procedures.Queue.{next_of}
use Rattle.phased_control.specs.procedures.Sending.{acked_step}
use Rattle.phased_control.specs.procedures.Table.{TableFacts}
use Rattle.phased_control.specs.control_model.Control.{Control, Answers, Asks, Disconnects, Enters, Owes, SeesAcknowledged, Sends, Takes, after, ended, following, taken, table_if, went}
use Rattle.phased_control.proofs.control_model.Calls.{any_step, either_way, open_step, took_by}
use Rattle.phased_control.specs.Phased.{Phased, entered as phased_entered, is_quiet_now}
use Rattle.phased_control.specs.Taken.{PhasedStep, Response, Enters as enters, SeesAcknowledged as sees_acknowledged, Sends as sends, Takes as takes, phased_after, phased_moved}
use Rattle.joint_controls.specs.Joint.{AnswersRequest, AsksFor, CentralAcked, CentralEnters, CentralHost, CentralSends, CentralSendsData, CentralTakes, Clear, Control as control_item, Data, Ends, Fixed, HasKey, HasNoKey, HostStep, Item, Joint, JointStep, OnAir, PeripheralAcked, PeripheralEnters, PeripheralFixes, PeripheralFixesData, PeripheralHost, PeripheralSends, PeripheralTakes, Shuts, Taken, Way, act, after_all, beginning, central_takes, fixed, host_step, is_clear, is_fixed, is_free, item_by, may, may_transmit, next_item, next_out, on_air, peripheral_takes, sent_up, sends_data, taking}
use Rattle.joint_controls.specs.Ends.{IsSentOn, outgoing_on}
use Rattle.joint_controls.proofs.Keeping.{asking_keeps, choice, data_keeps, encrypting_if_keeps, given_keeps, lacking_keeps, took_keeps}
use Rattle.joint_controls.proofs.Running.{after_each, comes_by, comes_on}

-- ---- all steps but sending and an acknowledgement leave what is out

abbrev Has : Outgoing → Control → Type 0
Has out c = c.table.out ≡ out

abbrev HasP : Outgoing → Phased → Type 0
HasP out s = Has out s.control

module _ (out : Outgoing) where
  begun_at : (f : TableFacts) (slot : ℕ) (place : Option ℕ) (ask : Option Ask) → f.out ≡ out → (begin_at f slot place ask).0.out ≡ out
  begun_at f slot None ask h = h
  begun_at f slot (Some place) None h = h
  begun_at f slot (Some place) (Some ask) h = h

  begun : (f : TableFacts) (slot : ℕ) (quiet : Bool) → f.out ≡ out → (begin_step f slot quiet).0.out ≡ out
  begun f slot quiet h = begun_at f slot (place_to_begin f quiet) (ask_at (place_to_begin f quiet) f.wanted) h

  held : (f : TableFacts) (holds : Bool) → f.out ≡ out → (entered_step f holds).0.out ≡ out
  held f true h = h
  held f false h = h

  enters_keeps : (slot : ℕ) (quiet : Bool) (c : Control) → Has out c → Has out (after (Enters slot quiet) c)
  enters_keeps slot quiet c h =
      let holds = is_some (next_number c.track) in
      any_step (Has out) (Enters slot quiet) c (begun (entered_step c.table holds).0 slot quiet (held c.table holds h)) h

  answered : (f : TableFacts) (answer : Result Ask ErrCode) → f.out ≡ out → (host_answer_step f answer).out ≡ out
  answered f (Ok (Update interval latency timeout)) h = h
  answered f (Ok ask) h = h
  answered f (Err code) h = h

  answers_keeps : (answer : Result Ask ErrCode) (c : Control) → Has out c → Has out (after (Answers answer) c)
  answers_keeps answer c h = any_step (Has out) (Answers answer) c (either_way (Has out) _ _ c (answered c.table answer h) h) h

  disconnects_keeps : (reason : ErrCode) (c : Control) → Has out c → Has out (after (Disconnects reason) c)
  disconnects_keeps reason c h = any_step (Has out) (Disconnects reason) c (either_way (Has out) _ _ c h h) h

  asks_keeps : (ask : Ask) (c : Control) → Has out c → Has out (after (Asks ask) c)
  asks_keeps ask c h = any_step (Has out) (Asks ask) c h h

  owes_keeps : (ctrl : Ctrl) (c : Control) → Has out c → Has out (after (Owes ctrl) c)
  owes_keeps ctrl c h = any_step (Has out) (Owes ctrl) c h h

  ended_keeps : (code : ErrCode) (c : Control) → Has out c → Has out (ended code c)
  ended_keeps code c h = h

  taken_keeps : (f : TableFacts) (indication : Option Indication) (c : Control) → f.out ≡ out → Has out c → Has out (taken f None indication c)
  taken_keeps f None c hf h = hf
  taken_keeps f (Some indication) c hf h = either_way (Has out) _ _ _ hf h

  takes_keeps : (read : CtrlRead) (slot : ℕ) (quiet : Bool) (c : Control) → Has out c → Has out (after (Takes read slot quiet) c)
  takes_keeps read slot quiet c h =
      any_step (Has out) (Takes read slot quiet) c
      (took_by (Has out) c (λ code. h) read slot quiet (taken_keeps _ _ c h h)) h

  -- ---- with the phase

  entered_phased : (slot : ℕ) (s : Phased) → HasP out s → HasP out (phased_entered slot s)
  entered_phased slot s h =
      encrypting_if_keeps (Has out) owes_keeps _ _ _ (enters_keeps slot (is_quiet_now s) s.control h)

  abbrev pub Keeps : PhasedStep → Phased → Type 0
  Keeps step s = HasP out s → HasP out (phased_after step s)

  pub enters_end : (slot : ℕ) (s : Phased) → Keeps (enters slot) s
  enters_end slot s h = choice (HasP out) _ (phased_entered slot s) s (entered_phased slot s h) h

  hosted : (step : HostStep) (s : Phased) → HasP out s → HasP out (phased_moved (host_step step) s)
  hosted (AsksFor ask) s h = asks_keeps ask s.control h
  hosted (AnswersRequest answer) s h = answers_keeps answer s.control h
  hosted (Ends reason) s h = disconnects_keeps reason s.control h
  hosted HasKey s h = given_keeps (Has out) owes_keeps s h
  hosted HasNoKey s h = lacking_keeps (Has out) owes_keeps s h

  pub hosts_end : (step : HostStep) (s : Phased) → Keeps (host_step step) s
  hosts_end step s h = choice (HasP out) _ (phased_moved (host_step step) s) s (hosted step s h) h

  takes_read : (ctrl : Ctrl) (response : Response) (slot : ℕ) (s : Phased) → HasP out s → HasP out (phased_moved (takes (Known ctrl) slot response) s)
  takes_read ctrl response slot s h = took_keeps (Has out) owes_keeps takes_keeps ended_keeps slot response (Known ctrl) s h

  took_item : (item : Item) (slot : ℕ) (response : Response) (s : Phased) → HasP out s → HasP out (phased_moved (taking item slot response) s)
  took_item Data slot response s h = data_keeps (Has out) owes_keeps takes_keeps ended_keeps s h
  took_item (control_item outgoing ctrl) slot response s h = takes_read ctrl response slot s h

  pub takes_end : (item : Item) (slot : ℕ) (response : Response) (s : Phased) → Keeps (taking item slot response) s
  takes_end item slot response s h = choice (HasP out) _ (phased_moved (taking item slot response) s) s (took_item item slot response s h) h

-- ---- what is sent is out

lasts : (P : Phased → Type 0) (step : PhasedStep) (s : Phased) → s.control.ends ≡ None → P (phased_moved step s) → P (phased_after step s)
lasts P step s goes h =
    subst (λ (b : Bool). P (if b then phased_moved step s else s)) (sym (ap (λ (ends : Option ErrCode). is_none ends) goes)) h

following_table : (role : Role) (indication : Option Indication) (c : Control) → (following role indication c).table ≡ c.table
following_table Central (Some indication) c = refl
following_table Central None c = refl
following_table Peripheral indication c = refl

module _ (c : Control) (slot : ℕ) (quiet : Bool) where
  abbrev goes : Outgoing
  goes = next_of c.table (event_of c.track) quiet

  sent_by : (o : Option Ctrl) → is_some (item_by goes o) ≡ true
      → (if is_some o then following (role_of c.table.progress) (went slot quiet c).1 (record c { table = (went slot quiet c).0 }) else c).table.out ≡ goes
  sent_by None is = absurd (cc)
  sent_by (Some ctrl) is =
      ap (λ (f : TableFacts). f.out)
      (following_table (role_of c.table.progress) (went slot quiet c).1 (record c { table = (went slot quiet c).0 }))

pub sends_next : (s : Phased) (slot : ℕ) → s.control.ends ≡ None → is_some (next_item s) ≡ true → HasP (next_out s) (phased_after (sends slot) s)
sends_next s slot goes_on some =
    lasts (HasP (next_out s)) (sends slot) s goes_on
    (open_step (Has (next_out s)) (Sends slot (is_quiet_now s)) s.control goes_on
    (sent_by s.control slot (is_quiet_now s) (ctrl_of_outgoing (next_out s) (event_of s.control.track) s.control.track.params.latency) some))

-- the way of what is sent
module _ (outgoing : Outgoing) where
  item_out : (o : Option Ctrl) → is_some (item_by outgoing o) ≡ true
      → (outgoing_on (fixed (item_by outgoing o)) ≡ outgoing) × ((sealed : Bool) → outgoing_on (on_air (item_by outgoing o) sealed) ≡ outgoing)
  item_out None is = absurd (cc)
  item_out (Some ctrl) is = (refl, λ sealed. refl)

  item_sent : (event latency : ℕ) (o : Option Ctrl) → ctrl_of_outgoing outgoing event latency ≡ o
      → IsSentOn (fixed (item_by outgoing o)) × ((sealed : Bool) → IsSentOn (on_air (item_by outgoing o) sealed))
  item_sent event latency None is = (tt, λ sealed. tt)
  item_sent event latency (Some ctrl) is =
      (record { event = event; latency = latency; is = is }, λ sealed. record { event = event; latency = latency; is = is })

pub next_is_out : (s : Phased) → is_some (next_item s) ≡ true
    → (outgoing_on (fixed (next_item s)) ≡ next_out s) × ((sealed : Bool) → outgoing_on (on_air (next_item s) sealed) ≡ next_out s)
next_is_out s some = item_out (next_out s) (ctrl_of_outgoing (next_out s) (event_of s.control.track) s.control.track.params.latency) some

next_is_sent : (s : Phased) → IsSentOn (fixed (next_item s)) × ((sealed : Bool) → IsSentOn (on_air (next_item s) sealed))
next_is_sent s =
    item_sent (next_out s) (event_of s.control.track) s.control.track.params.latency
    (ctrl_of_outgoing (next_out s) (event_of s.control.track) s.control.track.params.latency) refl

-- ---- what is acknowledged is out no more

acked_by : (out : Outgoing) (c : Control) → c.table.out ≡ out → Has Nothing (table_if (is_out out) (acked_step c.table).0 c)
acked_by Nothing c is = is
acked_by out c is = refl

pub acked_end : (s : Phased) → s.control.ends ≡ None → HasP Nothing (phased_after sees_acknowledged s)
acked_end s goes_on =
    lasts (HasP Nothing) sees_acknowledged s goes_on
    (asking_keeps (Has Nothing) (owes_keeps Nothing) _ _
    (open_step (Has Nothing) SeesAcknowledged s.control goes_on (acked_by s.control.table.out s.control refl)))

-- ---- both ends

pub record Tied (s : Joint) : Type 0 where
  pub central : HasP (outgoing_on s.down) s.central
  pub peripheral : HasP (outgoing_on s.up) s.peripheral
  pub down : is_fixed s.down ≡ false
  pub sent_down : IsSentOn s.down
  pub sent_up : IsSentOn s.up

pub first_tied : (central_rx peripheral_rx : ℕ) (first : Params) (slot : ℕ) → Tied (beginning central_rx peripheral_rx first slot)
first_tied central_rx peripheral_rx first slot =
    record { central = refl; peripheral = refl; down = refl; sent_down = tt; sent_up = tt }

air_fixed : (o : Option Item) (sealed : Bool) → is_fixed (on_air o sealed) ≡ false
air_fixed None sealed = refl
air_fixed (Some item) sealed = refl

sent_up_out : (way : Way) (seals : Bool) → outgoing_on (sent_up way seals) ≡ outgoing_on way
sent_up_out Clear seals = refl
sent_up_out (Fixed Data sealed) seals = refl
sent_up_out (Fixed (control_item outgoing ctrl) sealed) seals = refl
sent_up_out (OnAir item sealed) seals = refl
sent_up_out (Taken item) seals = refl

sent_up_sent : (way : Way) (seals : Bool) → IsSentOn way → IsSentOn (sent_up way seals)
sent_up_sent Clear seals h = tt
sent_up_sent (Fixed Data sealed) seals h = tt
sent_up_sent (Fixed (control_item outgoing ctrl) sealed) seals h = h
sent_up_sent (OnAir item sealed) seals h = h
sent_up_sent (Taken item) seals h = h

module _ (s : Joint) (t : Tied s) where
  taken_down : (way : Way) (slot : ℕ) (response : Response) → s.down ≡ way → Tied (peripheral_takes way slot response s)
  taken_down Clear slot response is = t
  taken_down (Fixed item sealed) slot response is = t
  taken_down (Taken item) slot response is = t
  taken_down (OnAir item sealed) slot response is =
      record {
        central = t.central ∙ ap outgoing_on is;
        peripheral = takes_end (outgoing_on s.up) item slot response s.peripheral t.peripheral;
        down = refl;
        sent_down = subst IsSentOn is t.sent_down;
        sent_up = t.sent_up;
      }

  taken_up : (way : Way) (slot : ℕ) → s.up ≡ way → Tied (central_takes way slot s)
  taken_up Clear slot is = t
  taken_up (Fixed item sealed) slot is = t
  taken_up (Taken item) slot is = t
  taken_up (OnAir item sealed) slot is =
      record {
        central = takes_end (outgoing_on s.down) item slot _ s.central t.central;
        peripheral = t.peripheral ∙ ap outgoing_on is;
        down = t.down;
        sent_down = t.sent_down;
        sent_up = subst IsSentOn is t.sent_up;
      }

  -- data is fixed or sent only where the way is clear
  data_out : (out : Outgoing) (way : Way) → out ≡ outgoing_on way → is_clear way ≡ true → out ≡ Nothing
  data_out out Clear is clear = is
  data_out out (Fixed item sealed) is clear = absurd (cc)
  data_out out (OnAir item sealed) is clear = absurd (cc)
  data_out out (Taken item) is clear = absurd (cc)

pub tied_step : (step : JointStep) (s : Joint) → Tied s → may step s ≡ true → Tied (act step s)
tied_step (CentralEnters slot) s t comes = record { central = enters_end (outgoing_on s.down) slot s.central t.central; peripheral = t.peripheral; down = t.down; sent_down = t.sent_down; sent_up = t.sent_up }
tied_step (CentralHost step) s t comes = record { central = hosts_end (outgoing_on s.down) step s.central t.central; peripheral = t.peripheral; down = t.down; sent_down = t.sent_down; sent_up = t.sent_up }
tied_step (CentralSends slot) s t comes =
    let some = (and_parts (may_transmit s.down s.up) (is_some (next_item s.central)) (comes_by (CentralSends slot) s comes)).1 in
    let out = sends_next s.central slot (comes_on (CentralSends slot) s comes).central some in
    record { central = out ∙ sym ((next_is_out s.central some).1 _); peripheral = t.peripheral; down = air_fixed (next_item s.central) _; sent_down = (next_is_sent s.central).1 _; sent_up = t.sent_up }
tied_step CentralSendsData s t comes =
    let clear = (and_parts (is_clear s.down) (is_free s.up) (and_parts (may_transmit s.down s.up) (sends_data s.central) (comes_by CentralSendsData s comes)).0).0 in
    record { central = data_out s t s.central.control.table.out s.down t.central clear; peripheral = t.peripheral; down = refl; sent_down = tt; sent_up = t.sent_up }
tied_step CentralAcked s t comes =
    record { central = acked_end s.central (comes_on CentralAcked s comes).central; peripheral = t.peripheral; down = refl; sent_down = tt; sent_up = t.sent_up }
tied_step (CentralTakes slot) s t comes = taken_up s t s.up slot refl
tied_step (PeripheralEnters slot) s t comes =
    record { central = t.central; peripheral = enters_end (outgoing_on s.up) slot s.peripheral t.peripheral; down = t.down; sent_down = t.sent_down; sent_up = t.sent_up }
tied_step (PeripheralHost step) s t comes = record { central = t.central; peripheral = hosts_end (outgoing_on s.up) step s.peripheral t.peripheral; down = t.down; sent_down = t.sent_down; sent_up = t.sent_up }
tied_step (PeripheralFixes slot) s t comes =
    let some = (and_parts (is_clear s.up) (is_some (next_item s.peripheral)) (comes_by (PeripheralFixes slot) s comes)).1 in
    let out = sends_next s.peripheral slot (comes_on (PeripheralFixes slot) s comes).peripheral some in
    record { central = t.central; peripheral = out ∙ sym (next_is_out s.peripheral some).0; down = t.down; sent_down = t.sent_down; sent_up = (next_is_sent s.peripheral).0 }
tied_step PeripheralFixesData s t comes =
    let clear = (and_parts (is_clear s.up) (sends_data s.peripheral) (comes_by PeripheralFixesData s comes)).0 in
    record { central = t.central; peripheral = data_out s t s.peripheral.control.table.out s.up t.peripheral clear; down = t.down; sent_down = t.sent_down; sent_up = tt }
tied_step PeripheralSends s t comes =
    record { central = t.central; peripheral = t.peripheral ∙ sym (sent_up_out s.up _); down = t.down; sent_down = t.sent_down; sent_up = sent_up_sent s.up _ t.sent_up }
tied_step PeripheralAcked s t comes =
    record { central = t.central; peripheral = acked_end s.peripheral (comes_on PeripheralAcked s comes).peripheral; down = t.down; sent_down = t.sent_down; sent_up = tt }
tied_step (PeripheralTakes slot response) s t comes = taken_down s t s.down slot response refl
tied_step Shuts s t comes =
    record { central = t.central; peripheral = t.peripheral; down = t.down; sent_down = t.sent_down; sent_up = t.sent_up }

pub tied : (steps : List JointStep) (s : Joint) → Tied s → Tied (after_all steps s)
tied steps s t = after_each Tied tied_step steps s t
