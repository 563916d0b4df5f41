-- With its phase an end that encrypts nothing goes by its control part, but for the PDUs that it takes.
use Rattle.std.proofs.Common.{◌≡◌, ℕ, ◌&&◌, Bool, true, false, Option, Some, None, is_none, is_some, Result, if◌then◌else◌, refl}
use Rattle.std.specs.List.{All}
use Rattle.ble_base.specs.declared.error_codes.ErrCode.{ErrCode}
use Rattle.ble_base.specs.declared.roles.Role.{Role}
use Rattle.instants.specs.declared.indications.Params.{Params}
use Rattle.instants.specs.Track.{next_number}
use Rattle.phased_control.specs.procedure_values.declared.asks.Ask.{Ask}
use Rattle.phased_control.specs.procedure_values.declared.asks.Ask.TheVariants.{Encrypt as ask_encrypt}
use Rattle.phased_control.specs.procedure_values.Asks.{kind_of_ask}
use Rattle.phased_control.specs.procedures.Beginning.{ask_at, begin_at, begin_step, place_to_begin}
use Rattle.phased_control.specs.procedures.Table.{TableFacts}
use Rattle.phased_control.specs.control_model.Control.{Control, after, first_control, moved}
use Rattle.phased_control.specs.control_model.Control.{Answers as control_answers, Asks as control_asks, Disconnects as control_disconnects, Enters as control_enters, SeesAcknowledged as control_sees_acknowledged, Sends as control_sends, Step}
use Rattle.phased_control.specs.Phased.{Phased, asking_if, asks_again, ask_begun, encrypting_if, first_phased, is_encrypt, is_open_now, is_pause_rsp, request_of, table_entered, with_step}
use Rattle.phased_control.specs.Taken.{Answers, Asks, Disconnects, Enters, GivesKey, LacksKey, SeesAcknowledged, Sends, TakesData, phased_after}
use Rattle.unencrypted_ends.specs.Unencrypted.{IsUnencrypted, plain_phased}
use Rattle.unencrypted_ends.proofs.Staying.{AsksNone, entered_none, wanted_here}

-- as an end with its phase begins
pub begins_plain : (role : Role) (max_rx : ℕ) (first : Params) (slot : ℕ) → first_phased role max_rx first slot ≡ plain_phased (first_control role max_rx first slot) false
begins_plain role max_rx first slot = refl

-- ---- what begins is no encryption

none_encrypts : (ask : Ask) → AsksNone ask → is_encrypt (Some (kind_of_ask ask)) ≡ false
none_encrypts (ask_encrypt rand ediv ltk skd_m iv_m) is = absurd (cc)
none_encrypts ask is = refl

pub begins_other : (f : TableFacts) (slot : ℕ) (place : Option ℕ) (ask : Option Ask) → ask_at place f.wanted ≡ ask → All AsksNone f.wanted → is_encrypt (begin_at f slot place ask).1 ≡ false
begins_other f slot None ask is all = refl
begins_other f slot (Some place) None is all = refl
begins_other f slot (Some place) (Some ask) is all = none_encrypts ask (wanted_here place ask f.wanted is all)

module _ (c : Control) (knows : Bool) where
  abbrev s : Phased
  s = plain_phased c knows

  -- the phase adds nothing to a step of the control part
  step_goes : (step : Step) → (if is_none c.ends then with_step step s else s) ≡ plain_phased (after step c) knows
  step_goes step = by (is_none c.ends)
    where
      by : (b : Bool) → (if b then plain_phased (if b then moved step c else c) knows else s) ≡ plain_phased (if b then moved step c else c) knows
      by true = refl
      by false = refl

  pub asks_goes : (ask : Ask) → phased_after (Asks ask) s ≡ plain_phased (after (control_asks ask) c) knows
  asks_goes ask = step_goes (control_asks ask)

  pub answers_goes : (answer : Result Ask ErrCode) → phased_after (Answers answer) s ≡ plain_phased (after (control_answers answer) c) knows
  answers_goes answer = step_goes (control_answers answer)

  pub disconnects_goes : (reason : ErrCode) → phased_after (Disconnects reason) s ≡ plain_phased (after (control_disconnects reason) c) knows
  disconnects_goes reason = step_goes (control_disconnects reason)

  pub sends_goes : (slot : ℕ) → phased_after (Sends slot) s ≡ plain_phased (after (control_sends slot true) c) knows
  sends_goes slot = step_goes (control_sends slot true)

  pub enters_goes : (slot : ℕ) → IsUnencrypted c → phased_after (Enters slot) s ≡ plain_phased (after (control_enters slot true) c) knows
  enters_goes slot none =
      by (is_none c.ends) (is_encrypt (begin_step f slot true).1)
      (begins_other f slot (place_to_begin f true) (ask_at (place_to_begin f true) f.wanted) refl (entered_none c.table (is_some (next_number c.track)) none).wanted)
    where
      f : TableFacts
      f = table_entered s

      by : (b encrypts : Bool) → encrypts ≡ false
          → (if b then encrypting_if encrypts (request_of (ask_begun f true)) (plain_phased (if b then moved (control_enters slot true) c else c) knows) else s)
          ≡ plain_phased (if b then moved (control_enters slot true) c else c) knows
      by true true is = absurd (cc)
      by true false is = refl
      by false encrypts is = refl

  -- nothing is asked for again
  pub none_again : (pause lasts : Bool) → (pause && (lasts && false)) ≡ false
  none_again true true = refl
  none_again true false = refl
  none_again false lasts = refl

  pub acknowledged_goes : phased_after SeesAcknowledged s ≡ plain_phased (after control_sees_acknowledged c) knows
  acknowledged_goes = by (is_none c.ends) (asks_again s) (none_again (is_pause_rsp c.table.out) (is_open_now s))
    where
      by : (b again : Bool) → again ≡ false
          → (if b then asking_if again (plain_phased (if b then moved control_sees_acknowledged c else c) knows) else s)
          ≡ plain_phased (if b then moved control_sees_acknowledged c else c) knows
      by true true is = absurd (cc)
      by true false is = refl
      by false again is = refl

  -- ---- what leaves it

  left : (b : Bool) → (if b then s else s) ≡ s
  left true = refl
  left false = refl

  pub data_left : phased_after TakesData s ≡ s
  data_left = left (is_none c.ends)

  pub key_given_left : phased_after GivesKey s ≡ s
  key_given_left = left (is_none c.ends)

  pub key_lacking_left : phased_after LacksKey s ≡ s
  key_lacking_left = left (is_none c.ends)
