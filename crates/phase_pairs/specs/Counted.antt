-- The counters and the sessions of two ends in a joint run of phases. Each direction has two numbers: the counter of
-- the next sealed PDU at the end that sends, and that at the end that receives (Core 5.2, volume 6 part B, section
-- 5.1.3, and part E, section 2.1).
use Rattle.std.specs.Prelude.{◌≡◌, ℕ, ◌+◌, Bool, true, false, not, ◌&&◌, ◌||◌, List, [], ◌∷◌, if◌then◌else◌}
use Rattle.ble_base.specs.declared.roles.Role.{Role}
use Rattle.ble_base.specs.declared.roles.Role.TheVariants.{Central, Peripheral}
use Rattle.enc_phase.specs.declared.facts.PhaseFacts.{PhaseFacts}
use Rattle.enc_phase.specs.declared.facts.PhaseFacts.TheVariants.{HalfKeyed}
use Rattle.enc_phase.specs.Phases.{is_asked, opens, seals}
use Rattle.phase_pairs.specs.declared.joint.PhaseWay.{PhaseWay}
use Rattle.phase_pairs.specs.declared.joint.PhaseWay.TheVariants.{Fixed, OnAir}
use Rattle.phase_pairs.specs.declared.joint.PhaseLink.{PhaseLink}
use Rattle.phase_pairs.specs.declared.joint.PhaseEvent.{PhaseEvent}
use Rattle.phase_pairs.specs.declared.joint.PhaseEvent.TheVariants.{CentralEncrypts, CentralCloses, CentralSends, CentralAcked, CentralTakes, PeripheralFixes, PeripheralSends, PeripheralTakes}
use Rattle.phase_pairs.specs.JointRun.{is_data, phases_act, phases_may, phases_start}

-- ---- how the two numbers of a direction relate

pub data Relation : Type 0 where
  -- both are 0
  BothZero : Relation
  -- they are equal
  Equal : Relation
  -- the first is one more than the second
  OneAhead : Relation
  -- the second is 0
  SecondZero : Relation

abbrev pub Holds : Relation → ℕ → ℕ → Type 0
Holds BothZero first second = (first ≡ 0) × (second ≡ 0)
Holds Equal first second = first ≡ second
Holds OneAhead first second = first ≡ second + 1
Holds SecondZero first second = second ≡ 0

-- a sealed PDU was fixed or sent, and not taken
abbrev pub is_sealed_untaken : PhaseWay → Bool
is_sealed_untaken (Fixed pdu sealed) = sealed
is_sealed_untaken (OnAir pdu sealed) = sealed
is_sealed_untaken way = false

-- where both ends seal the direction the numbers are equal, or the sender is one ahead, exactly where a sealed PDU is
-- untaken; where the sender does not seal both are 0; where the receiver alone does not, its number is 0
abbrev pub relation_of : Bool → Bool → PhaseWay → Relation
relation_of false opening way = BothZero
relation_of true false way = SecondZero
relation_of true true way = (if is_sealed_untaken way then OneAhead else Equal)

abbrev pub relation_down : PhaseLink → Relation
relation_down s = relation_of (seals Central s.central.phase) (opens Peripheral s.peripheral.phase) s.down

abbrev pub relation_up : PhaseLink → Relation
relation_up s = relation_of (seals Peripheral s.peripheral.phase) (opens Central s.central.phase) s.up

abbrev pub is_half_keyed : PhaseFacts → Bool
is_half_keyed HalfKeyed = true
is_half_keyed phase = false

-- the peripheral has begun one session more than the central exactly where it is in HalfKeyed and the central in Asked
abbrev pub relation_sessions : PhaseLink → Relation
relation_sessions s = (if is_half_keyed s.peripheral.phase && is_asked s.central.phase then OneAhead else Equal)

-- ---- what a step does to them

pub data Effect : Type 0 where
  Nothing : Effect
  FirstMore : Effect
  FirstNone : Effect
  SecondMore : Effect
  SecondNone : Effect

abbrev pub first_after : Effect → ℕ → ℕ
first_after FirstMore n = n + 1
first_after FirstNone n = 0
first_after effect n = n

abbrev pub second_after : Effect → ℕ → ℕ
second_after SecondMore n = n + 1
second_after SecondNone n = 0
second_after effect n = n

-- a session begins between these phases
abbrev pub is_beginning : PhaseFacts → PhaseFacts → Bool
is_beginning before after = is_asked before && is_half_keyed after

-- as an end does: a session that begins has the counter 0, and so has a direction that is clear
abbrev pub sending_effect : Bool → Role → PhaseFacts → PhaseFacts → Effect
sending_effect sends role before after =
    (if is_beginning before after || not (seals role after) then FirstNone else (if sends then FirstMore else Nothing))

abbrev pub receiving_effect : Bool → Role → PhaseFacts → PhaseFacts → Effect
receiving_effect takes role before after =
    (if is_beginning before after || not (opens role after) then SecondNone else (if takes then SecondMore else Nothing))

abbrev pub is_by_central : PhaseEvent → Bool
is_by_central CentralEncrypts = true
is_by_central CentralCloses = true
is_by_central (CentralSends pdu) = true
is_by_central CentralAcked = true
is_by_central (CentralTakes crossed) = true
is_by_central event = false

-- an end numbers a new sealed PDU as it sends it; a peripheral numbers data as it fixes it
abbrev pub is_sending : PhaseEvent → PhaseWay → Bool
is_sending (CentralSends pdu) up = true
is_sending (PeripheralFixes pdu) up = is_data pdu
is_sending PeripheralSends (Fixed pdu sealed) = not (is_data pdu)
is_sending event up = false

abbrev pub is_taking : PhaseEvent → Bool
is_taking (CentralTakes crossed) = true
is_taking (PeripheralTakes crossed) = true
is_taking event = false

abbrev pub effect_down : PhaseEvent → PhaseLink → PhaseLink → Effect
effect_down event s t =
    (if is_by_central event
    then sending_effect (is_sending event s.up) Central s.central.phase t.central.phase
    else receiving_effect (is_taking event && opens Peripheral s.peripheral.phase) Peripheral s.peripheral.phase t.peripheral.phase)

abbrev pub effect_up : PhaseEvent → PhaseLink → PhaseLink → Effect
effect_up event s t =
    (if is_by_central event
    then receiving_effect (is_taking event && opens Central s.central.phase) Central s.central.phase t.central.phase
    else sending_effect (is_sending event s.up) Peripheral s.peripheral.phase t.peripheral.phase)

-- the first number of sessions is the peripheral's, the second the central's
abbrev pub effect_sessions : PhaseLink → PhaseLink → Effect
effect_sessions s t =
    (if is_beginning s.peripheral.phase t.peripheral.phase
    then FirstMore
    else (if is_beginning s.central.phase t.central.phase then SecondMore else Nothing))

-- ---- which relation follows from which

abbrev pub keeps : Relation → Effect → Relation → Bool
keeps BothZero FirstMore OneAhead = true
keeps BothZero SecondMore relation = false
keeps BothZero FirstMore relation = false
keeps BothZero effect OneAhead = false
keeps BothZero effect relation = true
keeps Equal Nothing Equal = true
keeps Equal FirstMore OneAhead = true
keeps OneAhead Nothing OneAhead = true
keeps OneAhead SecondMore Equal = true
keeps SecondZero Nothing SecondZero = true
keeps SecondZero FirstMore SecondZero = true
keeps SecondZero FirstNone BothZero = true
keeps relation SecondNone SecondZero = true
keeps relation effect next = false

abbrev pub is_counted_from : PhaseEvent → PhaseLink → PhaseLink → Bool
is_counted_from event s t =
    keeps (relation_down s) (effect_down event s t) (relation_down t)
    && (keeps (relation_up s) (effect_up event s t) (relation_up t)
    && keeps (relation_sessions s) (effect_sessions s t) (relation_sessions t))

abbrev pub is_counted : PhaseEvent → PhaseLink → Bool
is_counted event s = is_counted_from event s (phases_act event s)

-- ---- runs with counters

-- a link with the counters of its ends and the number of sessions that each has begun
pub record Counted : Type 0 where
  pub link : PhaseLink
  pub central_sent : ℕ
  pub central_opened : ℕ
  pub central_sessions : ℕ
  pub peripheral_sent : ℕ
  pub peripheral_opened : ℕ
  pub peripheral_sessions : ℕ

abbrev pub counted_between : PhaseEvent → PhaseLink → Counted → Counted
counted_between event t r =
    record {
      link = t;
      central_sent = first_after (effect_down event r.link t) r.central_sent;
      peripheral_opened = second_after (effect_down event r.link t) r.peripheral_opened;
      peripheral_sent = first_after (effect_up event r.link t) r.peripheral_sent;
      central_opened = second_after (effect_up event r.link t) r.central_opened;
      peripheral_sessions = first_after (effect_sessions r.link t) r.peripheral_sessions;
      central_sessions = second_after (effect_sessions r.link t) r.central_sessions;
    }

abbrev pub counted_step : PhaseEvent → Counted → Counted
counted_step event r = (if phases_may event r.link then counted_between event (phases_act event r.link) r else r)

abbrev pub counted_from : Counted → List PhaseEvent → Counted
counted_from r [] = r
counted_from r (event ∷ events) = counted_from (counted_step event r) events

abbrev pub counted_start : Counted
counted_start =
    record {
      link = phases_start;
      central_sent = 0;
      central_opened = 0;
      central_sessions = 0;
      peripheral_sent = 0;
      peripheral_opened = 0;
      peripheral_sessions = 0;
    }

abbrev pub counted_run : List PhaseEvent → Counted
counted_run events = counted_from counted_start events
