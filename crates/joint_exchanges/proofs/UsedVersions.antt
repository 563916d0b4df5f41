-- An end that runs an exchange of versions has queued its LL_VERSION_IND.
use Rattle.std.proofs.Common.{◌≡◌, ◌+◌, ◌-◌, ◌==◌, Bool, true, false, not, ◌||◌, if◌then◌else◌, List, [], ◌∷◌, refl}
use Rattle.std.specs.Bool.{⊤}
use Rattle.std.proofs.lemmas.Bool.{and_parts}
use Rattle.ble_base.specs.declared.roles.Role.{Role}
use Rattle.ble_base.specs.declared.roles.Role.TheVariants.{Central, Peripheral}
use Rattle.exchange_steps.specs.exchange_pairs.Exchange.{ExchangeStage, Idle, Question, Sent, Unsent, is_idle, own_after_answer, own_after_sending}
use Rattle.exchange_steps.specs.exchange_pairs.Version.{VersionEnd, begun, may_begin, taken, with_version}
use Rattle.exchange_steps.specs.Ends.{ExchangeEnds}
use Rattle.exchange_steps.specs.Steps.{EndStep, after_step, begins_version, is_refused, sends_version, takes_version}
use Rattle.joint_exchanges.specs.Moves.{Does, Keeps, MayMove, MayMoveAll, Move, Sends, Takes, TakesKept, after_move, after_moves, end_of, is_version, sending, taking}
use Rattle.joint_exchanges.specs.Parts.{AnyPdu, ExchangeParts, of_features, of_lengths, of_versions}

-- a stage, with whether the PDU was queued
abbrev Uses : ExchangeStage → Bool → Type 0
Uses own used = is_idle own ≡ false → used ≡ true

abbrev pub IsUsed : VersionEnd → Type 0
IsUsed e = Uses e.own e.used

begun_used : (e : VersionEnd) → may_begin e ≡ true → IsUsed (begun e)
begun_used e may = by e.used e.closed open_end
  where
    not_true : (b : Bool) → not b ≡ true → b ≡ false
    not_true true is = absurd (cc)
    not_true false is = refl

    open_end : e.closed ≡ false
    open_end = not_true e.closed (and_parts (is_idle e.own) (not e.closed) (and_parts (not (e.wanted == 0)) _ may).1).1

    by : (used closed : Bool) → closed ≡ false
        → IsUsed (with_version (record e { own = (if used then Sent else Unsent); wanted = e.wanted - 1; used = used; closed = closed }))
    by true closed is running = refl
    by false true is running = absurd (cc)
    by false false is running = refl

taken_used : (e : VersionEnd) → IsUsed (taken e)
taken_used e = by (e.used || e.closed)
  where
    idle : VersionEnd
    idle = record e { own = Idle; wanted = e.wanted - 1 }

    by : (b : Bool) → IsUsed (if b then idle else record idle { used = true; waiting = idle.waiting + 1 })
    by true running = absurd (cc)
    by false running = absurd (cc)

sent_used : (own : ExchangeStage) (used : Bool) → Uses own used → Uses (own_after_sending Question own) used
sent_used Idle used is running = absurd (cc)
sent_used Unsent used is running = is refl
sent_used Sent used is running = is refl

refused_used : (own : ExchangeStage) (used : Bool) → Uses own used → Uses (own_after_answer own) used
refused_used Idle used is running = absurd (cc)
refused_used Unsent used is running = is refl
refused_used Sent used is running = absurd (cc)

-- an exchange begins where it may
abbrev Begins : EndStep → ExchangeEnds → Type 0
Begins begins_version e = may_begin e.versions ≡ true
Begins step e = ⊤

step_used : (step : EndStep) (e : ExchangeEnds) → Begins step e → IsUsed e.versions → IsUsed (after_step step e).versions
step_used begins_version e may is = begun_used e.versions may
step_used sends_version e may is = sent_used e.versions.own e.versions.used is
step_used takes_version e may is = taken_used e.versions
step_used is_refused e may is = refused_used e.versions.own e.versions.used is
step_used step e may is = is

sending_begins : (pdu : AnyPdu) (e : ExchangeEnds) → Begins (sending pdu) e
sending_begins (of_features pdu) e = tt
sending_begins (of_lengths pdu) e = tt
sending_begins of_versions e = tt

taking_begins : (pdu : AnyPdu) (e : ExchangeEnds) → Begins (taking pdu) e
taking_begins (of_features pdu) e = tt
taking_begins (of_lengths pdu) e = tt
taking_begins of_versions e = tt

does_begin : (role : Role) (step : EndStep) (p : ExchangeParts) → MayMove (Does role step) p → Begins step (end_of role p)
does_begin role begins_version p may = may.may
does_begin role step p may = tt

pub record AreUsed (p : ExchangeParts) : Type 0 where
  pub central : IsUsed p.central.versions
  pub peripheral : IsUsed p.peripheral.versions

move_used : (move : Move) (p : ExchangeParts) → MayMove move p → AreUsed p → AreUsed (after_move move p)
move_used (Does Central step) p may is = record { central = step_used step p.central (does_begin Central step p may) is.central; peripheral = is.peripheral }
move_used (Does Peripheral step) p may is = record { central = is.central; peripheral = step_used step p.peripheral (does_begin Peripheral step p may) is.peripheral }
move_used (Sends Central pdu) p may is = record { central = step_used (sending pdu) p.central (sending_begins pdu p.central) is.central; peripheral = is.peripheral }
move_used (Sends Peripheral pdu) p may is = record { central = is.central; peripheral = step_used (sending pdu) p.peripheral (sending_begins pdu p.peripheral) is.peripheral }
move_used (Takes Central pdu) p may is = record { central = step_used (taking pdu) p.central (taking_begins pdu p.central) is.central; peripheral = is.peripheral }
move_used (Takes Peripheral pdu) p may is = record { central = is.central; peripheral = step_used (taking pdu) p.peripheral (taking_begins pdu p.peripheral) is.peripheral }
move_used (Keeps pdu) p may is = record { central = is.central; peripheral = is.peripheral }
move_used (TakesKept pdu) p may is = record { central = step_used (taking pdu) p.central (taking_begins pdu p.central) is.central; peripheral = is.peripheral }

pub moves_used : (moves : List Move) (p : ExchangeParts) → MayMoveAll moves p → AreUsed p → AreUsed (after_moves moves p)
moves_used [] p may is = is
moves_used (move ∷ moves) p may is = moves_used moves (after_move move p) may.1 (move_used move p may.0 is)

-- ---- an end whose LL_VERSION_IND was queued knows the other's version, or runs an exchange

abbrev pub Awaits : VersionEnd → Bool → Type 0
Awaits e knows = e.used ≡ true → knows ≡ false → is_idle e.own ≡ false

begun_awaits : (e : VersionEnd) (knows : Bool) → Awaits (begun e) knows
begun_awaits e knows = by e.used e.closed
  where
    by : (used closed : Bool)
        → Awaits (with_version (record e { own = (if used then Sent else Unsent); wanted = e.wanted - 1; used = used; closed = closed })) knows
    by true closed is unknown = refl
    by false true is unknown = refl
    by false false is unknown = refl

sent_awaits : (own : ExchangeStage) → is_idle own ≡ false → is_idle (own_after_sending Question own) ≡ false
sent_awaits Idle is = absurd (cc)
sent_awaits Unsent is = refl
sent_awaits Sent is = refl

does_await : (role : Role) (step : EndStep) (p : ExchangeParts) (knows : Bool) → MayMove (Does role step) p → Awaits (end_of role p).versions knows
    → Awaits (after_step step (end_of role p)).versions knows
does_await role begins_version p knows may is = begun_awaits (end_of role p).versions knows
does_await role sends_version p knows may is = absurd may
does_await role takes_version p knows may is = absurd may
does_await role is_refused p knows may is = absurd may
does_await role step p knows may is = is

sends_await : (pdu : AnyPdu) (e : ExchangeEnds) (knows : Bool) → Awaits e.versions knows → Awaits (after_step (sending pdu) e).versions knows
sends_await (of_features pdu) e knows is = is
sends_await (of_lengths pdu) e knows is = is
sends_await of_versions e knows is = λ used unknown. sent_awaits e.versions.own (is used unknown)

takes_await : (pdu : AnyPdu) (e : ExchangeEnds) (knows : Bool) → Awaits e.versions knows → Awaits (after_step (taking pdu) e).versions (knows || is_version pdu)
takes_await (of_features pdu) e knows is = λ used unknown. is used (same knows unknown)
  where
    same : (b : Bool) → (b || false) ≡ false → b ≡ false
    same true is = absurd (cc)
    same false is = refl
takes_await (of_lengths pdu) e knows is = λ used unknown. is used (same knows unknown)
  where
    same : (b : Bool) → (b || false) ≡ false → b ≡ false
    same true is = absurd (cc)
    same false is = refl
takes_await of_versions e knows is = λ used unknown. never knows unknown
  where
    never : (b : Bool) → (b || true) ≡ false → is_idle (after_step (taking of_versions) e).versions.own ≡ false
    never true is = absurd (cc)
    never false is = absurd (cc)

pub record Await (p : ExchangeParts) : Type 0 where
  pub central : Awaits p.central.versions p.central_knows
  pub peripheral : Awaits p.peripheral.versions p.peripheral_knows

move_awaits : (move : Move) (p : ExchangeParts) → MayMove move p → Await p → Await (after_move move p)
move_awaits (Does Central step) p may is = record { central = does_await Central step p p.central_knows may is.central; peripheral = is.peripheral }
move_awaits (Does Peripheral step) p may is = record { central = is.central; peripheral = does_await Peripheral step p p.peripheral_knows may is.peripheral }
move_awaits (Sends Central pdu) p may is = record { central = sends_await pdu p.central p.central_knows is.central; peripheral = is.peripheral }
move_awaits (Sends Peripheral pdu) p may is = record { central = is.central; peripheral = sends_await pdu p.peripheral p.peripheral_knows is.peripheral }
move_awaits (Takes Central pdu) p may is = record { central = takes_await pdu p.central p.central_knows is.central; peripheral = is.peripheral }
move_awaits (Takes Peripheral pdu) p may is = record { central = is.central; peripheral = takes_await pdu p.peripheral p.peripheral_knows is.peripheral }
move_awaits (Keeps pdu) p may is = record { central = is.central; peripheral = is.peripheral }
move_awaits (TakesKept pdu) p may is = record { central = takes_await pdu p.central p.central_knows is.central; peripheral = is.peripheral }

pub moves_await : (moves : List Move) (p : ExchangeParts) → MayMoveAll moves p → Await p → Await (after_moves moves p)
moves_await [] p may is = is
moves_await (move ∷ moves) p may is = moves_await moves (after_move move p) may.1 (move_awaits move p may.0 is)
