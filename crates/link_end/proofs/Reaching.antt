-- What follows from the steps by which an end comes: what it transmits, and the counters of its session.
use Rattle.std.proofs.Common.{◌≡◌, ℕ, ◌≤◌, Bool, true, false, ◌||◌, if◌then◌else◌, is_none, sym, subst, arith}
use Rattle.procedures.specs.procedure_values.Limits.{tx_of}
use Rattle.keyed_control.specs.declared.material.KeyMaterial.{KeyMaterial}
use Rattle.keyed_control.specs.Keyed.{Keyed, session_of}
use Rattle.keyed_control.specs.KeyedSteps.{KeyedStep, Answers, Asks, Disconnects, Enters, GivesKey, LacksKey, Opens, Seals, SeesAcknowledged, Sends, Takes, TakesData, end_changed, is_of_session, keyed_moved}
use Rattle.keyed_control.specs.enc_phase.declared.facts.Transition.TheVariants.{Ask, Confirm, Pause, Refuse, Unlock}
use Rattle.keyed_control.specs.enc_phase.Phases.{is_asked, opens, phase_after, phase_starting, seals}
use Rattle.keyed_control.specs.enc_phase.Sealing.{EncEnd, after_start, counter_in}
use Rattle.keyed_control.specs.phased_control.PhaseChanges.{Change, Moves, Starts, Stays, Took}
use Rattle.link_model.specs.phased_end.Held.{HeldKeyed, held_after, keyed_of}
use Rattle.link_model.specs.phased_end.Reached.{IsReached}
use Rattle.link_model.proofs.phased_end.Sized.{reached_lengths}

-- an end transmits an octet at least
pub transmits : (h : HeldKeyed) → IsReached h → 1 ≤ tx_of h.control.table.lengths
transmits h reached =
    let has = reached_lengths h reached in omega (arith, has.own, has.peer)

-- ---- the counters rise only as a payload is sealed or opened

pub record AreLess (e f : EncEnd) : Type 0 where
  pub sent : e.sent ≤ f.sent
  pub opened : e.opened ≤ f.opened

less_in : (sealed : Bool) (counter : ℕ) → counter_in sealed counter ≤ counter
less_in true counter = omega arith
less_in false counter = omega arith

none_in : (sealed : Bool) (counter : ℕ) → counter_in sealed 0 ≤ counter
none_in true counter = omega arith
none_in false counter = omega arith

started : (m : KeyMaterial) (e : EncEnd) → AreLess (end_changed Starts m e) e
started m e = by (is_asked e.phase)
  where
    by : (b : Bool) → AreLess (if b then after_start (session_of m) e else e) e
    by true =
        record {
          sent = none_in (seals e.role (phase_starting e.phase)) e.sent;
          opened = none_in (opens e.role (phase_starting e.phase)) e.opened;
        }
    by false = record { sent = omega arith; opened = omega arith }

changed : (change : Change) (m : KeyMaterial) (e : EncEnd) → AreLess (end_changed change m e) e
changed Stays m e = record { sent = omega arith; opened = omega arith }
changed (Took pdu) m e = record { sent = omega arith; opened = omega arith }
changed Starts m e = started m e
changed (Moves Ask) m e = record { sent = omega arith; opened = omega arith }
changed (Moves Refuse) m e = record { sent = omega arith; opened = omega arith }
changed (Moves Confirm) m e =
    record {
      sent = less_in (seals e.role (phase_after Confirm e.phase)) e.sent;
      opened = less_in (opens e.role (phase_after Confirm e.phase)) e.opened;
    }
changed (Moves Pause) m e =
    record {
      sent = less_in (seals e.role (phase_after Pause e.phase)) e.sent;
      opened = less_in (opens e.role (phase_after Pause e.phase)) e.opened;
    }
changed (Moves Unlock) m e = record { sent = omega arith; opened = omega arith }

moved : (step : KeyedStep) (k : Keyed) → is_of_session step ≡ false → AreLess (keyed_moved step k).end k.end
moved (Enters slot) k other = changed _ _ k.end
moved (Asks ask) k other = changed Stays k.material k.end
moved (Answers answer) k other = changed Stays k.material k.end
moved (GivesKey ltk) k other = changed _ _ k.end
moved LacksKey k other = changed _ _ k.end
moved (Disconnects reason) k other = changed Stays k.material k.end
moved (Sends slot) k other = changed Stays k.material k.end
moved SeesAcknowledged k other = changed _ _ k.end
moved (Takes read slot response) k other = changed _ _ k.end
moved TakesData k other = changed Stays k.material k.end
moved (Seals header body) k other = absurd cc
moved (Opens header payload) k other = absurd cc

pub stays_less : (step : KeyedStep) (h new : HeldKeyed) → is_of_session step ≡ false → new ≡ held_after step h → AreLess new.end h.end
stays_less step h new other is =
    subst (λ (g : HeldKeyed). AreLess g.end h.end) (sym is) (by (is_of_session step || is_none h.control.ends))
  where
    by : (b : Bool) → AreLess (if b then keyed_moved step (keyed_of h) else keyed_of h).end h.end
    by true = moved step (keyed_of h) other
    by false = record { sent = omega arith; opened = omega arith }
