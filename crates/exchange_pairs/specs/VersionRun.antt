-- Joint runs of the exchanges of versions of a central and a peripheral (Core 5.2, volume 6 part B, section 5.1.5).
--
-- Of the rules of a link a run needs one alone: an end sends a further PDU only after its last one was taken. Besides:
-- * A host wants an exchange only where the peer's version is not known; else it is answered at once (our choice).
-- * A central keeps the peripheral's LL_VERSION_IND only where it runs no exchange of its own, and begins none while it
--   keeps it: its own procedure then is the start or pause of encryption (section 5.1.3, our choice).
-- * A run stops as an end takes LL_TERMINATE_IND or is shut.
use Rattle.std.specs.Prelude.{◌==◌, Bool, true, false, not, ◌&&◌}
use Rattle.ble_base.specs.declared.roles.Role.{Role}
use Rattle.ble_base.specs.declared.roles.Role.TheVariants.{Central, Peripheral}
use Rattle.machines.specs.Machine.{Machine}
use Rattle.exchange_pairs.specs.Exchange.{is_idle}
use Rattle.exchange_pairs.specs.Version.{VersionEnd, asked, begun, first_end, may_begin, sent, taken, terminated}

pub record VersionLink : Type 0 where
  pub central : VersionEnd
  pub peripheral : VersionEnd
  -- the end has taken LL_VERSION_IND of the other
  pub central_knows : Bool
  pub peripheral_knows : Bool
  -- LL_VERSION_IND of an end was fixed or sent, and not taken
  pub down : Bool
  pub up : Bool
  -- the central keeps that of the peripheral
  pub kept : Bool

pub data VersionEvent : Type 0 where
  -- the host of an end asks for an exchange
  Wants : Role → VersionEvent
  -- the exchange begins
  Begins : Role → VersionEvent
  -- the end queues LL_TERMINATE_IND
  Closes : Role → VersionEvent
  -- it fixes its LL_VERSION_IND
  Sends : Role → VersionEvent
  -- it takes that of the other
  Takes : Role → VersionEvent
  -- the central keeps that of the peripheral, and takes it afterwards
  Keeps : VersionEvent
  TakesKept : VersionEvent

-- ---- the ends and the directions, by the role of an end

abbrev pub end_of : Role → VersionLink → VersionEnd
end_of Central s = s.central
end_of Peripheral s = s.peripheral

abbrev pub with_end : Role → VersionEnd → VersionLink → VersionLink
with_end Central e s = record s { central = e }
with_end Peripheral e s = record s { peripheral = e }

abbrev pub knows : Role → VersionLink → Bool
knows Central s = s.central_knows
knows Peripheral s = s.peripheral_knows

-- LL_VERSION_IND of this end is on its way
abbrev pub is_sent_by : Role → VersionLink → Bool
is_sent_by Central s = s.down
is_sent_by Peripheral s = s.up

-- that of the other end is on its way to this one
abbrev pub comes_to : Role → VersionLink → Bool
comes_to Central s = s.up
comes_to Peripheral s = s.down

-- this end keeps that of the other
abbrev pub keeps : Role → VersionLink → Bool
keeps Central s = s.kept
keeps Peripheral s = false

-- ---- the steps

abbrev pub may : VersionEvent → VersionLink → Bool
may (Wants role) s = not (knows role s) && (is_idle (end_of role s).own && (end_of role s).wanted == 0)
may (Begins role) s = may_begin (end_of role s) && not (keeps role s)
may (Closes role) s = not (end_of role s).closed
may (Sends role) s = not (is_sent_by role s) && not ((end_of role s).waiting == 0)
may (Takes role) s = comes_to role s
may Keeps s = s.up && is_idle s.central.own
may TakesKept s = s.kept

abbrev pub with_sent : Role → VersionLink → VersionLink
with_sent Central s = record s { central = sent s.central; down = true }
with_sent Peripheral s = record s { peripheral = sent s.peripheral; up = true }

abbrev pub with_taken : Role → VersionLink → VersionLink
with_taken Central s = record s { central = taken s.central; central_knows = true; up = false }
with_taken Peripheral s = record s { peripheral = taken s.peripheral; peripheral_knows = true; down = false }

abbrev pub act : VersionEvent → VersionLink → VersionLink
act (Wants role) s = with_end role (asked (end_of role s)) s
act (Begins role) s = with_end role (begun (end_of role s)) s
act (Closes role) s = with_end role (terminated (end_of role s)) s
act (Sends role) s = with_sent role s
act (Takes role) s = with_taken role s
act Keeps s = record s { up = false; kept = true }
act TakesKept s = record s { central = taken s.central; central_knows = true; kept = false }

-- ---- the runs

abbrev pub start : VersionLink
start =
    record {
      central = first_end;
      peripheral = first_end;
      central_knows = false;
      peripheral_knows = false;
      down = false;
      up = false;
      kept = false;
    }

abbrev pub versions : Machine VersionLink VersionEvent
versions = record { start = start; may = may; act = act }
