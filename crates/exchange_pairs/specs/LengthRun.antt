-- Joint runs of the exchanges of lengths with their values, and of data, which is as long as the lengths let it be
-- (Core 5.2, volume 6 part B, sections 4.5.10 and 5.1.9).
--
-- Of the rules of a link a run needs one alone: an end sends a further PDU only after its last one was taken. What an
-- end receives at most never falls. A run stops as an end takes LL_TERMINATE_IND or is shut.
use Rattle.std.specs.Prelude.{ℕ, nat_le, Bool, true, false, not, ◌&&◌, List, [], ◌∷◌, ◌++◌, Option, Some, None, is_some, is_none}
use Rattle.ble_base.specs.declared.roles.Role.{Role}
use Rattle.ble_base.specs.declared.roles.Role.TheVariants.{Central, Peripheral}
use Rattle.machines.specs.Machine.{Machine}
use Rattle.procedure_values.specs.Limits.{tx_of}
use Rattle.exchange_pairs.specs.Exchange.{is_question}
use Rattle.exchange_pairs.specs.Lengths.{LengthEnd, LengthPdu, accepting, begun, first_end, first_of, limited, may_begin, sent, taken, terminated}

-- a PDU that was fixed or sent, and not taken: one of the exchange, or data with this number of octets
pub data LengthWay : Type 0 where
  Control : LengthPdu → LengthWay
  Data : ℕ → LengthWay

pub record LengthLink : Type 0 where
  pub central : LengthEnd
  pub peripheral : LengthEnd
  pub down : Option LengthWay
  pub up : Option LengthWay
  -- LL_LENGTH_REQ of the peripheral that the central keeps while encryption starts or pauses (section 5.1.3, our
  -- choice)
  pub kept : Option LengthPdu
  -- the receive maxima that each end has sent so far
  pub central_sent : List ℕ
  pub peripheral_sent : List ℕ

pub data LengthEvent : Type 0 where
  -- an end receives this number of octets from now on
  Accepts : Role → ℕ → LengthEvent
  -- the host of an end limits what that transmits
  Limits : Role → ℕ → LengthEvent
  Begins : Role → LengthEvent
  Closes : Role → LengthEvent
  -- an end fixes the next of its PDUs that wait
  Sends : Role → LengthEvent
  -- it fixes data of this number of octets
  SendsData : Role → ℕ → LengthEvent
  -- it takes the PDU that is on its way
  Takes : Role → LengthEvent
  -- the central keeps the question that is on its way, and takes it afterwards
  Keeps : LengthEvent
  TakesKept : LengthEvent

-- ---- the ends and the directions, by the role of an end

abbrev pub end_of : Role → LengthLink → LengthEnd
end_of Central s = s.central
end_of Peripheral s = s.peripheral

abbrev pub with_end : Role → LengthEnd → LengthLink → LengthLink
with_end Central e s = record s { central = e }
with_end Peripheral e s = record s { peripheral = e }

abbrev pub way_from : Role → LengthLink → Option LengthWay
way_from Central s = s.down
way_from Peripheral s = s.up

abbrev pub with_way_from : Role → Option LengthWay → LengthLink → LengthLink
with_way_from Central way s = record s { down = way }
with_way_from Peripheral way s = record s { up = way }

abbrev pub way_to : Role → LengthLink → Option LengthWay
way_to Central s = s.up
way_to Peripheral s = s.down

abbrev pub with_way_to : Role → Option LengthWay → LengthLink → LengthLink
with_way_to Central way s = record s { up = way }
with_way_to Peripheral way s = record s { down = way }

abbrev pub kept_of : Role → LengthLink → Option LengthPdu
kept_of Central s = None
kept_of Peripheral s = s.kept

-- the receive maxima that an end has sent
abbrev pub sent_by : Role → LengthLink → List ℕ
sent_by Central s = s.central_sent
sent_by Peripheral s = s.peripheral_sent

abbrev pub with_sent_by : Role → List ℕ → LengthLink → LengthLink
with_sent_by Central sent s = record s { central_sent = sent }
with_sent_by Peripheral sent s = record s { peripheral_sent = sent }

abbrev pub is_question_way : Option LengthWay → Bool
is_question_way (Some (Control pdu)) = is_question pdu.pdu
is_question_way way = false

-- ---- the steps

abbrev pub may : LengthEvent → LengthLink → Bool
may (Accepts role octets) s = nat_le (end_of role s).lengths.own_rx octets
may (Limits role octets) s = true
may (Begins role) s = may_begin (end_of role s)
may (Closes role) s = not (end_of role s).closed
may (Sends role) s = is_none (way_from role s) && is_some (first_of (end_of role s).queue)
may (SendsData role octets) s = is_none (way_from role s) && nat_le octets (tx_of (end_of role s).lengths)
may (Takes role) s = is_some (way_to role s)
may Keeps s = is_question_way s.up && is_none s.kept
may TakesKept s = is_some s.kept

abbrev pub end_sends : Role → Option LengthPdu → LengthLink → LengthLink
end_sends role None s = s
end_sends role (Some pdu) s =
    with_sent_by role (sent_by role s ++ pdu.rx ∷ [])
    (with_way_from role (Some (Control pdu)) (with_end role (sent pdu (end_of role s)) s))

abbrev pub end_takes : Role → Option LengthWay → LengthLink → LengthLink
end_takes role None s = s
end_takes role (Some (Control pdu)) s = with_way_to role None (with_end role (taken pdu (end_of role s)) s)
end_takes role (Some (Data octets)) s = with_way_to role None s

abbrev pub central_keeps : Option LengthWay → LengthLink → LengthLink
central_keeps (Some (Control pdu)) s = record s { up = None; kept = Some pdu }
central_keeps way s = s

abbrev pub central_takes_kept : Option LengthPdu → LengthLink → LengthLink
central_takes_kept None s = s
central_takes_kept (Some pdu) s = record s { central = taken pdu s.central; kept = None }

abbrev pub act : LengthEvent → LengthLink → LengthLink
act (Accepts role octets) s = with_end role (accepting octets (end_of role s)) s
act (Limits role octets) s = with_end role (limited octets (end_of role s)) s
act (Begins role) s = with_end role (begun (end_of role s)) s
act (Closes role) s = with_end role (terminated (end_of role s)) s
act (Sends role) s = end_sends role (first_of (end_of role s).queue) s
act (SendsData role octets) s = with_way_from role (Some (Data octets)) s
act (Takes role) s = end_takes role (way_to role s) s
act Keeps s = central_keeps s.up s
act TakesKept s = central_takes_kept s.kept s

-- ---- the runs

-- a link whose ends receive these numbers of octets
abbrev pub start : ℕ → ℕ → LengthLink
start central_rx peripheral_rx =
    record {
      central = first_end central_rx;
      peripheral = first_end peripheral_rx;
      down = None;
      up = None;
      kept = None;
      central_sent = [];
      peripheral_sent = [];
    }

abbrev pub length_exchanges : ℕ → ℕ → Machine LengthLink LengthEvent
length_exchanges central_rx peripheral_rx = record { start = start central_rx peripheral_rx; may = may; act = act }
