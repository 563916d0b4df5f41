-- Joint runs of an exchange of a question and an answer: each end may have one of its own, and answers that of the peer
-- (Core 5.2, volume 6 part B, sections 5.1.4 and 5.1.9).
--
-- Of the rules of a link a run needs one alone: an end sends a further PDU only after its last one was taken, so that
-- the PDUs of a direction are taken in order, each once. Whether the sender has seen the acknowledgement does not
-- matter here, nor do PDUs of other procedures. A run stops as an end takes LL_TERMINATE_IND or is shut, so no step
-- takes one.
use Rattle.std.specs.Prelude.{Bool, true, false, not, ◌&&◌, Option, Some, None, is_some, is_none}
use Rattle.ble_base.specs.declared.roles.Role.{Role}
use Rattle.ble_base.specs.declared.roles.Role.TheVariants.{Central, Peripheral}
use Rattle.machines.specs.Machine.{Machine}
use Rattle.exchange_pairs.specs.Exchange.{ExchangeEnd, ExchangePdu, Question, begun, first_end, first_of, is_question, may_begin, sent, taken, terminated}

pub record ExchangeLink : Type 0 where
  pub central : ExchangeEnd
  pub peripheral : ExchangeEnd
  -- the PDU of each end that was fixed or sent, and not taken
  pub down : Option ExchangePdu
  pub up : Option ExchangePdu
  -- the central keeps a question of the peripheral, since it came while encryption starts or pauses (section 5.1.3, our
  -- choice)
  pub kept : Bool

pub data ExchangeEvent : Type 0 where
  -- an end begins an exchange
  Begins : Role → ExchangeEvent
  -- it queues LL_TERMINATE_IND
  Closes : Role → ExchangeEvent
  -- it fixes the next of its PDUs that wait
  Sends : Role → ExchangeEvent
  -- it takes the PDU that is on its way
  Takes : Role → ExchangeEvent
  -- the central keeps the question that is on its way, and takes it afterwards
  Keeps : ExchangeEvent
  TakesKept : ExchangeEvent

-- ---- the ends and the directions, by the role of an end

abbrev pub end_of : Role → ExchangeLink → ExchangeEnd
end_of Central s = s.central
end_of Peripheral s = s.peripheral

abbrev pub with_end : Role → ExchangeEnd → ExchangeLink → ExchangeLink
with_end Central e s = record s { central = e }
with_end Peripheral e s = record s { peripheral = e }

abbrev pub other_role : Role → Role
other_role Central = Peripheral
other_role Peripheral = Central

-- what this end sent
abbrev pub way_from : Role → ExchangeLink → Option ExchangePdu
way_from Central s = s.down
way_from Peripheral s = s.up

abbrev pub with_way_from : Role → Option ExchangePdu → ExchangeLink → ExchangeLink
with_way_from Central way s = record s { down = way }
with_way_from Peripheral way s = record s { up = way }

-- what comes to it
abbrev pub way_to : Role → ExchangeLink → Option ExchangePdu
way_to Central s = s.up
way_to Peripheral s = s.down

abbrev pub with_way_to : Role → Option ExchangePdu → ExchangeLink → ExchangeLink
with_way_to Central way s = record s { up = way }
with_way_to Peripheral way s = record s { down = way }

abbrev pub is_pdu : (ExchangePdu → Bool) → Option ExchangePdu → Bool
is_pdu test None = false
is_pdu test (Some pdu) = test pdu

-- ---- the steps

abbrev pub may : ExchangeEvent → ExchangeLink → Bool
may (Begins role) s = may_begin (end_of role s)
may (Closes role) s = not (end_of role s).closed
may (Sends role) s = is_none (way_from role s) && is_some (first_of (end_of role s).queue)
may (Takes role) s = is_some (way_to role s)
may Keeps s = is_pdu is_question s.up
may TakesKept s = s.kept

abbrev pub end_sends : Role → Option ExchangePdu → ExchangeLink → ExchangeLink
end_sends role None s = s
end_sends role (Some pdu) s = with_way_from role (Some pdu) (with_end role (sent pdu (end_of role s)) s)

abbrev pub end_takes : Role → Option ExchangePdu → ExchangeLink → ExchangeLink
end_takes role None s = s
end_takes role (Some pdu) s = with_way_to role None (with_end role (taken pdu (end_of role s)) s)

abbrev pub act : ExchangeEvent → ExchangeLink → ExchangeLink
act (Begins role) s = with_end role (begun (end_of role s)) s
act (Closes role) s = with_end role (terminated (end_of role s)) s
act (Sends role) s = end_sends role (first_of (end_of role s).queue) s
act (Takes role) s = end_takes role (way_to role s) s
act Keeps s = record s { up = None; kept = true }
act TakesKept s = record s { central = taken Question s.central; kept = false }

-- ---- the runs

abbrev pub start : ExchangeLink
start = record { central = first_end; peripheral = first_end; down = None; up = None; kept = false }

abbrev pub exchanges : Machine ExchangeLink ExchangeEvent
exchanges = record { start = start; may = may; act = act }
