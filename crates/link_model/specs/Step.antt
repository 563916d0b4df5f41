-- What happens to one end of a link, step by step (our choice).
use Rattle.std.specs.Prelude.{ℕ, Bool, true, false, List, Option, Result}
use Rattle.ble_base.specs.declared.error_codes.ErrCode.{ErrCode}
use Rattle.phased_end.specs.control_end.procedure_values.declared.asks.Ask.{Ask}

pub data Step : Type 0 where
  -- its host gives it a packet of data: the start of a message, or a continuation
  DataGiven : (start : Bool) (body : List ℕ) → Step
  -- its host asks for a procedure, answers a request of the peer, or ends the link in this slot
  ProcedureAsked : (ask : Ask) → Step
  RequestAnswered : (answer : Result Ask ErrCode) → Step
  -- the host of a peripheral answers in this slot that it has this long term key, or none
  KeyAnswered : (key : Option (List ℕ)) (slot : ℕ) → Step
  Disconnected : (reason : ErrCode) (slot : ℕ) → Step
  -- it enters the next connection event, the anchor of which is in this slot
  EventEntered : (slot : ℕ) → Step
  -- a turn begins in which it may send: it fixes its next PDU
  PduFixed : Step
  -- it sends its packet in this slot
  PacketSent : (slot : ℕ) → Step
  -- what a peripheral would draw to answer LL_ENC_REQ: its halves of the session key diversifier and of the
  -- initialization vector
  WordsGiven : (skd_s iv_s : ℕ) → Step
  -- octets reach it in this slot, on its channel; there is room for a piece of data, or not
  PacketReceived : (slot : ℕ) (octets : List ℕ) (room : Bool) → Step
  -- the complete packets are reported to its host
  DataReported : Step

abbrev pub begins_turn : Step → Bool
begins_turn PduFixed = true
begins_turn other = false
