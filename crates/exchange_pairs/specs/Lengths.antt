-- One end of an exchange of lengths, with the values that LL_LENGTH_REQ and LL_LENGTH_RSP carry (Core 5.2, volume 6
-- part B, sections 4.5.10 and 5.1.9).
use Rattle.std.specs.Prelude.{ℕ, Bool, true, false, not, ◌&&◌, List, [], ◌∷◌, ◌++◌, drop, Option, Some, None, if◌then◌else◌}
use Rattle.procedure_values.specs.declared.lengths.Lengths.{Lengths}
use Rattle.procedure_values.specs.Limits.{first_lengths, with_own_tx, with_peer}
use Rattle.exchange_pairs.specs.Exchange.{ExchangePdu, ExchangeStage, Answer, Idle, Question, Unsent, is_idle, is_sent, own_after_answer, own_after_sending}

-- LL_LENGTH_REQ or LL_LENGTH_RSP, with what its sender receives and transmits at most, in octets
pub record LengthPdu : Type 0 where
  pub pdu : ExchangePdu
  pub rx : ℕ
  pub tx : ℕ

pub record LengthEnd : Type 0 where
  pub own : ExchangeStage
  -- the longest payloads, as this end knows them
  pub lengths : Lengths
  -- the PDUs of this exchange that wait to be sent, in order
  pub queue : List LengthPdu
  -- LL_TERMINATE_IND was queued: nothing more is
  pub closed : Bool

-- ---- what an end does

-- a PDU carries the limits of its sender as they are when it is queued (our choice)
abbrev pub length_pdu : ExchangePdu → Lengths → LengthPdu
length_pdu pdu lengths = record { pdu = pdu; rx = lengths.own_rx; tx = lengths.own_tx }

abbrev pub queued : ExchangePdu → LengthEnd → LengthEnd
queued pdu e = (if e.closed then e else record e { queue = e.queue ++ length_pdu pdu e.lengths ∷ [] })

abbrev pub may_begin : LengthEnd → Bool
may_begin e = is_idle e.own && not e.closed

abbrev pub begun : LengthEnd → LengthEnd
begun e = queued Question (record e { own = Unsent })

abbrev pub first_of : List LengthPdu → Option LengthPdu
first_of [] = None
first_of (pdu ∷ more) = Some pdu

abbrev pub sent : LengthPdu → LengthEnd → LengthEnd
sent pdu e = record e { own = own_after_sending pdu.pdu e.own; queue = drop 1 e.queue }

-- the peer's limits are known
abbrev pub with_limits : LengthPdu → LengthEnd → LengthEnd
with_limits pdu e = record e { lengths = with_peer e.lengths pdu.rx pdu.tx }

-- a PDU of the peer is taken: a question is answered, an answer that is not awaited is ignored
abbrev pub answered : LengthPdu → LengthEnd → LengthEnd
answered pdu e = (if is_sent e.own then with_limits pdu (record e { own = Idle }) else e)

abbrev pub taken_as : ExchangePdu → LengthPdu → LengthEnd → LengthEnd
taken_as Question pdu e = queued Answer (with_limits pdu e)
taken_as Answer pdu e = answered pdu e

abbrev pub taken : LengthPdu → LengthEnd → LengthEnd
taken pdu e = taken_as pdu.pdu pdu e

-- a refusal ends the own exchange whose question was sent
abbrev pub refused : LengthEnd → LengthEnd
refused e = record e { own = own_after_answer e.own }

-- the host sets what this end transmits
abbrev pub limited : ℕ → LengthEnd → LengthEnd
limited tx e = record e { lengths = with_own_tx e.lengths tx }

-- this end receives more from now on
abbrev pub accepting : ℕ → LengthEnd → LengthEnd
accepting rx e = record e { lengths = record e.lengths { own_rx = rx } }

-- LL_TERMINATE_IND is queued
abbrev pub terminated : LengthEnd → LengthEnd
terminated e = record e { closed = true }

-- an end of a link that begins, and that receives this number of octets
abbrev pub first_end : ℕ → LengthEnd
first_end rx = record { own = Idle; lengths = first_lengths rx; queue = []; closed = false }
