-- One end of an exchange of a question and an answer: of features by LL_FEATURE_REQ or LL_PERIPHERAL_FEATURE_REQ and
-- LL_FEATURE_RSP, or of lengths by LL_LENGTH_REQ and LL_LENGTH_RSP (Core 5.2, volume 6 part B, sections 5.1.4 and
-- 5.1.9).
use Rattle.std.specs.Prelude.{ℕ, ◌+◌, Bool, true, false, not, ◌&&◌, List, [], ◌∷◌, ◌++◌, drop, Option, Some, None, if◌then◌else◌}

pub data ExchangePdu : Type 0 where
  Question : ExchangePdu
  Answer : ExchangePdu

-- how far the own exchange is
pub data ExchangeStage : Type 0 where
  Idle : ExchangeStage
  -- its question waits to be sent
  Unsent : ExchangeStage
  -- its question was sent, and no answer was taken
  Sent : ExchangeStage

pub record ExchangeEnd : Type 0 where
  pub own : ExchangeStage
  -- the PDUs of this exchange that wait to be sent, in order
  pub queue : List ExchangePdu
  -- LL_TERMINATE_IND was queued: nothing more is
  pub closed : Bool

abbrev pub is_idle : ExchangeStage → Bool
is_idle Idle = true
is_idle own = false

abbrev pub is_sent : ExchangeStage → Bool
is_sent Sent = true
is_sent own = false

abbrev pub is_question : ExchangePdu → Bool
is_question Question = true
is_question Answer = false

abbrev pub is_answer : ExchangePdu → Bool
is_answer Question = false
is_answer Answer = true

abbrev pub count_if : Bool → ℕ
count_if true = 1
count_if false = 0

-- how many of these PDUs pass a test
abbrev pub number_of : (ExchangePdu → Bool) → List ExchangePdu → ℕ
number_of test [] = 0
number_of test (pdu ∷ pdus) = count_if (test pdu) + number_of test pdus

-- ---- what an end does

-- nothing is queued once LL_TERMINATE_IND was (section 5.1.6)
abbrev pub queued : ExchangePdu → ExchangeEnd → ExchangeEnd
queued pdu e = (if e.closed then e else record e { queue = e.queue ++ pdu ∷ [] })

abbrev pub may_begin : ExchangeEnd → Bool
may_begin e = is_idle e.own && not e.closed

abbrev pub begun : ExchangeEnd → ExchangeEnd
begun e = queued Question (record e { own = Unsent })

-- what is sent next
abbrev pub first_of : List ExchangePdu → Option ExchangePdu
first_of [] = None
first_of (pdu ∷ more) = Some pdu

abbrev pub own_after_sending : ExchangePdu → ExchangeStage → ExchangeStage
own_after_sending Question Unsent = Sent
own_after_sending pdu own = own

abbrev pub sent : ExchangePdu → ExchangeEnd → ExchangeEnd
sent pdu e = record e { own = own_after_sending pdu e.own; queue = drop 1 e.queue }

-- an answer, or a refusal, ends the own exchange whose question was sent
abbrev pub own_after_answer : ExchangeStage → ExchangeStage
own_after_answer Sent = Idle
own_after_answer own = own

abbrev pub answered : ExchangeEnd → ExchangeEnd
answered e = record e { own = own_after_answer e.own }

-- a PDU of the peer is taken: a question is answered, an answer that is not awaited is ignored
abbrev pub taken : ExchangePdu → ExchangeEnd → ExchangeEnd
taken Question e = queued Answer e
taken Answer e = answered e

-- LL_TERMINATE_IND is queued
abbrev pub terminated : ExchangeEnd → ExchangeEnd
terminated e = record e { closed = true }

-- an end of a link that begins
abbrev pub first_end : ExchangeEnd
first_end = record { own = Idle; queue = []; closed = false }
