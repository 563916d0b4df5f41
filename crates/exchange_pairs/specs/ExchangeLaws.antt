-- What holds of an exchange of a question and an answer in each state of a joint run, and in each of its steps.
use Rattle.std.specs.Prelude.{ℕ, ◌+◌, ◌==◌, nat_le, Bool, true, false, not, ◌&&◌, ◌||◌, length, Some, None, Option}
use Rattle.ble_base.specs.declared.roles.Role.{Role}
use Rattle.ble_base.specs.declared.roles.Role.TheVariants.{Central, Peripheral}
use Rattle.exchange_pairs.specs.Exchange.{ExchangePdu, ExchangeStage, Answer, Question, Idle, Sent, Unsent, count_if, is_answer, is_question, is_sent, number_of}
use Rattle.exchange_pairs.specs.ExchangeRun.{ExchangeEvent, ExchangeLink, Keeps, Takes, TakesKept, end_of, is_pdu, other_role, way_from, way_to}

-- ---- where the question of an end is, and the answer to it

-- how many wait to be sent
abbrev pub questions_waiting : Role → ExchangeLink → ℕ
questions_waiting role s = number_of is_question (end_of role s).queue

abbrev pub is_kept : Role → ExchangeLink → Bool
is_kept Central s = false
is_kept Peripheral s = s.kept

-- the question is on its way or kept, or the answer waits at the peer or is on its way: how many of these there are
abbrev pub places : Role → ExchangeLink → ℕ
places role s =
    count_if (is_pdu is_question (way_from role s)) + count_if (is_kept role s)
    + number_of is_answer (end_of (other_role role) s).queue + count_if (is_pdu is_answer (way_to role s))

-- an end with no exchange of its own has nothing of one; one whose question is unsent has that in its queue, and
-- nothing else; after the question was sent, it or its answer is in one place, or nowhere if the peer is to end the
-- link
abbrev pub is_stage_right : ExchangeStage → ℕ → ℕ → Bool → Bool
is_stage_right Idle waiting places closing = waiting == 0 && places == 0
is_stage_right Unsent waiting places closing = waiting == 1 && places == 0
is_stage_right Sent waiting places closing = waiting == 0 && (places == 1 || places == 0 && closing)

abbrev pub is_exchange_right : Role → ExchangeLink → Bool
is_exchange_right role s =
    is_stage_right (end_of role s).own (questions_waiting role s) (places role s) (end_of (other_role role) s).closed

-- at most two PDUs of this exchange wait at an end
abbrev pub is_few : Role → ExchangeLink → Bool
is_few role s = nat_le (length (end_of role s).queue) 2

-- ---- the law of states

abbrev pub are_exchanges_right : ExchangeLink → Bool
are_exchanges_right s =
    (is_few Central s && is_few Peripheral s) && (is_exchange_right Central s && is_exchange_right Peripheral s)

-- ---- the law of steps

-- an end that takes a question owes no answer yet; one that takes an answer has asked
abbrev pub is_meant : Role → Option ExchangePdu → ExchangeLink → Bool
is_meant role None s = true
is_meant role (Some Question) s =
    number_of is_answer (end_of role s).queue == 0 && not (is_pdu is_answer (way_from role s))
is_meant role (Some Answer) s = is_sent (end_of role s).own

abbrev pub is_step_right : ExchangeEvent → ExchangeLink → Bool
is_step_right (Takes role) s = is_meant role (way_to role s) s
is_step_right Keeps s = not s.kept
is_step_right TakesKept s = is_meant Central (Some Question) s
is_step_right event s = true
