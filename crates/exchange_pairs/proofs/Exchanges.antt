-- The laws of all joint runs of an exchange of a question and an answer.
use Rattle.std.proofs.Common.{◌≡◌, ◌≤◌, ◌⊎◌, inl, inr, ℕ, ◌==◌, Bool, true, false, not, ◌&&◌, ◌||◌, List, length, Some, is_some, refl, subst, eqb-true, ap}
use Rattle.std.proofs.lemmas.Bool.{and_parts}
use Rattle.ble_base.specs.declared.roles.Role.{Role}
use Rattle.ble_base.specs.declared.roles.Role.TheVariants.{Central, Peripheral}
use Rattle.machines.specs.Machine.{run}
use Rattle.machines.proofs.Invariants.{run_holds, run_right}
use Rattle.exchange_pairs.specs.Exchange.{ExchangePdu, ExchangeStage, Answer, Idle, Question, Sent, Unsent, is_answer, is_idle, is_sent, number_of}
use Rattle.exchange_pairs.specs.ExchangeRun.{ExchangeEvent, Begins, Keeps, Takes, TakesKept, end_of, exchanges, is_pdu, may, other_role, way_from, way_to}
use Rattle.exchange_pairs.specs.ExchangeLaws.{are_exchanges_right, is_exchange_right, is_few, is_meant, is_stage_right, places, questions_waiting}
use Rattle.exchange_pairs.proofs.ExchangesTried.{are_lawful, few, laws}

pub lawful : (events : List ExchangeEvent) → are_exchanges_right (run exchanges events) ≡ true
lawful events = run_holds laws are_lawful events

right : (events : List ExchangeEvent) (role : Role) → is_exchange_right role (run exchanges events) ≡ true
right events role = by role
  where
    both : (is_exchange_right Central (run exchanges events) ≡ true) × (is_exchange_right Peripheral (run exchanges events) ≡ true)
    both =
        let s = run exchanges events in
        and_parts (is_exchange_right Central s) (is_exchange_right Peripheral s)
        (and_parts (is_few Central s && is_few Peripheral s) _ (lawful events)).1

    by : (r : Role) → is_exchange_right r (run exchanges events) ≡ true
    by Central = both.0
    by Peripheral = both.1

-- ---- where a question and its answer are

idle_by : (w p : ℕ) (c : Bool) → is_stage_right Idle w p c ≡ true → (w ≡ 0) × (p ≡ 0)
idle_by w p c is = let both = and_parts (w == 0) (p == 0) is in (eqb-true w 0 both.0, eqb-true p 0 both.1)

unsent_by : (w p : ℕ) (c : Bool) → is_stage_right Unsent w p c ≡ true → (w ≡ 1) × (p ≡ 0)
unsent_by w p c is = let both = and_parts (w == 1) (p == 0) is in (eqb-true w 1 both.0, eqb-true p 0 both.1)

sent_by : (w p : ℕ) (c : Bool) → is_stage_right Sent w p c ≡ true → (w ≡ 0) × ((p ≡ 1) ⊎ ((p ≡ 0) × (c ≡ true)))
sent_by w p c is = let both = and_parts (w == 0) (p == 1 || p == 0 && c) is in (eqb-true w 0 both.0, by (p == 1) refl both.1)
  where
    by : (b : Bool) → (p == 1) ≡ b → (b || p == 0 && c) ≡ true → (p ≡ 1) ⊎ ((p ≡ 0) × (c ≡ true))
    by true e h = inl (eqb-true p 1 e)
    by false e h = let both = and_parts (p == 0) c h in inr (eqb-true p 0 both.0, both.1)

stage_right : (events : List ExchangeEvent) (role : Role) (own : ExchangeStage) → (end_of role (run exchanges events)).own ≡ own
    → is_stage_right own (questions_waiting role (run exchanges events)) (places role (run exchanges events)) (end_of (other_role role) (run exchanges events)).closed ≡ true
stage_right events role own is =
    let s = run exchanges events in
    subst (λ o. is_stage_right o (questions_waiting role s) (places role s) (end_of (other_role role) s).closed ≡ true) is (right events role)

pub idle : (events : List ExchangeEvent) (role : Role) → (end_of role (run exchanges events)).own ≡ Idle
    → (questions_waiting role (run exchanges events) ≡ 0) × (places role (run exchanges events) ≡ 0)
idle events role is =
    let s = run exchanges events in
    idle_by (questions_waiting role s) (places role s) (end_of (other_role role) s).closed (stage_right events role Idle is)

pub unsent : (events : List ExchangeEvent) (role : Role) → (end_of role (run exchanges events)).own ≡ Unsent
    → (questions_waiting role (run exchanges events) ≡ 1) × (places role (run exchanges events) ≡ 0)
unsent events role is =
    let s = run exchanges events in
    unsent_by (questions_waiting role s) (places role s) (end_of (other_role role) s).closed (stage_right events role Unsent is)

pub sent : (events : List ExchangeEvent) (role : Role) → (end_of role (run exchanges events)).own ≡ Sent
    → (questions_waiting role (run exchanges events) ≡ 0)
    × ((places role (run exchanges events) ≡ 1)
    ⊎ ((places role (run exchanges events) ≡ 0) × ((end_of (other_role role) (run exchanges events)).closed ≡ true)))
sent events role is =
    let s = run exchanges events in
    sent_by (questions_waiting role s) (places role s) (end_of (other_role role) s).closed (stage_right events role Sent is)

is_idle_from : (own : ExchangeStage) → is_idle own ≡ true → own ≡ Idle
is_idle_from Idle is = refl
is_idle_from Unsent is = absurd (cc)
is_idle_from Sent is = absurd (cc)

pub begins : (events : List ExchangeEvent) (role : Role) → may (Begins role) (run exchanges events) ≡ true
    → (questions_waiting role (run exchanges events) ≡ 0) × (places role (run exchanges events) ≡ 0)
begins events role comes =
    let e = end_of role (run exchanges events) in
    idle events role (is_idle_from e.own (and_parts (is_idle e.own) (not e.closed) comes).0)

-- ---- what is taken

is_sent_from : (own : ExchangeStage) → is_sent own ≡ true → own ≡ Sent
is_sent_from Sent is = refl
is_sent_from Unsent is = absurd (cc)
is_sent_from Idle is = absurd (cc)

meant : (events : List ExchangeEvent) (role : Role) (pdu : ExchangePdu) → way_to role (run exchanges events) ≡ Some pdu
    → is_meant role (Some pdu) (run exchanges events) ≡ true
meant events role pdu is =
    let s = run exchanges events in
    subst (λ w. is_meant role w s ≡ true) is (run_right laws are_lawful events (Takes role) (ap is_some is))

pub answers : (events : List ExchangeEvent) (role : Role) → way_to role (run exchanges events) ≡ Some Answer
    → (end_of role (run exchanges events)).own ≡ Sent
answers events role is = is_sent_from _ (meant events role Answer is)

owes_by : (n : ℕ) (b : Bool) → (n == 0 && not b) ≡ true → (n ≡ 0) × (b ≡ false)
owes_by n b is = let both = and_parts (n == 0) (not b) is in (eqb-true n 0 both.0, by b both.1)
  where
    by : (x : Bool) → not x ≡ true → x ≡ false
    by false h = refl
    by true h = absurd (cc)

pub questions : (events : List ExchangeEvent) (role : Role) → way_to role (run exchanges events) ≡ Some Question
    → (number_of is_answer (end_of role (run exchanges events)).queue ≡ 0)
    × (is_pdu is_answer (way_from role (run exchanges events)) ≡ false)
questions events role is = owes_by _ _ (meant events role Question is)

pub kept_questions : (events : List ExchangeEvent) → (run exchanges events).kept ≡ true
    → (number_of is_answer (run exchanges events).central.queue ≡ 0)
    × (is_pdu is_answer (run exchanges events).down ≡ false)
kept_questions events is = owes_by _ _ (run_right laws are_lawful events TakesKept is)

pub one_kept : (events : List ExchangeEvent) → may Keeps (run exchanges events) ≡ true → (run exchanges events).kept ≡ false
one_kept events comes = by (run exchanges events).kept (run_right laws are_lawful events Keeps comes)
  where
    by : (b : Bool) → not b ≡ true → b ≡ false
    by false h = refl
    by true h = absurd (cc)

-- ---- how many wait

pub few_wait : (events : List ExchangeEvent) (role : Role) → length (end_of role (run exchanges events)).queue ≤ 2
few_wait events role = by role
  where
    both : (length (run exchanges events).central.queue ≤ 2) × (length (run exchanges events).peripheral.queue ≤ 2)
    both = few (run exchanges events) (lawful events)

    by : (r : Role) → length (end_of r (run exchanges events)).queue ≤ 2
    by Central = both.0
    by Peripheral = both.1
