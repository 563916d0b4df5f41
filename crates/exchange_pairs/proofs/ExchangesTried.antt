-- All states and all steps of an exchange, and that each step keeps the law of states.
use Rattle.std.proofs.Common.{◌≡◌, ◌≤◌, ℕ, Bool, true, false, ◌&&◌, length, refl, nat_le}
use Rattle.std.proofs.lemmas.Bool.{and_parts, leb-true}
use Rattle.ble_base.specs.declared.roles.Role.TheVariants.{Central, Peripheral}
use Rattle.machines.proofs.Trying.{Tried, bools, options, all_lists, each_list, from_if}
use Rattle.machines.proofs.Invariants.{IsLawful, Lawful, is_kept}
use Rattle.exchange_pairs.proofs.Values.{roles, stages}
use Rattle.exchange_pairs.specs.Exchange.{ExchangeEnd, ExchangePdu, Answer, Question}
use Rattle.exchange_pairs.specs.ExchangeRun.{ExchangeEvent, ExchangeLink, Begins, Closes, Keeps, Sends, Takes, TakesKept, exchanges}
use Rattle.exchange_pairs.specs.ExchangeLaws.{are_exchanges_right, is_few, is_step_right}

-- ---- pieces

each_pdu : (f : ExchangePdu → Bool) → (f Question && f Answer) ≡ true → (x : ExchangePdu) → f x ≡ true
each_pdu f all Question = (and_parts (f Question) (f Answer) all).0
each_pdu f all Answer = (and_parts (f Question) (f Answer) all).1

abbrev pdus : Tried ExchangePdu
pdus = record { all = λ f. f Question && f Answer; each = each_pdu }

-- ---- states, with at most two PDUs in each queue

abbrev all_ends : (ExchangeEnd → Bool) → Bool
all_ends f =
    stages.all (λ own. bools.all (λ closed. all_lists pdus 2 (λ queue. f (record { own = own; queue = queue; closed = closed }))))

each_end : (f : ExchangeEnd → Bool) → all_ends f ≡ true → (e : ExchangeEnd) → length e.queue ≤ 2 → f e ≡ true
each_end f all e short =
    each_list pdus 2 (λ queue. f (record { own = e.own; queue = queue; closed = e.closed }))
    (bools.each (λ closed. all_lists pdus 2 (λ queue. f (record { own = e.own; queue = queue; closed = closed })))
    (stages.each (λ own. bools.all (λ closed. all_lists pdus 2 (λ queue. f (record { own = own; queue = queue; closed = closed })))) all e.own)
    e.closed) e.queue short

abbrev all_links : (ExchangeLink → Bool) → Bool
all_links f =
    all_ends (λ c. all_ends (λ p. (options pdus).all (λ down. (options pdus).all (λ up. bools.all (λ kept.
    f (record { central = c; peripheral = p; down = down; up = up; kept = kept }))))))

each_link : (f : ExchangeLink → Bool) → all_links f ≡ true → (s : ExchangeLink) → length s.central.queue ≤ 2
    → length s.peripheral.queue ≤ 2 → f s ≡ true
each_link f all s few_down few_up =
    bools.each (λ kept. f (record { central = s.central; peripheral = s.peripheral; down = s.down; up = s.up; kept = kept }))
    ((options pdus).each (λ up. bools.all (λ kept. f (record { central = s.central; peripheral = s.peripheral; down = s.down; up = up; kept = kept })))
    ((options pdus).each (λ down. (options pdus).all (λ up. bools.all (λ kept. f (record { central = s.central; peripheral = s.peripheral; down = down; up = up; kept = kept }))))
    (each_end (λ p. (options pdus).all (λ down. (options pdus).all (λ up. bools.all (λ kept. f (record { central = s.central; peripheral = p; down = down; up = up; kept = kept })))))
    (each_end (λ c. all_ends (λ p. (options pdus).all (λ down. (options pdus).all (λ up. bools.all (λ kept. f (record { central = c; peripheral = p; down = down; up = up; kept = kept }))))))
    all s.central few_down) s.peripheral few_up) s.down) s.up) s.kept

-- ---- events

abbrev all_events : (ExchangeEvent → Bool) → Bool
all_events f =
    roles.all (λ role. f (Begins role)) && (roles.all (λ role. f (Closes role)) && (roles.all (λ role. f (Sends role))
    && (roles.all (λ role. f (Takes role)) && (f Keeps && f TakesKept))))

each_event : (f : ExchangeEvent → Bool) → all_events f ≡ true → (e : ExchangeEvent) → f e ≡ true
each_event f all e = by e
  where
    one : (roles.all (λ role. f (Begins role)) ≡ true) × ((roles.all (λ role. f (Closes role)) && (roles.all (λ role. f (Sends role)) && (roles.all (λ role. f (Takes role)) && (f Keeps && f TakesKept)))) ≡ true)
    one = and_parts (roles.all (λ role. f (Begins role))) _ all

    two : (roles.all (λ role. f (Closes role)) ≡ true) × ((roles.all (λ role. f (Sends role)) && (roles.all (λ role. f (Takes role)) && (f Keeps && f TakesKept))) ≡ true)
    two = and_parts (roles.all (λ role. f (Closes role))) _ one.1

    three : (roles.all (λ role. f (Sends role)) ≡ true) × ((roles.all (λ role. f (Takes role)) && (f Keeps && f TakesKept)) ≡ true)
    three = and_parts (roles.all (λ role. f (Sends role))) _ two.1

    four : (roles.all (λ role. f (Takes role)) ≡ true) × ((f Keeps && f TakesKept) ≡ true)
    four = and_parts (roles.all (λ role. f (Takes role))) _ three.1

    by : (x : ExchangeEvent) → f x ≡ true
    by (Begins role) = roles.each (λ r. f (Begins r)) one.0 role
    by (Closes role) = roles.each (λ r. f (Closes r)) two.0 role
    by (Sends role) = roles.each (λ r. f (Sends r)) three.0 role
    by (Takes role) = roles.each (λ r. f (Takes r)) four.0 role
    by Keeps = (and_parts (f Keeps) (f TakesKept) four.1).0
    by TakesKept = (and_parts (f Keeps) (f TakesKept) four.1).1

-- ---- the law is kept

abbrev pub laws : Lawful ExchangeLink ExchangeEvent
laws = record { machine = exchanges; holds = are_exchanges_right; is_right = is_step_right }

abbrev is_kept_at : ExchangeLink → Bool
is_kept_at s = elim (are_exchanges_right s) [ true ↦ all_events (is_kept laws s) | false ↦ true ]

all_kept : all_links is_kept_at ≡ true
all_kept = refl

begins_right : are_exchanges_right exchanges.start ≡ true
begins_right = refl

short_by : (n : ℕ) → nat_le n 2 ≡ true → n ≤ 2
short_by n is = leb-true n 2 is

pub few : (s : ExchangeLink) → are_exchanges_right s ≡ true → (length s.central.queue ≤ 2) × (length s.peripheral.queue ≤ 2)
few s known =
    let one = and_parts (is_few Central s && is_few Peripheral s) _ known in
    let two = and_parts (is_few Central s) (is_few Peripheral s) one.0 in
    (short_by (length s.central.queue) two.0, short_by (length s.peripheral.queue) two.1)

pub are_lawful : IsLawful laws
are_lawful =
    record {
      begins = begins_right;
      kept = λ s known e.
          each_event (is_kept laws s)
          (from_if (are_exchanges_right s) (all_events (is_kept laws s))
          (each_link is_kept_at all_kept s (few s known).0 (few s known).1) known) e;
    }
