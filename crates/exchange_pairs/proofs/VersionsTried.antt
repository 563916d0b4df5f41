-- All states and all steps of exchanges of versions, and that each step keeps the law of states.
use Rattle.std.proofs.Common.{◌≡◌, ◌≤◌, ℕ, ◌+◌, ◌==◌, Bool, true, false, ◌&&◌, nat_le, refl, eqb-true, arith}
use Rattle.std.proofs.lemmas.Bool.{and_parts, leb-true}
use Rattle.ble_base.specs.declared.roles.Role.{Role}
use Rattle.ble_base.specs.declared.roles.Role.TheVariants.{Central, Peripheral}
use Rattle.machines.proofs.Trying.{all_up_to, bools, each_up_to, from_if}
use Rattle.machines.proofs.Invariants.{IsLawful, Lawful, is_kept}
use Rattle.exchange_pairs.proofs.Values.{roles, stages}
use Rattle.exchange_pairs.specs.Exchange.{count_if, is_idle}
use Rattle.exchange_pairs.specs.Version.{VersionEnd}
use Rattle.exchange_pairs.specs.ExchangeRun.{other_role}
use Rattle.exchange_pairs.specs.VersionRun.{VersionEvent, VersionLink, Begins, Closes, Keeps, Sends, Takes, TakesKept, Wants, end_of, is_sent_by, keeps, knows, versions}
use Rattle.exchange_pairs.specs.VersionLaws.{are_versions_right, implies, is_open_until_known, is_sent_once, is_step_right, is_version_right}

-- ---- states, with at most one LL_VERSION_IND and one exchange that is wanted at each end

abbrev all_ends : (VersionEnd → Bool) → Bool
all_ends f =
    stages.all (λ own. all_up_to 1 (λ wanted. bools.all (λ used. all_up_to 1 (λ waiting. bools.all (λ closed.
    f (record { own = own; wanted = wanted; used = used; waiting = waiting; closed = closed }))))))

each_end : (f : VersionEnd → Bool) → all_ends f ≡ true → (e : VersionEnd) → e.wanted ≤ 1 → e.waiting ≤ 1 → f e ≡ true
each_end f all e one one_waits =
    bools.each (λ closed. f (record { own = e.own; wanted = e.wanted; used = e.used; waiting = e.waiting; closed = closed }))
    (each_up_to 1 (λ waiting. bools.all (λ closed. f (record { own = e.own; wanted = e.wanted; used = e.used; waiting = waiting; closed = closed })))
    (bools.each (λ used. all_up_to 1 (λ waiting. bools.all (λ closed. f (record { own = e.own; wanted = e.wanted; used = used; waiting = waiting; closed = closed }))))
    (each_up_to 1 (λ wanted. bools.all (λ used. all_up_to 1 (λ waiting. bools.all (λ closed. f (record { own = e.own; wanted = wanted; used = used; waiting = waiting; closed = closed })))))
    (stages.each (λ own. all_up_to 1 (λ wanted. bools.all (λ used. all_up_to 1 (λ waiting. bools.all (λ closed. f (record { own = own; wanted = wanted; used = used; waiting = waiting; closed = closed })))))) all e.own)
    e.wanted one) e.used) e.waiting one_waits) e.closed

abbrev link : VersionEnd → VersionEnd → Bool → Bool → Bool → Bool → Bool → VersionLink
link c p central_knows peripheral_knows down up kept =
    record { central = c; peripheral = p; central_knows = central_knows; peripheral_knows = peripheral_knows; down = down; up = up; kept = kept }

abbrev all_between : (VersionLink → Bool) → VersionEnd → VersionEnd → Bool
all_between f c p = bools.all (λ ck. bools.all (λ pk. bools.all (λ down. bools.all (λ up. bools.all (λ kept. f (link c p ck pk down up kept))))))

each_between : (f : VersionLink → Bool) (s : VersionLink) → all_between f s.central s.peripheral ≡ true → f s ≡ true
each_between f s all =
    let c = s.central in
    let p = s.peripheral in
    bools.each (λ kept. f (link c p s.central_knows s.peripheral_knows s.down s.up kept))
    (bools.each (λ up. bools.all (λ kept. f (link c p s.central_knows s.peripheral_knows s.down up kept)))
    (bools.each (λ down. bools.all (λ up. bools.all (λ kept. f (link c p s.central_knows s.peripheral_knows down up kept))))
    (bools.each (λ pk. bools.all (λ down. bools.all (λ up. bools.all (λ kept. f (link c p s.central_knows pk down up kept)))))
    (bools.each (λ ck. bools.all (λ pk. bools.all (λ down. bools.all (λ up. bools.all (λ kept. f (link c p ck pk down up kept))))))
    all s.central_knows) s.peripheral_knows) s.down) s.up) s.kept

abbrev all_links : (VersionLink → Bool) → Bool
all_links f = all_ends (λ c. all_ends (λ p. all_between f c p))

each_link : (f : VersionLink → Bool) → all_links f ≡ true → (s : VersionLink) → s.central.wanted ≤ 1 → s.central.waiting ≤ 1
    → s.peripheral.wanted ≤ 1 → s.peripheral.waiting ≤ 1 → f s ≡ true
each_link f all s a b c d =
    each_between f s
    (each_end (λ p. all_between f s.central p) (each_end (λ c. all_ends (λ p. all_between f c p)) all s.central a b) s.peripheral c d)

-- ---- events

abbrev all_events : (VersionEvent → Bool) → Bool
all_events f =
    roles.all (λ role. f (Wants role) && (f (Begins role) && (f (Closes role) && (f (Sends role) && f (Takes role)))))
    && (f Keeps && f TakesKept)

each_event : (f : VersionEvent → Bool) → all_events f ≡ true → (e : VersionEvent) → f e ≡ true
each_event f all e = by e
  where
    one : (roles.all (λ role. f (Wants role) && (f (Begins role) && (f (Closes role) && (f (Sends role) && f (Takes role))))) ≡ true)
        × ((f Keeps && f TakesKept) ≡ true)
    one = and_parts (roles.all (λ role. f (Wants role) && (f (Begins role) && (f (Closes role) && (f (Sends role) && f (Takes role)))))) (f Keeps && f TakesKept) all

    role_part : (role : Role) → (f (Wants role) && (f (Begins role) && (f (Closes role) && (f (Sends role) && f (Takes role))))) ≡ true
    role_part role = roles.each (λ r. f (Wants r) && (f (Begins r) && (f (Closes r) && (f (Sends r) && f (Takes r))))) one.0 role

    two : (role : Role) → (f (Begins role) && (f (Closes role) && (f (Sends role) && f (Takes role)))) ≡ true
    two role = (and_parts (f (Wants role)) (f (Begins role) && (f (Closes role) && (f (Sends role) && f (Takes role)))) (role_part role)).1

    three : (role : Role) → (f (Closes role) && (f (Sends role) && f (Takes role))) ≡ true
    three role = (and_parts (f (Begins role)) (f (Closes role) && (f (Sends role) && f (Takes role))) (two role)).1

    four : (role : Role) → (f (Sends role) && f (Takes role)) ≡ true
    four role = (and_parts (f (Closes role)) (f (Sends role) && f (Takes role)) (three role)).1

    by : (x : VersionEvent) → f x ≡ true
    by (Wants role) = (and_parts (f (Wants role)) (f (Begins role) && (f (Closes role) && (f (Sends role) && f (Takes role)))) (role_part role)).0
    by (Begins role) = (and_parts (f (Begins role)) (f (Closes role) && (f (Sends role) && f (Takes role))) (two role)).0
    by (Closes role) = (and_parts (f (Closes role)) (f (Sends role) && f (Takes role)) (three role)).0
    by (Sends role) = (and_parts (f (Sends role)) (f (Takes role)) (four role)).0
    by (Takes role) = (and_parts (f (Sends role)) (f (Takes role)) (four role)).1
    by Keeps = (and_parts (f Keeps) (f TakesKept) one.1).0
    by TakesKept = (and_parts (f Keeps) (f TakesKept) one.1).1

-- ---- the law is kept

abbrev pub laws : Lawful VersionLink VersionEvent
laws = record { machine = versions; holds = are_versions_right; is_right = is_step_right }

abbrev is_kept_at : VersionLink → Bool
is_kept_at s = elim (are_versions_right s) [ true ↦ all_events (is_kept laws s) | false ↦ true ]

all_kept : all_links is_kept_at ≡ true
all_kept = refl

begins_right : are_versions_right versions.start ≡ true
begins_right = refl

waiting_one : (a b c d : ℕ) (used : Bool) → (a + b + c + d == count_if used) ≡ true → a ≤ 1
waiting_one a b c d true is = let e = eqb-true (a + b + c + d) 1 is in omega arith
waiting_one a b c d false is = let e = eqb-true (a + b + c + d) 0 is in omega arith

-- the parts of the law that bound the numbers of a state
pub bounds : (role : Role) (s : VersionLink) → is_version_right role s ≡ true → ((end_of role s).wanted ≤ 1) × ((end_of role s).waiting ≤ 1)
bounds role s known =
    let one = and_parts (is_sent_once role s) _ known in
    let two = and_parts (is_open_until_known role s) _ one.1 in
    let three = and_parts (implies (knows role s) _) (nat_le (end_of role s).wanted 1) two.0 in (
      leb-true (end_of role s).wanted 1 three.1,
      waiting_one (end_of role s).waiting (count_if (is_sent_by role s)) (count_if (keeps (other_role role) s)) (count_if (knows (other_role role) s)) (end_of role s).used one.0,
    )

pub are_lawful : IsLawful laws
are_lawful =
    record {
      begins = begins_right;
      kept = λ s known e.
          let one = and_parts (is_version_right Central s) _ known in
          let two = and_parts (is_version_right Peripheral s) (implies s.kept (is_idle s.central.own)) one.1 in
          let c = bounds Central s one.0 in
          let p = bounds Peripheral s two.0 in
          each_event (is_kept laws s)
          (from_if (are_versions_right s) (all_events (is_kept laws s)) (each_link is_kept_at all_kept s c.0 c.1 p.0 p.1) known) e;
    }
