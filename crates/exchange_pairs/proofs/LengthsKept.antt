-- Each step of an exchange of lengths keeps what each end knows of what the other receives.
use Rattle.std.proofs.Common.{◌≡◌, ◌≤◌, ◌⊎◌, inl, inr, ℕ, nat_le, Bool, true, false, List, [], ◌∷◌, ◌++◌, Option, Some, None, is_none, if◌then◌else◌, refl, subst, arith}
use Rattle.std.proofs.lemmas.Bool.{and_parts, leb-true}
use Rattle.std.proofs.lemmas.List.Elements.{All-contains, All-head, All-nil, All-push, All-tail, All-weaker, Contains-append_left, Contains-push}
use Rattle.std.specs.List.{All, Contains}
use Rattle.ble_base.specs.Limits.{first_payload_octets}
use Rattle.ble_base.specs.declared.roles.Role.{Role}
use Rattle.ble_base.specs.declared.roles.Role.TheVariants.{Central, Peripheral}
use Rattle.machines.specs.Machine.{run, run_from, step}
use Rattle.procedure_values.specs.declared.lengths.Lengths.{Lengths}
use Rattle.procedure_values.specs.Limits.{tx_of}
use Rattle.exchange_pairs.specs.Exchange.{ExchangePdu, ExchangeStage, Answer, Idle, Question, Sent, Unsent}
use Rattle.exchange_pairs.specs.ExchangeRun.{other_role}
use Rattle.exchange_pairs.specs.Lengths.{LengthEnd, LengthPdu, first_of, length_pdu, taken, taken_as}
use Rattle.exchange_pairs.specs.LengthRun.{LengthEvent, LengthLink, LengthWay, Accepts, Begins, Closes, Control, Data, Keeps, Limits, Sends, SendsData, Takes, TakesKept, act, end_of, end_sends, end_takes, central_keeps, central_takes_kept, length_exchanges, may, sent_by, start, way_from, way_to}
use Rattle.exchange_pairs.specs.LengthLaws.{Carries, CarriesKept, IsDataWithin, IsLimitKnown, IsLimitKnownOf}

-- these facts, one by one
limit : {own_rx : ℕ} {queue : List LengthPdu} {way : Option LengthWay} {kept : Option LengthPdu} {sent : List ℕ} {known : ℕ} {back : Option LengthWay}
    → first_payload_octets ≤ own_rx → All (λ pdu. pdu.rx ≤ own_rx) queue → All (λ rx. rx ≤ own_rx) sent → Carries (Contains sent) way
    → CarriesKept (Contains sent) kept → ((known ≡ first_payload_octets) ⊎ Contains sent known) → IsDataWithin own_rx back
    → IsLimitKnown own_rx queue way kept sent known back
limit a b c d e f g =
    record { least = a; waiting = b; sent_before = c; coming = d; is_kept = e; is_known = f; data_within = g }

module _ {own_rx : ℕ} {queue : List LengthPdu} {way : Option LengthWay} {kept : Option LengthPdu} {sent : List ℕ} {known : ℕ} {back : Option LengthWay} where
  -- what the other end knows is at most what this one receives
  pub known_within : IsLimitKnown own_rx queue way kept sent known back → known ≤ own_rx
  known_within h = by h.is_known
    where
      by : ((known ≡ first_payload_octets) ⊎ Contains sent known) → known ≤ own_rx
      by (inl is) = let least = h.least in omega arith
      by (inr is) = All-contains (λ rx. rx ≤ own_rx) sent known h.sent_before is

  -- the end receives more
  accepts : (more : ℕ) → own_rx ≤ more → IsLimitKnown own_rx queue way kept sent known back → IsLimitKnown more queue way kept sent known back
  accepts more le h =
      record {
        least = let least = h.least in omega arith;
        waiting = All-weaker (λ pdu. pdu.rx ≤ own_rx) (λ pdu. pdu.rx ≤ more) (λ pdu is. omega arith) queue h.waiting;
        sent_before = All-weaker (λ rx. rx ≤ own_rx) (λ rx. rx ≤ more) (λ rx is. omega arith) sent h.sent_before;
        coming = h.coming;
        is_kept = h.is_kept;
        is_known = h.is_known;
        data_within = by back h.data_within;
      }
    where
      by : (w : Option LengthWay) → IsDataWithin own_rx w → IsDataWithin more w
      by None is = tt
      by (Some (Control pdu)) is = tt
      by (Some (Data octets)) is = omega arith

  -- it queues a PDU
  queues : (pdu : LengthPdu) → pdu.rx ≤ own_rx → IsLimitKnown own_rx queue way kept sent known back
      → IsLimitKnown own_rx (queue ++ pdu ∷ []) way kept sent known back
  queues pdu le h =
      limit h.least (All-push (λ p. p.rx ≤ own_rx) queue pdu h.waiting le) h.sent_before h.coming h.is_kept h.is_known h.data_within

  -- the other end sends data
  sends_data : (octets : ℕ) → octets ≤ known → IsLimitKnown own_rx queue way kept sent known back
      → IsLimitKnown own_rx queue way kept sent known (Some (Data octets))
  sends_data octets le h =
      let within = known_within h in
      limit h.least h.waiting h.sent_before h.coming h.is_kept h.is_known (omega arith)

  -- it sends a PDU of the exchange, or this end takes what comes
  no_data : (w : Option LengthWay) → IsDataWithin own_rx w → IsLimitKnown own_rx queue way kept sent known back
      → IsLimitKnown own_rx queue way kept sent known w
  no_data w is h = limit h.least h.waiting h.sent_before h.coming h.is_kept h.is_known is

  -- this end sends data, or the other end takes its PDU
  no_control : (w : Option LengthWay) → Carries (Contains sent) w → IsLimitKnown own_rx queue way kept sent known back
      → IsLimitKnown own_rx queue w kept sent known back
  no_control w is h = limit h.least h.waiting h.sent_before is h.is_kept h.is_known h.data_within

  -- the other end knows what this one has sent
  learns : (rx : ℕ) → Contains sent rx → IsLimitKnown own_rx queue way kept sent known back
      → IsLimitKnown own_rx queue way kept sent rx back
  learns rx is h = limit h.least h.waiting h.sent_before h.coming h.is_kept (inr is) h.data_within

  keeps : (k : Option LengthPdu) → CarriesKept (Contains sent) k → IsLimitKnown own_rx queue way kept sent known back
      → IsLimitKnown own_rx queue way k sent known back
  keeps k is h = limit h.least h.waiting h.sent_before h.coming is h.is_known h.data_within

-- this end sends the first PDU of its queue
sends : {own_rx : ℕ} {way : Option LengthWay} {kept : Option LengthPdu} {sent : List ℕ} {known : ℕ} {back : Option LengthWay}
    (pdu : LengthPdu) (queue : List LengthPdu) → IsLimitKnown own_rx (pdu ∷ queue) way kept sent known back
    → IsLimitKnown own_rx queue (Some (Control pdu)) kept (sent ++ pdu.rx ∷ []) known back
sends {own_rx} {way} {kept} {sent} {known} {back} pdu queue h =
    record {
      least = h.least;
      waiting = All-tail (λ p. p.rx ≤ own_rx) pdu queue h.waiting;
      sent_before = All-push (λ rx. rx ≤ own_rx) sent pdu.rx h.sent_before (All-head (λ p. p.rx ≤ own_rx) pdu queue h.waiting);
      coming = Contains-push sent pdu.rx;
      is_kept = kept_by kept h.is_kept;
      is_known = known_by h.is_known;
      data_within = h.data_within;
    }
  where
    kept_by : (k : Option LengthPdu) → CarriesKept (Contains sent) k → CarriesKept (Contains (sent ++ pdu.rx ∷ [])) k
    kept_by None is = tt
    kept_by (Some p) is = Contains-append_left sent (pdu.rx ∷ []) p.rx is

    known_by : ((known ≡ first_payload_octets) ⊎ Contains sent known) → ((known ≡ first_payload_octets) ⊎ Contains (sent ++ pdu.rx ∷ []) known)
    known_by (inl is) = inl is
    known_by (inr is) = inr (Contains-append_left sent (pdu.rx ∷ []) known is)

-- ---- the steps

-- both ends know at most what the other receives
pub record AreLimitsKnown (s : LengthLink) : Type 0 where
  pub central : IsLimitKnownOf Central s
  pub peripheral : IsLimitKnownOf Peripheral s

begins_kept : (role : Role) (s : LengthLink) → AreLimitsKnown s → AreLimitsKnown (act (Begins role) s)
begins_kept Central s h = by s.central.closed refl
  where
    by : (b : Bool) → s.central.closed ≡ b → AreLimitsKnown (act (Begins Central) s)
    by true is = rw is (record { central = h.central; peripheral = h.peripheral })
    by false is = rw is (record { central = queues (length_pdu Question s.central.lengths) (omega arith) h.central; peripheral = h.peripheral })
begins_kept Peripheral s h = by s.peripheral.closed refl
  where
    by : (b : Bool) → s.peripheral.closed ≡ b → AreLimitsKnown (act (Begins Peripheral) s)
    by true is = rw is (record { central = h.central; peripheral = h.peripheral })
    by false is = rw is (record { central = h.central; peripheral = queues (length_pdu Question s.peripheral.lengths) (omega arith) h.peripheral })

-- ---- an end takes a PDU

-- it knows what the other has sent
taken_known : {own_rx : ℕ} {queue : List LengthPdu} {way : Option LengthWay} {kept : Option LengthPdu} {sent : List ℕ} {back : Option LengthWay}
    (e : LengthEnd) (pdu : LengthPdu) → Contains sent pdu.rx → IsLimitKnown own_rx queue way kept sent e.lengths.peer_rx back
    → IsLimitKnown own_rx queue way kept sent (taken pdu e).lengths.peer_rx back
taken_known {own_rx} {queue} {way} {kept} {sent} {back} e pdu is h = by pdu.pdu
  where
    by : (x : ExchangePdu) → IsLimitKnown own_rx queue way kept sent (taken_as x pdu e).lengths.peer_rx back
    by Question = closed_by e.closed refl
      where
        closed_by : (b : Bool) → e.closed ≡ b → IsLimitKnown own_rx queue way kept sent (taken_as Question pdu e).lengths.peer_rx back
        closed_by true c = rw c (learns pdu.rx is h)
        closed_by false c = rw c (learns pdu.rx is h)
    by Answer = stage_by e.own refl
      where
        stage_by : (o : ExchangeStage) → e.own ≡ o → IsLimitKnown own_rx queue way kept sent (taken_as Answer pdu e).lengths.peer_rx back
        stage_by Sent o = rw o (learns pdu.rx is h)
        stage_by Idle o = rw o h
        stage_by Unsent o = rw o h

-- it may queue an answer
taken_queue : {way : Option LengthWay} {kept : Option LengthPdu} {sent : List ℕ} {known : ℕ} {back : Option LengthWay}
    (e : LengthEnd) (pdu : LengthPdu) → IsLimitKnown e.lengths.own_rx e.queue way kept sent known back
    → IsLimitKnown (taken pdu e).lengths.own_rx (taken pdu e).queue way kept sent known back
taken_queue {way} {kept} {sent} {known} {back} e pdu h = by pdu.pdu
  where
    by : (x : ExchangePdu) → IsLimitKnown (taken_as x pdu e).lengths.own_rx (taken_as x pdu e).queue way kept sent known back
    by Question = closed_by e.closed refl
      where
        closed_by : (b : Bool) → e.closed ≡ b → IsLimitKnown (taken_as Question pdu e).lengths.own_rx (taken_as Question pdu e).queue way kept sent known back
        closed_by true c = rw c h
        closed_by false c = rw c (queues (length_pdu Answer e.lengths) (omega arith) h)
    by Answer = stage_by e.own refl
      where
        stage_by : (o : ExchangeStage) → e.own ≡ o → IsLimitKnown (taken_as Answer pdu e).lengths.own_rx (taken_as Answer pdu e).queue way kept sent known back
        stage_by Sent o = rw o h
        stage_by Idle o = rw o h
        stage_by Unsent o = rw o h

takes_kept : (role : Role) (w : Option LengthWay) (s : LengthLink) → way_to role s ≡ w → AreLimitsKnown s → AreLimitsKnown (end_takes role w s)
takes_kept role None s is h = h
takes_kept Central (Some (Data octets)) s is h =
    record { central = no_data None tt h.central; peripheral = no_control None tt h.peripheral }
takes_kept Peripheral (Some (Data octets)) s is h =
    record { central = no_control None tt h.central; peripheral = no_data None tt h.peripheral }
takes_kept Central (Some (Control pdu)) s is h =
    let was : Contains s.peripheral_sent pdu.rx = subst (λ w. Carries (Contains s.peripheral_sent) w) is h.peripheral.coming in
    record {
      central = taken_queue s.central pdu (no_data None tt h.central);
      peripheral = taken_known s.central pdu was (no_control None tt h.peripheral);
    }
takes_kept Peripheral (Some (Control pdu)) s is h =
    let was : Contains s.central_sent pdu.rx = subst (λ w. Carries (Contains s.central_sent) w) is h.central.coming in
    record {
      central = taken_known s.peripheral pdu was (no_control None tt h.central);
      peripheral = taken_queue s.peripheral pdu (no_data None tt h.peripheral);
    }

sends_kept : (role : Role) (queue : List LengthPdu) (s : LengthLink) → (end_of role s).queue ≡ queue → AreLimitsKnown s
    → AreLimitsKnown (end_sends role (first_of queue) s)
sends_kept role [] s is h = h
sends_kept Central (pdu ∷ queue) s is h =
    let here = subst (λ q. IsLimitKnown s.central.lengths.own_rx q s.down None s.central_sent s.peripheral.lengths.peer_rx s.up) is h.central in
    record {
      central = rw is (sends pdu queue here);
      peripheral = no_data (Some (Control pdu)) tt h.peripheral;
    }
sends_kept Peripheral (pdu ∷ queue) s is h =
    let here = subst (λ q. IsLimitKnown s.peripheral.lengths.own_rx q s.up s.kept s.peripheral_sent s.central.lengths.peer_rx s.down) is h.peripheral in
    record {
      central = no_data (Some (Control pdu)) tt h.central;
      peripheral = rw is (sends pdu queue here);
    }

-- what an end transmits is at most what it knows of the other
transmits : (lengths : Lengths) (octets : ℕ) → nat_le octets (tx_of lengths) ≡ true → octets ≤ lengths.peer_rx
transmits lengths octets is = let le = leb-true octets (tx_of lengths) is in omega arith

keeps_kept : (way : Option LengthWay) (s : LengthLink) → s.up ≡ way → AreLimitsKnown s → AreLimitsKnown (central_keeps way s)
keeps_kept None s is h = h
keeps_kept (Some (Data octets)) s is h = h
keeps_kept (Some (Control pdu)) s is h =
    let was : Contains s.peripheral_sent pdu.rx = subst (λ w. Carries (Contains s.peripheral_sent) w) is h.peripheral.coming in
    record { central = no_data None tt h.central; peripheral = keeps (Some pdu) was (no_control None tt h.peripheral) }

takes_kept_kept : (kept : Option LengthPdu) (s : LengthLink) → s.kept ≡ kept → AreLimitsKnown s → AreLimitsKnown (central_takes_kept kept s)
takes_kept_kept None s is h = h
takes_kept_kept (Some pdu) s is h =
    let was : Contains s.peripheral_sent pdu.rx = subst (λ k. CarriesKept (Contains s.peripheral_sent) k) is h.peripheral.is_kept in
    record {
      central = taken_queue s.central pdu h.central;
      peripheral = taken_known s.central pdu was (keeps None tt h.peripheral);
    }

acts_kept : (event : LengthEvent) (s : LengthLink) → may event s ≡ true → AreLimitsKnown s → AreLimitsKnown (act event s)
acts_kept (Accepts Central octets) s comes h =
    record { central = accepts octets (leb-true s.central.lengths.own_rx octets comes) h.central; peripheral = h.peripheral }
acts_kept (Accepts Peripheral octets) s comes h =
    record { central = h.central; peripheral = accepts octets (leb-true s.peripheral.lengths.own_rx octets comes) h.peripheral }
acts_kept (Limits Central octets) s comes h = record { central = h.central; peripheral = h.peripheral }
acts_kept (Limits Peripheral octets) s comes h = record { central = h.central; peripheral = h.peripheral }
acts_kept (Begins role) s comes h = begins_kept role s h
acts_kept (Closes Central) s comes h = record { central = h.central; peripheral = h.peripheral }
acts_kept (Closes Peripheral) s comes h = record { central = h.central; peripheral = h.peripheral }
acts_kept (Sends role) s comes h = sends_kept role (end_of role s).queue s refl h
acts_kept (SendsData Central octets) s comes h =
    let le = transmits s.central.lengths octets (and_parts (is_none s.down) (nat_le octets (tx_of s.central.lengths)) comes).1 in
    record { central = no_control (Some (Data octets)) tt h.central; peripheral = sends_data octets le h.peripheral }
acts_kept (SendsData Peripheral octets) s comes h =
    let le = transmits s.peripheral.lengths octets (and_parts (is_none s.up) (nat_le octets (tx_of s.peripheral.lengths)) comes).1 in
    record { central = sends_data octets le h.central; peripheral = no_control (Some (Data octets)) tt h.peripheral }
acts_kept (Takes role) s comes h = takes_kept role (way_to role s) s refl h
acts_kept Keeps s comes h = keeps_kept s.up s refl h
acts_kept TakesKept s comes h = takes_kept_kept s.kept s refl h

-- ---- the runs

module _ (central_rx peripheral_rx : ℕ) where
  step_kept : (event : LengthEvent) (s : LengthLink) → AreLimitsKnown s → AreLimitsKnown (step (length_exchanges central_rx peripheral_rx) event s)
  step_kept event s h = by (may event s) refl
    where
      by : (b : Bool) → may event s ≡ b → AreLimitsKnown (if b then act event s else s)
      by true comes = acts_kept event s comes h
      by false comes = h

  run_from_kept : (s : LengthLink) (events : List LengthEvent) → AreLimitsKnown s
      → AreLimitsKnown (run_from (length_exchanges central_rx peripheral_rx) s events)
  run_from_kept s [] h = h
  run_from_kept s (event ∷ events) h =
      run_from_kept (step (length_exchanges central_rx peripheral_rx) event s) events (step_kept event s h)

  first_limit : (own_rx : ℕ) → first_payload_octets ≤ own_rx → IsLimitKnown own_rx [] None None [] first_payload_octets None
  first_limit own_rx least =
      limit least (All-nil (λ pdu. pdu.rx ≤ own_rx)) (All-nil (λ rx. rx ≤ own_rx)) tt tt (inl refl) tt

  pub limits_known : (events : List LengthEvent) → first_payload_octets ≤ central_rx → first_payload_octets ≤ peripheral_rx
      → AreLimitsKnown (run (length_exchanges central_rx peripheral_rx) events)
  limits_known events c p =
      run_from_kept (start central_rx peripheral_rx) events
      (record { central = first_limit central_rx c; peripheral = first_limit peripheral_rx p })

  pub limit_known : (events : List LengthEvent) (role : Role) → first_payload_octets ≤ central_rx → first_payload_octets ≤ peripheral_rx
      → IsLimitKnownOf role (run (length_exchanges central_rx peripheral_rx) events)
  limit_known events Central c p = (limits_known events c p).central
  limit_known events Peripheral c p = (limits_known events c p).peripheral

pub known : (central_rx peripheral_rx : ℕ) (events : List LengthEvent) (role : Role) → first_payload_octets ≤ central_rx → first_payload_octets ≤ peripheral_rx
    → ((end_of (other_role role) (run (length_exchanges central_rx peripheral_rx) events)).lengths.peer_rx ≡ first_payload_octets)
    ⊎ Contains (sent_by role (run (length_exchanges central_rx peripheral_rx) events)) (end_of (other_role role) (run (length_exchanges central_rx peripheral_rx) events)).lengths.peer_rx
known central_rx peripheral_rx events role c p = (limit_known central_rx peripheral_rx events role c p).is_known

pub sent_within : (central_rx peripheral_rx : ℕ) (events : List LengthEvent) (role : Role) → first_payload_octets ≤ central_rx → first_payload_octets ≤ peripheral_rx
    → All (λ rx. rx ≤ (end_of role (run (length_exchanges central_rx peripheral_rx) events)).lengths.own_rx) (sent_by role (run (length_exchanges central_rx peripheral_rx) events))
sent_within central_rx peripheral_rx events role c p = (limit_known central_rx peripheral_rx events role c p).sent_before

pub transmits_within : (central_rx peripheral_rx : ℕ) (events : List LengthEvent) (role : Role) → first_payload_octets ≤ central_rx → first_payload_octets ≤ peripheral_rx
    → tx_of (end_of (other_role role) (run (length_exchanges central_rx peripheral_rx) events)).lengths ≤ (end_of role (run (length_exchanges central_rx peripheral_rx) events)).lengths.own_rx
transmits_within central_rx peripheral_rx events role c p =
    let within = known_within (limit_known central_rx peripheral_rx events role c p) in
    omega arith

-- data that an end may fix
fixed_by : (role : Role) (s : LengthLink) (octets : ℕ) → may (SendsData role octets) s ≡ true → octets ≤ (end_of role s).lengths.peer_rx
fixed_by role s octets comes =
    transmits (end_of role s).lengths octets (and_parts (is_none (way_from role s)) (nat_le octets (tx_of (end_of role s).lengths)) comes).1

pub fixed_within : (central_rx peripheral_rx octets : ℕ) (events : List LengthEvent) (role : Role) → first_payload_octets ≤ central_rx → first_payload_octets ≤ peripheral_rx
    → may (SendsData (other_role role) octets) (run (length_exchanges central_rx peripheral_rx) events) ≡ true
    → octets ≤ (end_of role (run (length_exchanges central_rx peripheral_rx) events)).lengths.own_rx
fixed_within central_rx peripheral_rx octets events role c p comes =
    let within = known_within (limit_known central_rx peripheral_rx events role c p) in
    let fits = fixed_by (other_role role) (run (length_exchanges central_rx peripheral_rx) events) octets comes in
    omega arith

pub coming_within : (central_rx peripheral_rx octets : ℕ) (events : List LengthEvent) (role : Role) → first_payload_octets ≤ central_rx → first_payload_octets ≤ peripheral_rx
    → way_to role (run (length_exchanges central_rx peripheral_rx) events) ≡ Some (Data octets)
    → octets ≤ (end_of role (run (length_exchanges central_rx peripheral_rx) events)).lengths.own_rx
coming_within central_rx peripheral_rx octets events role c p is =
    subst (λ w. IsDataWithin (end_of role (run (length_exchanges central_rx peripheral_rx) events)).lengths.own_rx w) is
    (limit_known central_rx peripheral_rx events role c p).data_within
