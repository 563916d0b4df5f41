-- Where what the ends receive stays, each PDU carries it.
use Rattle.std.proofs.Common.{◌≡◌, ◌≤◌, ◌⊎◌, inl, inr, ℕ, Bool, true, false, not, List, [], ◌∷◌, ◌++◌, Option, Some, None, if◌then◌else◌, refl, sym, ◌∙◌, subst}
use Rattle.std.proofs.lemmas.Bool.{and_parts}
use Rattle.std.proofs.lemmas.List.Elements.{All-contains, All-head, All-nil, All-push, All-tail}
use Rattle.std.specs.List.{All, Contains}
use Rattle.ble_base.specs.Limits.{first_payload_octets}
use Rattle.ble_base.specs.declared.roles.Role.{Role}
use Rattle.ble_base.specs.declared.roles.Role.TheVariants.{Central, Peripheral}
use Rattle.machines.specs.Machine.{run, run_from, step}
use Rattle.exchange_pairs.specs.Exchange.{ExchangePdu, Answer, Idle, Question, Unsent, is_sent}
use Rattle.exchange_pairs.specs.ExchangeRun.{other_role}
use Rattle.exchange_pairs.specs.Lengths.{LengthEnd, LengthPdu, begun, first_of, length_pdu, queued, sent, taken_as, with_limits}
use Rattle.exchange_pairs.specs.LengthLaws.{first_rx, is_accepting, none_accepts}
use Rattle.exchange_pairs.specs.LengthRun.{LengthEvent, LengthLink, LengthWay, Accepts, Begins, Closes, Control, Data, Keeps, Limits, Sends, SendsData, Takes, TakesKept, act, central_keeps, central_takes_kept, end_of, end_sends, end_takes, length_exchanges, may, sent_by, start, way_to}
use Rattle.exchange_pairs.proofs.LengthsKept.{known}

-- what an end receives is this, and so is what its PDUs carry
record IsFixed (rx : ℕ) (e : LengthEnd) (sent : List ℕ) : Type 0 where
  own : e.lengths.own_rx ≡ rx
  waiting : All (λ (pdu : LengthPdu). pdu.rx ≡ rx) e.queue
  before : All (λ (n : ℕ). n ≡ rx) sent

module _ (rx : ℕ) (before : List ℕ) where
  queued_fixed : (pdu : ExchangePdu) (e : LengthEnd) (closed : Bool) → e.closed ≡ closed → IsFixed rx e before → IsFixed rx (queued pdu e) before
  queued_fixed pdu e true is h = rw is (record { own = h.own; waiting = h.waiting; before = h.before })
  queued_fixed pdu e false is h =
      rw is (record {
        own = h.own;
        waiting = All-push (λ (x : LengthPdu). x.rx ≡ rx) e.queue (length_pdu pdu e.lengths) h.waiting h.own;
        before = h.before;
      })

  limits_fixed : (pdu : LengthPdu) (e : LengthEnd) → IsFixed rx e before → IsFixed rx (with_limits pdu e) before
  limits_fixed pdu e h = record { own = h.own; waiting = h.waiting; before = h.before }

  taken_fixed : (pdu : LengthPdu) (x : ExchangePdu) (e : LengthEnd) → IsFixed rx e before → IsFixed rx (taken_as x pdu e) before
  taken_fixed pdu Question e h = queued_fixed Answer (with_limits pdu e) e.closed refl (limits_fixed pdu e h)
  taken_fixed pdu Answer e h = by (is_sent e.own)
    where
      by : (b : Bool) → IsFixed rx (if b then with_limits pdu (record e { own = Idle }) else e) before
      by true = record { own = h.own; waiting = h.waiting; before = h.before }
      by false = h

  begun_fixed : (e : LengthEnd) → IsFixed rx e before → IsFixed rx (begun e) before
  begun_fixed e h = queued_fixed Question (record e { own = Unsent }) e.closed refl (record { own = h.own; waiting = h.waiting; before = h.before })

  sent_fixed : (pdu : LengthPdu) (rest : List LengthPdu) (e : LengthEnd) → e.queue ≡ pdu ∷ rest → IsFixed rx e before
      → IsFixed rx (sent pdu e) (before ++ pdu.rx ∷ [])
  sent_fixed pdu rest e is h =
      let all = subst (λ (q : List LengthPdu). All (λ (x : LengthPdu). x.rx ≡ rx) q) is h.waiting in
      record {
        own = h.own;
        waiting = rw is (All-tail (λ (x : LengthPdu). x.rx ≡ rx) pdu rest all);
        before = All-push (λ (n : ℕ). n ≡ rx) before pdu.rx h.before (All-head (λ (x : LengthPdu). x.rx ≡ rx) pdu rest all);
      }

record AreFixed (central_rx peripheral_rx : ℕ) (s : LengthLink) : Type 0 where
  central : IsFixed central_rx s.central s.central_sent
  peripheral : IsFixed peripheral_rx s.peripheral s.peripheral_sent

same_end : {rx : ℕ} {before : List ℕ} {e : LengthEnd} (g : LengthEnd) → g.lengths.own_rx ≡ e.lengths.own_rx → g.queue ≡ e.queue → IsFixed rx e before → IsFixed rx g before
same_end {rx} {before} {e} g own queue h =
    record {
      own = own ∙ h.own;
      waiting = subst (λ (q : List LengthPdu). All (λ (x : LengthPdu). x.rx ≡ rx) q) (sym queue) h.waiting;
      before = h.before;
    }

module _ (a b : ℕ) where
  sends_fixed : (role : Role) (queue : List LengthPdu) (s : LengthLink) → (end_of role s).queue ≡ queue → AreFixed a b s → AreFixed a b (end_sends role (first_of queue) s)
  sends_fixed role [] s is h = h
  sends_fixed Central (pdu ∷ rest) s is h = record { central = sent_fixed a s.central_sent pdu rest s.central is h.central; peripheral = h.peripheral }
  sends_fixed Peripheral (pdu ∷ rest) s is h = record { central = h.central; peripheral = sent_fixed b s.peripheral_sent pdu rest s.peripheral is h.peripheral }

  takes_fixed : (role : Role) (way : Option LengthWay) (s : LengthLink) → AreFixed a b s → AreFixed a b (end_takes role way s)
  takes_fixed role None s h = h
  takes_fixed Central (Some (Data octets)) s h = record { central = h.central; peripheral = h.peripheral }
  takes_fixed Peripheral (Some (Data octets)) s h = record { central = h.central; peripheral = h.peripheral }
  takes_fixed Central (Some (Control pdu)) s h = record { central = taken_fixed a s.central_sent pdu pdu.pdu s.central h.central; peripheral = h.peripheral }
  takes_fixed Peripheral (Some (Control pdu)) s h = record { central = h.central; peripheral = taken_fixed b s.peripheral_sent pdu pdu.pdu s.peripheral h.peripheral }

  keeps_fixed : (way : Option LengthWay) (s : LengthLink) → AreFixed a b s → AreFixed a b (central_keeps way s)
  keeps_fixed None s h = h
  keeps_fixed (Some (Data octets)) s h = h
  keeps_fixed (Some (Control pdu)) s h = record { central = h.central; peripheral = h.peripheral }

  takes_kept_fixed : (kept : Option LengthPdu) (s : LengthLink) → AreFixed a b s → AreFixed a b (central_takes_kept kept s)
  takes_kept_fixed None s h = h
  takes_kept_fixed (Some pdu) s h = record { central = taken_fixed a s.central_sent pdu pdu.pdu s.central h.central; peripheral = h.peripheral }

  acts_fixed : (event : LengthEvent) (s : LengthLink) → is_accepting event ≡ false → AreFixed a b s → AreFixed a b (act event s)
  acts_fixed (Accepts role octets) s none h = absurd (cc)
  acts_fixed (Limits Central octets) s none h = record { central = same_end _ refl refl h.central; peripheral = h.peripheral }
  acts_fixed (Limits Peripheral octets) s none h = record { central = h.central; peripheral = same_end _ refl refl h.peripheral }
  acts_fixed (Begins Central) s none h = record { central = begun_fixed a s.central_sent s.central h.central; peripheral = h.peripheral }
  acts_fixed (Begins Peripheral) s none h = record { central = h.central; peripheral = begun_fixed b s.peripheral_sent s.peripheral h.peripheral }
  acts_fixed (Closes Central) s none h = record { central = same_end _ refl refl h.central; peripheral = h.peripheral }
  acts_fixed (Closes Peripheral) s none h = record { central = h.central; peripheral = same_end _ refl refl h.peripheral }
  acts_fixed (Sends role) s none h = sends_fixed role (end_of role s).queue s refl h
  acts_fixed (SendsData Central octets) s none h = record { central = h.central; peripheral = h.peripheral }
  acts_fixed (SendsData Peripheral octets) s none h = record { central = h.central; peripheral = h.peripheral }
  acts_fixed (Takes role) s none h = takes_fixed role (way_to role s) s h
  acts_fixed Keeps s none h = keeps_fixed s.up s h
  acts_fixed TakesKept s none h = takes_kept_fixed s.kept s h

  step_fixed : (event : LengthEvent) (s : LengthLink) → is_accepting event ≡ false → AreFixed a b s → AreFixed a b (step (length_exchanges a b) event s)
  step_fixed event s none h = by (may event s)
    where
      by : (x : Bool) → AreFixed a b (if x then act event s else s)
      by true = acts_fixed event s none h
      by false = h

  not_from : (x : Bool) → not x ≡ true → x ≡ false
  not_from false is = refl
  not_from true is = absurd (cc)

  run_fixed : (s : LengthLink) (events : List LengthEvent) → none_accepts events ≡ true → AreFixed a b s → AreFixed a b (run_from (length_exchanges a b) s events)
  run_fixed s [] none h = h
  run_fixed s (event ∷ events) none h =
      let both = and_parts (not (is_accepting event)) (none_accepts events) none in
      run_fixed (step (length_exchanges a b) event s) events both.1 (step_fixed event s (not_from (is_accepting event) both.0) h)

  all_fixed : (events : List LengthEvent) → none_accepts events ≡ true → AreFixed a b (run (length_exchanges a b) events)
  all_fixed events none =
      run_fixed (start a b) events none
      (record {
        central = record { own = refl; waiting = All-nil (λ (x : LengthPdu). x.rx ≡ a); before = All-nil (λ (n : ℕ). n ≡ a) };
        peripheral = record { own = refl; waiting = All-nil (λ (x : LengthPdu). x.rx ≡ b); before = All-nil (λ (n : ℕ). n ≡ b) };
      })

  role_fixed : (role : Role) (s : LengthLink) → AreFixed a b s → IsFixed (first_rx role a b) (end_of role s) (sent_by role s)
  role_fixed Central s h = h.central
  role_fixed Peripheral s h = h.peripheral

pub stays : (central_rx peripheral_rx : ℕ) (events : List LengthEvent) (role : Role) → none_accepts events ≡ true
    → (end_of role (run (length_exchanges central_rx peripheral_rx) events)).lengths.own_rx ≡ first_rx role central_rx peripheral_rx
stays central_rx peripheral_rx events role none =
    (role_fixed central_rx peripheral_rx role (run (length_exchanges central_rx peripheral_rx) events) (all_fixed central_rx peripheral_rx events none)).own

pub known_fixed : (central_rx peripheral_rx : ℕ) (events : List LengthEvent) (role : Role) → none_accepts events ≡ true
    → first_payload_octets ≤ central_rx → first_payload_octets ≤ peripheral_rx
    → ((end_of (other_role role) (run (length_exchanges central_rx peripheral_rx) events)).lengths.peer_rx ≡ first_payload_octets)
    ⊎ ((end_of (other_role role) (run (length_exchanges central_rx peripheral_rx) events)).lengths.peer_rx ≡ first_rx role central_rx peripheral_rx)
known_fixed central_rx peripheral_rx events role none c p =
    by (known central_rx peripheral_rx events role c p)
  where
    by : ((end_of (other_role role) (run (length_exchanges central_rx peripheral_rx) events)).lengths.peer_rx ≡ first_payload_octets)
        ⊎ Contains (sent_by role (run (length_exchanges central_rx peripheral_rx) events)) (end_of (other_role role) (run (length_exchanges central_rx peripheral_rx) events)).lengths.peer_rx
        → ((end_of (other_role role) (run (length_exchanges central_rx peripheral_rx) events)).lengths.peer_rx ≡ first_payload_octets)
        ⊎ ((end_of (other_role role) (run (length_exchanges central_rx peripheral_rx) events)).lengths.peer_rx ≡ first_rx role central_rx peripheral_rx)
    by (inl is) = inl is
    by (inr is) =
        inr (All-contains (λ (n : ℕ). n ≡ first_rx role central_rx peripheral_rx) (sent_by role (run (length_exchanges central_rx peripheral_rx) events)) _
        (role_fixed central_rx peripheral_rx role (run (length_exchanges central_rx peripheral_rx) events) (all_fixed central_rx peripheral_rx events none)).before is)
