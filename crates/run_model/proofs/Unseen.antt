-- Where a run stops, a packet was changed that its listener would judge good.
use Rattle.std.proofs.Common.{◌≡◌, ◌≢◌, ℕ, zero, suc, ◌+◌, ◌==◌, Bool, true, false, not, List, [], ◌∷◌, refl, sym, ap, ◌∙◌, arith}
use Rattle.std.specs.Prelude.{Some, if◌then◌else◌}
use Rattle.std.specs.List.{AllByRecursion, Contains}
use Rattle.std.specs.Str.{bytes_eq}
use Rattle.std.proofs.lemmas.Bool.{and_parts, eqb-false}
use Rattle.std.proofs.lemmas.Slice.Eq.{bytes_eq-Decides}
use Rattle.ble_base.specs.declared.verdicts.Verdict.{Verdict}
use Rattle.ble_base.specs.declared.verdicts.Verdict.TheVariants.{Missed, Broken, Forged, Good}
use Rattle.radio_replay.specs.declared.fates.Fate.{Fate}
use Rattle.radio_replay.specs.Damage.{damaged_packet}
use Rattle.controller_model.specs.Facts.{Facts}
use Rattle.controller_model.specs.Packets.{verdict_of, channel_listened}
use Rattle.run_model.specs.History.{Event, Hearing, fates_used, is_good}
use Rattle.run_model.specs.Run.{Given, Stop, Stops, facts_at, use_at, fate_at, reaches, verdict_where, hearing_at, hearings_from, others_than, is_unseen, unseen_in, run_of}
use Rattle.run_model.specs.OnAir.{IsUnseenStop}
use Rattle.run_model.proofs.Stations.{others_differ}
use Rattle.run_model.proofs.Walk.{Place, IsKept, IsWhole, IsStopped, ends_stopped, run_kept}

pub good_is : (verdict : Verdict) → is_good verdict ≡ true → verdict ≡ Good
good_is Good is = refl
good_is Missed is = absurd cc
good_is Broken is = absurd cc
good_is Forged is = absurd cc

good_there : (reached : Bool) (facts : Facts) (octets : List ℕ) → verdict_where reached facts octets ≡ Good → verdict_of facts octets ≡ Good
good_there true facts octets is = is
good_there false facts octets is = absurd cc

not_same : (heard octets : List ℕ) → not (bytes_eq heard octets) ≡ true → heard ≢ octets
not_same heard octets is same = let h : not true ≡ true = ap not (sym ((bytes_eq-Decides heard octets).1 same)) ∙ is in absurd cc

contains_first : {X : Type 0} (x : X) (xs : List X) → Contains (x ∷ xs) x
contains_first x xs = (zero, omega arith, refl)

contains_later : {X : Type 0} (x first : X) (xs : List X) → Contains xs x → Contains (first ∷ xs) x
contains_later x first xs contains = (suc contains.0, omega (arith, contains.1), contains.2)

-- one of these hearings is of a changed packet that is judged good
record IsOneUnseen (given : Given) (Q : ℕ → Type 0) (octets heard : List ℕ) (history : List Event) (hearings : List Hearing) : Type 0 where
  pub hearing : Hearing
  pub is_one : Contains hearings hearing
  pub is_other : Q hearing.listener
  pub verdict_is : hearing.verdict ≡ Good
  pub heard_is : heard ≡ damaged_packet hearing.fate octets
  pub is_judged : verdict_of (facts_at given hearing.listener history) heard ≡ Good
  pub differs : heard ≢ octets

first_unseen : (given : Given) (Q : ℕ → Type 0) (fate : Fate) (channel : ℕ) (octets heard : List ℕ) (history : List Event) (listener : ℕ) (hearings : List Hearing)
    → Q listener → is_unseen octets (hearing_at given fate channel octets history listener) ≡ true → heard ≡ damaged_packet fate octets
    → IsOneUnseen given Q octets heard history (hearing_at given fate channel octets history listener ∷ hearings)
first_unseen given Q fate channel octets heard history listener hearings q unseen is =
    let hearing = hearing_at given fate channel octets history listener in
    let parts = and_parts (is_good hearing.verdict) (not (bytes_eq (damaged_packet fate octets) octets)) unseen in
    let good = good_is hearing.verdict parts.0 in record {
      hearing = hearing;
      is_one = contains_first hearing hearings;
      is_other = q;
      verdict_is = good;
      heard_is = is;
      is_judged = ap (verdict_of (facts_at given listener history)) is
          ∙ good_there (reaches fate channel (channel_listened (use_at given listener history))) (facts_at given listener history) (damaged_packet fate octets) good;
      differs = λ same. not_same (damaged_packet fate octets) octets parts.1 (sym is ∙ same);
    }

unseen_by : (given : Given) (Q : ℕ → Type 0) (fates : List Fate) (channel : ℕ) (octets heard : List ℕ) (history : List Event)
    → (listener : ℕ) (listeners : List ℕ) (number : ℕ) → Q listener
    → (unseen_in octets (hearings_from given fates (number + 1) channel octets history listeners) ≡ Some heard
    → IsOneUnseen given Q octets heard history (hearings_from given fates (number + 1) channel octets history listeners))
    → (unseen : Bool) → is_unseen octets (hearing_at given (fate_at fates number) channel octets history listener) ≡ unseen
    → (if unseen then Some (damaged_packet (fate_at fates number) octets) else unseen_in octets (hearings_from given fates (number + 1) channel octets history listeners)) ≡ Some heard
    → IsOneUnseen given Q octets heard history (hearings_from given fates number channel octets history (listener ∷ listeners))
unseen_by given Q fates channel octets heard history listener listeners number q later true is found =
    let same : damaged_packet (fate_at fates number) octets ≡ heard = cc in
    first_unseen given Q (fate_at fates number) channel octets heard history listener (hearings_from given fates (number + 1) channel octets history listeners) q is (sym same)
unseen_by given Q fates channel octets heard history listener listeners number q later false is found =
    let one = later found in record {
      hearing = one.hearing;
      is_one = contains_later one.hearing (hearing_at given (fate_at fates number) channel octets history listener)
          (hearings_from given fates (number + 1) channel octets history listeners) one.is_one;
      is_other = one.is_other;
      verdict_is = one.verdict_is;
      heard_is = one.heard_is;
      is_judged = one.is_judged;
      differs = one.differs;
    }

unseen_among : (given : Given) (Q : ℕ → Type 0) (fates : List Fate) (channel : ℕ) (octets heard : List ℕ) (history : List Event)
    → (listeners : List ℕ) (number : ℕ) → AllByRecursion Q listeners → unseen_in octets (hearings_from given fates number channel octets history listeners) ≡ Some heard
    → IsOneUnseen given Q octets heard history (hearings_from given fates number channel octets history listeners)
unseen_among given Q fates channel octets heard history [] number all found = absurd cc
unseen_among given Q fates channel octets heard history (listener ∷ listeners) number all found =
    unseen_by given Q fates channel octets heard history listener listeners number all.0
    (unseen_among given Q fates channel octets heard history listeners (number + 1) all.1)
    (is_unseen octets (hearing_at given (fate_at fates number) channel octets history listener)) refl found

-- ---- the run

abbrev Any : Place → List Event → Type 0
Any place history = Unit {0}

any_kept : (given : Given) → IsKept given Any
any_kept given = record {
  on_turn = λ slot plan history begun at so_far. tt;
  on_feed = λ plan done left station history are some now so_far. tt;
  on_fed = λ history so_far. tt;
  on_begin = λ slot plan done left station history are due so_far. tt;
  on_begun = λ history so_far. tt;
  on_phase = λ phases history few so_far. tt;
  on_silence = λ phases done left station history are none so_far. tt;
  on_packet = λ phases plan done left station channel octets history are some due so_far. tt;
  on_air = λ phases history so_far. tt;
  on_hearing = λ phases done left station history are some so_far. tt;
  on_heard = λ phases history so_far. tt;
  on_phases = λ history so_far. tt;
  on_end = λ done left station history are some so_far. tt;
  on_ended = λ history so_far. tt;
}

pub run_unseen : (given : Given) (history : List Event) (stop : Stop) → run_of given ≡ Stops history stop → IsUnseenStop given history stop
run_unseen given history stop is =
    let stopped = ends_stopped (run_of given) (IsWhole given Any) (IsStopped given Any) history stop (run_kept given Any (any_kept given) tt) is in
    let one = unseen_among given (λ listener. (listener == stop.sender) ≡ false) stopped.plan.fates stop.channel stop.sent stop.heard history
    (others_than stop.sender given.stations) (fates_used history) (others_differ stop.sender given.stations) stopped.is_heard in record {
      plan = stopped.plan;
      is_now = stopped.is_now;
      slot_is = stopped.slot_is;
      place_is = stopped.place_is;
      is_wanted = stopped.is_wanted;
      hearing = one.hearing;
      is_one = one.is_one;
      is_other = eqb-false one.hearing.listener stop.sender one.is_other;
      verdict_is = one.verdict_is;
      heard_is = one.heard_is;
      is_good = one.is_judged;
      differs = one.differs;
    }
