-- Where a run of a pair stops, by its lines.
use Rattle.std.proofs.Common.{◌≡◌, ℕ, ◌-◌, ◌<◌, ◌⊎◌, inl, inr, Bool, true, false, List, [], ◌∷◌, refl, sym, ap, subst, ◌∙◌, arith}
use Rattle.std.specs.Prelude.{slice_get}
use Rattle.std.specs.List.{Contains}
use Rattle.std.proofs.lemmas.List.Elements.{Contains-push_cases}
use Rattle.ble_base.specs.Side.{other_side}
use Rattle.ble_base.specs.declared.roles.Side.{Side}
use Rattle.ble_base.specs.declared.verdicts.Verdict.{Verdict}
use Rattle.ble_base.specs.declared.verdicts.Verdict.TheVariants.{Good, Missed}
use Rattle.radio_replay.specs.Damage.{damaged_packet}
use Rattle.radio_replay.specs.Script.{Script}
use Rattle.radio_replay.specs.declared.fates.Fate.{Fate}
use Rattle.run_model.specs.History.{Event, Hearing, fates_used, turns_begun}
use Rattle.run_model.specs.Journal.{journal_of, side_of}
use Rattle.run_model.specs.OnAir.{IsUnseenStop}
use Rattle.run_model.specs.Pair.{given_of}
use Rattle.run_model.specs.Readers.{station_of}
use Rattle.run_model.specs.Run.{Given, Plan, Stop, Stops, fate_at, hearing_at, hearings_from, hearings_of, others_than, run_of, use_at}
use Rattle.run_model.proofs.Fates.{pair_other, stop_placed, turns_are}
use Rattle.run_model.proofs.Journals.{two}
use Rattle.journal_turns.specs.Radios.{radio_of}
use Rattle.journal_turns.specs.Stopped.{IsStoppedAt}
use Rattle.journal_turns.proofs.Quiet.{stop_silent}
use Rattle.journal_turns.proofs.RadiosOff.{is_one, misses_at, other_station, plan_radio, sends_on, turn_at}

-- ---- the one listener

none_in : {X : Type 0} (x : X) (T : Type 0) → Contains [] x → T
none_in x T is = absurd (let few : is.0 < 0 = is.1 in omega (arith, few))

one_in : {X : Type 0} (one x : X) → Contains (one ∷ []) x → one ≡ x
one_in one x is = by (Contains-push_cases [] one x is)
  where
    by : Contains [] x ⊎ (one ≡ x) → one ≡ x
    by (inl none) = none_in x (one ≡ x) none
    by (inr same) = same

one_hearing : (given : Given) (fates : List Fate) (channel : ℕ) (octets : List ℕ) (history : List Event) (side : Side) (hearing : Hearing) → given.stations ≡ 0 ∷ 1 ∷ []
    → Contains (hearings_of given fates (station_of side) channel octets history) hearing
    → hearing_at given (fate_at fates (fates_used history)) channel octets history (station_of (other_side side)) ≡ hearing
one_hearing given fates channel octets history side hearing are is =
    one_in (hearing_at given (fate_at fates (fates_used history)) channel octets history (station_of (other_side side))) hearing
    (subst (λ hearings. Contains hearings hearing) (ap (hearings_from given fates (fates_used history) channel octets history) (listeners side)) is)
  where
    listeners : (one : Side) → others_than (station_of one) given.stations ≡ station_of (other_side one) ∷ []
    listeners one = ap (others_than (station_of one)) are ∙ other_station one

-- a side whose radio is off judges nothing good
not_missed : (on : Bool) (verdict : Verdict) → (on ≡ false → verdict ≡ Missed) → verdict ≡ Good → on ≡ true
not_missed true verdict misses good = refl
not_missed false verdict misses good = absurd (let h : Missed ≡ Good = sym (misses refl) ∙ good in absurd cc)

-- ---- the stop

module _ (a b : List ℕ) (script : Script) (history : List Event) (stop : Stop) (is : run_of (given_of a b script) ≡ Stops history stop)
    (unseen : IsUnseenStop (given_of a b script) history stop) where
  abbrev given : Given
  given = given_of a b script

  of_side_at : (side : Side) → stop.sender ≡ station_of side → IsStoppedAt script side stop.slot stop.place stop.sent stop.heard (journal_of history)
  of_side_at side sender =
      let placed = stop_placed given (pair_other a b script) history stop is in
      let still = stop_silent given history stop is in
      let of_turn = turn_at script.turns (turns_begun history - 1) unseen.plan unseen.is_now in
      let listener = station_of (other_side side) in
      let fates = unseen.plan.fates in
      let same = one_hearing given fates stop.channel stop.sent history side unseen.hearing refl
      (subst (λ s. Contains (hearings_of given fates s stop.channel stop.sent history) unseen.hearing) sender unseen.is_one) in
      let now_slot : turns_begun history - 1 ≡ stop.slot = (let begun = unseen.slot_is in omega (arith, begun)) in
      record {
        now = of_turn.turn;
        is_now = ap (slice_get script.turns) (sym now_slot) ∙ of_turn.is;
        in_turn = turns_are history ∙ unseen.slot_is;
        place = placed.place;
        sends = sym (plan_radio side of_turn.turn) ∙ ap (λ (p : Plan). p.radio_of (station_of side)) (sym of_turn.plan_is)
            ∙ sends_on given (station_of side) stop.channel stop.sent history unseen.plan unseen.is_now (still.silent (station_of side) (is_one side))
            (ap (λ s. use_at given s history) (sym sender) ∙ unseen.is_wanted) (unseen.plan.radio_of (station_of side)) refl;
        listens = not_missed (radio_of (other_side side) of_turn.turn) unseen.hearing.verdict
            (λ off. ap (λ (h : Hearing). h.verdict) (sym same)
            ∙ misses_at given (fate_at fates (fates_used history)) stop.channel stop.sent history listener unseen.plan unseen.is_now (still.silent listener (is_one (other_side side)))
            (ap (λ (p : Plan). p.radio_of listener) of_turn.plan_is ∙ plan_radio (other_side side) of_turn.turn ∙ off))
            unseen.verdict_is;
        heard_is = unseen.heard_is ∙ ap (λ fate. damaged_packet fate stop.sent)
            (ap (λ (h : Hearing). h.fate) (sym same) ∙ ap (λ (p : Plan). fate_at p.fates (fates_used history)) of_turn.plan_is
            ∙ ap (fate_at of_turn.turn.fates) placed.fates);
        differs = unseen.differs;
      }

  sender_side : (stop.sender ≡ 0) ⊎ (stop.sender ≡ 1) → stop.sender ≡ station_of (side_of stop.sender)
  sender_side (inl zeroth) = zeroth ∙ ap (λ s. station_of (side_of s)) (sym zeroth)
  sender_side (inr first) = first ∙ ap (λ s. station_of (side_of s)) (sym first)

  pub stopped_at : IsStoppedAt script (side_of stop.sender) stop.slot stop.place stop.sent stop.heard (journal_of history)
  stopped_at = of_side_at (side_of stop.sender) (sender_side (two stop.sender (stop_silent given history stop is).sender_in))
