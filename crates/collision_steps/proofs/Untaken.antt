-- The PDUs of some kinds that are not taken, move by move.
use Rattle.std.proofs.Common.{◌≡◌, true, not, Option, None, refl, sym}
use Rattle.std.proofs.lemmas.Bool.{and_parts}
use Rattle.collision_steps.specs.SubLists.{Directions, Last, Move, after_move, after_sending, after_taking, central_acked, central_sends, central_takes, clear, fixed, is_clear, is_on_air, is_taken, may_move, on_air, peripheral_acked, peripheral_fixes, peripheral_sends, peripheral_takes, taken}
use Rattle.collision_steps.specs.Untaken.{FindsNone, FindsSent, untaken, ways_after, ways_of}

module _ {A B : Type 0} (part : A → Option B) where
  none_clear : (l : Last A) → is_clear l ≡ true → untaken part l ≡ None
  none_clear clear is = refl
  none_clear (fixed a) is = absurd (cc)
  none_clear (on_air a) is = absurd (cc)
  none_clear (taken a) is = absurd (cc)

  none_taken : (l : Last A) → is_taken l ≡ true → untaken part l ≡ None
  none_taken (taken a) is = refl
  none_taken clear is = absurd (cc)
  none_taken (fixed a) is = absurd (cc)
  none_taken (on_air a) is = absurd (cc)

  sent_same : (l : Last A) → untaken part (after_sending l) ≡ untaken part l
  sent_same clear = refl
  sent_same (fixed a) = refl
  sent_same (on_air a) = refl
  sent_same (taken a) = refl

  gone : (l : Last A) → is_on_air l ≡ true → untaken part (after_taking l) ≡ None
  gone (on_air a) is = refl
  gone clear is = absurd (cc)
  gone (fixed a) is = absurd (cc)
  gone (taken a) is = absurd (cc)

  pub each_move : (move : Move A) (s : Directions A) → may_move move s ≡ true → ways_of part (after_move move s) ≡ ways_after part move (ways_of part s)
  each_move (central_sends a) s may = refl
  each_move central_acked s may = λ i. record { down = (sym (none_taken s.down may)) i; up = untaken part s.up }
  each_move central_takes s may =
      let air = (and_parts (is_on_air s.up) (not (is_taken s.down)) may).0 in
      λ i. record { down = untaken part s.down; up = gone s.up air i }
  each_move (peripheral_fixes a) s may = refl
  each_move peripheral_sends s may = λ i. record { down = untaken part s.down; up = sent_same s.up i }
  each_move peripheral_acked s may = λ i. record { down = untaken part s.down; up = (sym (none_taken s.up may)) i }
  each_move peripheral_takes s may =
      let air = (and_parts (is_on_air s.down) (not (is_taken s.up)) may).0 in
      λ i. record { down = gone s.down air i; up = untaken part s.up }

  pub finds_none : (move : Move A) (s : Directions A) → may_move move s ≡ true → FindsNone part move s
  finds_none (central_sends a) s may = none_clear s.down (and_parts (is_clear s.down) (not (is_on_air s.up)) may).0
  finds_none (peripheral_fixes a) s may = none_clear s.up may
  finds_none move s may = tt

module _ {A : Type 0} where
  was_sent : (l : Last A) → is_on_air l ≡ true → (a : A) × (l ≡ on_air a)
  was_sent (on_air a) is = (a, refl)
  was_sent clear is = absurd (cc)
  was_sent (fixed a) is = absurd (cc)
  was_sent (taken a) is = absurd (cc)

  pub finds_sent : (move : Move A) (s : Directions A) → may_move move s ≡ true → FindsSent move s
  finds_sent central_takes s may = was_sent s.up (and_parts (is_on_air s.up) (not (is_taken s.down)) may).0
  finds_sent peripheral_takes s may = was_sent s.down (and_parts (is_on_air s.down) (not (is_taken s.up)) may).0
  finds_sent move s may = tt
