-- The rules of joint runs hold of some PDUs where they hold of all.
use Rattle.std.proofs.Common.{◌≡◌, Bool, true, false, not, ◌&&◌, List, [], ◌∷◌, if◌then◌else◌, refl, ap, sym, ◌∙◌, subst}
use Rattle.std.proofs.lemmas.Bool.{and_parts, and_from}
use Rattle.machines.specs.Machine.{run_from, step}
use Rattle.collision_steps.specs.SubLists.{Directions, Last, Move, after_move, after_sending, after_taking, central_acked, central_sends, central_takes, clear, fixed, is_clear, is_fixed, is_kept, is_move_kept, is_on_air, is_taken, may_move, moves_kept, on_air, part, part_of, peripheral_acked, peripheral_fixes, peripheral_sends, peripheral_takes, reliable, taken}

module _ {A : Type 0} (keeps : A → Bool) where
  -- ---- one direction

  clear_part : (l : Last A) → is_clear l ≡ true → part keeps l ≡ clear
  clear_part clear h = refl
  clear_part (fixed a) h = absurd (cc)
  clear_part (on_air a) h = absurd (cc)
  clear_part (taken a) h = absurd (cc)

  if_same : (b : Bool) (x y : Last A) (test : Last A → Bool) → test y ≡ false → test x ≡ false → test (if b then x else y) ≡ false
  if_same true x y test p q = q
  if_same false x y test p q = p

  not_air : (l : Last A) → is_on_air l ≡ false → is_on_air (part keeps l) ≡ false
  not_air clear h = refl
  not_air (fixed a) h = if_same (keeps a) (fixed a) clear (λ l. is_on_air l) refl refl
  not_air (on_air a) h = absurd (cc)
  not_air (taken a) h = if_same (keeps a) (taken a) clear (λ l. is_on_air l) refl refl

  not_taken : (l : Last A) → is_taken l ≡ false → is_taken (part keeps l) ≡ false
  not_taken clear h = refl
  not_taken (fixed a) h = if_same (keeps a) (fixed a) clear (λ l. is_taken l) refl refl
  not_taken (on_air a) h = if_same (keeps a) (on_air a) clear (λ l. is_taken l) refl refl
  not_taken (taken a) h = absurd (cc)

  kept_is : (l : Last A) → is_kept keeps l ≡ true → part keeps l ≡ l
  kept_is clear h = refl
  kept_is (fixed a) h = rw h refl
  kept_is (on_air a) h = rw h refl
  kept_is (taken a) h = rw h refl

  lost_is : (l : Last A) → is_kept keeps l ≡ false → part keeps l ≡ clear
  lost_is clear h = absurd (cc)
  lost_is (fixed a) h = rw h refl
  lost_is (on_air a) h = rw h refl
  lost_is (taken a) h = rw h refl

  kept_taking : (l : Last A) → is_kept keeps (after_taking l) ≡ is_kept keeps l
  kept_taking clear = refl
  kept_taking (fixed a) = refl
  kept_taking (on_air a) = refl
  kept_taking (taken a) = refl

  kept_sending : (l : Last A) → is_kept keeps (after_sending l) ≡ is_kept keeps l
  kept_sending clear = refl
  kept_sending (fixed a) = refl
  kept_sending (on_air a) = refl
  kept_sending (taken a) = refl

  not_true : (b : Bool) → not b ≡ true → b ≡ false
  not_true true h = absurd (cc)
  not_true false h = refl

  not_false : (b : Bool) → b ≡ false → not b ≡ true
  not_false b h = ap not h

  both : (x y : Bool) → (x && not y) ≡ true → (x ≡ true) × (y ≡ false)
  both x y h = let p = and_parts x (not y) h in (p.0, not_true y p.1)

  -- ---- a move that is about a PDU which is kept

  pub record Kept (m : Move A) (s : Directions A) : Type 0 where
    pub comes : may_move m (part_of keeps s) ≡ true
    pub same : after_move m (part_of keeps s) ≡ part_of keeps (after_move m s)

  changed : (x y u v : Last A) → x ≡ u → y ≡ v → ◌≡◌ {A = Directions A} (record { down = x; up = y }) (record { down = u; up = v })
  changed x y u v p q = λ i. record { down = p i; up = q i }

  kept_move : (m : Move A) (s : Directions A) → may_move m s ≡ true → is_move_kept keeps m s ≡ true → Kept m s
  kept_move (central_sends a) s h k =
      let p = both (is_clear s.down) (is_on_air s.up) h in
      record {
        comes = and_from _ _ (ap is_clear (clear_part s.down p.0)) (not_false _ (not_air s.up p.1));
        same = changed _ _ _ _ (sym (kept_is (on_air a) k)) refl;
      }
  kept_move central_acked s h k =
      record { comes = subst (λ (l : Last A). is_taken l ≡ true) (sym (kept_is s.down k)) h; same = refl }
  kept_move central_takes s h k =
      let p = both (is_on_air s.up) (is_taken s.down) h in
      record {
        comes = and_from _ _ (subst (λ (l : Last A). is_on_air l ≡ true) (sym (kept_is s.up k)) p.0) (not_false _ (not_taken s.down p.1));
        same = changed _ _ _ _ refl (ap after_taking (kept_is s.up k) ∙ sym (kept_is (after_taking s.up) (kept_taking s.up ∙ k)));
      }
  kept_move (peripheral_fixes a) s h k =
      record { comes = ap is_clear (clear_part s.up h); same = changed _ _ _ _ refl (sym (kept_is (fixed a) k)) }
  kept_move peripheral_sends s h k =
      let p = both (is_fixed s.up) (is_on_air s.down) h in
      record {
        comes = and_from _ _ (subst (λ (l : Last A). is_fixed l ≡ true) (sym (kept_is s.up k)) p.0) (not_false _ (not_air s.down p.1));
        same = changed _ _ _ _ refl (ap after_sending (kept_is s.up k) ∙ sym (kept_is (after_sending s.up) (kept_sending s.up ∙ k)));
      }
  kept_move peripheral_acked s h k =
      record { comes = subst (λ (l : Last A). is_taken l ≡ true) (sym (kept_is s.up k)) h; same = refl }
  kept_move peripheral_takes s h k =
      let p = both (is_on_air s.down) (is_taken s.up) h in
      record {
        comes = and_from _ _ (subst (λ (l : Last A). is_on_air l ≡ true) (sym (kept_is s.down k)) p.0) (not_false _ (not_taken s.up p.1));
        same = changed _ _ _ _ (ap after_taking (kept_is s.down k) ∙ sym (kept_is (after_taking s.down) (kept_taking s.down ∙ k))) refl;
      }

  -- ---- a move that is about another PDU

  lost_move : (m : Move A) (s : Directions A) → may_move m s ≡ true → is_move_kept keeps m s ≡ false → part_of keeps (after_move m s) ≡ part_of keeps s
  lost_move (central_sends a) s h k =
      let p = both (is_clear s.down) (is_on_air s.up) h in changed _ _ _ _ (lost_is (on_air a) k ∙ sym (clear_part s.down p.0)) refl
  lost_move central_acked s h k = changed _ _ _ _ (sym (lost_is s.down k)) refl
  lost_move central_takes s h k = changed _ _ _ _ refl (lost_is (after_taking s.up) (kept_taking s.up ∙ k) ∙ sym (lost_is s.up k))
  lost_move (peripheral_fixes a) s h k = changed _ _ _ _ refl (lost_is (fixed a) k ∙ sym (clear_part s.up h))
  lost_move peripheral_sends s h k = changed _ _ _ _ refl (lost_is (after_sending s.up) (kept_sending s.up ∙ k) ∙ sym (lost_is s.up k))
  lost_move peripheral_acked s h k = changed _ _ _ _ refl (sym (lost_is s.up k))
  lost_move peripheral_takes s h k = changed _ _ _ _ (lost_is (after_taking s.down) (kept_taking s.down ∙ k) ∙ sym (lost_is s.down k)) refl

  pub kept_comes : (m : Move A) (s : Directions A) → may_move m s ≡ true → is_move_kept keeps m s ≡ true → may_move m (part_of keeps s) ≡ true
  kept_comes m s h k = (kept_move m s h k).comes

  stepped : (m : Move A) (s : Directions A) → may_move m s ≡ true → step reliable m s ≡ after_move m s
  stepped m s h = rw h refl

  run_by : (m : Move A) (s : Directions A) (ms : List (Move A)) (comes kept : Bool) → may_move m s ≡ comes → is_move_kept keeps m s ≡ kept
      → run_from reliable (part_of keeps (step reliable m s)) (moves_kept keeps (step reliable m s) ms) ≡ part_of keeps (run_from reliable (step reliable m s) ms)
      → run_from reliable (part_of keeps s) (moves_kept keeps s (m ∷ ms)) ≡ part_of keeps (run_from reliable s (m ∷ ms))
  run_by m s ms true true h k rest =
      let move = kept_move m s h k in
      let same : step reliable m (part_of keeps s) ≡ part_of keeps (step reliable m s) =
      stepped m (part_of keeps s) move.comes ∙ move.same ∙ ap (part_of keeps) (sym (stepped m s h)) in
      ap (λ (b : Bool). run_from reliable (part_of keeps s) (if b then m ∷ moves_kept keeps (step reliable m s) ms else moves_kept keeps (step reliable m s) ms)) (and_from _ _ h k)
      ∙ ap (λ (t : Directions A). run_from reliable t (moves_kept keeps (step reliable m s) ms)) same ∙ rest
  run_by m s ms true false h k rest =
      let same : part_of keeps s ≡ part_of keeps (step reliable m s) =
      sym (lost_move m s h k) ∙ ap (part_of keeps) (sym (stepped m s h)) in
      ap (λ (b : Bool). run_from reliable (part_of keeps s) (if b then m ∷ moves_kept keeps (step reliable m s) ms else moves_kept keeps (step reliable m s) ms)) (ap (λ b. b && is_move_kept keeps m s) h ∙ k)
      ∙ ap (λ (t : Directions A). run_from reliable t (moves_kept keeps (step reliable m s) ms)) same ∙ rest
  run_by m s ms false kept h k rest =
      let same : part_of keeps s ≡ part_of keeps (step reliable m s) =
      ap (part_of keeps) (rw h refl) in
      ap (λ (b : Bool). run_from reliable (part_of keeps s) (if b then m ∷ moves_kept keeps (step reliable m s) ms else moves_kept keeps (step reliable m s) ms)) (ap (λ b. b && is_move_kept keeps m s) h)
      ∙ ap (λ (t : Directions A). run_from reliable t (moves_kept keeps (step reliable m s) ms)) same ∙ rest

  pub run_part : (s : Directions A) (ms : List (Move A)) → run_from reliable (part_of keeps s) (moves_kept keeps s ms) ≡ part_of keeps (run_from reliable s ms)
  run_part s [] = refl
  run_part s (m ∷ ms) = run_by m s ms (may_move m s) (is_move_kept keeps m s) refl refl (run_part (step reliable m s) ms)
