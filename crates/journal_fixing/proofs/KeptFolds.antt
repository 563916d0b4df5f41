-- What is kept of a turn, by a journal with lines more.
use Rattle.std.proofs.Common.{◌≡◌, ◌||◌, Bool, true, false, Option, Some, None, List, [], ◌∷◌, ◌++◌, is_some, refl, sym, ap, ◌∙◌, append-nil, append_assoc, if◌then◌else◌}
use Rattle.std.proofs.lemmas.Bool.{or_right}
use Rattle.journal.specs.declared.entries.Entry.{Entry}
use Rattle.journal_fixing.specs.OnLines.{begins_turn, first_kept, kept_after, kept_from, kept_or}

module _ {A : Type 0} where
  some_first : (kept : Option A) (passes : Bool) (now : A) → is_some kept ≡ true → first_kept kept passes now ≡ kept
  some_first None passes now is = absurd cc
  some_first (Some one) passes now is = refl

  none_first : (kept : Option A) (now : A) → is_some kept ≡ false → first_kept kept true now ≡ Some now
  none_first None now is = refl
  none_first (Some one) now is = absurd cc

  is_first : (kept : Option A) (passes : Bool) (now : A) → is_some (first_kept kept passes now) ≡ (is_some kept || passes)
  is_first None true now = refl
  is_first None false now = refl
  is_first (Some one) passes now = refl

  pub or_now : (kept : Option A) (now : A) → is_some kept ≡ false → kept_or kept now ≡ now
  or_now None now is = refl
  or_now (Some one) now is = absurd cc

  pub or_kept : (kept : Option A) (one other : A) → is_some kept ≡ true → kept_or kept one ≡ kept_or kept other
  or_kept None one other is = absurd cc
  or_kept (Some held) one other is = refl

module _ {A : Type 0} (passes : List Entry → Entry → Bool) (value : List Entry → Entry → A) where
  from_more : (front : List Entry) (kept : Option A) (lines : List Entry) (line : Entry)
      → kept_from passes value front kept (lines ++ line ∷ []) ≡ kept_after passes value (front ++ lines) (kept_from passes value front kept lines) line
  from_more front kept [] line = ap (λ xs. kept_after passes value xs kept line) (sym (append-nil front))
  from_more front kept (first ∷ lines) line =
      from_more (front ++ first ∷ []) (kept_after passes value front kept first) lines line
      ∙ ap (λ xs. kept_after passes value xs (kept_from passes value (front ++ first ∷ []) (kept_after passes value front kept first) lines) line)
      (append_assoc front (first ∷ []) lines)

  abbrev pub kept_in : List Entry → Option A
  kept_in journal = kept_from passes value [] None journal

  kept_more : (journal : List Entry) (line : Entry) → kept_in (journal ++ line ∷ []) ≡ kept_after passes value journal (kept_in journal) line
  kept_more journal line = from_more [] None journal line

  -- a turn begins
  pub kept_begins : (journal : List Entry) (line : Entry) → begins_turn line ≡ true → kept_in (journal ++ line ∷ []) ≡ None
  kept_begins journal line begins =
      kept_more journal line ∙ ap (λ b. if b then None else first_kept (kept_in journal) (passes journal line) (value journal line)) begins

  -- a turn goes on
  module _ (journal : List Entry) (line : Entry) (goes : begins_turn line ≡ false) where
    kept_goes : kept_in (journal ++ line ∷ []) ≡ first_kept (kept_in journal) (passes journal line) (value journal line)
    kept_goes = kept_more journal line ∙ ap (λ b. if b then None else first_kept (kept_in journal) (passes journal line) (value journal line)) goes

    pub kept_stays : is_some (kept_in journal) ≡ true → kept_in (journal ++ line ∷ []) ≡ kept_in journal
    kept_stays is = kept_goes ∙ some_first (kept_in journal) (passes journal line) (value journal line) is

    pub kept_first : is_some (kept_in journal) ≡ false → passes journal line ≡ true → kept_in (journal ++ line ∷ []) ≡ Some (value journal line)
    kept_first is passing =
        kept_goes ∙ ap (λ b. first_kept (kept_in journal) b (value journal line)) passing ∙ none_first (kept_in journal) (value journal line) is

    pub kept_is : is_some (kept_in (journal ++ line ∷ [])) ≡ (is_some (kept_in journal) || passes journal line)
    kept_is = ap is_some kept_goes ∙ is_first (kept_in journal) (passes journal line) (value journal line)

-- what passes one test passes another one too
or_so : (one more other too : Bool) → (one ≡ true → other ≡ true) → (more ≡ true → too ≡ true) → (one || more) ≡ true → (other || too) ≡ true
or_so true more other too first second is = ap (λ b. b || too) (first refl)
or_so false more other too first second is = or_right other too (second is)

module _ {A B : Type 0} (passes also : List Entry → Entry → Bool) (value : List Entry → Entry → A) (other : List Entry → Entry → B)
    (so : (front : List Entry) (line : Entry) → passes front line ≡ true → also front line ≡ true) where
  pub kept_both : (front : List Entry) (kept : Option A) (kept_too : Option B) (lines : List Entry) → (is_some kept ≡ true → is_some kept_too ≡ true)
      → is_some (kept_from passes value front kept lines) ≡ true → is_some (kept_from also other front kept_too lines) ≡ true
  kept_both front kept kept_too [] then_too is = then_too is
  kept_both front kept kept_too (line ∷ lines) then_too is =
      kept_both (front ++ line ∷ []) (kept_after passes value front kept line) (kept_after also other front kept_too line) lines (by (begins_turn line)) is
    where
      by : (begins : Bool) → is_some (if begins then None else first_kept kept (passes front line) (value front line)) ≡ true
          → is_some (if begins then None else first_kept kept_too (also front line) (other front line)) ≡ true
      by true some = absurd cc
      by false some =
          is_first kept_too (also front line) (other front line)
          ∙ or_so (is_some kept) (passes front line) (is_some kept_too) (also front line) then_too (so front line) (sym (is_first kept (passes front line) (value front line)) ∙ some)
