-- An end as its next PDU is fixed, and as that goes, by a journal with a line more.
use Rattle.std.proofs.Common.{◌≡◌, ℕ, ◌||◌, Bool, true, false, Option, Some, None, List, [], ◌∷◌, ◌++◌, is_some, refl, sym, ap, ◌∙◌}
use Rattle.ble_base.specs.declared.roles.Side.{Side}
use Rattle.journal.specs.declared.entries.Entry.{Entry}
use Rattle.journal.specs.declared.entries.Entry.TheVariants.{Turn}
use Rattle.journal_controls.specs.LineSteps.{keyed_on}
use Rattle.journal_controls.specs.journal_ends.Answering.{answers_in_line}
use Rattle.journal_controls.specs.journal_ends.Asked.{Words}
use Rattle.journal_controls.specs.journal_ends.Seen.{seen_in_line}
use Rattle.journal_controls.specs.link_model.keyed_control.Keyed.{Keyed}
use Rattle.journal_controls.proofs.LineFolds.{keyed_more, quiet_line}
use Rattle.journal_fixing.specs.OnLines.{begins_turn, control_answering, control_fixing, control_going, fixing_kept, going_kept, has_heard, is_fixed, is_fixed_from, is_heard_at, kept_or}
use Rattle.journal_fixing.proofs.KeptFolds.{kept_begins, kept_first, kept_is, kept_stays, or_kept, or_now}

module _ (words : Words) (side : Side) (number : ℕ) where
  abbrev now : List Entry → Option Keyed
  now journal = keyed_on words side number journal

  quiet_now : (journal : List Entry) (line : Entry) → seen_in_line words side number journal line ≡ [] → answers_in_line words side number journal line ≡ []
      → now (journal ++ line ∷ []) ≡ now journal
  quiet_now journal line none unanswered = keyed_more words side number journal line ∙ quiet_line words side number journal (now journal) line none unanswered

  -- ---- a turn begins

  module _ (journal : List Entry) (slot : ℕ) (a_on : Bool) (b_on : Option Bool) where
    abbrev begun : List Entry
    begun = journal ++ Turn slot a_on b_on ∷ []

    fixing_none : fixing_kept words side number begun ≡ None
    unfolding fixing_kept
    fixing_none = kept_begins (λ front line. is_fixed_from side number line) (λ front line. now front) journal (Turn slot a_on b_on) refl

    going_none : going_kept words side number begun ≡ None
    unfolding going_kept
    going_none = kept_begins (is_heard_at side number) (control_answering words side number) journal (Turn slot a_on b_on) refl

    pub unfixed_begins : is_fixed words side number begun ≡ false
    unfixed_begins = ap is_some fixing_none

    pub unheard_begins : has_heard words side number begun ≡ false
    unheard_begins = ap is_some going_none

    pub fixing_begins : control_fixing words side number begun ≡ now journal
    fixing_begins = ap (λ kept. kept_or kept (now begun)) fixing_none ∙ quiet_now journal (Turn slot a_on b_on) refl refl

    pub going_begins : control_going words side number begun ≡ now journal
    going_begins = ap (λ kept. kept_or kept (now begun)) going_none ∙ quiet_now journal (Turn slot a_on b_on) refl refl

  -- ---- nothing is kept yet

  pub fixing_now : (journal : List Entry) → is_fixed words side number journal ≡ false → control_fixing words side number journal ≡ now journal
  fixing_now journal none = or_now (fixing_kept words side number journal) (now journal) none

  pub going_now : (journal : List Entry) → has_heard words side number journal ≡ false → control_going words side number journal ≡ now journal
  going_now journal none = or_now (going_kept words side number journal) (now journal) none

  -- ---- a turn goes on

  module _ (journal : List Entry) (line : Entry) (goes : begins_turn line ≡ false) where
    abbrev more : List Entry
    more = journal ++ line ∷ []

    pub fixed_is : is_fixed words side number more ≡ (is_fixed words side number journal || is_fixed_from side number line)
    unfolding fixing_kept
    fixed_is = kept_is (λ front one. is_fixed_from side number one) (λ front one. now front) journal line goes

    pub heard_is : has_heard words side number more ≡ (has_heard words side number journal || is_heard_at side number journal line)
    unfolding going_kept
    heard_is = kept_is (is_heard_at side number) (control_answering words side number) journal line goes

    fixing_same : is_fixed words side number journal ≡ true → fixing_kept words side number more ≡ fixing_kept words side number journal
    unfolding fixing_kept
    fixing_same is = kept_stays (λ front one. is_fixed_from side number one) (λ front one. now front) journal line goes is

    fixing_first : is_fixed words side number journal ≡ false → is_fixed_from side number line ≡ true → fixing_kept words side number more ≡ Some (now journal)
    unfolding fixing_kept
    fixing_first none is = kept_first (λ front one. is_fixed_from side number one) (λ front one. now front) journal line goes none is

    going_same : has_heard words side number journal ≡ true → going_kept words side number more ≡ going_kept words side number journal
    unfolding going_kept
    going_same is = kept_stays (is_heard_at side number) (control_answering words side number) journal line goes is

    going_first : has_heard words side number journal ≡ false → is_heard_at side number journal line ≡ true → going_kept words side number more ≡ Some (control_answering words side number journal line)
    unfolding going_kept
    going_first none is = kept_first (is_heard_at side number) (control_answering words side number) journal line goes none is

    -- its PDU is fixed, now at least
    pub fixing_stays : (is_fixed words side number journal || is_fixed_from side number line) ≡ true → control_fixing words side number more ≡ control_fixing words side number journal
    fixing_stays is = by (is_fixed words side number journal) refl is
      where
        by : (fixed : Bool) → is_fixed words side number journal ≡ fixed → (fixed || is_fixed_from side number line) ≡ true
            → control_fixing words side number more ≡ control_fixing words side number journal
        by true fixed is =
            ap (λ kept. kept_or kept (now more)) (fixing_same fixed) ∙ or_kept (fixing_kept words side number journal) (now more) (now journal) fixed
        by false none is = ap (λ kept. kept_or kept (now more)) (fixing_first none is) ∙ sym (fixing_now journal none)

    -- it heard a packet, now or before
    pub going_stays : has_heard words side number journal ≡ true → control_going words side number more ≡ control_going words side number journal
    going_stays is = ap (λ kept. kept_or kept (now more)) (going_same is) ∙ or_kept (going_kept words side number journal) (now more) (now journal) is

    pub going_answers : has_heard words side number journal ≡ false → is_heard_at side number journal line ≡ true
        → control_going words side number more ≡ control_answering words side number journal line
    going_answers none is = ap (λ kept. kept_or kept (now more)) (going_first none is)

    -- it says and hears nothing, and its host asks and answers nothing
    quiet_fixing : (fixed from : Bool) → is_fixed words side number journal ≡ fixed → is_fixed_from side number line ≡ from → seen_in_line words side number journal line ≡ []
        → answers_in_line words side number journal line ≡ [] → control_fixing words side number more ≡ control_fixing words side number journal
    quiet_fixing false false is from none unanswered =
        fixing_now more (fixed_is ∙ (λ i. is i || from i)) ∙ quiet_now journal line none unanswered ∙ sym (fixing_now journal is)
    quiet_fixing true from is comes none unanswered = fixing_stays (ap (λ b. b || is_fixed_from side number line) is)
    quiet_fixing false true is comes none unanswered = fixing_stays (λ i. is i || comes i)

    pub fixing_quiet : seen_in_line words side number journal line ≡ [] → answers_in_line words side number journal line ≡ []
        → control_fixing words side number more ≡ control_fixing words side number journal
    fixing_quiet none unanswered = quiet_fixing (is_fixed words side number journal) (is_fixed_from side number line) refl refl none unanswered

    quiet_going : (heard : Bool) → has_heard words side number journal ≡ heard → is_heard_at side number journal line ≡ false → seen_in_line words side number journal line ≡ []
        → answers_in_line words side number journal line ≡ [] → control_going words side number more ≡ control_going words side number journal
    quiet_going true is unheard none unanswered = going_stays is
    quiet_going false is unheard none unanswered =
        going_now more (heard_is ∙ (λ i. is i || unheard i)) ∙ quiet_now journal line none unanswered ∙ sym (going_now journal is)

    pub going_quiet : is_heard_at side number journal line ≡ false → seen_in_line words side number journal line ≡ [] → answers_in_line words side number journal line ≡ []
        → control_going words side number more ≡ control_going words side number journal
    going_quiet unheard none unanswered = quiet_going (has_heard words side number journal) refl unheard none unanswered
