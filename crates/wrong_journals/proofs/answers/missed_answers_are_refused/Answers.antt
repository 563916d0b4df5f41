-- An answer that passes is missed, or is broken.
use Rattle.std.proofs.Common.{◌≡◌, ◌<◌, ◌+◌, ℕ, [], arith, refl, sym}
use Rattle.ble_base.specs.declared.roles.Side.TheVariants.{A}
use Rattle.ble_base.specs.declared.verdicts.Verdict.TheVariants.{Broken, Missed}
use Rattle.frame_bits.specs.Whitening.{mask_of, next_mask, whitening_bit, whitening_of}
use Rattle.run_model.specs.Rows.{first_reply}
use Rattle.journal_pdus.specs.Answered.{IsHeardAs, IsRead, IsTooLong}
use Rattle.journal_pdus.specs.journal_packets.Belonging.{is_answer}
use Rattle.wrong_journals.specs.Answers.{before_answer}
use Rattle.wrong_journals.proofs.Differing.{truths_differ}
use Rattle.wrong_journals.proofs.answers.missed_answers_are_refused.Goals as goal

pub returns-clause-missed : goal.returns-clause-missed
unfolding is_answer
returns-clause-missed c lawful = by _ (lawful before_answer [] A 25 first_reply Missed refl refl refl)
  where
    by : (most : ℕ) → IsHeardAs most 25 first_reply Missed → ⊥
    by most (IsRead handed) = truths_differ (sym handed)
    by most (IsTooLong broken long) = absurd (let h : Missed ≡ Broken = broken in absurd cc)

pub returns-clause-broken : goal.returns-clause-broken
unfolding is_answer mask_of next_mask whitening_bit whitening_of
returns-clause-broken c lawful = by _ (lawful before_answer [] A 25 first_reply Broken refl refl refl)
  where
    by : (most : ℕ) → IsHeardAs most 25 first_reply Broken → ⊥
    by most (IsRead handed) = truths_differ (sym handed)
    by most (IsTooLong broken long) = let few : most + 2 < 2 = long in omega (arith, few)
