-- What refuses a line of a procedure: none is due; and what refuses the line of an indication: another one is.
use Rattle.std.proofs.Common.{◌≡◌, nat_eq, false, List, [], Option, Some, None, sym, ap, ◌∙◌}
use Rattle.journal.specs.declared.entries.Entry.{Entry}
use Rattle.journal_pdus.specs.journal_due.ProcedureLines.{AppliedLine, first_of}
use Rattle.wrong_journals.proofs.Differing.{numbers_differ}
use Rattle.wrong_journals.proofs.Packets.{some_is}

pub none_due : (due : List Entry) (line : Entry) → due ≡ [] → Some line ≡ first_of due → ⊥
none_due due line none same = let h : Some line ≡ None = same ∙ ap first_of none in absurd (cc)

-- the last line is of one indication, and another one comes into force
pub other_indication : (one other : AppliedLine) (last due : Option AppliedLine)
    → last ≡ Some one → due ≡ Some other → nat_eq one.indication other.indication ≡ false → last ≡ due → ⊥
other_indication one other last due last_is due_is differ same =
    numbers_differ one.indication other.indication differ (ap (λ (l : AppliedLine). l.indication) (some_is one other (sym last_is ∙ same ∙ due_is)))
