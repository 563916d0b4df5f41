-- A side that judged no packet forged.
use Rattle.std.proofs.Common.{◌≡◌, ℕ, Bool, true, false, List, refl, sym, ap, ◌∙◌}
use Rattle.std.specs.List.{list_any}
use Rattle.ble_base.specs.Side.{other_side}
use Rattle.ble_base.specs.declared.roles.Side.{Side}
use Rattle.ble_base.specs.declared.verdicts.Verdict.TheVariants.{Forged}
use Rattle.journal.specs.declared.entries.Entry.{Entry}
use Rattle.journal.specs.declared.entries.Entry.TheVariants.{Air}
use Rattle.journal_pdus.specs.journal_failures.Failures.{IsForgedIn}
use Rattle.wrong_journals.proofs.Differing.{truths_differ}
use Rattle.wrong_journals.proofs.Hearing.{any_there}

abbrev pub is_forged_packet : Entry → Bool
is_forged_packet (Air sender channel octets fate Forged) = true
is_forged_packet entry = false

pub none_forged : (side : Side) (number : ℕ) (front : List Entry) → list_any is_forged_packet front ≡ false → IsForgedIn side number front → ⊥
none_forged side number front none is =
    truths_differ (sym (any_there is_forged_packet is.before is.after (Air (other_side side) is.channel is.octets is.fate Forged) refl)
    ∙ ap (list_any is_forged_packet) (sym is.is_at) ∙ none)
