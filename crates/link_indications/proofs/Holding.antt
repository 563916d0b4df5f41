-- What an end and its notes have in common, and what keeps it.
use Rattle.std.proofs.Common.{◌≡◌, ℕ, false, List, [], ◌++◌, Option, None, refl, sym, ap, subst, ◌∙◌}
use Rattle.std.specs.List.{All}
use Rattle.std.proofs.lemmas.List.{append-nil, map-append}
use Rattle.std.proofs.lemmas.List.Elements.{All-append, All-nil}
use Rattle.ble_base.specs.declared.error_codes.ErrCode.{ErrCode}
use Rattle.ble_base.specs.declared.notes.Note.{Note}
use Rattle.ble_base.specs.declared.roles.Role.{Role}
use Rattle.ble_base.specs.declared.roles.Role.TheVariants.{Central, Peripheral}
use Rattle.data_pdu.specs.declared.ctrl.Ctrl.{Ctrl}
use Rattle.instants.specs.Arrivals.{Taking}
use Rattle.instants.specs.declared.indications.Indication.{Indication}
use Rattle.instants.specs.declared.track.Change.{Change}
use Rattle.link_model.specs.control_model.Control.{Control, Step, Owes, after, ended}
use Rattle.link_changes.specs.Noted.{event_noted, indications_noted, taking_if, takings_from, takings_noted}
use Rattle.link_changes.proofs.Knowing.{changes_in}
use Rattle.link_changes.proofs.Notes.{takings_more}
use Rattle.link_changes.proofs.Readable.{IsOwed}
use Rattle.link_indications.specs.InTime.{IsTakenInTime}
use Rattle.link_indications.proofs.Controls.{AreInTime, goes_before, is_sending, same_sent}
use Rattle.link_indications.proofs.Silent.{AreSilent, no_takings}

-- a central has sent the indications in its notes; an end that goes on took each in time
pub record Holds (role : Role) (notes : List Note) (c : Control) : Type 0 where
  pub sent : role ≡ Central → indications_noted role notes ≡ c.sent
  pub in_time : c.ends ≡ None → All IsTakenInTime (takings_noted role notes)

-- an end that has sent no more, and that goes on only where it went on before
pub record Kept (role : Role) (c d : Control) : Type 0 where
  pub sent : role ≡ Central → d.sent ≡ c.sent
  pub goes : d.ends ≡ None → c.ends ≡ None

module _ (role : Role) where
  pub kept_same : (c : Control) → Kept role c c
  kept_same c = record { sent = λ central. refl; goes = λ goes. goes }

  pub kept_then : (b c d : Control) → Kept role b c → Kept role c d → Kept role b d
  kept_then b c d one other = record { sent = λ central. other.sent central ∙ one.sent central; goes = λ goes. one.goes (other.goes goes) }

  pub kept_step : (step : Step) (c : Control) → is_sending step ≡ false → Kept role c (after step c)
  kept_step step c is = record { sent = λ central. same_sent step c is; goes = goes_before step c }

  pub kept_at_peripheral : (step : Step) (c : Control) → role ≡ Peripheral → Kept role c (after step c)
  kept_at_peripheral step c is = record { sent = λ central. absurd (cc); goes = goes_before step c }

  -- the link ends by its phase
  pub kept_over : (code : ErrCode) (c : Control) → Kept role c (ended code c)
  kept_over code c = record { sent = λ central. refl; goes = λ goes. absurd (cc) }

  -- a PDU of an encryption is queued
  pub kept_owes : (b : Control) (ctrl : Ctrl) (c : Control) → IsOwed ctrl → Kept role b c → Kept role b (after (Owes ctrl) c)
  kept_owes b ctrl c is kept = kept_then b c (after (Owes ctrl) c) kept (kept_step (Owes ctrl) c refl)

  pub holds_first : (c : Control) → c.sent ≡ [] → Holds role [] c
  holds_first c none = record { sent = λ central. sym none; in_time = λ goes. All-nil IsTakenInTime }

  -- more notes, with one indication or none, which is noted in this event
  pub holds_more : (notes more : List Note) (c d : Control) (event : ℕ) (some : Option Indication) → Holds role notes c
      → takings_from role (event_noted notes) more ≡ taking_if event some
      → (role ≡ Central → d.sent ≡ c.sent ++ changes_in (taking_if event some)) → (d.ends ≡ None → c.ends ≡ None)
      → (d.ends ≡ None → AreInTime event some) → Holds role (notes ++ more) d
  holds_more notes more c d event some h noted sent goes in_time = record {
    sent = λ central.
        ap (λ (takings : List Taking). changes_in takings) all
        ∙ map-append (λ (taking : Taking). taking.change) (takings_noted role notes) (taking_if event some)
        ∙ ap (λ (changes : List Change). changes ++ changes_in (taking_if event some)) (h.sent central)
        ∙ sym (sent central);
    in_time = λ lasts.
        subst (All IsTakenInTime) (sym all)
        (All-append IsTakenInTime (takings_noted role notes) (taking_if event some) (h.in_time (goes lasts)) (in_time lasts));
  }
    where
      all : takings_noted role (notes ++ more) ≡ takings_noted role notes ++ taking_if event some
      all = takings_more role notes more ∙ ap (λ (some : List Taking). takings_noted role notes ++ some) noted

  -- more notes with none
  pub holds_silent : (notes more : List Note) (c d : Control) → Holds role notes c → AreSilent role more → Kept role c d → Holds role (notes ++ more) d
  holds_silent notes more c d h silent kept =
      holds_more notes more c d 0 None h (no_takings role more (event_noted notes) silent) (λ central. kept.sent central ∙ sym (append-nil c.sent)) kept.goes
      (λ goes. All-nil IsTakenInTime)
