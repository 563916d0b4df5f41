-- The parts of the steps of an end make its steps.
use Rattle.std.proofs.Common.{◌≡◌, ℕ, Bool, true, false, if◌then◌else◌, List, Option, Some, None, is_some, refl, sym, ap, ◌∙◌}
use Rattle.std.specs.List.{position}
use Rattle.ble_base.specs.declared.error_codes.ErrCode.{ErrCode}
use Rattle.data_pdu.specs.declared.ctrl.Ctrl.{Ctrl}
use Rattle.data_pdu.specs.declared.ctrl.Ctrl.TheVariants.{PauseEncReq}
use Rattle.instants.specs.Track.{next_number}
use Rattle.enc_phase.specs.declared.facts.PhaseFacts.{PhaseFacts}
use Rattle.enc_phase.specs.declared.facts.PhaseFacts.TheVariants.{Clear, Secure}
use Rattle.enc_phase.specs.declared.facts.Transition.TheVariants.{Ask as AskTransition, Pause}
use Rattle.enc_phase.specs.Phases.{is_quiet, phase_after}
use Rattle.enc_phase.specs.Sealing.{EncEnd, after_transition}
use Rattle.procedures.specs.procedure_values.declared.asks.Ask.{Ask}
use Rattle.procedures.specs.Table.{TableFacts}
use Rattle.procedures.specs.Beginning.{ask_at, begin_step}
use Rattle.procedures.specs.Going.{entered_step}
use Rattle.control_part.specs.control_end.control_model.Control.{Control, Owes, after}
use Rattle.control_part.specs.control_end.control_model.Control.{Enters as control_enters}
use Rattle.control_part.specs.control_end.Answers.{entry_of}
use Rattle.control_part.specs.control_end.Held.{Held, control_of, held_after as control_after, held_of as control_held}
use Rattle.control_part.proofs.control_end.Depending.{step_held}
use Rattle.keyed_control.specs.KeyedSteps.{Enters, end_changed, with_asked, with_asked_if}
use Rattle.keyed_control.specs.phased_control.PhaseChanges.{Stays, first_change}
use Rattle.keyed_control.specs.phased_control.Phased.{Phased, ask_begun, encrypting, encrypting_if, is_encrypt, request_of, table_entered, with_owed_if, with_step}
use Rattle.keyed_control.proofs.phased_control.Tables.{begins_encryption}
use Rattle.phased_end.specs.Answers.{quiet_now}
use Rattle.phased_end.specs.Held.{HeldKeyed, held_after, held_of, phased_of}
use Rattle.phased_end.proofs.Asking.{asked_first}
use Rattle.phased_end.specs.Moves.{encrypting_in, is_encryption, owing_if, with_encryption}

-- ---- an end that ended the link, and one that did not

abbrev pub with_ends : Option ErrCode → HeldKeyed → HeldKeyed
with_ends ends h = record h { control = record h.control { ends = ends } }

pub on_ends : (P : HeldKeyed → Type 0) → ((h : HeldKeyed) → P (with_ends None h)) → ((h : HeldKeyed) (code : ErrCode) → P (with_ends (Some code) h)) → (h : HeldKeyed) → P h
on_ends P goes over h = by h.control.ends
  where
    by : (ends : Option ErrCode) → P (with_ends ends h)
    by None = goes h
    by (Some code) = over h code

false_true : {X : Type 0} → ◌≡◌ {A = Bool} false true → X
false_true e = absurd (cc)

-- ---- an encryption begins

-- both change an end whose phase is Clear or Secure in one way
encrypting_same : (p : PhaseFacts) (h : HeldKeyed) (c : Control) (e : EncEnd) → is_quiet p ≡ true
    → encrypting_in p (record h { control = control_held c; end = record e { phase = p } })
    ≡ held_of (record {
      phased = encrypting p (record { control = c; phase = p; kept = h.kept; asks_key = h.asks_key; request = h.request; knows_version = false });
      material = h.material;
      end = end_changed (first_change p) h.material (record e { phase = p });
    })
encrypting_same Clear h c e quiet = by h.request
  where
    d : EncEnd
    d = after_transition AskTransition (record e { phase = Clear })

    by : (r : Option Ctrl)
        → owing_if r (record h { control = control_held c; end = d; request = r })
        ≡ held_of (record {
          phased = with_owed_if r (record { control = c; phase = phase_after AskTransition Clear; kept = h.kept; asks_key = h.asks_key; request = r; knows_version = false });
          material = h.material;
          end = d;
        })
    by None = refl
    by (Some ctrl) = ap (λ (x : Held). record h { control = x; end = d; request = Some ctrl }) (sym (step_held (Owes ctrl) c))
encrypting_same Secure h c e quiet =
    ap (λ (x : Held). record h { control = x; end = after_transition Pause (record e { phase = Secure }) }) (sym (step_held (Owes PauseEncReq) c))
encrypting_same p h c e quiet = absurd (cc)

abbrev entered_control : ℕ → HeldKeyed → Control
entered_control slot h = after (control_enters slot (quiet_now h)) (control_of h.control)

abbrev wanted_first : HeldKeyed → Option Ask
wanted_first h = ask_at (position is_encryption h.control.table.wanted) h.control.table.wanted

wanted_entered : (f : TableFacts) (b : Bool) → (entered_step f b).0.wanted ≡ f.wanted
wanted_entered f true = refl
wanted_entered f false = refl

abbrev Enters_now : ℕ → HeldKeyed → Type 0
Enters_now slot h =
    is_encrypt (entry_of slot (quiet_now h) h.control).began ≡ true
    → with_encryption (wanted_first h) (record h { control = control_after (control_enters slot (quiet_now h)) h.control }) ≡ held_after (Enters slot) h

enters_goes : (slot : ℕ) (h : HeldKeyed) → Enters_now slot (with_ends None h)
enters_goes slot h is = by (is_encrypt (begin_step f slot (quiet_now g)).1) is
  where
    g : HeldKeyed
    g = with_ends None h

    f : TableFacts
    f = table_entered (phased_of g)

    asked : Option Ask
    asked = ask_begun f (quiet_now g)

    t : Phased
    t = with_step (control_enters slot (quiet_now g)) (phased_of g)

    first : wanted_first g ≡ asked
    first =
        ap (λ (asks : List Ask). ask_at (position is_encryption asks) asks) (sym (wanted_entered g.control.table (is_some (next_number g.control.track))))
        ∙ asked_first f slot (quiet_now g) is

    makes : with_encryption asked (record g { control = control_held (entered_control slot g) })
        ≡ held_of (record {
          phased = encrypting_if true (request_of asked) t;
          material = with_asked asked g.material;
          end = end_changed (first_change g.end.phase) (with_asked asked g.material) g.end;
        })
    makes =
        encrypting_same g.end.phase (record g { request = request_of asked; material = with_asked asked g.material }) (entered_control slot g) g.end
        (begins_encryption f slot (quiet_now g) is).is_quiet

    by : (b : Bool) → b ≡ true
        → with_encryption (wanted_first g) (record g { control = control_held (entered_control slot g) })
        ≡ held_of (record {
          phased = encrypting_if b (request_of asked) t;
          material = with_asked_if b asked g.material;
          end = end_changed (if b then first_change g.end.phase else Stays) (with_asked_if b asked g.material) g.end;
        })
    by true e =
        ap (λ (ask : Option Ask). with_encryption ask (record g { control = control_held (entered_control slot g) })) first ∙ makes
    by false e = false_true e

pub enters_encrypting : (slot : ℕ) (h : HeldKeyed) → Enters_now slot h
enters_encrypting slot = on_ends (Enters_now slot) (enters_goes slot) (λ h. λ code. λ is. absurd (cc))
