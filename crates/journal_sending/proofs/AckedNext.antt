-- An acknowledgement leaves the control PDU that is next at a peripheral as it is.
use Rattle.std.proofs.Common.{◌≡◌, ℕ, ◌-◌, ◌&&◌, not, Bool, true, false, List, [], ◌∷◌, Option, Some, None, is_some, refl, sym, ap, subst, ◌∙◌, if◌then◌else◌}
use Rattle.std.specs.Prelude.{is_none}
use Rattle.ble_base.specs.declared.roles.Role.{Role}
use Rattle.ble_base.specs.declared.roles.Role.TheVariants.{Central as central_role, Peripheral as peripheral_role}
use Rattle.journal_fixing.specs.journal_controls.KeyedLines.{has_next}
use Rattle.journal_fixing.specs.link_model.Controls.{goes_on}
use Rattle.journal_fixing.specs.link_model.Facts.{Facts, keyed_of}
use Rattle.journal_fixing.specs.link_model.KeyedSteps.{keyed_steps_of}
use Rattle.journal_fixing.specs.link_model.Receiving.{keyed_acked_if}
use Rattle.journal_fixing.specs.link_model.Setup.{Setup, first_anchor, first_params}
use Rattle.journal_fixing.specs.link_model.control_end.Answers.{next_ctrl}
use Rattle.journal_fixing.specs.link_model.control_end.Held.{held_of}
use Rattle.journal_fixing.specs.link_model.control_model.Control.{Control, SeesAcknowledged, moved, table_if}
use Rattle.journal_fixing.specs.link_model.keyed_control.Keyed.{Keyed}
use Rattle.journal_fixing.specs.link_model.keyed_control.KeyedSteps.{SeesAcknowledged as sees_acknowledged, keyed_moved, phased_steps}
use Rattle.journal_fixing.specs.link_model.phased_control.Phased.{Phased, asking_if, asks_again, first_phased, is_quiet_now, with_step}
use Rattle.journal_fixing.specs.link_model.phased_control.Taken.{PhasedStep, phased_after, phased_after_all}
use Rattle.journal_leaving.proofs.link_model.KeyedPasts.{past_goes}
use Rattle.journal_leaving.proofs.link_model.KnownEnds.{IsPast}
use Rattle.journal_leaving.proofs.link_model.phased_end.keyed_control.Phases.{moves}
use Rattle.journal_leaving.proofs.link_model.phased_end.keyed_control.phased_control.Agreeing.{Sound, asks_at_central, sound_after, sound_first}
use Rattle.journal_fixing.specs.link_model.procedures.Queue.{next_of}
use Rattle.journal_fixing.specs.link_model.procedures.Sending.{acked_step}
use Rattle.journal_fixing.specs.link_model.procedures.Table.{TableFacts}
use Rattle.journal_fixing.specs.link_model.procedure_stages.Acked.{central_acked, progress_acked}
use Rattle.journal_fixing.specs.link_model.procedure_stages.Closing.{is_disconnecting}
use Rattle.journal_fixing.specs.link_model.procedure_stages.Exclusive.{pdu_of_outgoing}
use Rattle.journal_fixing.specs.link_model.procedure_stages.Queue.{is_past_instant, next_by, next_disconnect, next_draft}
use Rattle.journal_fixing.specs.link_model.procedure_stages.declared.stages.Progress.{Progress}
use Rattle.journal_fixing.specs.link_model.procedure_stages.declared.stages.Progress.TheVariants.{Central, Peripheral}
use Rattle.journal_fixing.specs.link_model.procedure_stages.declared.stages.Central.{Central as CentralStages}
use Rattle.journal_fixing.specs.link_model.procedure_values.Drafts.{ctrl_of_outgoing, is_out, waits_for_instant}
use Rattle.journal_fixing.specs.link_model.procedure_values.declared.drafts.Draft.{Draft}
use Rattle.journal_fixing.specs.link_model.procedure_values.declared.drafts.Outgoing.{Outgoing}
use Rattle.journal_fixing.specs.link_model.procedure_values.declared.drafts.Outgoing.TheVariants.{Nothing, Other}
use Rattle.exclusive_stages.specs.declared.pdus.Pdu.{Pdu}

central_instant : (pdu : Option Pdu) (c : CentralStages) (event : ℕ) → is_past_instant (Central (central_acked pdu c)) event ≡ is_past_instant (Central c) event
central_instant None c event = refl
central_instant (Some pdu) c event = refl

instant_acked : (out : Outgoing) (progress : Progress) (event : ℕ) → is_past_instant (progress_acked out progress) event ≡ is_past_instant progress event
instant_acked out (Central c) event = central_instant (pdu_of_outgoing out) c event
instant_acked out (Peripheral p) event = refl

draft_acked : (out : Outgoing) (progress : Progress) (event : ℕ) (drafts : List Draft) → next_draft (progress_acked out progress) event drafts ≡ next_draft progress event drafts
draft_acked out progress event [] = refl
draft_acked out progress event (draft ∷ drafts) =
    ap (λ past. if waits_for_instant draft && not past then Nothing else Other draft) (instant_acked out progress event)

next_acked : (f : TableFacts) (event : ℕ) (quiet : Bool) → next_of (acked_step f).0 event quiet ≡ next_of f event quiet
next_acked f event quiet =
    ap (λ other. next_by f.queue.rejections (if is_disconnecting f.closing && quiet then next_disconnect f.queue.disconnect else other))
    (draft_acked f.out f.progress event f.queue.drafts)

-- a control PDU waits that may go, in a quiet phase or in another one
abbrev waits : Bool → Control → Bool
waits quiet c = is_some (next_ctrl quiet (held_of c))

acked_by : (quiet out : Bool) (c : Control) → waits quiet (table_if out (acked_step c.table).0 c) ≡ waits quiet c
acked_by quiet true c =
    let event = c.track.entered - 1 in
    ap (λ next. is_some (if is_none c.ends then ctrl_of_outgoing next event c.track.params.latency else None)) (next_acked c.table event quiet)
acked_by quiet false c = refl

seen_by : (quiet goes : Bool) (c : Control) → waits quiet (if goes then moved SeesAcknowledged c else c) ≡ waits quiet c
seen_by quiet true c = acked_by quiet (is_out c.table.out) c
seen_by quiet false c = refl

-- an end that does not ask for encryption again stays in its phase
abbrev next_in : Phased → Bool
next_in s = waits (is_quiet_now s) s.control

pub next_stays : (acked : Bool) (k : Keyed) → (is_none k.phased.control.ends ≡ true → asks_again k.phased ≡ false) → has_next (keyed_acked_if acked k) ≡ has_next k
next_stays false k never = refl
next_stays true k never = by (is_none k.phased.control.ends) refl
  where
    by : (goes : Bool) → is_none k.phased.control.ends ≡ goes → has_next (if goes then keyed_moved sees_acknowledged k else k) ≡ has_next k
    by false is = refl
    by true is =
        let s = k.phased in
        ap (λ asks. next_in (asking_if asks (with_step SeesAcknowledged s))) (never is) ∙ seen_by (is_quiet_now s) (is_none s.control.ends) s.control

-- ---- a peripheral never does

sound_all : (role : Role) (steps : List PhasedStep) (s : Phased) → Sound role s → Sound role (phased_after_all steps s)
sound_all role [] s sound = sound
sound_all role (step ∷ steps) s sound = sound_all role steps (phased_after step s) (sound_after role step s sound)

asks_none : (s : Phased) → Sound peripheral_role s → asks_again s ≡ false
asks_none s sound = by (asks_again s) refl
  where
    by : (asks : Bool) → asks_again s ≡ asks → asks ≡ false
    by false is = refl
    by true is = absurd (let h : peripheral_role ≡ central_role = asks_at_central peripheral_role s is sound.requests in absurd cc)

pub never_again : (setup : Setup) (facts : Facts) → IsPast setup facts → setup.link.role ≡ peripheral_role → goes_on facts ≡ true → asks_again (keyed_of facts).phased ≡ false
never_again setup facts p role goes =
    let own = setup.link.role in
    let params = first_params setup.link.fields in
    let made = keyed_steps_of setup p.past in
    let first = first_phased own setup.link.max_rx params (first_anchor setup) in
    let phased : (keyed_of facts).phased ≡ phased_after_all (phased_steps made) first =
    ap (λ (f : Facts). (keyed_of f).phased) p.is
    ∙ ap (λ (k : Keyed). k.phased) (past_goes setup p.past (sym (ap (λ (f : Facts). goes_on f) p.is) ∙ goes)) ∙ moves own setup.link.max_rx params (first_anchor setup) made in
    asks_none (keyed_of facts).phased
    (subst (λ one. Sound one (keyed_of facts).phased) role
    (subst (Sound own) (sym phased) (sound_all own (phased_steps made) first (sound_first own setup.link.max_rx params (first_anchor setup)))))
