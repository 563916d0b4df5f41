-- Whether LL_PAUSE_ENC_RSP was sent last and is not acknowledged, after each step of the control part.
use Rattle.std.proofs.Common.{◌≡◌, ℕ, Bool, true, false, ◌&&◌, if◌then◌else◌, Option, Some, None, Ok, Err, Result, is_none, is_some, refl, sym, ap, subst, ◌∙◌}
use Rattle.ble_base.specs.declared.error_codes.ErrCode.{ErrCode}
use Rattle.data_pdu.specs.declared.ctrl.Ctrl.{Ctrl}
use Rattle.data_pdu.specs.declared.ctrl.Ctrl.TheVariants.{PauseEncRsp}
use Rattle.instants.specs.declared.indications.Indication.{Indication}
use Rattle.instants.specs.Track.{event_of, next_number}
use Rattle.procedures.specs.procedure_values.declared.asks.Ask.{Ask}
use Rattle.procedures.specs.procedure_values.declared.asks.Ask.TheVariants.{Update as ask_update}
use Rattle.procedures.specs.procedure_values.declared.drafts.Draft.{Draft}
use Rattle.procedures.specs.procedure_values.declared.drafts.Draft.TheVariants.{Cipher}
use Rattle.procedures.specs.procedure_values.declared.drafts.Outgoing.{Outgoing}
use Rattle.procedures.specs.procedure_values.declared.drafts.Outgoing.TheVariants.{Disconnect, Nothing, Other, Rejection}
use Rattle.procedures.specs.procedure_values.Drafts.{ctrl_of_draft, ctrl_of_outgoing, is_out}
use Rattle.procedures.specs.procedure_stages.Closing.{is_open}
use Rattle.procedures.specs.procedure_stages.InProgress.{is_host_asked}
use Rattle.procedures.specs.procedure_stages.declared.steps.Step.{Step as TableStep}
use Rattle.procedures.specs.procedure_stages.Kinds.{role_of}
use Rattle.procedures.specs.declared.outcome.Outcome.{Outcome}
use Rattle.procedures.specs.Beginning.{ask_at, begin_at, place_to_begin}
use Rattle.procedures.specs.Going.{entered_step, host_answer_step, is_answer, terminate_step}
use Rattle.procedures.specs.Queue.{next_of}
use Rattle.procedures.specs.Sending.{acked_step}
use Rattle.procedures.specs.Table.{TableFacts}
use Rattle.procedures.specs.Taking.{facts_with, lacks_room, no_room, outcome_of, settled, took_step}
use Rattle.control_end.specs.control_model.Control.{Control, Step, Answers, Asks, Disconnects, Enters, Owes, SeesAcknowledged, Sends, Takes, following, goes_out, indicated_by, is_to_come, moved, table_if, taken, went}
use Rattle.control_end.specs.Answers.{next_ctrl}
use Rattle.control_end.specs.Held.{Held, control_of, held_after}
use Rattle.phased_control.specs.Phased.{is_pause_rsp}
use Rattle.control_part.specs.Ending.{is_pause_ctrl, with_end}
use Rattle.phased_control.proofs.Tables.{following_table}

-- ---- a step that sends nothing, and acknowledges nothing

abbrev pub is_silent : Step → Bool
is_silent (Sends slot quiet) = false
is_silent SeesAcknowledged = false
is_silent step = true

out_if : (b : Bool) (f : TableFacts) (c : Control) → f.out ≡ c.table.out → (table_if b f c).table.out ≡ c.table.out
out_if true f c is = is
out_if false f c is = refl

out_begun : (f : TableFacts) (slot : ℕ) (place : Option ℕ) (ask : Option Ask) → (begin_at f slot place ask).0.out ≡ f.out
out_begun f slot None None = refl
out_begun f slot None (Some ask) = refl
out_begun f slot (Some place) None = refl
out_begun f slot (Some place) (Some ask) = refl

out_entered : (f : TableFacts) (b : Bool) → (entered_step f b).0.out ≡ f.out
out_entered f true = refl
out_entered f false = refl

out_answered : (f : TableFacts) (answer : Result Ask ErrCode) → (host_answer_step f answer).out ≡ f.out
out_answered f (Ok (ask_update interval latency timeout)) = refl
out_answered f (Ok ask) = refl
out_answered f (Err code) = refl

out_settled : (f : TableFacts) (slot : ℕ) (o : Outcome) → (settled f slot o).0.out ≡ f.out
out_settled f slot o = by (lacks_room f o) (is_some o.step.ends)
  where
    of : Bool → Bool → TableFacts × TableStep
    of a b = (if a then (f, no_room) else (if b then (f, o.step) else (facts_with f slot o, o.step)))

    by : (a b : Bool) → (of a b).0.out ≡ f.out
    by true b = refl
    by false true = refl
    by false false = refl

out_taken : (f : TableFacts) (ends : Option ErrCode) (indication : Option Indication) (c : Control) → f.out ≡ c.table.out → (taken f ends indication c).table.out ≡ c.table.out
out_taken f (Some code) indication c is = refl
out_taken f None None c is = is
out_taken f None (Some indication) c is = out_either (is_to_come c.track indication) _ _ is refl
  where
    out_either : (b : Bool) (d e : Control) → d.table.out ≡ c.table.out → e.table.out ≡ c.table.out → (if b then d else e).table.out ≡ c.table.out
    out_either true d e is1 is2 = is1
    out_either false d e is1 is2 = is2

out_moved : (step : Step) (c : Control) → is_silent step ≡ true → (moved step c).table.out ≡ c.table.out
out_moved (Enters slot quiet) c is =
    let f = (entered_step c.table (is_some (next_number c.track))).0 in
    out_begun f slot (place_to_begin f quiet) (ask_at (place_to_begin f quiet) f.wanted) ∙ out_entered c.table (is_some (next_number c.track))
out_moved (Asks ask) c is = refl
out_moved (Answers answer) c is =
    out_if (is_host_asked c.table.progress && is_answer answer) (host_answer_step c.table answer) c (out_answered c.table answer)
out_moved (Disconnects reason) c is = out_if (is_open c.table.closing) (terminate_step c.table reason) c refl
out_moved (Sends slot quiet) c is = absurd (cc)
out_moved SeesAcknowledged c is = absurd (cc)
out_moved (Takes read slot quiet) c is =
    let r = took_step c.table read slot quiet in
    out_taken r.0 r.1.ends (indicated_by r.1.effect) c (out_settled c.table slot (outcome_of c.table quiet read))
out_moved (Owes ctrl) c is = refl

pub same_out : (step : Step) (h : Held) → is_silent step ≡ true → (held_after step h).table.out ≡ h.table.out
same_out step h is = by (is_none h.ends)
  where
    by : (b : Bool) → (if b then moved step (control_of h) else control_of h).table.out ≡ h.table.out
    by true = out_moved step (control_of h) is
    by false = refl

pub pauses_on : (step : Step) (h : Held) (pauses : Bool) → is_silent step ≡ true → is_pause_rsp h.table.out ≡ pauses
    → is_pause_rsp (held_after step h).table.out ≡ pauses
pauses_on step h pauses silent is = ap is_pause_rsp (same_out step h silent) ∙ is

-- ---- a PDU is sent

abbrev is_pause : Option Ctrl → Bool
is_pause (Some ctrl) = is_pause_ctrl ctrl
is_pause None = false

pause_draft : (draft : Draft) (event skips : ℕ) → is_pause_rsp (Other draft) ≡ is_pause_ctrl (ctrl_of_draft draft event skips)
pause_draft (Cipher PauseEncRsp) event skips = refl
pause_draft (Cipher ctrl) event skips = refl
pause_draft draft event skips = refl

pause_out : (o : Outgoing) (event skips : ℕ) → is_pause_rsp o ≡ is_pause (ctrl_of_outgoing o event skips)
pause_out Nothing event skips = refl
pause_out (Rejection rejection) event skips = refl
pause_out (Disconnect code) event skips = refl
pause_out (Other draft) event skips = pause_draft draft event skips

-- the last PDU is the one that goes, and that before where none goes
sent_pauses : (slot : ℕ) (quiet : Bool) (h : Held) → is_some (next_ctrl quiet h) ≡ true
    → is_pause_rsp (held_after (Sends slot quiet) h).table.out ≡ is_pause (next_ctrl quiet h)
sent_pauses slot quiet h = by h.ends refl
  where
    by : (ends : Option ErrCode) → h.ends ≡ ends → is_some (next_ctrl quiet h) ≡ true → is_pause_rsp (held_after (Sends slot quiet) h).table.out ≡ is_pause (next_ctrl quiet h)
    by (Some code) over =
        subst
        (λ (b : Bool). is_some (if b then ctrl_of_outgoing (next_of h.table (event_of h.track) quiet) (event_of h.track) h.track.params.latency else None) ≡ true
        → is_pause_rsp (if b then moved (Sends slot quiet) (control_of h) else control_of h).table.out
        ≡ is_pause (if b then ctrl_of_outgoing (next_of h.table (event_of h.track) quiet) (event_of h.track) h.track.params.latency else None))
        (sym (ap (λ (ends : Option ErrCode). is_none ends) over)) (λ goes. absurd (cc))
    by None lasts =
        subst
        (λ (b : Bool). is_some (if b then ctrl_of_outgoing (next_of h.table (event_of h.track) quiet) (event_of h.track) h.track.params.latency else None) ≡ true
        → is_pause_rsp (if b then moved (Sends slot quiet) (control_of h) else control_of h).table.out
        ≡ is_pause (if b then ctrl_of_outgoing (next_of h.table (event_of h.track) quiet) (event_of h.track) h.track.params.latency else None))
        (sym (ap (λ (ends : Option ErrCode). is_none ends) lasts)) goes_now
      where
        goes_now : goes_out quiet (control_of h) ≡ true
            → is_pause_rsp (moved (Sends slot quiet) (control_of h)).table.out ≡ is_pause (ctrl_of_outgoing (next_of h.table (event_of h.track) quiet) (event_of h.track) h.track.params.latency)
        goes_now goes =
            let c = control_of h in
            let d : Control = record c { table = (went slot quiet c).0 } in
            subst (λ (b : Bool). is_pause_rsp (if b then following (role_of c.table.progress) (went slot quiet c).1 d else c).table.out
            ≡ is_pause (ctrl_of_outgoing (next_of h.table (event_of h.track) quiet) (event_of h.track) h.track.params.latency)) (sym goes)
            (ap (λ (f : TableFacts). is_pause_rsp f.out) (following_table (role_of c.table.progress) (went slot quiet c).1 d)
            ∙ pause_out (next_of h.table (event_of h.track) quiet) (event_of h.track) h.track.params.latency)

-- as the end knows which PDU goes, where its phase did not end the link
pub pauses_sent : (slot : ℕ) (quiet : Bool) (ended : Option ErrCode) (h : Held) (ctrl : Ctrl) → next_ctrl quiet (with_end ended h) ≡ Some ctrl
    → is_pause_rsp (held_after (Sends slot quiet) h).table.out ≡ is_pause_ctrl ctrl
pauses_sent slot quiet None h ctrl is =
    sent_pauses slot quiet h (ap (λ (o : Option Ctrl). is_some o) is) ∙ ap is_pause is
pauses_sent slot quiet (Some code) h ctrl is = absurd (cc)

-- ---- it is acknowledged

nothing_paused : (o : Outgoing) → is_out o ≡ false → is_pause_rsp o ≡ false
nothing_paused Nothing is = refl
nothing_paused (Rejection rejection) is = absurd (cc)
nothing_paused (Disconnect code) is = absurd (cc)
nothing_paused (Other draft) is = absurd (cc)

pub acked_pauses : (h : Held) → is_none h.ends ≡ true → is_pause_rsp (held_after SeesAcknowledged h).table.out ≡ false
acked_pauses h lasts =
    subst (λ (b : Bool). is_pause_rsp (if b then moved SeesAcknowledged (control_of h) else control_of h).table.out ≡ false) (sym lasts)
    (by (is_out h.table.out) refl)
  where
    by : (b : Bool) → is_out h.table.out ≡ b → is_pause_rsp (table_if b (acked_step h.table).0 (control_of h)).table.out ≡ false
    by true is = refl
    by false is = nothing_paused h.table.out is
