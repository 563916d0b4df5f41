-- Where no control PDU waits, none goes next.
use Rattle.std.proofs.Common.{◌≡◌, ℕ, Bool, true, false, ◌&&◌, List, [], ◌∷◌, Option, Some, None, is_some, ap, refl, arith, if◌then◌else◌}
use Rattle.ble_base.specs.declared.error_codes.ErrCode.{ErrCode}
use Rattle.procedures.specs.procedure_values.declared.drafts.Draft.{Draft}
use Rattle.procedures.specs.procedure_values.declared.drafts.Outgoing.{Outgoing}
use Rattle.procedures.specs.procedure_values.declared.drafts.Outgoing.TheVariants.{Nothing}
use Rattle.procedures.specs.procedure_values.declared.drafts.Rejection.{Rejection}
use Rattle.procedures.specs.procedure_values.Drafts.{ctrl_of_outgoing}
use Rattle.procedures.specs.procedure_stages.declared.stages.Progress.{Progress}
use Rattle.procedures.specs.procedure_stages.Closing.{is_disconnecting}
use Rattle.procedures.specs.procedure_stages.Queue.{next_in, waiting_in}
use Rattle.control_end.specs.Answers.{goes_on, next_ctrl}
use Rattle.link_model.specs.phased_end.Answers.{quiet_now}
use Rattle.link_model.specs.phased_end.Held.{HeldKeyed}

nothing_next : (rejections : List Rejection) (disconnect : Option ErrCode) (drafts : List Draft) (ends : Bool) (progress : Progress) (event : ℕ)
    → waiting_in (record { rejections = rejections; disconnect = disconnect; drafts = drafts }) ≡ 0
    → next_in ends progress event (record { rejections = rejections; disconnect = disconnect; drafts = drafts }) ≡ Nothing
nothing_next [] None [] true progress event none = refl
nothing_next [] None [] false progress event none = refl
nothing_next [] None (draft ∷ drafts) ends progress event none = absurd (omega (arith, none))
nothing_next [] (Some code) drafts ends progress event none = absurd (omega (arith, none))
nothing_next (rejection ∷ rejections) disconnect drafts ends progress event none = absurd (omega (arith, none))

none_sent : (goes : Bool) (next : Outgoing) (event skips : ℕ) → next ≡ Nothing
    → is_some (if goes then ctrl_of_outgoing next event skips else None) ≡ false
none_sent true next event skips is = ap (λ next. is_some (ctrl_of_outgoing next event skips)) is
none_sent false next event skips is = refl

pub none_next : (h : HeldKeyed) → waiting_in h.control.table.queue ≡ 0 → is_some (next_ctrl (quiet_now h) h.control) ≡ false
none_next h none =
    let table = h.control.table in
    none_sent (goes_on h.control) _ _ h.control.track.params.latency
    (nothing_next table.queue.rejections table.queue.disconnect table.queue.drafts (is_disconnecting table.closing && quiet_now h) table.progress _ none)
