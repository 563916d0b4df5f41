-- What each call on a table leaves of what both parts of an end know, and in which two ways a PDU is taken.
use Rattle.std.proofs.Common.{◌≡◌, ℕ, Bool, true, false, if◌then◌else◌, Option, Some, None, is_some, is_none, Result, Ok, Err, refl, sym, ap, subst}
use Rattle.ble_base.specs.declared.error_codes.ErrCode.{ErrCode}
use Rattle.data_pdu.specs.declared.ctrl.Ctrl.{Ctrl}
use Rattle.data_pdu.specs.declared.ctrl.CtrlRead.{CtrlRead}
use Rattle.procedures.specs.procedure_values.declared.asks.Ask.{Ask}
use Rattle.procedures.specs.procedure_values.declared.asks.Ask.TheVariants.{Update as ask_update}
use Rattle.procedures.specs.procedure_values.declared.drafts.Outgoing.{Outgoing}
use Rattle.procedures.specs.procedure_values.declared.drafts.Outgoing.TheVariants.{Other}
use Rattle.exclusive_stages.specs.declared.stages.PeerAtCentral.{PeerAtCentral}
use Rattle.procedures.specs.procedure_stages.declared.stages.Progress.{Progress}
use Rattle.procedures.specs.procedure_stages.declared.stages.Progress.TheVariants.{Central as central, Peripheral as peripheral}
use Rattle.procedures.specs.procedure_stages.declared.steps.Step.{Step}
use Rattle.procedures.specs.procedure_stages.Acked.{central_acked, peripheral_acked, progress_acked}
use Rattle.procedures.specs.procedure_stages.Begun.{progress_begun}
use Rattle.procedures.specs.procedure_stages.Held.{progress_held}
use Rattle.procedures.specs.procedure_stages.InProgress.{peer_becomes}
use Rattle.procedures.specs.procedure_stages.Kinds.{role_of}
use Rattle.procedures.specs.procedure_stages.Sent.{progress_after_sending}
use Rattle.procedures.specs.procedure_stages.Exclusive.{pdu_of_outgoing}
use Rattle.exclusive_stages.specs.declared.pdus.Pdu.{Pdu}
use Rattle.procedures.specs.Beginning.{begin_at, begin_step, place_to_begin, ask_at}
use Rattle.procedures.specs.Encryption.{is_rejection, progress_given}
use Rattle.procedures.specs.Going.{host_answer_step}
use Rattle.procedures.specs.Table.{TableFacts}
use Rattle.procedures.specs.Taking.{facts_with, lacks_room, no_room, outcome_of}
use Rattle.control_model.specs.Control.{Control, Step as ControlStep, after, ended, indicated_by, moved, taken, took}
use Rattle.control_model.specs.Waits.{kind_awaited, last_instant_of}
use Rattle.control_model.proofs.Outcomes.{Same}

begun : (ask : Ask) (used : Bool) (p : Progress) → Same p (progress_begun ask used p)
begun ask used (central c) = record { role = refl; last = refl; awaited = refl }
begun ask used (peripheral p) = record { role = refl; last = refl; awaited = refl }

pub unmoved : (p : Progress) → Same p p
unmoved p = record { role = refl; last = refl; awaited = refl }

begun_at : (f : TableFacts) (slot : ℕ) (place : Option ℕ) (ask : Option Ask) → Same f.progress (begin_at f slot place ask).0.progress
begun_at f slot None ask = unmoved f.progress
begun_at f slot (Some place) None = unmoved f.progress
begun_at f slot (Some place) (Some ask) = begun ask f.version_used f.progress

pub begun_same : (f : TableFacts) (slot : ℕ) (quiet : Bool) → Same f.progress (begin_step f slot quiet).0.progress
begun_same f slot quiet = begun_at f slot (place_to_begin f quiet) (ask_at (place_to_begin f quiet) f.wanted)

peer_same : (peer : PeerAtCentral) (p : Progress) → Same p (peer_becomes peer p)
peer_same peer (central c) = record { role = refl; last = refl; awaited = refl }
peer_same peer (peripheral p) = record { role = refl; last = refl; awaited = refl }

pub answered_same : (f : TableFacts) (answer : Result Ask ErrCode) → Same f.progress (host_answer_step f answer).progress
answered_same f (Ok (ask_update interval latency timeout)) = peer_same _ f.progress
answered_same f (Ok other) = unmoved f.progress
answered_same f (Err code) = peer_same _ f.progress

pub acked_same : (out : Outgoing) (p : Progress) → Same p (progress_acked out p)
acked_same out (central c) = by (pdu_of_outgoing out)
  where
    by : (pdu : Option Pdu) → Same (central c) (central (central_acked pdu c))
    by None = record { role = refl; last = refl; awaited = refl }
    by (Some pdu) = record { role = refl; last = refl; awaited = refl }
acked_same out (peripheral p) = by (pdu_of_outgoing out)
  where
    by : (pdu : Option Pdu) → Same (peripheral p) (peripheral (peripheral_acked pdu p))
    by None = record { role = refl; last = refl; awaited = refl }
    by (Some pdu) = record { role = refl; last = refl; awaited = refl }

pub given_same : (p : Progress) (ctrl : Ctrl) → Same p (progress_given p ctrl)
given_same (central c) ctrl = unmoved (central c)
given_same (peripheral p) ctrl = by (is_rejection ctrl)
  where
    by : (b : Bool) → Same (peripheral p) (if b then peripheral (record p { encrypting = false }) else peripheral p)
    by true = record { role = refl; last = refl; awaited = refl }
    by false = record { role = refl; last = refl; awaited = refl }

-- where an indication holds from an event on, none is awaited any more
pub record Over (p q : Progress) : Type 0 where
  pub role : role_of q ≡ role_of p
  pub last : last_instant_of q ≡ last_instant_of p
  pub awaited : kind_awaited q ≡ None

pub held_over : (p : Progress) → Over p (progress_held p)
held_over (central c) = record { role = refl; last = refl; awaited = refl }
held_over (peripheral p) = record { role = refl; last = refl; awaited = refl }

-- what is sent changes neither the role nor what a peripheral awaits
pub record SentFrom (p q : Progress) : Type 0 where
  pub role : role_of q ≡ role_of p
  pub awaited : kind_awaited q ≡ kind_awaited p

pub sent_from : (outgoing : Outgoing) (event skips : ℕ) (p : Progress) → SentFrom p (progress_after_sending outgoing event skips p)
sent_from (Other draft) event skips (central c) = record { role = refl; awaited = refl }
sent_from (Other draft) event skips (peripheral p) = record { role = refl; awaited = refl }
sent_from other event skips p = record { role = refl; awaited = refl }

-- ---- a step of a link that has not ended, and one of any link

pub open_step : (P : Control → Type 0) (step : ControlStep) (c : Control) → c.ends ≡ None → P (moved step c) → P (after step c)
open_step P step c lasts h =
    subst (λ (b : Bool). P (if b then moved step c else c)) (sym (ap (λ (ends : Option ErrCode). is_none ends) lasts)) h

pub either_way : (P : Control → Type 0) (b : Bool) (c d : Control) → P c → P d → P (if b then c else d)
either_way P true c d hc hd = hc
either_way P false c d hc hd = hd

pub any_step : (P : Control → Type 0) (step : ControlStep) (c : Control) → P (moved step c) → P c → P (after step c)
any_step P step c next now = either_way P (is_none c.ends) (moved step c) c next now

-- ---- a PDU ends the link, or does what its outcome says

abbrev pub taken_by_step : TableFacts × Step → Control → Control
taken_by_step r c = taken r.0 r.1.ends (indicated_by r.1.effect) c

abbrev pub settled_as : Bool → Option ErrCode → TableFacts → TableFacts → Step → TableFacts × Step
settled_as full ends f g step = if full then (f, no_room) else (if is_some ends then (f, step) else (g, step))

module _ (P : Control → Type 0) (c : Control) (ends : (code : ErrCode) → P (ended code c)) where
  by_ends : (full : Bool) (code : Option ErrCode) (g : TableFacts) (step : Step) → step.ends ≡ code
      → P (taken g None (indicated_by step.effect) c) → P (taken_by_step (settled_as full code c.table g step) c)
  by_ends true code g step is goes = ends _
  by_ends false (Some code) g step is goes = rw is (ends code)
  by_ends false None g step is goes = rw is goes

  pub took_by : (read : CtrlRead) (slot : ℕ) (quiet : Bool)
      → P (taken (facts_with c.table slot (outcome_of c.table quiet read)) None (indicated_by (outcome_of c.table quiet read).step.effect) c)
      → P (took read slot quiet c)
  took_by read slot quiet goes =
      by_ends (lacks_room c.table (outcome_of c.table quiet read)) (outcome_of c.table quiet read).step.ends
      (facts_with c.table slot (outcome_of c.table quiet read)) (outcome_of c.table quiet read).step refl goes
