-- What an end that encrypts nothing sends is no PDU of an encryption.
use Rattle.std.proofs.Common.{◌≡◌, ℕ, Bool, true, false, not, ◌&&◌, List, [], ◌∷◌, Option, Some, None, if◌then◌else◌, refl, subst}
use Rattle.std.specs.List.{All}
use Rattle.std.proofs.lemmas.List.Elements.{All-head, All-tail}
use Rattle.ble_base.specs.declared.error_codes.ErrCode.{ErrCode}
use Rattle.data_pdu.specs.declared.ctrl.Ctrl.{Ctrl}
use Rattle.phased_control.specs.procedure_values.declared.drafts.Draft.{Draft}
use Rattle.phased_control.specs.procedure_values.declared.drafts.Draft.TheVariants.{Cipher}
use Rattle.phased_control.specs.procedure_values.declared.drafts.Outgoing.{Outgoing}
use Rattle.phased_control.specs.procedure_values.declared.drafts.Outgoing.TheVariants.{Nothing, Other, Rejection, Disconnect}
use Rattle.phased_control.specs.procedure_values.declared.drafts.Rejection.{Rejection as TheRejection}
use Rattle.phased_control.specs.procedure_values.Drafts.{ctrl_of_draft, ctrl_of_outgoing, waits_for_instant}
use Rattle.phased_control.specs.procedure_stages.declared.stages.Progress.{Progress}
use Rattle.phased_control.specs.procedure_stages.Closing.{is_disconnecting}
use Rattle.phased_control.specs.procedure_stages.Queue.{is_past_instant, next_after_rejections, next_by, next_disconnect, next_draft, without_next, QueueFacts}
use Rattle.phased_control.specs.procedures.Queue.{next_of, next_other}
use Rattle.phased_control.specs.procedures.Sending.{next_ctrl_of}
use Rattle.phased_control.specs.procedures.Table.{TableFacts}
use Rattle.phased_control.specs.control_model.Supported.{begins_encryption}
use Rattle.unencrypted_ends.specs.Unencrypted.{is_cipher, is_cipher_out}

abbrev pub IsPlain : Draft → Type 0
IsPlain draft = is_cipher draft ≡ false

-- ---- what is sent next of a queue is plain, and so is what waits then

pub record Goes (queue : QueueFacts) (outgoing : Outgoing) : Type 0 where
  pub plain : is_cipher_out outgoing ≡ false
  pub rest : All IsPlain (without_next outgoing queue).drafts

module _ (queue : QueueFacts) (all : All IsPlain queue.drafts) where
  draft_goes : (draft : Draft) (drafts : List Draft) (b : Bool) → queue.drafts ≡ draft ∷ drafts → Goes queue (if b then Nothing else Other draft)
  draft_goes draft drafts true is = record { plain = refl; rest = all }
  draft_goes draft drafts false is =
      let here = subst (All IsPlain) is all in
      record { plain = All-head IsPlain draft drafts here; rest = rw is (All-tail IsPlain draft drafts here) }

  drafts_go : (progress : Progress) (event : ℕ) (drafts : List Draft) → queue.drafts ≡ drafts → Goes queue (next_draft progress event drafts)
  drafts_go progress event [] is = record { plain = refl; rest = all }
  drafts_go progress event (draft ∷ drafts) is = draft_goes draft drafts (waits_for_instant draft && not (is_past_instant progress event)) is

  disconnect_goes : (disconnect : Option ErrCode) → Goes queue (next_disconnect disconnect)
  disconnect_goes None = record { plain = refl; rest = all }
  disconnect_goes (Some code) = record { plain = refl; rest = all }

  other_goes : (ends : Bool) (progress : Progress) (event : ℕ) → Goes queue (next_after_rejections ends progress event queue)
  other_goes true progress event = disconnect_goes queue.disconnect
  other_goes false progress event = drafts_go progress event queue.drafts refl

  goes_by : (rejections : List TheRejection) (other : Outgoing) → Goes queue other → Goes queue (next_by rejections other)
  goes_by [] other goes = goes
  goes_by (rejection ∷ rejections) other goes = record { plain = refl; rest = all }

pub next_goes : (f : TableFacts) (event : ℕ) (quiet : Bool) → All IsPlain f.queue.drafts → Goes f.queue (next_of f event quiet)
next_goes f event quiet all =
    goes_by f.queue all f.queue.rejections (next_other f event quiet) (other_goes f.queue all (is_disconnecting f.closing && quiet) f.progress event)

-- ---- its PDU begins no encryption

draft_begins : (draft : Draft) (event latency : ℕ) → is_cipher draft ≡ false → begins_encryption (ctrl_of_draft draft event latency) ≡ false
draft_begins (Cipher ctrl) event latency is = absurd (cc)
draft_begins draft event latency is = refl

begins_same : (pdu ctrl : Ctrl) → ◌≡◌ {A = Option Ctrl} (Some pdu) (Some ctrl) → begins_encryption pdu ≡ false → begins_encryption ctrl ≡ false
begins_same pdu ctrl is none = let same : pdu ≡ ctrl = cc in subst (λ (c : Ctrl). begins_encryption c ≡ false) same none

outgoing_begins : (outgoing : Outgoing) (event latency : ℕ) (ctrl : Ctrl) → is_cipher_out outgoing ≡ false → ctrl_of_outgoing outgoing event latency ≡ Some ctrl
    → begins_encryption ctrl ≡ false
outgoing_begins Nothing event latency ctrl plain is = absurd (cc)
outgoing_begins (Rejection rejection) event latency ctrl plain is = begins_same _ ctrl is refl
outgoing_begins (Disconnect code) event latency ctrl plain is = begins_same _ ctrl is refl
outgoing_begins (Other draft) event latency ctrl plain is = begins_same _ ctrl is (draft_begins draft event latency plain)

pub none_sent : (f : TableFacts) (event latency : ℕ) (quiet : Bool) (ctrl : Ctrl) → All IsPlain f.queue.drafts → next_ctrl_of f event latency quiet ≡ Some ctrl
    → begins_encryption ctrl ≡ false
none_sent f event latency quiet ctrl all is = outgoing_begins (next_of f event quiet) event latency ctrl (next_goes f event quiet all).plain is
