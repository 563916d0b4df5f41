-- Whether the first PDU of the own procedure of a central may wait with seventeen others, by its phase.
use Rattle.std.proofs.Common.{◌≡◌, ℕ, ◌+◌, ◌≤◌, Bool, true, false, Option, Some, None, Result, Ok, Err, unwrap_or, refl, arith}
use Rattle.ble_base.specs.declared.error_codes.ErrCode.{ErrCode}
use Rattle.ble_base.specs.declared.roles.Role.TheVariants.{Central as central_role}
use Rattle.phased_control.specs.enc_phase.Phases.{is_quiet}
use Rattle.phased_control.specs.enc_phase.declared.facts.PhaseFacts.{PhaseFacts}
use Rattle.phased_control.specs.enc_phase.declared.facts.PhaseFacts.TheVariants.{Clear, Asked, HalfKeyed, Secure, Pausing, HalfClear}
use Rattle.exclusive_stages.specs.Held.{own_held_at_central}
use Rattle.exclusive_stages.specs.declared.pdus.Pdu.{Pdu}
use Rattle.exclusive_stages.specs.declared.stages.PeerAtCentral.TheVariants.{Absent}
use Rattle.phased_control.specs.procedure_values.declared.asks.Ask.{Ask}
use Rattle.phased_control.specs.procedure_values.declared.asks.Ask.TheVariants.{Update as ask_update}
use Rattle.phased_control.specs.procedure_values.declared.drafts.Draft.{Draft}
use Rattle.phased_control.specs.procedure_values.declared.drafts.Draft.TheVariants.{VersionInd}
use Rattle.phased_control.specs.procedure_values.declared.drafts.Outgoing.{Outgoing}
use Rattle.phased_control.specs.procedure_values.declared.drafts.Outgoing.TheVariants.{Disconnect, Nothing, Other, Rejection}
use Rattle.phased_control.specs.procedure_stages.declared.stages.Exchange.TheVariants.{FeaturesSent, FeaturesUnsent, LengthSent, LengthUnsent, VersionSent, VersionUnsent}
use Rattle.phased_control.specs.procedure_stages.declared.stages.OwnCentral.{OwnCentral}
use Rattle.phased_control.specs.procedure_stages.declared.stages.OwnCentral.TheVariants.{EncryptUnsent, Exchange as exchange}
use Rattle.phased_control.specs.procedure_stages.declared.stages.Progress.{Progress}
use Rattle.phased_control.specs.procedure_stages.declared.stages.Progress.TheVariants.{Central as central, Peripheral as peripheral}
use Rattle.phased_control.specs.procedure_stages.Acked.{central_acked, progress_acked}
use Rattle.phased_control.specs.procedure_stages.Exclusive.{on_central_stage, pdu_of_outgoing}
use Rattle.phased_control.specs.procedure_stages.Held.{progress_held}
use Rattle.phased_control.specs.procedure_stages.Kinds.{role_of}
use Rattle.phased_control.specs.procedure_stages.Sent.{own_draft_sent_by_central, progress_after_sending}
use Rattle.phased_control.specs.procedures.Going.{host_answer_step}
use Rattle.phased_control.specs.procedures.Table.{TableFacts}
use Rattle.phased_control.proofs.table_laws.Going.{acked_less, held_less}
use Rattle.phased_control.proofs.table_laws.Kept.{one_room}
use Rattle.phased_control.proofs.table_laws.Numbers.{sent, version_sent}
use Rattle.phased_control.proofs.table_laws.Outcomes.{own_room, room_at_central}

-- ---- by the stage and the phase

-- the encryption was begun, and none of its PDUs was sent
abbrev pub unsent_room : OwnCentral → ℕ
unsent_room EncryptUnsent = 1
unsent_room other = 0

abbrev asked_room : Bool → OwnCentral → ℕ
asked_room false own = unsent_room own
asked_room true own = 1

-- in phases HalfKeyed and HalfClear an answer was queued last, while fewer than sixteen waited
abbrev pub room_by : PhaseFacts → OwnCentral → ℕ
room_by Clear own = room_at_central own
room_by Secure own = room_at_central own
room_by (Asked after_pause enc_rsp kept) own = asked_room after_pause own
room_by HalfKeyed own = 0
room_by (Pausing kept) own = 1
room_by (HalfClear kept) own = 0

abbrev pub request_room : PhaseFacts → Progress → ℕ
request_room p (central c) = room_by p c.own
request_room p (peripheral q) = 1

own_most : (own : OwnCentral) → room_at_central own ≤ 1
own_most own = one_room (central (record { own = own; peer = Absent; last_instant = None }))

unsent_most : (own : OwnCentral) → unsent_room own ≤ 1
unsent_most EncryptUnsent = omega arith
unsent_most other = omega arith

room_most : (p : PhaseFacts) (own : OwnCentral) → room_by p own ≤ 1
room_most Clear own = own_most own
room_most Secure own = own_most own
room_most (Asked false enc_rsp kept) own = unsent_most own
room_most (Asked true enc_rsp kept) own = omega arith
room_most p own = omega arith

pub most_room : (p : PhaseFacts) (progress : Progress) → request_room p progress ≤ 1
most_room p (central c) = room_most p c.own
most_room p (peripheral q) = omega arith

-- in Clear and Secure it is that of the table
pub quiet_room : (p : PhaseFacts) (progress : Progress) → is_quiet p ≡ true → role_of progress ≡ central_role
    → request_room p progress ≡ own_room progress
quiet_room Clear (central c) quiet role = refl
quiet_room Secure (central c) quiet role = refl
quiet_room p (central c) quiet role = absurd (cc)
quiet_room p (peripheral q) quiet role = absurd (cc)

-- ---- a stage that goes on leaves the room

pub room_grows : (p : PhaseFacts) (own own' : OwnCentral) → room_at_central own ≤ room_at_central own'
    → unsent_room own ≤ unsent_room own' → room_by p own ≤ room_by p own'
room_grows Clear own own' less unsent = less
room_grows Secure own own' less unsent = less
room_grows (Asked false enc_rsp kept) own own' less unsent = unsent
room_grows (Asked true enc_rsp kept) own own' less unsent = omega arith
room_grows p own own' less unsent = omega arith

pub room_held : (p : PhaseFacts) (progress : Progress)
    → request_room p progress ≤ request_room p (progress_held progress)
room_held p (peripheral q) = omega arith
room_held p (central c) = room_grows p c.own _ (held_less (central c)) (by c.own)
  where
    by : (own : OwnCentral) → unsent_room own ≤ unsent_room (on_central_stage own_held_at_central own)
    by EncryptUnsent = omega arith
    by other = omega arith

pub room_acked : (p : PhaseFacts) (out : Outgoing) (progress : Progress)
    → request_room p progress ≤ request_room p (progress_acked out progress)
room_acked p out (peripheral q) = omega arith
room_acked p out (central c) = room_grows p c.own _ (acked_less out (central c)) (by (pdu_of_outgoing out) c.own)
  where
    by : (pdu : Option Pdu) (own : OwnCentral)
        → unsent_room own ≤ unsent_room (central_acked pdu (record c { own = own })).own
    by None own = omega arith
    by (Some pdu) EncryptUnsent = omega arith
    by (Some pdu) other = omega arith

pub room_answered : (p : PhaseFacts) (f : TableFacts) (answer : Result Ask ErrCode)
    → request_room p f.progress ≤ request_room p (host_answer_step f answer).progress
room_answered p f answer = by f.progress answer
  where
    by : (progress : Progress) (answer : Result Ask ErrCode)
        → request_room p progress ≤ request_room p (host_answer_step (record f { progress = progress }) answer).progress
    by (central c) (Ok (ask_update interval latency timeout)) = omega arith
    by (peripheral q) (Ok (ask_update interval latency timeout)) = omega arith
    by progress (Ok other) = omega arith
    by (central c) (Err code) = omega arith
    by (peripheral q) (Err code) = omega arith

-- ---- a PDU is sent: the room goes, or stays where it is the own LL_VERSION_IND

version_own : (own : OwnCentral)
    → room_at_central own ≤ room_at_central (unwrap_or (own_draft_sent_by_central VersionInd own) own)
version_own (exchange VersionUnsent) = omega arith
version_own (exchange VersionSent) = omega arith
version_own (exchange FeaturesUnsent) = omega arith
version_own (exchange FeaturesSent) = omega arith
version_own (exchange LengthUnsent) = omega arith
version_own (exchange LengthSent) = omega arith
version_own other = omega arith

version_unsent : (own : OwnCentral)
    → unsent_room own ≤ unsent_room (unwrap_or (own_draft_sent_by_central VersionInd own) own)
version_unsent EncryptUnsent = omega arith
version_unsent other = omega arith

draft_room : (p : PhaseFacts) (draft : Draft) (own : OwnCentral)
    → room_by p own + version_sent (Other draft) ≤ room_by p (unwrap_or (own_draft_sent_by_central draft own) own) + 1
draft_room p VersionInd own =
    let h = room_grows p own _ (version_own own) (version_unsent own) in
    omega (arith, h)
draft_room p other own = let h = room_most p own in omega (arith, h)

pub room_sent : (p : PhaseFacts) (out : Outgoing) (event skips : ℕ) (progress : Progress)
    → request_room p progress + version_sent out
    ≤ request_room p (progress_after_sending out event skips progress) + sent out
room_sent p (Other draft) event skips (central c) = draft_room p draft c.own
room_sent p (Other VersionInd) event skips (peripheral q) = omega arith
room_sent p (Other draft) event skips (peripheral q) = omega arith
room_sent p Nothing event skips progress = omega arith
room_sent p (Rejection rejection) event skips progress = omega arith
room_sent p (Disconnect code) event skips progress = omega arith
