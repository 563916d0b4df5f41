-- The rows of `a_version_is_exchanged` compute.
use Rattle.std.proofs.Common.{◌≡◌, ◌∙◌, List, [], ◌∷◌, ℕ, Some, ap, refl, slice_get, true}
use Rattle.ble_base.specs.declared.notes.Note.{Note}
use Rattle.ble_base.specs.declared.notes.Note.TheVariants.{Took}
use Rattle.ble_base.specs.declared.procedure_kinds.Kind.TheVariants.{Version as version_kind}
use Rattle.ble_base.specs.ChannelMap.{data_channels, used_channels}
use Rattle.chan_select.specs.Channel.{channel_of}
use Rattle.chan_select.specs.PseudoRandom.{mam, perm, prn, reversed_octet, stage}
use Rattle.data_pdu.specs.Reading.{ctrl_of}
use Rattle.data_pdu.specs.Layouts.{makers}
use Rattle.wire_fields.specs.Field.{little_endian}
use Rattle.control_octets.specs.procedures.Beginning.{may_ask_of}
use Rattle.control_octets.specs.procedure_values.declared.asks.Ask.TheVariants.{Version}
use Rattle.link_model.specs.Facts.{Facts}
use Rattle.link_model.specs.Step.{ProcedureAsked}
use Rattle.link_pairs.specs.Rows.{Both, after_event_0, central_host}
use Rattle.link_pairs.proofs.LastAnswers.{facts_by_answer, facts_hearing_last, last_answer, notes_by_answer, notes_hearing_last}
use Rattle.link_pairs.proofs.rows.a_version_is_exchanged.Goals as goal

-- the two events begin so, and LL_VERSION_IND is the answer in the second
abbrev asked : Both
asked = central_host (ProcedureAsked Version) after_event_0

abbrev answer : List ℕ
answer = 0x07 ∷ 0x06 ∷ 0x0C ∷ 0x0B ∷ 0xFF ∷ 0xFF ∷ 0x01 ∷ 0x00 ∷ []

answer_is : last_answer asked ≡ answer
unfolding ctrl_of makers little_endian channel_of mam perm prn reversed_octet stage used_channels data_channels
answer_is = refl

took_it : slice_get (notes_hearing_last asked answer) 5
    ≡ Some (Took 0 1 3 (record { items = 0x0C ∷ 0x0B ∷ 0xFF ∷ 0xFF ∷ 0x01 ∷ 0x00 ∷ [] }))
unfolding ctrl_of makers little_endian channel_of mam perm prn reversed_octet stage used_channels data_channels
took_it = refl

is_done : may_ask_of (facts_hearing_last asked answer).control.table version_kind ≡ true
unfolding ctrl_of makers little_endian channel_of mam perm prn reversed_octet stage used_channels data_channels
is_done = refl

knows_it : (facts_hearing_last asked answer).peer.version ≡ Some (record { version = 0x0B; company = 0xFFFF; sub = 1 })
unfolding ctrl_of makers little_endian channel_of mam perm prn reversed_octet stage used_channels data_channels
knows_it = refl

pub returns-clause-began : goal.returns-clause-began
unfolding ctrl_of makers little_endian channel_of mam perm prn reversed_octet stage used_channels data_channels
returns-clause-began c = refl

pub returns-clause-sent : goal.returns-clause-sent
unfolding ctrl_of makers little_endian channel_of mam perm prn reversed_octet stage used_channels data_channels
returns-clause-sent c = refl

pub returns-clause-entered : goal.returns-clause-entered
unfolding ctrl_of makers little_endian channel_of mam perm prn reversed_octet stage used_channels data_channels
returns-clause-entered c = refl

pub returns-clause-took : goal.returns-clause-took
returns-clause-took c = ap (λ (notes : List Note). slice_get notes 5) (notes_by_answer asked answer answer_is) ∙ took_it

pub returns-clause-done : goal.returns-clause-done
returns-clause-done c = ap (λ (facts : Facts). may_ask_of facts.control.table version_kind) (facts_by_answer asked answer answer_is) ∙ is_done

pub returns-clause-known : goal.returns-clause-known
returns-clause-known c = ap (λ (facts : Facts). facts.peer.version) (facts_by_answer asked answer answer_is) ∙ knows_it

pub returns-clause-answer : goal.returns-clause-answer
unfolding ctrl_of makers little_endian channel_of mam perm prn reversed_octet stage used_channels data_channels
returns-clause-answer c = refl

pub returns-clause-all : goal.returns-clause-all
unfolding ctrl_of makers little_endian channel_of mam perm prn reversed_octet stage used_channels data_channels
returns-clause-all c = refl
