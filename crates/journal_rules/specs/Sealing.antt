-- What a side seals on a link, and with which counter, by the PDUs that it took and sent before: a central from the
-- LL_START_ENC_REQ on that it takes, a peripheral from LL_START_ENC_RSP on, and both up to LL_PAUSE_ENC_RSP (Core 5.2,
-- volume 6 part B, sections 5.1.3.1 and 5.1.3.2, and part E, section 2).
use Rattle.std.specs.Prelude.{◌≡◌, ℕ, ◌&&◌, ◌||◌, Bool, true, false, not, List, [], ◌∷◌, ◌++◌, is_none, length, Option, Some, None, if◌then◌else◌}
use Rattle.std.specs.List.{filter}
use Rattle.ble_base.specs.declared.roles.Role.{Role}
use Rattle.ble_base.specs.declared.roles.Side.{Side}
use Rattle.ccm_link.specs.Ccm.{sealed_payload}
use Rattle.ccm_link.specs.Payload.{additional_data, nonce}
use Rattle.data_pdu.specs.declared.ctrl.CtrlRead.{CtrlRead}
use Rattle.journal.specs.declared.entries.Entry.{Entry}
use Rattle.journal.specs.declared.entries.Entry.TheVariants.{Sent, Took}
use Rattle.journal_events.specs.journal_leaving.journal_controls.LineSteps.{keyed_on, turn_now}
pub use Rattle.journal_events.specs.journal_leaving.journal_controls.journal_ends.Asked.{Words}
use Rattle.journal_events.specs.journal_leaving.journal_controls.journal_links.Begun.{LinkBegun, link_numbered}
use Rattle.journal_events.specs.journal_leaving.journal_controls.journal_links.Changes.{role_on}
use Rattle.journal_events.specs.journal_leaving.journal_controls.link_model.Acknowledgement.{Pdu}
use Rattle.journal_events.specs.journal_leaving.journal_controls.link_model.Controls.{is_procedure_pdu, read_of}
use Rattle.journal_events.specs.journal_leaving.journal_controls.link_model.Data.{is_empty}
use Rattle.journal_events.specs.journal_leaving.journal_controls.link_model.Payload.{payload_made}
use Rattle.journal_events.specs.journal_leaving.journal_controls.link_model.enc_phase.Phases.{is_central}
use Rattle.journal_events.specs.journal_leaving.journal_controls.link_model.enc_phase.declared.classes.PduClass.{PduClass}
use Rattle.journal_events.specs.journal_leaving.journal_controls.link_model.enc_phase.declared.classes.PduClass.TheVariants.{PauseEncRsp, StartEncReq, StartEncRsp}
use Rattle.journal_events.specs.journal_leaving.journal_controls.link_model.enc_phase.declared.facts.Transition.TheVariants.{Confirm, Unlock}
use Rattle.journal_events.specs.journal_leaving.journal_controls.link_model.keyed_control.Keyed.{Keyed}
use Rattle.journal_events.specs.journal_leaving.journal_controls.link_model.phased_control.PhaseChanges.{Change, Moves, Starts, taken_change}
use Rattle.journal_events.specs.journal_leaving.journal_controls.link_model.phased_control.Taken.{class_of_read}
use Rattle.journal_rules.specs.Since.{is_own, last_of, opens_at, since}

-- ---- what a line of a side on a link says

-- a new PDU that is not empty is sent
abbrev pub sends_at : Side → ℕ → Entry → Bool
sends_at side number (Sent other link count llid body) = is_own side number other link
sends_at side number line = false

-- the PDU from which on an end of this role seals, and the one from which on it does not
abbrev pub starts_with : PduClass → Role → Bool
starts_with StartEncReq role = is_central role
starts_with StartEncRsp role = not (is_central role)
starts_with pdu role = false

abbrev pub stops_with : PduClass → Bool
stops_with PauseEncRsp = true
stops_with pdu = false

abbrev pub marks_with : PduClass → Role → Bool
marks_with pdu role = starts_with pdu role || stops_with pdu

abbrev pub class_of_pdu : ℕ → List ℕ → PduClass
class_of_pdu llid body = class_of_read (read_of (record { llid = llid; body = body }))

-- such a PDU is taken
abbrev pub takes_at : (PduClass → Bool) → Side → ℕ → Entry → Bool
takes_at passes side number (Took other link count llid body) =
    is_own side number other link && (is_procedure_pdu (record { llid = llid; body = body }) && passes (class_of_pdu llid body))
takes_at passes side number line = false

abbrev pub starts_at : Role → Side → ℕ → Entry → Bool
starts_at role side number line = takes_at (λ pdu. starts_with pdu role) side number line

abbrev pub marks_at : Role → Side → ℕ → Entry → Bool
marks_at role side number line = takes_at (λ pdu. marks_with pdu role) side number line

-- ---- the rule

-- the lines of these PDUs since the side opened the link
abbrev pub marks_of : Role → Side → ℕ → List Entry → List Entry
marks_of role side number front = filter (marks_at role side number) (since (opens_at side number) front)

abbrev pub starts_in : Role → Side → ℕ → Option Entry → Bool
starts_in role side number None = false
starts_in role side number (Some line) = starts_at role side number line

-- a side seals after these entries where the last of those PDUs is one from which on it seals
unfoldable pub is_sealed : Role → Side → ℕ → List Entry → Bool
is_sealed role side number front = starts_in role side number (last_of (marks_of role side number front))

-- and its counter is how many PDUs it sent since
unfoldable pub sent_since : Role → Side → ℕ → List Entry → ℕ
sent_since role side number front = length (filter (sends_at side number) (since (starts_at role side number) front))

-- the payload of a new PDU with a session: sealed with that counter, or its body
abbrev pub payload_in_words : Role → Side → ℕ → List Entry → (key iv : List ℕ) → Pdu → List ℕ
payload_in_words role side number front key iv pdu =
    if is_empty pdu || not (is_sealed role side number front)
    then pdu.body
    else sealed_payload key (nonce (sent_since role side number front) (is_central role) iv) (additional_data pdu.llid)
    pdu.body

-- ---- the PDUs that count

-- with this change of its phase an end begins or ends to seal
abbrev pub is_mark : Change → Role → Bool
is_mark Starts role = is_central role
is_mark (Moves Confirm) role = not (is_central role)
is_mark (Moves Unlock) role = true
is_mark change role = false

-- a PDU that is taken counts where it changes the phase of its taker, which goes on: one that is ignored, or answered with
-- LL_UNKNOWN_RSP, does not
abbrev pub heeds : Role → ℕ → CtrlRead → Option Keyed → Bool
heeds role slot read None = false
heeds role slot read (Some k) = is_none k.phased.control.ends && is_mark (taken_change read slot k.phased) role

abbrev pub is_heeded : Words → Role → Side → ℕ → List Entry → Entry → Bool
is_heeded words role side number front (Took other link count llid body) =
    heeds role (turn_now front) (read_of (record { llid = llid; body = body })) (keyed_on words side number front)
is_heeded words role side number front line = true

abbrev pub is_ignored : Words → Role → Side → ℕ → List Entry → Entry → Bool
is_ignored words role side number front line =
    marks_at role side number line && not (is_heeded words role side number front line)

-- these lines without those of PDUs that a side ignored
abbrev pub counted_from : Words → Role → Side → ℕ → List Entry → List Entry → List Entry → List Entry
counted_from words role side number front counted [] = counted
counted_from words role side number front counted (line ∷ lines) =
    counted_from words role side number (front ++ line ∷ [])
    (counted ++ (if is_ignored words role side number front line then [] else line ∷ [])) lines

unfoldable pub lines_counted : Words → Role → Side → ℕ → List Entry → List Entry
lines_counted words role side number journal = counted_from words role side number [] [] journal

-- ---- in a journal

-- each new PDU of a side has that payload by the lines that count, where the side has the session that its end has
abbrev pub AllAreSealedInWords : Words → List Entry → Type 0
AllAreSealedInWords words journal = (front rest : List Entry) (side : Side) (number count llid : ℕ) (body : List ℕ)
    (link : LinkBegun) (k : Keyed) → journal ≡ front ++ Sent side number count llid body ∷ rest
    → link_numbered number front ≡ Some link → keyed_on words side number front ≡ Some k
    → payload_made k.end (record { llid = llid; body = body })
    ≡ payload_in_words (role_on link side) side number (lines_counted words (role_on link side) side number front)
    k.end.key k.end.iv (record { llid = llid; body = body })

-- a side ignored none of these PDUs
abbrev pub NoneIsIgnored : Words → Role → Side → ℕ → List Entry → Type 0
NoneIsIgnored words role side number journal = (front rest : List Entry) (line : Entry) → journal ≡ front ++ line ∷ rest
    → is_ignored words role side number front line ≡ false
